-- What may be put of a tunnel that lives, one part after another.
use Rattle.std.proofs.Common.{◌≡◌, ℕ, ◌+◌, ◌<◌, ◌≤◌, ◌==◌, ◌&&◌, ◌||◌, not, Bool, true, false, cond, List, [], ◌∷◌, length, Option, Some, None, is_some, refl, ap, ap₂, sym, ◌∙◌, subst, arith}
use Rattle.std.specs.Prelude.{⊤}
use Rattle.std.proofs.lemmas.Bool.{false≢true, eqb-false, eqb-true}
use Rattle.std.proofs.lemmas.Bool.Decides.{nat_tests}
use Rattle.std.proofs.lemmas.List.{nil_from_length}
use Rattle.std.specs.List.{list_any}
use Rattle.std.specs.FinMap.{get, insert}
use Rattle.hb_base.specs.declared.cause.Cause.TheVariants as cause
use Rattle.hb_base.specs.declared.note.Note.{Note}
use Rattle.hb_base.specs.declared.note.Note.TheVariants as note
use Rattle.hb_conn.specs.Connection.{Connection}
use Rattle.hb_conn.specs.Observed.{outgoing, output, IsLookedAt, count_put, data_put, end_put, own_side_open}
use Rattle.hb_frames.specs.Numbers.{largest}
use Rattle.hb_frames.specs.RawFrame.{RawFrame}
use Rattle.hb_held.specs.Held.{Resources}
use Rattle.hb_history.specs.TakenBack.{has_data_on}
use Rattle.hb_history.specs.Waits.{IsFirst, IsFirstBy}
use Rattle.hb_history.proofs.First.{data_stands_first, NoData}
use Rattle.hb_kept.specs.Kept.{IsKept}
use Rattle.hb_kept.proofs.Acts.{puts_kept, ends_kept}
use Rattle.hb_kept.proofs.Shut.{waiting_shuts, put_shuts, end_stays_shut}
use Rattle.hb_outgoing.specs.declared.head.Head.{Head}
use Rattle.hb_outgoing.specs.Selected as selected
use Rattle.hb_outgoing.specs.Selected.{first_data, has_data}
use Rattle.hb_streams.specs.declared.role.Role.TheVariants.{Server}
use Rattle.hb_tunnel.specs.Way.{after, takes, is_done}
use Rattle.hb_inbound.specs.Calm.{data_waits, is_data_on, may_end, is_done_on, Rests, RestsBy}
use Rattle.hb_inbound.specs.Inbound as m
use Rattle.hb_inbound.specs.Inbound.{Inbound, at_stream}
use Rattle.hb_inbound.specs.Part as part
use Rattle.hb_inbound.specs.Part.{Part, notes, moves, tellings}
use Rattle.hb_inbound.specs.Runs.{Local, Steps, StandsFor, IsLiveOn, with_link, with_tunnel, put_down, end_note}
use Rattle.hb_inbound.specs.Sides.{conn_came, link_went}
use Rattle.hb_inbound.specs.Tunnel as t
use Rattle.hb_inbound.specs.Tunnel.{Tunnel as Machine, is_unanswered, left_with}
use Rattle.hb_inbound.proofs.Runs.{all_keep}
use Rattle.hb_inbound.proofs.Waiting.{Serves, speaks}
use Rattle.hb_link.specs.declared.link.Link.{Link}
use Rattle.hb_link.specs.declared.tunnel.Stage.TheVariants.{Over}
use Rattle.hb_link.specs.declared.tunnel.Tunnel.{Tunnel}
use Rattle.hb_link.specs.Counting.{Places, Counts}
use Rattle.hb_link.specs.Noted.{Told, Takes}
use Rattle.hb_link.specs.Putting.{count_first, conn_first, may_put, bytes_put, conn_bytes, is_unbegun_on, data_seen, may_finish, end_counted, conn_finished, PutsBelow}
use Rattle.hb_link.specs.Reaches.{IsInner, Follows}
use Rattle.hb_link.specs.Settling.{MayPut, LookedIn, SettlesBy}
use Rattle.hb_link.specs.Shows.{ShowsBy}
use Rattle.hb_link.specs.Tunnels.{stage_of, tunnel_of, as_told, ShowsAt, ShowsTunnel}
use Rattle.hb_link.proofs.Living.{serving_waits, shows_live}
use Rattle.hb_link.proofs.Maps.{put_same}
use Rattle.hb_link.proofs.Moving.{link_with, machine_with, Map, Only, only_one, at_only, numbered_at}
use Rattle.hb_link.proofs.Noted.{takes_none}
use Rattle.hb_link.proofs.Opening.{nothing_goes}
use Rattle.hb_link.proofs.Waits.{Holds, put_holds, end_holds, same_holds, rests_still}
use Rattle.hb_map.proofs.Laws.{put_here, put_elsewhere}

-- DATA that waits stands in front
or_none : (b : Bool) → b ≡ (b || false)
or_none true = refl
or_none false = refl

none_unbegun : (s : ℕ) (fs : List RawFrame) → NoData fs
    → (is_unbegun_on s (first_data fs) ≡ false) × (list_any (has_data_on s) fs ≡ false)
none_unbegun s [] none = (refl, refl)
none_unbegun s (f ∷ fs) none =
    let rest = none_unbegun s fs none.1 in (
      ap (λ (b : Bool). is_unbegun_on s (cond b (Some (record { stream = f.stream; size = length f.payload })) (first_data fs))) none.0
          ∙ rest.0,
      ap (λ (b : Bool). (b && f.stream == s) || list_any (has_data_on s) fs) none.0 ∙ rest.1,
    )

unbegun_is : (s : ℕ) (rest : List ℕ) (fs : List RawFrame) → IsFirstBy rest fs
    → is_unbegun_on s (first_data fs) ≡ list_any (has_data_on s) fs
unbegun_is s rest [] first = refl
unbegun_is s rest (f ∷ fs) first = by (has_data f)
  where
    behind : (is_unbegun_on s (first_data fs) ≡ false) × (list_any (has_data_on s) fs ≡ false)
    behind = none_unbegun s fs first.1

    by : (b : Bool) → is_unbegun_on s (cond b (Some (record { stream = f.stream; size = length f.payload })) (first_data fs))
        ≡ ((b && f.stream == s) || list_any (has_data_on s) fs)
    by true = or_none (f.stream == s) ∙ ap (λ (b : Bool). (f.stream == s) || b) (sym behind.1)
    by false = behind.0 ∙ sym behind.1

begun_is : (s : ℕ) (head : Option Head) → selected.data_begun s head ≡ is_data_on s head
begun_is s None = refl
begun_is s (Some head) = refl

seen_is : (c : Connection) (s : ℕ) → IsFirst (outgoing c) → data_seen c s ≡ data_waits c s
seen_is c s first =
    ap₂ (λ (a b : Bool). a || b) (unbegun_is s (outgoing c).rest (outgoing c).queue first) (begun_is s (outgoing c).begun)

-- a tunnel of the code that lives is the machine's
record IsAlive (old : Tunnel) (at : Machine) : Type 0 where
  told : as_told at ≡ tunnel_of old
  live : at.stage ≡ t.live
  has_up : 0 < old.up

alive : (o : Option Tunnel) (old : Tunnel) (at : Machine) → o ≡ Some old → stage_of old.stage ≡ t.live → ShowsTunnel o at → IsAlive old at
alive o old at is stage shown =
    let here : ShowsTunnel (Some old) at = subst (λ (o : Option Tunnel). ShowsTunnel o at) is shown in
    let shows : ShowsAt t.live old at = subst (λ (at_stage : t.Stage). ShowsAt at_stage old at) stage here in
    record { told = shows.0; live = ap (λ (x : Machine). x.stage) shows.0 ∙ stage; has_up = shows.1 }

-- what is known of a link that serves
record Known (k : Link) (x : Inbound) : Type 0 where
  way : ShowsBy m.serving k x
  looked : IsLookedAt x.conn
  serves : Serves x
  first : IsFirst (outgoing x.conn)

known : (start : Resources) (before : List Part) (a : Local) (k : Link) → StandsFor k.number start a before → MayPut k a.link
    → a.link.phase ≡ m.serving → Known k a.link
known start before a k stands may serving = record {
  way = subst (λ (phase : m.Phase). ShowsBy phase k a.link) serving may.agrees.way;
  looked = subst (λ (phase : m.Phase). LookedIn phase a.link) serving may.looked;
  serves = serving_waits k.number start a before stands serving;
  first = data_stands_first Server (moves before) (tellings before) (conn_came before) (link_went before) a.link.conn
      (all_keep k.number start a before stands).one.stands;
}

-- on the way through the tunnels, where this holds of the one on a stream
pub record PutsAt (from : ℕ) (Q : Connection → ℕ → Machine → Type 0) (s : ℕ) (k : Link) (x : Inbound) : Type 0 where
  pub before : PutsBelow from s k x
  pub here : Q x.conn s (x.tunnels s)

-- none of its bytes can go; nor can its end
abbrev pub BytesPut : Connection → ℕ → Machine → Type 0
BytesPut c s at = count_put c s at.ways.down.held ≡ 0

abbrev pub EndPut : Connection → ℕ → Machine → Type 0
EndPut c s at = BytesPut c s at × (may_end c s at ≡ false)

-- the tunnel on the stream changes, and the connection; or neither does
module _ (limits : Option Places) (from : ℕ) (k : Link) (s : ℕ) (old : Tunnel) (is : get k.tunnels s ≡ Some old)
    (Q : Connection → ℕ → Machine → Type 0) (a : Local) (below : PutsBelow from s k a.link) (told : Told) where
  abbrev x : Inbound
  x = a.link

  abbrev LeadsTo : Link → Told → Type 0
  LeadsTo new now = (new.number ≡ k.number) × Follows (Counts limits) (PutsAt from Q s) k.number a new told now

  module _ (knows : Known k x) (new : Tunnel) (c d : Connection) (next : Machine) (tunnels : ℕ → Machine) where
    puts_below : Only s x.tunnels next tunnels → ShowsTunnel (Some new) next → is_unanswered next.stage ≡ false → d ≡ c → IsKept d
        → IsLookedAt d → ((j : ℕ) → (j == s) ≡ false → Holds x.conn d j)
        → PutsBelow from s (link_with c (insert k.tunnels s new) k) (machine_with d tunnels x)
    puts_below only shown answered conn kept looked holds = record {
      may = record {
        agrees = record {
          phase = below.may.agrees.phase;
          way = subst (λ (phase : m.Phase). ShowsBy phase (link_with c (insert k.tunnels s new) k) (machine_with d tunnels x))
              (sym below.serves) (conn, kept, knows.way.2, knows.way.3);
          tunnels = at_only s x.tunnels next tunnels (λ j at. ShowsTunnel (get (insert k.tunnels s new) j) at) only
              (subst (λ (o : Option Tunnel). ShowsTunnel o next) (sym (put_here k.tunnels s new)) shown)
              (λ j apart.
              subst (λ (o : Option Tunnel). ShowsTunnel o (x.tunnels j)) (sym (put_elsewhere k.tunnels s new j (eqb-false j s apart)))
              (below.may.agrees.tunnels j));
          numbered = numbered_at k.tunnels s new below.may.agrees.numbered (ap is_some is);
        };
        answered = at_only s x.tunnels next tunnels (λ j at. is_unanswered at.stage ≡ false) only answered
            (λ j apart. below.may.answered j);
        looked = subst (λ (phase : m.Phase). LookedIn phase (machine_with d tunnels x)) (sym below.serves) looked;
      };
      serves = below.serves;
      below = λ j low less.
          let apart : (j == s) ≡ false = grind (arith, nat_tests, less) in
          subst (Rests d j) (sym (only.others j apart)) (rests_still x.conn d j (x.tunnels j) (holds j apart) (below.below j low less));
    }

    one_part : (p : Part) (now : Told) → Takes told (notes (p ∷ [])) now → IsInner p → Counts limits a p
        → Steps k.number a p (with_link (machine_with d tunnels x) a) → Only s x.tunnels next tunnels → ShowsTunnel (Some new) next
        → is_unanswered next.stage ≡ false → d ≡ c → IsKept d → IsLookedAt d → ((j : ℕ) → (j == s) ≡ false → Holds x.conn d j)
        → Q d s next → LeadsTo (link_with c (insert k.tunnels s new) k) now
    one_part p now took inner counts step only shown answered conn kept looked holds here = (
      refl,
      record {
        parts = p ∷ [];
        reached = with_link (machine_with d tunnels x) a;
        leads = (inner, counts, with_link (machine_with d tunnels x) a, step, refl);
        shows = record {
          before = puts_below only shown answered conn kept looked holds;
          here = subst (Q d s) (sym only.this) here;
        };
        noted = took;
      },
    )

  no_part : (new : Tunnel) (c : Connection) → new ≡ old → c ≡ k.conn → Q x.conn s (x.tunnels s)
      → LeadsTo (link_with c (insert k.tunnels s new) k) told
  no_part new c same conn here =
      let link : link_with c (insert k.tunnels s new) k ≡ k =
      ap₂ (λ (d : Connection) (w : Tunnel). link_with d (insert k.tunnels s w) k) conn same
      ∙ ap (λ (tunnels : Map). link_with k.conn tunnels k) (put_same k.tunnels s old is) in
      subst (λ (n : Link). LeadsTo n told) (sym link) (
        refl,
        record {
          parts = [];
          reached = a;
          leads = refl;
          shows = record { before = below; here = here };
          noted = takes_none told;
        },
      )

-- with the tunnel on the stream at rest
pub rests_below : (from s : ℕ) (k : Link) (x : Inbound) → PutsBelow from s k x → Rests x.conn s (x.tunnels s) → PutsBelow from (s + 1) k x
rests_below from s k x below here = record {
  may = below.may;
  serves = below.serves;
  below = λ j low less. by j low less (j == s) refl;
}
  where
    by : (j : ℕ) → from ≤ j → j < s + 1 → (b : Bool) → (j == s) ≡ b → Rests x.conn j (x.tunnels j)
    by j low less true same = subst (λ (i : ℕ). Rests x.conn i (x.tunnels i)) (sym (eqb-true j s same)) here
    by j low less false apart = below.below j low (grind (arith, nat_tests, less, apart))

-- a number of the bytes that wait are taken
abbrev taken : ℕ → Machine → Machine
taken n at = record at { ways = record at.ways { down = after at.ways.down (takes n) } }

abbrev taken_here : ℕ → Tunnel → Tunnel
taken_here n k = record k { ways = record k.ways { down = after k.ways.down (takes n) } }

module _ (limits : Option Places) (from : ℕ) (k : Link) (s : ℕ) (old : Tunnel) (is : get k.tunnels s ≡ Some old)
    (stage : stage_of old.stage ≡ t.live) where
  abbrev lives_at : (x : Inbound) → PutsBelow from s k x → IsAlive old (x.tunnels s)
  lives_at x below = alive (get k.tunnels s) old (x.tunnels s) is stage (below.may.agrees.tunnels s)

  number : (x : Inbound) → PutsBelow from s k x → s ≤ largest
  number x below = below.may.agrees.numbered s (ap is_some is)

  is_live_on : (x : Inbound) (below : PutsBelow from s k x) → IsLiveOn s x
  is_live_on x below = (below.serves, below.may.answered, (lives_at x below).live)

  -- this end's side is open, unless the end was put, behind all bytes
  own_open : (x : Inbound) → PutsBelow from s k x → Known k x → (x.tunnels s).end_put ≡ false → own_side_open k.conn s ≡ true
  own_open x below knows open_still =
      subst (λ (c : Connection). own_side_open c s ≡ true) knows.way.0
      ((knows.serves.each s).own (ap speaks (lives_at x below).live) open_still)

  none_held : (x : Inbound) → Known k x → (x.tunnels s).end_put ≡ true → (x.tunnels s).ways.down.held ≡ []
  none_held x knows put = by (x.tunnels s).ways.down.has_ended ((knows.serves.each s).spent put)
    where
      by : (b : Bool) → (b && length (x.tunnels s).ways.down.held == 0) ≡ true → (x.tunnels s).ways.down.held ≡ []
      by false done = absurd (false≢true done)
      by true done = nil_from_length (x.tunnels s).ways.down.held (grind (arith, nat_tests, done))

  -- where DATA may not go none goes
  none_shut : (x : Inbound) → PutsBelow from s k x → Known k x → may_put k.conn s ≡ false
      → count_put x.conn s (x.tunnels s).ways.down.held ≡ 0
  none_shut x below knows shut = by (length (output k.conn) == 0) refl shut
    where
      held : List ℕ
      held = (x.tunnels s).ways.down.held

      by_end : (b : Bool) → (x.tunnels s).end_put ≡ b → own_side_open k.conn s ≡ false → count_put x.conn s held ≡ 0
      by_end true put own = ap (count_put x.conn s) (none_held x knows put) ∙ nothing_goes x.conn s
      by_end false open_still own = absurd (false≢true (sym own ∙ own_open x below knows open_still))

      by : (b : Bool) → (length (output k.conn) == 0) ≡ b → (b && own_side_open k.conn s) ≡ false → count_put x.conn s held ≡ 0
      by true none own = by_end (x.tunnels s).end_put refl own
      by false some own =
          let waits : 0 < length (output k.conn) = grind (arith, nat_tests, some) in
          waiting_shuts x.conn (subst (λ (c : Connection). 0 < length (output c)) (sym knows.way.0) waits) s held

  abbrev held_here : List ℕ
  held_here = old.ways.down.held

  module _ (a : Local) (below : PutsBelow from s k a.link) (knows : Known k a.link) (told : Told) where
    abbrev at : Machine
    at = a.link.tunnels s

    lives : IsAlive old at
    lives = lives_at a.link below

    held_is : at.ways.down.held ≡ held_here
    held_is = ap (λ (x : Machine). x.ways.down.held) lives.told

    count_is : count_put a.link.conn s at.ways.down.held ≡ count_put k.conn s held_here
    count_is = ap₂ (λ (c : Connection) (bytes : List ℕ). count_put c s bytes) knows.way.0 held_is

    abbrev BytesTo : Connection → ℕ → Type 0
    BytesTo c n =
        (k.number ≡ k.number)
        × Follows (Counts limits) (PutsAt from BytesPut s) k.number a (link_with c (insert k.tunnels s (taken_here n old)) k)
        told told

    bytes_none : (c : Connection) (n : ℕ) → n ≡ 0 → c ≡ k.conn → BytesPut a.link.conn s at → BytesTo c n
    bytes_none c n none conn here =
        no_part limits from k s old is BytesPut a below told (taken_here n old) c (ap (λ (i : ℕ). taken_here i old) none) conn here

    bytes_some : 0 < count_put k.conn s held_here → BytesTo (data_put k.conn s held_here) (count_put k.conn s held_here)
    bytes_some some =
        let n = count_put a.link.conn s at.ways.down.held in
        let some_here : 0 < n = subst (λ (i : ℕ). 0 < i) (sym count_is) some in
        let next = put_down a.link.conn s at in
        let d = data_put a.link.conn s at.ways.down.held in
        let next_told : as_told next ≡ tunnel_of (taken_here (count_put k.conn s held_here) old) =
        ap (λ (i : ℕ). taken i (as_told at)) count_is ∙ ap (taken (count_put k.conn s held_here)) lives.told in
        one_part limits from k s old is BytesPut a below told knows (taken_here (count_put k.conn s held_here) old)
        (data_put k.conn s held_here) d next
        (with_tunnel s next d a.link).tunnels (part.put s at.ways.down.held) told (takes_none told) tt tt
        (is_live_on a.link below, refl, some_here, refl) (only_one s (λ old. next) a.link)
        (shows_live old (taken_here (count_put k.conn s held_here) old) next stage lives.has_up refl refl next_told)
        (ap is_unanswered lives.live) (ap₂ (λ (c : Connection) (bytes : List ℕ). data_put c s bytes) knows.way.0 held_is)
        (puts_kept a.link.conn s at.ways.down.held knows.way.1) knows.looked
        (λ j apart. put_holds a.link.conn s at.ways.down.held j)
        (put_shuts a.link.conn s at.ways.down.held some_here s next.ways.down.held)

    bytes_open : (b : Bool) → (count_put k.conn s held_here == 0) ≡ b
        → BytesTo (data_put k.conn s held_here) (count_put k.conn s held_here)
    bytes_open false test = bytes_some (let n = count_put k.conn s held_here in grind (arith, nat_tests, test))
    bytes_open true test =
        let none : count_put k.conn s held_here ≡ 0 = grind (arith, nat_tests, test) in
        bytes_none (data_put k.conn s held_here) (count_put k.conn s held_here) none (rw test refl) (count_is ∙ none)

    bytes_by : (b : Bool) → may_put k.conn s ≡ b → BytesTo (conn_first b k.conn s held_here) (count_first b k.conn s held_here)
    bytes_by true may = bytes_open (count_put k.conn s held_here == 0) refl
    bytes_by false shut = bytes_none k.conn 0 refl refl (none_shut a.link below knows shut)

  pub bytes_settles : (told : Told)
      → SettlesBy limits (λ held. ⊤) (PutsBelow from s) (PutsAt from BytesPut s) k told
      (link_with (conn_bytes k.conn s old) (insert k.tunnels s (bytes_put k.conn s old)) k) told
  bytes_settles told start before a stands holds below =
      bytes_by a below (known start before a k stands below.may below.serves) told (may_put k.conn s) refl

  -- the end
  same_end : (ended put own waits seen : Bool) → seen ≡ waits → (put ≡ false → own ≡ true)
      → ((ended && not put) && not waits) ≡ (((ended && not put) && own) && not seen)
  same_end false put own waits seen same open_still = refl
  same_end true true own waits seen same open_still = refl
  same_end true false own waits seen same open_still =
      ap not (sym same) ∙ sym (ap (λ (b : Bool). b && not seen) (open_still refl))

  module _ (a : Local) (below : PutsBelow from s k a.link) (knows : Known k a.link) (told : Told)
      (none : BytesPut a.link.conn s (a.link.tunnels s)) where
    abbrev ending : Machine
    ending = a.link.tunnels s

    ending_lives : IsAlive old ending
    ending_lives = lives_at a.link below

    may_is : may_end a.link.conn s ending ≡ may_finish k.conn s old
    may_is =
        ap₂ (λ (c : Connection) (at : Machine). may_end c s at) knows.way.0 ending_lives.told
        ∙ same_end (is_done old.ways.down) old.end_put (own_side_open k.conn s) (data_waits k.conn s) (data_seen k.conn s)
        (seen_is k.conn s (subst (λ (c : Connection). IsFirst (outgoing c)) knows.way.0 knows.first))
        (λ open_still. own_open a.link below knows (ap (λ (at : Machine). at.end_put) ending_lives.told ∙ open_still))

    abbrev EndTo : Connection → Tunnel → Type 0
    EndTo c new =
        (k.number ≡ k.number)
        × Follows (Counts limits) (PutsAt from EndPut s) k.number a (link_with c (insert k.tunnels s new) k) told told

    end_some : may_finish k.conn s old ≡ true → EndTo (end_put k.conn s) (record old { end_put = true })
    end_some may =
        let next : Machine = record ending { end_put = true } in
        let d = end_put a.link.conn s in
        one_part limits from k s old is EndPut a below told knows (record old { end_put = true }) (end_put k.conn s) d next
        (with_tunnel s next d a.link).tunnels (part.finished s) told (takes_none told) tt tt
        (is_live_on a.link below, may_is ∙ may, refl) (only_one s (λ old. next) a.link)
        (shows_live old (record old { end_put = true }) next stage ending_lives.has_up refl refl
        (ap (λ (at : Machine). record at { end_put = true }) ending_lives.told))
        (ap is_unanswered ending_lives.live) (ap (λ (c : Connection). end_put c s) knows.way.0)
        (ends_kept a.link.conn s (number a.link below) knows.way.1) knows.looked
        (λ j apart. end_holds a.link.conn s j (eqb-false j s apart))
        (end_stays_shut s a.link.conn s ending.ways.down.held none, put_ended (is_done ending.ways.down) (data_waits d s))
      where
        put_ended : (ended waits : Bool) → ((ended && false) && not waits) ≡ false
        put_ended false waits = refl
        put_ended true waits = refl

    end_by : (b : Bool) → may_finish k.conn s old ≡ b
        → EndTo (cond b (end_put k.conn s) k.conn) (cond b (record old { end_put = true }) old)
    end_by true may = end_some may
    end_by false never = no_part limits from k s old is EndPut a below told old k.conn refl refl (none, may_is ∙ never)

  pub end_settles : (told : Told)
      → SettlesBy limits (λ held. ⊤) (PutsAt from BytesPut s) (PutsAt from EndPut s) k told
      (link_with (conn_finished k.conn s old) (insert k.tunnels s (end_counted k.conn s old)) k) told
  end_settles told start before a stands holds at =
      end_by a at.before (known start before a k stands at.before.may at.before.serves) told at.here (may_finish k.conn s old) refl

  -- both sides ended, and all went through; or not yet
  pub rests_on : is_done_on k.conn s (tunnel_of old) ≡ false → (x : Inbound) → PutsAt from EndPut s k x → PutsBelow from (s + 1) k x
  rests_on open_still x at =
      let lives = lives_at x at.before in
      let way = subst (λ (phase : m.Phase). ShowsBy phase k x) at.before.serves at.before.may.agrees.way in
      rests_below from s k x at.before
      (subst (λ (at_stage : t.Stage). RestsBy at_stage x.conn s (x.tunnels s)) (sym lives.live) (record {
        given_back = ap (λ (y : Machine). y.owed) lives.told;
        none_goes = at.here.0;
        not_ended = at.here.1;
        not_done = ap₂ (λ (c : Connection) (y : Machine). is_done_on c s y) way.0 lives.told ∙ open_still;
      }))

  abbrev pub over_here : Tunnel
  over_here = record old { stage = Over cause.Done }

  pub done_settles : (told later : Told) → Takes told (note.End k.number s cause.Done old.went_up old.went_down ∷ []) later
      → is_done_on k.conn s (tunnel_of old) ≡ true
      → SettlesBy limits (λ held. ⊤) (PutsAt from EndPut s) (PutsAt from Rests s) k told
      (link_with k.conn (insert k.tunnels s over_here) k) later
  done_settles told later took all_done start before a stands holds at =
      let lives = lives_at a.link at.before in
      let knows = known start before a k stands at.before.may at.before.serves in
      let now = a.link.tunnels s in
      let last = at_stream s (left_with cause.Done) a.link in
      let test : (now.up == 0) ≡ false =
      let up_is = ap (λ (y : Machine). y.up) lives.told in let some = lives.has_up in grind (arith, nat_tests, up_is, some) in
      let over : (left_with cause.Done now).stage ≡ t.over cause.Done = ap (λ (b : Bool). cond b t.gone (t.over cause.Done)) test in
      let made : Note = note.End k.number s cause.Done old.went_up old.went_down in
      let made_is : made ≡ end_note k.number s cause.Done now =
      sym (ap₂ (λ (i j : ℕ). note.End k.number s cause.Done i j) (ap (λ (y : Machine). y.went_up) lives.told)
      (ap (λ (y : Machine). y.went_down) lives.told)) in
      one_part limits from k s old is Rests a at.before told knows over_here k.conn a.link.conn (left_with cause.Done now)
      last.tunnels (part.done s made) later took tt tt (
        is_live_on a.link at.before,
        ap₂ (λ (c : Connection) (y : Machine). is_done_on c s y) knows.way.0 lives.told ∙ all_done,
        made_is,
        refl,
      )
      (only_one s (left_with cause.Done) a.link) (over, ap (λ (y : Machine). y.up) lives.told) (ap is_unanswered over) knows.way.0
      knows.way.1
      knows.looked (λ j apart. same_holds a.link.conn j)
      (subst (λ (at_stage : t.Stage). RestsBy at_stage a.link.conn s (left_with cause.Done now)) (sym over) tt)
