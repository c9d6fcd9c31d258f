-- Bytes that were written on the link.
use Rattle.std.proofs.Common.{◌≡◌, ◌≢◌, ℕ, zero, suc, ◌+◌, ◌-◌, ◌^◌, ◌<◌, ◌≤◌, ◌==◌, ◌&&◌, not, Bool, true, false, cond, min, List, [], ◌∷◌, length, Option, Some, None, is_some, IsSome, refl, ap, ap₂, sym, ◌∙◌, subst, arith}
use Rattle.std.specs.Prelude.{⊤}
use Rattle.std.proofs.lemmas.Bool.{false≢true, eqb-true}
use Rattle.std.proofs.lemmas.Bool.Decides.{nat_tests}
use Rattle.std.proofs.lemmas.List.Sums.{sum_by-cons}
use Rattle.std.specs.List.{filter, sum_by, AllByRecursion}
use Rattle.std.specs.FinMap.{get, insert}
use Rattle.hb_base.specs.declared.cause.Cause.TheVariants as cause
use Rattle.hb_conn.specs.Connection.{Connection}
use Rattle.hb_conn.specs.Observed.{outgoing, data_unbegun, frames_begun, wrote}
use Rattle.hb_frames.specs.Numbers.{data_kind, largest}
use Rattle.hb_frames.specs.RawFrame.{RawFrame, spelling}
use Rattle.hb_held.specs.Held.{Resources}
use Rattle.hb_history.specs.Waits.{IsFirstBy}
use Rattle.hb_history.proofs.First.{data_stands_first, NoData}
use Rattle.hb_kept.proofs.Acts.{writes_kept}
use Rattle.hb_map.proofs.Laws.{put_here, put_elsewhere}
use Rattle.hb_outgoing.specs.Selected.{data_size, is_data_of, payload_size, first_data, has_data}
use Rattle.hb_outgoing.specs.Written.{begun_in}
use Rattle.hb_outgoing.specs.declared.unbegun.Unbegun.{Unbegun}
use Rattle.hb_streams.specs.declared.role.Role.TheVariants.{Server}
use Rattle.hb_world.specs.declared.entry.Entry.TheVariants as e
use Rattle.hb_inbound.specs.Calm.{RestsIn}
use Rattle.hb_inbound.specs.Inbound as m
use Rattle.hb_inbound.specs.Inbound.{Inbound, went, went_by}
use Rattle.hb_inbound.specs.Part.{Part, entry, moves, tellings}
use Rattle.hb_inbound.specs.Runs.{Local, Steps, StandsFor}
use Rattle.hb_inbound.specs.Sides.{conn_came, link_went}
use Rattle.hb_inbound.specs.Tunnel as t
use Rattle.hb_inbound.specs.Tunnel.{Tunnel as Machine}
use Rattle.hb_inbound.proofs.Runs.{all_keep}
use Rattle.hb_inbound.proofs.Waiting.{WaitsIn}
use Rattle.hb_inbound.proofs.WaitingRun.{all_wait}
use Rattle.hb_link.specs.declared.link.Link.{Link}
use Rattle.hb_link.specs.declared.phase.Phase.TheVariants.{Serving, Faulted, Closing}
use Rattle.hb_link.specs.declared.tunnel.Tunnel.{Tunnel}
use Rattle.hb_link.specs.Calls.{Enters}
use Rattle.hb_link.specs.Going.{counts_down, counted_for, begun_counted}
use Rattle.hb_link.specs.Noted.{Told}
use Rattle.hb_link.specs.Counting.{uncounted}
use Rattle.hb_link.specs.Reaches.{Reaches}
use Rattle.hb_link.specs.Settling.{IsMarked, LookedIn}
use Rattle.hb_link.specs.Shows.{Shows, ShowsBy}
use Rattle.hb_link.specs.Tunnels.{phase_of, stage_of, as_told, IsSound, ShowsAt, ShowsTunnel}
use Rattle.hb_link.proofs.Moving.{link_with, Map, numbered_at}
use Rattle.hb_link.proofs.Noted.{takes_none}
use Rattle.hb_link.proofs.Writing.{counted_more}

-- HOW MUCH DATA BEGINS

size_by : (s : ℕ) (f : RawFrame) (fs : List RawFrame) (b : Bool)
    → sum_by payload_size (cond b (f ∷ filter (is_data_of (Some s)) fs) (filter (is_data_of (Some s)) fs))
    ≡ cond b (length f.payload) 0 + data_size (Some s) fs
size_by s f fs true = sum_by-cons payload_size f (filter (is_data_of (Some s)) fs)
size_by s f fs false = let same : data_size (Some s) fs ≡ 0 + data_size (Some s) fs = omega arith in same

no_payload : (kind here none : Bool) (n : ℕ) → (n == 0) ≡ none → (kind && not none) ≡ false → cond (kind && here) n 0 ≡ 0
no_payload false here none n test plain = refl
no_payload true false none n test plain = refl
no_payload true true true n test plain = grind (arith, nat_tests, test)
no_payload true true false n test plain = absurd (false≢true (sym plain))

-- of frames that are no DATA with payload nothing counts
none_size : (s m : ℕ) (fs : List RawFrame) → NoData fs → data_size (Some s) (begun_in m fs) ≡ 0
none_size s zero fs none = refl
none_size s (suc m) [] none = refl
none_size s (suc m) (f ∷ fs) none =
    let behind = begun_in (suc m - length (spelling f)) fs in
    let rest = none_size s (suc m - length (spelling f)) fs none.1 in
    let here = no_payload (f.kind == data_kind) (f.stream == s) (length f.payload == 0) (length f.payload) refl none.0 in
    let whole = size_by s f behind (is_data_of (Some s) f) in omega (arith, rest, here, whole)

-- the payload of the first frame with DATA, where it is the stream's
abbrev size_on : ℕ → Option Unbegun → ℕ
size_on s None = 0
size_on s (Some first) = cond (first.stream == s) first.size 0

is_kind : (kind some : Bool) → (kind && some) ≡ true → kind ≡ true
is_kind true some both = refl
is_kind false some both = absurd (false≢true both)

abbrev found_by : Bool → RawFrame → Option Unbegun → Option Unbegun
found_by b f o = cond b (Some (record { stream = f.stream; size = length f.payload })) o

none_found : (fs : List RawFrame) → NoData fs → first_data fs ≡ None
none_found [] none = refl
none_found (f ∷ fs) none = ap (λ (b : Bool). found_by b f (first_data fs)) none.0 ∙ none_found fs none.1

begun_size : (s n : ℕ) (rest : List ℕ) (fs : List RawFrame) → 0 < n → IsFirstBy rest fs
    → data_size (Some s) (begun_in (n - length rest) fs) ≡ size_on s (first_data fs)
begun_size s n rest [] some first = by (n - length rest)
  where
    by : (m : ℕ) → data_size (Some s) (begun_in m []) ≡ 0
    by zero = refl
    by (suc m) = refl
begun_size s n rest (f ∷ fs) some first = by (has_data f) refl
  where
    starts : (m : ℕ) → 0 < m → (f.kind == data_kind) ≡ true
        → data_size (Some s) (begun_in m (f ∷ fs)) ≡ cond (f.stream == s) (length f.payload) 0
    starts zero none kind = absurd (omega (arith, none))
    starts (suc m) more kind =
        let behind = begun_in (suc m - length (spelling f)) fs in
        let later = none_size s (suc m - length (spelling f)) fs first.1 in
        let whole = size_by s f behind (is_data_of (Some s) f) in
        let here = ap (λ (b : Bool). cond (b && f.stream == s) (length f.payload) 0) kind in omega (arith, later, whole, here)

    by : (b : Bool) → has_data f ≡ b
        → data_size (Some s) (begun_in (n - length rest) (f ∷ fs)) ≡ size_on s (found_by b f (first_data fs))
    by true is =
        let none : length rest ≡ 0 = ap length (first.0 is) in
        starts (n - length rest) (omega (arith, none, some)) (is_kind (f.kind == data_kind) _ is)
    by false is =
        none_size s (n - length rest) (f ∷ fs) (is, first.1) ∙ sym (ap (size_on s) (none_found fs first.1))

-- where none waits nothing begins
none_within : (fs : List RawFrame) → AllByRecursion (λ f. has_data f ≡ true → false ≡ true) fs → NoData fs
none_within [] within = tt
none_within (f ∷ fs) within = (by (has_data f) refl, none_within fs within.1)
  where
    by : (b : Bool) → has_data f ≡ b → b ≡ false
    by false is = refl
    by true is = absurd (false≢true (within.0 is))

-- WHAT THE TUNNELS COUNT

abbrev with_down : ℕ → Machine → Machine
with_down n at = record at { went_down = at.went_down + n }

sound_still : (stage : t.Stage) (n : ℕ) (k : Tunnel) → IsSound stage k → IsSound stage (counts_down n k)
sound_still t.due n k sound = sound
sound_still t.opening n k sound = sound
sound_still t.live n k sound = sound
sound_still stage n k sound = tt

shows_more : (stage : t.Stage) (n : ℕ) (k : Tunnel) (at : Machine) → ShowsAt stage k at → ShowsAt stage (counts_down n k) (with_down n at)
shows_more (t.over why) n k at shown = shown
shows_more stage n k at shown = (
  ap (λ (w : ℕ). record (as_told at) { went_down = w }) (counted_more at.went_down n)
      ∙ ap (λ (z : Machine). record z { went_down = min (z.went_down + n) (2 ^ 64 - 1) }) shown.0,
  sound_still stage n k shown.1,
)

none_more : (o : Option Tunnel) (n : ℕ) (at : Machine) → n ≡ 0 → ShowsTunnel o at → ShowsTunnel o (with_down n at)
none_more o n at none shown =
    let same : at.went_down ≡ at.went_down + n = omega (arith, none) in
    subst (λ (w : ℕ). ShowsTunnel o (record at { went_down = w })) same shown

module _ (tunnels : Map) (others : ℕ → Machine) (shown : (s : ℕ) → ShowsTunnel (get tunnels s) (others s)) (s : ℕ) where
  counts_at : (o : Option Tunnel) (i n : ℕ) → get tunnels i ≡ o → (b : Bool) → (i == s) ≡ b
      → ShowsTunnel (get (counted_for i n tunnels o) s) (with_down (cond b n 0) (others s))
  counts_at o i n is false apart = by o is
    where
      differs : s ≢ i
      differs same = false≢true (sym apart ∙ eq_self)
        where
          eq_self : (i == s) ≡ true
          eq_self = grind (arith, nat_tests, same)

      by : (o : Option Tunnel) → get tunnels i ≡ o → ShowsTunnel (get (counted_for i n tunnels o) s) (with_down 0 (others s))
      by None is = none_more (get tunnels s) 0 (others s) refl (shown s)
      by (Some k) is =
          subst (λ (p : Option Tunnel). ShowsTunnel p (with_down 0 (others s))) (sym (put_elsewhere tunnels i (counts_down n k) s differs))
          (none_more (get tunnels s) 0 (others s) refl (shown s))
  counts_at o i n is true same = by o (subst (λ (j : ℕ). get tunnels j ≡ o) (eqb-true i s same) is)
    where
      by : (o : Option Tunnel) → get tunnels s ≡ o → ShowsTunnel (get (counted_for i n tunnels o) s) (with_down n (others s))
      by None none =
          subst (λ (p : Option Tunnel). ShowsTunnel p (with_down n (others s))) (sym none)
          (subst (λ (p : Option Tunnel). ShowsTunnel p (others s)) none (shown s))
      by (Some k) there =
          subst (λ (j : ℕ). ShowsTunnel (get (insert tunnels j (counts_down n k)) s) (with_down n (others s)))
          (sym (eqb-true i s same))
          (subst (λ (p : Option Tunnel). ShowsTunnel p (with_down n (others s))) (sym (put_here tunnels s (counts_down n k)))
          (shows_more (stage_of k.stage) n k (others s)
          (subst (λ (p : Option Tunnel). ShowsTunnel p (others s)) there (shown s))))

  counts_first : (o : Option Unbegun) → ShowsTunnel (get (begun_counted o tunnels) s) (with_down (size_on s o) (others s))
  counts_first None = none_more (get tunnels s) 0 (others s) refl (shown s)
  counts_first (Some first) = counts_at (get tunnels first.stream) first.stream first.size refl (first.stream == s) refl

numbered_first : (tunnels : Map) (o : Option Unbegun) → ((j : ℕ) → IsSome (get tunnels j) → j ≤ largest) → (j : ℕ)
    → IsSome (get (begun_counted o tunnels) j) → j ≤ largest
numbered_first tunnels None each j some = each j some
numbered_first tunnels (Some first) each j some = by (get tunnels first.stream) refl some
  where
    by : (o : Option Tunnel) → get tunnels first.stream ≡ o → IsSome (get (counted_for first.stream first.size tunnels o) j) → j ≤ largest
    by None is some = each j some
    by (Some k) is some = numbered_at tunnels first.stream (counts_down first.size k) each (ap is_some is) j some

-- THE CALL

module _ (k : Link) (bytes : List ℕ) where
  abbrev n : ℕ
  n = length bytes

  abbrev pub gone : Link
  gone = link_with (wrote k.conn n) (begun_counted (data_unbegun k.conn) k.tunnels) k

  -- what the call's own steps make of it
  pub gone_by : (mid : Link) (d : Connection) (i : ℕ) → mid ≡ record k { tunnels = begun_counted (data_unbegun k.conn) k.tunnels }
      → d ≡ wrote mid.conn i → n ≡ i → record mid { conn = d } ≡ gone
  gone_by mid d i counted conn size =
      ap₂ (λ (w : Link) (to : Connection). record w { conn = to }) counted
      (conn ∙ ap₂ (λ (w : Link) (j : ℕ). wrote w.conn j) counted (sym size))

  module _ (start : Resources) (before : List Part) (a b : Local) (stands : StandsFor k.number start a before) (shows : Shows k a.link)
      (step : Steps k.number a (entry (e.Went k.number bytes)) b) where
    abbrev x : Inbound
    x = a.link

    abbrev y : Inbound
    y = went n x

    marks_gone : x.phase ≡ m.serving → IsMarked gone y
    marks_gone serving =
        let way = subst (λ (phase : m.Phase). ShowsBy phase k x) serving shows.way in
        let rest = subst (λ (phase : m.Phase). RestsIn phase x) serving shows.calm.rests in
        let goes_on : y.phase ≡ m.serving = ap went_by serving in
        let first = data_stands_first Server (moves before) (tellings before) (conn_came before) (link_went before) x.conn
        (all_keep k.number start a before stands).one.stands in
        let size : (s : ℕ) → size_on s (data_unbegun k.conn) ≡ data_size (Some s) (frames_begun n x.conn) =
        λ s. sym (begun_size s n (outgoing x.conn).rest (outgoing x.conn).queue step.0.2 first
        ∙ ap (λ (c : Connection). size_on s (data_unbegun c)) way.0) in
        record {
          agrees = record {
            phase = goes_on ∙ sym serving ∙ shows.phase;
            way = subst (λ (phase : m.Phase). ShowsBy phase gone y) (sym goes_on)
                (ap (λ (c : Connection). wrote c n) way.0, writes_kept x.conn n way.1, way.2, way.3);
            tunnels = λ s.
                subst (λ (i : ℕ). ShowsTunnel (get gone.tunnels s) (with_down i (x.tunnels s))) (size s)
                (counts_first k.tunnels x.tunnels shows.tunnels s (data_unbegun k.conn));
            numbered = numbered_first k.tunnels (data_unbegun k.conn) shows.numbered;
          };
          looked = subst (λ (phase : m.Phase). LookedIn phase y) (sym goes_on) rest.0;
        }

    shows_last : (code : ℕ) → k.phase ≡ Faulted code → Shows (record k { phase = Closing (cause.ConnFault code) }) y
    shows_last code is =
        let faulted : x.phase ≡ m.faulted code = shows.phase ∙ ap phase_of is in
        let closes : y.phase ≡ m.closing (cause.ConnFault code) = ap went_by faulted in
        let waits = subst (λ (phase : m.Phase). WaitsIn phase x) faulted (all_wait k.number start a before stands) in
        let none = none_within (outgoing x.conn).queue waits in
        record {
          phase = closes;
          way = subst (λ (phase : m.Phase). ShowsBy phase (record k { phase = Closing (cause.ConnFault code) }) y) (sym closes) tt;
          tunnels = λ s.
              none_more (get k.tunnels s) (data_size (Some s) (frames_begun n x.conn)) (x.tunnels s)
              (none_size s (n - length (outgoing x.conn).rest) (outgoing x.conn).queue none) (shows.tunnels s);
          numbered = shows.numbered;
          calm = record {
            answered = shows.calm.answered;
            rests = subst (λ (phase : m.Phase). RestsIn phase y) (sym closes) tt;
          };
        }

  pub went_marks : k.phase ≡ Serving → (start : Resources) (before : List Part) (a b : Local) → StandsFor k.number start a before
      → Shows k a.link → ⊤ → Steps k.number a (entry (e.Went k.number bytes)) b → (gone.number ≡ k.number) × IsMarked gone b.link
  went_marks is start before a b stands shows _ step = (
    refl,
    subst (λ (z : Local). IsMarked gone z.link) (sym step.1)
        (marks_gone start before a b stands shows step (shows.phase ∙ ap phase_of is)),
  )

  pub went_last : (told : Told) (code : ℕ) → k.phase ≡ Faulted code
      → Enters (e.Went k.number bytes) k told (record k { phase = Closing (cause.ConnFault code) }) told
  went_last told code is start before a b stands shows _ step = (
    refl,
    subst (λ (z : Local). Reaches uncounted k.number z (record k { phase = Closing (cause.ConnFault code) }) told told) (sym step.1)
        (record {
          parts = [];
          reached = record a { link = went n a.link };
          leads = refl;
          shows = shows_last start before a b stands shows step code is;
          noted = takes_none told;
        }),
  )
