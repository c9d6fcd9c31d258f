-- Bytes that come from an upstream.
use Rattle.std.proofs.Common.{◌≡◌, ℕ, ◌+◌, ◌-◌, ◌<◌, ◌≤◌, ◌==◌, ◌&&◌, not, Bool, true, false, cond, min, List, [], ◌∷◌, ◌++◌, length, drop, Some, refl, ap, ap₂, sym, ◌∙◌, subst, arith, length-append, if◌then◌else◌, inr}
use Rattle.std.proofs.lemmas.Bool.{false≢true}
use Rattle.std.proofs.lemmas.Bool.Decides.{nat_tests}
use Rattle.std.proofs.lemmas.List.{nil_from_length}
use Rattle.std.specs.Prelude.{nat_le}
use Rattle.std.specs.FinMap.{get, insert}
use Rattle.hb_conn.specs.Connection.{Connection, core_of}
use Rattle.hb_conn.specs.Observed.{count_put, data_put, own_side_open, end_waits}
use Rattle.hb_conn.specs.Payload as payload
use Rattle.hb_frames.specs.Numbers.{largest}
use Rattle.hb_kept.proofs.Acts.{puts_kept}
use Rattle.hb_kept.proofs.Shut.{put_shuts}
use Rattle.hb_outgoing.specs.Waiting.{octets_of}
use Rattle.hb_tunnel.specs.Tunnel.{down_size}
use Rattle.hb_tunnel.specs.Way.{is_done}
use Rattle.hb_world.specs.declared.entry.Entry.TheVariants as e
use Rattle.hb_inbound.specs.Calm.{data_waits, LiveRests, Rests, RestsBy, up_wants}
use Rattle.hb_inbound.specs.Inbound.{Inbound, at_stream}
use Rattle.hb_inbound.specs.Part.{put}
use Rattle.hb_inbound.specs.Runs.{Local, UpMayCome, with_link, with_tunnel, put_down}
use Rattle.hb_inbound.specs.Tunnel as t
use Rattle.hb_inbound.specs.Tunnel.{Tunnel as Machine, up_entered, is_unanswered, takes_place}
use Rattle.hb_inbound.proofs.Waiting.{speaks}
use Rattle.hb_link.specs.declared.link.Link.{Link}
use Rattle.hb_link.specs.declared.phase.Phase.TheVariants.{Serving}
use Rattle.hb_link.specs.declared.tunnel.Tunnel.{Tunnel}
use Rattle.hb_link.specs.Calls.{UpEnters}
use Rattle.hb_link.specs.Putting.{count_first, conn_first}
use Rattle.hb_link.specs.Counting.{uncounted}
use Rattle.hb_link.specs.Reaches.{Reaches}
use Rattle.hb_link.specs.Shows.{Shows}
use Rattle.hb_link.specs.Tunnels.{tunnel_of, as_told, ShowsTunnel}
use Rattle.hb_link.proofs.Living.{is_serving, Lives, lives, shows_live}
use Rattle.hb_link.proofs.Moving.{link_with, answered_at, at_rest, only_one, only_again, serves_on}
use Rattle.hb_link.proofs.Waits.{put_holds, rests_still}

-- behind bytes of which none could go none can
none_by : (over number : Bool) (n m most : ℕ) → 0 < n → cond over 0 (cond number (min n most) 0) ≡ 0
    → cond over 0 (cond number (min (n + m) most) 0) ≡ 0
none_by true number n m most some none = refl
none_by false true n m most some none = omega (arith, some, none)
none_by false false n m most some none = refl

none_more : (c : Connection) (s : ℕ) (held bytes : List ℕ) → 0 < length held → count_put c s held ≡ 0 → count_put c s (held ++ bytes) ≡ 0
none_more c s held bytes some none =
    let k = core_of c in
    ap (λ n. cond k.over 0 (cond (nat_le s largest && length (octets_of k.out) == 0) (min n (payload.allowed k s)) 0))
    (length-append held bytes)
    ∙ none_by k.over (nat_le s largest && length (octets_of k.out) == 0) (length held) (length bytes) (payload.allowed k s) some none

-- the tunnel, with these bytes waiting on the way down
abbrev pub with_down : List ℕ → Machine → Machine
with_down held x = record x { ways = record x.ways { down = record x.ways.down { held = held } } }

abbrev pub with_down_here : List ℕ → Tunnel → Tunnel
with_down_here held k = record k { ways = record k.ways { down = record k.ways.down { held = held } } }

-- a way on which bytes may come hasn't ended
goes_on : (x : Machine) (n : ℕ) → 0 < n → n ≤ up_wants x → x.ways.down.has_ended ≡ false
goes_on x n some fits = by x.ways.down.has_ended refl
  where
    by : (b : Bool) → x.ways.down.has_ended ≡ b → x.ways.down.has_ended ≡ false
    by false is = is
    by true is =
        let none : up_wants x ≡ 0 = ap (λ b. if b then 0 else down_size - length x.ways.down.held) is in
        absurd (let never : 1 ≤ 0 = omega (arith, none, some, fits) in omega (arith, never))

-- so it isn't done
pub rests_open : (c : Connection) (s : ℕ) (x : Machine) → x.ways.down.has_ended ≡ false → x.owed ≡ 0 → count_put c s x.ways.down.held ≡ 0
    → LiveRests c s x
rests_open c s x open_still owed none =
    let not_done : is_done x.ways.down ≡ false = ap (λ b. b && length x.ways.down.held == 0) open_still in
    record {
      given_back = owed;
      none_goes = none;
      not_ended = ap (λ b. (b && not x.end_put) && not (data_waits c s)) not_done;
      not_done = ap (λ b. ((is_done x.ways.up && b) && x.end_put) && not (end_waits c s)) not_done
          ∙ last_not (is_done x.ways.up) x.end_put (not (end_waits c s));
    }
  where
    last_not : (a p q : Bool) → (((a && false) && p) && q) ≡ false
    last_not true p q = refl
    last_not false p q = refl

left_true : (a b : Bool) → (a && b) ≡ true → a ≡ true
left_true true b both = refl
left_true false b both = absurd (false≢true both)

first_false : (a b : Bool) → b ≡ true → (a && b) ≡ false → a ≡ false
first_false false b yes_b both = refl
first_false true b yes_b both = absurd (false≢true (sym both ∙ yes_b))

module _ (l : ℕ) (a : Local) (k : Link) (shows : Shows k a.link) (s u : ℕ) (bytes : List ℕ) (old : Tunnel)
    (lives : Lives k a.link s old) (may : UpMayCome l s a.link (a.link.tunnels s) (e.Came u bytes)) where
  abbrev x : Inbound
  x = a.link

  abbrev at : Machine
  at = x.tunnels s

  abbrev change : Machine → Machine
  change = up_entered (e.Came u bytes)

  abbrev y : Inbound
  y = at_stream s change x

  live : at.stage ≡ t.live
  live = may.0.1

  told : as_told at ≡ tunnel_of old
  told = lives.found.told

  held_is : at.ways.down.held ≡ old.ways.down.held
  held_is = ap (λ (z : Machine). z.ways.down.held) told

  open_still : at.ways.down.has_ended ≡ false
  open_still = goes_on at (length bytes) may.2 may.3

  not_put : (b : Bool) → at.end_put ≡ b → at.end_put ≡ false
  not_put false is_false = is_false
  not_put true put_there =
      let done = (lives.serves.each s).spent put_there in
      absurd (false≢true (sym (ap (λ b. b && length at.ways.down.held == 0) open_still) ∙ done))

  own : own_side_open x.conn s ≡ true
  own = (lives.serves.each s).own (ap speaks live) (not_put at.end_put refl)

  shows_at : (new : Tunnel) (z : Machine) → new.stage ≡ old.stage → new.up ≡ old.up → as_told z ≡ tunnel_of new → ShowsTunnel (Some new) z
  shows_at new z same same_up eq = shows_live old new z lives.stage lives.has_up same same_up eq

  abbrev here_with : List ℕ → Tunnel
  here_with held = with_down_here held old

  -- none goes
  none_goes : count_put x.conn s (at.ways.down.held ++ bytes) ≡ 0
      → Shows (link_with k.conn (insert k.tunnels s (here_with (old.ways.down.held ++ bytes))) k) y
  none_goes none =
      at_rest k x s (here_with (old.ways.down.held ++ bytes)) change shows lives.there
      (shows_at (here_with (old.ways.down.held ++ bytes)) (change at) refl refl
      (ap (λ (z : Machine). with_down (z.ways.down.held ++ bytes) z) told))
      (ap is_unanswered live)
      (subst (λ (stage : t.Stage). RestsBy stage x.conn s (change at)) (sym live)
      (rests_open x.conn s (change at) open_still lives.rests.given_back none))

  -- some go at once, since none waited
  module _ (none_held : old.ways.down.held ≡ []) (some : 0 < count_put k.conn s bytes) where
    abbrev now : Machine
    now = y.tunnels s

    now_is : now ≡ change at
    now_is = (only_one s change x).this

    held_now : now.ways.down.held ≡ bytes
    held_now = ap (λ (z : Machine). z.ways.down.held) now_is ∙ ap (λ (h : List ℕ). h ++ bytes) (held_is ∙ none_held)

    count_is : count_put x.conn s now.ways.down.held ≡ count_put k.conn s bytes
    count_is = ap₂ (λ (c : Connection) (h : List ℕ). count_put c s h) lives.way.0 held_now

    some_now : 0 < count_put x.conn s now.ways.down.held
    some_now = subst (λ (n : ℕ). 0 < n) (sym count_is) some

    abbrev d : Connection
    d = data_put x.conn s now.ways.down.held

    abbrev next : Machine
    next = put_down x.conn s now

    left_is : next.ways.down.held ≡ old.ways.down.held ++ drop (count_put k.conn s bytes) bytes
    left_is = ap₂ (λ (n : ℕ) (h : List ℕ). drop n h) count_is held_now
        ∙ sym (ap (λ (h : List ℕ). h ++ drop (count_put k.conn s bytes) bytes) none_held)

    next_told : as_told next ≡ tunnel_of (here_with (old.ways.down.held ++ drop (count_put k.conn s bytes) bytes))
    next_told = ap (λ (z : Machine). with_down next.ways.down.held (as_told z)) now_is ∙ ap₂ with_down left_is told

    stage_now : now.stage ≡ t.live
    stage_now = ap (λ (z : Machine). z.stage) now_is ∙ live

    next_rests : Rests d s next
    next_rests = subst (λ (stage : t.Stage). RestsBy stage d s next) (sym stage_now)
        (rests_open d s next (ap (λ (z : Machine). z.ways.down.has_ended) now_is ∙ open_still)
        (ap (λ (z : Machine). z.owed) now_is ∙ lives.rests.given_back)
        (put_shuts x.conn s now.ways.down.held some_now s next.ways.down.held))

    some_goes : Reaches uncounted l (with_link y a)
        (link_with (data_put k.conn s bytes)
        (insert k.tunnels s (here_with (old.ways.down.held ++ drop (count_put k.conn s bytes) bytes))) k) (Some [])
        (Some [])
    some_goes = record {
      parts = put s now.ways.down.held ∷ [];
      reached = with_link (with_tunnel s next d y) a;
      leads = (
        tt,
        tt,
        with_link (with_tunnel s next d y) a,
        ((lives.serving, answered_at x s old change (ap is_unanswered live) shows.calm.answered, stage_now), refl, some_now, refl),
        refl,
      );
      shows = serves_on k x shows s (here_with (old.ways.down.held ++ drop (count_put k.conn s bytes) bytes)) next
          (data_put k.conn s bytes) d
          (at_stream s (λ z. next) y).tunnels lives.serving lives.there
          (only_again s x.tunnels (change at) y (λ z. next) (only_one s change x))
          (shows_at (here_with (old.ways.down.held ++ drop (count_put k.conn s bytes) bytes)) next refl refl next_told)
          (ap is_unanswered stage_now) (ap₂ (λ (c : Connection) (h : List ℕ). data_put c s h) lives.way.0 held_now)
          (puts_kept x.conn s now.ways.down.held lives.way.1) lives.rest.0 next_rests
          (λ j apart. rests_still x.conn d j (x.tunnels j) (put_holds x.conn s now.ways.down.held j) (lives.rest.1 j));
      noted = inr refl;
    }

  -- where none waited as many go as may
  first_by : (b : Bool) → (count_put k.conn s bytes == 0) ≡ b → old.ways.down.held ≡ [] → Reaches uncounted l (with_link y a)
      (link_with (data_put k.conn s bytes)
      (insert k.tunnels s (here_with (old.ways.down.held ++ drop (count_put k.conn s bytes) bytes))) k) (Some []) (Some [])
  first_by false test none_held = some_goes none_held (let n = count_put k.conn s bytes in grind (arith, nat_tests, test))
  first_by true test none_held =
      let none : count_put k.conn s bytes ≡ 0 = grind (arith, nat_tests, test) in
      let same : data_put k.conn s bytes ≡ k.conn = rw test refl in
      let left : count_put x.conn s (at.ways.down.held ++ bytes) ≡ 0 =
      ap₂ (λ (c : Connection) (h : List ℕ). count_put c s (h ++ bytes)) lives.way.0 (held_is ∙ none_held) ∙ none in
      subst (λ (c : Connection). Reaches uncounted l (with_link y a)
      (link_with c (insert k.tunnels s (here_with (old.ways.down.held ++ drop (count_put k.conn s bytes) bytes))) k) (Some []) (Some [])) (sym same)
      (subst (λ (n : ℕ). Reaches uncounted l (with_link y a)
      (link_with k.conn (insert k.tunnels s (here_with (old.ways.down.held ++ drop n bytes))) k) (Some []) (Some [])) (sym none)
      (record { parts = []; reached = with_link y a; leads = refl; shows = none_goes left; noted = inr refl }))

  -- as many as may go at once, the others wait
  goes_by : (g : Bool) → g ≡ ((length old.ways.down.held == 0) && own_side_open k.conn s) → Reaches uncounted l (with_link y a)
      (link_with (conn_first g k.conn s bytes)
      (insert k.tunnels s (here_with (old.ways.down.held ++ drop (count_first g k.conn s bytes) bytes))) k) (Some []) (Some [])
  goes_by true is_g = first_by (count_put k.conn s bytes == 0) refl
      (let left = left_true (length old.ways.down.held == 0) (own_side_open k.conn s) (sym is_g) in
      nil_from_length old.ways.down.held (grind (arith, nat_tests, left)))
  goes_by false is_g =
      let own_here : own_side_open k.conn s ≡ true = subst (λ (c : Connection). own_side_open c s ≡ true) lives.way.0 own in
      let test : (length old.ways.down.held == 0) ≡ false =
      first_false (length old.ways.down.held == 0) (own_side_open k.conn s) own_here (sym is_g) in
      let some : 0 < length old.ways.down.held = grind (arith, nat_tests, test) in
      let held_some : 0 < length at.ways.down.held = subst (λ (h : List ℕ). 0 < length h) (sym held_is) some in
      record {
        parts = [];
        reached = with_link y a;
        leads = refl;
        shows = none_goes (none_more x.conn s at.ways.down.held bytes held_some lives.rests.none_goes);
        noted = inr refl;
      }

pub came : (k : Link) (s u : ℕ) (bytes : List ℕ) (old : Tunnel) (g : Bool) → get k.tunnels s ≡ Some old
    → (k.phase ≡ Serving → g ≡ ((length old.ways.down.held == 0) && own_side_open k.conn s))
    → UpEnters s (e.Came u bytes) k (Some [])
    (link_with (conn_first g k.conn s bytes)
    (insert k.tunnels s (with_down_here (old.ways.down.held ++ drop (count_first g k.conn s bytes) bytes) old)) k) (Some [])
came k s u bytes old g is goes start before a b stands shows _ step =
    let l = lives start before a k s old stands shows is step.0.0.1 in (
      refl,
      subst (λ (z : Local). Reaches uncounted k.number z
          (link_with (conn_first g k.conn s bytes)
          (insert k.tunnels s (with_down_here (old.ways.down.held ++ drop (count_first g k.conn s bytes) bytes) old)) k) (Some []) (Some []))
          (sym step.1)
          (goes_by k.number a k shows s u bytes old l step.0 g (goes (is_serving k.phase (sym shows.phase ∙ l.serving)))),
    )
