-- Tunnels of whose upstreams no more may be read behind a change, nor is more to be written.
use Rattle.std.proofs.Common.{◌≡◌, inl, inr, ◌==◌, ◌-◌, ℕ, zero, suc, Bool, true, false, cond, List, [], ◌++◌, drop, length, Option, Some, None, refl, ap, sym, subst, arith, length-append}
use Rattle.std.proofs.lemmas.Bool.{cases_eq}
use Rattle.std.specs.FinMap.{get, insert, remove}
use Rattle.std.specs.Option.{option_map}
use Rattle.hb_base.specs.declared.cause.Cause.{Cause}
use Rattle.hb_conn.specs.Connection.{Connection}
use Rattle.hb_map.proofs.Laws.{put_here, put_elsewhere, removed_here, removed_elsewhere}
use Rattle.hb_outgoing.specs.declared.unbegun.Unbegun.{Unbegun}
use Rattle.hb_table.specs.declared.judgement.Judged.{Judged}
use Rattle.hb_table.specs.declared.judgement.Judged.TheVariants.{Admitted}
use Rattle.hb_tunnel.specs.Tunnel.{down_size}
use Rattle.hb_tunnel.specs.Way.{Way, after, pushes, takes}
use Rattle.hb_link.specs.declared.tunnel.Stage.{Stage}
use Rattle.hb_link.specs.declared.tunnel.Stage.TheVariants.{Due, Opening, Live, Failed, Ended, Over}
use Rattle.hb_link.specs.declared.tunnel.Tunnel.{Tunnel}
use Rattle.hb_link.specs.Answering.{left_of}
use Rattle.hb_link.specs.Going.{counts_down, counted_for, begun_counted}
use Rattle.hb_link.specs.Looking.{changed_by, changed_at, up_ended_here, over_for, left_at}
use Rattle.hb_link.specs.Marking.{ended_stage, ended_tunnel, kept_by, down_ended_tunnel}
use Rattle.hb_link.specs.Observed.{wants_of_up, held_of_up, up_wants_in, up_held_in}
use Rattle.hb_link.specs.Putting.{may_finish, count_here, bytes_put, end_counted}
use Rattle.hb_link.proofs.Moving.{Map}

-- no more may be read of its upstream, nor is to be written, where nothing was before
pub record Quiet (o p : Option Tunnel) : Type 0 where
  pub reads : up_wants_in o ≡ 0 → up_wants_in p ≡ 0
  pub writes : up_held_in o ≡ [] → up_held_in p ≡ []

pub quiet_same : (o : Option Tunnel) → Quiet o o
quiet_same o = record { reads = λ was. was; writes = λ was. was }

pub quiet_is : (o p : Option Tunnel) → p ≡ o → Quiet o p
quiet_is o p is = subst (λ (q : Option Tunnel). Quiet o q) (sym is) (quiet_same o)

-- nothing is
pub quiet_none : (o : Option Tunnel) → Quiet o None
quiet_none o = record { reads = λ was. refl; writes = λ was. refl }

pub quiet_by : (o : Option Tunnel) (n : Tunnel) → wants_of_up n ≡ 0 → held_of_up n ≡ [] → Quiet o (Some n)
quiet_by o n wants held = record { reads = λ was. wants; writes = λ was. held }

-- where another one stands on the stream it is quiet, and on all others
pub put_quiet : (tunnels : Map) (s : ℕ) (new : Tunnel) → Quiet (get tunnels s) (Some new) → (j : ℕ)
    → Quiet (get tunnels j) (get (insert tunnels s new) j)
put_quiet tunnels s new quiet j = elim (cases_eq j s) [
  | inl same ↦ subst (λ (i : ℕ). Quiet (get tunnels i) (get (insert tunnels s new) i)) (sym same)
      (subst (λ (o : Option Tunnel). Quiet (get tunnels s) o) (sym (put_here tunnels s new)) quiet)
  | inr apart ↦ quiet_is (get tunnels j) (get (insert tunnels s new) j) (put_elsewhere tunnels s new j apart)
]

pub removed_quiet : (tunnels : Map) (s j : ℕ) → Quiet (get tunnels j) (get (remove tunnels s) j)
removed_quiet tunnels s j = elim (cases_eq j s) [
  | inl same ↦ subst (λ (i : ℕ). Quiet (get tunnels i) (get (remove tunnels s) i)) (sym same)
      (subst (λ (o : Option Tunnel). Quiet (get tunnels s) o) (sym (removed_here tunnels s)) (quiet_none (get tunnels s)))
  | inr apart ↦ quiet_is (get tunnels j) (get (remove tunnels s) j) (removed_elsewhere tunnels s j apart)
]

-- the one that is found changes
pub changed_quiet : (tunnels : Map) (s : ℕ) (change : Tunnel → Tunnel) → ((k : Tunnel) → Quiet (Some k) (Some (change k))) → (j : ℕ)
    → Quiet (get tunnels j) (get (changed_at s change tunnels) j)
changed_quiet tunnels s change quiet j = by (get tunnels s) refl
  where
    by : (o : Option Tunnel) → get tunnels s ≡ o → Quiet (get tunnels j) (get (changed_by o s change tunnels) j)
    by None is = quiet_same (get tunnels j)
    by (Some k) is =
        put_quiet tunnels s (change k) (subst (λ (o : Option Tunnel). Quiet o (Some (change k))) (sym is) (quiet k)) j

-- it is left: its upstream is to be closed, or nothing is left of it
pub left_quiet : (k : Tunnel) (why : Cause) (tunnels : Map) (s j : ℕ) → Quiet (get tunnels j) (get (left_of k why tunnels s) j)
left_quiet k why tunnels s j = by (k.up == 0)
  where
    by : (b : Bool)
        → Quiet (get tunnels j) (get (cond b (remove tunnels s) (insert tunnels s (record k { stage = Over why }))) j)
    by true = removed_quiet tunnels s j
    by false = put_quiet tunnels s (record k { stage = Over why }) (quiet_by (get tunnels s) (record k { stage = Over why }) refl refl) j

pub over_quiet : (s : ℕ) (why : Cause) (up : ℕ) (tunnels : Map) (j : ℕ) → Quiet (get tunnels j) (get (left_at s why up tunnels) j)
over_quiet s why up tunnels j = by (up == 0)
  where
    by : (b : Bool) → Quiet (get tunnels j) (get (cond b (remove tunnels s) (changed_at s (over_for why) tunnels)) j)
    by true = removed_quiet tunnels s j
    by false = changed_quiet tunnels s (over_for why) (λ k. quiet_by (Some k) (over_for why k) refl refl) j

-- it ends for a cause, or its upstream sends no more
ended_wants : (why : Cause) (stage : Stage) (k : Tunnel) → wants_of_up (record k { stage = ended_stage why stage }) ≡ 0
ended_wants why Due k = refl
ended_wants why Opening k = refl
ended_wants why Live k = refl
ended_wants why (Failed other) k = refl
ended_wants why (Ended other) k = refl
ended_wants why (Over other) k = refl

ended_holds : (why : Cause) (stage : Stage) (k : Tunnel) → held_of_up (record k { stage = ended_stage why stage }) ≡ []
ended_holds why Due k = refl
ended_holds why Opening k = refl
ended_holds why Live k = refl
ended_holds why (Failed other) k = refl
ended_holds why (Ended other) k = refl
ended_holds why (Over other) k = refl

pub ended_quiet : (why : Cause) (k : Tunnel) → Quiet (Some k) (Some (ended_tunnel why k))
ended_quiet why k = quiet_by (Some k) (ended_tunnel why k) (ended_wants why k.stage k) (ended_holds why k.stage k)

pub judged_quiet : (j : Judged) (k : Tunnel) → Quiet (Some k) (Some (kept_by j k))
judged_quiet Admitted k = quiet_same (Some k)
judged_quiet _ k = ended_quiet _ k

pub mapped_quiet : (change : Tunnel → Tunnel) → ((k : Tunnel) → Quiet (Some k) (Some (change k))) → (o : Option Tunnel)
    → Quiet o (option_map change o)
mapped_quiet change quiet None = quiet_none None
mapped_quiet change quiet (Some k) = quiet k

-- by stages of which nothing is told
wants_by : (stage : Stage) (k n : Tunnel) → (wants_of_up (record k { stage = Live }) ≡ 0 → wants_of_up (record n { stage = Live }) ≡ 0)
    → wants_of_up (record k { stage = stage }) ≡ 0 → wants_of_up (record n { stage = stage }) ≡ 0
wants_by Due k n live was = refl
wants_by Opening k n live was = refl
wants_by Live k n live was = live was
wants_by (Failed why) k n live was = refl
wants_by (Ended why) k n live was = refl
wants_by (Over why) k n live was = refl

holds_by : (stage : Stage) (k n : Tunnel) → (k.ways.up.held ≡ [] → n.ways.up.held ≡ [])
    → held_of_up (record k { stage = stage }) ≡ [] → held_of_up (record n { stage = stage }) ≡ []
holds_by Due k n live was = refl
holds_by Opening k n live was = refl
holds_by Live k n live was = live was
holds_by (Failed why) k n live was = refl
holds_by (Ended why) k n live was = refl
holds_by (Over why) k n live was = refl

-- how much a way has room for, until it has ended
abbrev room_of : Way → ℕ
room_of w = cond w.has_ended 0 (down_size - length w.held)

-- a tunnel at the same stage with other ways
pub ways_quiet : (k n : Tunnel) → n.stage ≡ k.stage → (room_of k.ways.down ≡ 0 → room_of n.ways.down ≡ 0)
    → (k.ways.up.held ≡ [] → n.ways.up.held ≡ []) → Quiet (Some k) (Some n)
ways_quiet k n stage reads writes = record {
  reads = λ was.
      subst (λ (at : Stage). wants_of_up (record n { stage = at }) ≡ 0) (sym stage) (wants_by k.stage k n reads was);
  writes = λ was.
      subst (λ (at : Stage). held_of_up (record n { stage = at }) ≡ []) (sym stage) (holds_by k.stage k n writes was);
}

pub down_ended_quiet : (k : Tunnel) → Quiet (Some k) (Some (down_ended_tunnel k))
down_ended_quiet k = ways_quiet k (down_ended_tunnel k) refl (λ was. refl) (λ was. was)

pub up_ended_quiet : (k : Tunnel) → Quiet (Some k) (Some (up_ended_here k))
up_ended_quiet k = ways_quiet k (up_ended_here k) refl (λ was. was) (λ was. was)

-- bytes came of its upstream
less_room : (ended : Bool) (held bytes : List ℕ) → cond ended 0 (down_size - length held) ≡ 0
    → cond ended 0 (down_size - length (held ++ bytes)) ≡ 0
less_room true held bytes was = refl
less_room false held bytes was = let all = length-append held bytes in omega (arith, was, all)

pub came_quiet : (k : Tunnel) (bytes : List ℕ)
    → Quiet (Some k) (Some (record k { ways = record k.ways { down = after k.ways.down (pushes bytes) } }))
came_quiet k bytes =
    ways_quiet k (record k { ways = record k.ways { down = after k.ways.down (pushes bytes) } }) refl
    (less_room k.ways.down.has_ended k.ways.down.held bytes) (λ was. was)

-- bytes were written to it
none_dropped : (n : ℕ) (held : List ℕ) → held ≡ [] → drop n held ≡ []
none_dropped zero held none = none
none_dropped (suc n) held none = ap (drop (suc n)) none

pub wrote_quiet : (k : Tunnel) (n went : ℕ)
    → Quiet (Some k) (Some (record k { ways = record k.ways { up = after k.ways.up (takes n) }; went_up = went }))
wrote_quiet k n went =
    ways_quiet k (record k { ways = record k.ways { up = after k.ways.up (takes n) }; went_up = went }) refl (λ was. was)
    (none_dropped n k.ways.up.held)

-- none of its bytes is put, nor more than its end
same_room : (n : ℕ) (ended : Bool) (held : List ℕ) → n ≡ 0 → cond ended 0 (down_size - length held) ≡ 0
    → cond ended 0 (down_size - length (drop n held)) ≡ 0
same_room zero ended held none was = was
same_room (suc n) ended held none was = absurd (omega (arith, none))

pub none_put_quiet : (c d : Connection) (s : ℕ) (k : Tunnel) → count_here c s k ≡ 0
    → Quiet (Some k) (Some (end_counted d s (bytes_put c s k)))
none_put_quiet c d s k none = by (may_finish d s (bytes_put c s k))
  where
    room : room_of k.ways.down ≡ 0 → room_of (bytes_put c s k).ways.down ≡ 0
    room = same_room (count_here c s k) k.ways.down.has_ended k.ways.down.held none

    by : (b : Bool) → Quiet (Some k) (Some (cond b (record (bytes_put c s k) { end_put = true }) (bytes_put c s k)))
    by true = ways_quiet k (record (bytes_put c s k) { end_put = true }) refl room (λ was. was)
    by false = ways_quiet k (bytes_put c s k) refl room (λ was. was)

-- what goes is counted
pub counted_quiet : (first : Option Unbegun) (tunnels : Map) (j : ℕ) → Quiet (get tunnels j) (get (begun_counted first tunnels) j)
counted_quiet None tunnels j = quiet_same (get tunnels j)
counted_quiet (Some first) tunnels j = by (get tunnels first.stream) refl
  where
    by : (o : Option Tunnel) → get tunnels first.stream ≡ o
        → Quiet (get tunnels j) (get (counted_for first.stream first.size tunnels o) j)
    by None is = quiet_same (get tunnels j)
    by (Some k) is =
        put_quiet tunnels first.stream (counts_down first.size k)
        (subst (λ (o : Option Tunnel). Quiet o (Some (counts_down first.size k))) (sym is)
        (ways_quiet k (counts_down first.size k) refl (λ was. was) (λ was. was))) j
