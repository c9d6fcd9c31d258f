-- What is put on the stream of a tunnel, and what is given back to its window.
use Rattle.std.proofs.Common.{◌≡◌, ℕ, ◌^◌, ◌<◌, ◌≤◌, ◌==◌, ◌&&◌, ◌||◌, not, Bool, true, false, cond, min, is_some, List, [], ◌∷◌, length, Option, Some, None, refl, ap, ap₂, sym, ◌∙◌, subst, arith}
use Rattle.std.proofs.lemmas.Bool.{false≢true, cond_both, and_parts, not-true, eqb-true}
use Rattle.std.specs.List.{list_any}
use Rattle.std.specs.Prelude.{nat_le}
use Rattle.std.specs.FinMap.{get}
use Rattle.hb_conn.specs.Connection.{Connection, with_core}
use Rattle.hb_conn.specs.Observed.{outgoing, output, is_over, sendable, creditable, credited, count_put, data_put, end_put, own_side_open}
use Rattle.hb_conn.specs.declared.machine.Core.{Core}
use Rattle.hb_conn.specs.Payload as payload
use Rattle.hb_conn.specs.Payload.{with_data}
use Rattle.hb_frames.specs.Numbers.{largest}
use Rattle.hb_frames.specs.RawFrame.{RawFrame}
use Rattle.hb_history.specs.TakenBack.{has_data_on}
use Rattle.hb_history.specs.Waits.{IsFirstBy}
use Rattle.hb_history.proofs.First.{data_stands_first, NoData}
use Rattle.hb_inbound.specs.Calm.{data_waits, is_data_on}
use Rattle.hb_kept.specs.Kept.{IsKept}
use Rattle.hb_kept.proofs.Acts.{uses_kept, ends_kept, puts_kept}
use Rattle.hb_kept.proofs.Shut.{waiting_shuts}
use Rattle.hb_outgoing.specs.declared.head.Head.{Head}
use Rattle.hb_outgoing.specs.Selected as selected
use Rattle.hb_outgoing.specs.Selected.{first_data, has_data}
use Rattle.hb_streams.specs.declared.role.Role.TheVariants.{Client}
use Rattle.hb_gateway.specs.Connections.{conn_went}
use Rattle.hb_gateway.specs.Gateway.{Gateway, stage_of}
use Rattle.hb_gateway.specs.Gateway as m
use Rattle.hb_gateway.specs.Part.{Part, put, finished, credited as credits, moves, tellings, link_came}
use Rattle.hb_gateway.specs.Response.{carrying, is_living}
use Rattle.hb_gateway.specs.Runs.{Steps, StandsFor}
use Rattle.hb_gateway.proofs.Runs.{all_keep}
use Rattle.hb_gate.specs.Calls.{Goes, Puts, MayPut, MayFinish, Finishes, Credits}
use Rattle.hb_gate.specs.Observed.{is_unbegun_on, data_seen, can_finish}
use Rattle.hb_gate.specs.Shows.{Shows}
use Rattle.hb_gate.specs.declared.gate.Gate.{Gate}
use Rattle.hb_gate.proofs.Seen.{carried, way_again, found}

-- such a link with another connection
module _ (k : Gate) (c : Connection) where
  abbrev pub with_conn : Gate
  with_conn = record k { conn = c }

  pub shows_conn : (x : Gateway) (d : Connection) → Shows k x → m.carries x.phase ≡ true → d ≡ c → IsKept d
      → Shows with_conn (record x { conn = d })
  shows_conn x d shows carries is kept = record {
    key = shows.key;
    phase = shows.phase;
    way = way_again with_conn (record x { conn = d }) x.phase carries
        (record { conn = is; kept = kept; front = (carried k x shows carries).front });
    away = shows.away;
    streams = shows.streams;
    numbered = shows.numbered;
  }

  pub goes_conn : (x : Gateway) (p : Part) (d : Connection) → Shows k x → m.carries x.phase ≡ true → d ≡ c → IsKept d
      → Steps k.number x p (record x { conn = d }) → Goes p x with_conn
  goes_conn x p d shows carries is kept steps =
      record { next = record x { conn = d }; steps = steps; shows = shows_conn x d shows carries is kept }

-- the number of a stream that carries has 31 bits
pub few : (k : Gate) (x : Gateway) (s : ℕ) → Shows k x → stage_of x s ≡ carrying → s ≤ largest
few k x s shows is =
    let there = found (get k.streams s) (x.streams s) (shows.streams s) (ap is_living is) in
    shows.numbered s (ap is_some there.is)

pub credits_so : (k : Gate) (s n count : ℕ) → count ≡ min n (creditable k.conn s) → creditable k.conn s < 2 ^ 32
    → Credits s n k (with_conn k (credited k.conn s count))
credits_so k s n count is fits = (
  refl,
  λ x parts stands shows carries stage.
      let on = carried k x shows carries in
      let given = min n (creditable x.conn s) in (
        subst (λ (c : Connection). creditable c s < 2 ^ 32) (sym on.conn) fits,
        goes_conn k (credited k.conn s count) x (credits s given) (credited x.conn s given) shows carries
            (ap₂ (λ (c : Connection) (i : ℕ). credited c s i) on.conn
            (ap (λ (c : Connection). min n (creditable c s)) on.conn ∙ sym is))
            (uses_kept x.conn s given (few k x s shows stage) on.kept)
            ((carries, stage), omega arith, refl),
      ),
)

pub finishes : (k : Gate) (s : ℕ) → Finishes s k (with_conn k (end_put k.conn s))
finishes k s = (
  refl,
  λ x parts stands shows carries stage own clear.
      let on = carried k x shows carries in
      goes_conn k (end_put k.conn s) x (finished s) (end_put x.conn s) shows carries
      (ap (λ (c : Connection). end_put c s) on.conn) (ends_kept x.conn s (few k x s shows stage) on.kept)
      ((carries, stage), own, clear, refl),
)

-- nothing may be put
pub puts_none : (k : Gate) (s : ℕ) (bytes : List ℕ)
    → (cond (own_side_open k.conn s) (count_put k.conn s bytes) 0 ≡ 0) → Puts s bytes 0 k k
puts_none k s bytes none = (
  refl,
  λ x parts stands shows carries stage.
      let on = carried k x shows carries in (
        sym (ap (λ (c : Connection). cond (own_side_open c s) (count_put c s bytes) 0) on.conn ∙ none),
        (λ is. shows),
        λ some. absurd (omega (arith, some)),
      ),
)

core_as : (c : Core) (s : ℕ) (bytes : List ℕ) → payload.count_put c s bytes ≡ 0 → payload.data_put c s bytes ≡ c
core_as c s bytes none = ap (with_data c s bytes) none

none_as : (c : Connection) (s : ℕ) (bytes : List ℕ) → count_put c s bytes ≡ 0 → data_put c s bytes ≡ c
none_as c s bytes none = ap (with_core c) (core_as _ s bytes none)

pub puts_some : (k : Gate) (s : ℕ) (bytes : List ℕ) → own_side_open k.conn s ≡ true
    → Puts s bytes (count_put k.conn s bytes) k (with_conn k (data_put k.conn s bytes))
puts_some k s bytes own = (
  refl,
  λ x parts stands shows carries stage.
      let on = carried k x shows carries in
      let own_x = ap (λ (c : Connection). own_side_open c s) on.conn ∙ own in
      let count = ap (λ (c : Connection). count_put c s bytes) (sym on.conn) in
      let conn = ap (λ (c : Connection). data_put c s bytes) on.conn in (
        count ∙ sym (ap (λ (b : Bool). cond b (count_put x.conn s bytes) 0) own_x),
        (λ none. shows_conn k (data_put k.conn s bytes) x x.conn shows carries
            (on.conn ∙ sym (none_as k.conn s bytes none)) on.kept),
        λ some. goes_conn k (data_put k.conn s bytes) x (put s bytes (count_put k.conn s bytes)) (data_put x.conn s bytes) shows carries
            conn (puts_kept x.conn s bytes on.kept)
            ((carries, stage), own_x, some, count, refl),
      ),
)

-- never more than there are
pub puts_few : (c : Connection) (s : ℕ) (bytes : List ℕ) → count_put c s bytes ≤ length bytes
puts_few c s bytes = by (is_over c) (nat_le s largest && length (output c) == 0)
  where
    by : (a b : Bool) → cond a 0 (cond b (min (length bytes) (sendable c s)) 0) ≤ length bytes
    by true b = omega arith
    by false true = omega arith
    by false false = omega arith

pub open_as : (b : Bool) → not b ≡ false → b ≡ true
open_as true is = refl
open_as false is = sym is

-- where an octet waits, or this end's side isn't open
pub puts_waiting : (k : Gate) (s : ℕ) (bytes : List ℕ) → 0 < length (output k.conn) → Puts s bytes 0 k k
puts_waiting k s bytes some =
    puts_none k s bytes
    (cond_both (own_side_open k.conn s) (count_put k.conn s bytes) 0 (λ (n : ℕ). n ≡ 0) (λ is. waiting_shuts k.conn some s bytes)
    (λ is. refl))

-- WHETHER DATA WAITS: the first DATA frame with payload stands in front, or none waits
or_none : (b : Bool) → (b || false) ≡ b
or_none true = refl
or_none false = refl

none_waits : (s : ℕ) (fs : List RawFrame) → NoData fs → (is_unbegun_on s (first_data fs) ≡ false) × (list_any (has_data_on s) fs ≡ false)
none_waits s [] none = (refl, refl)
none_waits s (f ∷ fs) none =
    let rest = none_waits s fs none.1 in (
      ap (λ (b : Bool). is_unbegun_on s (cond b (Some (record { stream = f.stream; size = length f.payload })) (first_data fs))) none.0
          ∙ rest.0,
      ap (λ (b : Bool). (b && f.stream == s) || list_any (has_data_on s) fs) none.0 ∙ rest.1,
    )

unbegun_as : (s : ℕ) (rest : List ℕ) (fs : List RawFrame) → IsFirstBy rest fs
    → is_unbegun_on s (first_data fs) ≡ list_any (has_data_on s) fs
unbegun_as s rest [] first = refl
unbegun_as s rest (f ∷ fs) first = by (has_data f) (none_waits s fs first.1)
  where
    by : (b : Bool) → (is_unbegun_on s (first_data fs) ≡ false) × (list_any (has_data_on s) fs ≡ false)
        → is_unbegun_on s (cond b (Some (record { stream = f.stream; size = length f.payload })) (first_data fs))
        ≡ ((b && f.stream == s) || list_any (has_data_on s) fs)
    by true none = sym (ap (λ (b : Bool). (f.stream == s) || b) none.1 ∙ or_none (f.stream == s))
    by false none = none.0 ∙ sym none.1

begun_as : (s : ℕ) (head : Option Head) → selected.data_begun s head ≡ is_data_on s head
begun_as s None = refl
begun_as s (Some head) = refl

-- so what is seen of it is that it waits
seen_as : (k : Gate) (x : Gateway) (parts : List Part) (s : ℕ) → StandsFor k.number x parts → x.conn ≡ k.conn
    → data_seen k.conn s ≡ data_waits x.conn s
seen_as k x parts s stands conn =
    let first = data_stands_first Client (moves parts) (tellings parts) (link_came parts) (conn_went parts) x.conn
    (all_keep k.number x parts stands).stands in
    sym (ap (λ (c : Connection). data_seen c s) conn)
    ∙ ap₂ (λ (a b : Bool). a || b) (unbegun_as s (outgoing x.conn).rest (outgoing x.conn).queue first) (begun_as s (outgoing x.conn).begun)

finish_as : (k : Gate) (x : Gateway) (parts : List Part) (s : ℕ) → StandsFor k.number x parts → x.conn ≡ k.conn
    → can_finish k.conn s ≡ (own_side_open x.conn s && not (data_waits x.conn s))
finish_as k x parts s stands conn =
    ap₂ (λ (a b : Bool). a && not b) (ap (λ (c : Connection). own_side_open c s) (sym conn)) (seen_as k x parts s stands conn)

pub may_put_so : (k : Gate) (may : Bool) → may ≡ (length (output k.conn) == 0) → MayPut k may
may_put_so k may is x shows carries =
    let same = ap (λ (c : Connection). length (output c)) (carried k x shows carries).conn in (
      λ so. same ∙ eqb-true (length (output k.conn)) 0 (sym is ∙ so),
      λ none. is ∙ ap (λ (n : ℕ). n == 0) (sym same ∙ none),
    )

pub may_finish_so : (k : Gate) (s : ℕ) → MayFinish s k (can_finish k.conn s)
may_finish_so k s x parts stands shows carries stage =
    let is = finish_as k x parts s stands (carried k x shows carries).conn in (
      (λ may. let both = and_parts (own_side_open x.conn s) (not (data_waits x.conn s)) (sym is ∙ may) in
          (both.0, not-true (data_waits x.conn s) both.1)),
      (λ both. is ∙ ap₂ (λ (a b : Bool). a && not b) both.0 both.1),
    )

pub finishes_not : (k : Gate) (s : ℕ) → can_finish k.conn s ≡ false → Finishes s k k
finishes_not k s not_now = (
  refl,
  λ x parts stands shows carries stage own clear.
      let is = finish_as k x parts s stands (carried k x shows carries).conn in
      absurd (false≢true (sym not_now ∙ is ∙ ap₂ (λ (a b : Bool). a && not b) own clear)),
)
