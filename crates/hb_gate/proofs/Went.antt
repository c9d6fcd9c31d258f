-- Bytes that were written on a link.
use Rattle.std.proofs.Common.{◌≡◌, inl, inr, ℕ, ◌-◌, ◌<◌, ◌≤◌, Bool, true, false, min, List, [], length, drop, Some, IsSome, refl, ap, ap₂, sym, ◌∙◌, subst, arith}
use Rattle.std.proofs.lemmas.Bool.{cases_lt}
use Rattle.std.proofs.lemmas.Bool.Decides.{nat_tests}
use Rattle.std.proofs.lemmas.List.{drop_all}
use Rattle.std.specs.Prelude.{nat_lt}
use Rattle.std.specs.FinMap.{get}
use Rattle.hb_base.specs.declared.cause.Cause.TheVariants as cause
use Rattle.hb_conn.specs.Connection.{Connection}
use Rattle.hb_conn.specs.Observed.{outgoing, data_unbegun, frames_begun, wrote}
use Rattle.hb_frames.specs.Numbers.{largest}
use Rattle.hb_history.proofs.First.{data_stands_first}
use Rattle.hb_kept.proofs.Acts.{writes_kept}
use Rattle.hb_outgoing.specs.Selected.{data_size}
use Rattle.hb_outgoing.specs.Written.{begun_in}
use Rattle.hb_streams.specs.declared.role.Role.TheVariants.{Client}
use Rattle.hb_world.specs.declared.entry.Entry.TheVariants as e
use Rattle.hb_gateway.specs.Connections.{conn_went}
use Rattle.hb_gateway.specs.Gateway.{Gateway, went, went_by}
use Rattle.hb_gateway.specs.Gateway as m
use Rattle.hb_gateway.specs.Part.{Part, entry, moves, tellings, link_came}
use Rattle.hb_gateway.specs.Runs.{StandsFor}
use Rattle.hb_gateway.proofs.Runs.{all_keep}
use Rattle.hb_gate.specs.Calls.{Enters}
use Rattle.hb_gate.specs.Phases.{phase_of}
use Rattle.hb_gate.specs.Shows.{Shows, ShowsBy, ShowsStream}
use Rattle.hb_gate.specs.Streams.{counted_by, left_behind, begun_counted}
use Rattle.hb_gate.specs.declared.gate.Gate.{Gate}
use Rattle.hb_gate.specs.declared.phase.Phase.TheVariants.{Serving, Faulted, Closing}
use Rattle.hb_gate.proofs.Going.{begun_size, size_on, with_more, counts_first, counts_none, numbered_first}

front_left : (n : ℕ) (front : List ℕ) → drop (min (length front) n) front ≡ drop n front
front_left n front = elim (cases_lt n (length front)) [
  | inl less ↦ ap (λ (i : ℕ). drop i front) (let same : min (length front) n ≡ n = omega (arith, less) in same)
  | inr more ↦ ap (λ (i : ℕ). drop i front) (let same : min (length front) n ≡ length front = omega (arith, more) in same)
      ∙ all (length front) (omega arith) ∙ sym (all n more)
]
  where
    all : (i : ℕ) → length front ≤ i → drop i front ≡ []
    all i more = drop_all i front more

behind : (n l : ℕ) → n - min l n ≡ n - l
behind n l = omega arith

numbered_by : (b : Bool) (k : Gate) → ((j : ℕ) → IsSome (get k.streams j) → j ≤ largest) → (j : ℕ)
    → IsSome (get (counted_by b k.conn k.streams) j) → j ≤ largest
numbered_by true k each = numbered_first k.streams (data_unbegun k.conn) each
numbered_by false k each = each

module _ (k : Gate) (n : ℕ) (x : Gateway) (parts : List Part) (stands : StandsFor k.number x parts) (shows : Shows k x)
    (conn : x.conn ≡ k.conn) (front : x.front ≡ k.front) where
  abbrev pub y : Gateway
  y = went n x

  abbrev over : ℕ
  over = n - length x.front

  size : (s : ℕ) → 0 < over → size_on s (data_unbegun k.conn) ≡ data_size (Some s) (frames_begun over x.conn)
  size s some =
      let first = data_stands_first Client (moves parts) (tellings parts) (link_came parts) (conn_went parts) x.conn
      (all_keep k.number x parts stands).stands in
      sym (begun_size s over (outgoing x.conn).rest (outgoing x.conn).queue some first
      ∙ ap (λ (c : Connection). size_on s (data_unbegun c)) conn)

  none_begins : (s : ℕ) → over ≡ 0 → data_size (Some s) (frames_begun over x.conn) ≡ 0
  none_begins s none =
      let zero : over - length (outgoing x.conn).rest ≡ 0 = omega (arith, none) in
      ap (λ (i : ℕ). data_size (Some s) (begun_in i (outgoing x.conn).queue)) zero

  streams_by : (b : Bool) → nat_lt (min (length k.front) n) n ≡ b → (s : ℕ)
      → ShowsStream (get (counted_by b k.conn k.streams) s) (with_more (data_size (Some s) (frames_begun over x.conn)) (x.streams s))
  streams_by true is s =
      let l : length x.front ≡ length k.front = ap length front in
      let some : 0 < over = grind (arith, nat_tests, is, l) in
      subst (λ (i : ℕ). ShowsStream (get (begun_counted (data_unbegun k.conn) k.streams) s) (with_more i (x.streams s))) (size s some)
      (counts_first k.streams x.streams shows.streams s (data_unbegun k.conn))
  streams_by false is s =
      let l : length x.front ≡ length k.front = ap length front in
      let none : over ≡ 0 = grind (arith, nat_tests, is, l) in
      counts_none k.streams x.streams shows.streams s (data_size (Some s) (frames_begun over x.conn)) (none_begins s none)

  pub streams_went : (s : ℕ) → ShowsStream (get (left_behind n k).streams s) (y.streams s)
  streams_went s = streams_by (nat_lt (min (length k.front) n) n) refl s

  pub conn_is : y.conn ≡ (left_behind n k).conn
  conn_is =
      ap₂ (λ (c : Connection) (i : ℕ). wrote c i) conn
      (ap (λ (f : List ℕ). n - length f) front ∙ sym (behind n (length k.front)))

  pub front_is : y.front ≡ (left_behind n k).front
  front_is = ap (drop n) front ∙ sym (front_left n k.front)

  pub numbered_went : (s : ℕ) → IsSome (get (left_behind n k).streams s) → s ≤ largest
  numbered_went = numbered_by (nat_lt (min (length k.front) n) n) k shows.numbered

-- while it serves
pub goes_serving : (k : Gate) (bytes : List ℕ) → k.phase ≡ Serving
    → Enters (entry (e.Went k.number bytes)) k (left_behind (length bytes) k)
goes_serving k bytes is = (
  refl,
  λ x parts stands shows z step.
      let serving = shows.phase ∙ ap phase_of is in
      let way = subst (λ (ph : m.Phase). ShowsBy ph k x) serving shows.way in
      let n = length bytes in
      let on : went_by x.phase ≡ m.serving = ap went_by serving in
      subst (Shows (left_behind n k)) (sym step.1) (record {
        key = shows.key;
        phase = on ∙ sym serving ∙ shows.phase;
        way = subst (λ (ph : m.Phase). ShowsBy ph (left_behind n k) (went n x)) (sym on) (
          conn_is k n x parts stands shows way.0 way.2,
          writes_kept x.conn (n - length x.front) way.1,
          front_is k n x parts stands shows way.0 way.2,
        );
        away = shows.away;
        streams = streams_went k n x parts stands shows way.0 way.2;
        numbered = numbered_went k n x parts stands shows way.0 way.2;
      }),
)

-- behind a connection error that was the one write
pub goes_last : (k : Gate) (bytes : List ℕ) (code : ℕ) → k.phase ≡ Faulted code
    → Enters (entry (e.Went k.number bytes)) k (left_behind (length bytes) (record k { phase = Closing (cause.ConnFault code) }))
goes_last k bytes code is = (
  refl,
  λ x parts stands shows z step.
      let faulted = shows.phase ∙ ap phase_of is in
      let way = subst (λ (ph : m.Phase). ShowsBy ph k x) faulted shows.way in
      let n = length bytes in
      let new = left_behind n (record k { phase = Closing (cause.ConnFault code) }) in
      let on : went_by x.phase ≡ m.closing (cause.ConnFault code) = ap went_by faulted in
      subst (Shows new) (sym step.1) (record {
        key = shows.key;
        phase = on;
        way = subst (λ (ph : m.Phase). ShowsBy ph new (went n x)) (sym on) tt;
        away = shows.away;
        streams = streams_went k n x parts stands shows way.0 way.1;
        numbered = numbered_went k n x parts stands shows way.0 way.1;
      }),
)
