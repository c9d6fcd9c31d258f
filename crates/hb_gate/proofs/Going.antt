-- How much DATA of each stream begins with the bytes that go on a connection.
use Rattle.std.proofs.Common.{◌≡◌, ◌≢◌, ℕ, zero, suc, ◌+◌, ◌-◌, ◌^◌, ◌<◌, ◌≤◌, ◌==◌, ◌&&◌, not, Bool, true, false, cond, min, List, [], ◌∷◌, length, Option, Some, None, is_some, IsSome, refl, ap, sym, ◌∙◌, subst, arith}
use Rattle.std.proofs.lemmas.Bool.{false≢true, eqb-true}
use Rattle.std.proofs.lemmas.Bool.Decides.{nat_tests}
use Rattle.std.proofs.lemmas.List.Sums.{sum_by-cons}
use Rattle.std.specs.List.{filter, sum_by}
use Rattle.std.specs.FinMap.{get, insert}
use Rattle.hb_frames.specs.Numbers.{data_kind, largest}
use Rattle.hb_frames.specs.RawFrame.{RawFrame, spelling}
use Rattle.hb_history.specs.Waits.{IsFirstBy}
use Rattle.hb_history.proofs.First.{NoData}
use Rattle.hb_inbound.specs.Runs.{counted}
use Rattle.hb_map.proofs.Laws.{put_here, put_elsewhere}
use Rattle.hb_outgoing.specs.Selected.{data_size, is_data_of, payload_size, first_data, has_data}
use Rattle.hb_outgoing.specs.Written.{begun_in}
use Rattle.hb_outgoing.specs.declared.unbegun.Unbegun.{Unbegun}
use Rattle.hb_gateway.specs.Gateway as m
use Rattle.hb_gate.specs.Shows.{IsStream, ShowsStream}
use Rattle.hb_gate.specs.Streams.{Map, counts, counted_for, begun_counted}
use Rattle.hb_gate.specs.declared.stream.Stream.{Stream}
use Rattle.hb_gate.proofs.Moved.{put_changes, numbered_at}

-- HOW MUCH DATA BEGINS

size_by : (s : ℕ) (f : RawFrame) (fs : List RawFrame) (b : Bool)
    → sum_by payload_size (cond b (f ∷ filter (is_data_of (Some s)) fs) (filter (is_data_of (Some s)) fs))
    ≡ cond b (length f.payload) 0 + data_size (Some s) fs
size_by s f fs true = sum_by-cons payload_size f (filter (is_data_of (Some s)) fs)
size_by s f fs false = let same : data_size (Some s) fs ≡ 0 + data_size (Some s) fs = omega arith in same

no_payload : (kind here none : Bool) (n : ℕ) → (n == 0) ≡ none → (kind && not none) ≡ false → cond (kind && here) n 0 ≡ 0
no_payload false here none n test plain = refl
no_payload true false none n test plain = refl
no_payload true true true n test plain = grind (arith, nat_tests, test)
no_payload true true false n test plain = absurd (false≢true (sym plain))

-- of frames that are no DATA with payload nothing counts
none_size : (s m : ℕ) (fs : List RawFrame) → NoData fs → data_size (Some s) (begun_in m fs) ≡ 0
none_size s zero fs none = refl
none_size s (suc m) [] none = refl
none_size s (suc m) (f ∷ fs) none =
    let behind = begun_in (suc m - length (spelling f)) fs in
    let rest = none_size s (suc m - length (spelling f)) fs none.1 in
    let here = no_payload (f.kind == data_kind) (f.stream == s) (length f.payload == 0) (length f.payload) refl none.0 in
    let whole = size_by s f behind (is_data_of (Some s) f) in omega (arith, rest, here, whole)

-- the payload of the first frame with DATA, where it is the stream's
abbrev pub size_on : ℕ → Option Unbegun → ℕ
size_on s None = 0
size_on s (Some first) = cond (first.stream == s) first.size 0

is_kind : (kind some : Bool) → (kind && some) ≡ true → kind ≡ true
is_kind true some both = refl
is_kind false some both = absurd (false≢true both)

abbrev found_by : Bool → RawFrame → Option Unbegun → Option Unbegun
found_by b f o = cond b (Some (record { stream = f.stream; size = length f.payload })) o

none_found : (fs : List RawFrame) → NoData fs → first_data fs ≡ None
none_found [] none = refl
none_found (f ∷ fs) none = ap (λ (b : Bool). found_by b f (first_data fs)) none.0 ∙ none_found fs none.1

pub begun_size : (s n : ℕ) (rest : List ℕ) (fs : List RawFrame) → 0 < n → IsFirstBy rest fs
    → data_size (Some s) (begun_in (n - length rest) fs) ≡ size_on s (first_data fs)
begun_size s n rest [] some first = by (n - length rest)
  where
    by : (m : ℕ) → data_size (Some s) (begun_in m []) ≡ 0
    by zero = refl
    by (suc m) = refl
begun_size s n rest (f ∷ fs) some first = by (has_data f) refl
  where
    starts : (m : ℕ) → 0 < m → (f.kind == data_kind) ≡ true
        → data_size (Some s) (begun_in m (f ∷ fs)) ≡ cond (f.stream == s) (length f.payload) 0
    starts zero none kind = absurd (omega (arith, none))
    starts (suc m) more kind =
        let behind = begun_in (suc m - length (spelling f)) fs in
        let later = none_size s (suc m - length (spelling f)) fs first.1 in
        let whole = size_by s f behind (is_data_of (Some s) f) in
        let here = ap (λ (b : Bool). cond (b && f.stream == s) (length f.payload) 0) kind in omega (arith, later, whole, here)

    by : (b : Bool) → has_data f ≡ b
        → data_size (Some s) (begun_in (n - length rest) (f ∷ fs)) ≡ size_on s (found_by b f (first_data fs))
    by true is =
        let none : length rest ≡ 0 = ap length (first.0 is) in
        starts (n - length rest) (omega (arith, none, some)) (is_kind (f.kind == data_kind) _ is)
    by false is =
        none_size s (n - length rest) (f ∷ fs) (is, first.1) ∙ sym (ap (size_on s) (none_found fs first.1))

-- WHAT THE STREAMS COUNT

abbrev pub with_more : ℕ → m.Stream → m.Stream
with_more n t = record t { begun = t.begun + n }

-- a count that stops grows by what is added to it
counted_more : (old n : ℕ) → counted (old + n) ≡ min (counted old + n) (2 ^ 64 - 1)
counted_more old n = omega arith

shows_more : (n : ℕ) (k : Stream) (t : m.Stream) → IsStream k t → IsStream (counts n k) (with_more n t)
shows_more n k t shown = record {
  stage = shown.stage;
  captured = shown.captured;
  mail = shown.mail;
  begun = counted_more t.begun n ∙ ap (λ (w : ℕ). min (w + n) (2 ^ 64 - 1)) shown.begun;
}

none_more : (o : Option Stream) (n : ℕ) (t : m.Stream) → n ≡ 0 → ShowsStream o t → ShowsStream o (with_more n t)
none_more o n t none shown =
    let same : t.begun ≡ t.begun + n = omega (arith, none) in
    subst (λ (w : ℕ). ShowsStream o (record t { begun = w })) same shown

-- of one that the code hasn't it doesn't matter
gone_more : (n : ℕ) (t : m.Stream) → ShowsStream None t → ShowsStream None (with_more n t)
gone_more n t shown = shown

module _ (streams : Map) (others : ℕ → m.Stream) (shown : (s : ℕ) → ShowsStream (get streams s) (others s)) (s : ℕ) where
  counts_at : (o : Option Stream) (i n : ℕ) → get streams i ≡ o → (b : Bool) → (i == s) ≡ b
      → ShowsStream (get (counted_for i n streams o) s) (with_more (cond b n 0) (others s))
  counts_at o i n is false apart = by o is
    where
      differs : s ≢ i
      differs same = false≢true (sym apart ∙ eq_self)
        where
          eq_self : (i == s) ≡ true
          eq_self = grind (arith, nat_tests, same)

      by : (o : Option Stream) → get streams i ≡ o → ShowsStream (get (counted_for i n streams o) s) (with_more 0 (others s))
      by None is = none_more (get streams s) 0 (others s) refl (shown s)
      by (Some k) is =
          subst (λ (p : Option Stream). ShowsStream p (with_more 0 (others s))) (sym (put_elsewhere streams i (counts n k) s differs))
          (none_more (get streams s) 0 (others s) refl (shown s))
  counts_at o i n is true same = by o (subst (λ (j : ℕ). get streams j ≡ o) (eqb-true i s same) is)
    where
      by : (o : Option Stream) → get streams s ≡ o → ShowsStream (get (counted_for i n streams o) s) (with_more n (others s))
      by None none =
          subst (λ (p : Option Stream). ShowsStream p (with_more n (others s))) (sym none)
          (gone_more n (others s) (subst (λ (p : Option Stream). ShowsStream p (others s)) none (shown s)))
      by (Some k) there =
          subst (λ (j : ℕ). ShowsStream (get (insert streams j (counts n k)) s) (with_more n (others s)))
          (sym (eqb-true i s same))
          (subst (λ (p : Option Stream). ShowsStream p (with_more n (others s))) (sym (put_here streams s (counts n k)))
          (shows_more n k (others s) (subst (λ (p : Option Stream). ShowsStream p (others s)) there (shown s))))

  pub counts_first : (o : Option Unbegun) → ShowsStream (get (begun_counted o streams) s) (with_more (size_on s o) (others s))
  counts_first None = none_more (get streams s) 0 (others s) refl (shown s)
  counts_first (Some first) = counts_at (get streams first.stream) first.stream first.size refl (first.stream == s) refl

  pub counts_none : (n : ℕ) → n ≡ 0 → ShowsStream (get streams s) (with_more n (others s))
  counts_none n none = none_more (get streams s) n (others s) none (shown s)

put_numbered : (streams : Map) (s : ℕ) (new : Stream) → ((j : ℕ) → IsSome (get streams j) → j ≤ largest) → IsSome (get streams s)
    → (j : ℕ) → IsSome (get (insert streams s new) j) → j ≤ largest
put_numbered streams s new each there =
    numbered_at s (Some new) streams (insert streams s new) (put_changes streams s new) (each s there) each

pub numbered_first : (streams : Map) (o : Option Unbegun) → ((j : ℕ) → IsSome (get streams j) → j ≤ largest) → (j : ℕ)
    → IsSome (get (begun_counted o streams) j) → j ≤ largest
numbered_first streams None each j some = each j some
numbered_first streams (Some first) each j some = by (get streams first.stream) refl some
  where
    by : (o : Option Stream) → get streams first.stream ≡ o → IsSome (get (counted_for first.stream first.size streams o) j) → j ≤ largest
    by None is some = each j some
    by (Some k) is some = put_numbered streams first.stream (counts first.size k) each (ap is_some is) j some
