-- A block is read or broken, in one way.
use Rattle.std.proofs.Common.{◌≡◌, ℕ, ◌⊎◌, inl, inr, List, Result, Ok, Err, refl, sym, ap, ◌∙◌, arith}
use Rattle.hb_hpack.specs.declared.header.Header.{Header}
use Rattle.hb_hpack.specs.declared.fault.Stop.{Stop}
use Rattle.hb_hpack.specs.declared.fault.HpackWhy.{HpackWhy}
use Rattle.hb_hpack.specs.Outcome.{stop}
use Rattle.hb_hpack.specs.Table.{Table}
use Rattle.hb_hpack.specs.Block.{Reads}
use Rattle.hb_hpack.specs.Reader.{block_at}
use Rattle.hb_hpack.specs.Breaks.{BreaksAt}
use Rattle.hb_hpack.proofs.Outcomes.{AreOctets, ok_is, no_value, fault_is}
use Rattle.hb_hpack.proofs.Blocks.{block_take, block_again}
use Rattle.hb_hpack.proofs.Broken.{block_broken}
use Rattle.hb_hpack.proofs.Refused.{block_refused}

-- the block stands for headers
abbrev pub IsRead : Table → List ℕ → Type 0
IsRead table block = (headers : List Header) × (next : Table) × Reads table block headers next

-- the block is broken
abbrev pub IsBrokenSomewhere : Table → List ℕ → Type 0
IsBrokenSomewhere table block = (at : ℕ) × (why : HpackWhy) × BreaksAt table block at why

pub either : (table : Table) (block : List ℕ) → AreOctets block → IsRead table block ⊎ IsBrokenSomewhere table block
either table block o = by_reading (block_at table block) refl
  where
    by_reading : (r : Result (List Header × Table) Stop) → block_at table block ≡ r → IsRead table block ⊎ IsBrokenSomewhere table block
    by_reading (Ok x) e = inl (x.0, x.1, block_take table block x.0 x.1 o e)
    by_reading (Err s) e = let broken = block_broken table block s o e in inr (broken.0, s.why, broken.2)

pub apart : (table : Table) (block : List ℕ) (headers : List Header) (next : Table) (at : ℕ) (why : HpackWhy)
    → Reads table block headers next → BreaksAt table block at why → ⊥
apart table block headers next at why reads breaks =
    let r = block_refused table block at why breaks in
    no_value (stop r.0 why) (headers, next) (sym r.2 ∙ block_again table block headers next reads)

pub one_reading : (table : Table) (block : List ℕ) (headers others : List Header) (next last : Table)
    → Reads table block headers next → Reads table block others last → (headers ≡ others) × (next ≡ last)
one_reading table block headers others next last first second =
    let same : ◌≡◌ {A = List Header × Table} (headers, next) (others, last) =
    ok_is (headers, next) (others, last) (sym (block_again table block headers next first) ∙ block_again table block others last second) in
    (ap (λ (x : List Header × Table). x.0) same, ap (λ (x : List Header × Table). x.1) same)

pub one_fault : (table : Table) (block : List ℕ) (at place : ℕ) (why other : HpackWhy)
    → BreaksAt table block at why → BreaksAt table block place other → (at ≡ place) × (why ≡ other)
one_fault table block at place why other first second =
    let r = block_refused table block at why first in
    let q = block_refused table block place other second in
    let same : stop r.0 why ≡ stop q.0 other = fault_is (stop r.0 why) (stop q.0 other) (sym r.2 ∙ q.2) in
    let left : r.0 ≡ q.0 = ap (λ (s : Stop). s.left) same in
    (omega (arith, r.1, q.1, left), ap (λ (s : Stop). s.why) same)
