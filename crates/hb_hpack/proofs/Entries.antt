-- The entry of an index, in either table.
use Rattle.std.proofs.Common.{◌≡◌, ℕ, zero, suc, ◌-◌, ◌<◌, ◌≤◌, None, refl, arith}
use Rattle.std.specs.List.{slice_get}
use Rattle.std.proofs.lemmas.Bool.{lt-ltb, le-ltb}
use Rattle.hb_hpack.specs.StaticTable.{static_headers}
use Rattle.hb_hpack.specs.Table.{Table, entry_at}

pub entry_none : (table : Table) → entry_at table 0 ≡ None
unfolding entry_at
entry_none table = refl

pub entry_static : (table : Table) (i : ℕ) → 0 < i → i - 1 < 61 → entry_at table i ≡ slice_get static_headers (i - 1)
unfolding entry_at
entry_static table zero some lt = absurd (omega arith)
entry_static table (suc i) some lt =
    let same : suc i - 1 ≡ i = omega arith in
    rw (same, lt-ltb i 61 (omega arith), entry_at) refl

pub entry_dynamic : (table : Table) (i : ℕ) → 0 < i → 61 ≤ i - 1 → entry_at table i ≡ slice_get table.entries (i - 1 - 61)
unfolding entry_at
entry_dynamic table zero some le = absurd (omega arith)
entry_dynamic table (suc i) some le =
    let same : suc i - 1 ≡ i = omega arith in
    rw (same, le-ltb i 61 (omega arith), entry_at) refl
