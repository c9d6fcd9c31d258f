-- A fragment has one answer.
use Rattle.std.proofs.Common.{◌≡◌, ◌≢◌, ℕ, List, [], Option, Some, None, Ok, Err, refl, sym, ap, ap₂, ◌∙◌}
use Rattle.hb_base.specs.declared.or.Or.TheVariants.{Fault, NoMemory}
use Rattle.hb_hpack.specs.declared.header.Header.{Header}
use Rattle.hb_hpack.specs.declared.header.HeaderList.{HeaderList}
use Rattle.hb_hpack.specs.declared.fault.HpackFault.{HpackFault}
use Rattle.hb_hpack.specs.declared.fault.HpackWhy.{HpackWhy}
use Rattle.hb_hpack.specs.Table.{Table, fitting}
use Rattle.hb_hpack.specs.Decoded.{IsListOf}
use Rattle.hb_hpack.proofs.Readings.{apart, one_reading, one_fault}
use Rattle.hb_blocks.specs.declared.fault.BlockFault.TheVariants.{TooLong, Compression}
use Rattle.hb_blocks.specs.declared.whole.Opening.{Opening}
use Rattle.hb_blocks.specs.declared.whole.Whole.{Whole}
use Rattle.hb_blocks.specs.Assembly.{Assembly, too_long, waits, complete}
use Rattle.hb_blocks.specs.Outcome.{Makes}
use Rattle.hb_blocks.specs.Laws.{Answer, OneOutcome}

abbrev list_of : List Header → ℕ → HeaderList
list_of kept size = record { kept = kept; size = size }

one_list : (headers others : List Header) (list other : HeaderList) → headers ≡ others → IsListOf headers list → IsListOf others other
    → list ≡ other
one_list headers others list other e l m =
    let kept = l.kept ∙ ap (fitting 16384) e ∙ sym m.kept in
    let size : list.size ≡ other.size = rw (l.size, m.size, e) refl in
    ap₂ list_of kept size

-- the state behind a block that is whole
abbrev behind : Table → HeaderList → Assembly
behind table headers = record { table = table; opening = None; block = []; headers = headers }

is_behind : (new : Assembly) → new.opening ≡ None → new.block ≡ [] → new ≡ behind new.table new.headers
is_behind new opening block = ap₂ (λ (o : Option Opening) (b : List ℕ). held_with new.table o b new.headers) opening block
  where
    held_with : Table → Option Opening → List ℕ → HeaderList → Assembly
    held_with table opening block headers = record { table = table; opening = opening; block = block; headers = headers }

abbrev fault_of : ℕ → HpackWhy → HpackFault
fault_of at why = record { at = at; why = why }

-- where the answers are one, and the states too if they tell no fault
abbrev Agree : Assembly → Assembly → Answer → Answer → Type 0
Agree new other answer second = (answer ≡ second) × ((told : Option Whole) → answer ≡ Ok told → new ≡ other)

one_whole : (s new other : Assembly) (opening : Opening) (block : List ℕ) (answer second : Answer)
    → Makes (complete opening block) s new answer → Makes (complete opening block) s other second
    → answer ≢ Err NoMemory → second ≢ Err NoMemory → Agree new other answer second
one_whole s new other opening block (Ok None) second m k f g = absurd m
one_whole s new other opening block (Err (Fault TooLong)) second m k f g = absurd m
one_whole s new other opening block (Err NoMemory) second m k f g = absurd (f refl)
one_whole s new other opening block answer (Ok None) m k f g = absurd k
one_whole s new other opening block answer (Err (Fault TooLong)) m k f g = absurd k
one_whole s new other opening block answer (Err NoMemory) m k f g = absurd (g refl)
one_whole s new other opening block (Ok (Some whole)) (Ok (Some again)) m k f g =
    let d = m.3 in
    let e = k.3 in
    let same = one_reading s.table block d.0 e.0 new.table other.table d.1 e.1 in
    let list : new.headers ≡ other.headers = one_list d.0 e.0 new.headers other.headers same.0 d.2 e.2 in
    let told : whole ≡ again = m.0 ∙ sym k.0 in (
      ap (λ (w : Whole). Ok (Some w)) told,
      λ _ _.
          is_behind new m.1 m.2 ∙ ap₂ behind same.1 list ∙ sym (is_behind other k.1 k.2),
    )
one_whole s new other opening block (Ok (Some whole)) (Err (Fault (Compression fault))) m k f g =
    absurd (apart s.table block m.3.0 new.table fault.at fault.why m.3.1 k)
one_whole s new other opening block (Err (Fault (Compression fault))) (Ok (Some again)) m k f g =
    absurd (apart s.table block k.3.0 other.table fault.at fault.why k.3.1 m)
one_whole s new other opening block (Err (Fault (Compression fault))) (Err (Fault (Compression again))) m k f g =
    let same = one_fault s.table block fault.at again.at fault.why again.why m k in
    (ap (λ (x : HpackFault). Err (Fault (Compression x))) (ap₂ fault_of same.0 same.1), λ told e. cc)

one_wait : (s new other : Assembly) (opening : Opening) (block : List ℕ) (answer second : Answer)
    → Makes (waits opening block) s new answer → Makes (waits opening block) s other second
    → answer ≢ Err NoMemory → second ≢ Err NoMemory → Agree new other answer second
one_wait s new other opening block (Ok None) (Ok None) m k f g = (refl, λ _ _. m ∙ sym k)
one_wait s new other opening block (Ok (Some _)) second m k f g = absurd m
one_wait s new other opening block (Err (Fault _)) second m k f g = absurd m
one_wait s new other opening block (Err NoMemory) second m k f g = absurd (f refl)
one_wait s new other opening block answer (Ok (Some _)) m k f g = absurd k
one_wait s new other opening block answer (Err (Fault _)) m k f g = absurd k
one_wait s new other opening block answer (Err NoMemory) m k f g = absurd (g refl)

one_length : (s new other : Assembly) (answer second : Answer)
    → Makes too_long s new answer → Makes too_long s other second → Agree new other answer second
one_length s new other (Err (Fault TooLong)) (Err (Fault TooLong)) m k = (refl, λ told e. cc)
one_length s new other (Ok _) second m k = absurd m
one_length s new other (Err NoMemory) second m k = absurd m
one_length s new other (Err (Fault (Compression _))) second m k = absurd m
one_length s new other answer (Ok _) m k = absurd k
one_length s new other answer (Err NoMemory) m k = absurd k
one_length s new other answer (Err (Fault (Compression _))) m k = absurd k

pub one_outcome : OneOutcome
one_outcome too_long s new other answer second m k f g = one_length s new other answer second m k
one_outcome (waits opening block) s new other answer second m k f g = one_wait s new other opening block answer second m k f g
one_outcome (complete opening block) s new other answer second m k f g = one_whole s new other opening block answer second m k f g
