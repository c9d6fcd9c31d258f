-- Texts that are printed one after the other.
use Rattle.std.proofs.Common.{◌≡◌, ◌≢◌, ℕ, Bool, ◌+◌, ◌≤◌, List, ◌++◌, length, take, Option, refl, ap, sym, subst, ◌∙◌, arith}
use Rattle.std.proofs.Common.{length-append, append_assoc, ◌∷◌}
use Rattle.std.proofs.KnownBytes.{Appends-trans}
use Rattle.std.proofs.lemmas.List.{take-append-le}
use Rattle.std.proofs.Math.Seq.{take-append-add, take-append_seam}
use Rattle.std.specs.Io.KnownBytes.{Appends}
use Rattle.std.specs.List.{flat_map}
use Rattle.hb_held.specs.Rows.{Row, rows}
use Rattle.hb_cli.specs.declared.answer.Printed.{Printed}
use Rattle.hb_cli.specs.declared.answer.Printed.TheVariants.{Whole, Failed, NoMemory}
use Rattle.hb_cli.specs.Input.{Leaves}
use Rattle.hb_cli.specs.Run.{held_line, shown}
use Rattle.hb_cli.specs.Use.{use_of, WritesAll, Prints}

-- a front of a text behind what is there whole
behind : (a b c : Option (List ℕ)) (front text : List ℕ) (n : ℕ) → Appends a b front → Appends b c (take n text)
    → Appends a c (take (length front + n) (front ++ text))
behind a b c front text n first then =
    subst (λ (t : List ℕ). Appends a c t) (sym (take-append-add front text n)) (Appends-trans a b c front (take n text) first then)

pub writes_on : (a b c : Option (List ℕ)) (f g h : ℕ) (front text : List ℕ) → WritesAll (use_of a b f g) front
    → WritesAll (use_of b c g h) text → WritesAll (use_of a c f h) (front ++ text)
writes_on a b c f g h front text first then =
    let none = first.1 in (Appends-trans a b c front text first.0 then.0, then.1 ∙ none)

-- a text is printed behind one that was printed whole
prints_on : (a b c : Option (List ℕ)) (f g h : ℕ) (front text : List ℕ) (r : Printed) → WritesAll (use_of a b f g) front
    → Prints (use_of b c g h) text r → Prints (use_of a c f h) (front ++ text) r
prints_on a b c f g h front text Whole first then = writes_on a b c f g h front text first then
prints_on a b c f g h front text Failed first then =
    let none = first.1 in
    let n = then.0.0 in
    let less = then.0.1 in
    ((length front + n, omega (arith, less, length-append front text), behind a b c front text n first.0 then.0.2), rw none at then.1)
prints_on a b c f g h front text NoMemory first then =
    let none = first.1 in
    let n = then.0.0 in
    let less = then.0.1 in
    ((length front + n, omega (arith, less, length-append front text), behind a b c front text n first.0 then.0.2), then.1 ∙ none)

shorter : (a b : Option (List ℕ)) (text rest : List ℕ) (n : ℕ) → n ≤ length text → Appends a b (take n text)
    → Appends a b (take n (text ++ rest))
shorter a b text rest n le part = subst (λ (t : List ℕ). Appends a b t) (sym (take-append-le n text rest le)) part

-- what is printed in part is a part of each longer text
prints_part : (a b : Option (List ℕ)) (f g : ℕ) (text rest : List ℕ) (r : Printed) → r ≢ Whole → Prints (use_of a b f g) text r
    → Prints (use_of a b f g) (text ++ rest) r
prints_part a b f g text rest Whole part p = absurd (part refl)
prints_part a b f g text rest Failed part p =
    let n = p.0.0 in
    let less = p.0.1 in
    ((n, omega (arith, less, length-append text rest), shorter a b text rest n (omega (arith, less)) p.0.2), p.1)
prints_part a b f g text rest NoMemory part p =
    let n = p.0.0 in
    let less = p.0.1 in
    ((n, omega (arith, less, length-append text rest), shorter a b text rest n less p.0.2), p.1)

-- a front was printed whole, and then memory was wanting
pub stops : (a b : Option (List ℕ)) (f g : ℕ) (front rest total : List ℕ) → WritesAll (use_of a b f g) front → front ++ rest ≡ total
    → Prints (use_of a b f g) total NoMemory
stops a b f g front rest total w is =
    let len : length front ≤ length total = omega (arith, ap length is, length-append front rest) in
    let same : take (length front) total ≡ front = ap (take (length front)) (sym is) ∙ take-append_seam front rest in
    ((length front, len, subst (λ (t : List ℕ). Appends a b t) (sym same) w.0), w.1)

-- the line of the next item is behind those so far, and the lines of the others come behind it
pub next_line : {X : Type 0} (text : X → List ℕ) (front line : List ℕ) (x : X) (left more : List X) (total : List ℕ) → line ≡ text x
    → left ≡ x ∷ more → front ++ flat_map text left ≡ total → (front ++ line) ++ flat_map text more ≡ total
next_line text front line x left more total is step so_far =
    append_assoc front line (flat_map text more) ∙ ap (λ t. front ++ (t ++ flat_map text more)) is
    ∙ ap (λ l. front ++ flat_map text l) (sym step) ∙ so_far

-- a row's line was printed in part
pub row_in_part : (fields : Bool) (a b c : Option (List ℕ)) (f g h : ℕ) (front line : List ℕ) (row : Row) (left more : List Row)
    (total : List ℕ) (r : Printed) → r ≢ Whole → WritesAll (use_of a b f g) front → Prints (use_of b c g h) line r
    → line ≡ held_line fields row → left ≡ row ∷ more → front ++ flat_map (held_line fields) left ≡ total
    → Prints (use_of a c f h) total r
row_in_part fields a b c f g h front line row left more total r part first then is step so_far =
    subst (λ (t : List ℕ). Prints (use_of a c f h) t r)
    (next_line (held_line fields) front line row left more total is step so_far)
    (prints_part a c f h (front ++ line) (flat_map (held_line fields) more) r part (prints_on a b c f g h front line r first then))

-- the lines of the responses were printed whole, and then those of what is held, as far as they were
pub left_printed : (fields : Bool) (a b c : Option (List ℕ)) (f g h : ℕ) (told : List ℕ) (inside now : Leaves) (r : Printed)
    → inside ≡ now → told ≡ inside.told → WritesAll (use_of a b f g) told
    → Prints (use_of b c g h) (flat_map (held_line fields) (rows inside.held)) r → Prints (use_of a c f h) (shown fields now) r
left_printed fields a b c f g h told inside now r same is first then =
    subst (λ (l : Leaves). Prints (use_of a c f h) (shown fields l) r) same
    (subst (λ (t : List ℕ). Prints (use_of a c f h) (t ++ flat_map (held_line fields) (rows inside.held)) r) is
    (prints_on a b c f g h told (flat_map (held_line fields) (rows inside.held)) r first then))
