-- What clap's builder makes of one more part, and of one more command.
use Rattle.std.proofs.Common.{◌≡◌, ◌+◌, ◌<◌, ◌==◌, ℕ, Bool, false, List, [], ◌∷◌, ◌++◌, map, length, take, get_or, sym, ap, ap₂, ◌∙◌, arith}
use Rattle.std.proofs.lemmas.Bool.Decides.{nat_tests}
use Rattle.std.proofs.lemmas.List.{map-append, take_more}
use Rattle.clap.specs.Simple.{App, Shape, new_shape, with_rule, with_subcommand}
use Rattle.clap.specs.Walk.{Rule, Text}
use Rattle.hb_options.specs.declared.part.Declaration.{Declaration}
use Rattle.hb_options.specs.declared.part.Part.{Part as Declared}
use Rattle.hb_options.specs.Given.{part_of, command_of}
use Rattle.hb_options.specs.Items.{rule, shape, alone_app, app}

grows : {A B C : Type 0} (f : A → B) (g : B → C) (xs : List A) (i : ℕ) (d : A) → i < length xs
    → map g (map f (take (i + 1) xs)) ≡ map g (map f (take i xs)) ++ g (f (get_or xs i d)) ∷ []
grows f g xs i d below =
    ap (λ l. map g (map f l)) (take_more xs i d below)
    ∙ ap (map g) (map-append f (take i xs) (get_or xs i d ∷ [])) ∙ map-append g (map f (take i xs)) (f (get_or xs i d) ∷ [])

-- a command of the first parts
abbrev pub command_so_far : Text → List Declared → ℕ → App
command_so_far name parts i = alone_app (record { name = name; parts = map part_of (take i parts) })

pub part_added : (name : Text) (parts : List Declared) (i : ℕ) (d : Declared) → i < length parts
    → with_rule (command_so_far name parts i) (rule (part_of (get_or parts i d))) ≡ command_so_far name parts (i + 1)
part_added name parts i d below =
    ap (λ (rules : List Rule). record { top = record (new_shape name) { rules = rules }; subs = [] }) (sym (grows part_of rule parts i d below))

-- a program of the first commands; without any it would be a command by itself
abbrev pub program_so_far : Text → List Declaration → ℕ → App
program_so_far name commands i = record (app name (map command_of (take i commands))) { top = record (app name []).top { is_leaf = i == 0 } }

pub command_added : (name : Text) (commands : List Declaration) (i : ℕ) (d : Declaration) → i < length commands
    → with_subcommand (program_so_far name commands i) (shape (command_of (get_or commands i d))) ≡ program_so_far name commands (i + 1)
command_added name commands i d below =
    let some : false ≡ (i + 1 == 0) = grind (arith, nat_tests) in
    ap₂ (λ (leaf : Bool) (subs : List Shape). record { top = record (app name []).top { is_leaf = leaf }; subs = subs })
    some (sym (grows command_of shape commands i d below))
