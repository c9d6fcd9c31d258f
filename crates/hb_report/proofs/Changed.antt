-- Tallies once one link's was changed.
use Rattle.std.proofs.Common.{◌≡◌, ℕ, ◌+◌, ◌==◌, Bool, true, false, Option, Some, refl, ap, sym, ◌∙◌, length, List}
use Rattle.std.specs.Prelude.{if◌then◌else◌}
use Rattle.std.specs.Option.{option_or}
use Rattle.std.specs.Ordering.{nat_cmp}
use Rattle.std.specs.FinMap.{FinMap, get, insert, empty, get-empty}
use Rattle.std.proofs.lemmas.Bool.{eqb-true, eq-eqb}
use Rattle.hb_base.specs.declared.cause.Cause.{Cause}
use Rattle.hb_map.proofs.Laws.{put_here, put_elsewhere}
use Rattle.hb_world.specs.declared.entry.Entry.{Entry}
use Rattle.hb_world.specs.declared.entry.Entry.TheVariants.{Came, Went, Closed}
use Rattle.hb_report.specs.declared.tallies.Tally.{Tally}
use Rattle.hb_report.specs.Tallies.{nothing, or_nothing, tally_in, tally_after}

pub nothing_in : (m : FinMap nat_cmp Tally) (link : ℕ) → m ≡ empty → tally_in m link ≡ nothing
nothing_in m link is = ap or_nothing (ap (λ (n : FinMap nat_cmp Tally). get n link) is ∙ get-empty nat_cmp link)

-- a change of one link's tally is a change at that link alone
changed : (f : Tally → Tally) (m n : FinMap nat_cmp Tally) (l : ℕ) (v : Tally) → v ≡ f (tally_in m l) → n ≡ insert m l v → (link : ℕ)
    → tally_in n link ≡ (if l == link then f (tally_in m link) else tally_in m link)
changed f m n l v value is link = by (l == link) refl
  where
    by : (b : Bool) → (l == link) ≡ b → tally_in n link ≡ (if b then f (tally_in m link) else tally_in m link)
    by true there =
        let same : l ≡ link = eqb-true l link there in
        ap (tally_in n) (sym same)
        ∙ ap or_nothing (ap (λ (k : FinMap nat_cmp Tally). get k l) is ∙ put_here m l v)
        ∙ value ∙ ap (λ k. f (tally_in m k)) same
    by false other =
        ap or_nothing (ap (λ (k : FinMap nat_cmp Tally). get k link) is
        ∙ put_elsewhere m l v link (λ same. let never : true ≡ false = sym (eq-eqb l link (sym same)) ∙ other in cc))

module _ (m n : FinMap nat_cmp Tally) (l : ℕ) (t : Tally) (e : Entry) where
  pub after_came : (bytes : List ℕ) (sum : ℕ) → e ≡ Came l bytes → t ≡ tally_in m l → sum ≡ t.received + length bytes
      → n ≡ insert m l (record t { received = sum }) → (link : ℕ) → tally_in n link ≡ tally_after link (tally_in m link) e
  after_came bytes sum entry old is put link =
      changed (λ s. record s { received = s.received + length bytes }) m n l (record t { received = sum })
      (ap (λ k. record t { received = k }) is ∙ ap (λ (s : Tally). record s { received = s.received + length bytes }) old) put link
      ∙ ap (tally_after link (tally_in m link)) (sym entry)

  pub after_went : (bytes : List ℕ) (sum : ℕ) → e ≡ Went l bytes → t ≡ tally_in m l → sum ≡ t.sent + length bytes
      → n ≡ insert m l (record t { sent = sum }) → (link : ℕ) → tally_in n link ≡ tally_after link (tally_in m link) e
  after_went bytes sum entry old is put link =
      changed (λ s. record s { sent = s.sent + length bytes }) m n l (record t { sent = sum })
      (ap (λ k. record t { sent = k }) is ∙ ap (λ (s : Tally). record s { sent = s.sent + length bytes }) old) put link
      ∙ ap (tally_after link (tally_in m link)) (sym entry)

  pub after_closed : (cause : Cause) (first : Option Cause) → e ≡ Closed l cause → t ≡ tally_in m l
      → first ≡ option_or t.cause (Some cause) → n ≡ insert m l (record t { cause = first })
      → (link : ℕ) → tally_in n link ≡ tally_after link (tally_in m link) e
  after_closed cause first entry old is put link =
      changed (λ s. record s { cause = option_or s.cause (Some cause) }) m n l (record t { cause = first })
      (ap (λ c. record t { cause = c }) is ∙ ap (λ (s : Tally). record s { cause = option_or s.cause (Some cause) }) old) put link
      ∙ ap (tally_after link (tally_in m link)) (sym entry)
