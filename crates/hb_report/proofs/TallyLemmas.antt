-- What a trace says of a link once one more entry stands at its end.
use Rattle.std.proofs.Common.{◌≡◌, ℕ, ◌+◌, ◌==◌, true, false, List, [], ◌∷◌, ◌++◌, length, Option, Some, None, refl, ap, sym, ◌∙◌, ◌<◌}
use Rattle.std.proofs.Common.{get_or, take, length-append}
use Rattle.std.proofs.Math.Nat.{add-zero}
use Rattle.std.proofs.lemmas.List.{take_more}
use Rattle.std.proofs.lemmas.List.Elements.{filter_map-append}
use Rattle.std.specs.Prelude.{if◌then◌else◌, slice_get, filter_map}
use Rattle.std.specs.List.{cons_option}
use Rattle.std.specs.Option.{option_or}
use Rattle.hb_base.specs.declared.cause.Cause.{Cause}
use Rattle.hb_world.specs.declared.entry.Entry.{Entry}
use Rattle.hb_world.specs.declared.entry.Entry.TheVariants.{Accepted, Dialled, DialFailed, Opened, Came, Ended, Broke, Went, Balked}
use Rattle.hb_world.specs.declared.entry.Entry.TheVariants.{Shut, Closed, Tick, Wait}
use Rattle.hb_world.specs.Trace.{recv, sent, came_on, went_on}
use Rattle.hb_world.proofs.TraceLemmas.{recv-grows, sent-grows}
use Rattle.hb_report.specs.declared.tallies.Tally.{Tally}
use Rattle.hb_report.specs.Tally.{closes_with, cause_of, tally_of}
use Rattle.hb_report.specs.Tallies.{tally_after}

-- nothing comes behind a cause that is there
or_none : (c : Option Cause) → option_or c None ≡ c
or_none None = refl
or_none (Some c) = refl

first_of_more : (cs : List Cause) (c : Option Cause) → slice_get (cs ++ cons_option c []) 0 ≡ option_or (slice_get cs 0) c
first_of_more [] None = refl
first_of_more [] (Some c) = refl
first_of_more (d ∷ ds) c = refl

cause-grows : (link : ℕ) (trace : List Entry) (e : Entry)
    → cause_of link (trace ++ e ∷ []) ≡ option_or (cause_of link trace) (closes_with link e)
cause-grows link trace e =
    ap (λ (cs : List Cause). slice_get cs 0) (filter_map-append (closes_with link) trace (e ∷ []))
    ∙ first_of_more (filter_map (closes_with link) trace) (closes_with link e)

counts : ℕ → ℕ → Option Cause → Tally
counts received sent cause = record { received = received; sent = sent; cause = cause }

-- a tally with bytes that came and went and a cause behind the one it has
more : Tally → List ℕ → List ℕ → Option Cause → Tally
unfolding counts
more t came went cause = counts (t.received + length came) (t.sent + length went) (option_or t.cause cause)

counts_are : {r q s o : ℕ} {c d : Option Cause} → r ≡ q → s ≡ o → c ≡ d → counts r s c ≡ counts q o d
counts_are {r} {q} {s} {o} {c} {d} came went cause =
    ap (λ n. counts n s c) came ∙ ap (λ n. counts q n c) went ∙ ap (counts q o) cause

same : (t : Tally) → more t [] [] None ≡ t
unfolding more
same t = counts_are (add-zero t.received) (add-zero t.sent) (or_none t.cause)

-- what an entry adds to the tally of a link
step : (link : ℕ) (t : Tally) (e : Entry) → more t (came_on link e) (went_on link e) (closes_with link e) ≡ tally_after link t e
unfolding more
step link t (Came l bytes) =
    elim (l == link) as (λ b. more t (if b then bytes else []) [] None
    ≡ (if b then record t { received = t.received + length bytes } else t)) [
      | true ↦ counts_are refl (add-zero t.sent) (or_none t.cause)
      | false ↦ same t
    ]
step link t (Went l bytes) =
    elim (l == link) as (λ b. more t [] (if b then bytes else []) None
    ≡ (if b then record t { sent = t.sent + length bytes } else t)) [
      | true ↦ counts_are (add-zero t.received) refl (or_none t.cause)
      | false ↦ same t
    ]
step link t (Closed l cause) =
    elim (l == link) as (λ b. more t [] [] (if b then Some cause else None)
    ≡ (if b then record t { cause = option_or t.cause (Some cause) } else t)) [
      | true ↦ counts_are (add-zero t.received) (add-zero t.sent) refl
      | false ↦ same t
    ]
step link t (Accepted l door) = same t
step link t (Dialled l to why) = same t
step link t (DialFailed to why) = same t
step link t (Opened l) = same t
step link t (Ended l) = same t
step link t (Broke l) = same t
step link t (Balked way) = same t
step link t (Shut l) = same t
step link t Tick = same t
step link t (Wait _ _) = same t

pub tally-grows : (link : ℕ) (trace : List Entry) (e : Entry) → tally_of link (trace ++ e ∷ []) ≡ tally_after link (tally_of link trace) e
unfolding more
tally-grows link trace e =
    counts_are (ap length (recv-grows link trace e) ∙ length-append (recv link trace) (came_on link e))
    (ap length (sent-grows link trace e) ∙ length-append (sent link trace) (went_on link e)) (cause-grows link trace e)
    ∙ step link (tally_of link trace) e

-- the tally of a trace's entries up to one, and of that one with them
pub tally-next : (link : ℕ) (trace : List Entry) (i : ℕ) (e : Entry) (now : Tally) → i < length trace → e ≡ get_or trace i e
    → now ≡ tally_after link (tally_of link (take i trace)) e → now ≡ tally_of link (take (i + 1) trace)
tally-next link trace i e now lt at is =
    is ∙ sym (tally-grows link (take i trace) e)
    ∙ ap (tally_of link) (sym (take_more trace i e lt ∙ ap (λ (x : Entry). take i trace ++ x ∷ []) (sym at)))
