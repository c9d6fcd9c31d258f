-- Links of which one stream alone changes.
use Rattle.std.proofs.Common.{◌≡◌, inl, inr, ℕ, ◌≤◌, Bool, true, false, cond, IsSome, is_some, Option, Some, None, ap, sym, ◌∙◌, subst}
use Rattle.std.proofs.lemmas.Bool.{cases_eq, eq-eqb, ne_eqb}
use Rattle.std.specs.Option.{option_map}
use Rattle.std.specs.FinMap.{get, insert, remove}
use Rattle.hb_base.specs.declared.cause.Cause.{Cause}
use Rattle.hb_frames.specs.Numbers.{largest}
use Rattle.hb_map.proofs.Laws.{put_here, put_elsewhere, removed_here, removed_elsewhere, written_where_some}
use Rattle.hb_map.specs.Keyed.{written}
use Rattle.hb_gateway.specs.Gateway.{Gateway, at_stream}
use Rattle.hb_gateway.specs.Gateway as m
use Rattle.hb_gate.specs.Shows.{IsStream, ShowsStream}
use Rattle.hb_gate.specs.Streams.{Map, ChangesAt, is_left, kept_by, kept}
use Rattle.hb_gate.specs.declared.stream.Stage.{Stage}
use Rattle.hb_gate.specs.declared.stream.Stage.TheVariants.{Asked, Carrying, Failing, Over}
use Rattle.hb_gate.specs.declared.stream.Stream.{Stream}

pub put_changes : (streams : Map) (s : ℕ) (new : Stream) → ChangesAt s (Some new) streams (insert streams s new)
put_changes streams s new = record { here = put_here streams s new; others = λ j apart. put_elsewhere streams s new j apart }

pub gone_changes : (streams : Map) (s : ℕ) → ChangesAt s None streams (remove streams s)
gone_changes streams s = record { here = removed_here streams s; others = λ j apart. removed_elsewhere streams s j apart }

-- a stream that is there is written, and taken out where nothing is left of it
module _ (m : Map) (s : ℕ) (old new : Stream) (now : Map) (there : get m s ≡ Some old) (is : now ≡ written m s new) where
  pub written_changes : ChangesAt s (Some new) m now
  written_changes =
      subst (λ (n : Map). ChangesAt s (Some new) m n) (sym (is ∙ written_where_some m s new (ap is_some there))) (put_changes m s new)

  pub changes_here : (change : Stream → Stream) → new ≡ change old → ChangesAt s (option_map change (get m s)) m now
  changes_here change becomes =
      subst (λ (o : Option Stream). ChangesAt s o m now) (ap Some becomes ∙ sym (ap (option_map change) there)) written_changes

  pub kept_changes : is_left new ≡ false → ChangesAt s (kept new) m now
  kept_changes left = subst (λ (b : Bool). ChangesAt s (kept_by b new) m now) (sym left) written_changes

  pub behind_changes : ChangesAt s None m (remove now s)
  behind_changes = record {
    here = removed_here now s;
    others = λ j apart. removed_elsewhere now s j apart ∙ written_changes.others j apart;
  }

  pub left_changes : is_left new ≡ true → ChangesAt s (kept new) m (remove now s)
  left_changes left = subst (λ (b : Bool). ChangesAt s (kept_by b new) m (remove now s)) (sym left) behind_changes

-- one of which nothing is left is taken out
pub out_changes : (m : Map) (s : ℕ) (new : Stream) (now : Map) → is_left new ≡ true → now ≡ remove m s → ChangesAt s (kept new) m now
out_changes m s new now left is =
    subst (λ (n : Map). ChangesAt s (kept new) m n) (sym is)
    (subst (λ (b : Bool). ChangesAt s (kept_by b new) m (remove m s)) (sym left) (gone_changes m s))

module _ (s : ℕ) (o : Option Stream) (old new : Map) (changed : ChangesAt s o old new) where
  pub at_shown : (change : m.Stream → m.Stream) (x : Gateway) → ((j : ℕ) → ShowsStream (get old j) (x.streams j))
      → ShowsStream o (change (x.streams s)) → (j : ℕ) → ShowsStream (get new j) ((at_stream s change x).streams j)
  at_shown change x each here j = elim (cases_eq j s) [
    | inl same ↦
        subst (λ (b : Bool). ShowsStream (get new j) (cond b (change (x.streams j)) (x.streams j))) (sym (eq-eqb j s same))
        (subst (λ (p : Option Stream). ShowsStream p (change (x.streams j))) (sym (ap (get new) same ∙ changed.here))
        (subst (λ (i : ℕ). ShowsStream o (change (x.streams i))) (sym same) here))
    | inr apart ↦
        subst (λ (b : Bool). ShowsStream (get new j) (cond b (change (x.streams j)) (x.streams j))) (sym (ne_eqb j s apart))
        (subst (λ (p : Option Stream). ShowsStream p (x.streams j)) (sym (changed.others j apart)) (each j))
  ]

  pub numbered_at : s ≤ largest → ((j : ℕ) → IsSome (get old j) → j ≤ largest) → (j : ℕ) → IsSome (get new j) → j ≤ largest
  numbered_at few each j some = elim (cases_eq j s) [
    | inl same ↦ subst (λ (i : ℕ). i ≤ largest) (sym same) few
    | inr apart ↦ each j (sym (ap is_some (changed.others j apart)) ∙ some)
  ]

-- a stream of which nothing is left, and one of which something is
shown_by : (stage : Stage) (mail : Option Cause) (k : Stream) (t : m.Stream) → IsStream (record k { stage = stage; mail = mail }) t
    → ShowsStream (kept (record k { stage = stage; mail = mail })) t
shown_by Over None k t shown = (inr shown.stage, shown.mail)
shown_by Over (Some why) k t shown = shown
shown_by Asked mail k t shown = shown
shown_by Carrying mail k t shown = shown
shown_by (Failing code) mail k t shown = shown

pub kept_shown : (k : Stream) (t : m.Stream) → IsStream k t → ShowsStream (kept k) t
kept_shown k t shown = shown_by k.stage k.mail k t shown
