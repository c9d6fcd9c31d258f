-- What holds of each link while all is quiet holds at each entry of each link that lives and hasn't ended.
use Rattle.std.proofs.Common.{◌≡◌, inl, inr, ℕ, Bool, true, false, List, Some, None, refl, ap, sym, ◌∙◌, subst}
use Rattle.std.proofs.lemmas.Bool.{both_ways}
use Rattle.hb_base.specs.declared.cause.Cause.{Cause}
use Rattle.hb_base.specs.declared.cause.Cause.TheVariants as cause
use Rattle.hb_world.specs.Trace.{lives}
use Rattle.hb_world.specs.declared.entry.Entry.{Entry}
use Rattle.hb_world.specs.declared.entry.Entry.TheVariants as e
use Rattle.hb_world.specs.declared.entry.Way.TheVariants as way
use Rattle.hb_model.specs.declared.config.NodeConfig.{NodeConfig}
use Rattle.hb_model.specs.Discovery.{closing}
use Rattle.hb_model.specs.Machine.{Machine}
use Rattle.hb_model.specs.Point.{Point, entries}
use Rattle.hb_model.specs.Calls.{IsControl}
use Rattle.hb_model.specs.Ends.{end_of}
use Rattle.hb_model.specs.Runs.{IsQuiet, MayCome, StandsFor}
use Rattle.hb_model.proofs.CallsSaid.{seen}
use Rattle.hb_model.proofs.CallsLives.{lived}
use Rattle.hb_model.proofs.DialsHeld.{is_held, held-closing, other-rests, held}
use Rattle.hb_model.proofs.DialsDue.{none_lives}
use Rattle.hb_model.proofs.EndsLaw.{ended_all, closing_is_end}

abbrev pub OfEach : List Point → (ℕ → Type 0) → Type 0
OfEach points P = (l : ℕ) → IsControl l (entries points) → lives l (entries points) ≡ true → end_of l points ≡ None → P l

module _ (g : NodeConfig) (m : Machine) (points : List Point) (stands : StandsFor g m points) (P : ℕ → Type 0)
    (quiet : IsQuiet m → OfEach points P) where
  none_there : m.dials ≡ true → OfEach points P
  none_there due l control living none =
      let h = held g m points stands in
      absurd (both_ways _ (none_lives m points (lived g m points stands) h (h.idle due) l) living)

  some_same : (i j : ℕ) → Some i ≡ Some j → i ≡ j
  some_same i j is = cc

  held_where : (l : ℕ) → lives l (entries points) ≡ true → is_held (m.links l).phase ≡ true
  held_where l living = by (is_held (m.links l).phase) refl
    where
      by : (b : Bool) → is_held (m.links l).phase ≡ b → is_held (m.links l).phase ≡ true
      by true is = is
      by false is =
          absurd (both_ways _ (other-rests (m.links l).phase (seen l points) ((lived g m points stands).fits l) is) living)

  -- the one link that lives is to be closed
  closing_there : (k : ℕ) (why : Cause) → closing (m.links k).phase ≡ Some why → OfEach points P
  closing_there k why is l control living none =
      let h = held g m points stands in
      let mine = h.only k (held-closing (m.links k).phase why is) in
      let ends = closing_is_end m points k why (ended_all g m points stands) is in
      absurd (let here : is_held (m.links l).phase ≡ true = held_where l living in
      let same : Some k ≡ Some l = sym mine ∙ h.only l here in
      let number : k ≡ l = some_same k l same in
      let ended : None ≡ Some why = sym none ∙ subst (λ j. end_of j points ≡ Some why) number ends in cc)

  pub at_once : (x : Entry) → MayCome g m x → OfEach points P
  at_once (e.Accepted k door) may = absurd may
  at_once (e.Dialled k to why) may = none_there may.0
  at_once (e.DialFailed to why) may = none_there may.0
  at_once (e.Opened k) may = quiet may.0
  at_once (e.Came k bytes) may = quiet may.0.0
  at_once (e.Ended k) may = quiet may.0.0
  at_once (e.Broke k) (inl may) = quiet may.0
  at_once (e.Broke k) (inr (inl may)) = quiet may.0
  at_once (e.Broke k) (inr (inr may)) = closing_there k (cause.ConnFault may.0) (ap closing may.1)
  at_once (e.Went k bytes) (inl may, some, rest) = quiet may.0
  at_once (e.Went k bytes) (inr may, some, rest) = closing_there k (cause.ConnFault may.0) (ap closing may.1)
  at_once (e.Balked (way.Listen door at listening)) may = absurd may.1
  at_once (e.Balked (way.Accept door)) may = absurd may.1
  at_once (e.Balked (way.Look k)) may = absurd may.1
  at_once (e.Balked (way.Finish k)) may = quiet may.1.0
  at_once (e.Balked (way.Read k)) may = quiet may.1.0.0
  at_once (e.Balked (way.Write k)) (on, (inl may, some)) = quiet may.0
  at_once (e.Balked (way.Write k)) (on, (inr may, some)) = closing_there k (cause.ConnFault may.0) (ap closing may.1)
  at_once (e.Shut k) may = absurd may
  at_once (e.Closed k why) may = closing_there k why may
  at_once e.Tick may = quiet may
  at_once (e.Wait ready how) may = quiet may
