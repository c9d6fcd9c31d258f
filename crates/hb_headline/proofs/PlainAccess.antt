-- A lawful trace admits each byte that goes on a link of the plain door, or to its upstream.
use Rattle.std.proofs.Common.{◌≡◌, ℕ, true, List, ◌∷◌, fold, refl, ap, sym, ◌∙◌, subst}
use Rattle.std.proofs.lemmas.Bool.{false≢true}
use Rattle.hb_base.specs.declared.door.Door.{Door}
use Rattle.hb_base.specs.declared.door.Door.TheVariants as door
use Rattle.hb_captured.specs.Captured.{judges}
use Rattle.hb_captured.specs.Sides.{door_of}
use Rattle.hb_front.specs.Reading.{IsAnswer, Whole}
use Rattle.hb_laws.specs.Lawful.{Laws}
use Rattle.hb_laws.proofs.BirthDoor.{door_told}
use Rattle.hb_laws.proofs.Doors.{same_without, came_without}
use Rattle.hb_model.specs.Messages.{held}
use Rattle.hb_model.specs.declared.config.NodeConfig.{NodeConfig}
use Rattle.hb_proxy.specs.Access.{PlainIsAdmitted}
use Rattle.hb_proxy.specs.Doors.{is_at_door, without_doors}
use Rattle.hb_proxy.specs.Held.{at_start}
use Rattle.hb_proxy.specs.Machine.{Machine}
use Rattle.hb_proxy.specs.Owners.{owner, plain_link}
use Rattle.hb_proxy.specs.Points.{Point, entries, plain_of, control_of}
use Rattle.hb_proxy.specs.Runs.{StandsFor}
use Rattle.hb_world.specs.Trace.{recv}
use Rattle.hb_world.specs.declared.entry.Entry.{Entry}
use Rattle.hb_world.specs.declared.entry.Entry.TheVariants as e
use Rattle.hb_headline.specs.Access.{accepted_at, door_at, AdmitsPlain}
use Rattle.hb_headline.proofs.Relay.{header_told}

abbrev door_from : ℕ → List Entry → Door → Door
door_from l trace d = fold (accepted_at l) d trace

door_without : (l : ℕ) (trace : List Entry) → door_at l (without_doors trace) ≡ door_at l trace
door_without l trace =
    ap (λ (f : Door → Door). f door.Plain)
    (same_without (door_from l)
    (λ z a b same. ap {B = Door → Door} (λ (f : Door → Door) (d : Door). f (accepted_at l d z)) same) none trace)
  where
    none : (z : Entry) (rest : List Entry) → is_at_door z ≡ true → door_from l (z ∷ rest) ≡ door_from l rest
    none (e.Accepted k d) rest at = absurd (false≢true at)
    none _ rest at = refl

module _ (g : NodeConfig) (x : Machine) (front : List Point) (run : StandsFor g x front) (before : List Entry)
    (before_is : entries front ≡ without_doors before) (laws : Laws g front) (l : ℕ) (own : owner l (entries front) ≡ plain_link)
  where
    pub door_is : door_of (plain_of l front) ≡ door_at l before
    door_is = door_told l g x front run own ∙ ap (door_at l) before_is ∙ door_without l before

    pub judges_it : door_at l before ≡ door.Plain → judges (door_of (plain_of l front)) ≡ true
    judges_it at = ap judges (door_is ∙ at)

    pub admits : PlainIsAdmitted g front l → AdmitsPlain (held g (control_of front)) before l
    admits is = record {
      seen = is.seen;
      fronted = subst (λ (bs : List ℕ). IsAnswer bs (Whole is.seen))
          (sym (laws.sides.plain l own).came ∙ ap (recv l) before_is ∙ came_without l before)
          (header_told l (at_start g) (plain_of l front) (laws.plain l).verdicts is.seen is.told);
      admitted = is.admitted;
    }
