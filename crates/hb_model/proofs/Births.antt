-- What the trace of a run never has, and how its links are born.
use Rattle.std.proofs.Common.{◌≡◌, ℕ, Bool, false, ◌||◌, List, [], ◌∷◌, ◌++◌, refl, ap, ap₂, ◌∙◌, sym}
use Rattle.std.specs.List.{list_any}
use Rattle.hb_base.specs.declared.door.Why.{Why}
use Rattle.hb_world.specs.declared.entry.Entry.{Entry}
use Rattle.hb_world.specs.declared.entry.Entry.TheVariants as e
use Rattle.hb_world.specs.Trace.{is_birth_of, is_shut_of}
use Rattle.hb_model.specs.declared.config.NodeConfig.{NodeConfig}
use Rattle.hb_model.specs.Calls.{is_control_of, is_dialled_of}
use Rattle.hb_model.specs.Machine.{Machine}
use Rattle.hb_model.specs.Point.{Point, entry, entry_in, entries}
use Rattle.hb_model.specs.Runs.{MayCome, Steps, StandsFor, begins, goes_on}
use Rattle.hb_model.proofs.Places.{any-grows}

-- each link is dialled to the control plane, and none is shut
pub record Plain (l : ℕ) (trace : List Entry) : Type 0 where
  pub control : list_any (is_control_of l) trace ≡ list_any (is_birth_of l) trace
  pub dialled : list_any (is_dialled_of l) trace ≡ list_any (is_birth_of l) trace
  pub unshut : list_any (is_shut_of l) trace ≡ false

abbrev IsPlain : ℕ → Entry → Type 0
IsPlain l x = (is_control_of l x ≡ is_birth_of l x) × (is_dialled_of l x ≡ is_birth_of l x) × (is_shut_of l x ≡ false)

plain_entry : (g : NodeConfig) (m : Machine) (l : ℕ) (x : Entry) → MayCome g m x → IsPlain l x
plain_entry g m l (e.Accepted k door) may = absurd may
plain_entry g m l (e.Dialled k to why) may =
    (ap (λ (w : Why). is_control_of l (e.Dialled k to w)) may.3, refl, refl)
plain_entry g m l (e.Shut k) may = absurd may
plain_entry g m l _ may = (refl, refl, refl)

plain_more : (l : ℕ) (points : List Point) (p : Point) → Plain l (entries points) → Plain l (entry_in p)
    → Plain l (entries (points ++ p ∷ []))
plain_more l points p h more = record {
  control = any-grows (is_control_of l) points p ∙ ap₂ (λ (a b : Bool). a || b) h.control more.control
      ∙ sym (any-grows (is_birth_of l) points p);
  dialled = any-grows (is_dialled_of l) points p ∙ ap₂ (λ (a b : Bool). a || b) h.dialled more.dialled
      ∙ sym (any-grows (is_birth_of l) points p);
  unshut = any-grows (is_shut_of l) points p ∙ ap₂ (λ (a b : Bool). a || b) h.unshut more.unshut;
}

plain_nothing : (l : ℕ) → Plain l []
plain_nothing l = record { control = refl; dialled = refl; unshut = refl }

plain_point : (g : NodeConfig) (m n : Machine) (l : ℕ) (p : Point) → Steps g m p n → Plain l (entry_in p)
plain_point g m n l (entry x) steps =
    let is = plain_entry g m l x steps.0 in
    record {
      control = ap (λ (b : Bool). b || false) is.0;
      dialled = ap (λ (b : Bool). b || false) is.1;
      unshut = ap (λ (b : Bool). b || false) is.2;
    }
plain_point g m n l _ steps = plain_nothing l

pub plain : (g : NodeConfig) (m : Machine) (points : List Point) → StandsFor g m points → (l : ℕ) → Plain l (entries points)
plain g m points (begins is none) l = rw none (plain_nothing l)
plain g n more (goes_on {m = m} {points = points} stands p steps are) l =
    rw are (plain_more l points p (plain g m points stands l) (plain_point g m n l p steps))
