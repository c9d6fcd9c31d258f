-- Which entries may come on the link to the control plane, where the event loop tells them.
use Rattle.std.proofs.Common.{◌≡◌, ◌⊎◌, inl, inr, ℕ, ◌<◌, Bool, true, false, if◌then◌else◌, [], length, Option, Some, None, refl, ap, sym, ◌∙◌, arith}
use Rattle.std.proofs.lemmas.Bool.{eqb-true}
use Rattle.hb_model.specs.Discovery as d
use Rattle.hb_model.specs.Discovery.{Discovery, Phase}
use Rattle.hb_model.specs.Machine.{Machine as Control}
use Rattle.hb_model.specs.Runs as model
use Rattle.hb_model.specs.Runs.{IsCalmBy, wanted_by, output_by, wants, output}
use Rattle.hb_node.specs.Links.{Agrees, AgreesBy, part_of}
use Rattle.hb_node.specs.Phases.{phase_of, is_faulted as is_faulted_here}
use Rattle.hb_node.specs.State.{ShowsLink, number_of, wants_on, output_on, says_last}
use Rattle.hb_node.specs.declared.link.Link.{Link}
use Rattle.hb_node.specs.declared.phase.Phase.{Phase as Here}
use Rattle.hb_node.specs.declared.phase.Phase.TheVariants as here
use Rattle.hb_proxy.specs.Machine.{Machine}
use Rattle.hb_proxy.specs.Runs.{ControlMayCome, BirthMayCome, goes_first}
use Rattle.hb_proxy.specs.Seen.{IsThere, OpenBy}
use Rattle.hb_world.specs.declared.entry.Entry.{Entry}
use Rattle.hb_whole.specs.Sight.{is_number}
use Rattle.hb_whole.proofs.Free.{Free, lets_all, plain_lets_all}

-- THE PHASE, BY WHAT MAY BE DONE

pub dialling_of : (phase : Phase) (y : Discovery) (opens : Bool) → IsThere phase → IsCalmBy phase y → OpenBy phase opens → opens ≡ false
    → phase ≡ d.dialling
dialling_of d.unborn y opens there calm told is = absurd there
dialling_of d.closed y opens there calm told is = absurd there
dialling_of d.dialling y opens there calm told is = refl
dialling_of d.live y opens there calm told is = absurd cc
dialling_of (d.faulted code) y opens there calm told is = absurd calm
dialling_of (d.ending why) y opens there calm told is = absurd calm

pub going_of : (phase : Phase) (y : Discovery) → IsThere phase → IsCalmBy phase y → (phase ≡ d.dialling) ⊎ (phase ≡ d.live)
going_of d.unborn y there calm = absurd there
going_of d.closed y there calm = absurd there
going_of d.dialling y there calm = inl refl
going_of d.live y there calm = inr refl
going_of (d.faulted code) y there calm = absurd calm
going_of (d.ending why) y there calm = absurd calm

pub live_of : (phase : Phase) (y : Discovery) → 0 < wanted_by phase y → phase ≡ d.live
live_of d.unborn y some = absurd (omega arith)
live_of d.closed y some = absurd (omega arith)
live_of d.dialling y some = absurd (omega arith)
live_of d.live y some = refl
live_of (d.faulted code) y some = absurd (omega arith)
live_of (d.ending why) y some = absurd (omega arith)

pub writes_of : (phase : Phase) (y : Discovery) → 0 < length (output_by phase y)
    → (phase ≡ d.live) ⊎ ((code : ℕ) × (phase ≡ d.faulted code))
writes_of d.unborn y some = absurd (omega arith)
writes_of d.closed y some = absurd (omega arith)
writes_of d.dialling y some = absurd (omega arith)
writes_of d.live y some = inl refl
writes_of (d.faulted code) y some = inr (code, refl)
writes_of (d.ending why) y some = absurd (omega arith)

-- WHAT THE CODE SHOWS OF IT

wants_agree : (x y : Discovery) → Agrees x y → wanted_by x.phase x ≡ wanted_by y.phase y
wants_agree x y agrees = by y.phase refl agrees.rest
  where
    zero_in : (phase : Phase) → y.phase ≡ phase → wanted_by phase x ≡ 0 → wanted_by phase y ≡ 0 → wanted_by x.phase x ≡ wanted_by y.phase y
    zero_in phase is one other =
        ap (λ (q : Phase). wanted_by q x) (agrees.phase ∙ is) ∙ one ∙ sym other ∙ sym (ap (λ (q : Phase). wanted_by q y) is)

    by : (phase : Phase) → y.phase ≡ phase → AgreesBy phase x y → wanted_by x.phase x ≡ wanted_by y.phase y
    by d.unborn is same = zero_in d.unborn is refl refl
    by d.closed is same = zero_in d.closed is refl refl
    by d.dialling is same = zero_in d.dialling is refl refl
    by d.live is same = ap (λ (w : Discovery). wanted_by w.phase w) same
    by (d.faulted code) is same = zero_in (d.faulted code) is refl refl
    by (d.ending why) is same = zero_in (d.ending why) is refl refl

output_agree : (x y : Discovery) → Agrees x y → output_by x.phase x ≡ output_by y.phase y
output_agree x y agrees = by y.phase refl agrees.rest
  where
    both : (phase : Phase) → y.phase ≡ phase → output_by phase x ≡ output_by phase y → output_by x.phase x ≡ output_by y.phase y
    both phase is same =
        ap (λ (q : Phase). output_by q x) (agrees.phase ∙ is) ∙ same ∙ sym (ap (λ (q : Phase). output_by q y) is)

    by : (phase : Phase) → y.phase ≡ phase → AgreesBy phase x y → output_by x.phase x ≡ output_by y.phase y
    by d.unborn is same = both d.unborn is refl
    by d.closed is same = both d.closed is refl
    by d.dialling is same = both d.dialling is refl
    by d.live is same = ap (λ (w : Discovery). output_by w.phase w) same
    by (d.faulted code) is same = both (d.faulted code) is same
    by (d.ending why) is same = both (d.ending why) is refl

pub wants_owned : (o : Option Link) (x : Control) (l : ℕ) → ShowsLink o x → is_number (number_of o) l ≡ true → wants_on o l ≡ wants x l
wants_owned None x l shows is = absurd cc
wants_owned (Some k) x l shows is =
    ap (λ (b : Bool). if b then wanted_by (phase_of k.phase) (part_of k) else 0) is
    ∙ sym (wants_agree (x.links k.number) (part_of k) shows.2) ∙ ap (λ (j : ℕ). wants x j) (eqb-true k.number l is)

pub output_owned : (o : Option Link) (x : Control) (l : ℕ) → ShowsLink o x → is_number (number_of o) l ≡ true
    → output_on o l ≡ output x l
output_owned None x l shows is = absurd cc
output_owned (Some k) x l shows is =
    ap (λ (b : Bool). if b then output_by (phase_of k.phase) (part_of k) else []) is
    ∙ sym (output_agree (x.links k.number) (part_of k) shows.2) ∙ ap (λ (j : ℕ). output x j) (eqb-true k.number l is)

faulted_here : (s : Here) → is_faulted_here s ≡ true → (code : ℕ) × (phase_of s ≡ d.faulted code)
faulted_here here.Dialling is = absurd cc
faulted_here here.Live is = absurd cc
faulted_here (here.Faulted code) is = (code, refl)
faulted_here (here.Ending why) is = absurd cc

pub last_owned : (o : Option Link) (x : Control) (l : ℕ) → ShowsLink o x → is_number (number_of o) l ≡ true → says_last o ≡ true
    → model.IsFaulted x l
last_owned None x l shows is last = absurd cc
last_owned (Some k) x l shows is last =
    let at = faulted_here k.phase last in
    (at.0, ap (λ (j : ℕ). (x.links j).phase) (sym (eqb-true k.number l is)) ∙ shows.2.phase ∙ at.1)

-- WHICH ENTRIES MAY COME

-- nothing more happens by itself elsewhere
pub free_control : (x : Machine) (z : Entry) → Free x → BirthMayCome x z → ControlMayCome x z
free_control x z free birth = record {
  birth = birth;
  links = λ l. lets_all (goes_first x.control z) (x.inbound l) (free.links l);
  plain = λ l. plain_lets_all (goes_first x.control z) (x.plain l) (free.plain l);
  gates = free.gates (goes_first x.control z);
}

module _ (x : Machine) (l : ℕ) (free : Free x) (there : IsThere (x.control.links l).phase) (opens : Bool)
    (told : OpenBy (x.control.links l).phase opens) where
  pub opened_control : opens ≡ false → model.IsQuietAt x.control l d.dialling
  opened_control closed =
      (free.control, dialling_of (x.control.links l).phase (x.control.links l) opens there (free.control.calm l) told closed)
