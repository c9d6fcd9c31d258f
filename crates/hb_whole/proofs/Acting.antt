-- The acts that the proxy gives of the link to the control plane.
use Rattle.std.proofs.Common.{◌≡◌, ℕ, ◌==◌, ◌&&◌, ◌||◌, not, Bool, true, false, cond, List, [], ◌∷◌, ◌++◌, Option, Some, None, refl, ap, sym, ◌∙◌, subst}
use Rattle.std.proofs.lemmas.Bool.{eq-eqb, ne_eqb}
use Rattle.hb_base.specs.declared.cause.Cause.{Cause}
use Rattle.hb_base.specs.declared.note.Note.{Note}
use Rattle.hb_link.proofs.Noted.{takes_none}
use Rattle.hb_links.proofs.Acting.{all_calm}
use Rattle.hb_model.specs.Discovery as d
use Rattle.hb_model.specs.Machine as control
use Rattle.hb_model.specs.Machine.{without}
use Rattle.hb_model.specs.Point as point
use Rattle.hb_model.specs.Runs as model
use Rattle.hb_model.specs.declared.act.Act.TheVariants as own
use Rattle.hb_model.specs.declared.config.NodeConfig.{NodeConfig}
use Rattle.hb_node.specs.State as node
use Rattle.hb_node.specs.State.{State, Shows, number_of}
use Rattle.hb_proxy.specs.Doors.{without_doors}
use Rattle.hb_proxy.specs.Machine.{Machine, with_control}
use Rattle.hb_proxy.specs.Points.{of_control}
use Rattle.hb_proxy.specs.Runs.{Steps, goes_on}
use Rattle.hb_proxy.specs.Seen.{Seen, IsThere}
use Rattle.hb_turns.specs.Shown as shown
use Rattle.hb_world.proofs.TraceLemmas.{any-grows}
use Rattle.hb_world.specs.Trace.{lives, was_born, was_closed, is_close_of}
use Rattle.hb_world.specs.declared.entry.Entry.{Entry}
use Rattle.hb_world.specs.declared.entry.Entry.TheVariants as e
use Rattle.hb_whole.specs.Queue.{told}
use Rattle.hb_whole.specs.Sight.{is_number, owner_of, shown_of}
use Rattle.hb_whole.specs.Stands.{Stands, EndsBy, ControlEnds}
use Rattle.hb_whole.specs.declared.proxy.Proxy.{Proxy}
use Rattle.hb_whole.proofs.Growing.{stood}
use Rattle.hb_whole.proofs.Heard.{number_is}
use Rattle.hb_whole.proofs.Keeping.{few_kept, step_keeps}
use Rattle.hb_whole.proofs.Limited.{limited_then, none_arriving}
use Rattle.hb_whole.proofs.Relays.{gates_calm, plain_calm}
use Rattle.hb_whole.proofs.Routes.{seen_of, lives_then}
use Rattle.hb_whole.proofs.Stirring.{StirsOn, all_stir, none_stir, other_stirs}

-- THE TRACE

-- a link that was closed doesn't live
pub closed_dead : (trace : List Entry) (l : ℕ) (cause : Cause) → lives l (trace ++ e.Closed l cause ∷ []) ≡ false
closed_dead trace l cause =
    ap (λ (b : Bool). was_born l (trace ++ e.Closed l cause ∷ []) && not b)
    (any-grows (is_close_of l) trace (e.Closed l cause) ∙ ap (λ (b : Bool). was_closed l trace || b) (eq-eqb l l refl)
    ∙ either (was_closed l trace))
    ∙ none (was_born l (trace ++ e.Closed l cause ∷ []))
  where
    either : (b : Bool) → (b || true) ≡ true
    either true = refl
    either false = refl

    none : (b : Bool) → (b && false) ≡ false
    none true = refl
    none false = refl

-- one that lives behind it is another
pub another : (trace : List Entry) (l k : ℕ) (cause : Cause) → lives k (trace ++ e.Closed l cause ∷ []) ≡ true → l ≡ k → ⊥
another trace l k cause alive same =
    let dead : lives k (trace ++ e.Closed l cause ∷ []) ≡ false =
    subst (λ (j : ℕ). lives j (trace ++ e.Closed l cause ∷ []) ≡ false) same (closed_dead trace l cause) in
    absurd cc

-- THE CONTROL PLANE'S LINK

closing_there : (phase : d.Phase) (cause : Cause) → d.closing phase ≡ Some cause → IsThere phase
closing_there d.unborn cause is = absurd cc
closing_there d.closed cause is = absurd cc
closing_there d.dialling cause is = absurd cc
closing_there d.live cause is = absurd cc
closing_there (d.faulted code) cause is = tt
closing_there (d.ending why) cause is = tt

closing_for : (phase : d.Phase) (cause c : Cause) → d.closing phase ≡ Some cause → ControlEnds c phase → cause ≡ c
closing_for d.unborn cause c is ends = absurd cc
closing_for d.closed cause c is ends = absurd cc
closing_for d.dialling cause c is ends = absurd cc
closing_for d.live cause c is ends = absurd cc
closing_for (d.faulted code) cause c is ends = absurd ends
closing_for (d.ending why) cause c is ends = let same : why ≡ cause = cc in sym same ∙ ends

-- a close keeps how the run ends
closed_ends : (g : NodeConfig) (x : Machine) (l : ℕ) (cause : Cause) (ends : Option Cause) → EndsBy ends x
    → EndsBy ends (with_control (point.entry (e.Closed l cause)) (control.entered g (e.Closed l cause) x.control) x)
closed_ends g x l cause None is = is
closed_ends g x l cause (Some c) is = (
  is.0,
  record {
    control = λ k. by (l == k) k (is.1.control k);
    links = λ k. is.1.links k;
    tunnels = λ k s. is.1.tunnels k s;
    plain = λ k. is.1.plain k;
    gates = λ n. is.1.gates n;
  },
)
  where
    by : (b : Bool) (k : ℕ) → ControlEnds c (x.control.links k).phase
        → ControlEnds c (cond b (control.with_phase (λ p. d.closed) (x.control.links k)) (x.control.links k)).phase
    by true k so = tt
    by false k so = so

-- the control plane's link is closed
module _ (taken : List Note) (p : Proxy) (n : State) (l : ℕ) (cause : Cause)
    (acts : node.Acts (Some (own.Close l cause)) p.control n) (trace : List Entry) (s : Stands taken p trace) where
  abbrev x : Machine
  x = s.machine

  abbrev after : Proxy
  after = record p { control = n; dials = None }

  did : model.MayCome p.control.config x.control (e.Closed l cause)
      × Shows n (control.entered p.control.config (e.Closed l cause) x.control)
  did = acts.2 x.control s.control

  there : IsThere (x.control.links l).phase
  there = closing_there (x.control.links l).phase cause did.0

  seen : Seen x (without_doors trace)
  seen = seen_of taken p trace s

  pub close_lives : lives l trace ≡ true
  close_lives = sym (lives_then trace l) ∙ seen.control l there

  pub close_stands : Stands taken after (trace ++ e.Closed l cause ∷ [])
  close_stands =
      let q = point.entry (e.Closed l cause) in
      let m2 = control.entered p.control.config (e.Closed l cause) x.control in
      let steps : Steps p.control.config x (of_control q) (with_control q m2 x) = (
        m2,
        (did.0, refl),
        record {
          birth = tt;
          links = λ k. all_calm p.side.links x.inbound s.links k;
          plain = λ k. plain_calm p.side.relays s.relays k;
          gates = gates_calm x s.relays true refl;
        },
        refl,
      ) in
      stood taken p after trace (e.Closed l cause) s (with_control q m2 x) (of_control q ∷ []) acts.0
      (goes_on s.run (of_control q) steps refl) refl refl did.1 s.links s.relays (takes_none (told p.side.notes)) refl
      (limited_then p after x (with_control q m2 x) refl acts.0 (λ is. is)
      (few_kept p.control.config x (with_control q m2 x) (step_keeps p.control.config x (with_control q m2 x) (of_control q) tt steps)
      (plain_calm p.side.relays s.relays) (none_arriving p.side.links x.inbound s.links)) s.limited)
      (closed_ends p.control.config x l cause p.ends_for s.ends) refl

  pub close_cause : (c : Cause) → p.ends_for ≡ Some c → cause ≡ c
  close_cause c ends =
      closing_for (x.control.links l).phase cause c did.0
      ((subst (λ (o : Option Cause). EndsBy o x) ends s.ends).1.control l)

  -- no link that lives is the control plane's then
  old_number : number_of p.control.link ≡ Some l
  old_number = number_is p.control.link x.control s.control.link ∙ seen.only l there

  new_number : number_of n.link ≡ None
  new_number =
      number_is n.link (control.entered p.control.config (e.Closed l cause) x.control) did.1.link
      ∙ ap (λ (o : Option ℕ). without l o) (seen.only l there) ∙ ap (λ (b : Bool). cond b None (Some l)) (eq-eqb l l refl)

  pub close_stirs : shown.Stirs (trace ++ e.Closed l cause ∷ []) (shown_of p) (shown_of after)
  close_stirs = all_stir (trace ++ e.Closed l cause ∷ []) p after refl by
    where
      by : (k : ℕ) → lives k (trace ++ e.Closed l cause ∷ []) ≡ true → StirsOn k p after (owner_of p k) (owner_of after k)
      by k alive =
          other_stirs k p after (ap (λ (o : Option ℕ). is_number o k) old_number ∙ ne_eqb l k (another trace l k cause alive))
          (ap (λ (o : Option ℕ). is_number o k) new_number) (none_stir p.side k)
