-- What next_act of the proxy gives, by what its parts gave.
use Rattle.std.proofs.Common.{◌≡◌, true, Option, Some, None, IfNone, IfSome, refl, ap, sym, ◌∙◌, subst}
use Rattle.hb_base.specs.declared.cause.Cause.{Cause}
use Rattle.hb_links.specs.Acts as links
use Rattle.hb_links.specs.Busy as busy
use Rattle.hb_links.specs.Load.{Recounts}
use Rattle.hb_links.specs.Stirring as links_stirring
use Rattle.hb_links.specs.declared.links.Links.{Links}
use Rattle.hb_model.specs.declared.act.Act.{Act as ControlAct}
use Rattle.hb_node.specs.State as node
use Rattle.hb_node.specs.State.{State, due_of}
use Rattle.hb_relays.specs.Acts as relays
use Rattle.hb_relays.specs.Stirring as relays_stirring
use Rattle.hb_relays.specs.Touched as touched
use Rattle.hb_relays.specs.declared.relays.Relays.{Relays}
use Rattle.hb_turns.specs.Shown.{Acts, StandsForNone}
use Rattle.hb_world.specs.declared.act.Act.{Act}
use Rattle.hb_whole.specs.Acting.{act_of, given_by}
use Rattle.hb_whole.specs.Sight.{shown_of}
use Rattle.hb_whole.specs.Stands.{Stands}
use Rattle.hb_whole.specs.declared.proxy.Proxy.{Proxy}
use Rattle.hb_whole.proofs.Ending.{none_lives}
use Rattle.hb_whole.proofs.Giving.{control_gives, given_behind}
use Rattle.hb_whole.proofs.LinkGiving.{links_give}
use Rattle.hb_whole.proofs.PlainGiving.{none_given, relays_give}

pub gives_so : (p q base : Proxy) (r : Option Act) (due : Act) → base.ends_for ≡ p.ends_for → r ≡ given_by base.ends_for due
    → q ≡ given_behind base.ends_for due base
    → Acts Stands shown_of (given_by p.ends_for due) p (given_behind p.ends_for due base) → Acts Stands shown_of r p q
gives_so p q base r due ends r_is q_is acts =
    subst (λ (o : Option Act). Acts Stands shown_of o p q) (sym (r_is ∙ ap (λ (o : Option Cause). given_by o due) ends))
    (subst (λ (w : Proxy). Acts Stands shown_of (given_by p.ends_for due) p w)
    (sym (q_is ∙ ap (λ (o : Option Cause). given_behind o due base) ends)) acts)

pub control_gives_so : (p : Proxy) (n : State) (q : Proxy) (had : Option ControlAct) (due : ControlAct) (given : Act) (r : Option Act)
    → had ≡ Some due → given ≡ act_of due → node.Acts had p.control n → r ≡ given_by p.ends_for given
    → q ≡ given_behind p.ends_for given (record p { control = n }) → Acts Stands shown_of r p q
control_gives_so p n q had due given r had_is given_is acts r_is q_is =
    gives_so p q (record p { control = n }) r (act_of due) refl (r_is ∙ ap (λ (a : Act). given_by p.ends_for a) given_is)
    (q_is ∙ ap (λ (a : Act). given_behind p.ends_for a (record p { control = n })) given_is)
    (control_gives p n due p.ends_for refl (subst (λ (o : Option ControlAct). node.Acts o p.control n) had_is acts))

-- the control plane has no act
module _ (p : Proxy) (n : State) (had : Option ControlAct) (had_is : had ≡ None) (due_is : had ≡ due_of p.control)
    (control : node.Acts had p.control n) where
  rests : due_of p.control ≡ None
  rests = sym due_is ∙ had_is

  same : n ≡ p.control
  same = (subst (λ (o : Option ControlAct). node.Acts o p.control n) had_is control).2

  -- an act of the inbound links
  pub links_give_so : (new : Links) (q : Proxy) (got : Option Act) (due : Act) (r : Option Act) → got ≡ Some due
      → links.Acts got p.side.links new → Recounts p.side.links new
      → links_stirring.StirsBut (links_stirring.closed_in got) p.side.links new → r ≡ given_by p.ends_for due → q ≡ given_behind p.ends_for due (record p { control = n; side = record p.side { links = new } })
      → Acts Stands shown_of r p q
  links_give_so new q got due r got_is acts counts stirs r_is q_is =
      gives_so p q (record p { side = record p.side { links = new } }) r due refl r_is
      (q_is ∙ ap (λ (w : State). given_behind p.ends_for due (record p { control = w; side = record p.side { links = new } })) same)
      (links_give p new counts rests due p.ends_for refl (subst (λ (o : Option Act). links.Acts o p.side.links new) got_is acts)
      (subst (λ (o : Option Act). links_stirring.StirsBut (links_stirring.closed_in o) p.side.links new) got_is stirs))

  -- nor have the inbound links
  module _ (new : Links) (behind : Relays) (got : Option Act) (got_is : got ≡ None) (none : links.Acts got p.side.links new)
      (counts : Recounts p.side.links new) (still : links_stirring.StirsBut (links_stirring.closed_in got) p.side.links new) where
    none_so : links.Acts None p.side.links new
    none_so = subst (λ (o : Option Act). links.Acts o p.side.links new) got_is none

    still_so : links_stirring.StirsBut None p.side.links new
    still_so = subst (λ (o : Option Act). links_stirring.StirsBut (links_stirring.closed_in o) p.side.links new) got_is still

    -- an act of the plain links
    pub relays_give_so : (q : Proxy) (gave : Option Act) (due : Act) (r : Option Act) → gave ≡ Some due
        → relays.Acts gave p.side.relays behind → relays_stirring.StirsBut (relays_stirring.closed_in gave) p.side.relays behind
        → r ≡ given_by p.ends_for due
        → q ≡ given_behind p.ends_for due (record p { control = n; side = record p.side { links = new; relays = behind } })
        → Acts Stands shown_of r p q
    relays_give_so q gave due r gave_is acts stirs r_is q_is =
        gives_so p q (record p { side = record p.side { links = new; relays = behind } }) r due refl r_is
        (q_is ∙ ap (λ (w : State). given_behind p.ends_for due
        (record p { control = w; side = record p.side { links = new; relays = behind } })) same)
        (relays_give p new behind rests none_so counts still_so due p.ends_for refl
        (subst (λ (o : Option Act). relays.Acts o p.side.relays behind) gave_is acts)
        (subst (λ (o : Option Act). relays_stirring.StirsBut (relays_stirring.closed_in o) p.side.relays behind) gave_is stirs))

    -- nor have those
    pub none_gives_so : (gave : Option Act) → gave ≡ None → relays.Acts gave p.side.relays behind
        → relays_stirring.StirsBut (relays_stirring.closed_in gave) p.side.relays behind
        → Acts Stands shown_of None p (record p { control = n; side = record p.side { links = new; relays = behind }; dials = None })
    none_gives_so gave gave_is acts stirs =
        subst (λ (w : State). Acts Stands shown_of None p
        (record p { control = w; side = record p.side { links = new; relays = behind }; dials = None })) (sym same)
        (none_given p new behind rests none_so counts still_so (subst (λ (o : Option Act). relays.Acts o p.side.relays behind) gave_is acts)
        (subst (λ (o : Option Act). relays_stirring.StirsBut (relays_stirring.closed_in o) p.side.relays behind) gave_is stirs))

    pub none_lives_so : (gave : Option Act) → gave ≡ None → IfNone got (busy.is_idle new ≡ true)
        → IfNone gave ((touched.is_idle behind.due ≡ true) × (touched.is_idle behind.gate_due ≡ true))
        → IfSome p.ends_for (λ cause. StandsForNone Stands
        (record p { control = n; side = record p.side { links = new; relays = behind }; dials = None }))
    none_lives_so gave gave_is idle idle_too = by p.ends_for refl
      where
        q : Proxy
        q = record p { control = n; side = record p.side { links = new; relays = behind }; dials = None }

        by : (ends : Option Cause) → p.ends_for ≡ ends → IfSome ends (λ cause. StandsForNone Stands q)
        by None is = tt
        by (Some c) is =
            let none = subst (λ (o : Option Act). IfNone o ((touched.is_idle behind.due ≡ true) × (touched.is_idle behind.gate_due ≡ true)))
            gave_is idle_too in
            none_lives q c is (ap due_of same ∙ rests) (subst (λ (o : Option Act). IfNone o (busy.is_idle new ≡ true)) got_is idle)
            none.0 none.1
