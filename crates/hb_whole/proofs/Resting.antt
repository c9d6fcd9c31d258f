-- A call that moved nothing, and a wait, are told to no proxy: it stands for the trace with that entry too.
use Rattle.std.proofs.Common.{◌≡◌, ℕ, true, false, List, [], ◌∷◌, ◌++◌, refl, ap, sym, ◌∙◌, subst}
use Rattle.hb_base.specs.declared.note.Note.{Note}
use Rattle.hb_link.proofs.Noted.{takes_none}
use Rattle.hb_link.specs.Noted.{Takes}
use Rattle.hb_proxy.specs.Notes.{notes}
use Rattle.hb_model.specs.Machine.{Machine as Control, entered}
use Rattle.hb_model.specs.Point as point
use Rattle.hb_model.specs.Runs as model
use Rattle.hb_proxy.specs.Doors.{is_at_door}
use Rattle.hb_proxy.specs.Machine.{Machine, with_control}
use Rattle.hb_proxy.specs.Points.{Point, of_control, entries}
use Rattle.hb_proxy.specs.Runs.{Steps, StandsFor, goes_on, ControlMayCome}
use Rattle.hb_turns.specs.Shown.{MovesNothing}
use Rattle.hb_world.specs.declared.entry.Entry.{Entry}
use Rattle.hb_world.specs.declared.entry.Entry.TheVariants as e
use Rattle.hb_world.specs.declared.entry.Way.{Way}
use Rattle.hb_world.specs.declared.entry.Way.TheVariants as way
use Rattle.hb_whole.specs.Queue.{told}
use Rattle.hb_whole.specs.Sight.{owns, owner_of, shown_of}
use Rattle.hb_whole.specs.Stands.{Stands}
use Rattle.hb_whole.specs.declared.owner.Owner.{Owner}
use Rattle.hb_whole.specs.declared.owner.Owner.TheVariants.{Control as OfControl, Plain, Inbound as OfInbound}
use Rattle.hb_whole.specs.declared.proxy.Proxy.{Proxy}
use Rattle.hb_whole.proofs.ControlMay.{free_control}
use Rattle.hb_whole.proofs.Free.{free}
use Rattle.hb_whole.proofs.Growing.{doors_more, doors_same, notes_grow}
use Rattle.hb_whole.proofs.Guarded.{Guarded, IsStill, LinkGuarded, PlainGuarded}
use Rattle.hb_whole.proofs.Guards as link
use Rattle.hb_whole.proofs.Heard as control
use Rattle.hb_whole.proofs.Leading.{entries_more}
use Rattle.hb_whole.proofs.PlainGuards as plain
use Rattle.hb_whole.proofs.Routes.{is_owned}

-- A POINT THAT CHANGES NOTHING

still : (taken : List Note) (p : Proxy) (trace : List Entry) (z : Entry) (s : Stands taken p trace) (at : Point) (next : Machine)
    → Steps p.control.config s.machine at next → next ≡ s.machine → is_at_door z ≡ false → entries (at ∷ []) ≡ z ∷ [] → notes (at ∷ []) ≡ []
    → Stands taken p (trace ++ z ∷ [])
still taken p trace z s at next steps same door one none = record {
  machine = s.machine;
  points = s.points ++ at ∷ [];
  run = subst (λ (y : Machine). StandsFor p.control.config y (s.points ++ at ∷ [])) same (goes_on s.run at steps refl);
  trace_is = doors_more trace z door ∙ ap (λ (zs : List Entry). zs ++ z ∷ []) s.trace_is
      ∙ ap (λ (zs : List Entry). entries s.points ++ zs) (sym one) ∙ sym (entries_more s.points (at ∷ []));
  control = s.control;
  links = s.links;
  relays = s.relays;
  noted = notes_grow taken (told p.side.notes) (told p.side.notes) s.points (at ∷ [])
      (subst (λ (ns : List Note). Takes (told p.side.notes) ns (told p.side.notes)) (sym none) (takes_none (told p.side.notes))) s.noted;
  dial = s.dial;
  limited = s.limited;
  ends = s.ends;
  sound = s.sound;
}

-- a call at a door
at_door : (taken : List Note) (p : Proxy) (trace : List Entry) (z : Entry) → is_at_door z ≡ true → Stands taken p trace
    → Stands taken p (trace ++ z ∷ [])
at_door taken p trace z door s = record {
  machine = s.machine;
  points = s.points;
  run = s.run;
  trace_is = doors_same trace z door ∙ s.trace_is;
  control = s.control;
  links = s.links;
  relays = s.relays;
  noted = s.noted;
  dial = s.dial;
  limited = s.limited;
  ends = s.ends;
  sound = s.sound;
}

-- one on the link to the control plane, or a wait
control_still : (taken : List Note) (p : Proxy) (trace : List Entry) (z : Entry) (s : Stands taken p trace) → is_at_door z ≡ false
    → entered p.control.config z s.machine.control ≡ s.machine.control
    → with_control (point.entry z) s.machine.control s.machine ≡ s.machine
    → model.MayCome p.control.config s.machine.control z → ControlMayCome s.machine z → Stands taken p (trace ++ z ∷ [])
control_still taken p trace z s door same whole may guard =
    let q = point.entry z in
    let m = entered p.control.config z s.machine.control in
    still taken p trace z s (of_control q) (with_control q m s.machine) (m, (may, refl), guard, refl)
    (ap (λ (c : Control). with_control q c s.machine) same ∙ whole) door refl refl

-- one of a door, or on an upstream
door_still : (taken : List Note) (p : Proxy) (trace : List Entry) (z : Entry) (s : Stands taken p trace) → is_at_door z ≡ false
    → IsStill s.machine z → Guarded p s.machine z → Stands taken p (trace ++ z ∷ [])
door_still taken p trace z s door nothing at =
    still taken p trace z s at.point at.next at.steps (at.same nothing) door
    (ap (λ (zs : List Entry). zs ++ []) at.one) (ap (λ (ns : List Note). ns ++ []) at.no_note)

-- a call on a link that moved nothing changes nothing
balked : (x : Machine) (w : Way) → IsStill x (e.Balked w)
balked x w = record { link = λ y. refl; up = λ k. refl; plain = λ y. refl; relay = λ y. refl; gate = λ y. refl; born = refl }

-- it is told by whose the link is
by_owner : (taken : List Note) (p : Proxy) (trace : List Entry) (l : ℕ) (w : Way) (s : Stands taken p trace)
    → is_at_door (e.Balked w) ≡ false
    → (owns p l ≡ true → model.MayCome p.control.config s.machine.control (e.Balked w) × ControlMayCome s.machine (e.Balked w))
    → (owner_of p l ≡ OfInbound → LinkGuarded p s.machine l (e.Balked w)) → (owner_of p l ≡ Plain → PlainGuarded p s.machine l (e.Balked w))
    → Stands taken p (trace ++ e.Balked w ∷ [])
by_owner taken p trace l w s door control link plain = by (owner_of p l) refl
  where
    by : (o : Owner) → owner_of p l ≡ o → Stands taken p (trace ++ e.Balked w ∷ [])
    by OfControl whose =
        let at = control (is_owned p l whose) in control_still taken p trace (e.Balked w) s door refl refl at.0 at.1
    by OfInbound whose = door_still taken p trace (e.Balked w) s door (balked s.machine w) (link whose).at
    by Plain whose = door_still taken p trace (e.Balked w) s door (balked s.machine w) (plain whose).at

pub rests : (taken : List Note) (p : Proxy) (trace : List Entry) (z : Entry) → MovesNothing (shown_of p) trace z → Stands taken p trace
    → Stands taken p (trace ++ z ∷ [])
rests taken p trace (e.Balked (way.Listen door to listening)) may s = at_door taken p trace (e.Balked (way.Listen door to listening)) refl s
rests taken p trace (e.Balked (way.Accept door)) may s = at_door taken p trace (e.Balked (way.Accept door)) refl s
rests taken p trace (e.Balked (way.Look l)) may s = at_door taken p trace (e.Balked (way.Look l)) refl s
rests taken p trace (e.Balked (way.Finish l)) may s =
    by_owner taken p trace l (way.Finish l) s refl
    (λ mine. let at = control.finish_balks taken p trace s l mine may in (at.1, at.2))
    (λ whose. link.finish_balks taken p trace s l whose may) (λ whose. plain.finish_balks taken p trace s l whose may)
rests taken p trace (e.Balked (way.Read l)) may s =
    by_owner taken p trace l (way.Read l) s refl
    (λ mine. let at = control.read_balks taken p trace s l mine may in (at.1, at.2))
    (λ whose. link.read_balks taken p trace s l whose may) (λ whose. plain.read_balks taken p trace s l whose may)
rests taken p trace (e.Balked (way.Write l)) may s =
    by_owner taken p trace l (way.Write l) s refl
    (λ mine. let at = control.write_balks taken p trace s l mine may in (at.1, at.2))
    (λ whose. link.write_balks taken p trace s l whose may) (λ whose. plain.write_balks taken p trace s l whose may)
rests taken p trace (e.Wait ready how) may s =
    let all = free taken p trace s may in
    control_still taken p trace (e.Wait ready how) s refl refl refl all.control (free_control s.machine (e.Wait ready how) all tt)
rests taken p trace z may s = absurd may
