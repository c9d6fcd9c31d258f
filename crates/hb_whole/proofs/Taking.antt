-- A note is taken, what responses did is forgotten, and a link that stirred is told.
use Rattle.std.proofs.Common.{◌≡◌, ◌⊎◌, inl, inr, ⊎_elim, ℕ, Bool, true, false, if◌then◌else◌, List, ◌++◌, Result, Ok, Err, IfOk, Option, Some, None, refl, ap, sym, ◌∙◌, subst}
use Rattle.std.specs.Option.{option_to_list}
use Rattle.std.proofs.lemmas.List.{append_assoc}
use Rattle.std.proofs.lemmas.Bool.{eqb-true}
use Rattle.hb_base.specs.declared.note.Note.{Note}
use Rattle.hb_links.specs.Load.{Recounts}
use Rattle.hb_links.specs.Shows.{IsAway}
use Rattle.hb_links.specs.Stirring as links
use Rattle.hb_links.specs.declared.links.Links.{Links}
use Rattle.hb_inbound.specs.Inbound as m
use Rattle.hb_node.specs.State.{number_of}
use Rattle.hb_proxy.specs.Machine.{outward}
use Rattle.hb_proxy.specs.Points.{Point}
use Rattle.hb_proxy.specs.Seen.{IsLinkThere}
use Rattle.hb_relays.specs.Calls.{IsPresent, has_of}
use Rattle.hb_relays.specs.Stirring as relays
use Rattle.hb_relays.specs.declared.relays.Relays.{Relays}
use Rattle.hb_turns.specs.Shown.{Hears, StandsAs}
use Rattle.hb_world.specs.Trace.{lives}
use Rattle.hb_world.specs.declared.entry.Entry.{Entry}
use Rattle.hb_whole.specs.Queue.{told, waiting}
use Rattle.hb_whole.specs.Sight.{is_number, owns, owner_by, owner_of, own_told, shown_of, stirs_by}
use Rattle.hb_whole.specs.Stands.{Stands, AreNotes}
use Rattle.hb_whole.specs.declared.owner.Owner.{Owner}
use Rattle.hb_whole.specs.declared.owner.Owner.TheVariants.{Control, Plain, Inbound}
use Rattle.hb_whole.specs.declared.proxy.Proxy.{Proxy}
use Rattle.hb_whole.specs.declared.queue.Queue.{Queue}
use Rattle.hb_whole.specs.declared.side.Side.{Side}
use Rattle.hb_whole.proofs.Limited.{limited_then}
use Rattle.hb_whole.proofs.Routes.{LinkRoute, PlainRoute, to_link, to_up, to_plain, to_relay, to_gate, is_owned, link_route, plain_route}

-- A NOTE

abbrev pub with_notes : Queue → Proxy → Proxy
with_notes q p = record p { side = record p.side { notes = q } }

notes_taken : (taken : List Note) (note : Option Note) (old new : Queue) (points : List Point)
    → told old ≡ Some (option_to_list note ++ waiting new) → told new ≡ Some (waiting new)
    → AreNotes taken (told old) points → AreNotes (taken ++ option_to_list note) (told new) points
notes_taken taken note old new points head still are =
    subst (λ (o : Option (List Note)). AreNotes (taken ++ option_to_list note) o points) (sym still)
    (subst (λ (o : Option (List Note)). AreNotes taken o points) head are ∙ sym (append_assoc taken (option_to_list note) (waiting new)))

pub takes_next : {E : Type 0} (p : Proxy) (q : Queue) (r : Result (Option Note) E)
    → IfOk r (λ note. told p.side.notes ≡ Some (option_to_list note ++ waiting q)) → IfOk r (λ note. told q ≡ Some (waiting q))
    → IfOk r (λ note. (taken : List Note) (trace : List Entry) → Stands taken p trace
    → Stands (taken ++ option_to_list note) (with_notes q p) trace)
takes_next p q (Err why) head still = tt
takes_next p q (Ok note) head still = λ taken trace s. record {
  limited = limited_then p (with_notes q p) s.machine s.machine refl refl (λ is. is) (λ few. few) s.limited;
  machine = s.machine;
  points = s.points;
  run = s.run;
  trace_is = s.trace_is;
  control = s.control;
  links = s.links;
  relays = s.relays;
  noted = notes_taken taken note p.side.notes q s.points head still s.noted;
  dial = s.dial;
  ends = s.ends;
  sound = s.sound;
}

-- WHAT RESPONSES DID

-- what is kept of responses, as another side has it
abbrev pub with_applied : Side → Proxy → Proxy
with_applied side p = record p { side = record p.side { applied = side.applied } }

-- it counts for nothing that a proxy stands for
pub forgets : (side : Side) (p : Proxy) → StandsAs Stands p (with_applied side p)
forgets side p taken trace s = record {
  limited = limited_then p (with_applied side p) s.machine s.machine refl refl (λ is. is) (λ few. few) s.limited;
  machine = s.machine;
  points = s.points;
  run = s.run;
  trace_is = s.trace_is;
  control = s.control;
  links = s.links;
  relays = s.relays;
  noted = s.noted;
  dial = s.dial;
  ends = s.ends;
  sound = s.sound;
}

-- A LINK THAT STIRRED

-- the control plane's link was told, or none of it is left to be told
abbrev pub own_heard : Proxy → Proxy
own_heard p = record p { stirs = false }

own_stands : (taken : List Note) (p : Proxy) (trace : List Entry) → Stands taken p trace → Stands taken (own_heard p) trace
own_stands taken p trace s = record {
  limited = limited_then p (own_heard p) s.machine s.machine refl refl (λ is. is) (λ few. few) s.limited;
  machine = s.machine;
  points = s.points;
  run = s.run;
  trace_is = s.trace_is;
  control = s.control;
  links = s.links;
  relays = s.relays;
  noted = s.noted;
  dial = s.dial;
  ends = s.ends;
  sound = s.sound;
}

number_at : (o : Option ℕ) (l : ℕ) → is_number o l ≡ true → o ≡ Some l
number_at None l is = absurd cc
number_at (Some k) l is = ap (λ (j : ℕ). Some j) (eqb-true k l is)

-- where it stirred, it is told
own_is : (p : Proxy) (l : ℕ) → owns p l ≡ true → p.stirs ≡ true → own_told p ≡ Some l
own_is p l mine stirs =
    ap (λ (b : Bool). if b then number_of p.control.link else None) stirs ∙ number_at (number_of p.control.link) l mine

pub own_hears : (taken : List Note) (p : Proxy) (trace : List Entry) (l : ℕ) → own_told p ≡ Some l → Stands taken p trace
    → Stands taken (own_heard p) trace × Hears trace (Some l) (shown_of p) (shown_of (own_heard p))
own_hears taken p trace l is s = (
  own_stands taken p trace s,
  record { kept = λ k alive. by k (owner_of p k) refl },
)
  where
    by : (k : ℕ) (o : Owner) → owner_of p k ≡ o → stirs_by o p k ≡ true → (stirs_by o (own_heard p) k ≡ true) ⊎ (Some l ≡ Some k)
    by k Control whose stirs = inr (sym is ∙ own_is p k (is_owned p k whose) stirs)
    by k Plain whose stirs = inl stirs
    by k Inbound whose stirs = inl stirs

-- then those of the doors are
abbrev pub links_heard : Links → Relays → Proxy → Proxy
links_heard links relays p = record p { stirs = false; side = record p.side { links = links; relays = relays } }

-- where those of one door weren't asked, or told none
pub relays_unheard : (told : Option ℕ) (k : Relays) → relays.Hears told k k
relays_unheard told k g out shows = (shows, λ n present stirs. inl stirs)

pub links_silent : (told : Option ℕ) (k n : Links) → links.Hears None k n → links.Hears told k n
links_silent told k n hears f shows =
    let heard = hears f shows in (
      heard.0,
      λ l present stirs. ⊎_elim (λ still. inl still) (λ is. absurd cc) (heard.1 l present stirs),
    )

is_present : (phase : m.Phase) → IsLinkThere phase → IsAway phase → ⊥
is_present m.unborn there away = there
is_present m.closed there away = there
is_present m.arriving there away = away
is_present m.fronting there away = away
is_present m.serving there away = away
is_present (m.faulted code) there away = away
is_present (m.closing why) there away = away

module _ (taken : List Note) (p : Proxy) (trace : List Entry) (s : Stands taken p trace) (k : ℕ) (alive : lives k trace ≡ true) where
  link_present : owner_of p k ≡ Inbound → links.IsPresent s.machine.inbound k
  link_present whose = at (link_route taken p trace s k whose alive)
    where
      at : LinkRoute p s.machine k → links.IsPresent s.machine.inbound k
      at (to_link there up found) = inl (is_present (s.machine.inbound k).phase there)
      at (to_up l q joins place found) = inr (l, q, joins)

  plain_present : owner_of p k ≡ Plain → IsPresent (outward s.machine) k
  plain_present whose = at (plain_route taken p trace s k whose alive)
    where
      at : PlainRoute p s.machine k → IsPresent (outward s.machine) k
      at (to_plain there up found) = inl there
      at (to_relay l joins up found) = inr (inl (l, joins))
      at (to_gate there up relay found) = inr (inr there)

pub doors_hear : (taken : List Note) (p : Proxy) (new : Links) (behind : Relays) (result : Option ℕ) (trace : List Entry)
    → own_told p ≡ None → links.Hears result p.side.links new → Recounts p.side.links new → relays.Hears result p.side.relays behind
    → relays.OnlyHears p.side.relays behind → Stands taken p trace
    → Stands taken (links_heard new behind p) trace × Hears trace result (shown_of p) (shown_of (links_heard new behind p))
doors_hear taken p new behind result trace none hears counts relays_hear only s =
    let heard = hears s.machine.inbound s.links in
    let relays_heard = relays_hear p.control.config (outward s.machine) s.relays in (
      record {
        machine = s.machine;
        points = s.points;
        run = s.run;
        trace_is = s.trace_is;
        control = s.control;
        links = heard.0;
        relays = relays_heard.0;
        noted = s.noted;
        dial = s.dial;
        limited = limited_then p (links_heard new behind p) s.machine s.machine refl refl counts (λ few. few) s.limited;
        ends = s.ends;
        sound = s.sound;
      },
      record {
        kept = λ k alive stirs. subst (λ (o : Owner). (stirs_by o q k ≡ true) ⊎ (result ≡ Some k)) (sym (same k))
            (by k alive (owner_of p k) refl stirs);
      },
    )
  where
    q : Proxy
    q = links_heard new behind p

    same : (k : ℕ) → owner_of q k ≡ owner_of p k
    same k = ap (λ (r : Relays). owner_by (owns p k) (has_of r k)) only

    by : (k : ℕ) → lives k trace ≡ true → (o : Owner) → owner_of p k ≡ o → stirs_by o p k ≡ true
        → (stirs_by o q k ≡ true) ⊎ (result ≡ Some k)
    by k alive Control whose stirs = let both : None ≡ Some k = sym none ∙ own_is p k (is_owned p k whose) stirs in absurd cc
    by k alive Plain whose stirs =
        (relays_hear p.control.config (outward s.machine) s.relays).1 k (plain_present taken p trace s k alive whose) stirs
    by k alive Inbound whose stirs = (hears s.machine.inbound s.links).1 k (link_present taken p trace s k alive whose) stirs
