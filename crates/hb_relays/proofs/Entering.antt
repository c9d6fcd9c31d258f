-- An entry on the link of a number is told to that link, to the one whose upstream it is, or to the link to a gateway.
use Rattle.std.proofs.Common.{◌≡◌, ◌≢◌, inl, inr, ℕ, ◌<◌, ◌==◌, ◌||◌, not, Bool, true, false, cond, List, [], ◌∷◌, ◌++◌, Option, Some, None, IsSome, is_some, Result, Ok, Err, OnOk, refl, ap, sym, ◌∙◌, subst, arith}
use Rattle.std.proofs.lemmas.Bool.{eq-eqb, eqb-true}
use Rattle.std.specs.FinMap.{get}
use Rattle.hb_base.specs.declared.note.Note.{Note}
use Rattle.hb_captured.specs.Answer.{Routing, key_of}
use Rattle.hb_captured.specs.Calm.{IsIdleBy, IsQuiet, IsCalmBy}
use Rattle.hb_captured.specs.Captured as m
use Rattle.hb_captured.specs.Captured.{Captured, Stage, due, entered, up_entered, hung_up, ends_by}
use Rattle.hb_captured.specs.Part.{Part, entry, up, note_if}
use Rattle.hb_captured.specs.Runs.{IsTried, MayCome, UpMayCome, next_link}
use Rattle.hb_base.specs.declared.cause.Cause.{Cause}
use Rattle.hb_base.specs.declared.cause.Cause.TheVariants as cause
use Rattle.hb_gate.specs.declared.gate.Gate.{Gate}
use Rattle.hb_gateway.specs.Part as gateway
use Rattle.hb_gateway.specs.Key.{Key}
use Rattle.hb_held.specs.Held.{Resources}
use Rattle.hb_link.specs.Noted.{Told, Takes}
use Rattle.hb_map.proofs.Laws.{written_where_some}
use Rattle.hb_map.specs.Keyed.{written}
use Rattle.hb_model.specs.declared.config.NodeConfig.{NodeConfig}
use Rattle.hb_proxy.specs.Load.{LinksFull}
use Rattle.hb_proxy.specs.Machine.{Machine, outward, with_plain}
use Rattle.hb_proxy.specs.Points.{Point, of_gate, of_plain}
use Rattle.hb_proxy.specs.Runs.{IfThrough, PlainLets, PlainMayCome, Steps, StandsFor, goes_on, is_act}
use Rattle.hb_relay.specs.Answering.{routing_of as code_routing}
use Rattle.hb_relay.specs.Calls as calls
use Rattle.hb_relay.specs.Reaches as relay
use Rattle.hb_relay.specs.Shows.{HasOne, HasUpstream, Shows}
use Rattle.hb_relay.specs.declared.relay.Relay.{Relay}
use Rattle.hb_relay.specs.declared.routes.Routes.{Routes}
use Rattle.hb_world.specs.declared.entry.Entry.{Entry}
use Rattle.hb_world.specs.declared.entry.Entry.TheVariants as e
use Rattle.hb_world.specs.declared.entry.Way.TheVariants as way
use Rattle.hb_relays.specs.Calls.{gate_point, point_by, point_for, Enters, EntersWhere, GateEntersWhere, Takes as TakesIn}
use Rattle.hb_relays.specs.Joining.{Joins, Refuses, also, all, but, with_link}
use Rattle.hb_relays.specs.Pumping.{NoneDueBut, Pumps}
use Rattle.hb_relays.specs.Reaches.{FindsRoomAt, IsRefusing, LeadsBy, Meets, MeetsIn, any}
use Rattle.hb_relays.specs.Shows.{ShowsRelay}
use Rattle.hb_relays.specs.Walks.{Map, changed, relays_with, routes_with, touched_at}
use Rattle.hb_relays.specs.declared.relays.Relays.{Relays}
use Rattle.hb_relays.proofs.Away.{away_is}
use Rattle.hb_relays.proofs.Due.{AwaitsMore, calm_awaits, inner_same, leads_refusing}
use Rattle.hb_relays.proofs.Lifted.{leads_keep, there}
use Rattle.hb_relays.proofs.Progress.{append_by, comes_then, comes_whole, is_all, knows, noted_then, stands_by, stands_on}
use Rattle.hb_relays.proofs.Room.{full_same}
use Rattle.hb_relays.proofs.Showing.{GoesAt, MeetsAt, kept_shown, lifts, meets_begun, not_link, waits_none}
use Rattle.hb_relays.proofs.Staying.{Stays, begun_undue, is_begun}

-- whichever point an entry is
module _ (k : Relays) (n : ℕ) (z : Entry) (q : Point) (is : point_for k n z ≡ Some q) where
  up_point : (l : ℕ) → get k.ups n ≡ Some l → q ≡ of_plain l (up z)
  up_point l found =
      let both : Some (of_plain l (up z)) ≡ Some q =
      sym (ap (λ (o : Option ℕ). point_by o (get k.relays n) (get k.gates n) n z) found) ∙ is in
      cc

  own_point : (old : Relay) → get k.ups n ≡ None → get k.relays n ≡ Some old → q ≡ of_plain n (entry z)
  own_point old none found =
      let both : Some (of_plain n (entry z)) ≡ Some q =
      sym (ap (λ (o : Option ℕ). point_by o (get k.relays n) (get k.gates n) n z) none
      ∙ ap (λ (o : Option Relay). point_by None o (get k.gates n) n z) found) ∙ is in
      cc

-- what follows of a call that had memory
pub on_ok : {A E : Type 0} {P Q : Type 0} → (r : Result A E) → (P → Q) → OnOk r P → OnOk r Q
on_ok (Ok v) f is = f is
on_ok (Err v) f is = tt

-- what holds whatever is held
pub anywhere : (P : Resources → Type 0) (p : Part) (old new : Relay) (before behind : Routing) (made : Option Note)
    → relay.Meets calls.any p old before new behind made → relay.Meets P p old before new behind made
anywhere P p old new before behind made meets = record {
  number = meets.number;
  reaches = λ start parts a stands shows holds may. meets.reaches start parts a stands shows tt may;
}

-- as the code comes to it
pub changed_is : (k n : Relays) (relays : Map) (routes : Routes) (l : ℕ) (old new : Relay)
    → n ≡ touched_at l (routes_with routes (relays_with relays k.ups k)) → relays ≡ written k.relays l new → get k.relays l ≡ Some old
    → n ≡ touched_at l (routes_with routes (changed l new k))
changed_is k n relays routes l old new n_is relays_is is =
    n_is ∙ ap (λ (m : Map). touched_at l (routes_with routes (relays_with m k.ups k)))
    (relays_is ∙ written_where_some k.relays l new (ap is_some is))

-- ON AN UPSTREAM: its link has no stream, and waits for no dial

one_raw : (o : Option Key) (u gate v : ℕ) → HasOne o u gate → u ≡ v → 0 < v → gate ≡ 0
one_raw None u gate v has is some = has.1
one_raw (Some key) u gate v has is some = absurd (let none = has.0 in omega (arith, none, is, some))

live_raw : (k : Relay) (x : Captured) (u : ℕ) → Shows k x → x.stage ≡ m.live → x.up ≡ u → 0 < u → x.gate ≡ 0
live_raw k x u shows stage is some =
    one_raw (key_of x.aim) x.up x.gate u (subst (λ (s : Stage). HasUpstream s (key_of x.aim) x.up x.gate) stage shows.upstream) is some

opening_raw : (k : Relay) (x : Captured) (u : ℕ) → Shows k x → x.stage ≡ m.opening → x.up ≡ u → 0 < u → x.gate ≡ 0
opening_raw k x u shows stage is some =
    one_raw (key_of x.aim) x.up x.gate u (subst (λ (s : Stage). HasUpstream s (key_of x.aim) x.up x.gate) stage shows.upstream) is some

due_raw : (k : Relay) (x : Captured) → Shows k x → x.stage ≡ m.due → x.gate ≡ 0
due_raw k x shows stage = (subst (λ (s : Stage). HasUpstream s (key_of x.aim) x.up x.gate) stage shows.upstream).1

over_raw : (k : Relay) (x : Captured) (why : Cause) → Shows k x → x.stage ≡ m.over why → x.gate ≡ 0
over_raw k x why shows stage = eqb-true x.gate 0 (subst (λ (s : Stage). IsCalmBy s x) stage shows.calm)

pub up_facts : (l : ℕ) (k : Relay) (x : Captured) (z : Entry) → UpMayCome l x z → Shows k x
    → (is_begun (up_entered z x).stage ≡ true) × ((up_entered z x).gate ≡ 0)
up_facts l k x (e.Dialled u to why) may shows = (refl, due_raw k x shows may.0.1)
up_facts l k x (e.DialFailed to why) may shows = (ap (λ (s : Stage). is_begun (ends_by cause.UpFault s)) may.1, due_raw k x shows may.1)
up_facts l k x (e.Opened u) may shows = (refl, opening_raw k x u shows may.0.1 may.1 may.2)
up_facts l k x (e.Came u bytes) may shows = (ap is_begun may.0.0.1, live_raw k x u shows may.0.0.1 may.0.1 may.0.2)
up_facts l k x (e.Ended u) may shows = (ap is_begun may.0.0.1, live_raw k x u shows may.0.0.1 may.0.1 may.0.2)
up_facts l k x (e.Went u bytes) may shows = (ap is_begun may.0.0.1, live_raw k x u shows may.0.0.1 may.0.1 may.0.2)
up_facts l k x (e.Broke u) (inl may) shows =
    (ap (λ (s : Stage). is_begun (ends_by cause.UpFault s)) may.0.1, opening_raw k x u shows may.0.1 may.1 may.2)
up_facts l k x (e.Broke u) (inr may) shows =
    (ap (λ (s : Stage). is_begun (ends_by cause.UpFault s)) may.0.1, live_raw k x u shows may.0.1 may.1 may.2)
up_facts l k x (e.Shut u) may shows = (ap is_begun may.1, live_raw k x u shows may.1 may.2 may.3)
up_facts l k x (e.Closed u why) may shows = (ap is_begun may.1, over_raw k x why shows may.1)
up_facts l k x (e.Balked (way.Finish u)) may shows = (ap is_begun may.0.1, opening_raw k x u shows may.0.1 may.1 may.2)
up_facts l k x (e.Balked (way.Read u)) may shows = (ap is_begun may.0.0.1, live_raw k x u shows may.0.0.1 may.0.1 may.0.2)
up_facts l k x (e.Balked (way.Write u)) may shows = (ap is_begun may.0.0.1, live_raw k x u shows may.0.0.1 may.0.1 may.0.2)
up_facts l k x z may shows = absurd may

-- of a link whose upstream it is
pub up_meets : (P : Resources → Type 0) (k new : Relays) (l : ℕ) (old : Relay) (z : Entry) (told now : Told) → get k.relays l ≡ Some old
    → MeetsAt P l (up z) k told new now → Meets (λ x. P x.control.held) (of_plain l (up z)) k told new now
up_meets P k new l old z told now is meets =
    meets_begun P l (up z) k new told now
    (λ g x y points stands shows steps.
    up_facts l old (x.plain l) z steps.0 (kept_shown k x.plain l old shows.relays is).1) meets

module _ (P : Resources → Type 0) (k n : Relays) (relays : Map) (routes : Routes) (old new : Relay) (told now : Told)
    (made : Option Note) (takes : Takes told (note_if made) now) where
  pub up_told : (u : ℕ) (z : Entry) (l : ℕ) → n ≡ touched_at l (routes_with routes (relays_with relays k.ups k))
      → relays ≡ written k.relays l new → get k.ups u ≡ Some l → get k.relays l ≡ Some old → ((x : Captured) → Stays x (up_entered z x))
      → relay.Meets P (up z) old (code_routing k.routes) new (code_routing routes) made
      → EntersWhere (λ x. P x.control.held) u z k told n now
  up_told u z l n_is relays_is found is stays enters q point =
      subst (λ (w : Point). Meets (λ x. P x.control.held) w k told n now) (sym (up_point k u z q point l found))
      (subst (λ (m : Relays). Meets (λ x. P x.control.held) (of_plain l (up z)) k told m now)
      (sym (changed_is k n relays routes l old new n_is relays_is is))
      (up_meets P k (touched_at l (routes_with routes (changed l new k))) l old z told now is
      (lifts P k l old new routes told now made (λ i. up z) is stays enters takes)))

  -- of a link: what it is before its stream is seen to
  pub own_goes : (l : ℕ) (z : ℕ → Entry) → n ≡ touched_at l (routes_with routes (relays_with relays k.ups k))
      → relays ≡ written k.relays l new → get k.relays l ≡ Some old → ((x : Captured) → Stays x (entered (z l) x))
      → relay.Meets P (entry (z old.number)) old (code_routing k.routes) new (code_routing routes) made
      → MeetsAt P l (entry (z l)) k told n now
  own_goes l z n_is relays_is is stays enters =
      subst (λ (m : Relays). MeetsAt P l (entry (z l)) k told m now) (sym (changed_is k n relays routes l old new n_is relays_is is))
      (lifts P k l old new routes told now made (λ i. entry (z i)) is stays enters takes)

-- THE LINK'S STREAM IS SEEN TO BEHIND THAT

pub quiet_undue : (c : Captured) → IsQuiet c → c.stage ≢ due
quiet_undue c quiet is = subst (λ (s : Stage). IsIdleBy s c) is quiet.1

-- while it isn't the turn of acts no other link waits
others_undue : (x : Machine) (l : ℕ) (z : Entry) → is_act z ≡ false → PlainMayCome x l z → NoneDueBut l x
others_undue x l z no_act may j apart =
    quiet_undue (x.plain j) (subst (λ (first : Bool). PlainLets first (x.plain j)) no_act (may.others j apart))

pub either : (b : Bool) → (b || not b) ≡ true
either true = refl
either false = refl

-- still no other link waits
undue_then : (g : NodeConfig) (x y : Machine) (l : ℕ) (z : Entry) (a : Relays) (told now : Told) → is_act z ≡ false
    → Steps g x (of_plain l (entry z)) y → (goes : GoesAt g l y a told now) → NoneDueBut l goes.comes.reached
undue_then g x y l z a told now no_act steps goes j apart is =
    let were : goes.comes.reached.plain j ≡ x.plain j =
    goes.others j apart ∙ ap (λ (w : Machine). w.plain j) steps.2 ∙ there x l (entry z) (next_link (x.plain l) (entry z)) j apart in
    others_undue x l z no_act steps.1 j apart (sym (ap (λ (c : Captured). c.stage) were) ∙ is)

-- where nothing follows by which it would be refused
pub in_room : (held : Resources) (room : Bool) (p : Point) (k new : Relays) (told now : Told) → ((z : Machine) → FindsRoomAt room p z)
    → Meets (λ x. x.control.held ≡ held) p k told new now → MeetsIn held room p k told new now
in_room held room p k new told now finds meets g x y points stands shows holds full steps =
    let follows = meets g x y points stands shows holds steps in (
      record {
        more = follows.more;
        reached = follows.reached;
        leads = leads_refusing g y follows.more follows.reached follows.leads;
        shows = follows.shows;
        noted = follows.noted;
      },
      finds follows.reached,
    )

-- one that is shown has no whole header that waits
shown_awaits : (l : ℕ) (o : Option Relay) (x : Captured) → ShowsRelay l o x → AwaitsMore x
shown_awaits l None x shown = calm_awaits x (away_is x shown).calm
shown_awaits l (Some k) x shown = calm_awaits x shown.1.calm

-- bytes came: it gets its stream where it wants one, or is refused, and what may be put is
pub own_took : (held : Resources) (room : Bool) (k a b c d : Relays) (n : ℕ) (bytes : List ℕ) (told one two now : Told)
    → MeetsAt (λ h. h ≡ held) n (entry (e.Came n bytes)) k told a one → Joins n a b → Refuses n room b one c two → Pumps n c two d now
    → MeetsIn held room (of_plain n (entry (e.Came n bytes))) k told d now
own_took held room k a b c d n bytes told one two now meets joins refuses pumps g x y points stands shows holds full steps =
    let p = of_plain n (entry (e.Came n bytes)) in
    let goes = meets g x y points stands shows holds steps in
    let first = goes.comes in
    let ran : StandsFor g y (points ++ p ∷ []) = goes_on stands p steps refl in
    let at = stands_on g y (points ++ p ∷ []) first.more first.reached ran first.leads in
    let joining = joins (but n) (not_link n) g first.reached at.0 at.1 first.shows one in
    let joined = joining.0 in
    let second = comes_then (but n) (also n (but n)) (not_link n) (not_link n) all all g y a b told one one first joined in
    let at_second = stands_on g y (points ++ p ∷ []) second.more second.reached ran second.leads in
    let refusing = refuses (not_link n) g second.reached at_second.0 at_second.1
    (knows (also n (but n)) all (not_link n) (not_link n) all all g b (outward second.reached) (λ j is. either (j == n)) (λ j w is. is)
    (λ j is. is) second.shows)
    (λ stage. subst (λ (w : Machine). LinksFull (not room) g w) (sym (joining.1 stage))
    (full_same (not room) g x first.reached
    ((leads_keep g y first.more first.reached first.leads).inbound ∙ ap (λ (w : Machine). w.inbound) steps.2)
    (goes.gates ∙ ap (λ (w : Machine). w.gates) steps.2) full)) in
    let refused = refusing.0 in
    let leads_there : LeadsBy IsRefusing g y (second.more ++ refused.more) refused.reached =
    append_by IsRefusing g y second.reached refused.reached second.more refused.more
    (leads_refusing g y second.more second.reached second.leads) refused.leads in
    let at_third = stands_by IsRefusing g y (points ++ p ∷ []) (second.more ++ refused.more) refused.reached ran leads_there in
    let pumped = pumps (not_link n) g refused.reached at_third.0 at_third.1 refused.shows
    (λ j apart. refused.undue j (joined.undue j (undue_then g x y n (e.Came n bytes) a told one refl steps goes j apart))) in (
      record {
        more = (second.more ++ refused.more) ++ pumped.more;
        reached = pumped.reached;
        leads = append_by IsRefusing g y refused.reached pumped.reached (second.more ++ refused.more) pumped.more leads_there
            (leads_refusing g refused.reached pumped.more pumped.reached pumped.leads);
        shows = is_all all (with_link n (not_link n)) all g d (outward pumped.reached) (λ j. refl) (λ j w. either (j == n)) (λ j. refl)
            pumped.shows;
        noted = noted_then told two now (second.more ++ refused.more) pumped.more
            (noted_then told one two second.more refused.more second.noted refused.noted) pumped.noted;
      },
      λ stage. (let same : pumped.reached.plain n ≡ refused.reached.plain n =
          inner_same g refused.reached pumped.more pumped.reached pumped.leads n
          (shown_awaits n (get c.relays n) (refused.reached.plain n) (refused.shows.relays n)) stage in
          subst (λ (w : Captured). IfThrough (key_of w.aim) (λ key. room ≡ true)) (sym same)
          (refusing.1 (ap (λ (w : Captured). w.stage) (sym same) ∙ stage))),
    )

-- it waits for none behind an entry: what may be put is
pub own_pumped : (P : Resources → Type 0) (k a b : Relays) (n : ℕ) (z : Entry) (told one now : Told) → is_act z ≡ false
    → ((x : Captured) → MayCome n x z → is_begun (entered z x).stage ≡ true)
    → MeetsAt P n (entry z) k told a one → Pumps n a one b now → Meets (λ x. P x.control.held) (of_plain n (entry z)) k told b now
own_pumped P k a b n z told one now no_act begins meets pumps g x y points stands shows holds steps =
    let p = of_plain n (entry z) in
    let goes = meets g x y points stands shows holds steps in
    let first = goes.comes in
    let ran : StandsFor g y (points ++ p ∷ []) = goes_on stands p steps refl in
    let at = stands_on g y (points ++ p ∷ []) first.more first.reached ran first.leads in
    let is : y.plain n ≡ entered z (x.plain n) =
    ap (λ (w : Machine). w.plain n) steps.2 ∙ own_now x n z in
    let begun : is_begun (first.reached.plain n).stage ≡ true =
    goes.begun (ap (λ (w : Captured). is_begun w.stage) is ∙ begins (x.plain n) steps.0) in
    let known = waits_none g n y a told one goes (begun_undue (first.reached.plain n).stage begun) in
    let pumped = pumps (not_link n) g first.reached at.0 at.1 known (undue_then g x y n z a told one no_act steps goes) in
    comes_whole all (with_link n (not_link n)) all g y b told now (λ j. refl) (λ j w. either (j == n)) (λ j. refl)
    (comes_then all all (not_link n) (with_link n (not_link n)) all all g y a b told one now
    (record { more = first.more; reached = first.reached; leads = first.leads; shows = known; noted = first.noted }) pumped)
  where
    own_now : (x : Machine) (n : ℕ) (z : Entry)
        → (with_plain n (entry z) (next_link (x.plain n) (entry z)) x).plain n ≡ entered z (x.plain n)
    own_now x n z = ap (λ (t : Bool). cond t (entered z (x.plain n)) (x.plain n)) (eq-eqb n n refl)

ended_tried : (x : Captured) → IsTried x → is_begun (hung_up x.stage) ≡ true
ended_tried x (inl at) = ap (λ (s : Stage). is_begun (hung_up s)) at.1
ended_tried x (inr (inl at)) = ap (λ (s : Stage). is_begun (hung_up s)) at.1
ended_tried x (inr (inr at)) = ap (λ (s : Stage). is_begun (hung_up s)) at.1

pub ended_begun : (n : ℕ) (x : Captured) → MayCome n x (e.Ended n) → is_begun (entered (e.Ended n) x).stage ≡ true
ended_begun n x may = ended_tried x may.1.0

pub went_begun : (n : ℕ) (bytes : List ℕ) (x : Captured) → MayCome n x (e.Went n bytes)
    → is_begun (entered (e.Went n bytes) x).stage ≡ true
went_begun n bytes x may = ap is_begun may.1.1

-- WHICH POINT IT IS

-- a link's own, whatever is said of that
pub own_at : (M : Point → Type 0) (k : Relays) (n : ℕ) (z : Entry) (old : Relay) → get k.ups n ≡ None → get k.relays n ≡ Some old
    → M (of_plain n (entry z)) → (q : Point) → point_for k n z ≡ Some q → M q
own_at M k n z old none is holds q point = subst M (sym (own_point k n z q point old none is)) holds

pub own_told : (P : Machine → Type 0) (k new : Relays) (n : ℕ) (z : Entry) (old : Relay) (told now : Told) → get k.ups n ≡ None
    → get k.relays n ≡ Some old → Meets P (of_plain n (entry z)) k told new now → EntersWhere P n z k told new now
own_told P k new n z old told now none is meets q point = own_at (λ w. Meets P w k told new now) k n z old none is meets q point

-- one of a link to a gateway
pub gate_at : (M : Point → Type 0) (k : Relays) (n : ℕ) (z : Entry) → get k.ups n ≡ None → get k.relays n ≡ None
    → (IsSome (get k.gates n) → M (of_gate n (gateway.entry z))) → (q : Point) → point_for k n z ≡ Some q → M q
gate_at M k n z none gone holds q point = by (get k.gates n) refl
  where
    at_gate : (o : Option Gate) → get k.gates n ≡ o → gate_point o n z ≡ Some q
    at_gate o found =
        ap (λ (a : Option Gate). gate_point a n z) (sym found)
        ∙ sym (ap (λ (a : Option ℕ). point_by a (get k.relays n) (get k.gates n) n z) none
        ∙ ap (λ (a : Option Relay). point_by None a (get k.gates n) n z) gone) ∙ point

    by : (o : Option Gate) → get k.gates n ≡ o → M q
    by None found = absurd (let both : None ≡ Some q = at_gate None found in cc both)
    by (Some kept) found =
        let both : Some (of_gate n (gateway.entry z)) ≡ Some q = at_gate (Some kept) found in
        let is : of_gate n (gateway.entry z) ≡ q = cc both in
        subst M is (holds (ap is_some found))

pub gate_told : (P : Machine → Type 0) (k new : Relays) (n : ℕ) (z : Entry) (told now : Told) → get k.ups n ≡ None
    → get k.relays n ≡ None → GateEntersWhere P n z k told new now → EntersWhere P n z k told new now
gate_told P k new n z told now none gone enters q point = gate_at (λ w. Meets P w k told new now) k n z none gone enters q point

-- an upstream's
pub up_took : (held : Resources) (room : Bool) (k new : Relays) (n l : ℕ) (bytes : List ℕ) (told now : Told) → get k.ups n ≡ Some l
    → EntersWhere (λ x. x.control.held ≡ held) n (e.Came n bytes) k told new now → TakesIn held room n bytes k told new now
up_took held room k new n l bytes told now found enters q point =
    let is = up_point k n (e.Came n bytes) q point l found in
    subst (λ (w : Point). MeetsIn held room w k told new now) (sym is)
    (in_room held room (of_plain l (up (e.Came n bytes))) k new told now (λ z. tt)
    (subst (λ (w : Point). Meets (λ x. x.control.held ≡ held) w k told new now) is (enters q point)))

-- no link that was accepted opens
pub none_opens : (k new : Relays) (n : ℕ) (told now : Told) (old : Relay) → get k.ups n ≡ None → get k.relays n ≡ Some old
    → Enters n (e.Opened n) k told new now
none_opens k new n told now old none found q point =
    subst (λ (w : Point). Meets any w k told new now) (sym (own_point k n (e.Opened n) q point old none found))
    (λ g x y points stands shows holds steps. absurd steps.0)

-- but one to a gateway may
pub opened_told : (k new : Relays) (n : ℕ) (told now : Told) → get k.ups n ≡ None → GateEntersWhere any n (e.Opened n) k told new now
    → Enters n (e.Opened n) k told new now
opened_told k new n told now none enters = by (get k.relays n) refl
  where
    by : (o : Option Relay) → get k.relays n ≡ o → Enters n (e.Opened n) k told new now
    by None gone = gate_told any k new n (e.Opened n) told now none gone enters
    by (Some old) found = none_opens k new n told now old none found
