-- A lawful trace meets the headline.
use Rattle.std.proofs.Common.{◌≡◌, ◌⊎◌, ℕ, ◌≤◌, true, List, [], ◌∷◌, ◌++◌, length, refl, ap, sym, ◌∙◌, subst, arith, length-append}
use Rattle.std.specs.List.{flat_map}
use Rattle.std.proofs.lemmas.List.{append-nil, append_assoc}
use Rattle.std.proofs.lemmas.List.Concat.{flat_map-append}
use Rattle.hb_base.specs.declared.door.Door.TheVariants as door
use Rattle.hb_base.specs.declared.door.Why.{Why}
use Rattle.hb_base.specs.declared.door.Why.TheVariants as whys
use Rattle.hb_base.specs.declared.target.Target.{Target}
use Rattle.hb_captured.specs.Captured.{judges}
use Rattle.hb_captured.specs.Sides.{door_of}
use Rattle.hb_conn.specs.Observed.{outgoing}
use Rattle.hb_frames.specs.RawFrame.{RawFrame}
use Rattle.hb_held.specs.Held.{Resources}
use Rattle.hb_inbound.specs.Sides.{link_went}
use Rattle.hb_kept.proofs.Begun.{have_begun, first_octet_begins}
use Rattle.hb_kept.specs.Payloads.{Began}
use Rattle.hb_laws.proofs.Doors.{without_append, owner_without}
use Rattle.hb_laws.proofs.Living.{all_closed}
use Rattle.hb_laws.specs.RefusedTunnels.{is_more}
use Rattle.hb_laws.proofs.Lawful.{Goes, goes_at, own_in, laws_of}
use Rattle.hb_laws.proofs.Places.{Place, IsOwn, place, dial_point, of_somebody, of_inbound, of_upstream}
use Rattle.hb_laws.specs.Lawful.{Lawful, Laws}
use Rattle.hb_model.specs.Messages as messages
use Rattle.hb_model.specs.declared.config.NodeConfig.{NodeConfig}
use Rattle.hb_proxy.proofs.Owned.{all_owned}
use Rattle.hb_proxy.specs.Access.{PlainIsAdmitted}
use Rattle.hb_proxy.specs.Doors.{without_doors}
use Rattle.hb_proxy.specs.Machine.{Machine}
use Rattle.hb_proxy.specs.Owners.{owner, inbound_link, upstream_of, plain_link, relay_of}
use Rattle.hb_proxy.specs.Points.{Point, entries, control_of, control_in, parts_of, plain_of}
use Rattle.hb_proxy.specs.Runs.{Steps, StandsFor}
use Rattle.hb_world.specs.Trace.{sent}
use Rattle.hb_world.specs.declared.entry.Entry.{Entry}
use Rattle.hb_world.specs.declared.entry.Entry.TheVariants as e
use Rattle.hb_headline.specs.Access.{Admits, AdmitsTo, AreAdmitted, door_at, AdmitsPlain, GoesAdmitted, Stands, TriesAdmitted}
use Rattle.hb_headline.specs.Buffers.{PlainFits}
use Rattle.hb_headline.specs.Headline.{LawfulKeepsTheHeadline}
use Rattle.hb_headline.specs.Held.{Applied, on_link, AllRead, Holds, made_by}
use Rattle.hb_headline.specs.Relay.{PlainRelays, TunnelRelaysUp, LinkRelaysDown, begin_with, BeganIsNotOne, data_with}
use Rattle.hb_headline.proofs.Access.{admits_up, dial_admitted}
use Rattle.hb_headline.proofs.AtOnce.{all_read}
use Rattle.hb_headline.proofs.Buffers.{plain_fits, down_fits}
use Rattle.hb_headline.proofs.Dials.{lawful_upstreams}
use Rattle.hb_headline.proofs.Down.{relayed, unasked_none, down_admitted}
use Rattle.hb_headline.proofs.Fronts.{front_at, split_at, grows_at, entries_at, place_at}
use Rattle.hb_headline.proofs.Held.{applied_in, applied_of, are_told, made_is}
use Rattle.hb_headline.proofs.OneLink.{IsOne}
use Rattle.hb_headline.proofs.OneList.{PlaceIs, AllBegin, all_begin, new_on}
use Rattle.hb_headline.proofs.PlainAccess.{judges_it, admits}
use Rattle.hb_headline.proofs.PlainRevoked.{relay_admitted, plain_dial_admitted}
use Rattle.hb_headline.proofs.Revoked.{more_stays, stands_admitted}
use Rattle.hb_headline.proofs.Relay.{went_is, owner_is, relays_plain}
use Rattle.hb_headline.proofs.GateWindows.{gate_keeps}
use Rattle.hb_headline.proofs.RelayUp.{relays_up}
use Rattle.hb_headline.proofs.Windows.{link_keeps, plane_keeps}

module _ (g : NodeConfig) (trace : List Entry) (h : Lawful g trace) where
  -- the points of a front of the trace
  abbrev front_of : List Entry → List Point
  front_of before = front_at (length (without_doors before)) h.points

  abbrev begins_on : (l : ℕ) → AllBegin g l h.points h.machine
  begins_on l = all_begin g l h.machine h.points h.run

  abbrev frames : ℕ → List RawFrame
  frames l = (begins_on l).frames

  abbrev applied : List Entry → List Applied
  applied before = applied_of (control_of (front_of before))

  entries_are : (before after : List Entry) → trace ≡ before ++ after → entries (front_of before) ≡ without_doors before
  entries_are before after are =
      entries_at h.points (without_doors before) (without_doors after) (sym h.trace_is ∙ ap without_doors are ∙ without_append before after)

  laws_at : (before : List Entry) → Laws g (front_of before)
  laws_at before = let split = split_at (length (without_doors before)) h.points in h.laws (front_of before) split.back split.is

  -- what has begun on a link where the points are split
  record Behind (l : ℕ) (front : List Point) : Type 0 where
    machine : Machine
    run : StandsFor g machine front
    old : List RawFrame
    later : List RawFrame
    is : frames l ≡ old ++ later
    one : IsOne (parts_of l front) (machine.inbound l) old

  behind_at : (l : ℕ) (front back : List Point) → h.points ≡ front ++ back → Behind l front
  behind_at l front [] are =
      subst (λ (ps : List Point). Behind l ps) (are ∙ append-nil front)
      (record {
        machine = h.machine;
        run = h.run;
        old = frames l;
        later = [];
        is = sym (append-nil (frames l));
        one = (begins_on l).one;
      })
  behind_at l front (q ∷ back) are =
      let at = (begins_on l).places front q back are in
      record {
        machine = at.machine;
        run = at.run;
        old = at.old;
        later = new_on l at.machine q ++ at.later;
        is = at.is ∙ append_assoc at.old (new_on l at.machine q) at.later;
        one = at.one;
      }

  behind : (l : ℕ) (before : List Entry) → Behind l (front_of before)
  behind l before =
      let split = split_at (length (without_doors before)) h.points in behind_at l (front_of before) split.back split.is

  relays_down : (l : ℕ) → owner l trace ≡ inbound_link → LinkRelaysDown trace l (frames l)
  relays_down l own =
      let side = (laws_of g trace h).sides.link l (owner_is h.points trace (sym h.trace_is) l ∙ own) in
      let w = outgoing (h.machine.inbound l).conn in
      let one = (begins_on l).one in
      record {
        began = subst (λ (bs : List ℕ). Began bs (frames l)) (sym side.went ∙ went_is h.points trace (sym h.trace_is) l)
            (have_begun (link_went (parts_of l h.points)) w.rest (frames l) w.begun one.shows one.ends);
        fronts = λ before after are s u mine.
            let at = behind l before in
            relayed g at.machine (front_of before) at.run before (entries_are before after are) (laws_at before) l (frames l) at.old
            at.later
            at.is at.one s u mine;
        none = λ before after are mine s nobody.
            let at = behind l before in
            unasked_none g at.machine (front_of before) at.run before (entries_are before after are) (laws_at before) l (frames l) at.old
            at.later at.is at.one mine s nobody;
      }

  -- and what goes up there, and on plain links
  plain_relays : (before after : List Entry) → trace ≡ before ++ after → PlainRelays before
  plain_relays before after are =
      let at = behind 0 before in
      relays_plain g at.machine (front_of before) at.run before (entries_are before after are) (laws_at before)

  up_relays : (before after : List Entry) → trace ≡ before ++ after → (l s u : ℕ) → owner u before ≡ upstream_of l s
      → (sent u before ≡ []) ⊎ TunnelRelaysUp before l s u
  up_relays before after are l s u own =
      let at = behind 0 before in
      relays_up g at.machine (front_of before) at.run before (entries_are before after are) (laws_at before) l s u own

  -- AT A PLACE of the trace that is no call at a door
  module _ (before : List Entry) (z : Entry) (after : List Entry) (are : trace ≡ before ++ z ∷ after)
      (stays : without_doors (z ∷ after) ≡ z ∷ without_doors after)
    where
      place_there : Place h.points (without_doors before) z
      place_there = place h.points (without_doors before) z (without_doors after)
          (sym h.trace_is ∙ ap without_doors are ∙ without_append before (z ∷ after)
          ∙ ap (λ (es : List Entry). without_doors before ++ es) stays)

      front_same : front_of before ≡ place_there.front
      front_same =
          ap (λ (n : ℕ). front_at n h.points) (ap length (sym place_there.before_is))
          ∙ ap (front_at (length (entries place_there.front))) place_there.points_are
          ∙ place_at place_there.front place_there.p place_there.rest z place_there.is

      -- what is said by what is held there is said by what the responses make
      by_responses : (P : Resources → Type 0) → P (messages.held g (control_of place_there.front)) → P (made_by g (applied before))
      by_responses P holds =
          subst P (made_is g place_there.front ∙ ap (λ (ps : List Point). made_by g (applied_of (control_of ps))) (sym front_same)) holds

  holds : Holds trace applied
  holds = record {
    told = λ before after are.
        let at = behind 0 before in
        are_told g at.machine before (front_of before) at.run (entries_are before after are) (laws_at before);
    grows = λ before more after are.
        let most : length (without_doors before) ≤ length (without_doors (before ++ more)) =
        omega (arith, ap length (without_append before more), length-append (without_doors before) (without_doors more)) in
        let split = grows_at (length (without_doors before)) (length (without_doors (before ++ more))) most h.points in (
          applied_of (control_of split.back),
          ap (λ (ps : List Point). applied_of (control_of ps)) split.is
              ∙ ap applied_of (flat_map-append control_in (front_of before) split.back)
              ∙ flat_map-append applied_in (control_of (front_of before)) (control_of split.back),
        );
    at_once = λ before z after are more d control living opened.
        let at = place_there before z after are (more_stays z after more) in
        subst (λ (ps : List Point). AllRead before d (flat_map (on_link d) (applied_of (control_of ps))))
        (sym (front_same before z after are (more_stays z after more)))
        (all_read g trace h at.front at.p at.rest z at.points_are at.is more before at.before_is d control living opened);
  }

  -- where more comes
  stands : (before : List Entry) (z : Entry) (after : List Entry) → trace ≡ before ++ z ∷ after → is_more z ≡ true
      → Stands (made_by g (applied before)) before
  stands before z after are more =
      let stays = more_stays z after more in
      let at = place_there before z after are stays in
      let goes = goes_at g trace h at.front at.p at.rest at.points_are in
      let laws = h.laws at.front (at.p ∷ at.rest) at.points_are in
      let closed = all_closed g trace h at.front at.p at.rest z at.points_are at.is more in
      by_responses before z after are stays (λ held. Stands held before)
      (record {
        tunnels = λ l s u own living.
            stands_admitted g goes.machine at.front goes.run before at.before_is laws closed l s u own living;
        plain = λ l u own at_door living.
            relay_admitted g goes.machine at.front goes.run before at.before_is laws closed l u own living at_door;
      })

  -- and what waits on plain links fits their rings
  waits : (before : List Entry) (z : Entry) (after : List Entry) → trace ≡ before ++ z ∷ after → is_more z ≡ true
      → (l u : ℕ) → owner u before ≡ relay_of l → PlainFits before l u
  waits before z after are more =
      let stays = more_stays z after more in
      let at = place_there before z after are stays in
      let goes = goes_at g trace h at.front at.p at.rest at.points_are in
      plain_fits g goes.machine at.front goes.run before at.before_is (h.laws at.front (at.p ∷ at.rest) at.points_are)
      (all_closed g trace h at.front at.p at.rest z at.points_are at.is more)

  -- where a link is dialled
  dials : (before : List Entry) (u : ℕ) (to : Target) (why : Why) (after : List Entry) → trace ≡ before ++ e.Dialled u to why ∷ after
      → TriesAdmitted (made_by g (applied before)) before to why
  dials before u to (whys.Upstream l s) after are =
      let z = e.Dialled u to (whys.Upstream l s) in
      let at = place_there before z after are refl in
      let goes = goes_at g trace h at.front at.p at.rest at.points_are in
      let p_is = dial_point g goes.machine goes.next at.p u to (whys.Upstream l s) goes.steps at.is in
      by_responses before z after are refl (λ held. AdmitsTo held before l to)
      (dial_admitted g goes.machine goes.next at.front goes.run before at.before_is
      (h.laws at.front (at.p ∷ at.rest) at.points_are) l s u to
      (subst (λ (q : Point). Steps g goes.machine q goes.next) p_is goes.steps))
  dials before u to (whys.Plain l) after are =
      let z = e.Dialled u to (whys.Plain l) in
      let at = place_there before z after are refl in
      let goes = goes_at g trace h at.front at.p at.rest at.points_are in
      let p_is = dial_point g goes.machine goes.next at.p u to (whys.Plain l) goes.steps at.is in
      by_responses before z after are refl (λ held. AdmitsPlain held before l)
      (plain_dial_admitted g goes.machine goes.next at.front goes.run before at.before_is
      (h.laws at.front (at.p ∷ at.rest) at.points_are) l u to
      (subst (λ (q : Point). Steps g goes.machine q goes.next) p_is goes.steps))
  dials before u to _ after are = tt

  -- WHERE BYTES GO
  module _ (before : List Entry) (u : ℕ) (bytes : List ℕ) (after : List Entry) (are : trace ≡ before ++ e.Went u bytes ∷ after) where
    abbrev z : Entry
    z = e.Went u bytes

    abbrev at : Place h.points (without_doors before) z
    at = place_there before z after are refl

    abbrev held_there : (P : Resources → Type 0) → P (messages.held g (control_of at.front)) → P (made_by g (applied before))
    held_there = by_responses before z after are refl

    laws : Laws g at.front
    laws = h.laws at.front (at.p ∷ at.rest) at.points_are

    goes : Goes g at.front at.p
    goes = goes_at g trace h at.front at.p at.rest at.points_are

    own_here : IsOwn at.front at.p
    own_here = own_in g trace h at.front at.p at.rest at.points_are

    on_front : (n : ℕ) → owner n (entries at.front) ≡ owner n before
    on_front n = ap (owner n) at.before_is ∙ owner_without n before

    plain_is : (l : ℕ) → owner l (entries at.front) ≡ plain_link → door_at l before ≡ door.Plain
        → (judges (door_of (plain_of l at.front)) ≡ true → PlainIsAdmitted g at.front l)
        → AdmitsPlain (made_by g (applied before)) before l
    plain_is l mine at_door admitted =
        held_there (λ held. AdmitsPlain held before l)
        (admits g goes.machine at.front goes.run before at.before_is laws l mine
        (admitted (judges_it g goes.machine at.front goes.run before at.before_is laws l mine at_door)))

    goes_admitted : GoesAdmitted (made_by g (applied before)) frames before u bytes
    goes_admitted = record {
      born = λ none. of_somebody at.front z u refl at.p own_here at.is (on_front u ∙ none);
      up = λ l s own.
          let p_is = of_upstream at.front z u refl at.p own_here at.is l s (on_front u ∙ own) in
          held_there (λ held. Admits held before l s u)
          (admits_up g goes.machine at.front goes.run before at.before_is laws l s u own goes.next bytes
          (subst (λ (q : Point). Steps g goes.machine q goes.next) p_is goes.steps));
      down = λ own.
          let p_is = of_inbound at.front z u refl at.p own_here at.is (on_front u ∙ own) in
          held_there (λ held. AreAdmitted held before u (begin_with bytes u (frames u) before))
          (down_admitted g u (frames u) at.front before bytes
          (subst (PlaceIs g u (frames u) at.front) p_is ((begins_on u).places at.front at.p at.rest at.points_are)) at.before_is laws own);
      plain = λ own at_door.
          plain_is u (on_front u ∙ own) at_door
          ((h.access at.front at.p at.rest at.points_are z u at.is refl).plain (on_front u ∙ own));
      relay = λ l own at_door.
          plain_is l ((all_owned g goes.machine at.front goes.run).relay_over l u (on_front u ∙ own)) at_door
          ((h.access at.front at.p at.rest at.points_are z u at.is refl).relay l (on_front u ∙ own));
    }

pub keeps_the_headline : LawfulKeepsTheHeadline
keeps_the_headline g trace h = record {
  frames = frames g trace h;
  applied = applied g trace h;
  prefix = record { plain = plain_relays g trace h; up = up_relays g trace h; down = relays_down g trace h };
  dialled = lawful_upstreams g trace h;
  held = holds g trace h;
  admitted = goes_admitted g trace h;
  revoked = stands g trace h;
  windows = record {
    inbound = link_keeps g trace h;
    control = plane_keeps g trace h;
    gateways = gate_keeps g trace h;
  };
  tried = dials g trace h;
  buffers = record { plain = waits g trace h; tunnels = down_fits g trace h };
}

pub began_is_not_one : BeganIsNotOne
began_is_not_one a b = (first_octet_begins (data_with a), first_octet_begins (data_with b), refl, refl)
