-- In a lawful trace no more waits than the rings have room for.
use Rattle.std.proofs.Common.{◌≡◌, ℕ, ◌+◌, ◌≤◌, true, List, ◌∷◌, ◌++◌, length, drop, Option, refl, ap, sym, ◌∙◌, subst, arith}
use Rattle.std.proofs.lemmas.List.{append_assoc}
use Rattle.hb_captured.specs.Captured.{ring_up, ring_down}
use Rattle.hb_captured.specs.Sides as plain
use Rattle.hb_captured.specs.Sides.{link_came, raw_came}
use Rattle.hb_frames.specs.Numbers.{first_frame_size}
use Rattle.hb_frames.specs.RawFrame.{RawFrame}
use Rattle.hb_front.proofs.Answers.{one_answer}
use Rattle.hb_front.specs.Reading.{Seen, IsAnswer, Whole}
use Rattle.hb_kept.specs.Payloads.{payloads}
use Rattle.hb_laws.proofs.DownRing.{down_within}
use Rattle.hb_laws.proofs.Doors.{without_append}
use Rattle.hb_laws.proofs.Lawful.{own_in}
use Rattle.hb_laws.proofs.Places.{place, of_upstream}
use Rattle.hb_laws.specs.Lawful.{Lawful, Laws}
use Rattle.hb_model.specs.declared.config.NodeConfig.{NodeConfig}
use Rattle.hb_proxy.proofs.Owned.{all_owned}
use Rattle.hb_proxy.proofs.Projection.{links_run}
use Rattle.hb_proxy.specs.Doors.{without_doors}
use Rattle.hb_proxy.specs.Ends.{AllClosed}
use Rattle.hb_proxy.specs.Held.{at_start}
use Rattle.hb_proxy.specs.Machine.{Machine, local}
use Rattle.hb_proxy.specs.Owners.{owner, inbound_link, upstream_of, relay_of}
use Rattle.hb_proxy.specs.Points.{Point, entries, parts_of, plain_of}
use Rattle.hb_proxy.specs.Runs.{Steps, StandsFor}
use Rattle.hb_tunnel.specs.Tunnel.{down_size}
use Rattle.hb_world.specs.Trace.{recv, sent, lives}
use Rattle.hb_world.specs.declared.entry.Entry.{Entry}
use Rattle.hb_world.specs.declared.entry.Entry.TheVariants as e
use Rattle.hb_headline.specs.Access.{door_at}
use Rattle.hb_headline.specs.Buffers.{PlainFits}
use Rattle.hb_headline.specs.Relay.{IsFronted, begun_on}
use Rattle.hb_headline.proofs.Down.{begun_same}
use Rattle.hb_headline.proofs.OneList.{all_begin, new_on}
use Rattle.hb_headline.proofs.PlainAccess.{door_is}
use Rattle.hb_headline.proofs.PlainRevoked.{placed, is_plain}
use Rattle.hb_headline.proofs.Relay.{came_is, went_is, owner_is, header_told}

-- a header is read in one way
same_seen : (bytes : List ℕ) (a b : Seen) → IsAnswer bytes (Whole a) → IsAnswer bytes (Whole b) → a ≡ b
same_seen bytes a b first second = let same = one_answer bytes (Whole a) (Whole b) first second in cc

-- A PLAIN LINK, at a front of the run, and of its trace
module _ (g : NodeConfig) (x : Machine) (front : List Point) (run : StandsFor g x front) (before : List Entry)
    (before_is : entries front ≡ without_doors before) (laws : Laws g front) (all : AllClosed g front) (l u : ℕ)
    (own : owner u before ≡ relay_of l)
  where
    relayed : owner u (entries front) ≡ relay_of l
    relayed = owner_is front before before_is u ∙ own

    up_fits : lives u before ≡ true → (seen : Seen) → IsFronted before l seen
        → length (drop seen.length (recv l before)) ≤ length (sent u before) + ring_up (door_at l before)
    up_fits living seen fronted =
        let told = (placed g x front run before before_is laws all l u own living).0 in
        let mine = is_plain g x front run before before_is laws all l u own living in
        let came : link_came (plain_of l front) ≡ recv l before =
        sym (laws.sides.plain l mine).came ∙ came_is front before before_is l in
        let read = subst (λ (bs : List ℕ). IsAnswer bs (Whole told.seen)) came
        (header_told l (at_start g) (plain_of l front) (laws.plain l).verdicts told.seen told.told) in
        let same : told.seen ≡ seen = same_seen (recv l before) told.seen seen read fronted in
        let raw : raw_came (plain_of l front) ≡ drop seen.length (recv l before) =
        ap (λ (o : Option Seen). plain.behind o (link_came (plain_of l front))) told.told
        ∙ ap (λ (t : Seen). drop t.length (link_came (plain_of l front))) same ∙ ap (drop seen.length) came in
        omega (
          arith,
          (laws.rings l).up,
          ap (λ (bs : List ℕ). length bs) raw,
          ap (λ (bs : List ℕ). length bs) (sym (laws.sides.relay l u relayed).went ∙ went_is front before before_is u),
          ap ring_up (door_is g x front run before before_is laws l mine),
        )

    pub plain_fits : PlainFits before l u
    plain_fits = record {
      up = up_fits;
      down =
          let mine = (all_owned g x front run).relay_over l u relayed in
          omega (
            arith,
            (laws.rings l).down,
            ap (λ (bs : List ℕ). length bs) (sym (laws.sides.relay l u relayed).came ∙ came_is front before before_is u),
            ap (λ (bs : List ℕ). length bs) (sym (laws.sides.plain l mine).went ∙ went_is front before before_is l),
            ap ring_down (door_is g x front run before before_is laws l mine),
          );
    }

-- A TUNNEL, where bytes come from its upstream
module _ (g : NodeConfig) (trace : List Entry) (h : Lawful g trace) (before : List Entry) (u : ℕ) (bytes : List ℕ) (after : List Entry)
    (are : trace ≡ before ++ e.Came u bytes ∷ after) (l s : ℕ) (own : owner u before ≡ upstream_of l s)
  where
    pub down_fits : length (recv u before) + length bytes
        ≤ length (payloads s (begun_on l (all_begin g l h.machine h.points h.run).frames before)) + first_frame_size + down_size
    down_fits =
        let z = e.Came u bytes in
        let at = place h.points (without_doors before) z (without_doors after)
        (sym h.trace_is ∙ ap without_doors are ∙ without_append before (z ∷ after)) in
        let laws = h.laws at.front (at.p ∷ at.rest) at.points_are in
        let on_points = owner_is at.front before at.before_is u ∙ own in
        let own_here = own_in g trace h at.front at.p at.rest at.points_are in
        let p_is = of_upstream at.front z u refl at.p own_here at.is l s on_points in
        let began = all_begin g l h.machine h.points h.run in
        let here = began.places at.front at.p at.rest at.points_are in
        let may = (subst (λ (q : Point). Steps g here.machine q here.made) p_is here.steps).1.0 in
        let new = new_on l here.machine at.p in
        let over : owner l before ≡ inbound_link =
        sym (owner_is at.front before at.before_is l) ∙ (all_owned g here.machine at.front here.run).over l s u on_points in
        let same = begun_same g here.machine at.front here.run before at.before_is laws l began.frames here.old (new ++ here.later)
        (here.is ∙ append_assoc here.old new here.later) here.one over in
        omega (
          arith,
          down_within l (at_start g) (local here.machine l) (parts_of l at.front) (links_run g here.machine at.front l here.run) s bytes
              may.0.1 may.2 may.3 here.old (here.one.sends s),
          ap (λ (bs : List ℕ). length bs) (sym (laws.sides.up l s u on_points).came ∙ came_is at.front before at.before_is u),
          ap (λ (fs : List RawFrame). length (payloads s fs)) same,
        )
