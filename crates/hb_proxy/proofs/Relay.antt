-- What goes to each side of a tunnel, or of a plain link, is a front of what came from the other, in every run of the whole.
use Rattle.std.proofs.Common.{◌≡◌, ◌≢◌, ℕ, true, false, List, [], ◌++◌, ap, sym, ◌∙◌, subst}
use Rattle.std.proofs.lemmas.List.{append_assoc}
use Rattle.std.specs.List.{flat_map}
use Rattle.hb_captured.specs.Relay as plain
use Rattle.hb_captured.specs.Sides.{header_of, behind, link_went, was, is_asked}
use Rattle.hb_inbound.proofs.RelayDown.{relay_down}
use Rattle.hb_inbound.proofs.RelayUp.{relay_up}
use Rattle.hb_inbound.specs.Relay as inbound
use Rattle.hb_inbound.specs.Relay.{MayGoUp, MayEnd}
use Rattle.hb_kept.specs.Payloads.{Began, payloads}
use Rattle.hb_model.specs.declared.config.NodeConfig.{NodeConfig}
use Rattle.hb_world.specs.Trace.{sent}
use Rattle.hb_proxy.specs.Held.{at_start}
use Rattle.hb_proxy.specs.Laws.{RunsRelay}
use Rattle.hb_proxy.specs.Machine.{Machine, local}
use Rattle.hb_proxy.specs.Owners.{owner, inbound_link, upstream_of, plain_link, relay_of}
use Rattle.hb_proxy.specs.Points.{Point, entries, parts_of, plain_of}
use Rattle.hb_proxy.specs.Relay.{RelaysUp, RelaysDown, SendsNone, PlainRelaysUp, PlainRelaysDown, StreamRelaysUp, StreamRelaysDown}
use Rattle.hb_proxy.specs.Runs.{StandsFor}
use Rattle.hb_proxy.specs.Sides.{SideLaw, PlainSide}
use Rattle.hb_proxy.specs.Streams.{IsAsked}
use Rattle.hb_proxy.proofs.Gates.{obey_gates}
use Rattle.hb_proxy.proofs.Owned.{all_owned}
use Rattle.hb_proxy.proofs.Places.{at_parts}
use Rattle.hb_proxy.proofs.Plain.{obey_plain}
use Rattle.hb_proxy.proofs.Projection.{links_run}
use Rattle.hb_proxy.proofs.Sides.{no_upstream, runs_share}
use Rattle.hb_proxy.proofs.StreamAsks.{asked_told}
use Rattle.hb_proxy.proofs.StreamParts.{front_empty, relay_came_in, relay_went_in, stream_came_alone, stream_went_alone}
use Rattle.hb_proxy.proofs.StreamRelay.{puts_same, brings_same}
use Rattle.hb_proxy.proofs.Streamed.{asked_born, never_relayed}

module _ (g : NodeConfig) (x : Machine) (points : List Point) (stands : StandsFor g x points) where
  sides : SideLaw points
  sides = runs_share g x points stands

  up_law : (l : ℕ) → inbound.RelayUpLaw (parts_of l points)
  up_law l = relay_up l (at_start g) (local x l) (parts_of l points) (links_run g x points l stands)

  down_law : (l : ℕ) → inbound.RelayDownLaw (parts_of l points)
  down_law l = relay_down l (at_start g) (local x l) (parts_of l points) (links_run g x points l stands)

  ups : (l s u : ℕ) → owner u (entries points) ≡ upstream_of l s → RelaysUp points l s u
  ups l s u is =
      let law = (up_law l).ups s in
      let side = sides.up l s u is in
      record { rest = law.rest; front = law.front ∙ ap (λ bytes. bytes ++ law.rest) (sym side.went) }

  downs : (l s u : ℕ) → owner u (entries points) ≡ upstream_of l s → RelaysDown points l s u
  downs l s u is =
      let law = (down_law l).downs s in
      let side = sides.up l s u is in
      let link = sides.link l ((all_owned g x points stands).over l s u is) in
      record {
        begun = law.begun;
        began = subst (λ (bytes : List ℕ). Began bytes law.begun) (sym link.went) law.began;
        rest = law.rest;
        front = side.came ∙ law.front;
      }

  none : (l s : ℕ) → owner l (entries points) ≡ inbound_link → ((u : ℕ) → owner u (entries points) ≢ upstream_of l s) → SendsNone points l s
  none l s is no_up =
      let law = (down_law l).downs s in
      let side = sides.none l s no_up in
      let link = sides.link l is in
      record {
        begun = law.begun;
        began = subst (λ (bytes : List ℕ). Began bytes law.begun) (sym link.went) law.began;
        none = front_empty _ law.rest (sym law.front ∙ side.came);
      }

  plain_law : (l : ℕ) → plain.RelayLaw (at_start g) (plain_of l points)
  plain_law l = (obey_plain g x points l stands).relay

  plain_ups : (l u : ℕ) → owner u (entries points) ≡ relay_of l → PlainRelaysUp points l u
  plain_ups l u is =
      let law = (plain_law l).ups in
      let link = sides.plain l ((all_owned g x points stands).relay_over l u is) in
      record {
        rest = law.rest;
        front = ap (behind (header_of (plain_of l points))) link.came ∙ law.front
            ∙ ap (λ bytes. bytes ++ law.rest) (sym (sides.relay l u is).went);
      }

  plain_downs : (l u : ℕ) → owner u (entries points) ≡ relay_of l → PlainRelaysDown points l u
  plain_downs l u is =
      let law = (plain_law l).downs in
      let link = sides.plain l ((all_owned g x points stands).relay_over l u is) in
      record {
        rest = law.rest;
        front = (sides.relay l u is).came ∙ law.front ∙ ap (λ bytes. bytes ++ law.rest) (sym link.went);
      }

  plain_none : (l : ℕ) → owner l (entries points) ≡ plain_link → ((u : ℕ) → owner u (entries points) ≢ relay_of l)
      → was is_asked (plain_of l points) ≡ false → sent l (entries points) ≡ []
  plain_none l is no_up unasked =
      let law = (plain_law l).downs in
      (sides.plain l is).went ∙ front_empty (link_went (plain_of l points)) law.rest (sym law.front ∙ (sides.no_relay l no_up unasked).came)

  -- BY A GATEWAY

  module _ (l n s : ℕ) (is : IsAsked points l n s) where
    told : was is_asked (plain_of l points) ≡ true
    told = asked_told points l n s is

    link_side : PlainSide points l
    link_side = sides.plain l ((all_owned g x points stands).plain l (asked_born g x points stands l told))

    no_relay : (flat_map relay_came_in (plain_of l points) ≡ []) × (flat_map relay_went_in (plain_of l points) ≡ [])
    no_relay = no_upstream g x points stands l (never_relayed g x points stands l told)

    stream_ups : StreamRelaysUp points l n s
    stream_ups =
        let law = (plain_law l).ups in
        let sends = (obey_gates g x points n stands).sends in
        record {
          history = sends.history;
          rest = sends.rest s ++ law.rest;
          front = ap (behind (header_of (plain_of l points))) link_side.came ∙ law.front
              ∙ ap (λ bytes. bytes ++ law.rest) (stream_went_alone (plain_of l points) no_relay.1
              ∙ puts_same g x points stands l n s is ∙ sends.front s)
              ∙ append_assoc (payloads s sends.history.stands.begun) (sends.rest s) law.rest;
        }

    stream_downs : StreamRelaysDown points l n s
    stream_downs =
        let law = (plain_law l).downs in
        let brings = (obey_gates g x points n stands).brings s in
        record {
          rest = law.rest ++ brings.rest;
          front = brings.front
              ∙ ap (λ bytes. bytes ++ brings.rest) (sym (brings_same g x points stands l n s is)
              ∙ sym (stream_came_alone (plain_of l points) no_relay.0) ∙ law.front ∙ ap (λ bytes. bytes ++ law.rest) (sym link_side.went))
              ∙ append_assoc (sent l (entries points)) law.rest brings.rest;
        }

pub runs_relay : RunsRelay
runs_relay g x points stands = record {
  ups = ups g x points stands;
  downs = downs g x points stands;
  none = none g x points stands;
  goes = at_parts (λ l. MayGoUp) points (λ l. (up_law g x points stands l).places);
  ends = at_parts (λ l. MayEnd) points (λ l. (down_law g x points stands l).places);
  plain_ups = plain_ups g x points stands;
  plain_downs = plain_downs g x points stands;
  plain_none = plain_none g x points stands;
  stream_ups = stream_ups g x points stands;
  stream_downs = stream_downs g x points stands;
}
