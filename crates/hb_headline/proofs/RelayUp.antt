-- What goes up on a tunnel of a lawful trace is DATA that came on its stream.
use Rattle.std.proofs.Common.{◌≡◌, ◌⊎◌, inl, inr, ℕ, List, [], ◌∷◌, ◌++◌, drop, Option, Some, None, refl, ap, sym, ◌∙◌, subst}
use Rattle.std.proofs.lemmas.List.{append_assoc}
use Rattle.hb_conn.specs.Connection.{fresh_server}
use Rattle.hb_frames.specs.Frames.{Joins}
use Rattle.hb_frames.specs.RawFrame.{RawFrame}
use Rattle.hb_front.specs.Reading.{Seen, IsAnswer, Whole}
use Rattle.hb_history.proofs.Lives.{lives_new}
use Rattle.hb_history.specs.Points.{frames_got}
use Rattle.hb_inbound.specs.Part.{Part, moves}
use Rattle.hb_streams.specs.declared.role.Role.TheVariants.{Server}
use Rattle.hb_inbound.specs.Sides.{stream_came, behind_front, front_size, link_came}
use Rattle.hb_laws.specs.Lawful.{Laws}
use Rattle.hb_model.specs.declared.config.NodeConfig.{NodeConfig}
use Rattle.hb_proxy.proofs.Owned.{all_owned}
use Rattle.hb_proxy.proofs.Projection.{links_run}
use Rattle.hb_proxy.specs.Held.{at_start}
use Rattle.hb_proxy.specs.Doors.{without_doors}
use Rattle.hb_proxy.specs.Machine.{Machine, local}
use Rattle.hb_proxy.specs.Owners.{owner, upstream_of, inbound_link}
use Rattle.hb_proxy.specs.Points.{Point, entries, parts_of}
use Rattle.hb_proxy.specs.Runs.{StandsFor}
use Rattle.hb_world.specs.Trace.{recv, sent}
use Rattle.hb_world.specs.declared.entry.Entry.{Entry}
use Rattle.hb_headline.specs.Relay.{IsFront, data_on, TunnelRelaysUp}
use Rattle.hb_headline.specs.Windows.{AreClients}
use Rattle.hb_headline.proofs.Front.{header_of, size_in, size_told, header_stands}
use Rattle.hb_headline.proofs.Relay.{came_is, went_is, owner_is, none_first}
use Rattle.hb_headline.proofs.Shut.{front_told}

-- AT A FRONT of the run, and of its trace

-- without octets there are no frames
no_frames : (fs : List RawFrame) (rest : List ℕ) → Joins fs rest [] → fs ≡ []
no_frames [] rest join = refl
no_frames (f ∷ fs) rest join = absurd (cc)

module _ (g : NodeConfig) (x : Machine) (front : List Point) (run : StandsFor g x front) (before : List Entry)
    (before_is : entries front ≡ without_doors before) (laws : Laws g front) (l : ℕ) (is_inbound : owner l (entries front) ≡ inbound_link)
  where
    abbrev parts : List Part
    parts = parts_of l front

    came_same : link_came parts ≡ recv l before
    came_same = sym (laws.sides.link l is_inbound).came ∙ came_is front before before_is l

    -- the connection's frames
    joined : Joins (frames_got (moves parts))
        (laws.links l).connection.conn.receiver.reader.held (drop 24 (behind_front (front_size parts) (recv l before)))
    joined =
        subst (λ (bs : List ℕ). Joins (frames_got (moves parts))
        (laws.links l).connection.conn.receiver.reader.held (drop 24 (behind_front (front_size parts) bs)))
        came_same (laws.links l).connection.stands.came.frames_are

    fronted_so : (seen : Seen) → header_of parts ≡ Some seen → IsAnswer (recv l before) (Whole seen)
    fronted_so seen is =
        subst (λ (bs : List ℕ). IsAnswer bs (Whole seen)) came_same
        (header_stands l (at_start g) (local x l) parts (links_run g x front l run) seen is)

    by : (o : Option Seen) → header_of parts ≡ o → AreClients (frames_got (moves parts)) (recv l before)
    by None is =
        let size : front_size parts ≡ None = size_told parts None ∙ ap size_in is in
        inl (no_frames (frames_got (moves parts)) _
        (subst (λ (n : Option ℕ). Joins (frames_got (moves parts))
        (laws.links l).connection.conn.receiver.reader.held (drop 24 (behind_front n (recv l before)))) size joined))
    by (Some seen) is =
        let size : front_size parts ≡ Some seen.length = size_told parts None ∙ ap size_in is in
        inr (
          seen,
          fronted_so seen is,
          (
            (laws.links l).connection.conn.receiver.reader.held,
            subst (λ (n : Option ℕ). Joins (frames_got (moves parts))
                (laws.links l).connection.conn.receiver.reader.held (drop 24 (behind_front n (recv l before)))) size joined,
          ),
        )

    -- the frames that were looked at on an inbound link are the first that came
    pub are_clients : AreClients (frames_got (moves parts)) (recv l before)
    are_clients = by (header_of parts) refl

module _ (g : NodeConfig) (x : Machine) (front : List Point) (run : StandsFor g x front) (before : List Entry)
    (before_is : entries front ≡ without_doors before) (laws : Laws g front) (l s u : ℕ) (own : owner u before ≡ upstream_of l s)
  where
    on_points : owner u (entries front) ≡ upstream_of l s
    on_points = owner_is front before before_is u ∙ own

    abbrev frames : List RawFrame
    frames = frames_got (moves (parts_of l front))

    -- the link of an upstream is an inbound one: no fact of Lawful says so, but the run
    over_inbound : owner l (entries front) ≡ inbound_link
    over_inbound = (all_owned g x front run).over l s u on_points

    told : IsFront (stream_came s (parts_of l front)) (data_on s frames)
    told =
        front_told s Server fresh_server.receiver.core (moves (parts_of l front)) _ (lives_new Server)
        (laws.links l).connection.stands.runs

    sent_front : IsFront (sent u before) (data_on s frames)
    sent_front =
        let ups = laws.relay.ups l s u on_points in
        record {
          rest = ups.rest ++ told.rest;
          is = told.is
              ∙ ap (λ (bs : List ℕ). bs ++ told.rest) (ups.front ∙ ap (λ (bs : List ℕ). bs ++ ups.rest) (went_is front before before_is u))
              ∙ append_assoc (sent u before) ups.rest told.rest;
        }

    relayed_by : AreClients frames (recv l before) → (sent u before ≡ []) ⊎ TunnelRelaysUp before l s u
    relayed_by (inl none) = inl (none_first (sent u before) sent_front.rest (sym (ap (data_on s) none) ∙ sent_front.is))
    relayed_by (inr (seen, fronted, (rest, framed))) =
        inr (record { seen = seen; fronted = fronted; frames = frames; partial = rest; framed = framed; front = sent_front })

    -- without a header nothing came of the connection
    pub relays_up : (sent u before ≡ []) ⊎ TunnelRelaysUp before l s u
    relays_up = relayed_by (are_clients g x front run before before_is laws l over_inbound)
