-- On each link of a lawful trace that speaks HTTP/2 DATA begins within what the peer granted.
use Rattle.std.proofs.Common.{◌≡◌, ◌⊎◌, inl, inr, ⊎_elim, ℕ, ◌+◌, ◌<◌, ◌≤◌, ◌==◌, Bool, true, cond, List, [], ◌∷◌, ◌++◌, length, refl, ap, sym, ◌∙◌, subst, arith}
use Rattle.std.specs.List.{list_any}
use Rattle.std.proofs.lemmas.List.{append-nil}
use Rattle.std.proofs.lemmas.List.Concat.{flat_map-append}
use Rattle.hb_conn.specs.Preface.{octets}
use Rattle.hb_conn.specs.declared.found.Found.TheVariants.{Silent}
use Rattle.hb_frames.specs.Frames.{Joins}
use Rattle.hb_frames.specs.RawFrame.{RawFrame}
use Rattle.hb_history.specs.Points.{point as moved_by, wrote, frames_got}
use Rattle.hb_inbound.proofs.Runs.{Keeps, all_keep}
use Rattle.hb_inbound.specs.Part as part
use Rattle.hb_inbound.specs.Part.{Part}
use Rattle.hb_inbound.specs.Sides.{link_went, conn_came}
use Rattle.hb_laws.proofs.Doors.{without_append, any_without, went_without, came_without}
use Rattle.hb_laws.proofs.Lawful.{Goes, goes_at, own_in, laws_of}
use Rattle.hb_laws.proofs.Places.{Place, IsOwn, place, of_somebody, of_plane, of_inbound}
use Rattle.hb_laws.proofs.Spelled.{frames_read}
use Rattle.hb_laws.specs.Lawful.{Lawful, Laws}
use Rattle.hb_model.proofs.ConnectionsRun.{IsOne, all_one}
use Rattle.hb_model.specs.Calls.{is_control_of, IsControl}
use Rattle.hb_model.specs.Point as point
use Rattle.hb_model.specs.declared.config.NodeConfig.{NodeConfig}
use Rattle.hb_outgoing.specs.Selected.{has_data}
use Rattle.hb_outgoing.specs.Waiting.{spelled}
use Rattle.hb_proxy.proofs.Owned.{whose_in, owner_grows}
use Rattle.hb_proxy.proofs.Projection.{control_runs, links_run}
use Rattle.hb_proxy.specs.Doors.{without_doors}
use Rattle.hb_proxy.specs.Held.{at_start}
use Rattle.hb_proxy.specs.Machine.{Machine, local}
use Rattle.hb_proxy.specs.Owners.{Owner, nobody, control_plane, inbound_link, owner}
use Rattle.hb_proxy.specs.Points.{Point, entries, control_in, control_of, part_in, parts_of}
use Rattle.hb_proxy.specs.Runs.{StandsFor, begins, goes_on}
use Rattle.hb_streams.specs.declared.role.Role.TheVariants.{Server, Client}
use Rattle.hb_world.specs.Trace.{recv, sent}
use Rattle.hb_world.specs.declared.entry.Entry.{Entry}
use Rattle.hb_world.specs.declared.entry.Entry.TheVariants as e
use Rattle.hb_headline.specs.Windows.{AreFirst, AreClients, IsGranted, KeepsWindows}
use Rattle.hb_headline.proofs.Fronts.{split_last}
use Rattle.hb_headline.proofs.Granted.{octets_went, granted}
use Rattle.hb_headline.proofs.OneList.{AllBegin, all_begin}
use Rattle.hb_headline.proofs.Relay.{owner_is}
use Rattle.hb_headline.proofs.RelayUp.{are_clients}

-- a link that is somebody's stays so
pub owner_lasts : (g : NodeConfig) (x : Machine) (points : List Point) → StandsFor g x points → (front back : List Point)
    → points ≡ front ++ back → (n : ℕ) → (whose_in front n ≡ nobody) ⊎ (whose_in points n ≡ whose_in front n)
owner_lasts g x points (begins is none) [] back are n = inl refl
owner_lasts g x points (begins is none) (q ∷ front) back are n = absurd (let no : [] ≡ q ∷ (front ++ back) = sym none ∙ are in cc)
owner_lasts g y more (goes_on {x = x} {points = points} stands p steps are) front back is n =
    ⊎_elim (λ all. inr (ap (λ (ps : List Point). whose_in ps n) (are ∙ sym all)))
    (λ short. ⊎_elim inl (λ same. ⊎_elim (λ none. inl (sym same ∙ none))
    (λ grows. inr (ap (λ (ps : List Point). whose_in ps n) are ∙ grows ∙ same)) (owner_grows g x points stands p y steps n))
    (owner_lasts g x points stands front short.0 short.1 n))
    (split_last points p front back (sym are ∙ is))

pub itself : (l : ℕ) → (l == l) ≡ true
itself l = grind arith

none_spelled : (fs : List RawFrame) → [] ≡ spelled fs → fs ≡ []
none_spelled [] is = refl
none_spelled (f ∷ fs) is = absurd cc

module _ (g : NodeConfig) (trace : List Entry) (h : Lawful g trace) where
  -- WHERE BYTES GO on a link that is somebody's
  module _ (before : List Entry) (l : ℕ) (bytes : List ℕ) (after : List Entry) (are : trace ≡ before ++ e.Went l bytes ∷ after)
      (who : Owner) (own : owner l trace ≡ who)
    where
      abbrev z : Entry
      z = e.Went l bytes

      abbrev pub at : Place h.points (without_doors before) z
      at = place h.points (without_doors before) z (without_doors after)
          (sym h.trace_is ∙ ap without_doors are ∙ without_append before (z ∷ after))

      pub laws : Laws g at.front
      laws = h.laws at.front (at.p ∷ at.rest) at.points_are

      pub goes : Goes g at.front at.p
      goes = goes_at g trace h at.front at.p at.rest at.points_are

      pub own_here : IsOwn at.front at.p
      own_here = own_in g trace h at.front at.p at.rest at.points_are

      pub owned : owner l (entries at.front) ≡ who
      owned =
          ⊎_elim (λ none. absurd (of_somebody at.front z l refl at.p own_here at.is none))
          (λ same. sym same ∙ owner_is h.points trace (sym h.trace_is) l ∙ own)
          (owner_lasts g h.machine h.points h.run at.front (at.p ∷ at.rest) at.points_are l)

      pub went_same : sent l (entries at.front) ≡ sent l before
      went_same = ap (sent l) at.before_is ∙ went_without l before

      pub came_same : recv l (entries at.front) ≡ recv l before
      came_same = ap (recv l) at.before_is ∙ came_without l before

  -- AN INBOUND LINK
  module _ (l : ℕ) (own : owner l trace ≡ inbound_link) where
    abbrev parts : List Part
    parts = parts_of l h.points

    abbrev began : AllBegin g l h.points h.machine
    began = all_begin g l h.machine h.points h.run

    keeps : Keeps parts (h.machine.inbound l)
    keeps = all_keep l (at_start g) (local h.machine l) parts (links_run g h.machine h.points l h.run)

    -- the frames of its connection are the one list
    same_list : keeps.one.stands.begun ≡ began.frames
    same_list =
        let read = frames_read began.frames keeps.one.stands.begun []
        (append-nil (spelled began.frames) ∙ sym began.one.shows ∙ keeps.one.stands.shows) in
        read.1 ∙ ap (λ (fs : List RawFrame). began.frames ++ fs) (none_spelled read.0 read.2) ∙ append-nil began.frames

    link_fits : (before : List Entry) (bytes : List ℕ) (after : List Entry) → trace ≡ before ++ e.Went l bytes ∷ after
        → (front : List RawFrame) (f : RawFrame) (behind : List RawFrame) → began.frames ≡ front ++ f ∷ behind
        → length (sent l before) ≤ length (spelled front) → length (spelled front) < length (sent l before) + length bytes
        → has_data f ≡ true → (got : List RawFrame) × AreClients got (recv l before) × IsGranted f front got
    link_fits before bytes after are front f behind frames_are unbegun starts some =
        let at = at before l bytes after are inbound_link own in
        let laws = laws before l bytes after are inbound_link own in
        let owned = owned before l bytes after are inbound_link own in
        let goes = goes before l bytes after are inbound_link own in
        let w = part.entry (e.Went l bytes) in
        let p_is = of_inbound at.front (e.Went l bytes) l refl at.p (own_here before l bytes after are inbound_link own) at.is owned in
        let parts_are : parts ≡ parts_of l at.front ++ w ∷ parts_of l at.rest =
        ap (parts_of l) at.points_are ∙ flat_map-append (part_in l) at.front (at.p ∷ at.rest)
        ∙ ap (λ (q : Point). parts_of l at.front ++ (part_in l q ++ parts_of l at.rest)) p_is
        ∙ ap (λ (b : Bool). parts_of l at.front ++ (cond b (w ∷ []) [] ++ parts_of l at.rest)) (itself l) in
        let one = (laws.links l).connection in
        let size = octets_went Server (part.moves (parts_of l at.front)) (part.tellings (parts_of l at.front))
        (conn_came (parts_of l at.front))
        (link_went (parts_of l at.front)) one.conn one.stands in
        let mine : link_went (parts_of l at.front) ≡ sent l before =
        sym (laws.sides.link l owned).went ∙ went_same before l bytes after are inbound_link own in (
          frames_got (part.moves (parts_of l at.front)),
          are_clients g goes.machine at.front goes.run before at.before_is laws l owned,
          granted Server (part.moves parts) (part.tellings parts) (conn_came parts) (link_went parts) (h.machine.inbound l).conn
              keeps.one.stands
              (part.moves (parts_of l at.front)) (part.moves (parts_of l at.rest)) (length bytes) Silent
              (ap part.moves parts_are ∙ flat_map-append part.moves_in (parts_of l at.front) (w ∷ parts_of l at.rest))
              front f behind (same_list ∙ frames_are) (sent l before) (size ∙ ap (λ (xs : List ℕ). length xs) mine) unbegun starts some,
        )

    pub link_keeps : KeepsWindows [] AreClients began.frames trace l
    link_keeps = record {
      went =
          let side = (laws_of g trace h).sides.link l (owner_is h.points trace (sym h.trace_is) l ∙ own) in
          record {
            rest = (h.machine.inbound l).conn.receiver.core.out.rest;
            is = sym began.one.shows
                ∙ ap (λ (bs : List ℕ). bs ++ (h.machine.inbound l).conn.receiver.core.out.rest)
                (sym side.went ∙ ap (sent l) (sym h.trace_is) ∙ went_without l trace);
          };
      fit = link_fits;
    }

  -- A LINK TO THE CONTROL PLANE
  module _ (d : ℕ) (control : IsControl d trace) where
    abbrev points : List point.Point
    points = control_of h.points

    on_points : IsControl d (entries h.points)
    on_points = ap (list_any (is_control_of d)) (sym h.trace_is) ∙ any_without (is_control_of d) (λ w. refl) trace ∙ control

    owned_so : owner d (entries h.points) ≡ control_plane
    owned_so = ((laws_of g trace h).sides.known d on_points).owned

    own_so : owner d trace ≡ control_plane
    own_so = sym (owner_is h.points trace (sym h.trace_is) d) ∙ owned_so

    abbrev one : IsOne points d (h.machine.control.links d)
    one = all_one g h.machine.control points (control_runs g h.machine h.points h.run) d

    plane_fits : (before : List Entry) (bytes : List ℕ) (after : List Entry) → trace ≡ before ++ e.Went d bytes ∷ after
        → (front : List RawFrame) (f : RawFrame) (behind : List RawFrame) → one.stands.begun ≡ front ++ f ∷ behind
        → length (sent d before) ≤ length (octets ++ spelled front)
        → length (octets ++ spelled front) < length (sent d before) + length bytes → has_data f ≡ true
        → (got : List RawFrame) × AreFirst got (recv d before) × IsGranted f front got
    plane_fits before bytes after are front f behind frames_are unbegun starts some =
        let at = at before d bytes after are control_plane own_so in
        let laws = laws before d bytes after are control_plane own_so in
        let owned = owned before d bytes after are control_plane own_so in
        let goes = goes before d bytes after are control_plane own_so in
        let w = point.entry (e.Went d bytes) in
        let p_is = of_plane at.front (e.Went d bytes) d refl at.p (own_here before d bytes after are control_plane own_so) at.is owned in
        let points_are : points ≡ control_of at.front ++ w ∷ control_of at.rest =
        ap control_of at.points_are ∙ flat_map-append control_in at.front (at.p ∷ at.rest)
        ∙ ap (λ (q : Point). control_of at.front ++ (control_in q ++ control_of at.rest)) p_is in
        let moved : point.moves d points ≡ point.moves d (control_of at.front) ++ moved_by (wrote (length bytes)) Silent
        ∷ point.moves d (control_of at.rest) =
        ap (point.moves d) points_are ∙ flat_map-append (point.moves_in d) (control_of at.front) (w ∷ control_of at.rest)
        ∙ ap (λ (b : Bool). point.moves d (control_of at.front) ++ (cond b (point.act (wrote (length bytes))) []
        ++ point.moves d (control_of at.rest))) (itself d) in
        let was = all_one g goes.machine.control (control_of at.front) (control_runs g goes.machine at.front goes.run) d in
        let side = laws.sides.control d owned in
        let here = point.entries (control_of at.front) in
        let size = octets_went Client (point.moves d (control_of at.front)) (point.tellings d (control_of at.front)) (recv d here)
        (sent d here) (goes.machine.control.links d).conn was.stands in
        let mine : sent d here ≡ sent d before = sym side.went ∙ went_same before d bytes after are control_plane own_so in
        let came : recv d here ≡ recv d before = sym side.came ∙ came_same before d bytes after are control_plane own_so in (
          frames_got (point.moves d (control_of at.front)),
          (
            (goes.machine.control.links d).conn.receiver.reader.held,
            subst (Joins (frames_got (point.moves d (control_of at.front)))
                (goes.machine.control.links d).conn.receiver.reader.held) came was.stands.came.frames_are,
          ),
          granted Client (point.moves d points) (point.tellings d points) (recv d (point.entries points)) (sent d (point.entries points))
              (h.machine.control.links d).conn one.stands
              (point.moves d (control_of at.front)) (point.moves d (control_of at.rest)) (length bytes) Silent moved
              front f behind frames_are (sent d before) (size ∙ ap (λ (xs : List ℕ). length xs) mine) unbegun starts some,
        )

    pub plane_keeps : (frames : List RawFrame) × KeepsWindows octets AreFirst frames trace d
    plane_keeps = (
      one.stands.begun,
      record {
        went =
            let side = (laws_of g trace h).sides.control d owned_so in
            let rest = (h.machine.control.links d).conn.receiver.core.out.rest in
            record {
              rest = rest;
              is = sym one.stands.shows
                  ∙ ap (λ (bs : List ℕ). bs ++ rest) (sym side.went ∙ ap (sent d) (sym h.trace_is) ∙ went_without d trace);
            };
        fit = plane_fits;
      },
    )
