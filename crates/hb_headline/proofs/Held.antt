-- What is held in a lawful trace is what the responses make that came from the control plane.
use Rattle.std.proofs.Common.{◌≡◌, ℕ, ◌==◌, ◌||◌, Bool, true, false, cond, List, [], ◌∷◌, ◌++◌, map, Ok, fold, refl, ap, sym, ◌∙◌, subst}
use Rattle.std.specs.List.{flat_map, list_any, AllByRecursion}
use Rattle.std.proofs.lemmas.Bool.{false≢true}
use Rattle.std.proofs.lemmas.List.{append_assoc}
use Rattle.std.proofs.lemmas.List.Concat.{flat_map-append}
use Rattle.std.proofs.lemmas.List.Folds.{list_any-append}
use Rattle.hb_disco.specs.declared.response.Response.{Response}
use Rattle.hb_frames.specs.Frames.{Joins}
use Rattle.hb_held.specs.Held.{Resources}
use Rattle.hb_history.specs.Points.{frames_got}
use Rattle.hb_laws.specs.Lawful.{Laws}
use Rattle.hb_model.specs.Calls.{is_control_of, IsControl}
use Rattle.hb_model.specs.Messages as messages
use Rattle.hb_model.specs.Messages.{data_came, responses}
use Rattle.hb_model.specs.Point as point
use Rattle.hb_model.specs.Point.{moves, tellings}
use Rattle.hb_model.specs.declared.config.NodeConfig.{NodeConfig}
use Rattle.hb_proxy.specs.Doors.{without_doors}
use Rattle.hb_proxy.specs.Held.{at_start}
use Rattle.hb_history.specs.OwnFrames.{stage}
use Rattle.hb_model.proofs.OwnFrames.{suits_asks, all_suited}
use Rattle.hb_proxy.proofs.Projection.{control_runs}
use Rattle.hb_proxy.specs.Machine.{Machine}
use Rattle.hb_proxy.specs.Runs.{StandsFor}
use Rattle.hb_proxy.specs.Points.{Point, entries, control_of}
use Rattle.hb_world.specs.Trace.{recv, sent}
use Rattle.hb_world.specs.declared.entry.Entry.{Entry}
use Rattle.hb_headline.specs.Held.{Applied, apply, made_by, on_link, AreRead, AreTold}
use Rattle.hb_laws.proofs.Doors.{any_without, came_without}
use Rattle.hb_laws.proofs.Tells.{told}
use Rattle.hb_headline.proofs.DataCame.{front_handed}

abbrev pub applied_in : point.Point → List Applied
applied_in (point.applied l r) = record { link = l; response = r } ∷ []
applied_in _ = []

abbrev pub applied_of : List point.Point → List Applied
applied_of points = flat_map applied_in points

-- what is held is what the responses make that are applied
folds : (held : Resources) (points : List point.Point) → fold messages.held_by held points ≡ fold apply held (applied_of points)
folds held [] = refl
folds held (point.applied l r ∷ points) = folds (messages.held_by held (point.applied l r)) points
folds held (_ ∷ points) = folds held points

pub made_is : (g : NodeConfig) (front : List Point) → messages.held g (control_of front) ≡ made_by g (applied_of (control_of front))
made_is g front = folds (at_start g) (control_of front)

pub same : (d : ℕ) (points : List point.Point) → flat_map (on_link d) (applied_of points) ≡ responses d points
same d [] = refl
same d (point.applied l r ∷ points) = ap (λ (rs : List Response). cond (l == d) (r ∷ []) [] ++ rs) (same d points)
same d (_ ∷ points) = same d points

-- what passes a test in front passes it
or_left : (a b : Bool) → a ≡ true → (a || b) ≡ true
or_left true b is = refl
or_left false b is = absurd (false≢true is)

in_front : (is : Entry → Bool) (xs ys : List Entry) → list_any is xs ≡ true → list_any is (xs ++ ys) ≡ true
in_front is xs ys was = list_any-append is xs ys ∙ or_left (list_any is xs) (list_any is ys) was

module _ (g : NodeConfig) (x : Machine) (before : List Entry) (front : List Point) (run : StandsFor g x front)
    (before_is : entries front ≡ without_doors before)
    (laws : Laws g front)
  where
    read : (d : ℕ) → IsControl d before → AreRead before d (flat_map (on_link d) (applied_of (control_of front)))
    read d is =
        let on_front : IsControl d (entries front) =
        ap (list_any (is_control_of d)) before_is ∙ any_without (is_control_of d) (λ w. refl) before ∙ is in
        let known = laws.sides.known d on_front in
        let one = laws.control.connections d known.told in
        let applied = laws.control.messages d known.told in
        let came = sym (laws.sides.control d known.owned).came ∙ ap (recv d) before_is ∙ came_without d before in
        record {
          frames = frames_got (moves d (control_of front));
          partial = one.conn.receiver.reader.held;
          framed = subst (Joins (frames_got (moves d (control_of front))) one.conn.receiver.reader.held) came one.stands.came.frames_are;
          came = data_came d (control_of front);
          front = front_handed (moves d (control_of front)) (tellings d (control_of front)) (recv d (point.entries (control_of front)))
              (sent d (point.entries (control_of front))) one.conn one.stands
              (suits_asks (x.control.links d).phase (stage (moves d (control_of front)))
              (all_suited g x.control (control_of front) (control_runs g x front run) d));
          more = applied.more;
          read = applied.read ∙ ap (λ (rs : List Response). map Ok rs ++ applied.more) (sym (same d (control_of front)));
        }

    control_in_front : (d : ℕ) (pre rest : List point.Point) → control_of front ≡ pre ++ rest → IsControl d (point.entries pre)
        → IsControl d before
    control_in_front d pre rest are is =
        sym (any_without (is_control_of d) (λ w. refl) before) ∙ sym (ap (list_any (is_control_of d)) before_is)
        ∙ told (is_control_of d) front
        (ap (λ (ps : List point.Point). list_any (is_control_of d) (point.entries ps)) are
        ∙ ap (list_any (is_control_of d)) (flat_map-append point.entry_in pre rest)
        ∙ in_front (is_control_of d) (point.entries pre) (point.entries rest) is)

    only : (pre rest : List point.Point) → control_of front ≡ pre ++ rest
        → AllByRecursion (λ (a : Applied). IsControl a.link before) (applied_of rest)
    only pre [] are = tt
    only pre (point.applied l r ∷ rest) are = (
      control_in_front l pre (point.applied l r ∷ rest) are (laws.control.inner pre (point.applied l r) rest are).control,
      only (pre ++ point.applied l r ∷ []) rest (are ∙ sym (append_assoc pre (point.applied l r ∷ []) rest)),
    )
    only pre (q ∷ rest) are = only (pre ++ q ∷ []) rest (are ∙ sym (append_assoc pre (q ∷ []) rest))

    pub are_told : AreTold before (applied_of (control_of front))
    are_told = record { only = only [] (control_of front) refl; first = read }
