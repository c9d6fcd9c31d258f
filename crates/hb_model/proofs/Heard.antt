-- What ends the stream of a link is told of.
use Rattle.std.proofs.Common.{◌≡◌, ℕ, Bool, false, List, [], ◌∷◌, ◌++◌, Option, Some, None, refl, ap, sym, ◌∙◌, subst}
use Rattle.std.specs.List.{list_any}
use Rattle.std.proofs.lemmas.List.{append-nil}
use Rattle.hb_conn.specs.Connection.{Connection, FindsWhile, FindsOf}
use Rattle.hb_conn.specs.declared.found.Found.TheVariants.{Silent}
use Rattle.hb_frames.specs.RawFrame.{RawFrame}
use Rattle.hb_hpack.specs.declared.header.Header.{Header}
use Rattle.hb_history.specs.Heard.{is_heard, ends_stream}
use Rattle.hb_history.specs.History.{ends_in, happenings}
use Rattle.hb_history.specs.OwnCredits.{is_left}
use Rattle.hb_history.specs.OwnFrames.{asks, stage}
use Rattle.hb_history.specs.Points as history
use Rattle.hb_history.proofs.Heard.{frames_are_heard, none_ended_it}
use Rattle.hb_world.specs.Trace.{recv, sent}
use Rattle.hb_model.specs.declared.config.NodeConfig.{NodeConfig}
use Rattle.hb_model.specs.Calls.{Was, is_opened_of}
use Rattle.hb_model.specs.Discovery.{Phase, live}
use Rattle.hb_model.specs.Inner.{AllHeard}
use Rattle.hb_model.specs.Laws.{RunsHearAll}
use Rattle.hb_model.specs.Machine.{Machine}
use Rattle.hb_model.specs.Point.{Point, looked, entries, moves, moves_in, tellings}
use Rattle.hb_model.specs.Runs.{Steps, StandsFor, goes_on, IsQuiet}
use Rattle.hb_model.proofs.AtOnce.{OfEach, at_once}
use Rattle.hb_model.proofs.ConnectionsRun.{on_itself, all_one}
use Rattle.hb_model.proofs.CreditsRun.{all_keep}
use Rattle.hb_model.proofs.Grown.{one_more}
use Rattle.hb_model.proofs.Inner.{calm_at}
use Rattle.hb_model.proofs.OwnFrames.{Suits, all_suited}
use Rattle.hb_model.proofs.Places.{at_entries}
use Rattle.hb_model.proofs.RequestsRun.{IsGoing}

module _ (g : NodeConfig) (m : Machine) (points : List Point) (stands : StandsFor g m points) (l : ℕ)
    (alive : (m.links l).phase ≡ live) where
  -- the connection of a live link asks
  asking : stage (moves l points) ≡ asks
  asking = subst (λ (p : Phase). Suits p (stage (moves l points))) alive (all_suited g m points stands l)

  -- and its peer hasn't ended the stream, where no end is still to be told
  unended : (m.links l).conn.ended ≡ None → list_any is_left (happenings (moves l points)) ≡ false
  unended none =
      let told : happenings (moves l points) ≡ tellings l points =
      (all_one g m points stands l).stands.told ∙ ap (λ (o : Option ℕ). tellings l points ++ ends_in o) none
      ∙ append-nil (tellings l points) in
      ap (list_any is_left) told ∙ (all_keep g m points stands l (subst IsGoing (sym alive) tt)).0

-- while all is quiet no frame that came ended a stream
heard_at : (g : NodeConfig) (m : Machine) (points : List Point) → StandsFor g m points → IsQuiet m
    → OfEach points (λ l. Was (is_opened_of l) (entries points) → list_any ends_stream (history.frames_got (moves l points)) ≡ false)
heard_at g m points stands quiet l control living none was =
    let h = calm_at g m points stands quiet l control living none was in
    none_ended_it (moves l points) (tellings l points) (recv l (entries points)) (sent l (entries points)) (m.links l).conn
    (all_one g m points stands l).stands (asking g m points stands l h.0) (unended g m points stands l h.0 h.1.looked_at.0)

pub hear_all : RunsHearAll
hear_all g m points stands =
    at_entries g AllHeard (λ n before x runs may. at_once g n before runs _ (heard_at g n before runs) x may) m points stands

-- where a frame is looked at and nothing is told no end is still to be told
none_to_tell : (o : Option ℕ) (c d : Connection) → FindsOf o c d Silent → o ≡ None
none_to_tell None c d finds = refl
none_to_tell (Some s) c d finds = absurd (let told = finds.1 in cc)

-- a frame of which something is told isn't looked at with nothing told
pub silent_unheard : (g : NodeConfig) (m n : Machine) (points : List Point) (l : ℕ) (f : RawFrame) (headers : List Header)
    → StandsFor g m points → Steps g m (looked l (history.point (history.got f) Silent ∷ []) Silent headers) n → is_heard f ≡ false
silent_unheard g m n points l f headers stands steps =
    let p = looked l (history.point (history.got f) Silent ∷ []) Silent headers in
    let look = steps.2 in
    let c = (m.links l).conn in
    let finds = subst (λ (b : Bool). FindsWhile b c steps.1 Silent) look.found.runs.1.0 look.found.finds in
    let more = goes_on stands p steps refl in
    let one = (all_one g n (points ++ p ∷ []) more l).stands in
    frames_are_heard (moves l (points ++ p ∷ [])) _ _ _ (n.links l).conn one (moves l points) [] f
    (one_more (moves_in l) points p
    ∙ ap (λ (ps : List history.Point). moves l points ++ ps) (on_itself l (history.point (history.got f) Silent ∷ [])))
    (asking g m points stands l steps.0) (unended g m points stands l steps.0 (none_to_tell c.ended c steps.1 finds))
