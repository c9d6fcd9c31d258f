-- Which end of a connection it is never changes.
use Rattle.std.proofs.Common.{◌≡◌, ◌==◌, ◌&&◌, ◌||◌, ℕ, Bool, true, false, cond, fold, List, [], ◌∷◌, Option, Some, None, Result, Ok, Err, refl, ap, ◌∙◌}
use Rattle.std.specs.FinMap.{get}
use Rattle.hb_map.specs.Keyed.{written}
use Rattle.hb_frames.specs.Numbers.{data_kind, headers_kind, rst_stream_kind, refused_stream}
use Rattle.hb_streams.specs.Answers.{answer_of, number_of}
use Rattle.hb_streams.specs.Moves.{Move, receives, begins, sends_end, sends_reset, after, after_answer, after_number, closed, refused, own_side_ended, peer_side_ended, peer_ended}
use Rattle.hb_streams.specs.States.{States, fresh}
use Rattle.hb_streams.specs.declared.fault.OpenFault.{OpenFault}
use Rattle.hb_streams.specs.declared.fault.StreamFault.{StreamFault}
use Rattle.hb_streams.specs.declared.role.Role.{Role}
use Rattle.hb_streams.specs.declared.sides.Sides.{Sides}
use Rattle.hb_streams.specs.declared.step.Step.{Step}
use Rattle.hb_streams.specs.declared.step.Step.TheVariants.{New, Goes, Ignored}
use Rattle.hb_history.proofs.Lives.{Moved}

sides_by : (s : States) (n : ℕ) (sides : Sides) (b : Bool)
    → (cond b (record s { active = written s.active n sides }) (closed s n)).role ≡ s.role
sides_by s n sides true = refl
sides_by s n sides false = refl

own_by : (s : States) (n : ℕ) (o : Option Sides) → (own_side_ended s n o).role ≡ s.role
own_by s n None = refl
own_by s n (Some sides) = sides_by s n (record sides { own = false }) (false || sides.peer)

peer_by : (s : States) (n : ℕ) (o : Option Sides) → (peer_side_ended s n o).role ≡ s.role
peer_by s n None = refl
peer_by s n (Some sides) = sides_by s n (record sides { peer = false }) (sides.own || false)

going_by : (s : States) (n : ℕ) (a b : Bool) → (cond a (closed s n) (cond b (peer_ended s n) s)).role ≡ s.role
going_by s n true b = refl
going_by s n false true = peer_by s n (get s.active n)
going_by s n false false = refl

refused_by : (s : States) (n : ℕ) (b : Bool) → (cond b (refused s n) s).role ≡ s.role
refused_by s n true = refl
refused_by s n false = refl

answer_by : (s : States) (kind n : ℕ) (end : Bool) (r : Result Step StreamFault) → (after_answer s kind n end r).role ≡ s.role
answer_by s kind n end (Ok New) = refl
answer_by s kind n end (Ok Goes) = going_by s n (kind == rst_stream_kind) (end && (kind == data_kind || kind == headers_kind))
answer_by s kind n end (Ok Ignored) = refl
answer_by s kind n end (Err fault) = refused_by s n (fault.code == refused_stream)

number_by : (s : States) (r : Result ℕ OpenFault) → (after_number s r).role ≡ s.role
number_by s (Ok n) = refl
number_by s (Err why) = refl

role_stays : (s : States) (m : Move) → (after s m).role ≡ s.role
role_stays s (receives kind n end) = answer_by s kind n end (answer_of s kind n)
role_stays s (begins limit) = number_by s (number_of s limit)
role_stays s (sends_end n) = own_by s n (get s.active n)
role_stays s (sends_reset n) = refl

role_of_all : (moves : List Move) (s : States) → (fold after s moves).role ≡ s.role
role_of_all [] s = refl
role_of_all (m ∷ moves) s = role_of_all moves (after s m) ∙ role_stays s m

pub role_is : (role : Role) (s : States) → Moved role s → s.role ≡ role
role_is role s moved = ap (λ (t : States). t.role) moved.1 ∙ role_of_all moved.0 (fresh role)
