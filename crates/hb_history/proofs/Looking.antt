-- What a connection stands for once frames were looked at.
use Rattle.std.proofs.Common.{◌≡◌, ℕ, Bool, true, false, List, [], ◌∷◌, ◌++◌, Option, Some, None, refl, ap, sym, ◌∙◌, subst}
use Rattle.std.proofs.lemmas.List.{append_assoc, append-nil}
use Rattle.std.proofs.lemmas.Grind.{flat_map-append}
use Rattle.hb_frames.specs.RawFrame.{RawFrame}
use Rattle.hb_frames.specs.Frames.{Joins}
use Rattle.hb_streams.specs.declared.role.Role.{Role}
use Rattle.hb_outgoing.specs.Laws.{Shows}
use Rattle.hb_conn.specs.Connection.{Connection, Finds, FindsWhile, FindsOf, FindsAfter, FindsBy}
use Rattle.hb_conn.specs.Preface.{is_whole}
use Rattle.hb_conn.specs.Receiving.{pauses}
use Rattle.hb_conn.specs.declared.machine.Core.{Core}
use Rattle.hb_conn.specs.declared.found.Found.{Found}
use Rattle.hb_history.specs.Points.{Move, got, refused, misbegan, opened, answered, ended, reset, credited, put, wrote, Point, Runs, RunsWith, begins_by, got_by, frames_got}
use Rattle.hb_history.specs.History.{fresh, opening, ends_in, told_of, happenings, behind_of, StandsFor}
use Rattle.hb_history.specs.Calls.{in_list, IsLook, AreLooks}
use Rattle.hb_history.proofs.Runs.{runs_more, begins_more}
use Rattle.hb_history.proofs.Looks.{look_rest}

-- looking at frames leaves the preface
preface_by : (b : Bool) (c d : Connection) (told : Found) → FindsBy b c d told → d.preface ≡ c.preface
preface_by false c d told is = ap (λ (x : Connection). x.preface) is.1
preface_by true c d told is = is.1

preface_after : (b : Bool) (c d : Connection) (told : Found) → FindsAfter b c d told → d.preface ≡ c.preface
preface_after false c d told is = ap (λ (x : Connection). x.preface) is.0
preface_after true c d told is = preface_by c.preface.same c d told is

preface_of : (o : Option ℕ) (c d : Connection) (told : Found) → FindsOf o c d told → d.preface ≡ c.preface
preface_of (Some s) c d told is = ap (λ (x : Connection). x.preface) is.0
preface_of None c d told is = preface_after (is_whole c.preface) c d told is

preface_while : (b : Bool) (c d : Connection) (told : Found) → FindsWhile b c d told → d.preface ≡ c.preface
preface_while true c d told is = ap (λ (x : Connection). x.preface) is.0
preface_while false c d told is = preface_of c.ended c d told is

preface_stays : (c d : Connection) (told : Found) → Finds c d told → d.preface ≡ c.preface
preface_stays c d told finds = preface_while (pauses c.receiver.core) c d told finds

-- with looks no frame begins, and what was begun waits on
begins_none : (c : Core) (m : Move) → IsLook m → begins_by c m ≡ []
begins_none c (got f) look = refl
begins_none c (refused r kind flags) look = refl
begins_none c misbegan look = refl
begins_none c (opened s headers end) look = refl
begins_none c (answered s status) look = refl
begins_none c (ended s) look = refl
begins_none c (reset s code) look = refl
begins_none c (credited s n) look = refl
begins_none c (put s bytes) look = refl
begins_none c (wrote n) look = absurd look

pub looks_begin_none : (ps : List Point) (c d : Core) → AreLooks ps → Runs c ps d → RunsWith c ps [] d
looks_begin_none [] c d looks runs = (runs, refl)
looks_begin_none (p ∷ []) c d looks runs =
    (runs.0, runs.1, [], ap (λ (fs : List RawFrame). fs ++ []) (sym (begins_none c p.move looks)), (runs.2, refl))
looks_begin_none (p ∷ q ∷ ps) c d looks runs = (
  runs.0,
  runs.1,
  [],
  ap (λ (fs : List RawFrame). fs ++ []) (sym (begins_none c p.move looks.0)),
  looks_begin_none (q ∷ ps) runs.0 d looks.2 runs.2,
)

pub looks_rest : (ps : List Point) (c d : Core) → AreLooks ps → Runs c ps d → d.out.rest ≡ c.out.rest
looks_rest [] c d looks runs = ap (λ (x : Core). x.out.rest) runs
looks_rest (p ∷ []) c d looks runs =
    ap (λ (x : Core). x.out.rest) runs.2 ∙ look_rest c p.move runs.0 p.told looks runs.1
looks_rest (p ∷ q ∷ ps) c d looks runs =
    looks_rest (q ∷ ps) runs.0 d looks.2 runs.2 ∙ look_rest c p.move runs.0 p.told looks.0 runs.1

-- frames behind frames
joins_on : (fs gs : List RawFrame) (mid rest bytes : List ℕ) → Joins fs mid bytes → Joins gs rest mid → Joins (fs ++ gs) rest bytes
joins_on [] gs mid rest bytes first then = subst (λ (xs : List ℕ). Joins gs rest xs) (sym first) then
joins_on (f ∷ fs) gs mid rest bytes first then = (first.0, first.1, first.2, first.3, joins_on fs gs mid rest first.1 first.4 then)

pub looks_add : (role : Role) (points more : List Point) (given : List Found) (came written : List ℕ) (c d : Connection) (told : Found)
    → StandsFor role points given came written c → Finds c d told → AreLooks more → Runs c.receiver.core more d.receiver.core
    → Joins (frames_got more) d.receiver.reader.held c.receiver.reader.held
    → ends_in c.ended ++ happenings more ≡ in_list told ++ ends_in d.ended
    → StandsFor role (points ++ more) (given ++ in_list told) came written d
looks_add role points more given came written c d told stands finds looks runs frames tells =
    let preface = preface_stays c d told finds in
    record {
      runs = runs_more points more (fresh role).receiver.core c.receiver.core d.receiver.core stands.runs runs;
      came = record {
        are_octets = stands.came.are_octets;
        count = ap (λ p. p.came) preface ∙ stands.came.count;
        same = ap (λ p. p.same) preface ∙ stands.came.same;
        frames_are = subst (λ (fs : List RawFrame). Joins fs d.receiver.reader.held (behind_of role came))
            (sym (flat_map-append got_by points more))
            (joins_on (frames_got points) (frames_got more) c.receiver.reader.held d.receiver.reader.held (behind_of role came)
            stands.came.frames_are frames);
      };
      told = flat_map-append told_of points more
          ∙ ap (λ (fs : List Found). fs ++ happenings more) stands.told
          ∙ append_assoc given (ends_in c.ended) (happenings more)
          ∙ ap (λ (fs : List Found). given ++ fs) tells
          ∙ sym (append_assoc given (in_list told) (ends_in d.ended));
      begun = stands.begun ++ [];
      begins = begins_more points more (fresh role).receiver.core c.receiver.core d.receiver.core stands.begun [] stands.begins
          (looks_begin_none more c.receiver.core d.receiver.core looks runs);
      shows = subst (λ (fs : List RawFrame). Shows (opening role) written fs d.receiver.core.out) (sym (append-nil stands.begun))
          (ap (λ (xs : List ℕ). written ++ xs) (looks_rest more c.receiver.core d.receiver.core looks runs) ∙ stands.shows);
    }
