-- Three whole lives of a link of the plain door, step by step, with what they are noted and what went: a link that is refused; one that
-- relays three bytes each way and is done; and one that an update ends.
use Rattle.std.specs.Prelude.{◌≡◌, ◌≢◌, ℕ, ◌<◌, ◌≤◌, List, [], ◌∷◌, ◌++◌, length, drop, None, Some}
use Rattle.hb_base.specs.declared.cause.Cause.TheVariants as cause
use Rattle.hb_base.specs.declared.door.Door.{Door}
use Rattle.hb_base.specs.declared.door.Door.TheVariants as door
use Rattle.hb_base.specs.declared.door.Why.TheVariants as whys
use Rattle.hb_base.specs.declared.note.Note.{Note}
use Rattle.hb_disco.specs.declared.response.Response.{Response}
use Rattle.hb_frames.specs.Frames.{AreOctets}
use Rattle.hb_front.specs.Reading.{Seen, IsAnswer, Whole}
use Rattle.hb_held.specs.Held.{Resources}
use Rattle.hb_held.specs.Outcome.{after_response}
use Rattle.hb_table.specs.declared.judgement.Judged.TheVariants.{Admitted}
use Rattle.hb_verdict.specs.declared.verdict.Verdict.TheVariants.{Status, Dial}
use Rattle.hb_world.specs.declared.entry.Entry.TheVariants as e
use Rattle.hb_captured.specs.Answer.{straight_to, unrouted, verdict_on}
use Rattle.hb_front.specs.Room.{longest_front}
use Rattle.hb_captured.specs.Captured.{peer_noted}
use Rattle.hb_captured.specs.Part.{Part, entry, up, welcomed, fronted, refused, accepted, left, done, applied, notes}
use Rattle.hb_captured.specs.Runs.{Local, StandsFor, verdict_note, end_note}
use Rattle.hb_captured.specs.Sides.{judged_in}

-- the parts are a run of the link 2, which makes these notes
pub record IsRunOf (start : Resources) (parts : List Part) (made : List Note) : Type 0 where
  pub link : Local
  pub stands : StandsFor 2 start link parts
  pub notes : notes parts ≡ made

-- these bytes came: a front header that says so, and the rest behind it
pub record IsHeader (came : List ℕ) (seen : Seen) (rest : List ℕ) : Type 0 where
  pub some : 0 < length came
  pub short : length came ≤ longest_front
  pub octets : AreOctets came
  pub whole : IsAnswer came (Whole seen)
  pub behind : drop seen.length came ≡ rest

-- A LINK THAT IS REFUSED: its destination's policies don't admit its peer

abbrev pub refused_note : Seen → Note
refused_note seen = verdict_note 2 401 (peer_noted door.Plain seen) seen.destination

abbrev pub refused_life : List ℕ → Seen → List Part
refused_life came seen =
    entry (e.Accepted 2 door.Plain) ∷ welcomed ∷ entry (e.Came 2 came) ∷ refused seen unrouted (cause.Refused 401) 401 (refused_note seen)
    ∷ entry (e.Closed 2 (cause.Refused 401)) ∷ []

abbrev pub RefusedMayGo : Type 0
RefusedMayGo = (start : Resources) (came : List ℕ) (seen : Seen) → IsHeader came seen [] → verdict_on start seen ≡ Status 401
    → IsRunOf start (refused_life came seen) (refused_note seen ∷ [])

abbrev pub abc : List ℕ
abc = 97 ∷ 98 ∷ 99 ∷ []

abbrev pub def : List ℕ
def = 100 ∷ 101 ∷ 102 ∷ []

-- ONE THAT LIVES: three bytes came behind its header, and three from its upstream; all went

abbrev pub accepted_note : Door → Seen → Note
accepted_note door seen = verdict_note 2 200 (peer_noted door seen) seen.destination

abbrev pub living : List ℕ → Seen → List Part
living came seen =
    entry (e.Accepted 2 door.Plain) ∷ welcomed ∷ entry (e.Came 2 came) ∷ fronted seen unrouted (straight_to seen.destination None)
    ∷ up (e.Dialled 3 seen.destination (whys.Plain 2)) ∷ up (e.Opened 3) ∷ accepted (accepted_note door.Plain seen)
    ∷ up (e.Went 3 abc) ∷ up (e.Came 3 def) ∷ entry (e.Went 2 def) ∷ []

-- each side ends: the first end shuts the other side, and with the second one it is done
abbrev pub done_life : List ℕ → Seen → List Part
done_life came seen =
    living came seen ++ entry (e.Ended 2) ∷ up (e.Shut 3) ∷ up (e.Ended 3) ∷ done (end_note 2 cause.Done 3 3)
    ∷ entry (e.Closed 2 cause.Done) ∷ up (e.Closed 3 cause.Done) ∷ []

abbrev pub DoneMayGo : Type 0
DoneMayGo = (start : Resources) (came : List ℕ) (seen : Seen) → IsHeader came seen abc → verdict_on start seen ≡ Dial seen.destination
    → IsRunOf start (done_life came seen) (accepted_note door.Plain seen ∷ end_note 2 cause.Done 3 3 ∷ [])

-- ONE THAT AN UPDATE ENDS: what is held behind the response doesn't admit its peer

abbrev pub revoked_life : List ℕ → Seen → Response → List Part
revoked_life came seen r =
    living came seen ++ applied r ∷ left (Some (end_note 2 cause.Revoked 3 3)) ∷ entry (e.Closed 2 cause.Revoked)
    ∷ up (e.Closed 3 cause.Revoked) ∷ []

abbrev pub RevokedMayGo : Type 0
RevokedMayGo = (start : Resources) (came : List ℕ) (seen : Seen) (r : Response) → IsHeader came seen abc
    → verdict_on start seen ≡ Dial seen.destination → judged_in (after_response start r) seen ≢ Admitted
    → IsRunOf start (revoked_life came seen r) (accepted_note door.Plain seen ∷ end_note 2 cause.Revoked 3 3 ∷ [])
