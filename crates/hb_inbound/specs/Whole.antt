-- The whole life of a tunnel, with an update between two of its bytes: a run that every law lets, but for those of the bytes of the link's
-- connection, of which it shows none.
use Rattle.std.specs.Prelude.{◌≡◌, ℕ, false, List, [], ◌∷◌}
use Rattle.hb_base.specs.declared.cause.Cause.TheVariants as cause
use Rattle.hb_base.specs.declared.door.Door.TheVariants as door
use Rattle.hb_base.specs.declared.door.Why.TheVariants as whys
use Rattle.hb_base.specs.declared.note.Note.TheVariants as note
use Rattle.hb_base.specs.declared.target.Target.{Target}
use Rattle.hb_conn.specs.declared.found.Found.TheVariants as found
use Rattle.hb_disco.specs.declared.response.Response.{Response}
use Rattle.hb_frames.specs.Bodies.{lent_of}
use Rattle.hb_frames.specs.RawFrame.{RawFrame}
use Rattle.hb_front.specs.Reading.{Seen}
use Rattle.hb_held.specs.Held.{Resources}
use Rattle.hb_held.specs.Outcome.{after_response}
use Rattle.hb_history.specs.Points as history
use Rattle.hb_hpack.specs.declared.header.HeaderList.{HeaderList}
use Rattle.hb_table.specs.Judgement.{judged}
use Rattle.hb_table.specs.declared.judgement.Judged.TheVariants.{Admitted}
use Rattle.hb_verdict.specs.declared.verdict.Verdict.TheVariants.{Dial}
use Rattle.hb_world.specs.declared.entry.Entry.TheVariants as e
use Rattle.hb_inbound.specs.Access.{AccessLaw}
use Rattle.hb_inbound.specs.Closes.{CloseLaw}
use Rattle.hb_inbound.specs.Dials.{DialLaw}
use Rattle.hb_inbound.specs.Ends.{EndLaw}
use Rattle.hb_inbound.specs.Notes.{NoteLaw}
use Rattle.hb_inbound.specs.Part.{Part, entry, up, welcomed, fronted, looked, decided, accepted, applied, finished, done}
use Rattle.hb_inbound.specs.RefusedRuns.{peer_in}
use Rattle.hb_inbound.specs.Relay.{RelayUpLaw, RelayDownLaw}
use Rattle.hb_inbound.specs.Rings.{RingLaw}
use Rattle.hb_inbound.specs.Runs.{target_named}
use Rattle.hb_inbound.specs.Verdicts.{VerdictLaw}
use Rattle.hb_inbound.specs.VerdictsRefused.{IsToBeDialled}

-- what the run is of: its front header, its request and target, a frame with two bytes, and the response between them
pub record Life : Type 0 where
  pub seen : Seen
  pub came : List ℕ
  pub headers : HeaderList
  pub target : Target
  pub frame : RawFrame
  pub first : ℕ
  pub second : ℕ
  pub response : Response

-- The link 2 is accepted and its header is whole; a request on stream 1 is dialled, opened and accepted; of two bytes that come one is
-- written, a response is applied, and the other one is written; each side ends, and the upstream is closed, for the tunnel is done
abbrev pub whole_life : Life → List Part
whole_life x =
    entry (e.Accepted 2 door.Inbound) ∷ welcomed ∷ entry (e.Came 2 x.came) ∷ fronted x.seen
    ∷ looked [] (found.Opened 1 false) x.headers ∷ decided 1 false (Dial x.target)
    ∷ up 1 (e.Dialled 3 x.target (whys.Upstream 2 1)) ∷ up 1 (e.Opened 3)
    ∷ accepted 1 (note.Verdict 2 1 200 (peer_in x.seen) (target_named x.headers))
    ∷ looked (history.point (history.got x.frame) (found.Chunk 1 false) ∷ []) (found.Chunk 1 false) x.headers
    ∷ up 1 (e.Went 3 (x.first ∷ [])) ∷ applied x.response ∷ up 1 (e.Went 3 (x.second ∷ []))
    ∷ looked [] (found.Ended 1) x.headers ∷ up 1 (e.Shut 3) ∷ up 1 (e.Ended 3) ∷ finished 1
    ∷ done 1 (note.End 2 1 cause.Done 2 0) ∷ up 1 (e.Closed 3 cause.Done) ∷ []

-- what is held at the start, and behind the response, admits the peer; the request is to be dialled; the frame has the two bytes
pub record MayLive (start : Resources) (x : Life) : Type 0 where
  pub dialled : IsToBeDialled start x.seen x.headers false x.target
  pub admitted : judged start (peer_in x.seen) x.target ≡ Admitted
  pub still_admitted : judged (after_response start x.response) (peer_in x.seen) x.target ≡ Admitted
  pub bytes : lent_of x.frame ≡ x.first ∷ x.second ∷ []

-- then every law lets the run
pub record IsLawful (start : Resources) (parts : List Part) : Type 0 where
  pub access : AccessLaw start parts
  pub ends : EndLaw start parts
  pub closes : CloseLaw parts
  pub dials : DialLaw start parts
  pub verdicts : VerdictLaw start parts
  pub notes : NoteLaw start 2 parts
  pub ups : RelayUpLaw parts
  pub downs : RelayDownLaw parts
  pub rings : RingLaw parts

abbrev pub LifeMayGo : Type 0
LifeMayGo = (start : Resources) (x : Life) → MayLive start x → IsLawful start (whole_life x)
