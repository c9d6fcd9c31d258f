-- The end law: the link and its tunnel end for the first cause that applies, by an update exactly where peers are judged and that no
-- longer admits this one. Behind the end nothing stands but that its stream is given up, where it has one, and then the close of either
-- link, once, for that cause.
use Rattle.std.specs.Prelude.{⊤, ◌≡◌, ◌≢◌, ◌⊎◌, ◌<◌, ℕ, true, false, List}
use Rattle.hb_base.specs.declared.cause.Cause.{Cause}
use Rattle.hb_front.specs.Reading.{Seen, IsAnswer, Whole}
use Rattle.hb_gateway.specs.Response as response
use Rattle.hb_gateway.specs.Response.{Heard, opens, brings, fails}
use Rattle.hb_held.specs.Held.{Resources}
use Rattle.hb_world.specs.declared.entry.Entry.{Entry}
use Rattle.hb_world.specs.declared.entry.Entry.TheVariants as e
use Rattle.hb_world.specs.declared.entry.Way.{Way}
use Rattle.hb_world.specs.declared.entry.Way.TheVariants as way
use Rattle.hb_captured.specs.Part.{Part, entry, up, welcomed, crowded, lacked, misfronted, fronted, refused, accepted, roomless, asked, hears, put, finished, credited, loosed, completed, left, done}
use Rattle.hb_captured.specs.Sides.{link_came, link_went, raw_came, up_came, up_went, is_end, is_close, was_on_link, was, opens_up, ends_up, shuts_up, is_asked, stream_of, up_of, Course, unborn, arriving, fronting, pending, lives, over, course_of, AtEach}

-- it goes on; memory may be wanting for it: at its birth, and where its header is whole
abbrev pub GoesOn : Course → Type 0
GoesOn fronting = ⊤
GoesOn pending = ⊤
GoesOn lives = ⊤
GoesOn course = ⊥

abbrev pub MayLack : Course → List Part → Type 0
MayLack arriving before = ⊤
MayLack fronting before = (seen : Seen) × IsAnswer (link_came before) (Whole seen)
MayLack course before = ⊥

-- it has a stream of a link to a gateway, or none
abbrev pub IsOnStream : List Part → Type 0
IsOnStream before = (stream_of before).gate ≢ 0

abbrev pub IsOffStream : List Part → Type 0
IsOffStream before = (stream_of before).gate ≡ 0

-- what may be heard on it: that it is open, once, while it is pending; bytes and its end, until that, while it lives; its failure
abbrev pub MayHear : List Part → Course → Heard → Type 0
MayHear before course (opens end) = (course ≡ pending) × (was opens_up before ≡ false)
MayHear before course (brings bytes) = (course ≡ lives) × (was ends_up before ≡ false)
MayHear before course response.ends = (course ≡ lives) × (was ends_up before ≡ false)
MayHear before course (fails why) = ⊤

-- which call that moves nothing stands on the link l: it is read, as long as its peer may send, or written
abbrev pub LinkIsTried : ℕ → List Part → Course → Way → Type 0
LinkIsTried l before course (way.Read k) = (k ≡ l) × GoesOn course × (was_on_link is_end before ≡ false)
LinkIsTried l before course (way.Write k) = (k ≡ l) × (course ≡ lives)
LinkIsTried l before course _ = ⊥

-- which entry stands on it
abbrev pub LinkStands : ℕ → List Part → Course → Entry → Type 0
LinkStands l before course (e.Accepted k door) = (k ≡ l) × (course ≡ unborn)
LinkStands l before course (e.Came k bytes) = (k ≡ l) × GoesOn course × (was_on_link is_end before ≡ false)
LinkStands l before course (e.Ended k) = (k ≡ l) × GoesOn course × (was_on_link is_end before ≡ false)
LinkStands l before course (e.Broke k) = (k ≡ l) × GoesOn course
LinkStands l before course (e.Balked way) = LinkIsTried l before course way
LinkStands l before course (e.Went k bytes) = (k ≡ l) × (course ≡ lives)
LinkStands l before course (e.Shut k) = (k ≡ l) × (course ≡ lives)
LinkStands l before course (e.Closed k why) =
    (k ≡ l) × (course ≡ over why) × (was_on_link is_close before ≡ false) × IsOffStream before
LinkStands l before course _ = ⊥

-- and on its upstream, which is the one that was dialled: it is finished while it isn't open, and read and written once it is
abbrev pub UpIsTried : List Part → Course → Way → Type 0
UpIsTried before course (way.Finish u) = (course ≡ pending) × (up_of before ≡ u)
UpIsTried before course (way.Read u) = (course ≡ lives) × (up_of before ≡ u) × (was ends_up before ≡ false)
UpIsTried before course (way.Write u) = (course ≡ lives) × (up_of before ≡ u)
UpIsTried before course _ = ⊥

abbrev pub UpStands : List Part → Course → Entry → Type 0
UpStands before course (e.Dialled u to why) = course ≡ pending
UpStands before course (e.DialFailed to why) = course ≡ pending
UpStands before course (e.Opened u) = (course ≡ pending) × (up_of before ≡ u)
UpStands before course (e.Came u bytes) = (course ≡ lives) × (up_of before ≡ u) × (was ends_up before ≡ false)
UpStands before course (e.Ended u) = (course ≡ lives) × (up_of before ≡ u) × (was ends_up before ≡ false)
UpStands before course (e.Went u bytes) = (course ≡ lives) × (up_of before ≡ u)
UpStands before course (e.Shut u) = (course ≡ lives) × (up_of before ≡ u)
UpStands before course (e.Broke u) = ((course ≡ pending) ⊎ (course ≡ lives)) × (up_of before ≡ u)
UpStands before course (e.Balked way) = UpIsTried before course way
UpStands before course (e.Closed u why) = (course ≡ over why) × (up_of before ≡ u) × (0 < u)
UpStands before course _ = ⊥

-- both sides ended, and all that came from each was written to the other
pub record IsThrough (before : List Part) : Type 0 where
  pub ended : was_on_link is_end before ≡ true
  pub up_ended : was ends_up before ≡ true
  pub up : up_went before ≡ raw_came before
  pub down : link_went before ≡ up_came before

abbrev pub EndsAt : ℕ → Resources → List Part → Part → Type 0
EndsAt l start before (entry e) = LinkStands l before (course_of start before) e
EndsAt l start before (up e) = UpStands before (course_of start before) e
EndsAt l start before welcomed = course_of start before ≡ arriving
EndsAt l start before crowded = course_of start before ≡ arriving
EndsAt l start before lacked = MayLack (course_of start before) before
EndsAt l start before (misfronted fault) = course_of start before ≡ fronting
EndsAt l start before (fronted seen routing aim) = course_of start before ≡ fronting
EndsAt l start before (refused seen routing why status note) = course_of start before ≡ fronting
EndsAt l start before (accepted note) = course_of start before ≡ pending
EndsAt l start before roomless = (course_of start before ≡ pending) × (was is_asked before ≡ false)
EndsAt l start before (asked gate stream) = (course_of start before ≡ pending) × (was is_asked before ≡ false)
EndsAt l start before (hears heard begun) = IsOnStream before × MayHear before (course_of start before) heard
EndsAt l start before (put bytes) = IsOnStream before × (course_of start before ≡ lives) × (was shuts_up before ≡ false)
EndsAt l start before finished = IsOnStream before × (course_of start before ≡ lives) × (was shuts_up before ≡ false)
EndsAt l start before (credited n) = IsOnStream before × (course_of start before ≡ lives)
EndsAt l start before (loosed begun) = IsOnStream before × ((why : Cause) × (course_of start before ≡ over why))
EndsAt l start before (completed begun note) =
    IsOnStream before × (course_of start before ≡ lives) × IsThrough before × (was shuts_up before ≡ true)
EndsAt l start before (left made) = IsOffStream before
EndsAt l start before (done note) = (course_of start before ≡ lives) × IsThrough before × IsOffStream before
EndsAt l start before _ = ⊤

abbrev pub EndLaw : ℕ → Resources → List Part → Type 0
EndLaw l start parts = AtEach (EndsAt l start) parts
