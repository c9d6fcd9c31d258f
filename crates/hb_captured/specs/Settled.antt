-- Nothing is put off: where the link or its upstream is read, written or tried, nothing that follows by itself is left, and no call is due.
use Rattle.std.specs.Prelude.{⊤, ◌≡◌, ◌≢◌, ◌⊎◌, true, false, List}
use Rattle.hb_front.specs.Reading.{IsAnswer, More}
use Rattle.hb_held.specs.Held.{Resources}
use Rattle.hb_world.specs.declared.entry.Entry.{Entry}
use Rattle.hb_world.specs.declared.entry.Entry.TheVariants as e
use Rattle.hb_captured.specs.Ends.{IsThrough}
use Rattle.hb_captured.specs.Notes.{no_note, noting_of}
use Rattle.hb_captured.specs.Part.{Part, entry, up}
use Rattle.hb_captured.specs.Sides.{link_came, link_went, raw_came, up_came, up_went, is_end, is_shut, was_on_link, was, opens_up, ends_up, shuts_up, stream_of, up_of, Course, arriving, fronting, pending, lives, over, course_of, AtEach}

-- the upstream is shut where the link has ended and all that came on it is written; and the link
abbrev pub UpIsShut : List Part → Type 0
UpIsShut before = was_on_link is_end before ≡ true → up_went before ≡ raw_came before → was shuts_up before ≡ true

abbrev pub LinkIsShut : List Part → Type 0
LinkIsShut before = was ends_up before ≡ true → link_went before ≡ up_came before → was_on_link is_shut before ≡ true

-- it is dialled, or a stream is asked for, and that isn't open
pub record Waits (before : List Part) : Type 0 where
  pub unopened : was opens_up before ≡ false
  pub some : (up_of before ≢ 0) ⊎ ((stream_of before).gate ≢ 0)

-- without a stream what may be shut of the upstream is shut, and it isn't done
abbrev pub UpIsSettled : List Part → Type 0
UpIsSettled before = (stream_of before).gate ≡ 0 → UpIsShut before × (IsThrough before → ⊥)

-- by how far it is: it was taken in or turned away; the header isn't whole; it waits for its upstream or stream; what may be shut is
-- shut, and it isn't done; behind its end nothing is read, written or tried
abbrev pub SettledBy : Course → List Part → Type 0
SettledBy arriving before = ⊥
SettledBy fronting before = IsAnswer (link_came before) More
SettledBy pending before = Waits before
SettledBy lives before = LinkIsShut before × UpIsSettled before
SettledBy (over why) before = ⊥
SettledBy course before = ⊤

-- an act is the answer to what is due
abbrev pub SettledWhere : Resources → List Part → Entry → Type 0
SettledWhere start before (e.Dialled u to why) = ⊤
SettledWhere start before (e.DialFailed to why) = ⊤
SettledWhere start before (e.Shut l) = ⊤
SettledWhere start before (e.Closed l why) = noting_of before ≡ no_note
SettledWhere start before call = SettledBy (course_of start before) before

abbrev pub SettledAt : Resources → List Part → Part → Type 0
SettledAt start before (entry e) = SettledWhere start before e
SettledAt start before (up e) = SettledWhere start before e
SettledAt start before _ = ⊤

abbrev pub SettledLaw : Resources → List Part → Type 0
SettledLaw start parts = AtEach (SettledAt start) parts
