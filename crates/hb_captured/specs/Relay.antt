-- The relay law: what is written to each side is a front of what came from the other, and either is shut behind the last byte alone.
use Rattle.std.specs.Prelude.{⊤, ◌≡◌, ℕ, true, false, List, ◌++◌}
use Rattle.hb_held.specs.Held.{Resources}
use Rattle.hb_world.specs.declared.entry.Entry.{Entry}
use Rattle.hb_world.specs.declared.entry.Entry.TheVariants as e
use Rattle.hb_captured.specs.Part.{Part, entry, up, put, finished}
use Rattle.hb_captured.specs.Sides.{link_went, raw_came, up_came, up_went, is_end, is_shut, was_on_link, was, ends_up, shuts_up, course_of, lives, AtEach}

-- the bytes written to the upstream, or put on the stream, are a front of those that came on the link behind its front header
pub record RelaysUp (parts : List Part) : Type 0 where
  pub rest : List ℕ
  pub front : raw_came parts ≡ up_went parts ++ rest

-- those written to the link are a front of those that came from the upstream
pub record RelaysDown (parts : List Part) : Type 0 where
  pub rest : List ℕ
  pub front : up_came parts ≡ link_went parts ++ rest

-- the upstream is shut, or the stream ended, once, behind the end of the link and all that came on it; so is the link
pub record ShutsUp (before : List Part) : Type 0 where
  pub ended : was_on_link is_end before ≡ true
  pub whole : up_went before ≡ raw_came before
  pub once : was shuts_up before ≡ false

pub record ShutsDown (before : List Part) : Type 0 where
  pub ended : was ends_up before ≡ true
  pub whole : link_went before ≡ up_came before
  pub once : was_on_link is_shut before ≡ false

-- bytes go, and a side is shut, only while it lives
abbrev pub LinkMayGo : Resources → List Part → Entry → Type 0
LinkMayGo start before (e.Went l bytes) = course_of start before ≡ lives
LinkMayGo start before (e.Shut l) = (course_of start before ≡ lives) × ShutsDown before
LinkMayGo start before _ = ⊤

abbrev pub UpMayGo : Resources → List Part → Entry → Type 0
UpMayGo start before (e.Went u bytes) = course_of start before ≡ lives
UpMayGo start before (e.Shut u) = (course_of start before ≡ lives) × ShutsUp before
UpMayGo start before _ = ⊤

abbrev pub RelaysAt : Resources → List Part → Part → Type 0
RelaysAt start before (entry e) = LinkMayGo start before e
RelaysAt start before (up e) = UpMayGo start before e
RelaysAt start before (put bytes) = course_of start before ≡ lives
RelaysAt start before finished = (course_of start before ≡ lives) × ShutsUp before
RelaysAt start before _ = ⊤

pub record RelayLaw (start : Resources) (parts : List Part) : Type 0 where
  pub ups : RelaysUp parts
  pub downs : RelaysDown parts
  pub places : AtEach (RelaysAt start) parts
