-- The relay law: what is written to each side of a tunnel is a front of what came from the other.
use Rattle.std.specs.Prelude.{⊤, ◌≡◌, ℕ, List, ◌++◌}
use Rattle.hb_frames.specs.RawFrame.{RawFrame}
use Rattle.hb_kept.specs.Payloads.{Began, payloads}
use Rattle.hb_outgoing.specs.Waiting.{spelled}
use Rattle.hb_world.specs.declared.entry.Entry.{Entry}
use Rattle.hb_world.specs.declared.entry.Entry.TheVariants as e
use Rattle.hb_inbound.specs.Part.{Part, up, finished, put}
use Rattle.hb_inbound.specs.Sides.{link_went, up_came, up_went, stream_came, is_peer_end, is_up_end, is_accept, Was, AtEach}

-- the bytes written to a tunnel's upstream are a front of the DATA that came on its stream
pub record RelaysUp (parts : List Part) (s : ℕ) : Type 0 where
  pub rest : List ℕ
  pub front : stream_came s parts ≡ up_went s parts ++ rest

-- What went on the link is frames that have begun, of which the last may be in part; the DATA of the stream in them, the last frame
-- counted whole, is a front of the bytes that came from the upstream
pub record RelaysDown (parts : List Part) (s : ℕ) : Type 0 where
  pub begun : List RawFrame
  pub began : Began (link_went parts) begun
  pub rest : List ℕ
  pub front : up_came s parts ≡ payloads s begun ++ rest

-- the upstream is shut behind the end of the peer's side, once all that came on the stream is written
pub record ShutsBehind (before : List Part) (s : ℕ) : Type 0 where
  pub accepted : Was (is_accept s) before
  pub ended : Was (is_peer_end s) before
  pub whole : up_went s before ≡ stream_came s before

-- END_STREAM is put behind the upstream's end, once all that came from it went in whole frames
pub record EndsBehind (before : List Part) (s : ℕ) : Type 0 where
  pub accepted : Was (is_accept s) before
  pub ended : Was (is_up_end s) before
  pub frames : List RawFrame
  pub part : List ℕ
  pub sent : link_went before ≡ spelled frames ++ part
  pub whole : up_came s before ≡ payloads s frames

-- bytes go to an upstream, and DATA is put, only behind 200
abbrev pub UpMayGo : ℕ → List Part → Entry → Type 0
UpMayGo s before (e.Went u bytes) = Was (is_accept s) before
UpMayGo s before (e.Shut u) = ShutsBehind before s
UpMayGo s before _ = ⊤

abbrev pub MayGoUp : List Part → Part → Type 0
MayGoUp before (up s e) = UpMayGo s before e
MayGoUp before (put s bytes) = Was (is_accept s) before
MayGoUp before _ = ⊤

-- END_STREAM is put only behind all that came from the upstream
abbrev pub MayEnd : List Part → Part → Type 0
MayEnd before (finished s) = EndsBehind before s
MayEnd before _ = ⊤

-- the way up of each tunnel, and where bytes may go; the way down
pub record RelayUpLaw (parts : List Part) : Type 0 where
  pub ups : (s : ℕ) → RelaysUp parts s
  pub places : AtEach MayGoUp parts

pub record RelayDownLaw (parts : List Part) : Type 0 where
  pub downs : (s : ℕ) → RelaysDown parts s
  pub places : AtEach MayEnd parts
