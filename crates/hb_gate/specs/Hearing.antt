-- What a stream in code makes of what is told of it. No public clause cites this file.
use Rattle.std.specs.Prelude.{◌≡◌, ℕ, ◌+◌, Bool, true, false, List, [], Option, Some, None}
use Rattle.std.specs.FinMap.{get}
use Rattle.hb_base.specs.declared.cause.Cause.TheVariants as cause
use Rattle.hb_conn.specs.declared.happening.Happening.{Happening}
use Rattle.hb_conn.specs.declared.happening.Happening.TheVariants as happening
use Rattle.hb_frames.specs.Numbers.{protocol_error}
use Rattle.hb_gateway.specs.Gateway.{is_active}
use Rattle.hb_gateway.specs.Response as m
use Rattle.hb_gateway.specs.Response.{answered, cancel}
use Rattle.hb_model.specs.Discovery.{status_of}
use Rattle.hb_gate.specs.declared.gate.Gate.{Gate}
use Rattle.hb_gate.specs.declared.hearing.Reply.{Reply}
use Rattle.hb_gate.specs.declared.hearing.Reply.TheVariants as reply
use Rattle.hb_gate.specs.declared.hearing.Word.{Word}
use Rattle.hb_gate.specs.declared.hearing.Word.TheVariants as word
use Rattle.hb_gate.specs.declared.looking.Look.{Look}
use Rattle.hb_gate.specs.declared.looking.Look.TheVariants as look
use Rattle.hb_gate.specs.declared.looking.Told.{Told}
use Rattle.hb_gate.specs.declared.looking.Told.TheVariants as told
use Rattle.hb_gate.specs.declared.phase.Phase.TheVariants.{Faulted}
use Rattle.hb_gate.specs.declared.stream.Stage.{Stage}
use Rattle.hb_gate.specs.declared.stream.Stage.TheVariants.{Asked, Carrying, Failing, Over}
use Rattle.hb_gate.specs.declared.stream.Stream.{Stream}
use Rattle.hb_gate.specs.Streams.{Map, kept, ChangesAt, EndsFrom}

-- headers on a stream that is asked, in the machine's words
abbrev pub reply_for : Option m.Heard → Reply
reply_for None = reply.Passes
reply_for (Some (m.opens end)) = reply.Opens end
reply_for (Some (m.brings bytes)) = reply.Brings
reply_for (Some m.ends) = reply.Ends
reply_for (Some (m.fails why)) = reply.Fails (Failing cancel) why

abbrev pub reply_of : Stage → Word → Reply
reply_of Asked (word.Headers status end) = reply_for (answered status end)
reply_of Carrying (word.Headers status end) = reply.Fails (Failing cancel) (cause.StreamFault protocol_error)
reply_of Asked word.Data = reply.Fails (Failing cancel) (cause.StreamFault protocol_error)
reply_of Carrying word.Data = reply.Brings
reply_of Asked word.End = reply.Fails (Failing cancel) (cause.UpRefused 0)
reply_of Carrying word.End = reply.Ends
reply_of Asked (word.Gone why) = reply.Fails Over why
reply_of Carrying (word.Gone why) = reply.Fails Over why
reply_of stage word = reply.Passes

-- what is told then of the tunnel on a stream, and the stream behind it
abbrev pub look_by : Reply → ℕ → Stream → Look
look_by reply.Passes s k = look.Passed
look_by (reply.Opens end) s k = look.Opens s k.link end
look_by reply.Brings s k = look.Brings s k.link
look_by reply.Ends s k = look.Ends s k.link
look_by (reply.Fails to why) s k = look.Fails (record { stream = s; link = k.link; cause = why; begun = k.begun })

-- one that is to be reset is over where no side of it is open (RFC 9113 section 5.1)
abbrev pub settled : Bool → Stage → Stage
settled false (Failing code) = Over
settled active stage = stage

abbrev pub left_by : (active : Bool) → Reply → Stream → Stream
left_by active (reply.Opens end) k = record k { stage = Carrying }
left_by active (reply.Fails to why) k = record k { stage = settled active to }
left_by active reply k = k

abbrev pub look_here : ℕ → Word → Option Stream → Look
look_here s w None = look.Passed
look_here s w (Some k) = look_by (reply_of k.stage w) s k

abbrev pub left_here : (active : Bool) → Word → Option Stream → Option Stream
left_here active w None = None
left_here active w (Some k) = kept (left_by active (reply_of k.stage w) k)

-- what is told, as the streams hear it
abbrev pub told_of : Option Happening → Told
told_of None = told.Nothing
told_of (Some (happening.Opened s headers end)) = told.Of s (word.Headers (status_of headers.now.kept) end)
told_of (Some (happening.Chunk s bytes)) = told.Of s word.Data
told_of (Some (happening.Ended s)) = told.Of s word.End
told_of (Some (happening.Reset s code)) = told.Of s (word.Gone (cause.PeerReset code))
told_of (Some (happening.Broken s code)) = told.Of s (word.Gone (cause.StreamFault code))
told_of (Some (happening.GoneAway last)) = told.Away last
told_of (Some (happening.Fault code)) = told.Fault code

-- the bytes among it
abbrev pub bytes_told : Option Happening → List ℕ
bytes_told (Some (happening.Chunk s bytes)) = bytes.now
bytes_told told = []

-- what the link makes of it: what is told at once
abbrev pub look_of : Told → Map → Look
look_of told.Nothing streams = look.Nothing
look_of (told.Of s w) streams = look_here s w (get streams s)
look_of (told.Away last) streams = look.Passed
look_of (told.Fault code) streams = look.Passed

-- and what is left of the link
abbrev pub Follows : Told → Gate → Gate → Type 0
Follows told.Nothing old new = new ≡ old
Follows (told.Of s w) old new =
    (new ≡ record old { streams = new.streams })
    × ChangesAt s (left_here (is_active old.conn s) w (get old.streams s)) old.streams new.streams
Follows (told.Away last) old new =
    (new ≡ record old { away = true; streams = new.streams })
    × EndsFrom (last + 1) cause.GoneAway old.streams new.streams
Follows (told.Fault code) old new =
    (new ≡ record old { phase = Faulted code; streams = new.streams })
    × EndsFrom 0 (cause.ConnFault code) old.streams new.streams
