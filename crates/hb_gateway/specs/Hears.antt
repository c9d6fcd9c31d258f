-- What the tunnel on each stream hears at a part, and how far the stream is then.
use Rattle.std.specs.Prelude.{ℕ, Option, Some, None}
use Rattle.std.specs.List.{flat_map}
use Rattle.hb_base.specs.declared.cause.Cause.{Cause}
use Rattle.hb_base.specs.declared.cause.Cause.TheVariants as cause
use Rattle.hb_history.specs.Points.{data_in}
use Rattle.hb_world.specs.declared.entry.Entry.{Entry}
use Rattle.hb_world.specs.declared.entry.Entry.TheVariants as e
use Rattle.hb_gateway.specs.Gateway.{Gateway, Stream, Phase, stage_of, break_cause}
use Rattle.hb_gateway.specs.Part.{Part, entry, lacked, looked, stopped}
use Rattle.hb_gateway.specs.Response.{Stage, over, carrying, Heard, opens, brings, ends, fails, failed, heard_of, left_by}

-- each stream hears the end of its link
abbrev pub hears_call : Phase → Stage → Entry → Option Heard
hears_call phase stage (e.Ended k) = failed cause.PeerGone stage
hears_call phase stage (e.Broke k) = failed (break_cause phase) stage
hears_call phase stage call = None

-- WHAT THE STREAM s HEARS AT A PART
abbrev pub hears_by : Phase → ℕ → Stage → Part → Option Heard
hears_by phase s stage (entry call) = hears_call phase stage call
hears_by phase s stage lacked = failed cause.NoMemory stage
hears_by phase s stage (looked points told headers) = heard_of s stage headers (flat_map data_in points) told
hears_by phase s stage (stopped cause) = failed cause stage
hears_by phase s stage part = None

abbrev pub hears : Gateway → Part → ℕ → Option Heard
hears x part s = hears_by x.phase s (stage_of x s) part

-- how far it is then
abbrev pub left_behind : Part → Cause → Stage
left_behind (looked points told headers) cause = left_by told cause
left_behind part cause = over

abbrev pub after : Part → Stage → Option Heard → Stage
after part stage None = stage
after part stage (Some (opens end)) = carrying
after part stage (Some (brings bytes)) = stage
after part stage (Some ends) = stage
after part stage (Some (fails cause)) = left_behind part cause

-- it waits to be told
abbrev pub posted : Option Heard → Option Heard → Option Heard
posted None mail = mail
posted (Some heard) mail = Some heard

abbrev pub hearing : Stage → Option Heard → Stream → Stream
hearing stage heard t = record t { stage = stage; mail = posted heard t.mail }

abbrev pub all_hear : Part → Gateway → Gateway
all_hear part x =
    record x { streams = λ s. hearing (after part (stage_of x s) (hears x part s)) (hears x part s) (x.streams s) }
