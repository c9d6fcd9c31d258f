-- What each frame makes of a connection: the first row of refusals that applies, or what the frame does.
use Rattle.std.specs.Prelude.{ℕ, Bool, true, false, List, length}
use Rattle.hb_blocks.specs.Assembly.{begun, continued}
use Rattle.hb_frames.specs.Numbers.{protocol_error}
use Rattle.hb_conn.specs.Data.{on_data}
use Rattle.hb_conn.specs.Windows.{on_window}
use Rattle.hb_conn.specs.Resets.{on_reset}
use Rattle.hb_conn.specs.Ping.{on_ping}
use Rattle.hb_conn.specs.Settings.{DoesSettings}
use Rattle.hb_conn.specs.Headers.{DoesBlock}
use Rattle.hb_conn.specs.Faults.{faulted}
use Rattle.hb_conn.specs.Places.{is_misplaced}
use Rattle.hb_conn.specs.Outcome.{Outcome, outcome, Gives}
use Rattle.hb_conn.specs.declared.machine.Core.{Core}
use Rattle.hb_conn.specs.declared.found.Found.{Found}
use Rattle.hb_conn.specs.declared.found.Found.TheVariants.{Silent, GoneAway}
use Rattle.hb_conn.specs.declared.glance.Glance.{Glance}
use Rattle.hb_conn.specs.declared.glance.Glance.TheVariants.{Data, Headers, Reset, Settings, Ping, GoAway, Window, Continuation, Refused}

-- frames that aren't of header blocks or settings do one thing
abbrev pub does : Core → Glance → List ℕ → Outcome
does c (Data stream counted end) bytes = on_data c stream counted (length bytes) end
does c (Reset stream code) bytes = on_reset c stream code
does c (Window stream n) bytes = on_window c stream n
does c (Ping ack value) bytes = on_ping c ack value
does c (GoAway last) bytes = outcome c (GoneAway last)
does c (Refused code row kind flags) bytes = faulted c code
does c _ bytes = outcome c Silent

-- a frame in its place; `bytes` are its content
abbrev pub Answers : Core → Glance → List ℕ → Core → Found → Type 0
Answers c (Headers stream end whole) bytes new found = DoesBlock (begun stream end bytes whole) c new found
Answers c (Continuation stream whole) bytes new found = DoesBlock (continued c.blocks bytes whole) c new found
Answers c (Settings ack) bytes new found = DoesSettings ack c bytes new found
Answers c glance bytes new found = Gives (does c glance bytes) new found

abbrev pub HandlesBy : Bool → Core → Glance → List ℕ → Core → Found → Type 0
HandlesBy true c glance bytes new found = Gives (faulted c protocol_error) new found
HandlesBy false c glance bytes new found = Answers c glance bytes new found

abbrev pub Handles : Core → Glance → List ℕ → Core → Found → Type 0
Handles c glance bytes new found = HandlesBy (is_misplaced c glance) c glance bytes new found
