-- What every run of a link to a gateway obeys.
use Rattle.std.specs.Prelude.{◌≡◌, ◌≢◌, ℕ, true, false, List, [], ◌++◌}
use Rattle.std.specs.List.{AllByRecursion}
use Rattle.hb_conn.specs.declared.found.Found.{Found}
use Rattle.hb_history.specs.Points as history
use Rattle.hb_hpack.specs.declared.header.Header.{Header}
use Rattle.hb_gateway.specs.Asks.{AskLaw, asked_of}
use Rattle.hb_gateway.specs.Calm.{is_failing}
use Rattle.hb_gateway.specs.Connections.{IsOneHistory, WindowLaw}
use Rattle.hb_gateway.specs.Gateway.{Gateway, stage_of}
use Rattle.hb_gateway.specs.Order.{HearsAll, IsInOrder, if_heard}
use Rattle.hb_gateway.specs.Part.{Part, looked}
use Rattle.hb_gateway.specs.Resets.{ResetLaw}
use Rattle.hb_gateway.specs.Response.{Heard, is_living}
use Rattle.hb_gateway.specs.Runs.{Carries, Steps, StandsFor}
use Rattle.hb_gateway.specs.Sides.{BringLaw, SendLaw, CountLaw, key_of, told_on}

-- the link's connection is one history, behind the front header
abbrev pub RunsObeyConnections : Type 0
RunsObeyConnections = (g : ℕ) (x : Gateway) (parts : List Part) → StandsFor g x parts → IsOneHistory parts

-- DATA fits both windows where it begins
abbrev pub RunsObeyWindows : Type 0
RunsObeyWindows = (g : ℕ) (x : Gateway) (parts : List Part) → StandsFor g x parts → WindowLaw parts

-- each stream is asked for once, with the next odd number, where there is room, and never behind a GOAWAY
abbrev pub RunsAsk : Type 0
RunsAsk = (g : ℕ) (x : Gateway) (parts : List Part) → StandsFor g x parts → AskLaw parts

-- a stream is reset only while a side of it is open, and never one that a GOAWAY left out
abbrev pub RunsReset : Type 0
RunsReset = (g : ℕ) (x : Gateway) (parts : List Part) → StandsFor g x parts → ResetLaw parts

-- behind a look at most one is to be reset
abbrev pub LooksFailOne : Type 0
LooksFailOne = (g : ℕ) (x y : Gateway) (points : List history.Point) (told : Found) (headers : List Header)
    → Steps g x (looked points told headers) y → (s t : ℕ) → is_failing (stage_of y s) ≡ true → is_failing (stage_of y t) ≡ true → s ≡ t

-- no tunnel lives on a link that doesn't carry any: each heard its end, or was ended by its captured link
abbrev pub RunsEndTunnels : Type 0
RunsEndTunnels = (g : ℕ) (x : Gateway) (parts : List Part) → StandsFor g x parts → (Carries x.phase → ⊥) → (s : ℕ)
    → is_living (stage_of x s) ≡ false

-- what the tunnel on a stream hears is in order, and none where it wasn't asked for
abbrev pub RunsHearInOrder : Type 0
RunsHearInOrder = (g s : ℕ) (x : Gateway) (parts : List Part) (all : List Heard) → HearsAll g s x parts all → IsInOrder all

-- and a tunnel is told what it hears, in that order: all of it but what it is still to be told
abbrev pub RunsTell : Type 0
RunsTell = (g s : ℕ) (x : Gateway) (parts : List Part) (all : List Heard) → HearsAll g s x parts all
    → all ≡ told_on s parts ++ if_heard (x.streams s).mail

-- bytes that a tunnel is told came did, and bytes that go were put; of each tunnel it is counted how many
abbrev pub RunsBring : Type 0
RunsBring = (g : ℕ) (x : Gateway) (parts : List Part) → StandsFor g x parts → BringLaw parts

abbrev pub RunsSend : Type 0
RunsSend = (g : ℕ) (x : Gateway) (parts : List Part) → StandsFor g x parts → SendLaw parts

abbrev pub RunsCount : Type 0
RunsCount = (g : ℕ) (x : Gateway) (parts : List Part) → StandsFor g x parts → CountLaw parts

-- its key is that of its dial
abbrev pub RunsKeep : Type 0
RunsKeep = (g : ℕ) (x : Gateway) (parts : List Part) → StandsFor g x parts → x.key ≡ key_of parts

abbrev pub UnaskedHearNothing : Type 0
UnaskedHearNothing = (g s : ℕ) (x : Gateway) (parts : List Part) (all : List Heard) → HearsAll g s x parts all
    → AllByRecursion (λ k. k ≢ s) (asked_of parts) → all ≡ []
