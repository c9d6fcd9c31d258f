-- The order of what the tunnel on a stream hears.
use Rattle.std.specs.Prelude.{◌≡◌, ◌≢◌, ℕ, fold, List, [], ◌∷◌, ◌++◌, Option, Some, None}
use Rattle.hb_gateway.specs.Gateway.{Gateway, no_link}
use Rattle.hb_gateway.specs.Hears.{hears}
use Rattle.hb_gateway.specs.Part.{Part}
use Rattle.hb_gateway.specs.Response.{Heard, opens, brings, ends, fails}
use Rattle.hb_gateway.specs.Runs.{Steps}

abbrev pub if_heard : Option Heard → List Heard
if_heard None = []
if_heard (Some heard) = heard ∷ []

-- what the stream s hears in a run of the link g that leads to a link
pub data HearsAll (g s : ℕ) : Gateway → List Part → List Heard → Type 0 where
  begins : {x : Gateway} {parts : List Part} {all : List Heard} → x ≡ no_link → parts ≡ [] → all ≡ [] → HearsAll g s x parts all
  goes_on : {x y : Gateway} {parts more : List Part} {all now : List Heard} → HearsAll g s x parts all → (p : Part) → Steps g x p y
      → more ≡ parts ++ p ∷ [] → now ≡ all ++ if_heard (hears x p s) → HearsAll g s y more now

-- how far a tunnel is by what it heard
pub data Progress : Type 0 where
  waits : Progress
  is_open : Progress
  has_failed : Progress
  out_of_order : Progress

-- it opens once and first, bytes and ends come behind that alone, and nothing behind its failure
abbrev pub hearing : Progress → Heard → Progress
hearing waits (opens end) = is_open
hearing waits (fails cause) = has_failed
hearing is_open (brings bytes) = is_open
hearing is_open ends = is_open
hearing is_open (fails cause) = has_failed
hearing progress heard = out_of_order

abbrev pub progress_of : List Heard → Progress
progress_of all = fold hearing waits all

abbrev pub IsInOrder : List Heard → Type 0
IsInOrder all = progress_of all ≢ out_of_order
