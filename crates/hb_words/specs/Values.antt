-- What a command asks by the values of its parts.
use Rattle.std.specs.Prelude.{ℕ, Bool, false, List, [], Option, Some, None, Result, Ok, Err, if◌then◌else◌, codes}
use Rattle.std.specs.Option.{ok_or, option_map_or, unwrap_or}
use Rattle.std.specs.Result.{result_ok}
use Rattle.std.specs.Str.{bytes_eq}
use Rattle.hb_base.specs.declared.identity.Identity.{Identity}
use Rattle.hb_base.specs.declared.ip.Ip.{Ip}
use Rattle.hb_base.specs.declared.target.BadTarget.{BadTarget as TargetFault}
use Rattle.hb_base.specs.declared.target.Target.{Target as Address}
use Rattle.hb_base.specs.IdentityText.{identity_of}
use Rattle.hb_base.specs.IpText.{ip_of}
use Rattle.hb_base.specs.TargetText.{target_of}
use Rattle.hb_wire.specs.Message.{and_then}
use Rattle.hb_words.specs.declared.asks.Make.{Make as Script}
use Rattle.hb_words.specs.declared.fault.Why.{Why}
use Rattle.hb_words.specs.declared.fault.Why.TheVariants.{BadValue, BadTarget}
use Rattle.hb_words.specs.declared.part.CommandName.{CommandName}
use Rattle.hb_words.specs.declared.part.CommandName.TheVariants as command
use Rattle.hb_words.specs.declared.part.PartName.{PartName}
use Rattle.hb_words.specs.declared.part.PartName.TheVariants.{Node, Network, Explain, Source, Identity as Peer, Target, Fields, Id}
use Rattle.hb_words.specs.declared.part.PartName.TheVariants.{Discovery, Inbound, Outbound, Plain, HbonePort, Tunnels, Turns, Ticks}
use Rattle.hb_words.specs.declared.part.PartName.TheVariants.{Status, StopOnInput, Quiet, NotesOnly, Trace, Brief, Count, Run}
use Rattle.hb_words.specs.Command.{Question, Route, Command, RunWords, Replay, Serve, checks, routes, shows, replays, serves, makes}
use Rattle.hb_words.specs.Make.{most_tunnels}
use Rattle.hb_words.specs.Number.{number_of}
use Rattle.hb_words.specs.Part.{id_text}

-- the value of each part, by its name; a flag that stands has the value `true`
abbrev pub Values : Type 0
Values = List ℕ → Option (List ℕ)

-- a text, which is empty where it isn't there
abbrev pub text_in : Values → PartName → List ℕ
text_in v p = unwrap_or (v (id_text p)) []

abbrev pub is_raised : Values → PartName → Bool
is_raised v p = option_map_or (λ value. bytes_eq value (codes "true")) (v (id_text p)) false

-- a value of a grammar
abbrev pub read_by : {A : Type 0} → (List ℕ → Option A) → PartName → List ℕ → Result A Why
read_by grammar p value = ok_or (grammar value) (BadValue p)

-- the same of one that may be there
abbrev pub read_if : {A : Type 0} → (List ℕ → Option A) → PartName → Option (List ℕ) → Result (Option A) Why
read_if grammar p None = Ok None
read_if grammar p (Some value) = and_then (read_by grammar p value) (λ x. Ok (Some x))

abbrev pub address_of : List ℕ → Option Address
address_of value = result_ok (target_of value)

abbrev pub wanted_target : Values → PartName → Result Address Why
wanted_target v p = read_by address_of p (text_in v p)

abbrev pub target_in : Values → PartName → Result (Option Address) Why
target_in v p = read_if address_of p (v (id_text p))

-- a number from 1 to the most
abbrev pub number_in : Values → PartName → ℕ → Result (Option ℕ) Why
number_in v p most = read_if (number_of 1 most) p (v (id_text p))

-- such a number, or another where the option isn't there
abbrev pub number_or : Values → PartName → ℕ → ℕ → Result ℕ Why
number_or v p most other = and_then (number_in v p most) (λ n. Ok (unwrap_or n other))

-- `none`, or the text of an identity
abbrev pub identity_or_none : List ℕ → Result (Option Identity) Why
identity_or_none value =
    if bytes_eq value (codes "none") then Ok None else and_then (read_by identity_of Peer value) (λ i. Ok (Some i))

abbrev pub target_or : Result Address TargetFault → Result Address Why
target_or (Ok target) = Ok target
target_or (Err fault) = Err (BadTarget fault)

-- the address in the place of SOURCE, and the address and port in that of TARGET
abbrev pub source_in : Values → Result Ip Why
source_in v = read_by ip_of Source (text_in v Source)

abbrev pub place_target : Values → Result Address Why
place_target v = target_or (target_of (text_in v Target))

-- a network that isn't named has the empty name
unfoldable pub check_by : Values → Result Question Why
check_by v =
    and_then (source_in v) (λ ip.
    and_then (identity_or_none (text_in v Peer)) (λ identity.
    and_then (place_target v) (λ target.
    Ok (record {
      node = text_in v Node;
      network = text_in v Network;
      peer = record { ip = ip; identity = identity };
      target = target;
      explain = is_raised v Explain;
    }))))

unfoldable pub route_by : Values → Result Route Why
route_by v =
    and_then (number_or v HbonePort 65535 15008) (λ hbone_port.
    and_then (source_in v) (λ source.
    and_then (place_target v) (λ target.
    Ok (record {
      node = text_in v Node;
      network = text_in v Network;
      hbone_port = hbone_port;
      source = source;
      target = target;
    }))))

unfoldable pub make_by : Values → Result Script Why
make_by v = and_then (read_by (number_of 1 most_tunnels) Count (text_in v Count)) (λ n. Ok (record { count = n; run = is_raised v Run }))

-- what holds where nothing is said
unfoldable pub run_by : Values → Result RunWords Why
run_by v =
    and_then (wanted_target v Discovery) (λ discovery.
    and_then (target_in v Inbound) (λ inbound.
    and_then (target_in v Outbound) (λ outbound.
    and_then (target_in v Plain) (λ plain.
    and_then (number_or v HbonePort 65535 15008) (λ hbone_port.
    and_then (number_or v Tunnels 4096 4096) (λ tunnels.
    and_then (number_or v Turns 18446744073709551615 18446744073709551615) (λ turns.
    Ok (record {
      node = text_in v Node;
      id = text_in v Id;
      discovery = discovery;
      inbound = inbound;
      outbound = outbound;
      plain = plain;
      network = text_in v Network;
      hbone_port = hbone_port;
      tunnels = tunnels;
      turns = turns;
    }))))))))

unfoldable pub replay_by : Values → Result Replay Why
replay_by v = and_then (run_by v) (λ r. Ok (record { run = r; trace = is_raised v Trace; brief = is_raised v Brief }))

unfoldable pub serve_by : Values → Result Serve Why
serve_by v =
    and_then (run_by v) (λ r.
    and_then (number_in v Ticks 18446744073709551615) (λ ticks.
    and_then (target_in v Status) (λ status.
    Ok (record {
      run = r;
      ticks = ticks;
      stop_on_input = is_raised v StopOnInput;
      status = status;
      quiet = is_raised v Quiet;
      notes_only = is_raised v NotesOnly;
    }))))

-- what the command asks that has these values, or the first that isn't of its grammar and range
unfoldable pub asked_by : CommandName → Values → Result Command Why
asked_by command.Check v = and_then (check_by v) (λ q. Ok (checks q))
asked_by command.Route v = and_then (route_by v) (λ r. Ok (routes r))
asked_by command.Show v = Ok (shows (record { fields = is_raised v Fields }))
asked_by command.Make v = and_then (make_by v) (λ m. Ok (makes m))
asked_by command.Replay v = and_then (replay_by v) (λ r. Ok (replays r))
asked_by command.Serve v = and_then (serve_by v) (λ s. Ok (serves s))
