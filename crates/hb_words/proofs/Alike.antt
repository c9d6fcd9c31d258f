-- Two lists of values that give the same for each part of a command.
use Rattle.std.proofs.Common.{◌≡◌, ℕ, List, Some, codes, refl}
use Rattle.hb_options.specs.Items.{Part, part_named}
use Rattle.hb_words.specs.declared.part.CommandName.{CommandName}
use Rattle.hb_words.specs.declared.part.CommandName.TheVariants.{Check, Route, Show, Make, Replay, Serve}
use Rattle.hb_words.specs.Grammar.{parts_of}
use Rattle.hb_words.specs.Values.{Values, check_by, route_by, make_by, run_by, replay_by, serve_by, asked_by}

abbrev pub Alike : CommandName → Values → Values → Type 0
Alike c v w = (name : List ℕ) (p : Part) → part_named (parts_of c) name ≡ Some p → v name ≡ w name

-- the command asks the same by both
pub asked_alike : (c : CommandName) (v w : Values) → Alike c v w → asked_by c v ≡ asked_by c w
unfolding asked_by check_by route_by make_by run_by replay_by serve_by
asked_alike Check v w same =
    rw (
      same (codes "node") _ refl,
      same (codes "network") _ refl,
      same (codes "explain") _ refl,
      same (codes "SOURCE") _ refl,
      same (codes "IDENTITY") _ refl,
      same (codes "TARGET") _ refl,
    ) refl
asked_alike Route v w same =
    rw (
      same (codes "node") _ refl,
      same (codes "network") _ refl,
      same (codes "hbone-port") _ refl,
      same (codes "SOURCE") _ refl,
      same (codes "TARGET") _ refl,
    ) refl
asked_alike Show v w same = rw (same (codes "fields") _ refl) refl
asked_alike Make v w same = rw (same (codes "N") _ refl, same (codes "run") _ refl) refl
asked_alike Replay v w same =
    rw (
      same (codes "node") _ refl,
      same (codes "id") _ refl,
      same (codes "discovery") _ refl,
      same (codes "inbound") _ refl,
      same (codes "outbound") _ refl,
      same (codes "plain") _ refl,
      same (codes "network") _ refl,
      same (codes "hbone-port") _ refl,
      same (codes "tunnels") _ refl,
      same (codes "turns") _ refl,
      same (codes "trace") _ refl,
      same (codes "brief") _ refl,
    ) refl
asked_alike Serve v w same =
    rw (
      same (codes "node") _ refl,
      same (codes "id") _ refl,
      same (codes "discovery") _ refl,
      same (codes "inbound") _ refl,
      same (codes "outbound") _ refl,
      same (codes "plain") _ refl,
      same (codes "network") _ refl,
      same (codes "hbone-port") _ refl,
      same (codes "tunnels") _ refl,
      same (codes "turns") _ refl,
      same (codes "ticks") _ refl,
      same (codes "status") _ refl,
      same (codes "stop-on-input") _ refl,
      same (codes "quiet") _ refl,
      same (codes "notes-only") _ refl,
    ) refl
