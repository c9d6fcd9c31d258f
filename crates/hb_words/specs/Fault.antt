-- The line that tells why words aren't accepted.
use Rattle.std.specs.Prelude.{ℕ, List, [], ◌++◌, codes}
use Rattle.hb_base.specs.declared.target.BadTarget.{BadTarget}
use Rattle.hb_base.specs.declared.target.BadTarget.TheVariants as target_faults
use Rattle.hb_words.specs.declared.fault.Why.{Why}
use Rattle.hb_words.specs.declared.fault.Why.TheVariants as why
use Rattle.hb_words.specs.declared.fault.WordsFault.{WordsFault}
use Rattle.hb_words.specs.declared.fault.WordsFault.TheVariants as faults
use Rattle.hb_words.specs.declared.part.CommandName.{CommandName}
use Rattle.hb_words.specs.declared.part.PartName.{PartName}
use Rattle.hb_words.specs.declared.part.PartName.TheVariants as parts
use Rattle.hb_words.specs.Grammar.{command_text}
use Rattle.hb_words.specs.Part.{name_text}

-- what stands before a part whose value is told
abbrev pub lead : PartName → List ℕ
lead parts.Source = []
lead parts.Identity = []
lead parts.Target = []
lead parts.Count = []
lead _ = codes "the value of "

-- what its value isn't
abbrev pub grammar_text : PartName → List ℕ
grammar_text parts.Source = codes " is neither an IPv4 nor an IPv6 address"
grammar_text parts.Identity = codes " is neither none nor spiffe://TRUST_DOMAIN/ns/NAMESPACE/sa/SERVICE_ACCOUNT"
grammar_text parts.Target = codes " is neither IPv4:PORT nor [IPv6]:PORT"
grammar_text parts.Discovery = codes " is neither IPv4:PORT nor [IPv6]:PORT"
grammar_text parts.Inbound = codes " is neither IPv4:PORT nor [IPv6]:PORT"
grammar_text parts.Outbound = codes " is neither IPv4:PORT nor [IPv6]:PORT"
grammar_text parts.Plain = codes " is neither IPv4:PORT nor [IPv6]:PORT"
grammar_text parts.Status = codes " is neither IPv4:PORT nor [IPv6]:PORT"
grammar_text parts.HbonePort = codes " is no number from 1 to 65535"
grammar_text parts.Tunnels = codes " is no number from 1 to 4096"
grammar_text parts.Turns = codes " is no number from 1 to 18446744073709551615"
grammar_text parts.Ticks = codes " is no number from 1 to 18446744073709551615"
grammar_text parts.Count = codes " is no number from 1 to 1000"
grammar_text _ = codes " is empty or begins with a dash"

abbrev pub target_text : BadTarget → List ℕ
target_text target_faults.NoPort = codes "TARGET has no port"
target_text target_faults.BadIp = codes "the address of TARGET is neither IPv4 text nor IPv6 text in brackets"
target_text target_faults.BadPort = codes "the port of TARGET is no number from 1 to 65535"

-- a part between two texts
abbrev pub part_text : List ℕ → PartName → List ℕ → List ℕ
part_text before part behind = before ++ name_text part ++ behind

abbrev pub why_text : CommandName → Why → List ℕ
why_text c (why.Unknown word) = codes "unknown option '" ++ word ++ codes "'"
why_text c (why.Spare word) = codes "unexpected word '" ++ word ++ codes "'"
why_text c (why.Twice part) = part_text [] part (codes " stands twice")
why_text c (why.NoValue part) = part_text [] part (codes " has no value")
why_text c (why.Valued part) = part_text [] part (codes " takes no value")
why_text c (why.BadValue part) = part_text (lead part) part (grammar_text part)
why_text c (why.BadTarget fault) = target_text fault
why_text c (why.Missing part) = part_text [] part (codes " is wanted behind ") ++ command_text c
why_text c why.NotAccepted = codes "these words aren't accepted"

abbrev pub fault_text : WordsFault → List ℕ
fault_text faults.NotUtf8 = codes "a word is not UTF-8"
fault_text faults.NoCommand = codes "a command is wanted"
fault_text (faults.UnknownCommand word) = codes "unknown command '" ++ word ++ codes "'"
fault_text (faults.Behind command reason) = why_text command reason

-- what prints the words of the named command, or the commands
abbrev pub help_at : WordsFault → List ℕ
help_at (faults.Behind command reason) = codes "hbone " ++ command_text command ++ codes " --help"
help_at _ = codes "hbone --help"

-- the line, with what prints the accepted words
abbrev pub fault_line : WordsFault → List ℕ
fault_line fault = codes "hbone: words: " ++ fault_text fault ++ codes " (see " ++ help_at fault ++ codes ")\n"
