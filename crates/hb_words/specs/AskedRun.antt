-- What contracts see of the words of `replay` and of `serve` that were read, without where they lie in memory.
use Rattle.std.specs.Prelude.{Result, Ok, Err}
use Rattle.hb_words.specs.declared.asks.Replay.{Replay as GivenReplay}
use Rattle.hb_words.specs.declared.asks.RunWords.{RunWords as GivenRun}
use Rattle.hb_words.specs.declared.asks.Serve.{Serve as GivenServe}
use Rattle.hb_words.specs.declared.fault.Why.{Why}
use Rattle.hb_words.specs.Command.{RunWords, Replay, Serve}

abbrev pub run_seen : GivenRun → RunWords
run_seen r = record {
  node = r.node.now;
  id = r.id.now;
  discovery = r.discovery;
  inbound = r.inbound;
  outbound = r.outbound;
  plain = r.plain;
  network = r.network.now;
  hbone_port = r.hbone_port;
  tunnels = r.tunnels;
  turns = r.turns;
}

abbrev pub run_answer : Result GivenRun Why → Result RunWords Why
run_answer (Ok r) = Ok (run_seen r)
run_answer (Err why) = Err why

abbrev pub replay_seen : GivenReplay → Replay
replay_seen r = record { run = run_seen r.run; trace = r.trace; brief = r.brief }

abbrev pub serve_seen : GivenServe → Serve
serve_seen s = record {
  run = run_seen s.run;
  ticks = s.ticks;
  stop_on_input = s.stop_on_input;
  status = s.status;
  quiet = s.quiet;
  notes_only = s.notes_only;
}

abbrev pub replay_answer : Result GivenReplay Why → Result Replay Why
replay_answer (Ok r) = Ok (replay_seen r)
replay_answer (Err why) = Err why

abbrev pub serve_answer : Result GivenServe Why → Result Serve Why
serve_answer (Ok s) = Ok (serve_seen s)
serve_answer (Err why) = Err why
