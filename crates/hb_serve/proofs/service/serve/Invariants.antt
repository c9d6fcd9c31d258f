use Rattle.hb_audit.specs.HeldBy.{each}
use Rattle.hb_serve.proofs.service.serve.Given as goal

abbrev pub ghosts-serve_asked : goal.ghosts-serve_asked
ghosts-serve_asked g a = record { config = a.words.config; before = each a.audits.now }
