-- Small steps that no run takes, and what an update does exactly.
use Rattle.std.specs.Prelude.{◌≡◌, ◌≢◌, ℕ, true, false, List, ◌∷◌}
use Rattle.hb_base.specs.declared.cause.Cause.TheVariants as cause
use Rattle.hb_base.specs.declared.door.Why.{Why}
use Rattle.hb_base.specs.declared.target.Target.{Target}
use Rattle.hb_disco.specs.declared.response.Response.{Response}
use Rattle.hb_held.specs.Held.{Resources}
use Rattle.hb_table.specs.Judgement.{judged}
use Rattle.hb_table.specs.declared.judgement.Judged.TheVariants.{Admitted}
use Rattle.hb_world.specs.declared.entry.Entry.TheVariants as e
use Rattle.hb_inbound.specs.Inbound.{Inbound, rejudged}
use Rattle.hb_base.specs.declared.note.Note.{Note}
use Rattle.hb_inbound.specs.Part.{up, accepted, put, finished, applied}
use Rattle.hb_inbound.specs.Runs.{Local, Steps}
use Rattle.hb_inbound.specs.Tunnel.{Stage, unasked, opening, live, takes_place, ends_by}

abbrev pub stage_on : Local → ℕ → Stage
stage_on a s = (a.link.tunnels s).stage

-- a dial that nothing asked for; 200 in front of the upstream's opening; bytes to an upstream that isn't open
abbrev pub DialsUnasked : Type 0
DialsUnasked = (l s u : ℕ) (a b : Local) (to : Target) (why : Why)
    → stage_on a s ≡ unasked → Steps l a (up s (e.Dialled u to why)) b → ⊥

abbrev pub AcceptsUnopened : Type 0
AcceptsUnopened = (l s : ℕ) (a b : Local) (made : Note) → stage_on a s ≡ opening → Steps l a (accepted s made) b → ⊥

abbrev pub WritesUnopened : Type 0
WritesUnopened = (l s u : ℕ) (a b : Local) (bytes : List ℕ)
    → stage_on a s ≡ opening → Steps l a (up s (e.Went u bytes)) b → ⊥

-- the upstream is shut, or the stream ended, while a byte waits in front of that
abbrev pub ShutsEarly : Type 0
ShutsEarly = (l s u byte : ℕ) (more : List ℕ) (a b : Local)
    → (a.link.tunnels s).ways.up.held ≡ byte ∷ more → Steps l a (up s (e.Shut u)) b → ⊥

abbrev pub EndsEarly : Type 0
EndsEarly = (l s byte : ℕ) (more : List ℕ) (a b : Local)
    → (a.link.tunnels s).ways.down.held ≡ byte ∷ more → Steps l a (finished s) b → ⊥

-- behind an update that doesn't admit the peer of a live tunnel any more bytes are written to its upstream, or DATA is put
abbrev pub NotAdmitted : Local → ℕ → Type 0
NotAdmitted a s = judged a.held a.link.peer (a.link.tunnels s).target ≢ Admitted

abbrev pub WritesRevoked : Type 0
WritesRevoked = (l s u : ℕ) (bytes : List ℕ) (r : Response) (a b c : Local)
    → stage_on a s ≡ live → Steps l a (applied r) b → NotAdmitted b s → Steps l b (up s (e.Went u bytes)) c → ⊥

abbrev pub PutsRevoked : Type 0
PutsRevoked = (l s : ℕ) (bytes : List ℕ) (r : Response) (a b c : Local)
    → stage_on a s ≡ live → Steps l a (applied r) b → NotAdmitted b s → Steps l b (put s bytes) c → ⊥

-- An update leaves each tunnel as it was that is admitted, or has no place, and ends each other one
abbrev pub KeepsAdmitted : Type 0
KeepsAdmitted = (h : Resources) (x : Inbound) (s : ℕ)
    → judged h x.peer (x.tunnels s).target ≡ Admitted → (rejudged h x).tunnels s ≡ x.tunnels s

abbrev pub KeepsPlaceless : Type 0
KeepsPlaceless = (h : Resources) (x : Inbound) (s : ℕ)
    → takes_place (x.tunnels s).stage ≡ false → (rejudged h x).tunnels s ≡ x.tunnels s

abbrev pub EndsOthers : Type 0
EndsOthers = (h : Resources) (x : Inbound) (s : ℕ)
    → judged h x.peer (x.tunnels s).target ≢ Admitted → takes_place (x.tunnels s).stage ≡ true
    → ((rejudged h x).tunnels s).stage ≡ ends_by cause.Revoked (x.tunnels s).stage
