-- What no step does.
use Rattle.std.proofs.Common.{◌≡◌, ℕ, Bool, true, false, ◌&&◌, ◌==◌, not, List, ◌∷◌, length, refl, sym, ap, ◌∙◌, arith}
use Rattle.std.proofs.lemmas.Bool.{false≢true}
use Rattle.std.proofs.lemmas.Bool.Decides.{nat_tests}
use Rattle.hb_tunnel.specs.Way.{is_done}
use Rattle.hb_inbound.specs.Calm.{data_waits}
use Rattle.hb_inbound.specs.Refused.{DialsUnasked, AcceptsUnopened, WritesUnopened, ShutsEarly, EndsEarly}

pub dials_unasked : DialsUnasked
dials_unasked l s u a b to why is step = absurd (let both = sym is ∙ step.0.1 in cc)

pub accepts_unopened : AcceptsUnopened
accepts_unopened l s a b made is step = absurd (let both = sym is ∙ step.1 in cc)

pub writes_unopened : WritesUnopened
writes_unopened l s u a b bytes is step = absurd (let both = sym is ∙ step.0.0.1 in cc)

-- a way on which a byte waits isn't done
not_done : (ended spare : Bool) (held : List ℕ) (byte : ℕ) (more : List ℕ) → held ≡ byte ∷ more
    → ((ended && (length held == 0)) && spare) ≡ true → ⊥
not_done false spare held byte more is done = false≢true done
not_done true spare held byte more is done =
    let none : (length (byte ∷ more) == 0) ≡ false = grind (arith, nat_tests) in
    false≢true (sym (ap (λ (xs : List ℕ). (length xs == 0) && spare) is ∙ ap (λ (b : Bool). b && spare) none) ∙ done)

left_true : (b c : Bool) → (b && c) ≡ true → b ≡ true
left_true true c is = refl
left_true false c is = absurd (false≢true is)

pub shuts_early : ShutsEarly
shuts_early l s u byte more a b is step =
    let t = a.link.tunnels s in not_done t.ways.up.has_ended (not t.shut) t.ways.up.held byte more is step.0.3

pub ends_early : EndsEarly
ends_early l s byte more a b is step =
    let t = a.link.tunnels s in
    not_done t.ways.down.has_ended (not t.end_put) t.ways.down.held byte more is
    (left_true (is_done t.ways.down && not t.end_put) (not (data_waits a.link.conn s)) step.1)
