-- A look at what came on a link to a gateway, what its tunnel hears of it, and what is settled behind that.
use Rattle.std.proofs.Common.{◌≡◌, ℕ, ◌==◌, nat_lt, Bool, true, false, cond, List, Option, None, refl, ap, sym, ◌∙◌, subst}
use Rattle.std.proofs.lemmas.Bool.{false≢true}
use Rattle.hb_gate.specs.Calls as gate
use Rattle.hb_gate.specs.Calls.{none, more}
use Rattle.hb_gateway.specs.Calm.{AllReset, is_failing}
use Rattle.hb_gateway.specs.Gateway.{Gateway, at_stage, carries, is_active, settled, stage_of}
use Rattle.hb_gateway.specs.Hears.{all_hear}
use Rattle.hb_conn.specs.Connection.{Connection}
use Rattle.hb_conn.specs.Observed.{aborted}
use Rattle.hb_conn.specs.declared.found.Found.{Found}
use Rattle.hb_conn.specs.declared.found.Found.TheVariants as found
use Rattle.hb_gateway.specs.Part.{looked}
use Rattle.hb_gateway.specs.Response as response
use Rattle.hb_gateway.specs.Response.{Stage, Heard, carrying, opens, fails, heard_of}
use Rattle.hb_gateway.specs.Runs as gateways
use Rattle.hb_history.specs.Points as history
use Rattle.hb_hpack.specs.declared.header.Header.{Header}
use Rattle.hb_kept.specs.Kept.{Fares}
use Rattle.hb_relays.proofs.Awaiting.{is_opens}

-- A SIDE OF EACH STREAM THAT IS TO BE RESET IS OPEN behind a look
settled_active : (active : Bool) (stage : Stage) → is_failing (settled active stage) ≡ true → active ≡ true
settled_active true stage is = refl
settled_active false response.unused is = absurd (false≢true is)
settled_active false response.asked is = absurd (false≢true is)
settled_active false response.carrying is = absurd (false≢true is)
settled_active false (response.failing code) is = absurd (false≢true is)
settled_active false response.over is = absurd (false≢true is)

pub looked_active : (l : ℕ) (x y : Gateway) (ps : List history.Point) (told : Found) (headers : List Header)
    → gateways.Steps l x (looked ps told headers) y → gate.AreActive y
looked_active l x y ps told headers steps =
    subst gate.AreActive (sym steps.6)
    (λ s. settled_active (is_active steps.3 s) (stage_of (all_hear (looked ps told headers) x) s))

-- nothing but what tunnels are to be told changed: the same streams are reset, and leave the same
pub record SameBut (w v : Gateway) : Type 0 where
  pub phase : v.phase ≡ w.phase
  pub conn : v.conn ≡ w.conn
  pub stages : (s : ℕ) → stage_of v s ≡ stage_of w s

pub same_active : (w v : Gateway) → SameBut w v → gate.AreActive w → gate.AreActive v
same_active w v same active s fails_so =
    ap (λ (c : Connection). is_active c s) same.conn ∙ active s (ap is_failing (sym (same.stages s)) ∙ fails_so)

abbrev reset_at : (s code : ℕ) → Gateway → Gateway
reset_at s code w =
    record w { streams = λ j. cond (j == s) (at_stage response.over (w.streams j)) (w.streams j); conn = aborted w.conn s code }

reset_same : (s code : ℕ) (w v b : Gateway) → SameBut w v → b ≡ reset_at s code v → SameBut (reset_at s code w) b
reset_same s code w v b same b_is =
    subst (λ (u : Gateway). SameBut (reset_at s code w) u) (sym b_is) (record {
      phase = same.phase;
      conn = ap (λ (c : Connection). aborted c s code) same.conn;
      stages = λ j. by j (j == s);
    })
  where
    by : (j : ℕ) (c : Bool) → (cond c (at_stage response.over (v.streams j)) (v.streams j)).stage
        ≡ (cond c (at_stage response.over (w.streams j)) (w.streams j)).stage
    by j true = refl
    by j false = same.stages j

pub resets_same : (l : ℕ) (w v b : Gateway) → SameBut w v → gate.Resets l v b → (a : Gateway) × gate.Resets l w a × SameBut a b
resets_same l w v b same (none is) = (w, none refl, subst (SameBut w) (sym is) same)
resets_same l w v b same (more {mid = mid} s code step rest) =
    let then = resets_same l (reset_at s code w) mid b (reset_same s code w v mid same step.2) rest in (
      then.0,
      more s code (ap carries (sym same.phase) ∙ step.0, sym (same.stages s) ∙ step.1, refl) then.1,
      then.2,
    )

-- so there is room behind them
pub fares_same : (l : ℕ) (w v b : Gateway) → SameBut w v → gate.Resets l v b → AllReset b
    → ((a : Gateway) → gate.Resets l w a → AllReset a → Fares a.conn) → Fares b.conn
fares_same l w v b same resets all fares =
    let then = resets_same l w v b same resets in
    subst Fares (sym then.2.conn)
    (fares then.0 then.1 (λ s. ap is_failing (sym (then.2.stages s)) ∙ all s))

-- WHAT A STREAM THAT CARRIES BYTES HEARS never opens its tunnel
none_either : (b : Bool) (heard : Option Heard) → is_opens heard ≡ false → is_opens (cond b heard None) ≡ false
none_either true heard is = is
none_either false heard is = refl

pub carrying_hears : (s : ℕ) (headers : List Header) (bytes : List ℕ) (told : Found) → is_opens (heard_of s carrying headers bytes told) ≡ false
carrying_hears s headers bytes (found.Opened k end) = none_either (k == s) _ refl
carrying_hears s headers bytes (found.Chunk k end) = none_either (k == s) _ refl
carrying_hears s headers bytes (found.Ended k) = none_either (k == s) _ refl
carrying_hears s headers bytes (found.Reset k code) = none_either (k == s) _ refl
carrying_hears s headers bytes (found.Broken k code) = none_either (k == s) _ refl
carrying_hears s headers bytes (found.GoneAway last) = none_either (nat_lt last s) _ refl
carrying_hears s headers bytes (found.Fault code) = refl
carrying_hears s headers bytes told = refl
