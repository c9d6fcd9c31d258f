-- While the run goes on no tunnel is told by a gateway that it ended as an update ends one.
use Rattle.std.proofs.Common.{◌≡◌, ℕ, ◌==◌, ◌&&◌, not, Bool, true, false, cond, List, [], ◌∷◌, Option, Some, None, refl, ap, sym, ◌∙◌, subst}
use Rattle.std.specs.List.{list_any}
use Rattle.std.specs.Prelude.{nat_lt}
use Rattle.std.proofs.lemmas.Bool.{cond_both, false≢true}
use Rattle.std.proofs.lemmas.List.Folds.{list_any-append}
use Rattle.hb_base.specs.declared.cause.Cause.{Cause}
use Rattle.hb_base.specs.declared.cause.Cause.TheVariants as cause
use Rattle.hb_conn.specs.declared.found.Found.{Found}
use Rattle.hb_conn.specs.declared.found.Found.TheVariants as found
use Rattle.hb_gateway.specs.Gateway.{Gateway, Stream, Phase, opening, no_stream, at_stage, break_cause, dropped_to}
use Rattle.hb_gateway.specs.Hears.{hears, hears_by, hears_call, posted, all_hear}
use Rattle.hb_gateway.specs.Part as gateway
use Rattle.hb_gateway.specs.Part.{Part}
use Rattle.hb_gateway.specs.Response.{Stage, asked, carrying, over, Heard, opens, fails, answered, headed, brought, ended, failed, heard_of, refusal_of, is_success}
use Rattle.hb_gateway.specs.Runs as gateway_runs
use Rattle.hb_gateway.specs.Runs.{entered}
use Rattle.hb_hpack.specs.declared.header.Header.{Header}
use Rattle.hb_model.specs.Discovery.{status_of, is_interim}
use Rattle.hb_model.specs.Inner.{is_stop}
use Rattle.hb_model.specs.Point as point
use Rattle.hb_model.specs.declared.config.NodeConfig.{NodeConfig}
use Rattle.hb_proxy.proofs.Gates.{gates_run}
use Rattle.hb_proxy.specs.Machine.{Machine}
use Rattle.hb_proxy.specs.Points.{Point, of_control, of_link, of_plain, of_gate, of_stream, entry_in, entries, control_in, control_of, gate_in, gates_of}
use Rattle.hb_proxy.specs.Runs.{Steps, StandsFor}
use Rattle.hb_proxy.specs.Shared.{Shared, asks, tells, puts, finishes, credits, drops, completes, gateway_part}
use Rattle.hb_world.specs.declared.entry.Entry.{Entry}
use Rattle.hb_world.specs.declared.entry.Entry.TheVariants as e
use Rattle.hb_laws.proofs.Links.{none_told, none_of_one}
use Rattle.hb_laws.proofs.Tests.{none_of_both}

-- the cause of an update; a tunnel is told it, or is to be
abbrev pub is_revoked : Cause → Bool
is_revoked cause.Revoked = true
is_revoked _ = false

abbrev pub is_revoking : Heard → Bool
is_revoking (fails why) = is_revoked why
is_revoking _ = false

abbrev pub is_revoking_mail : Option Heard → Bool
is_revoking_mail None = false
is_revoking_mail (Some heard) = is_revoking heard

-- WHAT IS HEARD

failed_kept : (why : Cause) (stage : Stage) → is_revoked why ≡ false → is_revoking_mail (failed why stage) ≡ false
failed_kept why asked kept = kept
failed_kept why carrying kept = kept
failed_kept why _ kept = refl

either_kept : (b : Bool) (heard other : Option Heard) → is_revoking_mail heard ≡ false → is_revoking_mail other ≡ false
    → is_revoking_mail (cond b heard other) ≡ false
either_kept true heard other first second = first
either_kept false heard other first second = second

answered_kept : (status : Option ℕ) (end : Bool) → is_revoking_mail (answered status end) ≡ false
answered_kept status end =
    either_kept (is_interim status && not end) None _ refl
    (either_kept (is_success status) (Some (opens end)) (Some (fails (cause.UpRefused (refusal_of status)))) refl refl)

headed_kept : (stage : Stage) (status : Option ℕ) (end : Bool) → is_revoking_mail (headed stage status end) ≡ false
headed_kept asked status end = answered_kept status end
headed_kept carrying status end = refl
headed_kept _ status end = refl

brought_kept : (stage : Stage) (bytes : List ℕ) → is_revoking_mail (brought stage bytes) ≡ false
brought_kept asked bytes = refl
brought_kept carrying bytes = refl
brought_kept _ bytes = refl

ended_kept : (stage : Stage) → is_revoking_mail (ended stage) ≡ false
ended_kept asked = refl
ended_kept carrying = refl
ended_kept _ = refl

heard_kept : (s : ℕ) (stage : Stage) (headers : List Header) (bytes : List ℕ) (told : Found)
    → is_revoking_mail (heard_of s stage headers bytes told) ≡ false
heard_kept s stage headers bytes (found.Opened k end) = either_kept (k == s) _ None (headed_kept stage (status_of headers) end) refl
heard_kept s stage headers bytes (found.Chunk k end) = either_kept (k == s) _ None (brought_kept stage bytes) refl
heard_kept s stage headers bytes (found.Ended k) = either_kept (k == s) _ None (ended_kept stage) refl
heard_kept s stage headers bytes (found.Reset k code) =
    either_kept (k == s) _ None (failed_kept (cause.PeerReset code) stage refl) refl
heard_kept s stage headers bytes (found.Broken k code) =
    either_kept (k == s) _ None (failed_kept (cause.StreamFault code) stage refl) refl
heard_kept s stage headers bytes (found.GoneAway last) =
    either_kept (nat_lt last s) _ None (failed_kept cause.GoneAway stage refl) refl
heard_kept s stage headers bytes (found.Fault code) = failed_kept (cause.ConnFault code) stage refl
heard_kept s stage headers bytes _ = refl

breaks_kept : (phase : Phase) → is_revoked (break_cause phase) ≡ false
breaks_kept opening = refl
breaks_kept _ = refl

call_kept : (phase : Phase) (stage : Stage) (z : Entry) → is_revoking_mail (hears_call phase stage z) ≡ false
call_kept phase stage (e.Ended k) = failed_kept cause.PeerGone stage refl
call_kept phase stage (e.Broke k) = failed_kept (break_cause phase) stage (breaks_kept phase)
call_kept phase stage _ = refl

-- A RUN OF ITS LINK

abbrev is_end : Part → Bool
is_end (gateway.stopped why) = true
is_end _ = false

hears_kept : (phase : Phase) (s : ℕ) (stage : Stage) (p : Part) → is_end p ≡ false
    → is_revoking_mail (hears_by phase s stage p) ≡ false
hears_kept phase s stage (gateway.entry z) goes = call_kept phase stage z
hears_kept phase s stage gateway.lacked goes = failed_kept cause.NoMemory stage refl
hears_kept phase s stage (gateway.looked points told headers) goes = heard_kept s stage headers _ told
hears_kept phase s stage (gateway.stopped why) goes = absurd (false≢true (sym goes))
hears_kept phase s stage _ goes = refl

abbrev IsKept : Gateway → Type 0
IsKept x = (s : ℕ) → is_revoking_mail (x.streams s).mail ≡ false

posted_kept : (heard mail : Option Heard) → is_revoking_mail heard ≡ false → is_revoking_mail mail ≡ false
    → is_revoking_mail (posted heard mail) ≡ false
posted_kept None mail first second = second
posted_kept (Some heard) mail first second = first

all_kept : (x : Gateway) (p : Part) → is_end p ≡ false → IsKept x → IsKept (all_hear p x)
all_kept x p goes kept s =
    posted_kept (hears x p s) (x.streams s).mail (hears_kept x.phase s (x.streams s).stage p goes) (kept s)

entered_kept : (z : Entry) (x : Gateway) → IsKept x → IsKept (entered z x)
entered_kept (e.Opened k) x kept = kept
entered_kept (e.Came k bytes) x kept = kept
entered_kept (e.Ended k) x kept = kept
entered_kept (e.Went k bytes) x kept = kept
entered_kept (e.Broke k) x kept = kept
entered_kept (e.Closed k why) x kept = kept
entered_kept _ x kept = kept

-- one stream changes, and keeps its mail, or has none
change_kept : (x : Gateway) (s : ℕ) (change : Stream → Stream) → IsKept x
    → ((t : Stream) → is_revoking_mail t.mail ≡ false → is_revoking_mail (change t).mail ≡ false) → (k : ℕ)
    → is_revoking_mail (cond (k == s) (change (x.streams k)) (x.streams k)).mail ≡ false
change_kept x s change kept is k =
    cond_both (k == s) (change (x.streams k)) (x.streams k) (λ (u : Stream). is_revoking_mail u.mail ≡ false)
    (λ here. is (x.streams k) (kept k)) (λ apart. kept k)

step_kept : (n : ℕ) (x y : Gateway) (p : Part) → gateway_runs.Steps n x p y → is_end p ≡ false → IsKept x → IsKept y
step_kept n x y (gateway.entry z) steps goes kept =
    subst IsKept (sym steps.1) (entered_kept z _ (all_kept x (gateway.entry z) goes kept))
step_kept n x y (gateway.dialled z key) steps goes kept = subst IsKept (sym steps.1) kept
step_kept n x y gateway.lacked steps goes kept = subst IsKept (sym steps.1) (all_kept x gateway.lacked goes kept)
step_kept n x y (gateway.looked points told headers) steps goes kept =
    subst IsKept (sym steps.6) (all_kept x (gateway.looked points told headers) goes kept)
step_kept n x y (gateway.asks s captured authority) steps goes kept =
    subst IsKept (sym steps.2)
    (change_kept x s (λ t. record no_stream { stage = asked; captured = captured }) kept (λ t is. refl))
step_kept n x y (gateway.tells s heard begun) steps goes kept =
    subst IsKept (sym steps.2) (change_kept x s (λ t. record t { mail = None }) kept (λ t is. refl))
step_kept n x y (gateway.put s bytes count) steps goes kept = subst IsKept (sym steps.4) kept
step_kept n x y (gateway.finished s) steps goes kept = subst IsKept (sym steps.3) kept
step_kept n x y (gateway.credited s count) steps goes kept = subst IsKept (sym steps.2) kept
step_kept n x y (gateway.reset s code) steps goes kept = subst IsKept (sym steps.2) (change_kept x s (at_stage over) kept (λ t is. is))
step_kept n x y (gateway.dropped s begun) steps goes kept =
    subst IsKept (sym steps.3) (change_kept x s (at_stage (dropped_to s x)) kept (λ t is. is))
step_kept n x y (gateway.done s begun) steps goes kept = subst IsKept (sym steps.3) (change_kept x s (at_stage over) kept (λ t is. is))
step_kept n x y (gateway.stopped why) steps goes kept = absurd (false≢true (sym goes))

run_kept : (n : ℕ) (x : Gateway) (parts : List Part) → gateway_runs.StandsFor n x parts → list_any is_end parts ≡ false → IsKept x
run_kept n x parts (gateway_runs.begins fresh none) goes = subst IsKept (sym fresh) (λ s. refl)
run_kept n y more (gateway_runs.goes_on {x = x} {parts = parts} stands p steps are) goes =
    let both = none_of_both (list_any is_end parts) (list_any is_end (p ∷ []))
    (sym (list_any-append is_end parts (p ∷ [])) ∙ ap (list_any is_end) (sym are) ∙ goes) in
    step_kept n x y p steps (none_of_both (is_end p) false both.1).0 (run_kept n x parts stands both.0)

-- IN A RUN OF THE WHOLE

no_entry : (es : List Entry) → list_any (λ z. false) es ≡ false
no_entry [] = refl
no_entry (z ∷ es) = no_entry es

module _ (n : ℕ) where
  seen_ends : (q : point.Point) → is_stop q ≡ false → list_any is_end (gate_in n (of_control q)) ≡ false
  seen_ends (point.stopped why) none = none
  seen_ends _ none = refl

  here : (g : NodeConfig) (x y : Machine) (points : List Point) (p : Point) → StandsFor g x points
      → list_any is_stop (control_of points) ≡ false → Steps g x p y → list_any (λ (z : Entry). false) (entry_in p) ≡ false
      → list_any is_stop (control_in p) ≡ false → list_any is_end (gate_in n p) ≡ false
  here g x y points (of_control q) stands going steps whole runs = seen_ends q (none_of_both (is_stop q) false runs).0
  here g x y points (of_link k p) stands going steps whole runs = refl
  here g x y points (of_plain k p) stands going steps whole runs = refl
  here g x y points (of_gate k (gateway.stopped why)) stands going steps whole runs = absurd steps.2
  here g x y points (of_gate k p) stands going steps whole runs = none_of_one is_end p (k == n) refl
  here g x y points (of_stream l k s w) stands going steps whole runs = none_of_one is_end (gateway_part l s w) (k == n) (by w)
    where
      by : (w : Shared) → is_end (gateway_part l s w) ≡ false
      by (asks authority) = refl
      by (tells heard begun) = refl
      by (puts waiting count) = refl
      by finishes = refl
      by (credits count) = refl
      by (drops begun) = refl
      by (completes begun note) = refl

  goes_on_so : (g : NodeConfig) (x : Machine) (points : List Point) → StandsFor g x points
      → list_any is_stop (control_of points) ≡ false → list_any is_end (gates_of n points) ≡ false
  goes_on_so g x points stands runs = none_told (gate_in n) (λ z. false) is_end here g x points stands (no_entry (entries points)) runs

pub mail_unrevoked : (g : NodeConfig) (x : Machine) (points : List Point) (n s : ℕ) → StandsFor g x points
    → list_any is_stop (control_of points) ≡ false → is_revoking_mail ((x.gates n).streams s).mail ≡ false
mail_unrevoked g x points n s stands runs =
    run_kept n (x.gates n) (gates_of n points) (gates_run g x points n stands) (goes_on_so n g x points stands runs) s
