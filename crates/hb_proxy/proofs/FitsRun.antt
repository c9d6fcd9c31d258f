-- What a gateway brings fits the ring of the link that it is brought to, in every run.
use Rattle.std.proofs.Common.{◌≡◌, inl, inr, ℕ, ◌≤◌, ◌==◌, Bool, true, false, List, Option, Some, None, refl, ap, sym, ◌∙◌, subst, arith}
use Rattle.std.proofs.lemmas.Bool.{cond_both, false≢true}
use Rattle.hb_base.specs.declared.cause.Cause.{Cause}
use Rattle.hb_base.specs.declared.cause.Cause.TheVariants as cause
use Rattle.hb_conn.specs.Connection.{Connection, Finds}
use Rattle.hb_conn.specs.Observed as observed
use Rattle.hb_conn.specs.Observed.{sides, creditable, aborted, data_put, end_put}
use Rattle.hb_conn.specs.declared.found.Found.{Found}
use Rattle.hb_gateway.proofs.Asking.{step_rises, number_above}
use Rattle.hb_gateway.proofs.Numbered.{data_of_used}
use Rattle.hb_gateway.proofs.Runs.{all_keep}
use Rattle.hb_gateway.specs.Connections.{conn_went}
use Rattle.hb_gateway.specs.Gateway.{Gateway, Stream, stage_of, at_stage, is_active, settled, request_of}
use Rattle.hb_gateway.specs.Hears.{hears, after, posted, all_hear}
use Rattle.hb_gateway.specs.Part.{Part, entry, dialled, lacked, looked, asks, tells, put, finished, credited, reset, dropped, done, stopped, moves, tellings, link_came}
use Rattle.hb_gateway.specs.Response.{Stage, unused, asked, carrying, failing, over, Heard}
use Rattle.hb_history.specs.Points as history
use Rattle.hb_hpack.specs.declared.header.Header.{Header}
use Rattle.hb_gateway.specs.Runs.{entered, Steps, StandsFor, begins, goes_on}
use Rattle.hb_kept.proofs.CreditableRuns.{looks_add_as}
use Rattle.hb_kept.proofs.Sides.{use_leaves_all, finds_sides}
use Rattle.hb_kept.specs.Numbers.{highest_used}
use Rattle.hb_streams.specs.declared.role.Role.TheVariants.{Client}
use Rattle.hb_world.specs.declared.entry.Entry.{Entry}
use Rattle.hb_world.specs.declared.entry.Entry.TheVariants as e
use Rattle.hb_captured.specs.Captured.{Captured}
use Rattle.hb_proxy.proofs.Closing.{EndsClosed, Pending, finds_closed, finds_ends, finds_pending}
use Rattle.hb_proxy.proofs.Fitting.{Follows, peer_same, write_follows, put_follows, end_follows, reset_follows, open_follows, Fit, FitBy, fit_follows, fit_dead, failed_fits, call_fits, looked_fits}
use Rattle.hb_proxy.proofs.Tunnels.{IsShared}

-- AN END THAT IS STILL TO BE TOLD is of a stream that was used, whose peer's side is closed
record EndsKnown (c : Connection) : Type 0 where
  closed : EndsClosed c
  used : (s : ℕ) → c.ended ≡ Some s → s ≤ highest_used c

-- where it was to be told before, and the stream's peer's side was closed
known_on : (c d : Connection) → d.ended ≡ c.ended → highest_used c ≤ highest_used d
    → ((s : ℕ) → s ≤ highest_used c → (sides d s).peer ≡ true → (sides c s).peer ≡ true) → EndsKnown c → EndsKnown d
known_on c d ended rises peer known = record {
  closed = λ s at.
      let was : c.ended ≡ Some s = sym ended ∙ at in
      not_open (sides d s).peer (λ is. false≢true (sym (known.closed s was) ∙ peer s (known.used s was) is));
  used = λ s at. let low = known.used s (sym ended ∙ at) in omega (arith, low, rises);
}
  where
    not_open : (b : Bool) → (b ≡ true → ⊥) → b ≡ false
    not_open true none = absurd (none refl)
    not_open false none = refl

known_follows : (c d : Connection) → d.ended ≡ c.ended → highest_used c ≤ highest_used d → ((s : ℕ) → Follows c d s) → EndsKnown c
    → EndsKnown d
known_follows c d ended rises follows known = known_on c d ended rises (λ s low is. (follows s is).0) known

module _ (g : ℕ) (x : Gateway) (parts : List Part) (stands : StandsFor g x parts) (known : EndsKnown x.conn) where
  -- a part that is no look
  module _ (p : Part) (y : Gateway) (steps : Steps g x p y) where
    on : (d : Connection) → y.conn ≡ d → (highest_used x.conn ≤ highest_used d → EndsKnown d) → EndsKnown y.conn
    on d is now =
        subst EndsKnown (sym is) (now (subst (λ (c : Connection). highest_used x.conn ≤ highest_used c) is (step_rises g x y p steps)))

    same : y.conn ≡ x.conn → EndsKnown y.conn
    same is = subst EndsKnown (sym is) known

    follows : (d : Connection) → y.conn ≡ d → d.ended ≡ x.conn.ended → ((s : ℕ) → Follows x.conn d s) → EndsKnown y.conn
    follows d is ended each = on d is (λ rises. known_follows x.conn d ended rises each known)

  call_known : (call : Entry) (y : Gateway) → Steps g x (entry call) y → EndsKnown y.conn
  call_known call y steps = by call steps
    where
      by : (call : Entry) → Steps g x (entry call) y → EndsKnown y.conn
      by (e.Went k bytes) steps =
          follows (entry (e.Went k bytes)) y steps _ (ap (λ (z : Gateway). z.conn) steps.1) refl (write_follows x.conn _)
      by (e.Came k bytes) steps =
          follows (entry (e.Came k bytes)) y steps _ (ap (λ (z : Gateway). z.conn) steps.1) refl (λ s is. (is, refl))
      by (e.Opened k) steps = same (entry (e.Opened k)) y steps (ap (λ (z : Gateway). z.conn) steps.1)
      by (e.Ended k) steps = same (entry (e.Ended k)) y steps (ap (λ (z : Gateway). z.conn) steps.1)
      by (e.Broke k) steps = same (entry (e.Broke k)) y steps (ap (λ (z : Gateway). z.conn) steps.1)
      by (e.Closed k why) steps = same (entry (e.Closed k why)) y steps (ap (λ (z : Gateway). z.conn) steps.1)
      by (e.Balked w) steps = same (entry (e.Balked w)) y steps (ap (λ (z : Gateway). z.conn) steps.1)
      by (e.Accepted k d) steps = absurd steps.0
      by (e.Dialled k to why) steps = absurd steps.0
      by (e.DialFailed to why) steps = absurd steps.0
      by (e.Shut k) steps = absurd steps.0
      by e.Tick steps = absurd steps.0
      by (e.Wait ready how) steps = absurd steps.0

  looks_known : (ps : List history.Point) (told : Found) (headers : List Header) (y : Gateway) → Steps g x (looked ps told headers) y
      → EndsKnown y.conn
  looks_known ps told headers y steps = subst EndsKnown (sym (ap (λ (z : Gateway). z.conn) steps.6)) (record {
    closed = finds_ends x.conn steps.3 told steps.4.finds known.closed;
    used = λ s at. by s at (finds_pending x.conn steps.3 told s steps.4.finds at);
  })
    where
      by : (s : ℕ) → steps.3.ended ≡ Some s → Pending x.conn steps.3 told s → s ≤ highest_used steps.3
      by s at (inl same) = subst (λ (c : Connection). c.ended ≡ Some s → s ≤ highest_used c) (sym same) (known.used s) at
      by s at (inr is) =
          data_of_used (moves parts) (tellings parts) (link_came parts) (conn_went parts) x.conn steps.3 s true
          (all_keep g x parts stands).stands (subst (λ (t : Found). Finds x.conn steps.3 t) is steps.4.finds)

  step_known : (p : Part) (y : Gateway) → Steps g x p y → EndsKnown y.conn
  step_known (entry call) y steps = call_known call y steps
  step_known (dialled call key) y steps = same (dialled call key) y steps (ap (λ (z : Gateway). z.conn) steps.1)
  step_known lacked y steps = same lacked y steps (ap (λ (z : Gateway). z.conn) steps.1)
  step_known (looked ps told headers) y steps = looks_known ps told headers y steps
  step_known (asks k captured authority) y steps =
      let d = observed.opened x.conn k (request_of authority) false in
      on (asks k captured authority) y steps d (ap (λ (z : Gateway). z.conn) steps.2)
      (λ rises. known_on x.conn d refl rises
      (λ s low is. (open_follows x.conn k (request_of authority) steps.1 s
      (λ same_one. let above = number_above x.conn k steps.1 in omega (arith, low, above, same_one)) is).0)
      known)
  step_known (tells k heard begun) y steps = same (tells k heard begun) y steps (ap (λ (z : Gateway). z.conn) steps.2)
  step_known (put k bytes count) y steps =
      follows (put k bytes count) y steps (data_put x.conn k bytes) (ap (λ (z : Gateway). z.conn) steps.4) refl (put_follows x.conn k bytes)
  step_known (finished k) y steps =
      follows (finished k) y steps (end_put x.conn k) (ap (λ (z : Gateway). z.conn) steps.3) refl (end_follows x.conn k)
  step_known (credited k n) y steps =
      let d = observed.credited x.conn k n in
      on (credited k n) y steps d (ap (λ (z : Gateway). z.conn) steps.2)
      (λ rises. known_on x.conn d refl rises (λ s low. peer_same x.conn d s (use_leaves_all x.conn k n s)) known)
  step_known (reset k code) y steps =
      follows (reset k code) y steps (aborted x.conn k code) (ap (λ (z : Gateway). z.conn) steps.2) refl (reset_follows x.conn k code)
  step_known (dropped k begun) y steps = same (dropped k begun) y steps (ap (λ (z : Gateway). z.conn) steps.3)
  step_known (done k begun) y steps = same (done k begun) y steps (ap (λ (z : Gateway). z.conn) steps.3)
  step_known (stopped why) y steps = same (stopped why) y steps (ap (λ (z : Gateway). z.conn) steps.1)

ends_known : (g : ℕ) (x : Gateway) (parts : List Part) → StandsFor g x parts → EndsKnown x.conn
ends_known g x parts (begins is none) =
    subst (λ (z : Gateway). EndsKnown z.conn) (sym is)
    (record { closed = λ s at. absurd (let no : None ≡ Some s = at in cc); used = λ s at. absurd (let no : None ≡ Some s = at in cc) })
ends_known g y more (goes_on {x = x} {parts = parts} stands p steps are) =
    step_known g x parts stands (ends_known g x parts stands) p y steps

-- WHAT A LINK TO A GATEWAY DOES BY ITSELF

-- a stream that was to be reset is over where no side of it is open
settled_fit : (active : Bool) (d : Connection) (s : ℕ) (stage : Stage) (mail : Option Heard) (q : Captured) → FitBy d s stage mail q
    → FitBy d s (settled active stage) mail q
settled_fit true d s stage mail q fit = fit
settled_fit false d s unused mail q fit = fit
settled_fit false d s asked mail q fit = fit
settled_fit false d s carrying mail q fit = fit
settled_fit false d s (failing code) mail q fit = fit_dead d d s (failing code) over mail q refl fit
settled_fit false d s over mail q fit = fit

module _ (n : ℕ) (x : Gateway) (parts : List Part) (stands : StandsFor n x parts) (s : ℕ) (q : Captured)
    (fit : Fit x.conn s (x.streams s) q) where
  -- behind what it hears
  abbrev Heard_fit : Part → Connection → Type 0
  Heard_fit p d = Fit d s ((all_hear p x).streams s) q

  entered_fit : (call : Entry) → Heard_fit (entry call) x.conn
      → Fit (entered call (all_hear (entry call) x)).conn s ((entered call (all_hear (entry call) x)).streams s) q
  entered_fit (e.Went k bytes) now = fit_follows x.conn _ s _ _ q (write_follows x.conn _ s) now
  entered_fit (e.Came k bytes) now = fit_follows x.conn _ s _ _ q (λ is. (is, refl)) now
  entered_fit (e.Opened k) now = now
  entered_fit (e.Ended k) now = now
  entered_fit (e.Broke k) now = now
  entered_fit (e.Closed k why) now = now
  entered_fit (e.Balked w) now = now
  entered_fit (e.Accepted k d) now = now
  entered_fit (e.Dialled k to why) now = now
  entered_fit (e.DialFailed to why) now = now
  entered_fit (e.Shut k) now = now
  entered_fit e.Tick now = now
  entered_fit (e.Wait ready how) now = now

  looked_fit : (ps : List history.Point) (told : Found) (headers : List Header) (y : Gateway)
      → (steps : Steps n x (looked ps told headers) y) → Heard_fit (looked ps told headers) steps.3
  looked_fit ps told headers y steps =
      let t = x.streams s in
      let none : t.mail ≡ None = steps.2 s in
      let stands_now = (all_keep n x parts stands).stands in
      let heard = hears x (looked ps told headers) s in
      subst (λ (m : Option Heard). FitBy steps.3 s (after (looked ps told headers) t.stage heard) (posted heard m) q) (sym none)
      (looked_fits x.conn steps.3 s ps headers (ends_known n x parts stands).closed q t.stage told
      (looks_add_as Client (moves parts) ps (tellings parts) (link_came parts) (conn_went parts) x.conn steps.3 told stands_now steps.4)
      (finds_sides x.conn steps.3 told steps.4.finds) (finds_closed x.conn steps.3 told steps.4.finds) steps.4.hands_out
      (subst (λ (m : Option Heard). FitBy x.conn s t.stage m q) none fit))

  pub own_fits : (p : Part) (y : Gateway) → Steps n x p y → (IsShared p → ⊥) → Fit y.conn s (y.streams s) q
  own_fits (entry call) y steps own =
      subst (λ (z : Gateway). Fit z.conn s (z.streams s) q) (sym steps.1)
      (entered_fit call (call_fits x.conn s x.phase call (stage_of x s) (x.streams s).mail q fit))
  own_fits (dialled call key) y steps own = subst (λ (z : Gateway). Fit z.conn s (z.streams s) q) (sym steps.1) fit
  own_fits lacked y steps own =
      subst (λ (z : Gateway). Fit z.conn s (z.streams s) q) (sym steps.1)
      (failed_fits x.conn x.conn s lacked (x.streams s).mail q cause.NoMemory (stage_of x s) fit)
  own_fits (looked ps told headers) y steps own =
      subst (λ (z : Gateway). Fit z.conn s (z.streams s) q) (sym steps.6)
      (settled_fit (is_active steps.3 s) steps.3 s (stage_of (all_hear (looked ps told headers) x) s)
      ((all_hear (looked ps told headers) x).streams s).mail q (looked_fit ps told headers y steps))
  own_fits (reset k code) y steps own =
      subst (λ (z : Gateway). Fit z.conn s (z.streams s) q) (sym steps.2)
      (cond_both (s == k) (at_stage over (x.streams s)) (x.streams s) (λ (t : Stream). Fit (aborted x.conn k code) s t q)
      (λ same. fit_dead x.conn (aborted x.conn k code) s (stage_of x s) over (x.streams s).mail q refl fit)
      (λ apart. fit_follows x.conn (aborted x.conn k code) s (stage_of x s) (x.streams s).mail q (reset_follows x.conn k code s) fit))
  own_fits (stopped why) y steps own =
      subst (λ (z : Gateway). Fit z.conn s (z.streams s) q) (sym steps.1) (stopped_fits why)
    where
      stopped_fits : (why : Cause) → Fit x.conn s ((all_hear (stopped why) x).streams s) q
      stopped_fits why = failed_fits x.conn x.conn s (stopped why) (x.streams s).mail q why (stage_of x s) fit
  own_fits (asks k captured authority) y steps own = absurd (own tt)
  own_fits (tells k heard begun) y steps own = absurd (own tt)
  own_fits (put k bytes count) y steps own = absurd (own tt)
  own_fits (finished k) y steps own = absurd (own tt)
  own_fits (credited k m) y steps own = absurd (own tt)
  own_fits (dropped k begun) y steps own = absurd (own tt)
  own_fits (done k begun) y steps own = absurd (own tt)
