-- An end of a gateway's side that is still to be told is of a stream on which bytes came: a status came in front of them, or its tunnel
-- ended.
use Rattle.std.proofs.Common.{◌≡◌, ◌⊎◌, inl, inr, ℕ, ◌≤◌, ◌==◌, ◌&&◌, Bool, true, false, cond, List, Option, Some, None, refl, ap, sym, ◌∙◌, subst, arith}
use Rattle.std.specs.List.{flat_map}
use Rattle.std.proofs.lemmas.Bool.{cond_both, eq-eqb, ne_eqb}
use Rattle.hb_base.specs.declared.cause.Cause.{Cause}
use Rattle.hb_conn.specs.Connection.{Connection, Finds, FindsWhile, FindsOf, FindsAfter, FindsBy, ended_by}
use Rattle.hb_conn.specs.Observed.{is_paused}
use Rattle.hb_conn.specs.Preface.{is_whole}
use Rattle.hb_conn.specs.declared.found.Found.{Found}
use Rattle.hb_conn.specs.declared.found.Found.TheVariants as found
use Rattle.hb_history.specs.Points as history
use Rattle.hb_history.specs.Points.{data_in}
use Rattle.hb_hpack.specs.declared.header.Header.{Header}
use Rattle.hb_kept.specs.Numbers.{highest_used}
use Rattle.hb_world.specs.declared.entry.Entry.{Entry}
use Rattle.hb_world.specs.declared.entry.Entry.TheVariants as e
use Rattle.hb_gateway.specs.Gateway.{Gateway, Stream, no_stream, stage_of, at_stage, at_stream, is_active, settled, asked_on, carries, dropped_to}
use Rattle.hb_gateway.specs.Hears.{hears, after, left_behind, all_hear}
use Rattle.hb_gateway.specs.Part.{Part, entry, dialled, lacked, looked, asks, tells, put, finished, credited, reset, dropped, done, stopped}
use Rattle.hb_gateway.specs.Response.{Stage, Heard, unused, asked, carrying, failing, over, cancel, opens, brings, ends, fails, brought, left_by}
use Rattle.hb_gateway.specs.Runs.{entered, Steps, StandsFor, begins, goes_on}
use Rattle.hb_gateway.proofs.Asking.{call_streams, number_above, step_rises}
use Rattle.hb_gateway.proofs.Numbered.{data_of_used}
use Rattle.hb_gateway.proofs.Runs.{all_keep}

abbrev pub is_asked : Stage → Bool
is_asked asked = true
is_asked stage = false

-- of what is heard no stream gets asked

left_unasked : (told : Found) (why : Cause) → is_asked (left_by told why) ≡ false
left_unasked found.Silent why = refl
left_unasked (found.Opened s end) why = refl
left_unasked (found.Chunk s end) why = refl
left_unasked (found.Ended s) why = refl
left_unasked (found.Reset s code) why = refl
left_unasked (found.Broken s code) why = refl
left_unasked (found.GoneAway last) why = refl
left_unasked (found.Fault code) why = refl

after_unasked : (p : Part) (stage : Stage) (heard : Option Heard) → ((why : Cause) → is_asked (left_behind p why) ≡ false)
    → is_asked stage ≡ false → is_asked (after p stage heard) ≡ false
after_unasked p stage None left is = is
after_unasked p stage (Some (opens end)) left is = refl
after_unasked p stage (Some (brings bytes)) left is = is
after_unasked p stage (Some ends) left is = is
after_unasked p stage (Some (fails why)) left is = left why

settled_unasked : (active : Bool) (stage : Stage) → is_asked stage ≡ false → is_asked (settled active stage) ≡ false
settled_unasked true stage is = is
settled_unasked false unused is = is
settled_unasked false asked is = is
settled_unasked false carrying is = is
settled_unasked false (failing code) is = refl
settled_unasked false over is = is

-- behind bytes none is
brought_unasked : (ps : List history.Point) (s : ℕ) (end : Bool) (headers : List Header) (bytes : List ℕ) (stage : Stage)
    → is_asked (after (looked ps (found.Chunk s end) headers) stage (brought stage bytes)) ≡ false
brought_unasked ps s end headers bytes unused = refl
brought_unasked ps s end headers bytes asked = refl
brought_unasked ps s end headers bytes carrying = refl
brought_unasked ps s end headers bytes (failing code) = refl
brought_unasked ps s end headers bytes over = refl

-- an end that is to be told behind what is found was to be told before, or is that of the bytes which are told

some_end : (told : Found) (s : ℕ) → ended_by told ≡ Some s → told ≡ found.Chunk s true
some_end (found.Chunk k true) s is = ap (λ (n : ℕ). found.Chunk n true) (let same : k ≡ s = cc in same)
some_end (found.Chunk k false) s is = absurd (cc)
some_end found.Silent s is = absurd (cc)
some_end (found.Opened k end) s is = absurd (cc)
some_end (found.Ended k) s is = absurd (cc)
some_end (found.Reset k code) s is = absurd (cc)
some_end (found.Broken k code) s is = absurd (cc)
some_end (found.GoneAway last) s is = absurd (cc)
some_end (found.Fault code) s is = absurd (cc)

module _ (c d : Connection) (told : Found) (s : ℕ) (is : d.ended ≡ Some s) where
  abbrev WasOrIs : Type 0
  WasOrIs = (c.ended ≡ Some s) ⊎ (told ≡ found.Chunk s true)

  same : d ≡ c → WasOrIs
  same still = inl (sym (ap (λ (k : Connection). k.ended) still) ∙ is)

  end_by : (b : Bool) → FindsBy b c d told → WasOrIs
  end_by true finds = inr (some_end told s (sym finds.2 ∙ is))
  end_by false finds = inl (sym (ap (λ (k : Connection). k.ended) finds.1) ∙ is)

  end_after : (b : Bool) → FindsAfter b c d told → WasOrIs
  end_after true finds = end_by c.preface.same finds
  end_after false finds = same finds.0

  end_of : (o : Option ℕ) → FindsOf o c d told → WasOrIs
  end_of (Some k) finds = absurd (let never : None ≡ Some s = sym (ap (λ (k : Connection). k.ended) finds.0) ∙ is in cc)
  end_of None finds = end_after (is_whole c.preface) finds

  end_while : (paused : Bool) → FindsWhile paused c d told → WasOrIs
  end_while true finds = same finds.0
  end_while false finds = end_of c.ended finds

end_found : (c d : Connection) (told : Found) (s : ℕ) → d.ended ≡ Some s → Finds c d told
    → (c.ended ≡ Some s) ⊎ (told ≡ found.Chunk s true)
end_found c d told s is finds = end_while c d told s is (is_paused c) finds

call_ended : (call : Entry) (x : Gateway) → (entered call x).conn.ended ≡ x.conn.ended
call_ended (e.Accepted k door) x = refl
call_ended (e.Dialled k to why) x = refl
call_ended (e.DialFailed to why) x = refl
call_ended (e.Opened k) x = refl
call_ended (e.Came k bytes) x = refl
call_ended (e.Ended k) x = refl
call_ended (e.Broke k) x = refl
call_ended (e.Went k bytes) x = refl
call_ended (e.Balked how) x = refl
call_ended (e.Shut k) x = refl
call_ended (e.Closed k why) x = refl
call_ended e.Tick x = refl
call_ended (e.Wait ready how) x = refl

-- THE INVARIANT: of such a stream no status is waited for, and it was used
abbrev pub EndIsKnown : Gateway → Type 0
EndIsKnown x = (s : ℕ) → x.conn.ended ≡ Some s → (is_asked (stage_of x s) ≡ false) × (s ≤ highest_used x.conn)

dropped_unasked : (s : ℕ) (x : Gateway) → is_asked (dropped_to s x) ≡ false
dropped_unasked s x =
    cond_both (carries x.phase && is_active x.conn s) (failing cancel) over (λ (t : Stage). is_asked t ≡ false) (λ is. refl) (λ is. refl)

module _ (g : ℕ) (x y : Gateway) (parts : List Part) (stands : StandsFor g x parts) (known : EndIsKnown x) where
  -- behind a step that makes this of the link, with which no stream gets asked, and no end is to be told anew
  leaves : (p : Part) → Steps g x p y → (z : Gateway) → y ≡ z → z.conn.ended ≡ x.conn.ended
      → ((s : ℕ) → is_asked (stage_of x s) ≡ false → s ≤ highest_used x.conn → is_asked (stage_of z s) ≡ false) → EndIsKnown y
  leaves p steps z is same unasked s now =
      let was = known s (sym same ∙ sym (ap (λ (w : Gateway). w.conn.ended) is) ∙ now) in
      let rises = step_rises g x y p steps in (
        ap (λ (w : Gateway). is_asked (stage_of w s)) is ∙ unasked s was.0 was.1,
        omega (arith, rises, was.1),
      )

  -- the stream k is at another stage
  at_other : (k : ℕ) (change : Stream → Stream) → ((t : Stream) → is_asked t.stage ≡ false → is_asked (change t).stage ≡ false) → (s : ℕ)
      → is_asked (stage_of x s) ≡ false → is_asked (stage_of (at_stream k change x) s) ≡ false
  at_other k change unasked s was =
      cond_both (s == k) (change (x.streams s)) (x.streams s) (λ (t : Stream). is_asked t.stage ≡ false)
      (λ here. unasked (x.streams s) was) (λ apart. was)

  -- frames are looked at
  looks_known : (ps : List history.Point) (told : Found) (headers : List Header) → Steps g x (looked ps told headers) y → EndIsKnown y
  looks_known ps told headers steps s now =
      by (end_found x.conn steps.3 told s (sym (ap (λ (w : Gateway). w.conn.ended) steps.6) ∙ now) steps.4.finds)
    where
      rises : highest_used x.conn ≤ highest_used y.conn
      rises = step_rises g x y (looked ps told headers) steps

      is_behind : is_asked (after (looked ps told headers) (stage_of x s) (hears x (looked ps told headers) s)) ≡ false
          → is_asked (stage_of y s) ≡ false
      is_behind is =
          ap (λ (w : Gateway). is_asked (stage_of w s)) steps.6
          ∙ settled_unasked (is_active steps.3 s) (stage_of (all_hear (looked ps told headers) x) s) is

      chunk : told ≡ found.Chunk s true
          → is_asked (after (looked ps told headers) (stage_of x s) (hears x (looked ps told headers) s)) ≡ false
      chunk is =
          ap (λ (f : Found). is_asked (after (looked ps f headers) (stage_of x s) (hears x (looked ps f headers) s))) is
          ∙ ap (λ (b : Bool). is_asked (after (looked ps (found.Chunk s true) headers) (stage_of x s)
          (cond b (brought (stage_of x s) (flat_map data_in ps)) None))) (eq-eqb s s refl)
          ∙ brought_unasked ps s true headers (flat_map data_in ps) (stage_of x s)

      used : told ≡ found.Chunk s true → s ≤ highest_used y.conn
      used is =
          subst (λ (w : Connection). s ≤ highest_used w) (sym (ap (λ (w : Gateway). w.conn) steps.6))
          (data_of_used _ _ _ _ x.conn steps.3 s true (all_keep g x parts stands).stands
          (subst (λ (f : Found). Finds x.conn steps.3 f) is steps.4.finds))

      by : (x.conn.ended ≡ Some s) ⊎ (told ≡ found.Chunk s true) → (is_asked (stage_of y s) ≡ false) × (s ≤ highest_used y.conn)
      by (inl was) =
          let old = known s was in
          let p = looked ps told headers in
          (is_behind (after_unasked p (stage_of x s) (hears x p s) (left_unasked told) old.0), omega (arith, rises, old.1))
      by (inr is) = (is_behind (chunk is), used is)

  step_known : (p : Part) → Steps g x p y → EndIsKnown y
  step_known (entry call) steps =
      leaves (entry call) steps (entered call (all_hear (entry call) x)) steps.1 (call_ended call (all_hear (entry call) x))
      (λ s was low. ap is_asked (call_streams call (all_hear (entry call) x) s)
      ∙ after_unasked (entry call) (stage_of x s) (hears x (entry call) s) (λ why. refl) was)
  step_known (dialled call key) steps = leaves (dialled call key) steps _ steps.1 refl (λ s was low. was)
  step_known lacked steps =
      leaves lacked steps _ steps.1 refl (λ s was low. after_unasked lacked (stage_of x s) (hears x lacked s) (λ why. refl) was)
  step_known (looked ps told headers) steps = looks_known ps told headers steps
  step_known (asks k captured authority) steps =
      leaves (asks k captured authority) steps (asked_on k captured authority x) steps.2 refl
      (λ s was low. let above = number_above x.conn k steps.1 in
      let apart : (s == k) ≡ false = ne_eqb s k (λ same. absurd (omega (arith, above, low, same))) in
      ap (λ (b : Bool). is_asked (cond b (record no_stream { stage = asked; captured = captured }) (x.streams s)).stage) apart ∙ was)
  step_known (tells k heard begun) steps =
      leaves (tells k heard begun) steps _ steps.2 refl (λ s was low. at_other k (λ t. record t { mail = None }) (λ t is. is) s was)
  step_known (put k bytes count) steps = leaves (put k bytes count) steps _ steps.4 refl (λ s was low. was)
  step_known (finished k) steps = leaves (finished k) steps _ steps.3 refl (λ s was low. was)
  step_known (credited k n) steps = leaves (credited k n) steps _ steps.2 refl (λ s was low. was)
  step_known (reset k code) steps =
      leaves (reset k code) steps _ steps.2 refl (λ s was low. at_other k (at_stage over) (λ t is. refl) s was)
  step_known (dropped k begun) steps =
      leaves (dropped k begun) steps _ steps.3 refl
      (λ s was low. at_other k (at_stage (dropped_to k x)) (λ t is. dropped_unasked k x) s was)
  step_known (done k begun) steps =
      leaves (done k begun) steps _ steps.3 refl (λ s was low. at_other k (at_stage over) (λ t is. refl) s was)
  step_known (stopped why) steps =
      leaves (stopped why) steps _ steps.1 refl
      (λ s was low. after_unasked (stopped why) (stage_of x s) (hears x (stopped why) s) (λ cause. refl) was)

pub all_known : (g : ℕ) (x : Gateway) (parts : List Part) → StandsFor g x parts → EndIsKnown x
all_known g x parts (begins is none) =
    subst EndIsKnown (sym is) (λ s now. absurd (let never : None ≡ Some s = now in cc))
all_known g y more (goes_on {x = x} {parts = parts} before p steps grows) =
    step_known g x y parts before (all_known g x parts before) p steps
