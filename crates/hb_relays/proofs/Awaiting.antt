-- While a link waits for its tunnel to be open, its stream doesn't carry bytes, or the link is still to be told that it does; in every run.
use Rattle.std.proofs.Common.{◌≡◌, ◌≢◌, ◌⊎◌, inl, inr, ℕ, ◌==◌, ◌&&◌, Bool, true, false, cond, List, Option, Some, None, refl, ap, sym, ◌∙◌, subst}
use Rattle.std.proofs.lemmas.Bool.{cond_both, eqb-true, eq-eqb, false≢true}
use Rattle.hb_base.specs.declared.cause.Cause.{Cause}
use Rattle.hb_base.specs.declared.cause.Cause.TheVariants as cause
use Rattle.hb_captured.proofs.Streamed.{Streamed, said, road_of, never, has, was_left, MayStream, all_streamed}
use Rattle.hb_captured.specs.Captured as captured
use Rattle.hb_captured.specs.Captured.{Captured, is_raw, judges, is_judged, ends_by, hung_up, came_by, entered, up_entered, left_by, judged_by, rejudged, told_by}
use Rattle.hb_captured.specs.Part as part
use Rattle.hb_captured.specs.Part.{Part}
use Rattle.hb_captured.specs.Runs.{MayGo, MayHear, UpMayCome, next_link}
use Rattle.hb_conn.specs.declared.found.Found.{Found}
use Rattle.hb_conn.specs.declared.found.Found.TheVariants as found
use Rattle.hb_gateway.specs.Calm.{AllTold}
use Rattle.hb_gateway.specs.Gateway.{Gateway, Phase, Stream, carries, no_stream, asked_on, at_stage, stage_of, settled, is_active, dropped_to}
use Rattle.hb_gateway.specs.Gateway as machine
use Rattle.hb_gateway.specs.Hears.{left_behind, after, all_hear, hears, posted}
use Rattle.hb_gateway.specs.Part as gateway
use Rattle.hb_gateway.specs.Response as response
use Rattle.hb_gateway.specs.Response.{Stage, unused, asked, carrying, failing, over, Heard, opens, brings, fails}
use Rattle.hb_gateway.specs.Runs as gateways
use Rattle.hb_gateway.specs.Runs.{IsWritable, Lacks, MayCome}
use Rattle.hb_held.specs.Held.{Resources}
use Rattle.hb_held.specs.Outcome.{after_response}
use Rattle.hb_model.specs.Point as point
use Rattle.hb_model.specs.declared.config.NodeConfig.{NodeConfig}
use Rattle.hb_table.specs.Judgement.{judged}
use Rattle.hb_table.specs.declared.judgement.Judged.{Judged}
use Rattle.hb_table.specs.declared.judgement.Judged.TheVariants.{Admitted, Unknown, Denied}
use Rattle.hb_world.specs.declared.entry.Entry.{Entry}
use Rattle.hb_world.specs.declared.entry.Entry.TheVariants as e
use Rattle.hb_world.specs.declared.entry.Way.TheVariants as way
use Rattle.hb_proxy.proofs.Plain.{plain_runs}
use Rattle.hb_proxy.proofs.Streams.{PlainKeeps, part_keeps, seen_keeps, runs_agree}
use Rattle.hb_proxy.specs.Held.{at_start}
use Rattle.hb_proxy.specs.Machine.{Machine, plain_local, with_control, plain_seen_by, gate_seen_by}
use Rattle.hb_proxy.specs.Points.{Point, of_control, of_link, of_plain, of_gate, of_stream, plain_of}
use Rattle.hb_proxy.specs.Runs.{ControlGuard, GateGuard, PlainGuard, IsStreamOf, StreamGuard, Steps, StandsFor, begins, goes_on}
use Rattle.hb_proxy.specs.Shared.{Shared, asks, tells, puts, finishes, credits, drops, completes, captured_part, gateway_part}

-- A STREAM THAT CARRIES BYTES, of which the tunnel is still to be told that it is open
abbrev pub is_opens : Option Heard → Bool
is_opens (Some (opens end)) = true
is_opens _ = false

abbrev pub is_carrying : Stage → Bool
is_carrying carrying = true
is_carrying stage = false

abbrev WaitsBy : Stage → Option Heard → Type 0
WaitsBy stage mail = is_carrying stage ≡ true → is_opens mail ≡ true

abbrev Waits : Stream → Type 0
Waits t = WaitsBy t.stage t.mail

-- WHAT A LINK TO A GATEWAY HEARS
left_dead : (p : gateway.Part) (why : Cause) → is_carrying (left_behind p why) ≡ false
left_dead (gateway.looked ps told headers) why = by told
  where
    by : (told : Found) → is_carrying (response.left_by told why) ≡ false
    by (found.Reset s code) = refl
    by (found.Broken s code) = refl
    by (found.Fault code) = refl
    by (found.GoneAway last) = refl
    by other = refl
left_dead p why = refl

hear_waits : (p : gateway.Part) (a : Stage) (heard mail : Option Heard) → mail ≡ None → WaitsBy a mail
    → WaitsBy (after p a heard) (posted heard mail)
hear_waits p a None mail none waits = waits
hear_waits p a (Some (opens end)) mail none waits = λ is. refl
hear_waits p a (Some (brings bytes)) mail none waits = λ is. absurd (false≢true (sym (ap is_opens none) ∙ waits is))
hear_waits p a (Some response.ends) mail none waits = λ is. absurd (false≢true (sym (ap is_opens none) ∙ waits is))
hear_waits p a (Some (fails why)) mail none waits = λ is. absurd (false≢true (sym (left_dead p why) ∙ is))

all_heard : (p : gateway.Part) (x : Gateway) (s : ℕ) → AllTold x → Waits (x.streams s) → Waits ((all_hear p x).streams s)
all_heard p x s told waits = hear_waits p (stage_of x s) (hears x p s) (x.streams s).mail (told s) waits

settled_waits : (active : Bool) (stage : Stage) (mail : Option Heard) → WaitsBy stage mail → WaitsBy (settled active stage) mail
settled_waits true stage mail waits = waits
settled_waits false unused mail waits = waits
settled_waits false asked mail waits = waits
settled_waits false carrying mail waits = waits
settled_waits false (failing code) mail waits = λ is. absurd (false≢true is)
settled_waits false over mail waits = waits

-- where an entry comes each tunnel was told
writable_told : (x : Gateway) → IsWritable x → AllTold x
writable_told x (inl quiet) = quiet.0.calm.0
writable_told x (inr faulted) = faulted.0.0

pub come_told : (g : ℕ) (x : Gateway) (call : Entry) → MayCome g x call → AllTold x
come_told g x (e.Opened k) may = may.1.0.calm.0
come_told g x (e.Came k bytes) may = may.1.0.0.calm.0
come_told g x (e.Ended k) may = may.1.0.0.calm.0
come_told g x (e.Went k bytes) may = writable_told x may.1
come_told g x (e.Broke k) may = by may.1
  where
    by : gateways.IsQuietAt machine.opening x ⊎ IsWritable x → AllTold x
    by (inl quiet) = quiet.0.calm.0
    by (inr writable) = writable_told x writable
come_told g x (e.Closed k why) may = may.1.0
come_told g x (e.Balked (way.Finish k)) may = may.1.0.calm.0
come_told g x (e.Balked (way.Read k)) may = may.1.0.0.calm.0
come_told g x (e.Balked (way.Write k)) may = writable_told x may.1
come_told g x call may = absurd may

pub lacks_told : (phase : Phase) (x : Gateway) → Lacks phase x → AllTold x
lacks_told machine.serving x lacks = lacks.0
lacks_told phase x lacks = absurd lacks

entered_waits : (call : Entry) (z : Gateway) (s : ℕ) → Waits (z.streams s) → Waits ((gateways.entered call z).streams s)
entered_waits (e.Opened k) z s waits = waits
entered_waits (e.Came k bytes) z s waits = waits
entered_waits (e.Ended k) z s waits = waits
entered_waits (e.Went k bytes) z s waits = waits
entered_waits (e.Broke k) z s waits = waits
entered_waits (e.Closed k why) z s waits = waits
entered_waits call z s waits = waits

-- of one stream that becomes this, and of the others
one_waits : (x : Gateway) (k s : ℕ) (stage : Stage) → is_carrying stage ≡ false → Waits (x.streams s)
    → Waits (cond (s == k) (at_stage stage (x.streams s)) (x.streams s))
one_waits x k s stage dead waits = by (s == k)
  where
    by : (b : Bool) → Waits (cond b (at_stage stage (x.streams s)) (x.streams s))
    by true = λ is. absurd (false≢true (sym dead ∙ is))
    by false = waits

dropped_dead : (k : ℕ) (x : Gateway) → is_carrying (dropped_to k x) ≡ false
dropped_dead k x = by (carries x.phase && is_active x.conn k)
  where
    by : (b : Bool) → is_carrying (cond b (failing response.cancel) over) ≡ false
    by true = refl
    by false = refl

-- EVERY STEP OF A LINK TO A GATEWAY, but that of what a tunnel is told on this stream
abbrev IsElsewhere : ℕ → gateway.Part → Type 0
IsElsewhere s (gateway.tells k heard begun) = s ≢ k
IsElsewhere s p = Unit {0}

gate_waits : (g : ℕ) (x y : Gateway) (s : ℕ) (p : gateway.Part) → gateways.Steps g x p y → IsElsewhere s p → Waits (x.streams s)
    → Waits (y.streams s)
gate_waits g x y s p steps far waits = by p steps far
  where
    on : (z : Gateway) → y ≡ z → Waits (z.streams s) → Waits (y.streams s)
    on z is had = subst (λ (w : Gateway). Waits (w.streams s)) (sym is) had

    by : (p : gateway.Part) → gateways.Steps g x p y → IsElsewhere s p → Waits (y.streams s)
    by (gateway.entry call) steps far =
        on _ steps.1 (entered_waits call (all_hear (gateway.entry call) x) s
        (all_heard (gateway.entry call) x s (come_told g x call steps.0) waits))
    by (gateway.dialled call key) steps far = on _ steps.1 waits
    by gateway.lacked steps far = on _ steps.1 (all_heard gateway.lacked x s (lacks_told x.phase x steps.0) waits)
    by (gateway.looked ps told headers) steps far =
        on _ steps.6
        (settled_waits (is_active steps.3 s) (stage_of (all_hear (gateway.looked ps told headers) x) s)
        ((all_hear (gateway.looked ps told headers) x).streams s).mail
        (all_heard (gateway.looked ps told headers) x s steps.2 waits))
    by (gateway.asks k link authority) steps far = on _ steps.2 (asked_so (s == k))
      where
        asked_so : (b : Bool) → Waits (cond b (record no_stream { stage = asked; captured = link }) (x.streams s))
        asked_so true = λ is. absurd (false≢true is)
        asked_so false = waits
    by (gateway.tells k heard begun) steps far = on _ steps.2 (told_so (s == k) refl)
      where
        told_so : (b : Bool) → (s == k) ≡ b → Waits (cond b (record (x.streams s) { mail = None }) (x.streams s))
        told_so true here = absurd (far (eqb-true s k here))
        told_so false here = waits
    by (gateway.put k bytes count) steps far = on _ steps.4 waits
    by (gateway.finished k) steps far = on _ steps.3 waits
    by (gateway.credited k n) steps far = on _ steps.2 waits
    by (gateway.reset k code) steps far = on _ steps.2 (one_waits x k s over refl waits)
    by (gateway.dropped k begun) steps far = on _ steps.3 (one_waits x k s (dropped_to k x) (dropped_dead k x) waits)
    by (gateway.done k begun) steps far = on _ steps.3 (one_waits x k s over refl waits)
    by (gateway.stopped why) steps far = on _ steps.1 (all_heard (gateway.stopped why) x s steps.0 waits)

-- A LINK WAITS only where it did
abbrev pub is_opening : captured.Stage → Bool
is_opening captured.opening = true
is_opening stage = false

ends_late : (why : Cause) (stage : captured.Stage) → is_opening (ends_by why stage) ≡ true → ⊥
ends_late why captured.unborn is = false≢true is
ends_late why captured.arriving is = false≢true is
ends_late why captured.fronting is = false≢true is
ends_late why captured.due is = false≢true is
ends_late why captured.opening is = false≢true is
ends_late why captured.accepting is = false≢true is
ends_late why captured.live is = false≢true is
ends_late why (captured.failed first) is = false≢true is
ends_late why (captured.ended first) is = false≢true is
ends_late why (captured.over first) is = false≢true is

hung_late : (stage : captured.Stage) → is_opening (hung_up stage) ≡ true → is_opening stage ≡ true
hung_late captured.fronting is = absurd (false≢true is)
hung_late captured.unborn is = is
hung_late captured.arriving is = is
hung_late captured.due is = is
hung_late captured.opening is = is
hung_late captured.accepting is = is
hung_late captured.live is = is
hung_late (captured.failed why) is = is
hung_late (captured.ended why) is = is
hung_late (captured.over why) is = is

left_late : (stage : captured.Stage) → is_opening (left_by stage) ≡ true → is_opening stage ≡ true
left_late (captured.failed why) is = absurd (false≢true is)
left_late (captured.ended why) is = absurd (false≢true is)
left_late captured.fronting is = is
left_late captured.unborn is = is
left_late captured.arriving is = is
left_late captured.due is = is
left_late captured.opening is = is
left_late captured.accepting is = is
left_late captured.live is = is
left_late (captured.over why) is = is

came_stage : (stage : captured.Stage) (bytes : List ℕ) (x : Captured) → (came_by stage bytes x).stage ≡ x.stage
came_stage captured.fronting bytes x = refl
came_stage captured.unborn bytes x = refl
came_stage captured.arriving bytes x = refl
came_stage captured.due bytes x = refl
came_stage captured.opening bytes x = refl
came_stage captured.accepting bytes x = refl
came_stage captured.live bytes x = refl
came_stage (captured.failed why) bytes x = refl
came_stage (captured.ended why) bytes x = refl
came_stage (captured.over why) bytes x = refl

abbrev Late : Captured → Captured → Type 0
Late x y = is_opening y.stage ≡ true → is_opening x.stage ≡ true

rejudged_late : (h : Resources) (x : Captured) → Late x (rejudged h x)
rejudged_late h x = by (judges x.door && is_judged x.stage)
  where
    of : (j : Judged) → Late x (judged_by j x)
    of Admitted = λ is. is
    of Unknown = λ is. absurd (ends_late cause.Revoked x.stage is)
    of Denied = λ is. absurd (ends_late cause.Revoked x.stage is)

    by : (b : Bool) → Late x (cond b (judged_by (judged h x.peer x.target) x) x)
    by true = of (judged h x.peer x.target)
    by false = λ is. is

seen_late : (h : Resources) (q : point.Point) (x : Captured) → Late x (plain_seen_by h q x)
seen_late h (point.applied l r) x = rejudged_late (after_response h r) x
seen_late h (point.stopped why) x = λ is. absurd (ends_late why x.stage is)
seen_late h q x = λ is. is

entry_late : (z : Entry) (x : Captured) → Late x (entered z x)
entry_late (e.Accepted k d) x = λ is. absurd (false≢true is)
entry_late (e.Came k bytes) x = λ is. ap is_opening (sym (came_stage x.stage bytes x)) ∙ is
entry_late (e.Ended k) x = hung_late x.stage
entry_late (e.Went k bytes) x = λ is. is
entry_late (e.Broke k) x = λ is. absurd (ends_late cause.PeerGone x.stage is)
entry_late (e.Shut k) x = λ is. is
entry_late (e.Closed k why) x = λ is. is
entry_late z x = λ is. is

up_late : (l : ℕ) (z : Entry) (x : Captured) → UpMayCome l x z → MayStream x.stage → Late x (up_entered z x)
up_late l (e.Dialled u to why) x may streams = absurd (subst MayStream may.0.1 streams)
up_late l (e.DialFailed to why) x may streams = λ is. absurd (ends_late cause.UpFault x.stage is)
up_late l (e.Opened u) x may streams = λ is. absurd (false≢true is)
up_late l (e.Came u bytes) x may streams = λ is. is
up_late l (e.Ended u) x may streams = λ is. is
up_late l (e.Went u bytes) x may streams = λ is. is
up_late l (e.Broke u) x may streams = λ is. absurd (ends_late cause.UpFault x.stage is)
up_late l (e.Shut u) x may streams = λ is. is
up_late l (e.Closed u why) x may streams = λ is. is
up_late l z x may streams = λ is. is

part_late : (g : NodeConfig) (x : Machine) (l : ℕ) (p : Part) → MayGo l (plain_local x l) p → PlainGuard g x l p
    → MayStream (x.plain l).stage → Late (x.plain l) (next_link (x.plain l) p)
part_late g x l (part.entry z) may guard streams = entry_late z (x.plain l)
part_late g x l (part.up z) may guard streams = up_late l z (x.plain l) may streams
part_late g x l part.welcomed may guard streams = λ is. absurd (false≢true is)
part_late g x l part.crowded may guard streams = λ is. absurd (ends_late cause.NoRoom (x.plain l).stage is)
part_late g x l part.lacked may guard streams = λ is. absurd (ends_late cause.NoMemory (x.plain l).stage is)
part_late g x l (part.misfronted fault) may guard streams = λ is. absurd (ends_late _ (x.plain l).stage is)
part_late g x l (part.fronted seen by aim) may guard streams = absurd (subst MayStream may.0.0 streams)
part_late g x l (part.refused seen by why status made) may guard streams = absurd (subst MayStream may.0.0 streams)
part_late g x l (part.accepted made) may guard streams = λ is. absurd (false≢true is)
part_late g x l part.roomless may guard streams = λ is. absurd (ends_late cause.NoRoom (x.plain l).stage is)
part_late g x l (part.left made) may guard streams = left_late (x.plain l).stage
part_late g x l (part.done made) may guard streams = λ is. absurd (false≢true is)
part_late g x l (part.asked gate stream) may guard streams = absurd guard
part_late g x l (part.hears heard begun) may guard streams = absurd guard
part_late g x l (part.put bytes) may guard streams = absurd guard
part_late g x l part.finished may guard streams = absurd guard
part_late g x l (part.credited n) may guard streams = absurd guard
part_late g x l (part.loosed begun) may guard streams = absurd guard
part_late g x l (part.completed begun made) may guard streams = absurd guard
part_late g x l (part.applied r) may guard streams = absurd guard
part_late g x l (part.stopped why) may guard streams = absurd guard

-- bytes, and the end of the gateway's side, are heard by one that is open
bring_late : (bytes : List ℕ) (stage : captured.Stage) (x : Captured) → MayHear stage (brings bytes) x → is_opening stage ≡ true → ⊥
bring_late bytes captured.opening x may is = may
bring_late bytes stage x may is = false≢true is

end_late : (stage : captured.Stage) (x : Captured) → MayHear stage response.ends x → is_opening stage ≡ true → ⊥
end_late captured.opening x may is = may
end_late stage x may is = false≢true is

-- IN EVERY RUN
abbrev WaitOf : (ℕ → Gateway) → Captured → Type 0
WaitOf gates q = is_raw q ≡ false → is_opening q.stage ≡ true → Waits ((gates q.gate).streams q.stream)

carry : (gates then : ℕ → Gateway) (q r : Captured) → WaitOf gates q → PlainKeeps q r → (is_raw q ≡ false → Late q r)
    → (is_raw q ≡ false → Waits ((gates q.gate).streams q.stream) → Waits ((then q.gate).streams q.stream)) → WaitOf then r
carry gates then q r waits keeps late gate on opens_late =
    let raw : is_raw q ≡ false = ap (λ (n : ℕ). n == 0) (sym keeps.gate) ∙ on in
    subst (λ (n : ℕ). Waits ((then n).streams r.stream)) (sym keeps.gate)
    (subst (λ (s : ℕ). Waits ((then q.gate).streams s)) (sym keeps.stream) (gate raw (waits raw (late raw opens_late))))

-- a link on a stream was asked for
pub streamed_so : (g : NodeConfig) (x : Machine) (points : List Point) → StandsFor g x points → (l : ℕ) → is_raw (x.plain l) ≡ false
    → MayStream (x.plain l).stage
streamed_so g x points stands l on = by (all_streamed l (at_start g) (plain_local x l) (plain_of l points) (plain_runs g x points l stands))
  where
    off : (x.plain l).gate ≡ 0 → ⊥
    off none = false≢true (sym on ∙ ap (λ (n : ℕ). n == 0) none)

    by : Streamed (said (plain_of l points)) (road_of (x.plain l)) → MayStream (x.plain l).stage
    by (never told begun gate went) = absurd (off gate)
    by (has told begun gate up may) = may
    by (was_left told begun gate ended) = absurd (off gate)

pub no_up_so : (g : NodeConfig) (x : Machine) (points : List Point) → StandsFor g x points → (l : ℕ) → is_raw (x.plain l) ≡ false
    → (x.plain l).up ≡ 0
no_up_so g x points stands l on = by (all_streamed l (at_start g) (plain_local x l) (plain_of l points) (plain_runs g x points l stands))
  where
    off : (x.plain l).gate ≡ 0 → ⊥
    off none = false≢true (sym on ∙ ap (λ (n : ℕ). n == 0) none)

    by : Streamed (said (plain_of l points)) (road_of (x.plain l)) → (x.plain l).up ≡ 0
    by (never told begun gate went) = absurd (off gate)
    by (has told begun gate up may) = up
    by (was_left told begun gate ended) = absurd (off gate)

-- two have two
pub other_stream : (g : NodeConfig) (x : Machine) (points : List Point) → StandsFor g x points → (k n s l : ℕ)
    → is_raw (x.plain k) ≡ false → IsStreamOf x k n s → l ≢ k → is_raw (x.plain l) ≡ false
    → (x.plain l).gate ≡ n → (x.plain l).stream ≢ s
other_stream g x points stands k n s l on_k of apart on_l at stream =
    apart (sym ((runs_agree g x points stands).carried l on_l).1
    ∙ ap (λ (m : ℕ). ((x.gates m).streams (x.plain l).stream).captured) (at ∙ sym of.gate)
    ∙ ap (λ (i : ℕ). ((x.gates (x.plain k).gate).streams i).captured) (stream ∙ sym of.number)
    ∙ ((runs_agree g x points stands).carried k on_k).1)

module _ (g : NodeConfig) (x : Machine) (points : List Point) (stands : StandsFor g x points)
    (waits : (l : ℕ) → WaitOf x.gates (x.plain l)) where
  -- the link to a gateway of a link changes, or stays
  gate_on : (n : ℕ) (next : Gateway) (m s : ℕ) → (m ≡ n → Waits ((x.gates n).streams s) → Waits (next.streams s))
      → Waits ((x.gates m).streams s) → Waits ((cond (m == n) next (x.gates m)).streams s)
  gate_on n next m s keeps =
      cond_both (m == n) next (x.gates m) (λ (z : Gateway). Waits ((x.gates m).streams s) → Waits (z.streams s))
      (λ at had. keeps (eqb-true m n at) (subst (λ (k : ℕ). Waits ((x.gates k).streams s)) (eqb-true m n at) had)) (λ other had. had)

  -- a link that stays
  unmoved : (gates : ℕ → Gateway) (l : ℕ)
      → (is_raw (x.plain l) ≡ false → Waits ((x.gates (x.plain l).gate).streams (x.plain l).stream)
      → Waits ((gates (x.plain l).gate).streams (x.plain l).stream)) → WaitOf gates (x.plain l)
  unmoved gates l keeps =
      carry x.gates gates (x.plain l) (x.plain l) (waits l) (record { gate = refl; stream = refl }) (λ raw is. is) keeps

  control_waits : (q : point.Point) (next : _) → ControlGuard x q → (l : ℕ)
      → WaitOf (with_control q next x).gates ((with_control q next x).plain l)
  control_waits q next guard l =
      carry x.gates (λ n. gate_seen_by q (x.gates n)) (x.plain l) (plain_seen_by x.control.held q (x.plain l)) (waits l)
      (seen_keeps x.control.held q (x.plain l)) (λ raw. seen_late x.control.held q (x.plain l))
      (λ raw. by q guard (x.plain l).gate (x.plain l).stream)
    where
      by : (q : point.Point) → ControlGuard x q → (n s : ℕ) → Waits ((x.gates n).streams s) → Waits ((gate_seen_by q (x.gates n)).streams s)
      by (point.stopped why) guard n s had = all_heard (gateway.stopped why) (x.gates n) s (guard.gates n) had
      by q guard n s had = had

  plain_waits : (k : ℕ) (p : Part) → MayGo k (plain_local x k) p → PlainGuard g x k p → (l : ℕ)
      → WaitOf x.gates (cond (l == k) (next_link (x.plain k) p) (x.plain l))
  plain_waits k p may guard l =
      cond_both (l == k) (next_link (x.plain k) p) (x.plain l) (WaitOf x.gates)
      (λ at. carry x.gates x.gates (x.plain k) (next_link (x.plain k) p) (waits k) (part_keeps g x k p guard)
      (λ raw. part_late g x k p may guard (streamed_so g x points stands k raw)) (λ raw had. had))
      (λ other. waits l)

  -- where no tunnel is told something on its stream
  moved : (n : ℕ) (p : gateway.Part) (next : Gateway) → gateways.Steps n (x.gates n) p next → (l : ℕ)
      → (is_raw (x.plain l) ≡ false → (x.plain l).gate ≡ n → IsElsewhere (x.plain l).stream p) → is_raw (x.plain l) ≡ false
      → Waits ((x.gates (x.plain l).gate).streams (x.plain l).stream)
      → Waits ((cond ((x.plain l).gate == n) next (x.gates (x.plain l).gate)).streams (x.plain l).stream)
  moved n p next steps l far raw =
      gate_on n next (x.plain l).gate (x.plain l).stream (λ at. gate_waits n (x.gates n) next (x.plain l).stream p steps (far raw at))

  -- the link of the stream
  here_waits : (k n s : ℕ) (w : Shared) → MayGo k (plain_local x k) (captured_part n s w) → (next : Gateway)
      → gateways.Steps n (x.gates n) (gateway_part k s w) next → WaitOf (λ m. cond (m == n) next (x.gates m)) (next_link (x.plain k) (captured_part n s w))
  here_waits k n s (asks authority) may next steps = λ on late carries_it.
      absurd (false≢true (sym (ap is_carrying at) ∙ carries_it))
    where
      at : stage_of (cond (n == n) next (x.gates n)) s ≡ asked
      at =
          ap (λ (b : Bool). stage_of (cond b next (x.gates n)) s) (eq-eqb n n refl) ∙ ap (λ (z : Gateway). stage_of z s) steps.2
          ∙ ap (λ (b : Bool). (cond b (record no_stream { stage = asked; captured = k }) ((x.gates n).streams s)).stage) (eq-eqb s s refl)
  here_waits k n s (tells (opens end) begun) may next steps = λ on late. absurd (false≢true late)
  here_waits k n s (tells (brings bytes) begun) may next steps = λ on late. absurd (bring_late bytes (x.plain k).stage (x.plain k) may.1 late)
  here_waits k n s (tells response.ends begun) may next steps = λ on late. absurd (end_late (x.plain k).stage (x.plain k) may.1 late)
  here_waits k n s (tells (fails why) begun) may next steps = λ on. absurd (false≢true (sym on))
  here_waits k n s (puts waiting count) may next steps =
      carry x.gates (λ m. cond (m == n) next (x.gates m)) (x.plain k) (next_link (x.plain k) (captured_part n s (puts waiting count))) (waits k)
      (record { gate = refl; stream = refl }) (λ raw is. is) (moved n (gateway_part k s (puts waiting count)) next steps k (λ raw at. tt {0}))
  here_waits k n s finishes may next steps =
      carry x.gates (λ m. cond (m == n) next (x.gates m)) (x.plain k) (next_link (x.plain k) part.finished) (waits k)
      (record { gate = refl; stream = refl }) (λ raw is. is) (moved n (gateway_part k s finishes) next steps k (λ raw at. tt {0}))
  here_waits k n s (credits count) may next steps =
      carry x.gates (λ m. cond (m == n) next (x.gates m)) (x.plain k) (next_link (x.plain k) (part.credited count)) (waits k)
      (record { gate = refl; stream = refl }) (λ raw is. is) (moved n (gateway_part k s (credits count)) next steps k (λ raw at. tt {0}))
  here_waits k n s (drops begun) may next steps = λ on. absurd (false≢true (sym on))
  here_waits k n s (completes begun note) may next steps = λ on. absurd (false≢true (sym on))

  -- another one has another stream
  other_waits : (k n s : ℕ) (w : Shared) → MayGo k (plain_local x k) (captured_part n s w) → (next : Gateway)
      → gateways.Steps n (x.gates n) (gateway_part k s w) next → StreamGuard x k n s w → (l : ℕ) → l ≢ k
      → WaitOf (λ m. cond (m == n) next (x.gates m)) (x.plain l)
  other_waits k n s w may next steps guard l apart =
      unmoved (λ m. cond (m == n) next (x.gates m)) l (moved n (gateway_part k s w) next steps l (λ raw at. by w may guard raw at))
    where
      by : (w : Shared) → MayGo k (plain_local x k) (captured_part n s w) → StreamGuard x k n s w → is_raw (x.plain l) ≡ false
          → (x.plain l).gate ≡ n → IsElsewhere (x.plain l).stream (gateway_part k s w)
      by (tells heard begun) may guard raw at = other_stream g x points stands k n s l may.0 guard apart raw at
      by (asks authority) may guard raw at = tt {0}
      by (puts waiting count) may guard raw at = tt {0}
      by finishes may guard raw at = tt {0}
      by (credits count) may guard raw at = tt {0}
      by (drops begun) may guard raw at = tt {0}
      by (completes begun note) may guard raw at = tt {0}

  own_elsewhere : (n : ℕ) (p : gateway.Part) (s : ℕ) → GateGuard g x n p → IsElsewhere s p
  own_elsewhere n (gateway.tells k heard begun) s guard = absurd guard
  own_elsewhere n p s guard = tt {0}

  step_waits : (p : Point) (y : Machine) → Steps g x p y → (l : ℕ) → WaitOf y.gates (y.plain l)
  step_waits (of_control q) y steps l = subst (λ (z : Machine). WaitOf z.gates (z.plain l)) (sym steps.3) (control_waits q steps.0 steps.2 l)
  step_waits (of_link k p) y steps l = subst (λ (z : Machine). WaitOf z.gates (z.plain l)) (sym steps.3) (waits l)
  step_waits (of_plain k p) y steps l =
      subst (λ (z : Machine). WaitOf z.gates (z.plain l)) (sym steps.2) (plain_waits k p steps.0 steps.1 l)
  step_waits (of_gate n p) y steps l =
      subst (λ (z : Machine). WaitOf z.gates (z.plain l)) (sym steps.3)
      (unmoved (λ m. cond (m == n) steps.0 (x.gates m)) l
      (moved n p steps.0 steps.1 l (λ raw at. own_elsewhere n p (x.plain l).stream steps.2)))
  step_waits (of_stream k n s w) y steps l =
      subst (λ (z : Machine). WaitOf z.gates (z.plain l)) (sym steps.4)
      (cond_both (l == k) (next_link (x.plain k) (captured_part n s w)) (x.plain l)
      (WaitOf (λ m. cond (m == n) steps.1 (x.gates m))) (λ at. here_waits k n s w steps.0 steps.1 steps.2)
      (λ apart. other_waits k n s w steps.0 steps.1 steps.2 steps.3 l (λ at. false≢true (sym apart ∙ eq-eqb l k at))))

all_wait : (g : NodeConfig) (x : Machine) (points : List Point) → StandsFor g x points → (l : ℕ) → WaitOf x.gates (x.plain l)
all_wait g x points (begins is none) l =
    subst (λ (z : Machine). WaitOf z.gates (z.plain l)) (sym is) (λ on. absurd (false≢true (sym on)))
all_wait g y more (goes_on {x = x} {points = points} stands p steps are) l =
    step_waits g x points stands (all_wait g x points stands) p y steps l

-- WHERE ITS TUNNEL IS TO BE TOLD ANOTHER THING, or nothing, a link whose stream carries bytes doesn't wait
pub carried_opened : (g : NodeConfig) (x : Machine) (points : List Point) → StandsFor g x points → (l : ℕ) → is_raw (x.plain l) ≡ false
    → stage_of (x.gates (x.plain l).gate) (x.plain l).stream ≡ carrying
    → is_opens ((x.gates (x.plain l).gate).streams (x.plain l).stream).mail ≡ false → is_opening (x.plain l).stage ≡ true → ⊥
carried_opened g x points stands l on carries_it unopened late =
    false≢true (sym unopened ∙ all_wait g x points stands l on late (ap is_carrying carries_it))
