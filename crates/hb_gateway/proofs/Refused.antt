-- What the laws of a link to a gateway refuse, and what may go.
use Rattle.std.proofs.Common.{◌≡◌, ℕ, ◌==◌, ◌&&◌, ◌||◌, Bool, true, false, cond, ◌<◌, List, [], ◌∷◌, ◌++◌, length, Option, Some, None, inl, refl, ap, sym, ◌∙◌, arith}
use Rattle.std.specs.List.{flat_map}
use Rattle.std.specs.FinMap.{len-empty}
use Rattle.std.specs.Ordering.{nat_cmp}
use Rattle.hb_streams.specs.declared.sides.Sides.{Sides}
use Rattle.std.proofs.lemmas.Bool.{false≢true, cond_both, lt-ltb, eq-eqb}
use Rattle.hb_base.specs.declared.cause.Cause.TheVariants as cause
use Rattle.hb_base.specs.declared.door.Why.TheVariants as whys
use Rattle.hb_base.specs.declared.target.Target.{Target}
use Rattle.hb_conn.specs.Connection.{fresh_client, core_of}
use Rattle.hb_conn.specs.Observed as observed
use Rattle.hb_conn.specs.Observed.{sides}
use Rattle.hb_conn.specs.declared.found.Found.TheVariants as found
use Rattle.hb_conn.specs.declared.found.Found.TheVariants.{Silent}
use Rattle.hb_conn.specs.declared.machine.Core.{Core}
use Rattle.hb_history.specs.Points as history
use Rattle.hb_history.specs.Points.{Runs}
use Rattle.hb_history.proofs.Steady.{first_stream}
use Rattle.hb_inbound.proofs.Relaying.{none_in}
use Rattle.hb_kept.specs.Payloads.{payloads}
use Rattle.hb_kept.specs.Sides.{neither}
use Rattle.hb_kept.proofs.Sides.{reset_ends_both}
use Rattle.hb_kept.proofs.SidesAt.{sides_at}
use Rattle.hb_model.specs.Discovery.{status_of}
use Rattle.hb_world.specs.declared.entry.Entry.TheVariants as e
use Rattle.hb_gateway.specs.Calm.{is_failing, AllTold}
use Rattle.hb_gateway.specs.Gateway.{Gateway, Stream, opening, serving, no_stream, no_link, stage_of, with_phase, asked_on, went}
use Rattle.hb_gateway.specs.Hears.{hears_by}
use Rattle.hb_gateway.specs.Key.{Key, front_of}
use Rattle.hb_gateway.specs.Part.{entry, dialled, looked, asks, tells, reset}
use Rattle.hb_gateway.specs.Refused.{AsksBehind, AsksTwice, AsksElsewhere, PutsEarly, ResetsUnasked, ResetsClosed, ResetsTwice, ResetsBehindAway, DropsUnasked, WritesFirst, DialsElsewhere, FinishesEarly, DoneOpen, TellsUnheard, TellsUncome, SendsUnput, InterimIsHeard, RefusalOpens, BringsEarly, OpensTwice, BringsUnopened, GoesOnBehind, SuccessOpens, LifeIsInOrder, FirstMayGo}
use Rattle.hb_gateway.specs.Response.{Stage, unused, asked, carrying, failing, is_living, Heard, opens, brings, ends, fails, is_success, refusal_of, answered}
use Rattle.hb_gateway.specs.Runs.{StandsFor, begins, goes_on}
use Rattle.hb_gateway.specs.Sides.{brought_by, brought_on}
use Rattle.hb_gateway.proofs.Resetting.{reset_active}

pub asks_behind : AsksBehind
asks_behind last s captured authority headers points law =
    let may = law (looked points (found.GoneAway last) headers ∷ []) (asks s captured authority) [] refl in
    false≢true (sym may.stays)

pub asks_twice : AsksTwice
asks_twice s first second one other law =
    let may = law (asks s first one ∷ []) (asks s second other) [] refl in
    let above = may.above.0 in
    omega (arith, above)

pub asks_elsewhere : AsksElsewhere
asks_elsewhere g next s captured authority x y is apart steps =
    apart (let both = sym is ∙ steps.1 in cc)

pub puts_early : PutsEarly
puts_early g s count bytes x y is steps = (let both : asked ≡ carrying = sym is ∙ steps.0.1 in cc)

pub resets_unasked : ResetsUnasked
resets_unasked g s code x y is steps = (let both : unused ≡ failing code = sym is ∙ steps.1 in cc)

pub resets_closed : ResetsClosed
resets_closed g s code x y parts stands closed steps = false≢true (sym closed ∙ reset_active g s code x y parts stands steps)

-- behind its reset neither side of a stream is open
pub resets_twice : ResetsTwice
resets_twice s first second law =
    let may = law (reset s first ∷ []) (reset s second) [] refl in
    let runs : Runs (core_of fresh_client) (history.point (history.reset s first) Silent ∷ []) (core_of may.conn) = may.stands.runs in
    let leads : core_of may.conn ≡ core_of (observed.aborted fresh_client s first) = runs.2 ∙ runs.1.0 in
    let none : sides may.conn s ≡ neither =
    ap (λ (k : Core). sides_at k.streams s) leads ∙ (reset_ends_both fresh_client s first).here in
    false≢true (sym (ap (λ (t : Sides). t.own || t.peer) none) ∙ may.active)

pub resets_behind_away : ResetsBehindAway
resets_behind_away last s code headers points above law =
    let may = law (looked points (found.GoneAway last) headers ∷ []) (reset s code) [] refl in
    false≢true (sym may.taken ∙ ap (λ (b : Bool). b || false) (lt-ltb last s above))

pub drops_unasked : DropsUnasked
drops_unasked g s begun x y is steps = false≢true (sym (ap is_living is) ∙ steps.0)

pub writes_first : WritesFirst
writes_first g byte key bytes call apart history =
    apart (let is = history.front in cc)

pub dials_elsewhere : DialsElsewhere
dials_elsewhere g captured to key x y apart steps = apart steps.0.2

pub finishes_early : FinishesEarly
finishes_early g s x y waits steps = false≢true (sym steps.2 ∙ waits)

pub done_open : DoneOpen
done_open g s begun x y is steps = false≢true (sym (ap (λ (t : Sides). t.peer) steps.0.1) ∙ is)

pub tells_unheard : TellsUnheard
tells_unheard g s begun heard x y is steps = (let both : None ≡ Some heard = sym is ∙ steps.0 in cc)

-- what a stream is told of itself
told_here : (s : ℕ) (heard : Heard) (begun : ℕ) → brought_on s (tells s heard begun ∷ []) ≡ brought_by heard ++ []
told_here s heard begun =
    ap (λ (b : Bool). flat_map brought_by (cond b (heard ∷ []) [] ++ [])) (eq-eqb s s refl)

pub tells_uncome : TellsUncome
tells_uncome s byte begun bytes law =
    let one = law s in
    let is : [] ≡ brought_on s (tells s (brings (byte ∷ bytes)) begun ∷ []) ++ one.rest = one.front in
    (let both = is ∙ ap (λ (xs : List ℕ). xs ++ one.rest) (told_here s (brings (byte ∷ bytes)) begun) in cc)

pub sends_unput : SendsUnput
sends_unput s parts law none =
    (none_in (payloads s law.history.stands.begun) (law.rest s) (sym none ∙ law.front s)).1

-- of the stream that is told
here : (s : ℕ) (heard : Option Heard) → cond (s == s) heard None ≡ heard
here s heard = ap (λ (b : Bool). cond b heard None) (eq-eqb s s refl)

pub interim_is_heard : InterimIsHeard
interim_is_heard s x points headers heard stage interim is =
    let told = ap (λ (t : Stage). hears_by x.phase s t (looked points (found.Opened s false) headers)) stage in
    let passed : answered (status_of headers) false ≡ None =
    ap (λ (b : Bool). cond (b && true) None
    (cond (is_success (status_of headers)) (Some (opens false))
    (Some (fails (cause.UpRefused (refusal_of (status_of headers))))))) interim in
    (let both : None ≡ Some heard = sym (told ∙ here s (answered (status_of headers) false) ∙ passed) ∙ is in cc)

answered_forbidden : (end : Bool) → answered (Some 403) end ≡ Some (fails (cause.UpRefused 403))
answered_forbidden true = refl
answered_forbidden false = refl

pub refusal_opens : RefusalOpens
refusal_opens s x points headers end now stage status is =
    let told = ap (λ (t : Stage). hears_by x.phase s t (looked points (found.Opened s end) headers)) stage in
    let refused = ap (λ (n : Option ℕ). answered n end) status ∙ answered_forbidden end in
    (let both : Some (fails (cause.UpRefused 403)) ≡ Some (opens now) =
    sym (told ∙ here s (answered (status_of headers) end) ∙ refused) ∙ is in cc)

pub brings_early : BringsEarly
brings_early s x points headers end bytes stage is =
    let told = ap (λ (t : Stage). hears_by x.phase s t (looked points (found.Chunk s end) headers)) stage in
    (let both : Some (fails (cause.StreamFault 1)) ≡ Some (brings bytes) =
    sym (told ∙ here s (Some (fails (cause.StreamFault 1)))) ∙ is in cc)

pub opens_twice : OpensTwice
opens_twice first second order = order refl

pub brings_unopened : BringsUnopened
brings_unopened bytes order = order refl

pub goes_on_behind : GoesOnBehind
goes_on_behind why (opens end) order = order refl
goes_on_behind why (brings bytes) order = order refl
goes_on_behind why ends order = order refl
goes_on_behind why (fails other) order = order refl

answered_success : (end : Bool) → answered (Some 200) end ≡ Some (opens end)
answered_success true = refl
answered_success false = refl

pub success_opens : SuccessOpens
success_opens s x points headers end stage status =
    ap (λ (t : Stage). hears_by x.phase s t (looked points (found.Opened s end) headers)) stage
    ∙ here s (answered (status_of headers) end) ∙ ap (λ (n : Option ℕ). answered n end) status ∙ answered_success end

pub life_is_in_order : LifeIsInOrder
life_is_in_order bytes is = cc

-- the link behind its dial, its opening, and the request
abbrev dialled_link : Key → Gateway
dialled_link key = record no_link { key = key; phase = opening; front = front_of key }

abbrev opened_link : Key → Gateway
opened_link key = with_phase serving (dialled_link key)

abbrev asked_link : ℕ → Target → Key → Gateway
asked_link captured authority key = asked_on 1 captured authority (opened_link key)

some_front : (key : Key) → 0 < length (front_of key)
some_front key = omega arith

pub first_may_go : FirstMayGo
first_may_go g captured key authority written =
    let x = dialled_link key in
    let y = opened_link key in
    let z = asked_link captured authority key in
    let dial = dialled (e.Dialled g key.gateway (whys.Gateway captured)) key in
    let born : StandsFor g x (dial ∷ []) =
    goes_on (begins {x = no_link} {parts = []} refl refl) dial ((refl, refl, refl, written), refl) refl in
    let opened : StandsFor g y (dial ∷ entry (e.Opened g) ∷ []) =
    goes_on born (entry (e.Opened g))
    ((refl, (record { calm = ((λ s. refl), (λ s. refl)); no_close = refl }, refl)), refl) refl in
    let asks_one : StandsFor g z (dial ∷ entry (e.Opened g) ∷ asks 1 captured authority ∷ []) =
    goes_on opened (asks 1 captured authority) (rw (len-empty nat_cmp Sides) refl, first_stream, refl) refl in
    let new : Stream = record no_stream { stage = asked; captured = captured } in
    let calm : (s : ℕ) → is_failing (stage_of z s) ≡ false =
    λ s. cond_both (s == 1) new (y.streams s) (λ (t : Stream). is_failing t.stage ≡ false) (λ is. refl) (λ is. refl) in
    let told : AllTold z =
    λ s. cond_both (s == 1) new (y.streams s) (λ (t : Stream). t.mail ≡ None) (λ is. refl) (λ is. refl) in (
      went (length (front_of key)) z,
      goes_on asks_one (entry (e.Went g (front_of key))) (
        (
          refl,
          inl (record { calm = (told, (calm, (refl, refl))); no_close = refl }, refl),
          some_front key,
          (observed.output z.conn, refl),
        ),
        refl,
      ) refl,
    )
