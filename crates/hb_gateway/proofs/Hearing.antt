-- What the tunnel on a stream hears is in order, in every run of a link.
use Rattle.std.proofs.Common.{◌≡◌, ◌≢◌, ℕ, ◌<◌, ◌==◌, ◌&&◌, not, nat_lt, Bool, true, false, cond, List, [], ◌∷◌, ◌++◌, Option, Some, None, refl, ap, sym, ◌∙◌, subst}
use Rattle.std.specs.List.{flat_map, AllByRecursion}
use Rattle.std.proofs.lemmas.Bool.{cond_both, eqb-true}
use Rattle.std.proofs.lemmas.List.{append-nil}
use Rattle.hb_base.specs.declared.cause.Cause.{Cause}
use Rattle.hb_base.specs.declared.cause.Cause.TheVariants as cause
use Rattle.hb_conn.specs.declared.found.Found.{Found}
use Rattle.hb_conn.specs.declared.found.Found.TheVariants as found
use Rattle.hb_history.specs.Points.{data_in}
use Rattle.hb_hpack.specs.declared.header.Header.{Header}
use Rattle.hb_kept.specs.Numbers.{highest_used}
use Rattle.hb_model.specs.Discovery.{status_of, is_interim}
use Rattle.hb_world.specs.declared.entry.Entry.{Entry}
use Rattle.hb_world.specs.declared.entry.Entry.TheVariants as e
use Rattle.hb_gateway.specs.Asks.{asked_in, asked_of}
use Rattle.hb_gateway.specs.Gateway.{Gateway, Phase, Stream, no_stream, stage_of, at_stage, at_stream, carries, is_active, settled, dropped_to, break_cause}
use Rattle.hb_gateway.specs.Hears.{hears_call, hears, left_behind, after, all_hear}
use Rattle.hb_gateway.specs.Laws.{RunsHearInOrder, UnaskedHearNothing}
use Rattle.hb_gateway.specs.Order as order
use Rattle.hb_gateway.specs.Order.{if_heard, HearsAll, Progress, waits, is_open, has_failed, out_of_order, hearing, progress_of, IsInOrder}
use Rattle.hb_gateway.specs.Part.{Part, entry, dialled, lacked, looked, asks, tells, put, finished, credited, reset, dropped, done, stopped}
use Rattle.hb_gateway.specs.Response.{Stage, unused, asked, carrying, failing, over, cancel, Heard, opens, brings, ends, fails, is_success, refusal_of, answered, headed, brought, ended, failed, heard_of, left_by}
use Rattle.hb_gateway.specs.Runs.{entered, Steps, StandsFor}
use Rattle.hb_gateway.specs.Runs as runs
use Rattle.hb_gateway.proofs.Asking.{step_unused, number_above, all_know, call_streams}
use Rattle.hb_gateway.proofs.Grown.{one_more, fold_one}

-- WHAT MAY BE HEARD, BY HOW FAR A STREAM IS

abbrev pub IsOf : Stage → Option Heard → Type 0
IsOf stage None = Unit {0}
IsOf asked (Some (opens end)) = Unit {0}
IsOf asked (Some (fails why)) = Unit {0}
IsOf carrying (Some (brings bytes)) = Unit {0}
IsOf carrying (Some ends) = Unit {0}
IsOf carrying (Some (fails why)) = Unit {0}
IsOf stage heard = ⊥

pub failed_of : (why : Cause) (stage : Stage) → IsOf stage (failed why stage)
failed_of why unused = tt
failed_of why asked = tt
failed_of why carrying = tt
failed_of why (failing code) = tt
failed_of why over = tt

answered_of : (status : Option ℕ) (end : Bool) → IsOf asked (answered status end)
answered_of status end =
    cond_both (is_interim status && not end) None
    (cond (is_success status) (Some (opens end)) (Some (fails (cause.UpRefused (refusal_of status))))) (IsOf asked)
    (λ passed. tt)
    (λ not_passed. cond_both (is_success status) (Some (opens end)) (Some (fails (cause.UpRefused (refusal_of status)))) (IsOf asked)
    (λ well. tt) (λ ill. tt))

headed_of : (stage : Stage) (status : Option ℕ) (end : Bool) → IsOf stage (headed stage status end)
headed_of unused status end = tt
headed_of asked status end = answered_of status end
headed_of carrying status end = tt
headed_of (failing code) status end = tt
headed_of over status end = tt

brought_of : (stage : Stage) (bytes : List ℕ) → IsOf stage (brought stage bytes)
brought_of unused bytes = tt
brought_of asked bytes = tt
brought_of carrying bytes = tt
brought_of (failing code) bytes = tt
brought_of over bytes = tt

ended_of : (stage : Stage) → IsOf stage (ended stage)
ended_of unused = tt
ended_of asked = tt
ended_of carrying = tt
ended_of (failing code) = tt
ended_of over = tt

pub told_of : (s : ℕ) (stage : Stage) (headers : List Header) (bytes : List ℕ) (told : Found)
    → IsOf stage (heard_of s stage headers bytes told)
told_of s stage headers bytes found.Silent = tt
told_of s stage headers bytes (found.Opened k end) =
    cond_both (k == s) (headed stage (status_of headers) end) None (IsOf stage) (λ is. headed_of stage (status_of headers) end) (λ is. tt)
told_of s stage headers bytes (found.Chunk k end) =
    cond_both (k == s) (brought stage bytes) None (IsOf stage) (λ is. brought_of stage bytes) (λ is. tt)
told_of s stage headers bytes (found.Ended k) =
    cond_both (k == s) (ended stage) None (IsOf stage) (λ is. ended_of stage) (λ is. tt)
told_of s stage headers bytes (found.Reset k code) =
    cond_both (k == s) (failed (cause.PeerReset code) stage) None (IsOf stage) (λ is. failed_of (cause.PeerReset code) stage) (λ is. tt)
told_of s stage headers bytes (found.Broken k code) =
    cond_both (k == s) (failed (cause.StreamFault code) stage) None (IsOf stage) (λ is. failed_of (cause.StreamFault code) stage) (λ is. tt)
told_of s stage headers bytes (found.GoneAway last) =
    cond_both (nat_lt last s) (failed cause.GoneAway stage) None (IsOf stage) (λ is. failed_of cause.GoneAway stage) (λ is. tt)
told_of s stage headers bytes (found.Fault code) = failed_of (cause.ConnFault code) stage

pub called_of : (phase : Phase) (stage : Stage) (call : Entry) → IsOf stage (hears_call phase stage call)
called_of phase stage (e.Accepted k door) = tt
called_of phase stage (e.Dialled k to why) = tt
called_of phase stage (e.DialFailed to why) = tt
called_of phase stage (e.Opened k) = tt
called_of phase stage (e.Came k bytes) = tt
called_of phase stage (e.Ended k) = failed_of cause.PeerGone stage
called_of phase stage (e.Broke k) = failed_of (break_cause phase) stage
called_of phase stage (e.Went k bytes) = tt
called_of phase stage (e.Balked how) = tt
called_of phase stage (e.Shut k) = tt
called_of phase stage (e.Closed k why) = tt
called_of phase stage e.Tick = tt
called_of phase stage (e.Wait ready how) = tt

-- HOW FAR A TUNNEL IS, BY HOW FAR ITS STREAM IS

abbrev pub OrderBy : Stage → List Heard → Type 0
OrderBy unused all = all ≡ []
OrderBy asked all = progress_of all ≡ waits
OrderBy carrying all = progress_of all ≡ is_open
OrderBy stage all = IsInOrder all

none_fits : (all : List Heard) → all ≡ [] → progress_of all ≡ waits
none_fits all is = ap progress_of is

in_order : (stage : Stage) (all : List Heard) → OrderBy stage all → IsInOrder all
in_order unused all fits is = absurd (let both : waits ≡ out_of_order = sym (none_fits all fits) ∙ is in cc)
in_order asked all fits is = absurd (let both : waits ≡ out_of_order = sym fits ∙ is in cc)
in_order carrying all fits is = absurd (let both : is_open ≡ out_of_order = sym fits ∙ is in cc)
in_order (failing code) all fits is = fits is
in_order over all fits is = fits is

dropped_order : (s : ℕ) (x : Gateway) (all : List Heard) → IsInOrder all → OrderBy (dropped_to s x) all
dropped_order s x all fits =
    cond_both (carries x.phase && is_active x.conn s) (failing cancel) over (λ (t : Stage). OrderBy t all) (λ is. fits) (λ is. fits)

-- behind a failure
behind_told : (told : Found) (why : Cause) (all : List Heard) → IsInOrder all → OrderBy (left_by told why) all
behind_told found.Silent why all fits = fits
behind_told (found.Opened s end) why all fits = fits
behind_told (found.Chunk s end) why all fits = fits
behind_told (found.Ended s) why all fits = fits
behind_told (found.Reset s code) why all fits = fits
behind_told (found.Broken s code) why all fits = fits
behind_told (found.GoneAway last) why all fits = fits
behind_told (found.Fault code) why all fits = fits

behind : (p : Part) (why : Cause) (all : List Heard) → IsInOrder all → OrderBy (left_behind p why) all
behind (looked ps told headers) why all fits = behind_told told why all fits
behind (entry call) why all fits = fits
behind (dialled call key) why all fits = fits
behind lacked why all fits = fits
behind (asks s captured authority) why all fits = fits
behind (tells s heard begun) why all fits = fits
behind (put s bytes count) why all fits = fits
behind (finished s) why all fits = fits
behind (credited s n) why all fits = fits
behind (reset s code) why all fits = fits
behind (dropped s begun) why all fits = fits
behind (done s begun) why all fits = fits
behind (stopped cause) why all fits = fits

module _ (all : List Heard) where
  one : (heard : Heard) (now then : Progress) → progress_of all ≡ now → hearing now heard ≡ then → progress_of (all ++ heard ∷ []) ≡ then
  one heard now then was is = fold_one hearing waits all heard ∙ ap (λ (q : Progress). hearing q heard) was ∙ is

  -- a tunnel that fails
  fails_so : (why : Cause) (now : Progress) → progress_of all ≡ now → hearing now (fails why) ≡ has_failed
      → IsInOrder (all ++ fails why ∷ [])
  fails_so why now was is wrong =
      absurd (let both : has_failed ≡ out_of_order = sym (one (fails why) now has_failed was is) ∙ wrong in cc)

  heard_on : (p : Part) (stage : Stage) (heard : Option Heard) → IsOf stage heard → OrderBy stage all
      → OrderBy (after p stage heard) (all ++ if_heard heard)
  heard_on p stage None may fits = subst (OrderBy stage) (sym (append-nil all)) fits
  heard_on p asked (Some (opens end)) may fits = one (opens end) waits is_open fits refl
  heard_on p asked (Some (fails why)) may fits = behind p why (all ++ fails why ∷ []) (fails_so why waits fits refl)
  heard_on p carrying (Some (brings bytes)) may fits = one (brings bytes) is_open is_open fits refl
  heard_on p carrying (Some ends) may fits = one ends is_open is_open fits refl
  heard_on p carrying (Some (fails why)) may fits = behind p why (all ++ fails why ∷ []) (fails_so why is_open fits refl)
  heard_on p unused (Some heard) may fits = absurd may
  heard_on p (failing code) (Some heard) may fits = absurd may
  heard_on p over (Some heard) may fits = absurd may
  heard_on p asked (Some (brings bytes)) may fits = absurd may
  heard_on p asked (Some ends) may fits = absurd may
  heard_on p carrying (Some (opens end)) may fits = absurd may

-- where one that is to be reset is over
settled_order : (active : Bool) (stage : Stage) (all : List Heard) → OrderBy stage all → OrderBy (settled active stage) all
settled_order true stage all fits = fits
settled_order false unused all fits = fits
settled_order false asked all fits = fits
settled_order false carrying all fits = fits
settled_order false (failing code) all fits = fits
settled_order false over all fits = fits

-- a run, without what is heard in it
pub stands_for : (g s : ℕ) (x : Gateway) (parts : List Part) (all : List Heard) → HearsAll g s x parts all → StandsFor g x parts
stands_for g s x parts all (order.begins is none silent) = runs.begins is none
stands_for g s y more now (order.goes_on {x = x} {parts = parts} {all = all} before p steps grows told) =
    runs.goes_on (stands_for g s x parts all before) p steps grows

module _ (g s : ℕ) (x y : Gateway) (parts : List Part) (all : List Heard) (stands : StandsFor g x parts)
    (fits : OrderBy (stage_of x s) all) where
  -- where a part is heard
  stage_at : (z : Gateway) (now : List Heard) → y ≡ z → OrderBy (stage_of z s) now → OrderBy (stage_of y s) now
  stage_at z now is fits_now = subst (λ (w : Gateway). OrderBy (stage_of w s) now) (sym is) fits_now

  heard_at : (p : Part) → IsOf (stage_of x s) (hears x p s) → OrderBy (stage_of (all_hear p x) s) (all ++ if_heard (hears x p s))
  heard_at p may = heard_on all p (stage_of x s) (hears x p s) may fits

  -- where it isn't, and the stream is as far as it was
  same : OrderBy (stage_of x s) (all ++ [])
  same = subst (OrderBy (stage_of x s)) (sym (append-nil all)) fits

  -- or the stream k is at this stage
  moved : (k : ℕ) (change : Stream → Stream) → (k ≡ s → OrderBy (change (x.streams s)).stage all)
      → OrderBy (stage_of (at_stream k change x) s) (all ++ [])
  moved k change here =
      subst (OrderBy (stage_of (at_stream k change x) s)) (sym (append-nil all))
      (cond_both (s == k) (change (x.streams s)) (x.streams s) (λ (t : Stream). OrderBy t.stage all)
      (λ is. here (sym (eqb-true s k is))) (λ apart. fits))

  step_hears : (p : Part) → Steps g x p y → OrderBy (stage_of y s) (all ++ if_heard (hears x p s))
  step_hears (entry call) steps =
      stage_at (entered call (all_hear (entry call) x)) (all ++ if_heard (hears x (entry call) s)) steps.1
      (subst (λ (t : Stage). OrderBy t (all ++ if_heard (hears x (entry call) s))) (sym (call_streams call (all_hear (entry call) x) s))
      (heard_at (entry call) (called_of x.phase (stage_of x s) call)))
  step_hears (dialled call key) steps = stage_at _ (all ++ []) steps.1 same
  step_hears lacked steps =
      stage_at _ (all ++ if_heard (hears x lacked s)) steps.1 (heard_at lacked (failed_of cause.NoMemory (stage_of x s)))
  step_hears (looked ps told headers) steps =
      stage_at _ (all ++ if_heard (hears x (looked ps told headers) s)) steps.6
      (settled_order (is_active steps.3 s) (stage_of (all_hear (looked ps told headers) x) s)
      (all ++ if_heard (hears x (looked ps told headers) s))
      (heard_at (looked ps told headers) (told_of s (stage_of x s) headers (flat_map data_in ps) told)))
  step_hears (asks k captured authority) steps =
      stage_at _ (all ++ []) steps.2
      (moved k (λ t. record no_stream { stage = asked; captured = captured })
      (λ is. none_fits all (subst (λ (t : Stage). OrderBy t all)
      ((all_know g x parts stands).unused s (subst (λ (n : ℕ). highest_used x.conn < n) is (number_above x.conn k steps.1))) fits)))
  step_hears (tells k heard begun) steps =
      stage_at _ (all ++ []) steps.2 (moved k (λ t. record t { mail = None }) (λ is. fits))
  step_hears (put k bytes count) steps = stage_at _ (all ++ []) steps.4 same
  step_hears (finished k) steps = stage_at _ (all ++ []) steps.3 same
  step_hears (credited k n) steps = stage_at _ (all ++ []) steps.2 same
  step_hears (reset k code) steps =
      stage_at _ (all ++ []) steps.2 (moved k (at_stage over) (λ is. in_order (stage_of x s) all fits))
  step_hears (dropped k begun) steps =
      stage_at _ (all ++ []) steps.3
      (moved k (at_stage (dropped_to k x)) (λ is. dropped_order k x all (in_order (stage_of x s) all fits)))
  step_hears (done k begun) steps =
      stage_at _ (all ++ []) steps.3 (moved k (at_stage over) (λ is. in_order (stage_of x s) all fits))
  step_hears (stopped why) steps =
      stage_at _ (all ++ if_heard (hears x (stopped why) s)) steps.1 (heard_at (stopped why) (failed_of why (stage_of x s)))

pub all_hear_so : (g s : ℕ) (x : Gateway) (parts : List Part) (all : List Heard) → HearsAll g s x parts all → OrderBy (stage_of x s) all
all_hear_so g s x parts all (order.begins is none silent) = subst (λ (w : Gateway). OrderBy (stage_of w s) all) (sym is) silent
all_hear_so g s y more now (order.goes_on {x = x} {parts = parts} {all = all} before p steps grows told) =
    subst (OrderBy (stage_of y s)) (sym told)
    (step_hears g s x y parts all (stands_for g s x parts all before) (all_hear_so g s x parts all before) p steps)

pub hear_in_order : RunsHearInOrder
hear_in_order g s x parts all run = in_order (stage_of x s) all (all_hear_so g s x parts all run)

-- A STREAM THAT WASN'T ASKED FOR

all_parted : (P : ℕ → Type 0) (ns ms : List ℕ) → AllByRecursion P (ns ++ ms) → AllByRecursion P ns × AllByRecursion P ms
all_parted P [] ms each = (tt, each)
all_parted P (n ∷ ns) ms each = let rest = all_parted P ns ms each.1 in ((each.0, rest.0), rest.1)

stays_unused : (g s : ℕ) (x : Gateway) (parts : List Part) → StandsFor g x parts → AllByRecursion (λ k. k ≢ s) (asked_of parts)
    → stage_of x s ≡ unused
stays_unused g s x parts (runs.begins is none) others = ap (λ (w : Gateway). stage_of w s) is
stays_unused g s y more (runs.goes_on {x = x} {parts = parts} before p steps grows) others =
    let each =
    all_parted (λ k. k ≢ s) (asked_of parts) (asked_in p)
    (subst (AllByRecursion (λ k. k ≢ s)) (ap asked_of grows ∙ one_more asked_in parts p) others) in
    step_unused g x y s p steps each.1 (stays_unused g s x parts before each.0)

pub hear_nothing : UnaskedHearNothing
hear_nothing g s x parts all run others =
    subst (λ (t : Stage). OrderBy t all) (stays_unused g s x parts (stands_for g s x parts all run) others)
    (all_hear_so g s x parts all run)
