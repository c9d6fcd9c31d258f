-- Which streams of a link to a gateway have a tunnel, and what a tunnel is still to be told.
use Rattle.std.proofs.Common.{◌≡◌, ◌≢◌, inl, inr, ⊎_elim, ℕ, ◌==◌, ◌&&◌, not, Bool, true, false, cond, List, Option, Some, None, refl, ap, sym, ◌∙◌, subst}
use Rattle.std.proofs.lemmas.Bool.{and_parts, cond-true, cond_both, eqb-true, eq-eqb, false≢true}
use Rattle.std.specs.List.{flat_map, AllByRecursion}
use Rattle.hb_base.specs.declared.cause.Cause.{Cause}
use Rattle.hb_base.specs.declared.cause.Cause.TheVariants as cause
use Rattle.hb_conn.specs.declared.found.Found.{Found}
use Rattle.hb_conn.specs.declared.found.Found.TheVariants as found
use Rattle.hb_gateway.proofs.Asking.{step_unused}
use Rattle.hb_gateway.proofs.Ending.{settled_lives}
use Rattle.hb_gateway.specs.Asks.{asked_in}
use Rattle.hb_gateway.specs.Gateway.{Gateway, Stream, Phase, at_stream, unborn, opening, serving, faulted, closing, closed, no_stream, stage_of, at_stage, carries, has_room, is_active, settled, went_by, phase_by, end_cause, broken_by, break_cause, stops_by}
use Rattle.hb_gateway.specs.Hears.{hears_call, hears_by, hears, left_behind, after, hearing, all_hear}
use Rattle.hb_gateway.specs.Part.{Part, entry, dialled, lacked, looked, asks, tells, put, finished, credited, reset, dropped, done, stopped}
use Rattle.hb_gateway.specs.Response as response
use Rattle.hb_gateway.specs.Response.{Stage, unused, asked, carrying, failing, over, Heard, opens, brings, fails, is_living, answered, headed, brought, ended, failed, heard_of, left_by, is_success, refusal_of}
use Rattle.hb_gateway.specs.Runs.{entered, Steps, StandsFor, begins, goes_on}
use Rattle.hb_history.specs.Points.{data_in}
use Rattle.hb_hpack.specs.declared.header.Header.{Header}
use Rattle.hb_model.specs.Discovery.{status_of, is_interim}
use Rattle.hb_world.specs.declared.entry.Entry.{Entry}
use Rattle.hb_world.specs.declared.entry.Entry.TheVariants as e
use Rattle.hb_proxy.specs.Streams.{HasTunnel}

-- AT WHICH STAGE SOMETHING IS HEARD

abbrev HeardAt : Heard → Stage → Type 0
HeardAt (opens end) stage = stage ≡ asked
HeardAt (brings bytes) stage = stage ≡ carrying
HeardAt response.ends stage = stage ≡ carrying
HeardAt (fails why) stage = is_living stage ≡ true

abbrev IfHeard : Option Heard → Stage → Type 0
IfHeard None stage = Unit {0}
IfHeard (Some heard) stage = HeardAt heard stage

heard_living : (heard : Heard) (stage : Stage) → HeardAt heard stage → is_living stage ≡ true
heard_living (opens end) stage is = ap is_living is
heard_living (brings bytes) stage is = ap is_living is
heard_living response.ends stage is = ap is_living is
heard_living (fails why) stage is = is

either : (b : Bool) (heard : Option Heard) (stage : Stage) → IfHeard heard stage → IfHeard (cond b heard None) stage
either true heard stage is = is
either false heard stage is = tt

fails_so : (why : Cause) (stage : Stage) → IfHeard (failed why stage) stage
fails_so why asked = refl
fails_so why carrying = refl
fails_so why _ = tt

answers_so : (status : Option ℕ) (end : Bool) → IfHeard (answered status end) asked
answers_so status end = by (is_interim status) (is_success status) end
  where
    by : (a b c : Bool)
        → IfHeard (cond (a && not c) None (cond b (Some (opens end)) (Some (fails (cause.UpRefused (refusal_of status)))))) asked
    by true b false = tt
    by true true true = refl
    by true false true = refl
    by false true c = refl
    by false false c = refl

heads_so : (stage : Stage) (status : Option ℕ) (end : Bool) → IfHeard (headed stage status end) stage
heads_so asked status end = answers_so status end
heads_so carrying status end = refl
heads_so _ status end = tt

brings_so : (stage : Stage) (bytes : List ℕ) → IfHeard (brought stage bytes) stage
brings_so asked bytes = refl
brings_so carrying bytes = refl
brings_so _ bytes = tt

ends_so : (stage : Stage) → IfHeard (ended stage) stage
ends_so asked = refl
ends_so carrying = refl
ends_so _ = tt

found_so : (s : ℕ) (stage : Stage) (headers : List Header) (bytes : List ℕ) (told : Found)
    → IfHeard (heard_of s stage headers bytes told) stage
found_so s stage headers bytes (found.Opened k end) = either (k == s) _ stage (heads_so stage (status_of headers) end)
found_so s stage headers bytes (found.Chunk k end) = either (k == s) _ stage (brings_so stage bytes)
found_so s stage headers bytes (found.Ended k) = either (k == s) _ stage (ends_so stage)
found_so s stage headers bytes (found.Reset k code) = either (k == s) _ stage (fails_so (cause.PeerReset code) stage)
found_so s stage headers bytes (found.Broken k code) = either (k == s) _ stage (fails_so (cause.StreamFault code) stage)
found_so s stage headers bytes (found.GoneAway last) = either _ _ stage (fails_so cause.GoneAway stage)
found_so s stage headers bytes (found.Fault code) = fails_so (cause.ConnFault code) stage
found_so s stage headers bytes found.Silent = tt

called_so : (phase : Phase) (stage : Stage) (call : Entry) → IfHeard (hears_call phase stage call) stage
called_so phase stage (e.Ended k) = fails_so cause.PeerGone stage
called_so phase stage (e.Broke k) = fails_so (break_cause phase) stage
called_so phase stage _ = tt

hears_so : (phase : Phase) (s : ℕ) (stage : Stage) (p : Part) → IfHeard (hears_by phase s stage p) stage
hears_so phase s stage (entry call) = called_so phase stage call
hears_so phase s stage lacked = fails_so cause.NoMemory stage
hears_so phase s stage (looked points told headers) = found_so s stage headers (flat_map data_in points) told
hears_so phase s stage (stopped why) = fails_so why stage
hears_so phase s stage _ = tt

-- A TUNNEL THAT STAYS: the stream has it before and behind a part, of the same captured link
pub record TunnelStays (t u : Stream) : Type 0 where
  pub on : HasTunnel t → HasTunnel u
  pub back : HasTunnel u → HasTunnel t
  pub captured : u.captured ≡ t.captured

pub tunnel_same : (t u : Stream) → u ≡ t → TunnelStays t u
tunnel_same t u is = record {
  on = subst HasTunnel (sym is);
  back = subst HasTunnel is;
  captured = ap (λ (z : Stream). z.captured) is;
}

pub some_told : (heard : Heard) (u : Stream) → u.mail ≡ Some heard → HasTunnel u
some_told heard u is = inr (λ none. let no : Some heard ≡ None = sym is ∙ none in cc)

-- so where it hears something
hearing_stays : (p : Part) (t : Stream) (heard : Option Heard) → IfHeard heard t.stage
    → TunnelStays t (hearing (after p t.stage heard) heard t)
hearing_stays p t None is = record { on = λ has. has; back = λ has. has; captured = refl }
hearing_stays p t (Some heard) is = record {
  on = λ has. some_told heard (hearing (after p t.stage (Some heard)) (Some heard) t) refl;
  back = λ has. inl (heard_living heard t.stage is);
  captured = refl;
}

pub hear_stays : (p : Part) (x : Gateway) (s : ℕ) → TunnelStays (x.streams s) ((all_hear p x).streams s)
hear_stays p x s = hearing_stays p (x.streams s) (hears x p s) (hears_so x.phase s (stage_of x s) p)

-- also where it was to be reset and no side of it is open
settled_stays : (active : Bool) (t u : Stream) → TunnelStays t u → TunnelStays t (at_stage (settled active u.stage) u)
settled_stays active t u stays = record {
  on = λ has. ⊎_elim (λ lives. inl (settled_lives active u.stage ∙ lives)) inr (stays.on has);
  back = λ has. stays.back (⊎_elim (λ lives. inl (sym (settled_lives active u.stage) ∙ lives)) inr has);
  captured = stays.captured;
}

-- an entry changes nothing more of it
module _ (t : Stream) where
  enters_stay : (call : Entry) (x : Gateway) (s : ℕ) → TunnelStays t (x.streams s) → TunnelStays t ((entered call x).streams s)
  enters_stay (e.Opened k) x s is = is
  enters_stay (e.Came k bytes) x s is = is
  enters_stay (e.Ended k) x s is = is
  enters_stay (e.Went k bytes) x s is = record { on = is.on; back = is.back; captured = is.captured }
  enters_stay (e.Broke k) x s is = is
  enters_stay (e.Closed k why) x s is = is
  enters_stay _ x s is = is

reset_stays : (t : Stream) (code : ℕ) → t.stage ≡ failing code → TunnelStays t (at_stage over t)
reset_stays t code is = record {
  on = ⊎_elim (λ lives. absurd (false≢true (sym (ap is_living is) ∙ lives))) inr;
  back = ⊎_elim (λ lives. absurd (false≢true lives)) inr;
  captured = refl;
}

-- what a link does to its streams by itself
abbrev pub IsShared : Part → Type 0
IsShared (asks s captured authority) = Unit {0}
IsShared (tells s heard begun) = Unit {0}
IsShared (put s bytes count) = Unit {0}
IsShared (finished s) = Unit {0}
IsShared (credited s n) = Unit {0}
IsShared (dropped s begun) = Unit {0}
IsShared (done s begun) = Unit {0}
IsShared p = ⊥

pub own_stays : (g : ℕ) (x : Gateway) (p : Part) (y : Gateway) → Steps g x p y → (IsShared p → ⊥) → (s : ℕ)
    → TunnelStays (x.streams s) (y.streams s)
own_stays g x (entry call) y steps own s =
    subst (λ (z : Gateway). TunnelStays (x.streams s) (z.streams s)) (sym steps.1)
    (enters_stay (x.streams s) call (all_hear (entry call) x) s (hear_stays (entry call) x s))
own_stays g x (dialled call key) y steps own s = tunnel_same (x.streams s) (y.streams s) (ap (λ (z : Gateway). z.streams s) steps.1)
own_stays g x lacked y steps own s =
    subst (λ (z : Gateway). TunnelStays (x.streams s) (z.streams s)) (sym steps.1) (hear_stays lacked x s)
own_stays g x (looked points told headers) y steps own s =
    subst (λ (z : Gateway). TunnelStays (x.streams s) (z.streams s)) (sym steps.6)
    (settled_stays (is_active steps.3 s) (x.streams s) ((all_hear (looked points told headers) x).streams s)
    (hear_stays (looked points told headers) x s))
own_stays g x (reset k code) y steps own s =
    subst (λ (z : Gateway). TunnelStays (x.streams s) (z.streams s)) (sym steps.2)
    (cond_both (s == k) (at_stage over (x.streams s)) (x.streams s) (λ (t : Stream). TunnelStays (x.streams s) t)
    (λ same. reset_stays (x.streams s) code (ap (stage_of x) (eqb-true s k same) ∙ steps.1))
    (λ apart. tunnel_same (x.streams s) (x.streams s) refl))
own_stays g x (stopped why) y steps own s =
    subst (λ (z : Gateway). TunnelStays (x.streams s) (z.streams s)) (sym steps.1) (hear_stays (stopped why) x s)
own_stays g x (asks k captured authority) y steps own s = absurd (own tt)
own_stays g x (tells k heard begun) y steps own s = absurd (own tt)
own_stays g x (put k bytes count) y steps own s = absurd (own tt)
own_stays g x (finished k) y steps own s = absurd (own tt)
own_stays g x (credited k n) y steps own s = absurd (own tt)
own_stays g x (dropped k begun) y steps own s = absurd (own tt)
own_stays g x (done k begun) y steps own s = absurd (own tt)

-- WHAT A TUNNEL IS STILL TO BE TOLD: its failure only where the stream is left, and anything else only where it carries bytes

abbrev pub is_left : Stage → Bool
is_left (failing code) = true
is_left over = true
is_left stage = false

abbrev pub MailFitsBy : Option Heard → Stage → Type 0
MailFitsBy None stage = Unit {0}
MailFitsBy (Some (fails why)) stage = is_left stage ≡ true
MailFitsBy (Some heard) stage = stage ≡ carrying

abbrev pub MailFits : Stream → Type 0
MailFits t = MailFitsBy t.mail t.stage

left_behind_left : (p : Part) (why : Cause) → is_left (left_behind p why) ≡ true
left_behind_left (looked points told headers) why = by told
  where
    by : (told : Found) → is_left (left_by told why) ≡ true
    by (found.Reset s code) = refl
    by (found.Broken s code) = refl
    by (found.Fault code) = refl
    by _ = refl
left_behind_left _ why = refl

hearing_fits : (p : Part) (t : Stream) (heard : Option Heard) → IfHeard heard t.stage → MailFits t
    → MailFits (hearing (after p t.stage heard) heard t)
hearing_fits p t None is fits = fits
hearing_fits p t (Some (opens end)) is fits = refl
hearing_fits p t (Some (brings bytes)) is fits = is
hearing_fits p t (Some response.ends) is fits = is
hearing_fits p t (Some (fails why)) is fits = left_behind_left p why

hear_fits : (p : Part) (x : Gateway) (s : ℕ) → MailFits (x.streams s) → MailFits ((all_hear p x).streams s)
hear_fits p x s fits = hearing_fits p (x.streams s) (hears x p s) (hears_so x.phase s (stage_of x s) p) fits

entered_fits : (call : Entry) (x : Gateway) (s : ℕ) → MailFits (x.streams s) → MailFits ((entered call x).streams s)
entered_fits (e.Opened k) x s fits = fits
entered_fits (e.Came k bytes) x s fits = fits
entered_fits (e.Ended k) x s fits = fits
entered_fits (e.Went k bytes) x s fits = fits
entered_fits (e.Broke k) x s fits = fits
entered_fits (e.Closed k why) x s fits = fits
entered_fits _ x s fits = fits

-- a stream that is reset was left
reset_fits : (mail : Option Heard) (stage : Stage) (code : ℕ) → stage ≡ failing code → MailFitsBy mail stage → MailFitsBy mail over
reset_fits None stage code is fits = tt
reset_fits (Some (fails why)) stage code is fits = refl
reset_fits (Some (opens end)) stage code is fits = absurd (let no : failing code ≡ carrying = sym is ∙ fits in cc)
reset_fits (Some (brings bytes)) stage code is fits = absurd (let no : failing code ≡ carrying = sym is ∙ fits in cc)
reset_fits (Some response.ends) stage code is fits = absurd (let no : failing code ≡ carrying = sym is ∙ fits in cc)

-- so was one that was to be reset
settled_fits : (active : Bool) (t : Stream) → MailFits t → MailFits (at_stage (settled active t.stage) t)
settled_fits active t fits = by active t.stage fits
  where
    by : (active : Bool) (stage : Stage) → MailFitsBy t.mail stage → MailFitsBy t.mail (settled active stage)
    by true stage fits = fits
    by false unused fits = fits
    by false asked fits = fits
    by false carrying fits = fits
    by false (failing code) fits = reset_fits t.mail (failing code) code refl fits
    by false over fits = fits

none_fits : (mail : Option Heard) (stage : Stage) → mail ≡ None → MailFitsBy mail stage
none_fits mail stage is = subst (λ (m : Option Heard). MailFitsBy m stage) (sym is) tt

-- a stream that wasn't asked for has no tunnel
pub unused_free : (t : Stream) → MailFits t → t.stage ≡ unused → HasTunnel t → ⊥
unused_free t fits is (inl lives) = false≢true (ap is_living (sym is) ∙ lives)
unused_free t fits is (inr told) = told (by t.mail (subst (MailFitsBy t.mail) is fits))
  where
    by : (mail : Option Heard) → MailFitsBy mail unused → mail ≡ None
    by None fits = refl
    by (Some (fails why)) fits = absurd (false≢true fits)
    by (Some (opens end)) fits = absurd (let no : unused ≡ carrying = fits in cc)
    by (Some (brings bytes)) fits = absurd (let no : unused ≡ carrying = fits in cc)
    by (Some response.ends) fits = absurd (let no : unused ≡ carrying = fits in cc)

-- a tunnel that is told its failure has ended; one that is told anything else lives on
pub ended_by : (t : Stream) (why : Cause) → MailFits t → t.mail ≡ Some (fails why) → is_living t.stage ≡ false
ended_by t why fits is = by t.stage (subst (λ (m : Option Heard). MailFitsBy m t.stage) is fits)
  where
    by : (stage : Stage) → is_left stage ≡ true → is_living stage ≡ false
    by (failing code) left = refl
    by over left = refl
    by asked left = absurd (false≢true left)
    by carrying left = absurd (false≢true left)
    by unused left = refl

abbrev pub goes_on_with : Heard → Bool
goes_on_with (fails why) = false
goes_on_with heard = true

pub lives_on : (t : Stream) (heard : Heard) → MailFits t → t.mail ≡ Some heard → goes_on_with heard ≡ true → t.stage ≡ carrying
lives_on t heard fits is goes = by heard goes (subst (λ (m : Option Heard). MailFitsBy m t.stage) is fits)
  where
    by : (heard : Heard) → goes_on_with heard ≡ true → MailFitsBy (Some heard) t.stage → t.stage ≡ carrying
    by (fails why) goes fits = absurd (false≢true goes)
    by (opens end) goes fits = fits
    by (brings bytes) goes fits = fits
    by response.ends goes fits = fits

-- one stream changes
module _ (k s : ℕ) (x : Gateway) (fits : MailFits (x.streams s)) where
  one_fits : (change : Stream → Stream) → (s ≡ k → MailFits (change (x.streams s)))
      → MailFits (cond (s == k) (change (x.streams s)) (x.streams s))
  one_fits change here =
      cond_both (s == k) (change (x.streams s)) (x.streams s) MailFits (λ same. here (eqb-true s k same)) (λ apart. fits)

step_fits : (g : ℕ) (x : Gateway) (p : Part) (y : Gateway) → Steps g x p y → (s : ℕ) → MailFits (x.streams s) → MailFits (y.streams s)
step_fits g x (entry call) y steps s fits =
    subst (λ (z : Gateway). MailFits (z.streams s)) (sym steps.1)
    (entered_fits call (all_hear (entry call) x) s (hear_fits (entry call) x s fits))
step_fits g x (dialled call key) y steps s fits = subst (λ (z : Gateway). MailFits (z.streams s)) (sym steps.1) fits
step_fits g x lacked y steps s fits = subst (λ (z : Gateway). MailFits (z.streams s)) (sym steps.1) (hear_fits lacked x s fits)
step_fits g x (looked points told headers) y steps s fits =
    subst (λ (z : Gateway). MailFits (z.streams s)) (sym steps.6)
    (settled_fits (is_active steps.3 s) ((all_hear (looked points told headers) x).streams s)
    (hear_fits (looked points told headers) x s fits))
step_fits g x (asks k captured authority) y steps s fits =
    subst (λ (z : Gateway). MailFits (z.streams s)) (sym steps.2)
    (one_fits k s x fits (λ t. record no_stream { stage = asked; captured = captured }) (λ same. tt))
step_fits g x (tells k heard begun) y steps s fits =
    subst (λ (z : Gateway). MailFits (z.streams s)) (sym steps.2) (one_fits k s x fits (λ t. record t { mail = None }) (λ same. tt))
step_fits g x (put k bytes count) y steps s fits = subst (λ (z : Gateway). MailFits (z.streams s)) (sym steps.4) fits
step_fits g x (finished k) y steps s fits = subst (λ (z : Gateway). MailFits (z.streams s)) (sym steps.3) fits
step_fits g x (credited k n) y steps s fits = subst (λ (z : Gateway). MailFits (z.streams s)) (sym steps.2) fits
step_fits g x (reset k code) y steps s fits =
    subst (λ (z : Gateway). MailFits (z.streams s)) (sym steps.2)
    (one_fits k s x fits (at_stage over) (λ same. reset_fits (x.streams s).mail (stage_of x s) code (ap (stage_of x) same ∙ steps.1) fits))
step_fits g x (dropped k begun) y steps s fits =
    subst (λ (z : Gateway). MailFits (z.streams s)) (sym steps.3)
    (one_fits k s x fits (at_stage _) (λ same. none_fits (x.streams s).mail _ (ap (λ (n : ℕ). (x.streams n).mail) same ∙ steps.1)))
step_fits g x (done k begun) y steps s fits =
    subst (λ (z : Gateway). MailFits (z.streams s)) (sym steps.3)
    (one_fits k s x fits (at_stage _) (λ same. none_fits (x.streams s).mail _ (ap (λ (n : ℕ). (x.streams n).mail) same ∙ steps.1)))
step_fits g x (stopped why) y steps s fits =
    subst (λ (z : Gateway). MailFits (z.streams s)) (sym steps.1) (hear_fits (stopped why) x s fits)

pub mails_fit : (g : ℕ) (x : Gateway) (parts : List Part) → StandsFor g x parts → (s : ℕ) → MailFits (x.streams s)
mails_fit g x parts (begins is none) s = subst (λ (z : Gateway). MailFits (z.streams s)) (sym is) tt
mails_fit g y more (goes_on {x = x} {parts = parts} stands p steps are) s =
    step_fits g x p y steps s (mails_fit g x parts stands s)

-- ONE STREAM CHANGES

module _ (x : Gateway) (s : ℕ) (change : Stream → Stream) (y : Gateway)
    (is : (t : ℕ) → y.streams t ≡ (at_stream s change x).streams t) where
  pub other_streams : (t : ℕ) → t ≢ s → y.streams t ≡ x.streams t
  other_streams t apart =
      is t ∙ cond_both (t == s) (change (x.streams t)) (x.streams t) (λ (z : Stream). z ≡ x.streams t)
      (λ same. absurd (apart (eqb-true t s same))) (λ other. refl)

  pub this_stream : y.streams s ≡ change (x.streams s)
  this_stream = is s ∙ cond-true (s == s) (change (x.streams s)) (x.streams s) (eq-eqb s s refl)

-- A LINK THAT WASN'T DIALLED CARRIES NONE

went_unborn : (phase : Phase) → went_by phase ≡ unborn → phase ≡ unborn
went_unborn (faulted code) is = absurd (let no : closing (cause.ConnFault code) ≡ unborn = is in cc)
went_unborn _ is = is

broken_unborn : (phase : Phase) → broken_by phase ≡ unborn → phase ≡ unborn
broken_unborn opening is = absurd (let no : closing cause.Broken ≡ unborn = is in cc)
broken_unborn serving is = absurd (let no : closing cause.Broken ≡ unborn = is in cc)
broken_unborn (faulted code) is = absurd (let no : closing (cause.ConnFault code) ≡ unborn = is in cc)
broken_unborn _ is = is

stops_unborn : (why : Cause) (phase : Phase) → stops_by why phase ≡ unborn → phase ≡ unborn
stops_unborn why opening is = absurd (let no : closing why ≡ unborn = is in cc)
stops_unborn why serving is = absurd (let no : closing why ≡ unborn = is in cc)
stops_unborn why _ is = is

told_unborn : (phase : Phase) (told : Found) → phase_by phase told ≡ unborn → phase ≡ unborn
told_unborn phase (found.Fault code) is = absurd (let no : faulted code ≡ unborn = is in cc)
told_unborn phase _ is = is

entered_unborn : (call : Entry) (x : Gateway) → (entered call x).phase ≡ unborn → x.phase ≡ unborn
entered_unborn (e.Opened k) x is = absurd (let no : serving ≡ unborn = is in cc)
entered_unborn (e.Came k bytes) x is = is
entered_unborn (e.Ended k) x is = absurd (let no : closing (end_cause x.conn) ≡ unborn = is in cc)
entered_unborn (e.Went k bytes) x is = went_unborn x.phase is
entered_unborn (e.Broke k) x is = broken_unborn x.phase is
entered_unborn (e.Closed k why) x is = absurd (let no : closed ≡ unborn = is in cc)
entered_unborn _ x is = is

-- one that is born stays so
still_unborn : (g : ℕ) (x : Gateway) (p : Part) (y : Gateway) → Steps g x p y → y.phase ≡ unborn → x.phase ≡ unborn
still_unborn g x (entry call) y steps is =
    entered_unborn call (all_hear (entry call) x) (sym (ap (λ (z : Gateway). z.phase) steps.1) ∙ is)
still_unborn g x (dialled call key) y steps is =
    absurd (let no : opening ≡ unborn = sym (ap (λ (z : Gateway). z.phase) steps.1) ∙ is in cc)
still_unborn g x lacked y steps is =
    absurd (let no : closing cause.NoMemory ≡ unborn = sym (ap (λ (z : Gateway). z.phase) steps.1) ∙ is in cc)
still_unborn g x (looked points told headers) y steps is =
    told_unborn x.phase told (sym (ap (λ (z : Gateway). z.phase) steps.6) ∙ is)
still_unborn g x (asks k captured authority) y steps is = sym (ap (λ (z : Gateway). z.phase) steps.2) ∙ is
still_unborn g x (tells k heard begun) y steps is = sym (ap (λ (z : Gateway). z.phase) steps.2) ∙ is
still_unborn g x (put k bytes count) y steps is = sym (ap (λ (z : Gateway). z.phase) steps.4) ∙ is
still_unborn g x (finished k) y steps is = sym (ap (λ (z : Gateway). z.phase) steps.3) ∙ is
still_unborn g x (credited k n) y steps is = sym (ap (λ (z : Gateway). z.phase) steps.2) ∙ is
still_unborn g x (reset k code) y steps is = sym (ap (λ (z : Gateway). z.phase) steps.2) ∙ is
still_unborn g x (dropped k begun) y steps is = sym (ap (λ (z : Gateway). z.phase) steps.3) ∙ is
still_unborn g x (done k begun) y steps is = sym (ap (λ (z : Gateway). z.phase) steps.3) ∙ is
still_unborn g x (stopped why) y steps is = stops_unborn why x.phase (sym (ap (λ (z : Gateway). z.phase) steps.1) ∙ is)

-- nothing is asked of one
unborn_asks : (g : ℕ) (x : Gateway) (p : Part) (y : Gateway) → Steps g x p y → x.phase ≡ unborn → (s : ℕ)
    → AllByRecursion (λ k. k ≢ s) (asked_in p)
unborn_asks g x (asks k captured authority) y steps is s =
    absurd (false≢true (ap carries (sym is) ∙ (and_parts (carries x.phase) (has_room x) steps.0).0))
unborn_asks g x (entry call) y steps is s = tt
unborn_asks g x (dialled call key) y steps is s = tt
unborn_asks g x lacked y steps is s = tt
unborn_asks g x (looked points told headers) y steps is s = tt
unborn_asks g x (tells k heard begun) y steps is s = tt
unborn_asks g x (put k bytes count) y steps is s = tt
unborn_asks g x (finished k) y steps is s = tt
unborn_asks g x (credited k n) y steps is s = tt
unborn_asks g x (reset k code) y steps is s = tt
unborn_asks g x (dropped k begun) y steps is s = tt
unborn_asks g x (done k begun) y steps is s = tt
unborn_asks g x (stopped why) y steps is s = tt

unborn_unused : (g : ℕ) (x : Gateway) (parts : List Part) → StandsFor g x parts → x.phase ≡ unborn → (s : ℕ) → stage_of x s ≡ unused
unborn_unused g x parts (begins is none) at s = ap (λ (z : Gateway). stage_of z s) is
unborn_unused g y more (goes_on {x = x} {parts = parts} stands p steps are) at s =
    let was = still_unborn g x p y steps at in
    step_unused g x y s p steps (unborn_asks g x p y steps was s) (unborn_unused g x parts stands was s)

pub unborn_free : (g : ℕ) (x : Gateway) (parts : List Part) → StandsFor g x parts → x.phase ≡ unborn → (s : ℕ) → HasTunnel (x.streams s) → ⊥
unborn_free g x parts stands is s =
    unused_free (x.streams s) (mails_fit g x parts stands s) (unborn_unused g x parts stands is s)
