-- The headers of a look are those that were read, and a tunnel by a gateway is told first what the gateway said first, in every run.
use Rattle.std.proofs.Common.{◌≡◌, inl, inr, ℕ, ◌==◌, ◌&&◌, Bool, true, false, cond, fold, List, [], ◌∷◌, ◌++◌, Option, Some, None, refl, ap, sym, ◌∙◌, subst}
use Rattle.std.specs.List.{flat_map}
use Rattle.std.proofs.lemmas.Bool.{cond_both, eqb-true, eq-eqb}
use Rattle.std.proofs.lemmas.List.{append-nil}
use Rattle.std.proofs.lemmas.List.Sums.{fold-append}
use Rattle.hb_base.specs.declared.cause.Cause.{Cause}
use Rattle.hb_base.specs.declared.cause.Cause.TheVariants as cause
use Rattle.hb_conn.specs.declared.found.Found.{Found}
use Rattle.hb_conn.specs.declared.found.Found.TheVariants as found
use Rattle.hb_gateway.proofs.Grown.{none_more, at_parts}
use Rattle.hb_gateway.proofs.Hearing.{IsOf, failed_of, told_of, OrderBy, all_hear_so}
use Rattle.hb_gateway.proofs.Runs.{all_keep}
use Rattle.hb_gateway.proofs.Telling.{tell}
use Rattle.hb_gateway.specs.Calm.{AllTold}
use Rattle.hb_gateway.specs.Gateway.{Gateway, Phase, Stream, serving, no_link, no_stream, stage_of, at_stage, carries, is_active, settled, dropped_to, break_cause}
use Rattle.hb_gateway.specs.Hears.{hears, left_behind, after, posted, all_hear}
use Rattle.hb_gateway.specs.Order as order
use Rattle.hb_gateway.specs.Order.{if_heard, HearsAll, Progress, waits, is_open, hearing, progress_of}
use Rattle.hb_gateway.specs.Part.{Part, entry, dialled, lacked, looked, asks, put, finished, credited, reset, dropped, done, stopped}
use Rattle.hb_gateway.specs.Part as gateway
use Rattle.hb_gateway.specs.Response.{Stage, unused, asked, carrying, failing, over, cancel, Heard, opens, brings, ends, fails, failed, heard_of, left_by}
use Rattle.hb_gateway.specs.Runs as gateway_runs
use Rattle.hb_gateway.specs.Runs.{MayCome, IsWritable, Lacks, entered}
use Rattle.hb_gateway.specs.Sides.{told_in, told_on}
use Rattle.hb_history.specs.Points as history
use Rattle.hb_history.specs.Points.{data_in}
use Rattle.hb_hpack.specs.declared.header.Header.{Header}
use Rattle.hb_inbound.proofs.Admitted.{swapped}
use Rattle.hb_model.specs.Discovery.{headers_read}
use Rattle.hb_model.specs.declared.config.NodeConfig.{NodeConfig}
use Rattle.hb_proxy.proofs.Gates.{gates_run}
use Rattle.hb_proxy.proofs.Places.{at_points}
use Rattle.hb_proxy.specs.Machine.{Machine}
use Rattle.hb_proxy.specs.Points.{Point, of_control, of_link, of_plain, of_gate, of_stream, gates_of}
use Rattle.hb_proxy.specs.Runs.{Steps, StandsFor}
use Rattle.hb_proxy.specs.Shared.{tells}
use Rattle.hb_world.specs.declared.entry.Entry.{Entry}
use Rattle.hb_world.specs.declared.entry.Entry.TheVariants as e
use Rattle.hb_laws.specs.Gateways.{HeadersAt, HeaderLaw, says_first, said_on, MayBeTold, OpensAt, OpenLaw}

-- HEADERS

headers_next : (g : ℕ) (x y : Gateway) (before : List Part) (p : Part) → gateway_runs.StandsFor g x before → gateway_runs.Steps g x p y
    → HeadersAt before p
headers_next g x y before (looked points told headers) stands steps =
    let keeps = all_keep g y (before ++ looked points told headers ∷ [])
    (gateway_runs.goes_on stands (looked points told headers) steps refl) in
    record {
      now = record { conn = y.conn; stands = keeps.stands; unwritten = y.front; front = keeps.front };
      read = steps.5 ∙ ap headers_read (sym (ap (λ (z : Gateway). z.conn) steps.6));
    }
headers_next g x y before _ stands steps = tt

pub runs_read : (g : NodeConfig) (x : Machine) (points : List Point) (n : ℕ) → StandsFor g x points → HeaderLaw (gates_of n points)
runs_read g x points n stands = at_parts n HeadersAt (headers_next n) (x.gates n) (gates_of n points) (gates_run g x points n stands)

-- WHAT A TUNNEL HEARD

-- one that waits heard nothing, one that is open did
never_waits : (now : Progress) (heard : Heard) → hearing now heard ≡ waits → ⊥
never_waits waits (opens end) is = cc
never_waits waits (fails why) is = cc
never_waits is_open (brings bytes) is = cc
never_waits is_open ends is = cc
never_waits is_open (fails why) is = cc
never_waits _ _ is = cc

waited : (now : Progress) (all : List Heard) → fold hearing now all ≡ waits → now ≡ waits
waited now [] is = is
waited now (heard ∷ more) is = absurd (never_waits now heard (waited (hearing now heard) more is))

none_waits : (all : List Heard) → progress_of all ≡ waits → all ≡ []
none_waits [] is = refl
none_waits (heard ∷ more) is = absurd (never_waits waits heard (waited (hearing waits heard) more is))

some_open : (all : List Heard) → progress_of all ≡ is_open → (first : Heard) × (more : List Heard) × (all ≡ first ∷ more)
some_open [] is = absurd (let no : waits ≡ is_open = is in cc)
some_open (first ∷ more) is = (first, more, refl)

later_told : (first : Heard) (more : List Heard) (said : Option Heard) (heard : Heard) → IsOf carrying (Some heard)
    → MayBeTold (first ∷ more) said heard
later_told first more said (opens end) may = absurd may
later_told first more said (brings bytes) may = tt
later_told first more said ends may = tt
later_told first more said (fails why) may = tt

-- what is heard now may be told, behind what was told
may_tell : (stage : Stage) (told : List Heard) (said : Option Heard) (heard : Heard) → OrderBy stage told → IsOf stage (Some heard)
    → (stage ≡ asked → MayBeTold [] said heard) → MayBeTold told said heard
may_tell asked told said heard fits may first =
    subst (λ (ts : List Heard). MayBeTold ts said heard) (sym (none_waits told fits)) (first refl)
may_tell carrying told said heard fits may first =
    let some = some_open told fits in
    subst (λ (ts : List Heard). MayBeTold ts said heard) (sym some.2) (later_told some.0 some.1 said heard may)
may_tell unused told said heard fits may first = absurd may
may_tell (failing code) told said heard fits may first = absurd may
may_tell over told said heard fits may first = absurd may

-- HOW FAR A STREAM IS

found_left : (told : Found) (why : Cause) → left_by told why ≡ asked → ⊥
found_left (found.Reset s code) why is = cc
found_left (found.Broken s code) why is = cc
found_left (found.Fault code) why is = cc
found_left (found.GoneAway last) why is = cc
found_left _ why is = cc

never_left : (p : Part) (why : Cause) → left_behind p why ≡ asked → ⊥
never_left (looked points told headers) why is = found_left told why is
never_left _ why is = cc

-- one that is asked still was so, and heard nothing
still_asked : (p : Part) (stage : Stage) (heard : Option Heard) → IsOf stage heard → after p stage heard ≡ asked
    → (stage ≡ asked) × (heard ≡ None)
still_asked p stage None may is = (is, refl)
still_asked p asked (Some (opens end)) may is = absurd cc
still_asked p asked (Some (fails why)) may is = absurd (never_left p why is)
still_asked p asked (Some (brings bytes)) may is = absurd may
still_asked p asked (Some ends) may is = absurd may
still_asked p carrying (Some (brings bytes)) may is = absurd cc
still_asked p carrying (Some ends) may is = absurd cc
still_asked p carrying (Some (fails why)) may is = absurd (never_left p why is)
still_asked p carrying (Some (opens end)) may is = absurd may
still_asked p unused (Some heard) may is = absurd may
still_asked p (failing code) (Some heard) may is = absurd may
still_asked p over (Some heard) may is = absurd may

settled_asked : (active : Bool) (stage : Stage) → settled active stage ≡ asked → stage ≡ asked
settled_asked true stage is = is
settled_asked false (failing code) is = absurd cc
settled_asked false _ is = is

dropped_asked : (s : ℕ) (x : Gateway) → dropped_to s x ≡ asked → ⊥
dropped_asked s x =
    cond_both (carries x.phase && is_active x.conn s) (failing cancel) over (λ (stage : Stage). stage ≡ asked → ⊥) (λ on is. cc)
    (λ off is. cc)

posted_alone : (heard mail : Option Heard) → mail ≡ None → posted heard mail ≡ heard
posted_alone None mail none = none
posted_alone (Some heard) mail none = refl

fails_for : (why : Cause) (stage : Stage) (heard : Heard) → failed why stage ≡ Some heard → heard ≡ fails why
fails_for why asked heard is = cc
fails_for why carrying heard is = cc
fails_for why unused heard is = absurd cc
fails_for why (failing code) heard is = absurd cc
fails_for why over heard is = absurd cc

-- where its link breaks, or lacks memory, each tunnel was told what it heard
writable_told : (x : Gateway) → IsWritable x → AllTold x
writable_told x (inl quiet) = quiet.0.calm.0
writable_told x (inr fault) = fault.0.0

broken_told : (g k : ℕ) (x : Gateway) → MayCome g x (e.Broke k) → AllTold x
broken_told g k x (own, inl quiet) = quiet.0.calm.0
broken_told g k x (own, inr may) = writable_told x may

lacks_told : (phase : Phase) (x : Gateway) → Lacks phase x → AllTold x
lacks_told serving x lacks = lacks.0
lacks_told _ x lacks = absurd lacks

-- WHAT A TUNNEL IS TOLD: while its stream is asked the gateway said nothing; and what it is still to be told it may be told
record Told (s : ℕ) (x : Gateway) (parts : List Part) : Type 0 where
  silent : stage_of x s ≡ asked → said_on s parts ≡ None
  mail : (heard : Heard) → (x.streams s).mail ≡ Some heard → MayBeTold (told_on s parts) (said_on s parts) heard

module _ (g s : ℕ) (x y : Gateway) (parts : List Part) (all : List Heard) (run : HearsAll g s x parts all) (old : Told s x parts) where
  abbrev IsTold : Part → Type 0
  IsTold p = Told s y (parts ++ p ∷ [])

  abbrev says : Part → Option Heard
  says p = says_first s (said_on s parts) p

  said_next : (p : Part) → said_on s (parts ++ p ∷ []) ≡ says p
  said_next p = fold-append (says_first s) None parts (p ∷ [])

  told_next : (p : Part) → told_in s p ≡ [] → told_on s (parts ++ p ∷ []) ≡ told_on s parts
  told_next p none = none_more (told_in s) parts p none

  -- one that tells the tunnel nothing
  tell_next : (p : Part) (heard : Heard) → told_in s p ≡ [] → MayBeTold (told_on s parts) (says p) heard
      → MayBeTold (told_on s (parts ++ p ∷ [])) (said_on s (parts ++ p ∷ [])) heard
  tell_next p heard none may =
      subst (λ (ts : List Heard). MayBeTold ts (said_on s (parts ++ p ∷ [])) heard) (sym (told_next p none))
      (subst (λ (said : Option Heard). MayBeTold (told_on s parts) said heard) (sym (said_next p)) may)

  -- with which the gateway says nothing, and which leaves what is to be told
  quiet : (p : Part) → told_in s p ≡ [] → says p ≡ said_on s parts → (stage_of y s ≡ asked → stage_of x s ≡ asked)
      → (y.streams s).mail ≡ (x.streams s).mail → IsTold p
  quiet p none same was left = record {
    silent = λ is. said_next p ∙ same ∙ old.silent (was is);
    mail = λ heard is.
        tell_next p heard none
        (subst (λ (said : Option Heard). MayBeTold (told_on s parts) said heard) (sym same) (old.mail heard (sym left ∙ is)));
  }

  -- behind which nothing is to be told
  empties : (p : Part) → (stage_of y s ≡ asked → says p ≡ None) → (y.streams s).mail ≡ None → IsTold p
  empties p silent none = record {
    silent = λ is. said_next p ∙ silent is;
    mail = λ heard is. absurd (let no : None ≡ Some heard = sym none ∙ is in cc);
  }

  -- with which the tunnel hears something, or not, where all was told
  in_order : (x.streams s).mail ≡ None → OrderBy (stage_of x s) (told_on s parts)
  in_order none =
      subst (OrderBy (stage_of x s))
      (tell g s x parts all run ∙ ap (λ (m : Option Heard). told_on s parts ++ if_heard m) none ∙ append-nil (told_on s parts))
      (all_hear_so g s x parts all run)

  posts : (p : Part) → told_in s p ≡ [] → (x.streams s).mail ≡ None → IsOf (stage_of x s) (hears x p s)
      → (stage_of y s ≡ asked → after p (stage_of x s) (hears x p s) ≡ asked)
      → (y.streams s).mail ≡ posted (hears x p s) (x.streams s).mail
      → (stage_of x s ≡ asked → hears x p s ≡ None → says p ≡ None)
      → ((heard : Heard) → stage_of x s ≡ asked → hears x p s ≡ Some heard → MayBeTold [] (says p) heard) → IsTold p
  posts p none free may was left silent first = record {
    silent = λ is.
        (let both = still_asked p (stage_of x s) (hears x p s) may (was is) in said_next p ∙ silent both.0 both.1);
    mail = λ heard is.
        (let now : hears x p s ≡ Some heard = sym (left ∙ posted_alone (hears x p s) (x.streams s).mail free) ∙ is in
        tell_next p heard none
        (may_tell (stage_of x s) (told_on s parts) (says p) heard (in_order free) (subst (IsOf (stage_of x s)) now may)
        (λ at. first heard at now)));
  }

  -- an end of the link, with which the gateway says nothing
  breaks : (p : Part) (why : Cause) → told_in s p ≡ [] → (x.streams s).mail ≡ None → hears x p s ≡ failed why (stage_of x s)
      → (stage_of y s ≡ asked → after p (stage_of x s) (hears x p s) ≡ asked)
      → (y.streams s).mail ≡ posted (hears x p s) (x.streams s).mail → says p ≡ said_on s parts → IsTold p
  breaks p why none free is was left same =
      posts p none free (subst (IsOf (stage_of x s)) (sym is) (failed_of why (stage_of x s))) was left
      (λ at silent. same ∙ old.silent at)
      (λ heard at now. subst (λ (said : Option Heard). MayBeTold [] said heard) (sym (same ∙ old.silent at))
      (why, fails_for why (stage_of x s) heard (sym is ∙ now)))

  -- what the link becomes
  stage_at : (z : Gateway) → y ≡ z → stage_of y s ≡ stage_of z s
  stage_at z is = ap (λ (w : Gateway). stage_of w s) is

  mail_at : (z : Gateway) → y ≡ z → (y.streams s).mail ≡ (z.streams s).mail
  mail_at z is = ap (λ (w : Gateway). (w.streams s).mail) is

  call_told : (call : Entry) → MayCome g x call → y ≡ entered call (all_hear (entry call) x) → IsTold (entry call)
  call_told (e.Opened k) may is = quiet (entry (e.Opened k)) refl refl (λ at. sym (stage_at _ is) ∙ at) (mail_at _ is)
  call_told (e.Came k bytes) may is = quiet (entry (e.Came k bytes)) refl refl (λ at. sym (stage_at _ is) ∙ at) (mail_at _ is)
  call_told (e.Went k bytes) may is = quiet (entry (e.Went k bytes)) refl refl (λ at. sym (stage_at _ is) ∙ at) (mail_at _ is)
  call_told (e.Closed k why) may is = quiet (entry (e.Closed k why)) refl refl (λ at. sym (stage_at _ is) ∙ at) (mail_at _ is)
  call_told (e.Balked how) may is = quiet (entry (e.Balked how)) refl refl (λ at. sym (stage_at _ is) ∙ at) (mail_at _ is)
  call_told (e.Ended k) may is =
      breaks (entry (e.Ended k)) cause.PeerGone refl (may.1.0.0.calm.0 s) refl (λ at. sym (stage_at _ is) ∙ at) (mail_at _ is) refl
  call_told (e.Broke k) may is =
      breaks (entry (e.Broke k)) (break_cause x.phase) refl (broken_told g k x may s) refl (λ at. sym (stage_at _ is) ∙ at)
      (mail_at _ is) refl
  call_told (e.Accepted k door) may is = absurd may
  call_told (e.Dialled k to why) may is = absurd may
  call_told (e.DialFailed to why) may is = absurd may
  call_told (e.Shut k) may is = absurd may
  call_told e.Tick may is = absurd may
  call_told (e.Wait ready how) may is = absurd may

  -- a look at frames, which says what it is heard to say
  module _ (points : List history.Point) (told : Found) (headers : List Header) where
    abbrev look : Part
    look = looked points told headers

    says_so : (heard : Option Heard) → stage_of x s ≡ asked → hears x look s ≡ heard → says look ≡ heard
    says_so heard at is =
        ap (λ (said : Option Heard). says_first s said look) (old.silent at)
        ∙ ap (λ (stage : Stage). heard_of s stage headers (flat_map data_in points) told) (sym at) ∙ is

    look_told : (active : Bool) → (x.streams s).mail ≡ None
        → stage_of y s ≡ settled active (after look (stage_of x s) (hears x look s))
        → (y.streams s).mail ≡ posted (hears x look s) (x.streams s).mail → IsTold look
    look_told active free stage left =
        posts look refl free (told_of s (stage_of x s) headers (flat_map data_in points) told)
        (λ at. settled_asked active (after look (stage_of x s) (hears x look s)) (sym stage ∙ at)) left
        (λ at none. says_so None at none)
        (λ heard at now. subst (λ (said : Option Heard). MayBeTold [] said heard) (sym (says_so (Some heard) at now)) refl)

  -- a stream changes
  asks_told : (k captured : ℕ) (p : Part) → told_in s p ≡ [] → says p ≡ cond (k == s) None (said_on s parts)
      → y.streams s ≡ cond (s == k) (record no_stream { stage = asked; captured = captured }) (x.streams s) → IsTold p
  asks_told k captured p none says_is streams = by (s == k) refl
    where
      by : (same : Bool) → (s == k) ≡ same → IsTold p
      by true same =
          let at : s ≡ k = eqb-true s k same in
          empties p (λ is. says_is ∙ ap (λ (b : Bool). cond b None (said_on s parts)) (eq-eqb k s (sym at)))
          (ap (λ (t : Stream). t.mail) streams
          ∙ ap (λ (b : Bool). (cond b (record no_stream { stage = asked; captured = captured }) (x.streams s)).mail) same)
      by false apart =
          let stays = streams
          ∙ ap (λ (b : Bool). cond b (record no_stream { stage = asked; captured = captured }) (x.streams s)) apart in
          quiet p none (says_is ∙ ap (λ (b : Bool). cond b None (said_on s parts)) (swapped s k apart))
          (λ is. sym (ap (λ (t : Stream). t.stage) stays) ∙ is) (ap (λ (t : Stream). t.mail) stays)

  tells_told : (k begun : ℕ) (heard : Heard) → y.streams s ≡ cond (s == k) (record (x.streams s) { mail = None }) (x.streams s)
      → IsTold (gateway.tells k heard begun)
  tells_told k begun heard streams = by (s == k) refl
    where
      by : (same : Bool) → (s == k) ≡ same → IsTold (gateway.tells k heard begun)
      by true same =
          let stays = streams ∙ ap (λ (b : Bool). cond b (record (x.streams s) { mail = None }) (x.streams s)) same in
          empties (gateway.tells k heard begun) (λ is. old.silent (sym (ap (λ (t : Stream). t.stage) stays) ∙ is))
          (ap (λ (t : Stream). t.mail) stays)
      by false apart =
          let stays = streams ∙ ap (λ (b : Bool). cond b (record (x.streams s) { mail = None }) (x.streams s)) apart in
          quiet (gateway.tells k heard begun) (ap (λ (b : Bool). cond b (heard ∷ []) []) (swapped s k apart)) refl
          (λ is. sym (ap (λ (t : Stream). t.stage) stays) ∙ is) (ap (λ (t : Stream). t.mail) stays)

  -- its tunnel ended
  leaves : (p : Part) (k : ℕ) (stage : Stage) → told_in s p ≡ [] → says p ≡ said_on s parts → (stage ≡ asked → ⊥)
      → y.streams s ≡ cond (s == k) (at_stage stage (x.streams s)) (x.streams s) → IsTold p
  leaves p k stage none same never streams =
      quiet p none same
      (λ is. cond_both (s == k) (at_stage stage (x.streams s)) (x.streams s)
      (λ (t : Stream). t.stage ≡ asked → stage_of x s ≡ asked) (λ on now. absurd (never now)) (λ apart now. now)
      (sym (ap (λ (t : Stream). t.stage) streams) ∙ is))
      (ap (λ (t : Stream). t.mail) streams
      ∙ cond_both (s == k) (at_stage stage (x.streams s)) (x.streams s) (λ (t : Stream). t.mail ≡ (x.streams s).mail) (λ on. refl)
      (λ apart. refl))

  over_asked : over ≡ asked → ⊥
  over_asked is = cc

  step_told : (p : Part) → gateway_runs.Steps g x p y → IsTold p
  step_told (entry call) steps = call_told call steps.0 steps.1
  step_told (dialled call key) steps = quiet (dialled call key) refl refl (λ at. sym (stage_at _ steps.1) ∙ at) (mail_at _ steps.1)
  step_told lacked steps =
      breaks lacked cause.NoMemory refl (lacks_told x.phase x steps.0 s) refl (λ at. sym (stage_at _ steps.1) ∙ at) (mail_at _ steps.1)
      refl
  step_told (looked points told headers) steps =
      look_told points told headers (is_active steps.3 s) (steps.2 s) (stage_at _ steps.6) (mail_at _ steps.6)
  step_told (asks k captured authority) steps =
      asks_told k captured (asks k captured authority) refl refl (ap (λ (w : Gateway). w.streams s) steps.2)
  step_told (gateway.tells k heard begun) steps = tells_told k begun heard (ap (λ (w : Gateway). w.streams s) steps.2)
  step_told (put k bytes count) steps =
      quiet (put k bytes count) refl refl (λ at. sym (stage_at _ steps.4) ∙ at) (mail_at _ steps.4)
  step_told (finished k) steps = quiet (finished k) refl refl (λ at. sym (stage_at _ steps.3) ∙ at) (mail_at _ steps.3)
  step_told (credited k n) steps = quiet (credited k n) refl refl (λ at. sym (stage_at _ steps.2) ∙ at) (mail_at _ steps.2)
  step_told (reset k code) steps =
      leaves (reset k code) k over refl refl over_asked (ap (λ (w : Gateway). w.streams s) steps.2)
  step_told (dropped k begun) steps =
      leaves (dropped k begun) k (dropped_to k x) refl refl (dropped_asked k x) (ap (λ (w : Gateway). w.streams s) steps.3)
  step_told (done k begun) steps = leaves (done k begun) k over refl refl over_asked (ap (λ (w : Gateway). w.streams s) steps.3)
  step_told (stopped why) steps =
      breaks (stopped why) why refl (steps.0 s) refl (λ at. sym (stage_at _ steps.1) ∙ at) (mail_at _ steps.1) refl

-- in every run
first_told : (s : ℕ) → Told s no_link []
first_told s = record { silent = λ is. refl; mail = λ heard is. absurd cc }

all_told : (g s : ℕ) (x : Gateway) (parts : List Part) (all : List Heard) → HearsAll g s x parts all → Told s x parts
all_told g s x parts all (order.begins is none silent) =
    subst (λ (ps : List Part). Told s x ps) (sym none) (subst (λ (w : Gateway). Told s w []) (sym is) (first_told s))
all_told g s y more now (order.goes_on {x = x} {parts = parts} {all = all} before p steps grown told) =
    subst (λ (ps : List Part). Told s y ps) (sym grown)
    (step_told g s x y parts all before (all_told g s x parts all before) p steps)

-- which has what each stream hears
hears_all : (g s : ℕ) (x : Gateway) (parts : List Part) → gateway_runs.StandsFor g x parts → (all : List Heard) × HearsAll g s x parts all
hears_all g s x parts (gateway_runs.begins is none) = ([], order.begins is none refl)
hears_all g s y more (gateway_runs.goes_on {x = x} {parts = parts} before p steps grown) =
    let so_far = hears_all g s x parts before in
    (so_far.0 ++ if_heard (hears x p s), order.goes_on so_far.1 p steps grown refl)

opens_next : (g : NodeConfig) (x y : Machine) (before : List Point) (p : Point) → StandsFor g x before → Steps g x p y → OpensAt before p
opens_next g x y before (of_stream l n s (tells heard begun)) stands steps =
    let all = hears_all n s (x.gates n) (gates_of n before) (gates_run g x before n stands) in
    (all_told n s (x.gates n) (gates_of n before) all.0 all.1).mail heard steps.2.0
opens_next g x y before (of_stream l n s _) stands steps = tt
opens_next g x y before (of_control q) stands steps = tt
opens_next g x y before (of_link l p) stands steps = tt
opens_next g x y before (of_plain l p) stands steps = tt
opens_next g x y before (of_gate n p) stands steps = tt

pub runs_open : (g : NodeConfig) (x : Machine) (points : List Point) → StandsFor g x points → OpenLaw points
runs_open g x points stands = at_points g OpensAt (opens_next g) x points stands
