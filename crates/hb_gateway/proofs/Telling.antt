-- A tunnel is told what it hears, in that order, in every run of a link; and the link keeps its key.
use Rattle.std.proofs.Common.{◌≡◌, inl, inr, ℕ, ◌<◌, ◌==◌, Bool, true, false, cond, List, [], ◌∷◌, ◌++◌, Option, Some, None, refl, ap, ap₂, sym, ◌∙◌, subst}
use Rattle.std.proofs.lemmas.Bool.{cond_both, eqb-true, eq-eqb}
use Rattle.std.proofs.lemmas.List.{append-nil, append_assoc}
use Rattle.hb_inbound.proofs.Admitted.{swapped}
use Rattle.hb_kept.specs.Numbers.{highest_used}
use Rattle.hb_world.specs.declared.entry.Entry.{Entry}
use Rattle.hb_world.specs.declared.entry.Entry.TheVariants as e
use Rattle.hb_gateway.specs.Calm.{AllTold}
use Rattle.hb_gateway.specs.Gateway.{Gateway, Phase, Stream, unborn, opening, serving, faulted, closing, closed, no_stream, stage_of, at_stage, at_stream, dropped_to}
use Rattle.hb_gateway.specs.Hears.{hears, posted, all_hear}
use Rattle.hb_gateway.specs.Key.{Key}
use Rattle.hb_gateway.specs.Laws.{RunsTell, RunsKeep}
use Rattle.hb_gateway.specs.Order as order
use Rattle.hb_gateway.specs.Order.{if_heard, HearsAll}
use Rattle.hb_gateway.specs.Part.{Part, entry, dialled, lacked, looked, asks, tells, put, finished, credited, reset, dropped, done, stopped}
use Rattle.hb_gateway.specs.Response.{Stage, unused, asked, over, Heard}
use Rattle.hb_gateway.specs.Runs.{MayCome, IsWritable, Lacks, entered, Steps, StandsFor}
use Rattle.hb_gateway.specs.Runs as runs
use Rattle.hb_gateway.specs.Sides.{key_by, key_of, told_in, told_on}
use Rattle.hb_gateway.proofs.Asking.{number_above, all_know}
use Rattle.hb_gateway.proofs.Grown.{one_more, fold_one}
use Rattle.hb_gateway.proofs.Hearing.{OrderBy, all_hear_so, stands_for}

-- WHERE EACH TUNNEL WAS TOLD WHAT IT HEARD

writable_told : (x : Gateway) → IsWritable x → AllTold x
writable_told x (inl quiet) = quiet.0.calm.0
writable_told x (inr fault) = fault.0.0

broken_told : (g k : ℕ) (x : Gateway) → MayCome g x (e.Broke k) → AllTold x
broken_told g k x (own, inl quiet) = quiet.0.calm.0
broken_told g k x (own, inr may) = writable_told x may

lacks_told : (phase : Phase) (x : Gateway) → Lacks phase x → AllTold x
lacks_told serving x lacks = lacks.0
lacks_told unborn x lacks = absurd lacks
lacks_told opening x lacks = absurd lacks
lacks_told (faulted code) x lacks = absurd lacks
lacks_told (closing why) x lacks = absurd lacks
lacks_told closed x lacks = absurd lacks

posted_alone : (heard mail : Option Heard) → mail ≡ None → posted heard mail ≡ heard
posted_alone None mail none = none
posted_alone (Some heard) mail none = refl

nil_behind : (xs ys : List Heard) → [] ≡ xs ++ ys → ys ≡ []
nil_behind [] ys is = sym is
nil_behind (x ∷ xs) ys is = absurd (cc)

module _ (g s : ℕ) (x y : Gateway) (parts : List Part) (all : List Heard)
    (was : all ≡ told_on s parts ++ if_heard (x.streams s).mail) where
  abbrev IsTold : Part → Type 0
  IsTold p = all ++ if_heard (hears x p s) ≡ told_on s (parts ++ p ∷ []) ++ if_heard (y.streams s).mail

  -- with a part that tells this, and leaves this mail
  grows : (p : Part) (told : List Heard) (mail : Option Heard) → told_in s p ≡ told → (y.streams s).mail ≡ mail
      → if_heard (x.streams s).mail ++ if_heard (hears x p s) ≡ told ++ if_heard mail → IsTold p
  grows p told mail tell left is =
      ap (λ (hs : List Heard). hs ++ if_heard (hears x p s)) was
      ∙ append_assoc (told_on s parts) (if_heard (x.streams s).mail) (if_heard (hears x p s))
      ∙ ap (λ (hs : List Heard). told_on s parts ++ hs) is ∙ sym (append_assoc (told_on s parts) told (if_heard mail))
      ∙ sym (ap₂ (λ (hs ks : List Heard). hs ++ ks)
      (one_more (told_in s) parts p ∙ ap (λ (hs : List Heard). told_on s parts ++ hs) tell) (ap if_heard left))

  -- that tells nothing, with which nothing is heard
  quiet : (p : Part) → told_in s p ≡ [] → hears x p s ≡ None → (y.streams s).mail ≡ (x.streams s).mail → IsTold p
  quiet p tell silent left =
      grows p [] (x.streams s).mail tell left
      (ap (λ (h : Option Heard). if_heard (x.streams s).mail ++ if_heard h) silent ∙ append-nil (if_heard (x.streams s).mail))

  -- what is heard waits, where nothing waited
  posts : (p : Part) → told_in s p ≡ [] → (x.streams s).mail ≡ None → (y.streams s).mail ≡ posted (hears x p s) (x.streams s).mail
      → IsTold p
  posts p tell none left =
      grows p [] (hears x p s) tell (left ∙ posted_alone (hears x p s) (x.streams s).mail none)
      (ap (λ (m : Option Heard). if_heard m ++ if_heard (hears x p s)) none)

  mail_at : (z : Gateway) → y ≡ z → (y.streams s).mail ≡ (z.streams s).mail
  mail_at z is = ap (λ (w : Gateway). (w.streams s).mail) is

  -- a stream changes, and its mail stays
  kept : (k : ℕ) (change : Stream → Stream) → ((t : Stream) → (change t).mail ≡ t.mail)
      → ((at_stream k change x).streams s).mail ≡ (x.streams s).mail
  kept k change same =
      cond_both (s == k) (change (x.streams s)) (x.streams s) (λ (t : Stream). t.mail ≡ (x.streams s).mail)
      (λ is. same (x.streams s)) (λ apart. refl)

  call_told : (call : Entry) → MayCome g x call → y ≡ entered call (all_hear (entry call) x) → IsTold (entry call)
  call_told (e.Opened k) may is = quiet (entry (e.Opened k)) refl refl (mail_at _ is)
  call_told (e.Came k bytes) may is = quiet (entry (e.Came k bytes)) refl refl (mail_at _ is)
  call_told (e.Ended k) may is = posts (entry (e.Ended k)) refl (may.1.0.0.calm.0 s) (mail_at _ is)
  call_told (e.Went k bytes) may is = quiet (entry (e.Went k bytes)) refl refl (mail_at _ is)
  call_told (e.Broke k) may is = posts (entry (e.Broke k)) refl (broken_told g k x may s) (mail_at _ is)
  call_told (e.Closed k why) may is = quiet (entry (e.Closed k why)) refl refl (mail_at _ is)
  call_told (e.Balked how) may is = quiet (entry (e.Balked how)) refl refl (mail_at _ is)
  call_told (e.Accepted k door) may is = absurd may
  call_told (e.Dialled k to why) may is = absurd may
  call_told (e.DialFailed to why) may is = absurd may
  call_told (e.Shut k) may is = absurd may
  call_told e.Tick may is = absurd may
  call_told (e.Wait ready how) may is = absurd may

  -- the stream that is told, and the others
  told_now : (k begun : ℕ) (heard : Heard) → (x.streams k).mail ≡ Some heard → y ≡ at_stream k (λ t. record t { mail = None }) x
      → IsTold (tells k heard begun)
  told_now k begun heard mail is = by (s == k) refl
    where
      by : (b : Bool) → (s == k) ≡ b → IsTold (tells k heard begun)
      by true same =
          let at : s ≡ k = eqb-true s k same in
          grows (tells k heard begun) (heard ∷ []) None
          (ap (λ (b : Bool). cond b (heard ∷ []) []) (eq-eqb k s (sym at)))
          (mail_at _ is ∙ ap (λ (b : Bool). (cond b (record (x.streams s) { mail = None }) (x.streams s)).mail) same)
          (ap (λ (m : Option Heard). if_heard m ++ []) (ap (λ (n : ℕ). (x.streams n).mail) at ∙ mail))
      by false apart =
          quiet (tells k heard begun) (ap (λ (b : Bool). cond b (heard ∷ []) []) (swapped s k apart)) refl
          (mail_at _ is ∙ ap (λ (b : Bool). (cond b (record (x.streams s) { mail = None }) (x.streams s)).mail) apart)

  -- nothing waits on a stream that wasn't asked for
  no_mail : OrderBy unused all → (x.streams s).mail ≡ None
  no_mail none = by (x.streams s).mail (nil_behind (told_on s parts) (if_heard (x.streams s).mail) (sym none ∙ was))
    where
      by : (m : Option Heard) → if_heard m ≡ [] → m ≡ None
      by None is = refl
      by (Some heard) is = absurd (cc)

  step_told : (p : Part) → StandsFor g x parts → OrderBy (stage_of x s) all → Steps g x p y → IsTold p
  step_told (entry call) stands fits steps = call_told call steps.0 steps.1
  step_told (dialled call key) stands fits steps = quiet (dialled call key) refl refl (mail_at _ steps.1)
  step_told lacked stands fits steps = posts lacked refl (lacks_told x.phase x steps.0 s) (mail_at _ steps.1)
  step_told (looked ps told headers) stands fits steps = posts (looked ps told headers) refl (steps.2 s) (mail_at _ steps.6)
  step_told (asks k captured authority) stands fits steps =
      quiet (asks k captured authority) refl refl
      (mail_at _ steps.2
      ∙ cond_both (s == k) (record no_stream { stage = asked; captured = captured }) (x.streams s)
      (λ (t : Stream). t.mail ≡ (x.streams s).mail)
      (λ is. sym (no_mail (subst (λ (t : Stage). OrderBy t all)
      ((all_know g x parts stands).unused s
      (subst (λ (n : ℕ). highest_used x.conn < n) (sym (eqb-true s k is)) (number_above x.conn k steps.1))) fits)))
      (λ apart. refl))
  step_told (tells k heard begun) stands fits steps = told_now k begun heard steps.0 steps.2
  step_told (put k bytes count) stands fits steps = quiet (put k bytes count) refl refl (mail_at _ steps.4)
  step_told (finished k) stands fits steps = quiet (finished k) refl refl (mail_at _ steps.3)
  step_told (credited k n) stands fits steps = quiet (credited k n) refl refl (mail_at _ steps.2)
  step_told (reset k code) stands fits steps =
      quiet (reset k code) refl refl (mail_at _ steps.2 ∙ kept k (at_stage over) (λ t. refl))
  step_told (dropped k begun) stands fits steps =
      quiet (dropped k begun) refl refl (mail_at _ steps.3 ∙ kept k (at_stage (dropped_to k x)) (λ t. refl))
  step_told (done k begun) stands fits steps =
      quiet (done k begun) refl refl (mail_at _ steps.3 ∙ kept k (at_stage over) (λ t. refl))
  step_told (stopped why) stands fits steps = posts (stopped why) refl (steps.0 s) (mail_at _ steps.1)

pub tell : RunsTell
tell g s x parts all (order.begins is none silent) =
    silent ∙ ap₂ (λ (ps : List Part) (w : Gateway). told_on s ps ++ if_heard (w.streams s).mail) (sym none) (sym is)
tell g s y more now (order.goes_on {x = x} {parts = parts} {all = all} before p steps grown told) =
    told
    ∙ step_told g s x y parts all (tell g s x parts all before) p (stands_for g s x parts all before)
    (all_hear_so g s x parts all before) steps
    ∙ ap (λ (ps : List Part). told_on s ps ++ if_heard (y.streams s).mail) (sym grown)

-- THE KEY

call_key : (call : Entry) (x : Gateway) → (entered call x).key ≡ x.key
call_key (e.Accepted k door) x = refl
call_key (e.Dialled k to why) x = refl
call_key (e.DialFailed to why) x = refl
call_key (e.Opened k) x = refl
call_key (e.Came k bytes) x = refl
call_key (e.Ended k) x = refl
call_key (e.Went k bytes) x = refl
call_key (e.Broke k) x = refl
call_key (e.Balked how) x = refl
call_key (e.Shut k) x = refl
call_key (e.Closed k why) x = refl
call_key e.Tick x = refl
call_key (e.Wait ready how) x = refl

step_key : (g : ℕ) (x y : Gateway) (p : Part) → Steps g x p y → y.key ≡ key_by x.key p
step_key g x y (entry call) steps = ap (λ (z : Gateway). z.key) steps.1 ∙ call_key call (all_hear (entry call) x)
step_key g x y (dialled call key) steps = ap (λ (z : Gateway). z.key) steps.1
step_key g x y lacked steps = ap (λ (z : Gateway). z.key) steps.1
step_key g x y (looked ps told headers) steps = ap (λ (z : Gateway). z.key) steps.6
step_key g x y (asks s captured authority) steps = ap (λ (z : Gateway). z.key) steps.2
step_key g x y (tells s heard begun) steps = ap (λ (z : Gateway). z.key) steps.2
step_key g x y (put s bytes count) steps = ap (λ (z : Gateway). z.key) steps.4
step_key g x y (finished s) steps = ap (λ (z : Gateway). z.key) steps.3
step_key g x y (credited s n) steps = ap (λ (z : Gateway). z.key) steps.2
step_key g x y (reset s code) steps = ap (λ (z : Gateway). z.key) steps.2
step_key g x y (dropped s begun) steps = ap (λ (z : Gateway). z.key) steps.3
step_key g x y (done s begun) steps = ap (λ (z : Gateway). z.key) steps.3
step_key g x y (stopped why) steps = ap (λ (z : Gateway). z.key) steps.1

pub keep_key : RunsKeep
keep_key g x parts (runs.begins is none) = ap₂ (λ (w : Gateway) (ps : List Part). w.key) is none ∙ ap key_of (sym none)
keep_key g y more (runs.goes_on {x = x} {parts = parts} before p steps grown) =
    step_key g x y p steps ∙ ap (λ (key : Key). key_by key p) (keep_key g x parts before)
    ∙ sym (ap key_of grown ∙ fold_one key_by _ parts p)
