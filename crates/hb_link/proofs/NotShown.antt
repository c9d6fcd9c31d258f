-- Links that code may not show, and what may not follow by itself.
use Rattle.std.proofs.Common.{◌≡◌, ◌⊎◌, inl, inr, ⊎_elim, ℕ, ◌<◌, false, List, [], ◌∷◌, ◌++◌, Option, Some, None, refl, ap, sym, ◌∙◌, subst, arith}
use Rattle.std.proofs.lemmas.Bool.{false≢true}
use Rattle.std.proofs.lemmas.List.{append-nil, append_cancel_left}
use Rattle.hb_base.specs.declared.cause.Cause.{Cause}
use Rattle.hb_base.specs.declared.cause.Cause.TheVariants as cause
use Rattle.hb_base.specs.declared.note.Note.{Note}
use Rattle.hb_base.specs.declared.note.Note.TheVariants as note
use Rattle.hb_inbound.specs.Calm.{RestsIn, RestsBy, IsNextEnded}
use Rattle.hb_inbound.specs.Inbound as m
use Rattle.hb_inbound.specs.Inbound.{Inbound, at_stream}
use Rattle.hb_inbound.specs.Part as part
use Rattle.hb_inbound.specs.Part.{Part, notes, note_in}
use Rattle.hb_inbound.specs.Runs.{Local, Steps, Refuses, Resets, Leaves, tunnel_for}
use Rattle.hb_inbound.specs.Tunnel as t
use Rattle.hb_inbound.specs.Tunnel.{Tunnel as Machine, ends_by, is_ended, is_unanswered}
use Rattle.hb_inbound.proofs.Admitted.{at_one}
use Rattle.hb_link.specs.declared.tunnel.Stage.{Stage}
use Rattle.hb_link.specs.declared.tunnel.Tunnel.{Tunnel}
use Rattle.hb_link.specs.Reaches.{Guard, IsInner, Leads, unguarded}
use Rattle.hb_link.specs.Refused.{KeepsNone, LivesEarly, HasAnother, PutsLater, AnswersLater, GetsLater, TellsNone, TellsHigherFirst, TellsTwice, TellsBehindLost, NewIsShown}
use Rattle.hb_link.specs.Shows.{ShowsBy}
use Rattle.hb_link.specs.Tunnels.{stage_of, ShowsAt, ShowsTunnel}
use Rattle.hb_link.proofs.Begun.{shows_new}
use Rattle.hb_link.proofs.Noted.{told_so}

pub keeps_none : KeepsNone
keeps_none k x s none live agrees =
    ⊎_elim (λ (is : (x.tunnels s).stage ≡ t.unasked). let both = sym live ∙ is in cc both)
    (λ (is : (x.tunnels s).stage ≡ t.gone). let both = sym live ∙ is in cc both)
    (subst (λ (o : Option Tunnel). ShowsTunnel o (x.tunnels s)) none (agrees.tunnels s))

pub lives_early : LivesEarly
lives_early k x s old is live due agrees =
    let shown = subst (λ (o : Option Tunnel). ShowsTunnel o (x.tunnels s)) is (agrees.tunnels s) in
    let told = (subst (λ (stage : Stage). ShowsAt (stage_of stage) old (x.tunnels s)) live shown).0 in
    let both = sym due ∙ ap (λ (z : Machine). z.stage) told ∙ ap stage_of live in
    cc both

pub has_another : HasAnother
has_another k x serving apart agrees = apart (subst (λ (phase : m.Phase). ShowsBy phase k x) serving agrees.way).0

pub puts_later : PutsLater
puts_later k x s serving live some shows =
    let rest = subst (λ (phase : m.Phase). RestsIn phase x) serving shows.calm.rests in
    let rests = subst (λ (stage : t.Stage). RestsBy stage x.conn s (x.tunnels s)) live (rest.1 s) in
    let none = rests.none_goes in
    absurd (omega (arith, some, none))

pub answers_later : AnswersLater
answers_later k x s why failed shows = false≢true (sym (shows.calm.answered s) ∙ ap is_unanswered failed)

pub gets_later : GetsLater
gets_later k x s why ended got = false≢true (sym (got.answered s) ∙ ap is_unanswered ended)

pub new_is_shown : NewIsShown
new_is_shown k phase front conn tunnels = shows_new k _ phase front conn tunnels refl refl (λ s. refl)

-- NOTES

-- the note isn't that of the end of a tunnel on this stream
abbrev IsNoEndOn : ℕ → ℕ → Note → Type 0
IsNoEndOn l j made = (second : Cause) (up down : ℕ) → made ≡ note.End l j second up down → ⊥

-- a part that makes no note leaves a tunnel that ended; and where it makes one, that isn't of a higher stream's end
record TellsInTurn (l : ℕ) (a : Local) (p : Part) (b : Local) (s : ℕ) (why : Cause) : Type 0 where
  stays : note_in p ≡ [] → (b.link.tunnels s).stage ≡ t.ended why
  first : (note_in p ≡ []) ⊎ ((made : Note) × (note_in p ≡ made ∷ []) × ((j : ℕ) → s < j → IsNoEndOn l j made))

module _ (l : ℕ) (a : Local) (s : ℕ) (why : Cause) (ended : (a.link.tunnels s).stage ≡ t.ended why) where
  abbrev x : Inbound
  x = a.link

  -- a part that may come only where all is answered doesn't come
  unanswered : {A : Type 0} → is_unanswered (x.tunnels s).stage ≡ false → A
  unanswered not = absurd (false≢true (sym not ∙ ap is_unanswered ended))

  -- no note
  quiet : (p : Part) (b : Local) → note_in p ≡ [] → (b.link.tunnels s).stage ≡ t.ended why → TellsInTurn l a p b s why
  quiet p b none is = record { stays = λ no. is; first = inl none }

  -- a note
  tells : (p : Part) (b : Local) (made : Note) → note_in p ≡ made ∷ [] → ((j : ℕ) → s < j → IsNoEndOn l j made) → TellsInTurn l a p b s why
  tells p b made is not = record { stays = λ no. let both = sym no ∙ is in absurd (cc both); first = inr (made, is, not) }

  -- a tunnel on a stream at another stage changes
  apart_stays : (k : ℕ) (change : Machine → Machine) (stage : t.Stage) → (x.tunnels k).stage ≡ stage → is_ended stage ≡ false
      → ((at_stream k change x).tunnels s).stage ≡ t.ended why
  apart_stays k change stage at not =
      at_one k change x (λ j z. (x.tunnels j).stage ≡ t.ended why → z.stage ≡ t.ended why)
      (λ is. absurd (false≢true (sym not ∙ ap is_ended (sym at ∙ is)))) (λ j apart is. is) s ended

  -- a refusal, a reset and a silent end tell no end of a higher stream
  refuses_other : (stage : t.Stage) (k n : ℕ) (made : Note) (next : Machine) → Refuses l k x stage n made next → (j : ℕ) → IsNoEndOn l j made
  refuses_other (t.refusing status target) k n made next is j second up down same = let both = sym is.1 ∙ same in cc both
  refuses_other (t.failed cause) k n made next is j second up down same = let both = sym is.2 ∙ same in cc both
  refuses_other t.unasked k n made next is j second up down same = absurd is
  refuses_other (t.requested headers end) k n made next is j second up down same = absurd is
  refuses_other t.malformed k n made next is j second up down same = absurd is
  refuses_other t.due k n made next is j second up down same = absurd is
  refuses_other t.opening k n made next is j second up down same = absurd is
  refuses_other t.accepting k n made next is j second up down same = absurd is
  refuses_other t.live k n made next is j second up down same = absurd is
  refuses_other (t.ended cause) k n made next is j second up down same = absurd is
  refuses_other (t.over cause) k n made next is j second up down same = absurd is
  refuses_other t.gone k n made next is j second up down same = absurd is

  -- the lower one's turn is first
  turn : (k j : ℕ) → s < j → k ≡ j → IsNextEnded x k → ⊥
  turn k j less same next =
      false≢true (sym (next.1 s (subst (λ (i : ℕ). s < i) (sym same) less)) ∙ ap is_ended ended)

  resets_other : (stage : t.Stage) (k n : ℕ) (made : Note) (next : Machine) → Resets l k x stage n made next → (j : ℕ) → s < j
      → IsNoEndOn l j made
  resets_other t.malformed k n made next is j less second up down same = let both = sym is.1 ∙ same in cc both
  resets_other (t.ended cause) k n made next is j less second up down same =
      turn k j less (let both = sym is.2 ∙ same in cc both) is.0
  resets_other (t.refusing status target) k n made next is j less second up down same = absurd is
  resets_other (t.failed cause) k n made next is j less second up down same = absurd is
  resets_other t.unasked k n made next is j less second up down same = absurd is
  resets_other (t.requested headers end) k n made next is j less second up down same = absurd is
  resets_other t.due k n made next is j less second up down same = absurd is
  resets_other t.opening k n made next is j less second up down same = absurd is
  resets_other t.accepting k n made next is j less second up down same = absurd is
  resets_other t.live k n made next is j less second up down same = absurd is
  resets_other (t.over cause) k n made next is j less second up down same = absurd is
  resets_other t.gone k n made next is j less second up down same = absurd is

  leaves_other : (stage : t.Stage) (k : ℕ) (made : Note) (next : Machine) → Leaves l k x stage (Some made) next → (j : ℕ) → s < j
      → IsNoEndOn l j made
  leaves_other (t.failed cause) k made next is j less second up down same = let none = is.2 in absurd (cc none)
  leaves_other (t.ended cause) k made next is j less second up down same =
      turn k j less (let some = is.2 in cc (some, same)) is.0
  leaves_other t.malformed k made next is j less second up down same = absurd is
  leaves_other (t.refusing status target) k made next is j less second up down same = absurd is
  leaves_other t.unasked k made next is j less second up down same = absurd is
  leaves_other (t.requested headers end) k made next is j less second up down same = absurd is
  leaves_other t.due k made next is j less second up down same = absurd is
  leaves_other t.opening k made next is j less second up down same = absurd is
  leaves_other t.accepting k made next is j less second up down same = absurd is
  leaves_other t.live k made next is j less second up down same = absurd is
  leaves_other (t.over cause) k made next is j less second up down same = absurd is
  leaves_other t.gone k made next is j less second up down same = absurd is

  -- which is left without a note isn't one that ended
  silent : (stage : t.Stage) (k : ℕ) (next : Machine) → Leaves l k x stage None next → is_ended stage ≡ false
  silent (t.failed cause) k next is = refl
  silent (t.ended cause) k next is = let some = is.2 in absurd (cc some)
  silent t.malformed k next is = absurd is
  silent (t.refusing status target) k next is = absurd is
  silent t.unasked k next is = absurd is
  silent (t.requested headers end) k next is = absurd is
  silent t.due k next is = absurd is
  silent t.opening k next is = absurd is
  silent t.accepting k next is = absurd is
  silent t.live k next is = absurd is
  silent (t.over cause) k next is = absurd is
  silent t.gone k next is = absurd is

  abbrev stage_in : Local → t.Stage
  stage_in w = (w.link.tunnels s).stage

  step_leaves : (p : Part) (b : Local) → IsInner p → Steps l a p b → TellsInTurn l a p b s why
  step_leaves (part.entry e) b inner step = absurd inner
  step_leaves (part.up k e) b inner step = absurd inner
  step_leaves part.crowded b inner step = absurd inner
  step_leaves (part.applied r) b inner step = absurd inner
  step_leaves (part.stopped cause) b inner step = absurd inner
  step_leaves part.welcomed b inner step = quiet part.welcomed b refl (ap stage_in step.1 ∙ ended)
  step_leaves part.lacked b inner step = quiet part.lacked b refl (ap stage_in step.1 ∙ ap (ends_by cause.NoMemory) ended)
  step_leaves (part.fronted seen) b inner step = quiet (part.fronted seen) b refl (ap stage_in step.4 ∙ ended)
  step_leaves (part.misfronted fault) b inner step = quiet (part.misfronted fault) b refl (ap stage_in step.2 ∙ ended)
  step_leaves (part.looked points told headers) b inner step = unanswered (step.1 s)
  step_leaves (part.decided k full answer) b inner step =
      quiet (part.decided k full answer) b refl
      (ap stage_in step.5 ∙ apart_stays k (λ z. tunnel_for answer step.1 step.2) (t.requested step.1 step.2) step.3 refl)
  step_leaves (part.accepted k made) b inner step =
      tells (part.accepted k made) b made refl (λ j less second up down end. let both = sym step.2 ∙ end in cc both)
  step_leaves (part.refused k n resets made) b inner step =
      tells (part.refused k n resets made) b made refl (λ j less. refuses_other (x.tunnels k).stage k n made step.1 step.2 j)
  step_leaves (part.reset k n made) b inner step =
      tells (part.reset k n made) b made refl (resets_other (x.tunnels k).stage k n made step.1 step.2)
  step_leaves (part.left k None) b inner step =
      quiet (part.left k None) b refl
      (ap stage_in step.2 ∙ apart_stays k (λ z. step.0) (x.tunnels k).stage refl (silent (x.tunnels k).stage k step.0 step.1))
  step_leaves (part.left k (Some made)) b inner step =
      tells (part.left k (Some made)) b made refl (leaves_other (x.tunnels k).stage k made step.0 step.1)
  step_leaves (part.done k made) b inner step = unanswered (step.0.1 s)
  step_leaves (part.put k bytes) b inner step = unanswered (step.0.1 s)
  step_leaves (part.finished k) b inner step = unanswered (step.0.1 s)
  step_leaves (part.credited k n) b inner step = unanswered (step.0.1 s)

none_in_front : (xs ys : List Note) → xs ++ ys ≡ [] → (xs ≡ []) × (ys ≡ [])
none_in_front [] ys is = (refl, is)
none_in_front (x ∷ xs) ys is = absurd (cc is)

-- where no note is told it stays
stays_ended : (G : Guard) (l : ℕ) (a b : Local) (parts : List Part) (s : ℕ) (why : Cause) → Leads G l a parts b → notes parts ≡ []
    → (a.link.tunnels s).stage ≡ t.ended why → (b.link.tunnels s).stage ≡ t.ended why
stays_ended G l a b [] s why is none ended = ap (λ (w : Local). (w.link.tunnels s).stage) is ∙ ended
stays_ended G l a b (p ∷ parts) s why is none ended =
    let both = none_in_front (note_in p) (notes parts) none in
    stays_ended G l is.2 b parts s why is.4 both.1 ((step_leaves l a s why ended p is.2 is.0 is.3).stays both.0)

pub tells_none : TellsNone
tells_none l a k told s why ended follows =
    let none : notes follows.parts ≡ [] =
    append_cancel_left told (notes follows.parts) []
    (sym (told_so told told (notes follows.parts) follows.noted) ∙ sym (append-nil told)) in
    gets_later k follows.reached.link s why (stays_ended unguarded l a follows.reached follows.parts s why follows.leads none ended) follows.shows

first_note : (G : Guard) (l : ℕ) (a b : Local) (parts : List Part) (s j : ℕ) (why second : Cause) (up down : ℕ) (rest : List Note)
    → s < j → Leads G l a parts b → (a.link.tunnels s).stage ≡ t.ended why → notes parts ≡ note.End l j second up down ∷ rest → ⊥
first_note G l a b [] s j why second up down rest less is ended made = cc made
first_note G l a b (p ∷ parts) s j why second up down rest less is ended made =
    let one = step_leaves l a s why ended p is.2 is.0 is.3 in
    ⊎_elim
    (λ (none : note_in p ≡ []).
    first_note G l is.2 b parts s j why second up down rest less is.4 (one.stays none)
    (sym (ap (λ (w : List Note). w ++ notes parts) none) ∙ made))
    (λ some.
    some.2 j less second up down (let both = sym (ap (λ (w : List Note). w ++ notes parts) some.1) ∙ made in cc both))
    one.first

pub tells_higher_first : TellsHigherFirst
tells_higher_first l a k told rest s j why second up down less ended follows =
    first_note unguarded l a follows.reached follows.parts s j why second up down rest less follows.leads ended
    (append_cancel_left told (notes follows.parts) (note.End l j second up down ∷ rest)
    (sym (told_so told (told ++ note.End l j second up down ∷ rest) (notes follows.parts) follows.noted)))

pub tells_twice : TellsTwice
tells_twice told n takes =
    let both = append_cancel_left told (n ∷ n ∷ []) (n ∷ []) (told_so told (told ++ n ∷ n ∷ []) (n ∷ []) takes) in cc both

pub tells_behind_lost : TellsBehindLost
tells_behind_lost more now takes = cc takes
