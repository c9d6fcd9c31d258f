-- What may be put on the streams of a link to a gateway is, of one stream after another.
use Rattle.std.proofs.Common.{◌≡◌, ⊎_elim, ℕ, ◌+◌, ◌<◌, ◌^◌, ◌==◌, ◌&&◌, ◌||◌, not, Bool, true, false, List, Option, Some, None, is_some, refl, ap, ap₂, sym, ◌∙◌, subst, arith}
use Rattle.std.proofs.lemmas.Bool.{and_parts, cases_eq, cases_lt, eqb-true, eq-eqb, false≢true, leb-true, ltb-true, le-leb, lt-ltb, or_cases, or_left, or_right}
use Rattle.std.specs.FinMap.{get}
use Rattle.hb_captured.specs.Captured.{Captured}
use Rattle.hb_captured.specs.Runs.{Lives}
use Rattle.hb_gate.specs.Calls as gate
use Rattle.hb_gate.specs.Shows as shown
use Rattle.hb_gate.specs.Streams.{IsNext}
use Rattle.hb_gate.specs.declared.gate.Gate.{Gate}
use Rattle.hb_gate.specs.declared.stream.Stream.{Stream}
use Rattle.hb_gateway.specs.Gateway.{stage_of}
use Rattle.hb_gateway.specs.Response.{carrying, is_living, unused, over}
use Rattle.hb_link.specs.Noted.{Told}
use Rattle.hb_model.specs.declared.config.NodeConfig.{NodeConfig}
use Rattle.hb_proxy.specs.Machine.{Machine, outward}
use Rattle.hb_proxy.specs.Points.{Point}
use Rattle.hb_proxy.specs.Runs.{StandsFor}
use Rattle.hb_relays.specs.Joining.{Streams, ShowsSome, GoesOn, all, every, not_of, with_link}
use Rattle.hb_relays.specs.Pumping.{Pumps, PumpsSet, PumpsFrom, PumpsOne, PumpsGate, is_from, is_before, with_streams}
use Rattle.hb_relays.specs.Shows.{ShowsGate}
use Rattle.hb_relays.specs.declared.relays.Relays.{Relays}
use Rattle.hb_relays.proofs.Onward.{shows_as, goes_nowhere, goes_as}
use Rattle.hb_relays.proofs.Progress.{stands_on, goes_then}
use Rattle.hb_relays.proofs.PumpedLink.{carried_of, gate_there, unlive_rests}

-- on one of the streams
abbrev on_streams : ℕ → (first next : Option ℕ) → Captured → Bool
on_streams n first next x = x.gate == n && (is_from first x.stream && is_before x.stream next)

record IsOn (n : ℕ) (first next : Option ℕ) (x : Captured) : Type 0 where
  gate : x.gate ≡ n
  from : is_from first x.stream ≡ true
  before : is_before x.stream next ≡ true

on_parts : (n : ℕ) (first next : Option ℕ) (x : Captured) → on_streams n first next x ≡ true → IsOn n first next x
on_parts n first next x is =
    let parts = and_parts (x.gate == n) (is_from first x.stream && is_before x.stream next) is in
    let more = and_parts (is_from first x.stream) (is_before x.stream next) parts.1 in
    record { gate = eqb-true x.gate n parts.0; from = more.0; before = more.1 }

and_true : (a b : Bool) → a ≡ true → b ≡ true → (a && b) ≡ true
and_true a b is also = ap (λ (c : Bool). c && b) is ∙ also

on_from : (n : ℕ) (first next : Option ℕ) (x : Captured) → IsOn n first next x → on_streams n first next x ≡ true
on_from n first next x is =
    and_true (x.gate == n) (is_from first x.stream && is_before x.stream next) (eq-eqb x.gate n is.gate)
    (and_true (is_from first x.stream) (is_before x.stream next) is.from is.before)

-- WHERE NO LINK LIVES ON ONE OF THEM all of them rest
module _ (n s : ℕ) (next : Option ℕ) (g : NodeConfig) (k : Relays) (x : Machine) (points : List Point) (stands : StandsFor g x points)
    (resting : Streams) (shows : ShowsSome all resting all g k (outward x)) where
  none_live : (told : Told) → ((l : ℕ) → IsOn n (Some s) next (x.plain l) → Lives (x.plain l) → ⊥)
      → GoesOn all (with_streams n (Some s) next resting) all g x k told told
  none_live told none =
      goes_nowhere all (with_streams n (Some s) next resting) all g x k told
      (shows_as all all resting (with_streams n (Some s) next resting) all g k (outward x) shows
      (λ l is. ⊎_elim (λ rests. shows.streams l rests)
      (λ on. unlive_rests x.gates (x.plain l) (none l (on_parts n (Some s) next (x.plain l) on)))
      (or_cases (resting l (x.plain l)) (on_streams n (Some s) next (x.plain l)) is))
      (λ l is. shows.wanting l is))

  no_gate : get k.gates n ≡ None → (l : ℕ) → IsOn n (Some s) next (x.plain l) → Lives (x.plain l) → ⊥
  no_gate none l on lives = gate_there g k resting x points stands shows l lives (ap (get k.gates) on.gate ∙ none)

  module _ (kept : Gate) (is : get k.gates n ≡ Some kept) where
    here : ShowsGate n (Some kept) (x.gates n)
    here = subst (λ (o : Option Gate). ShowsGate n o (x.gates n)) is (shows.gates n)

    stage : (l : ℕ) → IsOn n (Some s) next (x.plain l) → Lives (x.plain l) → stage_of (x.gates n) (x.plain l).stream ≡ carrying
    stage l on lives =
        ap (λ (i : ℕ). stage_of (x.gates i) (x.plain l).stream) (sym on.gate) ∙ (carried_of g k resting x points stands shows l lives).stage

    -- the code has no stream behind this one
    not_had : (t : ℕ) → get kept.streams t ≡ None → stage_of (x.gates n) t ≡ carrying → ⊥
    not_had t none at =
        let gone : shown.ShowsStream None ((x.gates n).streams t) =
        subst (λ (o : Option Stream). shown.ShowsStream o ((x.gates n).streams t)) none (here.1.streams t) in
        ⊎_elim (λ unasked. let no : carrying ≡ unused = sym at ∙ unasked in cc) (λ ended. let no : carrying ≡ over = sym at ∙ ended in cc)
        gone.0

    none_from : IsNext kept.streams (s + 1) next → (t : ℕ) → s < t → is_before t next ≡ true → get kept.streams t ≡ None
    none_from = by next
      where
        few : (t : ℕ) → (o : Option Stream) → get kept.streams t ≡ o → (t < 2 ^ 32 → get kept.streams t ≡ None)
            → get kept.streams t ≡ None
        few t None is none = is
        few t (Some w) is none = none (let most = here.1.numbered t (ap is_some is) in omega (arith, most))

        by : (next : Option ℕ) → IsNext kept.streams (s + 1) next → (t : ℕ) → s < t → is_before t next ≡ true
            → get kept.streams t ≡ None
        by None is_next t above before = few t (get kept.streams t) refl (λ small. is_next t (omega (arith, above)) small)
        by (Some first) is_next t above before = is_next.2 t (omega (arith, above)) (ltb-true t first before)

    -- it is on the stream itself
    on_it : IsNext kept.streams (s + 1) next → (l : ℕ) → IsOn n (Some s) next (x.plain l) → Lives (x.plain l) → (x.plain l).stream ≡ s
    on_it next_is l on lives =
        ⊎_elim (λ at. at) (λ apart. absurd (not_had (x.plain l).stream
        (none_from next_is (x.plain l).stream (let low = leb-true s (x.plain l).stream on.from in omega (arith, low, apart)) on.before)
        (stage l on lives))) (cases_eq (x.plain l).stream s)

-- no link to a gateway has the number
pub one_away : (n s : ℕ) (next : Option ℕ) (k : Relays) (told : Told) → get k.gates n ≡ None → PumpsOne n s next k told k told
one_away n s next k told none resting g x points stands shows undue =
    none_live n s next g k x points stands resting shows told (no_gate n s next g k x points stands resting shows none)

-- the stream carries no tunnel
pub one_free : (n s : ℕ) (next : Option ℕ) (k : Relays) (told : Told) (kept : Gate) → get k.gates n ≡ Some kept
    → IsNext kept.streams (s + 1) next → gate.Carries kept s None → PumpsOne n s next k told k told
one_free n s next k told kept is next_is free resting g x points stands shows undue =
    none_live n s next g k x points stands resting shows told (λ l on lives.
    let at = on_it n s next g k x points stands resting shows kept is next_is l on lives in
    let dead = (free (x.gates n) (here n s next g k x points stands resting shows kept is).1).0 in
    false≢true (sym dead ∙ ap (λ (i : ℕ). is_living (stage_of (x.gates n) i)) (sym at)
    ∙ ap is_living (stage n s next g k x points stands resting shows kept is l on lives)))

-- or that of this link
abbrev beside_link : ℕ → ℕ → (first next : Option ℕ) → Streams → Streams
beside_link l n first next resting j x = resting j x || (not (j == l) && on_streams n first next x)

with_beside : (l n : ℕ) (first next : Option ℕ) (resting : Streams) (j : ℕ) (x : Captured)
    → with_streams n first next resting j x ≡ true → with_link l (beside_link l n first next resting) j x ≡ true
with_beside l n first next resting j x is = by (j == l) (resting j x) (on_streams n first next x) is
  where
    by : (a b c : Bool) → (b || c) ≡ true → (a || (b || (not a && c))) ≡ true
    by true b c is = refl
    by false true c is = refl
    by false false c is = is

pub one_pumped : (n s link : ℕ) (next : Option ℕ) (k new : Relays) (told now : Told) (kept : Gate) → get k.gates n ≡ Some kept
    → IsNext kept.streams (s + 1) next → gate.Carries kept s (Some link) → Pumps link k told new now → PumpsOne n s next k told new now
one_pumped n s link next k new told now kept is next_is carries pumps resting g x points stands shows undue =
    let there = here n s next g k x points stands resting shows kept is in
    let before : ShowsSome all (beside_link link n (Some s) next resting) all g k (outward x) =
    shows_as all all resting (beside_link link n (Some s) next resting) all g k (outward x) shows
    (λ l some. ⊎_elim (λ rests. shows.streams l rests)
    (λ other. let parts = and_parts (not (l == link)) (on_streams n (Some s) next (x.plain l)) other in
    let on = on_parts n (Some s) next (x.plain l) parts.1 in
    unlive_rests x.gates (x.plain l) (λ lives.
    let at = on_it n s next g k x points stands resting shows kept is next_is l on lives in
    let mine : ((x.gates n).streams s).captured ≡ link = carries (x.gates n) there.1 in
    let whose : ((x.gates n).streams s).captured ≡ l =
    ap₂ (λ (i j : ℕ). ((x.gates i).streams j).captured) (sym on.gate) (sym at)
    ∙ (carried_of g k resting x points stands shows l lives).whose in
    false≢true (ap not (sym (eq-eqb l link (sym whose ∙ mine))) ∙ parts.0)))
    (or_cases (resting l (x.plain l)) (not (l == link) && on_streams n (Some s) next (x.plain l)) some))
    (λ l waits. shows.wanting l waits) in
    let goes = pumps (beside_link link n (Some s) next resting) g x points stands before (λ j apart. undue j) in
    goes_as all all (with_link link (beside_link link n (Some s) next resting)) (with_streams n (Some s) next resting) all g x new told now
    goes (λ l some. goes.shows.streams l (with_beside link n (Some s) next resting l (goes.reached.plain l) some))
    (λ l waits. goes.shows.wanting l waits)

-- ONE STREAM AFTER ANOTHER

abbrev pub SoFar : ℕ → (first from : Option ℕ) → Relays → Told → Relays → Told → Type 0
SoFar n first from old told new now = PumpsSet (with_streams n first from) old told new now

not_yet : (first : Option ℕ) (t : ℕ) → is_from first t ≡ true → is_before t first ≡ true → ⊥
not_yet None t from before = false≢true from
not_yet (Some m) t from before = (let low = leb-true m t from in let high = ltb-true t m before in omega (arith, low, high))

pub starts : (n : ℕ) (first : Option ℕ) (k : Relays) (told : Told) → SoFar n first first k told k told
starts n first k told resting g x points stands shows undue =
    goes_nowhere all (with_streams n first first resting) all g x k told
    (shows_as all all resting (with_streams n first first resting) all g k (outward x) shows
    (λ l is. ⊎_elim (λ rests. shows.streams l rests)
    (λ on. absurd (let parts = on_parts n first first (x.plain l) on in not_yet first (x.plain l).stream parts.from parts.before))
    (or_cases (resting l (x.plain l)) (on_streams n first first (x.plain l)) is))
    (λ l is. shows.wanting l is))

-- those in front of one, and that and those behind it up to another
split : (n s : ℕ) (first next : Option ℕ) (resting : Streams) (j : ℕ) (x : Captured) → with_streams n first next resting j x ≡ true
    → with_streams n (Some s) next (with_streams n first (Some s) resting) j x ≡ true
split n s first next resting j x is =
    ⊎_elim (λ rests. or_left (with_streams n first (Some s) resting j x) (on_streams n (Some s) next x)
    (or_left (resting j x) (on_streams n first (Some s) x) rests))
    (λ on. (let parts = on_parts n first next x on in ⊎_elim
    (λ low. or_left (with_streams n first (Some s) resting j x) (on_streams n (Some s) next x)
    (or_right (resting j x) (on_streams n first (Some s) x)
    (on_from n first (Some s) x (record { gate = parts.gate; from = parts.from; before = lt-ltb x.stream s low }))))
    (λ high. or_right (with_streams n first (Some s) resting j x) (on_streams n (Some s) next x)
    (on_from n (Some s) next x (record { gate = parts.gate; from = le-leb s x.stream high; before = parts.before })))
    (cases_lt x.stream s)))
    (or_cases (resting j x) (on_streams n first next x) is)

pub goes_one : (n s : ℕ) (first next : Option ℕ) (k mid new : Relays) (told then now : Told) → SoFar n first (Some s) k told mid then
    → PumpsOne n s next mid then new now → SoFar n first next k told new now
goes_one n s first next k mid new told then now so_far pumps resting g x points stands shows undue =
    let one = so_far resting g x points stands shows undue in
    let on = stands_on g x points one.more one.reached stands one.leads in
    let two = pumps (with_streams n first (Some s) resting) g one.reached on.0 on.1 one.shows (λ l. one.undue l (undue l)) in
    let both =
    goes_then all all (with_streams n first (Some s) resting) (with_streams n (Some s) next (with_streams n first (Some s) resting))
    all all g x mid new told then now one two in
    goes_as all all (with_streams n (Some s) next (with_streams n first (Some s) resting)) (with_streams n first next resting) all g x new
    told now both (λ l some. both.shows.streams l (split n s first next resting l (both.reached.plain l) some))
    (λ l waits. both.shows.wanting l waits)

-- BY TURNS, and then by rising stream
whole : (n : ℕ) (turn : Option ℕ) (x : Captured) (j : ℕ)
    → with_streams n (Some 0) None (with_streams n turn None (not_of n)) j x ≡ true
whole n turn x j = by (x.gate == n) refl
  where
    by : (b : Bool) → (x.gate == n) ≡ b → with_streams n (Some 0) None (with_streams n turn None (not_of n)) j x ≡ true
    by true at =
        or_right (with_streams n turn None (not_of n) j x) (on_streams n (Some 0) None x)
        (on_from n (Some 0) None x
        (record { gate = eqb-true x.gate n at; from = le-leb 0 x.stream (omega arith); before = refl }))
    by false apart =
        or_left (with_streams n turn None (not_of n) j x) (on_streams n (Some 0) None x)
        (or_left (not_of n j x) (on_streams n turn None x) (ap not apart))

pub by_turns : (n : ℕ) (turn : Option ℕ) (k mid new : Relays) (told then now : Told) → PumpsFrom n turn k told mid then
    → PumpsFrom n (Some 0) mid then new now → PumpsGate n k told new now
by_turns n turn k mid new told then now first more g x points stands shows undue =
    let one = first (not_of n) g x points stands shows undue in
    let on = stands_on g x points one.more one.reached stands one.leads in
    let two = more (with_streams n turn None (not_of n)) g one.reached on.0 on.1 one.shows (λ l. one.undue l (undue l)) in
    let both = goes_then all all (with_streams n turn None (not_of n)) (with_streams n (Some 0) None (with_streams n turn None (not_of n)))
    all all g x mid new told then now one two in
    goes_as all all (with_streams n (Some 0) None (with_streams n turn None (not_of n))) every all g x new told now both
    (λ l some. both.shows.streams l (whole n turn (both.reached.plain l) l)) (λ l waits. both.shows.wanting l waits)
