-- A response that is applied is told to all links.
use Rattle.std.specs.Prelude.{⊤}
use Rattle.std.proofs.Common.{◌≡◌, ◌⊎◌, inl, inr, ◌&&◌, ℕ, Bool, true, false, cond, Option, Some, None, is_some, IsSome, refl, ap, sym, ◌∙◌, subst}
use Rattle.std.proofs.lemmas.Bool.{false≢true}
use Rattle.std.specs.FinMap.{get}
use Rattle.hb_base.specs.declared.cause.Cause.{Cause}
use Rattle.hb_base.specs.declared.cause.Cause.TheVariants as cause
use Rattle.hb_captured.specs.Answer.{key_of}
use Rattle.hb_captured.specs.Calm.{IsCalmBy}
use Rattle.hb_captured.specs.Captured as m
use Rattle.hb_captured.specs.Captured.{Captured, Stage, ends_by, ends_for, is_judged, judged_by, judges, rejudged}
use Rattle.hb_captured.specs.Part as part
use Rattle.hb_captured.specs.Part.{Part}
use Rattle.hb_disco.specs.declared.response.Response.{Response}
use Rattle.hb_gateway.specs.Key.{Key}
use Rattle.hb_held.specs.Held.{Resources}
use Rattle.hb_held.specs.Outcome.{after_response}
use Rattle.hb_link.specs.Noted.{Told}
use Rattle.hb_map.specs.Keyed.{IsFirstFrom}
use Rattle.hb_model.specs.Machine.{Machine as Control}
use Rattle.hb_model.specs.Point as point
use Rattle.hb_model.specs.declared.config.NodeConfig.{NodeConfig}
use Rattle.hb_proxy.specs.Machine.{Machine, plain_local}
use Rattle.hb_proxy.specs.Points.{of_control}
use Rattle.hb_proxy.specs.Runs.{Steps, routing_of}
use Rattle.hb_relay.specs.Calls as calls
use Rattle.hb_relay.specs.Reaches as relay
use Rattle.hb_relay.specs.Shows.{HasOne, HasUpstream, Shows}
use Rattle.hb_relay.specs.declared.relay.Relay.{Relay}
use Rattle.hb_relays.specs.Calls.{Updates}
use Rattle.hb_relays.specs.Joining.{IsBehind}
use Rattle.hb_relays.specs.Shows.{IsAway}
use Rattle.hb_relays.specs.Walks.{Map, Telling, TellsBy}
use Rattle.hb_relays.specs.declared.relays.Relays.{Relays}
use Rattle.hb_table.specs.Judgement.{judged}
use Rattle.hb_table.specs.declared.judgement.Judged.{Judged}
use Rattle.hb_table.specs.declared.judgement.Judged.TheVariants.{Admitted, Unknown, Denied}
use Rattle.hb_relays.proofs.Away.{judged_away}
use Rattle.hb_relays.proofs.Staying.{is_begun, rejudged_stays}
use Rattle.hb_relays.proofs.Sweeping.{AllSee, Swept, changes, starts, goes, ends}

-- the walk is at a link
abbrev pub IsOn : Option ℕ → Map → Type 0
IsOn None relays = ⊤
IsOn (Some n) relays = IsSome (get relays n)

first_on : (relays : Map) (first : Option ℕ) → IsFirstFrom relays 0 first → IsOn first relays
first_on relays None is = tt
first_on relays (Some n) is = is.1

next_on : (relays : Map) (n : ℕ) (next : Option ℕ) → IsBehind relays n next → IsOn next relays
next_on relays n None is = tt
next_on relays n (Some m) (inl is) = is.1
next_on relays n (Some m) (inr is) = absurd (let none = is.0 in cc)

-- A WALK

abbrev pub Walks : (Resources → Type 0) → point.Point → Part → Relays → Relays → Option ℕ → Told → Told → Type 0
Walks P q p k a from told now = IsOn from a.relays × Swept P q p k a from told now

pub walk_starts : (P : Resources → Type 0) (q : point.Point) (p : Part) (k : Relays) (first : Option ℕ) (told : Told)
    → ((g : NodeConfig) (x y : Machine) → Steps g x (of_control q) y → AllSee x y p) → IsFirstFrom k.relays 0 first
    → Walks P q p k k first told told
walk_starts P q p k first told sees is = (first_on k.relays first is, starts P q p k first told sees is)

pub walk_goes : (P : Resources → Type 0) (q : point.Point) (p : Part) (R : Telling) (k a b : Relays) (n : ℕ) (next : Option ℕ)
    (told now then : Told) → ((old new : Relay) (made : Option _) → R old new made → calls.Follows relay.IsInner P p old new made)
    → Walks P q p k a (Some n) told now → TellsBy R (get a.relays n) n a now b then → IsBehind b.relays n next
    → Walks P q p k b next told then
walk_goes P q p R k a b n next told now then meets walks tells next_is = by (get a.relays n) refl tells
  where
    by : (o : Option Relay) → get a.relays n ≡ o → TellsBy R o n a now b then → Walks P q p k b next told then
    by None none told_so = absurd (false≢true (sym (ap is_some none) ∙ walks.0))
    by (Some old) is (new, made, it, changed, takes) = (
      next_on b.relays n next next_is,
      goes P q p k a b n old new made next told now then walks.1 is (changes n old new a b changed) (meets old new made it) takes next_is,
    )

-- A RESPONSE IS APPLIED

-- one that ends then goes straight, so it has no stream
straight_raw : (stage : Stage) (x : Captured) → is_judged stage ≡ true → HasUpstream stage (key_of x.aim) x.up x.gate
    → IsCalmBy stage x → key_of x.aim ≡ None → x.gate ≡ 0
straight_raw m.due x is has calm none = has.1
straight_raw m.opening x is has calm none = (subst (λ (o : Option Key). HasOne o x.up x.gate) none has).1
straight_raw m.live x is has calm none = (subst (λ (o : Option Key). HasOne o x.up x.gate) none has).1
straight_raw m.accepting x is has calm none = absurd calm
straight_raw stage x is has calm none = absurd (false≢true is)

judged_begun : (why : Cause) (stage : Stage) → is_judged stage ≡ true → is_begun (ends_by why stage) ≡ true
judged_begun why m.due is = refl
judged_begun why m.opening is = refl
judged_begun why m.accepting is = refl
judged_begun why m.live is = refl
judged_begun why stage is = absurd (false≢true is)

judged_ends : (held : Resources) (w : Relay) (x y : Captured) → Shows w x → y ≡ rejudged held x
    → (y ≡ x) ⊎ ((is_begun y.stage ≡ true) × (y.gate ≡ 0))
judged_ends held w x y shows is = subst (λ (c : Captured). (c ≡ x) ⊎ ((is_begun c.stage ≡ true) × (c.gate ≡ 0))) (sym is)
    (by (judges x.door) (is_judged x.stage) refl refl)
  where
    ended : judges x.door ≡ true → is_judged x.stage ≡ true
        → (is_begun (ends_for cause.Revoked x).stage ≡ true) × ((ends_for cause.Revoked x).gate ≡ 0)
    ended door stage = (
      judged_begun cause.Revoked x.stage stage,
      straight_raw x.stage x stage shows.upstream shows.calm (shows.straight door),
    )

    of : (j : Judged) → judges x.door ≡ true → is_judged x.stage ≡ true
        → (judged_by j x ≡ x) ⊎ ((is_begun (judged_by j x).stage ≡ true) × ((judged_by j x).gate ≡ 0))
    of Admitted door stage = inl refl
    of Unknown door stage = inr (ended door stage)
    of Denied door stage = inr (ended door stage)

    by : (b c : Bool) → judges x.door ≡ b → is_judged x.stage ≡ c
        → (cond (b && c) (judged_by (judged held x.peer x.target) x) x ≡ x)
        ⊎ ((is_begun (cond (b && c) (judged_by (judged held x.peer x.target) x) x).stage ≡ true)
        × ((cond (b && c) (judged_by (judged held x.peer x.target) x) x).gate ≡ 0))
    by true true door stage = of (judged held x.peer x.target) door stage
    by true false door stage = inl refl
    by false c door stage = inl refl

abbrev pub held_by : Resources → Response → Resources → Type 0
held_by held r before = held ≡ after_response before r

pub applied_seen : (l : ℕ) (r : Response) (g : NodeConfig) (x y : Machine) → Steps g x (of_control (point.applied l r)) y
    → AllSee x y (part.applied r)
applied_seen l r g x y steps = record {
  steps = λ k. ap (λ (w : Machine). plain_local w k) steps.3
      ∙ ap (λ (h : Resources). record { held = h; link = rejudged (after_response x.control.held r) (x.plain k) })
      (ap (λ (n : Control). n.held) steps.1.3);
  may = λ k. tt;
  stays = λ k. rejudged_stays (after_response x.control.held r) (x.plain k);
  away = λ k gone. subst (λ (w : Machine). IsAway (w.plain k)) (sym steps.3)
      (judged_away (after_response x.control.held r) (x.plain k) gone);
  gates = ap (λ (w : Machine). w.gates) steps.3;
  ends = λ k w shows. judged_ends (after_response x.control.held r) w (x.plain k) (y.plain k) shows
      (ap (λ (v : Machine). v.plain k) steps.3);
}

abbrev pub Applies : Resources → Relays → Relays → Option ℕ → Told → Told → Type 0
Applies held k a from told now = (l : ℕ) (r : Response) → Walks (held_by held r) (point.applied l r) (part.applied r) k a from told now

pub applied_starts : (held : Resources) (k : Relays) (first : Option ℕ) (told : Told) → IsFirstFrom k.relays 0 first
    → Applies held k k first told told
applied_starts held k first told is l r =
    walk_starts (held_by held r) (point.applied l r) (part.applied r) k first told (applied_seen l r) is

pub applied_goes : (held : Resources) (k a b : Relays) (n : ℕ) (next : Option ℕ) (told now then : Told)
    → Applies held k a (Some n) told now → TellsBy (calls.Updates held) (get a.relays n) n a now b then → IsBehind b.relays n next
    → Applies held k b next told then
applied_goes held k a b n next told now then applies tells next_is l r =
    walk_goes (held_by held r) (point.applied l r) (part.applied r) (calls.Updates held) k a b n next told now then
    (λ old new made it. it r) (applies l r) tells next_is

pub applied_ends : (held : Resources) (k a : Relays) (told now : Told) → Applies held k a None told now → Updates held k told a now
applied_ends held k a told now applies l r =
    ends (held_by held r) (point.applied l r) (part.applied r) k a a.routes told now
    (λ g x y steps counted. counted ∙ ap (routing_of g) (sym steps.3)) (applies l r).1
