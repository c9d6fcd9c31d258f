-- Which link waits for its dial behind what follows by itself.
use Rattle.std.proofs.Common.{◌≡◌, ◌≢◌, ℕ, ◌==◌, cond, List, [], ◌∷◌, Option, refl, ap, sym, ◌∙◌, subst}
use Rattle.std.proofs.lemmas.Bool.{cond_both, eqb-true}
use Rattle.std.specs.Prelude.{⊤}
use Rattle.hb_base.specs.declared.cause.Cause.{Cause}
use Rattle.hb_base.specs.declared.note.Note.{Note}
use Rattle.hb_captured.specs.Calm.{IsCalmBy}
use Rattle.hb_captured.specs.Captured.{Captured, Stage, unborn, arriving, fronting, due, opening, accepting, live, failed, ended, over, ends_by, left_by, told_by}
use Rattle.hb_captured.specs.Part as part
use Rattle.hb_captured.specs.Part.{Part}
use Rattle.hb_captured.specs.Runs.{Local, MayGo, MayHear, HasEnded, left_note, next_link}
use Rattle.hb_front.proofs.Answers.{one_answer}
use Rattle.hb_front.specs.Reading.{IsAnswer, Whole, More}
use Rattle.hb_gateway.specs.Response as response
use Rattle.hb_gateway.specs.Response.{Heard, opens, brings, fails}
use Rattle.hb_model.specs.declared.config.NodeConfig.{NodeConfig}
use Rattle.hb_proxy.specs.Machine.{Machine, plain_local}
use Rattle.hb_proxy.specs.Points.{Point, of_control, of_link, of_plain, of_gate, of_stream}
use Rattle.hb_proxy.specs.Runs.{Steps}
use Rattle.hb_proxy.specs.Shared.{Shared, asks, tells, puts, finishes, credits, drops, completes, captured_part}
use Rattle.hb_relay.specs.Reaches.{IsInner as IsPlainInner}
use Rattle.hb_relays.specs.Reaches.{IsInner, IsRefusing, LeadsBy}

-- ONE LINK, AND A PART OF IT

-- its header isn't there, or more of it is to come
abbrev pub AwaitsMore : Captured → Type 0
AwaitsMore x = x.stage ≡ fronting → IsAnswer x.front More

-- where it waits for its dial behind that it is as it was
pub record Waits (x y : Captured) : Type 0 where
  pub awaits : AwaitsMore y
  pub same : y.stage ≡ due → y ≡ x

abbrev pub IsPast : Stage → Type 0
IsPast s = (s ≢ fronting) × (s ≢ due)

pub past_waits : (x y : Captured) → IsPast y.stage → Waits x y
past_waits x y past = record { awaits = λ is. absurd (past.0 is); same = λ is. absurd (past.1 is) }

pub ends_past : (why : Cause) (s : Stage) → IsPast (ends_by why s)
ends_past why unborn = (λ is. cc is, λ is. cc is)
ends_past why arriving = (λ is. cc is, λ is. cc is)
ends_past why fronting = (λ is. cc is, λ is. cc is)
ends_past why due = (λ is. cc is, λ is. cc is)
ends_past why opening = (λ is. cc is, λ is. cc is)
ends_past why accepting = (λ is. cc is, λ is. cc is)
ends_past why live = (λ is. cc is, λ is. cc is)
ends_past why (failed first) = (λ is. cc is, λ is. cc is)
ends_past why (ended first) = (λ is. cc is, λ is. cc is)
ends_past why (over first) = (λ is. cc is, λ is. cc is)

pub live_past : (s : Stage) → s ≡ live → IsPast s
live_past s is = (λ same. (let no : live ≡ fronting = sym is ∙ same in cc), λ same. (let no : live ≡ due = sym is ∙ same in cc))

left_past : (l : ℕ) (x : Captured) (s : Stage) (made : Option Note) → left_note l x s made → IsPast (left_by s)
left_past l x (failed why) made is = (λ same. cc same, λ same. cc same)
left_past l x (ended why) made is = (λ same. cc same, λ same. cc same)
left_past l x unborn made is = absurd is
left_past l x arriving made is = absurd is
left_past l x fronting made is = absurd is
left_past l x due made is = absurd is
left_past l x opening made is = absurd is
left_past l x accepting made is = absurd is
left_past l x live made is = absurd is
left_past l x (over why) made is = absurd is

has_past : (s : Stage) → HasEnded s → IsPast s
has_past s ends = (λ is. subst HasEnded is ends, λ is. subst HasEnded is ends)

-- bytes, and an end, are heard while it lives
brings_live : (s : Stage) (bytes : List ℕ) (x : Captured) → MayHear s (brings bytes) x → s ≡ live
brings_live live bytes x may = refl
brings_live unborn bytes x may = absurd may
brings_live arriving bytes x may = absurd may
brings_live fronting bytes x may = absurd may
brings_live due bytes x may = absurd may
brings_live opening bytes x may = absurd may
brings_live accepting bytes x may = absurd may
brings_live (failed why) bytes x may = absurd may
brings_live (ended why) bytes x may = absurd may
brings_live (over why) bytes x may = absurd may

ends_live : (s : Stage) (x : Captured) → MayHear s response.ends x → s ≡ live
ends_live live x may = refl
ends_live unborn x may = absurd may
ends_live arriving x may = absurd may
ends_live fronting x may = absurd may
ends_live due x may = absurd may
ends_live opening x may = absurd may
ends_live accepting x may = absurd may
ends_live (failed why) x may = absurd may
ends_live (ended why) x may = absurd may
ends_live (over why) x may = absurd may

heard_waits : (heard : Heard) (begun : ℕ) (x : Captured) → MayHear x.stage heard x → Waits x (told_by heard begun x)
heard_waits (opens end) begun x may = past_waits x (told_by (opens end) begun x) ((λ is. cc is, λ is. cc is))
heard_waits (brings bytes) begun x may = past_waits x (told_by (brings bytes) begun x) (live_past x.stage (brings_live x.stage bytes x may))
heard_waits response.ends begun x may = past_waits x (told_by response.ends begun x) (live_past x.stage (ends_live x.stage x may))
heard_waits (fails why) begun x may = past_waits x (told_by (fails why) begun x) (ends_past why x.stage)

-- what follows by itself, on its stream too
abbrev pub IsOwn : Part → Type 0
IsOwn (part.entry z) = ⊥
IsOwn (part.up z) = ⊥
IsOwn part.welcomed = ⊥
IsOwn part.crowded = ⊥
IsOwn (part.applied r) = ⊥
IsOwn (part.stopped why) = ⊥
IsOwn p = ⊤

pub part_waits : (l : ℕ) (a : Local) (p : Part) → IsOwn p → MayGo l a p → AwaitsMore a.link → Waits a.link (next_link a.link p)
part_waits l a (part.entry z) own may more = absurd own
part_waits l a (part.up z) own may more = absurd own
part_waits l a part.welcomed own may more = absurd own
part_waits l a part.crowded own may more = absurd own
part_waits l a part.lacked own may more = past_waits a.link (next_link a.link part.lacked) (ends_past _ a.link.stage)
part_waits l a (part.misfronted fault) own may more =
    past_waits a.link (next_link a.link (part.misfronted fault)) (ends_past _ a.link.stage)
part_waits l a (part.fronted seen by aim) own may more =
    absurd (let both = one_answer a.link.front (Whole seen) More may.0.1 (more may.0.0) in cc both)
part_waits l a (part.refused seen by why status made) own may more =
    past_waits a.link (next_link a.link (part.refused seen by why status made)) ((λ is. cc is, λ is. cc is))
part_waits l a (part.accepted made) own may more =
    past_waits a.link (next_link a.link (part.accepted made)) ((λ is. cc is, λ is. cc is))
part_waits l a part.roomless own may more = past_waits a.link (next_link a.link part.roomless) (ends_past _ a.link.stage)
part_waits l a (part.asked gate stream) own may more =
    past_waits a.link (next_link a.link (part.asked gate stream)) ((λ is. cc is, λ is. cc is))
part_waits l a (part.hears heard begun) own may more = heard_waits heard begun a.link may.1
part_waits l a (part.put bytes) own may more =
    past_waits a.link (next_link a.link (part.put bytes)) (live_past a.link.stage may.0.1)
part_waits l a part.finished own may more = past_waits a.link (next_link a.link part.finished) (live_past a.link.stage may.0.1)
part_waits l a (part.credited n) own may more =
    past_waits a.link (next_link a.link (part.credited n)) (live_past a.link.stage may.0.1)
part_waits l a (part.loosed begun) own may more =
    past_waits a.link (next_link a.link (part.loosed begun)) (has_past a.link.stage may.1)
part_waits l a (part.completed begun made) own may more =
    past_waits a.link (next_link a.link (part.completed begun made)) ((λ is. cc is, λ is. cc is))
part_waits l a (part.left made) own may more =
    past_waits a.link (next_link a.link (part.left made)) (left_past l a.link a.link.stage made may.0)
part_waits l a (part.done made) own may more = past_waits a.link (next_link a.link (part.done made)) ((λ is. cc is, λ is. cc is))
part_waits l a (part.applied r) own may more = absurd own
part_waits l a (part.stopped why) own may more = absurd own

-- IN THE WHOLE

inner_own : (p : Part) → IsPlainInner p → IsOwn p
inner_own (part.entry z) inner = absurd inner
inner_own (part.up z) inner = absurd inner
inner_own part.welcomed inner = absurd inner
inner_own part.crowded inner = absurd inner
inner_own (part.applied r) inner = absurd inner
inner_own (part.stopped why) inner = absurd inner
inner_own p inner = tt

refusing_own : (l : ℕ) (p : Part) → IsRefusing (of_plain l p) → IsOwn p
refusing_own l part.roomless is = tt
refusing_own l p is = inner_own p is

pub shared_own : (n s : ℕ) (w : Shared) → IsOwn (captured_part n s w)
shared_own n s (asks authority) = tt
shared_own n s (tells heard begun) = tt
shared_own n s (puts waiting count) = tt
shared_own n s finishes = tt
shared_own n s (credits count) = tt
shared_own n s (drops begun) = tt
shared_own n s (completes begun note) = tt

-- one of all of them changes
pub one_waits : (f : ℕ → Captured) (l : ℕ) (next : Captured) → (AwaitsMore (f l) → Waits (f l) next) → (k : ℕ) → AwaitsMore (f k)
    → Waits (f k) (cond (k == l) next (f k))
one_waits f l next here k more =
    cond_both (k == l) next (f k) (λ (c : Captured). Waits (f k) c)
    (λ same. subst (λ (j : ℕ). AwaitsMore (f j) → Waits (f j) next) (sym (eqb-true k l same)) here more)
    (λ apart. record { awaits = more; same = λ is. refl })

pub step_waits : (g : NodeConfig) (x y : Machine) (p : Point) → IsRefusing p → Steps g x p y → (k : ℕ) → AwaitsMore (x.plain k)
    → Waits (x.plain k) (y.plain k)
step_waits g x y (of_control q) inner steps k more = absurd inner
step_waits g x y (of_link l p) inner steps k more = absurd inner
step_waits g x y (of_plain l p) inner steps k more =
    subst (λ (w : Machine). Waits (x.plain k) (w.plain k)) (sym steps.2)
    (one_waits x.plain l (next_link (x.plain l) p) (part_waits l (plain_local x l) p (refusing_own l p inner) steps.0) k more)
step_waits g x y (of_gate n p) inner steps k more =
    subst (λ (w : Machine). Waits (x.plain k) (w.plain k)) (sym steps.3) (record { awaits = more; same = λ is. refl })
step_waits g x y (of_stream l n s w) inner steps k more =
    subst (λ (w : Machine). Waits (x.plain k) (w.plain k)) (sym steps.4)
    (one_waits x.plain l (next_link (x.plain l) (captured_part n s w))
    (part_waits l (plain_local x l) (captured_part n s w) (shared_own n s w) steps.0) k more)

-- a link of which no header is whole waits behind such points only as it did
pub refusing_same : (g : NodeConfig) (x : Machine) (more : List Point) (y : Machine) → LeadsBy IsRefusing g x more y → (k : ℕ)
    → AwaitsMore (x.plain k) → (y.plain k).stage ≡ due → y.plain k ≡ x.plain k
refusing_same g x [] y is k awaits waits = ap (λ (w : Machine). w.plain k) is
refusing_same g x (p ∷ more) y is k awaits waits =
    let first = step_waits g x is.1 p is.0 is.2 k awaits in
    let rest = refusing_same g is.1 more y is.3 k first.awaits waits in
    rest ∙ first.same (ap (λ (c : Captured). c.stage) (sym rest) ∙ waits)

-- what follows by itself is among those
pub as_refusing : (p : Point) → IsInner p → IsRefusing p
as_refusing (of_control q) inner = inner
as_refusing (of_link l p) inner = inner
as_refusing (of_plain l part.roomless) inner = tt
as_refusing (of_plain l p) inner = inner
as_refusing (of_gate n p) inner = inner
as_refusing (of_stream l n s w) inner = tt

pub leads_refusing : (g : NodeConfig) (x : Machine) (more : List Point) (y : Machine) → LeadsBy IsInner g x more y
    → LeadsBy IsRefusing g x more y
leads_refusing g x [] y is = is
leads_refusing g x (p ∷ more) y is = (as_refusing p is.0, is.1, is.2, leads_refusing g is.1 more y is.3)

pub inner_same : (g : NodeConfig) (x : Machine) (more : List Point) (y : Machine) → LeadsBy IsInner g x more y → (k : ℕ)
    → AwaitsMore (x.plain k) → (y.plain k).stage ≡ due → y.plain k ≡ x.plain k
inner_same g x more y is k awaits waits = refusing_same g x more y (leads_refusing g x more y is) k awaits waits

-- one on which nothing more happens by itself has no whole header
pub calm_awaits : (x : Captured) → IsCalmBy x.stage x → AwaitsMore x
calm_awaits x calm is = subst (λ (s : Stage). IsCalmBy s x) is calm
