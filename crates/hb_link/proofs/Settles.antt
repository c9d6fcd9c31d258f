-- Links on which something is still to happen by itself.
use Rattle.std.proofs.Common.{◌≡◌, ℕ, List, [], ◌∷◌, ◌++◌, Option, None, refl, ap, sym, ◌∙◌, subst}
use Rattle.std.proofs.lemmas.List.{append_assoc, append-nil}
use Rattle.hb_conn.specs.Observed.{IsLookedAt}
use Rattle.hb_front.specs.Reading.{IsAnswer, More}
use Rattle.hb_held.specs.Held.{Resources}
use Rattle.hb_inbound.specs.Calm.{IsCalm}
use Rattle.hb_inbound.specs.Inbound as m
use Rattle.hb_inbound.specs.Inbound.{Inbound}
use Rattle.hb_inbound.specs.Part as part
use Rattle.hb_inbound.specs.Part.{Part}
use Rattle.hb_inbound.specs.Runs.{Local, Steps, StandsFor, goes_on}
use Rattle.hb_link.specs.declared.link.Link.{Link}
use Rattle.hb_link.specs.Counting.{Places, Counts, uncounted}
use Rattle.hb_link.specs.Noted.{Told}
use Rattle.hb_link.specs.Reaches.{Guard, IsInner, Leads, Meets}
use Rattle.hb_link.specs.Settling.{Agrees, IsMarked, GotAll, MayPut, LookedIn, SettlesBy, AlwaysSettles, KeepsCame}
use Rattle.hb_link.specs.Shows.{Shows, ShowsBy}
use Rattle.hb_link.specs.Tunnels.{phase_of}
use Rattle.hb_link.proofs.Noted.{takes_none, parts_then}

-- one that is shown agrees, and one that agrees and on which nothing more happens by itself is shown
pub agrees : (k : Link) (x : Inbound) → Shows k x → Agrees k x
agrees k x shows = record { phase = shows.phase; way = shows.way; tunnels = shows.tunnels; numbered = shows.numbered }

pub shows_calm : (k : Link) (x : Inbound) → Agrees k x → IsCalm x → Shows k x
shows_calm k x agrees calm = record {
  phase = agrees.phase;
  way = agrees.way;
  tunnels = agrees.tunnels;
  numbered = agrees.numbered;
  calm = calm;
}

-- parts that follow by themselves, one after another
pub leads_append : (G : Guard) (l : ℕ) (a b c : Local) (first more : List Part) → Leads G l a first b → Leads G l b more c
    → Leads G l a (first ++ more) c
leads_append G l a b c [] more is behind = subst (λ (w : Local). Leads G l w more c) is behind
leads_append G l a b c (p ∷ first) more is behind =
    (is.0, is.1, is.2, is.3, leads_append G l is.2 b c first more is.4 behind)

pub stands_behind : (G : Guard) (l : ℕ) (start : Resources) (a b : Local) (before parts : List Part) → StandsFor l start a before
    → Leads G l a parts b → StandsFor l start b (before ++ parts)
stands_behind G l start a b before [] stands is =
    subst (λ (parts : List Part). StandsFor l start b parts) (sym (append-nil before))
    (subst (λ (w : Local). StandsFor l start w before) (sym is) stands)
stands_behind G l start a b before (p ∷ parts) stands is =
    subst (λ (all : List Part). StandsFor l start b all) (append_assoc before (p ∷ []) parts)
    (stands_behind G l start is.2 b (before ++ p ∷ []) parts (goes_on stands p is.3 refl) is.4)

-- they leave what is held
step_holds : (l : ℕ) (a : Local) (p : Part) (b : Local) → IsInner p → Steps l a p b → b.held ≡ a.held
step_holds l a (part.entry x) b inner step = absurd inner
step_holds l a (part.up s x) b inner step = absurd inner
step_holds l a part.crowded b inner step = absurd inner
step_holds l a (part.applied r) b inner step = absurd inner
step_holds l a (part.stopped cause) b inner step = absurd inner
step_holds l a part.welcomed b inner step = ap (λ (w : Local). w.held) step.1
step_holds l a part.lacked b inner step = ap (λ (w : Local). w.held) step.1
step_holds l a (part.fronted seen) b inner step = ap (λ (w : Local). w.held) step.4
step_holds l a (part.misfronted fault) b inner step = ap (λ (w : Local). w.held) step.2
step_holds l a (part.looked points told headers) b inner step = ap (λ (w : Local). w.held) step.5
step_holds l a (part.decided s full answer) b inner step = ap (λ (w : Local). w.held) step.5
step_holds l a (part.accepted s made) b inner step = ap (λ (w : Local). w.held) step.3
step_holds l a (part.refused s status resets made) b inner step = ap (λ (w : Local). w.held) step.4
step_holds l a (part.reset s code made) b inner step = ap (λ (w : Local). w.held) step.3
step_holds l a (part.left s made) b inner step = ap (λ (w : Local). w.held) step.2
step_holds l a (part.done s made) b inner step = ap (λ (w : Local). w.held) step.3
step_holds l a (part.put s bytes) b inner step = ap (λ (w : Local). w.held) step.3
step_holds l a (part.finished s) b inner step = ap (λ (w : Local). w.held) step.2
step_holds l a (part.credited s n) b inner step = ap (λ (w : Local). w.held) step.3

pub leads_hold : (G : Guard) (l : ℕ) (a b : Local) (parts : List Part) → Leads G l a parts b → b.held ≡ a.held
leads_hold G l a b [] is = ap (λ (w : Local). w.held) is
leads_hold G l a b (p ∷ parts) is = leads_hold G l is.2 b parts is.4 ∙ step_holds l a p is.2 is.0 is.3

-- nothing follows, where the one condition gives the other; and what follows in two parts
pub stays : (limits : Option Places) (H : Resources → Type 0) (P Q : Link → Inbound → Type 0) (k : Link) (told : Told)
    → ((x : Inbound) → P k x → Q k x) → SettlesBy limits H P Q k told k told
stays limits H P Q k told gives start before a stands holds is = (
  refl,
  record { parts = []; reached = a; leads = refl; shows = gives a.link is; noted = takes_none told },
)

pub settles_then : (limits : Option Places) (H : Resources → Type 0) (P Q R : Link → Inbound → Type 0) (k m n : Link)
    (told mid now : Told) → SettlesBy limits H P Q k told m mid → SettlesBy limits H Q R m mid n now
    → SettlesBy limits H P R k told n now
settles_then limits H P Q R k m n told mid now first behind start before a stands holds is =
    let G = Counts limits in
    let one = first start before a stands holds is in
    let step = one.1 in
    let then_stands = subst (λ (i : ℕ). StandsFor i start step.reached (before ++ step.parts)) (sym one.0)
    (stands_behind G k.number start a step.reached before step.parts stands step.leads) in
    let then_holds = subst H (sym (leads_hold G k.number a step.reached step.parts step.leads)) holds in
    let two = behind start (before ++ step.parts) step.reached then_stands then_holds step.shows in
    let last = two.1 in (
      two.0 ∙ one.0,
      record {
        parts = step.parts ++ last.parts;
        reached = last.reached;
        leads = leads_append G k.number a step.reached last.reached step.parts last.parts step.leads
            (subst (λ (i : ℕ). Leads G i step.reached last.parts last.reached) one.0 last.leads);
        shows = last.shows;
        noted = parts_then told mid now step.parts last.parts step.noted last.noted;
      },
    )

-- A call that is told a part and then lets all follow by itself meets the machine, where its own step leaves a link that is marked
pub meets_settled : (P : Local → Type 0) (p : Part) (old mid new : Link) (told now : Told)
    → ((start : Resources) (before : List Part) (a b : Local) → StandsFor old.number start a before → Shows old a.link → P a
    → Steps old.number a p b → (mid.number ≡ old.number) × IsMarked mid b.link) → AlwaysSettles IsMarked Shows mid told new now
    → Meets uncounted P p old told new now
meets_settled P p old mid new told now marks settles start before a b stands shows holds step =
    let one = marks start before a b stands shows holds step in
    let then_stands = subst (λ (i : ℕ). StandsFor i start b (before ++ p ∷ [])) (sym one.0) (goes_on stands p step refl) in
    let two = settles None start (before ++ p ∷ []) b then_stands tt one.1 in
    let last = two.1 in (
      two.0 ∙ one.0,
      record {
        parts = last.parts;
        reached = last.reached;
        leads = subst (λ (i : ℕ). Leads uncounted i b last.parts last.reached) one.0 last.leads;
        shows = last.shows;
        noted = last.noted;
      },
    )

-- where only answers went, all that came is looked at still
module _ (k n : Link) (keeps : KeepsCame k n) (x y : Inbound) where
  looked_by : (phase : m.Phase) → ShowsBy phase k x → ShowsBy phase n y → LookedIn phase x → LookedIn phase y
  looked_by m.arriving before now looked = looked
  looked_by m.fronting before now looked =
      subst (λ (front : List ℕ). IsAnswer front More)
      (before.0 ∙ sym (ap (λ (link : Link). link.front) keeps.link) ∙ sym now.0) looked
  looked_by m.serving before now looked =
      subst IsLookedAt (sym now.0) (subst IsLookedAt (sym keeps.came) (subst IsLookedAt before.0 looked))
  looked_by phase before now looked = tt

  pub keeps_looked : Agrees k x → Agrees n y → LookedIn x.phase x → LookedIn y.phase y
  keeps_looked before now looked =
      let same : y.phase ≡ x.phase =
      now.phase ∙ ap phase_of (ap (λ (link : Link). link.phase) keeps.link) ∙ sym before.phase in
      subst (λ (phase : m.Phase). LookedIn phase y) (sym same)
      (looked_by x.phase before.way (subst (λ (phase : m.Phase). ShowsBy phase n y) same now.way) looked)

pub marked_settles : (k n : Link) (told now : Told) → AlwaysSettles Agrees GotAll k told n now → KeepsCame k n
    → AlwaysSettles IsMarked MayPut k told n now
marked_settles k n told now settles keeps limits start before a stands holds marked =
    let got = settles limits start before a stands holds marked.agrees in
    let last = got.1 in (
      got.0,
      record {
        parts = last.parts;
        reached = last.reached;
        leads = last.leads;
        shows = record {
          agrees = last.shows.agrees;
          answered = last.shows.answered;
          looked = keeps_looked k n keeps a.link last.reached.link marked.agrees last.shows.agrees marked.looked;
        };
        noted = last.noted;
      },
    )
