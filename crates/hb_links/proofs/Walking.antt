-- The walk over links that may have an act due.
use Rattle.std.proofs.Common.{◌≡◌, ◌≢◌, ⊎_elim, ℕ, ◌<◌, ◌^◌, Bool, true, false, Option, Some, None, is_some, nat_le, refl, ap, sym, ◌∙◌, subst, arith}
use Rattle.std.proofs.lemmas.Bool.{cases_eq, cases_lt, or_from, or_parts, ne_eqb, leb-false, leb-true, lt-leb, false≢true}
use Rattle.std.specs.FinMap.{get}
use Rattle.hb_inbound.specs.Inbound.{Inbound}
use Rattle.hb_inbound.specs.Runs as inbound
use Rattle.hb_link.specs.Acts as link
use Rattle.hb_link.specs.Acts.{NoneIsDue}
use Rattle.hb_link.specs.declared.link.Link.{Link}
use Rattle.hb_map.proofs.Laws.{written_where_some}
use Rattle.hb_map.specs.Keyed.{written}
use Rattle.hb_proxy.proofs.Projection.{links_run}
use Rattle.hb_proxy.specs.Held.{at_start}
use Rattle.hb_proxy.specs.Machine.{local}
use Rattle.hb_proxy.specs.Points.{parts_of}
use Rattle.hb_world.specs.declared.act.Act.{Act}
use Rattle.hb_links.specs.declared.links.Links.{Links}
use Rattle.hb_links.specs.Acts.{Acts}
use Rattle.hb_links.specs.Busy.{is_at, is_from, may_be_due}
use Rattle.hb_links.specs.Shows.{IsIndex, ShowsAll, ShowsLink}
use Rattle.hb_links.specs.Walks.{ActsOf, KeepsShowing, GoesTo, IsFirstOn, IsBehind, Skips, finished}
use Rattle.hb_links.proofs.Acting.{acts_on, away_idle}
use Rattle.hb_links.proofs.Showing.{Map, links_with, written_same}

-- other links are known to have no act due, and the same ones and their index stand
pub calmer : (k n : Links) (f : ℕ → Inbound) → ShowsAll k f → ((l : ℕ) → get n.links l ≡ get k.links l) → n.ups ≡ k.ups
    → ((l : ℕ) → may_be_due n l ≡ false → NoneIsDue (f l)) → ShowsAll n f
calmer k n f shows links ups idle = record {
  links = λ l. subst (λ (o : Option Link). ShowsLink l o (f l)) (sym (links l)) (shows.links l);
  index = subst (λ (index : _). IsIndex index f) (sym ups) shows.index;
  numbered = λ l some. shows.numbered l (sym (ap is_some (links l)) ∙ some);
  kept = λ l some. shows.kept l (sym (ap is_some (links l)) ∙ some);
  idle = idle;
}

-- none is due of a link that the code hasn't
pub none_due : (k : Links) (f : ℕ → Inbound) (l : ℕ) → ShowsAll k f → get k.links l ≡ None → NoneIsDue (f l)
none_due k f l shows none = away_idle l (f l) (subst (λ (o : Option Link). ShowsLink l o (f l)) none (shows.links l))

-- THE ACT OF ONE LINK

pub none_acts : (k : Links) (links : Map) (l : ℕ) (old new : Link) → get k.links l ≡ Some old → links ≡ written k.links l new
    → link.Acts None old new → ActsOf l None k (record k { links = links })
none_acts k links l old new is links_is it = (
  refl,
  refl,
  λ g x points stands shows. calmer k (record k { links = links }) x.inbound shows same refl (λ j none. shows.idle j none),
  λ g x points stands shows. (let shown = subst (λ (o : Option Link). ShowsLink l o (x.inbound l)) is (shows.links l) in
      it.1 (at_start g) (parts_of l points) (local x l)
      (subst (λ (i : ℕ). inbound.StandsFor i (at_start g) (local x l) (parts_of l points)) (sym shown.0) (links_run g x points l stands))
      shown.1),
)
  where
    same : (j : ℕ) → get links j ≡ get k.links j
    same = written_same k links l old new is it.0 links_is

pub some_acts : (k n : Links) (links : Map) (l before : ℕ) (old new : Link) (due : Act) → get k.links l ≡ Some old
    → links ≡ written k.links l new → n ≡ finished l due before (record k { links = links }) → new.number ≡ old.number
    → link.Acts (Some due) old new → Acts (Some due) k n
some_acts k n links l before old new due is links_is n_is numbered it =
    subst (λ (m : Links). Acts (Some due) k m)
    (sym (n_is ∙ ap (λ (m : Map). finished l due before (links_with m k.ups k)) (links_is ∙ written_where_some k.links l new (ap is_some is))))
    (acts_on before k l old new due is numbered it)

-- THE WALK

pub keeps_then : (a b c : Links) → KeepsShowing a b → KeepsShowing b c → KeepsShowing a c
keeps_then a b c first more g x points stands shows = more g x points stands (first g x points stands shows)

pub acts_then : (a b c : Links) (due : Option Act) → KeepsShowing a b → Acts due b c → Acts due a c
acts_then a b c due keeps acts g x points stands shows rests plain gates =
    acts g x points stands (keeps g x points stands shows) rests plain gates

-- the link that was touched last has none
pub rested : (a b : Links) (n : ℕ) → a.busy ≡ Some n → ActsOf n None a b → KeepsShowing a (record b { busy = None })
rested a b n busy acts g x points stands shows =
    let mid = acts.2 g x points stands shows in
    let due = acts.3 g x points stands shows in
    calmer b (record b { busy = None }) x.inbound mid (λ l. refl) refl
    (λ l none. ⊎_elim (λ at. subst (λ (i : ℕ). NoneIsDue (x.inbound i)) (sym at) due)
    (λ apart. mid.idle l (or_from (is_at b.busy l) (is_from b.from l)
    (ap (λ (o : Option ℕ). is_at o l) (acts.0 ∙ busy) ∙ ne_eqb n l (λ same. apart (sym same))) none)) (cases_eq l n))

-- it goes to the first link from where it stands
none_between : (links : Map) (from next : Option ℕ) → IsFirstOn links from next → (l : ℕ) → is_from next l ≡ false
    → is_from from l ≡ true → get links l ≡ None
none_between links None next is l after before = absurd (false≢true before)
none_between links (Some n) None is l after before = is l (leb-true n l before)
none_between links (Some n) (Some m) is l after before = is.2 l (leb-true n l before) (leb-false m l after)

pub goes_keeps : (a b : Links) (next : Option ℕ) → GoesTo next a b → KeepsShowing a b
goes_keeps a b next goes g x points stands shows =
    subst (λ (k : Links). ShowsAll k x.inbound) (sym goes.0)
    (calmer a (record a { from = next }) x.inbound shows (λ l. refl) refl
    (λ l none. idle l (or_parts (is_at a.busy l) (is_from next l) none)))
  where
    idle : (l : ℕ) → (is_at a.busy l ≡ false) × (is_from next l ≡ false) → NoneIsDue (x.inbound l)
    idle l none = by (is_from a.from l) refl
      where
        by : (b : Bool) → is_from a.from l ≡ b → NoneIsDue (x.inbound l)
        by true before = none_due a x.inbound l shows (none_between a.links a.from next goes.1 l none.1 before)
        by false before = shows.idle l (or_from (is_at a.busy l) (is_from a.from l) none.0 before)

-- and behind one that has none
not_behind : (n l : ℕ) (next : Option ℕ) → IsBehind n next → l < 2 ^ 64 → is_from next l ≡ false → l ≢ n → nat_le n l ≡ false
not_behind n l None is few none apart = lt-leb n l (⊎_elim (λ less. less)
    (λ from. absurd (apart (let more = is in omega (arith, more, few, from)))) (cases_lt l n))
not_behind n l (Some m) is few none apart =
    let below = leb-false m l none in
    lt-leb n l (⊎_elim (λ less. less) (λ from. absurd (apart (let more = is in omega (arith, more, below, from)))) (cases_lt l n))

pub skip_keeps : (a b c : Links) (n : ℕ) → a.from ≡ Some n → ActsOf n None a b → Skips n b c → KeepsShowing a c
skip_keeps a b c n from acts skips g x points stands shows =
    let mid = acts.2 g x points stands shows in
    subst (λ (k : Links). ShowsAll k x.inbound) (sym skips.0)
    (calmer b (record b { from = c.from }) x.inbound mid (λ l. refl) refl
    (λ l none. idle mid l (or_parts (is_at b.busy l) (is_from c.from l) none)))
  where
    idle : ShowsAll b x.inbound → (l : ℕ) → (is_at b.busy l ≡ false) × (is_from c.from l ≡ false) → NoneIsDue (x.inbound l)
    idle mid l none = ⊎_elim
        (λ at. subst (λ (i : ℕ). NoneIsDue (x.inbound i)) (sym at) (acts.3 g x points stands shows))
        (λ apart. by (get b.links l) refl apart) (cases_eq l n)
      where
        by : (o : Option Link) → get b.links l ≡ o → l ≢ n → NoneIsDue (x.inbound l)
        by None gone apart = none_due b x.inbound l mid gone
        by (Some k) found apart = mid.idle l (or_from (is_at b.busy l) (is_from b.from l) none.0
            (ap (λ (o : Option ℕ). is_from o l) (acts.1 ∙ from)
            ∙ not_behind n l c.from skips.1 (mid.numbered l (ap is_some found)) none.1 apart))
