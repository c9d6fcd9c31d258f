-- A response that is applied, and the end of the run, are told to all links.
use Rattle.std.specs.Prelude.{⊤}
use Rattle.std.proofs.Common.{◌≡◌, ⊎_elim, inl, inr, ℕ, Bool, false, cond, nat_le, Option, Some, None, is_some, IsSome, refl, ap, sym, ◌∙◌, subst}
use Rattle.std.proofs.Math.Dec.{leb-zero}
use Rattle.std.proofs.lemmas.Bool.{or_parts, false≢true}
use Rattle.std.specs.FinMap.{get, insert}
use Rattle.hb_base.specs.declared.cause.Cause.{Cause}
use Rattle.hb_disco.specs.declared.response.Response.{Response}
use Rattle.hb_held.specs.Held.{Resources}
use Rattle.hb_held.specs.Outcome.{after_response}
use Rattle.hb_inbound.specs.Inbound as m
use Rattle.hb_inbound.specs.Inbound.{Inbound, rejudged, stopped_for, stops_by, judged_by}
use Rattle.hb_inbound.specs.Part as part
use Rattle.hb_inbound.specs.Tunnel as t
use Rattle.hb_inbound.specs.Tunnel.{Tunnel, takes_place, ends_by}
use Rattle.hb_link.specs.Calls as calls
use Rattle.hb_link.specs.Noted.{Told}
use Rattle.hb_link.specs.Rousing.{Rouses}
use Rattle.hb_link.specs.Tunnels.{ShowsTunnel}
use Rattle.hb_link.specs.declared.link.Link.{Link}
use Rattle.hb_map.proofs.Laws.{written_where_some}
use Rattle.hb_map.specs.Keyed.{IsFirstFrom, written}
use Rattle.std.specs.Option.{option_map}
use Rattle.hb_model.specs.Machine as control
use Rattle.hb_model.specs.Point as point
use Rattle.hb_model.specs.declared.config.NodeConfig.{NodeConfig}
use Rattle.hb_proxy.specs.Machine.{Machine, local}
use Rattle.hb_proxy.specs.Points.{of_control}
use Rattle.hb_proxy.specs.Runs.{Steps}
use Rattle.hb_table.specs.Judgement.{judged}
use Rattle.hb_links.specs.declared.links.Links.{Links}
use Rattle.hb_links.specs.Busy.{counted, is_at, touched}
use Rattle.hb_links.specs.Calls.{Updates, Stops}
use Rattle.hb_links.specs.Shows.{IsAway, ShowsLink}
use Rattle.hb_links.specs.Walks.{IsNext, JudgesAt, Telling, TellsBy}
use Rattle.hb_links.proofs.Showing.{Map}
use Rattle.hb_links.proofs.Sparing.{Spares, spares_all, spares_others, same_links, spared_rests}
use Rattle.hb_links.proofs.Staying.{stopped_stays}
use Rattle.hb_links.proofs.Sweeping.{AllSee, Swept, starts, goes, ends}

-- only links change, and the count of places
abbrev pub IsTold : Links → Links → Type 0
IsTold k n = n ≡ record k { links = n.links; taken = n.taken }

-- the walk is at a link
abbrev pub IsOn : Option ℕ → Map → Type 0
IsOn None links = ⊤
IsOn (Some n) links = IsSome (get links n)

first_on : (links : Map) (first : Option ℕ) → IsFirstFrom links 0 first → IsOn first links
first_on links None is = tt
first_on links (Some n) is = is.1

next_on : (links : Map) (n : ℕ) (next : Option ℕ) → IsNext links n next → IsOn next links
next_on links n None is = tt
next_on links n (Some m) (inl is) = is.1
next_on links n (Some m) (inr is) = absurd (let none = is.0 in cc)

abbrev pub held_by : Resources → Response → Machine → Type 0
held_by held r x = held ≡ after_response x.control.held r

abbrev pub Applies : Resources → Links → Links → Option ℕ → Told → Told → Type 0
Applies held k n from told now =
    Spares k n × IsOn from n.links
    × ((l : ℕ) (r : Response) → Swept (held_by held r) (point.applied l r) (part.applied r) k n.links from told now)

abbrev pub Stopping : Cause → Links → Links → Option ℕ → Told → Told → Type 0
Stopping cause k n from told now =
    IsTold k n × IsOn from n.links × Swept (λ x. ⊤) (point.stopped cause) (part.stopped cause) k n.links from told now

-- A TUNNEL THAT ISN'T THERE

pub placeless : (x : Tunnel) → ShowsTunnel None x → takes_place x.stage ≡ false
placeless x shown = ⊎_elim (λ (is : x.stage ≡ t.unasked). ap takes_place is) (λ (is : x.stage ≡ t.gone). ap takes_place is) shown

away_judged : (held : Resources) (l : ℕ) (x : Inbound) → ShowsLink l None x → ShowsLink l None (rejudged held x)
away_judged held l x shown = (
  shown.0,
  λ s. subst (ShowsTunnel None)
      (sym (ap (λ (b : Bool). cond b (judged_by (judged held x.peer (x.tunnels s).target) (x.tunnels s)) (x.tunnels s))
      (placeless (x.tunnels s) (shown.1 s)))) (shown.1 s),
)

away_by : (cause : Cause) (phase : m.Phase) → IsAway phase → IsAway (stops_by cause phase)
away_by cause m.unborn is = tt
away_by cause m.closed is = tt
away_by cause m.arriving is = absurd is
away_by cause m.fronting is = absurd is
away_by cause m.serving is = absurd is
away_by cause (m.faulted code) is = absurd is
away_by cause (m.closing why) is = absurd is

away_stopped : (cause : Cause) (l : ℕ) (x : Inbound) → ShowsLink l None x → ShowsLink l None (stopped_for cause x)
away_stopped cause l x shown = (
  away_by cause x.phase shown.0,
  λ s. ⊎_elim (λ (is : (x.tunnels s).stage ≡ t.unasked). inl (ap (ends_by cause) is))
      (λ (is : (x.tunnels s).stage ≡ t.gone). inr (ap (ends_by cause) is)) (shown.1 s),
)

-- WHAT ALL SEE

applied_seen : (l : ℕ) (r : Response) (g : NodeConfig) (x y : Machine) → Steps g x (of_control (point.applied l r)) y
    → AllSee g x y (point.applied l r) (part.applied r)
applied_seen l r g x y steps = record {
  sees = refl;
  leaves = tt;
  steps = λ k. ap (λ (w : Machine). local w k) steps.3
      ∙ ap (λ (h : Resources). record { held = h; link = rejudged (after_response x.control.held r) (x.inbound k) })
      (ap (λ (n : control.Machine). n.held) steps.1.3);
  opened = λ k away. subst (λ (w : Machine). IsAway (w.inbound k).phase) steps.3 away;
  away = λ k shown. subst (λ (w : Machine). ShowsLink k None (w.inbound k)) (sym steps.3)
      (away_judged (after_response x.control.held r) k (x.inbound k) shown);
}

stopped_seen : (cause : Cause) (g : NodeConfig) (x y : Machine) → Steps g x (of_control (point.stopped cause)) y
    → AllSee g x y (point.stopped cause) (part.stopped cause)
stopped_seen cause g x y steps = record {
  sees = refl;
  leaves = tt;
  steps = λ k. ap (λ (w : Machine). local w k) steps.3
      ∙ ap (λ (h : Resources). record { held = h; link = stopped_for cause (x.inbound k) })
      (ap (λ (n : control.Machine). n.held) steps.1.1);
  opened = λ k away. stopped_stays cause (x.inbound k).phase (subst (λ (w : Machine). IsAway (w.inbound k).phase) steps.3 away);
  away = λ k shown. subst (λ (w : Machine). ShowsLink k None (w.inbound k)) (sym steps.3)
      (away_stopped cause k (x.inbound k) shown);
}

-- ONE AFTER ANOTHER

pub applied_starts : (held : Resources) (k : Links) (first : Option ℕ) (told : Told) → IsFirstFrom k.links 0 first
    → Applies held k k first told told
applied_starts held k first told is = (
  spares_all k,
  first_on k.links first is,
  λ l r. starts (held_by held r) (point.applied l r) (part.applied r) k first told (λ g x y holds steps. applied_seen l r g x y steps) is,
)

pub applied_goes : (held : Resources) (k a b : Links) (n : ℕ) (next : Option ℕ) (told now then : Told)
    → Applies held k a (Some n) told now → JudgesAt held (get a.links n) n a now b then → IsNext b.links n next
    → Applies held k b next told then
applied_goes held k a b n next told now then applies tells next_is = by (get a.links n) refl tells
  where
    one : (old new : Link) → get a.links n ≡ Some old → calls.Updates held old now new then → Spares k b
        → insert a.links n new ≡ b.links → Applies held k b next told then
    one old new is updates spares links_are = (
      spares,
      next_on b.links n next next_is,
      λ l r. subst (λ (links : Map). Swept (held_by held r) (point.applied l r) (part.applied r) k links next told then) links_are
          (goes (held_by held r) (λ c. held ≡ after_response c.held r) (point.applied l r) (part.applied r) k a.links n old new next
          told now then (λ x i holds. holds) (applies.2 l r) is (updates r)
          (subst (λ (links : Map). IsNext links n next) (sym links_are) next_is)),
    )

    by : (o : Option Link) → get a.links n ≡ o → JudgesAt held o n a now b then → Applies held k b next told then
    by None none told_so = absurd (let some = sym (ap is_some none) ∙ applies.1 in false≢true some)
    by (Some old) is (new, updates, inl spared) =
        one old new is updates (subst (Spares k) (sym spared.1) applies.0)
        (same_links a n old new is spared.0 ∙ ap (λ (w : Links). w.links) (sym spared.1))
    by (Some old) is (new, updates, inr touches) =
        one old new is updates (subst (Spares k) (sym touches.1) (spares_others k a n touches.0 old new is touches.2 applies.0))
        (ap (λ (w : Links). w.links) (sym touches.1))

pub applied_ends : (held : Resources) (k a : Links) (told now : Told) → Applies held k a None told now → Updates held k told a now
applied_ends held k a told now applies l r =
    ends (held_by held r) (point.applied l r) (part.applied r) k a told now applies.0.ups (spared_rests k a applies.0) (applies.2 l r)

pub stopped_starts : (cause : Cause) (k : Links) (first : Option ℕ) (told : Told) → IsFirstFrom k.links 0 first
    → Stopping cause k k first told told
stopped_starts cause k first told is = (
  refl,
  first_on k.links first is,
  starts (λ x. ⊤) (point.stopped cause) (part.stopped cause) k first told (λ g x y holds steps. stopped_seen cause g x y steps) is,
)

pub stopped_goes : (cause : Cause) (k a b : Links) (n : ℕ) (next : Option ℕ) (told now then : Told)
    → Stopping cause k a (Some n) told now → TellsBy (calls.Stops cause) (get a.links n) n a now b then → IsNext b.links n next
    → Stopping cause k b next told then
stopped_goes cause k a b n next told now then so_far tells next_is = by (get a.links n) refl tells
  where
    one : (old new : Link) → get a.links n ≡ Some old → calls.Stops cause old now new then
        → IsNext (insert a.links n new) n next → Stopping cause k (record a { links = insert a.links n new; taken = b.taken }) next told then
    one old new is stops next_here = (
      ap (λ (w : Links). record w { links = insert a.links n new; taken = b.taken }) so_far.0,
      next_on (insert a.links n new) n next next_here,
      goes (λ x. ⊤) (λ c. ⊤) (point.stopped cause) (part.stopped cause) k a.links n old new next told now then (λ x i holds. tt) so_far.2
          is stops next_here,
    )

    by : (o : Option Link) → get a.links n ≡ o → TellsBy (calls.Stops cause) o n a now b then → Stopping cause k b next told then
    by None none told_so = absurd (let some = sym (ap is_some none) ∙ so_far.1 in false≢true some)
    by (Some old) is told_so =
        subst (λ (w : Links). Stopping cause k w next told then) (sym told_so.2)
        (one old told_so.0 is told_so.1 (subst (λ (w : Links). IsNext w.links n next) told_so.2 next_is))

pub stopped_ends : (cause : Cause) (k a : Links) (told now : Told) → Stopping cause k a None told now
    → Stops cause k told (record a { from = Some 0; stirs_from = Some 0 }) now
stopped_ends cause k a told now so_far =
    ends (λ x. ⊤) (point.stopped cause) (part.stopped cause) k (record a { from = Some 0; stirs_from = Some 0 }) told now
    (ap (λ (w : Links). w.ups) so_far.0)
    (λ f h shows links l none. absurd (false≢true (sym (or_parts (is_at a.busy l) (nat_le 0 l) none).1 ∙ leb-zero l))) so_far.2

-- the first of all, as the map gives it
pub first_is : (links : Map) (first : Option ℕ) → IsFirstFrom links 0 (option_map (λ n. n) first) → IsFirstFrom links 0 first
first_is links None is = is
first_is links (Some n) is = is

-- one is told
pub told_one : (R : Telling) (k m : Links) (links : Map) (n before : ℕ) (old new : Link) (told now : Told) → get k.links n ≡ Some old
    → links ≡ written k.links n new → m ≡ counted n before (record k { links = links }) → R old told new now
    → TellsBy R (get k.links n) n k told m now
told_one R k m links n before old new told now is links_is m_is does =
    subst (λ (o : Option Link). TellsBy R o n k told m now) (sym is) (
      new,
      does,
      m_is
          ∙ ap (λ (t : ℕ). record k { links = links; taken = t }) (sym (ap (λ (w : Links). w.taken) m_is))
          ∙ ap (λ (map : Map). record k { links = map; taken = m.taken })
          (links_is ∙ written_where_some k.links n new (ap is_some is)),
    )

-- a response is told to one: it is touched, or stays as it is
pub judged_one : (held : Resources) (k m : Links) (links : Map) (n before : ℕ) (old new : Link) (told now : Told) → get k.links n ≡ Some old
    → links ≡ written k.links n new → m ≡ touched n before (record k { links = links }) → Rouses old new
    → calls.Updates held old told new now → JudgesAt held (get k.links n) n k told m now
judged_one held k m links n before old new told now is links_is m_is rouses does =
    subst (λ (o : Option Link). JudgesAt held o n k told m now) (sym is) (
      new,
      does,
      inr (
        before,
        m_is
            ∙ ap (λ (map : Map). touched n before (record k { links = map }))
            (links_is ∙ written_where_some k.links n new (ap is_some is)),
        rouses,
      ),
    )

pub spared_one : (held : Resources) (k m : Links) (links : Map) (n : ℕ) (old new : Link) (told now : Told) → get k.links n ≡ Some old
    → links ≡ written k.links n new → m ≡ record k { links = links } → new ≡ old → calls.Updates held old told new now
    → JudgesAt held (get k.links n) n k told m now
spared_one held k m links n old new told now is links_is m_is same does =
    subst (λ (o : Option Link). JudgesAt held o n k told m now) (sym is) (
      new,
      does,
      inl (
        same,
        m_is
            ∙ ap (λ (map : Map). record k { links = map })
            (links_is ∙ written_where_some k.links n new (ap is_some is) ∙ same_links k n old new is same),
      ),
    )
