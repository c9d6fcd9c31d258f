-- An act that is due of one link is one of all links.
use Rattle.std.proofs.Common.{◌≡◌, ◌≢◌, inl, inr, ⊎_elim, ◌||◌, ℕ, zero, suc, ◌<◌, ◌^◌, Bool, true, false, cond, List, [], Option, Some, None, IsSome, is_some, refl, ap, sym, ◌∙◌, subst, arith}
use Rattle.std.proofs.lemmas.Bool.{eq-eqb, ne_eqb, false≢true}
use Rattle.std.specs.FinMap.{get, insert, remove}
use Rattle.hb_base.specs.declared.cause.Cause.{Cause}
use Rattle.hb_base.specs.declared.door.Why.TheVariants as whys
use Rattle.hb_inbound.specs.Calm.{IsCalm, RestsIn, IsIdleBy, close_due}
use Rattle.hb_inbound.specs.Inbound as m
use Rattle.hb_inbound.specs.Inbound.{Inbound}
use Rattle.hb_inbound.specs.Part as part
use Rattle.hb_inbound.specs.Part.{Part}
use Rattle.hb_inbound.specs.Runs as inbound
use Rattle.hb_inbound.specs.Runs.{Local, with_link}
use Rattle.hb_inbound.specs.Tunnel as t
use Rattle.hb_inbound.specs.Tunnel.{Tunnel, is_unanswered}
use Rattle.hb_link.specs.Acts as link
use Rattle.hb_link.specs.Acts.{NoneIsDue}
use Rattle.hb_link.specs.Reaches as reaching
use Rattle.hb_link.specs.Shows.{Shows}
use Rattle.hb_link.specs.Tunnels.{phase_of, ShowsTunnel}
use Rattle.hb_link.specs.declared.link.Link.{Link}
use Rattle.hb_link.specs.declared.phase.Phase.{Phase}
use Rattle.hb_link.specs.declared.phase.Phase.TheVariants as phases
use Rattle.hb_map.proofs.Laws.{put_here, put_elsewhere, removed_here, removed_elsewhere}
use Rattle.hb_model.specs.declared.config.NodeConfig.{NodeConfig}
use Rattle.hb_proxy.proofs.Owned.{all_owned, whose_in}
use Rattle.hb_proxy.proofs.Projection.{links_run}
use Rattle.hb_proxy.proofs.Stays.{OwnsBy, is_born}
use Rattle.hb_proxy.specs.Held.{at_start}
use Rattle.hb_proxy.specs.Machine.{Machine, local, with_part}
use Rattle.hb_proxy.specs.Owners.{nobody, inbound_link, upstream_of}
use Rattle.hb_proxy.specs.Points.{Point, parts_of}
use Rattle.hb_proxy.specs.Runs.{BirthMayCome, ControlRests, GatesLet, LinkGuard, LinkMayCome, Lets, PlainLets, StandsFor, is_act, is_link_faulted, link_first}
use Rattle.hb_proxy.specs.Ups.{up_by, up_now, Joins}
use Rattle.hb_world.specs.declared.act.Act.{Act}
use Rattle.hb_world.specs.declared.act.Act.TheVariants as act
use Rattle.hb_world.specs.declared.entry.Entry.{Entry}
use Rattle.hb_world.specs.declared.entry.Entry.TheVariants as e
use Rattle.hb_links.specs.declared.links.Links.{Links}
use Rattle.hb_links.specs.Acts.{Acts, ActsOn, Does}
use Rattle.hb_links.specs.Busy.{touched}
use Rattle.hb_links.specs.Shows.{IsAway, ShowsAll, ShowsLink}
use Rattle.hb_links.specs.Walks.{closed_by, finished}
use Rattle.hb_links.proofs.Indexing.{closed, owner_is}
use Rattle.hb_links.proofs.Lifted.{here, there}
use Rattle.hb_links.proofs.Showing.{Index, Indexes, Map, links_with, leaves_index, shown_then}
use Rattle.hb_links.proofs.Staying.{up_open}
use Rattle.hb_links.proofs.Ups.{ups_then}

-- ALL LINKS ARE CALM

answered_away : (x : Tunnel) → ShowsTunnel None x → is_unanswered x.stage ≡ false
answered_away x shown =
    ⊎_elim (λ (is : x.stage ≡ t.unasked). ap is_unanswered is) (λ (is : x.stage ≡ t.gone). ap is_unanswered is) shown

rests_away : (phase : m.Phase) (x : Inbound) → IsAway phase → RestsIn phase x
rests_away m.unborn x away = tt
rests_away m.closed x away = tt
rests_away m.arriving x away = absurd away
rests_away m.fronting x away = absurd away
rests_away m.serving x away = absurd away
rests_away (m.faulted code) x away = tt
rests_away (m.closing why) x away = tt

calm_by : (l : ℕ) (o : Option Link) (x : Inbound) → ShowsLink l o x → IsCalm x
calm_by l None x shown = record {
  answered = λ s. answered_away (x.tunnels s) (shown.1 s);
  rests = rests_away x.phase x shown.0;
}
calm_by l (Some k) x shown = shown.1.calm

pub all_calm : (k : Links) (f : ℕ → Inbound) → ShowsAll k f → (l : ℕ) → IsCalm (f l)
all_calm k f shows l = calm_by l (get k.links l) (f l) (shows.links l)

-- no act is due of a link that isn't there
no_close_away : (phase : m.Phase) → IsAway phase → close_due phase ≡ None
no_close_away m.unborn away = refl
no_close_away m.closed away = refl
no_close_away m.arriving away = refl
no_close_away m.fronting away = refl
no_close_away m.serving away = refl
no_close_away (m.faulted code) away = absurd away
no_close_away (m.closing why) away = absurd away

pub away_idle : (l : ℕ) (x : Inbound) → ShowsLink l None x → NoneIsDue x
away_idle l x shown = record {
  no_close = no_close_away x.phase shown.0;
  idle = λ s. ⊎_elim (λ (is : (x.tunnels s).stage ≡ t.unasked).
      subst (λ (stage : t.Stage). IsIdleBy stage (x.tunnels s)) (sym is) tt)
      (λ (is : (x.tunnels s).stage ≡ t.gone). subst (λ (stage : t.Stage). IsIdleBy stage (x.tunnels s)) (sym is) tt) (shown.1 s);
}

-- so an act may come
goes_first : (phase : m.Phase) (z : Entry) → is_act z ≡ true → link_first phase z ≡ true
goes_first phase z is = by (is_link_faulted phase) (is_act z) is
  where
    by : (a b : Bool) → b ≡ true → (a || b) ≡ true
    by true b is = refl
    by false b is = is

act_may_come : (k : Links) (x : Machine) (l : ℕ) (z : Entry) → ShowsAll k x.inbound → ControlRests x.control
    → ((j : ℕ) → PlainLets true (x.plain j)) → GatesLet true x → is_act z ≡ true → BirthMayCome x z → LinkMayCome x l z
act_may_come k x l z shows rests plain gates is birth = record {
  birth = birth;
  control = rests;
  others = λ j apart. subst (λ (first : Bool). Lets first (x.inbound j)) (sym (goes_first (x.inbound l).phase z is))
      (all_calm k x.inbound shows j);
  plain = λ j. subst (λ (first : Bool). PlainLets first (x.plain j)) (sym (goes_first (x.inbound l).phase z is)) (plain j);
  gates = subst (λ (first : Bool). GatesLet first x) (sym (goes_first (x.inbound l).phase z is)) gates;
}

-- WHAT AN ACT DOES

turned : (y : Inbound) (a b : Local) → b ≡ with_link y a → b ≡ with_link b.link a
turned y a b is = is ∙ ap (λ (z : Inbound). with_link z a) (sym (ap (λ (c : Local). c.link) is))

-- where so many of its tunnels took a place before
module _ (before : ℕ) where
  -- a part of a link comes, and nothing happens by itself behind it
  module _ (k : Links) (l : ℕ) (p : Part) (links : Map) (now : Option Link) (ups : Index) (g : NodeConfig) (x : Machine)
      (points : List Point) (stands : StandsFor g x points) (shows : ShowsAll k x.inbound) (is : get links l ≡ now)
      (same : (j : ℕ) → j ≢ l → get links j ≡ get k.links j) where
    pub does : (b : Local) → inbound.Steps l (local x l) p b → b ≡ with_link b.link (local x l) → LinkGuard g x l p → l < 2 ^ 64
        → ShowsLink l now b.link → (IsSome now → IsAway b.link.phase → ⊥) → Indexes ups x.inbound l p
        → Does (touched l before (links_with links ups k)) g x l p
    does b step b_is guard narrow shown opened index =
        let y = with_part l p b.link x in
        let link_is : y.inbound l ≡ b.link = ap (λ (a : Local). a.link) (here x l p b.link) in
        record {
          y = y;
          steps = (b.link, subst (inbound.Steps l (local x l) p) b_is step, guard, refl);
          shows = shown_then before k l p links now ups x shows is same y.inbound narrow
              (subst (λ (w : Inbound). ShowsLink l now w) (sym link_is) shown)
              (λ some away. opened some (subst (λ (w : Inbound). IsAway w.phase) link_is away))
              (there x l p b.link)
              (λ s. ap (λ (w : Inbound). up_now (w.tunnels s)) link_is
              ∙ ups_then reaching.unguarded l (at_start g) (local x l) b b (parts_of l points) p [] (links_run g x points l stands)
              step refl s)
              index;
        }

  module _ (k : Links) (l : ℕ) (old new : Link) (is : get k.links l ≡ Some old) (numbered : new.number ≡ old.number)
      (g : NodeConfig) (x : Machine) (points : List Point) (stands : StandsFor g x points) (shows : ShowsAll k x.inbound)
      (rests : ControlRests x.control) (plain : (j : ℕ) → PlainLets true (x.plain j)) (gates : GatesLet true x) where
    shown : ShowsLink l (Some old) (x.inbound l)
    shown = subst (λ (o : Option Link). ShowsLink l o (x.inbound l)) is (shows.links l)

    narrow : l < 2 ^ 64
    narrow = shows.numbered l (ap is_some is)

    opened : IsAway (x.inbound l).phase → ⊥
    opened = shows.kept l (ap is_some is)

    -- what the code does at the link's own number it does here
    at_link : (p : Part) → link.Does p old new → (b : Local) × inbound.Steps l (local x l) p b × Shows new b.link
    at_link p it =
        let one = it (local x l) shown.1 in
        (one.0, subst (λ (i : ℕ). inbound.Steps i (local x l) p one.0) shown.0 one.1, one.2)

    shut : (s u : ℕ) → link.Does (part.up s (e.Shut u)) old new
        → Does (touched l before (links_with (insert k.links l new) k.ups k)) g x l (part.up s (e.Shut u))
    shut s u it =
        let one = at_link (part.up s (e.Shut u)) it in
        does k l (part.up s (e.Shut u)) (insert k.links l new) (Some new) k.ups g x points stands shows (put_here k.links l new)
        (put_elsewhere k.links l new) one.0 one.1 (turned _ (local x l) one.0 one.1.1)
        (act_may_come k x l (e.Shut u) shows rests plain gates refl tt) narrow (numbered ∙ shown.0, one.2)
        (λ some away. opened (up_open s (e.Shut u) l (local x l) one.0 one.1 away))
        (leaves_index k.ups x.inbound l (part.up s (e.Shut u)) (λ v. refl) shows.index)

    -- the upstream that is closed was the tunnel's
    was_joined : (s u : ℕ) (cause : Cause) (b : Local) → inbound.Steps l (local x l) (part.up s (e.Closed u cause)) b
        → Joins ((x.inbound l).tunnels s) u
    was_joined s u cause b step =
        let tunnel = (x.inbound l).tunnels s in
        let is_up : up_now tunnel ≡ u = ap (λ (stage : t.Stage). up_by stage tunnel) step.0.1 ∙ step.0.2 in
        (some_up tunnel.up step.0.2, is_up)
      where
        owned : whose_in points ((x.inbound l).tunnels s).up ≡ upstream_of l s
        owned = subst (λ (stage : t.Stage). OwnsBy stage (whose_in points) l s ((x.inbound l).tunnels s).up) step.0.1
            ((all_owned g x points stands).up l s)

        some_up : (v : ℕ) → v ≡ u → 0 < u
        some_up v v_is = by u refl
          where
            by : (w : ℕ) → u ≡ w → 0 < w
            by zero none = absurd (let both : nobody ≡ upstream_of l s = sym (all_owned g x points stands).none
                ∙ ap (whose_in points) (sym (step.0.2 ∙ none)) ∙ owned in cc)
            by (suc w) some = omega arith

    close_up : (s u : ℕ) (cause : Cause) → link.Does (part.up s (e.Closed u cause)) old new
        → Does (touched l before (links_with (insert k.links l new) (remove k.ups u) k)) g x l (part.up s (e.Closed u cause))
    close_up s u cause it =
        let one = at_link (part.up s (e.Closed u cause)) it in
        does k l (part.up s (e.Closed u cause)) (insert k.links l new) (Some new) (remove k.ups u) g x points stands shows
        (put_here k.links l new) (put_elsewhere k.links l new) one.0 one.1 (turned _ (local x l) one.0 one.1.1)
        (act_may_come k x l (e.Closed u cause) shows rests plain gates refl tt) narrow (numbered ∙ shown.0, one.2)
        (λ some away. opened (up_open s (e.Closed u cause) l (local x l) one.0 one.1 away))
        (λ z others ups. closed x.inbound z l s 0 others ups u refl (was_joined s u cause one.0 one.1) k.ups shows.index)

    close_own : (cause : Cause) → ((s : ℕ) → get new.tunnels s ≡ None) → link.Does (part.entry (e.Closed l cause)) old new
        → Does (touched l before (links_with (remove (insert k.links l new) l) k.ups k)) g x l (part.entry (e.Closed l cause))
    close_own cause none it =
        let one = at_link (part.entry (e.Closed l cause)) it in
        let phase : one.0.link.phase ≡ m.closed = ap (λ (a : Local). a.link.phase) one.1.1 in
        does k l (part.entry (e.Closed l cause)) (remove (insert k.links l new) l) None k.ups g x points stands shows
        (removed_here (insert k.links l new) l)
        (λ j apart. removed_elsewhere (insert k.links l new) l j apart ∙ put_elsewhere k.links l new j apart)
        one.0 one.1 (turned _ (local x l) one.0 one.1.1)
        (act_may_come k x l (e.Closed l cause) shows rests plain gates refl tt) narrow (
          subst IsAway (sym phase) tt,
          λ s. subst (λ (o : _). ShowsTunnel o (one.0.link.tunnels s)) (none s) (one.2.tunnels s),
        )
        (λ some. absurd (false≢true some))
        (leaves_index k.ups x.inbound l (part.entry (e.Closed l cause)) tt shows.index)

    -- a dial changes nothing
    dials : new ≡ old → ShowsAll (touched l before (links_with (insert k.links l new) k.ups k)) x.inbound
    dials unchanged =
        shown_then before k l part.welcomed (insert k.links l new) (Some new) k.ups x shows (put_here k.links l new) (put_elsewhere k.links l new)
        x.inbound narrow (subst (λ (w : Link). ShowsLink l (Some w) (x.inbound l)) (sym unchanged) shown)
        (λ some. opened) (λ j apart. refl) (λ s. refl)
        (leaves_index k.ups x.inbound l part.welcomed tt shows.index)

    -- a link isn't the upstream of one of its tunnels
    not_own : (s : ℕ) → Joins ((x.inbound l).tunnels s) l → ⊥
    not_own s joins =
        let own : whose_in points l ≡ inbound_link = (all_owned g x points stands).link l (born_by old.phase shown.1.phase) in
        let both : inbound_link ≡ upstream_of l s = sym own ∙ owner_is g x points stands l s l joins in
        cc
      where
        born_by : (phase : Phase) → (x.inbound l).phase ≡ phase_of phase → is_born (x.inbound l).phase ≡ true
        born_by phases.Fronting at = ap is_born at
        born_by phases.Serving at = ap is_born at
        born_by (phases.Faulted code) at = ap is_born at
        born_by (phases.Closing why) at = ap is_born at
        born_by phases.Closed at = ap is_born at

    abbrev After : Act → Links
    After due = finished l due before (links_with (insert k.links l new) k.ups k)

    closed_here : (u : ℕ) → u ≡ l
        → closed_by l u (links_with (insert k.links l new) k.ups k) ≡ links_with (remove (insert k.links l new) l) k.ups k
    closed_here u at =
        ap (λ (b : Bool). cond b (links_with (remove (insert k.links l new) l) k.ups k)
        (links_with (insert k.links l new) (remove k.ups u) k)) (eq-eqb u l at)

    closed_there : (u : ℕ) → u ≢ l
        → closed_by l u (links_with (insert k.links l new) k.ups k) ≡ links_with (insert k.links l new) (remove k.ups u) k
    closed_there u apart =
        ap (λ (b : Bool). cond b (links_with (remove (insert k.links l new) l) k.ups k)
        (links_with (insert k.links l new) (remove k.ups u) k)) (ne_eqb u l apart)

    acts : (due : Act) → link.Acts (Some due) old new → ActsOn (Some due) (After due) g x
    acts (act.Dial to why) it = (
      dials it.0,
      l,
      it.1,
      it.2 ∙ ap (λ (i : ℕ). whys.Upstream i it.1) shown.0,
      (it.4 (x.inbound l) shown.1).0,
      (it.4 (x.inbound l) shown.1).1,
    )
    acts (act.Shut u) it = (l, it.0, shut it.0 u it.2)
    acts (act.Close u cause) it = ⊎_elim
        (λ own. inl (close_at_own own.0 own.1 own.2))
        (λ up. inr (l, up.0, close_at_up up.0 up.2)) it
      where
        close_at_own : u ≡ old.number → ((s : ℕ) → get new.tunnels s ≡ None) → link.Does (part.entry (e.Closed u cause)) old new
            → Does (After (act.Close u cause)) g x u (part.entry (e.Closed u cause))
        close_at_own at none does_so =
            let here_is : u ≡ l = at ∙ shown.0 in
            subst (λ (w : Links). Does (touched l before w) g x u (part.entry (e.Closed u cause))) (sym (closed_here u here_is))
            (subst (λ (i : ℕ). Does (touched l before (links_with (remove (insert k.links l new) l) k.ups k)) g x i (part.entry (e.Closed i cause)))
            (sym here_is)
            (close_own cause none (subst (λ (i : ℕ). link.Does (part.entry (e.Closed i cause)) old new) here_is does_so)))

        close_at_up : (s : ℕ) → link.Does (part.up s (e.Closed u cause)) old new
            → Does (After (act.Close u cause)) g x l (part.up s (e.Closed u cause))
        close_at_up s does_so =
            let one = at_link (part.up s (e.Closed u cause)) does_so in
            let joins = was_joined s u cause one.0 one.1 in
            subst (λ (w : Links). Does (touched l before w) g x l (part.up s (e.Closed u cause)))
            (sym (closed_there u (λ same. not_own s (subst (Joins ((x.inbound l).tunnels s)) same joins))))
            (close_up s u cause does_so)

  pub acts_on : (k : Links) (l : ℕ) (old new : Link) (due : Act) → get k.links l ≡ Some old → new.number ≡ old.number
      → link.Acts (Some due) old new → Acts (Some due) k (finished l due before (links_with (insert k.links l new) k.ups k))
  acts_on k l old new due is numbered it g x points stands shows rests plain gates =
      acts k l old new is numbered g x points stands shows rests plain gates due it
