-- An act that is due of one link is one of all links.
use Rattle.std.proofs.Common.{◌≡◌, ◌≢◌, inl, inr, ⊎_elim, ℕ, ◌<◌, ◌^◌, Bool, true, false, cond, List, Option, Some, None, is_some, refl, ap, sym, ◌∙◌, subst}
use Rattle.std.proofs.lemmas.Bool.{cases_eq, eq-eqb, eqb-true, ne_eqb}
use Rattle.std.specs.FinMap.{get, insert, remove}
use Rattle.hb_base.specs.declared.cause.Cause.{Cause}
use Rattle.hb_captured.specs.Answer.{why_for}
use Rattle.hb_captured.specs.Calm.{IsCalm, IsCalmBy}
use Rattle.hb_captured.specs.Captured as m
use Rattle.hb_captured.specs.Captured.{Captured, Stage, counts_for, due, entered, is_raw, up_entered}
use Rattle.hb_captured.specs.Counts.{recounted}
use Rattle.hb_captured.specs.Part.{Part, entry, up}
use Rattle.hb_captured.specs.Runs.{Local, MayGo, next, next_link}
use Rattle.hb_gateway.specs.Key.{Key}
use Rattle.hb_map.proofs.Laws.{put_here, put_elsewhere, removed_here, removed_elsewhere, written_where_some}
use Rattle.hb_map.specs.Keyed.{written}
use Rattle.hb_model.specs.declared.config.NodeConfig.{NodeConfig}
use Rattle.hb_proxy.proofs.Owned.{all_owned, whose_in}
use Rattle.hb_proxy.proofs.PlainStays.{is_plain_born}
use Rattle.hb_proxy.specs.Load.{LinksFull}
use Rattle.hb_proxy.specs.Machine.{Machine, Outward, outward, plain_local, with_plain}
use Rattle.hb_proxy.specs.Owners.{plain_link, relay_of}
use Rattle.hb_proxy.specs.Points.{Point}
use Rattle.hb_proxy.specs.Runs.{BirthMayCome, ControlRests, DialsGate, GatesLet, IfThrough, Lets, LiveRests, MayDialGate, NoneOffers, PlainGuard, PlainLets, PlainMayCome, RestsAmong, StandsFor, StreamRestsBy, is_act}
use Rattle.hb_proxy.specs.Seen.{IsPlainThereBy}
use Rattle.hb_proxy.specs.Ups.{IsRelayOf}
use Rattle.hb_relay.specs.Acts as relay
use Rattle.hb_relay.specs.Shows.{Shows, captured_of}
use Rattle.hb_relay.specs.declared.relay.Relay.{Relay}
use Rattle.hb_route.specs.Opens.{Counts}
use Rattle.hb_world.specs.declared.act.Act.{Act}
use Rattle.hb_world.specs.declared.act.Act.TheVariants as act
use Rattle.hb_world.specs.declared.entry.Entry.{Entry}
use Rattle.hb_world.specs.declared.entry.Entry.TheVariants as e
use Rattle.hb_relays.specs.Acts.{ActsOn, Does}
use Rattle.hb_relays.specs.Joining.{all, every}
use Rattle.hb_relays.specs.Shows.{AreCalm, IsAwayBy, IsIdle, IsIndex, ShowsRelay, ShowsRelays}
use Rattle.hb_relays.specs.Walks.{Map, Index, ActsOf, ShowsBut, changed, closed_by, finished, relays_with, touched_at}
use Rattle.hb_relays.specs.declared.relays.Relays.{Relays}
use Rattle.hb_relays.proofs.Away.{away_is}
use Rattle.hb_relays.proofs.Births.{owner_is}
use Rattle.hb_relays.proofs.Entering.{up_facts}
use Rattle.hb_relays.proofs.Lifted.{here, there}
use Rattle.hb_relays.proofs.Progress.{is_all}
use Rattle.hb_relays.proofs.Showing.{closed_index, kept_shown, opens_by, raw_rests, same_ups, shown_then, there_by, ups_same}
use Rattle.hb_relays.proofs.Straight.{runs_straight}

-- ALL LINKS ARE CALM

pub calm_by : (l : ℕ) (o : Option Relay) (x : Captured) → ShowsRelay l o x → IsCalm x
calm_by l None x shown = (away_is x shown).calm
calm_by l (Some k) x shown = shown.1.calm

-- so an act may come
act_may_come : (k : Relays) (x : Machine) (l : ℕ) (z : Entry) → ((j : ℕ) → ShowsRelay j (get k.relays j) (x.plain j))
    → AreCalm (outward x) → ControlRests x.control → ((j : ℕ) → Lets true (x.inbound j)) → is_act z ≡ true
    → BirthMayCome x z → PlainMayCome x l z
act_may_come k x l z shows calm rests lets is birth = record {
  birth = birth;
  control = rests;
  links = λ j. subst (λ (first : Bool). Lets first (x.inbound j)) (sym is) (lets j);
  others = λ j apart. subst (λ (first : Bool). PlainLets first (x.plain j)) (sym is) (calm_by j (get k.relays j) (x.plain j) (shows j));
  gates = subst (λ (first : Bool). GatesLet first x) (sym is) (record { gates = calm.gates; streams = calm.streams });
}

-- NOTHING OF A LINK CHANGED: it is shown as before

pub shows_still : (old new : Relay) (x : Captured) → captured_of new ≡ captured_of old → Shows old x → Shows new x
shows_still old new x same shows =
    record { same = shows.same ∙ sym same; calm = shows.calm; upstream = shows.upstream; straight = shows.straight }

-- nor does it count otherwise
counts_still : (at : Option (List ℕ)) (opens : Counts) → recounted at at opens ≡ opens
counts_still None opens = refl
counts_still (Some name) opens = refl

-- WHAT AN ACT DOES

module _ (k : Relays) (l : ℕ) (old new : Relay) (is : get k.relays l ≡ Some old) (numbered : new.number ≡ old.number) (g : NodeConfig)
    (x : Machine) (points : List Point) (stands : StandsFor g x points) (shows : ShowsBut g l k (outward x))
    (rests : ControlRests x.control)
    (lets : (j : ℕ) → Lets true (x.inbound j)) where
  shown : ShowsRelay l (Some old) (x.plain l)
  shown = kept_shown k x.plain l old shows.relays is

  narrow : l < 2 ^ 64
  narrow = shows.numbered l (ap is_some is)

  opens : (x.plain l).closed ≡ false
  opens = opens_by (x.plain l).stage (x.plain l).closed shown.2

  -- a part of the link comes, and nothing happens by itself behind it
  does : (p : Part) (relays : Map) (ups : Index) → relay.Does p old new → PlainGuard g x l p
      → counts_for (next_link (x.plain l) p) ≡ counts_for (x.plain l) → ((j : ℕ) → j ≢ l → get relays j ≡ get k.relays j)
      → (Shows new (next (plain_local x l) p).link → ShowsRelay l (get relays l) (next (plain_local x l) p).link)
      → ((z : ℕ → Captured) → ((j : ℕ) → j ≢ l → z j ≡ x.plain j) → z l ≡ (next (plain_local x l) p).link → IsIndex ups z)
      → (next (plain_local x l) p).link.stage ≢ due → RestsAmong x.gates (next (plain_local x l) p).link
      → Does (touched_at l (relays_with relays ups k)) g x l p
  does p relays ups it guard counts same then index undue rest =
      let a = plain_local x l in
      let one = it a shown.1 in
      let y = with_plain l p (next_link (x.plain l) p) x in
      let link_is : y.plain l ≡ (next a p).link = ap (λ (c : Local). c.link) (here g x l p guard) in
      let others = there x l p (next_link (x.plain l) p) in
      record {
        y = y;
        steps = (subst (λ (i : ℕ). MayGo i a p) shown.0 one.0, guard, refl);
        shows = is_all all every all g (touched_at l (relays_with relays ups k)) (outward y) (λ j. refl) (λ j w. refl) (λ j. refl)
            (shown_then g k l relays ups k.routes (outward x) (outward y) shows same others refl
            (shows.counted ∙ ap (λ (opens : Counts). record { opens = opens; hbone_port = g.hbone_port })
            (sym (ap (λ (at : Option (List ℕ)). recounted (counts_for (x.plain l)) at x.opens) counts
            ∙ counts_still (counts_for (x.plain l)) x.opens))) all every narrow
            (subst (λ (w : Captured). ShowsRelay l (get relays l) w) (sym link_is) (then one.1))
            (index y.plain others link_is)
            (λ is stage. absurd (undue (ap (λ (w : Captured). w.stage) (sym link_is) ∙ stage)))
            (λ is. subst (RestsAmong x.gates) (sym link_is) rest));
      }

  -- the link is kept
  kept : (y : Captured) → y.closed ≡ false → Shows new y → ShowsRelay l (get (insert k.relays l new) l) y
  kept y open_still shows_so =
      subst (λ (o : Option Relay). ShowsRelay l o y) (sym (put_here k.relays l new))
      (numbered ∙ shown.0, shows_so, there_by new y shows_so open_still)

  stays : (y : Captured) → y.up ≡ (x.plain l).up → (z : ℕ → Captured) → ((j : ℕ) → j ≢ l → z j ≡ x.plain j) → z l ≡ y → IsIndex k.ups z
  stays y same z others z_is =
      same_ups k.ups x.plain z (ups_same x.plain z l others (ap (λ (c : Captured). c.up) z_is ∙ same)) shows.index

  guard : (z : Entry) → is_act z ≡ true → BirthMayCome x z → PlainMayCome x l z
  guard z act birth = act_may_come k x l z shows.relays shows.calm rests lets act birth

  -- it has an upstream: so no link to a gateway is dialled for it
  none_dialled : (u : ℕ) → (x.plain l).up ≡ u → 0 < u → DialsGate x l × MayDialGate g x l
  none_dialled u is some =
      let straight = (runs_straight g x points stands l).straight (subst (λ (n : ℕ). 0 < n) (sym is) some) in (
        subst (λ (o : Option Key). IfThrough o (NoneOffers x)) (sym straight) tt,
        subst (λ (o : Option Key). IfThrough o (λ key. LinksFull false g x)) (sym straight) tt,
      )

  -- a stream is at rest as it was where the link to the client is shut
  shut_rests : (x.plain l).stage ≡ m.live → RestsAmong x.gates (entered (e.Shut l) (x.plain l))
  shut_rests lives on =
      let rests : LiveRests (x.plain l) (x.gates (x.plain l).gate) =
      subst (λ (s : Stage). StreamRestsBy s (x.plain l) (x.gates (x.plain l).gate)) lives (shows.calm.streams l on) in
      subst (λ (s : Stage). StreamRestsBy s (entered (e.Shut l) (x.plain l)) (x.gates (x.plain l).gate)) (sym lives) (record {
        given_back = rests.given_back;
        none_goes = rests.none_goes;
        not_finished = rests.not_finished;
        not_complete = rests.not_complete;
      })

  apart_from_due : (s t : Stage) → s ≡ t → (t ≡ due → ⊥) → s ≢ due
  apart_from_due s t is apart same = apart (sym is ∙ same)

  shut_own : relay.Does (entry (e.Shut l)) old new → Does (touched_at l (changed l new k)) g x l (entry (e.Shut l))
  shut_own it =
      let lives = (it (plain_local x l) shown.1).0.2 in
      does (entry (e.Shut l)) (insert k.relays l new) k.ups it (guard (e.Shut l) refl tt) refl (put_elsewhere k.relays l new)
      (kept (next (plain_local x l) (entry (e.Shut l))).link opens) (stays (next (plain_local x l) (entry (e.Shut l))).link refl)
      (apart_from_due (x.plain l).stage m.live lives (λ no. cc no)) (shut_rests lives)

  shut_up : (u : ℕ) → relay.Does (up (e.Shut u)) old new → Does (touched_at l (changed l new k)) g x l (up (e.Shut u))
  shut_up u it =
      let may = (it (plain_local x l) shown.1).0 in
      does (up (e.Shut u)) (insert k.relays l new) k.ups it (guard (e.Shut u) refl tt, (none_dialled u may.2 may.3).0, (none_dialled u may.2 may.3).1)
      refl
      (put_elsewhere k.relays l new)
      (kept (next (plain_local x l) (up (e.Shut u))).link opens) (stays (next (plain_local x l) (up (e.Shut u))).link refl)
      (apart_from_due (x.plain l).stage m.live may.1 (λ no. cc no))
      (raw_rests x.gates (up_entered (e.Shut u) (x.plain l)) (up_facts l old (x.plain l) (e.Shut u) may shown.1).1)

  close_up : (u : ℕ) (cause : Cause) → relay.Does (up (e.Closed u cause)) old new
      → Does (touched_at l (relays_with (insert k.relays l new) (remove k.ups u) k)) g x l (up (e.Closed u cause))
  close_up u cause it =
      let one = (it (plain_local x l) shown.1).0 in
      does (up (e.Closed u cause)) (insert k.relays l new) (remove k.ups u) it
      (guard (e.Closed u cause) refl tt, (none_dialled u one.2 one.3).0, (none_dialled u one.2 one.3).1)
      refl (put_elsewhere k.relays l new) (kept (next (plain_local x l) (up (e.Closed u cause))).link opens)
      (λ z others z_is. closed_index x.plain z l others k.ups shows.index u (one.3, one.2) (ap (λ (c : Captured). c.up) z_is))
      (apart_from_due (x.plain l).stage (m.over cause) one.1 (λ no. cc no))
      (raw_rests x.gates (up_entered (e.Closed u cause) (x.plain l)) (up_facts l old (x.plain l) (e.Closed u cause) one shown.1).1)

  close_own : (cause : Cause) → new.up ≡ 0 → relay.Does (entry (e.Closed l cause)) old new
      → Does (touched_at l (relays_with (remove (insert k.relays l new) l) k.ups k)) g x l (entry (e.Closed l cause))
  close_own cause none it =
      let a = plain_local x l in
      let y = (next a (entry (e.Closed l cause))).link in
      let at : (x.plain l).stage ≡ m.over cause = (it a shown.1).0.2 in
      let raw : is_raw (x.plain l) ≡ true = subst (λ (s : Stage). IsCalmBy s (x.plain l)) at (it a shown.1).0.1 in
      does (entry (e.Closed l cause)) (remove (insert k.relays l new) l) k.ups it (guard (e.Closed l cause) refl tt) refl
      (λ j apart. removed_elsewhere (insert k.relays l new) l j apart ∙ put_elsewhere k.relays l new j apart)
      (λ shows_so. subst (λ (o : Option Relay). ShowsRelay l o y) (sym (removed_here (insert k.relays l new) l))
      (subst (λ (s : Stage). IsAwayBy s y) (sym at) (refl, ap (λ (c : Captured). c.up) shows_so.same ∙ none, raw)))
      (stays y refl) (apart_from_due (x.plain l).stage (m.over cause) at (λ no. cc no))
      (raw_rests x.gates y (eqb-true (x.plain l).gate 0 raw))

  -- nothing of the link changes
  same_shown : captured_of new ≡ captured_of old → ShowsRelay l (get (insert k.relays l new) l) (x.plain l)
  same_shown same = kept (x.plain l) opens (shows_still old new (x.plain l) same shown.1)

  -- a link isn't its own upstream
  not_own : IsRelayOf (x.plain l) l → ⊥
  not_own joins =
      let own : whose_in points l ≡ plain_link =
      (all_owned g x points stands).plain l (born (x.plain l).stage (x.plain l).closed shown.2) in
      let both : plain_link ≡ relay_of l = sym own ∙ owner_is g x points stands l l joins in
      cc
    where
      born : (stage : Stage) (closed : Bool) → IsPlainThereBy stage closed → is_plain_born stage ≡ true
      born m.unborn closed is = absurd is
      born m.arriving closed is = refl
      born m.fronting closed is = refl
      born m.due closed is = refl
      born m.opening closed is = refl
      born m.accepting closed is = refl
      born m.live closed is = refl
      born (m.failed why) closed is = refl
      born (m.ended why) closed is = refl
      born (m.over why) closed is = refl

  abbrev After : Act → Relays
  After given = finished l given (changed l new k)

  closed_here : (u : ℕ) → u ≡ l → closed_by l u (changed l new k) ≡ relays_with (remove (insert k.relays l new) l) k.ups k
  closed_here u at =
      ap (λ (b : Bool). cond b (relays_with (remove (insert k.relays l new) l) k.ups k)
      (relays_with (insert k.relays l new) (remove k.ups u) k)) (eq-eqb u l at)

  closed_there : (u : ℕ) → u ≢ l → closed_by l u (changed l new k) ≡ relays_with (insert k.relays l new) (remove k.ups u) k
  closed_there u apart =
      ap (λ (b : Bool). cond b (relays_with (remove (insert k.relays l new) l) k.ups k)
      (relays_with (insert k.relays l new) (remove k.ups u) k)) (ne_eqb u l apart)

  acts : (given : Act) → relay.Acts (Some given) old new → ActsOn (Some given) (After given) g x
  acts (act.Dial to why) it =
      let is_due = it.1 (x.plain l) shown.1 in (
        is_all all every all g (After (act.Dial to why)) (outward x) (λ j. refl) (λ j w. refl) (λ j. refl)
            (shown_then g k l (insert k.relays l new) k.ups k.routes (outward x) (outward x) shows (put_elsewhere k.relays l new)
            (λ j apart. refl) refl shows.counted all every narrow (same_shown it.0) shows.index (λ is. shows.wanting l)
            (λ is. shows.calm.streams l)),
        l,
        is_due.2 ∙ ap (why_for (x.plain l).aim (x.plain l).door) shown.0,
        is_due.0,
        shows.wanting l is_due.0,
        is_due.1,
      )
  acts (act.Shut u) it = ⊎_elim
      (λ own. inl (at_own (own.0 ∙ shown.0) own.1))
      (λ other. inr (l, shut_up u other)) it
    where
      at_own : u ≡ l → relay.Does (entry (e.Shut u)) old new → Does (After (act.Shut u)) g x u (entry (e.Shut u))
      at_own at does_so =
          subst (λ (i : ℕ). Does (touched_at l (changed l new k)) g x i (entry (e.Shut i))) (sym at)
          (shut_own (subst (λ (i : ℕ). relay.Does (entry (e.Shut i)) old new) at does_so))
  acts (act.Close u cause) it = ⊎_elim
      (λ own. inl (at_own (own.0 ∙ shown.0) own.1 own.2))
      (λ other. inr (inl (l, at_up other))) it
    where
      at_own : u ≡ l → new.up ≡ 0 → relay.Does (entry (e.Closed u cause)) old new
          → Does (After (act.Close u cause)) g x u (entry (e.Closed u cause))
      at_own at none does_so =
          subst (λ (w : Relays). Does (touched_at l w) g x u (entry (e.Closed u cause))) (sym (closed_here u at))
          (subst (λ (i : ℕ). Does (touched_at l (relays_with (remove (insert k.relays l new) l) k.ups k)) g x i (entry (e.Closed i cause)))
          (sym at) (close_own cause none (subst (λ (i : ℕ). relay.Does (entry (e.Closed i cause)) old new) at does_so)))

      at_up : relay.Does (up (e.Closed u cause)) old new → Does (After (act.Close u cause)) g x l (up (e.Closed u cause))
      at_up does_so =
          let one = (does_so (plain_local x l) shown.1).0 in
          subst (λ (w : Relays). Does (touched_at l w) g x l (up (e.Closed u cause)))
          (sym (closed_there u (λ same. not_own (subst (IsRelayOf (x.plain l)) same (one.3, one.2)))))
          (close_up u cause does_so)

pub some_acts : (k n : Relays) (relays : Map) (l : ℕ) (old new : Relay) (given : Act) → get k.relays l ≡ Some old
    → relays ≡ written k.relays l new → n ≡ finished l given (record k { relays = relays }) → new.number ≡ old.number
    → relay.Acts (Some given) old new → ActsOf l (Some given) k n
some_acts k n relays l old new given is relays_is n_is numbered it g x points stands shows rests lets =
    subst (λ (w : Relays). ActsOn (Some given) w g x)
    (sym (n_is ∙ ap (λ (m : Map). finished l given (relays_with m k.ups k))
    (relays_is ∙ written_where_some k.relays l new (ap is_some is))))
    (acts k l old new is numbered g x points stands shows rests lets given it)

-- where none is due of it the links that were shown are shown still
pub none_acts : (k n : Relays) (relays : Map) (l : ℕ) (old new : Relay) → get k.relays l ≡ Some old → relays ≡ written k.relays l new
    → n ≡ record k { relays = relays } → new.number ≡ old.number → relay.Acts None old new → ActsOf l None k n
none_acts k n relays l old new is relays_is n_is numbered it = (
  ap (λ (w : Relays). w.due) n_is,
  λ g x points stands shows. subst (λ (w : Relays). ShowsRelays g w (outward x))
      (sym (n_is ∙ ap (λ (m : Map). record k { relays = m }) (relays_is ∙ written_where_some k.relays l new (ap is_some is))))
      (shown_still g (outward x) shows),
)
  where
    shown_still : (g : NodeConfig) (x : Outward) → ShowsBut g l k x → ShowsRelays g (record k { relays = insert k.relays l new }) x
    shown_still g x shows =
        let f = x.plain in
        let shown = kept_shown k f l old shows.relays is in
        let map = insert k.relays l new in
        record {
          relays = λ j. ⊎_elim
              (λ at. subst (λ (i : ℕ). ShowsRelay i (get map i) (f i)) (sym at)
              (subst (λ (o : Option Relay). ShowsRelay l o (f l)) (sym (put_here k.relays l new))
              (numbered ∙ shown.0, shows_still old new (f l) it.0 shown.1, shown.2)))
              (λ apart. subst (λ (o : Option Relay). ShowsRelay j o (f j)) (sym (put_elsewhere k.relays l new j apart)) (shows.relays j))
              (cases_eq j l);
          index = shows.index;
          numbered = λ j some. ⊎_elim (λ at. subst (λ (i : ℕ). i < 2 ^ 64) (sym at) (shows.numbered l (ap is_some is)))
              (λ apart. shows.numbered j (sym (ap is_some (put_elsewhere k.relays l new j apart)) ∙ some)) (cases_eq j l);
          idle = λ j none. ⊎_elim (λ at. subst (λ (i : ℕ). IsIdle (f i)) (sym at) (it.1 (f l) shown.1))
              (λ apart. shows.idle j apart none) (cases_eq j l);
          counted = shows.counted;
          gates = shows.gates;
          gate_numbered = shows.gate_numbered;
          gate_idle = shows.gate_idle;
          calm = shows.calm;
          wanting = shows.wanting;
        }
