-- The acts that are due.
use Rattle.std.proofs.Common.{◌≡◌, ⊎_elim, inl, inr, ℕ, ◌<◌, ◌==◌, Bool, true, false, is_some, IsSome, Option, Some, None, if◌then◌else◌, refl, ap, sym, ◌∙◌, subst, arith}
use Rattle.std.proofs.lemmas.Bool.{false≢true, eqb-false, ne_eqb, cases_eq}
use Rattle.std.proofs.lemmas.Bool.Decides.{nat_tests}
use Rattle.std.specs.Prelude.{nat_lt}
use Rattle.std.specs.FinMap.{get, remove}
use Rattle.hb_base.specs.declared.cause.Cause.{Cause}
use Rattle.hb_base.specs.declared.door.Why.{Why}
use Rattle.hb_base.specs.declared.door.Why.TheVariants as whys
use Rattle.hb_base.specs.declared.target.Target.{Target}
use Rattle.hb_counted.specs.Starts.{IsStart}
use Rattle.hb_counted.proofs.Starting.{none_before}
use Rattle.hb_map.specs.Keyed.{IsFirstFrom, written}
use Rattle.hb_map.proofs.Laws.{written_here, written_elsewhere, removed_here, removed_elsewhere}
use Rattle.hb_world.specs.declared.act.Act.{Act}
use Rattle.hb_world.specs.declared.act.Act.TheVariants as act
use Rattle.hb_world.specs.declared.entry.Entry.TheVariants as e
use Rattle.hb_inbound.specs.Calm.{RestsIn, Rests, RestsBy, IsIdleBy, close_due}
use Rattle.hb_inbound.specs.Inbound as m
use Rattle.hb_inbound.specs.Inbound.{Inbound, at_stream, with_phase}
use Rattle.hb_inbound.specs.Runs.{with_link}
use Rattle.hb_inbound.specs.Tunnel as t
use Rattle.hb_inbound.specs.Tunnel.{Tunnel as Machine, at_stage, is_unanswered, may_shut, takes_place, up_entered}
use Rattle.hb_inbound.proofs.Admitted.{at_one}
use Rattle.hb_link.specs.declared.link.Link.{Link}
use Rattle.hb_link.specs.declared.phase.Phase.TheVariants.{Closed}
use Rattle.hb_link.specs.declared.tunnel.Stage.{Stage}
use Rattle.hb_link.specs.declared.tunnel.Stage.TheVariants.{Due, Opening, Live, Failed, Ended, Over}
use Rattle.hb_link.specs.declared.tunnel.Tunnel.{Tunnel}
use Rattle.hb_link.specs.Acting.{act_by, act_here, act_in, act_on}
use Rattle.hb_link.specs.Acts.{Acts, IsFirst}
use Rattle.hb_link.specs.Shows.{Shows, ShowsBy}
use Rattle.hb_link.specs.Tunnels.{phase_of, stage_of, tunnel_of, as_told, IsSound, ShowsAt, ShowsTunnel}
use Rattle.hb_link.proofs.Classed.{class_at, due_class}
use Rattle.hb_link.proofs.Living.{it_serves, shows_live}
use Rattle.hb_link.proofs.Loads.{place_of, none_between}
use Rattle.hb_link.proofs.Moving.{Map, WayBy, here, is_here, shown}

-- WHAT IS DUE OF THE CODE'S TUNNEL IS DUE OF THE MACHINE'S

module _ (l s : ℕ) where
  act_told : (stage : t.Stage) (x : Machine) → act_by l s stage (as_told x) ≡ act_by l s stage x
  act_told t.unasked x = refl
  act_told (t.requested headers end) x = refl
  act_told (t.refusing status target) x = refl
  act_told t.malformed x = refl
  act_told t.due x = refl
  act_told t.opening x = refl
  act_told t.accepting x = refl
  act_told t.live x = refl
  act_told (t.failed why) x = refl
  act_told (t.ended why) x = refl
  act_told (t.over why) x = refl
  act_told t.gone x = refl

  act_shown_at : (stage : t.Stage) (k : Tunnel) (x : Machine) → stage ≡ stage_of k.stage → ShowsAt stage k x
      → act_here l s k ≡ act_by l s x.stage x
  act_shown_at (t.over why) k x is shown =
      ap (λ (stage : t.Stage). act_by l s stage (tunnel_of k)) (sym is) ∙ ap (λ (u : ℕ). Some (act.Close u why)) (sym shown.1)
      ∙ ap (λ (stage : t.Stage). act_by l s stage x) (sym shown.0)
  act_shown_at stage k x is shown = ap (λ (y : Machine). act_by l s y.stage y) (sym shown.0) ∙ act_told x.stage x

  act_shown : (o : Option Tunnel) (x : Machine) → ShowsTunnel o x → act_in l s o ≡ act_by l s x.stage x
  act_shown None x shown =
      ⊎_elim (λ (is : x.stage ≡ t.unasked). ap (λ (stage : t.Stage). act_by l s stage x) (sym is))
      (λ (is : x.stage ≡ t.gone). ap (λ (stage : t.Stage). act_by l s stage x) (sym is)) shown
  act_shown (Some k) x shown = act_shown_at (stage_of k.stage) k x refl shown

  -- what an act says of its tunnel
  not_may : (x : Machine) (b : Bool) → may_shut x ≡ b → (if b then Some (act.Shut x.up) else None) ≡ None → may_shut x ≡ false
  not_may x false is none = is
  not_may x true is none = absurd (cc)

  idle_by : (stage : t.Stage) (x : Machine) → act_by l s stage x ≡ None → IsIdleBy stage x
  idle_by t.due x none = absurd (cc)
  idle_by t.live x none = not_may x (may_shut x) refl none
  idle_by (t.over why) x none = absurd (cc)
  idle_by stage x none = tt

  -- a dial
  pub record IsDial (to : Target) (why : Why) (stage : t.Stage) (x : Machine) : Type 0 where
    pub stage_is : stage ≡ t.due
    pub to_is : to ≡ x.target
    pub why_is : why ≡ whys.Upstream l s

  no_dial_live : (to : Target) (why : Why) (x : Machine) (b : Bool) → (if b then Some (act.Shut x.up) else None) ≡ Some (act.Dial to why)
      → IsDial to why t.live x
  no_dial_live to why x true is = absurd (cc)
  no_dial_live to why x false is = absurd (cc)

  dial_by : (to : Target) (why : Why) (stage : t.Stage) (x : Machine) → act_by l s stage x ≡ Some (act.Dial to why)
      → IsDial to why stage x
  dial_by to why t.due x is = record { stage_is = refl; to_is = cc; why_is = cc }
  dial_by to why t.live x is = no_dial_live to why x (may_shut x) is
  dial_by to why (t.over old) x is = absurd (cc)
  dial_by to why stage x is = absurd (cc)

  -- a shut
  pub record IsShut (u : ℕ) (stage : t.Stage) (x : Machine) : Type 0 where
    pub stage_is : stage ≡ t.live
    pub up_is : x.up ≡ u
    pub may : may_shut x ≡ true

  shut_live : (u : ℕ) (x : Machine) (b : Bool) → may_shut x ≡ b → (if b then Some (act.Shut x.up) else None) ≡ Some (act.Shut u)
      → IsShut u t.live x
  shut_live u x true may is = record { stage_is = refl; up_is = cc; may = may }
  shut_live u x false may is = absurd (cc)

  shut_by : (u : ℕ) (stage : t.Stage) (x : Machine) → act_by l s stage x ≡ Some (act.Shut u) → IsShut u stage x
  shut_by u t.due x is = absurd (cc)
  shut_by u t.live x is = shut_live u x (may_shut x) refl is
  shut_by u (t.over old) x is = absurd (cc)
  shut_by u stage x is = absurd (cc)

  -- a close
  pub record IsClose (u : ℕ) (why : Cause) (stage : t.Stage) (x : Machine) : Type 0 where
    pub stage_is : stage ≡ t.over why
    pub up_is : x.up ≡ u

  no_close_live : (u : ℕ) (why : Cause) (x : Machine) (b : Bool) → (if b then Some (act.Shut x.up) else None) ≡ Some (act.Close u why)
      → IsClose u why t.live x
  no_close_live u why x true is = absurd (cc)
  no_close_live u why x false is = absurd (cc)

  close_by : (u : ℕ) (why : Cause) (stage : t.Stage) (x : Machine) → act_by l s stage x ≡ Some (act.Close u why) → IsClose u why stage x
  close_by u why t.due x is = absurd (cc)
  close_by u why t.live x is = no_close_live u why x (may_shut x) is
  close_by u why (t.over old) x is = record { stage_is = ap t.over (cc); up_is = cc }
  close_by u why stage x is = absurd (cc)

  -- a tunnel that is there, of which none is due and whose stream got what it gets, has a place
  placed_at : (stage : Stage) (k : Tunnel) (x : Machine) → ShowsAt (stage_of stage) (record k { stage = stage }) x
      → act_here l s (record k { stage = stage }) ≡ None → is_unanswered x.stage ≡ false → takes_place x.stage ≡ true
  placed_at Due k x shown none answered = absurd (cc)
  placed_at Opening k x shown none answered = ap (λ (y : Machine). takes_place y.stage) shown.0
  placed_at Live k x shown none answered = ap (λ (y : Machine). takes_place y.stage) shown.0
  placed_at (Failed why) k x shown none answered =
      absurd (false≢true (sym answered ∙ ap (λ (y : Machine). is_unanswered y.stage) shown.0))
  placed_at (Ended why) k x shown none answered =
      absurd (false≢true (sym answered ∙ ap (λ (y : Machine). is_unanswered y.stage) shown.0))
  placed_at (Over why) k x shown none answered = absurd (cc)

  placed : (o : Option Tunnel) (x : Machine) → IsSome o → ShowsTunnel o x → act_in l s o ≡ None → is_unanswered x.stage ≡ false
      → takes_place x.stage ≡ true
  placed None x some shown none answered = absurd (false≢true some)
  placed (Some k) x some shown none answered = placed_at k.stage k x shown none answered

-- THE WALK TO THE FIRST ACT

-- none is due on the streams below a number
abbrev pub NoneBelow : ℕ → Link → Type 0
NoneBelow bound k = (s : ℕ) → s < bound → act_on k s ≡ None

-- in front of the first of those of which one is due none is
pub none_before_start : (k : Link) (start : ℕ) (first : Option ℕ) → IsStart start (λ n. (class_at k.tunnels n).due)
    → IsFirstFrom k.tunnels start first → NoneBelow (place_of first) k
none_before_start k start first is from s less = by (nat_lt s start) refl
  where
    by : (b : Bool) → nat_lt s start ≡ b → act_on k s ≡ None
    by true front =
        due_class k.number s (get k.tunnels s)
        (none_before (λ n. (class_at k.tunnels n).due) start is s (grind (arith, nat_tests, front)))
    by false behind =
        ap (act_in k.number s) (none_between k.tunnels start first from s (grind (arith, nat_tests, behind)) less)

-- AN ACT IS MADE

module _ (k : Link) where
  idle_at : (x : Inbound) → Shows k x → (s : ℕ) → act_on k s ≡ None → IsIdleBy (x.tunnels s).stage (x.tunnels s)
  idle_at x shows s none =
      idle_by k.number s (x.tunnels s).stage (x.tunnels s)
      (sym (act_shown k.number s (get k.tunnels s) (x.tunnels s) (shows.tunnels s)) ∙ none)

  is_first : (s : ℕ) → NoneBelow s k → IsFirst s k
  is_first s none x shows j before = idle_at x shows j (none j before)

  act_of_shown : (x : Inbound) → Shows k x → (s : ℕ) (due : Act) → act_on k s ≡ Some due
      → act_by k.number s (x.tunnels s).stage (x.tunnels s) ≡ Some due
  act_of_shown x shows s due is = sym (act_shown k.number s (get k.tunnels s) (x.tunnels s) (shows.tunnels s)) ∙ is

  why_of : (s : ℕ) (to : Target) (why : Why) (o : Option Tunnel) → act_in k.number s o ≡ Some (act.Dial to why)
      → why ≡ whys.Upstream k.number s
  why_of s to why None is = absurd (cc)
  why_of s to why (Some old) is = (dial_by k.number s to why (stage_of old.stage) (tunnel_of old) is).why_is

  -- a dial stays due
  pub dials : (s : ℕ) (to : Target) (why : Why) → act_on k s ≡ Some (act.Dial to why) → NoneBelow s k → Acts (Some (act.Dial to why)) k k
  dials s to why is first = (
    refl,
    s,
    why_of s to why (get k.tunnels s) is,
    is_first s first,
    λ x shows.
        let dial = dial_by k.number s to why (x.tunnels s).stage (x.tunnels s) (act_of_shown x shows s (act.Dial to why) is) in
        (dial.stage_is, dial.to_is),
  )

  -- one tunnel changes, and rests on
  module _ (x : Inbound) (shows : Shows k x) (s : ℕ) (change : Machine → Machine) (map : Map) where
    way_rests : (Rests x.conn s (x.tunnels s) → Rests x.conn s (change (x.tunnels s))) → (phase : m.Phase) → ShowsBy phase k x
        → RestsIn phase x → WayBy k x k.conn x.conn map (at_stream s change x).tunnels phase
    way_rests still m.serving way rests =
        (way.0, way.1, rests.0, at_one s change x (λ j y. Rests x.conn j y) (still (rests.1 s)) (λ j apart. rests.1 j))
    way_rests still phase way rests = (refl, refl)

    rests_on : ShowsTunnel (get map s) (change (x.tunnels s)) → ((j : ℕ) → (j == s) ≡ false → get map j ≡ get k.tunnels j)
        → IsSome (get k.tunnels s) → is_unanswered (change (x.tunnels s)).stage ≡ false
        → (Rests x.conn s (x.tunnels s) → Rests x.conn s (change (x.tunnels s)))
        → Shows (record k { tunnels = map }) (at_stream s change x)
    rests_on now others there answered still =
        shown k x k.conn x.conn map (at_stream s change x).tunnels shows
        (at_one s change x (λ j y. ShowsTunnel (get map j) y) now
        (λ j apart. subst (λ (o : Option Tunnel). ShowsTunnel o (x.tunnels j)) (sym (others j apart)) (shows.tunnels j)))
        (λ j some. elim (cases_eq j s) [
          | inl same ↦ shows.numbered j (subst (λ (i : ℕ). IsSome (get k.tunnels i)) (sym same) there)
          | inr apart ↦ shows.numbered j (sym (ap is_some (others j (ne_eqb j s apart))) ∙ some)
        ])
        (at_one s change x (λ j y. is_unanswered y.stage ≡ false) answered (λ j apart. shows.calm.answered j))
        (way_rests still x.phase shows.way shows.calm.rests)

  due_there : (s : ℕ) (due : Act) (o : Option Tunnel) → act_in k.number s o ≡ Some due → IsSome o
  due_there s due None is = absurd (cc)
  due_there s due (Some old) is = refl

  -- the upstream's sending side is shut
  shut_still : (stage : t.Stage) (x : Inbound) (s : ℕ) → RestsBy stage x.conn s (x.tunnels s)
      → RestsBy stage x.conn s (record (x.tunnels s) { shut = true })
  shut_still t.live x s rests = record {
    given_back = rests.given_back;
    none_goes = rests.none_goes;
    not_ended = rests.not_ended;
    not_done = rests.not_done;
  }
  shut_still stage x s rests = tt

  shut_shown : (o : Option Tunnel) (old : Tunnel) (x : Machine) → o ≡ Some old → ShowsTunnel o x → x.stage ≡ t.live
      → ShowsTunnel (Some (record old { shut = true })) (record x { shut = true })
  shut_shown o old x is shown live =
      let told = subst (λ (p : Option Tunnel). ShowsTunnel p x) is shown in
      let found = here (Some old) x told (ap is_here live) in
      let same : found.tunnel ≡ old = let both : Some found.tunnel ≡ Some old = sym found.is in cc in
      let its = found.shows ∙ ap tunnel_of same in
      let stage = sym (ap (λ (y : Machine). y.stage) its) ∙ live in
      let sound = subst (λ (p : Tunnel). IsSound (stage_of p.stage) p) same found.sound in
      let has_up = subst (λ (at : t.Stage). IsSound at old) stage sound in
      shows_live old (record old { shut = true }) (record x { shut = true }) stage has_up refl refl
      (ap (λ (y : Machine). record y { shut = true }) its)

  pub shuts : (s u : ℕ) (old : Tunnel) (map : Map) → get k.tunnels s ≡ Some old → map ≡ written k.tunnels s (record old { shut = true })
      → act_on k s ≡ Some (act.Shut u) → NoneBelow s k → Acts (Some (act.Shut u)) k (record k { tunnels = map })
  shuts s u old map there is due first = (
    s,
    is_first s first,
    λ a shows.
        let x = a.link in
        let shut = shut_by k.number s u (x.tunnels s).stage (x.tunnels s) (act_of_shown x shows s (act.Shut u) due) in
        let change : Machine → Machine = up_entered (e.Shut u) in (
          with_link (at_stream s change x) a,
          ((shows.calm, shut.stage_is, shut.up_is, shut.may), refl),
          rests_on x shows s change map
              (subst (λ (o : Option Tunnel). ShowsTunnel o (change (x.tunnels s)))
              (sym (ap (λ (n : Map). get n s) is ∙ written_here k.tunnels s (record old { shut = true }) (ap is_some there)))
              (shut_shown (get k.tunnels s) old (x.tunnels s) there (shows.tunnels s) shut.stage_is))
              (λ j apart. ap (λ (n : Map). get n j) is
              ∙ written_elsewhere k.tunnels s (record old { shut = true }) j (eqb-false j s apart))
              (ap is_some there) (ap is_unanswered shut.stage_is) (shut_still (x.tunnels s).stage x s),
        ),
  )

  -- the upstream is closed
  pub closes_up : (s u : ℕ) (why : Cause) (map : Map) → map ≡ remove k.tunnels s → act_on k s ≡ Some (act.Close u why) → NoneBelow s k
      → Acts (Some (act.Close u why)) k (record k { tunnels = map })
  closes_up s u why map is due first = inr (
    s,
    is_first s first,
    λ a shows.
        let x = a.link in
        let close = close_by k.number s u why (x.tunnels s).stage (x.tunnels s) (act_of_shown x shows s (act.Close u why) due) in
        let change : Machine → Machine = up_entered (e.Closed u why) in (
          with_link (at_stream s change x) a,
          ((shows.calm, close.stage_is, close.up_is), refl),
          rests_on x shows s change map
              (subst (λ (o : Option Tunnel). ShowsTunnel o (change (x.tunnels s)))
              (sym (ap (λ (n : Map). get n s) is ∙ removed_here k.tunnels s)) (inr refl))
              (λ j apart. ap (λ (n : Map). get n j) is ∙ removed_elsewhere k.tunnels s j (eqb-false j s apart))
              (due_there s (act.Close u why) (get k.tunnels s) due) refl (λ rests. tt),
        ),
  )

  -- the link is closed, which has no tunnel
  no_tunnel : (first : Option ℕ) → is_some first ≡ false → IsFirstFrom k.tunnels 0 first → (s : ℕ) → get k.tunnels s ≡ None
  no_tunnel None none is s = is s (omega arith)
  no_tunnel (Some first) none is s = absurd (false≢true (sym none))

  pub closes : (why : Cause) (first : Option ℕ) → is_some first ≡ false → IsFirstFrom k.tunnels 0 first
      → close_due (phase_of k.phase) ≡ Some why → Acts (Some (act.Close k.number why)) k (record k { phase = Closed })
  closes why first none is due = inl (
    refl,
    no_tunnel first none is,
    λ a shows. (
      with_link (with_phase m.closed a.link) a,
      ((refl, shows.calm, ap close_due shows.phase ∙ due), refl),
      record {
        phase = refl;
        way = tt;
        tunnels = shows.tunnels;
        numbered = shows.numbered;
        calm = record { answered = shows.calm.answered; rests = tt };
      },
    ),
  )

  -- a link that has a tunnel then serves
  pub has_tunnel : (first : Option ℕ) → is_some first ≡ true → IsFirstFrom k.tunnels 0 first → ((j : ℕ) → act_on k j ≡ None)
      → Acts None k k
  has_tunnel None some is none = absurd (false≢true some)
  has_tunnel (Some s) some is none = (
    refl,
    λ start before a stands shows. record {
      no_close = ap close_due
          (it_serves k.number start a before stands s
          (placed k.number s (get k.tunnels s) (a.link.tunnels s) is.1 (shows.tunnels s) (none s) (shows.calm.answered s)));
      idle = λ j. idle_at a.link shows j (none j);
    },
  )
