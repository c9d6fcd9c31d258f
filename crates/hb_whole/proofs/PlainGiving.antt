-- What an act that is given of a plain link, or of a link to a gateway, makes of the traces that the proxy stands for.
use Rattle.std.proofs.Common.{◌≡◌, inl, inr, ⊎_elim, ℕ, ◌<◌, ◌==◌, ◌&&◌, not, Bool, true, false, cond, List, [], ◌∷◌, ◌++◌, Option, Some, None, refl, ap, sym, ◌∙◌, subst, arith}
use Rattle.std.proofs.lemmas.Bool.{and_parts}
use Rattle.hb_base.specs.declared.cause.Cause.{Cause}
use Rattle.hb_base.specs.declared.door.Door.{Door}
use Rattle.hb_base.specs.declared.door.Door.TheVariants as door
use Rattle.hb_base.specs.declared.door.Why.{Why}
use Rattle.hb_base.specs.declared.note.Note.{Note}
use Rattle.hb_base.specs.declared.target.Target.{Target}
use Rattle.hb_captured.specs.Answer.{Aim, straight_to, through, why_for}
use Rattle.hb_captured.specs.Captured as s
use Rattle.hb_captured.specs.Captured.{Captured, Stage, is_raw, may_shut_up}
use Rattle.hb_captured.specs.Part as part
use Rattle.hb_captured.specs.Part.{Part}
use Rattle.hb_captured.specs.Runs as captured
use Rattle.hb_links.proofs.Acting.{all_calm}
use Rattle.hb_links.specs.Acts as links
use Rattle.hb_links.specs.Load.{Recounts}
use Rattle.hb_links.specs.Shows.{ShowsAll}
use Rattle.hb_links.specs.Stirring as links_stirring
use Rattle.hb_links.specs.declared.links.Links.{Links}
use Rattle.hb_model.specs.declared.config.NodeConfig.{NodeConfig}
use Rattle.hb_node.specs.State.{due_of}
use Rattle.hb_proxy.specs.Doors.{is_at_door}
use Rattle.hb_proxy.specs.Machine.{Machine, with_plain}
use Rattle.hb_proxy.specs.Points.{of_plain}
use Rattle.hb_proxy.specs.Seen.{IsPlainThere, IsPlainThereBy}
use Rattle.hb_proxy.specs.Ups.{IsRelayOf}
use Rattle.hb_relays.specs.Acts as relays
use Rattle.hb_relays.specs.Acts.{Does}
use Rattle.hb_relays.specs.Stirring as relays_stirring
use Rattle.hb_relays.specs.declared.relays.Relays.{Relays}
use Rattle.hb_tunnel.specs.Way.{is_done}
use Rattle.hb_turns.specs.Shown.{Acts}
use Rattle.hb_world.specs.Trace.{lives}
use Rattle.hb_world.specs.declared.act.Act.{Act}
use Rattle.hb_world.specs.declared.act.Act.TheVariants as act
use Rattle.hb_world.specs.declared.entry.Entry.{Entry}
use Rattle.hb_world.specs.declared.entry.Entry.TheVariants as e
use Rattle.hb_whole.specs.Acting.{given_by}
use Rattle.hb_whole.specs.Sight.{shown_of}
use Rattle.hb_whole.specs.Stands.{Stands, EndsBy, Ends, PlainEnds, PlainEndsBy, DialIsDue, PlainDialIsDue}
use Rattle.hb_whole.specs.declared.proxy.Proxy.{Proxy}
use Rattle.hb_whole.specs.declared.side.Side.{Side}
use Rattle.hb_whole.proofs.Free.{control_rests}
use Rattle.hb_whole.proofs.Keeping.{IsSteady}
use Rattle.hb_whole.proofs.GateGiving.{gate_closes}
use Rattle.hb_whole.proofs.Giving.{acted, gives, Closes, Gives, Shuts, given_behind, not_shut, waits}
use Rattle.hb_whole.proofs.LinkGiving.{links_asked}
use Rattle.hb_whole.proofs.Relays.{there_at_stage}
use Rattle.hb_whole.proofs.Routes.{seen_of, lives_then, shut_then}
use Rattle.hb_whole.proofs.Telling.{with_act, act_stirs}

-- HOW THE RUN ENDS

-- a link that ends so is of a run that does
pub plain_ends_at : (c : Cause) (x : Machine) (l : ℕ) (p : Part) (next : Captured) → PlainEnds c next → Ends c x
    → Ends c (with_plain l p next x)
plain_ends_at c x l p next plain is = record {
  control = is.control;
  links = is.links;
  tunnels = is.tunnels;
  plain = λ k. by (k == l) k (is.plain k);
  gates = is.gates;
}
  where
    by : (b : Bool) (k : ℕ) → PlainEnds c (x.plain k) → PlainEnds c (cond b next (x.plain k))
    by true k so = plain
    by false k so = so

-- how the run ends stays so
keeps_ends : (ends : Option Cause) (x : Machine) (l : ℕ) (p : Part) (next : Captured)
    → ((c : Cause) → PlainEnds c (x.plain l) → PlainEnds c next) → EndsBy ends x → EndsBy ends (with_plain l p next x)
keeps_ends None x l p next plain is = is
keeps_ends (Some c) x l p next plain is = (is.0, plain_ends_at c x l p next (plain c (is.1.plain l)) is.1)

-- where it was closed with its upstream it still is
ends_still : (c : Cause) (stage : Stage) (x y : Captured) → ((x.closed ≡ true) × (x.up ≡ 0) → (y.closed ≡ true) × (y.up ≡ 0))
    → PlainEndsBy c stage x → PlainEndsBy c stage y
ends_still c s.unborn x y still is = tt
ends_still c (s.failed why) x y still is = is
ends_still c (s.ended why) x y still is = is
ends_still c (s.over why) x y still is = ⊎_elim (λ same. inl same) (λ gone. inr (still gone)) is
ends_still c s.arriving x y still is = absurd is
ends_still c s.fronting x y still is = absurd is
ends_still c s.due x y still is = absurd is
ends_still c s.opening x y still is = absurd is
ends_still c s.accepting x y still is = absurd is
ends_still c s.live x y still is = absurd is

-- one that isn't closed with its upstream is to be for the cause of that end
ends_for : (c why : Cause) (x : Captured) → x.stage ≡ s.over why → PlainEnds c x → ((x.closed ≡ true) × (x.up ≡ 0) → ⊥) → why ≡ c
ends_for c why x is ends left =
    ⊎_elim (λ same. same) (λ gone. absurd (left gone)) (subst (λ (r : Stage). PlainEndsBy c r x) is ends)

-- one that lives is of a run that goes on
never_live : (c : Cause) (x : Captured) → x.stage ≡ s.live → PlainEnds c x → ⊥
never_live c x is ends = subst (λ (r : Stage). PlainEndsBy c r x) is ends

-- one whose upstream may be shut wasn't shut
unshut_up : (x : Captured) → may_shut_up x ≡ true → x.up_shut ≡ false
unshut_up x may = by (is_raw x) (is_done x.ways.up) may
  where
    by : (raw done : Bool) → (raw && done && not x.up_shut) ≡ true → x.up_shut ≡ false
    by true true is = not_shut x.up_shut is
    by true false is = absurd cc
    by false done is = absurd cc

-- which link an act closes, as the links of each door say it
same_closed : (due : Act) → links_stirring.closed_in (Some due) ≡ relays_stirring.closed_in (Some due)
same_closed (act.Close u why) = refl
same_closed (act.Shut u) = refl
same_closed (act.Dial to why) = refl

-- a dial that is due for a plain link is due, at either door, straight or of its gateway
plain_due : (g : NodeConfig) (x : Machine) (to : Target) (aim : Aim) (d : Door) (l : ℕ) → PlainDialIsDue g x to (why_for aim d l) l
    → DialIsDue g x to (why_for aim d l)
plain_due g x to (straight_to at endpoint) door.Inbound l due = due
plain_due g x to (straight_to at endpoint) door.Outbound l due = due
plain_due g x to (straight_to at endpoint) door.Plain l due = due
plain_due g x to (through key authority endpoint) d l due = due

-- ONE ACT

-- the inbound links were asked first, and are shown still
module _ (taken : List Note) (p : Proxy) (asked : Links) (behind : Relays) (trace : List Entry) (stands : Stands taken p trace)
    (shown : ShowsAll asked stands.machine.inbound) (counts : Recounts p.side.links asked) where
  abbrev pub side_behind : Side
  side_behind = record p.side { links = asked; relays = behind }

  abbrev pub x : Machine
  x = stands.machine

  -- a link that is there, or an upstream, lives
  link_lives : (l : ℕ) → IsPlainThere (x.plain l) → lives l trace ≡ true
  link_lives l there = sym (lives_then trace l) ∙ ((seen_of taken p trace stands).plain.link l there).0

  relay_lives : (l u : ℕ) → IsRelayOf (x.plain l) u → lives u trace ≡ true
  relay_lives l u joins = sym (lives_then trace u) ∙ ((seen_of taken p trace stands).plain.up l u joins).0

  ends_so : (c : Cause) → p.ends_for ≡ Some c → Ends c x
  ends_so c ends = (subst (λ (o : Option Cause). EndsBy o x) ends stands.ends).1

  -- it is done
  does_stands : (l : ℕ) (q : Part) (z : Entry) (does : Does behind p.control.config x l q) → part.entry_in q ≡ z ∷ []
      → part.note_in q ≡ [] → is_at_door z ≡ false → IsSteady (of_plain l q)
      → EndsBy p.ends_for (with_plain l q (captured.next_link (x.plain l) q) x)
      → Stands taken (with_act side_behind None p.strange p) (trace ++ z ∷ [])
  does_stands l q z does one none door steady ends =
      let y_is = does.steps.2 in
      acted taken p side_behind trace stands z (of_plain l q) does.y does.steps (ap (λ (y : Machine). y.control) y_is)
      (ap (λ (zs : List Entry). zs ++ []) one) (ap (λ (ns : List Note). ns ++ []) none) door
      (subst (λ (y : Machine). ShowsAll asked y.inbound) (sym y_is) shown) does.shows refl steady counts
      (subst (λ (y : Machine). EndsBy p.ends_for y) (sym y_is) ends)

  -- a link's own close
  own_closes : (u : ℕ) (why : Cause) → Does behind p.control.config x u (part.entry (e.Closed u why))
      → Closes p side_behind taken trace stands u why
  own_closes u why does =
      let may : captured.MayCome u (x.plain u) (e.Closed u why) = does.steps.0 in
      let left : (x.plain u).closed ≡ true → ⊥ = λ closed. cc in
      record {
        alive = link_lives u (subst (λ (r : Stage). IsPlainThereBy r (x.plain u).closed) (sym may.2) may.3);
        stands = does_stands u (part.entry (e.Closed u why)) (e.Closed u why) does refl refl refl tt
            (keeps_ends p.ends_for x u (part.entry (e.Closed u why)) (record (x.plain u) { closed = true })
            (λ c so. ends_still c (x.plain u).stage (x.plain u) (record (x.plain u) { closed = true }) (λ gone. (refl, gone.1)) so)
            stands.ends);
        for = λ c ends. ends_for c why (x.plain u) may.2 ((ends_so c ends).plain u) (λ gone. left gone.0);
      }

  -- the close of an upstream
  up_closes : (l u : ℕ) (why : Cause) → Does behind p.control.config x l (part.up (e.Closed u why))
      → Closes p side_behind taken trace stands u why
  up_closes l u why does =
      let may : captured.UpMayCome l (x.plain l) (e.Closed u why) = does.steps.0 in
      record {
        alive = relay_lives l u (may.3, may.2);
        stands = does_stands l (part.up (e.Closed u why)) (e.Closed u why) does refl refl refl tt
            (keeps_ends p.ends_for x l (part.up (e.Closed u why)) (record (x.plain l) { up = 0 })
            (λ c so. ends_still c (x.plain l).stage (x.plain l) (record (x.plain l) { up = 0 }) (λ gone. (gone.0, refl)) so)
            stands.ends);
        for = λ c ends. ends_for c why (x.plain l) may.1 ((ends_so c ends).plain l)
            (λ gone. let no : 0 < 0 = subst (λ (n : ℕ). 0 < n) (sym may.2 ∙ gone.1) may.3 in absurd (omega arith));
      }

  -- a shut is of a run that goes on, and says nothing of its end
  shut_stands : (l : ℕ) (q : Part) (z : Entry) (does : Does behind p.control.config x l q) → part.entry_in q ≡ z ∷ []
      → part.note_in q ≡ [] → is_at_door z ≡ false → IsSteady (of_plain l q) → p.ends_for ≡ None
      → (with_plain l q (captured.next_link (x.plain l) q) x).control.over ≡ x.control.over
      → Stands taken (with_act side_behind None p.strange p) (trace ++ z ∷ [])
  shut_stands l q z does one none door steady going over =
      does_stands l q z does one none door steady
      (subst (λ (o : Option Cause). EndsBy o (with_plain l q (captured.next_link (x.plain l) q) x)) (sym going)
      (over ∙ subst (λ (o : Option Cause). EndsBy o x) going stands.ends))

  own_shuts : (u : ℕ) → Does behind p.control.config x u (part.entry (e.Shut u)) → Shuts p side_behind taken trace stands u
  own_shuts u does =
      let may : captured.MayCome u (x.plain u) (e.Shut u) = does.steps.0 in
      let there = there_at_stage p.side.relays stands.relays u s.live may.2 (λ away. away) in
      record {
        alive = link_lives u there;
        unshut = sym (shut_then trace u) ∙ (seen_of taken p trace stands).plain.link_shut u there
            ∙ not_shut (x.plain u).shut (and_parts _ _ may.3).1;
        stands = λ going. shut_stands u (part.entry (e.Shut u)) (e.Shut u) does refl refl refl tt going refl;
        goes = λ c ends. never_live c (x.plain u) may.2 ((ends_so c ends).plain u);
      }

  up_shuts : (l u : ℕ) → Does behind p.control.config x l (part.up (e.Shut u)) → Shuts p side_behind taken trace stands u
  up_shuts l u does =
      let may : captured.UpMayCome l (x.plain l) (e.Shut u) = does.steps.0 in
      let joins : IsRelayOf (x.plain l) u = (may.3, may.2) in
      record {
        alive = relay_lives l u joins;
        unshut = sym (shut_then trace u) ∙ ((seen_of taken p trace stands).plain.up l u joins).1
            ∙ unshut_up (x.plain l) may.4;
        stands = λ going. shut_stands l (part.up (e.Shut u)) (e.Shut u) does refl refl refl tt going refl;
        goes = λ c ends. never_live c (x.plain l) may.1 ((ends_so c ends).plain l);
      }

-- ALL OF THEM

-- the inbound links were asked first, and gave none
module _ (p : Proxy) (asked : Links) (behind : Relays) (rests : due_of p.control ≡ None) (none : links.Acts None p.side.links asked)
    (counts : Recounts p.side.links asked) (still : links_stirring.StirsBut None p.side.links asked) where
  abbrev side : Side
  side = record p.side { links = asked; relays = behind }

  on : (due : Option Act) → relays.Acts due p.side.relays behind → (taken : List Note) (trace : List Entry) (s : Stands taken p trace)
      → relays.ActsOn due behind p.control.config s.machine
  on due acts taken trace s =
      acts p.control.config s.machine s.points s.run s.relays (control_rests p.control s.machine.control s.control rests)
      (all_calm p.side.links s.machine.inbound s.links)

  shown : (taken : List Note) (trace : List Entry) (s : Stands taken p trace) → ShowsAll asked s.machine.inbound
  shown taken trace s = links_asked p asked counts rests none taken trace s

  gives_by : (due : Act) → relays.Acts (Some due) p.side.relays behind → Gives p side due
  gives_by (act.Close u why) acts = λ taken trace s.
      let links = shown taken trace s in
      ⊎_elim (λ does. own_closes taken p asked behind trace s links counts u why does)
      (λ more. ⊎_elim (λ at. up_closes taken p asked behind trace s links counts at.0 u why at.1)
      (λ does. gate_closes taken p asked behind trace s links counts u why does) more) (on (Some (act.Close u why)) acts taken trace s)
  gives_by (act.Shut u) acts = λ taken trace s.
      let links = shown taken trace s in
      ⊎_elim (λ does. own_shuts taken p asked behind trace s links counts u does)
      (λ at. up_shuts taken p asked behind trace s links counts at.0 u at.1) (on (Some (act.Shut u)) acts taken trace s)
  gives_by (act.Dial to why) acts = λ taken trace s.
      let at = on (Some (act.Dial to why)) acts taken trace s in
      record {
        links = shown taken trace s;
        relays = at.0;
        noted = refl;
        counts = counts;
        due = subst (λ (w : Why). DialIsDue p.control.config s.machine to w) (sym at.2)
            (plain_due p.control.config s.machine to (s.machine.plain at.1).aim (s.machine.plain at.1).door at.1
            (control_rests p.control s.machine.control s.control rests, refl, at.3, at.4, at.5));
        goes = λ c is. subst (λ (r : Stage). PlainEndsBy c r (s.machine.plain at.1)) at.3
            ((subst (λ (o : Option Cause). EndsBy o s.machine) is s.ends).1.plain at.1);
      }

  pub relays_give : (due : Act) (ends : Option Cause) → p.ends_for ≡ ends → relays.Acts (Some due) p.side.relays behind
      → relays_stirring.StirsBut (relays_stirring.closed_in (Some due)) p.side.relays behind
      → Acts Stands shown_of (given_by ends due) p (given_behind ends due (record p { side = side }))
  relays_give due ends is acts stirs =
      gives p side due ends is (gives_by due acts)
      (λ l apart. record { links = still l (λ same. absurd cc); relays = stirs l (λ same. apart (same_closed due ∙ same)) })

  pub none_given : relays.Acts None p.side.relays behind → relays_stirring.StirsBut None p.side.relays behind
      → Acts Stands shown_of None p (record p { side = side; dials = None })
  none_given acts stirs = λ taken trace s. (
    waits p side taken trace s None (shown taken trace s) (on None acts taken trace s).0 refl counts tt,
    act_stirs p side None p.strange trace
        (λ l alive. record { links = still l (λ same. absurd cc); relays = stirs l (λ same. absurd cc) }),
  )
