-- The event loop's entries of the link to the control plane are told.
use Rattle.std.proofs.Common.{◌≡◌, ◌⊎◌, inl, inr, ⊎_elim, ℕ, ◌<◌, ◌≤◌, Bool, true, false, List, [], ◌∷◌, ◌++◌, length, take, drop, Option, Some, None, refl, ap, sym, ◌∙◌, subst, arith}
use Rattle.std.proofs.lemmas.List.{append_assoc, length-take, take-append-drop}
use Rattle.hb_base.specs.declared.note.Note.{Note}
use Rattle.hb_frames.specs.Frames.{AreOctets}
use Rattle.hb_held.specs.Held.{Resources}
use Rattle.hb_links.proofs.Acting.{all_calm}
use Rattle.hb_model.specs.Discovery as d
use Rattle.hb_model.specs.Machine.{Machine as Control, entered, current_after}
use Rattle.hb_model.specs.Point as point
use Rattle.hb_model.specs.Point.{Point as Q}
use Rattle.hb_model.specs.Runs as model
use Rattle.hb_model.specs.declared.config.NodeConfig.{NodeConfig}
use Rattle.hb_node.specs.Judging.{Judged, held_behind}
use Rattle.hb_node.specs.State.{State, Shows, ShowsLink, Inner, EntersAlone, EntersJudged, number_of}
use Rattle.hb_node.specs.declared.link.Link.{Link}
use Rattle.hb_proxy.specs.Doors.{is_at_door, without_doors}
use Rattle.hb_proxy.specs.Machine.{Machine, with_control}
use Rattle.hb_proxy.specs.Points.{Point, of_control}
use Rattle.hb_proxy.specs.Runs.{Steps, StandsFor, goes_on, BirthMayCome, ControlMayCome, Lets, PlainLets, goes_first, is_faulted}
use Rattle.hb_proxy.specs.Seen.{Seen, IsThere}
use Rattle.hb_turns.specs.Shown as shown
use Rattle.hb_turns.specs.Shown.{Tells, MayCome, MayWrite, IsFree}
use Rattle.hb_ready.specs.Sight.{is_open}
use Rattle.hb_world.specs.declared.entry.Entry.{Entry}
use Rattle.hb_world.specs.declared.entry.Entry.TheVariants as e
use Rattle.hb_world.specs.declared.entry.Way.TheVariants as way
use Rattle.hb_whole.specs.Judged.{Judges}
use Rattle.hb_whole.specs.Sight.{is_number, owns, owner_of, shown_of, wants_by, output_by, last_by, stirs_by}
use Rattle.hb_whole.specs.Stands.{Stands, EndsBy}
use Rattle.hb_whole.specs.declared.owner.Owner.{Owner}
use Rattle.hb_whole.specs.declared.owner.Owner.TheVariants.{Control as OfControl}
use Rattle.hb_whole.specs.declared.proxy.Proxy.{Proxy}
use Rattle.hb_whole.specs.declared.side.Side.{Side}
use Rattle.hb_whole.proofs.ControlMay.{going_of, dialling_of, live_of, wants_owned, output_owned, last_owned, free_control}
use Rattle.hb_whole.proofs.Controlling.{goes}
use Rattle.hb_whole.proofs.Free.{free, goes_on as runs_on}
use Rattle.hb_whole.proofs.Growing.{stood}
use Rattle.hb_whole.proofs.Keeping.{few_kept, keeps_then, step_keeps}
use Rattle.hb_whole.proofs.Limited.{limited_then, none_arriving}
use Rattle.hb_whole.proofs.Relays.{gates_calm, plain_calm}
use Rattle.hb_whole.proofs.Routes.{control_owner, seen_of, open_then, current_is}
use Rattle.hb_whole.proofs.Stirring.{SideStirs, StirsOn, none_stir, stir_then, all_stir, other_stirs, stirs_now}

-- the control plane's link changed so, and the others with it; no dial waits for its answer
abbrev pub with_state : State → Side → Proxy → Proxy
with_state n side p = record p { control = n; side = side; stirs = true; dials = None }

-- WHAT STAYS

-- what follows by itself keeps the link, and the run goes on as it did
pub inner_keeps : (g : NodeConfig) (m n : Control) (qs : List Q) → Inner g m qs n → (n.over ≡ m.over) × (n.current ≡ m.current)
inner_keeps g m n [] is = (ap (λ (w : Control). w.over) is, ap (λ (w : Control). w.current) is)
inner_keeps g m n (point.entry z ∷ qs) is = absurd is.0
inner_keeps g m n (point.stopped why ∷ qs) is = absurd is.0
inner_keeps g m n (point.looked l ps said headers ∷ qs) is =
    let rest = inner_keeps g is.1 n qs is.3 in
    (rest.0 ∙ ap (λ (w : Control). w.over) is.2.4, rest.1 ∙ ap (λ (w : Control). w.current) is.2.4)
inner_keeps g m n (point.applied l r ∷ qs) is =
    let rest = inner_keeps g is.1 n qs is.3 in
    (rest.0 ∙ ap (λ (w : Control). w.over) is.2.3, rest.1 ∙ ap (λ (w : Control). w.current) is.2.3)
inner_keeps g m n (point.refused l ∷ qs) is =
    let rest = inner_keeps g is.1 n qs is.3 in
    (rest.0 ∙ ap (λ (w : Control). w.over) is.2.2, rest.1 ∙ ap (λ (w : Control). w.current) is.2.2)
inner_keeps g m n (point.used l k ∷ qs) is =
    let rest = inner_keeps g is.1 n qs is.3 in
    (rest.0 ∙ ap (λ (w : Control). w.over) is.2.2, rest.1 ∙ ap (λ (w : Control). w.current) is.2.2)
inner_keeps g m n (point.put l bytes ∷ qs) is =
    let rest = inner_keeps g is.1 n qs is.3 in
    (rest.0 ∙ ap (λ (w : Control). w.over) is.2.3, rest.1 ∙ ap (λ (w : Control). w.current) is.2.3)

-- the code's link is the machine's
pub number_is : (o : Option Link) (x : Control) → ShowsLink o x → number_of o ≡ x.current
number_is None x shows = sym shows.0
number_is (Some k) x shows = sym shows.0

-- who was shown what is held stirs
pub judged_stirs : (held : List Resources) (a b : Side) → Judged Judges held a b → (l : ℕ) → SideStirs l a b
judged_stirs [] a b judged l = subst (λ (c : Side). SideStirs l a c) (sym judged) (none_stir a l)
judged_stirs (h ∷ held) a b judged l =
    stir_then a judged.0 b l (record { links = judged.1.links_stir l; relays = judged.1.relays_stir l })
    (judged_stirs held judged.0 b judged.2 l)

-- AN ENTRY

pub record Entered (taken : List Note) (p : Proxy) (n : State) (side : Side) (trace : List Entry) (z : Entry) (s : Stands taken p trace)
    : Type 0 where
  pub stands : Stands taken (with_state n side p) (trace ++ z ∷ [])
  -- whose link is the machine's behind the entry
  pub number : number_of n.link ≡ current_after s.machine.control z
  pub stirs : (l : ℕ) → SideStirs l p.side side

pub enters : (taken : List Note) (p : Proxy) (n : State) (side : Side) (trace : List Entry) (z : Entry) (s : Stands taken p trace)
    → s.machine.control.over ≡ false → p.ends_for ≡ None → is_at_door z ≡ false
    → model.MayCome p.control.config s.machine.control z → ControlMayCome s.machine z
    → EntersJudged Judges z p.control n p.side side → Entered taken p n side trace z s
enters taken p n side trace z s goes_so going door may guard told_so =
    let g = p.control.config in
    let x = s.machine in
    let q = point.entry z in
    let m = entered g z x.control in
    let y = with_control q m x in
    let steps : Steps g x (of_control q) y = (m, (may, refl), guard, refl) in
    let r = told_so.1 x.control s.control may in
    let inner : Inner g m r.points r.machine = subst (λ (c : NodeConfig). Inner c m r.points r.machine) told_so.0 r.inner in
    let on = goes g y (s.points ++ of_control q ∷ []) r.points r.machine p.side side (goes_on s.run (of_control q) steps refl) s.links
    s.relays inner r.judged in
    let kept = inner_keeps g m r.machine r.points inner in
    record {
      stands = stood taken p (with_state n side p) trace z s on.machine (of_control q ∷ on.more) told_so.0
          (subst (λ (ps : List Point). StandsFor g on.machine ps) (append_assoc s.points (of_control q ∷ []) on.more) on.run) door
          (ap (λ (zs : List Entry). z ∷ zs) on.silent)
          (subst (λ (c : Control). Shows n c) (sym on.control) r.shows) on.links on.relays on.noted refl
          (limited_then p (with_state n side p) x on.machine refl told_so.0 on.counts
          (few_kept g x on.machine (keeps_then x y on.machine (step_keeps g x y (of_control q) tt steps) on.keeps)
          (plain_calm p.side.relays s.relays) (none_arriving side.links on.machine.inbound on.links)) s.limited)
          (subst (λ (o : Option _). EndsBy o on.machine) (sym going) (ap (λ (c : Control). c.over) on.control ∙ kept.0 ∙ goes_so)) refl;
      number = number_is n.link r.machine r.shows.link ∙ kept.1;
      stirs = judged_stirs (held_behind m.held r.points) p.side side r.judged;
    }

-- nobody was shown anything
pub judged_alone : (z : Entry) (p : Proxy) (n : State) → EntersAlone z p.control n → EntersJudged Judges z p.control n p.side p.side
judged_alone z p n enters = (
  enters.0,
  λ m shows may.
      let r = enters.1 m shows may in
      record {
        points = r.points;
        machine = r.machine;
        inner = r.inner;
        shows = r.shows;
        judged = subst (λ (held : List Resources). Judged Judges held p.side p.side) (sym r.alone) refl;
      },
)

-- WHAT STIRRED

-- where the control plane's link is another one than before, no link is that which was of a door
pub state_stirs : (p : Proxy) (n : State) (side : Side) (trace : List Entry)
    → ((l : ℕ) → is_number (number_of n.link) l ≡ false → owns p l ≡ false) → ((l : ℕ) → SideStirs l p.side side)
    → shown.Stirs trace (shown_of p) (shown_of (with_state n side p))
state_stirs p n side trace others stirs = all_stir trace p q refl (λ l alive. by l (owns q l) refl)
  where
    q : Proxy
    q = with_state n side p

    by : (l : ℕ) (b : Bool) → owns q l ≡ b → StirsOn l p q (owner_of p l) (owner_of q l)
    by l true mine =
        stirs_now l p q (owner_of p l) (owner_of q l) (ap (λ (o : Owner). stirs_by o q l) (control_owner q l mine))
    by l false new = other_stirs l p q (others l new) new (stirs l)

-- the entry of a link that lives is told
pub state_tells : (p : Proxy) (n : State) (side : Side) (z : Entry) → is_at_door z ≡ false
    → ((x : Control) → current_after x z ≡ x.current)
    → ((taken : List Note) (trace : List Entry) (s : Stands taken p trace) → MayCome (shown_of p) trace z
    → (p.ends_for ≡ None) × model.MayCome p.control.config s.machine.control z × ControlMayCome s.machine z)
    → EntersJudged Judges z p.control n p.side side → Tells Stands shown_of z p (with_state n side p)
state_tells p n side z door same guards enters_so taken trace s may =
    let at = guards taken trace s may in
    let did = enters taken p n side trace z s (runs_on p s.machine s.ends at.0) at.0 door at.1 at.2 enters_so in
    let number = did.number ∙ same s.machine.control ∙ sym (number_is p.control.link s.machine.control s.control.link) in (
      did.stands,
      state_stirs p n side (trace ++ z ∷ [])
          (λ l none. ap (λ (o : Option ℕ). is_number o l) (sym number) ∙ none) did.stirs,
    )

-- WHICH MAY COME

module _ (taken : List Note) (p : Proxy) (trace : List Entry) (s : Stands taken p trace) (l : ℕ) (mine : owns p l ≡ true) where
  abbrev pub x : Machine
  x = s.machine

  seen : Seen x (without_doors trace)
  seen = seen_of taken p trace s

  there : IsThere (x.control.links l).phase
  there = seen.current l (current_is p.control.link x.control l s.control.link mine)

  whose : owner_of p l ≡ OfControl
  whose = control_owner p l mine

  wanted : wants_by (owner_of p l) p l ≡ model.wants x.control l
  wanted = ap (λ (o : Owner). wants_by o p l) whose ∙ wants_owned p.control.link x.control l s.control.link mine

  held : output_by (owner_of p l) p l ≡ model.output x.control l
  held = ap (λ (o : Owner). output_by o p l) whose ∙ output_owned p.control.link x.control l s.control.link mine

  abbrev pub Guarded : Entry → Type 0
  Guarded z = (p.ends_for ≡ None) × model.MayCome p.control.config x.control z × ControlMayCome x z

  pub opened_may : MayCome (shown_of p) trace (e.Opened l) → Guarded (e.Opened l)
  opened_may may =
      let all = free taken p trace s may.0 in (
        may.0.0,
        (
          all.control,
          dialling_of (x.control.links l).phase (x.control.links l) (is_open l (without_doors trace)) there
              (all.control.calm l) (seen.control_open l) (open_then trace l ∙ may.1.1),
        ),
        free_control x (e.Opened l) all tt,
      )

  pub finish_balks : MayCome (shown_of p) trace (e.Balked (way.Finish l)) → Guarded (e.Balked (way.Finish l))
  finish_balks may =
      let all = free taken p trace s may.0 in (
        may.0.0,
        (
          all.control.goes,
          (
            all.control,
            dialling_of (x.control.links l).phase (x.control.links l) (is_open l (without_doors trace)) there
                (all.control.calm l) (seen.control_open l) (open_then trace l ∙ may.1.1),
          ),
        ),
        free_control x (e.Balked (way.Finish l)) all tt,
      )

  live : 0 < (shown_of p).wants l → (x.control.links l).phase ≡ d.live
  live some = live_of (x.control.links l).phase (x.control.links l) (subst (λ (n : ℕ). 0 < n) wanted some)

  pub came_may : (bytes : List ℕ) → AreOctets bytes → MayCome (shown_of p) trace (e.Came l bytes) → Guarded (e.Came l bytes)
  came_may bytes octets may =
      let all = free taken p trace s may.0 in
      let some : 0 < length bytes = may.2 in
      let few : length bytes ≤ (shown_of p).wants l = may.3 in
      let more : 0 < (shown_of p).wants l = omega arith in (
        may.0.0,
        ((all.control, live more), octets, some, subst (λ (n : ℕ). length bytes ≤ n) wanted few),
        free_control x (e.Came l bytes) all tt,
      )

  pub ended_may : MayCome (shown_of p) trace (e.Ended l) → Guarded (e.Ended l)
  ended_may may =
      let all = free taken p trace s may.0 in
      (may.0.0, ((all.control, live may.2), subst (λ (n : ℕ). 0 < n) wanted may.2), free_control x (e.Ended l) all tt)

  pub read_balks : MayCome (shown_of p) trace (e.Balked (way.Read l)) → Guarded (e.Balked (way.Read l))
  read_balks may =
      let all = free taken p trace s may.0 in (
        may.0.0,
        (all.control.goes, ((all.control, live may.2), subst (λ (n : ℕ). 0 < n) wanted may.2)),
        free_control x (e.Balked (way.Read l)) all tt,
      )

  -- a call that writes, or that fails, is made on it
  pub record Writes (z : Entry) : Type 0 where
    pub phase : model.IsQuietAt x.control l d.dialling ⊎ (model.IsQuietAt x.control l d.live ⊎ model.IsFaulted x.control l)
    pub guard : ControlMayCome x z

  writes_free : (z : Entry) → BirthMayCome x z → IsFree (shown_of p) → Writes z
  writes_free z birth is =
      let all = free taken p trace s is in
      record {
        phase = ⊎_elim (λ at. inl (all.control, at)) (λ at. inr (inl (all.control, at)))
            (going_of (x.control.links l).phase (x.control.links l) there (all.control.calm l));
        guard = free_control x z all birth;
      }

  writes_last : (z : Entry) → BirthMayCome x z → ((code : ℕ) → (x.control.links l).phase ≡ d.faulted code → goes_first x.control z ≡ true)
      → (shown_of p).last_words l ≡ true → Writes z
  writes_last z birth first last =
      let fault = last_owned p.control.link x.control l s.control.link mine (ap (λ (o : Owner). last_by o p l) (sym whose) ∙ last) in
      record {
        phase = inr (inr fault);
        guard = record {
          birth = birth;
          links = λ k. subst (λ (b : Bool). Lets b (x.inbound k)) (sym (first fault.0 fault.1)) (all_calm p.side.links x.inbound s.links k);
          plain = λ k. subst (λ (b : Bool). PlainLets b (x.plain k)) (sym (first fault.0 fault.1))
              (plain_calm p.side.relays s.relays k);
          gates = gates_calm x s.relays (goes_first x.control z) (first fault.0 fault.1);
        };
      }

  writes : (z : Entry) → BirthMayCome x z → ((code : ℕ) → (x.control.links l).phase ≡ d.faulted code → goes_first x.control z ≡ true)
      → MayWrite (shown_of p) l → Writes z
  writes z birth first may =
      ⊎_elim (λ idle. writes_free z birth (may.0, idle)) (λ last. writes_last z birth first last) may.1

  faulted_first : (code : ℕ) → (x.control.links l).phase ≡ d.faulted code → goes_first x.control (e.Broke l) ≡ true
  faulted_first code is = ap (λ (q : d.Phase). is_faulted q) is

  pub broke_may : MayCome (shown_of p) trace (e.Broke l) → Guarded (e.Broke l)
  broke_may may = let w = writes (e.Broke l) tt faulted_first may.0 in (may.0.0, w.phase, w.guard)

  -- where something waits
  writable : (z : Entry) → Writes z → 0 < length (model.output x.control l)
      → model.IsQuietAt x.control l d.live ⊎ model.IsFaulted x.control l
  writable z w some =
      ⊎_elim (λ dials. let none : 0 < 0 = subst (λ (q : d.Phase). 0 < length (model.output_by q (x.control.links l))) dials.1 some in
      absurd (omega arith)) (λ is. is) w.phase

  pub went_may : (bytes : List ℕ) → MayCome (shown_of p) trace (e.Went l bytes) → Guarded (e.Went l bytes)
  went_may bytes may =
      let w = writes (e.Went l bytes) tt faulted_first may.0 in
      let n = may.2 in
      let out = model.output x.control l in
      let first : 0 < n = may.3 in
      let enough : n ≤ length out = subst (λ (bs : List ℕ). n ≤ length bs) held may.4 in
      let are : bytes ≡ take n out = may.5 ∙ ap (λ (bs : List ℕ). take n bs) held in
      let long = length-take n out in
      let waits : 0 < length out = omega arith in
      let some : 0 < length bytes = subst (λ (bs : List ℕ). 0 < length bs) (sym are) (omega arith) in (
        may.0.0,
        (
          writable (e.Went l bytes) w waits,
          some,
          (drop n out, sym (take-append-drop n out) ∙ ap (λ (bs : List ℕ). bs ++ drop n out) (sym are)),
        ),
        w.guard,
      )

  pub write_balks : MayCome (shown_of p) trace (e.Balked (way.Write l)) → Guarded (e.Balked (way.Write l))
  write_balks may =
      let w = writes (e.Balked (way.Write l)) tt faulted_first may.0 in
      let some : 0 < length (model.output x.control l) = subst (λ (bs : List ℕ). 0 < length bs) held may.2 in
      (may.0.0, (runs_on p x s.ends may.0.0, (writable (e.Balked (way.Write l)) w some, some)), w.guard)
