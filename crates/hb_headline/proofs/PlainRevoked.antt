-- Where more comes, each link of the plain door whose upstream lives is admitted.
use Rattle.std.proofs.Common.{◌≡◌, ℕ, ◌&&◌, not, Bool, true, List, refl, ap, ap₂, sym, ◌∙◌, subst, arith}
use Rattle.hb_base.specs.declared.cause.Cause.{Cause}
use Rattle.hb_base.specs.declared.door.Door.{Door}
use Rattle.hb_base.specs.declared.door.Door.TheVariants as door
use Rattle.hb_base.specs.declared.door.Why.TheVariants as whys
use Rattle.hb_base.specs.declared.peer.Peer.{Peer}
use Rattle.hb_base.specs.declared.target.Target.{Target}
use Rattle.hb_captured.proofs.Kept.{Keeps, all_keep}
use Rattle.hb_captured.proofs.Stages.{Placed, facts_of, KnowsBy, course_in}
use Rattle.hb_captured.specs.Answer.{Aim, straight_to, through, why_for}
use Rattle.hb_captured.specs.Captured.{Captured, Stage, unborn, arriving, fronting, due, opening, accepting, live, failed, ended, over, is_raw, judges}
use Rattle.hb_captured.specs.Part as captured
use Rattle.hb_captured.specs.Sides as sides
use Rattle.hb_captured.specs.Sides.{header_of, link_came, judged_in, course_of}
use Rattle.hb_held.specs.Held.{Resources}
use Rattle.hb_laws.proofs.Doors.{any_without, owner_without}
use Rattle.hb_laws.proofs.Living.{relay_lives}
use Rattle.hb_laws.specs.Lawful.{Laws}
use Rattle.hb_model.specs.Messages.{held}
use Rattle.hb_model.specs.declared.config.NodeConfig.{NodeConfig}
use Rattle.hb_proxy.proofs.Owned.{all_owned}
use Rattle.hb_proxy.proofs.Plain.{plain_runs}
use Rattle.hb_proxy.proofs.PlainStays.{RelayBy, is_plain_born}
use Rattle.hb_proxy.specs.Doors.{without_doors}
use Rattle.hb_proxy.specs.Ends.{AllClosed}
use Rattle.hb_proxy.specs.Held.{at_start}
use Rattle.hb_proxy.specs.Machine.{Machine, plain_local}
use Rattle.hb_proxy.specs.Owners.{owner, plain_link, relay_of}
use Rattle.hb_proxy.specs.Points.{Point, of_plain, entries, control_of, plain_of}
use Rattle.hb_proxy.specs.Runs.{Steps, StandsFor}
use Rattle.hb_table.specs.Judgement.{judged}
use Rattle.hb_world.specs.Trace.{is_birth_of, is_close_of, lives}
use Rattle.hb_world.specs.declared.entry.Entry.{Entry}
use Rattle.hb_world.specs.declared.entry.Entry.TheVariants as e
use Rattle.hb_headline.specs.Access.{door_at, AdmitsPlain}
use Rattle.hb_headline.proofs.PlainAccess.{judges_it, admits}

-- AT A FRONT of the run, and of its trace

-- a link whose peer was admitted where it was placed
module _ (g : NodeConfig) (x : Machine) (front : List Point) (run : StandsFor g x front) (before : List Entry)
    (before_is : entries front ≡ without_doors before) (laws : Laws g front) (l : ℕ) (mine : owner l (entries front) ≡ plain_link)
  where
    pub kept : Keeps (at_start g) (plain_local x l) (plain_of l front)
    kept = all_keep l (at_start g) (plain_local x l) (plain_of l front) (plain_runs g x front l run)

    pub placed_admitted : Placed (header_of (plain_of l front)) (link_came (plain_of l front)) x.control.held (facts_of (x.plain l))
        → judges (x.plain l).door ≡ true → AdmitsPlain (held g (control_of front)) before l
    placed_admitted placed judged_there =
        let told = placed.0 in
        admits g x front run before before_is laws l mine
        (record {
          seen = told.seen;
          told = told.told;
          admitted = ap (λ (h : Resources). judged_in h told.seen) (sym (laws.plain_held l) ∙ kept.held)
              ∙ ap (λ (p : Peer). judged x.control.held p told.seen.destination) (sym told.peer)
              ∙ ap (λ (t : Target). judged x.control.held (x.plain l).peer t) (sym told.target)
              ∙ placed.1 judged_there;
        })

-- where it is dialled
why_judges : (aim : Aim) (d : Door) (l : ℕ) → why_for aim d l ≡ whys.Plain l → judges d ≡ true
why_judges (straight_to to endpoint) door.Plain l is = refl
why_judges (straight_to to endpoint) door.Inbound l is = refl
why_judges (straight_to to endpoint) door.Outbound l is = absurd cc
why_judges (through key authority endpoint) d l is = absurd cc

pub plain_dial_admitted : (g : NodeConfig) (x y : Machine) (front : List Point) → StandsFor g x front → (before : List Entry)
    → entries front ≡ without_doors before → Laws g front → (l u : ℕ) (to : Target)
    → Steps g x (of_plain l (captured.up (e.Dialled u to (whys.Plain l)))) y → AdmitsPlain (held g (control_of front)) before l
plain_dial_admitted g x y front run before before_is laws l u to steps =
    let due_now = steps.0.0.1 in
    let mine = (all_owned g x front run).plain l (ap is_plain_born due_now) in
    let knows = (kept g x front run before before_is laws l mine).knows in
    placed_admitted g x front run before before_is laws l mine
    (subst (λ (st : Stage). KnowsBy st (header_of (plain_of l front)) (link_came (plain_of l front)) x.control.held (x.plain l))
    due_now knows).0
    (why_judges (x.plain l).aim (x.plain l).door l (sym steps.0.0.3))

-- where more comes, and its upstream lives
module _ (g : NodeConfig) (x : Machine) (front : List Point) (run : StandsFor g x front) (before : List Entry)
    (before_is : entries front ≡ without_doors before) (laws : Laws g front) (all : AllClosed g front) (l u : ℕ)
    (own : owner u before ≡ relay_of l) (living : lives u before ≡ true)
  where
    abbrev link : Captured
    link = x.plain l

    keeps : Keeps (at_start g) (plain_local x l) (plain_of l front)
    keeps = all_keep l (at_start g) (plain_local x l) (plain_of l front) (plain_runs g x front l run)

    pub on_front : owner u (entries front) ≡ relay_of l
    on_front = ap (owner u) before_is ∙ owner_without u before ∙ own

    living_front : lives u (entries front) ≡ true
    living_front =
        ap (lives u) before_is
        ∙ ap₂ (λ (a b : Bool). a && not b) (any_without (is_birth_of u) (λ w. refl) before) (any_without (is_close_of u) (λ w. refl) before)
        ∙ living

    -- it didn't end, so its peer was admitted
    no_end : (why : Cause) → course_of (at_start g) (plain_of l front) ≡ sides.over why → ⊥
    no_end why is =
        let has = relay_lives g x front run u l on_front living_front in
        let none = (all.plain l).up why is in
        omega (arith, has.0, has.1, none)

    placed_by : (stage : Stage) → RelayBy stage (is_raw link) (λ n. owner n (entries front)) l link.up
        → KnowsBy stage (header_of (plain_of l front)) (link_came (plain_of l front)) x.control.held link
        → course_of (at_start g) (plain_of l front) ≡ course_in stage
        → Placed (header_of (plain_of l front)) (link_came (plain_of l front)) x.control.held (facts_of link)
    placed_by unborn relay knows course = absurd (relay.0 u on_front)
    placed_by arriving relay knows course = absurd (relay.0 u on_front)
    placed_by fronting relay knows course = absurd (relay.0 u on_front)
    placed_by due relay knows course = absurd (relay.0 u on_front)
    placed_by opening relay knows course = knows.0
    placed_by accepting relay knows course = knows.0
    placed_by live relay knows course = knows.0
    placed_by (failed why) relay knows course = absurd (no_end why course)
    placed_by (ended why) relay knows course = absurd (no_end why course)
    placed_by (over why) relay knows course = absurd (no_end why course)

    pub placed : Placed (header_of (plain_of l front)) (link_came (plain_of l front)) x.control.held (facts_of link)
    placed = placed_by link.stage ((all_owned g x front run).relay l) keeps.knows keeps.course

    pub is_plain : owner l (entries front) ≡ plain_link
    is_plain = (all_owned g x front run).relay_over l u on_front

    pub relay_admitted : door_at l before ≡ door.Plain → AdmitsPlain (held g (control_of front)) before l
    relay_admitted at =
        placed_admitted g x front run before before_is laws l is_plain placed
        (sym (ap judges keeps.tells.door) ∙ judges_it g x front run before before_is laws l is_plain at)
