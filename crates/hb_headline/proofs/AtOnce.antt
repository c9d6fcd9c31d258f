-- Each response of the control plane is applied before more comes.
use Rattle.std.proofs.Common.{◌≡◌, ℕ, Bool, true, false, List, [], ◌∷◌, ◌++◌, map, Option, None, Ok, refl, ap, sym, ◌∙◌, subst}
use Rattle.std.specs.List.{flat_map, list_any}
use Rattle.std.proofs.lemmas.Bool.{both_ways, false≢true}
use Rattle.std.proofs.lemmas.List.{append-nil}
use Rattle.hb_disco.specs.Response.{response_of}
use Rattle.hb_frames.specs.Frames.{AreFrames}
use Rattle.hb_grpc.specs.Framed.{framed_of}
use Rattle.hb_history.specs.History.{ends_in, happenings}
use Rattle.hb_history.specs.OwnCredits.{is_left}
use Rattle.hb_history.specs.OwnFrames.{asks, stage}
use Rattle.hb_history.specs.Points.{frames_got}
use Rattle.hb_laws.proofs.Doors.{any_without, came_without}
use Rattle.hb_laws.proofs.Lawful.{goes_at, known, lives_on, same_opened, same_came}
use Rattle.hb_laws.specs.Lawful.{Lawful}
use Rattle.hb_laws.specs.RefusedTunnels.{is_more}
use Rattle.hb_model.proofs.AtOnce.{OfEach, at_once}
use Rattle.hb_model.proofs.CallsLives.{lived}
use Rattle.hb_model.proofs.CallsSaid.{seen}
use Rattle.hb_model.proofs.ConnectionsRun.{all_one}
use Rattle.hb_model.proofs.CreditsRun.{all_keep}
use Rattle.hb_model.proofs.DialsHeld.{is_held, other-rests}
use Rattle.hb_model.proofs.Inner.{calm_at}
use Rattle.hb_model.proofs.OwnFrames.{Suits, all_suited}
use Rattle.hb_model.proofs.Places.{at_entries}
use Rattle.hb_model.proofs.RequestsRun.{IsGoing}
use Rattle.hb_model.specs.Calls.{AtEntry, Was, is_control_of, is_opened_of, IsControl}
use Rattle.hb_model.specs.Discovery.{Phase, unborn, dialling, live, faulted, ending, closed, longest_message}
use Rattle.hb_model.specs.Ends.{NoneEnded, EndMayStand, end_of}
use Rattle.hb_model.specs.Machine as control
use Rattle.hb_model.specs.Messages.{data_came}
use Rattle.hb_model.specs.Point as point
use Rattle.hb_model.specs.Point.{moves, tellings}
use Rattle.hb_model.specs.Runs as model
use Rattle.hb_model.specs.Runs.{IsCalmBy, IsQuiet}
use Rattle.hb_model.specs.declared.config.NodeConfig.{NodeConfig}
use Rattle.hb_proxy.proofs.Control.{ticked}
use Rattle.hb_proxy.proofs.Doors.{doors_tell_none}
use Rattle.hb_proxy.proofs.Places.{rests_of}
use Rattle.hb_proxy.proofs.Projection.{control_runs}
use Rattle.hb_proxy.proofs.Stopped.{is_going, over_rests}
use Rattle.hb_proxy.specs.Doors.{without_doors}
use Rattle.hb_proxy.specs.Machine.{Machine}
use Rattle.hb_proxy.specs.Points.{Point, of_control, of_link, of_plain, of_gate, of_stream, entry_in, entries, control_in, control_of}
use Rattle.hb_proxy.specs.Runs.{ControlRests, Steps, StandsFor}
use Rattle.hb_world.specs.Trace.{recv, sent, lives}
use Rattle.hb_world.specs.declared.entry.Entry.{Entry}
use Rattle.hb_world.specs.declared.entry.Entry.TheVariants as e
use Rattle.hb_headline.specs.Held.{on_link, AllRead}
use Rattle.hb_headline.specs.Relay.{data_on}
use Rattle.hb_headline.proofs.DataCame.{all_handed}
use Rattle.hb_headline.proofs.Held.{applied_of, same}

-- all DATA that came on the stream is handed out
abbrev IsHanded : List point.Point → ℕ → Type 0
IsHanded points l = data_came l points ≡ data_on 1 (frames_got (moves l points))

abbrev AllHanded : List point.Point → Entry → Type 0
AllHanded before z =
    (l : ℕ) → IsControl l (point.entries before) → lives l (point.entries before) ≡ true → end_of l before ≡ None
    → Was (is_opened_of l) (point.entries before) → IsHanded before l

-- OF THE CONTROL PLANE

handed_at : (g : NodeConfig) (m : control.Machine) (points : List point.Point) → model.StandsFor g m points → IsQuiet m
    → OfEach points (λ l. Was (is_opened_of l) (point.entries points) → IsHanded points l)
handed_at g m points stands quiet l control living none was =
    let h = calm_at g m points stands quiet l control living none was in
    let asking : stage (moves l points) ≡ asks =
    subst (λ (p : Phase). Suits p (stage (moves l points))) h.0 (all_suited g m points stands l) in
    let told : happenings (moves l points) ≡ tellings l points =
    (all_one g m points stands l).stands.told
    ∙ ap (λ (o : Option ℕ). tellings l points ++ ends_in o) h.1.looked_at.0
    ∙ append-nil (tellings l points) in
    let unended : list_any is_left (happenings (moves l points)) ≡ false =
    ap (list_any is_left) told ∙ (all_keep g m points stands l (subst IsGoing (sym h.0) tt)).0 in
    all_handed (moves l points) (tellings l points) (recv l (point.entries points)) (sent l (point.entries points)) (m.links l).conn
    (all_one g m points stands l).stands asking unended

hand_all : (g : NodeConfig) (m : control.Machine) (points : List point.Point) → model.StandsFor g m points → AtEntry AllHanded points
hand_all g m points stands =
    at_entries g AllHanded (λ n before x runs may. at_once g n before runs _ (handed_at g n before runs) x may) m points stands

-- WHERE IT RESTS

module _ (g : NodeConfig) (m : control.Machine) (points : List point.Point) (stands : model.StandsFor g m points) (rests : ControlRests m)
  where
    held_where : (l : ℕ) → lives l (point.entries points) ≡ true → is_held (m.links l).phase ≡ true
    held_where l living = by (is_held (m.links l).phase) refl
      where
        by : (b : Bool) → is_held (m.links l).phase ≡ b → is_held (m.links l).phase ≡ true
        by true is = is
        by false is =
            absurd (both_ways _ (other-rests (m.links l).phase (seen l points) ((lived g m points stands).fits l) is) living)

    none_lives : m.over ≡ true → (l : ℕ) → lives l (point.entries points) ≡ true → ⊥
    none_lives over l living =
        by (m.links l).phase (rests.calm l) (held_where l living) (over_rests g m points stands over l)
      where
        by : (phase : Phase) → IsCalmBy phase (m.links l) → is_held phase ≡ true → is_going phase ≡ false → ⊥
        by unborn calm held going = false≢true held
        by dialling calm held going = false≢true (sym going)
        by live calm held going = false≢true (sym going)
        by (faulted code) calm held going = calm
        by (ending why) calm held going = calm
        by closed calm held going = false≢true held

    rests_handed : AllHanded points e.Tick
    rests_handed = by m.over refl
      where
        by : (b : Bool) → m.over ≡ b → AllHanded points e.Tick
        by true over = λ l control living none was. absurd (none_lives over l living)
        by false goes = hand_all g _ _ (ticked g m points stands rests goes) points e.Tick [] refl

-- OF THE WHOLE

other_handed : (g : NodeConfig) (x y : Machine) (front : List Point) (p : Point) (z : Entry) → StandsFor g x front → Steps g x p y
    → control_in p ≡ [] → entry_in p ≡ z ∷ [] → AllHanded (control_of front) z
other_handed g x y front p z run steps none is =
    rests_handed g x.control (control_of front) (control_runs g x front run) (rests_of g x y p steps none z is)

whole_handed : (g : NodeConfig) (x y : Machine) (front : List Point) (p : Point) (z : Entry) → StandsFor g x front → Steps g x p y
    → entry_in p ≡ z ∷ [] → AllHanded (control_of front) z
whole_handed g x y front (of_control (point.entry en)) z run steps is =
    hand_all g steps.0 (control_of front ++ point.entry en ∷ [])
    (model.goes_on (control_runs g x front run) (point.entry en) steps.1 refl) (control_of front) en [] refl
whole_handed g x y front (of_control _) z run steps is = absurd cc
whole_handed g x y front (of_link l p) z run steps is = other_handed g x y front (of_link l p) z run steps refl is
whole_handed g x y front (of_plain l p) z run steps is = other_handed g x y front (of_plain l p) z run steps refl is
whole_handed g x y front (of_gate n p) z run steps is = other_handed g x y front (of_gate n p) z run steps refl is
whole_handed g x y front (of_stream l n s w) z run steps is = absurd cc

-- where more comes none that lives has ended
none_ended : (points : List point.Point) (z : Entry) → is_more z ≡ true → EndMayStand points z → NoneEnded points
none_ended points (e.Accepted l d) more may = may
none_ended points (e.Opened l) more may = may
none_ended points (e.Came l bytes) more may = may
none_ended points (e.Ended l) more may = may
none_ended points e.Tick more may = may
none_ended points (e.Wait ready how) more may = may
none_ended points _ more may = absurd (false≢true more)

pub all_read : (g : NodeConfig) (trace : List Entry) → (h : Lawful g trace) → (front : List Point) (p : Point) (behind : List Point)
    (z : Entry) → h.points ≡ front ++ p ∷ behind → entry_in p ≡ z ∷ [] → is_more z ≡ true → (before : List Entry)
    → entries front ≡ without_doors before → (d : ℕ) → IsControl d before → lives d before ≡ true → Was (is_opened_of d) before
    → AllRead before d (flat_map (on_link d) (applied_of (control_of front)))
all_read g trace h front p behind z are is more before before_is d control living opened =
    let on_front : IsControl d (entries front) =
    ap (list_any (is_control_of d)) before_is ∙ any_without (is_control_of d) (λ w. refl) before ∙ control in
    let told = (known g trace h front (p ∷ behind) are d on_front).told in
    let alive = lives_on g trace h front (p ∷ behind) are d on_front
    (ap (lives d) before_is ∙ (doors_tell_none before).lives d ∙ living) in
    let opens = same_opened g trace h front (p ∷ behind) are d on_front
    ∙ ap (list_any (is_opened_of d)) before_is ∙ any_without (is_opened_of d) (λ w. refl) before ∙ opened in
    let lasts = none_ended (control_of front) z more (h.at_entries.ends front p z behind are is) d told alive in
    let looked = h.at_entries.looked front p z behind are is d told alive lasts opens in
    let at = goes_at g trace h front p behind are in
    let handed = whole_handed g at.machine at.next front p z at.run at.steps is d told alive lasts opens in
    let came = sym (same_came g trace h front (p ∷ behind) are d on_front) ∙ ap (recv d) before_is ∙ came_without d before in
    record {
      frames = frames_got (moves d (control_of front));
      partial = looked.held;
      framed = subst (λ (bs : List ℕ). AreFrames bs (frames_got (moves d (control_of front))) looked.held) came looked.came;
      read = ap (λ (bs : List ℕ). map response_of (framed_of longest_message bs).messages) (sym handed)
          ∙ h.at_entries.applied front p z behind are is d told alive lasts ∙ ap (map Ok) (sym (same d (control_of front)));
    }
