-- The frames of every run: each link asks on its stream, and does nothing else.
use Rattle.std.proofs.Common.{◌≡◌, ◌⊎◌, inl, inr, ℕ, ◌<◌, ◌==◌, Bool, true, false, if◌then◌else◌, fold, List, [], ◌∷◌, ◌++◌, length, Option, Some, None, refl, ap, sym, ◌∙◌, subst}
use Rattle.std.proofs.lemmas.List.{append-nil}
use Rattle.std.proofs.lemmas.List.Sums.{fold-append}
use Rattle.hb_base.specs.declared.cause.Cause.{Cause}
use Rattle.hb_base.specs.declared.cause.Cause.TheVariants as cause
use Rattle.hb_base.specs.declared.door.Why.{Why}
use Rattle.hb_base.specs.declared.door.Why.TheVariants as whys
use Rattle.hb_base.specs.declared.target.Target.{Target}
use Rattle.hb_hpack.specs.declared.header.Header.{Header}
use Rattle.hb_conn.specs.Connection.{ended_by}
use Rattle.hb_conn.specs.Observed.{outgoing}
use Rattle.hb_conn.specs.Outcome.{is_silent}
use Rattle.hb_conn.specs.declared.found.Found.{Found}
use Rattle.hb_conn.specs.declared.found.Found.TheVariants as found
use Rattle.hb_history.specs.Points as history
use Rattle.hb_history.specs.History.{ends_in, happenings}
use Rattle.hb_history.specs.Calls.{in_list, IsLook, AreLooks}
use Rattle.hb_history.specs.OwnFrames as own
use Rattle.hb_history.specs.OwnFrames.{Stage, told_stage, stage_after, stage, Asks}
use Rattle.hb_history.proofs.OwnFrames.{own_frames}
use Rattle.hb_world.specs.declared.entry.Entry.{Entry}
use Rattle.hb_world.specs.declared.entry.Entry.TheVariants as e
use Rattle.hb_model.specs.declared.config.NodeConfig.{NodeConfig}
use Rattle.hb_model.specs.Discovery.{Discovery, Phase, unborn, dialling, live, faulted, ending, closed, opened, ended, broken, went, stopped_for, phase_by, end_by, headers_read, stream, headers_of, dialled, came, wrote, on_found, ends_for, put_requests}
use Rattle.hb_model.specs.Machine.{Machine, while_open, entered, with_phase}
use Rattle.hb_model.specs.Point.{Point, entry, looked, applied, refused, used, put, stopped, moves_in, moves, act}
use Rattle.hb_model.specs.Runs.{MayCome, Steps, StandsFor, begins, goes_on, IsFaulted}
use Rattle.hb_model.specs.Laws.{RunsSendOwnFrames}
use Rattle.hb_model.proofs.Grown.{one_more, of_all}
use Rattle.hb_model.proofs.Open.{live_changes, open_changes}
use Rattle.hb_model.proofs.Unborn.{AreUnborn, are_unborn, Passes, passes_looked, passes_applied, passes_used, passes_put, passes_dial, passes_came, passes_went}
use Rattle.hb_model.proofs.ConnectionsRun.{on_itself, quiet_passes, all_one}

-- how far a link's connection is in each phase of the link
abbrev pub Suits : Phase → Stage → Type 0
Suits unborn s = s ≡ own.begins
Suits dialling s = s ≡ own.asks
Suits live s = s ≡ own.asks
Suits (faulted code) s = (s ≡ own.asks) ⊎ (s ≡ own.faulted)
Suits _ s = Asks s

pub suits_asks : (p : Phase) (s : Stage) → Suits p s → Asks s
suits_asks unborn s is = subst Asks (sym is) tt
suits_asks dialling s is = subst Asks (sym is) tt
suits_asks live s is = subst Asks (sym is) tt
suits_asks (faulted code) s (inl is) = subst Asks (sym is) tt
suits_asks (faulted code) s (inr is) = subst Asks (sym is) tt
suits_asks (ending why) s good = good
suits_asks closed s good = good

-- changes of the phase alone
opened_suits : (p : Phase) (s : Stage) → Suits p s → Suits (opened p) s
opened_suits dialling s is = is
opened_suits unborn s is = is
opened_suits live s is = is
opened_suits (faulted code) s is = is
opened_suits (ending why) s is = is
opened_suits closed s is = is

ended_suits : (p : Phase) (s : Stage) → Suits p s → Suits (ended p) s
ended_suits live s is = suits_asks live s is
ended_suits unborn s is = is
ended_suits dialling s is = is
ended_suits (faulted code) s is = is
ended_suits (ending why) s is = is
ended_suits closed s is = is

broken_suits : (p : Phase) (s : Stage) → Suits p s → Suits (broken p) s
broken_suits dialling s is = suits_asks dialling s is
broken_suits live s is = suits_asks live s is
broken_suits (faulted code) s is = suits_asks (faulted code) s is
broken_suits unborn s is = is
broken_suits (ending why) s is = is
broken_suits closed s is = is

stopped_suits : (why : Cause) (p : Phase) (s : Stage) → Suits p s → Suits (stopped_for why p) s
stopped_suits why dialling s is = suits_asks dialling s is
stopped_suits why live s is = suits_asks live s is
stopped_suits why unborn s is = is
stopped_suits why (faulted code) s is = is
stopped_suits why (ending other) s is = is
stopped_suits why closed s is = is

-- looks

-- what is told of the last of some points
abbrev last_told : List history.Point → Found
last_told [] = found.Silent
last_told (p ∷ []) = p.told
last_told (p ∷ q ∷ ps) = last_told (q ∷ ps)

look_stage : (m : history.Move) (told : Found) → IsLook m → stage_after own.asks (history.point m told) ≡ told_stage told
look_stage (history.got f) told look = refl
look_stage (history.refused r kind flags) told look = refl
look_stage history.misbegan told look = refl
look_stage (history.opened s headers end) told look = absurd look
look_stage (history.answered s status) told look = absurd look
look_stage (history.ended s) told look = absurd look
look_stage (history.reset s code) told look = absurd look
look_stage (history.credited s n) told look = absurd look
look_stage (history.put s bytes) told look = absurd look
look_stage (history.wrote n) told look = absurd look

looks_stage : (ps : List history.Point) → AreLooks ps → fold stage_after own.asks ps ≡ told_stage (last_told ps)
looks_stage [] looks = refl
looks_stage (p ∷ []) looks = look_stage p.move p.told looks
looks_stage (p ∷ q ∷ ps) looks =
    ap (λ (s : Stage). fold stage_after s (q ∷ ps)) (look_stage p.move p.told looks.0 ∙ ap told_stage looks.1)
    ∙ looks_stage (q ∷ ps) looks.2

-- what a caller is told of it
abbrev tells_of : Found → List Found
tells_of t = if is_silent t then [] else t ∷ ends_in (ended_by t)

looks_tell : (ps : List history.Point) → AreLooks ps → happenings ps ≡ tells_of (last_told ps)
looks_tell [] looks = refl
looks_tell (p ∷ []) looks = append-nil (tells_of p.told)
looks_tell (p ∷ q ∷ ps) looks = ap (λ t. tells_of t ++ happenings (q ∷ ps)) looks.1 ∙ looks_tell (q ∷ ps) looks.2

-- what is told alone, and isn't the end of a stream that is told later, is what the look tells
same_by : (t told : Found) (silent : Bool) (a b : Option ℕ) → ((s : ℕ) → t ≡ found.Ended s → ⊥)
    → ends_in a ++ t ∷ [] ≡ (if silent then [] else told ∷ []) ++ ends_in b → told ≡ t
same_by t told true None None apart is = absurd cc
same_by t told true None (Some s) apart is = absurd (apart s cc)
same_by t told true (Some q) None apart is = absurd cc
same_by t told true (Some q) (Some s) apart is = absurd cc
same_by t told false None b apart is = cc
same_by t told false (Some q) None apart is = absurd cc
same_by t told false (Some q) (Some s) apart is = absurd (apart s cc)

-- where a link goes on, and why it ends, by what is told
goes_by : (o : Option Cause) → Suits (phase_by live o) own.asks
goes_by None = refl
goes_by (Some (cause.ConnFault code)) = inl refl
goes_by (Some _) = tt

module _ (answered : Bool) (headers : List Header) (told : Found) (a b : Option ℕ) where
  abbrev phase_now : Phase
  phase_now = phase_by live (end_by answered headers told)

  looked_by : (t : Found) → ends_in a ++ tells_of t ≡ in_list told ++ ends_in b → Suits phase_now (told_stage t)
  looked_by (found.Fault code) is =
      let same : told ≡ found.Fault code = same_by (found.Fault code) told (is_silent told) a b (λ s e. absurd cc) is in
      subst (λ (u : Found). Suits (phase_by live (end_by answered headers u)) own.faulted) (sym same) (inr refl)
  looked_by (found.Reset s code) is =
      let same : told ≡ found.Reset s code = same_by (found.Reset s code) told (is_silent told) a b (λ s e. absurd cc) is in
      subst (λ (u : Found). Suits (phase_by live (end_by answered headers u)) own.cut) (sym same) tt
  looked_by (found.Broken s code) is =
      let same : told ≡ found.Broken s code = same_by (found.Broken s code) told (is_silent told) a b (λ s e. absurd cc) is in
      subst (λ (u : Found). Suits (phase_by live (end_by answered headers u)) own.cut) (sym same) tt
  looked_by found.Silent is = goes_by (end_by answered headers told)
  looked_by (found.Opened s end) is = goes_by (end_by answered headers told)
  looked_by (found.Chunk s end) is = goes_by (end_by answered headers told)
  looked_by (found.Ended s) is = goes_by (end_by answered headers told)
  looked_by (found.GoneAway last) is = goes_by (end_by answered headers told)

-- a link's connection is as far as the link is
abbrev pub SuitsOn : List Point → ℕ → Discovery → Type 0
SuitsOn points l x = Suits x.phase (stage (moves l points))

abbrev pub AreSuited : Machine → List Point → Type 0
AreSuited m points = (l : ℕ) → SuitsOn points l (m.links l)

module _ (g : NodeConfig) (m : Machine) (points : List Point) (unborn_are : AreUnborn g m points) (suited : AreSuited m points) where
  -- with a point by which these moves are made
  grown : (p : Point) (l : ℕ) (phase : Phase) (ps : List history.Point) → moves_in l p ≡ ps
      → Suits phase (fold stage_after (stage (moves l points)) ps) → Suits phase (stage (moves l (points ++ p ∷ [])))
  grown p l phase ps are suits =
      subst (Suits phase)
      (sym (ap stage (one_more (moves_in l) points p) ∙ fold-append stage_after own.begins (moves l points) (moves_in l p)
      ∙ ap (fold stage_after (stage (moves l points))) are)) suits

  elsewhere : (p : Point) (l : ℕ) → Passes g l p → SuitsOn (points ++ p ∷ []) l (m.links l)
  elsewhere p l passes = grown p l (m.links l).phase [] passes.moves (suited l)

  changed : (p : Point) (k : ℕ) (new : ℕ → Discovery) → SuitsOn (points ++ p ∷ []) k (new k)
      → ((l : ℕ) → (k == l) ≡ false → Passes g l p) → (l : ℕ) → SuitsOn (points ++ p ∷ []) l (if k == l then new l else m.links l)
  changed p k new here passes =
      of_all (SuitsOn (points ++ p ∷ [])) k new m.links here (λ l apart. elsewhere p l (passes l apart))

  phase_changes : (x : Entry) (k : ℕ) (change : Phase → Phase) → ((p : Phase) (s : Stage) → Suits p s → Suits (change p) s)
      → ((l : ℕ) → Passes g l (entry x)) → (l : ℕ)
      → SuitsOn (points ++ entry x ∷ []) l (if k == l then with_phase change (m.links l) else m.links l)
  phase_changes x k change keeps passes =
      changed (entry x) k (λ l. with_phase change (m.links l))
      (grown (entry x) k (change (m.links k).phase) [] (passes k).moves
      (keeps (m.links k).phase (stage (moves k points)) (suited k)))
      (λ l apart. passes l)

  all_kept : (x : Entry) → ((l : ℕ) → Passes g l (entry x)) → AreSuited m (points ++ entry x ∷ [])
  all_kept x passes l = elsewhere (entry x) l (passes l)

  born_suits : (k : ℕ) (to : Target) → m.born < k
      → AreSuited (entered g (e.Dialled k to whys.Discovery) m) (points ++ entry (e.Dialled k to whys.Discovery) ∷ [])
  born_suits k to above =
      let p = entry (e.Dialled k to whys.Discovery) in
      let move = history.opened stream (headers_of to) false in
      changed p k (λ l. dialled g.id to m.held)
      (grown p k dialling (act move) (on_itself k (act move))
      (ap (λ (s : Stage). stage_after s (history.point move found.Silent)) (ap stage (unborn_are k above).none.moves)))
      (λ l apart. passes_dial g l k to whys.Discovery apart)

  wrote_suits : (p : Phase) (s : Stage) (n : ℕ) → (p ≡ live) ⊎ ((code : ℕ) × (p ≡ faulted code)) → Suits p s
      → Suits (went p) (stage_after s (history.point (history.wrote n) found.Silent))
  wrote_suits p s n (inl is) suits =
      let asking : s ≡ own.asks = subst (λ (q : Phase). Suits q s) is suits in
      subst (λ (q : Phase). Suits (went q) (stage_after s (history.point (history.wrote n) found.Silent))) (sym is)
      (ap (λ (t : Stage). stage_after t (history.point (history.wrote n) found.Silent)) asking)
  wrote_suits p s n (inr is) suits =
      subst (λ (q : Phase). Suits (went q) (stage_after s (history.point (history.wrote n) found.Silent))) (sym is.1)
      (by (subst (λ (q : Phase). Suits q s) is.1 suits))
    where
      by : (s ≡ own.asks) ⊎ (s ≡ own.faulted) → Asks (stage_after s (history.point (history.wrote n) found.Silent))
      by (inl asking) = subst (λ (t : Stage). Asks (stage_after t (history.point (history.wrote n) found.Silent))) (sym asking) tt
      by (inr over) = subst (λ (t : Stage). Asks (stage_after t (history.point (history.wrote n) found.Silent))) (sym over) tt

  went_suits : (k : ℕ) (bytes : List ℕ) → ((m.links k).phase ≡ live) ⊎ IsFaulted m k
      → AreSuited (entered g (e.Went k bytes) m) (points ++ entry (e.Went k bytes) ∷ [])
  went_suits k bytes opened_is =
      let p = entry (e.Went k bytes) in
      let move = history.wrote (length bytes) in
      changed p k (λ l. while_open (wrote (length bytes)) (m.links l))
      (subst (SuitsOn (points ++ p ∷ []) k) (sym (open_changes (wrote (length bytes)) m k opened_is))
      (grown p k (went (m.links k).phase) (act move) (on_itself k (act move))
      (wrote_suits (m.links k).phase (stage (moves k points)) (length bytes) opened_is (suited k))))
      (λ l apart. passes_went g l k bytes apart)

  entry_suits : (x : Entry) → MayCome g m x → AreSuited (entered g x m) (points ++ entry x ∷ [])
  entry_suits (e.Accepted k door) may = absurd may
  entry_suits (e.Dialled k to why) may =
      subst (λ (w : Why). AreSuited (entered g (e.Dialled k to w) m) (points ++ entry (e.Dialled k to w) ∷ [])) (sym may.3)
      (born_suits k to may.1)
  entry_suits (e.DialFailed to why) may = all_kept _ (λ l. quiet_passes g l (e.DialFailed to why) tt)
  entry_suits (e.Opened k) may = phase_changes (e.Opened k) k opened opened_suits (λ l. quiet_passes g l (e.Opened k) tt)
  entry_suits (e.Came k bytes) may =
      changed (entry (e.Came k bytes)) k (λ l. while_open (came bytes) (m.links l))
      (subst (SuitsOn (points ++ entry (e.Came k bytes) ∷ []) k) (sym (live_changes (came bytes) (m.links k) may.0.1))
      (grown (entry (e.Came k bytes)) k (m.links k).phase [] refl (suited k)))
      (λ l apart. passes_came g l k bytes apart)
  entry_suits (e.Ended k) may = phase_changes (e.Ended k) k ended ended_suits (λ l. quiet_passes g l (e.Ended k) tt)
  entry_suits (e.Broke k) may = phase_changes (e.Broke k) k broken broken_suits (λ l. quiet_passes g l (e.Broke k) tt)
  entry_suits (e.Went k bytes) (inl may, some, rest) = went_suits k bytes (inl may.1)
  entry_suits (e.Went k bytes) (inr may, some, rest) = went_suits k bytes (inr may)
  entry_suits (e.Balked way) may = all_kept _ (λ l. quiet_passes g l (e.Balked way) tt)
  entry_suits (e.Shut k) may = absurd may
  entry_suits (e.Closed k why) may =
      phase_changes (e.Closed k why) k (λ p. closed) suits_asks (λ l. quiet_passes g l (e.Closed k why) tt)
  entry_suits e.Tick may = all_kept _ (λ l. quiet_passes g l e.Tick tt)
  entry_suits (e.Wait ready way) may = all_kept _ (λ l. quiet_passes g l (e.Wait ready way) tt)

  linked : (p : Point) (k : ℕ) (n next : Machine) (new : Discovery) → n ≡ next
      → ((l : ℕ) → next.links l ≡ (if k == l then new else m.links l))
      → SuitsOn (points ++ p ∷ []) k new → ((l : ℕ) → (k == l) ≡ false → Passes g l p) → AreSuited n (points ++ p ∷ [])
  linked p k n next new is links here passes l =
      subst (SuitsOn (points ++ p ∷ []) l) (sym (ap (λ (x : Machine). x.links l) is ∙ links l)) (changed p k (λ j. new) here passes l)

  -- an act on the stream of a link that goes on
  act_suits : (p : Point) (k : ℕ) (move : history.Move) → (m.links k).phase ≡ live → moves_in k p ≡ act move
      → stage_after own.asks (history.point move found.Silent) ≡ own.asks → Suits (m.links k).phase (stage (moves k (points ++ p ∷ [])))
  act_suits p k move alive is goes =
      subst (λ (q : Phase). Suits q (stage (moves k (points ++ p ∷ [])))) (sym alive)
      (grown p k live (act move) is
      (ap (λ (s : Stage). stage_after s (history.point move found.Silent))
      (subst (λ (q : Phase). Suits q (stage (moves k points))) alive (suited k))
      ∙ goes))

  point_suits : (p : Point) (n : Machine) → Steps g m p n → AreSuited n (points ++ p ∷ [])
  point_suits (entry x) n steps = subst (λ (y : Machine). AreSuited y (points ++ entry x ∷ [])) (sym steps.1) (entry_suits x steps.0)
  point_suits (looked k ps told headers) n steps =
      let p = looked k ps told headers in
      let x = m.links k in
      let look = steps.2 in
      let read = headers_read steps.1 in
      let phase : phase_by x.phase (end_by x.answered read told) ≡ phase_by live (end_by x.answered read told) =
      ap (λ (q : Phase). phase_by q (end_by x.answered read told)) steps.0 in
      let asking : stage (moves k points) ≡ own.asks = subst (λ (q : Phase). Suits q (stage (moves k points))) steps.0 (suited k) in
      linked p k n _ (on_found told steps.1 x) steps.4 (λ l. refl)
      (grown p k (phase_by x.phase (end_by x.answered read told)) ps (on_itself k ps)
      (subst (Suits (phase_by x.phase (end_by x.answered read told)))
      (sym (ap (λ (s : Stage). fold stage_after s ps) asking ∙ looks_stage ps look.found.looks))
      (subst (λ (q : Phase). Suits q (told_stage (last_told ps))) (sym phase)
      (looked_by x.answered read told x.conn.ended steps.1.ended (last_told ps)
      (ap (λ (ts : List Found). ends_in x.conn.ended ++ ts) (sym (looks_tell ps look.found.looks)) ∙ look.found.tells)))))
      (λ l apart. passes_looked g l k ps told headers apart)
  point_suits (applied k r) n steps =
      linked (applied k r) k n _ _ steps.3 (λ l. refl) (grown (applied k r) k (m.links k).phase [] refl (suited k))
      (λ l apart. passes_applied g l k r apart)
  point_suits (refused k) n steps =
      linked (refused k) k n _ (ends_for cause.Discovery (m.links k)) steps.2 (λ l. refl)
      (grown (refused k) k (ending cause.Discovery) [] refl (suits_asks (m.links k).phase (stage (moves k points)) (suited k)))
      (λ l apart. record { moves = refl; came = refl; went = refl; tells = refl; response = refl; request = λ h. refl })
  point_suits (used k n) next steps =
      let move = history.credited stream n in
      linked (used k n) k next _ _ steps.2 (λ l. refl) (act_suits (used k n) k move steps.0 (on_itself k (act move)) refl)
      (λ l apart. passes_used g l k n apart)
  point_suits (put k bytes) n steps =
      let move = history.put stream bytes in
      linked (put k bytes) k n _ (put_requests (m.links k)) steps.3 (λ l. refl)
      (act_suits (put k bytes) k move steps.0 (on_itself k (act move)) refl)
      (λ l apart. passes_put g l k bytes apart)
  point_suits (stopped why) n steps =
      subst (λ (y : Machine). AreSuited y (points ++ stopped why ∷ [])) (sym steps.1)
      (λ l. grown (stopped why) l (stopped_for why (m.links l).phase) [] refl
      (stopped_suits why (m.links l).phase (stage (moves l points)) (suited l)))

pub all_suited : (g : NodeConfig) (m : Machine) (points : List Point) → StandsFor g m points → AreSuited m points
all_suited g m points (begins is none) = λ l.
    subst (λ ps. SuitsOn ps l (m.links l)) (sym none)
    (subst (λ (x : Machine). SuitsOn [] l (x.links l)) (sym is) refl)
all_suited g n more (goes_on {m = m} {points = points} before p steps grows) =
    subst (AreSuited n) (sym grows)
    (point_suits g m points (are_unborn g m points before) (all_suited g m points before) p n steps)

pub send_own_frames : RunsSendOwnFrames
send_own_frames g m points stands l control =
    let c = (m.links l).conn in
    let one = (all_one g m points stands l).stands in
    let asks = suits_asks (m.links l).phase (stage (moves l points)) (all_suited g m points stands l) in
    record {
      begun = one.begun;
      owed = (outgoing c).rest;
      went = one.shows;
      own = own_frames (moves l points) _ _ _ c one asks;
    }
