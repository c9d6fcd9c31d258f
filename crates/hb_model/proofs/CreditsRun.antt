-- Of every run: while a link goes on its peer hasn't ended the stream, and what is kept of its DATA is what is in hand.
use Rattle.std.proofs.Common.{◌≡◌, ◌⊎◌, inl, inr, ℕ, ◌+◌, ◌<◌, ◌==◌, ◌||◌, Bool, true, false, if◌then◌else◌, fold, List, [], ◌∷◌, ◌++◌, length, drop, refl, ap, ap₂, sym, ◌∙◌, subst, arith, length-append}
use Rattle.std.specs.List.{flat_map, list_any}
use Rattle.std.proofs.lemmas.List.{append-nil}
use Rattle.std.proofs.lemmas.List.Folds.{list_any-append}
use Rattle.std.proofs.lemmas.List.Sums.{fold-append}
use Rattle.hb_base.specs.declared.cause.Cause.TheVariants as cause
use Rattle.hb_base.specs.declared.door.Why.{Why}
use Rattle.hb_base.specs.declared.door.Why.TheVariants as whys
use Rattle.hb_base.specs.declared.target.Target.{Target}
use Rattle.hb_grpc.specs.Message.{spelling}
use Rattle.hb_grpc.specs.Reading.{fed}
use Rattle.hb_hpack.specs.declared.header.Header.{Header}
use Rattle.hb_flow.specs.Flows.{creditable_by}
use Rattle.hb_conn.specs.Observed.{creditable}
use Rattle.hb_conn.specs.declared.found.Found.{Found}
use Rattle.hb_conn.specs.declared.found.Found.TheVariants as found
use Rattle.hb_history.specs.Points as history
use Rattle.hb_history.specs.Calls.{in_list, IsLook, AreLooks}
use Rattle.hb_history.specs.OwnCredits.{kept_by, kept_after, kept, is_left}
use Rattle.hb_history.specs.OwnFrames.{asks, stage}
use Rattle.hb_history.proofs.OwnCredits.{own_credits}
use Rattle.hb_world.specs.declared.entry.Entry.{Entry}
use Rattle.hb_world.specs.declared.entry.Entry.TheVariants as e
use Rattle.hb_model.specs.declared.config.NodeConfig.{NodeConfig}
use Rattle.hb_model.specs.Discovery.{Discovery, Phase, live, closed, opened, ended, broken, stopped_for, phase_by, end_by, headers_read, stream, headers_of, dialled, came, wrote, on_found, ends_for, put_requests, credited, answer_to}
use Rattle.hb_model.specs.Machine.{Machine, while_open, entered, with_phase}
use Rattle.hb_model.specs.Point.{Point, entry, looked, applied, refused, used, put, stopped, moves_in, moves, telling, tellings, act, data_of, data_in}
use Rattle.hb_model.specs.Runs.{MayCome, Steps, StandsFor, begins, goes_on, IsFaulted}
use Rattle.hb_model.proofs.ConnectionsRun.{AreAllOne, on_itself, quiet_passes, all_one}
use Rattle.hb_model.proofs.Grown.{one_more, of_all}
use Rattle.hb_model.proofs.Open.{live_changes, open_changes}
use Rattle.hb_model.proofs.OwnFrames.{AreSuited, Suits, all_suited}
use Rattle.hb_model.proofs.RequestsRun.{IsGoing}
use Rattle.hb_model.proofs.SendingRun.{opened_going, ended_going, broken_going, went_going, stopped_going}
use Rattle.hb_model.proofs.Unborn.{AreUnborn, are_unborn, Passes, passes_looked, passes_applied, passes_used, passes_put, passes_dial, passes_came, passes_went}

-- with a look what it hands out is kept
look_keeps : (k : ℕ) (m : history.Move) (told : Found) → IsLook m → kept_by k m told ≡ k + length (data_of m told)
look_keeps k (history.got f) (found.Chunk s end) look = refl
look_keeps k (history.got f) found.Silent look = omega arith
look_keeps k (history.got f) (found.Opened s end) look = omega arith
look_keeps k (history.got f) (found.Ended s) look = omega arith
look_keeps k (history.got f) (found.Reset s code) look = omega arith
look_keeps k (history.got f) (found.Broken s code) look = omega arith
look_keeps k (history.got f) (found.GoneAway last) look = omega arith
look_keeps k (history.got f) (found.Fault code) look = omega arith
look_keeps k (history.refused r kind flags) told look = omega arith
look_keeps k history.misbegan told look = omega arith
look_keeps k (history.opened s headers end) told look = absurd look
look_keeps k (history.answered s status) told look = absurd look
look_keeps k (history.ended s) told look = absurd look
look_keeps k (history.reset s code) told look = absurd look
look_keeps k (history.credited s n) told look = absurd look
look_keeps k (history.put s bytes) told look = absurd look
look_keeps k (history.wrote n) told look = absurd look

looks_keep : (k : ℕ) (ps : List history.Point) → AreLooks ps → fold kept_after k ps ≡ k + length (flat_map data_in ps)
looks_keep k [] looks = omega arith
looks_keep k (p ∷ []) looks =
    look_keeps k p.move p.told looks ∙ ap (λ (xs : List ℕ). k + length xs) (sym (append-nil (data_in p)))
looks_keep k (p ∷ q ∷ ps) looks =
    omega (
      arith,
      look_keeps k p.move p.told looks.0,
      looks_keep (kept_after k p) (q ∷ ps) looks.2,
      length-append (data_in p) (flat_map data_in (q ∷ ps)),
    )

-- a link ends with what says that the peer ended its stream
goes_unended : (answered : Bool) (headers : List Header) (told : Found) → IsGoing (phase_by live (end_by answered headers told))
    → list_any is_left (in_list told) ≡ false
goes_unended answered headers (found.Opened s true) going = absurd going
goes_unended answered headers (found.Opened s false) going = refl
goes_unended answered headers (found.Ended s) going = absurd going
goes_unended answered headers found.Silent going = refl
goes_unended answered headers (found.Chunk s end) going = refl
goes_unended answered headers (found.Reset s code) going = refl
goes_unended answered headers (found.Broken s code) going = refl
goes_unended answered headers (found.GoneAway last) going = refl
goes_unended answered headers (found.Fault code) going = refl

-- while a link goes on
abbrev Keeps : ℕ → ℕ → List Found → Type 0
Keeps kept counted tells = (list_any is_left tells ≡ false) × (kept ≡ counted)

abbrev pub KeepsOn : List Point → ℕ → Discovery → Type 0
KeepsOn points l x = IsGoing x.phase → Keeps (kept (moves l points)) x.counted (tellings l points)

abbrev pub AreKept : Machine → List Point → Type 0
AreKept m points = (l : ℕ) → KeepsOn points l (m.links l)

module _ (g : NodeConfig) (m : Machine) (points : List Point) (unborn : AreUnborn g m points) (one : AreAllOne m points)
    (suited : AreSuited m points) (keeps : AreKept m points) where
  -- with a point by which these moves are made and this is told
  grown : (p : Point) (l : ℕ) (x : Discovery) (ps : List history.Point) (ts : List Found) → moves_in l p ≡ ps → telling l p ≡ ts
      → (IsGoing x.phase → Keeps (fold kept_after (kept (moves l points)) ps) x.counted (tellings l points ++ ts))
      → KeepsOn (points ++ p ∷ []) l x
  grown p l x ps ts are told now = λ going.
      let all : kept (moves l (points ++ p ∷ [])) ≡ fold kept_after (kept (moves l points)) ps =
      ap kept (one_more (moves_in l) points p) ∙ fold-append kept_after 0 (moves l points) (moves_in l p)
      ∙ ap (fold kept_after (kept (moves l points))) are in
      let tells : tellings l (points ++ p ∷ []) ≡ tellings l points ++ ts =
      one_more (telling l) points p ∙ ap (λ (us : List Found). tellings l points ++ us) told in
      (ap (list_any is_left) tells ∙ (now going).0, all ∙ (now going).1)

  -- by which nothing happens on the link
  same : (p : Point) (l : ℕ) (x : Discovery) → moves_in l p ≡ [] → telling l p ≡ [] → (IsGoing x.phase → IsGoing (m.links l).phase)
      → x.counted ≡ (m.links l).counted → KeepsOn (points ++ p ∷ []) l x
  same p l x none silent was counted =
      grown p l x [] [] none silent (λ going.
      let old = keeps l (was going) in
      (ap (list_any is_left) (append-nil (tellings l points)) ∙ old.0, old.1 ∙ sym counted))

  elsewhere : (p : Point) (l : ℕ) → Passes g l p → KeepsOn (points ++ p ∷ []) l (m.links l)
  elsewhere p l passes = same p l (m.links l) passes.moves passes.tells (λ going. going) refl

  changed : (p : Point) (k : ℕ) (new : ℕ → Discovery) → KeepsOn (points ++ p ∷ []) k (new k)
      → ((l : ℕ) → (k == l) ≡ false → Passes g l p) → (l : ℕ) → KeepsOn (points ++ p ∷ []) l (if k == l then new l else m.links l)
  changed p k new here passes =
      of_all (KeepsOn (points ++ p ∷ [])) k new m.links here (λ l apart. elsewhere p l (passes l apart))

  phase_changes : (x : Entry) (k : ℕ) (change : Phase → Phase) → ((p : Phase) → IsGoing (change p) → IsGoing p)
      → ((l : ℕ) → Passes g l (entry x)) → (l : ℕ)
      → KeepsOn (points ++ entry x ∷ []) l (if k == l then with_phase change (m.links l) else m.links l)
  phase_changes x k change was passes =
      changed (entry x) k (λ l. with_phase change (m.links l))
      (same (entry x) k (with_phase change (m.links k)) (passes k).moves (passes k).tells (was (m.links k).phase) refl)
      (λ l apart. passes l)

  all_kept : (x : Entry) → ((l : ℕ) → Passes g l (entry x)) → AreKept m (points ++ entry x ∷ [])
  all_kept x passes l = elsewhere (entry x) l (passes l)

  -- an act on the link that leaves what is in hand
  act_keeps : (p : Point) (k : ℕ) (x : Discovery) (move : history.Move) → moves_in k p ≡ act move → telling k p ≡ []
      → kept_by (kept (moves k points)) move found.Silent ≡ kept (moves k points) → (IsGoing x.phase → IsGoing (m.links k).phase)
      → x.counted ≡ (m.links k).counted → KeepsOn (points ++ p ∷ []) k x
  act_keeps p k x move are silent stays was counted =
      grown p k x (act move) [] are silent (λ going.
      let old = keeps k (was going) in
      (ap (list_any is_left) (append-nil (tellings k points)) ∙ old.0, stays ∙ old.1 ∙ sym counted))

  born_keeps : (k : ℕ) (to : Target) → m.born < k
      → AreKept (entered g (e.Dialled k to whys.Discovery) m) (points ++ entry (e.Dialled k to whys.Discovery) ∷ [])
  born_keeps k to above =
      let p = entry (e.Dialled k to whys.Discovery) in
      let none = (unborn k above).none in
      let move = history.opened stream (headers_of to) false in
      changed p k (λ l. dialled g.id to m.held)
      (grown p k (dialled g.id to m.held) (act move) [] (on_itself k (act move)) refl (λ going.
      (ap (λ (ts : List Found). list_any is_left (ts ++ [])) none.tells, ap kept none.moves)))
      (λ l apart. passes_dial g l k to whys.Discovery apart)

  went_keeps : (k : ℕ) (bytes : List ℕ) → ((m.links k).phase ≡ live) ⊎ IsFaulted m k
      → AreKept (entered g (e.Went k bytes) m) (points ++ entry (e.Went k bytes) ∷ [])
  went_keeps k bytes is =
      let p = entry (e.Went k bytes) in
      let move = history.wrote (length bytes) in
      changed p k (λ l. while_open (wrote (length bytes)) (m.links l))
      (subst (KeepsOn (points ++ p ∷ []) k) (sym (open_changes (wrote (length bytes)) m k is))
      (act_keeps p k (wrote (length bytes) (m.links k)) move (on_itself k (act move)) refl refl (went_going (m.links k).phase) refl))
      (λ l apart. passes_went g l k bytes apart)

  entry_keeps : (x : Entry) → MayCome g m x → AreKept (entered g x m) (points ++ entry x ∷ [])
  entry_keeps (e.Accepted k door) may = absurd may
  entry_keeps (e.Dialled k to why) may =
      subst (λ (w : Why). AreKept (entered g (e.Dialled k to w) m) (points ++ entry (e.Dialled k to w) ∷ [])) (sym may.3)
      (born_keeps k to may.1)
  entry_keeps (e.DialFailed to why) may = all_kept _ (λ l. quiet_passes g l (e.DialFailed to why) tt)
  entry_keeps (e.Opened k) may = phase_changes (e.Opened k) k opened opened_going (λ l. quiet_passes g l (e.Opened k) tt)
  entry_keeps (e.Came k bytes) may =
      changed (entry (e.Came k bytes)) k (λ l. while_open (came bytes) (m.links l))
      (subst (KeepsOn (points ++ entry (e.Came k bytes) ∷ []) k) (sym (live_changes (came bytes) (m.links k) may.0.1))
      (same (entry (e.Came k bytes)) k (came bytes (m.links k)) refl refl (λ going. going) refl))
      (λ l apart. passes_came g l k bytes apart)
  entry_keeps (e.Ended k) may = phase_changes (e.Ended k) k ended ended_going (λ l. quiet_passes g l (e.Ended k) tt)
  entry_keeps (e.Broke k) may = phase_changes (e.Broke k) k broken broken_going (λ l. quiet_passes g l (e.Broke k) tt)
  entry_keeps (e.Went k bytes) (inl may, some, rest) = went_keeps k bytes (inl may.1)
  entry_keeps (e.Went k bytes) (inr may, some, rest) = went_keeps k bytes (inr may)
  entry_keeps (e.Balked way) may = all_kept _ (λ l. quiet_passes g l (e.Balked way) tt)
  entry_keeps (e.Shut k) may = absurd may
  entry_keeps (e.Closed k why) may =
      phase_changes (e.Closed k why) k (λ p. closed) (λ p going. absurd going) (λ l. quiet_passes g l (e.Closed k why) tt)
  entry_keeps e.Tick may = all_kept _ (λ l. quiet_passes g l e.Tick tt)
  entry_keeps (e.Wait ready way) may = all_kept _ (λ l. quiet_passes g l (e.Wait ready way) tt)

  linked : (p : Point) (k : ℕ) (n next : Machine) (new : Discovery) → n ≡ next
      → ((l : ℕ) → next.links l ≡ (if k == l then new else m.links l))
      → KeepsOn (points ++ p ∷ []) k new → ((l : ℕ) → (k == l) ≡ false → Passes g l p) → AreKept n (points ++ p ∷ [])
  linked p k n next new is links here passes l =
      subst (KeepsOn (points ++ p ∷ []) l) (sym (ap (λ (x : Machine). x.links l) is ∙ links l)) (changed p k (λ j. new) here passes l)

  -- what may be used up is what is kept
  creditable_is : (k : ℕ) → (m.links k).phase ≡ live
      → creditable (m.links k).conn stream ≡ kept (moves k points)
  creditable_is k alive =
      let x = m.links k in
      let asking : stage (moves k points) ≡ asks = subst (λ (q : Phase). Suits q (stage (moves k points))) alive (suited k) in
      let again = own_credits (moves k points) _ _ _ x.conn (one k).stands asking in
      ap creditable_by again.has ∙ again.kept_is

  point_keeps : (p : Point) (n : Machine) → Steps g m p n → AreKept n (points ++ p ∷ [])
  point_keeps (entry x) n steps = subst (λ (y : Machine). AreKept y (points ++ entry x ∷ [])) (sym steps.1) (entry_keeps x steps.0)
  point_keeps (looked k ps told headers) n steps =
      let p = looked k ps told headers in
      let x = m.links k in
      let look = steps.2 in
      let read = headers_read steps.1 in
      linked p k n _ (on_found told steps.1 x) steps.4 (λ l. refl)
      (grown p k (on_found told steps.1 x) ps (in_list told) (on_itself k ps) (on_itself k (in_list told)) (λ going.
      let old = keeps k (subst IsGoing (sym steps.0) tt) in
      let goes : IsGoing (phase_by live (end_by x.answered read told)) =
      subst (λ (q : Phase). IsGoing (phase_by q (end_by x.answered read told))) steps.0 going in (
        list_any-append is_left (tellings k points) (in_list told)
            ∙ ap₂ (λ a b. a || b) old.0 (goes_unended x.answered read told goes),
        omega (
          arith,
          looks_keep (kept (moves k points)) ps look.found.looks,
          ap (λ (xs : List ℕ). length xs) look.found.hands_out,
          old.1,
          look.empty_handed.1,
        ),
      )))
      (λ l apart. passes_looked g l k ps told headers apart)
  point_keeps (applied k r) n steps =
      let x = m.links k in
      let new = record x {
        chunk = drop steps.1 x.chunk;
        framing = fed x.framing x.chunk;
        waiting = x.waiting ++ spelling (answer_to m.held r);
      } in
      linked (applied k r) k n _ new steps.3 (λ l. refl) (same (applied k r) k new refl refl (λ going. going) refl)
      (λ l apart. passes_applied g l k r apart)
  point_keeps (refused k) n steps =
      linked (refused k) k n _ (ends_for cause.Discovery (m.links k)) steps.2 (λ l. refl)
      (same (refused k) k (ends_for cause.Discovery (m.links k)) refl refl (λ going. absurd going) refl)
      (λ l apart. record { moves = refl; came = refl; went = refl; tells = refl; response = refl; request = λ h. refl })
  point_keeps (used k i) n steps =
      let p = used k i in
      let move = history.credited stream i in
      let x = m.links k in
      let new = credited i (record x { chunk = []; framing = fed x.framing x.chunk }) in
      linked p k n _ new steps.2 (λ l. refl)
      (grown p k new (act move) [] (on_itself k (act move)) refl (λ going.
      let old = keeps k (subst IsGoing (sym steps.0) tt) in (
        ap (list_any is_left) (append-nil (tellings k points)) ∙ old.0,
        omega (arith, steps.1.counted, creditable_is k steps.0, old.1),
      )))
      (λ l apart. passes_used g l k i apart)
  point_keeps (put k bytes) n steps =
      let move = history.put stream bytes in
      linked (put k bytes) k n _ (put_requests (m.links k)) steps.3 (λ l. refl)
      (act_keeps (put k bytes) k (put_requests (m.links k)) move (on_itself k (act move)) refl refl (λ going. going) refl)
      (λ l apart. passes_put g l k bytes apart)
  point_keeps (stopped why) n steps =
      subst (λ (y : Machine). AreKept y (points ++ stopped why ∷ [])) (sym steps.1)
      (λ l. same (stopped why) l (with_phase (stopped_for why) (m.links l)) refl refl (stopped_going why (m.links l).phase) refl)

pub all_keep : (g : NodeConfig) (m : Machine) (points : List Point) → StandsFor g m points → AreKept m points
all_keep g m points (begins is none) = λ l.
    subst (λ ps. KeepsOn ps l (m.links l)) (sym none)
    (subst (λ (x : Machine). KeepsOn [] l (x.links l)) (sym is) (λ going. absurd going))
all_keep g n more (goes_on {m = m} {points = points} before p steps grows) =
    subst (AreKept n) (sym grows)
    (point_keeps g m points (are_unborn g m points before) (all_one g m points before) (all_suited g m points before)
    (all_keep g m points before) p n steps)
