-- What is handed out of a client's stream is a front of the DATA that came on it, and all of it while the stream goes on.
use Rattle.std.proofs.Common.{◌≡◌, ◌≢◌, ⊎_elim, ℕ, ◌==◌, ◌&&◌, ◌||◌, Bool, true, false, cond, fold, List, [], ◌∷◌, ◌++◌, Some, None, refl, ap, ap₂, sym, ◌∙◌, subst}
use Rattle.std.specs.FinMap.{get}
use Rattle.std.specs.List.{flat_map, list_any}
use Rattle.std.proofs.lemmas.Bool.{false≢true, and_parts, cases_eq, eqb-true, eq-eqb}
use Rattle.std.proofs.lemmas.List.{append_assoc}
use Rattle.std.proofs.lemmas.List.Concat.{flat_map-append}
use Rattle.std.proofs.lemmas.List.Folds.{list_any-append}
use Rattle.std.proofs.lemmas.List.Sums.{fold-append}
use Rattle.hb_conn.specs.Connection.{Connection}
use Rattle.hb_conn.specs.Glance.{glance_at}
use Rattle.hb_conn.specs.declared.found.Found.{Found}
use Rattle.hb_conn.specs.declared.found.Found.TheVariants as found
use Rattle.hb_conn.specs.declared.machine.Core.{Core}
use Rattle.hb_frames.specs.Bodies.{lent_of}
use Rattle.hb_frames.specs.Numbers.{data_kind}
use Rattle.hb_frames.specs.RawFrame.{RawFrame}
use Rattle.hb_history.proofs.Alone.{IsAlone, IsPeerOpen}
use Rattle.hb_history.proofs.Lives.{lives_new}
use Rattle.hb_history.proofs.Runs.{begins_split}
use Rattle.hb_history.proofs.Stages.{At, all_at}
use Rattle.hb_history.specs.History.{fresh, StandsFor, told_of, happenings}
use Rattle.hb_history.specs.OwnCredits.{kept, is_left}
use Rattle.hb_history.specs.OwnFrames.{first_stream, Stage, Asks, begins, asks, faulted, cut, strays, stage_after, stage}
use Rattle.hb_history.specs.Points.{Move, got, wrote, Point, point, After, RunsWith, got_by, frames_got, data_of, data_in}
use Rattle.hb_inbound.specs.Sides.{data_by, data_told}
use Rattle.hb_streams.specs.Sides.{sides_of}
use Rattle.hb_streams.specs.declared.role.Role.TheVariants.{Client}
use Rattle.hb_streams.specs.declared.state.State.{State}
use Rattle.hb_headline.specs.Relay as relay
use Rattle.hb_headline.specs.Relay.{IsFront, data_on}
use Rattle.hb_headline.proofs.Chunks.{chunk_of_frame}
use Rattle.hb_headline.proofs.Shut.{Ends, ends_by, chunk_goes, goes_open, data_is, front_told}

-- a stage at which the stream goes on isn't come back to
abbrev goes : Stage → Bool
goes begins = true
goes asks = true
goes _ = false

moved_over : (m : Move) (t : Found) → goes (stage_after faulted (point m t)) ≡ false
moved_over (wrote n) t = refl
moved_over _ t = refl

over_next : (s : Stage) (p : Point) → goes s ≡ false → goes (stage_after s p) ≡ false
over_next begins p is = absurd (false≢true (sym is))
over_next asks p is = absurd (false≢true (sym is))
over_next faulted p is = moved_over p.move p.told
over_next cut p is = refl
over_next strays p is = refl

over_all : (ps : List Point) (s : Stage) → goes s ≡ false → goes (fold stage_after s ps) ≡ false
over_all [] s is = is
over_all (p ∷ ps) s is = over_all ps (stage_after s p) (over_next s p is)

never_back : (ps : List Point) (s : Stage) → goes s ≡ false → fold stage_after s ps ≡ asks → ⊥
never_back ps s is back = false≢true (sym (over_all ps s is) ∙ ap goes back)

was_asking : (s : Stage) (f : RawFrame) (t : Found) (after : List Point) → fold stage_after s (point (got f) t ∷ after) ≡ asks → s ≡ asks
was_asking begins f t after is = absurd (never_back after strays refl is)
was_asking asks f t after is = refl
was_asking faulted f t after is = absurd (never_back after strays refl is)
was_asking cut f t after is = absurd (never_back after strays refl is)
was_asking strays f t after is = absurd (never_back after strays refl is)

first_none : (a b : Bool) → (a || b) ≡ false → a ≡ false
first_none true b is = is
first_none false b is = refl

-- DATA is told of the one stream alone
one_stream : (core new : Core) (f : RawFrame) (k : ℕ) (end : Bool) → IsAlone core.streams → After core (got f) new (found.Chunk k end)
    → k ≡ first_stream
one_stream core new f k end alone looked =
    let side = goes_open k core.streams (get core.streams.active k) (chunk_goes k core (glance_at f) (lent_of f) new end looked.1) in
    ⊎_elim (λ (is : k ≡ first_stream). is)
    (λ (apart : k ≢ first_stream). absurd (let no : None ≡ Some side.0 = sym (alone.2 k apart) ∙ side.1 in cc))
    (cases_eq k first_stream)

-- WHATEVER ENDED IT, what is handed out is a front of the DATA that came

strays_all : (ps : List Point) → fold stage_after strays ps ≡ strays
strays_all [] = refl
strays_all (p ∷ ps) = strays_all ps

looked_asking : (s : Stage) (f : RawFrame) (t : Found) (after : List Point) → Asks (fold stage_after s (point (got f) t ∷ after))
    → s ≡ asks
looked_asking begins f t after is = absurd (subst Asks (strays_all after) is)
looked_asking asks f t after is = refl
looked_asking faulted f t after is = absurd (subst Asks (strays_all after) is)
looked_asking cut f t after is = absurd (subst Asks (strays_all after) is)
looked_asking strays f t after is = absurd (subst Asks (strays_all after) is)

module _ (points : List Point) (given : List Found) (came written : List ℕ) (c : Connection)
    (stands : StandsFor Client points given came written c) (asking : Asks (stage points))
  where
    on_one : (before after : List Point) (f : RawFrame) (k : ℕ) (end : Bool) → points ≡ before ++ point (got f) (found.Chunk k end) ∷ after
        → k ≡ first_stream
    on_one before after f k end are =
        let p = point (got f) (found.Chunk k end) in
        let was : stage before ≡ asks = looked_asking (stage before) f (found.Chunk k end) after
        (subst Asks (ap stage are ∙ fold-append stage_after begins before (p ∷ after)) asking) in
        let s = begins_split before (p ∷ after) (fresh Client).receiver.core c.receiver.core stands.begun
        (subst (λ (ps : List Point). RunsWith (fresh Client).receiver.core ps stands.begun c.receiver.core) are stands.begins) in
        let at = subst (λ (st : Stage). At (happenings before) (frames_got before) (kept before) st s.front s.mid) was
        (all_at before s.front s.mid s.leads) in
        one_stream s.mid s.goes_on.0 f k end at.0 s.goes_on.1

    all_by : (before after : List Point) → points ≡ before ++ after → flat_map (data_by first_stream) after ≡ flat_map data_in after
    all_by before [] are = refl
    all_by before (p ∷ ps) are =
        by p.move p.told are (all_by (before ++ p ∷ []) ps (are ∙ sym (append_assoc before (p ∷ []) ps)))
      where
        by : (m : Move) (t : Found) → points ≡ before ++ point m t ∷ ps → flat_map (data_by first_stream) ps ≡ flat_map data_in ps
            → data_told first_stream m t ++ flat_map (data_by first_stream) ps ≡ data_of m t ++ flat_map data_in ps
        by (got f) (found.Chunk k end) are more =
            ap₂ (λ (xs ys : List ℕ). xs ++ ys)
            (ap (λ (b : Bool). cond b (lent_of f) []) (eq-eqb k first_stream (on_one before ps f k end are))) more
        by (got f) _ are more = more
        by _ t are more = more

    pub front_handed : IsFront (flat_map data_in points) (data_on first_stream (frames_got points))
    front_handed =
        subst (λ (bs : List ℕ). IsFront bs (data_on first_stream (frames_got points))) (all_by [] points refl)
        (front_told first_stream Client (fresh Client).receiver.core points c.receiver.core (lives_new Client) stands.runs)

-- WHILE IT GOES ON, it is all of it

module _ (points : List Point) (given : List Found) (came written : List ℕ) (c : Connection)
    (stands : StandsFor Client points given came written c) (asking : stage points ≡ asks)
    (unended : list_any is_left (happenings points) ≡ false)
  where
    -- at a frame the stream goes on
    record AtFrame (f : RawFrame) (t : Found) (after : List Point) : Type 0 where
      core : Core
      new : Core
      alone : IsAlone core.streams
      peer : IsPeerOpen core.streams
      looked : After core (got f) new t
      goes_on : fold stage_after asks (point (got f) t ∷ after) ≡ asks

    at_frame : (before after : List Point) (f : RawFrame) (t : Found) → points ≡ before ++ point (got f) t ∷ after → AtFrame f t after
    at_frame before after f t are =
        let p = point (got f) t in
        let back : fold stage_after (stage before) (p ∷ after) ≡ asks =
        sym (fold-append stage_after begins before (p ∷ after)) ∙ ap stage (sym are) ∙ asking in
        let was : stage before ≡ asks = was_asking (stage before) f t after back in
        let none : list_any is_left (happenings before) ≡ false =
        first_none (list_any is_left (happenings before)) (list_any is_left (happenings (p ∷ after)))
        (sym (ap (λ (ps : List Point). list_any is_left (happenings ps)) are
        ∙ ap (list_any is_left) (flat_map-append told_of before (p ∷ after))
        ∙ list_any-append is_left (happenings before) (happenings (p ∷ after))) ∙ unended) in
        let s = begins_split before (p ∷ after) (fresh Client).receiver.core c.receiver.core stands.begun
        (subst (λ (ps : List Point). RunsWith (fresh Client).receiver.core ps stands.begun c.receiver.core) are stands.begins) in
        let at = subst (λ (st : Stage). At (happenings before) (frames_got before) (kept before) st s.front s.mid) was
        (all_at before s.front s.mid s.leads) in
        record {
          core = s.mid;
          new = s.goes_on.0;
          alone = at.0;
          peer = (at.3.1.soon none).0;
          looked = s.goes_on.1;
          goes_on = subst (λ (st : Stage). fold stage_after st (p ∷ after) ≡ asks) was back;
        }

    none_of : (f : RawFrame) (b : Bool) → (f.kind == data_kind && f.stream == first_stream) ≡ b → (b ≡ true → ⊥)
        → [] ≡ cond b (lent_of f) []
    none_of f true is not = absurd (not refl)
    none_of f false is not = refl

    chunk_so : (f : RawFrame) (k : ℕ) (end : Bool) (after : List Point) → AtFrame f (found.Chunk k end) after
        → lent_of f ≡ relay.data_in first_stream f
    chunk_so f k end after at =
        let of = chunk_of_frame at.core f (lent_of f) at.new k end at.looked.1 in
        sym (data_is first_stream f of.0 (of.1 ∙ one_stream at.core at.new f k end at.alone at.looked))

    -- no other thing is told of DATA of the stream
    never : (t : Found) (f : RawFrame) (after : List Point) → (at : AtFrame f t after) → Ends first_stream at.core t at.new
        → ((k : ℕ) (end : Bool) → t ≡ found.Chunk k end → ⊥) → ⊥
    never (found.Chunk k end) f after at ends not = not k end refl
    never (found.Broken k code) f after at ends not = never_back after cut refl at.goes_on
    never found.Silent f after at ends not = false≢true (sym (ap (λ (st : State). (sides_of st).peer) ends) ∙ at.peer)
    never (found.Fault code) f after at ends not = never_back after faulted refl at.goes_on
    never (found.Opened k end) f after at ends not = ends
    never (found.Ended k) f after at ends not = ends
    never (found.Reset k code) f after at ends not = ends
    never (found.GoneAway last) f after at ends not = ends

    other_so : (t : Found) (f : RawFrame) (after : List Point) → AtFrame f t after → ((k : ℕ) (end : Bool) → t ≡ found.Chunk k end → ⊥)
        → [] ≡ relay.data_in first_stream f
    other_so t f after at not =
        none_of f (f.kind == data_kind && f.stream == first_stream) refl
        (λ both.
        let is = and_parts (f.kind == data_kind) (f.stream == first_stream) both in
        never t f after at
        (ends_by first_stream at.core f at.new t (eqb-true f.kind data_kind is.0) (eqb-true f.stream first_stream is.1) at.looked) not)

    handed : (before after : List Point) → points ≡ before ++ after → flat_map data_in after ≡ data_on first_stream (frames_got after)
    handed before [] are = refl
    handed before (p ∷ ps) are =
        by p.move p.told are (handed (before ++ p ∷ []) ps (are ∙ sym (append_assoc before (p ∷ []) ps)))
      where
        frame : (f : RawFrame) (t : Found) → data_of (got f) t ≡ relay.data_in first_stream f
            → flat_map data_in ps ≡ data_on first_stream (frames_got ps)
            → data_of (got f) t ++ flat_map data_in ps ≡ data_on first_stream (got_by (point (got f) t) ++ frames_got ps)
        frame f t is more = ap₂ (λ (xs ys : List ℕ). xs ++ ys) is more

        by : (m : Move) (t : Found) → points ≡ before ++ point m t ∷ ps → flat_map data_in ps ≡ data_on first_stream (frames_got ps)
            → data_of m t ++ flat_map data_in ps ≡ data_on first_stream (got_by (point m t) ++ frames_got ps)
        by (got f) (found.Chunk k end) are more =
            frame f (found.Chunk k end) (chunk_so f k end ps (at_frame before ps f (found.Chunk k end) are)) more
        by (got f) found.Silent are more =
            frame f found.Silent (other_so found.Silent f ps (at_frame before ps f found.Silent are) (λ k end is. cc)) more
        by (got f) (found.Opened k end) are more =
            let t = found.Opened k end in frame f t (other_so t f ps (at_frame before ps f t are) (λ k end is. cc)) more
        by (got f) (found.Ended k) are more =
            let t = found.Ended k in frame f t (other_so t f ps (at_frame before ps f t are) (λ k end is. cc)) more
        by (got f) (found.Reset k code) are more =
            let t = found.Reset k code in frame f t (other_so t f ps (at_frame before ps f t are) (λ k end is. cc)) more
        by (got f) (found.Broken k code) are more =
            let t = found.Broken k code in frame f t (other_so t f ps (at_frame before ps f t are) (λ k end is. cc)) more
        by (got f) (found.GoneAway last) are more =
            let t = found.GoneAway last in frame f t (other_so t f ps (at_frame before ps f t are) (λ k end is. cc)) more
        by (got f) (found.Fault code) are more =
            let t = found.Fault code in frame f t (other_so t f ps (at_frame before ps f t are) (λ k end is. cc)) more
        by _ t are more = more

    pub all_handed : flat_map data_in points ≡ data_on first_stream (frames_got points)
    all_handed = handed [] points refl
