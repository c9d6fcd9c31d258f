-- What a connection finds next is a look at its frames.
use Rattle.std.proofs.Common.{◌≡◌, ℕ, Bool, true, false, List, [], ◌∷◌, ◌++◌, Option, Some, None, refl, ap, ap₂, sym, ◌∙◌, subst, if◌then◌else◌}
use Rattle.std.proofs.lemmas.List.{append-nil}
use Rattle.std.specs.List.{flat_map}
use Rattle.std.proofs.lemmas.Grind.{flat_map-append}
use Rattle.hb_frames.specs.RawFrame.{RawFrame}
use Rattle.hb_frames.specs.Frames.{Joins, AreOctets}
use Rattle.hb_conn.specs.Preface.{is_whole}
use Rattle.hb_conn.specs.Receiving.{pauses, Steps, Ends, waits, lacks, tells}
use Rattle.hb_conn.specs.Connection.{Connection, ended_by, Finds, FindsWhile, FindsOf, FindsAfter, FindsBy}
use Rattle.hb_conn.specs.Faults.{faulted}
use Rattle.hb_conn.specs.Observed.{octets_held, chunk_of}
use Rattle.hb_conn.specs.Outcome.{is_silent}
use Rattle.hb_conn.specs.declared.receiver.Receiver.{Receiver}
use Rattle.hb_conn.specs.declared.found.Found.{Found}
use Rattle.hb_conn.specs.declared.found.Found.TheVariants as found
use Rattle.hb_conn.specs.declared.found.Found.TheVariants.{Silent}
use Rattle.hb_history.specs.Points.{misbegan, Point, point, After, Runs, got_by, frames_got, data_of, data_in}
use Rattle.hb_history.specs.History.{Leads, ends_in, told_of, happenings}
use Rattle.hb_history.specs.Calls.{in_list, AreLooks}
use Rattle.hb_history.proofs.Runs.{runs_more, runs_one}
use Rattle.hb_history.proofs.Looks.{Holds, held_on, held_same, look_of, asked_in_vain, Trail, trail_of, trail_same}
use Rattle.hb_history.proofs.Handed.{passed_adds, look_hands_out}

-- what is told of a point
told_by : (f : Found) → (if is_silent f then [] else f ∷ ends_in (ended_by f)) ≡ in_list f ++ ends_in (ended_by f)
told_by Silent = refl
told_by f = refl

told_one : (p : Point) → happenings (p ∷ []) ≡ in_list p.told ++ ends_in (ended_by p.told)
told_one p = append-nil (told_of p) ∙ told_by p.told

-- the looks that lead from one connection to another one, behind which octets are held
pub record Looked (c : Connection) (told : Found) (d : Connection) : Type 0 where
  pub points : List Point
  pub looks : AreLooks points
  pub leads : Leads c points d
  pub frames : Joins (frames_got points) (octets_held d) (octets_held c)
  pub tells : ends_in c.ended ++ happenings points ≡ in_list told ++ ends_in d.ended
  pub hands_out : flat_map data_in points ≡ chunk_of d told
  pub octets : AreOctets (octets_held d)

module _ (c : Connection) (octets : AreOctets (octets_held c)) (d : Connection) (told : Found) where
  looked : (more : List Point) → AreLooks more → Runs c.receiver.core more d.receiver.core
      → Holds c.receiver.reader d.receiver.reader (frames_got more)
      → ends_in c.ended ++ happenings more ≡ in_list told ++ ends_in d.ended
      → flat_map data_in more ≡ chunk_of d told → Looked c told d
  looked more looks runs holds telling handed = record {
    points = more;
    looks = looks;
    leads = runs;
    frames = holds.joins octets [] c.receiver.reader.held refl;
    tells = telling;
    hands_out = handed;
    octets = holds.octets octets;
  }

  nothing_new : d ≡ c → told ≡ Silent → Looked c told d
  nothing_new is none =
      looked [] tt (ap (λ (k : Connection). k.receiver.core) is)
      (held_same c.receiver.reader d.receiver.reader (ap (λ (k : Connection). k.receiver.reader.held) is))
      (append-nil (ends_in c.ended)
      ∙ ap₂ (λ (f : Found) (e : Option ℕ). in_list f ++ ends_in e) (sym none) (ap (λ (k : Connection). k.ended) (sym is)))
      (ap (chunk_of d) (sym none))

  end_told : (s : ℕ) → c.ended ≡ Some s → d ≡ record c { ended = None } → told ≡ found.Ended s → Looked c told d
  end_told s ends is telling =
      looked [] tt (ap (λ (k : Connection). k.receiver.core) is)
      (held_same c.receiver.reader d.receiver.reader (ap (λ (k : Connection). k.receiver.reader.held) is))
      (ap (λ e. ends_in e ++ []) ends
      ∙ ap₂ (λ (f : Found) (e : Option ℕ). in_list f ++ ends_in e) (sym telling) (ap (λ (k : Connection). k.ended) (sym is)))
      (ap (chunk_of d) (sym telling))

  begins_badly : c.ended ≡ None → pauses c.receiver.core ≡ false → FindsBy false c d told → Looked c told d
  unfolding faulted
  begins_badly none goes is =
      let p = point misbegan told in
      let handled : After c.receiver.core misbegan d.receiver.core told = (goes, is.0) in
      let ends : ended_by told ≡ d.ended = ap ended_by is.0.1 ∙ sym none ∙ ap (λ (k : Connection). k.ended) (sym is.1) in
      looked (p ∷ []) tt (runs_one p c.receiver.core d.receiver.core handled)
      (held_same c.receiver.reader d.receiver.reader (ap (λ (k : Connection). k.receiver.reader.held) is.1))
      (ap (λ e. ends_in e ++ happenings (p ∷ [])) none ∙ told_one p ∙ ap (λ e. in_list told ++ ends_in e) ends)
      (ap (chunk_of d) (sym is.0.1))

  passed_all : c.ended ≡ None → Trail c.receiver d.receiver → told ≡ Silent → d.ended ≡ ended_by told → Looked c told d
  passed_all none trail silent ends =
      let passed = passed_adds trail.points [] trail.passed in
      let same = append-nil trail.points in
      looked trail.points (subst AreLooks same (passed.looks tt)) trail.leads trail.holds
      (ap (λ e. ends_in e ++ happenings trail.points) none ∙ ap happenings (sym same) ∙ passed.tells
      ∙ ap₂ (λ (f : Found) (e : Option ℕ). in_list f ++ ends_in e) (sym silent) (ap ended_by (sym silent) ∙ sym ends))
      (ap (flat_map data_in) (sym same) ∙ passed.hands_out ∙ ap (chunk_of d) (sym silent))

  told_last : c.ended ≡ None → (last : Receiver) → Trail c.receiver last → Steps last d.receiver told → d.ended ≡ ended_by told
      → Looked c told d
  told_last none last trail steps ends =
      let look = look_of last d.receiver told steps in
      let p = point look.move told in
      let ps = trail.points in
      let passed = passed_adds ps (p ∷ []) trail.passed in
      let frames : frames_got ps ++ got_by p ≡ frames_got (ps ++ p ∷ []) =
      ap (λ (fs : List RawFrame). frames_got ps ++ fs) (sym (append-nil (got_by p))) ∙ sym (flat_map-append got_by ps (p ∷ [])) in
      looked (ps ++ p ∷ []) (passed.looks look.is)
      (runs_more ps (p ∷ []) c.receiver.core last.core d.receiver.core trail.leads (runs_one p last.core d.receiver.core look.after))
      (subst (Holds c.receiver.reader d.receiver.reader) frames
      (held_on c.receiver.reader last.reader d.receiver.reader (frames_got ps) (got_by p) trail.holds look.holds))
      (ap (λ e. ends_in e ++ happenings (ps ++ p ∷ [])) none ∙ passed.tells ∙ told_one p
      ∙ ap (λ e. in_list told ++ ends_in e) (sym ends))
      (passed.hands_out ∙ append-nil (data_of look.move told)
      ∙ look_hands_out last d (trail.holds.octets octets) told steps look)

  ends_with : c.ended ≡ None → (last : Receiver) → Trail c.receiver last → Ends last d.receiver told → d.ended ≡ ended_by told
      → Looked c told d
  ends_with none last trail (waits test is silent) ends =
      passed_all none
      (trail_same c.receiver last d.receiver trail (ap (λ (r : Receiver). r.core) is) (ap (λ (r : Receiver). r.reader.held) is))
      silent ends
  ends_with none last trail (lacks test nothing is silent) ends =
      passed_all none
      (trail_same c.receiver last d.receiver trail (ap (λ (r : Receiver). r.core) is)
      (ap (λ (r : Receiver). r.reader.held) is ∙ asked_in_vain last.reader nothing))
      silent ends
  ends_with none last trail (tells steps some) ends = told_last none last trail steps ends

  finds_by : (b : Bool) → c.ended ≡ None → pauses c.receiver.core ≡ false → FindsBy b c d told → Looked c told d
  finds_by false none goes is = begins_badly none goes is
  finds_by true none goes is = ends_with none is.0.last (trail_of is.0.through c.receiver is.0.last is.0.passes) is.0.ends is.2

  finds_after : (b : Bool) → c.ended ≡ None → pauses c.receiver.core ≡ false → FindsAfter b c d told → Looked c told d
  finds_after false none goes is = nothing_new is.0 is.1
  finds_after true none goes is = finds_by c.preface.same none goes is

  finds_of : (o : Option ℕ) → c.ended ≡ o → pauses c.receiver.core ≡ false → FindsOf o c d told → Looked c told d
  finds_of None ends goes is = finds_after (is_whole c.preface) ends goes is
  finds_of (Some s) ends goes is = end_told s ends is.0 is.1

  finds_while : (b : Bool) → pauses c.receiver.core ≡ b → FindsWhile b c d told → Looked c told d
  finds_while true goes is = nothing_new is.0 is.1
  finds_while false goes is = finds_of c.ended refl goes is

-- what a connection finds next
pub found_by_looks : (c d : Connection) (told : Found) → AreOctets (octets_held c) → Finds c d told → Looked c told d
found_by_looks c d told octets finds = finds_while c octets d told (pauses c.receiver.core) refl finds
