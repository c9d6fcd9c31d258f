-- What each call adds to a history.
use Rattle.std.proofs.Common.{◌≡◌, ℕ, List, [], ◌∷◌, ◌++◌, length, take, drop, Option, refl, ap, sym, ◌∙◌, subst, if◌then◌else◌}
use Rattle.std.proofs.lemmas.List.{append-nil}
use Rattle.std.proofs.Math.Seq.{drop-append_seam}
use Rattle.std.proofs.lemmas.Grind.{flat_map-append}
use Rattle.hb_frames.specs.RawFrame.{RawFrame}
use Rattle.hb_frames.specs.Frames.{Joins, AreOctets}
use Rattle.hb_frames.proofs.Runs.{octets_drop}
use Rattle.hb_streams.specs.declared.role.Role.{Role}
use Rattle.hb_outgoing.specs.Waiting.{Waiting, octets_of}
use Rattle.hb_outgoing.specs.Written.{begun_by, written as out_written}
use Rattle.hb_outgoing.specs.Laws.{Shows}
use Rattle.hb_outgoing.proofs.Sent.{write_begins}
use Rattle.hb_conn.specs.Connection.{Connection, with_core, ended_by}
use Rattle.hb_conn.specs.Observed.{octets_held}
use Rattle.hb_conn.specs.Outcome.{is_silent}
use Rattle.hb_conn.specs.Owing as owing
use Rattle.hb_conn.specs.declared.machine.Core.{Core}
use Rattle.hb_conn.specs.declared.found.Found.{Found}
use Rattle.hb_conn.specs.declared.found.Found.TheVariants.{Silent}
use Rattle.hb_history.specs.Points.{Move, got, refused, misbegan, opened, answered, ended, reset, credited, put, wrote, Point, point, After, Runs, RunsWith, begins_by, got_by, frames_got}
use Rattle.hb_history.specs.History.{fresh, opening, ends_in, told_of, happenings, behind_of, StandsFor}
use Rattle.hb_history.specs.Calls.{IsAct, NextAdds, ActAdds, WriteAdds}
use Rattle.hb_history.proofs.Runs.{runs_more, begins_more, runs_one, begins_one}
use Rattle.hb_history.proofs.Looked.{found_by_looks}
use Rattle.hb_history.proofs.Looking.{looks_add}
use Rattle.hb_history.proofs.Looks.{Holds, held_same, act_rest}
use Rattle.hb_history.proofs.Kept.{payment_keeps}
use Rattle.hb_history.proofs.Shown.{OfOut, out_keeps, rest_keeps}
use Rattle.hb_history.proofs.Parts.{calm}

-- what is held are octets
rest_octets : (fs : List RawFrame) (rest bytes : List ℕ) → Joins fs rest bytes → AreOctets bytes → AreOctets rest
rest_octets [] rest bytes joins octets = subst AreOctets joins octets
rest_octets (f ∷ fs) rest bytes joins octets =
    let drops : drop (length joins.0) bytes ≡ joins.1 = ap (drop (length joins.0)) joins.3 ∙ drop-append_seam joins.0 joins.1 in
    rest_octets fs rest joins.1 joins.4 (subst AreOctets drops (octets_drop (length joins.0) bytes octets))

-- a connection that goes on by these moves
module _ (role : Role) (points : List Point) (given : List Found) (came written : List ℕ) (c : Connection)
    (stands : StandsFor role points given came written c) where
  -- it holds octets
  held_octets : AreOctets (octets_held c)
  held_octets = rest_octets (frames_got points) (octets_held c) (behind_of role came) stands.came.frames_are
      (octets_drop _ came stands.came.are_octets)

  goes_on : (more : List Point) (gs : List RawFrame) (told : List Found) (out : List ℕ) (d : Connection)
      → Runs c.receiver.core more d.receiver.core → RunsWith c.receiver.core more gs d.receiver.core
      → Shows (opening role) out (stands.begun ++ gs) d.receiver.core.out
      → Holds c.receiver.reader d.receiver.reader (frames_got more) → d.preface ≡ c.preface
      → happenings (points ++ more) ≡ told ++ ends_in d.ended → StandsFor role (points ++ more) told came out d
  goes_on more gs told out d leads begins shows holds preface telling =
      let front = ap (λ p. p.came) preface in
      record {
        runs = runs_more points more (fresh role).receiver.core c.receiver.core d.receiver.core stands.runs leads;
        came = record {
          are_octets = stands.came.are_octets;
          count = ap (λ p. p.came) preface ∙ stands.came.count;
          same = ap (λ p. p.same) preface ∙ stands.came.same;
          frames_are = subst (λ (fs : List RawFrame). Joins fs d.receiver.reader.held (behind_of role came))
              (sym (flat_map-append got_by points more))
              (holds.joins held_octets (frames_got points) (behind_of role came) stands.came.frames_are);
        };
        told = telling;
        begun = stands.begun ++ gs;
        begins = begins_more points more (fresh role).receiver.core c.receiver.core d.receiver.core stands.begun gs stands.begins begins;
        shows = shows;
      }

  -- where no frame begins and nothing is written
  shows_still : (w : Waiting) → w.rest ≡ c.receiver.core.out.rest → Shows (opening role) written (stands.begun ++ []) w
  shows_still w rest =
      subst (λ (fs : List RawFrame). Shows (opening role) written fs w) (sym (append-nil stands.begun))
      (ap (λ (xs : List ℕ). written ++ xs) rest ∙ stands.shows)

-- what is found next comes of looks
pub next_adds : NextAdds
next_adds role points given came written c d told stands finds =
    let found = found_by_looks c d told (held_octets role points given came written c stands) finds in
    record {
      more = found.points;
      looks = found.looks;
      leads = found.leads;
      stands = looks_add role points found.points given came written c d told stands finds found.looks found.leads found.frames found.tells;
    }

-- acts

-- what an act of this end isn't: it begins no frame, looks at none, and tells nothing
pub record IsStill (c : Core) (m : Move) (told : Found) : Type 0 where
  pub begins : begins_by c m ≡ []
  pub gets : frames_got (point m told ∷ []) ≡ []
  pub silent : told ≡ Silent

still : (c : Core) (m : Move) (new : Core) (told : Found) → IsAct m → After c m new told → IsStill c m told
still c (got f) new told act is = absurd act
still c (refused r kind flags) new told act is = absurd act
still c misbegan new told act is = absurd act
still c (opened s headers end) new told act is = record { begins = refl; gets = refl; silent = is.1.1 }
still c (answered s status) new told act is = record { begins = refl; gets = refl; silent = is.1 }
still c (ended s) new told act is = record { begins = refl; gets = refl; silent = is.1 }
still c (reset s code) new told act is = record { begins = refl; gets = refl; silent = is.1 }
still c (credited s n) new told act is = record { begins = refl; gets = refl; silent = is.1.1 }
still c (put s bytes) new told act is = record { begins = refl; gets = refl; silent = is.1 }
still c (wrote n) new told act is = absurd act

silent_last : (points : List Point) (given : List Found) (m : Move) (told : Found) (e : Option ℕ) → told ≡ Silent
    → happenings points ≡ given ++ ends_in e → happenings (points ++ point m told ∷ []) ≡ given ++ ends_in e
silent_last points given m told e silent before =
    flat_map-append told_of points (point m told ∷ [])
    ∙ ap (λ f. happenings points ++ ((if is_silent f then [] else f ∷ ends_in (ended_by f)) ++ [])) silent
    ∙ append-nil (happenings points) ∙ before

pub act_adds : ActAdds
act_adds role points given came written c m core told act after stands =
    let p = point m told in
    let s = still c.receiver.core m core told act after in
    let d = with_core c core in
    goes_on role points given came written c stands (p ∷ []) [] given written d (runs_one p c.receiver.core core after)
    (begins_one p c.receiver.core core [] s.begins after)
    (shows_still role points given came written c stands core.out (act_rest c.receiver.core m core told act after))
    (subst (Holds c.receiver.reader c.receiver.reader) (sym s.gets) (held_same c.receiver.reader c.receiver.reader refl)) refl
    (silent_last points given m told c.ended s.silent stands.told)

pub written_rest : (c : Core) (n : ℕ) → (owing.wrote c n).out.rest ≡ (out_written n c.out).rest
written_rest c n =
    let r = (out_written n c.out).rest in
    payment_keeps (OfOut (λ w. w.rest ≡ r)) (out_keeps (λ w. w.rest ≡ r) (rest_keeps r)) calm (record c { out = out_written n c.out }) refl

pub write_adds : WriteAdds
write_adds role points given came written c n within stands =
    let p = point (wrote n) Silent in
    let old = c.receiver.core in
    let core = owing.wrote old n in
    let after : After old (wrote n) core Silent = (within, (refl, refl)) in
    let shown = (write_begins (opening role) written stands.begun old.out n within stands.shows).0 in
    goes_on role points given came written c stands (p ∷ []) (begun_by n old.out) given (written ++ take n (octets_of old.out))
    (with_core c core)
    (runs_one p old core after) (begins_one p old core (begun_by n old.out) refl after)
    (ap (λ (xs : List ℕ). (written ++ take n (octets_of old.out)) ++ xs) (written_rest old n) ∙ shown)
    (held_same c.receiver.reader c.receiver.reader refl) refl
    (silent_last points given (wrote n) Silent c.ended refl stands.told)
