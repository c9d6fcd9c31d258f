-- Moves after moves.
use Rattle.std.proofs.Common.{◌≡◌, List, [], ◌∷◌, ◌++◌, refl, ap, sym, ◌∙◌, subst}
use Rattle.std.proofs.lemmas.List.{append_assoc, append-nil}
use Rattle.hb_frames.specs.RawFrame.{RawFrame}
use Rattle.hb_conn.specs.declared.machine.Core.{Core}
use Rattle.hb_history.specs.Points.{Point, After, Runs, RunsWith, begins_by}

pub runs_more : (ps qs : List Point) (c mid new : Core) → Runs c ps mid → Runs mid qs new → Runs c (ps ++ qs) new
runs_more [] qs c mid new first then = subst (λ (k : Core). Runs k qs new) first then
runs_more (p ∷ ps) qs c mid new first then = (first.0, first.1, runs_more ps qs first.0 mid new first.2 then)

pub begins_more : (ps qs : List Point) (c mid new : Core) (fs gs : List RawFrame) → RunsWith c ps fs mid → RunsWith mid qs gs new
    → RunsWith c (ps ++ qs) (fs ++ gs) new
begins_more [] qs c mid new fs gs first then =
    subst (λ (hs : List RawFrame). RunsWith c qs (hs ++ gs) new) (sym first.1)
    (subst (λ (k : Core). RunsWith k qs gs new) first.0 then)
begins_more (p ∷ ps) qs c mid new fs gs first then = (
  first.0,
  first.1,
  first.2 ++ gs,
  ap (λ (hs : List RawFrame). hs ++ gs) first.3 ∙ append_assoc (begins_by c p.move) first.2 gs,
  begins_more ps qs first.0 mid new first.2 gs first.4 then,
)

-- moves in front of a place, and from it on
pub record Split (ps qs : List Point) (c new : Core) (fs : List RawFrame) : Type 0 where
  pub mid : Core
  pub front : List RawFrame
  pub others : List RawFrame
  pub leads : RunsWith c ps front mid
  pub goes_on : RunsWith mid qs others new
  pub all : fs ≡ front ++ others

pub begins_split : (ps qs : List Point) (c new : Core) (fs : List RawFrame) → RunsWith c (ps ++ qs) fs new → Split ps qs c new fs
begins_split [] qs c new fs runs =
    record { mid = c; front = []; others = fs; leads = (refl, refl); goes_on = runs; all = refl }
begins_split (p ∷ ps) qs c new fs runs =
    let rest = begins_split ps qs runs.0 new runs.2 runs.4 in
    let first = begins_by c p.move in
    record {
      mid = rest.mid;
      front = first ++ rest.front;
      others = rest.others;
      leads = (runs.0, runs.1, rest.front, refl, rest.leads);
      goes_on = rest.goes_on;
      all = runs.3 ∙ ap (λ (gs : List RawFrame). first ++ gs) rest.all ∙ sym (append_assoc first rest.front rest.others);
    }

-- one move
pub runs_one : (p : Point) (c new : Core) → After c p.move new p.told → Runs c (p ∷ []) new
runs_one p c new after = (new, after, refl)

pub begins_one : (p : Point) (c new : Core) (fs : List RawFrame) → begins_by c p.move ≡ fs → After c p.move new p.told
    → RunsWith c (p ∷ []) fs new
begins_one p c new fs is after = (new, after, [], sym is ∙ sym (append-nil (begins_by c p.move)), (refl, refl))
