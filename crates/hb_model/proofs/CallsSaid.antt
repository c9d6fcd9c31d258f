-- What the entries of a run say of one link.
use Rattle.std.proofs.Common.{◌≡◌, ℕ, Bool, true, false, ◌||◌, eqb, List, [], ◌∷◌, ◌++◌, refl, None}
use Rattle.std.proofs.lemmas.Bool.{eq-eqb}
use Rattle.std.specs.List.{list_any}
use Rattle.hb_world.specs.declared.entry.Entry.{Entry}
use Rattle.hb_world.specs.Trace.{is_birth_of, is_close_of}
use Rattle.hb_world.proofs.LifeLemmas.{or-false}
use Rattle.hb_model.specs.Point.{Point, entry_in, entries}
use Rattle.hb_model.specs.Calls.{is_opened_of, is_ended_of, is_broke_of, is_went_of}
use Rattle.hb_model.specs.Ends.{end_in, answered_in}
use Rattle.hb_model.proofs.Places.{any-grows}

-- whether the link was born, opened, ended, broke and was closed
pub record Said : Type 0 where
  pub born : Bool
  pub opened : Bool
  pub ended : Bool
  pub broke : Bool
  pub closed : Bool

abbrev pub said_in : ℕ → List Entry → Said
said_in k es = record {
  born = list_any (is_birth_of k) es;
  opened = list_any (is_opened_of k) es;
  ended = list_any (is_ended_of k) es;
  broke = list_any (is_broke_of k) es;
  closed = list_any (is_close_of k) es;
}

-- what a run says of the link, and what a point says of it
abbrev pub seen : ℕ → List Point → Said
seen k points = said_in k (entries points)

abbrev pub said : ℕ → Point → Said
said k p = said_in k (entry_in p)

abbrev pub joined : Said → Said → Said
joined s t = record {
  born = s.born || t.born;
  opened = s.opened || t.opened;
  ended = s.ended || t.ended;
  broke = s.broke || t.broke;
  closed = s.closed || t.closed;
}

abbrev pub nothing : Said
nothing = record { born = false; opened = false; ended = false; broke = false; closed = false }

abbrev pub birth : Said
birth = record nothing { born = true }

abbrev pub open_link : Said
open_link = record birth { opened = true }

pub seen-grows : (k : ℕ) (points : List Point) (p : Point) → seen k (points ++ p ∷ []) ≡ joined (seen k points) (said k p)
seen-grows k points p =
    let born = any-grows (is_birth_of k) points p in
    let opened = any-grows (is_opened_of k) points p in
    let ended = any-grows (is_ended_of k) points p in
    let broke = any-grows (is_broke_of k) points p in
    let closed = any-grows (is_close_of k) points p in
    cc

pub joined-nothing : (s : Said) → joined s nothing ≡ s
joined-nothing s = rw (or-false s.born, or-false s.opened, or-false s.ended, or-false s.broke, or-false s.closed) refl

-- the point says nothing of the link, and doesn't end it
pub record Silent (k : ℕ) (p : Point) : Type 0 where
  pub says : said k p ≡ nothing
  pub ends : (answered : Bool) → end_in k answered p ≡ None
  pub answers : (answered : Bool) → answered_in k answered p ≡ answered
  pub writes : list_any (is_went_of k) (entry_in p) ≡ false

pub eqb-self : (k : ℕ) → eqb k k ≡ true
eqb-self k = eq-eqb k k refl
