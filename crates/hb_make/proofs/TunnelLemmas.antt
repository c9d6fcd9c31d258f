-- Small tunnels that aren't the one of `made 1`: a line at which they differ.
use Rattle.std.proofs.Common.{◌≡◌, ℕ, List, [], get_or, refl, ap}
use Rattle.hb_world.specs.declared.line.Line.{Line}
use Rattle.hb_world.specs.declared.line.Line.TheVariants.{Open, Piece, Wake}
use Rattle.hb_make.specs.Laws.{OneMarkGoesUp, TwoMarksGoUp, LinksFromOne, OtherPort, WithoutWake}
use Rattle.hb_make.specs.Made.{opening}
use Rattle.hb_make.specs.Octets.{data_frame, front, preface, connect}

abbrev octets_of : Line → List ℕ
octets_of (Piece link octets) = octets
octets_of _ = []

abbrev opened_by : Line → ℕ
opened_by (Open link) = link
opened_by _ = 0

abbrev octet : ℕ → ℕ → List Line → ℕ
octet line place lines = get_or (octets_of (get_or lines line Wake)) place 0

pub one_mark_goes_up : OneMarkGoesUp
unfolding data_frame
one_mark_goes_up = refl

pub two_marks_do_not : TwoMarksGoUp
unfolding data_frame
two_marks_do_not e = let same : ◌≡◌ {A = ℕ} 2 1 = ap (octet 13 2) e in absurd cc

pub links_are_not_from_one : LinksFromOne
links_are_not_from_one e = let same : ◌≡◌ {A = ℕ} 2 3 = ap (λ lines. opened_by (get_or lines 11 Wake)) e in absurd cc

nine_is_not_eight : ◌≡◌ {A = ℕ} 57 56 → ⊥
nine_is_not_eight same = absurd cc

pub port_is_not_the_other : OtherPort
unfolding opening front preface connect
port_is_not_the_other e = nine_is_not_eight (ap (octet 9 125) e)

abbrev is_piece : Line → ℕ
is_piece (Piece link octets) = 1
is_piece _ = 0

pub wake_is_there : WithoutWake
wake_is_there e = let same : ◌≡◌ {A = ℕ} 1 0 = ap (λ lines. is_piece (get_or lines 16 Wake)) e in absurd cc
