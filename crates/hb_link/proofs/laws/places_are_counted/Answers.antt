use Rattle.hb_link.proofs.NotCounted.{finds_taken, finds_left, may_find, answers_uncounted, welcomes_uncounted, answers_at_birth}
use Rattle.hb_link.proofs.laws.places_are_counted.Goals as goal

pub returns : goal.returns
returns c = record {
  taken = finds_taken;
  left = finds_left;
  may = may_find;
  uncounted = answers_uncounted;
  welcomes = welcomes_uncounted;
  birth = answers_at_birth;
}
