-- What is seen of a world behind calls in a row.
use Rattle.std.proofs.Common.{◌≡◌, Bool, false, Option, None, refl, sym, subst, ◌∙◌}
use Rattle.hb_base.specs.Count.{Counts}
use Rattle.hb_world.specs.Seen.{Seen, CountsUp, StaysButWhole}
use Rattle.hb_turns.specs.Ends.{is_fault_by}
use Rattle.hb_turns.specs.Faults.{StaysWhole, CountsWhole}
use Rattle.hb_turns.specs.declared.served.ServeEnd.{ServeEnd}

-- nothing was done
pub stays_none : (s : Seen) → StaysWhole s s
stays_none s = record { follows = refl; faults = refl }

pub stays_both : (old mid new : Seen) → StaysWhole old mid → StaysWhole mid new → StaysWhole old new
stays_both old mid new first last = record { follows = last.follows ∙ first.follows; faults = last.faults ∙ first.faults }

-- a turn that didn't end the run
pub stays_on : (end : Option ServeEnd) (old new : Seen) → end ≡ None → CountsWhole old new (is_fault_by end) → StaysWhole old new
stays_on end old new is turned = record {
  follows = turned.follows;
  faults = subst (λ (o : Option ServeEnd). Counts old.faults new.faults (is_fault_by o)) is turned.counts;
}

-- a listen or a wait
pub counts_one : (old new : Seen) (failed : Bool) → CountsUp old.faults new.faults failed → StaysButWhole old new
    → CountsWhole old new failed
counts_one old new failed up stays = record { follows = stays.follows; counts = up.counts }

-- a wait that didn't fail, and calls that don't count
pub counts_none : (old mid new : Seen) (failed : Bool) → failed ≡ false → CountsUp old.faults mid.faults false → StaysButWhole old mid
    → StaysWhole mid new → CountsWhole old new failed
counts_none old mid new failed is up stays last = record {
  follows = last.follows ∙ stays.follows;
  counts = subst (λ (b : Bool). Counts old.faults new.faults b) (sym is) (last.faults ∙ up.counts);
}
