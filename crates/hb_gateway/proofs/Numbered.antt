-- DATA is told to a client on no stream but one that was used.
use Rattle.std.proofs.Common.{ℕ, ◌≤◌, Bool, List, sym, subst}
use Rattle.hb_frames.specs.Reading.{asked}
use Rattle.hb_streams.specs.States.{States}
use Rattle.hb_streams.specs.declared.role.Role.TheVariants.{Client}
use Rattle.hb_conn.specs.Connection.{Connection, Finds, core_of}
use Rattle.hb_conn.specs.Glance.{glance_of}
use Rattle.hb_conn.specs.Observed.{streams}
use Rattle.hb_conn.specs.declared.found.Found.{Found}
use Rattle.hb_conn.specs.declared.found.Found.TheVariants as found
use Rattle.hb_conn.specs.declared.machine.Core.{Core}
use Rattle.hb_history.specs.History.{fresh, StandsFor}
use Rattle.hb_history.specs.Points.{Point}
use Rattle.hb_history.proofs.Found.{IsStill, Holds, finds_so}
use Rattle.hb_history.proofs.Kept as kept
use Rattle.hb_history.proofs.Parts.{calm}
use Rattle.hb_kept.proofs.Handled.{frame_keeps}
use Rattle.hb_kept.proofs.Opened.{goes_used, goes_on}
use Rattle.hb_kept.proofs.Told.{IsOther, Tells, handles_so, fault_so}
use Rattle.hb_kept.proofs.Used.{Used, used_keeps, used_acks, used_resize, used_grow, used_new, used_runs}

-- a stream of which DATA is told was used
abbrev IsOfUsed : Found → Core → Type 0
IsOfUsed (found.Chunk s end) c = s ≤ c.streams.highest
IsOfUsed _ c = Unit {0}

-- what is had in front of a frame
abbrev Had : Core → Type 0
Had c = Used Client calm c

other : (told : Found) (c : Core) → IsOther told → IsOfUsed told c
other (found.Chunk s end) c is = absurd is
other told c is = tt

tells : (c : Core) → Had c → Tells IsOfUsed c
tells c h = record {
  opens = λ blocks s end is. tt;
  heads = λ blocks s end is. tt;
  chunks = λ d s end same is.
      goes_on d s end (subst (λ (t : States). s ≤ t.highest) (sym same) (goes_used Client c.streams s h.0.0 is));
}

-- where nothing is told of a frame there is nothing to show
still : (told : Found) (c : Core) → IsStill told → IsOfUsed told c
still (found.Chunk s end) c is = absurd is
still told c is = tt

-- of all that is found
abbrev Shows : Core → Core → Found → Type 0
Shows c new told = Had c → Had new × IsOfUsed told new

telling : Holds Shows
telling = record {
  same = λ c new told quiet is h. (subst Had (sym is) h, still told new quiet);
  on = λ c mid new told first then h. then (first h).0;
  handled = λ r c new told is h. (
    frame_keeps (Used Client) (used_keeps Client) (used_resize Client) (used_acks Client) (used_grow Client) c (glance_of r)
        (asked r).last new told h is,
    handles_so IsOfUsed other c (glance_of r) (asked r).last new told (tells c h) is,
  );
  faults = λ c new code told is h. (
    subst Had (sym is.0) (kept.faulted_keeps (Used Client) (used_keeps Client) calm c code h),
    fault_so IsOfUsed other c new code told is,
  );
}

pub data_of_used : (points : List Point) (given : List Found) (came written : List ℕ) (c d : Connection) (s : ℕ) (end : Bool)
    → StandsFor Client points given came written c → Finds c d (found.Chunk s end) → s ≤ (streams d).highest
data_of_used points given came written c d s end stands finds =
    let had = used_runs Client points (core_of (fresh Client)) (core_of c) (used_new Client) stands.runs in
    (finds_so Shows telling c d (found.Chunk s end) finds had).1
