-- DATA fits both windows where it begins, in every run of a link.
use Rattle.std.proofs.Common.{◌≡◌, inl, inr, ℕ, List, ◌++◌, length, ap, sym, ◌∙◌}
use Rattle.hb_conn.specs.Observed as observed
use Rattle.hb_held.specs.Held.{Resources}
use Rattle.hb_history.proofs.Fitting.{data_fits}
use Rattle.hb_streams.specs.declared.role.Role.TheVariants.{Server}
use Rattle.hb_world.specs.declared.entry.Entry.{Entry}
use Rattle.hb_world.specs.declared.entry.Entry.TheVariants as e
use Rattle.hb_inbound.specs.Calm.{output, output_by}
use Rattle.hb_inbound.specs.Connections.{GoesWithin, WindowsBy, WindowsAt}
use Rattle.hb_inbound.specs.Inbound.{Phase, serving, faulted}
use Rattle.hb_inbound.specs.Laws.{RunsObeyWindows}
use Rattle.hb_inbound.specs.Part.{Part, entry, up, welcomed, crowded, lacked, fronted, misfronted, looked, decided, accepted, refused, reset, left, done, put, finished, credited, applied, stopped, moves, tellings}
use Rattle.hb_inbound.specs.Runs.{Local, MayCome, Steps, StandsFor}
use Rattle.hb_inbound.specs.Sides.{conn_came, link_went}
use Rattle.hb_inbound.proofs.Grown.{at_parts}
use Rattle.hb_inbound.proofs.Runs.{all_keep}

module _ (l : ℕ) (start : Resources) (a : Local) (before : List Part) (stands : StandsFor l start a before) where
  within : (bytes rest : List ℕ) → observed.output a.link.conn ≡ bytes ++ rest → GoesWithin before bytes
  within bytes rest is =
      let one = (all_keep l start a before stands).one in
      record {
        conn = a.link.conn;
        stands = one.stands;
        rest = rest;
        first = is;
        fit = data_fits Server (moves before) (tellings before) (conn_came before) (link_went before) a.link.conn one.stands (length bytes);
      }

  first_of : (phase : Phase) (bytes rest : List ℕ) → a.link.phase ≡ phase → output a.link ≡ bytes ++ rest
      → output_by phase a.link ≡ bytes ++ rest
  first_of phase bytes rest is first = sym (ap (λ (ph : Phase). output_by ph a.link) is) ∙ first

  goes : (x : Entry) → MayCome l a.link x → WindowsBy before x
  goes (e.Went k bytes) (is, inl quiet, some, rest) = within bytes rest.0 (first_of serving bytes rest.0 quiet.1 rest.1)
  goes (e.Went k bytes) (is, inr fault, some, rest) =
      within bytes rest.0 (first_of (faulted fault.1) bytes rest.0 fault.2 rest.1)
  goes (e.Accepted k d) may = tt
  goes (e.Dialled k to why) may = tt
  goes (e.DialFailed to why) may = tt
  goes (e.Opened k) may = tt
  goes (e.Came k bytes) may = tt
  goes (e.Ended k) may = tt
  goes (e.Broke k) may = tt
  goes (e.Balked way) may = tt
  goes (e.Shut k) may = tt
  goes (e.Closed k why) may = tt
  goes e.Tick may = tt
  goes (e.Wait ready how) may = tt

next : (l : ℕ) (start : Resources) (a b : Local) (before : List Part) (p : Part) → StandsFor l start a before → Steps l a p b
    → WindowsAt before p
next l start a b before (entry x) stands steps = goes l start a before stands x steps.0
next l start a b before (up s x) stands steps = tt
next l start a b before welcomed stands steps = tt
next l start a b before crowded stands steps = tt
next l start a b before lacked stands steps = tt
next l start a b before (fronted seen) stands steps = tt
next l start a b before (misfronted fault) stands steps = tt
next l start a b before (looked ps told headers) stands steps = tt
next l start a b before (decided s full answer) stands steps = tt
next l start a b before (accepted s made) stands steps = tt
next l start a b before (refused s status resets made) stands steps = tt
next l start a b before (reset s code made) stands steps = tt
next l start a b before (left s made) stands steps = tt
next l start a b before (done s made) stands steps = tt
next l start a b before (put s bytes) stands steps = tt
next l start a b before (finished s) stands steps = tt
next l start a b before (credited s n) stands steps = tt
next l start a b before (applied r) stands steps = tt
next l start a b before (stopped why) stands steps = tt

pub obey_windows : RunsObeyWindows
obey_windows l start a parts stands = at_parts l start WindowsAt (next l start) a parts stands
