-- DATA fits both windows where it begins, in every run of a link.
use Rattle.std.proofs.Common.{ℕ, ◌-◌, List, length}
use Rattle.hb_history.proofs.Fitting.{data_fits}
use Rattle.hb_streams.specs.declared.role.Role.TheVariants.{Client}
use Rattle.hb_world.specs.declared.entry.Entry.{Entry}
use Rattle.hb_world.specs.declared.entry.Entry.TheVariants as e
use Rattle.hb_gateway.specs.Connections.{conn_went, WindowsBy, WindowsAt}
use Rattle.hb_gateway.specs.Gateway.{Gateway}
use Rattle.hb_gateway.specs.Laws.{RunsObeyWindows}
use Rattle.hb_gateway.specs.Part.{Part, entry, dialled, lacked, looked, asks, tells, put, finished, credited, reset, dropped, done, stopped, moves, tellings, link_came, left_of}
use Rattle.hb_gateway.specs.Runs.{Steps, StandsFor}
use Rattle.hb_gateway.proofs.Grown.{at_parts}
use Rattle.hb_gateway.proofs.Runs.{all_keep}

module _ (g : ℕ) (x : Gateway) (before : List Part) (stands : StandsFor g x before) where
  goes : (call : Entry) → WindowsBy before call
  goes (e.Went k bytes) =
      let one = (all_keep g x before stands).stands in
      record {
        conn = x.conn;
        stands = one;
        fit = data_fits Client (moves before) (tellings before) (link_came before) (conn_went before) x.conn one
            (length bytes - left_of before);
      }
  goes (e.Accepted k door) = tt
  goes (e.Dialled k to why) = tt
  goes (e.DialFailed to why) = tt
  goes (e.Opened k) = tt
  goes (e.Came k bytes) = tt
  goes (e.Ended k) = tt
  goes (e.Broke k) = tt
  goes (e.Balked how) = tt
  goes (e.Shut k) = tt
  goes (e.Closed k why) = tt
  goes e.Tick = tt
  goes (e.Wait ready how) = tt

next : (g : ℕ) (x y : Gateway) (before : List Part) (p : Part) → StandsFor g x before → Steps g x p y → WindowsAt before p
next g x y before (entry call) stands steps = goes g x before stands call
next g x y before (dialled call key) stands steps = tt
next g x y before lacked stands steps = tt
next g x y before (looked ps told headers) stands steps = tt
next g x y before (asks s captured authority) stands steps = tt
next g x y before (tells s heard begun) stands steps = tt
next g x y before (put s bytes count) stands steps = tt
next g x y before (finished s) stands steps = tt
next g x y before (credited s n) stands steps = tt
next g x y before (reset s code) stands steps = tt
next g x y before (dropped s begun) stands steps = tt
next g x y before (done s begun) stands steps = tt
next g x y before (stopped why) stands steps = tt

pub obey_windows : RunsObeyWindows
obey_windows g x parts stands = at_parts g WindowsAt (next g) x parts stands
