-- The relay law of the way up, and that no stream is opened twice, in every run of a link.
use Rattle.std.proofs.Common.{◌≡◌, ℕ, ◌==◌, ◌&&◌, Bool, true, List, [], ◌++◌, length, ap, sym, ◌∙◌, arith}
use Rattle.std.proofs.lemmas.Bool.{and_parts}
use Rattle.std.proofs.lemmas.Bool.Decides.{nat_tests}
use Rattle.std.proofs.lemmas.List.{append-nil, nil_from_length}
use Rattle.hb_conn.specs.declared.found.Found.TheVariants as found
use Rattle.hb_held.specs.Held.{Resources}
use Rattle.hb_history.specs.Points as history
use Rattle.hb_hpack.specs.declared.header.HeaderList.{HeaderList}
use Rattle.hb_kept.proofs.Opened.{told_are_numbered}
use Rattle.hb_world.specs.declared.entry.Entry.{Entry}
use Rattle.hb_world.specs.declared.entry.Entry.TheVariants as e
use Rattle.hb_inbound.specs.Laws.{RunsRelayUp}
use Rattle.hb_inbound.specs.Part.{Part, entry, up, welcomed, crowded, lacked, fronted, misfronted, looked, decided, accepted, refused, reset, left, done, put, finished, credited, applied, stopped, moves, tellings}
use Rattle.hb_inbound.specs.Relay.{ShutsBehind, UpMayGo, MayGoUp}
use Rattle.hb_inbound.specs.Runs.{Local, UpMayCome, Steps, StandsFor}
use Rattle.hb_inbound.specs.Sides.{up_went, conn_came, link_went}
use Rattle.hb_inbound.specs.Tunnel.{unasked, is_live}
use Rattle.hb_inbound.proofs.Grown.{at_parts}
use Rattle.hb_inbound.proofs.RelaysRun.{all_relay}
use Rattle.hb_inbound.proofs.Runs.{all_keep}

-- where a stream is told to be opened nothing was asked for on it
pub opens_new : (l : ℕ) (start : Resources) (a b : Local) (parts : List Part) (ps : List history.Point) (s : ℕ) (end : Bool)
    (headers : HeaderList) → StandsFor l start a parts → Steps l a (looked ps (found.Opened s end) headers) b
    → (a.link.tunnels s).stage ≡ unasked
opens_new l start a b parts ps s end headers stands steps =
    let number = told_are_numbered (moves parts) (tellings parts) (conn_came parts) (link_went parts) a.link.conn steps.2
    (found.Opened s end) (all_keep l start a parts stands).one.stands steps.3.finds in
    ((all_relay l start a parts stands s).new number.0).0

module _ (l : ℕ) (start : Resources) (a : Local) (before : List Part) (stands : StandsFor l start a before) where
  shuts : (s : ℕ) → is_live (a.link.tunnels s).stage ≡ true
      → ((a.link.tunnels s).ways.up.has_ended && length (a.link.tunnels s).ways.up.held == 0) ≡ true → ShutsBehind before s
  shuts s lives done_up =
      let t = a.link.tunnels s in
      let relays = all_relay l start a before stands s in
      let none = (and_parts t.ways.up.has_ended (length t.ways.up.held == 0) done_up).1 in
      let empty : t.ways.up.held ≡ [] = nil_from_length t.ways.up.held (grind (arith, nat_tests, none)) in
      record {
        accepted = relays.lives lives;
        ended = relays.ends (and_parts t.ways.up.has_ended (length t.ways.up.held == 0) done_up).0;
        whole = sym (relays.front ∙ ap (λ (xs : List ℕ). up_went s before ++ xs) empty ∙ append-nil (up_went s before));
      }

  up_goes : (s : ℕ) (z : Entry) → UpMayCome l s a.link (a.link.tunnels s) z → UpMayGo s before z
  up_goes s (e.Went u bytes) may = (all_relay l start a before stands s).lives (ap is_live may.0.1)
  up_goes s (e.Shut u) may = shuts s (ap is_live may.1) (and_parts _ _ may.3).0
  up_goes s (e.Accepted k d) may = tt
  up_goes s (e.Dialled k to why) may = tt
  up_goes s (e.DialFailed to why) may = tt
  up_goes s (e.Opened k) may = tt
  up_goes s (e.Came k bytes) may = tt
  up_goes s (e.Ended k) may = tt
  up_goes s (e.Broke k) may = tt
  up_goes s (e.Balked way) may = tt
  up_goes s (e.Closed k why) may = tt
  up_goes s e.Tick may = tt
  up_goes s (e.Wait ready how) may = tt

next : (l : ℕ) (start : Resources) (a b : Local) (before : List Part) (p : Part) → StandsFor l start a before → Steps l a p b
    → MayGoUp before p
next l start a b before (entry x) stands steps = tt
next l start a b before (up s x) stands steps = up_goes l start a before stands s x steps.0
next l start a b before welcomed stands steps = tt
next l start a b before crowded stands steps = tt
next l start a b before lacked stands steps = tt
next l start a b before (fronted seen) stands steps = tt
next l start a b before (misfronted fault) stands steps = tt
next l start a b before (looked ps told headers) stands steps = tt
next l start a b before (decided s full answer) stands steps = tt
next l start a b before (accepted s made) stands steps = tt
next l start a b before (refused s status resets made) stands steps = tt
next l start a b before (reset s code made) stands steps = tt
next l start a b before (left s made) stands steps = tt
next l start a b before (done s made) stands steps = tt
next l start a b before (put s bytes) stands steps = (all_relay l start a before stands s).lives (ap is_live steps.0.2)
next l start a b before (finished s) stands steps = tt
next l start a b before (credited s n) stands steps = tt
next l start a b before (applied r) stands steps = tt
next l start a b before (stopped why) stands steps = tt

pub relay_up : RunsRelayUp
relay_up l start a parts stands = record {
  ups = λ s. record { rest = (a.link.tunnels s).ways.up.held; front = (all_relay l start a parts stands s).front };
  places = at_parts l start MayGoUp (next l start) a parts stands;
}
