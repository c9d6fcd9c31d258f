-- What happens on a link to a gateway leaves its other streams at rest.
use Rattle.std.proofs.Common.{◌≡◌, ◌≢◌, ℕ, ◌&&◌, ◌||◌, not, Bool, true, false, List, [], ◌∷◌, ◌++◌, Option, Result, Ok, refl, ap, sym, ◌∙◌}
use Rattle.std.specs.List.{list_any}
use Rattle.std.proofs.lemmas.Bool.{false≢true}
use Rattle.std.proofs.lemmas.List.Folds.{list_any-append}
use Rattle.hb_captured.specs.Captured.{Captured, Stage, live, is_through}
use Rattle.hb_conn.specs.Connection.{Connection, core_of}
use Rattle.hb_conn.specs.Observed.{own_side_open, sides, next_stream, opened, data_put, credited, end_put, end_waits, outgoing}
use Rattle.hb_frames.specs.RawFrame.{RawFrame}
use Rattle.hb_history.specs.TakenBack.{has_data_on}
use Rattle.hb_hpack.specs.declared.header.Header.{Header}
use Rattle.hb_gateway.specs.Gateway.{Gateway, is_active}
use Rattle.hb_inbound.specs.Calm.{data_waits, is_data_on}
use Rattle.hb_kept.proofs.Shut.{opening_shuts}
use Rattle.hb_kept.proofs.Sides.{put_leaves_all, use_leaves_all, end_ends_side}
use Rattle.hb_kept.proofs.SidesAt.{begins, sides_at}
use Rattle.hb_link.proofs.Waits.{Holds, put_holds, use_holds, end_holds, same_holds}
use Rattle.hb_outgoing.specs.Selected.{begun_ends, frame_ends}
use Rattle.hb_outgoing.specs.Waiting.{Waiting}
use Rattle.hb_map.proofs.Laws.{put_elsewhere}
use Rattle.hb_owed.specs.Dues.{Debt}
use Rattle.hb_owed.specs.Debts.{ends_by, ends_on}
use Rattle.hb_proxy.specs.Runs.{LiveRests, StreamRestsBy}
use Rattle.hb_streams.specs.Moves.{after_number}
use Rattle.hb_streams.specs.Sides.{both_open}
use Rattle.hb_streams.specs.declared.fault.OpenFault.{OpenFault}
use Rattle.hb_tunnel.specs.Way.{is_done}

-- what waits there waits still, no DATA can go where none could, and its sides are as they were
pub record Keeps (c d : Connection) (j : ℕ) : Type 0 where
  pub holds : Holds c d j
  pub sides : sides d j ≡ sides c j

-- a link that rested on that stream rests on
off_still : (a p q : Bool) → (p ≡ true → q ≡ true) → (a && not p) ≡ false → (a && not q) ≡ false
off_still false p q grows is = refl
off_still true true q grows is = ap not (grows refl)
off_still true false q grows is = absurd (false≢true (sym is))

finish_still : (done shut own p q : Bool) → (p ≡ true → q ≡ true) → (done && not shut && own && not p) ≡ false
    → (done && not shut && own && not q) ≡ false
finish_still done shut own p q grows is = off_still (done && not shut && own) p q grows is

complete_still : (through shut active p q : Bool) → (p ≡ true → q ≡ true) → (through && shut && not active && not p) ≡ false
    → (through && shut && not active && not q) ≡ false
complete_still through shut active p q grows is = off_still (through && shut && not active) p q grows is

pub live_still : (x : Captured) (y z : Gateway) → Keeps y.conn z.conn x.stream → LiveRests x y → LiveRests x z
live_still x y z keeps rests = record {
  given_back = rests.given_back;
  none_goes = keeps.holds.shut x.ways.up.held rests.none_goes;
  not_finished =
      ap (λ w. is_done x.ways.up && not x.up_shut && w.own && not (data_waits z.conn x.stream)) keeps.sides
      ∙ finish_still (is_done x.ways.up) x.up_shut (own_side_open y.conn x.stream) (data_waits y.conn x.stream)
      (data_waits z.conn x.stream) keeps.holds.data_waits rests.not_finished;
  not_complete =
      ap (λ w. is_through x && x.up_shut && not (w.own || w.peer) && not (end_waits z.conn x.stream)) keeps.sides
      ∙ complete_still (is_through x) x.up_shut (is_active y.conn x.stream) (end_waits y.conn x.stream)
      (end_waits z.conn x.stream) keeps.holds.end_waits rests.not_complete;
}

pub rests_still : (stage : Stage) (x : Captured) (y z : Gateway) → Keeps y.conn z.conn x.stream → StreamRestsBy stage x y
    → StreamRestsBy stage x z
rests_still live x y z keeps rests = live_still x y z keeps rests
rests_still stage x y z keeps rests = tt

-- WHAT IS PUT ON ONE STREAM, AND GIVEN BACK

pub put_keeps : (c : Connection) (s : ℕ) (bytes : List ℕ) (j : ℕ) → Keeps c (data_put c s bytes) j
put_keeps c s bytes j = record { holds = put_holds c s bytes j; sides = put_leaves_all c s bytes j }

pub credit_keeps : (c : Connection) (s n j : ℕ) → Keeps c (credited c s n) j
credit_keeps c s n j = record { holds = use_holds c s n j; sides = use_leaves_all c s n j }

pub end_keeps : (c : Connection) (s j : ℕ) → j ≢ s → Keeps c (end_put c s) j
end_keeps c s j apart = record { holds = end_holds c s j apart; sides = (end_ends_side c s).others j apart }

pub same_keeps : (c : Connection) (j : ℕ) → Keeps c c j
same_keeps c j = record { holds = same_holds c j; sides = refl }

-- A STREAM THAT IS ASKED FOR

more_waits : (a x b : Bool) → (a || b) ≡ true → ((a || x) || b) ≡ true
more_waits true x b is = refl
more_waits false true b is = refl
more_waits false false b is = is

more_ends : (g a x o : Bool) → ((g || a) || o) ≡ true → ((g || (a || x)) || o) ≡ true
more_ends true a x o is = refl
more_ends false true x o is = refl
more_ends false false true o is = refl
more_ends false false false o is = is

-- a frame more waits
put_data : (j : ℕ) (w : Waiting) (f : RawFrame) → (list_any (has_data_on j) w.queue || is_data_on j w.begun) ≡ true
    → (list_any (has_data_on j) (w.queue ++ f ∷ []) || is_data_on j w.begun) ≡ true
put_data j w f is =
    ap (λ b. b || is_data_on j w.begun) (list_any-append (has_data_on j) w.queue (f ∷ []))
    ∙ more_waits (list_any (has_data_on j) w.queue) (list_any (has_data_on j) (f ∷ [])) (is_data_on j w.begun) is

put_end : (j : ℕ) (w : Waiting) (f : RawFrame) (owed : Bool)
    → ((begun_ends j w.begun || list_any (frame_ends j) w.queue) || owed) ≡ true
    → ((begun_ends j w.begun || list_any (frame_ends j) (w.queue ++ f ∷ [])) || owed) ≡ true
put_end j w f owed is =
    ap (λ b. (begun_ends j w.begun || b) || owed) (list_any-append (frame_ends j) w.queue (f ∷ []))
    ∙ more_ends (begun_ends j w.begun) (list_any (frame_ends j) w.queue) (list_any (frame_ends j) (f ∷ [])) owed is

asked_holds : (c : Connection) (s : ℕ) (headers : List Header) (j : ℕ) → j ≢ s → Holds c (opened c s headers false) j
asked_holds c s headers j apart = record {
  shut = λ bytes none. opening_shuts c s headers j bytes;
  data_waits = λ is. put_data j (outgoing c) _ is;
  end_waits = λ is.
      ap
      (λ (o : Option Debt). (begun_ends j (outgoing c).begun || list_any (frame_ends j) (outgoing (opened c s headers false)).queue)
      || ends_by o)
      (put_elsewhere (core_of c).owed s _ j apart)
      ∙ put_end j (outgoing c) _ (ends_on (core_of c).owed j) is;
}

pub asked_keeps : (c : Connection) (s : ℕ) (headers : List Header) (j : ℕ) → next_stream c ≡ Ok s → j ≢ s
    → Keeps c (opened c s headers false) j
asked_keeps c s headers j next apart = record {
  holds = asked_holds c s headers j apart;
  sides = ap (λ (r : Result ℕ OpenFault). sides_at (after_number c.receiver.core.streams r) j) next
      ∙ (begins c.receiver.core.streams s both_open).others j apart;
}
