-- A link isn't passed over while bytes of it may be put; and what is told of small links.
use Rattle.std.proofs.Common.{◌≡◌, ℕ, ◌&&◌, not, min, true, false, List, [], ◌∷◌, Option, refl, ap, sym, ◌∙◌, subst, arith}
use Rattle.std.proofs.lemmas.Bool.{false≢true, ne_eqb}
use Rattle.std.specs.FinMap.{empty}
use Rattle.hb_captured.specs.Captured.{Captured, is_through}
use Rattle.hb_captured.specs.Runs.{Lives}
use Rattle.hb_conn.specs.Connection.{Connection, fresh_client}
use Rattle.hb_conn.specs.Observed.{count_put, end_waits, own_side_open}
use Rattle.hb_conn.specs.Payload.{most_payload}
use Rattle.hb_flow.specs.Flows.{fresh, new_windows, sendable_by}
use Rattle.hb_flow.specs.Windows.{Windows, first_size}
use Rattle.hb_frames.specs.Numbers.{first_frame_size}
use Rattle.hb_gate.proofs.Refused.{written_kept, open_shown, conn_shown}
use Rattle.hb_gate.specs.Refused.{IsOpenOn, open_on}
use Rattle.hb_gate.specs.declared.gate.Gate.{Gate}
use Rattle.hb_gateway.specs.Gateway.{is_active}
use Rattle.hb_gateway.specs.Keys.{key_as}
use Rattle.hb_inbound.specs.Calm.{data_waits}
use Rattle.hb_kept.specs.Kept.{IsKept}
use Rattle.hb_map.proofs.Laws.{put_here}
use Rattle.hb_proxy.specs.Runs.{StreamRestsBy}
use Rattle.hb_relay.proofs.StreamRefused.{held_there, holds_shown, held_shown}
use Rattle.hb_relay.specs.StreamRefused.{HoldsThere}
use Rattle.hb_relay.specs.declared.relay.Relay.{Relay}
use Rattle.hb_relays.proofs.Pumped.{count_none}
use Rattle.hb_relays.proofs.PumpedLink.{rests_there}
use Rattle.hb_relays.specs.Pumping.{MayPut, RestsOn}
use Rattle.hb_relays.specs.RestsRefused.{MissesPut, PassesOver, PassesOverAmong, RestsAreTold, OthersSayNothing, lets_go}
use Rattle.hb_tunnel.specs.Way.{is_done}

lets_go_kept : IsKept lets_go
lets_go_kept = record {
  octets = written_kept.octets;
  caught_up = written_kept.caught_up;
  preface = written_kept.preface;
  goes_on = refl;
}

-- a byte may be put there
goes : (byte : ℕ) → count_put lets_go 1 (byte ∷ []) ≡ 1
goes byte =
    ap (λ (o : Option Windows). min 1 (min (sendable_by fresh o) (min first_frame_size most_payload)))
    (put_here empty 1 (new_windows first_size))

stays : (byte : ℕ) → count_put lets_go 1 (byte ∷ []) ≡ 0 → ⊥
stays byte none = let one = goes byte in omega (arith, one, none)

pub misses_put : MissesPut
misses_put byte k h is on says =
    stays byte
    (says refl (held_there (byte ∷ []) 1 k is) (open_on lets_go (key_as h.key)) (holds_shown (byte ∷ []) 1 k is)
    (open_shown lets_go h on lets_go_kept) refl)

-- a link with a stream lives
lives_there : (bytes : List ℕ) (s : ℕ) (k : Relay) (is : HoldsThere bytes s k) → Lives (held_there bytes s k is)
lives_there bytes s k is = (ne_eqb is.gate 0 (λ none. let some = is.some in omega (arith, none, some)), refl)

pub passes_over : PassesOver
passes_over byte k h is on says =
    stays byte
    (says refl (held_there (byte ∷ []) 1 k is) (open_on lets_go (key_as h.key)) (holds_shown (byte ∷ []) 1 k is)
    (open_shown lets_go h on lets_go_kept) (lives_there (byte ∷ []) 1 k is) refl).none_goes

pub passes_over_among : PassesOverAmong
passes_over_among l n k rests waiting resting g x points stands shows goes =
    let there = rests refl waiting resting g x points stands shows goes.lives goes.there in
    let at = subst (λ s. StreamRestsBy s (x.plain l) (x.gates (x.plain l).gate)) goes.lives.1 (there goes.lives.0) in
    let none = subst (λ (i : ℕ). count_put (x.gates i).conn (x.plain l).stream (x.plain l).ways.up.held ≡ 0) goes.there at.none_goes in
    let some = goes.some in omega (arith, none, some)

-- WHAT IS TOLD RIGHTLY
none_may : (k : Relay) (h : Gate) → HoldsThere [] 1 k → MayPut k h false
none_may k h is so x y shows gate_shows carries =
    ap (count_put y.conn x.stream) (held_shown [] 1 k is x shows) ∙ count_none y.conn x.stream

behind_octets : (byte : ℕ) (k : Relay) (h : Gate) → HoldsThere (byte ∷ []) 1 k → IsOpenOn fresh_client h → MayPut k h false
behind_octets byte k h is on so x y shows gate_shows carries =
    ap (λ (c : Connection). count_put c x.stream x.ways.up.held) (conn_shown fresh_client h on y gate_shows)
    ∙ ap (λ (z : Captured). count_put fresh_client z.stream z.ways.up.held) (shows.same ∙ is.same)

no_byte_rests : (k : Relay) (h : Gate) → HoldsThere [] 1 k → IsOpenOn lets_go h → RestsOn k h true
no_byte_rests k h is on so x y shows gate_shows lives carries = record {
  given_back = (let owed = ap (λ (z : Captured). z.owed) (shows.same ∙ is.same) in omega (arith, owed));
  none_goes = none_may k h is refl x y shows gate_shows carries;
  not_finished =
      ap
      (λ (z : Captured). is_done z.ways.up && not x.up_shut && own_side_open y.conn x.stream && not (data_waits y.conn x.stream))
      (shows.same ∙ is.same);
  not_complete =
      ap
      (λ (z : Captured). is_through z && x.up_shut && not (is_active y.conn x.stream) && not (end_waits y.conn x.stream))
      (shows.same ∙ is.same);
}

pub rests_are_told : RestsAreTold
rests_are_told = record {
  none = λ k h is on. none_may k h is;
  behind = behind_octets;
  rests = no_byte_rests;
  among = λ l n k w h found gate is on. rests_there k l n w h true found gate (no_byte_rests w h is on);
}

pub others_say_nothing : OthersSayNothing
others_say_nothing = record {
  put = λ k h so. absurd (false≢true (sym so));
  rests = λ k h so. absurd (false≢true so);
  among = λ l n k so. absurd (false≢true so);
}
