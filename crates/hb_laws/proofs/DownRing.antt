-- What comes from an upstream has room behind what went on its stream: in its ring, and in one DATA frame.
use Rattle.std.proofs.Common.{◌≡◌, ℕ, ◌+◌, ◌-◌, ◌<◌, ◌≤◌, ◌==◌, ◌&&◌, ◌||◌, not, Bool, true, false, cond, List, [], ◌∷◌, ◌++◌, length, refl, ap, sym, ◌∙◌, subst, arith, length-append}
use Rattle.std.proofs.lemmas.Bool.{false≢true, and_parts}
use Rattle.std.proofs.lemmas.Bool.Decides.{nat_tests}
use Rattle.std.proofs.lemmas.List.Concat.{flat_map-append}
use Rattle.hb_conn.specs.Connection.{Connection}
use Rattle.hb_conn.specs.Observed.{outgoing, streams, sides}
use Rattle.hb_frames.specs.Numbers.{data_kind}
use Rattle.hb_frames.specs.RawFrame.{RawFrame}
use Rattle.hb_held.specs.Held.{Resources}
use Rattle.hb_history.proofs.First.{NoData, data_stands_first}
use Rattle.hb_history.proofs.Fitting.{data_fits}
use Rattle.hb_history.proofs.Lives.{active_some}
use Rattle.hb_history.specs.Fits.{AllFit}
use Rattle.hb_history.specs.History.{StandsFor as ConnStandsFor}
use Rattle.hb_history.specs.Points.{frames_got}
use Rattle.hb_history.specs.Waits.{IsFirstBy}
use Rattle.hb_inbound.proofs.Admitted.{KnowsBy}
use Rattle.hb_inbound.proofs.AdmittedRun.{all_admit}
use Rattle.hb_inbound.proofs.EndsRun.{all_say, new_streams}
use Rattle.hb_inbound.proofs.LifeRun.{LateBy}
use Rattle.hb_inbound.proofs.Runs.{all_keep}
use Rattle.hb_inbound.proofs.Sending.{Sends}
use Rattle.hb_inbound.proofs.SendsRun.{GoesBy, all_send}
use Rattle.hb_inbound.proofs.Waiting.{Serves, WaitsIn, speaks}
use Rattle.hb_inbound.proofs.WaitingRun.{all_wait}
use Rattle.hb_inbound.specs.Calm.{up_wants}
use Rattle.hb_inbound.specs.Inbound.{Inbound, Phase, unborn, arriving, fronting, serving, faulted, closing, closed}
use Rattle.hb_inbound.specs.Part.{Part, moves, tellings}
use Rattle.hb_inbound.specs.Runs.{Local, StandsFor}
use Rattle.hb_inbound.specs.Sides.{conn_came, link_went, up_came}
use Rattle.hb_inbound.specs.Tunnel.{unasked, live, takes_place}
use Rattle.hb_kept.proofs.Begun.{have_begun}
use Rattle.hb_kept.specs.Payloads.{payload_on, payloads}
use Rattle.hb_outgoing.proofs.Sent.{begins_by_place}
use Rattle.hb_outgoing.specs.Selected.{has_data}
use Rattle.hb_outgoing.specs.Waiting.{spelled}
use Rattle.hb_streams.specs.declared.role.Role.TheVariants.{Server}
use Rattle.hb_laws.proofs.Spelled.{begun_read}

-- DATA THAT WAITS

no_payload : (kind on : Bool) (xs : List ℕ) → (kind && not (length xs == 0)) ≡ false → length (cond (kind && on) xs []) ≡ 0
no_payload true true xs none = by (length xs == 0) refl none
  where
    by : (b : Bool) → (length xs == 0) ≡ b → not b ≡ false → length xs ≡ 0
    by true is none = grind (arith, nat_tests, is)
    by false is none = absurd (false≢true (sym none))
no_payload true false xs none = refl
no_payload false on xs none = refl

within_payload : (b : Bool) (xs : List ℕ) → length (cond b xs []) ≤ length xs
within_payload true xs = omega arith
within_payload false xs = omega arith

none_waits : (s : ℕ) (fs : List RawFrame) → NoData fs → length (payloads s fs) ≡ 0
none_waits s [] none = refl
none_waits s (f ∷ fs) none =
    omega (
      arith,
      length-append (payload_on s f) (payloads s fs),
      no_payload (f.kind == data_kind) (f.stream == s) f.payload none.0,
      none_waits s fs none.1,
    )

-- at most one frame of DATA with payload waits, and the largest has 16,384 octets
one_waits : (s : ℕ) (rest : List ℕ) (fs : List RawFrame) → IsFirstBy rest fs
    → ((f : RawFrame) (more : List RawFrame) → fs ≡ f ∷ more → has_data f ≡ true → length f.payload ≤ 16384)
    → length (payloads s fs) ≤ 16384
one_waits s rest [] first size = omega arith
one_waits s rest (f ∷ fs) first size = by (has_data f) refl
  where
    by : (b : Bool) → has_data f ≡ b → length (payloads s (f ∷ fs)) ≤ 16384
    by true is =
        omega (
          arith,
          size f fs refl is,
          within_payload (f.kind == data_kind && f.stream == s) f.payload,
          length-append (payload_on s f) (payloads s fs),
          none_waits s fs first.1,
        )
    by false is =
        omega (
          arith,
          no_payload (f.kind == data_kind) (f.stream == s) f.payload is,
          length-append (payload_on s f) (payloads s fs),
          none_waits s fs first.1,
        )

-- A LIVE TUNNEL

-- its link serves
serves_live : (phase : Phase) (x : Inbound) (parts : List Part) (s : ℕ) → (x.tunnels s).stage ≡ live → KnowsBy phase parts x
    → LateBy phase parts x → phase ≡ serving
serves_live unborn x parts s is knows late = absurd (let no : unasked ≡ live = sym (knows s) ∙ is in cc)
serves_live arriving x parts s is knows late = absurd (let no : unasked ≡ live = sym (knows s) ∙ is in cc)
serves_live fronting x parts s is knows late = absurd (let no : unasked ≡ live = sym (knows s) ∙ is in cc)
serves_live serving x parts s is knows late = refl
serves_live (faulted code) x parts s is knows late = absurd (false≢true (sym (late.0 s) ∙ ap takes_place is))
serves_live (closing why) x parts s is knows late = absurd (false≢true (sym (late s) ∙ ap takes_place is))
serves_live closed x parts s is knows late = absurd (false≢true (sym (late s) ∙ ap takes_place is))

module _ (l : ℕ) (start : Resources) (a : Local) (parts : List Part) (run : StandsFor l start a parts) (s : ℕ) (bytes : List ℕ)
    (is_live : (a.link.tunnels s).stage ≡ live) (some : 0 < length bytes) (most : length bytes ≤ up_wants (a.link.tunnels s)) where
  abbrev x : Inbound
  x = a.link

  abbrev c : Connection
  c = x.conn

  stands : ConnStandsFor Server (moves parts) (tellings parts) (conn_came parts) (link_went parts) c
  stands = (all_keep l start a parts run).one.stands

  size : (f : RawFrame) (more : List RawFrame) → (outgoing c).queue ≡ f ∷ more → has_data f ≡ true → length f.payload ≤ 16384
  size f more queue payload =
      let n = length (outgoing c).rest + 1 in
      let begins = (begins_by_place (outgoing c) n [] more f queue).0 (omega arith) in
      ((subst (λ (fs : List RawFrame). AllFit stands.begun (frames_got (moves parts)) fs) begins.1
      (data_fits Server (moves parts) (tellings parts) (conn_came parts) (link_went parts) c stands n)).0 payload).size

  serves : x.phase ≡ serving
  serves = serves_live x.phase x parts s is_live (all_admit l start a parts run).knows (all_say new_streams l start a parts run).late

  -- its way down hasn't ended, so this end's side of its stream is open
  goes_down : (has_ended : Bool) → (x.tunnels s).ways.down.has_ended ≡ has_ended → has_ended ≡ false
  goes_down false is = refl
  goes_down true is =
      let none : up_wants (x.tunnels s) ≡ 0 =
      ap (λ (b : Bool). cond b 0 (16384 - length (x.tunnels s).ways.down.held)) is in
      absurd (omega (arith, some, most, none))

  goes_on : (x.tunnels s).ways.down.has_ended ≡ false
  goes_on = goes_down (x.tunnels s).ways.down.has_ended refl

  open_yet : (b : Bool) → (x.tunnels s).end_put ≡ b → (x.tunnels s).end_put ≡ false
  open_yet false is = is
  open_yet true is =
      let waits : Serves x = subst (λ (ph : Phase). WaitsIn ph x) serves (all_wait l start a parts run) in
      let t = x.tunnels s in
      let done = and_parts t.ways.down.has_ended (length t.ways.down.held == 0) ((waits.each s).spent is) in
      absurd (false≢true (sym goes_on ∙ done.0))

  -- what came goes in frames that have begun, but for the frame that waits and the ring
  pub down_within : (begun : List RawFrame) → Sends parts begun c s (x.tunnels s)
      → length (up_came s parts) + length bytes ≤ length (payloads s begun) + 16384 + 16384
  down_within begun sends =
      let t = x.tunnels s in
      let queue = (outgoing c).queue in
      let all = all_send l start a parts run in
      let waits : Serves x = subst (λ (ph : Phase). WaitsIn ph x) serves (all_wait l start a parts run) in
      let own = (waits.each s).own (ap speaks is_live) (open_yet t.end_put refl) in
      let active = active_some (streams c) s (ap (λ b. b || (sides c s).peer) own) in
      let over = subst (λ (ph : Phase). GoesBy ph c) serves all.goes in
      let follows = sends.follows in
      let rest : follows.rest ≡ t.ways.down.held = follows.goes (over, active) in
      let room : up_wants t ≡ 16384 - length t.ways.down.held =
      ap (λ (b : Bool). cond b 0 (16384 - length t.ways.down.held)) goes_on in
      omega (
        arith,
        some,
        most,
        room,
        one_waits s (outgoing c).rest queue
            (data_stands_first Server (moves parts) (tellings parts) (conn_came parts) (link_went parts) c stands) size,
        ap (λ (xs : List ℕ). length xs) follows.front,
        length-append (payloads s (begun ++ queue)) follows.rest,
        ap (λ (xs : List ℕ). length xs) rest,
        ap (λ (xs : List ℕ). length xs) (flat_map-append (payload_on s) begun queue),
        length-append (payloads s begun) (payloads s queue),
      )

  -- so it is where these whole frames went
  pub down_fits : (frames : List RawFrame) → link_went parts ≡ spelled frames
      → length (up_came s parts) + length bytes ≤ length (payloads s frames) + 16384 + 16384
  down_fits frames went =
      let all = all_send l start a parts run in
      let began = have_begun (link_went parts) (outgoing c).rest all.begun (outgoing c).begun all.shows all.ends in
      subst (λ (fs : List RawFrame). length (up_came s parts) + length bytes ≤ length (payloads s fs) + 16384 + 16384)
      (begun_read (link_went parts) frames all.begun began went) (down_within all.begun (all.sends s))
