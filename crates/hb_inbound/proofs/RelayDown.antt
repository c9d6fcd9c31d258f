-- The relay law of the way down, in every run of a link.
use Rattle.std.proofs.Common.{◌≡◌, inl, inr, ℕ, ◌==◌, ◌&&◌, ◌||◌, not, Bool, true, false, cond, List, [], ◌∷◌, ◌++◌, length, Option, refl, ap, ap₂, sym, ◌∙◌, subst, arith}
use Rattle.std.specs.List.{list_any}
use Rattle.std.proofs.lemmas.Bool.{false≢true, and_parts, not-true, or_parts}
use Rattle.std.proofs.lemmas.Bool.Decides.{nat_tests}
use Rattle.std.proofs.lemmas.Grind.{flat_map-append}
use Rattle.std.proofs.lemmas.List.{append-nil, append_assoc, nil_from_length}
use Rattle.hb_conn.specs.Observed.{outgoing, streams, sides}
use Rattle.hb_frames.specs.Numbers.{data_kind}
use Rattle.hb_frames.specs.RawFrame.{RawFrame}
use Rattle.hb_held.specs.Held.{Resources}
use Rattle.hb_history.specs.TakenBack.{has_data_on}
use Rattle.hb_history.proofs.Lives.{active_some}
use Rattle.hb_kept.specs.Payloads.{payload_on, payloads}
use Rattle.hb_kept.proofs.Begun.{EndsIn, last_went, have_begun}
use Rattle.hb_outgoing.specs.declared.head.Head.{Head}
use Rattle.hb_outgoing.specs.Laws.{Shows}
use Rattle.hb_outgoing.specs.Waiting.{spelled}
use Rattle.hb_tunnel.specs.Way.{is_done}
use Rattle.hb_inbound.specs.Calm.{may_end, data_waits, is_data_on}
use Rattle.hb_inbound.specs.Inbound.{Phase}
use Rattle.hb_inbound.specs.Laws.{RunsRelayDown}
use Rattle.hb_inbound.specs.Part.{Part, entry, up, welcomed, crowded, lacked, fronted, misfronted, looked, decided, accepted, refused, reset, left, done, put, finished, credited, applied, stopped}
use Rattle.hb_inbound.specs.Relay.{EndsBehind, MayEnd}
use Rattle.hb_inbound.specs.Runs.{Local, Steps, StandsFor, IsLiveOn}
use Rattle.hb_inbound.specs.Sides.{link_went}
use Rattle.hb_inbound.specs.Tunnel.{is_live}
use Rattle.hb_inbound.proofs.Grown.{at_parts}
use Rattle.hb_inbound.proofs.RelaysRun.{all_relay}
use Rattle.hb_inbound.proofs.SendsRun.{AllSend, GoesBy, all_send}
use Rattle.hb_inbound.proofs.Waiting.{Serves, WaitsIn, speaks}
use Rattle.hb_inbound.proofs.WaitingRun.{all_wait}

-- where no DATA of the stream waits no payload does
none_by : (kind on : Bool) (xs : List ℕ) → ((kind && not (length xs == 0)) && on) ≡ false → cond (kind && on) xs [] ≡ []
none_by true true xs none = empty (length xs == 0) refl none
  where
    empty : (b : Bool) → (length xs == 0) ≡ b → ((true && not b) && true) ≡ false → xs ≡ []
    empty true is none = nil_from_length xs (grind (arith, nat_tests, is))
    empty false is none = absurd (false≢true (sym none))
none_by true false xs none = refl
none_by false on xs none = refl

none_waits : (s : ℕ) (fs : List RawFrame) → list_any (has_data_on s) fs ≡ false → payloads s fs ≡ []
none_waits s [] none = refl
none_waits s (f ∷ fs) none =
    ap₂ (λ (xs ys : List ℕ). xs ++ ys)
    (none_by (f.kind == data_kind) (f.stream == s) f.payload (or_parts (has_data_on s f) (list_any (has_data_on s) fs) none).0)
    (none_waits s fs (or_parts (has_data_on s f) (list_any (has_data_on s) fs) none).1)

-- the frames of which all octets went have all DATA of the stream, where none of it is left of the last one
record Whole (s : ℕ) (went : List ℕ) (begun : List RawFrame) : Type 0 where
  pub frames : List RawFrame
  pub part : List ℕ
  pub sent : went ≡ spelled frames ++ part
  pub all : payloads s begun ≡ payloads s frames

no_payload : (s : ℕ) (f : RawFrame) → (f.kind == data_kind && f.stream == s) ≡ false → payload_on s f ≡ []
no_payload s f none = ap (λ (b : Bool). cond b f.payload []) none

whole_went : (s : ℕ) (went : List ℕ) (begun : List RawFrame) (rest : List ℕ) (head : Option Head) → is_data_on s head ≡ false
    → Shows [] went begun (record { rest = rest; begun = head; queue = [] }) → EndsIn begun rest head → Whole s went begun
whole_went s went begun rest head none shows (inl empty) = record {
  frames = begun;
  part = [];
  sent = sym (append-nil went) ∙ ap (λ (xs : List ℕ). went ++ xs) (sym empty) ∙ shows ∙ sym (append-nil (spelled begun));
  all = refl;
}
whole_went s went begun rest head none shows (inr is) = record {
  frames = is.before;
  part = is.part;
  sent = last_went went rest begun head is shows;
  all = ap (payloads s) is.last ∙ flat_map-append (payload_on s) is.before (is.frame ∷ [])
      ∙ ap (λ (xs : List ℕ). payloads s is.before ++ xs)
      (append-nil (payload_on s is.frame) ∙ no_payload s is.frame (sym (ap (is_data_on s) is.head_is) ∙ none))
      ∙ append-nil (payloads s is.before);
}

module _ (l : ℕ) (start : Resources) (a : Local) (before : List Part) (stands : StandsFor l start a before) where
  ends : (s : ℕ) → IsLiveOn s a.link → may_end a.link.conn s (a.link.tunnels s) ≡ true → EndsBehind before s
  ends s is may =
      let t = a.link.tunnels s in
      let c = a.link.conn in
      let all : AllSend before a.link = all_send l start a before stands in
      let sends = all.sends s in
      let relays = all_relay l start a before stands s in
      let parts_of = is_done t.ways.down && not t.end_put in
      let done = (and_parts (is_done t.ways.down) (not t.end_put) (and_parts parts_of (not (data_waits c s)) may).0).0 in
      let open_end = not-true t.end_put
      ((and_parts (is_done t.ways.down) (not t.end_put) (and_parts parts_of (not (data_waits c s)) may).0).1) in
      let silent = not-true (data_waits c s) (and_parts parts_of (not (data_waits c s)) may).1 in
      let none = none_waits s (outgoing c).queue (or_parts (list_any (has_data_on s) (outgoing c).queue) _ silent).0 in
      let serves : Serves a.link = subst (λ (ph : Phase). WaitsIn ph a.link) is.0 (all_wait l start a before stands) in
      let own = (serves.each s).own (ap speaks is.2) open_end in
      let goes = subst (λ (ph : Phase). GoesBy ph c) is.0 all.goes in
      let active = active_some (streams c) s (ap (λ b. b || (sides c s).peer) own) in
      let held : t.ways.down.held ≡ [] =
      nil_from_length t.ways.down.held (grind (arith, nat_tests, (and_parts t.ways.down.has_ended (length t.ways.down.held == 0) done).1))
      in
      let went = whole_went s (link_went before) all.begun (outgoing c).rest (outgoing c).begun
      (or_parts (list_any (has_data_on s) (outgoing c).queue) _ silent).1 all.shows all.ends in
      let rest : sends.follows.rest ≡ [] = sends.follows.goes (goes, active) ∙ held in
      record {
        accepted = relays.lives (ap is_live is.2);
        ended = sends.ended (and_parts t.ways.down.has_ended (length t.ways.down.held == 0) done).0;
        frames = went.frames;
        part = went.part;
        sent = went.sent;
        whole = sends.follows.front
            ∙ ap₂ (λ (xs ys : List ℕ). xs ++ ys)
            (flat_map-append (payload_on s) all.begun (outgoing c).queue
            ∙ ap (λ (xs : List ℕ). payloads s all.begun ++ xs) none ∙ append-nil (payloads s all.begun)) rest
            ∙ append-nil (payloads s all.begun) ∙ went.all;
      }

next : (l : ℕ) (start : Resources) (a b : Local) (before : List Part) (p : Part) → StandsFor l start a before → Steps l a p b
    → MayEnd before p
next l start a b before (finished s) stands steps = ends l start a before stands s steps.0 steps.1
next l start a b before (entry x) stands steps = tt
next l start a b before (up s x) stands steps = tt
next l start a b before welcomed stands steps = tt
next l start a b before crowded stands steps = tt
next l start a b before lacked stands steps = tt
next l start a b before (fronted seen) stands steps = tt
next l start a b before (misfronted fault) stands steps = tt
next l start a b before (looked ps told headers) stands steps = tt
next l start a b before (decided s full answer) stands steps = tt
next l start a b before (accepted s made) stands steps = tt
next l start a b before (refused s status resets made) stands steps = tt
next l start a b before (reset s code made) stands steps = tt
next l start a b before (left s made) stands steps = tt
next l start a b before (done s made) stands steps = tt
next l start a b before (put s bytes) stands steps = tt
next l start a b before (credited s n) stands steps = tt
next l start a b before (applied r) stands steps = tt
next l start a b before (stopped why) stands steps = tt

pub relay_down : RunsRelayDown
relay_down l start a parts stands =
    let all = all_send l start a parts stands in
    let queue = (outgoing a.link.conn).queue in
    record {
      downs = λ s.
          let follows = (all.sends s).follows in
          record {
            begun = all.begun;
            began = have_begun (link_went parts) (outgoing a.link.conn).rest all.begun (outgoing a.link.conn).begun all.shows all.ends;
            rest = payloads s queue ++ follows.rest;
            front = follows.front
                ∙ ap (λ (xs : List ℕ). xs ++ follows.rest) (flat_map-append (payload_on s) all.begun queue)
                ∙ append_assoc (payloads s all.begun) (payloads s queue) follows.rest;
          };
      places = at_parts l start MayEnd (next l start) a parts stands;
    }
