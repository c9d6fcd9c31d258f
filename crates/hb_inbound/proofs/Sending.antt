-- What every run of a link keeps of the bytes that come from upstreams and go on its streams.
use Rattle.std.proofs.Common.{◌≡◌, ℕ, ◌+◌, ◌<◌, ◌≤◌, ◌==◌, ◌&&◌, Bool, true, false, cond, List, [], ◌∷◌, ◌++◌, length, Some, refl, ap, ap₂, sym, ◌∙◌, subst, arith, length-append}
use Rattle.std.specs.Prelude.{nat_lt}
use Rattle.std.specs.List.{filter, sum_by}
use Rattle.std.proofs.lemmas.Bool.Decides.{nat_tests}
use Rattle.std.proofs.lemmas.Grind.{flat_map-append}
use Rattle.std.proofs.lemmas.List.{append_assoc, append-nil}
use Rattle.std.proofs.lemmas.List.Sums.{sum_by-cons}
use Rattle.hb_base.specs.declared.cause.Cause.{Cause}
use Rattle.hb_conn.specs.Connection.{Connection}
use Rattle.hb_conn.specs.Observed.{outgoing}
use Rattle.hb_frames.specs.Numbers.{data_kind}
use Rattle.hb_frames.specs.RawFrame.{RawFrame}
use Rattle.hb_kept.specs.Payloads.{payload_on, payloads, Follows}
use Rattle.hb_outgoing.specs.Selected.{is_data_of, payload_size, data_size}
use Rattle.hb_tunnel.specs.Way.{Way}
use Rattle.hb_inbound.specs.Part.{Part}
use Rattle.hb_inbound.specs.Sides.{up_came_in, up_came, is_up_end, Was}
use Rattle.hb_inbound.specs.Tunnel.{Tunnel, Stage, unasked, requested, refusing, malformed, due, opening, accepting, live, failed, ended, over, gone, ends_by}
use Rattle.hb_inbound.proofs.Grown.{one_more}
use Rattle.hb_inbound.proofs.Relaying.{none_in, was_more}

-- nothing was asked for, or the request isn't answered
abbrev pub is_early : Stage → Bool
is_early unasked = true
is_early (requested headers end) = true
is_early _ = false

-- what came from the upstream has begun on the stream, waits to begin, or waits to be put; nothing came before the request is answered;
-- what has begun is counted; the way down has ended where the upstream did
pub record Sends (parts : List Part) (begun : List RawFrame) (c : Connection) (s : ℕ) (t : Tunnel) : Type 0 where
  pub follows : Follows s begun (up_came s parts) t.ways.down.held c
  pub early : is_early t.stage ≡ true → (t.ways.down.held ≡ []) × (up_came s parts ≡ [])
  pub counts : t.went_down ≡ length (payloads s begun)
  pub ended : t.ways.down.has_ended ≡ true → Was (is_up_end s) parts

-- with a part that brings these bytes from the upstream
pub sends_on : (parts : List Part) (p : Part) (begun : List RawFrame) (d : Connection) (s : ℕ) (new : Tunnel) (comes : List ℕ)
    → up_came_in s p ≡ comes → Follows s begun (up_came s parts ++ comes) new.ways.down.held d
    → (is_early new.stage ≡ true → (new.ways.down.held ≡ []) × (up_came s parts ++ comes ≡ []))
    → new.went_down ≡ length (payloads s begun)
    → (new.ways.down.has_ended ≡ true → Was (is_up_end s) (parts ++ p ∷ [])) → Sends (parts ++ p ∷ []) begun d s new
sends_on parts p begun d s new comes came follows early counts ends =
    let came_now : up_came s (parts ++ p ∷ []) ≡ up_came s parts ++ comes =
    one_more (up_came_in s) parts p ∙ ap (λ (xs : List ℕ). up_came s parts ++ xs) came in
    record {
      follows = subst (λ (xs : List ℕ). Follows s begun xs new.ways.down.held d) (sym came_now) follows;
      early = λ now. ((early now).0, came_now ∙ (early now).1);
      counts = counts;
      ended = ends;
    }

-- a tunnel whose way down and count are the same, and whose stage is early only where it was
pub record AlikeDown (old new : Tunnel) : Type 0 where
  pub way : new.ways.down ≡ old.ways.down
  pub went : new.went_down ≡ old.went_down
  pub stage : is_early new.stage ≡ true → is_early old.stage ≡ true

-- the payload of a stream's DATA frames is as long as it is counted
size_of : (s : ℕ) (fs : List RawFrame) → data_size (Some s) fs ≡ length (payloads s fs)
size_of s [] = refl
size_of s (f ∷ fs) = by (f.kind == data_kind && f.stream == s) (size_of s fs)
  where
    by : (b : Bool) → data_size (Some s) fs ≡ length (payloads s fs)
        → sum_by payload_size (cond b (f ∷ filter (is_data_of (Some s)) fs) (filter (is_data_of (Some s)) fs))
        ≡ length (cond b f.payload [] ++ payloads s fs)
    by true rest =
        sum_by-cons payload_size f (filter (is_data_of (Some s)) fs) ∙ ap (λ (n : ℕ). length f.payload + n) rest
        ∙ sym (length-append f.payload (payloads s fs))
    by false rest = rest

-- with a part that brings none
pub quiet_down : (parts : List Part) (p : Part) (begun : List RawFrame) (c d : Connection) (s : ℕ) (old new : Tunnel)
    → up_came_in s p ≡ [] → ((all waiting : List ℕ) → Follows s begun all waiting c → Follows s begun all waiting d) → AlikeDown old new
    → Sends parts begun c s old → Sends (parts ++ p ∷ []) begun d s new
quiet_down parts p begun c d s old new none stays alike is =
    sends_on parts p begun d s new [] none
    (subst (λ (w : Way). Follows s begun (up_came s parts ++ []) w.held d) (sym alike.way)
    (subst (λ (xs : List ℕ). Follows s begun xs old.ways.down.held d) (sym (append-nil (up_came s parts)))
    (stays (up_came s parts) old.ways.down.held is.follows)))
    (λ early. (
      ap (λ (w : Way). w.held) alike.way ∙ (is.early (alike.stage early)).0,
      append-nil (up_came s parts) ∙ (is.early (alike.stage early)).1,
    ))
    (alike.went ∙ is.counts)
    (λ ends. was_more (is_up_end s) parts p (is.ended (sym (ap (λ (w : Way). w.has_ended) alike.way) ∙ ends)))

-- with octets that are written frames begin, and their payload is counted
pub begins_down : (parts : List Part) (p : Part) (begun more : List RawFrame) (d : Connection) (s : ℕ) (old new : Tunnel)
    → up_came_in s p ≡ [] → Follows s (begun ++ more) (up_came s parts) old.ways.down.held d → new.ways.down ≡ old.ways.down
    → new.stage ≡ old.stage → new.went_down ≡ old.went_down + data_size (Some s) more → (c : Connection) → Sends parts begun c s old
    → Sends (parts ++ p ∷ []) (begun ++ more) d s new
begins_down parts p begun more d s old new none follows way stage went c is =
    sends_on parts p (begun ++ more) d s new [] none
    (subst (λ (w : Way). Follows s (begun ++ more) (up_came s parts ++ []) w.held d) (sym way)
    (subst (λ (xs : List ℕ). Follows s (begun ++ more) xs old.ways.down.held d) (sym (append-nil (up_came s parts))) follows))
    (λ early. (
      ap (λ (w : Way). w.held) way ∙ (is.early (sym (ap is_early stage) ∙ early)).0,
      append-nil (up_came s parts) ∙ (is.early (sym (ap is_early stage) ∙ early)).1,
    ))
    (went ∙ ap₂ ◌+◌ is.counts (size_of s more) ∙ sym (length-append (payloads s begun) (payloads s more))
    ∙ sym (ap length (flat_map-append (payload_on s) begun more)))
    (λ ends. was_more (is_up_end s) parts p (is.ended (sym (ap (λ (w : Way). w.has_ended) way) ∙ ends)))

-- nothing has begun where nothing came
pub none_begun : (s : ℕ) (begun : List RawFrame) (came waiting : List ℕ) (c : Connection) → came ≡ [] → Follows s begun came waiting c
    → 0 ≡ length (payloads s begun)
none_begun s begun came waiting c none follows =
    let queue = (outgoing c).queue in
    let all : [] ≡ payloads s begun ++ (payloads s queue ++ follows.rest) =
    sym none ∙ follows.front ∙ ap (λ (xs : List ℕ). xs ++ follows.rest) (flat_map-append (payload_on s) begun queue)
    ∙ append_assoc (payloads s begun) (payloads s queue) follows.rest in
    sym (ap length (none_in (payloads s begun) (payloads s queue ++ follows.rest) all).1)

pub ends_early : (why : Cause) (stage : Stage) → is_early (ends_by why stage) ≡ true → is_early stage ≡ true
ends_early why unasked early = early
ends_early why (requested headers end) early = early
ends_early why (refusing status target) early = early
ends_early why malformed early = early
ends_early why due early = early
ends_early why opening early = early
ends_early why accepting early = early
ends_early why live early = early
ends_early why (failed cause) early = early
ends_early why (ended cause) early = early
ends_early why (over cause) early = early
ends_early why gone early = early

-- a number that isn't above is at most
pub reached : (high n : ℕ) → (high < n → ⊥) → n ≤ high
reached high n never = by (nat_lt high n) refl
  where
    by : (b : Bool) → nat_lt high n ≡ b → n ≤ high
    by true is = absurd (never (grind (arith, nat_tests, is)))
    by false is = grind (arith, nat_tests, is)
