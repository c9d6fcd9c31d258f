-- Of which tunnels DATA waits to be written, in every run of a link: of those that live, and of those that ended whose streams are still
-- to be reset.
use Rattle.std.proofs.Common.{◌≡◌, ℕ, ◌&&◌, not, Bool, true, false, is_some, ap, sym, ◌∙◌, subst}
use Rattle.hb_base.specs.declared.cause.Cause.{Cause}
use Rattle.hb_conn.specs.Connection.{Connection}
use Rattle.hb_conn.specs.Observed.{outgoing, own_side_open}
use Rattle.hb_kept.specs.DataWaits.{StreamSet, no_stream, WaitsWithin}
use Rattle.hb_kept.proofs.DataWaits.{within_more}
use Rattle.hb_tunnel.specs.Way.{is_done}
use Rattle.hb_inbound.specs.Inbound.{Inbound, Phase, unborn, arriving, fronting, serving, faulted, closing, closed, at_stream}
use Rattle.hb_inbound.specs.Runs.{end_code}
use Rattle.hb_inbound.specs.Tunnel.{Tunnel, Stage, unasked, requested, due, opening, accepting, live, ended}
use Rattle.hb_inbound.proofs.Admitted.{at_one}

abbrev pub has_code : Cause → Bool
has_code why = is_some (end_code why)

-- DATA may wait: it lives, or it ended and its stream is to be reset; but for one whose stream this end has ended
abbrev pub holds_data : Stage → Bool
holds_data live = true
holds_data (ended why) = has_code why
holds_data _ = false

abbrev pub may_wait : Tunnel → Bool
may_wait t = not t.end_put && holds_data t.stage

abbrev pub set_of : Inbound → StreamSet
set_of x = λ s. may_wait (x.tunnels s)

-- this end's side of its stream is still open, unless this end has ended it
abbrev pub speaks : Stage → Bool
speaks (requested headers end) = true
speaks due = true
speaks opening = true
speaks accepting = true
speaks live = true
speaks (ended why) = has_code why
speaks _ = false

-- it doesn't live yet
abbrev pub is_before : Stage → Bool
is_before unasked = true
is_before (requested headers end) = true
is_before due = true
is_before opening = true
is_before accepting = true
is_before _ = false

-- what holds of the tunnel on a stream
pub record Fits (c : Connection) (s : ℕ) (t : Tunnel) : Type 0 where
  pub own : speaks t.stage ≡ true → t.end_put ≡ false → own_side_open c s ≡ true
  pub spent : t.end_put ≡ true → is_done t.ways.down ≡ true
  pub early : is_before t.stage ≡ true → t.end_put ≡ false

pub record Serves (x : Inbound) : Type 0 where
  pub each : (s : ℕ) → Fits x.conn s (x.tunnels s)
  pub waits : WaitsWithin (set_of x) (outgoing x.conn)

abbrev pub IsNew : Tunnel → Type 0
IsNew t = (t.stage ≡ unasked) × (t.end_put ≡ false)

abbrev pub WaitsIn : Phase → Inbound → Type 0
WaitsIn unborn x = (s : ℕ) → IsNew (x.tunnels s)
WaitsIn arriving x = (s : ℕ) → IsNew (x.tunnels s)
WaitsIn fronting x = (s : ℕ) → IsNew (x.tunnels s)
WaitsIn serving x = Serves x
WaitsIn (faulted code) x = WaitsWithin no_stream (outgoing x.conn)
WaitsIn _ x = Unit {0}

-- a change of a tunnel while the connection stays: this end's side is no longer needed than before, no DATA is forgotten, and an end
-- that was put stays behind all bytes
pub record IsGentle (old new : Tunnel) : Type 0 where
  pub own : speaks new.stage ≡ true → new.end_put ≡ false → (speaks old.stage ≡ true) × (old.end_put ≡ false)
  pub waits : may_wait old ≡ true → may_wait new ≡ true
  pub spent : (old.end_put ≡ true → is_done old.ways.down ≡ true) → new.end_put ≡ true → is_done new.ways.down ≡ true
  pub early : (is_before old.stage ≡ true → old.end_put ≡ false) → is_before new.stage ≡ true → new.end_put ≡ false

pub gentle_fits : (c : Connection) (s : ℕ) (old new : Tunnel) → IsGentle old new → Fits c s old → Fits c s new
gentle_fits c s old new gentle fits = record {
  own = λ speaks_now open_now. fits.own (gentle.own speaks_now open_now).0 (gentle.own speaks_now open_now).1;
  spent = gentle.spent fits.spent;
  early = gentle.early fits.early;
}

-- none changes: it is gentle
pub gentle_same : (t : Tunnel) → IsGentle t t
gentle_same t = record {
  own = λ speaks_now open_now. (speaks_now, open_now);
  waits = λ is. is;
  spent = λ was. was;
  early = λ was. was;
}

-- all tunnels change gently, while the connection has the same output and the same sides
pub serves_on : (x y : Inbound) → outgoing y.conn ≡ outgoing x.conn → ((s : ℕ) → own_side_open y.conn s ≡ own_side_open x.conn s)
    → ((s : ℕ) → IsGentle (x.tunnels s) (y.tunnels s)) → Serves x → Serves y
serves_on x y out own gentle serves = record {
  each = λ s.
      let fits = gentle_fits x.conn s (x.tunnels s) (y.tunnels s) (gentle s) (serves.each s) in
      record { own = λ speaks_now open_now. own s ∙ fits.own speaks_now open_now; spent = fits.spent; early = fits.early };
  waits = subst (WaitsWithin (set_of y)) (sym out)
      (within_more (set_of x) (set_of y) (outgoing x.conn) (λ s. (gentle s).waits) serves.waits);
}

-- in whatever phase
pub waits_on : (phase : Phase) (x y : Inbound) → y.conn ≡ x.conn → ((s : ℕ) → IsGentle (x.tunnels s) (y.tunnels s))
    → ((s : ℕ) → IsNew (x.tunnels s) → IsNew (y.tunnels s)) → WaitsIn phase x → WaitsIn phase y
waits_on unborn x y conn gentle new waits = λ s. new s (waits s)
waits_on arriving x y conn gentle new waits = λ s. new s (waits s)
waits_on fronting x y conn gentle new waits = λ s. new s (waits s)
waits_on serving x y conn gentle new waits =
    serves_on x y (ap outgoing conn) (λ s. ap (λ (c : Connection). own_side_open c s) conn) gentle waits
waits_on (faulted code) x y conn gentle new waits = subst (λ (c : Connection). WaitsWithin no_stream (outgoing c)) (sym conn) waits
waits_on (closing why) x y conn gentle new waits = tt
waits_on closed x y conn gentle new waits = tt

-- one tunnel does, which was asked for
pub one_waits : (x y : Inbound) (s : ℕ) (change : Tunnel → Tunnel) → y.conn ≡ x.conn → y.phase ≡ x.phase
    → y.tunnels ≡ (at_stream s change x).tunnels → ((x.tunnels s).stage ≡ unasked → ⊥) → IsGentle (x.tunnels s) (change (x.tunnels s))
    → WaitsIn x.phase x → WaitsIn y.phase y
one_waits x y s change conn phase tunnels asked gentle waits =
    let tunnel : (k : ℕ) → y.tunnels k ≡ (at_stream s change x).tunnels k = λ k. ap (λ (f : ℕ → Tunnel). f k) tunnels in
    subst (λ (ph : Phase). WaitsIn ph y) (sym phase)
    (waits_on x.phase x y conn
    (λ k. subst (IsGentle (x.tunnels k)) (sym (tunnel k))
    (at_one s change x (λ j t. IsGentle (x.tunnels j) t) gentle (λ j apart. gentle_same (x.tunnels j)) k))
    (λ k. subst (λ (t : Tunnel). IsNew (x.tunnels k) → IsNew t) (sym (tunnel k))
    (at_one s change x (λ j t. IsNew (x.tunnels j) → IsNew t) (λ new. absurd (asked new.0)) (λ j apart new. new) k))
    waits)
