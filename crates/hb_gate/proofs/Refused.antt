-- What no call of a link may be, a link that may be shown, and whether bytes may be put there.
use Rattle.std.proofs.Common.{◌≡◌, ◌⊎◌, inl, inr, ℕ, ◌&&◌, not, nat_le, Bool, true, false, cond, Option, Some, None, is_ok, length, refl, ap, sym, ◌∙◌, subst, arith}
use Rattle.std.proofs.lemmas.Bool.{false≢true, and_parts, not-true}
use Rattle.std.specs.FinMap.{get}
use Rattle.hb_conn.specs.Connection.{Connection, fresh_client}
use Rattle.hb_conn.specs.Observed.{next_stream, output, room, own_side_open, count_put}
use Rattle.hb_gateway.specs.Calm as calm
use Rattle.hb_gateway.specs.Calm.{is_failing}
use Rattle.hb_gateway.specs.Gateway as m
use Rattle.hb_gateway.specs.Gateway.{Gateway}
use Rattle.hb_gateway.specs.Keys.{key_as}
use Rattle.hb_gateway.specs.Response as r
use Rattle.hb_kept.specs.Kept.{IsKept}
use Rattle.hb_kept.proofs.Kept.{new_is_kept}
use Rattle.hb_streams.specs.declared.role.Role.TheVariants.{Client}
use Rattle.hb_gate.specs.Refused.{PutsWithoutRoom, AsksElsewhere, OffersAway, ReadsFaulted, ResetsNothing, TellsUnheard, LeavesUntold, ClosesUndue, ClosesAnother, NewIsShown, IsOpenOn, PutsBehindOctets, KeepsBackBehindNone, PutsInTurn, open_on, all_written}
use Rattle.hb_gate.specs.Phases.{phase_of}
use Rattle.hb_gate.specs.Shows.{Shows, ShowsBy, ShowsStream}
use Rattle.hb_gate.specs.declared.gate.Gate.{Gate}
use Rattle.hb_gate.specs.declared.stream.Stream.{Stream}
use Rattle.hb_gate.proofs.Dialled.{begins, none_shown, none_numbered}

pub puts_without_room : PutsWithoutRoom
puts_without_room new s count bytes k x parts stands shows (carries, stage, none, some, puts) =
    let is = (puts.1 x parts stands shows carries stage).0 ∙ by (own_side_open x.conn s) in omega (arith, is, some)
  where
    by : (b : Bool) → cond b (count_put x.conn s bytes) 0 ≡ 0
    by true = none
    by false = refl

pub asks_elsewhere : AsksElsewhere
asks_elsewhere new next s captured to k x parts stands shows (offers, is, apart, asks) =
    let steps = (asks.1 x parts stands shows offers).steps in apart (let both = sym is ∙ steps.1 in cc)

pub offers_away : OffersAway
offers_away k x parts stands shows (away, offers) =
    let all = and_parts (m.carries x.phase) (m.has_room x) (sym (offers x parts stands shows)) in
    let tests = and_parts (not x.away && is_ok (next_stream x.conn)) (nat_le 1024 (room x.conn)) all.1 in
    let more = and_parts (not x.away) (is_ok (next_stream x.conn)) tests.0 in
    false≢true (sym (not-true x.away more.0) ∙ away)

pub reads_faulted : ReadsFaulted
reads_faulted n code k x parts stands shows (phase, wants) =
    let is = wants x shows ∙ ap (λ (p : m.Phase). calm.wants_by p x) phase in omega (arith, is)

-- a stream is at the same stage in each link that the code shows, unless it is unused or over
same_stage : (o : Option Stream) (t u : m.Stream) (code : ℕ) → ShowsStream o t → ShowsStream o u → t.stage ≡ r.failing code
    → is_failing u.stage ≡ true
same_stage None t u code shown other is = absurd (by shown.0)
  where
    by : (t.stage ≡ r.unused) ⊎ (t.stage ≡ r.over) → ⊥
    by (inl was) = let never = sym is ∙ was in cc
    by (inr was) = let never = sym is ∙ was in cc
same_stage (Some old) t u code shown other is = ap is_failing (other.stage ∙ sym shown.stage ∙ is)

pub resets_nothing : ResetsNothing
resets_nothing s code k x parts stands shows (carries, active, fails, resets) =
    let then = resets.1 x parts stands shows carries active in
    false≢true (sym (then.3 s)
    ∙ same_stage (get k.streams s) (x.streams s) (then.0.streams s) code (shows.streams s) (then.2.streams s) fails)

pub tells_unheard : TellsUnheard
tells_unheard new s begun link why k x parts stands shows (none, tells) =
    let steps = (tells.1 x parts stands shows).tells.steps in
    let never : None ≡ Some (r.fails why) = sym none ∙ steps.0 in cc

pub leaves_untold : LeavesUntold
leaves_untold new s heard k x parts stands shows (some, none) =
    let never : Some heard ≡ None = sym some ∙ none.1 x parts stands shows s in cc

pub closes_undue : ClosesUndue
closes_undue new n why k x parts stands shows (is_calm, none, acts) =
    let steps = (acts.2 x parts stands shows is_calm).steps in
    let never : None ≡ Some why = sym none ∙ steps.0.2 in cc

pub closes_another : ClosesAnother
closes_another k new n why apart acts = apart acts.0

pub new_is_shown : NewIsShown
new_is_shown k phase front conn streams away = begins k.number (key_as k.key) k refl phase front conn streams away

-- WHETHER BYTES MAY BE PUT

pub written_kept : IsKept all_written
written_kept =
    let new = new_is_kept Client in
    record { octets = new.octets; caught_up = λ some. new.caught_up (omega arith); preface = new.preface; goes_on = refl }

-- a link that is open on a connection that is kept shows one of the machine, and of each that it shows the connection is that
module _ (conn : Connection) (k : Gate) (is : IsOpenOn conn k) where
  pub open_shown : IsKept conn → Shows k (open_on conn (key_as k.key))
  open_shown kept = record {
    key = refl;
    phase = sym (ap phase_of is.phase);
    way = (sym is.same, kept, sym is.front);
    away = sym is.away;
    streams = none_shown k.streams is.streams m.no_stream refl refl;
    numbered = none_numbered k.streams is.streams;
  }

  pub conn_shown : (x : Gateway) → Shows k x → x.conn ≡ conn
  conn_shown x shows =
      (subst (λ (p : m.Phase). ShowsBy p k x) (shows.phase ∙ ap phase_of is.phase) shows.way).0 ∙ is.same

some_waits : length (output fresh_client) ≡ 0 → ⊥
some_waits none = omega (arith, none)

pub puts_behind_octets : PutsBehindOctets
puts_behind_octets k is says =
    some_waits
    ((says (open_on fresh_client (key_as k.key)) (open_shown fresh_client k is (new_is_kept Client)) refl).0 refl)

pub keeps_back_behind_none : KeepsBackBehindNone
keeps_back_behind_none k is says =
    false≢true
    ((says (open_on all_written (key_as k.key)) (open_shown all_written k is written_kept) refl).1 refl)

pub puts_in_turn : PutsInTurn
puts_in_turn = record {
  waits = λ k is x shows carries. (
    λ may. absurd (false≢true may),
    λ none. absurd (some_waits (ap (λ (c : Connection). length (output c)) (sym (conn_shown fresh_client k is x shows)) ∙ none)),
  );
  written = λ k is x shows carries. (
    λ may. ap (λ (c : Connection). length (output c)) (conn_shown all_written k is x shows),
    λ none. refl,
  );
}
