-- The windows of a connection are what moves of windows make, each as it may be.
use Rattle.std.proofs.Common.{◌≡◌, ℕ, ◌≤◌, ◌==◌, ◌&&◌, Bool, true, false, cond, List, [], ◌∷◌, ◌++◌, fold, Some, refl, ap, sym, ◌∙◌, subst, arith}
use Rattle.std.specs.Prelude.{min, take, length, nat_le}
use Rattle.std.proofs.lemmas.Bool.{false≢true}
use Rattle.std.specs.FinMap.{get}
use Rattle.std.proofs.lemmas.List.Sums.{fold_push}
use Rattle.hb_streams.specs.declared.role.Role.{Role}
use Rattle.hb_streams.specs.declared.role.Role.TheVariants.{Server, Client}
use Rattle.hb_flow.specs.Flows.{Flows, closed, spent, granted, sendable}
use Rattle.hb_flow.specs.Flows.{fresh as fresh_flows}
use Rattle.hb_flow.specs.Moves.{Move, opens, closes, grants, grants_on, resizes, sends, May, AllMay, after_all}
use Rattle.hb_flow.specs.Moves.{after as flow_after}
use Rattle.hb_flow.specs.Laws.{IsWhole}
use Rattle.hb_flow.proofs.Taking.{connection_takes, stream_takes}
use Rattle.hb_outgoing.specs.Waiting.{octets_of}
use Rattle.hb_outgoing.specs.Selected.{data_size}
use Rattle.hb_frames.specs.Numbers.{data_kind, largest}
use Rattle.hb_owed.specs.Debts.{closed as owed_closed}
use Rattle.hb_conn.specs.Frames.{frame, sent}
use Rattle.hb_conn.specs.Faults.{faulted, is_active}
use Rattle.hb_conn.specs.Payload.{count_put}
use Rattle.hb_conn.specs.declared.machine.Core.{Core}
use Rattle.hb_history.specs.History.{fresh}
use Rattle.hb_history.specs.Live.{WindowsMove}
use Rattle.hb_history.specs.Taking.{TakingIsWhole}
use Rattle.hb_history.proofs.Parts.{Amid, calm, amid, Keeps, Puts, PutsAck, Resizes}
use Rattle.hb_history.proofs.Handled.{Grows}
use Rattle.hb_history.proofs.Acted.{runs_keep}

-- windows that moves made
abbrev pub Flowed : Flows → Type 0
Flowed f = (moves : List Move) × (f ≡ after_all moves) × AllMay fresh_flows moves

all_may : (moves : List Move) (f : Flows) (m : Move) → AllMay f moves → May (fold flow_after f moves) m → AllMay f (moves ++ m ∷ [])
all_may [] f m all may = (may, tt)
all_may (x ∷ moves) f m all may = (all.0, all_may moves (flow_after f x) m all.1 may)

pub flowed_on : (f : Flows) (m : Move) → May f m → Flowed f → Flowed (flow_after f m)
flowed_on f m may flowed = (
  flowed.0 ++ m ∷ [],
  ap (λ (g : Flows). flow_after g m) flowed.1 ∙ sym (fold_push flow_after fresh_flows flowed.0 m),
  all_may flowed.0 fresh_flows m flowed.2 (subst (λ (g : Flows). May g m) flowed.1 may),
)

abbrev pub Flow : Amid → Core → Type 0
Flow a c = c.over ≡ false → Flowed c.flow

-- no more is put than both windows let go
within_by : (o a b : Bool) (n x y z : ℕ) → n ≡ cond o 0 (cond (a && b) (min x (min y z)) 0) → n ≤ y
within_by true a b n x y z is = omega (arith, is)
within_by false true true n x y z is = omega (arith, is)
within_by false true false n x y z is = omega (arith, is)
within_by false false b n x y z is = omega (arith, is)

pub put_within : (c : Core) (s : ℕ) (bytes : List ℕ) → count_put c s bytes ≤ sendable c.flow s
put_within c s bytes =
    within_by c.over (nat_le s largest) (length (octets_of c.out) == 0) (count_put c s bytes) (length bytes) (sendable c.flow s)
    (min c.peer.frame_size 16384) refl

put_by : (c : Core) (s n : ℕ) (bytes : List ℕ) (b : Bool) → n ≤ sendable c.flow s → Flow calm c
    → Flow calm (cond b c (sent (record c { flow = spent c.flow s n }) (frame data_kind 0 s (take n bytes))))
put_by c s n bytes true within h = h
put_by c s n bytes false within h = λ still. flowed_on c.flow (sends s n) within (h still)

released_by : (s : ℕ) (c : Core) (b : Bool) → Flow (amid false s) c
    → Flow calm (cond b c (record c { flow = closed c.flow s; owed = owed_closed c.owed s }))
released_by s c true h = h
released_by s c false h = λ still. flowed_on c.flow (closes s) tt (h still)

regained_by : (f : Flows) (n : ℕ) (b : Bool) → Flowed f → Flowed (cond b f (granted f n))
regained_by f n true h = h
regained_by f n false h = flowed_on f (grants n) tt h

fault_by : (c : Core) (code : ℕ) → Flow calm (faulted c code).core
unfolding faulted
fault_by c code = λ still. absurd (false≢true (sym still))

pub flow_keeps : Keeps Flow
flow_keeps = record {
  ends = λ s c h. h;
  goes = λ s c h. h;
  other = λ a c e b p t h. h;
  sends = λ a c f none h. h;
  owes = λ a c m keeps h. h;
  moves = λ b s c t on h. h;
  withdraws = λ s c h. λ still. regained_by c.flow (data_size (Some s) c.out.queue) _ (h still);
  releases = λ s c h. released_by s c (is_active c.streams s) h;
  leaves = λ s c none h. λ still. flowed_on c.flow (closes s) tt (h still);
  takes_in = λ a c m taking may h. λ still. flowed_on c.flow m may (h still);
  begins = λ s c sides m above becomes h. λ still. flowed_on c.flow (opens s) tt (h still);
  faults = λ a c f code h. fault_by (record c { flow = f }) code;
}

pub flow_puts : Puts Flow
flow_puts c s bytes h = put_by c s (count_put c s bytes) bytes (count_put c s bytes == 0) (put_within c s bytes) h

pub flow_acks : PutsAck Flow
flow_acks c f answer h = h

pub flow_resizes : Resizes Flow
flow_resizes c k within fits h = λ still. flowed_on c.flow (resizes k) tt (h still)

pub flow_grows : (c : Core) (s n : ℕ) → Flow calm c → Grows Flow c s n
flow_grows c s n h = record {
  fault = λ code. fault_by c code;
  whole = λ zero fits. λ still. flowed_on c.flow (grants n) tt (h still);
  one = λ some w is fits. λ still. flowed_on c.flow (grants_on s n) tt (h still);
  broken = λ some live. h;
  ignored = λ some live why. h;
}

pub flow_new : (role : Role) → Flow calm (fresh role).receiver.core
flow_new Server = λ still. ([], refl, tt)
flow_new Client = λ still. ([], refl, tt)

pub windows_move : WindowsMove
windows_move role points given came written c stands still =
    runs_keep Flow flow_keeps flow_puts flow_resizes flow_acks (λ d s n h. flow_grows d s n h) (λ d n within h. h) points
    (fresh role).receiver.core c.receiver.core
    (flow_new role) stands.runs still

pub taking_is_whole : TakingIsWhole
taking_is_whole role points given came written c stands still =
    let moved = windows_move role points given came written c stands still in
    let f = c.receiver.core.flow in (
      subst (λ (g : Flows). IsWhole g.taking) (sym moved.1) (connection_takes moved.0 moved.2),
      λ n w is. stream_takes moved.0 moved.2 n w (ap (λ (g : Flows). get g.streams n) (sym moved.1) ∙ is),
    )
