-- The connection's window is never below zero, since only DATA takes from it.
use Rattle.std.proofs.Common.{◌≡◌, ℕ, ◌+◌, ◌≤◌, pos, ◌+ℤ◌, ◌≤ℤ◌, List, [], ◌∷◌, fold, Option, Some, None, sym, subst, arith}
use Rattle.std.specs.FinMap.{get}
use Rattle.std.proofs.lemmas.Int.{ints}
use Rattle.hb_windows.specs.Sending.{Sending}
use Rattle.hb_flow.specs.Windows.{Windows, room, less, more}
use Rattle.hb_flow.specs.Flows.{Flows, changed, sendable_by}
use Rattle.hb_flow.specs.Flows.{fresh as fresh_flows}
use Rattle.hb_flow.specs.Moves.{Move, opens, closes, grants, grants_on, resizes, sends, takes_back, takes, takes_on, owes, owes_on, pays, pays_on, after, May, AllMay}
use Rattle.hb_flow.proofs.Changes.{still_sending}
use Rattle.hb_outgoing.specs.Selected.{data_size}
use Rattle.hb_conn.specs.Windows.{unbegun}
use Rattle.hb_history.specs.Points.{frames_got}
use Rattle.hb_history.specs.Sending.{increments, NeverMoreThanGranted}
use Rattle.hb_history.proofs.Flowed.{windows_move}
use Rattle.hb_history.proofs.Sent.{connection_sends}

abbrev NotBelow : Sending → Type 0
NotBelow w = pos 0 ≤ℤ w.held

left_over : (w : Sending) (n : ℕ) → n ≤ room w → NotBelow w → NotBelow (less w n)
left_over w n within low = grind (arith, ints)

grown : (w : Sending) (n : ℕ) → NotBelow w → NotBelow (more w n)
grown w n low = omega (arith, ints)

within_room : (f : Flows) (o : Option Windows) (n : ℕ) → n ≤ sendable_by f o → n ≤ room f.sending
within_room f None n within = omega (arith, within)
within_room f (Some w) n within = omega (arith, within)

changed_low : (f : Flows) (s : ℕ) (change : Windows → Windows) → NotBelow f.sending → NotBelow (changed f s change).sending
changed_low f s change low = subst NotBelow (sym (still_sending f s change)) low

step : (f : Flows) (m : Move) → May f m → NotBelow f.sending → NotBelow (after f m).sending
step f (opens s) may low = low
step f (closes s) may low = low
step f (grants n) may low = grown f.sending n low
step f (grants_on s n) may low = changed_low f s _ low
step f (resizes k) may low = low
step f (sends s n) may low = left_over f.sending n (within_room f (get f.streams s) n may) low
step f (takes_back s n) may low = grown f.sending n low
step f (takes n) may low = low
step f (takes_on s n) may low = changed_low f s _ low
step f (owes n) may low = low
step f (owes_on s n) may low = changed_low f s _ low
step f pays may low = low
step f (pays_on s) may low = changed_low f s _ low

all_steps : (moves : List Move) (f : Flows) → AllMay f moves → NotBelow f.sending → NotBelow (fold after f moves).sending
all_steps [] f may low = low
all_steps (m ∷ moves) f may low = all_steps moves (after f m) may.1 (step f m may.0 low)

enough : (w : Sending) (u b g : ℕ) → NotBelow w → ((w.held +ℤ pos u) +ℤ pos b) ≡ pos (65535 + g) → b + u ≤ 65535 + g
enough w u b g low sum = omega (arith, ints)

pub never_more_than_granted : NeverMoreThanGranted
never_more_than_granted role points given came written c stands still =
    let f = c.receiver.core.flow in
    let moved = windows_move role points given came written c stands still in
    let low : NotBelow f.sending =
    subst (λ (g : Flows). NotBelow g.sending) (sym moved.1) (all_steps moved.0 fresh_flows moved.2 (omega (arith, ints))) in
    enough f.sending (unbegun c.receiver.core).size (data_size None stands.begun) (increments 0 (frames_got points)) low
    (connection_sends role points given came written c stands still)
