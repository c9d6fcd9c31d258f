-- What is said of a run of one node is said of another that it has in it, which stands for the traces for which that one does.
use Rattle.std.proofs.Common.{List}
use Rattle.hb_base.specs.declared.note.Note.{Note}
use Rattle.hb_turns.specs.Leads.{LedAt}
use Rattle.hb_turns.specs.Served.{IsStoodFor, IsOver, IsServed, IsTotalled, Leaves, leaves}
use Rattle.hb_turns.specs.Settled.{IsSettled, SettledAt}
use Rattle.hb_turns.specs.Shown.{Shown}
use Rattle.hb_turns.specs.declared.served.Served.{Served}
use Rattle.hb_turns.specs.declared.served.ServeEnd.{ServeEnd}
use Rattle.hb_turns.specs.declared.served.ServeEnd.TheVariants as ends
use Rattle.hb_turns.specs.declared.served.Totals.{Totals}
use Rattle.hb_turns.specs.declared.words.ServeWords.{ServeWords}
use Rattle.hb_world.specs.declared.entry.Entry.{Entry}
use Rattle.hb_world.specs.declared.entry.Entry.TheVariants as e

module _ {N M : Type 0} (f : N → M) (of : List Note → N → List Entry → Type 0) (stands : List Note → M → List Entry → Type 0)
    (gives : (notes : List Note) (n : N) (trace : List Entry) → of notes n trace → stands notes (f n) trace) (shown : M → Shown) where
  abbrev shown_in : N → Shown
  shown_in n = shown (f n)

  settles : (trace : List Entry) → IsSettled of shown_in trace → IsSettled stands shown trace
  settles trace s = record {
    notes = s.notes;
    node = f s.node;
    stands_for = gives s.notes s.node trace s.stands_for;
    going = s.going;
    idle = s.idle;
    doors = s.doors;
    links = s.links;
  }

  settled_at : (before : List Entry) (x : Entry) → SettledAt of shown_in before x → SettledAt stands shown before x
  settled_at before (e.Wait ready how) s = λ waited. settles before (s waited)
  settled_at before _ s = tt

  led_at : (before : List Entry) (x : Entry) → LedAt of shown_in before x → LedAt stands shown before x
  led_at before (e.Wait ready how) s = tt
  led_at before e.Tick s = tt
  led_at before (e.Closed l cause) s = tt
  led_at before x s = λ looked. let it = s looked in
      record { notes = it.notes; node = f it.node; stands_for = gives it.notes it.node before it.stands_for; going = it.going; leads = it.leads }

  stood_for : (end : ServeEnd) (trace : List Entry) → IsStoodFor of shown_in end trace → IsStoodFor stands shown end trace
  stood_for ends.NoMemory trace s = record {
    front = s.front;
    last = s.last;
    trace_is = s.trace_is;
    notes = s.notes;
    node = f s.node;
    stands_for = gives s.notes s.node s.front s.stands_for;
    going = s.going;
    allows = s.allows;
  }
  stood_for ends.Stopped trace s = (s.0, f s.1, gives s.0 s.1 trace s.2, s.3)
  stood_for ends.WorldFault trace s = (s.0, f s.1, gives s.0 s.1 trace s.2, s.3)
  stood_for ends.TurnsSpent trace s = (s.0, f s.1, gives s.0 s.1 trace s.2, s.3, s.4)

  over : (words : ServeWords) (end : ServeEnd) (trace : List Entry) → IsOver of shown_in words end trace
      → IsOver stands shown words end trace
  over words end trace o = record {
    before = o.before;
    behind = o.behind;
    trace_is = o.trace_is;
    finishes = o.finishes;
    stood_for = stood_for end o.before o.stood_for;
    closes = o.closes;
  }

  -- what the run leaves, with that node
  abbrev pub left_of : Leaves N → Leaves M
  left_of left = leaves left.keep (f left.node)

  totalled : (left : Leaves N) (totals : Totals) (trace : List Entry) → IsTotalled of shown_in left totals trace
      → IsTotalled stands shown (left_of left) totals trace
  totalled left totals trace t =
      let all = t.are_notes in
      record {
        notes = t.notes;
        are_notes = record { stands_for = gives t.notes left.node trace all.stands_for; none_waits = all.none_waits };
        kept_are = t.kept_are;
        totals_are = t.totals_are;
      }

  pub served_along : (words : ServeWords) (served : Served) (left : Leaves N) (trace : List Entry)
      → IsServed of shown_in words served left trace → IsServed stands shown words served (left_of left) trace
  served_along words served left trace s = record {
    awake = s.awake;
    settled = λ before x behind is. settled_at before x (s.settled before x behind is);
    looks = s.looks;
    leads = λ before x behind is. led_at before x (s.leads before x behind is);
    closed = s.closed;
    over = over words served.end trace s.over;
    links_are = s.links_are;
    revoked_are = s.revoked_are;
    wanting_is = s.wanting_is;
    noted = λ ends kept. totalled left served.totals trace (s.noted ends kept);
  }
