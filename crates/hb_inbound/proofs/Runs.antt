-- What every run of a link keeps of its front header and its connection.
use Rattle.std.proofs.Common.{◌≡◌, inl, inr, ℕ, ◌≤◌, ◌-◌, Bool, true, false, List, [], ◌∷◌, ◌++◌, length, take, drop, Option, Some, None, refl, ap, sym, ◌∙◌, subst, arith, length-append, length-drop}
use Rattle.std.proofs.lemmas.List.{append-nil, append_assoc, take_all}
use Rattle.std.proofs.lemmas.List.{drop-append-le}
use Rattle.std.proofs.Math.Seq.{take-append_seam}
use Rattle.hb_base.specs.declared.cause.Cause.{Cause}
use Rattle.hb_base.specs.declared.cause.Cause.TheVariants as cause
use Rattle.hb_base.specs.declared.identity.Identity.{Identity}
use Rattle.hb_conn.specs.Connection.{Connection, count_of, fresh_server}
use Rattle.hb_conn.specs.Connection as conn
use Rattle.hb_conn.specs.Observed as observed
use Rattle.hb_conn.specs.Observed.{creditable, status_put, end_put, data_put, aborted, chunk_of}
use Rattle.hb_conn.specs.declared.found.Found.{Found}
use Rattle.hb_conn.specs.declared.found.Found.TheVariants as found
use Rattle.hb_frames.proofs.Runs.{no_octets, octets_append, octets_drop}
use Rattle.hb_frames.specs.Frames.{AreOctets}
use Rattle.hb_front.specs.Faults.{number_of}
use Rattle.hb_front.specs.Header.{spelling}
use Rattle.hb_front.specs.Reading.{Seen, IsAnswer, Whole}
use Rattle.hb_held.specs.Held.{Resources}
use Rattle.hb_held.specs.Outcome.{after_response}
use Rattle.hb_history.specs.Points as history
use Rattle.hb_history.specs.History.{StandsFor as ConnStandsFor}
use Rattle.hb_history.specs.Calls.{in_list, Makes, acts}
use Rattle.hb_history.proofs.Called.{nothing_stands}
use Rattle.hb_history.proofs.Fed.{take_adds}
use Rattle.hb_history.proofs.Adds.{write_adds}
use Rattle.hb_history.proofs.Connections.{acts_add}
use Rattle.hb_history.proofs.Looking.{looks_add}
use Rattle.hb_hpack.specs.declared.header.HeaderList.{HeaderList}
use Rattle.hb_streams.specs.declared.role.Role.TheVariants.{Server}
use Rattle.hb_world.specs.declared.entry.Entry.{Entry}
use Rattle.hb_world.specs.declared.entry.Entry.TheVariants as e
use Rattle.hb_world.specs.declared.entry.Way.TheVariants as way
use Rattle.hb_front.specs.Room.{longest_front}
use Rattle.hb_inbound.specs.Calm.{wants, wants_by, output, output_by}
use Rattle.hb_inbound.specs.Inbound.{Inbound, Phase, unborn, arriving, fronting, serving, faulted, closing, closed, told_of, on_found, came, came_by, went, went_by, ended_by, broken_by, with_phase, at_stream, lacking, stops_by, stopped_for, fronted_by, rejudged}
use Rattle.hb_inbound.specs.Laws.{RunsObeyConnections}
use Rattle.hb_kept.specs.Looks.{IsLook}
use Rattle.hb_inbound.specs.Part.{Part, entry, up, welcomed, crowded, lacked, misfronted, looked, decided, accepted, refused, reset, left, done, put, finished, credited, applied, stopped, act, moves_by, moves_in, moves, telling, tellings}
use Rattle.hb_inbound.specs.Part as part
use Rattle.hb_inbound.specs.Runs.{Local, MayCome, entered, Steps, StandsFor, begins, goes_on, refused_on, with_link, with_tunnel, tunnel_for, put_down, verdict_note}
use Rattle.hb_inbound.specs.Sides.{came_by as came_by_entry, went_by as went_by_entry, came_in, went_in, link_came, link_went, front_by, front_size, behind_front, conn_came}
use Rattle.hb_inbound.specs.Tunnel.{live, at_stage, left_with, up_entered}
use Rattle.hb_inbound.proofs.Grown.{one_more, fold_one}
use Rattle.hb_inbound.proofs.Histories.{IsOne, grown, untold, none_came, acted, kept}

-- nothing happened to the connection yet
pub record IsFresh (parts : List Part) (c : Connection) : Type 0 where
  pub front : front_size parts ≡ None
  pub moved : moves parts ≡ []
  pub told : tellings parts ≡ []
  pub sent : link_went parts ≡ []
  pub conn : c ≡ fresh_server

-- by phase: how much came of the front header, or how long it was
abbrev pub FrontBy : Phase → List Part → Inbound → Type 0
FrontBy unborn parts x = IsFresh parts x.conn × (link_came parts ≡ []) × (x.front ≡ [])
FrontBy arriving parts x = IsFresh parts x.conn × (link_came parts ≡ []) × (x.front ≡ [])
FrontBy fronting parts x = IsFresh parts x.conn × (link_came parts ≡ x.front) × (length x.front ≤ longest_front) × AreOctets x.front
FrontBy serving parts x = (size : ℕ) × (front_size parts ≡ Some size) × (size ≤ length (link_came parts))
FrontBy _ parts x = Unit {0}

pub record Keeps (parts : List Part) (x : Inbound) : Type 0 where
  pub one : IsOne parts x.conn
  pub front : FrontBy x.phase parts x

-- a part that says nothing of the connection
pub record IsPlain (p : Part) : Type 0 where
  pub moves : moves_in p ≡ []
  pub tells : telling p ≡ []
  pub came : came_in p ≡ []
  pub front : (size : Option ℕ) → front_by size p ≡ size
  pub went : went_in p ≡ []

-- one that brings no bytes of the link, and is no front header
pub record IsCalm (p : Part) : Type 0 where
  pub came : came_in p ≡ []
  pub front : (size : Option ℕ) → front_by size p ≡ size

plain_calm : (p : Part) → IsPlain p → IsCalm p
plain_calm p plain = record { came = plain.came; front = plain.front }

module _ (parts : List Part) where
  size_stays : (p : Part) → ((size : Option ℕ) → front_by size p ≡ size) → front_size (parts ++ p ∷ []) ≡ front_size parts
  size_stays p same = fold_one front_by None parts p ∙ same (front_size parts)

  came_more : (p : Part) (bytes : List ℕ) → came_in p ≡ bytes → link_came (parts ++ p ∷ []) ≡ link_came parts ++ bytes
  came_more p bytes is = one_more came_in parts p ∙ ap (λ (bs : List ℕ). link_came parts ++ bs) is

  came_stays : (p : Part) → came_in p ≡ [] → link_came (parts ++ p ∷ []) ≡ link_came parts
  came_stays p none = came_more p [] none ∙ append-nil (link_came parts)

  fresh_stays : (p : Part) (c d : Connection) → IsPlain p → d ≡ c → IsFresh parts c → IsFresh (parts ++ p ∷ []) d
  fresh_stays p c d plain same fresh = record {
    front = size_stays p plain.front ∙ fresh.front;
    moved = one_more moves_in parts p ∙ ap (λ (ps : List history.Point). moves parts ++ ps) plain.moves ∙ append-nil (moves parts)
        ∙ fresh.moved;
    told = one_more telling parts p ∙ ap (λ (ts : List Found). tellings parts ++ ts) plain.tells ∙ append-nil (tellings parts) ∙ fresh.told;
    sent = one_more went_in parts p ∙ ap (λ (bs : List ℕ). link_went parts ++ bs) plain.went ∙ append-nil (link_went parts) ∙ fresh.sent;
    conn = same ∙ fresh.conn;
  }

  serving_stays : (p : Part) (x y : Inbound) → IsCalm p → FrontBy serving parts x → FrontBy serving (parts ++ p ∷ []) y
  serving_stays p x y calm front = (
    front.0,
    size_stays p calm.front ∙ front.1,
    subst (λ (n : ℕ). front.0 ≤ n) (sym (ap length (came_stays p calm.came))) front.2,
  )

  -- the front stays what it was where phase, front and connection do
  front_stays : (phase : Phase) (p : Part) (x y : Inbound) → IsPlain p → y.conn ≡ x.conn → y.front ≡ x.front
      → FrontBy phase parts x → FrontBy phase (parts ++ p ∷ []) y
  front_stays unborn p x y plain conn front is =
      (fresh_stays p x.conn y.conn plain conn is.0, came_stays p plain.came ∙ is.1, front ∙ is.2)
  front_stays arriving p x y plain conn front is =
      (fresh_stays p x.conn y.conn plain conn is.0, came_stays p plain.came ∙ is.1, front ∙ is.2)
  front_stays fronting p x y plain conn front is = (
    fresh_stays p x.conn y.conn plain conn is.0,
    came_stays p plain.came ∙ is.1 ∙ sym front,
    subst (λ (bs : List ℕ). length bs ≤ longest_front) (sym front) is.2,
    subst AreOctets (sym front) is.3,
  )
  front_stays serving p x y plain conn front is = serving_stays p x y (plain_calm p plain) is
  front_stays (faulted code) p x y plain conn front is = tt
  front_stays (closing why) p x y plain conn front is = tt
  front_stays closed p x y plain conn front is = tt

  one_stays : (p : Part) (c d : Connection) → IsPlain p → d ≡ c → IsOne parts c → IsOne (parts ++ p ∷ []) d
  one_stays p c d plain same one =
      kept parts p c d same one plain.moves plain.tells plain.came (plain.front (front_size parts)) plain.went

  -- with a part that says nothing of the connection
  plain_keeps : (p : Part) (x y : Inbound) → IsPlain p → y.conn ≡ x.conn → y.front ≡ x.front → y.phase ≡ x.phase → Keeps parts x
      → Keeps (parts ++ p ∷ []) y
  plain_keeps p x y plain conn front phase keeps = record {
    one = one_stays p x.conn y.conn plain conn keeps.one;
    front = subst (λ (ph : Phase). FrontBy ph (parts ++ p ∷ []) y) (sym phase)
        (front_stays x.phase p x y plain conn front keeps.front);
  }

  -- and behind which the link isn't in one of the first phases
  pub late_keeps : (p : Part) (x y : Inbound) → IsPlain p → y.conn ≡ x.conn → FrontBy y.phase (parts ++ p ∷ []) y → Keeps parts x
      → Keeps (parts ++ p ∷ []) y
  late_keeps p x y plain conn front keeps = record { one = one_stays p x.conn y.conn plain conn keeps.one; front = front }

  -- with an act of this end on a link that serves
  act_keeps : (p : Part) (x y : Inbound) (ps : List history.Point) → IsCalm p → moves_in p ≡ ps → telling p ≡ [] → went_in p ≡ []
      → y.phase ≡ serving → x.phase ≡ serving
      → ConnStandsFor Server (moves parts ++ ps) (tellings parts) (conn_came parts) (link_went parts) y.conn → Keeps parts x
      → Keeps (parts ++ p ∷ []) y
  act_keeps p x y ps calm moved told went phase was now keeps = record {
    one = acted parts p y.conn ps moved told calm.came (calm.front (front_size parts)) went now;
    front = subst (λ (ph : Phase). FrontBy ph (parts ++ p ∷ []) y) (sym phase)
        (serving_stays p x y calm (subst (λ (ph : Phase). FrontBy ph parts x) was keeps.front));
  }

-- of a link that came to another phase nothing else changes at its end, or where it breaks
ended_conn : (phase : Phase) (x : Inbound) → (ended_by phase x).conn ≡ x.conn
ended_conn unborn x = refl
ended_conn arriving x = refl
ended_conn fronting x = refl
ended_conn serving x = refl
ended_conn (faulted code) x = refl
ended_conn (closing why) x = refl
ended_conn closed x = refl

broken_conn : (phase : Phase) (x : Inbound) → (broken_by phase x).conn ≡ x.conn
broken_conn unborn x = refl
broken_conn arriving x = refl
broken_conn fronting x = refl
broken_conn serving x = refl
broken_conn (faulted code) x = refl
broken_conn (closing why) x = refl
broken_conn closed x = refl

module _ (a : Local) (parts : List Part) (keeps : Keeps parts a.link) where
  -- bytes come of the front header
  front_came : (k : ℕ) (bytes : List ℕ) → a.link.phase ≡ fronting → AreOctets bytes → length bytes ≤ wants a.link
      → Keeps (parts ++ entry (e.Came k bytes) ∷ []) (came bytes a.link)
  front_came k bytes is octets most =
      let x = a.link in
      let p = entry (e.Came k bytes) in
      let front = subst (λ (ph : Phase). FrontBy ph parts x) is keeps.front in
      let fresh = front.0 in
      let room : wants x ≡ longest_front - length x.front = ap (λ (ph : Phase). wants_by ph x) is in
      let same : front_size (parts ++ p ∷ []) ≡ None = size_stays parts p (λ size. refl) ∙ fresh.front in
      subst (Keeps (parts ++ p ∷ [])) (sym (ap (λ (ph : Phase). came_by ph bytes x) is))
      (record {
        one = untold parts p x.conn [] [] [] refl refl (ap (λ (size : Option ℕ). behind_front size (link_came (parts ++ p ∷ []))) same) refl
            (subst (λ (ps : List history.Point). ConnStandsFor Server ps (tellings parts) [] (link_went parts ++ []) x.conn)
            (sym (append-nil (moves parts)))
            (subst (λ (bs : List ℕ). ConnStandsFor Server (moves parts) (tellings parts) [] bs x.conn) (sym (append-nil (link_went parts)))
            (subst (λ (bs : List ℕ). ConnStandsFor Server (moves parts) (tellings parts) bs (link_went parts) x.conn)
            (ap (λ (size : Option ℕ). behind_front size (link_came parts)) fresh.front) keeps.one.stands)));
        front = subst (λ (ph : Phase). FrontBy ph (parts ++ p ∷ []) (record x { front = x.front ++ bytes })) (sym is) (
          record {
            front = same;
            moved = one_more moves_in parts p ∙ append-nil (moves parts) ∙ fresh.moved;
            told = one_more telling parts p ∙ append-nil (tellings parts) ∙ fresh.told;
            sent = one_more went_in parts p ∙ append-nil (link_went parts) ∙ fresh.sent;
            conn = fresh.conn;
          },
          came_more parts p bytes refl ∙ ap (λ (bs : List ℕ). bs ++ bytes) front.1,
          omega (arith, length-append x.front bytes, most, room, front.2),
          octets_append x.front bytes front.3 octets,
        );
      })

  -- bytes come of the connection
  serving_came : (k : ℕ) (bytes : List ℕ) → a.link.phase ≡ serving → AreOctets bytes → length bytes ≤ wants a.link
      → Keeps (parts ++ entry (e.Came k bytes) ∷ []) (came bytes a.link)
  serving_came k bytes is octets most =
      let x = a.link in
      let p = entry (e.Came k bytes) in
      let front = subst (λ (ph : Phase). FrontBy ph parts x) is keeps.front in
      let room : wants x ≡ wants_by serving x = ap (λ (ph : Phase). wants_by ph x) is in
      let all : take (count_of x.conn bytes) bytes ≡ bytes = take_all (count_of x.conn bytes) bytes (omega (arith, most, room)) in
      let size : front_size (parts ++ p ∷ []) ≡ Some front.0 = size_stays parts p (λ n. refl) ∙ front.1 in
      let old : conn_came parts ≡ drop front.0 (link_came parts) = ap (λ (size : Option ℕ). behind_front size (link_came parts)) front.1 in
      let comes : conn_came (parts ++ p ∷ []) ≡ conn_came parts ++ take (count_of x.conn bytes) bytes =
      ap (λ (size : Option ℕ). behind_front size (link_came (parts ++ p ∷ []))) size
      ∙ ap (drop front.0) (came_more parts p bytes refl)
      ∙ drop-append-le front.0 (link_came parts) bytes front.2
      ∙ ap (λ (bs : List ℕ). bs ++ bytes) (sym old)
      ∙ ap (λ (bs : List ℕ). conn_came parts ++ bs) (sym all) in
      subst (Keeps (parts ++ p ∷ [])) (sym (ap (λ (ph : Phase). came_by ph bytes x) is))
      (record {
        one = untold parts p (conn.taken x.conn bytes) [] (conn_came parts ++ take (count_of x.conn bytes) bytes) [] refl refl comes refl
            (subst (λ (ps : List history.Point). ConnStandsFor Server ps (tellings parts)
            (conn_came parts ++ take (count_of x.conn bytes) bytes) (link_went parts ++ []) (conn.taken x.conn bytes))
            (sym (append-nil (moves parts)))
            (subst (λ (bs : List ℕ). ConnStandsFor Server (moves parts) (tellings parts)
            (conn_came parts ++ take (count_of x.conn bytes) bytes) bs (conn.taken x.conn bytes))
            (sym (append-nil (link_went parts)))
            (take_adds Server (moves parts) (tellings parts) (conn_came parts) (link_went parts) bytes x.conn octets keeps.one.stands)));
        front = subst (λ (ph : Phase). FrontBy ph (parts ++ p ∷ []) (record x { conn = conn.taken x.conn bytes })) (sym is)
            (front.0, size, omega (arith, ap length (came_more parts p bytes refl), length-append (link_came parts) bytes, front.2));
      })

  -- bytes go
  bytes_went : (k : ℕ) (bytes rest : List ℕ) → FrontBy (went_by a.link.phase) (parts ++ entry (e.Went k bytes) ∷ [])
      (went (length bytes) a.link)
      → observed.output a.link.conn ≡ bytes ++ rest
      → Keeps (parts ++ entry (e.Went k bytes) ∷ []) (went (length bytes) a.link)
  bytes_went k bytes rest front is =
      let c = a.link.conn in
      let p = entry (e.Went k bytes) in
      let n = length bytes in
      let within : n ≤ length (observed.output c) = omega (arith, ap length is, length-append bytes rest) in
      let all : take n (observed.output c) ≡ bytes = ap (take n) is ∙ take-append_seam bytes rest in
      record {
        one = untold parts p (observed.wrote c n) (act (history.wrote n)) (conn_came parts) bytes refl refl
            (none_came parts p refl refl) refl
            (subst (λ (bs : List ℕ). ConnStandsFor Server (moves parts ++ act (history.wrote n)) (tellings parts) (conn_came parts)
            (link_went parts ++ bs) (observed.wrote c n)) all
            (write_adds Server (moves parts) (tellings parts) (conn_came parts) (link_went parts) c n within keeps.one.stands));
        front = front;
      }

  -- where the link serves, or behind a connection error
  serving_went : (k : ℕ) (bytes rest : List ℕ) → a.link.phase ≡ serving → observed.output a.link.conn ≡ bytes ++ rest
      → Keeps (parts ++ entry (e.Went k bytes) ∷ []) (went (length bytes) a.link)
  serving_went k bytes rest is first =
      let x = a.link in
      let p = entry (e.Went k bytes) in
      bytes_went k bytes rest
      (subst (λ (ph : Phase). FrontBy (went_by ph) (parts ++ p ∷ []) (went (length bytes) x)) (sym is)
      (serving_stays parts p x (went (length bytes) x) (record { came = refl; front = λ size. refl })
      (subst (λ (ph : Phase). FrontBy ph parts x) is keeps.front))) first

  faulted_went : (k code : ℕ) (bytes rest : List ℕ) → a.link.phase ≡ faulted code → observed.output a.link.conn ≡ bytes ++ rest
      → Keeps (parts ++ entry (e.Went k bytes) ∷ []) (went (length bytes) a.link)
  faulted_went k code bytes rest is first =
      let p = entry (e.Went k bytes) in
      bytes_went k bytes rest
      (subst (λ (ph : Phase). FrontBy (went_by ph) (parts ++ p ∷ []) (went (length bytes) a.link)) (sym is) tt) first

  plain_entry : (x : Entry) → came_by_entry x ≡ [] → went_by_entry x ≡ [] → moves_by x ≡ [] → IsPlain (entry x)
  plain_entry x came went moves = record { moves = moves; tells = refl; came = came; front = λ size. refl; went = went }

  -- an entry behind which the link is to be closed, or is
  ends_late : (p : Part) (phase : Phase) (y : Phase → Inbound) → IsPlain p → a.link.phase ≡ phase
      → ((ph : Phase) → (y ph).conn ≡ a.link.conn) → FrontBy (y phase).phase (parts ++ p ∷ []) (y phase)
      → Keeps (parts ++ p ∷ []) (y a.link.phase)
  ends_late p phase y plain is same front =
      subst (λ (ph : Phase). Keeps (parts ++ p ∷ []) (y ph)) (sym is) (late_keeps parts p a.link (y phase) plain (same phase) front keeps)

  output_at : (phase : Phase) (bytes rest : List ℕ) → a.link.phase ≡ phase → output a.link ≡ bytes ++ rest
      → output_by phase a.link ≡ bytes ++ rest
  output_at phase bytes rest is first = sym (ap (λ (ph : Phase). output_by ph a.link) is) ∙ first

  entry_keeps : (l : ℕ) (x : Entry) → MayCome l a.link x → Keeps (parts ++ entry x ∷ []) (entered x a.link)
  entry_keeps l (e.Accepted k d) may =
      let p = entry (e.Accepted k d) in
      let y = with_phase arriving a.link in
      let plain = plain_entry (e.Accepted k d) refl refl refl in
      late_keeps parts p a.link y plain refl
      (front_stays parts arriving p a.link y plain refl refl (subst (λ (ph : Phase). FrontBy ph parts a.link) may.1 keeps.front)) keeps
  entry_keeps l (e.Came k bytes) (is, (inl quiet, wanted), octets, some, most) = front_came k bytes quiet.1 octets most
  entry_keeps l (e.Came k bytes) (is, (inr quiet, wanted), octets, some, most) = serving_came k bytes quiet.1 octets most
  entry_keeps l (e.Ended k) (is, (inl quiet, wanted)) =
      ends_late (entry (e.Ended k)) fronting (λ ph. ended_by ph a.link) (plain_entry (e.Ended k) refl refl refl) quiet.1
      (λ ph. ended_conn ph a.link) tt
  entry_keeps l (e.Ended k) (is, (inr quiet, wanted)) =
      ends_late (entry (e.Ended k)) serving (λ ph. ended_by ph a.link) (plain_entry (e.Ended k) refl refl refl) quiet.1
      (λ ph. ended_conn ph a.link) tt
  entry_keeps l (e.Went k bytes) (is, inl quiet, some, rest) =
      serving_went k bytes rest.0 quiet.1 (output_at serving bytes rest.0 quiet.1 rest.1)
  entry_keeps l (e.Went k bytes) (is, inr fault, some, rest) =
      faulted_went k fault.1 bytes rest.0 fault.2 (output_at (faulted fault.1) bytes rest.0 fault.2 rest.1)
  entry_keeps l (e.Broke k) (is, inl quiet) =
      ends_late (entry (e.Broke k)) fronting (λ ph. broken_by ph a.link) (plain_entry (e.Broke k) refl refl refl) quiet.1
      (λ ph. broken_conn ph a.link) tt
  entry_keeps l (e.Broke k) (is, inr (inl quiet)) =
      ends_late (entry (e.Broke k)) serving (λ ph. broken_by ph a.link) (plain_entry (e.Broke k) refl refl refl) quiet.1
      (λ ph. broken_conn ph a.link) tt
  entry_keeps l (e.Broke k) (is, inr (inr fault)) =
      ends_late (entry (e.Broke k)) (faulted fault.1) (λ ph. broken_by ph a.link) (plain_entry (e.Broke k) refl refl refl) fault.2
      (λ ph. broken_conn ph a.link) tt
  entry_keeps l (e.Closed k why) may =
      late_keeps parts (entry (e.Closed k why)) a.link (with_phase closed a.link) (plain_entry (e.Closed k why) refl refl refl) refl tt
      keeps
  entry_keeps l (e.Balked (way.Read k)) may =
      plain_keeps parts (entry (e.Balked (way.Read k))) a.link a.link (plain_entry (e.Balked (way.Read k)) refl refl refl) refl refl refl
      keeps
  entry_keeps l (e.Balked (way.Write k)) may =
      plain_keeps parts (entry (e.Balked (way.Write k))) a.link a.link (plain_entry (e.Balked (way.Write k)) refl refl refl) refl refl refl
      keeps
  entry_keeps l (e.Balked (way.Listen d at listening)) may = absurd may
  entry_keeps l (e.Balked (way.Accept d)) may = absurd may
  entry_keeps l (e.Balked (way.Look k)) may = absurd may
  entry_keeps l (e.Balked (way.Finish k)) may = absurd may
  entry_keeps l (e.Dialled k to why) may = absurd may
  entry_keeps l (e.DialFailed to why) may = absurd may
  entry_keeps l (e.Opened k) may = absurd may
  entry_keeps l (e.Shut k) may = absurd may
  entry_keeps l e.Tick may = absurd may
  entry_keeps l (e.Wait ready how) may = absurd may

  -- a part of the link's own acts
  abbrev stands_by : (ps : List history.Point) → Connection → Type 0
  stands_by ps c = ConnStandsFor Server (moves parts ++ ps) (tellings parts) (conn_came parts) (link_went parts) c

  one_act : (move : history.Move) (d : Connection) → Makes a.link.conn (acts move) d → stands_by (act move) d
  one_act move d makes =
      acts_add Server (moves parts) (tellings parts) (conn_came parts) (link_went parts) a.link.conn d move makes keeps.one.stands

  two_acts : (first second : history.Move) (c d : Connection) → stands_by (act first) c → Makes c (acts second) d
      → stands_by (act first ++ act second) d
  two_acts first second c d once makes =
      subst (λ (ps : List history.Point). ConnStandsFor Server ps (tellings parts) (conn_came parts) (link_went parts) d)
      (append_assoc (moves parts) (act first) (act second))
      (acts_add Server (moves parts ++ act first) (tellings parts) (conn_came parts) (link_went parts) c d second makes once)

  abbrev refusal : (s status : ℕ) → history.Move
  refusal s status = history.answered s (record { number = status; end = true })

  refuses : (s status : ℕ) (resets : Bool)
      → stands_by (moves_in (refused s status resets (verdict_note 0 0 a.link 0 None))) (refused_on s status resets a.link.conn)
  refuses s status true =
      let c = status_put a.link.conn s (record { number = status; end = true }) in
      two_acts (refusal s status) (history.reset s 0) c (aborted c s 0)
      (one_act (refusal s status) c (tt, (refl, refl), refl)) (tt, (refl, refl), refl)
  refuses s status false =
      let c = status_put a.link.conn s (record { number = status; end = true }) in
      subst (λ (ps : List history.Point). stands_by ps c) (sym (append-nil (act (refusal s status))))
      (one_act (refusal s status) c (tt, (refl, refl), refl))

  -- the front of a link stays through what is told of its frames, but for a connection error, which leaves the first phases too
  found_front : (told : Found) (headers : HeaderList) (bytes : List ℕ) (p : Part) (y : Inbound) → IsCalm p → y.phase ≡ serving
      → FrontBy serving parts a.link → FrontBy (told_of told headers bytes y).phase (parts ++ p ∷ []) (told_of told headers bytes y)
  found_front found.Silent headers bytes p y calm is front =
      let z = told_of found.Silent headers bytes y in
      subst (λ (ph : Phase). FrontBy ph (parts ++ p ∷ []) z) (sym is) (serving_stays parts p a.link z calm front)
  found_front (found.Opened s end) headers bytes p y calm is front =
      let z = told_of (found.Opened s end) headers bytes y in
      subst (λ (ph : Phase). FrontBy ph (parts ++ p ∷ []) z) (sym is) (serving_stays parts p a.link z calm front)
  found_front (found.Chunk s end) headers bytes p y calm is front =
      let z = told_of (found.Chunk s end) headers bytes y in
      subst (λ (ph : Phase). FrontBy ph (parts ++ p ∷ []) z) (sym is) (serving_stays parts p a.link z calm front)
  found_front (found.Ended s) headers bytes p y calm is front =
      let z = told_of (found.Ended s) headers bytes y in
      subst (λ (ph : Phase). FrontBy ph (parts ++ p ∷ []) z) (sym is) (serving_stays parts p a.link z calm front)
  found_front (found.Reset s code) headers bytes p y calm is front =
      let z = told_of (found.Reset s code) headers bytes y in
      subst (λ (ph : Phase). FrontBy ph (parts ++ p ∷ []) z) (sym is) (serving_stays parts p a.link z calm front)
  found_front (found.Broken s code) headers bytes p y calm is front =
      let z = told_of (found.Broken s code) headers bytes y in
      subst (λ (ph : Phase). FrontBy ph (parts ++ p ∷ []) z) (sym is) (serving_stays parts p a.link z calm front)
  found_front (found.GoneAway last) headers bytes p y calm is front =
      let z = told_of (found.GoneAway last) headers bytes y in
      subst (λ (ph : Phase). FrontBy ph (parts ++ p ∷ []) z) (sym is) (serving_stays parts p a.link z calm front)
  found_front (found.Fault code) headers bytes p y calm is front = tt

  found_conn : (told : Found) (headers : HeaderList) (bytes : List ℕ) (y : Inbound) → (told_of told headers bytes y).conn ≡ y.conn
  found_conn found.Silent headers bytes y = refl
  found_conn (found.Opened s end) headers bytes y = refl
  found_conn (found.Chunk s end) headers bytes y = refl
  found_conn (found.Ended s) headers bytes y = refl
  found_conn (found.Reset s code) headers bytes y = refl
  found_conn (found.Broken s code) headers bytes y = refl
  found_conn (found.GoneAway last) headers bytes y = refl
  found_conn (found.Fault code) headers bytes y = refl

  looked_keeps : (ps : List history.Point) (told : Found) (headers : HeaderList) (c : Connection) → a.link.phase ≡ serving
      → IsLook a.link.conn ps told c → Keeps (parts ++ looked ps told headers ∷ []) (on_found told headers c a.link)
  looked_keeps ps told headers c is look =
      let p = looked ps told headers in
      let y = record a.link { conn = c } in
      let bytes = chunk_of c told in
      record {
        one = subst (IsOne (parts ++ p ∷ [])) (sym (found_conn told headers bytes y))
            (grown parts p c ps (in_list told) (conn_came parts) [] refl refl (none_came parts p refl refl) refl
            (subst (λ (bs : List ℕ). ConnStandsFor Server (moves parts ++ ps) (tellings parts ++ in_list told) (conn_came parts) bs c)
            (sym (append-nil (link_went parts)))
            (looks_add Server (moves parts) ps (tellings parts) (conn_came parts) (link_went parts) a.link.conn c told
            keeps.one.stands look.finds look.looks look.runs look.frames look.tells)));
        front = found_front told headers bytes p y (record { came = refl; front = λ size. refl }) is
            (subst (λ (ph : Phase). FrontBy ph parts a.link) is keeps.front);
      }

  -- the header is whole: what stands behind it is the connection's
  fronted_keeps : (seen : Seen) (identity : Option Identity) → a.link.phase ≡ fronting → IsAnswer a.link.front (Whole seen)
      → Keeps (parts ++ part.fronted seen ∷ []) (fronted_by seen identity (drop seen.length a.link.front) a.link)
  fronted_keeps seen identity is whole =
      let x = a.link in
      let p = part.fronted seen in
      let front = subst (λ (ph : Phase). FrontBy ph parts x) is keeps.front in
      let fresh = front.0 in
      let behind = drop seen.length x.front in
      let c = conn.taken fresh_server behind in
      let size : front_size (parts ++ p ∷ []) ≡ Some seen.length = fold_one front_by None parts p in
      let came : link_came (parts ++ p ∷ []) ≡ x.front = came_stays parts p refl ∙ front.1 in
      let comes : conn_came (parts ++ p ∷ []) ≡ behind =
      ap (λ (n : Option ℕ). behind_front n (link_came (parts ++ p ∷ []))) size ∙ ap (drop seen.length) came in
      let header = whole.0 in
      let within : seen.length ≤ length x.front =
      omega (arith, whole.2.size, ap length whole.4, length-append (spelling header) whole.3) in
      let all : take (count_of fresh_server behind) behind ≡ behind =
      take_all (count_of fresh_server behind) behind (omega (arith, length-drop seen.length x.front, front.2)) in
      record {
        one = untold parts p c [] behind [] refl refl comes refl
            (subst (λ (ps : List history.Point). ConnStandsFor Server ps (tellings parts) behind (link_went parts ++ []) c)
            (sym (append-nil (moves parts)))
            (subst (λ (bs : List ℕ). ConnStandsFor Server (moves parts) (tellings parts) behind bs c) (sym (append-nil (link_went parts)))
            (subst (λ (ps : List history.Point). ConnStandsFor Server ps (tellings parts) behind (link_went parts) c) (sym fresh.moved)
            (subst (λ (ts : List Found). ConnStandsFor Server [] ts behind (link_went parts) c) (sym fresh.told)
            (subst (λ (bs : List ℕ). ConnStandsFor Server [] [] behind bs c) (sym fresh.sent)
            (subst (λ (bs : List ℕ). ConnStandsFor Server [] [] bs [] c) all
            (take_adds Server [] [] [] [] behind fresh_server (octets_drop seen.length x.front front.3) (nothing_stands Server))))))));
        front = (seen.length, size, subst (λ (bs : List ℕ). seen.length ≤ length bs) (sym came) within);
      }

  -- memory is wanting
  lacked_keeps : Keeps (parts ++ lacked ∷ []) (lacking a.link)
  lacked_keeps =
      late_keeps parts lacked a.link (lacking a.link)
      (record { moves = refl; tells = refl; came = refl; front = λ size. refl; went = refl }) refl tt keeps

  -- of a tunnel alone
  pub tunnel_keeps : (p : Part) (y : Inbound) → IsPlain p → y.conn ≡ a.link.conn → y.front ≡ a.link.front → y.phase ≡ a.link.phase
      → Keeps (parts ++ p ∷ []) y
  tunnel_keeps p y plain conn front phase = plain_keeps parts p a.link y plain conn front phase keeps

  stopped_keeps : (why : Cause) → Keeps (parts ++ stopped why ∷ []) (stopped_for why a.link)
  stopped_keeps why = record {
    one = one_stays parts (stopped why) a.link.conn a.link.conn plain refl keeps.one;
    front = by a.link.phase keeps.front;
  }
    where
      plain : IsPlain (stopped why)
      plain = record { moves = refl; tells = refl; came = refl; front = λ size. refl; went = refl }

      by : (phase : Phase) → FrontBy phase parts a.link → FrontBy (stops_by why phase) (parts ++ stopped why ∷ []) (stopped_for why a.link)
      by unborn is = front_stays parts unborn (stopped why) a.link (stopped_for why a.link) plain refl refl is
      by arriving is = tt
      by fronting is = tt
      by serving is = tt
      by (faulted code) is = tt
      by (closing cause) is = tt
      by closed is = tt

  -- the link is this now
  to : (p : Part) (b : Local) (y : Inbound) → b ≡ with_link y a → Keeps (parts ++ p ∷ []) y → Keeps (parts ++ p ∷ []) b.link
  to p b y is now = subst (λ (c : Local). Keeps (parts ++ p ∷ []) c.link) (sym is) now

  step_keeps : (l : ℕ) (p : Part) (b : Local) → Steps l a p b → Keeps (parts ++ p ∷ []) b.link
  step_keeps l (entry x) b steps = to _ b (entered x a.link) steps.1 (entry_keeps l x steps.0)
  step_keeps l (up s x) b steps =
      to _ b (at_stream s (up_entered x) a.link) steps.1
      (tunnel_keeps (up s x) (at_stream s (up_entered x) a.link)
      (record { moves = refl; tells = refl; came = refl; front = λ n. refl; went = refl })
      refl refl refl)
  step_keeps l welcomed b steps =
      let y = with_phase fronting a.link in
      let front = subst (λ (ph : Phase). FrontBy ph parts a.link) steps.0 keeps.front in
      let plain : IsPlain welcomed = record { moves = refl; tells = refl; came = refl; front = λ n. refl; went = refl } in
      to _ b y steps.1
      (late_keeps parts welcomed a.link y plain refl (
        fresh_stays parts welcomed a.link.conn a.link.conn plain refl front.0,
        came_stays parts welcomed refl ∙ front.1 ∙ sym front.2,
        subst (λ (bs : List ℕ). length bs ≤ longest_front) (sym front.2) (omega arith),
        subst AreOctets (sym front.2) no_octets,
      ) keeps)
  step_keeps l crowded b steps =
      to _ b (with_phase (closing cause.NoRoom) a.link) steps.1
      (late_keeps parts crowded a.link (with_phase (closing cause.NoRoom) a.link)
      (record { moves = refl; tells = refl; came = refl; front = λ n. refl; went = refl }) refl tt keeps)
  step_keeps l lacked b steps = to _ b (lacking a.link) steps.1 lacked_keeps
  step_keeps l (part.fronted seen) b steps =
      to _ b (fronted_by seen steps.2 (drop seen.length a.link.front) a.link) steps.4 (fronted_keeps seen steps.2 steps.0 steps.1)
  step_keeps l (misfronted fault) b steps =
      to _ b (with_phase (closing (cause.FrontFault (number_of fault))) a.link) steps.2
      (late_keeps parts (misfronted fault) a.link (with_phase (closing (cause.FrontFault (number_of fault))) a.link)
      (record { moves = refl; tells = refl; came = refl; front = λ n. refl; went = refl }) refl tt keeps)
  step_keeps l (looked ps told headers) b steps =
      to _ b (on_found told headers steps.2 a.link) steps.5 (looked_keeps ps told headers steps.2 steps.0 steps.3)
  step_keeps l (decided s full answer) b steps =
      to _ b (at_stream s (λ t. tunnel_for answer steps.1 steps.2) a.link) steps.5
      (tunnel_keeps (decided s full answer) (at_stream s (λ t. tunnel_for answer steps.1 steps.2) a.link)
      (record { moves = refl; tells = refl; came = refl; front = λ n. refl; went = refl }) refl refl refl)
  step_keeps l (accepted s made) b steps =
      let move = history.answered s (record { number = 200; end = false }) in
      let d = status_put a.link.conn s (record { number = 200; end = false }) in
      let y = with_tunnel s (at_stage live (a.link.tunnels s)) d a.link in
      to _ b y steps.3
      (act_keeps parts (accepted s made) a.link y (act move) (record { came = refl; front = λ n. refl }) refl refl refl steps.0 steps.0
      (one_act move d (tt, (refl, refl), refl)) keeps)
  step_keeps l (refused s status resets made) b steps =
      let y = with_tunnel s steps.1 (refused_on s status resets a.link.conn) a.link in
      to _ b y steps.4
      (act_keeps parts (refused s status resets made) a.link y (moves_in (refused s status resets made))
      (record { came = refl; front = λ n. refl }) refl refl refl steps.0 steps.0 (refuses s status resets) keeps)
  step_keeps l (reset s code made) b steps =
      let d = aborted a.link.conn s code in
      let y = with_tunnel s steps.1 d a.link in
      to _ b y steps.3
      (act_keeps parts (reset s code made) a.link y (act (history.reset s code)) (record { came = refl; front = λ n. refl }) refl refl refl
      steps.0 steps.0 (one_act (history.reset s code) d (tt, (refl, refl), refl)) keeps)
  step_keeps l (left s made) b steps =
      to _ b (with_tunnel s steps.0 a.link.conn a.link) steps.2
      (tunnel_keeps (left s made) (with_tunnel s steps.0 a.link.conn a.link)
      (record { moves = refl; tells = refl; came = refl; front = λ n. refl; went = refl }) refl refl refl)
  step_keeps l (done s made) b steps =
      to _ b (at_stream s (left_with cause.Done) a.link) steps.3
      (tunnel_keeps (done s made) (at_stream s (left_with cause.Done) a.link)
      (record { moves = refl; tells = refl; came = refl; front = λ n. refl; went = refl }) refl refl refl)
  step_keeps l (put s bytes) b steps =
      let d = data_put a.link.conn s bytes in
      let y = with_tunnel s (put_down a.link.conn s (a.link.tunnels s)) d a.link in
      to _ b y steps.3
      (act_keeps parts (put s bytes) a.link y (act (history.put s bytes)) (record { came = refl; front = λ n. refl }) refl refl refl
      steps.0.0 steps.0.0 (one_act (history.put s bytes) d (tt, (refl, refl), refl)) keeps)
  step_keeps l (finished s) b steps =
      let d = end_put a.link.conn s in
      let y = with_tunnel s (record (a.link.tunnels s) { end_put = true }) d a.link in
      to _ b y steps.2
      (act_keeps parts (finished s) a.link y (act (history.ended s)) (record { came = refl; front = λ n. refl }) refl refl refl
      steps.0.0 steps.0.0 (one_act (history.ended s) d (tt, (refl, refl), refl)) keeps)
  step_keeps l (credited s n) b steps =
      let d = observed.credited a.link.conn s n in
      let y = with_tunnel s (record (a.link.tunnels s) { owed = 0 }) d a.link in
      let within : n ≤ creditable a.link.conn s = omega (arith, steps.2) in
      to _ b y steps.3
      (act_keeps parts (credited s n) a.link y (act (history.credited s n)) (record { came = refl; front = λ k. refl }) refl refl refl
      steps.0.0 steps.0.0 (one_act (history.credited s n) d (tt, (within, (refl, refl)), refl)) keeps)
  step_keeps l (applied r) b steps =
      subst (λ (c : Local). Keeps (parts ++ applied r ∷ []) c.link) (sym steps)
      (tunnel_keeps (applied r) (rejudged (after_response a.held r) a.link)
      (record { moves = refl; tells = refl; came = refl; front = λ n. refl; went = refl }) refl refl refl)
  step_keeps l (stopped why) b steps = to _ b (stopped_for why a.link) steps (stopped_keeps why)

-- so it is of every run
pub all_keep : (l : ℕ) (start : Resources) (a : Local) (parts : List Part) → StandsFor l start a parts → Keeps parts a.link
all_keep l start a parts (begins is none) =
    subst (λ (ps : List Part). Keeps ps a.link) (sym none)
    (subst (λ (c : Local). Keeps [] c.link) (sym is)
    (record {
      one = record { stands = nothing_stands Server };
      front = (record { front = refl; moved = refl; told = refl; sent = refl; conn = refl }, refl, refl);
    }))
all_keep l start b more (goes_on {a = a} {parts = parts} before p steps grows) =
    subst (λ (ps : List Part). Keeps ps b.link) (sym grows) (step_keeps a parts (all_keep l start a parts before) l p b steps)

pub obey_connections : RunsObeyConnections
obey_connections l start a parts stands = record { conn = a.link.conn; stands = (all_keep l start a parts stands).one.stands }
