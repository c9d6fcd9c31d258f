-- DATA that begins beyond what the peer granted is refused.
use Rattle.std.proofs.Common.{◌≡◌, ◌⊎◌, inl, inr, ⊎_elim, ℕ, ◌+◌, ◌-◌, ◌<◌, ◌≤◌, true, List, [], ◌∷◌, ◌++◌, length, drop, fold, filter, refl, ap, ap₂, sym, ◌∙◌, subst, arith, length-append, length-drop}
use Rattle.std.proofs.lemmas.List.{append-nil, append_assoc, append_cancel_left, take-append-drop, take_all, drop-append-le}
use Rattle.std.proofs.lemmas.List.Concat.{flat_map-append}
use Rattle.hb_conn.specs.Connection.{Connection, with_core}
use Rattle.hb_conn.specs.Observed.{outgoing, output, frames_begun}
use Rattle.hb_conn.specs.Preface.{octets}
use Rattle.hb_conn.specs.declared.found.Found.{Found}
use Rattle.hb_conn.specs.declared.found.Found.TheVariants.{Silent}
use Rattle.hb_conn.specs.declared.machine.Core.{Core}
use Rattle.hb_frames.specs.RawFrame.{RawFrame, spelling}
use Rattle.hb_gateway.proofs.Grown.{one_more, none_more, more_moves}
use Rattle.hb_gateway.proofs.Runs as gateway_runs
use Rattle.hb_gateway.proofs.Runs.{all_keep}
use Rattle.hb_gateway.specs.Connections.{front_went, conn_went, IsOneHistory}
use Rattle.hb_gateway.specs.Part as gateway
use Rattle.hb_history.proofs.Connections.{wrote_leaves}
use Rattle.hb_history.proofs.Fitting.{data_fits, data_fits_everywhere}
use Rattle.hb_history.specs.Fits.{acknowledges, initial_size, FitsWindows, AllFit, WritesWithin}
use Rattle.hb_history.specs.History.{fresh, opening, StandsFor}
use Rattle.hb_history.specs.Points.{Point as HistoryPoint, point as moved_by, wrote, frames_got}
use Rattle.hb_history.specs.Sending.{size_with}
use Rattle.hb_inbound.specs.Connections.{WindowsAt}
use Rattle.hb_inbound.specs.Part as part
use Rattle.hb_inbound.specs.Part.{moves, tellings}
use Rattle.hb_inbound.specs.Sides.{link_went, conn_came}
use Rattle.hb_model.specs.Point as point
use Rattle.hb_outgoing.proofs.Queues.{spelling_len}
use Rattle.hb_outgoing.proofs.Sent.{all_is_spelled, begins_by_place, begun_is_enough}
use Rattle.hb_outgoing.specs.Selected.{has_data}
use Rattle.hb_outgoing.specs.Waiting.{Waiting, spelled}
use Rattle.hb_outgoing.specs.Written.{begun_by, rest_after}
use Rattle.hb_proxy.proofs.Gates.{gates_run}
use Rattle.hb_proxy.proofs.Places.{at_parts}
use Rattle.hb_proxy.specs.Points.{Point, of_control, entries, control_in, control_of, parts_of, gates_of}
use Rattle.hb_proxy.specs.Runs.{Steps}
use Rattle.hb_streams.specs.declared.role.Role.{Role}
use Rattle.hb_streams.specs.declared.role.Role.TheVariants.{Server, Client}
use Rattle.hb_world.specs.Trace.{recv, sent}
use Rattle.hb_world.specs.declared.entry.Entry.{Entry}
use Rattle.hb_world.specs.declared.entry.Entry.TheVariants as e
use Rattle.hb_laws.specs.RefusedTunnels.{RefusedAt}
use Rattle.hb_laws.specs.RefusedWindows.{BeginsLast, IsBeyond, GoesBeyond, ControlGoesBeyond, GateHistoryGoesBeyond, PassesConnection, PassesStream, PassesFrame, LastOctetFits, LinkGoesBeyond, PlaneGoesBeyond, GateGoesBeyond}
use Rattle.hb_laws.proofs.BegunFrames.{Left, runs_left, all_left}
use Rattle.hb_laws.proofs.Lawful.{goes_at, own_in, laws_of}
use Rattle.hb_laws.proofs.Places.{of_plane, of_inbound, of_gateway}
use Rattle.hb_laws.proofs.Spelled.{frames_read}

-- WHERE A FRAME BEGINS

-- of two ways to part a list one is the longer
pub joined : (xs ys zs ws : List RawFrame) → xs ++ ys ≡ zs ++ ws
    → ((mid : List RawFrame) × (zs ≡ xs ++ mid) × (ys ≡ mid ++ ws)) ⊎ ((f : RawFrame) × (more : List RawFrame) × (xs ≡ zs ++ f ∷ more))
joined [] ys zs ws is = inl (zs, refl, is)
joined (x ∷ xs) ys [] ws is = inr (x, xs, refl)
joined (x ∷ xs) ys (z ∷ zs) ws is =
    let head : x ≡ z = cc in
    let tail : xs ++ ys ≡ zs ++ ws = cc in
    ⊎_elim (λ h. inl (h.0, ap (λ (f : RawFrame). f ∷ zs) (sym head) ∙ ap (λ (fs : List RawFrame). x ∷ fs) h.1, h.2))
    (λ h. inr (h.0, h.1, ap (λ (f : RawFrame). f ∷ xs) head ∙ ap (λ (fs : List RawFrame). z ∷ fs) h.2)) (joined xs ys zs ws tail)

pub spelled_with : (front more : List RawFrame) (f : RawFrame)
    → length (spelled (front ++ f ∷ more)) ≡ length (spelled front) + (length (spelling f) + length (spelled more))
spelled_with front more f =
    omega (
      arith,
      ap (λ (xs : List ℕ). length xs) (flat_map-append spelling front (f ∷ more)),
      length-append (spelled front) (spelling f ++ spelled more),
      length-append (spelling f) (spelled more),
    )

-- what stands in front of a frame stands in front of the last one
front_within : (front before more : List RawFrame) (f last : RawFrame) → front ++ f ∷ more ≡ before ++ last ∷ []
    → length (spelled front) ≤ length (spelled before)
front_within [] before more f last is = omega arith
front_within (x ∷ front) [] more f last is =
    absurd (omega (arith, ap (λ (fs : List RawFrame). length fs) is, length-append front (f ∷ more)))
front_within (x ∷ front) (y ∷ before) more f last is =
    let head : x ≡ y = cc in
    let tail : front ++ f ∷ more ≡ before ++ last ∷ [] = cc in
    omega (
      arith,
      front_within front before more f last tail,
      ap (λ (g : RawFrame). length (spelling g)) head,
      length-append (spelling x) (spelled front),
      length-append (spelling y) (spelled before),
    )

-- a frame of which no octet went hasn't begun
pub not_begun : (w : Waiting) (begun front more : List RawFrame) (f : RawFrame) (opens went : List ℕ) → Left begun w
    → length went + length w.rest ≡ length opens + length (spelled begun) → length went ≤ length (opens ++ spelled front)
    → begun ≡ front ++ f ∷ more → ⊥
not_begun w begun front more f opens went (inl none) shows unbegun is =
    absurd (omega (arith, ap (λ (fs : List RawFrame). length fs) (sym none ∙ is), length-append front (f ∷ more)))
not_begun w begun front more f opens went (inr (inl none)) shows unbegun is =
    absurd (omega (
      arith,
      shows,
      length-append opens (spelled front),
      ap (λ (xs : List ℕ). length xs) none,
      unbegun,
      ap (λ (fs : List RawFrame). length (spelled fs)) is,
      spelled_with front more f,
      spelling_len f,
    ))
not_begun w begun front more f opens went (inr (inr last)) shows unbegun is =
    absurd (omega (
      arith,
      shows,
      length-append opens (spelled front),
      unbegun,
      ap (λ (fs : List RawFrame). length (spelled fs)) last.last,
      spelled_with last.before [] last.frame,
      ap (λ (xs : List ℕ). length xs) last.end,
      length-append last.part w.rest,
      last.some,
      front_within front last.before more f last.frame (sym is ∙ last.last),
    ))

-- of frames that fit each does
pub fits_in : (front got mid more : List RawFrame) (f : RawFrame) → AllFit front got (mid ++ f ∷ more) → has_data f ≡ true
    → FitsWindows f (front ++ mid) got
fits_in front got [] more f fit payload =
    subst (λ (fs : List RawFrame). FitsWindows f fs got) (sym (append-nil front)) (fit.0 payload)
fits_in front got (g ∷ mid) more f fit payload =
    subst (λ (fs : List RawFrame). FitsWindows f fs got) (append_assoc front (g ∷ []) mid)
    (fits_in (front ++ g ∷ []) got mid more f fit.1 payload)

-- so the last frame does, where the bytes are of the connection's output and all that begins with them fits
module _ (role : Role) (points : List HistoryPoint) (given : List Found) (came went : List ℕ) (c : Connection)
    (stands : StandsFor role points given came went c) (bytes rest : List ℕ) (first : output c ≡ bytes ++ rest)
    (fit : AllFit stands.begun (frames_got points) (frames_begun (length bytes) c)) (front : List RawFrame) (f : RawFrame)
    (last : BeginsLast (opening role) went bytes front f) where
  abbrev w : Waiting
  w = outgoing c

  whole : spelled (front ++ f ∷ []) ++ rest ≡ spelled (stands.begun ++ w.queue)
  whole =
      append_cancel_left (opening role) (spelled (front ++ f ∷ []) ++ rest) (spelled (stands.begun ++ w.queue))
      (sym (append_assoc (opening role) (spelled (front ++ f ∷ [])) rest) ∙ ap (λ (xs : List ℕ). xs ++ rest) (sym last.whole)
      ∙ append_assoc went bytes rest ∙ ap (λ (xs : List ℕ). went ++ xs) (sym first)
      ∙ all_is_spelled (opening role) went stands.begun w stands.shows)

  last_fits : FitsWindows f front (frames_got points)
  last_fits = by (joined stands.begun w.queue front (f ∷ read.0) (read.1 ∙ append_assoc front (f ∷ []) read.0))
    where
      read : (more : List RawFrame) × (stands.begun ++ w.queue ≡ (front ++ f ∷ []) ++ more) × (rest ≡ spelled more)
      read = frames_read (front ++ f ∷ []) (stands.begun ++ w.queue) rest whole

      by : ((mid : List RawFrame) × (front ≡ stands.begun ++ mid) × (w.queue ≡ mid ++ f ∷ read.0))
          ⊎ ((g : RawFrame) × (more : List RawFrame) × (stands.begun ≡ front ++ g ∷ more)) → FitsWindows f front (frames_got points)
      by (inl (mid, front_is, queue_is)) =
          let count : length w.rest + length (spelled mid) < length bytes = omega (
            arith,
            ap (λ (xs : List ℕ). length xs) last.whole,
            length-append went bytes,
            length-append (opening role) (spelled (front ++ f ∷ [])),
            spelled_with front [] f,
            spelling_len f,
            ap (λ (fs : List RawFrame). length (spelled fs)) front_is,
            ap (λ (xs : List ℕ). length xs) (flat_map-append spelling stands.begun mid),
            length-append (spelled stands.begun) (spelled mid),
            ap (λ (xs : List ℕ). length xs) stands.shows,
            length-append went w.rest,
            length-append (opening role) (spelled stands.begun),
          ) in
          let begins = (begins_by_place w (length bytes) mid read.0 f queue_is).0 count in
          subst (λ (fs : List RawFrame). FitsWindows f fs (frames_got points)) (sym front_is)
          (fits_in stands.begun (frames_got points) mid begins.0 f
          (subst (λ (fs : List RawFrame). AllFit stands.begun (frames_got points) fs) begins.1 fit) last.payload)
      by (inr (g, more, is)) =
          absurd (not_begun w stands.begun front more g (opening role) went (all_left role points given came went c stands)
          (omega (
            arith,
            ap (λ (xs : List ℕ). length xs) stands.shows,
            length-append went w.rest,
            length-append (opening role) (spelled stands.begun),
          )) last.unbegun is)

-- what fits isn't beyond
not_beyond : (frame : RawFrame) (front got : List RawFrame) → FitsWindows frame front got → IsBeyond frame front got → ⊥
not_beyond frame front got fits (inl beyond) = absurd (omega (arith, fits.connection, beyond))
not_beyond frame front got fits (inr (inl beyond)) = absurd (omega (arith, fits.stream, beyond))
not_beyond frame front got fits (inr (inr beyond)) = absurd (omega (arith, fits.size, beyond))

-- BY THE LAW ALONE

pub goes_beyond : GoesBeyond
goes_beyond l before bytes front frame last beyond law =
    let is = law before (part.entry (e.Went l bytes)) [] refl in
    not_beyond frame front (frames_got (moves before))
    (last_fits Server (moves before) (tellings before) (conn_came before) (link_went before) is.conn is.stands bytes is.rest is.first is.fit
    front frame last) beyond

pub control_goes_beyond : ControlGoesBeyond
control_goes_beyond l before bytes front frame control last beyond law =
    let is = law before (e.Went l bytes) [] refl control in
    let es = point.entries before in
    not_beyond frame front (frames_got (point.moves l before))
    (last_fits Client (point.moves l before) (point.tellings l before) (recv l es) (sent l es) is.conn is.stands bytes is.rest is.first
    is.fit front frame last) beyond

-- the history of a link to a gateway with the write
module _ (n : ℕ) (before : List gateway.Part) (bytes : List ℕ) (front : List RawFrame) (f : RawFrame)
    (gone : length (gateway.front_header before) ≤ length (gateway.link_went before)) (left : gateway.left_of before ≡ 0)
    (last : BeginsLast octets (conn_went before) bytes front f)
    (one : IsOneHistory (before ++ gateway.entry (e.Went n bytes) ∷ [])) where
  abbrev write : gateway.Part
  write = gateway.entry (e.Went n bytes)

  abbrev m : ℕ
  m = length bytes - gateway.left_of before

  all_written : m ≡ length bytes
  all_written = omega (arith, left)

  moved : gateway.moves (before ++ write ∷ []) ≡ gateway.moves before ++ moved_by (wrote m) Silent ∷ []
  moved = more_moves before write

  went_behind : conn_went (before ++ write ∷ []) ≡ conn_went before ++ bytes
  went_behind =
      ap₂ (λ (xs ys : List ℕ). drop (length xs) ys) (none_more gateway.front_in before write refl) (one_more gateway.went_in before write)
      ∙ drop-append-le (length (gateway.front_header before)) (gateway.link_went before) bytes gone

  at : WritesWithin Client (gateway.moves before) [] m Silent one.stands.begun one.conn.receiver.core
  at =
      data_fits_everywhere Client (gateway.moves (before ++ write ∷ [])) (gateway.tellings (before ++ write ∷ []))
      (gateway.link_came (before ++ write ∷ [])) (conn_went (before ++ write ∷ [])) one.conn one.stands (gateway.moves before) [] m Silent
      moved

  abbrev out : Waiting
  out = at.core.out

  begun_are : one.stands.begun ≡ at.front ++ begun_by m out
  begun_are =
      at.all ∙ ap (λ (fs : List RawFrame). at.front ++ fs)
      (at.goes_on.3 ∙ ap (λ (fs : List RawFrame). begun_by m out ++ fs) at.goes_on.4.1 ∙ append-nil (begun_by m out))

  left_of_it : (outgoing one.conn).rest ≡ rest_after m out
  left_of_it =
      ap (λ (c : Core). c.out.rest) (at.goes_on.4.0 ∙ at.goes_on.1.1.0) ∙ wrote_leaves (with_core (fresh Client) at.core) m

  -- so what had begun before and what was left of it show what went
  shown : length (conn_went before) + length out.rest ≡ length octets + length (spelled at.front)
  shown =
      let within : m - length out.rest ≤ length (spelled out.queue) =
      omega (arith, at.goes_on.1.0, length-append out.rest (spelled out.queue)) in
      omega (
        arith,
        all_written,
        begun_is_enough (m - length out.rest) out.queue within,
        ap (λ (xs : List ℕ). length xs) one.stands.shows,
        length-append (conn_went (before ++ write ∷ [])) (outgoing one.conn).rest,
        ap (λ (xs : List ℕ). length xs) went_behind,
        length-append (conn_went before) bytes,
        ap (λ (xs : List ℕ). length xs) left_of_it,
        length-drop m (out.rest ++ spelled (begun_by m out)),
        length-append out.rest (spelled (begun_by m out)),
        length-append octets (spelled one.stands.begun),
        ap (λ (fs : List RawFrame). length (spelled fs)) begun_are,
        ap (λ (xs : List ℕ). length xs) (flat_map-append spelling at.front (begun_by m out)),
        length-append (spelled at.front) (spelled (begun_by m out)),
      )

  gate_whole : spelled (front ++ f ∷ []) ++ (outgoing one.conn).rest ≡ spelled (at.front ++ begun_by m out)
  gate_whole =
      append_cancel_left octets (spelled (front ++ f ∷ []) ++ (outgoing one.conn).rest) (spelled (at.front ++ begun_by m out))
      (sym (append_assoc octets (spelled (front ++ f ∷ [])) (outgoing one.conn).rest)
      ∙ ap (λ (xs : List ℕ). xs ++ (outgoing one.conn).rest) (sym last.whole ∙ sym went_behind)
      ∙ one.stands.shows ∙ ap (λ (fs : List RawFrame). octets ++ spelled fs) begun_are)

  gate_fits : FitsWindows f front (frames_got (gateway.moves before))
  gate_fits = by (joined at.front (begun_by m out) front (f ∷ read.0) (read.1 ∙ append_assoc front (f ∷ []) read.0))
    where
      read : (more : List RawFrame) × (at.front ++ begun_by m out ≡ (front ++ f ∷ []) ++ more)
          × ((outgoing one.conn).rest ≡ spelled more)
      read = frames_read (front ++ f ∷ []) (at.front ++ begun_by m out) (outgoing one.conn).rest gate_whole

      by : ((mid : List RawFrame) × (front ≡ at.front ++ mid) × (begun_by m out ≡ mid ++ f ∷ read.0))
          ⊎ ((g : RawFrame) × (more : List RawFrame) × (at.front ≡ front ++ g ∷ more))
          → FitsWindows f front (frames_got (gateway.moves before))
      by (inl (mid, front_is, begun_is)) =
          subst (λ (fs : List RawFrame). FitsWindows f fs (frames_got (gateway.moves before))) (sym front_is)
          (fits_in at.front (frames_got (gateway.moves before)) mid read.0 f
          (subst (λ (fs : List RawFrame). AllFit at.front (frames_got (gateway.moves before)) fs) begun_is at.fit) last.payload)
      by (inr (g, more, is)) =
          absurd (not_begun out at.front front more g octets (conn_went before)
          (runs_left (gateway.moves before) [] at.front (fresh Client).receiver.core at.core (inl refl) at.leads) shown last.unbegun is)

pub gate_history_goes_beyond : GateHistoryGoesBeyond
gate_history_goes_beyond n before bytes front frame gone left last beyond one =
    not_beyond frame front (frames_got (gateway.moves before)) (gate_fits n before bytes front frame gone left last one) beyond

pub passes_connection : PassesConnection
passes_connection payload is = (omega (arith, is), omega (arith, is), λ fits. absurd (omega (arith, is, fits)))

pub passes_stream : PassesStream
passes_stream = (omega arith, omega arith, λ fits. absurd (omega (arith, fits)))

pub passes_frame : PassesFrame
passes_frame payload is = (omega (arith, is), omega (arith, is), λ fits. absurd (omega (arith, is, fits)))

pub last_octet_fits : LastOctetFits
last_octet_fits front frame size all one =
    let none : initial_size front [] ≡ 65535 =
    ap (fold size_with 65535) (take_all (length (filter acknowledges front)) [] (omega arith)) in
    record { size = size; connection = omega (arith, all); stream = omega (arith, one, none) }

-- IN A LAWFUL TRACE

begins_so : (opens went other bytes : List ℕ) (front : List RawFrame) (frame : RawFrame) → went ≡ other
    → BeginsLast opens went bytes front frame → BeginsLast opens other bytes front frame
begins_so opens went other bytes front frame same last =
    subst (λ (xs : List ℕ). BeginsLast opens xs bytes front frame) same last

pub link_goes_beyond : RefusedAt LinkGoesBeyond
link_goes_beyond g trace before behind p z h are is so =
    let l = so.link in
    let goes = e.Went l so.bytes in
    let there = is ∙ ap (λ (y : Entry). y ∷ []) so.goes in
    let p_is = of_inbound before goes l refl p (own_in g trace h before p behind are) there so.owned in
    let parts = parts_of l before in
    let within = at_parts (λ k. WindowsAt) h.points (λ k. ((laws_of g trace h).links k).windows) before l (part.entry goes) behind
    (are ∙ ap (λ (q : Point). before ++ q ∷ behind) p_is) in
    let went = ((h.laws before (p ∷ behind) are).sides.link l so.owned).went in
    not_beyond so.frame so.front (frames_got (moves parts))
    (last_fits Server (moves parts) (tellings parts) (conn_came parts) (link_went parts) within.conn within.stands so.bytes within.rest
    within.first within.fit so.front so.frame
    (begins_so [] (sent l (entries before)) (link_went parts) so.bytes so.front so.frame went so.last)) so.beyond

pub plane_goes_beyond : RefusedAt PlaneGoesBeyond
plane_goes_beyond g trace before behind p z h are is so =
    let l = so.link in
    let goes = e.Went l so.bytes in
    let there = is ∙ ap (λ (y : Entry). y ∷ []) so.goes in
    let sides = (h.laws before (p ∷ behind) are).sides in
    let known = sides.known l so.owned in
    let p_is = of_plane before goes l refl p (own_in g trace h before p behind are) there known.owned in
    let points = control_of before in
    let es = point.entries points in
    let within = (laws_of g trace h).control.windows points goes (control_of behind)
    (ap control_of (are ∙ ap (λ (q : Point). before ++ q ∷ behind) p_is)
    ∙ flat_map-append control_in before (of_control (point.entry goes) ∷ behind)) known.told in
    not_beyond so.frame so.front (frames_got (point.moves l points))
    (last_fits Client (point.moves l points) (point.tellings l points) (recv l es) (sent l es) within.conn within.stands so.bytes
    within.rest within.first within.fit so.front so.frame
    (begins_so octets (sent l (entries before)) (sent l es) so.bytes so.front so.frame (sides.control l known.owned).went so.last))
    so.beyond

-- behind a front header that went the octets are the connection's
no_length : (xs : List ℕ) → length xs ≡ 0 → xs ≡ []
no_length [] is = refl
no_length (x ∷ xs) is = absurd (omega (arith, is))

behind_header : (header went conn bytes : List ℕ) (front : List RawFrame) (frame : RawFrame) → went ≡ header ++ conn
    → BeginsLast (header ++ octets) went bytes front frame → BeginsLast octets conn bytes front frame
behind_header header went conn bytes front frame parted last = record {
  whole = append_cancel_left header (conn ++ bytes) (octets ++ spelled (front ++ frame ∷ []))
      (sym (append_assoc header conn bytes) ∙ ap (λ (xs : List ℕ). xs ++ bytes) (sym parted) ∙ last.whole
      ∙ append_assoc header octets (spelled (front ++ frame ∷ [])));
  unbegun = omega (
    arith,
    last.unbegun,
    ap (λ (xs : List ℕ). length xs) parted,
    length-append header conn,
    ap (λ (xs : List ℕ). length xs) (append_assoc header octets (spelled front)),
    length-append header (octets ++ spelled front),
  );
  payload = last.payload;
}

pub gate_goes_beyond : RefusedAt GateGoesBeyond
gate_goes_beyond g trace before behind p z h are is so =
    let n = so.link in
    let goes = e.Went n so.bytes in
    let there = is ∙ ap (λ (y : Entry). y ∷ []) so.goes in
    let p_is = of_gateway before goes n refl p (own_in g trace h before p behind are) there so.owned in
    let at = goes_at g trace h before p behind are in
    let x = at.machine.gates n in
    let may = (subst (λ (q : Point). Steps g at.machine q at.next) p_is at.steps).1.0 in
    let parts = gates_of n before in
    let keeps = all_keep n x parts (gates_run g at.machine before n at.run) in
    let none : x.front ≡ [] = no_length x.front (sym keeps.left ∙ so.fronted) in
    let first : output x.conn ≡ so.bytes ++ may.3.0 =
    sym (ap (λ (xs : List ℕ). xs ++ output x.conn) none) ∙ sym (gateway_runs.writes_output x may.1) ∙ may.3.1 in
    let header = gateway.front_header parts in
    let whole : front_went parts ≡ header =
    sym (append-nil (front_went parts)) ∙ ap (λ (xs : List ℕ). front_went parts ++ xs) (sym none) ∙ sym keeps.front in
    let parted : sent n (entries before) ≡ header ++ conn_went parts =
    ((h.laws before (p ∷ behind) are).sides.gate n so.owned).went
    ∙ sym (take-append-drop (length header) (gateway.link_went parts))
    ∙ ap (λ (xs : List ℕ). xs ++ conn_went parts) whole in
    not_beyond so.frame so.front (frames_got (gateway.moves parts))
    (last_fits Client (gateway.moves parts) (gateway.tellings parts) (gateway.link_came parts) (conn_went parts) x.conn keeps.stands
    so.bytes may.3.0 first
    (data_fits Client (gateway.moves parts) (gateway.tellings parts) (gateway.link_came parts) (conn_went parts) x.conn keeps.stands
    (length so.bytes))
    so.front so.frame (behind_header header (sent n (entries before)) (conn_went parts) so.bytes so.front so.frame parted so.last))
    so.beyond
