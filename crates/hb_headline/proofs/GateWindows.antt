-- On each link to a gateway of a lawful trace DATA begins within what the gateway granted.
use Rattle.std.proofs.Common.{◌≡◌, ◌⊎◌, inl, inr, ⊎_elim, ℕ, ◌+◌, ◌-◌, ◌<◌, ◌≤◌, Bool, true, false, cond, fold, List, [], ◌∷◌, ◌++◌, length, refl, ap, sym, ◌∙◌, subst, arith, length-append, length-drop}
use Rattle.std.proofs.lemmas.Bool.{false≢true}
use Rattle.std.proofs.lemmas.List.{append-nil, append_assoc, take-append-drop, nil_from_length}
use Rattle.std.proofs.lemmas.List.Concat.{flat_map-append}
use Rattle.std.specs.List.{list_any}
use Rattle.hb_base.specs.declared.door.Why.TheVariants as whys
use Rattle.hb_conn.specs.Preface.{octets}
use Rattle.hb_conn.specs.declared.found.Found.TheVariants.{Silent}
use Rattle.hb_frames.specs.Frames.{Joins}
use Rattle.hb_frames.specs.RawFrame.{RawFrame}
use Rattle.hb_gateway.proofs.Grown.{none_more}
use Rattle.hb_gateway.proofs.Runs.{Keeps, all_keep}
use Rattle.hb_gateway.specs.Connections.{front_went, conn_went}
use Rattle.hb_gateway.specs.Gateway.{Gateway, Phase, unborn}
use Rattle.hb_gateway.specs.Key.{Key, MayBeWritten, front_of}
use Rattle.hb_gateway.specs.Part as gateway
use Rattle.hb_gateway.specs.Part.{Part, dialled, entry, link_went, front_header, moves_in, moves_from, moves, left_by, left_of}
use Rattle.hb_gateway.specs.Runs as gateway_runs
use Rattle.hb_gateway.specs.Runs.{IsBirth}
use Rattle.hb_history.specs.Points.{Point as Moved, frames_got}
use Rattle.hb_laws.proofs.Doors.{went_without}
use Rattle.hb_laws.proofs.Lawful.{laws_of}
use Rattle.hb_laws.proofs.Places.{of_gateway}
use Rattle.hb_laws.specs.Lawful.{Lawful}
use Rattle.hb_model.specs.declared.config.NodeConfig.{NodeConfig}
use Rattle.hb_outgoing.specs.Selected.{has_data}
use Rattle.hb_outgoing.specs.Waiting.{spelled}
use Rattle.hb_proxy.proofs.Agreed.{ByOwner, all_agree, told_in}
use Rattle.hb_proxy.proofs.GateChanges.{GateFits, GateStays, gate_born, gate_part_stays, is_gate_born}
use Rattle.hb_proxy.proofs.Gates.{gates_run}
use Rattle.hb_proxy.proofs.Look.{Look}
use Rattle.hb_proxy.specs.Owners.{Owner, gateway_link, owner}
use Rattle.hb_proxy.specs.Points.{Point, gate_in, gates_of}
use Rattle.hb_streams.specs.declared.role.Role.TheVariants.{Client}
use Rattle.hb_world.specs.Trace.{is_birth, recv, sent}
use Rattle.hb_world.specs.declared.entry.Entry.{Entry}
use Rattle.hb_world.specs.declared.entry.Entry.TheVariants as e
use Rattle.hb_headline.specs.Relay.{IsFront}
use Rattle.hb_headline.specs.Windows.{AreFirst, IsGranted, IsHeader, KeepsWindows}
use Rattle.hb_headline.proofs.Fronts.{split_last}
use Rattle.hb_headline.proofs.Granted.{octets_went, granted}
use Rattle.hb_headline.proofs.Relay.{owner_is}
use Rattle.hb_headline.proofs.Windows.{itself, at, laws, goes, own_here, owned, went_same, came_same}

moves_split : (left : ℕ) (xs ys : List Part) → moves_from left (xs ++ ys) ≡ moves_from left xs ++ moves_from (fold left_by left xs) ys
moves_split left [] ys = refl
moves_split left (x ∷ xs) ys =
    ap (λ (ps : List Moved). moves_in left x ++ ps) (moves_split (left_by left x) xs ys)
    ∙ sym (append_assoc (moves_in left x) (moves_from (left_by left x) xs) (moves_from (fold left_by (left_by left x) xs) ys))

-- THE FRONT HEADER is told once

-- where octets went more of it is never told
unborn_sends : (parts before : List Part) (n : ℕ) (bytes : List ℕ) (after : List Part)
    → parts ≡ before ++ gateway.entry (e.Went n bytes) ∷ after → 0 < length bytes → link_went parts ≡ [] → ⊥
unborn_sends parts before n bytes after are some none =
    let all : link_went parts ≡ link_went before ++ (bytes ++ link_went after) =
    ap link_went are ∙ flat_map-append gateway.went_in before (gateway.entry (e.Went n bytes) ∷ after) in
    omega (
      arith,
      some,
      ap (λ (xs : List ℕ). length xs) (sym all ∙ none),
      length-append (link_went before) (bytes ++ link_went after),
      length-append bytes (link_went after),
    )

born_unborn : (g : ℕ) (x : Gateway) (z : Entry) (key : Key) → IsBirth g x z key → x.phase ≡ unborn
born_unborn g x (e.Dialled k to (whys.Gateway a)) key is = is.1
born_unborn g x _ key is = absurd is

header_grows : (g : ℕ) (x y : Gateway) (parts : List Part) (p : Part) → gateway_runs.StandsFor g x parts → gateway_runs.Steps g x p y
    → (link_went parts ≡ [] → ⊥) → front_header (parts ++ p ∷ []) ≡ front_header parts
header_grows g x y parts (dialled z key) stands steps sends =
    absurd (sends ((all_keep g x parts stands).early (born_unborn g x z key steps.0)).sent)
header_grows g x y parts p stands steps sends = none_more gateway.front_in parts p refl

header_stays : (g : ℕ) (x : Gateway) (parts : List Part) → gateway_runs.StandsFor g x parts → (before : List Part) (n : ℕ) (bytes : List ℕ)
    (after : List Part) → 0 < length bytes → parts ≡ before ++ gateway.entry (e.Went n bytes) ∷ after
    → front_header parts ≡ front_header before
header_stays g x parts (gateway_runs.begins is none) before n bytes after some are =
    absurd (no_place before (sym none ∙ are))
  where
    no_place : (before : List Part) → [] ≡ before ++ gateway.entry (e.Went n bytes) ∷ after → ⊥
    no_place [] is = cc
    no_place (q ∷ ps) is = cc
header_stays g y more (gateway_runs.goes_on {x = x} {parts = parts} stands p steps grown) before n bytes after some are =
    let w = gateway.entry (e.Went n bytes) in
    ⊎_elim
    (λ last. ap front_header (grown ∙ sym last) ∙ none_more gateway.front_in before w refl)
    (λ early.
    let here : parts ≡ before ++ w ∷ early.0 = early.1 ∙ append_assoc before (w ∷ []) early.0 in
    ap front_header grown ∙ header_grows g x y parts p stands steps (unborn_sends parts before n bytes early.0 here some)
    ∙ header_stays g x parts stands before n bytes early.0 some here)
    (split_last parts p (before ++ w ∷ []) after (sym grown ∙ are ∙ sym (append_assoc before (w ∷ []) after)))

born_written : (g : ℕ) (x : Gateway) (z : Entry) (key : Key) → IsBirth g x z key → MayBeWritten key
born_written g x (e.Dialled k to (whys.Gateway a)) key is = is.3
born_written g x _ key is = absurd is

-- that of a link that is born is one that is written
header_is : (g : ℕ) (x : Gateway) (parts : List Part) → gateway_runs.StandsFor g x parts → is_gate_born x.phase ≡ true
    → IsHeader (front_header parts)
header_is g x parts (gateway_runs.begins is none) born = absurd (false≢true (ap (λ (y : Gateway). is_gate_born y.phase) (sym is) ∙ born))
header_is g y more (gateway_runs.goes_on {x = x} {parts = parts} stands p steps grown) born =
    subst (λ (ps : List Part). IsHeader (front_header ps)) (sym grown)
    (by p steps (gate_part_stays g x y p steps) (header_is g x parts stands))
  where
    by : (q : Part) → gateway_runs.Steps g x q y → (list_any is_birth (gateway.entry_in q) ≡ false → GateStays x.phase y.phase)
        → (is_gate_born x.phase ≡ true → IsHeader (front_header parts)) → IsHeader (front_header (parts ++ q ∷ []))
    by (dialled z key) steps stays was =
        let none = ((all_keep g x parts stands).early (born_unborn g x z key steps.0)).header in
        let all : front_header (parts ++ dialled z key ∷ []) ≡ front_of key =
        flat_map-append gateway.front_in parts (dialled z key ∷ [])
        ∙ ap (λ (bs : List ℕ). bs ++ (front_of key ++ [])) none ∙ append-nil (front_of key) in
        (record { ip = key.source; port = 0 }, key.gateway, key.identity, born_written g x z key steps.0, all)
    by (entry z) steps stays was =
        subst IsHeader (sym (none_more gateway.front_in parts (entry z) refl)) (was (gate_born g x z steps.0))
    by q steps stays was = subst IsHeader (sym (none_more gateway.front_in parts q refl)) (was (stays refl born))

-- a link of which the trace fits what it does is born
born_fits : (phase : Phase) (v : Look) → GateFits phase v → is_gate_born phase ≡ true
born_fits unborn v fits = absurd fits
born_fits _ v fits = refl

-- OF WHAT WENT so much is the header's, and the rest the connection's
record Sizes (parts : List Part) (x : Gateway) : Type 0 where
  all : length (front_went parts) + length (conn_went parts) ≡ length (link_went parts)
  behind : length (conn_went parts) ≡ length (link_went parts) - length (front_header parts)
  header : length (front_header parts) ≡ length (front_went parts) + left_of parts

sizes : (parts : List Part) (x : Gateway) → Keeps parts x → Sizes parts x
sizes parts x keeps =
    let n = length (front_header parts) in
    record {
      all = sym (length-append (front_went parts) (conn_went parts))
          ∙ ap (λ (xs : List ℕ). length xs) (take-append-drop n (link_went parts));
      behind = length-drop n (link_went parts);
      header = omega (
        arith,
        ap (λ (xs : List ℕ). length xs) keeps.front,
        length-append (front_went parts) x.front,
        keeps.left,
      );
    }

module _ (g : NodeConfig) (trace : List Entry) (h : Lawful g trace) (n : ℕ) (own : owner n trace ≡ gateway_link) where
  abbrev parts : List Part
  parts = gates_of n h.points

  stands_all : gateway_runs.StandsFor n (h.machine.gates n) parts
  stands_all = gates_run g h.machine h.points n h.run

  abbrev one : Keeps parts (h.machine.gates n)
  one = all_keep n (h.machine.gates n) parts stands_all

  abbrev header : List ℕ
  header = front_header parts

  gate_fits : (before : List Entry) (bytes : List ℕ) (after : List Entry) → trace ≡ before ++ e.Went n bytes ∷ after
      → (front : List RawFrame) (f : RawFrame) (behind : List RawFrame) → one.stands.begun ≡ front ++ f ∷ behind
      → length (sent n before) ≤ length ((header ++ octets) ++ spelled front)
      → length ((header ++ octets) ++ spelled front) < length (sent n before) + length bytes → has_data f ≡ true
      → (got : List RawFrame) × AreFirst got (recv n before) × IsGranted f front got
  gate_fits before bytes after are front f behind frames_are unbegun starts some =
      let at = at g trace h before n bytes after are gateway_link own in
      let laws = laws g trace h before n bytes after are gateway_link own in
      let owned = owned g trace h before n bytes after are gateway_link own in
      let goes = goes g trace h before n bytes after are gateway_link own in
      let w = gateway.entry (e.Went n bytes) in
      let own_here = own_here g trace h before n bytes after are gateway_link own in
      let p_is = of_gateway at.front (e.Went n bytes) n refl at.p own_here at.is owned in
      let here = gates_of n at.front in
      let later = gates_of n at.rest in
      let parts_are : parts ≡ here ++ w ∷ later =
      ap (gates_of n) at.points_are ∙ flat_map-append (gate_in n) at.front (at.p ∷ at.rest)
      ∙ ap (λ (q : Point). here ++ (gate_in n q ++ later)) p_is
      ∙ ap (λ (b : Bool). here ++ (cond b (w ∷ []) [] ++ later)) (itself n) in
      let was = all_keep n (goes.machine.gates n) here (gates_run g goes.machine at.front n goes.run) in
      let side = laws.sides.gate n owned in
      let size = octets_went Client (moves here) (gateway.tellings here) (gateway.link_came here) (conn_went here)
      (goes.machine.gates n).conn was.stands in
      let mine : link_went here ≡ sent n before = sym side.went ∙ went_same g trace h before n bytes after are gateway_link own in
      let came : gateway.link_came here ≡ recv n before = sym side.came ∙ came_same g trace h before n bytes after are gateway_link own in
      let bytes_go : 0 < length bytes = omega (arith, unbegun, starts) in
      let same = header_stays n (h.machine.gates n) parts stands_all here n bytes later bytes_go parts_are in
      let counts = sizes here (goes.machine.gates n) was in
      let first = length-append (header ++ octets) (spelled front) in
      let second = length-append header octets in
      let third = length-append octets (spelled front) in
      let went_size = ap (λ (xs : List ℕ). length xs) mine in
      let header_size = ap (λ (xs : List ℕ). length xs) same in (
        frames_got (moves here),
        (
          (goes.machine.gates n).conn.receiver.reader.held,
          subst (Joins (frames_got (moves here)) (goes.machine.gates n).conn.receiver.reader.held)
              came was.stands.came.frames_are,
        ),
        granted Client (moves parts) (gateway.tellings parts) (gateway.link_came parts) (conn_went parts)
            (h.machine.gates n).conn one.stands
            (moves here) (moves_from (left_of here - length bytes) later) (length bytes - left_of here) Silent
            (ap moves parts_are ∙ moves_split 0 here (w ∷ later))
            front f behind frames_are (conn_went here) size
            (omega (arith, unbegun, counts.all, counts.behind, counts.header, first, second, third, went_size, header_size))
            (omega (arith, starts, counts.all, counts.behind, counts.header, first, second, third, went_size, header_size))
            some,
      )

  abbrev rest : List ℕ
  rest = (h.machine.gates n).conn.receiver.core.out.rest

  went_all : link_went parts ≡ sent n trace
  went_all =
      sym ((laws_of g trace h).sides.gate n (owner_is h.points trace (sym h.trace_is) n ∙ own)).went ∙ ap (sent n) (sym h.trace_is)
      ∙ went_without n trace

  fronted : (left : List ℕ) → header ≡ front_went parts ++ left → left_of parts ≡ length left
      → IsFront (link_went parts) ((header ++ octets) ++ spelled one.stands.begun)
  fronted [] is size = record {
    rest = rest;
    is = append_assoc header octets (spelled one.stands.begun)
        ∙ ap (λ (bs : List ℕ). header ++ bs) (sym one.stands.shows)
        ∙ ap (λ (bs : List ℕ). bs ++ (conn_went parts ++ rest)) (is ∙ append-nil (front_went parts))
        ∙ sym (append_assoc (front_went parts) (conn_went parts) rest)
        ∙ ap (λ (bs : List ℕ). bs ++ rest) (take-append-drop (length header) (link_went parts));
  }
  fronted (b ∷ left) is size =
      let counts = sizes parts (h.machine.gates n) one in
      let none : conn_went parts ≡ [] = nil_from_length (conn_went parts) (omega (arith, counts.all, counts.behind, counts.header, size)) in
      let all : link_went parts ≡ front_went parts =
      sym (take-append-drop (length header) (link_went parts)) ∙ ap (λ (bs : List ℕ). front_went parts ++ bs) none
      ∙ append-nil (front_went parts) in
      record {
        rest = (b ∷ left) ++ (octets ++ spelled one.stands.begun);
        is = append_assoc header octets (spelled one.stands.begun)
            ∙ ap (λ (bs : List ℕ). bs ++ (octets ++ spelled one.stands.begun)) is
            ∙ append_assoc (front_went parts) (b ∷ left) (octets ++ spelled one.stands.begun)
            ∙ ap (λ (bs : List ℕ). bs ++ ((b ∷ left) ++ (octets ++ spelled one.stands.begun))) (sym all);
      }

  -- it is born, since it is a link to a gateway
  born : is_gate_born (h.machine.gates n).phase ≡ true
  born = born_fits (h.machine.gates n).phase (told_in h.points n)
      (subst (λ (o : Owner). ByOwner o h.machine n (told_in h.points n)) (owner_is h.points trace (sym h.trace_is) n ∙ own)
      ((all_agree g h.machine h.points h.run).each n))

  pub gate_keeps : (opening : List ℕ) × IsHeader opening × (frames : List RawFrame)
      × KeepsWindows (opening ++ octets) AreFirst frames trace n
  gate_keeps = (
    header,
    header_is n (h.machine.gates n) parts stands_all born,
    one.stands.begun,
    record {
      went = subst (λ (bs : List ℕ). IsFront bs ((header ++ octets) ++ spelled one.stands.begun)) went_all
          (fronted (h.machine.gates n).front one.front one.left);
      fit = gate_fits;
    },
  )
