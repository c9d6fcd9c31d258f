-- Traces with which DATA begins beyond what the peer granted don't keep windows.
use Rattle.std.proofs.Common.{◌≡◌, ◌⊎◌, inl, inr, ⊎_elim, ℕ, ◌+◌, ◌<◌, ◌≤◌, ◌^◌, ◌&&◌, not, Bool, true, List, [], ◌∷◌, ◌++◌, length, take, drop}
use Rattle.std.proofs.Common.{Option, Some, None, refl, ap, sym, ◌∙◌, subst, arith, length-append}
use Rattle.std.specs.Prelude.{IfSome, slice_index}
use Rattle.std.proofs.lemmas.Bool.{ne_eqb}
use Rattle.std.proofs.lemmas.List.{append-nil, append_assoc, append_cancel_left}
use Rattle.hb_base.specs.declared.identity.Identity.{Identity}
use Rattle.hb_base.specs.declared.ip.Ip.{Ip}
use Rattle.hb_base.specs.declared.ip.Ip.TheVariants.{V4, V6}
use Rattle.hb_base.specs.declared.target.Target.{Target}
use Rattle.hb_conn.specs.Preface.{octets}
use Rattle.hb_frames.proofs.FrameLists.{in_front}
use Rattle.hb_frames.specs.Frames.{Joins}
use Rattle.hb_frames.specs.RawFrame.{RawFrame, spelling}
use Rattle.hb_front.proofs.TlvLists.{texts, same_size, same_parts}
use Rattle.hb_front.specs.Header as front
use Rattle.hb_front.specs.Header.{Header, body}
use Rattle.hb_front.specs.Written.{family_for, octets_in, identity_text, identity_tlvs, header_of, front_text, IsSent}
use Rattle.hb_laws.proofs.RefusedWindows.{spelled_with}
use Rattle.hb_laws.proofs.Spelled.{frames_read}
use Rattle.hb_laws.specs.RefusedTunnels.{data_frame}
use Rattle.hb_laws.specs.RefusedWindows.{three, none_granted, ack}
use Rattle.hb_outgoing.proofs.Queues.{spelling_len}
use Rattle.hb_outgoing.specs.Selected.{has_data}
use Rattle.hb_outgoing.specs.Waiting.{spelled}
use Rattle.hb_world.specs.Trace.{recv, sent}
use Rattle.hb_world.specs.declared.entry.Entry.{Entry}
use Rattle.hb_world.specs.declared.entry.Entry.TheVariants as e
use Rattle.hb_headline.specs.Refused.{BeginsLarge, BeginsBeyond, BeginsUngranted, GateBeginsBeyond, GateBeginsUngranted, GateUnfronted, sends, ungranted}
use Rattle.hb_headline.specs.Refused.{through_gate}
use Rattle.hb_headline.specs.Relay.{data_with}
use Rattle.hb_headline.specs.Windows.{AreFirst, AreClients, IsGranted, IsHeader, KeepsWindows, Windows}

-- where all that goes on a link are whole frames, by one write, the last one is granted
last_granted : (opening : List ℕ) (Came : List RawFrame → List ℕ → Type 0) (frames front : List RawFrame) (f : RawFrame)
    (before : List Entry) (l : ℕ) (trace : List Entry) → trace ≡ before ++ e.Went l (opening ++ spelled (front ++ f ∷ [])) ∷ []
    → sent l before ≡ [] → sent l trace ≡ opening ++ spelled (front ++ f ∷ []) → has_data f ≡ true
    → KeepsWindows opening Came frames trace l → (got : List RawFrame) × Came got (recv l before) × IsGranted f front got
last_granted opening Came frames front f before l trace are none went some keeps =
    let bytes = opening ++ spelled (front ++ f ∷ []) in
    let all : spelled (front ++ f ∷ []) ++ keeps.went.rest ≡ spelled frames =
    append_cancel_left opening (spelled (front ++ f ∷ []) ++ keeps.went.rest) (spelled frames)
    (sym (append_assoc opening (spelled (front ++ f ∷ [])) keeps.went.rest)
    ∙ ap (λ (bs : List ℕ). bs ++ keeps.went.rest) (sym went) ∙ sym keeps.went.is) in
    let read = frames_read (front ++ f ∷ []) frames keeps.went.rest all in
    keeps.fit before bytes [] are front f read.0 (read.1 ∙ append_assoc front (f ∷ []) read.0)
    (omega (arith, ap (λ (bs : List ℕ). length bs) none))
    (omega (
      arith,
      ap (λ (bs : List ℕ). length bs) none,
      length-append opening (spelled front),
      length-append opening (spelled (front ++ f ∷ [])),
      spelled_with front [] f,
      spelling_len f,
    ))
    some

-- without octets no frame came
none_joined : (got : List RawFrame) (rest : List ℕ) → Joins got rest [] → got ≡ []
none_joined [] rest join = refl
none_joined (g ∷ got) rest join = absurd cc

none_came : (got : List RawFrame) → AreClients got [] → got ≡ []
none_came got (inl none) = none
none_came got (inr is) = absurd (let no = is.1.4 in cc)

has_payload : (payload : List ℕ) (stream : ℕ) → 0 < length payload → has_data (data_frame 0 stream payload) ≡ true
has_payload payload stream some =
    ap (λ (none : Bool). true && not none) (ne_eqb (length payload) 0 (λ is. omega (arith, some, is)))

pub begins_large : BeginsLarge
begins_large payload is frames within =
    let f = data_frame 0 1 payload in
    let bytes = spelled (f ∷ []) in
    let last = last_granted [] AreClients (frames 1) [] f (e.Accepted 1 _ ∷ []) 1 (sends (f ∷ [])) refl refl (append-nil bytes)
    (has_payload payload 1 (omega (arith, is)))
    (within.inbound 1 refl) in
    absurd (omega (arith, is, last.2.fits.size))

pub begins_beyond : BeginsBeyond
begins_beyond payload is frames within =
    let f = data_frame 0 7 payload in
    let bytes = spelled (three payload ++ f ∷ []) in
    let last = last_granted [] AreClients (frames 1) (three payload) f (e.Accepted 1 _ ∷ []) 1 (sends (three payload ++ f ∷ [])) refl refl
    (append-nil bytes)
    (has_payload payload 7 (omega (arith, is))) (within.inbound 1 refl) in
    let fits = (subst (IsGranted f (three payload)) (none_came last.0 last.1) last.2).fits.connection in
    absurd (omega (arith, is, fits))

-- the SETTINGS that came are read
settings_read : (got : List RawFrame) (rest : List ℕ) → Joins got rest (spelling none_granted) → (got ≡ []) ⊎ (got ≡ none_granted ∷ [])
settings_read [] rest join = inl refl
settings_read (g ∷ got) rest join =
    let first = in_front g join.0 join.1 (spelling none_granted) join.2 join.3 in
    let none = none_joined got rest (subst (Joins got rest) first.rest join.4) in
    inr (ap (λ (fs : List RawFrame). g ∷ fs) none ∙ ap (λ (x : RawFrame). x ∷ []) (sym first.frame))

-- by them no octet is granted on a stream
none_fits : (byte : ℕ) (got : List RawFrame) → IsGranted (data_with byte) (ack ∷ []) got → (got ≡ []) ⊎ (got ≡ none_granted ∷ []) → ⊥
none_fits byte got granted (inl none) =
    let counts = (subst (IsGranted (data_with byte) (ack ∷ [])) none granted).acknowledged in absurd (omega (arith, counts))
none_fits byte got granted (inr one) =
    let fits = (subst (IsGranted (data_with byte) (ack ∷ [])) one granted).fits.stream in absurd (omega (arith, fits))

pub begins_ungranted : BeginsUngranted
begins_ungranted at byte frames within =
    let keeps = within.control 1 refl in
    let f = data_with byte in
    let bytes = octets ++ spelled (ack ∷ f ∷ []) in
    let before = e.Dialled 1 at _ ∷ e.Opened 1 ∷ e.Came 1 (spelling none_granted) ∷ [] in
    let last = last_granted octets AreFirst keeps.0 (ack ∷ []) f before 1 (ungranted at byte) refl refl (append-nil bytes) refl keeps.1 in
    none_fits byte last.0 last.2 (settings_read last.0 last.1.0 last.1.1)

-- LINKS TO GATEWAYS: one header stands in front of octets

source_size : (from to : Ip) → (length (octets_in (family_for from to) from) ≡ 4) ⊎ (length (octets_in (family_for from to) from) ≡ 16)
source_size (V4 n) (V4 m) = inl refl
source_size (V4 n) (V6 m) = inr refl
source_size (V6 n) to = inr refl

destination_size : (from to : Ip) → (length (octets_in (family_for from to) to) ≡ 4) ⊎ (length (octets_in (family_for from to) to) ≡ 16)
destination_size (V4 n) (V4 m) = inl refl
destination_size (V4 n) (V6 m) = inr refl
destination_size (V6 n) (V4 m) = inr refl
destination_size (V6 n) (V6 m) = inr refl

few_octets : (n : ℕ) → (n ≡ 4) ⊎ (n ≡ 16) → n ≤ 16
few_octets n is = ⊎_elim (λ four. omega (arith, four)) (λ many. omega (arith, many)) is

few_tlvs : (identity : Option Identity) → IfSome identity IsSent → length (texts (identity_tlvs identity)) ≤ 4003
few_tlvs None may = omega arith
few_tlvs (Some i) may = omega (arith, may.size, length-append (identity_text i) [])

-- all behind the length field of one that may be written is counted by that field
body_counted : (from to : Target) (identity : Option Identity) → IfSome identity IsSent
    → length (body (header_of from to identity)) < 2 ^ 16
body_counted from to identity may =
    let h = header_of from to identity in
    let size : length (body h) ≡ length h.source + (length h.destination + (4 + length (texts h.tlvs))) =
    omega (arith, length-append {A = ℕ}) in
    let source = few_octets (length h.source) (source_size from.ip to.ip) in
    let destination = few_octets (length h.destination) (destination_size from.ip to.ip) in
    omega (arith, size, source, destination, few_tlvs identity may)

same_text : (h k : Header) (x y : List ℕ) → length (body h) < 2 ^ 16 → length (body k) < 2 ^ 16
    → front.spelling h ++ x ≡ front.spelling k ++ y → front.spelling h ≡ front.spelling k
same_text h k x y h_counted k_counted is =
    let size = same_size (length (body h)) (length (body k)) h_counted k_counted (ap (λ xs. take 2 (drop 14 xs)) is) in
    (same_parts (front.spelling h) (front.spelling k) x y (omega (arith, size, length-append {A = ℕ})) is).0

-- so the header that stands there is that one
this_header : (from to : Target) (identity : Option Identity) → IfSome identity IsSent → (header x y : List ℕ) → IsHeader header
    → header ++ x ≡ front_text from to identity ++ y → header ≡ front_text from to identity
this_header from to identity may header x y (source, destination, other, may_other, text) is =
    text
    ∙ same_text (header_of source destination other) (header_of from to identity) x y (body_counted source destination other may_other)
    (body_counted from to identity may) (ap (λ (bs : List ℕ). bs ++ x) (sym text) ∙ is)

gate_granted : (at from to : Target) (identity : Option Identity) → IfSome identity IsSent → (came : List ℕ) (front : List RawFrame)
    (f : RawFrame) → has_data f ≡ true → (frames : ℕ → List RawFrame)
    → Windows (through_gate at came (front_text from to identity) (front ++ f ∷ [])) frames
    → (got : List RawFrame) × AreFirst got (came ++ []) × IsGranted f front got
gate_granted at from to identity may came front f some frames within =
    let header = front_text from to identity in
    let sent_all = spelled (front ++ f ∷ []) in
    let bytes = (header ++ octets) ++ sent_all in
    let before = e.Dialled 1 at _ ∷ e.Opened 1 ∷ e.Came 1 came ∷ [] in
    let gate = within.gateways 1 refl in
    let own = gate.0 in
    let keeps = gate.3 in
    let went : sent 1 (through_gate at came header (front ++ f ∷ [])) ≡ bytes = append-nil bytes in
    let is : own ++ (octets ++ spelled gate.2) ≡ header ++ ((octets ++ sent_all) ++ keeps.went.rest) =
    sym (append_assoc own octets (spelled gate.2)) ∙ keeps.went.is ∙ ap (λ (bs : List ℕ). bs ++ keeps.went.rest) went
    ∙ ap (λ (bs : List ℕ). bs ++ keeps.went.rest) (append_assoc header octets sent_all)
    ∙ append_assoc header (octets ++ sent_all) keeps.went.rest in
    let same = this_header from to identity may own (octets ++ spelled gate.2) ((octets ++ sent_all) ++ keeps.went.rest) gate.1 is in
    last_granted (header ++ octets) AreFirst gate.2 front f before 1 (through_gate at came header (front ++ f ∷ [])) refl refl went some
    (subst (λ (bs : List ℕ). KeepsWindows (bs ++ octets) AreFirst gate.2 (through_gate at came header (front ++ f ∷ [])) 1) same keeps)

pub gate_begins_beyond : GateBeginsBeyond
gate_begins_beyond at payload is from to identity may frames within =
    let f = data_frame 0 7 payload in
    let last = gate_granted at from to identity may [] (three payload) f (has_payload payload 7 (omega (arith, is))) frames within in
    let none = none_joined last.0 last.1.0 last.1.1 in
    let fits = (subst (IsGranted f (three payload)) none last.2).fits.connection in
    absurd (omega (arith, is, fits))

pub gate_begins_ungranted : GateBeginsUngranted
gate_begins_ungranted at byte from to identity may frames within =
    let last = gate_granted at from to identity may (spelling none_granted) (ack ∷ []) (data_with byte) refl frames within in
    none_fits byte last.0 last.2 (settings_read last.0 last.1.0 last.1.1)

not_same : (a b : ℕ) → a ≡ 13 → b ≡ 80 → a ≡ b → ⊥
not_same a b first second is = omega (arith, first, second, is)

-- a header begins with 13, and the client's preface with 80
pub gate_unfronted : GateUnfronted
gate_unfronted at frames within =
    let gate = within.gateways 1 refl in
    let all = gate.0 ++ (octets ++ spelled gate.2) in
    let same : slice_index all 0 ≡ slice_index (octets ++ gate.3.went.rest) 0 =
    ap (λ (bs : List ℕ). slice_index bs 0) (sym (append_assoc gate.0 octets (spelled gate.2)) ∙ gate.3.went.is) in
    not_same (slice_index all 0) 80 (ap (λ (bs : List ℕ). slice_index (bs ++ (octets ++ spelled gate.2)) 0) gate.1.4) refl same
