-- What goes on a stream, what waits and what is put: for streams that are opened, and octets that are put.
use Rattle.std.proofs.Common.{◌≡◌, ◌≢◌, ◌⊎◌, inl, inr, ℕ, ◌+◌, ◌<◌, ◌≤◌, ◌==◌, ◌&&◌, min, Bool, true, false, cond, List, [], ◌∷◌, ◌++◌, length, take, drop, Some, is_some, Result, Ok, refl, ap, sym, ◌∙◌, subst, arith, length-append, length-take, length-drop}
use Rattle.std.specs.Cmp.{nat_cmp_total, unsigned_tied}
use Rattle.std.specs.FinMap.{get, get-insert}
use Rattle.std.specs.List.{filter, sum_by}
use Rattle.std.proofs.lemmas.Bool.{cases_eq, ne_eqb}
use Rattle.std.proofs.lemmas.Grind.{flat_map-append}
use Rattle.std.proofs.lemmas.List.{append-nil, append_assoc, nil_from_length, take_all}
use Rattle.std.proofs.lemmas.List.Sums.{sum_by-cons}
use Rattle.hb_conn.specs.Connection.{Connection, core_of, with_core}
use Rattle.hb_conn.specs.Frames.{frame, sent}
use Rattle.hb_conn.specs.Observed as observed
use Rattle.hb_conn.specs.Observed.{outgoing, streams, next_stream, count_put, data_put}
use Rattle.hb_conn.specs.Payload.{allowed, with_data}
use Rattle.hb_conn.specs.declared.found.Found.{Found}
use Rattle.hb_flow.specs.Flows.{spent}
use Rattle.hb_frames.specs.Numbers.{data_kind}
use Rattle.hb_frames.specs.RawFrame.{RawFrame}
use Rattle.hb_history.specs.History.{StandsFor as ConnStandsFor}
use Rattle.hb_history.specs.Points as history
use Rattle.hb_hpack.specs.declared.header.Header.{Header}
use Rattle.hb_inbound.proofs.Relaying.{none_in}
use Rattle.hb_kept.specs.Numbers.{highest_used}
use Rattle.hb_kept.specs.Payloads.{payload_on, payloads, Follows, GoesOn}
use Rattle.hb_kept.proofs.Payloads.{puts_follow, more_follows}
use Rattle.hb_outgoing.specs.Selected.{is_data_of, payload_size, data_size}
use Rattle.hb_streams.specs.Moves.{after_number}
use Rattle.hb_streams.specs.Sides.{both_open}
use Rattle.hb_streams.specs.declared.fault.OpenFault.{OpenFault}
use Rattle.hb_streams.specs.declared.role.Role.TheVariants.{Client}
use Rattle.hb_gateway.proofs.Asking.{number_above, number_highest}

-- the payload of a stream's DATA frames is as long as it is counted
pub size_of : (s : ℕ) (fs : List RawFrame) → data_size (Some s) fs ≡ length (payloads s fs)
size_of s [] = refl
size_of s (f ∷ fs) = by (f.kind == data_kind && f.stream == s) (size_of s fs)
  where
    by : (b : Bool) → data_size (Some s) fs ≡ length (payloads s fs)
        → sum_by payload_size (cond b (f ∷ filter (is_data_of (Some s)) fs) (filter (is_data_of (Some s)) fs))
        ≡ length (cond b f.payload [] ++ payloads s fs)
    by true rest =
        sum_by-cons payload_size f (filter (is_data_of (Some s)) fs) ∙ ap (λ (n : ℕ). length f.payload + n) rest
        ∙ sym (length-append f.payload (payloads s fs))
    by false rest = rest

-- A STREAM THAT IS OPENED LEAVES WHAT WAITS

nil_behind : (xs ys : List ℕ) → [] ≡ xs ++ ys → ys ≡ []
nil_behind xs ys is = (none_in xs ys is).0

module _ (c : Connection) (k : ℕ) (headers : List Header) (number : next_stream c ≡ Ok k) where
  abbrev opens : Connection
  opens = observed.opened c k headers false

  pub active_elsewhere : (s : ℕ) → s ≢ k → get (streams opens).active s ≡ get (streams c).active s
  active_elsewhere s apart =
      ap (λ (r : Result ℕ OpenFault). get (after_number (streams c) r).active s) number
      ∙ get-insert nat_cmp_total (streams c).active k both_open s
      ∙ ap (λ b. cond b (Some both_open) (get (streams c).active s)) (unsigned_tied s k ∙ ne_eqb s k apart)

  pub opens_follow : (s : ℕ) (begun : List RawFrame) (all : List ℕ) → Follows s begun all [] c → Follows s begun all [] opens
  opens_follow s begun all h = record {
    rest = h.rest;
    front = h.front
        ∙ ap (λ (bs : List ℕ). bs ++ h.rest)
        (sym (ap (payloads s) (sym (append_assoc begun (outgoing c).queue _))
        ∙ flat_map-append (payload_on s) (begun ++ (outgoing c).queue) _
        ∙ append-nil (payloads s (begun ++ (outgoing c).queue))));
    goes = λ on. by on (cases_eq s k);
    unused = λ above.
        let high = number_highest c k headers number in
        let low = number_above c k number in
        h.unused (omega (arith, above, high, low));
  }
    where
      by : GoesOn s opens → (s ≡ k) ⊎ (s ≢ k) → h.rest ≡ []
      by on (inl same) =
          nil_behind (payloads s (begun ++ (outgoing c).queue)) h.rest
          (sym (h.unused (subst (λ (n : ℕ). highest_used c < n) (sym same) (number_above c k number))).0 ∙ h.front)
      by on (inr apart) = h.goes (on.0, sym (ap is_some (active_elsewhere s apart)) ∙ on.1)

-- OF WHAT IS OFFERED SO MUCH IS PUT AS GOES IN ONE FRAME

counted : (over fits : Bool) (bytes : List ℕ) (most : ℕ) → let n = cond over 0 (cond fits (min (length bytes) most) 0) in
    cond over 0 (cond fits (min (length (take n bytes)) most) 0) ≡ n
counted true fits bytes most = refl
counted false false bytes most = refl
counted false true bytes most =
    let n = min (length bytes) most in
    let len = length-take n bytes in
    omega (arith, len)

-- those octets alone are put as they are
pub put_counts : (c : Connection) (s : ℕ) (bytes : List ℕ) → count_put c s (take (count_put c s bytes) bytes) ≡ count_put c s bytes
put_counts c s bytes = counted (core_of c).over _ bytes (allowed (core_of c) s)

taken_twice : (n : ℕ) (bytes : List ℕ) → take n (take n bytes) ≡ take n bytes
taken_twice n bytes = take_all n (take n bytes) (let len = length-take n bytes in omega (arith, len))

pub put_same : (c : Connection) (s : ℕ) (bytes : List ℕ) → data_put c s (take (count_put c s bytes) bytes) ≡ data_put c s bytes
put_same c s bytes =
    let k = core_of c in
    let n = count_put c s bytes in
    ap (with_core c)
    (ap (with_data k s (take n bytes)) (put_counts c s bytes)
    ∙ ap (λ (xs : List ℕ). cond (n == 0) k (sent (record k { flow = spent k.flow s n }) (frame data_kind 0 s xs))) (taken_twice n bytes))

pub none_left : (n : ℕ) (bytes : List ℕ) → drop n (take n bytes) ≡ []
none_left n bytes =
    nil_from_length (drop n (take n bytes))
    (let len = length-take n bytes in let left = length-drop n (take n bytes) in omega (arith, len, left))

-- with octets that are put on a stream that was used they are all that is to be sent on it
pub puts_all : (points : List history.Point) (given : List Found) (come went : List ℕ) (c : Connection)
    → ConnStandsFor Client points given come went c → (s : ℕ) (begun : List RawFrame) (all bytes : List ℕ) → s ≤ highest_used c
    → 0 < count_put c s bytes → Follows s begun all [] c
    → Follows s begun (all ++ take (count_put c s bytes) bytes) [] (data_put c s bytes)
puts_all points given come went c stands s begun all bytes used some h =
    let front = take (count_put c s bytes) bytes in
    let counts = put_counts c s bytes in
    let put : Follows s begun (all ++ front) (drop (count_put c s front) front) (data_put c s front) =
    puts_follow Client points given come went c stands s begun (all ++ front) front (omega (arith, counts, some))
    (more_follows s begun all [] front c used h) in
    subst (Follows s begun (all ++ front) []) (put_same c s bytes)
    (subst (λ (w : List ℕ). Follows s begun (all ++ front) w (data_put c s front))
    (ap (λ (n : ℕ). drop n front) counts ∙ none_left (count_put c s bytes) bytes) put)
