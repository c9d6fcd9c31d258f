-- No more bytes go to an upstream than came on its link.
use Rattle.std.proofs.Common.{◌≡◌, ℕ, ◌+◌, ◌-◌, ◌*◌, ◌≤◌, ◌==◌, ◌||◌, Bool, true, false, cond, List, [], ◌∷◌, ◌++◌, length, drop, Option, Some, None, ap, arith, length-append, length-drop}
use Rattle.std.proofs.lemmas.List.{length-take}
use Rattle.std.specs.List.{flat_map}
use Rattle.std.specs.Prelude.{slice_range}
use Rattle.hb_conn.specs.declared.found.Found.{Found}
use Rattle.hb_conn.specs.declared.found.Found.TheVariants as found
use Rattle.hb_frames.specs.Bodies.{lent_of, content_of}
use Rattle.hb_frames.specs.Frames.{Joins}
use Rattle.hb_frames.specs.Numbers.{settings_kind, continuation_kind}
use Rattle.hb_frames.specs.RawFrame.{RawFrame, header}
use Rattle.hb_frames.specs.Refusals.{has_content, front_len}
use Rattle.hb_history.specs.Points as history
use Rattle.hb_history.specs.Points.{Move, got, frames_got}
use Rattle.hb_inbound.specs.Part.{Part, moves}
use Rattle.hb_inbound.specs.Sides.{data_told, data_by, stream_came, link_came, conn_came, behind_front, front_size}
use Rattle.hb_inbound.specs.Connections.{IsOneHistory}

within_slice : (xs : List ℕ) (a b : ℕ) → length (slice_range xs a b) ≤ length xs
within_slice xs a b = omega (arith, length-take (b - a) (drop a xs), length-drop a xs)

within_either : (b : Bool) (xs ys : List ℕ) (n : ℕ) → length xs ≤ n → length ys ≤ n → length (cond b xs ys) ≤ n
within_either true xs ys n first second = first
within_either false xs ys n first second = second

-- what a frame hands out is part of its payload
within_payload : (f : RawFrame) → length (lent_of f) ≤ length f.payload
within_payload f =
    within_either (has_content f) (content_of f) (cond (f.kind == settings_kind || f.kind == continuation_kind) f.payload [])
    (length f.payload)
    (within_slice f.payload (front_len f) _)
    (within_either (f.kind == settings_kind || f.kind == continuation_kind) f.payload [] (length f.payload) (omega arith) (omega arith))

told_within : (s : ℕ) (f : RawFrame) (told : Found) → length (data_told s (got f) told) ≤ length f.payload
told_within s f (found.Chunk k end) = within_either (k == s) (lent_of f) [] (length f.payload) (within_payload f) (omega arith)
told_within s f _ = omega arith

-- what is handed out of a stream has no more octets than the frames that came
pub came_within : (s : ℕ) (points : List history.Point) (rest bytes : List ℕ) → Joins (frames_got points) rest bytes
    → length (flat_map (data_by s) points) ≤ length bytes
came_within s [] rest bytes joins = omega arith
came_within s (p ∷ points) rest bytes joins = by p.move joins (λ more tail. came_within s points rest more tail)
  where
    by : (m : Move) → Joins (frames_got (history.point m p.told ∷ points)) rest bytes
        → ((more : List ℕ) → Joins (frames_got points) rest more → length (flat_map (data_by s) points) ≤ length more)
        → length (data_told s m p.told ++ flat_map (data_by s) points) ≤ length bytes
    by (got f) joins others =
        let body = f.payload in
        omega (
          arith,
          length-append (data_told s (got f) p.told) (flat_map (data_by s) points),
          told_within s f p.told,
          others joins.1 joins.4,
          ap (λ (xs : List ℕ). length xs) joins.3,
          length-append joins.0 joins.1,
          ap (λ (xs : List ℕ). length xs) joins.2.whole,
          length-append (header (length body) f.kind f.flags (joins.2.reserved * 2147483648 + f.stream)) body,
        )
    by _ joins others = others bytes joins

behind_within : (size : Option ℕ) (bytes : List ℕ) → length (behind_front size bytes) ≤ length bytes
behind_within None bytes = omega arith
behind_within (Some n) bytes = omega (arith, length-drop n bytes)

-- so it is of the link of a tunnel
pub stream_within : (s : ℕ) (parts : List Part) → IsOneHistory parts → length (stream_came s parts) ≤ length (link_came parts)
stream_within s parts one =
    omega (
      arith,
      came_within s (moves parts) _ (drop 24 (conn_came parts)) one.stands.came.frames_are,
      length-drop 24 (conn_came parts),
      behind_within (front_size parts) (link_came parts),
    )

-- where all of a list is a front of it there is no byte behind
pub not_more : (a b c : List ℕ) (byte : ℕ) → a ≡ (a ++ byte ∷ b) ++ c → ⊥
not_more a b c byte is =
    absurd (omega (
      arith,
      ap (λ (xs : List ℕ). length xs) is,
      length-append (a ++ byte ∷ b) c,
      length-append a (byte ∷ b),
    ))
