-- A padded payload and its content.
use Rattle.std.proofs.Common.{◌≡◌, ℕ, ◌+◌, ◌-◌, ◌≤◌, List, ◌++◌, length, take, drop, ap, ◌∙◌, sym, arith, length-append, length-drop}
use Rattle.std.specs.Prelude.{slice_range}
use Rattle.std.proofs.Math.Seq.{take-append_seam, drop-append_seam}
use Rattle.std.proofs.lemmas.List.{take-append-drop, drop-drop, length-take-le}
use Rattle.hb_frames.specs.RawFrame.{RawFrame}
use Rattle.hb_frames.specs.Refusals.{front_len, padding_len}
use Rattle.hb_frames.specs.Shapes.{PaddingFits}
use Rattle.hb_frames.specs.Bodies.{Pads, content_of, OneContent}

-- a list is its first a, the part from a to n - b, and its last b
pub three_parts : (p : List ℕ) (a b : ℕ) → a + b ≤ length p → p ≡ take a p ++ (slice_range p a (length p - b) ++ drop (length p - b) p)
three_parts p a b h =
    let k = length p - b - a in
    let same : a + k ≡ length p - b = omega arith in
    let behind : drop k (drop a p) ≡ drop (length p - b) p = drop-drop k a p ∙ ap (λ n. drop n p) same in
    sym (take-append-drop a p) ∙ ap (λ xs. take a p ++ xs) (sym (take-append-drop k (drop a p)) ∙ ap (λ xs. take k (drop a p) ++ xs) behind)

pub pads_content : (f : RawFrame) → PaddingFits f → Pads f (content_of f)
pads_content f h = record {
  front = take (front_len f) f.payload;
  padding = drop (length f.payload - padding_len f) f.payload;
  joined = three_parts f.payload (front_len f) (padding_len f) h;
  front_is = length-take-le (front_len f) f.payload (omega (arith, h));
  padding_is = length-drop (length f.payload - padding_len f) f.payload ∙ omega (arith, h);
}

pub middle : (front content padding : List ℕ) (a b : ℕ) → length front ≡ a → length padding ≡ b
    → let p = front ++ (content ++ padding) in slice_range p a (length p - b) ≡ content
middle front content padding a b front_is padding_is =
    let p = front ++ (content ++ padding) in
    let len : length p - b - a ≡ length content =
    omega (arith, length-append front (content ++ padding), length-append content padding, front_is, padding_is) in
    let rest : drop a p ≡ content ++ padding = rw (← front_is) (drop-append_seam front (content ++ padding)) in
    ap (λ n. take n (drop a p)) len ∙ ap (take (length content)) rest ∙ take-append_seam content padding

pub one_content : OneContent
one_content f content pads =
    sym (ap (λ (p : List ℕ). slice_range p (front_len f) (length p - padding_len f)) pads.joined
    ∙ middle pads.front content pads.padding (front_len f) (padding_len f) pads.front_is pads.padding_is)
