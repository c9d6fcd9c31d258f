-- Bytes that are written to an upstream and didn't come on its stream, and bytes that did.
use Rattle.std.proofs.Common.{◌≡◌, inl, ℕ, ◌/◌, ◌%◌, ◌==◌, ◌&&◌, Bool, cond, List, [], ◌∷◌, ◌++◌, length, refl, ap, ap₂, sym, ◌∙◌, subst, arith}
use Rattle.std.proofs.lemmas.Bool.{eq-eqb}
use Rattle.std.proofs.lemmas.List.{append-nil}
use Rattle.hb_frames.specs.Bodies.{lent_of}
use Rattle.hb_frames.specs.Numbers.{data_kind}
use Rattle.hb_frames.specs.RawFrame.{RawFrame, spelling}
use Rattle.hb_kept.specs.Payloads.{payloads}
use Rattle.hb_kept.proofs.Begun.{left_of}
use Rattle.hb_outgoing.specs.Waiting.{spelled}
use Rattle.hb_inbound.specs.RelayRefused.{InventsByte, WritesFront, one_octet, InventsDown, GoesDown, EndsWaiting}
use Rattle.hb_inbound.specs.Sides.{link_went, up_came}

pub invents_byte : InventsByte
invents_byte s u byte relays =
    let now : [] ≡ (byte ∷ []) ++ relays.rest =
    subst (λ (b : Bool). [] ≡ (cond b (byte ∷ []) [] ++ []) ++ relays.rest) (eq-eqb s s refl) relays.front in
    absurd (cc)

pub writes_front : WritesFront
writes_front s u first second f headers is = record {
  rest = second ∷ [];
  front = subst (λ (b : Bool). cond b (lent_of f) [] ++ [] ≡ (cond b (first ∷ []) [] ++ []) ++ second ∷ []) (sym (eq-eqb s s refl))
      (append-nil (lent_of f) ∙ is);
}

-- a frame that begins with these octets has this one octet
is_one : (kind stream : ℕ) (payload more rest : List ℕ) → kind ≡ 0 → stream ≡ 1 → length payload ≡ 1
    → [] ≡ (cond (kind == data_kind && stream == 1) payload [] ++ more) ++ rest → ⊥
is_one kind stream [] more rest zero one size is = absurd (omega (arith, size))
is_one kind stream (x ∷ payload) more rest zero one size is =
    absurd (let all : [] ≡ (x ∷ payload ++ more) ++ rest = is
    ∙ ap₂ (λ (k s : ℕ). (cond (k == data_kind && s == 1) (x ∷ payload) [] ++ more) ++ rest) zero one in cc)

pub invents : (begun : List RawFrame) (owed rest : List ℕ) → spelling one_octet ++ owed ≡ spelled begun → [] ≡ payloads 1 begun ++ rest → ⊥
invents [] owed rest sent front = absurd (cc)
invents (f ∷ begun) owed rest sent front =
    let n = length f.payload in
    let high : 0 ≡ n / 65536 = cc in
    let middle : 0 ≡ n / 256 % 256 = cc in
    let low : 1 ≡ n % 256 = cc in
    let kind : 0 ≡ f.kind = cc in
    let first : 0 ≡ f.stream / 16777216 = cc in
    let second : 0 ≡ f.stream / 65536 % 256 = cc in
    let third : 0 ≡ f.stream / 256 % 256 = cc in
    let fourth : 1 ≡ f.stream % 256 = cc in
    is_one f.kind f.stream f.payload (payloads 1 begun) rest (sym kind) (omega (arith, first, second, third, fourth))
    (omega (arith, high, middle, low)) front

pub invents_down : InventsDown
invents_down l is =
    let left = left_of (spelling one_octet) is.begun is.began in
    invents is.begun left.owed is.rest left.sent is.front

pub goes_down : GoesDown
goes_down l u second = record { begun = one_octet ∷ []; began = inl refl; rest = second ∷ []; front = refl }

none_went : (frames : List RawFrame) (part : List ℕ) (byte : ℕ) → [] ≡ spelled frames ++ part → byte ∷ [] ≡ payloads 1 frames → ⊥
none_went [] part byte sent whole = cc
none_went (f ∷ frames) part byte sent whole = cc

pub ends_waiting : EndsWaiting
ends_waiting u byte parts is ends =
    none_went ends.frames ends.part byte (ap link_went (sym is) ∙ ends.sent) (ap (up_came 1) (sym is) ∙ ends.whole)
