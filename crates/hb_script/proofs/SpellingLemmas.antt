-- The text of a line is read as that line.
use Rattle.std.proofs.Common.{◌≡◌, ℕ, ◌+◌, ◌<◌, ◌≤◌, ◌^◌, ◌==◌, true, false, List, [], ◌∷◌, ◌++◌, length, codes, decimal, Some, Result, Ok, refl, sym, ap, ◌∙◌, arith, append_assoc, append-nil}
use Rattle.std.specs.Prelude.{option_and_then}
use Rattle.std.specs.List.{All, list_all}
use Rattle.std.specs.Str.{IsUtf8}
use Rattle.std.proofs.lemmas.Bool.{lt-ltb, le-leb, ne_eqb}
use Rattle.std.proofs.lemmas.List.Elements.{All-head, All-tail, All-append, All-weaker}
use Rattle.std.proofs.lemmas.List.Splits.{slice_split_at}
use Rattle.std.proofs.lemmas.Str.{IsUtf8-from_ascii}
use Rattle.std.proofs.lemmas.Str.Ascii.{IsAscii-from_all}
use Rattle.hb_base.specs.declared.door.Door.TheVariants.{Inbound, Outbound, Plain}
use Rattle.hb_world.specs.declared.line.Line.{Line}
use Rattle.hb_world.specs.declared.line.Line.TheVariants.{Accept, Open, Refuse, Piece, End, Break, Room, NoDial, Wake, Tick, Stop, FaultWait, FaultListen}
use Rattle.hex.specs.Hex.{encode_with, encode_lower, IsBytes}
use Rattle.hex.proofs.HexLemmas.{decode_of-encode_lower}
use Rattle.json.specs.Json as json
use Rattle.json.specs.Tree as tree
use Rattle.json.proofs.OnLiterals.{json_on_literals}
use Rattle.json.proofs.Printed.Tokens.{tokens-print}
use Rattle.json.proofs.Printed.Trees.{value-json_tokens, ArePrintable-json_tokens}
use Rattle.json.proofs.Printed.Decimals.{IsNumber-decimal}
use Rattle.serde_json.specs.Data.{Data, no_members, member, number, unsigned, string, boolean, object}
use Rattle.serde_json.specs.Find.{as_object}
use Rattle.serde_json.specs.Read.{of_json, read}
use Rattle.serde_json.specs.Written.{compact_text, outline}
use Rattle.serde_json.proofs.Texts.{print-outline}
use Rattle.serde_json.proofs.Numbers.{number_of-decimal}
use Rattle.hb_script.specs.declared.fault.ScriptWhy.{ScriptWhy}
use Rattle.hb_script.specs.Form.{and_then, within, bytes_spelled, or_bad_hex, line_of_object, line_of}
use Rattle.hb_script.specs.Script.{rows, row_lines, joined, line_at, lines_from, lines}
use Rattle.hb_script.specs.Spelling.{door_word, line_text, CanBeRead, lines_text}
use Rattle.hb_script.proofs.PlainLemmas.{IsPlain, IsLetter, is_plain, plain_text, plain_decimal, letters_hex, plain_letter, escape_letters}
use Rattle.hb_script.proofs.ValueLemmas.{is_value}

-- ---- a value that is written in compact form is read back

record IsWritable (d : Data) : Type 0 where
  numbers : tree.HasNumbers (outline d)
  shallow : tree.depth (outline d) ≤ 127
  same : of_json (outline d) ≡ Some d

read-compact_text : (d : Data) → IsWritable d → read (compact_text d) ≡ Some d
read-compact_text d w =
    ap read (sym (print-outline d))
    ∙ ap (λ o. option_and_then of_json (option_and_then (λ p. json.if_last p.0 p.1) o))
    (ap (json.value 127) (tokens-print (tree.json_tokens (outline d)) (ArePrintable-json_tokens (outline d) w.numbers)
    ∙ sym (append-nil (tree.json_tokens (outline d))))
    ∙ value-json_tokens (outline d) 127 [] w.shallow)
    ∙ w.same

-- ---- the value of a line

abbrev of_number : List ℕ → ℕ → Data
of_number key n = object (member key (number (unsigned n)) no_members)

abbrev of_word : List ℕ → List ℕ → Data
of_word key word = object (member key (string word) no_members)

abbrev of_true : List ℕ → Data
of_true key = object (member key (boolean true) no_members)

abbrev line_data : Line → Data
line_data (Accept door) = of_word (codes "accept") (door_word door)
line_data (Open link) = of_number (codes "open") link
line_data (Refuse link) = of_number (codes "refuse") link
line_data (Piece link bytes) =
    object (member (codes "bytes") (string (encode_lower bytes)) (member (codes "link") (number (unsigned link)) no_members))
line_data (End link) = of_number (codes "end") link
line_data (Break link) = of_number (codes "break") link
line_data (Room link room) =
    object (member (codes "link") (number (unsigned link)) (member (codes "room") (number (unsigned room)) no_members))
line_data (NoDial dials) = of_number (codes "nodial") dials
line_data Wake = of_true (codes "wake")
line_data Tick = of_true (codes "tick")
line_data Stop = of_true (codes "stop")
line_data FaultWait = of_word (codes "fault") (codes "wait")
line_data FaultListen = of_word (codes "fault") (codes "listen")

regrouped : (a b c d e : List ℕ) → a ++ (b ++ (c ++ (d ++ e))) ≡ a ++ b ++ c ++ d ++ e
regrouped a b c d e = simp append_assoc

compact_text-line_data : (line : Line) → CanBeRead line → compact_text (line_data line) ≡ line_text line
unfolding json_on_literals
compact_text-line_data (Accept Inbound) h = refl
compact_text-line_data (Accept Outbound) h = refl
compact_text-line_data (Accept Plain) h = refl
compact_text-line_data (Open link) h = refl
compact_text-line_data (Refuse link) h = refl
compact_text-line_data (Piece link bytes) h =
    rw (escape_letters (encode_lower bytes) (letters_hex bytes h.2))
    (ap (λ xs. codes "{\"bytes\":\"" ++ xs)
    (append_assoc (encode_lower bytes) (34 ∷ []) (codes ",\"link\":" ++ (decimal link ++ codes "}")))
    ∙ regrouped (codes "{\"bytes\":\"") (encode_lower bytes) (codes "\",\"link\":") (decimal link) (codes "}"))
compact_text-line_data (End link) h = refl
compact_text-line_data (Break link) h = refl
compact_text-line_data (Room link room) h = simp append_assoc
compact_text-line_data (NoDial dials) h = refl
compact_text-line_data Wake h = refl
compact_text-line_data Tick h = refl
compact_text-line_data Stop h = refl
compact_text-line_data FaultWait h = refl
compact_text-line_data FaultListen h = refl

writable_word : (key word : List ℕ) → IsWritable (of_word key word)
writable_word key word = record { numbers = (tt, tt); shallow = omega arith; same = refl }

writable_true : (key : List ℕ) → IsWritable (of_true key)
writable_true key = record { numbers = (tt, tt); shallow = omega arith; same = refl }

writable_number : (key : List ℕ) (n : ℕ) → n < 2 ^ 63 → IsWritable (of_number key n)
writable_number key n h = record {
  numbers = (IsNumber-decimal n (omega arith), tt);
  shallow = omega arith;
  same = rw (number_of-decimal n (omega arith)) refl;
}

writable_line : (line : Line) → CanBeRead line → IsWritable (line_data line)
writable_line (Accept door) h = writable_word (codes "accept") (door_word door)
writable_line (Open link) h = writable_number (codes "open") link h.1
writable_line (Refuse link) h = writable_number (codes "refuse") link h.1
writable_line (Piece link bytes) h = record {
  numbers = (tt, (IsNumber-decimal link (omega (arith, h.0.1)), tt));
  shallow = omega arith;
  same = rw (number_of-decimal link (omega (arith, h.0.1))) refl;
}
writable_line (End link) h = writable_number (codes "end") link h.1
writable_line (Break link) h = writable_number (codes "break") link h.1
writable_line (Room link room) h = record {
  numbers = (IsNumber-decimal link (omega (arith, h.0.1)), (IsNumber-decimal room (omega (arith, h.1)), tt));
  shallow = omega arith;
  same = rw (number_of-decimal link (omega (arith, h.0.1)), number_of-decimal room (omega (arith, h.1))) refl;
}
writable_line (NoDial dials) h = writable_number (codes "nodial") dials h
writable_line Wake h = writable_true (codes "wake")
writable_line Tick h = writable_true (codes "tick")
writable_line Stop h = writable_true (codes "stop")
writable_line FaultWait h = writable_word (codes "fault") (codes "wait")
writable_line FaultListen h = writable_word (codes "fault") (codes "listen")

-- ---- the form of that value

in_range : (least n : ℕ) → least ≤ n → n < 2 ^ 63 → within least (Some n) ≡ Ok n
in_range least n low high = rw (le-leb least n low, lt-ltb n (2 ^ 63) high) refl

number_then : (least n : ℕ) (f : ℕ → Result Line ScriptWhy) → least ≤ n → n < 2 ^ 63 → and_then (within least (Some n)) f ≡ f n
number_then least n f low high = ap (λ r. and_then r f) (in_range least n low high)

bytes_read : (bytes : List ℕ) → 0 < length bytes → IsBytes bytes → bytes_spelled (Some (encode_lower bytes)) ≡ Ok bytes
unfolding encode_with
bytes_read [] some h = absurd (omega arith)
bytes_read (b ∷ rest) some h = ap or_bad_hex (decode_of-encode_lower (b ∷ rest) h)

line_of_object-line_data : (line : Line) → CanBeRead line → line_of_object (as_object (line_data line)) ≡ Ok line
line_of_object-line_data (Accept Inbound) h = refl
line_of_object-line_data (Accept Outbound) h = refl
line_of_object-line_data (Accept Plain) h = refl
line_of_object-line_data (Open link) h = number_then 1 link (λ n. Ok (Open n)) h.0 h.1
line_of_object-line_data (Refuse link) h = number_then 1 link (λ n. Ok (Refuse n)) h.0 h.1
line_of_object-line_data (Piece link bytes) h =
    number_then 1 link (λ n. and_then (bytes_spelled (Some (encode_lower bytes))) (λ b. Ok (Piece n b))) h.0.0 h.0.1
    ∙ ap (λ r. and_then r (λ b. Ok (Piece link b))) (bytes_read bytes h.1 h.2)
line_of_object-line_data (End link) h = number_then 1 link (λ n. Ok (End n)) h.0 h.1
line_of_object-line_data (Break link) h = number_then 1 link (λ n. Ok (Break n)) h.0 h.1
line_of_object-line_data (Room link room) h =
    number_then 1 link (λ n. and_then (within 0 (Some room)) (λ k. Ok (Room n k))) h.0.0 h.0.1
    ∙ number_then 0 room (λ k. Ok (Room link k)) (omega arith) h.1
line_of_object-line_data (NoDial dials) h = number_then 0 dials (λ k. Ok (NoDial k)) (omega arith) h
line_of_object-line_data Wake h = refl
line_of_object-line_data Tick h = refl
line_of_object-line_data Stop h = refl
line_of_object-line_data FaultWait h = refl
line_of_object-line_data FaultListen h = refl

-- ---- the text has no newline, and is ASCII

three : (a b c : List ℕ) → All IsPlain a → All IsPlain b → All IsPlain c → All IsPlain (a ++ b ++ c)
three a b c ha hb hc = All-append IsPlain (a ++ b) c (All-append IsPlain a b ha hb) hc

plain_number : (before : List ℕ) (n : ℕ) → list_all is_plain before ≡ true → n < 2 ^ 63 → All IsPlain (before ++ decimal n ++ codes "}")
plain_number before n e h =
    three before (decimal n) (codes "}") (plain_text before e) (plain_decimal n (omega arith)) (plain_text (codes "}") refl)

plain_line : (line : Line) → CanBeRead line → All IsPlain (line_text line)
plain_line (Accept Inbound) h = plain_text (line_text (Accept Inbound)) refl
plain_line (Accept Outbound) h = plain_text (line_text (Accept Outbound)) refl
plain_line (Accept Plain) h = plain_text (line_text (Accept Plain)) refl
plain_line (Open link) h = plain_number (codes "{\"open\":") link refl h.1
plain_line (Refuse link) h = plain_number (codes "{\"refuse\":") link refl h.1
plain_line (Piece link bytes) h =
    three (codes "{\"bytes\":\"" ++ encode_lower bytes ++ codes "\",\"link\":") (decimal link) (codes "}")
    (three (codes "{\"bytes\":\"") (encode_lower bytes) (codes "\",\"link\":") (plain_text (codes "{\"bytes\":\"") refl)
    (All-weaker IsLetter IsPlain plain_letter (encode_lower bytes) (letters_hex bytes h.2)) (plain_text (codes "\",\"link\":") refl))
    (plain_decimal link (omega (arith, h.0.1))) (plain_text (codes "}") refl)
plain_line (End link) h = plain_number (codes "{\"end\":") link refl h.1
plain_line (Break link) h = plain_number (codes "{\"break\":") link refl h.1
plain_line (Room link room) h =
    three (codes "{\"link\":" ++ decimal link ++ codes ",\"room\":") (decimal room) (codes "}")
    (three (codes "{\"link\":") (decimal link) (codes ",\"room\":") (plain_text (codes "{\"link\":") refl)
    (plain_decimal link (omega (arith, h.0.1))) (plain_text (codes ",\"room\":") refl))
    (plain_decimal room (omega (arith, h.1))) (plain_text (codes "}") refl)
plain_line (NoDial dials) h = plain_number (codes "{\"nodial\":") dials refl h
plain_line Wake h = plain_text (codes "{\"wake\":true}") refl
plain_line Tick h = plain_text (codes "{\"tick\":true}") refl
plain_line Stop h = plain_text (codes "{\"stop\":true}") refl
plain_line FaultWait h = plain_text (codes "{\"fault\":\"wait\"}") refl
plain_line FaultListen h = plain_text (codes "{\"fault\":\"listen\"}") refl

utf8_line : (line : Line) → CanBeRead line → IsUtf8 (line_text line)
utf8_line line h = IsUtf8-from_ascii (line_text line)
    (IsAscii-from_all (line_text line) (All-weaker IsPlain (λ b. b < 128) (λ b p. p.high) (line_text line) (plain_line line h)))

-- a line's text is read as that line
pub line_of-line_text : (line : Line) → CanBeRead line → line_of (line_text line) ≡ Ok line
line_of-line_text line h =
    let is_read : read (line_text line) ≡ Some (line_data line) =
    ap read (sym (compact_text-line_data line h)) ∙ read-compact_text (line_data line) (writable_line line h) in
    ap (λ v. and_then v (λ d. line_of_object (as_object d))) (is_value (line_text line) (line_data line) (utf8_line line h) is_read)
    ∙ line_of_object-line_data line h

-- ---- lines, each with a newline behind it

no_newline : (b : ℕ) → IsPlain b → (b == 10) ≡ false
no_newline b h = ne_eqb b 10 (λ e. omega (arith, h.low))

row_lines_of : (n : ℕ) (row : List ℕ) (line : Line) → 0 < length row → line_of row ≡ Ok line → row_lines n row ≡ Ok (line ∷ [])
row_lines_of n [] line some is = absurd (omega arith)
row_lines_of n (b ∷ bs) line some is = ap (line_at n) is

some_text : (line : Line) → 0 < length (line_text line)
some_text (Accept Inbound) = omega arith
some_text (Accept Outbound) = omega arith
some_text (Accept Plain) = omega arith
some_text (Open link) = omega arith
some_text (Refuse link) = omega arith
some_text (Piece link bytes) = omega arith
some_text (End link) = omega arith
some_text (Break link) = omega arith
some_text (Room link room) = omega arith
some_text (NoDial dials) = omega arith
some_text Wake = omega arith
some_text Tick = omega arith
some_text Stop = omega arith
some_text FaultWait = omega arith
some_text FaultListen = omega arith

lines_from-written : (n : ℕ) (written : List Line) → All CanBeRead written → lines_from n (rows (lines_text written)) ≡ Ok written
lines_from-written n [] all = refl
lines_from-written n (line ∷ later) all =
    let here = All-head CanBeRead line later all in
    let cut : rows (lines_text (line ∷ later)) ≡ line_text line ∷ rows (lines_text later) =
    ap rows (append_assoc (line_text line) (10 ∷ []) (lines_text later))
    ∙ slice_split_at (λ b. b == 10) (line_text line) 10 (lines_text later)
    (All-weaker IsPlain (λ b. (b == 10) ≡ false) no_newline (line_text line) (plain_line line here)) refl in
    ap (lines_from n) cut
    ∙ ap (λ r. joined r (lines_from (n + 1) (rows (lines_text later))))
    (row_lines_of n (line_text line) line (some_text line) (line_of-line_text line here))
    ∙ ap (joined (Ok (line ∷ []))) (lines_from-written (n + 1) later (All-tail CanBeRead line later all))

-- the text of lines is read as these lines
pub lines-lines_text : (written : List Line) → All CanBeRead written → lines (lines_text written) ≡ Ok written
unfolding lines
lines-lines_text written all = lines_from-written 1 written all
