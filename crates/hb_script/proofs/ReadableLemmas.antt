-- What a row gives can be read: its numbers are in range, and its piece isn't empty.
use Rattle.std.proofs.Common.{◌≡◌, ℕ, ◌<◌, ◌≤◌, ◌^◌, Bool, true, false, cond, ◌&&◌, List, [], ◌∷◌, length, codes, Option, Some, None, Result, Ok, Err, refl, subst, arith}
use Rattle.std.specs.Prelude.{nat_le, nat_lt, option_and_then, unwrap_or}
use Rattle.std.specs.Str.{bytes_eq}
use Rattle.std.proofs.lemmas.Bool.Decides.{nat_tests}
use Rattle.hb_base.specs.declared.door.Door.{Door}
use Rattle.hb_world.specs.declared.line.Line.{Line}
use Rattle.hb_world.specs.declared.line.Line.TheVariants.{Accept, Open, Refuse, Piece, End, Break, Room, NoDial, Wake, Tick, Stop, FaultWait, FaultListen}
use Rattle.hex.specs.Hex.{decode_of}
use Rattle.hex.specs.declared.error.FromHexError.{FromHexError}
use Rattle.hex.proofs.HexLemmas.{decode_of-ok}
use Rattle.serde_json.specs.Data.{Data, Members, no_members, member}
use Rattle.serde_json.specs.Find.{as_bool, as_number, as_object, as_str, as_u64}
use Rattle.hb_script.specs.declared.fault.ScriptWhy.{ScriptWhy}
use Rattle.hb_script.specs.declared.fault.ScriptWhy.TheVariants.{BadValue}
use Rattle.hb_script.specs.Form.{and_then, within, number_from, link_of, event, door_named, fault_named, or_bad_hex, bytes_spelled, link_event, one_member, two_members, line_of_members, line_of_object, value_of, line_of}
use Rattle.hb_script.specs.Spelling.{CanBeRead}

abbrev IsReadable : Result Line ScriptWhy → Type 0
IsReadable r = (line : Line) → r ≡ Ok line → CanBeRead line

refused : (why : ScriptWhy) → IsReadable (Err why)
refused why line e = absurd cc

given : (l : Line) → CanBeRead l → IsReadable (Ok l)
given l h line e = let same : l ≡ line = cc in subst CanBeRead same h

either : (b : Bool) (x y : Result Line ScriptWhy) → IsReadable x → IsReadable y → IsReadable (cond b x y)
either true x y hx hy = hx
either false x y hx hy = hy

within_then : (least n : ℕ) (f : ℕ → Result Line ScriptWhy) (low high : Bool) → nat_le least n ≡ low → nat_lt n (2 ^ 63) ≡ high
    → (least ≤ n → n < 2 ^ 63 → IsReadable (f n)) → IsReadable (and_then (cond (low && high) (Ok n) (Err BadValue)) f)
within_then least n f true true low high h = h (grind (arith, nat_tests)) (grind (arith, nat_tests))
within_then least n f true false low high h = refused BadValue
within_then least n f false high is_low is_high h = refused BadValue

number_then : (least : ℕ) (o : Option ℕ) (f : ℕ → Result Line ScriptWhy) → ((n : ℕ) → least ≤ n → n < 2 ^ 63 → IsReadable (f n))
    → IsReadable (and_then (within least o) f)
number_then least None f h = refused BadValue
number_then least (Some n) f h = within_then least n f (nat_le least n) (nat_lt n (2 ^ 63)) refl refl (h n)

link_then : (d : Data) (f : ℕ → Line) → ((n : ℕ) → 1 ≤ n → n < 2 ^ 63 → CanBeRead (f n))
    → IsReadable (and_then (link_of d) (λ n. Ok (f n)))
link_then d f h = number_then 1 (option_and_then as_u64 (as_number d)) (λ n. Ok (f n)) (λ n low high. given (f n) (h n low high))

door_then : (r : Result Door ScriptWhy) → IsReadable (and_then r (λ door. Ok (Accept door)))
door_then (Ok door) = given (Accept door) tt
door_then (Err why) = refused why

fault_read : (o : Option (List ℕ)) → IsReadable (fault_named o)
fault_read None = refused BadValue
fault_read (Some word) = either (bytes_eq word (codes "wait")) _ _ (given FaultWait tt)
    (either (bytes_eq word (codes "listen")) _ _ (given FaultListen tt) (refused BadValue))

event_read : (line : Line) (d : Data) → CanBeRead line → IsReadable (event line d)
event_read line d h = either (unwrap_or (as_bool d) false) _ _ (given line h) (refused BadValue)

link_event_read : (key : List ℕ) (d : Data) → IsReadable (link_event key d)
link_event_read key d =
    either (bytes_eq key (codes "break")) _ _ (link_then d (λ n. Break n) (λ n low high. (low, high)))
    (either (bytes_eq key (codes "end")) _ _ (link_then d (λ n. End n) (λ n low high. (low, high)))
    (either (bytes_eq key (codes "open")) _ _ (link_then d (λ n. Open n) (λ n low high. (low, high)))
    (either (bytes_eq key (codes "refuse")) _ _ (link_then d (λ n. Refuse n) (λ n low high. (low, high))) (refused _))))

one_member_read : (key : List ℕ) (d : Data) → IsReadable (one_member key d)
one_member_read key d =
    either (bytes_eq key (codes "accept")) _ _ (door_then (door_named (as_str d)))
    (either (bytes_eq key (codes "fault")) _ _ (fault_read (as_str d))
    (either (bytes_eq key (codes "nodial")) _ _
    (number_then 0 (option_and_then as_u64 (as_number d)) (λ k. Ok (NoDial k)) (λ k low high. given (NoDial k) high))
    (either (bytes_eq key (codes "stop")) _ _ (event_read Stop d tt)
    (either (bytes_eq key (codes "tick")) _ _ (event_read Tick d tt)
    (either (bytes_eq key (codes "wake")) _ _ (event_read Wake d tt) (link_event_read key d))))))

hex_read : (n : ℕ) (digits : List ℕ) (r : Result (List ℕ) FromHexError) → decode_of digits ≡ r → 0 < length digits → 1 ≤ n → n < 2 ^ 63
    → IsReadable (and_then (or_bad_hex r) (λ bytes. Ok (Piece n bytes)))
hex_read n digits (Ok bytes) is some low high =
    let spelled = decode_of-ok digits bytes is in given (Piece n bytes) ((low, high), omega (arith, spelled.2), spelled.3)
hex_read n digits (Err fault) is some low high = refused _

bytes_read : (n : ℕ) (o : Option (List ℕ)) → 1 ≤ n → n < 2 ^ 63 → IsReadable (and_then (bytes_spelled o) (λ bytes. Ok (Piece n bytes)))
bytes_read n None low high = refused BadValue
bytes_read n (Some []) low high = refused BadValue
bytes_read n (Some (digit ∷ more)) low high = hex_read n (digit ∷ more) (decode_of (digit ∷ more)) refl (omega arith) low high

two_members_read : (first : List ℕ) (d : Data) (second : List ℕ) (e : Data) → IsReadable (two_members first d second e)
two_members_read first d second e =
    either (bytes_eq first (codes "bytes") && bytes_eq second (codes "link")) _ _
    (number_then 1 (option_and_then as_u64 (as_number e)) (λ n. and_then (bytes_spelled (as_str d)) (λ bytes. Ok (Piece n bytes)))
    (λ n low high. bytes_read n (as_str d) low high))
    (either (bytes_eq first (codes "link") && bytes_eq second (codes "room")) _ _
    (number_then 1 (option_and_then as_u64 (as_number d)) (λ n. and_then (number_from 0 e) (λ k. Ok (Room n k)))
    (λ n low high. number_then 0 (option_and_then as_u64 (as_number e)) (λ k. Ok (Room n k))
    (λ k least most. given (Room n k) ((low, high), most))))
    (refused _))

members_read : (ms : Members) → IsReadable (line_of_members ms)
members_read no_members = refused _
members_read (member key d no_members) = one_member_read key d
members_read (member first d (member second e no_members)) = two_members_read first d second e
members_read (member first d (member second e (member third f more))) = refused _

object_read : (o : Option Members) → IsReadable (line_of_object o)
object_read None = refused _
object_read (Some ms) = members_read ms

value_read : (r : Result Data ScriptWhy) → IsReadable (and_then r (λ d. line_of_object (as_object d)))
value_read (Ok d) = object_read (as_object d)
value_read (Err why) = refused why

-- a line that a row gives can be read
pub CanBeRead-line_of : (row : List ℕ) (line : Line) → line_of row ≡ Ok line → CanBeRead line
CanBeRead-line_of row = value_read (value_of row)
