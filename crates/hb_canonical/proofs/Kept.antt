-- What each field keeps is kept by all of them: what reading gives.
use Rattle.std.proofs.Common.{◌≡◌, ℕ, ◌+◌, Bool, true, false, cond, List, [], ◌∷◌, ◌++◌, length, Option, Some, None, Result, Ok, Err, IfOk, OnOk, refl, sym, subst}
use Rattle.std.specs.List.{All}
use Rattle.std.proofs.lemmas.List.Elements.{All-head, All-tail, All-cons, All-nil, All-same}
use Rattle.hb_wire.specs.declared.fault.WireFault.{WireFault}
use Rattle.hb_wire.specs.Field.{Content, Value, varint, eight, span, four}
use Rattle.hb_wire.specs.Message.{message_of, and_then, fault_or, fold_fields, fold_message}
use Rattle.hb_wire.specs.Spelling.{IsOctet, SpellsField, SpellsMessage, SpellsValue}
use Rattle.hb_wire.proofs.Exact.{message_spelled}
use Rattle.hb_message.specs.Reading.{read_into, of_span}

-- what takes the fields
abbrev pub Taker : {S F : Type 0} → (S → Content → Result S F) → Type 0
Taker {S = S} merge = S

-- what holds of either, by a test
pub by_test : {A : Type 0} (P : A → Type 0) (t : Bool) (x y : A) → (t ≡ true → P x) → (t ≡ false → P y) → P (cond t x y)
by_test P true x y p q = p refl
by_test P false x y p q = q refl

pub ok_cond : {A F : Type 0} (t : Bool) (x y : Result A F) (P : A → Type 0) → IfOk x P → IfOk y P → IfOk (cond t x y) P
ok_cond t x y P p q = by_test (λ (r : Result _ _). IfOk r P) t x y (λ _. p) (λ _. q)

pub ok_then : {A B F : Type 0} (r : Result A F) (f : A → Result B F) (Q : A → Type 0) (P : B → Type 0) → IfOk r Q
    → ((x : A) → Q x → IfOk (f x) P) → IfOk (and_then r f) P
ok_then (Ok x) f Q P q more = more x q
ok_then (Err e) f Q P q more = tt

-- what holds anyway holds after a success
pub also_ok : {A F : Type 0} (r : Result A F) (P : Type 0) → P → OnOk r P
also_ok (Ok x) P p = p
also_ok (Err e) P p = tt

-- what is put into its place
pub set_kept : {L S F : Type 0} (r : Result L F) (set : L → S) (Q : L → Type 0) (P : S → Type 0) → IfOk r Q
    → ((l : L) → Q l → P (set l)) → IfOk (and_then r (λ l. Ok (set l))) P
set_kept (Ok l) set Q P q keeps = keeps l q
set_kept (Err e) set Q P q keeps = tt

pub any_kept : {A F : Type 0} (r : Result A F) → IfOk r (λ _. Unit {0})
any_kept (Ok x) = tt
any_kept (Err e) = tt

pub ok_at : {A F : Type 0} (r : Result A F) (P : A → Type 0) (x : A) → IfOk r P → r ≡ Ok x → P x
ok_at r P x h e = let Q : Result _ _ → Type 0 = λ r. IfOk r P in subst Q e h

pub both_all : {X : Type 0} (P : X → Type 0) (a b : List X) → All P (a ++ b) → All P a × All P b
both_all P [] b all = (All-nil P, all)
both_all P (x ∷ a) b all =
    let (front, behind) = both_all P a b (All-tail P x (a ++ b) all) in
    (All-cons P x a (All-head P x (a ++ b) all) front, behind)

-- the bytes of a span are octets
abbrev pub HasOctets : Value → Type 0
HasOctets (span own) = All IsOctet own
HasOctets (varint n) = Unit {0}
HasOctets (eight n) = Unit {0}
HasOctets (four n) = Unit {0}

abbrev EachHasOctets : List Content → Type 0
EachHasOctets [] = Unit {0}
EachHasOctets (f ∷ fs) = HasOctets f.value × EachHasOctets fs

value_octets : (at : ℕ) (bytes : List ℕ) (place : ℕ) (value : Value) → SpellsValue at bytes place value → All IsOctet bytes
    → HasOctets value
value_octets at bytes place (varint n) s all = tt
value_octets at bytes place (eight n) s all = tt
value_octets at bytes place (four n) s all = tt
value_octets at bytes place (span own) (size, is, v, cut) all =
    let parts = both_all IsOctet size own (All-same IsOctet (size ++ own) bytes (sym cut) all) in parts.1

field_octets : (at : ℕ) (bytes : List ℕ) (f : Content) → SpellsField at bytes f → All IsOctet bytes → HasOctets f.value
field_octets at bytes f s all =
    let parts = both_all IsOctet s.tag s.behind (All-same IsOctet (s.tag ++ s.behind) bytes (sym s.cut) all) in
    value_octets (at + length s.tag) s.behind f.at f.value s.value parts.1

fields_octets : (fs : List Content) (at : ℕ) (bytes : List ℕ) → SpellsMessage at bytes fs → All IsOctet bytes → EachHasOctets fs
fields_octets [] at bytes s all = tt
fields_octets (f ∷ fs) at bytes (front, behind, cut, first, rest) all =
    let parts = both_all IsOctet front behind (All-same IsOctet (front ++ behind) bytes (sym cut) all) in
    (field_octets at front f first parts.0, fields_octets fs (at + length front) behind rest parts.1)

message_octets : (at : ℕ) (bytes : List ℕ) → All IsOctet bytes → EachHasOctets (message_of (record { at = at; left = bytes })).fields
message_octets at bytes all =
    let (front, behind, cut, s, ends) = message_spelled at bytes _ all refl in
    fields_octets _ at front s (both_all IsOctet front behind (All-same IsOctet (front ++ behind) bytes (sym cut) all)).0

fold_keeps : {S F : Type 0} (merge : S → Content → Result S F) (P : S → Type 0)
    → ((s : S) (f : Content) → P s → HasOctets f.value → IfOk (merge s f) P) → (fs : List Content) (s : S) → P s → EachHasOctets fs
    → IfOk (fold_fields merge s fs) P
fold_keeps merge P keeps [] s p octets = p
fold_keeps merge P keeps (f ∷ fs) s p (first, rest) =
    ok_then (merge s f) _ P P (keeps s f p first) (λ t q. fold_keeps merge P keeps fs t q rest)

no_fault : {S F : Type 0} (wire : WireFault → F) (fault : Option WireFault) (s : S) (P : S → Type 0) → P s
    → IfOk (fault_or wire fault s) P
no_fault wire None s P p = p
no_fault wire (Some e) s P p = tt

-- what every field keeps, reading keeps
pub read_keeps : {S F : Type 0} (merge : S → Content → Result S F) (wire : WireFault → F) (P : S → Type 0)
    → ((s : S) (f : Content) → P s → HasOctets f.value → IfOk (merge s f) P) → (s : S) (at : ℕ) (bytes : List ℕ) → P s → All IsOctet bytes
    → IfOk (read_into merge wire s at bytes) P
unfolding fold_message
read_keeps merge wire P keeps s at bytes p all =
    let m = message_of (record { at = at; left = bytes }) in
    ok_then (fold_fields merge s m.fields) _ P P (fold_keeps merge P keeps m.fields s p (message_octets at bytes all))
    (λ t q. no_fault wire m.fault t P q)

-- a field that is no span leaves a value as it is
pub span_kept : {S F : Type 0} (s : S) (v : Value) (merge : List ℕ → Result S F) (P : S → Type 0) → P s → HasOctets v
    → ((own : List ℕ) → All IsOctet own → IfOk (merge own) P) → IfOk (of_span s v merge) P
span_kept s (span own) merge P p octets keeps = keeps own octets
span_kept s (varint n) merge P p octets keeps = p
span_kept s (eight n) merge P p octets keeps = p
span_kept s (four n) merge P p octets keeps = p
