-- Reading a message is exact: its fields and its fault are those that its bytes spell.
use Rattle.std.proofs.Common.{◌≡◌, ℕ, ◌+◌, ◌≤◌, Bool, true, false, cond, zero, suc, ◌==◌, List, [], ◌∷◌, ◌++◌, length, Option, Some, None, Result, Ok, Err, refl, ap, sym, ◌∙◌, subst, arith, add-zero, append_assoc, length-append}
use Rattle.std.specs.List.{All}
use Rattle.std.proofs.lemmas.Bool.{eqb-true, eqb-false, ne_eqb}
use Rattle.std.proofs.lemmas.List.{append-nil}
use Rattle.hb_wire.specs.declared.fault.WireFault.{WireFault}
use Rattle.hb_wire.specs.Field.{Unread, Content, field_in, next_in, ◌>>=◌}
use Rattle.hb_wire.specs.Message.{Message, message_of, with_first}
use Rattle.hb_wire.specs.Spelling.{IsOctet, SpellsNext, SpellsMessage, NoField}
use Rattle.hb_wire.proofs.Messages.{next_cases, next_is_shorter, message-end, message-fault, message-field}
use Rattle.hb_wire.specs.Breaks.{BreaksField, EndsWith, SpellsUpTo}
use Rattle.hb_wire.proofs.Varints.{at_ok}
use Rattle.hb_wire.proofs.Spelled.{octets_behind, field_spelled, field_read, next_read}
use Rattle.hb_wire.proofs.Broken.{at_err, field_broken, field_refused}

-- bytes and what reading their message gives
abbrev Splits : Unread → Message → Type 0
Splits u m = SpellsUpTo u.at u.left m.fields m.fault

empty : (bytes : List ℕ) → length bytes ≡ 0 → bytes ≡ []
empty [] e = refl
empty (byte ∷ bytes) e = absurd (omega arith)

end_cases : (b : Bool) (r : Result (Content × Unread) WireFault) → cond b (Ok None) (r >>= λ f. Ok (Some f)) ≡ Ok None → b ≡ true
end_cases true r e = refl
end_cases false (Ok f) e = absurd cc
end_cases false (Err d) e = absurd cc

pub nothing_left : (u : Unread) → next_in u ≡ Ok None → u.left ≡ []
nothing_left u e = empty u.left (eqb-true (length u.left) 0 (end_cases (length u.left == 0) (field_in u) e))

fault_cases : (b : Bool) (r : Result (Content × Unread) WireFault) (d : WireFault) → cond b (Ok None) (r >>= λ f. Ok (Some f)) ≡ Err d
    → (b ≡ false) × (r ≡ Err d)
fault_cases true r d e = absurd cc
fault_cases false (Ok f) d e = absurd cc
fault_cases false (Err c) d e = (refl, cc)

-- a field that is read is in front
pub next_spelled : (u v : Unread) (f : Content) → All IsOctet u.left → next_in u ≡ Ok (Some (f, v)) → SpellsNext u f v
next_spelled u v f octets e =
    let c = next_cases (length u.left == 0) (field_in u) (f, v) e in
    let s = at_ok (field_in u) _ (f, v) (field_spelled u octets) c.1 in
    (s.0, s.2.left, s.2.at, s.1)

-- a field that is in front is read
pub next_of_spelled : (u v : Unread) (f : Content) → SpellsNext u f v → next_in u ≡ Ok (Some (f, v))
next_of_spelled u v f (front, left, at, s) =
    ap (λ (l : List ℕ). next_in (record { at = u.at; left = l })) left ∙ next_read front v.left u.at f s
    ∙ ap (λ (k : ℕ). Ok (Some (f, record { at = k; left = v.left }))) (sym at)

pub end_of_nothing : (u : Unread) → u.left ≡ [] → next_in u ≡ Ok None
end_of_nothing u e = rw e refl

-- where the bytes are broken the next field is refused
pub next_refused : (u : Unread) (d : WireFault) → EndsWith u.at u.left (Some d) → next_in u ≡ Err d
next_refused u d (some, broken) =
    let filled : (length u.left ≡ 0 → ⊥) = λ e. omega arith in
    rw (ne_eqb (length u.left) 0 filled, field_refused u d broken) refl

by_next : (r : Result (Option (Content × Unread)) WireFault) (P : Type 0) → (r ≡ Ok None → P)
    → ((f : Content) (v : Unread) → r ≡ Ok (Some (f, v)) → P) → ((d : WireFault) → r ≡ Err d → P) → P
by_next (Ok None) P a b c = a refl
by_next (Ok (Some p)) P a b c = b p.0 p.1 refl
by_next (Err d) P a b c = c d refl

-- where the next field is refused, what is left is broken
pub refused : (u : Unread) (d : WireFault) → All IsOctet u.left → next_in u ≡ Err d → EndsWith u.at u.left (Some d)
refused u d octets e =
    let c = fault_cases (length u.left == 0) (field_in u) d e in
    let some = eqb-false (length u.left) 0 c.0 in
    (omega arith, at_err (field_in u) _ d (field_broken u octets) c.1)

first : (u v : Unread) (f : Content) → All IsOctet u.left → next_in u ≡ Ok (Some (f, v)) → Splits v (message_of v)
    → Splits u (with_first f (message_of v))
first u v f octets e (front, behind, cut, spelled, ends) =
    let c = next_cases (length u.left == 0) (field_in u) (f, v) e in
    let s = at_ok (field_in u) _ (f, v) (field_spelled u octets) c.1 in
    let at = s.2.at in
    let on : v.at + length front ≡ u.at + length (s.0 ++ front) = omega (arith, length-append s.0 front) in (
      s.0 ++ front,
      behind,
      s.2.left ∙ ap (λ (l : List ℕ). s.0 ++ l) cut ∙ sym (append_assoc s.0 front behind),
      (s.0, front, refl, s.1, subst (λ (k : ℕ). SpellsMessage k front (message_of v).fields) at spelled),
      subst (λ (k : ℕ). EndsWith k behind (message_of v).fault) on ends,
    )

split : (u : Unread) → All IsOctet u.left → ((f : Content) (v : Unread) → next_in u ≡ Ok (Some (f, v)) → Splits v (message_of v))
    → Splits u (message_of u)
split u octets more = by_next (next_in u) _
    (λ e. subst (λ (m : Message). Splits u m) (sym (message-end u e)) ([], u.left, refl, refl, nothing_left u e))
    (λ f v e. subst (λ (m : Message). Splits u m) (sym (message-field u v f e)) (first u v f octets e (more f v e)))
    (λ d e. subst (λ (m : Message). Splits u m) (sym (message-fault u d e))
    ([], u.left, refl, refl, subst (λ (k : ℕ). EndsWith k u.left (Some d)) (sym (add-zero u.at)) (refused u d octets e)))

splits : (n : ℕ) (u : Unread) → length u.left ≤ n → All IsOctet u.left → Splits u (message_of u)
splits zero u le octets = split u octets (λ f v e. let lt = next_is_shorter u v f e in absurd (omega arith))
splits (suc n) u le octets = split u octets (λ f v e.
    let lt = next_is_shorter u v f e in
    let c = next_cases (length u.left == 0) (field_in u) (f, v) e in
    let s = at_ok (field_in u) _ (f, v) (field_spelled u octets) c.1 in
    splits n v (omega arith) (octets_behind u v s.0 s.2 octets))

-- a message that is read is spelled, up to its fault
pub message_spelled : (at : ℕ) (bytes : List ℕ) (m : Message) → All IsOctet bytes → message_of (record { at = at; left = bytes }) ≡ m
    → SpellsUpTo at bytes m.fields m.fault
message_spelled at bytes m octets e = subst (λ (m : Message). SpellsUpTo at bytes m.fields m.fault) e
    (splits (length bytes) (record { at = at; left = bytes }) (omega arith) octets)

-- a message that is spelled, up to its fault, is read
spelled_up_to : (fields : List Content) (fault : Option WireFault) (at : ℕ) (front behind : List ℕ) → SpellsMessage at front fields
    → EndsWith (at + length front) behind fault
    → message_of (record { at = at; left = front ++ behind }) ≡ record { fields = fields; fault = fault }
spelled_up_to [] None at front behind none ends = rw (none, ends) (message-end (record { at = at; left = [] }) refl)
spelled_up_to [] (Some d) at front behind none (some, broken) =
    let here : at + length front ≡ at = rw none (add-zero at) in
    rw none (message-fault (record { at = at; left = behind }) d
    (next_refused (record { at = at; left = behind }) d (some, subst (λ (k : ℕ). BreaksField k behind d) here broken)))
spelled_up_to (f ∷ fields) fault at front behind (one, more, cut, s, rest) ends =
    let on : at + length front ≡ at + length one + length more = let size : length front ≡ length one + length more = ap length cut
    ∙ length-append one more in omega arith in
    rw (cut, append_assoc one more behind) (message-field (record { at = at; left = one ++ (more ++ behind) })
    (record { at = at + length one; left = more ++ behind }) f (next_read one (more ++ behind) at f s)
    ∙ ap (λ (m : Message). with_first f m) (spelled_up_to fields fault (at + length one) more behind rest
    (subst (λ (k : ℕ). EndsWith k behind fault) on ends)))

pub message_read : (at : ℕ) (bytes : List ℕ) (fields : List Content) (fault : Option WireFault) → SpellsUpTo at bytes fields fault
    → message_of (record { at = at; left = bytes }) ≡ record { fields = fields; fault = fault }
message_read at bytes fields fault (front, behind, cut, spelled, ends) = rw cut (spelled_up_to fields fault at front behind spelled ends)

-- nothing behind the fields
pub whole_message : (at : ℕ) (bytes : List ℕ) (fields : List Content) → SpellsUpTo at bytes fields None → SpellsMessage at bytes fields
whole_message at bytes fields (front, behind, cut, spelled, ends) =
    let whole : front ≡ bytes = sym (append-nil front) ∙ ap (λ (l : List ℕ). front ++ l) (sym ends) ∙ sym cut in
    subst (λ (l : List ℕ). SpellsMessage at l fields) whole spelled

-- and the other way round
pub up_to_its_end : (at : ℕ) (bytes : List ℕ) (fields : List Content) → SpellsMessage at bytes fields → SpellsUpTo at bytes fields None
up_to_its_end at bytes fields s = (bytes, [], sym (append-nil bytes), s, refl)

pub one_list : (at : ℕ) (bytes : List ℕ) (fields others : List Content) → SpellsMessage at bytes fields → SpellsMessage at bytes others
    → fields ≡ others
one_list at bytes fields others a b =
    let first = message_read at bytes fields None (up_to_its_end at bytes fields a) in
    let second = message_read at bytes others None (up_to_its_end at bytes others b) in
    ap (λ (m : Message). m.fields) (sym first ∙ second)

-- where the bytes are broken, no field is in front
pub no_field : (at : ℕ) (bytes : List ℕ) (fault : WireFault) → BreaksField at bytes fault → NoField at bytes
no_field at bytes fault broken = λ front behind f cut s.
    let refused = field_refused (record { at = at; left = bytes }) fault broken in
    let read = field_read front behind at f s in
    let same = ap (λ (l : List ℕ). field_in (record { at = at; left = l })) cut in
    cc
