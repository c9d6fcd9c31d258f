-- The fields of what is written.
use Rattle.std.proofs.Common.{◌≡◌, ℕ, ◌+◌, ◌<◌, ◌≤◌, ◌^◌, List, [], ◌∷◌, ◌++◌, length, map, Option, Some, None, refl, sym, ap, ◌∙◌, subst, arith, append_assoc, length-append}
use Rattle.std.proofs.Math.Dec.{eqb-suc-zero}
use Rattle.std.proofs.lemmas.List.{append-nil, map-append}
use Rattle.std.specs.List.{flat_map}
use Rattle.hb_wire.specs.Field.{Content, Value, varint, span}
use Rattle.hb_wire.specs.Spelling.{SpellsField, SpellsMessage}
use Rattle.hb_wire.specs.WireType.{span_type}
use Rattle.hb_wire.specs.Writing.{varint_of, tag_of, number_of, bytes_of}
use Rattle.hb_wire.proofs.Written.{number_spelled, bytes_spelled}
use Rattle.hb_disco.specs.Kind.{type_url}
use Rattle.hb_disco.specs.Request.{text_of, node_of, with_versions, entry_of, versions_of, status_of, detail_of}
use Rattle.hb_disco.specs.Written.{IsInMemory, AreFields, text_fields, detail_fields, FirstIsRead, AnswerIsRead, NodeIsRead, EntryIsRead, StatusIsRead}

none : AreFields [] []
none at = ([], refl, refl)

-- one field, whose place is told from that of its bytes
one : (bytes : List ℕ) (number : ℕ) (value : Value) (place : ℕ → ℕ)
    → ((at : ℕ) → SpellsField at bytes (record { number = number; at = place at; value = value }))
    → AreFields bytes ((number, value) ∷ [])
one bytes number value place spelled at =
    (record { number = number; at = place at; value = value } ∷ [], (bytes, [], sym (append-nil bytes), spelled at, refl), refl)

-- messages that stand one behind the other
joined : (a b : List ℕ) (xs ys : List Content) (at : ℕ) → SpellsMessage at a xs → SpellsMessage (at + length a) b ys
    → SpellsMessage at (a ++ b) (xs ++ ys)
joined a b [] ys at s t =
    let there : at + length a ≡ at = rw s (omega arith) in
    subst (λ (bytes : List ℕ). SpellsMessage at (bytes ++ b) ys) (sym s) (subst (λ (k : ℕ). SpellsMessage k b ys) there t)
joined a b (x ∷ xs) ys at s t =
    let (front, behind, cut, field, rest) = s in
    let there : at + length a ≡ at + length front + length behind = rw cut (omega (arith, length-append front behind)) in (
      front,
      behind ++ b,
      ap (λ (bytes : List ℕ). bytes ++ b) cut ∙ append_assoc front behind b,
      field,
      joined behind b xs ys (at + length front) rest (subst (λ (k : ℕ). SpellsMessage k b ys) there t),
    )

both : (a b : List ℕ) (xs ys : List (ℕ × Value)) → AreFields a xs → AreFields b ys → AreFields (a ++ b) (xs ++ ys)
both a b xs ys f g at =
    let s = f at in
    let t = g (at + length a) in (
      s.0 ++ t.0,
      joined a b s.0 t.0 at s.1 t.1,
      map-append (λ (c : Content). (c.number, c.value)) s.0 t.0 ∙ ap (λ (zs : List (ℕ × Value)). zs ++ map
          (λ c. (c.number, c.value)) t.0) s.2
          ∙ ap (λ (zs : List (ℕ × Value)). xs ++ zs) t.2,
    )

a_span : (number : ℕ) (own : List ℕ) → 0 < number → number < 2 ^ 29 → length own < 2 ^ 64
    → AreFields (bytes_of number own) ((number, span own) ∷ [])
a_span number own some small fits = one (bytes_of number own) number (span own) _ (λ at. bytes_spelled at number own some small fits)

a_text : (number : ℕ) (text : List ℕ) → 0 < number → number < 2 ^ 29 → length text < 2 ^ 64
    → AreFields (text_of number text) (text_fields number text)
a_text number [] some small fits = none
a_text number (b ∷ bs) some small fits = rw (eqb-suc-zero (length bs)) (a_span number (b ∷ bs) some small fits)

-- what stands in a field is no longer than the field
inside : (number : ℕ) (own : List ℕ) → length own ≤ length (bytes_of number own)
inside number own =
    omega (arith, length-append (tag_of number span_type) (varint_of (length own) ++ own), length-append (varint_of (length own)) own)

text_inside : (number : ℕ) (text : List ℕ) → length text ≤ length (text_of number text)
text_inside number [] = omega arith
text_inside number (b ∷ bs) = rw (eqb-suc-zero (length bs)) (inside number (b ∷ bs))

pub node_is : NodeIsRead
node_is id fits = a_text 1 id (omega arith) (omega arith) fits

pub entry_is : EntryIsRead
entry_is e fits =
    let whole = length-append (text_of 1 e.0) (bytes_of 2 e.1) in
    let name = text_inside 1 e.0 in
    let version = inside 2 e.1 in
    both (text_of 1 e.0) (bytes_of 2 e.1) (text_fields 1 e.0) ((2, span e.1) ∷ [])
    (a_text 1 e.0 (omega arith) (omega arith) (omega (arith, fits, whole, name)))
    (a_span 2 e.1 (omega arith) (omega arith) (omega (arith, fits, whole, version)))

pub status_is : StatusIsRead
status_is name fits =
    both (number_of 1 3) (text_of 2 name) ((1, varint 3) ∷ []) (text_fields 2 name)
    (one (number_of 1 3) 1 (varint 3) _ (λ at. number_spelled at 1 3 (omega arith) (omega arith) (omega arith) (omega arith)))
    (a_text 2 name (omega arith) (omega arith) fits)

entries_are : (es : List (List ℕ × List ℕ)) → IsInMemory (flat_map (λ e. bytes_of 5 (entry_of e)) es)
    → AreFields (flat_map (λ e. bytes_of 5 (entry_of e)) es) (map (λ e. (5, span (entry_of e))) es)
entries_are [] fits = none
entries_are (e ∷ es) fits =
    let behind = flat_map (λ e. bytes_of 5 (entry_of e)) es in
    let whole = length-append (bytes_of 5 (entry_of e)) behind in
    let first = inside 5 (entry_of e) in
    both (bytes_of 5 (entry_of e)) behind ((5, span (entry_of e)) ∷ []) (map (λ e. (5, span (entry_of e))) es)
    (a_span 5 (entry_of e) (omega arith) (omega arith) (omega (arith, fits, whole, first)))
    (entries_are es (omega (arith, fits, whole)))

pub first_is : FirstIsRead
first_is id kind versions fits =
    let node = bytes_of 1 (node_of id) in
    let url = bytes_of 2 (type_url kind) in
    let whole = length-append node (url ++ versions_of versions) in
    let rest = length-append url (versions_of versions) in
    let in_node = inside 1 (node_of id) in
    let in_url = inside 2 (type_url kind) in
    both node (url ++ versions_of versions) ((1, span (node_of id)) ∷ []) _
    (a_span 1 (node_of id) (omega arith) (omega arith) (omega (arith, fits, whole, in_node)))
    (both url (versions_of versions) ((2, span (type_url kind)) ∷ []) _
    (a_span 2 (type_url kind) (omega arith) (omega arith) (omega (arith, fits, whole, rest, in_url)))
    (entries_are (with_versions [] versions) (omega (arith, fits, whole, rest))))

detail_are : (refused : Option (List ℕ)) → IsInMemory (detail_of refused) → AreFields (detail_of refused) (detail_fields refused)
detail_are None fits = none
detail_are (Some name) fits =
    let in_status = inside 7 (status_of name) in
    a_span 7 (status_of name) (omega arith) (omega arith) (omega (arith, fits, in_status))

pub answer_is : AnswerIsRead
answer_is kind nonce refused fits =
    let url = bytes_of 2 (type_url kind) in
    let whole = length-append url (text_of 6 nonce ++ detail_of refused) in
    let rest = length-append (text_of 6 nonce) (detail_of refused) in
    let in_url = inside 2 (type_url kind) in
    let in_nonce = text_inside 6 nonce in
    both url (text_of 6 nonce ++ detail_of refused) ((2, span (type_url kind)) ∷ []) _
    (a_span 2 (type_url kind) (omega arith) (omega arith) (omega (arith, fits, whole, in_url)))
    (both (text_of 6 nonce) (detail_of refused) (text_fields 6 nonce) (detail_fields refused)
    (a_text 6 nonce (omega arith) (omega arith) (omega (arith, fits, whole, rest, in_nonce)))
    (detail_are refused (omega (arith, fits, whole, rest))))
