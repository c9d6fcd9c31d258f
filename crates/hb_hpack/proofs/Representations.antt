-- What is read as a header's representation is one, and a representation is read.
use Rattle.std.proofs.Common.{◌≡◌, ℕ, suc, ◌+◌, ◌%◌, ◌^◌, ◌<◌, ◌≤◌, false, eqb, leb, List, [], ◌∷◌, ◌++◌, length, Option, Some, None, Ok, refl, sym, ap, subst, ◌∙◌, arith, append_assoc, inl, inr, ◌⊎◌}
use Rattle.std.proofs.lemmas.Bool.{eqb-true, ne_eqb, leb-true, leb-false, le-leb, lt-leb, cases_lt}
use Rattle.std.proofs.lemmas.List.{append-nil}
use Rattle.hb_hpack.specs.declared.header.Header.{Header}
use Rattle.hb_hpack.specs.Outcome.{◌>>=◌}
use Rattle.hb_hpack.specs.Integer.{IsInteger}
use Rattle.hb_hpack.specs.Reader.{integer_at, string_at, entry_or, name_at, literal_at, indexed_at, Field, field, field_at}
use Rattle.hb_hpack.specs.StaticTable.{header}
use Rattle.hb_hpack.specs.Table.{Table, added, entry_at}
use Rattle.hb_hpack.specs.Block.{IsName, IsLiteral, Represents}
use Rattle.hb_hpack.proofs.Outcomes.{bind_ok, ok_is, chosen, no_value, AreOctets, octets_back}
use Rattle.hb_hpack.proofs.Groups.{integer_take, integer_again, integer_some}
use Rattle.hb_hpack.proofs.Strings.{string_take, string_again}
use Rattle.hb_hpack.proofs.Entries.{entry_none}

-- ---- names

pub record TakesName (table : Table) (prefix flag : ℕ) (bytes name rest : List ℕ) : Type 0 where
  pub front : List ℕ
  pub parts : bytes ≡ front ++ rest
  pub is : IsName table prefix flag name front

entry_some : (o : Option Header) (rest : List ℕ) (h : Header) → entry_or o rest ≡ Ok h → o ≡ Some h
entry_some None rest h e = absurd (no_value _ _ e)
entry_some (Some g) rest h e = ap (λ (x : Header). Some x) (ok_is g h e)

pub name_take : (table : Table) (prefix flag b : ℕ) (bytes name rest : List ℕ) → AreOctets (b ∷ bytes) → b ≡ flag + b % 2 ^ prefix
    → name_at table prefix (b ∷ bytes) ≡ Ok (name, rest)
    → TakesName table prefix flag (b ∷ bytes) name rest
unfolding name_at
name_take table prefix flag b bytes name rest o flag_is e =
    let n = bind_ok (integer_at prefix (b ∷ bytes)) _ (name, rest) e in
    let i = integer_take prefix flag b bytes n.0.0 n.0.1 o flag_is n.1 in
    elim (chosen (eqb n.0.0 0) _ _ _ n.2) [
      | inl p ↦
          let zero_is : IsInteger prefix flag 0 i.front = subst (λ k. IsInteger prefix flag k i.front) (eqb-true _ _ p.0) i.is in
          let octets : AreOctets n.0.1 = octets_back i.front n.0.1 (subst AreOctets i.parts o) in
          let s = string_take n.0.1 name rest octets p.1 in
          record {
            front = i.front ++ s.front;
            parts = i.parts ∙ ap (λ (xs : List ℕ). i.front ++ xs) s.parts ∙ sym (append_assoc i.front s.front rest);
            is = IsName.new i.front s.front zero_is s.is refl;
          }
      | inr p ↦
          let h = bind_ok (entry_or (entry_at table n.0.0) n.0.1) _ (name, rest) p.1 in
          let is = ok_is (h.0.name, n.0.1) (name, rest) h.2 in
          let name_is : h.0.name ≡ name = ap (λ (x : List ℕ × List ℕ). x.0) is in
          let rest_is : n.0.1 ≡ rest = ap (λ (x : List ℕ × List ℕ). x.1) is in
          record {
            front = i.front;
            parts = i.parts ∙ ap (λ (xs : List ℕ). i.front ++ xs) rest_is;
            is = IsName.indexed n.0.0 h.0 i.is (entry_some (entry_at table n.0.0) n.0.1 h.0 h.1) (sym name_is);
          }
    ]

-- an index that has an entry isn't 0
pub index_some : (table : Table) (i : ℕ) (h : Header) → entry_at table i ≡ Some h → i ≡ 0 → ⊥
index_some table i h e zero_is =
    let none : None ≡ Some h = sym (entry_none table) ∙ ap (entry_at table) (sym zero_is) ∙ e in
    cc

pub name_again : (table : Table) (prefix flag : ℕ) (name front rest : List ℕ) → flag % 2 ^ prefix ≡ 0
    → IsName table prefix flag name front → name_at table prefix (front ++ rest) ≡ Ok (name, rest)
unfolding name_at
name_again table prefix flag name front rest clear (IsName.indexed i entry is e name_is) =
    let read = integer_again prefix flag i front rest clear is in
    let named : eqb i 0 ≡ false = ne_eqb i 0 (index_some table i entry e) in
    rw (read, named, e, ← name_is) refl
name_again table prefix flag name front rest clear (IsName.new first text is string parts) =
    let read = integer_again prefix flag 0 first (text ++ rest) clear is in
    let regroup : front ++ rest ≡ first ++ (text ++ rest) = rw parts (append_assoc first text rest) in
    rw (regroup, read) (string_again name text rest string)

-- the first byte, with the flag above the prefix
pub record Begins (prefix flag : ℕ) (bytes : List ℕ) : Type 0 where
  pub first : ℕ
  pub more : List ℕ
  pub parts : bytes ≡ first ∷ more
  pub above : flag ≤ first
  pub below : first < flag + 2 ^ prefix

pub integer_begins : (prefix flag n : ℕ) (front rest bytes : List ℕ) → IsInteger prefix flag n front → bytes ≡ front ++ rest
    → Begins prefix flag bytes
integer_begins prefix flag n front rest bytes is parts =
    let f = integer_some prefix flag n front is in
    record { first = f.0; more = f.1 ++ rest; parts = parts ∙ ap (λ (xs : List ℕ). xs ++ rest) f.2; above = f.3; below = f.4 }

pub name_begins : (table : Table) (prefix flag : ℕ) (name front rest bytes : List ℕ) → IsName table prefix flag name front
    → bytes ≡ front ++ rest → Begins prefix flag bytes
name_begins table prefix flag name front rest bytes (IsName.indexed i entry is e name_is) parts =
    integer_begins prefix flag i front rest bytes is parts
name_begins table prefix flag name front rest bytes (IsName.new first text is string split) parts =
    integer_begins prefix flag 0 first (text ++ rest) bytes is (parts ∙ ap (λ (xs : List ℕ). xs ++ rest) split
    ∙ append_assoc first text rest)

pub literal_begins : (table : Table) (prefix flag : ℕ) (h : Header) (front rest bytes : List ℕ) → IsLiteral table prefix flag h front
    → bytes ≡ front ++ rest → Begins prefix flag bytes
literal_begins table prefix flag h front rest bytes (IsLiteral.literal first text name string split) parts =
    name_begins table prefix flag h.name first (text ++ rest) bytes name (parts ∙ ap (λ (xs : List ℕ). xs ++ rest) split
    ∙ append_assoc first text rest)

-- ---- literal headers

pub record TakesLiteral (table : Table) (prefix flag : ℕ) (bytes : List ℕ) (h : Header) (rest : List ℕ) : Type 0 where
  pub front : List ℕ
  pub parts : bytes ≡ front ++ rest
  pub is : IsLiteral table prefix flag h front

pub literal_take : (table : Table) (prefix flag b : ℕ) (bytes : List ℕ) (h : Header) (rest : List ℕ) → AreOctets (b ∷ bytes)
    → b ≡ flag + b % 2 ^ prefix → literal_at table prefix (b ∷ bytes) ≡ Ok (h, rest)
    → TakesLiteral table prefix flag (b ∷ bytes) h rest
unfolding literal_at
literal_take table prefix flag b bytes h rest o flag_is e =
    let name = bind_ok (name_at table prefix (b ∷ bytes)) _ (h, rest) e in
    let value = bind_ok (string_at name.0.1) _ (h, rest) name.2 in
    let n = name_take table prefix flag b bytes name.0.0 name.0.1 o flag_is name.1 in
    let octets : AreOctets name.0.1 = octets_back n.front name.0.1 (subst AreOctets n.parts o) in
    let s = string_take name.0.1 value.0.0 value.0.1 octets value.1 in
    let is = ok_is (header name.0.0 value.0.0, value.0.1) (h, rest) value.2 in
    let h_is : header name.0.0 value.0.0 ≡ h = ap (λ (x : Header × List ℕ). x.0) is in
    let rest_is : value.0.1 ≡ rest = ap (λ (x : Header × List ℕ). x.1) is in
    record {
      front = n.front ++ s.front;
      parts = n.parts ∙ ap (λ (xs : List ℕ). n.front ++ xs) s.parts ∙ sym (append_assoc n.front s.front value.0.1)
          ∙ ap (λ (xs : List ℕ). (n.front ++ s.front) ++ xs) rest_is;
      is = subst (λ (g : Header). IsLiteral table prefix flag g (n.front ++ s.front)) h_is
          (IsLiteral.literal n.front s.front n.is s.is refl);
    }

pub literal_again : (table : Table) (prefix flag : ℕ) (h : Header) (front rest : List ℕ) → flag % 2 ^ prefix ≡ 0
    → IsLiteral table prefix flag h front → literal_at table prefix (front ++ rest) ≡ Ok (h, rest)
unfolding literal_at
literal_again table prefix flag h front rest clear (IsLiteral.literal first text name string parts) =
    let regroup : front ++ rest ≡ first ++ (text ++ rest) = rw parts (append_assoc first text rest) in
    let named = name_again table prefix flag h.name first (text ++ rest) clear name in
    let valued = string_again h.value text rest string in
    rw (regroup, named, valued) refl

-- ---- one representation

pub record TakesField (table : Table) (bytes : List ℕ) (f : Field) : Type 0 where
  pub front : List ℕ
  pub parts : bytes ≡ front ++ f.rest
  pub is : Represents table front f.header f.next

some_of : (bytes front rest : List ℕ) (prefix flag : ℕ) → Begins prefix flag front → 0 < length front
some_of bytes front rest prefix flag b = let e : length front ≡ suc (length b.more) = rw b.parts refl in omega arith

-- a representation has a first byte
pub represents_some : (table : Table) (bytes : List ℕ) (h : Header) (next : Table) → Represents table bytes h next → 0 < length bytes
represents_some table bytes h next r =
    let whole : bytes ≡ bytes ++ [] = sym (append-nil bytes) in
    elim r [
      | Represents.indexed i is e same ↦ some_of bytes bytes [] 7 128 (integer_begins 7 128 i bytes [] bytes is whole)
      | Represents.entered l same ↦ some_of bytes bytes [] 6 64 (literal_begins table 6 64 h bytes [] bytes l whole)
      | Represents.passed l same ↦ some_of bytes bytes [] 4 0 (literal_begins table 4 0 h bytes [] bytes l whole)
      | Represents.never l same ↦ some_of bytes bytes [] 4 16 (literal_begins table 4 16 h bytes [] bytes l whole)
    ]

-- what is read of a literal, as the field that it makes
literal_field : (table next : Table) (prefix flag b : ℕ) (bytes : List ℕ) (f : Field) (enter : Header → Table)
    → AreOctets (b ∷ bytes) → b ≡ flag + b % 2 ^ prefix
    → (literal_at table prefix (b ∷ bytes) >>= λ l. Ok (field l.0 (enter l.0) l.1)) ≡ Ok f
    → (l : Header × List ℕ) × TakesLiteral table prefix flag (b ∷ bytes) l.0 l.1 × (field l.0 (enter l.0) l.1 ≡ f)
literal_field table next prefix flag b bytes f enter o flag_is e =
    let l = bind_ok (literal_at table prefix (b ∷ bytes)) _ f e in
    (l.0, literal_take table prefix flag b bytes l.0.0 l.0.1 o flag_is l.1, ok_is _ f l.2)

pub field_take : (table : Table) (b : ℕ) (bytes : List ℕ) (f : Field) → AreOctets (b ∷ bytes) → field_at table (b ∷ bytes) ≡ Ok f
    → TakesField table (b ∷ bytes) f
unfolding field_at indexed_at
field_take table b bytes f o e =
    let octet = o.0 in
    elim (chosen (leb 128 b) _ _ _ e) [
      | inl p ↦
          let above = leb-true 128 b p.0 in
          let l = bind_ok (indexed_at table (b ∷ bytes)) _ f p.1 in
          let n = bind_ok (integer_at 7 (b ∷ bytes)) _ l.0 l.1 in
          let h = bind_ok (entry_or (entry_at table n.0.0) n.0.1) _ l.0 n.2 in
          let i = integer_take 7 128 b bytes n.0.0 n.0.1 o (omega arith) n.1 in
          let l_is : (h.0, n.0.1) ≡ l.0 = ok_is (h.0, n.0.1) l.0 h.2 in
          let f_is : field l.0.0 table l.0.1 ≡ f = ok_is _ f l.2 in
          let whole : field h.0 table n.0.1 ≡ f = ap (λ (x : Header × List ℕ). field x.0 table x.1) l_is ∙ f_is in
          subst (λ (g : Field). TakesField table (b ∷ bytes) g) whole (record {
            front = i.front;
            parts = i.parts;
            is = Represents.indexed n.0.0 i.is (entry_some (entry_at table n.0.0) n.0.1 h.0 h.1) refl;
          })
      | inr p ↦
          let below = leb-false 128 b p.0 in
          elim (chosen (leb 64 b) _ _ _ p.1) [
            | inl q ↦
                let above = leb-true 64 b q.0 in
                let l = literal_field table table 6 64 b bytes f (λ h. added table h) o (omega arith) q.1 in
                subst (λ (g : Field). TakesField table (b ∷ bytes) g) l.2
                (record { front = l.1.front; parts = l.1.parts; is = Represents.entered l.1.is (refl {a = added table l.0.0}) })
            | inr q ↦
                let below_64 = leb-false 64 b q.0 in
                elim (chosen (leb 32 b) _ _ _ q.1) [
                  | inl r ↦ absurd (no_value _ _ r.1)
                  | inr r ↦
                      let below_32 = leb-false 32 b r.0 in
                      elim (cases_lt b 16) [
                        | inl low ↦
                            let l = literal_field table table 4 0 b bytes f (λ h. table) o (omega arith) r.1 in
                            subst (λ (g : Field). TakesField table (b ∷ bytes) g) l.2
                            (record { front = l.1.front; parts = l.1.parts; is = Represents.passed l.1.is refl })
                        | inr high ↦
                            let l = literal_field table table 4 16 b bytes f (λ h. table) o (omega arith) r.1 in
                            subst (λ (g : Field). TakesField table (b ∷ bytes) g) l.2
                            (record { front = l.1.front; parts = l.1.parts; is = Represents.never l.1.is refl })
                      ]
                ]
          ]
    ]

pub field_indexed : (table : Table) (b : ℕ) (bytes : List ℕ) → 128 ≤ b
    → field_at table (b ∷ bytes) ≡ (indexed_at table (b ∷ bytes) >>= λ l. Ok (field l.0 table l.1))
unfolding field_at
field_indexed table b bytes le = rw (le-leb 128 b le, field_at) refl

pub field_entered : (table : Table) (b : ℕ) (bytes : List ℕ) → 64 ≤ b → b < 128
    → field_at table (b ∷ bytes) ≡ (literal_at table 6 (b ∷ bytes) >>= λ l. Ok (field l.0 (added table l.0) l.1))
unfolding field_at
field_entered table b bytes le lt = rw (lt-leb 128 b lt, le-leb 64 b le, field_at) refl

pub field_passed : (table : Table) (b : ℕ) (bytes : List ℕ) → b < 32
    → field_at table (b ∷ bytes) ≡ (literal_at table 4 (b ∷ bytes) >>= λ l. Ok (field l.0 table l.1))
unfolding field_at
field_passed table b bytes lt = rw (lt-leb 128 b (omega arith), lt-leb 64 b (omega arith), lt-leb 32 b lt, field_at) refl

literal_read : (table next : Table) (prefix flag : ℕ) (h : Header) (front rest : List ℕ) (enter : Header → Table) → flag % 2 ^ prefix ≡ 0
    → IsLiteral table prefix flag h front → next ≡ enter h
    → (literal_at table prefix (front ++ rest) >>= λ l. Ok (field l.0 (enter l.0) l.1)) ≡ Ok (field h next rest)
literal_read table next prefix flag h front rest enter clear l same =
    let read = literal_again table prefix flag h front rest clear l in
    rw (read, same) refl

pub field_again : (table : Table) (front : List ℕ) (h : Header) (next : Table) (rest : List ℕ) → Represents table front h next
    → field_at table (front ++ rest) ≡ Ok (field h next rest)
unfolding indexed_at
field_again table front h next rest (Represents.indexed i is e same) =
    let b = integer_begins 7 128 i front rest (front ++ rest) is refl in
    let read = integer_again 7 128 i front rest refl is in
    let indexed : indexed_at table (front ++ rest) ≡ Ok (h, rest) = rw (read, e) refl in
    ap (field_at table) b.parts ∙ field_indexed table b.first b.more b.above
    ∙ ap (λ (xs : List ℕ). indexed_at table xs >>= λ l. Ok (field l.0 table l.1)) (sym b.parts) ∙ rw (indexed, same) refl
field_again table front h next rest (Represents.entered l same) =
    let b = literal_begins table 6 64 h front rest (front ++ rest) l refl in
    ap (field_at table) b.parts ∙ field_entered table b.first b.more b.above (omega (arith, b.below))
    ∙ ap (λ (xs : List ℕ). literal_at table 6 xs >>= λ l. Ok (field l.0 (added table l.0) l.1)) (sym b.parts)
    ∙ literal_read table next 6 64 h front rest (λ g. added table g) refl l same
field_again table front h next rest (Represents.passed l same) =
    let b = literal_begins table 4 0 h front rest (front ++ rest) l refl in
    ap (field_at table) b.parts ∙ field_passed table b.first b.more (omega (arith, b.below))
    ∙ ap (λ (xs : List ℕ). literal_at table 4 xs >>= λ l. Ok (field l.0 table l.1)) (sym b.parts)
    ∙ literal_read table next 4 0 h front rest (λ g. table) refl l same
field_again table front h next rest (Represents.never l same) =
    let b = literal_begins table 4 16 h front rest (front ++ rest) l refl in
    ap (field_at table) b.parts ∙ field_passed table b.first b.more (omega (arith, b.below))
    ∙ ap (λ (xs : List ℕ). literal_at table 4 xs >>= λ l. Ok (field l.0 table l.1)) (sym b.parts)
    ∙ literal_read table next 4 16 h front rest (λ g. table) refl l same

-- a representation's first byte begins no size update
pub represents_begins : (table : Table) (front rest : List ℕ) (h : Header) (next : Table) → Represents table front h next
    → (b : ℕ) × (more : List ℕ) × (front ++ rest ≡ b ∷ more) × ((b < 32) ⊎ (64 ≤ b))
represents_begins table front rest h next r =
    elim r [
      | Represents.indexed i is e same ↦ let b =
          integer_begins 7 128 i front rest (front ++ rest) is refl in (b.first, b.more, b.parts, inr (omega (arith, b.above)))
      | Represents.entered l same ↦ let b =
          literal_begins table 6 64 h front rest (front ++ rest) l refl in (b.first, b.more, b.parts, inr b.above)
      | Represents.passed l same ↦ let b =
          literal_begins table 4 0 h front rest (front ++ rest) l refl in (b.first, b.more, b.parts, inl (omega (arith, b.below)))
      | Represents.never l same ↦ let b =
          literal_begins table 4 16 h front rest (front ++ rest) l refl in (b.first, b.more, b.parts, inl (omega (arith, b.below)))
    ]
