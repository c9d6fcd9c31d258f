-- A block is read exactly where it stands for headers.
use Rattle.std.proofs.Common.{◌≡◌, ℕ, zero, suc, ◌+◌, ◌<◌, ◌≤◌, true, false, ltb, leb, ◌&&◌, List, [], ◌∷◌, ◌++◌, length, Result, Ok, Err, refl, sym, ap, subst, ◌∙◌, arith, append_assoc, inl, inr, ◌⊎◌}
use Rattle.std.proofs.lemmas.Bool.{leb-true, le-leb, lt-leb, lt-ltb, le-ltb, ltb-true, and_right, cases_Bool}
use Rattle.std.proofs.lemmas.List.{append-nil, length-append}
use Rattle.hb_hpack.specs.declared.header.Header.{Header}
use Rattle.hb_hpack.specs.declared.fault.Stop.{Stop}
use Rattle.hb_hpack.specs.Outcome.{◌>>=◌}
use Rattle.hb_hpack.specs.Integer.{IsInteger}
use Rattle.hb_hpack.specs.Reader.{integer_at, Field, field_at, headers_at, with_header, is_update, update_at, updates_at, block_at, Adds, with_headers, GivesList}
use Rattle.hb_hpack.specs.Table.{Table, resized}
use Rattle.hb_hpack.specs.Block.{ReadsHeaders, ReadsBehind, Reads}
use Rattle.hb_hpack.specs.declared.header.HeaderList.{HeaderList}
use Rattle.hb_base.specs.declared.or.Or.{Or}
use Rattle.hb_base.specs.declared.or.Or.TheVariants as or
use Rattle.hb_hpack.specs.Decoded.{IsListOf}
use Rattle.hb_hpack.proofs.CodeTable.{both}
use Rattle.hb_hpack.proofs.Outcomes.{bind_ok, ok_is, chosen, no_value, AreOctets, octets_back}
use Rattle.hb_hpack.proofs.Groups.{integer_take, integer_again, integer_some}
use Rattle.hb_hpack.proofs.Representations.{field_take, field_again, represents_some, represents_begins}

-- ---- headers

pub field_shorter : (table : Table) (bytes : List ℕ) (f : Field) → AreOctets bytes → field_at table bytes ≡ Ok f
    → length f.rest < length bytes
unfolding field_at
field_shorter table [] f o e = absurd (no_value _ _ e)
field_shorter table (b ∷ bytes) f o e =
    let t = field_take table b bytes f o e in
    let some = represents_some table t.front f.header f.next t.is in
    let len : length (b ∷ bytes) ≡ length t.front + length f.rest = ap (λ (xs : List ℕ). length xs) t.parts
    ∙ length-append t.front f.rest in
    omega arith

header_ok : (h : Header) (r : Result (List Header × Table) Stop) (hs : List Header) (next : Table) → with_header h r ≡ Ok (hs, next)
    → (x : List Header × Table) × (r ≡ Ok x) × (◌≡◌ {A = List Header × Table} (h ∷ x.0, x.1) (hs, next))
header_ok h (Ok x) hs next e = (x, refl, ok_is (h ∷ x.0, x.1) (hs, next) e)
header_ok h (Err d) hs next e = absurd (no_value _ _ e)

-- a representation leaves octets, and fewer of them
pub field_leaves : (table : Table) (bytes : List ℕ) (f : Field) → AreOctets bytes → field_at table bytes ≡ Ok f
    → AreOctets f.rest × (length f.rest < length bytes)
unfolding field_at
field_leaves table [] f o e = absurd (no_value _ _ e)
field_leaves table (b ∷ bytes) f o e =
    let t = field_take table b bytes f o e in
    (octets_back t.front f.rest (subst AreOctets t.parts o), field_shorter table (b ∷ bytes) f o e)

pushed : (front : List Header) (h : Header) (r : Result (List Header × Table) Stop)
    → with_headers (front ++ h ∷ []) r ≡ with_headers front (with_header h r)
pushed front h (Ok x) = ap (λ (hs : List Header). Ok (hs, x.1)) (append_assoc front (h ∷ []) x.0)
pushed front h (Err d) = refl

pub headers_take : (most : ℕ) (table : Table) (bytes : List ℕ) (hs : List Header) (next : Table) → AreOctets bytes
    → headers_at most table bytes ≡ Ok (hs, next) → ReadsHeaders table bytes hs next
unfolding headers_at
headers_take zero table [] hs next o e =
    let is = ok_is ([], table) (hs, next) e in
    subst (λ (x : List Header × Table). ReadsHeaders table [] x.0 x.1) is (refl, refl)
headers_take (suc most) table [] hs next o e =
    let is = ok_is ([], table) (hs, next) e in
    subst (λ (x : List Header × Table). ReadsHeaders table [] x.0 x.1) is (refl, refl)
headers_take zero table (b ∷ bytes) hs next o e = absurd (no_value _ _ e)
headers_take (suc most) table (b ∷ bytes) hs next o e =
    let f = bind_ok (field_at table (b ∷ bytes)) _ (hs, next) e in
    let r = header_ok f.0.header (headers_at most f.0.next f.0.rest) hs next f.2 in
    let t = field_take table b bytes f.0 o f.1 in
    let octets : AreOctets f.0.rest = octets_back t.front f.0.rest (subst AreOctets t.parts o) in
    let others = headers_take most f.0.next f.0.rest r.0.0 r.0.1 octets r.1 in
    subst (λ (x : List Header × Table). ReadsHeaders table (b ∷ bytes) x.0 x.1) r.2 (t.front, f.0.rest, f.0.next, t.parts, t.is, others)

headers_step : (most : ℕ) (table mid next : Table) (block rest : List ℕ) (h : Header) (hs : List Header) → 0 < length block
    → field_at table block ≡ Ok (record { header = h; next = mid; rest = rest }) → headers_at most mid rest ≡ Ok (hs, next)
    → headers_at (suc most) table block ≡ Ok (h ∷ hs, next)
unfolding headers_at
headers_step most table mid next [] rest h hs some e r = absurd (omega arith)
headers_step most table mid next (b ∷ block) rest h hs some e r = rw (e, r) refl

pub headers_again : (hs : List Header) (table : Table) (block : List ℕ) (next : Table) (most : ℕ) → ReadsHeaders table block hs next
    → length block ≤ most → headers_at most table block ≡ Ok (hs, next)
unfolding headers_at
headers_again [] table block next zero r le = rw (r.0, r.1) refl
headers_again [] table block next (suc most) r le = rw (r.0, r.1) refl
headers_again (h ∷ hs) table block next zero r le =
    let some = represents_some table r.0 h r.2 r.4 in
    let len : length block ≡ length r.0 + length r.1 = ap (λ (xs : List ℕ). length xs) r.3 ∙ length-append r.0 r.1 in
    absurd (omega arith)
headers_again (h ∷ hs) table block next (suc most) r le =
    let some = represents_some table r.0 h r.2 r.4 in
    let len : length block ≡ length r.0 + length r.1 = ap (λ (xs : List ℕ). length xs) r.3 ∙ length-append r.0 r.1 in
    let read = ap (field_at table) r.3 ∙ field_again table r.0 h r.2 r.1 r.4 in
    let others = headers_again hs r.2 r.1 next most r.5 (omega arith) in
    headers_step most table r.2 next block r.1 h hs (omega arith) read others

same_headers : (most n : ℕ) (table : Table) (b : ℕ) (bytes : List ℕ) (r : Result Field Stop) → AreOctets (b ∷ bytes) → length bytes ≤ most
    → length bytes ≤ n
    → ((mid : Table) (rest : List ℕ) → AreOctets rest → length rest ≤ most → length rest ≤ n
    → headers_at most mid rest ≡ headers_at n mid rest)
    → field_at table (b ∷ bytes) ≡ r
    → (r >>= λ f. with_header f.header (headers_at most f.next f.rest)) ≡ (r >>= λ f. with_header f.header (headers_at n f.next f.rest))
same_headers most n table b bytes (Err d) o le le' again e = refl
same_headers most n table b bytes (Ok f) o le le' again e =
    let shorter = field_shorter table (b ∷ bytes) f o e in
    let t = field_take table b bytes f o e in
    let octets : AreOctets f.rest = octets_back t.front f.rest (subst AreOctets t.parts o) in
    let same = again f.next f.rest octets (omega arith) (omega arith) in
    ap (with_header f.header) same

-- as many representations as bytes are enough
pub enough_headers : (most : ℕ) (n : ℕ) (table : Table) (bytes : List ℕ) → AreOctets bytes → length bytes ≤ most → length bytes ≤ n
    → headers_at most table bytes ≡ headers_at n table bytes
unfolding headers_at
enough_headers zero zero table bytes o le le' = refl
enough_headers zero (suc n) table [] o le le' = refl
enough_headers (suc most) zero table [] o le le' = refl
enough_headers (suc most) (suc n) table [] o le le' = refl
enough_headers zero (suc n) table (b ∷ bytes) o le le' = absurd (omega arith)
enough_headers (suc most) zero table (b ∷ bytes) o le le' = absurd (omega arith)
enough_headers (suc most) (suc n) table (b ∷ bytes) o le le' =
    same_headers most n table b bytes (field_at table (b ∷ bytes)) o (omega arith) (omega arith)
    (λ mid rest p q r. enough_headers most n mid rest p q r) refl

pub headers_start : (r : Result (List Header × Table) Stop) → with_headers [] r ≡ r
headers_start (Ok x) = refl
headers_start (Err d) = refl

-- one header on, the others give what all give
pub headers_step_on : (table : Table) (bytes : List ℕ) (f : Field) (front : List Header) (whole : Result (List Header × Table) Stop)
    → 0 < length bytes → AreOctets bytes → field_at table bytes ≡ Ok f
    → with_headers front (headers_at (length bytes) table bytes) ≡ whole
    → with_headers (front ++ f.header ∷ []) (headers_at (length f.rest) f.next f.rest) ≡ whole
unfolding headers_at
headers_step_on table [] f front whole some o e so_far = absurd (omega arith)
headers_step_on table (b ∷ bytes) f front whole some o e so_far =
    let leaves = field_leaves table (b ∷ bytes) f o e in
    let shorter = leaves.1 in
    let step : headers_at (suc (length bytes)) table (b ∷ bytes) ≡ with_header f.header (headers_at (length bytes) f.next f.rest) =
    rw e refl in
    let same = enough_headers (length f.rest) (length bytes) f.next f.rest leaves.0 (omega arith) (omega arith) in
    ap (with_headers (front ++ f.header ∷ [])) same ∙ pushed front f.header (headers_at (length bytes) f.next f.rest)
    ∙ ap (with_headers front) (sym step) ∙ so_far

pub headers_stop : (table : Table) (bytes : List ℕ) (s : Stop) (front : List Header) (whole : Result (List Header × Table) Stop)
    → 0 < length bytes → field_at table bytes ≡ Err s
    → with_headers front (headers_at (length bytes) table bytes) ≡ whole → whole ≡ Err s
unfolding headers_at
headers_stop table [] s front whole some e so_far = absurd (omega arith)
headers_stop table (b ∷ bytes) s front whole some e so_far =
    let step : headers_at (suc (length bytes)) table (b ∷ bytes) ≡ Err s = rw e refl in
    sym so_far ∙ ap (with_headers front) step

pub headers_end : (table : Table) (bytes : List ℕ) (front : List Header) (whole : Result (List Header × Table) Stop) → length bytes ≡ 0
    → with_headers front (headers_at (length bytes) table bytes) ≡ whole → whole ≡ Ok (front, table)
unfolding headers_at
headers_end table [] front whole none so_far = sym so_far ∙ ap (λ (hs : List Header). Ok (hs, table)) (append-nil front)
headers_end table (b ∷ bytes) front whole none so_far = absurd (omega arith)

-- ---- size updates

pub update_bits : (b : ℕ) → (leb 32 b && ltb b 64) ≡ true → (32 ≤ b) × (b < 64)
update_bits b e = let p = both _ _ e in (leb-true 32 b p.0, ltb-true b 64 p.1)

pub record TakesUpdate (bytes : List ℕ) (n : ℕ) (rest : List ℕ) : Type 0 where
  pub front : List ℕ
  pub parts : bytes ≡ front ++ rest
  pub is : IsInteger 5 32 n front
  pub small : n ≤ 4096
  pub some : 0 < length front

some_integer : (prefix flag n : ℕ) (front : List ℕ) → IsInteger prefix flag n front → 0 < length front
some_integer prefix flag n front is =
    let f = integer_some prefix flag n front is in
    let e : length front ≡ suc (length f.1) = ap (λ (xs : List ℕ). length xs) f.2 in omega arith

pub update_take : (bytes : List ℕ) (n : ℕ) (rest : List ℕ) → AreOctets bytes → is_update bytes ≡ true → update_at bytes ≡ Ok (n, rest)
    → TakesUpdate bytes n rest
unfolding update_at
update_take [] n rest o update e = absurd cc
update_take (b ∷ bytes) n rest o update e =
    let bits = update_bits b update in
    let above = bits.0 in
    let below = bits.1 in
    let x = bind_ok (integer_at 5 (b ∷ bytes)) _ (n, rest) e in
    elim (chosen (leb x.0.0 4096) _ _ _ x.2) [
      | inr p ↦ absurd (no_value _ _ p.1)
      | inl p ↦
          let i = integer_take 5 32 b bytes x.0.0 x.0.1 o (omega arith) x.1 in
          let is = ok_is x.0 (n, rest) p.1 in
          let t : TakesUpdate (b ∷ bytes) x.0.0 x.0.1 =
          record {
            front = i.front;
            parts = i.parts;
            is = i.is;
            small = leb-true _ _ p.0;
            some =
                some_integer 5 32 x.0.0 i.front i.is;
          } in
          subst (λ (y : ℕ × List ℕ). TakesUpdate (b ∷ bytes) y.0 y.1) is t
    ]

-- a size update in front, as a test and as what is read
pub update_again : (n : ℕ) (front rest : List ℕ) → IsInteger 5 32 n front → n ≤ 4096
    → (is_update (front ++ rest) ≡ true) × (update_at (front ++ rest) ≡ Ok (n, rest))
unfolding update_at
update_again n front rest is le =
    let f = integer_some 5 32 n front is in
    let first : front ++ rest ≡ f.0 ∷ (f.1 ++ rest) = ap (λ (xs : List ℕ). xs ++ rest) f.2 in
    let test : is_update (f.0 ∷ (f.1 ++ rest)) ≡ true = rw (le-leb 32 f.0 f.3, lt-ltb f.0 64 (omega (arith, f.4))) refl in
    let read = integer_again 5 32 n front rest refl is in
    (ap is_update first ∙ test, rw (read, le-leb n 4096 le) refl)

-- the sizes of updates that lead to a place from which headers are read
pub record Behind (table : Table) (bytes : List ℕ) (mid : Table) (rest : List ℕ) : Type 0 where
  pub sizes : List ℕ
  pub octets : AreOctets rest
  pub shorter : length rest ≤ length bytes
  pub then : (hs : List Header) (next : Table) → ReadsHeaders mid rest hs next → ReadsBehind sizes table bytes hs next

pub updates_take : (most : ℕ) (table : Table) (bytes : List ℕ) (mid : Table) (rest : List ℕ) → AreOctets bytes
    → updates_at most table bytes ≡ Ok (mid, rest) → Behind table bytes mid rest
unfolding updates_at
updates_take zero table bytes mid rest o e =
    subst (λ (x : Table × List ℕ). Behind table bytes x.0 x.1) (ok_is (table, bytes) (mid, rest) e)
    (record { sizes = []; octets = o; shorter = omega arith; then = λ hs next r. r })
updates_take (suc most) table bytes mid rest o e =
    elim (chosen (is_update bytes) _ _ _ e) [
      | inr p ↦ subst (λ (x : Table × List ℕ). Behind table bytes x.0 x.1) (ok_is (table, bytes) (mid, rest) p.1)
          (record { sizes = []; octets = o; shorter = omega arith; then = λ hs next r. r })
      | inl p ↦
          let n = bind_ok (update_at bytes) _ (mid, rest) p.1 in
          let t = update_take bytes n.0.0 n.0.1 o p.0 n.1 in
          let octets : AreOctets n.0.1 = octets_back t.front n.0.1 (subst AreOctets t.parts o) in
          let b = updates_take most (resized table n.0.0) n.0.1 mid rest octets n.2 in
          let len : length bytes ≡ length t.front + length n.0.1 = ap (λ (xs : List ℕ). length xs) t.parts ∙ length-append t.front n.0.1 in
          record {
            sizes = n.0.0 ∷ b.sizes;
            octets = b.octets;
            shorter = omega (arith, b.shorter);
            then = λ hs next r. (t.front, n.0.1, t.parts, t.is, t.small, b.then hs next r);
          }
    ]

same_updates : (most n : ℕ) (table : Table) (bytes : List ℕ) (r : Result (ℕ × List ℕ) Stop) → AreOctets bytes → is_update bytes ≡ true
    → length bytes ≤ suc most → length bytes ≤ suc n
    → ((mid : Table) (rest : List ℕ) → AreOctets rest → length rest ≤ most → length rest ≤ n
    → updates_at most mid rest ≡ updates_at n mid rest)
    → update_at bytes ≡ r
    → (r >>= λ x. updates_at most (resized table x.0) x.1) ≡ (r >>= λ x. updates_at n (resized table x.0) x.1)
same_updates most n table bytes (Err d) o update le le' again e = refl
same_updates most n table bytes (Ok x) o update le le' again e =
    let t = update_take bytes x.0 x.1 o update e in
    let some = t.some in
    let len : length bytes ≡ length t.front + length x.1 = ap (λ (xs : List ℕ). length xs) t.parts ∙ length-append t.front x.1 in
    again (resized table x.0) x.1 (octets_back t.front x.1 (subst AreOctets t.parts o)) (omega arith) (omega arith)

pub none_in_none : (bytes : List ℕ) → length bytes ≤ 0 → is_update bytes ≡ false
none_in_none [] le = refl
none_in_none (b ∷ bytes) le = absurd (omega arith)

pub no_updates : (most : ℕ) (table : Table) (bytes : List ℕ) → is_update bytes ≡ false → updates_at most table bytes ≡ Ok (table, bytes)
unfolding updates_at
no_updates zero table bytes e = refl
no_updates (suc most) table bytes e = rw (e, updates_at) refl

pub one_update : (most : ℕ) (table : Table) (bytes : List ℕ) → is_update bytes ≡ true
    → updates_at (suc most) table bytes ≡ (update_at bytes >>= λ x. updates_at most (resized table x.0) x.1)
unfolding updates_at
one_update most table bytes e = rw (e, updates_at) refl

-- as many updates as bytes are enough
pub enough_updates : (most : ℕ) (n : ℕ) (table : Table) (bytes : List ℕ) → AreOctets bytes → length bytes ≤ most → length bytes ≤ n
    → updates_at most table bytes ≡ updates_at n table bytes
enough_updates zero n table bytes o le le' = let none = none_in_none bytes le in no_updates zero table bytes none
    ∙ sym (no_updates n table bytes none)
enough_updates (suc most) zero table bytes o le le' = let none = none_in_none bytes le' in no_updates (suc most) table bytes none
    ∙ sym (no_updates zero table bytes none)
enough_updates (suc most) (suc n) table bytes o le le' =
    elim (cases_Bool (is_update bytes)) [
      | inl e ↦
          one_update most table bytes e
          ∙ same_updates most n table bytes (update_at bytes) o e le le' (λ mid rest p q r. enough_updates most n mid rest p q r) refl
          ∙ sym (one_update n table bytes e)
      | inr e ↦ no_updates (suc most) table bytes e ∙ sym (no_updates (suc n) table bytes e)
    ]

-- an update leaves octets, and fewer of them
pub update_leaves : (bytes : List ℕ) (n : ℕ) (rest : List ℕ) → TakesUpdate bytes n rest → AreOctets bytes
    → AreOctets rest × (length rest < length bytes)
update_leaves bytes n rest t o =
    let some = t.some in
    let len : length bytes ≡ length t.front + length rest = ap (λ (xs : List ℕ). length xs) t.parts ∙ length-append t.front rest in
    (octets_back t.front rest (subst AreOctets t.parts o), omega arith)

-- one update on, the others give what all give
pub updates_step : (table : Table) (bytes : List ℕ) (n : ℕ) (rest : List ℕ) (whole : Result (Table × List ℕ) Stop)
    → TakesUpdate bytes n rest → AreOctets bytes → is_update bytes ≡ true → update_at bytes ≡ Ok (n, rest)
    → updates_at (length bytes) table bytes ≡ whole → updates_at (length rest) (resized table n) rest ≡ whole
updates_step table [] n rest whole t o update e so_far = absurd cc
updates_step table (b ∷ bytes) n rest whole t o update e so_far =
    let leaves = update_leaves (b ∷ bytes) n rest t o in
    let shorter = leaves.1 in
    let step : updates_at (suc (length bytes)) table (b ∷ bytes) ≡ updates_at (length bytes) (resized table n) rest =
    one_update (length bytes) table (b ∷ bytes) update ∙ rw e refl in
    enough_updates (length rest) (length bytes) (resized table n) rest leaves.0 (omega arith) (omega arith) ∙ sym step ∙ so_far

-- an update that can't be read
pub updates_stop : (table : Table) (bytes : List ℕ) (s : Stop) (whole : Result (Table × List ℕ) Stop) → is_update bytes ≡ true
    → update_at bytes ≡ Err s → updates_at (length bytes) table bytes ≡ whole → whole ≡ Err s
updates_stop table [] s whole update e so_far = absurd cc
updates_stop table (b ∷ bytes) s whole update e so_far = sym so_far ∙ one_update (length bytes) table (b ∷ bytes) update ∙ rw e refl

pub no_update_first : (b : ℕ) → (b < 32) ⊎ (64 ≤ b) → (leb 32 b && ltb b 64) ≡ false
no_update_first b (inl lt) = rw (lt-leb 32 b lt) refl
no_update_first b (inr le) = rw (le-ltb b 64 le) (and_right (leb 32 b) false refl)

-- headers begin with no size update
no_update : (table : Table) (block : List ℕ) (hs : List Header) (next : Table) → ReadsHeaders table block hs next → is_update block ≡ false
no_update table block [] next r = ap is_update r.0
no_update table block (h ∷ hs) next r =
    let b = represents_begins table r.0 r.1 h r.2 r.4 in
    ap is_update (r.3 ∙ b.2) ∙ no_update_first b.0 b.3

pub updates_again : (sizes : List ℕ) (most : ℕ) (table : Table) (block : List ℕ) (hs : List Header) (next : Table)
    → ReadsBehind sizes table block hs next → length block ≤ most
    → (updates_at most table block >>= λ u. headers_at (length u.1) u.0 u.1) ≡ Ok (hs, next)
unfolding updates_at
updates_again [] zero table block hs next r le = headers_again hs table block next (length block) r (omega arith)
updates_again [] (suc most) table block hs next r le =
    rw (no_update table block hs next r, updates_at) (headers_again hs table block next (length block) r (omega arith))
updates_again (n ∷ sizes) zero table block hs next r le =
    let some = some_integer 5 32 n r.0 r.3 in
    let len : length block ≡ length r.0 + length r.1 = ap (λ (xs : List ℕ). length xs) r.2 ∙ length-append r.0 r.1 in
    absurd (omega arith)
updates_again (n ∷ sizes) (suc most) table block hs next r le =
    let some = some_integer 5 32 n r.0 r.3 in
    let len : length block ≡ length r.0 + length r.1 = ap (λ (xs : List ℕ). length xs) r.2 ∙ length-append r.0 r.1 in
    let u = update_again n r.0 r.1 r.3 r.4 in
    let test : is_update block ≡ true = ap is_update r.2 ∙ u.0 in
    let read : update_at block ≡ Ok (n, r.1) = ap update_at r.2 ∙ u.1 in
    rw (test, read, updates_at) (updates_again sizes most (resized table n) r.1 hs next r.5 (omega arith))

-- ---- blocks

pub block_take : (table : Table) (block : List ℕ) (hs : List Header) (next : Table) → AreOctets block
    → block_at table block ≡ Ok (hs, next) → Reads table block hs next
unfolding block_at
block_take table block hs next o e =
    let u = bind_ok (updates_at (length block) table block) _ (hs, next) e in
    let b = updates_take (length block) table block u.0.0 u.0.1 o u.1 in
    (b.sizes, b.then hs next (headers_take (length u.0.1) u.0.0 u.0.1 hs next b.octets u.2))

pub block_again : (table : Table) (block : List ℕ) (hs : List Header) (next : Table) → Reads table block hs next
    → block_at table block ≡ Ok (hs, next)
unfolding block_at
block_again table block hs next r = updates_again r.0 (length block) table block hs next r.1 (omega arith)

-- ---- what the decoder answers

-- a header that can't be read, as the answer of the list
pub list_stops : (old new : HeaderList) (next : Table) (e : Or Stop) (read : Result Field Stop)
    (whole : Result (List Header × Table) Stop) → Adds old new next (Err e) read
    → ((s : Stop) → read ≡ Err s → whole ≡ Err s) → GivesList next (Err e) whole
list_stops old new next (or.Fault s) read whole given stops = stops s given
list_stops old new next or.NoMemory read whole given stops = tt

-- updates that can't be read, as the answer of the block
pub block_stops : (table : Table) (block : List ℕ) (s : Stop) → updates_at (length block) table block ≡ Err s → block_at table block ≡ Err s
unfolding block_at
block_stops table block s e = rw e refl

pub block_goes_on : (table mid : Table) (block rest : List ℕ) → updates_at (length block) table block ≡ Ok (mid, rest)
    → block_at table block ≡ headers_at (length rest) mid rest
unfolding block_at
block_goes_on table mid block rest e = rw e refl

-- what stands for headers was read as them
pub block_read_as : (table next new : Table) (block : List ℕ) (list : HeaderList) (headers : List Header)
    → GivesList new (Ok list) (block_at table block) → Reads table block headers next
    → IsListOf headers list × (new ≡ next)
block_read_as table next new block list headers given reads =
    let again = block_again table block headers next reads in
    let same : ◌≡◌ {A = List Header × Table} (given.0, new) (headers, next) =
    ok_is (given.0, new) (headers, next) (sym given.1 ∙ again) in
    let headers_are : given.0 ≡ headers = ap (λ (x : List Header × Table). x.0) same in
    let table_is : new ≡ next = ap (λ (x : List Header × Table). x.1) same in
    (subst (λ (hs : List Header). IsListOf hs list) headers_are given.2, table_is)
