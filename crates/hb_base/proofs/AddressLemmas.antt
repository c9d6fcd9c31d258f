-- The text of an address: std's readers read what its grammar spells.
use Rattle.std.proofs.Common.{◌≡◌, ℕ, ◌<◌, ◌^◌, ◌⊎◌, inl, inr, Bool, false, cond, List, [], ◌∷◌, ◌++◌, length, Option, Some, None, Result, Ok, Err, refl, sym, ap, ap₂, subst, ◌∙◌, arith, lit≤, append-nil, ne_eqb}
use Rattle.std.specs.Int.{to_be_bytes, w32, w128}
use Rattle.std.specs.Option.{option_map, option_or, option_and_then}
use Rattle.std.specs.Result.{result_ok}
use Rattle.std.specs.Net.Addr.{segments_of, octets_of, ipv4_octets, ipv6_segments}
use Rattle.std.specs.Net.Grammar.{Parses, IsDotted, IsColonHex, IsIpv4Text, IsIpv6Text}
use Rattle.std.specs.Net.Reader.{Read, read_ipv4, read_ipv6, whole_value}
use Rattle.std.specs.declared.net.ipv4_addr.Ipv4Addr.{Ipv4Addr}
use Rattle.std.specs.declared.net.ipv6_addr.Ipv6Addr.{Ipv6Addr}
use Rattle.std.proofs.NetLemmas.Ipv4.{read_ipv4_complete, read_ipv4_sound}
use Rattle.std.proofs.NetLemmas.Ipv6.{read_ipv6_complete, read_ipv6_sound, EndsGroups-nil, IsDotted-not_colon_hex}
use Rattle.std.proofs.NetLemmas.Options.{and_then_some}
use Rattle.std.proofs.NetLemmas.Texts.{IsDotted-ipv4_text, IsColonHex-hex_groups_text}
use Rattle.std.proofs.lemmas.Nat.{from_be_bytes-to_be_bytes_4}
use Rattle.std.proofs.lemmas.Option.{same_Some}
use Rattle.hb_base.specs.IpText.{SpellsIp, v4_of, v6_of, ip_of, ip_text}
use Rattle.hb_base.specs.Octets.{ip_of_octets, IsGiven}
use Rattle.hb_base.specs.declared.ip.Ip.{Ip}
use Rattle.hb_base.specs.declared.ip.Ip.TheVariants.{V4, V6}
use Rattle.hb_base.proofs.OctetLemmas.{octets_fit, groups_fit, octets_back, number_back}

whole_at : {A : Type 0} (a x : A) (rest : List ℕ) → whole_value (Some (a, rest)) ≡ Some x → (a ≡ x) × (rest ≡ [])
whole_at a x [] h = (same_Some a x h, refl)
whole_at a x (c ∷ rest) h = absurd (none (rw (ne_eqb (length (c ∷ rest)) 0 (omega arith)) at h))
  where
    none : None ≡ Some x → ⊥
    none e = cc

whole_some : {A : Type 0} (r : Read A) (x : A) → whole_value r ≡ Some x → r ≡ Some (x, [])
whole_some None x h = cc
whole_some (Some p) x h =
    let (same, no_more) = whole_at p.0 x p.1 h in
    ap₂ (λ a rest. Some (a, rest)) same no_more

-- a reader of a text's front, and what it reads of a whole text
module _ {A : Type 0} (read : List ℕ → Read A) (Spells : List ℕ → A → Type 0)
    (sound : (text : List ℕ) (a : A) → read text ≡ Some (a, []) → (front : List ℕ) × (text ≡ front ++ []) × Spells front a)
    (complete : (text : List ℕ) (a : A) → Spells text a → read (text ++ []) ≡ Some (a, [])) where
  pub reads_whole : (text : List ℕ) (a : A) → Spells text a → whole_value (read text) ≡ Some a
  reads_whole text a h = ap whole_value (sym (ap read (append-nil text)) ∙ complete text a h)

  pub whole_spelled : (text : List ℕ) (a : A) → whole_value (read text) ≡ Some a → Spells text a
  whole_spelled text a h =
      let (front, split, spells) = sound text a (whole_some (read text) a h) in
      subst (λ t. Spells t a) (sym (split ∙ append-nil front)) spells

  -- what is spelled in no way is read as nothing
  reads_none : (text : List ℕ) → ((a : A) → ¬ (Spells text a)) → (o : Option A) → whole_value (read text) ≡ o
      → whole_value (read text) ≡ None
  reads_none text not_spelled None is = is
  reads_none text not_spelled (Some a) is = absurd (not_spelled a (whole_spelled text a is))

  pub unspelled : (text : List ℕ) → ((a : A) → ¬ (Spells text a)) → whole_value (read text) ≡ None
  unspelled text not_spelled = reads_none text not_spelled (whole_value (read text)) refl

  -- so a parser reads the same
  pub parsed : {B E : Type 0} (view : B → A) (of_view : (a : A) → (b : B) × (view b ≡ a)) (text : List ℕ) (r : Result B E)
      → Parses (λ t b. Spells t (view b)) text r → whole_value (read text) ≡ option_map view (result_ok r)
  parsed view of_view text (Ok b) h = reads_whole text (view b) h
  parsed view of_view text (Err e) h = unspelled text (λ a spells. let (b, is) = of_view a in h b (subst (Spells text) (sym is) spells))

v4_sound : (text octets : List ℕ) → read_ipv4 text ≡ Some (octets, []) → (front : List ℕ) × (text ≡ front ++ []) × IsDotted front octets
v4_sound text octets h = read_ipv4_sound text octets [] h

v4_complete : (text octets : List ℕ) → IsDotted text octets → read_ipv4 (text ++ []) ≡ Some (octets, [])
v4_complete text octets h = read_ipv4_complete text octets [] h (lit≤ tt)

v6_sound : (text groups : List ℕ) → read_ipv6 text ≡ Some (groups, []) → (front : List ℕ) × (text ≡ front ++ []) × IsColonHex front groups
v6_sound text groups h = read_ipv6_sound text groups [] h

v6_complete : (text groups : List ℕ) → IsColonHex text groups → read_ipv6 (text ++ []) ≡ Some (groups, [])
v6_complete text groups h = read_ipv6_complete text groups [] h EndsGroups-nil

pub v4_parsed : {E : Type 0} (text : List ℕ) (r : Result Ipv4Addr E) (o : Option Ipv4Addr) → Parses IsIpv4Text text r → o ≡ result_ok r
    → v4_of text ≡ option_and_then ip_of_octets (option_map ipv4_octets o)
unfolding v4_of
v4_parsed text r o h is =
    ap (option_and_then ip_of_octets)
    (parsed read_ipv4 IsDotted v4_sound v4_complete ipv4_octets (λ octets. (record { octets = octets }, refl)) text r h
    ∙ ap (option_map ipv4_octets) (sym is))

pub v6_parsed : {E : Type 0} (text : List ℕ) (r : Result Ipv6Addr E) (o : Option Ipv6Addr) → Parses IsIpv6Text text r → o ≡ result_ok r
    → v6_of text ≡ option_and_then (λ groups. ip_of_octets (octets_of groups)) (option_map ipv6_segments o)
unfolding v6_of
v6_parsed text r o h is =
    ap (option_and_then (λ groups. ip_of_octets (octets_of groups)))
    (parsed read_ipv6 IsColonHex v6_sound v6_complete ipv6_segments (λ groups. (record { segments = groups }, refl)) text r h
    ∙ ap (option_map ipv6_segments) (sym is))

-- what is read is spelled
v4_spelled : (text : List ℕ) (ip : Ip) → v4_of text ≡ Some ip → SpellsIp text ip
unfolding v4_of
v4_spelled text ip h =
    and_then_some ip_of_octets (whole_value (read_ipv4 text)) ip h λ octets read given.
    (octets, inl (whole_spelled read_ipv4 IsDotted v4_sound v4_complete text octets read), given)

v6_spelled : (text : List ℕ) (ip : Ip) → v6_of text ≡ Some ip → SpellsIp text ip
unfolding v6_of
v6_spelled text ip h =
    and_then_some (λ groups. ip_of_octets (octets_of groups)) (whole_value (read_ipv6 text)) ip h λ groups read given.
    (octets_of groups, inr (groups, whole_spelled read_ipv6 IsColonHex v6_sound v6_complete text groups read, refl), given)

either : (o p : Option Ip) (ip : Ip) → option_or o p ≡ Some ip → (o ≡ Some ip) ⊎ (p ≡ Some ip)
either None p ip h = inr h
either (Some x) p ip h = inl h

pub ip_spelled : (text : List ℕ) (ip : Ip) → ip_of text ≡ Some ip → SpellsIp text ip
unfolding ip_of
ip_spelled text ip h =
    elim (either (v4_of text) (v6_of text) ip h) [
      | inl v4 ↦ v4_spelled text ip v4
      | inr v6 ↦ v6_spelled text ip v6
    ]

-- and what is spelled is read
pub v4_reads : (text octets : List ℕ) → IsDotted text octets → v4_of text ≡ ip_of_octets octets
unfolding v4_of
v4_reads text octets h = ap (option_and_then ip_of_octets) (reads_whole read_ipv4 IsDotted v4_sound v4_complete text octets h)

pub v6_reads : (text groups : List ℕ) → IsColonHex text groups → v6_of text ≡ ip_of_octets (octets_of groups)
unfolding v6_of
v6_reads text groups h =
    ap (option_and_then (λ (gs : List ℕ). ip_of_octets (octets_of gs)))
    (reads_whole read_ipv6 IsColonHex v6_sound v6_complete text groups h)

not_v4 : (text groups : List ℕ) → IsColonHex text groups → v4_of text ≡ None
unfolding v4_of
not_v4 text groups h =
    ap (option_and_then ip_of_octets)
    (unspelled read_ipv4 IsDotted v4_sound v4_complete text (λ octets dotted. IsDotted-not_colon_hex text octets groups dotted h))

pub ip_of-spelled : (text : List ℕ) (ip : Ip) → SpellsIp text ip → ip_of text ≡ Some ip
unfolding ip_of
ip_of-spelled text ip (octets, inl dotted, given) = rw (v4_reads text octets dotted, given) refl
ip_of-spelled text ip (octets, inr (groups, hex, is), given) =
    rw (not_v4 text groups hex, v6_reads text groups hex, ← is, given) refl

-- the octets of an address give it back
v4_given : (n : ℕ) → n < 2 ^ 32 → ip_of_octets (to_be_bytes w32 n) ≡ Some (V4 n)
v4_given n fits = ap (λ m. Some (V4 m)) (from_be_bytes-to_be_bytes_4 n fits)

not_so : (b : Bool) (x y : Option Ip) → b ≡ false → cond b x y ≡ y
not_so b x y is = rw is refl

v6_given : (n : ℕ) → IsGiven (V6 n) → ip_of_octets (octets_of (segments_of (to_be_bytes w128 n))) ≡ Some (V6 n)
v6_given n (fits, unmapped) =
    ap ip_of_octets (octets_back 8 (to_be_bytes w128 n) refl (octets_fit 16 n)) ∙ not_so _ _ _ unmapped
    ∙ ap (λ m. Some (V6 m)) (number_back n fits)

-- what is written of an address is its text, and is read as it
pub v4_text_read : (n : ℕ) → n < 2 ^ 32 → v4_of (ip_text (V4 n)) ≡ Some (V4 n)
unfolding ip_text
v4_text_read n fits =
    v4_reads _ (to_be_bytes w32 n) (IsDotted-ipv4_text (to_be_bytes w32 n) refl (octets_fit 4 n)) ∙ v4_given n fits

v6_text_spelled : (n : ℕ) → IsColonHex (ip_text (V6 n)) (segments_of (to_be_bytes w128 n))
unfolding ip_text
v6_text_spelled n = IsColonHex-hex_groups_text (segments_of (to_be_bytes w128 n)) refl (groups_fit (to_be_bytes w128 n) (octets_fit 16 n))

pub v6_text_read : (n : ℕ) → IsGiven (V6 n) → v6_of (ip_text (V6 n)) ≡ Some (V6 n)
v6_text_read n given = v6_reads _ (segments_of (to_be_bytes w128 n)) (v6_text_spelled n) ∙ v6_given n given

pub ip_of-text : (ip : Ip) → IsGiven ip → ip_of (ip_text ip) ≡ Some ip
unfolding ip_of
ip_of-text (V4 n) fits = rw (v4_text_read n fits) refl
ip_of-text (V6 n) given = rw (not_v4 _ _ (v6_text_spelled n), v6_text_read n given) refl
