-- What the checker computes of each status: its representation is the encoder's of its header.
use Rattle.std.proofs.Common.{◌≡◌, ℕ, ◌+◌, ◌-◌, ◌<◌, ◌≤◌, Bool, true, List, refl, subst, arith}
use Rattle.std.specs.Str.{bytes_eq}
use Rattle.std.specs.Cmp.Lexicographic.{bytes_decides}
use Rattle.hb_hpack.specs.declared.header.Header.{Header}
use Rattle.hb_hpack.specs.declared.spelling.Spelling.TheVariants.{Plain}
use Rattle.hb_hpack.specs.StaticTable.{static_headers}
use Rattle.hb_base.specs.Groups.{groups_of}
use Rattle.hb_hpack.specs.Encoding.{header_of, status_header, status_of, index_from, string_of, integer_of, same_header, representation_of}
use Rattle.hb_hpack.proofs.CodeTable.{all_below, at_below}

abbrev is_status : List Header → ℕ → Bool
is_status table status =
    bytes_eq (representation_of (index_from (same_header (status_header status)) 1 table) Plain (status_header status)) (status_of status)

abbrev statuses_test : List Header → Bool
statuses_test table = all_below 900 (λ k. is_status table (100 + k))

statuses_hold : statuses_test static_headers ≡ true
unfolding all_below static_headers index_from string_of integer_of groups_of status_of
statuses_hold = refl

pub status_is : (status : ℕ) → 100 ≤ status → status < 1000 → header_of Plain (status_header status) ≡ status_of status
unfolding header_of
status_is status low high =
    let same : 100 + (status - 100) ≡ status = omega arith in
    let test = at_below 900 (λ k. is_status static_headers (100 + k)) statuses_hold (status - 100) (omega arith) in
    let test' : is_status static_headers status ≡ true = subst (λ k. is_status static_headers k ≡ true) same test in
    (bytes_decides _ _).0 test'
