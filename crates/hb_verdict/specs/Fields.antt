-- Which headers are a request (RFC 9113 sections 8.1.1, 8.2.1, 8.3 and 8.5).
use Rattle.std.specs.Prelude.{ℕ, Bool, false, not, ◌&&◌, ◌||◌, if◌then◌else◌, nat_le, nat_eq, bytes_eq, length, ◌==◌, List, [], ◌∷◌, Option, Some, None, codes}
use Rattle.std.specs.List.{list_any, starts_with}
use Rattle.hb_hpack.specs.declared.header.Header.{Header}

-- a name that no header may have: it is empty, or has an upper-case letter
abbrev pub is_upper_case : ℕ → Bool
is_upper_case b = nat_le 65 b && nat_le b 90

abbrev pub is_bad_name : List ℕ → Bool
is_bad_name name = length name == 0 || list_any is_upper_case name

-- the names of pseudo-headers begin with a colon; requests have four of them
abbrev pub is_pseudo : List ℕ → Bool
is_pseudo name = starts_with nat_eq name (codes ":")

abbrev pub is_of_requests : List ℕ → Bool
is_of_requests name =
    bytes_eq name (codes ":method") || bytes_eq name (codes ":scheme") || bytes_eq name (codes ":authority")
    || bytes_eq name (codes ":path")

abbrev pub is_unknown : List ℕ → Bool
is_unknown name = is_pseudo name && not (is_of_requests name)

abbrev pub has_bad_name : List Header → Bool
has_bad_name headers = list_any (λ h. is_bad_name h.name || is_unknown h.name) headers

-- a header has this name, and the value of the first of them
abbrev pub has : List ℕ → List Header → Bool
has name headers = list_any (λ h. bytes_eq h.name name) headers

abbrev pub value_of : List ℕ → List Header → Option (List ℕ)
value_of name [] = None
value_of name (h ∷ hs) = if bytes_eq h.name name then Some h.value else value_of name hs

-- two headers have this name
abbrev pub stands_twice : List ℕ → List Header → Bool
stands_twice name [] = false
stands_twice name (h ∷ hs) = if bytes_eq h.name name then has name hs else stands_twice name hs

abbrev pub repeats : List Header → Bool
repeats headers =
    stands_twice (codes ":method") headers || stands_twice (codes ":scheme") headers
    || stands_twice (codes ":authority") headers || stands_twice (codes ":path") headers

-- a pseudo-header stands behind another header
abbrev pub is_late : List Header → Bool
is_late [] = false
is_late (h ∷ hs) = if is_pseudo h.name then is_late hs else list_any (λ other. is_pseudo other.name) hs

-- the method asks for a tunnel; then the authority names the target, and nothing else does
abbrev pub is_tunnel : Option (List ℕ) → Bool
is_tunnel None = false
is_tunnel (Some method) = bytes_eq method (codes "CONNECT")

abbrev pub is_connect : List Header → Bool
is_connect headers = is_tunnel (value_of (codes ":method") headers)

abbrev pub names_target : List Header → Bool
names_target headers =
    has (codes ":authority") headers && not (has (codes ":scheme") headers) && not (has (codes ":path") headers)

-- the headers are no request
abbrev pub is_malformed : List Header → Bool
is_malformed headers =
    has_bad_name headers || is_late headers || repeats headers || not (has (codes ":method") headers)
    || is_connect headers && not (names_target headers)
