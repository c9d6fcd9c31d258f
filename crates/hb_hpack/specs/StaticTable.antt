-- The static table (RFC 7541 Appendix A).
use Rattle.std.specs.Prelude.{ℕ, List, [], ◌∷◌, codes}
use Rattle.hb_hpack.specs.declared.header.Header.{Header}

-- a header of these bytes
abbrev pub header : List ℕ → List ℕ → Header
header name value = record { name = name; value = value }

-- the headers of the static table, the one of index 1 first
unfoldable pub static_headers : List Header
static_headers =
    header (codes ":authority") (codes "") ∷
    header (codes ":method") (codes "GET") ∷
    header (codes ":method") (codes "POST") ∷
    header (codes ":path") (codes "/") ∷
    header (codes ":path") (codes "/index.html") ∷
    header (codes ":scheme") (codes "http") ∷
    header (codes ":scheme") (codes "https") ∷
    header (codes ":status") (codes "200") ∷
    header (codes ":status") (codes "204") ∷
    header (codes ":status") (codes "206") ∷
    header (codes ":status") (codes "304") ∷
    header (codes ":status") (codes "400") ∷
    header (codes ":status") (codes "404") ∷
    header (codes ":status") (codes "500") ∷
    header (codes "accept-charset") (codes "") ∷
    header (codes "accept-encoding") (codes "gzip, deflate") ∷
    header (codes "accept-language") (codes "") ∷
    header (codes "accept-ranges") (codes "") ∷
    header (codes "accept") (codes "") ∷
    header (codes "access-control-allow-origin") (codes "") ∷
    header (codes "age") (codes "") ∷
    header (codes "allow") (codes "") ∷
    header (codes "authorization") (codes "") ∷
    header (codes "cache-control") (codes "") ∷
    header (codes "content-disposition") (codes "") ∷
    header (codes "content-encoding") (codes "") ∷
    header (codes "content-language") (codes "") ∷
    header (codes "content-length") (codes "") ∷
    header (codes "content-location") (codes "") ∷
    header (codes "content-range") (codes "") ∷
    header (codes "content-type") (codes "") ∷
    header (codes "cookie") (codes "") ∷
    header (codes "date") (codes "") ∷
    header (codes "etag") (codes "") ∷
    header (codes "expect") (codes "") ∷
    header (codes "expires") (codes "") ∷
    header (codes "from") (codes "") ∷
    header (codes "host") (codes "") ∷
    header (codes "if-match") (codes "") ∷
    header (codes "if-modified-since") (codes "") ∷
    header (codes "if-none-match") (codes "") ∷
    header (codes "if-range") (codes "") ∷
    header (codes "if-unmodified-since") (codes "") ∷
    header (codes "last-modified") (codes "") ∷
    header (codes "link") (codes "") ∷
    header (codes "location") (codes "") ∷
    header (codes "max-forwards") (codes "") ∷
    header (codes "proxy-authenticate") (codes "") ∷
    header (codes "proxy-authorization") (codes "") ∷
    header (codes "range") (codes "") ∷
    header (codes "referer") (codes "") ∷
    header (codes "refresh") (codes "") ∷
    header (codes "retry-after") (codes "") ∷
    header (codes "server") (codes "") ∷
    header (codes "set-cookie") (codes "") ∷
    header (codes "strict-transport-security") (codes "") ∷
    header (codes "transfer-encoding") (codes "") ∷
    header (codes "user-agent") (codes "") ∷
    header (codes "vary") (codes "") ∷
    header (codes "via") (codes "") ∷
    header (codes "www-authenticate") (codes "") ∷
    []
