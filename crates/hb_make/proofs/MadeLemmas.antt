-- Each line of a made script can be read: its links are numbers of links, and its pieces are octets.
use Rattle.std.proofs.Common.{◌≡◌, ℕ, zero, suc, ◌+◌, ◌*◌, ◌/◌, ◌%◌, ◌≤◌, ◌<◌, ◌^◌, ◌==◌, Bool, true, false}
use Rattle.std.proofs.Common.{List, [], ◌∷◌, ◌++◌, length, replicate, codes, refl, ap, arith}
use Rattle.std.specs.Prelude.{nat_lt, if◌then◌else◌, Ok}
use Rattle.std.specs.List.{All, list_all}
use Rattle.std.proofs.lemmas.Bool.{and_parts}
use Rattle.std.proofs.lemmas.Bool.Decides.{nat_tests}
use Rattle.std.proofs.lemmas.List.{length-append, length-replicate}
use Rattle.std.proofs.lemmas.List.Elements.{All-nil, All-cons, All-append}
use Rattle.hb_base.specs.declared.door.Door.TheVariants.{Inbound}
use Rattle.hb_frames.specs.Numbers.{first_frame_size}
use Rattle.hb_script.specs.Spelling.{CanBeRead, lines_text}
use Rattle.hb_script.specs.Script.{lines}
use Rattle.hb_script.proofs.SpellingLemmas.{lines-lines_text}
use Rattle.hb_base.specs.Groups.{groups_of}
use Rattle.hb_world.specs.declared.line.Line.{Line}
use Rattle.hb_world.specs.declared.line.Line.TheVariants.{Accept, Open, Piece, Wake}
use Rattle.hex.specs.Hex.{IsBytes}
use Rattle.hb_make.specs.Made.{base, opening, tunnel, tunnels, update, made}
use Rattle.hb_make.specs.Octets.{answered, workloads, policies, changed_policies, data_frame, marks}
use Rattle.hb_make.specs.Octets.{front, preface, settings_frame, connect}

abbrev is_byte : ℕ → Bool
is_byte b = nat_lt b 256

nil_bytes : IsBytes []
nil_bytes zero = omega arith
nil_bytes (suc i) = omega arith

cons_bytes : (b : ℕ) (rest : List ℕ) → b < 256 → IsBytes rest → IsBytes (b ∷ rest)
cons_bytes b rest h hs zero = h
cons_bytes b rest h hs (suc i) = hs i

-- a literal
bytes_test : (xs : List ℕ) → list_all is_byte xs ≡ true → IsBytes xs
bytes_test [] e = nil_bytes
bytes_test (x ∷ xs) e =
    let p : (is_byte x ≡ true) × (list_all is_byte xs ≡ true) = and_parts (is_byte x) (list_all is_byte xs) e in
    let here : nat_lt x 256 ≡ true = p.0 in
    cons_bytes x xs (grind (arith, nat_tests, here)) (bytes_test xs p.1)

append_bytes : (xs ys : List ℕ) → IsBytes xs → IsBytes ys → IsBytes (xs ++ ys)
append_bytes [] ys hx hy = hy
append_bytes (x ∷ xs) ys hx hy = cons_bytes x (xs ++ ys) (hx 0) (append_bytes xs ys (λ i. hx (suc i)) hy)

marks_bytes : (n : ℕ) → IsBytes (replicate n 97)
marks_bytes zero = nil_bytes
marks_bytes (suc n) = cons_bytes 97 (replicate n 97) (omega arith) (marks_bytes n)

-- a DATA frame of at most 16,384 octets
frame_bytes : (xs : List ℕ) → length xs ≤ first_frame_size → IsBytes xs → IsBytes (data_frame xs)
unfolding data_frame
frame_bytes xs short h =
    let n : ℕ = length xs in
    let front : List ℕ = 0 ∷ 0 ∷ 0 ∷ 0 ∷ 0 ∷ 1 ∷ [] in
    let high : n / 65536 < 256 = omega (arith, short) in
    let middle : n / 256 % 256 < 256 = omega arith in
    let low : n % 256 < 256 = omega arith in
    cons_bytes (n / 65536) (n / 256 % 256 ∷ n % 256 ∷ front ++ xs) high
    (cons_bytes (n / 256 % 256) (n % 256 ∷ front ++ xs) middle
    (cons_bytes (n % 256) (front ++ xs) low (append_bytes front xs (bytes_test front refl) h)))

frame_some : (xs : List ℕ) → 0 < length (data_frame xs)
unfolding data_frame
frame_some xs = omega arith

answered_bytes : IsBytes answered
unfolding answered
answered_bytes = bytes_test answered refl

answered_some : 0 < length answered
unfolding answered
answered_some = omega arith

workloads_bytes : IsBytes (data_frame workloads)
unfolding data_frame workloads groups_of
workloads_bytes = bytes_test (data_frame workloads) refl

policies_bytes : IsBytes (data_frame policies)
unfolding data_frame policies groups_of
policies_bytes = bytes_test (data_frame policies) refl

changed_bytes : IsBytes (data_frame changed_policies)
unfolding data_frame changed_policies groups_of
changed_bytes = bytes_test (data_frame changed_policies) refl

opening_of : (odd : Bool)
    → IsBytes (front ++ preface ++ settings_frame ++ connect (if odd then codes "10.0.0.7:8080" else codes "10.0.0.7:9090"))
unfolding front preface connect
opening_of true = bytes_test (front ++ preface ++ settings_frame ++ connect (codes "10.0.0.7:8080")) refl
opening_of false = bytes_test (front ++ preface ++ settings_frame ++ connect (codes "10.0.0.7:9090")) refl

opening_bytes : (i : ℕ) → IsBytes (opening i)
unfolding opening
opening_bytes i = opening_of (i % 2 == 1)

opening_some : (i : ℕ) → 0 < length (opening i)
unfolding opening front
opening_some i = omega arith

piece_read : (link : ℕ) (xs : List ℕ) → 1 ≤ link → link < 2 ^ 63 → 0 < length xs → IsBytes xs → CanBeRead (Piece link xs)
piece_read link xs low high some octets = ((low, high), some, octets)

-- a line and the wake behind it
woken : (line : Line) (later : List Line) → CanBeRead line → All CanBeRead later → All CanBeRead (line ∷ Wake ∷ later)
woken line later here all = All-cons CanBeRead line (Wake ∷ later) here (All-cons CanBeRead Wake later tt all)

base_read : All CanBeRead base
base_read =
    let fourth : List Line = Piece 1 (data_frame policies) ∷ Wake ∷ [] in
    let third : List Line = Piece 1 (data_frame workloads) ∷ Wake ∷ fourth in
    let second : List Line = Piece 1 answered ∷ Wake ∷ third in
    woken (Open 1) second (omega arith, omega arith)
    (woken (Piece 1 answered) third (piece_read 1 answered (omega arith) (omega arith) answered_some answered_bytes)
    (woken (Piece 1 (data_frame workloads)) fourth
    (piece_read 1 (data_frame workloads) (omega arith) (omega arith) (frame_some workloads) workloads_bytes)
    (woken (Piece 1 (data_frame policies)) []
    (piece_read 1 (data_frame policies) (omega arith) (omega arith) (frame_some policies) policies_bytes)
    (All-nil CanBeRead))))

update_read : All CanBeRead update
update_read =
    woken (Piece 1 (data_frame changed_policies)) []
    (piece_read 1 (data_frame changed_policies) (omega arith) (omega arith) (frame_some changed_policies) changed_bytes)
    (All-nil CanBeRead)

tunnel_read : (i : ℕ) → 1 ≤ i → i ≤ first_frame_size → All CanBeRead (tunnel i)
tunnel_read i low high =
    let short : length (marks i) ≤ first_frame_size = omega (arith, length-replicate {A = ℕ} i 97, high) in
    let fourth : List Line = Piece (2 * i + 1) (codes "abc") ∷ Wake ∷ [] in
    let third : List Line = Piece (2 * i) (data_frame (marks i)) ∷ Wake ∷ fourth in
    let second : List Line = Open (2 * i + 1) ∷ Wake ∷ third in
    All-cons CanBeRead (Accept Inbound) (Piece (2 * i) (opening i) ∷ Wake ∷ second) tt
    (woken (Piece (2 * i) (opening i)) second
    (piece_read (2 * i) (opening i) (omega (arith, low)) (omega (arith, high)) (opening_some i) (opening_bytes i))
    (woken (Open (2 * i + 1)) third (omega arith, omega (arith, high))
    (woken (Piece (2 * i) (data_frame (marks i))) fourth
    (piece_read (2 * i) (data_frame (marks i)) (omega (arith, low)) (omega (arith, high)) (frame_some (marks i))
    (frame_bytes (marks i) short (marks_bytes i)))
    (woken (Piece (2 * i + 1) (codes "abc")) []
    (piece_read (2 * i + 1) (codes "abc") (omega arith) (omega (arith, high)) (omega arith) (bytes_test (codes "abc") refl))
    (All-nil CanBeRead)))))

tunnels_read : (n : ℕ) → n ≤ first_frame_size → All CanBeRead (tunnels n)
tunnels_read zero high = All-nil CanBeRead
tunnels_read (suc n) high =
    All-append CanBeRead (tunnels n) (tunnel (n + 1)) (tunnels_read n (omega (arith, high)))
    (tunnel_read (n + 1) (omega arith) (omega (arith, high)))

made_read : (n : ℕ) → n ≤ first_frame_size → All CanBeRead (made n)
made_read n high =
    All-append CanBeRead base (tunnels n ++ update) base_read
    (All-append CanBeRead (tunnels n) update (tunnels_read n high) update_read)

-- the text of a made script is read as its lines
pub made_read_back : (n : ℕ) → n ≤ first_frame_size → lines (lines_text (made n)) ≡ Ok (made n)
made_read_back n high = lines-lines_text (made n) (made_read n high)

tunnels_length : (n : ℕ) → length (tunnels n) ≡ 9 * n
tunnels_length zero = refl
tunnels_length (suc n) = omega (arith, length-append (tunnels n) (tunnel (n + 1)), tunnels_length n)

-- ten lines, and nine for each tunnel
pub made_length : (n : ℕ) → length (made n) ≡ 10 + 9 * n
made_length n = omega (arith, length-append (tunnels n) update, tunnels_length n)

pub lacks_update : (n : ℕ) → base ++ tunnels n ≡ made n → ⊥
lacks_update n e =
    let m : length (base ++ tunnels n) ≡ length (made n) = ap length e in
    omega (arith, m, made_length n, tunnels_length n)
