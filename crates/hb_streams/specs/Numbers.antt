use Rattle.std.specs.Prelude.{ℕ, Bool, ◌+◌, ◌%◌, ◌==◌}

-- the most streams that are open or half-closed at a time (RFC 9113 section 5.1.2)
abbrev pub most_active : ℕ
most_active = 100

-- how many of the streams that this end reset are remembered (RFC 9113 section 5.1, "closed")
abbrev pub most_resets : ℕ
most_resets = 128

-- a client's streams have odd numbers, a server's have even ones (RFC 9113 section 5.1.1)
abbrev pub is_even : ℕ → Bool
is_even n = n % 2 == 0

-- the least odd number above n
abbrev pub next_odd : ℕ → ℕ
next_odd n = n + 1 + n % 2
