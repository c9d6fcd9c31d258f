use Rattle.std.specs.Prelude.{◌≡◌, ℕ, ◌≤◌, min, pos, Option, Some, None, IsSome, Result, Ok, refl}
use Rattle.std.specs.Coded.{Coded, code_by, coded×, coded_ℕ}
use Rattle.std.specs.Ordering.{nat_cmp}
use Rattle.std.specs.FinMap.{FinMap, code, empty, get, insert, remove}
use Rattle.hb_map.specs.Keyed.{written}
use Rattle.hb_windows.specs.Sending.{Sending}
use Rattle.hb_windows.specs.Taking.{Taking}
use Rattle.hb_windows.specs.declared.overrun.Overrun.{Overrun}
use Rattle.hb_flow.specs.Windows.{Windows, first_size, whole_sending, whole_taking, room, counted, less, more, taken, owing, due_of, paid_of}
use Rattle.hb_flow.specs.Answers.{Rises, Comes}

-- the windows of a connection
pub record Flows : Type 0 where
  -- the connection's own two
  pub sending : Sending
  pub taking : Taking
  -- the peer's SETTINGS_INITIAL_WINDOW_SIZE
  pub initial : ℕ
  -- those of each stream that has windows
  pub streams : FinMap nat_cmp Windows

-- the windows are stored as their fields
abbrev pub flows_code : Coded Sending → Coded Taking → Coded Windows → Coded Flows
flows_code sending taking windows =
    code_by ((Sending × Taking) × (ℕ × FinMap nat_cmp Windows))
    (coded× (coded× sending taking) (coded× coded_ℕ (code {R = nat_cmp} coded_ℕ windows)))
    (λ f. ((f.sending, f.taking), (f.initial, f.streams)))
    (λ p. record { sending = p.0.0; taking = p.0.1; initial = p.1.0; streams = p.1.1 })
    (λ _. refl)

-- a new connection
abbrev pub fresh : Flows
fresh = record { sending = whole_sending first_size; taking = whole_taking; initial = first_size; streams = empty }

-- streams have numbers of 32 bits
unfoldable pub AreNumbered : FinMap nat_cmp Windows → Type 0
AreNumbered streams = (n : ℕ) → IsSome (get streams n) → n ≤ 4294967295

-- the windows of a new stream
abbrev pub new_windows : ℕ → Windows
new_windows initial = record { sending = whole_sending initial; taking = whole_taking }

-- the stream n gets windows, in place of any that it had
abbrev pub opened : Flows → ℕ → Flows
opened f n = record f { streams = insert f.streams n (new_windows f.initial) }

-- the stream n has none from now on
abbrev pub closed : Flows → ℕ → Flows
closed f n = record f { streams = remove f.streams n }

-- so, where these are the windows of the stream n
abbrev pub changed_by : Flows → ℕ → (Windows → Windows) → Option Windows → Flows
changed_by f n change None = f
changed_by f n change (Some w) = record f { streams = written f.streams n (change w) }

-- the windows of the stream n change so, where it has any
abbrev pub changed : Flows → ℕ → (Windows → Windows) → Flows
changed f n change = changed_by f n change (get f.streams n)

-- a change of the sending window of a stream, and of its taking window
abbrev pub sending_by : (Sending → Sending) → Windows → Windows
sending_by change w = record w { sending = change w.sending }

abbrev pub taking_by : (Taking → Taking) → Windows → Windows
taking_by change w = record w { taking = change w.taking }

-- how many octets of DATA may be sent on a stream with these windows: the lesser of what its window and the
-- connection's let go
abbrev pub sendable_by : Flows → Option Windows → ℕ
sendable_by f None = 0
sendable_by f (Some w) = min (room f.sending) (room w.sending)

-- and on the stream n
abbrev pub sendable : Flows → ℕ → ℕ
sendable f n = sendable_by f (get f.streams n)

-- k octets of DATA are sent on the stream n
abbrev pub spent : Flows → ℕ → ℕ → Flows
spent f n k = record (changed f n (sending_by (λ w. less w k))) { sending = less f.sending k }

-- k octets of DATA on the stream n are taken back
abbrev pub given_back : Flows → ℕ → ℕ → Flows
given_back f n k = record (changed f n (sending_by (λ w. more w k))) { sending = more f.sending k }

-- a WINDOW_UPDATE of k octets on the connection, and on the stream n
abbrev pub granted : Flows → ℕ → Flows
granted f k = record f { sending = more f.sending k }

abbrev pub granted_on : Flows → ℕ → ℕ → Flows
granted_on f n k = changed f n (sending_by (λ w. more w k))

-- DATA of k octets against the connection's window, and against that of the stream n
abbrev pub took : Flows → ℕ → Flows
took f k = record f { taking = taken f.taking k }

abbrev pub took_on : Flows → ℕ → ℕ → Flows
took_on f n k = changed f n (taking_by (λ w. taken w k))

-- k octets that came are used up, of the connection's and of the stream n
abbrev pub owed : Flows → ℕ → Flows
owed f k = record f { taking = owing f.taking k }

abbrev pub owed_on : Flows → ℕ → ℕ → Flows
owed_on f n k = changed f n (taking_by (λ w. owing w k))

-- what is owed is granted again, on the connection and on the stream n
abbrev pub paid : Flows → Flows
paid f = record f { taking = paid_of f.taking }

abbrev pub paid_on : Flows → ℕ → Flows
paid_on f n = changed f n (taking_by paid_of)

-- the increment to grant now on a stream with these windows
abbrev pub due_by : Option Windows → Option ℕ
due_by None = None
due_by (Some w) = due_of w.taking

-- the increment to grant now on the stream n
abbrev pub due_on : Flows → ℕ → Option ℕ
due_on f n = due_by (get f.streams n)

-- the octets that came on a stream with these windows and aren't used up
abbrev pub creditable_by : Option Windows → ℕ
creditable_by None = 0
creditable_by (Some w) = w.taking.kept

-- and on the stream n
abbrev pub creditable : Flows → ℕ → ℕ
creditable f n = creditable_by (get f.streams n)

-- a WINDOW_UPDATE of k octets on the stream n, of whose DATA so much hasn't begun
abbrev pub GrantsOn : Flows → Flows → Result Unit Overrun → ℕ → ℕ → ℕ → Option Windows → Type 0
GrantsOn old new result n k unbegun None = (result ≡ Ok tt) × (new ≡ old)
GrantsOn old new result n k unbegun (Some w) =
    Rises old new result (granted_on old n k) (counted w.sending unbegun) (pos k)

-- DATA of k octets on the stream n
abbrev pub TakesOn : Flows → Flows → Result Unit Overrun → ℕ → ℕ → Option Windows → Type 0
TakesOn old new result n k None = (result ≡ Ok tt) × (new ≡ old)
TakesOn old new result n k (Some w) = Comes old new result (took_on old n k) w.taking.granted k
