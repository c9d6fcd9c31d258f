-- What may not come on a link's stream, links that are shown there, and whether bytes wait there.
use Rattle.std.proofs.Common.{◌≡◌, ℕ, ◌<◌, ◌≤◌, ◌-◌, ◌^◌, List, [], ◌∷◌, length, Option, Some, None, IsSome, refl, ap, sym, ◌∙◌, arith, length-append}
use Rattle.std.proofs.lemmas.Bool.{false≢true}
use Rattle.hb_gateway.specs.Key.{Key}
use Rattle.hb_captured.specs.Captured as m
use Rattle.hb_captured.specs.Runs.{AreFirst, counted}
use Rattle.hb_relay.specs.StreamRefused.{AsksUnwanted, LacksUnwanted, AsksTwice, HearsUnasked, BringsEarly, PutsOther, FinishesEarly, CreditsMore, CompletesEarly, StreamIsShown, HoldsThere, FindsBytesInNone, MissesByte, BytesAreFound, by_gateway, lives_there, done_there, waits_there}
use Rattle.hb_relay.specs.Shows.{Shows}
use Rattle.hb_relay.specs.declared.relay.Relay.{Relay}
use Rattle.hb_relay.proofs.Reached.{goes_on, shows_so, upstream_at, raw_so}
use Rattle.hb_relay.proofs.Streaming.{brings_at}

keyless : (key : Option Key) → key ≡ None → IsSome key → ⊥
keyless None is some = false≢true some
keyless (Some key) is some = (cc)

pub asks_unwanted : AsksUnwanted
asks_unwanted g s l k a shows none may = keyless _ (none a.link shows may.0) may.1

pub lacks_unwanted : LacksUnwanted
lacks_unwanted l k a shows none may = keyless _ (none a.link shows may.0) may.1

pub asks_twice : AsksTwice
asks_twice g s at l k a shows has may =
    false≢true (sym (has a.link shows).0 ∙ raw_so a.link (upstream_at k a.link shows m.due may.0).1)

pub hears_unasked : HearsUnasked
hears_unasked heard n l k a shows has may = false≢true (sym may.0 ∙ has a.link shows)

pub brings_early : BringsEarly
brings_early bytes n l k a shows lives may =
    false≢true ((lives a.link shows).1 (may.0, (brings_at bytes a.link a.link.stage may.1).0))

-- bytes that are the first of none
none_first : (bytes held : List ℕ) → [] ≡ held → AreFirst bytes held → ⊥
none_first bytes held none is = omega (arith, is.0, ap length none, ap length is.1.1, length-append bytes is.1.0)

pub puts_other : PutsOther
puts_other bytes l k a shows waits may = none_first bytes a.link.ways.up.held (waits a.link shows) may.1

pub finishes_early : FinishesEarly
finishes_early l k a shows never may = false≢true ((never a.link shows).1 may)

owed_more : (n m owed : ℕ) → n ≡ counted owed → n < m → n < 2 ^ 64 - 1 → m ≤ owed → ⊥
owed_more n m owed is less small most = omega (arith, is, less, small, most)

pub credits_more : CreditsMore
credits_more n m less small l k a shows owes may = owed_more n m a.link.owed (owes a.link shows) less small may.2

pub completes_early : CompletesEarly
completes_early n made l k a shows never may = false≢true ((never a.link shows).1 (may.0, may.1, may.2))

pub stream_is_shown : StreamIsShown
stream_is_shown = record {
  asked = λ k key authority endpoint g s some is.
      shows_so k (by_gateway key authority endpoint g s) (sym is) (tt, (refl, some)) (λ on. absurd (cc));
  lives = λ k key authority endpoint g s some is.
      shows_so k (lives_there (by_gateway key authority endpoint g s)) (sym is)
      (goes_on (lives_there (by_gateway key authority endpoint g s)) refl, (refl, some)) (λ on. absurd (cc));
  done = λ k key authority endpoint g s is.
      shows_so k (done_there (by_gateway key authority endpoint g s)) (sym is) (refl, tt) (λ on. absurd (cc));
}

-- WHETHER BYTES WAIT FOR IT

-- a link that lives there shows one of the machine, and of each that it shows these bytes wait
module _ (bytes : List ℕ) (s : ℕ) (k : Relay) (is : HoldsThere bytes s k) where
  abbrev pub held_there : m.Captured
  held_there = waits_there bytes (by_gateway is.key is.authority is.endpoint is.gate s)

  pub holds_shown : Shows k held_there
  holds_shown = shows_so k held_there (sym is.same) (goes_on held_there refl, (refl, is.some)) (λ on. absurd (cc))

  pub held_shown : (x : m.Captured) → Shows k x → x.ways.up.held ≡ bytes
  held_shown x shows = ap (λ (y : m.Captured). y.ways.up.held) (shows.same ∙ is.same)

pub finds_bytes_in_none : FindsBytesInNone
finds_bytes_in_none s k is says =
    let some : 0 < 0 = (says (held_there [] s k is) (holds_shown [] s k is)).0 refl in omega (arith, some)

pub misses_byte : MissesByte
misses_byte s byte k is says =
    false≢true ((says (held_there (byte ∷ []) s k is) (holds_shown (byte ∷ []) s k is)).1 (omega arith))

pub bytes_are_found : BytesAreFound
bytes_are_found = record {
  none = λ s k is x shows. (
    λ some. absurd (false≢true some),
    λ some. absurd (let none = ap length (held_shown [] s k is x shows) in omega (arith, none, some)),
  );
  one = λ s byte k is x shows. (
    λ some. (let one = ap length (held_shown (byte ∷ []) s k is x shows) in omega (arith, one)),
    λ some. refl,
  );
}
