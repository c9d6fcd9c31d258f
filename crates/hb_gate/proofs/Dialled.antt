-- A link that is born.
use Rattle.std.proofs.Common.{◌≡◌, inl, ℕ, ◌≤◌, false, IsSome, is_some, Option, None, nat_cmp, refl, ap, sym, ◌∙◌, subst}
use Rattle.std.proofs.lemmas.Bool.{false≢true}
use Rattle.std.specs.FinMap.{get, empty, get-empty}
use Rattle.hb_conn.specs.Connection.{fresh_client}
use Rattle.hb_frames.specs.Numbers.{largest}
use Rattle.hb_kept.proofs.Kept.{new_is_kept}
use Rattle.hb_streams.specs.declared.role.Role.TheVariants.{Client}
use Rattle.hb_gateway.specs.Gateway.{Gateway, no_link}
use Rattle.hb_gateway.specs.Gateway as m
use Rattle.hb_gateway.specs.Key.{Key, front_of}
use Rattle.hb_gateway.specs.Keys.{key_as}
use Rattle.hb_gateway.specs.Response as r
use Rattle.hb_gate.specs.Calls.{Begins}
use Rattle.hb_gate.specs.Phases.{phase_of}
use Rattle.hb_gate.specs.Shows.{Shows, ShowsStream}
use Rattle.hb_gate.specs.Streams.{Map}
use Rattle.hb_gate.specs.declared.gate.Gate.{Gate}
use Rattle.hb_gate.specs.declared.phase.Phase.TheVariants.{Opening}
use Rattle.hb_gate.specs.declared.stream.Stream.{Stream}

module _ (streams : Map) (is : streams ≡ empty) where
  none_there : (s : ℕ) → get streams s ≡ None
  none_there s = ap (λ (map : Map). get map s) is ∙ get-empty nat_cmp s

  pub none_shown : (x : m.Stream) → x.stage ≡ r.unused → x.mail ≡ None → (s : ℕ) → ShowsStream (get streams s) x
  none_shown x unused mail s = subst (λ (o : Option Stream). ShowsStream o x) (sym (none_there s)) (inl unused, mail)

  pub none_numbered : (s : ℕ) → IsSome (get streams s) → s ≤ largest
  none_numbered s some = absurd (false≢true (sym (ap is_some (none_there s)) ∙ some))

pub begins : (n : ℕ) (key : Key) (k : Gate) → key ≡ key_as k.key → k.phase ≡ Opening → k.front ≡ front_of key → k.conn ≡ fresh_client
    → k.streams ≡ empty → k.away ≡ false → Begins n key k
begins n key k key_is phase front conn streams away call y step =
    subst (Shows k) (sym step.1) (record {
      key = key_is;
      phase = sym (ap phase_of phase);
      way = (sym conn, new_is_kept Client, sym front);
      away = sym away;
      streams = λ s. none_shown k.streams streams m.no_stream refl refl s;
      numbered = none_numbered k.streams streams;
    })
