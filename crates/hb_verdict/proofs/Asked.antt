-- What a request for a tunnel is, read off its answer.
use Rattle.std.proofs.Common.{◌≡◌, ℕ, Bool, true, false, not, cond, List, Option, Some, None, Result, Ok, Err, nat_lt, codes, refl, ap, subst, ◌∙◌}
use Rattle.std.proofs.lemmas.Bool.{ltb-false, le-ltb}
use Rattle.std.proofs.lemmas.Slice.Eq.{bytes_eq-Decides}
use Rattle.hb_base.specs.TargetText.{target_of}
use Rattle.hb_base.specs.declared.ip.Ip.{Ip}
use Rattle.hb_base.specs.declared.target.Target.{Target}
use Rattle.hb_base.specs.declared.target.BadTarget.{BadTarget}
use Rattle.hb_held.specs.Lookup.{ip_eq}
use Rattle.hb_verdict.specs.Fields.{value_of, is_tunnel, is_connect, is_malformed}
use Rattle.hb_verdict.specs.Request.{connect_at, connect_by, connect_to}
use Rattle.hb_verdict.specs.Laws.{here, TunnelsAreAskedFor, NoTunnelIsMissed, AsksSo, ElsewhereIsRefused}
use Rattle.hb_verdict.specs.declared.request.Request.{Request}
use Rattle.hb_verdict.specs.declared.request.Request.TheVariants.{Refused, Malformed, Connect}

-- the first of three tests that fails answers
abbrev chosen : Bool → Bool → Bool → Request → Request
chosen large malformed connect request =
    cond large (Refused 431) (cond malformed Malformed (cond (not connect) (Refused 405) request))

pass : (large malformed connect : Bool) (request : Request) (target : Target) → chosen large malformed connect request ≡ Connect target
    → (large ≡ false) × (malformed ≡ false) × (connect ≡ true) × (request ≡ Connect target)
pass true malformed connect request target is = absurd cc
pass false true connect request target is = absurd cc
pass false false false request target is = absurd cc
pass false false true request target is = (refl, refl, refl, is)

passed : (large malformed connect : Bool) (request : Request) → large ≡ false → malformed ≡ false → connect ≡ true
    → chosen large malformed connect request ≡ request
passed true malformed connect request small formed tunnel = absurd cc
passed false true connect request small formed tunnel = absurd cc
passed false false false request small formed tunnel = absurd cc
passed false false true request small formed tunnel = refl

tunnel : (method : Option (List ℕ)) → is_tunnel method ≡ true → method ≡ Some (codes "CONNECT")
tunnel None is = absurd cc
tunnel (Some method) is = ap Some ((bytes_eq-Decides method (codes "CONNECT")).0 is)

at_once : (here : Bool) (target other : Target) → cond here (Connect target) (Refused 400) ≡ Connect other
    → (here ≡ true) × (target ≡ other)
at_once true target other is = (refl, cc)
at_once false target other is = absurd cc

-- a text that is a target at this address
record Names (destination : Ip) (text : List ℕ) (target : Target) : Type 0 where
  is : target_of text ≡ Ok target
  here : ip_eq target.ip destination ≡ true

named_at : (destination : Ip) (text : List ℕ) (target : Target) (answer : Result Target BadTarget) → target_of text ≡ answer
    → connect_at destination answer ≡ Connect target → Names destination text target
named_at destination text target (Err why) is asks = absurd cc
named_at destination text target (Ok other) is asks =
    let both = at_once (ip_eq other.ip destination) other target asks in
    subst (Names destination text) both.1 (record { is = is; here = both.0 })

named : (destination : Ip) (target : Target) (authority : Option (List ℕ)) → connect_by destination authority ≡ Connect target
    → (text : List ℕ) × (authority ≡ Some text) × Names destination text target
named destination target None is = absurd cc
named destination target (Some text) is = (text, refl, named_at destination text target (target_of text) refl is)

pub asked_for : TunnelsAreAskedFor
asked_for headers destination target is =
    let (small, formed, method, connects) = pass (nat_lt 16384 headers.size) (is_malformed headers.kept) (is_connect headers.kept)
    (connect_to headers.kept destination) target is in
    let (text, stands, names) = named destination target (value_of (codes ":authority") headers.kept) connects in
    record {
      fits = ltb-false 16384 headers.size small;
      formed = formed;
      method = tunnel (value_of (codes ":method") headers.kept) method;
      authority = text;
      named = stands;
      text = names.is;
      here = names.here;
    }

connected : (destination : Ip) (target : Target) (text : List ℕ) (authority : Option (List ℕ)) → authority ≡ Some text
    → target_of text ≡ Ok target → ip_eq target.ip destination ≡ true → connect_by destination authority ≡ Connect target
connected destination target text authority stands is here =
    ap (connect_by destination) stands ∙ ap (connect_at destination) is ∙ ap (λ b. cond b (Connect target) (Refused 400)) here

pub none_missed : NoTunnelIsMissed
none_missed headers destination target asks =
    passed (nat_lt 16384 headers.size) (is_malformed headers.kept) (is_connect headers.kept) (connect_to headers.kept destination)
    (le-ltb 16384 headers.size asks.fits) asks.formed (ap is_tunnel asks.method)
    ∙ connected destination target asks.authority (value_of (codes ":authority") headers.kept) asks.named asks.text asks.here

pub asks_so : AsksSo
asks_so text target is at = connected here target text (Some text) refl is at

pub elsewhere : ElsewhereIsRefused
elsewhere text target is at = ap (connect_at here) is ∙ ap (λ b. cond b (Connect target) (Refused 400)) at
