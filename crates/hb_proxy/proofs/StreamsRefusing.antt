-- What steps of links to gateways, and of their tunnels, are refused.
use Rattle.std.proofs.Common.{◌≡◌, ℕ, ◌&&◌, Bool, true, false, List, [], refl, ap, sym, ◌∙◌, subst}
use Rattle.std.proofs.lemmas.Bool.{false≢true}
use Rattle.hb_base.specs.declared.target.Target.{Target}
use Rattle.hb_captured.specs.Answer.{through}
use Rattle.hb_gateway.specs.Gateway.{carries, has_room}
use Rattle.hb_gateway.specs.Key.{Key}
use Rattle.hb_gateway.specs.Part as gateway
use Rattle.hb_world.specs.declared.entry.Entry.TheVariants as e
use Rattle.hb_proxy.specs.Owners.{nobody, gateway_link}
use Rattle.hb_proxy.specs.Points.{of_gate}
use Rattle.hb_proxy.specs.Runs.{IfThrough, NoneOffers}
use Rattle.hb_proxy.specs.StreamsRefused.{AsksRoomless, AsksBehind, SharesKeys, AsksEnded, AsksLater, AsksElsewhere}
use Rattle.hb_proxy.specs.StreamsRefused.{DialsBeside, RefusesBeside, DialsForStraight, TakesAlone, DropsAlone}
use Rattle.hb_proxy.specs.StreamsRefused.{TellsAnother, PutsOther, ReadsUndialled}

-- each side of what is so of both
left_so : (a b : Bool) → (a && b) ≡ true → a ≡ true
left_so true b is = refl
left_so false b is = is

right_so : (a b : Bool) → (a && b) ≡ true → b ≡ true
right_so true b is = is
right_so false b is = absurd (false≢true is)

pub asks_roomless : AsksRoomless
asks_roomless g x y l n s authority none steps =
    false≢true (sym none ∙ right_so (carries (x.gates n).phase) (has_room (x.gates n)) steps.2.0)

pub asks_behind : AsksBehind
asks_behind g x y l n s authority away steps =
    false≢true (sym (ap (λ (b : Bool). has_room (record (x.gates n) { away = b })) away)
    ∙ right_so (carries (x.gates n).phase) (has_room (x.gates n)) steps.2.0)

-- two ways by a gateway that are one
same_key : (key other : Key) (authority to : Target) (endpoint name : List ℕ)
    → through key authority endpoint ≡ through other to name → key ≡ other
same_key key other authority to endpoint name is = cc

same_authority : (key other : Key) (authority to : Target) (endpoint name : List ℕ)
    → through key authority endpoint ≡ through other to name → authority ≡ to
same_authority key other authority to endpoint name is = cc

pub shares_keys : SharesKeys
shares_keys g x y l n s key authority other endpoint aim apart steps =
    apart (sym (same_key key (x.gates n).key authority other endpoint steps.3.endpoint (sym aim ∙ steps.3.aim)))

pub asks_ended : AsksEnded
asks_ended g x y l n s authority why is steps =
    false≢true (ap carries (sym is) ∙ left_so (carries (x.gates n).phase) (has_room (x.gates n)) steps.2.0)

pub asks_later : AsksLater
asks_later g x y l k n s authority less same offers steps = false≢true (sym (steps.3.first k less same) ∙ offers)

pub asks_elsewhere : AsksElsewhere
asks_elsewhere g x y l n s key authority other endpoint aim apart steps =
    apart (same_authority key (x.gates n).key authority other endpoint steps.3.endpoint (sym aim ∙ steps.3.aim))

pub dials_beside : DialsBeside
dials_beside g x y a k n to key same offers steps = false≢true (sym (steps.2.1.none k same) ∙ offers)

pub refuses_beside : RefusesBeside
refuses_beside g x y a k key keyed same offers steps =
    let none = subst (λ (found : _). IfThrough found (NoneOffers x)) keyed steps.1.0 in false≢true (sym (none k same) ∙ offers)

pub dials_for_straight : DialsForStraight
dials_for_straight g x y a n to key straight steps = straight steps.2.1.keyed

pub takes_alone : TakesAlone
takes_alone g x y l begun heard steps = steps.1

pub drops_alone : DropsAlone
drops_alone g x y n s begun steps = steps.2

pub tells_another : TellsAnother
tells_another g x y l n s begun heard apart steps = apart steps.3.gate

pub puts_other : PutsOther
puts_other g x y l n s count bytes apart steps = apart steps.3.1

pub reads_undialled : ReadsUndialled
reads_undialled n bytes law =
    let mine : nobody ≡ gateway_link = (law [] (of_gate n (gateway.entry (e.Came n bytes))) [] refl).1 in cc
