-- Small runs that the laws of links to gateways, of ways and of rings refuse, and some that they let, proved.
use Rattle.std.proofs.Common.{◌≡◌, ℕ, ◌-◌, ◌≤◌, ◌==◌, ◌&&◌, Bool, true, false, cond, List, [], ◌∷◌, ◌++◌, length, drop, Option, Some, None, refl, ap, sym, ◌∙◌, subst, arith, length-drop}
use Rattle.std.proofs.lemmas.List.{append-nil, append_assoc}
use Rattle.std.proofs.lemmas.Slice.Eq.{bytes_eq-Decides}
use Rattle.hb_base.specs.declared.cause.Cause.TheVariants as cause
use Rattle.hb_base.specs.declared.door.Door.TheVariants as door
use Rattle.hb_base.specs.declared.door.Why.TheVariants as whys
use Rattle.hb_base.specs.declared.target.Target.{Target}
use Rattle.hb_captured.specs.Answer.{Aim, Routing, straight_to, through, key_of}
use Rattle.hb_captured.specs.Part as captured
use Rattle.hb_conn.specs.Observed.{streams_open}
use Rattle.hb_conn.specs.declared.found.Found.TheVariants as found
use Rattle.hb_front.specs.Reading.{Seen}
use Rattle.hb_gateway.specs.Key.{Key}
use Rattle.hb_gateway.specs.Part as gateway
use Rattle.hb_gateway.specs.Part.{Part}
use Rattle.hb_gateway.specs.Response as response
use Rattle.hb_gateway.specs.Response.{Heard, opens, fails}
use Rattle.hb_model.specs.Discovery.{status_of}
use Rattle.hb_model.specs.declared.config.NodeConfig.{NodeConfig}
use Rattle.hb_proxy.specs.Load.{sum_below}
use Rattle.hb_proxy.specs.Points.{Point, of_plain, of_gate, of_stream}
use Rattle.hb_proxy.specs.Shared.{asks}
use Rattle.hb_proxy.specs.Streams.{is_one_to}
use Rattle.hb_world.specs.declared.entry.Entry.{Entry}
use Rattle.hb_world.specs.declared.entry.Entry.TheVariants as e
use Rattle.hb_laws.specs.Closes as course
use Rattle.hb_laws.specs.Closes.{ClosesAt}
use Rattle.hb_laws.specs.Gateways.{DialsByKey, BearsByKey, GateDialsBy, GateDialsAt, MayBeTold, OpensAt}
use Rattle.hb_laws.specs.RefusedRoutes.{aimed, dialled_at, one_there, read_now, told_now, opened, DialsGateAstray, TriesGateAstray, DialsForOtherKey, DialsForNoKey, DialsByItsKey, RoutesByOtherPort, RefusesByOtherPort, RoutesUncounted, RoutesByEnded, RoutesByCounts, OpensAt403, OpensAtInterim, OpensUnanswered, OpensFailed, FailsAt200, OpensAt200, FailsAt403, ReadsUnread, ClosesHealthyGate, ClosesGateForSecond, ClosesEndedAsBroken, ClosesGateTwice, ReadsEndedGate, AsksEndedGate, WritesGateTwice, ClosesBrokenGate, WritesGateOnce, OverrunsPlain, OverrunsPlainBack, OverrunsOutbound, OverrunsOutboundBack, FillsPlain, FillsOutboundBack}
use Rattle.hb_laws.specs.Routes.{connects_to, connections_to, RoutesAt}

-- a law at each place of a list, one place after another
unfoldable Places : {A : Type 0} → (List A → A → Type 0) → List A → List A → Type 0
Places P before [] = Unit {0}
Places P before (p ∷ rest) = P before p × Places P (before ++ p ∷ []) rest

places : {A : Type 0} (P : List A → A → Type 0) (before rest : List A) → Places P before rest
    → (front : List A) (p : A) (behind : List A) → rest ≡ front ++ p ∷ behind → P (before ++ front) p
unfolding Places
places P before [] each [] p behind are = absurd (let none : [] ≡ p ∷ behind = are in cc)
places P before [] each (q ∷ front) p behind are = absurd (let none : [] ≡ q ∷ (front ++ p ∷ behind) = are in cc)
places P before (x ∷ rest) each [] p behind are =
    let same : x ≡ p = cc in subst (λ qs. P qs p) (sym (append-nil before)) (subst (P before) same each.0)
places P before (x ∷ rest) each (q ∷ front) p behind are =
    let same : x ≡ q = cc in
    let further : rest ≡ front ++ p ∷ behind = cc in
    subst (λ qs. P qs p) (append_assoc before (q ∷ []) front)
    (subst (λ y. P ((before ++ y ∷ []) ++ front) p) same (places P (before ++ x ∷ []) rest each.1 front p behind further))

-- DIALS

-- the key of a way
key_is : (way aim : Aim) (key other : Key) → Some way ≡ Some aim → key_of way ≡ Some key → key_of aim ≡ Some other → key ≡ other
key_is way aim key other told keyed there =
    let same : way ≡ aim = cc in
    let both : Some key ≡ Some other = sym keyed ∙ ap key_of same ∙ there in cc

dial_at : (seen : Seen) (routing : Routing) (way : Aim) (key : Key) (to : Target)
    → ((front : List Point) (p : Point) (behind : List Point) → dialled_at seen routing way key to ≡ front ++ p ∷ behind
    → GateDialsAt front p)
    → BearsByKey (aimed 2 seen routing way) (of_gate 3 (gateway.dialled (e.Dialled 3 to (whys.Gateway 2)) key)) 3 2 to
dial_at seen routing way key to law =
    law (aimed 2 seen routing way) (of_gate 3 (gateway.dialled (e.Dialled 3 to (whys.Gateway 2)) key)) [] refl
    (e.Dialled 3 to (whys.Gateway 2)) refl

pub dials_gate_astray : DialsGateAstray
dials_gate_astray seen routing key authority endpoint to other law =
    let dial = (dial_at seen routing (through key authority endpoint) key to law).dial in
    other
    (dial.there
    ∙ ap (λ (k : Key). k.gateway) (sym (key_is (through key authority endpoint) dial.aim key dial.key dial.told refl dial.keyed)))

pub tries_gate_astray : TriesGateAstray
tries_gate_astray seen routing key authority endpoint to other law =
    let way = through key authority endpoint in
    let tried = e.DialFailed to (whys.Gateway 2) in
    let dial : DialsByKey (aimed 2 seen routing way) 2 to =
    law (aimed 2 seen routing way) (of_plain 2 (captured.up tried)) [] refl tried refl in
    other (dial.there ∙ ap (λ (k : Key). k.gateway) (sym (key_is way dial.aim key dial.key dial.told refl dial.keyed)))

pub dials_for_other_key : DialsForOtherKey
dials_for_other_key seen routing key other authority endpoint to apart law =
    let at = dial_at seen routing (through key authority endpoint) other to law in
    let its = key_is (through key authority endpoint) at.dial.aim key at.dial.key at.dial.told refl at.dial.keyed in
    let dial = e.Dialled 3 to (whys.Gateway 2) in
    let born : of_gate 3 (gateway.dialled dial other) ≡ of_gate 3 (gateway.dialled dial at.dial.key) = at.born in
    let same : other ≡ at.dial.key = cc in apart (its ∙ sym same)

pub dials_for_no_key : DialsForNoKey
dials_for_no_key seen routing key there to law =
    let dial = (dial_at seen routing (straight_to there None) key to law).dial in
    let told : Some (straight_to there None) ≡ Some dial.aim = dial.told in
    let same : straight_to there None ≡ dial.aim = cc in
    let no : None ≡ Some dial.key = ap key_of same ∙ dial.keyed in cc

this_one : (before : List Point) (p : Point) (x z : Entry) → x ∷ [] ≡ z ∷ [] → GateDialsBy before p x → GateDialsBy before p z
this_one before p x z is holds = let same : x ≡ z = cc in subst (GateDialsBy before p) same holds

pub dials_by_its_key : DialsByItsKey
unfolding Places
dials_by_its_key seen routing key authority endpoint =
    let way = through key authority endpoint in
    let accepts = e.Accepted 2 door.Outbound in
    let dial = e.Dialled 3 key.gateway (whys.Gateway 2) in
    places GateDialsAt [] (dialled_at seen routing way key key.gateway) (
      λ z is. this_one [] (of_plain 2 (captured.entry accepts)) accepts z is tt,
      (
        λ z is. absurd cc,
        (
          λ z is. absurd cc,
          (
            λ z is. this_one (aimed 2 seen routing way) (of_gate 3 (gateway.dialled dial key)) dial z is (record {
              dial = record { aim = way; key = key; told = refl; keyed = refl; there = refl };
              born = refl;
            }),
            tt,
          ),
        ),
      ),
    )

-- WAYS

pub routes_by_other_port : RoutesByOtherPort
routes_by_other_port g seen routing aim other law =
    other (law (of_plain 2 (captured.entry (e.Accepted 2 door.Outbound)) ∷ of_plain 2 captured.welcomed ∷ [])
    (of_plain 2 (captured.fronted seen routing aim)) [] refl).port

pub refuses_by_other_port : RefusesByOtherPort
refuses_by_other_port g seen routing why status note other law =
    other (law [] (of_plain 2 (captured.refused seen routing why status note)) [] refl).port

-- of three numbers the middle one counts, or none does
middle : (f : ℕ → ℕ) → f 0 ≡ 0 → f 2 ≡ 0 → sum_below f 3 ≡ f 1
middle f first last = omega (arith, first, last)

none_of : (f : ℕ → ℕ) → f 0 ≡ 0 → f 1 ≡ 0 → f 2 ≡ 0 → sum_below f 3 ≡ 0
none_of f first next last = omega (arith, first, next, last)

itself : (name : List ℕ) → is_one_to name (Some name) ≡ 1
itself name = ap (λ b. cond b 1 0) ((bytes_eq-Decides name name).1 refl)

counts_one : (g : NodeConfig) (seen : Seen) (first : Routing) (to : Target) (name any : List ℕ)
    → connections_to g (one_there seen first to name) any ≡ is_one_to any (Some name)
counts_one g seen first to name any = middle (λ l. is_one_to any (connects_to g (one_there seen first to name) l)) refl refl

pub routes_uncounted : RoutesUncounted
routes_uncounted g seen other first second to name aim none law =
    let at = law (one_there seen first to name) (of_plain 2 (captured.fronted other second aim)) [] refl in
    let no : 0 ≡ 1 = sym none ∙ at.counts name ∙ counts_one g seen first to name name ∙ itself name in absurd (omega (arith, no))

pub routes_by_ended : RoutesByEnded
routes_by_ended g seen other first second to name aim one law =
    let before = one_there seen first to name ++ of_plain 1 (captured.entry (e.Broke 1)) ∷ [] in
    let at = law before (of_plain 2 (captured.fronted other second aim)) [] refl in
    let no : 1 ≡ 0 = sym one ∙ at.counts name ∙ none_of (λ l. is_one_to name (connects_to g before l)) refl refl refl in
    absurd (omega (arith, no))

pub routes_by_counts : RoutesByCounts
unfolding Places
routes_by_counts g seen other first second to name aim first_port second_port none one =
    places (RoutesAt g) [] (one_there seen first to name ++ of_plain 2 (captured.fronted other second aim) ∷ []) (
      tt,
      (
        tt,
        (
          record { port = first_port; counts = none },
          (
            tt,
            (
              tt,
              (
                record { port = second_port; counts = λ any. one any ∙ sym (counts_one g seen first to name any) },
                tt,
              ),
            ),
          ),
        ),
      ),
    )

-- WHAT OPENS A TUNNEL

forbidden : (end : Bool) → response.answered (Some 403) end ≡ Some (fails (cause.UpRefused 403))
forbidden true = refl
forbidden false = refl

success : (end : Bool) → response.answered (Some 200) end ≡ Some (opens end)
success true = refl
success false = refl

-- where the gateway said this it may be told
by_said : (said now : Option Heard) (heard : Heard) → said ≡ now → MayBeTold [] said heard → MayBeTold [] now heard
by_said said now heard is = subst (λ (s : Option Heard). MayBeTold [] s heard) is

pub opens_at_403 : OpensAt403
opens_at_403 authority points headers end now begun status law =
    let is = ap (λ (n : Option ℕ). response.answered n end) status ∙ forbidden end in
    let at : MayBeTold [] (response.answered (status_of headers) end) (opens now) =
    law (read_now authority points headers end) (told_now (opens now) begun) [] refl in
    let no : opens now ≡ fails (cause.UpRefused 403) = by_said _ (Some (fails (cause.UpRefused 403))) (opens now) is at in cc

pub opens_at_interim : OpensAtInterim
opens_at_interim authority points headers now begun interim law =
    let passed : response.answered (status_of headers) false ≡ None =
    ap (λ (b : Bool). cond (b && true) None
    (cond (response.is_success (status_of headers)) (Some (opens false))
    (Some (fails (cause.UpRefused (response.refusal_of (status_of headers))))))) interim in
    let at : MayBeTold [] (response.answered (status_of headers) false) (opens now) =
    law (read_now authority points headers false) (told_now (opens now) begun) [] refl in
    let failed = by_said _ None (opens now) passed at in
    let no : opens now ≡ fails failed.0 = failed.1 in cc

pub opens_unanswered : OpensUnanswered
opens_unanswered authority now begun law =
    let failed = law (of_stream 2 3 1 (asks authority) ∷ []) (told_now (opens now) begun) [] refl in
    let no : opens now ≡ fails failed.0 = failed.1 in cc

pub opens_failed : OpensFailed
opens_failed authority points headers end now why begun law =
    law (read_now authority points headers end ++ told_now (fails why) begun ∷ []) (told_now (opens now) begun) [] refl

pub fails_at_200 : FailsAt200
fails_at_200 authority points headers end why begun status law =
    let is = ap (λ (n : Option ℕ). response.answered n end) status ∙ success end in
    let at : MayBeTold [] (response.answered (status_of headers) end) (fails why) =
    law (read_now authority points headers end) (told_now (fails why) begun) [] refl in
    let no : fails why ≡ opens end = by_said _ (Some (opens end)) (fails why) is at in cc

pub opens_at_200 : OpensAt200
unfolding Places
opens_at_200 authority points headers end begun status =
    let is = ap (λ (n : Option ℕ). response.answered n end) status ∙ success end in
    places OpensAt [] (read_now authority points headers end ++ told_now (opens end) begun ∷ [])
    (tt, (tt, (by_said (Some (opens end)) (response.answered (status_of headers) end) (opens end) (sym is) refl, tt)))

pub fails_at_403 : FailsAt403
unfolding Places
fails_at_403 authority points headers end begun status =
    let is = ap (λ (n : Option ℕ). response.answered n end) status ∙ forbidden end in
    let heard = fails (cause.UpRefused 403) in
    places OpensAt [] (read_now authority points headers end ++ told_now heard begun ∷ [])
    (tt, (tt, (by_said (Some heard) (response.answered (status_of headers) end) heard (sym is) refl, tt)))

pub reads_unread : ReadsUnread
reads_unread points told headers other law =
    let at = law [] (gateway.looked points told headers) [] refl in other at.now at.read

-- CLOSES

pub closes_healthy_gate : ClosesHealthyGate
closes_healthy_gate to key why law = law (opened to key) (gateway.entry (e.Closed 3 why)) [] refl

pub closes_gate_for_second : ClosesGateForSecond
closes_gate_for_second to key why other law =
    other
    (sym (law (opened to key ++ gateway.entry (e.Broke 3) ∷ gateway.stopped why ∷ []) (gateway.entry (e.Closed 3 why)) [] refl))

not_broken : (b : Bool) → cause.Broken ≡ cond b cause.Done cause.PeerGone → ⊥
not_broken true is = cc
not_broken false is = cc

pub closes_ended_as_broken : ClosesEndedAsBroken
closes_ended_as_broken to key law =
    let at = law (opened to key ++ gateway.entry (e.Ended 3) ∷ []) (gateway.entry (e.Closed 3 cause.Broken)) [] refl in
    not_broken (streams_open at.0.conn == 0) at.1

pub closes_gate_twice : ClosesGateTwice
closes_gate_twice to key why again law =
    law (opened to key ++ gateway.stopped why ∷ gateway.entry (e.Closed 3 why) ∷ []) (gateway.entry (e.Closed 3 again)) [] refl

pub reads_ended_gate : ReadsEndedGate
reads_ended_gate to key bytes law =
    let no : course.hung_up ≡ course.serves =
    law (opened to key ++ gateway.entry (e.Ended 3) ∷ []) (gateway.entry (e.Came 3 bytes)) [] refl in cc

pub asks_ended_gate : AsksEndedGate
asks_ended_gate to key s captured authority law =
    law (opened to key ++ gateway.entry (e.Broke 3) ∷ []) (gateway.asks s captured authority) [] refl

pub writes_gate_twice : WritesGateTwice
writes_gate_twice to key code points headers first second law =
    law (opened to key ++ gateway.looked points (found.Fault code) headers ∷ gateway.entry (e.Went 3 first) ∷ [])
    (gateway.entry (e.Went 3 second)) [] refl

pub closes_broken_gate : ClosesBrokenGate
unfolding Places
closes_broken_gate to key why = places ClosesAt [] _ (refl, (tt, (tt, (refl, tt))))

pub writes_gate_once : WritesGateOnce
unfolding Places
writes_gate_once to key code points headers bytes = places ClosesAt [] _ (refl, (refl, (refl, (tt, (refl, tt)))))

-- RINGS

-- how many bytes came behind the header, and from the upstream
behind_it : (n : ℕ) (bytes : List ℕ) → length (drop n (bytes ++ [])) ≡ length bytes - n
behind_it n bytes = ap (λ (bs : List ℕ). length (drop n bs)) (append-nil bytes) ∙ length-drop n bytes

from_it : (bytes : List ℕ) → length (bytes ++ []) ≡ length bytes
from_it bytes = ap (λ (bs : List ℕ). length bs) (append-nil bytes)

pub overruns_plain : OverrunsPlain
overruns_plain seen routing aim bytes is law =
    let most : length (drop seen.length (bytes ++ [])) ≤ 65535 = law.up in
    omega (arith, most, behind_it seen.length bytes, is)

pub overruns_plain_back : OverrunsPlainBack
overruns_plain_back bytes is law =
    let most : length (bytes ++ []) ≤ 16384 = law.down in omega (arith, most, from_it bytes, is)

pub overruns_outbound : OverrunsOutbound
overruns_outbound seen routing aim bytes is law =
    let most : length (drop seen.length (bytes ++ [])) ≤ 16384 = law.up in
    omega (arith, most, behind_it seen.length bytes, is)

pub overruns_outbound_back : OverrunsOutboundBack
overruns_outbound_back bytes is law =
    let most : length (bytes ++ []) ≤ 65535 = law.down in omega (arith, most, from_it bytes, is)

pub fills_plain : FillsPlain
fills_plain seen routing aim bytes is =
    let fits : length (drop seen.length (bytes ++ [])) ≤ 65535 = omega (arith, behind_it seen.length bytes, is) in
    record { up = fits; down = omega arith }

pub fills_outbound_back : FillsOutboundBack
fills_outbound_back bytes is =
    let fits : length (bytes ++ []) ≤ 65535 = omega (arith, from_it bytes, is) in record { up = omega arith; down = fits }
