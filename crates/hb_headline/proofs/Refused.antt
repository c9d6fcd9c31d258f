-- Small traces don't meet the headline.
use Rattle.std.proofs.Common.{◌≡◌, ⊎_elim, ℕ, ◌==◌, ◌||◌, Bool, true, false, cond, List, [], ◌∷◌, ◌++◌, length, drop, map, None, Result, Ok, refl, ap, sym, ◌∙◌, subst, arith}
use Rattle.std.specs.List.{flat_map, AllByRecursion}
use Rattle.std.proofs.lemmas.Bool.{false≢true, eqb-true, eq-eqb}
use Rattle.std.specs.Cmp.Lexicographic.{slice_cmp}
use Rattle.std.specs.FinMap.{len, len-empty}
use Rattle.std.specs.Ordering.{nat_cmp}
use Rattle.hb_base.specs.declared.door.Door.TheVariants as door
use Rattle.hb_base.specs.declared.door.Why.TheVariants as whys
use Rattle.hb_disco.specs.Response.{response_of}
use Rattle.hb_disco.specs.declared.response.Response.{Response}
use Rattle.hb_disco.specs.declared.response.ResponseFault.{ResponseFault}
use Rattle.hb_frames.specs.Frames.{Joins}
use Rattle.hb_frames.specs.RawFrame.{RawFrame}
use Rattle.hb_grpc.specs.Framed.{framed_of, framed_within}
use Rattle.hb_kept.specs.Payloads.{payloads}
use Rattle.hb_laws.proofs.Unheld.{nobody_admitted}
use Rattle.hb_model.specs.Calls.{IsControl}
use Rattle.hb_model.specs.Discovery.{longest_message}
use Rattle.hb_model.specs.declared.config.NodeConfig.{NodeConfig}
use Rattle.hb_outgoing.specs.Written.{begun_in}
use Rattle.hb_proxy.specs.Owners.{nobody, inbound_link, upstream_of}
use Rattle.hb_table.specs.Judgement.{judged}
use Rattle.hb_world.specs.Trace.{recv}
use Rattle.hb_world.specs.declared.entry.Entry.{Entry}
use Rattle.hb_world.specs.declared.entry.Entry.TheVariants as e
use Rattle.hb_headline.specs.Access.{AdmitsPlain, peer_in, Admits, AreAdmitted}
use Rattle.hb_headline.specs.Held.{Applied, AreRead, AreTold, made_by, on_link}
use Rattle.hb_headline.specs.Refused.{SendsUnfronted, TunnelsUnfronted, InventsBack, SendsEarly, invented, InventsData, unasked, SendsUnasked, DialsTwice, DialsElsewhere, AdmitsElsewhere, AdmitsUntold, DialsUntold, DialsPlainUntold, untold, AdmitsForged, unanswered, SendsUnborn, CutsUnadmitted, KeepsUnadmitted, plain_untold, RelaysUntold, KeepsPlain}
use Rattle.hb_headline.specs.Relay.{IsFront, data_on, data_with}
use Rattle.hb_headline.proofs.Relay.{none_first}
use Rattle.hb_headline.proofs.OneFrame.{one_frame}
use Rattle.hb_headline.proofs.OneTarget.{one_dial}

pub sends_unfronted : SendsUnfronted
sends_unfronted to byte more g met =
    let trace = e.Accepted 1 door.Plain ∷ e.Dialled 2 to (whys.Plain 1) ∷ e.Went 2 (byte ∷ more) ∷ [] in
    ⊎_elim (λ none. absurd (cc)) (λ is. let no = is.fronted.4 in absurd (cc)) ((met.prefix.plain trace [] refl).up 1 2 refl)

pub tunnels_unfronted : TunnelsUnfronted
tunnels_unfronted to byte more g met =
    let trace = e.Accepted 1 door.Inbound ∷ e.Dialled 2 to (whys.Upstream 1 1) ∷ e.Went 2 (byte ∷ more) ∷ [] in
    ⊎_elim (λ none. absurd (cc)) (λ is. let no = is.fronted.4 in absurd (cc)) (met.prefix.up trace [] refl 1 1 2 refl)

pub invents_back : InventsBack
invents_back to byte more g met =
    let trace = e.Accepted 1 door.Plain ∷ e.Dialled 2 to (whys.Plain 1) ∷ e.Went 1 (byte ∷ more) ∷ [] in
    let front = (met.prefix.plain trace [] refl).down 1 2 refl in
    let is = front.is in absurd (cc)

pub sends_early : SendsEarly
sends_early to byte more g met =
    let before = e.Accepted 1 door.Plain ∷ e.Dialled 2 to (whys.Plain 1) ∷ e.Went 1 (byte ∷ more) ∷ [] in
    let front = (met.prefix.plain before (e.Came 2 (byte ∷ more) ∷ []) refl).down 1 2 refl in
    let is = front.is in absurd (cc)

-- where the octets of one frame went it is the one that begins
pub invents_data : InventsData
invents_data to byte g met =
    let down = met.prefix.down 1 refl in
    let one = one_frame (data_with byte) (met.frames 1) down.began in
    let front = down.fronts (invented to byte) [] refl 1 2 refl in
    let no : [] ≡ byte ∷ front.rest =
    front.is ∙ ap (λ (fs : List RawFrame). payloads 1 (begun_in 10 fs) ++ front.rest) one in
    absurd (cc)

nobody_asked : (u : ℕ) → cond (1 == u) inbound_link nobody ≡ upstream_of 1 1 → ⊥
nobody_asked u = by (1 == u)
  where
    by : (b : Bool) → cond b inbound_link nobody ≡ upstream_of 1 1 → ⊥
    by true is = cc
    by false is = cc

pub sends_unasked : SendsUnasked
sends_unasked byte g met =
    let down = met.prefix.down 1 refl in
    let one = one_frame (data_with byte) (met.frames 1) down.began in
    let none = down.none (unasked byte) [] refl refl 1 nobody_asked in
    let no : byte ∷ [] ≡ [] = sym (ap (λ (fs : List RawFrame). payloads 1 (begun_in 10 fs)) one) ∙ none in
    absurd (cc)

pub dials_twice : DialsTwice
dials_twice to other g met = omega (arith, (met.dialled.tunnels 1 1 2 refl).alone 3 refl)

pub dials_elsewhere : DialsElsewhere
dials_elsewhere to other apart g met =
    let upstream = met.dialled.tunnels 1 1 2 refl in
    let dial = e.Dialled 2 other (whys.Upstream 1 1) in
    apart
    (upstream.once to (record { before = e.Accepted 1 door.Inbound ∷ []; behind = dial ∷ []; is = refl })
    ∙ sym (upstream.once other
    (record { before = e.Accepted 1 door.Inbound ∷ e.Dialled 2 to (whys.Upstream 1 1) ∷ []; behind = []; is = refl })))

-- NOBODY IS ADMITTED where nothing is applied

none_admitted : (g : NodeConfig) (applied : List Applied) (trace : List Entry) (l s u : ℕ) → applied ≡ []
    → Admits (made_by g applied) trace l s u → ⊥
none_admitted g applied trace l s u none is =
    nobody_admitted (made_by g applied) (peer_in is.seen) is.to
    (ap (λ (some : List Applied). len (made_by g some).addresses) none ∙ len-empty (slice_cmp nat_cmp) _) is.admitted

no_plain : (g : NodeConfig) (applied : List Applied) (trace : List Entry) (l : ℕ) → applied ≡ [] → AdmitsPlain (made_by g applied) trace l
    → ⊥
no_plain g applied trace l none is =
    nobody_admitted (made_by g applied) (record { ip = is.seen.source.ip; identity = None }) is.seen.destination
    (ap (λ (some : List Applied). len (made_by g some).addresses) none ∙ len-empty (slice_cmp nat_cmp) _) is.admitted

none_applied : (trace : List Entry) (applied : List Applied) → ((d : ℕ) → IsControl d trace → ⊥) → AreTold trace applied → applied ≡ []
none_applied trace [] none told = refl
none_applied trace (a ∷ applied) none told = absurd (none a.link told.only.0)

pub admits_elsewhere : AdmitsElsewhere
admits_elsewhere held to came none is =
    let there = one_dial _ 1 1 2 to is.to refl is.dialled in
    none (peer_in is.seen) (ap (judged held (peer_in is.seen)) (sym there) ∙ is.admitted)

pub admits_untold : AdmitsUntold
admits_untold to came bytes g met =
    let before = untold to came in
    let told = met.held.told before (e.Went 2 bytes ∷ []) refl in
    let none = none_applied before (met.applied before) (λ d control. false≢true control) told in
    none_admitted g (met.applied before) before 1 1 2 none ((met.admitted before 2 bytes [] refl).up 1 1 refl)

pub dials_untold : DialsUntold
dials_untold to came g met =
    let before = e.Accepted 1 door.Inbound ∷ e.Came 1 came ∷ [] in
    let dial = e.Dialled 2 to (whys.Upstream 1 1) in
    let told = met.held.told before (dial ∷ []) refl in
    let none = none_applied before (met.applied before) (λ d control. false≢true control) told in
    let is = met.tried before 2 to (whys.Upstream 1 1) [] refl in
    nobody_admitted (made_by g (met.applied before)) (peer_in is.seen) to
    (ap (λ (some : List Applied). len (made_by g some).addresses) none ∙ len-empty (slice_cmp nat_cmp) _) is.admitted

pub dials_plain_untold : DialsPlainUntold
dials_plain_untold to came g met =
    let before = e.Accepted 1 door.Plain ∷ e.Came 1 came ∷ [] in
    let dial = e.Dialled 2 to (whys.Plain 1) in
    let told = met.held.told before (dial ∷ []) refl in
    let none = none_applied before (met.applied before) (λ d control. false≢true control) told in
    no_plain g (met.applied before) before 1 none (met.tried before 2 to (whys.Plain 1) [] refl)

pub keeps_unadmitted : KeepsUnadmitted
keeps_unadmitted to came g met =
    let before = untold to came in
    let told = met.held.told before (e.Tick ∷ []) refl in
    let none = none_applied before (met.applied before) (λ d control. false≢true control) told in
    none_admitted g (met.applied before) before 1 1 2 none ((met.revoked before e.Tick [] refl refl).tunnels 1 1 2 refl refl)

pub relays_untold : RelaysUntold
relays_untold to came bytes g met =
    let before = plain_untold to came in
    let told = met.held.told before (e.Went 2 bytes ∷ []) refl in
    let none = none_applied before (met.applied before) (λ d control. false≢true control) told in
    no_plain g (met.applied before) before 1 none ((met.admitted before 2 bytes [] refl).relay 1 refl refl)

pub keeps_plain : KeepsPlain
keeps_plain to came g met =
    let before = plain_untold to came in
    let told = met.held.told before (e.Tick ∷ []) refl in
    let none = none_applied before (met.applied before) (λ d control. false≢true control) told in
    no_plain g (met.applied before) before 1 none ((met.revoked before e.Tick [] refl refl).plain 1 2 refl refl refl)

pub sends_unborn : SendsUnborn
sends_unborn bytes g met = (met.admitted [] 1 bytes [] refl).born refl

pub cuts_unadmitted : CutsUnadmitted
cuts_unadmitted to came byte g met =
    let before = untold to came ++ e.Came 2 (byte ∷ []) ∷ [] in
    let cut = 0 ∷ 0 ∷ 1 ∷ [] in
    let others = e.Went 1 (0 ∷ 0 ∷ 0 ∷ 0 ∷ 0 ∷ 1 ∷ byte ∷ []) ∷ [] in
    let down = met.prefix.down 1 refl in
    let one = one_frame (data_with byte) (met.frames 1) down.began in
    let told = met.held.told before (e.Went 1 cut ∷ others) refl in
    let none = none_applied before (met.applied before) (λ d control. false≢true control) told in
    let begins = (met.admitted before 1 cut others refl).down refl in
    let first = subst (λ (fs : List RawFrame). AreAdmitted (made_by g (met.applied before)) before 1
    (drop (length (begun_in 0 fs)) (begun_in 3 fs))) one begins in
    none_admitted g (met.applied before) before 1 1 2 none (first.0 refl 2 refl)

-- NOTHING CAME, so no message did, and no response is applied

no_frames : (fs : List RawFrame) (rest : List ℕ) → Joins fs rest [] → (bs : List ℕ) → IsFront bs (data_on 1 fs) → bs ≡ []
no_frames [] rest join bs front = none_first bs front.rest front.is
no_frames (f ∷ fs) rest join bs front = absurd (cc)

pub no_messages : (framed_of longest_message []).messages ≡ []
unfolding framed_of framed_within
no_messages = refl

no_responses : (rs : List Response) (more : List (Result Response ResponseFault)) → [] ≡ map Ok rs ++ more → rs ≡ []
no_responses [] more is = refl
no_responses (r ∷ rs) more is = absurd cc

unread : (trace : List Entry) (d : ℕ) (rs : List Response) → recv d trace ≡ [] → AreRead trace d rs → rs ≡ []
unread trace d rs none read =
    let came = no_frames read.frames read.partial (subst (Joins read.frames read.partial) none read.framed) read.came read.front in
    no_responses rs read.more
    (sym (ap (map response_of) no_messages) ∙ ap (λ (bs : List ℕ). map response_of (framed_of longest_message bs).messages) (sym came)
    ∙ read.read)

pub the_first : (d : ℕ) → ((1 == d) || false) ≡ true → d ≡ 1
the_first d is = sym (eqb-true 1 d (by (1 == d) is))
  where
    by : (b : Bool) → (b || false) ≡ true → b ≡ true
    by true is = refl
    by false is = is

none_on : (applied : List Applied) → AllByRecursion (λ a. a.link ≡ 1) applied → flat_map (on_link 1) applied ≡ [] → applied ≡ []
none_on [] only none = refl
none_on (a ∷ applied) only none =
    let here : on_link 1 a ≡ a.response ∷ [] = ap (λ (b : Bool). cond b (a.response ∷ []) []) (eq-eqb a.link 1 only.0) in
    let no : a.response ∷ flat_map (on_link 1) applied ≡ [] =
    ap (λ (rs : List Response). rs ++ flat_map (on_link 1) applied) (sym here) ∙ none in
    absurd cc

pub each_first : (applied : List Applied) → AllByRecursion (λ a. ((1 == a.link) || false) ≡ true) applied
    → AllByRecursion (λ a. a.link ≡ 1) applied
each_first [] each = tt
each_first (a ∷ applied) each = (the_first a.link each.0, each_first applied each.1)

pub admits_forged : AdmitsForged
admits_forged at to came bytes g met =
    let before = unanswered at to came in
    let told = met.held.told before (e.Went 3 bytes ∷ []) refl in
    let none = none_on (met.applied before) (each_first (met.applied before) told.only)
    (unread before 1 (flat_map (on_link 1) (met.applied before)) refl (told.first 1 refl)) in
    none_admitted g (met.applied before) before 2 1 3 none ((met.admitted before 3 bytes [] refl).up 2 1 refl)
