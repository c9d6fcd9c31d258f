-- What each call leaves that tells a tunnel, as the code comes to it.
use Rattle.std.proofs.Common.{◌≡◌, ⊎_elim, ℕ, Bool, List, Option, Some, None, is_some, refl, ap, sym, ◌∙◌, subst}
use Rattle.std.proofs.lemmas.Bool.{cases_eq}
use Rattle.std.specs.FinMap.{get}
use Rattle.hb_base.specs.declared.cause.Cause.{Cause}
use Rattle.hb_base.specs.declared.note.Note.{Note}
use Rattle.hb_captured.specs.Part.{hears, note_if}
use Rattle.hb_captured.specs.Runs.{counted}
use Rattle.hb_gate.specs.Calls.{IsCarrying}
use Rattle.hb_gate.specs.Streams.{TakesMail}
use Rattle.hb_gate.specs.declared.gate.Gate.{Gate}
use Rattle.hb_gate.specs.Looking.{Looks}
use Rattle.hb_gate.specs.declared.looking.Look.{Look}
use Rattle.hb_gate.specs.declared.looking.Mail.{Mail}
use Rattle.hb_gateway.specs.Response.{Heard}
use Rattle.hb_link.specs.Noted.{Told, Takes}
use Rattle.hb_map.proofs.Laws.{put_here, put_elsewhere, written_where_some}
use Rattle.hb_map.specs.Keyed.{written}
use Rattle.hb_relay.specs.Answering.{routing_of}
use Rattle.hb_relay.specs.Calls.{StopsLeaving, any}
use Rattle.hb_relay.specs.Reaches.{Meets}
use Rattle.hb_relay.specs.Streamed.{HasStream}
use Rattle.hb_relay.specs.declared.relay.Relay.{Relay}
use Rattle.hb_relay.specs.declared.routes.Routes.{Routes}
use Rattle.hb_relays.specs.Joining.{Gates}
use Rattle.hb_relays.specs.Leaving.{ResetsIf, StopsAt, TakesAt, TakesOn, begun_in}
use Rattle.hb_relays.specs.Looking.{FindsAt, FindsOn, Hears, HearsOn, ResetsGate, ResetsOn}
use Rattle.hb_relays.specs.Stirring.{Stirs}
use Rattle.hb_relays.specs.Walks.{Map, gate_touched_at, relays_with, routes_with, touched_at}
use Rattle.hb_relays.specs.declared.relays.Relays.{Relays}
use Rattle.hb_relays.proofs.Entering.{changed_is}
use Rattle.hb_relays.proofs.Stirs.{IsGateSame, equal_gate, gate_same_stirs, stirs_all_then, taken_seen, told_stirs}

-- mail is taken of a stream
pub taken_on : (gates new : Gates) (n s begun : ℕ) (kept after : Gate) (mail : Option Mail) → get gates n ≡ Some kept
    → new ≡ written gates n after → TakesMail s kept mail after → begun ≡ begun_in mail → TakesAt (Some (n, s)) begun gates new
taken_on gates new n s begun kept after mail is new_is takes begun_is =
    subst (λ (o : Option Gate). TakesOn o n s begun gates new) (sym is)
    (mail, after, takes, begun_is, new_is ∙ written_where_some gates n after (ap is_some is))

pub none_taken_on : (gates new : Gates) (n s begun : ℕ) → get gates n ≡ None → new ≡ gates → begun ≡ 0
    → TakesAt (Some (n, s)) begun gates new
none_taken_on gates new n s begun is new_is begun_is =
    subst (λ (o : Option Gate). TakesOn o n s begun gates new) (sym is) (begun_is, new_is)

-- the same is seen of all links to gateways
pub took_same : (at : Option (ℕ × ℕ)) (begun : ℕ) (gates new : Gates) → TakesAt at begun gates new → (j : ℕ)
    → IsGateSame (get new j) (get gates j)
took_same None begun gates new takes j = equal_gate (get new j) (get gates j) (ap (λ (m : Gates). get m j) takes.1)
took_same (Some at) begun gates new takes j = by (get gates at.0) refl takes
  where
    by : (o : Option Gate) → get gates at.0 ≡ o → TakesOn o at.0 at.1 begun gates new → IsGateSame (get new j) (get gates j)
    by None none it = equal_gate (get new j) (get gates j) (ap (λ (m : Gates). get m j) it.1)
    by (Some kept) is it =
        let seen = taken_seen at.1 kept it.1 it.0 it.2 in
        ⊎_elim
        (λ here. subst (λ (i : ℕ). IsGateSame (get new i) (get gates i)) (sym here)
        (subst (λ (o : Option Gate). IsGateSame o (get gates at.0))
        (sym (ap (λ (m : Gates). get m at.0) it.4 ∙ put_here gates at.0 it.1))
        (subst (λ (o : Option Gate). IsGateSame (Some it.1) o) (sym is) (record { wants = seen.0; output = seen.1; some = refl }))))
        (λ apart. equal_gate (get new j) (get gates j) (ap (λ (m : Gates). get m j) it.4 ∙ put_elsewhere gates at.0 it.1 j apart))
        (cases_eq j at.0)

-- A LINK ENDS WITH THE RUN
module _ (k n : Relays) (relays : Map) (gates : Gates) (l begun : ℕ) (at : Option (ℕ × ℕ)) (new : Relay)
    (takes : TakesAt at begun k.gates gates) (relays_is : relays ≡ written k.relays l new)
    (n_is : n ≡ touched_at l (record k { relays = relays; gates = gates })) where
  pub stop_is : (cause : Cause) (old : Relay) (made : Option Note) (told now : Told) → get k.relays l ≡ Some old → HasStream old at
      → StopsLeaving begun cause old new made → Takes told (note_if made) now → StopsAt cause (get k.relays l) l k told n now
  stop_is cause old made told now is has stops noted =
      subst (λ (o : Option Relay). StopsAt cause o l k told n now) (sym is) (
        at,
        begun,
        gates,
        new,
        made,
        has,
        takes,
        stops,
        n_is ∙ ap (λ (m : Map). touched_at l (record k { relays = m; gates = gates }))
            (relays_is ∙ written_where_some k.relays l new (ap is_some is)),
        noted,
      )

  pub stop_stirs : Stirs k n
  stop_stirs =
      stirs_all_then k (record k { gates = gates }) n
      (gate_same_stirs k (record k { gates = gates }) gates refl (took_same at begun k.gates gates takes))
      (told_stirs (record k { gates = gates }) n relays k.routes l new n_is relays_is)

-- STREAMS ARE RESET
pub reset_is : (k m : Relays) (gates : Gates) (n : ℕ) (kept after : Gate) (carries : Bool) → get k.gates n ≡ Some kept
    → IsCarrying kept carries → ResetsIf carries kept after → gates ≡ written k.gates n after
    → m ≡ gate_touched_at n (record k { gates = gates }) → ResetsGate n k m
reset_is k m gates n kept after carries is carrying resets gates_is m_is =
    subst (λ (o : Option Gate). ResetsOn o n k m) (sym is) (
      after,
      (carries, carrying, resets),
      m_is ∙ ap (λ (all : Gates). gate_touched_at n (record k { gates = all }))
          (gates_is ∙ written_where_some k.gates n after (ap is_some is)),
    )

-- A TUNNEL HEARS
pub hears_is : (k n : Relays) (relays : Map) (routes : Routes) (l begun : ℕ) (heard : Heard) (old new : Relay) (made : Option Note)
    (told now : Told) → get k.relays l ≡ Some old
    → ((i : ℕ) → counted i ≡ begun → Meets any (hears heard i) old (routing_of k.routes) new (routing_of routes) made)
    → relays ≡ written k.relays l new → n ≡ touched_at l (routes_with routes (relays_with relays k.ups k)) → Takes told (note_if made) now
    → Hears heard begun l k told n now
hears_is k n relays routes l begun heard old new made told now is meets relays_is n_is takes =
    subst (λ (o : Option Relay). HearsOn heard begun l o k told n now) (sym is)
    (new, routes, made, meets, changed_is k n relays routes l old new n_is relays_is is, takes)

pub hears_none : (k : Relays) (l begun : ℕ) (heard : Heard) (told : Told) → get k.relays l ≡ None → Hears heard begun l k told k told
hears_none k l begun heard told is = subst (λ (o : Option Relay). HearsOn heard begun l o k told k told) (sym is) (refl, refl)

-- WHAT IS FOUND
pub finds_is : (k m : Relays) (gates : Gates) (n : ℕ) (found : Look) (bytes : List ℕ) (kept after : Gate) → get k.gates n ≡ Some kept
    → Looks found bytes kept after → gates ≡ written k.gates n after → m ≡ gate_touched_at n (record k { gates = gates })
    → FindsAt n found bytes k m
finds_is k m gates n found bytes kept after is looks gates_is m_is =
    subst (λ (o : Option Gate). FindsOn o n found bytes k m) (sym is) (
      after,
      looks,
      m_is ∙ ap (λ (all : Gates). gate_touched_at n (record k { gates = all }))
          (gates_is ∙ written_where_some k.gates n after (ap is_some is)),
    )
