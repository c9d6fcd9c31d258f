-- What a link that shows a machine says of it.
use Rattle.std.proofs.Common.{◌≡◌, ⊎_elim, ◌&&◌, not, Bool, true, false, List, Option, Some, None, refl, ap, ap₂, sym, ◌∙◌}
use Rattle.std.proofs.lemmas.Bool.{false≢true}
use Rattle.std.specs.Prelude.{◌↔◌, IsTrue, is_ok, nat_le}
use Rattle.hb_conn.specs.Connection.{Connection, core_of}
use Rattle.hb_conn.specs.Observed as connection
use Rattle.hb_conn.specs.Observed.{next_stream, room}
use Rattle.hb_history.specs.History.{fresh}
use Rattle.hb_kept.specs.Kept.{IsKept}
use Rattle.hb_kept.proofs.Roles.{role_is}
use Rattle.hb_kept.proofs.Used.{used_new, used_runs}
use Rattle.hb_streams.specs.declared.role.Role.{Role}
use Rattle.hb_streams.specs.declared.role.Role.TheVariants.{Client}
use Rattle.hb_gateway.specs.Gateway.{Gateway}
use Rattle.hb_gateway.specs.Gateway as m
use Rattle.hb_gateway.specs.Part.{Part, moves}
use Rattle.hb_gateway.specs.Response as r
use Rattle.hb_gateway.specs.Response.{is_living}
use Rattle.hb_gateway.specs.Runs.{StandsFor}
use Rattle.hb_gateway.proofs.Runs.{all_keep}
use Rattle.hb_gate.specs.Calls.{Offers, Serves}
use Rattle.hb_gate.specs.Observed.{offers_on, is_client}
use Rattle.hb_gate.specs.Phases.{is_serving, phase_of}
use Rattle.hb_gate.specs.Shows.{Shows, ShowsBy, IsStream, ShowsStream}
use Rattle.hb_gate.specs.declared.gate.Gate.{Gate}
use Rattle.hb_gate.specs.declared.phase.Phase.{Phase}
use Rattle.hb_gate.specs.declared.phase.Phase.TheVariants.{Opening, Serving, Faulted, Closing, Closed}
use Rattle.hb_gate.specs.declared.stream.Stream.{Stream}

-- while streams are used the connection and the front header are the machine's
pub record IsCarried (k : Gate) (x : Gateway) : Type 0 where
  pub conn : x.conn ≡ k.conn
  pub kept : IsKept x.conn
  pub front : x.front ≡ k.front

carried_by : (k : Gate) (x : Gateway) (phase : m.Phase) → m.carries phase ≡ true → ShowsBy phase k x → IsCarried k x
carried_by k x m.opening carries way = record { conn = way.0; kept = way.1; front = way.2 }
carried_by k x m.serving carries way = record { conn = way.0; kept = way.1; front = way.2 }
carried_by k x m.unborn carries way = absurd (false≢true carries)
carried_by k x (m.faulted code) carries way = absurd (false≢true carries)
carried_by k x (m.closing why) carries way = absurd (false≢true carries)
carried_by k x m.closed carries way = absurd (false≢true carries)

pub carried : (k : Gate) (x : Gateway) → Shows k x → m.carries x.phase ≡ true → IsCarried k x
carried k x shows carries = carried_by k x x.phase carries shows.way

-- such a link again, of which the phase stays
pub way_again : (k : Gate) (x : Gateway) (phase : m.Phase) → m.carries phase ≡ true → IsCarried k x → ShowsBy phase k x
way_again k x m.opening carries is = (is.conn, is.kept, is.front)
way_again k x m.serving carries is = (is.conn, is.kept, is.front)
way_again k x m.unborn carries is = absurd (false≢true carries)
way_again k x (m.faulted code) carries is = absurd (false≢true carries)
way_again k x (m.closing why) carries is = absurd (false≢true carries)
way_again k x m.closed carries is = absurd (false≢true carries)

-- a stream whose tunnel lives is there in code
pub record Found (o : Option Stream) (t : m.Stream) : Type 0 where
  pub stream : Stream
  pub is : o ≡ Some stream
  pub shown : IsStream stream t

pub found : (o : Option Stream) (t : m.Stream) → ShowsStream o t → is_living t.stage ≡ true → Found o t
found None t shown living =
    absurd (false≢true (⊎_elim (λ (is : t.stage ≡ r.unused). sym (ap is_living is) ∙ living)
    (λ (is : t.stage ≡ r.over). sym (ap is_living is) ∙ living) shown.0))
found (Some k) t shown living = record { stream = k; is = refl; shown = shown }

-- WHAT IS KNOWN OF IT

serves_by : (phase : Phase) → IsTrue (is_serving phase) ↔ (phase_of phase ≡ m.serving)
serves_by Serving = ((λ is. refl), λ is. refl)
serves_by Opening = ((λ is. absurd (false≢true is)), λ is. absurd (cc))
serves_by (Faulted code) = ((λ is. absurd (false≢true is)), λ is. absurd (cc))
serves_by (Closing why) = ((λ is. absurd (false≢true is)), λ is. absurd (cc))
serves_by Closed = ((λ is. absurd (false≢true is)), λ is. absurd (cc))

pub serves_shown : (k : Gate) → Serves k (is_serving k.phase)
serves_shown k x shows =
    let by = serves_by k.phase in ((λ is. shows.phase ∙ by.0 is), λ is. by.1 (sym shows.phase ∙ is))

-- a link's connection is a client's
client_role : (k : Gate) (x : Gateway) (parts : List Part) → StandsFor k.number x parts → connection.role x.conn ≡ Client
client_role k x parts stands =
    let runs = (all_keep k.number x parts stands).stands.runs in
    role_is Client (connection.streams x.conn)
    (used_runs Client (moves parts) (core_of (fresh Client)) (core_of x.conn) (used_new Client) runs).0.0

pub offers_shown : (k : Gate) → Offers k (offers_on k)
offers_shown k x parts stands shows = by (m.carries x.phase) refl
  where
    phase : m.carries (phase_of k.phase) ≡ m.carries x.phase
    phase = ap m.carries (sym shows.phase)

    of : (a d e : Bool) → (true && a && true && d && e) ≡ (a && d && e)
    of true d e = refl
    of false d e = refl

    by : (b : Bool) → m.carries x.phase ≡ b → offers_on k ≡ m.offers x
    by false is =
        ap (λ (b : Bool). b && not k.away && is_client (connection.role k.conn) && is_ok (next_stream k.conn) && nat_le 1024 (room k.conn))
        (phase ∙ is) ∙ sym (ap (λ (b : Bool). b && m.has_room x) is)
    by true is =
        let conn = (carried k x shows is).conn in
        ap (λ (b : Bool). b && not k.away && is_client (connection.role k.conn) && is_ok (next_stream k.conn) && nat_le 1024 (room k.conn))
        (phase ∙ is)
        ∙ ap (λ (c : Connection). true && not k.away && is_client (connection.role c) && is_ok (next_stream c) && nat_le 1024 (room c))
        (sym conn)
        ∙ ap₂ (λ (a : Bool) (role : Role). true && not a && is_client role && is_ok (next_stream x.conn) && nat_le 1024 (room x.conn))
        (sym shows.away) (client_role k x parts stands)
        ∙ of (not x.away) (is_ok (next_stream x.conn)) (nat_le 1024 (room x.conn))
        ∙ sym (ap (λ (b : Bool). b && m.has_room x) is)
