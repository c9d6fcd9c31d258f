-- How much there still may be to be looked at on a link to a gateway.
use Rattle.std.proofs.Common.{◌≡◌, ℕ, ◌<◌, Bool, true, List, Option, Some, None, is_some, refl, ap, sym, ◌∙◌, arith}
use Rattle.std.specs.FinMap.{get}
use Rattle.hb_base.specs.declared.cause.Cause.{Cause}
use Rattle.hb_gate.specs.Looking.{is_more, left_to_look}
use Rattle.hb_gate.specs.Streams.{TakesBy, TakesFrom, TakesMail}
use Rattle.hb_gate.specs.declared.gate.Gate.{Gate}
use Rattle.hb_gate.specs.declared.looking.Look.{Look}
use Rattle.hb_gate.specs.declared.looking.Look.TheVariants as look
use Rattle.hb_gate.specs.declared.looking.Mail.{Mail}
use Rattle.hb_gate.specs.declared.stream.Stream as code_stream
use Rattle.hb_gateway.specs.Response.{Heard, opens, brings, ends}
use Rattle.hb_link.specs.Noted.{Told}
use Rattle.hb_map.proofs.Laws.{put_here, written_where_some}
use Rattle.hb_map.specs.Keyed.{written}
use Rattle.hb_relay.specs.declared.relay.Relay.{Relay}
use Rattle.hb_relays.specs.Joining.{Gates}
use Rattle.hb_relays.specs.Looking.{HearsLook, HearsOn, MailAt, MailOn, TellsAt, left_at, left_on}
use Rattle.hb_relays.specs.Walks.{gate_touched_at}
use Rattle.hb_relays.specs.declared.relays.Relays.{Relays}
use Rattle.hb_relays.proofs.Settling.{delivered_gates, told_gates}

-- where the links to gateways are the same, as much is left
same_left : (n : ℕ) (k m : Relays) → m.gates ≡ k.gates → left_at n m ≡ left_at n k
same_left n k m same = ap (λ (gates : Gates). left_on (get gates n)) same

-- ANOTHER TAKES THE PLACE OF THE LINK
module _ (k m : Relays) (gates : Gates) (n : ℕ) (kept after : Gate) (is : get k.gates n ≡ Some kept)
    (gates_is : gates ≡ written k.gates n after) (m_is : m ≡ gate_touched_at n (record k { gates = gates })) where
  put_left : left_at n m ≡ left_to_look after
  put_left =
      ap (left_at n) m_is
      ∙ ap (λ (all : Gates). left_on (get all n)) (gates_is ∙ written_where_some k.gates n after (ap is_some is))
      ∙ ap left_on (put_here k.gates n after)

  -- on which less is left
  pub put_falls : left_to_look after < left_to_look kept → left_at n m < left_at n k
  put_falls less = let new = put_left in let old = ap left_on is in omega (arith, new, old, less)

  -- or as much
  pub put_stays : left_to_look after ≡ left_to_look kept → left_at n m ≡ left_at n k
  put_stays same = put_left ∙ same ∙ sym (ap left_on is)

-- MAIL THAT IS TAKEN leaves as much
taken_left : (s : ℕ) (kept after : Gate) (mail : Option Mail) → TakesMail s kept mail after → left_to_look after ≡ left_to_look kept
taken_left s kept after mail takes = by (get kept.streams s) takes.1
  where
    of : (o : Option Cause) (old : code_stream.Stream) → TakesBy o s old kept after → left_to_look after ≡ left_to_look kept
    of None old is = ap left_to_look is
    of (Some why) old is = ap left_to_look is.0

    by : (o : Option code_stream.Stream) → TakesFrom o s kept after → left_to_look after ≡ left_to_look kept
    by None is = ap left_to_look is
    by (Some old) is = of old.mail old is

mail_left : (n s : ℕ) (mail : Option Mail) (k m : Relays) → MailAt n s mail k m → left_at n m ≡ left_at n k
mail_left n s mail k m taken = by (get k.gates n) refl taken
  where
    by : (o : Option Gate) → get k.gates n ≡ o → MailOn o n s mail k m → left_at n m ≡ left_at n k
    by None none took = ap (left_at n) took.1
    by (Some kept) is took =
        ap (left_at n) took.2 ∙ ap left_on (put_here k.gates n took.0) ∙ taken_left s kept took.0 mail took.1 ∙ sym (ap left_on is)

pub tells_left : (n s : ℕ) (k m : Relays) (told now : Told) → TellsAt n s k told m now → left_at n m ≡ left_at n k
tells_left n s k m told now (mail, mid, taken, tells) =
    same_left n mid m (told_gates mail mid m told now tells) ∙ mail_left n s mail k mid taken

-- WHAT A TUNNEL HEARS changes no link to a gateway
heard_gates : (heard : Heard) (begun l : ℕ) (o : Option Relay) (k m : Relays) (told now : Told) → HearsOn heard begun l o k told m now
    → m.gates ≡ k.gates
heard_gates heard begun l None k m told now it = ap (λ (r : Relays). r.gates) it.0
heard_gates heard begun l (Some link) k m told now it = ap (λ (r : Relays). r.gates) it.4

look_gates : (found : Look) (bytes : List ℕ) (k m : Relays) (told now : Told) → HearsLook found bytes k told m now → m.gates ≡ k.gates
look_gates look.Nothing bytes k m told now it = ap (λ (r : Relays). r.gates) it.0
look_gates look.Passed bytes k m told now it = ap (λ (r : Relays). r.gates) it.0
look_gates look.Lacked bytes k m told now it = ap (λ (r : Relays). r.gates) it.0
look_gates (look.Opens s l end) bytes k m told now it = heard_gates (opens end) 0 l (get k.relays l) k m told now (it 0)
look_gates (look.Brings s l) bytes k m told now it = heard_gates (brings bytes) 0 l (get k.relays l) k m told now (it 0)
look_gates (look.Ends s l) bytes k m told now it = heard_gates ends 0 l (get k.relays l) k m told now (it 0)
look_gates (look.Fails mail) bytes k m told now it = delivered_gates (get k.relays mail.link) mail k m told now it

-- A LOOK: what is found is heard, tunnels are told their ends, and streams are reset
pub look_falls : (n : ℕ) (old k2 k3 k4 k5 : Relays) (found : Look) (bytes : List ℕ) (told one : Told) (more : Bool)
    → (is_more found ≡ true → left_at n k2 < left_at n old) → HearsLook found bytes k2 told k3 one → left_at n k4 ≡ left_at n k3
    → left_at n k5 ≡ left_at n k4 → more ≡ is_more found → more ≡ true → left_at n k5 < left_at n old
look_falls n old k2 k3 k4 k5 found bytes told one more falls hears settled reset is on =
    let less = falls (sym is ∙ on) in
    let heard = same_left n k2 k3 (look_gates found bytes k2 k3 told one hears) in
    omega (arith, less, heard, settled, reset)
