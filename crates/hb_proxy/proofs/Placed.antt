-- A tunnel takes a place from its answer alone, and a plain link from its welcome.
use Rattle.std.proofs.Common.{◌≡◌, inr, ⊎_elim, ℕ, ◌==◌, Bool, true, false, cond, refl, ap, sym, ◌∙◌, subst}
use Rattle.std.proofs.lemmas.Bool.{cond_both, eqb-true, false≢true}
use Rattle.std.specs.Prelude.{⊤, List, ◌&&◌, not}
use Rattle.hb_base.specs.declared.cause.Cause.{Cause}
use Rattle.hb_base.specs.declared.cause.Cause.TheVariants as cause
use Rattle.hb_base.specs.declared.peer.Peer.{Peer}
use Rattle.hb_captured.specs.Captured as captured
use Rattle.hb_captured.specs.Captured.{Captured}
use Rattle.hb_captured.specs.Part as captured_part
use Rattle.hb_captured.specs.Runs as relays
use Rattle.hb_conn.specs.declared.found.Found.{Found}
use Rattle.hb_conn.specs.declared.found.Found.TheVariants as found
use Rattle.hb_gateway.specs.Response as response
use Rattle.hb_gateway.specs.Response.{Heard, opens, brings, fails}
use Rattle.hb_held.specs.Held.{Resources}
use Rattle.hb_hpack.specs.declared.header.HeaderList.{HeaderList}
use Rattle.hb_inbound.proofs.Left.{IsLeft, left_placeless, refuses_left, resets_left, leaves_left}
use Rattle.hb_inbound.specs.Inbound.{Inbound, Phase, fronting, serving, faulted, came_by, ended_by, broken_by, told_of, judged_by, rejudged}
use Rattle.hb_inbound.specs.Part as part
use Rattle.hb_inbound.specs.Part.{Part}
use Rattle.hb_inbound.specs.Runs.{Local, Steps, entered, UpMayCome, IsAnswerTo, tunnel_for}
use Rattle.hb_inbound.specs.Tunnel as tunnel
use Rattle.hb_inbound.specs.Tunnel.{Tunnel, Stage, takes_place, ends_by, up_entered}
use Rattle.hb_table.specs.Judgement.{judged}
use Rattle.hb_table.specs.declared.judgement.Judged.{Judged}
use Rattle.hb_table.specs.declared.judgement.Judged.TheVariants.{Admitted, Unknown, Denied}
use Rattle.hb_verdict.specs.declared.request.Request.{Request}
use Rattle.hb_verdict.specs.declared.request.Request.TheVariants.{Refused, Malformed, Connect}
use Rattle.hb_verdict.specs.Verdict.{verdict, dial_judged, leads_back, synced}
use Rattle.hb_verdict.specs.declared.verdict.Verdict.{Verdict}
use Rattle.hb_verdict.specs.declared.verdict.Verdict.TheVariants.{Status, Reset, Dial}
use Rattle.hb_world.specs.declared.entry.Entry.{Entry}
use Rattle.hb_world.specs.declared.entry.Entry.TheVariants as e
use Rattle.hb_proxy.specs.Limits.{has_place}
use Rattle.hb_proxy.specs.Load.{is_placed}

-- A TUNNEL OF AN INBOUND LINK

abbrev pub Has : Tunnel → Type 0
Has t = takes_place t.stage ≡ true

ends_place : (why : Cause) (stage : Stage) → takes_place (ends_by why stage) ≡ true → takes_place stage ≡ true
ends_place why tunnel.due is = absurd (false≢true is)
ends_place why tunnel.opening is = absurd (false≢true is)
ends_place why tunnel.accepting is = absurd (false≢true is)
ends_place why tunnel.live is = absurd (false≢true is)
ends_place why _ is = is

-- one tunnel becomes another, or each
module _ (x : Inbound) (s : ℕ) where
  one : (change : Tunnel → Tunnel) → ((k : ℕ) → k ≡ s → Has (change (x.tunnels k)) → Has (x.tunnels k)) → (k : ℕ)
      → Has (cond (k == s) (change (x.tunnels k)) (x.tunnels k)) → Has (x.tunnels k)
  one change falls k =
      cond_both (k == s) (change (x.tunnels k)) (x.tunnels k) (λ t. Has t → Has (x.tunnels k))
      (λ same. falls k (eqb-true k s same)) (λ apart is. is)

  -- the one on the stream had a place
  had : takes_place (x.tunnels s).stage ≡ true → (k : ℕ) → k ≡ s → Has (x.tunnels k)
  had is k same = subst (λ (j : ℕ). Has (x.tunnels j)) (sym same) is

came_place : (phase : Phase) (bytes : List ℕ) (x : Inbound) (k : ℕ) → Has ((came_by phase bytes x).tunnels k) → Has (x.tunnels k)
came_place fronting bytes x k is = is
came_place serving bytes x k is = is
came_place _ bytes x k is = is

ended_place : (phase : Phase) (x : Inbound) (k : ℕ) → Has ((ended_by phase x).tunnels k) → Has (x.tunnels k)
ended_place fronting x k is = is
ended_place serving x k is = ends_place cause.PeerGone (x.tunnels k).stage is
ended_place _ x k is = is

broke_place : (phase : Phase) (x : Inbound) (k : ℕ) → Has ((broken_by phase x).tunnels k) → Has (x.tunnels k)
broke_place fronting x k is = is
broke_place serving x k is = ends_place cause.PeerGone (x.tunnels k).stage is
broke_place (faulted code) x k is = is
broke_place _ x k is = is

entry_place : (z : Entry) (x : Inbound) (k : ℕ) → Has ((entered z x).tunnels k) → Has (x.tunnels k)
entry_place (e.Came l bytes) x k is = came_place x.phase bytes x k is
entry_place (e.Ended l) x k is = ended_place x.phase x k is
entry_place (e.Broke l) x k is = broke_place x.phase x k is
entry_place (e.Accepted l d) x k is = is
entry_place (e.Went l bytes) x k is = is
entry_place (e.Closed l why) x k is = is
entry_place _ x k is = is

up_place : (l s : ℕ) (x : Inbound) (z : Entry) → UpMayCome l s x (x.tunnels s) z → (k : ℕ)
    → Has (cond (k == s) (up_entered z (x.tunnels k)) (x.tunnels k)) → Has (x.tunnels k)
up_place l s x (e.Dialled u to why) may k is = one x s (up_entered (e.Dialled u to why)) (λ j same was. had x s (ap takes_place may.1) j same) k is
up_place l s x (e.DialFailed to why) may k is =
    one x s (up_entered (e.DialFailed to why)) (λ j same was. ends_place cause.UpFault (x.tunnels j).stage was) k is
up_place l s x (e.Opened u) may k is = one x s (up_entered (e.Opened u)) (λ j same was. had x s (ap takes_place may.1) j same) k is
up_place l s x (e.Broke u) may k is =
    one x s (up_entered (e.Broke u)) (λ j same was. ends_place cause.UpFault (x.tunnels j).stage was) k is
up_place l s x (e.Closed u why) may k is = one x s (up_entered (e.Closed u why)) (λ j same was. absurd (false≢true was)) k is
up_place l s x (e.Came u bytes) may k is = one x s (up_entered (e.Came u bytes)) (λ j same was. was) k is
up_place l s x (e.Ended u) may k is = one x s (up_entered (e.Ended u)) (λ j same was. was) k is
up_place l s x (e.Went u bytes) may k is = one x s (up_entered (e.Went u bytes)) (λ j same was. was) k is
up_place l s x (e.Shut u) may k is = one x s (up_entered (e.Shut u)) (λ j same was. was) k is
up_place l s x z may k is = one x s (up_entered z) (λ j same was. was) k is

told_place : (told : Found) (headers : HeaderList) (bytes : List ℕ) (x : Inbound) (k : ℕ) → Has ((told_of told headers bytes x).tunnels k)
    → Has (x.tunnels k)
told_place (found.Opened s end) headers bytes x k is = one x s (λ t. tunnel.requested_with headers end) (λ j same was. absurd (false≢true was)) k is
told_place (found.Chunk s end) headers bytes x k is = one x s (tunnel.came_up bytes) (λ j same was. was) k is
told_place (found.Ended s) headers bytes x k is = one x s tunnel.peer_ended (λ j same was. was) k is
told_place (found.Reset s code) headers bytes x k is =
    one x s (tunnel.ends_for (cause.PeerReset code)) (λ j same was. ends_place (cause.PeerReset code) (x.tunnels j).stage was) k is
told_place (found.Broken s code) headers bytes x k is =
    one x s (tunnel.ends_for (cause.StreamFault code)) (λ j same was. ends_place (cause.StreamFault code) (x.tunnels j).stage was) k is
told_place (found.Fault code) headers bytes x k is = ends_place (cause.ConnFault code) (x.tunnels k).stage is
told_place _ headers bytes x k is = is

judged_place : (b : Bool) (j : Judged) (t : Tunnel) → takes_place t.stage ≡ b → Has (cond b (judged_by j t) t) → Has t
judged_place true j t at is = at
judged_place false j t at is = is

pub rejudged_place : (h : Resources) (x : Inbound) (k : ℕ) → Has ((rejudged h x).tunnels k) → Has (x.tunnels k)
rejudged_place h x k is =
    judged_place (takes_place (x.tunnels k).stage) (judged h x.peer (x.tunnels k).target) (x.tunnels k) refl is

pub stopped_place : (why : Cause) (x : Inbound) (k : ℕ) → takes_place (ends_by why (x.tunnels k).stage) ≡ true → Has (x.tunnels k)
stopped_place why x k is = ends_place why (x.tunnels k).stage is

-- where all places are taken none is given
abbrev is_dial : Verdict → Bool
is_dial (Dial target) = true
is_dial _ = false

no_dial : (r : Request) (h : Resources) (peer : Peer) → is_dial (verdict r h peer true) ≡ false
no_dial (Refused status) h peer = refl
no_dial Malformed h peer = refl
no_dial (Connect target) h peer =
    cond_both (not (synced h)) (Status 503) (dial_judged (judged h peer target) (leads_back h.doors target) true target)
    (λ (v : Verdict). is_dial v ≡ false) (λ is. refl) (λ is. by (judged h peer target) (leads_back h.doors target))
  where
    by : (j : Judged) (own : Bool) → is_dial (dial_judged j own true target) ≡ false
    by Unknown own = refl
    by Denied own = refl
    by Admitted true = refl
    by Admitted false = refl

answer_place : (answer : Verdict) (headers : HeaderList) (end : Bool) → is_dial answer ≡ false → Has (tunnel_for answer headers end) → ⊥
answer_place (Status status) headers end not_dial is = false≢true is
answer_place Reset headers end not_dial is = false≢true is
answer_place (Dial target) headers end not_dial is = false≢true (sym not_dial)

answer_full : (a : Local) (headers : HeaderList) (answer : Verdict) → IsAnswerTo a headers true answer → is_dial answer ≡ false
answer_full a headers answer is =
    ⊎_elim (λ h. ap is_dial h ∙ no_dial _ a.held a.link.peer) (λ h. ap is_dial h.2) is

-- such an answer takes no place; another one takes one at most
abbrev pub Places : Part → Type 0
Places (part.decided s false answer) = ⊤
Places _ = ⊥

module _ (l : ℕ) (a b : Local) where
  at : (z : Local) → b ≡ z → (k : ℕ) → Has (b.link.tunnels k) → Has (z.link.tunnels k)
  at z same k is = subst (λ (c : Local). Has (c.link.tunnels k)) same is

  -- a tunnel of which nothing is left has none
  leaves : (s : ℕ) (next : Tunnel) → IsLeft (a.link.tunnels s) next → (k : ℕ) → Has (cond (k == s) next (a.link.tunnels k))
      → Has (a.link.tunnels k)
  leaves s next left k is =
      one a.link s (λ t. next)
      (λ j same was. absurd (false≢true (sym (left_placeless (a.link.tunnels s) next left).0 ∙ was))) k is

  -- one that lives had one
  lives : (s : ℕ) (next : Tunnel) → takes_place (a.link.tunnels s).stage ≡ true → (k : ℕ) → Has (cond (k == s) next (a.link.tunnels k))
      → Has (a.link.tunnels k)
  lives s next is k now = one a.link s (λ t. next) (λ j same was. had a.link s is j same) k now

  pub part_place : (p : Part) → Steps l a p b → (Places p → ⊥) → (k : ℕ) → Has (b.link.tunnels k) → Has (a.link.tunnels k)
  part_place (part.entry z) steps other k is = entry_place z a.link k (at _ steps.1 k is)
  part_place (part.up s z) steps other k is = up_place l s a.link z steps.0 k (at _ steps.1 k is)
  part_place part.welcomed steps other k is = at _ steps.1 k is
  part_place part.crowded steps other k is = at _ steps.1 k is
  part_place part.lacked steps other k is = ends_place cause.NoMemory (a.link.tunnels k).stage (at _ steps.1 k is)
  part_place (part.fronted seen) steps other k is = at _ steps.4 k is
  part_place (part.misfronted fault) steps other k is = at _ steps.2 k is
  part_place (part.looked ps told headers) steps other k is =
      told_place told headers _ (record a.link { conn = steps.2 }) k (at _ steps.5 k is)
  part_place (part.decided s true answer) steps other k is =
      one a.link s (λ t. tunnel_for answer steps.1 steps.2)
      (λ j same was. absurd (answer_place answer steps.1 steps.2 (answer_full a steps.1 answer steps.4) was)) k (at _ steps.5 k is)
  part_place (part.decided s false answer) steps other k is = absurd (other tt)
  part_place (part.accepted s made) steps other k is = lives s _ (ap takes_place steps.1) k (at _ steps.3 k is)
  part_place (part.refused s status resets made) steps other k is =
      leaves s steps.1 (refuses_left a.link l s status (a.link.tunnels s).stage made steps.1 steps.2) k (at _ steps.4 k is)
  part_place (part.reset s code made) steps other k is =
      leaves s steps.1 (resets_left a.link l s code (a.link.tunnels s).stage made steps.1 steps.2) k (at _ steps.3 k is)
  part_place (part.left s made) steps other k is =
      leaves s steps.0 (leaves_left a.link l s 0 (a.link.tunnels s).stage made steps.0 steps.1) k (at _ steps.2 k is)
  part_place (part.done s made) steps other k is =
      one a.link s (tunnel.left_with cause.Done) (λ j same was. absurd (false≢true
      (sym (left_placeless (a.link.tunnels j) (tunnel.left_with cause.Done (a.link.tunnels j)) (inr (cause.Done, refl))).0 ∙ was)))
      k (at _ steps.3 k is)
  part_place (part.put s bytes) steps other k is = lives s _ (ap takes_place steps.0.2) k (at _ steps.3 k is)
  part_place (part.finished s) steps other k is = lives s _ (ap takes_place steps.0.2) k (at _ steps.2 k is)
  part_place (part.credited s n) steps other k is = lives s _ (ap takes_place steps.0.2) k (at _ steps.3 k is)
  part_place (part.applied r) steps other k is = rejudged_place _ a.link k (at _ steps k is)
  part_place (part.stopped why) steps other k is = stopped_place why a.link k (at _ steps k is)

-- A PLAIN LINK

pub in_placed : (stage : captured.Stage) → has_place stage ≡ true → is_placed stage ≡ true
in_placed captured.fronting is = is
in_placed captured.due is = is
in_placed captured.opening is = is
in_placed captured.accepting is = is
in_placed captured.live is = is
in_placed captured.arriving is = absurd (false≢true is)
in_placed _ is = is

pub plain_ends : (why : Cause) (stage : captured.Stage) → has_place (captured.ends_by why stage) ≡ true → has_place stage ≡ true
plain_ends why captured.arriving is = absurd (false≢true is)
plain_ends why captured.fronting is = absurd (false≢true is)
plain_ends why captured.due is = absurd (false≢true is)
plain_ends why captured.opening is = absurd (false≢true is)
plain_ends why captured.accepting is = absurd (false≢true is)
plain_ends why captured.live is = absurd (false≢true is)
plain_ends why _ is = is

came_stage : (stage : captured.Stage) (bytes : List ℕ) (x : Captured) → (captured.came_by stage bytes x).stage ≡ x.stage
came_stage captured.fronting bytes x = refl
came_stage _ bytes x = refl

hung_place : (stage : captured.Stage) → has_place (captured.hung_up stage) ≡ true → has_place stage ≡ true
hung_place captured.fronting is = absurd (false≢true is)
hung_place _ is = is

plain_entry : (z : Entry) (x : Captured) → has_place (captured.entered z x).stage ≡ true → has_place x.stage ≡ true
plain_entry (e.Accepted l d) x is = absurd (false≢true is)
plain_entry (e.Came l bytes) x is = sym (ap has_place (came_stage x.stage bytes x)) ∙ is
plain_entry (e.Ended l) x is = hung_place x.stage is
plain_entry (e.Broke l) x is = plain_ends cause.PeerGone x.stage is
plain_entry (e.Went l bytes) x is = is
plain_entry (e.Shut l) x is = is
plain_entry (e.Closed l why) x is = is
plain_entry _ x is = is

relay_entry : (l : ℕ) (z : Entry) (x : Captured) → relays.UpMayCome l x z → has_place (captured.up_entered z x).stage ≡ true
    → has_place x.stage ≡ true
relay_entry l (e.Dialled u to why) x may is = ap has_place may.0.1
relay_entry l (e.DialFailed to why) x may is = plain_ends cause.UpFault x.stage is
relay_entry l (e.Opened u) x may is = ap has_place may.0.1
relay_entry l (e.Broke u) x may is = plain_ends cause.UpFault x.stage is
relay_entry l (e.Came u bytes) x may is = is
relay_entry l (e.Ended u) x may is = is
relay_entry l (e.Went u bytes) x may is = is
relay_entry l (e.Shut u) x may is = is
relay_entry l (e.Closed u why) x may is = is
relay_entry l _ x may is = is

opens_place : (stage : captured.Stage) (end : Bool) (x : Captured) → relays.MayHear stage (opens end) x → has_place stage ≡ true
opens_place captured.opening end x may = refl
opens_place captured.unborn end x may = absurd may
opens_place captured.arriving end x may = absurd may
opens_place captured.fronting end x may = absurd may
opens_place captured.due end x may = absurd may
opens_place captured.accepting end x may = absurd may
opens_place captured.live end x may = absurd may
opens_place (captured.failed why) end x may = absurd may
opens_place (captured.ended why) end x may = absurd may
opens_place (captured.over why) end x may = absurd may

heard_place : (heard : Heard) (begun : ℕ) (x : Captured) → relays.MayHear x.stage heard x → has_place (captured.told_by heard begun x).stage ≡ true
    → has_place x.stage ≡ true
heard_place (opens end) begun x may is = opens_place x.stage end x may
heard_place (brings bytes) begun x may is = is
heard_place response.ends begun x may is = is
heard_place (fails why) begun x may is = plain_ends why x.stage is

left_stage : (stage : captured.Stage) → has_place (captured.left_by stage) ≡ true → has_place stage ≡ true
left_stage (captured.failed why) is = is
left_stage (captured.ended why) is = is
left_stage _ is = is

abbrev pub PlainPlaces : captured_part.Part → Type 0
PlainPlaces captured_part.welcomed = ⊤
PlainPlaces _ = ⊥

pub plain_place : (l : ℕ) (a : relays.Local) (p : captured_part.Part) → relays.MayGo l a p → (PlainPlaces p → ⊥)
    → has_place (relays.next_link a.link p).stage ≡ true → has_place a.link.stage ≡ true
plain_place l a (captured_part.entry z) may other is = plain_entry z a.link is
plain_place l a (captured_part.up z) may other is = relay_entry l z a.link may is
plain_place l a captured_part.welcomed may other is = absurd (other tt)
plain_place l a captured_part.crowded may other is = plain_ends cause.NoRoom a.link.stage is
plain_place l a captured_part.lacked may other is = plain_ends cause.NoMemory a.link.stage is
plain_place l a (captured_part.misfronted fault) may other is = plain_ends _ a.link.stage is
plain_place l a (captured_part.fronted seen routing aim) may other is = ap has_place may.0.0
plain_place l a (captured_part.refused seen routing why status made) may other is = absurd (false≢true is)
plain_place l a (captured_part.accepted made) may other is = ap has_place may.0
plain_place l a captured_part.roomless may other is = plain_ends cause.NoRoom a.link.stage is
plain_place l a (captured_part.asked gate stream) may other is = ap has_place may.0
plain_place l a (captured_part.hears heard begun) may other is = heard_place heard begun a.link may.1 is
plain_place l a (captured_part.put bytes) may other is = is
plain_place l a captured_part.finished may other is = is
plain_place l a (captured_part.credited n) may other is = is
plain_place l a (captured_part.loosed begun) may other is = is
plain_place l a (captured_part.completed begun made) may other is = absurd (false≢true is)
plain_place l a (captured_part.left made) may other is = left_stage a.link.stage is
plain_place l a (captured_part.done made) may other is = absurd (false≢true is)
plain_place l a (captured_part.applied r) may other is = is
plain_place l a (captured_part.stopped why) may other is = plain_ends why a.link.stage is

pub plain_rejudged : (h : Resources) (x : Captured) → has_place (captured.rejudged h x).stage ≡ true → has_place x.stage ≡ true
plain_rejudged h x = by (captured.judges x.door && captured.is_judged x.stage)
  where
    of : (j : Judged) → has_place (captured.judged_by j x).stage ≡ true → has_place x.stage ≡ true
    of Admitted is = is
    of Unknown is = plain_ends cause.Revoked x.stage is
    of Denied is = plain_ends cause.Revoked x.stage is

    by : (b : Bool) → has_place (cond b (captured.judged_by (judged h x.peer x.target) x) x).stage ≡ true → has_place x.stage ≡ true
    by true is = of (judged h x.peer x.target) is
    by false is = is
