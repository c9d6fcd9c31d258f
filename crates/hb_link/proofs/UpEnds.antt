-- While the peer's side of a stream is open its tunnel's way up goes on, in every run of a link.
use Rattle.std.proofs.Common.{◌≡◌, ◌⊎◌, inl, inr, ℕ, ◌==◌, ◌||◌, not, Bool, true, false, cond, List, length, drop, Option, Some, None, refl, ap, sym, ◌∙◌, subst}
use Rattle.std.proofs.lemmas.Bool.{false≢true, eq-eqb, eqb-true}
use Rattle.std.specs.FinMap.{get-empty}
use Rattle.std.specs.Ordering.{nat_cmp}
use Rattle.hb_base.specs.declared.cause.Cause.{Cause}
use Rattle.hb_base.specs.declared.cause.Cause.TheVariants as cause
use Rattle.hb_conn.specs.Connection.{Connection, core_of, Finds, FindsWhile, FindsOf, FindsAfter, FindsBy, ended_by as ended_with, fresh_server}
use Rattle.hb_conn.specs.Faults.{faulted as fails}
use Rattle.hb_conn.specs.Observed as observed
use Rattle.hb_conn.specs.Observed.{sides, streams, chunk_of, is_paused, status_put, end_put, data_put, aborted}
use Rattle.hb_conn.specs.Outcome.{Gives}
use Rattle.hb_conn.specs.Preface.{is_whole}
use Rattle.hb_conn.specs.declared.found.Found.{Found}
use Rattle.hb_conn.specs.declared.found.Found.TheVariants as found
use Rattle.hb_conn.specs.declared.machine.Core.{Core}
use Rattle.hb_frames.specs.Numbers.{protocol_error}
use Rattle.hb_front.specs.Faults.{number_of}
use Rattle.hb_held.specs.Held.{Resources}
use Rattle.hb_held.specs.Outcome.{after_response}
use Rattle.hb_history.proofs.Moved.{no_sides}
use Rattle.hb_history.specs.Points as history
use Rattle.hb_hpack.specs.declared.header.HeaderList.{HeaderList}
use Rattle.hb_kept.specs.Looks.{IsLook}
use Rattle.hb_kept.specs.Sides.{own_ends, peer_ends, Becomes, SidesBehind}
use Rattle.hb_kept.proofs.Opened.{opened_is_open}
use Rattle.hb_kept.proofs.Sides.{write_leaves_all, put_leaves_all, use_leaves_all, answer_ends_side, end_ends_side, reset_ends_both, finds_sides}
use Rattle.hb_kept.proofs.SidesAt.{inactive_neither}
use Rattle.hb_streams.specs.declared.sides.Sides.{Sides}
use Rattle.hb_table.specs.Judgement.{judged}
use Rattle.hb_table.specs.declared.judgement.Judged.{Judged}
use Rattle.hb_table.specs.declared.judgement.Judged.TheVariants.{Admitted, Unknown, Denied}
use Rattle.hb_verdict.specs.declared.verdict.Verdict.{Verdict}
use Rattle.hb_verdict.specs.declared.verdict.Verdict.TheVariants.{Status, Reset, Dial}
use Rattle.hb_world.specs.declared.entry.Entry.{Entry}
use Rattle.hb_world.specs.declared.entry.Entry.TheVariants as e
use Rattle.hb_inbound.specs.Inbound.{Inbound, Phase, unborn, arriving, fronting, serving, faulted, closing, closed, at_stream, came_by, went_by, ended_by, broken_by, on_found, stops_by, judged_by, with_phase, lacking, fronted_by, rejudged, stopped_for}
use Rattle.hb_inbound.specs.Part.{Part, entry, up, welcomed, crowded, lacked, misfronted, looked, decided, accepted, refused, reset, left, done, put, finished, credited, applied, stopped, moves, tellings}
use Rattle.hb_inbound.specs.Part as part
use Rattle.hb_inbound.specs.Runs.{Local, MayCome, UpMayCome, entered, Steps, StandsFor, begins, goes_on, with_link, tunnel_for, put_down, refused_on}
use Rattle.hb_inbound.specs.Sides.{conn_came, link_went}
use Rattle.hb_inbound.specs.Tunnel.{Tunnel, live, over, gone, requested, takes_place, at_stage, ends_for, left_with, up_entered, came_up, peer_ended, requested_with}
use Rattle.hb_inbound.proofs.Admitted.{at_one}
use Rattle.hb_inbound.proofs.Left.{IsLeft, left_so, refuses_left, resets_left, leaves_left}
use Rattle.hb_inbound.proofs.Relaying.{comes_ended, ends_follow}
use Rattle.hb_inbound.proofs.Runs.{Keeps, all_keep}
use Rattle.hb_link.proofs.Room.{end_was_told}

-- the peer ended its side, as the tunnel knows, or the request that asks for it
abbrev is_ended : Tunnel → Bool
is_ended t = t.ways.up.has_ended || comes_ended t.stage

-- what holds of a stream, and of an end that is still to be told
record Goes (ph : Phase) (c : Connection) (s : ℕ) (t : Tunnel) : Type 0 where
  pub up : ph ≡ serving → (sides c s).peer ≡ true → is_ended t ≡ false
  pub told : ph ≡ serving → c.ended ≡ Some s → (sides c s).peer ≡ false

stays_off : (p q : Bool) → (q ≡ true → p ≡ true) → p ≡ false → q ≡ false
stays_off p false back off = refl
stays_off p true back off = absurd (false≢true (sym off ∙ back refl))

-- a tunnel that ended no more than another
abbrev Later : Tunnel → Tunnel → Type 0
Later old new = is_ended new ≡ true → is_ended old ≡ true

or_later : (a b c : Bool) → (c ≡ true → b ≡ true) → (a || c) ≡ true → (a || b) ≡ true
or_later true b c back is = refl
or_later false b c back is = back is

or_first : (a b : Bool) → a ≡ true → (a || b) ≡ true
or_first true b is = refl
or_first false b is = absurd (false≢true is)

or_none : (a : Bool) → (a || false) ≡ true → a ≡ true
or_none true is = refl
or_none false is = is

same_later : (t : Tunnel) → Later t t
same_later t is = is

-- of which the same way up goes on, at a stage that no longer asks
stage_later : (old new : Tunnel) → new.ways.up.has_ended ≡ old.ways.up.has_ended → comes_ended new.stage ≡ false → Later old new
stage_later old new same none is =
    or_first old.ways.up.has_ended (comes_ended old.stage)
    (sym same ∙ or_none new.ways.up.has_ended (ap (λ (b : Bool). new.ways.up.has_ended || b) (sym none) ∙ is))

ends_later : (why : Cause) (t : Tunnel) → Later t (ends_for why t)
ends_later why t = or_later t.ways.up.has_ended (comes_ended t.stage) (comes_ended (ends_for why t).stage) (ends_follow why t.stage).ends

left_later : (old new : Tunnel) → IsLeft old new → Later old new
left_later old new is =
    left_so (Later old) old new (stage_later old (at_stage gone old) refl refl)
    (λ why. stage_later old (at_stage (over why) old) refl refl) is

judged_later : (b : Bool) (j : Judged) (t : Tunnel) → Later t (cond b (judged_by j t) t)
judged_later false j t = same_later t
judged_later true Admitted t = same_later t
judged_later true Unknown t = ends_later cause.Revoked t
judged_later true Denied t = ends_later cause.Revoked t

-- WHAT THE CONNECTION DOES

-- on a stream whose peer's side is open it was open before
abbrev Follows : Connection → Connection → ℕ → Type 0
Follows c d s = (sides d s).peer ≡ true → (sides c s).peer ≡ true

goes_with : (ph qh : Phase) (c d : Connection) (s : ℕ) (old new : Tunnel) → (qh ≡ serving → ph ≡ serving) → d.ended ≡ c.ended
    → Follows c d s → Later old new → Goes ph c s old → Goes qh d s new
goes_with ph qh c d s old new back ended follows later goes = record {
  up = λ serves peer. stays_off (is_ended old) (is_ended new) later (goes.up (back serves) (follows peer));
  told = λ serves is. stays_off (sides c s).peer (sides d s).peer follows (goes.told (back serves) (sym ended ∙ is));
}

all_follow : (c d : Connection) → ((s : ℕ) → sides d s ≡ sides c s) → (s : ℕ) → Follows c d s
all_follow c d same s peer = sym (ap (λ (w : Sides). w.peer) (same s)) ∙ peer

becomes_follow : (c d : Connection) (k : ℕ) (now : Sides) → Becomes k now c d → (now.peer ≡ true → (sides c k).peer ≡ true) → (s : ℕ)
    → Follows c d s
becomes_follow c d k now becomes was s peer = by (s == k) refl
  where
    by : (b : Bool) → (s == k) ≡ b → (sides c s).peer ≡ true
    by true is =
        let same = eqb-true s k is in
        subst (λ n. (sides c n).peer ≡ true) (sym same)
        (was (sym (ap (λ (w : Sides). w.peer) becomes.here) ∙ sym (ap (λ n. (sides d n).peer) same) ∙ peer))
    by false apart = sym (ap (λ (w : Sides). w.peer) (becomes.others s (λ is. false≢true (sym apart ∙ eq-eqb s k is)))) ∙ peer

own_peer : (end : Bool) (w : Sides) → (own_ends end w).peer ≡ w.peer
own_peer true w = refl
own_peer false w = refl

answer_follows : (c : Connection) (k number : ℕ) (end : Bool) (s : ℕ) → Follows c (status_put c k (record { number = number; end = end })) s
answer_follows c k number end =
    becomes_follow c (status_put c k (record { number = number; end = end })) k (own_ends end (sides c k))
    (answer_ends_side c k (record { number = number; end = end })) (λ peer. sym (own_peer end (sides c k)) ∙ peer)

end_follows : (c : Connection) (k s : ℕ) → Follows c (end_put c k) s
end_follows c k = becomes_follow c (end_put c k) k (own_ends true (sides c k)) (end_ends_side c k) (λ peer. peer)

reset_follows : (c : Connection) (k code s : ℕ) → Follows c (aborted c k code) s
reset_follows c k code = becomes_follow c (aborted c k code) k _ (reset_ends_both c k code) (λ peer. absurd (false≢true peer))

refusal_follows : (c : Connection) (k status : ℕ) (resets : Bool) (s : ℕ) → Follows c (refused_on k status resets c) s
refusal_follows c k status false s = answer_follows c k status true s
refusal_follows c k status true s = λ peer.
    let mid = status_put c k (record { number = status; end = true }) in
    answer_follows c k status true s (reset_follows mid k 0 s peer)

refusal_ended : (c : Connection) (k status : ℕ) (resets : Bool) → (refused_on k status resets c).ended ≡ c.ended
refusal_ended c k status false = refl
refusal_ended c k status true = refl

-- what is still to be told behind what is found
abbrev Ended : Found → Connection → Connection → Type 0
Ended told c d =
    (d ≡ c) ⊎ ((d.ended ≡ None) ⊎ ((d.ended ≡ ended_with told) ⊎ ((code : ℕ) × (told ≡ found.Fault code))))

fault_told : (c new : Core) (code : ℕ) (told : Found) → Gives (fails c code) new told → told ≡ found.Fault code
unfolding Rattle.hb_conn.specs.Faults.faulted
fault_told c new code told gives = gives.1

ended_behind : (c d : Connection) (told : Found) → Finds c d told → Ended told c d
ended_behind c d told finds = by (is_paused c) finds
  where
    first : (same : Bool) → FindsBy same c d told → Ended told c d
    first true finds = inr (inr (inl finds.2))
    first false finds = inr (inr (inr (protocol_error, fault_told (core_of c) (core_of d) protocol_error told finds.0)))

    after : (whole : Bool) → FindsAfter whole c d told → Ended told c d
    after true finds = first c.preface.same finds
    after false finds = inl finds.0

    of : (o : Option ℕ) → FindsOf o c d told → Ended told c d
    of (Some k) finds = inr (inl (ap (λ (x : Connection). x.ended) finds.0))
    of None finds = after (is_whole c.preface) finds

    by : (paused : Bool) → FindsWhile paused c d told → Ended told c d
    by true finds = inl finds.0
    by false finds = of c.ended finds

some_same : (k s : ℕ) → Some k ≡ Some s → k ≡ s
some_same k s is = cc

none_some : {A : Type 0} → (s : ℕ) → None ≡ Some s → A
none_some s is = absurd (cc)

-- it is of DATA that ended the peer's side
chunk_ended : (c d : Connection) (told : Found) (s : ℕ) → SidesBehind told c d → ended_with told ≡ Some s → (sides d s).peer ≡ false
chunk_ended c d (found.Chunk k true) s side is =
    subst (λ n. (sides d n).peer ≡ false) (some_same k s is) (ap (λ (w : Sides). w.peer) side.here)
chunk_ended c d (found.Chunk k false) s side is = none_some s is
chunk_ended c d found.Silent s side is = none_some s is
chunk_ended c d (found.Opened k end) s side is = none_some s is
chunk_ended c d (found.Ended k) s side is = none_some s is
chunk_ended c d (found.Reset k code) s side is = none_some s is
chunk_ended c d (found.Broken k code) s side is = none_some s is
chunk_ended c d (found.GoneAway last) s side is = none_some s is
chunk_ended c d (found.Fault code) s side is = none_some s is

-- STEP AFTER STEP

module _ (l : ℕ) (start : Resources) (a : Local) (parts : List Part) (keeps : Keeps parts a.link)
    (goes : (s : ℕ) → Goes a.link.phase a.link.conn s (a.link.tunnels s)) where
  abbrev c : Connection
  c = a.link.conn

  abbrev ph : Phase
  ph = a.link.phase

  abbrev GoesIn : Inbound → Type 0
  GoesIn y = (s : ℕ) → Goes y.phase y.conn s (y.tunnels s)

  same : (s : ℕ) → Later (a.link.tunnels s) (a.link.tunnels s)
  same s = same_later (a.link.tunnels s)

  -- on each stream
  quiet : (y : Inbound) → (y.phase ≡ serving → ph ≡ serving) → y.conn.ended ≡ c.ended → ((s : ℕ) → Follows c y.conn s)
      → ((s : ℕ) → Later (a.link.tunnels s) (y.tunnels s)) → GoesIn y
  quiet y back ended follows later s =
      goes_with ph y.phase c y.conn s (a.link.tunnels s) (y.tunnels s) back ended (follows s) (later s) (goes s)

  -- the same connection
  calm : (y : Inbound) → (y.phase ≡ serving → ph ≡ serving) → y.conn ≡ c → ((s : ℕ) → Later (a.link.tunnels s) (y.tunnels s)) → GoesIn y
  calm y back same_conn later =
      quiet y back (ap (λ (x : Connection). x.ended) same_conn)
      (λ s. subst (λ (d : Connection). Follows c d s) (sym same_conn) (λ peer. peer)) later

  one_quiet : (s : ℕ) (change : Tunnel → Tunnel) (d : Connection) → d.ended ≡ c.ended → ((k : ℕ) → Follows c d k)
      → Later (a.link.tunnels s) (change (a.link.tunnels s)) → (k : ℕ) → Goes ph d k ((at_stream s change a.link).tunnels k)
  one_quiet s change d ended follows later =
      at_one s change a.link (λ k t. Goes ph d k t)
      (goes_with ph ph c d s (a.link.tunnels s) (change (a.link.tunnels s)) (λ is. is) ended (follows s) later (goes s))
      (λ k apart. goes_with ph ph c d k (a.link.tunnels k) (a.link.tunnels k) (λ is. is) ended (follows k) (same k) (goes k))

  came_goes : (bytes : List ℕ) (phase : Phase) → GoesIn (came_by phase bytes a.link)
  came_goes bytes unborn = goes
  came_goes bytes arriving = goes
  came_goes bytes fronting = goes
  came_goes bytes serving = quiet (came_by serving bytes a.link) (λ is. is) refl (λ s peer. peer) same
  came_goes bytes (faulted code) = goes
  came_goes bytes (closing why) = goes
  came_goes bytes closed = goes

  ended_goes : (phase : Phase) → GoesIn (ended_by phase a.link)
  ended_goes serving = calm (ended_by serving a.link) (λ is. absurd (cc)) refl (λ s. ends_later cause.PeerGone (a.link.tunnels s))
  ended_goes unborn = goes
  ended_goes arriving = goes
  ended_goes fronting = calm (ended_by fronting a.link) (λ is. absurd (cc)) refl same
  ended_goes (faulted code) = goes
  ended_goes (closing why) = goes
  ended_goes closed = goes

  broken_goes : (phase : Phase) → GoesIn (broken_by phase a.link)
  broken_goes serving = calm (broken_by serving a.link) (λ is. absurd (cc)) refl (λ s. ends_later cause.PeerGone (a.link.tunnels s))
  broken_goes unborn = goes
  broken_goes arriving = goes
  broken_goes fronting = calm (broken_by fronting a.link) (λ is. absurd (cc)) refl same
  broken_goes (faulted code) = calm (broken_by (faulted code) a.link) (λ is. absurd (cc)) refl same
  broken_goes (closing why) = goes
  broken_goes closed = goes

  -- a write ends no phase but that behind a connection error
  served : (phase : Phase) → went_by phase ≡ serving → phase ≡ serving
  served unborn is = is
  served arriving is = is
  served fronting is = is
  served serving is = is
  served (faulted code) is = absurd (cc)
  served (closing why) is = is
  served closed is = is

  entry_goes : (z : Entry) → MayCome l a.link z → GoesIn (entered z a.link)
  entry_goes (e.Accepted k d) may = calm (entered (e.Accepted k d) a.link) (λ is. absurd (cc)) refl same
  entry_goes (e.Came k bytes) may = came_goes bytes a.link.phase
  entry_goes (e.Ended k) may = ended_goes a.link.phase
  entry_goes (e.Went k bytes) may =
      quiet (entered (e.Went k bytes) a.link) (served ph) refl
      (all_follow c (observed.wrote c (length bytes)) (write_leaves_all c (length bytes))) same
  entry_goes (e.Broke k) may = broken_goes a.link.phase
  entry_goes (e.Closed k why) may = calm (entered (e.Closed k why) a.link) (λ is. absurd (cc)) refl same
  entry_goes (e.Balked w) may = goes
  entry_goes (e.Dialled k to why) may = absurd may
  entry_goes (e.DialFailed to why) may = absurd may
  entry_goes (e.Opened k) may = absurd may
  entry_goes (e.Shut k) may = absurd may
  entry_goes e.Tick may = absurd may
  entry_goes (e.Wait ready how) may = absurd may

  -- ENTRIES OF UPSTREAMS

  abbrev UpGoes : ℕ → Entry → Type 0
  UpGoes k z = (s : ℕ) → Goes ph c s ((at_stream k (up_entered z) a.link).tunnels s)

  up_quiet : (k : ℕ) (z : Entry) → Later (a.link.tunnels k) (up_entered z (a.link.tunnels k)) → UpGoes k z
  up_quiet k z later = one_quiet k (up_entered z) c refl (λ s peer. peer) later

  up_goes : (k : ℕ) (z : Entry) → UpMayCome l k a.link (a.link.tunnels k) z → UpGoes k z
  up_goes k (e.Dialled u to why) may = up_quiet k (e.Dialled u to why)
      (stage_later (a.link.tunnels k) (up_entered (e.Dialled u to why) (a.link.tunnels k)) refl refl)
  up_goes k (e.DialFailed to why) may = up_quiet k (e.DialFailed to why) (ends_later cause.UpFault (a.link.tunnels k))
  up_goes k (e.Opened u) may = up_quiet k (e.Opened u)
      (stage_later (a.link.tunnels k) (up_entered (e.Opened u) (a.link.tunnels k)) refl refl)
  up_goes k (e.Came u bytes) may = up_quiet k (e.Came u bytes) (same k)
  up_goes k (e.Ended u) may = up_quiet k (e.Ended u) (same k)
  up_goes k (e.Went u bytes) may = up_quiet k (e.Went u bytes) (same k)
  up_goes k (e.Broke u) may = up_quiet k (e.Broke u) (ends_later cause.UpFault (a.link.tunnels k))
  up_goes k (e.Shut u) may = up_quiet k (e.Shut u) (same k)
  up_goes k (e.Closed u why) may = up_quiet k (e.Closed u why)
      (stage_later (a.link.tunnels k) (up_entered (e.Closed u why) (a.link.tunnels k)) refl refl)
  up_goes k (e.Balked w) may = up_quiet k (e.Balked w) (same k)
  up_goes k (e.Accepted j d) may = absurd may
  up_goes k e.Tick may = absurd may
  up_goes k (e.Wait ready how) may = absurd may

  -- WHAT IS TOLD

  module _ (ps : List history.Point) (headers : HeaderList) (d : Connection) (serves : ph ≡ serving) where
    abbrev Looks : Found → Type 0
    Looks told = IsLook c ps told d

    behind : (told : Found) → Looks told → SidesBehind told c d
    behind told look = finds_sides c d told look.finds

    -- an end that is still to be told
    told_behind : (told : Found) → Looks told → ((code : ℕ) → told ≡ found.Fault code → ⊥) → (s : ℕ) → d.ended ≡ Some s
        → (sides d s).peer ≡ false
    told_behind told look sound s is = by (ended_behind c d told look.finds)
      where
        by : Ended told c d → (sides d s).peer ≡ false
        by (inl same_conn) =
            subst (λ (x : Connection). (sides x s).peer ≡ false) (sym same_conn)
            ((goes s).told serves (sym (ap (λ (x : Connection). x.ended) same_conn) ∙ is))
        by (inr (inl none)) = none_some s (sym none ∙ is)
        by (inr (inr (inl now))) = chunk_ended c d told s (behind told look) (sym now ∙ is)
        by (inr (inr (inr fault))) = absurd (sound fault.0 fault.1)

    -- the way up of each tunnel
    abbrev UpsGo : (ℕ → Tunnel) → Type 0
    UpsGo tunnels = (s : ℕ) → (sides d s).peer ≡ true → is_ended (tunnels s) ≡ false

    ups_all : ((s : ℕ) → Follows c d s) → UpsGo a.link.tunnels
    ups_all follows s peer = (goes s).up serves (follows s peer)

    ups_at : (k : ℕ) (change : Tunnel → Tunnel) → ((s : ℕ) → (s ≡ k → ⊥) → sides d s ≡ sides c s)
        → ((sides d k).peer ≡ true → is_ended (change (a.link.tunnels k)) ≡ false) → UpsGo (at_stream k change a.link).tunnels
    ups_at k change others here =
        at_one k change a.link (λ s t. (sides d s).peer ≡ true → is_ended t ≡ false) here
        (λ s apart peer.
        (goes s).up serves
        (sym (ap (λ (w : Sides). w.peer) (others s (λ is. false≢true (sym apart ∙ eq-eqb s k is)))) ∙ peer))

    both : (y : Inbound) → y.conn ≡ d → UpsGo y.tunnels → ((s : ℕ) → d.ended ≡ Some s → (sides d s).peer ≡ false) → GoesIn y
    both y conn ups told s = record {
      up = λ on peer. ups s (subst (λ (x : Connection). (sides x s).peer ≡ true) conn peer);
      told = λ on is.
          subst (λ (x : Connection). (sides x s).peer ≡ false) (sym conn) (told s (sym (ap (λ (x : Connection). x.ended) conn) ∙ is));
    }

    -- DATA ends the peer's side or leaves it
    peer_was : (end : Bool) (w : Sides) → (peer_ends end w).peer ≡ true → w.peer ≡ true
    peer_was true w is = absurd (false≢true is)
    peer_was false w is = is

    not_on : (end : Bool) → not end ≡ true → end ≡ false
    not_on true is = absurd (false≢true is)
    not_on false is = refl

    opened_up : (k : ℕ) (end : Bool) → Looks (found.Opened k end) → (sides d k).peer ≡ true → is_ended (requested_with headers end) ≡ false
    opened_up k end look peer =
        not_on end
        (sym (ap (λ (w : Sides). w.peer)
        (opened_is_open (moves parts) (tellings parts) (conn_came parts) (link_went parts) c d (found.Opened k end) keeps.one.stands
        look.finds))
        ∙ peer)

    found_goes : (told : Found) → Looks told → GoesIn (on_found told headers d a.link)
    found_goes found.Silent look =
        both (on_found found.Silent headers d a.link) refl (ups_all (all_follow c d (behind found.Silent look)))
        (told_behind found.Silent look (λ code is. cc))
    found_goes (found.Opened k end) look =
        both (on_found (found.Opened k end) headers d a.link) refl
        (ups_at k (λ t. requested_with headers end) (behind (found.Opened k end) look) (opened_up k end look))
        (told_behind (found.Opened k end) look (λ code is. cc))
    found_goes (found.Chunk k end) look =
        let side = behind (found.Chunk k end) look in
        both (on_found (found.Chunk k end) headers d a.link) refl
        (ups_at k (came_up (chunk_of d (found.Chunk k end))) side.others (λ peer.
        (goes k).up serves (peer_was end (sides c k) (sym (ap (λ (w : Sides). w.peer) side.here) ∙ peer))))
        (told_behind (found.Chunk k end) look (λ code is. cc))
    found_goes (found.Ended k) look =
        let was = end_was_told c d k look.finds in
        let none = (goes k).told serves was.0 in
        both (on_found (found.Ended k) headers d a.link) refl
        (ups_at k peer_ended (λ s apart. behind (found.Ended k) look s) (λ peer.
        absurd (false≢true (sym none ∙ sym (ap (λ (w : Sides). w.peer) (behind (found.Ended k) look k)) ∙ peer))))
        (told_behind (found.Ended k) look (λ code is. cc))
    found_goes (found.Reset k code) look =
        let side = behind (found.Reset k code) look in
        both (on_found (found.Reset k code) headers d a.link) refl
        (ups_at k (ends_for (cause.PeerReset code)) side.others (λ peer.
        absurd (false≢true (sym (ap (λ (w : Sides). w.peer) side.here) ∙ peer))))
        (told_behind (found.Reset k code) look (λ other is. cc))
    found_goes (found.Broken k code) look =
        let side = behind (found.Broken k code) look in
        both (on_found (found.Broken k code) headers d a.link) refl
        (ups_at k (ends_for (cause.StreamFault code)) side.others (λ peer.
        absurd (false≢true (sym (ap (λ (w : Sides). w.peer) side.here) ∙ peer))))
        (told_behind (found.Broken k code) look (λ other is. cc))
    found_goes (found.GoneAway last) look =
        both (on_found (found.GoneAway last) headers d a.link) refl (ups_all (all_follow c d (behind (found.GoneAway last) look)))
        (told_behind (found.GoneAway last) look (λ code is. cc))
    found_goes (found.Fault code) look = λ s. record { up = λ on. absurd (cc); told = λ on. absurd (cc) }

  asked_later : (s : ℕ) (answer : Verdict) (headers : HeaderList) (end : Bool) → (a.link.tunnels s).stage ≡ requested headers end
      → Later (a.link.tunnels s) (tunnel_for answer headers end)
  asked_later s (Status status) headers end is ended = absurd (false≢true ended)
  asked_later s Reset headers end is ended = absurd (false≢true ended)
  asked_later s (Dial target) headers false is ended = absurd (false≢true ended)
  asked_later s (Dial target) headers true is ended =
      let t = a.link.tunnels s in
      ap (λ (b : Bool). t.ways.up.has_ended || b) (ap comes_ended is) ∙ last t.ways.up.has_ended
    where
      last : (b : Bool) → (b || true) ≡ true
      last true = refl
      last false = refl

  to : (b : Local) (y : Inbound) → b ≡ with_link y a → GoesIn y → GoesIn b.link
  to b y is now = subst (λ (z : Local). GoesIn z.link) (sym is) now

  none_open : (s : ℕ) → (sides fresh_server s).peer ≡ false
  none_open s =
      ap (λ (w : Sides). w.peer)
      (inactive_neither (streams fresh_server) s (no_sides s (streams fresh_server) (get-empty nat_cmp s)))

  step_goes : (p : Part) (b : Local) → Steps l a p b → GoesIn b.link
  step_goes (entry z) b steps = to b (entered z a.link) steps.1 (entry_goes z steps.0)
  step_goes (up k z) b steps = to b (at_stream k (up_entered z) a.link) steps.1 (up_goes k z steps.0)
  step_goes welcomed b steps = to b _ steps.1 (calm (with_phase fronting a.link) (λ is. absurd (cc)) refl same)
  step_goes crowded b steps = to b _ steps.1 (calm (with_phase (closing cause.NoRoom) a.link) (λ is. absurd (cc)) refl same)
  step_goes lacked b steps =
      to b _ steps.1 (calm (lacking a.link) (λ is. absurd (cc)) refl (λ s. ends_later cause.NoMemory (a.link.tunnels s)))
  step_goes (part.fronted seen) b steps =
      to b (fronted_by seen steps.2 (drop seen.length a.link.front) a.link) steps.4 (λ s. record {
        up = λ serves peer. absurd (false≢true (sym (none_open s) ∙ peer));
        told = λ serves is. none_some s is;
      })
  step_goes (misfronted fault) b steps =
      to b _ steps.2 (calm (with_phase (closing (cause.FrontFault (number_of fault))) a.link) (λ is. absurd (cc)) refl same)
  step_goes (looked ps told headers) b steps =
      to b (on_found told headers steps.2 a.link) steps.5 (found_goes ps headers steps.2 steps.0 told steps.3)
  step_goes (decided s full answer) b steps =
      to b _ steps.5
      (one_quiet s (λ t. tunnel_for answer steps.1 steps.2) c refl (λ k peer. peer) (asked_later s answer steps.1 steps.2 steps.3))
  step_goes (accepted s made) b steps =
      to b _ steps.3
      (one_quiet s (λ t. at_stage live (a.link.tunnels s)) (status_put c s (record { number = 200; end = false })) refl
      (answer_follows c s 200 false) (stage_later (a.link.tunnels s) (at_stage live (a.link.tunnels s)) refl refl))
  step_goes (refused s status resets made) b steps =
      to b _ steps.4
      (one_quiet s (λ t. steps.1) (refused_on s status resets c) (refusal_ended c s status resets) (refusal_follows c s status resets)
      (left_later (a.link.tunnels s) steps.1 (refuses_left a.link l s status (a.link.tunnels s).stage made steps.1 steps.2)))
  step_goes (reset s code made) b steps =
      to b _ steps.3
      (one_quiet s (λ t. steps.1) (aborted c s code) refl (reset_follows c s code)
      (left_later (a.link.tunnels s) steps.1 (resets_left a.link l s code (a.link.tunnels s).stage made steps.1 steps.2)))
  step_goes (left s made) b steps =
      to b _ steps.2
      (one_quiet s (λ t. steps.0) c refl (λ k peer. peer)
      (left_later (a.link.tunnels s) steps.0 (leaves_left a.link l s 0 (a.link.tunnels s).stage made steps.0 steps.1)))
  step_goes (done s made) b steps =
      to b _ steps.3
      (one_quiet s (left_with cause.Done) c refl (λ k peer. peer)
      (left_later (a.link.tunnels s) (left_with cause.Done (a.link.tunnels s)) (inr (cause.Done, refl))))
  step_goes (put s bytes) b steps =
      to b _ steps.3
      (one_quiet s (λ t. put_down c s (a.link.tunnels s)) (data_put c s bytes) refl
      (all_follow c (data_put c s bytes) (put_leaves_all c s bytes)) (same s))
  step_goes (finished s) b steps =
      to b _ steps.2
      (one_quiet s (λ t. record (a.link.tunnels s) { end_put = true }) (end_put c s) refl (end_follows c s) (same s))
  step_goes (credited s n) b steps =
      to b _ steps.3
      (one_quiet s (λ t. record (a.link.tunnels s) { owed = 0 }) (observed.credited c s n) refl
      (all_follow c (observed.credited c s n) (use_leaves_all c s n)) (same s))
  step_goes (applied r) b steps =
      let h = after_response a.held r in
      subst (λ (z : Local). GoesIn z.link) (sym steps)
      (calm (rejudged h a.link) (λ is. is) refl
      (λ s. judged_later (takes_place (a.link.tunnels s).stage) (judged h a.link.peer (a.link.tunnels s).target) (a.link.tunnels s)))
  step_goes (stopped why) b steps =
      to b _ steps (calm (stopped_for why a.link) (stops_serving why ph) refl (λ s. ends_later why (a.link.tunnels s)))
    where
      stops_serving : (why : Cause) (phase : Phase) → stops_by why phase ≡ serving → phase ≡ serving
      stops_serving why unborn is = is
      stops_serving why arriving is = absurd (cc)
      stops_serving why fronting is = absurd (cc)
      stops_serving why serving is = refl
      stops_serving why (faulted code) is = is
      stops_serving why (closing cause) is = is
      stops_serving why closed is = is

all_go : (l : ℕ) (start : Resources) (a : Local) (parts : List Part) → StandsFor l start a parts
    → (s : ℕ) → Goes a.link.phase a.link.conn s (a.link.tunnels s)
all_go l start a parts (begins is none) =
    subst (λ (z : Local). (s : ℕ) → Goes z.link.phase z.link.conn s (z.link.tunnels s)) (sym is)
    (λ s. record { up = λ on. absurd (cc); told = λ on. absurd (cc) })
all_go l start b more (goes_on {a = a} {parts = parts} before p steps is) =
    step_goes l start a parts (all_keep l start a parts before) (all_go l start a parts before) p b steps

or_off : (a b : Bool) → (a || b) ≡ false → a ≡ false
or_off true b is = absurd (false≢true (sym is))
or_off false b is = refl

-- where DATA comes, which it does while the peer's side is open, the way up hasn't ended
pub ups_go : (l : ℕ) (start : Resources) (a : Local) (parts : List Part) → StandsFor l start a parts → a.link.phase ≡ serving
    → (s : ℕ) → (sides a.link.conn s).peer ≡ true → (a.link.tunnels s).ways.up.has_ended ≡ false
ups_go l start a parts stands serves s peer =
    let t = a.link.tunnels s in
    or_off t.ways.up.has_ended (comes_ended t.stage) ((all_go l start a parts stands s).up serves peer)
