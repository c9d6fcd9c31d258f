-- An upstream that is open.
use Rattle.std.proofs.Common.{◌≡◌, ℕ, ◌==◌, ◌&&◌, Bool, true, false, cond, min, [], ◌∷◌, length, Some, refl, ap, ap₂, is_some, sym, ◌∙◌, subst, arith}
use Rattle.std.proofs.lemmas.Bool.{false≢true, eqb-false}
use Rattle.std.specs.Prelude.{nat_le}
use Rattle.std.specs.FinMap.{get, insert}
use Rattle.hb_base.specs.declared.note.Note.TheVariants as note
use Rattle.hb_base.specs.declared.peer.Peer.{Peer}
use Rattle.hb_base.specs.declared.target.Target.{Target}
use Rattle.hb_conn.specs.Connection.{Connection, core_of}
use Rattle.hb_conn.specs.Observed.{count_put, own_side_open, status_put}
use Rattle.hb_conn.specs.Payload as payload
use Rattle.hb_frames.specs.Numbers.{largest}
use Rattle.hb_kept.proofs.Acts.{answers_kept}
use Rattle.hb_outgoing.specs.Waiting.{octets_of}
use Rattle.hb_owed.specs.declared.status.Status.{Status}
use Rattle.hb_tunnel.specs.Way.{Way, empty_way}
use Rattle.hb_world.specs.declared.entry.Entry.TheVariants as e
use Rattle.hb_inbound.specs.Calm.{RestsIn, Rests}
use Rattle.hb_inbound.specs.Inbound as m
use Rattle.hb_inbound.specs.Inbound.{Inbound, at_stream}
use Rattle.hb_inbound.specs.Part.{accepted}
use Rattle.hb_inbound.specs.Runs.{Local, with_link, with_tunnel}
use Rattle.hb_inbound.specs.Tunnel as t
use Rattle.hb_inbound.specs.Tunnel.{Tunnel as Machine, at_stage, takes_place, up_entered}
use Rattle.hb_inbound.proofs.Waiting.{speaks, is_before}
use Rattle.hb_link.specs.declared.link.Link.{Link}
use Rattle.hb_link.specs.declared.tunnel.Tunnel.{Tunnel}
use Rattle.hb_link.specs.Calls.{UpEnters}
use Rattle.hb_link.specs.Noted.{Told, Takes}
use Rattle.hb_link.specs.Counting.{uncounted}
use Rattle.hb_link.specs.Reaches.{Reaches}
use Rattle.hb_link.specs.Shows.{ShowsBy}
use Rattle.hb_link.specs.Tunnels.{as_told, opened_on, IsSound}
use Rattle.hb_link.proofs.Coming.{rests_open}
use Rattle.hb_link.proofs.Living.{it_serves, serving_waits}
use Rattle.hb_link.proofs.Moving.{finds, is_here, link_with, only_one, only_again, serves_on}
use Rattle.hb_link.proofs.Waits.{accept_holds, rests_still}

abbrev pub ok : Status
ok = record { number = 200; end = false }

-- of no bytes none goes
pub nothing_goes : (c : Connection) (s : ℕ) → count_put c s [] ≡ 0
nothing_goes c s = by (core_of c).over (nat_le s largest && length (octets_of (core_of c).out) == 0)
  where
    by : (over number : Bool) → cond over 0 (cond number (min 0 (payload.allowed (core_of c) s)) 0) ≡ 0
    by true number = refl
    by false true = omega arith
    by false false = refl

module _ (k : Link) (s u : ℕ) (told : Told) where
  -- this end's side of the stream is open
  pub not_opened : own_side_open k.conn s ≡ false → UpEnters s (e.Opened u) k told k told
  not_opened shut start before a b stands shows _ step =
      let x = a.link in
      let serving = it_serves k.number start a before stands s (ap takes_place step.0.1) in
      let fits = (serving_waits k.number start a before stands serving).each s in
      let way = subst (λ (phase : m.Phase). ShowsBy phase k x) serving shows.way in
      let own = fits.own (ap speaks step.0.1) (fits.early (ap is_before step.0.1)) in
      absurd (false≢true (sym shut ∙ sym (ap (λ (c : Connection). own_side_open c s) way.0) ∙ own))

  pub opened : (old : Tunnel) → get k.tunnels s ≡ Some old → (later : Told)
      → Takes told (note.Verdict k.number s 200 k.peer (Some old.target) ∷ []) later
      → UpEnters s (e.Opened u) k told (link_with (status_put k.conn s ok) (insert k.tunnels s (opened_on old)) k) later
  opened old is later took start before a b stands shows _ step =
      let x = a.link in
      let at = x.tunnels s in
      let serving = it_serves k.number start a before stands s (ap takes_place step.0.1) in
      let way = subst (λ (phase : m.Phase). ShowsBy phase k x) serving shows.way in
      let rest = subst (λ (phase : m.Phase). RestsIn phase x) serving shows.calm.rests in
      let found = finds k s x old shows is (ap is_here step.0.1) in
      let sound = subst (λ (stage : t.Stage). IsSound stage old) step.0.1 found.sound in
      let change = up_entered (e.Opened u) in
      let y = at_stream s change x in
      let now = y.tunnels s in
      let now_is : now ≡ change at = (only_one s change x).this in
      let next = at_stage t.live now in
      let d = status_put x.conn s ok in
      let z = with_tunnel s next d y in
      let down : next.ways.down ≡ empty_way =
      ap (λ (v : Machine). v.ways.down) now_is ∙ ap (λ (v : Machine). v.ways.down) found.told ∙ sound.1 in
      let rests : Rests d s next = rests_open d s next (ap (λ (w : Way). w.has_ended) down)
      (ap (λ (v : Machine). v.owed) now_is ∙ ap (λ (v : Machine). v.owed) found.told)
      (ap (λ (w : Way). count_put d s w.held) down ∙ nothing_goes d s) in
      let made = note.Verdict k.number s 200 k.peer (Some old.target) in
      let made_is = ap₂ (λ (peer : Peer) (to : Target). note.Verdict k.number s 200 peer (Some to)) (sym way.2)
      (sym (ap (λ (v : Machine). v.target) now_is ∙ ap (λ (v : Machine). v.target) found.told)) in (
        refl,
        subst (λ (w : Local). Reaches uncounted k.number w
            (link_with (status_put k.conn s ok) (insert k.tunnels s (opened_on old)) k) told later) (sym step.1)
            (record {
              parts = accepted s made ∷ [];
              reached = with_link z a;
              leads = (tt, tt, with_link z a, (serving, ap (λ (v : Machine). v.stage) now_is, made_is, refl), refl);
              shows = serves_on k x shows s (opened_on old) next (status_put k.conn s ok) d z.tunnels serving (ap is_some is)
                  (only_again s x.tunnels (change at) y (λ v. next) (only_one s change x)) (
                    ap (λ (v : Machine). as_told (at_stage t.live v)) now_is
                        ∙ ap (λ (v : Machine). record v { stage = t.live; ways = record v.ways { is_open = true } }) found.told,
                    sound.0,
                  )
                  refl (ap (λ (c : Connection). status_put c s ok) way.0)
                  (answers_kept x.conn s ok (shows.numbered s (ap is_some is)) way.1) rest.0 rests
                  (λ j apart. rests_still x.conn d j (x.tunnels j) (accept_holds x.conn s 200 j (eqb-false j s apart)) (rest.1 j));
              noted = took;
            }),
      )
