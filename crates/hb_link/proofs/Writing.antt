-- Bytes that were written to an upstream.
use Rattle.std.proofs.Common.{◌≡◌, ℕ, ◌+◌, ◌-◌, ◌^◌, ◌<◌, ◌==◌, Bool, true, false, cond, min, List, [], ◌∷◌, length, Some, refl, ap, ap₂, sym, ◌∙◌, subst, arith}
use Rattle.std.proofs.lemmas.Bool.Decides.{nat_tests}
use Rattle.std.specs.FinMap.{get, insert}
use Rattle.hb_base.specs.declared.cause.Cause.TheVariants as cause
use Rattle.hb_base.specs.declared.note.Note.TheVariants as note
use Rattle.hb_conn.specs.Connection.{Connection}
use Rattle.hb_conn.specs.Observed.{creditable, credited, count_put}
use Rattle.hb_kept.proofs.Acts.{uses_kept}
use Rattle.hb_tunnel.specs.Way.{Way, after, takes}
use Rattle.hb_world.specs.declared.entry.Entry.TheVariants as e
use Rattle.hb_inbound.specs.Calm.{Rests, RestsBy, may_end, is_done_on}
use Rattle.hb_inbound.specs.Inbound.{Inbound, at_stream}
use Rattle.hb_inbound.specs.Part.{credited as credits, done}
use Rattle.hb_inbound.specs.Runs.{Local, IsLiveOn, UpMayCome, with_link, with_tunnel, counted, end_note}
use Rattle.hb_inbound.specs.Tunnel as t
use Rattle.hb_inbound.specs.Tunnel.{Tunnel as Machine, up_entered, is_unanswered, left_with}
use Rattle.hb_link.specs.declared.link.Link.{Link}
use Rattle.hb_link.specs.declared.tunnel.Stage.TheVariants.{Over}
use Rattle.hb_link.specs.declared.tunnel.Tunnel.{Tunnel}
use Rattle.hb_link.specs.Calls.{UpEnters}
use Rattle.hb_link.specs.Noted.{Told, Takes}
use Rattle.hb_link.specs.Counting.{uncounted}
use Rattle.hb_link.specs.Reaches.{Reaches}
use Rattle.hb_link.specs.Shows.{Shows}
use Rattle.hb_link.specs.Tunnels.{tunnel_of, as_told, ShowsTunnel}
use Rattle.hb_link.proofs.Living.{Lives, lives, shows_live}
use Rattle.hb_link.proofs.Moving.{link_with, machine_with, answered_at, Only, only_one, only_again, at_only, serves_on}
use Rattle.hb_link.proofs.Noted.{takes_none}
use Rattle.hb_link.proofs.Waits.{Holds, use_holds, live_still, rests_still}

-- a count that stops grows by what is added to it
pub counted_more : (old n : ℕ) → counted (old + n) ≡ min (counted old + n) (2 ^ 64 - 1)
counted_more old n = omega arith

-- the code's tunnel behind it
abbrev pub wrote_here : ℕ → Tunnel → Tunnel
wrote_here n k = record k {
  ways = record k.ways { up = after k.ways.up (takes n) };
  went_up = min (k.went_up + n) (2 ^ 64 - 1);
}

-- what was written is given back
abbrev pub credit_back : ℕ → ℕ → Connection → Connection
credit_back s n c = credited c s (min n (creditable c s))

abbrev pub over_at : ℕ → Tunnel → Tunnel
over_at n old = record (wrote_here n old) { stage = Over cause.Done }

module _ (a : Local) (k : Link) (shows : Shows k a.link) (s u : ℕ) (bytes : List ℕ) (old : Tunnel)
    (lives : Lives k a.link s old) (may : UpMayCome k.number s a.link (a.link.tunnels s) (e.Went u bytes)) where
  abbrev x : Inbound
  x = a.link

  abbrev at : Machine
  at = x.tunnels s

  abbrev n : ℕ
  n = length bytes

  abbrev change : Machine → Machine
  change = up_entered (e.Went u bytes)

  abbrev y : Inbound
  y = at_stream s change x

  live : at.stage ≡ t.live
  live = may.0.1

  abbrev now : Machine
  now = y.tunnels s

  now_is : now ≡ change at
  now_is = (only_one s change x).this

  owed_is : now.owed ≡ n
  owed_is = ap (λ (z : Machine). z.owed) now_is ∙ ap (λ (i : ℕ). i + n) lives.rests.given_back ∙ (omega arith)

  abbrev given : ℕ
  given = min now.owed (creditable x.conn s)

  abbrev d : Connection
  d = credited x.conn s given

  abbrev next : Machine
  next = record now { owed = 0 }

  stage_now : now.stage ≡ t.live
  stage_now = ap (λ (z : Machine). z.stage) now_is ∙ live

  next_told : as_told next ≡ tunnel_of (wrote_here n old)
  next_told =
      ap (λ (z : Machine). as_told (record z { owed = 0 })) now_is
      ∙ ap (λ (w : ℕ). record (as_told at) { owed = 0; ways = record at.ways { up = after at.ways.up (takes n) }; went_up = w })
      (counted_more at.went_up n)
      ∙ ap (λ (z : Machine). record z {
        owed = 0;
        ways = record z.ways { up = after z.ways.up (takes n) };
        went_up = min (z.went_up + n) (2 ^ 64 - 1);
      }) lives.found.told

  abbrev c : Connection
  c = credit_back s n k.conn

  conn_is : d ≡ c
  conn_is = ap₂ (λ (from : Connection) (i : ℕ). credited from s (min i (creditable from s))) lives.way.0 owed_is

  holds : (j : ℕ) → Holds x.conn d j
  holds j = use_holds x.conn s given j

  abbrev first : Inbound
  first = with_tunnel s next d y

  only_first : Only s x.tunnels next first.tunnels
  only_first = only_again s x.tunnels (change at) y (λ z. next) (only_one s change x)

  -- on whatever the tunnel is then
  with_shown : (new : Tunnel) (z : Machine) (others : ℕ → Machine) → Only s x.tunnels z others → ShowsTunnel (Some new) z
      → is_unanswered z.stage ≡ false → Rests d s z → Shows (link_with c (insert k.tunnels s new) k) (machine_with d others x)
  with_shown new z others only tunnel answered rests =
      serves_on k x shows s new z c d others lives.serving lives.there only tunnel answered conn_is
      (uses_kept x.conn s given lives.number lives.way.1) lives.rest.0 rests
      (λ j apart. rests_still x.conn d j (x.tunnels j) (holds j) (lives.rest.1 j))

  -- the bytes are given back
  credit_leads : IsLiveOn s y × (0 < now.owed) × (given ≡ min now.owed (creditable y.conn s))
      × (with_link first a ≡ with_link first (with_link y a))
  credit_leads = (
    (lives.serving, answered_at x s old change (ap is_unanswered live) shows.calm.answered, stage_now),
    subst (λ (i : ℕ). 0 < i) (sym owed_is) may.1,
    refl,
    refl,
  )

  abbrev done_now : Bool
  done_now = is_done_on d s next

  -- it goes on
  rests_now : done_now ≡ false → Rests d s next
  rests_now open_still =
      let before = live_still x.conn d s at (holds s) lives.rests in
      let same : next.ways.down ≡ at.ways.down = ap (λ (z : Machine). z.ways.down) now_is in
      subst (λ (stage : t.Stage). RestsBy stage d s next) (sym stage_now) (record {
        given_back = refl;
        none_goes = ap (λ (w : Way). count_put d s w.held) same ∙ before.none_goes;
        not_ended = ap (λ (z : Machine). may_end d s z) now_is ∙ before.not_ended;
        not_done = open_still;
      })

  wrote_on : (told : Told) → done_now ≡ false
      → Reaches uncounted k.number (with_link y a) (link_with c (insert k.tunnels s (wrote_here n old)) k) told told
  wrote_on told open_still = record {
    parts = credits s given ∷ [];
    reached = with_link first a;
    leads = (tt, tt, with_link first a, credit_leads, refl);
    shows = with_shown (wrote_here n old) next first.tunnels only_first
        (shows_live old (wrote_here n old) next lives.stage lives.has_up refl refl next_told) (ap is_unanswered stage_now)
        (rests_now open_still);
    noted = takes_none told;
  }

  -- all went through, and it is over
  up_is : next.up ≡ old.up
  up_is = ap (λ (z : Machine). z.up) now_is ∙ ap (λ (z : Machine). z.up) lives.found.told

  over_stage : (left_with cause.Done next).stage ≡ t.over cause.Done
  over_stage =
      let test : (next.up == 0) ≡ false = let some = lives.has_up in grind (arith, nat_tests, up_is, some) in
      ap (λ (b : Bool). cond b t.gone (t.over cause.Done)) test

  first_is : first.tunnels s ≡ next
  first_is = only_first.this

  made_is : note.End k.number s cause.Done (wrote_here n old).went_up old.went_down ≡ end_note k.number s cause.Done (first.tunnels s)
  made_is =
      sym (ap (λ (z : Machine). end_note k.number s cause.Done z) first_is
      ∙ ap₂ (λ (i j : ℕ). note.End k.number s cause.Done i j) (ap (λ (z : Machine). z.went_up) next_told)
      (ap (λ (z : Machine). z.went_down) next_told))

  wrote_last : (told later : Told) → Takes told (note.End k.number s cause.Done (wrote_here n old).went_up old.went_down ∷ []) later
      → done_now ≡ true
      → Reaches uncounted k.number (with_link y a) (link_with c (insert k.tunnels s (over_at n old)) k) told later
  wrote_last told later took all_done =
      let last = at_stream s (left_with cause.Done) first in
      record {
        parts = credits s given ∷ done s (note.End k.number s cause.Done (wrote_here n old).went_up old.went_down) ∷ [];
        reached = with_link last a;
        leads = (
          tt,
          tt,
          with_link first a,
          credit_leads,
          (
            tt,
            tt,
            with_link last a,
            (
              (
                lives.serving,
                at_only s x.tunnels next first.tunnels (λ j z. is_unanswered z.stage ≡ false) only_first (ap is_unanswered stage_now)
                    (λ j apart. shows.calm.answered j),
                ap (λ (z : Machine). z.stage) first_is ∙ stage_now,
              ),
              ap (is_done_on d s) first_is ∙ all_done,
              made_is,
              refl,
            ),
            refl,
          ),
        );
        shows = with_shown (over_at n old) (left_with cause.Done next) last.tunnels
            (only_again s x.tunnels next first (left_with cause.Done) only_first) (over_stage, up_is) (ap is_unanswered over_stage)
            (subst (λ (stage : t.Stage). RestsBy stage d s (left_with cause.Done next)) (sym over_stage) tt);
        noted = took;
      }

  done_is : done_now ≡ is_done_on c s (tunnel_of (wrote_here n old))
  done_is = ap₂ (λ (to : Connection) (z : Machine). is_done_on to s z) conn_is next_told

module _ (k : Link) (s : ℕ) (old : Tunnel) (told : Told) (is : get k.tunnels s ≡ Some old) (u : ℕ) (bytes : List ℕ) where
  abbrev size : ℕ
  size = length bytes

  pub wrote_some : is_done_on (credit_back s size k.conn) s (tunnel_of (wrote_here size old)) ≡ false
      → UpEnters s (e.Went u bytes) k told (link_with (credit_back s size k.conn) (insert k.tunnels s (wrote_here size old)) k) told
  wrote_some open_still start before a b stands shows _ step =
      let l = lives start before a k s old stands shows is step.0.0.1 in (
        refl,
        subst (λ (z : Local). Reaches uncounted k.number z
            (link_with (credit_back s size k.conn) (insert k.tunnels s (wrote_here size old)) k) told told) (sym step.1)
            (wrote_on a k shows s u bytes old l step.0 told (done_is a k shows s u bytes old l step.0 ∙ open_still)),
      )

  pub wrote_all : (later : Told) → Takes told (note.End k.number s cause.Done (wrote_here size old).went_up old.went_down ∷ []) later
      → is_done_on (credit_back s size k.conn) s (tunnel_of (wrote_here size old)) ≡ true
      → UpEnters s (e.Went u bytes) k told (link_with (credit_back s size k.conn) (insert k.tunnels s (over_at size old)) k) later
  wrote_all later took all_done start before a b stands shows _ step =
      let l = lives start before a k s old stands shows is step.0.0.1 in (
        refl,
        subst (λ (z : Local). Reaches uncounted k.number z
            (link_with (credit_back s size k.conn) (insert k.tunnels s (over_at size old)) k) told later)
            (sym step.1)
            (wrote_last a k shows s u bytes old l step.0 told later took (done_is a k shows s u bytes old l step.0 ∙ all_done)),
      )
