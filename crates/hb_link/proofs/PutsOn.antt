-- What may be put of one tunnel after another.
use Rattle.std.proofs.Common.{◌≡◌, ⊎_elim, ℕ, ◌+◌, ◌<◌, ◌≤◌, ◌^◌, Bool, true, false, cond, [], ◌∷◌, Option, Some, None, is_some, refl, ap, sym, ◌∙◌, subst, arith}
use Rattle.std.proofs.lemmas.Bool.{false≢true}
use Rattle.std.proofs.lemmas.Bool.Decides.{nat_tests}
use Rattle.std.specs.Prelude.{⊤, nat_lt}
use Rattle.std.specs.FinMap.{get, insert}
use Rattle.hb_base.specs.declared.cause.Cause.TheVariants as cause
use Rattle.hb_base.specs.declared.note.Note.TheVariants as note
use Rattle.hb_conn.specs.Connection.{Connection}
use Rattle.hb_frames.specs.Numbers.{largest}
use Rattle.hb_map.specs.Keyed.{IsFirstFrom}
use Rattle.hb_map.proofs.Laws.{put_here}
use Rattle.hb_inbound.specs.Calm.{is_done_on, Rests, RestsBy, RestsIn}
use Rattle.hb_inbound.specs.Inbound as m
use Rattle.hb_inbound.specs.Inbound.{Inbound}
use Rattle.hb_inbound.specs.Tunnel as t
use Rattle.hb_inbound.specs.Tunnel.{Tunnel as Machine, is_live}
use Rattle.hb_link.specs.Counting.{Places}
use Rattle.hb_link.specs.declared.link.Link.{Link}
use Rattle.hb_link.specs.declared.phase.Phase.{Phase}
use Rattle.hb_link.specs.declared.phase.Phase.TheVariants.{Fronting, Serving, Faulted, Closing, Closed}
use Rattle.hb_link.specs.declared.tunnel.Stage.{Stage}
use Rattle.hb_link.specs.declared.tunnel.Stage.TheVariants.{Due, Opening, Live, Failed, Ended, Over}
use Rattle.hb_link.specs.declared.tunnel.Tunnel.{Tunnel}
use Rattle.hb_link.specs.Noted.{Told, Takes}
use Rattle.hb_link.specs.Observed.{serves_in}
use Rattle.hb_link.specs.Putting.{bytes_put, conn_bytes, end_counted, conn_finished, may_finish, lives_in, PutsBelow}
use Rattle.hb_link.specs.Settling.{MayPut, LookedIn, AlwaysSettles, SettlesBy}
use Rattle.hb_link.specs.Shows.{Shows}
use Rattle.hb_link.specs.Tunnels.{phase_of, stage_of, tunnel_of, ShowsAt, ShowsTunnel}
use Rattle.hb_link.proofs.Loads.{place_of, none_between}
use Rattle.hb_link.proofs.Maps.{put_twice}
use Rattle.hb_link.proofs.Moving.{link_with, Map}
use Rattle.hb_link.proofs.Puts.{PutsAt, BytesPut, EndPut, rests_below, bytes_settles, end_settles, rests_on, done_settles}
use Rattle.hb_link.proofs.Settles.{settles_then, stays, shows_calm}

-- a tunnel that doesn't live rests
at_rest : (stage : t.Stage) (c : Connection) (s : ℕ) (at : Machine) → is_live stage ≡ false → RestsBy stage c s at
at_rest t.live c s at never = absurd (false≢true (sym never))
at_rest stage c s at never = tt

pub stage_at : (stage : t.Stage) (k : Tunnel) (at : Machine) → stage ≡ stage_of k.stage → ShowsAt stage k at → at.stage ≡ stage
stage_at (t.over why) k at is shown = shown.0
stage_at stage k at is shown = ap (λ (x : Machine). x.stage) shown.0 ∙ sym is

not_live : (stage : Stage) → lives_in stage ≡ false → is_live (stage_of stage) ≡ false
not_live Due never = refl
not_live Opening never = refl
not_live Live never = absurd (false≢true (sym never))
not_live (Failed why) never = refl
not_live (Ended why) never = refl
not_live (Over why) never = refl

pub is_live_here : (stage : Stage) → lives_in stage ≡ true → stage_of stage ≡ t.live
is_live_here Due is = absurd (false≢true is)
is_live_here Opening is = absurd (false≢true is)
is_live_here Live is = refl
is_live_here (Failed why) is = absurd (false≢true is)
is_live_here (Ended why) is = absurd (false≢true is)
is_live_here (Over why) is = absurd (false≢true is)

pub rest_on : (c : Connection) (s : ℕ) (at : Machine) (stage : t.Stage) → at.stage ≡ stage → is_live stage ≡ false → Rests c s at
rest_on c s at stage is never =
    subst (λ (at_stage : t.Stage). RestsBy at_stage c s at) (sym is) (at_rest stage c s at never)

pub none_rests : (o : Option Tunnel) (c : Connection) (s : ℕ) (at : Machine) → o ≡ None → ShowsTunnel o at → Rests c s at
none_rests o c s at none shown =
    let shows = subst (λ (o : Option Tunnel). ShowsTunnel o at) none shown in
    ⊎_elim (λ (is : at.stage ≡ t.unasked). rest_on c s at t.unasked is refl) (λ (is : at.stage ≡ t.gone). rest_on c s at t.gone is refl)
    shows

module _ (from : ℕ) (k : Link) (s : ℕ) where
  pub none_on : get k.tunnels s ≡ None → (x : Inbound) → PutsBelow from s k x → PutsBelow from (s + 1) k x
  none_on none x below =
      rests_below from s k x below (none_rests (get k.tunnels s) x.conn s (x.tunnels s) none (below.may.agrees.tunnels s))

  pub other_on : (old : Tunnel) → get k.tunnels s ≡ Some old → lives_in old.stage ≡ false → (x : Inbound) → PutsBelow from s k x
      → PutsBelow from (s + 1) k x
  other_on old is never x below =
      let shows : ShowsTunnel (Some old) (x.tunnels s) =
      subst (λ (o : Option Tunnel). ShowsTunnel o (x.tunnels s)) is (below.may.agrees.tunnels s) in
      rests_below from s k x below
      (rest_on x.conn s (x.tunnels s) (stage_of old.stage) (stage_at (stage_of old.stage) old (x.tunnels s) refl shows)
      (not_live old.stage never))

-- bytes, then the end
module _ (from : ℕ) (k : Link) (s : ℕ) (old : Tunnel) (told : Told) (is : get k.tunnels s ≡ Some old)
    (live : stage_of old.stage ≡ t.live) where
  abbrev one : Tunnel
  one = bytes_put k.conn s old

  abbrev conn_one : Connection
  conn_one = conn_bytes k.conn s old

  abbrev two : Tunnel
  two = end_counted conn_one s one

  abbrev conn_two : Connection
  conn_two = conn_finished conn_one s one

  abbrev link_one : Link
  link_one = link_with conn_one (insert k.tunnels s one) k

  abbrev link_two : Link
  link_two = link_with conn_two (insert k.tunnels s two) k

  live_two : stage_of two.stage ≡ t.live
  live_two = by (may_finish conn_one s one)
    where
      by : (b : Bool) → stage_of (cond b (record one { end_put = true }) one).stage ≡ t.live
      by true = live
      by false = live

  both_settle : (limits : Option Places) → SettlesBy limits (λ held. ⊤) (PutsBelow from s) (PutsAt from EndPut s) k told link_two told
  both_settle limits =
      settles_then limits (λ held. ⊤) (PutsBelow from s) (PutsAt from BytesPut s) (PutsAt from EndPut s) k link_one link_two told told
      told
      (bytes_settles limits from k s old is live told)
      (subst (λ (tunnels : Map). SettlesBy limits (λ held. ⊤) (PutsAt from BytesPut s) (PutsAt from EndPut s) link_one told
      (link_with conn_two tunnels k) told) (put_twice k.tunnels s two one)
      (end_settles limits from link_one s one (put_here k.tunnels s one) live told))

  pub some_on : is_done_on conn_two s (tunnel_of two) ≡ false
      → AlwaysSettles (PutsBelow from s) (PutsBelow from (s + 1)) k told link_two told
  some_on open_still limits =
      settles_then limits (λ held. ⊤) (PutsBelow from s) (PutsAt from EndPut s) (PutsBelow from (s + 1)) k link_two link_two told told
      told
      (both_settle limits)
      (stays limits (λ held. ⊤) (PutsAt from EndPut s) (PutsBelow from (s + 1)) link_two told
      (rests_on limits from link_two s two (put_here k.tunnels s two) live_two open_still))

  abbrev last : Tunnel
  last = record two { stage = Over cause.Done }

  abbrev link_last : Link
  link_last = link_with conn_two (insert k.tunnels s last) k

  pub last_on : (now : Told) → Takes told (note.End k.number s cause.Done two.went_up two.went_down ∷ []) now
      → is_done_on conn_two s (tunnel_of two) ≡ true → AlwaysSettles (PutsBelow from s) (PutsBelow from (s + 1)) k told link_last now
  last_on now took all_done limits =
      settles_then limits (λ held. ⊤) (PutsBelow from s) (PutsAt from Rests s) (PutsBelow from (s + 1)) k link_last link_last told now
      now
      (settles_then limits (λ held. ⊤) (PutsBelow from s) (PutsAt from EndPut s) (PutsAt from Rests s) k link_two link_last told told
      now
      (both_settle limits)
      (subst (λ (tunnels : Map). SettlesBy limits (λ held. ⊤) (PutsAt from EndPut s) (PutsAt from Rests s) link_two told
      (link_with conn_two tunnels k) now) (put_twice k.tunnels s last two)
      (done_settles limits from link_two s two (put_here k.tunnels s two) live_two told now took all_done)))
      (stays limits (λ held. ⊤) (PutsAt from Rests s) (PutsBelow from (s + 1)) link_last now
      (λ x at. rests_below from s link_last x at.before at.here))

-- ALL TUNNELS

module _ (k : Link) where
  serving_is : (phase : Phase) → serves_in phase ≡ true → phase_of phase ≡ m.serving
  serving_is Fronting is = absurd (false≢true is)
  serving_is Serving is = refl
  serving_is (Faulted code) is = absurd (false≢true is)
  serving_is (Closing why) is = absurd (false≢true is)
  serving_is Closed is = absurd (false≢true is)

  -- where the link doesn't serve nothing may be put
  calm_in : (phase : Phase) (x : Inbound) → serves_in phase ≡ false → LookedIn (phase_of phase) x → RestsIn (phase_of phase) x
  calm_in Fronting x never looked = looked
  calm_in Serving x never looked = absurd (false≢true (sym never))
  calm_in (Faulted code) x never looked = tt
  calm_in (Closing why) x never looked = tt
  calm_in Closed x never looked = tt

  pub not_served : serves_in k.phase ≡ false → (x : Inbound) → MayPut k x → Shows k x
  not_served never x may = shows_calm k x may.agrees (record {
    answered = may.answered;
    rests = subst (λ (phase : m.Phase). RestsIn phase x) (sym may.agrees.phase)
        (calm_in k.phase x never (subst (λ (phase : m.Phase). LookedIn phase x) may.agrees.phase may.looked));
  })

  -- between two tunnels there is none
  pub advance : (from i : ℕ) (next : Option ℕ) → IsFirstFrom k.tunnels i next → (x : Inbound) → PutsBelow from i k x
      → PutsBelow from (place_of next) k x
  advance from i next first x below = record {
    may = below.may;
    serves = below.serves;
    below = λ j low less. by j low less (nat_lt j i) refl;
  }
    where
      by : (j : ℕ) → from ≤ j → j < place_of next → (b : Bool) → nat_lt j i ≡ b → Rests x.conn j (x.tunnels j)
      by j low less true is = below.below j low (grind (arith, nat_tests, is))
      by j low less false is =
          none_rests (get k.tunnels j) x.conn j (x.tunnels j)
          (none_between k.tunnels i next first j (grind (arith, nat_tests, is)) less)
          (below.may.agrees.tunnels j)

  -- of no stream it is known yet
  pub begins : serves_in k.phase ≡ true → (x : Inbound) → MayPut k x → PutsBelow 0 0 k x
  begins serves x may = record {
    may = may;
    serves = may.agrees.phase ∙ serving_is k.phase serves;
    below = λ j low less. absurd (omega (arith, less));
  }

  -- nor any more
  pub anew : (from n at : ℕ) (x : Inbound) → PutsBelow from n k x → PutsBelow at at k x
  anew from n at x below = record {
    may = below.may;
    serves = below.serves;
    below = λ j low less. absurd (omega (arith, low, less));
  }

  -- what may be put of one stream, where it is known of none
  pub puts_somewhere : (s : ℕ) (n : Link) (told now : Told) → AlwaysSettles (PutsBelow s s) (PutsBelow s (s + 1)) k told n now
      → AlwaysSettles (PutsBelow 0 0) (PutsBelow 0 0) k told n now
  puts_somewhere s n told now one limits =
      settles_then limits (λ held. ⊤) (PutsBelow 0 0) (PutsBelow s s) (PutsBelow 0 0) k k n told told now
      (stays limits (λ held. ⊤) (PutsBelow 0 0) (PutsBelow s s) k told (anew 0 0 s))
      (settles_then limits (λ held. ⊤) (PutsBelow s s) (PutsBelow s (s + 1)) (PutsBelow 0 0) k n n told now now (one limits)
      (stays limits (λ held. ⊤) (PutsBelow s (s + 1)) (PutsBelow 0 0) n now (λ x below. record {
        may = below.may;
        serves = below.serves;
        below = λ j low less. absurd (omega (arith, low, less));
      })))

  pub ends : (x : Inbound) → PutsBelow 0 (place_of None) k x → Shows k x
  ends x below = shows_calm k x below.may.agrees (record {
    answered = below.may.answered;
    rests = subst (λ (phase : m.Phase). RestsIn phase x) (sym below.serves)
        (subst (λ (phase : m.Phase). LookedIn phase x) below.serves below.may.looked, λ s. by s (nat_lt s (2 ^ 32)) refl);
  })
    where
      none_far : (s : ℕ) (o : Option Tunnel) → get k.tunnels s ≡ o → nat_lt s (2 ^ 32) ≡ false → get k.tunnels s ≡ None
      none_far s None is far = is
      none_far s (Some old) is far =
          let near : s ≤ largest = below.may.agrees.numbered s (ap is_some is) in
          absurd (let never : 1 ≤ 0 = grind (arith, nat_tests, near, far) in omega (arith, never))

      by : (s : ℕ) (b : Bool) → nat_lt s (2 ^ 32) ≡ b → Rests x.conn s (x.tunnels s)
      by s true is = below.below s (omega arith) (grind (arith, nat_tests, is))
      by s false far =
          none_rests (get k.tunnels s) x.conn s (x.tunnels s) (none_far s (get k.tunnels s) refl far) (below.may.agrees.tunnels s)
