-- Tunnels that end, before their streams get what they get.
use Rattle.std.proofs.Common.{◌≡◌, ⊎_elim, inl, inr, ℕ, ◌≤◌, ◌<◌, Bool, true, false, is_some, IsSome, Option, Some, None, if◌then◌else◌, refl, ap, sym, ◌∙◌, subst}
use Rattle.std.proofs.lemmas.Bool.{false≢true, eqb-false, cases_eq}
use Rattle.std.specs.Option.{option_map}
use Rattle.std.specs.FinMap.{get}
use Rattle.hb_base.specs.declared.cause.Cause.{Cause}
use Rattle.hb_base.specs.declared.cause.Cause.TheVariants as cause
use Rattle.hb_base.specs.declared.peer.Peer.{Peer}
use Rattle.hb_base.specs.declared.target.Target.{Target}
use Rattle.hb_held.specs.Held.{Resources}
use Rattle.hb_map.specs.Keyed.{written}
use Rattle.hb_map.proofs.Laws.{written_here, written_elsewhere}
use Rattle.hb_table.specs.Judgement.{judged}
use Rattle.hb_table.specs.declared.judgement.Judged.{Judged}
use Rattle.hb_table.specs.declared.judgement.Judged.TheVariants.{Admitted, Unknown, Denied}
use Rattle.hb_inbound.specs.Calm.{RestsIn}
use Rattle.hb_inbound.specs.Inbound as m
use Rattle.hb_inbound.specs.Inbound.{Inbound, at_stream, ends_with, judged_by}
use Rattle.hb_inbound.specs.Tunnel as t
use Rattle.hb_inbound.specs.Tunnel.{Tunnel as Machine, ends_by, ends_for, takes_place, up_ended}
use Rattle.hb_inbound.proofs.Admitted.{at_one}
use Rattle.hb_link.specs.declared.link.Link.{Link}
use Rattle.hb_link.specs.declared.phase.Phase.{Phase}
use Rattle.hb_link.specs.declared.tunnel.Stage.{Stage}
use Rattle.hb_link.specs.declared.tunnel.Stage.TheVariants.{Due, Opening, Live, Failed, Ended, Over}
use Rattle.hb_link.specs.declared.tunnel.Tunnel.{Tunnel}
use Rattle.hb_link.specs.Marking.{ended_stage, ended_tunnel, kept_by, judged_tunnel, down_ended_tunnel, ChangesAt, EndsWith}
use Rattle.hb_link.specs.Settling.{Agrees, IsMarked, LookedIn}
use Rattle.hb_link.specs.Shows.{Shows, ShowsBy}
use Rattle.hb_link.specs.Tunnels.{phase_of, stage_of, ShowsAt, ShowsTunnel, has_place, place_in, IsSound}
use Rattle.hb_link.proofs.Living.{shows_live}
use Rattle.hb_link.proofs.Moving.{Map, here, is_here}
use Rattle.hb_link.proofs.Settles.{agrees}
use Rattle.hb_link.proofs.Shown.{place_tunnel}

-- A TUNNEL CHANGES IN CODE AS IN THE MACHINE

ends_shown_at : (why : Cause) (stage : Stage) (k : Tunnel) (x : Machine) → ShowsAt (stage_of stage) (record k { stage = stage }) x
    → ShowsAt (stage_of (ended_stage why stage)) (record k { stage = ended_stage why stage }) (ends_for why x)
ends_shown_at why Due k x shown = (ap (ends_for why) shown.0, tt)
ends_shown_at why Opening k x shown = (ap (ends_for why) shown.0, tt)
ends_shown_at why Live k x shown = (ap (ends_for why) shown.0, tt)
ends_shown_at why (Failed old) k x shown = (ap (ends_for why) shown.0, tt)
ends_shown_at why (Ended old) k x shown = (ap (ends_for why) shown.0, tt)
ends_shown_at why (Over old) k x shown = (ap (ends_by why) shown.0, shown.1)

pub ends_shown : (why : Cause) (o : Option Tunnel) (x : Machine) → ShowsTunnel o x
    → ShowsTunnel (option_map (ended_tunnel why) o) (ends_for why x)
ends_shown why None x shown =
    ⊎_elim (λ (is : x.stage ≡ t.unasked). inl (ap (ends_by why) is)) (λ (is : x.stage ≡ t.gone). inr (ap (ends_by why) is)) shown
ends_shown why (Some k) x shown = ends_shown_at why k.stage k x shown

-- its upstream sends no more, while it lives
pub down_ended_shown : (o : Option Tunnel) (x : Machine) → ShowsTunnel o x → x.stage ≡ t.live
    → ShowsTunnel (option_map down_ended_tunnel o) (up_ended x)
down_ended_shown o x shown live =
    let found = here o x shown (ap is_here live) in
    let stage = sym (ap (λ (y : Machine). y.stage) found.shows) ∙ live in
    let has_up = subst (λ (at : t.Stage). IsSound at found.tunnel) stage found.sound in
    subst (λ (p : Option Tunnel). ShowsTunnel (option_map down_ended_tunnel p) (up_ended x)) (sym found.is)
    (shows_live found.tunnel (down_ended_tunnel found.tunnel) (up_ended x) stage has_up refl refl (ap up_ended found.shows))

-- it is judged anew
kept_shown : (j : Judged) (o : Option Tunnel) (x : Machine) → ShowsTunnel o x → ShowsTunnel (option_map (kept_by j) o) (judged_by j x)
kept_shown Admitted None x shown = shown
kept_shown Admitted (Some k) x shown = shown
kept_shown Unknown o x shown = ends_shown cause.Revoked o x shown
kept_shown Denied o x shown = ends_shown cause.Revoked o x shown

-- one without a place stays
no_place_ends : (stage : Stage) → place_in stage ≡ false → ended_stage cause.Revoked stage ≡ stage
no_place_ends Due none = absurd (false≢true (sym none))
no_place_ends Opening none = absurd (false≢true (sym none))
no_place_ends Live none = absurd (false≢true (sym none))
no_place_ends (Failed why) none = refl
no_place_ends (Ended why) none = refl
no_place_ends (Over why) none = refl

no_place_kept : (j : Judged) (k : Tunnel) → place_in k.stage ≡ false → kept_by j k ≡ k
no_place_kept Admitted k none = refl
no_place_kept Unknown k none = ap (λ (stage : Stage). record k { stage = stage }) (no_place_ends k.stage none)
no_place_kept Denied k none = ap (λ (stage : Stage). record k { stage = stage }) (no_place_ends k.stage none)

no_place_judged : (held : Resources) (peer : Peer) (o : Option Tunnel) → has_place o ≡ false → option_map (judged_tunnel held peer) o ≡ o
no_place_judged held peer None none = refl
no_place_judged held peer (Some k) none = ap Some (no_place_kept (judged held peer k.target) k none)

target_at : (stage : Stage) (k : Tunnel) (x : Machine) → place_in stage ≡ true → ShowsAt (stage_of stage) k x → x.target ≡ k.target
target_at Due k x place shown = ap (λ (y : Machine). y.target) shown.0
target_at Opening k x place shown = ap (λ (y : Machine). y.target) shown.0
target_at Live k x place shown = ap (λ (y : Machine). y.target) shown.0
target_at (Failed why) k x place shown = absurd (false≢true place)
target_at (Ended why) k x place shown = absurd (false≢true place)
target_at (Over why) k x place shown = absurd (false≢true place)

place_judged : (held : Resources) (peer : Peer) (o : Option Tunnel) (x : Machine) → has_place o ≡ true → ShowsTunnel o x
    → ShowsTunnel (option_map (judged_tunnel held peer) o) (judged_by (judged held peer x.target) x)
place_judged held peer None x place shown = absurd (false≢true place)
place_judged held peer (Some k) x place shown =
    subst (λ (to : Target). ShowsTunnel (Some (judged_tunnel held peer k)) (judged_by (judged held peer to) x))
    (sym (target_at k.stage k x place shown))
    (kept_shown (judged held peer k.target) (Some k) x shown)

pub judged_shown : (held : Resources) (peer its : Peer) (o : Option Tunnel) (x : Machine) → ShowsTunnel o x
    → (takes_place x.stage ≡ true → its ≡ peer)
    → ShowsTunnel (option_map (judged_tunnel held peer) o)
    (if takes_place x.stage then judged_by (judged held its x.target) x else x)
judged_shown held peer its o x shown known = by (takes_place x.stage) refl
  where
    by : (b : Bool) → takes_place x.stage ≡ b
        → ShowsTunnel (option_map (judged_tunnel held peer) o) (if b then judged_by (judged held its x.target) x else x)
    by true place =
        subst (λ (p : Peer). ShowsTunnel (option_map (judged_tunnel held peer) o) (judged_by (judged held p x.target) x))
        (sym (known place))
        (place_judged held peer o x (place_tunnel o x shown ∙ place) shown)
    by false place =
        subst (λ (p : Option Tunnel). ShowsTunnel p x) (sym (no_place_judged held peer o (place_tunnel o x shown ∙ place))) shown

-- A LINK OF WHICH ONE TUNNEL CHANGES, OR EACH

some_as_before : (change : Tunnel → Tunnel) (o : Option Tunnel) → IsSome (option_map change o) → IsSome o
some_as_before change None some = some
some_as_before change (Some k) some = refl

-- the code's link with other tunnels, and the machine's
module _ (k : Link) (x : Inbound) (tunnels : Map) (others : ℕ → Machine) where
  way_stays : (phase : m.Phase) → ShowsBy phase k x → ShowsBy phase (record k { tunnels = tunnels }) (record x { tunnels = others })
  way_stays m.fronting shows = shows
  way_stays m.serving shows = shows
  way_stays (m.faulted code) shows = shows
  way_stays phase shows = tt

  look_stays : (phase : m.Phase) → RestsIn phase x → LookedIn phase (record x { tunnels = others })
  look_stays m.arriving rests = rests
  look_stays m.fronting rests = rests
  look_stays m.serving rests = rests.0
  look_stays phase rests = tt

  stays_marked : Shows k x → ((s : ℕ) → ShowsTunnel (get tunnels s) (others s))
      → ((s : ℕ) → IsSome (get tunnels s) → IsSome (get k.tunnels s))
      → IsMarked (record k { tunnels = tunnels }) (record x { tunnels = others })
  stays_marked shows each fewer = record {
    agrees = record {
      phase = shows.phase;
      way = way_stays x.phase shows.way;
      tunnels = each;
      numbered = λ s some. shows.numbered s (fewer s some);
    };
    looked = look_stays x.phase shows.calm.rests;
  }

-- nothing changes
pub marked_still : (k : Link) (x : Inbound) → Shows k x → IsMarked k x
marked_still k x shows = stays_marked k x k.tunnels x.tunnels shows shows.tunnels (λ s some. some)

-- where the code's link is that one
module _ (k n : Link) (x : Inbound) (others : ℕ → Machine) (link : n ≡ record k { tunnels = n.tunnels }) (shows : Shows k x)
    (each : (s : ℕ) → ShowsTunnel (get n.tunnels s) (others s))
    (fewer : (s : ℕ) → IsSome (get n.tunnels s) → IsSome (get k.tunnels s)) where
  marked_link : (n.number ≡ k.number) × IsMarked n (record x { tunnels = others })
  marked_link = (
    ap (λ (l : Link). l.number) link,
    subst (λ (l : Link). IsMarked l (record x { tunnels = others })) (sym link) (stays_marked k x n.tunnels others shows each fewer),
  )

-- each tunnel changes
pub record ChangesEach (change : Tunnel → Tunnel) (old new : Link) : Type 0 where
  pub link : new ≡ record old { tunnels = new.tunnels }
  pub each : (s : ℕ) → get new.tunnels s ≡ option_map change (get old.tunnels s)

pub marked_each : (change : Tunnel → Tunnel) (k n : Link) (x : Inbound) (others : ℕ → Machine) → ChangesEach change k n → Shows k x
    → ((s : ℕ) → ShowsTunnel (option_map change (get k.tunnels s)) (others s))
    → (n.number ≡ k.number) × IsMarked n (record x { tunnels = others })
marked_each change k n x others changes shows each =
    marked_link k n x others changes.link shows
    (λ s. subst (λ (o : Option Tunnel). ShowsTunnel o (others s)) (sym (changes.each s)) (each s))
    (λ s some. some_as_before change (get k.tunnels s) (sym (ap is_some (changes.each s)) ∙ some))

pub marked_at : (change : Tunnel → Tunnel) (by : Machine → Machine) (s : ℕ) (k n : Link) (x : Inbound) → ChangesAt change s k n → Shows k x
    → ShowsTunnel (option_map change (get k.tunnels s)) (by (x.tunnels s))
    → (n.number ≡ k.number) × IsMarked n (at_stream s by x)
marked_at change by s k n x changes shows now =
    marked_link k n x (at_stream s by x).tunnels changes.link shows
    (at_one s by x (λ j y. ShowsTunnel (get n.tunnels j) y)
    (subst (λ (o : Option Tunnel). ShowsTunnel o (by (x.tunnels s))) (sym changes.here) now)
    (λ j apart.
    subst (λ (o : Option Tunnel). ShowsTunnel o (x.tunnels j)) (sym (changes.others j (eqb-false j s apart))) (shows.tunnels j)))
    (λ j some. elim (cases_eq j s) [
      | inl same ↦ subst (λ (i : ℕ). IsSome (get k.tunnels i)) (sym same)
          (some_as_before change (get k.tunnels s)
          (sym (ap is_some changes.here) ∙ subst (λ (i : ℕ). IsSome (get n.tunnels i)) same some))
      | inr apart ↦ sym (ap is_some (changes.others j apart)) ∙ some
    ])

-- it is in another phase, and each tunnel ends
module _ (k n : Link) (x : Inbound) (phase : Phase) (why : Cause) (ends : EndsWith phase why k n) where
  pub ended_marked : Agrees k x
      → ShowsBy (phase_of phase) (record k { phase = phase; tunnels = n.tunnels }) (ends_with (phase_of phase) why x)
      → LookedIn (phase_of phase) (ends_with (phase_of phase) why x)
      → (n.number ≡ k.number) × IsMarked n (ends_with (phase_of phase) why x)
  ended_marked agrees way looked = (
    ap (λ (l : Link). l.number) ends.link,
    subst (λ (l : Link). IsMarked l (ends_with (phase_of phase) why x)) (sym ends.link) (record {
      agrees = record {
        phase = refl;
        way = way;
        tunnels = λ s. subst (λ (o : Option Tunnel). ShowsTunnel o (ends_for why (x.tunnels s))) (sym (ends.each s))
            (ends_shown why (get k.tunnels s) (x.tunnels s) (agrees.tunnels s));
        numbered = λ s some.
            agrees.numbered s (some_as_before (ended_tunnel why) (get k.tunnels s) (sym (ap is_some (ends.each s)) ∙ some));
      };
      looked = looked;
    }),
  )

-- THE WALK OVER ALL TUNNELS

-- the tunnel on a stream changed
pub changes_here : (change : Tunnel → Tunnel) (k : Link) (s : ℕ) (old new : Tunnel) (tunnels : Map) → get k.tunnels s ≡ Some old
    → tunnels ≡ written k.tunnels s new → new ≡ change old → ChangesAt change s k (record k { tunnels = tunnels })
changes_here change k s old new tunnels there is new_is = record {
  link = refl;
  here = ap (λ (map : Map). get map s) is ∙ written_here k.tunnels s new (ap is_some there) ∙ ap Some new_is
      ∙ sym (ap (option_map change) there);
  others = λ j apart. ap (λ (map : Map). get map j) is ∙ written_elsewhere k.tunnels s new j apart;
}

-- the tunnels on the streams below a number have changed so, the others are as they were
pub record ChangedBelow (change : Tunnel → Tunnel) (bound : ℕ) (old new : Link) : Type 0 where
  pub link : new ≡ record old { tunnels = new.tunnels }
  pub below : (s : ℕ) → s < bound → get new.tunnels s ≡ option_map change (get old.tunnels s)
  pub behind : (s : ℕ) → bound ≤ s → get new.tunnels s ≡ get old.tunnels s
