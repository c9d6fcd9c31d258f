-- A tunnel that ends for a cause for which its stream gets nothing.
use Rattle.std.proofs.Common.{◌≡◌, ◌⊎◌, inr, ⊎_elim, ℕ, ◌<◌, ◌≤◌, ◌==◌, ◌&&◌, ◌||◌, is_some, IsSome, Bool, true, false, cond, List, [], ◌∷◌, Option, Some, None, refl, ap, sym, ◌∙◌, subst, arith}
use Rattle.std.proofs.lemmas.Bool.{false≢true, eqb-false, eqb-true, cond_both}
use Rattle.std.proofs.lemmas.Bool.Decides.{nat_tests}
use Rattle.std.proofs.lemmas.List.{append-nil}
use Rattle.std.specs.FinMap.{get, remove}
use Rattle.std.specs.Option.{option_map}
use Rattle.hb_base.specs.declared.cause.Cause.{Cause}
use Rattle.hb_base.specs.declared.note.Note.{Note}
use Rattle.hb_base.specs.declared.note.Note.TheVariants as note
use Rattle.hb_conn.specs.Observed.{sides, own_side_open}
use Rattle.hb_frames.specs.Numbers.{largest}
use Rattle.hb_held.specs.Held.{Resources}
use Rattle.hb_map.proofs.Laws.{removed_here, removed_elsewhere}
use Rattle.hb_inbound.specs.Inbound as m
use Rattle.hb_inbound.specs.Inbound.{Inbound, at_stream}
use Rattle.hb_inbound.specs.Part.{Part, left, note_if}
use Rattle.hb_inbound.specs.Runs.{Local, StandsFor, Leaves, with_link, with_tunnel, is_serving, end_note}
use Rattle.hb_inbound.specs.Tunnel as t
use Rattle.hb_inbound.specs.Tunnel.{Tunnel as Machine, ends_by, ends_for, left_with, at_stage, is_failed, is_ended, is_unanswered, takes_place}
use Rattle.hb_link.specs.declared.link.Link.{Link}
use Rattle.hb_link.specs.declared.tunnel.Stage.{Stage}
use Rattle.hb_link.specs.declared.tunnel.Stage.TheVariants.{Due, Opening, Live, Failed, Ended, Over}
use Rattle.hb_link.specs.declared.tunnel.Tunnel.{Tunnel}
use Rattle.hb_link.specs.Counting.{Places, Counts}
use Rattle.hb_link.specs.Looking.{EndsFor, IsMute, changed_at, over_for, left_at}
use Rattle.hb_link.specs.Noted.{Told, Takes}
use Rattle.hb_link.specs.Reaches.{Guard, Follows}
use Rattle.hb_link.specs.Settling.{MayLook}
use Rattle.hb_link.specs.Shows.{ShowsBy}
use Rattle.hb_link.specs.Tunnels.{stage_of, tunnel_of, as_told, place_in, has_place, ShowsAt, ShowsTunnel}
use Rattle.hb_link.proofs.Changed.{changed_here, changed_elsewhere}
use Rattle.hb_link.proofs.Moving.{Map, link_with, machine_with, Only, only_one, only_again, at_only}
use Rattle.hb_link.proofs.Noted.{takes_none}
use Rattle.hb_link.proofs.Shown.{place_tunnel}

-- WHERE NOTHING ENDS

ends_still : (why : Cause) (stage : t.Stage) → takes_place stage ≡ false → ends_by why stage ≡ stage
ends_still why t.due none = absurd (false≢true (sym none))
ends_still why t.opening none = absurd (false≢true (sym none))
ends_still why t.accepting none = absurd (false≢true (sym none))
ends_still why t.live none = absurd (false≢true (sym none))
ends_still why stage none = refl

pub placeless : (stage : Stage) → (stage ≡ Due → ⊥) → (stage ≡ Opening → ⊥) → (stage ≡ Live → ⊥) → place_in stage ≡ false
placeless Due due opening live = absurd (due refl)
placeless Opening due opening live = absurd (opening refl)
placeless Live due opening live = absurd (live refl)
placeless (Failed why) due opening live = refl
placeless (Ended why) due opening live = refl
placeless (Over why) due opening live = refl

-- no stage that is answered is at its end
not_failed : (stage : t.Stage) → is_unanswered stage ≡ false → is_failed stage ≡ false
not_failed (t.failed why) is = absurd (false≢true (sym is))
not_failed stage is = refl

not_ended : (stage : t.Stage) → is_unanswered stage ≡ false → is_ended stage ≡ false
not_ended (t.ended why) is = absurd (false≢true (sym is))
not_ended stage is = refl

-- nothing is due either way
none_due : {A : Type 0} (b : Bool) (o : Option A) → o ≡ None → cond b o None ≡ None
none_due true o is = is
none_due false o is = refl

below_apart : (j s : ℕ) → j < s → (j == s) ≡ false
below_apart j s below = grind (arith, nat_tests, below)

-- of a tunnel that is left its upstream is to be closed, or nothing is left
left_answered : (why : Cause) (z : Machine) → is_unanswered (left_with why z).stage ≡ false
left_answered why z =
    cond_both (z.up == 0) t.gone (t.over why) (λ (st : t.Stage). is_unanswered st ≡ false) (λ is. refl) (λ is. refl)

module _ (tunnels : Map) (s : ℕ) (why : Cause) (old : Tunnel) (is : get tunnels s ≡ Some old) where
  left_shown : (z : Machine) → z.up ≡ old.up → ShowsTunnel (get (left_at s why old.up tunnels) s) (left_with why z)
  left_shown z up =
      subst (λ (n : ℕ). ShowsTunnel (get (left_at s why old.up tunnels) s) (at_stage (cond (n == 0) t.gone (t.over why)) z)) (sym up)
      (by (old.up == 0))
    where
      by : (b : Bool) → ShowsTunnel (get (cond b (remove tunnels s) (changed_at s (over_for why) tunnels)) s)
          (at_stage (cond b t.gone (t.over why)) z)
      by true = subst (λ (o : Option Tunnel). ShowsTunnel o (at_stage t.gone z)) (sym (removed_here tunnels s)) (inr refl)
      by false =
          subst (λ (o : Option Tunnel). ShowsTunnel o (at_stage (t.over why) z))
          (sym (changed_here s (over_for why) tunnels ∙ ap (option_map (over_for why)) is)) (refl, up)

  left_others : (j : ℕ) → (j == s) ≡ false → get (left_at s why old.up tunnels) j ≡ get tunnels j
  left_others j apart =
      cond_both (old.up == 0) (remove tunnels s) (changed_at s (over_for why) tunnels) (λ (map : Map). get map j ≡ get tunnels j)
      (λ none. removed_elsewhere tunnels s j (eqb-false j s apart)) (λ some. changed_elsewhere s (over_for why) tunnels j apart)

  left_numbered : ((j : ℕ) → IsSome (get tunnels j) → j ≤ largest) → (j : ℕ) → IsSome (get (left_at s why old.up tunnels) j) → j ≤ largest
  left_numbered each j some = by (j == s) refl
    where
      by : (b : Bool) → (j == s) ≡ b → j ≤ largest
      by true at = subst (λ (i : ℕ). i ≤ largest) (sym (eqb-true j s at)) (each s (ap is_some is))
      by false at = each j (subst (λ (o : Option Tunnel). IsSome o) (left_others j at) some)

module _ (limits : Option Places) (k : Link) (s : ℕ) (why : Cause) (mute : IsMute why) (told : Told) (start : Resources)
    (before : List Part) (a : Local) (stands : StandsFor k.number start a before) (ends : EndsFor s why k a.link) where
  abbrev G : Guard
  G = Counts limits

  abbrev y : Inbound
  y = ends.before

  abbrev at : Machine
  at = y.tunnels s

  abbrev z : Inbound
  z = at_stream s (ends_for why) y

  abbrev here : Local
  here = with_link z a

  same : a ≡ here
  same = ap (λ (x : Inbound). with_link x a) ends.is

  way : ShowsBy m.serving k y
  way = subst (λ (phase : m.Phase). ShowsBy phase k y) ends.may.serving ends.may.agrees.way

  only : Only s y.tunnels (ends_for why at) z.tunnels
  only = only_one s (ends_for why) y

  -- the link with other tunnels of which each is shown and answered
  with_tunnels : (tunnels : Map) (v : Machine) (others_now : ℕ → Machine) → Only s y.tunnels v others_now
      → ((j : ℕ) → (j == s) ≡ false → get tunnels j ≡ get k.tunnels j) → ShowsTunnel (get tunnels s) v → is_unanswered v.stage ≡ false
      → ((j : ℕ) → IsSome (get tunnels j) → j ≤ largest)
      → MayLook (link_with k.conn tunnels k) (machine_with y.conn others_now y)
  with_tunnels tunnels v others_now only_v apart shown answered numbered = record {
    agrees = record {
      phase = ends.may.agrees.phase;
      way = subst (λ (phase : m.Phase). ShowsBy phase (link_with k.conn tunnels k) (machine_with y.conn others_now y))
          (sym ends.may.serving) way;
      tunnels = at_only s y.tunnels v others_now (λ j u. ShowsTunnel (get tunnels j) u) only_v shown
          (λ j is. subst (λ (o : Option Tunnel). ShowsTunnel o (y.tunnels j)) (sym (apart j is)) (ends.may.agrees.tunnels j));
      numbered = numbered;
    };
    answered = at_only s y.tunnels v others_now (λ j u. is_unanswered u.stage ≡ false) only_v answered (λ j is. ends.may.answered j);
    serving = ends.may.serving;
    fares = ends.may.fares;
  }

  -- no tunnel was there that has a place
  pub nothing_ends : has_place (get k.tunnels s) ≡ false → Follows G MayLook k.number a k told told
  nothing_ends none =
      let still = ends_still why at.stage (sym (place_tunnel (get k.tunnels s) at (ends.may.agrees.tunnels s)) ∙ none) in
      let it : ends_for why at ≡ at = ap (λ (st : t.Stage). at_stage st at) still in
      let may = with_tunnels k.tunnels (ends_for why at) z.tunnels only (λ j is. refl)
      (subst (ShowsTunnel (get k.tunnels s)) (sym it) (ends.may.agrees.tunnels s))
      (subst (λ (v : Machine). is_unanswered v.stage ≡ false) (sym it) (ends.may.answered s)) ends.may.agrees.numbered in
      subst (λ (b : Local). Follows G MayLook k.number b k told told) (sym same) (record {
        parts = [];
        reached = here;
        leads = refl;
        shows = may;
        noted = takes_none told;
      })

  -- the one that was there is left
  module _ (old : Tunnel) (is : get k.tunnels s ≡ Some old) (told_at : as_told at ≡ tunnel_of old) (made : Option Note) where
    abbrev next : Machine
    next = left_with why (z.tunnels s)

    abbrev last : Inbound
    last = with_tunnel s next z.conn z

    abbrev new : Link
    new = link_with k.conn (left_at s why old.up k.tunnels) k

    up_is : (z.tunnels s).up ≡ old.up
    up_is = ap (λ (v : Machine). v.up) only.this ∙ ap (λ (v : Machine). v.up) told_at

    may : MayLook new last
    may =
        with_tunnels (left_at s why old.up k.tunnels) next last.tunnels
        (only_again s y.tunnels (ends_for why at) z (λ u. next) only)
        (left_others k.tunnels s why old is) (left_shown k.tunnels s why old is (z.tunnels s) up_is) (left_answered why (z.tunnels s))
        (left_numbered k.tunnels s why old is ends.may.agrees.numbered)

    leaves : Leaves k.number s z (z.tunnels s).stage made next → (now : Told) → Takes told (note_if made) now
        → Follows G MayLook k.number a new told now
    leaves may_leave now took = subst (λ (b : Local). Follows G MayLook k.number b new told now) (sym same) (record {
      parts = left s made ∷ [];
      reached = with_link last here;
      leads = (tt, tt, with_link last here, (next, may_leave, refl), refl);
      shows = may;
      noted = subst (λ (ns : List Note). Takes told ns now) (sym (append-nil (note_if made))) took;
    })

  -- the others are answered
  others_failed : (j : ℕ) → (j == s) ≡ false → is_failed (z.tunnels j).stage ≡ false
  others_failed j apart =
      ap (λ (v : Machine). is_failed v.stage) (only.others j apart) ∙ not_failed (y.tunnels j).stage (ends.may.answered j)

  -- it was pending
  pending_left : (old : Tunnel) → get k.tunnels s ≡ Some old → as_told at ≡ tunnel_of old → ends_by why at.stage ≡ t.failed why
      → Follows G MayLook k.number a (link_with k.conn (left_at s why old.up k.tunnels) k) told told
  pending_left old is told_at failed =
      let stage = ap (λ (v : Machine). v.stage) only.this ∙ failed in
      leaves old is told_at None
      (subst (λ (st : t.Stage). Leaves k.number s z st None (left_with why (z.tunnels s))) (sym stage) (
        (λ j below. others_failed j (below_apart j s below)),
        none_due (is_serving z.phase && own_side_open z.conn s) _ mute.0,
        refl,
        refl,
      ))
      told (takes_none told)

  -- it was live
  live_left : (old : Tunnel) → get k.tunnels s ≡ Some old → as_told at ≡ tunnel_of old → ends_by why at.stage ≡ t.ended why → (now : Told)
      → Takes told (note.End k.number s why old.went_up old.went_down ∷ []) now
      → Follows G MayLook k.number a (link_with k.conn (left_at s why old.up k.tunnels) k) told now
  live_left old is told_at ended now took =
      let stage = ap (λ (v : Machine). v.stage) only.this ∙ ended in
      let says : end_note k.number s why (z.tunnels s) ≡ note.End k.number s why old.went_up old.went_down =
      ap (end_note k.number s why) only.this ∙ ap (λ (v : Machine). note.End k.number s why v.went_up v.went_down) told_at in
      leaves old is told_at (Some (end_note k.number s why (z.tunnels s)))
      (subst (λ (st : t.Stage). Leaves k.number s z st (Some (end_note k.number s why (z.tunnels s))) (left_with why (z.tunnels s)))
      (sym stage) (
        (
          at_only s y.tunnels (ends_for why at) z.tunnels (λ j u. is_failed u.stage ≡ false) only (ap is_failed ended)
              (λ j apart. not_failed (y.tunnels j).stage (ends.may.answered j)),
          λ j below.
              ap (λ (v : Machine). is_ended v.stage) (only.others j (below_apart j s below))
              ∙ not_ended (y.tunnels j).stage (ends.may.answered j),
        ),
        none_due (is_serving z.phase && ((sides z.conn s).own || (sides z.conn s).peer)) _ mute.1,
        refl,
        refl,
      ))
      now (subst (λ (n : Note). Takes told (n ∷ []) now) (sym says) took)

  -- what the code finds
  finds_at : (old : Tunnel) (stage : Stage) → get k.tunnels s ≡ Some old → old.stage ≡ stage → place_in stage ≡ true
      → as_told at ≡ tunnel_of old
  finds_at old stage is at_stage_is place = by old.stage refl (ap place_in at_stage_is ∙ place)
      (subst (λ (o : Option Tunnel). ShowsTunnel o at) is (ends.may.agrees.tunnels s))
    where
      by : (st : Stage) → old.stage ≡ st → place_in st ≡ true → ShowsAt (stage_of old.stage) old at → as_told at ≡ tunnel_of old
      by Due same_stage place shown = (subst (λ (st : Stage). ShowsAt (stage_of st) old at) same_stage shown).0
      by Opening same_stage place shown = (subst (λ (st : Stage). ShowsAt (stage_of st) old at) same_stage shown).0
      by Live same_stage place shown = (subst (λ (st : Stage). ShowsAt (stage_of st) old at) same_stage shown).0
      by (Failed cause) same_stage place shown = absurd (false≢true place)
      by (Ended cause) same_stage place shown = absurd (false≢true place)
      by (Over cause) same_stage place shown = absurd (false≢true place)

  ends_at : (old : Tunnel) (stage : Stage) → old.stage ≡ stage → as_told at ≡ tunnel_of old
      → ends_by why at.stage ≡ ends_by why (stage_of stage)
  ends_at old stage at_stage_is told_at =
      ap (ends_by why) (ap (λ (v : Machine). v.stage) told_at ∙ ap stage_of at_stage_is)

  -- so it is left
  pub pending_ends : (old : Tunnel) (tunnels : Map) → get k.tunnels s ≡ Some old → (old.stage ≡ Due) ⊎ (old.stage ≡ Opening)
      → tunnels ≡ left_at s why old.up k.tunnels → Follows G MayLook k.number a (link_with k.conn tunnels k) told told
  pending_ends old tunnels is stage changed =
      subst (λ (map : Map). Follows G MayLook k.number a (link_with k.conn map k) told told) (sym changed)
      (⊎_elim
      (λ (due : old.stage ≡ Due).
      let told_at = finds_at old Due is due refl in pending_left old is told_at (ends_at old Due due told_at))
      (λ (opening : old.stage ≡ Opening).
      let told_at = finds_at old Opening is opening refl in pending_left old is told_at (ends_at old Opening opening told_at))
      stage)

  pub live_ends : (old : Tunnel) (tunnels : Map) (now : Told) → get k.tunnels s ≡ Some old → old.stage ≡ Live
      → tunnels ≡ left_at s why old.up k.tunnels → Takes told (note.End k.number s why old.went_up old.went_down ∷ []) now
      → Follows G MayLook k.number a (link_with k.conn tunnels k) told now
  live_ends old tunnels now is live changed took =
      let told_at = finds_at old Live is live refl in
      subst (λ (map : Map). Follows G MayLook k.number a (link_with k.conn map k) told now) (sym changed)
      (live_left old is told_at (ends_at old Live live told_at) now took)
