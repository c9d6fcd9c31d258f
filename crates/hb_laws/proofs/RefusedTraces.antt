-- Small wrong traces of the links to the control plane are refused.
use Rattle.std.proofs.Common.{◌≡◌, ℕ, ◌||◌, Bool, true, false, List, [], ◌∷◌, ◌++◌, Some, refl, ap, sym, ◌∙◌, subst, arith}
use Rattle.std.specs.List.{list_any}
use Rattle.std.proofs.lemmas.Bool.{both_ways, false≢true}
use Rattle.std.proofs.lemmas.List.Concat.{flat_map-append}
use Rattle.std.proofs.lemmas.List.Folds.{list_any-append}
use Rattle.hb_base.specs.declared.cause.Cause.{Cause}
use Rattle.hb_base.specs.declared.cause.Cause.TheVariants as cause
use Rattle.hb_base.specs.declared.door.Why.TheVariants as whys
use Rattle.hb_base.specs.declared.target.Target.{Target}
use Rattle.hb_frames.specs.Frames.{AreFrames}
use Rattle.hb_frames.specs.RawFrame.{RawFrame, Spells}
use Rattle.hb_history.specs.Points as history
use Rattle.hb_model.specs.Calls.{is_control_of, is_opened_of, is_ended_of, IsUsable, CallMayStand}
use Rattle.hb_model.specs.Dials.{DialMayStand}
use Rattle.hb_model.specs.Inner.{is_stop}
use Rattle.hb_model.specs.Point as point
use Rattle.hb_model.specs.Point.{moves, moves_in}
use Rattle.hb_model.specs.declared.config.NodeConfig.{NodeConfig}
use Rattle.hb_world.specs.Trace.{was_born, was_closed, lives, recv}
use Rattle.hb_world.specs.declared.entry.Entry.{Entry}
use Rattle.hb_world.specs.declared.entry.Entry.TheVariants as e
use Rattle.hb_world.specs.declared.entry.Way.TheVariants as way
use Rattle.hb_proxy.specs.Dials.{DialsBy}
use Rattle.hb_proxy.specs.Owners.{control_plane, owner, link_of}
use Rattle.hb_proxy.specs.Points.{Point, of_control, entry_in, entries, control_in, control_of}
use Rattle.hb_laws.specs.Lawful.{Lawful}
use Rattle.hb_laws.specs.Refused.{dials, fails, opens, waits, waits_tick, balks, settings_octets, NeverDials, DialsNoMore, DialsTwice, DialsAnother, ClosesHealthy, ClosesForAnother, ClosesForSecond, KeepsEnded, KeepsBroken, LooksAtNothing, AppliesForged, ReadsUnopened, ReadsBehindEnd, ReadsBehindClose, WritesUnopened, FinishesOpened}
use Rattle.hb_laws.proofs.Ending.{IsTold, brings_end, ended_stays, unended}
use Rattle.hb_laws.proofs.Lawful.{not_stopped, same_opened, same_ended, same_end, same_closed, same_came, dialled, unclosed_by, own_in, call_at, inner_at, closed_for, lasts_at, looked_at}
use Rattle.hb_laws.proofs.Places.{OnPlane, place, further, on_plane, own_front}
use Rattle.hb_laws.proofs.Tells.{told}
use Rattle.hb_laws.proofs.Tests.{none_in_front}

-- DIALS

module _ (g : NodeConfig) (trace : List Entry) (h : Lawful g trace) where
  -- in front of a wait no dial is due
  undue : (before after : List Entry) → entries h.points ≡ before ++ waits ∷ after → DialMayStand g before waits
  undue before after is =
      let s = place h.points before waits after is in
      let by = subst (λ (b : Bool). DialsBy b g (entries s.front) waits) (not_stopped g trace h s.front s.p s.rest _ _ s.points_are s.is)
      (h.dials s.front s.p s.rest s.points_are waits s.is) in
      subst (λ (es : List Entry). DialMayStand g es waits) s.before_is by

  -- a dial stands where one is due, and of the target that was asked for
  due : (before after : List Entry) (l : ℕ) (to : Target) → entries h.points ≡ before ++ e.Dialled l to whys.Discovery ∷ after
      → DialMayStand g before (e.Dialled l to whys.Discovery)
  due before after l to is =
      let z = e.Dialled l to whys.Discovery in
      let s = place h.points before z after is in
      by (list_any is_stop (control_of s.front))
      (subst (λ (es : List Entry). DialsBy (list_any is_stop (control_of s.front)) g es z) s.before_is
      (h.dials s.front s.p s.rest s.points_are z s.is))
    where
      by : (b : Bool) → DialsBy b g before (e.Dialled l to whys.Discovery) → DialMayStand g before (e.Dialled l to whys.Discovery)
      by true none = absurd none
      by false is = is

pub never_dials : NeverDials
never_dials g h = false≢true (sym (undue g _ h [] [] (sym h.trace_is)))

pub dials_no_more : DialsNoMore
dials_no_more g h = false≢true (sym (undue g _ h (fails g ∷ waits_tick ∷ e.Tick ∷ []) [] (sym h.trace_is)))

pub dials_twice : DialsTwice
dials_twice g h = false≢true (due g _ h (dials g ∷ []) [] 2 g.discovery (sym h.trace_is)).0

pub dials_another : DialsAnother
dials_another g to differs h = differs (due g _ h [] [] 1 to (sym h.trace_is)).1

-- CLOSES

-- link 1 to the control plane is closed for a cause that nothing tells, and the proxy waits
closed_untold : (g : NodeConfig) (trace before : List Entry) (why : Cause) → (h : Lawful g trace)
    → entries h.points ≡ (before ++ e.Closed 1 why ∷ []) ++ waits ∷ [] → owner 1 before ≡ control_plane
    → list_any (is_control_of 1) before ≡ true → (why ≡ cause.Broken → list_any (brings_end 1) before ≡ false) → (IsTold why → ⊥) → ⊥
closed_untold g trace before why h is mine is_control whole untold =
    let close = e.Closed 1 why in
    let closes = of_control (point.entry close) in
    let outer = place h.points (before ++ close ∷ []) waits [] is in
    let inner = on_plane outer.front (own_front h.points (own_in g trace h) outer.front outer.p outer.rest outer.points_are) before close []
    outer.before_is 1 refl mine in
    let behind = inner.rest ++ outer.p ∷ outer.rest in
    let at = further h.points outer.front inner.front closes outer.p inner.rest outer.rest outer.points_are inner.points_are in
    let control = ap (list_any (is_control_of 1)) inner.before_is ∙ is_control in
    unended 1 (control_of inner.front) why
    (λ broke. same_end g trace h inner.front (closes ∷ behind) at 1 control ∙ ap (list_any (brings_end 1)) inner.before_is ∙ whole broke)
    untold
    (none_in_front is_stop (control_of outer.front) (control_of inner.front) (control_of (closes ∷ inner.rest))
    (ap control_of inner.points_are ∙ flat_map-append control_in inner.front (closes ∷ inner.rest))
    (not_stopped g trace h outer.front outer.p outer.rest _ _ outer.points_are outer.is))
    (closed_for g trace h inner.front 1 why behind at control)

pub closes_healthy : ClosesHealthy
closes_healthy g h =
    closed_untold g _ (dials g ∷ opens ∷ []) cause.Broken h (sym h.trace_is) refl refl (λ is. refl) (λ told. told)

pub closes_for_another : ClosesForAnother
closes_for_another g h =
    closed_untold g _ (dials g ∷ opens ∷ []) cause.Revoked h (sym h.trace_is) refl refl (λ is. refl) (λ told. told)

pub closes_for_second : ClosesForSecond
closes_for_second g h =
    closed_untold g _ (dials g ∷ e.Broke 1 ∷ []) cause.NoMemory h (sym h.trace_is) refl refl (λ is. absurd (cc)) (λ told. told)

-- link 1 to the control plane lives, an entry ended it, and the proxy waits
keeps : (g : NodeConfig) (trace before : List Entry) → (h : Lawful g trace) → entries h.points ≡ before ++ waits ∷ []
    → list_any (is_control_of 1) before ≡ true → lives 1 before ≡ true
    → list_any (brings_end 1) before ≡ true → ⊥
keeps g trace before h is control living ended =
    let s = place h.points before waits [] is in
    let control_there = ap (list_any (is_control_of 1)) s.before_is ∙ control in
    ended_stays 1 (control_of s.front)
    (same_end g trace h s.front (s.p ∷ s.rest) s.points_are 1 control_there ∙ ap (list_any (brings_end 1)) s.before_is ∙ ended)
    (lasts_at g trace h s.front s.p s.rest _ _ s.points_are s.is 1 control_there (ap (lives 1) s.before_is ∙ living))

pub keeps_ended : KeepsEnded
keeps_ended g h = keeps g _ (dials g ∷ opens ∷ e.Ended 1 ∷ []) h (sym h.trace_is) refl refl refl

pub keeps_broken : KeepsBroken
keeps_broken g h = keeps g _ (dials g ∷ e.Broke 1 ∷ []) h (sym h.trace_is) refl refl refl

-- WHAT COMES

unfoldable pub settings : RawFrame
settings = record { kind = 4; flags = 0; stream = 0; payload = [] }

pub spells_settings : Spells settings settings_octets
unfolding settings
spells_settings = record {
  fits = record { kind = omega arith; flags = omega arith; stream = omega arith; size = omega arith };
  reserved = 0;
  bit = omega arith;
  whole = refl;
}

empty_append : (xs ys : List RawFrame) → xs ++ ys ≡ [] → xs ≡ []
empty_append [] ys is = refl
empty_append (x ∷ xs) ys is = absurd cc

no_frames : (l : ℕ) (points front rest : List point.Point) → points ≡ front ++ rest → history.frames_got (moves l points) ≡ []
    → history.frames_got (moves l front) ≡ []
no_frames l points front rest are none =
    empty_append _ _
    (sym (flat_map-append history.got_by (moves l front) (moves l rest))
    ∙ ap history.frames_got (sym (flat_map-append (moves_in l) front rest) ∙ ap (moves l) (sym are)) ∙ none)

unread : (held : List ℕ) → AreFrames settings_octets [] held → ⊥
unread held frames = frames.partial settings settings_octets [] spells_settings (sym frames.joined)

pub looks_at_nothing : LooksAtNothing
looks_at_nothing g h none =
    let s = place h.points (dials g ∷ opens ∷ e.Came 1 settings_octets ∷ []) waits [] (sym h.trace_is) in
    let control = ap (list_any (is_control_of 1)) s.before_is in
    let looked = looked_at g _ h s.front s.p s.rest _ _ s.points_are s.is 1 control (ap (lives 1) s.before_is)
    (ap (list_any (is_opened_of 1)) s.before_is) in
    unread looked.held
    (subst (λ (fs : List RawFrame). AreFrames settings_octets fs looked.held)
    (no_frames 1 (control_of h.points) (control_of s.front) (control_of (s.p ∷ s.rest))
    (ap control_of s.points_are ∙ flat_map-append control_in s.front (s.p ∷ s.rest)) none)
    (subst (λ (bs : List ℕ). AreFrames bs (history.frames_got (moves 1 (control_of s.front))) looked.held)
    (sym (same_came g _ h s.front (s.p ∷ s.rest) s.points_are 1 control) ∙ ap (recv 1) s.before_is) looked.came))

pub applies_forged : AppliesForged
applies_forged g l r before behind h are =
    let p = of_control (point.applied l r) in
    let front = told (is_control_of l) before (inner_at g _ h before (point.applied l r) behind are).control in
    false≢true (ap (list_any (is_control_of l)) h.trace_is
    ∙ ap (list_any (is_control_of l)) (ap entries are ∙ flat_map-append entry_in before (p ∷ behind))
    ∙ list_any-append (is_control_of l) (entries before) (entries behind)
    ∙ ap (λ (b : Bool). b || list_any (is_control_of l) (entries behind)) front)

-- CALLS

-- a call on link 1 to the control plane stands where it may, by what the trace tells of the link
module _ (g : NodeConfig) (trace before : List Entry) (z : Entry) (h : Lawful g trace) (is : entries h.points ≡ before ++ z ∷ [])
    (on : link_of z ≡ Some 1) (mine : owner 1 before ≡ control_plane) (control : list_any (is_control_of 1) before ≡ true) where
  at : OnPlane h.points before z
  at = on_plane h.points (own_in g trace h) before z [] is 1 on mine

  abbrev calls : List Entry
  calls = point.entries (control_of at.front)

  abbrev behind : List Point
  behind = of_control (point.entry z) ∷ at.rest

  stands : CallMayStand calls z
  stands = call_at g trace h at.front z at.rest at.points_are

  control_there : list_any (is_control_of 1) (entries at.front) ≡ true
  control_there = ap (list_any (is_control_of 1)) at.before_is ∙ control

  opened_is : list_any (is_opened_of 1) calls ≡ list_any (is_opened_of 1) before
  opened_is = same_opened g trace h at.front behind at.points_are 1 control_there ∙ ap (list_any (is_opened_of 1)) at.before_is

  ended_is : list_any (is_ended_of 1) calls ≡ list_any (is_ended_of 1) before
  ended_is = same_ended g trace h at.front behind at.points_are 1 control_there ∙ ap (list_any (is_ended_of 1)) at.before_is

  closed_is : was_closed 1 calls ≡ was_closed 1 before
  closed_is = same_closed g trace h at.front behind at.points_are 1 control_there ∙ ap (was_closed 1) at.before_is

  -- one that isn't open may be neither read nor written
  unopened : list_any (is_opened_of 1) before ≡ false → IsUsable 1 calls → ⊥
  unopened not usable =
      both_ways _ (opened_is ∙ not) (usable.1 (dialled g trace h at.front behind at.points_are 1 control_there))

  -- nor may one that is closed
  closed : was_closed 1 before ≡ true → lives 1 calls ≡ true → ⊥
  closed was living = both_ways _ (unclosed_by (was_born 1 calls) (was_closed 1 calls) living) (closed_is ∙ was)

pub reads_unopened : ReadsUnopened
reads_unopened g h =
    let before = dials g ∷ [] in
    let read = balks (way.Read 1) in
    unopened g _ before read h (sym h.trace_is) refl refl refl refl (stands g _ before read h (sym h.trace_is) refl refl refl).0

pub reads_behind_end : ReadsBehindEnd
reads_behind_end g h =
    let before = dials g ∷ opens ∷ e.Ended 1 ∷ [] in
    let read = balks (way.Read 1) in
    both_ways _ (stands g _ before read h (sym h.trace_is) refl refl refl).1 (ended_is g _ before read h (sym h.trace_is) refl refl refl)

pub reads_behind_close : ReadsBehindClose
reads_behind_close g h =
    let before = dials g ∷ e.Broke 1 ∷ e.Closed 1 cause.Broken ∷ [] in
    let read = balks (way.Read 1) in
    closed g _ before read h (sym h.trace_is) refl refl refl refl (stands g _ before read h (sym h.trace_is) refl refl refl).0.0.0

pub writes_unopened : WritesUnopened
writes_unopened g h =
    let before = dials g ∷ [] in
    let write = balks (way.Write 1) in
    unopened g _ before write h (sym h.trace_is) refl refl refl refl (stands g _ before write h (sym h.trace_is) refl refl refl).0

pub finishes_opened : FinishesOpened
finishes_opened g h =
    let before = dials g ∷ opens ∷ [] in
    let finish = balks (way.Finish 1) in
    both_ways _ (stands g _ before finish h (sym h.trace_is) refl refl refl).2
    (opened_is g _ before finish h (sym h.trace_is) refl refl refl)
