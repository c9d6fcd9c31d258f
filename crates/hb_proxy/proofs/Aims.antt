-- What is so of each plain link in every run: where its bytes are to go, and when it has a stream of a link to a gateway.
use Rattle.std.proofs.Common.{◌≡◌, ℕ, ◌==◌, ◌&&◌, Bool, true, false, cond, List, Option, None, IsSome, refl, ap, sym, ◌∙◌, subst}
use Rattle.std.proofs.lemmas.Bool.{cond_both, false≢true}
use Rattle.hb_base.specs.declared.cause.Cause.{Cause}
use Rattle.hb_base.specs.declared.cause.Cause.TheVariants as cause
use Rattle.hb_base.specs.declared.door.Door.{Door}
use Rattle.hb_base.specs.declared.door.Door.TheVariants as door
use Rattle.hb_base.specs.declared.identity.Identity.{Identity}
use Rattle.hb_captured.specs.Answer.{Aim, Routing, straight_to, through, endpoint_of, key_of, aims, by_verdict, verdict_on, answer_on}
use Rattle.hb_captured.specs.Captured.{Captured, Stage, unborn, arriving, fronting, due, opening, accepting, live, failed, ended, over, no_link, at_stage, judges, is_judged, ends_by, ends_for, came_by, hung_up, entered, up_entered, told_by, left_by, name_left, judged_by, rejudged}
use Rattle.hb_captured.specs.Part.{Part, entry, up, welcomed, crowded, lacked, misfronted, fronted, refused, accepted, roomless, asked, hears, put, finished, credited, loosed, completed, left, done, applied, stopped}
use Rattle.hb_captured.specs.Runs.{Local, MayCome, UpMayCome, MayHear, MayGo, next_link}
use Rattle.hb_front.specs.Reading.{Seen}
use Rattle.hb_gateway.specs.Response as response
use Rattle.hb_gateway.specs.Response.{Heard, opens, brings, fails}
use Rattle.hb_held.specs.Held.{Resources}
use Rattle.hb_held.specs.Outcome.{after_response}
use Rattle.hb_model.specs.Point as point
use Rattle.hb_model.specs.declared.config.NodeConfig.{NodeConfig}
use Rattle.hb_table.specs.Judgement.{judged}
use Rattle.hb_table.specs.declared.judgement.Judged.{Judged}
use Rattle.hb_table.specs.declared.judgement.Judged.TheVariants.{Admitted, Unknown, Denied}
use Rattle.hb_tunnel.specs.Way.{empty_way}
use Rattle.hb_verdict.specs.declared.verdict.Verdict.{Verdict}
use Rattle.hb_verdict.specs.declared.verdict.Verdict.TheVariants.{Status, Reset, Dial}
use Rattle.hb_world.specs.declared.entry.Entry.{Entry}
use Rattle.hb_world.specs.declared.entry.Entry.TheVariants as e
use Rattle.hb_proxy.specs.Machine.{Machine, plain_local, plain_seen_by}
use Rattle.hb_proxy.specs.Points.{Point, of_control, of_link, of_plain, of_gate, of_stream}
use Rattle.hb_proxy.specs.Runs.{Steps, StandsFor, begins, goes_on}
use Rattle.hb_proxy.specs.Shared.{captured_part}

-- WHAT EACH PART OF A PLAIN LINK KEEPS, EACH ONE KEEPS IN A RUN OF THE WHOLE
pub record Kept (P : Captured → Type 0) : Type 0 where
  pub first : P no_link
  pub goes : (l : ℕ) (a : Local) (p : Part) → MayGo l a p → P a.link → P (next_link a.link p)
  pub judged : (h : Resources) (x : Captured) → P x → P (rejudged h x)

module _ (P : Captured → Type 0) (kept : Kept P) where
  seen_kept : (h : Resources) (q : point.Point) (x : Captured) → P x → P (plain_seen_by h q x)
  seen_kept h (point.applied l r) x is = kept.judged (after_response h r) x is
  seen_kept h (point.stopped why) x is = kept.goes 0 (record { held = h; link = x }) (stopped why) tt is
  seen_kept h _ x is = is

  -- one of them changes
  one_kept : (k l : ℕ) (next old : Captured) → P next → P old → P (cond (k == l) next old)
  one_kept k l next old here is = cond_both (k == l) next old P (λ same. here) (λ apart. is)

  step_kept : (g : NodeConfig) (x y : Machine) (p : Point) → Steps g x p y → ((l : ℕ) → P (x.plain l)) → (l : ℕ) → P (y.plain l)
  step_kept g x y (of_control q) steps so_far k =
      subst (λ (z : Machine). P (z.plain k)) (sym steps.3) (seen_kept x.control.held q (x.plain k) (so_far k))
  step_kept g x y (of_link l p) steps so_far k = subst (λ (z : Machine). P (z.plain k)) (sym steps.3) (so_far k)
  step_kept g x y (of_plain l p) steps so_far k =
      subst (λ (z : Machine). P (z.plain k)) (sym steps.2)
      (one_kept k l (next_link (x.plain l) p) (x.plain k) (kept.goes l (plain_local x l) p steps.0 (so_far l)) (so_far k))
  step_kept g x y (of_gate n p) steps so_far k = subst (λ (z : Machine). P (z.plain k)) (sym steps.3) (so_far k)
  step_kept g x y (of_stream l n s w) steps so_far k =
      subst (λ (z : Machine). P (z.plain k)) (sym steps.4)
      (one_kept k l (next_link (x.plain l) (captured_part n s w)) (x.plain k)
      (kept.goes l (plain_local x l) (captured_part n s w) steps.0 (so_far l)) (so_far k))

  pub all_kept : (g : NodeConfig) (x : Machine) (points : List Point) → StandsFor g x points → (l : ℕ) → P (x.plain l)
  all_kept g x points (begins is none) l = subst (λ (z : Machine). P (z.plain l)) (sym is) kept.first
  all_kept g y more (goes_on {x = x} {points = points} stands p steps are) l =
      step_kept g x y p steps (all_kept g x points stands) l

-- HOW FAR A LINK IS

-- its header was whole
abbrev pub is_told : Stage → Bool
is_told unborn = false
is_told arriving = false
is_told fronting = false
is_told stage = true

-- a stream may have been asked for
abbrev pub is_asked : Stage → Bool
is_asked unborn = false
is_asked arriving = false
is_asked fronting = false
is_asked due = false
is_asked stage = true

-- a link whose header isn't whole counts nowhere, nor does one whose peer is judged; none has a stream before it asks for one, nor do bytes
-- wait on the way to it
pub record AimFits (x : Captured) : Type 0 where
  pub untold : is_told x.stage ≡ false → endpoint_of x.aim ≡ None
  pub judged : judges x.door ≡ true → endpoint_of x.aim ≡ None
  pub unasked : is_asked x.stage ≡ false → x.gate ≡ 0
  pub outbound : (x.gate ≡ 0 → ⊥) → judges x.door ≡ false
  pub still : is_asked x.stage ≡ false → (x.ways.down ≡ empty_way) × (x.owed ≡ 0)

ends_told : (why : Cause) (stage : Stage) → is_told (ends_by why stage) ≡ false → is_told stage ≡ false
ends_told why unborn is = is
ends_told why arriving is = refl
ends_told why fronting is = refl
ends_told why due is = is
ends_told why opening is = is
ends_told why accepting is = is
ends_told why live is = is
ends_told why (failed other) is = is
ends_told why (ended other) is = is
ends_told why (over other) is = is

ends_asked : (why : Cause) (stage : Stage) → is_asked (ends_by why stage) ≡ false → is_asked stage ≡ false
ends_asked why unborn is = is
ends_asked why arriving is = refl
ends_asked why fronting is = refl
ends_asked why due is = refl
ends_asked why opening is = is
ends_asked why accepting is = is
ends_asked why live is = is
ends_asked why (failed other) is = is
ends_asked why (ended other) is = is
ends_asked why (over other) is = is

hung_told : (stage : Stage) → is_told (hung_up stage) ≡ false → is_told stage ≡ false
hung_told fronting is = refl
hung_told _ is = is

hung_asked : (stage : Stage) → is_asked (hung_up stage) ≡ false → is_asked stage ≡ false
hung_asked fronting is = refl
hung_asked _ is = is

left_told : (stage : Stage) → is_told (left_by stage) ≡ false → is_told stage ≡ false
left_told (failed why) is = is
left_told (ended why) is = is
left_told _ is = is

left_asked : (stage : Stage) → is_asked (left_by stage) ≡ false → is_asked stage ≡ false
left_asked (failed why) is = is
left_asked (ended why) is = is
left_asked _ is = is

-- the stage goes on
at_fits : (stage : Stage) (x : Captured) → (is_told stage ≡ false → is_told x.stage ≡ false)
    → (is_asked stage ≡ false → is_asked x.stage ≡ false) → AimFits x → AimFits (at_stage stage x)
at_fits stage x told asks fits = record {
  untold = λ is. fits.untold (told is);
  judged = fits.judged;
  unasked = λ is. fits.unasked (asks is);
  outbound = fits.outbound;
  still = λ is. fits.still (asks is);
}

ends_fit : (why : Cause) (x : Captured) → AimFits x → AimFits (ends_for why x)
ends_fit why x fits = at_fits (ends_by why x.stage) x (ends_told why x.stage) (ends_asked why x.stage) fits

-- nothing of that changes
rests : (x y : Captured) → y.stage ≡ x.stage → y.aim ≡ x.aim → y.door ≡ x.door → y.gate ≡ x.gate → y.ways.down ≡ x.ways.down
    → y.owed ≡ x.owed → AimFits x → AimFits y
rests x y stage aim door gate down owed fits = record {
  untold = λ is. ap endpoint_of aim ∙ fits.untold (ap is_told (sym stage) ∙ is);
  judged = λ is. ap endpoint_of aim ∙ fits.judged (ap judges (sym door) ∙ is);
  unasked = λ is. gate ∙ fits.unasked (ap is_asked (sym stage) ∙ is);
  outbound = λ some. ap judges door ∙ fits.outbound (λ zero. some (gate ∙ zero));
  still = λ is. (let was = fits.still (ap is_asked (sym stage) ∙ is) in (down ∙ was.0, owed ∙ was.1));
}

-- the stream is left
off_fits : (x : Captured) (begun : ℕ) → AimFits x → AimFits (record x { gate = 0; stream = 0; went_up = begun })
off_fits x begun fits =
    record {
      untold = fits.untold;
      judged = fits.judged;
      unasked = λ is. refl;
      outbound = λ some. absurd (some refl);
      still = fits.still;
    }

rejudged_fits : (h : Resources) (x : Captured) → AimFits x → AimFits (rejudged h x)
rejudged_fits h x fits = by (judges x.door && is_judged x.stage)
  where
    of : (j : Judged) → AimFits (judged_by j x)
    of Admitted = fits
    of Unknown = ends_fit cause.Revoked x fits
    of Denied = ends_fit cause.Revoked x fits

    by : (b : Bool) → AimFits (cond b (judged_by (judged h x.peer x.target) x) x)
    by true = of (judged h x.peer x.target)
    by false = fits

-- a judged link goes straight, to no endpoint
verdict_straight : (v : Verdict) (aim : Aim) → by_verdict v ≡ aims aim → endpoint_of aim ≡ None
verdict_straight (Dial to) aim is = (let same : straight_to to None ≡ aim = cc in ap endpoint_of (sym same))
verdict_straight (Status status) aim is = absurd cc
verdict_straight Reset aim is = absurd cc

judged_straight : (d : Door) (h : Resources) (routing : Routing) (seen : Seen) (aim : Aim) → judges d ≡ true
    → answer_on d h routing seen ≡ aims aim → endpoint_of aim ≡ None
judged_straight door.Outbound h routing seen aim judges_it is = absurd (false≢true judges_it)
judged_straight door.Inbound h routing seen aim judges_it is = verdict_straight (verdict_on h seen) aim is
judged_straight door.Plain h routing seen aim judges_it is = verdict_straight (verdict_on h seen) aim is

-- a link by a gateway isn't judged
keyed_ends : (aim : Aim) → IsSome (key_of aim) → endpoint_of aim ≡ None → ⊥
keyed_ends (straight_to to endpoint) some none = false≢true some
keyed_ends (through key authority endpoint) some none = cc

not_judged : (b : Bool) → (b ≡ true → ⊥) → b ≡ false
not_judged true none = absurd (none refl)
not_judged false none = refl

module _ (l : ℕ) (x : Captured) (fits : AimFits x) where
  came_fits : (bytes : List ℕ) (stage : Stage) → AimFits (came_by stage bytes x)
  came_fits bytes fronting = rests x (came_by fronting bytes x) refl refl refl refl refl refl fits
  came_fits bytes stage = rests x (came_by stage bytes x) refl refl refl refl refl refl fits

  entry_fits : (z : Entry) → MayCome l x z → AimFits (entered z x)
  entry_fits (e.Accepted k d) may = record {
    untold = λ is. fits.untold (ap is_told may.1);
    judged = λ is. fits.untold (ap is_told may.1);
    unasked = λ is. fits.unasked (ap is_asked may.1);
    outbound = λ some. absurd (some (fits.unasked (ap is_asked may.1)));
    still = λ is. fits.still (ap is_asked may.1);
  }
  entry_fits (e.Came k bytes) may = came_fits bytes x.stage
  entry_fits (e.Ended k) may = record {
    untold = λ is. fits.untold (hung_told x.stage is);
    judged = fits.judged;
    unasked = λ is. fits.unasked (hung_asked x.stage is);
    outbound = fits.outbound;
    still = λ is. fits.still (hung_asked x.stage is);
  }
  entry_fits (e.Went k bytes) may = record {
    untold = fits.untold;
    judged = fits.judged;
    unasked = fits.unasked;
    outbound = fits.outbound;
    still = λ is. absurd (false≢true (sym is ∙ ap is_asked may.1.1));
  }
  entry_fits (e.Broke k) may = ends_fit cause.PeerGone x fits
  entry_fits (e.Shut k) may = rests x (entered (e.Shut k) x) refl refl refl refl refl refl fits
  entry_fits (e.Closed k why) may = rests x (entered (e.Closed k why) x) refl refl refl refl refl refl fits
  entry_fits _ may = fits

  up_fits : (z : Entry) → UpMayCome l x z → AimFits (up_entered z x)
  up_fits (e.Dialled u to why) may = record {
    untold = λ is. absurd (false≢true (sym is));
    judged = fits.judged;
    unasked = λ is. absurd (false≢true (sym is));
    outbound = fits.outbound;
    still = λ is. absurd (false≢true (sym is));
  }
  up_fits (e.DialFailed to why) may = ends_fit cause.UpFault x fits
  up_fits (e.Opened u) may = record {
    untold = λ is. absurd (false≢true (sym is));
    judged = fits.judged;
    unasked = λ is. absurd (false≢true (sym is));
    outbound = fits.outbound;
    still = λ is. absurd (false≢true (sym is));
  }
  up_fits (e.Came u bytes) may = record {
    untold = fits.untold;
    judged = fits.judged;
    unasked = fits.unasked;
    outbound = fits.outbound;
    still = λ is. absurd (false≢true (sym is ∙ ap is_asked may.0.0.1));
  }
  up_fits (e.Ended u) may = record {
    untold = fits.untold;
    judged = fits.judged;
    unasked = fits.unasked;
    outbound = fits.outbound;
    still = λ is. absurd (false≢true (sym is ∙ ap is_asked may.0.0.1));
  }
  up_fits (e.Went u bytes) may = rests x (up_entered (e.Went u bytes) x) refl refl refl refl refl refl fits
  up_fits (e.Broke u) may = ends_fit cause.UpFault x fits
  up_fits (e.Shut u) may = rests x (up_entered (e.Shut u) x) refl refl refl refl refl refl fits
  up_fits (e.Closed u why) may = rests x (up_entered (e.Closed u why) x) refl refl refl refl refl refl fits
  up_fits _ may = fits

  -- what is heard but a failure is behind its opening
  brings_late : (bytes : List ℕ) (stage : Stage) → MayHear stage (brings bytes) x → is_asked stage ≡ true
  brings_late bytes live may = refl
  brings_late bytes _ may = absurd may

  ends_late : (stage : Stage) → MayHear stage response.ends x → is_asked stage ≡ true
  ends_late live may = refl
  ends_late _ may = absurd may

  told_fits : (heard : Heard) (begun : ℕ) → MayHear x.stage heard x → AimFits (told_by heard begun x)
  told_fits (opens end) begun may = record {
    untold = λ is. absurd (false≢true (sym is));
    judged = fits.judged;
    unasked = λ is. absurd (false≢true (sym is));
    outbound = fits.outbound;
    still = λ is. absurd (false≢true (sym is));
  }
  told_fits (brings bytes) begun may = record {
    untold = fits.untold;
    judged = fits.judged;
    unasked = fits.unasked;
    outbound = fits.outbound;
    still = λ is. absurd (false≢true (sym is ∙ brings_late bytes x.stage may));
  }
  told_fits response.ends begun may = record {
    untold = fits.untold;
    judged = fits.judged;
    unasked = fits.unasked;
    outbound = fits.outbound;
    still = λ is. absurd (false≢true (sym is ∙ ends_late x.stage may));
  }
  told_fits (fails why) begun may = off_fits (ends_for why x) begun (ends_fit why x fits)

-- whatever the identity is that is to be noted
named_fits : (identity : Option Identity) (x : Captured) → AimFits x → AimFits (record x { identity = identity })
named_fits identity x fits = record {
  untold = fits.untold;
  judged = fits.judged;
  unasked = fits.unasked;
  outbound = fits.outbound;
  still = fits.still;
}

part_fits : (l : ℕ) (a : Local) (p : Part) → MayGo l a p → AimFits a.link → AimFits (next_link a.link p)
part_fits l a (entry z) may fits = entry_fits l a.link fits z may
part_fits l a (up z) may fits = up_fits l a.link fits z may
part_fits l a welcomed may fits = at_fits fronting a.link (λ is. ap is_told may) (λ is. ap is_asked may) fits
part_fits l a crowded may fits = ends_fit cause.NoRoom a.link fits
part_fits l a lacked may fits = ends_fit cause.NoMemory a.link fits
part_fits l a (misfronted fault) may fits = ends_fit _ a.link fits
part_fits l a (fronted seen routing aim) may fits = record {
  untold = λ is. absurd (false≢true (sym is));
  judged = λ is. judged_straight a.link.door a.held routing seen aim is may.1;
  unasked = λ is. fits.unasked (ap is_asked may.0.0);
  outbound = fits.outbound;
  still = λ is. fits.still (ap is_asked may.0.0);
}
part_fits l a (refused seen routing why status made) may fits = record {
  untold = λ is. refl;
  judged = λ is. refl;
  unasked = λ is. absurd (false≢true (sym is));
  outbound = fits.outbound;
  still = λ is. absurd (false≢true (sym is));
}
part_fits l a (accepted made) may fits =
    named_fits None (at_stage live a.link)
    (at_fits live a.link (λ is. absurd (false≢true (sym is))) (λ is. absurd (false≢true (sym is))) fits)
part_fits l a roomless may fits = ends_fit cause.NoRoom a.link fits
part_fits l a (asked gate stream) may fits = record {
  untold = λ is. absurd (false≢true (sym is));
  judged = fits.judged;
  unasked = λ is. absurd (false≢true (sym is));
  outbound = λ some. not_judged (judges a.link.door) (λ is. keyed_ends a.link.aim may.1 (fits.judged is));
  still = λ is. absurd (false≢true (sym is));
}
part_fits l a (hears heard begun) may fits = told_fits l a.link fits heard begun may.1
part_fits l a (put bytes) may fits = rests a.link (next_link a.link (put bytes)) refl refl refl refl refl refl fits
part_fits l a finished may fits = rests a.link (next_link a.link finished) refl refl refl refl refl refl fits
part_fits l a (credited n) may fits = record {
  untold = fits.untold;
  judged = fits.judged;
  unasked = fits.unasked;
  outbound = fits.outbound;
  still = λ is. ((fits.still is).0, refl);
}
part_fits l a (loosed begun) may fits = off_fits a.link begun fits
part_fits l a (completed begun made) may fits =
    at_fits (over cause.Done) _ (λ is. absurd (false≢true (sym is))) (λ is. absurd (false≢true (sym is))) (off_fits a.link begun fits)
part_fits l a (left made) may fits =
    named_fits (name_left a.link.stage a.link.identity) (at_stage (left_by a.link.stage) a.link)
    (at_fits (left_by a.link.stage) a.link (left_told a.link.stage) (left_asked a.link.stage) fits)
part_fits l a (done made) may fits =
    at_fits (over cause.Done) a.link (λ is. absurd (false≢true (sym is))) (λ is. absurd (false≢true (sym is))) fits
part_fits l a (applied r) may fits = fits
part_fits l a (stopped why) may fits = ends_fit why a.link fits

pub aims_fit : (g : NodeConfig) (x : Machine) (points : List Point) → StandsFor g x points → (l : ℕ) → AimFits (x.plain l)
aims_fit =
    all_kept AimFits (record {
      first = record {
        untold = λ is. refl;
        judged = λ is. refl;
        unasked = λ is. refl;
        outbound = λ some. absurd (some refl);
        still = λ is. (refl, refl);
      };
      goes = part_fits;
      judged = rejudged_fits;
    })
