-- Whose the upstream of a plain link is, by how far the link is, and that it stays so but for a birth.
use Rattle.std.proofs.Common.{◌≡◌, inl, inr, ⊎_elim, ℕ, ◌==◌, ◌||◌, ◌&&◌, Bool, true, false, cond, refl, ap, sym, ◌∙◌, subst, arith}
use Rattle.std.proofs.lemmas.Bool.{false≢true, ne_eqb}
use Rattle.std.specs.List.{list_any}
use Rattle.hb_base.specs.declared.cause.Cause.{Cause}
use Rattle.hb_base.specs.declared.cause.Cause.TheVariants as cause
use Rattle.hb_captured.specs.Captured.{Captured, Stage, unborn, arriving, fronting, due, opening, accepting, live, failed, ended, over, judges, is_judged, is_raw, judged_by, rejudged, at_stage, ends_by, ends_for, fronted_by, hung_up, came_by, left_by, left_now, left_behind, told_by, entered, up_entered}
use Rattle.hb_captured.specs.Part as part
use Rattle.hb_captured.specs.Part.{Part, entry, up, welcomed, crowded, lacked, misfronted, fronted, refused, accepted, roomless, asked, hears, put, finished, credited, loosed, completed, left, done, applied, stopped}
use Rattle.hb_captured.specs.Runs.{Local, MayCome, UpMayCome, MayGo, MayHear, HasEnded, IsTried, next_link}
use Rattle.hb_front.specs.Faults.{number_of}
use Rattle.hb_gateway.specs.Response as response
use Rattle.hb_gateway.specs.Response.{Heard, opens, brings, fails}
use Rattle.hb_held.specs.Held.{Resources}
use Rattle.hb_table.specs.Judgement.{judged}
use Rattle.hb_table.specs.declared.judgement.Judged.{Judged}
use Rattle.hb_table.specs.declared.judgement.Judged.TheVariants.{Admitted, Unknown, Denied}
use Rattle.hb_world.specs.Trace.{is_birth}
use Rattle.hb_world.specs.declared.entry.Entry.{Entry}
use Rattle.hb_world.specs.declared.entry.Entry.TheVariants as e
use Rattle.hb_world.specs.declared.entry.Way.TheVariants as way
use Rattle.hb_proxy.specs.Owners.{Owner, relay_of}
use Rattle.hb_proxy.proofs.Stays.{IsNone, IsWeak}

-- one that is asked for, or open, has its upstream, or a stream, and then none
abbrev pub RelayOn : (raw : Bool) → (ℕ → Owner) → (l u : ℕ) → Type 0
RelayOn true whose l u = whose u ≡ relay_of l
RelayOn false whose l u = IsNone whose (relay_of l) × (u ≡ 0)

abbrev pub RelayBy : Stage → (raw : Bool) → (ℕ → Owner) → (l u : ℕ) → Type 0
RelayBy unborn raw whose l u = IsNone whose (relay_of l) × (u ≡ 0) × (raw ≡ true)
RelayBy arriving raw whose l u = IsNone whose (relay_of l) × (u ≡ 0) × (raw ≡ true)
RelayBy fronting raw whose l u = IsNone whose (relay_of l) × (u ≡ 0) × (raw ≡ true)
RelayBy due raw whose l u = IsNone whose (relay_of l) × (u ≡ 0) × (raw ≡ true)
RelayBy opening raw whose l u = RelayOn raw whose l u
RelayBy accepting raw whose l u = RelayOn raw whose l u
RelayBy live raw whose l u = RelayOn raw whose l u
RelayBy stage raw whose l u = IsWeak whose (relay_of l) u

abbrev pub OwnsRelay : (ℕ → Owner) → ℕ → Captured → Type 0
OwnsRelay whose l x = RelayBy x.stage (is_raw x) whose l x.up

on_weakly : (whose : ℕ → Owner) (l u : ℕ) (raw : Bool) → RelayOn raw whose l u → IsWeak whose (relay_of l) u
on_weakly whose l u true is = inr is
on_weakly whose l u false is = inl is.1

pub relay_weakly : (whose : ℕ → Owner) (l u : ℕ) (raw : Bool) (stage : Stage) → RelayBy stage raw whose l u → IsWeak whose (relay_of l) u
relay_weakly whose l u raw unborn is = inl is.1
relay_weakly whose l u raw arriving is = inl is.1
relay_weakly whose l u raw fronting is = inl is.1
relay_weakly whose l u raw due is = inl is.1
relay_weakly whose l u raw opening is = on_weakly whose l u raw is
relay_weakly whose l u raw accepting is = on_weakly whose l u raw is
relay_weakly whose l u raw live is = on_weakly whose l u raw is
relay_weakly whose l u raw _ is = is

abbrev pub is_plain_born : Stage → Bool
is_plain_born unborn = false
is_plain_born _ = true

-- what stays of a link over what is no birth: whatever the owners are, it has the upstream that it had
pub record PlainStays (l : ℕ) (old new : Captured) : Type 0 where
  pub born : is_plain_born new.stage ≡ true → is_plain_born old.stage ≡ true
  pub relay : (whose : ℕ → Owner) → OwnsRelay whose l old → OwnsRelay whose l new

pub same_plain : (l : ℕ) (x : Captured) → PlainStays l x x
same_plain l x = record { born = λ is. is; relay = λ whose old. old }

pub ends_stay : (l : ℕ) (why : Cause) (x : Captured) → PlainStays l x (ends_for why x)
ends_stay l why x = record { born = born x.stage; relay = λ whose. relay whose x.stage }
  where
    born : (stage : Stage) → is_plain_born (ends_by why stage) ≡ true → is_plain_born stage ≡ true
    born unborn is = is
    born _ is = refl

    relay : (whose : ℕ → Owner) (stage : Stage) → RelayBy stage (is_raw x) whose l x.up
        → RelayBy (ends_by why stage) (is_raw x) whose l x.up
    relay whose unborn is = is
    relay whose arriving is = inl is.1
    relay whose fronting is = inl is.1
    relay whose due is = inl is.1
    relay whose opening is = on_weakly whose l x.up (is_raw x) is
    relay whose accepting is = on_weakly whose l x.up (is_raw x) is
    relay whose live is = on_weakly whose l x.up (is_raw x) is
    relay whose _ is = is

judged_stay : (l : ℕ) (j : Judged) (x : Captured) → PlainStays l x (judged_by j x)
judged_stay l Admitted x = same_plain l x
judged_stay l Unknown x = ends_stay l cause.Revoked x
judged_stay l Denied x = ends_stay l cause.Revoked x

pub rejudged_stays : (l : ℕ) (h : Resources) (x : Captured) → PlainStays l x (rejudged h x)
rejudged_stays l h x = by (judges x.door && is_judged x.stage)
  where
    by : (b : Bool) → PlainStays l x (cond b (judged_by (judged h x.peer x.target) x) x)
    by true = judged_stay l (judged h x.peer x.target) x
    by false = same_plain l x

-- A PART OF THE LINK

module _ (l : ℕ) (x : Captured) where
  -- it goes on from a stage to the next
  goes : (stage : Stage) (y : Captured) → x.stage ≡ stage → is_plain_born stage ≡ true
      → ((whose : ℕ → Owner) → RelayBy stage (is_raw x) whose l x.up → OwnsRelay whose l y) → PlainStays l x y
  goes stage y is born relay = record {
    born = λ now. ap is_plain_born is ∙ born;
    relay = λ whose old. relay whose (subst (λ (s : Stage). RelayBy s (is_raw x) whose l x.up) is old);
  }

  -- or stays at it, with its upstream or its stream
  rests : (y : Captured) → y.stage ≡ x.stage → y.up ≡ x.up → y.gate ≡ x.gate → PlainStays l x y
  rests y stage same gate = record {
    born = λ now. ap is_plain_born (sym stage) ∙ now;
    relay = λ whose old. subst (λ (s : Stage). RelayBy s (is_raw y) whose l y.up) (sym stage)
        (subst (λ (n : ℕ). RelayBy x.stage (n == 0) whose l y.up) (sym gate)
        (subst (RelayBy x.stage (is_raw x) whose l) (sym same) old));
  }

  came_stays : (bytes : _) (stage : Stage) → PlainStays l x (came_by stage bytes x)
  came_stays bytes fronting = rests (came_by fronting bytes x) refl refl refl
  came_stays bytes stage = rests (came_by stage bytes x) refl refl refl

  hangs_up : (k : ℕ) → PlainStays l x (entered (e.Ended k) x)
  hangs_up k = record { born = born x.stage; relay = λ whose. relay whose x.stage }
    where
      born : (stage : Stage) → is_plain_born (hung_up stage) ≡ true → is_plain_born stage ≡ true
      born unborn is = is
      born _ is = refl

      relay : (whose : ℕ → Owner) (stage : Stage) → RelayBy stage (is_raw x) whose l x.up → RelayBy (hung_up stage) (is_raw x) whose l x.up
      relay whose fronting is = inl is.1
      relay whose _ is = is

  entry_stays : (z : Entry) → MayCome l x z → is_birth z ≡ false → PlainStays l x (entered z x)
  entry_stays (e.Accepted k d) may none = absurd (false≢true (sym none))
  entry_stays (e.Dialled k to why) may none = absurd (false≢true (sym none))
  entry_stays (e.Came k bytes) may none = came_stays bytes x.stage
  entry_stays (e.Ended k) may none = hangs_up k
  entry_stays (e.Went k bytes) may none = rests (entered (e.Went k bytes) x) refl refl refl
  entry_stays (e.Broke k) may none = ends_stay l cause.PeerGone x
  entry_stays (e.Shut k) may none = rests (entered (e.Shut k) x) refl refl refl
  entry_stays (e.Closed k why) may none = rests (entered (e.Closed k why) x) refl refl refl
  entry_stays z may none = same_plain l x

  up_stays : (z : Entry) → UpMayCome l x z → is_birth z ≡ false → PlainStays l x (up_entered z x)
  up_stays (e.Accepted k d) may none = absurd (false≢true (sym none))
  up_stays (e.Dialled u to why) may none = absurd (false≢true (sym none))
  up_stays (e.DialFailed to why) may none = ends_stay l cause.UpFault x
  up_stays (e.Opened u) may none = goes opening (up_entered (e.Opened u) x) may.0.1 refl (λ whose is. is)
  up_stays (e.Came u bytes) may none = rests (up_entered (e.Came u bytes) x) refl refl refl
  up_stays (e.Ended u) may none = rests (up_entered (e.Ended u) x) refl refl refl
  up_stays (e.Went u bytes) may none = rests (up_entered (e.Went u bytes) x) refl refl refl
  up_stays (e.Broke u) may none = ends_stay l cause.UpFault x
  up_stays (e.Shut u) may none = rests (up_entered (e.Shut u) x) refl refl refl
  up_stays (e.Closed u why) may none =
      goes (over why) (up_entered (e.Closed u why) x) may.1 refl
      (λ whose is. subst (λ (s : Stage). RelayBy s (is_raw x) whose l 0) (sym may.1) (inl refl))
  up_stays z may none = same_plain l x

  only : (c : Bool) → (c || false) ≡ false → c ≡ false
  only true is = is
  only false is = is

  left_stays : PlainStays l x (left_now x)
  left_stays = record { born = born x.stage; relay = λ whose. relay whose x.stage }
    where
      born : (stage : Stage) → is_plain_born (left_by stage) ≡ true → is_plain_born stage ≡ true
      born unborn is = is
      born _ is = refl

      relay : (whose : ℕ → Owner) (stage : Stage) → RelayBy stage (is_raw x) whose l x.up → RelayBy (left_by stage) (is_raw x) whose l x.up
      relay whose (failed cause) is = is
      relay whose (ended cause) is = is
      relay whose _ is = is

  -- a stream is left where the link has ended
  ends_off : (why : Cause) (begun : ℕ) → PlainStays l x (left_behind begun (ends_for why x))
  ends_off why begun = record { born = (ends_stay l why x).born; relay = λ whose. relay whose x.stage }
    where
      relay : (whose : ℕ → Owner) (stage : Stage) → RelayBy stage (is_raw x) whose l x.up → RelayBy (ends_by why stage) true whose l x.up
      relay whose unborn is = (is.0, is.1, refl)
      relay whose arriving is = inl is.1
      relay whose fronting is = inl is.1
      relay whose due is = inl is.1
      relay whose opening is = on_weakly whose l x.up (is_raw x) is
      relay whose accepting is = on_weakly whose l x.up (is_raw x) is
      relay whose live is = on_weakly whose l x.up (is_raw x) is
      relay whose _ is = is

  loosed_stays : (begun : ℕ) → HasEnded x.stage → PlainStays l x (left_behind begun x)
  loosed_stays begun may = record { born = λ is. is; relay = λ whose. relay whose x.stage may }
    where
      relay : (whose : ℕ → Owner) (stage : Stage) → HasEnded stage → RelayBy stage (is_raw x) whose l x.up
          → RelayBy stage true whose l x.up
      relay whose (failed cause) at is = is
      relay whose (ended cause) at is = is
      relay whose (over cause) at is = is
      relay whose unborn at is = absurd at
      relay whose arriving at is = absurd at
      relay whose fronting at is = absurd at
      relay whose due at is = absurd at
      relay whose opening at is = absurd at
      relay whose accepting at is = absurd at
      relay whose live at is = absurd at

  told_stays : (heard : Heard) (begun : ℕ) → MayHear x.stage heard x → PlainStays l x (told_by heard begun x)
  told_stays (opens end) begun may = opened x.stage refl may
    where
      opened : (stage : Stage) → x.stage ≡ stage → MayHear stage (opens end) x → PlainStays l x (told_by (opens end) begun x)
      opened opening is may = goes opening (told_by (opens end) begun x) is refl (λ whose old. old)
      opened unborn is may = absurd may
      opened arriving is may = absurd may
      opened fronting is may = absurd may
      opened due is may = absurd may
      opened accepting is may = absurd may
      opened live is may = absurd may
      opened (failed cause) is may = absurd may
      opened (ended cause) is may = absurd may
      opened (over cause) is may = absurd may
  told_stays (brings bytes) begun may = rests (told_by (brings bytes) begun x) refl refl refl
  told_stays response.ends begun may = rests (told_by response.ends begun x) refl refl refl
  told_stays (fails why) begun may = ends_off why begun

-- a part that is no birth
pub part_stays : (l : ℕ) (a : Local) (p : Part) → MayGo l a p → list_any is_birth (part.entry_in p) ≡ false
    → PlainStays l a.link (next_link a.link p)
part_stays l a (entry z) may none = entry_stays l a.link z may (only l a.link (is_birth z) none)
part_stays l a (up z) may none = up_stays l a.link z may (only l a.link (is_birth z) none)
part_stays l a welcomed may none = goes l a.link arriving (at_stage fronting a.link) may refl (λ whose is. is)
part_stays l a crowded may none = ends_stay l cause.NoRoom a.link
part_stays l a lacked may none = ends_stay l cause.NoMemory a.link
part_stays l a (misfronted fault) may none = ends_stay l (cause.FrontFault (number_of fault)) a.link
part_stays l a (fronted seen routing aim) may none = goes l a.link fronting (fronted_by seen aim due a.link) may.0.0 refl (λ whose is. is)
part_stays l a (refused seen routing why status made) may none =
    goes l a.link fronting (next_link a.link (refused seen routing why status made)) may.0.0 refl (λ whose is. inl is.1)
part_stays l a (accepted made) may none = goes l a.link accepting (next_link a.link (accepted made)) may.0 refl (λ whose is. is)
part_stays l a roomless may none = ends_stay l cause.NoRoom a.link
part_stays l a (asked gate stream) may none =
    goes l a.link due (next_link a.link (asked gate stream)) may.0 refl
    (λ whose is. subst (λ (raw : Bool). RelayOn raw whose l a.link.up) (sym (ne_eqb gate 0 (λ zero. omega (arith, zero, may.2))))
    (is.0, is.1))
part_stays l a (hears heard begun) may none = told_stays l a.link heard begun may.1
part_stays l a (put bytes) may none = rests l a.link (next_link a.link (put bytes)) refl refl refl
part_stays l a finished may none = rests l a.link (next_link a.link finished) refl refl refl
part_stays l a (credited n) may none = rests l a.link (next_link a.link (credited n)) refl refl refl
part_stays l a (loosed begun) may none = loosed_stays l a.link begun may.1
part_stays l a (completed begun made) may none =
    goes l a.link live (next_link a.link (completed begun made)) may.0.1 refl (λ whose is. on_weakly whose l a.link.up (is_raw a.link) is)
part_stays l a (left made) may none = left_stays l a.link
part_stays l a (done made) may none =
    goes l a.link live (at_stage (over cause.Done) a.link) may.0 refl (λ whose is. on_weakly whose l a.link.up (is_raw a.link) is)
part_stays l a (applied r) may none = same_plain l a.link
part_stays l a (stopped why) may none = ends_stay l why a.link

-- an entry stands on a link that is born, but for its birth
tried_born : (x : Captured) → IsTried x → is_plain_born x.stage ≡ true
tried_born x may = ⊎_elim (λ h. ap is_plain_born h.1) (λ later. ⊎_elim (λ h. ap is_plain_born h.1) (λ h. ap is_plain_born h.1) later) may

pub stands_born : (l : ℕ) (x : Captured) (z : Entry) → MayCome l x z → is_birth z ≡ false → is_plain_born x.stage ≡ true
stands_born l x (e.Accepted k d) may none = absurd (false≢true (sym none))
stands_born l x (e.Came k bytes) may none = tried_born x may.1.0
stands_born l x (e.Ended k) may none = tried_born x may.1.0
stands_born l x (e.Went k bytes) may none = ap is_plain_born may.1.1
stands_born l x (e.Broke k) may none = tried_born x may.1
stands_born l x (e.Shut k) may none = ap is_plain_born may.2
stands_born l x (e.Closed k why) may none = ap is_plain_born may.2
stands_born l x (e.Balked (way.Read k)) may none = tried_born x may.1.0
stands_born l x (e.Balked (way.Write k)) may none = ap is_plain_born may.1.1
stands_born l x (e.Balked (way.Listen d to listening)) may none = absurd may
stands_born l x (e.Balked (way.Accept d)) may none = absurd may
stands_born l x (e.Balked (way.Look k)) may none = absurd may
stands_born l x (e.Balked (way.Finish k)) may none = absurd may
stands_born l x (e.Dialled k to why) may none = absurd may
stands_born l x (e.DialFailed to why) may none = absurd may
stands_born l x (e.Opened k) may none = absurd may
stands_born l x e.Tick may none = absurd may
stands_born l x (e.Wait ready how) may none = absurd may
