-- What a part makes of a plain link, as far as the trace tells of the link and of its upstream.
use Rattle.std.proofs.Common.{◌≡◌, ◌⊎◌, inl, inr, ⊎_elim, ℕ, ◌&&◌, Bool, true, false, cond, List, Option, None, refl, sym, ◌∙◌, subst}
use Rattle.std.proofs.lemmas.Bool.{false≢true}
use Rattle.hb_base.specs.declared.cause.Cause.{Cause}
use Rattle.hb_base.specs.declared.cause.Cause.TheVariants as cause
use Rattle.hb_base.specs.declared.identity.Identity.{Identity}
use Rattle.hb_captured.specs.Captured.{Captured, Stage, unborn, arriving, fronting, due, opening, accepting, live, failed, ended, over, at_stage, judges, is_judged, is_raw, ends_by, ends_for, came_by, hung_up, entered, up_entered, left_behind, told_by, left_by, name_left, judged_by, rejudged}
use Rattle.hb_captured.specs.Part.{Part, entry, up, welcomed, crowded, lacked, misfronted, fronted, refused, accepted, roomless, asked, hears, put, finished, credited, loosed, completed, left, done, applied, stopped}
use Rattle.hb_captured.specs.Runs.{Local, MayCome, UpMayCome, MayGo, MayHear, HasEnded, IsOnStream, next_link}
use Rattle.hb_gateway.specs.Response as response
use Rattle.hb_gateway.specs.Response.{Heard, opens, brings, fails}
use Rattle.hb_held.specs.Held.{Resources}
use Rattle.hb_table.specs.Judgement.{judged}
use Rattle.hb_table.specs.declared.judgement.Judged.{Judged}
use Rattle.hb_table.specs.declared.judgement.Judged.TheVariants.{Admitted, Unknown, Denied}
use Rattle.hb_world.specs.declared.entry.Entry.{Entry}
use Rattle.hb_world.specs.declared.entry.Entry.TheVariants as e
use Rattle.hb_proxy.proofs.Changes.{IsYet, yet_dialled, yet_open, IsOther, touched_by}
use Rattle.hb_proxy.proofs.Look.{Look, dialled, open_now}

-- WHAT A TRACE HAS TOLD

-- of a plain link that is born: it is open, and was shut and closed as the link says
abbrev pub here_now : (shut closed : Bool) → Look
here_now shut closed = record { born = true; opened = true; shut = shut; closed = closed }

abbrev pub PlainFitsBy : Stage → (shut closed : Bool) → Look → Type 0
PlainFitsBy unborn shut closed v = ⊥
PlainFitsBy stage shut closed v = v ≡ here_now shut closed

abbrev pub PlainFits : Captured → Look → Type 0
PlainFits x v = PlainFitsBy x.stage x.shut x.closed v

-- of its upstream: that isn't closed, or the link has none any more
abbrev pub Past : (u : ℕ) (shut : Bool) → ℕ → Look → Type 0
Past u shut n v = ((u ≡ n) × IsYet shut v) ⊎ ((u ≡ 0) × (v.closed ≡ true))

-- at each stage at which it may have one
abbrev pub RelayFitsBy : Stage → (u : ℕ) (shut : Bool) → ℕ → Look → Type 0
RelayFitsBy opening u shut n v = (u ≡ n) × (v ≡ dialled shut)
RelayFitsBy accepting u shut n v = (u ≡ n) × (v ≡ open_now shut)
RelayFitsBy live u shut n v = (u ≡ n) × (v ≡ open_now shut)
RelayFitsBy (failed why) u shut n v = Past u shut n v
RelayFitsBy (ended why) u shut n v = Past u shut n v
RelayFitsBy (over why) u shut n v = Past u shut n v
RelayFitsBy stage u shut n v = ⊥

-- while it has no stream
abbrev pub RelayFits : Captured → ℕ → Look → Type 0
RelayFits x n v = (is_raw x ≡ true) × RelayFitsBy x.stage x.up x.up_shut n v

-- nothing is shut or closed before it is there, and there is no stream before one is asked for
abbrev pub PlainDueBy : Stage → (raw up_shut shut closed : Bool) → Type 0
PlainDueBy unborn raw up_shut shut closed = (up_shut ≡ false) × (raw ≡ true) × (shut ≡ false) × (closed ≡ false)
PlainDueBy arriving raw up_shut shut closed = (up_shut ≡ false) × (raw ≡ true)
PlainDueBy fronting raw up_shut shut closed = (up_shut ≡ false) × (raw ≡ true)
PlainDueBy due raw up_shut shut closed = (up_shut ≡ false) × (raw ≡ true)
PlainDueBy stage raw up_shut shut closed = Unit {0}

abbrev pub PlainDue : Captured → Type 0
PlainDue x = PlainDueBy x.stage (is_raw x) x.up_shut x.shut x.closed

pub born_fits : (stage : Stage) (shut closed : Bool) (v : Look) → PlainFitsBy stage shut closed v → v ≡ here_now shut closed
born_fits unborn shut closed v is = absurd is
born_fits arriving shut closed v is = is
born_fits fronting shut closed v is = is
born_fits due shut closed v is = is
born_fits opening shut closed v is = is
born_fits accepting shut closed v is = is
born_fits live shut closed v is = is
born_fits (failed why) shut closed v is = is
born_fits (ended why) shut closed v is = is
born_fits (over why) shut closed v is = is

pub past : (stage : Stage) (u : ℕ) (shut : Bool) (n : ℕ) (v : Look) → RelayFitsBy stage u shut n v → Past u shut n v
past opening u shut n v is = inl (is.0, yet_dialled shut v is.1)
past accepting u shut n v is = inl (is.0, yet_open shut v is.1)
past live u shut n v is = inl (is.0, yet_open shut v is.1)
past (failed why) u shut n v is = is
past (ended why) u shut n v is = is
past (over why) u shut n v is = is
past unborn u shut n v is = absurd is
past arriving u shut n v is = absurd is
past fronting u shut n v is = absurd is
past due u shut n v is = absurd is

-- THE STAGE GOES ON

-- what fits a stage fits the next one
record Passes (old new : Stage) : Type 0 where
  link : (shut closed : Bool) (v : Look) → PlainFitsBy old shut closed v → PlainFitsBy new shut closed v
  up : (u : ℕ) (shut : Bool) (n : ℕ) (v : Look) → RelayFitsBy old u shut n v → RelayFitsBy new u shut n v
  due : (raw up_shut shut closed : Bool) → PlainDueBy old raw up_shut shut closed → PlainDueBy new raw up_shut shut closed

module _ (old : Stage) where
  passes_same : Passes old old
  passes_same = record { link = λ shut closed v is. is; up = λ u shut n v is. is; due = λ raw up_shut shut closed is. is }

  passes_failed : (why : Cause) → Passes old (failed why)
  passes_failed why = record { link = born_fits old; up = past old; due = λ raw up_shut shut closed is. tt }

  passes_ended : (why : Cause) → Passes old (ended why)
  passes_ended why = record { link = born_fits old; up = past old; due = λ raw up_shut shut closed is. tt }

  passes_over : (why : Cause) → Passes old (over why)
  passes_over why = record { link = born_fits old; up = past old; due = λ raw up_shut shut closed is. tt }

ends_passes : (why : Cause) (stage : Stage) → Passes stage (ends_by why stage)
ends_passes why unborn = passes_same unborn
ends_passes why arriving = passes_over arriving why
ends_passes why fronting = passes_over fronting why
ends_passes why due = passes_failed due why
ends_passes why opening = passes_failed opening why
ends_passes why accepting = passes_failed accepting why
ends_passes why live = passes_ended live why
ends_passes why (failed other) = passes_same (failed other)
ends_passes why (ended other) = passes_same (ended other)
ends_passes why (over other) = passes_same (over other)

hung_passes : (stage : Stage) → Passes stage (hung_up stage)
hung_passes fronting = passes_over fronting (cause.FrontFault 0)
hung_passes stage = passes_same stage

left_passes : (stage : Stage) → Passes stage (left_by stage)
left_passes (failed why) = passes_over (failed why) why
left_passes (ended why) = passes_over (ended why) why
left_passes stage = passes_same stage

-- the header is taken in, or is whole; bytes may come and go
fronting_passes : Passes arriving fronting
fronting_passes = record { link = λ shut closed v is. is; up = λ u shut n v is. is; due = λ raw up_shut shut closed is. is }

due_passes : Passes fronting due
due_passes = record { link = λ shut closed v is. is; up = λ u shut n v is. is; due = λ raw up_shut shut closed is. is }

live_passes : Passes accepting live
live_passes = record { link = λ shut closed v is. is; up = λ u shut n v is. is; due = λ raw up_shut shut closed is. is }

-- THE LINK

-- what fits a link and its upstream still does where it changes so, unless it is this one
pub record PlainGoes (k l : ℕ) (old new : Captured) : Type 0 where
  pub link : (v : Look) → IsOther k l → PlainFits old v → PlainFits new v
  pub up : (n : ℕ) (v : Look) → IsOther k n → RelayFits old n v → RelayFits new n v
  pub due : PlainDue old → PlainDue new

pub plain_same : (k l : ℕ) (x : Captured) → PlainGoes k l x x
plain_same k l x = record { link = λ v other is. is; up = λ n v other is. is; due = λ is. is }

module _ (k l : ℕ) (x : Captured) where
  goes_to : (stage : Stage) → Passes x.stage stage → PlainGoes k l x (at_stage stage x)
  goes_to stage passes = record {
    link = λ v other is. passes.link x.shut x.closed v is;
    up = λ n v other is. (is.0, passes.up x.up x.up_shut n v is.1);
    due = λ is. passes.due (is_raw x) x.up_shut x.shut x.closed is;
  }

  ends_goes : (why : Cause) → PlainGoes k l x (ends_for why x)
  ends_goes why = goes_to (ends_by why x.stage) (ends_passes why x.stage)

  judged_goes : (j : Judged) → PlainGoes k l x (judged_by j x)
  judged_goes Admitted = plain_same k l x
  judged_goes Unknown = ends_goes cause.Revoked
  judged_goes Denied = ends_goes cause.Revoked

  -- a response that is applied
  pub applied_goes : (h : Resources) → PlainGoes k l x (rejudged h x)
  applied_goes h = by (judges x.door && is_judged x.stage)
    where
      by : (b : Bool) → PlainGoes k l x (cond b (judged_by (judged h x.peer x.target) x) x)
      by true = judged_goes (judged h x.peer x.target)
      by false = plain_same k l x

-- the end of the run
pub stopped_goes : (k l : ℕ) (why : Cause) (x : Captured) → PlainGoes k l x (ends_for why x)
stopped_goes k l why x = ends_goes k l x why

-- ENTRIES

module _ (l : ℕ) (x : Captured) where
  -- at a stage that the link is at
  passes_at : (stage next : Stage) → x.stage ≡ stage → Passes stage next → Passes x.stage next
  passes_at stage next is passes = subst (λ (s : Stage). Passes s next) (sym is) passes

  came_goes : (bytes : List ℕ) (stage : Stage) → PlainGoes 0 l x (came_by stage bytes x)
  came_goes bytes fronting = record { link = λ v other is. is; up = λ n v other is. is; due = λ is. is }
  came_goes bytes _ = record { link = λ v other is. is; up = λ n v other is. is; due = λ is. is }

  -- what is asked of a stage behind what is told
  late : (stage : Stage) → x.stage ≡ stage → ((a b c : Bool) → PlainDueBy stage (is_raw x) a b c) → (a b c : Bool)
      → PlainDueBy x.stage (is_raw x) a b c
  late stage is none a b c = subst (λ (s : Stage). PlainDueBy s (is_raw x) a b c) (sym is) (none a b c)

  entry_goes : (z : Entry) → MayCome l x z → PlainGoes (touched_by z) l x (entered z x)
  entry_goes (e.Accepted k d) may = record {
    link = λ v other is. absurd (subst (λ (s : Stage). PlainFitsBy s x.shut x.closed v) may.1 is);
    up = λ n v other is. (is.0, subst (λ (s : Stage). RelayFitsBy s x.up x.up_shut n v) may.1 is.1);
    due = λ is. let was = subst (λ (s : Stage). PlainDueBy s (is_raw x) x.up_shut x.shut x.closed) may.1 is in (was.0, was.1);
  }
  entry_goes (e.Came k bytes) may = came_goes bytes x.stage
  entry_goes (e.Ended k) may =
      let passes = hung_passes x.stage in
      record {
        link = λ v other is. passes.link x.shut x.closed v is;
        up = λ n v other is. (is.0, passes.up x.up x.up_shut n v is.1);
        due = λ is. passes.due (is_raw x) x.up_shut x.shut x.closed is;
      }
  entry_goes (e.Went k bytes) may = record { link = λ v other is. is; up = λ n v other is. is; due = λ is. is }
  entry_goes (e.Broke k) may = ends_goes 0 l x cause.PeerGone
  entry_goes (e.Shut k) may = record {
    link = λ v other is. absurd (other.1 (sym may.0));
    up = λ n v other is. is;
    due = λ is. late live may.2 (λ a b c. tt) x.up_shut true x.closed;
  }
  entry_goes (e.Closed k why) may = record {
    link = λ v other is. absurd (other.1 (sym may.0));
    up = λ n v other is. is;
    due = λ is. late (over why) may.2 (λ a b c. tt) x.up_shut x.shut true;
  }
  entry_goes (e.Balked w) may = plain_same 0 l x
  entry_goes (e.Dialled k to why) may = absurd may
  entry_goes (e.DialFailed to why) may = absurd may
  entry_goes (e.Opened k) may = absurd may
  entry_goes e.Tick may = absurd may
  entry_goes (e.Wait ready how) may = absurd may

  -- what fits the upstream where the link is at this stage
  relay_at : (stage : Stage) → x.stage ≡ stage → (n : ℕ) (v : Look) → RelayFits x n v → RelayFitsBy stage x.up x.up_shut n v
  relay_at stage is n v fits = subst (λ (s : Stage). RelayFitsBy s x.up x.up_shut n v) is fits.1

  up_goes : (z : Entry) → UpMayCome l x z → PlainGoes (touched_by z) l x (up_entered z x)
  up_goes (e.Dialled u to why) may = record {
    link = λ v other is. born_fits x.stage x.shut x.closed v is;
    up = λ n v other is. absurd (relay_at due may.0.1 n v is);
    due = λ is. tt;
  }
  up_goes (e.DialFailed to why) may = ends_goes 0 l x cause.UpFault
  up_goes (e.Opened u) may = record {
    link = λ v other is. born_fits x.stage x.shut x.closed v is;
    up = λ n v other is. absurd (other.1 (sym (relay_at opening may.0.1 n v is).0 ∙ may.1));
    due = λ is. tt;
  }
  up_goes (e.Came u bytes) may = record { link = λ v other is. is; up = λ n v other is. is; due = λ is. is }
  up_goes (e.Ended u) may = record { link = λ v other is. is; up = λ n v other is. is; due = λ is. is }
  up_goes (e.Went u bytes) may = record { link = λ v other is. is; up = λ n v other is. is; due = λ is. is }
  up_goes (e.Broke u) may = ends_goes 0 l x cause.UpFault
  up_goes (e.Shut u) may = record {
    link = λ v other is. is;
    up = λ n v other is. absurd (other.1 (sym (relay_at live may.1 n v is).0 ∙ may.2));
    due = λ is. late live may.1 (λ a b c. tt) true x.shut x.closed;
  }
  up_goes (e.Closed u why) may = record {
    link = λ v other is. is;
    up = λ n v other is. ⊎_elim (λ yet. absurd (other.1 (sym yet.0 ∙ may.2)))
        (λ closed. (is.0, subst (λ (s : Stage). RelayFitsBy s 0 x.up_shut n v) (sym may.1) (inr (refl, closed.1))))
        (relay_at (over why) may.1 n v is);
    due = λ is. is;
  }
  up_goes (e.Balked w) may = plain_same 0 l x
  up_goes (e.Accepted k d) may = absurd may
  up_goes e.Tick may = absurd may
  up_goes (e.Wait ready how) may = absurd may

-- ON ITS STREAM

-- what is asked of a link that has ended
ended_due : (stage : Stage) (x : Captured) → HasEnded stage → PlainDueBy stage true x.up_shut x.shut x.closed
ended_due (failed why) x is = tt
ended_due (ended why) x is = tt
ended_due (over why) x is = tt
ended_due unborn x is = absurd is
ended_due arriving x is = absurd is
ended_due fronting x is = absurd is
ended_due due x is = absurd is
ended_due opening x is = absurd is
ended_due accepting x is = absurd is
ended_due live x is = absurd is

module _ (l : ℕ) (x : Captured) where
  -- one that has a stream has no upstream
  on_stream : (y : Captured) → IsOnStream x → ((v : Look) → PlainFits x v → PlainFits y v) → PlainDue y → PlainGoes 0 l x y
  on_stream y on link now = record {
    link = λ v other is. link v is;
    up = λ n v other is. absurd (false≢true (sym on ∙ is.0));
    due = λ is. now;
  }

  told_goes : (heard : Heard) (begun : ℕ) → IsOnStream x → MayHear x.stage heard x → PlainGoes 0 l x (told_by heard begun x)
  told_goes (opens end) begun on may =
      on_stream (told_by (opens end) begun x) on (λ v is. born_fits x.stage x.shut x.closed v is) tt
  told_goes (brings bytes) begun on may = record { link = λ v other is. is; up = λ n v other is. is; due = λ is. is }
  told_goes response.ends begun on may = record { link = λ v other is. is; up = λ n v other is. is; due = λ is. is }
  told_goes (fails why) begun on may = record {
    link = λ v other is. (ends_passes why x.stage).link x.shut x.closed v is;
    up = λ n v other is. absurd (false≢true (sym on ∙ is.0));
    due = λ is. raw (ends_by why x.stage) ((ends_passes why x.stage).due (is_raw x) x.up_shut x.shut x.closed is);
  }
    where
      raw : (stage : Stage) → PlainDueBy stage (is_raw x) x.up_shut x.shut x.closed → PlainDueBy stage true x.up_shut x.shut x.closed
      raw unborn is = (is.0, refl, is.2, is.3)
      raw arriving is = (is.0, refl)
      raw fronting is = (is.0, refl)
      raw due is = (is.0, refl)
      raw stage is = tt

-- EVERY PART

-- what a part opens, shuts or closes
abbrev pub plain_touched : Part → ℕ
plain_touched (entry z) = touched_by z
plain_touched (up z) = touched_by z
plain_touched _ = 0

-- whatever the identity is that is to be noted
named_goes : (l : ℕ) (x y : Captured) (identity : Option Identity) → PlainGoes 0 l x y → PlainGoes 0 l x (record y { identity = identity })
named_goes l x y identity goes = record { link = goes.link; up = goes.up; due = goes.due }

pub plain_part_goes : (l : ℕ) (a : Local) (p : Part) → MayGo l a p → PlainGoes (plain_touched p) l a.link (next_link a.link p)
plain_part_goes l a (entry z) may = entry_goes l a.link z may
plain_part_goes l a (up z) may = up_goes l a.link z may
plain_part_goes l a welcomed may = goes_to 0 l a.link fronting (passes_at l a.link arriving fronting may fronting_passes)
plain_part_goes l a crowded may = ends_goes 0 l a.link cause.NoRoom
plain_part_goes l a lacked may = ends_goes 0 l a.link cause.NoMemory
plain_part_goes l a (misfronted fault) may = ends_goes 0 l a.link _
plain_part_goes l a (fronted seen routing aim) may =
    let passes = passes_at l a.link fronting due may.0.0 due_passes in
    record {
      link = λ v other is. passes.link a.link.shut a.link.closed v is;
      up = λ n v other is. (is.0, passes.up a.link.up a.link.up_shut n v is.1);
      due = λ is. passes.due (is_raw a.link) a.link.up_shut a.link.shut a.link.closed is;
    }
plain_part_goes l a (refused seen routing why status made) may = record {
  link = λ v other is. born_fits a.link.stage a.link.shut a.link.closed v is;
  up = λ n v other is. (is.0, past a.link.stage a.link.up a.link.up_shut n v is.1);
  due = λ is. tt;
}
plain_part_goes l a (accepted made) may =
    named_goes l a.link (at_stage live a.link) None (goes_to 0 l a.link live (passes_at l a.link accepting live may.0 live_passes))
plain_part_goes l a roomless may = ends_goes 0 l a.link cause.NoRoom
plain_part_goes l a (asked gate stream) may = record {
  link = λ v other is. born_fits a.link.stage a.link.shut a.link.closed v is;
  up = λ n v other is. absurd (subst (λ (s : Stage). RelayFitsBy s a.link.up a.link.up_shut n v) may.0 is.1);
  due = λ is. tt;
}
plain_part_goes l a (hears heard begun) may = told_goes l a.link heard begun may.0 may.1
plain_part_goes l a (put bytes) may = record { link = λ v other is. is; up = λ n v other is. is; due = λ is. is }
plain_part_goes l a finished may = on_stream l a.link (next_link a.link finished) may.0.0 (λ v is. is)
    (late l a.link live may.0.1 (λ a b c. tt) true a.link.shut a.link.closed)
plain_part_goes l a (credited n) may = record { link = λ v other is. is; up = λ n v other is. is; due = λ is. is }
plain_part_goes l a (loosed begun) may =
    on_stream l a.link (left_behind begun a.link) may.0 (λ v is. is) (ended_due a.link.stage a.link may.1)
plain_part_goes l a (completed begun made) may =
    on_stream l a.link (next_link a.link (completed begun made)) may.0.0
    (λ v is. born_fits a.link.stage a.link.shut a.link.closed v is) tt
plain_part_goes l a (left made) may =
    named_goes l a.link (at_stage (left_by a.link.stage) a.link) (name_left a.link.stage a.link.identity)
    (goes_to 0 l a.link (left_by a.link.stage) (left_passes a.link.stage))
plain_part_goes l a (done made) may = goes_to 0 l a.link (over cause.Done) (passes_over a.link.stage cause.Done)
plain_part_goes l a (applied r) may = plain_same 0 l a.link
plain_part_goes l a (stopped why) may = ends_goes 0 l a.link why
