-- What a part makes of an inbound link's phase and of its tunnels, as far as the trace tells of the link and of their upstreams.
use Rattle.std.proofs.Common.{◌≡◌, ◌≢◌, ℕ, ◌==◌, Bool, true, false, cond, List, refl, ap, sym, ◌∙◌, subst}
use Rattle.std.proofs.lemmas.Bool.{cond_both, eqb-true}
use Rattle.hb_base.specs.declared.cause.Cause.{Cause}
use Rattle.hb_base.specs.declared.cause.Cause.TheVariants as cause
use Rattle.hb_base.specs.declared.note.Note.{Note}
use Rattle.hb_conn.specs.Connection.{Connection}
use Rattle.hb_conn.specs.declared.found.Found.{Found}
use Rattle.hb_conn.specs.declared.found.Found.TheVariants as found
use Rattle.hb_held.specs.Held.{Resources}
use Rattle.hb_held.specs.Outcome.{after_response}
use Rattle.hb_hpack.specs.declared.header.HeaderList.{HeaderList}
use Rattle.hb_inbound.specs.Inbound.{Inbound, Phase, unborn, arriving, fronting, serving, faulted, closing, closed, at_stream, came_by, went_by, ended_by, broken_by, told_of, on_found, judged_by, rejudged, lacking, stops_by, stopped_for}
use Rattle.hb_inbound.specs.Part as part
use Rattle.hb_inbound.specs.Part.{Part, entry, up, welcomed, crowded, lacked, misfronted, looked, decided, accepted, refused, reset, left, done, put, finished, credited, applied, stopped}
use Rattle.hb_inbound.specs.Runs.{Local, MayCome, UpMayCome, entered, Lacks, Steps, StandsFor, with_link, tunnel_for, put_down, Refuses, Resets, Leaves}
use Rattle.hb_inbound.specs.Tunnel.{Tunnel, Stage, unasked, requested, refusing, malformed, due, opening, accepting, live, failed, ended, over, gone, at_stage, takes_place, ends_by, ends_for, left_with, up_entered, came_up, peer_ended, requested_with}
use Rattle.hb_inbound.proofs.EndsRun.{new_streams}
use Rattle.hb_table.specs.Judgement.{judged}
use Rattle.hb_table.specs.declared.judgement.Judged.{Judged}
use Rattle.hb_table.specs.declared.judgement.Judged.TheVariants.{Admitted, Unknown, Denied}
use Rattle.hb_verdict.specs.declared.verdict.Verdict.{Verdict}
use Rattle.hb_verdict.specs.declared.verdict.Verdict.TheVariants.{Status, Reset, Dial}
use Rattle.hb_world.specs.declared.entry.Entry.{Entry}
use Rattle.hb_world.specs.declared.entry.Entry.TheVariants as e
use Rattle.hb_proxy.proofs.Look.{Look, dialled, open_now}

-- WHAT A TRACE HAS TOLD

-- of an inbound link, in each phase of one that is born
abbrev pub LinkFits : Phase → Look → Type 0
LinkFits unborn v = ⊥
LinkFits closed v = v.closed ≡ true
LinkFits phase v = v ≡ open_now false

-- a link was born, is shut or not, and isn't closed
pub record IsYet (shut : Bool) (v : Look) : Type 0 where
  pub born : v.born ≡ true
  pub closed : v.closed ≡ false
  pub shut_is : v.shut ≡ shut

-- of the upstream of a tunnel, at each stage at which that may have one
abbrev pub StageFits : Stage → Bool → Look → Type 0
StageFits opening shut v = v ≡ dialled shut
StageFits accepting shut v = v ≡ open_now shut
StageFits live shut v = v ≡ open_now shut
StageFits (failed why) shut v = IsYet shut v
StageFits (ended why) shut v = IsYet shut v
StageFits (over why) shut v = IsYet shut v
StageFits gone shut v = v.closed ≡ true
StageFits stage shut v = ⊥

abbrev pub UpFits : Tunnel → ℕ → Look → Type 0
UpFits t n v = (t.up ≡ n) × StageFits t.stage t.shut v

-- no upstream is shut before it is dialled
abbrev pub DueBy : Stage → Bool → Type 0
DueBy due shut = shut ≡ false
DueBy stage shut = Unit {0}

pub yet_dialled : (shut : Bool) (v : Look) → v ≡ dialled shut → IsYet shut v
yet_dialled shut v is =
    record { born = ap (λ (w : Look). w.born) is; closed = ap (λ (w : Look). w.closed) is; shut_is = ap (λ (w : Look). w.shut) is }

pub yet_open : (shut : Bool) (v : Look) → v ≡ open_now shut → IsYet shut v
yet_open shut v is =
    record { born = ap (λ (w : Look). w.born) is; closed = ap (λ (w : Look). w.closed) is; shut_is = ap (λ (w : Look). w.shut) is }

-- a number that isn't that of the link that an entry opens, shuts or closes
abbrev pub IsOther : ℕ → ℕ → Type 0
IsOther k n = (n ≢ 0) × (n ≢ k)

abbrev pub touched_by : Entry → ℕ
touched_by (e.Opened k) = k
touched_by (e.Shut k) = k
touched_by (e.Closed k why) = k
touched_by _ = 0

abbrev pub touched : Part → ℕ
touched (entry z) = touched_by z
touched (up s z) = touched_by z
touched _ = 0

-- what fits a tunnel still does where it changes so, its upstream being none but that link
pub record Goes (k : ℕ) (old new : Tunnel) : Type 0 where
  pub fits : (n : ℕ) (v : Look) → IsOther k n → UpFits old n v → UpFits new n v
  pub due : DueBy old.stage old.shut → DueBy new.stage new.shut

module _ (k : ℕ) where
  goes_same : (t : Tunnel) → Goes k t t
  goes_same t = record { fits = λ n v other is. is; due = λ is. is }

  ends_goes : (why : Cause) (t : Tunnel) → Goes k t (ends_for why t)
  ends_goes why t = record { fits = λ n v other is. (is.0, by t.stage v is.1); due = λ is. late t.stage is }
    where
      by : (stage : Stage) (v : Look) → StageFits stage t.shut v → StageFits (ends_by why stage) t.shut v
      by opening v is = yet_dialled t.shut v is
      by accepting v is = yet_open t.shut v is
      by live v is = yet_open t.shut v is
      by (failed other) v is = is
      by (ended other) v is = is
      by (over other) v is = is
      by gone v is = is
      by unasked v is = absurd is
      by (requested headers end) v is = absurd is
      by (refusing status target) v is = absurd is
      by malformed v is = absurd is
      by due v is = absurd is

      late : (stage : Stage) → DueBy stage t.shut → DueBy (ends_by why stage) t.shut
      late opening is = tt
      late accepting is = tt
      late live is = tt
      late (failed other) is = tt
      late (ended other) is = tt
      late (over other) is = tt
      late gone is = tt
      late unasked is = tt
      late (requested headers end) is = tt
      late (refusing status target) is = tt
      late malformed is = tt
      late due is = tt

  judged_goes : (j : Judged) (t : Tunnel) → Goes k t (judged_by j t)
  judged_goes Admitted t = goes_same t
  judged_goes Unknown t = ends_goes cause.Revoked t
  judged_goes Denied t = ends_goes cause.Revoked t

  left_goes : (why : Cause) (t : Tunnel) → ((v : Look) → StageFits t.stage t.shut v → IsYet t.shut v) → Goes k t (left_with why t)
  left_goes why t yet = record {
    fits = λ n v other is. (is.0, by n v other is (t.up == 0) refl);
    due = λ is. late (t.up == 0);
  }
    where
      by : (n : ℕ) (v : Look) → IsOther k n → UpFits t n v → (b : Bool) → (t.up == 0) ≡ b → StageFits (cond b gone (over why)) t.shut v
      by n v other is true zero = absurd (other.0 (sym is.0 ∙ eqb-true t.up 0 zero))
      by n v other is false some = yet v is.1

      late : (b : Bool) → DueBy (cond b gone (over why)) t.shut
      late true = tt
      late false = tt

  -- a tunnel that has no upstream yet
  new_goes : (old new : Tunnel) → ((v : Look) → StageFits old.stage old.shut v → ⊥) → DueBy new.stage new.shut → Goes k old new
  new_goes old new none is = record { fits = λ n v other fits. absurd (none v fits.1); due = λ was. is }

  dropped_goes : (t : Tunnel) → ((v : Look) → StageFits t.stage t.shut v → ⊥) → Goes k t (at_stage gone t)
  dropped_goes t none = new_goes t (at_stage gone t) none tt

  -- one tunnel of a link changes
  at_goes : (s j : ℕ) (change : Tunnel → Tunnel) (x : Inbound) → Goes k (x.tunnels s) (change (x.tunnels s))
      → Goes k (x.tunnels j) ((at_stream s change x).tunnels j)
  at_goes s j change x here =
      cond_both (j == s) (change (x.tunnels j)) (x.tunnels j) (λ t. Goes k (x.tunnels j) t)
      (λ is. subst (λ i. Goes k (x.tunnels i) (change (x.tunnels i))) (sym (eqb-true j s is)) here) (λ is. goes_same (x.tunnels j))

module _ (k l s : ℕ) (x : Inbound) where
  -- what fits where the tunnel is at this stage
  abbrev here : Tunnel
  here = x.tunnels s

  at : (stage : Stage) → here.stage ≡ stage → (v : Look) → StageFits here.stage here.shut v → StageFits stage here.shut v
  at stage is v fits = subst (λ (st : Stage). StageFits st here.shut v) is fits

  refuses_goes : (stage : Stage) (n : ℕ) (made : Note) (next : Tunnel) → here.stage ≡ stage → Refuses l s x stage n made next
      → Goes k here next
  refuses_goes (refusing status target) n made next is refuses =
      subst (Goes k here) (sym refuses.2) (dropped_goes k here (at (refusing status target) is))
  refuses_goes (failed why) n made next is refuses =
      subst (Goes k here) (sym refuses.3) (left_goes k why here (at (failed why) is))
  refuses_goes unasked n made next is refuses = absurd refuses
  refuses_goes (requested headers end) n made next is refuses = absurd refuses
  refuses_goes malformed n made next is refuses = absurd refuses
  refuses_goes due n made next is refuses = absurd refuses
  refuses_goes opening n made next is refuses = absurd refuses
  refuses_goes accepting n made next is refuses = absurd refuses
  refuses_goes live n made next is refuses = absurd refuses
  refuses_goes (ended why) n made next is refuses = absurd refuses
  refuses_goes (over why) n made next is refuses = absurd refuses
  refuses_goes gone n made next is refuses = absurd refuses

  resets_goes : (stage : Stage) (n : ℕ) (made : Note) (next : Tunnel) → here.stage ≡ stage → Resets l s x stage n made next
      → Goes k here next
  resets_goes malformed n made next is resets =
      subst (Goes k here) (sym resets.2) (dropped_goes k here (at malformed is))
  resets_goes (ended why) n made next is resets =
      subst (Goes k here) (sym resets.3) (left_goes k why here (at (ended why) is))
  resets_goes unasked n made next is resets = absurd resets
  resets_goes (requested headers end) n made next is resets = absurd resets
  resets_goes (refusing status target) n made next is resets = absurd resets
  resets_goes due n made next is resets = absurd resets
  resets_goes opening n made next is resets = absurd resets
  resets_goes accepting n made next is resets = absurd resets
  resets_goes live n made next is resets = absurd resets
  resets_goes (failed why) n made next is resets = absurd resets
  resets_goes (over why) n made next is resets = absurd resets
  resets_goes gone n made next is resets = absurd resets

  leaves_goes : (stage : Stage) (made : _) (next : Tunnel) → here.stage ≡ stage → Leaves l s x stage made next → Goes k here next
  leaves_goes (failed why) made next is leaves = subst (Goes k here) (sym leaves.3) (left_goes k why here (at (failed why) is))
  leaves_goes (ended why) made next is leaves = subst (Goes k here) (sym leaves.3) (left_goes k why here (at (ended why) is))
  leaves_goes unasked made next is leaves = absurd leaves
  leaves_goes (requested headers end) made next is leaves = absurd leaves
  leaves_goes (refusing status target) made next is leaves = absurd leaves
  leaves_goes malformed made next is leaves = absurd leaves
  leaves_goes due made next is leaves = absurd leaves
  leaves_goes opening made next is leaves = absurd leaves
  leaves_goes accepting made next is leaves = absurd leaves
  leaves_goes live made next is leaves = absurd leaves
  leaves_goes (over why) made next is leaves = absurd leaves
  leaves_goes gone made next is leaves = absurd leaves

  -- an entry of its upstream
  up_goes : (z : Entry) → UpMayCome l s x here z → Goes (touched_by z) here (up_entered z here)
  up_goes (e.Dialled u to why) may = new_goes 0 here (up_entered (e.Dialled u to why) here) (at due may.1) tt
  up_goes (e.DialFailed to why) may = ends_goes 0 cause.UpFault here
  up_goes (e.Opened u) may =
      record { fits = λ n v other is. absurd (other.1 (sym is.0 ∙ may.2)); due = λ is. tt }
  up_goes (e.Came u bytes) may = record { fits = λ n v other is. is; due = λ is. is }
  up_goes (e.Ended u) may = record { fits = λ n v other is. is; due = λ is. is }
  up_goes (e.Went u bytes) may = record { fits = λ n v other is. is; due = λ is. is }
  up_goes (e.Broke u) may = ends_goes 0 cause.UpFault here
  up_goes (e.Shut u) may = record {
    fits = λ n v other is. absurd (other.1 (sym is.0 ∙ may.2));
    due = λ is. subst (λ (st : Stage). DueBy st true) (sym may.1) tt;
  }
  up_goes (e.Closed u why) may = record { fits = λ n v other is. absurd (other.1 (sym is.0 ∙ may.2)); due = λ is. tt }
  up_goes (e.Balked w) may = record { fits = λ n v other is. is; due = λ is. is }
  up_goes (e.Accepted j d) may = absurd may
  up_goes e.Tick may = absurd may
  up_goes (e.Wait ready how) may = absurd may

-- THE LINK

-- what fits a link and its tunnels still does where it changes so
pub record LinkGoes (k l : ℕ) (old new : Inbound) : Type 0 where
  pub phase : (v : Look) → IsOther k l → LinkFits old.phase v → LinkFits new.phase v
  pub tunnels : (s : ℕ) → Goes k (old.tunnels s) (new.tunnels s)

pub link_same : (k l : ℕ) (x : Inbound) → LinkGoes k l x x
link_same k l x = record { phase = λ v other is. is; tunnels = λ s. goes_same k (x.tunnels s) }

-- a response that is applied, and the end of the run
pub applied_goes : (k l : ℕ) (h : Resources) (x : Inbound) → LinkGoes k l x (rejudged h x)
applied_goes k l h x = record { phase = λ v other is. is; tunnels = λ s. by s (takes_place (x.tunnels s).stage) }
  where
    by : (s : ℕ) (b : Bool)
        → Goes k (x.tunnels s) (cond b (judged_by (judged h x.peer (x.tunnels s).target) (x.tunnels s)) (x.tunnels s))
    by s true = judged_goes k (judged h x.peer (x.tunnels s).target) (x.tunnels s)
    by s false = goes_same k (x.tunnels s)

pub stopped_goes : (k l : ℕ) (why : Cause) (x : Inbound) → LinkGoes k l x (stopped_for why x)
stopped_goes k l why x = record { phase = λ v other is. by x.phase v is; tunnels = λ s. ends_goes k why (x.tunnels s) }
  where
    by : (phase : Phase) (v : Look) → LinkFits phase v → LinkFits (stops_by why phase) v
    by unborn v is = is
    by arriving v is = is
    by fronting v is = is
    by serving v is = is
    by (faulted code) v is = is
    by (closing other) v is = is
    by closed v is = is

-- ENTRIES OF THE LINK

module _ (l : ℕ) (x : Inbound) where
  same_link : (k : ℕ) (y : Inbound) → y.phase ≡ x.phase → ((s : ℕ) → y.tunnels s ≡ x.tunnels s) → LinkGoes k l x y
  same_link k y phase each = record {
    phase = λ v other is. subst (λ (p : Phase). LinkFits p v) (sym phase) is;
    tunnels = λ s. subst (Goes k (x.tunnels s)) (sym (each s)) (goes_same k (x.tunnels s));
  }

  came_phase : (bytes : List ℕ) (phase : Phase) → (came_by phase bytes x).phase ≡ x.phase
  came_phase bytes unborn = refl
  came_phase bytes arriving = refl
  came_phase bytes fronting = refl
  came_phase bytes serving = refl
  came_phase bytes (faulted code) = refl
  came_phase bytes (closing why) = refl
  came_phase bytes closed = refl

  came_tunnels : (bytes : List ℕ) (phase : Phase) (s : ℕ) → (came_by phase bytes x).tunnels s ≡ x.tunnels s
  came_tunnels bytes unborn s = refl
  came_tunnels bytes arriving s = refl
  came_tunnels bytes fronting s = refl
  came_tunnels bytes serving s = refl
  came_tunnels bytes (faulted code) s = refl
  came_tunnels bytes (closing why) s = refl
  came_tunnels bytes closed s = refl

  ended_goes : (phase : Phase) → x.phase ≡ phase → LinkGoes 0 l x (ended_by phase x)
  ended_goes fronting at = record {
    phase = λ v other is. subst (λ (p : Phase). LinkFits p v) at is;
    tunnels = λ s. goes_same 0 (x.tunnels s);
  }
  ended_goes serving at = record {
    phase = λ v other is. subst (λ (p : Phase). LinkFits p v) at is;
    tunnels = λ s. ends_goes 0 cause.PeerGone (x.tunnels s);
  }
  ended_goes unborn at = link_same 0 l x
  ended_goes arriving at = link_same 0 l x
  ended_goes (faulted code) at = link_same 0 l x
  ended_goes (closing why) at = link_same 0 l x
  ended_goes closed at = link_same 0 l x

  broken_goes : (phase : Phase) → x.phase ≡ phase → LinkGoes 0 l x (broken_by phase x)
  broken_goes fronting at = record {
    phase = λ v other is. subst (λ (p : Phase). LinkFits p v) at is;
    tunnels = λ s. goes_same 0 (x.tunnels s);
  }
  broken_goes serving at = record {
    phase = λ v other is. subst (λ (p : Phase). LinkFits p v) at is;
    tunnels = λ s. ends_goes 0 cause.PeerGone (x.tunnels s);
  }
  broken_goes (faulted code) at = record {
    phase = λ v other is. subst (λ (p : Phase). LinkFits p v) at is;
    tunnels = λ s. goes_same 0 (x.tunnels s);
  }
  broken_goes unborn at = link_same 0 l x
  broken_goes arriving at = link_same 0 l x
  broken_goes (closing why) at = link_same 0 l x
  broken_goes closed at = link_same 0 l x

  went_phase : (phase : Phase) (v : Look) → LinkFits phase v → LinkFits (went_by phase) v
  went_phase unborn v is = is
  went_phase arriving v is = is
  went_phase fronting v is = is
  went_phase serving v is = is
  went_phase (faulted code) v is = is
  went_phase (closing why) v is = is
  went_phase closed v is = is

  entry_goes : (z : Entry) → MayCome l x z → LinkGoes (touched_by z) l x (entered z x)
  entry_goes (e.Accepted j d) may = record {
    phase = λ v other is. absurd (subst (λ (p : Phase). LinkFits p v) may.1 is);
    tunnels = λ s. goes_same 0 (x.tunnels s);
  }
  entry_goes (e.Came j bytes) may = same_link 0 (came_by x.phase bytes x) (came_phase bytes x.phase) (came_tunnels bytes x.phase)
  entry_goes (e.Ended j) may = ended_goes x.phase refl
  entry_goes (e.Went j bytes) may = record {
    phase = λ v other is. went_phase x.phase v is;
    tunnels = λ s. record { fits = λ n v other is. is; due = λ is. is };
  }
  entry_goes (e.Broke j) may = broken_goes x.phase refl
  entry_goes (e.Closed j why) may = record {
    phase = λ v other is. absurd (other.1 (sym may.0));
    tunnels = λ s. goes_same j (x.tunnels s);
  }
  entry_goes (e.Balked w) may = link_same 0 l x
  entry_goes (e.Dialled j to why) may = absurd may
  entry_goes (e.DialFailed to why) may = absurd may
  entry_goes (e.Opened j) may = absurd may
  entry_goes (e.Shut j) may = absurd may
  entry_goes e.Tick may = absurd may
  entry_goes (e.Wait ready how) may = absurd may

-- EVERY PART

module _ (l : ℕ) (start : Resources) (a : Local) (parts : List Part) (stands : StandsFor l start a parts) where
  -- a link that goes on in this phase
  phase_goes : (old new : Phase) → a.link.phase ≡ old → ((v : Look) → LinkFits old v → LinkFits new v) → (v : Look)
      → LinkFits a.link.phase v → LinkFits new v
  phase_goes old new is goes v fits = goes v (subst (λ (p : Phase). LinkFits p v) is fits)

  moved : (y : Inbound) (old : Phase) → a.link.phase ≡ old → ((v : Look) → LinkFits old v → LinkFits y.phase v)
      → ((s : ℕ) → y.tunnels s ≡ a.link.tunnels s) → LinkGoes 0 l a.link y
  moved y old is goes each = record {
    phase = λ v other fits. phase_goes old y.phase is goes v fits;
    tunnels = λ s. subst (Goes 0 (a.link.tunnels s)) (sym (each s)) (goes_same 0 (a.link.tunnels s));
  }

  -- the tunnel on a stream changes, and the phase doesn't
  one_goes : (k s : ℕ) (change : Tunnel → Tunnel) (y : Inbound) → y.phase ≡ a.link.phase
      → ((j : ℕ) → y.tunnels j ≡ (at_stream s change a.link).tunnels j)
      → Goes k (a.link.tunnels s) (change (a.link.tunnels s)) → LinkGoes k l a.link y
  one_goes k s change y phase tunnels goes = record {
    phase = λ v other is. subst (λ (p : Phase). LinkFits p v) (sym phase) is;
    tunnels = λ j. subst (Goes k (a.link.tunnels j)) (sym (tunnels j)) (at_goes k s j change a.link goes);
  }

  lacks_phase : (phase : Phase) → Lacks phase a.link → (v : Look) → LinkFits phase v → LinkFits (closing cause.NoMemory) v
  lacks_phase unborn lacks v is = absurd lacks
  lacks_phase arriving lacks v is = is
  lacks_phase fronting lacks v is = is
  lacks_phase serving lacks v is = is
  lacks_phase (faulted code) lacks v is = absurd lacks
  lacks_phase (closing why) lacks v is = absurd lacks
  lacks_phase closed lacks v is = absurd lacks

  told_goes : (ps : _) (told : Found) (headers : HeaderList) (b : Local) → Steps l a (looked ps told headers) b
      → (bytes : List ℕ) (conn : Connection) → LinkGoes 0 l a.link (told_of told headers bytes (record a.link { conn = conn }))
  told_goes ps (found.Opened s end) headers b steps bytes conn =
      let new = new_streams l start a parts stands s end steps.2 steps.3.finds in
      one_goes 0 s (λ t. requested_with headers end) (told_of (found.Opened s end) headers bytes (record a.link { conn = conn })) refl
      (λ j. refl)
      (new_goes 0 (a.link.tunnels s) (requested_with headers end) (at 0 l s a.link unasked new) tt)
  told_goes ps (found.Chunk s end) headers b steps bytes conn =
      one_goes 0 s (came_up bytes) (told_of (found.Chunk s end) headers bytes (record a.link { conn = conn })) refl (λ j. refl)
      (record { fits = λ n v other is. is; due = λ is. is })
  told_goes ps (found.Ended s) headers b steps bytes conn =
      one_goes 0 s peer_ended (told_of (found.Ended s) headers bytes (record a.link { conn = conn })) refl (λ j. refl)
      (record { fits = λ n v other is. is; due = λ is. is })
  told_goes ps (found.Reset s code) headers b steps bytes conn =
      one_goes 0 s (ends_for (cause.PeerReset code)) (told_of (found.Reset s code) headers bytes (record a.link { conn = conn })) refl
      (λ j. refl) (ends_goes 0 (cause.PeerReset code) (a.link.tunnels s))
  told_goes ps (found.Broken s code) headers b steps bytes conn =
      one_goes 0 s (ends_for (cause.StreamFault code)) (told_of (found.Broken s code) headers bytes (record a.link { conn = conn })) refl
      (λ j. refl) (ends_goes 0 (cause.StreamFault code) (a.link.tunnels s))
  told_goes ps (found.Fault code) headers b steps bytes conn = record {
    phase = λ v other fits. phase_goes serving (faulted code) steps.0 (λ w is. is) v fits;
    tunnels = λ s. ends_goes 0 (cause.ConnFault code) (a.link.tunnels s);
  }
  told_goes ps found.Silent headers b steps bytes conn = record { phase = λ v other is. is; tunnels = λ s. goes_same 0 (a.link.tunnels s) }
  told_goes ps (found.GoneAway last) headers b steps bytes conn =
      record { phase = λ v other is. is; tunnels = λ s. goes_same 0 (a.link.tunnels s) }

  answered_goes : (s : ℕ) (headers : HeaderList) (end : Bool) → (a.link.tunnels s).stage ≡ requested headers end → (given : Verdict)
      → Goes 0 (a.link.tunnels s) (tunnel_for given headers end)
  answered_goes s headers end is given =
      new_goes 0 (a.link.tunnels s) (tunnel_for given headers end) (at 0 l s a.link (requested headers end) is) (by given end)
    where
      by : (given : Verdict) (end : Bool) → DueBy (tunnel_for given headers end).stage (tunnel_for given headers end).shut
      by (Status status) end = tt
      by Reset end = tt
      by (Dial target) true = refl
      by (Dial target) false = refl

  live_yet : (s : ℕ) → (a.link.tunnels s).stage ≡ live → (v : Look) → StageFits (a.link.tunnels s).stage (a.link.tunnels s).shut v
      → IsYet (a.link.tunnels s).shut v
  live_yet s is v fits = yet_open (a.link.tunnels s).shut v (at 0 l s a.link live is v fits)

  turn : (k : ℕ) (b : Local) (y : Inbound) → b ≡ with_link y a → LinkGoes k l a.link y → LinkGoes k l a.link b.link
  turn k b y is now = subst (λ (c : Local). LinkGoes k l a.link c.link) (sym is) now

  pub part_goes : (p : Part) (b : Local) → Steps l a p b → LinkGoes (touched p) l a.link b.link
  part_goes (entry z) b steps = turn (touched_by z) b (entered z a.link) steps.1 (entry_goes l a.link z steps.0)
  part_goes (up s z) b steps =
      turn (touched_by z) b (at_stream s (up_entered z) a.link) steps.1
      (one_goes (touched_by z) s (up_entered z) (at_stream s (up_entered z) a.link) refl (λ j. refl) (up_goes 0 l s a.link z steps.0))
  part_goes welcomed b steps = turn 0 b _ steps.1 (moved _ arriving steps.0 (λ v is. is) (λ s. refl))
  part_goes crowded b steps = turn 0 b _ steps.1 (moved _ arriving steps.0 (λ v is. is) (λ s. refl))
  part_goes lacked b steps = turn 0 b (lacking a.link) steps.1 (record {
    phase = λ v other is. lacks_phase a.link.phase steps.0 v is;
    tunnels = λ s. ends_goes 0 cause.NoMemory (a.link.tunnels s);
  })
  part_goes (part.fronted seen) b steps = turn 0 b _ steps.4 (moved _ fronting steps.0 (λ v is. is) (λ s. refl))
  part_goes (misfronted fault) b steps = turn 0 b _ steps.2 (moved _ fronting steps.0 (λ v is. is) (λ s. refl))
  part_goes (looked ps told headers) b steps =
      turn 0 b (on_found told headers steps.2 a.link) steps.5 (told_goes ps told headers b steps _ steps.2)
  part_goes (decided s full given) b steps =
      turn 0 b _ steps.5
      (one_goes 0 s (λ t. tunnel_for given steps.1 steps.2) _ refl (λ j. refl) (answered_goes s steps.1 steps.2 steps.3 given))
  part_goes (accepted s made) b steps =
      turn 0 b _ steps.3
      (one_goes 0 s (λ t. at_stage live (a.link.tunnels s)) _ refl (λ j. refl)
      (record { fits = λ n v other is. (is.0, at 0 l s a.link accepting steps.1 v is.1); due = λ is. tt }))
  part_goes (refused s status resets made) b steps =
      turn 0 b _ steps.4
      (one_goes 0 s (λ t. steps.1) _ refl (λ j. refl)
      (refuses_goes 0 l s a.link (a.link.tunnels s).stage status made steps.1 refl steps.2))
  part_goes (reset s code made) b steps =
      turn 0 b _ steps.3
      (one_goes 0 s (λ t. steps.1) _ refl (λ j. refl)
      (resets_goes 0 l s a.link (a.link.tunnels s).stage code made steps.1 refl steps.2))
  part_goes (left s made) b steps =
      turn 0 b _ steps.2
      (one_goes 0 s (λ t. steps.0) _ refl (λ j. refl)
      (leaves_goes 0 l s a.link (a.link.tunnels s).stage made steps.0 refl steps.1))
  part_goes (done s made) b steps =
      turn 0 b _ steps.3
      (one_goes 0 s (left_with cause.Done) _ refl (λ j. refl) (left_goes 0 cause.Done (a.link.tunnels s) (live_yet s steps.0.2)))
  part_goes (put s bytes) b steps =
      turn 0 b _ steps.3
      (one_goes 0 s (λ t. put_down a.link.conn s (a.link.tunnels s)) _ refl (λ j. refl)
      (record { fits = λ n v other is. is; due = λ is. is }))
  part_goes (finished s) b steps =
      turn 0 b _ steps.2
      (one_goes 0 s (λ t. record (a.link.tunnels s) { end_put = true }) _ refl (λ j. refl)
      (record { fits = λ n v other is. is; due = λ is. is }))
  part_goes (credited s n) b steps =
      turn 0 b _ steps.3
      (one_goes 0 s (λ t. record (a.link.tunnels s) { owed = 0 }) _ refl (λ j. refl)
      (record { fits = λ n v other is. is; due = λ is. is }))
  part_goes (applied r) b steps =
      subst (λ (c : Local). LinkGoes 0 l a.link c.link) (sym steps) (applied_goes 0 l (after_response a.held r) a.link)
  part_goes (stopped why) b steps = turn 0 b (stopped_for why a.link) steps (stopped_goes 0 l why a.link)
