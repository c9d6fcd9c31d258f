-- A proxy that was asked for so stays one, and its audits hold what they held.
use Rattle.std.proofs.Common.{◌≡◌, ℕ, inl, inr, ⊎_elim, List, [], ◌∷◌, ◌++◌, Option, Some, None, Result, Ok, Err, OnOk, sym, subst, ◌∙◌}
use Rattle.std.specs.Prelude.{⊤, IfNone, IfSome}
use Rattle.hb_audit.specs.Tells.{Answering}
use Rattle.hb_base.specs.declared.cause.Cause.{Cause}
use Rattle.hb_base.specs.declared.note.Note.{Note}
use Rattle.hb_model.specs.declared.config.NodeConfig.{NodeConfig}
use Rattle.hb_turns.specs.Shown.{Shown, IsSame, Tells, StandsAs, Stirs, Acts, StandsForNone}
use Rattle.hb_whole.specs.Sight.{shown_of}
use Rattle.hb_whole.specs.Stands.{Stands, config_of}
use Rattle.hb_whole.specs.declared.proxy.Proxy.{Proxy}
use Rattle.hb_world.specs.declared.act.Act.{Act}
use Rattle.hb_world.specs.declared.act.Act.TheVariants as act
use Rattle.hb_world.specs.declared.entry.Entry.{Entry}
use Rattle.hb_world.specs.declared.entry.Entry.TheVariants as e
use Rattle.hb_serve.specs.Asked.{StandsWith}
use Rattle.hb_reason.specs.Reasons.{Hear}
use Rattle.hb_reason.proofs.Hearing.{longer}

-- what looks the same, and stirs as much, stirred as well
stirs_same : (trace : List Entry) (a b c : Shown) → IsSame b c → ((l : ℕ) → c.stirs l ≡ b.stirs l) → Stirs trace a b → Stirs trace a c
stirs_same trace a b c same stirs s = record {
  kept = λ l alive was. stirs l ∙ s.kept l alive was;
  reads = λ l alive none. ⊎_elim (λ is. inl (same.wants l ∙ is)) (λ is. inr (stirs l ∙ is)) (s.reads l alive none);
  writes = λ l alive none. ⊎_elim (λ is. inl (same.output l ∙ is)) (λ is. inr (stirs l ∙ is)) (s.writes l alive none);
  ends_for = same.ends_for ∙ s.ends_for;
}

-- audits of a type, of which each may answer so
module _ {A : Type 0} (answers : Answering A) where
  -- it is told an entry
  pub tells_as : (g : NodeConfig) (before now : List A) (x : Entry) (old new : Proxy) → Tells Stands shown_of x old new
      → config_of new ≡ config_of old → Tells (λ taken p trace. StandsWith answers g before taken p now trace) shown_of x old new
  tells_as g before now x old new tells same taken trace stands may =
      let told = tells taken trace stands.0 may in
      ((told.0, (same ∙ stands.1.0, longer g trace answers before x now taken stands.1.1)), told.1)

  -- it is told an entry, and then stands for what it stood for, and looks the same
  pub tells_then : (g : NodeConfig) (before now : List A) (x : Entry) (old mid new : Proxy) → Tells Stands shown_of x old mid
      → config_of mid ≡ config_of old → StandsAs Stands mid new → IsSame (shown_of mid) (shown_of new)
      → ((l : ℕ) → (shown_of new).stirs l ≡ (shown_of mid).stirs l) → config_of new ≡ config_of mid
      → Tells (λ taken p trace. StandsWith answers g before taken p now trace) shown_of x old new
  tells_then g before now x old mid new tells same stands_as looks stirs still =
      tells_as g before now x old new
      (λ taken trace stands may.
      let told = tells taken trace stands may in (
        stands_as taken (trace ++ x ∷ []) told.0,
        stirs_same (trace ++ x ∷ []) (shown_of old) (shown_of mid) (shown_of new) looks stirs told.1,
      ))
      (still ∙ same)

  -- no act is left behind the end of a run: no link lives
  pub none_as : (g : NodeConfig) (before now : List A) (a : Option Act) (o : Option Cause) (p : Proxy)
      → IfNone a (IfSome o (λ cause. StandsForNone Stands p))
      → IfNone a (IfSome o (λ cause. StandsForNone (λ taken q trace. StandsWith answers g before taken q now trace) p))
  none_as g before now None None p none = tt
  none_as g before now None (Some cause) p none = λ taken trace stands. none taken trace stands.0
  none_as g before now (Some act) o p none = tt

  -- a node that has one in it, and audits
  module _ {N : Type 0} (f : N → Proxy) (h : N → List A) (g : NodeConfig) (before : List A) where
    abbrev pub StandsIn : List Note → N → List Entry → Type 0
    StandsIn taken n trace = StandsWith answers g before taken (f n) (h n) trace

    -- the same audits are left
    kept : (taken : List Note) (trace : List Entry) (old new : N) → config_of (f new) ≡ config_of (f old) → h new ≡ h old
        → (config_of (f old) ≡ g) × Hear answers g trace before (h old) taken
        → (config_of (f new) ≡ g) × Hear answers g trace before (h new) taken
    kept taken trace old new same left side =
        (same ∙ side.0, subst (λ (l : List A). Hear answers g trace before l taken) (sym left) side.1)

    -- behind one more entry
    kept_behind : (taken : List Note) (trace : List Entry) (x : Entry) (old new : N) → config_of (f new) ≡ config_of (f old) → h new ≡ h old
        → (config_of (f old) ≡ g) × Hear answers g trace before (h old) taken
        → (config_of (f new) ≡ g) × Hear answers g (trace ++ x ∷ []) before (h new) taken
    kept_behind taken trace x old new same left side =
        let is = kept taken trace old new same left side in (is.0, longer g trace answers before x (h new) taken is.1)

    -- it gives an act
    pub acts_as : (a : Option Act) (old new : N) → Acts Stands shown_of a (f old) (f new) → config_of (f new) ≡ config_of (f old)
        → h new ≡ h old → Acts StandsIn (λ n. shown_of (f n)) a old new
    acts_as None old new acts same left =
        λ taken trace stands. let did = acts taken trace stands.0 in ((did.0, kept taken trace old new same left stands.1), did.1)
    acts_as (Some (act.Dial to why)) old new acts same left = (
      acts.0,
      λ taken trace stands. let did = acts.1 taken trace stands.0 in
          ((did.0, kept taken trace old new same left stands.1), did.1),
    )
    acts_as (Some (act.Shut l)) old new acts same left =
        λ taken trace stands. let did = acts taken trace stands.0 in
        (did.0, did.1, (did.2, kept_behind taken trace (e.Shut l) old new same left stands.1), did.3)
    acts_as (Some (act.Close l cause)) old new acts same left =
        λ taken trace stands. let did = acts taken trace stands.0 in
        (did.0, (did.1, kept_behind taken trace (e.Closed l cause) old new same left stands.1), did.2)

-- what is said of what was done is said of it so
pub on_ok : {A E : Type 0} (P C Q : Type 0) (r : Result A E) → (P → C → Q) → OnOk r P → OnOk r C → OnOk r Q
on_ok P C Q (Ok x) so p c = so p c
on_ok P C Q (Err why) so p c = tt

pub always : {A E : Type 0} (r : Result A E) → ⊤ → OnOk r ⊤
always (Ok x) is = tt
always (Err why) is = tt
