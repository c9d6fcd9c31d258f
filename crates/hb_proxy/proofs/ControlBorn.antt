-- Which links to the control plane are born: a point that is no birth bears none, and an entry stands on one that is.
use Rattle.std.proofs.Common.{◌≡◌, ◌⊎◌, ⊎_elim, ℕ, false, List, Some, ap, sym, ◌∙◌, subst}
use Rattle.std.proofs.lemmas.Bool.{false≢true}
use Rattle.std.specs.List.{list_any}
use Rattle.hb_base.specs.declared.cause.Cause.{Cause}
use Rattle.hb_model.specs.Discovery.{Discovery, Phase, unborn, dialling, live, faulted, ending, closed, stopped_for}
use Rattle.hb_model.specs.Machine.{Machine}
use Rattle.hb_model.specs.Point.{Point, entry_in}
use Rattle.hb_model.specs.Runs.{MayCome, Steps, StandsFor, IsFaulted}
use Rattle.hb_model.specs.declared.config.NodeConfig.{NodeConfig}
use Rattle.hb_model.proofs.CallsSteps.{Becomes, stays, is_born, opens, peer_ends, breaks, breaks_faulted, writes, writes_faulted, closes, looks, refuses, stops, becomes}
use Rattle.hb_model.proofs.Grown.{IsBorn}
use Rattle.hb_model.proofs.Unborn.{are_unborn, born_closing}
use Rattle.hb_world.specs.Trace.{is_birth}
use Rattle.hb_world.specs.declared.entry.Entry.{Entry}
use Rattle.hb_world.specs.declared.entry.Entry.TheVariants as e
use Rattle.hb_world.specs.declared.entry.Way.TheVariants as way
use Rattle.hb_proxy.specs.Owners.{link_of}

born_in : (phase which : Phase) → phase ≡ which → IsBorn which → IsBorn phase
born_in phase which is born = subst IsBorn (sym is) born

born_stopped : (why : Cause) (phase : Phase) → IsBorn (stopped_for why phase) → IsBorn phase
born_stopped why unborn is = is
born_stopped why dialling is = tt
born_stopped why live is = tt
born_stopped why (faulted code) is = tt
born_stopped why (ending other) is = tt
born_stopped why closed is = tt

-- an entry stands on a link that is born
module _ (g : NodeConfig) (m : Machine) where
  open_born : (l : ℕ) → ((m.links l).phase ≡ live) ⊎ IsFaulted m l → IsBorn (m.links l).phase
  open_born l is = ⊎_elim (λ h. born_in _ live h tt) (λ h. born_in _ (faulted h.0) h.1 tt) is

  pub control_born : (z : Entry) → MayCome g m z → (l : ℕ) → link_of z ≡ Some l → IsBorn (m.links l).phase
  control_born (e.Opened k) may l is =
      let same : k ≡ l = cc in subst (λ (j : ℕ). IsBorn (m.links j).phase) same (born_in _ dialling may.1 tt)
  control_born (e.Came k bytes) may l is =
      let same : k ≡ l = cc in subst (λ (j : ℕ). IsBorn (m.links j).phase) same (born_in _ live may.0.1 tt)
  control_born (e.Ended k) may l is =
      let same : k ≡ l = cc in subst (λ (j : ℕ). IsBorn (m.links j).phase) same (born_in _ live may.0.1 tt)
  control_born (e.Broke k) may l is =
      let same : k ≡ l = cc in
      subst (λ (j : ℕ). IsBorn (m.links j).phase) same
      (⊎_elim (λ h. born_in _ dialling h.1 tt) (λ may. ⊎_elim (λ h. born_in _ live h.1 tt) (λ h. born_in _ (faulted h.0) h.1 tt) may) may)
  control_born (e.Went k bytes) may l is =
      let same : k ≡ l = cc in
      subst (λ (j : ℕ). IsBorn (m.links j).phase) same
      (⊎_elim (λ h. born_in _ live h.1 tt) (λ h. born_in _ (faulted h.0) h.1 tt) may.0)
  control_born (e.Balked (way.Finish k)) may l is =
      let same : k ≡ l = cc in subst (λ (j : ℕ). IsBorn (m.links j).phase) same (born_in _ dialling may.1.1 tt)
  control_born (e.Balked (way.Read k)) may l is =
      let same : k ≡ l = cc in subst (λ (j : ℕ). IsBorn (m.links j).phase) same (born_in _ live may.1.0.1 tt)
  control_born (e.Balked (way.Write k)) may l is =
      let same : k ≡ l = cc in
      subst (λ (j : ℕ). IsBorn (m.links j).phase) same
      (⊎_elim (λ h. born_in _ live h.1 tt) (λ h. born_in _ (faulted h.0) h.1 tt) may.1.0)
  control_born (e.Balked (way.Listen d to listening)) may l is = absurd may.1
  control_born (e.Balked (way.Accept d)) may l is = absurd may.1
  control_born (e.Balked (way.Look k)) may l is = absurd may.1
  control_born (e.Closed k why) may l is =
      let same : k ≡ l = cc in subst (λ (j : ℕ). IsBorn (m.links j).phase) same (born_closing (m.links k).phase why may)
  control_born (e.Accepted k d) may l is = absurd may
  control_born (e.Shut k) may l is = absurd may
  control_born (e.Dialled k to why) may l is = absurd cc
  control_born (e.DialFailed to why) may l is = absurd cc
  control_born e.Tick may l is = absurd cc
  control_born (e.Wait ready how) may l is = absurd cc

-- a point that is no birth bears no link
born_next : (k : ℕ) (x y : Discovery) (p : Point) → list_any is_birth (entry_in p) ≡ false → Becomes k x y p → IsBorn y.phase
    → IsBorn x.phase
born_next k x y p none (stays silent now same) born = subst IsBorn now born
born_next k x y p none (is_born to why is at now first) born =
    absurd (false≢true (sym none ∙ ap (λ (q : Point). list_any is_birth (entry_in q)) is))
born_next k x y p none (opens is at now same) born = born_in x.phase dialling at tt
born_next k x y p none (peer_ends is at now) born = born_in x.phase live at tt
born_next k x y p none (breaks is at now) born = ⊎_elim (λ h. born_in x.phase dialling h tt) (λ h. born_in x.phase live h tt) at
born_next k x y p none (breaks_faulted code is at now) born = born_in x.phase (faulted code) at tt
born_next k x y p none (writes bytes is at now same) born = born_in x.phase live at tt
born_next k x y p none (writes_faulted bytes code is at now) born = born_in x.phase (faulted code) at tt
born_next k x y p none (closes why is at now) born = born_closing x.phase why at
born_next k x y p none (looks points told headers is at now same) born = born_in x.phase live at tt
born_next k x y p none (refuses is at now) born = born_in x.phase live at tt
born_next k x y p none (stops why is now same) born = born_stopped why x.phase (subst IsBorn now born)

pub control_stays : (g : NodeConfig) (m n : Machine) (points : List Point) (p : Point) → StandsFor g m points → Steps g m p n
    → list_any is_birth (entry_in p) ≡ false → (k : ℕ) → IsBorn (n.links k).phase → IsBorn (m.links k).phase
control_stays g m n points p stands steps none k =
    born_next k (m.links k) (n.links k) p none
    (becomes g m n p (λ j above. ap (λ (x : Discovery). x.phase) (are_unborn g m points stands j above).link) steps k)
