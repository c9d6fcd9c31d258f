-- A link that is open stays so.
use Rattle.std.proofs.Common.{◌≡◌, ◌==◌, ℕ, Bool, true, false, cond, List, [], ◌∷◌, refl, sym, subst}
use Rattle.std.proofs.lemmas.Bool.{eqb-true}
use Rattle.hb_base.specs.declared.cause.Cause.{Cause}
use Rattle.hb_conn.specs.Connection.{Connection}
use Rattle.hb_conn.specs.declared.found.Found.{Found}
use Rattle.hb_conn.specs.declared.found.Found.TheVariants as found
use Rattle.hb_hpack.specs.declared.header.HeaderList.{HeaderList}
use Rattle.hb_inbound.specs.Inbound as m
use Rattle.hb_inbound.specs.Inbound.{Inbound, on_found, came_by, went_by, ended_by, broken_by, stops_by}
use Rattle.hb_inbound.specs.Part as part
use Rattle.hb_inbound.specs.Part.{Part}
use Rattle.hb_inbound.specs.Runs as inbound
use Rattle.hb_inbound.specs.Runs.{Local}
use Rattle.hb_link.specs.Reaches as link
use Rattle.hb_model.specs.declared.config.NodeConfig.{NodeConfig}
use Rattle.hb_proxy.specs.Machine.{Machine}
use Rattle.hb_proxy.specs.Points.{Point, of_control, of_link, of_plain, of_gate, of_stream}
use Rattle.hb_proxy.specs.Runs.{Steps}
use Rattle.hb_world.specs.declared.entry.Entry.{Entry}
use Rattle.hb_world.specs.declared.entry.Entry.TheVariants as e
use Rattle.hb_links.specs.Reaches.{Guard, Leads}
use Rattle.hb_links.specs.Shows.{IsAway}

-- of a look no phase is that of a link that is away, but where it was
looked_at : (told : Found) (headers : HeaderList) (conn : Connection) (x : Inbound) → IsAway (on_found told headers conn x).phase
    → IsAway x.phase
looked_at (found.Fault code) headers conn x away = absurd away
looked_at told headers conn x away = away

-- what follows by itself closes no link
open_stays : (l : ℕ) (a : Local) (p : Part) (b : Local) → link.IsInner p → inbound.Steps l a p b → IsAway b.link.phase
    → IsAway a.link.phase
open_stays l a (part.entry z) b inner step away = absurd inner
open_stays l a (part.up s z) b inner step away = absurd inner
open_stays l a part.crowded b inner step away = absurd inner
open_stays l a (part.applied r) b inner step away = absurd inner
open_stays l a (part.stopped cause) b inner step away = absurd inner
open_stays l a part.welcomed b inner step away = absurd (subst (λ (w : Local). IsAway w.link.phase) step.1 away)
open_stays l a part.lacked b inner step away = absurd (subst (λ (w : Local). IsAway w.link.phase) step.1 away)
open_stays l a (part.fronted seen) b inner step away = absurd (subst (λ (w : Local). IsAway w.link.phase) step.4 away)
open_stays l a (part.misfronted fault) b inner step away = absurd (subst (λ (w : Local). IsAway w.link.phase) step.2 away)
open_stays l a (part.looked points told headers) b inner step away =
    looked_at told headers step.2 a.link (subst (λ (w : Local). IsAway w.link.phase) step.5 away)
open_stays l a (part.decided s full answer) b inner step away = subst (λ (w : Local). IsAway w.link.phase) step.5 away
open_stays l a (part.accepted s made) b inner step away = subst (λ (w : Local). IsAway w.link.phase) step.3 away
open_stays l a (part.refused s status resets made) b inner step away = subst (λ (w : Local). IsAway w.link.phase) step.4 away
open_stays l a (part.reset s code made) b inner step away = subst (λ (w : Local). IsAway w.link.phase) step.3 away
open_stays l a (part.left s made) b inner step away = subst (λ (w : Local). IsAway w.link.phase) step.2 away
open_stays l a (part.done s made) b inner step away = subst (λ (w : Local). IsAway w.link.phase) step.3 away
open_stays l a (part.put s bytes) b inner step away = subst (λ (w : Local). IsAway w.link.phase) step.3 away
open_stays l a (part.finished s) b inner step away = subst (λ (w : Local). IsAway w.link.phase) step.2 away
open_stays l a (part.credited s n) b inner step away = subst (λ (w : Local). IsAway w.link.phase) step.3 away

-- in the whole
point_stays : (g : NodeConfig) (x : Machine) (l : ℕ) (p : Part) (y : Machine) → link.IsInner p → Steps g x (of_link l p) y → (n : ℕ)
    → IsAway (y.inbound n).phase → IsAway (x.inbound n).phase
point_stays g x l p y inner step n away =
    by (n == l) refl (subst (λ (w : Machine). IsAway (w.inbound n).phase) step.3 away)
  where
    by : (b : Bool) → (n == l) ≡ b → IsAway (cond b step.0 (x.inbound n)).phase → IsAway (x.inbound n).phase
    by true here away_so =
        subst (λ (i : ℕ). IsAway (x.inbound i).phase) (sym (eqb-true n l here))
        (open_stays l (record { held = x.control.held; link = x.inbound l }) p _ inner step.1 away_so)
    by false there away_so = away_so

pub points_stay : (G : Guard) (g : NodeConfig) (x : Machine) (more : List Point) (y : Machine) → Leads G g x more y → (n : ℕ)
    → IsAway (y.inbound n).phase → IsAway (x.inbound n).phase
points_stay G g x [] y is n away = subst (λ (w : Machine). IsAway (w.inbound n).phase) is away
points_stay G g x (of_control q ∷ more) y is n away = absurd is.0
points_stay G g x (of_plain l p ∷ more) y is n away = absurd is.0
points_stay G g x (of_gate l p ∷ more) y is n away = absurd is.0
points_stay G g x (of_stream l h s w ∷ more) y is n away = absurd is.0
points_stay G g x (of_link l p ∷ more) y is n away =
    point_stays g x l p is.2 is.0 is.3 n (points_stay G g is.2 more y is.4 n away)

-- WHAT COMES

-- a part closes no link
abbrev pub KeepsOpen : Part → Type 0
KeepsOpen p = (l : ℕ) (a b : Local) → inbound.Steps l a p b → IsAway b.link.phase → IsAway a.link.phase

pub up_open : (s : ℕ) (z : Entry) → KeepsOpen (part.up s z)
up_open s z l a b step away = subst (λ (w : Local). IsAway w.link.phase) step.1 away

came_stays : (phase : m.Phase) (bytes : List ℕ) (x : Inbound) → x.phase ≡ phase → IsAway (came_by phase bytes x).phase → IsAway x.phase
came_stays m.fronting bytes x is away = away
came_stays m.serving bytes x is away = away
came_stays phase bytes x is away = away

pub came_open : (n : ℕ) (bytes : List ℕ) → KeepsOpen (part.entry (e.Came n bytes))
came_open n bytes l a b step away =
    came_stays a.link.phase bytes a.link refl (subst (λ (w : Local). IsAway w.link.phase) step.1 away)

went_stays : (phase : m.Phase) → IsAway (went_by phase) → IsAway phase
went_stays (m.faulted code) away = absurd away
went_stays m.unborn away = away
went_stays m.arriving away = away
went_stays m.fronting away = away
went_stays m.serving away = away
went_stays (m.closing why) away = away
went_stays m.closed away = away

pub went_open : (n : ℕ) (bytes : List ℕ) → KeepsOpen (part.entry (e.Went n bytes))
went_open n bytes l a b step away = went_stays a.link.phase (subst (λ (w : Local). IsAway w.link.phase) step.1 away)

ended_stays : (phase : m.Phase) (x : Inbound) → IsAway (ended_by phase x).phase → IsAway x.phase
ended_stays m.fronting x away = absurd away
ended_stays m.serving x away = absurd away
ended_stays m.unborn x away = away
ended_stays m.arriving x away = away
ended_stays (m.faulted code) x away = away
ended_stays (m.closing why) x away = away
ended_stays m.closed x away = away

pub ended_open : (n : ℕ) → KeepsOpen (part.entry (e.Ended n))
ended_open n l a b step away = ended_stays a.link.phase a.link (subst (λ (w : Local). IsAway w.link.phase) step.1 away)

broken_stays : (phase : m.Phase) (x : Inbound) → IsAway (broken_by phase x).phase → IsAway x.phase
broken_stays m.fronting x away = absurd away
broken_stays m.serving x away = absurd away
broken_stays (m.faulted code) x away = absurd away
broken_stays m.unborn x away = away
broken_stays m.arriving x away = away
broken_stays (m.closing why) x away = away
broken_stays m.closed x away = away

pub broke_open : (n : ℕ) → KeepsOpen (part.entry (e.Broke n))
broke_open n l a b step away = broken_stays a.link.phase a.link (subst (λ (w : Local). IsAway w.link.phase) step.1 away)

pub stopped_stays : (cause : Cause) (phase : m.Phase) → IsAway (stops_by cause phase) → IsAway phase
stopped_stays cause m.unborn away = away
stopped_stays cause m.closed away = away
stopped_stays cause m.arriving away = absurd away
stopped_stays cause m.fronting away = absurd away
stopped_stays cause m.serving away = absurd away
stopped_stays cause (m.faulted code) away = absurd away
stopped_stays cause (m.closing why) away = absurd away
