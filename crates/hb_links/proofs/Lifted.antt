-- What follows by itself on a link follows in the whole.
use Rattle.std.proofs.Common.{◌≡◌, ◌≢◌, ℕ, cond, List, [], ◌∷◌, ◌++◌, map, refl, ap, sym, ◌∙◌, subst}
use Rattle.std.proofs.lemmas.Bool.{eq-eqb, ne_eqb}
use Rattle.hb_base.specs.declared.note.Note.{Note}
use Rattle.hb_held.specs.Held.{Resources}
use Rattle.hb_inbound.specs.Inbound.{Inbound}
use Rattle.hb_inbound.specs.Part as part
use Rattle.hb_inbound.specs.Part.{Part}
use Rattle.hb_inbound.specs.Runs.{Local, with_link}
use Rattle.hb_inbound.specs.Runs as inbound
use Rattle.hb_link.specs.Counting.{uncounted}
use Rattle.hb_link.specs.Reaches as link
use Rattle.hb_link.proofs.Settles.{leads_hold}
use Rattle.hb_model.specs.declared.config.NodeConfig.{NodeConfig}
use Rattle.hb_proxy.specs.Machine.{Machine, local, with_part}
use Rattle.hb_proxy.specs.Notes.{notes}
use Rattle.hb_proxy.specs.Points.{of_link}
use Rattle.hb_proxy.specs.Runs.{LinkGuard}
use Rattle.hb_links.specs.Reaches.{Leads, on_links}

-- all but this link is the same
pub record Beside (l : ℕ) (x z : Machine) : Type 0 where
  pub others : (k : ℕ) → k ≢ l → z.inbound k ≡ x.inbound k
  pub plain : z.plain ≡ x.plain
  pub gates : z.gates ≡ x.gates

-- wherever all but this link is as it is there, the whole lets a part come of which the guard holds
abbrev pub Frees : link.Guard → NodeConfig → ℕ → Machine → Type 0
Frees G g l x = (z : Machine) → Beside l x z → (p : Part) → link.IsInner p → G (local z l) p → LinkGuard g z l p

-- what counts nothing is free everywhere
free_guard : (g : NodeConfig) (x : Machine) (l : ℕ) (p : Part) → link.IsInner p → uncounted (local x l) p → LinkGuard g x l p
free_guard g x l (part.entry z) inner holds = absurd inner
free_guard g x l (part.up s z) inner holds = absurd inner
free_guard g x l part.crowded inner holds = absurd inner
free_guard g x l (part.applied r) inner holds = absurd inner
free_guard g x l (part.stopped why) inner holds = absurd inner
free_guard g x l part.welcomed inner holds = absurd holds
free_guard g x l (part.decided s full answer) inner holds = absurd holds
free_guard g x l _ inner holds = tt

pub uncounted_frees : (g : NodeConfig) (l : ℕ) (x : Machine) → Frees uncounted g l x
uncounted_frees g l x z beside p inner holds = free_guard g z l p inner holds

-- what the link of the part is then, and what the others are
pub here : (x : Machine) (l : ℕ) (p : Part) (next : Inbound) → local (with_part l p next x) l ≡ with_link next (local x l)
here x l p next =
    ap (λ (t : _). record { held = x.control.held; link = cond t next (x.inbound l) }) (eq-eqb l l refl)

pub there : (x : Machine) (l : ℕ) (p : Part) (next : Inbound) (k : ℕ) → k ≢ l → (with_part l p next x).inbound k ≡ x.inbound k
there x l p next k apart = ap (λ (t : _). cond t next (x.inbound k)) (ne_eqb k l apart)

-- the whole goes on by these parts of a link, to where that is this, and no other part changes
pub record Lifted (G : link.Guard) (g : NodeConfig) (l : ℕ) (x : Machine) (parts : List Part) (b : Local) : Type 0 where
  pub y : Machine
  pub leads : Leads (on_links G) g x (map (of_link l) parts) y
  pub here : local y l ≡ b
  pub others : (k : ℕ) → k ≢ l → y.inbound k ≡ x.inbound k
  pub control : y.control ≡ x.control
  pub plain : y.plain ≡ x.plain
  pub gates : y.gates ≡ x.gates

pub lifted : (G : link.Guard) (g : NodeConfig) (l : ℕ) (x : Machine) (parts : List Part) (b : Local)
    → Frees G g l x → link.Leads G l (local x l) parts b → Lifted G g l x parts b
lifted G g l x [] b frees is = record {
  y = x;
  leads = refl;
  here = sym is;
  others = λ k apart. refl;
  control = refl;
  plain = refl;
  gates = refl;
}
lifted G g l x (p ∷ parts) b frees is =
    let mid = is.2 in
    let held = leads_hold G l (local x l) mid (p ∷ []) (is.0, is.1, mid, is.3, refl) in
    let mid_is : mid ≡ with_link mid.link (local x l) =
    ap (λ (h : Resources). record { held = h; link = mid.link }) held in
    let y = with_part l p mid.link x in
    let y_is : local y l ≡ mid = here x l p mid.link ∙ sym mid_is in
    let then_frees : Frees G g l y = λ z beside. frees z (record {
      others = λ k apart. beside.others k apart ∙ there x l p mid.link k apart;
      plain = beside.plain;
      gates = beside.gates;
    }) in
    let guard : LinkGuard g x l p = frees x (record { others = λ k apart. refl; plain = refl; gates = refl }) p is.0 is.1 in
    let rest = lifted G g l y parts b then_frees (subst (λ (c : Local). link.Leads G l c parts b) (sym y_is) is.4) in
    record {
      y = rest.y;
      leads = (
        is.0,
        is.1,
        y,
        (mid.link, subst (λ (c : Local). inbound.Steps l (local x l) p c) mid_is is.3, guard, refl),
        rest.leads,
      );
      here = rest.here;
      others = λ k apart. rest.others k apart ∙ there x l p mid.link k apart;
      control = rest.control;
      plain = rest.plain;
      gates = rest.gates;
    }

pub notes_of : (l : ℕ) (parts : List Part) → notes (map (of_link l) parts) ≡ part.notes parts
notes_of l [] = refl
notes_of l (p ∷ parts) = ap (λ (w : List Note). part.note_in p ++ w) (notes_of l parts)
