-- The access law at each entry of the trace, by the link that it stands on.
use Rattle.std.proofs.Common.{◌≡◌, ℕ, List, [], ◌∷◌, ◌++◌, Option, Some, IfSome, ap, sym, ◌∙◌, subst}
use Rattle.hb_captured.specs.Part as captured
use Rattle.hb_gateway.specs.Part as gateway
use Rattle.hb_inbound.specs.Part as part
use Rattle.hb_model.specs.Point as point
use Rattle.hb_model.specs.declared.config.NodeConfig.{NodeConfig}
use Rattle.hb_world.specs.declared.entry.Entry.{Entry}
use Rattle.hb_proxy.specs.Access.{UpIsAdmitted, LinkIsAdmitted, PlainGoesAdmitted, EntryIsAdmitted, AccessLaw}
use Rattle.hb_proxy.specs.Laws.{RunsAdmitEntries}
use Rattle.hb_proxy.specs.Owners.{Owner, control_plane, inbound_link, upstream_of, plain_link, relay_of, gateway_link, owner, link_of, OwnLaw}
use Rattle.hb_proxy.specs.Points.{Point, of_control, of_link, of_plain, of_gate, of_stream, entry_in, entries}
use Rattle.hb_proxy.proofs.Access.{runs_admit}
use Rattle.hb_proxy.proofs.Own.{runs_own}

-- what is said of the link that an entry stands on
at_link : (P : ℕ → Type 0) (en z : Entry) (u : ℕ) → en ≡ z → link_of z ≡ Some u → IfSome (link_of en) P → P u
at_link P en z u same on is = subst (λ (o : Option ℕ). IfSome o P) (ap link_of same ∙ on) is

-- what an entry on the link u needs, where that is this owner's
module _ (g : NodeConfig) (before : List Point) (z : Entry) (u : ℕ) where
  abbrev Needs : Owner → Type 0
  Needs inbound_link = LinkIsAdmitted g before u z
  Needs (upstream_of l s) = UpIsAdmitted g before l s z
  Needs plain_link = PlainGoesAdmitted g before u z
  Needs (relay_of l) = PlainGoesAdmitted g before l z
  Needs _ = Unit {0}

  needs_all : (o : Owner) → owner u (entries before) ≡ o → Needs o → EntryIsAdmitted g before z u
  needs_all o mine is = record {
    link = λ other. subst Needs (sym mine ∙ other) is;
    up = λ l s other. subst Needs (sym mine ∙ other) is;
    plain = λ other. subst Needs (sym mine ∙ other) is;
    relay = λ l other. subst Needs (sym mine ∙ other) is;
  }

module _ (g : NodeConfig) (points : List Point) (law : AccessLaw g points) (own : OwnLaw points) where
  entry_admitted : (before : List Point) (p : Point) (behind : List Point) → points ≡ before ++ p ∷ behind → (z : Entry) (u : ℕ)
      → entry_in p ≡ z ∷ [] → link_of z ≡ Some u → EntryIsAdmitted g before z u
  entry_admitted before (of_control (point.entry en)) behind are z u is on =
      let same : en ≡ z = cc in
      let mine = at_link (λ l. owner l (entries before) ≡ control_plane) en z u same on
      (own before (of_control (point.entry en)) behind are) in
      needs_all g before z u control_plane mine tt
  entry_admitted before (of_link k (part.entry en)) behind are z u is on =
      let same : en ≡ z = cc in
      let mine = at_link (λ l. (l ≡ k) × (owner l (entries before) ≡ inbound_link)) en z u same on
      (own before (of_link k (part.entry en)) behind are) in
      needs_all g before z u inbound_link mine.1 (subst (λ (n : ℕ). LinkIsAdmitted g before n z) (sym mine.0)
      (subst (LinkIsAdmitted g before k) same (law.links before k (part.entry en) behind are)))
  entry_admitted before (of_link k (part.up t en)) behind are z u is on =
      let same : en ≡ z = cc in
      let mine = at_link (λ l. owner l (entries before) ≡ upstream_of k t) en z u same on
      (own before (of_link k (part.up t en)) behind are) in
      needs_all g before z u (upstream_of k t) mine
      (subst (UpIsAdmitted g before k t) same (law.links before k (part.up t en) behind are))
  entry_admitted before (of_plain k (captured.entry en)) behind are z u is on =
      let same : en ≡ z = cc in
      let mine = at_link (λ l. (l ≡ k) × (owner l (entries before) ≡ plain_link)) en z u same on
      (own before (of_plain k (captured.entry en)) behind are) in
      needs_all g before z u plain_link mine.1 (subst (λ (n : ℕ). PlainGoesAdmitted g before n z) (sym mine.0)
      (subst (PlainGoesAdmitted g before k) same (law.plain before k (captured.entry en) behind are)))
  entry_admitted before (of_plain k (captured.up en)) behind are z u is on =
      let same : en ≡ z = cc in
      let mine = at_link (λ l. owner l (entries before) ≡ relay_of k) en z u same on
      (own before (of_plain k (captured.up en)) behind are) in
      needs_all g before z u (relay_of k) mine
      (subst (PlainGoesAdmitted g before k) same (law.plain before k (captured.up en) behind are))
  entry_admitted before (of_gate n (gateway.entry en)) behind are z u is on =
      let same : en ≡ z = cc in
      let mine = at_link (λ l. (l ≡ n) × (owner l (entries before) ≡ gateway_link)) en z u same on
      (own before (of_gate n (gateway.entry en)) behind are) in
      needs_all g before z u gateway_link mine.1 tt
  entry_admitted before (of_gate n (gateway.dialled en key)) behind are z u is on =
      let same : en ≡ z = cc in
      let mine = at_link (λ l. (l ≡ n) × (owner l (entries before) ≡ gateway_link)) en z u same on
      (own before (of_gate n (gateway.dialled en key)) behind are) in
      needs_all g before z u gateway_link mine.1 tt
  entry_admitted before (of_control _) behind are z u is on = absurd cc
  entry_admitted before (of_link k _) behind are z u is on = absurd cc
  entry_admitted before (of_plain k _) behind are z u is on = absurd cc
  entry_admitted before (of_gate n _) behind are z u is on = absurd cc
  entry_admitted before (of_stream l n s w) behind are z u is on = absurd cc

pub admit_entries : RunsAdmitEntries
admit_entries g x points stands = entry_admitted g points (runs_admit g x points stands) (runs_own g x points stands)
