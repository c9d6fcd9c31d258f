-- What stirs, where the links of the doors were told something.
use Rattle.std.proofs.Common.{◌≡◌, ◌⊎◌, inl, inr, ⊎_elim, ℕ, Bool, true, false, List, [], refl, ap, sym, ◌∙◌, subst}
use Rattle.hb_links.proofs.Stirs.{none_stirs, stirs_then}
use Rattle.hb_links.specs.Stirring as links
use Rattle.hb_relays.proofs.Stirs.{none_stirs as relays_none, stirs_then as relays_then}
use Rattle.hb_relays.specs.Calls.{has_of}
use Rattle.hb_relays.specs.Stirring as relays
use Rattle.hb_relays.specs.declared.relays.Relays.{Relays}
use Rattle.hb_turns.specs.Shown as shown
use Rattle.hb_world.specs.Trace.{lives}
use Rattle.hb_world.specs.declared.entry.Entry.{Entry}
use Rattle.hb_whole.specs.Sight.{owns, owner_by, owner_of, shown_of, wants_by, output_by, stirs_by}
use Rattle.hb_whole.specs.declared.owner.Owner.{Owner}
use Rattle.hb_whole.specs.declared.owner.Owner.TheVariants.{Control, Plain, Inbound}
use Rattle.hb_whole.specs.declared.proxy.Proxy.{Proxy}
use Rattle.hb_whole.specs.declared.side.Side.{Side}

-- THE LINKS OF THE TWO DOORS

pub record SideStirs (l : ℕ) (a b : Side) : Type 0 where
  pub links : links.StirsAt l a.links b.links
  pub relays : relays.StirsAt l a.relays b.relays

-- nothing happens to them
pub none_stir : (side : Side) (l : ℕ) → SideStirs l side side
none_stir side l = record { links = none_stirs side.links l; relays = relays_none side.relays l }

pub links_stir : (a b : Side) (l : ℕ) → b.relays ≡ a.relays → links.StirsAt l a.links b.links → SideStirs l a b
links_stir a b l same stirs = record {
  links = stirs;
  relays = subst (λ (k : Relays). relays.StirsAt l a.relays k) (sym same) (relays_none a.relays l);
}

pub relays_stir : (a b : Side) (l : ℕ) → b.links ≡ a.links → relays.StirsAt l a.relays b.relays → SideStirs l a b
relays_stir a b l same stirs = record {
  links = subst (λ (k : _). links.StirsAt l a.links k) (sym same) (none_stirs a.links l);
  relays = stirs;
}

-- one call behind another
pub stir_then : (a b c : Side) (l : ℕ) → SideStirs l a b → SideStirs l b c → SideStirs l a c
stir_then a b c l first behind = record {
  links = stirs_then a.links b.links c.links l first.links behind.links;
  relays = relays_then a.relays b.relays c.relays l first.relays behind.relays;
}

-- A PROXY

-- One that stirred still does; one that has something to be read, or to be written, and had nothing, does
pub record StirsOn (l : ℕ) (p q : Proxy) (before behind : Owner) : Type 0 where
  pub kept : stirs_by before p l ≡ true → stirs_by behind q l ≡ true
  pub reads : wants_by before p l ≡ 0 → (wants_by behind q l ≡ 0) ⊎ (stirs_by behind q l ≡ true)
  pub writes : output_by before p l ≡ [] → (output_by behind q l ≡ []) ⊎ (stirs_by behind q l ≡ true)

-- it stirs now
pub stirs_now : (l : ℕ) (p q : Proxy) (before behind : Owner) → stirs_by behind q l ≡ true → StirsOn l p q before behind
stirs_now l p q before behind is = record { kept = λ had. is; reads = λ none. inr is; writes = λ none. inr is }

-- one of a door, by whether the plain links had it, and have it
door_stirs : (l : ℕ) (p q : Proxy) (had has : Bool) → SideStirs l p.side q.side
    → (has ≡ had) ⊎ ((has ≡ true) × (relays.stirs_at q.side.relays l ≡ true))
    → StirsOn l p q (owner_by false had) (owner_by false has)
door_stirs l p q true true side moved =
    record { kept = side.relays.kept; reads = side.relays.reads; writes = side.relays.writes }
door_stirs l p q false false side moved = record { kept = side.links.kept; reads = side.links.reads; writes = side.links.writes }
door_stirs l p q true false side moved = absurd (⊎_elim (λ same. cc) (λ here. let no = here.0 in cc) moved)
door_stirs l p q false true side moved = stirs_now l p q Inbound Plain (⊎_elim (λ same. absurd cc) (λ here. here.1) moved)

pub other_stirs : (l : ℕ) (p q : Proxy) → owns p l ≡ false → owns q l ≡ false → SideStirs l p.side q.side
    → StirsOn l p q (owner_of p l) (owner_of q l)
other_stirs l p q old new side =
    subst (λ (b : Bool). StirsOn l p q (owner_by b (has_of p.side.relays l)) (owner_of q l)) (sym old)
    (subst (λ (b : Bool). StirsOn l p q (owner_by false (has_of p.side.relays l)) (owner_by b (has_of q.side.relays l))) (sym new)
    (door_stirs l p q (has_of p.side.relays l) (has_of q.side.relays l) side side.relays.has))

-- the control plane's link is the same
pub same_stirs : (l : ℕ) (p q : Proxy) → q.control ≡ p.control → q.stirs ≡ p.stirs → SideStirs l p.side q.side
    → StirsOn l p q (owner_of p l) (owner_of q l)
same_stirs l p q control stirs side = by (owns p l) refl
  where
    same : owns q l ≡ owns p l
    same = ap (λ (c : _). owns (record p { control = c }) l) control

    here : StirsOn l p q Control Control
    here = record {
      kept = λ is. stirs ∙ is;
      reads = λ is. inl (ap (λ (c : _). wants_by Control (record p { control = c }) l) control ∙ is);
      writes = λ is. inl (ap (λ (c : _). output_by Control (record p { control = c }) l) control ∙ is);
    }

    by : (b : Bool) → owns p l ≡ b → StirsOn l p q (owner_of p l) (owner_of q l)
    by false is = other_stirs l p q is (same ∙ is) side
    by true is =
        subst (λ (b : Bool). StirsOn l p q (owner_by b (has_of p.side.relays l)) (owner_of q l)) (sym is)
        (subst (λ (b : Bool). StirsOn l p q Control (owner_by b (has_of q.side.relays l))) (sym (same ∙ is)) here)

-- so it is of each link that lives
pub all_stir : (trace : List Entry) (p q : Proxy) → q.ends_for ≡ p.ends_for
    → ((l : ℕ) → lives l trace ≡ true → StirsOn l p q (owner_of p l) (owner_of q l)) → shown.Stirs trace (shown_of p) (shown_of q)
all_stir trace p q ends stirs = record {
  kept = λ l alive. (stirs l alive).kept;
  reads = λ l alive. (stirs l alive).reads;
  writes = λ l alive. (stirs l alive).writes;
  ends_for = ends;
}
