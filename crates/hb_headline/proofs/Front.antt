-- The front header of an inbound link stands in front of the bytes that came on it, in every run of a link.
use Rattle.std.proofs.Common.{◌≡◌, ℕ, List, [], ◌∷◌, ◌++◌, Option, Some, None, fold, refl, ap, sym, ◌∙◌, subst}
use Rattle.std.proofs.lemmas.List.{append-nil, append_assoc}
use Rattle.std.proofs.lemmas.List.Concat.{flat_map-append}
use Rattle.hb_base.specs.declared.peer.Peer.{Peer}
use Rattle.hb_front.specs.Reading.{Seen, IsAnswer, Whole}
use Rattle.hb_held.specs.Held.{Resources}
use Rattle.hb_inbound.specs.Inbound.{Phase}
use Rattle.hb_inbound.specs.Part.{Part, fronted}
use Rattle.hb_inbound.specs.Runs.{Local, Steps, StandsFor}
use Rattle.hb_inbound.specs.Sides.{came_in, link_came, front_by, peer_by, AtEach}
use Rattle.hb_inbound.proofs.Grown.{at_parts}
use Rattle.hb_inbound.proofs.Runs.{FrontBy, all_keep}
use Rattle.hb_headline.specs.Access.{peer_in}
use Rattle.hb_headline.proofs.Relay.{Tells, tells_grow}

abbrev pub header_by : Option Seen → Part → Option Seen
header_by told (fronted seen) = Some seen
header_by told _ = told

abbrev pub header_of : List Part → Option Seen
header_of parts = fold header_by None parts

-- so its size and its peer are told
abbrev pub size_in : Option Seen → Option ℕ
size_in None = None
size_in (Some seen) = Some seen.length

abbrev pub who_in : Option Seen → Option Peer
who_in None = None
who_in (Some seen) = Some (peer_in seen)

pub size_told : (parts : List Part) (told : Option Seen) → fold front_by (size_in told) parts ≡ size_in (fold header_by told parts)
size_told [] told = refl
size_told (p ∷ parts) told =
    ap (λ (o : Option ℕ). fold front_by o parts) (by p) ∙ size_told parts (header_by told p)
  where
    by : (q : Part) → front_by (size_in told) q ≡ size_in (header_by told q)
    by (fronted seen) = refl
    by _ = refl

pub who_told : (parts : List Part) (told : Option Seen) → fold peer_by (who_in told) parts ≡ who_in (fold header_by told parts)
who_told [] told = refl
who_told (p ∷ parts) told =
    ap (λ (o : Option Peer). fold peer_by o parts) (by p) ∙ who_told parts (header_by told p)
  where
    by : (q : Part) → peer_by (who_in told) q ≡ who_in (header_by told q)
    by (fronted seen) = refl
    by _ = refl

abbrev Fronts : List Part → Part → Type 0
Fronts before (fronted seen) = IsAnswer (link_came before) (Whole seen)
Fronts before _ = Unit {0}

next : (l : ℕ) (start : Resources) (a b : Local) (before : List Part) (p : Part) → StandsFor l start a before → Steps l a p b
    → Fronts before p
next l start a b before (fronted seen) stands steps =
    let early = subst (λ (ph : Phase). FrontBy ph before a.link) steps.0 (all_keep l start a before stands).front in
    subst (λ (bs : List ℕ). IsAnswer bs (Whole seen)) (sym early.1) steps.1
next l start a b before _ stands steps = tt

came_more : (before : List Part) (p : Part) → link_came (before ++ p ∷ []) ≡ link_came before ++ (came_in p ++ [])
came_more before p = flat_map-append came_in before (p ∷ [])

module _ (l : ℕ) (start : Resources) (a : Local) (parts : List Part) (stands : StandsFor l start a parts) where
  fronts : AtEach Fronts parts
  fronts = at_parts l start Fronts (next l start) a parts stands

  step : (before : List Part) (p : Part) (rest : List Part) → parts ≡ before ++ p ∷ rest → (told : Option Seen)
      → Tells (link_came before) told → Tells (link_came before) (header_by told p)
  step before (fronted seen) rest are told so = fronts before (fronted seen) rest are
  step before _ rest are told so = so

  go : (before rest : List Part) → parts ≡ before ++ rest → (told : Option Seen) → Tells (link_came before) told
      → Tells (link_came parts) (fold header_by told rest)
  go before [] are told so =
      subst (λ (ps : List Part). Tells (link_came ps) told) (sym (are ∙ append-nil before)) so
  go before (p ∷ rest) are told so =
      go (before ++ p ∷ []) rest (are ∙ sym (append_assoc before (p ∷ []) rest)) (header_by told p)
      (subst (λ (bs : List ℕ). Tells bs (header_by told p)) (sym (came_more before p))
      (tells_grow (link_came before) (came_in p ++ []) (header_by told p) (step before p rest are told so)))

  pub header_stands : (seen : Seen) → header_of parts ≡ Some seen → IsAnswer (link_came parts) (Whole seen)
  header_stands seen is = subst (Tells (link_came parts)) is (go [] parts refl None tt)
