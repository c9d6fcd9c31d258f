-- What happens on a stream is no entry; and what a plain link is told came, and what it gives on, is of its upstream or of its stream.
use Rattle.std.proofs.Common.{◌≡◌, ◌⊎◌, inl, inr, ⊎_elim, ℕ, List, [], ◌∷◌, ◌++◌, refl, ap₂, sym, ◌∙◌}
use Rattle.std.specs.List.{flat_map}
use Rattle.hb_captured.specs.Part as captured
use Rattle.hb_captured.specs.Sides.{came_by, went_by, brought_by, up_came_in, up_went_in}
use Rattle.hb_gateway.specs.Part as gateway
use Rattle.hb_proxy.specs.Shared.{Shared, asks, tells, puts, finishes, credits, drops, completes, captured_part, gateway_part}

pub captured_none : (n s : ℕ) (w : Shared) → captured.entry_in (captured_part n s w) ≡ []
captured_none n s (asks authority) = refl
captured_none n s (tells heard begun) = refl
captured_none n s (puts waiting count) = refl
captured_none n s finishes = refl
captured_none n s (credits count) = refl
captured_none n s (drops begun) = refl
captured_none n s (completes begun note) = refl

pub gateway_none : (l s : ℕ) (w : Shared) → gateway.entry_in (gateway_part l s w) ≡ []
gateway_none l s (asks authority) = refl
gateway_none l s (tells heard begun) = refl
gateway_none l s (puts waiting count) = refl
gateway_none l s finishes = refl
gateway_none l s (credits count) = refl
gateway_none l s (drops begun) = refl
gateway_none l s (completes begun note) = refl

-- OF THE UPSTREAM ALONE, AND OF THE STREAM

abbrev pub relay_came_in : captured.Part → List ℕ
relay_came_in (captured.up e) = came_by e
relay_came_in _ = []

abbrev pub relay_went_in : captured.Part → List ℕ
relay_went_in (captured.up e) = went_by e
relay_went_in _ = []

abbrev pub stream_came_in : captured.Part → List ℕ
stream_came_in (captured.hears heard begun) = brought_by heard
stream_came_in _ = []

abbrev pub stream_went_in : captured.Part → List ℕ
stream_went_in (captured.put bytes) = bytes
stream_went_in _ = []

-- what each part says is what it says of one of two
abbrev Divides : {A : Type 0} → (all one other : A → List ℕ) → Type 0
Divides {A} all one other = (p : A) → ((all p ≡ one p) × (other p ≡ [])) ⊎ ((all p ≡ other p) × (one p ≡ []))

pub front_empty : (a b : List ℕ) → a ++ b ≡ [] → a ≡ []
front_empty [] b is = refl
front_empty (n ∷ a) b is = absurd cc

rest_empty : (a b : List ℕ) → a ++ b ≡ [] → b ≡ []
rest_empty [] b is = is
rest_empty (n ∷ a) b is = absurd cc

-- where nothing is said of the other, all is said of the one
alone : {A : Type 0} (all one other : A → List ℕ) → Divides all one other → (xs : List A) → flat_map other xs ≡ []
    → flat_map all xs ≡ flat_map one xs
alone all one other divides [] none = refl
alone all one other divides (p ∷ xs) none =
    ap₂ (λ (a b : List ℕ). a ++ b)
    (⊎_elim (λ h. h.0) (λ h. h.0 ∙ front_empty (other p) (flat_map other xs) none ∙ sym h.1) (divides p))
    (alone all one other divides xs (rest_empty (other p) (flat_map other xs) none))

swapped : {A : Type 0} (all one other : A → List ℕ) → Divides all one other → Divides all other one
swapped all one other divides p = ⊎_elim inr inl (divides p)

came_divides : Divides up_came_in relay_came_in stream_came_in
came_divides (captured.up e) = inl (refl, refl)
came_divides (captured.hears heard begun) = inr (refl, refl)
came_divides _ = inl (refl, refl)

went_divides : Divides up_went_in relay_went_in stream_went_in
went_divides (captured.up e) = inl (refl, refl)
went_divides (captured.put bytes) = inr (refl, refl)
went_divides _ = inl (refl, refl)

pub relay_came_alone : (parts : List captured.Part) → flat_map stream_came_in parts ≡ []
    → flat_map up_came_in parts ≡ flat_map relay_came_in parts
relay_came_alone = alone up_came_in relay_came_in stream_came_in came_divides

pub relay_went_alone : (parts : List captured.Part) → flat_map stream_went_in parts ≡ []
    → flat_map up_went_in parts ≡ flat_map relay_went_in parts
relay_went_alone = alone up_went_in relay_went_in stream_went_in went_divides

pub stream_came_alone : (parts : List captured.Part) → flat_map relay_came_in parts ≡ []
    → flat_map up_came_in parts ≡ flat_map stream_came_in parts
stream_came_alone = alone up_came_in stream_came_in relay_came_in (swapped up_came_in relay_came_in stream_came_in came_divides)

pub stream_went_alone : (parts : List captured.Part) → flat_map relay_went_in parts ≡ []
    → flat_map up_went_in parts ≡ flat_map stream_went_in parts
stream_went_alone = alone up_went_in stream_went_in relay_went_in (swapped up_went_in relay_went_in stream_went_in went_divides)
