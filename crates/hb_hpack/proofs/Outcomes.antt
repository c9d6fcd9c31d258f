-- Steps of reading that did not fail.
use Rattle.std.proofs.Common.{◌≡◌, ℕ, ◌<◌, Bool, true, false, cond, List, [], ◌∷◌, ◌++◌, Result, Ok, Err, refl, inl, inr, ◌⊎◌}
use Rattle.std.specs.List.{AllByRecursion}
use Rattle.hb_hpack.specs.declared.fault.Stop.{Stop}
use Rattle.hb_hpack.specs.Outcome.{◌>>=◌}

-- the value of a step that did not fail
pub bind_ok : {A B : Type 0} (r : Result A Stop) (f : A → Result B Stop) (y : B) → (r >>= f) ≡ Ok y → (x : A) × (r ≡ Ok x) × (f x ≡ Ok y)
bind_ok (Ok x) f y e = (x, refl, e)
bind_ok (Err d) f y e = absurd cc

abbrev done : {A : Type 0} → A → Result A Stop
done x = Ok x

pub ok_is : {A : Type 0} (x y : A) → done x ≡ done y → x ≡ y
ok_is x y e = cc

-- a test that went one way or the other
pub chosen : {A : Type 0} (b : Bool) (x y z : A) → cond b x y ≡ z → ((b ≡ true) × (x ≡ z)) ⊎ ((b ≡ false) × (y ≡ z))
chosen true x y z e = inl (refl, e)
chosen false x y z e = inr (refl, e)

pub no_value : {A : Type 0} (d : Stop) (y : A) → Err d ≡ done y → ⊥
no_value d y e = cc

abbrev failed : (A : Type 0) → Stop → Result A Stop
failed A s = Err s

pub fault_is : {A : Type 0} (s t : Stop) → failed A s ≡ Err t → s ≡ t
fault_is s t e = cc

-- octets, and the octets of their parts
abbrev pub AreOctets : List ℕ → Type 0
AreOctets bytes = AllByRecursion (λ b. b < 256) bytes

pub octets_front : (xs ys : List ℕ) → AreOctets (xs ++ ys) → AreOctets xs
octets_front [] ys o = tt
octets_front (x ∷ xs) ys o = (o.0, octets_front xs ys o.1)

pub octets_back : (xs ys : List ℕ) → AreOctets (xs ++ ys) → AreOctets ys
octets_back [] ys o = o
octets_back (x ∷ xs) ys o = octets_back xs ys o.1
