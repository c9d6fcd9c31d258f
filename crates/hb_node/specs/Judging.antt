-- Who is shown what is held behind each response that is applied.
use Rattle.std.specs.Prelude.{◌≡◌, List, [], ◌∷◌}
use Rattle.hb_disco.specs.declared.response.Response.{Response}
use Rattle.hb_held.specs.Held.{Resources}
use Rattle.hb_held.specs.Outcome.{after_response}
use Rattle.hb_model.specs.Point.{Point, applied}

-- what being shown the resources held makes of someone
abbrev pub Judges : Type 0 → Type 1
Judges J = J → Resources → J → Type 0

-- the resources held, and the one to whom they are shown
pub record Seen (J : Type 0) : Type 0 where
  pub held : Resources
  pub judge : J

abbrev pub seen : {J : Type 0} → Resources → J → Seen J
seen held judge = record { held = held; judge = judge }

-- a response is applied, and what is held then is shown
pub record Applies {J : Type 0} (judges : Judges J) (r : Response) (before after : Seen J) : Type 0 where
  pub held : after.held ≡ after_response before.held r
  pub shown : judges before.judge after.held after.judge

-- the resources held behind each response that these points apply, from those held before them
abbrev pub held_behind : Resources → List Point → List Resources
held_behind held [] = []
held_behind held (applied l r ∷ points) = after_response held r ∷ held_behind (after_response held r) points
held_behind held (p ∷ points) = held_behind held points

-- these were shown, one after another, and no other
abbrev pub Judged : {J : Type 0} → Judges J → List Resources → J → J → Type 0
Judged judges [] before after = after ≡ before
Judged {J = J} judges (held ∷ more) before after = (mid : J) × judges before held mid × Judged judges more mid after
