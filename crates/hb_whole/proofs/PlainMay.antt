-- How far a plain link is, by what may be done on it, and where an entry of it may come.
use Rattle.std.proofs.Common.{◌≡◌, ◌⊎◌, inl, inr, ℕ, ◌<◌, Bool, true, false, List, length, refl, sym, ◌∙◌, subst, arith}
use Rattle.hb_captured.specs.Calm.{IsCalmBy, IsIdleBy, up_wants_by, output_by}
use Rattle.hb_captured.specs.Captured as s
use Rattle.hb_captured.specs.Captured.{Captured, Stage, is_raw}
use Rattle.hb_proxy.proofs.PlainStays.{RelayBy}
use Rattle.hb_proxy.specs.Machine.{Machine}
use Rattle.hb_proxy.specs.Owners.{Owner}
use Rattle.hb_proxy.specs.Runs.{BirthMayCome, PlainMayCome, is_act}
use Rattle.hb_proxy.specs.Seen.{IsPlainThereBy, RelayOpenBy}
use Rattle.hb_world.specs.declared.entry.Entry.{Entry}
use Rattle.hb_whole.proofs.Free.{Free, lets_all, plain_lets_all, rests_of}

-- one that is there, where nothing is due and nothing more happens by itself
pub tried_stage : (stage : Stage) (x : Captured) → IsPlainThereBy stage x.closed → IsCalmBy stage x → IsIdleBy stage x
    → (stage ≡ s.fronting) ⊎ ((stage ≡ s.opening) ⊎ (stage ≡ s.live))
tried_stage s.unborn x there calm idle = absurd there
tried_stage s.arriving x there calm idle = absurd calm
tried_stage s.fronting x there calm idle = inl refl
tried_stage s.due x there calm idle = absurd idle
tried_stage s.opening x there calm idle = inr (inl refl)
tried_stage s.accepting x there calm idle = absurd calm
tried_stage s.live x there calm idle = inr (inr refl)
tried_stage (s.failed why) x there calm idle = absurd calm
tried_stage (s.ended why) x there calm idle = absurd calm
tried_stage (s.over why) x there calm idle = let closed = idle.0 in absurd cc

-- one with an upstream
no_zero : {A : Type 0} (n u : ℕ) → 0 < u → n ≡ u → n ≡ 0 → A
no_zero n u some is none = let no : 0 < 0 = subst (λ (k : ℕ). 0 < k) (sym is ∙ none) some in absurd (omega arith)

pub relay_stage : (stage : Stage) (x : Captured) (whose : ℕ → Owner) (l u : ℕ) → 0 < u → x.up ≡ u → IsCalmBy stage x → IsIdleBy stage x
    → RelayBy stage (is_raw x) whose l x.up → (stage ≡ s.opening) ⊎ (stage ≡ s.live)
relay_stage s.unborn x whose l u some is calm idle owns = no_zero x.up u some is owns.1
relay_stage s.arriving x whose l u some is calm idle owns = absurd calm
relay_stage s.fronting x whose l u some is calm idle owns = no_zero x.up u some is owns.1
relay_stage s.due x whose l u some is calm idle owns = absurd idle
relay_stage s.opening x whose l u some is calm idle owns = inl refl
relay_stage s.accepting x whose l u some is calm idle owns = absurd calm
relay_stage s.live x whose l u some is calm idle owns = inr refl
relay_stage (s.failed why) x whose l u some is calm idle owns = absurd calm
relay_stage (s.ended why) x whose l u some is calm idle owns = absurd calm
relay_stage (s.over why) x whose l u some is calm idle owns = no_zero x.up u some is idle.1

pub opening_relay : (stage : Stage) (opens : Bool) → (stage ≡ s.opening) ⊎ (stage ≡ s.live) → RelayOpenBy stage opens → opens ≡ false
    → stage ≡ s.opening
opening_relay stage opens (inl is) told closed = is
opening_relay stage opens (inr is) told closed =
    let opened : opens ≡ true = subst (λ (r : Stage). RelayOpenBy r opens) is told in absurd cc

-- one whose upstream may be read, and one on which something is to be written
pub live_wants : (stage : Stage) (x : Captured) → 0 < up_wants_by stage x → stage ≡ s.live
live_wants s.unborn x some = absurd (omega arith)
live_wants s.arriving x some = absurd (omega arith)
live_wants s.fronting x some = absurd (omega arith)
live_wants s.due x some = absurd (omega arith)
live_wants s.opening x some = absurd (omega arith)
live_wants s.accepting x some = absurd (omega arith)
live_wants s.live x some = refl
live_wants (s.failed why) x some = absurd (omega arith)
live_wants (s.ended why) x some = absurd (omega arith)
live_wants (s.over why) x some = absurd (omega arith)

pub live_output : (stage : Stage) (held : List ℕ) → 0 < length (output_by stage held) → stage ≡ s.live
live_output s.unborn held some = absurd (omega arith)
live_output s.arriving held some = absurd (omega arith)
live_output s.fronting held some = absurd (omega arith)
live_output s.due held some = absurd (omega arith)
live_output s.opening held some = absurd (omega arith)
live_output s.accepting held some = absurd (omega arith)
live_output s.live held some = refl
live_output (s.failed why) held some = absurd (omega arith)
live_output (s.ended why) held some = absurd (omega arith)
live_output (s.over why) held some = absurd (omega arith)

-- nothing more happens by itself elsewhere
pub free_plain : (x : Machine) (l : ℕ) (z : Entry) → Free x → BirthMayCome x z → PlainMayCome x l z
free_plain x l z free birth = record {
  birth = birth;
  control = rests_of x.control free.control;
  links = λ k. lets_all (is_act z) (x.inbound k) (free.links k);
  others = λ k apart. plain_lets_all (is_act z) (x.plain k) (free.plain k);
  gates = free.gates (is_act z);
}
