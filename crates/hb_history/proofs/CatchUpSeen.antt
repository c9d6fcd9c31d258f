-- What is known of a frame that is looked at.
use Rattle.std.proofs.Common.{◌≡◌, ◌≢◌, ℕ, ◌≤◌, Bool, true, false, cond, Option, Some, None, Result, Ok, Err, refl, rules, arith}
use Rattle.std.specs.Prelude.{◌||◌, ◌==◌, nat_lt}
use Rattle.std.proofs.lemmas.Bool.Decides.{nat_tests}
use Rattle.hb_frames.specs.RawFrame.{RawFrame, raw_at}
use Rattle.hb_frames.specs.Reading.{Reading, first_of}
use Rattle.hb_frames.specs.declared.refusal.Refusal.{Refusal}
use Rattle.hb_outgoing.specs.Waiting.{room_of}
use Rattle.hb_frames.specs.Numbers.{data_kind, headers_kind, rst_stream_kind, settings_kind, ping_kind}
use Rattle.hb_frames.specs.Numbers.{goaway_kind, window_update_kind, continuation_kind}
use Rattle.hb_conn.specs.Glance.{glance_at, glance_at_others, glance_by, glance_of, IsInRange}
use Rattle.hb_conn.specs.Receiving.{pauses}
use Rattle.hb_conn.specs.declared.machine.Core.{Core}
use Rattle.hb_conn.specs.declared.glance.Glance.{Glance}
use Rattle.hb_conn.specs.declared.glance.Glance.TheVariants.{Nothing}

-- where frames are looked at no connection error was told, and there is room
pub record Goes (c : Core) : Type 0 where
  pub over : c.over ≡ false
  pub room : 256 ≤ room_of c.out

goes_by : (over low : Bool) → (over || low) ≡ false → (over ≡ false) × (low ≡ false)
goes_by true low is = absurd (search rules)
goes_by false low is = (refl, is)

pub goes : (c : Core) → pauses c ≡ false → Goes c
goes c is =
    let both = goes_by c.over (nat_lt (room_of c.out) 256) is in
    record { over = both.0; room = grind (arith, nat_tests, both.1) }

-- a frame, on a stream whose number has 31 bits
abbrev IsSeen : Glance → Type 0
IsSeen g = (g ≢ Nothing) × IsInRange g

seen_by : (b : Bool) (x y : Glance) → IsSeen x → IsSeen y → IsSeen (cond b x y)
seen_by true x y of_x of_y = of_x
seen_by false x y of_x of_y = of_y

others_seen : (f : RawFrame) → f.stream ≤ 2147483647 → IsSeen (glance_at_others f)
others_seen f number =
    seen_by (f.kind == settings_kind) _ _ (λ e. absurd (cc), tt)
    (seen_by (f.kind == ping_kind) _ _ (λ e. absurd (cc), tt)
    (seen_by (f.kind == goaway_kind) _ _ (λ e. absurd (cc), tt)
    (seen_by (f.kind == window_update_kind) _ _ (λ e. absurd (cc), number) (λ e. absurd (cc), tt))))

frame_seen : (f : RawFrame) → f.stream ≤ 2147483647 → IsSeen (glance_at f)
frame_seen f number =
    seen_by (f.kind == data_kind) _ _ (λ e. absurd (cc), number)
    (seen_by (f.kind == headers_kind) _ _ (λ e. absurd (cc), number)
    (seen_by (f.kind == rst_stream_kind) _ _ (λ e. absurd (cc), number)
    (seen_by (f.kind == continuation_kind) _ _ (λ e. absurd (cc), number) (others_seen f number))))

in_range_by : (r : Reading) (found : Result (Option ℕ) Refusal) → IsInRange (glance_by r found)
in_range_by r (Ok None) = tt
in_range_by r (Ok (Some n)) = (frame_seen (raw_at r.held) (omega arith)).1
in_range_by r (Err refusal) = tt

pub in_range : (r : Reading) → IsInRange (glance_of r)
in_range r = in_range_by r (first_of r.max r.held)

none_by : (r : Reading) (found : Result (Option ℕ) Refusal) → glance_by r found ≡ Nothing → found ≡ Ok None
none_by r (Ok None) is = refl
none_by r (Ok (Some n)) is = absurd ((frame_seen (raw_at r.held) (omega arith)).0 is)
none_by r (Err refusal) is = absurd (cc)

-- where nothing is seen no frame is there
pub none_there : (r : Reading) → glance_of r ≡ Nothing → first_of r.max r.held ≡ Ok None
none_there r is = none_by r (first_of r.max r.held) is
