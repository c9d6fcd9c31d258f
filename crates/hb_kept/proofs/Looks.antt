-- What a kept connection finds next is a look at its frames, behind which it fares on.
use Rattle.std.proofs.Common.{◌≡◌, ◌⊎◌, inl, inr, ℕ, false, refl, ap, sym, ◌∙◌, arith}
use Rattle.std.proofs.lemmas.Bool.{false≢true}
use Rattle.hb_frames.specs.Frames.{AreOctets}
use Rattle.hb_conn.specs.Connection.{Connection, Finds}
use Rattle.hb_conn.specs.Observed.{is_over, octets_held}
use Rattle.hb_conn.specs.declared.found.Found.{Found}
use Rattle.hb_conn.specs.declared.found.Found.TheVariants as found
use Rattle.hb_history.specs.OwnFrames.{is_fault}
use Rattle.hb_history.proofs.Credits.{look_fits, used_lowers}
use Rattle.hb_history.proofs.Looked.{found_by_looks}
use Rattle.hb_history.proofs.Steady.{not_over, found_waits, found_owes, credit_owes, credited_over, look_rests}
use Rattle.hb_kept.specs.Kept.{Fares}
use Rattle.hb_kept.specs.Looks.{FaresBehind, UsesBehind, RestsBehind, FoundByLooks}

module _ (c d : Connection) (fares : Fares c) (octets : AreOctets (octets_held d)) where
  goes_on : (told : Found) → is_fault told ≡ false → Finds c d told → is_over d ≡ false
  goes_on told none finds = by (not_over c d told fares.kept.goes_on finds)
    where
      by : (is_over d ≡ false) ⊎ ((code : ℕ) × (told ≡ found.Fault code)) → is_over d ≡ false
      by (inl still) = still
      by (inr fault) = absurd (false≢true (sym none ∙ ap is_fault fault.1))

  fares_on : (told : Found) → is_fault told ≡ false → Finds c d told → Fares d
  fares_on told none finds =
      let still = goes_on told none finds in
      record {
        kept = record {
          octets = octets;
          caught_up = found_owes c d told finds fares.kept.caught_up;
          preface = found_waits c d told finds fares.kept.preface;
          goes_on = still;
        };
        has_room = omega (arith, look_fits c d told fares.has_room fares.kept.caught_up finds still);
      }

  fares_behind : (told : Found) → Finds c d told → FaresBehind told d
  fares_behind (found.Fault code) finds = tt
  fares_behind told finds = fares_on told refl finds

  uses_behind : (told : Found) → Finds c d told → UsesBehind told d
  uses_behind (found.Chunk s end) finds = λ used n number.
      let told = found.Chunk s end in
      let still = goes_on told refl finds in
      let on = fares_on told refl finds in
      let fits = look_fits c d told fares.has_room fares.kept.caught_up finds still in
      record {
        kept = record {
          octets = octets;
          caught_up = credit_owes d used n number on.kept.caught_up;
          preface = on.kept.preface;
          goes_on = credited_over d used n ∙ still;
        };
        has_room = omega (arith, fits, used_lowers d used n number (omega (arith, fits)) on.kept.caught_up);
      }
  uses_behind told finds = tt

  rests_behind : (told : Found) → Finds c d told → RestsBehind told d
  rests_behind found.Silent finds =
      look_rests c d fares.kept.goes_on fares.kept.preface fares.kept.caught_up fares.has_room finds
  rests_behind told finds = tt

pub looks : FoundByLooks
looks c d told fares finds =
    let found = found_by_looks c d told fares.kept.octets finds in
    record {
      points = found.points;
      look = record {
        finds = finds;
        looks = found.looks;
        runs = found.leads;
        frames = found.frames;
        tells = found.tells;
        hands_out = found.hands_out;
      };
      fares = fares_behind c d fares found.octets told finds;
      uses = uses_behind c d fares found.octets told finds;
      rests = rests_behind c d fares found.octets told finds;
    }
