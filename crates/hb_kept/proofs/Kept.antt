-- Octets that come have room.
use Rattle.std.proofs.Common.{refl, arith}
use Rattle.hb_frames.proofs.Runs.{no_octets}
use Rattle.hb_streams.specs.declared.role.Role.TheVariants.{Server, Client}
use Rattle.hb_conn.specs.Preface.{is_whole}
use Rattle.hb_history.proofs.Budget.{taken_waits, fresh_waits}
use Rattle.hb_history.proofs.CatchUp.{fresh_owes}
use Rattle.hb_history.proofs.Credits.{taken_fits}
use Rattle.hb_history.proofs.Steady.{octets_taken, takes_some}
use Rattle.hb_kept.specs.Kept.{NewIsKept, TakenFares, WantedFares, SomeAreWanted}

pub new_is_kept : NewIsKept
new_is_kept Server = record { octets = no_octets; caught_up = fresh_owes Server; preface = fresh_waits Server; goes_on = refl }
new_is_kept Client = record { octets = no_octets; caught_up = fresh_owes Client; preface = fresh_waits Client; goes_on = refl }

pub taken_fares : TakenFares
taken_fares c bytes kept looked octets enough = record {
  kept = record {
    octets = octets_taken c bytes kept.octets octets;
    caught_up = kept.caught_up;
    preface = taken_waits c bytes (is_whole c.preface) refl kept.preface;
    goes_on = kept.goes_on;
  };
  has_room = taken_fits c bytes (looked.1, kept.preface.0) enough;
}

pub wanted_fares : WantedFares
wanted_fares c bytes kept looked octets some wanted =
    (taken_fares c bytes kept looked octets (omega (arith, some, wanted)), omega (arith, wanted))

pub some_are_wanted : SomeAreWanted
some_are_wanted c kept looked enough =
    omega (arith, enough, takes_some c kept.goes_on (omega (arith, enough)) looked.1)
