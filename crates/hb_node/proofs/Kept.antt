-- What a link's connection keeps with octets that come and go and with what is put.
use Rattle.std.proofs.Common.{◌≡◌, ℕ, ◌<◌, ◌≤◌, Bool, true, false, cond, List, [], length, refl, arith}
use Rattle.std.specs.Prelude.{nat_lt, if◌then◌else◌}
use Rattle.std.proofs.lemmas.Bool.Decides.{nat_tests}
use Rattle.hb_base.specs.declared.target.Target.{Target}
use Rattle.hb_frames.specs.Frames.{AreOctets}
use Rattle.hb_held.specs.Held.{Resources}
use Rattle.hb_streams.specs.declared.role.Role.TheVariants.{Client}
use Rattle.hb_conn.specs.Connection.{fresh_client}
use Rattle.hb_conn.specs.Observed.{room, IsLookedAt, own_side_open, count_put}
use Rattle.hb_history.proofs.Steady.{first_stream}
use Rattle.hb_kept.proofs.Acts.{opens_kept, puts_kept, writes_kept}
use Rattle.hb_kept.proofs.Kept.{new_is_kept, wanted_fares, some_are_wanted}
use Rattle.hb_kept.proofs.Shut.{put_shuts, opening_shuts}
use Rattle.hb_model.specs.Discovery.{Discovery, dialling, stream, headers_of, dialled, came, wrote, sendable, put_requests}
use Rattle.hb_model.specs.Runs.{wants_of, IsCalm}
use Rattle.hb_node.specs.Links.{IsKept, Fares, SteadyBy, with_puts}

-- behind octets that were wanted there is room for their answers
pub came_fares : (x : Discovery) (b : List ℕ) → IsKept x → IsCalm x → AreOctets b → 0 < length b → length b ≤ wants_of x
    → Fares (came b x)
came_fares x b kept calm octets some wanted = (wanted_fares x.conn b kept calm.looked_at octets some wanted).0

-- where there is room some are wanted
pub wants_some : (x : Discovery) → IsKept x → IsCalm x → 768 ≤ room x.conn → 0 < wants_of x
wants_some x kept calm enough = some_are_wanted x.conn kept calm.looked_at (omega (arith, enough))

-- what is put

some_put : (own : Bool) (n : ℕ) → 0 < cond own n 0 → 0 < n
some_put true n some = some
some_put false n some = absurd (omega (arith, some))

none_if : (own : Bool) (n : ℕ) → n ≡ 0 → cond own n 0 ≡ 0
none_if true n none = none
none_if false n none = refl

puts_by : (some : Bool) (x : Discovery) → nat_lt 0 (sendable x) ≡ some → IsKept x → IsLookedAt x.conn → x.chunk ≡ [] → x.counted ≡ 0
    → IsKept (if some then put_requests x else x) × IsCalm (if some then put_requests x else x)
puts_by false x is kept looked chunk counted =
    (kept, record { empty_handed = (chunk, counted); looked_at = looked; all_put = grind (arith, nat_tests, is) })
puts_by true x is kept looked chunk counted =
    let y = put_requests x in
    let goes : 0 < sendable x = grind (arith, nat_tests, is) in
    let some = some_put (own_side_open x.conn stream) (count_put x.conn stream x.waiting) goes in (
      puts_kept x.conn stream x.waiting kept,
      record {
        empty_handed = (chunk, counted);
        looked_at = looked;
        all_put = none_if (own_side_open y.conn stream) _ (put_shuts x.conn stream x.waiting some stream y.waiting);
      },
    )

-- behind as much as may be put nothing more happens by itself
pub puts_steady : (x : Discovery) → IsKept x → IsLookedAt x.conn → x.chunk ≡ [] → x.counted ≡ 0
    → IsKept (with_puts x) × IsCalm (with_puts x)
puts_steady x kept looked chunk counted = puts_by (nat_lt 0 (sendable x)) x refl kept looked chunk counted

-- octets that go
pub wrote_kept : (x : Discovery) (n : ℕ) → IsKept x → IsCalm x → IsKept (wrote n x) × IsLookedAt (wrote n x).conn
wrote_kept x n kept calm = (writes_kept x.conn n kept, calm.looked_at)

-- a new link
pub dialled_steady : (id : List ℕ) (to : Target) (held : Resources) → SteadyBy dialling (dialled id to held)
dialled_steady id to held =
    let x = dialled id to held in (
      opens_kept fresh_client stream (headers_of to) false first_stream (new_is_kept Client),
      record {
        empty_handed = (refl, refl);
        looked_at = (refl, refl);
        all_put = none_if (own_side_open x.conn stream) _ (opening_shuts fresh_client stream (headers_of to) stream x.waiting);
      },
    )
