-- Bytes that come on a link.
use Rattle.std.proofs.Common.{◌≡◌, ℕ, ◌≤◌, List, length, refl, ap, sym, subst}
use Rattle.hb_conn.specs.Connection.{Connection, taken}
use Rattle.hb_kept.specs.Kept.{Fares}
use Rattle.hb_kept.proofs.Kept.{wanted_fares}
use Rattle.hb_world.specs.declared.entry.Entry.TheVariants as e
use Rattle.hb_gateway.specs.Calm as calm
use Rattle.hb_gateway.specs.Gateway.{Gateway, came}
use Rattle.hb_gateway.specs.Gateway as m
use Rattle.hb_gateway.specs.Hears.{all_hear}
use Rattle.hb_gateway.specs.Part.{entry}
use Rattle.hb_gateway.specs.Runs.{MayCome}
use Rattle.hb_gate.specs.Calls.{Enters, FaresWith}
use Rattle.hb_gate.specs.Shows.{Shows, ShowsBy}
use Rattle.hb_gate.specs.declared.gate.Gate.{Gate}

module _ (k : Gate) (bytes : List ℕ) (x : Gateway) (shows : Shows k x) (may : MayCome k.number x (e.Came k.number bytes)) where
  serving : x.phase ≡ m.serving
  serving = may.1.0.1

  pub way : ShowsBy m.serving k x
  way = subst (λ (ph : m.Phase). ShowsBy ph k x) serving shows.way

  pub fares : Fares (taken x.conn bytes)
  fares =
      let looked = subst (λ (ph : m.Phase). calm.IsCalmBy ph x) serving may.1.0.0.calm.1 in
      let many = subst (λ (ph : m.Phase). length bytes ≤ calm.wants_by ph x) serving may.4 in
      (wanted_fares x.conn bytes way.1 looked.1 may.2 may.3 many).0

  pub shows_came : Shows (record k { conn = taken k.conn bytes }) (came bytes (all_hear (entry (e.Came k.number bytes)) x))
  shows_came =
      let n = record k { conn = taken k.conn bytes } in
      let y = came bytes (all_hear (entry (e.Came k.number bytes)) x) in
      record {
        key = shows.key;
        phase = shows.phase;
        way = subst (λ (ph : m.Phase). ShowsBy ph n y) (sym serving) (ap (λ (c : Connection). taken c bytes) way.0, fares.kept, way.2);
        away = shows.away;
        streams = shows.streams;
        numbered = shows.numbered;
      }

pub comes : (k : Gate) (bytes : List ℕ) → Enters (entry (e.Came k.number bytes)) k (record k { conn = taken k.conn bytes })
comes k bytes = (
  refl,
  λ x parts stands shows y step. subst (Shows (record k { conn = taken k.conn bytes })) (sym step.1) (shows_came k bytes x shows step.0),
)

pub fares_with : (k : Gate) (bytes : List ℕ) → FaresWith bytes k
fares_with k bytes x parts stands shows y step = subst (λ (z : Gateway). Fares z.conn) (sym step.1) (fares k bytes x shows step.0)
