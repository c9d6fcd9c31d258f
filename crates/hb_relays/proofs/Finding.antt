-- What is found on a link to a gateway leads on: its tunnel hears it, each tunnel is told its end, and streams are reset.
use Rattle.std.proofs.Common.{◌≡◌, ◌≢◌, ◌⊎◌, inl, inr, ⊎_elim, ℕ, ◌<◌, ◌^◌, ◌==◌, Bool, true, false, cond, List, [], ◌∷◌, ◌++◌, Option, Some, None, is_some, IsSome, refl, ap, sym, ◌∙◌, subst}
use Rattle.std.proofs.lemmas.Bool.{cases_eq, eq-eqb, false≢true, ne_eqb, true≢false}
use Rattle.std.specs.List.{flat_map}
use Rattle.std.specs.FinMap.{get, insert}
use Rattle.hb_base.specs.declared.cause.Cause.TheVariants as cause
use Rattle.hb_base.specs.declared.note.Note.{Note}
use Rattle.hb_captured.specs.Captured as m
use Rattle.hb_captured.specs.Captured.{Captured, due, is_raw}
use Rattle.hb_captured.specs.Calm.{IsCalmBy}
use Rattle.hb_captured.specs.Runs.{Fits, MayHear}
use Rattle.hb_captured.proofs.Streamed.{MayStream}
use Rattle.hb_conn.specs.Connection.{Connection}
use Rattle.hb_conn.specs.Observed.{IsLookedAt}
use Rattle.hb_conn.specs.declared.found.Found.{Found}
use Rattle.hb_conn.specs.declared.found.Found.TheVariants as found
use Rattle.hb_gate.specs.Calls as gate
use Rattle.hb_gate.specs.Calls.{LooksInto, LooksTold, MayLook, TellsOf, IsCarrying}
use Rattle.hb_gate.specs.Looking.{Looks, is_more}
use Rattle.hb_gate.specs.Shows as shown
use Rattle.hb_gate.specs.declared.gate.Gate.{Gate}
use Rattle.hb_gate.specs.declared.looking.Look.{Look}
use Rattle.hb_gate.specs.declared.looking.Look.TheVariants as look
use Rattle.hb_gate.specs.declared.looking.Mail.{Mail}
use Rattle.hb_gate.proofs.Fares.{calm_behind}
use Rattle.hb_gateway.specs.Calm.{AllReset, AllTold, IsCalm, close_due}
use Rattle.hb_gateway.specs.Gateway as machine
use Rattle.hb_gateway.specs.Gateway.{Gateway, Phase, Stream, at_stream, carries, phase_by, stage_of}
use Rattle.hb_gateway.specs.Hears.{hears as hears_at, posted}
use Rattle.hb_gateway.specs.Part as gateway_part
use Rattle.hb_gateway.specs.Part.{lacked, looked}
use Rattle.hb_gateway.specs.Response as response
use Rattle.hb_gateway.specs.Response.{Heard, Stage, carrying, opens, brings, failed, fails, heard_of}
use Rattle.hb_gateway.specs.Runs as gateways
use Rattle.hb_kept.specs.Kept.{Fares}
use Rattle.hb_link.proofs.Noted.{takes_none}
use Rattle.hb_link.specs.Noted.{Told, Takes}
use Rattle.hb_map.proofs.Laws.{put_here, put_elsewhere}
use Rattle.hb_model.specs.declared.config.NodeConfig.{NodeConfig}
use Rattle.hb_proxy.proofs.Gates.{gates_run}
use Rattle.hb_proxy.proofs.Tunnels.{goes_on_with, lives_on, mails_fit}
use Rattle.hb_proxy.proofs.Brought.{runs_fit}
use Rattle.hb_proxy.specs.Machine.{Machine, Outward, outward, with_gate as with_gateway}
use Rattle.hb_history.specs.Points.{data_in}
use Rattle.hb_proxy.specs.Points.{Point, of_gate, gates_of}
use Rattle.hb_proxy.specs.Runs.{Steps, StandsFor, goes_on}
use Rattle.hb_proxy.specs.Seen.{IsGateThere}
use Rattle.hb_proxy.specs.Streams.{HasTunnel}
use Rattle.hb_relay.specs.Shows.{Shows}
use Rattle.hb_relay.specs.declared.relay.Relay.{Relay}
use Rattle.hb_relays.specs.Joining.{all, but, not_of}
use Rattle.hb_relays.specs.Leaving.{ResetsIf}
use Rattle.hb_relays.specs.Looking.{DeliversTo, FindsAt, FindsOn, GoesOpen, HearsLook, HearsOn, IsSettled, IsTold, LookedBy, LooksOnce, ResetsGate, ResetsOn, ServesAt, ServesOn, SettledBy, Settles, ShowsOpen, after_look}
use Rattle.hb_relays.specs.Pumping.{NoneDue}
use Rattle.hb_relays.specs.Reaches.{IsInner}
use Rattle.hb_relays.specs.Touched.{is_touched, touched}
use Rattle.hb_relays.specs.Shows.{IsGateAway, ShowsGate, ShowsRelay}
use Rattle.hb_relays.specs.Walks.{gate_touched_at, with_gate}
use Rattle.hb_relays.specs.declared.relays.Relays.{Relays}
use Rattle.hb_relays.proofs.Awaiting.{carried_opened, is_opening, is_opens, streamed_so}
use Rattle.hb_relays.proofs.Carrying.{live_carries}
use Rattle.hb_relays.proofs.EndsOnce.{runs_end}
use Rattle.hb_relays.proofs.GateEntering.{others_rest}
use Rattle.hb_relays.proofs.Looked.{SameBut, carrying_hears, fares_same, looked_active, same_active}
use Rattle.hb_relays.proofs.Progress.{goes_then, stands_on}
use Rattle.hb_relays.proofs.Resetting.{AreReset, resets_go, resets_leave}
use Rattle.hb_relays.proofs.Settling.{away_raw, each_shown, may_fail}
use Rattle.hb_relays.proofs.Showing.{apart_of}
use Rattle.hb_relays.proofs.Tells.{Around, at_gate, at_number, on_stream, told_open}
use Rattle.hb_relays.proofs.Touching.{untouched}

-- ANOTHER LINK TO A GATEWAY IN ITS PLACE: no link waits, and all but that one stay
module _ (g : NodeConfig) (k : Relays) (n : ℕ) (z w : Machine) (shows : ShowsOpen n g k (outward z)) (none : NoneDue z)
    (plain : w.plain ≡ z.plain) (opens_are : w.opens ≡ z.opens) (others : (j : ℕ) → j ≢ n → w.gates j ≡ z.gates j) where
  abbrev v : Outward
  v = record { plain = z.plain; gates = w.gates; opens = z.opens }

  is_v : outward w ≡ v
  is_v = ap (λ (f : ℕ → Captured). record { plain = f; gates = w.gates; opens = w.opens }) plain
      ∙ ap (λ o. record { plain = z.plain; gates = w.gates; opens = o }) opens_are

  idle_on : (j : ℕ) → is_touched (touched n k.gate_due) j ≡ false → close_due (w.gates j).phase ≡ None
  idle_on j quiet =
      let was = untouched n k.gate_due j quiet in
      ap (λ (u : Gateway). close_due u.phase) (others j was.0) ∙ shows.gate_idle j was.1

  calm_on : (j : ℕ) → but n j ≡ true → IsCalm (w.gates j)
  calm_on j apart = subst IsCalm (sym (others j (apart_of j n apart))) (shows.gates_calm j apart)

  pub turned_open : (kept after : Gate) → get k.gates n ≡ Some kept → ShowsGate n (Some after) (w.gates n)
      → ShowsOpen n g (gate_touched_at n (with_gate n after k)) (outward w)
  turned_open kept after is here = subst (ShowsOpen n g (gate_touched_at n (with_gate n after k))) (sym is_v) (record {
    relays = shows.relays;
    index = shows.index;
    numbered = shows.numbered;
    idle = shows.idle;
    counted = shows.counted;
    gates = λ j. ⊎_elim
        (λ same. subst (λ (i : ℕ). ShowsGate i (get (insert k.gates n after) i) (w.gates i)) (sym same)
        (subst (λ (o : Option Gate). ShowsGate n o (w.gates n)) (sym (put_here k.gates n after)) here))
        (λ apart. subst (λ (o : Option Gate). ShowsGate j o (w.gates j)) (sym (put_elsewhere k.gates n after j apart))
        (subst (ShowsGate j (get k.gates j)) (sym (others j apart)) (shows.gates j))) (cases_eq j n);
    gate_numbered = λ j some. ⊎_elim (λ same. subst (λ (i : ℕ). i < 2 ^ 64) (sym same) (shows.gate_numbered n (ap is_some is)))
        (λ apart. shows.gate_numbered j (sym (ap is_some (put_elsewhere k.gates n after j apart)) ∙ some)) (cases_eq j n);
    gate_idle = idle_on;
    gates_calm = calm_on;
    streams = λ l apart. others_rest (outward z) n w.gates others l apart (shows.streams l apart);
    wanting = λ l so stage. absurd (none l stage);
  })

  pub turned_around : Around n g (gate_touched_at n k) (outward w)
  turned_around = subst (Around n g (gate_touched_at n k)) (sym is_v) (record {
    relays = shows.relays;
    index = shows.index;
    numbered = shows.numbered;
    idle = shows.idle;
    counted = shows.counted;
    gates = λ j apart. subst (ShowsGate j (get k.gates j)) (sym (others j apart)) (shows.gates j);
    gate_numbered = shows.gate_numbered;
    gate_idle = idle_on;
    gates_calm = calm_on;
    streams = λ l apart. others_rest (outward z) n w.gates others l apart (shows.streams l apart);
    wanting = λ l stage. absurd (none l stage);
  })

-- WHAT A LINK MAY HEAR: one that is shown, with a stream, waits for its tunnel to be open or lives
two_stages : (stage : m.Stage) (c : Captured) → MayStream stage → IsCalmBy stage c → is_raw c ≡ false
    → (stage ≡ m.opening) ⊎ (stage ≡ m.live)
two_stages m.opening c may calm on = inl refl
two_stages m.live c may calm on = inr refl
two_stages (m.over why) c may calm on = absurd (false≢true (sym on ∙ calm))
two_stages m.accepting c may calm on = absurd calm
two_stages (m.failed why) c may calm on = absurd calm
two_stages (m.ended why) c may calm on = absurd calm
two_stages m.unborn c may calm on = absurd may
two_stages m.arriving c may calm on = absurd may
two_stages m.fronting c may calm on = absurd may
two_stages m.due c may calm on = absurd may

-- what is found is not fatal to its place
there_behind : (told : Found) → IsGateThere (phase_by machine.serving told)
there_behind (found.Fault code) = tt
there_behind told = tt

same_then : (a b c : Gateway) → SameBut a b → SameBut b c → SameBut a c
same_then a b c one two = record {
  phase = two.phase ∙ one.phase;
  conn = two.conn ∙ one.conn;
  stages = λ s. two.stages s ∙ one.stages s;
}

-- it serves, or no stream of it is reset any more
abbrev pub IsKind : Phase → Type 0
IsKind phase = (phase ≡ machine.serving) ⊎ ((carries phase ≡ false) × IsGateThere phase)

behind_kind : (told : Found) → IsKind (phase_by machine.serving told)
behind_kind (found.Fault code) = inr (refl, tt)
behind_kind told = inl refl

-- then it is settled once each tunnel was told
ended_settled : (phase : Phase) (w : Gateway) → carries phase ≡ false → SettledBy phase w
ended_settled machine.opening w is = absurd (true≢false is)
ended_settled machine.serving w is = absurd (true≢false is)
ended_settled phase w is = tt

away_there : (phase : Phase) → IsGateAway phase → IsGateThere phase → ⊥
away_there machine.unborn away there = there
away_there machine.closed away there = there
away_there phase away there = away

-- one that is there is kept
kept_there : (g : NodeConfig) (k : Relays) (n : ℕ) (z : Machine) → ShowsOpen n g k (outward z) → IsGateThere (z.gates n).phase
    → IsSome (get k.gates n)
kept_there g k n z shows there = by (get k.gates n) refl
  where
    by : (o : Option Gate) → get k.gates n ≡ o → IsSome (get k.gates n)
    by None none =
        absurd (away_there (z.gates n).phase (subst (λ (o : Option Gate). ShowsGate n o (z.gates n)) none (shows.gates n)) there)
    by (Some w) is = ap is_some is

-- BEHIND A LOOK a side of each stream that is to be reset is open, and there is room once they are; and it serves, or is to be closed
pub record Behind (n : ℕ) (y : Gateway) : Type 0 where
  pub active : gate.AreActive y
  pub fares : gate.FaresOn n y
  pub kind : IsKind y.phase

-- where all is settled, and looked at where it was
abbrev pub Settled : Gateway → Gateway → Type 0
Settled y w = IsSettled w × (IsLookedAt y.conn → IsLookedAt w.conn) × (w.phase ≡ y.phase)

-- STREAMS ARE RESET, where each tunnel was told
module _ (g : NodeConfig) (n : ℕ) (z : Machine) (points : List Point) (stands : StandsFor g z points) (k r : Relays) (told : Told)
    (shows : ShowsOpen n g k (outward z)) (none : NoneDue z) (y : Gateway) (same : SameBut y (z.gates n)) (behind : Behind n y)
    (all_told : AllTold (z.gates n)) (kept : Gate) (is : get k.gates n ≡ Some kept) (after : Gate) (some : Bool)
    (carrying_so : IsCarrying kept some) (resets : ResetsIf some kept after) (r_is : r ≡ gate_touched_at n (with_gate n after k)) where
  here : ShowsGate n (Some kept) (z.gates n)
  here = subst (λ (o : Option Gate). ShowsGate n o (z.gates n)) is (shows.gates n)

  looked_still : IsLookedAt y.conn → IsLookedAt (z.gates n).conn
  looked_still at = subst IsLookedAt (sym same.conn) at

  ended_settles : carries y.phase ≡ false → GoesOpen n (Settled y) g z r told told
  ended_settles at =
      let phase : carries (z.gates n).phase ≡ false = ap carries same.phase ∙ at in
      let unchanged : after ≡ kept =
      subst (λ (c : Bool). ResetsIf c kept after) (carrying_so (z.gates n) here.1 ∙ phase) resets in
      record {
        goes = record {
          more = [];
          reached = z;
          leads = refl;
          shows = subst (λ (a : Relays). ShowsOpen n g a (outward z)) (sym r_is)
              (turned_open g k n z z shows none refl refl (λ j apart. refl) kept after is
              (subst (λ (w : Gate). ShowsGate n (Some w) (z.gates n)) (sym unchanged) here));
          undue = λ l un. un;
          noted = takes_none told;
        };
        here = ((all_told, ended_settled (z.gates n).phase (z.gates n) phase), looked_still, same.phase);
      }

  serving_settles : y.phase ≡ machine.serving → GoesOpen n (Settled y) g z r told told
  serving_settles at =
      let phase : (z.gates n).phase ≡ machine.serving = same.phase ∙ at in
      let all : gate.ResetsAll kept after =
      subst (λ (c : Bool). ResetsIf c kept after) (carrying_so (z.gates n) here.1 ∙ ap carries phase) resets in
      let got = each_shown g z points stands n kept here
      (λ (w : Gateway). carries w.phase ≡ true → gate.AreActive w
      → (u : Gateway) × gate.Resets kept.number w u × shown.Shows after u × AllReset u)
      all.1 (ap carries phase) (same_active y (z.gates n) same behind.active) in
      let w = got.0 in
      let resets_n : gate.Resets n (z.gates n) w = subst (λ (i : ℕ). gate.Resets i (z.gates n) w) here.0 got.1 in
      let go : AreReset g n w z = resets_go g n (z.gates n) w resets_n z refl in
      let leave = resets_leave n (z.gates n) w resets_n in
      let phase_w : w.phase ≡ machine.serving = leave.phase ∙ phase in
      let told_w : AllTold w = leave.told all_told in
      let here_w : ShowsGate n (Some after) w = (all.0 ∙ here.0, got.2, subst IsGateThere (sym phase_w) tt) in
      let fares : Fares w.conn =
      fares_same n y (z.gates n) w same resets_n got.3 (subst (λ (p : Phase). gate.FaresBy p n y) at behind.fares) in
      let may : MayLook w = record { serves = phase_w; reset = got.3; told = told_w; fares = fares } in
      let settled : IsSettled w = (told_w, subst (λ (p : Phase). SettledBy p w) (sym phase_w) may) in
      record {
        goes = record {
          more = go.more;
          reached = go.y;
          leads = go.leads;
          shows = subst (λ (a : Relays). ShowsOpen n g a (outward go.y)) (sym r_is)
              (turned_open g k n z go.y shows none go.plain go.opens go.others kept after is
              (subst (ShowsGate n (Some after)) (sym go.here) here_w));
          undue = λ l un stage. un (ap (λ (f : ℕ → Captured). (f l).stage) (sym go.plain) ∙ stage);
          noted = subst (λ (ns : List Note). Takes told ns told) (sym go.noted) (takes_none told);
        };
        here = subst (Settled y) (sym go.here) (settled, λ seen. leave.looked (looked_still seen), phase_w ∙ sym at);
      }

  pub resets_settle : GoesOpen n (Settled y) g z r told told
  resets_settle = ⊎_elim (λ at. serving_settles at) (λ at. ended_settles at.0) behind.kind

there_of : (y : Gateway) → IsKind y.phase → IsGateThere y.phase
there_of y (inl at) = subst IsGateThere (sym at) tt
there_of y (inr at) = at.1

-- EACH TUNNEL IS TOLD, AND THEN STREAMS ARE RESET
pub settle_then : (g : NodeConfig) (n : ℕ) (z : Machine) (points : List Point) → StandsFor g z points → (k a r : Relays) (told now : Told)
    → ShowsOpen n g k (outward z) → NoneDue z → (y : Gateway) → SameBut y (z.gates n) → Behind n y → Settles n k told a now
    → ResetsGate n a r → GoesOpen n (Settled y) g z r told now
settle_then g n z points stands k a r told now shows none y same behind settles resets =
    let there : IsGateThere (z.gates n).phase = subst IsGateThere (sym same.phase) (there_of y behind.kind) in
    let first = settles (kept_there g k n z shows there) g z points stands shows in
    let w = first.goes.reached in
    let stood = stands_on g z points first.goes.more w stands first.goes.leads in
    let still : SameBut y (w.gates n) =
    same_then y (z.gates n) (w.gates n) same
    (record { phase = first.here.phase; conn = first.here.conn; stages = first.here.stages }) in
    by first stood still (get a.gates n) refl resets
  where
    by : (first : GoesOpen n (IsTold (z.gates n)) g z a told now)
        → (all_points : List Point) × StandsFor g first.goes.reached all_points → SameBut y (first.goes.reached.gates n)
        → (o : Option Gate) → get a.gates n ≡ o → ResetsOn o n a r → GoesOpen n (Settled y) g z r told now
    by first stood still None gone it =
        absurd (false≢true (sym (ap is_some gone)
        ∙ kept_there g a n first.goes.reached first.goes.shows (subst IsGateThere (sym still.phase) (there_of y behind.kind))))
    by first stood still (Some kept) is it =
        let last = resets_settle g n first.goes.reached stood.0 stood.1 a r now first.goes.shows (λ l. first.goes.undue l (none l)) y still
        behind first.here.told kept is it.0 it.1.0 it.1.1 it.1.2 it.2 in
        record {
          goes = goes_then all all (not_of n) (not_of n) (but n) (but n) g z a r told now now first.goes last.goes;
          here = last.here;
        }

posted_opens : (heard mail : Option Heard) → mail ≡ None → is_opens (posted heard mail) ≡ is_opens heard
posted_opens None mail none = ap is_opens none
posted_opens (Some heard) mail none = refl

untold_stage : (s j : ℕ) (t : Stream) → (cond (j == s) (record t { mail = None }) t).stage ≡ t.stage
untold_stage s j t = by (j == s)
  where
    by : (b : Bool) → (cond b (record t { mail = None }) t).stage ≡ t.stage
    by true = refl
    by false = refl

-- A PART IS TAKEN: the link is what it makes of it, and the others stay
here_behind : (n : ℕ) (p : gateway_part.Part) (y : Gateway) (x : Machine) → (with_gateway n p y x).gates n ≡ y
here_behind n p y x = ap (λ (b : Bool). cond b y (x.gates n)) (eq-eqb n n refl)

others_behind : (n : ℕ) (p : gateway_part.Part) (y : Gateway) (x : Machine) (j : ℕ) → j ≢ n → (with_gateway n p y x).gates j ≡ x.gates j
others_behind n p y x j apart = ap (λ (b : Bool). cond b y (x.gates j)) (ne_eqb j n apart)

-- of which no tunnel is told
quiet_open : (g : NodeConfig) (n : ℕ) (x : Machine) (old : Relays) → ShowsOpen n g old (outward x) → NoneDue x → (kept after : Gate)
    → get old.gates n ≡ Some kept → (p : gateway_part.Part) (y : Gateway) → Steps g x (of_gate n p) (with_gateway n p y x)
    → IsInner (of_gate n p) → ShowsGate n (Some after) y → (told : Told)
    → GoesOpen n (SameBut y) g x (gate_touched_at n (with_gate n after old)) told told
quiet_open g n x old shows none kept after is p y steps inner shown_so told =
    let z = with_gateway n p y x in
    let here = here_behind n p y x in
    record {
      goes = record {
        more = of_gate n p ∷ [];
        reached = z;
        leads = (inner, z, steps, refl);
        shows = turned_open g old n x z shows none refl refl (others_behind n p y x) kept after is
            (subst (ShowsGate n (Some after)) (sym here) shown_so);
        undue = λ l un. un;
        noted = takes_none told;
      };
      here = subst (SameBut y) (sym here) (record { phase = refl; conn = refl; stages = λ s. refl });
    }

-- A LOOK IS TAKEN
module _ (g : NodeConfig) (n : ℕ) (x : Machine) (points : List Point) (stands : StandsFor g x points) (old : Relays)
    (shows : ShowsOpen n g old (outward x)) (none : NoneDue x) (kept : Gate) (is : get old.gates n ≡ Some kept) (may : MayLook (x.gates n))
    (y : Gateway) (into : LooksInto kept.number (x.gates n) y) (after : Gate) (number : after.number ≡ kept.number) where
  here_x : ShowsGate n (Some kept) (x.gates n)
  here_x = subst (λ (o : Option Gate). ShowsGate n o (x.gates n)) is (shows.gates n)

  abbrev p : gateway_part.Part
  p = looked into.looks.points into.looks.told into.looks.headers

  looks_n : gateways.Steps n (x.gates n) p y
  looks_n = subst (λ (i : ℕ). gateways.Steps i (x.gates n) p y) here_x.0 into.looks.looks

  abbrev z : Machine
  z = with_gateway n p y x

  z_steps : Steps g x (of_gate n p) z
  z_steps = (y, looks_n, tt, refl)

  z_here : z.gates n ≡ y
  z_here = here_behind n p y x

  z_other : (j : ℕ) → j ≢ n → z.gates j ≡ x.gates j
  z_other j apart = others_behind n p y x j apart

  abbrev points_z : List Point
  points_z = points ++ of_gate n p ∷ []

  stands_z : StandsFor g z points_z
  stands_z = goes_on stands (of_gate n p) z_steps refl

  phase_is : y.phase ≡ phase_by machine.serving into.looks.told
  phase_is = ap (λ (u : Gateway). u.phase) looks_n.6 ∙ ap (λ (q : Phase). phase_by q into.looks.told) may.serves

  there_y : IsGateThere y.phase
  there_y = subst IsGateThere (sym phase_is) (there_behind into.looks.told)

  pub look_behind : Behind n y
  look_behind = record {
    active = looked_active n (x.gates n) y into.looks.points into.looks.told into.looks.headers looks_n;
    fares = subst (λ (i : ℕ). gate.FaresOn i y) here_x.0 into.fares;
    kind = subst IsKind (sym phase_is) (behind_kind into.looks.told);
  }

  abbrev After : Relays
  After = gate_touched_at n (with_gate n after old)

  -- of which no tunnel is told
  pub quiet_look : (told : Told) → shown.Shows after y → GoesOpen n (SameBut y) g x After told told
  quiet_look told shown_so =
      quiet_open g n x old shows none kept after is p y z_steps tt (number ∙ here_x.0, shown_so, there_y) told

  -- or of which this one is
  module _ (s begun l : ℕ) (heard : Heard) (of : TellsOf s heard begun l y after) where
    of_z : TellsOf s heard begun l (z.gates n) after
    of_z = subst (λ (w : Gateway). TellsOf s heard begun l w after) (sym z_here) of

    has : HasTunnel ((z.gates n).streams s)
    has = inr (λ gone. (let never : None ≡ Some heard = sym gone ∙ of_z.tells.steps.0 in cc never))

    on : is_raw (x.plain l) ≡ false
    on = on_stream g z points_z stands_z n s has l of_z.captured

    at : (x.plain l).gate ≡ n
    at = at_gate g z points_z stands_z n s has l of_z.captured

    at_s : (x.plain l).stream ≡ s
    at_s = at_number g z points_z stands_z n s has l of_z.captured

    -- its stream, for which it had been asked
    stage_at : stage_of (x.gates (x.plain l).gate) (x.plain l).stream ≡ stage_of (x.gates n) s
    stage_at = ap (λ (i : ℕ). stage_of (x.gates i) (x.plain l).stream) at ∙ ap (λ (i : ℕ). stage_of (x.gates n) i) at_s

    unopened : (x.plain l).stage ≡ m.live → is_opens (Some heard) ≡ true → ⊥
    unopened live opens_so =
        let told : ((x.gates (x.plain l).gate).streams (x.plain l).stream).mail ≡ None =
        subst (λ (i : ℕ). ((x.gates i).streams (x.plain l).stream).mail ≡ None) (sym at) (may.told (x.plain l).stream) in
        let carries_it : stage_of (x.gates n) s ≡ carrying = sym stage_at ∙ (live_carries g x points stands l (on, live) told).stage in
        let mail : Some heard ≡ posted (hears_at (x.gates n) p s) ((x.gates n).streams s).mail =
        sym of.tells.steps.0 ∙ ap (λ (u : Gateway). (u.streams s).mail) looks_n.6 in
        let hears_it : is_opens (hears_at (x.gates n) p s) ≡ false =
        ap (λ (st : Stage). is_opens (heard_of s st into.looks.headers (flat_map data_in into.looks.points) into.looks.told)) carries_it
        ∙ carrying_hears s into.looks.headers (flat_map data_in into.looks.points) into.looks.told in
        false≢true (sym (ap is_opens mail ∙ posted_opens (hears_at (x.gates n) p s) ((x.gates n).streams s).mail (may.told s) ∙ hears_it)
        ∙ opens_so)

    -- one that brings bytes, or the end of the gateway's side, is open
    late : goes_on_with heard ≡ true → is_opens (Some heard) ≡ false → is_opening (x.plain l).stage ≡ true → ⊥
    late goes not_opens opening_so =
        let t = (z.gates n).streams s in
        let carries_it : stage_of (z.gates n) s ≡ carrying =
        lives_on t heard (mails_fit n (z.gates n) (gates_of n points_z) (gates_run g z points_z n stands_z) s) of_z.tells.steps.0 goes in
        carried_opened g z points_z stands_z l on
        (ap (λ (i : ℕ). stage_of (z.gates i) (x.plain l).stream) at ∙ ap (λ (i : ℕ). stage_of (z.gates n) i) at_s ∙ carries_it)
        (ap (λ (i : ℕ). is_opens ((z.gates i).streams (x.plain l).stream).mail) at
        ∙ ap (λ (i : ℕ). is_opens ((z.gates n).streams i).mail) at_s ∙ ap is_opens of_z.tells.steps.0 ∙ not_opens) opening_so

    may_hear : (link : Relay) → Shows link (x.plain l) → MayHear (x.plain l).stage heard (x.plain l)
    may_hear link link_shown =
        by heard of_z.tells.steps.0 unopened late
        (two_stages (x.plain l).stage (x.plain l) (streamed_so g z points_z stands_z l on) link_shown.calm on)
      where
        by : (heard : Heard) → ((z.gates n).streams s).mail ≡ Some heard → ((x.plain l).stage ≡ m.live → is_opens (Some heard) ≡ true → ⊥)
            → (goes_on_with heard ≡ true → is_opens (Some heard) ≡ false → is_opening (x.plain l).stage ≡ true → ⊥)
            → ((x.plain l).stage ≡ m.opening) ⊎ ((x.plain l).stage ≡ m.live) → MayHear (x.plain l).stage heard (x.plain l)
        by (fails why) mail early behind stages = may_fail (x.plain l).stage why (x.plain l)
        by (opens end) mail early behind (inl stage) = subst (λ (st : m.Stage). MayHear st (opens end) (x.plain l)) (sym stage) tt
        by (opens end) mail early behind (inr stage) = absurd (early stage refl)
        by (brings bytes) mail early behind (inl stage) = absurd (behind refl refl (ap is_opening stage))
        by (brings bytes) mail early behind (inr stage) =
            subst (λ (st : m.Stage). MayHear st (brings bytes) (x.plain l)) (sym stage)
            (subst (λ (i : ℕ). Fits bytes (z.plain i)) of_z.captured (runs_fit g z points_z n s bytes stands_z mail))
        by response.ends mail early behind (inl stage) = absurd (behind refl refl (ap is_opening stage))
        by response.ends mail early behind (inr stage) =
            subst (λ (st : m.Stage). MayHear st response.ends (x.plain l)) (sym stage)
            (subst (λ (i : ℕ). (z.plain i).ways.down.has_ended ≡ false) of_z.captured (runs_end g z points_z n s stands_z mail))

    pub heard_open : (k : Relays) (told now : Told) → HearsOn heard begun l (get old.relays l) After told k now
        → GoesOpen n (SameBut y) g x k told now
    heard_open k told now hears_so = by (get old.relays l) refl hears_so
      where
        by : (o : Option Relay) → get old.relays l ≡ o → HearsOn heard begun l o After told k now → GoesOpen n (SameBut y) g x k told now
        by None gone it =
            absurd (true≢false (sym (away_raw g x points stands l
            (subst (λ (o : Option Relay). ShowsRelay l o (x.plain l)) gone (shows.relays l))) ∙ on))
        by (Some link) found it =
            let link_shown = subst (λ (o : Option Relay). ShowsRelay l o (x.plain l)) found (shows.relays l) in
            let on_it = told_open g (gate_touched_at n old) l n s heard of_z.count link it.0 kept after it.1 it.2 told now z points_z
            stands_z (turned_around g old n x z shows none refl refl z_other) found is here_x.0
            (subst IsGateThere (ap (λ (u : Gateway). u.phase) (sym z_here)) there_y) of_z.captured has of_z.tells number
            (it.3 of_z.count of_z.counted_is) (may_hear link link_shown.1) it.5 in
            let v = on_it.goes.reached.gates n in
            let v_is : v ≡ at_stream s (λ (t : Stream). record t { mail = None }) y =
            on_it.here ∙ ap (λ (u : Gateway). at_stream s (λ (t : Stream). record t { mail = None }) u) z_here in
            subst (λ (r : Relays). GoesOpen n (SameBut y) g x r told now) (sym it.4) (record {
              goes = record {
                more = of_gate n p ∷ on_it.goes.more;
                reached = on_it.goes.reached;
                leads = (tt, z, z_steps, on_it.goes.leads);
                shows = on_it.goes.shows;
                undue = on_it.goes.undue;
                noted = on_it.goes.noted;
              };
              here = subst (SameBut y) (sym v_is)
                  (record { phase = refl; conn = refl; stages = λ j. untold_stage s j (y.streams j) });
            })

-- MEMORY LACKS FOR A HEADER BLOCK: each tunnel ends, and no stream is reset
lacks_behind : (n : ℕ) (x y : Gateway) → MayLook x → gateways.Steps n x lacked y → Behind n y
lacks_behind n x y may steps =
    subst (Behind n) (sym steps.1) (record {
      active = λ s fails_so.
          absurd (false≢true (sym (calm_behind lacked (stage_of x s) (failed cause.NoMemory (stage_of x s)) (λ why. refl) (may.reset s))
          ∙ fails_so));
      fares = tt;
      kind = inr (refl, tt);
    })

-- ONE LOOK
looked_by : (phase : Phase) (conn : Connection) → IsLookedAt conn → LookedBy phase conn
looked_by machine.serving conn seen = seen
looked_by phase conn seen = tt

unless : (phase : Phase) (conn : Connection) → (phase ≡ machine.serving → ⊥) → LookedBy phase conn
unless machine.serving conn never = absurd (never refl)
unless phase conn never = tt

away_serves : (phase : Phase) → IsGateAway phase → phase ≡ machine.serving → ⊥
away_serves phase away at = subst IsGateAway at away

-- it isn't looked at
pub serves_not : (n : ℕ) (old : Relays) (told : Told) → ServesAt n old false → LooksOnce n false old told old told
serves_not n old told serves g x points stands shows none settled = record {
  goes = record {
    more = [];
    reached = x;
    leads = refl;
    shows = shows;
    undue = λ l un. un;
    noted = takes_none told;
  };
  here = (settled, unless (x.gates n).phase (x.gates n).conn (by (get old.gates n) refl serves (shows.gates n)));
}
  where
    by : (o : Option Gate) → get old.gates n ≡ o → ServesOn o false → ShowsGate n (get old.gates n) (x.gates n)
        → (x.gates n).phase ≡ machine.serving → ⊥
    by None is no_gate shown_so at =
        away_serves (x.gates n).phase (subst (λ (o : Option Gate). ShowsGate n o (x.gates n)) is shown_so) at
    by (Some kept) is serves_so shown_so at =
        false≢true ((serves_so (x.gates n) (subst (λ (o : Option Gate). ShowsGate n o (x.gates n)) is shown_so).1).1 at)

delivers_hears : (mail : Mail) (o : Option Relay) (a k : Relays) (told now : Told) → DeliversTo o mail a told k now
    → HearsOn (fails mail.cause) mail.begun mail.link o a told k now
delivers_hears mail None a k told now it = it
delivers_hears mail (Some link) a k told now it = it

-- what is found on one that is kept
module _ (n : ℕ) (old k2 k3 k4 k5 : Relays) (bytes : List ℕ) (told one two : Told) (kept after : Gate) (is : get old.gates n ≡ Some kept)
    (k2_is : k2 ≡ gate_touched_at n (with_gate n after old)) (settles : Settles n k3 one k4 two) (resets : ResetsGate n k4 k5) (g : NodeConfig)
    (x : Machine) (points : List Point) (stands : StandsFor g x points) (shows : ShowsOpen n g old (outward x)) (none : NoneDue x)
    (may : MayLook (x.gates n)) where
  kept_here : ShowsGate n (Some kept) (x.gates n)
  kept_here = subst (λ (o : Option Gate). ShowsGate n o (x.gates n)) is (shows.gates n)

  -- behind what is heard
  rest : (y : Gateway) → Behind n y → GoesOpen n (SameBut y) g x k3 told one → GoesOpen n (Settled y) g x k5 told two
  rest y behind first =
      let stood = stands_on g x points first.goes.more first.goes.reached stands first.goes.leads in
      let last = settle_then g n first.goes.reached stood.0 stood.1 k3 k4 k5 one two first.goes.shows (λ l. first.goes.undue l (none l)) y
      first.here behind settles resets in
      record {
        goes = goes_then all all (not_of n) (not_of n) (but n) (but n) g x k3 k5 told one two first.goes last.goes;
        here = last.here;
      }

  quietly : (y : Gateway) → LooksInto kept.number (x.gates n) y → after.number ≡ kept.number → shown.Shows after y → k3 ≡ k2 → one ≡ told
      → GoesOpen n (Settled y) g x k5 told two
  quietly y into number shown_so k3_is one_is =
      rest y (look_behind g n x points stands old shows none kept is may y into after number)
      (subst (λ (t : Told). GoesOpen n (SameBut y) g x k3 told t) (sym one_is)
      (subst (λ (k : Relays). GoesOpen n (SameBut y) g x k told told) (sym (k3_is ∙ k2_is))
      (quiet_look g n x points stands old shows none kept is may y into after number told shown_so)))

  heard_so : (s begun l : ℕ) (heard : Heard) → LooksTold s heard begun l kept after → HearsOn heard begun l (get k2.relays l) k2 told k3 one
      → GoesOpen n IsSettled g x k5 told two
  heard_so s begun l heard looks hears_it =
      let got = each_shown g x points stands n kept kept_here
      (λ (w : Gateway). MayLook w → (y : Gateway) × LooksInto kept.number w y × TellsOf s heard begun l y after) looks.1 may in
      let settled = rest got.0 (look_behind g n x points stands old shows none kept is may got.0 got.1 after looks.0)
      (heard_open g n x points stands old shows none kept is may got.0 got.1 after looks.0 s begun l heard got.2 k3 told one
      (subst (λ (k : Relays). HearsOn heard begun l (get k.relays l) k told k3 one) k2_is hears_it)) in
      record { goes = settled.goes; here = settled.here.0 }

  found_so : (found : Look) → Looks found bytes kept after → HearsLook found bytes k2 told k3 one
      → GoesOpen n (after_look (is_more found)) g x k5 told two
  found_so look.Nothing looks hears_it =
      let got = each_shown g x points stands n kept kept_here
      (λ (w : Gateway). MayLook w → (y : Gateway) × LooksInto kept.number w y × shown.Shows after y × IsLookedAt y.conn) looks.1 may in
      let settled = quietly got.0 got.1 looks.0 got.2 hears_it.0 hears_it.1 in
      let w = settled.goes.reached.gates n in
      record { goes = settled.goes; here = (settled.here.0, looked_by w.phase w.conn (settled.here.1 got.3)) }
  found_so look.Passed looks hears_it =
      let got = each_shown g x points stands n kept kept_here
      (λ (w : Gateway). MayLook w → (y : Gateway) × LooksInto kept.number w y × shown.Shows after y) looks.1 may in
      let settled = quietly got.0 got.1 looks.0 got.2 hears_it.0 hears_it.1 in
      record { goes = settled.goes; here = settled.here.0 }
  found_so look.Lacked looks hears_it =
      let got = each_shown g x points stands n kept kept_here (λ (w : Gateway). MayLook w → gate.Goes lacked w after) looks.1 may in
      let number : after.number ≡ n = looks.0 ∙ kept_here.0 in
      let steps = subst (λ (i : ℕ). gateways.Steps i (x.gates n) lacked got.next) number got.steps in
      let closing = ap (λ (u : Gateway). u.phase) steps.1 in
      let there : IsGateThere got.next.phase = subst IsGateThere (sym closing) tt in
      let quiet =
      quiet_open g n x old shows none kept after is lacked got.next (got.next, steps, tt, refl) tt (number, got.shows, there) told in
      let settled = rest got.next (lacks_behind n (x.gates n) got.next may steps)
      (subst (λ (t : Told). GoesOpen n (SameBut got.next) g x k3 told t) (sym hears_it.1)
      (subst (λ (k : Relays). GoesOpen n (SameBut got.next) g x k told told) (sym (hears_it.0 ∙ k2_is)) quiet)) in
      let w = settled.goes.reached.gates n in
      record {
        goes = settled.goes;
        here = (settled.here.0, unless w.phase w.conn (λ at. let no = sym closing ∙ sym settled.here.2 ∙ at in cc no));
      }
  found_so (look.Opens s l end) looks hears_it = heard_so s looks.0 l (opens end) looks.1 (hears_it looks.0)
  found_so (look.Brings s l) looks hears_it = heard_so s looks.0 l (brings bytes) looks.1 (hears_it looks.0)
  found_so (look.Ends s l) looks hears_it = heard_so s looks.0 l response.ends looks.1 (hears_it looks.0)
  found_so (look.Fails mail) looks hears_it =
      heard_so mail.stream mail.begun mail.link (fails mail.cause) looks
      (delivers_hears mail (get k2.relays mail.link) k2 k3 told one hears_it)

pub looks_once : (n : ℕ) (old k2 k3 k4 k5 : Relays) (found : Look) (bytes : List ℕ) (told one two : Told) → ServesAt n old true
    → FindsAt n found bytes old k2 → HearsLook found bytes k2 told k3 one → Settles n k3 one k4 two → ResetsGate n k4 k5
    → LooksOnce n (is_more found) old told k5 two
looks_once n old k2 k3 k4 k5 found bytes told one two serves finds hears_it settles resets g x points stands shows none settled =
    by (get old.gates n) refl serves finds
  where
    by : (o : Option Gate) → get old.gates n ≡ o → ServesOn o true → FindsOn o n found bytes old k2
        → GoesOpen n (after_look (is_more found)) g x k5 told two
    by None is no_gate it = absurd (false≢true (sym no_gate))
    by (Some kept) is serves_so it =
        let here = subst (λ (o : Option Gate). ShowsGate n o (x.gates n)) is (shows.gates n) in
        let phase : (x.gates n).phase ≡ machine.serving = (serves_so (x.gates n) here.1).0 refl in
        let may : MayLook (x.gates n) = subst (λ (p : Phase). SettledBy p (x.gates n)) phase settled.1 in
        found_so n old k2 k3 k4 k5 bytes told one two kept it.0 is it.2 settles resets g x points stands shows none may found it.1 hears_it
