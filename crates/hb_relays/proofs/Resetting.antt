-- Streams of a link to a gateway that are reset, one after another: the whole goes on so.
use Rattle.std.proofs.Common.{◌≡◌, ◌≢◌, ℕ, ◌==◌, Bool, true, false, cond, List, [], ◌∷◌, None, refl, ap, sym, ◌∙◌, subst}
use Rattle.std.proofs.lemmas.Bool.{eq-eqb, false≢true, ne_eqb}
use Rattle.hb_conn.specs.Observed.{IsLookedAt}
use Rattle.hb_gate.specs.Calls as gate
use Rattle.hb_gate.specs.Calls.{none, more}
use Rattle.hb_gateway.specs.Calm.{AllReset, AllTold, IsCalmBy}
use Rattle.hb_gateway.specs.Gateway as machine
use Rattle.hb_gateway.specs.Gateway.{Gateway, Phase, Stream, at_stage, carries}
use Rattle.hb_gateway.specs.Part.{reset}
use Rattle.hb_gateway.specs.Response as response
use Rattle.hb_gateway.specs.Runs as gateways
use Rattle.hb_model.specs.declared.config.NodeConfig.{NodeConfig}
use Rattle.hb_proxy.specs.Machine.{Machine, with_gate as with_gateway}
use Rattle.hb_proxy.specs.Notes.{notes}
use Rattle.hb_proxy.specs.Points.{Point, of_gate}
use Rattle.hb_relays.specs.Reaches.{Leads}

-- what resets leave of the link: that it carries streams, what its tunnels are to be told, and that nothing is left to be looked at
pub record ResetsLeave (w v : Gateway) : Type 0 where
  pub phase : v.phase ≡ w.phase
  pub key : v.key ≡ w.key
  pub told : AllTold w → AllTold v
  pub looked : IsLookedAt w.conn → IsLookedAt v.conn

mail_left : (s j : ℕ) (t : Stream) → t.mail ≡ None → (cond (j == s) (at_stage response.over t) t).mail ≡ None
mail_left s j t is = by (j == s)
  where
    by : (b : Bool) → (cond b (at_stage response.over t) t).mail ≡ None
    by true = is
    by false = is

one_leaves : (n s code : ℕ) (w v : Gateway) → gateways.Steps n w (reset s code) v → ResetsLeave w v
one_leaves n s code w v step = record {
  phase = ap (λ (u : Gateway). u.phase) step.2;
  key = ap (λ (u : Gateway). u.key) step.2;
  told = λ all. subst AllTold (sym step.2) (λ j. mail_left s j (w.streams j) (all j));
  looked = λ is. subst (λ (u : Gateway). IsLookedAt u.conn) (sym step.2) is;
}

pub resets_leave : (n : ℕ) (w v : Gateway) → gate.Resets n w v → ResetsLeave w v
resets_leave n w v (none is) = record {
  phase = ap (λ (u : Gateway). u.phase) is;
  key = ap (λ (u : Gateway). u.key) is;
  told = λ all. subst AllTold (sym is) all;
  looked = λ looked. subst (λ (u : Gateway). IsLookedAt u.conn) (sym is) looked;
}
resets_leave n w v (more {mid = mid} s code step rest) =
    let first = one_leaves n s code w mid step in
    let then = resets_leave n mid v rest in
    record {
      phase = then.phase ∙ first.phase;
      key = then.key ∙ first.key;
      told = λ all. then.told (first.told all);
      looked = λ is. then.looked (first.looked is);
    }

-- in the whole
pub record AreReset (g : NodeConfig) (n : ℕ) (v : Gateway) (x : Machine) : Type 0 where
  pub y : Machine
  pub more : List Point
  pub leads : Leads g x more y
  pub here : y.gates n ≡ v
  pub others : (j : ℕ) → j ≢ n → y.gates j ≡ x.gates j
  pub plain : y.plain ≡ x.plain
  pub opens : y.opens ≡ x.opens
  pub noted : notes more ≡ []

pub resets_go : (g : NodeConfig) (n : ℕ) (w v : Gateway) → gate.Resets n w v → (x : Machine) → x.gates n ≡ w → AreReset g n v x
resets_go g n w v (none is) x at = record {
  y = x;
  more = [];
  leads = refl;
  here = at ∙ sym is;
  others = λ j apart. refl;
  plain = refl;
  opens = refl;
  noted = refl;
}
resets_go g n w v (more {mid = mid} s code step rest) x at =
    let p = reset s code in
    let z = with_gateway n p mid x in
    let then = resets_go g n mid v rest z (ap (λ (t : Bool). cond t mid (x.gates n)) (eq-eqb n n refl)) in
    record {
      y = then.y;
      more = of_gate n p ∷ then.more;
      leads = (tt, z, (mid, subst (λ (u : Gateway). gateways.Steps n u p mid) (sym at) step, tt, refl), then.leads);
      here = then.here;
      others = λ j apart. then.others j apart ∙ ap (λ (t : Bool). cond t mid (x.gates j)) (ne_eqb j n apart);
      plain = then.plain;
      opens = then.opens;
      noted = then.noted;
    }

-- nothing more happens there where nothing did, and each is reset
pub calm_still : (phase : Phase) (w v : Gateway) → (IsLookedAt w.conn → IsLookedAt v.conn) → AllReset v → IsCalmBy phase w
    → IsCalmBy phase v
calm_still machine.opening w v looked reset_so calm = reset_so
calm_still machine.serving w v looked reset_so calm = (reset_so, looked calm.1)
calm_still machine.unborn w v looked reset_so calm = tt
calm_still (machine.faulted code) w v looked reset_so calm = tt
calm_still (machine.closing why) w v looked reset_so calm = tt
calm_still machine.closed w v looked reset_so calm = tt

-- one that carries streams, where nothing more happens, has none to be reset
pub calm_reset : (phase : Phase) (w : Gateway) → carries phase ≡ true → IsCalmBy phase w → AllReset w
calm_reset machine.opening w is calm = calm
calm_reset machine.serving w is calm = calm.0
calm_reset machine.unborn w is calm = absurd (false≢true is)
calm_reset (machine.faulted code) w is calm = absurd (false≢true is)
calm_reset (machine.closing why) w is calm = absurd (false≢true is)
calm_reset machine.closed w is calm = absurd (false≢true is)
