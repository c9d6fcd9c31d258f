-- A link that is born.
use Rattle.std.proofs.Common.{is_some, ◌≡◌, inl, inr, ℕ, ◌≤◌, IsSome, List, [], ◌∷◌, Option, Result, Ok, Err, IfOk, nat_cmp, refl, ap, sym, ◌∙◌, subst, arith}
use Rattle.std.proofs.lemmas.Bool.{false≢true}
use Rattle.std.specs.FinMap.{FinMap, get, empty, get-empty}
use Rattle.hb_base.specs.declared.cause.Cause.TheVariants as cause
use Rattle.hb_conn.specs.Connection.{fresh_server}
use Rattle.hb_frames.specs.Numbers.{largest}
use Rattle.hb_front.specs.Reading.{IsAnswer, More}
use Rattle.hb_inbound.specs.Calm.{RestsIn}
use Rattle.hb_inbound.specs.Inbound as m
use Rattle.hb_inbound.specs.Inbound.{Inbound, with_phase}
use Rattle.hb_inbound.specs.Part.{welcomed}
use Rattle.hb_inbound.specs.Runs.{Local, with_link}
use Rattle.hb_inbound.specs.Tunnel as t
use Rattle.hb_inbound.specs.Tunnel.{is_unanswered}
use Rattle.hb_inbound.proofs.Admitted.{KnowsBy}
use Rattle.hb_inbound.proofs.AdmittedRun.{all_admit}
use Rattle.hb_inbound.proofs.Runs.{FrontBy, all_keep}
use Rattle.hb_link.specs.declared.link.Link.{Link}
use Rattle.hb_link.specs.declared.phase.Phase.TheVariants.{Fronting, Closing}
use Rattle.hb_link.specs.declared.tunnel.Tunnel.{Tunnel}
use Rattle.hb_link.specs.Calls.{Begins, TurnsAway}
use Rattle.hb_link.specs.Fresh.{IsFresh}
use Rattle.hb_link.specs.Shows.{Shows, ShowsBy}
use Rattle.hb_link.specs.Tunnels.{phase_of, ShowsTunnel}

nothing_came : IsAnswer [] More
nothing_came = (refl, omega arith)

-- a link without tunnels shows those that weren't asked for
module _ (k : Link) (x : Inbound) (tunnels : k.tunnels ≡ empty) where
  none_shown : ((s : ℕ) → (x.tunnels s).stage ≡ t.unasked) → (s : ℕ) → ShowsTunnel (get k.tunnels s) (x.tunnels s)
  none_shown unasked s =
      subst (λ (map : FinMap nat_cmp Tunnel). ShowsTunnel (get map s) (x.tunnels s)) (sym tunnels)
      (subst (λ (o : Option Tunnel). ShowsTunnel o (x.tunnels s)) (sym (get-empty nat_cmp s)) (inl (unasked s)))

  none_numbered : (s : ℕ) → IsSome (get k.tunnels s) → s ≤ largest
  none_numbered s some =
      let none = ap (λ (map : FinMap nat_cmp Tunnel). is_some (get map s)) tunnels ∙ ap is_some (get-empty nat_cmp s) in
      absurd (false≢true (sym none ∙ some))

-- a link with nothing shows one that was taken in
pub shows_new : (k : Link) (x : Inbound) → k.phase ≡ Fronting → k.front ≡ [] → k.conn ≡ fresh_server → k.tunnels ≡ empty
    → x.phase ≡ m.fronting → x.front ≡ [] → ((s : ℕ) → (x.tunnels s).stage ≡ t.unasked) → Shows k x
shows_new k x phase front conn tunnels is_phase is_front unasked = record {
  phase = is_phase ∙ ap phase_of (sym phase);
  way = subst (λ (ph : m.Phase). ShowsBy ph k x) (sym is_phase) (is_front ∙ sym front, conn);
  tunnels = none_shown k x tunnels unasked;
  numbered = none_numbered k x tunnels;
  calm = record {
    answered = λ s. ap is_unanswered (unasked s);
    rests = subst (λ (ph : m.Phase). RestsIn ph x) (sym is_phase)
        (subst (λ (bytes : List ℕ). IsAnswer bytes More) (sym is_front) nothing_came);
  };
}

pub begins : (l : ℕ) (k : Link) → IsFresh l Fronting k → Begins l k
begins l k fresh start before a b stands (may, is) =
    let knows = subst (λ (ph : m.Phase). KnowsBy ph before a.link) may.1 (all_admit l start a before stands).knows in
    let new = subst (λ (ph : m.Phase). FrontBy ph before a.link) may.1 (all_keep l start a before stands).front in
    let x = with_phase m.fronting a.link in
    record {
      parts = welcomed ∷ [];
      reached = with_link x a;
      leads = (
        tt,
        tt,
        with_link x a,
        (
          ap (λ (y : Local). y.link.phase) is,
          ap (λ (y : Local). with_link (with_phase m.fronting y.link) y) (sym is),
        ),
        refl,
      );
      shows = shows_new k x fresh.phase_is fresh.front fresh.conn fresh.tunnels refl new.2 knows;
      noted = inr refl;
    }

-- and one that is turned away
pub turns_away : (l : ℕ) (k : Link) → IsFresh l (Closing cause.NoRoom) k → TurnsAway l k
turns_away l k fresh start before a b stands (may, is) =
    let knows = subst (λ (ph : m.Phase). KnowsBy ph before a.link) may.1 (all_admit l start a before stands).knows in
    let x = with_phase (m.closing cause.NoRoom) a.link in (
      with_link x a,
      (
        ap (λ (y : Local). y.link.phase) is,
        ap (λ (y : Local). with_link (with_phase (m.closing cause.NoRoom) y.link) y) (sym is),
      ),
      record {
        phase = ap phase_of (sym fresh.phase_is);
        way = tt;
        tunnels = none_shown k x fresh.tunnels knows;
        numbered = none_numbered k x fresh.tunnels;
        calm = record { answered = λ s. ap is_unanswered (knows s); rests = tt };
      },
    )

-- where a result has a value of which this holds, that holds of it
pub of_value : {A E : Type 0} (P Q : A → Type 0) (r : Result A E) → ((a : A) → P a → Q a) → IfOk r P → IfOk r Q
of_value P Q (Ok a) gives is = gives a is
of_value P Q (Err why) gives is = tt
