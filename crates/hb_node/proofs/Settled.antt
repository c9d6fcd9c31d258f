-- All that came on a link was looked at, and what may go is put.
use Rattle.std.proofs.Common.{◌≡◌, ℕ, Bool, true, false, nat_lt, refl, sym, ◌∙◌, subst, if◌then◌else◌}
use Rattle.std.proofs.lemmas.Bool.{false≢true}
use Rattle.hb_node.specs.Judging.{Judges, Seen}
use Rattle.hb_model.specs.Discovery.{Discovery, Phase, unborn, dialling, live, faulted, ending, closed, sendable, put_requests}
use Rattle.hb_node.specs.declared.link.Link.{Link}
use Rattle.hb_node.specs.Phases.{phase_of, is_live}
use Rattle.hb_node.specs.Leads.{Leads, stays}
use Rattle.hb_conn.specs.Observed.{IsLookedAt}
use Rattle.hb_node.specs.Links.{part_of, with_puts, put_by, Agrees, GoesTo, Goes, Settles, Rests, Fares, FaresBy, FaresOn, SteadyBy, IsSteady}
use Rattle.hb_node.proofs.Led.{leads_on, state, same_live, agrees_same, puts_lead}
use Rattle.hb_node.proofs.Heard.{live_is, live_back}
use Rattle.hb_node.proofs.Kept.{puts_steady}

puts_phase : (x : Discovery) (b : Bool) → (if b then put_requests x else x).phase ≡ x.phase
puts_phase x true = refl
puts_phase x false = refl

-- a link that is to be closed is steady
steady_dead : (p : Phase) (x : Discovery) → (p ≡ live → ⊥) → FaresBy p x → SteadyBy p x
steady_dead unborn x dead fares = absurd fares
steady_dead dialling x dead fares = absurd fares
steady_dead live x dead fares = absurd (dead refl)
steady_dead (faulted code) x dead fares = tt
steady_dead (ending c) x dead fares = tt
steady_dead closed x dead fares = absurd fares

is_dead : (k : Link) → is_live k.phase ≡ false → phase_of k.phase ≡ live → ⊥
is_dead k dead lives = false≢true (sym dead ∙ live_back k.phase lives)

module _ {J : Type 0} (judges : Judges J) where
  -- of a link that lives it is known how it fares
  pub lives_on : (l : ℕ) (held new_held : Seen J) (x : Discovery) (k : Link) → is_live k.phase ≡ true
      → GoesTo judges FaresOn l held x new_held (part_of k) → Fares (part_of k)
  lives_on l held new_held x k lives g =
      let is = live_is k.phase lives in
      let same = same_live g.part (part_of k) g.agrees is in
      subst (λ p. FaresBy p (part_of k)) is (subst FaresOn same g.so)

  -- one look behind another
  pub goes_on : (l : ℕ) (held mid_held new_held : Seen J) (x : Discovery) (k : Link) (z : Discovery) → is_live k.phase ≡ true
      → Goes judges l held x mid_held (part_of k) → Goes judges l mid_held (part_of k) new_held z → Goes judges l held x new_held z
  goes_on l held mid_held new_held x k z lives first next fares =
      let g = first fares in
      let h = next (lives_on l held mid_held x k lives g) in
      let same = same_live g.part (part_of k) g.agrees (live_is k.phase lives) in
      record {
        part = h.part;
        leads = leads_on judges l (state held x) (state mid_held (part_of k)) (state new_held h.part)
            (subst (λ (v : Discovery). Leads judges l (state held x) (state mid_held v)) same g.leads) h.leads;
        agrees = h.agrees;
        so = h.so;
      }

  -- the last look, behind which what may go is put
  module _ (l : ℕ) (held new_held : Seen J) (x : Discovery) (k : Link) (y : Discovery)
      (goes : GoesTo judges FaresOn l held x new_held (part_of k)) where
    ends_by : (b : Bool) → is_live k.phase ≡ b → (b ≡ true → IsLookedAt k.conn) → y ≡ put_by b (part_of k)
        → GoesTo judges IsSteady l held x new_held y
    ends_by true lives looked is =
        let z = with_puts (part_of k) in
        let in_phase = live_is k.phase lives in
        let same = same_live goes.part (part_of k) goes.agrees in_phase in
        let steady = puts_steady (part_of k) (lives_on l held new_held x k lives goes).kept (looked refl) refl refl in
        let phase : z.phase ≡ live = puts_phase (part_of k) (nat_lt 0 (sendable (part_of k))) ∙ in_phase in
        record {
          part = z;
          leads = leads_on judges l (state held x) (state new_held (part_of k)) (state new_held z)
              (subst (λ (v : Discovery). Leads judges l (state held x) (state new_held v)) same goes.leads)
              (puts_lead judges l new_held (part_of k) in_phase);
          agrees = agrees_same z y (sym is);
          so = subst (λ p. SteadyBy p z) (sym phase) steady;
        }
    ends_by false dead looked is = record {
      part = goes.part;
      leads = goes.leads;
      agrees = subst (Agrees goes.part) (sym is) goes.agrees;
      so = steady_dead goes.part.phase goes.part (λ lives. is_dead k dead (sym goes.agrees.phase ∙ lives)) goes.so;
    }

  pub last_settles : (l : ℕ) (held mid_held new_held : Seen J) (x : Discovery) (j k : Link) (y : Discovery) → is_live j.phase ≡ true
      → Goes judges l held x mid_held (part_of j) → Goes judges l mid_held (part_of j) new_held (part_of k)
      → Rests (part_of j) k.phase k.conn
      → y ≡ put_by (is_live k.phase) (part_of k) → Settles judges l held x new_held y
  last_settles l held mid_held new_held x j k y lives first next rests is fares =
      let fared = lives_on l held mid_held x j lives (first fares) in
      ends_by l held new_held x k y (goes_on l held mid_held new_held x j (part_of k) lives first next fares) (is_live k.phase) refl
      (rests fared) is

  -- before the first look
  pub begins : (l : ℕ) (held : Seen J) (k : Link) → is_live k.phase ≡ true → Goes judges l held (part_of k) held (part_of k)
  begins l held k lives fares = record {
    part = part_of k;
    leads = stays refl;
    agrees = agrees_same (part_of k) (part_of k) refl;
    so = subst (λ p. FaresBy p (part_of k)) (sym (live_is k.phase lives)) fares;
  }
