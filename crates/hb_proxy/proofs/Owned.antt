-- Whose each link is, in every run of the whole.
use Rattle.std.proofs.Common.{◌≡◌, ◌≢◌, ◌⊎◌, inl, inr, ⊎_elim, ℕ, ◌+◌, ◌<◌, ◌==◌, ◌||◌, Bool, true, false, cond, List, [], ◌∷◌, ◌++◌, fold, refl, ap, ap₂, sym, ◌∙◌, subst, arith}
use mathlib.Core.Path.{fun_ext}
use Rattle.std.proofs.lemmas.Grind.{fold-append}
use Rattle.std.proofs.lemmas.Bool.{cond_both, false≢true, eqb-true, eq-eqb, false_from_ne_true}
use Rattle.std.specs.List.{list_any}
use Rattle.hb_base.specs.declared.door.Door.{Door}
use Rattle.hb_base.specs.declared.door.Why.{Why}
use Rattle.hb_base.specs.declared.door.Why.TheVariants as whys
use Rattle.hb_base.specs.declared.target.Target.{Target}
use Rattle.hb_captured.specs.Captured as plain
use Rattle.hb_captured.specs.Captured.{Captured, is_raw}
use Rattle.hb_captured.specs.Part as captured
use Rattle.hb_captured.specs.Runs as relays
use Rattle.hb_gateway.specs.Gateway.{Gateway}
use Rattle.hb_gateway.specs.Key.{Key}
use Rattle.hb_gateway.specs.Part as gateway
use Rattle.hb_gateway.specs.Runs as gateways
use Rattle.hb_inbound.specs.Inbound as inbound
use Rattle.hb_inbound.specs.Inbound.{Inbound, at_stream}
use Rattle.hb_inbound.specs.Part as part
use Rattle.hb_inbound.specs.Part.{Part}
use Rattle.hb_inbound.specs.Runs as runs
use Rattle.hb_inbound.specs.Tunnel as tunnel
use Rattle.hb_inbound.specs.Tunnel.{Tunnel, Stage, up_entered}
use Rattle.hb_held.specs.Outcome.{after_response}
use Rattle.hb_inbound.proofs.Admitted.{KnowsBy, at_one}
use Rattle.hb_inbound.proofs.AdmittedRun.{all_admit}
use Rattle.hb_model.specs.Machine as control
use Rattle.hb_model.specs.Point as point
use Rattle.hb_model.specs.Runs as model
use Rattle.hb_model.specs.declared.config.NodeConfig.{NodeConfig}
use Rattle.hb_model.proofs.Grown.{IsBorn, one_more}
use Rattle.hb_world.specs.Trace.{is_birth}
use Rattle.hb_world.specs.declared.entry.Entry.{Entry}
use Rattle.hb_world.specs.declared.entry.Entry.TheVariants as e
use Rattle.hb_proxy.specs.Held.{at_start}
use Rattle.hb_proxy.specs.Machine.{Machine, fresh, local, plain_local, seen_by, plain_seen_by, gate_seen_by, with_control, with_part, with_plain, with_gate, with_stream, born_after, born_by}
use Rattle.hb_proxy.specs.Owners.{Owner, nobody, control_plane, inbound_link, upstream_of, plain_link, relay_of, gateway_link as gate_owner, at_door, dialled_for, owner_by, owner}
use Rattle.hb_proxy.specs.Points.{Point, of_control, of_link, of_plain, of_gate, of_stream, entry_in, entries, control_of, parts_of}
use Rattle.hb_proxy.specs.Runs.{BirthMayCome, ControlGuard, LinkGuard, PlainGuard, GateGuard, Steps, StandsFor, begins, goes_on}
use Rattle.hb_proxy.specs.Shared.{Shared, captured_part, gateway_part}
use Rattle.hb_proxy.proofs.ControlBorn.{control_stays}
use Rattle.hb_proxy.proofs.GateChanges.{is_gate_born, GateStays, stopped_stays as gate_stopped_stays, birth_at, gate_part_stays}
use Rattle.hb_proxy.proofs.Places.{short, birth_of}
use Rattle.hb_proxy.proofs.PlainDoors.{caught, relayed}
use Rattle.hb_proxy.proofs.PlainStays.{RelayOn, RelayBy, OwnsRelay, is_plain_born, PlainStays, same_plain, ends_stay, rejudged_stays, part_stays}
use Rattle.hb_proxy.proofs.Projection.{control_runs, links_run}
use Rattle.hb_proxy.proofs.StreamParts.{captured_none, gateway_none}
use Rattle.hb_proxy.proofs.Stays.{IsNone, IsWeak, OwnsBy, Owns, is_born, LinkStays, same_link, applied_stays, stopped_stays, step_stays}

-- each number that is above the last birth is nobody's; each link that is born is its part's, as is each tunnel's upstream; and an
-- upstream is of one stream, of a link that was accepted; so it is of plain links
pub record Owned (x : Machine) (whose : ℕ → Owner) : Type 0 where
  pub unborn : (n : ℕ) → x.born < n → whose n ≡ nobody
  pub none : whose 0 ≡ nobody
  pub control : (n : ℕ) → IsBorn (x.control.links n).phase → whose n ≡ control_plane
  pub link : (l : ℕ) → is_born (x.inbound l).phase ≡ true → whose l ≡ inbound_link
  pub up : (l s : ℕ) → Owns whose l s ((x.inbound l).tunnels s)
  pub one : (l s u v : ℕ) → whose u ≡ upstream_of l s → whose v ≡ upstream_of l s → u ≡ v
  pub over : (l s u : ℕ) → whose u ≡ upstream_of l s → whose l ≡ inbound_link
  pub plain : (l : ℕ) → is_plain_born (x.plain l).stage ≡ true → whose l ≡ plain_link
  pub relay : (l : ℕ) → OwnsRelay whose l (x.plain l)
  pub one_relay : (l u v : ℕ) → whose u ≡ relay_of l → whose v ≡ relay_of l → u ≡ v
  pub relay_over : (l u : ℕ) → whose u ≡ relay_of l → whose l ≡ plain_link
  pub gate : (n : ℕ) → is_gate_born (x.gates n).phase ≡ true → whose n ≡ gate_owner

-- NO BIRTH

pub record Alike (x y : Machine) : Type 0 where
  pub born : y.born ≡ x.born
  pub control : (n : ℕ) → IsBorn (y.control.links n).phase → IsBorn (x.control.links n).phase
  pub links : (l : ℕ) → LinkStays l (x.inbound l) (y.inbound l)
  pub plain : (l : ℕ) → PlainStays l (x.plain l) (y.plain l)
  pub gates : (n : ℕ) → GateStays (x.gates n).phase (y.gates n).phase

alike_owned : (x y : Machine) (whose : ℕ → Owner) → Owned x whose → Alike x y → Owned y whose
alike_owned x y whose owned alike = record {
  unborn = λ n above. owned.unborn n (subst (λ (b : ℕ). b < n) alike.born above);
  none = owned.none;
  control = λ n born. owned.control n (alike.control n born);
  link = λ l born. owned.link l ((alike.links l).born born);
  up = λ l s. (alike.links l).tunnels s whose (owned.up l s);
  one = owned.one;
  over = owned.over;
  plain = λ l born. owned.plain l ((alike.plain l).born born);
  relay = λ l. (alike.plain l).relay whose (owned.relay l);
  one_relay = owned.one_relay;
  relay_over = owned.relay_over;
  gate = λ n born. owned.gate n (alike.gates n born);
}

-- A BIRTH

module _ (x y : Machine) (whose : ℕ → Owner) (owned : Owned x whose) (k : ℕ) (next : k ≡ x.born + 1) (w : Owner)
    (is_born_now : y.born ≡ k) where
  -- whose each link is then
  abbrev then : ℕ → Owner
  then n = cond (k == n) w (whose n)

  new_is : whose k ≡ nobody
  new_is = owned.unborn k (omega (arith, next))

  here : (n : ℕ) → k ≡ n → then n ≡ w
  here n is = ap (λ (b : Bool). cond b w (whose n)) (eq-eqb k n is)

  there : (n : ℕ) → (k ≡ n → ⊥) → then n ≡ whose n
  there n apart = ap (λ (b : Bool). cond b w (whose n)) (false_from_ne_true (k == n) (λ is. apart (eqb-true k n is)))

  -- what is somebody's stays so
  kept : (n : ℕ) (o : Owner) → (nobody ≡ o → ⊥) → whose n ≡ o → then n ≡ o
  kept n o some is = there n (λ same. some (sym new_is ∙ ap whose same ∙ is)) ∙ is

  -- whose a link is now it was before, or it is the new one
  was : (n : ℕ) (o : Owner) → then n ≡ o → ((k ≡ n) × (w ≡ o)) ⊎ (whose n ≡ o)
  was n o =
      cond_both (k == n) w (whose n) (λ z. z ≡ o → ((k ≡ n) × (w ≡ o)) ⊎ (whose n ≡ o))
      (λ same is. inl (eqb-true k n same, is)) (λ apart is. inr is)

  -- links that are one owner's stay one
  one : (o : Owner) → ((v : ℕ) → w ≡ o → whose v ≢ o) → ((u v : ℕ) → whose u ≡ o → whose v ≡ o → u ≡ v) → (u v : ℕ) → then u ≡ o
      → then v ≡ o → u ≡ v
  one o alone old u v is other = by (was u o is) (was v o other)
    where
      by : ((k ≡ u) × (w ≡ o)) ⊎ (whose u ≡ o) → ((k ≡ v) × (w ≡ o)) ⊎ (whose v ≡ o) → u ≡ v
      by (inl a) (inl b) = sym a.0 ∙ b.0
      by (inl a) (inr b) = absurd (alone v a.1 b)
      by (inr a) (inl b) = absurd (alone u b.1 a)
      by (inr a) (inr b) = old u v a b

  -- what the birth makes of the links
  record Bears : Type 0 where
    control : (n : ℕ) → IsBorn (y.control.links n).phase → ((k ≡ n) × (w ≡ control_plane)) ⊎ IsBorn (x.control.links n).phase
    link : (l : ℕ) → is_born (y.inbound l).phase ≡ true → ((k ≡ l) × (w ≡ inbound_link)) ⊎ (is_born (x.inbound l).phase ≡ true)
    up : (l s : ℕ) → Owns then l s ((y.inbound l).tunnels s)
    alone : (l s v : ℕ) → w ≡ upstream_of l s → whose v ≢ upstream_of l s
    over : (l s : ℕ) → w ≡ upstream_of l s → whose l ≡ inbound_link
    plain : (l : ℕ) → is_plain_born (y.plain l).stage ≡ true
        → ((k ≡ l) × (w ≡ plain_link)) ⊎ (is_plain_born (x.plain l).stage ≡ true)
    relay : (l : ℕ) → OwnsRelay then l (y.plain l)
    relay_alone : (l v : ℕ) → w ≡ relay_of l → whose v ≢ relay_of l
    relay_over : (l : ℕ) → w ≡ relay_of l → whose l ≡ plain_link
    gate : (n : ℕ) → is_gate_born (y.gates n).phase ≡ true → ((k ≡ n) × (w ≡ gate_owner)) ⊎ (is_gate_born (x.gates n).phase ≡ true)

  born_owned : Bears → Owned y then
  born_owned bears = record {
    unborn = λ n above. there n (λ same. omega (arith, above, is_born_now, same))
        ∙ owned.unborn n (omega (arith, above, is_born_now, next));
    none = there 0 (λ same. omega (arith, same, next)) ∙ owned.none;
    control = λ n born.
        ⊎_elim (λ h. here n h.0 ∙ h.1) (λ old. kept n control_plane (λ same. cc) (owned.control n old)) (bears.control n born);
    link = λ l born. ⊎_elim (λ h. here l h.0 ∙ h.1) (λ old. kept l inbound_link (λ same. cc) (owned.link l old)) (bears.link l born);
    up = bears.up;
    one = λ l s. one (upstream_of l s) (bears.alone l s) (owned.one l s);
    over = λ l s u is. kept l inbound_link (λ same. cc)
        (⊎_elim (λ h. bears.over l s h.1) (λ old. owned.over l s u old) (was u (upstream_of l s) is));
    plain = λ l born. ⊎_elim (λ h. here l h.0 ∙ h.1) (λ old. kept l plain_link (λ same. cc) (owned.plain l old)) (bears.plain l born);
    relay = bears.relay;
    one_relay = λ l. one (relay_of l) (bears.relay_alone l) (owned.one_relay l);
    relay_over = λ l u is. kept l plain_link (λ same. cc)
        (⊎_elim (λ h. bears.relay_over l h.1) (λ old. owned.relay_over l u old) (was u (relay_of l) is));
    gate = λ n born. ⊎_elim (λ h. here n h.0 ∙ h.1) (λ old. kept n gate_owner (λ same. cc) (owned.gate n old)) (bears.gate n born);
  }

  -- nobody has a link of another's owner then; what was weakly his stays so
  no_more : (o : Owner) → (w ≢ o) → IsNone whose o → IsNone then o
  no_more o other none u now = ⊎_elim (λ h. other h.1) (λ old. none u old) (was u o now)

  weak : (o : Owner) (u : ℕ) → (nobody ≡ o → ⊥) → IsWeak whose o u → IsWeak then o u
  weak o u some (inl zero_up) = inl zero_up
  weak o u some (inr mine) = inr (kept u o some mine)

  -- a tunnel has the upstream that it had, where the new link is no upstream of its stream
  keeps_up : (l s : ℕ) (t : Tunnel) → (w ≢ upstream_of l s) → Owns whose l s t → Owns then l s t
  keeps_up l s t other is = by t.stage is
    where
      by : (stage : Stage) → OwnsBy stage whose l s t.up → OwnsBy stage then l s t.up
      by tunnel.unasked is = (no_more (upstream_of l s) other is.0, is.1)
      by (tunnel.requested headers end) is = (no_more (upstream_of l s) other is.0, is.1)
      by tunnel.due is = (no_more (upstream_of l s) other is.0, is.1)
      by (tunnel.refusing status target) is = weak (upstream_of l s) t.up (λ same. cc) is
      by tunnel.malformed is = weak (upstream_of l s) t.up (λ same. cc) is
      by (tunnel.failed why) is = weak (upstream_of l s) t.up (λ same. cc) is
      by tunnel.gone is = weak (upstream_of l s) t.up (λ same. cc) is
      by tunnel.opening is = kept t.up (upstream_of l s) (λ same. cc) is
      by tunnel.accepting is = kept t.up (upstream_of l s) (λ same. cc) is
      by tunnel.live is = kept t.up (upstream_of l s) (λ same. cc) is
      by (tunnel.ended why) is = kept t.up (upstream_of l s) (λ same. cc) is
      by (tunnel.over why) is = kept t.up (upstream_of l s) (λ same. cc) is

  -- so has a plain link
  keeps_on : (l u : ℕ) (raw : Bool) → (w ≢ relay_of l) → RelayOn raw whose l u → RelayOn raw then l u
  keeps_on l u true other is = kept u (relay_of l) (λ same. cc) is
  keeps_on l u false other is = (no_more (relay_of l) other is.0, is.1)

  keeps_relay : (l : ℕ) (z : Captured) → (w ≢ relay_of l) → OwnsRelay whose l z → OwnsRelay then l z
  keeps_relay l z other is = by z.stage is
    where
      by : (stage : plain.Stage) → RelayBy stage (is_raw z) whose l z.up → RelayBy stage (is_raw z) then l z.up
      by plain.unborn is = (no_more (relay_of l) other is.0, is.1, is.2)
      by plain.arriving is = (no_more (relay_of l) other is.0, is.1, is.2)
      by plain.fronting is = (no_more (relay_of l) other is.0, is.1, is.2)
      by plain.due is = (no_more (relay_of l) other is.0, is.1, is.2)
      by plain.opening is = keeps_on l z.up (is_raw z) other is
      by plain.accepting is = keeps_on l z.up (is_raw z) other is
      by plain.live is = keeps_on l z.up (is_raw z) other is
      by _ is = weak (relay_of l) z.up (λ same. cc) is

-- THE BIRTHS

-- a tunnel is due on a link that is born alone
due_born : (parts : List Part) (x : Inbound) (s : ℕ) (phase : inbound.Phase) → KnowsBy phase parts x → (x.tunnels s).stage ≡ tunnel.due
    → is_born phase ≡ true
due_born parts x s inbound.unborn knows is = absurd (let no : tunnel.unasked ≡ tunnel.due = sym (knows s) ∙ is in cc)
due_born parts x s inbound.arriving knows is = refl
due_born parts x s inbound.fronting knows is = refl
due_born parts x s inbound.serving knows is = refl
due_born parts x s (inbound.faulted code) knows is = refl
due_born parts x s (inbound.closing why) knows is = refl
due_born parts x s inbound.closed knows is = refl

module _ (g : NodeConfig) (x : Machine) (whose : ℕ → Owner) (owned : Owned x whose) where
  -- whose each link is behind an entry
  abbrev behind : Entry → ℕ → Owner
  behind z n = owner_by n (whose n) z

  control_dialled : (k : ℕ) (to : Target) (why : Why) (m : control.Machine) → model.Steps g x.control (point.entry (e.Dialled k to why)) m
      → k ≡ x.born + 1 → Owned (with_control (point.entry (e.Dialled k to why)) m x) (behind (e.Dialled k to why))
  control_dialled k to why m steps next =
      let w = dialled_for why in
      let mine : w ≡ control_plane = ap dialled_for steps.0.3 in
      let y = with_control (point.entry (e.Dialled k to why)) m x in
      let no_up : (l s : ℕ) → w ≢ upstream_of l s = λ l s is. (let no : control_plane ≡ upstream_of l s = sym mine ∙ is in cc) in
      let no_relay : (l : ℕ) → w ≢ relay_of l = λ l is. (let no : control_plane ≡ relay_of l = sym mine ∙ is in cc) in
      born_owned x y whose owned k next w refl (record {
        control = λ n.
            subst (λ (c : control.Machine). IsBorn (c.links n).phase → ((k ≡ n) × (w ≡ control_plane)) ⊎ IsBorn (x.control.links n).phase)
            (sym steps.1)
            (cond_both (k == n) (control.dialled_for g.id to x.control.held why (x.control.links n)) (x.control.links n)
            (λ d. IsBorn d.phase → ((k ≡ n) × (w ≡ control_plane)) ⊎ IsBorn (x.control.links n).phase)
            (λ is now. inl (eqb-true k n is, mine)) (λ apart was. inr was));
        link = λ l was. inr was;
        up = λ l s. keeps_up x y whose owned k next w refl l s ((x.inbound l).tunnels s) (no_up l s) (owned.up l s);
        alone = λ l s v is. absurd (no_up l s is);
        over = λ l s is. absurd (no_up l s is);
        plain = λ l was. inr was;
        relay = λ l. keeps_relay x y whose owned k next w refl l (x.plain l) (no_relay l) (owned.relay l);
        relay_alone = λ l v is. absurd (no_relay l is);
        relay_over = λ l is. absurd (no_relay l is);
        gate = λ n was. inr was;
      })

  link_accepted : (l k : ℕ) (d : Door) (next : Inbound)
      → runs.Steps l (local x l) (part.entry (e.Accepted k d)) (runs.with_link next (local x l))
      → k ≡ x.born + 1 → Owned (with_part l (part.entry (e.Accepted k d)) next x) (behind (e.Accepted k d))
  link_accepted l k d next steps number =
      let w = at_door d in
      let mine : w ≡ inbound_link = ap at_door steps.0.2 in
      let y = with_part l (part.entry (e.Accepted k d)) next x in
      let no_up : (j s : ℕ) → w ≢ upstream_of j s = λ j s is. (let no : inbound_link ≡ upstream_of j s = sym mine ∙ is in cc) in
      let no_relay : (j : ℕ) → w ≢ relay_of j = λ j is. (let no : inbound_link ≡ relay_of j = sym mine ∙ is in cc) in
      let is_next : next ≡ inbound.with_phase inbound.arriving (x.inbound l) = ap (λ (c : runs.Local). c.link) steps.1 in
      born_owned x y whose owned k number w refl (record {
        control = λ n was. inr was;
        link = λ j. cond_both (j == l) next (x.inbound j)
            (λ z. is_born z.phase ≡ true → ((k ≡ j) × (w ≡ inbound_link)) ⊎ (is_born (x.inbound j).phase ≡ true))
            (λ is now. inl (steps.0.0 ∙ sym (eqb-true j l is), mine)) (λ apart was. inr was);
        up = λ j s. cond_both (j == l) next (x.inbound j) (λ z. Owns (λ n. behind (e.Accepted k d) n) j s (z.tunnels s))
            (λ is. subst (λ (z : Inbound). Owns (λ n. behind (e.Accepted k d) n) j s (z.tunnels s)) (sym is_next)
            (subst (λ (i : ℕ). Owns (λ n. behind (e.Accepted k d) n) j s ((x.inbound i).tunnels s)) (eqb-true j l is)
            (keeps_up x y whose owned k number w refl j s ((x.inbound j).tunnels s) (no_up j s) (owned.up j s))))
            (λ apart. keeps_up x y whose owned k number w refl j s ((x.inbound j).tunnels s) (no_up j s) (owned.up j s));
        alone = λ j s v is. absurd (no_up j s is);
        over = λ j s is. absurd (no_up j s is);
        plain = λ j was. inr was;
        relay = λ j. keeps_relay x y whose owned k number w refl j (x.plain j) (no_relay j) (owned.relay j);
        relay_alone = λ j v is. absurd (no_relay j is);
        relay_over = λ j is. absurd (no_relay j is);
        gate = λ n was. inr was;
      })

  up_dialled : (l s u : ℕ) (to : Target) (why : Why) (next : Inbound)
      → runs.Steps l (local x l) (part.up s (e.Dialled u to why)) (runs.with_link next (local x l))
      → is_born (x.inbound l).phase ≡ true → u ≡ x.born + 1
      → Owned (with_part l (part.up s (e.Dialled u to why)) next x) (behind (e.Dialled u to why))
  up_dialled l s u to why next steps lives number =
      let z = e.Dialled u to why in
      let w = dialled_for why in
      let mine : w ≡ upstream_of l s = ap dialled_for steps.0.4 in
      let y = with_part l (part.up s z) next x in
      let is_next : next ≡ at_stream s (up_entered z) (x.inbound l) = ap (λ (c : runs.Local). c.link) steps.1 in
      let same : (j t : ℕ) → w ≡ upstream_of j t → (l ≡ j) × (s ≡ t) =
      λ j t is. (let both : upstream_of l s ≡ upstream_of j t = sym mine ∙ is in ((let a : l ≡ j = cc in a), (let b : s ≡ t = cc in b))) in
      let no_relay : (j : ℕ) → w ≢ relay_of j = λ j is. (let no : upstream_of l s ≡ relay_of j = sym mine ∙ is in cc) in
      let due = subst (λ (stage : Stage). OwnsBy stage whose l s ((x.inbound l).tunnels s).up) steps.0.1 (owned.up l s) in
      let keeps : (j t : ℕ) → (w ≢ upstream_of j t) → Owns (behind z) j t ((x.inbound j).tunnels t) =
      λ j t other. keeps_up x y whose owned u number w refl j t ((x.inbound j).tunnels t) other (owned.up j t) in
      let here_now : behind z u ≡ upstream_of l s = here x y whose owned u number w refl u refl ∙ mine in
      born_owned x y whose owned u number w refl (record {
        control = λ n was. inr was;
        link = λ j. cond_both (j == l) next (x.inbound j)
            (λ v. is_born v.phase ≡ true → ((u ≡ j) × (w ≡ inbound_link)) ⊎ (is_born (x.inbound j).phase ≡ true))
            (λ is now. inr (subst (λ (i : ℕ). is_born (x.inbound i).phase ≡ true) (sym (eqb-true j l is)) lives))
            (λ apart was. inr was);
        up = λ j t. cond_both (j == l) next (x.inbound j) (λ v. Owns (behind z) j t (v.tunnels t))
            (λ is. subst (λ (i : ℕ). Owns (behind z) i t (next.tunnels t)) (sym (eqb-true j l is))
            (subst (λ (v : Inbound). Owns (behind z) l t (v.tunnels t)) (sym is_next)
            (at_one s (up_entered z) (x.inbound l) (λ k v. Owns (behind z) l k v) here_now
            (λ k apart. keeps l k (λ is. absurd (false≢true (sym apart ∙ eq-eqb k s (sym (same l k is).1))))) t)))
            (λ apart. keeps j t (λ is. absurd (false≢true (sym apart ∙ eq-eqb j l (sym (same j t is).0)))));
        alone = λ j t v is now. due.0 v (now ∙ ap₂ upstream_of (sym (same j t is).0) (sym (same j t is).1));
        over = λ j t is. owned.link j (subst (λ (i : ℕ). is_born (x.inbound i).phase ≡ true) (same j t is).0 lives);
        plain = λ j was. inr was;
        relay = λ j. keeps_relay x y whose owned u number w refl j (x.plain j) (no_relay j) (owned.relay j);
        relay_alone = λ j v is. absurd (no_relay j is);
        relay_over = λ j is. absurd (no_relay j is);
        gate = λ n was. inr was;
      })

  plain_accepted : (l k : ℕ) (d : Door) → relays.MayCome l (x.plain l) (e.Accepted k d) → k ≡ x.born + 1
      → Owned (with_plain l (captured.entry (e.Accepted k d)) (plain.entered (e.Accepted k d) (x.plain l)) x) (behind (e.Accepted k d))
  plain_accepted l k d may number =
      let w = at_door d in
      let mine : w ≡ plain_link = caught d may.2 in
      let next = plain.entered (e.Accepted k d) (x.plain l) in
      let y = with_plain l (captured.entry (e.Accepted k d)) next x in
      let no_up : (j s : ℕ) → w ≢ upstream_of j s = λ j s is. (let no : plain_link ≡ upstream_of j s = sym mine ∙ is in cc) in
      let no_relay : (j : ℕ) → w ≢ relay_of j = λ j is. (let no : plain_link ≡ relay_of j = sym mine ∙ is in cc) in
      let none = subst (λ (stage : plain.Stage). RelayBy stage (is_raw (x.plain l)) whose l (x.plain l).up) may.1 (owned.relay l) in
      born_owned x y whose owned k number w refl (record {
        control = λ n was. inr was;
        link = λ j was. inr was;
        up = λ j s. keeps_up x y whose owned k number w refl j s ((x.inbound j).tunnels s) (no_up j s) (owned.up j s);
        alone = λ j s v is. absurd (no_up j s is);
        over = λ j s is. absurd (no_up j s is);
        plain = λ j. cond_both (j == l) next (x.plain j)
            (λ z. is_plain_born z.stage ≡ true → ((k ≡ j) × (w ≡ plain_link)) ⊎ (is_plain_born (x.plain j).stage ≡ true))
            (λ is now. inl (may.0 ∙ sym (eqb-true j l is), mine)) (λ apart was. inr was);
        relay = λ j. cond_both (j == l) next (x.plain j) (λ z. OwnsRelay (behind (e.Accepted k d)) j z)
            (λ is. subst (λ (i : ℕ). OwnsRelay (behind (e.Accepted k d)) i next) (sym (eqb-true j l is))
            (no_more x y whose owned k number w refl (relay_of l) (no_relay l) none.0, none.1, none.2))
            (λ apart. keeps_relay x y whose owned k number w refl j (x.plain j) (no_relay j) (owned.relay j));
        relay_alone = λ j v is. absurd (no_relay j is);
        relay_over = λ j is. absurd (no_relay j is);
        gate = λ n was. inr was;
      })

  relay_dialled : (l u : ℕ) (to : Target) (why : Why) → relays.UpMayCome l (x.plain l) (e.Dialled u to why) → u ≡ x.born + 1
      → Owned (with_plain l (captured.up (e.Dialled u to why)) (plain.up_entered (e.Dialled u to why) (x.plain l)) x)
      (behind (e.Dialled u to why))
  relay_dialled l u to why may number =
      let z = e.Dialled u to why in
      let w = dialled_for why in
      let mine : w ≡ relay_of l = relayed l (x.plain l) why may.1 may.0.3 in
      let next = plain.up_entered z (x.plain l) in
      let y = with_plain l (captured.up z) next x in
      let no_up : (j s : ℕ) → w ≢ upstream_of j s = λ j s is. (let no : relay_of l ≡ upstream_of j s = sym mine ∙ is in cc) in
      let same : (j : ℕ) → w ≡ relay_of j → l ≡ j = λ j is. (let both : relay_of l ≡ relay_of j = sym mine ∙ is in cc) in
      let lives : is_plain_born (x.plain l).stage ≡ true = ap is_plain_born may.0.1 in
      let due = subst (λ (stage : plain.Stage). RelayBy stage (is_raw (x.plain l)) whose l (x.plain l).up) may.0.1 (owned.relay l) in
      born_owned x y whose owned u number w refl (record {
        control = λ n was. inr was;
        link = λ j was. inr was;
        up = λ j s. keeps_up x y whose owned u number w refl j s ((x.inbound j).tunnels s) (no_up j s) (owned.up j s);
        alone = λ j s v is. absurd (no_up j s is);
        over = λ j s is. absurd (no_up j s is);
        plain = λ j. cond_both (j == l) next (x.plain j)
            (λ v. is_plain_born v.stage ≡ true → ((u ≡ j) × (w ≡ plain_link)) ⊎ (is_plain_born (x.plain j).stage ≡ true))
            (λ is now. inr (subst (λ (i : ℕ). is_plain_born (x.plain i).stage ≡ true) (sym (eqb-true j l is)) lives))
            (λ apart was. inr was);
        relay = λ j. cond_both (j == l) next (x.plain j) (λ v. OwnsRelay (behind z) j v)
            (λ is. subst (λ (i : ℕ). OwnsRelay (behind z) i next) (sym (eqb-true j l is))
            (subst (λ (raw : Bool). RelayOn raw (behind z) l u) (sym due.2) (here x y whose owned u number w refl u refl ∙ mine)))
            (λ apart. keeps_relay x y whose owned u number w refl j (x.plain j)
            (λ is. false≢true (sym apart ∙ eq-eqb j l (sym (same j is)))) (owned.relay j));
        relay_alone = λ j v is now. due.0 v (now ∙ ap relay_of (sym (same j is)));
        relay_over = λ j is. owned.plain j (subst (λ (i : ℕ). is_plain_born (x.plain i).stage ≡ true) (same j is) lives);
        gate = λ n was. inr was;
      })

  gate_dialled : (n k : ℕ) (to : Target) (a : ℕ) (key : Key) (next : Gateway) → k ≡ n → k ≡ x.born + 1
      → Owned (with_gate n (gateway.dialled (e.Dialled k to (whys.Gateway a)) key) next x) (behind (e.Dialled k to (whys.Gateway a)))
  gate_dialled n k to a key next at_n number =
      let w = gate_owner in
      let y = with_gate n (gateway.dialled (e.Dialled k to (whys.Gateway a)) key) next x in
      let no_up : (l s : ℕ) → w ≢ upstream_of l s = λ l s is. cc in
      let no_relay : (l : ℕ) → w ≢ relay_of l = λ l is. cc in
      born_owned x y whose owned k number w refl (record {
        control = λ n was. inr was;
        link = λ l was. inr was;
        up = λ l s. keeps_up x y whose owned k number w refl l s ((x.inbound l).tunnels s) (no_up l s) (owned.up l s);
        alone = λ l s v is. absurd (no_up l s is);
        over = λ l s is. absurd (no_up l s is);
        plain = λ l was. inr was;
        relay = λ l. keeps_relay x y whose owned k number w refl l (x.plain l) (no_relay l) (owned.relay l);
        relay_alone = λ l v is. absurd (no_relay l is);
        relay_over = λ l is. absurd (no_relay l is);
        gate = λ j. cond_both (j == n) next (x.gates j)
            (λ z. is_gate_born z.phase ≡ true → ((k ≡ j) × (w ≡ gate_owner)) ⊎ (is_gate_born (x.gates j).phase ≡ true))
            (λ is now. inl (at_n ∙ sym (eqb-true j n is), refl)) (λ apart was. inr was);
      })

-- EVERY POINT

-- what a point tells of births
pub whose_one : (points : List Point) (p : Point) (n : ℕ)
    → owner n (entries (points ++ p ∷ [])) ≡ fold (owner_by n) (owner n (entries points)) (entry_in p)
whose_one points p n =
    ap (λ (t : List Entry). owner n t) (one_more entry_in points p) ∙ fold-append (owner_by n) nobody (entries points) (entry_in p)

-- whose each link is behind a point
abbrev pub after : Point → (ℕ → Owner) → ℕ → Owner
after p whose n = fold (owner_by n) (whose n) (entry_in p)

-- an entry that is no birth leaves each link its owner, and the number of the last birth
unborn_by : (z : Entry) → is_birth z ≡ false → (n : ℕ) (o : Owner) → owner_by n o z ≡ o
unborn_by (e.Accepted k d) none n o = absurd (false≢true (sym none))
unborn_by (e.Dialled k to why) none n o = absurd (false≢true (sym none))
unborn_by _ none n o = refl

born_same : (z : Entry) → is_birth z ≡ false → (born : ℕ) → born_by born z ≡ born
born_same (e.Accepted k d) none born = absurd (false≢true (sym none))
born_same (e.Dialled k to why) none born = absurd (false≢true (sym none))
born_same _ none born = refl

neither : (b c : Bool) → (b || c) ≡ false → (b ≡ false) × (c ≡ false)
neither true c is = absurd (false≢true (sym is))
neither false c is = (refl, is)

unborn_all : (es : List Entry) → list_any is_birth es ≡ false → (n : ℕ) (o : Owner) → fold (owner_by n) o es ≡ o
unborn_all [] none n o = refl
unborn_all (z ∷ es) none n o =
    let both = neither (is_birth z) (list_any is_birth es) none in
    ap (λ (v : Owner). fold (owner_by n) v es) (unborn_by z both.0 n o) ∙ unborn_all es both.1 n o

born_all : (es : List Entry) → list_any is_birth es ≡ false → (born : ℕ) → born_after born es ≡ born
born_all [] none born = refl
born_all (z ∷ es) none born =
    let both = neither (is_birth z) (list_any is_birth es) none in
    ap (λ (b : ℕ). born_after b es) (born_same z both.0 born) ∙ born_all es both.1 born

module _ (g : NodeConfig) (x : Machine) (points : List Point) (stands : StandsFor g x points) (whose : ℕ → Owner)
    (owned : Owned x whose) where
  seen_stays : (q : point.Point) (l : ℕ) → LinkStays l (x.inbound l) (seen_by x.control.held q (x.inbound l))
  seen_stays (point.applied k r) l = applied_stays l (after_response x.control.held r) (x.inbound l)
  seen_stays (point.stopped why) l = stopped_stays l why (x.inbound l)
  seen_stays _ l = same_link l (x.inbound l)

  plain_seen_stays : (q : point.Point) (l : ℕ) → PlainStays l (x.plain l) (plain_seen_by x.control.held q (x.plain l))
  plain_seen_stays (point.applied k r) l = rejudged_stays l (after_response x.control.held r) (x.plain l)
  plain_seen_stays (point.stopped why) l = ends_stay l why (x.plain l)
  plain_seen_stays _ l = same_plain l (x.plain l)

  gate_seen_stays : (q : point.Point) (n : ℕ) → GateStays (x.gates n).phase (gate_seen_by q (x.gates n)).phase
  gate_seen_stays (point.stopped why) n is = gate_stopped_stays why (x.gates n).phase is
  gate_seen_stays _ n is = is

  quiet : (p : Point) (y : Machine) → list_any is_birth (entry_in p) ≡ false → Alike x y → Owned y (after p whose)
  quiet p y none alike =
      subst (Owned y) (sym (fun_ext (λ n. unborn_all (entry_in p) none n (whose n)))) (alike_owned x y whose owned alike)

  control_quiet : (q : point.Point) (m : control.Machine) → model.Steps g x.control q m → list_any is_birth (point.entry_in q) ≡ false
      → Owned (with_control q m x) (after (of_control q) whose)
  control_quiet q m steps none = quiet (of_control q) (with_control q m x) none (record {
    born = born_all (point.entry_in q) none x.born;
    control = control_stays g x.control m (control_of points) q (control_runs g x points stands) steps none;
    links = seen_stays q;
    plain = plain_seen_stays q;
    gates = gate_seen_stays q;
  })

  link_quiet : (l : ℕ) (p : Part) (next : Inbound) → runs.Steps l (local x l) p (runs.with_link next (local x l))
      → list_any is_birth (part.entry_in p) ≡ false → Owned (with_part l p next x) (after (of_link l p) whose)
  link_quiet l p next steps none = quiet (of_link l p) (with_part l p next x) none (record {
    born = born_all (part.entry_in p) none x.born;
    control = λ n was. was;
    links = λ j. cond_both (j == l) next (x.inbound j) (λ z. LinkStays j (x.inbound j) z)
        (λ is. subst (λ (i : ℕ). LinkStays i (x.inbound i) next) (sym (eqb-true j l is))
        (step_stays l (at_start g) (local x l) (parts_of l points) (links_run g x points l stands) p
        (runs.with_link next (local x l)) steps none)) (λ apart. same_link j (x.inbound j));
    plain = λ j. same_plain j (x.plain j);
    gates = λ n is. is;
  })

  -- a plain link changes; so does a link to a gateway
  one_plain : (l : ℕ) (p : captured.Part) → relays.MayGo l (plain_local x l) p → list_any is_birth (captured.entry_in p) ≡ false → (j : ℕ)
      → PlainStays j (x.plain j) (cond (j == l) (relays.next_link (x.plain l) p) (x.plain j))
  one_plain l p may none j =
      cond_both (j == l) (relays.next_link (x.plain l) p) (x.plain j) (λ z. PlainStays j (x.plain j) z)
      (λ is. subst (λ (i : ℕ). PlainStays i (x.plain i) (relays.next_link (x.plain l) p)) (sym (eqb-true j l is))
      (part_stays l (plain_local x l) p may none)) (λ apart. same_plain j (x.plain j))

  one_gate : (n : ℕ) (p : gateway.Part) (next : Gateway) → gateways.Steps n (x.gates n) p next
      → list_any is_birth (gateway.entry_in p) ≡ false → (j : ℕ) → GateStays (x.gates j).phase (cond (j == n) next (x.gates j)).phase
  one_gate n p next steps none j =
      cond_both (j == n) next (x.gates j) (λ z. GateStays (x.gates j).phase z.phase)
      (λ is. subst (λ (i : ℕ). GateStays (x.gates i).phase next.phase) (sym (eqb-true j n is))
      (gate_part_stays n (x.gates n) next p steps none)) (λ apart is. is)

  plain_quiet : (l : ℕ) (p : captured.Part) → relays.MayGo l (plain_local x l) p → list_any is_birth (captured.entry_in p) ≡ false
      → Owned (with_plain l p (relays.next_link (x.plain l) p) x) (after (of_plain l p) whose)
  plain_quiet l p may none = quiet (of_plain l p) (with_plain l p (relays.next_link (x.plain l) p) x) none (record {
    born = born_all (captured.entry_in p) none x.born;
    control = λ n was. was;
    links = λ j. same_link j (x.inbound j);
    plain = one_plain l p may none;
    gates = λ n is. is;
  })

  gate_quiet : (n : ℕ) (p : gateway.Part) (next : Gateway) → gateways.Steps n (x.gates n) p next
      → list_any is_birth (gateway.entry_in p) ≡ false → Owned (with_gate n p next x) (after (of_gate n p) whose)
  gate_quiet n p next steps none = quiet (of_gate n p) (with_gate n p next x) none (record {
    born = born_all (gateway.entry_in p) none x.born;
    control = λ k was. was;
    links = λ j. same_link j (x.inbound j);
    plain = λ j. same_plain j (x.plain j);
    gates = one_gate n p next steps none;
  })

  stream_quiet : (l n s : ℕ) (w : Shared) (next : Gateway) → relays.MayGo l (plain_local x l) (captured_part n s w)
      → gateways.Steps n (x.gates n) (gateway_part l s w) next
      → Owned (with_stream l n (relays.next_link (x.plain l) (captured_part n s w)) next x) (after (of_stream l n s w) whose)
  stream_quiet l n s w next may steps =
      quiet (of_stream l n s w) (with_stream l n (relays.next_link (x.plain l) (captured_part n s w)) next x) refl (record {
        born = refl;
        control = λ k was. was;
        links = λ j. same_link j (x.inbound j);
        plain = one_plain l (captured_part n s w) may (ap (list_any is_birth) (captured_none n s w));
        gates = one_gate n (gateway_part l s w) next steps (ap (list_any is_birth) (gateway_none l s w));
      })

  control_entry : (z : Entry) (m : control.Machine) → model.Steps g x.control (point.entry z) m → BirthMayCome x z
      → Owned (with_control (point.entry z) m x) (after (of_control (point.entry z)) whose)
  control_entry (e.Accepted k d) m steps birth = absurd steps.0
  control_entry (e.Dialled k to why) m steps birth = control_dialled g x whose owned k to why m steps birth
  control_entry z m steps birth = control_quiet (point.entry z) m steps refl

  control_owned : (q : point.Point) (m : control.Machine) → model.Steps g x.control q m → ControlGuard x q
      → Owned (with_control q m x) (after (of_control q) whose)
  control_owned (point.entry z) m steps guard = control_entry z m steps guard.birth
  control_owned q m steps guard = control_quiet q m steps refl

  link_entry : (l : ℕ) (z : Entry) (next : Inbound) → runs.Steps l (local x l) (part.entry z) (runs.with_link next (local x l))
      → BirthMayCome x z → Owned (with_part l (part.entry z) next x) (after (of_link l (part.entry z)) whose)
  link_entry l (e.Accepted k d) next steps birth = link_accepted g x whose owned l k d next steps birth.0
  link_entry l (e.Dialled k to why) next steps birth = absurd steps.0
  link_entry l z next steps birth = link_quiet l (part.entry z) next steps refl

  up_entry : (l s : ℕ) (z : Entry) (next : Inbound) → runs.Steps l (local x l) (part.up s z) (runs.with_link next (local x l))
      → BirthMayCome x z → Owned (with_part l (part.up s z) next x) (after (of_link l (part.up s z)) whose)
  up_entry l s (e.Accepted k d) next steps birth = absurd steps.0
  up_entry l s (e.Dialled u to why) next steps birth =
      up_dialled g x whose owned l s u to why next steps
      (due_born (parts_of l points) (x.inbound l) s (x.inbound l).phase
      (all_admit l (at_start g) (local x l) (parts_of l points) (links_run g x points l stands)).knows steps.0.1) birth
  up_entry l s z next steps birth = link_quiet l (part.up s z) next steps refl

  link_owned : (l : ℕ) (p : Part) (next : Inbound) → runs.Steps l (local x l) p (runs.with_link next (local x l)) → LinkGuard g x l p
      → Owned (with_part l p next x) (after (of_link l p) whose)
  link_owned l (part.entry z) next steps guard = link_entry l z next steps guard.birth
  link_owned l (part.up s z) next steps guard = up_entry l s z next steps guard.birth
  link_owned l p next steps guard = link_quiet l p next steps refl

  plain_entry : (l : ℕ) (z : Entry) → relays.MayCome l (x.plain l) z → BirthMayCome x z
      → Owned (with_plain l (captured.entry z) (plain.entered z (x.plain l)) x) (after (of_plain l (captured.entry z)) whose)
  plain_entry l (e.Accepted k d) may birth = plain_accepted g x whose owned l k d may birth.0
  plain_entry l (e.Dialled k to why) may birth = absurd may
  plain_entry l z may birth = plain_quiet l (captured.entry z) may refl

  relay_entry : (l : ℕ) (z : Entry) → relays.UpMayCome l (x.plain l) z → BirthMayCome x z
      → Owned (with_plain l (captured.up z) (plain.up_entered z (x.plain l)) x) (after (of_plain l (captured.up z)) whose)
  relay_entry l (e.Accepted k d) may birth = absurd may
  relay_entry l (e.Dialled u to why) may birth = relay_dialled g x whose owned l u to why may birth
  relay_entry l z may birth = plain_quiet l (captured.up z) may refl

  plain_owned : (l : ℕ) (p : captured.Part) → relays.MayGo l (plain_local x l) p → PlainGuard g x l p
      → Owned (with_plain l p (relays.next_link (x.plain l) p) x) (after (of_plain l p) whose)
  plain_owned l (captured.entry z) may guard = plain_entry l z may guard.birth
  plain_owned l (captured.up z) may guard = relay_entry l z may guard.0.birth
  plain_owned l p may guard = plain_quiet l p may refl

  gate_entry : (n : ℕ) (z : Entry) (next : Gateway) → gateways.Steps n (x.gates n) (gateway.entry z) next
      → Owned (with_gate n (gateway.entry z) next x) (after (of_gate n (gateway.entry z)) whose)
  gate_entry n (e.Accepted k d) next steps = absurd steps.0
  gate_entry n (e.Dialled k to why) next steps = absurd steps.0
  gate_entry n z next steps = gate_quiet n (gateway.entry z) next steps refl

  gate_owned : (n : ℕ) (p : gateway.Part) (next : Gateway) → gateways.Steps n (x.gates n) p next → GateGuard g x n p
      → Owned (with_gate n p next x) (after (of_gate n p) whose)
  gate_owned n (gateway.entry z) next steps guard = gate_entry n z next steps
  gate_owned n (gateway.dialled z key) next steps guard =
      let dial = (birth_at n (x.gates n) z key steps.0).0 in
      subst (λ (v : Entry). BirthMayCome x v
      → Owned (with_gate n (gateway.dialled v key) next x) (after (of_gate n (gateway.dialled v key)) whose))
      (sym dial.4) (gate_dialled g x whose owned n dial.0 dial.3 dial.2 key next dial.1) guard.0.birth
  gate_owned n p next steps guard = gate_quiet n p next steps refl

  step_owned : (p : Point) (y : Machine) → Steps g x p y → Owned y (after p whose)
  step_owned (of_control q) y steps =
      subst (λ (z : Machine). Owned z (after (of_control q) whose)) (sym steps.3) (control_owned q steps.0 steps.1 steps.2)
  step_owned (of_link l p) y steps =
      subst (λ (z : Machine). Owned z (after (of_link l p) whose)) (sym steps.3) (link_owned l p steps.0 steps.1 steps.2)
  step_owned (of_plain l p) y steps =
      subst (λ (z : Machine). Owned z (after (of_plain l p) whose)) (sym steps.2) (plain_owned l p steps.0 steps.1)
  step_owned (of_gate n p) y steps =
      subst (λ (z : Machine). Owned z (after (of_gate n p) whose)) (sym steps.3) (gate_owned n p steps.0 steps.1 steps.2)
  step_owned (of_stream l n s w) y steps =
      subst (λ (z : Machine). Owned z (after (of_stream l n s w) whose)) (sym steps.4) (stream_quiet l n s w steps.1 steps.0 steps.2)

-- so it is in every run
abbrev pub whose_in : List Point → ℕ → Owner
whose_in points n = owner n (entries points)

fresh_owned : (g : NodeConfig) → Owned (fresh g) (λ n. nobody)
fresh_owned g = record {
  unborn = λ n above. refl;
  none = refl;
  control = λ n born. absurd born;
  link = λ l born. absurd (false≢true born);
  up = λ l s. (λ u is. cc, refl);
  one = λ l s u v is other. absurd cc;
  over = λ l s u is. absurd cc;
  plain = λ l born. absurd (false≢true born);
  relay = λ l. (λ u is. cc, refl, refl);
  one_relay = λ l u v is other. absurd cc;
  relay_over = λ l u is. absurd cc;
  gate = λ n born. absurd (false≢true born);
}

pub all_owned : (g : NodeConfig) (x : Machine) (points : List Point) → StandsFor g x points → Owned x (whose_in points)
all_owned g x points (begins is empty) =
    subst (λ (ps : List Point). Owned x (whose_in ps)) (sym empty)
    (subst (λ (z : Machine). Owned z (λ n. nobody)) (sym is) (fresh_owned g))
all_owned g y more (goes_on {x = x} {points = points} stands p steps are) =
    subst (λ (ps : List Point). Owned y (whose_in ps)) (sym are)
    (subst (Owned y) (sym (fun_ext (λ n. whose_one points p n)))
    (step_owned g x points stands (whose_in points) (all_owned g x points stands) p y steps))

-- a link that is somebody's stays so
pub owner_grows : (g : NodeConfig) (x : Machine) (points : List Point) → StandsFor g x points → (p : Point) (y : Machine) → Steps g x p y
    → (n : ℕ) → (whose_in points n ≡ nobody) ⊎ (whose_in (points ++ p ∷ []) n ≡ whose_in points n)
owner_grows g x points stands p y steps n =
    ⊎_elim (λ none. inr (whose_one points p n ∙ ap (λ (es : List Entry). fold (owner_by n) (whose_in points n) es) none))
    (λ h. ⊎_elim inl (λ same. inr (whose_one points p n ∙ ap (λ (es : List Entry). fold (owner_by n) (whose_in points n) es) h.1 ∙ same))
    (by h.0 (birth_of g x y p steps h.0 h.1)))
    (short p)
  where
    owned : Owned x (whose_in points)
    owned = all_owned g x points stands

    new_one : (k : ℕ) (w : Owner) → k ≡ x.born + 1
        → (whose_in points n ≡ nobody) ⊎ (cond (k == n) w (whose_in points n) ≡ whose_in points n)
    new_one k w is =
        cond_both (k == n) w (whose_in points n) (λ o. (whose_in points n ≡ nobody) ⊎ (o ≡ whose_in points n))
        (λ same. inl (owned.unborn n (let here = eqb-true k n same in omega (arith, is, here)))) (λ apart. inr refl)

    by : (z : Entry) → BirthMayCome x z → (whose_in points n ≡ nobody) ⊎ (owner_by n (whose_in points n) z ≡ whose_in points n)
    by (e.Accepted k d) may = new_one k (at_door d) may.0
    by (e.Dialled k to why) may = new_one k (dialled_for why) may
    by _ may = inr refl
