-- What each part of a link's run makes of the tunnel on a stream: its upstream, its target, and the count of bytes that began to go down.
use Rattle.std.proofs.Common.{◌≡◌, ◌⊎◌, inl, inr, ℕ, ◌==◌, Bool, true, false, cond, List, refl, ap, ap₂, sym, ◌∙◌, subst}
use Rattle.std.proofs.lemmas.Bool.{cond_both, eqb-true}
use Rattle.hb_base.specs.declared.cause.Cause.TheVariants as cause
use Rattle.hb_base.specs.declared.door.Why.{Why}
use Rattle.hb_base.specs.declared.door.Why.TheVariants as whys
use Rattle.hb_base.specs.declared.note.Note.{Note}
use Rattle.hb_base.specs.declared.target.Target.{Target}
use Rattle.hb_conn.specs.declared.found.Found.{Found}
use Rattle.hb_conn.specs.declared.found.Found.TheVariants as found
use Rattle.hb_held.specs.Held.{Resources}
use Rattle.hb_held.specs.Outcome.{after_response}
use Rattle.hb_hpack.specs.declared.header.HeaderList.{HeaderList}
use Rattle.hb_inbound.proofs.Sending.{is_early}
use Rattle.hb_inbound.specs.Inbound.{Inbound, Phase, fronting, serving, faulted, at_stream, came_by, ended_by, broken_by, told_of, judged_by, rejudged}
use Rattle.hb_inbound.specs.Part as part
use Rattle.hb_inbound.specs.Part.{Part, entry, up, welcomed, crowded, lacked, misfronted, looked, decided, accepted, refused, reset, left, done, put, finished, credited, applied, stopped}
use Rattle.hb_inbound.specs.Runs.{Local, Steps, Refuses, Resets, Leaves, UpMayCome, entered, tunnel_for, put_down}
use Rattle.hb_inbound.specs.Tunnel.{Tunnel, Stage, requested, refusing, malformed, failed, ended, live, takes_place, up_entered, at_stage, came_up, peer_ended, ends_for, left_with, requested_with}
use Rattle.hb_table.specs.Judgement.{judged}
use Rattle.hb_table.specs.declared.judgement.Judged.{Judged}
use Rattle.hb_table.specs.declared.judgement.Judged.TheVariants.{Admitted}
use Rattle.hb_verdict.specs.declared.verdict.Verdict.{Verdict}
use Rattle.hb_verdict.specs.declared.verdict.Verdict.TheVariants.{Status, Reset, Dial}
use Rattle.hb_world.specs.declared.entry.Entry.{Entry}
use Rattle.hb_world.specs.declared.entry.Entry.TheVariants as e

-- a tunnel that begins: it has no upstream, nothing began, and its request isn't answered, or wasn't
pub record Begins (old new : Tunnel) : Type 0 where
  pub up : new.up ≡ 0
  pub went : new.went_down ≡ 0
  pub early : (is_early old.stage ≡ true) ⊎ (is_early new.stage ≡ true)

-- the upstream and the target that it had; and the count that it had
abbrev pub Aims : Tunnel → Tunnel → Type 0
Aims old new = (new.up ≡ old.up) × (new.target ≡ old.target)

abbrev pub Stays : Tunnel → Tunnel → Type 0
Stays old new = (new.up ≡ old.up) × (new.target ≡ old.target) × (new.went_down ≡ old.went_down)

abbrev pub Same : Tunnel → Tunnel → Type 0
Same old new = Begins old new ⊎ Stays old new

-- the dial of the stream's upstream
pub record IsDial (l s : ℕ) (p : Part) (old new : Tunnel) : Type 0 where
  pub u : ℕ
  pub to : Target
  pub is : p ≡ up s (e.Dialled u to (whys.Upstream l s))
  pub up_is : new.up ≡ u
  pub target_is : new.target ≡ to
  pub went : new.went_down ≡ old.went_down

-- the count that it had, or none where it begins
abbrev pub Counts : Tunnel → Tunnel → Type 0
Counts old new = Begins old new ⊎ (new.went_down ≡ old.went_down)

pub same_counts : (old new : Tunnel) → Same old new → Counts old new
same_counts old new (inl begins) = inl begins
same_counts old new (inr stays) = inr stays.2

-- a part makes this of it
abbrev pub Makes : (l s : ℕ) → Part → Tunnel → Tunnel → Type 0
Makes l s (entry (e.Went k bytes)) old new = Aims old new
Makes l s (up k z) old new = Same old new ⊎ IsDial l s (up k z) old new
Makes l s _ old new = Same old new

same : (t : Tunnel) → Same t t
same t = inr (refl, refl, refl)

judged_same : (t : Tunnel) (j : Judged) → Same t (judged_by j t)
judged_same t Admitted = same t
judged_same t _ = inr (refl, refl, refl)

refuses_same : (l k : ℕ) (x : Inbound) (stage : Stage) (n : ℕ) (made : Note) (next : Tunnel) → Refuses l k x stage n made next
    → Same (x.tunnels k) next
refuses_same l k x (refusing status target) n made next is = subst (Same (x.tunnels k)) (sym is.2) (inr (refl, refl, refl))
refuses_same l k x (failed cause) n made next is = subst (Same (x.tunnels k)) (sym is.3) (inr (refl, refl, refl))
refuses_same l k x _ n made next is = absurd is

resets_same : (l k : ℕ) (x : Inbound) (stage : Stage) (n : ℕ) (made : Note) (next : Tunnel) → Resets l k x stage n made next
    → Same (x.tunnels k) next
resets_same l k x malformed n made next is = subst (Same (x.tunnels k)) (sym is.2) (inr (refl, refl, refl))
resets_same l k x (ended cause) n made next is = subst (Same (x.tunnels k)) (sym is.3) (inr (refl, refl, refl))
resets_same l k x _ n made next is = absurd is

leaves_same : (l k : ℕ) (x : Inbound) (stage : Stage) (made : _) (next : Tunnel) → Leaves l k x stage made next
    → Same (x.tunnels k) next
leaves_same l k x (failed cause) made next is = subst (Same (x.tunnels k)) (sym is.3) (inr (refl, refl, refl))
leaves_same l k x (ended cause) made next is = subst (Same (x.tunnels k)) (sym is.3) (inr (refl, refl, refl))
leaves_same l k x _ made next is = absurd is

module _ (s : ℕ) where
  abbrev Keeps : Inbound → Inbound → Type 0
  Keeps x y = Same (x.tunnels s) (y.tunnels s)

  at_any : (k : ℕ) (change : Tunnel → Tunnel) (x : Inbound) → Same (x.tunnels s) (change (x.tunnels s)) → Keeps x (at_stream k change x)
  at_any k change x so =
      cond_both (s == k) (change (x.tunnels s)) (x.tunnels s) (Same (x.tunnels s)) (λ is. so) (λ is. same (x.tunnels s))

  set : (k : ℕ) (new : Tunnel) (x : Inbound) → Same (x.tunnels k) new → Same (x.tunnels s) (cond (s == k) new (x.tunnels s))
  set k new x so =
      cond_both (s == k) new (x.tunnels s) (Same (x.tunnels s))
      (λ is. subst (λ (j : ℕ). Same (x.tunnels j) new) (sym (eqb-true s k is)) so) (λ is. same (x.tunnels s))

  came_keeps : (phase : Phase) (bytes : List ℕ) (x : Inbound) → Keeps x (came_by phase bytes x)
  came_keeps fronting bytes x = same (x.tunnels s)
  came_keeps serving bytes x = same (x.tunnels s)
  came_keeps _ bytes x = same (x.tunnels s)

  ended_keeps : (phase : Phase) (x : Inbound) → Keeps x (ended_by phase x)
  ended_keeps fronting x = same (x.tunnels s)
  ended_keeps serving x = inr (refl, refl, refl)
  ended_keeps _ x = same (x.tunnels s)

  broken_keeps : (phase : Phase) (x : Inbound) → Keeps x (broken_by phase x)
  broken_keeps fronting x = same (x.tunnels s)
  broken_keeps serving x = inr (refl, refl, refl)
  broken_keeps (faulted code) x = same (x.tunnels s)
  broken_keeps _ x = same (x.tunnels s)

  entry_makes : (l : ℕ) (z : Entry) (x : Inbound) → Makes l s (entry z) (x.tunnels s) ((entered z x).tunnels s)
  entry_makes l (e.Came k bytes) x = came_keeps x.phase bytes x
  entry_makes l (e.Ended k) x = ended_keeps x.phase x
  entry_makes l (e.Went k bytes) x = (refl, refl)
  entry_makes l (e.Broke k) x = broken_keeps x.phase x
  entry_makes l _ x = same (x.tunnels s)

  told_keeps : (told : Found) (headers : HeaderList) (bytes : List ℕ) (x : Inbound) → Keeps x (told_of told headers bytes x)
  told_keeps (found.Opened k end) headers bytes x =
      at_any k (λ t. requested_with headers end) x (inl (record { up = refl; went = refl; early = inr refl }))
  told_keeps (found.Chunk k end) headers bytes x = at_any k (came_up bytes) x (inr (refl, refl, refl))
  told_keeps (found.Ended k) headers bytes x = at_any k peer_ended x (inr (refl, refl, refl))
  told_keeps (found.Reset k code) headers bytes x = at_any k (ends_for (cause.PeerReset code)) x (inr (refl, refl, refl))
  told_keeps (found.Broken k code) headers bytes x = at_any k (ends_for (cause.StreamFault code)) x (inr (refl, refl, refl))
  told_keeps (found.Fault code) headers bytes x = inr (refl, refl, refl)
  told_keeps _ headers bytes x = same (x.tunnels s)

  answer_same : (t : Tunnel) (answer : Verdict) (headers : HeaderList) (end : Bool) → is_early t.stage ≡ true
      → Same t (tunnel_for answer headers end)
  answer_same t (Status status) headers end early = inl (record { up = refl; went = refl; early = inl early })
  answer_same t Reset headers end early = inl (record { up = refl; went = refl; early = inl early })
  answer_same t (Dial target) headers true early = inl (record { up = refl; went = refl; early = inl early })
  answer_same t (Dial target) headers false early = inl (record { up = refl; went = refl; early = inl early })

  -- the answer to a request on the stream k
  decides : (k : ℕ) (answer : Verdict) (headers : HeaderList) (end : Bool) (x : Inbound) → (x.tunnels k).stage ≡ requested headers end
      → Keeps x (at_stream k (λ t. tunnel_for answer headers end) x)
  decides k answer headers end x is =
      cond_both (s == k) (tunnel_for answer headers end) (x.tunnels s) (Same (x.tunnels s))
      (λ at. answer_same (x.tunnels s) answer headers end (ap (λ (j : ℕ). is_early (x.tunnels j).stage) (eqb-true s k at) ∙ ap is_early is))
      (λ apart. same (x.tunnels s))

  rejudged_keeps : (held : Resources) (x : Inbound) → Keeps x (rejudged held x)
  rejudged_keeps held x =
      cond_both (takes_place (x.tunnels s).stage) _ (x.tunnels s) (Same (x.tunnels s))
      (λ is. judged_same (x.tunnels s) (judged held x.peer (x.tunnels s).target)) (λ is. same (x.tunnels s))

  abbrev UpMakes : (l k : ℕ) → Entry → Tunnel → Tunnel → Type 0
  UpMakes l k z old new = Same old new ⊎ IsDial l s (up k z) old new

  dials : (l k : ℕ) (x : Inbound) (u : ℕ) (to : Target) (why : Why) (new : Tunnel) → UpMayCome l k x (x.tunnels k) (e.Dialled u to why)
      → new ≡ cond (s == k) (up_entered (e.Dialled u to why) (x.tunnels s)) (x.tunnels s)
      → UpMakes l k (e.Dialled u to why) (x.tunnels s) new
  dials l k x u to why new may = by (s == k) refl
    where
      by : (b : Bool) → (s == k) ≡ b → new ≡ cond b (up_entered (e.Dialled u to why) (x.tunnels s)) (x.tunnels s)
          → UpMakes l k (e.Dialled u to why) (x.tunnels s) new
      by true at is =
          let here : s ≡ k = eqb-true s k at in
          inr (record {
            u = u;
            to = to;
            is = ap₂ (λ (j : ℕ) (w : Why). up j (e.Dialled u to w)) (sym here) (may.4 ∙ ap (whys.Upstream l) (sym here));
            up_is = ap (λ (t : Tunnel). t.up) is;
            target_is = ap (λ (t : Tunnel). t.target) is ∙ ap (λ (j : ℕ). (x.tunnels j).target) here ∙ sym may.3;
            went = ap (λ (t : Tunnel). t.went_down) is;
          })
      by false at is = inl (subst (Same (x.tunnels s)) (sym is) (same (x.tunnels s)))

  goes : (l k : ℕ) (a b : Local) (z : Entry) → Same (a.link.tunnels s) (up_entered z (a.link.tunnels s)) → Steps l a (up k z) b
      → Same (a.link.tunnels s) (b.link.tunnels s)
  goes l k a b z so steps =
      subst (λ (c : Local). Keeps a.link c.link) (sym steps.1) (at_any k (up_entered z) a.link so)

  ups : (l k : ℕ) (a b : Local) (z : Entry) → Steps l a (up k z) b → UpMakes l k z (a.link.tunnels s) (b.link.tunnels s)
  ups l k a b (e.Dialled u to why) steps =
      dials l k a.link u to why (b.link.tunnels s) steps.0 (ap (λ (c : Local). c.link.tunnels s) steps.1)
  ups l k a b (e.Accepted j d) steps = absurd steps.0
  ups l k a b e.Tick steps = absurd steps.0
  ups l k a b (e.Wait ready how) steps = absurd steps.0
  ups l k a b z steps = inl (goes l k a b z (inr (refl, refl, refl)) steps)

  -- each part
  on : (a b : Local) (x : Inbound) → b.link ≡ x → Keeps a.link x → Keeps a.link b.link
  on a b x is keeps = subst (Keeps a.link) (sym is) keeps

  abbrev link_in : Local → Inbound
  link_in c = c.link

  pub makes : (l : ℕ) (a b : Local) (p : Part) → Steps l a p b → Makes l s p (a.link.tunnels s) (b.link.tunnels s)
  makes l a b (entry z) steps =
      subst (λ (c : Local). Makes l s (entry z) (a.link.tunnels s) (c.link.tunnels s)) (sym steps.1) (entry_makes l z a.link)
  makes l a b (up k z) steps = ups l k a b z steps
  makes l a b welcomed steps = on a b _ (ap link_in steps.1) (same (a.link.tunnels s))
  makes l a b crowded steps = on a b _ (ap link_in steps.1) (same (a.link.tunnels s))
  makes l a b lacked steps = on a b _ (ap link_in steps.1) (inr (refl, refl, refl))
  makes l a b (part.fronted seen) steps = on a b _ (ap link_in steps.4) (same (a.link.tunnels s))
  makes l a b (misfronted fault) steps = on a b _ (ap link_in steps.2) (same (a.link.tunnels s))
  makes l a b (looked ps told headers) steps = on a b _ (ap link_in steps.5) (told_keeps told headers _ (record a.link { conn = steps.2 }))
  makes l a b (decided k full answer) steps =
      on a b _ (ap link_in steps.5) (decides k answer steps.1 steps.2 a.link steps.3)
  makes l a b (accepted k made) steps =
      on a b _ (ap link_in steps.3) (set k (at_stage live (a.link.tunnels k)) a.link (inr (refl, refl, refl)))
  makes l a b (refused k status resets made) steps =
      on a b _ (ap link_in steps.4) (set k steps.1 a.link (refuses_same l k a.link (a.link.tunnels k).stage status made steps.1 steps.2))
  makes l a b (reset k code made) steps =
      on a b _ (ap link_in steps.3) (set k steps.1 a.link (resets_same l k a.link (a.link.tunnels k).stage code made steps.1 steps.2))
  makes l a b (left k made) steps =
      on a b _ (ap link_in steps.2) (set k steps.0 a.link (leaves_same l k a.link (a.link.tunnels k).stage made steps.0 steps.1))
  makes l a b (done k made) steps = on a b _ (ap link_in steps.3) (at_any k (left_with cause.Done) a.link (inr (refl, refl, refl)))
  makes l a b (put k bytes) steps =
      on a b _ (ap link_in steps.3) (set k (put_down a.link.conn k (a.link.tunnels k)) a.link (inr (refl, refl, refl)))
  makes l a b (finished k) steps =
      on a b _ (ap link_in steps.2) (set k (record (a.link.tunnels k) { end_put = true }) a.link (inr (refl, refl, refl)))
  makes l a b (credited k n) steps =
      on a b _ (ap link_in steps.3) (set k (record (a.link.tunnels k) { owed = 0 }) a.link (inr (refl, refl, refl)))
  makes l a b (applied r) steps = on a b _ (ap link_in steps) (rejudged_keeps (after_response a.held r) a.link)
  makes l a b (stopped why) steps = on a b _ (ap link_in steps) (inr (refl, refl, refl))
