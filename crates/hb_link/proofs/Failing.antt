-- A connection error, and want of memory for the link: all tunnels end.
use Rattle.std.proofs.Common.{◌≡◌, inl, inr, ⊎_elim, ℕ, ◌≤◌, IsSome, Option, Some, None, refl, ap, sym, ◌∙◌, subst}
use Rattle.std.specs.FinMap.{get}
use Rattle.hb_base.specs.declared.cause.Cause.{Cause}
use Rattle.hb_base.specs.declared.cause.Cause.TheVariants as cause
use Rattle.hb_frames.specs.Numbers.{largest}
use Rattle.hb_inbound.specs.Inbound as m
use Rattle.hb_inbound.specs.Inbound.{Inbound, ends_with}
use Rattle.hb_inbound.specs.Runs.{StandsFor}
use Rattle.hb_inbound.specs.Tunnel as t
use Rattle.hb_inbound.specs.Tunnel.{Tunnel as Machine, ends_by, ends_for}
use Rattle.hb_link.specs.declared.link.Link.{Link}
use Rattle.hb_link.specs.declared.phase.Phase.{Phase}
use Rattle.hb_link.specs.declared.phase.Phase.TheVariants.{Faulted, Closing}
use Rattle.hb_link.specs.declared.tunnel.Stage.{Stage}
use Rattle.hb_link.specs.declared.tunnel.Stage.TheVariants.{Due, Opening, Live, Failed, Ended, Over}
use Rattle.hb_link.specs.declared.tunnel.Tunnel.{Tunnel}
use Rattle.hb_link.specs.Counting.{Counts}
use Rattle.hb_link.specs.Looking.{FaultsFor, LacksMemory}
use Rattle.hb_link.specs.Marking.{ended_stage, ended_tunnel, ended_here, EndsWith}
use Rattle.hb_link.specs.Noted.{Told}
use Rattle.hb_link.specs.Reaches.{Leads}
use Rattle.hb_link.specs.Settling.{Agrees, GotAll, MayPut, LookedIn, AlwaysSettles, KeepsCame}
use Rattle.hb_link.specs.Shows.{ShowsBy, ShowsTunnels}
use Rattle.hb_link.specs.Tunnels.{phase_of, stage_of, tunnel_of, as_told, ShowsAt, ShowsTunnel}

-- a tunnel that ends is shown as ended
ended_as : (why : Cause) (stage : Stage) → ends_by why (stage_of stage) ≡ stage_of (ended_stage why stage)
ended_as why Due = refl
ended_as why Opening = refl
ended_as why Live = refl
ended_as why (Failed cause) = refl
ended_as why (Ended cause) = refl
ended_as why (Over cause) = refl

ends_told : (why : Cause) (k : Tunnel) (z : Machine) → as_told z ≡ tunnel_of k → as_told (ends_for why z) ≡ tunnel_of (ended_tunnel why k)
ends_told why k z told =
    ap (ends_for why) told ∙ ap (λ (st : t.Stage). record (tunnel_of k) { stage = st }) (ended_as why k.stage)

ends_at : (why : Cause) (stage : Stage) (k : Tunnel) (z : Machine) → ShowsAt (stage_of stage) k z
    → ShowsAt (stage_of (ended_stage why stage)) (ended_tunnel why k) (ends_for why z)
ends_at why Due k z shown = (ends_told why k z shown.0, tt)
ends_at why Opening k z shown = (ends_told why k z shown.0, tt)
ends_at why Live k z shown = (ends_told why k z shown.0, tt)
ends_at why (Failed cause) k z shown = (ends_told why k z shown.0, tt)
ends_at why (Ended cause) k z shown = (ends_told why k z shown.0, tt)
ends_at why (Over cause) k z shown = (ap (ends_by why) shown.0, shown.1)

ends_shown : (why : Cause) (o : Option Tunnel) (z : Machine) → ShowsTunnel o z → ShowsTunnel (ended_here why o) (ends_for why z)
ends_shown why None z shown =
    ⊎_elim (λ (is : z.stage ≡ t.unasked). inl (ap (ends_by why) is)) (λ (is : z.stage ≡ t.gone). inr (ap (ends_by why) is)) shown
ends_shown why (Some k) z shown = ends_at why k.stage k z shown

some_ended : (why : Cause) (o : Option Tunnel) → IsSome (ended_here why o) → IsSome o
some_ended why None some = some
some_ended why (Some k) some = refl

-- where the link itself ends, in a phase in which nothing more is looked at
module _ (phase : Phase) (why : Cause) (k mid : Link) (ends : EndsWith phase why k mid) where
  phase_is : mid.phase ≡ phase
  phase_is = ap (λ (l : Link). l.phase) ends.link

  marked : (y : Inbound) → ShowsTunnels k y → ((s : ℕ) → IsSome (get k.tunnels s) → s ≤ largest)
      → ShowsBy (phase_of phase) mid (ends_with (phase_of phase) why y) → Agrees mid (ends_with (phase_of phase) why y)
  marked y tunnels numbered way = record {
    phase = ap phase_of (sym phase_is);
    way = way;
    tunnels = λ s.
        subst (λ (o : Option Tunnel). ShowsTunnel o (ends_for why (y.tunnels s))) (sym (ends.each s))
        (ends_shown why (get k.tunnels s) (y.tunnels s) (tunnels s));
    numbered = λ s some.
        numbered s (some_ended why (get k.tunnels s) (subst (λ (o : Option Tunnel). IsSome o) (ends.each s) some));
  }

  module _ (rests : (x : Inbound) → LookedIn (phase_of phase) x) where
    answered : (new : Link) → KeepsCame mid new → (x : Inbound) → GotAll new x → MayPut new x
    answered new keeps x got =
        let is : x.phase ≡ phase_of phase =
        got.agrees.phase ∙ ap phase_of (ap (λ (l : Link). l.phase) keeps.link ∙ phase_is) in
        record {
          agrees = got.agrees;
          answered = got.answered;
          looked = subst (λ (phase : m.Phase). LookedIn phase x) (sym is) (rests x);
        }

    all_end : (P : Link → Inbound → Type 0) → ((x : Inbound) → P k x → Agrees mid x) → (new : Link) (told now : Told)
        → AlwaysSettles Agrees GotAll mid told new now → KeepsCame mid new → AlwaysSettles P MayPut k told new now
    all_end P agrees new told now settles keeps limits start before a stands holds is =
        let number : mid.number ≡ k.number = ap (λ (l : Link). l.number) ends.link in
        let stands_here = subst (λ (i : ℕ). StandsFor i start a before) (sym number) stands in
        let got = settles limits start before a stands_here tt (agrees a.link is) in
        let last = got.1 in (
          got.0 ∙ number,
          record {
            parts = last.parts;
            reached = last.reached;
            leads = subst (λ (i : ℕ). Leads (Counts limits) i a last.parts last.reached) number
                last.leads;
            shows = answered new keeps last.reached.link last.shows;
            noted = last.noted;
          },
        )

-- a connection error was told
module _ (code : ℕ) (k mid : Link) (ends : EndsWith (Faulted code) (cause.ConnFault code) k mid) where
  at_fault : (x : Inbound) → FaultsFor code k x → Agrees mid x
  at_fault x faults =
      subst (Agrees mid) (sym faults.is)
      (marked (Faulted code) (cause.ConnFault code) k mid ends faults.before faults.tunnels faults.numbered
      (faults.conn ∙ sym (ap (λ (l : Link). l.conn) ends.link)))

  pub fails : (new : Link) (told now : Told) → AlwaysSettles Agrees GotAll mid told new now → KeepsCame mid new
      → AlwaysSettles (FaultsFor code) MayPut k told new now
  fails = all_end (Faulted code) (cause.ConnFault code) k mid ends (λ x. tt) (FaultsFor code) at_fault

-- memory is wanting
module _ (k mid : Link) (ends : EndsWith (Closing cause.NoMemory) cause.NoMemory k mid) where
  without_memory : (x : Inbound) → LacksMemory k x → Agrees mid x
  without_memory x lacks =
      subst (Agrees mid) (sym lacks.is)
      (marked (Closing cause.NoMemory) cause.NoMemory k mid ends lacks.before lacks.tunnels lacks.numbered tt)

  pub lacks_all : (new : Link) (told now : Told) → AlwaysSettles Agrees GotAll mid told new now → KeepsCame mid new
      → AlwaysSettles LacksMemory MayPut k told new now
  lacks_all = all_end (Closing cause.NoMemory) cause.NoMemory k mid ends (λ x. tt) LacksMemory without_memory
