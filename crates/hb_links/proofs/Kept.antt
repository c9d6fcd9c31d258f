-- All links that are kept count, where none has its close due.
use Rattle.std.proofs.Common.{◌≡◌, ℕ, ◌^◌, Bool, true, false, Option, Some, None, is_some, refl, ap}
use Rattle.std.specs.FinMap.{get}
use Rattle.hb_inbound.specs.Calm.{close_due}
use Rattle.hb_inbound.specs.Inbound as m
use Rattle.hb_link.specs.declared.link.Link.{Link}
use Rattle.hb_proxy.proofs.Kept.{kept_count}
use Rattle.hb_proxy.specs.Load.{counts, inbound_below, CountsTo}
use Rattle.hb_proxy.specs.Machine.{Machine}
use Rattle.hb_links.specs.declared.links.Links.{Links}
use Rattle.hb_links.specs.Calls.{count_of}
use Rattle.hb_links.specs.Shows.{IsAway, ShowsAll, ShowsLink}

away_counts : (phase : m.Phase) → IsAway phase → counts phase ≡ false
away_counts m.unborn away = refl
away_counts m.closed away = refl
away_counts m.arriving away = absurd away
away_counts m.fronting away = absurd away
away_counts m.serving away = absurd away
away_counts (m.faulted code) away = absurd away
away_counts (m.closing why) away = absurd away

open_counts : (phase : m.Phase) → (IsAway phase → ⊥) → close_due phase ≡ None → counts phase ≡ true
open_counts m.unborn here none = absurd (here tt)
open_counts m.closed here none = absurd (here tt)
open_counts m.arriving here none = refl
open_counts m.fronting here none = refl
open_counts m.serving here none = refl
open_counts (m.faulted code) here none = absurd (cc none)
open_counts (m.closing why) here none = absurd (cc none)

module _ (k : Links) (x : Machine) (shows : ShowsAll k x.inbound) (quiet : (l : ℕ) → close_due (x.inbound l).phase ≡ None) where
  counts_at : (l : ℕ) (o : Option Link) → get k.links l ≡ o → ShowsLink l o (x.inbound l) → counts (x.inbound l).phase ≡ is_some o
  counts_at l None found shown = away_counts (x.inbound l).phase shown.0
  counts_at l (Some w) found shown = open_counts (x.inbound l).phase (shows.kept l (ap is_some found)) (quiet l)

  -- the links that are kept are those of the machine that count
  pub kept_counted : CountsTo (inbound_below x) (count_of k)
  kept_counted =
      kept_count k.links (λ l. counts (x.inbound l).phase) (2 ^ 64) shows.numbered
      (λ l. counts_at l (get k.links l) refl (shows.links l))
