-- The limits: how many links and tunnels count where nothing is due, by the counts of the code.
use Rattle.std.proofs.Common.{◌≡◌, ◌≢◌, ℕ, zero, suc, ◌+◌, ◌-◌, ◌<◌, ◌≤◌, ◌^◌, not, Bool, true, false, List, Option, Some, None, refl, ap, sym, ◌∙◌, subst, arith}
use Rattle.std.proofs.lemmas.Bool.Decides.{nat_tests}
use Rattle.std.specs.FinMap.{FinMap, get}
use Rattle.std.specs.Ordering.{nat_cmp}
use Rattle.std.specs.Prelude.{nat_le, nat_lt}
use Rattle.hb_base.specs.declared.note.Note.{Note}
use Rattle.hb_captured.specs.Calm.{IsCalmBy}
use Rattle.hb_captured.specs.Captured as plain
use Rattle.hb_captured.specs.Captured.{Captured, Stage}
use Rattle.hb_inbound.specs.Inbound as m
use Rattle.hb_inbound.specs.Inbound.{Inbound}
use Rattle.hb_link.specs.Tunnels.{phase_of}
use Rattle.hb_link.specs.declared.link.Link.{Link}
use Rattle.hb_link.specs.declared.phase.Phase.{Phase as Here}
use Rattle.hb_link.specs.declared.phase.Phase.TheVariants as here
use Rattle.hb_links.proofs.Freeing.{streams_counted}
use Rattle.hb_links.proofs.Kept.{kept_counted}
use Rattle.hb_links.specs.Calls as links
use Rattle.hb_links.proofs.Totals.{total_is}
use Rattle.hb_links.specs.Load.{places_in, total_below, IsCounted, LeavesPlaces, Recounts}
use Rattle.hb_links.specs.Shows.{IsAway, ShowsAll, ShowsLink}
use Rattle.hb_links.specs.Stirring.{OnlyHears}
use Rattle.hb_links.specs.declared.links.Links.{Links}
use Rattle.hb_model.specs.declared.config.Limits.{Limits}
use Rattle.hb_model.specs.declared.config.NodeConfig.{NodeConfig}
use Rattle.hb_proxy.proofs.Counted.{is_full, links_counted, tunnels_counted}
use Rattle.hb_proxy.proofs.Load.{not_more, one_falls}
use Rattle.hb_proxy.proofs.NeverFull.{never_more_tunnels}
use Rattle.hb_proxy.specs.Limits.{has_place, tunnels_in}
use Rattle.hb_proxy.specs.Load.{most_links, most_tunnels, one_if, is_placed, plain_below, links_below, tunnels_below, CountsTo, LinksFull, PlacesFull}
use Rattle.hb_proxy.specs.Machine.{Machine}
use Rattle.hb_relays.proofs.Kept.{gates_counted, plain_counted}
use Rattle.hb_relays.specs.Calls as relays
use Rattle.hb_world.specs.declared.entry.Entry.{Entry}
use Rattle.hb_whole.specs.Sight.{has_room, places_of}
use Rattle.hb_whole.specs.Stands.{Stands, IsLimited, WaitsAreFew}
use Rattle.hb_whole.specs.declared.proxy.Proxy.{Proxy}
use Rattle.hb_whole.proofs.Free.{Free}

-- they stay, where few links wait still
pub limited_then : (p q : Proxy) (x y : Machine) → q.limits ≡ p.limits → q.control.config ≡ p.control.config
    → Recounts p.side.links q.side.links → (WaitsAreFew p.control.config x → WaitsAreFew p.control.config y) → IsLimited p x → IsLimited q y
limited_then p q x y limits config counts few is = record {
  limits = limits ∙ is.limits ∙ ap (λ (g : NodeConfig). g.limits) (sym config);
  counted = counts is.counted;
  few = subst (λ (g : NodeConfig). WaitsAreFew g y) (sym config) (few is.few);
}

-- the links are as they were
pub recounts_same : (a b : Links) → b ≡ a → Recounts a b
recounts_same a b same is = subst IsCounted (sym same) is

-- or were told what stirred, and nothing else
same_total : (a b : FinMap nat_cmp Link) → ((l : ℕ) → places_in (get b l) ≡ places_in (get a l)) → (n : ℕ)
    → total_below n b ≡ total_below n a
same_total a b same zero = refl
same_total a b same (suc n) = let front = same_total a b same n in let here = same n in omega (arith, front, here)

pub only_counts : (a b : Links) → OnlyHears a b → Recounts a b
only_counts a b only counted =
    ap (λ (k : Links). k.taken) only.same ∙ counted ∙ total_is a.links ∙ sym (same_total a.links b.links only.places (2 ^ 64))
    ∙ sym (total_is b.links)

-- NO LINK IS ARRIVING that the code shows

away_apart : (phase : m.Phase) → IsAway phase → phase ≢ m.arriving
away_apart m.unborn away is = cc is
away_apart m.closed away is = cc is
away_apart m.arriving away is = away
away_apart m.fronting away is = away
away_apart m.serving away is = away
away_apart (m.faulted code) away is = away
away_apart (m.closing why) away is = away

phase_apart : (h : Here) → phase_of h ≢ m.arriving
phase_apart here.Fronting is = cc is
phase_apart here.Serving is = cc is
phase_apart (here.Faulted code) is = cc is
phase_apart (here.Closing why) is = cc is
phase_apart here.Closed is = cc is

shown_apart : (l : ℕ) (o : Option Link) (x : Inbound) → ShowsLink l o x → x.phase ≢ m.arriving
shown_apart l None x shown is = away_apart x.phase shown.0 is
shown_apart l (Some k) x shown is = phase_apart k.phase (sym shown.1.phase ∙ is)

pub none_arriving : (k : Links) (f : ℕ → Inbound) → ShowsAll k f → (l : ℕ) → (f l).phase ≢ m.arriving
none_arriving k f shows l = shown_apart l (get k.links l) (f l) (shows.links l)

-- WHERE NOTHING IS DUE

calm_place : (stage : Stage) (x : Captured) → IsCalmBy stage x → is_placed stage ≡ true → has_place stage ≡ true
calm_place plain.arriving x calm is = absurd calm
calm_place plain.unborn x calm is = is
calm_place plain.fronting x calm is = is
calm_place plain.due x calm is = is
calm_place plain.opening x calm is = is
calm_place plain.accepting x calm is = is
calm_place plain.live x calm is = is
calm_place (plain.failed why) x calm is = is
calm_place (plain.ended why) x calm is = is
calm_place (plain.over why) x calm is = is

full_is : (room : Bool) (count limit : ℕ) → room ≡ nat_lt count limit → not room ≡ nat_le limit count
full_is true count limit is = grind (arith, nat_tests, is)
full_is false count limit is = grind (arith, nat_tests, is)

places_full : (full : Bool) (taken plain limit : ℕ) → full ≡ not (nat_lt taken (limit - plain)) → full ≡ nat_le limit (taken + plain)
places_full true taken plain limit is = grind (arith, nat_tests, is)
places_full false taken plain limit is = grind (arith, nat_tests, is)

-- a place is left, or not
pub place_left : (taken places : ℕ) → taken < places → nat_lt taken places ≡ true
place_left taken places less = grind (arith, nat_tests, less)

pub no_place : (taken places : ℕ) → places ≤ taken → nat_lt taken places ≡ false
no_place taken places few = grind (arith, nat_tests, few)

module _ (taken : List Note) (p : Proxy) (trace : List Entry) (s : Stands taken p trace) (all : Free s.machine) where
  abbrev g : NodeConfig
  g = p.control.config

  abbrev x : Machine
  x = s.machine

  -- one more link may be, or not
  pub room_is : LinksFull (not (has_room p)) g x
  room_is =
      let count = links.count_of p.side.links + relays.gate_count p.side.relays in
      is_full (not (has_room p)) (most_links g) count (links_below x)
      (links_counted x (links.count_of p.side.links) (relays.gate_count p.side.relays)
      (kept_counted p.side.links x s.links (λ l. (all.links l).no_close))
      (gates_counted g p.side.relays x s.relays (λ n. ((all.gates false).gates n).no_close)))
      (full_is (has_room p) count (most_links g)
      (ap (λ (limits : Limits). nat_lt count limits.links) s.limited.limits))

  plain_count : CountsTo (plain_below x) (relays.count_of p.side.relays)
  plain_count = plain_counted g p.side.relays x s.relays all.plain

  -- all places are taken, or not
  pub places_are : (full : Bool) → full ≡ not (nat_lt p.side.links.taken (places_of p)) → PlacesFull full g x
  places_are full is =
      is_full full (most_tunnels g) (p.side.links.taken + relays.count_of p.side.relays) (tunnels_below x)
      (tunnels_counted x p.side.links.taken (relays.count_of p.side.relays)
      (streams_counted p.side.links x s.links s.limited.counted) plain_count)
      (places_full full p.side.links.taken (relays.count_of p.side.relays) (most_tunnels g)
      (is ∙ ap (λ (limits : Limits). not (nat_lt p.side.links.taken (limits.tunnels - relays.count_of p.side.relays))) s.limited.limits))

  -- no more plain links than tunnels may be
  plain_within : relays.count_of p.side.relays ≤ most_tunnels g
  plain_within =
      let b = plain_count.bound in
      let some = plain_count.whole b (omega arith) in
      let less = not_more (tunnels_in x b) (λ l. one_if (is_placed (x.plain l).stage)) b (λ l low. each b l) in
      let most = never_more_tunnels g x s.points s.run b in
      omega (arith, some, less, most)
    where
      each : (b l : ℕ) → one_if (is_placed (x.plain l).stage) ≤ tunnels_in x b l
      each b l =
          let falls = one_falls (is_placed (x.plain l).stage) (has_place (x.plain l).stage)
          (calm_place (x.plain l).stage (x.plain l) (all.plain l).0) in
          omega (arith, falls)

  -- what they leave to the tunnels of inbound links
  pub leaves : LeavesPlaces (places_of p) g x
  leaves = (
    relays.count_of p.side.relays,
    plain_count,
    (let few = plain_within in
        let at = ap (λ (limits : Limits). limits.tunnels) s.limited.limits in
        omega (arith, few, at)),
  )
