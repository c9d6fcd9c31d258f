-- A link is accepted, and the dial of an upstream is answered.
use Rattle.std.specs.Prelude.{⊤}
use Rattle.std.proofs.Common.{◌≡◌, inl, ℕ, ◌<◌, ◌^◌, [], Option, Some, None, is_some, refl, ap, sym, ◌∙◌, subst, arith}
use Rattle.std.proofs.lemmas.Bool.{false≢true}
use Rattle.std.specs.FinMap.{get, insert}
use Rattle.hb_base.specs.declared.door.Door.TheVariants as door
use Rattle.hb_base.specs.declared.door.Why.{Why}
use Rattle.hb_base.specs.declared.target.Target.{Target}
use Rattle.hb_inbound.specs.Inbound.{Inbound, no_link}
use Rattle.hb_inbound.specs.Part as part
use Rattle.hb_inbound.specs.Runs as inbound
use Rattle.hb_inbound.specs.Runs.{Local, with_link}
use Rattle.hb_inbound.specs.Tunnel as t
use Rattle.hb_link.specs.Calls as calls
use Rattle.hb_link.specs.Noted.{Told}
use Rattle.hb_link.specs.Counting.{uncounted, taking_in}
use Rattle.hb_link.specs.Shows.{Shows}
use Rattle.hb_link.specs.declared.link.Link.{Link}
use Rattle.hb_map.proofs.Laws.{put_here, put_elsewhere}
use Rattle.hb_proxy.proofs.Projection.{links_run}
use Rattle.hb_proxy.specs.Held.{at_start}
use Rattle.hb_proxy.specs.Machine.{Machine, local, with_part}
use Rattle.hb_proxy.specs.Points.{parts_of}
use Rattle.hb_proxy.specs.Ups.{up_by, up_now}
use Rattle.hb_world.specs.declared.entry.Entry.TheVariants as e
use Rattle.hb_links.specs.declared.links.Links.{Links}
use Rattle.hb_links.specs.Busy.{touched}
use Rattle.hb_links.specs.Calls.{Begins, TurnsAway, Dials, DialFails}
use Rattle.hb_links.specs.Places.{place}
use Rattle.hb_links.specs.Shows.{IsAway, ShowsAll, ShowsLink}
use Rattle.hb_links.proofs.Indexing.{born, is_new}
use Rattle.hb_links.proofs.Freeing.{beside_step, birth_free, burst_birth}
use Rattle.hb_links.proofs.Lifted.{uncounted_frees, here, there}
use Rattle.hb_links.proofs.NotShown.{arrived}
use Rattle.hb_links.proofs.Staying.{up_open}
use Rattle.hb_links.proofs.Showing.{links_with, reaches, leaves_index, lifts_free, lifts_with, shown_then}

-- where so many of its tunnels took a place before
module _ (before : ℕ) where
  pub begins : (k : Links) (n : ℕ) (new : Link) → n < 2 ^ 64 → calls.Begins n new → new.number ≡ n
      → Begins n k (touched n before (links_with (insert k.links n new) k.ups k))
  begins k n new narrow starts number g x y points stands shows holds steps =
      reaches before taking_in g k n (part.entry (e.Accepted n door.Inbound)) new k.ups (Some []) (Some []) x y points stands shows steps
      (birth_free g n x y holds (beside_step g x y n (part.entry (e.Accepted n door.Inbound)) steps)) (λ away. subst IsAway (arrived g x y n steps) away) number narrow
      (starts (at_start g) (parts_of n points) (local x n) (with_link steps.0 (local x n)) (links_run g x points n stands) steps.1)
      (leaves_index k.ups x.inbound n (part.entry (e.Accepted n door.Inbound)) tt shows.index)

  -- a link is turned away
  pub turns : (k : Links) (n : ℕ) (new : Link) → n < 2 ^ 64 → calls.TurnsAway n new → new.number ≡ n
      → TurnsAway n k (touched n before (links_with (insert k.links n new) k.ups k))
  turns k n new narrow away number g x y points stands shows full steps =
      let a = local x n in
      let b = with_link steps.0 a in
      let came = part.entry (e.Accepted n door.Inbound) in
      let behind : local y n ≡ b = ap (λ (w : Machine). local w n) steps.3 ∙ here x n came steps.0 in
      let one = away (at_start g) (parts_of n points) a b (links_run g x points n stands) steps.1 in
      let c = one.0 in
      let c_is : c ≡ with_link c.link b = one.1.1 ∙ ap (λ (z : Inbound). with_link z b) (sym (ap (λ (d : Local). d.link) one.1.1)) in
      let z = with_part n part.crowded c.link y in
      let link_is : z.inbound n ≡ c.link = ap (λ (d : Local). d.link) (here y n part.crowded c.link) in (
        z,
        (
          c.link,
          subst (λ (d : Local). inbound.Steps n d part.crowded (with_link c.link d)) (sym behind)
              (subst (λ (d : Local). inbound.Steps n b part.crowded d) c_is one.1),
          burst_birth g n x y steps full,
          refl,
        ),
        shown_then before k n part.crowded (insert k.links n new) (Some new) k.ups x shows (put_here k.links n new) (put_elsewhere k.links n new)
            z.inbound narrow (number, subst (Shows new) (sym link_is) one.2)
            (λ some away. subst IsAway (ap (λ (w : Inbound). w.phase) link_is ∙ ap (λ (d : Local). d.link.phase) one.1.1) away)
            (λ m apart. there y n part.crowded c.link m apart ∙ ap (λ (w : Machine). w.inbound m) steps.3
            ∙ there x n came steps.0 m apart)
            (λ s. ap (λ (w : Inbound). up_now (w.tunnels s)) link_is
            ∙ ap (λ (d : Local). up_now (d.link.tunnels s)) one.1.1
            ∙ ap (λ (d : Local). up_now (d.link.tunnels s)) steps.1.1)
            (leaves_index k.ups x.inbound n part.crowded tt shows.index),
      )

  pub dials : (k : Links) (l s u : ℕ) (old new : Link) → get k.links l ≡ Some old
      → ((to : Target) (why : Why) → calls.UpEnters s (e.Dialled u to why) old (Some []) new (Some []))
      → Dials l s u k (touched l before (links_with (insert k.links l new) (insert k.ups u (place l s)) k))
  dials k l s u old new is enters to why =
      lifts_with before uncounted (λ a. ⊤) (λ g m. ⊤) k l old new (insert k.ups u (place l s)) (Some []) (Some [])
      (λ i. part.up s (e.Dialled u to why)) is
      (λ g x y points stands shows steps z others ups.
      born x.inbound z l s u others ups k.ups shows.index steps.1.0.2.0
      (ap (λ (stage : t.Stage). up_by stage ((x.inbound l).tunnels s)) steps.1.0.1)
      (is_new g x points stands u steps.2.birth))
      (up_open s (e.Dialled u to why)) (λ g x holds. tt) (λ g x y shows holds steps. uncounted_frees g l y) (enters to why)

  pub fails : (k : Links) (l s : ℕ) (old new : Link) (told now : Told) → get k.links l ≡ Some old
      → ((to : Target) (why : Why) → calls.UpEnters s (e.DialFailed to why) old told new now)
      → DialFails l s k told (touched l before (links_with (insert k.links l new) k.ups k)) now
  fails k l s old new told now is enters to why =
      lifts_free before (λ a. ⊤) (λ g m. ⊤) k l old new told now (λ i. part.up s (e.DialFailed to why)) is (λ u. refl)
      (up_open s (e.DialFailed to why)) (λ g x holds. tt)
      (enters to why)

-- none stand for no birth
pub none_shown : (k : Links) → ((l : ℕ) → get k.links l ≡ None) → ((u : ℕ) → get k.ups u ≡ None) → ShowsAll k (λ l. no_link)
none_shown k links ups = record {
  links = λ l. subst (λ (o : Option Link). ShowsLink l o no_link) (sym (links l)) (tt, λ s. inl refl);
  index = record {
    found = λ l s u joins. absurd (let some = joins.0 in let is = joins.1 in omega (arith, some, is));
    joined = λ u at found. absurd (let both : None ≡ Some at = sym (ups u) ∙ found in cc);
  };
  numbered = λ l some. absurd (let no = sym (ap is_some (links l)) ∙ some in false≢true no);
  kept = λ l some. absurd (let no = sym (ap is_some (links l)) ∙ some in false≢true no);
  idle = λ l none. record { no_close = refl; idle = λ s. tt };
}
