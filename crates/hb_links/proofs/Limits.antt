-- Other places are counted as far as a limit may go.
use Rattle.std.proofs.Common.{◌≡◌, ⊎_elim, ℕ, ◌+◌, ◌-◌, ◌<◌, ◌≤◌, ◌^◌, min, nat_le, List, [], ◌∷◌, ap, sym, ◌∙◌, arith}
use Rattle.std.proofs.lemmas.Bool.{cases_lt, le-leb}
use Rattle.hb_held.specs.Held.{Resources}
use Rattle.hb_inbound.specs.Part as part
use Rattle.hb_inbound.specs.Part.{Part}
use Rattle.hb_inbound.specs.Runs.{Local}
use Rattle.hb_link.specs.Calls as calls
use Rattle.hb_link.specs.Counting.{CountsPlaces}
use Rattle.hb_link.specs.Noted.{Told}
use Rattle.hb_link.specs.Reaches as link
use Rattle.hb_link.specs.declared.link.Link.{Link}
use Rattle.hb_world.specs.declared.entry.Entry.TheVariants as e

-- what follows under a guard follows under one that says less
leads_more : (G H : link.Guard) → ((a : Local) (p : Part) → G a p → H a p) → (l : ℕ) (a b : Local) (parts : List Part)
    → link.Leads G l a parts b → link.Leads H l a parts b
leads_more G H more l a b [] is = is
leads_more G H more l a b (p ∷ parts) is = (is.0, more a p is.1, is.2, is.3, leads_more G H more l is.2 b parts is.4)

meets_more : (G H : link.Guard) → ((a : Local) (p : Part) → G a p → H a p) → (P : Local → Type 0) (p : Part) (old : Link) (told : Told)
    (new : Link) (now : Told) → link.Meets G P p old told new now → link.Meets H P p old told new now
meets_more G H more P p old told new now meets start before a b stands shows holds step =
    let one = meets start before a b stands shows holds step in (
      one.0,
      record {
        parts = one.1.parts;
        reached = one.1.reached;
        leads = leads_more G H more old.number b one.1.reached one.1.parts one.1.leads;
        shows = one.1.shows;
        noted = one.1.noted;
      },
    )

-- no limit is greater than the greatest number of 64 bits
same_full : (others limit n : ℕ) → limit < 2 ^ 64 → nat_le limit (min others (2 ^ 64 - 1) + n) ≡ nat_le limit (others + n)
same_full others limit n few =
    ⊎_elim
    (λ (fits : others < 2 ^ 64). (let is : min others (2 ^ 64 - 1) ≡ others = omega (arith, fits) in
    ap (λ (o : ℕ). nat_le limit (o + n)) is))
    (λ (more : 2 ^ 64 ≤ others).
    le-leb limit (min others (2 ^ 64 - 1) + n) (omega (arith, few, more)) ∙ sym (le-leb limit (others + n) (omega (arith, few, more))))
    (cases_lt others (2 ^ 64))

counts_all : (others limit : ℕ) → limit < 2 ^ 64 → (a : Local) (p : Part) → CountsPlaces (min others (2 ^ 64 - 1)) limit a p
    → CountsPlaces others limit a p
counts_all others limit few a (part.decided s full answer) counts =
    (counts.0, counts.1, counts.2 ∙ same_full others limit counts.0 few)
counts_all others limit few a p counts = counts

pub takes_all : (held : Resources) (others limit : ℕ) (bytes : List ℕ) (old : Link) (told : Told) (new : Link) (now : Told) → limit < 2 ^ 64
    → calls.Takes held (min others (2 ^ 64 - 1)) limit bytes old told new now → calls.Takes held others limit bytes old told new now
takes_all held others limit bytes old told new now few takes =
    meets_more (CountsPlaces (min others (2 ^ 64 - 1)) limit) (CountsPlaces others limit) (counts_all others limit few)
    (λ a. a.held ≡ held) (part.entry (e.Came old.number bytes)) old told new now takes
