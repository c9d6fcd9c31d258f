-- A lawful trace relays on plain links.
use Rattle.std.proofs.Common.{◌≡◌, ◌⊎◌, inl, inr, ℕ, List, [], ◌∷◌, ◌++◌, drop, Option, Some, None, fold, refl, ap, sym, ◌∙◌, subst}
use Rattle.std.proofs.lemmas.List.{append-nil, append_assoc}
use Rattle.std.proofs.lemmas.List.Concat.{flat_map-append}
use Rattle.hb_captured.specs.Part.{Part, fronted, refused}
use Rattle.hb_captured.specs.Sides.{header_by, header_of, behind, came_in, link_came}
use Rattle.hb_captured.specs.Verdicts.{VerdictLaw}
use Rattle.hb_front.specs.Header.{spelling}
use Rattle.hb_front.specs.Reading.{Seen, IsAnswer, Whole}
use Rattle.hb_held.specs.Held.{Resources}
use Rattle.hb_laws.specs.Lawful.{Laws}
use Rattle.hb_model.specs.declared.config.NodeConfig.{NodeConfig}
use Rattle.hb_proxy.proofs.Owned.{all_owned}
use Rattle.hb_proxy.specs.Doors.{without_doors}
use Rattle.hb_proxy.specs.Held.{at_start}
use Rattle.hb_proxy.specs.Machine.{Machine}
use Rattle.hb_proxy.specs.Runs.{StandsFor}
use Rattle.hb_proxy.specs.Owners.{owner, relay_of, plain_link}
use Rattle.hb_proxy.specs.Points.{Point, entries, plain_of}
use Rattle.hb_world.specs.Trace.{recv, sent}
use Rattle.hb_world.specs.declared.entry.Entry.{Entry}
use Rattle.hb_headline.specs.Relay.{IsFront, IsBehindHeader, PlainRelays}
use Rattle.hb_laws.proofs.Doors.{came_without, went_without, owner_without}

-- a header that stands in front of bytes stands in front of more
pub answer_grows : (bytes more : List ℕ) (seen : Seen) → IsAnswer bytes (Whole seen) → IsAnswer (bytes ++ more) (Whole seen)
answer_grows bytes more seen is =
    (is.0, is.1, is.2, is.3 ++ more, ap (λ (bs : List ℕ). bs ++ more) is.4 ∙ append_assoc (spelling is.0) is.3 more)

-- what some points say of a link the entries say whose entries theirs are
module _ (front : List Point) (before : List Entry) (before_is : entries front ≡ without_doors before) where
  pub came_is : (l : ℕ) → recv l (entries front) ≡ recv l before
  came_is l = ap (recv l) before_is ∙ came_without l before

  pub went_is : (l : ℕ) → sent l (entries front) ≡ sent l before
  went_is l = ap (sent l) before_is ∙ went_without l before

  pub owner_is : (l : ℕ) → owner l (entries front) ≡ owner l before
  owner_is l = ap (owner l) before_is ∙ owner_without l before

-- PLAIN LINKS

-- a header that was told stands in front of the bytes
abbrev pub Tells : List ℕ → Option Seen → Type 0
Tells bytes None = Unit {0}
Tells bytes (Some seen) = IsAnswer bytes (Whole seen)

pub tells_grow : (bytes more : List ℕ) (told : Option Seen) → Tells bytes told → Tells (bytes ++ more) told
tells_grow bytes more None is = tt
tells_grow bytes more (Some seen) is = answer_grows bytes more seen is

came_more : (before : List Part) (p : Part) → link_came (before ++ p ∷ []) ≡ link_came before ++ (came_in p ++ [])
came_more before p = flat_map-append came_in before (p ∷ [])

-- the header that was told stands in front of the bytes that came
pub header_told : (l : ℕ) (start : Resources) (parts : List Part) → VerdictLaw l start parts → (seen : Seen)
    → header_of parts ≡ Some seen → IsAnswer (link_came parts) (Whole seen)
header_told l start parts law seen = go [] parts refl None tt
  where
    step : (before : List Part) (p : Part) (rest : List Part) → parts ≡ before ++ p ∷ rest → (told : Option Seen)
        → Tells (link_came before) told → Tells (link_came before) (header_by told p)
    step before (fronted seen routing aim) rest are told so = (law before (fronted seen routing aim) rest are).0
    step before (refused seen routing why status note) rest are told so = (law before (refused seen routing why status note) rest are).0
    step before _ rest are told so = so

    go : (before rest : List Part) → parts ≡ before ++ rest → (told : Option Seen) → Tells (link_came before) told
        → fold header_by told rest ≡ Some seen → IsAnswer (link_came parts) (Whole seen)
    go before [] are told so is =
        subst (λ (ps : List Part). IsAnswer (link_came ps) (Whole seen)) (sym (are ∙ append-nil before))
        (subst (Tells (link_came before)) is so)
    go before (p ∷ rest) are told so is =
        go (before ++ p ∷ []) rest (are ∙ sym (append_assoc before (p ∷ []) rest)) (header_by told p)
        (subst (λ (bs : List ℕ). Tells bs (header_by told p)) (sym (came_more before p))
        (tells_grow (link_came before) (came_in p ++ []) (header_by told p) (step before p rest are told so))) is

pub none_first : (xs ys : List ℕ) → [] ≡ xs ++ ys → xs ≡ []
none_first [] ys is = refl
none_first (x ∷ xs) ys is = absurd (cc)

-- AT A FRONT of the run, and of its trace
module _ (g : NodeConfig) (x : Machine) (front : List Point) (run : StandsFor g x front) (before : List Entry)
    (before_is : entries front ≡ without_doors before) (laws : Laws g front)
  where
    module _ (l u : ℕ) (own : owner u before ≡ relay_of l) where
      on_points : owner u (entries front) ≡ relay_of l
      on_points = owner_is front before before_is u ∙ own

      -- the link of an upstream is a plain one: no fact of Lawful says so, but the run
      is_plain : owner l (entries front) ≡ plain_link
      is_plain = (all_owned g x front run).relay_over l u on_points

      plain_up : (o : Option Seen) → header_of (plain_of l front) ≡ o → (sent u before ≡ []) ⊎ IsBehindHeader before l (sent u before)
      plain_up None is =
          let ups = laws.relay.plain_ups l u on_points in
          inl (sym (went_is front before before_is u) ∙ none_first (sent u (entries front)) ups.rest
          (ap (λ (o : Option Seen). behind o (recv l (entries front))) (sym is) ∙ ups.front))
      plain_up (Some seen) is =
          let ups = laws.relay.plain_ups l u on_points in
          let side = laws.sides.plain l is_plain in
          let whole = header_told l (at_start g) (plain_of l front) (laws.plain l).verdicts seen is in
          inr (record {
            seen = seen;
            fronted = subst (λ (bs : List ℕ). IsAnswer bs (Whole seen)) (sym side.came ∙ came_is front before before_is l) whole;
            front = record {
              rest = ups.rest;
              is = ap (drop seen.length) (sym (came_is front before before_is l))
                  ∙ ap (λ (o : Option Seen). behind o (recv l (entries front))) (sym is) ∙ ups.front
                  ∙ ap (λ (bs : List ℕ). bs ++ ups.rest) (went_is front before before_is u);
            };
          })

      plain_down : IsFront (sent l before) (recv u before)
      plain_down =
          let downs = laws.relay.plain_downs l u on_points in
          record {
            rest = downs.rest;
            is = sym (came_is front before before_is u) ∙ downs.front
                ∙ ap (λ (bs : List ℕ). bs ++ downs.rest) (went_is front before before_is l);
          }

    pub relays_plain : PlainRelays before
    relays_plain = record {
      up = λ l u own. plain_up l u own (header_of (plain_of l front)) refl;
      down = λ l u own. plain_down l u own;
    }
