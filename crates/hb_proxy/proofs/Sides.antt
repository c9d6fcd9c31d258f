-- The bytes of a link are the same in the trace and in the link's part, in every run.
use Rattle.std.proofs.Common.{◌≡◌, ◌≢◌, ◌⊎◌, inl, inr, ⊎_elim, ℕ, ◌==◌, Bool, false, cond, List, [], ◌∷◌, ◌++◌, Option, Some, None, IfSome, refl, ap, ap₂, sym, ◌∙◌, subst}
use Rattle.std.proofs.lemmas.Bool.{cond_both, cases_eq, eq-eqb, ne_eqb}
use Rattle.std.proofs.lemmas.Grind.{flat_map-append}
use Rattle.std.specs.List.{flat_map}
use Rattle.hb_captured.specs.Part as captured
use Rattle.hb_captured.specs.Sides as plain
use Rattle.hb_gateway.specs.Part as gateway
use Rattle.hb_inbound.specs.Part as part
use Rattle.hb_inbound.specs.Part.{Part}
use Rattle.hb_inbound.specs.Sides.{came_by, went_by, came_in, went_in, up_came_in, up_went_in}
use Rattle.hb_model.proofs.Grown.{one_more}
use Rattle.hb_model.specs.Point as point
use Rattle.hb_model.specs.declared.config.NodeConfig.{NodeConfig}
use Rattle.hb_world.specs.Trace.{came_on, went_on}
use Rattle.hb_world.specs.declared.entry.Entry.{Entry}
use Rattle.hb_world.specs.declared.entry.Entry.TheVariants as e
use Rattle.hb_proxy.specs.Laws.{RunsShareSides}
use Rattle.hb_proxy.specs.Machine.{Machine}
use Rattle.hb_proxy.specs.Owners.{Owner, nobody, control_plane, inbound_link, upstream_of, plain_link, relay_of, gateway_link, link_of, UpstreamLaw, OwnAt}
use Rattle.hb_proxy.specs.Points.{Point, of_control, of_link, of_plain, of_gate, of_stream, entry_in, entries, control_in, control_of, part_in, parts_of, plain_in, plain_of, gate_in, gates_of}
use Rattle.hb_proxy.specs.Runs.{Steps, StandsFor, begins, goes_on}
use Rattle.hb_proxy.specs.Shared.{captured_part, gateway_part}
use Rattle.hb_proxy.proofs.GateChanges.{birth_at}
use Rattle.hb_proxy.proofs.Known.{are_known}
use Rattle.hb_proxy.proofs.Own.{own_at, runs_dial_once}
use Rattle.hb_proxy.proofs.Owned.{whose_in, all_owned, owner_grows}
use Rattle.hb_proxy.proofs.Places.{short}
use Rattle.hb_proxy.proofs.StreamParts.{captured_none, gateway_none, relay_came_in, relay_went_in, relay_came_alone, relay_went_alone}
use Rattle.hb_proxy.proofs.Streamed.{relay_unasked, stream_came_none, stream_went_none}

-- WHICH SIDE A LINK IS

-- of which part the bytes of a link are told, and where in it
data Side : Type 0 where
  no_side : Side
  control_side : (link : ℕ) → Side
  link_side : (link : ℕ) → Side
  up_side : (link stream : ℕ) → Side
  plain_side : (link : ℕ) → Side
  relay_side : (link : ℕ) → Side
  gate_side : (link : ℕ) → Side

-- the link u of this owner is this side
abbrev side_by : ℕ → Owner → Side
side_by u nobody = no_side
side_by u control_plane = control_side u
side_by u inbound_link = link_side u
side_by u (upstream_of l s) = up_side l s
side_by u plain_link = plain_side u
side_by u (relay_of l) = relay_side l
side_by u gateway_link = gate_side u

-- the other way round
abbrev IsSide : Side → ℕ → Owner → Type 0
IsSide no_side u o = o ≡ nobody
IsSide (control_side n) u o = (u ≡ n) × (o ≡ control_plane)
IsSide (link_side n) u o = (u ≡ n) × (o ≡ inbound_link)
IsSide (up_side l s) u o = o ≡ upstream_of l s
IsSide (plain_side n) u o = (u ≡ n) × (o ≡ plain_link)
IsSide (relay_side l) u o = o ≡ relay_of l
IsSide (gate_side n) u o = (u ≡ n) × (o ≡ gateway_link)

is_side : (side : Side) (u : ℕ) (o : Owner) → side_by u o ≡ side → IsSide side u o
is_side side u o same = subst (λ (m : Side). IsSide m u o) same (itself u o)
  where
    itself : (u : ℕ) (o : Owner) → IsSide (side_by u o) u o
    itself u nobody = refl
    itself u control_plane = (refl, refl)
    itself u inbound_link = (refl, refl)
    itself u (upstream_of l s) = refl
    itself u plain_link = (refl, refl)
    itself u (relay_of l) = refl
    itself u gateway_link = (refl, refl)

-- which side a link is behind these points
abbrev side_in : List Point → ℕ → Side
side_in points u = side_by u (whose_in points u)

-- no two links are one side
once : (points : List Point) → UpstreamLaw (entries points) → (side : Side) → side ≢ no_side → (u v : ℕ)
    → side_in points u ≡ side → side_in points v ≡ side → u ≡ v
once points law side some u v mine other =
    by side some (is_side side u (whose_in points u) mine) (is_side side v (whose_in points v) other)
  where
    by : (side : Side) → side ≢ no_side → IsSide side u (whose_in points u) → IsSide side v (whose_in points v) → u ≡ v
    by no_side some a b = absurd (some refl)
    by (control_side n) some a b = a.0 ∙ sym b.0
    by (link_side n) some a b = a.0 ∙ sym b.0
    by (up_side l s) some a b = law.streams l s u v a b
    by (plain_side n) some a b = a.0 ∙ sym b.0
    by (relay_side l) some a b = law.relays l u v a b
    by (gate_side n) some a b = a.0 ∙ sym b.0

-- WHAT A PART OF A LINK SAYS

-- where an entry stands on no link, nothing is said
abbrev Rests : {A : Type 0} → (A → List Entry) → (A → List ℕ) → Type 0
Rests {A} entries_in f = (p : A) → ((z : Entry) → entries_in p ≡ z ∷ [] → link_of z ≡ None) → f p ≡ []

-- The bytes that came, or those that went: on a link of the trace, by an entry, and by a part on its link and on a stream's upstream, and
-- by a part of the plain door on its link and on the upstream; and by one of a link to a gateway
record IsWay (on : ℕ → Entry → List ℕ) (by : Entry → List ℕ) (link_in : Part → List ℕ) (up_in : ℕ → Part → List ℕ)
    (captured_in relay_in : captured.Part → List ℕ) (gate_in : gateway.Part → List ℕ) : Type 0 where
  mine : (n : ℕ) (z : Entry) → link_of z ≡ Some n → on n z ≡ by z
  others : (n k : ℕ) (z : Entry) → link_of z ≡ Some k → (k ≡ n → ⊥) → on n z ≡ []
  none : (n : ℕ) (z : Entry) → link_of z ≡ None → on n z ≡ []
  link_entry : (z : Entry) → link_in (part.entry z) ≡ by z
  link_up : (s : ℕ) (z : Entry) → link_in (part.up s z) ≡ []
  link_rests : Rests part.entry_in link_in
  up_up : (s k : ℕ) (z : Entry) → up_in s (part.up k z) ≡ cond (k == s) (by z) []
  up_entry : (s : ℕ) (z : Entry) → up_in s (part.entry z) ≡ []
  up_rests : (s : ℕ) → Rests part.entry_in (up_in s)
  plain_entry : (z : Entry) → captured_in (captured.entry z) ≡ by z
  plain_up : (z : Entry) → captured_in (captured.up z) ≡ []
  plain_rests : Rests captured.entry_in captured_in
  relay_up : (z : Entry) → relay_in (captured.up z) ≡ by z
  relay_entry : (z : Entry) → relay_in (captured.entry z) ≡ []
  relay_rests : Rests captured.entry_in relay_in
  gate_entry : (z : Entry) → gate_in (gateway.entry z) ≡ by z
  gate_rests : Rests gateway.entry_in gate_in

came : IsWay came_on came_by came_in up_came_in plain.came_in relay_came_in gateway.came_in
came = record {
  mine = mine;
  others = others;
  none = none;
  link_entry = λ z. refl;
  link_up = λ s z. refl;
  link_rests = link_rests;
  up_up = λ s k z. refl;
  up_entry = λ s z. refl;
  up_rests = up_rests;
  plain_entry = same;
  plain_up = λ z. refl;
  plain_rests = plain_rests;
  relay_up = same;
  relay_entry = λ z. refl;
  relay_rests = relay_rests;
  gate_entry = gate_same;
  gate_rests = gate_rests;
}
  where
    mine : (n : ℕ) (z : Entry) → link_of z ≡ Some n → came_on n z ≡ came_by z
    mine n (e.Came k bytes) is = ap (λ b. cond b bytes []) (eq-eqb k n (let same : k ≡ n = cc in same))
    mine n _ is = refl

    others : (n k : ℕ) (z : Entry) → link_of z ≡ Some k → (k ≡ n → ⊥) → came_on n z ≡ []
    others n k (e.Came j bytes) is apart = (let same : j ≡ k = cc in ap (λ b. cond b bytes []) (ne_eqb j n (λ h. apart (sym same ∙ h))))
    others n k _ is apart = refl

    none : (n : ℕ) (z : Entry) → link_of z ≡ None → came_on n z ≡ []
    none n (e.Came j bytes) is = absurd cc
    none n _ is = refl

    silent : (z : Entry) → link_of z ≡ None → came_by z ≡ []
    silent (e.Came j bytes) is = absurd cc
    silent _ is = refl

    same : (z : Entry) → plain.came_by z ≡ came_by z
    same (e.Came j bytes) = refl
    same _ = refl

    link_rests : Rests part.entry_in came_in
    link_rests (part.entry z) rests = silent z (rests z refl)
    link_rests _ rests = refl

    up_rests : (s : ℕ) → Rests part.entry_in (up_came_in s)
    up_rests s (part.up k z) rests =
        cond_both (k == s) (came_by z) [] (λ b. b ≡ []) (λ h. silent z (rests z refl)) (λ h. refl)
    up_rests s _ rests = refl

    plain_rests : Rests captured.entry_in plain.came_in
    plain_rests (captured.entry z) rests = same z ∙ silent z (rests z refl)
    plain_rests _ rests = refl

    relay_rests : Rests captured.entry_in relay_came_in
    relay_rests (captured.up z) rests = same z ∙ silent z (rests z refl)
    relay_rests _ rests = refl

    gate_same : (z : Entry) → gateway.came_by z ≡ came_by z
    gate_same (e.Came j bytes) = refl
    gate_same _ = refl

    gate_rests : Rests gateway.entry_in gateway.came_in
    gate_rests (gateway.entry z) rests = gate_same z ∙ silent z (rests z refl)
    gate_rests _ rests = refl

went : IsWay went_on went_by went_in up_went_in plain.went_in relay_went_in gateway.went_in
went = record {
  mine = mine;
  others = others;
  none = none;
  link_entry = λ z. refl;
  link_up = λ s z. refl;
  link_rests = link_rests;
  up_up = λ s k z. refl;
  up_entry = λ s z. refl;
  up_rests = up_rests;
  plain_entry = same;
  plain_up = λ z. refl;
  plain_rests = plain_rests;
  relay_up = same;
  relay_entry = λ z. refl;
  relay_rests = relay_rests;
  gate_entry = gate_same;
  gate_rests = gate_rests;
}
  where
    mine : (n : ℕ) (z : Entry) → link_of z ≡ Some n → went_on n z ≡ went_by z
    mine n (e.Went k bytes) is = ap (λ b. cond b bytes []) (eq-eqb k n (let same : k ≡ n = cc in same))
    mine n _ is = refl

    others : (n k : ℕ) (z : Entry) → link_of z ≡ Some k → (k ≡ n → ⊥) → went_on n z ≡ []
    others n k (e.Went j bytes) is apart = (let same : j ≡ k = cc in ap (λ b. cond b bytes []) (ne_eqb j n (λ h. apart (sym same ∙ h))))
    others n k _ is apart = refl

    none : (n : ℕ) (z : Entry) → link_of z ≡ None → went_on n z ≡ []
    none n (e.Went j bytes) is = absurd cc
    none n _ is = refl

    silent : (z : Entry) → link_of z ≡ None → went_by z ≡ []
    silent (e.Went j bytes) is = absurd cc
    silent _ is = refl

    same : (z : Entry) → plain.went_by z ≡ went_by z
    same (e.Went j bytes) = refl
    same _ = refl

    link_rests : Rests part.entry_in went_in
    link_rests (part.entry z) rests = silent z (rests z refl)
    link_rests _ rests = refl

    up_rests : (s : ℕ) → Rests part.entry_in (up_went_in s)
    up_rests s (part.up k z) rests =
        cond_both (k == s) (went_by z) [] (λ b. b ≡ []) (λ h. silent z (rests z refl)) (λ h. refl)
    up_rests s _ rests = refl

    plain_rests : Rests captured.entry_in plain.went_in
    plain_rests (captured.entry z) rests = same z ∙ silent z (rests z refl)
    plain_rests _ rests = refl

    relay_rests : Rests captured.entry_in relay_went_in
    relay_rests (captured.up z) rests = same z ∙ silent z (rests z refl)
    relay_rests _ rests = refl

    gate_same : (z : Entry) → gateway.wrote_by z ≡ went_by z
    gate_same (e.Went j bytes) = refl
    gate_same _ = refl

    gate_rests : Rests gateway.entry_in gateway.went_in
    gate_rests (gateway.entry z) rests = gate_same z ∙ silent z (rests z refl)
    gate_rests _ rests = refl

-- what is said of the parts of a link in a run, behind one point more
said_more : {A B : Type 0} (f : A → List B) (parts : Point → List A) (points : List Point) (p : Point)
    → flat_map f (flat_map parts (points ++ p ∷ [])) ≡ flat_map f (flat_map parts points) ++ flat_map f (parts p)
said_more f parts points p = ap (flat_map f) (one_more parts points p) ∙ flat_map-append f (flat_map parts points) (parts p)

-- what is said of the part of the link l, to the link n
module _ {A : Type 0} (f : A → List ℕ) (l n : ℕ) (p : A) where
  said_here : l ≡ n → flat_map f (cond (l == n) (p ∷ []) []) ≡ f p ++ []
  said_here same = ap (λ (b : Bool). flat_map f (cond b (p ∷ []) [])) (eq-eqb l n same)

  said_else : (l ≡ n → ⊥) → flat_map f (cond (l == n) (p ∷ []) []) ≡ []
  said_else apart = ap (λ (b : Bool). flat_map f (cond b (p ∷ []) [])) (ne_eqb l n apart)

  said_none : f p ≡ [] → flat_map f (cond (l == n) (p ∷ []) []) ≡ []
  said_none none =
      cond_both (l == n) (p ∷ []) [] (λ ps. flat_map f ps ≡ []) (λ same. ap (λ b. b ++ []) none) (λ apart. refl)

module _ (on : ℕ → Entry → List ℕ) (by : Entry → List ℕ) (link_in : Part → List ℕ) (up_in : ℕ → Part → List ℕ)
    (captured_in relay_in : captured.Part → List ℕ) (gate_said : gateway.Part → List ℕ)
    (way : IsWay on by link_in up_in captured_in relay_in gate_said) where
  -- what a point says of a link of the trace, and of a side of its part; and what a run does
  abbrev told : ℕ → Point → List ℕ
  told n p = flat_map (on n) (entry_in p)

  abbrev tells : Side → Point → List ℕ
  tells no_side p = []
  tells (control_side n) p = flat_map (on n) (flat_map point.entry_in (control_in p))
  tells (link_side l) p = flat_map link_in (part_in l p)
  tells (up_side l s) p = flat_map (up_in s) (part_in l p)
  tells (plain_side l) p = flat_map captured_in (plain_in l p)
  tells (relay_side l) p = flat_map relay_in (plain_in l p)
  tells (gate_side n) p = flat_map gate_said (gate_in n p)

  abbrev all_told : List Point → ℕ → List ℕ
  all_told points n = flat_map (on n) (entries points)

  abbrev all_tell : List Point → Side → List ℕ
  all_tell points no_side = []
  all_tell points (control_side n) = flat_map (on n) (point.entries (control_of points))
  all_tell points (link_side l) = flat_map link_in (parts_of l points)
  all_tell points (up_side l s) = flat_map (up_in s) (parts_of l points)
  all_tell points (plain_side l) = flat_map captured_in (plain_of l points)
  all_tell points (relay_side l) = flat_map relay_in (plain_of l points)
  all_tell points (gate_side n) = flat_map gate_said (gates_of n points)

  -- a side says what the trace says of the link that is it, and nothing where none is
  record Shares (side_of : ℕ → Side) (all : ℕ → List ℕ) (tell : Side → List ℕ) : Type 0 where
    is : (side : Side) (u : ℕ) → side_of u ≡ side → tell side ≡ all u
    none : (side : Side) → ((u : ℕ) → side_of u ≡ side → ⊥) → tell side ≡ []

  abbrev SharesAt : List Point → Point → Type 0
  SharesAt before p = Shares (side_in before) (λ n. told n p) (λ side. tells side p)

  abbrev SharesIn : List Point → Type 0
  SharesIn points = Shares (side_in points) (all_told points) (all_tell points)

  -- A POINT WHOSE ENTRY, IF IT HAS ONE, STANDS ON NO LINK

  abbrev OnNone : Point → Type 0
  OnNone p = (z : Entry) → entry_in p ≡ z ∷ [] → link_of z ≡ None

  no_entry : {z : Entry} → [] ≡ z ∷ [] → ⊥
  no_entry is = cc

  parts_rest : (f : Part → List ℕ) → Rests part.entry_in f → (l : ℕ) (p : Point) → OnNone p → flat_map f (part_in l p) ≡ []
  parts_rest f rests l (of_control (point.applied k r)) none = ap (λ b. b ++ []) (rests (part.applied r) (λ z is. absurd cc))
  parts_rest f rests l (of_control (point.stopped why)) none = ap (λ b. b ++ []) (rests (part.stopped why) (λ z is. absurd cc))
  parts_rest f rests l (of_control q) none = refl
  parts_rest f rests l (of_link k p) none = said_none f k l p (rests p none)
  parts_rest f rests l (of_plain k p) none = refl
  parts_rest f rests l (of_gate n p) none = refl
  parts_rest f rests l (of_stream k n s w) none = refl

  plain_rest : (f : captured.Part → List ℕ) → Rests captured.entry_in f → (l : ℕ) (p : Point) → OnNone p → flat_map f (plain_in l p) ≡ []
  plain_rest f rests l (of_control (point.applied k r)) none = ap (λ b. b ++ []) (rests (captured.applied r) (λ z is. absurd cc))
  plain_rest f rests l (of_control (point.stopped why)) none = ap (λ b. b ++ []) (rests (captured.stopped why) (λ z is. absurd cc))
  plain_rest f rests l (of_control q) none = refl
  plain_rest f rests l (of_link k p) none = refl
  plain_rest f rests l (of_plain k p) none = said_none f k l p (rests p none)
  plain_rest f rests l (of_gate n p) none = refl
  plain_rest f rests l (of_stream k n s w) none =
      said_none f k l (captured_part n s w) (rests (captured_part n s w) (λ z is. absurd (no_entry (sym (captured_none n s w) ∙ is))))

  gate_rest : (f : gateway.Part → List ℕ) → Rests gateway.entry_in f → (n : ℕ) (p : Point) → OnNone p → flat_map f (gate_in n p) ≡ []
  gate_rest f rests n (of_control (point.stopped why)) none = ap (λ b. b ++ []) (rests (gateway.stopped why) (λ z is. absurd cc))
  gate_rest f rests n (of_control q) none = refl
  gate_rest f rests n (of_link k p) none = refl
  gate_rest f rests n (of_plain k p) none = refl
  gate_rest f rests n (of_gate k p) none = said_none f k n p (rests p none)
  gate_rest f rests n (of_stream l k s w) none =
      said_none f k n (gateway_part l s w) (rests (gateway_part l s w) (λ z is. absurd (no_entry (sym (gateway_none l s w) ∙ is))))

  side_rests : (side : Side) (p : Point) → OnNone p → tells side p ≡ []
  side_rests no_side p none = refl
  side_rests (control_side n) (of_control (point.entry z)) none = ap (λ b. b ++ []) (way.none n z (none z refl))
  side_rests (control_side n) (of_control q) none = refl
  side_rests (control_side n) (of_link l p) none = refl
  side_rests (control_side n) (of_plain l p) none = refl
  side_rests (control_side n) (of_gate k p) none = refl
  side_rests (control_side n) (of_stream l k s w) none = refl
  side_rests (link_side l) p none = parts_rest link_in way.link_rests l p none
  side_rests (up_side l s) p none = parts_rest (up_in s) (way.up_rests s) l p none
  side_rests (plain_side l) p none = plain_rest captured_in way.plain_rests l p none
  side_rests (relay_side l) p none = plain_rest relay_in way.relay_rests l p none
  side_rests (gate_side n) p none = gate_rest gate_said way.gate_rests n p none

  told_rests : (u : ℕ) (p : Point) → OnNone p → told u p ≡ []
  told_rests u p none =
      ⊎_elim (λ no_entry. ap (flat_map (on u)) no_entry)
      (λ h. ap (flat_map (on u)) h.1 ∙ ap (λ b. b ++ []) (way.none u h.0 (none h.0 h.1))) (short p)

  rests_shares : (before : List Point) (p : Point) → OnNone p → SharesAt before p
  rests_shares before p none = record {
    is = λ side u same. side_rests side p none ∙ sym (told_rests u p none);
    none = λ side absent. side_rests side p none;
  }

  -- AN ENTRY ON THE LINK k

  module _ (before : List Point) (z : Entry) (k : ℕ) (is : link_of z ≡ Some k) where
    -- the link is this side, of which the point says what the trace does, or it isn't, and the point says nothing of it
    abbrev Says : Point → Side → Type 0
    Says p side = ((side_in before k ≡ side) × (tells side p ≡ by z ++ [])) ⊎ ((side_in before k ≢ side) × (tells side p ≡ []))

    told_here : flat_map (on k) (z ∷ []) ≡ by z ++ []
    told_here = ap (λ b. b ++ []) (way.mine k z is)

    told_else : (n : ℕ) → (k ≡ n → ⊥) → flat_map (on n) (z ∷ []) ≡ []
    told_else n apart = ap (λ b. b ++ []) (way.others n k z is apart)

    entry_shares : UpstreamLaw (entries before) → side_in before k ≢ no_side → (p : Point) → entry_in p ≡ z ∷ []
        → ((side : Side) → Says p side) → SharesAt before p
    entry_shares law some p told_is says = record { is = is_so; none = λ side absent. none_so side absent (says side) }
      where
        one : (u : ℕ) → told u p ≡ flat_map (on u) (z ∷ [])
        one u = ap (flat_map (on u)) told_is

        by_says : (side : Side) → side ≢ no_side → (u : ℕ) → side_in before u ≡ side → Says p side → tells side p ≡ told u p
        by_says side known u same (inl (mine, said)) =
            said ∙ sym told_here ∙ sym (one k) ∙ ap (λ (j : ℕ). told j p) (once before law side known k u mine same)
        by_says side known u same (inr (not, said)) =
            said ∙ sym (one u ∙ told_else u (λ here. not (ap (side_in before) here ∙ same)))

        is_so : (side : Side) (u : ℕ) → side_in before u ≡ side → tells side p ≡ told u p
        is_so no_side u same = sym (one u ∙ told_else u (λ here. some (ap (side_in before) here ∙ same)))
        is_so side u same = by_says side (λ none. cc) u same (says side)

        none_so : (side : Side) → ((u : ℕ) → side_in before u ≡ side → ⊥) → Says p side → tells side p ≡ []
        none_so side absent (inl (mine, said)) = absurd (absent k mine)
        none_so side absent (inr (not, said)) = said

    -- the link is another side
    differs : (own : Side) → side_in before k ≡ own → (side : Side) → own ≢ side → side_in before k ≢ side
    differs own mine side apart same = apart (sym mine ∙ same)

    module _ (mine : whose_in before k ≡ control_plane) where
      control_says : (side : Side) → Says (of_control (point.entry z)) side
      control_says (control_side n) =
          ⊎_elim (λ same. inl (ap (side_by k) mine ∙ ap control_side same, ap (λ (j : ℕ). flat_map (on j) (z ∷ [])) (sym same) ∙ told_here))
          (λ apart. inr (differs (control_side k) (ap (side_by k) mine) (control_side n) (λ same. apart (cc)), told_else n apart))
          (cases_eq k n)
      control_says side = inr (differs (control_side k) (ap (side_by k) mine) side (λ same. cc), refl)

    module _ (l : ℕ) (at_l : k ≡ l) (mine : whose_in before k ≡ inbound_link) where
      link_says : (side : Side) → Says (of_link l (part.entry z)) side
      link_says (link_side n) =
          ⊎_elim (λ same. inl (
            ap (side_by k) mine ∙ ap link_side (at_l ∙ same),
            said_here link_in l n (part.entry z) same ∙ ap (λ b. b ++ []) (way.link_entry z),
          ))
          (λ apart. inr (
            differs (link_side k) (ap (side_by k) mine) (link_side n) (λ same. apart (sym at_l ∙ (cc))),
            said_else link_in l n (part.entry z) apart,
          ))
          (cases_eq l n)
      link_says (up_side j s) = inr (
        differs (link_side k) (ap (side_by k) mine) (up_side j s) (λ same. cc),
        said_none (up_in s) l j (part.entry z) (way.up_entry s z),
      )
      link_says side = inr (differs (link_side k) (ap (side_by k) mine) side (λ same. cc), refl)

    module _ (l s : ℕ) (mine : whose_in before k ≡ upstream_of l s) where
      up_says : (side : Side) → Says (of_link l (part.up s z)) side
      up_says (up_side j t) =
          ⊎_elim (λ same. ⊎_elim (here same) (λ apart. inr (
            differs (up_side l s) (ap (side_by k) mine) (up_side j t) (λ both. apart (cc)),
            said_none (up_in t) l j (part.up s z) (way.up_up t s z ∙ ap (λ (b : Bool). cond b (by z) []) (ne_eqb s t apart)),
          ))
          (cases_eq s t))
          (λ apart. inr (
            differs (up_side l s) (ap (side_by k) mine) (up_side j t) (λ both. apart (cc)),
            said_else (up_in t) l j (part.up s z) apart,
          ))
          (cases_eq l j)
        where
          here : l ≡ j → s ≡ t → Says (of_link l (part.up s z)) (up_side j t)
          here at_j at_t = inl (
            ap (side_by k) mine ∙ ap₂ up_side at_j at_t,
            said_here (up_in t) l j (part.up s z) at_j
                ∙ ap (λ b. b ++ []) (way.up_up t s z ∙ ap (λ (b : Bool). cond b (by z) []) (eq-eqb s t at_t)),
          )
      up_says (link_side n) = inr (
        differs (up_side l s) (ap (side_by k) mine) (link_side n) (λ same. cc),
        said_none link_in l n (part.up s z) (way.link_up s z),
      )
      up_says side = inr (differs (up_side l s) (ap (side_by k) mine) side (λ same. cc), refl)

    module _ (l : ℕ) (at_l : k ≡ l) (mine : whose_in before k ≡ plain_link) where
      plain_says : (side : Side) → Says (of_plain l (captured.entry z)) side
      plain_says (plain_side n) =
          ⊎_elim (λ same. inl (
            ap (side_by k) mine ∙ ap plain_side (at_l ∙ same),
            said_here captured_in l n (captured.entry z) same ∙ ap (λ b. b ++ []) (way.plain_entry z),
          ))
          (λ apart. inr (
            differs (plain_side k) (ap (side_by k) mine) (plain_side n) (λ same. apart (sym at_l ∙ (cc))),
            said_else captured_in l n (captured.entry z) apart,
          ))
          (cases_eq l n)
      plain_says (relay_side n) = inr (
        differs (plain_side k) (ap (side_by k) mine) (relay_side n) (λ same. cc),
        said_none relay_in l n (captured.entry z) (way.relay_entry z),
      )
      plain_says side = inr (differs (plain_side k) (ap (side_by k) mine) side (λ same. cc), refl)

    module _ (l : ℕ) (mine : whose_in before k ≡ relay_of l) where
      relay_says : (side : Side) → Says (of_plain l (captured.up z)) side
      relay_says (relay_side n) =
          ⊎_elim (λ same. inl (
            ap (side_by k) mine ∙ ap relay_side same,
            said_here relay_in l n (captured.up z) same ∙ ap (λ b. b ++ []) (way.relay_up z),
          ))
          (λ apart. inr (
            differs (relay_side l) (ap (side_by k) mine) (relay_side n) (λ same. apart (cc)),
            said_else relay_in l n (captured.up z) apart,
          ))
          (cases_eq l n)
      relay_says (plain_side n) = inr (
        differs (relay_side l) (ap (side_by k) mine) (plain_side n) (λ same. cc),
        said_none captured_in l n (captured.up z) (way.plain_up z),
      )
      relay_says side = inr (differs (relay_side l) (ap (side_by k) mine) side (λ same. cc), refl)

    module _ (n : ℕ) (at_n : k ≡ n) (mine : whose_in before k ≡ gateway_link) where
      gate_says : (side : Side) → Says (of_gate n (gateway.entry z)) side
      gate_says (gate_side j) =
          ⊎_elim (λ same. inl (
            ap (side_by k) mine ∙ ap gate_side (at_n ∙ same),
            said_here gate_said n j (gateway.entry z) same ∙ ap (λ b. b ++ []) (way.gate_entry z),
          ))
          (λ apart. inr (
            differs (gate_side k) (ap (side_by k) mine) (gate_side j) (λ same. apart (sym at_n ∙ (cc))),
            said_else gate_said n j (gateway.entry z) apart,
          ))
          (cases_eq n j)
      gate_says side = inr (differs (gate_side k) (ap (side_by k) mine) side (λ same. cc), refl)

  -- EVERY POINT, WHERE ITS ENTRY STANDS ON A LINK OF ITS OWN

  -- a dial of a link to a gateway stands on none
  abbrev StandsNowhere : Point → Type 0
  StandsNowhere (of_gate n (gateway.dialled z key)) = link_of z ≡ None
  StandsNowhere p = Unit {0}

  module _ (before : List Point) (law : UpstreamLaw (entries before)) where
    -- an entry stands on no link, or on one of which this holds
    by_link : (P : ℕ → Type 0) (z : Entry) (p : Point) → entry_in p ≡ z ∷ [] → IfSome (link_of z) P
        → ((k : ℕ) → link_of z ≡ Some k → P k → SharesAt before p) → SharesAt before p
    by_link P z p told_is own each = split (link_of z) refl own
      where
        split : (o : Option ℕ) → link_of z ≡ o → IfSome o P → SharesAt before p
        split None is h =
            rests_shares before p
            (λ y told_y. (let same : z ≡ y = (let both : z ∷ [] ≡ y ∷ [] = sym told_is ∙ told_y in cc) in
            subst (λ (v : Entry). link_of v ≡ None) same is))
        split (Some k) is h = each k is h

    -- the owner of a link is somebody
    owned : (k : ℕ) (o : Owner) → whose_in before k ≡ o → side_by k o ≢ no_side → side_in before k ≢ no_side
    owned k o mine some same = some (sym (ap (side_by k) mine) ∙ same)

    point_shares : (p : Point) → OwnAt before p → StandsNowhere p → SharesAt before p
    point_shares (of_control (point.entry z)) own dial =
        by_link (λ k. whose_in before k ≡ control_plane) z (of_control (point.entry z)) refl own
        (λ k is h. entry_shares before z k is law (owned k control_plane h (λ same. cc)) (of_control (point.entry z)) refl
        (control_says before z k is h))
    point_shares (of_link l (part.entry z)) own dial =
        by_link (λ k. (k ≡ l) × (whose_in before k ≡ inbound_link)) z (of_link l (part.entry z)) refl own
        (λ k is h. entry_shares before z k is law (owned k inbound_link h.1 (λ same. cc)) (of_link l (part.entry z)) refl
        (link_says before z k is l h.0 h.1))
    point_shares (of_link l (part.up s z)) own dial =
        by_link (λ k. whose_in before k ≡ upstream_of l s) z (of_link l (part.up s z)) refl own
        (λ k is h. entry_shares before z k is law (owned k (upstream_of l s) h (λ same. cc)) (of_link l (part.up s z)) refl
        (up_says before z k is l s h))
    point_shares (of_plain l (captured.entry z)) own dial =
        by_link (λ k. (k ≡ l) × (whose_in before k ≡ plain_link)) z (of_plain l (captured.entry z)) refl own
        (λ k is h. entry_shares before z k is law (owned k plain_link h.1 (λ same. cc)) (of_plain l (captured.entry z)) refl
        (plain_says before z k is l h.0 h.1))
    point_shares (of_plain l (captured.up z)) own dial =
        by_link (λ k. whose_in before k ≡ relay_of l) z (of_plain l (captured.up z)) refl own
        (λ k is h. entry_shares before z k is law (owned k (relay_of l) h (λ same. cc)) (of_plain l (captured.up z)) refl
        (relay_says before z k is l h))
    point_shares (of_gate n (gateway.entry z)) own dial =
        by_link (λ k. (k ≡ n) × (whose_in before k ≡ gateway_link)) z (of_gate n (gateway.entry z)) refl own
        (λ k is h. entry_shares before z k is law (owned k gateway_link h.1 (λ same. cc)) (of_gate n (gateway.entry z)) refl
        (gate_says before z k is n h.0 h.1))
    point_shares (of_gate n (gateway.dialled z key)) own dial =
        rests_shares before (of_gate n (gateway.dialled z key))
        (λ y told_y. (let same : z ≡ y = cc in subst (λ (v : Entry). link_of v ≡ None) same dial))
    point_shares (of_control q) own dial = rests_shares before (of_control q) (λ z told_z. absurd cc)
    point_shares (of_link l p) own dial = rests_shares before (of_link l p) (λ z told_z. absurd cc)
    point_shares (of_plain l p) own dial = rests_shares before (of_plain l p) (λ z told_z. absurd cc)
    point_shares (of_gate n p) own dial = rests_shares before (of_gate n p) (λ z told_z. absurd cc)
    point_shares (of_stream l n s w) own dial = rests_shares before (of_stream l n s w) (λ z told_z. absurd cc)

  -- ONE POINT MORE

  -- a link that is somebody's stays so
  abbrev Grows : (old new : ℕ → Side) → Type 0
  Grows old new = (n : ℕ) → (old n ≡ no_side) ⊎ (new n ≡ old n)

  tell_more : (points : List Point) (p : Point) (side : Side)
      → all_tell (points ++ p ∷ []) side ≡ all_tell points side ++ tells side p
  tell_more points p no_side = refl
  tell_more points p (control_side n) =
      ap (flat_map (on n)) (said_more point.entry_in control_in points p)
      ∙ flat_map-append (on n) (point.entries (control_of points)) (flat_map point.entry_in (control_in p))
  tell_more points p (link_side l) = said_more link_in (part_in l) points p
  tell_more points p (up_side l s) = said_more (up_in s) (part_in l) points p
  tell_more points p (plain_side l) = said_more captured_in (plain_in l) points p
  tell_more points p (relay_side l) = said_more relay_in (plain_in l) points p
  tell_more points p (gate_side n) = said_more gate_said (gate_in n) points p

  module _ (points : List Point) (p : Point) (so_far : SharesIn points) (now : SharesAt points p)
      (grows : Grows (side_in points) (side_in (points ++ p ∷ []))) (law : UpstreamLaw (entries (points ++ p ∷ []))) where
    told_more : (n : ℕ) → all_told (points ++ p ∷ []) n ≡ all_told points n ++ told n p
    told_more n = said_more (on n) entry_in points p

    -- where no link was this side, nothing is said of it
    tell_none : (side : Side) → ((u : ℕ) → side_in points u ≡ side → ⊥) → all_tell (points ++ p ∷ []) side ≡ []
    tell_none side absent = tell_more points p side ∙ ap₂ (λ a b. a ++ b) (so_far.none side absent) (now.none side absent)

    module _ (side : Side) (some : side ≢ no_side) where
      stays : (n : ℕ) → side_in points n ≡ side → side_in (points ++ p ∷ []) n ≡ side
      stays n is = ⊎_elim (λ none. absurd (some (sym is ∙ none))) (λ same. same ∙ is) (grows n)

      -- where a link is new, none was its side before
      newly : (u : ℕ) → side_in (points ++ p ∷ []) u ≡ side → side_in points u ≡ no_side → (v : ℕ) → side_in points v ≡ side → ⊥
      newly u is none v mine =
          let same = once (points ++ p ∷ []) law side some v u (stays v mine) is in
          some (sym mine ∙ ap (side_in points) same ∙ none)

      is_more : (u : ℕ) → side_in (points ++ p ∷ []) u ≡ side → all_tell (points ++ p ∷ []) side ≡ all_told (points ++ p ∷ []) u
      is_more u is =
          ⊎_elim (λ none. tell_none side (newly u is none)
          ∙ sym (told_more u ∙ ap₂ (λ a b. a ++ b) (sym (so_far.is no_side u none)) (sym (now.is no_side u none))))
          (λ same. tell_more points p side
          ∙ ap₂ (λ a b. a ++ b) (so_far.is side u (sym same ∙ is)) (now.is side u (sym same ∙ is)) ∙ sym (told_more u)) (grows u)

    share_more : SharesIn (points ++ p ∷ [])
    share_more = record { is = is_so; none = none_so }
      where
        is_so : (side : Side) (u : ℕ) → side_in (points ++ p ∷ []) u ≡ side
            → all_tell (points ++ p ∷ []) side ≡ all_told (points ++ p ∷ []) u
        is_so no_side u is =
            let was : side_in points u ≡ no_side = ⊎_elim (λ none. none) (λ same. sym same ∙ is) (grows u) in
            sym (told_more u ∙ ap₂ (λ a b. a ++ b) (sym (so_far.is no_side u was)) (sym (now.is no_side u was)))
        is_so side u is = is_more side (λ none. cc) u is

        none_so : (side : Side) → ((u : ℕ) → side_in (points ++ p ∷ []) u ≡ side → ⊥) → all_tell (points ++ p ∷ []) side ≡ []
        none_so no_side absent = refl
        none_so side absent = tell_none side (λ u mine. absent u (stays side (λ none. cc) u mine))

  nothing_told : (side : Side) → all_tell [] side ≡ []
  nothing_told no_side = refl
  nothing_told _ = refl

  all_share : (g : NodeConfig) (x : Machine) (points : List Point) → StandsFor g x points → SharesIn points
  all_share g x points (begins is empty) =
      subst (λ (ps : List Point). SharesIn ps) (sym empty)
      (record { is = λ side u same. nothing_told side; none = λ side absent. nothing_told side })
  all_share g y more (goes_on {x = x} {points = points} stands p steps are) =
      subst (λ (ps : List Point). SharesIn ps) (sym are)
      (share_more points p (all_share g x points stands)
      (point_shares points (runs_dial_once g x points stands) p (own_at g x points (all_owned g x points stands) p y steps)
      (nowhere p steps))
      (λ n. ⊎_elim (λ none. inl (ap (side_by n) none)) (λ same. inr (ap (side_by n) same)) (owner_grows g x points stands p y steps n))
      (runs_dial_once g y (points ++ p ∷ []) (goes_on stands p steps refl)))
    where
      nowhere : (p : Point) → Steps g x p y → StandsNowhere p
      nowhere (of_gate n (gateway.dialled z key)) steps = ap link_of (birth_at n (x.gates n) z key steps.1.0).0.4
      nowhere (of_gate n (gateway.entry z)) steps = tt
      nowhere (of_gate n gateway.lacked) steps = tt
      nowhere (of_gate n (gateway.looked ps told_is headers)) steps = tt
      nowhere (of_gate n (gateway.asks s l authority)) steps = tt
      nowhere (of_gate n (gateway.tells s heard begun)) steps = tt
      nowhere (of_gate n (gateway.put s bytes count)) steps = tt
      nowhere (of_gate n (gateway.finished s)) steps = tt
      nowhere (of_gate n (gateway.credited s count)) steps = tt
      nowhere (of_gate n (gateway.reset s code)) steps = tt
      nowhere (of_gate n (gateway.dropped s begun)) steps = tt
      nowhere (of_gate n (gateway.done s begun)) steps = tt
      nowhere (of_gate n (gateway.stopped why)) steps = tt
      nowhere (of_control q) steps = tt
      nowhere (of_link l q) steps = tt
      nowhere (of_plain l q) steps = tt
      nowhere (of_stream l n s w) steps = tt

-- on a plain link without a stream what came of the tunnel, and what went there, is of its upstream
came_raw : (g : NodeConfig) (x : Machine) (points : List Point) → StandsFor g x points → (l : ℕ)
    → plain.was plain.is_asked (plain_of l points) ≡ false → plain.up_came (plain_of l points) ≡ flat_map relay_came_in (plain_of l points)
came_raw g x points stands l none = relay_came_alone (plain_of l points) (stream_came_none g x points stands l none)

went_raw : (g : NodeConfig) (x : Machine) (points : List Point) → StandsFor g x points → (l : ℕ)
    → plain.was plain.is_asked (plain_of l points) ≡ false → plain.up_went (plain_of l points) ≡ flat_map relay_went_in (plain_of l points)
went_raw g x points stands l none = relay_went_alone (plain_of l points) (stream_went_none g x points stands l none)

-- one that has no upstream has no bytes of one
pub no_upstream : (g : NodeConfig) (x : Machine) (points : List Point) → StandsFor g x points → (l : ℕ)
    → ((u : ℕ) → whose_in points u ≢ relay_of l)
    → (flat_map relay_came_in (plain_of l points) ≡ []) × (flat_map relay_went_in (plain_of l points) ≡ [])
no_upstream g x points stands l none = (
  (all_share came_on came_by came_in up_came_in plain.came_in relay_came_in gateway.came_in came g x points stands).none (relay_side l)
      (λ u same. none u (is_side (relay_side l) u (whose_in points u) same)),
  (all_share went_on went_by went_in up_went_in plain.went_in relay_went_in gateway.went_in went g x points stands).none (relay_side l)
      (λ u same. none u (is_side (relay_side l) u (whose_in points u) same)),
)

pub runs_share : RunsShareSides
runs_share g x points stands =
    let c = all_share came_on came_by came_in up_came_in plain.came_in relay_came_in gateway.came_in came g x points stands in
    let w = all_share went_on went_by went_in up_went_in plain.went_in relay_went_in gateway.went_in went g x points stands in
    record {
      known = are_known g x points stands;
      control = λ l is. record {
        came = sym (c.is (control_side l) l (ap (side_by l) is));
        went = sym (w.is (control_side l) l (ap (side_by l) is));
      };
      link = λ l is. record {
        came = sym (c.is (link_side l) l (ap (side_by l) is));
        went = sym (w.is (link_side l) l (ap (side_by l) is));
      };
      up = λ l s u is. record {
        came = sym (c.is (up_side l s) u (ap (side_by u) is));
        went = sym (w.is (up_side l s) u (ap (side_by u) is));
      };
      none = λ l s none. record {
        came = c.none (up_side l s) (λ u same. none u (is_side (up_side l s) u (whose_in points u) same));
        went = w.none (up_side l s) (λ u same. none u (is_side (up_side l s) u (whose_in points u) same));
      };
      plain = λ l is. record {
        came = sym (c.is (plain_side l) l (ap (side_by l) is));
        went = sym (w.is (plain_side l) l (ap (side_by l) is));
      };
      relay = λ l u is. record {
        came = sym (c.is (relay_side l) u (ap (side_by u) is))
            ∙ sym (came_raw g x points stands l (relay_unasked g x points stands l u is));
        went = sym (w.is (relay_side l) u (ap (side_by u) is))
            ∙ sym (went_raw g x points stands l (relay_unasked g x points stands l u is));
      };
      no_relay = λ l none unasked.
          let no = no_upstream g x points stands l none in
          record {
            came = came_raw g x points stands l unasked ∙ no.0;
            went = went_raw g x points stands l unasked ∙ no.1;
          };
      gate = λ n is. record {
        came = sym (c.is (gate_side n) n (ap (side_by n) is));
        went = sym (w.is (gate_side n) n (ap (side_by n) is));
      };
    }
