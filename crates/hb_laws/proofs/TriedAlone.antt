-- Points that obey a law, behind which a place stands that it refuses.
use Rattle.std.proofs.Common.{◌≡◌, ◌≢◌, inl, inr, ℕ, ◌==◌, Bool, true, false, cond, List, [], ◌∷◌, ◌++◌, Some, None, refl, ap, sym, ◌∙◌, subst, arith}
use Rattle.std.specs.Cmp.Lexicographic.{slice_cmp}
use Rattle.std.specs.FinMap.{len-empty}
use Rattle.std.specs.List.{AllByRecursion}
use Rattle.std.specs.Ordering.{nat_cmp}
use Rattle.std.proofs.lemmas.Bool.{eqb-true}
use Rattle.hb_base.specs.declared.door.Door.TheVariants as door
use Rattle.hb_base.specs.declared.door.Why.{Why}
use Rattle.hb_base.specs.declared.door.Why.TheVariants as whys
use Rattle.hb_captured.specs.Answer.{straight_to, unrouted}
use Rattle.hb_captured.specs.Part as captured
use Rattle.hb_conn.specs.declared.found.Found.TheVariants as found
use Rattle.hb_frames.specs.RawFrame.{spelling}
use Rattle.hb_front.specs.Reading.{Seen}
use Rattle.hb_history.specs.Points as history
use Rattle.hb_inbound.specs.Part as part
use Rattle.hb_inbound.specs.Part.{Part}
use Rattle.hb_inbound.specs.Relay.{MayGoUp, MayEnd}
use Rattle.hb_inbound.specs.RelayRefused.{one_octet}
use Rattle.hb_inbound.specs.Sides.{stream_came}
use Rattle.hb_model.specs.declared.config.NodeConfig.{NodeConfig}
use Rattle.hb_proxy.specs.Access.{EntryLaw}
use Rattle.hb_proxy.specs.Owners.{Owner, nobody, owner, dialled_for, upstream_of, relay_of, UpstreamLaw, link_of}
use Rattle.hb_proxy.specs.Points.{Point, of_control, of_link, of_plain, of_gate, of_stream, entry_in, entries, parts_of}
use Rattle.hb_proxy.specs.Relay.{RelayLaw, came_behind}
use Rattle.hb_world.specs.Trace.{recv, sent}
use Rattle.hb_world.specs.declared.entry.Entry.{Entry}
use Rattle.hb_world.specs.declared.entry.Entry.TheVariants as e
use Rattle.hb_laws.specs.Good.{source, destination}
use Rattle.hb_laws.specs.RefusedPlain.{RelaysUnheld, RelaysUncome, ChangesForth, RelaysBackUncome, ChangesBack, DialsRelayTwice}
use Rattle.hb_laws.specs.RefusedTunnels.{DialsOnce, Relays, DialsUpTwice, GoesUnheld, GoesUncome, ChangesUp, InventsDown, ChangesDown}
use Rattle.hb_laws.specs.TriedAlone.{MayBeTried}

-- WHERE ONE UPSTREAM IS DIALLED

only_one : (u : ℕ) (why : Why) (whose : Owner) → owner u (e.Dialled 3 destination why ∷ []) ≡ whose → nobody ≢ whose → u ≡ 3
only_one u why whose is some = by (3 == u) refl is
  where
    by : (b : Bool) → (3 == u) ≡ b → cond b (dialled_for why) nobody ≡ whose → u ≡ 3
    by true same owned = sym (eqb-true 3 u same)
    by false same owned = absurd (some owned)

one_dial : (why : Why) → UpstreamLaw (e.Dialled 3 destination why ∷ [])
one_dial why = record {
  streams = λ l s u v first second.
      only_one u why (upstream_of l s) first (λ is. cc) ∙ sym (only_one v why (upstream_of l s) second (λ is. cc));
  relays = λ l u v first second. only_one u why (relay_of l) first (λ is. cc) ∙ sym (only_one v why (relay_of l) second (λ is. cc));
}

pub up_twice_is_tried : MayBeTried DialsOnce DialsUpTwice
up_twice_is_tried g = (
  of_link 2 (part.up 1 (e.Dialled 3 destination (whys.Upstream 2 1))) ∷ [],
  e.Dialled 4 destination (whys.Upstream 2 1),
  one_dial (whys.Upstream 2 1),
  record {
    link = 2;
    stream = 1;
    up = 4;
    first = 3;
    target = destination;
    dials = refl;
    owned = refl;
    differs = λ is. omega (arith, is);
  },
)

pub relay_twice_is_tried : MayBeTried DialsOnce DialsRelayTwice
relay_twice_is_tried g = (
  of_plain 2 (captured.up (e.Dialled 3 destination (whys.Plain 2))) ∷ [],
  e.Dialled 4 destination (whys.Plain 2),
  one_dial (whys.Plain 2),
  record {
    link = 2;
    up = 4;
    first = 3;
    target = destination;
    why = whys.Plain 2;
    dials = refl;
    for_it = refl;
    owned = refl;
    differs = λ is. omega (arith, is);
  },
)

-- WHERE NOTHING WENT

-- a point that stands on no link, or at which nothing is to be said of the bytes that go
abbrev IsHarmless : Point → Type 0
IsHarmless (of_link l q) = (before : List Part) → MayGoUp before q × MayEnd before q
IsHarmless (of_stream l n s w) = ⊥
IsHarmless _ = Unit {0}

at_point : (Q : Point → Type 0) (points before : List Point) (p : Point) (behind : List Point) → AllByRecursion Q points
    → points ≡ before ++ p ∷ behind → Q p
at_point Q [] before p behind all are = absurd (none before are)
  where
    none : (before : List Point) → [] ≡ before ++ p ∷ behind → ⊥
    none [] is = cc
    none (q ∷ qs) is = cc
at_point Q (q ∷ points) [] p behind all are = subst Q (let same : q ≡ p = cc in same) all.0
at_point Q (q ∷ points) (r ∷ before) p behind all are =
    at_point Q points before p behind all.1 (let rest : points ≡ before ++ p ∷ behind = cc in rest)

quiet : (points : List Point) → ((n : ℕ) → sent n (entries points) ≡ []) → AllByRecursion IsHarmless points → RelayLaw points
quiet points none harmless = record {
  ups = λ l s u owned. record {
    rest = stream_came s (parts_of l points);
    front = ap (λ (xs : List ℕ). xs ++ stream_came s (parts_of l points)) (sym (none u));
  };
  downs = λ l s u owned. record { begun = []; began = inl (none l); rest = recv u (entries points); front = refl };
  none = λ l s owned alone. record { begun = []; began = inl (none l); none = refl };
  goes = λ before l p behind are. (at_point IsHarmless points before (of_link l p) behind harmless are (parts_of l before)).0;
  ends = λ before l p behind are. (at_point IsHarmless points before (of_link l p) behind harmless are (parts_of l before)).1;
  plain_ups = λ l u owned. record {
    rest = came_behind points l;
    front = ap (λ (xs : List ℕ). xs ++ came_behind points l) (sym (none u));
  };
  plain_downs = λ l u owned. record {
    rest = recv u (entries points);
    front = ap (λ (xs : List ℕ). xs ++ recv u (entries points)) (sym (none l));
  };
  plain_none = λ l owned alone unasked. none l;
  stream_ups = λ l n s asked. absurd (at_point IsHarmless points asked.before _ asked.behind harmless asked.at);
  stream_downs = λ l n s asked. absurd (at_point IsHarmless points asked.before _ asked.behind harmless asked.at);
}

-- a tunnel whose upstream is dialled, with these bytes of that; and a plain link
abbrev tunnel : List ℕ → List Point
tunnel bytes =
    of_link 2 (part.up 1 (e.Dialled 3 destination (whys.Upstream 2 1))) ∷ of_link 2 (part.up 1 (e.Came 3 bytes)) ∷ []

quiet_tunnel : (bytes : List ℕ) → RelayLaw (tunnel bytes)
quiet_tunnel bytes = quiet (tunnel bytes) (λ n. refl) ((λ before. (tt, tt)), ((λ before. (tt, tt)), tt))

pub invents_down_is_tried : MayBeTried Relays InventsDown
invents_down_is_tried g = (
  tunnel [],
  e.Went 2 (spelling one_octet),
  quiet_tunnel [],
  record {
    link = 2;
    stream = 1;
    up = 3;
    bytes = spelling one_octet;
    goes = refl;
    owned = refl;
    frames = [];
    flags = 0;
    byte = 97;
    more = [];
    whole = refl;
    all_went = refl;
  },
)

pub changes_down_is_tried : MayBeTried Relays ChangesDown
changes_down_is_tried g = (
  tunnel (98 ∷ []),
  e.Went 2 (spelling one_octet),
  quiet_tunnel (98 ∷ []),
  record {
    link = 2;
    stream = 1;
    up = 3;
    bytes = spelling one_octet;
    goes = refl;
    owned = refl;
    frames = [];
    flags = 0;
    byte = 98;
    other = 97;
    more = [];
    rest = [];
    whole = refl;
    came = refl;
    differs = λ is. omega (arith, is);
  },
)

pub goes_uncome_is_tried : MayBeTried Relays GoesUncome
goes_uncome_is_tried g = (
  tunnel [],
  e.Went 3 (97 ∷ []),
  quiet_tunnel [],
  record { link = 2; stream = 1; up = 3; byte = 97; more = []; goes = refl; owned = refl; all_went = refl },
)

-- one on whose stream an octet came
abbrev asked : List Point
asked =
    of_link 2 (part.up 1 (e.Dialled 3 destination (whys.Upstream 2 1)))
    ∷ of_link 2 (part.looked (history.point (history.got one_octet) (found.Chunk 1 false) ∷ []) (found.Chunk 1 false)
    (record { kept = []; size = 0 })) ∷ []

pub changes_up_is_tried : MayBeTried Relays ChangesUp
changes_up_is_tried g = (
  asked,
  e.Went 3 (98 ∷ []),
  quiet asked (λ n. refl) ((λ before. (tt, tt)), ((λ before. (tt, tt)), tt)),
  record {
    link = 2;
    stream = 1;
    up = 3;
    byte = 97;
    other = 98;
    rest = [];
    more = [];
    goes = refl;
    owned = refl;
    came = refl;
    differs = λ is. omega (arith, is);
  },
)

-- a plain link whose upstream is dialled, with these bytes of that
abbrev plain_link : List ℕ → List Point
plain_link bytes =
    of_plain 2 (captured.entry (e.Accepted 2 door.Plain)) ∷ of_plain 2 (captured.up (e.Dialled 3 destination (whys.Plain 2)))
    ∷ of_plain 2 (captured.up (e.Came 3 bytes)) ∷ []

quiet_plain : (bytes : List ℕ) → RelayLaw (plain_link bytes)
quiet_plain bytes = quiet (plain_link bytes) (λ n. refl) (tt, (tt, (tt, tt)))

pub relays_uncome_is_tried : MayBeTried Relays RelaysUncome
relays_uncome_is_tried g = (
  plain_link [],
  e.Went 3 (97 ∷ []),
  quiet_plain [],
  record { link = 2; up = 3; byte = 97; more = []; goes = refl; owned = refl; all_went = refl },
)

pub back_uncome_is_tried : MayBeTried Relays RelaysBackUncome
back_uncome_is_tried g = (
  plain_link [],
  e.Went 2 (97 ∷ []),
  quiet_plain [],
  record { link = 2; up = 3; byte = 97; more = []; goes = refl; owned = refl; all_went = refl },
)

pub changes_back_is_tried : MayBeTried Relays ChangesBack
changes_back_is_tried g = (
  plain_link (97 ∷ []),
  e.Went 2 (98 ∷ []),
  quiet_plain (97 ∷ []),
  record {
    link = 2;
    up = 3;
    byte = 97;
    other = 98;
    rest = [];
    more = [];
    goes = refl;
    owned = refl;
    came = refl;
    differs = λ is. omega (arith, is);
  },
)

-- one on which a byte came behind a header
abbrev header : Seen
header = record { source = source; destination = destination; identity = None; length = 0 }

abbrev fronted : List Point
fronted =
    of_plain 2 (captured.entry (e.Accepted 2 door.Plain)) ∷ of_plain 2 (captured.entry (e.Came 2 (97 ∷ [])))
    ∷ of_plain 2 (captured.fronted header unrouted (straight_to destination None))
    ∷ of_plain 2 (captured.up (e.Dialled 3 destination (whys.Plain 2))) ∷ []

pub changes_forth_is_tried : MayBeTried Relays ChangesForth
changes_forth_is_tried g = (
  fronted,
  e.Went 3 (98 ∷ []),
  quiet fronted (λ n. refl) (tt, (tt, (tt, (tt, tt)))),
  record {
    link = 2;
    up = 3;
    byte = 97;
    other = 98;
    rest = [];
    more = [];
    goes = refl;
    owned = refl;
    came = refl;
    differs = λ is. omega (arith, is);
  },
)

-- WHERE NO ENTRY STANDS ON A LINK

abbrev IsBirth : Point → Type 0
IsBirth p = (z : Entry) → entry_in p ≡ z ∷ [] → link_of z ≡ None

born_only : (g : NodeConfig) (points : List Point) → AllByRecursion IsBirth points → EntryLaw g points
born_only g points births before p behind are z u is on =
    absurd (let no : None ≡ Some u = sym (at_point IsBirth points before p behind births are z is) ∙ on in cc)

birth : (en z : Entry) → link_of en ≡ None → en ∷ [] ≡ z ∷ [] → link_of z ≡ None
birth en z none is = (let same : en ≡ z = cc in sym (ap link_of same) ∙ none)

pub goes_unheld_is_tried : MayBeTried EntryLaw GoesUnheld
goes_unheld_is_tried g =
    let dial = e.Dialled 3 destination (whys.Upstream 2 1) in
    let before = of_link 2 (part.up 1 dial) ∷ [] in (
      before,
      e.Went 3 (97 ∷ []),
      born_only g before ((λ z is. birth dial z refl is), tt),
      record {
        link = 2;
        stream = 1;
        up = 3;
        bytes = 97 ∷ [];
        goes = refl;
        owned = refl;
        none = len-empty (slice_cmp nat_cmp) _;
      },
    )

pub relays_unheld_is_tried : MayBeTried EntryLaw RelaysUnheld
relays_unheld_is_tried g =
    let accept = e.Accepted 2 door.Plain in
    let dial = e.Dialled 3 destination (whys.Plain 2) in
    let before = of_plain 2 (captured.entry accept) ∷ of_plain 2 (captured.up dial) ∷ [] in (
      before,
      e.Went 3 (97 ∷ []),
      born_only g before ((λ z is. birth accept z refl is), ((λ z is. birth dial z refl is), tt)),
      record {
        link = 2;
        on = 3;
        bytes = 97 ∷ [];
        goes = refl;
        of_it = inr refl;
        judged = refl;
        none = len-empty (slice_cmp nat_cmp) _;
      },
    )
