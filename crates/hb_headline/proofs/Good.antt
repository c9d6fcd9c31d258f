-- A life of a tunnel meets the headline.
use Rattle.std.proofs.Common.{◌≡◌, ◌≢◌, ◌⊎◌, inl, inr, ⊎_elim, ℕ, ◌+◌, ◌<◌, ◌≤◌, ◌-◌, ◌==◌, ◌||◌, Bool, true, false, cond, List, [], ◌∷◌, ◌++◌, length, drop, map, fold, None, Ok, refl, ap, ap₂, sym, ◌∙◌, subst, arith, length-append}
use Rattle.std.specs.List.{flat_map, list_any}
use Rattle.std.proofs.lemmas.Bool.{false≢true, eqb-true}
use Rattle.std.proofs.lemmas.List.{append-nil, append_assoc, take_all}
use Rattle.std.proofs.lemmas.List.Concat.{flat_map-append}
use Rattle.hb_base.specs.declared.door.Door.TheVariants as door
use Rattle.hb_base.specs.declared.door.Why.{Why}
use Rattle.hb_base.specs.declared.door.Why.TheVariants as whys
use Rattle.hb_base.specs.declared.target.Target.{Target}
use Rattle.hb_conn.specs.Preface.{octets}
use Rattle.hb_disco.specs.Response.{response_of}
use Rattle.hb_disco.specs.declared.response.Response.{Response}
use Rattle.hb_frames.specs.Frames.{HasNoFrame}
use Rattle.hb_frames.specs.Bodies.{lent_of}
use Rattle.hb_frames.specs.Numbers.{first_frame_size}
use Rattle.hb_frames.specs.RawFrame.{RawFrame, Spells, spelling}
use Rattle.hb_front.specs.Reading.{Seen, IsAnswer, Whole}
use Rattle.hb_front.specs.Written.{header_of, front_text}
use Rattle.hb_grpc.specs.Framed.{framed_of}
use Rattle.hb_held.specs.Outcome.{after_response}
use Rattle.hb_kept.specs.Payloads.{payloads}
use Rattle.hb_laws.proofs.Tests.{none_of_both, none_in_front}
use Rattle.hb_laws.specs.Good.{source, destination}
use Rattle.hb_model.specs.Calls.{Was, is_control_of, is_opened_of, IsControl}
use Rattle.hb_model.specs.Discovery.{longest_message}
use Rattle.hb_model.specs.declared.config.NodeConfig.{NodeConfig}
use Rattle.hb_outgoing.specs.Written.{begun_in}
use Rattle.hb_proxy.specs.Held.{at_start}
use Rattle.hb_proxy.specs.Owners.{Owner, nobody, control_plane, inbound_link, upstream_of, relay_of, gateway_link, at_door, dialled_for, owner_by, owner}
use Rattle.hb_table.specs.Judgement.{judged}
use Rattle.hb_table.specs.declared.judgement.Judged.TheVariants.{Admitted}
use Rattle.hb_tunnel.specs.Tunnel.{down_size}
use Rattle.hb_world.specs.Trace.{recv, sent, came_on, went_on}
use Rattle.hb_world.specs.declared.entry.Entry.{Entry}
use Rattle.hb_world.specs.declared.entry.Entry.TheVariants as e
use Rattle.hb_headline.specs.Access.{Admits, AdmitsTo, GoesAdmitted, TriesAdmitted}
use Rattle.hb_headline.specs.Dials.{IsDialled, UpstreamIs}
use Rattle.hb_headline.specs.Good.{data_of, told_so, tunnelled, life, LifeMeetsTheHeadline}
use Rattle.hb_headline.specs.Headline.{Headline}
use Rattle.hb_headline.specs.Held.{Applied, AreRead, AllRead, AreTold, made_by, on_link}
use Rattle.hb_headline.specs.Relay.{IsFront, TunnelRelaysUp, LinkRelaysDown, begun_on, data_with}
use Rattle.hb_headline.specs.Windows.{AreFirst, AreClients, IsGranted, KeepsWindows, Windows}
use Rattle.hb_headline.proofs.Dials.{is_dialled}
use Rattle.hb_headline.proofs.Fronts.{split_last}
use Rattle.hb_headline.proofs.OneTarget.{one_dial}
use Rattle.hb_headline.proofs.Refused.{no_messages, the_first}
use Rattle.hb_headline.proofs.Relay.{none_first}
use Rattle.hb_headline.proofs.Windows.{itself}

-- two cuts of one list: one of the fronts is a front of the other
cuts : {A : Type 0} (xs ys before after : List A) → xs ++ ys ≡ before ++ after
    → ((more : List A) × (xs ≡ before ++ more)) ⊎ ((more : List A) × (before ≡ xs ++ more) × (ys ≡ more ++ after))
cuts [] ys before after is = inr (before, refl, is)
cuts (x ∷ xs) ys [] after is = inl (x ∷ xs, refl)
cuts (x ∷ xs) ys (b ∷ before) after is =
    let first : x ≡ b = cc in
    let others : xs ++ ys ≡ before ++ after = cc in
    ⊎_elim
    (λ (short : (more : List _) × (xs ≡ before ++ more)). inl (short.0, (let same : xs ≡ before ++ short.0 = short.1 in cc)))
    (λ (long : (more : List _) × (before ≡ xs ++ more) × (ys ≡ more ++ after)).
    inr (long.0, (let same : before ≡ xs ++ long.0 = long.1 in cc), long.2))
    (cuts xs ys before after others)

no_place : (before : List Entry) (z : Entry) (after : List Entry) → [] ≡ before ++ z ∷ after → ⊥
no_place [] z after is = cc
no_place (p ∷ before) z after is = cc

-- whose a link is an entry of its birth tells
abbrev births_as : (Owner → Bool) → Entry → Bool
births_as is (e.Accepted l d) = is (at_door d)
births_as is (e.Dialled l to why) = is (dialled_for why)
births_as is _ = false

none_as : (is : Owner → Bool) (u : ℕ) (trace : List Entry) (o : Owner) → list_any (births_as is) trace ≡ false → is o ≡ false
    → is (fold (owner_by u) o trace) ≡ false
none_as is u [] o none start = start
none_as is u (z ∷ trace) o none start =
    let both = none_of_both (births_as is z) (list_any (births_as is) trace) none in
    none_as is u trace (owner_by u o z) both.1 (by z both.0)
  where
    either : (b : Bool) (a c : Owner) → is a ≡ false → is c ≡ false → is (cond b a c) ≡ false
    either true a c first second = first
    either false a c first second = second

    by : (x : Entry) → births_as is x ≡ false → is (owner_by u o x) ≡ false
    by (e.Accepted l d) this = either (l == u) (at_door d) o this start
    by (e.Dialled l to why) this = either (l == u) (dialled_for why) o this start
    by _ this = start

abbrev is_relay : Owner → Bool
is_relay (relay_of l) = true
is_relay _ = false

-- the streams for which links are dialled
pub record Upstream : Type 0 where
  pub up : ℕ
  pub link : ℕ
  pub stream : ℕ

abbrev upstream : (u l s : ℕ) → Upstream
upstream u l s = record { up = u; link = l; stream = s }

abbrev dial_for : ℕ → Why → List Upstream
dial_for u (whys.Upstream l s) = upstream u l s ∷ []
dial_for u _ = []

abbrev dial_in : Entry → List Upstream
dial_in (e.Dialled u to why) = dial_for u why
dial_in _ = []

none_dialled : (front behind more : List Upstream) → (front ++ upstream 3 2 1 ∷ behind) ++ more ≡ [] → ⊥
none_dialled [] behind more is = cc
none_dialled (d ∷ front) behind more is = cc

pub no_frame : HasNoFrame []
no_frame f spelled more spells is =
    absurd (let none = is ∙ ap (λ (xs : List ℕ). xs ++ more) spells.whole in cc)

-- DATA without padding is lent whole
pub lent_whole : (bytes : List ℕ) → lent_of (data_of bytes) ≡ bytes
lent_whole bytes = take_all (length bytes - 0 - 0) bytes (omega arith)

-- the header that stands in front of what came
abbrev pub seen : Seen
seen = record { source = source; destination = destination; identity = None; length = 28 }

pub fronted : (more : List ℕ) → IsAnswer (front_text source destination None ++ more) (Whole seen)
fronted more = (
  header_of source destination None,
  record { source = refl; destination = refl; source_port = omega arith; destination_port = omega arith; tlvs = tt; size = omega arith },
  record { source = refl; source_port = refl; destination = refl; destination_port = refl; identity = refl; size = refl },
  more,
  refl,
)

module _ (g : NodeConfig) (at to : Target) (bytes : List ℕ) (r : Response) (up down : ℕ) (small : length bytes < 16777216)
    (read : map response_of (framed_of longest_message bytes).messages ≡ Ok r ∷ [])
    (admitted : judged (after_response (at_start g) r) (record { ip = source.ip; identity = None }) to ≡ Admitted) where
  abbrev trace : List Entry
  trace = life at to bytes up down

  abbrev frames : ℕ → List RawFrame
  frames l = data_with down ∷ []

  -- the response is applied behind the third entry
  abbrev answer : Applied
  answer = record { link = 1; response = r }

  abbrev applied : List Entry → List Applied
  applied (a ∷ b ∷ c ∷ rest) = answer ∷ []
  applied _ = []

  -- WHOSE EACH LINK IS

  abbrev whose : ℕ → Owner
  whose u = cond (3 == u) (upstream_of 2 1) (cond (2 == u) inbound_link (cond (1 == u) control_plane nobody))

  is_inbound : (u : ℕ) → whose u ≡ inbound_link → u ≡ 2
  is_inbound u own = sym (eqb-true 2 u (by (3 == u) (2 == u) (1 == u) own))
    where
      by : (a b c : Bool) → cond a (upstream_of 2 1) (cond b inbound_link (cond c control_plane nobody)) ≡ inbound_link → b ≡ true
      by true b c is = absurd cc
      by false true c is = refl
      by false false true is = absurd cc
      by false false false is = absurd cc

  no_gateway : (u : ℕ) → whose u ≡ gateway_link → ⊥
  no_gateway u own = by (3 == u) (2 == u) (1 == u) own
    where
      by : (a b c : Bool) → cond a (upstream_of 2 1) (cond b inbound_link (cond c control_plane nobody)) ≡ gateway_link → ⊥
      by true b c is = cc
      by false true c is = cc
      by false false true is = cc
      by false false false is = cc

  is_upstream : (u l s : ℕ) → whose u ≡ upstream_of l s → (u ≡ 3) × (l ≡ 2) × (s ≡ 1)
  is_upstream u l s own = let is = by (3 == u) (2 == u) (1 == u) own in (sym (eqb-true 3 u is.0), is.1, is.2)
    where
      by : (a b c : Bool) → cond a (upstream_of 2 1) (cond b inbound_link (cond c control_plane nobody)) ≡ upstream_of l s
          → (a ≡ true) × (l ≡ 2) × (s ≡ 1)
      by true b c is = (refl, cc, cc)
      by false true c is = absurd cc
      by false false true is = absurd cc
      by false false false is = absurd cc

  -- at each front no link is the upstream of a plain one, and one is that of a tunnel
  no_relay : (before after : List Entry) → trace ≡ before ++ after → (u l : ℕ) → owner u before ≡ relay_of l → ⊥
  no_relay before after are u l own =
      false≢true (sym (none_as is_relay u before nobody (none_in_front (births_as is_relay) trace before after are refl) refl)
      ∙ ap is_relay own)

  one_upstream : (before after : List Entry) → trace ≡ before ++ after → (l s u : ℕ) → owner u before ≡ upstream_of l s
      → (u ≡ 3) × (l ≡ 2) × (s ≡ 1)
  one_upstream before after are l s u own =
      let dial = is_dialled before l s u own in
      let d = upstream u l s in
      let front = flat_map dial_in dial.1.before in
      let rest = flat_map dial_in dial.1.behind in
      let here : flat_map dial_in before ≡ front ++ d ∷ rest =
      ap (flat_map dial_in) dial.1.is
      ∙ flat_map-append dial_in dial.1.before (e.Dialled u dial.0 (whys.Upstream l s) ∷ dial.1.behind) in
      by front (rest ++ flat_map dial_in after)
      (sym (append_assoc front (d ∷ rest) (flat_map dial_in after))
      ∙ ap (λ (ds : List Upstream). ds ++ flat_map dial_in after) (sym here)
      ∙ sym (flat_map-append dial_in before after) ∙ sym (ap (flat_map dial_in) are))
    where
      none : (front rest : List Upstream) (d : Upstream) → front ++ d ∷ rest ≡ [] → ⊥
      none [] rest d is = cc
      none (x ∷ front) rest d is = cc

      by : (front rest : List Upstream) → front ++ upstream u l s ∷ rest ≡ upstream 3 2 1 ∷ [] → (u ≡ 3) × (l ≡ 2) × (s ≡ 1)
      by [] rest is =
          let same : upstream u l s ≡ upstream 3 2 1 = cc in
          (ap (λ (d : Upstream). d.up) same, ap (λ (d : Upstream). d.link) same, ap (λ (d : Upstream). d.stream) same)
      by (x ∷ front) rest is =
          absurd (none front rest (upstream u l s) (let others : front ++ upstream u l s ∷ rest ≡ [] = cc in others))

  -- THE PREFIX

  spells : (payload : List ℕ) → length payload < 16777216 → Spells (data_of payload) (spelling (data_of payload))
  spells payload most = record {
    fits = record { kind = omega arith; flags = omega arith; stream = omega arith; size = most };
    reserved = 0;
    bit = omega arith;
    whole = refl;
  }

  -- up to the bytes of the link, and behind them
  abbrev opening : List Entry
  opening = told_so at bytes ++ (e.Accepted 2 door.Inbound ∷ e.Came 2 (recv 2 trace) ∷ [])

  abbrev later : List Entry
  later =
      e.Dialled 3 to (whys.Upstream 2 1) ∷ e.Opened 3 ∷ e.Went 3 (up ∷ []) ∷ e.Came 3 (down ∷ [])
      ∷ e.Went 2 (spelling (data_with down)) ∷ []

  up_behind : (more after : List Entry) → later ≡ more ++ after → TunnelRelaysUp (opening ++ more) 2 1 3
  up_behind more after are = record {
    seen = seen;
    fronted = fronted (drop 28 (recv 2 trace) ++ recv 2 more);
    frames = data_with up ∷ [];
    partial = recv 2 more;
    framed = (spelling (data_with up), recv 2 more, spells (up ∷ []) (omega arith), refl, refl);
    front = record { rest = sent 3 after; is = ap (sent 3) are ∙ flat_map-append (went_on 3) more after };
  }

  relays_up : (before after : List Entry) → trace ≡ before ++ after → (l s u : ℕ) → owner u before ≡ upstream_of l s
      → (sent u before ≡ []) ⊎ TunnelRelaysUp before l s u
  relays_up before after are l s u own =
      let is = one_upstream before after are l s u own in
      subst (λ (k : ℕ). (sent u before ≡ []) ⊎ TunnelRelaysUp before k s u) (sym is.1)
      (subst (λ (k : ℕ). (sent u before ≡ []) ⊎ TunnelRelaysUp before 2 k u) (sym is.2)
      (subst (λ (k : ℕ). (sent k before ≡ []) ⊎ TunnelRelaysUp before 2 1 k) (sym is.0)
      (⊎_elim
      (λ (short : (more : List Entry) × (opening ≡ before ++ more)).
      inl (none_first (sent 3 before) (sent 3 short.0) (ap (sent 3) short.1 ∙ flat_map-append (went_on 3) before short.0)))
      (λ (long : (more : List Entry) × (before ≡ opening ++ more) × (later ≡ more ++ after)).
      inr (subst (λ (es : List Entry). TunnelRelaysUp es 2 1 3) (sym long.1) (up_behind long.0 after long.2)))
      (cuts opening later before after are))))

  abbrev body : List Entry
  body = told_so at bytes ++ (tunnelled to up ++ e.Went 3 (up ∷ []) ∷ e.Came 3 (down ∷ []) ∷ [])

  -- nothing went on the link before
  none_went : (before more : List Entry) → body ≡ before ++ more → sent 2 before ≡ []
  none_went before more are =
      none_first (sent 2 before) (sent 2 more) (ap (sent 2) are ∙ flat_map-append (went_on 2) before more)

  front_down : (before after : List Entry) → trace ≡ before ++ after → (s u : ℕ) → owner u before ≡ upstream_of 2 s
      → IsFront (payloads s (begun_on 2 (frames 2) before)) (recv u before)
  front_down before after are s u own =
      ⊎_elim
      (λ (all : before ≡ trace).
      let is = is_upstream u 2 s (sym (ap (owner u) all) ∙ own) in
      subst (λ (es : List Entry). IsFront (payloads s (begun_on 2 (frames 2) es)) (recv u es)) (sym all)
      (subst (λ (k : ℕ). IsFront (payloads k (begun_on 2 (frames 2) trace)) (recv u trace)) (sym is.2)
      (subst (λ (k : ℕ). IsFront (payloads 1 (begun_on 2 (frames 2) trace)) (recv k trace)) (sym is.0) (record { rest = []; is = refl }))))
      (λ (part : (more : List Entry) × (body ≡ before ++ more)).
      subst (λ (bs : List ℕ). IsFront (payloads s (begun_in (length bs) (frames 2))) (recv u before))
      (sym (none_went before part.0 part.1)) (record { rest = recv u before; is = refl }))
      (split_last body (e.Went 2 (spelling (data_with down))) before after are)

  none_down : (before after : List Entry) → trace ≡ before ++ after → (s : ℕ) → ((u : ℕ) → owner u before ≢ upstream_of 2 s)
      → payloads s (begun_on 2 (frames 2) before) ≡ []
  none_down before after are s never =
      ⊎_elim
      (λ (all : before ≡ trace).
      ap (λ (es : List Entry). payloads s (begun_on 2 (frames 2) es)) all ∙ by (1 == s) refl (λ is. never 3 (ap (owner 3) all ∙ is)))
      (λ (part : (more : List Entry) × (body ≡ before ++ more)).
      ap (λ (bs : List ℕ). payloads s (begun_in (length bs) (frames 2))) (none_went before part.0 part.1))
      (split_last body (e.Went 2 (spelling (data_with down))) before after are)
    where
      by : (b : Bool) → (1 == s) ≡ b → (upstream_of 2 1 ≡ upstream_of 2 s → ⊥) → cond b (down ∷ []) [] ++ [] ≡ []
      by true is apart = absurd (apart (ap (upstream_of 2) (eqb-true 1 s is)))
      by false is apart = refl

  relays_down : (l : ℕ) → whose l ≡ inbound_link → LinkRelaysDown trace l (frames l)
  relays_down l own =
      subst (λ (k : ℕ). LinkRelaysDown trace k (frames k)) (sym (is_inbound l own))
      (record { began = inl refl; fronts = front_down; none = λ before after are own s never. none_down before after are s never })

  -- DIALLED

  dialled : (l s u : ℕ) → whose u ≡ upstream_of l s → UpstreamIs trace l s u
  dialled l s u own =
      let is = is_upstream u l s own in
      record {
        over = ap whose is.1;
        to = to;
        dialled = subst (λ (k : ℕ). IsDialled trace k s u to) (sym is.1)
            (subst (λ (k : ℕ). IsDialled trace 2 k u to) (sym is.2)
            (subst (λ (k : ℕ). IsDialled trace 2 1 k to) (sym is.0) was_dialled));
        once = λ other dial. one_dial trace l s 3 to other refl (subst (λ (k : ℕ). IsDialled trace l s k other) is.0 dial);
        alone = λ v other. (is_upstream v l s other).0 ∙ sym is.0;
      }
    where
      was_dialled : IsDialled trace 2 1 3 to
      was_dialled = record {
        before = told_so at bytes ++ e.Accepted 2 door.Inbound ∷ e.Came 2 (recv 2 trace) ∷ [];
        behind = e.Opened 3 ∷ e.Went 3 (up ∷ []) ∷ e.Came 3 (down ∷ []) ∷ e.Went 2 (spelling (data_with down)) ∷ [];
        is = refl;
      }

  -- HELD

  none_told : (before : List Entry) → AreTold before []
  none_told before = record {
    only = tt;
    first = λ d control. record {
      frames = [];
      partial = recv d before;
      framed = refl;
      came = [];
      front = record { rest = []; is = refl };
      more = [];
      read = ap (map response_of) no_messages;
    };
  }

  abbrev tail : List Entry
  tail = tunnelled to up ++ e.Went 3 (up ∷ []) ∷ e.Came 3 (down ∷ []) ∷ e.Went 2 (spelling (data_with down)) ∷ []

  one_told : (rest after : List Entry) → tail ≡ rest ++ after → AreTold (told_so at bytes ++ rest) (answer ∷ [])
  one_told rest after are = record {
    only = (refl, tt);
    first = λ d control.
        subst (λ (k : ℕ). AreRead (told_so at bytes ++ rest) k (flat_map (on_link k) (answer ∷ []))) (sym (the_first d
        (ap (λ (b : Bool). (1 == d) || b) (sym (none_in_front (is_control_of d) tail rest after are refl)) ∙ control)))
        (record {
          frames = data_of bytes ∷ [];
          partial = recv 1 rest;
          framed = (spelling (data_of bytes), recv 1 rest, spells bytes small, refl, refl);
          came = bytes;
          front = record {
            rest = [];
            is = append-nil (lent_of (data_of bytes)) ∙ lent_whole bytes ∙ sym (append-nil bytes);
          };
          more = [];
          read = read;
        });
  }

  told : (before after : List Entry) → trace ≡ before ++ after → AreTold before (applied before)
  told [] after are = none_told []
  told (a ∷ []) after are = none_told (a ∷ [])
  told (a ∷ b ∷ []) after are = none_told (a ∷ b ∷ [])
  told (a ∷ b ∷ c ∷ rest) after are =
      let front : told_so at bytes ++ rest ≡ a ∷ b ∷ c ∷ rest = cc in
      let others : tail ≡ rest ++ after = cc in
      subst (λ (es : List Entry). AreTold es (answer ∷ [])) front (one_told rest after others)

  -- at once
  none_read : AllRead (e.Dialled 1 at whys.Discovery ∷ e.Opened 1 ∷ []) 1 []
  none_read = record {
    frames = [];
    partial = [];
    framed = record { joined = refl; partial = no_frame };
    read = ap (map response_of) no_messages;
  }

  one_read : (rest after : List Entry) → tail ≡ rest ++ after → AllRead (told_so at bytes ++ rest) 1 (r ∷ [])
  one_read rest after are =
      let none : recv 1 rest ≡ [] =
      none_first (recv 1 rest) (recv 1 after) (ap (recv 1) are ∙ flat_map-append (came_on 1) rest after) in
      record {
        frames = data_of bytes ∷ [];
        partial = recv 1 rest;
        framed = record {
          joined = (spelling (data_of bytes), recv 1 rest, spells bytes small, refl, refl);
          partial = subst HasNoFrame (sym none) no_frame;
        };
        read = ap (λ (bs : List ℕ). map response_of (framed_of longest_message bs).messages)
            (append-nil (lent_of (data_of bytes)) ∙ lent_whole bytes) ∙ read;
      }

  at_once : (before after : List Entry) → trace ≡ before ++ after → (d : ℕ) → IsControl d before → Was (is_opened_of d) before
      → AllRead before d (flat_map (on_link d) (applied before))
  at_once [] after are d control opened = absurd (false≢true control)
  at_once (a ∷ []) after are d control opened =
      let first : e.Dialled 1 at whys.Discovery ≡ a = cc in
      absurd (false≢true (ap (λ (x : Entry). list_any (is_opened_of d) (x ∷ [])) first ∙ opened))
  at_once (a ∷ b ∷ []) after are d control opened =
      let front : e.Dialled 1 at whys.Discovery ∷ e.Opened 1 ∷ [] ≡ a ∷ b ∷ [] = cc in
      subst (λ (es : List Entry). AllRead es d []) front
      (subst (λ (k : ℕ). AllRead (e.Dialled 1 at whys.Discovery ∷ e.Opened 1 ∷ []) k [])
      (sym (the_first d (ap (list_any (is_control_of d)) front ∙ control))) none_read)
  at_once (a ∷ b ∷ c ∷ rest) after are d control opened =
      let front : told_so at bytes ++ rest ≡ a ∷ b ∷ c ∷ rest = cc in
      let others : tail ≡ rest ++ after = cc in
      let here : IsControl d (told_so at bytes ++ rest) = ap (list_any (is_control_of d)) front ∙ control in
      subst (λ (es : List Entry). AllRead es d (flat_map (on_link d) (answer ∷ []))) front
      (subst (λ (k : ℕ). AllRead (told_so at bytes ++ rest) k (flat_map (on_link k) (answer ∷ []))) (sym (the_first d
      (ap (λ (b : Bool). (1 == d) || b) (sym (none_in_front (is_control_of d) tail rest after others refl)) ∙ here)))
      (one_read rest after others))

  grows : (before more : List Entry) → (later : List Applied) × (applied (before ++ more) ≡ applied before ++ later)
  grows [] more = (applied more, refl)
  grows (a ∷ []) more = (applied (a ∷ more), refl)
  grows (a ∷ b ∷ []) more = (applied (a ∷ b ∷ more), refl)
  grows (a ∷ b ∷ c ∷ before) more = ([], refl)

  -- ADMITTED

  admits : (before behind : List Entry) (more : List ℕ) → recv 2 before ≡ front_text source destination None ++ more
      → before ≡ told_so at bytes ++ (e.Accepted 2 door.Inbound ∷ e.Came 2 (recv 2 trace) ∷ e.Dialled 3 to (whys.Upstream 2 1) ∷ behind)
      → Admits (after_response (at_start g) r) before 2 1 3
  admits before behind more came are = record {
    seen = seen;
    fronted = subst (λ (bs : List ℕ). IsAnswer bs (Whole seen)) (sym came) (fronted more);
    to = to;
    dialled = record {
      before = told_so at bytes ++ e.Accepted 2 door.Inbound ∷ e.Came 2 (recv 2 trace) ∷ [];
      behind = behind;
      is = are;
    };
    admitted = admitted;
  }

  abbrev first : List Entry
  first = told_so at bytes ++ tunnelled to up

  goes_up : GoesAdmitted (made_by g (applied first)) frames first 3 (up ∷ [])
  goes_up = record {
    born = λ none. cc;
    up = λ l s own.
        let is = is_upstream 3 l s own in
        subst (λ (k : ℕ). Admits (after_response (at_start g) r) first k s 3) (sym is.1)
        (subst (λ (k : ℕ). Admits (after_response (at_start g) r) first 2 k 3) (sym is.2)
        (admits first (e.Opened 3 ∷ []) (drop 28 (recv 2 trace)) refl refl));
    down = λ own. absurd cc;
    plain = λ own at_door. absurd cc;
    relay = λ l own at_door. absurd cc;
  }

  goes_down : GoesAdmitted (made_by g (applied body)) frames body 2 (spelling (data_with down))
  goes_down = record {
    born = λ none. cc;
    up = λ l s own. absurd cc;
    down = λ own. (
      λ some u mine.
          let is = is_upstream u 2 1 mine in
          subst (λ (k : ℕ). Admits (after_response (at_start g) r) body 2 1 k) (sym is.0)
          (admits body (e.Opened 3 ∷ e.Went 3 (up ∷ []) ∷ e.Came 3 (down ∷ []) ∷ []) (drop 28 (recv 2 trace)) refl refl),
      tt,
    );
    plain = λ own at_door. absurd cc;
    relay = λ l own at_door. absurd cc;
  }

  goes : (before : List Entry) (u : ℕ) (bs : List ℕ) (after : List Entry) → trace ≡ before ++ e.Went u bs ∷ after
      → GoesAdmitted (made_by g (applied before)) frames before u bs
  goes [] u bs after are = absurd cc
  goes (a ∷ []) u bs after are = absurd cc
  goes (a ∷ b ∷ []) u bs after are = absurd cc
  goes (a ∷ b ∷ c ∷ []) u bs after are = absurd cc
  goes (a ∷ b ∷ c ∷ d ∷ []) u bs after are = absurd cc
  goes (a ∷ b ∷ c ∷ d ∷ x ∷ []) u bs after are = absurd cc
  goes (a ∷ b ∷ c ∷ d ∷ x ∷ y ∷ []) u bs after are = absurd cc
  goes (a ∷ b ∷ c ∷ d ∷ x ∷ y ∷ z ∷ []) u bs after are =
      let before : first ≡ a ∷ b ∷ c ∷ d ∷ x ∷ y ∷ z ∷ [] = cc in
      let link : 3 ≡ u = cc in
      let went : up ∷ [] ≡ bs = cc in
      subst (λ (es : List Entry). GoesAdmitted (made_by g (applied es)) frames es u bs) before
      (subst (λ (k : ℕ). GoesAdmitted (made_by g (applied first)) frames first k bs) link
      (subst (GoesAdmitted (made_by g (applied first)) frames first 3) went goes_up))
  goes (a ∷ b ∷ c ∷ d ∷ x ∷ y ∷ z ∷ v ∷ []) u bs after are = absurd cc
  goes (a ∷ b ∷ c ∷ d ∷ x ∷ y ∷ z ∷ v ∷ w ∷ []) u bs after are =
      let before : body ≡ a ∷ b ∷ c ∷ d ∷ x ∷ y ∷ z ∷ v ∷ w ∷ [] = cc in
      let link : 2 ≡ u = cc in
      let went : spelling (data_with down) ≡ bs = cc in
      subst (λ (es : List Entry). GoesAdmitted (made_by g (applied es)) frames es u bs) before
      (subst (λ (k : ℕ). GoesAdmitted (made_by g (applied body)) frames body k bs) link
      (subst (GoesAdmitted (made_by g (applied body)) frames body 2) went goes_down))
  goes (a ∷ b ∷ c ∷ d ∷ x ∷ y ∷ z ∷ v ∷ w ∷ t ∷ before) u bs after are =
      absurd (no_place before (e.Went u bs) after (let rest : [] ≡ before ++ e.Went u bs ∷ after = cc in rest))

  -- TRIED
  tries : (before : List Entry) (u : ℕ) (other : Target) (why : Why) (after : List Entry)
      → trace ≡ before ++ e.Dialled u other why ∷ after → TriesAdmitted (made_by g (applied before)) before other why
  tries [] u other why after are =
      let is : whys.Discovery ≡ why = cc in subst (TriesAdmitted (made_by g (applied [])) [] other) is tt
  tries (a ∷ []) u other why after are = absurd cc
  tries (a ∷ b ∷ []) u other why after are = absurd cc
  tries (a ∷ b ∷ c ∷ []) u other why after are = absurd cc
  tries (a ∷ b ∷ c ∷ d ∷ []) u other why after are = absurd cc
  tries (a ∷ b ∷ c ∷ d ∷ x ∷ []) u other why after are =
      let before : opening ≡ a ∷ b ∷ c ∷ d ∷ x ∷ [] = cc in
      let is : whys.Upstream 2 1 ≡ why = cc in
      let there : to ≡ other = cc in
      subst (λ (es : List Entry). TriesAdmitted (made_by g (applied es)) es other why) before
      (subst (TriesAdmitted (made_by g (applied opening)) opening other) is
      (subst (AdmitsTo (made_by g (applied opening)) opening 2) there
      (record { seen = seen; fronted = fronted (drop 28 (recv 2 trace)); admitted = admitted })))
  tries (a ∷ b ∷ c ∷ d ∷ x ∷ y ∷ []) u other why after are = absurd cc
  tries (a ∷ b ∷ c ∷ d ∷ x ∷ y ∷ z ∷ []) u other why after are = absurd cc
  tries (a ∷ b ∷ c ∷ d ∷ x ∷ y ∷ z ∷ v ∷ []) u other why after are = absurd cc
  tries (a ∷ b ∷ c ∷ d ∷ x ∷ y ∷ z ∷ v ∷ w ∷ []) u other why after are = absurd cc
  tries (a ∷ b ∷ c ∷ d ∷ x ∷ y ∷ z ∷ v ∷ w ∷ t ∷ before) u other why after are =
      absurd (no_place before (e.Dialled u other why) after (let rest : [] ≡ before ++ e.Dialled u other why ∷ after = cc in rest))

  -- REVOKED
  abbrev behind_dial : List Entry
  behind_dial = e.Opened 3 ∷ e.Went 3 (up ∷ []) ∷ e.Came 3 (down ∷ []) ∷ e.Went 2 (spelling (data_with down)) ∷ []

  stands_by : (more after : List Entry) → later ≡ more ++ after → owner 3 (opening ++ more) ≡ upstream_of 2 1
      → Admits (made_by g (applied (opening ++ more))) (opening ++ more) 2 1 3
  stands_by [] after are own = absurd cc
  stands_by (x ∷ more) after are own =
      let first : e.Dialled 3 to (whys.Upstream 2 1) ≡ x = cc in
      subst (λ (z : Entry). Admits (made_by g (applied (opening ++ z ∷ more))) (opening ++ z ∷ more) 2 1 3) first
      (admits (opening ++ e.Dialled 3 to (whys.Upstream 2 1) ∷ more) more (drop 28 (recv 2 trace) ++ recv 2 more) refl refl)

  stands : (before after : List Entry) → trace ≡ before ++ after → (l s u : ℕ) → owner u before ≡ upstream_of l s
      → Admits (made_by g (applied before)) before l s u
  stands before after are l s u own =
      let is = one_upstream before after are l s u own in
      let mine : owner 3 before ≡ upstream_of 2 1 =
      ap (λ (k : ℕ). owner k before) (sym is.0) ∙ own ∙ ap₂ upstream_of is.1 is.2 in
      subst (λ (k : ℕ). Admits (made_by g (applied before)) before k s u) (sym is.1)
      (subst (λ (k : ℕ). Admits (made_by g (applied before)) before 2 k u) (sym is.2)
      (subst (λ (k : ℕ). Admits (made_by g (applied before)) before 2 1 k) (sym is.0)
      (⊎_elim
      (λ (short : (more : List Entry) × (opening ≡ before ++ more)).
      let dial = is_dialled before 2 1 3 mine in
      let front = flat_map dial_in dial.1.before in
      let rest = flat_map dial_in dial.1.behind in
      let here : flat_map dial_in before ≡ front ++ upstream 3 2 1 ∷ rest =
      ap (flat_map dial_in) dial.1.is
      ∙ flat_map-append dial_in dial.1.before (e.Dialled 3 dial.0 (whys.Upstream 2 1) ∷ dial.1.behind) in
      absurd (none_dialled front rest (flat_map dial_in short.0)
      (ap (λ (ds : List Upstream). ds ++ flat_map dial_in short.0) (sym here)
      ∙ sym (flat_map-append dial_in before short.0) ∙ sym (ap (flat_map dial_in) short.1))))
      (λ (long : (more : List Entry) × (before ≡ opening ++ more) × (later ≡ more ++ after)).
      subst (λ (es : List Entry). Admits (made_by g (applied es)) es 2 1 3) (sym long.1)
      (stands_by long.0 after long.2 (ap (owner 3) (sym long.1) ∙ mine)))
      (cuts opening later before after are))))

  -- WINDOWS

  -- nothing goes on another link than the upstream and the inbound one; there one frame begins, with an octet
  link_fits : (before : List Entry) (u : ℕ) (bs : List ℕ) (after : List Entry) → trace ≡ before ++ e.Went u bs ∷ after → (u ≡ 3) ⊎ (u ≡ 2)
  link_fits [] u bs after are = absurd cc
  link_fits (a ∷ []) u bs after are = absurd cc
  link_fits (a ∷ b ∷ []) u bs after are = absurd cc
  link_fits (a ∷ b ∷ c ∷ []) u bs after are = absurd cc
  link_fits (a ∷ b ∷ c ∷ d ∷ []) u bs after are = absurd cc
  link_fits (a ∷ b ∷ c ∷ d ∷ x ∷ []) u bs after are = absurd cc
  link_fits (a ∷ b ∷ c ∷ d ∷ x ∷ y ∷ []) u bs after are = absurd cc
  link_fits (a ∷ b ∷ c ∷ d ∷ x ∷ y ∷ z ∷ []) u bs after are = inl (let link : 3 ≡ u = cc in sym link)
  link_fits (a ∷ b ∷ c ∷ d ∷ x ∷ y ∷ z ∷ v ∷ []) u bs after are = absurd cc
  link_fits (a ∷ b ∷ c ∷ d ∷ x ∷ y ∷ z ∷ v ∷ w ∷ []) u bs after are = inr (let link : 2 ≡ u = cc in sym link)
  link_fits (a ∷ b ∷ c ∷ d ∷ x ∷ y ∷ z ∷ v ∷ w ∷ t ∷ before) u bs after are =
      absurd (no_place before (e.Went u bs) after (let rest : [] ≡ before ++ e.Went u bs ∷ after = cc in rest))

  -- so nothing goes on the link to the control plane
  none_goes : (before : List Entry) (bs : List ℕ) (after : List Entry) → trace ≡ before ++ e.Went 1 bs ∷ after → ⊥
  none_goes before bs after are =
      ⊎_elim (λ is. absurd (omega (arith, is))) (λ is. absurd (omega (arith, is))) (link_fits before 1 bs after are)

  one_begins : (front : List RawFrame) (f : RawFrame) (behind : List RawFrame) → data_with down ∷ [] ≡ front ++ f ∷ behind
      → IsGranted f front []
  one_begins [] f behind is =
      let same : data_with down ≡ f = cc in
      subst (λ (x : RawFrame). IsGranted x [] []) same
      (record {
        acknowledged = omega arith;
        fits = record { size = omega arith; connection = omega arith; stream = omega arith };
      })
  one_begins (x ∷ front) f behind is = absurd (no_frame_there front (let rest : [] ≡ front ++ f ∷ behind = cc in rest))
    where
      no_frame_there : (fs : List RawFrame) → [] ≡ fs ++ f ∷ behind → ⊥
      no_frame_there [] is = cc
      no_frame_there (p ∷ fs) is = cc

  within : Windows trace frames
  within = record {
    inbound = λ l own.
        subst (λ (k : ℕ). KeepsWindows [] AreClients (frames k) trace k) (sym (is_inbound l own))
        (record {
          went = record { rest = []; is = refl };
          fit = λ before bs after are front f behind frames_are unbegun starts some. ([], inl refl, one_begins front f behind frames_are);
        });
    control = λ d control.
        subst (λ (k : ℕ). (began : List RawFrame) × KeepsWindows octets AreFirst began trace k)
        (sym (the_first d control)) (
          [],
          record {
            went = record { rest = octets ++ []; is = refl };
            fit = λ before bs after are front f behind frames_are unbegun starts some. absurd (none_goes before bs after are);
          },
        );
    gateways = λ n own. absurd (no_gateway n own);
  }

  -- BUFFERS
  come_fits : (before : List Entry) (u : ℕ) (bs : List ℕ) (after : List Entry) → trace ≡ before ++ e.Came u bs ∷ after → (l s : ℕ)
      → owner u before ≡ upstream_of l s
      → length (recv u before) + length bs ≤ length (payloads s (begun_on l (frames l) before)) + first_frame_size + down_size
  come_fits before u bs after are l s own =
      let is = one_upstream before (e.Came u bs ∷ after) are l s u own in
      let here = ap (λ (b : Bool). cond b bs []) (itself u) in
      omega (
        arith,
        ap (λ (xs : List ℕ). length xs)
            (sym (flat_map-append (came_on u) before (e.Came u bs ∷ after)) ∙ sym (ap (recv u) are) ∙ ap (λ (k : ℕ). recv k trace) is.0),
        length-append (recv u before) (came_on u (e.Came u bs) ++ recv u after),
        length-append (came_on u (e.Came u bs)) (recv u after),
        ap (λ (xs : List ℕ). length xs) here,
      )

  lives : Headline g trace
  lives = record {
    windows = within;
    tried = tries;
    buffers = record {
      plain = λ before z after are more l u own. absurd (no_relay before (z ∷ after) are u l own);
      tunnels = λ before u bs after are l s own. come_fits before u bs after are l s own;
    };
    frames = frames;
    applied = applied;
    prefix = record {
      plain = λ before after are. record {
        up = λ l u own. absurd (no_relay before after are u l own);
        down = λ l u own. absurd (no_relay before after are u l own);
      };
      up = relays_up;
      down = relays_down;
    };
    dialled = record { tunnels = dialled; plain = λ l u v own other. absurd (no_relay trace [] refl u l own) };
    held = record {
      told = told;
      grows = λ before more after are. grows before more;
      at_once = λ before z after are more d control living opened. at_once before (z ∷ after) are d control opened;
    };
    admitted = goes;
    revoked = λ before z after are more. record {
      tunnels = λ l s u own living. stands before (z ∷ after) are l s u own;
      plain = λ l u own at_door living. absurd (no_relay before (z ∷ after) are u l own);
    };
  }

pub life_meets : LifeMeetsTheHeadline
life_meets g at to bytes r up down small read admitted = lives g at to bytes r up down small read admitted
