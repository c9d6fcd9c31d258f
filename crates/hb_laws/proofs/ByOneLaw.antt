-- Places are refused by one law, whatever stands in front, and so in a lawful trace.
use Rattle.std.proofs.Common.{◌≡◌, ◌≢◌, ◌⊎◌, inl, inr, ℕ, ◌==◌, Bool, true, false, cond, List, [], ◌∷◌, ◌++◌, fold, Option, None, refl, ap, ap₂, sym, ◌∙◌, subst, arith}
use Rattle.std.proofs.lemmas.Bool.{eq-eqb, eqb-true}
use Rattle.std.proofs.lemmas.List.{append-nil, append_assoc, append_cancel_left}
use Rattle.std.proofs.lemmas.List.Concat.{flat_map-append}
use Rattle.std.proofs.lemmas.List.Sums.{fold-append}
use Rattle.std.specs.List.{flat_map}
use Rattle.hb_base.specs.declared.door.Why.{Why}
use Rattle.hb_base.specs.declared.door.Why.TheVariants as whys
use Rattle.hb_base.specs.declared.target.Target.{Target}
use Rattle.hb_captured.specs.Captured.{judges, peer_in}
use Rattle.hb_captured.specs.Part as captured
use Rattle.hb_captured.specs.Sides.{door_of, header_by, header_of, behind}
use Rattle.hb_frames.specs.RawFrame.{RawFrame}
use Rattle.hb_front.specs.Reading.{Seen}
use Rattle.hb_inbound.specs.Part as part
use Rattle.hb_inbound.specs.Part.{moves, moves_in}
use Rattle.hb_inbound.specs.RelayRefused.{one_octet}
use Rattle.hb_inbound.specs.Sides.{data_by, stream_came}
use Rattle.hb_kept.specs.Payloads.{payload_on, payloads}
use Rattle.hb_model.proofs.Grown.{one_more}
use Rattle.hb_model.specs.Messages.{held}
use Rattle.hb_model.specs.Point as point
use Rattle.hb_model.specs.declared.config.NodeConfig.{NodeConfig}
use Rattle.hb_outgoing.specs.Waiting.{spelled}
use Rattle.hb_proxy.proofs.Owned.{whose_one}
use Rattle.hb_proxy.specs.Access.{PlainIsAdmitted, EntryLaw}
use Rattle.hb_proxy.specs.Owners.{nobody, owner, owner_by, dialled_for, upstream_of, relay_of}
use Rattle.hb_proxy.specs.Points.{Point, of_control, of_link, of_plain, of_gate, of_stream, entry_in, entries, control_of, part_in, parts_of, plain_in, plain_of}
use Rattle.hb_proxy.specs.Relay.{RelayLaw, came_behind}
use Rattle.hb_world.proofs.TraceLemmas.{recv-grows, sent-grows}
use Rattle.hb_world.specs.Trace.{recv, sent}
use Rattle.hb_world.specs.declared.entry.Entry.{Entry}
use Rattle.hb_world.specs.declared.entry.Entry.TheVariants as e
use Rattle.hb_laws.specs.Lawful.{Lawful}
use Rattle.hb_laws.specs.RefusedPlain.{IsOf, RelaysUnheld, RelaysUncome, ChangesForth, RelaysBackUncome, ChangesBack, DialsRelayTwice, CameMayGoBack}
use Rattle.hb_laws.specs.RefusedTunnels.{RefusedBy, DialsOnce, Relays, GoesUncome, ChangesUp, GoesUnheld, data_frame, InventsDown, ChangesDown, DialsUpTwice, OnceMayBeDialled, CameMayGoDown}
use Rattle.hb_laws.proofs.Bytes.{not_more}
use Rattle.hb_laws.proofs.Spelled.{begun_read}
use Rattle.hb_laws.proofs.Unheld.{nobody_admitted}

-- a law that holds of each front of a lawful run
abbrev pub HoldsAtFronts : (NodeConfig → List Point → Type 0) → Type 0
HoldsAtFronts law =
    (g : NodeConfig) (trace : List Entry) → (h : Lawful g trace) → (front rest : List Point) → h.points ≡ front ++ rest → law g front

pub by_one : (law : NodeConfig → List Point → Type 0) (P : NodeConfig → List Point → Entry → Type 0) → HoldsAtFronts law
    → ((g : NodeConfig) (before : List Point) (p : Point) (z : Entry) → entry_in p ≡ z ∷ [] → P g before z → law g (before ++ p ∷ []) → ⊥)
    → RefusedBy law P
by_one law P fronts alone = record {
  alone = alone;
  lawful = λ g trace before behind p z h are is so.
      alone g before p z is so (fronts g trace h (before ++ p ∷ []) behind (are ∙ sym (append_assoc before (p ∷ []) behind)));
}

dials_at : HoldsAtFronts DialsOnce
dials_at g trace h front rest are = (h.laws front rest are).upstreams

pub relays_at : HoldsAtFronts Relays
relays_at g trace h front rest are = (h.laws front rest are).relay

access_at : HoldsAtFronts EntryLaw
access_at g trace h front rest are before p behind front_is =
    h.access before p (behind ++ rest) (are ∙ ap (λ (ps : List Point). ps ++ rest) front_is ∙ append_assoc before (p ∷ behind) rest)

-- WITH ONE POINT MORE

-- bytes that go bring no DATA of a stream, and no front header
no_data : (l s : ℕ) (p : Point) (u : ℕ) (bytes : List ℕ) → entry_in p ≡ e.Went u bytes ∷ [] → stream_came s (part_in l p) ≡ []
no_data l s (of_control (point.entry en)) u bytes is = refl
no_data l s (of_control _) u bytes is = absurd cc
no_data l s (of_link k (part.entry en)) u bytes is =
    let same : en ≡ e.Went u bytes = cc in
    subst (λ (z : Entry). stream_came s (part_in l (of_link k (part.entry z))) ≡ []) (sym same) (by (k == l))
  where
    by : (b : Bool) → stream_came s (cond b (part.entry (e.Went u bytes) ∷ []) []) ≡ []
    by true = refl
    by false = refl
no_data l s (of_link k (part.up t en)) u bytes is = by (k == l)
  where
    by : (b : Bool) → stream_came s (cond b (part.up t en ∷ []) []) ≡ []
    by true = refl
    by false = refl
no_data l s (of_link k _) u bytes is = absurd cc
no_data l s (of_plain k q) u bytes is = refl
no_data l s (of_gate n q) u bytes is = refl
no_data l s (of_stream k n t w) u bytes is = refl

no_header : (l : ℕ) (p : Point) (u : ℕ) (bytes : List ℕ) → entry_in p ≡ e.Went u bytes ∷ [] → (told : Option Seen)
    → fold header_by told (plain_in l p) ≡ told
no_header l (of_control (point.entry en)) u bytes is told = refl
no_header l (of_control _) u bytes is told = absurd cc
no_header l (of_link k q) u bytes is told = refl
no_header l (of_plain k (captured.entry en)) u bytes is told = by (k == l)
  where
    by : (b : Bool) → fold header_by told (cond b (captured.entry en ∷ []) []) ≡ told
    by true = refl
    by false = refl
no_header l (of_plain k (captured.up en)) u bytes is told = by (k == l)
  where
    by : (b : Bool) → fold header_by told (cond b (captured.up en ∷ []) []) ≡ told
    by true = refl
    by false = refl
no_header l (of_plain k _) u bytes is told = absurd cc
no_header l (of_gate n q) u bytes is told = refl
no_header l (of_stream k n t w) u bytes is told = absurd cc

module _ (before : List Point) (p : Point) where
  abbrev pub more : List Entry
  more = entries (before ++ p ∷ [])

  module _ (z : Entry) (is : entry_in p ≡ z ∷ []) where
    owner_more : (n : ℕ) → owner n more ≡ owner_by n (owner n (entries before)) z
    owner_more n = whose_one before p n ∙ ap (fold (owner_by n) (owner n (entries before))) is

    trace_more : more ≡ entries before ++ z ∷ []
    trace_more = one_more entry_in before p ∙ ap (λ (es : List Entry). entries before ++ es) is

  -- a link that is dialled is that of its reason, and another one stays whose it was
  module _ (u : ℕ) (to : Target) (why : Why) (is : entry_in p ≡ e.Dialled u to why ∷ []) where
    owner_dialled : owner u more ≡ dialled_for why
    owner_dialled =
        owner_more (e.Dialled u to why) is u
        ∙ ap (λ (b : Bool). cond b (dialled_for why) (owner u (entries before))) (eq-eqb u u refl)

    owner_other : (n : ℕ) → n ≢ u → owner n more ≡ owner n (entries before)
    owner_other n differs =
        owner_more (e.Dialled u to why) is n ∙ ap (λ (b : Bool). cond b (dialled_for why) (owner n (entries before))) (by (u == n) refl)
      where
        by : (b : Bool) → (u == n) ≡ b → (u == n) ≡ false
        by true same = absurd (differs (sym (eqb-true u n same)))
        by false apart = apart

  -- bytes that go on a link
  module _ (l : ℕ) (bytes : List ℕ) (is : entry_in p ≡ e.Went l bytes ∷ []) where
    pub sent_more : sent l more ≡ sent l (entries before) ++ bytes
    sent_more =
        ap (sent l) (trace_more (e.Went l bytes) is) ∙ sent-grows l (entries before) (e.Went l bytes)
        ∙ ap (λ (b : Bool). sent l (entries before) ++ cond b bytes []) (eq-eqb l l refl)

    recv_same : (n : ℕ) → recv n more ≡ recv n (entries before)
    recv_same n =
        ap (recv n) (trace_more (e.Went l bytes) is) ∙ recv-grows n (entries before) (e.Went l bytes) ∙ append-nil (recv n (entries before))

    owner_same : (n : ℕ) → owner n more ≡ owner n (entries before)
    owner_same n = owner_more (e.Went l bytes) is n

    stream_same : (k s : ℕ) → stream_came s (parts_of k (before ++ p ∷ [])) ≡ stream_came s (parts_of k before)
    stream_same k s =
        ap (stream_came s) (one_more (part_in k) before p)
        ∙ ap (flat_map (data_by s)) (flat_map-append moves_in (parts_of k before) (part_in k p))
        ∙ flat_map-append (data_by s) (moves (parts_of k before)) (moves (part_in k p))
        ∙ ap (λ (xs : List ℕ). stream_came s (parts_of k before) ++ xs) (no_data k s p l bytes is)
        ∙ append-nil (stream_came s (parts_of k before))

    behind_same : (k : ℕ) → came_behind (before ++ p ∷ []) k ≡ came_behind before k
    behind_same k =
        ap₂ behind
        (ap header_of (one_more (plain_in k) before p) ∙ fold-append header_by None (plain_of k before) (plain_in k p)
        ∙ no_header k p l bytes is (header_of (plain_of k before))) (recv_same k)

    -- on the upstream of a tunnel, or of a plain link, they are next of what came on its stream, or behind its header
    up_front : (k s : ℕ) → owner l (entries before) ≡ upstream_of k s → RelayLaw (before ++ p ∷ [])
        → (rest : List ℕ) × (stream_came s (parts_of k before) ≡ (sent l (entries before) ++ bytes) ++ rest)
    up_front k s owned law =
        let up = law.ups k s l (owner_same l ∙ owned) in
        (up.rest, sym (stream_same k s) ∙ up.front ∙ ap (λ (xs : List ℕ). xs ++ up.rest) sent_more)

    forth_front : (k : ℕ) → owner l (entries before) ≡ relay_of k → RelayLaw (before ++ p ∷ [])
        → (rest : List ℕ) × (came_behind before k ≡ (sent l (entries before) ++ bytes) ++ rest)
    forth_front k owned law =
        let up = law.plain_ups k l (owner_same l ∙ owned) in
        (up.rest, sym (behind_same k) ∙ up.front ∙ ap (λ (xs : List ℕ). xs ++ up.rest) sent_more)

    -- on a plain link they are next of what came from its upstream
    back_front : (u : ℕ) → owner u (entries before) ≡ relay_of l → RelayLaw (before ++ p ∷ [])
        → (rest : List ℕ) × (recv u (entries before) ≡ (sent l (entries before) ++ bytes) ++ rest)
    back_front u owned law =
        let down = law.plain_downs l u (owner_same u ∙ owned) in
        (down.rest, sym (recv_same u) ∙ down.front ∙ ap (λ (xs : List ℕ). xs ++ down.rest) sent_more)

    -- and where whole frames went with them on an inbound link, the payload of the last one, DATA of a stream, is next
    down_front : (s u : ℕ) (frames : List RawFrame) (flags : ℕ) (payload : List ℕ) → owner u (entries before) ≡ upstream_of l s
        → sent l (entries before) ++ bytes ≡ spelled (frames ++ data_frame flags s payload ∷ []) → RelayLaw (before ++ p ∷ [])
        → (rest : List ℕ) × (recv u (entries before) ≡ (payloads s frames ++ payload) ++ rest)
    down_front s u frames flags payload owned whole law =
        let frame = data_frame flags s payload in
        let down = law.downs l s u (owner_same u ∙ owned) in
        let begun = begun_read (sent l more) (frames ++ frame ∷ []) down.begun down.began (sent_more ∙ whole) in
        let all = flat_map-append (payload_on s) frames (frame ∷ [])
        ∙ ap (λ (b : Bool). payloads s frames ++ (cond b payload [] ++ [])) (eq-eqb s s refl)
        ∙ ap (λ (xs : List ℕ). payloads s frames ++ xs) (append-nil payload) in
        (down.rest, sym (recv_same u) ∙ down.front ∙ ap (λ (xs : List ℕ). xs ++ down.rest) (ap (payloads s) begun ∙ all))

-- another byte is next
pub other_next : (front rest more last : List ℕ) (byte other : ℕ) → byte ≢ other
    → front ++ byte ∷ rest ≡ (front ++ other ∷ more) ++ last → ⊥
other_next front rest more last byte other differs is =
    let next : byte ∷ rest ≡ other ∷ (more ++ last) =
    append_cancel_left front (byte ∷ rest) (other ∷ (more ++ last)) (is ∙ append_assoc front (other ∷ more) last) in
    differs cc

-- DIALS

pub dials_up_twice : RefusedBy DialsOnce DialsUpTwice
dials_up_twice = by_one DialsOnce DialsUpTwice dials_at (λ g before p z is so law.
    let why = whys.Upstream so.link so.stream in
    let goes = is ∙ ap (λ (y : Entry). y ∷ []) so.dials in
    so.differs (law.streams so.link so.stream so.first so.up
    (owner_other before p so.up so.target why goes so.first so.differs ∙ so.owned) (owner_dialled before p so.up so.target why goes)))

pub dials_relay_twice : RefusedBy DialsOnce DialsRelayTwice
dials_relay_twice = by_one DialsOnce DialsRelayTwice dials_at (λ g before p z is so law.
    let goes = is ∙ ap (λ (y : Entry). y ∷ []) so.dials in
    so.differs (law.relays so.link so.first so.up
    (owner_other before p so.up so.target so.why goes so.first so.differs ∙ so.owned)
    (owner_dialled before p so.up so.target so.why goes ∙ so.for_it)))

-- BYTES

pub goes_unheld : RefusedBy EntryLaw GoesUnheld
goes_unheld = by_one EntryLaw GoesUnheld access_at (λ g before p z is so law.
    let goes = is ∙ ap (λ (y : Entry). y ∷ []) so.goes in
    let admits = (law before p [] refl (e.Went so.up so.bytes) so.up goes refl).up so.link so.stream so.owned in
    nobody_admitted (held g (control_of before)) admits.peer admits.target so.none admits.admitted)

pub relays_unheld : RefusedBy EntryLaw RelaysUnheld
relays_unheld = by_one EntryLaw RelaysUnheld access_at alone
  where
    alone : (g : NodeConfig) (before : List Point) (p : Point) (z : Entry) → entry_in p ≡ z ∷ [] → RelaysUnheld g before z
        → EntryLaw g (before ++ p ∷ []) → ⊥
    alone g before p z is so law = by so.of_it
      where
        goes : entry_in p ≡ e.Went so.on so.bytes ∷ []
        goes = is ∙ ap (λ (y : Entry). y ∷ []) so.goes

        none : (l : ℕ) → PlainIsAdmitted g before l → ⊥
        none l admits = nobody_admitted (held g (control_of before)) (peer_in admits.seen) admits.seen.destination so.none admits.admitted

        by : IsOf so.link so.on before → ⊥
        by (inl (same, mine)) =
            none so.on ((law before p [] refl (e.Went so.on so.bytes) so.on goes refl).plain mine
            (subst (λ (k : ℕ). judges (door_of (plain_of k before)) ≡ true) (sym same) so.judged))
        by (inr mine) = none so.link ((law before p [] refl (e.Went so.on so.bytes) so.on goes refl).relay so.link mine so.judged)

pub goes_uncome : RefusedBy Relays GoesUncome
goes_uncome = by_one Relays GoesUncome relays_at (λ g before p z is so law.
    let goes = is ∙ ap (λ (y : Entry). y ∷ []) so.goes in
    let front = up_front before p so.up (so.byte ∷ so.more) goes so.link so.stream so.owned law in
    not_more (sent so.up (entries before)) so.more front.0 so.byte (so.all_went ∙ front.1))

pub changes_up : RefusedBy Relays ChangesUp
changes_up = by_one Relays ChangesUp relays_at (λ g before p z is so law.
    let goes = is ∙ ap (λ (y : Entry). y ∷ []) so.goes in
    let front = up_front before p so.up (so.other ∷ so.more) goes so.link so.stream so.owned law in
    other_next (sent so.up (entries before)) so.rest so.more front.0 so.byte so.other so.differs (sym so.came ∙ front.1))

pub relays_uncome : RefusedBy Relays RelaysUncome
relays_uncome = by_one Relays RelaysUncome relays_at (λ g before p z is so law.
    let goes = is ∙ ap (λ (y : Entry). y ∷ []) so.goes in
    let front = forth_front before p so.up (so.byte ∷ so.more) goes so.link so.owned law in
    not_more (sent so.up (entries before)) so.more front.0 so.byte (so.all_went ∙ front.1))

pub changes_forth : RefusedBy Relays ChangesForth
changes_forth = by_one Relays ChangesForth relays_at (λ g before p z is so law.
    let goes = is ∙ ap (λ (y : Entry). y ∷ []) so.goes in
    let front = forth_front before p so.up (so.other ∷ so.more) goes so.link so.owned law in
    other_next (sent so.up (entries before)) so.rest so.more front.0 so.byte so.other so.differs (sym so.came ∙ front.1))

pub invents_down : RefusedBy Relays InventsDown
invents_down = by_one Relays InventsDown relays_at (λ g before p z is so law.
    let goes = is ∙ ap (λ (y : Entry). y ∷ []) so.goes in
    let front = down_front before p so.link so.bytes goes so.stream so.up so.frames so.flags (so.byte ∷ so.more) so.owned so.whole law in
    not_more (payloads so.stream so.frames) so.more front.0 so.byte (sym so.all_went ∙ front.1))

pub changes_down : RefusedBy Relays ChangesDown
changes_down = by_one Relays ChangesDown relays_at (λ g before p z is so law.
    let goes = is ∙ ap (λ (y : Entry). y ∷ []) so.goes in
    let front = down_front before p so.link so.bytes goes so.stream so.up so.frames so.flags (so.other ∷ so.more) so.owned so.whole law in
    other_next (payloads so.stream so.frames) so.rest so.more front.0 so.byte so.other so.differs (sym so.came ∙ front.1))

pub relays_back_uncome : RefusedBy Relays RelaysBackUncome
relays_back_uncome = by_one Relays RelaysBackUncome relays_at (λ g before p z is so law.
    let goes = is ∙ ap (λ (y : Entry). y ∷ []) so.goes in
    let front = back_front before p so.link (so.byte ∷ so.more) goes so.up so.owned law in
    not_more (sent so.link (entries before)) so.more front.0 so.byte (so.all_went ∙ front.1))

pub changes_back : RefusedBy Relays ChangesBack
changes_back = by_one Relays ChangesBack relays_at (λ g before p z is so law.
    let goes = is ∙ ap (λ (y : Entry). y ∷ []) so.goes in
    let front = back_front before p so.link (so.other ∷ so.more) goes so.up so.owned law in
    other_next (sent so.link (entries before)) so.rest so.more front.0 so.byte so.other so.differs (sym so.came ∙ front.1))

-- LET BY THE SAME LAWS

-- which stream a link of these two dials is of
module _ (to other : Target) where
  abbrev two : List Entry
  two = e.Dialled 3 to (whys.Upstream 2 1) ∷ e.Dialled 4 other (whys.Upstream 2 3) ∷ []

  first_or_second : (u l s : ℕ) → owner u two ≡ upstream_of l s → ((u ≡ 3) × (s ≡ 1)) ⊎ ((u ≡ 4) × (s ≡ 3))
  first_or_second u l s owned = by (4 == u) (3 == u) refl refl owned
    where
      by : (b a : Bool) → (4 == u) ≡ b → (3 == u) ≡ a → cond b (upstream_of 2 3) (cond a (upstream_of 2 1) nobody) ≡ upstream_of l s
          → ((u ≡ 3) × (s ≡ 1)) ⊎ ((u ≡ 4) × (s ≡ 3))
      by true a four three is = inr (sym (eqb-true 4 u four), (let same : 3 ≡ s = cc in sym same))
      by false true four three is = inl (sym (eqb-true 3 u three), (let same : 1 ≡ s = cc in sym same))
      by false false four three is = absurd cc

  no_relay : (u l : ℕ) → owner u two ≡ relay_of l → ⊥
  no_relay u l owned = by (4 == u) (3 == u) owned
    where
      by : (b a : Bool) → cond b (upstream_of 2 3) (cond a (upstream_of 2 1) nobody) ≡ relay_of l → ⊥
      by true a is = cc
      by false true is = cc
      by false false is = cc

  same_stream : (u v s : ℕ) → ((u ≡ 3) × (s ≡ 1)) ⊎ ((u ≡ 4) × (s ≡ 3)) → ((v ≡ 3) × (s ≡ 1)) ⊎ ((v ≡ 4) × (s ≡ 3)) → u ≡ v
  same_stream u v s (inl one) (inl two) = one.0 ∙ sym two.0
  same_stream u v s (inr one) (inr two) = one.0 ∙ sym two.0
  same_stream u v s (inl one) (inr two) = absurd (omega (arith, one.1, two.1))
  same_stream u v s (inr one) (inl two) = absurd (omega (arith, one.1, two.1))

pub once_may_be_dialled : OnceMayBeDialled
once_may_be_dialled to other = record {
  streams = λ l s u v first second.
      same_stream to other u v s (first_or_second to other u l s first) (first_or_second to other v l s second);
  relays = λ l u v first second. absurd (no_relay to other u l first);
}

pub came_may_go_down : CameMayGoDown
came_may_go_down second = record { begun = one_octet ∷ []; began = inl refl; rest = second ∷ []; front = refl }

pub came_may_go_back : CameMayGoBack
came_may_go_back first second = record { rest = second ∷ []; front = refl }
