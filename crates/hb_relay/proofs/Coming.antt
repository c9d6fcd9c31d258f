-- Bytes that come of a link: of its front header, and behind it.
use Rattle.std.proofs.Common.{◌≡◌, inl, inr, ◌⊎◌, ℕ, ◌≤◌, ◌<◌, ◌-◌, ◌&&◌, not, Bool, true, false, cond, List, [], ◌++◌, length, drop, Option, Some, None, refl, ap, sym, ◌∙◌, subst, arith, length-append, length-drop}
use Rattle.std.specs.Prelude.{nat_le}
use Rattle.std.proofs.lemmas.Bool.Decides.{nat_tests}
use Rattle.hb_base.specs.declared.cause.Cause.{Cause}
use Rattle.hb_base.specs.declared.cause.Cause.TheVariants as cause
use Rattle.hb_base.specs.declared.door.Door.{Door}
use Rattle.hb_base.specs.declared.door.Door.TheVariants as door
use Rattle.hb_base.specs.declared.note.Note.{Note}
use Rattle.hb_front.specs.Faults.{number_of}
use Rattle.hb_front.specs.Reading.{Seen, Answer as Reading, IsAnswer, Whole, More, Fault}
use Rattle.hb_held.specs.Held.{Resources}
use Rattle.hb_tunnel.specs.Way.{Way, after, pushes}
use Rattle.hb_world.specs.declared.entry.Entry.TheVariants as e
use Rattle.hb_captured.specs.Answer.{Aim, straight_to, Answer, aims, refuses, Routing, answer_on, by_verdict, key_of, verdict_on, endpoint_of}
use Rattle.hb_verdict.specs.declared.verdict.Verdict.{Verdict}
use Rattle.hb_verdict.specs.declared.verdict.Verdict.TheVariants.{Status, Reset, Dial}
use Rattle.hb_gateway.specs.Key.{Key}
use Rattle.hb_front.specs.Room.{longest_front}
use Rattle.hb_captured.specs.Calm.{IsCalmBy, room, wants, wants_by}
use Rattle.hb_captured.specs.Captured as m
use Rattle.hb_captured.specs.Captured.{Captured, Stage, at_stage, counts_for, ends_by, ends_for, fronted_by, came_by, is_raw, judges, peer_noted, unnamed, ring_up}
use Rattle.hb_captured.specs.Counts.{recounted}
use Rattle.hb_captured.specs.Part.{entry, lacked, misfronted, fronted, refused, note_if}
use Rattle.hb_captured.specs.Runs.{Local, Lacks, IsTried, next, verdict_note}
use Rattle.hb_captured.specs.Sides.{header_of, link_came}
use Rattle.hb_captured.proofs.Kept.{all_keep}
use Rattle.hb_captured.proofs.Stages.{KnowsBy}
use Rattle.hb_relay.specs.declared.relay.Relay.{Relay}
use Rattle.hb_relay.specs.declared.stage.Stage as code
use Rattle.hb_relay.specs.declared.stage.Stage.TheVariants.{Fronting, Due, Opening, Live, Over}
use Rattle.hb_relay.specs.Calls.{Takes}
use Rattle.hb_relay.specs.Moving.{header_told, decided_by, decided_note, Fronts, IsDecided, IsLacked, TakesFront}
use Rattle.hb_relay.specs.Answering.{counted_for}
use Rattle.hb_relay.specs.Reaches.{IsInner, Reaches, rerouted}
use Rattle.hb_relay.specs.Rings.{pushed}
use Rattle.hb_relay.specs.Shows.{Shows, IsStraight, captured_of, as_told, stage_of}
use Rattle.hb_relay.proofs.Meeting.{has_room, fits, through_up, counts_at}
use Rattle.hb_relay.proofs.Reached.{RestsBy, goes_on, upstream_at, raw_so, stage_is, unmoved, rests, follows}

-- BEHIND THE HEADER

front_only : (s : code.Stage) → stage_of s ≡ m.fronting → s ≡ Fronting
front_only Fronting is = refl
front_only Due is = absurd (cc)
front_only Opening is = absurd (cc)
front_only Live is = absurd (cc)
front_only (Over why) is = absurd (cc)

module _ (held : Resources) (old new : Relay) (bytes : List ℕ) (routing : Routing) (late : old.stage ≡ Fronting → ⊥)
    (number : new.number ≡ old.number)
    (is : captured_of new ≡ record (captured_of old) {
      ways = record (captured_of old).ways {
        up =
            pushed (ring_up (captured_of old).door) bytes (captured_of old).ways.up;
      };
    }) where
  now_is : (x : Captured) → as_told x ≡ captured_of old → 0 < length bytes → length bytes ≤ room (ring_up x.door) x.ways.up
      → as_told (record x { ways = record x.ways { up = after x.ways.up (pushes bytes) } }) ≡ captured_of new
  now_is x same some most =
      let going = has_room (ring_up x.door) x.ways.up (omega (arith, some, most)) in
      ap (λ w. as_told (record x { ways = record x.ways { up = w } })) (sym (fits (ring_up x.door) x.ways.up bytes going most))
      ∙ ap (λ (c : Captured). record c { ways = record c.ways { up = pushed (ring_up c.door) bytes c.ways.up } }) same ∙ sym is

  -- they go up, and it rests as before
  goes_up : (a : Local) → Shows old a.link → (s : Stage) → a.link.stage ≡ s → wants_by s a.link ≡ room (ring_up a.link.door) a.link.ways.up
      → came_by s bytes a.link ≡ record a.link { ways = record a.link.ways { up = after a.link.ways.up (pushes bytes) } }
      → (a.link.ways.up.has_ended ≡ false
      → IsCalmBy s (record a.link { ways = record a.link.ways { up = after a.link.ways.up (pushes bytes) } }))
      → 0 < length bytes → length bytes ≤ wants a.link
      → Reaches IsInner old.number (rerouted a.link (next a (entry (e.Came old.number bytes))).link routing)
      (next a (entry (e.Came old.number bytes))) new routing None
  goes_up a shows s at room_is comes calm some most =
      let x = a.link in
      let y = record x { ways = record x.ways { up = after x.ways.up (pushes bytes) } } in
      let small : length bytes ≤ room (ring_up x.door) x.ways.up =
      subst (λ (n : ℕ). length bytes ≤ n) (ap (λ (t : Stage). wants_by t x) at ∙ room_is) most in
      let going = has_room (ring_up x.door) x.ways.up (omega (arith, some, small)) in
      subst (λ (z : Captured). Reaches IsInner old.number (rerouted x z routing) (record { held = a.held; link = z }) new routing None)
      (sym (ap (λ (t : Stage). came_by t bytes x) at ∙ comes))
      (rests IsInner old.number (rerouted x y routing) (record { held = a.held; link = y }) new routing None
      (sym (unmoved x y routing refl)) (now_is x shows.same some small)
      (subst (λ (t : Stage). IsCalmBy t y) (sym at) (calm going), shows.upstream) shows.straight refl)

  pub comes_up : Takes held bytes old routing new routing None
  comes_up = record {
    number = number;
    reaches = λ start before a stands shows so may.
        by a shows may.1.0 may.2.1 may.2.2;
  }
    where
      by : (a : Local) → Shows old a.link → IsTried a.link → 0 < length bytes → length bytes ≤ wants a.link
          → Reaches IsInner old.number (rerouted a.link (next a (entry (e.Came old.number bytes))).link routing)
          (next a (entry (e.Came old.number bytes))) new routing None
      by a shows (inl at) some most = absurd (late (front_only old.stage (sym (stage_is old a.link shows.same) ∙ at.1)))
      by a shows (inr (inl at)) some most = goes_up a shows m.opening at.1 refl refl (λ going. tt) some most
      by a shows (inr (inr at)) some most =
          goes_up a shows m.live at.1 refl refl
          (λ going.
          let y = record a.link { ways = record a.link.ways { up = after a.link.ways.up (pushes bytes) } } in
          goes_on y (through_up y going))
          some most

-- THE HEADER

fronts_fit : (d : Door) → longest_front ≤ ring_up d
fronts_fit door.Outbound = omega arith
fronts_fit door.Inbound = omega arith
fronts_fit door.Plain = omega arith

-- what stands behind a header fits the way up
rest_fits : (size : ℕ) (w : Way) (bytes : List ℕ) → longest_front ≤ size → w.held ≡ [] → w.has_ended ≡ false
    → length bytes ≤ longest_front → pushed size bytes w ≡ after w (pushes bytes)
rest_fits size w bytes large none open_yet short =
    let small : length bytes ≤ size - length w.held = omega (arith, large, short, ap length none) in
    let test : nat_le (length bytes) (size - length w.held) ≡ true = grind (arith, nat_tests, small) in
    ap (λ (b : Bool). cond (not b && nat_le (length bytes) (size - length w.held)) (after w (pushes bytes)) w) open_yet
    ∙ ap (λ (b : Bool). cond b (after w (pushes bytes)) w) test

-- where peers are judged no answer leads by a gateway
straight_by : (v : Verdict) (aim : Aim) → by_verdict v ≡ aims aim → key_of aim ≡ None
straight_by v aim is = ap keyed (sym is) ∙ none v
  where
    keyed : Answer → Option Key
    keyed (aims aim) = key_of aim
    keyed (refuses why status) = None

    none : (v : Verdict) → keyed (by_verdict v) ≡ None
    none (Dial to) = refl
    none (Status status) = refl
    none Reset = refl

straight_on : (d : Door) (h : Resources) (routing : Routing) (seen : Seen) (aim : Aim) → answer_on d h routing seen ≡ aims aim
    → judges d ≡ true → key_of aim ≡ None
straight_on door.Outbound h routing seen aim is on = absurd (cc)
straight_on door.Inbound h routing seen aim is on = straight_by (verdict_on h seen) aim is
straight_on door.Plain h routing seen aim is on = straight_by (verdict_on h seen) aim is

module _ (l : ℕ) (h : Resources) (before behind : Routing) (y : Captured) (z : Captured) (new : Relay) (made : Option Note)
    (at : y.stage ≡ m.fronting) (same : as_told y ≡ z) (neither : (y.up ≡ 0) × (y.gate ≡ 0)) (straight : IsStraight y)
    (none : y.ways.up.held ≡ []) (open_yet : y.ways.up.has_ended ≡ false) (short : length y.front ≤ longest_front) where
  raw : is_raw y ≡ true
  raw = raw_so y neither.1

  -- it counts for none
  uncounted : counts_for y ≡ None
  uncounted = counts_at y m.fronting at

  told_is : (seen : Seen) (aim : Aim) (stage : Stage) → as_told (fronted_by seen aim stage y)
      ≡ record (header_told seen z) { stage = stage; aim = aim }
  told_is seen aim stage =
      let rest = drop seen.length y.front in
      ap (λ w. record (as_told (fronted_by seen aim stage y)) { ways = record y.ways { up = w } })
      (sym (rest_fits (ring_up y.door) y.ways.up rest (fronts_fit y.door) none open_yet
      (omega (arith, short, length-drop seen.length y.front))))
      ∙ ap (λ (x : Captured). record (header_told seen x) { stage = stage; aim = aim }) same

  decides : (seen : Seen) (gets : Answer) → answer_on y.door h before seen ≡ gets → IsAnswer y.front (Whole seen)
      → captured_of new ≡ decided_by gets (header_told seen z)
      → made ≡ decided_note l gets (header_told seen z) → behind ≡ counted_for gets before
      → Reaches IsInner l before (record { held = h; link = y }) new behind made
  decides seen (aims aim) is whole now noted counts =
      follows IsInner l before (record { held = h; link = y }) new behind (fronted seen before aim) made tt refl ((at, whole), is)
      (counts ∙ ap (λ (o : Option (List ℕ)). record before { opens = recounted o (endpoint_of aim) before.opens }) (sym uncounted))
      (told_is seen aim m.due ∙ sym now) (tt, neither) (straight_on y.door h before seen aim is) (sym (ap note_if noted))
  decides seen (refuses why status) is whole now noted counts =
      let aim = straight_to seen.destination None in
      follows IsInner l before (record { held = h; link = y }) new behind
      (refused seen before why status (verdict_note l status (peer_noted y.door seen) seen.destination)) made tt refl
      ((at, whole), is, refl) (counts ∙ sym (unmoved y (unnamed (fronted_by seen aim (m.over why) y)) before uncounted))
      (ap unnamed (told_is seen aim (m.over why)) ∙ sym now) (raw, tt) (λ on. refl)
      (sym (ap note_if
      (noted ∙ ap (λ (c : Captured). Some (verdict_note l status (peer_noted c.door seen) seen.destination)) (sym same))))

  -- it is over without a note
  ends_early : (why : Cause) → captured_of new ≡ at_stage (m.over why) z
      → as_told (ends_for why y) ≡ captured_of new
  ends_early why now = ap (λ (s : Stage). as_told (at_stage (ends_by why s) y)) at ∙ ap (at_stage (m.over why)) same ∙ sym now

  early_rests : (why : Cause) → RestsBy (ends_by why y.stage) (ends_for why y)
  early_rests why = subst (λ (s : Stage). RestsBy (ends_by why s) (ends_for why y)) (sym at) (raw, tt)

  early_counts : (why : Cause) → counts_for (ends_for why y) ≡ None
  early_counts why = ap (λ (s : Stage). counts_for (at_stage (ends_by why s) y)) at

  wholly : (seen : Seen) → IsAnswer y.front (Whole seen)
      → IsDecided l h seen before behind z (captured_of new) made ⊎ IsLacked before behind z (captured_of new) made
      → Reaches IsInner l before (record { held = h; link = y }) new behind made
  wholly seen is (inl (now, noted, counts)) =
      decides seen (answer_on z.door h before seen) (ap (λ (c : Captured). answer_on c.door h before seen) same) is now noted counts
  wholly seen is (inr (now, noted, counts)) =
      follows IsInner l before (record { held = h; link = y }) new behind lacked made tt tt
      (subst (λ (s : Stage). Lacks s y) (sym at) (seen, is))
      (counts ∙ sym (unmoved y (ends_for cause.NoMemory y) before (uncounted ∙ sym (early_counts cause.NoMemory))))
      (ends_early cause.NoMemory now) (early_rests cause.NoMemory) straight (sym (ap note_if noted))

  pub fronts : (reading : Reading) → IsAnswer y.front reading → Fronts l h before behind reading z (captured_of new) made
      → Reaches IsInner l before (record { held = h; link = y }) new behind made
  fronts More is (now, noted, counts) =
      rests IsInner l before (record { held = h; link = y }) new behind made counts (same ∙ sym now)
      (subst (λ (s : Stage). RestsBy s y) (sym at) (is, neither)) straight noted
  fronts (Fault fault) is (now, noted, counts) =
      let why = cause.FrontFault (number_of fault) in
      follows IsInner l before (record { held = h; link = y }) new behind (misfronted fault) made tt tt (at, is)
      (counts ∙ sym (unmoved y (ends_for why y) before (uncounted ∙ sym (early_counts why))))
      (ends_early why now) (early_rests why) straight (sym (ap note_if noted))
  fronts (Whole seen) is made_so = wholly seen is made_so

pub comes_front : (held : Resources) (before behind : Routing) (old new : Relay) (bytes : List ℕ) (made : Option Note)
    → old.stage ≡ Fronting → TakesFront held before behind (record old { front = old.front ++ bytes }) new made
    → Takes held bytes old before new behind made
comes_front held before behind old new bytes made is takes = record {
  number = takes.number;
  reaches = λ start parts a stands shows so may.
      let x = a.link in
      let at : x.stage ≡ m.fronting = stage_is old x shows.same ∙ ap stage_of is in
      let early = subst (λ (s : Stage). KnowsBy s (header_of parts) (link_came parts) a.held x) at
      (all_keep old.number start a parts stands).knows in
      let y = came_by m.fronting bytes x in
      let most : length bytes ≤ longest_front - length x.front =
      subst (λ (n : ℕ). length bytes ≤ n) (ap (λ (s : Stage). wants_by s x) at) may.2.2 in
      let front_is : x.front ≡ old.front = ap (λ (c : Captured). c.front) shows.same in
      subst (λ (z : Captured). Reaches IsInner old.number (rerouted x z before) (record { held = a.held; link = z }) new behind made)
      (sym (ap (λ (s : Stage). came_by s bytes x) at))
      (subst (λ (r : Routing). Reaches IsInner old.number r (record { held = a.held; link = y }) new behind made)
      (sym (unmoved x y before refl))
      (fronts old.number a.held before behind y (captured_of (record old { front = old.front ++ bytes })) new made at
      (ap (λ (c : Captured). record c { front = c.front ++ bytes }) shows.same) (upstream_at old x shows m.fronting at) shows.straight
      early.none early.going
      (omega (arith, length-append x.front bytes, most, early.short)) takes.answer
      (subst (λ (bs : List ℕ). IsAnswer (bs ++ bytes) takes.answer) (sym front_is) takes.is)
      (subst (λ (g : Resources). Fronts old.number g before behind takes.answer (captured_of (record old { front = old.front ++ bytes }))
      (captured_of new) made)
      (sym so) takes.fronts)));
}
