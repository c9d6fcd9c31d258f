-- Each law holds of every run of a captured link.
use Rattle.std.proofs.Common.{◌≡◌, ◌≢◌, ◌⊎◌, inl, inr, ℕ, ◌<◌, ◌==◌, ◌&&◌, not, Bool, true, false, List, ◌++◌, length, Option, Some, None, refl, ap, sym, ◌∙◌, subst, arith, length-append}
use Rattle.std.specs.Prelude.{IsSome}
use Rattle.std.proofs.lemmas.Bool.{false≢true, and_parts}
use Rattle.std.proofs.lemmas.List.{append-nil}
use Rattle.hb_base.specs.declared.cause.Cause.{Cause}
use Rattle.hb_base.specs.declared.cause.Cause.TheVariants as cause
use Rattle.hb_base.specs.declared.door.Door.{Door}
use Rattle.hb_base.specs.declared.door.Why.{Why}
use Rattle.hb_base.specs.declared.identity.Identity.{Identity}
use Rattle.hb_base.specs.declared.note.Note.{Note}
use Rattle.hb_base.specs.declared.peer.Peer.{Peer}
use Rattle.hb_base.specs.declared.target.Target.{Target}
use Rattle.hb_front.specs.Reading.{Answer, Seen, IsAnswer, Whole, More, Fault}
use Rattle.hb_gateway.specs.Response as response
use Rattle.hb_gateway.specs.Response.{Heard, opens, brings, fails}
use Rattle.hb_held.specs.Held.{Resources}
use Rattle.hb_table.specs.Judgement.{judged}
use Rattle.hb_tunnel.specs.Way.{is_done}
use Rattle.hb_world.specs.declared.entry.Entry.{Entry}
use Rattle.hb_world.specs.declared.entry.Entry.TheVariants as e
use Rattle.hb_world.specs.declared.entry.Way.TheVariants as way
use Rattle.hb_captured.specs.Access.{IsAdmitted, GoesAdmitted, AccessAt}
use Rattle.hb_captured.specs.Answer.{Routing, answer_on, key_of, why_for}
use Rattle.hb_captured.specs.Captured.{Stage, unborn, arriving, fronting, due, opening, accepting, live, failed, ended, over, judges, ring_up, ring_down, is_raw, peer_in, peer_noted, identity_noted, named, may_shut_up, may_shut, is_through}
use Rattle.hb_captured.specs.Calm.{IsCalmBy, IsIdleBy, wants_by, up_wants, up_wants_by}
use Rattle.hb_captured.specs.Ends.{GoesOn, MayLack, IsOnStream, IsOffStream, MayHear, LinkStands, UpStands, IsThrough, EndsAt}
use Rattle.hb_captured.specs.Laws.{RunsRelay, RunsAdmit, RunsEnd, RunsAnswer, RunsNote, RunsSettle, RunsFitRings}
use Rattle.hb_captured.specs.Notes.{Noting, answer, end_of_it, noting_of, gone_up, IsVerdictNote, IsEndNote, FailsWith, Leaves, IsLeft, NotesAt}
use Rattle.hb_captured.specs.Part.{Part, entry, up, welcomed, crowded, lacked, misfronted, fronted, refused, accepted, roomless, asked, hears, put, finished, credited, loosed, completed, left, done, applied, stopped}
use Rattle.hb_captured.specs.Relay.{ShutsUp, ShutsDown, LinkMayGo, UpMayGo, RelaysAt}
use Rattle.hb_captured.specs.Runs as runs
use Rattle.hb_captured.specs.Runs.{Local, MayCome, UpMayCome, MayGo, IsAt, IsTried, IsReadable, IsDial, Lacks, HasEnded, StandsFor, verdict_note, end_note, failure_status, note_of, left_note}
use Rattle.hb_captured.specs.Settled.{SettledBy, SettledWhere, SettledAt}
use Rattle.hb_captured.specs.Sides as sides
use Rattle.hb_captured.specs.Sides.{Course, course_of, door_of, header_of, held, judged_in, link_came, link_went, raw_came, up_came, up_went, is_end, ends_up, is_asked, was, was_on_link, up_of, Stream, stream_of, begun_of}
use Rattle.hb_captured.specs.Verdicts.{IsDialOf, DialsAt, GoesThrough, VerdictAt}
use Rattle.hb_captured.proofs.Asked.{all_ask}
use Rattle.hb_captured.proofs.Grown.{at_parts}
use Rattle.hb_captured.proofs.Kept.{Keeps, all_keep}
use Rattle.hb_captured.proofs.Named.{Names, all_name}
use Rattle.hb_captured.proofs.Stages.{course_in, noting_in, Told, KnowsBy}
use Rattle.hb_captured.proofs.Streamed.{said, Road, road_of, MayStream, Streamed, never, has, was_left, unasked, on_gate, off_gate, all_streamed}
use Rattle.hb_captured.proofs.Ways.{done_ended, done_empty, is_done_so, none_waits, has_room, shuts_up_so, shuts_down_so}

held_back : (b c : Bool) → b ≡ true → (b && not c) ≡ false → c ≡ true
held_back true true is none = refl
held_back true false is none = absurd (false≢true (sym none))
held_back false c is none = absurd (false≢true is)

module _ (l : ℕ) (start : Resources) (a : Local) (before : List Part) (stands : StandsFor l start a before) where
  keeps : Keeps start a before
  keeps = all_keep l start a before stands

  course_at : (stage : Stage) → a.link.stage ≡ stage → course_of start before ≡ course_in stage
  course_at stage is = keeps.course ∙ ap course_in is

  noting_at : (stage : Stage) → a.link.stage ≡ stage → noting_of before ≡ noting_in stage
  noting_at stage is = keeps.noting ∙ ap noting_in is

  knows_at : (stage : Stage) → a.link.stage ≡ stage → KnowsBy stage (header_of before) (link_came before) a.held a.link
  knows_at stage is = subst (λ (s : Stage). KnowsBy s (header_of before) (link_came before) a.held a.link) is keeps.knows

  streamed : Streamed (said before) (road_of a.link)
  streamed = all_streamed l start a before stands

  -- RELAY

  -- where nothing waits on a way, all that came went
  ups_whole : is_done a.link.ways.up ≡ true → up_went before ≡ raw_came before
  ups_whole through =
      sym (keeps.ups ∙ ap (λ (bs : List ℕ). up_went before ++ bs) (done_empty a.link.ways.up through) ∙ append-nil (up_went before))

  downs_whole : is_done a.link.ways.down ≡ true → link_went before ≡ up_came before
  downs_whole through =
      sym (keeps.downs ∙ ap (λ (bs : List ℕ). link_went before ++ bs) (done_empty a.link.ways.down through)
      ∙ append-nil (link_went before))

  shuts_up : (is_done a.link.ways.up ≡ true) × (a.link.up_shut ≡ false) → ShutsUp before
  shuts_up (through, open_yet) = record {
    ended = keeps.tells.ended ∙ done_ended a.link.ways.up through;
    whole = ups_whole through;
    once = keeps.tells.up_shut ∙ open_yet;
  }

  shuts_down : (is_done a.link.ways.down ≡ true) × (a.link.shut ≡ false) → ShutsDown before
  shuts_down (through, open_yet) = record {
    ended = keeps.tells.up_ended ∙ done_ended a.link.ways.down through;
    whole = downs_whole through;
    once = keeps.tells.shut ∙ open_yet;
  }

  link_goes : (z : Entry) → MayCome l a.link z → LinkMayGo start before z
  link_goes (e.Went k bytes) may = course_at live may.1.1
  link_goes (e.Shut k) may = (course_at live may.2, shuts_down (shuts_down_so a.link may.3))
  link_goes (e.Accepted k d) may = tt
  link_goes (e.Came k bytes) may = tt
  link_goes (e.Ended k) may = tt
  link_goes (e.Broke k) may = tt
  link_goes (e.Closed k why) may = tt
  link_goes (e.Balked way) may = tt
  link_goes (e.Dialled k to why) may = absurd may
  link_goes (e.DialFailed to why) may = absurd may
  link_goes (e.Opened k) may = absurd may
  link_goes e.Tick may = absurd may
  link_goes (e.Wait ready how) may = absurd may

  up_goes : (z : Entry) → UpMayCome l a.link z → UpMayGo start before z
  up_goes (e.Went k bytes) may = course_at live may.0.0.1
  up_goes (e.Shut k) may = (course_at live may.1, shuts_up (shuts_up_so a.link may.4))
  up_goes (e.Dialled k to why) may = tt
  up_goes (e.DialFailed to why) may = tt
  up_goes (e.Opened k) may = tt
  up_goes (e.Came k bytes) may = tt
  up_goes (e.Ended k) may = tt
  up_goes (e.Broke k) may = tt
  up_goes (e.Closed k why) may = tt
  up_goes (e.Balked way) may = tt
  up_goes (e.Accepted k d) may = absurd may
  up_goes e.Tick may = absurd may
  up_goes (e.Wait ready how) may = absurd may

  relays : (p : Part) → MayGo l a p → RelaysAt start before p
  relays (entry z) may = link_goes z may
  relays (up z) may = up_goes z may
  relays welcomed may = tt
  relays crowded may = tt
  relays lacked may = tt
  relays (misfronted fault) may = tt
  relays (fronted seen routing aim) may = tt
  relays (refused seen routing why status made) may = tt
  relays (accepted made) may = tt
  relays (left made) may = tt
  relays (done made) may = tt
  relays roomless may = tt
  relays (asked gate stream) may = tt
  relays (hears heard begun) may = tt
  relays (put bytes) may = course_at live may.0.1
  relays finished may = (course_at live may.0.1, shuts_up (may.1, may.2))
  relays (credited n) may = tt
  relays (loosed begun) may = tt
  relays (completed begun made) may = tt
  relays (applied r) may = tt
  relays (stopped why) may = tt

  -- ACCESS

  admitted : a.link.stage ≡ live → judges (door_of before) ≡ true → IsAdmitted start before
  admitted is may =
      let at = (knows_at live is).0 in
      record {
        seen = at.0.seen;
        told = at.0.told;
        admitted = ap (λ (h : Resources). judged_in h at.0.seen) keeps.held
            ∙ ap (λ p. judged a.held p at.0.seen.destination) (sym at.0.peer)
            ∙ ap (λ t. judged a.held a.link.peer t) (sym at.0.target) ∙ at.1 (sym (ap judges keeps.tells.door) ∙ may);
      }

  -- ENDS

  goes_on : IsTried a.link → GoesOn (course_of start before)
  goes_on (inl at) = subst GoesOn (sym (course_at fronting at.1)) tt
  goes_on (inr (inl at)) = subst GoesOn (sym (course_at opening at.1)) tt
  goes_on (inr (inr at)) = subst GoesOn (sym (course_at live at.1)) tt

  -- it is read only while its side hasn't ended
  going : IsReadable a.link → was_on_link is_end before ≡ false
  going (inl at, wanted) = keeps.tells.ended ∙ (knows_at fronting at.1).going
  going (inr (inl at), wanted) =
      keeps.tells.ended ∙ has_room (ring_up a.link.door) a.link.ways.up
      (subst (λ (n : ℕ). 0 < n) (ap (λ (s : Stage). wants_by s a.link) at.1) wanted)
  going (inr (inr at), wanted) =
      keeps.tells.ended ∙ has_room (ring_up a.link.door) a.link.ways.up
      (subst (λ (n : ℕ). 0 < n) (ap (λ (s : Stage). wants_by s a.link) at.1) wanted)

  up_going : a.link.stage ≡ live → 0 < up_wants a.link → was ends_up before ≡ false
  up_going is wanted =
      keeps.tells.up_ended ∙ has_room (ring_down a.link.door) a.link.ways.down (subst (λ (n : ℕ). 0 < n)
      (ap (λ (s : Stage). up_wants_by s a.link) is) wanted)

  -- on its stream, or without one
  on_stream : runs.IsOnStream a.link → IsOnStream before
  on_stream on same = on_gate a.link.gate on (sym (ap (λ (s : Stream). s.gate) keeps.tells.stream) ∙ same)

  off_stream : is_raw a.link ≡ true → IsOffStream before
  off_stream raw = ap (λ (s : Stream). s.gate) keeps.tells.stream ∙ off_gate a.link.gate raw

  link_stands : (z : Entry) → MayCome l a.link z → LinkStands l before (course_of start before) z
  link_stands (e.Accepted k d) may = (may.0, course_at unborn may.1)
  link_stands (e.Came k bytes) may = (may.0, goes_on may.1.0, going may.1)
  link_stands (e.Ended k) may = (may.0, goes_on may.1.0, going may.1)
  link_stands (e.Went k bytes) may = (may.0, course_at live may.1.1)
  link_stands (e.Broke k) may = (may.0, goes_on may.1)
  link_stands (e.Shut k) may = (may.0, course_at live may.2)
  link_stands (e.Closed k why) may =
      let raw = subst (λ (s : Stage). IsCalmBy s a.link) may.2 may.1 in
      (may.0, course_at (over why) may.2, keeps.tells.closed ∙ may.3, off_stream raw)
  link_stands (e.Balked (way.Read k)) may = (may.0, goes_on may.1.0, going may.1)
  link_stands (e.Balked (way.Write k)) may = (may.0, course_at live may.1.1)
  link_stands (e.Balked (way.Finish k)) may = absurd may
  link_stands (e.Balked (way.Listen d at listening)) may = absurd may
  link_stands (e.Balked (way.Accept d)) may = absurd may
  link_stands (e.Balked (way.Look k)) may = absurd may
  link_stands (e.Dialled k to why) may = absurd may
  link_stands (e.DialFailed to why) may = absurd may
  link_stands (e.Opened k) may = absurd may
  link_stands e.Tick may = absurd may
  link_stands (e.Wait ready how) may = absurd may

  up_stands : (z : Entry) → UpMayCome l a.link z → UpStands before (course_of start before) z
  up_stands (e.Dialled k to why) may = course_at due may.0.1
  up_stands (e.DialFailed to why) may = course_at due may.1
  up_stands (e.Opened k) may = (course_at opening may.0.1, keeps.tells.up ∙ may.1)
  up_stands (e.Came k bytes) may =
      (course_at live may.0.0.1, keeps.tells.up ∙ may.0.1, up_going may.0.0.1 (omega (arith, may.1.1, may.1.2)))
  up_stands (e.Ended k) may = (course_at live may.0.0.1, keeps.tells.up ∙ may.0.1, up_going may.0.0.1 may.1)
  up_stands (e.Went k bytes) may = (course_at live may.0.0.1, keeps.tells.up ∙ may.0.1)
  up_stands (e.Broke k) (inl may) = (inl (course_at opening may.0.1), keeps.tells.up ∙ may.1)
  up_stands (e.Broke k) (inr may) = (inr (course_at live may.0.1), keeps.tells.up ∙ may.1)
  up_stands (e.Shut k) may = (course_at live may.1, keeps.tells.up ∙ may.2)
  up_stands (e.Closed k why) may = (course_at (over why) may.1, keeps.tells.up ∙ may.2, may.3)
  up_stands (e.Balked (way.Finish k)) may = (course_at opening may.0.1, keeps.tells.up ∙ may.1)
  up_stands (e.Balked (way.Read k)) may = (course_at live may.0.0.1, keeps.tells.up ∙ may.0.1, up_going may.0.0.1 may.1)
  up_stands (e.Balked (way.Write k)) may = (course_at live may.0.0.1, keeps.tells.up ∙ may.0.1)
  up_stands (e.Balked (way.Listen d at listening)) may = absurd may
  up_stands (e.Balked (way.Accept d)) may = absurd may
  up_stands (e.Balked (way.Look k)) may = absurd may
  up_stands (e.Accepted k d) may = absurd may
  up_stands e.Tick may = absurd may
  up_stands (e.Wait ready how) may = absurd may

  front_is : (told : Answer) → a.link.stage ≡ fronting → IsAnswer a.link.front told → IsAnswer (link_came before) told
  front_is told is may = subst (λ (bs : List ℕ). IsAnswer bs told) (sym (knows_at fronting is).front) may

  lacks : (stage : Stage) → a.link.stage ≡ stage → Lacks stage a.link → MayLack (course_of start before) before
  lacks arriving is may = subst (λ (c : Course). MayLack c before) (sym (course_at arriving is)) tt
  lacks fronting is may = subst (λ (c : Course). MayLack c before) (sym (course_at fronting is)) (may.0, front_is (Whole may.0) is may.1)
  lacks unborn is may = absurd may
  lacks due is may = absurd may
  lacks opening is may = absurd may
  lacks accepting is may = absurd may
  lacks live is may = absurd may
  lacks (failed why) is may = absurd may
  lacks (ended why) is may = absurd may
  lacks (over why) is may = absurd may

  through : is_through a.link ≡ true → IsThrough before
  through may =
      let (up_done, down_done) = and_parts (is_done a.link.ways.up) (is_done a.link.ways.down) may in
      record {
        ended = keeps.tells.ended ∙ done_ended a.link.ways.up up_done;
        up_ended = keeps.tells.up_ended ∙ done_ended a.link.ways.down down_done;
        up = ups_whole up_done;
        down = downs_whole down_done;
      }

  -- while a dial or a stream is due, none was asked for
  unasked_at : a.link.stage ≡ due → was is_asked before ≡ false
  unasked_at is = (unasked (said before) (road_of a.link) (λ may. subst MayStream is may) streamed).0

  -- what is put waits, so that the stream wasn't ended
  unshut : (bytes rest : List ℕ) → 0 < length bytes → a.link.ways.up.held ≡ bytes ++ rest → was sides.shuts_up before ≡ false
  unshut bytes rest some first = keeps.tells.up_shut ∙ by a.link.up_shut refl
    where
      by : (b : Bool) → a.link.up_shut ≡ b → a.link.up_shut ≡ false
      by false is = is
      by true is =
          absurd (omega (arith, some, ap length first, ap length (done_empty a.link.ways.up (keeps.shuts is)), length-append bytes rest))

  over_at : (stage : Stage) → a.link.stage ≡ stage → HasEnded stage → (why : Cause) × (course_of start before ≡ sides.over why)
  over_at (failed why) is may = (why, course_at (failed why) is)
  over_at (ended why) is may = (why, course_at (ended why) is)
  over_at (over why) is may = (why, course_at (over why) is)
  over_at unborn is may = absurd may
  over_at arriving is may = absurd may
  over_at fronting is may = absurd may
  over_at due is may = absurd may
  over_at opening is may = absurd may
  over_at accepting is may = absurd may
  over_at live is may = absurd may

  hears_so : (heard : Heard) (stage : Stage) → a.link.stage ≡ stage → runs.MayHear stage heard a.link
      → MayHear before (course_of start before) heard
  hears_so (opens end) opening is may = (course_at opening is, keeps.tells.opened ∙ (knows_at opening is).2)
  hears_so (brings bytes) live is may = (course_at live is, keeps.tells.up_ended ∙ may.0)
  hears_so response.ends live is may = (course_at live is, keeps.tells.up_ended ∙ may)
  hears_so (fails why) stage is may = tt
  hears_so (opens end) unborn is may = absurd may
  hears_so (opens end) arriving is may = absurd may
  hears_so (opens end) fronting is may = absurd may
  hears_so (opens end) due is may = absurd may
  hears_so (opens end) accepting is may = absurd may
  hears_so (opens end) live is may = absurd may
  hears_so (opens end) (failed why) is may = absurd may
  hears_so (opens end) (ended why) is may = absurd may
  hears_so (opens end) (over why) is may = absurd may
  hears_so (brings bytes) unborn is may = absurd may
  hears_so (brings bytes) arriving is may = absurd may
  hears_so (brings bytes) fronting is may = absurd may
  hears_so (brings bytes) due is may = absurd may
  hears_so (brings bytes) opening is may = absurd may
  hears_so (brings bytes) accepting is may = absurd may
  hears_so (brings bytes) (failed why) is may = absurd may
  hears_so (brings bytes) (ended why) is may = absurd may
  hears_so (brings bytes) (over why) is may = absurd may
  hears_so response.ends unborn is may = absurd may
  hears_so response.ends arriving is may = absurd may
  hears_so response.ends fronting is may = absurd may
  hears_so response.ends due is may = absurd may
  hears_so response.ends opening is may = absurd may
  hears_so response.ends accepting is may = absurd may
  hears_so response.ends (failed why) is may = absurd may
  hears_so response.ends (ended why) is may = absurd may
  hears_so response.ends (over why) is may = absurd may

  ends : (p : Part) → MayGo l a p → EndsAt l start before p
  ends (entry z) may = link_stands z may
  ends (up z) may = up_stands z may
  ends welcomed may = course_at arriving may
  ends crowded may = course_at arriving may
  ends lacked may = lacks a.link.stage refl may
  ends (misfronted fault) may = course_at fronting may.0
  ends (fronted seen routing aim) may = course_at fronting may.0.0
  ends (refused seen routing why status made) may = course_at fronting may.0.0
  ends (accepted made) may = course_at accepting may.0
  ends (left made) may = off_stream may.1
  ends (done made) may = (course_at live may.0, through may.2, off_stream may.1)
  ends roomless may = (course_at due may.0, unasked_at may.0)
  ends (asked gate stream) may = (course_at due may.0, unasked_at may.0)
  ends (hears heard begun) may = (on_stream may.0, hears_so heard a.link.stage refl may.1)
  ends (put bytes) may = (on_stream may.0.0, course_at live may.0.1, unshut bytes may.1.1.0 may.1.0 may.1.1.1)
  ends finished may = (on_stream may.0.0, course_at live may.0.1, keeps.tells.up_shut ∙ may.2)
  ends (credited n) may = (on_stream may.0.0, course_at live may.0.1)
  ends (loosed begun) may = (on_stream may.0, over_at a.link.stage refl may.1)
  ends (completed begun made) may = (on_stream may.0.0, course_at live may.0.1, through may.1, keeps.tells.up_shut ∙ may.2)
  ends (applied r) may = tt
  ends (stopped why) may = tt

  -- VERDICTS

  dials : (to : Target) (why : Why) → IsDial l a.link to why → IsDialOf l before to why
  dials to why may = record {
    aim = a.link.aim;
    asked = all_ask l start a before stands may.1;
    there = may.2;
    for_it = may.3 ∙ ap (λ (d : Door). why_for a.link.aim d l) (sym keeps.tells.door);
    undialled = keeps.tells.up ∙ (knows_at due may.1).1;
    unasked = unasked_at may.1;
  }

  -- a way by a gateway
  through_at : a.link.stage ≡ due → IsSome (key_of a.link.aim) → GoesThrough before
  through_at is keyed = record { aim = a.link.aim; told = all_ask l start a before stands is; keyed = keyed }

  up_answers : (z : Entry) → UpMayCome l a.link z → DialsAt l before z
  unfolding dials
  up_answers (e.Dialled k to why) may =
      record { dial = dials to why may.0; straight = may.1; some = may.2; other = may.3 }
  up_answers (e.DialFailed to why) may = dials to why may
  up_answers (e.Opened k) may = tt
  up_answers (e.Came k bytes) may = tt
  up_answers (e.Ended k) may = tt
  up_answers (e.Went k bytes) may = tt
  up_answers (e.Broke k) may = tt
  up_answers (e.Shut k) may = tt
  up_answers (e.Closed k why) may = tt
  up_answers (e.Balked way) may = tt
  up_answers (e.Accepted k d) may = tt
  up_answers e.Tick may = tt
  up_answers (e.Wait ready how) may = tt

  -- a header gets the same by what the run tells
  answer_is : (routing : Routing) (seen : Seen)
      → answer_on (door_of before) (held start before) routing seen ≡ answer_on a.link.door a.held routing seen
  answer_is routing seen =
      ap (λ (d : Door). answer_on d (held start before) routing seen) keeps.tells.door
      ∙ ap (λ (h : Resources). answer_on a.link.door h routing seen) keeps.held

  answers : (p : Part) → MayGo l a p → VerdictAt l start before p
  answers (entry z) may = tt
  answers (up z) may = up_answers z may
  answers welcomed may = tt
  answers crowded may = tt
  answers lacked may = tt
  answers (misfronted fault) may = front_is (Fault fault) may.0 may.1
  answers (fronted seen routing aim) may =
      (front_is (Whole seen) may.0.0 may.0.1, answer_is routing seen ∙ may.1)
  answers (refused seen routing why status made) may = (front_is (Whole seen) may.0.0 may.0.1, answer_is routing seen ∙ may.1)
  answers (accepted made) may = keeps.tells.opened ∙ (knows_at accepting may.0).1
  answers (left made) may = tt
  answers (done made) may = tt
  answers roomless may = through_at may.0 may.1
  answers (asked gate stream) may = through_at may.0 may.1
  answers (hears heard begun) may = tt
  answers (put bytes) may = tt
  answers finished may = tt
  answers (credited n) may = tt
  answers (loosed begun) may = tt
  answers (completed begun made) may = tt
  answers (applied r) may = tt
  answers (stopped why) may = tt

  -- NOTES

  verdict_noted : (status : ℕ) (made : Note) → noting_of before ≡ answer
      → Told (header_of before) (link_came before) a.link.peer a.link.target
      → made ≡ verdict_note l status (named a.link) a.link.target → IsVerdictNote l before status made
  verdict_noted status made owed told is = record {
    seen = told.seen;
    told = told.told;
    due = owed;
    is = is ∙ ap (λ p. verdict_note l status p a.link.target) peer_is
        ∙ ap (λ t. verdict_note l status (peer_noted (door_of before) told.seen) t) told.target;
  }
    where
      identity_is : a.link.identity ≡ identity_noted (door_of before) told.seen.identity
      identity_is =
          subst (λ (t : Option Seen). Names answer t (door_of before) a.link.identity) told.told
          (subst (λ (n : Noting). Names n (header_of before) (door_of before) a.link.identity) owed (all_name l start a before stands))

      peer_is : named a.link ≡ peer_noted (door_of before) told.seen
      peer_is =
          ap (λ (p : Peer). record p { identity = a.link.identity }) told.peer
          ∙ ap (λ (who : Option Identity). record (peer_in told.seen) { identity = who }) identity_is

  -- a link without a stream counted what went up
  gone_so : (r : Road) → r.gate ≡ 0 → Streamed (said before) r → gone_up (begun_of before) before ≡ r.went_up
  gone_so r raw (never told none gate went) = ap (λ n. gone_up n before) none ∙ sym went
  gone_so r raw (has told none on no_up may) = absurd (on raw)
  gone_so r raw (was_left told begun gate over_so) = ap (λ n. gone_up n before) begun

  end_noted : (why : Cause) (made : Note) → noting_of before ≡ end_of_it → is_raw a.link ≡ true
      → made ≡ end_note l why a.link.went_up a.link.went_down → IsEndNote l before why made
  end_noted why made owed raw is = record {
    due = owed;
    is = is ∙ ap (λ n. end_note l why n a.link.went_down) (sym (gone_so (road_of a.link) (off_gate a.link.gate raw) streamed))
        ∙ ap (λ n. end_note l why (gone_up (begun_of before) before) n) (sym keeps.tells.went_down);
  }

  fails_with : (status : Option ℕ) (made : Option Note) → noting_of before ≡ answer
      → Told (header_of before) (link_came before) a.link.peer a.link.target
      → made ≡ note_of l a.link status → FailsWith l before status made
  fails_with None None owed told is = owed
  fails_with None (Some made) owed told is = absurd (cc)
  fails_with (Some status) None owed told is = absurd (cc)
  fails_with (Some status) (Some made) owed told is =
      verdict_noted status made owed told (let same : Some made ≡ Some (verdict_note l status (named a.link) a.link.target) = is in cc)

  ends_noted : (why : Cause) (made : Option Note) → noting_of before ≡ end_of_it → is_raw a.link ≡ true
      → made ≡ Some (end_note l why a.link.went_up a.link.went_down) → Leaves l before why end_of_it made
  ends_noted why None owed raw is = absurd (cc)
  ends_noted why (Some made) owed raw is =
      end_noted why made owed raw (let same : Some made ≡ Some (end_note l why a.link.went_up a.link.went_down) = is in cc)

  leaves : (made : Option Note) (stage : Stage) → a.link.stage ≡ stage → left_note l a.link stage made → is_raw a.link ≡ true
      → IsLeft start l before made
  leaves made (failed why) is may raw = record {
    why = why;
    ended = course_at (failed why) is;
    leaves = subst (λ (n : Noting). Leaves l before why n made) (sym (noting_at (failed why) is))
        (fails_with (failure_status why) made (noting_at (failed why) is) (knows_at (failed why) is) may);
  }
  leaves made (ended why) is may raw = record {
    why = why;
    ended = course_at (ended why) is;
    leaves = subst (λ (n : Noting). Leaves l before why n made) (sym (noting_at (ended why) is))
        (ends_noted why made (noting_at (ended why) is) raw may);
  }
  leaves made unborn is may raw = absurd may
  leaves made arriving is may raw = absurd may
  leaves made fronting is may raw = absurd may
  leaves made due is may raw = absurd may
  leaves made opening is may raw = absurd may
  leaves made accepting is may raw = absurd may
  leaves made live is may raw = absurd may
  leaves made (over why) is may raw = absurd may

  notes : (p : Part) → MayGo l a p → NotesAt start l before p
  notes (refused seen routing why status made) may = (
    noting_at fronting may.0.0,
    may.2
        ∙ ap (λ (d : Door). verdict_note l status (peer_noted d seen) seen.destination) (sym keeps.tells.door),
  )
  notes (accepted made) may = verdict_noted 200 made (noting_at accepting may.0) (knows_at accepting may.0).0.0 may.1
  notes (left made) may = leaves made a.link.stage refl may.0 may.1
  notes (done made) may = end_noted cause.Done made (noting_at live may.0) may.1 may.3
  notes (entry z) may = tt
  notes (up z) may = tt
  notes welcomed may = tt
  notes crowded may = tt
  notes lacked may = tt
  notes (misfronted fault) may = tt
  notes (fronted seen routing aim) may = tt
  notes roomless may = tt
  notes (asked gate stream) may = tt
  notes (hears heard begun) may = tt
  notes (put bytes) may = tt
  notes finished may = tt
  notes (credited n) may = tt
  notes (loosed begun) may = tt
  notes (completed begun made) may = (noting_at live may.0.1, may.3 ∙ ap (λ n. end_note l cause.Done begun n) (sym keeps.tells.went_down))
  notes (applied r) may = tt
  notes (stopped why) may = tt

  -- NOTHING IS PUT OFF

  settled_as : (stage : Stage) → a.link.stage ≡ stage → SettledBy (course_in stage) before → SettledBy (course_of start before) before
  settled_as stage is so = subst (λ (c : Course). SettledBy c before) (sym (course_at stage is)) so

  settled_fronting : IsAt fronting a.link → SettledBy (course_of start before) before
  settled_fronting at =
      settled_as fronting at.1 (front_is More at.1 (subst (λ (s : Stage). IsCalmBy s a.link) at.1 at.0.0))

  settled_opening : IsAt opening a.link → SettledBy (course_of start before) before
  settled_opening at =
      let is = knows_at opening at.1 in
      settled_as opening at.1 (record { unopened = keeps.tells.opened ∙ is.2; some = waits_for is.1 })
    where
      waits_for : (a.link.up ≢ 0) ⊎ (a.link.gate ≢ 0) → (up_of before ≢ 0) ⊎ ((stream_of before).gate ≢ 0)
      waits_for (inl dialled) = inl (λ none. dialled (sym keeps.tells.up ∙ none))
      waits_for (inr asked_so) = inr (λ none. asked_so (sym (ap (λ (s : Stream). s.gate) keeps.tells.stream) ∙ none))

  settled_live : IsAt live a.link → SettledBy (course_of start before) before
  settled_live at =
      let calm : (is_raw a.link && is_through a.link) ≡ false = subst (λ (s : Stage). IsCalmBy s a.link) at.1 at.0.0 in
      let idle : (may_shut_up a.link ≡ false) × (may_shut a.link ≡ false) = subst (λ (s : Stage). IsIdleBy s a.link) at.1 at.0.1 in
      let x = a.link in
      let up_so : was_on_link is_end before ≡ true → up_went before ≡ raw_came before → is_done x.ways.up ≡ true =
      (λ hung whole. is_done_so x.ways.up (sym keeps.tells.ended ∙ hung)
      (none_waits (raw_came before) (up_went before) x.ways.up.held keeps.ups whole)) in
      let down_so : was ends_up before ≡ true → link_went before ≡ up_came before → is_done x.ways.down ≡ true =
      (λ hung whole. is_done_so x.ways.down (sym keeps.tells.up_ended ∙ hung)
      (none_waits (up_came before) (link_went before) x.ways.down.held keeps.downs whole)) in
      let raw_so : (stream_of before).gate ≡ 0 → is_raw x ≡ true =
      (λ none. ap (λ (n : ℕ). n == 0) (sym (ap (λ (s : Stream). s.gate) keeps.tells.stream) ∙ none)) in
      settled_as live at.1 (
        (λ hung whole. keeps.tells.shut ∙ held_back (is_done x.ways.down) x.shut (down_so hung whole) idle.1),
        (λ none. (
          (λ hung whole. keeps.tells.up_shut
              ∙ held_back (is_raw x && is_done x.ways.up) x.up_shut (ap (λ (b : Bool). b && is_done x.ways.up) (raw_so none)
              ∙ up_so hung whole) idle.0),
          (λ all. false≢true (sym calm ∙ ap (λ (b : Bool). b && is_through x) (raw_so none)
              ∙ ap (λ (b : Bool). b && is_done x.ways.down) (up_so all.ended all.up) ∙ down_so all.up_ended all.down)),
        )),
      )

  settled_tried : IsTried a.link → SettledBy (course_of start before) before
  settled_tried (inl at) = settled_fronting at
  settled_tried (inr (inl at)) = settled_opening at
  settled_tried (inr (inr at)) = settled_live at

  link_settles : (z : Entry) → MayCome l a.link z → SettledWhere start before z
  link_settles (e.Accepted k d) may = settled_as unborn may.1 tt
  link_settles (e.Came k bytes) may = settled_tried may.1.0
  link_settles (e.Ended k) may = settled_tried may.1.0
  link_settles (e.Went k bytes) may = settled_live may.1
  link_settles (e.Broke k) may = settled_tried may.1
  link_settles (e.Shut k) may = tt
  link_settles (e.Closed k why) may = noting_at (over why) may.2
  link_settles (e.Balked (way.Read k)) may = settled_tried may.1.0
  link_settles (e.Balked (way.Write k)) may = settled_live may.1
  link_settles (e.Balked (way.Finish k)) may = absurd may
  link_settles (e.Balked (way.Listen d at listening)) may = absurd may
  link_settles (e.Balked (way.Accept d)) may = absurd may
  link_settles (e.Balked (way.Look k)) may = absurd may
  link_settles (e.Dialled k to why) may = tt
  link_settles (e.DialFailed to why) may = tt
  link_settles (e.Opened k) may = absurd may
  link_settles e.Tick may = absurd may
  link_settles (e.Wait ready how) may = absurd may

  up_settles : (z : Entry) → UpMayCome l a.link z → SettledWhere start before z
  up_settles (e.Dialled k to why) may = tt
  up_settles (e.DialFailed to why) may = tt
  up_settles (e.Opened k) may = settled_opening may.0
  up_settles (e.Came k bytes) may = settled_live may.0.0
  up_settles (e.Ended k) may = settled_live may.0.0
  up_settles (e.Went k bytes) may = settled_live may.0.0
  up_settles (e.Broke k) (inl may) = settled_opening may.0
  up_settles (e.Broke k) (inr may) = settled_live may.0
  up_settles (e.Shut k) may = tt
  up_settles (e.Closed k why) may = noting_at (over why) may.1
  up_settles (e.Balked (way.Finish k)) may = settled_opening may.0
  up_settles (e.Balked (way.Read k)) may = settled_live may.0.0
  up_settles (e.Balked (way.Write k)) may = settled_live may.0.0
  up_settles (e.Balked (way.Listen d at listening)) may = absurd may
  up_settles (e.Balked (way.Accept d)) may = absurd may
  up_settles (e.Balked (way.Look k)) may = absurd may
  up_settles (e.Accepted k d) may = absurd may
  up_settles e.Tick may = absurd may
  up_settles (e.Wait ready how) may = absurd may

  settles : (p : Part) → MayGo l a p → SettledAt start before p
  settles (entry z) may = link_settles z may
  settles (up z) may = up_settles z may
  settles welcomed may = tt
  settles crowded may = tt
  settles lacked may = tt
  settles (misfronted fault) may = tt
  settles (fronted seen routing aim) may = tt
  settles (refused seen routing why status made) may = tt
  settles (accepted made) may = tt
  settles (left made) may = tt
  settles (done made) may = tt
  settles roomless may = tt
  settles (asked gate stream) may = tt
  settles (hears heard begun) may = tt
  settles (put bytes) may = tt
  settles finished may = tt
  settles (credited n) may = tt
  settles (loosed begun) may = tt
  settles (completed begun made) may = tt
  settles (applied r) may = tt
  settles (stopped why) may = tt

  link_admits : (z : Entry) → MayCome l a.link z → GoesAdmitted start before z
  link_admits (e.Went k bytes) may = admitted may.1.1
  link_admits (e.Accepted k d) may = tt
  link_admits (e.Came k bytes) may = tt
  link_admits (e.Ended k) may = tt
  link_admits (e.Broke k) may = tt
  link_admits (e.Closed k why) may = tt
  link_admits (e.Balked way) may = tt
  link_admits (e.Shut k) may = tt
  link_admits (e.Dialled k to why) may = tt
  link_admits (e.DialFailed to why) may = tt
  link_admits (e.Opened k) may = tt
  link_admits e.Tick may = tt
  link_admits (e.Wait ready how) may = tt

  up_admits : (z : Entry) → UpMayCome l a.link z → GoesAdmitted start before z
  up_admits (e.Went k bytes) may = admitted may.0.0.1
  up_admits (e.Accepted k d) may = tt
  up_admits (e.Came k bytes) may = tt
  up_admits (e.Ended k) may = tt
  up_admits (e.Broke k) may = tt
  up_admits (e.Closed k why) may = tt
  up_admits (e.Balked way) may = tt
  up_admits (e.Shut k) may = tt
  up_admits (e.Dialled k to why) may = tt
  up_admits (e.DialFailed to why) may = tt
  up_admits (e.Opened k) may = tt
  up_admits e.Tick may = tt
  up_admits (e.Wait ready how) may = tt

  admits : (p : Part) → MayGo l a p → AccessAt start before p
  admits (entry z) may = link_admits z may
  admits (up z) may = up_admits z may
  admits welcomed may = tt
  admits crowded may = tt
  admits lacked may = tt
  admits (misfronted fault) may = tt
  admits (fronted seen routing aim) may = tt
  admits (refused seen routing why status made) may = tt
  admits (accepted made) may = tt
  admits (left made) may = tt
  admits (done made) may = tt
  admits roomless may = tt
  admits (asked gate stream) may = tt
  admits (hears heard begun) may = tt
  admits (put bytes) may = admitted may.0.1
  admits finished may = tt
  admits (credited n) may = tt
  admits (loosed begun) may = tt
  admits (completed begun made) may = tt
  admits (applied r) may = tt
  admits (stopped why) may = tt

pub relay : RunsRelay
relay l start a parts stands = record {
  ups = record { rest = a.link.ways.up.held; front = (all_keep l start a parts stands).ups };
  downs = record { rest = a.link.ways.down.held; front = (all_keep l start a parts stands).downs };
  places = at_parts l start (RelaysAt start) (λ b before p so may. relays l start b before so p may) a parts stands;
}

pub admit : RunsAdmit
admit l start a parts stands =
    at_parts l start (AccessAt start) (λ b before p so may. admits l start b before so p may) a parts stands

pub end : RunsEnd
end l start a parts stands = at_parts l start (EndsAt l start) (λ b before p so may. ends l start b before so p may) a parts stands

pub answer_all : RunsAnswer
answer_all l start a parts stands =
    at_parts l start (VerdictAt l start) (λ b before p so may. answers l start b before so p may) a parts stands

pub note_all : RunsNote
note_all l start a parts stands =
    at_parts l start (NotesAt start l) (λ b before p so may. notes l start b before so p may) a parts stands

pub settle : RunsSettle
settle l start a parts stands =
    at_parts l start (SettledAt start) (λ b before p so may. settles l start b before so p may) a parts stands

pub fit_rings : RunsFitRings
fit_rings l start a parts stands = (all_keep l start a parts stands).rings
