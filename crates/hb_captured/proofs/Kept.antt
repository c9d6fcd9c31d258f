-- What every run of a captured link keeps.
use Rattle.std.proofs.Common.{◌≡◌, ◌≢◌, ◌⊎◌, inl, inr, ℕ, ◌≤◌, ◌+◌, ◌-◌, ◌<◌, ◌||◌, ◌&&◌, Bool, true, false, cond, List, [], ◌∷◌, ◌++◌, length, drop, Option, Some, None, refl, ap, sym, ◌∙◌, subst, arith, length-append, length-drop}
use Rattle.std.proofs.lemmas.Bool.{false≢true}
use Rattle.std.proofs.lemmas.List.{append-nil, drop-append-le}
use Rattle.hb_base.specs.declared.cause.Cause.{Cause}
use Rattle.hb_base.specs.declared.cause.Cause.TheVariants as cause
use Rattle.hb_base.specs.declared.door.Door.{Door}
use Rattle.hb_base.specs.declared.door.Door.TheVariants as door
use Rattle.hb_base.specs.declared.note.Note.{Note}
use Rattle.hb_disco.specs.declared.response.Response.{Response}
use Rattle.hb_front.specs.Faults.{number_of}
use Rattle.hb_front.specs.Header.{spelling}
use Rattle.hb_front.specs.Reading.{Seen, IsAnswer, Whole}
use Rattle.hb_gateway.specs.Response as response
use Rattle.hb_gateway.specs.Response.{Heard, opens, brings, fails}
use Rattle.hb_held.specs.Held.{Resources}
use Rattle.hb_held.specs.Outcome.{after_response}
use Rattle.hb_table.specs.Judgement.{judged}
use Rattle.hb_table.specs.declared.judgement.Judged.{Judged}
use Rattle.hb_table.specs.declared.judgement.Judged.TheVariants.{Admitted, Unknown, Denied}
use Rattle.hb_tunnel.specs.Way.{after, pushes, takes, is_done}
use Rattle.hb_tunnel.specs.Way as moves
use Rattle.hb_world.specs.declared.entry.Entry.{Entry}
use Rattle.hb_world.specs.declared.entry.Entry.TheVariants as e
use Rattle.hb_captured.specs.Answer.{Aim, straight_to}
use Rattle.hb_front.specs.Room.{longest_front}
use Rattle.hb_captured.specs.Calm.{room, wants, wants_by, up_wants_by, output_by}
use Rattle.hb_captured.specs.Captured.{Captured, Stage, unborn, arriving, fronting, due, opening, accepting, live, failed, ended, over, at_stage, judges, ring_up, ring_down, is_judged, ends_by, ends_for, fronted_by, no_link, hung_up, came_by, ends_if, peer_in, unnamed, left_by, left_now, judged_by}
use Rattle.hb_captured.specs.Laws.{FitsRings}
use Rattle.hb_captured.specs.Notes.{noting_by, noting_of, no_note}
use Rattle.hb_captured.specs.Part.{Part, entry, up, welcomed, crowded, lacked, misfronted, fronted, refused, accepted, roomless, asked, hears, put, finished, credited, loosed, completed, left, done, applied, stopped}
use Rattle.hb_captured.specs.Runs.{Local, MayCome, UpMayCome, MayGo, MayHear, IsTried, left_note, next, StandsFor, begins, goes_on}
use Rattle.hb_captured.specs.Sides as sides
use Rattle.hb_captured.specs.Sides.{Course, lives, ends_at, ends_judged, hangs_up, judged_in, course_by, course_of, door_by, door_of, held, held_by, header_of, header_by, behind, raw_came, link_came, link_went, up_came, up_went, came_in, went_in, up_came_in, up_went_in, is_end, is_shut, is_close, on_link, opens_up, ends_up, shuts_up, was, was_on_link, up_of, up_in, stream_of, stream_by, no_stream}
use Rattle.hb_captured.proofs.Answer.{admits}
use Rattle.hb_captured.proofs.Grown.{one_more, fold_one}
use Rattle.hb_captured.proofs.Stages.{course_in, noting_in, Told, Knows, KnowsBy, facts_of, ends_course, ends_noting, ends_knows, left_knows, course_one, Marks, marks_in, marks_by, marks_next, held_next, adds_all}
use Rattle.hb_captured.proofs.Ways.{done_ended, done_again, done_taken, done_full, fits_more, fits_less, comes_behind, goes_first, none_of, front_fits, ends_held, shuts_up_so}

-- the door, the flags and the numbers of a link are those that its run tells
pub record Tells (parts : List Part) (m : Marks) : Type 0 where
  pub door : door_of parts ≡ m.door
  pub ended : was_on_link is_end parts ≡ m.ended
  pub up_ended : was ends_up parts ≡ m.up_ended
  pub opened : was opens_up parts ≡ m.opened
  pub up_shut : was shuts_up parts ≡ m.up_shut
  pub shut : was_on_link is_shut parts ≡ m.shut
  pub closed : was_on_link is_close parts ≡ m.closed
  pub up : up_of parts ≡ m.up
  pub stream : stream_of parts ≡ m.stream
  pub went_down : length (link_went parts) ≡ m.went_down

tells_one : (parts : List Part) (m : Marks) (p : Part) → Tells parts m → Tells (parts ++ p ∷ []) (marks_by m p)
tells_one parts m p is = record {
  door = fold_one door_by door.Plain parts p ∙ ap (λ d. door_by d p) is.door;
  ended = fold_one (λ was q. on_link is_end q || was) false parts p ∙ ap (λ b. on_link is_end p || b) is.ended;
  up_ended = fold_one (λ was q. ends_up q || was) false parts p ∙ ap (λ b. ends_up p || b) is.up_ended;
  opened = fold_one (λ was q. opens_up q || was) false parts p ∙ ap (λ b. opens_up p || b) is.opened;
  up_shut = fold_one (λ was q. shuts_up q || was) false parts p ∙ ap (λ b. shuts_up p || b) is.up_shut;
  shut = fold_one (λ was q. on_link is_shut q || was) false parts p ∙ ap (λ b. on_link is_shut p || b) is.shut;
  closed = fold_one (λ was q. on_link is_close q || was) false parts p ∙ ap (λ b. on_link is_close p || b) is.closed;
  up = fold_one up_in 0 parts p ∙ ap (λ u. up_in u p) is.up;
  stream = fold_one stream_by no_stream parts p ∙ ap (λ s. stream_by s p) is.stream;
  went_down = ap length (one_more went_in parts p) ∙ length-append (link_went parts) (went_in p)
      ∙ ap (λ n. n + length (went_in p)) is.went_down ∙ sym (adds_all m.went_down (went_in p));
}

pub record Keeps (start : Resources) (a : Local) (parts : List Part) : Type 0 where
  pub held : held start parts ≡ a.held
  pub tells : Tells parts (marks_in a.link)
  pub course : course_of start parts ≡ course_in a.link.stage
  pub noting : noting_of parts ≡ noting_in a.link.stage
  pub knows : KnowsBy a.link.stage (header_of parts) (link_came parts) a.held a.link
  pub ups : raw_came parts ≡ up_went parts ++ a.link.ways.up.held
  pub downs : up_came parts ≡ link_went parts ++ a.link.ways.down.held
  pub rings : FitsRings a.link
  pub shuts : a.link.up_shut ≡ true → is_done a.link.ways.up ≡ true

-- the bytes that a part carries, and what it makes of the header that was told
record Carried : Type 0 where
  pub came : List ℕ
  pub went : List ℕ
  pub up_came : List ℕ
  pub up_went : List ℕ
  pub header : Option Seen → Option Seen

abbrev carried : Part → Carried
carried p = record {
  came = came_in p;
  went = went_in p;
  up_came = up_came_in p;
  up_went = up_went_in p;
  header = λ told. header_by told p;
}

abbrev nothing : Carried
nothing = record { came = []; went = []; up_came = []; up_went = []; header = λ told. told }

-- what a part that carries this makes of a link and of what is held
record Moves (parts : List Part) (c : Carried) (y : Captured) (h : Resources) : Type 0 where
  pub knows : KnowsBy y.stage (c.header (header_of parts)) (link_came parts ++ c.came) h y
  pub ups : behind (c.header (header_of parts)) (link_came parts ++ c.came) ≡ (up_went parts ++ c.up_went) ++ y.ways.up.held
  pub downs : up_came parts ++ c.up_came ≡ (link_went parts ++ c.went) ++ y.ways.down.held
  pub rings : FitsRings y
  pub shuts : y.up_shut ≡ true → is_done y.ways.up ≡ true

hangs_course : (stage : Stage) → hangs_up (course_in stage) ≡ course_in (hung_up stage)
hangs_course unborn = refl
hangs_course arriving = refl
hangs_course fronting = refl
hangs_course due = refl
hangs_course opening = refl
hangs_course accepting = refl
hangs_course live = refl
hangs_course (failed cause) = refl
hangs_course (ended cause) = refl
hangs_course (over cause) = refl

hangs_noting : (stage : Stage) → noting_in stage ≡ noting_in (hung_up stage)
hangs_noting unborn = refl
hangs_noting arriving = refl
hangs_noting fronting = refl
hangs_noting due = refl
hangs_noting opening = refl
hangs_noting accepting = refl
hangs_noting live = refl
hangs_noting (failed cause) = refl
hangs_noting (ended cause) = refl
hangs_noting (over cause) = refl

module _ (l : ℕ) (start : Resources) (a : Local) (parts : List Part) (keeps : Keeps start a parts) where
  moves_keep : (p : Part)
      → course_by a.link.door (next a p).held (header_of parts) (course_in a.link.stage) p ≡ course_in (next a p).link.stage
      → noting_by (noting_in a.link.stage) p ≡ noting_in (next a p).link.stage
      → Moves parts (carried p) (next a p).link (next a p).held → Keeps start (next a p) (parts ++ p ∷ [])
  moves_keep p course noting is =
      let y = (next a p).link in
      let header : header_of (parts ++ p ∷ []) ≡ header_by (header_of parts) p = fold_one header_by None parts p in
      let comes : link_came (parts ++ p ∷ []) ≡ link_came parts ++ came_in p = one_more came_in parts p in
      record {
        held = fold_one held_by start parts p ∙ ap (λ (h : Resources). held_by h p) keeps.held ∙ sym (held_next a p);
        tells = subst (Tells (parts ++ p ∷ [])) (sym (marks_next a p)) (tells_one parts (marks_in a.link) p keeps.tells);
        course = course_one start parts p
            ∙ ap (λ (c : Course). course_by (door_of parts) (held_by (held start parts) p) (header_of parts) c p) keeps.course
            ∙ ap (λ (d : Door). course_by d (held_by (held start parts) p) (header_of parts) (course_in a.link.stage) p) keeps.tells.door
            ∙ ap (λ (h : Resources). course_by a.link.door h (header_of parts) (course_in a.link.stage) p)
            (ap (λ (h : Resources). held_by h p) keeps.held ∙ sym (held_next a p))
            ∙ course;
        noting = fold_one noting_by no_note parts p ∙ ap (λ n. noting_by n p) keeps.noting ∙ noting;
        knows = subst (λ (t : Option Seen). KnowsBy y.stage t (link_came (parts ++ p ∷ [])) (next a p).held y) (sym header)
            (subst (λ (bs : List ℕ). KnowsBy y.stage (header_by (header_of parts) p) bs (next a p).held y) (sym comes) is.knows);
        ups = ap (λ (t : Option Seen). behind t (link_came (parts ++ p ∷ []))) header
            ∙ ap (λ (bs : List ℕ). behind (header_by (header_of parts) p) bs) comes ∙ is.ups
            ∙ ap (λ (bs : List ℕ). bs ++ y.ways.up.held) (sym (one_more up_went_in parts p));
        downs = one_more up_came_in parts p ∙ is.downs
            ∙ ap (λ (bs : List ℕ). bs ++ y.ways.down.held) (sym (one_more went_in parts p));
        rings = is.rings;
        shuts = is.shuts;
      }

  -- a way on which nothing happens stays
  ups_stay : behind (header_of parts) (link_came parts ++ []) ≡ (up_went parts ++ []) ++ a.link.ways.up.held
  ups_stay =
      ap (λ (bs : List ℕ). behind (header_of parts) bs) (append-nil (link_came parts)) ∙ keeps.ups
      ∙ ap (λ (bs : List ℕ). bs ++ a.link.ways.up.held) (sym (append-nil (up_went parts)))

  downs_stay : up_came parts ++ [] ≡ (link_went parts ++ []) ++ a.link.ways.down.held
  downs_stay =
      append-nil (up_came parts) ∙ keeps.downs ∙ ap (λ (bs : List ℕ). bs ++ a.link.ways.down.held) (sym (append-nil (link_went parts)))

  knows_at : (stage : Stage) → a.link.stage ≡ stage → KnowsBy stage (header_of parts) (link_came parts) a.held a.link
  knows_at stage is = subst (λ (s : Stage). KnowsBy s (header_of parts) (link_came parts) a.held a.link) is keeps.knows

  -- one that carries nothing
  plain_moves : (y : Captured) (h : Resources) → KnowsBy y.stage (header_of parts) (link_came parts) h y → y.door ≡ a.link.door
      → y.ways.up.held ≡ a.link.ways.up.held → y.ways.down.held ≡ a.link.ways.down.held
      → (y.up_shut ≡ true → is_done y.ways.up ≡ true) → Moves parts nothing y h
  plain_moves y h knows door up_held down_held shuts = record {
    knows = subst (λ (bs : List ℕ). KnowsBy y.stage (header_of parts) bs h y) (sym (append-nil (link_came parts))) knows;
    ups = ups_stay ∙ ap (λ (bs : List ℕ). (up_went parts ++ []) ++ bs) (sym up_held);
    downs = downs_stay ∙ ap (λ (bs : List ℕ). (link_went parts ++ []) ++ bs) (sym down_held);
    rings = record {
      up = subst (λ (bs : List ℕ). length bs ≤ ring_up y.door) (sym up_held)
          (subst (λ (d : Door). length a.link.ways.up.held ≤ ring_up d) (sym door) keeps.rings.up);
      down = subst (λ (bs : List ℕ). length bs ≤ ring_down y.door) (sym down_held)
          (subst (λ (d : Door). length a.link.ways.down.held ≤ ring_down d) (sym door) keeps.rings.down);
    };
    shuts = shuts;
  }

  -- and changes nothing that a stage tells of
  same_moves : (y : Captured) → y.stage ≡ a.link.stage → facts_of y ≡ facts_of a.link
      → (y.up_shut ≡ true → is_done y.ways.up ≡ true) → Moves parts nothing y a.held
  same_moves y stage same shuts =
      plain_moves y a.held
      (subst (λ (s : Stage). KnowsBy s (header_of parts) (link_came parts) a.held y) (sym stage)
      (subst (λ f. Knows a.link.stage (header_of parts) (link_came parts) a.held f) (sym same) keeps.knows))
      (ap (λ f. f.door) same) (ap (λ f. f.ways.up.held) same) (ap (λ f. f.ways.down.held) same) shuts

  -- an end, by which its stream is left or isn't
  leaves_moves : (why : Cause) (gate stream went_up : ℕ)
      → Moves parts nothing (record (ends_for why a.link) { gate = gate; stream = stream; went_up = went_up }) a.held
  leaves_moves why gate stream went_up =
      plain_moves (record (ends_for why a.link) { gate = gate; stream = stream; went_up = went_up }) a.held
      (ends_knows (header_of parts) (link_came parts) a.held why a.link.stage (facts_of a.link) gate keeps.knows) refl refl refl keeps.shuts

  ends_moves : (why : Cause) → Moves parts nothing (ends_for why a.link) a.held
  ends_moves why = leaves_moves why a.link.gate a.link.stream a.link.went_up

  -- what was told is told behind more bytes
  told_more : (bytes : List ℕ) → Told (header_of parts) (link_came parts) a.link.peer a.link.target
      → Told (header_of parts) (link_came parts ++ bytes) a.link.peer a.link.target
  told_more bytes is = record {
    seen = is.seen;
    told = is.told;
    within = omega (arith, is.within, length-append (link_came parts) bytes);
    peer = is.peer;
    target = is.target;
  }

  -- THE LINK

  -- bytes come of its header
  front_came : (bytes : List ℕ) → a.link.stage ≡ fronting → length bytes ≤ wants a.link
      → Moves parts (record nothing { came = bytes }) (record a.link { front = a.link.front ++ bytes }) a.held
  front_came bytes is most =
      let x = a.link in
      let y = record x { front = x.front ++ bytes } in
      let early = knows_at fronting is in
      let room_is : wants x ≡ longest_front - length x.front = ap (λ (s : Stage). wants_by s x) is in
      let knows : KnowsBy fronting (header_of parts) (link_came parts ++ bytes) a.held y = record {
        told = early.told;
        front = ap (λ (bs : List ℕ). bs ++ bytes) early.front;
        short = omega (arith, length-append x.front bytes, most, room_is, early.short);
        none = early.none;
        going = early.going;
        no_up = early.no_up;
        shut = early.shut;
        down_none = early.down_none;
        down_going = early.down_going;
      } in
      record {
        knows = subst (λ (s : Stage). KnowsBy s (header_of parts) (link_came parts ++ bytes) a.held y) (sym is) knows;
        ups = ap (λ (t : Option Seen). behind t (link_came parts ++ bytes)) early.told
            ∙ sym (ap (λ (t : Option Seen). behind t (link_came parts)) early.told)
            ∙ keeps.ups ∙ ap (λ (bs : List ℕ). bs ++ x.ways.up.held) (sym (append-nil (up_went parts)));
        downs = downs_stay;
        rings = record { up = keeps.rings.up; down = keeps.rings.down };
        shuts = keeps.shuts;
      }

  -- bytes come that go up
  ring_came : (bytes : List ℕ) → 0 < length bytes → Told (header_of parts) (link_came parts) a.link.peer a.link.target
      → length bytes ≤ room (ring_up a.link.door) a.link.ways.up
      → KnowsBy a.link.stage (header_of parts) (link_came parts ++ bytes) a.held (came_by live bytes a.link)
      → Moves parts (record nothing { came = bytes }) (came_by live bytes a.link) a.held
  ring_came bytes some told most knows =
      let x = a.link in
      let old : raw_came parts ≡ drop told.seen.length (link_came parts) =
      ap (λ (t : Option Seen). behind t (link_came parts)) told.told in
      record {
        knows = knows;
        ups = ap (λ (t : Option Seen). behind t (link_came parts ++ bytes)) told.told
            ∙ drop-append-le told.seen.length (link_came parts) bytes told.within
            ∙ ap (λ (bs : List ℕ). bs ++ bytes) (sym old)
            ∙ comes_behind (raw_came parts) (up_went parts) x.ways.up.held bytes keeps.ups;
        downs = downs_stay;
        rings = record {
          up = fits_more (ring_up x.door) x.ways.up bytes most keeps.rings.up;
          down = keeps.rings.down;
        };
        shuts = λ shut. absurd (done_full (ring_up x.door) x.ways.up bytes (keeps.shuts shut) some most);
      }

  -- at the stages at which it does
  behind_came : (stage : Stage) (bytes : List ℕ) → came_by stage bytes a.link ≡ came_by live bytes a.link
      → wants_by stage a.link ≡ room (ring_up a.link.door) a.link.ways.up → a.link.stage ≡ stage → 0 < length bytes
      → length bytes ≤ wants a.link → Told (header_of parts) (link_came parts) a.link.peer a.link.target
      → KnowsBy stage (header_of parts) (link_came parts ++ bytes) a.held (came_by live bytes a.link)
      → Moves parts (record nothing { came = bytes }) (came_by a.link.stage bytes a.link) a.held
  behind_came stage bytes goes_up wanted is some most told knows =
      let small = subst (λ (n : ℕ). length bytes ≤ n) (ap (λ (s : Stage). wants_by s a.link) is ∙ wanted) most in
      subst (λ (x : Captured). Moves parts (record nothing { came = bytes }) x a.held)
      (sym (ap (λ (s : Stage). came_by s bytes a.link) is ∙ goes_up))
      (ring_came bytes some told small
      (subst (λ (s : Stage). KnowsBy s (header_of parts) (link_came parts ++ bytes) a.held (came_by live bytes a.link)) (sym is) knows))

  came_moves : (bytes : List ℕ) → IsTried a.link → 0 < length bytes → length bytes ≤ wants a.link
      → Moves parts (record nothing { came = bytes }) (came_by a.link.stage bytes a.link) a.held
  came_moves bytes (inl at) some most =
      subst (λ (s : Stage). Moves parts (record nothing { came = bytes }) (came_by s bytes a.link) a.held) (sym at.1)
      (front_came bytes at.1 most)
  came_moves bytes (inr (inl at)) some most =
      let is = knows_at opening at.1 in
      behind_came opening bytes refl refl at.1 some most is.0.0 ((told_more bytes is.0.0, is.0.1), is.1, is.2, is.3)
  came_moves bytes (inr (inr at)) some most =
      let is = knows_at live at.1 in
      behind_came live bytes refl refl at.1 some most is.0.0 ((told_more bytes is.0.0, is.0.1), is.1)

  came_stage : (bytes : List ℕ) → IsTried a.link → (came_by a.link.stage bytes a.link).stage ≡ a.link.stage
  came_stage bytes (inl at) = ap (λ (s : Stage). (came_by s bytes a.link).stage) at.1
  came_stage bytes (inr (inl at)) = ap (λ (s : Stage). (came_by s bytes a.link).stage) at.1
  came_stage bytes (inr (inr at)) = ap (λ (s : Stage). (came_by s bytes a.link).stage) at.1

  -- what is known of one that lives, behind what carries no bytes of it
  still_live : a.link.stage ≡ live → KnowsBy live (header_of parts) (link_came parts ++ []) a.held a.link
  still_live is = let at = knows_at live is in ((told_more [] at.0.0, at.0.1), at.1)

  -- bytes go to it
  went_moves : (bytes rest : List ℕ) (owed : ℕ) → a.link.stage ≡ live → a.link.ways.down.held ≡ bytes ++ rest
      → Moves parts (record nothing { went = bytes }) (record a.link {
        ways = record a.link.ways { down = after a.link.ways.down (takes (length bytes)) };
        owed = owed;
        went_down = a.link.went_down + length bytes;
      }) a.held
  went_moves bytes rest owed is first =
      let x = a.link in
      let y = record x {
        ways = record x.ways { down = after x.ways.down (takes (length bytes)) };
        owed = owed;
        went_down = x.went_down + length bytes;
      } in
      record {
        knows = subst (λ (s : Stage). KnowsBy s (header_of parts) (link_came parts ++ []) a.held y) (sym is) (still_live is);
        ups = ups_stay;
        downs = append-nil (up_came parts)
            ∙ goes_first (up_came parts) (link_went parts) x.ways.down.held bytes rest keeps.downs first;
        rings = record { up = keeps.rings.up; down = fits_less (ring_down x.door) x.ways.down.held bytes keeps.rings.down };
        shuts = keeps.shuts;
      }

  -- it sends no more
  abbrev hung : Captured
  hung = record a.link { ways = record a.link.ways { up = after a.link.ways.up moves.ends } }

  hangs_knows : IsTried a.link → KnowsBy (hung_up a.link.stage) (header_of parts) (link_came parts) a.held hung
  hangs_knows (inl at) = subst (λ (s : Stage). KnowsBy (hung_up s) (header_of parts) (link_came parts) a.held hung) (sym at.1) tt
  hangs_knows (inr (inl at)) =
      subst (λ (s : Stage). KnowsBy (hung_up s) (header_of parts) (link_came parts) a.held hung) (sym at.1) (knows_at opening at.1)
  hangs_knows (inr (inr at)) =
      subst (λ (s : Stage). KnowsBy (hung_up s) (header_of parts) (link_came parts) a.held hung) (sym at.1) (knows_at live at.1)

  -- it is accepted at a door: nothing waits yet
  accepted_moves : (d : Door) → a.link.stage ≡ unborn → Moves parts nothing (record a.link { door = d; stage = arriving }) a.held
  accepted_moves d is =
      let early = knows_at unborn is in
      record {
        knows = subst (λ (bs : List ℕ). KnowsBy arriving (header_of parts) bs a.held (record a.link { door = d; stage = arriving }))
            (sym (append-nil (link_came parts))) early;
        ups = ups_stay;
        downs = downs_stay;
        rings = record {
          up = subst (λ (bs : List ℕ). length bs ≤ ring_up d) (sym early.none) (omega arith);
          down = subst (λ (bs : List ℕ). length bs ≤ ring_down d) (sym early.down_none) (omega arith);
        };
        shuts = keeps.shuts;
      }

  entry_keeps : (z : Entry) → MayCome l a.link z → Keeps start (next a (entry z)) (parts ++ entry z ∷ [])
  entry_keeps (e.Accepted k d) (is, new, door) =
      moves_keep (entry (e.Accepted k d)) refl (ap noting_in new) (accepted_moves d new)
  entry_keeps (e.Came k bytes) (is, (tried, wanted), (octets, some, most)) =
      moves_keep (entry (e.Came k bytes)) (ap course_in (sym (came_stage bytes tried))) (ap noting_in (sym (came_stage bytes tried)))
      (came_moves bytes tried some most)
  entry_keeps (e.Ended k) (is, (tried, wanted)) =
      moves_keep (entry (e.Ended k)) (hangs_course a.link.stage) (hangs_noting a.link.stage)
      (plain_moves (next a (entry (e.Ended k))).link a.held (hangs_knows tried) refl refl refl
      (λ shut. done_again a.link.ways.up (keeps.shuts shut)))
  entry_keeps (e.Went k bytes) (is, at, (some, (rest, first))) =
      moves_keep (entry (e.Went k bytes)) refl refl
      (went_moves bytes rest (next a (entry (e.Went k bytes))).link.owed at.1
      (sym (ap (λ (s : Stage). output_by s a.link.ways.down.held) at.1) ∙ first))
  entry_keeps (e.Broke k) may =
      moves_keep (entry (e.Broke k)) (ends_course cause.PeerGone a.link.stage) (ends_noting cause.PeerGone a.link.stage)
      (ends_moves cause.PeerGone)
  entry_keeps (e.Shut k) may =
      moves_keep (entry (e.Shut k)) refl refl (same_moves (next a (entry (e.Shut k))).link refl refl keeps.shuts)
  entry_keeps (e.Closed k why) may =
      moves_keep (entry (e.Closed k why)) refl refl (same_moves (next a (entry (e.Closed k why))).link refl refl keeps.shuts)
  entry_keeps (e.Balked way) may = moves_keep (entry (e.Balked way)) refl refl (same_moves a.link refl refl keeps.shuts)
  entry_keeps (e.Dialled k to why) may = absurd may
  entry_keeps (e.DialFailed to why) may = absurd may
  entry_keeps (e.Opened k) may = absurd may
  entry_keeps e.Tick may = absurd may
  entry_keeps (e.Wait ready how) may = absurd may

  -- ITS UPSTREAM, OR ITS STREAM

  -- it is dialled, or asked for
  waits_moves : (u gate stream : ℕ) → a.link.stage ≡ due → (u ≢ 0) ⊎ (gate ≢ 0)
      → Moves parts nothing (record a.link { stage = opening; up = u; gate = gate; stream = stream }) a.held
  waits_moves u gate stream is some =
      let at = knows_at due is in
      plain_moves (record a.link { stage = opening; up = u; gate = gate; stream = stream }) a.held (at.0, some, at.2, at.3)
      refl refl refl keeps.shuts

  -- it is open, and has ended at once or not
  opens_moves : (end : Bool) → a.link.stage ≡ opening → Moves parts nothing (record a.link {
    stage = accepting;
    ways = record a.link.ways { is_open = true; down = ends_if end a.link.ways.down };
  }) a.held
  opens_moves end is =
      plain_moves (record a.link {
        stage = accepting;
        ways = record a.link.ways { is_open = true; down = ends_if end a.link.ways.down };
      }) a.held ((knows_at opening is).0, refl) refl refl (ends_held end a.link.ways.down) keeps.shuts

  -- bytes come of it, behind which it has ended or not; or it has ended
  brings_moves : (bytes : List ℕ) → a.link.stage ≡ live → length bytes ≤ room (ring_down a.link.door) a.link.ways.down
      → Moves parts (record nothing { up_came = bytes }) (record a.link {
        ways = record a.link.ways { down = after a.link.ways.down (pushes bytes) };
      }) a.held
  brings_moves bytes is most =
      let x = a.link in
      let y = record x { ways = record x.ways { down = after x.ways.down (pushes bytes) } } in
      record {
        knows = subst (λ (s : Stage). KnowsBy s (header_of parts) (link_came parts ++ []) a.held y) (sym is) (still_live is);
        ups = ups_stay;
        downs = comes_behind (up_came parts) (link_went parts) x.ways.down.held bytes keeps.downs;
        rings = record {
          up = keeps.rings.up;
          down = fits_more (ring_down x.door) x.ways.down bytes most keeps.rings.down;
        };
        shuts = keeps.shuts;
      }

  ended_moves : a.link.stage ≡ live
      → Moves parts nothing (record a.link { ways = record a.link.ways { down = after a.link.ways.down moves.ends } }) a.held
  ended_moves is =
      let y = record a.link { ways = record a.link.ways { down = after a.link.ways.down moves.ends } } in
      plain_moves y a.held
      (subst (λ (s : Stage). KnowsBy s (header_of parts) (link_came parts) a.held y) (sym is) (knows_at live is)) refl refl refl keeps.shuts

  -- bytes go there
  goes_moves : (bytes rest : List ℕ) (went_up : ℕ) → a.link.stage ≡ live → a.link.ways.up.held ≡ bytes ++ rest
      → Moves parts (record nothing { up_went = bytes }) (record a.link {
        ways = record a.link.ways { up = after a.link.ways.up (takes (length bytes)) };
        went_up = went_up;
      }) a.held
  goes_moves bytes rest went_up is first =
      let x = a.link in
      let y = record x { ways = record x.ways { up = after x.ways.up (takes (length bytes)) }; went_up = went_up } in
      record {
        knows = subst (λ (s : Stage). KnowsBy s (header_of parts) (link_came parts ++ []) a.held y) (sym is) (still_live is);
        ups = ap (λ (bs : List ℕ). behind (header_of parts) bs) (append-nil (link_came parts))
            ∙ goes_first (raw_came parts) (up_went parts) x.ways.up.held bytes rest keeps.ups first;
        downs = downs_stay;
        rings = record { up = fits_less (ring_up x.door) x.ways.up.held bytes keeps.rings.up; down = keeps.rings.down };
        shuts = λ shut. done_taken x.ways.up (length bytes) (keeps.shuts shut);
      }

  up_keeps : (z : Entry) → UpMayCome l a.link z → Keeps start (next a (up z)) (parts ++ up z ∷ [])
  up_keeps (e.Dialled u to why) (dial, straight, some, other) =
      moves_keep (up (e.Dialled u to why)) (ap course_in dial.1) (ap noting_in dial.1)
      (waits_moves u a.link.gate a.link.stream dial.1 (inl (λ none. omega (arith, none, some))))
  up_keeps (e.DialFailed to why) may =
      moves_keep (up (e.DialFailed to why)) (ends_course cause.UpFault a.link.stage) (ends_noting cause.UpFault a.link.stage)
      (ends_moves cause.UpFault)
  up_keeps (e.Opened u) (at, up_is, some) =
      moves_keep (up (e.Opened u)) (ap course_in at.1) (ap noting_in at.1) (opens_moves false at.1)
  up_keeps (e.Came u bytes) (at, (octets, some, most)) =
      moves_keep (up (e.Came u bytes)) refl refl
      (brings_moves bytes at.0.1
      (subst (λ (n : ℕ). length bytes ≤ n) (ap (λ (s : Stage). up_wants_by s a.link) at.0.1) most))
  up_keeps (e.Ended u) (at, wanted) = moves_keep (up (e.Ended u)) refl refl (ended_moves at.0.1)
  up_keeps (e.Went u bytes) (at, (some, (rest, first))) =
      moves_keep (up (e.Went u bytes)) refl refl
      (goes_moves bytes rest (a.link.went_up + length bytes) at.0.1
      (sym (ap (λ (s : Stage). output_by s a.link.ways.up.held) at.0.1) ∙ first))
  up_keeps (e.Broke u) may =
      moves_keep (up (e.Broke u)) (ends_course cause.UpFault a.link.stage) (ends_noting cause.UpFault a.link.stage)
      (ends_moves cause.UpFault)
  up_keeps (e.Shut u) (calm, is, up_is, some, may) =
      moves_keep (up (e.Shut u)) refl refl
      (same_moves (next a (up (e.Shut u))).link refl refl (λ shut. (shuts_up_so a.link may).0))
  up_keeps (e.Closed u why) (calm, is, up_is, some) =
      let y = (next a (up (e.Closed u why))).link in
      moves_keep (up (e.Closed u why)) refl refl
      (plain_moves y a.held (subst (λ (s : Stage). KnowsBy s (header_of parts) (link_came parts) a.held y) (sym is) tt)
      refl refl refl keeps.shuts)
  up_keeps (e.Balked way) may = moves_keep (up (e.Balked way)) refl refl (same_moves a.link refl refl keeps.shuts)
  up_keeps (e.Accepted k d) may = absurd may
  up_keeps e.Tick may = absurd may
  up_keeps (e.Wait ready how) may = absurd may

  -- what is heard on its stream
  heard_keeps : (heard : Heard) (begun : ℕ) (stage : Stage) → a.link.stage ≡ stage → MayHear stage heard a.link
      → Keeps start (next a (hears heard begun)) (parts ++ hears heard begun ∷ [])
  heard_keeps (opens end) begun opening is may =
      moves_keep (hears (opens end) begun) (ap course_in is) (ap noting_in is) (opens_moves end is)
  heard_keeps (brings bytes) begun live is fits =
      moves_keep (hears (brings bytes) begun) refl refl (brings_moves bytes is fits.1)
  heard_keeps response.ends begun live is may = moves_keep (hears response.ends begun) refl refl (ended_moves is)
  heard_keeps (fails why) begun stage is may =
      moves_keep (hears (fails why) begun) (ends_course why a.link.stage) (ends_noting why a.link.stage) (leaves_moves why 0 0 begun)
  heard_keeps (opens end) begun unborn is may = absurd may
  heard_keeps (opens end) begun arriving is may = absurd may
  heard_keeps (opens end) begun fronting is may = absurd may
  heard_keeps (opens end) begun due is may = absurd may
  heard_keeps (opens end) begun accepting is may = absurd may
  heard_keeps (opens end) begun live is may = absurd may
  heard_keeps (opens end) begun (failed why) is may = absurd may
  heard_keeps (opens end) begun (ended why) is may = absurd may
  heard_keeps (opens end) begun (over why) is may = absurd may
  heard_keeps (brings bytes) begun unborn is may = absurd may
  heard_keeps (brings bytes) begun arriving is may = absurd may
  heard_keeps (brings bytes) begun fronting is may = absurd may
  heard_keeps (brings bytes) begun due is may = absurd may
  heard_keeps (brings bytes) begun opening is may = absurd may
  heard_keeps (brings bytes) begun accepting is may = absurd may
  heard_keeps (brings bytes) begun (failed why) is may = absurd may
  heard_keeps (brings bytes) begun (ended why) is may = absurd may
  heard_keeps (brings bytes) begun (over why) is may = absurd may
  heard_keeps response.ends begun unborn is may = absurd may
  heard_keeps response.ends begun arriving is may = absurd may
  heard_keeps response.ends begun fronting is may = absurd may
  heard_keeps response.ends begun due is may = absurd may
  heard_keeps response.ends begun opening is may = absurd may
  heard_keeps response.ends begun accepting is may = absurd may
  heard_keeps response.ends begun (failed why) is may = absurd may
  heard_keeps response.ends begun (ended why) is may = absurd may
  heard_keeps response.ends begun (over why) is may = absurd may

  -- THE FRONT HEADER

  header_moves : (seen : Seen) (aim : Aim) (stage : Stage) → a.link.stage ≡ fronting → IsAnswer a.link.front (Whole seen)
      → (Told (Some seen) (link_came parts) (peer_in seen) seen.destination
      → KnowsBy stage (Some seen) (link_came parts) a.held (fronted_by seen aim stage a.link))
      → Moves parts (record nothing { header = λ told. Some seen }) (fronted_by seen aim stage a.link) a.held
  header_moves seen aim stage is whole knows =
      let x = a.link in
      let y = fronted_by seen aim stage x in
      let early = knows_at fronting is in
      let within : seen.length ≤ length x.front =
      omega (arith, whole.2.size, ap length whole.4, length-append (spelling whole.0) whole.3) in
      let none_went : up_went parts ≡ [] =
      none_of (up_went parts) x.ways.up.held (sym (ap (λ (t : Option Seen). behind t (link_came parts)) early.told) ∙ keeps.ups) in
      let told : Told (Some seen) (link_came parts) (peer_in seen) seen.destination =
      record {
        seen = seen;
        told = refl;
        within = subst (λ (bs : List ℕ). seen.length ≤ length bs) (sym early.front) within;
        peer = refl;
        target = refl;
      } in
      record {
        knows = subst (λ (bs : List ℕ). KnowsBy stage (Some seen) bs a.held y) (sym (append-nil (link_came parts))) (knows told);
        ups = ap (drop seen.length) (append-nil (link_came parts) ∙ early.front)
            ∙ ap (λ (bs : List ℕ). bs ++ drop seen.length x.front) (sym early.none)
            ∙ ap (λ (bs : List ℕ). bs ++ (x.ways.up.held ++ drop seen.length x.front))
            (sym (append-nil (up_went parts) ∙ none_went));
        downs = downs_stay;
        rings = record {
          up = omega (
            arith,
            ap length early.none,
            early.short,
            front_fits x.door,
            length-drop seen.length x.front,
            length-append x.ways.up.held (drop seen.length x.front),
          );
          down = keeps.rings.down;
        };
        shuts = λ shut. absurd (false≢true (sym early.going ∙ done_ended x.ways.up (keeps.shuts shut)));
      }

  -- UPDATES

  -- what an update by these resources makes of it
  record Judges (h : Resources) (stage : Stage) (y : Captured) : Type 0 where
    pub course : ends_at h (header_of parts) (course_in stage) ≡ course_in y.stage
    pub noting : noting_in stage ≡ noting_in y.stage
    pub knows : KnowsBy y.stage (header_of parts) (link_came parts) h y
    pub door : y.door ≡ a.link.door
    pub up_held : y.ways.up.held ≡ a.link.ways.up.held
    pub down_held : y.ways.down.held ≡ a.link.ways.down.held
    pub shuts : y.up_shut ≡ true → is_done y.ways.up ≡ true

  -- one that isn't judged
  unjudged : (h : Resources) (stage : Stage) → a.link.stage ≡ stage → ((t : Option Seen) → ends_at h t (course_in stage) ≡ course_in stage)
      → KnowsBy stage (header_of parts) (link_came parts) h a.link → Judges h stage a.link
  unjudged h stage is stays knows = record {
    course = stays (header_of parts) ∙ ap course_in (sym is);
    noting = ap noting_in (sym is);
    knows = subst (λ (s : Stage). KnowsBy s (header_of parts) (link_came parts) h a.link) (sym is) knows;
    door = refl;
    up_held = refl;
    down_held = refl;
    shuts = keeps.shuts;
  }

  -- one that is
  judged_now : (h : Resources) (stage : Stage) → a.link.stage ≡ stage → Told (header_of parts) (link_came parts) a.link.peer a.link.target
      → ((seen : Seen) → ends_at h (Some seen) (course_in stage) ≡ ends_judged (judged_in h seen) (course_in stage))
      → (judged h a.link.peer a.link.target ≡ Admitted → KnowsBy stage (header_of parts) (link_came parts) h a.link)
      → (KnowsBy (ends_by cause.Revoked stage) (header_of parts) (link_came parts) h (at_stage (ends_by cause.Revoked stage) a.link))
      → Judges h stage (judged_by (judged h a.link.peer a.link.target) a.link)
  judged_now h stage is told judged_course stays leaves = by (judged h a.link.peer a.link.target) refl
    where
      verdict : judged_in h told.seen ≡ judged h a.link.peer a.link.target
      verdict =
          ap (λ p. judged h p told.seen.destination) (sym told.peer) ∙ ap (λ t. judged h a.link.peer t) (sym told.target)

      judged_so : (j : Judged) → judged h a.link.peer a.link.target ≡ j
          → ends_at h (header_of parts) (course_in stage) ≡ ends_judged j (course_in stage)
      judged_so j same =
          ap (λ (t : Option Seen). ends_at h t (course_in stage)) told.told ∙ judged_course told.seen
          ∙ ap (λ (k : Judged). ends_judged k (course_in stage)) (verdict ∙ same)

      revokes : (j : Judged) → judged h a.link.peer a.link.target ≡ j
          → ends_judged j (course_in stage) ≡ sides.ends cause.Revoked (course_in stage) → Judges h stage (ends_for cause.Revoked a.link)
      revokes j same ends_so = record {
        course = judged_so j same ∙ ends_so ∙ ends_course cause.Revoked stage
            ∙ ap (λ (s : Stage). course_in (ends_by cause.Revoked s)) (sym is);
        noting = ends_noting cause.Revoked stage ∙ ap (λ (s : Stage). noting_in (ends_by cause.Revoked s)) (sym is);
        knows = subst (λ (s : Stage).
            KnowsBy (ends_by cause.Revoked s) (header_of parts) (link_came parts) h (at_stage (ends_by cause.Revoked s) a.link)) (sym is)
            leaves;
        door = refl;
        up_held = refl;
        down_held = refl;
        shuts = keeps.shuts;
      }

      by : (j : Judged) → judged h a.link.peer a.link.target ≡ j → Judges h stage (judged_by j a.link)
      by Admitted same = record {
        course = judged_so Admitted same ∙ ap course_in (sym is);
        noting = ap noting_in (sym is);
        knows = subst (λ (s : Stage). KnowsBy s (header_of parts) (link_came parts) h a.link) (sym is) (stays same);
        door = refl;
        up_held = refl;
        down_held = refl;
        shuts = keeps.shuts;
      }
      by Unknown same = revokes Unknown same refl
      by Denied same = revokes Denied same refl

  -- an update, at each stage
  judged_at : (h : Resources) (stage : Stage) → a.link.stage ≡ stage
      → Judges h stage (cond (is_judged stage) (judged_by (judged h a.link.peer a.link.target) a.link) a.link)
  judged_at h unborn is = unjudged h unborn is no_course (knows_at unborn is)
    where
      no_course : (t : Option Seen) → ends_at h t sides.unborn ≡ sides.unborn
      no_course None = refl
      no_course (Some seen) = refl
  judged_at h arriving is = unjudged h arriving is no_course (knows_at arriving is)
    where
      no_course : (t : Option Seen) → ends_at h t sides.arriving ≡ sides.arriving
      no_course None = refl
      no_course (Some seen) = refl
  judged_at h fronting is = unjudged h fronting is no_course (knows_at fronting is)
    where
      no_course : (t : Option Seen) → ends_at h t sides.fronting ≡ sides.fronting
      no_course None = refl
      no_course (Some seen) = refl
  judged_at h due is =
      let at = knows_at due is in
      judged_now h due is at.0.0 (λ seen. refl) (λ same. ((at.0.0, (λ may. same)), at.1, at.2, at.3))
      at.0.0
  judged_at h opening is =
      let at = knows_at opening is in
      judged_now h opening is at.0.0 (λ seen. refl) (λ same. ((at.0.0, (λ may. same)), at.1, at.2, at.3))
      at.0.0
  judged_at h accepting is =
      let at = knows_at accepting is in
      judged_now h accepting is at.0.0 (λ seen. refl) (λ same. ((at.0.0, (λ may. same)), at.1))
      at.0.0
  judged_at h live is =
      let at = knows_at live is in
      judged_now h live is at.0.0 (λ seen. refl) (λ same. ((at.0.0, (λ may. same)), at.1))
      at.0.0
  judged_at h (failed why) is = unjudged h (failed why) is no_course (knows_at (failed why) is)
    where
      no_course : (t : Option Seen) → ends_at h t (sides.over why) ≡ sides.over why
      no_course None = refl
      no_course (Some seen) = refl
  judged_at h (ended why) is = unjudged h (ended why) is no_course (knows_at (ended why) is)
    where
      no_course : (t : Option Seen) → ends_at h t (sides.over why) ≡ sides.over why
      no_course None = refl
      no_course (Some seen) = refl
  judged_at h (over why) is = unjudged h (over why) is no_course tt
    where
      no_course : (t : Option Seen) → ends_at h t (sides.over why) ≡ sides.over why
      no_course None = refl
      no_course (Some seen) = refl

  -- where peers aren't judged it stays as it is
  stays_known : (h : Resources) (stage : Stage) → a.link.stage ≡ stage → judges a.link.door ≡ false
      → KnowsBy stage (header_of parts) (link_came parts) h a.link
  stays_known h unborn is not = knows_at unborn is
  stays_known h arriving is not = knows_at arriving is
  stays_known h fronting is not = knows_at fronting is
  stays_known h due is not =
      let at = knows_at due is in ((at.0.0, (λ may. absurd (false≢true (sym not ∙ may)))), at.1, at.2, at.3)
  stays_known h opening is not =
      let at = knows_at opening is in ((at.0.0, (λ may. absurd (false≢true (sym not ∙ may)))), at.1, at.2, at.3)
  stays_known h accepting is not =
      let at = knows_at accepting is in ((at.0.0, (λ may. absurd (false≢true (sym not ∙ may)))), at.1)
  stays_known h live is not = let at = knows_at live is in ((at.0.0, (λ may. absurd (false≢true (sym not ∙ may)))), at.1)
  stays_known h (failed why) is not = knows_at (failed why) is
  stays_known h (ended why) is not = knows_at (ended why) is
  stays_known h (over why) is not = tt

  module _ (r : Response) where
    abbrev h : Resources
    h = after_response a.held r

    -- behind it, where peers are judged or aren't
    abbrev behind_it : Bool → Captured
    behind_it judging = cond (judging && is_judged a.link.stage) (judged_by (judged h a.link.peer a.link.target) a.link) a.link

    abbrev Updated : Bool → Type 0
    Updated judging =
        (cond judging (ends_at h (header_of parts) (course_in a.link.stage)) (course_in a.link.stage) ≡ course_in (behind_it judging).stage)
        × (noting_in a.link.stage ≡ noting_in (behind_it judging).stage)
        × Moves parts nothing (behind_it judging) h

    update_moves : (judging : Bool) → judges a.link.door ≡ judging → Updated judging
    update_moves true is =
        let now = judged_at h a.link.stage refl in
        (now.course, now.noting, plain_moves (behind_it true) h now.knows now.door now.up_held now.down_held now.shuts)
    update_moves false is = (refl, refl, plain_moves a.link h (stays_known h a.link.stage refl is) refl refl refl keeps.shuts)

  -- its end is noted
  left_as : (made : Option Note) (why : Cause) → left_by a.link.stage ≡ over why → course_in a.link.stage ≡ sides.over why
      → Keeps start (next a (left made)) (parts ++ left made ∷ [])
  left_as made why now course =
      let y = left_now a.link in
      moves_keep (left made) (course ∙ ap course_in (sym now)) (ap noting_in (sym now))
      (plain_moves y a.held
      (subst (λ (s : Stage). KnowsBy s (header_of parts) (link_came parts) a.held y) (sym now) tt) refl refl refl keeps.shuts)

  left_keeps : (made : Option Note) (stage : Stage) → a.link.stage ≡ stage → left_note l a.link stage made
      → Keeps start (next a (left made)) (parts ++ left made ∷ [])
  left_keeps made (failed why) is noted = left_as made why (ap left_by is) (ap course_in is)
  left_keeps made (ended why) is noted = left_as made why (ap left_by is) (ap course_in is)
  left_keeps made unborn is noted = absurd noted
  left_keeps made arriving is noted = absurd noted
  left_keeps made fronting is noted = absurd noted
  left_keeps made due is noted = absurd noted
  left_keeps made opening is noted = absurd noted
  left_keeps made accepting is noted = absurd noted
  left_keeps made live is noted = absurd noted
  left_keeps made (over why) is noted = absurd noted

  -- both sides ended, and all went through; its stream is left
  over_moves : (why : Cause) (gate stream went_up : ℕ) → Moves parts nothing (record a.link {
    stage = over why;
    gate = gate;
    stream = stream;
    went_up = went_up;
  }) a.held
  over_moves why gate stream went_up =
      plain_moves (record a.link { stage = over why; gate = gate; stream = stream; went_up = went_up }) a.held tt refl refl refl keeps.shuts

  part_keeps : (p : Part) → MayGo l a p → Keeps start (next a p) (parts ++ p ∷ [])
  part_keeps (entry z) may = entry_keeps z may
  part_keeps (up z) may = up_keeps z may
  part_keeps welcomed is =
      moves_keep welcomed refl (ap noting_in is)
      (plain_moves (at_stage fronting a.link) a.held (knows_at arriving is) refl refl refl keeps.shuts)
  part_keeps crowded is =
      moves_keep crowded (ends_course cause.NoRoom a.link.stage) (ends_noting cause.NoRoom a.link.stage) (ends_moves cause.NoRoom)
  part_keeps lacked is =
      moves_keep lacked (ends_course cause.NoMemory a.link.stage) (ends_noting cause.NoMemory a.link.stage) (ends_moves cause.NoMemory)
  part_keeps (misfronted fault) is =
      let why = cause.FrontFault (number_of fault) in
      moves_keep (misfronted fault) (ends_course why a.link.stage) (ends_noting why a.link.stage) (ends_moves why)
  part_keeps (fronted seen routing aim) (at, is) =
      let early = knows_at fronting at.0 in
      moves_keep (fronted seen routing aim) refl refl
      (header_moves seen aim due at.0 at.1
      (λ told. ((told, (λ may. admits a.link.door a.held routing seen aim may is)), early.no_up, early.shut, early.down_going)))
  part_keeps (refused seen routing why status made) (at, refuses, noted) =
      let moves = header_moves seen (straight_to seen.destination None) (over why) at.0 at.1 (λ told. tt) in
      moves_keep (refused seen routing why status made) (ap (λ (s : Stage). sides.ends why (course_in s)) at.0) refl (record {
        knows = moves.knows;
        ups = moves.ups;
        downs = moves.downs;
        rings = record { up = moves.rings.up; down = moves.rings.down };
        shuts = moves.shuts;
      })
  part_keeps (accepted made) (is, noted) =
      moves_keep (accepted made) refl refl
      (plain_moves (unnamed (at_stage live a.link)) a.held (knows_at accepting is) refl refl refl keeps.shuts)
  part_keeps roomless may =
      moves_keep roomless (ends_course cause.NoRoom a.link.stage) (ends_noting cause.NoRoom a.link.stage) (ends_moves cause.NoRoom)
  part_keeps (asked gate stream) (is, keyed, some) =
      moves_keep (asked gate stream) (ap course_in is) (ap noting_in is)
      (waits_moves a.link.up gate stream is (inr (λ none. omega (arith, none, some))))
  part_keeps (hears heard begun) (on, may) = heard_keeps heard begun a.link.stage refl may
  part_keeps (put bytes) (lives_so, (some, (rest, first))) =
      moves_keep (put bytes) refl refl (goes_moves bytes rest a.link.went_up lives_so.1 first)
  part_keeps finished (lives_so, through, open_yet) =
      moves_keep finished refl refl (same_moves (next a finished).link refl refl (λ shut. through))
  part_keeps (credited n) may = moves_keep (credited n) refl refl (same_moves (next a (credited n)).link refl refl keeps.shuts)
  part_keeps (loosed begun) (on, may) =
      moves_keep (loosed begun) refl refl
      (plain_moves (next a (loosed begun)).link a.held
      (left_knows (header_of parts) (link_came parts) a.held a.link.stage (facts_of a.link) 0 may keeps.knows) refl refl refl keeps.shuts)
  part_keeps (completed begun made) (lives_so, through, shut_so, noted) =
      moves_keep (completed begun made) (ap (λ (s : Stage). sides.ends cause.Done (course_in s)) lives_so.1) refl
      (over_moves cause.Done 0 0 begun)
  part_keeps (left made) (noted, raw) = left_keeps made a.link.stage refl noted
  part_keeps (done made) (is, raw, through, noted) =
      moves_keep (done made) (ap (λ (s : Stage). sides.ends cause.Done (course_in s)) is) refl
      (over_moves cause.Done a.link.gate a.link.stream a.link.went_up)
  part_keeps (applied r) may =
      let is = update_moves r (judges a.link.door) refl in moves_keep (applied r) is.0 is.1 is.2
  part_keeps (stopped why) may =
      moves_keep (stopped why) (ends_course why a.link.stage) (ends_noting why a.link.stage) (ends_moves why)

first_keeps : (start : Resources) → Keeps start (record { held = start; link = no_link }) []
first_keeps start = record {
  held = refl;
  tells = record {
    door = refl;
    ended = refl;
    up_ended = refl;
    opened = refl;
    up_shut = refl;
    shut = refl;
    closed = refl;
    up = refl;
    stream = refl;
    went_down = refl;
  };
  course = refl;
  noting = refl;
  knows = record {
    told = refl;
    front = refl;
    short = omega arith;
    none = refl;
    going = refl;
    no_up = refl;
    shut = refl;
    down_none = refl;
    down_going = refl;
  };
  ups = refl;
  downs = refl;
  rings = record { up = omega arith; down = omega arith };
  shuts = λ shut. absurd (false≢true shut);
}

pub all_keep : (l : ℕ) (start : Resources) (a : Local) (parts : List Part) → StandsFor l start a parts → Keeps start a parts
all_keep l start a parts (begins is none) =
    subst (λ (b : Local). Keeps start b parts) (sym is)
    (subst (λ (ps : List Part). Keeps start (record { held = start; link = no_link }) ps) (sym none) (first_keeps start))
all_keep l start b more (goes_on {a = a} {parts = parts} stands p steps are) =
    subst (λ (c : Local). Keeps start c more) (sym steps.1)
    (subst (λ (ps : List Part). Keeps start (next a p) ps) (sym are)
    (part_keeps l start a parts (all_keep l start a parts stands) p steps.0))
