-- Of which tunnels DATA waits to be written, part by part.
use Rattle.std.proofs.Common.{◌≡◌, ◌≢◌, inl, inr, ℕ, ◌<◌, ◌-◌, ◌==◌, ◌&&◌, ◌||◌, not, Bool, true, false, cond, List, [], ◌∷◌, length, min, Option, None, is_some, refl, ap, sym, ◌∙◌, subst, arith}
use Rattle.std.specs.Prelude.{nat_le}
use Rattle.std.specs.List.{list_any, AllByRecursion}
use Rattle.std.proofs.lemmas.Bool.{false≢true, eqb-true, eq-eqb, and_parts, not-true, or_parts}
use Rattle.std.proofs.lemmas.Bool.Decides.{nat_tests}
use Rattle.std.proofs.lemmas.List.{nil_from_length}
use Rattle.hb_base.specs.declared.cause.Cause.{Cause}
use Rattle.hb_base.specs.declared.cause.Cause.TheVariants as cause
use Rattle.hb_base.specs.declared.note.Note.{Note}
use Rattle.hb_conn.specs.Connection.{Connection, fresh_server, taken}
use Rattle.hb_conn.specs.Observed as observed
use Rattle.hb_conn.specs.Observed.{outgoing, own_side_open, sides, chunk_of, count_put, data_put, status_put, end_put, aborted}
use Rattle.hb_conn.specs.declared.found.Found.{Found}
use Rattle.hb_conn.specs.declared.found.Found.TheVariants as found
use Rattle.hb_frames.specs.Numbers.{largest}
use Rattle.hb_frames.specs.RawFrame.{RawFrame}
use Rattle.hb_held.specs.Held.{Resources}
use Rattle.hb_held.specs.Outcome.{after_response}
use Rattle.hb_history.specs.Points as history
use Rattle.hb_history.specs.TakenBack.{has_data_on, NoneWaitsOn}
use Rattle.hb_hpack.specs.declared.header.HeaderList.{HeaderList}
use Rattle.hb_kept.specs.DataWaits.{StreamSet, with_stream, without_stream, WaitsWithin}
use Rattle.hb_kept.specs.Looks.{IsLook}
use Rattle.hb_kept.specs.Sides.{peer_ends, own_ends}
use Rattle.hb_kept.proofs.DataWaits.{within_more, waits_without, finds_within_set, writes_within, uses_within, answers_within, ends_within, puts_within, resets_within}
use Rattle.hb_kept.proofs.Opened.{opened_is_unused, opened_is_open}
use Rattle.hb_kept.proofs.Sides.{write_leaves_all, put_leaves_all, use_leaves_all, answer_ends_side, end_ends_side, reset_ends_both, finds_sides}
use Rattle.hb_outgoing.specs.Waiting.{octets_of}
use Rattle.hb_streams.specs.declared.sides.Sides.{Sides}
use Rattle.hb_table.specs.Judgement.{judged}
use Rattle.hb_table.specs.declared.judgement.Judged.{Judged}
use Rattle.hb_table.specs.declared.judgement.Judged.TheVariants.{Admitted, Unknown, Denied}
use Rattle.hb_tunnel.specs.Way.{is_done}
use Rattle.hb_verdict.specs.declared.verdict.Verdict.{Verdict}
use Rattle.hb_verdict.specs.declared.verdict.Verdict.TheVariants.{Status, Reset, Dial}
use Rattle.hb_world.specs.declared.entry.Entry.{Entry}
use Rattle.hb_world.specs.declared.entry.Entry.TheVariants as e
use Rattle.hb_world.specs.declared.entry.Way.TheVariants as way
use Rattle.hb_inbound.specs.Calm.{up_wants, may_end, data_waits, is_done_on, IsAnswered}
use Rattle.hb_inbound.specs.Inbound.{Inbound, Phase, unborn, arriving, fronting, serving, faulted, closing, closed, with_phase, at_stream, came, came_by, went, went_by, with_begun, ended_by, broken_by, told_of, on_found, judged_by, rejudged, lacking, stops_by, stopped_for}
use Rattle.hb_inbound.specs.Part.{Part, entry, up, welcomed, crowded, lacked, misfronted, looked, decided, accepted, refused, reset, left, done, put, finished, credited, applied, stopped}
use Rattle.hb_inbound.specs.Part as part
use Rattle.hb_inbound.specs.Runs.{Local, MayCome, UpMayCome, entered, Steps, StandsFor, begins, goes_on, with_link, with_tunnel, tunnel_for, put_down, Refuses, Resets, Leaves, refused_on, end_code, code_due, is_serving}
use Rattle.hb_inbound.specs.Tunnel.{Tunnel, Stage, unasked, requested, refusing, malformed, due, opening, accepting, live, failed, ended, over, gone, takes_place, is_unanswered, at_stage, ends_by, ends_for, left_with, up_entered, came_up, peer_ended, requested_with}
use Rattle.hb_inbound.proofs.Admitted.{at_one}
use Rattle.hb_inbound.proofs.Left.{IsLeft, left_so, refuses_left, resets_left, leaves_left, leaves_asked}
use Rattle.hb_inbound.proofs.Runs.{Keeps, all_keep}
use Rattle.hb_inbound.proofs.Waiting.{has_code, holds_data, may_wait, set_of, speaks, is_before, Fits, Serves, IsNew, WaitsIn, IsGentle, gentle_fits, gentle_same, serves_on, waits_on, one_waits}

-- a link that ends waits for nothing more
abbrev pub IsLate : Phase → Type 0
IsLate (closing why) = Unit {0}
IsLate closed = Unit {0}
IsLate _ = ⊥

no_end : {A : Type 0} (b : Bool) → b ≡ false → b ≡ true → A
no_end b none some = absurd (false≢true (sym none ∙ some))

-- the changes of a tunnel by the entries of its upstream
not_put : (t : Tunnel) → (t.end_put ≡ true → is_done t.ways.down ≡ true) → t.ways.down.has_ended ≡ false → t.end_put ≡ false
not_put t spent open_way = by t.end_put refl
  where
    ended_of : (b c : Bool) → (b && c) ≡ true → b ≡ true
    ended_of true c is = refl
    ended_of false c is = absurd (false≢true is)

    by : (b : Bool) → t.end_put ≡ b → t.end_put ≡ false
    by false is = is
    by true is =
        absurd (false≢true (sym open_way ∙ ended_of t.ways.down.has_ended (length t.ways.down.held == 0) (spent is)))

open_way : (t : Tunnel) → 0 < up_wants t → t.ways.down.has_ended ≡ false
open_way t some = by t.ways.down.has_ended refl some
  where
    by : (b : Bool) → t.ways.down.has_ended ≡ b → 0 < cond b 0 (16384 - length t.ways.down.held) → t.ways.down.has_ended ≡ false
    by false is some = is
    by true is some = absurd (omega (arith, some))

-- a change of the stage alone
pub stage_gentle : (t : Tunnel) (old stage : Stage) → t.stage ≡ old
    → (speaks stage ≡ true → speaks old ≡ true) → (holds_data old ≡ true → holds_data stage ≡ true)
    → (is_before stage ≡ true → is_before old ≡ true) → IsGentle t (at_stage stage t)
stage_gentle t old stage is own holds before = record {
  own = λ speaks_now open_now. (ap speaks is ∙ own speaks_now, open_now);
  waits = waits_by t.end_put;
  spent = λ was. was;
  early = λ was now. was (ap is_before is ∙ before now);
}
  where
    waits_by : (b : Bool) → (not b && holds_data t.stage) ≡ true → (not b && holds_data stage) ≡ true
    waits_by true some = some
    waits_by false some = holds (sym (ap holds_data is) ∙ some)

-- an end of it: pending it fails, and it needs its side no more; live it may still have DATA that waits, if its stream is to be reset
end_gentle : (why : Cause) (t : Tunnel) → has_code why ≡ true → IsGentle t (ends_for why t)
end_gentle why t code = by t.stage refl
  where
    by : (stage : Stage) → t.stage ≡ stage → IsGentle t (at_stage (ends_by why t.stage) t)
    by unasked is = subst (λ (st : Stage). IsGentle t (at_stage st t)) (sym (ap (ends_by why) is))
        (stage_gentle t unasked unasked is (λ b. b) (λ b. b) (λ b. b))
    by (requested headers end) is = subst (λ (st : Stage). IsGentle t (at_stage st t)) (sym (ap (ends_by why) is))
        (stage_gentle t (requested headers end) (requested headers end) is (λ b. b) (λ b. b) (λ b. b))
    by (refusing status target) is = subst (λ (st : Stage). IsGentle t (at_stage st t)) (sym (ap (ends_by why) is))
        (stage_gentle t (refusing status target) (refusing status target) is (λ b. b) (λ b. b) (λ b. b))
    by malformed is = subst (λ (st : Stage). IsGentle t (at_stage st t)) (sym (ap (ends_by why) is))
        (stage_gentle t malformed malformed is (λ b. b) (λ b. b) (λ b. b))
    by due is = subst (λ (st : Stage). IsGentle t (at_stage st t)) (sym (ap (ends_by why) is))
        (stage_gentle t due (failed why) is (λ b. refl) (λ b. absurd (false≢true b)) (λ b. refl))
    by opening is = subst (λ (st : Stage). IsGentle t (at_stage st t)) (sym (ap (ends_by why) is))
        (stage_gentle t opening (failed why) is (λ b. refl) (λ b. absurd (false≢true b)) (λ b. refl))
    by accepting is = subst (λ (st : Stage). IsGentle t (at_stage st t)) (sym (ap (ends_by why) is))
        (stage_gentle t accepting (failed why) is (λ b. refl) (λ b. absurd (false≢true b)) (λ b. refl))
    by live is = subst (λ (st : Stage). IsGentle t (at_stage st t)) (sym (ap (ends_by why) is))
        (stage_gentle t live (ended why) is (λ b. refl) (λ b. code) (λ b. absurd (false≢true b)))
    by (failed cause) is = subst (λ (st : Stage). IsGentle t (at_stage st t)) (sym (ap (ends_by why) is))
        (stage_gentle t (failed cause) (failed cause) is (λ b. b) (λ b. b) (λ b. b))
    by (ended cause) is = subst (λ (st : Stage). IsGentle t (at_stage st t)) (sym (ap (ends_by why) is))
        (stage_gentle t (ended cause) (ended cause) is (λ b. b) (λ b. b) (λ b. b))
    by (over cause) is = subst (λ (st : Stage). IsGentle t (at_stage st t)) (sym (ap (ends_by why) is))
        (stage_gentle t (over cause) (over cause) is (λ b. b) (λ b. b) (λ b. b))
    by gone is = subst (λ (st : Stage). IsGentle t (at_stage st t)) (sym (ap (ends_by why) is))
        (stage_gentle t gone gone is (λ b. b) (λ b. b) (λ b. b))

-- a change of the ways alone, which leaves the way down as it is or only adds to a way that hasn't ended
ways_gentle : (t new : Tunnel) → new.stage ≡ t.stage → new.end_put ≡ t.end_put
    → ((t.end_put ≡ true → is_done t.ways.down ≡ true) → t.end_put ≡ true → is_done new.ways.down ≡ true) → IsGentle t new
ways_gentle t new stage same spent = record {
  own = λ speaks_now open_now. (sym (ap speaks stage) ∙ speaks_now, sym same ∙ open_now);
  waits = λ some. ap (λ (st : Stage). not new.end_put && holds_data st) stage ∙ ap (λ (b : Bool). not b && holds_data t.stage) same ∙ some;
  spent = λ was now. spent was (sym same ∙ now);
  early = λ was now. same ∙ was (sym (ap is_before stage) ∙ now);
}

-- one to whose way down something is added, which hasn't ended
adds_gentle : (t new : Tunnel) → 0 < up_wants t → new.stage ≡ t.stage → new.end_put ≡ t.end_put → IsGentle t new
adds_gentle t new some stage same =
    ways_gentle t new stage same (λ spent now. absurd (false≢true (sym (not_put t spent (open_way t some)) ∙ now)))

up_gentle : (l s : ℕ) (x : Inbound) (z : Entry) → UpMayCome l s x (x.tunnels s) z
    → IsGentle (x.tunnels s) (up_entered z (x.tunnels s)) × ((x.tunnels s).stage ≡ unasked → ⊥)
up_gentle l s x (e.Dialled u to why) may =
    let t = x.tunnels s in (
      record {
        own = λ speaks_now open_now. (ap speaks may.1, open_now);
        waits = λ some. absurd
            (false≢true (sym (none_of t.end_put) ∙ sym (ap (λ (st : Stage). not t.end_put && holds_data st) may.1) ∙ some));
        spent = λ was. was;
        early = λ was now. was (ap is_before may.1);
      },
      λ none. (let both = sym none ∙ may.1 in cc),
    )
  where
    none_of : (b : Bool) → (not b && false) ≡ false
    none_of true = refl
    none_of false = refl
up_gentle l s x (e.DialFailed to why) may = (end_gentle cause.UpFault (x.tunnels s) refl, λ none. (let both = sym none ∙ may.1 in cc))
up_gentle l s x (e.Opened u) may =
    let t = x.tunnels s in
    let gentle = stage_gentle t opening accepting may.1 (λ b. refl) (λ b. absurd (false≢true b)) (λ b. refl) in (
      record { own = gentle.own; waits = gentle.waits; spent = gentle.spent; early = gentle.early },
      λ none.
          (let both = sym none ∙ may.1 in cc),
    )
up_gentle l s x (e.Came u bytes) may =
    let t = x.tunnels s in
    (adds_gentle t (up_entered (e.Came u bytes) t) (omega (arith, may.2, may.3)) refl refl, λ none. (let both = sym none ∙ may.0.1 in cc))
up_gentle l s x (e.Ended u) may =
    let t = x.tunnels s in (adds_gentle t (up_entered (e.Ended u) t) may.1 refl refl, λ none. (let both = sym none ∙ may.0.1 in cc))
up_gentle l s x (e.Went u bytes) may =
    let t = x.tunnels s in
    (ways_gentle t (up_entered (e.Went u bytes) t) refl refl (λ was now. was now), λ none. (let both = sym none ∙ may.0.1 in cc))
up_gentle l s x (e.Broke u) (inl may) = (end_gentle cause.UpFault (x.tunnels s) refl, λ none. (let both = sym none ∙ may.1 in cc))
up_gentle l s x (e.Broke u) (inr may) = (end_gentle cause.UpFault (x.tunnels s) refl, λ none. (let both = sym none ∙ may.1 in cc))
up_gentle l s x (e.Shut u) may =
    let t = x.tunnels s in
    (ways_gentle t (up_entered (e.Shut u) t) refl refl (λ was now. was now), λ none. (let both = sym none ∙ may.1 in cc))
up_gentle l s x (e.Closed u why) may =
    let t = x.tunnels s in
    (stage_gentle t (over why) gone may.1 (λ b. b) (λ b. b) (λ b. b), λ none. (let both = sym none ∙ may.1 in cc))
up_gentle l s x (e.Balked (way.Finish u)) may = (gentle_same (x.tunnels s), λ none. (let both = sym none ∙ may.1 in cc))
up_gentle l s x (e.Balked (way.Read u)) may = (gentle_same (x.tunnels s), λ none. (let both = sym none ∙ may.0.1 in cc))
up_gentle l s x (e.Balked (way.Write u)) may = (gentle_same (x.tunnels s), λ none. (let both = sym none ∙ may.0.1 in cc))
up_gentle l s x (e.Balked (way.Listen d at listening)) may = absurd may
up_gentle l s x (e.Balked (way.Accept d)) may = absurd may
up_gentle l s x (e.Balked (way.Look k)) may = absurd may
up_gentle l s x (e.Accepted k d) may = absurd may
up_gentle l s x e.Tick may = absurd may
up_gentle l s x (e.Wait ready how) may = absurd may

-- WHAT IS TOLD OF FRAMES

-- behind it the streams whose DATA may wait are those of before, without the one that it ends
module _ (x : Inbound) (d : Connection) (serves : Serves x) where
  own_of : (s : ℕ) → sides d s ≡ sides x.conn s → own_side_open d s ≡ own_side_open x.conn s
  own_of s same = ap (λ (r : Sides). r.own) same

  -- no tunnel changes but for its ways
  calm_found : (y : Inbound) → y.conn ≡ d → WaitsWithin (set_of x) (outgoing d)
      → ((s : ℕ) → own_side_open d s ≡ own_side_open x.conn s) → ((s : ℕ) → IsGentle (x.tunnels s) (y.tunnels s)) → Serves y
  calm_found y conn waits own gentle = record {
    each = λ s.
        let fits = gentle_fits x.conn s (x.tunnels s) (y.tunnels s) (gentle s) (serves.each s) in
        record {
          own = λ speaks_now open_now. ap (λ (c : Connection). own_side_open c s) conn ∙ own s ∙ fits.own speaks_now open_now;
          spent = fits.spent;
          early = fits.early;
        };
    waits = subst (λ (c : Connection). WaitsWithin (set_of y) (outgoing c)) (sym conn)
        (within_more (set_of x) (set_of y) (outgoing d) (λ s. (gentle s).waits) waits);
  }

-- where the stream of a tunnel ended, which was answered, it needs its side no more
ended_quiet : (why : Cause) (stage : Stage) → has_code why ≡ false → is_unanswered stage ≡ false → speaks (ends_by why stage) ≡ false
ended_quiet why unasked code calm = refl
ended_quiet why (requested headers end) code calm = absurd (false≢true (sym calm))
ended_quiet why (refusing status target) code calm = refl
ended_quiet why malformed code calm = refl
ended_quiet why due code calm = refl
ended_quiet why opening code calm = refl
ended_quiet why accepting code calm = absurd (false≢true (sym calm))
ended_quiet why live code calm = code
ended_quiet why (failed cause) code calm = refl
ended_quiet why (ended cause) code calm = absurd (false≢true (sym calm))
ended_quiet why (over cause) code calm = refl
ended_quiet why gone code calm = refl

ended_before : (why : Cause) (stage : Stage) → is_before (ends_by why stage) ≡ true → is_before stage ≡ true
ended_before why unasked now = refl
ended_before why (requested headers end) now = refl
ended_before why (refusing status target) now = now
ended_before why malformed now = now
ended_before why due now = refl
ended_before why opening now = refl
ended_before why accepting now = refl
ended_before why live now = absurd (false≢true now)
ended_before why (failed cause) now = now
ended_before why (ended cause) now = now
ended_before why (over cause) now = now
ended_before why gone now = now

-- one stream ends with what is told of it, and all DATA of it is taken back
cut_serves : (x : Inbound) (d : Connection) (s : ℕ) (why : Cause) → has_code why ≡ false → IsAnswered x
    → WaitsWithin (without_stream s (set_of x)) (outgoing d) → ((k : ℕ) → k ≢ s → sides d k ≡ sides x.conn k) → Serves x
    → Serves (at_stream s (ends_for why) (record x { conn = d }))
cut_serves x d s why code answered waits others serves =
    let y = at_stream s (ends_for why) (record x { conn = d }) in
    record {
      each = at_one s (ends_for why) (record x { conn = d }) (λ k t. Fits d k t)
          (record {
            own = λ speaks_now open_now.
                no_end (speaks (ends_by why (x.tunnels s).stage)) (ended_quiet why (x.tunnels s).stage code (answered s)) speaks_now;
            spent = (serves.each s).spent;
            early = λ now. (serves.each s).early (ended_before why (x.tunnels s).stage now);
          })
          (λ k apart. record {
            own = λ speaks_now open_now.
                ap (λ (r : Sides). r.own) (others k (λ is. false≢true (sym apart ∙ eq-eqb k s is)))
                ∙ (serves.each k).own speaks_now open_now;
            spent = (serves.each k).spent;
            early = (serves.each k).early;
          });
      waits = within_more (without_stream s (set_of x)) (set_of y) (outgoing d)
          (λ k. at_one s (ends_for why) (record x { conn = d })
          (λ j t. (not (j == s) && may_wait (x.tunnels j)) ≡ true → may_wait t ≡ true)
          (λ some. absurd (false≢true (sym (ap (λ (b : Bool). not b && may_wait (x.tunnels s)) (eq-eqb s s refl)) ∙ some)))
          (λ j apart some. sym (ap (λ (b : Bool). not b && may_wait (x.tunnels j)) apart) ∙ some) k)
          waits;
    }

-- a request comes on a stream of which no DATA waits
opened_serves : (x : Inbound) (d : Connection) (s : ℕ) (headers : HeaderList) (end : Bool) → WaitsWithin (set_of x) (outgoing d)
    → NoneWaitsOn s (outgoing d) → own_side_open d s ≡ true → ((k : ℕ) → k ≢ s → sides d k ≡ sides x.conn k) → Serves x
    → Serves (at_stream s (λ t. requested_with headers end) (record x { conn = d }))
opened_serves x d s headers end waits none own others serves =
    let y = at_stream s (λ t. requested_with headers end) (record x { conn = d }) in
    record {
      each = at_one s (λ t. requested_with headers end) (record x { conn = d }) (λ k t. Fits d k t)
          (record { own = λ speaks_now open_now. own; spent = λ now. absurd (false≢true now); early = λ now. refl })
          (λ k apart. record {
            own = λ speaks_now open_now.
                ap (λ (r : Sides). r.own) (others k (λ is. false≢true (sym apart ∙ eq-eqb k s is)))
                ∙ (serves.each k).own speaks_now open_now;
            spent = (serves.each k).spent;
            early = (serves.each k).early;
          });
      waits = within_more (without_stream s (set_of x)) (set_of y) (outgoing d)
          (λ k. at_one s (λ t. requested_with headers end) (record x { conn = d })
          (λ j t. (not (j == s) && may_wait (x.tunnels j)) ≡ true → may_wait t ≡ true)
          (λ some. absurd (false≢true (sym (ap (λ (b : Bool). not b && may_wait (x.tunnels s)) (eq-eqb s s refl)) ∙ some)))
          (λ j apart some. sym (ap (λ (b : Bool). not b && may_wait (x.tunnels j)) apart) ∙ some) k)
          (waits_without (set_of x) s (outgoing d) none waits);
    }

-- the peer's side alone may end with DATA
own_kept : (end : Bool) (r : Sides) → (peer_ends end r).own ≡ r.own
own_kept true r = refl
own_kept false r = refl

own_left : (r : Sides) → (own_ends false r).own ≡ r.own
own_left r = refl

-- a tunnel whose ways change on the way up alone
up_ways : (t new : Tunnel) → new.stage ≡ t.stage → new.end_put ≡ t.end_put → new.ways.down ≡ t.ways.down → IsGentle t new
up_ways t new stage same down =
    ways_gentle t new stage same (λ was now. ap is_done down ∙ was now)

module _ (l : ℕ) (a : Local) (parts : List Part) (keeps : Keeps parts a.link) where
  -- frames are looked at on a link that serves, where every tunnel is answered
  found_waits : (ps : List history.Point) (told : Found) (headers : HeaderList) (bytes : List ℕ) (d : Connection)
      → IsLook a.link.conn ps told d → IsAnswered a.link → a.link.phase ≡ serving → Serves a.link
      → WaitsIn (told_of told headers bytes (record a.link { conn = d })).phase (told_of told headers bytes (record a.link { conn = d }))
  found_waits ps found.Silent headers bytes d look answered is serves =
      let y = record a.link { conn = d } in
      subst (λ (ph : Phase). WaitsIn ph y) (sym is)
      (calm_found a.link d serves y refl (finds_within_set (set_of a.link) a.link.conn d found.Silent look.finds serves.waits)
      (λ s. own_of a.link d serves s (finds_sides a.link.conn d found.Silent look.finds s)) (λ s. gentle_same (a.link.tunnels s)))
  found_waits ps (found.GoneAway last) headers bytes d look answered is serves =
      let y = record a.link { conn = d } in
      subst (λ (ph : Phase). WaitsIn ph y) (sym is)
      (calm_found a.link d serves y refl (finds_within_set (set_of a.link) a.link.conn d (found.GoneAway last) look.finds serves.waits)
      (λ s. own_of a.link d serves s (finds_sides a.link.conn d (found.GoneAway last) look.finds s)) (λ s. gentle_same (a.link.tunnels s)))
  found_waits ps (found.Ended s) headers bytes d look answered is serves =
      let y = at_stream s peer_ended (record a.link { conn = d }) in
      subst (λ (ph : Phase). WaitsIn ph y) (sym is)
      (calm_found a.link d serves y refl (finds_within_set (set_of a.link) a.link.conn d (found.Ended s) look.finds serves.waits)
      (λ k. own_of a.link d serves k (finds_sides a.link.conn d (found.Ended s) look.finds k))
      (at_one s peer_ended (record a.link { conn = d }) (λ k t. IsGentle (a.link.tunnels k) t)
      (up_ways (a.link.tunnels s) (peer_ended (a.link.tunnels s)) refl refl refl) (λ k apart. gentle_same (a.link.tunnels k))))
  found_waits ps (found.Chunk s end) headers bytes d look answered is serves =
      let y = at_stream s (came_up bytes) (record a.link { conn = d }) in
      let sided = finds_sides a.link.conn d (found.Chunk s end) look.finds in
      subst (λ (ph : Phase). WaitsIn ph y) (sym is)
      (calm_found a.link d serves y refl (finds_within_set (set_of a.link) a.link.conn d (found.Chunk s end) look.finds serves.waits)
      (λ k. own_at k (k == s) refl sided.here sided.others)
      (at_one s (came_up bytes) (record a.link { conn = d }) (λ k t. IsGentle (a.link.tunnels k) t)
      (up_ways (a.link.tunnels s) (came_up bytes (a.link.tunnels s)) refl refl refl) (λ k apart. gentle_same (a.link.tunnels k))))
    where
      own_at : (k : ℕ) (b : Bool) → (k == s) ≡ b → sides d s ≡ peer_ends end (sides a.link.conn s)
          → ((j : ℕ) → j ≢ s → sides d j ≡ sides a.link.conn j) → own_side_open d k ≡ own_side_open a.link.conn k
      own_at k true same here others =
          subst (λ (j : ℕ). own_side_open d j ≡ own_side_open a.link.conn j) (sym (eqb-true k s same))
          (ap (λ (r : Sides). r.own) here ∙ own_kept end (sides a.link.conn s))
      own_at k false apart here others =
          ap (λ (r : Sides). r.own) (others k (λ same. false≢true (sym apart ∙ eq-eqb k s same)))
  found_waits ps (found.Opened s end) headers bytes d look answered is serves =
      let y = at_stream s (λ t. requested_with headers end) (record a.link { conn = d }) in
      let stands = keeps.one.stands in
      subst (λ (ph : Phase). WaitsIn ph y) (sym is)
      (opened_serves a.link d s headers end
      (finds_within_set (set_of a.link) a.link.conn d (found.Opened s end) look.finds serves.waits)
      (opened_is_unused _ _ _ _ a.link.conn d (found.Opened s end) stands look.finds)
      (ap (λ (r : Sides). r.own) (opened_is_open _ _ _ _ a.link.conn d (found.Opened s end) stands look.finds))
      (finds_sides a.link.conn d (found.Opened s end) look.finds) serves)
  found_waits ps (found.Reset s code) headers bytes d look answered is serves =
      let y = at_stream s (ends_for (cause.PeerReset code)) (record a.link { conn = d }) in
      subst (λ (ph : Phase). WaitsIn ph y) (sym is)
      (cut_serves a.link d s (cause.PeerReset code) refl answered
      (finds_within_set (set_of a.link) a.link.conn d (found.Reset s code) look.finds serves.waits)
      (finds_sides a.link.conn d (found.Reset s code) look.finds).others serves)
  found_waits ps (found.Broken s code) headers bytes d look answered is serves =
      let y = at_stream s (ends_for (cause.StreamFault code)) (record a.link { conn = d }) in
      subst (λ (ph : Phase). WaitsIn ph y) (sym is)
      (cut_serves a.link d s (cause.StreamFault code) refl answered
      (finds_within_set (set_of a.link) a.link.conn d (found.Broken s code) look.finds serves.waits)
      (finds_sides a.link.conn d (found.Broken s code) look.finds).others serves)
  found_waits ps (found.Fault code) headers bytes d look answered is serves =
      finds_within_set (set_of a.link) a.link.conn d (found.Fault code) look.finds serves.waits

-- WHAT THIS END DOES

-- a tunnel whose stream has got what it gets needs nothing any more
pub record IsShut (old new : Tunnel) : Type 0 where
  pub quiet : speaks new.stage ≡ false
  pub holds : holds_data new.stage ≡ false
  pub late : is_before new.stage ≡ false
  pub same : new.end_put ≡ old.end_put
  pub ways : new.ways ≡ old.ways

left_shut : (old new : Tunnel) → IsLeft old new → IsShut old new
left_shut old new is =
    left_so (IsShut old) old new (record { quiet = refl; holds = refl; late = refl; same = refl; ways = refl })
    (λ why. record { quiet = refl; holds = refl; late = refl; same = refl; ways = refl }) is

same_at : (s : ℕ) (change : Tunnel → Tunnel) (x : Inbound) (k : ℕ)
    → (at_stream s change x).tunnels k ≡ (at_stream s (λ t. change (x.tunnels s)) x).tunnels k
same_at s change x k = by (k == s) refl
  where
    by : (b : Bool) → (k == s) ≡ b → cond b (change (x.tunnels k)) (x.tunnels k) ≡ cond b (change (x.tunnels s)) (x.tunnels k)
    by true is = ap (λ (j : ℕ). change (x.tunnels j)) (eqb-true k s is)
    by false is = refl

-- so one tunnel ends, behind which all DATA that waits is of a set without its stream
shut_serves : (x y : Inbound) (d : Connection) (s : ℕ) (next : Tunnel) (set : StreamSet) → y.conn ≡ d
    → ((k : ℕ) → y.tunnels k ≡ (at_stream s (λ t. next) x).tunnels k) → WaitsWithin set (outgoing d) → (set s ≡ true → ⊥)
    → ((k : ℕ) → (k == s) ≡ false → set k ≡ true → may_wait (x.tunnels k) ≡ true)
    → ((k : ℕ) → k ≢ s → sides d k ≡ sides x.conn k) → IsShut (x.tunnels s) next → Serves x → Serves y
shut_serves x y d s next set conn tunnel waits outside others sided shut serves =
    record {
      each = λ k. subst (λ (c : Connection). Fits c k (y.tunnels k)) (sym conn) (subst (Fits d k) (sym (tunnel k))
          (at_one s (λ t. next) x (λ j t. Fits d j t)
          (record {
            own = λ speaks_now open_now. no_end (speaks next.stage) shut.quiet speaks_now;
            spent = λ now. ap (λ (w : _). is_done w.down) shut.ways ∙ (serves.each s).spent (sym shut.same ∙ now);
            early = λ now. no_end (is_before next.stage) shut.late now;
          })
          (λ j apart. record {
            own = λ speaks_now open_now.
                ap (λ (r : Sides). r.own) (sided j (λ is. false≢true (sym apart ∙ eq-eqb j s is)))
                ∙ (serves.each j).own speaks_now open_now;
            spent = (serves.each j).spent;
            early = (serves.each j).early;
          }) k));
      waits = subst (λ (c : Connection). WaitsWithin (set_of y) (outgoing c)) (sym conn)
          (within_more set (set_of y) (outgoing d)
          (λ k some. ap may_wait (tunnel k)
          ∙ at_one s (λ t. next) x (λ j t. set j ≡ true → may_wait t ≡ true) (λ is. absurd (outside is)) (λ j apart is. others j apart is) k
          some)
          waits);
    }

no_wait : (t : Tunnel) → holds_data t.stage ≡ false → may_wait t ≡ true → ⊥
no_wait t none some = by t.end_put some
  where
    by : (b : Bool) → (not b && holds_data t.stage) ≡ true → ⊥
    by true is = false≢true is
    by false is = false≢true (sym none ∙ is)

ended_no_wait : (t : Tunnel) → t.end_put ≡ true → may_wait t ≡ true → ⊥
ended_no_wait t is some = false≢true (sym (ap (λ (b : Bool). not b && holds_data t.stage) is) ∙ some)

apart_of : (s k : ℕ) (set : StreamSet) → (without_stream s set) k ≡ true → set k ≡ true
apart_of s k set is = by (k == s) is
  where
    by : (b : Bool) → (not b && set k) ≡ true → set k ≡ true
    by false some = some
    by true some = absurd (false≢true some)

itself_out : (s : ℕ) (set : StreamSet) → (without_stream s set) s ≡ true → ⊥
itself_out s set is = false≢true (sym (ap (λ (b : Bool). not b && set s) (eq-eqb s s refl)) ∙ is)

-- no DATA of the stream is among the frames that wait
none_listed : (s : ℕ) (fs : List RawFrame) → list_any (has_data_on s) fs ≡ false → AllByRecursion (λ f. has_data_on s f ≡ false) fs
none_listed s [] none = tt
none_listed s (f ∷ fs) none = by (has_data_on s f) refl none (λ rest. none_listed s fs rest)
  where
    by : (b : Bool) → has_data_on s f ≡ b → (b || list_any (has_data_on s) fs) ≡ false
        → (list_any (has_data_on s) fs ≡ false → AllByRecursion (λ g. has_data_on s g ≡ false) fs)
        → AllByRecursion (λ g. has_data_on s g ≡ false) (f ∷ fs)
    by true is some more = absurd (false≢true (sym some))
    by false is rest more = (is, more rest)

-- where there is nothing to put, nothing is put
none_of : (b c : Bool) (n : ℕ) → cond b 0 (cond c (min 0 n) 0) ≡ 0
none_of true c n = refl
none_of false true n = omega arith
none_of false false n = refl

none_put : (c : Connection) (s : ℕ) → count_put c s [] ≡ 0
none_put c s =
    none_of (observed.is_over c) (nat_le s largest && length (octets_of (outgoing c)) == 0) (observed.sendable c s)

module _ (l : ℕ) (a : Local) (parts : List Part) (keeps : Keeps parts a.link) (waits : WaitsIn a.link.phase a.link) where
  serves_at : a.link.phase ≡ serving → Serves a.link
  serves_at is = subst (λ (ph : Phase). WaitsIn ph a.link) is waits

  serving_now : (y : Inbound) → y.phase ≡ a.link.phase → a.link.phase ≡ serving → Serves y → WaitsIn y.phase y
  serving_now y phase is serves = subst (λ (ph : Phase). WaitsIn ph y) (sym (phase ∙ is)) serves

  -- a tunnel that leaves: in a phase of a connection, and in no early one
  left_waits : (s : ℕ) (made : Option Note) (next : Tunnel) → Leaves l s a.link (a.link.tunnels s).stage made next
      → WaitsIn a.link.phase (with_tunnel s next a.link.conn a.link)
  left_waits s made next leaves = by a.link.phase refl waits
    where
      early : ((k : ℕ) → IsNew (a.link.tunnels k)) → ⊥
      early new = leaves_asked a.link l s 0 (a.link.tunnels s).stage made next leaves (new s).0

      outside : (stage : Stage) → (a.link.tunnels s).stage ≡ stage → a.link.phase ≡ serving → Serves a.link
          → Leaves l s a.link stage made next → may_wait (a.link.tunnels s) ≡ true → ⊥
      outside (failed why) is on serves leave some = no_wait (a.link.tunnels s) (ap holds_data is) some
      outside (ended why) is on serves leave some =
          let t = a.link.tunnels s in
          let open_end = not-true t.end_put (and_parts (not t.end_put) (holds_data t.stage) some).0 in
          let code : has_code why ≡ true = sym (ap holds_data is) ∙ (and_parts (not t.end_put) (holds_data t.stage) some).1 in
          let own = (serves.each s).own (ap speaks is ∙ code) open_end in
          coded why code (due_is why on own ∙ leave.1)
        where
          due_is : (why : Cause) → a.link.phase ≡ serving → own_side_open a.link.conn s ≡ true
              → end_code why ≡ code_due a.link s why
          due_is why on own =
              sym (ap (λ (b : Bool). cond b (end_code why) None)
              (ap (λ (ph : Phase). is_serving ph && ((sides a.link.conn s).own || (sides a.link.conn s).peer)) on
              ∙ ap (λ (b : Bool). b || (sides a.link.conn s).peer) own))

          coded : (why : Cause) → has_code why ≡ true → end_code why ≡ None → ⊥
          coded why code none = false≢true (sym (ap is_some none) ∙ code)
      outside unasked is on serves leave some = leave
      outside (requested headers end) is on serves leave some = leave
      outside (refusing status target) is on serves leave some = leave
      outside malformed is on serves leave some = leave
      outside due is on serves leave some = leave
      outside opening is on serves leave some = leave
      outside accepting is on serves leave some = leave
      outside live is on serves leave some = leave
      outside (over why) is on serves leave some = leave
      outside gone is on serves leave some = leave

      by : (phase : Phase) → a.link.phase ≡ phase → WaitsIn phase a.link → WaitsIn phase (with_tunnel s next a.link.conn a.link)
      by unborn is new = absurd (early new)
      by arriving is new = absurd (early new)
      by fronting is new = absurd (early new)
      by serving is serves =
          shut_serves a.link (with_tunnel s next a.link.conn a.link) a.link.conn s next (set_of a.link) refl (λ k. refl) serves.waits
          (outside (a.link.tunnels s).stage refl is serves leaves) (λ k apart some. some) (λ k apart. refl)
          (left_shut (a.link.tunnels s) next (leaves_left a.link l s 0 (a.link.tunnels s).stage made next leaves)) serves
      by (faulted code) is none = none
      by (closing why) is none = tt
      by closed is none = tt

  -- a refusal, behind which the stream may be reset
  refused_waits : (s status : ℕ) (resets : Bool) (made : Note) (next : Tunnel) → a.link.phase ≡ serving
      → Refuses l s a.link (a.link.tunnels s).stage status made next
      → Serves (with_tunnel s next (refused_on s status resets a.link.conn) a.link)
  refused_waits s status resets made next is refuses = by resets
    where
      outside : (stage : Stage) → (a.link.tunnels s).stage ≡ stage → Refuses l s a.link stage status made next
          → may_wait (a.link.tunnels s) ≡ true → ⊥
      outside (refusing n target) is refuse some = no_wait (a.link.tunnels s) (ap holds_data is) some
      outside (failed why) is refuse some = no_wait (a.link.tunnels s) (ap holds_data is) some
      outside unasked is refuse some = refuse
      outside (requested headers end) is refuse some = refuse
      outside malformed is refuse some = refuse
      outside due is refuse some = refuse
      outside opening is refuse some = refuse
      outside accepting is refuse some = refuse
      outside live is refuse some = refuse
      outside (ended why) is refuse some = refuse
      outside (over why) is refuse some = refuse
      outside gone is refuse some = refuse

      by : (b : Bool) → Serves (with_tunnel s next (refused_on s status b a.link.conn) a.link)
      by false =
          let d = status_put a.link.conn s (record { number = status; end = true }) in
          shut_serves a.link (with_tunnel s next d a.link) d s next (set_of a.link) refl (λ k. refl)
          (answers_within (set_of a.link) a.link.conn s (record { number = status; end = true }) (serves_at is).waits)
          (outside (a.link.tunnels s).stage refl refuses) (λ k apart some. some)
          (answer_ends_side a.link.conn s (record { number = status; end = true })).others
          (left_shut (a.link.tunnels s) next (refuses_left a.link l s status (a.link.tunnels s).stage made next refuses)) (serves_at is)
      by true =
          let c = status_put a.link.conn s (record { number = status; end = true }) in
          let d = aborted c s 0 in
          shut_serves a.link (with_tunnel s next d a.link) d s next (without_stream s (set_of a.link)) refl (λ k. refl)
          (resets_within (set_of a.link) c s 0
          (answers_within (set_of a.link) a.link.conn s (record { number = status; end = true }) (serves_at is).waits))
          (itself_out s (set_of a.link)) (λ k apart some. apart_of s k (set_of a.link) some)
          (λ k other. (reset_ends_both c s 0).others k other
          ∙ (answer_ends_side a.link.conn s (record { number = status; end = true })).others k other)
          (left_shut (a.link.tunnels s) next (refuses_left a.link l s status (a.link.tunnels s).stage made next refuses)) (serves_at is)

  reset_waits : (s code : ℕ) (made : Note) (next : Tunnel) → a.link.phase ≡ serving
      → Resets l s a.link (a.link.tunnels s).stage code made next
      → Serves (with_tunnel s next (aborted a.link.conn s code) a.link)
  reset_waits s code made next is resets =
      let d = aborted a.link.conn s code in
      shut_serves a.link (with_tunnel s next d a.link) d s next (without_stream s (set_of a.link)) refl (λ k. refl)
      (resets_within (set_of a.link) a.link.conn s code (serves_at is).waits)
      (itself_out s (set_of a.link)) (λ k apart some. apart_of s k (set_of a.link) some)
      (reset_ends_both a.link.conn s code).others
      (left_shut (a.link.tunnels s) next (resets_left a.link l s code (a.link.tunnels s).stage made next resets)) (serves_at is)

  -- 200 is put, and octets are used up: no side ends, and no tunnel needs more
  own_at : (s : ℕ) (d : Connection) → sides d s ≡ sides a.link.conn s → ((k : ℕ) → k ≢ s → sides d k ≡ sides a.link.conn k)
      → (k : ℕ) → own_side_open d k ≡ own_side_open a.link.conn k
  own_at s d here others k = by (k == s) refl
    where
      by : (b : Bool) → (k == s) ≡ b → own_side_open d k ≡ own_side_open a.link.conn k
      by true same =
          subst (λ (j : ℕ). own_side_open d j ≡ own_side_open a.link.conn j) (sym (eqb-true k s same)) (ap (λ (r : Sides). r.own) here)
      by false apart = ap (λ (r : Sides). r.own) (others k (λ same. false≢true (sym apart ∙ eq-eqb k s same)))

  one_gentle : (s : ℕ) (new : Tunnel) → IsGentle (a.link.tunnels s) new → (d : Connection) → (k : ℕ)
      → IsGentle (a.link.tunnels k) ((with_tunnel s new d a.link).tunnels k)
  one_gentle s new gentle d = at_one s (λ t. new) a.link (λ k t. IsGentle (a.link.tunnels k) t) gentle
      (λ k apart. gentle_same (a.link.tunnels k))

  accepted_waits : (s : ℕ) → a.link.phase ≡ serving → (a.link.tunnels s).stage ≡ accepting
      → Serves (with_tunnel s (at_stage live (a.link.tunnels s)) (status_put a.link.conn s (record { number = 200; end = false })) a.link)
  accepted_waits s is on =
      let d = status_put a.link.conn s (record { number = 200; end = false }) in
      let new = at_stage live (a.link.tunnels s) in
      let sided = answer_ends_side a.link.conn s (record { number = 200; end = false }) in
      calm_found a.link d (serves_at is) (with_tunnel s new d a.link) refl
      (answers_within (set_of a.link) a.link.conn s (record { number = 200; end = false }) (serves_at is).waits)
      (own_at s d sided.here sided.others)
      (one_gentle s new (stage_gentle (a.link.tunnels s) accepting live on (λ b. refl) (λ b. refl) (λ b. absurd (false≢true b))) d)

  credited_waits : (s n : ℕ) → a.link.phase ≡ serving
      → Serves (with_tunnel s (record (a.link.tunnels s) { owed = 0 }) (observed.credited a.link.conn s n) a.link)
  credited_waits s n is =
      let d = observed.credited a.link.conn s n in
      let new = record (a.link.tunnels s) { owed = 0 } in
      calm_found a.link d (serves_at is) (with_tunnel s new d a.link) refl
      (uses_within (set_of a.link) a.link.conn s n (serves_at is).waits)
      (λ k. ap (λ (r : Sides). r.own) (use_leaves_all a.link.conn s n k))
      (one_gentle s new (up_ways (a.link.tunnels s) new refl refl refl) d)

  -- DATA is put of a live tunnel whose stream this end hasn't ended
  some_wait : (s : ℕ) (bytes : List ℕ) → a.link.phase ≡ serving → bytes ≡ (a.link.tunnels s).ways.down.held
      → 0 < count_put a.link.conn s bytes → (a.link.tunnels s).end_put ≡ false
  some_wait s bytes is held some = by (a.link.tunnels s).end_put refl
    where
      by : (b : Bool) → (a.link.tunnels s).end_put ≡ b → (a.link.tunnels s).end_put ≡ false
      by false now = now
      by true now =
          let t = a.link.tunnels s in
          let done = ((serves_at is).each s).spent now in
          let empty : (length t.ways.down.held == 0) ≡ true = (and_parts t.ways.down.has_ended (length t.ways.down.held == 0) done).1 in
          let none : bytes ≡ [] = held ∙ nil_from_length t.ways.down.held (grind (arith, nat_tests, empty)) in
          let zero_put = none_put a.link.conn s in
          let more : 0 < count_put a.link.conn s [] = subst (λ (bs : List ℕ). 0 < count_put a.link.conn s bs) none some in
          absurd (omega (arith, zero_put, more))

  put_waits : (s : ℕ) (bytes : List ℕ) → a.link.phase ≡ serving → (a.link.tunnels s).stage ≡ live
      → bytes ≡ (a.link.tunnels s).ways.down.held → 0 < count_put a.link.conn s bytes
      → Serves (with_tunnel s (put_down a.link.conn s (a.link.tunnels s)) (data_put a.link.conn s bytes) a.link)
  put_waits s bytes is on held some =
      let d = data_put a.link.conn s bytes in
      let t = a.link.tunnels s in
      let new = put_down a.link.conn s t in
      let y = with_tunnel s new d a.link in
      let unended = some_wait s bytes is held some in
      let gentle = ways_gentle t new refl refl (λ was now. absurd (false≢true (sym unended ∙ now))) in
      record {
        each = λ k.
            let fits = gentle_fits a.link.conn k (a.link.tunnels k) (y.tunnels k) (one_gentle s new gentle d k) ((serves_at is).each k) in
            record {
              own = λ speaks_now open_now.
                  ap (λ (r : Sides). r.own) (put_leaves_all a.link.conn s bytes k) ∙ fits.own speaks_now open_now;
              spent = fits.spent;
              early = fits.early;
            };
        waits = within_more (with_stream s (set_of a.link)) (set_of y) (outgoing d)
            (at_one s (λ old. new) a.link (λ k now. (k == s || may_wait (a.link.tunnels k)) ≡ true → may_wait now ≡ true)
            (λ either. ap (λ (b : Bool). not b && holds_data t.stage) unended ∙ ap holds_data on)
            (λ k apart either. sym (ap (λ (b : Bool). b || may_wait (a.link.tunnels k)) apart) ∙ either))
            (puts_within (set_of a.link) a.link.conn s bytes (serves_at is).waits);
      }

  -- END_STREAM is put behind all DATA
  finished_waits : (s : ℕ) → a.link.phase ≡ serving → (a.link.tunnels s).stage ≡ live
      → may_end a.link.conn s (a.link.tunnels s) ≡ true
      → Serves (with_tunnel s (record (a.link.tunnels s) { end_put = true }) (end_put a.link.conn s) a.link)
  finished_waits s is on may =
      let t = a.link.tunnels s in
      let new = record t { end_put = true } in
      let d = end_put a.link.conn s in
      let y = with_tunnel s new d a.link in
      let sided = end_ends_side a.link.conn s in
      let parts_of = is_done t.ways.down && not t.end_put in
      let done = (and_parts (is_done t.ways.down) (not t.end_put) (and_parts parts_of (not (data_waits a.link.conn s)) may).0).0 in
      let silent = not-true (data_waits a.link.conn s) (and_parts parts_of (not (data_waits a.link.conn s)) may).1 in
      let none = none_listed s (outgoing a.link.conn).queue (or_parts (list_any (has_data_on s) (outgoing a.link.conn).queue) _ silent).0 in
      record {
        each = at_one s (λ old. new) a.link (λ k now. Fits d k now)
            (record {
              own = λ speaks_now open_now. absurd (false≢true (sym open_now));
              spent = λ now. done;
              early = λ now. absurd (false≢true (sym (ap is_before on) ∙ now));
            })
            (λ k apart. record {
              own = λ speaks_now open_now.
                  ap (λ (r : Sides). r.own) (sided.others k (λ same. false≢true (sym apart ∙ eq-eqb k s same)))
                  ∙ ((serves_at is).each k).own speaks_now open_now;
              spent = ((serves_at is).each k).spent;
              early = ((serves_at is).each k).early;
            });
        waits = within_more (without_stream s (set_of a.link)) (set_of y) (outgoing d)
            (at_one s (λ old. new) a.link (λ k now. (not (k == s) && may_wait (a.link.tunnels k)) ≡ true → may_wait now ≡ true)
            (λ some. absurd (itself_out s (set_of a.link) some))
            (λ k apart some. apart_of s k (set_of a.link) some))
            (ends_within (without_stream s (set_of a.link)) a.link.conn s
            (waits_without (set_of a.link) s (outgoing a.link.conn) none (serves_at is).waits));
      }

  done_waits : (s : ℕ) → a.link.phase ≡ serving → is_done_on a.link.conn s (a.link.tunnels s) ≡ true
      → Serves (at_stream s (left_with cause.Done) a.link)
  done_waits s is all =
      let t = a.link.tunnels s in
      let y = at_stream s (left_with cause.Done) a.link in
      let before = is_done t.ways.up && is_done t.ways.down && t.end_put in
      let ended = (and_parts (is_done t.ways.up && is_done t.ways.down) t.end_put (and_parts before _ all).0).1 in
      shut_serves a.link y a.link.conn s (left_with cause.Done t) (set_of a.link) refl
      (same_at s (left_with cause.Done) a.link) (serves_at is).waits (ended_no_wait t ended) (λ k apart some. some) (λ k apart. refl)
      (left_shut t (left_with cause.Done t) (inr (cause.Done, refl))) (serves_at is)

  -- a request is answered
  decided_waits : (s : ℕ) (answer : Verdict) (headers : HeaderList) (end : Bool) → a.link.phase ≡ serving
      → (a.link.tunnels s).stage ≡ requested headers end
      → Serves (at_stream s (λ t. tunnel_for answer headers end) a.link)
  decided_waits s answer headers end is on =
      let unended = ((serves_at is).each s).early (ap is_before on) in
      serves_on a.link (at_stream s (λ t. tunnel_for answer headers end) a.link) refl (λ k. refl)
      (at_one s (λ t. tunnel_for answer headers end) a.link (λ k t. IsGentle (a.link.tunnels k) t) (made answer end unended)
      (λ k apart. gentle_same (a.link.tunnels k)))
      (serves_at is)
    where
      fresh : (new : Tunnel) → new.end_put ≡ false → (a.link.tunnels s).end_put ≡ false → IsGentle (a.link.tunnels s) new
      fresh new none unended = record {
        own = λ speaks_now open_now. (ap speaks on, unended);
        waits = λ some. absurd (no_wait (a.link.tunnels s) (ap holds_data on) some);
        spent = λ was now. absurd (false≢true (sym none ∙ now));
        early = λ was now. none;
      }

      made : (answer : Verdict) (end : Bool) → (a.link.tunnels s).end_put ≡ false
          → IsGentle (a.link.tunnels s) (tunnel_for answer headers end)
      made (Status status) end unended = fresh _ refl unended
      made Reset end unended = fresh _ refl unended
      made (Dial target) true unended = fresh _ refl unended
      made (Dial target) false unended = fresh _ refl unended

  -- ENTRIES

  came_waits : (phase : Phase) (bytes : List ℕ) → WaitsIn phase a.link → WaitsIn phase (came_by phase bytes a.link)
  came_waits unborn bytes now = now
  came_waits arriving bytes now = now
  came_waits fronting bytes now = now
  came_waits serving bytes now =
      serves_on a.link (came_by serving bytes a.link) refl (λ k. refl) (λ k. gentle_same (a.link.tunnels k)) now
  came_waits (faulted code) bytes now = now
  came_waits (closing why) bytes now = tt
  came_waits closed bytes now = tt

  came_phase : (phase : Phase) (bytes : List ℕ) → (came_by phase bytes a.link).phase ≡ a.link.phase
  came_phase unborn bytes = refl
  came_phase arriving bytes = refl
  came_phase fronting bytes = refl
  came_phase serving bytes = refl
  came_phase (faulted code) bytes = refl
  came_phase (closing why) bytes = refl
  came_phase closed bytes = refl

  went_waits : (n : ℕ) (phase : Phase) → WaitsIn phase a.link → WaitsIn (went_by phase) (went n a.link)
  went_waits n unborn now = now
  went_waits n arriving now = now
  went_waits n fronting now = now
  went_waits n serving now =
      let d = observed.wrote a.link.conn n in
      calm_found a.link d now (went n a.link) refl (writes_within (set_of a.link) a.link.conn n now.waits)
      (λ k. ap (λ (r : Sides). r.own) (write_leaves_all a.link.conn n k))
      (λ k. up_ways (a.link.tunnels k) (with_begun n a.link.conn k (a.link.tunnels k)) refl refl refl)
  went_waits n (faulted code) now = tt
  went_waits n (closing why) now = tt
  went_waits n closed now = tt

  ended_waits : (phase : Phase) → a.link.phase ≡ phase → WaitsIn (ended_by phase a.link).phase (ended_by phase a.link)
  ended_waits unborn is = waits
  ended_waits arriving is = waits
  ended_waits fronting is = tt
  ended_waits serving is = tt
  ended_waits (faulted code) is = waits
  ended_waits (closing why) is = waits
  ended_waits closed is = waits

  broken_waits : (phase : Phase) → a.link.phase ≡ phase → WaitsIn (broken_by phase a.link).phase (broken_by phase a.link)
  broken_waits unborn is = waits
  broken_waits arriving is = waits
  broken_waits fronting is = tt
  broken_waits serving is = tt
  broken_waits (faulted code) is = tt
  broken_waits (closing why) is = waits
  broken_waits closed is = waits

  entry_waits : (x : Entry) → MayCome l a.link x → WaitsIn (entered x a.link).phase (entered x a.link)
  entry_waits (e.Accepted k d) may = subst (λ (ph : Phase). WaitsIn ph a.link) may.1 waits
  entry_waits (e.Came k bytes) may =
      subst (λ (ph : Phase). WaitsIn ph (came bytes a.link)) (sym (came_phase a.link.phase bytes)) (came_waits a.link.phase bytes waits)
  entry_waits (e.Ended k) may = ended_waits a.link.phase refl
  entry_waits (e.Went k bytes) may = went_waits (length bytes) a.link.phase waits
  entry_waits (e.Broke k) may = broken_waits a.link.phase refl
  entry_waits (e.Closed k why) may = tt
  entry_waits (e.Balked w) may = waits
  entry_waits (e.Dialled k to why) may = absurd may
  entry_waits (e.DialFailed to why) may = absurd may
  entry_waits (e.Opened k) may = absurd may
  entry_waits (e.Shut k) may = absurd may
  entry_waits e.Tick may = absurd may
  entry_waits (e.Wait ready how) may = absurd may

  -- an update, and the run's end
  judged_gentle : (b : Bool) (j : Judged) (t : Tunnel) → IsGentle t (cond b (judged_by j t) t)
  judged_gentle false j t = gentle_same t
  judged_gentle true Admitted t = gentle_same t
  judged_gentle true Unknown t = end_gentle cause.Revoked t refl
  judged_gentle true Denied t = end_gentle cause.Revoked t refl

  judged_new : (j : Tunnel → Judged) (t : Tunnel) → IsNew t → IsNew (cond (takes_place t.stage) (judged_by (j t) t) t)
  judged_new j t new = subst (λ (b : Bool). IsNew (cond b (judged_by (j t) t) t)) (sym (ap takes_place new.0)) new

  stopped_waits : (why : Cause) (phase : Phase) → WaitsIn phase a.link → WaitsIn (stops_by why phase) (stopped_for why a.link)
  stopped_waits why unborn now = λ s. (ap (ends_by why) (now s).0, (now s).1)
  stopped_waits why arriving now = tt
  stopped_waits why fronting now = tt
  stopped_waits why serving now = tt
  stopped_waits why (faulted code) now = now
  stopped_waits why (closing cause) now = tt
  stopped_waits why closed now = tt

  -- the header is whole: nothing waits but the opening
  fronted_waits : (y : Inbound) (behind : List ℕ) → y.conn ≡ taken fresh_server behind → y.tunnels ≡ a.link.tunnels
      → a.link.phase ≡ fronting → Serves y
  fronted_waits y behind conn tunnels is =
      let new = subst (λ (ph : Phase). WaitsIn ph a.link) is waits in
      record {
        each = λ s. subst (λ (f : ℕ → Tunnel). Fits y.conn s (f s)) (sym tunnels)
            (record {
              own = λ speaks_now open_now. absurd (false≢true (sym (ap speaks (new s).0) ∙ speaks_now));
              spent = λ now. absurd (false≢true (sym (new s).1 ∙ now));
              early = λ now. (new s).1;
            });
        waits = subst (λ (c : Connection). WaitsWithin (set_of y) (outgoing c)) (sym conn) (λ some. absurd (false≢true some), tt);
      }

  to : (b : Local) (y : Inbound) → b ≡ with_link y a → WaitsIn y.phase y → WaitsIn b.link.phase b.link
  to b y is now = subst (λ (c : Local). WaitsIn c.link.phase c.link) (sym is) now

  step_waits : (p : Part) (b : Local) → Steps l a p b → WaitsIn b.link.phase b.link
  step_waits (entry x) b steps = to b (entered x a.link) steps.1 (entry_waits x steps.0)
  step_waits (up s x) b steps =
      let gentle = up_gentle l s a.link x steps.0 in
      let y = at_stream s (up_entered x) a.link in
      to b y steps.1 (one_waits a.link y s (up_entered x) refl refl refl gentle.1 gentle.0 waits)
  step_waits welcomed b steps = to b (with_phase fronting a.link) steps.1 (subst (λ (ph : Phase). WaitsIn ph a.link) steps.0 waits)
  step_waits crowded b steps = to b (with_phase (closing cause.NoRoom) a.link) steps.1 tt
  step_waits lacked b steps = to b (lacking a.link) steps.1 tt
  step_waits (part.fronted seen) b steps =
      to b _ steps.4 (fronted_waits _ _ refl refl steps.0)
  step_waits (misfronted fault) b steps = to b _ steps.2 tt
  step_waits (looked ps told headers) b steps =
      to b (on_found told headers steps.2 a.link) steps.5
      (found_waits l a parts keeps ps told headers (chunk_of steps.2 told) steps.2 steps.3 steps.1 steps.0 (serves_at steps.0))
  step_waits (decided s full answer) b steps =
      let y = at_stream s (λ t. tunnel_for answer steps.1 steps.2) a.link in
      to b y steps.5 (serving_now y refl steps.0 (decided_waits s answer steps.1 steps.2 steps.0 steps.3))
  step_waits (accepted s made) b steps = to b _ steps.3 (serving_now _ refl steps.0 (accepted_waits s steps.0 steps.1))
  step_waits (refused s status resets made) b steps =
      to b _ steps.4 (serving_now _ refl steps.0 (refused_waits s status resets made steps.1 steps.0 steps.2))
  step_waits (reset s code made) b steps =
      to b _ steps.3 (serving_now _ refl steps.0 (reset_waits s code made steps.1 steps.0 steps.2))
  step_waits (left s made) b steps = to b _ steps.2 (left_waits s made steps.0 steps.1)
  step_waits (done s made) b steps = to b _ steps.3 (serving_now _ refl steps.0.0 (done_waits s steps.0.0 steps.1))
  step_waits (put s bytes) b steps =
      to b _ steps.3 (serving_now _ refl steps.0.0 (put_waits s bytes steps.0.0 steps.0.2 steps.1 steps.2))
  step_waits (finished s) b steps = to b _ steps.2 (serving_now _ refl steps.0.0 (finished_waits s steps.0.0 steps.0.2 steps.1))
  step_waits (credited s n) b steps = to b _ steps.3 (serving_now _ refl steps.0.0 (credited_waits s n steps.0.0))
  step_waits (applied r) b steps =
      let h = after_response a.held r in
      subst (λ (c : Local). WaitsIn c.link.phase c.link) (sym steps)
      (waits_on a.link.phase a.link (rejudged h a.link) refl
      (λ s. judged_gentle (takes_place (a.link.tunnels s).stage) (judged h a.link.peer (a.link.tunnels s).target) (a.link.tunnels s))
      (λ s new. judged_new (λ t. judged h a.link.peer t.target) (a.link.tunnels s) new) waits)
  step_waits (stopped why) b steps = to b (stopped_for why a.link) steps (stopped_waits why a.link.phase waits)

-- so it is of every run
pub all_wait : (l : ℕ) (start : Resources) (a : Local) (parts : List Part) → StandsFor l start a parts → WaitsIn a.link.phase a.link
all_wait l start a parts (begins is none) =
    subst (λ (c : Local). WaitsIn c.link.phase c.link) (sym is) (λ s. (refl, refl))
all_wait l start b more (goes_on {a = a} {parts = parts} before p steps grows) =
    step_waits l a parts (all_keep l start a parts before) (all_wait l start a parts before) p b steps
