-- What goes down on an inbound link of a lawful trace: one list of frames, whose DATA came from upstreams and is of admitted tunnels.
use Rattle.std.proofs.Common.{◌≡◌, ◌≢◌, inl, inr, ℕ, zero, suc, ◌+◌, ◌-◌, ◌==◌, not, Bool, true, false, cond, List, [], ◌∷◌, ◌++◌, length, drop, refl, ap, ap₂, sym, ◌∙◌, subst, arith, length-append}
use Rattle.std.specs.List.{AllByRecursion}
use Rattle.std.proofs.lemmas.Bool.{false≢true, and_parts}
use Rattle.std.proofs.lemmas.List.{append_assoc}
use Rattle.std.proofs.Math.Seq.{drop-append_seam}
use Rattle.hb_conn.specs.Observed.{outgoing, frames_begun}
use Rattle.hb_frames.specs.RawFrame.{RawFrame, spelling}
use Rattle.hb_inbound.proofs.Grown.{one_more}
use Rattle.hb_inbound.proofs.Waiting.{holds_data, set_of, WaitsIn}
use Rattle.hb_inbound.proofs.WaitingRun.{all_wait}
use Rattle.hb_inbound.specs.Inbound.{Inbound, Phase}
use Rattle.hb_inbound.specs.Part as part
use Rattle.hb_inbound.specs.Part.{Part}
use Rattle.hb_inbound.specs.Runs.{MayCome}
use Rattle.hb_inbound.specs.Sides.{went_in, link_went}
use Rattle.hb_inbound.specs.Tunnel.{Stage, unasked, requested, refusing, malformed, due, opening, accepting, live, failed, ended, over, gone, takes_place, is_unanswered}
use Rattle.hb_kept.proofs.Begun.{have_begun}
use Rattle.hb_kept.specs.DataWaits.{StreamSet, no_stream, WaitsWithin}
use Rattle.hb_kept.specs.Payloads.{Began, payloads}
use Rattle.hb_laws.proofs.Doors.{went_without, owner_without, came_without}
use Rattle.hb_laws.specs.Lawful.{Laws}
use Rattle.hb_model.specs.Messages.{held}
use Rattle.hb_model.specs.declared.config.NodeConfig.{NodeConfig}
use Rattle.hb_outgoing.specs.Selected.{has_data}
use Rattle.hb_outgoing.specs.Written.{begun_in}
use Rattle.hb_proxy.proofs.Owned.{all_owned}
use Rattle.hb_proxy.proofs.Projection.{links_run}
use Rattle.hb_proxy.proofs.Stays.{OwnsBy}
use Rattle.hb_proxy.specs.Doors.{without_doors}
use Rattle.hb_proxy.specs.Held.{at_start}
use Rattle.hb_proxy.specs.Machine.{Machine, local}
use Rattle.hb_proxy.specs.Owners.{Owner, owner, upstream_of, inbound_link}
use Rattle.hb_proxy.specs.Points.{Point, of_link, entries, control_of, parts_of}
use Rattle.hb_proxy.specs.Runs.{StandsFor}
use Rattle.hb_world.specs.Trace.{recv, sent}
use Rattle.hb_world.specs.declared.entry.Entry.{Entry}
use Rattle.hb_world.specs.declared.entry.Entry.TheVariants as e
use Rattle.hb_headline.specs.Access.{Admits, AreAdmitted}
use Rattle.hb_headline.specs.Relay.{IsFront, begun_on, begin_with}
use Rattle.hb_headline.proofs.Access.{admits_by}
use Rattle.hb_headline.proofs.Begun.{have_begun_in}
use Rattle.hb_headline.proofs.Front.{header_of}
use Rattle.hb_headline.proofs.OneLink.{IsOne, came_front, next}
use Rattle.hb_headline.proofs.OneList.{PlaceIs, new_on, begun_by_parts}
use Rattle.hb_headline.proofs.Relay.{none_first}

each_begun : (P : RawFrame → Type 0) (n : ℕ) (queue : List RawFrame) → AllByRecursion P queue → AllByRecursion P (begun_in n queue)
each_begun P zero queue each = tt
each_begun P (suc n) [] each = tt
each_begun P (suc n) (f ∷ queue) each = (each.0, each_begun P (suc n - length (spelling f)) queue each.1)

each_so : (P Q : RawFrame → Type 0) → ((f : RawFrame) → P f → Q f) → (fs : List RawFrame) → AllByRecursion P fs → AllByRecursion Q fs
each_so P Q so [] each = tt
each_so P Q so (f ∷ fs) each = (so f each.0, each_so P Q so fs each.1)

-- a tunnel that is answered and of which DATA may wait has a place
placed : (stage : Stage) → is_unanswered stage ≡ false → holds_data stage ≡ true → takes_place stage ≡ true
placed unasked calm some = some
placed (requested headers end) calm some = absurd (false≢true some)
placed (refusing status target) calm some = absurd (false≢true some)
placed malformed calm some = some
placed due calm some = refl
placed opening calm some = refl
placed accepting calm some = refl
placed live calm some = refl
placed (failed why) calm some = absurd (false≢true some)
placed (ended why) calm some = absurd (false≢true (sym calm))
placed (over why) calm some = some
placed gone calm some = some

-- it has the upstream that is its stream's
its_own : (whose : ℕ → Owner) (l s u v : ℕ) (stage : Stage)
    → ((a b : ℕ) → whose a ≡ upstream_of l s → whose b ≡ upstream_of l s → a ≡ b) → takes_place stage ≡ true
    → OwnsBy stage whose l s u → whose v ≡ upstream_of l s → u ≡ v
its_own whose l s u v due one place own mine = absurd (own.0 v mine)
its_own whose l s u v opening one place own mine = one u v own mine
its_own whose l s u v accepting one place own mine = one u v own mine
its_own whose l s u v live one place own mine = one u v own mine
its_own whose l s u v _ one place own mine = absurd (false≢true place)

-- AT A FRONT of the run, and of its trace
module _ (g : NodeConfig) (x : Machine) (front : List Point) (run : StandsFor g x front) (before : List Entry)
    (before_is : entries front ≡ without_doors before) (laws : Laws g front) (l : ℕ)
  where
    abbrev link : Inbound
    link = x.inbound l

    abbrev parts : List Part
    parts = parts_of l front

    same_owner : (n : ℕ) → owner n (entries front) ≡ owner n before
    same_owner n = ap (owner n) before_is ∙ owner_without n before

    -- the frames that have begun there are in front of those that begin later
    module _ (frames old later : List RawFrame) (is : frames ≡ old ++ later) (one : IsOne parts link old) where
      pub begun_same : owner l before ≡ inbound_link → begun_on l frames before ≡ old
      begun_same own =
          let went : link_went parts ≡ sent l before =
          sym (laws.sides.link l (same_owner l ∙ own)).went ∙ ap (sent l) before_is ∙ went_without l before in
          let w = outgoing link.conn in
          ap (begun_in (length (sent l before))) is
          ∙ have_begun_in (sent l before) old later
          (subst (λ (bs : List ℕ). Began bs old) went (have_begun (link_went parts) w.rest old w.begun one.shows one.ends))

      pub relayed : (s u : ℕ) → owner u before ≡ upstream_of l s → IsFront (payloads s (begun_on l frames before)) (recv u before)
      relayed s u mine =
          let on_front = same_owner u ∙ mine in
          let own = sym (same_owner l) ∙ (all_owned g x front run).over l s u on_front in
          let came = came_front parts old link.conn s (link.tunnels s) (one.sends s) in
          record {
            rest = came.0;
            is = sym (ap (recv u) before_is ∙ came_without u before) ∙ (laws.sides.up l s u on_front).came ∙ came.1
                ∙ ap (λ (fs : List RawFrame). payloads s fs ++ came.0) (sym (begun_same own));
          }

      pub unasked_none : owner l before ≡ inbound_link → (s : ℕ) → ((u : ℕ) → owner u before ≢ upstream_of l s)
          → payloads s (begun_on l frames before) ≡ []
      unasked_none own s nobody =
          let came = came_front parts old link.conn s (link.tunnels s) (one.sends s) in
          ap (payloads s) (begun_same own)
          ∙ none_first (payloads s old) came.0
          (sym (laws.sides.none l s (λ u mine. nobody u (sym (same_owner u) ∙ mine))).came ∙ came.1)

    -- where bytes go
    tunnel_admitted : (s : ℕ) → takes_place (link.tunnels s).stage ≡ true → (v : ℕ) → owner v before ≡ upstream_of l s
        → Admits (held g (control_of front)) before l s v
    tunnel_admitted s is_placed v mine =
        let owned = all_owned g x front run in
        let up_is = its_own (λ n. owner n (entries front)) l s (link.tunnels s).up v (link.tunnels s).stage
        (λ a b p q. owned.one l s a b p q)
        is_placed (owned.up l s) (same_owner v ∙ mine) in
        admits_by g x front run before before_is laws l s v mine up_is is_placed (header_of parts) refl

    within : (n : ℕ) (set : StreamSet) → WaitsWithin set (outgoing link.conn)
        → ((s : ℕ) → set s ≡ true → takes_place (link.tunnels s).stage ≡ true)
        → AreAdmitted (held g (control_of front)) before l (frames_begun n link.conn)
    within n set waits places =
        each_so (λ f. has_data f ≡ true → set f.stream ≡ true)
        (λ f. has_data f ≡ true → (v : ℕ) → owner v before ≡ upstream_of l f.stream
        → Admits (held g (control_of front)) before l f.stream v)
        (λ f inside some. tunnel_admitted f.stream (places f.stream (inside some))) (frames_begun n link.conn)
        (each_begun (λ f. has_data f ≡ true → set f.stream ≡ true) _ (outgoing link.conn).queue waits)

    begins_admitted : (k : ℕ) (bytes : List ℕ) → MayCome l link (e.Went k bytes)
        → AreAdmitted (held g (control_of front)) before l (frames_begun (length bytes) link.conn)
    begins_admitted k bytes (is, inl quiet, some, rest) =
        let serves = subst (λ (ph : Phase). WaitsIn ph link) quiet.1
        (all_wait l (at_start g) (local x l) parts (links_run g x front l run)) in
        within (length bytes) (set_of link) serves.waits
        (λ s wait. placed (link.tunnels s).stage (quiet.0.calm.answered s)
        (and_parts (not (link.tunnels s).end_put) (holds_data (link.tunnels s).stage) wait).1)
    begins_admitted k bytes (is, inr fault, some, rest) =
        let none = subst (λ (ph : Phase). WaitsIn ph link) fault.2
        (all_wait l (at_start g) (local x l) parts (links_run g x front l run)) in
        within (length bytes) no_stream none (λ s wait. absurd (false≢true wait))

-- WHERE BYTES GO on the link
itself : (l : ℕ) → (l == l) ≡ true
itself l = grind arith

pub down_admitted : (g : NodeConfig) (l : ℕ) (frames : List RawFrame) (front : List Point) (before : List Entry) (bytes : List ℕ)
    → PlaceIs g l frames front (of_link l (part.entry (e.Went l bytes))) → entries front ≡ without_doors before → Laws g front
    → owner l before ≡ inbound_link → AreAdmitted (held g (control_of front)) before l (begin_with bytes l frames before)
down_admitted g l frames front before bytes at before_is laws own =
    let x = at.machine in
    let p = part.entry (e.Went l bytes) in
    let new = frames_begun (length bytes) (x.inbound l).conn in
    let new_is : new_on l x (of_link l p) ≡ new = ap (λ (b : Bool). begun_by_parts (local x l) (cond b (p ∷ []) [])) (itself l) in
    let all : frames ≡ (at.old ++ new) ++ at.later =
    at.is ∙ ap (λ (fs : List RawFrame). (at.old ++ fs) ++ at.later) new_is in
    let y = at.steps.0 in
    let one = next l (at_start g) (local x l) (parts_of l front) (links_run g x front l at.run) at.old at.one p _ at.steps.1 in
    let w = outgoing y.conn in
    let went : link_went (parts_of l front ++ p ∷ []) ≡ sent l before ++ bytes =
    one_more went_in (parts_of l front) p
    ∙ ap (λ (bs : List ℕ). bs ++ bytes)
    (sym (laws.sides.link l (ap (owner l) before_is ∙ owner_without l before ∙ own)).went ∙ ap (sent l) before_is
    ∙ went_without l before) in
    let begun : begun_in (length (sent l before) + length bytes) frames ≡ at.old ++ new =
    ap (λ (n : ℕ). begun_in n frames) (sym (length-append (sent l before) bytes))
    ∙ ap (begun_in (length (sent l before ++ bytes))) all
    ∙ have_begun_in (sent l before ++ bytes) (at.old ++ new) at.later
    (subst (λ (bs : List ℕ). Began bs (at.old ++ new)) went
    (have_begun (link_went (parts_of l front ++ p ∷ [])) w.rest (at.old ++ new) w.begun one.shows one.ends)) in
    let was : begun_on l frames before ≡ at.old =
    begun_same g x front at.run before before_is laws l frames at.old (new ++ at.later) (all ∙ append_assoc at.old new at.later) at.one
    own in
    subst (AreAdmitted (held g (control_of front)) before l)
    (sym (ap₂ (λ (fs gs : List RawFrame). drop (length fs) gs) was begun ∙ drop-append_seam at.old new))
    (begins_admitted g x front at.run before before_is laws l l bytes at.steps.1.0)
