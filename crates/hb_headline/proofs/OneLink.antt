-- One list of the frames that begin on an inbound link, as its run goes on.
use Rattle.std.proofs.Common.{◌≡◌, ◌⊎◌, inl, inr, ℕ, ◌≤◌, Bool, true, false, List, [], ◌∷◌, ◌++◌, length, take, drop, Option, refl, ap, ap₂, sym, ◌∙◌, subst, arith, length-append}
use Rattle.std.proofs.lemmas.Grind.{flat_map-append}
use Rattle.std.proofs.lemmas.List.{append_assoc, append-nil, nil_from_length}
use Rattle.std.proofs.Math.Seq.{take-append_seam}
use Rattle.hb_conn.specs.Connection.{Connection, taken}
use Rattle.hb_conn.specs.Observed as observed
use Rattle.hb_conn.specs.Observed.{outgoing, frames_begun, creditable, status_put, aborted}
use Rattle.hb_conn.specs.declared.found.Found.{Found}
use Rattle.hb_conn.specs.declared.found.Found.TheVariants as found
use Rattle.hb_frames.specs.RawFrame.{RawFrame}
use Rattle.hb_held.specs.Held.{Resources}
use Rattle.hb_history.specs.Calls.{Makes, acts}
use Rattle.hb_history.specs.Points as history
use Rattle.hb_history.proofs.Connections.{wrote_leaves}
use Rattle.hb_hpack.specs.declared.header.HeaderList.{HeaderList}
use Rattle.hb_inbound.proofs.Grown.{one_more}
use Rattle.hb_inbound.proofs.Runs.{FrontBy, all_keep}
use Rattle.hb_inbound.proofs.Sending.{is_early, Sends, begins_down}
use Rattle.hb_inbound.proofs.SendsRun.{AllSend, all_send}
use Rattle.hb_inbound.specs.Calm.{output, output_by}
use Rattle.hb_inbound.specs.Inbound.{Inbound, Phase, fronting, serving, faulted, came_by, ended_by, broken_by, on_found}
use Rattle.hb_inbound.specs.Part.{Part, entry, up, welcomed, crowded, lacked, misfronted, looked, decided, accepted, refused, reset, left, done, put, finished, credited, applied, stopped, moves, tellings}
use Rattle.hb_inbound.specs.Part as part
use Rattle.hb_inbound.specs.Runs.{Local, IsWritable, entered, Steps, StandsFor, goes_on, with_link, refused_on}
use Rattle.hb_inbound.specs.Sides.{went_in, link_went, conn_came, up_came_in, up_came}
use Rattle.hb_inbound.specs.Tunnel.{Tunnel}
use Rattle.hb_kept.specs.Payloads.{payload_on, payloads}
use Rattle.hb_kept.proofs.Begun.{EndsIn, EndsBegun, found_leaves, act_leaves_begun, wrote_ends}
use Rattle.hb_kept.proofs.Payloads.{writes_follow}
use Rattle.hb_outgoing.specs.declared.head.Head.{Head}
use Rattle.hb_outgoing.specs.Laws.{Shows}
use Rattle.hb_outgoing.proofs.Sent.{write_begins}
use Rattle.hb_streams.specs.declared.role.Role.TheVariants.{Server}
use Rattle.hb_world.specs.declared.entry.Entry.{Entry}
use Rattle.hb_world.specs.declared.entry.Entry.TheVariants as e
use Rattle.hb_headline.proofs.Relay.{none_first}
use Rattle.hb_headline.proofs.Tunnels.{Counts, Makes as Turns, same_counts, makes}

-- these frames have begun: what went, and what waits of the last one, are their octets, and each tunnel's bytes are in them
pub record IsOne (parts : List Part) (x : Inbound) (begun : List RawFrame) : Type 0 where
  pub shows : Shows [] (link_went parts) begun (outgoing x.conn)
  pub ends : EndsBegun begun (outgoing x.conn)
  pub sends : (s : ℕ) → Sends parts begun x.conn s (x.tunnels s)

-- those that begin with a part
abbrev pub begun_with : Local → Part → List RawFrame
begun_with a (entry (e.Went k bytes)) = frames_begun (length bytes) a.link.conn
begun_with a _ = []

-- WHAT WAITS of the last frame stays where nothing goes

abbrev Rests : Connection → Connection → Type 0
Rests c d = ((outgoing d).rest ≡ (outgoing c).rest) × ((outgoing d).begun ≡ (outgoing c).begun)

-- of each part but bytes that go
abbrev Unless : Part → Type 0 → Type 0
Unless (entry (e.Went k bytes)) P = Unit {0}
Unless _ P = P

-- FRONTS of one list that are as long are the same
pub same_fronts : (xs ys more others : List ℕ) → xs ++ more ≡ ys ++ others → length xs ≡ length ys → xs ≡ ys
same_fronts xs ys more others is size =
    sym (take-append_seam xs more) ∙ ap (take (length xs)) is ∙ ap (λ (n : ℕ). take n (ys ++ others)) size ∙ take-append_seam ys others

-- what came from an upstream begins with the DATA that has begun
pub came_front : (parts : List Part) (begun : List RawFrame) (c : Connection) (s : ℕ) (t : Tunnel) → Sends parts begun c s t
    → (rest : List ℕ) × (up_came s parts ≡ payloads s begun ++ rest)
came_front parts begun c s t is = (
  payloads s (outgoing c).queue ++ is.follows.rest,
  is.follows.front ∙ ap (λ (xs : List ℕ). xs ++ is.follows.rest) (flat_map-append (payload_on s) begun (outgoing c).queue)
      ∙ append_assoc (payloads s begun) (payloads s (outgoing c).queue) is.follows.rest,
)

-- the same is said of frames with the same DATA
resends : (parts : List Part) (old new : List RawFrame) (c : Connection) (s : ℕ) (t : Tunnel) → payloads s old ≡ payloads s new
    → Sends parts old c s t → Sends parts new c s t
resends parts old new c s t same is =
    let queue = (outgoing c).queue in
    record {
      follows = record {
        rest = is.follows.rest;
        front = is.follows.front
            ∙ ap (λ (xs : List ℕ). xs ++ is.follows.rest)
            (flat_map-append (payload_on s) old queue ∙ ap (λ (xs : List ℕ). xs ++ payloads s queue) same
            ∙ sym (flat_map-append (payload_on s) new queue));
        goes = is.follows.goes;
        unused = is.follows.unused;
      };
      early = is.early;
      counts = is.counts ∙ ap length same;
      ended = is.ended;
    }

-- the DATA that has begun on a stream stays where its count does, or where nothing came yet
begun_stays : (parts : List Part) (p : Part) (old new : List RawFrame) (c d : Connection) (s : ℕ) (t u : Tunnel)
    → Sends parts old c s t → Sends (parts ++ p ∷ []) new d s u → Counts t u → payloads s new ≡ payloads s old
begun_stays parts p old new c d s t u was now (inr same) =
    let before = came_front parts old c s t was in
    let after = came_front (parts ++ p ∷ []) new d s u now in
    same_fronts (payloads s new) (payloads s old) after.0 (before.0 ++ up_came_in s p)
    (sym after.1 ∙ one_more (up_came_in s) parts p ∙ ap (λ (xs : List ℕ). xs ++ up_came_in s p) before.1
    ∙ append_assoc (payloads s old) before.0 (up_came_in s p))
    (sym now.counts ∙ same ∙ was.counts)
begun_stays parts p old new c d s t u was now (inl begins) =
    let before = came_front parts old c s t was in
    nil_from_length (payloads s new) (sym now.counts ∙ begins.went)
    ∙ sym (none_first (payloads s old) before.0 (sym (none begins.early) ∙ before.1))
  where
    none : (is_early t.stage ≡ true) ⊎ (is_early u.stage ≡ true) → up_came s parts ≡ []
    none (inl early) = (was.early early).1
    none (inr early) =
        none_first (up_came s parts) (up_came_in s p) (sym (now.early early).1 ∙ one_more (up_came_in s) parts p)

-- ONE PART MORE
module _ (l : ℕ) (start : Resources) (a : Local) (parts : List Part) (stands : StandsFor l start a parts) where
  abbrev conn : Connection
  conn = a.link.conn

  acts_rest : (m : history.Move) (d : Connection) → Makes conn (acts m) d → Rests conn d
  acts_rest m d makes =
      act_leaves_begun (λ (r : List ℕ) (h : Option Head). (r ≡ (outgoing conn).rest) × (h ≡ (outgoing conn).begun)) conn d
      (history.point m found.Silent) makes.0 makes.1 (refl, refl)

  refusal_rests : (s status : ℕ) (resets : Bool) → Rests conn (refused_on s status resets conn)
  refusal_rests s status false =
      acts_rest (history.answered s (record { number = status; end = true })) (refused_on s status false conn) (tt, (refl, refl), refl)
  refusal_rests s status true =
      let c = status_put conn s (record { number = status; end = true }) in
      act_leaves_begun (λ (r : List ℕ) (h : Option Head). (r ≡ (outgoing conn).rest) × (h ≡ (outgoing conn).begun)) c (aborted c s 0)
      (history.point (history.reset s 0) found.Silent) tt (refl, refl)
      (acts_rest (history.answered s (record { number = status; end = true })) c (tt, (refl, refl), refl))

  came_rests : (phase : Phase) (bytes : List ℕ) → Rests conn (came_by phase bytes a.link).conn
  came_rests fronting bytes = (refl, refl)
  came_rests serving bytes = (refl, refl)
  came_rests _ bytes = (refl, refl)

  ended_rests : (phase : Phase) → Rests conn (ended_by phase a.link).conn
  ended_rests fronting = (refl, refl)
  ended_rests serving = (refl, refl)
  ended_rests _ = (refl, refl)

  broken_rests : (phase : Phase) → Rests conn (broken_by phase a.link).conn
  broken_rests fronting = (refl, refl)
  broken_rests serving = (refl, refl)
  broken_rests (faulted code) = (refl, refl)
  broken_rests _ = (refl, refl)

  entry_rests : (z : Entry) → Unless (entry z) (Rests conn (entered z a.link).conn)
  entry_rests (e.Came k bytes) = came_rests a.link.phase bytes
  entry_rests (e.Ended k) = ended_rests a.link.phase
  entry_rests (e.Broke k) = broken_rests a.link.phase
  entry_rests (e.Went k bytes) = tt
  entry_rests _ = (refl, refl)

  told_rests : (told : Found) (headers : HeaderList) (d : Connection) → Rests conn d → Rests conn (on_found told headers d a.link).conn
  told_rests found.Silent headers d rests = rests
  told_rests _ headers d rests = rests

  to : (p : Part) (b : Local) (y : Inbound) → b ≡ with_link y a → Unless p (Rests conn y.conn) → Unless p (Rests conn b.link.conn)
  to p b y is rests = subst (λ (c : Local). Unless p (Rests conn c.link.conn)) (sym is) rests

  rests : (p : Part) (b : Local) → Steps l a p b → Unless p (Rests conn b.link.conn)
  rests (entry z) b steps = to (entry z) b _ steps.1 (entry_rests z)
  rests (up k z) b steps = to (up k z) b _ steps.1 (refl, refl)
  rests welcomed b steps = to welcomed b _ steps.1 (refl, refl)
  rests crowded b steps = to crowded b _ steps.1 (refl, refl)
  rests lacked b steps = to lacked b _ steps.1 (refl, refl)
  rests (part.fronted seen) b steps =
      let front = subst (λ (ph : Phase). FrontBy ph parts a.link) steps.0 (all_keep l start a parts stands).front in
      to (part.fronted seen) b _ steps.4
      (subst (λ (c : Connection). Rests conn (taken c (drop seen.length a.link.front))) front.0.conn (refl, refl))
  rests (misfronted fault) b steps = to (misfronted fault) b _ steps.2 (refl, refl)
  rests (looked ps told headers) b steps =
      to (looked ps told headers) b _ steps.5
      (told_rests told headers steps.2
      (found_leaves (λ (r : List ℕ) (h : Option Head). (r ≡ (outgoing conn).rest) × (h ≡ (outgoing conn).begun)) conn steps.2 told
      steps.3.finds (refl, refl)))
  rests (decided s full answer) b steps = to (decided s full answer) b _ steps.5 (refl, refl)
  rests (accepted s made) b steps =
      to (accepted s made) b _ steps.3
      (acts_rest (history.answered s (record { number = 200; end = false }))
      (status_put conn s (record { number = 200; end = false })) (tt, (refl, refl), refl))
  rests (refused s status resets made) b steps =
      to (refused s status resets made) b _ steps.4 (refusal_rests s status resets)
  rests (reset s code made) b steps =
      to (reset s code made) b _ steps.3 (acts_rest (history.reset s code) (aborted conn s code) (tt, (refl, refl), refl))
  rests (left s made) b steps = to (left s made) b _ steps.2 (refl, refl)
  rests (done s made) b steps = to (done s made) b _ steps.3 (refl, refl)
  rests (put s bytes) b steps =
      to (put s bytes) b _ steps.3 (acts_rest (history.put s bytes) (observed.data_put conn s bytes) (tt, (refl, refl), refl))
  rests (finished s) b steps =
      to (finished s) b _ steps.2 (acts_rest (history.ended s) (observed.end_put conn s) (tt, (refl, refl), refl))
  rests (credited s n) b steps =
      let within : n ≤ creditable conn s = omega (arith, steps.2) in
      to (credited s n) b _ steps.3
      (acts_rest (history.credited s n) (observed.credited conn s n) (tt, (within, (refl, refl)), refl))
  rests (applied r) b steps = subst (λ (c : Local). Rests conn c.link.conn) (sym steps) (refl, refl)
  rests (stopped why) b steps = to (stopped why) b _ steps (refl, refl)

  module _ (begun : List RawFrame) (one : IsOne parts a.link begun) where
    -- no frame begins with a part by which nothing goes
    quiet : (p : Part) (b : Local) → Steps l a p b → went_in p ≡ [] → Rests conn b.link.conn
        → ((s : ℕ) → Counts (a.link.tunnels s) (b.link.tunnels s)) → IsOne (parts ++ p ∷ []) b.link begun
    quiet p b steps none rests same =
        let all : AllSend (parts ++ p ∷ []) b.link = all_send l start b (parts ++ p ∷ []) (goes_on stands p steps refl) in
        record {
          shows = ap₂ (λ (xs ys : List ℕ). xs ++ ys)
              (one_more went_in parts p ∙ ap (λ (bs : List ℕ). link_went parts ++ bs) none ∙ append-nil (link_went parts)) rests.0
              ∙ one.shows;
          ends = subst (λ (r : List ℕ). EndsIn begun r (outgoing b.link.conn).begun) (sym rests.0)
              (subst (λ (h : Option Head). EndsIn begun (outgoing conn).rest h) (sym rests.1) one.ends);
          sends = λ s.
              resends (parts ++ p ∷ []) all.begun begun b.link.conn s (b.link.tunnels s)
              (begun_stays parts p begun all.begun conn b.link.conn s (a.link.tunnels s) (b.link.tunnels s) (one.sends s) (all.sends s)
              (same s))
              (all.sends s);
        }

    -- those begin whose first octet goes
    went : (k : ℕ) (bytes rest : List ℕ) → observed.output conn ≡ bytes ++ rest
        → IsOne (parts ++ entry (e.Went k bytes) ∷ []) (entered (e.Went k bytes) a.link) (begun ++ frames_begun (length bytes) conn)
    went k bytes rest is =
        let p = entry (e.Went k bytes) in
        let n = length bytes in
        let within : n ≤ length (observed.output conn) = omega (arith, ap length is, length-append bytes rest) in
        let whole : take n (observed.output conn) ≡ bytes = ap (take n) is ∙ take-append_seam bytes rest in
        let shown = (write_begins [] (link_went parts) begun (outgoing conn) n within one.shows).0 in
        let keeps = all_keep l start a parts stands in
        record {
          shows = ap₂ (λ (xs ys : List ℕ). xs ++ ys)
              (one_more went_in parts p ∙ ap (λ (bs : List ℕ). link_went parts ++ bs) (sym whole)) (wrote_leaves conn n)
              ∙ shown;
          ends = wrote_ends begun conn n one.ends;
          sends = λ s.
              let follows =
              writes_follow Server (moves parts) (tellings parts) (conn_came parts) (link_went parts) conn keeps.one.stands s n begun
              (up_came s parts) (a.link.tunnels s).ways.down.held (one.sends s).follows in
              begins_down parts p begun (frames_begun n conn) (observed.wrote conn n) s (a.link.tunnels s) _ refl follows refl refl refl
              conn
              (one.sends s);
        }

    written : (may : IsWritable a.link) (bytes rest : List ℕ) → output a.link ≡ bytes ++ rest → observed.output conn ≡ bytes ++ rest
    written (inl may) bytes rest is = sym (ap (λ (ph : Phase). output_by ph a.link) may.1) ∙ is
    written (inr may) bytes rest is = sym (ap (λ (ph : Phase). output_by ph a.link) may.2) ∙ is

    pub next : (p : Part) (b : Local) → Steps l a p b → IsOne (parts ++ p ∷ []) b.link (begun ++ begun_with a p)
    next (entry (e.Went k bytes)) b steps =
        subst (λ (c : Local). IsOne (parts ++ entry (e.Went k bytes) ∷ []) c.link (begun ++ frames_begun (length bytes) conn)) (sym steps.1)
        (went k bytes steps.0.3.0 (written steps.0.1 bytes steps.0.3.0 steps.0.3.1))
    next (up k z) b steps =
        subst (IsOne (parts ++ up k z ∷ []) b.link) (sym (append-nil begun))
        (quiet (up k z) b steps refl (rests (up k z) b steps) (λ s. by s (makes s l a b (up k z) steps)))
      where
        by : (s : ℕ) → Turns l s (up k z) (a.link.tunnels s) (b.link.tunnels s) → Counts (a.link.tunnels s) (b.link.tunnels s)
        by s (inl same) = same_counts (a.link.tunnels s) (b.link.tunnels s) same
        by s (inr dial) = inr dial.went
    next p b steps =
        subst (IsOne (parts ++ p ∷ []) b.link) (sym (append-nil begun))
        (quiet p b steps refl (rests p b steps)
        (λ s. same_counts (a.link.tunnels s) (b.link.tunnels s) (makes s l a b p steps)))
