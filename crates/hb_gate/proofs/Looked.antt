-- A look at what came on a link.
use Rattle.std.proofs.Common.{◌≡◌, ◌≢◌, inl, inr, ℕ, ◌+◌, ◌<◌, ◌≤◌, ◌==◌, Bool, true, false, cond, is_some, IsSome, List, Option, Some, None, refl, ap, ap₂, sym, ◌∙◌, subst, arith}
use Rattle.std.specs.Prelude.{nat_lt, nat_le}
use Rattle.std.specs.FinMap.{get}
use Rattle.std.specs.List.{flat_map}
use Rattle.std.proofs.lemmas.Bool.{cases_eq, eq-eqb, false≢true, ne_eqb}
use Rattle.std.proofs.lemmas.Bool.Decides.{nat_tests}
use Rattle.hb_base.specs.declared.cause.Cause.{Cause}
use Rattle.hb_base.specs.declared.cause.Cause.TheVariants as cause
use Rattle.hb_conn.specs.Connection.{Connection, Finds, LeavesLess, left_of}
use Rattle.hb_conn.specs.Loan.{Shows as Tells}
use Rattle.hb_conn.specs.Observed.{chunk_of}
use Rattle.hb_conn.specs.Outcome.{is_silent}
use Rattle.hb_conn.specs.declared.found.Found.{Found}
use Rattle.hb_conn.specs.declared.found.Found.TheVariants as found
use Rattle.hb_conn.specs.declared.happening.Happening.{Happening}
use Rattle.hb_conn.specs.declared.happening.Happening.TheVariants as happening
use Rattle.hb_frames.specs.Numbers.{largest}
use Rattle.hb_history.specs.Points as history
use Rattle.hb_history.specs.Points.{data_in}
use Rattle.hb_hpack.specs.declared.header.HeaderList.{HeaderList}
use Rattle.hb_kept.specs.Kept.{Fares, IsKept}
use Rattle.hb_kept.specs.Looks as looks
use Rattle.hb_kept.proofs.Looks.{looks as found_by_looks}
use Rattle.hb_model.specs.Discovery.{headers_read, status_of}
use Rattle.hb_gateway.specs.Calm.{is_failing}
use Rattle.hb_gateway.specs.Gateway.{Gateway, at_stage, at_stream, is_active, phase_by, away_by, on_found}
use Rattle.hb_gateway.specs.Gateway as m
use Rattle.hb_gateway.specs.Hears.{after, hearing, left_behind}
use Rattle.hb_gateway.specs.Part.{Part, looked}
use Rattle.hb_gateway.specs.Response as r
use Rattle.hb_gateway.specs.Response.{fails, failed, headed, brought, ended, heard_of, left_by}
use Rattle.hb_gateway.specs.Runs.{StandsFor}
use Rattle.hb_gate.specs.Calls.{MayLook, LooksInto, LooksTold, TellsOf}
use Rattle.hb_gate.specs.Hearing.{reply_of, look_by, look_here, left_here, told_of, bytes_told, look_of, Follows}
use Rattle.hb_gate.specs.Looking.{Looks, is_more, left_to_look}
use Rattle.hb_gate.specs.Shows.{Shows, ShowsBy, ShowsStream}
use Rattle.hb_gate.specs.Streams.{Map, ChangesAt, EndsFrom}
use Rattle.hb_gate.specs.declared.gate.Gate.{Gate}
use Rattle.hb_gate.specs.declared.hearing.Reply.{Reply}
use Rattle.hb_gate.specs.declared.hearing.Reply.TheVariants as reply
use Rattle.hb_gate.specs.declared.hearing.Word.{Word}
use Rattle.hb_gate.specs.declared.hearing.Word.TheVariants as word
use Rattle.hb_gate.specs.declared.looking.Look.{Look}
use Rattle.hb_gate.specs.declared.looking.Told.{Told}
use Rattle.hb_gate.specs.declared.looking.Told.TheVariants as words
use Rattle.hb_gate.specs.declared.phase.Phase.TheVariants.{Faulted}
use Rattle.hb_gate.specs.declared.stream.Stream.{Stream}
use Rattle.hb_gate.proofs.Fares.{calm_behind, reached, looks_to, fares_look}
use Rattle.hb_gate.proofs.Streams.{some_end, all_end, some_before}
use Rattle.hb_gate.proofs.Words.{heard_as, fails_to, heard_for, matches, none_heard, calm_settled, told_one, here_shown, gone_shown}

-- one stream changes, of the code's and of the machine's
at_one : (s : ℕ) (o : Option Stream) (old new : Map) → ChangesAt s o old new → (others : ℕ → m.Stream) → ShowsStream o (others s)
    → ((j : ℕ) → j ≢ s → ShowsStream (get old j) (others j)) → (j : ℕ) → ShowsStream (get new j) (others j)
at_one s o old new changed others here each j = elim (cases_eq j s) [
  | inl same ↦
      subst (λ (i : ℕ). ShowsStream (get new i) (others i)) (sym same)
      (subst (λ (p : Option Stream). ShowsStream p (others s)) (sym changed.here) here)
  | inr apart ↦ subst (λ (p : Option Stream). ShowsStream p (others j)) (sym (changed.others j apart)) (each j apart)
]

-- a stream behind what it hears
abbrev heard_so : Part → Option r.Heard → m.Stream → m.Stream
heard_so p heard t = hearing (after p t.stage heard) heard t

-- what a stream hears behind which it isn't to be reset settles nothing
settles : (p : Part) (active : Bool) (heard : Option r.Heard) (t : m.Stream) → is_failing (after p t.stage heard) ≡ false
    → at_stage (m.settled active (after p t.stage heard)) (heard_so p heard t) ≡ heard_so p heard t
settles p active heard t calm =
    ap (λ (st : r.Stage). at_stage st (heard_so p heard t)) (calm_settled active (after p t.stage heard) calm)

-- WHAT IS TOLD OF ONE STREAM is this word there
record IsOn (c : Connection) (told : Found) (s : ℕ) (w : Word) : Type 0 where
  hears : (octets : List ℕ) (j : ℕ) (st : r.Stage) → heard_of j st (headers_read c) octets told ≡ cond (s == j) (heard_as octets st w) None
  left : (why : Cause) → left_by told why ≡ fails_to w
  phase : (phase : m.Phase) → phase_by phase told ≡ phase
  away : (away : Bool) → away_by away told ≡ away
  fares : looks.FaresBehind told c → Fares c

-- a link that looks, and the connection behind what was found
module _ (k : Gate) (c : Connection) (x : Gateway) (parts : List Part) (stands : StandsFor k.number x parts) (shows : Shows k x)
    (may : MayLook x) where
  way : ShowsBy m.serving k x
  way = subst (λ (phase : m.Phase). ShowsBy phase k x) may.serves shows.way

  looked_here : (told : Found) → Finds k.conn c told → looks.Looked x.conn told c
  looked_here told finds =
      found_by_looks x.conn c told may.fares (subst (λ (d : Connection). Finds d c told) (sym way.0) finds)

  abbrev behind : Found → List history.Point → Gateway
  behind told ps = reached k.number x parts stands may c told ps

  looks_into : (told : Found) (look : looks.Looked x.conn told c) → LooksInto k.number x (behind told look.points)
  looks_into told look = record {
    looks = record {
      points = look.points;
      told = told;
      headers = headers_read c;
      looks = looks_to k.number x parts stands may c told look;
    };
    fares = fares_look k.number x parts stands may c told look;
  }

  -- while it serves the code shows it with its streams
  shows_on : (told : Found) (ps : List history.Point) (others : ℕ → m.Stream) (streams : Map) (away : Bool)
      → phase_by x.phase told ≡ x.phase → away_by x.away told ≡ away → IsKept c
      → ((j : ℕ) → ShowsStream (get streams j) (others j)) → ((j : ℕ) → IsSome (get streams j) → j ≤ largest)
      → Shows (record k { conn = c; streams = streams; away = away }) (record (behind told ps) { streams = others })
  shows_on told ps others streams away is away_is is_kept shown numbered =
      let new = record k { conn = c; streams = streams; away = away } in
      let y = record (behind told ps) { streams = others } in
      record {
        key = shows.key;
        phase = is ∙ shows.phase;
        way = subst (λ (phase : m.Phase). ShowsBy phase new y) (sym (is ∙ may.serves)) (refl, is_kept, way.2);
        away = away_is;
        streams = shown;
        numbered = numbered;
      }

  -- a stream behind what it hears
  abbrev one : Part → ℕ → Option r.Heard → m.Stream
  one p j heard = at_stage (m.settled (is_active c j) (after p (m.stage_of x j) heard)) (heard_so p heard (x.streams j))

  one_still : (p : Part) (j : ℕ) → one p j None ≡ x.streams j
  one_still p j = settles p (is_active c j) None (x.streams j) (may.reset j)

  -- one whose tunnel ends, and which isn't to be reset
  one_ends : (p : Part) (j : ℕ) (why : Cause) → ((why : Cause) → left_behind p why ≡ r.over)
      → one p j (failed why (m.stage_of x j)) ≡ heard_so p (failed why (m.stage_of x j)) (x.streams j)
  one_ends p j why left =
      settles p (is_active c j) (failed why (m.stage_of x j)) (x.streams j)
      (calm_behind p (m.stage_of x j) (failed why (m.stage_of x j)) left (may.reset j))

  -- nothing is told
  silent : (look : looks.Looked x.conn found.Silent c) → Shows (record k { conn = c }) (behind found.Silent look.points)
  silent look =
      shows_on found.Silent look.points (behind found.Silent look.points).streams k.streams k.away refl shows.away look.fares.kept
      (λ j. subst (λ (t : m.Stream). ShowsStream (get k.streams j) t) (sym (one_still (looked look.points found.Silent (headers_read c)) j))
      (shows.streams j)) shows.numbered

  -- the gateway goes away
  module _ (last : ℕ) (streams : Map) (ends : EndsFrom (last + 1) cause.GoneAway k.streams streams)
      (look : looks.Looked x.conn (found.GoneAway last) c) where
    abbrev part : Part
    part = looked look.points (found.GoneAway last) (headers_read c)

    above : (j : ℕ) → nat_le (last + 1) j ≡ nat_lt last j
    above j = grind (arith, nat_tests)

    away_by_one : (j : ℕ) (b : Bool)
        → one part j (cond b (failed cause.GoneAway (m.stage_of x j)) None)
        ≡ cond b (heard_so part (failed cause.GoneAway (m.stage_of x j)) (x.streams j)) (x.streams j)
    away_by_one j true = one_ends part j cause.GoneAway (λ why. refl)
    away_by_one j false = one_still part j

    goes_away : Shows (record k { conn = c; streams = streams; away = true }) (behind (found.GoneAway last) look.points)
    goes_away =
        shows_on (found.GoneAway last) look.points (behind (found.GoneAway last) look.points).streams streams true refl refl
        look.fares.kept
        (λ j. let is = away_by_one j (nat_lt last j)
        ∙ ap (λ (b : Bool). cond b (heard_so part (failed cause.GoneAway (m.stage_of x j)) (x.streams j)) (x.streams j)) (sym (above j)) in
        subst (λ (t : m.Stream). ShowsStream (get streams j) t) (sym is)
        (some_end part cause.GoneAway refl (last + 1) k.streams streams x.streams ends shows.streams shows.numbered j))
        (λ j some. shows.numbered j (some_before (last + 1) k.streams streams cause.GoneAway ends j some))

  -- a connection error
  faults : (code : ℕ) (streams : Map) → EndsFrom 0 (cause.ConnFault code) k.streams streams
      → (look : looks.Looked x.conn (found.Fault code) c)
      → Shows (record k { conn = c; phase = Faulted code; streams = streams }) (behind (found.Fault code) look.points)
  faults code streams ends look =
      let p = looked look.points (found.Fault code) (headers_read c) in
      record {
        key = shows.key;
        phase = refl;
        way = (refl, way.2);
        away = shows.away;
        streams = λ j.
            subst (λ (t : m.Stream). ShowsStream (get streams j) t) (sym (one_ends p j (cause.ConnFault code) (λ why. refl)))
            (all_end p (cause.ConnFault code) refl k.streams streams x.streams ends shows.streams shows.numbered j);
        numbered = λ j some. shows.numbered j (some_before 0 k.streams streams (cause.ConnFault code) ends j some);
      }

  -- something is told of one stream
  module _ (told : Found) (s : ℕ) (w : Word) (on : IsOn c told s w) (look : looks.Looked x.conn told c) (streams : Map)
      (changed : ChangesAt s (left_here (is_active c s) w (get k.streams s)) k.streams streams) where
    abbrev p : Part
    p = looked look.points told (headers_read c)

    abbrev octets : List ℕ
    octets = flat_map data_in look.points

    abbrev y : Gateway
    y = behind told look.points

    abbrev heard : Option r.Heard
    heard = heard_as octets (m.stage_of x s) w

    here_is : y.streams s ≡ one p s heard
    here_is =
        ap (one p s) (on.hears octets s (m.stage_of x s) ∙ ap (λ (b : Bool). cond b heard None) (eq-eqb s s refl))

    else_is : (j : ℕ) → j ≢ s → y.streams j ≡ x.streams j
    else_is j apart =
        ap (one p j) (on.hears octets j (m.stage_of x j)
        ∙ ap (λ (b : Bool). cond b (heard_as octets (m.stage_of x j) w) None) (ne_eqb s j (λ same. apart (sym same))))
        ∙ one_still p j

    told_shown : ShowsStream (left_here (is_active c s) w (get k.streams s)) (record (y.streams s) { mail = None })
    told_shown =
        subst (λ (t : m.Stream). ShowsStream (left_here (is_active c s) w (get k.streams s)) (record t { mail = None })) (sym here_is)
        (by (get k.streams s) (shows.streams s))
      where
        by : (o : Option Stream) → ShowsStream o (x.streams s)
            → ShowsStream (left_here (is_active c s) w o) (told_one p (is_active c s) w on.left (m.stage_of x s) heard (x.streams s))
        by None shown = gone_shown p (is_active c s) w on.left octets (x.streams s) shown
        by (Some old) shown = here_shown p (is_active c s) w on.left octets old (x.streams s) shown (may.told s) (may.reset s)

    numbered : (j : ℕ) → IsSome (get streams j) → j ≤ largest
    numbered j some = elim (cases_eq j s) [
      | inl same ↦
          shows.numbered j
          (subst (λ (n : ℕ). IsSome (get k.streams n)) (sym same)
          (was (get k.streams s) (sym (ap is_some (ap (get streams) same ∙ changed.here)) ∙ some)))
      | inr apart ↦ shows.numbered j (sym (ap is_some (changed.others j apart)) ∙ some)
    ]
      where
        was : (o : Option Stream) → IsSome (left_here (is_active c s) w o) → IsSome o
        was None some = some
        was (Some old) some = refl

    shows_then : (others : ℕ → m.Stream) → ShowsStream (left_here (is_active c s) w (get k.streams s)) (others s)
        → ((j : ℕ) → j ≢ s → others j ≡ x.streams j)
        → Shows (record k { conn = c; streams = streams }) (record y { streams = others })
    shows_then others here same =
        shows_on told look.points others streams k.away (on.phase x.phase) (on.away x.away ∙ shows.away) (on.fares look.fares).kept
        (at_one s (left_here (is_active c s) w (get k.streams s)) k.streams streams changed others here
        (λ j apart. subst (λ (t : m.Stream). ShowsStream (get k.streams j) t) (sym (same j apart)) (shows.streams j))) numbered

    -- its tunnel hears nothing
    past : heard ≡ None → Shows (record k { conn = c; streams = streams }) y
    past silence =
        let is = here_is ∙ ap (one p s) silence ∙ one_still p s in
        let mail : (y.streams s).mail ≡ None = ap (λ (t : m.Stream). t.mail) is ∙ may.told s in
        shows_then y.streams
        (subst (λ (o : Option r.Heard). ShowsStream (left_here (is_active c s) w (get k.streams s)) (record (y.streams s) { mail = o }))
        (sym mail) told_shown) else_is

    -- or this, which it is told
    tells_of : (old : Stream) → get k.streams s ≡ Some old → (what : r.Heard) → heard ≡ Some what
        → TellsOf s what old.begun old.link y (record k { conn = c; streams = streams })
    tells_of old there what is =
        let shown = subst (λ (o : Option Stream). ShowsStream o (x.streams s)) there (shows.streams s) in
        let change = λ (t : m.Stream). record t { mail = None } in
        let z = at_stream s change y in
        record {
          captured = shown.captured;
          count = (x.streams s).begun;
          counted_is = shown.begun;
          tells = record {
            next = z;
            steps = (ap (λ (t : m.Stream). t.mail) (here_is ∙ ap (one p s) is), refl, refl);
            shows = shows_then z.streams
                (subst
                (λ (b : Bool). ShowsStream (left_here (is_active c s) w (get k.streams s)) (cond b (change (y.streams s)) (y.streams s)))
                (sym (eq-eqb s s refl)) told_shown)
                (λ j apart. ap (λ (b : Bool). cond b (change (y.streams j)) (y.streams j)) (ne_eqb j s apart) ∙ else_is j apart);
          };
        }

-- what is told of one stream is told to its tunnel
module _ (k : Gate) (c : Connection) (told : Found) (s : ℕ) (w : Word) (on : IsOn c told s w) (finds : Finds k.conn c told)
    (streams : Map) (changed : ChangesAt s (left_here (is_active c s) w (get k.streams s)) k.streams streams) (bytes : List ℕ)
    (come : bytes ≡ chunk_of c told) where
  -- of a stream that the code has, by its reply
  module _ (old : Stream) (there : get k.streams s ≡ Some old) where
    heard_by : (x : Gateway) → Shows k x → (octets : List ℕ) (answer : Reply) → reply_of old.stage w ≡ answer
        → heard_as octets (m.stage_of x s) w ≡ heard_for octets answer
    heard_by x shows octets answer is =
        let shown = subst (λ (o : Option Stream). ShowsStream o (x.streams s)) there (shows.streams s) in
        ap (λ (st : r.Stage). heard_as octets st w) shown.stage ∙ (matches octets old.stage w).heard_is ∙ ap (heard_for octets) is

    tells_so : (answer : Reply) (what : r.Heard) → reply_of old.stage w ≡ answer
        → ((octets : List ℕ) → octets ≡ bytes → heard_for octets answer ≡ Some what)
        → LooksTold s what old.begun old.link k (record k { conn = c; streams = streams })
    tells_so answer what is told_it = (
      refl,
      λ x parts stands shows may.
          let look = looked_here k c x parts stands shows may told finds in (
            behind k c x parts stands shows may told look.points,
            looks_into k c x parts stands shows may told look,
            tells_of k c x parts stands shows may told s w on look streams changed old there what
                (heard_by x shows _ answer is ∙ told_it _ (look.look.hands_out ∙ sym come)),
          ),
    )

    by_reply : (answer : Reply) → reply_of old.stage w ≡ answer
        → Looks (look_by answer s old) bytes k (record k { conn = c; streams = streams })
    by_reply reply.Passes is = (
      refl,
      λ x parts stands shows may.
          let look = looked_here k c x parts stands shows may told finds in (
            behind k c x parts stands shows may told look.points,
            looks_into k c x parts stands shows may told look,
            past k c x parts stands shows may told s w on look streams changed (heard_by x shows _ reply.Passes is),
          ),
    )
    by_reply (reply.Opens end) is = (old.begun, tells_so (reply.Opens end) (r.opens end) is (λ octets same. refl))
    by_reply reply.Brings is =
        (old.begun, tells_so reply.Brings (r.brings bytes) is (λ octets same. ap (λ (bs : List ℕ). Some (r.brings bs)) same))
    by_reply reply.Ends is = (old.begun, tells_so reply.Ends r.ends is (λ octets same. refl))
    by_reply (reply.Fails to why) is = tells_so (reply.Fails to why) (fails why) is (λ octets same. refl)

  looks_at : (o : Option Stream) → get k.streams s ≡ o → Looks (look_here s w o) bytes k (record k { conn = c; streams = streams })
  looks_at None none_there = (
    refl,
    λ x parts stands shows may.
        let look = looked_here k c x parts stands shows may told finds in
        let shown = subst (λ (o : Option Stream). ShowsStream o (x.streams s)) none_there (shows.streams s) in (
          behind k c x parts stands shows may told look.points,
          looks_into k c x parts stands shows may told look,
          past k c x parts stands shows may told s w on look streams changed (none_heard _ (m.stage_of x s) w shown.0),
        ),
  )
  looks_at (Some old) there = by_reply old there (reply_of old.stage w) refl

-- where something was found something is told
found_told : (c : Connection) (told : Found) (h : Option Happening) (streams : Map) → Tells c told h
    → is_more (look_of (told_of h) streams) ≡ true → is_silent told ≡ false
found_told c found.Silent None streams shown more = absurd (false≢true more)
found_told c found.Silent (Some h) streams shown more = absurd shown
found_told c told h streams shown more = refl

-- the link keeps its connection
follows_conn : (told : Told) (k new : Gate) → Follows told k new → new.conn ≡ k.conn
follows_conn words.Nothing k new follows = ap (λ (g : Gate). g.conn) follows
follows_conn (words.Of s w) k new follows = ap (λ (g : Gate). g.conn) follows.0
follows_conn (words.Away last) k new follows = ap (λ (g : Gate). g.conn) follows.0
follows_conn (words.Fault code) k new follows = ap (λ (g : Gate). g.conn) follows.0

-- A LOOK: what is found, and what the link makes of it
module _ (k : Gate) (c : Connection) where
  abbrev mid : Gate
  mid = record k { conn = c }

  -- of one stream
  looks_one : (told : Found) (s : ℕ) (w : Word) (bytes : List ℕ) (what : Look) (new : Gate) → IsOn c told s w → Finds k.conn c told
      → bytes ≡ chunk_of c told → what ≡ look_of (words.Of s w) k.streams → Follows (words.Of s w) mid new → Looks what bytes k new
  looks_one told s w bytes what new on finds come is follows =
      subst (λ (n : Gate). Looks what bytes k n) (sym follows.0)
      (subst (λ (l : Look). Looks l bytes k (record mid { streams = new.streams })) (sym is)
      (looks_at k c told s w on finds new.streams follows.1 bytes come (get k.streams s) refl))

  pub looks_so : (found_it : Found) (h : Option Happening) (bytes : List ℕ) (what : Look) (new : Gate) → Finds k.conn c found_it
      → Tells c found_it h → bytes ≡ bytes_told h → what ≡ look_of (told_of h) k.streams → Follows (told_of h) mid new
      → Looks what bytes k new
  looks_so found.Silent None bytes what new finds shown come is follows =
      subst (λ (n : Gate). Looks what bytes k n) (sym follows)
      (subst (λ (l : Look). Looks l bytes k mid) (sym is) (
        refl,
        λ x parts stands shows may.
            let look = looked_here k c x parts stands shows may found.Silent finds in (
              behind k c x parts stands shows may found.Silent look.points,
              looks_into k c x parts stands shows may found.Silent look,
              silent k c x parts stands shows may look,
              look.rests,
            ),
      ))
  looks_so (found.Opened s end) (Some (happening.Opened of headers last)) bytes what new finds shown come is follows =
      looks_one (found.Opened s end) of (word.Headers (status_of headers.now.kept) last) bytes what new
      (record {
        hears = λ octets j st.
            ap (λ (n : ℕ). cond (n == j) (headed st (status_of (headers_read c)) end) None) (sym shown.0)
            ∙ ap (λ (hs : HeaderList). cond (of == j) (headed st (status_of hs.kept) end) None) (sym shown.1)
            ∙ ap (λ (e : Bool). cond (of == j) (headed st (status_of headers.now.kept) e) None) (sym shown.2);
        left = λ why. refl;
        phase = λ phase. refl;
        away = λ away. refl;
        fares = λ fares. fares;
      }) finds come is follows
  looks_so (found.Chunk s end) (Some (happening.Chunk of came)) bytes what new finds shown come is follows =
      looks_one (found.Chunk s end) of word.Data bytes what new
      (record {
        hears = λ octets j st. ap (λ (n : ℕ). cond (n == j) (brought st octets) None) (sym shown.0);
        left = λ why. refl;
        phase = λ phase. refl;
        away = λ away. refl;
        fares = λ fares. fares;
      }) finds (come ∙ shown.1) is follows
  looks_so (found.Ended s) (Some (happening.Ended of)) bytes what new finds shown come is follows =
      looks_one (found.Ended s) of word.End bytes what new
      (record {
        hears = λ octets j st. ap (λ (n : ℕ). cond (n == j) (ended st) None) (sym shown);
        left = λ why. refl;
        phase = λ phase. refl;
        away = λ away. refl;
        fares = λ fares. fares;
      }) finds come is follows
  looks_so (found.Reset s code) (Some (happening.Reset of why)) bytes what new finds shown come is follows =
      looks_one (found.Reset s code) of (word.Gone (cause.PeerReset why)) bytes what new
      (record {
        hears = λ octets j st.
            ap₂ (λ (n e : ℕ). cond (n == j) (failed (cause.PeerReset e) st) None) (sym shown.0) (sym shown.1);
        left = λ cause. refl;
        phase = λ phase. refl;
        away = λ away. refl;
        fares = λ fares. fares;
      }) finds come is follows
  looks_so (found.Broken s code) (Some (happening.Broken of why)) bytes what new finds shown come is follows =
      looks_one (found.Broken s code) of (word.Gone (cause.StreamFault why)) bytes what new
      (record {
        hears = λ octets j st.
            ap₂ (λ (n e : ℕ). cond (n == j) (failed (cause.StreamFault e) st) None) (sym shown.0) (sym shown.1);
        left = λ cause. refl;
        phase = λ phase. refl;
        away = λ away. refl;
        fares = λ fares. fares;
      }) finds come is follows
  looks_so (found.GoneAway last) (Some (happening.GoneAway of)) bytes what new finds shown come is follows =
      let finds_it = subst (λ (n : ℕ). Finds k.conn c (found.GoneAway n)) (sym shown) finds in
      subst (λ (n : Gate). Looks what bytes k n) (sym follows.0)
      (subst (λ (l : Look). Looks l bytes k (record mid { away = true; streams = new.streams })) (sym is) (
        refl,
        λ x parts stands shows may.
            let look = looked_here k c x parts stands shows may (found.GoneAway of) finds_it in (
              behind k c x parts stands shows may (found.GoneAway of) look.points,
              looks_into k c x parts stands shows may (found.GoneAway of) look,
              goes_away k c x parts stands shows may of new.streams follows.1 look,
            ),
      ))
  looks_so (found.Fault code) (Some (happening.Fault why)) bytes what new finds shown come is follows =
      let finds_it = subst (λ (n : ℕ). Finds k.conn c (found.Fault n)) (sym shown) finds in
      subst (λ (n : Gate). Looks what bytes k n) (sym follows.0)
      (subst (λ (l : Look). Looks l bytes k (record mid { phase = Faulted why; streams = new.streams })) (sym is) (
        refl,
        λ x parts stands shows may.
            let look = looked_here k c x parts stands shows may (found.Fault why) finds_it in (
              behind k c x parts stands shows may (found.Fault why) look.points,
              looks_into k c x parts stands shows may (found.Fault why) look,
              faults k c x parts stands shows may why new.streams follows.1 look,
            ),
      ))
  looks_so found_it h bytes what new finds shown come is follows = absurd shown

  -- less is left to be looked at then
  pub look_falls : (told : Found) (h : Option Happening) (what : Look) (new : Gate) → Tells c told h → LeavesLess k.conn c told
      → what ≡ look_of (told_of h) k.streams → Follows (told_of h) mid new → is_more what ≡ true → left_to_look new < left_to_look k
  look_falls told h what new shown less is follows more =
      subst (λ (d : Connection). left_of d < left_of k.conn) (sym (follows_conn (told_of h) mid new follows))
      (less (found_told c told h k.streams shown (sym (ap is_more is) ∙ more)))
