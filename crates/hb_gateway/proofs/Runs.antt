-- What every run of a link keeps of its front header and its connection.
use Rattle.std.proofs.Common.{◌≡◌, inl, inr, ℕ, zero, suc, false, ◌≤◌, ◌-◌, List, [], ◌∷◌, ◌++◌, length, take, drop, refl, ap, sym, ◌∙◌, subst, arith, length-append, length-drop}
use Rattle.std.proofs.lemmas.Bool.{false≢true}
use Rattle.std.proofs.lemmas.List.{append-nil, take_all}
use Rattle.std.proofs.Math.Seq.{take-append_seam}
use Rattle.hb_base.specs.declared.cause.Cause.{Cause}
use Rattle.hb_base.specs.declared.door.Why.TheVariants as whys
use Rattle.hb_conn.specs.Connection.{Connection, count_of}
use Rattle.hb_conn.specs.Connection as conn
use Rattle.hb_conn.specs.Observed as observed
use Rattle.hb_conn.specs.Observed.{next_stream, creditable, end_put, data_put, aborted}
use Rattle.hb_conn.specs.declared.found.Found.{Found}
use Rattle.hb_conn.specs.declared.found.Found.TheVariants as found
use Rattle.hb_frames.specs.Frames.{AreOctets}
use Rattle.hb_history.specs.Points as history
use Rattle.hb_history.specs.History.{StandsFor as ConnStandsFor}
use Rattle.hb_history.specs.Calls.{in_list, Makes, acts}
use Rattle.hb_history.proofs.Called.{nothing_stands}
use Rattle.hb_history.proofs.Fed.{take_adds}
use Rattle.hb_history.proofs.Adds.{write_adds}
use Rattle.hb_history.proofs.Connections.{acts_add}
use Rattle.hb_history.proofs.Looking.{looks_add}
use Rattle.hb_hpack.specs.declared.header.Header.{Header}
use Rattle.hb_kept.specs.Looks.{IsLook}
use Rattle.hb_streams.specs.declared.role.Role.TheVariants.{Client}
use Rattle.hb_world.specs.declared.entry.Entry.{Entry}
use Rattle.hb_world.specs.declared.entry.Entry.TheVariants as e
use Rattle.hb_gateway.specs.Calm.{wants, wants_by, output, output_by}
use Rattle.hb_gateway.specs.Connections.{front_went, conn_went}
use Rattle.hb_gateway.specs.Gateway.{Gateway, Phase, Stream, unborn, opening, serving, faulted, closing, closed, went, went_by, came, phase_by, broken_by, stops_by, request_of}
use Rattle.hb_gateway.specs.Gateway as gateway
use Rattle.hb_gateway.specs.Hears.{all_hear}
use Rattle.hb_gateway.specs.Key.{Key, front_of}
use Rattle.hb_gateway.specs.Laws.{RunsObeyConnections}
use Rattle.hb_gateway.specs.Part.{Part, entry, dialled, lacked, looked, asks, tells, put, finished, credited, reset, dropped, done, stopped, came_by, wrote_by, came_in, went_in, front_in, link_came, link_went, front_header, act, moves_by, moves_in, moves, left_by, left_of, telling, tellings}
use Rattle.hb_gateway.specs.Runs.{MayCome, IsWritable, IsBirth, entered, Carries, Steps, StandsFor, begins, goes_on}
use Rattle.hb_gateway.proofs.Fronts.{Splits, splits, header_went, behind_went}
use Rattle.hb_gateway.proofs.Grown.{one_more, none_more, fold_one, more_moves}

-- nothing went, and nothing is to go
pub record IsFresh (parts : List Part) (front : List ℕ) : Type 0 where
  pub header : front_header parts ≡ []
  pub sent : link_went parts ≡ []
  pub left : front ≡ []

pub record Keeps (parts : List Part) (x : Gateway) : Type 0 where
  -- the connection stands for the moves and bytes
  pub stands : ConnStandsFor Client (moves parts) (tellings parts) (link_came parts) (conn_went parts) x.conn
  -- what went of the header, and what is left of it, are the header
  pub front : front_header parts ≡ front_went parts ++ x.front
  pub left : left_of parts ≡ length x.front
  pub early : x.phase ≡ unborn → IsFresh parts x.front

-- a part with which nothing is written
pub record IsStill (p : Part) : Type 0 where
  pub went : went_in p ≡ []
  pub front : front_in p ≡ []
  pub left : (n : ℕ) → left_by n p ≡ n

-- the streams and connection that a link has once its phase, and what tunnels hear, are another
module _ (parts : List Part) where
  stands_at : (ps qs : List history.Point) (ts us : List Found) (cs ds ws vs : List ℕ) (c : Connection)
      → ps ≡ qs → ts ≡ us → cs ≡ ds → ws ≡ vs → ConnStandsFor Client ps ts cs ws c → ConnStandsFor Client qs us ds vs c
  stands_at ps qs ts us cs ds ws vs c points told came went now =
      subst (λ (ps : List history.Point). ConnStandsFor Client ps us ds vs c) points
      (subst (λ (ts : List Found). ConnStandsFor Client ps ts ds vs c) told
      (subst (λ (cs : List ℕ). ConnStandsFor Client ps ts cs vs c) came
      (subst (λ (ws : List ℕ). ConnStandsFor Client ps ts cs ws c) went now)))

  sent_stays : (p : Part) → IsStill p → link_went (parts ++ p ∷ []) ≡ link_went parts
  sent_stays p still = none_more went_in parts p still.went

  header_stays : (p : Part) → IsStill p → front_header (parts ++ p ∷ []) ≡ front_header parts
  header_stays p still = none_more front_in parts p still.front

  pub behind_stays : (p : Part) → IsStill p → conn_went (parts ++ p ∷ []) ≡ conn_went parts
  behind_stays p still =
      ap (λ (xs : List ℕ). drop (length xs) (link_went (parts ++ p ∷ []))) (header_stays p still)
      ∙ ap (drop (length (front_header parts))) (sent_stays p still)

  front_stays : (p : Part) → IsStill p → front_went (parts ++ p ∷ []) ≡ front_went parts
  front_stays p still =
      ap (λ (xs : List ℕ). take (length xs) (link_went (parts ++ p ∷ []))) (header_stays p still)
      ∙ ap (take (length (front_header parts))) (sent_stays p still)

  fresh_stays : (p : Part) (front : List ℕ) → IsStill p → IsFresh parts front → IsFresh (parts ++ p ∷ []) front
  fresh_stays p front still fresh =
      record { header = header_stays p still ∙ fresh.header; sent = sent_stays p still ∙ fresh.sent; left = fresh.left }

  -- with a part by which nothing is written, and these moves are made, this is told, and these bytes come
  still_keeps : (p : Part) (x y : Gateway) (ps : List history.Point) (news : List Found) (comes : List ℕ) → IsStill p
      → moves_in (left_of parts) p ≡ ps → telling p ≡ news → came_in p ≡ comes → y.front ≡ x.front
      → (y.phase ≡ unborn → x.phase ≡ unborn)
      → ConnStandsFor Client (moves parts ++ ps) (tellings parts ++ news) (link_came parts ++ comes) (conn_went parts) y.conn
      → Keeps parts x → Keeps (parts ++ p ∷ []) y
  still_keeps p x y ps news comes still moved told come front born now keeps =
      let more = parts ++ p ∷ [] in
      record {
        stands =
            stands_at (moves parts ++ ps) (moves more) (tellings parts ++ news) (tellings more) (link_came parts ++ comes) (link_came more)
            (conn_went parts) (conn_went more) y.conn
            (ap (λ (qs : List history.Point). moves parts ++ qs) (sym moved) ∙ sym (more_moves parts p))
            (ap (λ (ts : List Found). tellings parts ++ ts) (sym told) ∙ sym (one_more telling parts p))
            (ap (λ (bs : List ℕ). link_came parts ++ bs) (sym come) ∙ sym (one_more came_in parts p))
            (sym (behind_stays p still)) now;
        front = header_stays p still ∙ keeps.front ∙ ap (λ (xs : List ℕ). xs ++ x.front) (sym (front_stays p still))
            ∙ ap (λ (xs : List ℕ). front_went more ++ xs) (sym front);
        left = fold_one left_by 0 parts p ∙ still.left (left_of parts) ∙ keeps.left ∙ ap length (sym front);
        early = λ is. subst (IsFresh more) (sym front) (fresh_stays p x.front still (keeps.early (born is)));
      }

  -- by which nothing is told, and nothing comes
  act_keeps : (p : Part) (x y : Gateway) (ps : List history.Point) → IsStill p → moves_in (left_of parts) p ≡ ps → telling p ≡ []
      → came_in p ≡ [] → y.front ≡ x.front → (y.phase ≡ unborn → x.phase ≡ unborn)
      → ConnStandsFor Client (moves parts ++ ps) (tellings parts) (link_came parts) (conn_went parts) y.conn
      → Keeps parts x → Keeps (parts ++ p ∷ []) y
  act_keeps p x y ps still moved told come front born now keeps =
      still_keeps p x y ps [] [] still moved told come front born
      (stands_at (moves parts ++ ps) (moves parts ++ ps) (tellings parts) (tellings parts ++ []) (link_came parts) (link_came parts ++ [])
      (conn_went parts) (conn_went parts) y.conn refl (sym (append-nil (tellings parts))) (sym (append-nil (link_came parts))) refl now)
      keeps

  -- which says nothing of the connection
  plain_keeps : (p : Part) (x y : Gateway) → IsStill p → moves_in (left_of parts) p ≡ [] → telling p ≡ [] → came_in p ≡ []
      → y.front ≡ x.front → y.conn ≡ x.conn → (y.phase ≡ unborn → x.phase ≡ unborn) → Keeps parts x → Keeps (parts ++ p ∷ []) y
  plain_keeps p x y still moved told come front same born keeps =
      act_keeps p x y [] still moved told come front born
      (stands_at (moves parts) (moves parts ++ []) (tellings parts) (tellings parts) (link_came parts) (link_came parts)
      (conn_went parts) (conn_went parts) y.conn (sym (append-nil (moves parts))) refl refl refl
      (subst (ConnStandsFor Client (moves parts) (tellings parts) (link_came parts) (conn_went parts)) (sym same) keeps.stands)) keeps

-- a link that is one of these was born
never : (phase other : Phase) {A : Type 0} → phase ≡ other → (other ≡ unborn → ⊥) → phase ≡ unborn → A
never phase other is apart was = absurd (apart (sym is ∙ was))

carried : (phase : Phase) → Carries phase → phase ≡ unborn → ⊥
carried unborn carries is = false≢true carries
carried opening carries is = cc
carried serving carries is = cc
carried (faulted code) carries is = cc
carried (closing why) carries is = cc
carried closed carries is = cc

found_born : (told : Found) → phase_by serving told ≡ unborn → ⊥
found_born found.Silent is = cc
found_born (found.Opened s end) is = cc
found_born (found.Chunk s end) is = cc
found_born (found.Ended s) is = cc
found_born (found.Reset s code) is = cc
found_born (found.Broken s code) is = cc
found_born (found.GoneAway last) is = cc
found_born (found.Fault code) is = cc

stop_born : (why : Cause) (phase : Phase) → stops_by why phase ≡ unborn → phase ≡ unborn
stop_born why unborn is = refl
stop_born why opening is = absurd (cc)
stop_born why serving is = absurd (cc)
stop_born why (faulted code) is = absurd (cc)
stop_born why (closing cause) is = absurd (cc)
stop_born why closed is = absurd (cc)

went_born : (phase : Phase) → went_by phase ≡ unborn → phase ≡ unborn
went_born unborn is = refl
went_born opening is = absurd (cc)
went_born serving is = absurd (cc)
went_born (faulted code) is = absurd (cc)
went_born (closing cause) is = absurd (cc)
went_born closed is = absurd (cc)

broken_born : (phase : Phase) → broken_by phase ≡ unborn → phase ≡ unborn
broken_born unborn is = refl
broken_born opening is = absurd (cc)
broken_born serving is = absurd (cc)
broken_born (faulted code) is = absurd (cc)
broken_born (closing cause) is = absurd (cc)
broken_born closed is = absurd (cc)

none : (n : ℕ) (xs : List ℕ) → xs ≡ [] → drop n xs ≡ []
none zero xs is = is
none (suc n) [] is = refl
none (suc n) (x ∷ xs) is = absurd (cc)

none_taken : (n : ℕ) (xs : List ℕ) → xs ≡ [] → take n xs ≡ []
none_taken zero xs is = refl
none_taken (suc n) [] is = refl
none_taken (suc n) (x ∷ xs) is = absurd (cc)

-- a link is dialled before its birth
pub birth_unborn : (g : ℕ) (x : Gateway) (call : Entry) (key : Key) → IsBirth g x call key → x.phase ≡ unborn
birth_unborn g x (e.Dialled k to (whys.Gateway a)) key birth = birth.1
birth_unborn g x (e.Dialled k to whys.Discovery) key birth = absurd birth
birth_unborn g x (e.Dialled k to (whys.Upstream l s)) key birth = absurd birth
birth_unborn g x (e.Dialled k to (whys.Plain a)) key birth = absurd birth
birth_unborn g x (e.Dialled k to (whys.Direct a)) key birth = absurd birth
birth_unborn g x (e.Accepted k door) key birth = absurd birth
birth_unborn g x (e.DialFailed to why) key birth = absurd birth
birth_unborn g x (e.Opened k) key birth = absurd birth
birth_unborn g x (e.Came k bytes) key birth = absurd birth
birth_unborn g x (e.Ended k) key birth = absurd birth
birth_unborn g x (e.Broke k) key birth = absurd birth
birth_unborn g x (e.Went k bytes) key birth = absurd birth
birth_unborn g x (e.Balked how) key birth = absurd birth
birth_unborn g x (e.Shut k) key birth = absurd birth
birth_unborn g x (e.Closed k why) key birth = absurd birth
birth_unborn g x e.Tick key birth = absurd birth
birth_unborn g x (e.Wait ready how) key birth = absurd birth

-- all that waits may go
pub writes_output : (x : Gateway) → IsWritable x → output x ≡ gateway.output x
writes_output x (inl quiet) = ap (λ (ph : Phase). output_by ph x) quiet.1
writes_output x (inr fault) = ap (λ (ph : Phase). output_by ph x) fault.2

module _ (x : Gateway) (parts : List Part) (keeps : Keeps parts x) where
  still_entry : (call : Entry) → wrote_by call ≡ [] → IsStill (entry call)
  still_entry call none = record { went = none; front = refl; left = λ n. ap (λ (bs : List ℕ). n - length bs) none ∙ omega arith }

  -- a call that brings nothing
  calm_keeps : (call : Entry) (y : Gateway) → wrote_by call ≡ [] → came_by call ≡ [] → ((n : ℕ) → moves_by n call ≡ [])
      → y.front ≡ x.front → y.conn ≡ x.conn → (y.phase ≡ unborn → x.phase ≡ unborn) → Keeps (parts ++ entry call ∷ []) y
  calm_keeps call y wrote come moved front same born =
      plain_keeps parts (entry call) x y (still_entry call wrote) (moved (left_of parts)) refl come front same born keeps

  -- bytes come
  bytes_came : (k : ℕ) (bytes : List ℕ) (y : Gateway) → x.phase ≡ serving → AreOctets bytes → length bytes ≤ wants x
      → y.conn ≡ conn.taken x.conn bytes → y.front ≡ x.front → y.phase ≡ x.phase → Keeps (parts ++ entry (e.Came k bytes) ∷ []) y
  bytes_came k bytes y is octets most same front phase =
      let room : wants x ≡ wants_by serving x = ap (λ (ph : Phase). wants_by ph x) is in
      let all : take (count_of x.conn bytes) bytes ≡ bytes = take_all (count_of x.conn bytes) bytes (omega (arith, most, room)) in
      still_keeps parts (entry (e.Came k bytes)) x y [] [] bytes (still_entry (e.Came k bytes) refl) refl refl refl front
      (λ was. sym phase ∙ was)
      (subst (ConnStandsFor Client (moves parts ++ []) (tellings parts ++ []) (link_came parts ++ bytes) (conn_went parts)) (sym same)
      (stands_at parts (moves parts) (moves parts ++ []) (tellings parts) (tellings parts ++ [])
      (link_came parts ++ take (count_of x.conn bytes) bytes) (link_came parts ++ bytes) (conn_went parts) (conn_went parts)
      (conn.taken x.conn bytes)
      (sym (append-nil (moves parts))) (sym (append-nil (tellings parts))) (ap (λ (bs : List ℕ). link_came parts ++ bs) all) refl
      (take_adds Client (moves parts) (tellings parts) (link_came parts) (conn_went parts) bytes x.conn octets keeps.stands))) keeps

  -- bytes go: of the front header, and behind it so many of the connection
  module _ (k : ℕ) (bytes rest : List ℕ) (is : gateway.output x ≡ bytes ++ rest) where
    abbrev pub behind_front : ℕ
    behind_front = length bytes - length x.front

    parted : Splits x.front (observed.output x.conn) bytes
    parted = splits x.front (observed.output x.conn) bytes rest is

    pub went_within : behind_front ≤ length (observed.output x.conn)
    went_within =
        omega (arith, ap length parted.second, length-append (drop (length x.front) bytes) parted.more, length-drop (length x.front) bytes)

    all_behind : take behind_front (observed.output x.conn) ≡ drop (length x.front) bytes
    all_behind =
        let behind = drop (length x.front) bytes in
        ap (take behind_front) parted.second
        ∙ ap (λ (m : ℕ). take m (behind ++ parted.more)) (sym (length-drop (length x.front) bytes))
        ∙ take-append_seam behind parted.more

    same_header : front_header (parts ++ entry (e.Went k bytes) ∷ []) ≡ front_header parts
    same_header = none_more front_in parts (entry (e.Went k bytes)) refl

    more_sent : link_went (parts ++ entry (e.Went k bytes) ∷ []) ≡ link_went parts ++ bytes
    more_sent = one_more went_in parts (entry (e.Went k bytes))

    pub went_more : conn_went (parts ++ entry (e.Went k bytes) ∷ []) ≡ conn_went parts ++ take behind_front (observed.output x.conn)
    went_more =
        ap (λ (xs : List ℕ). drop (length xs) (link_went (parts ++ entry (e.Went k bytes) ∷ []))) same_header
        ∙ ap (drop (length (front_header parts))) more_sent
        ∙ behind_went (front_header parts) (link_went parts) x.front (observed.output x.conn) bytes rest keeps.front is
        ∙ ap (λ (bs : List ℕ). conn_went parts ++ bs) (sym all_behind)

    pub went_moves : moves_in (left_of parts) (entry (e.Went k bytes)) ≡ act (history.wrote behind_front)
    went_moves = ap (λ (m : ℕ). act (history.wrote (length bytes - m))) keeps.left

    bytes_went : (y : Gateway) → (x.phase ≡ unborn → ⊥) → y.conn ≡ observed.wrote x.conn behind_front
        → y.front ≡ drop (length bytes) x.front → y.phase ≡ went_by x.phase → Keeps (parts ++ entry (e.Went k bytes) ∷ []) y
    bytes_went y born same front phase =
        let p = entry (e.Went k bytes) in
        let more = parts ++ p ∷ [] in
        record {
          stands = subst (ConnStandsFor Client (moves more) (tellings more) (link_came more) (conn_went more)) (sym same)
              (stands_at parts (moves parts ++ act (history.wrote behind_front)) (moves more) (tellings parts) (tellings more)
              (link_came parts) (link_came more) (conn_went parts ++ take behind_front (observed.output x.conn)) (conn_went more)
              (observed.wrote x.conn behind_front)
              (ap (λ (qs : List history.Point). moves parts ++ qs) (sym went_moves) ∙ sym (more_moves parts p))
              (sym (none_more telling parts p refl)) (sym (none_more came_in parts p refl)) (sym went_more)
              (write_adds Client (moves parts) (tellings parts) (link_came parts) (conn_went parts) x.conn behind_front went_within
              keeps.stands));
          front = same_header
              ∙ header_went (front_header parts) (link_went parts) x.front (observed.output x.conn) bytes rest keeps.front is
              ∙ ap (λ (xs : List ℕ). xs ++ drop (length bytes) x.front)
              (sym (ap (λ (xs : List ℕ). take (length xs) (link_went more)) same_header
              ∙ ap (take (length (front_header parts))) more_sent))
              ∙ ap (λ (xs : List ℕ). front_went more ++ xs) (sym front);
          left = fold_one left_by 0 parts p ∙ ap (λ (m : ℕ). m - length bytes) keeps.left
              ∙ sym (length-drop (length bytes) x.front) ∙ ap length (sym front);
          early = λ was. absurd (born (went_born x.phase (sym phase ∙ was)));
        }

  writes_born : IsWritable x → x.phase ≡ unborn → ⊥
  writes_born (inl quiet) = never x.phase serving quiet.1 (λ was. cc)
  writes_born (inr fault) = never x.phase (faulted fault.1) fault.2 (λ was. cc)

  call_keeps : (g : ℕ) (call : Entry) (y : Gateway) → MayCome g x call → y ≡ entered call (all_hear (entry call) x)
      → Keeps (parts ++ entry call ∷ []) y
  call_keeps g (e.Opened k) y may is =
      calm_keeps (e.Opened k) y refl refl (λ n. refl) (ap (λ (z : Gateway). z.front) is) (ap (λ (z : Gateway). z.conn) is)
      (never y.phase serving (ap (λ (z : Gateway). z.phase) is) (λ was. cc))
  call_keeps g (e.Came k bytes) y (own, (quiet, wanted), octets, some, most) is =
      bytes_came k bytes y quiet.1 octets most (ap (λ (z : Gateway). z.conn) is) (ap (λ (z : Gateway). z.front) is)
      (ap (λ (z : Gateway). z.phase) is)
  call_keeps g (e.Ended k) y may is =
      calm_keeps (e.Ended k) y refl refl (λ n. refl) (ap (λ (z : Gateway). z.front) is) (ap (λ (z : Gateway). z.conn) is)
      (never y.phase (closing (gateway.end_cause x.conn)) (ap (λ (z : Gateway). z.phase) is) (λ was. cc))
  call_keeps g (e.Went k bytes) y (own, may, some, rest) is =
      bytes_went k bytes rest.0 (sym (writes_output x may) ∙ rest.1) y (writes_born may) (ap (λ (z : Gateway). z.conn) is)
      (ap (λ (z : Gateway). z.front) is) (ap (λ (z : Gateway). z.phase) is)
  call_keeps g (e.Broke k) y may is =
      calm_keeps (e.Broke k) y refl refl (λ n. refl) (ap (λ (z : Gateway). z.front) is) (ap (λ (z : Gateway). z.conn) is)
      (λ was. broken_born x.phase (sym (ap (λ (z : Gateway). z.phase) is) ∙ was))
  call_keeps g (e.Closed k why) y may is =
      calm_keeps (e.Closed k why) y refl refl (λ n. refl) (ap (λ (z : Gateway). z.front) is) (ap (λ (z : Gateway). z.conn) is)
      (never y.phase closed (ap (λ (z : Gateway). z.phase) is) (λ was. cc))
  call_keeps g (e.Balked how) y may is =
      calm_keeps (e.Balked how) y refl refl (λ n. refl) (ap (λ (z : Gateway). z.front) is) (ap (λ (z : Gateway). z.conn) is)
      (λ was. sym (ap (λ (z : Gateway). z.phase) is) ∙ was)
  call_keeps g (e.Accepted k door) y may is = absurd may
  call_keeps g (e.Dialled k to why) y may is = absurd may
  call_keeps g (e.DialFailed to why) y may is = absurd may
  call_keeps g (e.Shut k) y may is = absurd may
  call_keeps g e.Tick y may is = absurd may
  call_keeps g (e.Wait ready how) y may is = absurd may

  -- the link is dialled, before which nothing went
  module _ (call : Entry) (key : Key) (was : x.phase ≡ unborn) where
    fresh : IsFresh parts x.front
    fresh = keeps.early was

    dial_sent : link_went (parts ++ dialled call key ∷ []) ≡ []
    dial_sent = none_more went_in parts (dialled call key) refl ∙ fresh.sent

    dial_header : front_header (parts ++ dialled call key ∷ []) ≡ front_of key
    dial_header =
        one_more front_in parts (dialled call key) ∙ ap (λ (xs : List ℕ). xs ++ front_of key) fresh.header

    pub dial_behind : conn_went (parts ++ dialled call key ∷ []) ≡ conn_went parts
    dial_behind =
        none (length (front_header (parts ++ dialled call key ∷ []))) (link_went (parts ++ dialled call key ∷ [])) dial_sent
        ∙ sym (none (length (front_header parts)) (link_went parts) fresh.sent)

  dial_keeps : (call : Entry) (key : Key) (y : Gateway) → x.phase ≡ unborn → y.conn ≡ x.conn → y.front ≡ front_of key
      → y.phase ≡ opening → Keeps (parts ++ dialled call key ∷ []) y
  dial_keeps call key y was same is phase =
      let p = dialled call key in
      let more = parts ++ p ∷ [] in
      record {
        stands = subst (ConnStandsFor Client (moves more) (tellings more) (link_came more) (conn_went more)) (sym same)
            (stands_at parts (moves parts) (moves more) (tellings parts) (tellings more) (link_came parts) (link_came more)
            (conn_went parts) (conn_went more) x.conn
            (sym (more_moves parts p ∙ append-nil (moves parts)))
            (sym (none_more telling parts p refl)) (sym (none_more came_in parts p refl)) (sym (dial_behind call key was)) keeps.stands);
        front = dial_header call key was ∙ sym is
            ∙ ap (λ (xs : List ℕ). xs ++ y.front)
            (sym (none_taken (length (front_header more)) (link_went more) (dial_sent call key was)));
        left = fold_one left_by 0 parts p ∙ ap length (sym is);
        early = never y.phase opening phase (λ now. cc);
      }

  born_keeps : (g : ℕ) (call : Entry) (key : Key) (y : Gateway) → Steps g x (dialled call key) y
      → Keeps (parts ++ dialled call key ∷ []) y
  born_keeps g call key y steps =
      dial_keeps call key y (birth_unborn g x call key steps.0) (ap (λ (z : Gateway). z.conn) steps.1)
      (ap (λ (z : Gateway). z.front) steps.1) (ap (λ (z : Gateway). z.phase) steps.1)

  -- an act of this end
  one_act : (p : Part) (move : history.Move) (y : Gateway) → IsStill p → moves_in (left_of parts) p ≡ act move → telling p ≡ []
      → came_in p ≡ [] → Makes x.conn (acts move) y.conn → y.front ≡ x.front → y.phase ≡ x.phase → Keeps (parts ++ p ∷ []) y
  one_act p move y still moved told come makes front phase =
      act_keeps parts p x y (act move) still moved told come front (λ was. sym phase ∙ was)
      (acts_add Client (moves parts) (tellings parts) (link_came parts) (conn_went parts) x.conn y.conn move makes keeps.stands) keeps

  -- a part that changes streams alone
  other_streams : (p : Part) (y : Gateway) (streams : ℕ → Stream) → y ≡ record x { streams = streams } → IsStill p
      → moves_in (left_of parts) p ≡ [] → telling p ≡ [] → came_in p ≡ [] → Keeps (parts ++ p ∷ []) y
  other_streams p y streams is still moved told come =
      plain_keeps parts p x y still moved told come (ap (λ (z : Gateway). z.front) is) (ap (λ (z : Gateway). z.conn) is)
      (λ was. sym (ap (λ (z : Gateway). z.phase) is) ∙ was) keeps

  looked_keeps : (ps : List history.Point) (told : Found) (headers : List Header) (c : Connection) (y : Gateway) → x.phase ≡ serving
      → IsLook x.conn ps told c → y.conn ≡ c → y.front ≡ x.front → y.phase ≡ phase_by x.phase told
      → Keeps (parts ++ looked ps told headers ∷ []) y
  looked_keeps ps told headers c y is look same front phase =
      still_keeps parts (looked ps told headers) x y ps (in_list told) [] (record { went = refl; front = refl; left = λ n. refl })
      refl refl refl front
      (λ was. absurd (found_born told (sym (phase ∙ ap (λ (ph : Phase). phase_by ph told) is) ∙ was)))
      (subst (ConnStandsFor Client (moves parts ++ ps) (tellings parts ++ in_list told) (link_came parts ++ []) (conn_went parts))
      (sym same)
      (stands_at parts (moves parts ++ ps) (moves parts ++ ps) (tellings parts ++ in_list told) (tellings parts ++ in_list told)
      (link_came parts) (link_came parts ++ []) (conn_went parts) (conn_went parts) c refl refl (sym (append-nil (link_came parts))) refl
      (looks_add Client (moves parts) ps (tellings parts) (link_came parts) (conn_went parts) x.conn c told
      keeps.stands look.finds look.looks look.runs look.frames look.tells))) keeps

  step_keeps : (g : ℕ) (p : Part) (y : Gateway) → Steps g x p y → Keeps (parts ++ p ∷ []) y
  step_keeps g (entry call) y steps = call_keeps g call y steps.0 steps.1
  step_keeps g (dialled call key) y steps = born_keeps g call key y steps
  step_keeps g lacked y steps =
      plain_keeps parts lacked x y (record { went = refl; front = refl; left = λ n. refl }) refl refl refl
      (ap (λ (z : Gateway). z.front) steps.1) (ap (λ (z : Gateway). z.conn) steps.1)
      (never y.phase (closing _) (ap (λ (z : Gateway). z.phase) steps.1) (λ was. cc)) keeps
  step_keeps g (looked ps told headers) y steps =
      looked_keeps ps told headers steps.3 y steps.0 steps.4 (ap (λ (z : Gateway). z.conn) steps.6)
      (ap (λ (z : Gateway). z.front) steps.6) (ap (λ (z : Gateway). z.phase) steps.6)
  step_keeps g (asks s captured authority) y steps =
      let move = history.opened s (request_of authority) false in
      let same = ap (λ (z : Gateway). z.conn) steps.2 in
      one_act (asks s captured authority) move y (record { went = refl; front = refl; left = λ n. refl }) refl refl refl
      (subst (Makes x.conn (acts move)) (sym same) (tt, (steps.1, (refl, refl)), refl))
      (ap (λ (z : Gateway). z.front) steps.2) (ap (λ (z : Gateway). z.phase) steps.2)
  step_keeps g (tells s heard begun) y steps =
      other_streams (tells s heard begun) y _ steps.2 (record { went = refl; front = refl; left = λ n. refl }) refl refl refl
  step_keeps g (put s bytes count) y steps =
      let same = ap (λ (z : Gateway). z.conn) steps.4 in
      one_act (put s bytes count) (history.put s bytes) y (record { went = refl; front = refl; left = λ k. refl }) refl refl refl
      (subst (Makes x.conn (acts (history.put s bytes))) (sym same) (tt, (refl, refl), refl))
      (ap (λ (z : Gateway). z.front) steps.4) (ap (λ (z : Gateway). z.phase) steps.4)
  step_keeps g (finished s) y steps =
      let same = ap (λ (z : Gateway). z.conn) steps.3 in
      one_act (finished s) (history.ended s) y (record { went = refl; front = refl; left = λ k. refl }) refl refl refl
      (subst (Makes x.conn (acts (history.ended s))) (sym same) (tt, (refl, refl), refl))
      (ap (λ (z : Gateway). z.front) steps.3) (ap (λ (z : Gateway). z.phase) steps.3)
  step_keeps g (credited s n) y steps =
      let same = ap (λ (z : Gateway). z.conn) steps.2 in
      one_act (credited s n) (history.credited s n) y (record { went = refl; front = refl; left = λ k. refl }) refl refl refl
      (subst (Makes x.conn (acts (history.credited s n))) (sym same) (tt, (steps.1, (refl, refl)), refl))
      (ap (λ (z : Gateway). z.front) steps.2) (ap (λ (z : Gateway). z.phase) steps.2)
  step_keeps g (reset s code) y steps =
      let same = ap (λ (z : Gateway). z.conn) steps.2 in
      one_act (reset s code) (history.reset s code) y (record { went = refl; front = refl; left = λ k. refl }) refl refl refl
      (subst (Makes x.conn (acts (history.reset s code))) (sym same) (tt, (refl, refl), refl))
      (ap (λ (z : Gateway). z.front) steps.2) (ap (λ (z : Gateway). z.phase) steps.2)
  step_keeps g (dropped s begun) y steps =
      other_streams (dropped s begun) y _ steps.3 (record { went = refl; front = refl; left = λ n. refl }) refl refl refl
  step_keeps g (done s begun) y steps =
      other_streams (done s begun) y _ steps.3 (record { went = refl; front = refl; left = λ n. refl }) refl refl refl
  step_keeps g (stopped why) y steps =
      plain_keeps parts (stopped why) x y (record { went = refl; front = refl; left = λ n. refl }) refl refl refl
      (ap (λ (z : Gateway). z.front) steps.1) (ap (λ (z : Gateway). z.conn) steps.1)
      (λ was. stop_born why x.phase (sym (ap (λ (z : Gateway). z.phase) steps.1) ∙ was)) keeps

-- so it is of every run
pub all_keep : (g : ℕ) (x : Gateway) (parts : List Part) → StandsFor g x parts → Keeps parts x
all_keep g x parts (begins is none) =
    subst (λ (ps : List Part). Keeps ps x) (sym none)
    (subst (Keeps []) (sym is)
    (record {
      stands = nothing_stands Client;
      front = refl;
      left = refl;
      early = λ was. record { header = refl; sent = refl; left = refl };
    }))
all_keep g y more (goes_on {x = x} {parts = parts} before p steps grows) =
    subst (λ (ps : List Part). Keeps ps y) (sym grows) (step_keeps x parts (all_keep g x parts before) g p y steps)

pub obey_connections : RunsObeyConnections
obey_connections g x parts stands =
    let keeps = all_keep g x parts stands in
    record { conn = x.conn; stands = keeps.stands; unwritten = x.front; front = keeps.front }
