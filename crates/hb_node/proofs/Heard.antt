-- What is heard of a link's connection leads on.
use Rattle.std.proofs.Common.{◌≡◌, ℕ, ◌<◌, ◌||◌, not, Bool, true, false, List, [], ◌∷◌, length, min, Option, Some, None, refl, ap, ap₂, sym, ◌∙◌, subst, if◌then◌else◌, nat_lt, arith}
use Rattle.std.proofs.lemmas.Bool.{false≢true}
use Rattle.std.proofs.lemmas.Bool.Decides.{nat_tests}
use Rattle.hb_base.specs.declared.cause.Cause.{Cause}
use Rattle.hb_base.specs.declared.cause.Cause.TheVariants as cause
use Rattle.hb_grpc.specs.Reading.{Framing}
use Rattle.hb_hpack.specs.declared.header.Header.{Header}
use Rattle.hb_hpack.specs.declared.header.HeaderList.{HeaderList}
use Rattle.hb_conn.specs.Connection.{Connection, Finds, LeavesLess, left_of}
use Rattle.hb_conn.specs.Observed.{data_told, creditable, IsLookedAt}
use Rattle.hb_conn.specs.Outcome.{is_silent}
use Rattle.hb_conn.specs.Loan.{Shows}
use Rattle.hb_conn.specs.declared.found.Found.{Found}
use Rattle.hb_conn.specs.declared.found.Found.TheVariants as found
use Rattle.hb_conn.specs.declared.happening.Happening.{Happening}
use Rattle.hb_conn.specs.declared.happening.Happening.TheVariants as happening
use Rattle.hb_history.proofs.Steady.{credited_leaves}
use Rattle.hb_kept.specs.Kept as kept
use Rattle.hb_kept.specs.Looks as looks
use Rattle.hb_kept.proofs.Looks.{looks as found_by_looks}
use Rattle.hb_model.specs.Discovery.{Discovery, Phase, live, faulted, ending, stream, status_of, is_accepted, end_by_headers, end_by, answered_by, phase_by, chunk_of, headers_read, on_found, credited, usable}
use Rattle.hb_model.specs.Point.{looked}
use Rattle.hb_node.specs.declared.inbox.Inbox.{Inbox}
use Rattle.hb_node.specs.declared.inbox.Heard.{Heard}
use Rattle.hb_node.specs.declared.link.Link.{Link}
use Rattle.hb_node.specs.declared.phase.Phase.{Phase as Stage}
use Rattle.hb_node.specs.declared.phase.Phase.TheVariants as stage
use Rattle.hb_node.specs.Judging.{Judges, Seen}
use Rattle.hb_node.specs.Phases.{phase_of, is_live, end_for}
use Rattle.hb_node.specs.Inbox.{TakesAll, HearsData, Hears, ends, heard_of, data_heard}
use Rattle.hb_node.specs.Leads.{Leads, stays, goes}
use Rattle.hb_node.specs.Links.{part_of, credited_by, used_up, settled, Agrees, Goes, Fares, FaresBy, FaresOn}
use Rattle.hb_node.proofs.Looked.{link_looks}
use Rattle.hb_node.proofs.Led.{leads_on, with_box, state, HasTaken, taken_leads, agrees_same}

pub live_is : (s : Stage) → is_live s ≡ true → phase_of s ≡ live
live_is stage.Live is = refl
live_is s is = absurd (false≢true is)

pub live_back : (s : Stage) → phase_of s ≡ live → is_live s ≡ true
live_back stage.Live is = refl
live_back s is = cc

pub phase_of_end : (s : Stage) (e : Option Cause) → phase_of (end_for s e) ≡ phase_by (phase_of s) e
phase_of_end s None = refl
phase_of_end s (Some (cause.ConnFault code)) = refl
phase_of_end s (Some c) = refl

or_false : (b : Bool) → (b || false) ≡ b
or_false true = refl
or_false false = refl

credited_none : (b : Bool) (c : Connection) → credited_by b 0 c ≡ c
credited_none true c = refl
credited_none false c = refl

credited_some : (n : ℕ) (c : Connection) → 0 < n → credited_by true n c ≡ used_up n c
credited_some n c some =
    let test : nat_lt 0 n ≡ true = grind (arith, nat_tests, some) in
    rw test refl

abbrev made : Phase → Connection → Bool → List ℕ → ℕ → Framing → List ℕ → Discovery
made p c a chunk n f w = record { phase = p; conn = c; answered = a; chunk = chunk; counted = n; framing = f; waiting = w }

-- a part is a link's where each of its fields is
same_part : (x : Discovery) (k : Link) → x.phase ≡ phase_of k.phase → x.conn ≡ k.conn → x.answered ≡ k.answered → x.chunk ≡ []
    → x.counted ≡ 0 → x.framing ≡ k.inbox.framer → x.waiting ≡ k.inbox.waiting → x ≡ part_of k
same_part x k p c a chunk n f w =
    ap (λ v. made v x.conn x.answered x.chunk x.counted x.framing x.waiting) p
    ∙ ap (λ v. made (phase_of k.phase) v x.answered x.chunk x.counted x.framing x.waiting) c
    ∙ ap (λ v. made (phase_of k.phase) k.conn v x.chunk x.counted x.framing x.waiting) a
    ∙ ap (λ v. made (phase_of k.phase) k.conn k.answered v x.counted x.framing x.waiting) chunk
    ∙ ap (λ v. made (phase_of k.phase) k.conn k.answered [] v x.framing x.waiting) n
    ∙ ap (λ v. made (phase_of k.phase) k.conn k.answered [] 0 v x.waiting) f
    ∙ ap (λ v. made (phase_of k.phase) k.conn k.answered [] 0 k.inbox.framer v) w

-- a link that is to be closed doesn't live
faulted_dead : (code : ℕ) → faulted code ≡ live → ⊥
faulted_dead code e = cc

ending_dead : (c : Cause) → ending c ≡ live → ⊥
ending_dead c e = cc

-- a link that lived fares on where it goes on
fares_by : (end : Option Cause) (y : Discovery) → y.phase ≡ phase_by live end → (y.phase ≡ live → Fares y) → FaresOn y
fares_by None y is fares = subst (λ p. FaresBy p y) (sym is) (fares is)
fares_by (Some (cause.ConnFault code)) y is fares = subst (λ p. FaresBy p y) (sym is) tt
fares_by (Some c) y is fares = subst (λ p. FaresBy p y) (sym is) tt

-- what is heard of anything but DATA is what is told of it
record IsTold (answered : Bool) (c : Connection) (told : Found) (heard : Heard) : Type 0 where
  end : heard.end ≡ end_by answered (headers_read c) told
  accepted : (answered || heard.accepted) ≡ answered_by answered (headers_read c) told
  counted : heard.counted ≡ 0
  chunk : chunk_of c told ≡ []

module _ {J : Type 0} (judges : Judges J) (held new_held : Seen J) (k : Link) (c : Connection) (heard : Heard) (b : Inbox)
    (lives : is_live k.phase ≡ true) where
  -- the link behind it
  abbrev next : Link
  next = settled heard (record k { conn = c; inbox = b })

  abbrev x : Discovery
  x = part_of k

  x_lives : x.phase ≡ live
  x_lives = live_is k.phase lives

  look_leads : (told : Found) → looks.Looked x.conn told c → Leads judges k.number (state held x) (state held (on_found told c x))
  look_leads told l =
      goes (looked k.number l.points told (headers_read c)) x_lives (refl, c, link_looks x c told (refl, refl) l, refl, refl) (stays refl)

  -- where the link goes on its connection fares on
  fares_still : (told : Found) → looks.FaresBehind told c → (on_found told c x).phase ≡ live → kept.Fares c
  fares_still (found.Fault code) fares still = absurd (faulted_dead code still)
  fares_still told fares still = fares

  plain : (told : Found) → Finds k.conn c told → IsTold k.answered c told heard → new_held ≡ held → b ≡ k.inbox
      → Goes judges k.number held x new_held (part_of next)
  plain told finds t held_is box_is fares =
      let l = found_by_looks x.conn c told fares finds in
      let y = on_found told c x in
      let is : y ≡ part_of next =
      same_part y next (ap (phase_by (phase_of k.phase)) (sym t.end) ∙ sym (phase_of_end k.phase heard.end))
      (sym (credited_none (is_live (end_for k.phase heard.end)) c)
      ∙ ap (λ n. credited_by (is_live (end_for k.phase heard.end)) n c) (sym t.counted))
      (sym t.accepted) t.chunk (ap (λ (xs : List ℕ). length xs) t.chunk)
      (ap (λ (i : Inbox). i.framer) (sym box_is)) (ap (λ (i : Inbox). i.waiting) (sym box_is)) in
      record {
        part = y;
        leads = subst (λ (h : Seen J). Leads judges k.number (state held x) (state h y)) (sym held_is) (look_leads told l);
        agrees = agrees_same y (part_of next) is;
        so = fares_by (end_by k.answered (headers_read c) told) y (ap (λ p. phase_by p (end_by k.answered (headers_read c) told)) x_lives)
            (λ still. fares_still told l.fares still);
      }

  -- DATA
  data_whole : (s : ℕ) (end whole : Bool) (byte : ℕ) (bytes : List ℕ) → byte ∷ bytes ≡ data_told c
      → Finds k.conn c (found.Chunk s end) → heard ≡ data_heard (byte ∷ bytes) whole
      → TakesAll judges held k.inbox (byte ∷ bytes) whole new_held b → Goes judges k.number held x new_held (part_of next)
  data_whole s end true byte bytes data_is finds is takes fares =
      let told = found.Chunk s end in
      let l = found_by_looks x.conn c told fares finds in
      let z = with_box k.inbox (byte ∷ bytes) (record x { conn = c; counted = length (byte ∷ bytes) }) in
      let there : on_found told c x ≡ z =
      ap (λ (xs : List ℕ). with_box k.inbox xs (record x { conn = c; counted = length xs })) (sym data_is) in
      let y = credited (usable z) (with_box b [] z) in
      let some : 0 < length (byte ∷ bytes) = omega arith in
      let more : HasTaken judges k.number (state held z) z true new_held b =
      taken_leads judges k.number z held new_held k.inbox b (byte ∷ bytes) true x_lives some takes in
      let first = subst (λ (v : Discovery). Leads judges k.number (state held x) (state held v)) there (look_leads told l) in
      let same : y ≡ part_of next =
      subst (λ (h : Heard). y ≡ part_of (settled h (record k { conn = c; inbox = b }))) (sym is)
      (same_part y (settled (data_heard (byte ∷ bytes) true) (record k { conn = c; inbox = b })) refl
      (sym (credited_some (length (byte ∷ bytes)) c some) ∙ ap (λ v. credited_by v (length (byte ∷ bytes)) c) (sym lives))
      (sym (or_false k.answered)) refl refl refl refl) in
      record {
        part = y;
        leads = leads_on judges k.number (state held x) (state held z) (state new_held y) first more;
        agrees = agrees_same y (part_of next) same;
        so = fares_by None y x_lives
            (λ still. l.uses stream (min (length (byte ∷ bytes)) (creditable c stream)) (omega arith));
      }
  data_whole s end false byte bytes data_is finds is takes fares =
      let told = found.Chunk s end in
      let l = found_by_looks x.conn c told fares finds in
      let z = with_box k.inbox (byte ∷ bytes) (record x { conn = c; counted = length (byte ∷ bytes) }) in
      let there : on_found told c x ≡ z =
      ap (λ (xs : List ℕ). with_box k.inbox xs (record x { conn = c; counted = length xs })) (sym data_is) in
      let some : 0 < length (byte ∷ bytes) = omega arith in
      let more : HasTaken judges k.number (state held z) z false new_held b =
      taken_leads judges k.number z held new_held k.inbox b (byte ∷ bytes) false x_lives some takes in
      let first = subst (λ (v : Discovery). Leads judges k.number (state held x) (state held v)) there (look_leads told l) in
      let refused = settled (data_heard (byte ∷ bytes) false) (record k { conn = c; inbox = b }) in
      record {
        part = more.0;
        leads = leads_on judges k.number (state held x) (state held z) (state new_held more.0) first more.1;
        agrees = subst (λ (h : Heard). Agrees more.0 (part_of (settled h (record k { conn = c; inbox = b })))) (sym is)
            (record { phase = more.2; rest = tt });
        so = fares_by (Some cause.Discovery) more.0 more.2 (λ lives. absurd (ending_dead cause.Discovery (sym more.2 ∙ lives)));
      }

  data_heard_of : (s : ℕ) (end : Bool) (bytes : List ℕ) → bytes ≡ data_told c → Finds k.conn c (found.Chunk s end)
      → HearsData judges held k.inbox bytes heard new_held b → Goes judges k.number held x new_held (part_of next)
  data_heard_of s end [] is finds h =
      plain (found.Chunk s end) finds
      (record {
        end = ap (λ (v : Heard). v.end) h.0;
        accepted = ap (λ (v : Heard). k.answered || v.accepted) h.0 ∙ or_false k.answered;
        counted = ap (λ (v : Heard). v.counted) h.0;
        chunk = sym is;
      }) h.1 h.2
  data_heard_of s end (byte ∷ bytes) is finds h = data_whole s end h.0 byte bytes is finds h.2 h.1

  -- what is told is heard so
  told_of : (told : Found) (h : Option Happening) → heard ≡ heard_of k.answered h → IsTold k.answered c told (heard_of k.answered h)
      → IsTold k.answered c told heard
  told_of told h is t = subst (IsTold k.answered c told) (sym is) t

  ended : (told : Found) → chunk_of c told ≡ [] → answered_by k.answered (headers_read c) told ≡ k.answered
      → (e : Option Cause) → e ≡ end_by k.answered (headers_read c) told → IsTold k.answered c told (ends e)
  ended told chunk answered e is = record { end = is; accepted = or_false k.answered ∙ sym answered; counted = refl; chunk = chunk }

  heard_by : (told : Found) (h : Option Happening) → Finds k.conn c told → Shows c told h
      → Hears judges held k.inbox k.answered h heard new_held b → Goes judges k.number held x new_held (part_of next)
  heard_by found.Silent None finds shown (is, held_is, box_is) =
      plain found.Silent finds
      (told_of found.Silent None is (record { end = refl; accepted = or_false k.answered; counted = refl; chunk = refl })) held_is box_is
  heard_by (found.Opened s end) (Some (happening.Opened of headers last)) finds shown (is, held_is, box_is) =
      let read : headers.now.kept ≡ headers_read c = ap (λ (hs : HeaderList). hs.kept) shown.1 in
      plain (found.Opened s end) finds
      (told_of (found.Opened s end) (Some (happening.Opened of headers last)) is (record {
        end = ap₂ (λ (hs : List Header) (e : Bool). end_by_headers k.answered (status_of hs) e) read shown.2;
        accepted = ap (λ (hs : List Header). k.answered || is_accepted (status_of hs)) read;
        counted = refl;
        chunk = refl;
      })) held_is box_is
  heard_by (found.Chunk s end) (Some (happening.Chunk of bytes)) finds shown hears =
      data_heard_of s end bytes.now shown.1 finds hears
  heard_by (found.Ended s) (Some (happening.Ended of)) finds shown (is, held_is, box_is) =
      plain (found.Ended s) finds
      (told_of (found.Ended s) (Some (happening.Ended of)) is (ended (found.Ended s) refl refl (Some cause.Discovery) refl)) held_is box_is
  heard_by (found.Reset s code) (Some (happening.Reset of why)) finds shown (is, held_is, box_is) =
      plain (found.Reset s code) finds
      (told_of (found.Reset s code) (Some (happening.Reset of why)) is (ended (found.Reset s code) refl refl (Some cause.Discovery) refl))
      held_is box_is
  heard_by (found.Broken s code) (Some (happening.Broken of why)) finds shown (is, held_is, box_is) =
      plain (found.Broken s code) finds
      (told_of (found.Broken s code) (Some (happening.Broken of why)) is
      (ended (found.Broken s code) refl refl (Some cause.Discovery) refl))
      held_is box_is
  heard_by (found.GoneAway last) (Some (happening.GoneAway of)) finds shown (is, held_is, box_is) =
      plain (found.GoneAway last) finds
      (told_of (found.GoneAway last) (Some (happening.GoneAway of)) is
      (ended (found.GoneAway last) refl refl (if nat_lt of stream then Some cause.GoneAway else None)
      (ap (λ n. if nat_lt n stream then Some cause.GoneAway else None) shown)))
      held_is box_is
  heard_by (found.Fault code) (Some (happening.Fault why)) finds shown (is, held_is, box_is) =
      plain (found.Fault code) finds
      (told_of (found.Fault code) (Some (happening.Fault why)) is
      (ended (found.Fault code) refl refl (Some (cause.ConnFault why)) (ap (λ n. Some (cause.ConnFault n)) shown)))
      held_is box_is
  heard_by told h finds shown hears = absurd shown

pub look_goes : {J : Type 0} (judges : Judges J) (held new_held : Seen J) (k : Link) (c : Connection) (heard : Heard) (b : Inbox)
    (told : Found) (h : Option Happening)
    → is_live k.phase ≡ true → Finds k.conn c told → Shows c told h → Hears judges held k.inbox k.answered h heard new_held b
    → Goes judges k.number held (part_of k) new_held (part_of (settled heard (record k { conn = c; inbox = b })))
look_goes judges held new_held k c heard b told h lives finds shown hears =
    heard_by judges held new_held k c heard b lives told h finds shown hears

-- more may be told exactly where something was
data_more : {J : Type 0} (judges : Judges J) (held new_held : Seen J) (box b : Inbox) (heard : Heard) (bytes : List ℕ)
    → HearsData judges held box bytes heard new_held b
    → heard.more ≡ true
data_more judges held new_held box b heard [] hears = ap (λ (v : Heard). v.more) hears.0
data_more judges held new_held box b heard (byte ∷ bytes) hears = ap (λ (v : Heard). v.more) hears.2

more_told : {J : Type 0} (judges : Judges J) (held new_held : Seen J) (k : Link) (c : Connection) (heard : Heard) (b : Inbox)
    (told : Found) (h : Option Happening)
    → Shows c told h → Hears judges held k.inbox k.answered h heard new_held b → heard.more ≡ not (is_silent told)
more_told judges held new_held k c heard b found.Silent None shown hears = ap (λ (v : Heard). v.more) hears.0
more_told judges held new_held k c heard b (found.Opened s end) (Some (happening.Opened of headers last)) shown hears =
    ap (λ (v : Heard). v.more) hears.0
more_told judges held new_held k c heard b (found.Chunk s end) (Some (happening.Chunk of bytes)) shown hears =
    data_more judges held new_held k.inbox b heard bytes.now hears
more_told judges held new_held k c heard b (found.Ended s) (Some (happening.Ended of)) shown hears = ap (λ (v : Heard). v.more) hears.0
more_told judges held new_held k c heard b (found.Reset s code) (Some (happening.Reset of why)) shown hears =
    ap (λ (v : Heard). v.more) hears.0
more_told judges held new_held k c heard b (found.Broken s code) (Some (happening.Broken of why)) shown hears =
    ap (λ (v : Heard). v.more) hears.0
more_told judges held new_held k c heard b (found.GoneAway last) (Some (happening.GoneAway of)) shown hears =
    ap (λ (v : Heard). v.more) hears.0
more_told judges held new_held k c heard b (found.Fault code) (Some (happening.Fault why)) shown hears = ap (λ (v : Heard). v.more) hears.0
more_told judges held new_held k c heard b told h shown hears = absurd shown

not_true : (b : Bool) → not b ≡ true → b ≡ false
not_true true is = absurd (false≢true is)
not_true false is = refl

not_false : (b : Bool) → not b ≡ false → b ≡ true
not_false true is = refl
not_false false is = absurd (false≢true (sym is))

silent_is : (told : Found) → is_silent told ≡ true → told ≡ found.Silent
silent_is found.Silent is = refl
silent_is told is = absurd (false≢true is)

-- credit leaves what is still to be told as it was
credited_left : (b : Bool) (n : ℕ) (c : Connection) → left_of (credited_by b n c) ≡ left_of c
credited_left false n c = refl
credited_left true n c = by (nat_lt 0 n)
  where
    by : (some : Bool) → left_of (if some then used_up n c else c) ≡ left_of c
    by true =
        credited_leaves c stream (min n (creditable c stream))
    by false = refl

pub look_falls : {J : Type 0} (judges : Judges J) (held new_held : Seen J) (k : Link) (c : Connection) (heard : Heard) (b : Inbox)
    (told : Found) (h : Option Happening)
    → Shows c told h → LeavesLess k.conn c told → Hears judges held k.inbox k.answered h heard new_held b → heard.more ≡ true
    → left_of (settled heard (record k { conn = c; inbox = b })).conn < left_of k.conn
look_falls judges held new_held k c heard b told h shown less hears more =
    let loud = not_true (is_silent told) (sym (more_told judges held new_held k c heard b told h shown hears) ∙ more) in
    rw (credited_left (is_live (end_for k.phase heard.end)) heard.counted c) (less loud)

silent_rests : {J : Type 0} (judges : Judges J) (held new_held : Seen J) (k : Link) (c : Connection) (heard : Heard) (b : Inbox)
    (h : Option Happening)
    → Finds k.conn c found.Silent → Shows c found.Silent h → Hears judges held k.inbox k.answered h heard new_held b → Fares (part_of k)
    → IsLookedAt (settled heard (record k { conn = c; inbox = b })).conn
silent_rests judges held new_held k c heard b None finds shown hears fares =
    let lives = is_live (end_for k.phase heard.end) in
    let same : credited_by lives heard.counted c ≡ c =
    ap (λ n. credited_by lives n c) (ap (λ (v : Heard). v.counted) hears.0) ∙ credited_none lives c in
    subst IsLookedAt (sym same) (found_by_looks k.conn c found.Silent fares finds).rests
silent_rests judges held new_held k c heard b (Some h) finds shown hears fares = absurd shown

-- where nothing more is told all was looked at
pub look_is_last : {J : Type 0} (judges : Judges J) (held new_held : Seen J) (k : Link) (c : Connection) (heard : Heard) (b : Inbox)
    (told : Found) (h : Option Happening)
    → Finds k.conn c told → Shows c told h → Hears judges held k.inbox k.answered h heard new_held b → heard.more ≡ false
    → Fares (part_of k)
    → IsLookedAt (settled heard (record k { conn = c; inbox = b })).conn
look_is_last judges held new_held k c heard b told h finds shown hears none fares =
    let silent = silent_is told (not_false (is_silent told) (sym (more_told judges held new_held k c heard b told h shown hears) ∙ none)) in
    silent_rests judges held new_held k c heard b h (subst (λ (f : Found). Finds k.conn c f) silent finds)
    (subst (λ (f : Found). Shows c f h) silent shown) hears fares
