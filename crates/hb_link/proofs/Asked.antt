-- How a request is answered.
use Rattle.std.proofs.Common.{◌≡◌, inr, ℕ, zero, suc, ◌+◌, ◌-◌, ◌<◌, ◌≤◌, ◌==◌, not, Bool, true, false, cond, is_some, IsSome, if◌then◌else◌, List, [], ◌∷◌, Option, Some, None, refl, ap, ap₂, sym, ◌∙◌, subst, arith}
use Rattle.std.proofs.lemmas.Bool.{eqb-false, eqb-true}
use Rattle.std.proofs.lemmas.Bool.Decides.{nat_tests}
use Rattle.std.proofs.lemmas.List.{append-nil}
use Rattle.std.specs.FinMap.{get, insert}
use Rattle.std.specs.Prelude.{nat_le}
use Rattle.hb_base.specs.declared.ip.Ip.{Ip}
use Rattle.hb_base.specs.declared.note.Note.{Note}
use Rattle.hb_base.specs.declared.note.Note.TheVariants as note
use Rattle.hb_base.specs.declared.peer.Peer.{Peer}
use Rattle.hb_base.specs.declared.target.Target.{Target}
use Rattle.hb_conn.specs.Connection.{Connection}
use Rattle.hb_conn.specs.Observed.{sides, own_side_open, aborted}
use Rattle.hb_frames.specs.Numbers.{largest}
use Rattle.hb_held.specs.Held.{Resources}
use Rattle.hb_kept.specs.Kept.{Fares}
use Rattle.hb_map.proofs.Laws.{put_here, put_elsewhere}
use Rattle.hb_verdict.specs.Request.{request_of}
use Rattle.hb_table.specs.Judgement.{judged}
use Rattle.hb_table.specs.declared.judgement.Judged.{Judged}
use Rattle.hb_table.specs.declared.judgement.Judged.TheVariants.{Admitted, Unknown, Denied}
use Rattle.hb_verdict.specs.Verdict.{verdict, dial_judged, leads_back, synced}
use Rattle.hb_verdict.specs.declared.request.Request.{Request}
use Rattle.hb_verdict.specs.declared.request.Request.TheVariants.{Refused, Malformed, Connect}
use Rattle.hb_verdict.specs.declared.verdict.Verdict.{Verdict}
use Rattle.hb_verdict.specs.declared.verdict.Verdict.TheVariants.{Status, Reset, Dial}
use Rattle.hb_inbound.specs.Inbound as m
use Rattle.hb_inbound.specs.Inbound.{Inbound, at_stream}
use Rattle.hb_inbound.specs.Part.{Part, decided, refused, reset, note_in}
use Rattle.hb_inbound.specs.Runs.{Local, StandsFor, Steps, IsAnswerTo, Refuses, Resets, with_link, with_tunnel, tunnel_for, target_named, refused_on, verdict_on}
use Rattle.hb_inbound.specs.Tunnel as t
use Rattle.hb_inbound.specs.Tunnel.{Tunnel as Machine, asked, at_stage, is_unanswered, requested_with, takes_place}
use Rattle.hb_inbound.proofs.Waiting.{speaks, is_before}
use Rattle.hb_link.specs.declared.asking.Asked.{Asked}
use Rattle.hb_link.specs.declared.link.Link.{Link}
use Rattle.hb_link.specs.declared.tunnel.Stage.{Stage}
use Rattle.hb_link.specs.declared.tunnel.Stage.TheVariants.{Due, Opening, Live, Failed, Ended, Over}
use Rattle.hb_link.specs.declared.tunnel.Tunnel.{Tunnel}
use Rattle.hb_link.specs.Asking.{due_to, FindsFull, HasSpare, IsAnswerable, IsRequested}
use Rattle.hb_link.specs.Counting.{CountsPlaces}
use Rattle.hb_link.specs.Load.{load_below, HasLoad}
use Rattle.hb_link.specs.Noted.{Told, Takes}
use Rattle.hb_link.specs.Reaches.{Guard, IsInner, Follows}
use Rattle.hb_link.specs.Settling.{MayLook}
use Rattle.hb_link.specs.Shows.{ShowsBy}
use Rattle.hb_link.specs.Tunnels.{stage_of, ShowsAt, ShowsTunnel}
use Rattle.hb_link.proofs.Living.{serving_waits}
use Rattle.hb_link.proofs.Moving.{Map, link_with, Only, only_one, only_again, at_only}
use Rattle.hb_link.proofs.Noted.{takes_none}
use Rattle.hb_link.proofs.Refusals.{refused_fares, reset_fares}

-- PLACES

module _ (x y : Inbound) (same : (s : ℕ) → takes_place (x.tunnels s).stage ≡ takes_place (y.tunnels s).stage) where
  same_below : (n : ℕ) → load_below n x ≡ load_below n y
  same_below zero = refl
  same_below (suc n) = ap₂ (λ (i : ℕ) (b : Bool). i + (if b then 1 else 0)) (same_below n) (same n)

  same_load : (n : ℕ) → HasLoad x n → HasLoad y n
  same_load n load = record {
    bound = load.bound;
    below = λ s has. load.below s (same s ∙ has);
    count = sym (same_below load.bound) ∙ load.count;
  }

-- WHERE NOTHING WAS ASKED FOR

never_unasked : (stage : Stage) → stage_of stage ≡ t.unasked → ⊥
never_unasked Due is = cc
never_unasked Opening is = cc
never_unasked Live is = cc
never_unasked (Failed why) is = cc
never_unasked (Ended why) is = cc
never_unasked (Over why) is = cc

shown_stage : (stage : t.Stage) (k : Tunnel) (x : Machine) → stage ≡ stage_of k.stage → ShowsAt stage k x → x.stage ≡ stage_of k.stage
shown_stage (t.over why) k x is shown = shown.0 ∙ is
shown_stage stage k x is shown = ap (λ (y : Machine). y.stage) shown.0

-- the code has no tunnel there
pub none_there : (o : Option Tunnel) (x : Machine) → ShowsTunnel o x → x.stage ≡ t.unasked → o ≡ None
none_there None x shown is = refl
none_there (Some k) x shown is =
    absurd (never_unasked k.stage (sym (shown_stage (stage_of k.stage) k x refl shown) ∙ is))

-- THE TUNNEL THAT IS DUE

due_shown : (target : Target) (end : Bool) → ShowsTunnel (Some (due_to target end)) (asked target end)
due_shown target true = (refl, refl)
due_shown target false = (refl, refl)

due_answered : (target : Target) (end : Bool) → is_unanswered (asked target end).stage ≡ false
due_answered target true = refl
due_answered target false = refl

numbered_with : (tunnels : Map) (s : ℕ) (new : Tunnel) → ((j : ℕ) → IsSome (get tunnels j) → j ≤ largest) → s ≤ largest
    → (j : ℕ) → IsSome (get (insert tunnels s new) j) → j ≤ largest
numbered_with tunnels s new each number j some = by (j == s) refl
  where
    by : (b : Bool) → (j == s) ≡ b → j ≤ largest
    by true is = subst (λ (i : ℕ). i ≤ largest) (sym (eqb-true j s is)) number
    by false is = each j (sym (ap is_some (put_elsewhere tunnels s new j (eqb-false j s is))) ∙ some)

-- A REQUEST THAT WAITS FOR ITS ANSWER

module _ (others limit : ℕ) (q : Asked) (k : Link) (told : Told) (start : Resources) (before : List Part) (a : Local)
    (stands : StandsFor k.number start a before) (ask : IsRequested q k a.link) where
  abbrev G : Guard
  G = CountsPlaces others limit

  abbrev s : ℕ
  s = q.stream

  abbrev y : Inbound
  y = ask.before

  abbrev waiting : Machine
  waiting = requested_with ask.headers q.end

  abbrev z : Inbound
  z = at_stream s (λ v. waiting) y

  abbrev here : Local
  here = with_link z a

  same : a ≡ here
  same = ap (λ (x : Inbound). with_link x a) ask.is

  way : ShowsBy m.serving k y
  way = subst (λ (phase : m.Phase). ShowsBy phase k y) ask.may.serving ask.may.agrees.way

  only : Only s y.tunnels waiting z.tunnels
  only = only_one s (λ v. waiting) y

  pub none : get k.tunnels s ≡ None
  none = none_there (get k.tunnels s) (y.tunnels s) (ask.may.agrees.tunnels s) ask.unused

  -- this end's side of its stream is open
  pub own : own_side_open k.conn s ≡ true
  own =
      let stands_here = subst (λ (w : Local). StandsFor k.number start w before) same stands in
      let fits = (serving_waits k.number start here before stands_here ask.may.serving).each s in
      let stage = ap (λ (v : Machine). v.stage) only.this in
      subst (λ (c : Connection). own_side_open c s ≡ true) way.0
      (fits.own (ap speaks stage) (fits.early (ap is_before stage)))

  -- places are counted so
  counted : (n : ℕ) → HasLoad y n → HasLoad z n
  counted n load =
      same_load y z
      (at_only s y.tunnels waiting z.tunnels (λ j v. takes_place (y.tunnels j).stage ≡ takes_place v.stage) only
      (ap takes_place ask.unused) (λ j apart. refl)) n load

  module _ (full : Bool) (counts : FindsFull others limit k full) (answer : Verdict) (is : IsAnswerTo here ask.headers full answer) where
    abbrev made : Machine
    made = tunnel_for answer ask.headers q.end

    abbrev w : Inbound
    w = at_stream s (λ v. made) z

    abbrev next : Local
    next = with_link w here

    only_made : Only s y.tunnels made w.tunnels
    only_made = only_again s y.tunnels waiting z (λ v. made) only

    guard : G here (decided s full answer)
    guard = let found = counts y ask.may.agrees.tunnels in (found.0, counted found.0 found.1, found.2)

    step : Steps k.number here (decided s full answer) next
    step = (ask.may.serving, ask.headers, q.end, ap (λ (v : Machine). v.stage) only.this, is, refl)

    -- nothing more is to be done for it
    one_part : (n : Link) → MayLook n w → Follows G MayLook k.number a n told told
    one_part n may = subst (λ (b : Local). Follows G MayLook k.number b n told told) (sym same) (record {
      parts = decided s full answer ∷ [];
      reached = next;
      leads = (tt, guard, next, step, refl);
      shows = may;
      noted = takes_none told;
    })

    -- or a refusal or a reset follows
    two_parts : (n : Link) (p : Part) (last : Inbound) (notes : List Note) → IsInner p → G next p
        → Steps k.number next p (with_link last next) → note_in p ≡ notes → MayLook n last → (now : Told)
        → Takes told notes now → Follows G MayLook k.number a n told now
    two_parts n p last notes inner holds behind noted may now took =
        subst (λ (b : Local). Follows G MayLook k.number b n told now) (sym same) (record {
          parts = decided s full answer ∷ p ∷ [];
          reached = with_link last next;
          leads = (tt, guard, next, step, (inner, holds, with_link last next, behind, refl));
          shows = may;
          noted = subst (λ (ns : List Note). Takes told ns now) (sym noted ∙ sym (append-nil (note_in p))) took;
        })

    -- of the machine's tunnel nothing is left, with another connection that fares
    gone_looks : (c d : Connection) (v : Machine) → v.stage ≡ t.gone → d ≡ c → Fares d
        → MayLook (link_with c k.tunnels k) (with_tunnel s v d w)
    gone_looks c d v gone conn fares =
        let last = with_tunnel s v d w in
        let only_gone : Only s y.tunnels v last.tunnels = only_again s y.tunnels made w (λ u. v) only_made in
        record {
          agrees = record {
            phase = ask.may.agrees.phase;
            way = subst (λ (phase : m.Phase). ShowsBy phase (link_with c k.tunnels k) last) (sym ask.may.serving)
                (conn, fares.kept, way.2, way.3);
            tunnels = at_only s y.tunnels v last.tunnels (λ j u. ShowsTunnel (get k.tunnels j) u) only_gone
                (subst (λ (o : Option Tunnel). ShowsTunnel o v) (sym none) (inr gone))
                (λ j apart. ask.may.agrees.tunnels j);
            numbered = ask.may.agrees.numbered;
          };
          answered = at_only s y.tunnels v last.tunnels (λ j u. is_unanswered u.stage ≡ false) only_gone (ap is_unanswered gone)
              (λ j apart. ask.may.answered j);
          serving = ask.may.serving;
          fares = fares;
        }

  -- a target is to be dialled
  pub due_looks : (full : Bool) (counts : FindsFull others limit k full) (target : Target)
      (is : IsAnswerTo here ask.headers full (Dial target)) → Follows G MayLook k.number a (link_with k.conn (insert k.tunnels s (due_to target q.end)) k) told told
  due_looks full counts target is =
      let n = link_with k.conn (insert k.tunnels s (due_to target q.end)) k in
      let v = asked target q.end in
      let last = w full counts (Dial target) is in
      let only_due = only_made full counts (Dial target) is in
      one_part full counts (Dial target) is n (record {
        agrees = record {
          phase = ask.may.agrees.phase;
          way = subst (λ (phase : m.Phase). ShowsBy phase n last) (sym ask.may.serving) way;
          tunnels = at_only s y.tunnels v last.tunnels (λ j u. ShowsTunnel (get (insert k.tunnels s (due_to target q.end)) j) u) only_due
              (subst (λ (o : Option Tunnel). ShowsTunnel o v) (sym (put_here k.tunnels s (due_to target q.end))) (due_shown target q.end))
              (λ j apart.
              subst (λ (o : Option Tunnel). ShowsTunnel o (y.tunnels j))
              (sym (put_elsewhere k.tunnels s (due_to target q.end) j (eqb-false j s apart))) (ask.may.agrees.tunnels j));
          numbered = numbered_with k.tunnels s (due_to target q.end) ask.may.agrees.numbered ask.number;
        };
        answered = at_only s y.tunnels v last.tunnels (λ j u. is_unanswered u.stage ≡ false) only_due (due_answered target q.end)
            (λ j apart. ask.may.answered j);
        serving = ask.may.serving;
        fares = ask.may.fares;
      })

  spare_here : HasSpare y.conn
  spare_here = subst HasSpare (sym way.0) ask.spare

  -- a refusal is put
  pub refused_looks : (full : Bool) (counts : FindsFull others limit k full) (n : ℕ) (is : IsAnswerTo here ask.headers full (Status n))
      → 100 ≤ n → n < 1000 → (now : Told) → Takes told (note.Verdict k.number s n k.peer q.target ∷ []) now
      → Follows G MayLook k.number a (link_with (refused_on s n (sides k.conn s).peer k.conn) k.tunnels k) told now
  refused_looks full counts n is low high now took =
      let x2 = w full counts (Status n) is in
      let gone = at_stage t.gone (x2.tunnels s) in
      let resets = (sides y.conn s).peer in
      let d = refused_on s n resets y.conn in
      let put = note.Verdict k.number s n y.peer (target_named ask.headers) in
      let stage = ap (λ (v : Machine). v.stage) (only_made full counts (Status n) is).this in
      let last = with_tunnel s gone d x2 in
      let conn : d ≡ refused_on s n (sides k.conn s).peer k.conn =
      ap (λ (c : Connection). refused_on s n (sides c s).peer c) way.0 in
      let says : put ≡ note.Verdict k.number s n k.peer q.target =
      ap₂ (λ (p : Peer) (o : Option Target). note.Verdict k.number s n p o) way.2 (sym ask.target) in
      two_parts full counts (Status n) is (link_with (refused_on s n (sides k.conn s).peer k.conn) k.tunnels k)
      (refused s n resets put) last (put ∷ []) tt tt (
        ask.may.serving,
        gone,
        subst (λ (st : t.Stage). Refuses k.number s x2 st n put gone) (sym stage) (refl, refl, refl),
        refl,
        refl,
      )
      refl
      (gone_looks full counts (Status n) is (refused_on s n (sides k.conn s).peer k.conn) d gone refl conn
      (refused_fares y.conn s n resets ask.number low high spare_here ask.may.fares.kept))
      now (subst (λ (v : Note). Takes told (v ∷ []) now) (sym says) took)

  -- the stream is reset
  pub reset_looks : (full : Bool) (counts : FindsFull others limit k full) (is : IsAnswerTo here ask.headers full Reset) → (now : Told)
      → Takes told (note.Verdict k.number s 0 k.peer None ∷ []) now
      → Follows G MayLook k.number a (link_with (aborted k.conn s 1) k.tunnels k) told now
  reset_looks full counts is now took =
      let x2 = w full counts Reset is in
      let gone = at_stage t.gone (x2.tunnels s) in
      let d = aborted y.conn s 1 in
      let put = note.Verdict k.number s 0 y.peer None in
      let stage = ap (λ (v : Machine). v.stage) (only_made full counts Reset is).this in
      let last = with_tunnel s gone d x2 in
      two_parts full counts Reset is (link_with (aborted k.conn s 1) k.tunnels k) (reset s 1 put) last (put ∷ []) tt tt (
        ask.may.serving,
        gone,
        subst (λ (st : t.Stage). Resets k.number s x2 st 1 put gone) (sym stage) (refl, refl, refl),
        refl,
      )
      refl
      (gone_looks full counts Reset is (aborted k.conn s 1) d gone refl (ap (λ (c : Connection). aborted c s 1) way.0)
      (reset_fares y.conn s 1 ask.number spare_here ask.may.fares.kept))
      now (subst (λ (p : Peer). Takes told (note.Verdict k.number s 0 p None ∷ []) now) (sym way.2) took)

  -- the answer by what is held
  pub answers : (held : Resources) (full : Bool) → a.held ≡ held → verdict q.request held k.peer full ≡ verdict_on here ask.headers full
  answers held full holds =
      ap (λ (r : Request). verdict r held k.peer full) ask.request
      ∙ ap (λ (to : Ip). verdict (request_of ask.headers to) held k.peer full) (sym way.3)
      ∙ ap (λ (p : Peer). verdict (request_of ask.headers y.destination) held p full) (sym way.2)
      ∙ ap (λ (h : Resources). verdict (request_of ask.headers y.destination) h y.peer full) (sym holds)

-- HOW MANY PLACES ARE TAKEN

module _ (x : Inbound) where
  none_at : (i : ℕ) → takes_place (x.tunnels i).stage ≡ false → load_below (suc i) x ≡ load_below i x
  none_at i none =
      let here = ap (λ (b : Bool). load_below i x + (if b then 1 else 0)) none in
      omega (arith, here)

  none_high : (n more : ℕ) → ((s : ℕ) → takes_place (x.tunnels s).stage ≡ true → s < n) → (b : Bool)
      → takes_place (x.tunnels (more + n)).stage ≡ b → takes_place (x.tunnels (more + n)).stage ≡ false
  none_high n more below false is = is
  none_high n more below true is = absurd (let low = below (more + n) is in omega (arith, low))

  -- behind the last stream with a place there is none more
  no_more : (n more : ℕ) → ((s : ℕ) → takes_place (x.tunnels s).stage ≡ true → s < n) → load_below (more + n) x ≡ load_below n x
  no_more n zero below = let same : 0 + n ≡ n = omega arith in ap (λ (i : ℕ). load_below i x) same
  no_more n (suc more) below =
      let here = none_at (more + n) (none_high n more below (takes_place (x.tunnels (more + n)).stage) refl) in
      let front = no_more n more below in
      let same : suc more + n ≡ suc (more + n) = omega arith in
      ap (λ (i : ℕ). load_below i x) same ∙ here ∙ front

  -- so there are so many, whichever stream it is counted to
  pub one_load : (n m : ℕ) → HasLoad x n → HasLoad x m → n ≡ m
  one_load n m first second =
      let up = no_more first.bound second.bound first.below in
      let down = no_more second.bound first.bound second.below in
      let same : second.bound + first.bound ≡ first.bound + second.bound = omega arith in
      sym first.count ∙ sym up ∙ ap (λ (i : ℕ). load_below i x) same ∙ down ∙ second.count

  pub same_places : (others limit m n : ℕ) → HasLoad x m → HasLoad x n → nat_le (limit - others) m ≡ nat_le limit (others + n)
  same_places others limit m n first second =
      let same = one_load m n first second in
      grind (arith, nat_tests, same)

-- a status has three digits
judged_fits : (j : Judged) (own full : Bool) (target : Target) (n : ℕ) → dial_judged j own full target ≡ Status n
    → (100 ≤ n) × (n < 1000)
judged_fits Unknown own full target n is = let same : 404 ≡ n = cc in (omega (arith, same), omega (arith, same))
judged_fits Denied own full target n is = let same : 401 ≡ n = cc in (omega (arith, same), omega (arith, same))
judged_fits Admitted true full target n is = let same : 400 ≡ n = cc in (omega (arith, same), omega (arith, same))
judged_fits Admitted false true target n is = let same : 503 ≡ n = cc in (omega (arith, same), omega (arith, same))
judged_fits Admitted false false target n is = absurd (cc)

dial_fits : (b : Bool) (j : Judged) (own full : Bool) (target : Target) (n : ℕ)
    → cond b (Status 503) (dial_judged j own full target) ≡ Status n → (100 ≤ n) × (n < 1000)
dial_fits true j own full target n is = let same : 503 ≡ n = cc in (omega (arith, same), omega (arith, same))
dial_fits false j own full target n is = judged_fits j own full target n is

pub verdict_fits : (request : Request) (held : Resources) (peer : Peer) (full : Bool) (n : ℕ) → IsAnswerable request
    → verdict request held peer full ≡ Status n → (100 ≤ n) × (n < 1000)
verdict_fits (Refused status) held peer full n fits is =
    let same : status ≡ n = cc in (omega (arith, same, fits.0), omega (arith, same, fits.1))
verdict_fits Malformed held peer full n fits is = absurd (cc)
verdict_fits (Connect target) held peer full n fits is =
    dial_fits (not (synced held)) (judged held peer target) (leads_back held.doors target) full target n is

-- the same link
pub goes_as : (k : Link) {guard : Guard} {a : Local} {m n : Link} {told now : Told} → n ≡ m → m.number ≡ k.number
    → Follows guard MayLook k.number a m told now → (n.number ≡ k.number) × Follows guard MayLook k.number a n told now
goes_as k {guard = guard} {a = a} {n = n} {told = told} {now = now} equal number follows = (
  ap (λ (l : Link). l.number) equal ∙ number,
  subst (λ (l : Link). Follows guard MayLook k.number a l told now) (sym equal) follows,
)
