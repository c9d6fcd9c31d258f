-- What is told of a link's connection leads its machine to what is heard.
use Rattle.std.proofs.Common.{◌≡◌, ⊎_elim, ℕ, ◌+◌, ◌<◌, ◌≤◌, ◌||◌, not, Bool, true, false, cond, List, [], ◌∷◌, ◌++◌, length, Option, Some, None, Result, Ok, Err, refl, ap, ap₂, sym, ◌∙◌, subst, arith, length-append}
use Rattle.std.proofs.lemmas.Bool.{false≢true}
use Rattle.std.specs.FinMap.{get}
use Rattle.std.specs.Prelude.{nat_lt, codes}
use Rattle.hb_base.specs.TargetText.{target_of}
use Rattle.hb_base.specs.declared.cause.Cause.TheVariants as cause
use Rattle.hb_base.specs.declared.ip.Ip.{Ip}
use Rattle.hb_base.specs.declared.target.BadTarget.{BadTarget}
use Rattle.hb_base.specs.declared.target.Target.{Target}
use Rattle.hb_conn.specs.Connection.{Connection, Finds, LeavesLess}
use Rattle.hb_conn.specs.Loan.{Shows as Tells}
use Rattle.hb_conn.specs.Observed.{is_over, header_list, data_told}
use Rattle.hb_conn.specs.Outcome.{is_silent}
use Rattle.hb_conn.specs.declared.found.Found.{Found}
use Rattle.hb_conn.specs.declared.found.Found.TheVariants as found
use Rattle.hb_conn.specs.declared.happening.Happening.{Happening}
use Rattle.hb_conn.specs.declared.happening.Happening.TheVariants as happening
use Rattle.hb_held.specs.Held.{Resources}
use Rattle.hb_held.specs.Lookup.{ip_eq}
use Rattle.hb_history.proofs.Over.{finds_over}
use Rattle.hb_hpack.specs.declared.header.HeaderList.{HeaderList}
use Rattle.hb_kept.specs.Kept.{Fares}
use Rattle.hb_kept.specs.Looks as looks
use Rattle.hb_kept.proofs.CreditableRuns.{looks_add}
use Rattle.hb_kept.proofs.Looks.{looks as found_by_looks}
use Rattle.hb_tunnel.specs.Tunnel.{up_size}
use Rattle.hb_verdict.specs.Fields.{value_of, is_connect, is_malformed}
use Rattle.hb_verdict.specs.Request.{request_of, connect_by, connect_at}
use Rattle.hb_verdict.specs.declared.request.Request.TheVariants.{Refused, Malformed, Connect}
use Rattle.hb_inbound.specs.Inbound as m
use Rattle.hb_inbound.specs.Inbound.{Inbound, at_stream, on_found}
use Rattle.hb_inbound.specs.Part.{Part, looked, moves, tellings}
use Rattle.hb_inbound.specs.Runs.{Local, StandsFor, goes_on as steps_on, with_link, target_named, target_in, target_or_none}
use Rattle.hb_inbound.specs.Sides.{conn_came, link_went}
use Rattle.hb_inbound.specs.Tunnel as t
use Rattle.hb_inbound.specs.Tunnel.{came_up, peer_ended, requested_with}
use Rattle.hb_inbound.proofs.EndsRun.{new_streams}
use Rattle.hb_inbound.proofs.RingsRun.{runs_fit_rings}
use Rattle.hb_inbound.proofs.Runs.{all_keep}
use Rattle.hb_link.specs.declared.hearing.Heard.{Heard}
use Rattle.hb_link.specs.declared.hearing.Heard.TheVariants as heard
use Rattle.hb_link.specs.declared.link.Link.{Link}
use Rattle.hb_link.specs.Asking.{named_by}
use Rattle.hb_link.specs.Counting.{CountsPlaces, places}
use Rattle.hb_link.specs.Looking.{changed_at, came_here, up_ended_here, left_to_look, heard_of, tunnels_heard, goes_on, HasHeard, Looked}
use Rattle.hb_link.specs.Noted.{Told}
use Rattle.hb_link.specs.Reaches.{Guard, Follows}
use Rattle.hb_link.specs.Settling.{MayPut, MayLook, LookedIn, Settles}
use Rattle.hb_link.specs.Shows.{ShowsBy}
use Rattle.hb_link.proofs.Changed.{changed_looks, looks_with, came_shown, ended_shown}
use Rattle.hb_link.proofs.Moving.{Map, link_with, machine_with, only_one}
use Rattle.hb_link.proofs.Noted.{takes_none}
use Rattle.hb_link.proofs.Room.{opened_fits}
use Rattle.hb_link.proofs.Settles.{settles_then}
use Rattle.hb_link.proofs.UpEnds.{ups_go}

-- THE TARGET THAT A REQUEST NAMES

module _ (to : Ip) where
  named_target : (o : Option (List ℕ)) (r : Result Target BadTarget) (headers : HeaderList)
      → target_in (value_of (codes ":authority") headers.kept) ≡ target_or_none r → target_or_none r ≡ named_by (connect_at to r) headers
  named_target o (Err why) headers is = sym is
  named_target o (Ok target) headers is = by (ip_eq target.ip to)
    where
      by : (b : Bool) → Some target ≡ named_by (cond b (Connect target) (Refused 400)) headers
      by true = refl
      by false = sym is

  named_authority : (o : Option (List ℕ)) (headers : HeaderList) → value_of (codes ":authority") headers.kept ≡ o
      → target_in o ≡ named_by (connect_by to o) headers
  named_authority None headers is = sym (ap target_in is)
  named_authority (Some text) headers is = named_target (Some text) (target_of text) headers (ap target_in is)

  -- it is what its headers name
  pub names : (headers : HeaderList) → named_by (request_of headers to) headers ≡ target_named headers
  names headers = sym (by (nat_lt 16384 headers.size) (is_malformed headers.kept) (is_connect headers.kept))
    where
      by : (large bad asks : Bool)
          → cond (large || bad) None (cond asks (target_in (value_of (codes ":authority") headers.kept)) None)
          ≡ named_by (cond large (Refused 431) (cond bad Malformed (cond (not asks) (Refused 405)
          (connect_by to (value_of (codes ":authority") headers.kept))))) headers
      by true bad asks = refl
      by false true asks = refl
      by false false false = refl
      by false false true = named_authority (value_of (codes ":authority") headers.kept) headers refl

-- LESS IS LEFT TO BE LOOKED AT

-- where more may be told behind it, no connection error was
no_fault : (to : Ip) (c : Connection) (told : Found) (h : Option Happening) → Tells c told h → goes_on (heard_of to h) ≡ true
    → (is_silent told ≡ false) × ((code : ℕ) → told ≡ found.Fault code → ⊥)
no_fault to c found.Silent None shown more = absurd (false≢true more)
no_fault to c (found.Opened s end) (Some (happening.Opened of headers last)) shown more = (refl, λ code is. cc)
no_fault to c (found.Chunk s end) (Some (happening.Chunk of bytes)) shown more = (refl, λ code is. cc)
no_fault to c (found.Ended s) (Some (happening.Ended of)) shown more = (refl, λ code is. cc)
no_fault to c (found.Reset s code) (Some (happening.Reset of why)) shown more = (refl, λ code is. cc)
no_fault to c (found.Broken s code) (Some (happening.Broken of why)) shown more = (refl, λ code is. cc)
no_fault to c (found.GoneAway last) (Some (happening.GoneAway of)) shown more = (refl, λ code is. cc)
no_fault to c (found.Fault code) (Some (happening.Fault why)) shown more = absurd (false≢true more)
no_fault to c told h shown more = absurd shown

pub heard_falls : (to : Ip) (c d : Connection) (told : Found) (h : Option Happening) → Finds c d told → Tells d told h → LeavesLess c d told
    → goes_on (heard_of to h) ≡ true → left_to_look d < left_to_look c
heard_falls to c d told h finds shown less more =
    let loud = no_fault to d told h shown more in
    let same : is_over d ≡ is_over c =
    ⊎_elim (λ (is : is_over d ≡ is_over c). is) (λ (why : (code : ℕ) × (told ≡ found.Fault code)). absurd (loud.1 why.0 why.1))
    (finds_over c d told finds) in
    let over = ap {B = ℕ} (λ (b : Bool). cond b 0 1) same in
    let fell = less loud.0 in
    omega (arith, over, fell)

-- WHAT IS HEARD

module _ (others limit : ℕ) (k : Link) (c : Connection) (note : Told) (start : Resources) (before : List Part) (a : Local)
    (stands : StandsFor k.number start a before) (may : MayLook k a.link) where
  abbrev x : Inbound
  x = a.link

  abbrev G : Guard
  G = CountsPlaces others limit

  way : ShowsBy m.serving k x
  way = subst (λ (phase : m.Phase). ShowsBy phase k x) may.serving may.agrees.way

  -- with the connection that was found
  abbrev y : Inbound
  y = machine_with c x.tunnels x

  abbrev k1 : Link
  k1 = link_with c k.tunnels k

  found_here : (told : Found) → Finds k.conn c told → Finds x.conn c told
  found_here told finds = subst (λ (d : Connection). Finds d c told) (sym way.0) finds

  looked_here : (told : Found) → Finds k.conn c told → looks.Looked x.conn told c
  looked_here told finds = found_by_looks x.conn c told may.fares (found_here told finds)

  follows : (told : Found) (Q : Link → Inbound → Type 0) (n : Link) → looks.Looked x.conn told c → Q n (on_found told (header_list c) c x)
      → Follows G Q k.number a n note note
  follows told Q n look so = record {
    parts = looked look.points told (header_list c) ∷ [];
    reached = with_link (on_found told (header_list c) c x) a;
    leads = (
      tt,
      tt,
      with_link (on_found told (header_list c) c x) a,
      (may.serving, may.answered, c, look.look, refl, refl),
      refl,
    );
    shows = so;
    noted = takes_none note;
  }

  looks_on : Fares c → MayLook k1 y
  looks_on fares = looks_with k x c may fares

  silent : Finds k.conn c found.Silent → Follows G MayPut k.number a k1 note note
  silent finds =
      let look = looked_here found.Silent finds in
      let on = looks_on look.fares in
      follows found.Silent MayPut k1 look (record {
        agrees = on.agrees;
        answered = on.answered;
        looked = subst (λ (phase : m.Phase). LookedIn phase y) (sym may.serving) look.rests;
      })

  -- DATA fits, and its tunnel's way up goes on
  chunk : (s : ℕ) (end : Bool) (bytes : List ℕ) → bytes ≡ data_told c → Finds k.conn c (found.Chunk s end)
      → Follows G MayLook k.number a (link_with c (changed_at s (came_here bytes) k.tunnels) k) note note
  chunk s end bytes is finds =
      let told = found.Chunk s end in
      let look = looked_here told finds in
      let keeps = all_keep k.number start a before stands in
      let adds = looks_add (moves before) look.points (tellings before) (conn_came before) (link_went before) x.conn c told
      keeps.one.stands look.look in
      let goes = ups_go k.number start a before stands may.serving s adds.was in
      let b = with_link (on_found told (header_list c) c x) a in
      let p = looked look.points told (header_list c) in
      let rings = (runs_fit_rings k.number start b (before ++ p ∷ [])
      (steps_on stands p (may.serving, may.answered, c, look.look, refl, refl) refl)).0 s in
      let now = ap (λ (z : t.Tunnel). length z.ways.up.held) (only_one s (came_up (data_told c)) y).this in
      let fits : length (x.tunnels s).ways.up.held + length (data_told c) ≤ up_size =
      omega (arith, rings.up, now, length-append (x.tunnels s).ways.up.held (data_told c)) in
      subst (λ (bs : List ℕ). Follows G MayLook k.number a (link_with c (changed_at s (came_here bs) k.tunnels) k) note note) (sym is)
      (follows told MayLook (link_with c (changed_at s (came_here (data_told c)) k.tunnels) k) look
      (changed_looks k1 y s (came_here (data_told c)) (came_up (data_told c)) (looks_on look.fares)
      (came_shown (data_told c) (get k.tunnels s) (x.tunnels s) goes fits (may.agrees.tunnels s)) (may.answered s)))

  ended : (s : ℕ) → Finds k.conn c (found.Ended s)
      → Follows G MayLook k.number a (link_with c (changed_at s up_ended_here k.tunnels) k) note note
  ended s finds =
      let look = looked_here (found.Ended s) finds in
      follows (found.Ended s) MayLook (link_with c (changed_at s up_ended_here k.tunnels) k) look
      (changed_looks k1 y s up_ended_here peer_ended (looks_on look.fares)
      (ended_shown (get k.tunnels s) (x.tunnels s) (may.agrees.tunnels s)) (may.answered s))

  heard_by : (told : Found) (h : Option Happening) → Finds k.conn c told → Tells c told h
      → Follows G (HasHeard (heard_of k.destination h)) k.number a (link_with c (tunnels_heard h k.tunnels) k) note note
  heard_by found.Silent None finds shown = silent finds
  heard_by (found.Opened s end) (Some (happening.Opened of headers last)) finds shown =
      let told = found.Opened s end in
      let look = looked_here told finds in
      let fits = opened_fits x.conn c s end may.fares (found_here told finds) look.fares.kept.goes_on in
      follows told (HasHeard (heard_of k.destination (Some (happening.Opened of headers last)))) k1 look (record {
        before = y;
        may = looks_on look.fares;
        unused = subst (λ (n : ℕ). (x.tunnels n).stage ≡ t.unasked) (sym shown.0)
            (new_streams k.number start a before stands s end c (found_here told finds));
        spare = fits.1;
        number = subst (λ (n : ℕ). n ≤ 2147483647) (sym shown.0) fits.0;
        headers = header_list c;
        request = ap (λ (hs : HeaderList). request_of hs k.destination) shown.1;
        target = names k.destination headers.now ∙ ap target_named shown.1;
        is = ap₂ (λ (n : ℕ) (e : Bool). at_stream n (λ (z : t.Tunnel). requested_with (header_list c) e) y) (sym shown.0) (sym shown.2);
      })
  heard_by (found.Chunk s end) (Some (happening.Chunk of bytes)) finds shown =
      subst (λ (n : ℕ). Follows G MayLook k.number a (link_with c (changed_at n (came_here bytes.now) k.tunnels) k) note note) (sym shown.0)
      (chunk s end bytes.now shown.1 finds)
  heard_by (found.Ended s) (Some (happening.Ended of)) finds shown =
      subst (λ (n : ℕ). Follows G MayLook k.number a (link_with c (changed_at n up_ended_here k.tunnels) k) note note) (sym shown)
      (ended s finds)
  heard_by (found.Reset s code) (Some (happening.Reset of why)) finds shown =
      let look = looked_here (found.Reset s code) finds in
      follows (found.Reset s code) (HasHeard (heard.Left of (cause.PeerReset why))) k1 look (record {
        before = y;
        may = looks_on look.fares;
        is = ap₂ (λ (n e : ℕ). at_stream n (t.ends_for (cause.PeerReset e)) y) (sym shown.0) (sym shown.1);
      })
  heard_by (found.Broken s code) (Some (happening.Broken of why)) finds shown =
      let look = looked_here (found.Broken s code) finds in
      follows (found.Broken s code) (HasHeard (heard.Left of (cause.StreamFault why))) k1 look (record {
        before = y;
        may = looks_on look.fares;
        is = ap₂ (λ (n e : ℕ). at_stream n (t.ends_for (cause.StreamFault e)) y) (sym shown.0) (sym shown.1);
      })
  heard_by (found.GoneAway last) (Some (happening.GoneAway of)) finds shown =
      let look = looked_here (found.GoneAway last) finds in
      follows (found.GoneAway last) MayLook k1 look (looks_on look.fares)
  heard_by (found.Fault code) (Some (happening.Fault why)) finds shown =
      let look = looked_here (found.Fault code) finds in
      follows (found.Fault code) (HasHeard (heard.Fault why)) k1 look (record {
        before = y;
        conn = refl;
        tunnels = may.agrees.tunnels;
        numbered = may.agrees.numbered;
        answered = may.answered;
        is = ap (λ (n : ℕ). m.ends_with (m.faulted n) (cause.ConnFault n) y) (sym shown);
      })
  heard_by told h finds shown = absurd shown

pub heard_settles : (others limit : ℕ) (H : Resources → Type 0) (k : Link) (c : Connection) (note : Told) (told : Found)
    (h : Option Happening) → Finds k.conn c told → Tells c told h
    → Settles others limit H MayLook (HasHeard (heard_of k.destination h)) k note (link_with c (tunnels_heard h k.tunnels) k) note
heard_settles others limit H k c note told h finds shown start before a stands holds may =
    (refl, heard_by others limit k c note start before a stands may told h finds shown)

-- A LOOK

module _ (k : Link) (c : Connection) (tunnels : Map) (what : Heard) (told : Found) (h : Option Happening) (finds : Finds k.conn c told)
    (tells : Tells c told h) (is : what ≡ heard_of k.destination h) where
  pub look_settles : (others limit : ℕ) (H : Resources → Type 0) (more : Bool) (new : Link) (note now : Told)
      → tunnels ≡ tunnels_heard h k.tunnels
      → Settles others limit H (HasHeard what) (Looked more) (link_with c tunnels k) note new now
      → Settles others limit H MayLook (Looked more) k note new now
  look_settles others limit H more new note now changed behind =
      let first = heard_settles others limit H k c note told h finds tells in
      let heard_it = subst (λ (v : Heard). Settles others limit H MayLook (HasHeard v) k note (link_with c tunnels k) note) (sym is)
      (subst (λ (t : Map). Settles others limit H MayLook (HasHeard (heard_of k.destination h)) k note (link_with c t k) note)
      (sym changed) first) in
      settles_then (places others limit) H MayLook (HasHeard what) (Looked more) k (link_with c tunnels k) new note note now heard_it behind

  pub look_falls : (more : Bool) (new : Connection) → LeavesLess k.conn c told → more ≡ goes_on what
      → (more ≡ true → left_to_look new ≡ left_to_look c) → more ≡ true → left_to_look new < left_to_look k.conn
  look_falls more new less goes same on =
      let fell = heard_falls k.destination k.conn c told h finds tells less (ap goes_on (sym is) ∙ sym goes ∙ on) in
      omega (arith, fell, same on)
