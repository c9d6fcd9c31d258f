-- Bytes that come on a link.
use Rattle.std.proofs.Common.{◌≡◌, inl, inr, ℕ, ◌≤◌, true, false, List, [], ◌∷◌, ◌++◌, length, drop, Option, None, refl, ap, ap₂, sym, ◌∙◌, subst, arith, length-drop}
use Rattle.std.proofs.lemmas.Bool.{false≢true}
use Rattle.std.specs.FinMap.{get}
use Rattle.hb_base.specs.declared.cause.Cause.TheVariants as cause
use Rattle.hb_base.specs.declared.identity.Identity.{Identity}
use Rattle.hb_conn.specs.Connection.{Connection, fresh_server, taken}
use Rattle.hb_conn.specs.Observed.{room}
use Rattle.hb_frames.proofs.Runs.{octets_drop}
use Rattle.hb_frames.specs.Frames.{AreOctets}
use Rattle.hb_front.specs.Faults.{number_of}
use Rattle.hb_front.specs.Reading.{Seen, Answer, IsAnswer, Whole, More, Fault}
use Rattle.hb_front.specs.declared.fault.FrontFault.{FrontFault}
use Rattle.hb_held.specs.Held.{Resources}
use Rattle.hb_kept.specs.Kept.{Fares}
use Rattle.hb_kept.proofs.Kept.{new_is_kept, taken_fares, wanted_fares}
use Rattle.hb_streams.specs.declared.role.Role.TheVariants.{Server}
use Rattle.hb_world.specs.declared.entry.Entry.TheVariants as e
use Rattle.hb_front.specs.Room.{longest_front}
use Rattle.hb_inbound.specs.Calm.{wants_by, RestsIn}
use Rattle.hb_inbound.specs.Inbound as m
use Rattle.hb_inbound.specs.Inbound.{Inbound, came_by, with_phase, lacking, fronted_by}
use Rattle.hb_inbound.specs.Part.{Part, entry, lacked, fronted, misfronted, note_in}
use Rattle.hb_inbound.specs.Runs.{Local, StandsFor, goes_on, MayCome, Steps, Identifies, Lacks, with_link}
use Rattle.hb_inbound.specs.Tunnel as t
use Rattle.hb_inbound.specs.Tunnel.{ends_by, is_unanswered}
use Rattle.hb_inbound.proofs.Admitted.{KnowsBy}
use Rattle.hb_inbound.proofs.AdmittedRun.{all_admit}
use Rattle.hb_inbound.proofs.Runs.{FrontBy, all_keep}
use Rattle.hb_link.specs.declared.link.Link.{Link}
use Rattle.hb_link.specs.declared.phase.Phase.{Phase}
use Rattle.hb_link.specs.declared.phase.Phase.TheVariants.{Fronting, Serving, Faulted, Closing, Closed}
use Rattle.hb_link.specs.Calls.{Takes}
use Rattle.hb_link.specs.Counting.{CountsPlaces}
use Rattle.hb_link.specs.Fronting.{Fronts, TakesFront, HasCome, begun_with}
use Rattle.hb_link.specs.Noted.{Told}
use Rattle.hb_link.specs.Observed.{serves_in}
use Rattle.hb_link.specs.Reaches.{Guard, IsInner, Leads, Follows}
use Rattle.hb_link.specs.Settling.{MayPut, MayLook, LookedIn, Settles}
use Rattle.hb_link.specs.Shows.{Shows, ShowsBy}
use Rattle.hb_link.specs.Tunnels.{phase_of, ShowsTunnel}
use Rattle.hb_link.proofs.Asked.{none_there}
use Rattle.hb_link.proofs.Living.{is_serving}
use Rattle.hb_link.proofs.Noted.{takes_none, takes_quiet, parts_then}
use Rattle.hb_link.proofs.Settles.{leads_append, leads_hold, stands_behind}

-- BEFORE THE LOOKS

dead : (k : Link) (x : Inbound) → serves_in k.phase ≡ false → x.phase ≡ phase_of k.phase → x.phase ≡ m.serving → ⊥
dead k x off phase is = false≢true (sym off ∙ ap serves_in (is_serving k.phase (sym phase ∙ is)))

-- of what is no connection nothing is looked at
pub rests : (k : Link) (x : Inbound) → serves_in k.phase ≡ false → HasCome x.phase k x → MayPut k x
rests k x off come = by x.phase refl come
  where
    by : (phase : m.Phase) → x.phase ≡ phase → HasCome phase k x → MayPut k x
    by m.unborn is come = come
    by m.arriving is come = come
    by m.fronting is come = come
    by m.serving is come = absurd (dead k x off come.agrees.phase is)
    by (m.faulted code) is come = come
    by (m.closing why) is come = come
    by m.closed is come = come

serving_code : (phase : Phase) → serves_in phase ≡ true → phase_of phase ≡ m.serving
serving_code Serving on = refl
serving_code Fronting on = absurd (false≢true on)
serving_code (Faulted code) on = absurd (false≢true on)
serving_code (Closing why) on = absurd (false≢true on)
serving_code Closed on = absurd (false≢true on)

-- of a connection all may be
pub looks_first : (k : Link) (x : Inbound) → serves_in k.phase ≡ true → HasCome x.phase k x → MayLook k x
looks_first k x on come = by x.phase refl come
  where
    by : (phase : m.Phase) → x.phase ≡ phase → HasCome phase k x → MayLook k x
    by m.serving is come = come
    by m.unborn is come = absurd (let never = sym is ∙ come.agrees.phase ∙ serving_code k.phase on in cc)
    by m.arriving is come = absurd (let never = sym is ∙ come.agrees.phase ∙ serving_code k.phase on in cc)
    by m.fronting is come = absurd (let never = sym is ∙ come.agrees.phase ∙ serving_code k.phase on in cc)
    by (m.faulted code) is come = absurd (let never = sym is ∙ come.agrees.phase ∙ serving_code k.phase on in cc)
    by (m.closing why) is come = absurd (let never = sym is ∙ come.agrees.phase ∙ serving_code k.phase on in cc)
    by m.closed is come = absurd (let never = sym is ∙ come.agrees.phase ∙ serving_code k.phase on in cc)

-- where one condition gives another, what settles from that does from this
pub settles_from : (others limit : ℕ) (H : Resources → Type 0) (P Q R : Link → Inbound → Type 0) (k n : Link) (told now : Told)
    → ((x : Inbound) → P k x → Q k x) → Settles others limit H Q R k told n now → Settles others limit H P R k told n now
settles_from others limit H P Q R k n told now gives settles start before a stands holds is =
    settles start before a stands holds (gives a.link is)

-- THE BYTES

-- a new connection has room for all that a front header may have behind it
fresh_room : room fresh_server ≡ 65515
fresh_room = refl

fresh_fares : (bytes : List ℕ) → AreOctets bytes → length bytes ≤ longest_front → Fares (taken fresh_server bytes)
fresh_fares bytes octets few = taken_fares fresh_server bytes (new_is_kept Server) (refl, refl) octets (omega (arith, few, fresh_room))

module _ (others limit : ℕ) (held : Resources) (k : Link) (bytes : List ℕ) (told : Told) (start : Resources)
    (before : List Part) (a : Local) (stands : StandsFor k.number start a before) (shows : Shows k a.link)
    (may : MayCome k.number a.link (e.Came k.number bytes)) where
  abbrev G : Guard
  G = CountsPlaces others limit

  abbrev x : Inbound
  x = a.link

  abbrev part : Part
  part = entry (e.Came k.number bytes)

  abbrev b : Local
  b = with_link (came_by x.phase bytes x) a

  stands_b : StandsFor k.number start b (before ++ part ∷ [])
  stands_b = goes_on stands part (may, refl) refl

  -- they come on a connection
  served : k.phase ≡ Serving → Follows G (λ n y. HasCome y.phase n y) k.number b (record k { conn = taken k.conn bytes }) told told
  served is =
      let serving : x.phase ≡ m.serving = shows.phase ∙ ap phase_of is in
      let way = subst (λ (phase : m.Phase). ShowsBy phase k x) serving shows.way in
      let rest = subst (λ (phase : m.Phase). RestsIn phase x) serving shows.calm.rests in
      let many = subst (λ (phase : m.Phase). length bytes ≤ wants_by phase x) serving may.4 in
      let fares = (wanted_fares x.conn bytes way.1 rest.0 may.2 may.3 many).0 in
      let y = came_by m.serving bytes x in
      let n = record k { conn = taken k.conn bytes } in
      let looks : MayLook n y = record {
        agrees = record {
          phase = shows.phase;
          way = subst (λ (phase : m.Phase). ShowsBy phase n y) (sym serving)
              (ap (λ (c : Connection). taken c bytes) way.0, fares.kept, way.2, way.3);
          tunnels = shows.tunnels;
          numbered = shows.numbered;
        };
        answered = shows.calm.answered;
        serving = serving;
        fares = fares;
      } in
      let come : HasCome y.phase n y = subst (λ (phase : m.Phase). HasCome phase n y) (sym serving) looks in
      subst (λ (phase : m.Phase). Follows G (λ n y. HasCome y.phase n y) k.number (with_link (came_by phase bytes x) a) n told told)
      (sym serving)
      (record { parts = []; reached = with_link y a; leads = refl; shows = come; noted = takes_none told })

  -- they come of a front header
  module _ (is : k.phase ≡ Fronting) where
    fronting : x.phase ≡ m.fronting
    fronting = shows.phase ∙ ap phase_of is

    way : ShowsBy m.fronting k x
    way = subst (λ (phase : m.Phase). ShowsBy phase k x) fronting shows.way

    abbrev y : Inbound
    y = came_by m.fronting bytes x

    abbrev here : Local
    here = with_link y a

    abbrev k1 : Link
    k1 = record k { front = k.front ++ bytes }

    same : b ≡ here
    same = ap (λ (phase : m.Phase). with_link (came_by phase bytes x) a) fronting

    stands_here : StandsFor k.number start here (before ++ part ∷ [])
    stands_here = subst (λ (w : Local). StandsFor k.number start w (before ++ part ∷ [])) same stands_b

    front_is : y.front ≡ k1.front
    front_is = ap (λ (bs : List ℕ). bs ++ bytes) way.0

    unasked : (s : ℕ) → (x.tunnels s).stage ≡ t.unasked
    unasked = subst (λ (phase : m.Phase). KnowsBy phase (before ++ part ∷ []) y) fronting
        (all_admit k.number start here (before ++ part ∷ []) stands_here).knows

    none : (s : ℕ) → get k.tunnels s ≡ None
    none s = none_there (get k.tunnels s) (x.tunnels s) (shows.tunnels s) (unasked s)

    front_fits : FrontBy m.fronting (before ++ part ∷ []) y
    front_fits = subst (λ (phase : m.Phase). FrontBy phase (before ++ part ∷ []) y) fronting
        (all_keep k.number start here (before ++ part ∷ []) stands_here).front

    abbrev Come : Link → Inbound → Type 0
    Come n z = HasCome z.phase n z

    -- a part, or none, leads to what the header makes of the link
    by_part : (n : Link) (p : Part) (z : Inbound) → IsInner p → G here p → Steps k.number here p (with_link z here)
        → note_in p ≡ [] → Come n z → Follows G Come k.number here n told told
    by_part n p z inner guard step quiet come = record {
      parts = p ∷ [];
      reached = with_link z here;
      leads = (inner, guard, with_link z here, step, refl);
      shows = come;
      noted = takes_quiet told p quiet;
    }

    more : IsAnswer k1.front More → Follows G Come k.number here k1 told told
    more answer = record {
      parts = [];
      reached = here;
      leads = refl;
      shows = subst (λ (phase : m.Phase). HasCome phase k1 y) (sym fronting) (record {
        agrees = record {
          phase = shows.phase;
          way = subst (λ (phase : m.Phase). ShowsBy phase k1 y) (sym fronting) (front_is, way.1);
          tunnels = shows.tunnels;
          numbered = shows.numbered;
        };
        answered = shows.calm.answered;
        looked = subst (λ (phase : m.Phase). LookedIn phase y) (sym fronting)
            (subst (λ (bs : List ℕ). IsAnswer bs More) (sym front_is) answer);
      });
      noted = takes_none told;
    }

    -- the header is at fault, or memory is wanting
    fault : (why : FrontFault) → IsAnswer k1.front (Fault why)
        → Follows G Come k.number here (record k1 { phase = Closing (cause.FrontFault (number_of why)) }) told told
    fault why answer =
        let n = record k1 { phase = Closing (cause.FrontFault (number_of why)) } in
        let z = with_phase (m.closing (cause.FrontFault (number_of why))) y in
        by_part n (misfronted why) z tt tt
        (fronting, subst (λ (bs : List ℕ). IsAnswer bs (Fault why)) (sym front_is) answer, refl) refl
        (record {
          agrees = record { phase = refl; way = tt; tunnels = shows.tunnels; numbered = shows.numbered };
          answered = shows.calm.answered;
          looked = tt;
        })

    lacks : (seen : Seen) → IsAnswer k1.front (Whole seen)
        → Follows G Come k.number here (record k1 { phase = Closing cause.NoMemory }) told told
    lacks seen answer =
        let n = record k1 { phase = Closing cause.NoMemory } in
        let z = lacking y in
        by_part n lacked z tt tt (
          subst (λ (phase : m.Phase). Lacks phase y) (sym fronting)
              (seen, subst (λ (bs : List ℕ). IsAnswer bs (Whole seen)) (sym front_is) answer),
          refl,
        )
        refl
        (record {
          agrees = record {
            phase = refl;
            way = tt;
            tunnels = λ s.
                subst (λ (o : Option _). ShowsTunnel o (z.tunnels s)) (sym (none s)) (inl (ap (ends_by cause.NoMemory) (unasked s)));
            numbered = shows.numbered;
          };
          answered = λ s. ap (λ (st : t.Stage). is_unanswered (ends_by cause.NoMemory st)) (unasked s);
          looked = tt;
        })

    -- it is a connection from now on
    whole : (seen : Seen) (identity : Option Identity) → IsAnswer k1.front (Whole seen) → Identifies seen.identity identity
        → Follows G Come k.number here (begun_with seen identity k1) told told
    whole seen identity answer tells =
        let n = begun_with seen identity k1 in
        let rest = drop seen.length y.front in
        let z = fronted_by seen identity rest y in
        let octets = octets_drop seen.length y.front front_fits.3 in
        let few : length rest ≤ longest_front = omega (arith, length-drop seen.length y.front, front_fits.2) in
        let conn : taken fresh_server rest ≡ taken k.conn (drop seen.length k1.front) =
        ap₂ (λ (c : Connection) (bs : List ℕ). taken c (drop seen.length bs)) (sym way.1) front_is in
        let fares = fresh_fares rest octets few in
        by_part n (fronted seen) z tt tt (
          fronting,
          subst (λ (bs : List ℕ). IsAnswer bs (Whole seen)) (sym front_is) answer,
          identity,
          tells,
          refl,
        )
        refl
        (record {
          agrees = record {
            phase = refl;
            way = (conn, fares.kept, refl, refl);
            tunnels = shows.tunnels;
            numbered = shows.numbered;
          };
          answered = shows.calm.answered;
          serving = refl;
          fares = fares;
        })

    by_answer : (n : Link) (answer : Answer) → IsAnswer k1.front answer → Fronts answer k1 n → Follows G Come k.number here n told told
    by_answer n More answer fronts = subst (λ (l : Link). Follows G Come k.number here l told told) (sym fronts) (more answer)
    by_answer n (Fault why) answer fronts =
        subst (λ (l : Link). Follows G Come k.number here l told told) (sym fronts) (fault why answer)
    by_answer n (Whole seen) answer (inl lack) =
        subst (λ (l : Link). Follows G Come k.number here l told told) (sym lack) (lacks seen answer)
    by_answer n (Whole seen) answer (inr (identity, tells, begins)) =
        subst (λ (l : Link). Follows G Come k.number here l told told) (sym begins) (whole seen identity answer tells)

    front_taken : (n : Link) → TakesFront k1 n → Follows G Come k.number b n told told
    front_taken n takes =
        subst (λ (w : Local). Follows G Come k.number w n told told) (sym same) (by_answer n takes.0 takes.1 takes.2)

  -- and what follows then
  then_settles : (mid new : Link) (now : Told) → a.held ≡ held → mid.number ≡ k.number
      → Follows G (λ n y. HasCome y.phase n y) k.number b mid told told
      → Settles others limit (λ h. h ≡ held) (λ n y. HasCome y.phase n y) Shows mid told new now
      → (new.number ≡ k.number) × Follows G Shows k.number b new told now
  then_settles mid new now holds number first behind =
      let stands_then = subst (λ (i : ℕ). StandsFor i start first.reached ((before ++ part ∷ []) ++ first.parts)) (sym number)
      (stands_behind G k.number start b first.reached (before ++ part ∷ []) first.parts stands_b first.leads) in
      let two = behind start ((before ++ part ∷ []) ++ first.parts) first.reached stands_then
      (leads_hold G k.number b first.reached first.parts first.leads ∙ holds) first.shows in
      let last = two.1 in (
        two.0 ∙ number,
        record {
          parts = first.parts ++ last.parts;
          reached = last.reached;
          leads = leads_append G k.number b first.reached last.reached first.parts last.parts first.leads
              (subst (λ (i : ℕ). Leads G i first.reached last.parts last.reached) number last.leads);
          shows = last.shows;
          noted = parts_then told told now first.parts last.parts first.noted last.noted;
        },
      )

-- WHAT BYTES DO

same_number : (k n : Link) (answer : Answer) → Fronts answer k n → n.number ≡ k.number
same_number k n More fronts = ap (λ (l : Link). l.number) fronts
same_number k n (Fault why) fronts = ap (λ (l : Link). l.number) fronts
same_number k n (Whole seen) (inl lack) = ap (λ (l : Link). l.number) lack
same_number k n (Whole seen) (inr (identity, tells, begins)) = ap (λ (l : Link). l.number) begins

module _ (others limit : ℕ) (held : Resources) (k mid new : Link) (bytes : List ℕ) (told now : Told)
    (settles : Settles others limit (λ h. h ≡ held) (λ n y. HasCome y.phase n y) Shows mid told new now) where
  pub takes_served : k.phase ≡ Serving → mid ≡ record k { conn = taken k.conn bytes } → Takes held others limit bytes k told new now
  takes_served is same start before a b stands shows holds step =
      let first = subst (λ (n : Link). Follows (CountsPlaces others limit) (λ n y. HasCome y.phase n y) k.number
      (with_link (came_by a.link.phase bytes a.link) a) n told told) (sym same)
      (served others limit held k bytes told start before a stands shows step.0 is) in
      let done = then_settles others limit held k bytes told start before a stands shows step.0 mid new now holds
      (ap (λ (l : Link). l.number) same) first settles in
      subst (λ (w : Local). (new.number ≡ k.number) × Follows (CountsPlaces others limit) Shows k.number w new told now) (sym step.1) done

  pub takes_fronting : k.phase ≡ Fronting → TakesFront (record k { front = k.front ++ bytes }) mid
      → Takes held others limit bytes k told new now
  takes_fronting is takes start before a b stands shows holds step =
      let number = same_number (record k { front = k.front ++ bytes }) mid takes.0 takes.2 in
      let first = front_taken others limit held k bytes told start before a stands shows step.0 is mid takes in
      let done = then_settles others limit held k bytes told start before a stands shows step.0 mid new now holds number first settles in
      subst (λ (w : Local). (new.number ≡ k.number) × Follows (CountsPlaces others limit) Shows k.number w new told now) (sym step.1) done
