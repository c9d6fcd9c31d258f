-- Where DATA begins in a history of a connection it is within what the peer granted.
use Rattle.std.proofs.Common.{◌≡◌, ◌⊎◌, inl, inr, ℕ, ◌+◌, ◌-◌, ◌≤◌, ◌<◌, ◌==◌, ◌&&◌, not, Bool, true, false, cond, List, [], ◌∷◌, ◌++◌, length, take, drop, filter, Some, None, refl, ap, sym, ◌∙◌, subst, arith, length-append, length-drop}
use Rattle.std.proofs.lemmas.Bool.{false≢true}
use Rattle.std.proofs.lemmas.List.{append_assoc, append-nil}
use Rattle.std.proofs.lemmas.List.Concat.{flat_map-append}
use Rattle.std.proofs.lemmas.List.Elements.{filter-append}
use Rattle.hb_conn.specs.Connection.{Connection}
use Rattle.hb_conn.specs.Faults.{faulted, is_active}
use Rattle.hb_conn.specs.Frames.{frame, sent}
use Rattle.hb_conn.specs.Payload.{count_put}
use Rattle.hb_conn.specs.declared.found.Found.{Found}
use Rattle.hb_conn.specs.declared.machine.Core.{Core}
use Rattle.hb_flow.specs.Flows.{closed, spent}
use Rattle.hb_frames.specs.Numbers.{data_kind}
use Rattle.hb_frames.specs.RawFrame.{RawFrame, spelling}
use Rattle.hb_history.proofs.Acknowledged.{number, all_counted}
use Rattle.hb_history.proofs.Acted.{act_keeps, look_keeps, move_keeps}
use Rattle.hb_history.proofs.Answered.{AllAnswered, answered_moves, answered_new}
use Rattle.hb_history.proofs.First.{NoData}
use Rattle.hb_history.proofs.Fitting.{data_fits_everywhere}
use Rattle.hb_history.proofs.Handled.{Grows, window_keeps}
use Rattle.hb_history.proofs.Kept as kept
use Rattle.hb_history.proofs.NoneOf.{none_more, none_left, none_filtered, none_kept}
use Rattle.hb_history.proofs.Parts.{Amid, calm, Keeps, Puts, PutsAck, Resizes}
use Rattle.hb_history.proofs.Shown.{OfOut, out_keeps, out_puts, out_resizes, out_grows, none_behind, rest_keeps, rest_puts, rest_acks}
use Rattle.hb_history.specs.Calls.{IsAct, IsLook}
use Rattle.hb_history.specs.Fits.{acknowledges, FitsWindows, AllFit, WritesWithin}
use Rattle.hb_history.specs.History.{fresh, opening, StandsFor}
use Rattle.hb_history.specs.Points.{Move, got, refused, misbegan, opened, answered, ended, reset, credited, put, wrote, Point, point, After, RunsWith, begins_by, got_by, frames_got}
use Rattle.hb_owed.specs.Debts.{closed as owed_closed}
use Rattle.hb_outgoing.proofs.Sent.{begun_is_enough, begun_and_left}
use Rattle.hb_outgoing.specs.Selected.{has_data, is_kept}
use Rattle.hb_outgoing.specs.Waiting.{Waiting, octets_of, spelled}
use Rattle.hb_outgoing.specs.Written.{begun_by, rest_after, written}
use Rattle.hb_streams.specs.declared.role.Role.{Role}
use Rattle.hb_streams.specs.declared.role.Role.TheVariants.{Server, Client}
use Rattle.hb_laws.proofs.BegunFrames.{Left, runs_left}
use Rattle.hb_laws.proofs.RefusedWindows.{joined, not_begun, fits_in}
use Rattle.hb_headline.specs.Windows.{IsGranted}

-- BEHIND A CONNECTION ERROR no DATA with payload waits

abbrev NoneOver : Amid → Core → Type 0
NoneOver a c = c.over ≡ true → NoData c.out.queue

any_by : (kind some : Bool) → not (kind && true) ≡ true → (kind && some) ≡ false
any_by false some is = refl
any_by true some is = absurd (false≢true is)

none_at_all : (f : RawFrame) → is_kept None f ≡ true → has_data f ≡ false
none_at_all f is = any_by (f.kind == data_kind) _ is

fault_none : (c : Core) (code : ℕ) → NoData (faulted c code).core.out.queue
unfolding faulted
fault_none c code = none_more has_data _ _ (none_kept has_data (is_kept None) none_at_all c.out.queue) refl

released_by : (s : ℕ) (c : Core) (b : Bool) → NoneOver calm c
    → NoneOver calm (cond b c (record c { flow = closed c.flow s; owed = owed_closed c.owed s }))
released_by s c true h = h
released_by s c false h = h

over_keeps : Keeps NoneOver
over_keeps = record {
  ends = λ s c h. h;
  goes = λ s c h. h;
  other = λ a c e b p t h. h;
  sends = λ a c f plain h. λ over. none_more has_data c.out.queue f (h over) plain.0;
  owes = λ a c m keeps h. h;
  moves = λ b s c t on h. h;
  withdraws = λ s c h. λ over. none_filtered has_data (is_kept (Some s)) c.out.queue (h over);
  releases = λ s c h. released_by s c (is_active c.streams s) h;
  leaves = λ s c none h. h;
  takes_in = λ a c m taking may h. h;
  begins = λ s c sides m above becomes h. h;
  faults = λ a c f code h. λ over. fault_none (record c { flow = f }) code;
}

put_by : (c : Core) (s n : ℕ) (bytes : List ℕ) (b : Bool) → (b ≡ false → c.over ≡ false) → NoneOver calm c
    → NoneOver calm (cond b c (sent (record c { flow = spent c.flow s n }) (frame data_kind 0 s (take n bytes))))
put_by c s n bytes true goes h = h
put_by c s n bytes false goes h = λ over. absurd (false≢true (sym (goes refl) ∙ over))

over_puts : Puts NoneOver
over_puts c s bytes h = put_by c s (count_put c s bytes) bytes (count_put c s bytes == 0) (none_behind c s bytes) h

over_acks : PutsAck NoneOver
over_acks c f answer h = λ over. none_more has_data c.out.queue f (h over) answer.0

over_resizes : Resizes NoneOver
over_resizes c n within fits h = h

over_grows : (c : Core) (s n : ℕ) → NoneOver calm c → Grows NoneOver c s n
over_grows c s n h = record {
  fault = λ code. λ over. fault_none c code;
  whole = λ zero fits. h;
  one = λ some w is fits. h;
  broken = λ some live. h;
  ignored = λ some live why. h;
}

over_writes : (c : Core) (n : ℕ) → n ≤ length (octets_of c.out) → NoneOver calm c → NoneOver calm (record c { out = written n c.out })
over_writes c n within h = λ over. none_left has_data (length (begun_by n c.out)) c.out.queue (h over)

-- WHAT IS LEFT of the last frame stays but with writes

look_rests : (c : Core) (m : Move) (new : Core) (told : Found) → IsLook m → After c m new told → new.out.rest ≡ c.out.rest
look_rests c m new told look is =
    let Q = λ (w : Waiting). w.rest ≡ c.out.rest in
    let k = rest_keeps c.out.rest in
    look_keeps (OfOut Q) (out_keeps Q k) (out_resizes Q k) (rest_acks c.out.rest) c m new told look refl
    (λ s n. window_keeps (OfOut Q) (out_keeps Q k) c s n (out_grows Q k c s n refl)) is

act_rests : (c : Core) (m : Move) (new : Core) (told : Found) → IsAct m → After c m new told → new.out.rest ≡ c.out.rest
act_rests c m new told act is =
    let Q = λ (w : Waiting). w.rest ≡ c.out.rest in
    act_keeps (OfOut Q) (out_keeps Q (rest_keeps c.out.rest)) c (λ s bytes. out_puts Q (rest_puts c.out.rest) c s bytes refl) m new told
    act refl is

-- how many octets moves write
abbrev octets_by : Move → ℕ
octets_by (wrote n) = n
octets_by _ = 0

abbrev octets_in : List Point → ℕ
octets_in [] = 0
octets_in (p ∷ ps) = octets_by p.move + octets_in ps

-- with them what was left, and the frames that begin, is what is left behind a move

same_rest : (c new : Core) → new.out.rest ≡ c.out.rest → 0 + length new.out.rest ≡ length c.out.rest + 0
same_rest c new is = omega (arith, ap (λ (xs : List ℕ). length xs) is)

move_writes : (c : Core) (m : Move) (new : Core) (told : Found) → After c m new told
    → octets_by m + length new.out.rest ≡ length c.out.rest + length (spelled (begins_by c m))
move_writes c (got f) new told is = same_rest c new (look_rests c (got f) new told tt is)
move_writes c (refused r kind flags) new told is = same_rest c new (look_rests c (refused r kind flags) new told tt is)
move_writes c misbegan new told is = same_rest c new (look_rests c misbegan new told tt is)
move_writes c (opened s headers end) new told is = same_rest c new (act_rests c (opened s headers end) new told tt is)
move_writes c (answered s status) new told is = same_rest c new (act_rests c (answered s status) new told tt is)
move_writes c (ended s) new told is = same_rest c new (act_rests c (ended s) new told tt is)
move_writes c (reset s code) new told is = same_rest c new (act_rests c (reset s code) new told tt is)
move_writes c (credited s n) new told is = same_rest c new (act_rests c (credited s n) new told tt is)
move_writes c (put s bytes) new told is = same_rest c new (act_rests c (put s bytes) new told tt is)
move_writes c (wrote n) new told is =
    let w = c.out in
    let Q = λ (x : Waiting). x.rest ≡ rest_after n w in
    let left : new.out.rest ≡ rest_after n w =
    subst (λ (d : Core). Q d.out) (sym is.1.0)
    (kept.payment_keeps (OfOut Q) (out_keeps Q (rest_keeps (rest_after n w))) calm (record c { out = written n w }) refl) in
    let within : n - length w.rest ≤ length (spelled w.queue) = omega (arith, is.0, length-append w.rest (spelled w.queue)) in
    omega (
      arith,
      ap (λ (xs : List ℕ). length xs) left,
      length-drop n (w.rest ++ spelled (begun_by n w)),
      length-append w.rest (spelled (begun_by n w)),
      begun_is_enough (n - length w.rest) w.queue within,
    )

-- SO FAR: where so many octets went, these frames of the peer were looked at and these of this end began
pub record Sofar (role : Role) (n : ℕ) (frames begun : List RawFrame) (c : Core) : Type 0 where
  pub shows : n + length c.out.rest ≡ length (opening role) + length (spelled begun)
  pub answers : AllAnswered frames begun c
  pub none : c.over ≡ true → NoData c.out.queue

next : (role : Role) (n : ℕ) (frames begun : List RawFrame) (c : Core) (m : Move) (new : Core) (told : Found)
    → Sofar role n frames begun c → After c m new told
    → Sofar role (n + octets_by m) (frames ++ got_by (point m told)) (begun ++ begins_by c m) new
next role n frames begun c m new told h is = record {
  shows = omega (
    arith,
    h.shows,
    move_writes c m new told is,
    ap (λ (xs : List ℕ). length xs) (flat_map-append spelling begun (begins_by c m)),
    length-append (spelled begun) (spelled (begins_by c m)),
  );
  answers = answered_moves frames begun c m new told h.answers is;
  none = move_keeps NoneOver over_keeps over_puts over_resizes over_acks over_grows over_writes c m new told h.none is;
}

goes_so : (role : Role) (n : ℕ) (points : List Point) (frames begun begins : List RawFrame) (c new : Core) → Sofar role n frames begun c
    → RunsWith c points begins new → Sofar role (n + octets_in points) (frames ++ frames_got points) (begun ++ begins) new
goes_so role n [] frames begun begins c new h is =
    subst (λ (k : ℕ). Sofar role k (frames ++ []) (begun ++ begins) new) (let none : n ≡ n + 0 = omega arith in none)
    (subst (λ (fs : List RawFrame). Sofar role n fs (begun ++ begins) new) (sym (append-nil frames))
    (subst (λ (fs : List RawFrame). Sofar role n frames fs new)
    (sym (append-nil begun) ∙ ap (λ (fs : List RawFrame). begun ++ fs) (sym is.1))
    (subst (Sofar role n frames begun) (sym is.0) h)))
goes_so role n (p ∷ ps) frames begun begins c new h is =
    let m = octets_by p.move in
    subst (λ (k : ℕ). Sofar role k (frames ++ (got_by p ++ frames_got ps)) (begun ++ begins) new)
    (let sum : (n + m) + octets_in ps ≡ n + (m + octets_in ps) = omega arith in sum)
    (subst (λ (fs : List RawFrame). Sofar role ((n + m) + octets_in ps) fs (begun ++ begins) new)
    (append_assoc frames (got_by p) (frames_got ps))
    (subst (λ (fs : List RawFrame). Sofar role ((n + m) + octets_in ps) ((frames ++ got_by p) ++ frames_got ps) fs new)
    (append_assoc begun (begins_by c p.move) is.2 ∙ ap (λ (fs : List RawFrame). begun ++ fs) (sym is.3))
    (goes_so role (n + m) ps (frames ++ got_by p) (begun ++ begins_by c p.move) is.2 is.0 new
    (next role n frames begun c p.move is.0 p.told h is.1) is.4)))

at_first : (role : Role) → Sofar role 0 [] [] (fresh role).receiver.core
at_first Server = record { shows = refl; answers = answered_new Server; none = λ over. absurd (false≢true over) }
at_first Client = record { shows = refl; answers = answered_new Client; none = λ over. absurd (false≢true over) }

so_far : (role : Role) (points : List Point) (begun : List RawFrame) (c : Core) → RunsWith (fresh role).receiver.core points begun c
    → Sofar role (octets_in points) (frames_got points) begun c
so_far role points begun c runs =
    subst (λ (n : ℕ). Sofar role n (frames_got points) begun c) (let none : 0 + octets_in points ≡ octets_in points = omega arith in none)
    (goes_so role 0 points [] [] begun (fresh role).receiver.core c (at_first role) runs)

-- the octets that went are those that moves wrote
pub octets_went : (role : Role) (points : List Point) (given : List Found) (came went : List ℕ) (c : Connection)
    → StandsFor role points given came went c → octets_in points ≡ length went
octets_went role points given came went c stands =
    omega (
      arith,
      (so_far role points stands.begun c.receiver.core stands.begins).shows,
      ap (λ (xs : List ℕ). length xs) stands.shows,
      length-append went c.receiver.core.out.rest,
      length-append (opening role) (spelled stands.begun),
    )

-- WHERE DATA BEGINS, at a write of a history, of whose frames these stand in front of it

none_is : (fs gs : List RawFrame) (f : RawFrame) → NoData (fs ++ f ∷ gs) → has_data f ≡ true → ⊥
none_is [] gs f none some = false≢true (sym none.0 ∙ some)
none_is (g ∷ fs) gs f none some = none_is fs gs f none.1 some

counted : (p : RawFrame → Bool) (fs gs : List RawFrame) → number p fs ≤ number p (fs ++ gs)
counted p [] gs = omega arith
counted p (f ∷ fs) gs = by (p f) (counted p fs gs)
  where
    by : (b : Bool) → number p fs ≤ number p (fs ++ gs)
        → length (cond b (f ∷ filter p fs) (filter p fs)) ≤ length (cond b (f ∷ filter p (fs ++ gs)) (filter p (fs ++ gs)))
    by true less = omega (arith, less)
    by false less = less

module _ (role : Role) (points : List Point) (given : List Found) (came went : List ℕ) (c : Connection)
    (stands : StandsFor role points given came went c) (before after : List Point) (n : ℕ) (told : Found)
    (are : points ≡ before ++ point (wrote n) told ∷ after) (front : List RawFrame) (f : RawFrame) (behind : List RawFrame)
    (begun_are : stands.begun ≡ front ++ f ∷ behind)
    (mine : List ℕ) (size_is : octets_in before ≡ length mine) (unbegun : length mine ≤ length (opening role ++ spelled front))
    (begins : length (opening role ++ spelled front) < length mine + n) (some : has_data f ≡ true)
  where
    abbrev at : WritesWithin role before after n told stands.begun c.receiver.core
    at = data_fits_everywhere role points given came went c stands before after n told are

    abbrev w : Waiting
    w = at.core.out

    so : Sofar role (octets_in before) (frames_got before) at.front at.core
    so = so_far role before at.front at.core at.leads

    left : Left at.front w
    left = runs_left before [] at.front (fresh role).receiver.core at.core (inl refl) at.leads

    abbrev later : List RawFrame
    later = at.goes_on.2

    others_are : at.others ≡ begun_by n w ++ later
    others_are = at.goes_on.3

    enough : n - length w.rest ≤ length (spelled (begun_by n w))
    enough =
        begun_is_enough (n - length w.rest) w.queue
        (let within : n - length w.rest ≤ length (spelled w.queue) =
        omega (arith, at.goes_on.1.0, length-append w.rest (spelled w.queue)) in within)

    -- it is one of those that begin with the write
    begins_here : (mid : List RawFrame) → front ≡ at.front ++ mid → at.others ≡ mid ++ f ∷ behind
        → (more : List RawFrame) × (begun_by n w ≡ mid ++ f ∷ more)
    begins_here mid front_is is = by (joined (begun_by n w) later mid (f ∷ behind) (sym others_are ∙ is))
      where
        size : length (spelled front) ≡ length (spelled at.front) + length (spelled mid)
        size =
            ap (λ (fs : List RawFrame). length (spelled fs)) front_is
            ∙ ap (λ (xs : List ℕ). length xs) (flat_map-append spelling at.front mid)
            ∙ length-append (spelled at.front) (spelled mid)

        by : ((between : List RawFrame) × (mid ≡ begun_by n w ++ between) × (later ≡ between ++ f ∷ behind))
            ⊎ ((g : RawFrame) × (more : List RawFrame) × (begun_by n w ≡ mid ++ g ∷ more))
            → (more : List RawFrame) × (begun_by n w ≡ mid ++ f ∷ more)
        by (inl (between, mid_is, rest_is)) =
            absurd (omega (
              arith,
              enough,
              so.shows,
              begins,
              size_is,
              length-append (opening role) (spelled front),
              size,
              ap (λ (fs : List RawFrame). length (spelled fs)) mid_is,
              ap (λ (xs : List ℕ). length xs) (flat_map-append spelling (begun_by n w) between),
              length-append (spelled (begun_by n w)) (spelled between),
            ))
        by (inr (g, more, is_here)) =
            let same : mid ++ g ∷ (more ++ later) ≡ mid ++ f ∷ behind =
            sym (append_assoc mid (g ∷ more) later) ∙ ap (λ (fs : List RawFrame). fs ++ later) (sym is_here) ∙ sym others_are ∙ is in
            (more, is_here ∙ ap (λ (h : RawFrame). mid ++ h ∷ more) (first mid g f (more ++ later) behind same))
          where
            first : (xs : List RawFrame) (a b : RawFrame) (ys zs : List RawFrame) → xs ++ a ∷ ys ≡ xs ++ b ∷ zs → a ≡ b
            first [] a b ys zs is = cc
            first (x ∷ xs) a b ys zs is = first xs a b ys zs (let tail : xs ++ a ∷ ys ≡ xs ++ b ∷ zs = cc in tail)

    -- so no connection error was told, and each acknowledgement in front of it answers SETTINGS that came
    granted_here : (mid : List RawFrame) → front ≡ at.front ++ mid → at.others ≡ mid ++ f ∷ behind → IsGranted f front (frames_got before)
    granted_here mid front_is is = by at.core.over refl
      where
        here : (more : List RawFrame) × (begun_by n w ≡ mid ++ f ∷ more)
        here = begins_here mid front_is is

        queue_is : w.queue ≡ (mid ++ f ∷ here.0) ++ drop (length (begun_by n w)) w.queue
        queue_is =
            sym (begun_and_left (n - length w.rest) w.queue)
            ∙ ap (λ (fs : List RawFrame). fs ++ drop (length (begun_by n w)) w.queue) here.1

        by : (b : Bool) → at.core.over ≡ b → IsGranted f front (frames_got before)
        by true over =
            absurd (none_is mid (here.0 ++ drop (length (begun_by n w)) w.queue) f
            (subst NoData (queue_is ∙ append_assoc mid (f ∷ here.0) (drop (length (begun_by n w)) w.queue)) (so.none over)) some)
        by false still = record {
          acknowledged =
              let all = all_counted (frames_got before) at.front at.core so.answers still in
              let rest = counted acknowledges mid (f ∷ here.0 ++ drop (length (begun_by n w)) w.queue) in
              omega (
                arith,
                all,
                rest,
                ap (number acknowledges) (queue_is ∙ append_assoc mid (f ∷ here.0) (drop (length (begun_by n w)) w.queue)),
                ap (number acknowledges) front_is,
                ap (λ (fs : List RawFrame). length fs) (filter-append acknowledges at.front mid),
                length-append (filter acknowledges at.front) (filter acknowledges mid),
              );
          fits =
              subst (λ (fs : List RawFrame). FitsWindows f fs (frames_got before)) (sym front_is)
              (fits_in at.front (frames_got before) mid here.0 f
              (subst (λ (fs : List RawFrame). AllFit at.front (frames_got before) fs) here.1 at.fit) some);
        }

    pub granted : IsGranted f front (frames_got before)
    granted = by (joined at.front at.others front (f ∷ behind) (sym at.all ∙ begun_are))
      where
        by : ((mid : List RawFrame) × (front ≡ at.front ++ mid) × (at.others ≡ mid ++ f ∷ behind))
            ⊎ ((g : RawFrame) × (more : List RawFrame) × (at.front ≡ front ++ g ∷ more)) → IsGranted f front (frames_got before)
        by (inl (mid, front_is, is)) = granted_here mid front_is is
        by (inr (g, more, is)) =
            absurd (not_begun w at.front front more g (opening role) mine left (omega (arith, so.shows, size_is)) unbegun is)
