-- What a connection keeps with each call of a caller that leaves room for all answers.
use Rattle.std.proofs.Common.{◌≡◌, ◌⊎◌, inl, inr, ℕ, ◌<◌, ◌≤◌, Bool, true, false, cond, List, [], ◌∷◌, ◌++◌, length, take, Option, Some, None, Ok, Err, refl, ap, sym, ◌∙◌, subst, rules, arith}
use Rattle.std.specs.FinMap.{len-empty}
use Rattle.std.specs.Ordering.{nat_cmp}
use Rattle.std.specs.Prelude.{◌==◌, ◌+◌, nat_lt, if◌then◌else◌, is_some}
use Rattle.std.proofs.lemmas.Bool.Decides.{nat_tests}
use Rattle.hb_frames.specs.RawFrame.{RawFrame}
use Rattle.hb_frames.specs.Frames.{AreOctets, HasNoFrame}
use Rattle.hb_frames.specs.Reading.{space_of as reader_space}
use Rattle.hb_frames.proofs.Runs.{first_none, octets_append, octets_take, octets_drop}
use Rattle.hb_hpack.specs.declared.header.Header.{Header}
use Rattle.hb_streams.specs.declared.fault.OpenFault.{OpenFault}
use Rattle.hb_streams.specs.declared.sides.Sides.{Sides}
use Rattle.hb_streams.specs.declared.role.Role.TheVariants.{Client}
use Rattle.hb_flow.specs.Flows.{spent}
use Rattle.hb_outgoing.specs.Waiting.{Waiting, octets_of, put}
use Rattle.hb_frames.specs.Numbers.{data_kind, protocol_error, largest}
use Rattle.hb_conn.specs.Connection.{Connection, Finds, FindsWhile, FindsOf, FindsAfter, FindsBy, core_of, fresh_client, taken, space_of, left_of}
use Rattle.hb_conn.specs.Frames.{frame, sent}
use Rattle.hb_conn.specs.Observed.{room, is_over, is_paused, octets_held, NoneIsWhole, IsLookedAt, OwesNoneWithRoom, next_stream, count_put, wrote, opened, data_put, credited}
use Rattle.hb_conn.specs.Opening.{begun}
use Rattle.hb_conn.specs.Payload as payload
use Rattle.hb_conn.specs.Preface.{is_whole}
use Rattle.hb_conn.specs.declared.machine.Core.{Core}
use Rattle.hb_conn.specs.declared.found.Found.{Found}
use Rattle.hb_conn.specs.declared.found.Found.TheVariants as found
use Rattle.hb_conn.proofs.Keeping.{credit_keeps_up, writes_catch_up}
use Rattle.hb_history.specs.Points as points
use Rattle.hb_history.specs.Budget.{WaitsForPreface, HoldsNoFrame, HasRoom}
use Rattle.hb_history.proofs.Budget.{looks_at_all, kept_while, fault_is_told}
use Rattle.hb_history.proofs.CatchUp.{finds_keep_up, act_keeps, fresh_owes}
use Rattle.hb_history.proofs.CatchUpSeen.{none_there}
use Rattle.hb_history.proofs.Credits.{has_space, look_fits}
use Rattle.hb_history.proofs.First.{none_waits}
use Rattle.hb_history.proofs.Over.{Rises, finds_over, credit_over, paid_over}
use Rattle.hb_history.proofs.Shown.{nothing_waits}

-- with room frames are looked at, unless a connection error was told
pub goes_on : (c : Connection) → is_over c ≡ false → 256 ≤ room c → is_paused c ≡ false
goes_on c over enough = let low : nat_lt (room c) 256 ≡ false = grind (arith, nat_tests, enough) in rw (over, low) refl

-- octets that come

pub octets_taken : (c : Connection) (b : List ℕ) → AreOctets (octets_held c) → AreOctets b → AreOctets (octets_held (taken c b))
octets_taken c b held new =
    octets_append (octets_held c) _ held (octets_take _ _ (octets_take _ _ (octets_drop _ b new)))

-- where no whole frame is held, what is held is a part of one
pub held_partial : (c : Connection) → NoneIsWhole c → HasNoFrame (octets_held c)
held_partial c none = let r = c.receiver.reader in first_none r.max r.held (none_there r none)

-- behind frames that were looked at some can be taken
pub takes_some : (c : Connection) → is_over c ≡ false → 256 ≤ room c → NoneIsWhole c → 0 < space_of c
takes_some c over enough none =
    let r = c.receiver.reader in
    let space : space_of c ≡ reader_space r = ap (λ b. cond b 0 (reader_space r)) (goes_on c over enough) in
    omega (arith, space, has_space r (none_there r none))

-- what is found

-- only a connection error ends all
pub not_over : (c d : Connection) (told : Found) → is_over c ≡ false → Finds c d told
    → (is_over d ≡ false) ⊎ ((code : ℕ) × (told ≡ found.Fault code))
not_over c d told goes finds = by (finds_over c d told finds)
  where
    by : Rises (core_of c) (core_of d) told → (is_over d ≡ false) ⊎ ((code : ℕ) × (told ≡ found.Fault code))
    by (inl same) = inl (same ∙ goes)
    by (inr why) = inr why

pub found_waits : (c d : Connection) (told : Found) → Finds c d told → WaitsForPreface c → WaitsForPreface d
found_waits c d told finds waits = kept_while (is_paused c) c d told finds waits

rests_by : (same : Bool) (c d : Connection) → FindsBy same c d found.Silent → d.ended ≡ None
rests_by true c d finds = finds.2
rests_by false c d finds = fault_is_told (core_of c) (core_of d) protocol_error finds.0

rests_after : (whole : Bool) (c d : Connection) → c.ended ≡ None → FindsAfter whole c d found.Silent → d.ended ≡ None
rests_after true c d none finds = rests_by c.preface.same c d finds
rests_after false c d none finds = ap (λ (k : Connection). k.ended) finds.0 ∙ none

rests_of : (ended : Option ℕ) (c d : Connection) → c.ended ≡ ended → FindsOf ended c d found.Silent → d.ended ≡ None
rests_of (Some s) c d is finds = absurd (let never = finds.1 in cc)
rests_of None c d is finds = rests_after (is_whole c.preface) c d is finds

silent_goes_on : (c d : Connection) → is_over c ≡ false → Finds c d found.Silent → is_over d ≡ false
silent_goes_on c d goes finds = by (not_over c d found.Silent goes finds)
  where
    by : (is_over d ≡ false) ⊎ ((code : ℕ) × (found.Silent ≡ found.Fault code)) → is_over d ≡ false
    by (inl over) = over
    by (inr why) = absurd (let never = why.1 in cc)

-- where nothing is told all was looked at
pub look_rests : (c d : Connection) → is_over c ≡ false → WaitsForPreface c → OwesNoneWithRoom c → HasRoom c → Finds c d found.Silent
    → IsLookedAt d
look_rests c d goes waits caught fits finds =
    let over = silent_goes_on c d goes finds in
    let left = look_fits c d found.Silent fits caught finds over in
    let goes_finds : FindsOf c.ended c d found.Silent =
    subst (λ (b : Bool). FindsWhile b c d found.Silent) (goes_on c goes (omega (arith, fits))) finds in
    (rests_of c.ended c d refl goes_finds, by over (looks_at_all c d waits finds (omega (arith, left))))
  where
    by : is_over d ≡ false → (is_over d ≡ true) ⊎ HoldsNoFrame d → NoneIsWhole d
    by going (inl over) = absurd (search (rules, going, over))
    by going (inr none) = none.0

-- what is put

none_behind : {A : Type 0} → (f : RawFrame) (fs : List RawFrame) → fs ++ f ∷ [] ≡ [] → A
none_behind f [] none = absurd (cc)
none_behind f (g ∷ fs) none = absurd (cc)

none_put : (none : Bool) (c : Core) (stream : ℕ) (bytes : List ℕ) (f : RawFrame) (w : Waiting)
    → (payload.count_put c stream bytes == 0) ≡ none → c.out ≡ put f w → payload.count_put c stream bytes ≡ 0
none_put true c stream bytes f w is out = grind (arith, nat_tests, is)
none_put false c stream bytes f w is out =
    none_behind f w.queue (none_waits (put f w) (ap octets_of (sym out) ∙ nothing_waits c stream bytes is))

-- behind a frame that waits no DATA can go
none_goes : (c : Core) (stream : ℕ) (bytes : List ℕ) (f : RawFrame) (w : Waiting) → c.out ≡ put f w
    → payload.count_put c stream bytes ≡ 0
none_goes c stream bytes f w out = none_put (payload.count_put c stream bytes == 0) c stream bytes f w refl out

-- behind a DATA frame none goes, nor behind the headers of a stream that was opened
pub put_once : (c : Connection) (stream : ℕ) (bytes more : List ℕ) → 0 < count_put c stream bytes
    → count_put (data_put c stream bytes) stream more ≡ 0
put_once c stream bytes more some =
    let old = core_of c in
    let n = payload.count_put old stream bytes in
    let test : (n == 0) ≡ false = grind (arith, nat_tests, some) in
    let out : (payload.data_put old stream bytes).out ≡ put (frame data_kind 0 stream (take n bytes)) old.out = rw test refl in
    none_goes (payload.data_put old stream bytes) stream more _ old.out out

pub opened_first : (c : Connection) (stream : ℕ) (headers : List Header) (bytes : List ℕ)
    → count_put (opened c stream headers false) stream bytes ≡ 0
opened_first c stream headers bytes =
    none_goes (core_of (opened c stream headers false)) stream bytes _ (begun (core_of c) stream).out refl

-- nothing is owed with room

pub put_owes : (c : Connection) (stream : ℕ) (bytes : List ℕ) → OwesNoneWithRoom c → OwesNoneWithRoom (data_put c stream bytes)
put_owes c stream bytes caught =
    act_keeps (points.put stream bytes) (core_of c) (core_of (data_put c stream bytes)) tt tt (refl, refl) caught

pub credit_owes : (c : Connection) (stream n : ℕ) → stream ≤ largest → OwesNoneWithRoom c → OwesNoneWithRoom (credited c stream n)
credit_owes c stream n number caught = credit_keeps_up (core_of c) stream n number caught

pub wrote_owes : (c : Connection) (n : ℕ) → OwesNoneWithRoom (wrote c n)
wrote_owes c n = writes_catch_up (core_of c) n

pub found_owes : (c d : Connection) (told : Found) → Finds c d told → OwesNoneWithRoom c → OwesNoneWithRoom d
found_owes c d told finds caught = finds_keep_up c d told finds caught

-- this end's calls tell no connection error

over_by : (c : Core) (f : RawFrame) (stream n : ℕ) (b : Bool)
    → (cond b c (sent (record c { flow = spent c.flow stream n }) f)).over ≡ c.over
over_by c f stream n true = refl
over_by c f stream n false = refl

pub put_over : (c : Connection) (stream : ℕ) (bytes : List ℕ) → is_over (data_put c stream bytes) ≡ is_over c
put_over c stream bytes = over_by (core_of c) _ stream (count_put c stream bytes) (count_put c stream bytes == 0)

pub credited_over : (c : Connection) (stream n : ℕ) → is_over (credited c stream n) ≡ is_over c
credited_over c stream n = credit_over (core_of c) stream n

-- credit leaves what is still to be told
pub credited_leaves : (c : Connection) (stream n : ℕ) → left_of (credited c stream n) ≡ left_of c
credited_leaves c stream n =
    ap (λ (over : Bool). length (octets_held c) + (if is_some c.ended then 1 else 0) + (if over then 0 else 1))
    (credited_over c stream n)

pub wrote_over : (c : Connection) (n : ℕ) → is_over (wrote c n) ≡ is_over c
wrote_over c n = paid_over _

-- the first stream that a new client opens

pub first_stream : next_stream fresh_client ≡ Ok 1
first_stream = rw (len-empty nat_cmp Sides) refl

-- it is never refused
pub never_refused : (c : Connection) (why : OpenFault) → c ≡ fresh_client → next_stream c ≡ Err why → ⊥
never_refused c why is h = let e = rw is at h in differ (sym first_stream ∙ e)
  where
    differ : {A : Type 0} {x : A} → Ok x ≡ Err why → ⊥
    differ e = cc

pub first_owes : (headers : List Header) → OwesNoneWithRoom (opened fresh_client 1 headers false)
first_owes headers =
    act_keeps (points.opened 1 headers false) (core_of fresh_client) (core_of (opened fresh_client 1 headers false)) tt tt
    (first_stream, (refl, refl)) (fresh_owes Client)
