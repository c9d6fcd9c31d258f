-- A frame that is taken leaves less to be read.
use Rattle.std.proofs.Common.{◌≡◌, ◌≢◌, inl, inr, ◌≤◌, ◌<◌, ℕ, ◌+◌, ◌*◌, List, length, drop, Some, Ok, ap, ◌∙◌, refl, Bool, true, false, rules, arith, length-append, length-drop}
use Rattle.std.proofs.lemmas.List.{length-take}
use Rattle.hb_frames.specs.RawFrame.{raw_at, header}
use Rattle.hb_frames.specs.Reading.{Reading, first_of, IsFirst, asked, after_frame}
use Rattle.hb_conn.specs.Glance.{Falls}
use Rattle.hb_conn.specs.Faults.{faulted}
use Rattle.hb_conn.specs.Outcome.{Gives, is_silent}
use Rattle.hb_conn.specs.Receiving.{Shrinks}
use Rattle.hb_conn.specs.declared.receiver.Receiver.{Receiver}
use Rattle.hb_conn.specs.Handling.{Handles, HandlesBy}
use Rattle.hb_conn.specs.Places.{is_misplaced}
use Rattle.hb_conn.specs.declared.machine.Core.{Core}
use Rattle.hb_conn.specs.declared.found.Found.{Found}
use Rattle.hb_conn.specs.declared.found.Found.TheVariants as found
use Rattle.hb_conn.specs.declared.found.Found.TheVariants.{Silent, Opened, Chunk, Ended, Broken, GoneAway, Fault}
use Rattle.hb_conn.specs.declared.glance.Glance.{Glance}
use Rattle.hb_conn.specs.declared.glance.Glance.TheVariants.{Nothing, Data, Headers, Reset, Settings, Ping, GoAway, Window, Continuation, Other, Refused}

falls_by : (g : Glance) (before now : ℕ) → now + 9 ≤ before → Falls g before now
falls_by Nothing before now less = omega (arith, less)
falls_by (Refused code row kind flags) before now less = omega (arith, less)
falls_by (Data stream counted end) before now less = less
falls_by (Headers stream end whole) before now less = less
falls_by (Reset stream code) before now less = less
falls_by (Settings ack) before now less = less
falls_by (Ping ack value) before now less = less
falls_by (GoAway last) before now less = less
falls_by (Window stream increment) before now less = less
falls_by (Continuation stream whole) before now less = less
falls_by Other before now less = less

-- a frame has nine octets at least
nine_held : (max n : ℕ) (held : List ℕ) → IsFirst max held n → 9 ≤ length held
nine_held max n held is =
    let spells = is.spells in
    let f = raw_at held in
    let len = length-append (header (length f.payload) f.kind f.flags (spells.reserved * 2147483648 + f.stream)) f.payload in
    omega (arith, ap length spells.whole, len, length-take n held)

pub frame_falls : (g : Glance) (r later : Reading) (n : ℕ) → first_of r.max r.held ≡ Ok (Some n) → 9 ≤ n → IsFirst r.max r.held n
    → later ≡ asked r → Falls g (length r.held) (length later.held)
frame_falls g r later n first nine is then =
    let left : later.held ≡ drop n r.held = ap (λ (s : Reading). s.held) (then ∙ ap (after_frame r) first) in
    falls_by g (length r.held) (length later.held)
    (omega (arith, ap length left, length-drop n r.held, nine, nine_held r.max n r.held is))

-- a connection error ends all
fault_ends : (c new : Core) (told : Found) (code : ℕ) → Gives (faulted c code) new told → (new.over ≡ true) × (why : ℕ) × (told ≡ Fault why)
unfolding faulted
fault_ends c new told code gives = (ap (λ (k : Core). k.over) gives.0, code, gives.1)

refused_ends : (misplaced : Bool) (c new : Core) (told : Found) (code row kind flags : ℕ) (bytes : List ℕ)
    → HandlesBy misplaced c (Refused code row kind flags) bytes new told → (new.over ≡ true) × (why : ℕ) × (told ≡ Fault why)
refused_ends true c new told code row kind flags bytes handles = fault_ends c new told 1 handles
refused_ends false c new told code row kind flags bytes handles = fault_ends c new told code handles

-- what is looked at isn't held any more, or ends all
pub looked_falls : (g : Glance) (old new : Receiver) (bytes : List ℕ) (told : Found) → g ≢ Nothing
    → Handles old.core g bytes new.core told → Falls g (length old.reader.held) (length new.reader.held) → Shrinks old new told
looked_falls Nothing old new bytes told some handles falls = absurd (some refl)
looked_falls (Refused code row kind flags) old new bytes told some handles falls =
    let g = Refused code row kind flags in
    let ended = refused_ends (is_misplaced old.core g) old.core new.core told code row kind flags bytes handles in
    inr (falls, ended.0, ended.1, ended.2)
looked_falls (Data stream counted end) old new bytes told some handles falls = inl falls
looked_falls (Headers stream end whole) old new bytes told some handles falls = inl falls
looked_falls (Reset stream code) old new bytes told some handles falls = inl falls
looked_falls (Settings ack) old new bytes told some handles falls = inl falls
looked_falls (Ping ack value) old new bytes told some handles falls = inl falls
looked_falls (GoAway last) old new bytes told some handles falls = inl falls
looked_falls (Window stream increment) old new bytes told some handles falls = inl falls
looked_falls (Continuation stream whole) old new bytes told some handles falls = inl falls
looked_falls Other old new bytes told some handles falls = inl falls

pub silent_is : (found : Found) → is_silent found ≡ true → found ≡ Silent
silent_is Silent test = refl
silent_is (Opened stream end) test = absurd (search rules)
silent_is (Ended stream) test = absurd (search rules)
silent_is (Chunk stream end) test = absurd (search rules)
silent_is (found.Reset stream code) test = absurd (search rules)
silent_is (Broken stream code) test = absurd (search rules)
silent_is (GoneAway last) test = absurd (search rules)
silent_is (Fault code) test = absurd (search rules)

-- where nothing is told, less is held
pub silent_falls : (old new : Receiver) (told : Found) → is_silent told ≡ true → Shrinks old new told
    → length new.reader.held < length old.reader.held
silent_falls old new told silent (inl less) = omega (arith, less)
silent_falls old new told silent (inr ended) = absurd (search rules)

pub shrinks_more : (old mid new : Receiver) (told : Found) → length mid.reader.held ≤ length old.reader.held → Shrinks mid new told
    → Shrinks old new told
shrinks_more old mid new told within (inl less) = inl (omega (arith, less, within))
shrinks_more old mid new told within (inr ended) = inr (omega (arith, ended.0, within), ended.1, ended.2, ended.3)
