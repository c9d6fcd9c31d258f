-- Which frames use a number: HEADERS on an idle stream with an odd one, whether it begins or is refused.
use Rattle.std.proofs.Common.{◌≡◌, ℕ, ◌<◌, Bool, true, false, cond, ◌||◌, Result, Ok, Err, Option, Some, None, ◌==◌, refl, sym, ap, ◌∙◌}
use Rattle.std.specs.Prelude.{◌&&◌}
use Rattle.std.specs.FinMap.{get}
use Rattle.std.proofs.lemmas.Bool.{false≢true, ltb-true}
use Rattle.hb_streams.specs.Numbers.{is_even}
use Rattle.hb_frames.specs.Numbers.{protocol_error, refused_stream}
use Rattle.hb_streams.specs.Resets.{is_among}
use Rattle.hb_streams.specs.Sides.{state_with}
use Rattle.hb_streams.specs.States.{States, state_of, state_by, is_full}
use Rattle.hb_streams.specs.Answers.{connection_error, stream_error, data_answer, headers_answer, control_answer, answer_of}
use Rattle.hb_streams.specs.declared.role.Role.{Role}
use Rattle.hb_streams.specs.declared.role.Role.TheVariants.{Server, Client}
use Rattle.hb_streams.specs.declared.sides.Sides.{Sides}
use Rattle.hb_streams.specs.declared.state.State.{State}
use Rattle.hb_streams.specs.declared.state.State.TheVariants.{Idle, Open, HalfClosedLocal, HalfClosedRemote, Closed, Reset}
use Rattle.hb_streams.specs.declared.step.Step.{Step}
use Rattle.hb_streams.specs.declared.step.Step.TheVariants.{New, Goes, Ignored}
use Rattle.hb_streams.specs.declared.fault.StreamFault.{StreamFault}

-- the stream begins
abbrev pub is_new : Result Step StreamFault → Bool
is_new (Ok New) = true
is_new (Ok Goes) = false
is_new (Ok Ignored) = false
is_new (Err _) = false

-- the stream begins or is refused
abbrev pub uses_number : Result Step StreamFault → Bool
uses_number (Ok New) = true
uses_number (Ok Goes) = false
uses_number (Ok Ignored) = false
uses_number (Err fault) = fault.code == refused_stream

-- of four answers only the second passes the test
picked : (p : Result Step StreamFault → Bool) (a b c : Bool) (x y z w : Result Step StreamFault)
    → p x ≡ false → p z ≡ false → p w ≡ false → p (cond a x (cond b y (cond c z w))) ≡ true → p y ≡ true
picked p true b c x y z w fx fz fw e = absurd (false≢true (sym fx ∙ e))
picked p false true c x y z w fx fz fw e = e
picked p false false true x y z w fx fz fw e = absurd (false≢true (sym fz ∙ e))
picked p false false false x y z w fx fz fw e = absurd (false≢true (sym fw ∙ e))

data_uses_none : (n : ℕ) (st : State) → uses_number (data_answer n st) ≡ false
data_uses_none n Idle = refl
data_uses_none n Open = refl
data_uses_none n HalfClosedLocal = refl
data_uses_none n HalfClosedRemote = refl
data_uses_none n Closed = refl
data_uses_none n Reset = refl

control_uses_none : (st : State) → uses_number (control_answer st) ≡ false
control_uses_none Idle = refl
control_uses_none Open = refl
control_uses_none HalfClosedLocal = refl
control_uses_none HalfClosedRemote = refl
control_uses_none Closed = refl
control_uses_none Reset = refl

begins_odd : (even full : Bool) (n : ℕ)
    → uses_number (cond even (connection_error protocol_error) (cond full (stream_error n refused_stream) (Ok New))) ≡ true
    → even ≡ false
begins_odd true full n e = absurd (false≢true e)
begins_odd false full n e = refl

headers_use : (role : Role) (full : Bool) (n : ℕ) (st : State)
    → uses_number (headers_answer role full n st) ≡ true → (st ≡ Idle) × (is_even n ≡ false)
headers_use Client full n Idle e = absurd (false≢true e)
headers_use Client full n Open e = absurd (false≢true e)
headers_use Client full n HalfClosedLocal e = absurd (false≢true e)
headers_use Client full n HalfClosedRemote e = absurd (false≢true e)
headers_use Client full n Closed e = absurd (false≢true e)
headers_use Client full n Reset e = absurd (false≢true e)
headers_use Server full n Idle e = (refl, begins_odd (is_even n) full n e)
headers_use Server full n Open e = absurd (false≢true e)
headers_use Server full n HalfClosedLocal e = absurd (false≢true e)
headers_use Server full n HalfClosedRemote e = absurd (false≢true e)
headers_use Server full n Closed e = absurd (false≢true e)
headers_use Server full n Reset e = absurd (false≢true e)

abbrev pub is_idle : State → Bool
is_idle Idle = true
is_idle Open = false
is_idle HalfClosedLocal = false
is_idle HalfClosedRemote = false
is_idle Closed = false
is_idle Reset = false

sides_not_idle : (own peer : Bool)
    → is_idle (cond (own && peer) Open (cond peer HalfClosedLocal (cond own HalfClosedRemote Closed))) ≡ false
sides_not_idle true true = refl
sides_not_idle true false = refl
sides_not_idle false true = refl
sides_not_idle false false = refl

pub state_with_not_idle : (sides : Sides) → is_idle (state_with sides) ≡ false
state_with_not_idle sides = sides_not_idle sides.own sides.peer

idle_is_above : (o : Option Sides) (even above among : Bool)
    → is_idle (state_by o (cond (even || above) Idle (cond among Reset Closed))) ≡ true → even ≡ false → above ≡ true
idle_is_above (Some sides) even above among e odd = absurd (false≢true (sym (state_with_not_idle sides) ∙ e))
idle_is_above None true above among e odd = absurd (false≢true (sym odd))
idle_is_above None false true among e odd = refl
idle_is_above None false false true e odd = absurd (false≢true e)
idle_is_above None false false false e odd = absurd (false≢true e)

-- a frame that uses a number has an odd one above all that were used
pub number_is_above : (s : States) (kind n : ℕ) → uses_number (answer_of s kind n) ≡ true → (is_even n ≡ false) × (s.highest < n)
number_is_above s kind n e =
    let used : (state_of s n ≡ Idle) × (is_even n ≡ false) =
    headers_use s.role (is_full s) n (state_of s n)
    (picked uses_number (kind == 0) (kind == 1) (kind == 3 || kind == 8) _ _ _ _
    (data_uses_none n (state_of s n)) (control_uses_none (state_of s n)) refl e) in (
      used.1,
      ltb-true s.highest n
          (idle_is_above (get s.active n) (is_even n) _ (is_among s.resets n) (ap is_idle used.0) used.1),
    )

begins_none : (r : Result Step StreamFault) → uses_number r ≡ false → is_new r ≡ false
begins_none (Ok New) e = e
begins_none (Ok Goes) e = refl
begins_none (Ok Ignored) e = refl
begins_none (Err fault) e = refl

first_headers_find_room : (even full : Bool) (n : ℕ)
    → is_new (cond even (connection_error protocol_error) (cond full (stream_error n refused_stream) (Ok New))) ≡ true
    → full ≡ false
first_headers_find_room true full n e = absurd (false≢true e)
first_headers_find_room false true n e = absurd (false≢true e)
first_headers_find_room false false n e = refl

headers_find_room : (role : Role) (full : Bool) (n : ℕ) (st : State) → is_new (headers_answer role full n st) ≡ true → full ≡ false
headers_find_room Client full n Idle e = absurd (false≢true e)
headers_find_room Client full n Open e = absurd (false≢true e)
headers_find_room Client full n HalfClosedLocal e = absurd (false≢true e)
headers_find_room Client full n HalfClosedRemote e = absurd (false≢true e)
headers_find_room Client full n Closed e = absurd (false≢true e)
headers_find_room Client full n Reset e = absurd (false≢true e)
headers_find_room Server full n Idle e = first_headers_find_room (is_even n) full n e
headers_find_room Server full n Open e = absurd (false≢true e)
headers_find_room Server full n HalfClosedLocal e = absurd (false≢true e)
headers_find_room Server full n HalfClosedRemote e = absurd (false≢true e)
headers_find_room Server full n Closed e = absurd (false≢true e)
headers_find_room Server full n Reset e = absurd (false≢true e)

-- a stream begins only where there is room
pub new_has_room : (s : States) (kind n : ℕ) → is_new (answer_of s kind n) ≡ true → is_full s ≡ false
new_has_room s kind n e =
    headers_find_room s.role (is_full s) n (state_of s n)
    (picked is_new (kind == 0) (kind == 1) (kind == 3 || kind == 8) _ _ _ _
    (begins_none _ (data_uses_none n (state_of s n))) (begins_none _ (control_uses_none (state_of s n))) refl e)
