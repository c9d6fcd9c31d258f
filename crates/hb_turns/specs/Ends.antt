-- How a run ended, as its trace tells it.
use Rattle.std.specs.Prelude.{◌≡◌, ℕ, ◌+◌, ◌-◌, ◌==◌, Bool, true, false, if◌then◌else◌, List, [], ◌∷◌, ◌++◌, Option, Some, None, Result, Ok, Err, count_by}
use Rattle.std.specs.List.{list_any}
use Rattle.hb_base.specs.declared.cause.Cause.{Cause}
use Rattle.hb_base.specs.declared.cause.Cause.TheVariants.{NoMemory, Stopped}
use Rattle.hb_world.specs.declared.entry.Entry.{Entry}
use Rattle.hb_world.specs.declared.entry.Entry.TheVariants as e
use Rattle.hb_world.specs.declared.entry.Way.{Way}
use Rattle.hb_world.specs.declared.entry.Way.TheVariants as way
use Rattle.hb_world.specs.declared.entry.Woken.{Woken}
use Rattle.hb_world.specs.declared.entry.Woken.TheVariants as woken
use Rattle.hb_world.specs.Trace.{AtEach, is_waited}
use Rattle.hb_turns.specs.declared.served.ServeEnd.{ServeEnd}
use Rattle.hb_turns.specs.declared.served.ServeEnd.TheVariants as ends

abbrev pub is_tick : Entry → Bool
is_tick e.Tick = true
is_tick _ = false

-- how often time passed
abbrev pub ticks : List Entry → ℕ
ticks trace = count_by is_tick trace

-- as many ticks passed as were stated; None: no number of them ends the run
abbrev pub are_spent : Option ℕ → ℕ → Bool
are_spent None passed = false
are_spent (Some stated) passed = stated - passed == 0

-- how a wait ends the run, if it does
abbrev pub end_by_wait : Woken → Option ServeEnd
end_by_wait woken.Stop = Some ends.Stopped
end_by_wait woken.Failed = Some ends.WorldFault
end_by_wait woken.GlanceFailed = Some ends.WorldFault
end_by_wait _ = None

-- how a call that moved nothing ends the run, if it does: a listen that failed
abbrev pub end_by_way : Way → Option ServeEnd
end_by_way (way.Listen door at listening) = if listening then None else Some ends.WorldFault
end_by_way _ = None

-- how an entry behind these ends the run, if it does: a listen failed, a wait told a stop or failed, or this is the last of the
-- stated ticks
abbrev pub end_by : Option ℕ → List Entry → Entry → Option ServeEnd
end_by stated before (e.Wait ready how) = end_by_wait how
end_by stated before e.Tick = if are_spent stated (ticks before + 1) then Some ends.Stopped else None
end_by stated before (e.Balked w) = end_by_way w
end_by stated before _ = None

-- no entry ends the run
abbrev pub RunsOn : Option ℕ → List Entry → Type 0
RunsOn stated trace = AtEach (λ before e. end_by stated before e ≡ None) trace

-- the last of these entries ends the run so, and none before it does
pub record LastEnds (stated : Option ℕ) (end : ServeEnd) (trace : List Entry) : Type 0 where
  pub before : List Entry
  pub last : Entry
  pub trace_is : trace ≡ before ++ last ∷ []
  pub runs_on : RunsOn stated before
  pub ends : end_by stated before last ≡ Some end

-- A run that stopped, or whose world failed, was ended so by its last entry. Where its turns are spent or memory lacked none ended it
abbrev pub EndsAs : Option ℕ → ServeEnd → List Entry → Type 0
EndsAs stated ends.Stopped trace = LastEnds stated ends.Stopped trace
EndsAs stated ends.WorldFault trace = LastEnds stated ends.WorldFault trace
EndsAs stated ends.TurnsSpent trace = RunsOn stated trace
EndsAs stated ends.NoMemory trace = RunsOn stated trace

-- the cause for which links are closed that live at such an end
abbrev pub cause_at : ServeEnd → Cause
cause_at ends.NoMemory = NoMemory
cause_at _ = Stopped

-- the entry closes a link for this cause
abbrev pub ClosesFor : Cause → Entry → Type 0
ClosesFor cause (e.Closed link why) = why ≡ cause
ClosesFor cause _ = ⊥

abbrev pub is_fault : ServeEnd → Bool
is_fault ends.WorldFault = true
is_fault _ = false

-- a wait, and no glance
abbrev pub is_wait : Entry → Bool
is_wait (e.Wait ready how) = is_waited how
is_wait _ = false

-- something moved: no call that moved nothing, no wait and no glance
abbrev pub is_move : Entry → Bool
is_move (e.Balked way) = false
is_move (e.Wait ready how) = false
is_move _ = true

abbrev pub waits : List Entry → ℕ
waits trace = count_by is_wait trace

abbrev pub moves : List Entry → ℕ
moves trace = count_by is_move trace

abbrev pub is_lack : Cause → Bool
is_lack NoMemory = true
is_lack _ = false

abbrev pub is_close_for_lack : Entry → Bool
is_close_for_lack (e.Closed link cause) = is_lack cause
is_close_for_lack _ = false

-- a link was closed for want of memory
abbrev pub was_wanting : List Entry → Bool
was_wanting trace = list_any is_close_for_lack trace

-- the world failed in it
abbrev pub is_fault_by : Option ServeEnd → Bool
is_fault_by None = false
is_fault_by (Some end) = is_fault end

-- a turn that ends the run spends none of those that are left
abbrev pub is_spent_by : {E : Type 0} → Result (Option ServeEnd) E → Bool
is_spent_by (Ok (Some ends.TurnsSpent)) = true
is_spent_by _ = false

abbrev pub is_fault_of_turn : {E : Type 0} → Result (Option ServeEnd) E → Bool
is_fault_of_turn (Ok end) = is_fault_by end
is_fault_of_turn (Err why) = false

abbrev pub end_of : {E : Type 0} → Result ServeEnd E → ServeEnd
end_of (Ok end) = end
end_of (Err why) = ends.NoMemory
