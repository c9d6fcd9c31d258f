-- What the owner of a connection does leaves it kept.
use Rattle.std.proofs.Common.{◌≡◌, ℕ, Bool, true, false, List, refl, ◌∙◌}
use Rattle.std.proofs.lemmas.Bool.{cond_both}
use Rattle.hb_hpack.specs.declared.header.Header.{Header}
use Rattle.hb_owed.specs.declared.due.Due.{Due}
use Rattle.hb_owed.specs.declared.due.Due.TheVariants as due
use Rattle.hb_owed.specs.declared.status.Status.{Status}
use Rattle.hb_conn.specs.Connection.{Connection, core_of, with_core}
use Rattle.hb_conn.specs.Ending.{own_ended, status_put, end_put}
use Rattle.hb_conn.specs.Faults.{is_active, released, cancelled, withdrawn, aborted}
use Rattle.hb_conn.specs.Opening.{begun, headers_put, opened_with}
use Rattle.hb_conn.specs.Owing.{goes_at_once, put_now, put_later, with_due}
use Rattle.hb_conn.specs.declared.found.Found.TheVariants.{Silent}
use Rattle.hb_conn.specs.declared.machine.Core.{Core}
use Rattle.hb_history.specs.Calls.{IsAct}
use Rattle.hb_history.specs.CatchUp.{IsOnStream}
use Rattle.hb_history.specs.Points.{Move, After}
use Rattle.hb_history.specs.Points as points
use Rattle.hb_history.proofs.CatchUp.{act_keeps}
use Rattle.hb_history.proofs.Over.{paid_over}
use Rattle.hb_history.proofs.Steady.{put_owes, put_over, credit_owes, credited_over, wrote_owes, wrote_over}
use Rattle.hb_kept.specs.Acts.{OpensKept, WritesKept, PutsKept, UsesKept, AnswersKept, EndsKept, ResetsKept}
use Rattle.hb_kept.specs.Kept.{IsKept}

-- no act tells a connection error

due_over : (c : Core) (s : ℕ) (d : Due) → (with_due c s d).over ≡ c.over
unfolding with_due
due_over c s d =
    cond_both (goes_at_once c s d) (put_now c s d) (put_later c s d) (λ (x : Core). x.over ≡ c.over) (λ is. refl) (λ is. refl)

released_over : (c : Core) (s : ℕ) → (released c s).over ≡ c.over
released_over c s = cond_both (is_active c.streams s) c _ (λ (x : Core). x.over ≡ c.over) (λ is. refl) (λ is. refl)

cancelled_over : (c : Core) (s : ℕ) → (cancelled c s).over ≡ c.over
cancelled_over c s = cond_both (is_active c.streams s) _ c (λ (x : Core). x.over ≡ c.over) (λ is. refl) (λ is. refl)

pub aborted_over : (c : Core) (s code : ℕ) → (aborted c s code).over ≡ c.over
unfolding aborted
aborted_over c s code = paid_over _ ∙ released_over _ s ∙ due_over (withdrawn (cancelled c s) s) s _ ∙ cancelled_over c s

ended_over : (c : Core) (s : ℕ) → (own_ended c s).over ≡ c.over
ended_over c s = released_over _ s

pub status_over : (c : Core) (s : ℕ) (status : Status) → (status_put c s status).over ≡ c.over
status_over c s status =
    let put = with_due c s (due.Status status) in
    cond_both status.end (own_ended put s) put (λ (x : Core). x.over ≡ c.over)
    (λ is. ended_over put s ∙ due_over c s (due.Status status)) (λ is. due_over c s (due.Status status))

pub end_over : (c : Core) (s : ℕ) → (end_put c s).over ≡ c.over
end_over c s = ended_over (with_due c s due.End) s ∙ due_over c s due.End

opened_over : (c : Core) (s : ℕ) (headers : List Header) (end : Bool) → (opened_with c s headers end).over ≡ c.over
opened_over c s headers true = ended_over (headers_put (begun c s) s headers true) s
opened_over c s headers false = refl

-- an act on a stream whose number has 31 bits
acted : (c : Connection) (move : Move) (core : Core) → IsAct move → IsOnStream move → After (core_of c) move core Silent
    → core.over ≡ (core_of c).over → IsKept c → IsKept (with_core c core)
acted c move core act on after over kept = record {
  octets = kept.octets;
  caught_up = act_keeps move (core_of c) core act on after kept.caught_up;
  preface = kept.preface;
  goes_on = over ∙ kept.goes_on;
}

pub opens_kept : OpensKept
opens_kept c s headers end is kept =
    acted c (points.opened s headers end) (opened_with (core_of c) s headers end) tt tt (is, (refl, refl))
    (opened_over (core_of c) s headers end) kept

pub writes_kept : WritesKept
writes_kept c n kept = record {
  octets = kept.octets;
  caught_up = wrote_owes c n;
  preface = kept.preface;
  goes_on = wrote_over c n ∙ kept.goes_on;
}

pub puts_kept : PutsKept
puts_kept c s bytes kept = record {
  octets = kept.octets;
  caught_up = put_owes c s bytes kept.caught_up;
  preface = kept.preface;
  goes_on = put_over c s bytes ∙ kept.goes_on;
}

pub uses_kept : UsesKept
uses_kept c s n number kept = record {
  octets = kept.octets;
  caught_up = credit_owes c s n number kept.caught_up;
  preface = kept.preface;
  goes_on = credited_over c s n ∙ kept.goes_on;
}

pub answers_kept : AnswersKept
answers_kept c s status number kept =
    acted c (points.answered s status) (status_put (core_of c) s status) tt number (refl, refl) (status_over (core_of c) s status) kept

pub ends_kept : EndsKept
ends_kept c s number kept =
    acted c (points.ended s) (end_put (core_of c) s) tt number (refl, refl)
    (end_over (core_of c) s) kept

pub resets_kept : ResetsKept
resets_kept c s code kept =
    acted c (points.reset s code) (aborted (core_of c) s code) tt tt (refl, refl) (aborted_over (core_of c) s code) kept
