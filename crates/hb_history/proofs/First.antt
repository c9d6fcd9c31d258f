-- DATA with payload stands in front of all that waits.
use Rattle.std.proofs.Common.{◌≡◌, ℕ, zero, suc, ◌-◌, Bool, true, false, cond, List, [], ◌∷◌, ◌++◌, length, drop, Some, None, refl, ap, sym, ◌∙◌, arith, length-append}
use Rattle.std.specs.List.{filter}
use Rattle.std.proofs.lemmas.Bool.{false≢true}
use Rattle.std.proofs.lemmas.List.{nil_from_length, drop_all}
use Rattle.hb_frames.specs.RawFrame.{RawFrame, spelling}
use Rattle.hb_streams.specs.declared.role.Role.{Role}
use Rattle.hb_streams.specs.declared.role.Role.TheVariants.{Server, Client}
use Rattle.hb_outgoing.specs.Waiting.{Waiting, octets_of, spelled}
use Rattle.hb_outgoing.specs.Written.{begun_in, written}
use Rattle.hb_outgoing.specs.Selected.{has_data, is_kept}
use Rattle.hb_outgoing.proofs.Queues.{spelling_len}
use Rattle.hb_conn.specs.declared.machine.Core.{Core}
use Rattle.hb_history.specs.Points.{Point, Runs}
use Rattle.hb_history.specs.History.{fresh}
use Rattle.hb_history.specs.Waits.{IsFirstBy, IsFirst, DataStandsFirst}
use Rattle.hb_history.proofs.NoneOf.{NoneOf, none_more, none_left, none_filtered}
use Rattle.hb_history.proofs.Parts.{PutsAck}
use Rattle.hb_history.proofs.Shown.{KeepsOut, PutsOut, OfOut, out_keeps, out_puts, out_resizes, out_grows}
use Rattle.hb_history.proofs.Acted.{runs_keep}

abbrev pub NoData : List RawFrame → Type 0
NoData fs = NoneOf has_data fs

none_first : (rest : List ℕ) (fs : List RawFrame) → NoData fs → IsFirstBy rest fs
none_first rest [] none = tt
none_first rest (f ∷ fs) none = (λ some. absurd (false≢true (sym none.0 ∙ some)), none.1)

put_by : (rest : List ℕ) (fs : List RawFrame) (f : RawFrame) → has_data f ≡ false → IsFirstBy rest fs → IsFirstBy rest (fs ++ f ∷ [])
put_by rest [] f none first = none_first rest (f ∷ []) (none, tt)
put_by rest (g ∷ fs) f none first = (first.0, none_more has_data fs f first.1 none)

-- where no octet waits no frame does
pub none_waits : (w : Waiting) → octets_of w ≡ [] → w.queue ≡ []
none_waits w none = by w.queue none
  where
    by : (fs : List RawFrame) → w.rest ++ spelled fs ≡ [] → fs ≡ []
    by [] none = refl
    by (g ∷ fs) none =
        let len = length-append w.rest (spelled (g ∷ fs)) in
        let one = length-append (spelling g) (spelled fs) in
        absurd (omega (arith, len, one, spelling_len g, ap length none))

data_by : (rest : List ℕ) (fs : List RawFrame) (f : RawFrame) → rest ++ spelled fs ≡ [] → IsFirstBy rest (fs ++ f ∷ [])
data_by rest [] f none =
    let len = length-append rest [] in
    let all = ap length none in
    (λ some. nil_from_length rest (omega (arith, len, all)), tt)
data_by rest (g ∷ fs) f none =
    let len = length-append rest (spelled (g ∷ fs)) in
    let one = length-append (spelling g) (spelled fs) in
    absurd (omega (arith, len, one, spelling_len g, ap length none))

filtered_by : (p : RawFrame → Bool) (rest : List ℕ) (fs : List RawFrame) → IsFirstBy rest fs → IsFirstBy rest (filter p fs)
filtered_by p rest [] first = tt
filtered_by p rest (f ∷ fs) first = by (p f) (none_filtered has_data p fs first.1)
  where
    by : (b : Bool) → NoData (filter p fs) → IsFirstBy rest (cond b (f ∷ filter p fs) (filter p fs))
    by true none = (first.0, none)
    by false none = none_first rest (filter p fs) none

written_by : (rest : List ℕ) (n m : ℕ) (fs : List RawFrame) → IsFirstBy rest fs
    → IsFirstBy (drop n (rest ++ spelled (begun_in m fs))) (drop (length (begun_in m fs)) fs)
written_by rest n zero [] first = tt
written_by rest n zero (f ∷ fs) first =
    (λ some. ap (λ (xs : List ℕ). drop n (xs ++ [])) (first.0 some) ∙ drop_all n [] (omega arith), first.1)
written_by rest n (suc m) [] first = tt
written_by rest n (suc m) (f ∷ fs) first =
    none_first _ _ (none_left has_data (length (begun_in (suc m - length (spelling f)) fs)) fs first.1)

pub first_keeps : KeepsOut IsFirst
first_keeps = record {
  puts = λ w f plain first. put_by w.rest w.queue f plain.0 first;
  takes_back = λ w s first. filtered_by (is_kept (Some s)) w.rest w.queue first;
  takes_all_back = λ w first. filtered_by (is_kept None) w.rest w.queue first;
}

pub first_puts : PutsOut IsFirst
first_puts w f other none first = data_by w.rest w.queue f none

pub first_acks : PutsAck (OfOut IsFirst)
first_acks c f answer first = put_by c.out.rest c.out.queue f answer.0 first

pub first_written : (w : Waiting) (n : ℕ) → IsFirst w → IsFirst (written n w)
first_written w n first = written_by w.rest n (n - length w.rest) w.queue first

pub first_new : (role : Role) → IsFirst (fresh role).receiver.core.out
first_new Server = (λ some. refl, tt)
first_new Client = (λ some. absurd (false≢true some), tt)

pub first_runs : (points : List Point) (c new : Core) → IsFirst c.out → Runs c points new → IsFirst new.out
first_runs points c new first runs =
    runs_keep (OfOut IsFirst) (out_keeps IsFirst first_keeps) (out_puts IsFirst first_puts) (out_resizes IsFirst first_keeps) first_acks
    (λ d s n h. out_grows IsFirst first_keeps d s n h)
    (λ d n within h. first_written d.out n h) points c new first runs

pub data_stands_first : DataStandsFirst
data_stands_first role points given came written c stands =
    first_runs points (fresh role).receiver.core c.receiver.core (first_new role) stands.runs
