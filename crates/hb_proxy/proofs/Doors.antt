-- Calls at doors that gave nothing, and looks that found a link fine, tell nothing of which links there are.
use Rattle.std.proofs.Common.{◌≡◌, ℕ, ◌+◌, ◌||◌, ◌&&◌, ◌==◌, Bool, true, false, not, cond, if◌then◌else◌, List, [], ◌∷◌, fold, refl, ap, ap₂, sym, ◌∙◌, arith}
use Rattle.std.proofs.lemmas.Bool.{false≢true}
use Rattle.std.specs.List.{list_any}
use Rattle.hb_world.specs.declared.entry.Entry.{Entry}
use Rattle.hb_world.specs.declared.entry.Entry.TheVariants as e
use Rattle.hb_world.specs.declared.entry.Way.TheVariants as way
use Rattle.hb_world.specs.Trace.{is_birth, is_birth_of, is_close_of, is_shut_of}
use Rattle.hb_ready.specs.Sight.{awake, fresh, is_named, sight_behind, with_end, with_finish, with_look, with_open, with_read, with_write}
use Rattle.hb_ready.specs.declared.link.Link.{Link}
use Rattle.hb_proxy.specs.Doors.{is_at_door, without_doors, DoorsTellNone}

-- what a fold makes of the entries at doors is nothing
fold_so : {S : Type 0} (f : S → Entry → S) → ((s : S) (z : Entry) → is_at_door z ≡ true → f s z ≡ s) → (s : S) (trace : List Entry)
    → fold f s (without_doors trace) ≡ fold f s trace
fold_so f none s [] = refl
fold_so {S} f none s (z ∷ trace) = by (is_at_door z) refl (λ v. fold_so f none v trace)
  where
    by : (b : Bool) → is_at_door z ≡ b → ((v : S) → fold f v (without_doors trace) ≡ fold f v trace)
        → fold f s (cond (not b) (z ∷ without_doors trace) (without_doors trace)) ≡ fold f (f s z) trace
    by true is rest = rest s ∙ ap (λ v. fold f v trace) (sym (none s z is))
    by false is rest = rest (f s z)

-- so is what a test finds
any_so : (is : Entry → Bool) → ((z : Entry) → is_at_door z ≡ true → is z ≡ false) → (trace : List Entry)
    → list_any is (without_doors trace) ≡ list_any is trace
any_so is none [] = refl
any_so is none (z ∷ trace) = by (is_at_door z) refl (any_so is none trace)
  where
    by : (b : Bool) → is_at_door z ≡ b → list_any is (without_doors trace) ≡ list_any is trace
        → list_any is (cond (not b) (z ∷ without_doors trace) (without_doors trace)) ≡ (is z || list_any is trace)
    by true at rest = rest ∙ ap (λ (c : Bool). c || list_any is trace) (sym (none z at))
    by false at rest = ap (λ (c : Bool). is z || c) rest

-- an entry at a door is no birth, no close and no shut, and says nothing of any link
at_door : {A : Type 0} (f : Entry → A) (a : A) → ((w : _) → f (e.Balked w) ≡ a) → (z : Entry) → is_at_door z ≡ true → f z ≡ a
at_door f a same (e.Balked w) is = same w
at_door f a same (e.Accepted k d) is = absurd (false≢true is)
at_door f a same (e.Dialled k to why) is = absurd (false≢true is)
at_door f a same (e.DialFailed to why) is = absurd (false≢true is)
at_door f a same (e.Opened k) is = absurd (false≢true is)
at_door f a same (e.Came k bytes) is = absurd (false≢true is)
at_door f a same (e.Ended k) is = absurd (false≢true is)
at_door f a same (e.Broke k) is = absurd (false≢true is)
at_door f a same (e.Went k bytes) is = absurd (false≢true is)
at_door f a same (e.Shut k) is = absurd (false≢true is)
at_door f a same (e.Closed k why) is = absurd (false≢true is)
at_door f a same e.Tick is = absurd (false≢true is)
at_door f a same (e.Wait ready how) is = absurd (false≢true is)

-- what an entry makes of whether a link is open
abbrev opens_behind : ℕ → Bool → Entry → Bool
opens_behind l o (e.Accepted n d) = if n == l then true else o
opens_behind l o (e.Dialled n to why) = if n == l then false else o
opens_behind l o (e.Opened n) = if n == l then true else o
opens_behind l o _ = o

picks : (b : Bool) (f k : Link) → (if b then f else k).is_open ≡ (if b then f.is_open else k.is_open)
picks true f k = refl
picks false f k = refl

keeps : (b : Bool) (f k : Link) → f.is_open ≡ k.is_open → (if b then f else k).is_open ≡ k.is_open
keeps true f k same = same
keeps false f k same = refl

open_by : (l : ℕ) (s : Link) (z : Entry) → (sight_behind l s z).is_open ≡ opens_behind l s.is_open z
open_by l s (e.Accepted n d) = picks (n == l) (fresh true) s
open_by l s (e.Dialled n to why) = picks (n == l) (fresh false) s
open_by l s (e.Opened n) = picks (n == l) (with_open s) s
open_by l s (e.Came n bytes) = keeps (n == l) (with_read false s) s refl
open_by l s (e.Ended n) = keeps (n == l) (with_end s) s refl
open_by l s (e.Went n bytes) = keeps (n == l) (with_write false s) s refl
open_by l s (e.Balked (way.Finish n)) = keeps (n == l) (with_finish true s) s refl
open_by l s (e.Balked (way.Read n)) = keeps (n == l) (with_read true s) s refl
open_by l s (e.Balked (way.Write n)) = keeps (n == l) (with_write true s) s refl
open_by l s (e.Balked (way.Look n)) = keeps (n == l) (with_look true s) s refl
open_by l s (e.Balked (way.Listen d to listening)) = refl
open_by l s (e.Balked (way.Accept d)) = refl
open_by l s (e.Wait ready how) = keeps (is_named l ready) (awake s) s refl
open_by l s _ = refl

open_so : (l : ℕ) (s : Link) (trace : List Entry) → (fold (sight_behind l) s trace).is_open ≡ fold (opens_behind l) s.is_open trace
open_so l s [] = refl
open_so l s (z ∷ trace) = open_so l (sight_behind l s z) trace ∙ ap (λ (b : Bool). fold (opens_behind l) b trace) (open_by l s z)

pub doors_tell_none : DoorsTellNone
doors_tell_none trace = record {
  births = fold_so (λ n z. n + cond (is_birth z) 1 0) (λ n z is. counts n z is) 0 trace;
  lives = λ l. ap₂ (λ (a b : Bool). a && not b) (any_so (is_birth_of l) (at_door (is_birth_of l) false (λ w. refl)) trace)
      (any_so (is_close_of l) (at_door (is_close_of l) false (λ w. refl)) trace);
  is_open = λ l. open_so l (fresh false) (without_doors trace)
      ∙ fold_so (opens_behind l) (λ o. at_door (opens_behind l o) o (λ w. refl)) false trace
      ∙ sym (open_so l (fresh false) trace);
  was_shut = λ l. any_so (is_shut_of l) (at_door (is_shut_of l) false (λ w. refl)) trace;
}
  where
    counts : (n : ℕ) (z : Entry) → is_at_door z ≡ true → n + cond (is_birth z) 1 0 ≡ n
    counts n z is = ap (λ (b : Bool). n + cond b 1 0) (at_door is_birth false (λ w. refl) z is) ∙ omega arith
