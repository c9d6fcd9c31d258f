-- What is printed of a text, and how a run ends that prints a page.
use Rattle.std.proofs.Common.{◌≡◌, ◌≢◌, ℕ, ◌==◌, List, Ok, refl, sym, subst, inl, ⊎_elim}
use Rattle.std.specs.Prelude.{IsTrue}
use Rattle.hb_audit.specs.Tells.{Answering}
use Rattle.hb_words.specs.Command.{shows, prints}
use Rattle.hb_words.specs.Page.{page_text}
use Rattle.hb_words.specs.declared.page.Page.{Page}
use Rattle.hb_cli.specs.declared.answer.Printed.{Printed}
use Rattle.hb_cli.specs.declared.answer.Printed.TheVariants.{Whole, Failed, NoMemory}
use Rattle.hb_cli.specs.declared.ended.ReplayEnd.{ReplayEnd}
use Rattle.hb_cli.specs.declared.ended.ReplayEnd.TheVariants as ends
use Rattle.hb_cli.specs.Ending.{Run, PageGives, Answers, IsDone, Unwritten, ShownInPart, BreaksOff, Wanting, Stays, EndsWith}
use Rattle.hb_cli.specs.Paging.{PagesAt}
use Rattle.hb_cli.specs.Printing.{PrintsAt}
use Rattle.hb_cli.specs.Run.{takes_input, write_fault_line}
use Rattle.hb_cli.specs.Use.{Use, Untouched, WritesAll, WritesPart, Prints, Tells}
use Rattle.hb_cli.proofs.Endings.{NoneFalls, stays_still, pick, ends_at, finished, by_status, gives_of, same_command, accepted, takes_none}

-- a text was printed in part
pub text_in_part : (out err : Use) (text : List ℕ) (p : Printed) (status : ℕ) → p ≢ Whole → p ≢ NoMemory → Prints out text p
    → status ≡ 7 → Tells err write_fault_line → PrintsAt text out err status
text_in_part out err text Whole status whole lacks written seven tells = absurd (whole refl)
text_in_part out err text Failed status whole lacks written seven tells = subst (PrintsAt text out err) (sym seven) (written, tells)
text_in_part out err text NoMemory status whole lacks written seven tells = absurd (lacks refl)

-- What is printed at each status and the endings of a run say the same of a page
module _ {A : Type 0} {own : Answering A} (p : Page) (r : Run own) (asks : r.asked ≡ Ok (prints p)) where
  -- it leaves the input, the script's world and the notes as they were
  pub paged : (status : ℕ) → Untouched r.input → NoneFalls r.input r.out r.err
      → PagesAt p r.world.heard r.before r.left r.out r.err status → EndsWith r status
  paged status unread later at =
      pick status 0 (status == 0) refl at.2 (λ same a. finished r ends.Stopped (page_text p) status text a.0 (same, a.1) stays) (λ at7.
      pick status 7 (status == 7) refl at7 (λ same a. ends_at r 7 status same stays (ends.Stopped, page_text p, text, a.0, a.1)) (λ at9.
      pick status 9 (status == 9) refl at9 (λ same a. ends_at r 9 status same stays (unread.1, inl a.0, a.1, broken))
      (λ none. absurd none)))
    where
      stays : Stays r
      stays = stays_still r at.0 at.1 later

      text : Answers r ends.Stopped (page_text p)
      text = (prints p, asks, (unread, refl, (at.0, at.1), refl))

      broken : BreaksOff r.asked r
      broken = subst (λ asked. BreaksOff asked r) (sym asks) (at.0, at.1)

  gives : (end : ReplayEnd) (text : List ℕ) → Answers r end text → PageGives p r end text
  gives end text a = gives_of r end text (prints p) asks a

  never : {P : Type 0} → IsTrue (takes_input r.asked) → P
  never takes = absurd (takes_none r.asked (prints p) refl asks takes)

  whole : IsDone r → PagesAt p r.world.heard r.before r.left r.out r.err 0
  whole a = let g = gives ends.Stopped a.0 a.1 in (g.2.0, g.2.1, (subst (WritesAll r.out) g.3 a.2, a.3))

  part : Unwritten r → PagesAt p r.world.heard r.before r.left r.out r.err 7
  part a = let g = gives a.0 a.1 a.2 in (g.2.0, g.2.1, (subst (WritesPart r.out) g.3 a.3, a.4))

  lacks : Wanting r → PagesAt p r.world.heard r.before r.left r.out r.err 9
  lacks a =
      let b : BreaksOff (Ok (prints p)) r = subst (λ asked. BreaksOff asked r) asks a.3 in
      let quiet =
      ⊎_elim (λ (still : Untouched r.out). still)
      (λ (shown : ShownInPart r). let other = same_command r.asked (prints p) (shows shown.1) asks shown.2 in absurd cc) a.1 in
      (b.0, b.1, (quiet, a.2))

  pub pages_at : (status : ℕ) → EndsWith r status → PagesAt p r.world.heard r.before r.left r.out r.err status
  pages_at = by_status r (PagesAt p r.world.heard r.before r.left r.out r.err) whole
      (λ a. absurd (accepted r.asked (prints p) a.0 asks a.1)) (λ a. never a.2.1)
      (λ a. let other = (gives ends.WorldFault a.0 a.1).1 in absurd cc)
      (λ a. let other = (gives ends.TurnsSpent a.0 a.1).1 in absurd cc)
      (λ a. never a.0.1) part lacks
