-- Points of a link that lead on from one to the other.
use Rattle.std.proofs.Common.{◌≡◌, ℕ, ◌<◌, Bool, true, false, List, [], drop, refl, ap, sym, subst, nat_lt, if◌then◌else◌, arith}
use Rattle.std.proofs.lemmas.Bool.Decides.{nat_tests}
use Rattle.hb_base.specs.declared.cause.Cause.TheVariants as cause
use Rattle.hb_conn.specs.Observed.{output}
use Rattle.hb_model.specs.Discovery.{Discovery, Phase, unborn, dialling, live, faulted, ending, closed, ends_for, credited, usable, put_requests, sendable}
use Rattle.hb_model.specs.Point.{Point, applied, refused, used, put}
use Rattle.hb_model.specs.Runs.{IsRefused, no_response, no_message}
use Rattle.hb_node.specs.declared.inbox.Inbox.{Inbox}
use Rattle.hb_node.specs.Judging.{Judges, Seen}
use Rattle.hb_node.specs.Inbox as box
use Rattle.hb_node.specs.Inbox.{Refuses, TakesAll, lacks, refuses, applies, with_fed}
use Rattle.hb_node.specs.Leads.{LinkState, LinkSteps, Leads, stays, goes, with_response}
use Rattle.hb_node.specs.Links.{Agrees, AgreesBy, with_puts}

-- a part with the DATA in hand, and what an inbox keeps
abbrev pub with_box : Inbox → List ℕ → Discovery → Discovery
with_box b chunk x = record x { chunk = chunk; framing = b.framer; waiting = b.waiting }

abbrev pub state : {J : Type 0} → Seen J → Discovery → LinkState J
state held x = record { seen = held; part = x }

is_refused : (b : Inbox) (chunk : List ℕ) (x : Discovery) → Refuses b.framer chunk → IsRefused (with_box b chunk x)
is_refused b chunk x (box.no_response m n fault whole why) = no_response m n fault whole why
is_refused b chunk x (box.no_message fault why) = no_message fault why

module _ {J : Type 0} (judges : Judges J) where
  pub leads_on : (l : ℕ) (a b c : LinkState J) → Leads judges l a b → Leads judges l b c → Leads judges l a c
  leads_on l a b c (stays is) more = subst (λ (s : LinkState J). Leads judges l s c) is more
  leads_on l a b c (goes p lives steps rest) more = goes p lives steps (leads_on l _ b c rest more)

  -- all messages were taken, and the DATA is used up; or one was refused, and the link ends
  abbrev pub HasTaken : ℕ → LinkState J → Discovery → Bool → Seen J → Inbox → Type 0
  HasTaken l a x true held b = Leads judges l a (state held (credited (usable x) (with_box b [] x)))
  HasTaken l a x false held b =
      (y : Discovery) × Leads judges l a (state held y) × (y.phase ≡ ending cause.Discovery) × (y.conn ≡ x.conn)

  has_before : (l : ℕ) (a b : LinkState J) (x : Discovery) (whole : Bool) (held : Seen J) (i : Inbox) (p : Point) → a.part.phase ≡ live
      → LinkSteps judges l a p b → HasTaken l b x whole held i → HasTaken l a x whole held i
  has_before l a b x true held i p lives steps taken = goes p lives steps taken
  has_before l a b x false held i p lives steps taken = (taken.0, goes p lives steps taken.1, taken.2, taken.3)

  pub taken_leads : (l : ℕ) (x : Discovery) (held new_held : Seen J) (b new_b : Inbox) (chunk : List ℕ) (whole : Bool) → x.phase ≡ live
      → 0 < x.counted → TakesAll judges held b chunk whole new_held new_b
      → HasTaken l (state held (with_box b chunk x)) x whole new_held new_b
  taken_leads l x held new_held b new_b chunk whole lives some (lacks front is) =
      let a = state held (with_box b chunk x) in
      let here : HasTaken l a x true held (with_fed chunk b) =
      goes (used l (usable x)) lives (refl, record { none = front.0; counted = refl; some = some }, refl) (stays refl) in
      subst (λ w. HasTaken l a x w new_held new_b) (sym is)
      (subst (λ (h : Seen J). HasTaken l a x true h new_b) (sym front.1)
      (subst (λ (i : Inbox). HasTaken l a x true held i) (sym front.2) here))
  taken_leads l x held new_held b new_b chunk whole lives some (refuses front is) =
      let a = state held (with_box b chunk x) in
      let y = ends_for cause.Discovery (with_box b chunk x) in
      let step : LinkSteps judges l a (refused l) (state held y) = (refl, is_refused b chunk x front.0, refl) in
      subst (λ w. HasTaken l a x w new_held new_b) (sym is)
      (y, subst (λ (h : Seen J). Leads judges l a (state h y)) (sym front.1) (goes (refused l) lives step (stays refl)), refl, refl)
  taken_leads l x held new_held b new_b chunk whole lives some (applies n mid_held mid_b front more) =
      let a = state held (with_box b chunk x) in
      let t = front.2 in
      let c = state mid_held (with_box mid_b (drop n chunk) x) in
      let is : c.part ≡ with_response t.0 n held.held (with_box b chunk x) =
      ap (λ (i : Inbox). with_box i (drop n chunk) x) t.3 in
      has_before l a c x whole new_held new_b (applied l t.0) lives
      (refl, n, record { message = front.0; whole = front.1; response = t.1 }, t.2, is)
      (taken_leads l x mid_held new_held mid_b new_b (drop n chunk) whole lives some more)

-- a part that is the same agrees
agrees_by : (p : Phase) (x y : Discovery) → x ≡ y → AgreesBy p x y
agrees_by unborn x y is = is
agrees_by dialling x y is = is
agrees_by live x y is = is
agrees_by (faulted code) x y is = ap (λ (z : Discovery). output z.conn) is
agrees_by (ending c) x y is = tt
agrees_by closed x y is = is

pub agrees_same : (x y : Discovery) → x ≡ y → Agrees x y
agrees_same x y is = record { phase = ap (λ (z : Discovery). z.phase) is; rest = agrees_by y.phase x y is }

-- of a link that lives what agrees is the same
pub same_live : (x y : Discovery) → Agrees x y → y.phase ≡ live → x ≡ y
same_live x y agrees lives = subst (λ (p : Phase). AgreesBy p x y) lives agrees.rest

-- parts that agree with the same
pub agrees_with : (x y z : Discovery) → Agrees x y → y ≡ z → Agrees x z
agrees_with x y z agrees is = subst (Agrees x) is agrees

module _ {J : Type 0} (judges : Judges J) where
  -- what waits is put
  puts_by : (l : ℕ) (held : Seen J) (x : Discovery) (b : Bool) → x.phase ≡ live → nat_lt 0 (sendable x) ≡ b
      → Leads judges l (state held x) (state held (if b then put_requests x else x))
  puts_by l held x true lives is = goes (put l x.waiting) lives (refl, refl, some, refl) (stays refl)
    where
      some : 0 < sendable x
      some = grind (arith, nat_tests, is)
  puts_by l held x false lives is = stays refl

  pub puts_lead : (l : ℕ) (held : Seen J) (x : Discovery) → x.phase ≡ live → Leads judges l (state held x) (state held (with_puts x))
  puts_lead l held x lives = puts_by l held x (nat_lt 0 (sendable x)) lives refl
