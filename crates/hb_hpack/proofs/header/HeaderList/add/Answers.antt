use Rattle.std.proofs.Common.{◌≡◌, ◌+◌, ◌-◌, ◌^◌, min, List, [], ◌∷◌, ◌++◌, ◌∙◌, sym, ap, refl, arith}
use Rattle.hb_hpack.specs.declared.header.Header.{Header}
use Rattle.hb_hpack.specs.Reader.{octets}
use Rattle.hb_hpack.specs.StaticTable.{header}
use Rattle.hb_hpack.specs.Table.{size_of, total}
use Rattle.hb_hpack.proofs.Fitting.{total-append, kept_more, fitting_push}
use Rattle.hb_hpack.proofs.header.HeaderList.add.Goals as goal

pub returns-in_ok-push : goal.returns-in_ok-push
returns-in_ok-push c headers list =
    let h : Header = header (octets c.args.name) (octets c.args.value) in
    let sum : total (headers ++ h ∷ []) ≡ total headers + (size_of h + 0) = total-append headers (h ∷ []) in
    let size : c.size_of-size.result ≡ min (size_of h) (2 ^ 64 - 1) =
    rw (c.as_slice.ensures, c.as_slice-2.ensures) at c.size_of-size.ensures in
    let pushed : header c.in_ok-into_bytes.field-0 c.in_ok-into_bytes-2.field-0 ≡ h =
    rw (c.in_ok-into_bytes.ensures, c.in_ok-into_bytes-2.ensures) refl in
    let before = list.size in
    let small = c.if-self-le-MOST_KEPT.true in
    record {
      kept = c.in_ok-push.ensures.ok ∙ ap (λ (g : Header). c.args.self.now.kept ++ g ∷ []) pushed
          ∙ ap (λ (hs : List Header). hs ++ h ∷ []) list.kept
          ∙ sym (kept_more headers h (omega (arith, c.saturating_add-self.ensures, size)));
      size = omega (arith, c.saturating_add-self.ensures, size);
    }

pub returns-else-self-le-MOST_KEPT : goal.returns-else-self-le-MOST_KEPT
returns-else-self-le-MOST_KEPT c headers list =
    let h : Header = header (octets c.args.name) (octets c.args.value) in
    let sum : total (headers ++ h ∷ []) ≡ total headers + (size_of h + 0) = total-append headers (h ∷ []) in
    let size : c.size_of-size.result ≡ min (size_of h) (2 ^ 64 - 1) =
    rw (c.as_slice.ensures, c.as_slice-2.ensures) at c.size_of-size.ensures in
    let before = list.size in
    let large = c.if-self-le-MOST_KEPT.false in
    record {
      kept = list.kept ∙ sym (fitting_push 16384 headers h (omega (arith, c.saturating_add-self.ensures, size)));
      size = omega (arith, c.saturating_add-self.ensures, size);
    }
