use Rattle.std.proofs.Common.{◌≡◌, ap, ◌∙◌, subst}
use Rattle.std.specs.FinMap.{entries}
use Rattle.std.specs.Option.{option_copied}
use Rattle.hb_index.specs.Index.{names_or_none}
use Rattle.hb_index.specs.Indexed.{AreNamesAt}
use Rattle.hb_index.proofs.Rising.{entries_rise}
use Rattle.hb_held.specs.Endpoints.{joined, serves, entries_left, endpoints_at}
use Rattle.hb_held.specs.Numbers.{text_number, address_numbers}
use Rattle.hb_held.proofs.Addressed.{endpoints_named}
use Rattle.hb_held.proofs.Served.{served}
use Rattle.hb_held.proofs.endpoints.endpoints_of.Goals as goal

pub returns : goal.returns
returns c =
    let m = c.args.addresses.now.now in
    let network = c.args.network.now in
    let namespace = c.args.namespace.now in
    let hostname = c.args.hostname.now in
    let passes = serves network namespace hostname in
    let names = option_copied c.names_at.result in
    let number : c.joined_number-number.result ≡ text_number (joined namespace hostname) = search (c.joined_number-number.ensures, c.as_slice.ensures.value, c.as_slice-2.ensures.value) in
    ap (λ a. endpoints_at a passes (entries_left c.names_in-names.result)) c.now.ensures
    ∙ ap (endpoints_at m passes) c.names_in-names.ensures
    ∙ served m passes (entries (names_or_none names)) (entries_rise (names_or_none names))
    (endpoints_named m network namespace hostname names
    (subst (λ n. AreNamesAt address_numbers m n names) number c.names_at.ensures))
