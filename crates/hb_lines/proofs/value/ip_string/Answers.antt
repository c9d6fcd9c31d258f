use Rattle.std.proofs.Common.{subst, sym, rules, ◌≡◌, true≢false}
use Rattle.std.specs.Str.{IsUtf8}
use Rattle.hb_base.specs.IpText.{ip_text}
use Rattle.hb_lines.proofs.AddressText.{ip_text_is_utf8}
use Rattle.hb_lines.proofs.value.ip_string.Goals as goal

pub unreachable-requires : goal.unreachable-requires
unreachable-requires c =
    let text : c.put_ip.new.out.items ≡ ip_text c.args.ip = search rules in
    true≢false (sym (c.in-Err.ensures.succeeds (subst IsUtf8 (sym text) (ip_text_is_utf8 c.args.ip))))
