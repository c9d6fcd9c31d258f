-- The identity for which a plain link goes by a gateway may be written, in every run.
use Rattle.std.proofs.Common.{◌≡◌, ℕ, ◌&&◌, nat_le, not, Bool, true, false, cond, List, length, Option, Some, None, IfSome, refl, subst}
use Rattle.std.proofs.lemmas.Bool.{and_parts, leb-true}
use Rattle.hb_base.specs.IdentityText.{is_name}
use Rattle.hb_base.specs.declared.door.Door.{Door}
use Rattle.hb_base.specs.declared.door.Door.TheVariants as door
use Rattle.hb_base.specs.declared.identity.Identity.{Identity}
use Rattle.hb_base.specs.declared.ip.Ip.{Ip}
use Rattle.hb_captured.specs.Answer.{Aim, Routing, straight_to, through, key_of, key_for, aims, by_verdict, by_way, identity_at, identity_in, is_sent, refused_with, answer_on, verdict_on, way_on}
use Rattle.hb_captured.specs.Captured.{Captured, Stage, entered, fronting, came_by, judged_by, judges, is_judged, rejudged, told_by, up_entered}
use Rattle.hb_captured.specs.Part as part
use Rattle.hb_captured.specs.Part.{Part}
use Rattle.hb_captured.specs.Runs.{Local, MayGo, next_link}
use Rattle.hb_front.specs.Reading.{Seen}
use Rattle.hb_front.specs.Written.{IsSent, identity_text}
use Rattle.hb_gateway.specs.Key.{MayBeWritten}
use Rattle.hb_gateway.specs.Response as response
use Rattle.hb_gateway.specs.Response.{Heard, opens, brings, fails}
use Rattle.hb_held.specs.Held.{Resources}
use Rattle.hb_held.specs.Lookup.{known}
use Rattle.hb_model.specs.declared.config.NodeConfig.{NodeConfig}
use Rattle.hb_proxy.proofs.Aims.{all_kept}
use Rattle.hb_proxy.specs.Machine.{Machine}
use Rattle.hb_proxy.specs.Points.{Point}
use Rattle.hb_proxy.specs.Runs.{IfThrough, StandsFor}
use Rattle.hb_records.specs.declared.workload.Workload.{Workload}
use Rattle.hb_route.specs.Answer.{Way, by_gateway, straight, no_way}
use Rattle.hb_table.specs.Judgement.{judged}
use Rattle.hb_table.specs.declared.judgement.Judged.{Judged}
use Rattle.hb_table.specs.declared.judgement.Judged.TheVariants.{Admitted, Unknown, Denied}
use Rattle.hb_verdict.specs.Verdict.{synced, is_unspecified, leads_back}
use Rattle.hb_verdict.specs.declared.verdict.Verdict.{Verdict}
use Rattle.hb_verdict.specs.declared.verdict.Verdict.TheVariants.{Status, Reset, Dial}
use Rattle.hb_world.specs.declared.entry.Entry.{Entry}
use Rattle.hb_world.specs.declared.entry.Entry.TheVariants as e

abbrev pub IsWritten : Aim → Type 0
IsWritten aim = IfThrough (key_of aim) MayBeWritten

-- WHAT A HEADER GETS

sent_of : (i : Identity) → is_sent i ≡ true → IsSent i
sent_of i is =
    let size = and_parts (is_name i.trust_domain && is_name i.namespace && is_name i.service_account)
    (nat_le (length (identity_text i)) 4000) is in
    let account = and_parts (is_name i.trust_domain && is_name i.namespace) (is_name i.service_account) size.0 in
    let names = and_parts (is_name i.trust_domain) (is_name i.namespace) account.0 in
    record {
      trust_domain = names.0;
      namespace = names.1;
      service_account = account.1;
      size = leb-true (length (identity_text i)) 4000 size.1;
    }

sent_at : (o : Option (List ℕ × Workload)) → IfSome (identity_at o) IsSent
sent_at None = tt
sent_at (Some found) = by (is_sent (identity_in found.1)) refl
  where
    by : (b : Bool) → is_sent (identity_in found.1) ≡ b → IfSome (cond b (Some (identity_in found.1)) None) IsSent
    by true is = sent_of (identity_in found.1) is
    by false is = tt

way_written : (held : Resources) (source : Ip) (w : Way) (aim : Aim) → by_way held source w ≡ aims aim → IsWritten aim
way_written held source (straight to endpoint) aim is = by (leads_back held.doors to) is
  where
    by : (b : Bool) → cond b (refused_with 400) (aims (straight_to to endpoint)) ≡ aims aim → IsWritten aim
    by true is = absurd cc
    by false is = let same : straight_to to endpoint ≡ aim = cc in subst IsWritten same tt
way_written held source (by_gateway gateway authority endpoint) aim is = by (is_unspecified gateway.ip) is
  where
    by : (b : Bool) → cond b (refused_with 400) (aims (through (key_for held source gateway) authority endpoint)) ≡ aims aim → IsWritten aim
    by true is = absurd cc
    by false is =
        let same : through (key_for held source gateway) authority endpoint ≡ aim = cc in subst IsWritten same (sent_at (known held source))
way_written held source (no_way why) aim is = absurd cc

verdict_written : (v : Verdict) (aim : Aim) → by_verdict v ≡ aims aim → IsWritten aim
verdict_written (Dial to) aim is = let same : straight_to to None ≡ aim = cc in subst IsWritten same tt
verdict_written (Status status) aim is = absurd cc
verdict_written Reset aim is = absurd cc

answer_written : (d : Door) (held : Resources) (routing : Routing) (seen : Seen) (aim : Aim) → answer_on d held routing seen ≡ aims aim
    → IsWritten aim
answer_written door.Outbound held routing seen aim is = by (synced held) is
  where
    by : (b : Bool) → cond (not b) (refused_with 503) (by_way held seen.source.ip (way_on held routing seen)) ≡ aims aim → IsWritten aim
    by true is = way_written held seen.source.ip (way_on held routing seen) aim is
    by false is = absurd cc
answer_written door.Inbound held routing seen aim is = verdict_written (verdict_on held seen) aim is
answer_written door.Plain held routing seen aim is = verdict_written (verdict_on held seen) aim is

-- IT IS KEPT

abbrev Written : Captured → Type 0
Written x = IsWritten x.aim

came_written : (stage : Stage) (bytes : List ℕ) (x : Captured) → Written x → Written (came_by stage bytes x)
came_written fronting bytes x is = is
came_written _ bytes x is = is

entry_written : (z : Entry) (x : Captured) → Written x → Written (entered z x)
entry_written (e.Came k bytes) x is = came_written x.stage bytes x is
entry_written _ x is = is

up_written : (z : Entry) (x : Captured) → Written x → Written (up_entered z x)
up_written (e.Opened u) x is = is
up_written _ x is = is

told_written : (heard : Heard) (begun : ℕ) (x : Captured) → Written x → Written (told_by heard begun x)
told_written (opens end) begun x is = is
told_written (brings bytes) begun x is = is
told_written response.ends begun x is = is
told_written (fails why) begun x is = is

part_written : (l : ℕ) (a : Local) (p : Part) → MayGo l a p → Written a.link → Written (next_link a.link p)
part_written l a (part.entry z) may is = entry_written z a.link is
part_written l a (part.up z) may is = up_written z a.link is
part_written l a (part.fronted seen routing aim) may is = answer_written a.link.door a.held routing seen aim may.1
part_written l a (part.refused seen routing why status made) may is = tt
part_written l a (part.hears heard begun) may is = told_written heard begun a.link is
part_written l a _ may is = is

rejudged_written : (h : Resources) (x : Captured) → Written x → Written (rejudged h x)
rejudged_written h x is = by (judges x.door && is_judged x.stage)
  where
    of : (j : Judged) → Written (judged_by j x)
    of Admitted = is
    of Unknown = is
    of Denied = is

    by : (b : Bool) → Written (cond b (judged_by (judged h x.peer x.target) x) x)
    by true = of (judged h x.peer x.target)
    by false = is

pub keys_written : (g : NodeConfig) (x : Machine) (points : List Point) → StandsFor g x points → (l : ℕ) → Written (x.plain l)
keys_written = all_kept Written (record { first = tt; goes = part_written; judged = rejudged_written })
