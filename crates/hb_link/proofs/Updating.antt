-- A response that touches nothing at the destination of a link.
use mathlib.Core.Path.{fun_ext}
use Rattle.std.proofs.Common.{◌≡◌, ℕ, Bool, true, false, cond, List, [], refl, ap, sym, ◌∙◌, subst}
use Rattle.std.proofs.lemmas.Bool.{eqb-true, false≢true}
use Rattle.hb_base.specs.declared.ip.Ip.{Ip}
use Rattle.hb_base.specs.declared.ip.Ip.TheVariants.{V4, V6}
use Rattle.hb_base.specs.declared.peer.Peer.{Peer}
use Rattle.hb_base.specs.declared.target.Target.{Target}
use Rattle.hb_disco.specs.declared.response.Response.{Response}
use Rattle.hb_held.specs.Held.{Resources, before as held_before}
use Rattle.hb_held.specs.Lookup.{ip_eq}
use Rattle.hb_held.specs.Outcome.{after_response}
use Rattle.hb_held.specs.Touched.{touched}
use Rattle.hb_table.proofs.Before.{judged_before}
use Rattle.hb_table.proofs.Untouched.{judgement_stays}
use Rattle.hb_table.specs.Judgement.{judged}
use Rattle.hb_table.specs.declared.judgement.Judged.{Judged}
use Rattle.hb_table.specs.declared.judgement.Judged.TheVariants.{Admitted}
use Rattle.hb_inbound.specs.Inbound as m
use Rattle.hb_inbound.specs.Inbound.{Inbound, rejudged, judged_by}
use Rattle.hb_inbound.specs.Part.{Part, applied}
use Rattle.hb_inbound.specs.Runs.{Local, StandsFor}
use Rattle.hb_inbound.specs.Tunnel.{Tunnel, takes_place}
use Rattle.hb_inbound.proofs.AdmittedRun.{all_admit}
use Rattle.hb_link.specs.declared.link.Link.{Link}
use Rattle.hb_link.specs.Calls.{Updates}
use Rattle.hb_link.specs.Noted.{Told}
use Rattle.hb_link.specs.Shows.{Shows, ShowsBy}
use Rattle.hb_link.proofs.Living.{it_serves}
use Rattle.hb_link.proofs.Noted.{takes_none}

same_ip : (a b : Ip) → ip_eq a b ≡ true → a ≡ b
same_ip (V4 a) (V4 b) is = ap V4 (eqb-true a b is)
same_ip (V4 a) (V6 b) is = absurd (false≢true is)
same_ip (V6 a) (V4 b) is = absurd (false≢true is)
same_ip (V6 a) (V6 b) is = ap V6 (eqb-true a b is)

-- by what is held behind it the tunnel is judged as in front of it
judged_still : (h : Resources) (r : Response) (peer : Peer) (target : Target) → touched (after_response h r) target.ip ≡ false
    → judged (after_response h r) peer target ≡ judged h peer target
judged_still h r peer target quiet =
    sym (judgement_stays (after_response h r) peer target quiet) ∙ judged_before h r peer target

module _ (k : Link) (start : Resources) (points : List Part) (a : Local) (r : Response) (stands : StandsFor k.number start a points)
    (shows : Shows k a.link) (quiet : touched (after_response a.held r) k.destination ≡ false) where
  abbrev x : Inbound
  x = a.link

  abbrev held : Resources
  held = after_response a.held r

  placed : (s : ℕ) → takes_place (x.tunnels s).stage ≡ true → judged held x.peer (x.tunnels s).target ≡ Admitted
  placed s place =
      let is = (all_admit k.number start a points stands).each s place in
      let way = subst (λ (phase : m.Phase). ShowsBy phase k x) (it_serves k.number start a points stands s place) shows.way in
      judged_still a.held r x.peer (x.tunnels s).target
      (ap (touched held) (same_ip (x.tunnels s).target.ip x.destination is.here ∙ way.3) ∙ quiet) ∙ is.admitted

  each_stays : (s : ℕ) (b : Bool) → takes_place (x.tunnels s).stage ≡ b
      → cond b (judged_by (judged held x.peer (x.tunnels s).target) (x.tunnels s)) (x.tunnels s) ≡ x.tunnels s
  each_stays s true place = ap (λ (j : Judged). judged_by j (x.tunnels s)) (placed s place)
  each_stays s false place = refl

  -- each tunnel stays
  pub judged_same : rejudged held x ≡ x
  judged_same =
      ap (λ (tunnels : ℕ → Tunnel). record x { tunnels = tunnels })
      (fun_ext (λ s. each_stays s (takes_place (x.tunnels s).stage) refl))

-- nothing is to be done where nothing is told of the destination
pub untouched_updates : (k : Link) (held : Resources) (told : Told) → touched held k.destination ≡ false → Updates held k told k told
untouched_updates k held told quiet r start points a b stands shows is step = (
  refl,
  record {
    parts = [];
    reached = b;
    leads = refl;
    shows = subst (Shows k)
        (sym (ap (λ (c : Local). c.link) step
        ∙ judged_same k start points a r stands shows (ap (λ (h : Resources). touched h k.destination) (sym is) ∙ quiet))) shows;
    noted = takes_none told;
  },
)
