-- What is told to all links touches some: each other one stays as it is.
use Rattle.std.proofs.Common.{◌≡◌, inl, inr, ℕ, false, Option, Some, None, is_some, refl, ap, sym, ◌∙◌, subst}
use Rattle.std.specs.Cmp.{nat_cmp_total}
use Rattle.std.specs.FinMap.{get, insert, same_map, nat_cmp-IsAntisymmetric}
use Rattle.hb_inbound.specs.Calm.{close_due, IsIdleBy}
use Rattle.hb_inbound.specs.Inbound as m
use Rattle.hb_inbound.specs.Inbound.{Inbound}
use Rattle.hb_inbound.specs.Tunnel as t
use Rattle.hb_inbound.specs.Tunnel.{Tunnel as Machine, Stage}
use Rattle.hb_link.specs.Acts.{NoneIsDue}
use Rattle.hb_link.specs.Rousing.{Rouses}
use Rattle.hb_link.specs.Tunnels.{stage_of, tunnel_of, as_told, ShowsAt, ShowsTunnel}
use Rattle.hb_link.specs.declared.link.Link.{Link}
use Rattle.hb_link.specs.declared.tunnel.Tunnel.{Tunnel}
use Rattle.hb_map.proofs.Laws.{written_where_some, put_elsewhere}
use Rattle.hb_links.specs.declared.links.Links.{Links}
use Rattle.hb_links.specs.Busy.{may_be_due, touched}
use Rattle.hb_links.specs.Shows.{IsAway, ShowsLink, ShowsAll}
use Rattle.hb_links.specs.Stirring.{Stirs}
use Rattle.hb_links.proofs.Due.{due_then}
use Rattle.hb_links.proofs.Showing.{links_with, written_same}
use Rattle.hb_links.proofs.Stirs.{none_stirs, stirs_all_then, told_stirs}

-- each link that may have no act due is as it was, and so it was before; and what may be done now stirs
pub record Spares (k n : Links) : Type 0 where
  pub ups : n.ups ≡ k.ups
  pub due : (l : ℕ) → may_be_due n l ≡ false → (may_be_due k l ≡ false) × (get n.links l ≡ get k.links l)
  pub stirs : Stirs k n

pub spares_all : (k : Links) → Spares k k
spares_all k = record { ups = refl; due = λ l none. (none, refl); stirs = none_stirs k }

-- one more is touched
pub spares_others : (k a : Links) (n before : ℕ) (old new : Link) → get a.links n ≡ Some old → Rouses old new → Spares k a
    → Spares k (touched n before (record a { links = insert a.links n new }))
spares_others k a n before old new is rouses spares = record {
  ups = spares.ups;
  due = λ l none. (let was = due_then (links_with (insert a.links n new) a.ups a) n before l none in
      let so = spares.due l was.1 in
      (so.0, put_elsewhere a.links n new l was.0 ∙ so.1));
  stirs = stirs_all_then k a (touched n before (record a { links = insert a.links n new })) spares.stirs
      (told_stirs before a (touched n before (record a { links = insert a.links n new })) (insert a.links n new) n old new refl
      (sym (written_where_some a.links n new (ap is_some is))) is rouses);
}

-- a link that stays as it is
pub same_links : (k : Links) (n : ℕ) (old new : Link) → get k.links n ≡ Some old → new ≡ old → insert k.links n new ≡ k.links
same_links k n old new is same =
    same_map nat_cmp_total nat_cmp-IsAntisymmetric (insert k.links n new) k.links
    (written_same k (insert k.links n new) n old new is same (sym (written_where_some k.links n new (ap is_some is))))

-- WHAT IS DUE

idle_told : (stage : Stage) (x : Machine) → IsIdleBy stage x → IsIdleBy stage (as_told x)
idle_told t.unasked x idle = idle
idle_told (t.requested headers end) x idle = idle
idle_told (t.refusing status target) x idle = idle
idle_told t.malformed x idle = idle
idle_told t.due x idle = idle
idle_told t.opening x idle = idle
idle_told t.accepting x idle = idle
idle_told t.live x idle = idle
idle_told (t.failed cause) x idle = idle
idle_told (t.ended cause) x idle = idle
idle_told (t.over cause) x idle = idle
idle_told t.gone x idle = idle

told_idle : (stage : Stage) (x : Machine) → IsIdleBy stage (as_told x) → IsIdleBy stage x
told_idle t.unasked x idle = idle
told_idle (t.requested headers end) x idle = idle
told_idle (t.refusing status target) x idle = idle
told_idle t.malformed x idle = idle
told_idle t.due x idle = idle
told_idle t.opening x idle = idle
told_idle t.accepting x idle = idle
told_idle t.live x idle = idle
told_idle (t.failed cause) x idle = idle
told_idle (t.ended cause) x idle = idle
told_idle (t.over cause) x idle = idle
told_idle t.gone x idle = idle

-- two tunnels of the machine that the code shows by one
idle_same : (k : Tunnel) (x y : Machine) → as_told x ≡ tunnel_of k → as_told y ≡ tunnel_of k → IsIdleBy x.stage x → IsIdleBy y.stage y
idle_same k x y x_is y_is idle =
    told_idle y.stage y
    (subst (λ (z : Machine). IsIdleBy z.stage z) (x_is ∙ sym y_is) (idle_told x.stage x idle))

idle_shown : (stage : Stage) (k : Tunnel) (x y : Machine) → ShowsAt stage k x → ShowsAt stage k y → IsIdleBy x.stage x
    → IsIdleBy y.stage y
idle_shown t.unasked k x y was now idle = idle_same k x y was.0 now.0 idle
idle_shown (t.requested headers end) k x y was now idle = idle_same k x y was.0 now.0 idle
idle_shown (t.refusing status target) k x y was now idle = idle_same k x y was.0 now.0 idle
idle_shown t.malformed k x y was now idle = idle_same k x y was.0 now.0 idle
idle_shown t.due k x y was now idle = idle_same k x y was.0 now.0 idle
idle_shown t.opening k x y was now idle = idle_same k x y was.0 now.0 idle
idle_shown t.accepting k x y was now idle = idle_same k x y was.0 now.0 idle
idle_shown t.live k x y was now idle = idle_same k x y was.0 now.0 idle
idle_shown (t.failed cause) k x y was now idle = idle_same k x y was.0 now.0 idle
idle_shown (t.ended cause) k x y was now idle = idle_same k x y was.0 now.0 idle
idle_shown (t.over cause) k x y was now idle = absurd (subst (λ (stage : Stage). IsIdleBy stage x) was.0 idle)
idle_shown t.gone k x y was now idle = idle_same k x y was.0 now.0 idle

none_there : (y : Machine) → ShowsTunnel None y → IsIdleBy y.stage y
none_there y (inl is) = subst (λ (stage : Stage). IsIdleBy stage y) (sym is) tt
none_there y (inr is) = subst (λ (stage : Stage). IsIdleBy stage y) (sym is) tt

idle_tunnel : (o : Option Tunnel) (x y : Machine) → ShowsTunnel o x → ShowsTunnel o y → IsIdleBy x.stage x → IsIdleBy y.stage y
idle_tunnel None x y was now idle = none_there y now
idle_tunnel (Some k) x y was now idle = idle_shown (stage_of k.stage) k x y was now idle

away_closes : (phase : m.Phase) → IsAway phase → close_due phase ≡ None
away_closes m.unborn is = refl
away_closes m.closed is = refl
away_closes m.arriving is = absurd is
away_closes m.fronting is = absurd is
away_closes m.serving is = absurd is
away_closes (m.faulted code) is = absurd is
away_closes (m.closing why) is = absurd is

-- so of two links of the machine
none_due : (l : ℕ) (o : Option Link) (x y : Inbound) → ShowsLink l o x → ShowsLink l o y → NoneIsDue x → NoneIsDue y
none_due l None x y was now idle = record {
  no_close = away_closes y.phase now.0;
  idle = λ s. none_there (y.tunnels s) (now.1 s);
}
none_due l (Some k) x y was now idle = record {
  no_close = ap close_due (now.1.phase ∙ sym was.1.phase) ∙ idle.no_close;
  idle = λ s. idle_tunnel (get k.tunnels s) (x.tunnels s) (y.tunnels s) (was.1.tunnels s) (now.1.tunnels s) (idle.idle s);
}

-- where each link is shown afterwards, of one that may have no act due none is
abbrev pub RestsStill : Links → Links → Type 0
RestsStill k n =
    (f h : ℕ → Inbound) → ShowsAll k f → ((l : ℕ) → ShowsLink l (get n.links l) (h l)) → (l : ℕ) → may_be_due n l ≡ false
    → NoneIsDue (h l)

pub spared_rests : (k n : Links) → Spares k n → RestsStill k n
spared_rests k n spares f h shows links l none =
    let so = spares.due l none in
    none_due l (get k.links l) (f l) (h l) (shows.links l) (subst (λ (o : Option Link). ShowsLink l o (h l)) so.1 (links l))
    (shows.idle l so.0)
