-- The upstream of a tunnel, by what happened to its link.
use Rattle.std.specs.Prelude.{⊤}
use Rattle.std.proofs.Common.{◌≡◌, ◌==◌, ℕ, Bool, true, false, cond, List, [], ◌∷◌, ◌++◌, fold, refl, ap, sym, ◌∙◌}
use Rattle.std.proofs.lemmas.Grind.{fold-append}
use Rattle.hb_held.specs.Held.{Resources}
use Rattle.hb_inbound.specs.Ends.{Life, up_by as up_told, up_in, up_of}
use Rattle.hb_inbound.specs.Part as part
use Rattle.hb_inbound.specs.Part.{Part}
use Rattle.hb_inbound.specs.Runs.{Local, Steps, StandsFor, goes_on}
use Rattle.hb_inbound.specs.Tunnel.{Tunnel, Stage, unasked, requested, refusing, malformed, due, opening, accepting, live, failed, ended, over, gone}
use Rattle.hb_inbound.proofs.EndsRun.{all_say, new_streams}
use Rattle.hb_inbound.proofs.Life.{SaysBy, up_one}
use Rattle.hb_link.specs.Reaches.{Guard, IsInner, Leads}
use Rattle.hb_link.proofs.Settles.{stands_behind}
use Rattle.hb_proxy.specs.Ups.{up_by, up_now}

says_up : (stage : Stage) (how : Life) (u : ℕ) (t : Tunnel) → SaysBy stage how u t → u ≡ up_by stage t
says_up unasked how u t says = says.up
says_up (requested headers end) how u t says = says.up
says_up (refusing status target) how u t says = says.up
says_up malformed how u t says = says.up
says_up due how u t says = says.0.up
says_up opening how u t says = says.up
says_up accepting how u t says = says.up
says_up live how u t says = says.up
says_up (failed why) how u t says = says.up
says_up (ended why) how u t says = says.up
says_up (over why) how u t says = says.up
says_up gone how u t says = says.1

pub ups_are : (l : ℕ) (start : Resources) (a : Local) (parts : List Part) → StandsFor l start a parts → (s : ℕ)
    → up_now (a.link.tunnels s) ≡ up_of s parts
ups_are l start a parts stands s =
    let t = a.link.tunnels s in
    sym (says_up t.stage _ (up_of s parts) t ((all_say new_streams l start a parts stands).each s))

-- what follows by itself changes none
pub inner_in : (s u : ℕ) (p : Part) → IsInner p → up_in s u p ≡ u
inner_in s u (part.entry z) inner = refl
inner_in s u (part.up k z) inner = absurd inner
inner_in s u _ inner = refl

inner_ups : (G : Guard) (l s u : ℕ) (a b : Local) (parts : List Part) → Leads G l a parts b → fold (up_in s) u parts ≡ u
inner_ups G l s u a b [] is = refl
inner_ups G l s u a b (p ∷ parts) is =
    ap (λ (v : ℕ). fold (up_in s) v parts) (inner_in s u p is.0) ∙ inner_ups G l s u is.2 b parts is.4

-- so a part with what follows changes what the part does
pub ups_then : (G : Guard) (l : ℕ) (start : Resources) (a b c : Local) (before : List Part) (p : Part) (parts : List Part)
    → StandsFor l start a before → Steps l a p b → Leads G l b parts c → (s : ℕ)
    → up_now (c.link.tunnels s) ≡ up_in s (up_now (a.link.tunnels s)) p
ups_then G l start a b c before p parts stands step leads s =
    ups_are l start c ((before ++ p ∷ []) ++ parts)
    (stands_behind G l start b c (before ++ p ∷ []) parts (goes_on stands p step refl) leads) s
    ∙ fold-append (up_in s) 0 (before ++ p ∷ []) parts
    ∙ inner_ups G l s (up_of s (before ++ p ∷ [])) b c parts leads
    ∙ up_one s before p
    ∙ ap (λ (u : ℕ). up_in s u p) (sym (ups_are l start a before stands s))

-- a part that isn't the birth or the close of an upstream
abbrev pub LeavesUp : Part → Type 0
LeavesUp (part.up k z) = (u : ℕ) → up_told u z ≡ u
LeavesUp _ = ⊤

pub left_in : (s u : ℕ) (p : Part) → LeavesUp p → up_in s u p ≡ u
left_in s u (part.up k z) leaves = by (k == s)
  where
    by : (b : Bool) → cond b (up_told u z) u ≡ u
    by true = leaves u
    by false = refl
left_in s u _ leaves = refl
