-- How far the tunnel on a stream is, in the words of the trace and of the machine.
use Rattle.std.proofs.Common.{◌≡◌, ◌⊎◌, inl, inr, ℕ, ◌==◌, Bool, true, false, cond, List, [], ◌∷◌, ◌++◌, fold, Option, Some, None, refl, ap, sym, ◌∙◌, subst}
use Rattle.std.proofs.lemmas.Bool.{false≢true, eqb-true, eq-eqb}
use Rattle.hb_base.specs.declared.cause.Cause.{Cause}
use Rattle.hb_base.specs.declared.cause.Cause.TheVariants as cause
use Rattle.hb_base.specs.declared.peer.Peer.{Peer}
use Rattle.hb_held.specs.Held.{Resources}
use Rattle.hb_table.specs.Judgement.{judged}
use Rattle.hb_table.specs.declared.judgement.Judged.{Judged}
use Rattle.hb_table.specs.declared.judgement.Judged.TheVariants.{Admitted, Unknown, Denied}
use Rattle.hb_inbound.specs.Ends.{Life, none, pending, lives, Known, known, known_by, life, life_by, ends, ends_judged, ends_at, up_of, up_in}
use Rattle.hb_inbound.specs.Ends as life
use Rattle.hb_inbound.specs.Inbound.{Inbound, at_stream, judged_by}
use Rattle.hb_inbound.specs.Part.{Part}
use Rattle.hb_inbound.specs.Sides.{held, held_by, peer_of, peer_by}
use Rattle.hb_inbound.specs.Tunnel.{Tunnel, Stage, unasked, requested, refusing, malformed, due, opening, accepting, live, failed, ended, over, gone, ends_by, ends_for, left_with, takes_place}
use Rattle.hb_inbound.proofs.Grown.{fold_one}

-- what is known behind some parts is what is held and who the peer is
held_known : (s : ℕ) (k : Known) (parts : List Part) → (fold (known_by s) k parts).held ≡ fold held_by k.held parts
held_known s k [] = refl
held_known s k (p ∷ parts) = held_known s (known_by s k p) parts

peer_known : (s : ℕ) (k : Known) (parts : List Part) → (fold (known_by s) k parts).peer ≡ fold peer_by k.peer parts
peer_known s k [] = refl
peer_known s k (p ∷ parts) = peer_known s (known_by s k p) parts

-- how far a tunnel is behind one part more
pub life_one : (start : Resources) (s : ℕ) (parts : List Part) (p : Part)
    → life start s (parts ++ p ∷ []) ≡ life_by (held_by (held start parts) p) (peer_of parts) s (life start s parts) p
life_one start s parts p =
    let k = known start s parts in
    ap (λ (j : Known). j.life) (fold_one (known_by s) (record { held = start; peer = None; life = none }) parts p)
    ∙ ap (λ (h : Resources). life_by (held_by h p) k.peer s k.life p)
    (held_known s (record { held = start; peer = None; life = none }) parts)
    ∙ ap (λ (who : Option Peer). life_by (held_by (held start parts) p) who s k.life p)
    (peer_known s (record { held = start; peer = None; life = none }) parts)

pub up_one : (s : ℕ) (parts : List Part) (p : Part) → up_of s (parts ++ p ∷ []) ≡ up_in s (up_of s parts) p
up_one s parts p = fold_one (up_in s) 0 parts p

-- a tunnel of which nothing is left never was, or it ended
abbrev pub IsPast : Life → Type 0
IsPast how = (how ≡ none) ⊎ ((why : Cause) × (how ≡ life.ended why))

-- the words of the trace for a stage, and the upstream that isn't closed
pub record Says (how : Life) (u : ℕ) (is : Life) (number : ℕ) : Type 0 where
  pub life : how ≡ is
  pub up : u ≡ number

abbrev pub SaysBy : Stage → Life → ℕ → Tunnel → Type 0
SaysBy unasked how u t = Says how u none 0
SaysBy (requested headers end) how u t = Says how u none 0
SaysBy (refusing status target) how u t = Says how u none 0
SaysBy malformed how u t = Says how u none 0
SaysBy due how u t = Says how u (pending t.target) 0 × (t.up ≡ 0)
SaysBy opening how u t = Says how u (pending t.target) t.up
SaysBy accepting how u t = Says how u (pending t.target) t.up
SaysBy live how u t = Says how u (lives t.target) t.up
SaysBy (failed why) how u t = Says how u (life.ended why) t.up
SaysBy (ended why) how u t = Says how u (life.ended why) t.up
SaysBy (over why) how u t = Says how u (life.ended why) t.up
SaysBy gone how u t = IsPast how × (u ≡ 0)

abbrev pub SaysOf : Life → ℕ → Tunnel → Type 0
SaysOf how u t = SaysBy t.stage how u t

-- an end of it
pub ends_say : (why : Cause) (how : Life) (u : ℕ) (t : Tunnel) → SaysOf how u t → SaysOf (ends why how) u (ends_for why t)
ends_say why how u t = by t.stage
  where
    by : (stage : Stage) → SaysBy stage how u t → SaysBy (ends_by why stage) (ends why how) u (ends_for why t)
    by unasked is = record { life = ap (ends why) is.life; up = is.up }
    by (requested headers end) is = record { life = ap (ends why) is.life; up = is.up }
    by (refusing status target) is = record { life = ap (ends why) is.life; up = is.up }
    by malformed is = record { life = ap (ends why) is.life; up = is.up }
    by due is = record { life = ap (ends why) is.0.life; up = is.0.up ∙ sym is.1 }
    by opening is = record { life = ap (ends why) is.life; up = is.up }
    by accepting is = record { life = ap (ends why) is.life; up = is.up }
    by live is = record { life = ap (ends why) is.life; up = is.up }
    by (failed cause) is = record { life = ap (ends why) is.life; up = is.up }
    by (ended cause) is = record { life = ap (ends why) is.life; up = is.up }
    by (over cause) is = record { life = ap (ends why) is.life; up = is.up }
    by gone (inl never, closed) = (inl (ap (ends why) never), closed)
    by gone (inr (cause, past), closed) = (inr (cause, ap (ends why) past), closed)

-- its stream has got what it gets
pub left_say : (why : Cause) (how : Life) (u : ℕ) (t : Tunnel) → how ≡ life.ended why → u ≡ t.up → SaysOf how u (left_with why t)
left_say why how u t is up = by (t.up == 0) refl
  where
    by : (b : Bool) → (t.up == 0) ≡ b → SaysBy (cond b gone (over why)) how u (left_with why t)
    by true zero_up = (inr (why, is), up ∙ eqb-true t.up 0 zero_up)
    by false some = record { life = is; up = up }

-- one tunnel changes with a part of its stream, and each other one stays as it was
pub say_at : (s k : ℕ) (change : Tunnel → Tunnel) (x : Inbound) (told other : Life) (u v : ℕ)
    → (s ≡ k → SaysOf told u (change (x.tunnels s))) → SaysOf other v (x.tunnels s)
    → SaysOf (cond (k == s) told other) (cond (k == s) u v) ((at_stream k change x).tunnels s)
say_at s k change x told other u v here there = by (k == s) (s == k) refl refl
  where
    by : (b c : Bool) → (k == s) ≡ b → (s == k) ≡ c
        → SaysOf (cond b told other) (cond b u v) (cond c (change (x.tunnels s)) (x.tunnels s))
    by true true is same = here (eqb-true s k same)
    by false false is same = there
    by true false is same = absurd (false≢true (sym same ∙ eq-eqb s k (sym (eqb-true k s is))))
    by false true is same = absurd (false≢true (sym is ∙ eq-eqb k s (sym (eqb-true s k same))))

-- the same where nothing is told of the upstream
pub say_on : (s k : ℕ) (change : Tunnel → Tunnel) (x : Inbound) (told other : Life) (u : ℕ)
    → (s ≡ k → SaysOf told u (change (x.tunnels s))) → SaysOf other u (x.tunnels s)
    → SaysOf (cond (k == s) told other) u ((at_stream k change x).tunnels s)
say_on s k change x told other u here there =
    subst (λ (v : ℕ). SaysOf (cond (k == s) told other) v ((at_stream k change x).tunnels s)) (same_cond (k == s) u)
    (say_at s k change x told other u u here there)
  where
    same_cond : (b : Bool) (n : ℕ) → cond b n n ≡ n
    same_cond true n = refl
    same_cond false n = refl

-- an update
pub judged_say : (h : Resources) (peer : Peer) (how : Life) (u : ℕ) (t : Tunnel) (known_peer : Option Peer)
    → (takes_place t.stage ≡ true → known_peer ≡ Some peer) → SaysOf how u t
    → SaysOf (ends_at h known_peer how) u (cond (takes_place t.stage) (judged_by (judged h peer t.target) t) t)
judged_say h peer how u t known_peer told = by t.stage refl
  where
    kept : (how : Life) (is : Life) → how ≡ is → ends_at h known_peer is ≡ is → ends_at h known_peer how ≡ is
    kept how is same stays = ap (ends_at h known_peer) same ∙ stays

    quiet : (who : Option Peer) → ends_at h who none ≡ none
    quiet None = refl
    quiet (Some who) = refl

    past : (who : Option Peer) (why : Cause) → ends_at h who (life.ended why) ≡ life.ended why
    past None why = refl
    past (Some who) why = refl

    one : (j : Judged) (how_is : Life) → SaysOf how_is u t → SaysOf (ends_judged j how_is) u (judged_by j t)
    one Admitted how_is says = says
    one Unknown how_is says = ends_say cause.Revoked how_is u t says
    one Denied how_is says = ends_say cause.Revoked how_is u t says

    by : (stage : Stage) → t.stage ≡ stage → SaysBy stage how u t
        → SaysOf (ends_at h known_peer how) u (cond (takes_place t.stage) (judged_by (judged h peer t.target) t) t)
    by unasked is says =
        subst (λ (st : Stage). SaysOf (ends_at h known_peer how) u (cond (takes_place st) (judged_by (judged h peer t.target) t) t))
        (sym is)
        (subst (λ (st : Stage). SaysBy st (ends_at h known_peer how) u t) (sym is)
        (record { life = kept how none says.life (quiet known_peer); up = says.up }))
    by (requested headers end) is says =
        subst (λ (st : Stage). SaysOf (ends_at h known_peer how) u (cond (takes_place st) (judged_by (judged h peer t.target) t) t))
        (sym is)
        (subst (λ (st : Stage). SaysBy st (ends_at h known_peer how) u t) (sym is)
        (record { life = kept how none says.life (quiet known_peer); up = says.up }))
    by (refusing status target) is says =
        subst (λ (st : Stage). SaysOf (ends_at h known_peer how) u (cond (takes_place st) (judged_by (judged h peer t.target) t) t))
        (sym is)
        (subst (λ (st : Stage). SaysBy st (ends_at h known_peer how) u t) (sym is)
        (record { life = kept how none says.life (quiet known_peer); up = says.up }))
    by malformed is says =
        subst (λ (st : Stage). SaysOf (ends_at h known_peer how) u (cond (takes_place st) (judged_by (judged h peer t.target) t) t))
        (sym is)
        (subst (λ (st : Stage). SaysBy st (ends_at h known_peer how) u t) (sym is)
        (record { life = kept how none says.life (quiet known_peer); up = says.up }))
    by (failed why) is says =
        subst (λ (st : Stage). SaysOf (ends_at h known_peer how) u (cond (takes_place st) (judged_by (judged h peer t.target) t) t))
        (sym is)
        (subst (λ (st : Stage). SaysBy st (ends_at h known_peer how) u t) (sym is)
        (record { life = kept how (life.ended why) says.life (past known_peer why); up = says.up }))
    by (ended why) is says =
        subst (λ (st : Stage). SaysOf (ends_at h known_peer how) u (cond (takes_place st) (judged_by (judged h peer t.target) t) t))
        (sym is)
        (subst (λ (st : Stage). SaysBy st (ends_at h known_peer how) u t) (sym is)
        (record { life = kept how (life.ended why) says.life (past known_peer why); up = says.up }))
    by (over why) is says =
        subst (λ (st : Stage). SaysOf (ends_at h known_peer how) u (cond (takes_place st) (judged_by (judged h peer t.target) t) t))
        (sym is)
        (subst (λ (st : Stage). SaysBy st (ends_at h known_peer how) u t) (sym is)
        (record { life = kept how (life.ended why) says.life (past known_peer why); up = says.up }))
    by gone is (inl never, closed) =
        subst (λ (st : Stage). SaysOf (ends_at h known_peer how) u (cond (takes_place st) (judged_by (judged h peer t.target) t) t))
        (sym is)
        (subst (λ (st : Stage). SaysBy st (ends_at h known_peer how) u t) (sym is) (inl (kept how none never (quiet known_peer)), closed))
    by gone is (inr (why, ago), closed) =
        subst (λ (st : Stage). SaysOf (ends_at h known_peer how) u (cond (takes_place st) (judged_by (judged h peer t.target) t) t))
        (sym is)
        (subst (λ (st : Stage). SaysBy st (ends_at h known_peer how) u t) (sym is)
        (inr (why, kept how (life.ended why) ago (past known_peer why)), closed))
    by due is says =
        subst (λ (who : Option Peer). SaysOf (ends_at h who how) u (cond (takes_place t.stage) (judged_by (judged h peer t.target) t) t))
        (sym (told (ap takes_place is)))
        (subst (λ (how_is : Life). SaysOf (ends_at h (Some peer) how_is) u
        (cond (takes_place t.stage) (judged_by (judged h peer t.target) t) t)) (sym says.0.life)
        (subst (λ (b : Bool). SaysOf (ends_judged (judged h peer t.target) (pending t.target)) u
        (cond b (judged_by (judged h peer t.target) t) t)) (sym (ap takes_place is))
        (one (judged h peer t.target) (pending t.target)
        (subst (λ (st : Stage). SaysBy st (pending t.target) u t) (sym is) (record { life = refl; up = says.0.up }, says.1)))))
    by opening is says =
        subst (λ (who : Option Peer). SaysOf (ends_at h who how) u (cond (takes_place t.stage) (judged_by (judged h peer t.target) t) t))
        (sym (told (ap takes_place is)))
        (subst (λ (how_is : Life). SaysOf (ends_at h (Some peer) how_is) u
        (cond (takes_place t.stage) (judged_by (judged h peer t.target) t) t)) (sym says.life)
        (subst (λ (b : Bool). SaysOf (ends_judged (judged h peer t.target) (pending t.target)) u
        (cond b (judged_by (judged h peer t.target) t) t)) (sym (ap takes_place is))
        (one (judged h peer t.target) (pending t.target)
        (subst (λ (st : Stage). SaysBy st (pending t.target) u t) (sym is) (record { life = refl; up = says.up })))))
    by accepting is says =
        subst (λ (who : Option Peer). SaysOf (ends_at h who how) u (cond (takes_place t.stage) (judged_by (judged h peer t.target) t) t))
        (sym (told (ap takes_place is)))
        (subst (λ (how_is : Life). SaysOf (ends_at h (Some peer) how_is) u
        (cond (takes_place t.stage) (judged_by (judged h peer t.target) t) t)) (sym says.life)
        (subst (λ (b : Bool). SaysOf (ends_judged (judged h peer t.target) (pending t.target)) u
        (cond b (judged_by (judged h peer t.target) t) t)) (sym (ap takes_place is))
        (one (judged h peer t.target) (pending t.target)
        (subst (λ (st : Stage). SaysBy st (pending t.target) u t) (sym is) (record { life = refl; up = says.up })))))
    by live is says =
        subst (λ (who : Option Peer). SaysOf (ends_at h who how) u (cond (takes_place t.stage) (judged_by (judged h peer t.target) t) t))
        (sym (told (ap takes_place is)))
        (subst (λ (how_is : Life). SaysOf (ends_at h (Some peer) how_is) u
        (cond (takes_place t.stage) (judged_by (judged h peer t.target) t) t)) (sym says.life)
        (subst (λ (b : Bool). SaysOf (ends_judged (judged h peer t.target) (lives t.target)) u
        (cond b (judged_by (judged h peer t.target) t) t)) (sym (ap takes_place is))
        (one (judged h peer t.target) (lives t.target)
        (subst (λ (st : Stage). SaysBy st (lives t.target) u t) (sym is) (record { life = refl; up = says.up })))))
