-- The connection of every run of a link.
use Rattle.std.proofs.Common.{◌≡◌, ℕ, List, [], ◌∷◌, ◌++◌, Option, None, ap, sym, ◌∙◌, subst}
use Rattle.std.proofs.lemmas.List.{append-nil}
use Rattle.hb_conn.specs.Connection.{Connection}
use Rattle.hb_conn.specs.declared.found.Found.{Found}
use Rattle.hb_history.specs.Points as history
use Rattle.hb_history.specs.History.{StandsFor as ConnStandsFor}
use Rattle.hb_streams.specs.declared.role.Role.TheVariants.{Server}
use Rattle.hb_inbound.specs.Part.{Part, moves_in, moves, telling, tellings}
use Rattle.hb_inbound.specs.Sides.{came_in, went_in, link_came, link_went, front_by, front_size, behind_front, conn_came}
use Rattle.hb_inbound.proofs.Grown.{one_more, fold_one}

-- the connection of a link stands for its moves and bytes
pub record IsOne (parts : List Part) (c : Connection) : Type 0 where
  pub stands : ConnStandsFor Server (moves parts) (tellings parts) (conn_came parts) (link_went parts) c

module _ (parts : List Part) where
  -- with a part by which these moves are made, this is told, and these bytes come and go
  pub grown : (p : Part) (c : Connection) (ps : List history.Point) (tells : List Found) (comes goes : List ℕ)
      → moves_in p ≡ ps → telling p ≡ tells → conn_came (parts ++ p ∷ []) ≡ comes → went_in p ≡ goes
      → ConnStandsFor Server (moves parts ++ ps) (tellings parts ++ tells) comes (link_went parts ++ goes) c
      → IsOne (parts ++ p ∷ []) c
  grown p c ps tells comes goes moved told came went now =
      let more = parts ++ p ∷ [] in
      record {
        stands =
            subst (λ (qs : List history.Point). ConnStandsFor Server qs (tellings more) (conn_came more) (link_went more) c)
            (ap (λ (qs : List history.Point). moves parts ++ qs) (sym moved) ∙ sym (one_more moves_in parts p))
            (subst (λ (ts : List Found). ConnStandsFor Server (moves parts ++ ps) ts (conn_came more) (link_went more) c)
            (ap (λ (ts : List Found). tellings parts ++ ts) (sym told) ∙ sym (one_more telling parts p))
            (subst (λ (bs : List ℕ). ConnStandsFor Server (moves parts ++ ps) (tellings parts ++ tells) bs (link_went more) c) (sym came)
            (subst (λ (bs : List ℕ). ConnStandsFor Server (moves parts ++ ps) (tellings parts ++ tells) comes bs c)
            (ap (λ (bs : List ℕ). link_went parts ++ bs) (sym went) ∙ sym (one_more went_in parts p)) now)));
      }

  -- by which nothing is told
  pub untold : (p : Part) (c : Connection) (ps : List history.Point) (comes goes : List ℕ)
      → moves_in p ≡ ps → telling p ≡ [] → conn_came (parts ++ p ∷ []) ≡ comes → went_in p ≡ goes
      → ConnStandsFor Server (moves parts ++ ps) (tellings parts) comes (link_went parts ++ goes) c
      → IsOne (parts ++ p ∷ []) c
  untold p c ps comes goes moved told came went now =
      grown p c ps [] comes goes moved told came went
      (subst (λ (ts : List Found). ConnStandsFor Server (moves parts ++ ps) ts comes (link_went parts ++ goes) c)
      (sym (append-nil (tellings parts))) now)

  -- no bytes of the connection come with a part that brings none and is no front header
  pub none_came : (p : Part) → came_in p ≡ [] → front_by (front_size parts) p ≡ front_size parts
      → conn_came (parts ++ p ∷ []) ≡ conn_came parts
  none_came p none same =
      ap (λ (k : Option ℕ). behind_front k (link_came (parts ++ p ∷ []))) (fold_one front_by None parts p ∙ same)
      ∙ ap (behind_front (front_size parts))
      (one_more came_in parts p ∙ ap (λ (bs : List ℕ). link_came parts ++ bs) none ∙ append-nil (link_came parts))

  -- an act of this end
  pub acted : (p : Part) (c : Connection) (ps : List history.Point) → moves_in p ≡ ps → telling p ≡ [] → came_in p ≡ []
      → front_by (front_size parts) p ≡ front_size parts → went_in p ≡ []
      → ConnStandsFor Server (moves parts ++ ps) (tellings parts) (conn_came parts) (link_went parts) c
      → IsOne (parts ++ p ∷ []) c
  acted p c ps moved told none same went now =
      untold p c ps (conn_came parts) [] moved told (none_came p none same) went
      (subst (λ (bs : List ℕ). ConnStandsFor Server (moves parts ++ ps) (tellings parts) (conn_came parts) bs c)
      (sym (append-nil (link_went parts))) now)

  -- nothing of the connection
  pub kept : (p : Part) (c d : Connection) → d ≡ c → IsOne parts c → moves_in p ≡ [] → telling p ≡ [] → came_in p ≡ []
      → front_by (front_size parts) p ≡ front_size parts → went_in p ≡ [] → IsOne (parts ++ p ∷ []) d
  kept p c d same one moved told none front went =
      acted p d [] moved told none front went
      (subst (λ (ps : List history.Point). ConnStandsFor Server ps (tellings parts) (conn_came parts) (link_went parts) d)
      (sym (append-nil (moves parts)))
      (subst (ConnStandsFor Server (moves parts) (tellings parts) (conn_came parts) (link_went parts)) (sym same) one.stands))
