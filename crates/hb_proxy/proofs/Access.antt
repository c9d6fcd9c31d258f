-- No byte goes to an upstream and no DATA frame begins on an inbound link, and no byte goes on a link of the plain door or on its
-- upstream, unless what is held then admits the tunnel's peer.
use Rattle.std.proofs.Common.{◌≡◌, ℕ, true, List, [], ◌∷◌, ◌++◌, length, refl, ap, sym, ◌∙◌, subst}
use Rattle.hb_captured.specs.Access as plain
use Rattle.hb_captured.specs.Part as captured
use Rattle.hb_captured.specs.Sides.{judged_in}
use Rattle.hb_conn.specs.Observed.{frames_begun}
use Rattle.hb_held.specs.Held.{Resources}
use Rattle.hb_history.specs.History as history
use Rattle.hb_inbound.proofs.AccessRun.{each_so, admit}
use Rattle.hb_inbound.specs.Access as inbound
use Rattle.hb_inbound.specs.Part as part
use Rattle.hb_inbound.specs.Part.{Part, moves, tellings}
use Rattle.hb_inbound.specs.Sides as sides
use Rattle.hb_inbound.specs.Sides.{behind_front, front_size}
use Rattle.hb_model.specs.declared.config.NodeConfig.{NodeConfig}
use Rattle.hb_outgoing.specs.Selected.{has_data}
use Rattle.hb_streams.specs.declared.role.Role.TheVariants.{Server}
use Rattle.hb_table.specs.Judgement.{judged}
use Rattle.hb_world.specs.declared.entry.Entry.{Entry}
use Rattle.hb_world.specs.declared.entry.Entry.TheVariants as e
use Rattle.hb_proxy.specs.Access.{IsAdmitted, came_behind, GoesAdmitted, UpIsAdmitted, LinkIsAdmitted, AccessAt, PlainIsAdmitted, PlainGoesAdmitted, PlainAccessAt}
use Rattle.hb_proxy.specs.Held.{at_start}
use Rattle.hb_proxy.specs.Laws.{RunsAdmit}
use Rattle.hb_proxy.specs.Machine.{Machine, local}
use Rattle.hb_proxy.specs.Owners.{owner, PartStands}
use Rattle.hb_proxy.specs.Points.{Point, of_control, of_link, of_plain, of_gate, of_stream, entries, parts_of, plain_of}
use Rattle.hb_proxy.specs.Runs.{Steps, StandsFor, goes_on}
use Rattle.hb_proxy.specs.Sides.{LinkSide}
use Rattle.hb_proxy.proofs.Own.{own_at}
use Rattle.hb_proxy.proofs.Owned.{all_owned}
use Rattle.hb_proxy.proofs.Places.{at_points, at_last, at_last_plain}
use Rattle.hb_proxy.proofs.Plain.{plain_holds, obey_plain}
use Rattle.hb_proxy.proofs.Projection.{links_run, links_hold}
use Rattle.hb_proxy.proofs.Sides.{runs_share}

module _ (g : NodeConfig) (x : Machine) (before : List Point) (stands : StandsFor g x before) (l : ℕ) where
  is_admitted : (s : ℕ) → inbound.IsAdmitted (at_start g) (parts_of l before) s → IsAdmitted g before l s
  is_admitted s is = record {
    peer = is.peer;
    target = is.target;
    peer_is = is.peer_is;
    target_is = is.target_is;
    admitted = ap (λ (h : Resources). judged h is.peer is.target) (sym (links_hold g x before l stands)) ∙ is.admitted;
  }

  goes_admitted : (bytes : List ℕ) → LinkSide before l → inbound.GoesAdmitted (at_start g) (parts_of l before) bytes
      → GoesAdmitted g before l bytes
  goes_admitted bytes side goes = record {
    conn = goes.conn;
    stands = subst (λ (bs : List ℕ).
        history.StandsFor Server (moves (parts_of l before)) (tellings (parts_of l before)) (came_behind l before) bs goes.conn)
        (sym side.went)
        (subst (λ (bs : List ℕ). history.StandsFor Server (moves (parts_of l before)) (tellings (parts_of l before))
        (behind_front (front_size (parts_of l before)) bs) (sides.link_went (parts_of l before)) goes.conn) (sym side.came) goes.stands);
    rest = goes.rest;
    first = goes.first;
    admitted = each_so (λ f. has_data f ≡ true → inbound.IsAdmitted (at_start g) (parts_of l before) f.stream)
        (λ f. has_data f ≡ true → IsAdmitted g before l f.stream) (λ f so some. is_admitted f.stream (so some))
        (frames_begun (length bytes) goes.conn) goes.admitted;
  }

  up_goes : (s : ℕ) (z : Entry) → inbound.UpIsAdmitted (at_start g) s (parts_of l before) z → UpIsAdmitted g before l s z
  up_goes s (e.Went u bytes) is = is_admitted s is
  up_goes s _ is = tt

  link_goes : (z : Entry) → PartStands (entries before) l (part.entry z) → inbound.LinkIsAdmitted (at_start g) (parts_of l before) z
      → LinkIsAdmitted g before l z
  link_goes (e.Went k bytes) own is =
      goes_admitted bytes ((runs_share g x before stands).link l (ap (λ (n : ℕ). owner n (entries before)) (sym own.0) ∙ own.1)) is
  link_goes _ own is = tt

  access : (p : Part) → PartStands (entries before) l p → inbound.AccessAt (at_start g) (parts_of l before) p → AccessAt g before l p
  access (part.entry z) own is = link_goes z own is
  access (part.up s z) own is = up_goes s z is
  access _ own is = tt

  -- a plain link

  plain_admitted : plain.IsAdmitted (at_start g) (plain_of l before) → PlainIsAdmitted g before l
  plain_admitted is = record {
    seen = is.seen;
    told = is.told;
    admitted = ap (λ (h : Resources). judged_in h is.seen) (sym (plain_holds g x before l stands)) ∙ is.admitted;
  }

  plain_goes : (z : Entry) → plain.GoesAdmitted (at_start g) (plain_of l before) z → PlainGoesAdmitted g before l z
  plain_goes (e.Went k bytes) is = λ judged_here. plain_admitted (is judged_here)
  plain_goes _ is = tt

  plain_access : (p : captured.Part) → plain.AccessAt (at_start g) (plain_of l before) p → PlainAccessAt g before l p
  plain_access (captured.entry z) is = plain_goes z is
  plain_access (captured.up z) is = plain_goes z is
  plain_access _ is = tt

-- the law at a point
abbrev pub At : NodeConfig → List Point → Point → Type 0
At g before (of_control q) = Unit {0}
At g before (of_link l p) = AccessAt g before l p
At g before (of_plain l p) = PlainAccessAt g before l p
At g before (of_gate n p) = Unit {0}
At g before (of_stream l n s w) = Unit {0}

next : (g : NodeConfig) (x y : Machine) (before : List Point) (p : Point) → StandsFor g x before → Steps g x p y → At g before p
next g x y before (of_control q) stands steps = tt
next g x y before (of_link l p) stands steps =
    access g x before stands l p (own_at g x before (all_owned g x before stands) (of_link l p) y steps)
    (at_last (inbound.AccessAt (at_start g)) before l p
    (admit l (at_start g) (local y l) (parts_of l (before ++ of_link l p ∷ []))
    (links_run g y (before ++ of_link l p ∷ []) l (goes_on stands (of_link l p) steps refl))))
next g x y before (of_plain l p) stands steps =
    plain_access g x before stands l p
    (at_last_plain (plain.AccessAt (at_start g)) before l p
    (obey_plain g y (before ++ of_plain l p ∷ []) l (goes_on stands (of_plain l p) steps refl)).access)
next g x y before (of_gate n p) stands steps = tt
next g x y before (of_stream l n s w) stands steps = tt

pub runs_admit : RunsAdmit
runs_admit g x points stands = record {
  links = λ before l p behind are. at_points g (At g) (next g) x points stands before (of_link l p) behind are;
  plain = λ before l p behind are. at_points g (At g) (next g) x points stands before (of_plain l p) behind are;
}
