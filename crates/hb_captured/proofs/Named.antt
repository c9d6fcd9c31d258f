-- While a verdict is to be noted a link has the identity that its note tells: that of the header, at its door.
use Rattle.std.proofs.Common.{◌≡◌, ℕ, List, [], ◌∷◌, ◌++◌, Option, Some, None, refl, ap, sym, ◌∙◌, subst}
use Rattle.hb_base.specs.declared.door.Door.{Door}
use Rattle.hb_base.specs.declared.door.Door.TheVariants as door
use Rattle.hb_base.specs.declared.identity.Identity.{Identity}
use Rattle.hb_front.specs.Reading.{Seen}
use Rattle.hb_gateway.specs.Response as response
use Rattle.hb_gateway.specs.Response.{Heard, opens, brings, fails}
use Rattle.hb_held.specs.Held.{Resources}
use Rattle.hb_held.specs.Outcome.{after_response}
use Rattle.hb_table.specs.Judgement.{judged}
use Rattle.hb_table.specs.declared.judgement.Judged.{Judged}
use Rattle.hb_table.specs.declared.judgement.Judged.TheVariants.{Admitted, Unknown, Denied}
use Rattle.hb_world.specs.declared.entry.Entry.{Entry}
use Rattle.hb_world.specs.declared.entry.Entry.TheVariants as e
use Rattle.std.proofs.Common.{Bool, true, false, cond, ◌&&◌}
use Rattle.hb_captured.specs.Captured.{Captured, Stage, unborn, arriving, fronting, due, opening, accepting, live, failed, ended, over, judges, is_judged, identity_noted, came_by, told_by, judged_by}
use Rattle.hb_captured.specs.Notes.{Noting, no_note, answer, noting_by, noting_of}
use Rattle.hb_captured.specs.Part.{Part, entry, up, welcomed, crowded, lacked, misfronted, fronted, refused, accepted, roomless, asked, hears, put, finished, credited, loosed, completed, left, done, applied, stopped}
use Rattle.hb_captured.specs.Runs.{Local, MayGo, next, StandsFor, begins, goes_on}
use Rattle.hb_captured.specs.Sides.{door_by, door_of, header_by, header_of}
use Rattle.hb_captured.proofs.Grown.{fold_one}
use Rattle.hb_captured.proofs.Kept.{all_keep}
use Rattle.hb_captured.proofs.Stages.{noting_in}

abbrev pub Names : Noting → Option Seen → Door → Option Identity → Type 0
Names answer (Some seen) d identity = identity ≡ identity_noted d seen.identity
Names noting told d identity = Unit {0}

-- nothing is to be noted at a birth
none_named : (noting : Noting) (told : Option Seen) (d : Door) (identity : Option Identity) → noting ≡ no_note
    → Names noting told d identity
none_named noting told d identity is = subst (λ (n : Noting). Names n told d identity) (sym is) tt

-- WHAT LEAVES IT AS IT IS

came_named : (stage : Stage) (bytes : List ℕ) (x : Captured) → (came_by stage bytes x).identity ≡ x.identity
came_named unborn bytes x = refl
came_named arriving bytes x = refl
came_named fronting bytes x = refl
came_named due bytes x = refl
came_named opening bytes x = refl
came_named accepting bytes x = refl
came_named live bytes x = refl
came_named (failed why) bytes x = refl
came_named (ended why) bytes x = refl
came_named (over why) bytes x = refl

heard_named : (heard : Heard) (begun : ℕ) (x : Captured) → (told_by heard begun x).identity ≡ x.identity
heard_named (opens end) begun x = refl
heard_named (brings bytes) begun x = refl
heard_named response.ends begun x = refl
heard_named (fails why) begun x = refl

judged_named : (b : Bool) (j : Judged) (x : Captured) → (cond b (judged_by j x) x).identity ≡ x.identity
judged_named true Admitted x = refl
judged_named true Unknown x = refl
judged_named true Denied x = refl
judged_named false j x = refl

-- ONE PART MORE

module _ (l : ℕ) (a : Local) (noting : Noting) (told : Option Seen) (noting_is : noting ≡ noting_in a.link.stage)
    (is : Names noting told a.link.door a.link.identity) where
  as_it_is : (identity : Option Identity) → identity ≡ a.link.identity → Names noting told a.link.door identity
  as_it_is identity same = subst (λ (who : Option Identity). Names noting told a.link.door who) (sym same) is

  abbrev Named : Part → Type 0
  Named p = Names (noting_by noting p) (header_by told p) (door_by a.link.door p) (next a p).link.identity

  entry_names : (z : Entry) → MayGo l a (entry z) → Named (entry z)
  entry_names (e.Accepted k d) may = none_named noting told d a.link.identity (noting_is ∙ ap noting_in may.1)
  entry_names (e.Came k bytes) may = as_it_is (came_by a.link.stage bytes a.link).identity (came_named a.link.stage bytes a.link)
  entry_names (e.Ended k) may = is
  entry_names (e.Went k bytes) may = is
  entry_names (e.Broke k) may = is
  entry_names (e.Shut k) may = is
  entry_names (e.Closed k why) may = is
  entry_names (e.Balked way) may = is
  entry_names (e.Dialled k to why) may = is
  entry_names (e.DialFailed to why) may = is
  entry_names (e.Opened k) may = is
  entry_names e.Tick may = is
  entry_names (e.Wait ready how) may = is

  up_names : (z : Entry) → Named (up z)
  up_names (e.Accepted k d) = is
  up_names (e.Came k bytes) = is
  up_names (e.Ended k) = is
  up_names (e.Went k bytes) = is
  up_names (e.Broke k) = is
  up_names (e.Shut k) = is
  up_names (e.Closed k why) = is
  up_names (e.Balked way) = is
  up_names (e.Dialled k to why) = is
  up_names (e.DialFailed to why) = is
  up_names (e.Opened k) = is
  up_names e.Tick = is
  up_names (e.Wait ready how) = is

  part_names : (p : Part) → MayGo l a p → Named p
  part_names (entry z) may = entry_names z may
  part_names (up z) may = up_names z
  part_names welcomed may = is
  part_names crowded may = is
  part_names lacked may = is
  part_names (misfronted fault) may = is
  part_names (fronted seen routing aim) may = refl
  part_names (refused seen routing why status made) may = tt
  part_names (accepted made) may = tt
  part_names roomless may = is
  part_names (asked gate stream) may = is
  part_names (hears heard begun) may = as_it_is (told_by heard begun a.link).identity (heard_named heard begun a.link)
  part_names (put bytes) may = is
  part_names finished may = is
  part_names (credited n) may = is
  part_names (loosed begun) may = is
  part_names (completed begun made) may = tt
  part_names (left made) may = tt
  part_names (done made) may = tt
  part_names (applied r) may =
      as_it_is (next a (applied r)).link.identity
      (judged_named (judges a.link.door && is_judged a.link.stage) (judged (after_response a.held r) a.link.peer a.link.target) a.link)
  part_names (stopped why) may = is

pub all_name : (l : ℕ) (start : Resources) (a : Local) (parts : List Part) → StandsFor l start a parts
    → Names (noting_of parts) (header_of parts) (door_of parts) a.link.identity
all_name l start a parts (begins is none) =
    subst (λ (ps : List Part). Names (noting_of ps) (header_of ps) (door_of ps) a.link.identity) (sym none) tt
all_name l start b more (goes_on {a = a} {parts = parts} stands p steps are) =
    let keeps = all_keep l start a parts stands in
    let so_far : Names (noting_of parts) (header_of parts) a.link.door a.link.identity =
    subst (λ (d : Door). Names (noting_of parts) (header_of parts) d a.link.identity) keeps.tells.door (all_name l start a parts stands) in
    let now = part_names l a (noting_of parts) (header_of parts) keeps.noting so_far p steps.0 in
    let who = (next a p).link.identity in
    subst (λ (c : Local). Names (noting_of more) (header_of more) (door_of more) c.link.identity) (sym steps.1)
    (subst (λ (ps : List Part). Names (noting_of ps) (header_of ps) (door_of ps) who) (sym are)
    (subst (λ (n : Noting). Names n (header_of (parts ++ p ∷ [])) (door_of (parts ++ p ∷ [])) who)
    (sym (fold_one noting_by no_note parts p))
    (subst (λ (t : Option Seen). Names (noting_by (noting_of parts) p) t (door_of (parts ++ p ∷ [])) who)
    (sym (fold_one header_by None parts p))
    (subst (λ (d : Door). Names (noting_by (noting_of parts) p) (header_by (header_of parts) p) d who)
    (sym (fold_one door_by door.Plain parts p ∙ ap (λ (d : Door). door_by d p) keeps.tells.door)) now))))
