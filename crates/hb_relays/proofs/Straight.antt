-- In every run a link that has an upstream goes straight to where its bytes are to go, by no gateway.
use Rattle.std.proofs.Common.{◌≡◌, ℕ, ◌<◌, ◌&&◌, Bool, true, false, cond, List, None, refl, ap, sym, ◌∙◌, subst, arith}
use Rattle.std.proofs.lemmas.Bool.{true≢false}
use Rattle.hb_base.specs.declared.cause.Cause.{Cause}
use Rattle.hb_base.specs.declared.cause.Cause.TheVariants as cause
use Rattle.hb_captured.specs.Answer.{key_of}
use Rattle.hb_captured.specs.Captured.{Captured, Stage, unborn, arriving, fronting, due, opening, accepting, live, failed, ended, over, judges, is_judged, ends_for, came_by, hung_up, entered, up_entered, told_by, judged_by, rejudged}
use Rattle.hb_captured.specs.Part.{Part, entry, up, welcomed, crowded, lacked, misfronted, fronted, refused, accepted, roomless, asked, hears, put, finished, credited, loosed, completed, left, done, applied, stopped}
use Rattle.hb_captured.specs.Runs.{Local, MayCome, UpMayCome, MayGo, next_link}
use Rattle.hb_gateway.specs.Response as response
use Rattle.hb_gateway.specs.Response.{Heard, opens, brings, fails}
use Rattle.hb_held.specs.Held.{Resources}
use Rattle.hb_model.specs.declared.config.NodeConfig.{NodeConfig}
use Rattle.hb_proxy.proofs.Aims.{all_kept}
use Rattle.hb_proxy.specs.Machine.{Machine}
use Rattle.hb_proxy.specs.Points.{Point}
use Rattle.hb_proxy.specs.Runs.{StandsFor}
use Rattle.hb_table.specs.Judgement.{judged}
use Rattle.hb_table.specs.declared.judgement.Judged.{Judged}
use Rattle.hb_table.specs.declared.judgement.Judged.TheVariants.{Admitted, Unknown, Denied}
use Rattle.hb_world.specs.declared.entry.Entry.{Entry}
use Rattle.hb_world.specs.declared.entry.Entry.TheVariants as e
use Rattle.hb_relays.proofs.Staying.{is_begun, ends_begun, left_begun}

pub record Straight (x : Captured) : Type 0 where
  pub early : is_begun x.stage ≡ false → x.up ≡ 0
  pub straight : 0 < x.up → key_of x.aim ≡ None

back : (b c : Bool) → (b ≡ true → c ≡ true) → c ≡ false → b ≡ false
back false c goes none = refl
back true c goes none = absurd (true≢false (sym (goes refl) ∙ none))

late : {A : Type 0} → true ≡ false → A
late is = absurd (true≢false is)

-- its upstream and its aim stay, and it doesn't go back
stays : (x y : Captured) → y.up ≡ x.up → y.aim ≡ x.aim → (is_begun x.stage ≡ true → is_begun y.stage ≡ true) → Straight x → Straight y
stays x y same aim goes is = record {
  early = λ none. same ∙ is.early (back (is_begun x.stage) (is_begun y.stage) goes none);
  straight = λ some. ap key_of aim ∙ is.straight (subst (λ (n : ℕ). 0 < n) same some);
}

ends_straight : (why : Cause) (x : Captured) → Straight x → Straight (ends_for why x)
ends_straight why x is = stays x (ends_for why x) refl refl (ends_begun why x.stage) is

came_straight : (bytes : List ℕ) (stage : Stage) (x : Captured) → Straight x → Straight (came_by stage bytes x)
came_straight bytes fronting x is = stays x (came_by fronting bytes x) refl refl (λ b. b) is
came_straight bytes unborn x is = stays x (came_by unborn bytes x) refl refl (λ b. b) is
came_straight bytes arriving x is = stays x (came_by arriving bytes x) refl refl (λ b. b) is
came_straight bytes due x is = stays x (came_by due bytes x) refl refl (λ b. b) is
came_straight bytes opening x is = stays x (came_by opening bytes x) refl refl (λ b. b) is
came_straight bytes accepting x is = stays x (came_by accepting bytes x) refl refl (λ b. b) is
came_straight bytes live x is = stays x (came_by live bytes x) refl refl (λ b. b) is
came_straight bytes (failed why) x is = stays x (came_by (failed why) bytes x) refl refl (λ b. b) is
came_straight bytes (ended why) x is = stays x (came_by (ended why) bytes x) refl refl (λ b. b) is
came_straight bytes (over why) x is = stays x (came_by (over why) bytes x) refl refl (λ b. b) is

hung_begun : (stage : Stage) → is_begun stage ≡ true → is_begun (hung_up stage) ≡ true
hung_begun fronting is = refl
hung_begun unborn is = is
hung_begun arriving is = is
hung_begun due is = is
hung_begun opening is = is
hung_begun accepting is = is
hung_begun live is = is
hung_begun (failed why) is = is
hung_begun (ended why) is = is
hung_begun (over why) is = is

entry_straight : (l : ℕ) (x : Captured) (z : Entry) → MayCome l x z → Straight x → Straight (entered z x)
entry_straight l x (e.Accepted k d) may is = record { early = λ none. is.early (ap is_begun may.1); straight = is.straight }
entry_straight l x (e.Came k bytes) may is = came_straight bytes x.stage x is
entry_straight l x (e.Ended k) may is = stays x (entered (e.Ended k) x) refl refl (hung_begun x.stage) is
entry_straight l x (e.Went k bytes) may is = stays x (entered (e.Went k bytes) x) refl refl (λ b. b) is
entry_straight l x (e.Broke k) may is = ends_straight cause.PeerGone x is
entry_straight l x (e.Shut k) may is = stays x (entered (e.Shut k) x) refl refl (λ b. b) is
entry_straight l x (e.Closed k why) may is = stays x (entered (e.Closed k why) x) refl refl (λ b. b) is
entry_straight l x z may is = is

up_straight : (l : ℕ) (x : Captured) (z : Entry) → UpMayCome l x z → Straight x → Straight (up_entered z x)
up_straight l x (e.Dialled u to why) may is = record { early = λ none. late none; straight = λ some. may.1 }
up_straight l x (e.DialFailed to why) may is = ends_straight cause.UpFault x is
up_straight l x (e.Opened u) may is = record { early = λ none. late none; straight = is.straight }
up_straight l x (e.Came u bytes) may is = stays x (up_entered (e.Came u bytes) x) refl refl (λ b. b) is
up_straight l x (e.Ended u) may is = stays x (up_entered (e.Ended u) x) refl refl (λ b. b) is
up_straight l x (e.Went u bytes) may is = stays x (up_entered (e.Went u bytes) x) refl refl (λ b. b) is
up_straight l x (e.Broke u) may is = ends_straight cause.UpFault x is
up_straight l x (e.Shut u) may is = stays x (up_entered (e.Shut u) x) refl refl (λ b. b) is
up_straight l x (e.Closed u why) may is = record { early = λ none. refl; straight = λ some. absurd (omega (arith, some)) }
up_straight l x z may is = is

told_straight : (heard : Heard) (begun : ℕ) (x : Captured) → Straight x → Straight (told_by heard begun x)
told_straight (opens end) begun x is = record { early = λ none. late none; straight = is.straight }
told_straight (brings bytes) begun x is = stays x (told_by (brings bytes) begun x) refl refl (λ b. b) is
told_straight response.ends begun x is = stays x (told_by response.ends begun x) refl refl (λ b. b) is
told_straight (fails why) begun x is = stays x (told_by (fails why) begun x) refl refl (ends_begun why x.stage) is

part_straight : (l : ℕ) (a : Local) (p : Part) → MayGo l a p → Straight a.link → Straight (next_link a.link p)
part_straight l a (entry z) may is = entry_straight l a.link z may is
part_straight l a (up z) may is = up_straight l a.link z may is
part_straight l a welcomed may is = record { early = λ none. is.early (ap is_begun may); straight = is.straight }
part_straight l a crowded may is = ends_straight cause.NoRoom a.link is
part_straight l a lacked may is = ends_straight cause.NoMemory a.link is
part_straight l a (misfronted fault) may is = ends_straight _ a.link is
part_straight l a (fronted seen routing aim) may is =
    let none : a.link.up ≡ 0 = is.early (ap is_begun may.0.0) in
    record { early = λ not. none; straight = λ some. absurd (omega (arith, none, some)) }
part_straight l a (refused seen routing why status made) may is = record { early = λ none. late none; straight = λ some. refl }
part_straight l a (accepted made) may is = record { early = λ none. late none; straight = is.straight }
part_straight l a roomless may is = ends_straight cause.NoRoom a.link is
part_straight l a (asked gate stream) may is = record { early = λ none. late none; straight = is.straight }
part_straight l a (hears heard begun) may is = told_straight heard begun a.link is
part_straight l a (put bytes) may is = stays a.link (next_link a.link (put bytes)) refl refl (λ b. b) is
part_straight l a finished may is = stays a.link (next_link a.link finished) refl refl (λ b. b) is
part_straight l a (credited n) may is = stays a.link (next_link a.link (credited n)) refl refl (λ b. b) is
part_straight l a (loosed begun) may is = stays a.link (next_link a.link (loosed begun)) refl refl (λ b. b) is
part_straight l a (completed begun made) may is = record { early = λ none. late none; straight = is.straight }
part_straight l a (left made) may is = stays a.link (next_link a.link (left made)) refl refl (left_begun a.link.stage) is
part_straight l a (done made) may is = record { early = λ none. late none; straight = is.straight }
part_straight l a (applied r) may is = is
part_straight l a (stopped why) may is = ends_straight why a.link is

judged_straight : (h : Resources) (x : Captured) → Straight x → Straight (rejudged h x)
judged_straight h x is = by (judges x.door && is_judged x.stage)
  where
    of : (j : Judged) → Straight (judged_by j x)
    of Admitted = is
    of Unknown = ends_straight cause.Revoked x is
    of Denied = ends_straight cause.Revoked x is

    by : (b : Bool) → Straight (cond b (judged_by (judged h x.peer x.target) x) x)
    by true = of (judged h x.peer x.target)
    by false = is

pub runs_straight : (g : NodeConfig) (x : Machine) (points : List Point) → StandsFor g x points → (l : ℕ) → Straight (x.plain l)
runs_straight =
    all_kept Straight (record {
      first = record { early = λ none. refl; straight = λ some. absurd (omega (arith, some)) };
      goes = part_straight;
      judged = judged_straight;
    })
