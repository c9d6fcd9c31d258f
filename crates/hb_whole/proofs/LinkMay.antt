-- Which entries may come on inbound links and on upstreams, where the event loop tells them.
use Rattle.std.proofs.Common.{◌≡◌, ◌⊎◌, inl, inr, ⊎_elim, ℕ, zero, suc, ◌-◌, ◌<◌, ◌==◌, not, Bool, true, false, List, [], length, Option, Some, None, refl, ap, sym, ◌∙◌, subst, arith}
use Rattle.std.specs.FinMap.{get}
use Rattle.hb_front.specs.Room.{longest_front}
use Rattle.hb_inbound.specs.Calm.{IsQuiet, RestsIn, IsIdleBy, close_due, wants_by, output_by}
use Rattle.hb_inbound.specs.Inbound as m
use Rattle.hb_inbound.specs.Inbound.{Inbound, at_stream}
use Rattle.hb_inbound.specs.Part as part
use Rattle.hb_inbound.specs.Runs as inbound
use Rattle.hb_inbound.specs.Runs.{IsAt}
use Rattle.hb_inbound.specs.Tunnel as t
use Rattle.hb_inbound.specs.Tunnel.{Tunnel, Stage, is_unanswered, up_entered}
use Rattle.hb_link.specs.Calls.{IsLastWord}
use Rattle.hb_link.specs.Observed as observed
use Rattle.hb_link.specs.Observed.{wants_in, wants_on, output_in, output_on, last_in, up_wants_by, up_held_by}
use Rattle.hb_conn.specs.Observed as connection
use Rattle.hb_kept.specs.Kept.{wants_of}
use Rattle.hb_base.specs.declared.cause.Cause.{Cause}
use Rattle.hb_link.specs.Shows.{Shows, ShowsBy}
use Rattle.hb_link.specs.Tunnels.{phase_of, stage_of, tunnel_of, as_told, ShowsTunnel, ShowsAt}
use Rattle.hb_link.specs.declared.link.Link.{Link}
use Rattle.hb_link.specs.declared.phase.Phase.{Phase as Here}
use Rattle.hb_link.specs.declared.phase.Phase.TheVariants as here
use Rattle.hb_link.specs.declared.tunnel.Stage.{Stage as HereStage}
use Rattle.hb_link.specs.declared.tunnel.Stage.TheVariants as stage
use Rattle.hb_link.specs.declared.tunnel.Tunnel.{Tunnel as HereTunnel}
use Rattle.hb_links.specs.Calls as links
use Rattle.hb_links.specs.Shows.{IsAway, ShowsAll, ShowsLink}
use Rattle.hb_links.specs.declared.links.Links.{Links}
use Rattle.hb_links.specs.declared.place.Place.{Place}
use Rattle.hb_links.specs.Places.{place}
use Rattle.hb_model.specs.declared.config.NodeConfig.{NodeConfig}
use Rattle.hb_proxy.specs.Machine.{Machine, with_part}
use Rattle.hb_proxy.specs.Points.{of_link}
use Rattle.hb_proxy.specs.Runs.{BirthMayCome, LinkMayCome, Steps, link_first}
use Rattle.hb_proxy.specs.Seen.{IsLinkThere, UpOpenBy}
use Rattle.hb_proxy.specs.Ups.{Joins, up_by}
use Rattle.hb_world.specs.declared.entry.Entry.{Entry}
use Rattle.hb_whole.proofs.Free.{Free, lets_all, plain_lets_all, rests_of}

-- THE PHASE, AND THE STAGE, BY WHAT MAY BE DONE

pub open_phase : (phase : m.Phase) (x : Inbound) → IsLinkThere phase → RestsIn phase x → close_due phase ≡ None
    → (phase ≡ m.fronting) ⊎ (phase ≡ m.serving)
open_phase m.unborn x there rests none = absurd there
open_phase m.closed x there rests none = absurd there
open_phase m.arriving x there rests none = absurd rests
open_phase m.fronting x there rests none = inl refl
open_phase m.serving x there rests none = inr refl
open_phase (m.faulted code) x there rests none = absurd cc
open_phase (m.closing why) x there rests none = absurd cc

pub reads_phase : (phase : m.Phase) (x : Inbound) → 0 < wants_by phase x → (phase ≡ m.fronting) ⊎ (phase ≡ m.serving)
reads_phase m.unborn x some = absurd (omega arith)
reads_phase m.closed x some = absurd (omega arith)
reads_phase m.arriving x some = absurd (omega arith)
reads_phase m.fronting x some = inl refl
reads_phase m.serving x some = inr refl
reads_phase (m.faulted code) x some = absurd (omega arith)
reads_phase (m.closing why) x some = absurd (omega arith)

pub writes_phase : (phase : m.Phase) (x : Inbound) → 0 < length (output_by phase x)
    → (phase ≡ m.serving) ⊎ ((code : ℕ) × (phase ≡ m.faulted code))
writes_phase m.unborn x some = absurd (omega arith)
writes_phase m.closed x some = absurd (omega arith)
writes_phase m.arriving x some = absurd (omega arith)
writes_phase m.fronting x some = absurd (omega arith)
writes_phase m.serving x some = inl refl
writes_phase (m.faulted code) x some = inr (code, refl)
writes_phase (m.closing why) x some = absurd (omega arith)

-- an upstream that is there, where nothing is due and nothing more happens by itself
pub going_stage : (s : Stage) (k : Tunnel) → (0 < up_by s k) → is_unanswered s ≡ false → IsIdleBy s k
    → (s ≡ t.opening) ⊎ (s ≡ t.live)
going_stage t.unasked k some answered idle = absurd (omega arith)
going_stage (t.requested headers end) k some answered idle = absurd (omega arith)
going_stage (t.refusing status target) k some answered idle = absurd (omega arith)
going_stage t.malformed k some answered idle = absurd (omega arith)
going_stage t.due k some answered idle = absurd (omega arith)
going_stage t.opening k some answered idle = inl refl
going_stage t.accepting k some answered idle = absurd cc
going_stage t.live k some answered idle = inr refl
going_stage (t.failed why) k some answered idle = absurd cc
going_stage (t.ended why) k some answered idle = absurd cc
going_stage (t.over why) k some answered idle = absurd idle
going_stage t.gone k some answered idle = absurd (omega arith)

pub opening_stage : (s : Stage) (opens : Bool) → (s ≡ t.opening) ⊎ (s ≡ t.live) → UpOpenBy s opens → opens ≡ false → s ≡ t.opening
opening_stage s opens going told closed =
    ⊎_elim (λ is. is)
    (λ is. let opened : opens ≡ true = subst (λ (r : Stage). UpOpenBy r opens) is told in absurd cc) going

pub live_wants : (s : Stage) (k : Tunnel) → 0 < up_wants_by s k → s ≡ t.live
live_wants t.unasked k some = absurd (omega arith)
live_wants (t.requested headers end) k some = absurd (omega arith)
live_wants (t.refusing status target) k some = absurd (omega arith)
live_wants t.malformed k some = absurd (omega arith)
live_wants t.due k some = absurd (omega arith)
live_wants t.opening k some = absurd (omega arith)
live_wants t.accepting k some = absurd (omega arith)
live_wants t.live k some = refl
live_wants (t.failed why) k some = absurd (omega arith)
live_wants (t.ended why) k some = absurd (omega arith)
live_wants (t.over why) k some = absurd (omega arith)
live_wants t.gone k some = absurd (omega arith)

pub live_holds : (s : Stage) (k : Tunnel) → 0 < length (up_held_by s k) → s ≡ t.live
live_holds t.unasked k some = absurd (omega arith)
live_holds (t.requested headers end) k some = absurd (omega arith)
live_holds (t.refusing status target) k some = absurd (omega arith)
live_holds t.malformed k some = absurd (omega arith)
live_holds t.due k some = absurd (omega arith)
live_holds t.opening k some = absurd (omega arith)
live_holds t.accepting k some = absurd (omega arith)
live_holds t.live k some = refl
live_holds (t.failed why) k some = absurd (omega arith)
live_holds (t.ended why) k some = absurd (omega arith)
live_holds (t.over why) k some = absurd (omega arith)
live_holds t.gone k some = absurd (omega arith)

pub up_is : (s : Stage) (k : Tunnel) (u : ℕ) → (s ≡ t.opening) ⊎ (s ≡ t.live) → up_by s k ≡ u → k.up ≡ u
up_is s k u going joins =
    ⊎_elim (λ is. subst (λ (r : Stage). up_by r k ≡ u) is joins) (λ is. subst (λ (r : Stage). up_by r k ≡ u) is joins) going

-- THE ENTRIES

-- nothing more happens by itself elsewhere
pub free_link : (x : Machine) (l : ℕ) (z : Entry) → Free x → BirthMayCome x z → LinkMayCome x l z
free_link x l z free birth = record {
  birth = birth;
  control = rests_of x.control free.control;
  others = λ k apart. lets_all (link_first (x.inbound l).phase z) (x.inbound k) (free.links k);
  plain = λ k. plain_lets_all (link_first (x.inbound l).phase z) (x.plain k) (free.plain k);
  gates = free.gates (link_first (x.inbound l).phase z);
}

pub link_steps : (g : NodeConfig) (x : Machine) (l : ℕ) (z : Entry) → inbound.MayCome l (x.inbound l) z → LinkMayCome x l z
    → Steps g x (of_link l (part.entry z)) (with_part l (part.entry z) (inbound.entered z (x.inbound l)) x)
link_steps g x l z may guard = (inbound.entered z (x.inbound l), (may, refl), guard, refl)

pub up_steps : (g : NodeConfig) (x : Machine) (l s : ℕ) (z : Entry)
    → inbound.UpMayCome l s (x.inbound l) ((x.inbound l).tunnels s) z → LinkMayCome x l z
    → Steps g x (of_link l (part.up s z)) (with_part l (part.up s z) (at_stream s (up_entered z) (x.inbound l)) x)
up_steps g x l s z may guard = (at_stream s (up_entered z) (x.inbound l), (may, refl), guard, refl)

pub is_at : (x : Inbound) (s u : ℕ) (stage : Stage) → IsQuiet x → (x.tunnels s).stage ≡ stage → (stage ≡ t.opening) ⊎ (stage ≡ t.live)
    → Joins (x.tunnels s) u → IsAt stage u x (x.tunnels s)
is_at x s u stage quiet is going joins =
    (quiet, is, up_is (x.tunnels s).stage (x.tunnels s) u (subst (λ (r : Stage). (r ≡ t.opening) ⊎ (r ≡ t.live)) (sym is) going) joins.1)

-- WHAT THE CODE SHOWS

way_at : (k : Link) (x : Inbound) (h : Here) → Shows k x → k.phase ≡ h → ShowsBy (phase_of h) k x
way_at k x h shows is = subst (λ (q : m.Phase). ShowsBy q k x) (shows.phase ∙ ap phase_of is) shows.way

pub link_wants : (k : Link) (x : Inbound) → Shows k x → wants_on k ≡ wants_by x.phase x
link_wants k x shows = by k.phase refl
  where
    at : (h : Here) → k.phase ≡ h → wants_in h k ≡ wants_by (phase_of h) x → wants_on k ≡ wants_by x.phase x
    at h is same =
        ap (λ (r : Here). wants_in r k) is ∙ same ∙ sym (ap (λ (q : m.Phase). wants_by q x) (shows.phase ∙ ap phase_of is))

    by : (h : Here) → k.phase ≡ h → wants_on k ≡ wants_by x.phase x
    by here.Fronting is =
        at here.Fronting is (ap (λ (bytes : List ℕ). longest_front - length bytes) (sym (way_at k x here.Fronting shows is).0))
    by here.Serving is = at here.Serving is (ap wants_of (sym (way_at k x here.Serving shows is).0))
    by (here.Faulted code) is = at (here.Faulted code) is refl
    by (here.Closing why) is = at (here.Closing why) is refl
    by here.Closed is = at here.Closed is refl

pub link_output : (k : Link) (x : Inbound) → Shows k x → output_on k ≡ output_by x.phase x
link_output k x shows = by k.phase refl
  where
    at : (h : Here) → k.phase ≡ h → output_in h k ≡ output_by (phase_of h) x → output_on k ≡ output_by x.phase x
    at h is same =
        ap (λ (r : Here). output_in r k) is ∙ same ∙ sym (ap (λ (q : m.Phase). output_by q x) (shows.phase ∙ ap phase_of is))

    by : (h : Here) → k.phase ≡ h → output_on k ≡ output_by x.phase x
    by here.Fronting is = at here.Fronting is refl
    by here.Serving is = at here.Serving is (ap connection.output (sym (way_at k x here.Serving shows is).0))
    by (here.Faulted code) is = at (here.Faulted code) is (ap connection.output (sym (way_at k x (here.Faulted code) shows is)))
    by (here.Closing why) is = at (here.Closing why) is refl
    by here.Closed is = at here.Closed is refl

-- a tunnel that the code shows
tunnel_by : (A : Type 0) (f : Stage → Tunnel → A) (k : HereTunnel) (x : Tunnel)
    → ((why : Cause) (y : Tunnel) → f (t.over why) y ≡ f (t.over why) (tunnel_of k))
    → ((s : Stage) (y : Tunnel) → f s (as_told y) ≡ f s y) → ShowsTunnel (Some k) x → f x.stage x ≡ f (stage_of k.stage) (tunnel_of k)
tunnel_by A f k x over same shows = by k.stage refl shows
  where
    told : (s : HereStage) → k.stage ≡ s → as_told x ≡ tunnel_of k → f x.stage x ≡ f (stage_of k.stage) (tunnel_of k)
    told s is all = sym (same x.stage x) ∙ ap (λ (y : Tunnel). f y.stage y) all

    by : (s : HereStage) → k.stage ≡ s → ShowsAt (stage_of s) k x → f x.stage x ≡ f (stage_of k.stage) (tunnel_of k)
    by stage.Due is shown = told stage.Due is shown.0
    by stage.Opening is shown = told stage.Opening is shown.0
    by stage.Live is shown = told stage.Live is shown.0
    by (stage.Failed why) is shown = told (stage.Failed why) is shown.0
    by (stage.Ended why) is shown = told (stage.Ended why) is shown.0
    by (stage.Over why) is shown =
        ap (λ (r : Stage). f r x) shown.0 ∙ over why x ∙ sym (ap (λ (r : HereStage). f (stage_of r) (tunnel_of k)) is)

up_wants_same : (s : Stage) (y : Tunnel) → up_wants_by s (as_told y) ≡ up_wants_by s y
up_wants_same t.unasked y = refl
up_wants_same (t.requested headers end) y = refl
up_wants_same (t.refusing status target) y = refl
up_wants_same t.malformed y = refl
up_wants_same t.due y = refl
up_wants_same t.opening y = refl
up_wants_same t.accepting y = refl
up_wants_same t.live y = refl
up_wants_same (t.failed why) y = refl
up_wants_same (t.ended why) y = refl
up_wants_same (t.over why) y = refl
up_wants_same t.gone y = refl

up_held_same : (s : Stage) (y : Tunnel) → up_held_by s (as_told y) ≡ up_held_by s y
up_held_same t.unasked y = refl
up_held_same (t.requested headers end) y = refl
up_held_same (t.refusing status target) y = refl
up_held_same t.malformed y = refl
up_held_same t.due y = refl
up_held_same t.opening y = refl
up_held_same t.accepting y = refl
up_held_same t.live y = refl
up_held_same (t.failed why) y = refl
up_held_same (t.ended why) y = refl
up_held_same (t.over why) y = refl
up_held_same t.gone y = refl

none_by : (A : Type 0) (f : Stage → Tunnel → A) (none : A) (x : Tunnel)
    → ((y : Tunnel) → f t.unasked y ≡ none) → ((y : Tunnel) → f t.gone y ≡ none)
    → ShowsTunnel None x → none ≡ f x.stage x
none_by A f none x unasked gone shows =
    ⊎_elim (λ (is : x.stage ≡ t.unasked). sym (ap (λ (r : Stage). f r x) is ∙ unasked x))
    (λ (is : x.stage ≡ t.gone). sym (ap (λ (r : Stage). f r x) is ∙ gone x)) shows

pub up_wants_shown : (o : Option HereTunnel) (x : Tunnel) → ShowsTunnel o x → observed.up_wants_in o ≡ up_wants_by x.stage x
up_wants_shown None x shows = none_by ℕ up_wants_by 0 x (λ y. refl) (λ y. refl) shows
up_wants_shown (Some k) x shows = sym (tunnel_by ℕ up_wants_by k x (λ why y. refl) up_wants_same shows)

pub up_held_shown : (o : Option HereTunnel) (x : Tunnel) → ShowsTunnel o x → observed.up_held_in o ≡ up_held_by x.stage x
up_held_shown None x shows = none_by (List ℕ) up_held_by [] x (λ y. refl) (λ y. refl) shows
up_held_shown (Some k) x shows = sym (tunnel_by (List ℕ) up_held_by k x (λ why y. refl) up_held_same shows)

-- of an inbound link, and of an upstream, by their numbers
away_zero : (phase : m.Phase) (x : Inbound) → IsAway phase → wants_by phase x ≡ 0
away_zero m.unborn x away = refl
away_zero m.closed x away = refl
away_zero m.arriving x away = refl
away_zero m.fronting x away = absurd away
away_zero m.serving x away = absurd away
away_zero (m.faulted code) x away = refl
away_zero (m.closing why) x away = refl

away_nothing : (phase : m.Phase) (x : Inbound) → IsAway phase → output_by phase x ≡ []
away_nothing m.unborn x away = refl
away_nothing m.closed x away = refl
away_nothing m.arriving x away = refl
away_nothing m.fronting x away = refl
away_nothing m.serving x away = absurd away
away_nothing (m.faulted code) x away = absurd away
away_nothing (m.closing why) x away = refl

own_wants : (l : ℕ) (o : Option Link) (x : Inbound) → ShowsLink l o x → links.wants_in o ≡ wants_by x.phase x
own_wants l None x shows = sym (away_zero x.phase x shows.0)
own_wants l (Some k) x shows = link_wants k x shows.1

own_output : (l : ℕ) (o : Option Link) (x : Inbound) → ShowsLink l o x → links.output_in o ≡ output_by x.phase x
own_output l None x shows = sym (away_nothing x.phase x shows.0)
own_output l (Some k) x shows = link_output k x shows.1

ups_want : (l s : ℕ) (o : Option Link) (x : Inbound) → ShowsLink l o x
    → links.up_wants_in s o ≡ up_wants_by (x.tunnels s).stage (x.tunnels s)
ups_want l s None x shows = up_wants_shown None (x.tunnels s) (shows.1 s)
ups_want l s (Some k) x shows = up_wants_shown (get k.tunnels s) (x.tunnels s) (shows.1.tunnels s)

ups_hold : (l s : ℕ) (o : Option Link) (x : Inbound) → ShowsLink l o x → links.up_held_in s o ≡ up_held_by (x.tunnels s).stage (x.tunnels s)
ups_hold l s None x shows = up_held_shown None (x.tunnels s) (shows.1 s)
ups_hold l s (Some k) x shows = up_held_shown (get k.tunnels s) (x.tunnels s) (shows.1.tunnels s)

module _ (k : Links) (f : ℕ → Inbound) (shows : ShowsAll k f) where
  pub wants_link : (l : ℕ) → get k.ups l ≡ None → links.wants_of k l ≡ wants_by (f l).phase (f l)
  wants_link l none =
      ap (λ (at : Option Place). links.wants_at k at l) none ∙ own_wants l (get k.links l) (f l) (shows.links l)

  pub output_link : (l : ℕ) → get k.ups l ≡ None → links.held_of k l ≡ output_by (f l).phase (f l)
  output_link l none =
      ap (λ (at : Option Place). links.held_at k at l) none ∙ own_output l (get k.links l) (f l) (shows.links l)

  pub wants_up : (u l s : ℕ) → get k.ups u ≡ Some (place l s) → links.wants_of k u ≡ up_wants_by ((f l).tunnels s).stage ((f l).tunnels s)
  wants_up u l s at =
      ap (λ (o : Option Place). links.wants_at k o u) at ∙ ups_want l s (get k.links l) (f l) (shows.links l)

  pub holds_up : (u l s : ℕ) → get k.ups u ≡ Some (place l s) → links.held_of k u ≡ up_held_by ((f l).tunnels s).stage ((f l).tunnels s)
  holds_up u l s at =
      ap (λ (o : Option Place). links.held_at k o u) at ∙ ups_hold l s (get k.links l) (f l) (shows.links l)

-- the last words of a link
words_of : (l : ℕ) (o : Option Link) (x : Inbound) → ShowsLink l o x → links.last_at o ≡ true → IsLastWord x
words_of l None x shows last = absurd cc
words_of l (Some k) x shows last = by k.phase refl last
  where
    some : (n : ℕ) → not (n == 0) ≡ true → 0 < n
    some zero is = absurd cc
    some (suc n) is = omega arith

    by : (h : Here) → k.phase ≡ h → last_in h k ≡ true → IsLastWord x
    by here.Fronting is last = absurd cc
    by here.Serving is last = absurd cc
    by (here.Faulted code) is last =
        let at : x.phase ≡ m.faulted code = shows.1.phase ∙ ap phase_of is in
        let more : 0 < length (connection.output k.conn) = some (length (connection.output k.conn)) last in
        let same : connection.output k.conn ≡ output_by x.phase x =
        sym (ap (λ (r : Here). output_in r k) is) ∙ link_output k x shows.1 in
        (code, at, subst (λ (bytes : List ℕ). 0 < length bytes) same more)
    by (here.Closing why) is last = absurd cc
    by here.Closed is last = absurd cc

pub last_link : (k : Links) (f : ℕ → Inbound) (l : ℕ) → ShowsAll k f → links.last_at (get k.links l) ≡ true → IsLastWord (f l)
last_link k f l shows last = words_of l (get k.links l) (f l) (shows.links l) last
