-- Links that code doesn't show.
use Rattle.std.proofs.Common.{◌≡◌, ℕ, ◌&&◌, Bool, false, List, [], ◌∷◌, Option, Some, None, refl, ap, sym, ◌∙◌, subst, arith}
use Rattle.std.proofs.lemmas.Bool.{false≢true}
use Rattle.hb_base.specs.declared.cause.Cause.{Cause}
use Rattle.hb_held.specs.Held.{Resources}
use Rattle.hb_captured.specs.Answer.{Routing}
use Rattle.hb_captured.specs.Calm.{IsCalm, IsCalmBy}
use Rattle.hb_captured.specs.Captured as m
use Rattle.hb_captured.specs.Captured.{Captured, Stage, ends_by, ends_for}
use Rattle.hb_captured.specs.Part.{Part, entry, up, welcomed, crowded, lacked, misfronted, fronted, refused, accepted, roomless, asked, hears, put, finished, credited, loosed, completed, left, done, applied, stopped, notes}
use Rattle.hb_captured.specs.Runs.{Local, Lacks, left_note, end_note}
use Rattle.hb_relay.specs.declared.relay.Relay.{Relay}
use Rattle.hb_relay.specs.Reaches.{IsInner, Leads}
use Rattle.hb_relay.specs.Refused.{LivesEarly, DropsBytes, GoesOnDone, NotesLater, FailsLater, EndsUntold, NewIsShown}
use Rattle.hb_relay.specs.Shows.{Shows, stage_of}
use Rattle.hb_relay.proofs.Reached.{stage_is, shows_so}

pub lives_early : LivesEarly
lives_early k x lives opens shows =
    let both : m.opening ≡ m.live = sym opens ∙ stage_is k x shows.same ∙ ap stage_of lives in cc

pub drops_bytes : DropsBytes
drops_bytes k x other shows = other (sym (ap (λ (y : Captured). y.ways) shows.same))

pub goes_on_done : GoesOnDone
goes_on_done k x lives raw through shows =
    let calm : m.is_through x ≡ false =
    ap (λ (b : Bool). b && m.is_through x) (sym raw) ∙ subst (λ (s : Stage). IsCalmBy s x) lives shows.calm in
    false≢true (sym calm ∙ through)

pub notes_later : NotesLater
notes_later k x is shows = subst (λ (s : Stage). IsCalmBy s x) is shows.calm

pub fails_later : FailsLater
fails_later k x why is shows = subst (λ (s : Stage). IsCalmBy s x) is shows.calm

pub new_is_shown : NewIsShown
new_is_shown k is = shows_so k (m.at_stage m.fronting m.no_link) (sym is) ((refl, omega arith), (refl, refl)) (λ on. refl)

-- from an end that is still to be noted only its note leads on
module _ (l : ℕ) (held : Resources) (x : Captured) (k : Relay) (why : Cause) (lives : x.stage ≡ m.live) where
  ended_is : ends_by why x.stage ≡ m.ended why
  ended_is = ap (ends_by why) lives

  untold : (parts : List Part) (routing : Routing) (b : Local) (behind : Routing)
      → Leads IsInner l routing (record { held = held; link = ends_for why x }) parts b behind → Shows k b.link → notes parts ≡ [] → ⊥
  untold [] routing b behind leads shows none =
      subst (λ (s : Stage). IsCalmBy s (ends_for why x)) ended_is (subst (λ (c : Local). IsCalm c.link) leads.0 shows.calm)
  untold (left made ∷ parts) routing b behind (inner, routed, may, more) shows none =
      let is : made ≡ Some (end_note l why x.went_up x.went_down) =
      subst (λ (s : Stage). left_note l (ends_for why x) s made) ended_is may.0 in
      tells made is none
    where
      tells : (o : Option _) → o ≡ Some (end_note l why x.went_up x.went_down) → notes (left o ∷ parts) ≡ [] → ⊥
      tells None is none = (cc)
      tells (Some note) is none = (cc)
  untold (welcomed ∷ parts) routing b behind (inner, routed, may, more) shows none = absurd inner
  untold (lacked ∷ parts) routing b behind (inner, routed, may, more) shows none =
      subst (λ (s : Stage). Lacks s (ends_for why x)) ended_is may
  untold (misfronted fault ∷ parts) routing b behind (inner, routed, may, more) shows none =
      (let both : m.ended why ≡ m.fronting = sym ended_is ∙ may.0 in cc)
  untold (fronted seen by aim ∷ parts) routing b behind (inner, routed, may, more) shows none =
      (let both : m.ended why ≡ m.fronting = sym ended_is ∙ may.0.0 in cc)
  untold (refused seen by cause status made ∷ parts) routing b behind (inner, routed, may, more) shows none =
      (let both : m.ended why ≡ m.fronting = sym ended_is ∙ may.0.0 in cc)
  untold (accepted made ∷ parts) routing b behind (inner, routed, may, more) shows none =
      (let both : m.ended why ≡ m.accepting = sym ended_is ∙ may.0 in cc)
  untold (done made ∷ parts) routing b behind (inner, routed, may, more) shows none =
      (let both : m.ended why ≡ m.live = sym ended_is ∙ may.0 in cc)
  untold (entry z ∷ parts) routing b behind (inner, routed, may, more) shows none = absurd inner
  untold (up z ∷ parts) routing b behind (inner, routed, may, more) shows none = absurd inner
  untold (crowded ∷ parts) routing b behind (inner, routed, may, more) shows none = absurd inner
  untold (roomless ∷ parts) routing b behind (inner, routed, may, more) shows none = absurd inner
  untold (asked gate stream ∷ parts) routing b behind (inner, routed, may, more) shows none = absurd inner
  untold (hears heard begun ∷ parts) routing b behind (inner, routed, may, more) shows none = absurd inner
  untold (put bytes ∷ parts) routing b behind (inner, routed, may, more) shows none = absurd inner
  untold (finished ∷ parts) routing b behind (inner, routed, may, more) shows none = absurd inner
  untold (credited n ∷ parts) routing b behind (inner, routed, may, more) shows none = absurd inner
  untold (loosed begun ∷ parts) routing b behind (inner, routed, may, more) shows none = absurd inner
  untold (completed begun made ∷ parts) routing b behind (inner, routed, may, more) shows none = absurd inner
  untold (applied r ∷ parts) routing b behind (inner, routed, may, more) shows none = absurd inner
  untold (stopped cause ∷ parts) routing b behind (inner, routed, may, more) shows none = absurd inner

pub ends_untold : EndsUntold
ends_untold l held x k why before behind lives reaches =
    untold l held x k why lives reaches.parts before reaches.reached behind reaches.leads reaches.shows reaches.noted
