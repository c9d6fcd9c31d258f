-- The messages of every run.
use Rattle.std.proofs.Common.{◌≡◌, ℕ, ◌<◌, ◌==◌, Bool, false, if◌then◌else◌, List, [], ◌∷◌, ◌++◌, length, drop, map, refl, ap, sym, ◌∙◌, subst}
use Rattle.std.specs.List.{flat_map}
use Rattle.hb_base.specs.declared.cause.Cause.TheVariants as cause
use Rattle.hb_base.specs.declared.door.Why.{Why}
use Rattle.hb_base.specs.declared.door.Why.TheVariants as whys
use Rattle.hb_base.specs.declared.target.Target.{Target}
use Rattle.std.proofs.lemmas.Bool.{cond_both, eq-eqb}
use Rattle.std.proofs.lemmas.List.{append-nil, map-append}
use Rattle.std.proofs.lemmas.Grind.{fold-append}
use Rattle.hb_disco.specs.Response.{response_of}
use Rattle.hb_disco.specs.declared.response.Response.{Response}
use Rattle.hb_grpc.specs.Reading.{Framing, fed}
use Rattle.hb_grpc.specs.Framed.{framed_of}
use Rattle.hb_held.specs.Held.{Resources, nothing_held}
use Rattle.hb_history.specs.Points as history
use Rattle.hb_world.specs.declared.entry.Entry.{Entry}
use Rattle.hb_world.specs.declared.entry.Entry.TheVariants as e
use Rattle.hb_model.specs.declared.config.NodeConfig.{NodeConfig}
use Rattle.hb_model.specs.Discovery.{Discovery, longest_message, dialled, came, wrote, chunk_of, on_found, ends_for, put_requests, stopped_for}
use Rattle.hb_model.specs.Machine.{Machine, heard, entered, with_phase}
use Rattle.hb_model.specs.Point.{Point, entry, looked, applied, refused, used, put, stopped, moves_in, moves_at_birth, moves_in_entry, data_in}
use Rattle.hb_model.specs.Messages.{data_came, response_in, responses, held_by, held}
use Rattle.hb_model.specs.Runs.{MayCome, Steps, StandsFor, begins, goes_on}
use Rattle.hb_model.specs.Laws.{RunsHold, RunsObeyMessages}
use Rattle.hb_model.proofs.Grown.{one_more, data_more, of_all}
use Rattle.hb_model.proofs.Open.{open_or_not}
use Rattle.hb_model.proofs.Unborn.{AreUnborn, are_unborn, Passes, passes_looked, passes_applied, passes_used, passes_put, passes_dial}
use Rattle.hb_model.proofs.Messages.{AreRead, nothing_read, chunk_read, message_read, rest_read}

-- of each link what came is read, and its responses were applied
abbrev pub IsReadBy : List Point → ℕ → Discovery → Type 0
IsReadBy points l x = AreRead x.framing x.chunk (data_came l points) (responses l points)

abbrev pub AreAllRead : Machine → List Point → Type 0
AreAllRead m points = (l : ℕ) → IsReadBy points l (m.links l)

abbrev Same : Discovery → Discovery → Type 0
Same x y = (x.framing ≡ y.framing) × (x.chunk ≡ y.chunk)

same_at : (b : Bool) (change x : Discovery) → Same change x → Same (if b then change else x) x
same_at b change x same = cond_both b change x (λ y. Same y x) (λ is. same) (λ is. (refl, refl))

-- an entry that is no birth changes nothing of it
abbrev IsNoBirth : Entry → Type 0
IsNoBirth (e.Dialled l to why) = ⊥
IsNoBirth _ = Unit {0}

heard_same : (g : NodeConfig) (held : Resources) (x : Entry) (l : ℕ) (d : Discovery) → IsNoBirth x → Same (heard g held x l d) d
heard_same g held (e.Accepted k door) l d none = (refl, refl)
heard_same g held (e.Dialled k to why) l d none = absurd none
heard_same g held (e.DialFailed to why) l d none = (refl, refl)
heard_same g held (e.Opened k) l d none = same_at (k == l) _ d (refl, refl)
heard_same g held (e.Came k bytes) l d none =
    same_at (k == l) _ d (open_or_not (λ y. Same y d) (came bytes) d (refl, refl) (refl, refl))
heard_same g held (e.Ended k) l d none = same_at (k == l) _ d (refl, refl)
heard_same g held (e.Broke k) l d none = same_at (k == l) _ d (refl, refl)
heard_same g held (e.Went k bytes) l d none =
    same_at (k == l) _ d (open_or_not (λ y. Same y d) (wrote (length bytes)) d (refl, refl) (refl, refl))
heard_same g held (e.Balked way) l d none = (refl, refl)
heard_same g held (e.Shut k) l d none = (refl, refl)
heard_same g held (e.Closed k cause) l d none = same_at (k == l) _ d (refl, refl)
heard_same g held e.Tick l d none = (refl, refl)
heard_same g held (e.Wait ready way) l d none = (refl, refl)

none_at : (b : Bool) (points : List history.Point) → flat_map data_in points ≡ [] → flat_map data_in (if b then points else []) ≡ []
none_at b points none = cond_both b points [] (λ ps. flat_map data_in ps ≡ []) (λ is. none) (λ is. refl)

birth_hands_out : (to : Target) (why : Why) → flat_map data_in (moves_at_birth to why) ≡ []
birth_hands_out to whys.Discovery = refl
birth_hands_out to _ = refl

entry_hands_out : (l : ℕ) (x : Entry) → flat_map data_in (moves_in_entry l x) ≡ []
entry_hands_out l (e.Accepted k door) = refl
entry_hands_out l (e.Dialled k to why) = none_at (k == l) _ (birth_hands_out to why)
entry_hands_out l (e.DialFailed to why) = refl
entry_hands_out l (e.Opened k) = refl
entry_hands_out l (e.Came k bytes) = refl
entry_hands_out l (e.Ended k) = refl
entry_hands_out l (e.Broke k) = refl
entry_hands_out l (e.Went k bytes) = none_at (k == l) _ refl
entry_hands_out l (e.Balked way) = refl
entry_hands_out l (e.Shut k) = refl
entry_hands_out l (e.Closed k cause) = refl
entry_hands_out l e.Tick = refl
entry_hands_out l (e.Wait ready way) = refl

module _ (g : NodeConfig) (m : Machine) (points : List Point) (unborn : AreUnborn g m points) (read : AreAllRead m points) where
  -- with a point by which this comes on a link and this is applied
  grown : (p : Point) (l : ℕ) (framing : Framing) (chunk octets : List ℕ) (given : List Response)
      → flat_map data_in (moves_in l p) ≡ octets → response_in l p ≡ given
      → AreRead framing chunk (data_came l points ++ octets) (responses l points ++ given)
      → AreRead framing chunk (data_came l (points ++ p ∷ [])) (responses l (points ++ p ∷ []))
  grown p l framing chunk octets given comes gives now =
      subst (λ xs. AreRead framing chunk xs (responses l (points ++ p ∷ [])))
      (ap (λ xs. data_came l points ++ xs) (sym comes) ∙ sym (data_more l points p))
      (subst (AreRead framing chunk (data_came l points ++ octets))
      (ap (λ rs. responses l points ++ rs) (sym gives) ∙ sym (one_more (response_in l) points p)) now)

  kept : (p : Point) (l : ℕ) (x : Discovery) → Same x (m.links l) → flat_map data_in (moves_in l p) ≡ [] → response_in l p ≡ []
      → IsReadBy (points ++ p ∷ []) l x
  kept p l x same comes gives =
      grown p l x.framing x.chunk [] [] comes gives
      (subst (λ xs. AreRead x.framing x.chunk xs (responses l points ++ [])) (sym (append-nil (data_came l points)))
      (subst (AreRead x.framing x.chunk (data_came l points)) (sym (append-nil (responses l points)))
      (subst (λ f. AreRead f x.chunk (data_came l points) (responses l points)) (sym same.0)
      (subst (λ xs. AreRead (m.links l).framing xs (data_came l points) (responses l points)) (sym same.1) (read l)))))

  elsewhere : (p : Point) (l : ℕ) → Passes g l p → IsReadBy (points ++ p ∷ []) l (m.links l)
  elsewhere p l passes = kept p l (m.links l) (refl, refl) (ap (flat_map data_in) passes.moves) passes.response

  entry_read : (x : Entry) → IsNoBirth x → AreAllRead (entered g x m) (points ++ entry x ∷ [])
  entry_read x none l = kept (entry x) l (heard g m.held x l (m.links l)) (heard_same g m.held x l (m.links l) none)
      (entry_hands_out l x) refl

  born_read : (k : ℕ) (to : Target) → m.born < k
      → AreAllRead (entered g (e.Dialled k to whys.Discovery) m) (points ++ entry (e.Dialled k to whys.Discovery) ∷ [])
  born_read k to above =
      let p = entry (e.Dialled k to whys.Discovery) in
      let none = (unborn k above).none in
      of_all (IsReadBy (points ++ p ∷ [])) k (λ l. dialled g.id to m.held) m.links
      (grown p k _ [] [] [] (entry_hands_out k (e.Dialled k to whys.Discovery)) refl
      (subst (λ xs. AreRead (dialled g.id to m.held).framing [] xs (responses k points ++ []))
      (sym (append-nil (data_came k points) ∙ ap (flat_map data_in) none.moves))
      (subst (AreRead (dialled g.id to m.held).framing [] []) (sym (append-nil (responses k points) ∙ none.responses)) nothing_read)))
      (λ l apart. elsewhere p l (passes_dial g l k to whys.Discovery apart))

  entries_read : (x : Entry) → MayCome g m x → AreAllRead (entered g x m) (points ++ entry x ∷ [])
  entries_read (e.Accepted k door) may = absurd may
  entries_read (e.Dialled k to why) may =
      subst (λ (w : Why). AreAllRead (entered g (e.Dialled k to w) m) (points ++ entry (e.Dialled k to w) ∷ [])) (sym may.3)
      (born_read k to may.1)
  entries_read (e.DialFailed to why) may = entry_read _ tt
  entries_read (e.Opened k) may = entry_read _ tt
  entries_read (e.Came k bytes) may = entry_read _ tt
  entries_read (e.Ended k) may = entry_read _ tt
  entries_read (e.Broke k) may = entry_read _ tt
  entries_read (e.Went k bytes) may = entry_read _ tt
  entries_read (e.Balked way) may = entry_read _ tt
  entries_read (e.Shut k) may = absurd may
  entries_read (e.Closed k cause) may = entry_read _ tt
  entries_read e.Tick may = entry_read _ tt
  entries_read (e.Wait ready way) may = entry_read _ tt

  -- a link of which this becomes
  linked : (p : Point) (k : ℕ) (n next : Machine) (new : Discovery) → n ≡ next
      → ((l : ℕ) → next.links l ≡ (if k == l then new else m.links l))
      → IsReadBy (points ++ p ∷ []) k new → ((l : ℕ) → (k == l) ≡ false → Passes g l p) → AreAllRead n (points ++ p ∷ [])
  linked p k n next new is links here passes l =
      subst (IsReadBy (points ++ p ∷ []) l) (sym (ap (λ (x : Machine). x.links l) is ∙ links l))
      (of_all (IsReadBy (points ++ p ∷ [])) k (λ j. new) m.links here (λ j apart. elsewhere p j (passes j apart)) l)

  on_itself : {A : Type 0} (k : ℕ) (xs : List A) → (if k == k then xs else []) ≡ xs
  on_itself k xs = rw (eq-eqb k k refl) refl

  pub point_read : (p : Point) (n : Machine) → Steps g m p n → AreAllRead n (points ++ p ∷ [])
  point_read (entry x) n steps =
      subst (λ (y : Machine). AreAllRead y (points ++ entry x ∷ [])) (sym steps.1) (entries_read x steps.0)
  point_read (looked k ps told headers) n steps =
      let look = steps.2 in
      let x = m.links k in
      linked (looked k ps told headers) k n _ (on_found told steps.1 x) steps.4 (λ l. refl)
      (grown (looked k ps told headers) k x.framing (chunk_of steps.1 told) (chunk_of steps.1 told) []
      (ap (flat_map data_in) (on_itself k ps) ∙ look.found.hands_out) refl
      (subst (AreRead x.framing (chunk_of steps.1 told) (data_came k points ++ chunk_of steps.1 told))
      (sym (append-nil (responses k points)))
      (chunk_read x.framing (data_came k points) x.chunk (chunk_of steps.1 told) (responses k points) look.empty_handed.0 (read k))))
      (λ l apart. passes_looked g l k ps told headers apart)
  point_read (applied k r) n steps =
      let is = steps.2 in
      let x = m.links k in
      linked (applied k r) k n _ _ steps.3 (λ l. refl)
      (grown (applied k r) k (fed x.framing x.chunk) (drop steps.1 x.chunk) [] (r ∷ []) refl (on_itself k (r ∷ []))
      (subst (λ xs. AreRead (fed x.framing x.chunk) (drop steps.1 x.chunk) xs (responses k points ++ r ∷ []))
      (sym (append-nil (data_came k points)))
      (message_read x.framing x.chunk (data_came k points) is.message steps.1 (responses k points) r is.whole is.response (read k))))
      (λ l apart. passes_applied g l k r apart)
  point_read (refused k) n steps =
      linked (refused k) k n _ _ steps.2 (λ l. refl)
      (kept (refused k) k (ends_for cause.Discovery (m.links k)) (refl, refl) refl refl)
      (λ l apart. record { moves = refl; came = refl; went = refl; tells = refl; response = refl; request = λ held. refl })
  point_read (used k c) n steps =
      let is = steps.1 in
      let x = m.links k in
      linked (used k c) k n _ _ steps.2 (λ l. refl)
      (grown (used k c) k (fed x.framing x.chunk) [] [] [] (none_at (k == k) _ refl) refl
      (subst (λ xs. AreRead (fed x.framing x.chunk) [] xs (responses k points ++ [])) (sym (append-nil (data_came k points)))
      (subst (AreRead (fed x.framing x.chunk) [] (data_came k points)) (sym (append-nil (responses k points)))
      (rest_read x.framing x.chunk (data_came k points) (responses k points) is.none (read k)))))
      (λ l apart. passes_used g l k c apart)
  point_read (put k bytes) n steps =
      linked (put k bytes) k n _ (put_requests (m.links k)) steps.3 (λ l. refl)
      (kept (put k bytes) k (put_requests (m.links k)) (refl, refl) (none_at (k == k) _ refl) refl)
      (λ l apart. passes_put g l k bytes apart)
  point_read (stopped cause) n steps =
      subst (λ (y : Machine). AreAllRead y (points ++ stopped cause ∷ [])) (sym steps.1)
      (λ l. kept (stopped cause) l (with_phase (stopped_for cause) (m.links l)) (refl, refl) refl refl)

pub all_read : (g : NodeConfig) (m : Machine) (points : List Point) → StandsFor g m points → AreAllRead m points
all_read g m points (begins is none) = λ l.
    subst (λ ps. IsReadBy ps l (m.links l)) (sym none)
    (subst (λ (x : Machine). IsReadBy [] l (x.links l)) (sym is) nothing_read)
all_read g n more (goes_on before p steps grows) =
    subst (AreAllRead n) (sym grows) (point_read g _ _ (are_unborn g _ _ before) (all_read g _ _ before) p n steps)

pub obey_messages : RunsObeyMessages
obey_messages g m points stands l control =
    let read = all_read g m points stands l in
    let x = m.links l in
    let more = map response_of (framed_of longest_message ((x.framing.held ++ x.chunk) ++ [])).messages in
    record {
      more = more;
      read = ap (λ xs. map response_of (framed_of longest_message xs).messages) (sym (append-nil (data_came l points)))
          ∙ ap (map response_of) (read.reads [])
          ∙ map-append response_of read.messages _
          ∙ ap (λ rs. rs ++ more) read.responses;
    }

-- the resources held

held_point : (g : NodeConfig) (m n : Machine) (p : Point) → Steps g m p n → n.held ≡ held_by m.held p
held_point g m n (entry x) steps = ap (λ (y : Machine). y.held) steps.1
held_point g m n (looked k ps told headers) steps = ap (λ (y : Machine). y.held) steps.4
held_point g m n (applied k r) steps = ap (λ (y : Machine). y.held) steps.3
held_point g m n (refused k) steps = ap (λ (y : Machine). y.held) steps.2
held_point g m n (used k c) steps = ap (λ (y : Machine). y.held) steps.2
held_point g m n (put k bytes) steps = ap (λ (y : Machine). y.held) steps.3
held_point g m n (stopped cause) steps = ap (λ (y : Machine). y.held) steps.1

pub held_is : RunsHold
held_is g m points (begins is none) = ap (λ (x : Machine). x.held) is ∙ ap (held g) (sym none)
held_is g n more (goes_on {m = m} {points = points} before p steps grows) =
    held_point g m n p steps ∙ ap (λ h. held_by h p) (held_is g m points before)
    ∙ sym (fold-append held_by (nothing_held g.network g.node g.doors) points (p ∷ [])) ∙ ap (held g) (sym grows)
