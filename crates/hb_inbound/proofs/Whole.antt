-- The whole life of a tunnel is lawful.
use Rattle.std.proofs.Common.{◌≡◌, ◌≢◌, inl, ℕ, zero, suc, ◌==◌, Bool, true, false, cond, List, [], ◌∷◌, ◌++◌, length, take, fold, Option, Some, None, refl, ap, sym, ◌∙◌, subst, arith}
use Rattle.std.specs.List.{flat_map}
use Rattle.std.proofs.lemmas.Bool.{eqb-true}
use Rattle.std.proofs.lemmas.List.{append-nil}
use Rattle.hb_base.specs.declared.cause.Cause.{Cause}
use Rattle.hb_base.specs.declared.cause.Cause.TheVariants as cause
use Rattle.hb_base.specs.declared.door.Why.TheVariants as whys
use Rattle.hb_base.specs.declared.note.Note.TheVariants as note
use Rattle.hb_base.specs.declared.peer.Peer.{Peer}
use Rattle.hb_base.specs.declared.target.Target.{Target}
use Rattle.hb_frames.specs.Bodies.{lent_of}
use Rattle.hb_held.specs.Held.{Resources}
use Rattle.hb_held.specs.Outcome.{after_response}
use Rattle.hb_table.specs.Judgement.{judged}
use Rattle.hb_table.specs.declared.judgement.Judged.{Judged}
use Rattle.hb_verdict.specs.declared.verdict.Verdict.TheVariants.{Dial}
use Rattle.hb_world.specs.declared.entry.Entry.TheVariants as e
use Rattle.hb_inbound.specs.Access.{AccessAt}
use Rattle.hb_inbound.specs.Closes.{ClosesAt}
use Rattle.hb_inbound.specs.Dials.{AllDialled, DialsAt}
use Rattle.hb_inbound.specs.Ends.{Life, none, pending, lives, life, life_by, Known, known_by, up_in, up_of, ends, ends_judged, Lives, EndsAt}
use Rattle.hb_inbound.specs.Ends as life
use Rattle.hb_inbound.specs.Notes.{IsAnswerNote, IsEndNote, AreNoted, NotesAt, no_note, noting_by, noting_of}
use Rattle.hb_inbound.specs.Part.{Part, up, decided}
use Rattle.hb_inbound.specs.RefusedRuns.{peer_in}
use Rattle.hb_inbound.specs.Relay.{ShutsBehind, EndsBehind, MayGoUp, MayEnd, RelayUpLaw, RelayDownLaw}
use Rattle.hb_inbound.specs.Runs.{target_named}
use Rattle.hb_inbound.specs.Rings.{RingLaw}
use Rattle.hb_inbound.specs.Sides.{AtEach, stream_came, up_went_in, up_went, up_came}
use Rattle.hb_inbound.specs.Verdicts.{AllGot, VerdictAt, nothing, due_by, due_of}
use Rattle.hb_inbound.specs.Whole as whole
use Rattle.hb_inbound.specs.Whole.{whole_life, MayLive, LifeMayGo}
use Rattle.hb_inbound.proofs.RefusedRuns.{Places, places}

-- OF A LIST

Each : {A : Type 0} → (A → Type 0) → List A → Type 0
Each P [] = Unit {0}
Each P (x ∷ xs) = P x × Each P xs

-- what holds of the first of a list, and what holds of the others
also : {A B : Type 0} → A → B → A × B
also a b = (a, b)

each_take : {A : Type 0} (P : A → Type 0) (n : ℕ) (xs : List A) → Each P xs → Each P (take n xs)
unfolding Each
each_take P zero xs all = tt
each_take P (suc n) [] all = tt
each_take P (suc n) (x ∷ xs) all = (all.0, each_take P n xs all.1)

fold_stays : {A B : Type 0} (f : B → A → B) (b : B) (xs : List A) → Each (λ x. f b x ≡ b) xs → fold f b xs ≡ b
unfolding Each
fold_stays f b [] all = refl
fold_stays f b (x ∷ xs) all = ap (λ c. fold f c xs) all.0 ∙ fold_stays f b xs all.1

none_in : {A B : Type 0} (f : A → List B) (xs : List A) → Each (λ x. f x ≡ []) xs → flat_map f xs ≡ []
unfolding Each
none_in f [] all = refl
none_in f (x ∷ xs) all = ap (λ ys. ys ++ flat_map f xs) all.0 ∙ none_in f xs all.1

-- a tunnel that nothing begins isn't there
life_stays : (s : ℕ) (k : Known) (xs : List Part) → k.life ≡ none → Each (λ p. (h : Resources) (peer : Option Peer) → life_by h peer s none p ≡ none) xs
    → (fold (known_by s) k xs).life ≡ none
unfolding Each
life_stays s k [] is all = is
life_stays s k (p ∷ xs) is all =
    life_stays s (known_by s k p) xs (ap (λ how. life_by (known_by s k p).held k.peer s how p) is ∙ all.0 (known_by s k p).held k.peer) all.1

off : {A : Type 0} (s : ℕ) (x y : A) → (1 == s) ≡ false → cond (1 == s) x y ≡ y
off s x y is = ap (λ b. cond b x y) is

same_either : {A : Type 0} (b : Bool) (x : A) → cond b x x ≡ x
same_either true x = refl
same_either false x = refl

module _ (start : Resources) (x : whole.Life) (may : MayLive start x) where
  abbrev all : List Part
  all = whole_life x

  -- OF OTHER STREAMS

  none_due : (s : ℕ) → (1 == s) ≡ false → Each (λ p. due_by s nothing p ≡ nothing) all
  unfolding Each
  none_due s is =
      also refl (also refl (also refl (also refl (also (off s _ _ is) (also (off s _ _ is) (also (off s _ _ is) (
      also (off s _ _ is) (also (off s _ _ is) (also refl (also (off s _ _ is) (also refl (also (off s _ _ is) (also refl (
      also (off s _ _ is) (also (off s _ _ is) (also refl (also refl (also (off s _ _ is) tt))))))))))))))))))

  none_noted : (s : ℕ) → (1 == s) ≡ false → Each (λ p. noting_by s no_note p ≡ no_note) all
  unfolding Each
  none_noted s is =
      also refl (also refl (also refl (also refl (also (off s _ _ is) (also refl (also refl (also refl (also (off s _ _ is) (
      also refl (also refl (also refl (also refl (also refl (also refl (also refl (also refl (also (off s _ _ is) (also refl tt))))))))))))))))))

  -- a part that begins nothing
  quiet : (h : Resources) (peer : Option Peer) → none ≡ none
  quiet h peer = refl

  none_begins : (s : ℕ) → (1 == s) ≡ false → Each (λ p. (h : Resources) (peer : Option Peer) → life_by h peer s none p ≡ none) all
  unfolding Each
  none_begins s is =
      also quiet (also quiet (also quiet (also quiet (also quiet (also (here (pending x.target)) (also (here none) (
      also (here none) (also (here none) (also quiet (also (here none) (also (λ h peer. judged_none peer h) (also (here none) (
      also quiet (also (here none) (also (here none) (also quiet (also (here none) (also (here none) tt))))))))))))))))))
    where
      here : (how : Life) (h : Resources) (peer : Option Peer) → cond (1 == s) how none ≡ none
      here how h peer = off s how none is

      judged_none : (peer : Option Peer) (h : Resources) → life.ends_at h peer none ≡ none
      judged_none None h = refl
      judged_none (Some who) h = refl

  -- at each place: by what holds of stream 1
  at_one : (P : ℕ → Type 0) → P 1 → ((s : ℕ) → (1 == s) ≡ false → P s) → (s : ℕ) → P s
  at_one P one others s = by (1 == s) refl
    where
      by : (b : Bool) → (1 == s) ≡ b → P s
      by true is = subst P (eqb-true 1 s is) one
      by false is = others s is

  got : (n : ℕ) → due_of 1 (take n all) ≡ nothing → AllGot (take n all)
  got n one =
      at_one (λ s. due_of s (take n all) ≡ nothing) one
      (λ s is. fold_stays (due_by s) nothing (take n all) (each_take (λ p. due_by s nothing p ≡ nothing) n all (none_due s is)))

  no_life : (n s : ℕ) → (1 == s) ≡ false → life start s (take n all) ≡ none
  no_life n s is =
      life_stays s (record { held = start; peer = None; life = none }) (take n all) refl
      (each_take (λ p. (h : Resources) (peer : Option Peer) → life_by h peer s none p ≡ none) n all (none_begins s is))

  noted : (n : ℕ) → ((why : Cause) → life start 1 (take n all) ≡ life.ended why → noting_of 1 (take n all) ≡ no_note)
      → AreNoted start (take n all)
  noted n one =
      at_one (λ s. (why : Cause) → life start s (take n all) ≡ life.ended why → noting_of s (take n all) ≡ no_note) one
      (λ s is why ended_so.
      fold_stays (noting_by s) no_note (take n all) (each_take (λ p. noting_by s no_note p ≡ no_note) n all (none_noted s is)))

  dialled : (n : ℕ) → ((to : Target) → life start 1 (take n all) ≡ pending to → up_of 1 (take n all) ≢ 0) → AllDialled start (take n all)
  dialled n one =
      at_one (λ s. (to : Target) → life start s (take n all) ≡ pending to → up_of s (take n all) ≢ 0) one
      (λ s is to pends zero_up. (let never : none ≡ pending to = sym (no_life n s is) ∙ pends in cc))

  -- three is no zero
  has_up : (let three : ℕ = 3 in three ≢ 0)
  has_up is = absurd (omega (arith, is))

  -- behind the update the tunnel lives on
  stays : ends_judged (judged (after_response start x.response) (peer_in x.seen) x.target) (lives x.target) ≡ lives x.target
  stays = ap (λ (j : Judged). ends_judged j (lives x.target)) may.still_admitted

  not_ended : (why : Cause) → ends_judged (judged (after_response start x.response) (peer_in x.seen) x.target) (lives x.target) ≡ life.ended why
      → ⊥
  not_ended why is = (let other : lives x.target ≡ life.ended why = sym stays ∙ is in cc)

  lives_on : Lives (ends_judged (judged (after_response start x.response) (peer_in x.seen) x.target) (lives x.target))
  lives_on = subst Lives (sym stays) tt

  -- THE LAWS

  pub access : AtEach (AccessAt start) all
  unfolding Places
  access =
      let first : AccessAt start (take 10 all) (up 1 (e.Went 3 (x.first ∷ []))) =
      record { peer = peer_in x.seen; target = x.target; peer_is = refl; target_is = refl; admitted = may.admitted } in
      let second : AccessAt start (take 12 all) (up 1 (e.Went 3 (x.second ∷ []))) =
      record { peer = peer_in x.seen; target = x.target; peer_is = refl; target_is = refl; admitted = may.still_admitted } in
      places (AccessAt start) [] _ (
      also tt (also tt (also tt (also tt (also tt (also tt (also tt (also tt (also tt (also tt (also first (also tt (also second (
      also tt (also tt (also tt (also tt (also tt (also tt tt)))))))))))))))))))

  pub end_law : AtEach (EndsAt start) all
  unfolding Places
  end_law =
      places (EndsAt start) [] _ (
      also tt (also tt (also (λ s why is. refl) (also tt (also tt (also tt (also tt (also tt (also tt (also tt (also tt (also tt (
      also lives_on (also tt (also lives_on (also lives_on (also lives_on (also tt (
      also (ap (λ (how : Life). ends cause.Done how) stays) tt)))))))))))))))))))

  pub closes : AtEach ClosesAt all
  unfolding Places
  closes =
      places ClosesAt [] _ (
      also refl (also refl (also tt (also refl (also refl (also refl (also tt (also tt (also refl (also refl (also tt (also tt (
      also tt (also refl (also tt (also tt (also refl (also refl (also tt tt)))))))))))))))))))

  pub dials : AtEach (DialsAt start) all
  unfolding Places
  dials =
      let dial : DialsAt start (take 6 all) (up 1 (e.Dialled 3 x.target (whys.Upstream 2 1))) =
      record { pends = refl; undialled = refl; link = 2; why_is = refl } in
      places (DialsAt start) [] _ (
      also tt (also tt (also (dialled 2 (λ to pends. absurd (cc))) (also tt (also tt (also tt (also dial (also (made 7 refl) (
      also tt (also tt (also (made 10 refl) (also tt (also (made 12 refl) (also tt (also tt (also (made 15 refl) (also tt (also tt (
      also tt tt)))))))))))))))))))
    where
      made : (n : ℕ) → up_of 1 (take n all) ≡ 3 → AllDialled start (take n all)
      made n is = dialled n (λ to pends zero_up. has_up (sym is ∙ zero_up))

  pub verdicts : AtEach (VerdictAt start) all
  unfolding Places
  verdicts =
      let answered : VerdictAt start (take 5 all) (decided 1 false (Dial x.target)) = (
        x.headers,
        refl,
        record {
          peer = peer_in x.seen;
          destination = x.seen.destination.ip;
          peer_is = refl;
          destination_is = refl;
          is = inl (sym may.dialled);
        },
      ) in
      places (VerdictAt start) [] _ (
      also tt (also tt (also tt (also tt (also (got 4 refl) (also answered (also (got 6 refl) (also (got 7 refl) (also (tt, refl) (
      also (got 9 refl) (also (got 10 refl) (also tt (also (got 12 refl) (also (got 13 refl) (also (got 14 refl) (
      also (got 15 refl) (also tt (also tt (also (got 18 refl) tt)))))))))))))))))))

  pub notes : AtEach (NotesAt start 2) all
  unfolding Places
  notes =
      let note_200 : IsAnswerNote 2 (take 8 all) 1 200 (note.Verdict 2 1 200 (peer_in x.seen) (target_named x.headers)) =
      record { peer = peer_in x.seen; target = target_named x.headers; peer_is = refl; due = refl; is = refl } in
      let note_end : IsEndNote 2 (take 17 all) 1 cause.Done (note.End 2 1 cause.Done 2 0) =
      record { due = refl; begun = []; began = inl refl; is = refl } in
      places (NotesAt start 2) [] _ (
      also (noted 0 (λ why is. refl)) (also tt (also (noted 2 (λ why is. refl)) (also tt (also (noted 4 (λ why is. refl)) (also tt (
      also (noted 6 (λ why is. absurd (cc))) (also (noted 7 (λ why is. absurd (cc))) (also note_200 (
      also (noted 9 (λ why is. absurd (cc))) (also (noted 10 (λ why is. absurd (cc))) (also tt (also (noted 12 on) (
      also (noted 13 on) (also (noted 14 on) (also (noted 15 on) (also tt (also note_end (also (noted 18 (λ why is. refl)) tt)))))))))))))))))))
    where
      on : {A : Type 0} (why : Cause)
          → ends_judged (judged (after_response start x.response) (peer_in x.seen) x.target) (lives x.target) ≡ life.ended why → A
      on why is = absurd (not_ended why is)

  -- BYTES

  none_up : (s : ℕ) → (1 == s) ≡ false → Each (λ p. up_went_in s p ≡ []) all
  unfolding Each
  none_up s is =
      also refl (also refl (also refl (also refl (also refl (also refl (also (off s _ _ is) (also (off s _ _ is) (also refl (
      also refl (also (off s _ _ is) (also refl (also (off s _ _ is) (also refl (also (off s _ _ is) (also (off s _ _ is) (
      also refl (also refl (also (off s _ _ is) tt))))))))))))))))))

  all_went : (s : ℕ) → stream_came s all ≡ up_went s all
  all_went =
      at_one (λ s. stream_came s all ≡ up_went s all) (append-nil (lent_of x.frame) ∙ may.bytes)
      (λ s is. ap (λ (b : Bool). cond b (lent_of x.frame) [] ++ []) is ∙ sym (none_in (up_went_in s) all (none_up s is)))

  pub ups : RelayUpLaw all
  unfolding Places
  ups =
      let shuts : ShutsBehind (take 14 all) 1 =
      record { accepted = refl; ended = refl; whole = sym (append-nil (lent_of x.frame) ∙ may.bytes) } in
      record {
        ups = λ s. record { rest = []; front = all_went s ∙ sym (append-nil (up_went s all)) };
        places = places MayGoUp [] _ (
            also tt (also tt (also tt (also tt (also tt (also tt (also tt (also tt (also tt (also tt (also refl (also tt (also refl (
            also tt (also shuts (also tt (also tt (also tt (also tt tt)))))))))))))))))));
      }

  pub downs : RelayDownLaw all
  unfolding Places
  downs =
      let finishes : EndsBehind (take 16 all) 1 =
      record { accepted = refl; ended = refl; frames = []; part = []; sent = refl; whole = refl } in
      record {
        downs = λ s. record { begun = []; began = inl refl; rest = up_came s all; front = refl };
        places = places MayEnd [] _ (
            also tt (also tt (also tt (also tt (also tt (also tt (also tt (also tt (also tt (also tt (also tt (also tt (also tt (
            also tt (also tt (also tt (also finishes (also tt (also tt tt)))))))))))))))))));
      }

  pub rings : RingLaw all
  rings s = omega (arith, ap (λ (xs : List ℕ). length xs) (all_went s))

pub life_may_go : LifeMayGo
life_may_go start x may = record {
  access = access start x may;
  ends = end_law start x may;
  closes = closes start x may;
  dials = dials start x may;
  verdicts = verdicts start x may;
  notes = notes start x may;
  ups = ups start x may;
  downs = downs start x may;
  rings = rings start x may;
}
