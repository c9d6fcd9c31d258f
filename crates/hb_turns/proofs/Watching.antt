-- Each link is on the list, or stirred, or rests.
use Rattle.std.proofs.Common.{◌≡◌, ◌⊎◌, ℕ, drop, ◌==◌, ◌||◌, Bool, true, false, if◌then◌else◌, List, [], ◌∷◌, ◌++◌, Option, Some, None, refl, ap, sym, ◌∙◌, subst, inl, inr, ⊎_elim}
use Rattle.std.specs.Option.{is_some, option_map}
use Rattle.std.proofs.lemmas.Bool.{eqb-true}
use Rattle.hb_base.specs.declared.cause.Cause.{Cause}
use Rattle.hb_world.specs.Trace.{lives}
use Rattle.hb_world.specs.declared.entry.Entry.{Entry}
use Rattle.hb_world.specs.declared.entry.Entry.TheVariants as e
use Rattle.hb_world.specs.declared.entry.Way.TheVariants as way
use Rattle.hb_ready.specs.Kept.{Kept, Follows, IsKept, Lists, has, rotated, link_behind}
use Rattle.hb_ready.specs.Sight.{known, sight, with_open, with_finish, with_read, with_write, with_look, with_end}
use Rattle.hb_ready.specs.declared.link.Link.{Link}
use Rattle.hb_ready.proofs.Lists.{has-more, has-end}
use Rattle.hb_turns.specs.May.{MayRead}
use Rattle.hb_turns.specs.Settled.{Rests, RestsBy}
use Rattle.hb_turns.specs.Shown.{Shown, Stirs, Hears, IsSame}
use Rattle.hb_turns.specs.Stands.{WatchedBy}

rests_by-stirs : (b : Bool) (k : Link) (l : ℕ) (trace : List Entry) (s t : Shown) → Stirs trace s t → lives l trace ≡ true → RestsBy b k l s
    → (t.stirs l ≡ true) ⊎ RestsBy b k l t
rests_by-stirs false k l trace s t stirs alive rests = inr rests
rests_by-stirs true k l trace s t stirs alive rests =
    ⊎_elim (λ stirred. inl stirred)
    (λ reads. ⊎_elim (λ stirred. inl stirred) (λ writes. inr (reads, writes, rests.2)) writes_now) reads_now
  where
    reads_now : (t.stirs l ≡ true) ⊎ ((k.read_sleeps ≡ true) ⊎ (t.wants l ≡ 0))
    reads_now =
        ⊎_elim (λ slept. inr (inl slept))
        (λ none. ⊎_elim (λ still. inr (inr still)) (λ stirred. inl stirred) (stirs.reads l alive none)) rests.0

    writes_now : (t.stirs l ≡ true) ⊎ ((k.write_sleeps ≡ true) ⊎ (t.output l ≡ []))
    writes_now =
        ⊎_elim (λ slept. inr (inl slept))
        (λ none. ⊎_elim (λ still. inr (inr still)) (λ stirred. inl stirred) (stirs.writes l alive none)) rests.1

rests-stirs : (o : Option Link) (l : ℕ) (trace : List Entry) (s t : Shown) → Stirs trace s t → lives l trace ≡ true → Rests o l s
    → (t.stirs l ≡ true) ⊎ Rests o l t
rests-stirs None l trace s t stirs alive rests = inr tt
rests-stirs (Some k) l trace s t stirs alive rests = rests_by-stirs k.is_open k l trace s t stirs alive rests

-- a link that doesn't live rests
dead_rests : (o : Option Link) (l : ℕ) (trace : List Entry) (s : Shown) → o ≡ known l trace → lives l trace ≡ false → Rests o l s
dead_rests o l trace s is dead =
    subst (λ (k : Option Link). Rests k l s)
    (sym (is ∙ ap (λ (b : Bool). if b then Some (sight l trace) else None) dead)) tt

alive_some : (o : Option Link) (l : ℕ) (trace : List Entry) → o ≡ known l trace → lives l trace ≡ true → is_some o ≡ true
alive_some o l trace is alive =
    ap is_some (is ∙ ap (λ (b : Bool). if b then Some (sight l trace) else None) alive)

-- the node was told of something, or gave an act
pub watched-stirs : (k : Kept) (trace : List Entry) (s t : Shown) → ((l : ℕ) → k.links l ≡ known l trace) → Stirs trace s t → WatchedBy k s
    → WatchedBy k t
watched-stirs k trace s t known_are stirs watched l =
    by (lives l trace) refl
  where
    by : (b : Bool) → lives l trace ≡ b → (has k.listed l ≡ true) ⊎ ((t.stirs l ≡ true) ⊎ Rests (k.links l) l t)
    by true alive =
        ⊎_elim (λ listed. inl listed)
        (λ more. inr (⊎_elim (λ stirred. inl (stirs.kept l alive stirred))
        (λ rests. rests-stirs (k.links l) l trace s t stirs alive rests) more)) (watched l)
    by false dead = inr (inr (dead_rests (k.links l) l trace t (known_are l) dead))

-- what rested still does
pub watched-links : (k n : Kept) (s : Shown) → ((l : ℕ) → has k.listed l ≡ true → has n.listed l ≡ true)
    → ((l : ℕ) → Rests (k.links l) l s → (has n.listed l ≡ true) ⊎ Rests (n.links l) l s) → WatchedBy k s → WatchedBy n s
watched-links k n s more rest watched l =
    ⊎_elim (λ listed. inl (more l listed))
    (λ others. ⊎_elim (λ stirred. inr (inl stirred))
    (λ rests. ⊎_elim (λ listed. inl listed) (λ still. inr (inr still)) (rest l rests)) others) (watched l)

same_list : (k n : Kept) → n.listed ≡ k.listed → (l : ℕ) → has k.listed l ≡ true → has n.listed l ≡ true
same_list k n is l listed = subst (λ (xs : List ℕ). has xs l ≡ true) (sym is) listed

-- a link was closed
pub watched-closed : (k n : Kept) (s : Shown) (link : ℕ) (cause : Cause) → Follows k n (e.Closed link cause)
    → n.listed ≡ k.listed → WatchedBy k s → WatchedBy n s
watched-closed k n s link cause follows listed =
    watched-links k n s (same_list k n listed)
    (λ l rests. inr (subst (λ (o : Option Link). Rests o l s) (sym (follows l)) (by (link == l) (k.links l) l rests)))
  where
    by : (b : Bool) (o : Option Link) (l : ℕ) → Rests o l s → Rests (if b then None else o) l s
    by true o l rests = tt
    by false o l rests = rests

-- a call moved nothing
by_way : (b : Bool) (k : Link) (l : ℕ) (s : Shown) → RestsBy k.is_open k l s
    → RestsBy k.is_open (if b then with_finish true k else k) l s
by_way false k l s rests = rests
by_way true k l s rests = by k.is_open rests
  where
    by : (o : Bool) → RestsBy o k l s
        → RestsBy o (with_finish true k) l s
    by true rests = rests
    by false rests = refl

pub rests-finish : (o : Option Link) (n l : ℕ) (s : Shown) → Rests o l s → Rests (link_behind l o (e.Balked (way.Finish n))) l s
rests-finish None n l s rests = tt
rests-finish (Some k) n l s rests = by (n == l)
  where
    by : (b : Bool) → Rests (Some (if b then with_finish true k else k)) l s
    by true = by_way true k l s rests
    by false = rests

pub rests-read : (o : Option Link) (n l : ℕ) (s : Shown) → Rests o l s → Rests (link_behind l o (e.Balked (way.Read n))) l s
rests-read None n l s rests = tt
rests-read (Some k) n l s rests = by (n == l)
  where
    slept : (o : Bool) → RestsBy o k l s
        → RestsBy o (with_read true k) l s
    slept true rests = (inl refl, rests.1, rests.2)
    slept false rests = rests

    by : (b : Bool) → Rests (Some (if b then with_read true k else k)) l s
    by true = slept k.is_open rests
    by false = rests

pub rests-write : (o : Option Link) (n l : ℕ) (s : Shown) → Rests o l s → Rests (link_behind l o (e.Balked (way.Write n))) l s
rests-write None n l s rests = tt
rests-write (Some k) n l s rests = by (n == l)
  where
    slept : (o : Bool) → RestsBy o k l s
        → RestsBy o (with_write true k) l s
    slept true rests = (rests.0, inl refl, rests.2)
    slept false rests = rests

    by : (b : Bool) → Rests (Some (if b then with_write true k else k)) l s
    by true = slept k.is_open rests
    by false = rests

pub rests-look : (o : Option Link) (n l : ℕ) (s : Shown) → Rests o l s → Rests (link_behind l o (e.Balked (way.Look n))) l s
rests-look None n l s rests = tt
rests-look (Some k) n l s rests = by (n == l)
  where
    slept : (o : Bool) → RestsBy o k l s
        → RestsBy o (with_look true k) l s
    slept true rests = (rests.0, rests.1, inr refl)
    slept false rests = rests

    by : (b : Bool) → Rests (Some (if b then with_look true k else k)) l s
    by true = slept k.is_open rests
    by false = rests

-- a link that was awake for reading ended
rests-ended : (o : Option Link) (n l : ℕ) (s : Shown) → (n ≡ l → MayRead o) → Rests o l s → Rests (link_behind l o (e.Ended n)) l s
rests-ended None n l s may rests = tt
rests-ended (Some k) n l s may rests = by (n == l) refl
  where
    slept : (o : Bool) → k.read_sleeps ≡ false → RestsBy o k l s → RestsBy o (with_end k) l s
    slept true awake rests =
        (⊎_elim (λ sleeps. absurd (let no : false ≡ true = sym awake ∙ sleeps in cc)) (λ none. inr none) rests.0, rests.1, inr refl)
    slept false awake rests = rests

    by : (b : Bool) → (n == l) ≡ b → Rests (Some (if b then with_end k else k)) l s
    by true same = slept k.is_open (may (eqb-true n l same)).1 rests
    by false other = rests

pub watched-finish : (k n : Kept) (s : Shown) (link : ℕ) → Follows k n (e.Balked (way.Finish link)) → n.listed ≡ k.listed
    → WatchedBy k s → WatchedBy n s
watched-finish k n s link follows listed =
    watched-links k n s (same_list k n listed)
    (λ l rests. inr (subst (λ (o : Option Link). Rests o l s) (sym (follows l)) (rests-finish (k.links l) link l s rests)))

pub watched-read : (k n : Kept) (s : Shown) (link : ℕ) → Follows k n (e.Balked (way.Read link)) → n.listed ≡ k.listed
    → WatchedBy k s → WatchedBy n s
watched-read k n s link follows listed =
    watched-links k n s (same_list k n listed)
    (λ l rests. inr (subst (λ (o : Option Link). Rests o l s) (sym (follows l)) (rests-read (k.links l) link l s rests)))

pub watched-write : (k n : Kept) (s : Shown) (link : ℕ) → Follows k n (e.Balked (way.Write link)) → n.listed ≡ k.listed
    → WatchedBy k s → WatchedBy n s
watched-write k n s link follows listed =
    watched-links k n s (same_list k n listed)
    (λ l rests. inr (subst (λ (o : Option Link). Rests o l s) (sym (follows l)) (rests-write (k.links l) link l s rests)))

pub watched-look : (k n : Kept) (s : Shown) (link : ℕ) → Follows k n (e.Balked (way.Look link)) → n.listed ≡ k.listed
    → WatchedBy k s → WatchedBy n s
watched-look k n s link follows listed =
    watched-links k n s (same_list k n listed)
    (λ l rests. inr (subst (λ (o : Option Link). Rests o l s) (sym (follows l)) (rests-look (k.links l) link l s rests)))

pub watched-ended : (k n : Kept) (s : Shown) (link : ℕ) → MayRead (k.links link) → Follows k n (e.Ended link) → n.listed ≡ k.listed
    → WatchedBy k s → WatchedBy n s
watched-ended k n s link may follows listed =
    watched-links k n s (same_list k n listed)
    (λ l rests. inr (subst (λ (o : Option Link). Rests o l s) (sym (follows l))
    (rests-ended (k.links l) link l s (λ is. subst (λ (j : ℕ). MayRead (k.links j)) is may) rests)))

-- a number is listed
pub lists-more : (k n : Kept) (link l : ℕ) → Lists k n link → has k.listed l ≡ true → has n.listed l ≡ true
lists-more k n link l (inl is) listed =
    subst (λ (xs : List ℕ). has xs l ≡ true) (sym is) (has-more k.listed link l listed)
lists-more k n link l (inr is) listed = subst (λ (xs : List ℕ). has xs l ≡ true) (sym is.0) listed

pub lists-it : (k n : Kept) (link : ℕ) → Lists k n link → is_some (k.links link) ≡ true → has n.listed link ≡ true
lists-it k n link (inl is) lives = subst (λ (xs : List ℕ). has xs link ≡ true) (sym is) (has-end k.listed link)
lists-it k n link (inr is) lives = subst (λ (xs : List ℕ). has xs link ≡ true) (sym is.0) (is.1 lives)

rests_by-same : (b : Bool) (k : Link) (l : ℕ) (s t : Shown) → IsSame s t → RestsBy b k l s → RestsBy b k l t
rests_by-same true k l s t same rests = (
  ⊎_elim (λ slept. inl slept) (λ none. inr (same.wants l ∙ none)) rests.0,
  ⊎_elim (λ slept. inl slept) (λ none. inr (same.output l ∙ none)) rests.1,
  rests.2,
)
rests_by-same false k l s t same rests = rests

pub rests-same : (o : Option Link) (l : ℕ) (s t : Shown) → IsSame s t → Rests o l s → Rests o l t
rests-same None l s t same rests = tt
rests-same (Some k) l s t same rests = rests_by-same k.is_open k l s t same rests

-- a link that stirred was told, and listed
pub watched-heard : (k n : Kept) (trace : List Entry) (s t : Shown) (link : ℕ) → ((l : ℕ) → k.links l ≡ known l trace)
    → Hears trace (Some link) s t → IsSame s t → ((l : ℕ) → n.links l ≡ k.links l) → Lists k n link → WatchedBy k s → WatchedBy n t
watched-heard k n trace s t link known_are hears same links lists watched l =
    by (lives l trace) refl
  where
    here : link ≡ l → lives l trace ≡ true → has n.listed l ≡ true
    here at alive =
        subst (λ (j : ℕ). has n.listed j ≡ true) at
        (lists-it k n link lists
        (subst (λ (j : ℕ). is_some (k.links j) ≡ true) (sym at) (alive_some (k.links l) l trace (known_are l) alive)))

    by : (b : Bool) → lives l trace ≡ b → (has n.listed l ≡ true) ⊎ ((t.stirs l ≡ true) ⊎ Rests (n.links l) l t)
    by true alive =
        ⊎_elim (λ listed. inl (lists-more k n link l lists listed))
        (λ more. ⊎_elim
        (λ stirred. ⊎_elim (λ still. inr (inl still)) (λ told. inl (here (let same_link : link ≡ l = cc in same_link) alive))
        (hears.kept l alive stirred))
        (λ rests. inr (inr (subst (λ (o : Option Link). Rests o l t) (sym (links l)) (rests-same (k.links l) l s t same rests)))) more)
        (watched l)
    by false dead = inr (inr (dead_rests (n.links l) l trace t (links l ∙ known_are l) dead))

-- no link that lives stirred
pub watched-unheard : (k : Kept) (trace : List Entry) (s t : Shown) → ((l : ℕ) → k.links l ≡ known l trace) → Hears trace None s t
    → IsSame s t → WatchedBy k s → WatchedBy k t
watched-unheard k trace s t known_are hears same watched l =
    by (lives l trace) refl
  where
    by : (b : Bool) → lives l trace ≡ b → (has k.listed l ≡ true) ⊎ ((t.stirs l ≡ true) ⊎ Rests (k.links l) l t)
    by true alive =
        ⊎_elim (λ listed. inl listed)
        (λ more. ⊎_elim
        (λ stirred. ⊎_elim (λ still. inr (inl still)) (λ told. absurd cc) (hears.kept l alive stirred))
        (λ rests. inr (inr (rests-same (k.links l) l s t same rests))) more) (watched l)
    by false dead = inr (inr (dead_rests (k.links l) l trace t (known_are l) dead))

-- a note was taken
pub watched-noted : (k : Kept) (s t : Shown) → IsSame s t → ((l : ℕ) → t.stirs l ≡ s.stirs l) → WatchedBy k s → WatchedBy k t
watched-noted k s t same stirs watched l =
    ⊎_elim (λ listed. inl listed)
    (λ more. inr (⊎_elim (λ stirred. inl (stirs l ∙ stirred)) (λ rests. inr (rests-same (k.links l) l s t same rests)) more)) (watched l)

-- room was taken for a birth
pub watched-kept : (k n : Kept) (s : Shown) → IsKept k n → WatchedBy k s → WatchedBy n s
watched-kept k n s is =
    watched-links k n s (same_list k n is.listed)
    (λ l rests. inr (subst (λ (o : Option Link). Rests o l s) (sym (is.links l)) rests))

-- a link is open, and listed
pub watched-opened : (k n : Kept) (s : Shown) (link : ℕ) → Follows k n (e.Opened link) → Lists k n link → WatchedBy k s → WatchedBy n s
watched-opened k n s link follows lists =
    watched-links k n s (λ l listed. lists-more k n link l lists listed)
    (λ l rests. by (link == l) l refl (k.links l) refl rests (follows l))
  where
    by : (b : Bool) (l : ℕ) → (link == l) ≡ b → (o : Option Link) → k.links l ≡ o → Rests o l s
        → n.links l ≡ option_map (λ (j : Link). if b then with_open j else j) o
        → (has n.listed l ≡ true) ⊎ Rests (n.links l) l s
    by b l same None is rests now = inr (subst (λ (o : Option Link). Rests o l s) (sym now) tt)
    by false l other (Some j) is rests now = inr (subst (λ (o : Option Link). Rests o l s) (sym now) rests)
    by true l same (Some j) is rests now =
        let at = eqb-true link l same in
        inl (subst (λ (q : ℕ). has n.listed q ≡ true) at
        (lists-it k n link lists (ap (λ (q : ℕ). is_some (k.links q)) at ∙ ap is_some is)))

turned : (xs : List ℕ) (l : ℕ) → has xs l ≡ true → has (rotated xs) l ≡ true
turned [] l is = is
turned (x ∷ xs) l is = by (x == l) refl is
  where
    by : (b : Bool) → (x == l) ≡ b → (b || has xs l) ≡ true → has (xs ++ x ∷ []) l ≡ true
    by true same is = subst (λ (q : ℕ). has (xs ++ x ∷ []) q ≡ true) (eqb-true x l same) (has-end xs x)
    by false other is = has-more xs x l is

same_rests : (k n : Kept) (s : Shown) → ((l : ℕ) → n.links l ≡ k.links l) → (l : ℕ) → Rests (k.links l) l s
    → (has n.listed l ≡ true) ⊎ Rests (n.links l) l s
same_rests k n s same l rests = inr (subst (λ (o : Option Link). Rests o l s) (sym (same l)) rests)

-- the number in front goes to the end
pub watched-rotated : (k n : Kept) (s : Shown) → ((l : ℕ) → n.links l ≡ k.links l) → n.listed ≡ rotated k.listed
    → WatchedBy k s → WatchedBy n s
watched-rotated k n s same listed =
    watched-links k n s (λ l is. subst (λ (xs : List ℕ). has xs l ≡ true) (sym listed) (turned k.listed l is)) (same_rests k n s same)

-- the number in front leaves the list, since its link rests
pub watched-popped : (k n : Kept) (s : Shown) (link : ℕ) → ((l : ℕ) → n.links l ≡ k.links l) → k.listed ≡ link ∷ drop 1 k.listed
    → n.listed ≡ drop 1 k.listed → Rests (k.links link) link s → WatchedBy k s → WatchedBy n s
watched-popped k n s link same front rest rests watched l =
    ⊎_elim (λ listed. by (link == l) refl (subst (λ (xs : List ℕ). has xs l ≡ true) front listed))
    (λ more. ⊎_elim (λ stirred. inr (inl stirred)) (λ still. inr (inr (subst (λ (o : Option Link). Rests o l s) (sym (same l)) still))) more)
    (watched l)
  where
    by : (b : Bool) → (link == l) ≡ b → (b || has (drop 1 k.listed) l) ≡ true
        → (has n.listed l ≡ true) ⊎ ((s.stirs l ≡ true) ⊎ Rests (n.links l) l s)
    by false other is = inl (subst (λ (xs : List ℕ). has xs l ≡ true) (sym rest) is)
    by true at is =
        inr (inr (subst (λ (o : Option Link). Rests o l s) (sym (same l))
        (subst (λ (q : ℕ). Rests (k.links q) q s) (eqb-true link l at) rests)))
