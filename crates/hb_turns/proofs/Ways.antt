-- What may come of a call on a link whose way is awake.
use Rattle.std.proofs.Common.{◌≡◌, ◌⊎◌, ◌≤◌, ◌<◌, ℕ, ◌==◌, Bool, true, false, if◌then◌else◌, List, length, take, Option, Some, None, refl, ap, sym, ◌∙◌, subst, inl, inr, arith, length-append}
use Rattle.std.specs.Option.{option_map}
use Rattle.std.proofs.lemmas.Bool.{eqb-true}
use Rattle.std.proofs.lemmas.List.{length-take, take-append-le}
use Rattle.hb_world.specs.Trace.{lives}
use Rattle.hb_base.specs.declared.note.Note.{Note}
use Rattle.hb_world.specs.declared.entry.Entry.{Entry}
use Rattle.hb_world.specs.declared.entry.Entry.TheVariants as e
use Rattle.hb_world.specs.declared.entry.Way.TheVariants as way
use Rattle.hb_ready.specs.Awake.{BreaksAwake, LooksAwake}
use Rattle.hb_ready.specs.Registry.{kept}
use Rattle.hb_ready.specs.Sight.{known, is_open, asleep, with_read, with_write}
use Rattle.hb_ready.specs.declared.link.Link.{Link}
use Rattle.hb_turns.specs.May.{MayFinish, MayRead, MayWrite, MayLook}
use Rattle.hb_turns.specs.Shown.{Shown, IsFront, MayCome}
use Rattle.hb_turns.specs.Stands.{Stands, Tracks}
use Rattle.hb_turns.specs.declared.run.Records.{Records}
use Rattle.hb_turns.specs.declared.run.Run.{Run}
use Rattle.hb_turns.proofs.Holding.{Comes, known_lives}

finish_facts : (l : ℕ) (trace : List Entry) (o : Option Link) → o ≡ known l trace → MayFinish o
    → (lives l trace ≡ true) × (is_open l trace ≡ false) × (asleep (way.Finish l) trace ≡ false)
finish_facts l trace None is may = absurd may
finish_facts l trace (Some k) is may =
    let it = known_lives l trace k (sym is) in
    (it.0, ap (λ (k : Link). k.is_open) it.1 ∙ may.0, ap (λ (k : Link). k.finish_sleeps) it.1 ∙ may.1)

read_facts : (l : ℕ) (trace : List Entry) (o : Option Link) → o ≡ known l trace → MayRead o
    → (lives l trace ≡ true) × (is_open l trace ≡ true) × (asleep (way.Read l) trace ≡ false)
read_facts l trace None is may = absurd may
read_facts l trace (Some k) is may =
    let it = known_lives l trace k (sym is) in
    (it.0, ap (λ (k : Link). k.is_open) it.1 ∙ may.0, ap (λ (k : Link). k.read_sleeps) it.1 ∙ may.1)

write_facts : (l : ℕ) (trace : List Entry) (o : Option Link) → o ≡ known l trace → MayWrite o
    → (lives l trace ≡ true) × (is_open l trace ≡ true) × (asleep (way.Write l) trace ≡ false)
write_facts l trace None is may = absurd may
write_facts l trace (Some k) is may =
    let it = known_lives l trace k (sym is) in
    (it.0, ap (λ (k : Link). k.is_open) it.1 ∙ may.0, ap (λ (k : Link). k.write_sleeps) it.1 ∙ may.1)

look_facts : (l : ℕ) (trace : List Entry) (o : Option Link) → o ≡ known l trace → MayLook o
    → (lives l trace ≡ true) × (is_open l trace ≡ true) × LooksAwake l trace
look_facts l trace None is may = absurd may
look_facts l trace (Some k) is may =
    let it = known_lives l trace k (sym is) in (
      it.0,
      ap (λ (k : Link). k.is_open) it.1 ∙ may.0,
      (ap (λ (k : Link). k.has_ended) it.1 ∙ may.1, ap (λ (k : Link). k.look_sleeps) it.1 ∙ may.2),
    )

-- an entry comes behind a trace that the run stands for
abbrev pub ComesTo : {N : Type 0} → (List Note → N → List Entry → Type 0) → (N → Shown) → Run N → Entry → Type 0
ComesTo stands shown run x = (trace : List Entry) → Stands stands shown run trace
    → Stands stands shown run trace × MayCome (shown run.node) trace x × Comes stands shown trace x

module _ {N : Type 0} (stands : List Note → N → List Entry → Type 0) (shown : N → Shown) (run : Run N) (l : ℕ)
    (idle : (shown run.node).idle ≡ true) where
  module _ (may : MayFinish ((kept run.records.links).links l)) where
    pub opened_comes : ComesTo stands shown run (e.Opened l)
    opened_comes trace s =
        let it = finish_facts l trace _ (s.matches.obeys.links l) may in
        (s, ((s.going, idle), (it.0, it.1)), record { numbers = tt; awake = it.2; settled = tt })

    pub finish_balks : ComesTo stands shown run (e.Balked (way.Finish l))
    finish_balks trace s =
        let it = finish_facts l trace _ (s.matches.obeys.links l) may in
        (s, ((s.going, idle), (it.0, it.1)), record { numbers = tt; awake = it.2; settled = tt })

    pub finish_breaks : ComesTo stands shown run (e.Broke l)
    finish_breaks trace s =
        let it = finish_facts l trace _ (s.matches.obeys.links l) may in (
          s,
          ((s.going, inl idle), it.0),
          record {
            numbers = tt;
            awake = subst (λ (b : Bool). BreaksAwake b l trace) (sym it.1) it.2;
            settled = tt;
          },
        )

  module _ (may : MayRead ((kept run.records.links).links l)) where
    pub came_comes : (bytes : List ℕ) → 0 < length bytes → length bytes ≤ (shown run.node).wants l
        → ComesTo stands shown run (e.Came l bytes)
    came_comes bytes some few trace s =
        let it = read_facts l trace _ (s.matches.obeys.links l) may in
        (s, ((s.going, idle), (it.0, it.1), some, few), record { numbers = tt; awake = it.2; settled = tt })

    pub ended_comes : 0 < (shown run.node).wants l → ComesTo stands shown run (e.Ended l)
    ended_comes some trace s =
        let it = read_facts l trace _ (s.matches.obeys.links l) may in
        (s, ((s.going, idle), (it.0, it.1), some), record { numbers = tt; awake = it.2; settled = tt })

    pub read_balks : 0 < (shown run.node).wants l → ComesTo stands shown run (e.Balked (way.Read l))
    read_balks some trace s =
        let it = read_facts l trace _ (s.matches.obeys.links l) may in
        (s, ((s.going, idle), (it.0, it.1), some), record { numbers = tt; awake = it.2; settled = tt })

    pub read_breaks : ComesTo stands shown run (e.Broke l)
    read_breaks trace s =
        let it = read_facts l trace _ (s.matches.obeys.links l) may in (
          s,
          ((s.going, inl idle), it.0),
          record {
            numbers = tt;
            awake = subst (λ (b : Bool). BreaksAwake b l trace) (sym it.1) (inl it.2);
            settled = tt;
          },
        )

  module _ (may : MayLook ((kept run.records.links).links l)) where
    pub look_balks : ComesTo stands shown run (e.Balked (way.Look l))
    look_balks trace s =
        let it = look_facts l trace _ (s.matches.obeys.links l) may in
        (s, ((s.going, idle), (it.0, it.1)), record { numbers = tt; awake = it.2; settled = tt })

    pub look_breaks : ComesTo stands shown run (e.Broke l)
    look_breaks trace s =
        let it = look_facts l trace _ (s.matches.obeys.links l) may in (
          s,
          ((s.going, inl idle), it.0),
          record {
            numbers = tt;
            awake = subst (λ (b : Bool). BreaksAwake b l trace) (sym it.1) (inr (inr it.2));
            settled = tt;
          },
        )

-- where no act is due, or the link's last words go before
module _ {N : Type 0} (stands : List Note → N → List Entry → Type 0) (shown : N → Shown) (run : Run N) (l : ℕ)
    (first : ((shown run.node).idle ≡ true) ⊎ ((shown run.node).last_words l ≡ true))
    (may : MayWrite ((kept run.records.links).links l)) where
  pub went_comes : (n : ℕ) → 0 < n → n ≤ length ((shown run.node).output l)
      → ComesTo stands shown run (e.Went l (take n ((shown run.node).output l)))
  went_comes n some few trace s =
      let it = write_facts l trace _ (s.matches.obeys.links l) may in
      (s, ((s.going, first), (it.0, it.1), n, some, few, refl), record { numbers = tt; awake = it.2; settled = tt })

  pub write_balks : 0 < length ((shown run.node).output l) → ComesTo stands shown run (e.Balked (way.Write l))
  write_balks some trace s =
      let it = write_facts l trace _ (s.matches.obeys.links l) may in
      (s, ((s.going, first), (it.0, it.1), some), record { numbers = tt; awake = it.2; settled = tt })

  pub write_breaks : ComesTo stands shown run (e.Broke l)
  write_breaks trace s =
      let it = write_facts l trace _ (s.matches.obeys.links l) may in (
        s,
        ((s.going, first), it.0),
        record {
          numbers = tt;
          awake = subst (λ (b : Bool). BreaksAwake b l trace) (sym it.1) (inr (inl it.2));
          settled = tt;
        },
      )

-- a way that was awake is so behind a call that moved something
read_awake : (n q : ℕ) (b : Bool) → (n == q) ≡ b → (o : Option Link) → (n ≡ q → MayRead o)
    → o ≡ option_map (λ (k : Link). if b then with_read false k else k) o
read_awake n q b same None may = refl
read_awake n q false other (Some k) may = refl
read_awake n q true same (Some k) may =
    ap (λ (b : Bool). Some (with_read b k)) (may (eqb-true n q same)).1

write_awake : (n q : ℕ) (b : Bool) → (n == q) ≡ b → (o : Option Link) → (n ≡ q → MayWrite o)
    → o ≡ option_map (λ (k : Link). if b then with_write false k else k) o
write_awake n q b same None may = refl
write_awake n q false other (Some k) may = refl
write_awake n q true same (Some k) may =
    ap (λ (b : Bool). Some (with_write b k)) (may (eqb-true n q same)).1

pub came_tracks : (r : Records) (l : ℕ) (bytes : List ℕ) → MayRead ((kept r.links).links l) → Tracks r r (e.Came l bytes)
came_tracks r l bytes may = record {
  links = λ q. read_awake l q (l == q) refl ((kept r.links).links q)
      (λ is. subst (λ (j : ℕ). MayRead ((kept r.links).links j)) is may);
  doors = λ d. refl;
  births_are = refl;
  wanting_is = refl;
  revoked_are = refl;
}

pub went_tracks : (r : Records) (l : ℕ) (bytes : List ℕ) → MayWrite ((kept r.links).links l) → Tracks r r (e.Went l bytes)
went_tracks r l bytes may = record {
  links = λ q. write_awake l q (l == q) refl ((kept r.links).links q)
      (λ is. subst (λ (j : ℕ). MayWrite ((kept r.links).links j)) is may);
  doors = λ d. refl;
  births_are = refl;
  wanting_is = refl;
  revoked_are = refl;
}

-- so many bytes of a read stand at the buffer's front
pub got_some : (n most : ℕ) (items : List ℕ) → 0 < n → n ≤ length (take most items) → 0 < length (take n items)
got_some n most items some few =
    let all = length-take n items in let part = length-take most items in omega arith

pub got_few : (n most w : ℕ) (items : List ℕ) → n ≤ length (take most items) → most ≤ w → length (take n items) ≤ w
got_few n most w items few within =
    let all = length-take n items in let part = length-take most items in omega arith

-- so many bytes of the part in front are as many of the whole
pub front_taken : (n : ℕ) (part output : List ℕ) → IsFront part output → n ≤ length part → take n part ≡ take n output
front_taken n part output is few =
    sym (ap (λ (bs : List ℕ). take n bs) is.front ∙ take-append-le n part is.rest few)

pub front_fits : (n : ℕ) (part output : List ℕ) → IsFront part output → n ≤ length part → n ≤ length output
front_fits n part output is few =
    subst (λ (bs : List ℕ). n ≤ length bs) (sym is.front)
    (rw (length-append part is.rest) (omega (arith, few)))
