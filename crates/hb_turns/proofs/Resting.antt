-- Numbers that left the list, where nothing else moved.
use Rattle.std.proofs.Common.{◌≡◌, ◌⊎◌, ℕ, ◌+◌, Bool, true, false, ◌||◌, length, drop, List, [], Option, Some, None, refl, ap, sym, ◌∙◌, subst, inl, inr, arith, drop-drop}
use Rattle.std.proofs.lemmas.List.{drop_all}
use Rattle.hb_base.specs.declared.door.Door.{Door}
use Rattle.hb_base.specs.declared.door.Door.TheVariants.{Inbound, Outbound, Plain}
use Rattle.hb_ready.specs.Registry.{kept}
use Rattle.hb_ready.specs.Sight.{asked_at}
use Rattle.hb_ready.specs.declared.link.Link.{Link}
use Rattle.hb_turns.specs.Rested.{Drowses, FinishRests, IsCalm, IsDropped, LookRests, ReadRests, WriteRests}
use Rattle.hb_turns.specs.Settled.{Rests, RestsBy}
use Rattle.hb_turns.specs.Shown.{Shown}
use Rattle.hb_turns.specs.Woken.{IsQuiet}
use Rattle.hb_turns.specs.declared.run.Run.{Run}

drowses_both : (a b c : Option Link) → Drowses a b → Drowses b c → Drowses a c
drowses_both None None None first second = tt
drowses_both (Some a) (Some b) (Some c) first second = record {
  opens = second.opens ∙ first.opens;
  finish = λ sleeps. second.finish (first.finish sleeps);
  read = λ sleeps. second.read (first.read sleeps);
  write = λ sleeps. second.write (first.write sleeps);
  ended = second.ended ∙ first.ended;
  look = λ sleeps. second.look (first.look sleeps);
}
drowses_both None None (Some c) first second = absurd second
drowses_both None (Some b) c first second = absurd first
drowses_both (Some a) None c first second = absurd first
drowses_both (Some a) (Some b) None first second = absurd second

finish_drowses : (a b : Option Link) → Drowses a b → FinishRests a → FinishRests b
finish_drowses None None drowses rests = tt
finish_drowses (Some a) (Some b) drowses (inl opened) = inl (drowses.opens ∙ opened)
finish_drowses (Some a) (Some b) drowses (inr sleeps) = inr (drowses.finish sleeps)
finish_drowses None (Some b) drowses rests = absurd drowses
finish_drowses (Some a) None drowses rests = absurd drowses

read_drowses : (a b : Option Link) (l : ℕ) (s : Shown) → Drowses a b → ReadRests a l s → ReadRests b l s
read_drowses None None l s drowses rests = tt
read_drowses (Some a) (Some b) l s drowses (inl closed) = inl (drowses.opens ∙ closed)
read_drowses (Some a) (Some b) l s drowses (inr (inl sleeps)) = inr (inl (drowses.read sleeps))
read_drowses (Some a) (Some b) l s drowses (inr (inr none)) = inr (inr none)
read_drowses None (Some b) l s drowses rests = absurd drowses
read_drowses (Some a) None l s drowses rests = absurd drowses

look_drowses : (a b : Option Link) → Drowses a b → LookRests a → LookRests b
look_drowses None None drowses rests = tt
look_drowses (Some a) (Some b) drowses (inl closed) = inl (drowses.opens ∙ closed)
look_drowses (Some a) (Some b) drowses (inr (inl sends)) = inr (inl (drowses.ended ∙ sends))
look_drowses (Some a) (Some b) drowses (inr (inr sleeps)) = inr (inr (drowses.look sleeps))
look_drowses None (Some b) drowses rests = absurd drowses
look_drowses (Some a) None drowses rests = absurd drowses

-- a link rests where each of its calls has nothing to do, or sleeps
rests_of : (o : Option Link) (l : ℕ) (s : Shown) → FinishRests o → ReadRests o l s → LookRests o → WriteRests o l s → Rests o l s
rests_of None l s finish read look write = tt
rests_of (Some k) l s finish read look write = by k.is_open refl finish read look write
  where
    by : (b : Bool) → k.is_open ≡ b → (k.is_open ≡ true) ⊎ (k.finish_sleeps ≡ true)
        → (k.is_open ≡ false) ⊎ ((k.read_sleeps ≡ true) ⊎ (s.wants l ≡ 0))
        → (k.is_open ≡ false) ⊎ ((k.has_ended ≡ false) ⊎ (k.look_sleeps ≡ true))
        → (k.is_open ≡ false) ⊎ ((k.write_sleeps ≡ true) ⊎ (s.output l ≡ [])) → RestsBy b k l s
    by true is finish (inr read) (inr look) (inr write) = (read, write, look)
    by true is finish (inl closed) look write = absurd (let no : true ≡ false = sym is ∙ closed in cc)
    by true is finish (inr read) (inl closed) write = absurd (let no : true ≡ false = sym is ∙ closed in cc)
    by true is finish (inr read) (inr look) (inl closed) = absurd (let no : true ≡ false = sym is ∙ closed in cc)
    by false is (inr sleeps) read look write = sleeps
    by false is (inl opened) read look write = absurd (let no : false ≡ true = sym is ∙ opened in cc)

module _ {N : Type 0} where
  -- no number left the list
  pub dropped_none : (run : Run N) → IsDropped 0 run run
  dropped_none run = record { node = refl; listed = refl; doors = λ d is. is }

  -- one more did
  pub dropped_more : (n : ℕ) (a b c : Run N) → IsDropped n a b → IsDropped 1 b c → IsDropped (n + 1) a c
  dropped_more n a b c first second = record {
    node = second.node ∙ first.node;
    listed = second.listed ∙ ap (λ (xs : List ℕ). drop 1 xs) first.listed ∙ drop-drop 1 n (kept a.records.links).listed;
    doors = λ d is. second.doors d (first.doors d is);
  }

  pub dropped_so : (n m : ℕ) (a b : Run N) → n ≡ m → IsDropped n a b → IsDropped m a b
  dropped_so n m a b is dropped = subst (λ (k : ℕ). IsDropped k a b) is dropped

  -- no door is asked, and each number left the list: nothing is to be tried
  pub quiet_round : (a b c e : Run N) → asked_at a.records.asked Inbound ≡ false → IsCalm a b → asked_at b.records.asked Outbound ≡ false
      → IsCalm b c → asked_at c.records.asked Plain ≡ false → IsDropped (length (kept c.records.links).listed) c e → IsQuiet e.records
  quiet_round a b c e inbound first outbound second plain dropped =
      (dropped.listed ∙ drop_all (length (kept c.records.links).listed) (kept c.records.links).listed (omega arith), λ d. dropped.doors d (by d))
    where
      by : (d : Door) → asked_at c.records.asked d ≡ false
      by Inbound = second.doors Inbound (first.doors Inbound inbound)
      by Outbound = second.doors Outbound outbound
      by Plain = plain

  -- one call behind another by which nothing moved
  pub calm_both : (a b c : Run N) → IsCalm a b → IsCalm b c → IsCalm a c
  calm_both a b c first second = record {
    node = second.node ∙ first.node;
    listed = second.listed ∙ first.listed;
    doors = λ d is. second.doors d (first.doors d is);
    links = λ l. drowses_both _ _ _ (first.links l) (second.links l);
  }

  -- a link rests, as each of its calls told, behind the last of them
  pub rests_calmly : (shown : N → Shown) (l : ℕ) (a b c e f : Run N) → FinishRests ((kept a.records.links).links l) → IsCalm a b
      → ReadRests ((kept b.records.links).links l) l (shown b.node) → IsCalm b c → LookRests ((kept c.records.links).links l)
      → IsCalm c e → IsCalm e f
      → WriteRests ((kept f.records.links).links l) l (shown f.node) → Rests ((kept f.records.links).links l) l (shown f.node)
  rests_calmly shown l a b c e f finish first read second look third fourth write =
      let last = calm_both c e f third fourth in
      let later = calm_both b c f second last in
      rests_of ((kept f.records.links).links l) l (shown f.node)
      (finish_drowses _ _ (drowses_both _ _ _ (first.links l) (later.links l)) finish)
      (subst (λ (n : N). ReadRests ((kept f.records.links).links l) l (shown n)) (sym later.node)
      (read_drowses _ _ l (shown b.node) (later.links l) read))
      (look_drowses _ _ (last.links l) look) write

pub neither : (a b : Bool) → (a || b) ≡ false → (a ≡ false) × (b ≡ false)
neither false b is = (refl, is)
neither true b is = absurd cc
