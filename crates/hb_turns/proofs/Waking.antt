-- What a wait named is awake, and listed.
use Rattle.std.proofs.Common.{◌≡◌, ◌⊎◌, ℕ, ◌==◌, ◌||◌, Bool, true, false, if◌then◌else◌, List, [], ◌∷◌, ◌++◌, Option, Some, None, IfSome, refl, ap, sym, ◌∙◌, subst, inl, inr, ⊎_elim}
use Rattle.std.specs.Option.{option_map, is_some}
use Rattle.std.proofs.lemmas.Bool.{eqb-true}
use Rattle.hb_base.specs.declared.door.Door.{Door}
use Rattle.hb_base.specs.declared.door.Door.TheVariants.{Inbound, Outbound, Plain}
use Rattle.hb_world.specs.declared.entry.ReadyItem.{ReadyItem}
use Rattle.hb_world.specs.declared.entry.ReadyItem.TheVariants as item
use Rattle.hb_world.specs.declared.entry.Woken.{Woken}
use Rattle.hb_base.specs.declared.note.Note.{Note}
use Rattle.hb_world.specs.declared.entry.Entry.{Entry}
use Rattle.hb_world.specs.Calls.{with_entries}
use Rattle.std.proofs.lemmas.List.{append_assoc}
use Rattle.hb_world.specs.declared.entry.Entry.TheVariants as e
use Rattle.hb_world.specs.Trace.{same_door, is_waited}
use Rattle.hb_world.proofs.TraceLemmas.{any-grows}
use Rattle.hb_ready.specs.Kept.{Kept, Lists, has}
use Rattle.hb_ready.specs.Registry.{kept}
use Rattle.hb_ready.specs.Sight.{awake, asked_at, is_named, is_asked, is_item_of, is_item_at}
use Rattle.hb_ready.specs.declared.doors.Asked.{Asked}
use Rattle.hb_ready.specs.declared.link.Link.{Link}
use Rattle.hb_ready.specs.declared.links.Links.{Links}
use Rattle.hb_turns.specs.Settled.{Rests}
use Rattle.hb_turns.specs.Shown.{Shown, MayCome, Tells}
use Rattle.hb_turns.specs.Stands.{Stands, Tracks, Watched, WatchedBy, IsIdle}
use Rattle.hb_turns.specs.Woken.{Wakes, IsQuiet, Ticked}
use Rattle.hb_turns.specs.declared.run.Run.{Run}
use Rattle.hb_turns.proofs.Holding.{Comes, on, rested, stands-grows, unmoved}
use Rattle.hb_turns.specs.declared.run.Records.{Records}
use Rattle.hb_turns.proofs.Watching.{watched-links, lists-more, lists-it}

or-false : (b : Bool) → (b || false) ≡ b
or-false true = refl
or-false false = refl

plain : (o : Option Link) → o ≡ option_map (λ (k : Link). k) o
plain None = refl
plain (Some k) = refl

-- nothing was named
pub wakes-none : (r : Records) → Wakes r r []
wakes-none r = record { links = λ l. plain _; doors = λ d. refl; births = refl; wanting = refl; revoked = refl }

twice : (o : Option Link) (a b : Bool)
    → option_map (λ (k : Link). if b then awake k else k) (option_map (λ (k : Link). if a then awake k else k) o)
    ≡ option_map (λ (k : Link). if a || b then awake k else k) o
twice None a b = refl
twice (Some k) true true = refl
twice (Some k) true false = refl
twice (Some k) false b = refl

either : (a b c : Bool) → (b || (a || c)) ≡ ((a || b) || c)
either true true c = refl
either true false c = refl
either false true c = refl
either false false c = refl

-- one more was named
pub wakes-more : (old mid new : Records) (items : List ReadyItem) (x : ReadyItem) → Wakes old mid items → Wakes mid new (x ∷ [])
    → Wakes old new (items ++ x ∷ [])
wakes-more old mid new items x first last = record {
  links = λ l. last.links l
      ∙ ap (λ (o : Option Link). option_map (λ (k : Link). if is_item_of l x || false then awake k else k) o) (first.links l)
      ∙ twice ((kept old.links).links l) (is_named l items) (is_item_of l x || false)
      ∙ ap (λ (b : Bool). option_map (λ (k : Link). if is_named l items || b then awake k else k) ((kept old.links).links l))
      (or-false (is_item_of l x))
      ∙ ap (λ (b : Bool). option_map (λ (k : Link). if b then awake k else k) ((kept old.links).links l))
      (sym (any-grows (is_item_of l) items x));
  doors = λ d. last.doors d ∙ ap (λ (b : Bool). (is_item_at d x || false) || b) (first.doors d)
      ∙ either (is_asked d items) (is_item_at d x || false) (asked_at old.asked d)
      ∙ ap (λ (b : Bool). (is_asked d items || b) || asked_at old.asked d) (or-false (is_item_at d x))
      ∙ ap (λ (b : Bool). b || asked_at old.asked d) (sym (any-grows (is_item_at d) items x));
  births = last.births ∙ first.births;
  wanting = last.wanting ∙ first.wanting;
  revoked = last.revoked ∙ first.revoked;
}

-- a link was named
named : (b : Bool) (o : Option Link)
    → (if b then option_map awake o else o) ≡ option_map (λ (k : Link). if b || false then awake k else k) o
named true o = refl
named false o = plain o

pub wakes-link : (r : Records) (new : Links) (link : ℕ)
    → ((l : ℕ) → (kept new).links l ≡ (if link == l then option_map awake ((kept r.links).links l) else (kept r.links).links l))
    → Wakes r (record r { links = new }) (item.Link link ∷ [])
wakes-link r new link is = record {
  links = λ l. is l ∙ named (link == l) ((kept r.links).links l);
  doors = λ d. refl;
  births = refl;
  wanting = refl;
  revoked = refl;
}

opens : (b a : Bool) → (if b then true else a) ≡ ((b || false) || a)
opens true a = refl
opens false a = refl

-- a door was named
pub wakes-door : (r : Records) (new : Asked) (door : Door)
    → ((d : Door) → asked_at new d ≡ (if same_door door d then true else asked_at r.asked d))
    → Wakes r (record r { asked = new }) (item.Door door ∷ [])
wakes-door r new door is = record {
  links = λ l. plain _;
  doors = λ d. is d ∙ opens (same_door door d) (asked_at r.asked d);
  births = refl;
  wanting = refl;
  revoked = refl;
}

-- what is known follows the wait
pub wakes-tracks : (old new : Records) (items : List ReadyItem) (how : Woken) → Wakes old new items → Tracks old new (e.Wait items how)
wakes-tracks old new items how wakes =
    record { links = wakes.links; doors = wakes.doors; births_are = wakes.births; wanting_is = wakes.wanting; revoked_are = wakes.revoked }

-- a link that is named is listed
pub watched-woken : (k n : Kept) (s : Shown) (link : ℕ)
    → ((l : ℕ) → n.links l ≡ (if link == l then option_map awake (k.links l) else k.links l)) → Lists k n link
    → WatchedBy k s → WatchedBy n s
watched-woken k n s link is lists =
    watched-links k n s (λ l listed. lists-more k n link l lists listed)
    (λ l rests. by (link == l) l refl (k.links l) refl rests (is l))
  where
    by : (b : Bool) (l : ℕ) → (link == l) ≡ b → (o : Option Link) → k.links l ≡ o → Rests o l s
        → n.links l ≡ (if b then option_map awake o else o) → (has n.listed l ≡ true) ⊎ Rests (n.links l) l s
    by false l other o is rests now = inr (subst (λ (o : Option Link). Rests o l s) (sym now) rests)
    by true l same None is rests now = inr (subst (λ (o : Option Link). Rests o l s) (sym now) tt)
    by true l same (Some j) is rests now =
        let at = eqb-true link l same in
        inl (subst (λ (q : ℕ). has n.listed q ≡ true) at
        (lists-it k n link lists (ap (λ (q : ℕ). is_some (k.links q)) at ∙ ap is_some is)))

nothing : (xs : List ℕ) (l : ℕ) → xs ≡ [] → has xs l ≡ true → ⊥
nothing xs l none is = absurd (let no : false ≡ true = subst (λ (ys : List ℕ). has ys l ≡ true) none is in cc)

neither : (b : Bool) → b ≡ false → b ≡ true → ⊥
neither b none is = cc

-- nothing is due, and nothing is to be tried: a wait may come
pub wait_comes : {N : Type 0} (stands : List Note → N → List Entry → Type 0) (shown : N → Shown) (run : Run N) (items : List ReadyItem)
    (how : Woken)
    → IsIdle (shown run.node) → IsQuiet run.records → (trace : List Entry) → Stands stands shown run trace
    → Stands stands shown run trace × MayCome (shown run.node) trace (e.Wait items how) × Comes stands shown trace (e.Wait items how)
wait_comes stands shown run items how idle quiet trace s = (
  s,
  (s.going, idle.idle),
  record {
    numbers = tt;
    awake = tt;
    settled = λ waited. record {
      notes = s.matches.notes;
      node = run.node;
      stands_for = s.matches.node;
      going = s.going;
      idle = idle.idle;
      doors = λ d. sym (s.matches.obeys.doors d) ∙ quiet.1 d;
      links = λ l. subst (λ (o : Option Link). Rests o l (shown run.node)) (s.matches.obeys.links l)
          (⊎_elim (λ listed. absurd (nothing (kept run.records.links).listed l quiet.0 listed))
          (λ more. ⊎_elim (λ stirred. absurd (neither _ (idle.stirs l) stirred)) (λ rests. rests) more) (s.watched l));
    };
  },
)

-- nothing is due: a glance may come
pub glance_comes : {N : Type 0} (stands : List Note → N → List Entry → Type 0) (shown : N → Shown) (run : Run N) (items : List ReadyItem)
    (how : Woken) → is_waited how ≡ false
    → IsIdle (shown run.node) → (trace : List Entry) → Stands stands shown run trace
    → Stands stands shown run trace × MayCome (shown run.node) trace (e.Wait items how) × Comes stands shown trace (e.Wait items how)
glance_comes stands shown run items how is idle trace s = (
  s,
  (s.going, idle.idle),
  record { numbers = tt; awake = tt; settled = λ waited. absurd (neither _ is waited) },
)

-- a wait told a tick
pub wait_ticks : {N : Type 0} (stands : List Note → N → List Entry → Type 0) (shown : N → Shown) (old new : Run N) (items : List ReadyItem) (how : Woken)
    (before behind : Option (List Entry)) → behind ≡ with_entries (e.Wait items how ∷ e.Tick ∷ []) before → new.node ≡ old.node
    → new.taken ≡ old.taken
    → ((notes : List Note) (trace : List Entry) → MayCome (shown old.node) trace (e.Wait items how) → stands notes old.node trace
    → stands notes old.node (trace ++ e.Wait items how ∷ []))
    → Tracks old.records new.records (e.Wait items how)
    → (Watched shown old → WatchedBy (kept new.records.links) (shown old.node))
    → ((trace : List Entry) → Stands stands shown old trace → Stands stands shown old trace
    × MayCome (shown old.node) trace (e.Wait items how) × Comes stands shown trace (e.Wait items how))
    → IfSome before (Stands stands shown old) → IfSome behind (Ticked stands shown new)
wait_ticks stands shown old new items how before behind adds node keep rests tracks watch comes had =
    on (Stands stands shown old) (Ticked stands shown new) (e.Wait items how ∷ e.Tick ∷ []) before behind adds
    (λ trace s. record {
      before = trace ++ e.Wait items how ∷ [];
      trace_is = sym (append_assoc trace (e.Wait items how ∷ []) (e.Tick ∷ []));
      stands_for = rested stands shown old new (e.Wait items how) (Stands stands shown old) (Some trace)
          (Some (trace ++ e.Wait items how ∷ [])) refl node keep rests tracks watch comes s;
    }) had

-- the node is told of a tick
pub tick_told : {N : Type 0} (stands : List Note → N → List Entry → Type 0) (shown : N → Shown) (run : Run N) (node : N)
    → Tells stands shown e.Tick run.node node → (shown run.node).idle ≡ true → (trace : List Entry) → Ticked stands shown run trace
    → Stands stands shown (record run { node = node }) trace
tick_told stands shown run node tells idle trace t =
    let s = t.stands_for in
    subst (λ (xs : List Entry). Stands stands shown (record run { node = node }) xs) (sym t.trace_is)
    (stands-grows stands shown run (record run { node = node }) e.Tick t.before s (record { numbers = tt; awake = tt; settled = tt })
    (unmoved run.records e.Tick tt) (λ watched. watched) refl
    (tells s.matches.notes t.before s.matches.node (s.going, idle)))

both : (a b : Bool) → (a || b) ≡ false → (a ≡ false) × (b ≡ false)
both false b is = (refl, is)
both true b is = absurd cc

-- no door is asked
pub quiet_doors : (a : Asked) → ((a.inbound || a.outbound) || a.plain) ≡ false → (d : Door) → asked_at a d ≡ false
quiet_doors a none Inbound = (both a.inbound a.outbound (both (a.inbound || a.outbound) a.plain none).0).0
quiet_doors a none Outbound = (both a.inbound a.outbound (both (a.inbound || a.outbound) a.plain none).0).1
quiet_doors a none Plain = (both (a.inbound || a.outbound) a.plain none).1
