-- A map before the changes that were noted.
use Rattle.std.proofs.Common.{◌≡◌, ℕ, Bool, true, false, cond, List, [], ◌∷◌, Option, Some, None, is_some, refl, ap, sym, ◌∙◌}
use Rattle.std.specs.Prelude.{◌||◌, ◌&&◌}
use Rattle.std.specs.Ordering.{eq_by_cmp, is_eq}
use Rattle.std.specs.Cmp.{tied_itself}
use Rattle.std.specs.Cmp.Lexicographic.{nat_list_cmp_total}
use Rattle.std.specs.FinMap.{find, entries, get, insert, remove, get-entries, get-insert, get-remove, same_map}
use Rattle.hb_index.specs.Named.{Named}
use Rattle.hb_index.specs.Kept.{note, note_removal, put_back, all_put_back, undone}
use Rattle.hb_index.proofs.Entries.{by_bytes, differ, gone_already, put_again, put_and_gone}

pub is_there : {X : Type 0} (o : Option X) → is_some o ≡ true → (x : X) × (o ≡ Some x)
is_there None h = absurd cc
is_there (Some x) h = (x, refl)

none_there : {X : Type 0} (o : Option X) → is_some o ≡ false → o ≡ None
none_there None h = refl
none_there (Some x) h = absurd cc

pub never : false ≡ true → ⊥
never e = absurd cc

pub or_left : (a b : Bool) → a ≡ true → (a || b) ≡ true
or_left true b h = refl
or_left false b h = absurd cc

pub or_right : (a b : Bool) → b ≡ true → (a || b) ≡ true
or_right true b h = refl
or_right false b h = h

pub and_left : (a b : Bool) → (a && b) ≡ true → a ≡ true
and_left true b h = refl
and_left false b h = h

pub and_right : (a b : Bool) → (a && b) ≡ true → b ≡ true
and_right true b h = h
and_right false b h = absurd cc

pub both : (a b : Bool) → a ≡ true → b ≡ true → (a && b) ≡ true
both true b p q = q
both false b p q = absurd cc

module _ {T : Type 0} where
  -- what stands under a name before: what was noted of it, or what stands there now
  abbrev pub noted : Option (Option T) → Option T → Option T
  noted None stands = stands
  noted (Some stood) stands = stood

  get_put_back : (m : Named T) (name : List ℕ) (stood : Option T) (q : List ℕ)
      → get (put_back m name stood) q ≡ cond (eq_by_cmp by_bytes q name) stood (get m q)
  get_put_back m name None q = get-remove nat_list_cmp_total m name q
  get_put_back m name (Some v) q = get-insert nat_list_cmp_total m name v q

  get_all : (m : Named T) (es : List (List ℕ × Option T)) (q : List ℕ) → get (all_put_back m es) q ≡ noted (find by_bytes q es) (get m q)
  get_all m [] q = refl
  get_all m (e ∷ es) q =
      get_put_back (all_put_back m es) e.0 e.1 q
      ∙ elim (eq_by_cmp by_bytes q e.0) as (λ b.
      cond b e.1 (get (all_put_back m es) q) ≡ noted (cond b (Some e.1) (find by_bytes q es)) (get m q)) [
        | true ↦ refl
        | false ↦ get_all m es q
      ]

  get_undone : (m : Named T) (past : Named (Option T)) (q : List ℕ) → get (undone m past) q ≡ noted (get past q) (get m q)
  unfolding undone
  get_undone m past q = get_all m (entries past) q ∙ ap (λ o. noted o (get m q)) (sym (get-entries past q))

  -- nothing was noted of a name
  pub unchanged : (m : Named T) (past : Named (Option T)) (q : List ℕ) → is_some (get past q) ≡ false → get (undone m past) q ≡ get m q
  unchanged m past q h =
      get_undone m past q ∙ elim (get past q) as (λ o. is_some o ≡ false → noted o (get m q) ≡ get m q) [
        | None ↦ λ _. refl
        | Some x ↦ λ no. absurd cc
      ] h

  pub changed : (m : Named T) (past : Named (Option T)) (q : List ℕ) (stood : Option T) → get past q ≡ Some stood
      → get (undone m past) q ≡ stood
  changed m past q stood is = get_undone m past q ∙ ap (λ o. noted o (get m q)) is

  -- a note in two steps, and one that is taken back
  pub insert_twice : (m : Named T) (name : List ℕ) (v w : T) → insert (insert m name v) name w ≡ insert m name w
  insert_twice m name v w = same_map nat_list_cmp_total differ _ _ (λ q.
      get-insert nat_list_cmp_total (insert m name v) name w q
      ∙ ap (cond (eq_by_cmp by_bytes q name) (Some w)) (get-insert nat_list_cmp_total m name v q)
      ∙ elim (eq_by_cmp by_bytes q name) as (λ b. cond b (Some w) (cond b (Some v) (get m q)) ≡ cond b (Some w) (get m q)) [
        | true ↦ refl
        | false ↦ refl
      ] ∙ sym (get-insert nat_list_cmp_total m name w q))

  pub has_inserted : (m : Named T) (name : List ℕ) (v : T) → is_some (get (insert m name v) name) ≡ true
  has_inserted m name v =
      ap is_some (get-insert nat_list_cmp_total m name v name)
      ∙ ap (λ o. is_some (cond (is_eq o) (Some v) (get m name))) (tied_itself nat_list_cmp_total name)

  pub remove_absent : (m : Named T) (name : List ℕ) → is_some (get m name) ≡ false → remove m name ≡ m
  remove_absent m name h = gone_already nat_list_cmp_total differ m name (none_there (get m name) h)

  put_and_back : (m : Named T) (name : List ℕ) (v : T) → put_back (insert m name v) name (get m name) ≡ m
  put_and_back m name v =
      elim (get m name) as (λ o. get m name ≡ o → put_back (insert m name v) name o ≡ m) [
        | None ↦ λ h. put_and_gone nat_list_cmp_total differ m name v ∙ gone_already nat_list_cmp_total differ m name h
        | Some w ↦ λ h. insert_twice m name v w ∙ put_again nat_list_cmp_total differ m name w h
      ] refl

  -- a value was put, and then what stood before it was put back
  pub back_again : (m n o : Named T) (name : List ℕ) (v : T) (stood back : Option T)
      → n ≡ insert m name v → stood ≡ get m name → back ≡ stood → o ≡ put_back n name back → o ≡ m
  back_again m n o name v stood back put is came taken =
      taken ∙ ap (λ x. put_back x name back) put ∙ ap (put_back (insert m name v) name) (came ∙ is) ∙ put_and_back m name v

  pub note_held : (past : Named (Option T)) (name : List ℕ) (stood : Option T) → is_some stood ≡ true
      → note_removal past name stood ≡ note past name stood
  note_held past name None h = absurd cc
  note_held past name (Some v) h = refl

-- a first note, one in two steps, and a later one that is taken back for the first
module _ {T : Type 0} (past : Named (Option T)) (name : List ℕ) (stood : Option T) where
  pub note_new : is_some (get past name) ≡ false → insert past name stood ≡ note past name stood
  note_new h = sym (ap (λ b. cond b past (insert past name stood)) h)

  pub noted_whole : is_some (get past name) ≡ false → insert (insert past name None) name stood ≡ note past name stood
  noted_whole h = insert_twice past name None stood ∙ note_new h

  pub noted_back : (first : Option T) → get past name ≡ Some first → insert (insert past name stood) name first ≡ note past name stood
  noted_back first h =
      insert_twice past name stood first ∙ put_again nat_list_cmp_total differ past name first h
      ∙ sym (ap (λ o. cond (is_some o) past (insert past name stood)) h)
