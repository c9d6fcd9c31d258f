-- An entry of an inbound link or of an upstream, which the event loop tells, may come next in the machine.
use Rattle.std.proofs.Common.{◌≡◌, ◌⊎◌, inl, inr, ⊎_elim, ℕ, ◌<◌, ◌≤◌, Bool, true, false, is_none, List, ◌++◌, length, take, drop, Some, None, refl, ap, sym, ◌∙◌, subst, arith}
use Rattle.std.proofs.lemmas.Bool.{and_parts}
use Rattle.std.proofs.lemmas.List.{length-take, take-append-drop}
use Rattle.std.specs.FinMap.{get}
use Rattle.hb_base.specs.declared.note.Note.{Note}
use Rattle.hb_frames.specs.Frames.{AreOctets}
use Rattle.hb_inbound.specs.Calm.{IsQuiet, output_by as written_by, up_wants}
use Rattle.hb_inbound.specs.Inbound as m
use Rattle.hb_inbound.specs.Inbound.{Inbound}
use Rattle.hb_inbound.specs.Part as part
use Rattle.hb_inbound.specs.Runs.{IsQuietAt, IsReadable, IsWritable}
use Rattle.hb_inbound.specs.Tunnel as t
use Rattle.hb_inbound.specs.Tunnel.{Stage}
use Rattle.hb_link.specs.Calls.{IsLastWord}
use Rattle.hb_link.specs.Observed.{up_wants_by, up_held_by}
use Rattle.hb_links.proofs.Acting.{all_calm}
use Rattle.hb_links.specs.Calls as links
use Rattle.hb_links.specs.Calls.{point_for}
use Rattle.hb_links.specs.Places.{place}
use Rattle.hb_node.specs.State.{due_of}
use Rattle.hb_proxy.specs.Doors.{without_doors}
use Rattle.hb_proxy.specs.Machine.{Machine}
use Rattle.hb_proxy.specs.Points.{of_link}
use Rattle.hb_proxy.specs.Runs.{BirthMayCome, LinkMayCome, Lets, PlainLets, link_first}
use Rattle.hb_proxy.specs.Seen.{Seen, IsLinkThere}
use Rattle.hb_proxy.specs.Ups.{Joins}
use Rattle.hb_ready.specs.Sight.{is_open}
use Rattle.hb_turns.specs.Shown.{MayCome, MayWrite}
use Rattle.hb_world.specs.Trace.{lives}
use Rattle.hb_world.specs.declared.entry.Entry.{Entry}
use Rattle.hb_world.specs.declared.entry.Entry.TheVariants as e
use Rattle.hb_world.specs.declared.entry.Way.TheVariants as way
use Rattle.hb_whole.specs.Sight.{owner_of, shown_of, wants_by, output_by, last_by}
use Rattle.hb_whole.specs.Stands.{Stands}
use Rattle.hb_whole.specs.declared.owner.Owner.{Owner}
use Rattle.hb_whole.specs.declared.owner.Owner.TheVariants.{Inbound as OfInbound}
use Rattle.hb_whole.specs.declared.proxy.Proxy.{Proxy}
use Rattle.hb_whole.proofs.Free.{Free, free, control_quiet, rests_of, goes_on, none_of}
use Rattle.hb_whole.proofs.Guarded.{LinkGuarded, guarded_link, guarded_up}
use Rattle.hb_whole.proofs.LinkMay.{open_phase, going_stage, opening_stage, live_wants, live_holds, is_at, free_link, wants_link, output_link, wants_up, holds_up, last_link}
use Rattle.hb_whole.proofs.Relays.{gates_calm, plain_calm}
use Rattle.hb_whole.proofs.Routes.{LinkRoute, to_link, to_up, link_route, seen_of, open_then}

not_both : (b : Bool) → b ≡ true → b ≡ false → ⊥
not_both b holds fails = absurd cc

-- WHERE ALL IS QUIET

quiet_at : (x : Inbound) → IsQuiet x → IsLinkThere x.phase → IsQuietAt m.fronting x ⊎ IsQuietAt m.serving x
quiet_at x quiet there =
    ⊎_elim (λ is. inl (quiet, is)) (λ is. inr (quiet, is)) (open_phase x.phase x there quiet.calm.rests quiet.no_close)

pub going_at : (x : Inbound) (s u : ℕ) → IsQuiet x → Joins (x.tunnels s) u
    → ((x.tunnels s).stage ≡ t.opening) ⊎ ((x.tunnels s).stage ≡ t.live)
going_at x s u quiet joins =
    going_stage (x.tunnels s).stage (x.tunnels s) (subst (λ (n : ℕ). 0 < n) (sym joins.1) joins.0) (quiet.calm.answered s) (quiet.idle s)

module _ (taken : List Note) (p : Proxy) (trace : List Entry) (s : Stands taken p trace) (l : ℕ) (whose : owner_of p l ≡ OfInbound) where
  abbrev pub x : Machine
  x = s.machine

  seen : Seen x (without_doors trace)
  seen = seen_of taken p trace s

  pub opened_may : MayCome (shown_of p) trace (e.Opened l) → LinkGuarded p x l (e.Opened l)
  opened_may may = by (link_route taken p trace s l whose may.1.0)
    where
      all : Free x
      all = free taken p trace s may.0

      closed : is_open l (without_doors trace) ≡ false
      closed = open_then trace l ∙ may.1.1

      by : LinkRoute p x l → LinkGuarded p x l (e.Opened l)
      by (to_link there none found) = absurd (not_both (is_open l (without_doors trace)) (seen.link l there).1 closed)
      by (to_up k q joins at found) =
          let quiet = all.links k in
          let stage = opening_stage ((x.inbound k).tunnels q).stage (is_open l (without_doors trace))
          (going_at (x.inbound k) q l quiet joins)
          (seen.up k q l joins).2 closed in
          guarded_up p x l k q (e.Opened l) found (is_at (x.inbound k) q l t.opening quiet stage (inl refl) joins)
          (free_link x k (e.Opened l) all tt)

  wanted : wants_by (owner_of p l) p l ≡ links.wants_of p.side.links l
  wanted = ap (λ (o : Owner). wants_by o p l) whose

  held : output_by (owner_of p l) p l ≡ links.held_of p.side.links l
  held = ap (λ (o : Owner). output_by o p l) whose

  -- bytes are read on it
  pub data Reads : Type 0 where
    link_reads : get p.side.links.ups l ≡ None → ((z : Entry) → point_for p.side.links l z ≡ Some (of_link l (part.entry z)))
        → IsReadable (x.inbound l) → Reads
    up_reads : (k q : ℕ) → get p.side.links.ups l ≡ Some (place k q)
        → ((z : Entry) → point_for p.side.links l z ≡ Some (of_link k (part.up q z))) → Joins ((x.inbound k).tunnels q) l
        → ((x.inbound k).tunnels q).stage ≡ t.live → 0 < up_wants ((x.inbound k).tunnels q) → Reads

  pub reads : Free x → lives l trace ≡ true → 0 < (shown_of p).wants l → Reads
  reads all alive some = by (link_route taken p trace s l whose alive)
    where
      some_here : 0 < links.wants_of p.side.links l
      some_here = subst (λ (n : ℕ). 0 < n) wanted some

      by : LinkRoute p x l → Reads
      by (to_link there none found) =
          link_reads none found (
            quiet_at (x.inbound l) (all.links l) there,
            subst (λ (n : ℕ). 0 < n) (wants_link p.side.links x.inbound s.links l none) some_here,
          )
      by (to_up k q joins at found) =
          let more = subst (λ (n : ℕ). 0 < n) (wants_up p.side.links x.inbound s.links l k q at) some_here in
          let live = live_wants ((x.inbound k).tunnels q).stage ((x.inbound k).tunnels q) more in
          up_reads k q at found joins live
          (subst (λ (r : Stage). 0 < up_wants_by r ((x.inbound k).tunnels q)) live more)

  came_within : (bytes : List ℕ) → length bytes ≤ (shown_of p).wants l → length bytes ≤ links.wants_of p.side.links l
  came_within bytes few = subst (λ (n : ℕ). length bytes ≤ n) wanted few

  pub came_may : (bytes : List ℕ) → AreOctets bytes → MayCome (shown_of p) trace (e.Came l bytes) → LinkGuarded p x l (e.Came l bytes)
  came_may bytes octets may = by (reads all may.1.0 (some_of may.2 may.3))
    where
      all : Free x
      all = free taken p trace s may.0

      some_of : 0 < length bytes → length bytes ≤ (shown_of p).wants l → 0 < (shown_of p).wants l
      some_of some few = omega arith

      by : Reads → LinkGuarded p x l (e.Came l bytes)
      by (link_reads none found readable) =
          guarded_link p x l (e.Came l bytes) found (
            refl,
            readable,
            octets,
            may.2,
            subst (λ (n : ℕ). length bytes ≤ n) (wants_link p.side.links x.inbound s.links l none) (came_within bytes may.3),
          )
          (free_link x l (e.Came l bytes) all tt)
      by (up_reads k q at found joins live some) =
          guarded_up p x l k q (e.Came l bytes) found (
            is_at (x.inbound k) q l t.live (all.links k) live (inr refl) joins,
            octets,
            may.2,
            subst (λ (r : Stage). length bytes ≤ up_wants_by r ((x.inbound k).tunnels q)) live
                (subst (λ (n : ℕ). length bytes ≤ n) (wants_up p.side.links x.inbound s.links l k q at) (came_within bytes may.3)),
          )
          (free_link x k (e.Came l bytes) all tt)

  pub ended_may : MayCome (shown_of p) trace (e.Ended l) → LinkGuarded p x l (e.Ended l)
  ended_may may = by (reads all may.1.0 may.2)
    where
      all : Free x
      all = free taken p trace s may.0

      by : Reads → LinkGuarded p x l (e.Ended l)
      by (link_reads none found readable) = guarded_link p x l (e.Ended l) found (refl, readable) (free_link x l (e.Ended l) all tt)
      by (up_reads k q at found joins live some) =
          guarded_up p x l k q (e.Ended l) found
          (is_at (x.inbound k) q l t.live (all.links k) live (inr refl) joins, some) (free_link x k (e.Ended l) all tt)

  pub read_balks : MayCome (shown_of p) trace (e.Balked (way.Read l)) → LinkGuarded p x l (e.Balked (way.Read l))
  read_balks may = by (reads all may.1.0 may.2)
    where
      all : Free x
      all = free taken p trace s may.0

      by : Reads → LinkGuarded p x l (e.Balked (way.Read l))
      by (link_reads none found readable) =
          guarded_link p x l (e.Balked (way.Read l)) found (refl, readable) (free_link x l (e.Balked (way.Read l)) all tt)
      by (up_reads k q at found joins live some) =
          guarded_up p x l k q (e.Balked (way.Read l)) found
          (is_at (x.inbound k) q l t.live (all.links k) live (inr refl) joins, some) (free_link x k (e.Balked (way.Read l)) all tt)

  pub finish_balks : MayCome (shown_of p) trace (e.Balked (way.Finish l)) → LinkGuarded p x l (e.Balked (way.Finish l))
  finish_balks may = by (link_route taken p trace s l whose may.1.0)
    where
      all : Free x
      all = free taken p trace s may.0

      closed : is_open l (without_doors trace) ≡ false
      closed = open_then trace l ∙ may.1.1

      by : LinkRoute p x l → LinkGuarded p x l (e.Balked (way.Finish l))
      by (to_link there none found) = absurd (not_both (is_open l (without_doors trace)) (seen.link l there).1 closed)
      by (to_up k q joins at found) =
          let quiet = all.links k in
          let stage = opening_stage ((x.inbound k).tunnels q).stage (is_open l (without_doors trace))
          (going_at (x.inbound k) q l quiet joins)
          (seen.up k q l joins).2 closed in
          guarded_up p x l k q (e.Balked (way.Finish l)) found (is_at (x.inbound k) q l t.opening quiet stage (inl refl) joins)
          (free_link x k (e.Balked (way.Finish l)) all tt)

  -- a call that writes, or that fails, is made on it
  pub data Writes : Type 0 where
    link_writes : get p.side.links.ups l ≡ None → ((z : Entry) → point_for p.side.links l z ≡ Some (of_link l (part.entry z)))
        → IsQuietAt m.fronting (x.inbound l) ⊎ IsWritable (x.inbound l) → ((z : Entry) → BirthMayCome x z → LinkMayCome x l z) → Writes
    up_writes : (k q : ℕ) → get p.side.links.ups l ≡ Some (place k q)
        → ((z : Entry) → point_for p.side.links l z ≡ Some (of_link k (part.up q z))) → Joins ((x.inbound k).tunnels q) l
        → IsQuiet (x.inbound k) → (((x.inbound k).tunnels q).stage ≡ t.opening) ⊎ (((x.inbound k).tunnels q).stage ≡ t.live)
        → ((z : Entry) → BirthMayCome x z → LinkMayCome x k z) → Writes

  free_writes : Free x → LinkRoute p x l → Writes
  free_writes all (to_link there none found) =
      link_writes none found
      (⊎_elim (λ fronting. inl fronting) (λ serving. inr (inl serving)) (quiet_at (x.inbound l) (all.links l) there))
      (λ z birth. free_link x l z all birth)
  free_writes all (to_up k q joins at found) =
      up_writes k q at found joins (all.links k) (going_at (x.inbound k) q l (all.links k) joins) (λ z birth. free_link x k z all birth)

  -- its last words
  lasts : p.ends_for ≡ None → is_none (due_of p.control) ≡ true → IsLastWord (x.inbound l) → LinkRoute p x l → Writes
  lasts going none words (to_link there none_up found) =
      link_writes none_up found (inr (inr (all_calm p.side.links x.inbound s.links l, words.0, words.1)))
      (λ z birth. record {
        birth = birth;
        control = rests_of x.control
            (control_quiet p.control x.control s.control (none_of (due_of p.control) none) (goes_on p x s.ends going));
        others = λ k apart. subst (λ (phase : m.Phase). Lets (link_first phase z) (x.inbound k)) (sym words.1)
            (all_calm p.side.links x.inbound s.links k);
        plain = λ k. subst (λ (phase : m.Phase). PlainLets (link_first phase z) (x.plain k)) (sym words.1)
            (plain_calm p.side.relays s.relays k);
        gates = gates_calm x s.relays (link_first (x.inbound l).phase z)
            (ap (λ (phase : m.Phase). link_first phase z) words.1);
      })
  lasts going none words (to_up k q joins at found) =
      absurd ((seen.up_alone k q l joins).1 (subst (λ (phase : m.Phase). IsLinkThere phase) (sym words.1) tt))

  pub writes : MayWrite (shown_of p) l → lives l trace ≡ true → Writes
  writes may alive =
      ⊎_elim (λ idle. free_writes (free taken p trace s (may.0, idle)) (link_route taken p trace s l whose alive))
      (λ last. let parts = and_parts (is_none (due_of p.control)) _ (ap (λ (o : Owner). last_by o p l) (sym whose) ∙ last) in
      lasts may.0 parts.0 (last_link p.side.links x.inbound l s.links parts.1) (link_route taken p trace s l whose alive)) may.1

  pub broke_may : MayCome (shown_of p) trace (e.Broke l) → LinkGuarded p x l (e.Broke l)
  broke_may may = by (writes may.0 may.1)
    where
      by : Writes → LinkGuarded p x l (e.Broke l)
      by (link_writes none found at guard) = guarded_link p x l (e.Broke l) found (refl, at) (guard (e.Broke l) tt)
      by (up_writes k q at found joins quiet going guard) =
          guarded_up p x l k q (e.Broke l) found
          (⊎_elim (λ is. inl (is_at (x.inbound k) q l t.opening quiet is (inl refl) joins))
          (λ is. inr (is_at (x.inbound k) q l t.live quiet is (inr refl) joins)) going)
          (guard (e.Broke l) tt)

  -- a link on which something waits is open for it
  writable : IsQuietAt m.fronting (x.inbound l) ⊎ IsWritable (x.inbound l) → 0 < length (written_by (x.inbound l).phase (x.inbound l))
      → IsWritable (x.inbound l)
  writable at some =
      ⊎_elim (λ fronting. let none : 0 < 0 = subst (λ (phase : m.Phase). 0 < length (written_by phase (x.inbound l))) fronting.1 some in
      absurd (omega arith)) (λ is. is) at

  pub went_may : (bytes : List ℕ) → MayCome (shown_of p) trace (e.Went l bytes) → LinkGuarded p x l (e.Went l bytes)
  went_may bytes may = by (writes may.0 may.1.0)
    where
      n : ℕ
      n = may.2

      out : List ℕ
      out = links.held_of p.side.links l

      bytes_are : bytes ≡ take n out
      bytes_are = may.5 ∙ ap (λ (bs : List ℕ). take n bs) held

      enough : n ≤ length out
      enough = subst (λ (bs : List ℕ). n ≤ length bs) held may.4

      some : 0 < length bytes
      some =
          let long = length-take n out in let first : 0 < n = may.3 in let few = enough in
          subst (λ (bs : List ℕ). 0 < length bs) (sym bytes_are) (omega arith)

      whole : out ≡ bytes ++ drop n out
      whole = sym (take-append-drop n out) ∙ ap (λ (bs : List ℕ). bs ++ drop n out) (sym bytes_are)

      waits : 0 < length out
      waits = let first : 0 < n = may.3 in let few = enough in omega arith

      by : Writes → LinkGuarded p x l (e.Went l bytes)
      by (link_writes none found at guard) =
          let same = output_link p.side.links x.inbound s.links l none in
          guarded_link p x l (e.Went l bytes) found
          (refl, writable at (subst (λ (bs : List ℕ). 0 < length bs) same waits), some, (drop n out, sym same ∙ whole))
          (guard (e.Went l bytes) tt)
      by (up_writes k q at found joins quiet going guard) =
          let same = holds_up p.side.links x.inbound s.links l k q at in
          let live = live_holds ((x.inbound k).tunnels q).stage ((x.inbound k).tunnels q)
          (subst (λ (bs : List ℕ). 0 < length bs) same waits) in
          guarded_up p x l k q (e.Went l bytes) found (
            is_at (x.inbound k) q l t.live quiet live (inr refl) joins,
            some,
            (drop n out, sym (ap (λ (r : Stage). up_held_by r ((x.inbound k).tunnels q)) live) ∙ sym same ∙ whole),
          )
          (guard (e.Went l bytes) tt)

  pub write_balks : MayCome (shown_of p) trace (e.Balked (way.Write l)) → LinkGuarded p x l (e.Balked (way.Write l))
  write_balks may = by (writes may.0 may.1.0)
    where
      waits : 0 < length (links.held_of p.side.links l)
      waits = subst (λ (bs : List ℕ). 0 < length bs) held may.2

      by : Writes → LinkGuarded p x l (e.Balked (way.Write l))
      by (link_writes none found at guard) =
          let more = subst (λ (bs : List ℕ). 0 < length bs) (output_link p.side.links x.inbound s.links l none) waits in
          guarded_link p x l (e.Balked (way.Write l)) found (refl, writable at more, more) (guard (e.Balked (way.Write l)) tt)
      by (up_writes k q at found joins quiet going guard) =
          let more = subst (λ (bs : List ℕ). 0 < length bs) (holds_up p.side.links x.inbound s.links l k q at) waits in
          let live = live_holds ((x.inbound k).tunnels q).stage ((x.inbound k).tunnels q) more in
          guarded_up p x l k q (e.Balked (way.Write l)) found (
            is_at (x.inbound k) q l t.live quiet live (inr refl) joins,
            subst (λ (r : Stage). 0 < length (up_held_by r ((x.inbound k).tunnels q))) live more,
          )
          (guard (e.Balked (way.Write l)) tt)
