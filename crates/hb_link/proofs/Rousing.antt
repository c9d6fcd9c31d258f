-- Which upstreams of a link are roused behind a change.
use Rattle.std.proofs.Common.{◌≡◌, ◌≢◌, ◌⊎◌, inl, inr, ⊎_elim, ℕ, zero, suc, true, List, ◌++◌, Option, Some, None, refl, ap, sym, ◌∙◌, subst, arith}
use Rattle.std.proofs.lemmas.Bool.{cases_eq, ne_eqb}
use Rattle.std.specs.FinMap.{get, insert}
use Rattle.hb_base.specs.declared.cause.Cause.{Cause}
use Rattle.hb_base.specs.declared.ip.Ip.{Ip}
use Rattle.hb_conn.specs.Connection.{Connection}
use Rattle.hb_conn.specs.declared.happening.Happening.{Happening}
use Rattle.hb_conn.specs.declared.happening.Happening.TheVariants as happening
use Rattle.hb_front.specs.Reading.{Answer, Whole, More, Fault}
use Rattle.hb_held.specs.Held.{Resources}
use Rattle.hb_map.proofs.Laws.{put_elsewhere}
use Rattle.hb_link.specs.declared.hearing.Heard.TheVariants.{Data}
use Rattle.hb_link.specs.declared.link.Link.{Link}
use Rattle.hb_link.specs.declared.phase.Phase.{Phase}
use Rattle.hb_link.specs.declared.roused.Roused.{Roused}
use Rattle.hb_link.specs.declared.tunnel.Tunnel.{Tunnel}
use Rattle.hb_link.specs.Fronting.{Fronts, TakesFront}
use Rattle.hb_link.specs.Looking.{came_here, up_ended_here, left_at, heard_of, tunnels_heard}
use Rattle.hb_link.specs.Marking.{ended_tunnel, judged_tunnel, judged_here, ChangesAt, EndsWith}
use Rattle.hb_link.specs.Observed.{up_wants_in, up_held_in}
use Rattle.hb_link.specs.Rousing.{Adds, AddsSome, roused_on, Rouses}
use Rattle.hb_link.proofs.Changed.{changed_elsewhere}
use Rattle.hb_link.proofs.Moving.{Map}
use Rattle.hb_link.proofs.Quiet.{Quiet, changed_quiet, ended_quiet, judged_quiet, mapped_quiet, over_quiet, put_quiet, quiet_is, up_ended_quiet}

-- each upstream that isn't quiet is roused
pub rouses_at : (k n : Link) → ((s : ℕ) → roused_on k s ≡ true → roused_on n s ≡ true)
    → ((s : ℕ) → Quiet (get k.tunnels s) (get n.tunnels s) ⊎ (roused_on n s ≡ true)) → Rouses k n
rouses_at k n kept each s = elim (each s) [
  | inl quiet ↦ record { kept = kept s; reads = λ was. inl (quiet.reads was); writes = λ was. inl (quiet.writes was) }
  | inr is ↦ record { kept = kept s; reads = λ was. inr is; writes = λ was. inr is }
]

-- none is roused, where all are quiet
pub rouses_none : (k n : Link) → n.roused ≡ k.roused → ((s : ℕ) → Quiet (get k.tunnels s) (get n.tunnels s)) → Rouses k n
rouses_none k n same quiet =
    rouses_at k n (λ s was. ap (λ (r : Roused). roused_on (record k { roused = r }) s) same ∙ was) (λ s. inl (quiet s))

pub rouses_same : (k n : Link) → n.roused ≡ k.roused → n.tunnels ≡ k.tunnels → Rouses k n
rouses_same k n same tunnels =
    rouses_none k n same (λ s. quiet_is (get k.tunnels s) (get n.tunnels s) (ap (λ (t : Map). get t s) tunnels))

-- the connection alone changes
pub conn_rouses : (k n : Link) (c : Connection) → n ≡ record k { conn = c } → Rouses k n
conn_rouses k n c is = rouses_same k n (ap (λ (w : Link). w.roused) is) (ap (λ (w : Link). w.tunnels) is)

-- another tunnel stands on a stream, which is quiet
pub rouses_put : (k n : Link) (s : ℕ) (old new : Tunnel) → get k.tunnels s ≡ Some old → n.roused ≡ k.roused
    → n.tunnels ≡ insert k.tunnels s new → Quiet (Some old) (Some new) → Rouses k n
rouses_put k n s old new is same tunnels quiet =
    rouses_none k n same (λ j. subst (λ (t : Map). Quiet (get k.tunnels j) (get t j)) (sym tunnels)
    (put_quiet k.tunnels s new (subst (λ (o : Option Tunnel). Quiet o (Some new)) (sym is) quiet) j))

-- one is, on whose stream alone the tunnels may change
pub rouses_one : (k n : Link) (s : ℕ) → Adds s k.roused n.roused → ((j : ℕ) → j ≢ s → get n.tunnels j ≡ get k.tunnels j) → Rouses k n
rouses_one k n s adds others = rouses_at k n adds.kept (λ j. elim (cases_eq j s) [
  | inl same ↦ inr (ap (roused_on n) same ∙ adds.here)
  | inr apart ↦ inl (quiet_is (get k.tunnels j) (get n.tunnels j) (others j apart))
])

-- where some of so many bytes went
pub rouses_some : (k n : Link) (s count : ℕ) (new : Tunnel) → AddsSome count s k.roused n.roused → n.tunnels ≡ insert k.tunnels s new
    → (count ≡ 0 → Quiet (get k.tunnels s) (Some new)) → Rouses k n
rouses_some k n s zero new adds tunnels quiet =
    rouses_at k n adds.kept (λ j. inl (subst (λ (t : Map). Quiet (get k.tunnels j) (get t j)) (sym tunnels)
    (put_quiet k.tunnels s new (quiet refl) j)))
rouses_some k n s (suc count) new adds tunnels quiet =
    rouses_one k n s (record { here = adds.here (omega arith); kept = adds.kept })
    (λ j apart. ap (λ (t : Map). get t j) tunnels ∙ put_elsewhere k.tunnels s new j apart)

-- one change behind another
pub rouses_then : (k m n : Link) → Rouses k m → Rouses m n → Rouses k n
rouses_then k m n first behind s =
    let one = first s in
    let two = behind s in
    record {
      kept = λ was. two.kept (one.kept was);
      reads = λ was. ⊎_elim two.reads (λ is. inr (two.kept is)) (one.reads was);
      writes = λ was. ⊎_elim two.writes (λ is. inr (two.kept is)) (one.writes was);
    }

-- one is left
pub left_rouses : (k n : Link) (s : ℕ) (why : Cause) (up : ℕ) → n.roused ≡ k.roused → n.tunnels ≡ left_at s why up k.tunnels
    → Rouses k n
left_rouses k n s why up same tunnels =
    rouses_none k n same (λ j. subst (λ (t : Map). Quiet (get k.tunnels j) (get t j)) (sym tunnels) (over_quiet s why up k.tunnels j))

-- tunnels end, or one sends no more
pub ends_rouse : (k n : Link) (phase : Phase) (why : Cause) → EndsWith phase why k n → Rouses k n
ends_rouse k n phase why ends =
    rouses_none k n (ap (λ (w : Link). w.roused) ends.link)
    (λ s. subst (λ (o : Option Tunnel). Quiet (get k.tunnels s) o) (sym (ends.each s))
    (mapped_quiet (ended_tunnel why) (ended_quiet why) (get k.tunnels s)))

pub judged_rouse : (k n : Link) (held : Resources) → n ≡ record k { tunnels = n.tunnels }
    → ((s : ℕ) → get n.tunnels s ≡ judged_here held k.peer (get k.tunnels s)) → Rouses k n
judged_rouse k n held rest each =
    rouses_none k n (ap (λ (w : Link). w.roused) rest)
    (λ s. subst (λ (o : Option Tunnel). Quiet (get k.tunnels s) o) (sym (each s))
    (mapped_quiet (judged_tunnel held k.peer) (λ t. judged_quiet _ t) (get k.tunnels s)))

pub changes_rouse : (change : Tunnel → Tunnel) (s : ℕ) (k n : Link) → ((t : Tunnel) → Quiet (Some t) (Some (change t)))
    → ChangesAt change s k n → Rouses k n
changes_rouse change s k n quiet changes =
    rouses_none k n (ap (λ (w : Link). w.roused) changes.link) (λ j. elim (cases_eq j s) [
      | inl same ↦ subst (λ (i : ℕ). Quiet (get k.tunnels i) (get n.tunnels i)) (sym same)
          (subst (λ (o : Option Tunnel). Quiet (get k.tunnels s) o) (sym changes.here) (mapped_quiet change quiet (get k.tunnels s)))
      | inr apart ↦ quiet_is (get k.tunnels j) (get n.tunnels j) (changes.others j apart)
    ])

-- what is heard is followed, by which the stream of DATA is roused
pub heard_rouses : (to : Ip) (h : Option Happening) (k mid new : Link) → mid.tunnels ≡ tunnels_heard h k.tunnels
    → mid.roused ≡ k.roused → Rouses mid new → ((s : ℕ) → heard_of to h ≡ Data s → roused_on new s ≡ true) → Rouses k new
heard_rouses to h k mid new tunnels same behind came = by h tunnels came
  where
    quiet_then : ((s : ℕ) → Quiet (get k.tunnels s) (get mid.tunnels s)) → Rouses k new
    quiet_then quiet = rouses_then k mid new (rouses_none k mid same quiet) behind

    still : mid.tunnels ≡ k.tunnels → Rouses k new
    still is = quiet_then (λ s. quiet_is (get k.tunnels s) (get mid.tunnels s) (ap (λ (t : Map). get t s) is))

    by : (h : Option Happening) → mid.tunnels ≡ tunnels_heard h k.tunnels → ((s : ℕ) → heard_of to h ≡ Data s → roused_on new s ≡ true)
        → Rouses k new
    by None is came = still is
    by (Some (happening.Opened s headers end)) is came = still is
    by (Some (happening.Chunk s bytes)) is came = λ j. elim (cases_eq j s) [
      | inl here ↦
          let roused = ap (roused_on new) here ∙ came s refl in
          record { kept = λ was. roused; reads = λ was. inr roused; writes = λ was. inr roused }
      | inr apart ↦
          let there : get mid.tunnels j ≡ get k.tunnels j = ap (λ (t : Map). get t j) is
          ∙ changed_elsewhere s (came_here bytes.now) k.tunnels j (ne_eqb j s apart) in
          let two = behind j in
          record {
            kept = λ was. two.kept (ap (λ (r : Roused). roused_on (record k { roused = r }) j) same ∙ was);
            reads = λ was. two.reads (ap up_wants_in there ∙ was);
            writes = λ was. two.writes (ap up_held_in there ∙ was);
          }
    ]
    by (Some (happening.Ended s)) is came =
        quiet_then (λ j. subst (λ (t : Map). Quiet (get k.tunnels j) (get t j)) (sym is)
        (changed_quiet k.tunnels s up_ended_here up_ended_quiet j))
    by (Some (happening.Reset s code)) is came = still is
    by (Some (happening.Broken s code)) is came = still is
    by (Some (happening.GoneAway last)) is came = still is
    by (Some (happening.Fault code)) is came = still is

-- a front header is read
fronts_rouse : (answer : Answer) (k n : Link) → Fronts answer k n → Rouses k n
fronts_rouse More k n is = rouses_same k n (ap (λ (w : Link). w.roused) is) (ap (λ (w : Link). w.tunnels) is)
fronts_rouse (Fault fault) k n is = rouses_same k n (ap (λ (w : Link). w.roused) is) (ap (λ (w : Link). w.tunnels) is)
fronts_rouse (Whole seen) k n (inl is) = rouses_same k n (ap (λ (w : Link). w.roused) is) (ap (λ (w : Link). w.tunnels) is)
fronts_rouse (Whole seen) k n (inr is) = rouses_same k n (ap (λ (w : Link). w.roused) is.2) (ap (λ (w : Link). w.tunnels) is.2)

pub front_rouses : (k n : Link) (bytes : List ℕ) → TakesFront (record k { front = k.front ++ bytes }) n → Rouses k n
front_rouses k n bytes front s =
    let is = fronts_rouse front.0 (record k { front = k.front ++ bytes }) n front.2 s in
    record { kept = is.kept; reads = is.reads; writes = is.writes }
