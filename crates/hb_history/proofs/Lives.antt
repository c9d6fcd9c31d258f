-- Which streams have windows and records, move after move.
use Rattle.std.proofs.Common.{◌≡◌, ◌≢◌, inl, inr, ℕ, ◌≤◌, ◌%◌, ◌==◌, Bool, true, false, cond, ◌||◌, ◌&&◌, List, [], ◌∷◌, ◌++◌, Option, Some, None, is_some, refl, ap, sym, ◌∙◌, subst}
use Rattle.std.specs.Prelude.{take}
use Rattle.std.specs.Option.{option_map}
use Rattle.std.specs.Ordering.{nat_cmp}
use Rattle.std.specs.FinMap.{FinMap, empty, get, insert, remove, get-empty}
use Rattle.std.proofs.lemmas.Bool.{false≢true, cases_eq}
use Rattle.hb_map.proofs.Laws.{put_here, put_elsewhere, removed_here, removed_elsewhere}
use Rattle.hb_streams.specs.Sides.{sides_of}
use Rattle.hb_streams.specs.States.{States, state_by, state_of_others}
use Rattle.hb_streams.specs.Moves.{Move as StreamMove, after, after_all, begun}
use Rattle.hb_streams.specs.declared.role.Role.{Role}
use Rattle.hb_streams.specs.declared.role.Role.TheVariants.{Server, Client}
use Rattle.hb_streams.specs.declared.sides.Sides.{Sides}
use Rattle.hb_streams.specs.declared.state.State.TheVariants.{Open, HalfClosedLocal, HalfClosedRemote, Closed}
use Rattle.hb_streams.proofs.Forward.{moves_add_up, active_are_in_use}
use Rattle.hb_flow.specs.Windows.{Windows}
use Rattle.hb_flow.specs.Flows.{Flows, changed, closed, spent, granted, new_windows}
use Rattle.hb_flow.specs.Sizes.{with_size, all_with_size}
use Rattle.hb_flow.specs.Moves.{Move as FlowMove, takes, takes_on, owes, owes_on, pays, pays_on, opens, closes, grants, grants_on, resizes, sends, takes_back}
use Rattle.hb_flow.specs.Moves.{after as flow_after}
use Rattle.hb_flow.proofs.Changes.{changed_here, changed_elsewhere}
use Rattle.hb_flow.proofs.Sizes.{get_all}
use Rattle.hb_outgoing.specs.Selected.{data_size}
use Rattle.hb_outgoing.specs.Written.{written}
use Rattle.hb_owed.specs.Dues.{clear}
use Rattle.hb_owed.specs.Debts.{Debts, shut}
use Rattle.hb_owed.specs.Debts.{closed as owed_closed}
use Rattle.hb_owed.specs.Moves.{is_open}
use Rattle.hb_owed.proofs.Walks.{settled_elsewhere}
use Rattle.hb_frames.specs.Numbers.{data_kind}
use Rattle.hb_conn.specs.Frames.{frame, sent}
use Rattle.hb_conn.specs.Faults.{faulted, is_active}
use Rattle.hb_conn.specs.Payload.{count_put}
use Rattle.hb_conn.specs.declared.machine.Core.{Core}
use Rattle.hb_history.specs.Points.{Point, Runs}
use Rattle.hb_history.specs.History.{fresh}
use Rattle.hb_history.specs.Live.{LiveStreams, StreamsMove}
use Rattle.hb_history.proofs.Parts.{Amid, calm, amid, ending, gone, Keeps, Puts, PutsAck, Resizes, MovesOn, is_taking}
use Rattle.hb_history.proofs.Moved.{no_sides}
use Rattle.hb_history.proofs.Handled.{Grows}
use Rattle.hb_history.proofs.Acted.{runs_keep}

-- the streams are what moves make of them
abbrev pub Moved : Role → States → Type 0
Moved role s = (moves : List StreamMove) × (s ≡ after_all role moves)

pub moved_on : (role : Role) (s t : States) (m : StreamMove) → t ≡ after s m → Moved role s → Moved role t
moved_on role s t m is moved = (moved.0 ++ m ∷ [], is ∙ moves_add_up role moved.0 s m moved.1)

-- an active stream has an odd number, which was used, and an open side
abbrev pub IsUsed : States → ℕ → Sides → Type 0
IsUsed s n sides = ((n % 2 == 0) ≡ false) × (n ≤ s.highest) × ((sides.own || sides.peer) ≡ true)

pub used : (role : Role) (s : States) (n : ℕ) (sides : Sides) → Moved role s → get s.active n ≡ Some sides → IsUsed s n sides
used role s n sides moved is =
    subst (λ (t : States). IsUsed t n sides) (sym moved.1)
    (active_are_in_use role moved.0 n sides (ap (λ (t : States). get t.active n) (sym moved.1) ∙ is))

value_of : {T : Type 0} (o : Option T) → is_some o ≡ true → (x : T) × (o ≡ Some x)
value_of None e = absurd (false≢true e)
value_of (Some x) e = (x, refl)

pub used_some : (role : Role) (s : States) (n : ℕ) → Moved role s → is_some (get s.active n) ≡ true
    → (sides : Sides) × (get s.active n ≡ Some sides) × IsUsed s n sides
used_some role s n moved some =
    let v = value_of (get s.active n) some in (v.0, v.1, used role s n v.0 moved v.1)

sides_by : (own peer : Bool) → (own || peer) ≡ true
    → ((sides_of (cond (own && peer) Open (cond peer HalfClosedLocal (cond own HalfClosedRemote Closed)))).own
    || (sides_of (cond (own && peer) Open (cond peer HalfClosedLocal (cond own HalfClosedRemote Closed)))).peer) ≡ true
sides_by true true some = refl
sides_by true false some = refl
sides_by false true some = refl
sides_by false false some = absurd (false≢true some)

-- a stream without an open side isn't active
pub inactive_none : (role : Role) (s : States) (n : ℕ) → Moved role s → is_active s n ≡ false → is_some (get s.active n) ≡ true
    → false ≡ true
inactive_none role s n moved none some =
    let v = used_some role s n moved some in
    let shown = ap (λ o. (sides_of (state_by o (state_of_others s n))).own || (sides_of (state_by o (state_of_others s n))).peer) v.1 in
    sym none ∙ shown ∙ sides_by v.0.own v.0.peer v.2.2

by_none : {T : Type 0} (o : Option T) → (o ≡ None → false ≡ true) → is_some o ≡ true
by_none None none = none refl
by_none (Some x) none = refl

none_of : {T : Type 0} (o : Option T) → is_some o ≡ false → o ≡ None
none_of None e = refl
none_of (Some x) e = absurd (false≢true (sym e))

pub active_some : (s : States) (n : ℕ) → is_active s n ≡ true → is_some (get s.active n) ≡ true
active_some s n some = by_none (get s.active n) (λ none. sym (no_sides n s none) ∙ some)

-- the streams that have windows and records, but for one amid a move
abbrev pub Spares : Amid → ℕ → Type 0
Spares calm n = Unit {0}
Spares (amid b s) n = n ≢ s

pub record Live (a : Amid) (active : FinMap nat_cmp Sides) (windows : FinMap nat_cmp Windows) (owed : Debts) : Type 0 where
  pub held : (n : ℕ) → is_some (get active n) ≡ true → is_some (get windows n) ≡ true
  pub only : (n : ℕ) → Spares a n → is_some (get windows n) ≡ true → is_some (get active n) ≡ true
  pub records : (n : ℕ) → is_some (get active n) ≡ true → is_open (get owed n) ≡ true

abbrev pub Lives : Role → Amid → Core → Type 0
Lives role a c = Moved role c.streams × (c.over ≡ false → Live a c.streams.active c.flow.streams c.owed)

-- other windows of the same streams
abbrev SameKeys : FinMap nat_cmp Windows → FinMap nat_cmp Windows → Type 0
SameKeys old new = (n : ℕ) → is_some (get new n) ≡ is_some (get old n)

mapped : (g : Windows → Windows) (o : Option Windows) → is_some (option_map g o) ≡ is_some o
mapped g None = refl
mapped g (Some w) = refl

changed_keys : (f : Flows) (s : ℕ) (g : Windows → Windows) → SameKeys f.streams (changed f s g).streams
changed_keys f s g n = elim (cases_eq n s) [
  | inl same ↦ ap (λ q. is_some (get (changed f s g).streams q)) same ∙ ap is_some (changed_here f s g)
      ∙ mapped g (get f.streams s) ∙ sym (ap (λ q. is_some (get f.streams q)) same)
  | inr apart ↦ ap is_some (changed_elsewhere f s g n apart)
]

sized_keys : (k : ℕ) (m : FinMap nat_cmp Windows) → SameKeys m (all_with_size k m)
sized_keys k m n = ap is_some (get_all k m n) ∙ mapped (with_size k) (get m n)

rewindowed : (a : Amid) (active : FinMap nat_cmp Sides) (old new : FinMap nat_cmp Windows) (owed : Debts) → SameKeys old new
    → Live a active old owed → Live a active new owed
rewindowed a active old new owed keys live = record {
  held = λ n some. keys n ∙ live.held n some;
  only = λ n spared some. live.only n spared (sym (keys n) ∙ some);
  records = live.records;
}

taking_keys : (f : Flows) (m : FlowMove) → is_taking m ≡ true → SameKeys f.streams (flow_after f m).streams
taking_keys f (takes n) taking = λ q. refl
taking_keys f (takes_on s n) taking = changed_keys f s _
taking_keys f (owes n) taking = λ q. refl
taking_keys f (owes_on s n) taking = changed_keys f s _
taking_keys f pays taking = λ q. refl
taking_keys f (pays_on s) taking = changed_keys f s _
taking_keys f (opens s) taking = absurd (false≢true taking)
taking_keys f (closes s) taking = absurd (false≢true taking)
taking_keys f (grants n) taking = absurd (false≢true taking)
taking_keys f (grants_on s n) taking = absurd (false≢true taking)
taking_keys f (resizes k) taking = absurd (false≢true taking)
taking_keys f (sends s n) taking = absurd (false≢true taking)
taking_keys f (takes_back s n) taking = absurd (false≢true taking)

regained_by : (f : Flows) (n : ℕ) (b : Bool) → SameKeys f.streams (cond b f (granted f n)).streams
regained_by f n true = λ q. refl
regained_by f n false = λ q. refl

-- no stream begins, and only s changes
remaining : (b : Bool) (s : ℕ) (old new : States) (windows : FinMap nat_cmp Windows) (owed : Debts) → MovesOn s old new
    → Live (amid b s) old.active windows owed → Live (amid b s) new.active windows owed
remaining b s old new windows owed on live = record {
  held = λ n some. live.held n (was n some);
  only = λ n apart some. ap is_some (on.elsewhere n apart) ∙ live.only n apart some;
  records = λ n some. live.records n (was n some);
}
  where
    was_by : (o : Option Sides) → get old.active s ≡ o → is_some (get new.active s) ≡ true → is_some o ≡ true
    was_by (Some x) is some = refl
    was_by None is some = sym (ap is_some (on.fewer is)) ∙ some

    was : (n : ℕ) → is_some (get new.active n) ≡ true → is_some (get old.active n) ≡ true
    was n some = elim (cases_eq n s) [
      | inl same ↦ ap (λ q. is_some (get old.active q)) same
          ∙ was_by (get old.active s) refl (sym (ap (λ q. is_some (get new.active q)) same) ∙ some)
      | inr apart ↦ sym (ap is_some (on.elsewhere n apart)) ∙ some
    ]

-- a stream that isn't active loses its windows
left : (b : Bool) (s : ℕ) (active : FinMap nat_cmp Sides) (windows : FinMap nat_cmp Windows) (owed : Debts)
    → (is_some (get active s) ≡ true → false ≡ true) → Live (amid b s) active windows owed
    → Live calm active (remove windows s) (owed_closed owed s)
left b s active windows owed none live = record {
  held = λ n some. elim (cases_eq n s) [
    | inl same ↦ absurd (false≢true (none (sym (ap (λ q. is_some (get active q)) same) ∙ some)))
    | inr apart ↦ ap is_some (removed_elsewhere windows s n apart) ∙ live.held n some
  ];
  only = λ n spared some. elim (cases_eq n s) [
    | inl same ↦ absurd (false≢true (sym (ap (λ q. is_some (get (remove windows s) q)) same ∙ ap is_some (removed_here windows s)) ∙ some))
    | inr apart ↦ live.only n apart (sym (ap is_some (removed_elsewhere windows s n apart)) ∙ some)
  ];
  records = λ n some. elim (cases_eq n s) [
    | inl same ↦ absurd (false≢true (none (sym (ap (λ q. is_some (get active q)) same) ∙ some)))
    | inr apart ↦ ap is_open (settled_elsewhere owed s n shut apart) ∙ live.records n some
  ];
}

-- one that is keeps them
stayed : (b : Bool) (s : ℕ) (active : FinMap nat_cmp Sides) (windows : FinMap nat_cmp Windows) (owed : Debts)
    → is_some (get active s) ≡ true
    → Live (amid b s) active windows owed → Live calm active windows owed
stayed b s active windows owed sure live = record {
  held = live.held;
  only = λ n spared some. elim (cases_eq n s) [
    | inl same ↦ ap (λ q. is_some (get active q)) same ∙ sure
    | inr apart ↦ live.only n apart some
  ];
  records = live.records;
}

-- a stream begins
opening : (s : ℕ) (active : FinMap nat_cmp Sides) (sides : Sides) (windows : FinMap nat_cmp Windows) (w : Windows) (owed : Debts)
    → Live calm active windows owed → Live calm (insert active s sides) (insert windows s w) (insert owed s clear)
opening s active sides windows w owed live = record {
  held = λ n some. elim (cases_eq n s) [
    | inl same ↦ ap (λ q. is_some (get (insert windows s w) q)) same ∙ ap is_some (put_here windows s w)
    | inr apart ↦ ap is_some (put_elsewhere windows s w n apart)
        ∙ live.held n (sym (ap is_some (put_elsewhere active s sides n apart)) ∙ some)
  ];
  only = λ n spared some. elim (cases_eq n s) [
    | inl same ↦ ap (λ q. is_some (get (insert active s sides) q)) same ∙ ap is_some (put_here active s sides)
    | inr apart ↦ ap is_some (put_elsewhere active s sides n apart)
        ∙ live.only n tt (sym (ap is_some (put_elsewhere windows s w n apart)) ∙ some)
  ];
  records = λ n some. elim (cases_eq n s) [
    | inl same ↦ ap (λ q. is_open (get (insert owed s clear) q)) same ∙ ap is_open (put_here owed s clear)
    | inr apart ↦ ap is_open (put_elsewhere owed s clear n apart)
        ∙ live.records n (sym (ap is_some (put_elsewhere active s sides n apart)) ∙ some)
  ];
}

weaker : (s : ℕ) (active : FinMap nat_cmp Sides) (windows : FinMap nat_cmp Windows) (owed : Debts) → (a : Amid)
    → ((n : ℕ) → n ≢ s → Spares a n)
    → (b : Bool) → Live a active windows owed → Live (amid b s) active windows owed
weaker s active windows owed a spares b live =
    record { held = live.held; only = λ n apart some. live.only n (spares n apart) some; records = live.records }

module _ (role : Role) where
  released_by : (s : ℕ) (c : Core) (b : Bool) → is_active c.streams s ≡ b → Lives role (ending s) c
      → Lives role calm (cond b c (record c { flow = closed c.flow s; owed = owed_closed c.owed s }))
  released_by s c true is h = (
    h.0,
    λ still. stayed false s c.streams.active c.flow.streams c.owed (active_some c.streams s is) (h.1 still),
  )
  released_by s c false is h = (
    h.0,
    λ still. left false s c.streams.active c.flow.streams c.owed (inactive_none role c.streams s h.0 is) (h.1 still),
  )

  put_by : (c : Core) (s n : ℕ) (bytes : List ℕ) (b : Bool) → Lives role calm c
      → Lives role calm (cond b c (sent (record c { flow = spent c.flow s n }) (frame data_kind 0 s (take n bytes))))
  put_by c s n bytes true h = h
  put_by c s n bytes false h = (
    h.0,
    λ still. rewindowed calm c.streams.active c.flow.streams _ c.owed (changed_keys c.flow s _) (h.1 still),
  )

  fault_by : (c : Core) (code : ℕ) → Moved role c.streams → Lives role calm (faulted c code).core
  unfolding faulted
  fault_by c code moved = (moved, λ still. absurd (false≢true (sym still)))

  pub lives_keep : Keeps (Lives role)
  lives_keep = record {
    ends = λ s c h. (h.0, λ still. weaker s c.streams.active c.flow.streams c.owed calm (λ n apart. tt) false (h.1 still));
    goes = λ s c h. (h.0, λ still. weaker s c.streams.active c.flow.streams c.owed (ending s) (λ n apart. apart) true (h.1 still));
    other = λ a c e b p t h. h;
    sends = λ a c f none h. h;
    owes = λ a c m keeps h. (
      h.0,
      λ still. record {
        held = (h.1 still).held;
        only = (h.1 still).only;
        records = λ n some. keeps n ((h.1 still).records n some);
      },
    );
    moves = λ b s c t on h. (
      moved_on role c.streams t on.move on.is h.0,
      λ still. remaining b s c.streams t c.flow.streams c.owed on (h.1 still),
    );
    withdraws = λ s c h. (
      h.0,
      λ still. rewindowed (gone s) c.streams.active c.flow.streams _ c.owed (regained_by c.flow (data_size (Some s) c.out.queue) _)
          (h.1 still),
    );
    releases = λ s c h. released_by s c (is_active c.streams s) refl h;
    leaves = λ s c none h. (
      h.0,
      λ still. left true s c.streams.active c.flow.streams c.owed (inactive_none role c.streams s h.0 none) (h.1 still),
    );
    takes_in = λ a c m taking may h. (
      h.0,
      λ still. rewindowed a c.streams.active c.flow.streams _ c.owed (taking_keys c.flow m taking) (h.1 still),
    );
    begins = λ s c sides m above becomes h. (
      moved_on role c.streams (begun c.streams s sides) m (sym becomes) h.0,
      λ still. opening s c.streams.active sides c.flow.streams (new_windows c.flow.initial) c.owed (h.1 still),
    );
    faults = λ a c f code h. fault_by (record c { flow = f }) code h.0;
  }

  pub lives_puts : Puts (Lives role)
  lives_puts c s bytes h = put_by c s (count_put c s bytes) bytes (count_put c s bytes == 0) h

  pub lives_acks : PutsAck (Lives role)
  lives_acks c f answer h = h

  pub lives_resize : Resizes (Lives role)
  lives_resize c k within fits h = (
    h.0,
    λ still. rewindowed calm c.streams.active c.flow.streams _ c.owed (sized_keys k c.flow.streams) (h.1 still),
  )

  pub lives_grow : (c : Core) (s n : ℕ) → Lives role calm c → Grows (Lives role) c s n
  lives_grow c s n h = record {
    fault = λ code. fault_by c code h.0;
    whole = λ zero fits. h;
    one = λ some w is fits. (
      h.0,
      λ still. rewindowed calm c.streams.active c.flow.streams _ c.owed (changed_keys c.flow s _) (h.1 still),
    );
    broken = λ some live. (h.0, λ still. weaker s c.streams.active c.flow.streams c.owed calm (λ n apart. tt) true (h.1 still));
    ignored = λ some live why. h;
  }

  pub lives_written : (c : Core) (n : ℕ) → Lives role calm c → Lives role calm (record c { out = written n c.out })
  lives_written c n h = h

none_there : (T : Type 0) {G : Type 0} (n : ℕ) → is_some (get (empty {X = T} {R = nat_cmp}) n) ≡ true → G
none_there T n some = absurd (false≢true (sym (ap is_some (get-empty nat_cmp n)) ∙ some))

no_streams : Live calm empty empty empty
no_streams = record {
  held = λ n some. none_there Sides n some;
  only = λ n spared some. none_there Windows n some;
  records = λ n some. none_there Sides n some;
}

pub lives_new : (role : Role) → Lives role calm (fresh role).receiver.core
lives_new Server = (([], refl), λ still. no_streams)
lives_new Client = (([], refl), λ still. no_streams)

pub lives_runs : (role : Role) (points : List Point) (c new : Core) → Lives role calm c → Runs c points new → Lives role calm new
lives_runs role points c new h runs =
    runs_keep (Lives role) (lives_keep role) (lives_puts role) (lives_resize role) (lives_acks role) (λ d s n h. lives_grow role d s n h)
    (λ d n within h. lives_written role d n h) points c new h runs

both_ways : (a b : Bool) → (a ≡ true → b ≡ true) → (b ≡ true → a ≡ true) → a ≡ b
both_ways true b there back = sym (there refl)
both_ways false true there back = absurd (false≢true (back refl))
both_ways false false there back = refl

pub live_streams : LiveStreams
live_streams role points given came written c stands still =
    let core = c.receiver.core in
    let live = (lives_runs role points (fresh role).receiver.core core (lives_new role) stands.runs).1 still in
    record {
      windows = λ n. both_ways (is_some (get core.flow.streams n)) (is_some (get core.streams.active n)) (live.only n tt) (live.held n);
      records = live.records;
    }

pub streams_move : StreamsMove
streams_move role points given came written c stands =
    (lives_runs role points (fresh role).receiver.core c.receiver.core (lives_new role) stands.runs).0
