-- The connections of every run.
use Rattle.std.proofs.Common.{◌≡◌, ◌⊎◌, inl, inr, ℕ, ◌<◌, ◌≤◌, ◌==◌, Bool, false, if◌then◌else◌, List, [], ◌∷◌, ◌++◌, length, take, refl, ap, sym, ◌∙◌, subst, arith, length-append}
use Rattle.std.specs.List.{flat_map}
use Rattle.std.proofs.lemmas.Bool.{cond_both, eq-eqb}
use Rattle.std.proofs.lemmas.List.{append-nil, take_all}
use Rattle.std.proofs.Math.Seq.{take-append_seam}
use Rattle.hb_base.specs.declared.cause.Cause.TheVariants as cause
use Rattle.hb_base.specs.declared.door.Why.{Why}
use Rattle.hb_base.specs.declared.door.Why.TheVariants as whys
use Rattle.hb_base.specs.declared.target.Target.{Target}
use Rattle.hb_held.specs.Held.{Resources}
use Rattle.hb_streams.specs.declared.role.Role.TheVariants.{Client}
use Rattle.hb_conn.specs.Connection.{Connection, count_of, fresh_client}
use Rattle.hb_conn.specs.Connection as conn
use Rattle.hb_conn.specs.Observed.{output, creditable, opened, credited}
use Rattle.hb_conn.specs.declared.found.Found.{Found}
use Rattle.hb_history.specs.Points as history
use Rattle.hb_history.specs.History.{StandsFor as ConnStandsFor}
use Rattle.hb_history.specs.Calls.{in_list}
use Rattle.hb_history.proofs.Called.{nothing_stands}
use Rattle.hb_history.proofs.Fed.{take_adds}
use Rattle.hb_history.proofs.Adds.{write_adds}
use Rattle.hb_history.proofs.Connections.{acts_add}
use Rattle.hb_history.proofs.Looking.{looks_add}
use Rattle.hb_history.proofs.Steady.{first_stream}
use Rattle.hb_world.specs.Trace.{came_on, went_on, recv, sent}
use Rattle.hb_world.specs.declared.entry.Entry.{Entry}
use Rattle.hb_world.specs.declared.entry.Entry.TheVariants as e
use Rattle.hb_model.specs.declared.config.NodeConfig.{NodeConfig}
use Rattle.hb_model.specs.Discovery.{Discovery, Phase, stream, headers_of, live, dialled, came, wrote, on_found, ends_for, put_requests, stopped_for}
use Rattle.hb_model.specs.Machine.{Machine, while_open, heard, entered, with_phase}
use Rattle.hb_model.specs.Point.{Point, entry, looked, applied, refused, used, put, stopped, entry_in, entries, moves_in, moves, act, telling, tellings}
use Rattle.hb_model.specs.Runs.{wants, wants_of, wanted_by, output_by, MayCome, Steps, StandsFor, begins, goes_on, IsFaulted}
use Rattle.hb_model.specs.Laws.{RunsObeyConnections}
use Rattle.hb_model.proofs.Grown.{one_more, entries_more, of_all}
use Rattle.hb_model.proofs.Unborn.{AreUnborn, are_unborn, Passes, passes_looked, passes_used, passes_put, passes_dial, passes_came, passes_went, passes_applied}
use Rattle.hb_model.proofs.Open.{live_changes, open_changes}

-- the connection of a link stands for its moves and bytes
pub record IsOne (points : List Point) (l : ℕ) (x : Discovery) : Type 0 where
  pub stands : ConnStandsFor Client (moves l points) (tellings l points) (recv l (entries points)) (sent l (entries points)) x.conn

abbrev pub AreAllOne : Machine → List Point → Type 0
AreAllOne m points = (l : ℕ) → IsOne points l (m.links l)

-- but for a birth and for bytes an entry leaves the connections
abbrev IsQuietEntry : Entry → Type 0
IsQuietEntry (e.Dialled l to why) = ⊥
IsQuietEntry (e.Came l bytes) = ⊥
IsQuietEntry (e.Went l bytes) = ⊥
IsQuietEntry _ = Unit {0}

same_at : (b : Bool) (change x : Discovery) → change.conn ≡ x.conn → (if b then change else x).conn ≡ x.conn
same_at b change x same = cond_both b change x (λ y. y.conn ≡ x.conn) (λ is. same) (λ is. refl)

heard_conn : (g : NodeConfig) (held : Resources) (x : Entry) (l : ℕ) (d : Discovery) → IsQuietEntry x → (heard g held x l d).conn ≡ d.conn
heard_conn g held (e.Accepted k door) l d quiet = refl
heard_conn g held (e.Dialled k to why) l d quiet = absurd quiet
heard_conn g held (e.DialFailed to why) l d quiet = refl
heard_conn g held (e.Opened k) l d quiet = same_at (k == l) _ d refl
heard_conn g held (e.Came k bytes) l d quiet = absurd quiet
heard_conn g held (e.Ended k) l d quiet = same_at (k == l) _ d refl
heard_conn g held (e.Broke k) l d quiet = same_at (k == l) _ d refl
heard_conn g held (e.Went k bytes) l d quiet = absurd quiet
heard_conn g held (e.Balked way) l d quiet = refl
heard_conn g held (e.Shut k) l d quiet = refl
heard_conn g held (e.Closed k cause) l d quiet = same_at (k == l) _ d refl
heard_conn g held e.Tick l d quiet = refl
heard_conn g held (e.Wait ready way) l d quiet = refl

pub quiet_passes : (g : NodeConfig) (l : ℕ) (x : Entry) → IsQuietEntry x → Passes g l (entry x)
quiet_passes g l (e.Accepted k door) quiet =
    record { moves = refl; came = refl; went = refl; tells = refl; response = refl; request = λ held. refl }
quiet_passes g l (e.Dialled k to why) quiet = absurd quiet
quiet_passes g l (e.DialFailed to why) quiet =
    record { moves = refl; came = refl; went = refl; tells = refl; response = refl; request = λ held. refl }
quiet_passes g l (e.Opened k) quiet =
    record { moves = refl; came = refl; went = refl; tells = refl; response = refl; request = λ held. refl }
quiet_passes g l (e.Came k bytes) quiet = absurd quiet
quiet_passes g l (e.Ended k) quiet =
    record { moves = refl; came = refl; went = refl; tells = refl; response = refl; request = λ held. refl }
quiet_passes g l (e.Broke k) quiet =
    record { moves = refl; came = refl; went = refl; tells = refl; response = refl; request = λ held. refl }
quiet_passes g l (e.Went k bytes) quiet = absurd quiet
quiet_passes g l (e.Balked way) quiet =
    record { moves = refl; came = refl; went = refl; tells = refl; response = refl; request = λ held. refl }
quiet_passes g l (e.Shut k) quiet = record { moves = refl; came = refl; went = refl; tells = refl; response = refl; request = λ held. refl }
quiet_passes g l (e.Closed k cause) quiet =
    record { moves = refl; came = refl; went = refl; tells = refl; response = refl; request = λ held. refl }
quiet_passes g l e.Tick quiet = record { moves = refl; came = refl; went = refl; tells = refl; response = refl; request = λ held. refl }
quiet_passes g l (e.Wait ready way) quiet =
    record { moves = refl; came = refl; went = refl; tells = refl; response = refl; request = λ held. refl }

pub on_itself : {A : Type 0} (k : ℕ) (xs : List A) → (if k == k then xs else []) ≡ xs
on_itself k xs = rw (eq-eqb k k refl) refl

pub itself_alone : (k : ℕ) (xs : List ℕ) → (if k == k then xs else []) ++ [] ≡ xs
itself_alone k xs = append-nil (if k == k then xs else []) ∙ on_itself k xs

module _ (g : NodeConfig) (m : Machine) (points : List Point) (unborn : AreUnborn g m points) (one : AreAllOne m points) where
  -- with a point by which these moves are made on a link, and these bytes come and go
  grown : (p : Point) (l : ℕ) (x : Discovery) (ps : List history.Point) (comes goes : List ℕ) (tells : List Found)
      → moves_in l p ≡ ps → flat_map (came_on l) (entry_in p) ≡ comes → flat_map (went_on l) (entry_in p) ≡ goes → telling l p ≡ tells
      → ConnStandsFor Client (moves l points ++ ps) (tellings l points ++ tells) (recv l (entries points) ++ comes)
      (sent l (entries points) ++ goes) x.conn
      → IsOne (points ++ p ∷ []) l x
  grown p l x ps comes goes tells moved came went told now =
      let given = tellings l (points ++ p ∷ []) in
      let all : tellings l points ++ tells ≡ given =
      ap (λ ts. tellings l points ++ ts) (sym told) ∙ sym (one_more (telling l) points p) in
      record {
        stands = subst
            (λ qs. ConnStandsFor Client qs given (recv l (entries (points ++ p ∷ []))) (sent l (entries (points ++ p ∷ []))) x.conn)
            (ap (λ qs. moves l points ++ qs) (sym moved) ∙ sym (one_more (moves_in l) points p))
            (subst (λ bs. ConnStandsFor Client (moves l points ++ ps) given bs (sent l (entries (points ++ p ∷ []))) x.conn)
            (ap (λ bs. recv l (entries points) ++ bs) (sym came) ∙ sym (entries_more (came_on l) points p))
            (subst (λ bs. ConnStandsFor Client (moves l points ++ ps) given (recv l (entries points) ++ comes) bs x.conn)
            (ap (λ bs. sent l (entries points) ++ bs) (sym went) ∙ sym (entries_more (went_on l) points p))
            (subst (λ ts. ConnStandsFor Client (moves l points ++ ps) ts (recv l (entries points) ++ comes)
            (sent l (entries points) ++ goes) x.conn) all now)));
      }

  -- by which nothing is told
  silent : (p : Point) (l : ℕ) (x : Discovery) (ps : List history.Point) (comes goes : List ℕ)
      → moves_in l p ≡ ps → flat_map (came_on l) (entry_in p) ≡ comes → flat_map (went_on l) (entry_in p) ≡ goes → telling l p ≡ []
      → ConnStandsFor Client (moves l points ++ ps) (tellings l points) (recv l (entries points) ++ comes)
      (sent l (entries points) ++ goes) x.conn
      → IsOne (points ++ p ∷ []) l x
  silent p l x ps comes goes moved came went told now =
      grown p l x ps comes goes [] moved came went told
      (subst (λ ts. ConnStandsFor Client (moves l points ++ ps) ts (recv l (entries points) ++ comes) (sent l (entries points) ++ goes)
      x.conn) (sym (append-nil (tellings l points))) now)

  -- nothing more
  with_none : (l : ℕ) (ps : List history.Point) (comes goes : List ℕ) (given : List Found) (c : Connection)
      → ConnStandsFor Client ps given comes goes c → ConnStandsFor Client ps given (comes ++ []) (goes ++ []) c
  with_none l ps comes goes given c stands =
      subst (λ bs. ConnStandsFor Client ps given bs (goes ++ []) c) (sym (append-nil comes))
      (subst (λ bs. ConnStandsFor Client ps given comes bs c) (sym (append-nil goes)) stands)

  kept : (p : Point) (l : ℕ) (x : Discovery) → x.conn ≡ (m.links l).conn → Passes g l p → IsOne (points ++ p ∷ []) l x
  kept p l x same passes =
      silent p l x [] [] [] passes.moves passes.came passes.went passes.tells
      (subst (λ ps. ConnStandsFor Client ps (tellings l points) (recv l (entries points) ++ []) (sent l (entries points) ++ []) x.conn)
      (sym (append-nil (moves l points)))
      (with_none l (moves l points) (recv l (entries points)) (sent l (entries points)) (tellings l points) x.conn
      (subst (ConnStandsFor Client (moves l points) (tellings l points) (recv l (entries points)) (sent l (entries points))) (sym same)
      (one l).stands)))

  quiet_one : (x : Entry) → IsQuietEntry x → AreAllOne (entered g x m) (points ++ entry x ∷ [])
  quiet_one x quiet l = kept (entry x) l (heard g m.held x l (m.links l)) (heard_conn g m.held x l (m.links l) quiet)
      (quiet_passes g l x quiet)

  -- one link changes
  changed : (p : Point) (k : ℕ) (new : ℕ → Discovery) → IsOne (points ++ p ∷ []) k (new k)
      → ((l : ℕ) → (k == l) ≡ false → Passes g l p) → (l : ℕ) → IsOne (points ++ p ∷ []) l (if k == l then new l else m.links l)
  changed p k new here passes =
      of_all (IsOne (points ++ p ∷ [])) k new m.links here (λ l apart. kept p l (m.links l) refl (passes l apart))

  born_one : (k : ℕ) (to : Target) → m.born < k
      → AreAllOne (entered g (e.Dialled k to whys.Discovery) m) (points ++ entry (e.Dialled k to whys.Discovery) ∷ [])
  born_one k to above =
      let p = entry (e.Dialled k to whys.Discovery) in
      let none = (unborn k above).none in
      let move = history.opened stream (headers_of to) false in
      let new = opened fresh_client stream (headers_of to) false in
      let begun = acts_add Client [] [] [] [] fresh_client new move (tt, (first_stream, (refl, refl)), refl) (nothing_stands Client) in
      changed p k (λ l. dialled g.id to m.held)
      (silent p k (dialled g.id to m.held) (act move) [] [] (on_itself k (act move)) refl refl refl
      (subst (λ ts. ConnStandsFor Client (moves k points ++ act move) ts (recv k (entries points) ++ []) (sent k (entries points) ++ [])
      new)
      (sym none.tells)
      (subst (λ ps. ConnStandsFor Client (ps ++ act move) [] (recv k (entries points) ++ []) (sent k (entries points) ++ [])
      new)
      (sym none.moves)
      (subst (λ bs. ConnStandsFor Client (act move) [] (bs ++ []) (sent k (entries points) ++ []) new)
      (sym none.came)
      (subst (λ bs. ConnStandsFor Client (act move) [] [] (bs ++ []) new) (sym none.went) begun)))))
      (λ l apart. passes_dial g l k to whys.Discovery apart)

  came_one : (k : ℕ) (bytes : List ℕ) → MayCome g m (e.Came k bytes)
      → AreAllOne (entered g (e.Came k bytes) m) (points ++ entry (e.Came k bytes) ∷ [])
  came_one k bytes may =
      let p = entry (e.Came k bytes) in
      let c = (m.links k).conn in
      let most : wants m k ≡ wants_of (m.links k) = ap (λ (phase : Phase). wanted_by phase (m.links k)) may.0.1 in
      let all : take (count_of c bytes) bytes ≡ bytes = take_all (count_of c bytes) bytes (omega (arith, may.3, most)) in
      changed p k (λ l. while_open (came bytes) (m.links l))
      (subst (IsOne (points ++ p ∷ []) k) (sym (live_changes (came bytes) (m.links k) may.0.1))
      (silent p k (came bytes (m.links k)) [] bytes [] refl (itself_alone k bytes) refl refl
      (subst (λ ps. ConnStandsFor Client ps (tellings k points) (recv k (entries points) ++ bytes) (sent k (entries points) ++ [])
      (conn.taken c bytes))
      (sym (append-nil (moves k points)))
      (subst (λ bs. ConnStandsFor Client (moves k points) (tellings k points) (recv k (entries points) ++ bs)
      (sent k (entries points) ++ [])
      (conn.taken c bytes))
      all
      (subst (λ bs. ConnStandsFor Client (moves k points) (tellings k points) (recv k (entries points) ++ take (count_of c bytes) bytes) bs
      (conn.taken c bytes))
      (sym (append-nil (sent k (entries points))))
      (take_adds Client (moves k points) (tellings k points) (recv k (entries points)) (sent k (entries points)) bytes c may.1
      (one k).stands))))))
      (λ l apart. passes_came g l k bytes apart)

  went_one : (k : ℕ) (bytes rest : List ℕ) → ((m.links k).phase ≡ live) ⊎ IsFaulted m k → output (m.links k).conn ≡ bytes ++ rest
      → AreAllOne (entered g (e.Went k bytes) m) (points ++ entry (e.Went k bytes) ∷ [])
  went_one k bytes rest opened is =
      let p = entry (e.Went k bytes) in
      let c = (m.links k).conn in
      let n = length bytes in
      let within : n ≤ length (output c) = omega (arith, ap length is, length-append bytes rest) in
      let all : take n (output c) ≡ bytes = ap (take n) is ∙ take-append_seam bytes rest in
      let move = history.wrote n in
      let x = wrote n (m.links k) in
      let new = write_adds Client (moves k points) (tellings k points) (recv k (entries points)) (sent k (entries points)) c n within
      (one k).stands in
      changed p k (λ l. while_open (wrote n) (m.links l))
      (subst (IsOne (points ++ p ∷ []) k) (sym (open_changes (wrote n) m k opened))
      (silent p k x (act move) [] bytes (on_itself k (act move)) refl (itself_alone k bytes) refl
      (subst (λ bs. ConnStandsFor Client (moves k points ++ act move) (tellings k points) bs (sent k (entries points) ++ bytes) x.conn)
      (sym (append-nil (recv k (entries points))))
      (subst (λ bs. ConnStandsFor Client (moves k points ++ act move) (tellings k points) (recv k (entries points))
      (sent k (entries points) ++ bs) x.conn)
      all new))))
      (λ l apart. passes_went g l k bytes apart)

  entry_one : (x : Entry) → MayCome g m x → AreAllOne (entered g x m) (points ++ entry x ∷ [])
  entry_one (e.Accepted k door) may = absurd may
  entry_one (e.Dialled k to why) may =
      subst (λ (w : Why). AreAllOne (entered g (e.Dialled k to w) m) (points ++ entry (e.Dialled k to w) ∷ [])) (sym may.3)
      (born_one k to may.1)
  entry_one (e.DialFailed to why) may = quiet_one _ tt
  entry_one (e.Opened k) may = quiet_one _ tt
  entry_one (e.Came k bytes) may = came_one k bytes may
  entry_one (e.Ended k) may = quiet_one _ tt
  entry_one (e.Broke k) may = quiet_one _ tt
  entry_one (e.Went k bytes) (inl may, some, rest) =
      went_one k bytes rest.0 (inl may.1) (sym (ap (λ (phase : Phase). output_by phase (m.links k)) may.1) ∙ rest.1)
  entry_one (e.Went k bytes) (inr may, some, rest) =
      went_one k bytes rest.0 (inr may) (sym (ap (λ (phase : Phase). output_by phase (m.links k)) may.1) ∙ rest.1)
  entry_one (e.Balked way) may = quiet_one _ tt
  entry_one (e.Shut k) may = absurd may
  entry_one (e.Closed k cause) may = quiet_one _ tt
  entry_one e.Tick may = quiet_one _ tt
  entry_one (e.Wait ready way) may = quiet_one _ tt

  -- by points between entries
  linked : (p : Point) (k : ℕ) (n next : Machine) (new : Discovery) → n ≡ next
      → ((l : ℕ) → next.links l ≡ (if k == l then new else m.links l))
      → IsOne (points ++ p ∷ []) k new → ((l : ℕ) → (k == l) ≡ false → Passes g l p) → AreAllOne n (points ++ p ∷ [])
  linked p k n next new is links here passes l =
      subst (IsOne (points ++ p ∷ []) l) (sym (ap (λ (x : Machine). x.links l) is ∙ links l)) (changed p k (λ j. new) here passes l)

  inner : (p : Point) (k : ℕ) (x : Discovery) (ps : List history.Point) → moves_in k p ≡ ps
      → flat_map (came_on k) (entry_in p) ≡ [] → flat_map (went_on k) (entry_in p) ≡ [] → telling k p ≡ []
      → ConnStandsFor Client (moves k points ++ ps) (tellings k points) (recv k (entries points)) (sent k (entries points)) x.conn
      → IsOne (points ++ p ∷ []) k x
  inner p k x ps moved came went told now =
      silent p k x ps [] [] moved came went told
      (with_none k (moves k points ++ ps) (recv k (entries points)) (sent k (entries points)) (tellings k points) x.conn now)

  pub point_one : (p : Point) (n : Machine) → Steps g m p n → AreAllOne n (points ++ p ∷ [])
  point_one (entry x) n steps = subst (λ (y : Machine). AreAllOne y (points ++ entry x ∷ [])) (sym steps.1) (entry_one x steps.0)
  point_one (looked k ps told headers) n steps =
      let look = steps.2 in
      linked (looked k ps told headers) k n _ (on_found told steps.1 (m.links k)) steps.4 (λ l. refl)
      (grown (looked k ps told headers) k (on_found told steps.1 (m.links k)) ps [] [] (in_list told) (on_itself k ps) refl refl
      (on_itself k (in_list told))
      (with_none k (moves k points ++ ps) (recv k (entries points)) (sent k (entries points)) (tellings k points ++ in_list told) steps.1
      (looks_add Client (moves k points) ps (tellings k points) (recv k (entries points)) (sent k (entries points))
      (m.links k).conn steps.1 told
      (one k).stands look.found.finds look.found.looks look.found.runs look.found.frames look.found.tells)))
      (λ l apart. passes_looked g l k ps told headers apart)
  point_one (applied k r) n steps =
      linked (applied k r) k n _ _ steps.3 (λ l. refl)
      (inner (applied k r) k _ [] refl refl refl refl
      (subst (λ ps. ConnStandsFor Client ps (tellings k points) (recv k (entries points)) (sent k (entries points)) (m.links k).conn)
      (sym (append-nil (moves k points))) (one k).stands))
      (λ l apart. passes_applied g l k r apart)
  point_one (refused k) n steps =
      linked (refused k) k n _ _ steps.2 (λ l. refl)
      (kept (refused k) k (ends_for cause.Discovery (m.links k)) refl
      (record { moves = refl; came = refl; went = refl; tells = refl; response = refl; request = λ held. refl }))
      (λ l apart. record { moves = refl; came = refl; went = refl; tells = refl; response = refl; request = λ held. refl })
  point_one (used k n) next steps =
      let c = (m.links k).conn in
      let move = history.credited stream n in
      let within : n ≤ creditable c stream = omega (arith, steps.1.counted) in
      linked (used k n) k next _ _ steps.2 (λ l. refl)
      (inner (used k n) k _ (act move) (on_itself k (act move)) refl refl refl
      (acts_add Client (moves k points) (tellings k points) (recv k (entries points)) (sent k (entries points)) c
      (credited c stream n) move (tt, (within, (refl, refl)), refl) (one k).stands))
      (λ l apart. passes_used g l k n apart)
  point_one (put k bytes) n steps =
      let c = (m.links k).conn in
      let x = put_requests (m.links k) in
      let move = history.put stream (m.links k).waiting in
      linked (put k bytes) k n _ x steps.3 (λ l. refl)
      (inner (put k bytes) k x (act move)
      (on_itself k (act (history.put stream bytes)) ∙ ap (λ (bs : List ℕ). act (history.put stream bs)) steps.1) refl refl refl
      (acts_add Client (moves k points) (tellings k points) (recv k (entries points)) (sent k (entries points)) c x.conn move
      (tt, (refl, refl), refl) (one k).stands))
      (λ l apart. passes_put g l k bytes apart)
  point_one (stopped cause) n steps =
      subst (λ (y : Machine). AreAllOne y (points ++ stopped cause ∷ [])) (sym steps.1)
      (λ l. kept (stopped cause) l (with_phase (stopped_for cause) (m.links l)) refl
      (record { moves = refl; came = refl; went = refl; tells = refl; response = refl; request = λ held. refl }))

pub all_one : (g : NodeConfig) (m : Machine) (points : List Point) → StandsFor g m points → AreAllOne m points
all_one g m points (begins is none) = λ l.
    subst (λ ps. IsOne ps l (m.links l)) (sym none)
    (subst (λ (x : Machine). IsOne [] l (x.links l)) (sym is) (record { stands = nothing_stands Client }))
all_one g n more (goes_on before p steps grows) =
    subst (AreAllOne n) (sym grows) (point_one g _ _ (are_unborn g _ _ before) (all_one g _ _ before) p n steps)

pub obey_connections : RunsObeyConnections
obey_connections g m points stands l control = record { conn = (m.links l).conn; stands = (all_one g m points stands l).stands }
