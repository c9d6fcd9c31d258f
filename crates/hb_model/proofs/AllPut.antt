-- Where nothing waits to be written on a link, all is put.
use Rattle.std.proofs.Common.{◌≡◌, ◌⊎◌, inl, inr, ℕ, Bool, true, false, min, if◌then◌else◌, filter, List, [], ◌∷◌, ◌++◌, length, None, Some, is_some, refl, ap, sym, ◌∙◌, subst, arith}
use Rattle.std.specs.List.{list_any}
use Rattle.std.proofs.lemmas.Bool.{false≢true}
use Rattle.std.proofs.lemmas.List.{append-nil}
use Rattle.hb_frames.specs.RawFrame.{RawFrame}
use Rattle.hb_streams.specs.declared.role.Role.TheVariants.{Client}
use Rattle.hb_outgoing.specs.Selected.{data_size}
use Rattle.hb_outgoing.specs.Waiting.{spelled as out_spelled}
use Rattle.hb_conn.specs.Connection.{Connection}
use Rattle.hb_conn.specs.Observed.{outgoing, output, is_over, octets_held, own_side_open, sendable, count_put}
use Rattle.hb_history.specs.Answered.{is_answer}
use Rattle.hb_history.specs.OwnCredits.{is_left, IsGrantedAgain, GrantsAgain}
use Rattle.hb_history.specs.OwnFrames.{stage}
use Rattle.hb_history.specs.Points.{frames_got}
use Rattle.hb_history.specs.History.{ends_in, happenings, StandsFor as ConnStandsFor}
use Rattle.hb_history.specs.Sending.{increments}
use Rattle.hb_history.proofs.Answered.{answers_are_those}
use Rattle.hb_history.proofs.CanSend.{CanSend, side_is_open, used_up}
use Rattle.hb_history.proofs.First.{none_waits}
use Rattle.hb_history.proofs.OwnCredits.{own_credits}
use Rattle.hb_history.proofs.Steady.{held_partial}
use Rattle.hb_kept.specs.Payloads.{payloads}
use Rattle.hb_world.specs.Trace.{recv, sent}
use Rattle.hb_model.specs.declared.config.NodeConfig.{NodeConfig}
use Rattle.hb_model.specs.Discovery.{Discovery, Phase, live, stream}
use Rattle.hb_model.specs.Laws.{RunsPutAll}
use Rattle.hb_model.specs.Machine.{Machine}
use Rattle.hb_model.specs.Point.{Point, entries, moves, tellings}
use Rattle.hb_model.specs.Puts.{IsUsedUp}
use Rattle.hb_model.specs.Runs.{StandsFor}
use Rattle.hb_model.proofs.ConnectionsRun.{IsOne, all_one}
use Rattle.hb_model.proofs.CreditsRun.{all_keep}
use Rattle.hb_model.proofs.OwnFrames.{Suits, all_suited}
use Rattle.hb_model.proofs.RequestsRun.{IsGoing, IsAskedOn, all_asked}
use Rattle.hb_model.proofs.SendingRun.{all_sending}

least : (xs : List ℕ) (n : ℕ) → min (length xs) n ≡ 0 → (xs ≡ []) ⊎ (n ≡ 0)
least [] n is = inl refl
least (x ∷ xs) n is = inr (omega (arith, is))

-- where no octet is put, nothing waits, or the stream lets none go
pub none_put : (c : Connection) (bytes : List ℕ) (own : Bool) → is_over c ≡ false → output c ≡ []
    → (if own then count_put c stream bytes else 0) ≡ 0 → (bytes ≡ []) ⊎ ((own ≡ false) ⊎ (sendable c stream ≡ 0))
none_put c bytes false goes empty is = inr (inl refl)
none_put c bytes true goes empty is = from (least bytes (sendable c stream) (rw (goes, empty) at is))
  where
    from : (bytes ≡ []) ⊎ (sendable c stream ≡ 0) → (bytes ≡ []) ⊎ ((true ≡ false) ⊎ (sendable c stream ≡ 0))
    from (inl none) = inl none
    from (inr none) = inr (inr none)

-- nothing is left of what was begun
rest_none : (rest more : List ℕ) → rest ++ more ≡ [] → rest ≡ []
rest_none [] more none = refl
rest_none (x ∷ rest) more none = absurd cc

module _ (g : NodeConfig) (m : Machine) (points : List Point) (l : ℕ) (stands : StandsFor g m points) where
  abbrev x : Discovery
  x = m.links l

  abbrev asked : IsAskedOn g points l x
  asked = all_asked g m points stands l

  abbrev one : IsOne points l x
  one = all_one g m points stands l

  abbrev octets_came : List ℕ
  octets_came = recv l (entries points)

  abbrev octets_went : List ℕ
  octets_went = sent l (entries points)

  abbrev got : List RawFrame
  got = frames_got (moves l points)

  -- the link's connection stands for its moves, with which the frames began that the requests are in
  abbrev history : ConnStandsFor Client (moves l points) (tellings l points) octets_came octets_went x.conn
  history = record {
    runs = one.stands.runs;
    came = one.stands.came;
    told = one.stands.told;
    begun = asked.begun;
    begins = asked.begins;
    shows = asked.shows;
  }

  abbrev queue : List RawFrame
  queue = (outgoing x.conn).queue

  -- what is granted again by these frames
  credits : x.phase ≡ live → GrantsAgain (moves l points) (asked.begun ++ queue) x.conn
  credits alive =
      own_credits (moves l points) (tellings l points) octets_came octets_went x.conn history
      (subst (λ (q : Phase). Suits q (stage (moves l points))) alive (all_suited g m points stands l))

  by_begun : queue ≡ [] → (n size : ℕ) → IsGrantedAgain (increments n (asked.begun ++ queue)) size
      → IsGrantedAgain (increments n asked.begun) size
  by_begun none n size again =
      subst (λ (fs : List RawFrame). IsGrantedAgain (increments n fs) size)
      (ap (λ (fs : List RawFrame). asked.begun ++ fs) none ∙ append-nil asked.begun) again

  waits_so : (rest : List ℕ) → rest ≡ x.waiting → CanSend stream x.conn → is_over x.conn ≡ false → output x.conn ≡ []
      → (x.waiting ≡ []) ⊎ ((own_side_open x.conn stream ≡ false) ⊎ (sendable x.conn stream ≡ 0))
      → (rest ≡ []) ⊎ IsUsedUp asked.begun got
  waits_so rest same sends still none (inl empty) = inl (same ∙ empty)
  waits_so rest same sends still none (inr (inl shut)) = absurd (false≢true (sym shut ∙ side_is_open stream x.conn sends))
  waits_so rest same sends still none (inr (inr shut)) =
      inr (used_up Client (moves l points) (tellings l points) octets_came octets_went x.conn history still stream sends none shut)

pub put_all : RunsPutAll
put_all g m points l stands lives calm empty =
    let x = m.links l in
    let out = outgoing x.conn in
    let a = all_asked g m points stands l in
    let one = all_one g m points stands l in
    let going : IsGoing x.phase = subst IsGoing (sym lives) tt in
    let still = a.goes going in
    let sends = all_sending g m points stands l going in
    let none = none_waits out empty in
    let rest_is = a.follows.goes (still, ap is_some sends.0.1) in
    let keeps = all_keep g m points stands l going in
    let all_told : happenings (moves l points) ≡ tellings l points =
    one.stands.told ∙ ap (λ o. tellings l points ++ ends_in o) calm.looked_at.0 ∙ append-nil (tellings l points) in
    record {
      got = frames_got (moves l points);
      held = octets_held x.conn;
      came = record {
        joined = one.stands.came.frames_are;
        partial = held_partial x.conn calm.looked_at.1;
      };
      gone = a.begun;
      went = sym (append-nil (sent l (entries points)))
          ∙ ap (λ (xs : List ℕ). sent l (entries points) ++ xs) (sym (rest_none out.rest (out_spelled out.queue) empty))
          ∙ a.shows;
      answers = ap (filter is_answer) (sym (append-nil a.begun) ∙ ap (λ (fs : List RawFrame). a.begun ++ fs) (sym none))
          ∙ answers_are_those Client (moves l points) (tellings l points) (recv l (entries points)) (sent l (entries points)) x.conn
          (history g m points l stands) still;
      rest = a.follows.rest;
      front = a.follows.front
          ∙ ap (λ (fs : List RawFrame). payloads stream fs ++ a.follows.rest)
          (ap (λ (fs : List RawFrame). a.begun ++ fs) none ∙ append-nil a.begun);
      waits = waits_so g m points l stands a.follows.rest rest_is sends still empty
          (none_put x.conn x.waiting (own_side_open x.conn stream) still empty calm.all_put);
      connection_credit = by_begun g m points l stands none 0 (data_size None (frames_got (moves l points)))
          (credits g m points l stands lives).connection;
      stream_credit = by_begun g m points l stands none stream (data_size (Some stream) (frames_got (moves l points)))
          ((credits g m points l stands lives).stream (ap (list_any is_left) all_told ∙ keeps.0) (keeps.1 ∙ calm.empty_handed.1)
          (omega (arith, ap (λ (xs : List ℕ). length xs) empty)));
    }
