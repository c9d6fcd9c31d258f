-- Each tunnel that ended, by rising stream.
use Rattle.std.proofs.Common.{◌≡◌, inl, inr, ℕ, ◌+◌, Bool, false, [], ◌∷◌, Option, Some, None, refl, ap, sym, ◌∙◌, subst, arith}
use Rattle.std.specs.Prelude.{⊤}
use Rattle.std.proofs.lemmas.Bool.{cases_eq, cases_lt}
use Rattle.std.specs.FinMap.{get}
use Rattle.hb_base.specs.declared.cause.Cause.{Cause}
use Rattle.hb_base.specs.declared.note.Note.{Note}
use Rattle.hb_base.specs.declared.note.Note.TheVariants as note
use Rattle.hb_conn.specs.Connection.{Connection, core_of, with_core}
use Rattle.hb_conn.specs.Observed.{sides, aborted}
use Rattle.hb_map.specs.Keyed.{IsFirstFrom}
use Rattle.hb_inbound.specs.Inbound.{Inbound}
use Rattle.hb_inbound.specs.Runs.{refused_on}
use Rattle.hb_inbound.specs.Tunnel as t
use Rattle.hb_inbound.specs.Tunnel.{is_failed, is_ended, is_unanswered}
use Rattle.hb_link.specs.declared.link.Link.{Link}
use Rattle.hb_link.specs.declared.tunnel.Stage.{Stage}
use Rattle.hb_link.specs.declared.tunnel.Stage.TheVariants.{Due, Opening, Live, Failed, Ended, Over}
use Rattle.hb_link.specs.declared.tunnel.Tunnel.{Tunnel}
use Rattle.hb_link.specs.Answering.{status_of_end, code_of_end, left_by, left_at, NoneIs, GotFailed, GotEnded, Gives}
use Rattle.hb_link.specs.Noted.{Told, Takes}
use Rattle.hb_link.specs.Settling.{Agrees, GotAll, KeepsCame}
use Rattle.hb_link.specs.Tunnels.{stage_of}
use Rattle.hb_link.proofs.Answered.{refused_came, told_failed, told_ended, failed_put, failed_left, ended_put, ended_left}
use Rattle.hb_link.proofs.Moving.{Map, link_with}
use Rattle.hb_link.proofs.Quiet.{left_quiet}
use Rattle.hb_link.proofs.Rousing.{rouses_none, rouses_same, rouses_then}
use Rattle.hb_link.proofs.Settles.{stays, settles_then}
use Rattle.hb_link.proofs.Shown.{is_at, stage_tunnel}

-- what came stays, over two changes
came_then : (k m n : Link) → KeepsCame k m → KeepsCame m n → KeepsCame k n
came_then k m n first behind = record {
  link = behind.link ∙ ap (λ (l : Link). record l { conn = n.conn; tunnels = n.tunnels }) first.link;
  came = behind.came ∙ ap (λ (c : Connection). with_core c (core_of n.conn)) first.came;
  rouses = rouses_then k m n first.rouses behind.rouses;
}

pub gives_then : (P Q R : Link → Inbound → Type 0) (k m n : Link) (told mid now : Told) → Gives P Q k told m mid
    → Gives Q R m mid n now → Gives P R k told n now
gives_then P Q R k m n told mid now first behind = record {
  settles = λ limits.
      settles_then limits (λ held. ⊤) P Q R k m n told mid now (first.settles limits) (behind.settles limits);
  came = came_then k m n first.came behind.came;
}

-- nothing is done where the one condition gives the other
pub gives_same : (P Q : Link → Inbound → Type 0) (k : Link) (told : Told) → ((x : Inbound) → P k x → Q k x) → Gives P Q k told k told
gives_same P Q k told gives = record {
  settles = λ limits. stays limits (λ held. ⊤) P Q k told gives;
  came = record { link = refl; came = refl; rouses = rouses_same k k refl refl };
}

-- where no tunnel below a stream is at such a stage
module _ (is : t.Stage → Bool) (unasked : is t.unasked ≡ false) (gone : is t.gone ≡ false)
    (over : (why : Cause) → is (t.over why) ≡ false) (k : Link) (x : Inbound) (agrees : Agrees k x) where
  -- nor is that one
  one_more : (s : ℕ) → is_at is (get k.tunnels s) ≡ false → NoneIs is (Some s) x → NoneIs is (Some (s + 1)) x
  one_more s not none j below = elim (cases_eq j s) [
    | inl same ↦ subst (λ (i : ℕ). is (x.tunnels i).stage ≡ false) (sym same)
        (sym (stage_tunnel is unasked gone over (get k.tunnels s) (x.tunnels s) (agrees.tunnels s)) ∙ not)
    | inr apart ↦ none j (omega (arith, apart, below))
  ]

  -- nor is any in front of the next that the code has
  none_at : (j : ℕ) → get k.tunnels j ≡ None → is (x.tunnels j).stage ≡ false
  none_at j none =
      sym (stage_tunnel is unasked gone over (get k.tunnels j) (x.tunnels j) (agrees.tunnels j)) ∙ ap (is_at is) none

  none_between : (n : ℕ) (next : Option ℕ) → IsFirstFrom k.tunnels n next → NoneIs is (Some n) x → NoneIs is next x
  none_between n None first none j below = elim (cases_lt j n) [
    | inl less ↦ none j less
    | inr more ↦ none_at j (first j more)
  ]
  none_between n (Some next) first none j below = elim (cases_lt j n) [
    | inl less ↦ none j less
    | inr more ↦ none_at j (first.2 j more below)
  ]

-- a tunnel of the code at another stage
pub other_failed : (stage : Stage) → ((why : Cause) → stage ≡ Failed why → ⊥) → is_failed (stage_of stage) ≡ false
other_failed Due other = refl
other_failed Opening other = refl
other_failed Live other = refl
other_failed (Failed why) other = absurd (other why refl)
other_failed (Ended why) other = refl
other_failed (Over why) other = refl

pub other_ended : (stage : Stage) → ((why : Cause) → stage ≡ Ended why → ⊥) → is_ended (stage_of stage) ≡ false
other_ended Due other = refl
other_ended Opening other = refl
other_ended Live other = refl
other_ended (Failed why) other = refl
other_ended (Ended why) other = absurd (other why refl)
other_ended (Over why) other = refl

-- TUNNELS THAT FAILED

pub failed_begin : (k : Link) (told : Told) (next : Option ℕ) → IsFirstFrom k.tunnels 0 next
    → Gives Agrees (GotFailed next) k told k told
failed_begin k told next first =
    gives_same Agrees (GotFailed next) k told (λ x agrees.
    record {
      agrees = agrees;
      failed = none_between is_failed refl refl (λ why. refl) k x agrees 0 next first (λ j below. absurd (omega (arith, below)));
    })

pub failed_next : (k : Link) (told : Told) (n : ℕ) (next : Option ℕ) → IsFirstFrom k.tunnels n next
    → Gives (GotFailed (Some n)) (GotFailed next) k told k told
failed_next k told n next first =
    gives_same (GotFailed (Some n)) (GotFailed next) k told (λ x got.
    record {
      agrees = got.agrees;
      failed = none_between is_failed refl refl (λ why. refl) k x got.agrees n next first got.failed;
    })

module _ (k : Link) (s : ℕ) (told : Told) where
  -- another one
  pub not_failed : is_at is_failed (get k.tunnels s) ≡ false → Gives (GotFailed (Some s)) (GotFailed (Some (s + 1))) k told k told
  not_failed not =
      gives_same (GotFailed (Some s)) (GotFailed (Some (s + 1))) k told (λ x got.
      record {
        agrees = got.agrees;
        failed = one_more is_failed refl refl (λ why. refl) k x got.agrees s not got.failed;
      })

  module _ (old : Tunnel) (why : Cause) (is : get k.tunnels s ≡ Some old) (stage : old.stage ≡ Failed why) where
    left_is : left_at why k.tunnels s ≡ left_by (Some old) why k.tunnels s
    left_is = ap (λ (o : Option Tunnel). left_by o why k.tunnels s) is

    pub fails_put : (n : ℕ) → status_of_end k s why ≡ Some n → (now : Told)
        → Takes told (note.Verdict k.number s n k.peer (Some old.target) ∷ []) now
        → Gives (GotFailed (Some s)) (GotFailed (Some (s + 1))) k told
        (link_with (refused_on s n (sides k.conn s).peer k.conn) (left_at why k.tunnels s) k) now
    fails_put n due now took =
        subst (λ (tunnels : Map). Gives (GotFailed (Some s)) (GotFailed (Some (s + 1))) k told
        (link_with (refused_on s n (sides k.conn s).peer k.conn) tunnels k) now) (sym left_is)
        (record {
          settles = λ limits start before a stands _ got.
              let telling = told_failed k a.link got.agrees s old is why stage in (
                refl,
                failed_put limits a k s old is why told got.agrees telling
                    (ap (λ (z : t.Tunnel). z.stage) telling ∙ ap stage_of stage) got.failed n due now took,
              );
          came = record {
            link = refl;
            came = refused_came k.conn s n (sides k.conn s).peer;
            rouses = rouses_none k _ refl (left_quiet old why k.tunnels s);
          };
        })

    pub fails_left : status_of_end k s why ≡ None → Gives (GotFailed (Some s)) (GotFailed (Some (s + 1))) k told
        (link_with k.conn (left_at why k.tunnels s) k) told
    fails_left due =
        subst (λ (tunnels : Map). Gives (GotFailed (Some s)) (GotFailed (Some (s + 1))) k told (link_with k.conn tunnels k) told)
        (sym left_is)
        (record {
          settles = λ limits start before a stands _ got.
              let telling = told_failed k a.link got.agrees s old is why stage in (
                refl,
                failed_left limits a k s old is why told got.agrees telling
                    (ap (λ (z : t.Tunnel). z.stage) telling ∙ ap stage_of stage) got.failed due,
              );
          came = record { link = refl; came = refl; rouses = rouses_none k _ refl (left_quiet old why k.tunnels s) };
        })

-- TUNNELS THAT ENDED

pub ended_begin : (k : Link) (told : Told) (next : Option ℕ) → IsFirstFrom k.tunnels 0 next
    → Gives (GotFailed None) (GotEnded next) k told k told
ended_begin k told next first =
    gives_same (GotFailed None) (GotEnded next) k told (λ x got.
    record {
      agrees = got.agrees;
      failed = got.failed;
      ended = none_between is_ended refl refl (λ why. refl) k x got.agrees 0 next first (λ j below. absurd (omega (arith, below)));
    })

pub ended_next : (k : Link) (told : Told) (n : ℕ) (next : Option ℕ) → IsFirstFrom k.tunnels n next
    → Gives (GotEnded (Some n)) (GotEnded next) k told k told
ended_next k told n next first =
    gives_same (GotEnded (Some n)) (GotEnded next) k told (λ x got.
    record {
      agrees = got.agrees;
      failed = got.failed;
      ended = none_between is_ended refl refl (λ why. refl) k x got.agrees n next first got.ended;
    })

module _ (k : Link) (s : ℕ) (told : Told) where
  pub not_ended : is_at is_ended (get k.tunnels s) ≡ false → Gives (GotEnded (Some s)) (GotEnded (Some (s + 1))) k told k told
  not_ended not =
      gives_same (GotEnded (Some s)) (GotEnded (Some (s + 1))) k told (λ x got.
      record {
        agrees = got.agrees;
        failed = got.failed;
        ended = one_more is_ended refl refl (λ why. refl) k x got.agrees s not got.ended;
      })

  module _ (old : Tunnel) (why : Cause) (is : get k.tunnels s ≡ Some old) (stage : old.stage ≡ Ended why) where
    abbrev made : Note
    made = note.End k.number s why old.went_up old.went_down

    ended_is : left_at why k.tunnels s ≡ left_by (Some old) why k.tunnels s
    ended_is = ap (λ (o : Option Tunnel). left_by o why k.tunnels s) is

    pub ends_put : (n : ℕ) → code_of_end k s why ≡ Some n → (now : Told) → Takes told (made ∷ []) now
        → Gives (GotEnded (Some s)) (GotEnded (Some (s + 1))) k told (link_with (aborted k.conn s n) (left_at why k.tunnels s) k) now
    ends_put n due now took =
        subst (λ (tunnels : Map). Gives (GotEnded (Some s)) (GotEnded (Some (s + 1))) k told
        (link_with (aborted k.conn s n) tunnels k) now) (sym ended_is)
        (record {
          settles = λ limits start before a stands _ got.
              let telling = told_ended k a.link got.agrees s old is why stage in (
                refl,
                ended_put limits a k s old is why told got.agrees telling
                    (ap (λ (z : t.Tunnel). z.stage) telling ∙ ap stage_of stage) got.failed got.ended n due now took,
              );
          came = record { link = refl; came = refl; rouses = rouses_none k _ refl (left_quiet old why k.tunnels s) };
        })

    pub ends_left : code_of_end k s why ≡ None → (now : Told) → Takes told (made ∷ []) now
        → Gives (GotEnded (Some s)) (GotEnded (Some (s + 1))) k told (link_with k.conn (left_at why k.tunnels s) k) now
    ends_left due now took =
        subst (λ (tunnels : Map). Gives (GotEnded (Some s)) (GotEnded (Some (s + 1))) k told (link_with k.conn tunnels k) now)
        (sym ended_is)
        (record {
          settles = λ limits start before a stands _ got.
              let telling = told_ended k a.link got.agrees s old is why stage in (
                refl,
                ended_left limits a k s old is why told got.agrees telling
                    (ap (λ (z : t.Tunnel). z.stage) telling ∙ ap stage_of stage) got.failed got.ended due now took,
              );
          came = record { link = refl; came = refl; rouses = rouses_none k _ refl (left_quiet old why k.tunnels s) };
        })

-- ALL

-- of the stages that the code has only these wait for an answer
stage_answered : (stage : Stage) → is_failed (stage_of stage) ≡ false → is_ended (stage_of stage) ≡ false
    → is_unanswered (stage_of stage) ≡ false
stage_answered Due failed ended = refl
stage_answered Opening failed ended = refl
stage_answered Live failed ended = refl
stage_answered (Failed why) failed ended = failed
stage_answered (Ended why) failed ended = ended
stage_answered (Over why) failed ended = refl

pub at_answered : (o : Option Tunnel) → is_at is_failed o ≡ false → is_at is_ended o ≡ false → is_at is_unanswered o ≡ false
at_answered None failed ended = refl
at_answered (Some k) failed ended = stage_answered k.stage failed ended

all_got : (k : Link) (x : Inbound) → GotEnded None k x → GotAll k x
all_got k x got = record {
  agrees = got.agrees;
  answered = λ s.
      let o = get k.tunnels s in
      let shows = got.agrees.tunnels s in
      sym (stage_tunnel is_unanswered refl refl (λ why. refl) o (x.tunnels s) shows)
      ∙ at_answered o (stage_tunnel is_failed refl refl (λ why. refl) o (x.tunnels s) shows ∙ got.failed s tt)
      (stage_tunnel is_ended refl refl (λ why. refl) o (x.tunnels s) shows ∙ got.ended s tt);
}

pub all_give : (k m n : Link) (told mid now : Told) → Gives Agrees (GotFailed None) k told m mid
    → Gives (GotFailed None) (GotEnded None) m mid n now → Gives Agrees GotAll k told n now
all_give k m n told mid now first behind =
    gives_then Agrees (GotEnded None) GotAll k n n told now now
    (gives_then Agrees (GotFailed None) (GotEnded None) k m n told mid now first behind)
    (gives_same (GotEnded None) GotAll n now (λ x got. all_got n x got))
