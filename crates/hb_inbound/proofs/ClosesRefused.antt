-- Closes of a link that the law refuses, and two that it lets, proved.
use Rattle.std.proofs.Common.{◌≡◌, ◌==◌, Bool, true, false, cond, [], ◌∷◌, ◌++◌, refl, ap, sym, ◌∙◌}
use Rattle.std.proofs.lemmas.Bool.{false≢true}
use Rattle.hb_base.specs.declared.cause.Cause.TheVariants as cause
use Rattle.hb_base.specs.declared.door.Door.TheVariants as door
use Rattle.hb_conn.specs.Observed.{streams_open}
use Rattle.hb_conn.specs.declared.found.Found.{Found}
use Rattle.hb_conn.specs.declared.found.Found.TheVariants as found
use Rattle.hb_world.specs.declared.entry.Entry.TheVariants as e
use Rattle.hb_inbound.specs.Closes.{ClosesAt}
use Rattle.hb_inbound.specs.Connections.{IsOneHistory}
use Rattle.hb_inbound.specs.Ends.{is_fault_told}
use Rattle.hb_inbound.specs.Part.{entry, crowded, misfronted, looked, stopped}
use Rattle.hb_inbound.specs.ClosesRefused.{welcomed_in, served, ClosesHealthy, ClosesForSecond, ClosesBroken, looked_on, ClosesDone, ReadsEnded, LooksStopped, WritesTwice, ClosesTwice, TurnsAwayLate, ClosesMisfronted, WritesOnce}
use Rattle.hb_inbound.proofs.RefusedRuns.{last, Places, places}

pub closes_healthy : ClosesHealthy
closes_healthy seen why law = last ClosesAt (served seen) (entry (e.Closed 2 why)) law

pub closes_for_second : ClosesForSecond
closes_for_second fault why other law =
    other (sym (last ClosesAt (welcomed_in ++ misfronted fault ∷ stopped why ∷ []) (entry (e.Closed 2 why)) law))

not_broken : (b : Bool) → cause.Broken ≡ cond b cause.Done cause.PeerGone → ⊥
not_broken true is = cc
not_broken false is = cc

gone_not : {b : Bool} → cause.Done ≡ cond b cause.Done cause.PeerGone → b ≡ false → ⊥
gone_not is none = let other : cause.Done ≡ cause.PeerGone = is ∙ ap (λ (c : Bool). cond c cause.Done cause.PeerGone) none in cc

pub closes_broken : ClosesBroken
closes_broken seen law =
    let at = last ClosesAt (served seen ++ entry (e.Ended 2) ∷ []) (entry (e.Closed 2 cause.Broken)) law in
    not_broken (streams_open at.0.conn == 0) at.1

pub closes_done : ClosesDone
closes_done seen points told headers some calm law =
    hung told calm (last ClosesAt (looked_on seen points told headers) (entry (e.Closed 2 cause.Done)) law) some
  where
    hung : (told : Found) → is_fault_told told ≡ false → ClosesAt (looked_on seen points told headers) (entry (e.Closed 2 cause.Done))
        → ((now : IsOneHistory (looked_on seen points told headers)) → (streams_open now.conn == 0) ≡ false) → ⊥
    hung found.Silent calm at some = gone_not at.1 (some at.0)
    hung (found.Opened s end) calm at some = gone_not at.1 (some at.0)
    hung (found.Chunk s end) calm at some = gone_not at.1 (some at.0)
    hung (found.Ended s) calm at some = gone_not at.1 (some at.0)
    hung (found.Reset s code) calm at some = gone_not at.1 (some at.0)
    hung (found.Broken s code) calm at some = gone_not at.1 (some at.0)
    hung (found.GoneAway last) calm at some = gone_not at.1 (some at.0)
    hung (found.Fault code) calm at some = false≢true (sym calm)

pub reads_ended : ReadsEnded
reads_ended seen bytes law = last ClosesAt (served seen ++ entry (e.Ended 2) ∷ []) (entry (e.Came 2 bytes)) law

pub looks_stopped : LooksStopped
looks_stopped seen why points told headers law =
    let at = last ClosesAt (served seen ++ stopped why ∷ []) (looked points told headers) law in cc

pub writes_twice : WritesTwice
writes_twice seen code points headers first second law =
    last ClosesAt (served seen ++ looked points (found.Fault code) headers ∷ entry (e.Went 2 first) ∷ []) (entry (e.Went 2 second)) law

pub closes_twice : ClosesTwice
closes_twice why again law =
    last ClosesAt (entry (e.Accepted 2 door.Inbound) ∷ crowded ∷ entry (e.Closed 2 why) ∷ []) (entry (e.Closed 2 again)) law

pub turns_away_late : TurnsAwayLate
turns_away_late law = let at = last ClosesAt welcomed_in crowded law in cc

pub closes_misfronted : ClosesMisfronted
unfolding Places
closes_misfronted fault = places ClosesAt [] _ (refl, (refl, (refl, (refl, tt))))

pub writes_once : WritesOnce
unfolding Places
writes_once seen code points headers bytes = places ClosesAt [] _ (refl, (refl, (refl, (refl, (tt, (refl, tt))))))
