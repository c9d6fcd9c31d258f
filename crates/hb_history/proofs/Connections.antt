-- What moves make of a connection, for those above who see connections alone.
use Rattle.std.proofs.Common.{◌≡◌, ℕ, false, List, [], ◌∷◌, ◌++◌, refl, ap, sym, subst}
use Rattle.hb_frames.specs.RawFrame.{RawFrame}
use Rattle.hb_hpack.specs.Encoding.{block_of}
use Rattle.hb_hpack.specs.declared.header.Header.{Header}
use Rattle.hb_streams.specs.Moves.{after_number, begins}
use Rattle.hb_streams.specs.declared.role.Role.{Role}
use Rattle.hb_streams.specs.declared.role.Role.TheVariants.{Client}
use Rattle.hb_outgoing.specs.Written.{written}
use Rattle.hb_conn.specs.Connection.{Connection, core_of, fresh_client}
use Rattle.hb_conn.specs.Observed.{outgoing, streams, opened, wrote}
use Rattle.hb_conn.specs.Opening.{begun, headers_frame}
use Rattle.hb_conn.specs.declared.machine.Core.{Core}
use Rattle.hb_conn.specs.declared.found.Found.{Found}
use Rattle.hb_conn.specs.declared.found.Found.TheVariants.{Silent}
use Rattle.hb_history.specs.Calls.{IsLook, AreLooks, IsAct, acts, Makes}
use Rattle.hb_history.specs.History.{Leads, LeadsWith, Becomes, StandsFor}
use Rattle.hb_history.specs.Points.{Move, Point, point, After, Runs, begins_by}
use Rattle.hb_history.specs.Waits.{IsFirst}
use Rattle.hb_history.proofs.Adds.{act_adds, written_rest}
use Rattle.hb_history.proofs.First.{first_keeps, first_new}
use Rattle.hb_history.proofs.Lives.{Moved, moved_on}
use Rattle.hb_history.proofs.Looking.{looks_begin_none, looks_rest}
use Rattle.hb_history.proofs.Looks.{act_rest}
use Rattle.hb_history.proofs.Runs.{begins_more, begins_one}
use Rattle.hb_history.proofs.Steady.{first_stream}

-- what a law of histories says of all, it says of this connection
pub of_core : {P : Core → Type 0} → ((c : Core) → P c) → (c : Connection) → P (core_of c)
of_core law c = law (core_of c)

-- moves after moves
pub leads_more : (ps qs : List Point) (c mid d : Connection) (fs gs : List RawFrame) → LeadsWith c ps fs mid → LeadsWith mid qs gs d
    → LeadsWith c (ps ++ qs) (fs ++ gs) d
leads_more ps qs c mid d fs gs first then = begins_more ps qs (core_of c) (core_of mid) (core_of d) fs gs first then

-- one move
pub leads_one : (p : Point) (c d : Connection) (fs : List RawFrame) → begins_by (core_of c) p.move ≡ fs → Becomes c p d
    → LeadsWith c (p ∷ []) fs d
leads_one p c d fs is becomes = begins_one p (core_of c) (core_of d) fs is becomes

-- with looks none begins
pub looks_lead : (ps : List Point) (c d : Connection) → AreLooks ps → Leads c ps d → LeadsWith c ps [] d
looks_lead ps c d looks leads = looks_begin_none ps (core_of c) (core_of d) looks leads

-- what is left of the frames begun changes with a write alone
pub looks_leave : (ps : List Point) (c d : Connection) → AreLooks ps → Leads c ps d → (outgoing d).rest ≡ (outgoing c).rest
looks_leave ps c d looks leads = looks_rest ps (core_of c) (core_of d) looks leads

pub act_leaves : (c d : Connection) (p : Point) → IsAct p.move → Becomes c p d → (outgoing d).rest ≡ (outgoing c).rest
act_leaves c d p act becomes = act_rest (core_of c) p.move (core_of d) p.told act becomes

pub wrote_leaves : (c : Connection) (n : ℕ) → (outgoing (wrote c n)).rest ≡ (written n (outgoing c)).rest
wrote_leaves c n = written_rest (core_of c) n

-- an act adds to what a connection stands for
pub acts_add : (role : Role) (points : List Point) (given : List Found) (came went : List ℕ) (c d : Connection) (move : Move)
    → Makes c (acts move) d → StandsFor role points given came went c
    → StandsFor role (points ++ point move Silent ∷ []) given came went d
acts_add role points given came went c d move makes stands =
    subst (StandsFor role (points ++ point move Silent ∷ []) given came went) (sym makes.2)
    (act_adds role points given came went c move (core_of d) Silent makes.0 makes.1 stands)

looks_by : (P : Core → Type 0) → ((c : Core) (m : Move) (d : Core) (told : Found) → IsLook m → After c m d told → P c → P d)
    → (ps : List Point) (c d : Core) → AreLooks ps → Runs c ps d → P c → P d
looks_by P look [] c d looks runs h = subst P (sym runs) h
looks_by P look (p ∷ []) c d looks runs h = subst P (sym runs.2) (look c p.move runs.0 p.told looks runs.1 h)
looks_by P look (p ∷ q ∷ ps) c d looks runs h =
    looks_by P look (q ∷ ps) runs.0 d looks.2 runs.2 (look c p.move runs.0 p.told looks.0 runs.1 h)

-- what one look keeps, looks keep
pub looks_keep : (P : Core → Type 0) → ((c : Core) (m : Move) (d : Core) (told : Found) → IsLook m → After c m d told → P c → P d)
    → (ps : List Point) (c d : Connection) → AreLooks ps → Leads c ps d → P (core_of c) → P (core_of d)
looks_keep P look ps c d looks leads h = looks_by P look ps (core_of c) (core_of d) looks leads h

-- a new client that opened a stream: its output, its streams, and the greatest of them
pub first_out : (stream : ℕ) (headers : List Header) → IsFirst (outgoing (opened fresh_client stream headers false))
first_out stream headers =
    let core = core_of fresh_client in
    first_keeps.puts core.out (headers_frame stream false (block_of (begun core stream).encoder headers)) (refl, refl)
    (first_new Client)

pub first_moved : (stream : ℕ) (headers : List Header) → Moved Client (streams (opened fresh_client stream headers false))
first_moved stream headers =
    let old = core_of fresh_client in
    moved_on Client old.streams (streams (opened fresh_client stream headers false)) (begins old.peer.streams) refl ([], refl)

pub first_highest : (stream : ℕ) (headers : List Header) → (streams (opened fresh_client stream headers false)).highest ≡ 1
first_highest stream headers = ap (λ r. (after_number (streams fresh_client) r).highest) first_stream
