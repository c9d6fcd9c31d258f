-- What a link and the resources held become by points that are no entries.
use Rattle.std.specs.Prelude.{◌≡◌, ℕ, ◌<◌, [], ◌++◌, drop}
use Rattle.hb_base.specs.declared.cause.Cause.TheVariants as cause
use Rattle.hb_grpc.specs.Message.{spelling}
use Rattle.hb_grpc.specs.Reading.{fed}
use Rattle.hb_disco.specs.declared.response.Response.{Response}
use Rattle.hb_held.specs.Held.{Resources}
use Rattle.hb_conn.specs.Connection.{Connection}
use Rattle.hb_model.specs.Discovery.{Discovery, live, on_found, headers_read, ends_for, credited, put_requests, sendable, answer_to}
use Rattle.hb_model.specs.Point.{Point, looked, applied, refused, used, put}
use Rattle.hb_model.specs.Runs.{IsLook, IsResponse, IsRefused, IsUsed}
use Rattle.hb_node.specs.Judging.{Judges, Seen, Applies}

-- the resources held, the one to whom they are shown, and a link
pub record LinkState (J : Type 0) : Type 0 where
  pub seen : Seen J
  pub part : Discovery

abbrev pub with_part : {J : Type 0} → Discovery → LinkState J → LinkState J
with_part x a = record a { part = x }

-- a response of the link was applied, and its answer waits
abbrev pub with_response : Response → ℕ → Resources → Discovery → Discovery
with_response r n held x = record x {
  chunk = drop n x.chunk;
  framing = fed x.framing x.chunk;
  waiting = x.waiting ++ spelling (answer_to held r);
}

-- what is left of the DATA in hand is used up
abbrev pub with_used : ℕ → Discovery → Discovery
with_used n x = credited n (record x { chunk = []; framing = fed x.framing x.chunk })

-- what a point of the link that lives makes of them
abbrev pub LinkSteps : {J : Type 0} → Judges J → ℕ → LinkState J → Point → LinkState J → Type 0
LinkSteps judges l a (looked k points told headers) b =
    (k ≡ l) × (conn : Connection) × IsLook a.part points told conn × (headers ≡ headers_read conn)
    × (b ≡ with_part (on_found told conn a.part) a)
LinkSteps judges l a (applied k r) b =
    (k ≡ l) × (n : ℕ) × IsResponse a.part r n × Applies judges r a.seen b.seen
    × (b.part ≡ with_response r n a.seen.held a.part)
LinkSteps judges l a (refused k) b = (k ≡ l) × IsRefused a.part × (b ≡ with_part (ends_for cause.Discovery a.part) a)
LinkSteps judges l a (used k n) b = (k ≡ l) × IsUsed a.part n × (b ≡ with_part (with_used n a.part) a)
LinkSteps judges l a (put k bytes) b =
    (k ≡ l) × (bytes ≡ a.part.waiting) × (0 < sendable a.part) × (b ≡ with_part (put_requests a.part) a)
LinkSteps judges l a _ b = ⊥

-- such points lead from one to the other, one after another
pub data Leads {J : Type 0} (judges : Judges J) (l : ℕ) : LinkState J → LinkState J → Type 0 where
  stays : {a b : LinkState J} → b ≡ a → Leads judges l a b
  goes : {a b c : LinkState J} → (p : Point) → a.part.phase ≡ live → LinkSteps judges l a p b → Leads judges l b c → Leads judges l a c
