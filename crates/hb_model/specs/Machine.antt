-- The proxy as a machine: what each point of a run makes of it.
use Rattle.std.specs.Prelude.{ℕ, ◌==◌, Bool, true, false, is_none, if◌then◌else◌, [], List, ◌++◌, length, drop, Option, Some, None}
use Rattle.hb_base.specs.declared.cause.Cause.{Cause}
use Rattle.hb_base.specs.declared.door.Why.{Why}
use Rattle.hb_base.specs.declared.door.Why.TheVariants as whys
use Rattle.hb_base.specs.declared.target.Target.{Target}
use Rattle.hb_grpc.specs.Message.{spelling}
use Rattle.hb_grpc.specs.Reading.{fed}
use Rattle.hb_disco.specs.declared.response.Response.{Response}
use Rattle.hb_held.specs.Held.{Resources, nothing_held}
use Rattle.hb_held.specs.Outcome.{after_response}
use Rattle.hb_world.specs.declared.entry.Entry.{Entry}
use Rattle.hb_world.specs.declared.entry.Entry.TheVariants as e
use Rattle.hb_model.specs.declared.config.NodeConfig.{NodeConfig}
use Rattle.hb_model.specs.Discovery.{Discovery, Phase, live, faulted, closed, opened, ended, broken, stopped_for, no_link, dialled, came, wrote, credited, answer_to}

pub record Machine : Type 0 where
  -- the resources held
  pub held : Resources
  -- the control plane is to be dialled
  pub dials : Bool
  -- the number of the link that was born last, to whatever it is
  pub born : ℕ
  -- the link to the control plane that lives
  pub current : Option ℕ
  -- each link, by its number; a link that is gone stays as it was
  pub links : ℕ → Discovery
  -- the run ends
  pub over : Bool

-- at the start nothing is held, and the control plane is to be dialled
abbrev pub fresh : NodeConfig → Machine
fresh g = record {
  held = nothing_held g.network g.node g.doors;
  dials = true;
  born = 0;
  current = None;
  links = λ l. no_link;
  over = false;
}

-- the link l changes so
abbrev pub at : ℕ → (Discovery → Discovery) → ℕ → Discovery → Discovery
at l change k x = if l == k then change x else x

abbrev pub with_phase : (Phase → Phase) → Discovery → Discovery
with_phase change x = record x { phase = change x.phase }

abbrev pub without : ℕ → Option ℕ → Option ℕ
without l None = None
without l (Some k) = if l == k then None else Some k

-- a link is dialled; a link to anything but the control plane is none of these links
abbrev pub dialled_for : List ℕ → Target → Resources → Why → Discovery → Discovery
dialled_for id to held whys.Discovery x = dialled id to held
dialled_for id to held _ x = x

-- bytes come and go on links that are open; those of a link that isn't one of these links change none of them
abbrev pub by_open : Phase → Discovery → Discovery → Discovery
by_open live changed x = changed
by_open (faulted code) changed x = changed
by_open _ changed x = x

abbrev pub while_open : (Discovery → Discovery) → Discovery → Discovery
while_open change x = by_open x.phase (change x) x

-- what an entry makes of each link
abbrev pub heard : NodeConfig → Resources → Entry → ℕ → Discovery → Discovery
heard g held (e.Dialled l to why) k x = at l (dialled_for g.id to held why) k x
heard g held (e.Opened l) k x = at l (with_phase opened) k x
heard g held (e.Came l bytes) k x = at l (while_open (came bytes)) k x
heard g held (e.Went l bytes) k x = at l (while_open (wrote (length bytes))) k x
heard g held (e.Ended l) k x = at l (with_phase ended) k x
heard g held (e.Broke l) k x = at l (with_phase broken) k x
heard g held (e.Closed l cause) k x = at l (with_phase (λ p. closed)) k x
heard g held _ k x = x

-- whether the control plane is to be dialled: an answer to a dial ends that, and a tick begins it where no link to it lives
abbrev pub dials_after : Machine → Entry → Bool
dials_after m (e.Dialled l to whys.Discovery) = false
dials_after m (e.DialFailed to whys.Discovery) = false
dials_after m e.Tick = is_none m.current
dials_after m _ = m.dials

abbrev pub current_after : Machine → Entry → Option ℕ
current_after m (e.Dialled l to whys.Discovery) = Some l
current_after m (e.Closed l cause) = without l m.current
current_after m _ = m.current

abbrev pub born_after : Machine → Entry → ℕ
born_after m (e.Dialled l to why) = l
born_after m (e.Accepted l door) = l
born_after m _ = m.born

abbrev pub entered : NodeConfig → Entry → Machine → Machine
entered g entry m = record m {
  dials = dials_after m entry;
  born = born_after m entry;
  current = current_after m entry;
  links = λ k. heard g m.held entry k (m.links k);
}

-- the link l is this from now on
abbrev pub with_link : ℕ → Discovery → Machine → Machine
with_link l x m = record m { links = λ k. at l (λ y. x) k (m.links k) }

-- a response of the link l is applied, and its answer waits
abbrev pub with_response : ℕ → Response → ℕ → Machine → Machine
with_response l r n m = record (with_link l (record (m.links l) {
  chunk = drop n (m.links l).chunk;
  framing = fed (m.links l).framing (m.links l).chunk;
  waiting = (m.links l).waiting ++ spelling (answer_to m.held r);
}) m) { held = after_response m.held r }

-- what is left of the DATA handed out has no whole message: it is kept, and all of it is used up
abbrev pub with_used : ℕ → ℕ → Machine → Machine
with_used l n m = with_link l (credited n (record (m.links l) {
  chunk = [];
  framing = fed (m.links l).framing (m.links l).chunk;
})) m

abbrev pub with_stop : Cause → Machine → Machine
with_stop cause m = record m {
  dials = false;
  links = λ k. with_phase (stopped_for cause) (m.links k);
  over = true;
}
