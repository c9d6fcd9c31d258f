-- Calls that follow one another, and what is known of all links between them.
use Rattle.std.proofs.Common.{◌≡◌, ℕ, true, List, [], ◌∷◌, ◌++◌, refl, sym, subst}
use Rattle.std.proofs.lemmas.Grind.{flat_map-append}
use Rattle.hb_base.specs.declared.note.Note.{Note}
use Rattle.hb_captured.specs.Captured.{Captured}
use Rattle.hb_link.proofs.Noted.{takes_then}
use Rattle.hb_link.specs.Noted.{Told, Takes}
use Rattle.hb_model.specs.declared.config.NodeConfig.{NodeConfig}
use Rattle.hb_proxy.specs.Machine.{Machine, Outward, outward}
use Rattle.hb_proxy.specs.Notes.{notes, note_in}
use Rattle.hb_proxy.specs.Points.{Point}
use Rattle.hb_proxy.specs.Runs.{StandsFor, goes_on}
use Rattle.hb_relays.specs.Joining.{Links, Streams, ShowsSome, GoesOn, all, every}
use Rattle.hb_relays.specs.Reaches.{IsInner, Leads, LeadsBy, Follows}
use Rattle.hb_relays.specs.Shows.{ShowsRelays}
use Rattle.hb_relays.specs.declared.relays.Relays.{Relays}

-- WHAT IS KNOWN

pub all_known : (g : NodeConfig) (k : Relays) (x : Outward) → ShowsRelays g k x → ShowsSome all every all g k x
all_known g k x shows = record {
  relays = shows.relays;
  index = shows.index;
  numbered = shows.numbered;
  idle = shows.idle;
  counted = shows.counted;
  gates = shows.gates;
  gate_numbered = shows.gate_numbered;
  gate_idle = shows.gate_idle;
  gates_calm = λ n is. shows.calm.gates n;
  streams = λ l is. shows.calm.streams l;
  wanting = λ l is. shows.wanting l;
}

-- of fewer links, streams and links to gateways it is known too
pub knows : (some less : Links) (streams fewer : Streams) (calm calmer : Links) (g : NodeConfig) (k : Relays) (x : Outward)
    → ((l : ℕ) → less l ≡ true → some l ≡ true) → ((l : ℕ) (c : Captured) → fewer l c ≡ true → streams l c ≡ true)
    → ((n : ℕ) → calmer n ≡ true → calm n ≡ true) → ShowsSome some streams calm g k x → ShowsSome less fewer calmer g k x
knows some less streams fewer calm calmer g k x waits rests calms shows = record {
  relays = shows.relays;
  index = shows.index;
  numbered = shows.numbered;
  idle = shows.idle;
  counted = shows.counted;
  gates = shows.gates;
  gate_numbered = shows.gate_numbered;
  gate_idle = shows.gate_idle;
  gates_calm = λ n is. shows.gates_calm n (calms n is);
  streams = λ l is. shows.streams l (rests l (x.plain l) is);
  wanting = λ l is. shows.wanting l (waits l is);
}

pub is_all : (some : Links) (streams : Streams) (calm : Links) (g : NodeConfig) (k : Relays) (x : Outward) → ((l : ℕ) → some l ≡ true)
    → ((l : ℕ) (c : Captured) → streams l c ≡ true) → ((n : ℕ) → calm n ≡ true) → ShowsSome some streams calm g k x → ShowsRelays g k x
is_all some streams calm g k x waits rests calms shows = record {
  relays = shows.relays;
  index = shows.index;
  numbered = shows.numbered;
  idle = shows.idle;
  counted = shows.counted;
  gates = shows.gates;
  gate_numbered = shows.gate_numbered;
  gate_idle = shows.gate_idle;
  calm = record {
    gates = λ n. shows.gates_calm n (calms n);
    streams = λ l. shows.streams l (rests l (x.plain l));
  };
  wanting = λ l. shows.wanting l (waits l);
}

-- POINTS ONE AFTER ANOTHER

pub append_by : (I : Point → Type 0) (g : NodeConfig) (x y z : Machine) (first more : List Point) → LeadsBy I g x first y
    → LeadsBy I g y more z → LeadsBy I g x (first ++ more) z
append_by I g x y z [] more is behind = subst (λ (w : Machine). LeadsBy I g w more z) is behind
append_by I g x y z (p ∷ first) more is behind = (is.0, is.1, is.2, append_by I g is.1 y z first more is.3 behind)

pub leads_append : (g : NodeConfig) (x y z : Machine) (first more : List Point) → Leads g x first y → Leads g y more z
    → Leads g x (first ++ more) z
leads_append g x y z first more is behind = append_by IsInner g x y z first more is behind

-- a run goes on by them
pub stands_by : (I : Point → Type 0) (g : NodeConfig) (x : Machine) (points : List Point) (more : List Point) (y : Machine)
    → StandsFor g x points → LeadsBy I g x more y → (all_points : List Point) × StandsFor g y all_points
stands_by I g x points [] y stands is = (points, subst (λ (w : Machine). StandsFor g w points) (sym is) stands)
stands_by I g x points (p ∷ more) y stands is =
    stands_by I g is.1 (points ++ p ∷ []) more y (goes_on stands p is.2 refl) is.3

pub stands_on : (g : NodeConfig) (x : Machine) (points : List Point) (more : List Point) (y : Machine) → StandsFor g x points
    → Leads g x more y → (all_points : List Point) × StandsFor g y all_points
stands_on g x points more y stands is = stands_by IsInner g x points more y stands is

pub noted_then : (told mid now : Told) (first more : List Point) → Takes told (notes first) mid → Takes mid (notes more) now
    → Takes told (notes (first ++ more)) now
noted_then told mid now first more one two =
    subst (λ (ns : List Note). Takes told ns now) (sym (flat_map-append note_in first more))
    (takes_then told mid now (notes first) (notes more) one two)

-- CALLS ONE AFTER ANOTHER: such points lead to where so much is known
pub record Comes (some : Links) (streams : Streams) (calm : Links) (g : NodeConfig) (x : Machine) (k : Relays) (told now : Told) : Type 0
  where
    pub more : List Point
    pub reached : Machine
    pub leads : Leads g x more reached
    pub shows : ShowsSome some streams calm g k (outward reached)
    pub noted : Takes told (notes more) now

module _ (some less : Links) (streams fewer : Streams) (calm calmer : Links) (g : NodeConfig) (x : Machine) (k m : Relays)
    (told mid now : Told) where
  abbrev pub comes_then : (first : Comes some streams calm g x k told mid) → GoesOn less fewer calmer g first.reached m mid now
      → Comes less fewer calmer g x m told now
  comes_then first last = record {
    more = first.more ++ last.more;
    reached = last.reached;
    leads = leads_append g x first.reached last.reached first.more last.more first.leads last.leads;
    shows = last.shows;
    noted = noted_then told mid now first.more last.more first.noted last.noted;
  }

  abbrev pub goes_then : (first : GoesOn some streams calm g x k told mid) → GoesOn less fewer calmer g first.reached m mid now
      → GoesOn less fewer calmer g x m told now
  goes_then first last = record {
    more = first.more ++ last.more;
    reached = last.reached;
    leads = leads_append g x first.reached last.reached first.more last.more first.leads last.leads;
    shows = last.shows;
    undue = λ l un. last.undue l (first.undue l un);
    noted = noted_then told mid now first.more last.more first.noted last.noted;
  }

-- where all is known they follow
pub comes_whole : (some : Links) (streams : Streams) (calm : Links) (g : NodeConfig) (x : Machine) (k : Relays) (told now : Told)
    → ((l : ℕ) → some l ≡ true) → ((l : ℕ) (c : Captured) → streams l c ≡ true) → ((n : ℕ) → calm n ≡ true)
    → Comes some streams calm g x k told now → Follows g x k told now
comes_whole some streams calm g x k told now waits rests calms comes = record {
  more = comes.more;
  reached = comes.reached;
  leads = comes.leads;
  shows = is_all some streams calm g k (outward comes.reached) waits rests calms comes.shows;
  noted = comes.noted;
}

abbrev pub goes_follow : (g : NodeConfig) (x : Machine) (k : Relays) (told now : Told) → GoesOn all every all g x k told now
    → Follows g x k told now
goes_follow g x k told now goes = record {
  more = goes.more;
  reached = goes.reached;
  leads = goes.leads;
  shows = is_all all every all g k (outward goes.reached) (λ l. refl) (λ l c. refl) (λ n. refl) goes.shows;
  noted = goes.noted;
}
