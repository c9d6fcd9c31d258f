-- Where more comes, each tunnel whose upstream lives is admitted.
use Rattle.std.proofs.Common.{◌≡◌, ℕ, ◌<◌, ◌&&◌, not, Bool, true, List, ◌∷◌, refl, ap, ap₂, sym, ◌∙◌, subst, arith}
use Rattle.std.proofs.lemmas.Bool.{false≢true}
use Rattle.hb_base.specs.declared.cause.Cause.{Cause}
use Rattle.hb_inbound.proofs.EndsRun.{all_say, new_streams}
use Rattle.hb_inbound.proofs.Life.{SaysBy}
use Rattle.hb_inbound.specs.Ends as life
use Rattle.hb_inbound.specs.Ends.{Life, up_of}
use Rattle.hb_inbound.specs.Tunnel.{Tunnel, Stage, unasked, requested, refusing, malformed, due, opening, accepting, live, failed, ended, over, gone, takes_place}
use Rattle.hb_laws.proofs.Doors.{any_without, owner_without}
use Rattle.hb_laws.proofs.Living.{up_lives}
use Rattle.hb_laws.specs.Lawful.{Laws}
use Rattle.hb_laws.specs.RefusedTunnels.{is_more}
use Rattle.hb_model.specs.Messages.{held}
use Rattle.hb_model.specs.declared.config.NodeConfig.{NodeConfig}
use Rattle.hb_proxy.proofs.Projection.{links_run}
use Rattle.hb_proxy.specs.Doors.{without_doors}
use Rattle.hb_proxy.specs.Ends.{AllClosed}
use Rattle.hb_proxy.specs.Held.{at_start}
use Rattle.hb_proxy.specs.Machine.{Machine, local}
use Rattle.hb_proxy.specs.Owners.{owner, upstream_of}
use Rattle.hb_proxy.specs.Points.{Point, entries, control_of, parts_of}
use Rattle.hb_proxy.specs.Runs.{StandsFor}
use Rattle.hb_world.specs.Trace.{is_birth_of, is_close_of, lives}
use Rattle.hb_world.specs.declared.entry.Entry.{Entry}
use Rattle.hb_world.specs.declared.entry.Entry.TheVariants as e
use Rattle.hb_headline.specs.Access.{Admits}
use Rattle.hb_headline.proofs.Access.{admits_by}
use Rattle.hb_headline.proofs.Front.{header_of}

-- no call at a door stands where more comes
pub more_stays : (z : Entry) (rest : List Entry) → is_more z ≡ true → without_doors (z ∷ rest) ≡ z ∷ without_doors rest
more_stays (e.Balked w) rest more = absurd (false≢true more)
more_stays _ rest more = refl

-- a tunnel with an upstream that isn't closed stands, where none that ended has one
stands_by : (how : Life) (n : ℕ) (t : Tunnel) (stage : Stage) → SaysBy stage how n t → 0 < n
    → ((why : Cause) → how ≡ life.ended why → n ≡ 0) → (takes_place stage ≡ true) × (n ≡ t.up)
stands_by how n t unasked says some past = absurd (omega (arith, some, says.up))
stands_by how n t (requested headers end) says some past = absurd (omega (arith, some, says.up))
stands_by how n t (refusing status target) says some past = absurd (omega (arith, some, says.up))
stands_by how n t malformed says some past = absurd (omega (arith, some, says.up))
stands_by how n t due says some past = absurd (omega (arith, some, says.0.up))
stands_by how n t opening says some past = (refl, says.up)
stands_by how n t accepting says some past = (refl, says.up)
stands_by how n t live says some past = (refl, says.up)
stands_by how n t (failed why) says some past = absurd (omega (arith, some, past why says.life))
stands_by how n t (ended why) says some past = absurd (omega (arith, some, past why says.life))
stands_by how n t (over why) says some past = absurd (omega (arith, some, past why says.life))
stands_by how n t gone says some past = absurd (omega (arith, some, says.1))

-- AT A FRONT of the run, and of its trace
pub stands_admitted : (g : NodeConfig) (x : Machine) (front : List Point) (run : StandsFor g x front) (before : List Entry)
    → entries front ≡ without_doors before → Laws g front → AllClosed g front → (l s u : ℕ) → owner u before ≡ upstream_of l s
    → lives u before ≡ true → Admits (held g (control_of front)) before l s u
stands_admitted g x front run before before_is laws all l s u own living =
    let parts = parts_of l front in
    let t = (x.inbound l).tunnels s in
    let on_front = ap (owner u) before_is ∙ owner_without u before ∙ own in
    let living_front : lives u (entries front) ≡ true =
    ap (lives u) before_is
    ∙ ap₂ (λ (a b : Bool). a && not b) (any_without (is_birth_of u) (λ w. refl) before) (any_without (is_close_of u) (λ w. refl) before)
    ∙ living in
    let has = up_lives g x front run u l s on_front living_front in
    let says = (all_say new_streams l (at_start g) (local x l) parts (links_run g x front l run)).each s in
    let stand = stands_by (life.life (at_start g) s parts) (up_of s parts) t t.stage says (subst (λ (n : ℕ). 0 < n) (sym has.0) has.1)
    (λ why is. all.links l s why is) in
    admits_by g x front run before before_is laws l s u own (sym stand.1 ∙ has.0) stand.0 (header_of parts) refl
