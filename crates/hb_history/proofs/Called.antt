-- Any calls, one after another.
use Rattle.std.proofs.Common.{◌≡◌, ℕ, List, [], ◌∷◌, ◌++◌, refl, ap, sym, ◌∙◌, subst}
use Rattle.std.specs.List.{flat_map}
use Rattle.std.proofs.lemmas.List.{append_assoc, append-nil}
use Rattle.hb_streams.specs.declared.role.Role.{Role}
use Rattle.hb_streams.specs.declared.role.Role.TheVariants.{Server, Client}
use Rattle.hb_frames.proofs.Runs.{no_octets}
use Rattle.hb_conn.specs.Connection.{Connection}
use Rattle.hb_conn.specs.declared.found.Found.{Found}
use Rattle.hb_conn.specs.declared.found.Found.TheVariants.{Silent}
use Rattle.hb_history.specs.Points.{Point, point, wrote}
use Rattle.hb_history.specs.History.{fresh, StandsFor}
use Rattle.hb_history.specs.Calls.{Begins, Call, takes, asks, acts, writes, Makes, tells, takes_in, writes_out, MakesAll, CallsStand, AnyCut}
use Rattle.hb_history.proofs.Fed.{take_adds}
use Rattle.hb_history.proofs.Adds.{next_adds, act_adds, write_adds}

same_stands : (role : Role) (points : List Point) (given told : List Found) (came more written out : List ℕ) (c d : Connection)
    → given ≡ told → came ≡ more → written ≡ out → c ≡ d → StandsFor role points given came written c
    → StandsFor role points told more out d
same_stands role points given told came more written out c d g t w is stands =
    subst (λ (x : Connection). StandsFor role points told more out x) is
    (subst (λ (xs : List ℕ). StandsFor role points told more xs c) w
    (subst (λ (xs : List ℕ). StandsFor role points told xs written c) t
    (subst (λ (xs : List Found). StandsFor role points xs came written c) g stands)))

abbrev Stands : Role → List Found → List ℕ → List ℕ → Connection → Type 0
Stands role given came written c = (points : List Point) × StandsFor role points given came written c

call_adds : (role : Role) (points : List Point) (given : List Found) (came written : List ℕ) (c d : Connection) (call : Call)
    → StandsFor role points given came written c → Makes c call d
    → Stands role (given ++ tells call) (came ++ takes_in c call) (written ++ writes_out c call) d
call_adds role points given came written c d (takes piece) stands made = (
  points,
  same_stands role points given _ _ _ written _ _ d (sym (append-nil given)) refl (sym (append-nil written)) (sym made.1)
      (take_adds role points given came written piece c made.0 stands),
)
call_adds role points given came written c d (asks told) stands made =
    let looked = next_adds role points given came written c d told stands made in (
      points ++ looked.more,
      same_stands role (points ++ looked.more) _ _ came _ written _ d d refl (sym (append-nil came)) (sym (append-nil written)) refl
          looked.stands,
    )
call_adds role points given came written c d (acts move) stands made = (
  points ++ point move Silent ∷ [],
  same_stands role (points ++ point move Silent ∷ []) given _ came _ written _ _ d (sym (append-nil given)) (sym (append-nil came))
      (sym (append-nil written)) (sym made.2)
      (act_adds role points given came written c move d.receiver.core Silent made.0 made.1 stands),
)
call_adds role points given came written c d (writes n) stands made = (
  points ++ point (wrote n) Silent ∷ [],
  same_stands role (points ++ point (wrote n) Silent ∷ []) given _ came _ _ _ _ d (sym (append-nil given)) (sym (append-nil came)) refl
      (sym made.1) (write_adds role points given came written c n made.0 stands),
)

all_stand : (role : Role) (calls : List Call) (points : List Point) (given : List Found) (came written more out : List ℕ) (c d : Connection)
    → StandsFor role points given came written c → MakesAll c calls more out d
    → Stands role (given ++ flat_map tells calls) (came ++ more) (written ++ out) d
all_stand role [] points given came written more out c d stands made = (
  points,
  same_stands role points given _ came _ written _ c d (sym (append-nil given))
      (sym (append-nil came) ∙ ap (λ (xs : List ℕ). came ++ xs) (sym made.1))
      (sym (append-nil written) ∙ ap (λ (xs : List ℕ). written ++ xs) (sym made.2)) (sym made.0) stands,
)
all_stand role (call ∷ calls) points given came written more out c d stands made =
    let one = call_adds role points given came written c made.0 call stands made.1 in
    let all = all_stand role calls one.0 (given ++ tells call) (came ++ takes_in c call) (written ++ writes_out c call) made.2 made.4
    made.0 d one.1 made.6 in (
      all.0,
      same_stands role all.0 _ _ _ _ _ _ d d (append_assoc given (tells call) (flat_map tells calls))
          (append_assoc came (takes_in c call) made.2 ∙ ap (λ (xs : List ℕ). came ++ xs) (sym made.3))
          (append_assoc written (writes_out c call) made.4 ∙ ap (λ (xs : List ℕ). written ++ xs) (sym made.5)) refl all.1,
    )

pub nothing_stands : Begins
nothing_stands Server = record {
  runs = refl;
  came = record { are_octets = no_octets; count = refl; same = refl; frames_are = refl };
  told = refl;
  begun = [];
  begins = (refl, refl);
  shows = refl;
}
nothing_stands Client = record {
  runs = refl;
  came = record { are_octets = no_octets; count = refl; same = refl; frames_are = refl };
  told = refl;
  begun = [];
  begins = (refl, refl);
  shows = refl;
}

pub calls_stand : CallsStand
calls_stand role calls came written c made =
    all_stand role calls [] [] [] [] came written (fresh role) c (nothing_stands role) made

pub any_cut : AnyCut
any_cut role points given others came others_came written others_written c d first second = sym first.told ∙ second.told
