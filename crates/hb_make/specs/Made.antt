-- The script that `make` prints: a workload and its policy are told, tunnels are opened and used, and an update revokes every
-- other one.
use Rattle.std.specs.Prelude.{ℕ, zero, suc, ◌+◌, ◌*◌, ◌%◌, ◌==◌, if◌then◌else◌, List, [], ◌∷◌, ◌++◌, codes}
use Rattle.hb_base.specs.declared.door.Door.TheVariants.{Inbound}
use Rattle.hb_world.specs.declared.line.Line.{Line}
use Rattle.hb_world.specs.declared.line.Line.TheVariants.{Accept, Open, Piece, Wake}
use Rattle.hb_make.specs.Octets.{answered, workloads, policies, changed_policies, data_frame, marks}
use Rattle.hb_make.specs.Octets.{front, preface, settings_frame, connect}

-- on link 1 a control plane tells the workload and the policy
abbrev pub base : List Line
base =
    Open 1 ∷ Wake ∷ Piece 1 answered ∷ Wake ∷ Piece 1 (data_frame workloads) ∷ Wake ∷ Piece 1 (data_frame policies) ∷ Wake ∷ []

-- where tunnel i leads: to the port 8080 where i is odd, to 9090 where it is even
abbrev pub target_of : ℕ → List ℕ
target_of i = if i % 2 == 1 then codes "10.0.0.7:8080" else codes "10.0.0.7:9090"

-- what comes first on the link of tunnel i
unfoldable pub opening : ℕ → List ℕ
opening i = front ++ preface ++ settings_frame ++ connect (target_of i)

-- tunnel i: it is asked for on link 2 i, its upstream is link 2 i + 1; i octets go up and three come down
abbrev pub tunnel : ℕ → List Line
tunnel i =
    Accept Inbound ∷ Piece (2 * i) (opening i) ∷ Wake ∷ Open (2 * i + 1) ∷ Wake
    ∷ Piece (2 * i) (data_frame (marks i)) ∷ Wake ∷ Piece (2 * i + 1) (codes "abc") ∷ Wake ∷ []

-- tunnels 1 to n
abbrev pub tunnels : ℕ → List Line
tunnels zero = []
tunnels (suc n) = tunnels n ++ tunnel (n + 1)

-- on link 1 a control plane tells the policy that leaves the port 9090 alone
abbrev pub update : List Line
update = Piece 1 (data_frame changed_policies) ∷ Wake ∷ []

-- the lines of the script of n tunnels
abbrev pub made : ℕ → List Line
made n = base ++ tunnels n ++ update
