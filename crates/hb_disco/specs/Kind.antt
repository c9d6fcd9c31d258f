-- The kinds of resources that ambient mode discovers.
use Rattle.std.specs.Prelude.{ℕ, List, codes}
use Rattle.hb_disco.specs.declared.kind.Kind.{Kind}
use Rattle.hb_disco.specs.declared.kind.Kind.TheVariants.{Address, Authorization}

-- the type URLs of the two kinds
abbrev pub type_url : Kind → List ℕ
type_url Address = codes "type.googleapis.com/istio.workload.Address"
type_url Authorization = codes "type.googleapis.com/istio.security.Authorization"
