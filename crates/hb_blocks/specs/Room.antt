-- The memory that header blocks take: the headers of a block and a block that isn't whole are never held together.
use Rattle.std.specs.Prelude.{◌≡◌, ℕ, ◌≤◌, [], Option, Some, None}
use Rattle.std.specs.Global.{Vec}
use Rattle.std.specs.Vec.{vec_capacity}
use Rattle.hb_hpack.specs.declared.header.HeaderList.{HeaderList}
use Rattle.hb_blocks.specs.declared.whole.Opening.{Opening}
use Rattle.hb_blocks.specs.Assembly.{no_headers, longest_block}

-- while no block is open, its vector holds no octet and no memory; while one is, there is room for the longest block, and
-- no headers are held
abbrev pub HoldsOne : Option Opening → Vec ℕ → HeaderList → Type 0
HoldsOne None block headers = (block.items ≡ []) × (vec_capacity block ≡ 0)
HoldsOne (Some opening) block headers = (longest_block ≤ vec_capacity block) × (headers ≡ no_headers)
