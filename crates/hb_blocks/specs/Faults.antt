-- The error codes of header blocks that are refused (RFC 9113 section 7).
use Rattle.std.specs.Prelude.{ℕ}
use Rattle.hb_blocks.specs.declared.fault.BlockFault.{BlockFault}
use Rattle.hb_blocks.specs.declared.fault.BlockFault.TheVariants.{TooLong, Compression}

-- a block that is too long: ENHANCE_YOUR_CALM; one that the decoder refuses: COMPRESSION_ERROR
abbrev pub code_of : BlockFault → ℕ
code_of TooLong = 11
code_of (Compression _) = 9
