use Rattle.std.specs.Prelude.{◌≡◌}
use Rattle.std.specs.Borrow.{MutBor, Fml}
use Rattle.std.specs.Io.BufRead.{Rests}
use Rattle.hb_frames.specs.declared.reader.FrameReader.{FrameReader}
use Rattle.hb_frames.specs.contracts.reader.FrameReader.{the_row}
use Rattle.hb_frames.specs.Reading.{asked}

-- once the frame isn't used any more, the reader stands for what it holds behind the frame
abbrev pub EndsAsked : MutBor FrameReader → Fml
EndsAsked s = Rests the_row s (λ n. n ≡ asked s.now)
