-- The number of each refusal.
use Rattle.std.specs.Prelude.{ℕ}
use Rattle.refusal.specs.declared.Refusal.{Refusal}
use Rattle.refusal.specs.declared.Refusal.TheVariants.{ShortBuffer, BadPacket, StreamFull, WindowFull, WindowEmpty, BadLine, BadScript, LongFile, BadDraw, WrongKind, WrongLength, BadWidth, BadCode, StraySlot, Late, Ahead, Contradiction, BadReport, NotAByte, LongRecord, Incomplete}

-- the number that programs and operators know a refusal by
abbrev pub numbered : Refusal → ℕ
numbered ShortBuffer = 1
numbered BadPacket = 2
numbered StreamFull = 3
numbered WindowFull = 4
numbered WindowEmpty = 5
numbered BadLine = 6
numbered BadScript = 7
numbered LongFile = 8
numbered BadDraw = 9
numbered WrongKind = 11
numbered WrongLength = 12
numbered BadWidth = 13
numbered BadCode = 14
numbered StraySlot = 15
numbered Late = 16
numbered Ahead = 17
numbered Contradiction = 18
numbered BadReport = 19
numbered NotAByte = 21
numbered LongRecord = 22
numbered Incomplete = 23
