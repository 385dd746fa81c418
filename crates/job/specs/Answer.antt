-- What the program writes for what it reads.
use Rattle.std.specs.Prelude.{ℕ, List, length, Ok, Err}
use Rattle.refusal.specs.Numbers.{numbered}
use Rattle.field.specs.OfBits.{bits}
use Rattle.field.specs.OfBytes.{bytes}
use Rattle.field.specs.OfResidues.{residues}
use Rattle.file.specs.Packets.{packets}
use Rattle.file.specs.Spelling.{spelling_of}
use Rattle.job.specs.declared.line.FieldKind.{FieldKind}
use Rattle.job.specs.declared.line.FieldKind.TheVariants.{Bits, Bytes, Residues}
use Rattle.job.specs.Crossing.{all_fresh}
use Rattle.job.specs.Line.{parsed}
use Rattle.job.specs.Output.{refused_text, whole_text}

-- the order of the field that a job asks for
abbrev pub order_of : FieldKind → ℕ
order_of Bits = bits.q
order_of Bytes = bytes.q
order_of Residues = residues.q

-- a file in a field of order q: its count of packets, as many frames, all of them fresh, and the file itself, byte for byte
abbrev pub copied_text : ℕ → List ℕ → List ℕ
copied_text q file =
    whole_text (packets (spelling_of q) (length file)) (all_fresh (packets (spelling_of q) (length file))) file

-- a job that is not refused writes the file that it was handed
abbrev pub carried_text : FieldKind → List ℕ → List ℕ
carried_text field file = copied_text (order_of field) file

-- the answer to any bytes
abbrev pub answered : List ℕ → List ℕ
answered input = elim (parsed input) [ Ok job ↦ carried_text job.field job.file | Err refusal ↦ refused_text (numbered refusal) ]
