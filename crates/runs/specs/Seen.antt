-- What an onlooker with a reader sees of a run: which WRITEs were acknowledged, and whether the password was offered. Assumes nothing.
use Rattle.std.specs.Prelude.{List, [], ◌∷◌, Bool, true, false, cond, not, ◌&&◌, ℕ, eqb, get_or, Option, Some, None}
use Rattle.crc_a.specs.CrcA.{crc_right}
use Rattle.image.specs.declared.layout.Four.{Four}
use Rattle.tag.specs.Outcome.{Reply, bits_of, answer_of}
use Rattle.commands.specs.Commands.{same}
use Rattle.active.specs.declared.Command.{Command}
use Rattle.active.specs.declared.Command.TheVariants.{Read, FastRead, Write, Version, Count, Auth, Hlta}
use Rattle.active.specs.Frame.{command_of}
use Rattle.runs.specs.Run.{Input, sent, lost, Call, Kept, next}

-- ---- what was acknowledged

-- an ACK is heard: four bits, Ah
unfoldable pub acks : Reply → Bool
acks o = eqb (bits_of o) 4 && eqb (get_or (answer_of o) 0 0) 0xA

-- the four bytes that a command writes to page p, else old
unfoldable pub data_for : ℕ → Four → Option Command → Four
data_for p old (Some (Write a d)) = cond (eqb a p) d old
data_for p old (Some (Read a)) = old
data_for p old (Some (FastRead s e)) = old
data_for p old (Some Version) = old
data_for p old (Some (Count x)) = old
data_for p old (Some (Auth q)) = old
data_for p old (Some (Hlta x)) = old
data_for p old None = old

-- what page p then holds, having held old: the four bytes that an input writes to it and the tag acknowledges, else old
unfoldable pub new_for : Call → ℕ → Kept → Input → Four → Four
new_for call p k (sent f) old = cond (acks (call k.image k.rec f).reply) (data_for p old (command_of f.bytes)) old
new_for call p k lost old = old

-- "the four bytes of the last WRITE to it that was acknowledged, else its first bytes"
unfoldable pub last_written : Call → ℕ → Kept → List Input → Four → Four
last_written call p k [] old = old
last_written call p k (i ∷ is) old = last_written call p (next call k i) is (new_for call p k i old)

-- ---- the password

unfoldable pub carries : Four → Option Command → Bool
carries pwd (Some (Auth p)) = same p pwd
carries pwd (Some (Read a)) = false
carries pwd (Some (FastRead s e)) = false
carries pwd (Some (Write a d)) = false
carries pwd (Some Version) = false
carries pwd (Some (Count x)) = false
carries pwd (Some (Hlta x)) = false
carries pwd None = false

-- a whole PWD_AUTH frame with these four bytes
unfoldable pub offers : Four → Input → Bool
offers pwd (sent f) = eqb f.bits 56 && (f.parity && (crc_right f.bytes && carries pwd (command_of f.bytes)))
offers pwd lost = false

-- "no frame offered the password"
unfoldable pub none_offers : Four → List Input → Bool
none_offers pwd [] = true
none_offers pwd (i ∷ is) = not (offers pwd i) && none_offers pwd is
