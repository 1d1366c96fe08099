-- A frame in ACTIVE: which command it is, and what it does. Assumes nothing.
use Rattle.std.specs.Prelude.{List, Bool, Option, Some, None, cond, ◌&&◌, ℕ, ◌%◌, eqb, leb, length}
use Rattle.crc_a.specs.CrcA.{crc_right}
use Rattle.image.specs.Layout.{four_at}
use Rattle.tag.specs.declared.state.Tag.{Tag}
use Rattle.tag.specs.Outcome.{arg, Does, lost, nak}
use Rattle.reads.specs.Read.{read, fast_read}
use Rattle.commands.specs.Commands.{write, version, read_count, pwd_auth, hlta}
use Rattle.active.specs.declared.Command.{Command}
use Rattle.active.specs.declared.Command.TheVariants.{Read, FastRead, Write, Version, Count, Auth, Hlta}

-- the codes, and the bytes that a frame of each has, with its CRC_A: READ 30h a; FAST_READ 3Ah s e; WRITE A2h a d0-d3; GET_VERSION 60h;
-- READ_CNT 39h 02h; PWD_AUTH 1Bh p0-p3; HLTA 50h 00h. No frame of another code has the right length.
abbrev pub length_of : ℕ → ℕ
length_of code =
    cond (eqb code 0x30) 4
    (cond (eqb code 0x3A) 5
    (cond (eqb code 0xA2) 8
    (cond (eqb code 0x60) 3
    (cond (eqb code 0x39) 4
    (cond (eqb code 0x1B) 7
    (cond (eqb code 0x50) 4 0))))))

abbrev pub named : List ℕ → ℕ → Option Command
named f code =
    cond (eqb code 0x30) (Some (Read (arg f 1)))
    (cond (eqb code 0x3A) (Some (FastRead (arg f 1) (arg f 2)))
    (cond (eqb code 0xA2) (Some (Write (arg f 1) (four_at f 2)))
    (cond (eqb code 0x60) (Some Version)
    (cond (eqb code 0x39) (Some (Count (arg f 1)))
    (cond (eqb code 0x1B) (Some (Auth (four_at f 1)))
    (cond (eqb code 0x50) (Some (Hlta (arg f 1))) None))))))

unfoldable pub command_of : List ℕ → Option Command
command_of f = cond (eqb (length f) (length_of (arg f 0))) (named f (arg f 0)) None

abbrev pub done : ℕ → List ℕ → Tag → Command → Does
done n img t (Read a) = read n img t a
done n img t (FastRead s e) = fast_read n img t s e
done n img t (Write a d) = write n img t a d
done n img t Version = version n t
done n img t (Count x) = read_count n img t x
done n img t (Auth p) = pwd_auth n img t p
done n img t (Hlta x) = hlta t x

-- "Unknown code or wrong length: NAK 0h. Then the command."
abbrev pub asked : ℕ → List ℕ → Tag → Option Command → Does
asked n img t (Some command) = done n img t command
asked n img t None = nak t 0

-- "ACTIVE, in order: not whole bytes, or under 3 bytes: silence, wait state. Bad parity or CRC: NAK 1h."
unfoldable pub in_active : ℕ → List ℕ → Tag → List ℕ → ℕ → Bool → Does
in_active n img t f bits parity =
    cond (eqb (bits % 8) 0 && leb 3 (length f))
    (cond (parity && crc_right f) (asked n img t (command_of f)) (nak t 1))
    (lost t)
