-- What a tag that isn't selected yet does with a READ, after document 02, Q-2: "Phones that skip the second select." Assumes nothing.
use Rattle.std.specs.Prelude.{◌≡◌, List, Bool, true, false, ℕ, ◌+◌, ◌/◌, length}
use Rattle.tag.specs.declared.state.Wait.{Wait}
use Rattle.tag.specs.declared.state.State.{State}
use Rattle.tag.specs.declared.state.State.TheVariants.{Idle, Halt, Ready1, Ready2, Active}
use Rattle.tag.specs.declared.state.Tag.{Tag}
use Rattle.tag.specs.State.{moved}
use Rattle.tag.specs.Outcome.{arg, lost}
use Rattle.reads.specs.Read.{read}
use Rattle.radio.specs.Heard.{heard_in, is_read_zero, heard}

-- of any frame, at a tag of n pages; `moved t s` is the tag t in the state s
module _ (n : ℕ) (img : List ℕ) (t : Tag) (w : Wait) (f : List ℕ) (bits : ℕ) (parity : Bool) where
  pub record AtOnce (ready : Wait → State) : Type 0 where
    -- "A whole READ frame for address 00h with good parity and CRC is to be answered as ACTIVE would answer it, NAK and all.": what ACTIVE does, not
    -- authenticated and with the same wait state, is all that is done, answer, counter and the tag that is left
    pub as_active : is_read_zero f bits parity ≡ true → heard n img (moved t (ready w)) f bits parity ≡ heard n img (moved t (Active w false)) f bits parity
    -- every other frame does what it did by document 01
    pub as_before : is_read_zero f bits parity ≡ false → heard n img (moved t (ready w)) f bits parity ≡ heard_in (ready w) n img (moved t (ready w)) f bits parity
    -- "Any other READ there stays an error.": silence, wait state
    pub other_read : is_read_zero f bits parity ≡ false → arg f 0 ≡ 0x30 → heard n img (moved t (ready w)) f bits parity ≡ lost (moved t (ready w))

  -- no other state is touched
  abbrev pub Untouched : State → Type 0
  Untouched s = heard n img (moved t s) f bits parity ≡ heard_in s n img (moved t s) f bits parity

  pub record Early : Type 0 where
    pub ready1 : AtOnce Ready1
    pub ready2 : AtOnce Ready2
    pub idle : Untouched Idle
    pub halt : Untouched Halt
    pub active : (a : Bool) → Untouched (Active w a)
    -- what ACTIVE makes of this frame, where the frame call takes it: READ of page 00h
    pub reads : (a : Bool) → length f ≡ (bits + 7) / 8 → is_read_zero f bits parity ≡ true → heard n img (moved t (Active w a)) f bits parity ≡ read n img (moved t (Active w a)) 0x00
