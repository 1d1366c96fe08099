-- A reading that is sent over the two wires is what the screen reads. Assumes nothing.
use mathlib.Core.Path.{◌≡◌, refl, sym, ap, subst, ◌∙◌}
use mathlib.Core.Bool.{true}
use mathlib.Core.List.{List, [], ◌∷◌}
use Prim.Native.Nat.{ℕ, ◌+◌, ◌*◌, ◌-◌, ◌<◌}
use native.Mathlib.Omega.{arith}
use lib.ListN.{length, take, drop, get_or, length-drop}
use lib.Seq.{length-take-le, ext_get_or, get_or-take, get_or-drop}
use borrow.Author.Tests.{le-leb, lt-ltb}
use Rattle.basics.specs.Bytes.{low_first}
use Rattle.image.specs.Layout.{Fits}
use Rattle.two_wire.specs.Span.{within, stores}
use Rattle.two_wire.specs.Window.{first, window}
use Rattle.two_wire.specs.Region.{memory_length, region_of, in_either}
use Rattle.two_wire.specs.Event.{start, stop, byte_sent, write_code}
use Rattle.two_wire.specs.Run.{Wires, after_event, after_bytes, after_start, after_stop, after_write}
use Rattle.two_wire.specs.Promises.{Writes, goes_to}
use Rattle.two_wire.specs.declared.region.Buffer.TheVariants.{Image}
use Rattle.two_wire.proofs.Outcome.{one_region}
use Rattle.two_wire.proofs.ReadBack as wires
use Rattle.screen.proofs.Kept as screen
use Rattle.logger.specs.Writer.{block_of, Written, written}
use Rattle.logger.specs.Promises.{ReadBack}
use Rattle.logger.proofs.Writing.{block_length}
use Rattle.logger.proofs.Kept as logger
use Rattle.demands.specs.Logged.{high, low, Logged}

-- events leave the image's length
event_length : (w : Wires) (event b : ℕ) → length (after_event w event b).lent.image ≡ length w.lent.image
unfolding after_event
event_length w event b = (one_region w.lent w.bus event b).lengths Image

bytes_length : (bs : List ℕ) (w : Wires) → length (after_bytes w bs).lent.image ≡ length w.lent.image
unfolding after_bytes
bytes_length [] w = refl
bytes_length (b ∷ bs) w = bytes_length bs (after_event w byte_sent b) ∙ event_length w byte_sent b

-- the fourteen bytes of a reading, sent to page 04h
module _ (n second watts : ℕ) (w : Wires) (f : Fits n w.lent.image) (whole : length w.lent.memory ≡ memory_length) where
  abbrev after : List ℕ
  after = (after_stop (after_write w high low (block_of second watts))).lent.image

  inside : in_either n (low_first low high) ≡ true
  unfolding within
  inside = rw (lt-ltb (low_first low high - first) (4 * n) (omega (arith, f.least)))

  arrives : Writes n w high low (block_of second watts)
  arrives = wires.writes n w high low (block_of second watts) (record { size = screen.sized n w.lent.image f; whole = whole }) inside

  -- no byte rolls over
  place : (i : ℕ) → i < 14 → goes_to (low_first low high) i ≡ first + (4 * 0x04 + i)
  place i h = omega arith

  stored : (i : ℕ) → i < 14 → stores (window n) (first + (4 * 0x04 + i)) ≡ true
  unfolding stores within
  stored i h =
      let o : first + (4 * 0x04 + i) - first ≡ 4 * 0x04 + i = omega arith in
      rw (le-leb first (first + (4 * 0x04 + i)) (omega arith), o, lt-ltb (4 * 0x04 + i) (4 * n) (omega (arith, f.least)), le-leb 10 (4 * 0x04 + i) (omega arith))

  landed : (i : ℕ) → i < 14 → get_or after (4 * 0x04 + i) 0 ≡ get_or (block_of second watts) i 0
  unfolding within region_of
  landed i h =
      let o : 4 * 0x04 + i ≡ goes_to (low_first low high) i - first = omega (arith, place i h) in
      ap (λ (k : ℕ). get_or after k 0) o
      ∙ arrives.lands i (omega (arith, block_length second watts)) (omega (arith, block_length second watts)) (rw (place i h) (stored i h))

  still_fits : Fits n after
  still_fits = record { size = f.size; least = f.least; most = f.most; whole = same ∙ f.whole }
    where
      same : length after ≡ length w.lent.image
      same =
          event_length (after_write w high low (block_of second watts)) stop 0
          ∙ bytes_length (write_code ∷ high ∷ low ∷ block_of second watts) (after_start w)
          ∙ event_length w start 0

  there : take 14 (drop (4 * 0x04) after) ≡ block_of second watts
  there = ext_get_or 0 (take 14 (drop (4 * 0x04) after)) (block_of second watts) (many ∙ sym (block_length second watts)) each
    where
      many : length (take 14 (drop (4 * 0x04) after)) ≡ 14
      many = length-take-le 14 (drop (4 * 0x04) after) (rw (length-drop (4 * 0x04) after) (omega (arith, still_fits.whole, f.least)))

      each : (i : ℕ) → i < length (take 14 (drop (4 * 0x04) after)) → get_or (take 14 (drop (4 * 0x04) after)) i 0 ≡ get_or (block_of second watts) i 0
      each i h =
          let few : i < 14 = omega (arith, many) in
          get_or-take 14 (drop (4 * 0x04) after) i 0 few ∙ get_or-drop (4 * 0x04) after i 0 ∙ landed i few

  read_there : ReadBack after second watts
  read_there = (logger.promises).standing n second watts after still_fits there

-- and these are what the writer leaves in an area of as many bytes
pub logged : Logged
logged = record {
  reads = λ n second watts area w h f whole.
      let same : block_of second watts ≡ (written second watts area).area = ap (λ (o : Written). o.area) (sym ((logger.promises).exact second watts area h)) in
      subst (λ (l : List ℕ). ReadBack (after_stop (after_write w high low l)).lent.image second watts) same (read_there n second watts w f whole);
}
