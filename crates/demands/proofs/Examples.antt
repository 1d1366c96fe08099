-- The proved table: each case computes. Assumes nothing.
use mathlib.Core.Path.{refl}
use Rattle.two_wire.proofs.Examples.{the_examples, memory_examples}
use Rattle.demands.specs.Table.{ProvedTable}
use Rattle.demands.proofs.Computes.{computes}

pub proved_table : ProvedTable
unfolding computes
proved_table = record {
  uid = (refl, refl);
  read_end = refl;
  read_past = refl;
  read_protected = refl;
  read_guarded = refl;
  read_below = refl;
  read_round = refl;
  fast_one = refl;
  fast_back = refl;
  block_first = refl;
  lock_second = refl;
  blocked = refl;
  gained = refl;
  lock_bit = (refl, refl, refl);
  counts = refl;
  stays = refl;
  limit = refl;
  below = refl;
  collision = (refl, refl);
  other = refl;
  wires = (the_examples.rolls45, the_examples.rolls135, the_examples.rolls231);
  memory = (memory_examples 45 refl, memory_examples 135 refl, memory_examples 231 refl);
  at_once = (refl, refl);
  at_once_guarded = (refl, refl);
  at_once_other = (refl, refl);
  at_once_counts = (refl, refl);
  mirror_uid = refl;
  mirror_fast = refl;
  mirror_both = refl;
  mirror_counter = refl;
  mirror_last = refl;
  mirror_far = refl;
  mirror_low = refl;
  mirror_off = refl;
  mirror_guarded = refl;
  mirror_granted = refl;
  together = refl;
  locked_page = (refl, refl);
}
