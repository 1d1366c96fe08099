-- Document 01's examples of the two wires, and Q-1's cases, computed. Assumes nothing.
use Rattle.std.proofs.Common.{◌≡◌, ℕ, ◌*◌, [], ◌∷◌, length, refl, ap, ◌∙◌, arith, lt-ltb}
use Rattle.std.specs.Prelude.{Some}
use Rattle.image.specs.Layout.{size_of}
use Rattle.image.proofs.Laws.{fits}
use Rattle.two_wire.specs.Span.{within, stores, following}
use Rattle.two_wire.specs.Region.{Lent, both, Right, region_of, byte_at}
use Rattle.two_wire.specs.Record.{phase_of, holding, entered, one_more, gathers, at_rest}
use Rattle.two_wire.specs.Gathered.{landed_at, landed_to, landed, counter_after}
use Rattle.two_wire.specs.Event.{after, device, addressed, sent, stopped, by_event, by_memory, by_size, does}
use Rattle.two_wire.specs.Run.{gathers_all, Wires, answer_to, after_event, after_bytes, after_read_code, after_reads, answers_to}
use Rattle.two_wire.specs.Promises.{onward}
use Rattle.two_wire.specs.Examples.{blank, fresh, ReadsRound, WireExamples, MemoryExamples}
use Rattle.two_wire.specs.declared.record.Phase.TheVariants.{Writing}
use Rattle.two_wire.proofs.Outcome.{refused_event_lem}
use Rattle.two_wire.proofs.ReadBack as wires

pub the_examples : WireExamples
unfolding size_of within stores region_of phase_of holding one_more gathers landed_at landed_to landed counter_after after device addressed sent stopped by_event by_memory by_size does gathers_all answer_to after_event after_bytes
the_examples = record {
  rolls45 = λ a b c d mem e. ap (λ (x : Wires). x.lent) (wires.stopped_at 45 (both (blank 45) mem) refl e at_rest 0x40 0x7E (a ∷ b ∷ c ∷ d ∷ []) refl);
  rolls135 = λ a b c d mem e. ap (λ (x : Wires). x.lent) (wires.stopped_at 135 (both (blank 135) mem) refl e at_rest 0x40 0x7E (a ∷ b ∷ c ∷ d ∷ []) refl);
  rolls231 = λ a b c d mem e. ap (λ (x : Wires). x.lent) (wires.stopped_at 231 (both (blank 231) mem) refl e at_rest 0x40 0x7E (a ∷ b ∷ c ∷ d ∷ []) refl);
  inside = λ mem e. rw (e, e, e, e);
  outside = λ mem e. rw (e, e, e, e);
  dropped = λ b mem e. (wires.writes 45 (fresh 45 mem) 0x40 0x10 (b ∷ []) (record { size = refl; whole = e }) refl).dropped;
}

module _ (n : ℕ) (size : size_of (length (blank n)) ≡ Some n) where
  round : ReadsRound n
  unfolding within following region_of byte_at holding after_reads answers_to onward
  round mem e =
      let l : Lent = both (blank n) mem in
      let from : Wires = record { lent = l; bus = entered at_rest Writing 0x3FFF } in
      let right : Right n l = record { size = size; whole = e } in
      ap (λ (x : Wires). answers_to (after_read_code x) 3) (wires.begun n l size e at_rest 0x3F 0xFF refl)
      ∙ rw ((wires.reads n from 0 right refl).gives, (wires.reads n from 1 right refl).gives, (wires.reads n from 2 right refl).gives)

  pub memory_examples : MemoryExamples n
  unfolding size_of within stores region_of phase_of holding one_more gathers landed_at landed_to landed after device addressed sent by_event by_memory by_size does gathers_all answer_to after_event after_bytes
  memory_examples = record {
    rolls = λ a b c d mem e. ap (λ (x : Wires). x.lent) (wires.stopped_at n (both (blank n) mem) size e at_rest 0x3F 0xFE (a ∷ b ∷ c ∷ d ∷ []) refl);
    round = round;
    apart = (refl, refl);
    acknowledged = λ mem e. (rw (size, e, size, e, size, e, size, e), rw (size, e, size, e, size, e, size, e), rw (size, e, size, e, size, e, size, e, lt-ltb 0 (4 * n) (omega (arith, (fits n (blank n) size).least))));
    order = λ r b. (record { outcome = refl; answer = refl }, record { outcome = rw size; answer = rw size }, λ mem e. refused_event_lem (both (blank n) mem) r 9 b n size e (omega arith));
  }
