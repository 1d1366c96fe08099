-- The outcome of an event is one, what it touches, and that a refused call leaves everything. Assumes nothing.
use Rattle.std.proofs.Common.{◌≡◌, ℕ, ◌<◌, eqb, ◌≢◌, length, get_or, sym, refl, ap, ◌∙◌, ap₂, arith, ne_eqb, eqb-true}
use Rattle.std.specs.Prelude.{Some, None, Option, Result}
use mathlib.Core.Path.{subst⁻¹}
use borrow.Author.Tests.{eqb-false}
use Rattle.basics.specs.Bytes.{low_first}
use Rattle.basics.proofs.Choice.{never, split, by}
use Rattle.image.specs.Layout.{size_of}
use Rattle.two_wire.specs.Window.{window, page_of}
use Rattle.two_wire.specs.Region.{Lent, memory_length, memory, bytes_in, region_of, in_either}
use Rattle.two_wire.specs.Record.{phase_of, is_in}
use Rattle.two_wire.specs.Answer.{returned}
use Rattle.two_wire.specs.Gathered.{stored_in}
use Rattle.two_wire.specs.Event.{start, stop, byte_sent, byte_read_ack, byte_read_last, write_code, read_code, Effect, keep, land, Does, after, started, device, addressed, sent_in, sent, stopped, read_on, read, refuses, Refused, by_name, by_event, by_memory, by_size, does}
use Rattle.two_wire.specs.Promises.{OneOutcome, address_of, Touches, OneRegion}
use Rattle.two_wire.specs.declared.answer.BusAnswer.{BusAnswer}
use Rattle.two_wire.specs.declared.answer.Refusal.{Refusal}
use Rattle.two_wire.specs.declared.answer.Refusal.TheVariants.{WrongImage, WrongEvent, WrongMemory}
use Rattle.two_wire.specs.declared.event.Event.{Event}
use Rattle.two_wire.specs.declared.record.BusRecord.{BusRecord}
use Rattle.two_wire.specs.declared.record.Phase.{Phase}
use Rattle.two_wire.specs.declared.record.Phase.TheVariants.{Rest, Device, High, Low, Writing, Reading, Deaf}
use Rattle.two_wire.specs.declared.region.Buffer.{Buffer}
use Rattle.two_wire.specs.declared.region.Buffer.TheVariants.{Image, Memory}
use Rattle.two_wire.specs.declared.region.Region.{Region}
use Rattle.two_wire.specs.declared.event.BusStep.{BusStep}
use Rattle.two_wire.proofs.Laws.{by_buffer}
use Rattle.two_wire.proofs.Stored.{kept_stay, other_pages_stay, length_stored}

pub one_outcome : OneOutcome
one_outcome o s s' l a a' d d' =
    (ap₂ {C = BusStep} (λ (x : BusAnswer) (y : BusRecord). record { answer = x; bus = y }) (d.answer ∙ sym d'.answer) (d.bus ∙ sym d'.bus), d.lent ∙ sym d'.lent)

-- ---- the ways of an event

module _ (l : Lent) (r : BusRecord) (event b : ℕ) (P : Does → Type 0) where
  by_event_lem : (n : ℕ) → P (started r) → (event ≡ stop → P (stopped n r)) → P (sent n r b) → ((p : Phase) → P (read p n l r)) → P (refuses WrongEvent r)
      → P (by_event n l r event b)
  unfolding by_event
  by_event_lem n p q s t u =
      let Q : Result Event Refusal → Type 0 = λ e. P (by_name n l r e b) in
      by Q (eqb event start) (λ _. p) (λ _.
      by Q (eqb event stop) (λ e. q (eqb-true event stop e)) (λ _.
      by Q (eqb event byte_sent) (λ _. s) (λ _.
      by Q (eqb event byte_read_ack) (λ _. t Reading) (λ _.
      by Q (eqb event byte_read_last) (λ _. t Deaf) (λ _. u)))))

  by_size_lem : P (refuses WrongImage r) → P (refuses WrongMemory r) → ((n : ℕ) → P (by_event n l r event b)) → P (does l r event b)
  unfolding does by_size by_memory
  by_size_lem u v p = of (size_of (length l.image))
    where
      of : (size : Option ℕ) → P (by_size size l r event b)
      of None = u
      of (Some n) = by P (eqb (length l.memory) memory_length) (λ _. p n) (λ _. v)

-- ---- what no event but a stop stores, and which calls are refused

abbrev Taken : Does → Type 0
Taken o = (returned o.reply).refused ≡ 0

abbrev Keeps : Does → Type 0
Keeps o = o.effect ≡ keep

abbrev Mild : Does → Type 0
Mild o = Taken o × Keeps o

module _ (n : ℕ) (r : BusRecord) where
  sent_mild : (p : Phase) (b : ℕ) → Mild (sent_in p n r b)
  unfolding device addressed
  sent_mild Device b = by Mild (eqb b write_code) (λ _. (refl, refl)) (λ _. by Mild (eqb b read_code) (λ _. (refl, refl)) (λ _. (refl, refl)))
  sent_mild High b = (refl, refl)
  sent_mild Low b = by Mild (in_either n (low_first b r.held)) (λ _. (refl, refl)) (λ _. (refl, refl))
  sent_mild Writing b = (refl, refl)
  sent_mild Reading b = (refl, refl)
  sent_mild Rest b = (refl, refl)
  sent_mild Deaf b = (refl, refl)

  read_mild : (l : Lent) (p : Phase) → Mild (read p n l r)
  unfolding read read_on
  read_mild l p = by Mild (is_in Reading r) (λ _. (refl, refl)) (λ _. (refl, refl))

  stop_taken : Taken (stopped n r)
  unfolding stopped
  stop_taken = by Taken (is_in Writing r) (λ _. refl) (λ _. refl)

module _ (l : Lent) (r : BusRecord) (event b : ℕ) where
  -- an event that is no stop stores nothing
  pub only_stop_stores : (event ≡ stop → ⊥) → (does l r event b).effect ≡ keep
  unfolding sent
  only_stop_stores ne =
      by_size_lem l r event b Keeps refl refl (λ n. by_event_lem l r event b Keeps n refl (λ e. absurd (ne e)) (sent_mild n r (phase_of r.phase) b).1 (λ p. (read_mild n r l p).1) refl)

  -- "A refused call returns its number, no answer, the records it was given, and every buffer untouched."
  abbrev Left : Does → Type 0
  Left o = ((returned o.reply).refused ≡ 0 → ⊥) → (o.bus ≡ r) × (after l o.effect ≡ l)

  taken : (o : Does) → Taken o → Left o
  taken o t ne = absurd (ne t)

  pub refused_leaves : Left (does l r event b)
  unfolding sent after
  refused_leaves =
      by_size_lem l r event b Left (λ _. (refl, refl)) (λ _. (refl, refl)) (λ n.
      by_event_lem l r event b Left n (taken (started r) refl) (λ _. taken (stopped n r) (stop_taken n r)) (taken (sent n r b) (sent_mild n r (phase_of r.phase) b).0)
      (λ p. taken (read p n l r) (read_mild n r l p).0) (λ _. (refl, refl)))

  -- "4: bus call: event isn't one of the five"
  pub refused_event_lem : (n : ℕ) → size_of (length l.image) ≡ Some n → length l.memory ≡ memory_length → 4 < event → Refused WrongEvent 4 r (does l r event b)
  unfolding does by_size by_memory by_event
  refused_event_lem n e m k = record { outcome = none_of_five; answer = ap (λ (o : Does). returned o.reply) none_of_five }
    where
      none_of_five : does l r event b ≡ refuses WrongEvent r
      none_of_five =
          rw (e, m, ne_eqb event 0 (λ q. omega arith), ne_eqb event 1 (λ q. omega arith), ne_eqb event 2 (λ q. omega arith), ne_eqb event 3 (λ q. omega arith), ne_eqb event 4 (λ q. omega arith))

-- ---- what an event touches

module _ (r : BusRecord) (event : ℕ) (l : Lent) where
  -- nothing
  untouched : Touches r event l l
  untouched = record {
    only_stop = λ _. refl;
    window_alone = λ _. refl;
    memory_alone = λ _. refl;
    page_alone = λ k o d. refl;
    kept_back = λ o h. refl;
    lengths = λ k. refl;
  }

  -- the region of the address sent
  transferred : (n : ℕ) → event ≡ stop → Touches r event l (after l (land (region_of n r.counter) r))
  unfolding after
  transferred n e =
      by_buffer (λ (g : Region). Touches r event l (stored_in g.buffer g.span r l)) n r.counter
      (λ t. record {
        only_stop = λ ne. absurd (ne e);
        window_alone = λ f. never (sym t ∙ f);
        memory_alone = λ _. refl;
        page_alone = in_memory;
        kept_back = λ o h. refl;
        lengths = length_stored memory r l Memory;
      })
      (λ f. record {
        only_stop = λ ne. absurd (ne e);
        window_alone = λ _. refl;
        memory_alone = λ t. never (sym t ∙ f);
        page_alone = in_window;
        kept_back = λ o h. kept_stay (window n) r l.image o h;
        lengths = length_stored (window n) r l Image;
      })
    where
      in_memory : (k : Buffer) (o : ℕ) → page_of (address_of k o) ≢ page_of r.counter → get_or (bytes_in k (stored_in Memory memory r l)) o 0 ≡ get_or (bytes_in k l) o 0
      in_memory Image o d = refl
      in_memory Memory o d = other_pages_stay memory r l.memory o d

      in_window : (k : Buffer) (o : ℕ) → page_of (address_of k o) ≢ page_of r.counter → get_or (bytes_in k (stored_in Image (window n) r l)) o 0 ≡ get_or (bytes_in k l) o 0
      in_window Image o d = other_pages_stay (window n) r l.image o d
      in_window Memory o d = refl

  stop_touches : (n : ℕ) → event ≡ stop → Touches r event l (after l (stopped n r).effect)
  unfolding stopped after
  stop_touches n e = by (λ (o : Does). Touches r event l (after l o.effect)) (is_in Writing r) (λ _. transferred n e) (λ _. untouched)

  event_touches : (n b : ℕ) → event ≡ stop → Touches r event l (after l (by_event n l r event b).effect)
  unfolding by_event
  event_touches n b e = rw e (rw e at (stop_touches n e))

pub one_region : OneRegion
unfolding after
one_region l r event b =
    split (eqb event stop)
    (λ t. by_size_lem l r event b (λ (o : Does). Touches r event l (after l o.effect)) (untouched r event l) (untouched r event l) (λ n. event_touches r event l n b (eqb-true event stop t)))
    (λ f. subst⁻¹ (λ (e : Effect). Touches r event l (after l e)) (only_stop_stores l r event b (eqb-false event stop f)) (untouched r event l))
