-- Laws of the corridor program: what each command leaves, and what it is answered by. Assumes nothing.
use Prim.Native.Nat.{ℕ, ◌+◌, ◌-◌, ◌*◌, ◌<◌, ◌≤◌}
use mathlib.Core.Path.{◌≡◌, refl, sym, ap, ap₂, subst, subst⁻¹, ◌∙◌}
use mathlib.Core.Bool.{Bool}
use mathlib.Core.List.{List, ◌++◌, append_assoc}
use native.Mathlib.Omega.{arith}
use lib.Dec.{leb}
use lib.ListN.{length, take, drop, get_or, replicate, length-drop}
use lib.Seq.{length-take-le, take_at, drop_at, take-take, take-add}
use Rattle.std.proofs.lemmas.List.{length-replicate}
use borrow.Author.Tests.{leb-true, leb-false, ne_eqb, lt-ltb, le-leb, lt-leb}
use Rattle.std.specs.Prelude.{Option, Some, None, Result, Ok, Err}
use Rattle.std.specs.Result.{OkIff, result_unwrap_or}
use Rattle.basics.proofs.Choice.{split}
use Rattle.image.specs.Layout.{size_of}
use Rattle.tag.specs.Outcome.{Reply, bits_of, answer_of, over}
use Rattle.tag.specs.State.{field_off}
use Rattle.tag.specs.declared.record.TagRecord.{TagRecord}
use Rattle.tag.specs.declared.state.State.{State}
use Rattle.tag.specs.declared.state.Tag.{Tag}
use Rattle.tag.specs.Record.{tag_of, record_of, field_loss}
use Rattle.tag.proofs.Laws.{answer_bytes}
use Rattle.radio.specs.declared.call.Answer as radio
use Rattle.radio.specs.Call.{Called, called, Met}
use Rattle.two_wire.specs.declared.record.BusRecord.{BusRecord}
use Rattle.two_wire.specs.declared.event.BusStep.{BusStep}
use Rattle.two_wire.specs.Region.{Lent, both}
use Rattle.two_wire.specs.declared.record.Phase.{Phase}
use Rattle.two_wire.specs.Record.{phase_of, at_rest}
use Rattle.two_wire.specs.Event.{by_event, by_memory, by_size, does, Did}
use Rattle.words.specs.Args.{Said, given}
use Rattle.words.specs.declared.rows.Asked.{Asked}
use Rattle.laying.specs.Parts.{line_text, Line}
use Rattle.lines.specs.declared.read.Verb.{Verb}
use Rattle.lines.specs.Said.{verb_of, said_of, AskedFits}
use Rattle.lines.specs.declared.write.Answer.{Answer}
use Rattle.lines.specs.declared.write.Answer.TheVariants as answer
use Rattle.lines.specs.Told as told
use Rattle.lines.specs.Told.{Told, parts_of, bytes_in, tells, AnswerFits}
use Rattle.corridor.specs.Played.{Board, zeros, opening, takes, lends, lends_memory, loses, recalls, state_told, tag_told, phase_told, bus_told, call_told, hears, event_told, sees, answers, obeyed, played, program}
use Rattle.corridor.specs.Acts.{Says, Tells, Acts, Leaves}

-- a buffer of zeros
pub opened : (tag : TagRecord) (bus : BusRecord) (img mem : List ℕ) → tag ≡ record_of field_off → bus ≡ at_rest → mem ≡ replicate 16384 0
    → record { image = take 0 img; lent = 1024; memory = take 16384 mem; tag = tag; bus = bus } ≡ opening
unfolding zeros
opened tag bus img mem e f h = rw (e, f, h)

-- ---- the commands: w is what the fields make up, which is the board b

module _ (b w : Board) (same : w ≡ b) where
  pub took : (tag : TagRecord) (bus : BusRecord) (xs img img' : List ℕ) → img' ≡ xs ++ drop (length xs) img → tag ≡ record_of field_off → bus ≡ at_rest
      → Leaves (takes b xs) (record { image = take (length xs) img'; lent = w.lent; memory = w.memory; tag = tag; bus = bus }) (answer.Taken (length xs))
  unfolding takes
  took tag bus xs img img' e f g =
      let front : take (length xs) img' ≡ xs = ap (take (length xs)) e ∙ take_at xs (drop (length xs) img) (length xs) refl in
      record { acts = (λ buf. record { board = rw (← same, front, f, g); told = record { fits = tt; told = (λ i h. refl) } }) }

  pub lent_out : (n : ℕ)
      → Leaves (lends b n) (record { image = w.image; lent = n; memory = w.memory; tag = w.tag; bus = w.bus }) (answer.Lent n)
  unfolding lends
  lent_out n = record { acts = (λ buf. record { board = rw (← same); told = record { fits = tt; told = (λ i h. refl) } }) }

  pub memory_lent : (n : ℕ) (mem part rest : List ℕ) → n ≤ length mem → part ≡ replicate (length (take n mem)) 0
      → Leaves (lends_memory b n) (record { image = w.image; lent = w.lent; memory = take n (part ++ rest); tag = w.tag; bus = w.bus }) (answer.Memory n)
  unfolding lends_memory zeros
  memory_lent n mem part rest few e =
      let q : part ≡ replicate n 0 = e ∙ ap (λ (k : ℕ). replicate k 0) (length-take-le n mem few) in
      let m : length part ≡ n = ap length q ∙ length-replicate n 0 in
      record { acts = (λ buf. record { board = rw (← same, take_at part rest n m, q); told = record { fits = tt; told = (λ i h. refl) } }) }

  pub field_lost : (tag : TagRecord) → tag ≡ field_loss w.tag
      → Leaves (loses b) (record { image = w.image; lent = w.lent; memory = w.memory; tag = tag; bus = w.bus }) answer.Lost
  unfolding loses
  field_lost tag e = record { acts = (λ buf. record { board = rw (← same, e); told = record { fits = tt; told = (λ i h. refl) } }) }

-- ---- frames

-- the bytes of an answer stand at the start of the whole buffer too
answer_front : (o : Reply) (bits : ℕ) (lent part rest : List ℕ) → bits ≡ bits_of o → bits ≤ 8 * length lent → part ≡ over (answer_of o) lent
    → take (bytes_in bits) (part ++ rest) ≡ answer_of o
unfolding over
answer_front o bits lent part rest e h a =
    let m = length (answer_of o) in
    let p : bytes_in bits ≡ m = ap bytes_in e ∙ sym (answer_bytes o) in
    ap₂ (λ (k : ℕ) (l : List ℕ). take k (l ++ rest)) p a
    ∙ ap (take m) (append_assoc (answer_of o) (drop m lent) rest)
    ∙ take_at (answer_of o) (drop m lent ++ rest) m refl

-- a frame that was heard with room for k bytes of an answer, where k is what the board lends
module _ (b w : Board) (same : w ≡ b) (part part' rest lent xs : List ℕ) (bits k : ℕ) (good : Bool) (heard : radio.Answer)
    (met : Met (called w.image k w.tag xs bits good) heard w.image part lent part') where
  pub hear_done : (told : Answer) → k ≡ w.lent → AnswerFits told
      → ((c : Called) (buf img : List ℕ) → heard.refused ≡ c.refused → heard.bits ≡ bits_of c.reply → take (bytes_in heard.bits) buf ≡ answer_of c.reply → tells told buf img ≡ call_told c)
      → (img : List ℕ) → img ≡ part
      → Acts (hears b bits xs good) (record { image = img; lent = w.lent; memory = w.memory; tag = heard.left; bus = w.bus }) told (part' ++ rest)
  unfolding hears
  hear_done told l f t img e =
      let c = called w.image w.lent w.tag xs bits good in
      let m = subst (λ (k : ℕ). Met (called w.image k w.tag xs bits good) heard w.image part lent part') l met in
      subst (λ (x : Board). Acts (hears x bits xs good) (record { image = img; lent = w.lent; memory = w.memory; tag = heard.left; bus = w.bus }) told (part' ++ rest)) same
      (record {
        board = rw (e, m.image, m.left);
        told = record {
          fits = f;
          told = (λ i h. t c (part' ++ rest) i m.refused m.bits (answer_front c.reply heard.bits lent part' rest m.bits m.fits m.answer));
        };
      })

-- ---- events

-- a number above 4 is refused whatever it is
module _ (number : ℕ) (large : 255 ≤ number) (l : Lent) (bus : BusRecord) (byte : ℕ) where
  by_number : (s : Option ℕ) → by_size s l bus 255 byte ≡ by_size s l bus number byte
  unfolding by_size by_memory by_event
  by_number (Some n) =
      simp (ne_eqb number 0 (omega arith), ne_eqb number 1 (omega arith), ne_eqb number 2 (omega arith), ne_eqb number 3 (omega arith), ne_eqb number 4 (omega arith))
  by_number None = refl

  pub large_number : does l bus 255 byte ≡ does l bus number byte
  unfolding does
  large_number = by_number (size_of (length l.image))

-- a number as a byte, 255 where it is none
pub byte_or_more : {E : Type 0} (number small : ℕ) (r : Result ℕ E) → OkIff r (number < 256) number → small ≡ result_unwrap_or r 255
    → (l : Lent) (bus : BusRecord) (byte : ℕ) → does l bus small byte ≡ does l bus number byte
byte_or_more number small (Ok n) k e l bus byte = ap (λ (x : ℕ). does l bus x byte) (e ∙ k.1)
byte_or_more number small (Err x) k e l bus byte =
    ap (λ (y : ℕ). does l bus y byte) e ∙ large_number number (split (leb 255 number) (λ t. leb-true 255 number t) (λ t. absurd (k (omega (arith, leb-false 255 number t))))) l bus byte

module _ (b w : Board) (same : w ≡ b) (img mem : List ℕ) where
  pub see_done : (number small byte : ℕ) (step : BusStep) (told : Answer)
      → Did (does (both w.image w.memory) w.bus small byte) step (both w.image w.memory) (both img mem)
      → ((l : Lent) (bus : BusRecord) (b : ℕ) → does l bus small b ≡ does l bus number b)
      → Says (event_told step.answer) told
      → Leaves (sees b number byte) (record { image = img; lent = w.lent; memory = mem; tag = w.tag; bus = step.bus }) told
  unfolding sees
  see_done number small byte step told d e s =
      let d' = subst (λ o. Did o step (both w.image w.memory) (both img mem)) (e (both w.image w.memory) w.bus byte) d in
      subst (λ (x : Board). Leaves (sees x number byte) (record { image = img; lent = w.lent; memory = mem; tag = w.tag; bus = step.bus }) told) same
      (record {
        acts = (λ buf. record {
          board = ap₂ (λ (l : Lent) (bus : BusRecord). record { image = l.image; lent = w.lent; memory = l.memory; tag = w.tag; bus = bus }) d'.lent d'.bus;
          told = record { fits = s.fits; told = (λ i h. s.told buf i ∙ ap event_told d'.answer) };
        });
      })

-- ---- recalled bytes

module _ (b w : Board) (same : w ≡ b) (mem : List ℕ) (room at n : ℕ) (is : w.memory ≡ take room mem) (fits : room ≤ length mem) where
  many : length w.memory ≡ room
  many = ap length is ∙ length-take-le room mem fits

  pub recall_none : n ≡ 0 → (buf : List ℕ) → Tells (recalls b.memory at n) b answer.NotSoWritten buf
  unfolding recalls
  recall_none e buf = record { fits = tt; told = (λ i h. rw e) }

  pub recall_past : (n ≡ 0 → ⊥) → room < at + n → (buf : List ℕ) → Tells (recalls b.memory at n) b answer.NotSoWritten buf
  unfolding recalls
  recall_past some l buf =
      record { fits = tt; told = (λ i h. rw (← same, lt-ltb 0 n (omega (arith, some)), lt-leb (at + n) (length w.memory) (omega (arith, many, l)))) }

  within : at + n ≤ room → take (at + n - at) (drop at mem) ≡ take n (drop at w.memory)
  within l =
      let whole : at + n - at ≡ n = omega arith in
      let split : room ≡ at + (room - at) = omega (arith, l) in
      let cut : drop at w.memory ≡ take (room - at) (drop at mem) =
      ap (drop at) is
      ∙ ap (λ (k : ℕ). drop at (take k mem)) split
      ∙ ap (drop at) (take-add at (room - at) mem)
      ∙ drop_at (take at mem) (take (room - at) (drop at mem)) at (length-take-le at mem (omega (arith, l, fits))) in
      ap (λ (k : ℕ). take k (drop at mem)) whole
      ∙ sym (take-take n (room - at) (drop at mem) (omega (arith, l)))
      ∙ ap (take n) (sym cut)

  pub recall_whole : (n ≡ 0 → ⊥) → at + n ≤ room → (part rest buf : List ℕ) → part ≡ take (at + n - at) (drop at mem) → buf ≡ part ++ rest
      → told.recalled (take n buf) ≡ recalls b.memory at n
  unfolding recalls
  recall_whole some l part rest buf e f =
      let long : length part ≡ n = ap length (e ∙ within l) ∙ length-take-le n (drop at w.memory) (omega (arith, length-drop at w.memory, many, l)) in
      let front : take n buf ≡ take n (drop at w.memory) = ap (take n) f ∙ take_at part rest n long ∙ e ∙ within l in
      rw (← same, lt-ltb 0 n (omega (arith, some)), le-leb (at + n) (length w.memory) (omega (arith, many, l))) (ap told.recalled front)

  pub recall_told : (n ≡ 0 → ⊥) → at + n ≤ room → n ≤ 1024 → (part rest buf : List ℕ) → part ≡ take (at + n - at) (drop at mem) → buf ≡ part ++ rest
      → Tells (recalls b.memory at n) b (answer.Recalled n) buf
  recall_told some l few part rest buf e f = record { fits = few; told = (λ i h. recall_whole some l part rest buf e f) }

-- ---- lines

-- a command that is known to be one of the commands
pub obeyed_by : (b b' : Board) (v k : Verb) (n m : ℕ) (xs buf : List ℕ) (a : Answer) → v ≡ k → Acts (obeyed b k n m xs) b' a buf → Acts (obeyed b v n m xs) b' a buf
obeyed_by b b' v k n m xs buf a e h = subst⁻¹ (λ (x : Verb). Acts (obeyed b x n m xs) b' a buf) e h

pub obeyed_all : (b b' : Board) (v k : Verb) (n m : ℕ) (xs buf : List ℕ) (a : Answer) → v ≡ k → Leaves (obeyed b k n m xs) b' a → Acts (obeyed b v n m xs) b' a buf
obeyed_all b b' v k n m xs buf a e h = obeyed_by b b' v k n m xs buf a e (h.acts buf)

-- a command that leaves all as it was
pub acts_answers : (t : Told) (b : Board) (a : Answer) (buf : List ℕ) → Tells t b a buf → Acts (answers b t) b a buf
acts_answers t b a buf h = record { board = refl; told = h }

-- a line that asks for a command
pub acted_on : (b b' : Board) (asked : Asked Verb) (v : Verb) (s : Said) (sent buf : List ℕ) (a : Answer) → AskedFits asked
    → asked.verb ≡ v
    → given (take asked.given.count asked.given.numbers) (take asked.given.end sent) ≡ s
    → Acts (obeyed b asked.verb (get_or asked.given.numbers 0 0) (get_or asked.given.numbers 1 0) (take asked.given.end sent)) b' a buf
    → Acts (played b v s) b' a buf
acted_on b b' asked v s sent buf a f e g h =
    subst (λ (x : Said). Acts (played b v x) b' a buf) g
    (subst (λ (x : Verb). Acts (obeyed b x (get_or (take asked.given.count asked.given.numbers) 0 0) (get_or (take asked.given.count asked.given.numbers) 1 0) (take asked.given.end sent)) b' a buf) e
    (subst⁻¹ (λ (n : ℕ). Acts (obeyed b asked.verb n (get_or (take asked.given.count asked.given.numbers) 1 0) (take asked.given.end sent)) b' a buf) (f.numbers 0)
    (subst⁻¹ (λ (m : ℕ). Acts (obeyed b asked.verb (get_or asked.given.numbers 0 0) m (take asked.given.end sent)) b' a buf) (f.numbers 1) h)))

-- what is said of a line, and the answer that tells it
module _ (b w b' : Board) (same : w ≡ b) (l buf img : List ℕ) (a : Answer) (acts : Acts (played w (verb_of l) (said_of l)) b' a buf)
    (front : take (length b'.image) img ≡ b'.image) where
  here : Acts (played b (verb_of l) (said_of l)) b' a buf
  here = subst (λ (x : Board). Acts (played x (verb_of l) (said_of l)) b' a buf) same acts

  pub keeps : b' ≡ program.next b l
  keeps = here.board

  pub answers_line : (out : List ℕ) → Line (parts_of (tells a buf img)) out → out ≡ program.answer b l
  answers_line out h = h.whole ∙ ap (λ (t : Told). line_text (parts_of t)) (here.told.told img front)

-- ---- what is told of a record, and of no zeros

-- the state that a record means is what is told of it
pub state_told_lem : (rec : TagRecord) (t : Tag) (s : State) → t ≡ tag_of rec → t.state ≡ s → (r : Told) → r ≡ state_told s t.answered → r ≡ tag_told rec
unfolding tag_told
state_told_lem rec t s e f r h = h ∙ ap (λ (x : State). state_told x t.answered) (sym f) ∙ ap (λ (x : Tag). state_told x.state x.answered) e

-- and so is the phase of a bus record
pub phase_told_lem : (rec : BusRecord) (p : Phase) → p ≡ phase_of rec.phase → (q : Phase) (r : Told) → p ≡ q → r ≡ phase_told q rec → r ≡ bus_told rec
unfolding bus_told
phase_told_lem rec p e q r f h = h ∙ ap (λ (x : Phase). phase_told x rec) (sym f ∙ e)

-- before the first zero was put none is there
pub none_cleared_lem : (xs : List ℕ) → take 0 xs ≡ zeros 0
unfolding zeros
none_cleared_lem xs = refl
