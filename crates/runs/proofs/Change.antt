-- The key lemma: what one frame can do. The image stays; or a WRITE that isn't refused stores its page and is acknowledged; or the tail gets
-- other bytes, with no smaller counter. Only the password authenticates, and silence keeps the image. Assumes nothing.
use mathlib.Core.Path.{◌≡◌, refl, sym, ap, ◌∙◌}
use mathlib.Core.List.{List, [], ◌∷◌}
use mathlib.Core.Bool.{Bool, true, false, not, ◌&&◌, ◌||◌}
use Prim.Native.Nat.{ℕ, ◌+◌, ◌*◌, ◌/◌, ◌%◌, ◌^◌, ◌≤◌}
use native.Mathlib.Nat.{le_refl}
use native.Mathlib.Omega.{arith}
use lib.Dec.{eqb, leb, ltb}
use lib.ListN.{length, get_or}
use borrow.Author.Tests.{eqb-true, eq-eqb}
use Rattle.crc_a.specs.CrcA.{crc_right}
use Rattle.image.specs.declared.layout.Four.{Four}
use Rattle.std.specs.Prelude.{Option, Some, None}
use Rattle.image.specs.Layout.{size_of, byte, page_at, pwd_page, pack_page}
use Rattle.image.specs.Settings.{counter_on, count_readable, authlim}
use Rattle.image.specs.Write.{written}
use Rattle.image.specs.Tail.{counter_in, counted, with_failed}
use Rattle.image.proofs.Laws.{next_not_less, counter_counted}
use Rattle.tag.specs.declared.state.Wait.{Wait}
use Rattle.tag.specs.declared.state.Wait.TheVariants.{ToIdle, ToHalt}
use Rattle.tag.specs.declared.state.State.{State}
use Rattle.tag.specs.declared.state.State.TheVariants.{Idle, Halt, Ready1, Ready2, Active}
use Rattle.tag.specs.declared.state.Tag.{Tag}
use Rattle.tag.specs.State.{moved, woken, wait_state, back_to_wait, selected, activated, halted, authenticated_in, authenticated, answering}
use Rattle.tag.specs.Outcome.{Reply, silence, nibble, bytes, plain, bits_of, answer_of, Effect, keep, put, apply, Does, does, lost, ack, nak_after, nak, says, answer_room}
use Rattle.reads.specs.Read.{bound, pages_from, counting, read_answered, read, fast_read}
use Rattle.commands.specs.Commands.{under_password, refuses, write, version, read_count, limit_reached, same, failing, wrong_counted, accepted, rejected, pwd_auth, hlta}
use Rattle.active.specs.declared.Command.{Command}
use Rattle.active.specs.declared.Command.TheVariants.{Read, FastRead, Write, Version, Count, Auth, Hlta}
use Rattle.active.specs.Frame.{length_of, named, command_of, asked, in_active}
use Rattle.selection.specs.Selection.{is_reqa, is_wupa, wakes, in_idle, in_halt, own1, own2, sent as forty, asks, known, anticollision, select, in_ready, in_ready1, in_ready2}
use Rattle.tag.specs.declared.record.TagRecord.{TagRecord}
use Rattle.tag.specs.Record.{tag_of}
use Rattle.radio.specs.Heard.{heard_in, is_read_zero, hearing, heard}
use Rattle.radio.specs.Call.{is_frame, Called, refusal, taken, called_at, called}
use Rattle.radio.proofs.Laws.{frame_whole}
use Rattle.tag.proofs.Recorded.{read_again}
use Rattle.basics.proofs.Choice.{never, split, by, and_left, and_right, and_both, same_either}
use Rattle.runs.specs.Run.{Frame, sent, ours}
use Rattle.runs.specs.Seen.{acks, data_for, carries, offers}

pub data Change (n : ℕ) (img : List ℕ) (t : Tag) (c : Option Command) (o : Reply) (e : Effect) : Type 0 where
  -- where something is acknowledged, it writes no page
  kept : e ≡ keep → (acks o ≡ true → (p : ℕ) (old : Four) → data_for p old c ≡ old) → Change n img t c o e
  stored : (a : ℕ) (d : Four) → c ≡ Some (Write a d) → refuses n img t a ≡ false → acks o ≡ true → e ≡ put a (written n a (page_at img a) d) → Change n img t c o e
  tailed : (v : Four) → counter_in (page_at img n) ≤ counter_in v → acks o ≡ false → e ≡ put n v → Change n img t c o e

-- what comes out of a frame that carries c, where Q says that no password is offered
pub record Step (n : ℕ) (img : List ℕ) (t : Tag) (c : Option Command) (Q : Type 0) (d : Does) : Type 0 where
  pub change : Change n img t c d.reply d.effect
  pub auth : authenticated t ≡ false → Q → authenticated d.tag ≡ false
  pub hush : d.reply ≡ silence → d.effect ≡ keep

-- ---- answers that are no ACK

bytes_no_ack : (bs : List ℕ) → acks (bytes bs) ≡ false
unfolding acks bits_of
bytes_no_ack bs = split (eqb (8 * (length bs + 2)) 4) (λ e. let z = eqb-true (8 * (length bs + 2)) 4 e in absurd (omega arith)) (λ e. rw e)

-- ---- moves that don't authenticate

wait_out : (w : Wait) → authenticated_in (wait_state w) ≡ false
wait_out ToIdle = refl
wait_out ToHalt = refl

back_out : (s : State) → authenticated_in (back_to_wait s) ≡ false
back_out Idle = refl
back_out Halt = refl
back_out (Ready1 w) = wait_out w
back_out (Ready2 w) = wait_out w
back_out (Active w a) = wait_out w

moves_out : (s : State) → authenticated_in s ≡ false → (authenticated_in (woken s) ≡ false) × (authenticated_in (selected s) ≡ false)
moves_out Idle e = (refl, refl)
moves_out Halt e = (refl, refl)
moves_out (Ready1 w) e = (refl, refl)
moves_out (Ready2 w) e = (refl, refl)
moves_out (Active w a) e = (e, e)

-- READ of page 00h in READY1 and READY2: "ACTIVE is entered unauthenticated."
activated_out : (s : State) → authenticated_in (activated s) ≡ authenticated_in s
activated_out Idle = refl
activated_out Halt = refl
activated_out (Ready1 w) = refl
activated_out (Ready2 w) = refl
activated_out (Active w a) = refl

hearing_out : (s : State) (f : List ℕ) (bits : ℕ) (parity : Bool) → authenticated_in (hearing s f bits parity) ≡ authenticated_in s
unfolding hearing
hearing_out s f bits parity = by (λ (x : State). authenticated_in x ≡ authenticated_in s) (is_read_zero f bits parity) (λ _. activated_out s) (λ _. refl)

-- ---- leaves

module _ {n : ℕ} {img : List ℕ} {t : Tag} {c : Option Command} {Q : Type 0} where
  -- the image is kept, and no ACK is heard
  stay : (r : Reply) (u : Tag) → acks r ≡ false → (authenticated t ≡ false → authenticated u ≡ false) → Step n img t c Q (does r keep u)
  stay r u e h = record { change = kept refl (λ y p old. never (sym y ∙ e)); auth = λ a _. h a; hush = λ _. refl }

  nak_step : (v : ℕ) → acks (nibble v) ≡ false → Step n img t c Q (nak t v)
  unfolding nak_after moved
  nak_step v e = stay (nibble v) _ e (λ _. back_out t.state)

  lost_step : Step n img t c Q (lost t)
  unfolding lost moved acks bits_of
  lost_step = stay silence _ refl (λ _. back_out t.state)

  read_step : (first b count : ℕ) → Step n img t c Q (read_answered n img t first b count)
  unfolding read_answered counting answering says
  read_step first b count =
      by (λ (e : Effect). Step n img t c Q (says (pages_from n (apply img e) t first b count) e (answering t))) (not t.answered && counter_on n img)
      (λ _. record { change = tailed (counted (page_at img n)) (rw counter_counted (next_not_less _)) (bytes_no_ack _) refl; auth = λ a _. a; hush = λ e. cc })
      (λ _. stay (bytes _) _ (bytes_no_ack _) (λ a. a))

  data_step : (bs : List ℕ) → Step n img t c Q (says bs keep t)
  unfolding says
  data_step bs = stay (bytes bs) t (bytes_no_ack bs) (λ a. a)

-- ---- the commands

asked_step : (n : ℕ) (img : List ℕ) (t : Tag) (c : Option Command) → Step n img t c (carries (page_at img (pwd_page n)) c ≡ false) (asked n img t c)
unfolding carries acks read fast_read write version read_count pwd_auth accepted rejected wrong_counted failing with_failed counter_in hlta halted moved bits_of answer_of ack nak_after says
asked_step n img t (Some (Read a)) = let P = Step n img t (Some (Read a)) _ in by P (ltb a (bound n img t)) (λ _. read_step _ _ _) (λ _. nak_step 0 refl)
asked_step n img t (Some (FastRead s e)) = let P = Step n img t (Some (FastRead s e)) _ in by P (leb s e && ltb e (bound n img t)) (λ _. read_step _ _ _) (λ _. nak_step 0 refl)
asked_step n img t (Some (Write a d)) =
    by (Step n img t (Some (Write a d)) _) (refuses n img t a) (λ _. nak_step 0 refl)
    (λ h. record { change = stored a d refl h refl refl; auth = λ a _. a; hush = λ e. cc })
asked_step n img t (Some Version) = data_step _
asked_step n img t (Some (Count x)) = by (Step n img t (Some (Count x)) _) (eqb x 0x02 && count_readable n img (authenticated t)) (λ _. data_step _) (λ _. nak_step 0 refl)
asked_step n img t (Some (Auth p)) =
    by (Step n img t (Some (Auth p)) _) (limit_reached n img) (λ _. nak_step 0 refl)
    (λ _. by (Step n img t (Some (Auth p)) _) (same p (page_at img (pwd_page n)))
    (λ s. record { change = tailed _ (le_refl _) (bytes_no_ack (byte img (pack_page n) 0 ∷ byte img (pack_page n) 1 ∷ [])) refl; auth = λ a q. never (sym s ∙ q); hush = λ e. cc })
    (λ q. by (λ (e : Effect). Step n img t (Some (Auth p)) (carries (page_at img (pwd_page n)) (Some (Auth p)) ≡ false) (nak_after e t 0)) (eqb (authlim n img) 0) (λ _. nak_step 0 refl)
    (λ _. record { change = tailed _ (le_refl _) refl refl; auth = λ a _. back_out t.state; hush = λ e. cc })))
asked_step n img t (Some (Hlta x)) = by (Step n img t (Some (Hlta x)) _) (eqb x 0x00) (λ _. stay silence _ refl (λ _. refl)) (λ _. nak_step 0 refl)
asked_step n img t None = nak_step 0 refl

-- ---- the states

-- a frame whose code names no command
unknown_code : (f : List ℕ) (code : ℕ) → named f code ≡ None → get_or f 0 0 ≡ code → command_of f ≡ None
unfolding command_of
unknown_code f code h e = rw (e, h) (sym (same_either (eqb (length f) (length_of code)) None))

-- a password is carried by a command of seven bytes alone
other_carries : (pwd : Four) (f : List ℕ) (code : ℕ) → eqb code 0x1B ≡ false → carries pwd (named f code) ≡ false
unfolding carries
other_carries pwd f code e =
    let P : Option Command → Type 0 = λ c. carries pwd c ≡ false in
    by P (eqb code 0x30) (λ _. refl)
    (λ _. by P (eqb code 0x3A) (λ _. refl)
    (λ _. by P (eqb code 0xA2) (λ _. refl)
    (λ _. by P (eqb code 0x60) (λ _. refl)
    (λ _. by P (eqb code 0x39) (λ _. refl)
    (λ _. by P (eqb code 0x1B) (λ y. never (sym y ∙ e))
    (λ _. by P (eqb code 0x50) (λ _. refl) (λ _. refl)))))))

carries_seven : (pwd : Four) (f : List ℕ) → carries pwd (command_of f) ≡ true → length f ≡ 7
unfolding command_of carries
carries_seven pwd f =
    by (λ (c : Option Command). carries pwd c ≡ true → length f ≡ 7) (eqb (length f) (length_of (get_or f 0 0)))
    (λ e h. split (eqb (get_or f 0 0) 0x1B)
    (λ y. eqb-true (length f) (length_of (get_or f 0 0)) e ∙ ap length_of (eqb-true (get_or f 0 0) 0x1B y)) (λ y. never (sym h ∙ other_carries pwd f (get_or f 0 0) y)))
    (λ _ h. never (sym h))

module _ (n : ℕ) (img : List ℕ) (t : Tag) (f : Frame) where
  abbrev Steps : Does → Type 0
  Steps d = Step n img t (command_of f.bytes) (offers (page_at img (pwd_page n)) (sent f) ≡ false) d

  silent_step : (u : Tag) → (authenticated t ≡ false → authenticated u ≡ false) → Steps (does silence keep u)
  unfolding acks bits_of
  silent_step u h = stay silence u refl h

  wakes_step : Steps (wakes t)
  unfolding wakes acks bits_of moved
  wakes_step = stay (plain 16 0x0044) _ refl (λ a. (moves_out t.state a).0)

  idle_step : Steps (in_idle t f.bytes f.bits)
  unfolding in_idle
  idle_step = by Steps (is_reqa f.bytes f.bits || is_wupa f.bytes f.bits) (λ _. wakes_step) (λ _. silent_step t (λ a. a))

  halt_step : Steps (in_halt t f.bytes f.bits)
  unfolding in_halt
  halt_step = by Steps (is_wupa f.bytes f.bits) (λ _. wakes_step) (λ _. silent_step t (λ a. a))

  -- a frame of selection is no WRITE
  module _ (unknown : command_of f.bytes ≡ None) (own sak : ℕ) where
    anticollision_step : Steps (anticollision t f.bytes f.bits own)
    unfolding anticollision data_for
    anticollision_step =
        by Steps (eqb f.bits (16 + known (get_or f.bytes 1 0)) && eqb (forty f.bytes) (own % 2 ^ known (get_or f.bytes 1 0)))
        (λ _. record { change = kept refl (λ y p old. rw unknown); auth = λ a _. a; hush = λ e. cc }) (λ _. lost_step)

    select_step : Steps (select t f.bytes f.bits own sak)
    unfolding select moved says
    select_step =
        by Steps (eqb f.bits 72 && (eqb (forty f.bytes) own && crc_right f.bytes))
        (λ _. stay (bytes (sak ∷ [])) _ (bytes_no_ack (sak ∷ [])) (λ a. (moves_out t.state a).1)) (λ _. lost_step)

  ready_step : (code own sak : ℕ) → (get_or f.bytes 0 0 ≡ code → command_of f.bytes ≡ None) → Steps (in_ready t f.bytes f.bits f.parity code own sak)
  unfolding in_ready
  ready_step code own sak unknown =
      by Steps (f.parity && eqb (get_or f.bytes 0 0) code)
      (λ h. let u = unknown (eqb-true (get_or f.bytes 0 0) code (and_right f.parity _ h)) in
      by Steps (eqb (get_or f.bytes 1 0) 0x70) (λ _. select_step u own sak)
      (λ _. by Steps (asks (get_or f.bytes 1 0)) (λ _. anticollision_step u own sak) (λ _. lost_step)))
      (λ _. lost_step)

  module _ (whole : length f.bytes ≡ (f.bits + 7) / 8) where
    -- what a whole frame carries is offered
    offered : (pwd : Four) → f.bits % 8 ≡ 0 → f.parity && crc_right f.bytes ≡ true → carries pwd (command_of f.bytes) ≡ true → offers pwd (sent f) ≡ true
    unfolding offers
    offered pwd z h y =
        let k = carries_seven pwd f.bytes y in
        let b : f.bits ≡ 56 = omega arith in
        and_both (eqb f.bits 56) _ (eq-eqb f.bits 56 b)
        (and_both f.parity _ (and_left f.parity _ h) (and_both (crc_right f.bytes) _ (and_right f.parity _ h) y))

    active_step : Steps (in_active n img t f.bytes f.bits f.parity)
    unfolding in_active acks bits_of answer_of
    active_step =
        by Steps (eqb (f.bits % 8) 0 && leb 3 (length f.bytes))
        (λ e. by Steps (f.parity && crc_right f.bytes)
        (λ h. let s = asked_step n img t (command_of f.bytes) in
        let z = eqb-true (f.bits % 8) 0 (and_left (eqb (f.bits % 8) 0) _ e) in
        let pwd = page_at img (pwd_page n) in
        record {
          change = s.change;
          auth = λ a q. s.auth a (split (carries pwd (command_of f.bytes)) (λ y. never (sym (offered pwd z h y) ∙ q)) (λ y. y));
          hush = s.hush;
        })
        (λ _. nak_step 1 refl))
        (λ _. lost_step)

    heard_step : (s : State) → Steps (heard_in s n img t f.bytes f.bits f.parity)
    unfolding in_ready1 in_ready2
    heard_step Idle = idle_step
    heard_step Halt = halt_step
    heard_step (Ready1 w) = ready_step 0x93 (own1 img) 0x04 (unknown_code f.bytes 0x93 refl)
    heard_step (Ready2 w) = ready_step 0x95 (own2 img) 0x00 (unknown_code f.bytes 0x95 refl)
    heard_step (Active w a) = active_step

-- what a tag does is what another does of which only the state differs, and that not in its authentication
module _ (n : ℕ) (img : List ℕ) (t u : Tag) (f : Frame) (same : authenticated u ≡ authenticated t) where
  refuses_alike : (a : ℕ) → refuses n img u a ≡ refuses n img t a
  unfolding refuses under_password
  refuses_alike a = rw same

  change_alike : (c : Option Command) (o : Reply) (e : Effect) → Change n img u c o e → Change n img t c o e
  change_alike c o e (kept k q) = kept k q
  change_alike c o e (stored a d w r k q) = stored a d w (sym (refuses_alike a) ∙ r) k q
  change_alike c o e (tailed v l k q) = tailed v l k q

  steps_alike : (d : Does) → Steps n img u f d → Steps n img t f d
  steps_alike d s = record { change = change_alike _ _ _ s.change; auth = λ a q. s.auth (same ∙ a) q; hush = s.hush }

-- ---- the call

-- what comes out of a call, with its record read
abbrev pub done_by : Called → Does
done_by o = does o.reply o.effect (tag_of o.left)

-- on an image of n pages
pub call_step : (n : ℕ) (img : List ℕ) (r : TagRecord) (f : Frame) → size_of (length img) ≡ Some n
    → Step n img (tag_of r) (command_of f.bytes) (offers (page_at img (pwd_page n)) (sent f) ≡ false) (done_by (ours img r f))
unfolding ours called called_at taken refusal heard moved
call_step n img r f size =
    let t = tag_of r in
    let s = hearing t.state f.bytes f.bits f.parity in
    let u = moved t s in
    let P : Called → Type 0 = λ o. Steps n img t f (done_by o) in
    rw size
    (by P (leb answer_room f.room)
    (λ _. by P (is_frame f.bytes f.bits)
    (λ e. let whole = frame_whole f.bytes f.bits e in
    rw read_again (steps_alike n img t u f (hearing_out t.state f.bytes f.bits f.parity) _ (heard_step n img u f whole s)))
    (λ _. silent_step n img t f t (λ a. a)))
    (λ _. silent_step n img t f t (λ a. a)))
