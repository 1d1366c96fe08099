-- Laws of the walk. Assumes nothing.
use mathlib.Core.Path.{◌≡◌, refl, sym, ap, ◌∙◌}
use mathlib.Core.List.{List, [], ◌∷◌, ◌++◌, append_assoc}
use mathlib.Core.Bool.{Bool, true, false}
use Prim.Native.Nat.{ℕ, zero, suc, ◌+◌, ◌-◌, ◌≤◌, ◌<◌}
use native.Mathlib.Omega.{arith}
use lib.Dec.{eqb, leb}
use lib.ListN.{length, take, drop, length-append, take-append-drop}
use lib.Seq.{length-take-le, take_at, drop_at}
use borrow.Author.Tests.{leb-true, le-leb}
use Rattle.basics.specs.Bytes.{low_first}
use Rattle.basics.proofs.Choice.{by, never}
use Rattle.std.specs.Prelude.{Some, None, Ok, Err}
use Rattle.screen.specs.declared.refusals.Refusal.TheVariants.{NoMessage, Passes}
use Rattle.screen.specs.Blocks.{Value, counted, long_value, value_of, Found, taken, passed_over, block, blocks, walk}
use Rattle.screen.specs.Promises.{StopsAt}

-- ---- a length and the bytes that it counts

-- xs is a length, the bytes a that it counts, and b; and with any other bytes behind them these are counted the same
record Counts (xs a b : List ℕ) : Type 0 where
  front : List ℕ
  whole : xs ≡ front ++ (a ++ b)
  any : (ys : List ℕ) → value_of (front ++ (a ++ ys)) ≡ Some (a, ys)

abbrev Cuts : List ℕ → Value → Type 0
Cuts xs (Some (a, b)) = Counts xs a b
Cuts xs None = Unit

counts : (front : List ℕ) (n : ℕ) (xs : List ℕ) → ((ys : List ℕ) → value_of (front ++ ys) ≡ counted n ys) → Cuts (front ++ xs) (counted n xs)
unfolding counted
counts front n xs reads = by (Cuts (front ++ xs)) (leb n (length xs)) (λ e. here (leb-true n (length xs) e)) (λ e. tt)
  where
    here : n ≤ length xs → Counts (front ++ xs) (take n xs) (drop n xs)
    here h = record { front = front; whole = ap (λ (l : List ℕ). front ++ l) (sym (take-append-drop n xs)); any = same }
      where
        same : (ys : List ℕ) → value_of (front ++ (take n xs ++ ys)) ≡ Some (take n xs, ys)
        same ys =
            let l : length (take n xs) ≡ n = length-take-le n xs h in
            reads (take n xs ++ ys)
            ∙ rw (le-leb n (length (take n xs ++ ys)) (omega (arith, l, length-append (take n xs) ys)), take_at (take n xs) ys n l, drop_at (take n xs) ys n l)

cuts : (xs : List ℕ) → Cuts xs (value_of xs)
cuts [] = tt
cuts (n ∷ xs) = by (Cuts (n ∷ xs)) (eqb n 0xFF) (λ e. long xs e) (λ e. counts (n ∷ []) n xs (λ ys. rw e))
  where
    long : (xs : List ℕ) → eqb n 0xFF ≡ true → Cuts (n ∷ xs) (long_value xs)
    long [] e = tt
    long (high ∷ []) e = tt
    long (high ∷ low ∷ xs) e = counts (n ∷ high ∷ low ∷ []) (low_first low high) xs (λ ys. rw e)

-- what is behind a block is shorter than it
shorter : (xs a b : List ℕ) → Counts xs a b → length b ≤ length xs
shorter xs a b c = omega (arith, ap length c.whole, length-append c.front (a ++ b), length-append a b)

-- ---- one block

module _ (f g : List ℕ → Found) where
  passed_same : (xs : List ℕ) (v : Value) → Cuts xs v → ((ys : List ℕ) → length ys ≤ length xs → f ys ≡ g ys) → passed_over f v ≡ passed_over g v
  passed_same xs (Some (a, b)) c same = same b (shorter xs a b c)
  passed_same xs None c same = refl

  -- a block asks only for what is behind it
  block_same : (xs : List ℕ) → ((ys : List ℕ) → length ys < length xs → f ys ≡ g ys) → block f xs ≡ block g xs
  unfolding block
  block_same [] same = refl
  block_same (type ∷ xs) same =
      let p : f xs ≡ g xs = same xs (omega arith) in
      let q : passed_over f (value_of xs) ≡ passed_over g (value_of xs) = passed_same xs (value_of xs) (cuts xs) (λ ys h. same ys (omega arith)) in
      rw (p, q)

-- ---- block by block

-- no more blocks than bytes are ever there
enough : (j k : ℕ) (xs : List ℕ) → length xs ≤ j → length xs ≤ k → blocks j xs ≡ blocks k xs
unfolding blocks block
enough zero zero xs p q = refl
enough zero (suc k) [] p q = refl
enough zero (suc k) (x ∷ xs) p q = absurd (omega arith)
enough (suc j) zero [] p q = refl
enough (suc j) zero (x ∷ xs) p q = absurd (omega arith)
enough (suc j) (suc k) xs p q = block_same (blocks j) (blocks k) xs (λ ys h. enough j k ys (omega arith) (omega arith))

pub goes : (xs : List ℕ) → walk xs ≡ block walk xs
unfolding walk blocks block
goes [] = refl
goes (x ∷ xs) = block_same (blocks (length xs)) walk (x ∷ xs) (λ ys h. enough (length xs) (length ys) ys (omega arith) (omega arith))

pub only : (f : List ℕ → Found) → ((xs : List ℕ) → f xs ≡ block f xs) → (xs : List ℕ) → f xs ≡ walk xs
only f same xs = upto (length xs) xs (omega arith)
  where
    upto : (n : ℕ) (xs : List ℕ) → length xs ≤ n → f xs ≡ walk xs
    upto zero xs h = same xs ∙ block_same f walk xs (λ ys l. absurd (omega arith)) ∙ sym (goes xs)
    upto (suc n) xs h = same xs ∙ block_same f walk xs (λ ys l. upto n ys (omega arith)) ∙ sym (goes xs)

-- ---- the first message

-- xs has the bytes m behind a front; and with any other bytes behind them these are the first message
record First (xs m : List ℕ) : Type 0 where
  front : List ℕ
  rest : List ℕ
  whole : xs ≡ front ++ (m ++ rest)
  any : (ys : List ℕ) → walk (front ++ (m ++ ys)) ≡ Ok m

abbrev is_message : Found → Bool
is_message (Ok m) = true
is_message (Err refusal) = false

no_message : {C : Type 0} {m : List ℕ} (f : Found) → is_message f ≡ false → f ≡ Ok m → C
no_message f e h = never (sym (ap is_message h) ∙ e)

module _ (type : ℕ) (xs m : List ℕ) where
  first_null : eqb type 0x00 ≡ true → First xs m → First (type ∷ xs) m
  unfolding block
  first_null e f =
      record { front = type ∷ f.front; rest = f.rest; whole = ap (λ (l : List ℕ). type ∷ l) f.whole; any = λ ys. goes (type ∷ (f.front ++ (m ++ ys))) ∙ rw e (f.any ys) }

  module _ (some : eqb type 0x00 ≡ false) (goes_on : eqb type 0xFE ≡ false) where
    first_here : eqb type 0x03 ≡ true → (v : Value) → Cuts xs v → taken v ≡ Ok m → First (type ∷ xs) m
    unfolding block
    first_here e (Some (a, b)) c h =
        let p : a ≡ m = cc in
        rw (← p)
        (record {
          front = type ∷ c.front;
          rest = b;
          whole = ap (λ (l : List ℕ). type ∷ l) c.whole;
          any = λ ys. goes (type ∷ (c.front ++ (a ++ ys))) ∙ rw (some, goes_on, e, c.any ys);
        })
    first_here e None c h = no_message (Err Passes) refl h

    first_past : (go_on : List ℕ → Found) → ((ys : List ℕ) → go_on ys ≡ Ok m → First ys m) → eqb type 0x03 ≡ false
        → (v : Value) → Cuts xs v → passed_over go_on v ≡ Ok m → First (type ∷ xs) m
    unfolding block
    first_past go_on behind e (Some (a, b)) c h =
        let f : First b m = behind b h in
        let joined : (zs : List ℕ) → (c.front ++ (a ++ f.front)) ++ zs ≡ c.front ++ (a ++ (f.front ++ zs)) = λ zs. simp append_assoc in
        record {
          front = type ∷ (c.front ++ (a ++ f.front));
          rest = f.rest;
          whole = ap (λ (l : List ℕ). type ∷ l) (c.whole ∙ ap (λ (l : List ℕ). c.front ++ (a ++ l)) f.whole ∙ sym (joined (m ++ f.rest)));
          any = λ ys. ap (λ (l : List ℕ). walk (type ∷ l)) (joined (m ++ ys)) ∙ goes (type ∷ (c.front ++ (a ++ (f.front ++ (m ++ ys))))) ∙ rw (some, goes_on, e, c.any (f.front ++ (m ++ ys))) (f.any ys);
        }
    first_past go_on behind e None c h = no_message (Err Passes) refl h

  first_block : (go_on : List ℕ → Found) → ((ys : List ℕ) → go_on ys ≡ Ok m → First ys m) → block go_on (type ∷ xs) ≡ Ok m → First (type ∷ xs) m
  unfolding block
  first_block go_on behind =
      let P : Found → Type 0 = λ f. f ≡ Ok m → First (type ∷ xs) m in
      by P (eqb type 0x00) (λ e h. first_null e (behind xs h))
      (λ some. by P (eqb type 0xFE) (λ e h. no_message (Err NoMessage) refl h)
      (λ goes_on. by P (eqb type 0x03) (λ e. first_here some goes_on e (value_of xs) (cuts xs)) (λ e. first_past some goes_on go_on behind e (value_of xs) (cuts xs))))

first : (most : ℕ) (xs m : List ℕ) → blocks most xs ≡ Ok m → First xs m
unfolding blocks block
first zero xs m h = no_message (Err NoMessage) refl h
first (suc most) [] m h = no_message (Err NoMessage) refl h
first (suc most) (type ∷ xs) m h = first_block type xs m (blocks most) (λ ys. first most ys m) h

pub stops : (xs m : List ℕ) → walk xs ≡ Ok m → StopsAt xs m
unfolding walk
stops xs m h = record { end = end; within = (omega arith, omega (arith, ap length cut_there, length-append (f.front ++ m) f.rest, l)); bytes = bytes; alone = alone }
  where
    f : First xs m
    f = first (length xs) xs m h

    end : ℕ
    end = length f.front + length m

    l : length (f.front ++ m) ≡ end
    l = length-append f.front m

    cut_there : xs ≡ (f.front ++ m) ++ f.rest
    cut_there = f.whole ∙ sym (append_assoc f.front m f.rest)

    taken_there : take end xs ≡ f.front ++ m
    taken_there = ap (take end) cut_there ∙ take_at (f.front ++ m) f.rest end l

    bytes : drop (end - length m) (take end xs) ≡ m
    bytes = let p : length f.front ≡ end - length m = omega arith in rw taken_there (drop_at f.front m (end - length m) p)

    alone : (ys : List ℕ) → walk (take end xs ++ ys) ≡ Ok m
    alone ys = rw (taken_there, append_assoc) (f.any ys)
