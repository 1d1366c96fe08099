use Rattle.std.proofs.Common.{rules, ◌∙◌, refl, ap, ◌≡◌, ◌<◌, ℕ, ◌+◌, ◌-◌, ◌*◌, ◌/◌, length, arith}
use Rattle.locks.specs.Bits.{of_bits}
use Rattle.locks.specs.Locks.{lock_bits, clear_at, may_dynamic}
use Rattle.locks.specs.Table.{block_bit}
use Rattle.locks.proofs.Bits.{gathered_none, gathered_more, gathered_all, gathered_lt}
use Rattle.locks.proofs.Gains.{may_dynamic≤1}
use Rattle.locks.proofs.Lock.{lock_bits≤14, rows_count, looked_up, block_lt, pair_may, pairs, all_open}
use Rattle.locks.proofs.dynamic_mask.Goals as goal

pub loop-i-init : goal.loop-i-init
loop-i-init c =
    let n = c.args.n in
    let count : 2 * (length c.rows_of-rows.result.now / 2) ≡ lock_bits n = rw (c.rows_of-rows.ensures, rows_count n) (pairs n) in
    (gathered_none (lock_bits n) _ _ count, search rules)

pub clear-requires : goal.clear-requires
clear-requires c =
    let n = c.args.n in
    let j = 2 * (c.loop-i.i - 1) in
    let count : length c.rows_of-rows.result.now ≡ lock_bits n = rw c.rows_of-rows.ensures (rows_count n) in
    let below : j < length c.rows_of-rows.result.now = omega (arith, c.loop-i-test.true, c.loop-i.auto.i) in
    let row = looked_up n j _ _ _ c.rows_of-rows.ensures below refl in
    let block = c.from.ensures ∙ ap block_bit row in
    rw block (block_lt n j (omega (arith, below, count)))

pub loop-i-preserved : goal.loop-i-preserved
loop-i-preserved c =
    let n = c.args.n in
    let i = c.loop-i.i - 1 in
    let may = may_dynamic n c.args.blocks in
    let count : length c.rows_of-rows.result.now ≡ lock_bits n = rw c.rows_of-rows.ensures (rows_count n) in
    let even = pairs n in
    let below : 2 * i + 1 < lock_bits n = omega (arith, c.loop-i-test.true, c.loop-i.auto.i, count, even) in
    let row = looked_up n (2 * i) _ _ _ c.rows_of-rows.ensures (omega (arith, below, count)) refl in
    let block = c.from.ensures ∙ ap block_bit row in
    let pair = pair_may n c.args.blocks i _ below (c.clear.ensures.0 ∙ ap (clear_at c.args.blocks) block) in
    let e : 3 * c.clear.result + 4 * c.loop-i.mask ≡ of_bits (lock_bits n - 2 * i) (λ k. may (2 * i + k)) =
    ap (λ (m : ℕ). 3 * c.clear.result + 4 * m) c.loop-i.invariant.0
    ∙ gathered_more may (lock_bits n) c.loop-i.i _ (omega (arith, c.loop-i-test.true)) (omega (arith, below)) pair.0 pair.1 in
    (e, rw e (gathered_lt 14 (lock_bits n - 2 * i) _ (λ k. may_dynamic≤1 n c.args.blocks _) (let most = lock_bits≤14 n in omega arith)))

pub returns : goal.returns
returns c = c.loop-i.invariant.0 ∙ gathered_all (may_dynamic c.args.n c.args.blocks) (lock_bits c.args.n) (2 * c.loop-i.i) (omega (arith, c.loop-i-test.false)) ∙ all_open c.args.n c.args.blocks
