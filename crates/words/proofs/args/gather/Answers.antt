-- `words::args::gather` meets its contract. Assumes nothing.
use borrow.Author.Rules.{rules}
use native.Mathlib.Omega.{arith}
use Rattle.std.proofs.lemmas.Option.{MatchOption-at_some}
use Rattle.std.specs.Result.{result_ok}
use Prim.Native.Nat.{◌<◌, ◌≤◌, ◌+◌}
use mathlib.Core.Path.{◌≡◌, ap, ◌∙◌}
use lib.ListN.{length, get_or}
use Rattle.std.specs.Prelude.{Some}
use Rattle.words.specs.Args.{form_of, most_of, room_of}
use Rattle.words.proofs.Arguing.{room_next, bounded_next, args_next, good_said}
use Rattle.words.proofs.args.gather.Goals as goal

pub loop-at-preserved : goal.loop-at-preserved
loop-at-preserved c =
    let kind : c.get.result ≡ Some c.in_ok-kind.kind = c.ok_or.ensures.ok_part ∙ ap result_ok c.in_ok-kind.was in
    let few : c.loop-at.given.count < length c.args.kinds.now = (MatchOption-at_some _ _ _ kind c.get.ensures.lookup.3).0 in
    let here : c.in_ok-kind.kind.now ≡ get_or c.args.kinds.now c.loop-at.given.count c.in_ok-kind.kind.now = MatchOption-at_some _ _ _ kind c.get.ensures.lookup.1 in
    let found : c.arg_of.result ≡ Some c.in_ok-arg.arg = c.ok_or-in-loop-at.ensures.ok_part ∙ ap result_ok c.in_ok-arg.was in
    let fits : (c.in_ok-arg.arg.number ≤ most_of (form_of c.in_ok-kind.kind.now)) × (c.in_ok-arg.arg.end ≤ c.loop-at.given.end + room_of (form_of c.in_ok-kind.kind.now)) =
    MatchOption-at_some _ _ _ found c.arg_of.ensures.arg_fits in
    let room : c.loop-at.given.count < length c.loop-at.given.numbers = omega arith in
    (search rules, search rules, search rules, search rules, search room_next, search bounded_next, search args_next)

pub returns-clause-bytes_after : goal.returns-clause-bytes_after
returns-clause-bytes_after c =
    let over : length c.args.text.now ≤ c.loop-at.at = omega arith in
    let room : c.loop-at.given.count ≤ length c.loop-at.given.numbers = omega arith in
    let enough : c.args.needed ≤ c.loop-at.given.count = omega arith in
    search good_said
