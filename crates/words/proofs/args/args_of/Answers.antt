-- `words::args::args_of` meets its contract. Assumes nothing.
use borrow.Author.Rules.{rules}
use mathlib.Core.Path.{ap, ◌∙◌}
use Rattle.std.specs.Result.{result_ok}
use Rattle.words.proofs.Tables.{unknown_said, fits, known_said, given_fit}
use Rattle.words.proofs.args.args_of.Goals as goal

pub returns-in_err-row-clause-bytes_after : goal.returns-in_err-row-clause-bytes_after
returns-in_err-row-clause-bytes_after g c = unknown_said _ _ c.args.row _ _ (search rules) (c.ok_or.ensures.ok_part ∙ ap result_ok c.in_err-row.was) (search rules)

pub gather-requires : goal.gather-requires
gather-requires g c =
    let fit = fits c.args.row _ (c.ok_or.ensures.ok_part ∙ ap result_ok c.in_ok-row.was) _ c.requires in
    record { few = fit.0; room = fit.1 }

pub returns-clause-given_fits : goal.returns-clause-given_fits
returns-clause-given_fits g c = given_fit c.args.row _ (c.ok_or.ensures.ok_part ∙ ap result_ok c.in_ok-row.was) _ c.gather.ensures.given_fits

pub returns-clause-bytes_after : goal.returns-clause-bytes_after
returns-clause-bytes_after g c = known_said _ _ c.args.row _ (c.ok_or.ensures.ok_part ∙ ap result_ok c.in_ok-row.was) _ (search rules) c.gather.ensures.bytes_after
