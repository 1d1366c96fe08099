-- `words::rows::asked_of` meets its contract. Assumes nothing.
use borrow.Author.Rules.{rules}
use mathlib.Core.Path.{◌≡◌, sym, ◌∙◌}
use Rattle.std.specs.Prelude.{option_map}
use Rattle.words.proofs.Tables.{row_found, row_fits, row_said, row_verb, asks_it}
use Rattle.words.proofs.rows.asked_of.Goals as goal

pub args_of-requires : goal.args_of-requires
args_of-requires g c = row_fits _ c.args.text.now _ _ (row_found _ _ _ _ c.row_of-row.ensures (search rules)) c.requires

pub returns-in-Ok-clause-asks : goal.returns-in-Ok-clause-asks
returns-in-Ok-clause-asks g c =
    let verb : c.map-verb.result ≡ option_map (λ r. r.now.verb) c.row_of-row.result = search rules in
    let found = row_found _ c.args.text.now _ _ c.row_of-row.ensures (search rules) in
    asks_it _ _ _ _ _ found c.requires (sym c.unwrap.ensures ∙ verb) c.in-Ok.ensures.given_fits

pub returns-in-Ok-clause-verb : goal.returns-in-Ok-clause-verb
returns-in-Ok-clause-verb g c =
    let verb : c.map-verb.result ≡ option_map (λ r. r.now.verb) c.row_of-row.result = search rules in
    let found = row_found c.args.table.now c.args.text.now _ _ c.row_of-row.ensures (search rules) in
    let told = row_verb _ _ _ _ found verb in
    search (c.unwrap.ensures, told, rules)

pub returns-in-Ok-clause-said : goal.returns-in-Ok-clause-said
returns-in-Ok-clause-said g c =
    let found = row_found _ c.args.text.now _ _ c.row_of-row.ensures (search rules) in
    row_said _ _ _ _ _ found c.in-Ok.ensures.bytes_after

pub returns-in-Err-clause-verb : goal.returns-in-Err-clause-verb
returns-in-Err-clause-verb g c =
    let verb : c.map-verb.result ≡ option_map (λ r. r.now.verb) c.row_of-row.result = search rules in
    let found = row_found c.args.table.now c.args.text.now _ _ c.row_of-row.ensures (search rules) in
    let told = row_verb _ _ _ _ found verb in
    search (told, rules)

pub returns-in-Err-clause-said : goal.returns-in-Err-clause-said
returns-in-Err-clause-said g c =
    let found = row_found _ c.args.text.now _ _ c.row_of-row.ensures (search rules) in
    row_said _ _ _ _ _ found c.in-Err.ensures.bytes_after
