-- Laws of what a line says. Assumes nothing.
use Prim.Native.Nat.{ℕ, ◌<◌}
use mathlib.Core.Path.{◌≡◌, ap, ◌∙◌}
use mathlib.Core.List.{List}
use borrow.Author.Rules.{rules}
use lib.ListN.{length}
use Rattle.std.specs.Prelude.{Option, unwrap_or, Result, Ok, Err, IfOk}
use Rattle.words.specs.Word.{first_of}
use Rattle.words.specs.Args.{long, GivenFits}
use Rattle.words.specs.Rows.{Command, TableFits, verb_by, verb_asked, Asks}
use Rattle.words.specs.declared.args.Given.{Given}
use Rattle.words.specs.declared.rows.Asked.{Asked}
use Rattle.words.specs.declared.rows.Refused.{Refused}
use Rattle.words.proofs.Tables.{too_long_lem, Each, verb_or_other, asked_allowed, ◌and◌}
use Rattle.jobs.specs.Said.{commands, row_of, verb_of, verb_said, said_of, sent_room, AskedFits}
use Rattle.jobs.specs.declared.read.Verb.{Verb}
use Rattle.jobs.specs.declared.read.Verb.TheVariants as verb

-- a line that is too long is so whatever its command is
pub said_long : (w : List ℕ) → 18597 < length w → said_of w ≡ long
said_long w h = too_long_lem 18597 (row_of (first_of w)) w h

-- ---- the table

table_fits : TableFits sent_room commands
unfolding commands
table_fits = search rules

rows_fit : Each (λ (c : Command Verb). (g : Given) → GivenFits c.2 g → Unit {0}) commands
unfolding commands
rows_fit = (λ g f. tt) and (λ g f. tt) and (λ g f. tt) and tt

-- ---- what was asked for

pub verb_told : (w : List ℕ) (r : Result (Asked Verb) (Refused Verb)) → verb_asked r ≡ verb_by (row_of (first_of w)) → verb_said r ≡ verb_of w
verb_told w r h = ap (λ (v : Option Verb). unwrap_or v verb.Help) h ∙ verb_or_other verb.Help (row_of (first_of w))

pub fits_told : (w : List ℕ) (r : Result (Asked Verb) (Refused Verb)) → IfOk r (λ a. Asks (row_of (first_of w)) a) → IfOk r (λ a. AskedFits a)
unfolding row_of
fits_told w (Ok a) h =
    let f = asked_allowed (λ v g. Unit) sent_room commands table_fits rows_fit (first_of w) a h in
    record { end = f.0; numbers = f.1 }
fits_told w (Err e) h = tt
