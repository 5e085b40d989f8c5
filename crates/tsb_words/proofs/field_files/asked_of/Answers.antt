use Rattle.std.proofs.Common.{◌≡◌, ◌∙◌, Bool, List, if◌then◌else◌, ap, bytes_eq, codes, subst, sym}
use Rattle.std.specs.declared.option.Option.{Option}
use Rattle.clap.specs.Matches.{found_of}
use Rattle.clap.specs.Simple.{subcommand_rows_of}
use Rattle.clap.specs.Walk.{Row, rows_of}
use Rattle.tsb_words.specs.FieldProgram.{asked_by, log_in, other_in}
use Rattle.tsb_words.specs.FieldWords.{Wish, seen}
use Rattle.tsb_words.specs.Words.{SpelledBy}
use Rattle.tsb_words.proofs.MetLemmas.{met-is}
use Rattle.tsb_words.proofs.field_files.asked_of.Goals as goal
use Rattle.tsb_words.proofs.field_files.asked_of.Goals.{In-Some}

-- what is asked for, by whether the name is `log`
asked : (c : In-Some) (is : Bool) → bytes_eq c.in-Some.name.now (codes "log") ≡ is
    → asked_by (subcommand_rows_of c.args.matches.now)
    ≡ (if is then log_in (rows_of (found_of c.in-Some.options.now)) else other_in c.in-Some.name.now (rows_of (found_of c.in-Some.options.now)))
asked c is same =
    let rows : List Row = rows_of (found_of c.in-Some.options.now) in
    ap asked_by (met-is c.args.matches.now c.in-Some.name.now rows c.in-Some.ensures.name c.in-Some.ensures.rows)
    ∙ ap (λ (b : Bool). if b then log_in rows else other_in c.in-Some.name.now rows) same

pub returns-then-eq-clause-asked : goal.returns-then-eq-clause-asked
returns-then-eq-clause-asked c =
    subst (λ (wish : Option Wish). SpelledBy seen wish c.log_asked.result) (sym (asked (goal.at.returns-then-eq-clause-asked c).In-Some _ (sym c.if-eq.ensures))) c.log_asked.ensures.asked

pub returns-in-Some-other_asked-clause-asked : goal.returns-in-Some-other_asked-clause-asked
returns-in-Some-other_asked-clause-asked c = asked (goal.at.returns-in-Some-other_asked-clause-asked c).In-Some _ (sym c.if-eq.ensures) ∙ sym c.in-Some-other_asked.ensures

pub returns-in-None-clause-asked : goal.returns-in-None-clause-asked
returns-in-None-clause-asked c = asked (goal.at.returns-in-None-clause-asked c).In-Some _ (sym c.if-eq.ensures) ∙ sym c.in-None.ensures
