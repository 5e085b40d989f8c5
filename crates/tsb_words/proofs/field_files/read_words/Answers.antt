use Rattle.std.proofs.Common.{List, map}
use Rattle.clap.specs.Simple.{subcommand_rows_of}
use Rattle.clap.specs.Walk.{Text}
use Rattle.tsb_words.specs.FieldProgram.{asked_by, program}
use Rattle.tsb_words.specs.FieldWords.{seen}
use Rattle.tsb_words.specs.Words.{met_by}
use Rattle.tsb_words.proofs.WordLemmas.{asks, asks-nothing, field-is-simple-and-free}
use Rattle.tsb_words.proofs.field_files.read_words.Goals as goal

pub returns-in-Err : goal.returns-in-Err
returns-in-Err g c =
    let words : List Text = map g.S.AsStr.text c.args.words.now in
    asks-nothing asked_by (met_by program words) c.in-Err.error (c.in-Err.ensures.met field-is-simple-and-free)

pub returns-in-Ok : goal.returns-in-Ok
returns-in-Ok g c =
    let words : List Text = map g.S.AsStr.text c.args.words.now in
    asks seen asked_by (met_by program words) (subcommand_rows_of c.in-Ok.matches) c.asked_of.result
    (c.in-Ok.ensures.met field-is-simple-and-free) c.asked_of.ensures.asked
