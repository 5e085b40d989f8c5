use Rattle.std.proofs.Common.{List, map}
use Rattle.clap.specs.Simple.{app_of, subcommand_rows_of}
use Rattle.clap.specs.Walk.{Text}
use Rattle.tsb_words.specs.Commands.{app_of_program}
use Rattle.tsb_words.specs.Words.{given_by, given_of, met_by}
use Rattle.tsb_words.proofs.WordLemmas.{of-program}
use Rattle.tsb_words.proofs.matches.matches_of.Goals as goal

pub returns-in-Ok-clause-met : goal.returns-in-Ok-clause-met
returns-in-Ok-clause-met g c = λ free.
    let words : List Text = map g.S.AsStr.text c.args.words.now in
    of-program subcommand_rows_of met_by (app_of c.in-Ok.command) (app_of_program c.args.program.now) words c.taken.result c.in-Ok.ensures free c.taken.ensures.met

pub returns-in-Ok-clause-given : goal.returns-in-Ok-clause-given
returns-in-Ok-clause-given g c = λ free.
    let words : List Text = map g.S.AsStr.text c.args.words.now in
    of-program given_of given_by (app_of c.in-Ok.command) (app_of_program c.args.program.now) words c.taken.result c.in-Ok.ensures free c.taken.ensures.given
