use Rattle.std.proofs.Common.{◌∙◌, List, Option, map, subst, sym}
use Rattle.clap.specs.Simple.{subcommand_rows_of}
use Rattle.clap.specs.Walk.{Text}
use Rattle.tsb_words.specs.BenchProgram.{asked_by, program}
use Rattle.tsb_words.specs.BenchWords.{Wish}
use Rattle.tsb_words.specs.Words.{IsRefused, met_by}
use Rattle.tsb_words.proofs.ProgramLemmas.{agree-all}
use Rattle.tsb_words.proofs.WordLemmas.{asks-nothing, asks-what, bench-is-simple-and-free}
use Rattle.tsb_words.proofs.bench.read_words.Goals as goal

pub returns-in-Err : goal.returns-in-Err
returns-in-Err g c =
    let words : List Text = map g.S.AsStr.text c.args.words.now in
    subst (λ (o : Option Wish). IsRefused o c.in-Err.error) (agree-all words)
    (asks-nothing asked_by (met_by program words) c.in-Err.error (c.in-Err.ensures.met bench-is-simple-and-free))

pub returns-in-Some : goal.returns-in-Some
returns-in-Some g c =
    let words : List Text = map g.S.AsStr.text c.args.words.now in
    sym (agree-all words)
    ∙ asks-what asked_by (met_by program words) (subcommand_rows_of c.in-Ok.matches) _ (c.in-Ok.ensures.met bench-is-simple-and-free) c.in-Some.ensures

pub returns : goal.returns
returns g c =
    let words : List Text = map g.S.AsStr.text c.args.words.now in
    sym (agree-all words)
    ∙ asks-what asked_by (met_by program words) (subcommand_rows_of c.in-Ok.matches) _ (c.in-Ok.ensures.met bench-is-simple-and-free) c.in-None.ensures
