use Rattle.std.proofs.Common.{List, drop, map}
use Rattle.clap.specs.Faults.{fault_of}
use Rattle.clap.specs.Simple.{matches_of}
use Rattle.clap.specs.Walk.{Text}
use Rattle.tsb_words.specs.LiveProgram.{program}
use Rattle.tsb_words.specs.LiveWords.{wish_of}
use Rattle.tsb_words.specs.Words.{given_of}
use Rattle.tsb_words.proofs.LiveLemmas.{gives-all, live-asked, live-refused}
use Rattle.tsb_words.proofs.WordLemmas.{live-is-simple-and-free}
use Rattle.tsb_words.proofs.live.read_words.Goals as goal

pub returns-in-Err : goal.returns-in-Err
returns-in-Err g c =
    let words : List Text = map g.S.AsStr.text c.args.words.now in
    live-refused (wish_of (drop 1 words)) (fault_of program words) (matches_of program words) c.in-Err.error (gives-all words)
    (c.in-Err.ensures.given live-is-simple-and-free)

pub returns-in-Some : goal.returns-in-Some
returns-in-Some g c =
    let words : List Text = map g.S.AsStr.text c.args.words.now in
    live-asked (wish_of (drop 1 words)) (fault_of program words) (matches_of program words) (given_of c.in-Ok.matches) _ (gives-all words)
    (c.in-Ok.ensures.given live-is-simple-and-free) c.in-Some.ensures

pub returns : goal.returns
returns g c =
    let words : List Text = map g.S.AsStr.text c.args.words.now in
    live-asked (wish_of (drop 1 words)) (fault_of program words) (matches_of program words) (given_of c.in-Ok.matches) _ (gives-all words)
    (c.in-Ok.ensures.given live-is-simple-and-free) c.in-None.ensures
