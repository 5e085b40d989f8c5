use Rattle.std.proofs.Common.{◌≡◌, None, Some, arith, rules, sym}
use Rattle.clap.specs.Matches.{found_of}
use Rattle.tsb_words.proofs.OptionLemmas.{moment_none, moment_some}
use Rattle.tsb_words.proofs.field_files.options.moment.Goals as goal

pub returns-in_err-text : goal.returns-in_err-text
returns-in_err-text c =
    let none : c.get_str.result ≡ None = grind arith in
    rw c.from_residual.ensures (sym (moment_none (found_of c.args.matches.now) (search (rules, none))))

pub returns : goal.returns
returns c =
    let some : c.get_str.result ≡ Some c.in_ok-text.text = grind arith in
    search (rules, sym (moment_some (found_of c.args.matches.now) c.in_ok-text.text.now (search (rules, some))))
