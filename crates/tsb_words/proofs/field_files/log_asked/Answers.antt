use Rattle.std.proofs.Common.{◌≡◌, Ok, arith, subst}
use Rattle.clap.specs.Matches.{found_of}
use Rattle.clap.specs.Walk.{rows_of}
use Rattle.tsb_words.specs.FieldProgram.{wires_in}
use Rattle.tsb_words.specs.Wires.{AreSpelled}
use Rattle.tsb_words.proofs.OptionLemmas.{getters_log}
use Rattle.tsb_words.proofs.field_files.log_asked.Goals as goal

pub returns-in-Ok-clause-asked : goal.returns-in-Ok-clause-asked
returns-in-Ok-clause-asked c =
    let is : c.all_wires.result ≡ Ok c.in-Ok.wires = grind arith in
    let spelled : AreSpelled (wires_in (rows_of (found_of c.args.options.now))) (Ok c.in-Ok.wires) = subst (AreSpelled (wires_in (rows_of (found_of c.args.options.now)))) is c.all_wires.ensures in
    getters_log (found_of c.args.options.now) c.in-Some.from _ _ c.in-Some-manner_asked.manner c.in-Ok.wires.items c.in-Some.ensures c.get_str.ensures c.in-Some-manner_asked.ensures spelled c.get_str-in-Ok.ensures
