use Rattle.std.proofs.Common.{◌≡◌, Some, sym}
use Rattle.clap.specs.Matches.{found_of}
use Rattle.clap.specs.Simple.{subcommand_rows_of}
use Rattle.clap.specs.Walk.{rows_of}
use Rattle.tsb_words.proofs.MetLemmas.{asks-check, asks-no-log, asks-no-plan, asks-run, met-is}
use Rattle.tsb_words.proofs.bench.asked_of.Goals as goal
use Rattle.tsb_words.proofs.bench.asked_of.Goals.{In-Some}

met : (c : In-Some) → subcommand_rows_of c.args.matches.now ≡ Some (c.in-Some.name.now, rows_of (found_of c.in-Some.files.now))
met c = met-is c.args.matches.now c.in-Some.name.now (rows_of (found_of c.in-Some.files.now)) c.in-Some.ensures.name c.in-Some.ensures.rows

pub returns-in_default-get_str : goal.returns-in_default-get_str
returns-in_default-get_str c =
    sym (asks-no-plan c.args.matches.now c.in-Some.name.now (found_of c.in-Some.files.now) (met (goal.at.returns-in_default-get_str c).In-Some) c.in_default-get_str.ensures)

pub returns-then-eq : goal.returns-then-eq
returns-then-eq c =
    sym (asks-check c.args.matches.now c.in-Some.name.now c.in-Some-get_str.plan.now (found_of c.in-Some.files.now) (met (goal.at.returns-then-eq c).In-Some)
    c.in-Some-get_str.ensures (sym c.if-eq.ensures))

pub returns-in_default-get_str-2 : goal.returns-in_default-get_str-2
returns-in_default-get_str-2 c =
    sym (asks-no-log c.args.matches.now c.in-Some.name.now c.in-Some-get_str.plan.now (found_of c.in-Some.files.now) (met (goal.at.returns-in_default-get_str-2 c).In-Some)
    c.in-Some-get_str.ensures (sym c.if-eq.ensures) c.in_default-get_str-2.ensures)

pub returns : goal.returns
returns c =
    sym (asks-run c.args.matches.now c.in-Some.name.now c.in-Some-get_str.plan.now c.in-Some-get_str-2.log.now (found_of c.in-Some.files.now) (met (goal.at.returns c).In-Some)
    c.in-Some-get_str.ensures (sym c.if-eq.ensures) c.in-Some-get_str-2.ensures)
