use Rattle.std.proofs.Common.{take}
use Rattle.tsb_machine.specs.Play.{DoAll}
use Rattle.tsb_step.specs.Past.{controller}
use Rattle.tsb_step.specs.Watches.{watched}
use Rattle.tsb_bench.specs.Held.{whole}
use Rattle.tsb_bench.proofs.player.answer_all.Given as goal

-- the bench did what it says at each of the commands so far
abbrev pub invariant-loop-command : goal.invariant-loop-command
invariant-loop-command l = record {
  done : DoAll controller watched (whole l.fn.bench) (take l.command-index l.commands) l.answers.items (whole l.bench);
}
