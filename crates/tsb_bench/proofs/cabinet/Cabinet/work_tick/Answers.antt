use Rattle.std.proofs.Common.{◌∙◌, ◌+◌, ◌≤◌, sym, arith}
use Rattle.tsb_objects.specs.Checked.{checked_plan}
use Rattle.tsb_plan.specs.PlanOf.{plan_of}
use Rattle.tsb_step.specs.Step.{last_tick}
use Rattle.tsb_bench.specs.Cabinet.{rows_of}
use Rattle.tsb_bench.proofs.InputLemmas.{below-limit, by-now}
use Rattle.tsb_bench.proofs.PassingLemmas.{rest, watched-here, settled-here, quiet-done}
use Rattle.tsb_bench.proofs.cabinet.Cabinet.work_tick.Goals as goal

pub overflow_add-now : goal.overflow_add-now
overflow_add-now c = let below : c.args.tick + 1 ≤ last_tick = below-limit c.args.tick (rows_of c.args.self.now) c.args.row.now c.requires.allowed in omega (arith, below)

pub due-due-requires-clause-in_time : goal.due-due-requires-clause-in_time
due-due-requires-clause-in_time c = below-limit c.args.tick (rows_of c.args.self.now) c.args.row.now c.requires.allowed

pub due-due-requires-clause-by : goal.due-due-requires-clause-by
due-due-requires-clause-by c = by-now (c.args.tick + 1) (rows_of c.tick.new.self) c.tick.ensures.done.by

pub due-due-requires-clause-settled : goal.due-due-requires-clause-settled
unfolding checked_plan plan_of
due-due-requires-clause-settled c =
    settled-here c.args.tick c.args.row.now (rows_of c.args.self.now) (rows_of c.tick.new.self) c.tick.new.out.items c.early_records_leave_phases.ensures c.requires.by c.tick.ensures.done
    (sym c.ends_before_phases.ensures ∙ c.if-not-ends_before_phases.false) c.watched_ticks_pass.ensures.ticked
    (watched-here c.args.tick c.args.row.now (rows_of c.args.self.now) (rows_of c.tick.new.self) (sym c.is_tripped.ensures ∙ c.if-is_tripped.false) c.tick.ensures.watched)

pub returns-clause-passing : goal.returns-clause-passing
unfolding checked_plan plan_of
returns-clause-passing c = record {
  within = (let within : c.due-due.result ≤ 6000001 = c.due-due.ensures.within in omega (arith, within));
  quiet = quiet-done (c.args.tick + 1) (rows_of c.args.self.now).layers (rows_of c.tick.new.self) c.args.row.now c.tick.ensures.done.by (sym c.is_tripped.ensures ∙ c.if-is_tripped.false) c.due-due.result
      c.watched_ticks_pass.ensures.passed
      (rest c.args.tick c.args.row.now (rows_of c.args.self.now) (rows_of c.tick.new.self) c.tick.new.out.items c.early_records_leave_phases.ensures c.requires.by c.tick.ensures.done
      (sym c.ends_before_phases.ensures ∙ c.if-not-ends_before_phases.false))
      (watched-here c.args.tick c.args.row.now (rows_of c.args.self.now) (rows_of c.tick.new.self) (sym c.is_tripped.ensures ∙ c.if-is_tripped.false) c.tick.ensures.watched) c.due-due.ensures.quiet;
}
