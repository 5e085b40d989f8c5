use Rattle.std.proofs.Common.{◌∙◌, ap, arith, sym}
use Rattle.std.specs.Prelude.{Some}
use Rattle.tsb_plan_notes.specs.declared.machine.JsonStop.{JsonStop}
use Rattle.tsb_plan_notes.proofs.StopLemmas.{taken-here, taken-on}
use Rattle.tsb_plan_notes.proofs.machine.stop_of.Goals as goal

pub returns-then-not-take-clause-place : goal.returns-then-not-take-clause-place
returns-then-not-take-clause-place c =
    ap (λ (s : JsonStop). Some s) c.stop_here.ensures
    ∙ (sym (taken-here c.loop-at.machine c.take.new.self c.loop-at.at c.args.text.now c.loop-at-test.true c.if-not-take.ensures) ∙ c.loop-at.invariant.stops)

pub loop-at-preserved : goal.loop-at-preserved
loop-at-preserved c = record {
  stops = sym (taken-on c.loop-at.machine c.take.new.self c.loop-at.at c.args.text.now c.loop-at-test.true c.if-not-take.ensures) ∙ c.loop-at.invariant.stops;
  within = omega (arith, c.loop-at-test.true);
}
