use Rattle.std.proofs.Common.{◌-◌, ◌≤◌, sym, subst, arith}
use Rattle.tsb_objects.specs.tsb_plan.Plan.{Plan, red_revert}
use Rattle.tsb_objects.specs.tsb_plan.PlanOf.{plan_of}
use Rattle.tsb_phase.specs.Promises.{IsQuiet, KeepsReady, KeepsOver, KeepsRedRevertPassed, KeepsGapped}
use Rattle.tsb_phase.specs.Layer.{cells_of}
use Rattle.tsb_phase.proofs.ReadLemmas.{later}
use Rattle.tsb_phase.proofs.QuietLemmas.{ticked-still, ready-still, over-still, reverted-still, gapped-still, walks-still}
use Rattle.tsb_phase.proofs.phases.Phases.due.Goals as goal

pub still_until-requires-clause-by : goal.still_until-requires-clause-by
still_until-requires-clause-by c = λ p from within.
    later (c.args.now - 1) c.args.now _ (omega arith) (c.requires.by.each p from within)

pub still_until-requires-clause-longest : goal.still_until-requires-clause-longest
still_until-requires-clause-longest c = λ p from within.
    subst (λ (q : Plan). red_revert q p ≤ c.longest_red_revert-longest.result) (sym c.plan.ensures.plan) (c.longest_red_revert-longest.ensures.none_longer p from within)

pub returns-clause-quiet : goal.returns-clause-quiet
returns-clause-quiet c =
    subst (λ (q : Plan). IsQuiet c.args.now c.args.conditions.now q (cells_of c.args.self.now) c.max.result) c.plan.ensures.plan (λ t after soon.
    ticked-still c.args.now t c.args.conditions.now (plan_of c.plan.result.now) (cells_of c.args.self.now) c.requires.begun c.requires.by after
    (λ p from within. c.still_until.ensures t p after (omega (arith, after, soon)) from within))

pub returns-clause-ready : goal.returns-clause-ready
returns-clause-ready c =
    subst (λ (q : Plan). KeepsReady c.args.now c.args.conditions.now q (cells_of c.args.self.now) c.max.result) c.plan.ensures.plan (λ t after soon.
    ready-still c.args.now t c.args.conditions.now (plan_of c.plan.result.now) (cells_of c.args.self.now) c.requires.begun c.requires.by after
    (λ p from within. c.still_until.ensures t p after (omega (arith, after, soon)) from within))

pub returns-clause-over : goal.returns-clause-over
returns-clause-over c =
    subst (λ (q : Plan). KeepsOver c.args.now q (cells_of c.args.self.now) c.max.result) c.plan.ensures.plan (λ t after soon.
    over-still c.args.now t c.args.conditions.now (plan_of c.plan.result.now) (cells_of c.args.self.now) c.requires.begun c.requires.by after
    (λ p from within. c.still_until.ensures t p after (omega (arith, after, soon)) from within))

pub returns-clause-red_revert_passed : goal.returns-clause-red_revert_passed
returns-clause-red_revert_passed c =
    subst (λ (q : Plan). KeepsRedRevertPassed c.args.now q (cells_of c.args.self.now) c.max.result) c.plan.ensures.plan (λ t after soon.
    reverted-still c.args.now t c.args.conditions.now (plan_of c.plan.result.now) (cells_of c.args.self.now) c.requires.begun c.requires.by after
    (λ p from within. c.still_until.ensures t p after (omega (arith, after, soon)) from within))

pub returns-clause-gapped : goal.returns-clause-gapped
returns-clause-gapped c =
    subst (λ (q : Plan). KeepsGapped c.args.now c.args.conditions.now q (cells_of c.args.self.now) c.max.result) c.plan.ensures.plan (λ t after soon.
    gapped-still c.args.now t c.args.conditions.now (plan_of c.plan.result.now) (cells_of c.args.self.now) c.requires.begun c.requires.by after
    (λ p from within. c.still_until.ensures t p after (omega (arith, after, soon)) from within))

pub returns-clause-walks : goal.returns-clause-walks
returns-clause-walks c = λ t after soon.
    walks-still c.args.now t c.args.conditions.now (plan_of c.plan.result.now) (cells_of c.args.self.now) c.requires.begun c.requires.by after
    (λ p from within. c.still_until.ensures t p after (omega (arith, after, soon)) from within)
