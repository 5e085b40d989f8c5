use Rattle.std.proofs.Common.{◌≡◌, ℕ, Bool, true, false, not, ◌==◌, ◌||◌, List, sym, ap, ◌∙◌, ◌+◌, ◌-◌, arith}
use Rattle.std.proofs.lemmas.Bool.{ne_eqb}
use Rattle.std.specs.List.{list_any}
use Rattle.tsb_types.specs.Lists.{run_from}
use Rattle.tsb_plan.specs.Schedule.{day_plan_of}
use Rattle.tsb_plan.specs.PlanOf.{plan_of}
use Rattle.tsb_plan.proofs.RunStepLemmas.{run-first, run-none}
use Rattle.tsb_plan.proofs.plan.Plan.has_schedule.Goals as goal

pub returns : goal.returns
returns c =
    let f : ℕ → Bool = λ e. not (day_plan_of (plan_of c.args.self.now) e == 0) in
    sym (ap (λ (es : List ℕ). list_any f es) (run-none c.loop-entry.entry 32 (omega arith))) ∙ c.loop-entry.invariant.whole

pub loop-entry-preserved : goal.loop-entry-preserved
loop-entry-preserved c =
    let f : ℕ → Bool = λ e. not (day_plan_of (plan_of c.args.self.now) e == 0) in
    let rest : List ℕ = run_from (c.loop-entry.entry + 1) (32 + 1 - (c.loop-entry.entry + 1)) in
    let off : f c.loop-entry.entry ≡ false = ap (λ (n : ℕ). not (n == 0)) (sym c.day_plan_of.ensures.value ∙ c.if-day_plan_of-ne0.false) in
    record {
      whole = sym (ap (λ (es : List ℕ). list_any f es) (run-first c.loop-entry.entry 32 (omega arith)) ∙ ap (λ (b : Bool). b || list_any f rest) off)
          ∙ c.loop-entry.invariant.whole;
    }

pub returns-then-day_plan_of-ne0 : goal.returns-then-day_plan_of-ne0
returns-then-day_plan_of-ne0 c =
    let f : ℕ → Bool = λ e. not (day_plan_of (plan_of c.args.self.now) e == 0) in
    let rest : List ℕ = run_from (c.loop-entry.entry + 1) (32 + 1 - (c.loop-entry.entry + 1)) in
    let on : f c.loop-entry.entry ≡ true = ap (λ (n : ℕ). not (n == 0)) (sym c.day_plan_of.ensures.value) ∙ ap not (ne_eqb c.day_plan_of.result 0 c.if-day_plan_of-ne0.true) in
    sym (sym c.loop-entry.invariant.whole
    ∙ ap (λ (es : List ℕ). list_any f es) (run-first c.loop-entry.entry 32 (omega arith))
    ∙ ap (λ (b : Bool). b || list_any f rest) on)
