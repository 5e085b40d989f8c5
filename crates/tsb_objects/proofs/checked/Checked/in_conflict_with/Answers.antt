use Rattle.std.proofs.Common.{ℕ, ◌==◌, ◌&&◌, not, Bool, ◌∙◌, ap}
use Rattle.tsb_objects.specs.Checked.{checked_plan}
use Rattle.tsb_plan.specs.Plan.{Plan, is_concurrent}
use Rattle.tsb_plan.specs.PlanOf.{plan_of}
use Rattle.tsb_types.specs.Sets.{has, has_number}
use Rattle.tsb_objects.proofs.PassLemmas.{pass-same}
use Rattle.tsb_objects.proofs.checked.Checked.in_conflict_with.Goals as goal

pub returns : goal.returns
unfolding checked_plan plan_of
returns c = λ p from within.
    let plan : Plan = plan_of c.args.self.now.plan in
    let apart : ℕ → ℕ → Bool = λ q r. not (q == r) && not (is_concurrent plan r q) in
    c.of.ensures apart c.args.self.now.unions_are.conflicts p from within
    ∙ pass-same (λ q. has_number c.from_list-numbers.result q && apart q p) (λ q. has c.args.phases q && apart q p) 1 16 (λ q first below.
    ap (λ (b : Bool). b && apart q p) (c.from_list-numbers.ensures.named q ∙ c.list.ensures q))
