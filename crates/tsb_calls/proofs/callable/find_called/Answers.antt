use Rattle.std.proofs.Common.{◌≡◌, ℕ, ◌≤◌, ◌==◌, ◌&&◌, ◌||◌, not, Bool, ◌∙◌, ap, ap₂, arith}
use Rattle.tsb_objects.specs.tsb_plan.Plan.{Plan, has_soft_recall, is_concurrent}
use Rattle.tsb_objects.specs.tsb_plan.PlanOf.{plan_of}
use Rattle.tsb_objects.specs.Checked.{checked_plan}
use Rattle.tsb_objects.proofs.PassLemmas.{pass-same}
use Rattle.tsb_objects.specs.tsb_types.Sets.{has}
use Rattle.tsb_calls.specs.Memories.{Given}
use Rattle.tsb_calls.specs.Callable.{has_pedestrian_call, is_called, is_callable_otherwise, some_is_callable_otherwise, is_callable, has_conflict}
use Rattle.tsb_calls.specs.Promises.{given_of}
use Rattle.tsb_calls.proofs.callable.find_called.Goals as goal

pub returns : goal.returns
unfolding is_callable has_conflict checked_plan plan_of
returns c = λ m are p from within.
    let plan : Plan = checked_plan c.args.plan.now in
    let given : Given = given_of c.args.observed.now in
    let walk : (q : ℕ) → 1 ≤ q → q ≤ 16 → has c.with_pedestrian_call-walk.result q ≡ has_pedestrian_call plan given m q =
    λ q low high. c.with_pedestrian_call-walk.ensures m q low high (are.pedestrians q low high) in
    let called : (q : ℕ) → 1 ≤ q → q ≤ 16 → has c.called-called.result q ≡ is_called plan given m q =
    λ q low high. c.called-called.ensures m q low high (are.vehicles q low high) (walk q low high) in
    let otherwise : (q : ℕ) → 1 ≤ q → q ≤ 16 → (has c.free.result q && has c.called-called.result q) ≡ is_callable_otherwise plan given m q =
    λ q low high. ap₂ (λ (a b : Bool). a && b) (c.free.ensures q low high) (called q low high) in
    let callable : (q : ℕ) → 1 ≤ q → q ≤ 16 → has c.callable-callable.result q ≡ is_callable plan given m q =
    λ q low high.
    c.callable-callable.ensures (is_callable_otherwise plan given m) otherwise q low high
    ∙ ap (λ (free : Bool). is_callable_otherwise plan given m q || (free && (has_soft_recall plan q && not (some_is_callable_otherwise plan given m)))) (c.free.ensures q low high) in
    record {
      callable = callable p from within;
      conflict =
          c.in_conflict_with.ensures p from within
          ∙ pass-same (λ q. has c.callable-callable.result q && (not (q == p) && not (is_concurrent plan p q)))
          (λ q. is_callable plan given m q && (not (q == p) && not (is_concurrent plan p q))) 1 16
          (λ q low below. ap (λ (b : Bool). b && (not (q == p) && not (is_concurrent plan p q))) (callable q low (omega (arith, below))));
      pedestrian = walk p from within;
      output = c.requires p from within;
    }
