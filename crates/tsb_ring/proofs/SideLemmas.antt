-- The side of a target's first phase: a plan that breaks no rule has each enabled phase on one.
use Rattle.std.proofs.Common.{◌≡◌, ℕ, ◌≤◌, Bool, Option, Some, None, IfSome, sym, arith}
use Rattle.std.proofs.lemmas.Bool.{and_parts}
use Rattle.tsb_objects.specs.tsb_rules.Rules.{first_broken}
use Rattle.tsb_objects.proofs.tsb_rules.ConsistentLemmas.{placed}
use Rattle.tsb_objects.specs.tsb_plan.Plan.{Plan, phases, is_enabled, side_of}
use Rattle.tsb_types.specs.Lists.{first}
use Rattle.tsb_ring.specs.Wants.{is_targeted}
use Rattle.tsb_types.proofs.FirstLemmas.{first-within, first-passes}

pub sided : (plan : Plan) → first_broken plan ≡ None → (test : ℕ → Bool) (o : Option ℕ) → o ≡ first (is_targeted plan test) (phases plan) →
    IfSome o (λ q. 1 ≤ side_of plan q)
sided plan none test None e = tt
sided plan none test (Some q) e =
    let at = first-within (is_targeted plan test) 1 plan.phase_count q (sym e) in
    let on = (and_parts (is_enabled plan q) (test q) (first-passes (is_targeted plan test) (phases plan) q (sym e))).0 in
    (placed plan none q record { from_one = at.0; within = omega (arith, at.1) } on).side_from
