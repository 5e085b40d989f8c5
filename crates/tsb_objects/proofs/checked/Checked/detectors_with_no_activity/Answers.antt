use Rattle.std.proofs.Common.{◌≡◌, ℕ, zero, suc, ◌*◌, nat_le, true, refl, sym, ◌∙◌, arith}
use Rattle.std.proofs.lemmas.Bool.Decides.{nat_tests}
use Rattle.tsb_objects.specs.Checked.{checked_plan}
use Rattle.tsb_plan.specs.PlanOf.{plan_of}
use Rattle.tsb_plan.specs.declared.object.Object.TheVariants.{VehicleDetectorNoActivity}
use Rattle.tsb_objects.proofs.checked.Checked.detectors_with_no_activity.Goals as goal

pub returns : goal.returns
unfolding checked_plan plan_of
returns c = λ d. c.args.self.now.detectors_are.no_activity d ∙ in-tenths ((plan_of c.args.self.now.plan).value VehicleDetectorNoActivity d)
  where
    in-tenths : (v : ℕ) → nat_le 1 v ≡ nat_le 1 (600 * v)
    in-tenths zero = refl
    in-tenths (suc k) =
        let least : nat_le 1 (suc k) ≡ true = grind (arith, nat_tests) in
        let some : nat_le 1 (600 * suc k) ≡ true = grind (arith, nat_tests) in
        least ∙ sym some
