use Rattle.std.proofs.Common.{◌≡◌, ℕ, ◌≤◌, true, sym, ◌∙◌, subst, refl, inl, inr}
use Rattle.std.proofs.lemmas.Bool.Decides.{eqb_tells}
use Rattle.std.proofs.lemmas.Bool.{both_ways}
use Rattle.tsb_cells.specs.declared.timer.Timer.{Timer}
use Rattle.tsb_objects.specs.tsb_types.declared.limits.TheConstants.{VEHICLE_DETECTORS}
use Rattle.tsb_objects.specs.tsb_plan.Plan.{Plan}
use Rattle.tsb_objects.specs.tsb_plan.PlanOf.{plan_of}
use Rattle.tsb_objects.specs.tsb_plan.Parts.{call_phase}
use Rattle.tsb_objects.specs.tsb_types.Sets.{has_detector}
use Rattle.tsb_detect.specs.declared.detector_row.DetectorRow.{DetectorRow}
use Rattle.tsb_detect.specs.Promises.{green_timer_of}
use Rattle.tsb_detect.specs.Cells.{row_in}
use Rattle.tsb_detect.specs.Rows.{IsVisit}
use Rattle.tsb_detect.specs.Layer.{cells_of}
use Rattle.tsb_detect.proofs.detectors.Detectors.visit_each.Goals as goal

pub loop-d-init : goal.loop-d-init
loop-d-init c = record {
  done = c.requires.others;
  left = λ e from within in_rest. refl;
  lists = λ k small below. small;
  kept = refl;
  opened = c.requires.opened;
}

pub loop-d-preserved : goal.loop-d-preserved
loop-d-preserved c =
    let d : ℕ = c.in-Some.d in
    let seen = c.in-Some.ensures in
    let held = c.loop-d.invariant in
    let made = c.visit.ensures in
    let now : ℕ = c.args.now in
    let plan : Plan = plan_of c.args.plan.now in
    let green : ℕ → Timer = λ e. green_timer_of now c.args.greens.now (call_phase plan e) in
    let first = cells_of c.args.self.now in
    let new = cells_of c.visit.new.self in
    record {
      done = λ e from within out.
          elim (eqb_tells e d) [
            | inl same ↦
                let left = held.left d (subst (λ (n : ℕ). 1 ≤ n) same.1 from) (subst (λ (n : ℕ). n ≤ VEHICLE_DETECTORS) same.1 within) seen.had in
                subst (λ (n : ℕ). IsVisit now plan n (has_detector c.args.inputs n) (green n) (row_in first n) (row_in new n)) (sym same.1)
                (subst (λ (r : DetectorRow). IsVisit now plan d (has_detector c.args.inputs d) (green d) r (row_in new d)) left made.visit)
            | inr other ↦
                subst (λ (r : DetectorRow). IsVisit now plan e (has_detector c.args.inputs e) (green e) (row_in first e) r) (sym (made.others e from within other.1))
                (held.done e from within (sym (seen.others e other.1) ∙ out))
          ];
      left = λ e from within in_rest.
          elim (eqb_tells e d) [
            | inl same ↦ absurd (both_ways (has_detector c.pop_detector.new.self d) seen.taken (subst (λ (n : ℕ). has_detector c.pop_detector.new.self n ≡ true) same.1 in_rest))
            | inr other ↦ made.others e from within other.1 ∙ held.left e from within (sym (seen.others e other.1) ∙ in_rest)
          ];
      lists = λ k small below. made.lists k (held.lists k small below) below;
      kept = made.kept ∙ held.kept;
      opened = made.opened;
    }
