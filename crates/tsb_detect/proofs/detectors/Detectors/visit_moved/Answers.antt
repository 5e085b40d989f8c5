use Rattle.std.proofs.Common.{◌≡◌, ℕ, Bool, true, None, sym, ◌∙◌, subst, refl, inl, inr}
use Rattle.std.proofs.lemmas.Bool.Decides.{eqb_tells}
use Rattle.std.proofs.lemmas.Bool.{both_ways}
use Rattle.tsb_cells.specs.declared.timer.Timer.{Timer}
use Rattle.tsb_objects.specs.tsb_plan.Plan.{Plan}
use Rattle.tsb_objects.specs.tsb_plan.PlanOf.{plan_of}
use Rattle.tsb_objects.specs.tsb_plan.Parts.{call_phase}
use Rattle.tsb_objects.specs.tsb_types.Sets.{has_detector}
use Rattle.tsb_detect.specs.declared.detector_row.DetectorRow.{DetectorRow}
use Rattle.tsb_detect.specs.Detector.{new_alarm}
use Rattle.tsb_detect.specs.Promises.{green_timer_of}
use Rattle.tsb_detect.specs.Cells.{row_in, detector_of}
use Rattle.tsb_detect.specs.Rows.{row_with, IsVisit, HasNoAlarm}
use Rattle.tsb_detect.specs.Layer.{cells_of}
use Rattle.tsb_detect.proofs.SoundLemmas.{part, no-alarm, unmoved-visit, kept, taken}
use Rattle.tsb_detect.proofs.detectors.Detectors.visit_moved.Goals as goal

pub loop-d-init : goal.loop-d-init
loop-d-init c = record {
  done = λ e from within out.
      unmoved-visit c.args.now (plan_of c.args.plan.now) e (has_detector c.args.inputs e) _ _ (row_in (cells_of c.args.self.now) e)
      (c.requires.read e from within) (c.requires.sound e from within) (c.requires.input e out) (c.requires.output e out)
      (c.difference-on.ensures e ∙ kept _ _ out);
  left = λ e from within in_rest. refl;
  off = λ e in_rest. c.difference-on.ensures e ∙ taken _ _ in_rest;
  none = λ e from within. (c.requires.sound e from within).none;
  lists = λ k small below. small;
  kept = refl;
  opened = c.requires.opened;
}

pub visit_sound-output-requires-clause-part : goal.visit_sound-output-requires-clause-part
visit_sound-output-requires-clause-part c = part _ _ _ _ _ (c.requires.sound c.in-Some.d c.in-Some.ensures.from c.in-Some.ensures.within)

pub visit_sound-output-requires-clause-no_alarm : goal.visit_sound-output-requires-clause-no_alarm
visit_sound-output-requires-clause-no_alarm c =
    let d : ℕ = c.in-Some.d in
    let plan : Plan = plan_of c.args.plan.now in
    subst (λ (r : DetectorRow). new_alarm plan d c.args.now (has_detector c.args.inputs d) (detector_of c.args.now r) ≡ None)
    (sym (c.loop-d.invariant.left d c.in-Some.ensures.from c.in-Some.ensures.within c.in-Some.ensures.had))
    (no-alarm c.args.now plan d _ _ (c.requires.sound d c.in-Some.ensures.from c.in-Some.ensures.within))

pub loop-d-preserved : goal.loop-d-preserved
loop-d-preserved c =
    let d : ℕ = c.in-Some.d in
    let seen = c.in-Some.ensures in
    let held = c.loop-d.invariant in
    let made = c.visit_sound-output.ensures in
    let put = c.joined-on.ensures in
    let now : ℕ = c.args.now in
    let plan : Plan = plan_of c.args.plan.now in
    let x : ℕ → Bool = λ e. has_detector c.args.inputs e in
    let on : ℕ → Bool = λ e. has_detector c.joined-on.result e in
    let green : ℕ → Timer = λ e. green_timer_of now c.args.greens.now (call_phase plan e) in
    let first = cells_of c.args.self.now in
    let new = cells_of c.visit_sound-output.new.self in
    let left = held.left d c.in-Some.ensures.from c.in-Some.ensures.within seen.had in
    let this : IsVisit now plan d (x d) (green d) (row_in first d) (row_with (x d) (on d) (row_in first d) (row_in new d)) =
    subst (λ (o : Bool). IsVisit now plan d (x d) (green d) (row_in first d) (row_with (x d) o (row_in first d) (row_in new d))) (sym put.set)
    (subst (λ (r : DetectorRow). IsVisit now plan d (x d) (green d) r (row_with (x d) c.visit_sound-output.result r (row_in new d))) left made.visit) in
    record {
      done = λ e from within out.
          elim (eqb_tells e d) [
            | inl same ↦
                subst (λ (n : ℕ). IsVisit now plan n (x n) (green n) (row_in first n) (row_with (x n) (on n) (row_in first n) (row_in new n))) (sym same.1) this
            | inr other ↦
                subst (λ (o : Bool). IsVisit now plan e (x e) (green e) (row_in first e) (row_with (x e) o (row_in first e) (row_in new e))) (sym (put.others e other.1))
                (subst (λ (r : DetectorRow). IsVisit now plan e (x e) (green e) (row_in first e) (row_with (x e) (has_detector c.loop-d.on e) (row_in first e) r))
                (sym (made.others e from within other.1))
                (held.done e from within (sym (seen.others e other.1) ∙ out)))
          ];
      left = λ e from within in_rest.
          elim (eqb_tells e d) [
            | inl same ↦ absurd (both_ways (has_detector c.pop_detector.new.self d) seen.taken (subst (λ (n : ℕ). has_detector c.pop_detector.new.self n ≡ true) same.1 in_rest))
            | inr other ↦ made.others e from within other.1 ∙ held.left e from within (sym (seen.others e other.1) ∙ in_rest)
          ];
      off = λ e in_rest.
          elim (eqb_tells e d) [
            | inl same ↦ absurd (both_ways (has_detector c.pop_detector.new.self d) seen.taken (subst (λ (n : ℕ). has_detector c.pop_detector.new.self n ≡ true) same.1 in_rest))
            | inr other ↦ put.others e other.1 ∙ held.off e (sym (seen.others e other.1) ∙ in_rest)
          ];
      none = λ e from within.
          elim (eqb_tells e d) [
            | inl same ↦ subst (λ (n : ℕ). HasNoAlarm (row_in new n)) (sym same.1) made.none
            | inr other ↦ subst (λ (r : DetectorRow). HasNoAlarm r) (sym (made.others e from within other.1)) (held.none e from within)
          ];
      lists = λ k small below. made.lists k (held.lists k small below) below;
      kept = made.kept ∙ held.kept;
      opened = made.opened;
    }
