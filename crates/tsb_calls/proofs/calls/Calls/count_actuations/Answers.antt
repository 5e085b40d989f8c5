use Rattle.std.proofs.Common.{◌≡◌, ℕ, ◌+◌, ◌≤◌, true, if◌then◌else◌, slice_index, count_by, refl, sym, ◌∙◌, ap, arith, inl, inr, subst}
use Rattle.std.proofs.lemmas.Bool.Decides.{eqb_tells}
use Rattle.tsb_objects.specs.Checked.{checked_plan}
use Rattle.tsb_objects.specs.tsb_types.Sets.{has, has_detector}
use Rattle.tsb_calls.specs.Memories.{calls, vehicle_detectors}
use Rattle.tsb_calls.specs.Layer.{cells_of, counted_to}
use Rattle.tsb_calls.proofs.CountLemmas.{all-detectors, taken, count-taken, count-all, count-begun, counted-twice, counted-none, counted-small}
use Rattle.tsb_calls.proofs.calls.Calls.count_actuations.Goals as goal

pub loop-d-preserved : goal.loop-d-preserved
loop-d-preserved c =
    let held = c.loop-d.invariant in
    let made = c.count_one.ensures in
    let d : ℕ = c.in-Some.d in
    let had = held.within d c.in-Some.ensures.had in
    record {
      within = λ e is.
          elim (eqb_tells e d) [
            | inl same ↦ subst (λ (n : ℕ). has_detector c.args.actuated n ≡ true) (sym same.1) had
            | inr other ↦ held.within e (sym (c.in-Some.ensures.others e other.1) ∙ is)
          ];
      told = λ p from within.
          let was : ℕ = slice_index (cells_of c.args.self.now) (1 + p) in
          let one : ℕ = if calls (checked_plan c.args.plan.now) d p then 1 else 0 in
          let far : ℕ = count_by (taken (λ e. calls (checked_plan c.args.plan.now) e p) (has_detector c.args.actuated) (has_detector c.loop-d.rest)) (vehicle_detectors (checked_plan c.args.plan.now)) in
          made.counts p from within
          ∙ ap (λ (n : ℕ). counted_to (has c.args.green p) n one) (held.told p from within)
          ∙ counted-twice (has c.args.green p) was far one
          ∙ ap (λ (n : ℕ). counted_to (has c.args.green p) was n)
          (count-taken (checked_plan c.args.plan.now).counts.vehicle_detectors (λ e. calls (checked_plan c.args.plan.now) e p) (has_detector c.args.actuated) (has_detector c.loop-d.rest) (has_detector c.pop_detector.new.self) d
          c.in-Some.ensures.from (omega (arith, c.in-Some.ensures.within, all-detectors c.args.plan.now)) had c.in-Some.ensures.had c.in-Some.ensures.taken c.in-Some.ensures.others);
      small = λ p from within.
          let one : ℕ = if calls (checked_plan c.args.plan.now) d p then 1 else 0 in
          subst (λ (n : ℕ). n ≤ 255) (sym (made.counts p from within)) (counted-small (has c.args.green p) _ one (held.small p from within));
      lists = λ k below. made.lists k below ∙ held.lists k below;
      kept = made.kept ∙ held.kept;
      opened = made.opened;
    }

pub loop-d-init : goal.loop-d-init
loop-d-init c = record {
  within = λ d is. is;
  told = λ p from within.
      let was : ℕ = slice_index (cells_of c.args.self.now) (1 + p) in
      counted-none (has c.args.green p) was (c.requires.small p from within)
      ∙ ap (λ (n : ℕ). counted_to (has c.args.green p) was n) (sym (count-begun (checked_plan c.args.plan.now).counts.vehicle_detectors (λ d. calls (checked_plan c.args.plan.now) d p) (has_detector c.args.actuated)));
  small = c.requires.small;
  lists = λ k below. refl;
  kept = refl;
  opened = c.requires.opened;
}

pub returns-clause-counts : goal.returns-clause-counts
returns-clause-counts c = λ p from within.
    c.loop-d.invariant.told p from within
    ∙ ap (λ (n : ℕ). counted_to (has c.args.green p) (slice_index (cells_of c.args.self.now) (1 + p)) n)
    (count-all (checked_plan c.args.plan.now).counts.vehicle_detectors (λ d. calls (checked_plan c.args.plan.now) d p) (has_detector c.args.actuated) (has_detector c.loop-d.rest) (λ d. c.in_default.ensures.none refl d))
