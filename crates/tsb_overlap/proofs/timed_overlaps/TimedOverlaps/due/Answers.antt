use Rattle.std.proofs.Common.{◌≡◌, ℕ, ◌+◌, ◌≤◌, true, false, List, slice_index, refl, sym, ◌∙◌, subst, arith, inl, inr}
use Rattle.std.proofs.lemmas.Bool.{cases_eq}
use Rattle.std.proofs.lemmas.Bool.Decides.{eqb_tells}
use Rattle.tsb_objects.specs.tsb_types.Sets.{has_number}
use Rattle.tsb_objects.specs.tsb_plan.Plan.{Plan}
use Rattle.tsb_objects.specs.tsb_plan.Parts.{is_timed}
use Rattle.tsb_objects.specs.Checked.{checked_plan}
use Rattle.tsb_objects.specs.tsb_types.declared.limits.TheConstants.{OVERLAPS}
use Rattle.tsb_overlap.specs.declared.parts.Part.{Part}
use Rattle.tsb_overlap.specs.declared.surroundings.Surroundings.{Surroundings}
use Rattle.tsb_overlap.specs.Cells.{part_in, omitted_in}
use Rattle.tsb_overlap.specs.Layer.{cells_of}
use Rattle.tsb_overlap.specs.Parts.{IsStill}
use Rattle.tsb_overlap.proofs.ListLemmas.{not-both}
use Rattle.tsb_overlap.proofs.DueLemmas.{quiet-tick, still-now}
use Rattle.tsb_overlap.proofs.timed_overlaps.TimedOverlaps.due.Goals as goal

pub loop-number-init : goal.loop-number-init
loop-number-init c = record {
  timed = λ q from to on. sym (c.timed_overlaps-rest.ensures q) ∙ on;
  still = λ q from to out is. absurd (not-both (is_timed (checked_plan c.args.plan.now) q) is (sym (c.timed_overlaps-rest.ensures q) ∙ out));
}

pub part-requires : goal.part-requires
part-requires c =
    subst (λ (o : ℕ). slice_index (cells_of c.args.self.now) (5 + OVERLAPS + o) ≤ 16) (sym c.of-o.ensures)
    (c.requires.by.each c.in-Some.number c.in-Some.ensures.from_one c.in-Some.ensures.within).phase

pub due-requires : goal.due-requires
due-requires c =
    subst (λ (p : Plan). is_timed p c.of-o.result ≡ true) (sym c.plan.ensures.plan)
    (subst (λ (o : ℕ). is_timed (checked_plan c.args.plan.now) o ≡ true) (sym c.of-o.ensures)
    (c.loop-number.invariant.timed c.in-Some.number c.in-Some.ensures.from_one c.in-Some.ensures.within c.in-Some.ensures.had))

pub loop-number-preserved : goal.loop-number-preserved
loop-number-preserved c =
    let n : ℕ = c.in-Some.number in
    let plan : Plan = checked_plan c.args.plan.now in
    let row : List ℕ = cells_of c.args.self.now in
    let at : c.of-o.result ≡ n = c.of-o.ensures in
    record {
      timed = λ q from to on.
          elim (eqb_tells q n) [
            | inl is ↦ absurd (not-both (has_number c.with-rest.result q) on (subst (λ (k : ℕ). has_number c.with-rest.result k ≡ false) (sym is.1) c.with-rest.ensures.set))
            | inr other ↦ c.loop-number.invariant.timed q from to (sym (c.with-rest.ensures.others q other.1) ∙ on)
          ];
      still = λ q from to out is preempted omitted lights t after soon.
          elim (eqb_tells q n) [
            | inl same ↦
                subst (λ (k : ℕ). IsStill plan preempted omitted lights c.args.seen.now k (part_in row k) c.args.now t) (at ∙ sym same.1)
                (subst (λ (part : Part). IsStill plan preempted omitted lights c.args.seen.now c.of-o.result part c.args.now t) c.part.ensures
                (subst (λ (p : Plan). IsStill p preempted omitted lights c.args.seen.now c.of-o.result c.part.result c.args.now t) c.plan.ensures.plan
                (c.due.ensures preempted omitted lights t after (omega (arith, soon)))))
            | inr other ↦ c.loop-number.invariant.still q from to (sym (c.with-rest.ensures.others q other.1) ∙ out) is preempted omitted lights t after (omega (arith, soon))
          ];
    }

pub returns-clause-quiet : goal.returns-clause-quiet
returns-clause-quiet c = λ t lights after soon stands.
    let now : ℕ = c.args.now in
    let plan : Plan = checked_plan c.args.plan.now in
    let row : List ℕ = cells_of c.args.self.now in
    let seen : Surroundings = c.args.seen.now in
    let still : (o : ℕ) → 1 ≤ o → o ≤ OVERLAPS → is_timed plan o ≡ true → IsStill plan seen.is_preempted (omitted_in row) lights seen o (part_in row o) now t = λ o from to is.
    elim (cases_eq now t) [
      | inl same ↦ subst (λ (n : ℕ). IsStill plan seen.is_preempted (omitted_in row) lights seen o (part_in row o) now n) same
          (still-now plan seen.is_preempted (omitted_in row) lights seen o (part_in row o) now)
      | inr other ↦ c.loop-number.invariant.still o from to (c.in_default.ensures.none refl o) is seen.is_preempted (omitted_in row) lights t after
          (omega (arith, after, other, soon, c.max.ensures))
    ] in
    quiet-tick now t seen plan row lights c.requires.begun after c.requires.by still stands
