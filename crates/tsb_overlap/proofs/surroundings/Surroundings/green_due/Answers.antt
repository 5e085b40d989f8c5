use Rattle.std.proofs.Common.{◌≡◌, ◌∙◌, ℕ, true, sym, subst, refl, arith, inl, inr}
use Rattle.std.proofs.lemmas.Bool.{and_from}
use Rattle.std.proofs.lemmas.Bool.Decides.{eqb_tells}
use Rattle.tsb_cells.specs.Timer.{timer_at, has_reached}
use Rattle.tsb_objects.specs.tsb_types.Sets.{has}
use Rattle.tsb_overlap.proofs.ListLemmas.{not-both}
use Rattle.tsb_overlap.proofs.SeenLemmas.{greens}
use Rattle.tsb_overlap.proofs.surroundings.Surroundings.green_due.Goals as goal

pub loop-phase-init : goal.loop-phase-init
loop-phase-init c = record {
  told = λ t p after soon out in_set green.
      let on : has c.intersection-rest.result p ≡ true = c.intersection-rest.ensures p ∙ and_from _ _ in_set (sym (greens _ _ _) ∙ green) in
      absurd (not-both (has c.intersection-rest.result p) on out);
}

pub loop-phase-preserved : goal.loop-phase-preserved
loop-phase-preserved c =
    let n : ℕ = c.in-Some.phase in
    record {
      told = λ t p after soon out in_set green.
          elim (eqb_tells p n) [
            | inl same ↦
                rw same.1 (subst (λ (cell : ℕ). has_reached (timer_at t cell) c.args.time ≡ has_reached (timer_at c.args.now cell) c.args.time) c.since_of.ensures
                (c.reached_at.ensures t after (omega (arith, soon))))
            | inr other ↦ c.loop-phase.invariant.told t p after (omega (arith, soon)) (sym (c.in-Some.ensures.others p other.1) ∙ out) in_set green
          ];
    }

pub returns : goal.returns
returns c = λ t p after soon from to in_set green. c.loop-phase.invariant.told t p after soon (c.in_default.ensures.none refl p) in_set green
