use Rattle.std.proofs.Common.{◌≡◌, ℕ, ◌≤◌, true, refl, sym, ◌∙◌, ap₂, subst, inl, inr}
use Rattle.std.proofs.lemmas.Bool.{and_from, and_parts, both_ways, false≢true, or_cases, or_left, or_right}
use Rattle.std.proofs.lemmas.Bool.Decides.{eqb_tells}
use Rattle.tsb_objects.specs.tsb_types.Sets.{has, has_number}
use Rattle.tsb_objects.specs.tsb_plan.declared.object.Object.TheVariants.{OverlapModifierPhases}
use Rattle.tsb_objects.specs.tsb_plan.Parts.{is_arrow, is_modifier}
use Rattle.tsb_objects.specs.tsb_plan.Plan.{Plan}
use Rattle.tsb_objects.specs.tsb_plan.PlanOf.{plan_of}
use Rattle.tsb_objects.specs.Checked.{checked_plan}
use Rattle.tsb_heads.specs.Monitoring.{is_green}
use Rattle.tsb_heads.specs.Reading.{heads_of}
use Rattle.tsb_heads.proofs.ArrowLemmas.{listed-names, turns-told}
use Rattle.tsb_heads.proofs.monitor.turns_of.Goals as goal

pub loop-number-init : goal.loop-number-init
unfolding checked_plan plan_of
loop-number-init c =
    let plan = checked_plan c.args.plan.now in
    let heads = heads_of c.args.heads.now in
    record {
      left = λ o in_rest.
          let parts = and_parts _ _ (sym (c.intersection-rest.ensures o) ∙ in_rest) in
          and_from (is_arrow plan o) (is_green (heads.overlap o)) (sym (c.arrows.ensures o) ∙ parts.0) (sym (c.overlap_greens.ensures o) ∙ parts.1);
      found = λ p in_turns. absurd (false≢true (sym (c.empty-turns.ensures p) ∙ in_turns));
      turned = λ o p arrow out.
          absurd (both_ways (has_number c.intersection-rest.result o) out
          (c.intersection-rest.ensures o
          ∙ and_from _ _ (c.arrows.ensures o ∙ arrow.arrow) (c.overlap_greens.ensures o ∙ arrow.green)));
    }

pub loop-number-preserved : goal.loop-number-preserved
unfolding checked_plan plan_of
loop-number-preserved c =
    let held = c.loop-number.invariant in
    let plan = checked_plan c.args.plan.now in
    let heads = heads_of c.args.heads.now in
    let n : ℕ = c.in-Some.number in
    let seen = c.in-Some.ensures in
    let taken = c.with-rest.ensures in
    let turn : (p : ℕ) → has c.modifier_phases.result p ≡ is_modifier plan n p =
    λ p. c.modifier_phases.ensures p ∙ ap₂ (λ (x : Plan) (o : ℕ). is_modifier x o p) c.plan.ensures.plan c.of.ensures in
    let fits : plan.value OverlapModifierPhases n ≤ 65535 = c.args.plan.now.plan.ranged.each OverlapModifierPhases n in
    let parts = and_parts (is_arrow plan n) (is_green (heads.overlap n)) (held.left n seen.had) in
    record {
      left = λ o in_rest.
          elim (eqb_tells o n) [
            | inl same ↦ absurd (both_ways (has_number c.with-rest.result n) taken.set (subst (λ (k : ℕ). has_number c.with-rest.result k ≡ true) same.1 in_rest))
            | inr other ↦ held.left o (sym (taken.others o other.1) ∙ in_rest)
          ];
      found = λ p in_turns.
          elim (or_cases (has c.loop-number.turns p) (has c.modifier_phases.result p) (sym (c.union-turns.ensures p) ∙ in_turns)) [
            | inl old ↦ held.found p old
            | inr new ↦ (
              n,
              record {
                listed = listed-names (plan.value OverlapModifierPhases n) p fits (sym (turn p) ∙ new);
                from = seen.from_one;
                within = seen.within;
                arrow = parts.0;
                turn = sym (turn p) ∙ new;
                green = parts.1;
              },
            )
          ];
      turned = λ o p arrow out.
          c.union-turns.ensures p
          ∙ elim (eqb_tells o n) [
            | inl same ↦ or_right (has c.loop-number.turns p) (has c.modifier_phases.result p)
                (turn p ∙ subst (λ (k : ℕ). is_modifier plan k p ≡ true) same.1 arrow.turn)
            | inr other ↦ or_left (has c.loop-number.turns p) (has c.modifier_phases.result p) (held.turned o p arrow (sym (taken.others o other.1) ∙ out))
          ];
    }

pub returns : goal.returns
returns c =
    let held = c.loop-number.invariant in
    turns-told (checked_plan c.args.plan.now) (heads_of c.args.heads.now) (has c.loop-number.turns) held.found
    (λ o p arrow. held.turned o p arrow (c.in_default.ensures.none refl o))
