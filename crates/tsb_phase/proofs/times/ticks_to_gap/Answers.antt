use Rattle.std.proofs.Common.{◌≡◌, ℕ, ◌+◌, ◌-◌, ◌*◌, ◌<◌, min, max, ap, ap₂, ◌∙◌, subst, arith, inl, inr}
use Rattle.std.proofs.lemmas.Bool.Decides.{leb_tells}
use Rattle.std.specs.Int.{div_ceil}
use Rattle.tsb_cells.specs.declared.timer.Timer.TheVariants.{On}
use Rattle.tsb_objects.specs.tsb_plan.Plan.{Plan, passage, minimum_gap, time_to_reduce}
use Rattle.tsb_objects.specs.tsb_plan.PlanOf.{plan_of}
use Rattle.tsb_phase.specs.Green.{gap}
use Rattle.tsb_phase.proofs.BoundLemmas.{under_least, under_slope}
use Rattle.tsb_phase.proofs.times.ticks_to_gap.Goals as goal

pub returns : goal.returns
returns c = λ d soon.
    let plan : Plan = plan_of c.args.plan.now in
    let p : ℕ = c.args.p in
    let e : ℕ = c.args.passed in
    let k : ℕ = c.args.reduced in
    let most = c.max.ensures in
    let time = c.time_to_reduce-to_reduce.ensures.value in
    elim (leb_tells c.div_ceil.result d) [
      | inl over ↦
          (let least : c.gap-least.result ≡ gap plan p (On (time_to_reduce plan p)) =
          c.gap-least.ensures ∙ ap (λ (n : ℕ). gap plan p (On n)) time in
          let level = c.saturating_sub-2.ensures in
          let reached = over.1 in
          under_least plan p e k d (omega (arith, soon, most, level, least, reached)))
      | inr below ↦
          (let width : c.saturating_sub-width.result ≡ passage plan p - minimum_gap plan p =
          c.saturating_sub-width.ensures ∙ ap₂ (λ (a b : ℕ). a - b) c.passage-passage.ensures.value c.minimum_gap-minimum.ensures.value in
          let left : c.saturating_sub-left.result ≡ time_to_reduce plan p * (passage plan p - e) - (passage plan p - minimum_gap plan p) * min k (time_to_reduce plan p) =
          c.saturating_sub-left.ensures
          ∙ ap₂ (λ (a b : ℕ). a - b)
          (ap₂ (λ (a b : ℕ). a * b) time (c.saturating_sub.ensures ∙ ap (λ (n : ℕ). n - e) c.passage-passage.ensures.value))
          (ap₂ (λ (a b : ℕ). a * b) width (c.min.ensures ∙ ap (λ (n : ℕ). min k n) time)) in
          let slope : c.max-slope.result ≡ max (passage plan p - minimum_gap plan p + time_to_reduce plan p) 1 =
          c.max-slope.ensures ∙ ap₂ (λ (a b : ℕ). max (a + b) 1) width time in
          under_slope plan p e k d (subst (λ (n : ℕ). d < n) (c.div_ceil.ensures ∙ ap₂ (λ (a b : ℕ). div_ceil a b) left slope) below.1))
    ]
