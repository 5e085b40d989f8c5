use Rattle.std.proofs.Common.{◌≡◌, ℕ, ◌⊎◌, min, Some, sym, subst}
use Rattle.tsb_objects.specs.Checked.{checked_plan}
use Rattle.tsb_objects.specs.tsb_plan.Parts.{cycle}
use Rattle.tsb_coord.specs.Coordinated.{force_off, permissive_end, recycle_end}
use Rattle.tsb_coord.specs.Due.{IsMet, IsEnded}
use Rattle.tsb_coord.proofs.SpanLemmas.{next_of_both}
use Rattle.tsb_coord.proofs.waiting.ticks_to_next.Goals as goal

pub returns-clause-met : goal.returns-clause-met
returns-clause-met c =
    let m : ℕ = cycle (checked_plan c.args.plan.now) c.args.n in
    let Instants : ℕ → Type 0 = λ x. (p : ℕ) × IsMet m c.args.local (force_off (checked_plan c.args.plan.now) (Some c.args.n) p) x in
    let Permitted : ℕ → Type 0 = λ x. (p : ℕ) × IsEnded m c.args.local (permissive_end (checked_plan c.args.plan.now) (Some c.args.n) p) x in
    let Recycled : ℕ → Type 0 = λ x. (p : ℕ) × IsEnded m c.args.local (recycle_end (checked_plan c.args.plan.now) (Some c.args.n) p) x in
    let Ends : ℕ → Type 0 = λ x. Permitted x ⊎ Recycled x in
    let least : c.min.result ≡ min c.ticks_to_instant.result c.ticks_to_ends.result = c.min.ensures in
    subst (λ (x : ℕ). (x ≡ m) ⊎ (Instants x ⊎ Ends x)) (sym least)
    (next_of_both Instants Ends m c.ticks_to_instant.result c.ticks_to_ends.result c.ticks_to_instant.ensures.met c.ticks_to_ends.ensures.met)
