use Rattle.std.proofs.Common.{◌≡◌, ℕ, ◌+◌, ◌%◌, ◌≤◌, ◌⊎◌, min, Some, inl, inr, sym, ap, subst, ◌∙◌, arith}
use Rattle.std.proofs.lemmas.Bool.{cases_lt}
use Rattle.tsb_objects.specs.Checked.{checked_plan}
use Rattle.tsb_objects.specs.tsb_plan.Parts.{cycle}
use Rattle.tsb_objects.specs.tsb_plan.Plan.{Plan}
use Rattle.tsb_coord.specs.Coordinated.{permissive_end, recycle_end, agree}
use Rattle.tsb_coord.specs.Due.{IsEnded}
use Rattle.tsb_coord.proofs.SpanLemmas.{least_of}
use Rattle.tsb_coord.proofs.waiting.ticks_to_ends.Goals as goal

pub loop-number-preserved : goal.loop-number-preserved
loop-number-preserved c =
    let plan : Plan = checked_plan c.args.plan.now in
    let m : ℕ = cycle plan c.args.n in
    let here : ℕ = c.ticks_to_ends_of.result in
    let least : c.min-ticks.result ≡ min c.loop-number.ticks here = c.min-ticks.ensures in
    let one : 1 ≤ here = c.ticks_to_ends_of.ensures.from_one in
    let most : c.loop-number.ticks ≤ m = c.loop-number.invariant.within in
    let so_far : 1 ≤ c.loop-number.ticks = c.loop-number.invariant.some in
    let Permitted : ℕ → ℕ → Type 0 = λ p x. IsEnded m c.args.local (permissive_end plan (Some c.args.n) p) x in
    let Recycled : ℕ → ℕ → Type 0 = λ p x. IsEnded m c.args.local (recycle_end plan (Some c.args.n) p) x in
    let Ends : ℕ → Type 0 = λ x. ((p : ℕ) × Permitted p x) ⊎ ((p : ℕ) × Recycled p x) in
    let its : (here ≡ m) ⊎ Ends here = elim c.ticks_to_ends_of.ensures.met [
      | inl whole ↦ inl whole
      | inr ended ↦ inr (elim ended [ inl it ↦ inl (c.of.result, it) | inr it ↦ inr (c.of.result, it) ])
    ] in
    record {
      from_one = omega arith;
      some = omega arith;
      within = omega arith;
      permitted = λ p k from below some before. elim (cases_lt p c.loop-number.number) [
        | inl earlier ↦ c.loop-number.invariant.permitted p k from earlier some (omega arith)
        | inr last ↦
            let same : p ≡ c.of.result = (let at : p ≡ c.loop-number.number = omega arith in at ∙ sym c.of.ensures) in
            ap (λ q. agree (Some ((c.args.local + k) % m)) (permissive_end plan (Some c.args.n) q)) same ∙ c.ticks_to_ends_of.ensures.permitted k some (omega arith)
      ];
      recycled = λ p k from below some before. elim (cases_lt p c.loop-number.number) [
        | inl earlier ↦ c.loop-number.invariant.recycled p k from earlier some (omega arith)
        | inr last ↦
            let same : p ≡ c.of.result = (let at : p ≡ c.loop-number.number = omega arith in at ∙ sym c.of.ensures) in
            ap (λ q. agree (Some ((c.args.local + k) % m)) (recycle_end plan (Some c.args.n) q)) same ∙ c.ticks_to_ends_of.ensures.recycled k some (omega arith)
      ];
      met = subst (λ (x : ℕ). (x ≡ m) ⊎ Ends x) (sym least) (least_of Ends m c.loop-number.ticks here c.loop-number.invariant.met its);
    }
