use Rattle.std.proofs.Common.{◌≡◌, ℕ, ◌+◌, ◌%◌, ◌≤◌, ◌⊎◌, min, Option, Some, inl, inr, sym, ap, subst, ◌∙◌, arith}
use Rattle.std.proofs.lemmas.Bool.{cases_lt}
use Rattle.tsb_objects.specs.Checked.{checked_plan}
use Rattle.tsb_coord.specs.Coordinated.{force_off, agree}
use Rattle.tsb_coord.specs.Due.{IsMet}
use Rattle.tsb_coord.proofs.SpanLemmas.{met_least}
use Rattle.tsb_coord.proofs.waiting.ticks_to_instant.Goals as goal

pub loop-number-preserved : goal.loop-number-preserved
loop-number-preserved c =
    let least : c.min-ticks.result ≡ min c.loop-number.ticks c.ticks_to.result = c.min-ticks.ensures in
    let one : 1 ≤ c.ticks_to.result = c.ticks_to.ensures.from_one in
    let most : c.loop-number.ticks ≤ c.cycle_of-cycle.result = c.loop-number.invariant.within in
    let so_far : 1 ≤ c.loop-number.ticks = c.loop-number.invariant.some in
    record {
      from_one = omega arith;
      some = omega arith;
      within = omega arith;
      quiet = λ p k from below before some. elim (cases_lt p c.loop-number.number) [
        | inl earlier ↦ c.loop-number.invariant.quiet p k from earlier (omega arith) (omega arith)
        | inr here ↦
            let same : p ≡ c.loop-number.number = omega arith in
            let at : force_off (checked_plan c.args.plan.now) (Some c.args.n) p ≡ c.force_off-at.result =
            ap (force_off (checked_plan c.args.plan.now) (Some c.args.n)) (same ∙ sym c.of.ensures) ∙ sym c.force_off-at.ensures.value in
            ap (λ (m : ℕ). agree (Some ((c.args.local + k) % m)) (force_off (checked_plan c.args.plan.now) (Some c.args.n) p)) (sym c.cycle_of-cycle.ensures.value)
            ∙ ap (λ (o : Option ℕ). agree (Some ((c.args.local + k) % c.cycle_of-cycle.result)) o) at
            ∙ c.ticks_to.ensures.quiet k (omega arith) (omega arith)
      ];
      met = subst (λ (x : ℕ). (x ≡ c.cycle_of-cycle.result) ⊎ ((p : ℕ) × IsMet c.cycle_of-cycle.result c.args.local (force_off (checked_plan c.args.plan.now) (Some c.args.n) p) x)) (sym least)
          (met_least (force_off (checked_plan c.args.plan.now) (Some c.args.n)) c.cycle_of-cycle.result c.args.local c.loop-number.ticks c.ticks_to.result c.of.result
          c.loop-number.invariant.met
          (subst (λ (o : Option ℕ). (c.ticks_to.result ≡ c.cycle_of-cycle.result) ⊎ IsMet c.cycle_of-cycle.result c.args.local o c.ticks_to.result) c.force_off-at.ensures.value c.ticks_to.ensures.met));
    }
