use Rattle.std.proofs.Common.{◌≡◌, ◌∙◌, ◌||◌, Bool, true, false, refl, sym}
use Rattle.tsb_bench.proofs.cabinet.Cabinet.ends_no_time.Goals as goal

left-none : (a b : Bool) → (a || b) ≡ false → a ≡ false
left-none true b none = none
left-none false b none = refl

right-none : (a b : Bool) → (a || b) ≡ false → b ≡ false
right-none true b none = absurd cc
right-none false b none = none

pub returns : goal.returns
returns c is =
    let kept = c.keeps_cycle.ensures c.if-not-keeps_cycle.false in
    record {
      minimum = λ p from to. sym (c.completed.ensures p from to) ∙ left-none _ _ (sym (c.union-ends.ensures p) ∙ c.is_empty.ensures.none is p);
      red = λ p from to. sym (c.cleared.ensures p from to) ∙ right-none _ _ (sym (c.union-ends.ensures p) ∙ c.is_empty.ensures.none is p);
      cycle = kept.cycle;
      zero = kept.zero;
      yields = kept.yields;
    }
