use Rattle.std.proofs.Common.{◌≡◌, ◌∙◌, ℕ, ◌+◌, ◌*◌, ◌==◌, if◌then◌else◌, get_or, drop, ap, sym, arith, eq-eqb}
use Rattle.std.proofs.lemmas.Bool.{ne_eqb}
use Rattle.tsb_field_display.specs.Reading.{list_with}
use Rattle.tsb_field_display.proofs.LetterLemmas.{list_with-drop, weigh, next-weight}
use Rattle.tsb_field_display.proofs.reading.heads_with.Goals as goal
use Rattle.tsb_field_display.proofs.reading.heads_with.Goals.{then-found-letter, else-found-letter}

pub loop-found-preserved : goal.loop-found-preserved
loop-found-preserved c =
    let held = c.loop-found.invariant in
    let k : ℕ = c.loop-found.found-index in
    let bs = c.args.letters.now in
    let w : ℕ = c.loop-found.weight in
    let later : ℕ = list_with c.args.letter (drop (k + 1) bs) in
    let step : list_with c.args.letter (drop k bs) ≡ (if get_or bs k 0 == c.args.letter then 1 else 0) + 2 * later = list_with-drop c.args.letter bs k c.loop-found-test.true in
    elim c.if-found-letter.branch [
      | then-found-letter b ↦ record {
        rest = (let one : c.if-found-letter.list ≡ c.loop-found.list + w * 1 = omega (arith, b.list-is) in
            ap (λ (n : ℕ). n + w * 2 * later) one
            ∙ weigh c.loop-found.list w 1 later _ (ap (λ (n : ℕ). c.loop-found.list + w * n) (sym (step ∙ ap (λ t. (if t then 1 else 0) + 2 * later) (eq-eqb _ _ b.if-found-letter.true))) ∙ held.rest));
        power = next-weight w k held.power;
        bound = grind (arith, held.bound, b.list-is);
        short = held.short;
      }
      | else-found-letter b ↦ record {
        rest = (let none : c.if-found-letter.list ≡ c.loop-found.list + w * 0 = omega (arith, b.list-is) in
            ap (λ (n : ℕ). n + w * 2 * later) none
            ∙ weigh c.loop-found.list w 0 later _ (ap (λ (n : ℕ). c.loop-found.list + w * n) (sym (step ∙ ap (λ t. (if t then 1 else 0) + 2 * later) (ne_eqb _ _ b.if-found-letter.false))) ∙ held.rest));
        power = next-weight w k held.power;
        bound = grind (arith, held.bound, b.list-is);
        short = held.short;
      }
    ]
