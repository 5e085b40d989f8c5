use Rattle.std.proofs.Common.{ℕ, ◌&&◌, not, Bool, sym, ◌∙◌, ap}
use Rattle.tsb_objects.specs.tsb_types.Sets.{has}
use Rattle.tsb_heads.proofs.ApartLemmas.{red-yellow, red-green, yellow-green}
use Rattle.tsb_heads.proofs.phase_heads.vehicles_of.Goals as goal

pub returns-clause-apart : goal.returns-clause-apart
returns-clause-apart c =
    let on = c.args.on in
    let given = c.args.intervals.now in
    let red_is = λ (n : ℕ). c.difference-2.ensures n ∙ ap (λ (b : Bool). b && not (has given.yellow n)) (c.difference.ensures n) in
    let yellow_is = λ (n : ℕ). c.difference-3.ensures n ∙ ap (λ (b : Bool). b && not (has given.green n)) (c.intersection.ensures n) in
    record {
      red_yellow = λ n is. yellow_is n ∙ red-yellow (has on n) (has given.green n) (has given.yellow n) (sym (red_is n) ∙ is);
      red_green = λ n is. c.intersection-2.ensures n ∙ red-green (has on n) (has given.green n) (has given.yellow n) (sym (red_is n) ∙ is);
      yellow_green = λ n is. c.intersection-2.ensures n ∙ yellow-green (has on n) (has given.green n) (has given.yellow n) (sym (yellow_is n) ∙ is);
    }
