use Rattle.std.proofs.Common.{ℕ, ◌&&◌, not, Bool, sym, ◌∙◌, ap}
use Rattle.tsb_objects.specs.tsb_types.Sets.{has}
use Rattle.tsb_heads.proofs.ApartLemmas.{yellow-green, wait-clear, wait-walk}
use Rattle.tsb_heads.proofs.phase_heads.walkers_of.Goals as goal

pub returns-clause-apart : goal.returns-clause-apart
returns-clause-apart c =
    let on = c.args.on in
    let may = c.args.with_walk in
    let walks = c.args.pedestrians.now in
    let wait_is = λ (n : ℕ). c.difference-2.ensures n ∙ ap (λ (b : Bool). b && not (has walks.clearance n)) (c.difference.ensures n ∙ ap (λ (b : Bool). b && not (has walks.walk n)) (c.intersection.ensures n)) in
    let clear_is = λ (n : ℕ). c.difference-3.ensures n ∙ ap (λ (b : Bool). b && not (has walks.walk n)) (c.intersection-2.ensures n) in
    record {
      wait_clear = λ n is. clear_is n ∙ wait-clear (has on n) (has may n) (has walks.walk n) (has walks.clearance n) (sym (wait_is n) ∙ is);
      wait_walk = λ n is. c.intersection-3.ensures n ∙ wait-walk (has on n) (has may n) (has walks.walk n) (has walks.clearance n) (sym (wait_is n) ∙ is);
      clear_walk = λ n is. c.intersection-3.ensures n ∙ yellow-green (has on n) (has walks.walk n) (has walks.clearance n) (sym (clear_is n) ∙ is);
    }
