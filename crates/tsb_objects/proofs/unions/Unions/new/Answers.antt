use Rattle.std.proofs.Common.{◌≡◌, ℕ, ◌+◌, ◌-◌, ◌&&◌, Bool, List, slice_index, arith, ◌∙◌, ap}
use Rattle.tsb_types.specs.Sets.{names}
use Rattle.tsb_objects.proofs.PassLemmas.{pass-same}
use Rattle.tsb_objects.proofs.unions.Unions.new.Goals as goal

pub returns : goal.returns
returns c = λ test same.
    let sets : List ℕ = c.args.sets.now in
    record {
      low = λ k p small from within.
          c.unions_of_eight.ensures.told k p small
          ∙ pass-same (λ n. names k n && names (slice_index sets (0 + (n - 1))) p) (λ n. names k n && test n p) 1 8 (λ n first below.
          let place : 0 + (n - 1) ≡ n - 1 = omega arith in
          ap (λ (b : Bool). names k n && b)
          (ap (λ (m : ℕ). names (slice_index sets m) p) place ∙ same n p first (omega (arith, below)) from within));
      high = λ k p small from within.
          c.unions_of_eight-2.ensures.told k p small
          ∙ pass-same (λ n. names k n && names (slice_index sets (8 + (n - 1))) p) (λ n. names k n && test (8 + n) p) 1 8 (λ n first below.
          let place : 8 + (n - 1) ≡ 8 + n - 1 = omega (arith, first) in
          ap (λ (b : Bool). names k n && b)
          (ap (λ (m : ℕ). names (slice_index sets m) p) place ∙ same (8 + n) p (omega (arith, first)) (omega (arith, below)) from within));
    }
