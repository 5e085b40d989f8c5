use Rattle.std.proofs.Common.{◌≡◌, ℕ, ◌+◌, ◌-◌, ◌*◌, ◌&&◌, Bool, List, [], get_or, set, slice_index, arith, sym, subst, ◌∙◌, ap, inl, inr}
use Rattle.std.proofs.lemmas.Bool.{cases_eq}
use Rattle.std.proofs.lemmas.List.{get_or-set_same, get_or-set_other, length-set}
use Rattle.tsb_types.specs.Lists.{some_passes, run_from}
use Rattle.tsb_types.specs.Sets.{names}
use Rattle.tsb_objects.proofs.PassLemmas.{pass-same}
use Rattle.tsb_objects.proofs.unions.WideUnions.new.Goals as goal

pub loop-k-preserved : goal.loop-k-preserved
loop-k-preserved c =
    let held = c.loop-k.invariant in
    let k : ℕ = c.loop-k.k in
    let eights : List (List ℕ) = c.loop-k.eights in
    let words : List ℕ = c.unions_of_eight.result in
    let sets : List ℕ = c.args.sets.now in
    record {
      full = length-set eights k words ∙ held.full;
      told = λ j i p below small.
          elim (cases_eq j k) [
            | inl same ↦
                subst (λ (m : ℕ). names (get_or (get_or (set eights k words) m []) i 0) p ≡ some_passes (λ n. names i n && names (get_or sets (8 * m + (n - 1)) 0) p) (run_from 1 8)) (sym same)
                (ap (λ (ws : List ℕ). names (get_or ws i 0) p) (get_or-set_same eights k words [] (omega (arith, held.full)))
                ∙ c.unions_of_eight.ensures.told i p small)
            | inr apart ↦
                ap (λ (ws : List ℕ). names (get_or ws i 0) p) (get_or-set_other eights k j words [] apart)
                ∙ held.told j i p (omega (arith, below, apart)) small
          ];
    }

pub returns : goal.returns
returns c = λ test same.
    let sets : List ℕ = c.args.sets.now in
    record {
      each = λ k in_range j p small from within.
          c.loop-k.invariant.told k j p (omega (arith, in_range)) small
          ∙ pass-same (λ n. names j n && names (slice_index sets (8 * k + (n - 1))) p) (λ n. names j n && test (8 * k + n) p) 1 8 (λ n first below.
          let place : 8 * k + (n - 1) ≡ 8 * k + n - 1 = omega (arith, first) in
          ap (λ (b : Bool). names j n && b)
          (ap (λ (m : ℕ). names (slice_index sets m) p) place
          ∙ same (8 * k + n) p (omega (arith, first)) (omega (arith, below, in_range)) from within));
    }
