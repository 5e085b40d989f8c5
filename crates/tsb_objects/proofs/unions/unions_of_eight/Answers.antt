use Rattle.std.proofs.Common.{suc, ◌≡◌, ◌≢◌, ℕ, ◌+◌, ◌-◌, ◌^◌, ◌<◌, ◌≤◌, ◌&&◌, Bool, List, get_or, slice_set, bit_or, arith, refl, subst, ◌∙◌, ap}
use Rattle.std.proofs.lemmas.List.{get_or-replicate, get_or-set_same, get_or-set_other, length-set}
use Rattle.std.proofs.Math.Pow.{pow_mono}
use Rattle.tsb_types.specs.Lists.{some_passes, run_from}
use Rattle.tsb_types.specs.Sets.{names}
use Rattle.tsb_types.proofs.SetLemmas.{names-above, names-zero}
use Rattle.tsb_objects.proofs.UnionLemmas.{names-more, names-before, union-more, union-none, told-next}
use Rattle.tsb_objects.proofs.unions.unions_of_eight.Goals as goal

pub loop-place-init : goal.loop-place-init
loop-place-init g c = record {
  full = refl;
  made = refl;
  told = λ j p below.
      let none : j ≡ 0 = omega (arith, below) in
      union-none j _ (λ n q. names (get_or c.args.sets.now (c.args.before + (n - 1)) 0) q) (λ n. rw none (names-zero n)) (get_or-replicate 256 j 0 0 (omega (arith, below))) p;
}

pub loop-k-preserved : goal.loop-k-preserved
loop-k-preserved g c =
    let held = c.loop-k.invariant in
    let d : ℕ = c.loop-place.place in
    let k : ℕ = c.loop-k.k in
    let made : ℕ = c.loop-place.made in
    let few : k < made = omega (arith, c.loop-k-test.true) in
    let fits : k < 2 ^ d = subst (λ (m : ℕ). k < m) held.made few in
    let most : 2 ^ d ≤ 2 ^ 7 = pow_mono {j = 7} (omega (arith, held.place)) in
    let small : made + k < 256 = omega (arith, held.made, few, most) in
    let words : List ℕ = c.loop-k.unions in
    let set : ℕ = get_or c.args.sets.now (c.args.before + d) 0 in
    let word : ℕ = bit_or (get_or words k 0) set in
    let after : List ℕ = slice_set words (made + k) word in
    let set_of : ℕ → ℕ = λ n. get_or c.args.sets.now (c.args.before + (n - 1)) 0 in
    let union : ℕ → ℕ → Bool = λ j p. some_passes (λ n. names j n && names (set_of n) p) (run_from 1 8) in
    let list_is : made + k ≡ 2 ^ d + k = ap (λ (m : ℕ). m + k) held.made in
    let number : d ≡ suc d - 1 = omega arith in
    let set_is : set ≡ set_of (suc d) = ap (λ (m : ℕ). get_or c.args.sets.now (c.args.before + m) 0) number in
    let here : get_or after (made + k) 0 ≡ word = get_or-set_same words (made + k) word 0 (omega (arith, held.full, small)) in
    let there : (j : ℕ) → j ≢ made + k → get_or after j 0 ≡ get_or words j 0 = λ j apart. get_or-set_other words (made + k) j word 0 apart in
    record {
      full = length-set words (made + k) word ∙ held.full;
      made = held.made;
      place = held.place;
      set = held.set;
      told = λ j p below.
          told-next union words after (made + k) held.told
          (λ q. ap (λ (x : ℕ). names x q) here
          ∙ union-more (made + k) k (suc d) (get_or words k 0) set (λ n. names (set_of n) q) (omega arith) (omega (arith, held.place))
          (rw list_is (names-more d k fits)) (names-above d (suc d) k fits (omega arith))
          (λ n apart. rw list_is (names-before d k n fits apart)) q (ap (λ (x : ℕ). names x q) set_is)
          (held.told k q (omega (arith, few))))
          there j p (omega (arith, below));
    }
