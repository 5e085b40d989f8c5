-- Each part of a difference has at most as many entries as cells.
use Rattle.std.proofs.Common.{ℕ, ◌+◌, ◌-◌, ◌<◌, ◌≤◌, ◌==◌, nat_le, nat_lt, max, ◌&&◌, List, [], ◌∷◌, length, inl, inr, arith}
use Rattle.std.proofs.lemmas.Bool.{cases_Bool, and_parts}
use Rattle.std.proofs.lemmas.Bool.Decides.{nat_tests}
use Rattle.tsb_cells.specs.Diff.{diff_from, diff, part}

few-from : (k n i : ℕ) (xs ys : List ℕ) → length (part k n (diff_from i xs ys)) ≤ k + n - max i k
few-from k n i [] ys = omega arith
few-from k n i (x ∷ xs) [] = omega arith
few-from k n i (x ∷ xs) (y ∷ ys) =
    let rest : length (part k n (diff_from (i + 1) xs ys)) ≤ k + n - max (i + 1) k = few-from k n (i + 1) xs ys in
    elim (cases_Bool (x == y)) [
      | inl same ↦ rw same (omega (arith, rest))
      | inr apart ↦ rw apart (elim (cases_Bool (nat_le k i && nat_lt i (k + n))) [
        | inl here ↦
            (let from : k ≤ i = grind (arith, nat_tests, (and_parts (nat_le k i) (nat_lt i (k + n)) here).0) in
            let below : i < k + n = grind (arith, nat_tests, (and_parts (nat_le k i) (nat_lt i (k + n)) here).1) in
            rw here (omega (arith, rest)))
        | inr out ↦ rw out (omega (arith, rest))
      ])
    ]

pub few : (k n : ℕ) (xs ys : List ℕ) → length (part k n (diff xs ys)) ≤ n
few k n xs ys = let most : length (part k n (diff_from 0 xs ys)) ≤ k + n - max 0 k = few-from k n 0 xs ys in omega (arith, most)
