use Rattle.std.proofs.Common.{◌≡◌, ℕ, ◌-◌, ◌<◌, ◌≤◌, List, [], ◌∷◌, length, refl, arith, zero, suc, get_or, subst, ap, inl, inr}
use Rattle.std.proofs.lemmas.Bool.{le-leb}
use Rattle.std.proofs.lemmas.Bool.Decides.{leb_tells}
use Rattle.tsb_types.specs.Sets.{all_off}
use Rattle.tsb_types.specs.declared.row.Row.{Row}
use Rattle.tsb_log_text.specs.Logs.{Rises, row_from, row_at}
use Rattle.tsb_log_text.specs.Places.{IsPlace, tick_at, no_row}
use Rattle.tsb_log_text.specs.declared.log.LogRow.{LogRow}

-- the row before a place, where this one is before all
abbrev pub row_before : Row → List LogRow → ℕ → Row
row_before before rows zero = before
row_before before rows (suc k) = (get_or rows k no_row).row

-- no later row has an earlier tick than the first
first-least : (last : ℕ) (r : LogRow) (rs : List LogRow) (k : ℕ) → Rises last (r ∷ rs) → k ≤ length rs → r.tick ≤ tick_at (r ∷ rs) k
first-least last r rs zero h le = omega arith
first-least last r [] (suc k) h le = absurd (omega (arith, le))
first-least last r (s ∷ ss) (suc k) h le =
    let next : s.tick ≤ tick_at (s ∷ ss) k = first-least r.tick s ss k h.1 (omega (arith, le)) in
    let above : r.tick < s.tick = h.1.0 in
    omega (arith, next, above)

row-before : (before : Row) (last : ℕ) (rows : List LogRow) (tick place : ℕ) → Rises last rows → place ≤ length rows
    → ((k : ℕ) → place ≡ suc k → tick_at rows k ≤ tick) → (place < length rows → tick < tick_at rows place) → row_before before rows place ≡ row_from before rows tick
row-before before last [] tick zero h within below above = refl
row-before before last [] tick (suc k) h within below above = absurd (omega (arith, within))
row-before before last (r ∷ rs) tick zero h within below above = elim (leb_tells r.tick tick) [
  | inl low ↦ absurd (let high : tick < r.tick = above (omega arith) in let le : r.tick ≤ tick = low.1 in omega (arith, high, le))
  | inr high ↦ rw high.0 refl
]
row-before before last (r ∷ rs) tick (suc zero) h within below above =
    let low : r.tick ≤ tick = below 0 refl in
    rw (le-leb r.tick tick low) (row-before r.row r.tick rs tick zero h.1 (omega arith) (λ k e. absurd (omega (arith, e))) (λ lt. above (omega (arith, lt))))
row-before before last (r ∷ rs) tick (suc (suc k)) h within below above =
    let least : r.tick ≤ tick_at (r ∷ rs) (suc k) = first-least last r rs (suc k) h (omega (arith, within)) in
    let reached : tick_at (r ∷ rs) (suc k) ≤ tick = below (suc k) refl in
    rw (le-leb r.tick tick (omega (arith, least, reached)))
    (row-before r.row r.tick rs tick (suc k) h.1 (omega (arith, within)) (λ j e. below (suc j) (ap suc e)) (λ lt. above (omega (arith, lt))))

-- a place tells the row in force
pub row-at : (rows : List LogRow) (tick place : ℕ) → Rises 0 rows → IsPlace rows tick place → row_before all_off rows place ≡ row_at rows tick
row-at rows tick place h p =
    row-before all_off 0 rows tick place h p.within
    (λ k e. let P : ℕ → Type 0 = λ j. tick_at rows j ≤ tick in let same : place - 1 ≡ k = omega (arith, e) in subst P same (p.below (omega (arith, e)))) p.above

-- the same, at a place that is not the first
pub row-behind : (rows : List LogRow) (tick place : ℕ) → Rises 0 rows → IsPlace rows tick place → (place ≡ 0 → ⊥) → (get_or rows (place - 1) no_row).row ≡ row_at rows tick
row-behind rows tick zero h p n = absurd (n refl)
row-behind rows tick (suc k) h p n = let P : ℕ → Type 0 = λ j. (get_or rows j no_row).row ≡ row_at rows tick in let same : k ≡ suc k - 1 = omega arith in subst P same (row-at rows tick (suc k) h p)
