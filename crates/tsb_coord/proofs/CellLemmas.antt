-- The cells of coordination, and the pattern, the correction and the clock that they say.
use Rattle.std.proofs.Common.{zero, suc, ◌≡◌, ℕ, ◌+◌, ◌*◌, ◌/◌, ◌%◌, ◌<◌, ◌≤◌, List, [], ◌∷◌, length, slice_index, ◌==◌, Option, Some, None, refl, ap, ◌∙◌, arith}
use Rattle.std.proofs.lemmas.Bool.{cond-false, ne_eqb}
use Rattle.tsb_objects.specs.tsb_plan.Parts.{unless_zero}
use Rattle.std.proofs.Math.Nat.{div-add-mod', mod-lt}
use Rattle.std.proofs.lemmas.Nat.{div-mul-add, mod-mul-add, div_below}
use Rattle.tsb_objects.specs.tsb_types.declared.clock_time.TheConstants.{DAY, LAST_DAY}
use Rattle.tsb_objects.specs.tsb_types.Lists.{or_number}
use Rattle.tsb_coord.specs.Cells.{pattern_in, correction_in, start_in, pattern_cells, IsBy}
use Rattle.tsb_coord.specs.Correction.{Correction}
use Rattle.tsb_coord.specs.Laws.{IsSelectable, IsCorrectable, IsStart, AreRead}

some_read : (n : ℕ) → 1 ≤ n → unless_zero n ≡ Some n
some_read n from = cond-false (n == 0) None (Some n) (ne_eqb n 0 (above_zero n from))
  where
    above_zero : (n : ℕ) → 1 ≤ n → n ≡ 0 → ⊥
    above_zero n from none = omega (arith, from, none)

-- a number is that of its day and of its time of day
number_of_start : (start : Option ℕ) → (k : ℕ) → start ≡ unless_zero k → or_number start 0 ≡ k
number_of_start start zero e = ap (λ o. or_number o 0) e
number_of_start start (suc k) e = ap (λ o. or_number o 0) (e ∙ some_read (suc k) (omega arith))

pub row_told : (row : List ℕ) → IsBy row → pattern_cells (pattern_in row) (correction_in row) (start_in row) ≡ row
row_told row by = go row by.full by.time
  where
    last : (day time : ℕ) → time < DAY → or_number (unless_zero (day * DAY + time)) 0 / DAY ∷ or_number (unless_zero (day * DAY + time)) 0 % DAY ∷ [] ≡ day ∷ time ∷ []
    last day time below =
        let number : or_number (unless_zero (day * DAY + time)) 0 ≡ day * DAY + time = number_of_start (unless_zero (day * DAY + time)) (day * DAY + time) refl in
        ap (λ k. k / DAY ∷ k % DAY ∷ []) number
        ∙ ap (λ d. d ∷ (day * DAY + time) % DAY ∷ []) (div-mul-add day DAY time below)
        ∙ ap (λ r. day ∷ r ∷ []) (mod-mul-add day DAY time below)

    go : (row : List ℕ) → length row ≡ 6 → slice_index row 5 < DAY → pattern_cells (pattern_in row) (correction_in row) (start_in row) ≡ row
    go [] full below = absurd (omega arith)
    go (n ∷ []) full below = absurd (omega arith)
    go (n ∷ (since ∷ [])) full below = absurd (omega arith)
    go (n ∷ (since ∷ (ahead ∷ []))) full below = absurd (omega arith)
    go (n ∷ (since ∷ (ahead ∷ (midnight ∷ [])))) full below = absurd (omega arith)
    go (n ∷ (since ∷ (ahead ∷ (midnight ∷ (day ∷ []))))) full below = absurd (omega arith)
    go (zero ∷ (since ∷ (ahead ∷ (midnight ∷ (day ∷ (time ∷ [])))))) full below = ap (λ row. 0 ∷ since ∷ ahead ∷ midnight ∷ row) (last day time below)
    go (suc n ∷ (since ∷ (ahead ∷ (midnight ∷ (day ∷ (time ∷ [])))))) full below =
        rw (some_read (suc n) (omega arith)) (ap (λ row. suc n ∷ since ∷ ahead ∷ midnight ∷ row) (last day time below))
    go (n ∷ (since ∷ (ahead ∷ (midnight ∷ (day ∷ (time ∷ (m ∷ row))))))) full below = absurd (omega arith)

start_read : (start : Option ℕ) → IsStart start → unless_zero (or_number start 0 / DAY * DAY + or_number start 0 % DAY) ≡ start
start_read None is = refl
start_read (Some m) is = ap unless_zero (div-add-mod' m DAY) ∙ some_read m is.0

pub pattern_read : (selected : Option ℕ) (c : Correction) (start : Option ℕ) → IsSelectable selected → IsStart start → AreRead selected c start
pattern_read None c start is begun = record { pattern = refl; correction = refl; start = start_read start begun }
pattern_read (Some n) c start is begun = record { pattern = some_read n (is.from_one n refl); correction = refl; start = start_read start begun }

day_of : (start : Option ℕ) → IsStart start → or_number start 0 / DAY ≤ LAST_DAY
day_of None is = omega arith
day_of (Some m) is = let below : m / DAY < LAST_DAY + 1 = div_below m DAY (LAST_DAY + 1) (omega arith) is.1 in omega (arith, below)

time_of : (start : Option ℕ) → or_number start 0 % DAY < DAY
time_of start = mod-lt (or_number start 0) (omega arith)

pub pattern_by : (selected : Option ℕ) (c : Correction) (start : Option ℕ) → IsSelectable selected → IsCorrectable c → IsStart start → IsBy (pattern_cells selected c start)
pattern_by None c start is can begun = record {
  full = refl;
  pattern = omega arith;
  since = can.since;
  ahead = can.ahead;
  midnight = can.midnight;
  day = day_of start begun;
  time = time_of start;
}
pattern_by (Some n) c start is can begun = record {
  full = refl;
  pattern = is.within n refl;
  since = can.since;
  ahead = can.ahead;
  midnight = can.midnight;
  day = day_of start begun;
  time = time_of start;
}
