-- Mistakes in differences of rows and in cells of timers, each with an example in which it differs from the definition.
use Rattle.std.specs.Prelude.{◌≡◌, ℕ, ◌+◌, ◌-◌, ◌&&◌, nat_le, nat_lt, List, [], ◌∷◌, ◌++◌, filter, reverse, refl}
use Rattle.tsb_cells.specs.declared.timer.Timer.{Timer}
use Rattle.tsb_cells.specs.declared.timer.Timer.TheVariants.{Off, On}
use Rattle.tsb_cells.specs.Diff.{diff_from, diff, apply_diff, part}
use Rattle.tsb_cells.specs.Timer.{timer_cell, timer_at}

-- a row of three cells, whose first and last change, and one of one cell, which changes
abbrev pub before : List ℕ
before = 1 ∷ 2 ∷ 3 ∷ []

abbrev pub now : List ℕ
now = 5 ∷ 2 ∷ 6 ∷ []

abbrev pub second : List ℕ
second = 7 ∷ []

abbrev pub second_now : List ℕ
second_now = 8 ∷ []

differs : diff before now ≡ (0, 1) ∷ (2, 3) ∷ []
differs = refl

gives_back : apply_diff now (diff before now) ≡ before
gives_back = refl

-- ## An entry has what its cell holds now

abbrev pub diff_of_new : List ℕ → List ℕ → List (ℕ × ℕ)
diff_of_new before now = diff now before

would_have_5 : diff_of_new before now ≡ (0, 5) ∷ (2, 6) ∷ []
would_have_5 = refl

would_stay : apply_diff now (diff_of_new before now) ≡ now
would_stay = refl

-- ## The entries of later cells come first

abbrev pub diff_down : List ℕ → List ℕ → List (ℕ × ℕ)
diff_down before now = reverse (diff before now)

would_fall : diff_down before now ≡ (2, 3) ∷ (0, 1) ∷ []
would_fall = refl

-- ## Entries keep the numbers of their own row

abbrev pub own_numbers : ℕ → List (ℕ × ℕ) → List (ℕ × ℕ)
own_numbers offset es = es

is_at_3 : diff_from 3 second second_now ≡ (3, 7) ∷ []
is_at_3 = refl

would_be_at_0 : own_numbers 3 (diff_from 0 second second_now) ≡ (0, 7) ∷ []
would_be_at_0 = refl

are_joined : diff (before ++ second) (now ++ second_now) ≡ (0, 1) ∷ (2, 3) ∷ (3, 7) ∷ []
are_joined = refl

would_be_joined : diff before now ++ own_numbers 3 (diff second second_now) ≡ (0, 1) ∷ (2, 3) ∷ (0, 7) ∷ []
would_be_joined = refl

-- ## The part of a later row keeps the numbers of the whole

abbrev pub part_of_whole : ℕ → ℕ → List (ℕ × ℕ) → List (ℕ × ℕ)
part_of_whole offset n es = filter (λ e. nat_le offset e.0 && nat_lt e.0 (offset + n)) es

abbrev pub whole_diff : List (ℕ × ℕ)
whole_diff = diff (before ++ second) (now ++ second_now)

is_own : part 3 1 whole_diff ≡ diff second second_now
is_own = refl

would_be_of_whole : part_of_whole 3 1 whole_diff ≡ (3, 7) ∷ []
would_be_of_whole = refl

is_put : apply_diff (now ++ second_now) whole_diff ≡ before ++ second
is_put = refl

would_not_be_put : apply_diff now (part_of_whole 0 3 whole_diff) ++ apply_diff second_now (part_of_whole 3 1 whole_diff) ≡ before ++ second_now
would_not_be_put = refl

-- ## A cell is the tick at which its timer began, and not one more: a timer that began at tick 0 is read as off

abbrev pub cell_of_tick : ℕ → Timer → ℕ
cell_of_tick tick Off = 0
cell_of_tick tick (On n) = tick - n

is_on : timer_at 5 (timer_cell 5 (On 5)) ≡ On 5
is_on = refl

would_be_off : timer_at 5 (cell_of_tick 5 (On 5)) ≡ Off
would_be_off = refl
