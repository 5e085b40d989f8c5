-- The parts of a time.
use Rattle.std.proofs.Common.{◌≡◌, ℕ, ◌-◌, ◌≤◌, true, List, length, take, drop, refl, arith, length-drop, take_all}
use Rattle.std.proofs.lemmas.Bool.{le-leb}
use Rattle.tsb_lines.specs.Words.{number_of}
use Rattle.tsb_event_text.specs.Times.{part, has_marks, day_of, second_of, nano_of, moment_at, moment_of}

-- a time with its marks is read part by part
pub parts : (text : List ℕ) → 19 ≤ length text → has_marks text ≡ true
    → moment_of text ≡ moment_at (day_of (number_of (part 0 4 text)) (number_of (part 5 2 text)) (number_of (part 8 2 text)))
    (second_of (number_of (part 11 2 text)) (number_of (part 14 2 text)) (number_of (part 17 2 text))) (nano_of (drop 19 text))
unfolding moment_of
parts text le marks = rw (le-leb 19 (length text) le, marks) refl

-- the rest of a time, as a slice
pub rest : (text : List ℕ) → take (length text - 19) (drop 19 text) ≡ drop 19 text
rest text = take_all (length text - 19) (drop 19 text) (let l : length (drop 19 text) ≡ length text - 19 = length-drop 19 text in omega (arith, l))
