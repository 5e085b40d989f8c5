-- THE PHASES THAT A TEXT LISTS, as "4,7" does, and the number that a plan has for them: the sum of 2^(phase-1). Each phase
-- comes once, as a number from 1 to 16 without leading zeros; commas, spaces and plus signs part them.
use Rattle.std.specs.Prelude.{ℕ, ◌+◌, ◌*◌, ◌-◌, ◌/◌, ◌%◌, ◌==◌, ◌&&◌, ◌||◌, nat_lt, min, Bool, false, if◌then◌else◌, List, Option, Some, None}
use Rattle.std.specs.List.{fold}
use Rattle.tsb_plan_notes.specs.declared.phase_list.PhasesRead.{PhasesRead}
use Rattle.tsb_plan_notes.specs.declared.phase_list.TheConstants.{NOTHING}
use Rattle.tsb_plan_notes.specs.Steps.{is_digit}

-- what a phase adds to a list: 2^(phase-1)
abbrev pub weight : ℕ → ℕ
weight phase =
    if phase == 1 then 1 else if phase == 2 then 2 else if phase == 3 then 4 else if phase == 4 then 8 else
    if phase == 5 then 16 else if phase == 6 then 32 else if phase == 7 then 64 else if phase == 8 then 128 else
    if phase == 9 then 256 else if phase == 10 then 512 else if phase == 11 then 1024 else if phase == 12 then 2048 else
    if phase == 13 then 4096 else if phase == 14 then 8192 else if phase == 15 then 16384 else 32768

-- the list has the phase
abbrev pub has_phase : ℕ → ℕ → Bool
has_phase sum phase = (sum / weight phase) % 2 == 1

-- the byte may part two phases: a comma, a space or a plus sign
abbrev pub is_between : ℕ → Bool
is_between byte = byte == 44 || (byte == 32 || byte == 43)

-- no list of phases
abbrev pub spoiled : PhasesRead → PhasesRead
spoiled s = record { sum = s.sum; count = s.count; number = s.number; is_good = false }

-- with the phase whose number was read
abbrev pub with_phase : PhasesRead → PhasesRead
with_phase s = record { sum = min (s.sum + weight s.number) 4294967295; count = min (s.count + 1) 4294967295; number = 0; is_good = s.is_good }

-- where a number ends: it is one of 1 to 16, and did not come before
abbrev pub closed : PhasesRead → PhasesRead
closed s = if s.number == 0 then s else if nat_lt 16 s.number || has_phase s.sum s.number then spoiled s else with_phase s

-- with a digit more
abbrev pub with_digit : PhasesRead → ℕ → PhasesRead
with_digit s digit =
    if s.number == 0 && digit == 0 then spoiled s
    else if nat_lt 16 s.number then s
    else record { sum = s.sum; count = s.count; number = s.number * 10 + digit; is_good = s.is_good }

-- with a byte more
abbrev pub after_byte : PhasesRead → ℕ → PhasesRead
after_byte s byte = if is_digit byte then with_digit s (byte - 48) else if is_between byte then closed s else spoiled s

-- what a text has listed at its end
abbrev pub listed_in : List ℕ → PhasesRead
listed_in text = fold after_byte NOTHING text

-- the sum of two phases or more, where it is good: one number alone may be a sum
abbrev pub sum_of : PhasesRead → Option ℕ
sum_of s = if s.is_good && nat_lt 1 s.count then Some s.sum else None

-- the list that a plan has of the phases in a text
unfoldable pub phases_of : List ℕ → Option ℕ
phases_of text = sum_of (closed (listed_in text))
