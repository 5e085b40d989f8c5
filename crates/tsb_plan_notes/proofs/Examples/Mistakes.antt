-- Mistakes in places and in lists of phases, each with a text that tells it from the definition.
use Rattle.std.specs.Prelude.{◌≡◌, ℕ, ◌+◌, ◌==◌, ◌&&◌, nat_lt, if◌then◌else◌, List, length, Option, Some, None, option_map, codes, refl}
use Rattle.std.specs.List.{fold}
use Rattle.tsb_plan_notes.specs.PhaseLists.{closed, listed_in, phases_of}
use Rattle.tsb_plan_notes.specs.Places.{column_behind, line_behind, start, stop}
use Rattle.tsb_plan_notes.specs.declared.phase_list.PhasesRead.{PhasesRead}

-- ## A carriage return begins a line as well: where both end a line, each line counts twice

abbrev pub line_by_returns : List ℕ → ℕ
line_by_returns bytes = fold (λ line byte. if byte == 10 then line + 1 else if byte == 13 then line + 1 else line) 1 bytes

is_second : line_behind (codes "{\r\n") ≡ 2
is_second = refl

would_be_third : line_by_returns (codes "{\r\n") ≡ 3
would_be_third = refl

-- ## Columns count from 0

abbrev pub column_from_0 : List ℕ → ℕ
column_from_0 bytes = fold (λ column byte. if byte == 10 then 0 else column + 1) 0 bytes

is_first : column_behind (codes "{\n") ≡ 1
is_first = refl

would_be_none : column_from_0 (codes "{\n") ≡ 0
would_be_none = refl

-- ## A text stops at its end wherever something is wrong: what follows moves the place

abbrev pub stop_at_end : List ℕ → Option ℕ
stop_at_end text = option_map (λ s. length text) (stop start 0 text)

stops_at_first : option_map (λ s. s.at) (stop start 0 (codes "]")) ≡ Some 0
stops_at_first = refl

stops_there_again : option_map (λ s. s.at) (stop start 0 (codes "] 1")) ≡ Some 0
stops_there_again = refl

would_be_first : stop_at_end (codes "]") ≡ Some 1
would_be_first = refl

would_move : stop_at_end (codes "] 1") ≡ Some 3
would_move = refl

-- ## One number is a list of one phase: a sum in quotes would get another sum

abbrev pub sum_of_one : PhasesRead → Option ℕ
sum_of_one s = if s.is_good && nat_lt 0 s.count then Some s.sum else None

is_no_list : phases_of (codes "4") ≡ None
unfolding phases_of
is_no_list = refl

would_be_8 : sum_of_one (closed (listed_in (codes "4"))) ≡ Some 8
would_be_8 = refl
