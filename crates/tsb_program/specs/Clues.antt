-- What a second line says of a text that is refused: where it stops being JSON, or what it looks like.
use Rattle.std.specs.Prelude.{ℕ, ◌==◌, ◌&&◌, ◌||◌, nat_le, Bool, false, if◌then◌else◌, List, [], ◌∷◌, ◌++◌, Option, Some, None, codes}
use Rattle.tsb_log_text.specs.declared.error.LogError.{LogError}
use Rattle.tsb_log_text.specs.declared.error.LogError.TheVariants as logs
use Rattle.tsb_plan_notes.specs.Places.{json_place, place_text}
use Rattle.tsb_plan_notes.specs.declared.place.JsonPlace.{JsonPlace}
use Rattle.tsb_plan_text.specs.declared.error.PlanError.{PlanError}
use Rattle.tsb_plan_text.specs.declared.error.PlanError.TheVariants as plans
use Rattle.tsb_program.specs.declared.clue.LogClue.{LogClue}
use Rattle.tsb_program.specs.declared.clue.LogClue.TheVariants as log_clues
use Rattle.tsb_program.specs.declared.clue.PlanClue.{PlanClue}
use Rattle.tsb_program.specs.declared.clue.PlanClue.TheVariants as plan_clues

-- ## What texts look like

-- it begins with the byte order mark of UTF-8
abbrev pub has_mark : List ℕ → Bool
has_mark (a ∷ b ∷ c ∷ rest) = a == 239 && (b == 187 && c == 191)
has_mark text = false

-- it begins as the text of a plan: with a brace
abbrev pub begins_as_plan : List ℕ → Bool
begins_as_plan [] = false
begins_as_plan (byte ∷ rest) = byte == 123

-- a tick of seven digits begins with this byte, where a space ends it
abbrev pub is_tick_of : ℕ → List ℕ → Bool
is_tick_of byte (b ∷ c ∷ d ∷ e ∷ f ∷ g ∷ mark ∷ rest) = nat_le 48 byte && (nat_le byte 57 && mark == 32)
is_tick_of byte rest = false

-- it begins as an input log: with a comment, or with a digit of a tick, which a space ends
abbrev pub begins_as_log : List ℕ → Bool
begins_as_log [] = false
begins_as_log (byte ∷ rest) = byte == 35 || is_tick_of byte rest

-- ## Plans

-- the place at which a text stops being JSON, where there is one
abbrev pub place_clue : Option JsonPlace → Option PlanClue
place_clue None = None
place_clue (Some place) = Some (plan_clues.Place place)

-- of a text that is no JSON
abbrev pub text_clue : List ℕ → Option PlanClue
text_clue text =
    if has_mark text then Some plan_clues.Marked
    else (if begins_as_log text then Some plan_clues.InputLog else place_clue (json_place text))

-- of one that is too large
abbrev pub large_clue : List ℕ → Option PlanClue
large_clue text = if begins_as_log text then Some plan_clues.InputLog else None

-- of the text of a plan with this fault
abbrev pub plan_clue : PlanError → List ℕ → Option PlanClue
plan_clue plans.NotJson text = text_clue text
plan_clue plans.TooLarge text = large_clue text
plan_clue fault text = None

-- what is said of it, with the end of its line
abbrev pub plan_clue_line : Option PlanClue → List ℕ
plan_clue_line None = []
plan_clue_line (Some (plan_clues.Place place)) = codes "plan " ++ (place_text place ++ 10 ∷ [])
plan_clue_line (Some plan_clues.Marked) = codes "plan line 1, column 1: a byte order mark: save the text without it\n"
plan_clue_line (Some plan_clues.InputLog) = codes "plan line 1, column 1: it looks like an input log\n"

-- ## Input logs

-- of a text that is no input log
abbrev pub clue_of_log : List ℕ → Option LogClue
clue_of_log text =
    if has_mark text then Some log_clues.Marked else (if begins_as_plan text then Some log_clues.Plan else None)

-- of the text of an input log with this fault
abbrev pub log_clue : LogError → List ℕ → Option LogClue
log_clue logs.TooLarge text = clue_of_log text
log_clue (logs.Malformed line) text = clue_of_log text
log_clue fault text = None

-- what is said of it, without the end of the line
abbrev pub log_clue_text : LogClue → List ℕ
log_clue_text log_clues.Marked = codes "log line 1: a byte order mark: save the text without it"
log_clue_text log_clues.Plan = codes "log line 1: it looks like a plan"

-- a second line, where there is one
abbrev pub log_clue_line : Option LogClue → List ℕ
log_clue_line None = []
log_clue_line (Some clue) = 10 ∷ log_clue_text clue
