-- The line of a finding or of a breach, byte by byte, and the text of a review.
use Rattle.std.specs.Prelude.{ℕ, ◌+◌, ◌-◌, ◌/◌, ◌%◌, ◌==◌, if◌then◌else◌, List, [], ◌∷◌, ◌++◌, decimal, flat_map, codes, Option, Some, None}
use Rattle.tsb_plan.specs.declared.object.ObjectId.{ObjectId}
use Rattle.tsb_plan.specs.Names.{name_of}
use Rattle.tsb_plan.specs.Plan.{Plan}
use Rattle.tsb_plan.specs.Versions.{is_split}
use Rattle.tsb_review.specs.declared.finding.Finding.{Finding}
use Rattle.tsb_review.specs.declared.numbers.Numbers.{Numbers}
use Rattle.tsb_types.specs.Lists.{run_from}
use Rattle.tsb_review.specs.Advices.{findings}
use Rattle.tsb_review.specs.Alike.{is_also_in}
use Rattle.tsb_review.specs.Findings.{unused_value}
use Rattle.tsb_review.specs.Numbers.{numbers_of}
use Rattle.tsb_breaches.specs.declared.breach.Breach.{Breach}
use Rattle.tsb_breaches.specs.Breaches.{breaches}
use Rattle.tsb_breaches.specs.Numbers as breach_numbers
use Rattle.tsb_review_text.specs.BreachTemplates.{breach_template}
use Rattle.tsb_review_text.specs.Templates.{wording}

-- tenths of a second behind whole seconds: a point and a digit, and nothing for 0
abbrev pub fraction : ℕ → List ℕ
fraction tenths = if tenths == 0 then [] else 46 ∷ decimal tenths

-- a time in tenths of a second, as seconds: 28, or 2.5
abbrev pub seconds : ℕ → List ℕ
seconds tenths = decimal (tenths / 10) ++ fraction (tenths % 10)

-- what a letter stands for: P to T for numbers, W to Z and U for the same as seconds; any other byte is itself
abbrev pub part : Numbers → ℕ → List ℕ
part n byte =
    if byte == 80 then decimal n.a else (if byte == 81 then decimal n.b else (if byte == 82 then decimal n.c else (if byte == 83 then decimal n.d else (if byte == 84 then decimal n.e else (if byte == 85 then seconds n.e else
    (if byte == 87 then seconds n.a else (if byte == 88 then seconds n.b else (if byte == 89 then seconds n.c else (if byte == 90 then seconds n.d else
    byte ∷ [])))))))))

-- a text with numbers in place of its letters
unfoldable pub filled : Numbers → List ℕ → List ℕ
filled n text = flat_map (part n) text

-- a space and the name of a value: its object and its index
abbrev pub id_name : ObjectId → List ℕ
id_name id = 32 ∷ (name_of id.object ++ 46 ∷ decimal id.index)

-- the split table that an index is of: each has 16 phases
abbrev pub table_of : ℕ → ℕ
table_of index = (index - 1) / 16 + 1

-- the split table of a value, where it is one of splits
abbrev pub table_name : ObjectId → List ℕ
table_name id = if is_split id.object then codes " of split table " ++ decimal (table_of id.index) else []

-- the name of a value, with its split table
abbrev pub value_name : Option ObjectId → List ℕ
value_name None = []
value_name (Some id) = id_name id ++ table_name id

-- a later pattern of which a finding is also told, behind those before it
abbrev pub also : Plan → Finding → ℕ → List ℕ
also plan f m = if is_also_in plan f m then 44 ∷ 32 ∷ decimal m else []

-- the line of a finding, with its line feed
unfoldable pub line_of : Plan → Finding → List ℕ
line_of plan f = filled (numbers_of plan f) (wording plan f) ++ (value_name (unused_value plan f) ++ (flat_map (also plan f) (run_from 1 16) ++ 10 ∷ []))

-- the text of a review: a line for each finding, in order
unfoldable pub review_text : Plan → List ℕ
review_text plan = flat_map (line_of plan) (findings plan)

-- the line of a breach, with its line feed
unfoldable pub breach_line : Plan → Breach → List ℕ
breach_line plan b = filled (breach_numbers.numbers_of plan b) (breach_template b.fault) ++ 10 ∷ []

-- the text of all breaches: a line for each, in order
unfoldable pub breaches_text : Plan → List ℕ
breaches_text plan = flat_map (breach_line plan) (breaches plan)
