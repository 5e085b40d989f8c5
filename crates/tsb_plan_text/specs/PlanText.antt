-- What a plan text says: the plan, or its first fault. `read` and `Data` are those of `serde_json`: an object's members
-- stand in the byte order of their names, each name once with the value that it has last, so what goes over the members
-- from the first on judges them in that order.
use Rattle.std.specs.Prelude.{ℕ, ◌^◌, List, length, nat_lt, nat_le, ◌==◌, if◌then◌else◌, Bool, false, Option, Some, None, option_and_then, Result, Ok, Err, codes, bytes_eq, find}
use Rattle.std.specs.Fmt.{decimal}
use Rattle.std.specs.Str.{is_utf8}
use Rattle.serde_json.specs.Data.{Data, Members, no_members, member}
use Rattle.serde_json.specs.Find.{get_member, as_number, as_object, as_str, as_u64}
use Rattle.serde_json.specs.Read.{read}
use Rattle.tsb_objects.specs.tsb_rules.Rules.{first_broken}
use Rattle.tsb_objects.specs.tsb_rules.declared.rules.Rule.{Rule}
use Rattle.tsb_plan.specs.declared.object.Object.{Object}
use Rattle.tsb_plan.specs.declared.version.Version.{Version}
use Rattle.tsb_plan.specs.declared.version.Version.TheVariants.{One, Two, Three}
use Rattle.tsb_plan.specs.Names.{object_named}
use Rattle.tsb_plan.specs.Plan.{Plan, empty, with_value}
use Rattle.tsb_plan.specs.Versions.{indices_in, greatest_in, translated}
use Rattle.tsb_objects.specs.tsb_types.Lists.{run_from}
use Rattle.tsb_plan_text.specs.PlanErrors.{Error, too_large, not_json, not_a_table, no_version, no_such_object, object_not_a_table, no_such_index, not_a_whole_number, out_of_range, notes_not_a_table, note_not_a_text, broken}

-- the longest text that is read, in bytes
abbrev pub limit : ℕ
limit = 1048576

-- what follows on what there is, or this fault where there is nothing
abbrev pub or_fault : {A B : Type 0} → Option A → Error → (A → Result B Error) → Result B Error
or_fault None f next = Err f
or_fault (Some x) f next = next x

-- what follows on a plan, or the fault that came before
abbrev pub then_on : Result Plan Error → (Plan → Result Plan Error) → Result Plan Error
then_on (Ok plan) next = next plan
then_on (Err f) next = Err f

-- the JSON value that a text is
unfoldable pub data_of : List ℕ → Option Data
data_of text = if is_utf8 text then read text else None

-- 1, 2 or 3
abbrev pub version_numbered : ℕ → Option Version
version_numbered n = if n == 1 then Some One else (if n == 2 then Some Two else (if n == 3 then Some Three else None))

-- the number that `as_u64` gives of a value
abbrev pub number_in : Data → Option ℕ
number_in d = option_and_then as_u64 (as_number d)

-- by the member `version`; the objects, indices and ranges of all other members are those of that version
abbrev pub version_in : Members → Option Version
version_in members = option_and_then version_numbered (option_and_then number_in (get_member (codes "version") members))

-- a whole number that has 32 bits
abbrev pub of_32_bits : ℕ → Option ℕ
of_32_bits n = if nat_lt n (2 ^ 32) then Some n else None

-- a value as objects have it: not negative, without a fraction, below 2^32
abbrev pub whole_number : Data → Option ℕ
whole_number d = option_and_then of_32_bits (number_in d)

-- the index, of 1 to n, whose decimal text this is: `decimal` writes no leading zero
unfoldable pub index_named : ℕ → List ℕ → Option ℕ
index_named n text = find (λ i. bytes_eq (decimal i) text) (run_from 1 n)

-- the plan with the value of one index of a table, which is judged from its index on
unfoldable pub with_entry : Version → Object → List ℕ → Data → Plan → Result Plan Error
with_entry v o text d plan =
    or_fault (index_named (indices_in v o) text) (no_such_index o text) (λ i.
    or_fault (whole_number d) (not_a_whole_number o text) (λ n.
    if nat_le n (greatest_in v o) then Ok (with_value plan o (translated v o i) n) else Err (out_of_range o text)))

-- with each value of an object's table
abbrev pub with_table : Version → Object → Members → Plan → Result Plan Error
with_table v o no_members plan = Ok plan
with_table v o (member text d rest) plan = then_on (with_entry v o text d plan) (with_table v o rest)

-- with a member that names an object
unfoldable pub with_object : Version → List ℕ → Data → Plan → Result Plan Error
with_object v name d plan =
    or_fault (object_named v name) (no_such_object name) (λ o.
    or_fault (as_object d) (object_not_a_table o) (λ table.
    with_table v o table plan))

-- the name is that of the notes, which texts of version 3 alone have
abbrev pub is_notes : Version → List ℕ → Bool
is_notes One name = false
is_notes Two name = false
is_notes Three name = bytes_eq name (codes "notes")

-- the plan itself, where each note is a text
abbrev pub noted : Members → Plan → Result Plan Error
noted no_members plan = Ok plan
noted (member name d rest) plan = or_fault (as_str d) (note_not_a_text name) (λ text. noted rest plan)

-- with the notes; they change nothing of the plan
unfoldable pub with_notes : Data → Plan → Result Plan Error
with_notes d plan = or_fault (as_object d) notes_not_a_table (λ table. noted table plan)

-- with a member of the text
unfoldable pub with_member : Version → List ℕ → Data → Plan → Result Plan Error
with_member v name d plan =
    if bytes_eq name (codes "version") then Ok plan else
    (if is_notes v name then with_notes d plan else with_object v name d plan)

-- with all members
abbrev pub with_members : Version → Members → Plan → Result Plan Error
with_members v no_members plan = Ok plan
with_members v (member name d rest) plan = then_on (with_member v name d plan) (with_members v rest)

-- the plan that a value gives: 0 what it does not name
unfoldable pub data_plan : Data → Result Plan Error
data_plan d =
    or_fault (as_object d) not_a_table (λ members.
    or_fault (version_in members) no_version (λ v.
    with_members v members empty))

-- a plan that breaks no rule
abbrev pub unless_broken : Option Rule → Plan → Result Plan Error
unless_broken None plan = Ok plan
unless_broken (Some r) plan = Err (broken r)

-- the plan itself, or as an error the first of K1 to K29 that it breaks
unfoldable pub checked : Plan → Result Plan Error
checked plan = unless_broken (first_broken plan) plan

-- the plan that a text gives, or the first fault
unfoldable pub reading : List ℕ → Result Plan Error
reading text =
    if nat_lt limit (length text) then Err too_large else
    or_fault (data_of text) not_json (λ d. then_on (data_plan d) checked)

-- the plan that a text gives, whether it breaks a rule or not, or the first fault
unfoldable pub drafted : List ℕ → Result Plan Error
drafted text = if nat_lt limit (length text) then Err too_large else or_fault (data_of text) not_json data_plan
