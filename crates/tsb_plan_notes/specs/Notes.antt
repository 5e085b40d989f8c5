-- WHAT IS NOTED OF A PLAN TEXT, in the order of the text: of a name or an index that comes again in its table, both
-- values, the last one counting; of a value that is no whole number, its unit; of a value and of an index out of range, the
-- range; of a name that no object has, the object that was perhaps meant; and of one that is newer than the version of the
-- text, that it is. What is no JSON has no notes. Names
-- and values are those of the newest version, and so are indices but in a text of an earlier one.
use Rattle.std.specs.Prelude.{ℕ, List, [], ◌∷◌, ◌++◌, if◌then◌else◌, Bool, true, false, ◌||◌, Option, Some, None, codes, bytes_eq, decimal, nat_le}
use Rattle.std.specs.Str.{is_utf8}
use Rattle.std.specs.List.{list_any}
use Rattle.json.specs.Find.{as_number}
use Rattle.json.specs.Json.{Json, object, Members, no_members, member, document}
use Rattle.json.specs.Print.{print}
use Rattle.json.specs.Tree.{json_tokens}
use Rattle.tsb_plan.specs.declared.object.Object.{Object}
use Rattle.tsb_plan.specs.declared.version.Version.{Version}
use Rattle.tsb_plan.specs.declared.version.Version.TheVariants.{Three}
use Rattle.tsb_plan.specs.declared.version.TheConstants.Version.{NEWEST}
use Rattle.tsb_plan.specs.Names.{name_of, object_named}
use Rattle.tsb_plan.specs.Objects.{greatest, indices}
use Rattle.tsb_plan_notes.specs.Near.{near_object}
use Rattle.tsb_plan_notes.specs.Newer.{indices_noted, newer_end, newer_line, newer_note, version_of}
use Rattle.tsb_plan_notes.specs.Parts.{is_exponent, is_index, is_negative, is_point, meant, whole_of}
use Rattle.tsb_plan_notes.specs.Units.{unit_of, unit_text}
use Rattle.tsb_plan_notes.specs.declared.units.Unit.{Unit}

-- a value as JSON, without spaces
abbrev pub shown : Json → List ℕ
shown d = print (json_tokens d)

-- the first of these members that has this name
abbrev pub next_of : List ℕ → Members → Option Json
next_of name no_members = None
next_of name (member key d rest) = if bytes_eq key name then Some d else next_of name rest

-- where a name comes again, that it does
abbrev pub twice_note : List ℕ → Json → Option Json → List ℕ
twice_note path d None = []
twice_note path d (Some again) =
    path ++ codes ": it stands twice, as " ++ shown d ++ codes " and as " ++ shown again ++ codes ", and the last one counts\n"

-- ## The table of an object

-- an object's index, as plan texts and lines have it
unfoldable pub path_of : Object → List ℕ → List ℕ
path_of o index = name_of o ++ 46 ∷ index

-- what it may have been meant as
abbrev pub meant_text : Option ℕ → List ℕ
meant_text None = []
meant_text (Some n) = codes ", " ++ decimal n

-- why a number that is not negative is no whole number of 32 bits
abbrev pub positive_words : List ℕ → List ℕ
positive_words text =
    if list_any is_exponent text then codes " has an exponent"
    else if list_any is_point text then codes " is no whole number"
    else codes " is too large"

-- why a number is none
abbrev pub number_words : List ℕ → List ℕ
number_words text = if is_negative text then codes " is negative" else positive_words text

-- why a value is none
abbrev pub words_of : Option (List ℕ) → List ℕ
words_of None = codes " is no whole number"
words_of (Some text) = number_words text

-- the same
abbrev pub fault_words : Json → List ℕ
fault_words d = words_of (as_number d)

-- that a value is no whole number of 32 bits, and why
unfoldable pub fault_text : Json → List ℕ
fault_text d = codes ": " ++ shown d ++ fault_words d

-- the end of a line with a unit
unfoldable pub unit_end : Unit → Json → List ℕ
unit_end unit d = unit_text unit ++ meant_text (meant unit d) ++ 10 ∷ []

-- that a value is no whole number, with its unit
abbrev pub unit_note : Object → List ℕ → Json → List ℕ
unit_note o index d = path_of o index ++ fault_text d ++ unit_end (unit_of o) d

-- that it is out of range
unfoldable pub over_text : Json → List ℕ
over_text d = codes ": " ++ shown d ++ codes " is out of range, 0 to "

-- the end of a line with the greatest value of an object
unfoldable pub greatest_end : Object → List ℕ
greatest_end o = decimal (greatest o) ++ unit_text (unit_of o) ++ 10 ∷ []

-- that a value is out of range, with the range and its unit
abbrev pub over_note : Object → List ℕ → Json → List ℕ
over_note o index d = path_of o index ++ over_text d ++ greatest_end o

-- a fault of a value, which is this whole number or none: that it is none, or is out of range
abbrev pub value_note : Option ℕ → Object → List ℕ → Json → List ℕ
value_note None o index d = unit_note o index d
value_note (Some n) o index d = if nat_le n (greatest o) then [] else over_note o index d

-- that an index is none, with the range of so many
unfoldable pub range_end : ℕ → List ℕ
range_end most = codes ": no such index, 1 to " ++ decimal most ++ 10 ∷ []

-- that an object has no such index, with the range
abbrev pub index_note : ℕ → Object → List ℕ → List ℕ
index_note most o index = path_of o index ++ range_end most

-- of an index that a text of this version has not: that the newest has it, or that none has
abbrev pub no_index_note : Option Version → Object → List ℕ → List ℕ
no_index_note v o index =
    if is_index (indices o) index then newer_line (path_of o index) (newer_end v Three) else index_note (indices_noted v o) o index

-- of an index with its value, before these
abbrev pub entry_note : Bool → Option Version → Object → List ℕ → Json → Members → List ℕ
entry_note false v o index d later = no_index_note v o index
entry_note true v o index d later = twice_note (path_of o index) d (next_of index later) ++ value_note (whole_of d) o index d

-- of the entries of a table
abbrev pub entries_notes : Option Version → Object → Members → List ℕ
entries_notes v o no_members = []
entries_notes v o (member index d later) =
    entry_note (is_index (indices_noted v o) index) v o index d later ++ entries_notes v o later

-- of what the text gives for an object
abbrev pub table_notes : Option Version → Object → Json → List ℕ
table_notes v o (object entries) = entries_notes v o entries
table_notes v o d = []

-- ## The text

-- that an object was perhaps meant
unfoldable pub right_text : Object → List ℕ
right_text o = codes ", did you mean " ++ name_of o ++ codes "?"

-- the object that was perhaps meant
abbrev pub near_text : Option Object → List ℕ
near_text None = []
near_text (Some o) = right_text o

-- that a name is none, with that object
unfoldable pub near_end : Option Object → List ℕ
near_end near = codes ": no such object" ++ near_text near ++ 10 ∷ []

-- that no object has a name, with the one that was perhaps meant
abbrev pub name_note : List ℕ → List ℕ
name_note name = name ++ near_end (near_object name)

-- the name is that of the version, or of the notes of a plan
abbrev pub is_known_member : List ℕ → Bool
is_known_member name = bytes_eq name (codes "version") || bytes_eq name (codes "notes")

-- of a member with its value, before these: where it names an object, is one of these two, or neither
abbrev pub member_note : Option Version → Option Object → List ℕ → Json → Members → List ℕ
member_note v None name d later = if is_known_member name then twice_note name d (next_of name later) else name_note name
member_note v (Some o) name d later = twice_note name d (next_of name later) ++ table_notes v o d

-- of one in a text of this version: that a later one has it, and what is noted of it otherwise
abbrev pub versed_note : Option Version → Option Object → List ℕ → Json → Members → List ℕ
versed_note v o name d later = newer_note v o name ++ member_note v o name d later

-- of the members of a text of this version
abbrev pub members_notes : Option Version → Members → List ℕ
members_notes v no_members = []
members_notes v (member name d later) = versed_note v (object_named NEWEST name) name d later ++ members_notes v later

-- of a value
abbrev pub value_notes : Json → List ℕ
value_notes (object members) = members_notes (version_of (object members)) members
value_notes d = []

-- of what a text may be
abbrev pub document_notes : Option Json → List ℕ
document_notes None = []
document_notes (Some d) = value_notes d

-- of a text
unfoldable pub notes_of : List ℕ → List ℕ
notes_of text = if is_utf8 text then document_notes (document text) else []
