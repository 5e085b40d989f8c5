-- Where texts stop.
use Rattle.std.specs.Prelude.{◌≡◌, [], ◌∷◌, ◌++◌, Some, None, codes, true, false, refl}
use Rattle.tsb_plan_notes.specs.declared.next.JsonNext.TheVariants.{Value, Name, MemberEnd, ItemEnd, End, Text}
use Rattle.tsb_plan_notes.specs.declared.next.Role.TheVariants as roles
use Rattle.tsb_plan_notes.specs.Places.{json_place}

-- JSON stops nowhere
is_json : json_place (codes "{\"a\": [1, -2.5e3, {}], \"b\\u00e9\": null}\n") ≡ None
is_json = refl

is_number : json_place (codes "17") ≡ None
is_number = refl

-- a comma that is missing is missed behind the blanks
no_comma : json_place (codes "{\"a\": 1\n \"b\": 2}") ≡ Some (record { line = 2; column = 2; ends = false; next = MemberEnd })
no_comma = refl

-- a comma too many
trails : json_place (codes "{\"a\": 1,}") ≡ Some (record { line = 1; column = 9; ends = false; next = Name })
trails = refl

-- a bracket that is not closed
open_end : json_place (codes "{\"a\": 1\n") ≡ Some (record { line = 2; column = 1; ends = true; next = MemberEnd })
open_end = refl

-- the empty text
nothing : json_place [] ≡ Some (record { line = 1; column = 1; ends = true; next = Value })
nothing = refl

-- a zero before a digit
two_zeros : json_place (codes "[01]") ≡ Some (record { line = 1; column = 3; ends = false; next = ItemEnd })
two_zeros = refl

-- what follows the value
more : json_place (codes "1 2") ≡ Some (record { line = 1; column = 3; ends = false; next = End })
more = refl

-- a text that no double quote ends on its line
no_quote : json_place (codes "[\"a\n") ≡ Some (record { line = 1; column = 4; ends = false; next = Text roles.Value })
no_quote = refl

-- a byte of Latin-1 is none of UTF-8: the next is no second byte of a character
latin : json_place (codes "[\"" ++ 252 ∷ 34 ∷ 93 ∷ []) ≡ Some (record { line = 1; column = 3; ends = false; next = Text roles.Value })
latin = refl
