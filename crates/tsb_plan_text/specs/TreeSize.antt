-- What the tree of a plan text takes of memory, by a count over the bytes of the text. Those within a string count as
-- well, so the count may be too high. That it is not too low is measured, and not proved.
use Rattle.std.specs.Prelude.{ℕ, ◌+◌, ◌||◌, ◌==◌, Bool, List, [], ◌∷◌, length, nat_le, if◌then◌else◌}

-- a text of so many bytes is read whatever is in it
abbrev pub short : ℕ
short = 262144

-- and another where its tree takes so many bytes at most
abbrev pub most_tree : ℕ
most_tree = 67108864

-- what the tree takes for an object with its first names, which a brace begins
abbrev pub object_bytes : ℕ
object_bytes = 900

-- for an array with its first values, which a bracket begins
abbrev pub array_bytes : ℕ
array_bytes = 176

-- for a name beside its text, which a colon follows
abbrev pub name_bytes : ℕ
name_bytes = 128

-- for a value after another one, which a comma parts
abbrev pub value_bytes : ℕ
value_bytes = 32

-- and for half of a string, which has two quotes
abbrev pub half_string_bytes : ℕ
half_string_bytes = 16

-- what it takes for a byte of the text: `{`, `[`, `:`, `,` or `"`
abbrev pub weight : ℕ → ℕ
weight b =
    if b == 123 then object_bytes else
    (if b == 91 then array_bytes else
    (if b == 58 then name_bytes else
    (if b == 44 then value_bytes else
    (if b == 34 then half_string_bytes else 0))))

-- what it takes for all of them
abbrev pub tree_bytes : List ℕ → ℕ
tree_bytes [] = 0
tree_bytes (b ∷ rest) = weight b + tree_bytes rest

-- whether there is room for the tree
unfoldable pub has_room : List ℕ → Bool
has_room text = nat_le (length text) short || nat_le (tree_bytes text) most_tree
