-- JSON (RFC 8259), without spaces, of values that are written already.
use Rattle.std.specs.Prelude.{ℕ, zero, suc, ◌+◌, Bool, if◌then◌else◌, List, [], ◌∷◌, ◌++◌, Option, Some, None, codes, decimal}

-- a string of bytes that need no escape
abbrev pub string : List ℕ → List ℕ
string bytes = 34 ∷ bytes ++ (34 ∷ [])

-- the rest of a list or an object: values with a comma before each, and the byte that closes it
abbrev pub more : List (List ℕ) → ℕ → List ℕ
more [] close = close ∷ []
more (v ∷ vs) close = 44 ∷ v ++ more vs close

-- values with commas between them, and the byte that closes them
abbrev pub closed : List (List ℕ) → ℕ → List ℕ
closed [] close = close ∷ []
closed (v ∷ vs) close = v ++ more vs close

-- a list of values
abbrev pub array : List (List ℕ) → List ℕ
array values = 91 ∷ closed values 93

-- a value after its name
abbrev pub member : List ℕ → List ℕ → List ℕ
member name value = 34 ∷ name ++ (34 ∷ 58 ∷ value)

-- an object of members
abbrev pub object : List (List ℕ) → List ℕ
object members = 123 ∷ closed members 125

-- a number, or null
abbrev pub optional : Option ℕ → List ℕ
optional None = codes "null"
optional (Some n) = decimal n

-- a value, if there is one, before others
abbrev pub onto : Option (List ℕ) → List (List ℕ) → List (List ℕ)
onto None vs = vs
onto (Some v) vs = v ∷ vs

-- what stands before a value of a list: nothing before the first
abbrev pub comma : Bool → List ℕ
comma first = if first then [] else 44 ∷ []

-- what follows in a list: where no value stands yet, its first one needs no comma
abbrev pub following : Bool → List (List ℕ) → ℕ → List ℕ
following first vs close = if first then closed vs close else more vs close

-- the values that there are of n numbers from a on
unfoldable pub values_from : (ℕ → Option (List ℕ)) → ℕ → ℕ → List (List ℕ)
values_from value a zero = []
values_from value a (suc n) = onto (value a) (values_from value (a + 1) n)

-- a number that a set has
abbrev pub number_in : (ℕ → Bool) → ℕ → Option (List ℕ)
number_in set n = if set n then Some (decimal n) else None

-- the numbers 1 to n that a set has
unfoldable pub numbers : (ℕ → Bool) → ℕ → List ℕ
numbers set n = array (values_from (number_in set) 1 n)
