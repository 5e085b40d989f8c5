-- Numbers, clocks and titles as text.
use Rattle.std.specs.Prelude.{ℕ, ◌+◌, ◌/◌, ◌%◌, ◌==◌, nat_lt, not, Bool, ◌&&◌, ◌||◌, if◌then◌else◌, List, [], ◌∷◌, ◌++◌, codes, decimal, Option, Some, None}

-- a number, in decimal digits
abbrev pub number_text : ℕ → List ℕ
number_text n = decimal n

-- a number after a name
abbrev pub named_text : List ℕ → ℕ → List ℕ
named_text name n = name ++ number_text n

-- a number in double quotes, after a name that ends with the first of them
abbrev pub attribute_text : List ℕ → ℕ → List ℕ
attribute_text name n = name ++ (number_text n ++ 34 ∷ [])

-- the last two digits of a number
abbrev pub two_digits : ℕ → List ℕ
two_digits n = (48 + n / 10 % 10) ∷ (48 + n % 10) ∷ []

-- an hour: that of a day, in two digits, where it is a time of day
abbrev pub hour_text : Option ℕ → ℕ → List ℕ
hour_text None hour = number_text hour
hour_text (Some start) hour = two_digits (hour % 24)

-- the clock of a second: hh:mm:ss of a day where it is a time of day, and else h:mm:ss
abbrev pub clock_text : Option ℕ → ℕ → List ℕ
clock_text clock second =
    hour_text clock (second / 3600) ++ (58 ∷ (two_digits (second / 60 % 60) ++ (58 ∷ two_digits (second % 60))))

-- a byte that XML forbids: a control that is no tab and no end of a line
abbrev pub is_forbidden : ℕ → Bool
is_forbidden b = nat_lt b 32 && (not (b == 9) && (not (b == 10) && not (b == 13)))

-- a byte that has no meaning in XML: a control that XML forbids is told as `?`
abbrev pub plain_byte : ℕ → List ℕ
plain_byte b = if is_forbidden b then codes "?" else b ∷ []

-- a byte of a title: what has a meaning in XML is escaped
abbrev pub escaped_byte : ℕ → List ℕ
escaped_byte b =
    if b == 38 then codes "&amp;" else
    (if b == 60 then codes "&lt;" else
    (if b == 62 then codes "&gt;" else
    (if b == 34 then codes "&quot;" else
    (if b == 39 then codes "&#39;" else
    plain_byte b))))

-- these three bytes are U+FFFE or U+FFFF, which XML forbids
abbrev pub is_no_character : ℕ → ℕ → ℕ → Bool
is_no_character a b c = a == 239 && (b == 191 && (c == 190 || c == 191))

-- a title, byte by byte: three that are no character of XML are told as one `?`
abbrev pub escaped : List ℕ → List ℕ
escaped [] = []
escaped (a ∷ []) = escaped_byte a
escaped (a ∷ (b ∷ [])) = escaped_byte a ++ escaped_byte b
escaped (a ∷ (b ∷ (c ∷ bs))) =
    if is_no_character a b c then codes "?" ++ escaped bs else escaped_byte a ++ escaped (b ∷ (c ∷ bs))
