-- The grammar of JSON (RFC 8259), byte after byte: what a byte does where this or that may come.
use Rattle.std.specs.Prelude.{ℕ, ◌-◌, ◌==◌, ◌&&◌, ◌||◌, nat_le, nat_lt, not, Bool, if◌then◌else◌, Option, Some, None}
use Rattle.tsb_plan_notes.specs.declared.next.Bracket.{Bracket}
use Rattle.tsb_plan_notes.specs.declared.next.Bracket.TheVariants as brackets
use Rattle.tsb_plan_notes.specs.declared.next.Role.{Role}
use Rattle.tsb_plan_notes.specs.declared.next.Role.TheVariants as roles
use Rattle.tsb_plan_notes.specs.declared.next.Rest.{Rest}
use Rattle.tsb_plan_notes.specs.declared.next.Rest.TheVariants.{Rue, Ue, E, Alse, Lse, Se, Ull, Ll, L}
use Rattle.tsb_plan_notes.specs.declared.next.JsonNext.{JsonNext}
use Rattle.tsb_plan_notes.specs.declared.next.JsonNext.TheVariants.{Value, FirstItem, FirstName, Name, Colon, ItemEnd, MemberEnd, End, Text, Escape, Hex, Tail, Word, Minus, Zero, Whole, Point, Fraction, Exponent, Sign, Power}
use Rattle.tsb_plan_notes.specs.declared.next.Move.{Move}
use Rattle.tsb_plan_notes.specs.declared.next.Move.TheVariants.{To, Open, Close, Ended, Wrong}

-- ## Bytes

-- a space, a tab, a line feed or a carriage return
abbrev pub is_blank : ℕ → Bool
is_blank byte = byte == 32 || (byte == 9 || (byte == 10 || byte == 13))

-- a decimal digit
abbrev pub is_digit : ℕ → Bool
is_digit byte = nat_le 48 byte && nat_le byte 57

-- a hexadecimal digit
abbrev pub is_hex : ℕ → Bool
is_hex byte = is_digit byte || ((nat_le 65 byte && nat_le byte 70) || (nat_le 97 byte && nat_le byte 102))

-- what follows a backslash alone: a double quote, a backslash, a slash, or one of b, f, n, r and t
abbrev pub is_escape : ℕ → Bool
is_escape byte = byte == 34 || (byte == 92 || (byte == 47 || (byte == 98 || (byte == 102 || (byte == 110 || (byte == 114 || byte == 116))))))

-- a byte that has to be this mark, which that follows
abbrev pub is_mark : ℕ → JsonNext → ℕ → Move
is_mark mark next byte = if byte == mark then To next else Wrong

-- a byte that has to be a digit, which this follows
abbrev pub digit_to : JsonNext → ℕ → Move
digit_to next byte = if is_digit byte then To next else Wrong

-- ## Numbers

-- the first digit: nothing but a point or an exponent follows a zero
abbrev pub after_minus : ℕ → Move
after_minus byte = if byte == 48 then To Zero else digit_to Whole byte

-- a sign or the first digit of an exponent
abbrev pub exponent : ℕ → Move
exponent byte = if byte == 43 then To Sign else if byte == 45 then To Sign else digit_to Power byte

-- the letter before an exponent: e or E
abbrev pub power_mark : ℕ → Option JsonNext
power_mark byte = if byte == 101 then Some Exponent else if byte == 69 then Some Exponent else None

-- with what a number goes on behind a zero
abbrev pub zero : ℕ → Option JsonNext
zero byte = if byte == 46 then Some Point else power_mark byte

-- behind a digit before the point
abbrev pub whole : ℕ → Option JsonNext
whole byte = if is_digit byte then Some Whole else zero byte

-- behind one behind the point
abbrev pub fraction : ℕ → Option JsonNext
fraction byte = if is_digit byte then Some Fraction else power_mark byte

-- and behind one of its exponent
abbrev pub digit_of : ℕ → Option JsonNext
digit_of byte = if is_digit byte then Some Power else None

-- ## Words

-- the letter that the rest of a word begins with
abbrev pub first_byte : Rest → ℕ
first_byte Rue = 114
first_byte Ue = 117
first_byte E = 101
first_byte Alse = 97
first_byte Lse = 108
first_byte Se = 115
first_byte Ull = 117
first_byte Ll = 108
first_byte L = 108

-- what is left behind that letter
abbrev pub rest_of : Rest → Option Rest
rest_of Rue = Some Ue
rest_of Ue = Some E
rest_of E = None
rest_of Alse = Some Lse
rest_of Lse = Some Se
rest_of Se = Some E
rest_of Ull = Some Ll
rest_of Ll = Some L
rest_of L = None

-- the word goes on, or was the value
abbrev pub word_on : Option Rest → Move
word_on (Some rest) = To (Word rest)
word_on None = Ended

-- a further letter
abbrev pub letter : Rest → ℕ → Move
letter rest byte = if byte == first_byte rest then word_on (rest_of rest) else Wrong

-- the first letter, of `true`, `false` or `null`
abbrev pub word : ℕ → Move
word byte =
    if byte == 116 then To (Word Rue)
    else if byte == 102 then To (Word Alse)
    else if byte == 110 then To (Word Ull)
    else Wrong

-- ## Texts between double quotes

-- the double quote that ends one
abbrev pub closed : Role → Move
closed roles.Name = To Colon
closed roles.Value = Ended

-- so many more bytes of a character may follow, the first of them between these two
abbrev pub tail_of : Role → ℕ → ℕ → ℕ → Move
tail_of role low high left = To (Tail role low high left)

-- the first byte of a character of UTF-8 that has several (RFC 3629)
abbrev pub lead : Role → ℕ → Move
lead role byte =
    if nat_lt byte 194 then Wrong
    else if nat_lt byte 224 then tail_of role 128 191 1
    else if byte == 224 then tail_of role 160 191 2
    else if byte == 237 then tail_of role 128 159 2
    else if nat_lt byte 240 then tail_of role 128 191 2
    else if byte == 240 then tail_of role 144 191 3
    else if nat_lt byte 244 then tail_of role 128 191 3
    else if byte == 244 then tail_of role 128 143 3
    else Wrong

-- a further byte of one
abbrev pub tail : Role → ℕ → ℕ → ℕ → ℕ → Move
tail role low high left byte =
    if nat_lt byte low || nat_lt high byte then Wrong
    else if nat_le left 1 then To (Text role)
    else tail_of role 128 191 (left - 1)

-- what follows a backslash
abbrev pub escape : Role → ℕ → Move
escape role byte = if byte == 117 then To (Hex role 4) else if is_escape byte then To (Text role) else Wrong

-- a hexadecimal digit of an escape
abbrev pub hex : Role → ℕ → ℕ → Move
hex role left byte = if not (is_hex byte) then Wrong else if nat_le left 1 then To (Text role) else To (Hex role (left - 1))

-- a byte of a text: no control character stands there
abbrev pub quoted : Role → ℕ → Move
quoted role byte =
    if byte == 34 then closed role
    else if byte == 92 then To (Escape role)
    else if nat_lt byte 32 then Wrong
    else if nat_lt byte 128 then To (Text role)
    else lead role byte

-- ## Values, objects and arrays

-- the first byte of a name
abbrev pub name : ℕ → Move
name byte = is_mark 34 (Text roles.Name) byte

-- the first byte of a value
abbrev pub value : ℕ → Move
value byte =
    if byte == 123 then Open brackets.Object
    else if byte == 91 then Open brackets.Array
    else if byte == 34 then To (Text roles.Value)
    else if byte == 45 then To Minus
    else if is_digit byte then after_minus byte
    else word byte

-- a byte that is no blank, between values, names, colons and commas
abbrev pub begin : JsonNext → ℕ → Move
begin Value byte = value byte
begin FirstItem byte = if byte == 93 then Close else value byte
begin FirstName byte = if byte == 125 then Close else name byte
begin Name byte = name byte
begin Colon byte = is_mark 58 Value byte
begin ItemEnd byte = if byte == 93 then Close else is_mark 44 Value byte
begin MemberEnd byte = if byte == 125 then Close else is_mark 44 Name byte
begin next byte = Wrong

-- any byte there: blanks change nothing
abbrev pub structure : JsonNext → ℕ → Move
structure next byte = if is_blank byte then To next else begin next byte

-- what may follow a value within the bracket that was opened last
abbrev pub after : Option Bracket → JsonNext
after None = End
after (Some brackets.Array) = ItemEnd
after (Some brackets.Object) = MemberEnd

-- a byte behind a number that may be whole: one with which it goes on, or the first behind it
abbrev pub finished : Option JsonNext → Option Bracket → ℕ → Move
finished (Some next) top byte = To next
finished None top byte = structure (after top) byte

-- what a byte does where this may come, within the bracket that was opened last and is not closed
abbrev pub step : JsonNext → Option Bracket → ℕ → Move
step (Text role) top byte = quoted role byte
step (Escape role) top byte = escape role byte
step (Hex role left) top byte = hex role left byte
step (Tail role low high left) top byte = tail role low high left byte
step (Word rest) top byte = letter rest byte
step Minus top byte = after_minus byte
step Point top byte = digit_to Fraction byte
step Exponent top byte = exponent byte
step Sign top byte = digit_to Power byte
step Zero top byte = finished (zero byte) top byte
step Whole top byte = finished (whole byte) top byte
step Fraction top byte = finished (fraction byte) top byte
step Power top byte = finished (digit_of byte) top byte
step next top byte = structure next byte
