-- The right word that was perhaps meant by a wrong one.
use Rattle.std.specs.Prelude.{ℕ, ◌==◌, ◌&&◌, ◌||◌, Bool, true, false, if◌then◌else◌, List, [], ◌∷◌, ◌++◌, map, take, Option, Some, None, codes, bytes_eq}
use Rattle.std.specs.Borrow.{Bor}
use Rattle.clap.specs.Walk.{Text}
use Rattle.tsb_words.specs.Wires.{parts_of}
use Rattle.tsb_words.specs.declared.near.TheConstants as words

-- ## A slip of the hand

-- a text has no byte
abbrev pub is_empty : Text → Bool
is_empty [] = true
is_empty (x ∷ xs) = false

-- a text is this letter and these behind it
abbrev pub is_joined : ℕ → Text → Text → Bool
is_joined first rest [] = false
is_joined first rest (letter ∷ more) = letter == first && bytes_eq more rest

-- the letters behind two first ones begin with the other of them, and go on alike
abbrev pub is_turned : ℕ → Text → ℕ → Text → Bool
is_turned x (a ∷ xs) y (b ∷ ys) = a == y && (b == x && bytes_eq xs ys)
is_turned x xs y ys = false

-- where x is not y, a word y ∷ ys differs from a right one, x ∷ xs, by a slip: another letter, one too few, one too
-- many, or two that have changed places
abbrev pub is_slip_apart : ℕ → Text → ℕ → Text → Bool
is_slip_apart x xs y ys = bytes_eq xs ys || (is_joined y ys xs || (is_joined x xs ys || is_turned x xs y ys))

-- the second word differs from the first, a right one, by a slip of the hand
abbrev pub is_slip : Text → Text → Bool
is_slip [] [] = false
is_slip [] (y ∷ ys) = is_empty ys
is_slip (x ∷ xs) [] = is_empty xs
is_slip (x ∷ xs) (y ∷ ys) = if x == y then is_slip xs ys else is_slip_apart x xs y ys

-- ## The right word

-- the first of these right words from which a word differs by a slip
abbrev pub near : List Text → Text → Option Text
near [] word = None
near (right ∷ rights) word = if is_slip right word then Some right else near rights word

-- what comes before a first `=`
abbrev pub front_in : Text → Option (Text × Text) → Text
front_in word None = word
front_in word (Some parts) = parts.0

-- a word up to a first `=`, behind which an option has its value
abbrev pub front_of : Text → Text
front_of word = front_in word (parts_of word)

-- the one, or else the other
abbrev pub or_else : Option Text → Option Text → Option Text
or_else (Some right) other = Some right
or_else None other = other

-- of the words before `--`, the right word that the first was perhaps meant for that is near one
abbrev pub near_in : List Text → List Text → Option Text
near_in rights [] = None
near_in rights (word ∷ words) =
    if bytes_eq word (codes "--") then None else or_else (near rights (front_of word)) (near_in rights words)

-- the texts of right words
abbrev pub texts : List (Bor (List ℕ)) → List Text
texts rights = map (λ (right : Bor (List ℕ)). right.now) rights

-- the first of these words
abbrev pub first_word : List Text → Option Text
first_word [] = None
first_word (word ∷ words) = Some word

-- the options of the command of this name: none where there is no such command
abbrev pub words_of : Text → List Text
words_of command =
    if bytes_eq command (codes "log") then map (λ right. right.now) words.LOG
    else (if bytes_eq command (codes "record") then map (λ right. right.now) words.RECORD
    else (if bytes_eq command (codes "events") then map (λ right. right.now) words.EVENTS
    else (if bytes_eq command (codes "diagram") then map (λ right. right.now) words.DIAGRAM
    else (if bytes_eq command (codes "review") then map (λ right. right.now) words.REVIEW
    else (if bytes_eq command (codes "schedule") then (map (λ right. right.now) words.SCHEDULE)
    else (if bytes_eq command (codes "worksheet") then (map (λ right. right.now) words.WORKSHEET)
    else (if bytes_eq command (codes "card") then (map (λ right. right.now) words.CARD) else [])))))))

-- the right word that was perhaps meant by a wrong one of `tsb_live`; the first of all words is the program's name
abbrev pub live_near : List Text → Option Text
live_near [] = None
live_near (name ∷ rest) = near_in (map (λ right. right.now) words.LIVE) rest

-- of `tsb_field`: of commands for the first word, and of the options of that command for those after it
abbrev pub field_after : List Text → Option Text
field_after [] = None
field_after (command ∷ options) = or_else (near (map (λ right. right.now) words.COMMANDS) command) (near_in (words_of command) options)

-- by all words; the first is the program's name
abbrev pub field_near : List Text → Option Text
field_near [] = None
field_near (name ∷ rest) = field_after rest

-- the line that asks whether this right word was meant, and shows its first bytes
abbrev pub hint : Text → List ℕ
hint right = codes "did you mean " ++ (take words.SHOWN right ++ codes "? --help lists the words\n")
