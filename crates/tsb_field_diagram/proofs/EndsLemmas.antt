-- Reading the ends of greens of a text, line by line.
use Rattle.std.proofs.Common.{◌≡◌, ℕ, ◌+◌, ◌≤◌, List, [], ◌∷◌, ◌++◌, Global, refl, sym, ap, subst, ◌∙◌, Option, Some, None, Result, Ok, Err, append_assoc, append-nil, length}
use Rattle.std.proofs.lemmas.Bool.{le-ltb}
use Rattle.tsb_lines.specs.Lines.{lines_of}
use Rattle.tsb_event_text.specs.declared.faults.RowFault.{RowFault}
use Rattle.tsb_event_text.specs.declared.times.Moment.{Moment}
use Rattle.tsb_field_diagram.specs.Ends.{Gives, Stepped, ends_after, ends_from, ends_of, told_in, with_ends}
use Rattle.tsb_field_diagram.specs.declared.ends.EndsError.{EndsError}
use Rattle.tsb_field_diagram.specs.declared.ends.EndsError.TheVariants.{Memory, TooLarge, Malformed}
use Rattle.tsb_field_diagram.specs.declared.ends.GreenEnd.{GreenEnd}

-- no fault of a line is that of the whole text
abbrev Sound : Result (List GreenEnd) EndsError → Type 0
Sound (Ok ends) = Unit {0}
Sound (Err Memory) = Unit {0}
Sound (Err TooLarge) = ⊥
Sound (Err (Malformed n why)) = Unit {0}

sound-with : (ends : List GreenEnd) (read : Result (List GreenEnd) EndsError) → Sound read → Sound (with_ends ends read)
sound-with ends (Ok more) h = tt
sound-with ends (Err Memory) h = tt
sound-with ends (Err TooLarge) h = h
sound-with ends (Err (Malformed n why)) h = tt

sound-after : (n : ℕ) (told : Result (Option GreenEnd) RowFault) (rest : Result (List GreenEnd) EndsError) → Sound rest → Sound (ends_after n told rest)
sound-after n (Ok None) rest h = h
sound-after n (Ok (Some end)) rest h = sound-with (end ∷ []) rest h
sound-after n (Err why) rest h = tt

sound : (from : Moment) (n : ℕ) (lines : List (List ℕ)) → Sound (ends_from from n lines)
unfolding ends_from
sound from n [] = tt
sound from n (line ∷ lines) = sound-after n (told_in from line) (ends_from from (n + 1) lines) (sound from (n + 1) lines)

-- no line makes the text too large
pub never-large : (from : Moment) (n : ℕ) (lines : List (List ℕ)) → ends_from from n lines ≡ Err TooLarge → ⊥
never-large from n lines e = let P : Result (List GreenEnd) EndsError → Type 0 = λ r. Sound r in subst P e (sound from n lines)

first : (from : Moment) (n : ℕ) (line : List ℕ) (lines : List (List ℕ)) (told : Result (Option GreenEnd) RowFault) → told_in from line ≡ told
    → ends_from from n (line ∷ lines) ≡ ends_after n told (ends_from from (n + 1) lines)
unfolding ends_from
first from n line lines told is = ap (λ (t : Result (Option GreenEnd) RowFault). ends_after n t (ends_from from (n + 1) lines)) is

-- a line of no end
pub no-end : (ends : List GreenEnd) (from : Moment) (n : ℕ) (line : List ℕ) (lines : List (List ℕ)) → told_in from line ≡ Ok None
    → with_ends ends (ends_from from n (line ∷ lines)) ≡ with_ends ends (ends_from from (n + 1) lines)
no-end ends from n line lines is = ap (with_ends ends) (first from n line lines (Ok None) is)

with-one : (ends : List GreenEnd) (x : GreenEnd) (read : Result (List GreenEnd) EndsError) → with_ends ends (with_ends (x ∷ []) read) ≡ with_ends (ends ++ x ∷ []) read
with-one ends x (Ok more) = ap (λ (v : List GreenEnd). Ok v) (sym (append_assoc ends (x ∷ []) more))
with-one ends x (Err e) = refl

-- a line of an end
pub one-end : (ends : List GreenEnd) (from : Moment) (n : ℕ) (line : List ℕ) (lines : List (List ℕ)) (x : GreenEnd) → told_in from line ≡ Ok (Some x)
    → with_ends ends (ends_from from n (line ∷ lines)) ≡ with_ends (ends ++ x ∷ []) (ends_from from (n + 1) lines)
one-end ends from n line lines x is =
    ap (with_ends ends) (first from n line lines (Ok (Some x)) is) ∙ with-one ends x (ends_from from (n + 1) lines)

-- a line that is no row
pub no-row : (from : Moment) (n : ℕ) (line : List ℕ) (lines : List (List ℕ)) (why : RowFault) → told_in from line ≡ Err why
    → ends_from from n (line ∷ lines) ≡ Err (Malformed n why)
no-row from n line lines why is = first from n line lines (Err why) is

-- no line is left
all-read : (ends : List GreenEnd) (from : Moment) (n : ℕ) → with_ends ends (ends_from from n []) ≡ Ok ends
unfolding ends_from
all-read ends from n = ap (λ (v : List GreenEnd). Ok v) (append-nil ends)

within-limit : (from : Moment) (text : List ℕ) → length text ≤ 67108864 → ends_of from text ≡ ends_from from 1 (lines_of text)
within-limit from text le = rw (le-ltb 67108864 (length text) le) refl

-- what a fault of a line says of the whole text
fault-says : (from : Moment) (text : List ℕ) (ends : List GreenEnd) (n : ℕ) (lines : List (List ℕ)) (e : EndsError) → length text ≤ 67108864
    → with_ends ends (ends_from from n lines) ≡ ends_from from 1 (lines_of text) → ends_from from n lines ≡ Err e → ends_of from text ≡ Err e
fault-says from text ends n lines e le read h = within-limit from text le ∙ sym read ∙ ap (with_ends ends) h

pub faulty : (from : Moment) (text rest line : List ℕ) (others : List (List ℕ)) (ends new : List GreenEnd) (n : ℕ) (e : EndsError) → length text ≤ 67108864
    → with_ends ends (ends_from from n (lines_of rest)) ≡ ends_from from 1 (lines_of text) → lines_of rest ≡ line ∷ others → Stepped (Err e) from ends n line new
    → Gives {A = Global} (Err e) (ends_of from text)
faulty from text rest line others ends new n Memory le read split s = λ large. never-large from 1 (lines_of text) (sym (within-limit from text le) ∙ large)
faulty from text rest line others ends new n TooLarge le read split s = fault-says from text ends n (lines_of rest) TooLarge le read (rw split (s others))
faulty from text rest line others ends new n (Malformed m why) le read split s = fault-says from text ends n (lines_of rest) (Malformed m why) le read (rw split (s others))

-- what the last line says of the whole text
pub last-read : (from : Moment) (text rest line : List ℕ) (ends new : List GreenEnd) (n : ℕ) → with_ends ends (ends_from from n (lines_of rest)) ≡ ends_from from 1 (lines_of text)
    → lines_of rest ≡ line ∷ [] → ((lines : List (List ℕ)) → with_ends ends (ends_from from n (line ∷ lines)) ≡ with_ends new (ends_from from (n + 1) lines))
    → ends_from from 1 (lines_of text) ≡ Ok new
last-read from text rest line ends new n read only s = sym read ∙ ap (λ (ls : List (List ℕ)). with_ends ends (ends_from from n ls)) only ∙ s [] ∙ all-read new from (n + 1)

pub log-read : (from : Moment) (text : List ℕ) (ends : List GreenEnd) → length text ≤ 67108864 → ends_from from 1 (lines_of text) ≡ Ok ends → ends_of from text ≡ Ok ends
log-read from text ends le h = within-limit from text le ∙ h
