-- What is written of an event is read again.
use Rattle.std.proofs.Common.{◌≡◌, ◌∙◌, ◌≢◌, ℕ, ◌+◌, ◌/◌, ◌%◌, ◌<◌, ◌^◌, ◌&&◌, ◌||◌, not, Bool, true, false, zero, suc, List, [], ◌∷◌, ◌++◌, length, take, refl, ap, ap₂, arith, inl, inr, Option, Some, if◌then◌else◌, append_assoc}
use Rattle.std.proofs.lemmas.Bool.{or_parts}
use Rattle.std.proofs.lemmas.Bool.Decides.{eqb_tells}
use Rattle.std.proofs.lemmas.Fmt.{decimal_by_steps}
use Rattle.std.specs.Fmt.{decimal}
use Rattle.std.specs.Prelude.{nat_le}
use Rattle.tsb_lines.specs.Lines.{is_comment}
use Rattle.tsb_lines.specs.Words.{number_of}
use Rattle.tsb_lines.proofs.DigitLemmas.{number-read}
use Rattle.tsb_event_text.specs.declared.times.Moment.{Moment}
use Rattle.tsb_event_text.specs.declared.events.TheConstants.{LONGEST_DEVICE}
use Rattle.tsb_event_text.specs.declared.columns.Separator.TheVariants.{Comma}
use Rattle.tsb_event_text.specs.Columns.{separator_of, usual_columns}
use Rattle.tsb_event_text.specs.Fields.{Quoted, field_in, fields_from, fields_of, has_third, is_field, onto_field, with_field}
use Rattle.tsb_event_text.specs.Laws.{BeginsAsUsual}
use Rattle.tsb_event_text.specs.Rows.{is_asked, row_in, row_of, row_said}
use Rattle.tsb_event_text.specs.Times.{moment_of}
use Rattle.tsb_event_text.specs.Events.{IsPlain, can_be_written, device_field, event_row_text, has_byte}
use Rattle.tsb_lines.specs.Digits.{digit}
use Rattle.tsb_event_text.specs.Written.{nine_digits, time_head}
use Rattle.tsb_event_text.proofs.FieldLemmas.{onto-with}
use Rattle.tsb_event_text.proofs.PartLemmas.{first, last, unquoted}

-- ## Plain fields

pub plain-join : (xs ys : List ℕ) → IsPlain xs → IsPlain ys → IsPlain (xs ++ ys)
plain-join [] ys p q = q
plain-join (x ∷ xs) ys p q = (p.0, p.1, plain-join xs ys p.2 q)

pub plain-take : (k : ℕ) (xs : List ℕ) → IsPlain xs → IsPlain (take k xs)
plain-take zero [] p = tt
plain-take zero (x ∷ xs) p = tt
plain-take (suc k) [] p = tt
plain-take (suc k) (x ∷ xs) p = (p.0, p.1, plain-take k xs p.2)

-- a field without a comma or a quote, up to a comma
pub field-first : (xs rest : List ℕ) → has_byte 44 xs ≡ false → has_byte 34 xs ≡ false → fields_of 44 (xs ++ 44 ∷ rest) ≡ with_field xs (fields_of 44 rest)
field-first xs rest p q = first Comma xs rest p (unquoted xs q)

-- after a quote, up to the next one
quoted : (xs rest : List ℕ) → has_byte 34 xs ≡ false → fields_from 44 Quoted (xs ++ 34 ∷ 44 ∷ rest) ≡ with_field xs (fields_of 44 rest)
quoted [] rest p = refl
quoted (x ∷ xs) rest p = elim (eqb_tells x 34) [
  | inl is ↦ absurd (let no : true ≡ false = rw is.0 at p in cc)
  | inr off ↦ rw off.0 (ap (onto_field x) (quoted xs rest (rw off.0 at p)) ∙ onto-with x xs (fields_of 44 rest))
]

-- plain bytes have no comma and no quote
plain-comma : (xs : List ℕ) → IsPlain xs → has_byte 44 xs ≡ false
plain-comma [] p = refl
plain-comma (x ∷ xs) p = elim (eqb_tells x 44) [
  | inl is ↦ absurd (p.0 is.1)
  | inr off ↦ rw off.0 (plain-comma xs p.2)
]

plain-quote : (xs : List ℕ) → IsPlain xs → has_byte 34 xs ≡ false
plain-quote [] p = refl
plain-quote (x ∷ xs) p = elim (eqb_tells x 34) [
  | inl is ↦ absurd (p.1 is.1)
  | inr off ↦ rw off.0 (plain-quote xs p.2)
]

pub plain-first : (xs rest : List ℕ) → IsPlain xs → fields_of 44 (xs ++ 44 ∷ rest) ≡ with_field xs (fields_of 44 rest)
plain-first xs rest p = field-first xs rest (plain-comma xs p) (plain-quote xs p)

pub plain-last : (xs : List ℕ) → IsPlain xs → fields_of 44 xs ≡ Some (xs ∷ [])
plain-last xs p = last 44 xs (plain-comma xs p) (unquoted xs (plain-quote xs p))

-- ## Devices

device-by : (device rest : List ℕ) (quotes : Bool) → (quotes ≡ false → has_byte 44 device ≡ false) → has_byte 34 device ≡ false
    → fields_of 44 ((if quotes then 34 ∷ (device ++ 34 ∷ []) else device) ++ 44 ∷ rest) ≡ with_field device (fields_of 44 rest)
device-by device rest true is free =
    ap (λ (xs : List ℕ). fields_from 44 Quoted xs) (append_assoc device (34 ∷ []) (44 ∷ rest)) ∙ quoted device rest free
device-by device rest false is free = field-first device rest (is refl) free

first-not : (a b c d : Bool) → (not a && b && c && d) ≡ true → a ≡ false
first-not true b c d e = absurd (cc)
first-not false b c d e = refl

pub device-first : (device rest : List ℕ) → can_be_written device ≡ true → fields_of 44 (device_field device ++ 44 ∷ rest) ≡ with_field device (fields_of 44 rest)
device-first device rest can =
    device-by device rest (has_byte 44 device || is_comment device) (λ off. (or_parts (has_byte 44 device) (is_comment device) off).0)
    (first-not (has_byte 34 device) (not (has_byte 10 device)) (not (has_byte 13 device)) (nat_le (length device) LONGEST_DEVICE) can)

-- ## Numbers

pub number-plain : (n : ℕ) → n < 2 ^ 32 → IsPlain (decimal n)
number-plain n lt =
    decimal_by_steps (λ (n : ℕ) (ds : List ℕ). IsPlain ds) (λ n lt. (λ e. omega (arith, e), λ e. omega (arith, e), tt))
    (λ n ds le h. plain-join ds ((48 + n % 10) ∷ []) h (λ e. omega (arith, e), λ e. omega (arith, e), tt)) n (omega (arith, lt))

-- ## Times

no-comma : (n unit : ℕ) → digit n unit ≢ 44
no-comma n unit = λ e. omega (arith, e)

no-quote : (n unit : ℕ) → digit n unit ≢ 34
no-quote n unit = λ e. omega (arith, e)

pub nine-plain : (n : ℕ) → IsPlain (nine_digits n)
nine-plain n = (no-comma n 100000000, no-quote n 100000000, (no-comma n 10000000, no-quote n 10000000, (no-comma n 1000000, no-quote n 1000000, (no-comma n 100000, no-quote n 100000, (no-comma n 10000, no-quote n 10000, (no-comma n 1000, no-quote n 1000, (no-comma n 100, no-quote n 100, (no-comma n 10, no-quote n 10, (no-comma n 1, no-quote n 1, tt)))))))))

pub head-plain : (y m d s : ℕ) → IsPlain (time_head y m d s)
head-plain y m d s = (no-comma y 1000, no-quote y 1000, (no-comma y 100, no-quote y 100, (no-comma y 10, no-quote y 10, (no-comma y 1, no-quote y 1, ((λ e. omega (arith, e)), (λ e. omega (arith, e)), (no-comma m 10, no-quote m 10, (no-comma m 1, no-quote m 1, ((λ e. omega (arith, e)), (λ e. omega (arith, e)), (no-comma d 10, no-quote d 10, (no-comma d 1, no-quote d 1, ((λ e. omega (arith, e)), (λ e. omega (arith, e)), (no-comma (s / 3600) 10, no-quote (s / 3600) 10, (no-comma (s / 3600) 1, no-quote (s / 3600) 1, ((λ e. omega (arith, e)), (λ e. omega (arith, e)), (no-comma (s / 60 % 60) 10, no-quote (s / 60 % 60) 10, (no-comma (s / 60 % 60) 1, no-quote (s / 60 % 60) 1, ((λ e. omega (arith, e)), (λ e. omega (arith, e)), (no-comma (s % 60) 10, no-quote (s % 60) 10, (no-comma (s % 60) 1, no-quote (s % 60) 1, ((λ e. omega (arith, e)), (λ e. omega (arith, e)), tt))))))))))))))))))))

-- ## The line

-- its fields
pub four-fields : (device time : List ℕ) (code parameter : ℕ) → can_be_written device ≡ true → IsPlain time → code < 2 ^ 32 → parameter < 2 ^ 32
    → fields_of 44 (event_row_text device time code parameter) ≡ Some (device ∷ time ∷ decimal code ∷ decimal parameter ∷ [])
four-fields device time code parameter can plain few low =
    device-first device (time ++ 44 ∷ (decimal code ++ 44 ∷ decimal parameter)) can
    ∙ ap (with_field device) (plain-first time (decimal code ++ 44 ∷ decimal parameter) plain
    ∙ ap (with_field time) (plain-first (decimal code) (decimal parameter) (number-plain code few)
    ∙ ap (with_field (decimal code)) (plain-last (decimal parameter) (number-plain parameter low))))

-- a text that begins with it has the usual columns
pub begins-usual : BeginsAsUsual
unfolding separator_of
begins-usual device time code parameter can plain few low =
    let third : has_third 44 (event_row_text device time code parameter) ≡ true =
    ap (λ (fields : Option (List (List ℕ))). is_field (field_in fields 2)) (four-fields device time code parameter can plain few low) in
    rw third refl

pub read-again : (device time : List ℕ) (moment : Moment) (code parameter : ℕ) (asked : Option (List ℕ))
    → can_be_written device ≡ true → IsPlain time → moment_of time ≡ Some moment → code < 2 ^ 32 → parameter < 2 ^ 32
    → row_of usual_columns asked (event_row_text device time code parameter)
    ≡ Some (record { ours = is_asked asked device; moment = moment; code = code; parameter = parameter })
unfolding row_of
read-again device time moment code parameter asked can plain told few low =
    let line = four-fields device time code parameter can plain few low in
    ap (row_in usual_columns asked) line
    ∙ (ap (λ (m : Option Moment). row_said (is_asked asked device) m (number_of (decimal code)) (number_of (decimal parameter))) told
    ∙ ap₂ (λ (a b : Option ℕ). row_said (is_asked asked device) (Some moment) a b) (number-read code few) (number-read parameter low))
