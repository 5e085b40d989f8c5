-- Readers of logs take the rows that are written.
use Rattle.std.proofs.Common.{◌≡◌, ℕ, ◌<◌, ◌≤◌, ◌^◌, ◌&&◌, ◌||◌, Bool, true, false, List, [], ◌∷◌, ◌++◌, length, drop, refl, arith, inl, inr, Option, Some, None, if◌then◌else◌, length-append, length-drop}
use Rattle.std.proofs.lemmas.Bool.{and_parts, cases_Bool, leb-true, or_from, or_parts}
use Rattle.std.proofs.lemmas.Bool.Decides.{eqb_tells}
use Rattle.std.specs.Fmt.{decimal}
use Rattle.std.specs.Prelude.{◌==◌, nat_le, not}
use Rattle.tsb_lines.specs.Lines.{is_blank, is_comment, is_skipped}
use Rattle.tsb_lines.proofs.DigitLemmas.{number-short}
use Rattle.tsb_event_text.specs.declared.times.Moment.{Moment}
use Rattle.tsb_event_text.specs.declared.events.TheConstants.{LONGEST_DEVICE}
use Rattle.tsb_event_text.specs.Times.{has_marks, moment_at, moment_of, nano_of}
use Rattle.tsb_event_text.specs.Events.{AreReadAgain, can_be_written, device_field, event_row_text, has_byte}
use Rattle.tsb_event_text.proofs.EventLemmas.{read-again}

-- ## No row is skipped

not-blank : (xs rest : List ℕ) → is_blank (xs ++ 44 ∷ rest) ≡ false
not-blank [] rest = refl
not-blank (x ∷ xs) rest = elim (eqb_tells x 32) [ inl is ↦ rw is.0 (not-blank xs rest) | inr off ↦ rw off.0 refl ]

no-comment : (device rest : List ℕ) (quotes : Bool) → (quotes ≡ false → is_comment device ≡ false)
    → is_comment ((if quotes then 34 ∷ (device ++ 34 ∷ []) else device) ++ 44 ∷ rest) ≡ false
no-comment device rest true is = refl
no-comment [] rest false is = refl
no-comment (b ∷ bs) rest false is = is refl

not-skipped : (device rest : List ℕ) → is_skipped (device_field device ++ 44 ∷ rest) ≡ false
not-skipped device rest =
    or_from (is_blank (device_field device ++ 44 ∷ rest)) (is_comment (device_field device ++ 44 ∷ rest)) (not-blank (device_field device) rest)
    (no-comment device rest (has_byte 44 device || is_comment device) (λ off. (or_parts (has_byte 44 device) (is_comment device) off).1))

-- ## None is too long

device-short : (device : List ℕ) (quotes : Bool) → length device ≤ 900 → length (if quotes then 34 ∷ (device ++ 34 ∷ []) else device) ≤ 902
device-short device true few = omega (arith, few, length-append device (34 ∷ []))
device-short device false few = omega (arith, few)

nano-short : (text : List ℕ) (n : ℕ) → nano_of text ≡ Some n → length text ≤ 10
nano-short [] n e = omega arith
nano-short (b ∷ digits) n e = elim (cases_Bool (b == 46 && nat_le 1 (length digits) && nat_le (length digits) 9)) [
  | inl is ↦
      let few : length digits ≤ 9 = leb-true (length digits) 9 (and_parts (b == 46 && nat_le 1 (length digits)) (nat_le (length digits) 9) is).1 in
      omega (arith, few)
  | inr off ↦ absurd (let no : None ≡ Some n = rw off at e in cc)
]

nano-there : (day second nano : Option ℕ) (moment : Moment) → moment_at day second nano ≡ Some moment → (n : ℕ) × (nano ≡ Some n)
nano-there day second (Some n) moment e = (n, refl)
nano-there (Some d) (Some s) None moment e = absurd (cc)
nano-there (Some d) None None moment e = absurd (cc)
nano-there None second None moment e = absurd (cc)

-- a time has at most nine digits of a second
time-short : (time : List ℕ) (moment : Moment) → moment_of time ≡ Some moment → length time ≤ 29
unfolding moment_of
time-short time moment e = elim (cases_Bool (nat_le 19 (length time) && has_marks time)) [
  | inl is ↦
      let (n, there) = nano-there _ _ (nano_of (drop 19 time)) moment (rw is at e) in
      omega (arith, nano-short (drop 19 time) n there, length-drop 19 time)
  | inr off ↦ absurd (let no : None ≡ Some moment = rw off at e in cc)
]

row-short : (device time : List ℕ) (moment : Moment) (code parameter : ℕ) → can_be_written device ≡ true → moment_of time ≡ Some moment
    → code < 2 ^ 32 → parameter < 2 ^ 32 → length (event_row_text device time code parameter) ≤ 1000
row-short device time moment code parameter can told few low =
    let some : length device ≤ 900 = leb-true (length device) LONGEST_DEVICE
    (and_parts (not (has_byte 34 device) && not (has_byte 10 device) && not (has_byte 13 device)) (nat_le (length device) LONGEST_DEVICE) can).1 in
    omega (
      arith,
      device-short device (has_byte 44 device || is_comment device) some,
      time-short time moment told,
      number-short code few,
      number-short parameter low,
      length-append (device_field device) (44 ∷ (time ++ 44 ∷ (decimal code ++ 44 ∷ decimal parameter))),
      length-append time (44 ∷ (decimal code ++ 44 ∷ decimal parameter)),
      length-append (decimal code) (44 ∷ decimal parameter),
    )

-- ## The law

pub read-and-taken : AreReadAgain
read-and-taken device time moment code parameter asked can plain told few low = (
  read-again device time moment code parameter asked can plain told few low,
  (
    not-skipped device (time ++ 44 ∷ (decimal code ++ 44 ∷ decimal parameter)),
    row-short device time moment code parameter can told few low,
  ),
)
