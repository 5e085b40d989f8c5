-- The saved commands are read as they were meant.
use Rattle.std.proofs.Common.{◌≡◌, ◌∙◌, ℕ, suc, ◌+◌, ◌-◌, ◌%◌, ◌/◌, ◌^◌, ◌<◌, ◌≤◌, ◌==◌, Bool, true, false, not, eqb, leb, List, [], ◌∷◌, ◌++◌, if◌then◌else◌, codes, decimal, length, length-append, get_or, map, append_assoc, append-nil, Option, Some, None, option_map, refl, sym, ap, arith, rules, inl, inr}
use Rattle.std.specs.List.{list_all}
use Rattle.std.proofs.lemmas.List.{map-append}
use Rattle.std.proofs.lemmas.Bool.{and_parts, le-leb, le-ltb, ne_eqb, not-true, true≢false}
use Rattle.std.proofs.lemmas.Bool.Decides.{eqb_tells}
use Rattle.std.proofs.lemmas.Fmt.{decimal_by_steps, first_decimal}
use Rattle.tsb_lines.specs.Laws.{IsWord}
use Rattle.tsb_lines.specs.Lines.{HasNoFeed, is_skipped, lines_of, without_return}
use Rattle.tsb_lines.specs.Words.{number_of, words_of}
use Rattle.tsb_lines.proofs.DigitLemmas.{number-read, number-short}
use Rattle.tsb_lines.proofs.LawLemmas.{at-end, at-space}
use Rattle.tsb_lines.proofs.LineLemmas.{lines-joined}
use Rattle.tsb_dialog.specs.Said.{with_feed}
use Rattle.tsb_types.specs.declared.limits.TheConstants.{OVERLAPS}
use Rattle.tsb_text.specs.tsb_step.tsb_plan.Names.{name_of, object_named}
use Rattle.tsb_text.specs.tsb_step.tsb_plan.Versions.{has_object}
use Rattle.tsb_text.specs.tsb_step.tsb_plan.declared.object.Object.{Object}
use Rattle.tsb_text.specs.tsb_step.tsb_plan.declared.object.ObjectId.{ObjectId}
use Rattle.tsb_text.specs.tsb_step.tsb_plan.declared.version.TheConstants.Version.{NEWEST}
use Rattle.tsb_step.proofs.tsb_plan.NameLemmas.{named_exact, short-name}
use Rattle.tsb_text.specs.tsb_types.declared.lamp.Lamp.{Lamp}
use Rattle.tsb_text.specs.tsb_types.declared.lamp.Lamp.TheVariants as lamps
use Rattle.tsb_text.specs.tsb_types.declared.lamp.SignalColor.{SignalColor}
use Rattle.tsb_text.specs.tsb_types.declared.lamp.SignalColor.TheVariants as signals
use Rattle.tsb_text.specs.tsb_types.declared.lamp.PedestrianColor.{PedestrianColor}
use Rattle.tsb_text.specs.tsb_types.declared.lamp.PedestrianColor.TheVariants as pedestrians
use Rattle.tsb_step.specs.declared.inputs.Input.{Input}
use Rattle.tsb_step.specs.declared.inputs.Input.TheVariants.{Tick, Pattern, Switch, Fault, Reset, Begin, Set, Verify, Commit, Abort, Clock, Omit}
use Rattle.tsb_command_text.specs.Commands.{command_in, command_of_one, command_of_two, command_of_three, command_of_five, preempt_of, set_of}
use Rattle.tsb_command_text.specs.Lamps.{from_one_to, head_number, lamp_of, station_of, with_both}
use Rattle.tsb_command_text.specs.Readings.{lines_in, lines_of_two, reading, reading_in}
use Rattle.tsb_command_text.specs.declared.command.Command.{Command}
use Rattle.tsb_command_text.specs.declared.command.Command.TheVariants as commands
use Rattle.tsb_command_text.specs.declared.command.Reading.{Reading}
use Rattle.tsb_command_text.specs.declared.command.Reading.TheVariants.{Do}
use Rattle.tsb_text.specs.declared.kept.Other.{Other}
use Rattle.tsb_live_text.specs.saved.Laws.{AreSpelled, CommandsAreRead, IsLamp, IsSpelled, IsUpTo, command_of, commands_at, steps}
use Rattle.tsb_live_text.specs.saved.Saved.{commands_from, input_line, input_text, lamp_line, number_word, pedestrian_word, signal_word, step_text, switch_word}
use Rattle.tsb_live_text.specs.saved.Says.{are_plain, is_plain}
use Rattle.tsb_live_text.proofs.saved.PlainLemmas.{Plain, date-plain, name-plain, number-plain, plain-is, plain-join, time-plain}
use Rattle.tsb_types.specs.declared.clock_time.TheConstants.{DAY, FIRST_MOMENT, END_OF_DAYS}
use Rattle.tsb_command_text.specs.clock.ClockText.{date_of, date_text, time_text}
use Rattle.tsb_types.specs.declared.calendar.ClockDate.{ClockDate}
use Rattle.tsb_command_text.proofs.clock.ReadLemmas.{clock-read}
use Rattle.tsb_lines.specs.Digits.{digit}

-- ## Words

word-more : (w : List ℕ) (b : ℕ) → IsWord w → (b ≡ 32 → ⊥) → IsWord (w ++ b ∷ [])
word-more [] b is other = absurd is
word-more (a ∷ []) b is other = (is, other)
word-more (a ∷ c ∷ w) b is other = (is.0, word-more (c ∷ w) b is.1 other)

word-onto : (b : ℕ) (w : List ℕ) → (b ≡ 32 → ⊥) → IsWord w → IsWord (b ∷ w)
word-onto b [] other is = absurd is
word-onto b (c ∷ w) other is = (other, is)

number-word : (n : ℕ) → n < 2 ^ 64 → IsWord (decimal n)
number-word = decimal_by_steps (λ (n : ℕ) (ds : List ℕ). IsWord ds) (λ n lt e. omega (arith, e)) (λ n ds le h. word-more ds (48 + n % 10) h (λ e. omega (arith, e)))

-- numbers that are not equal by a test
pub apart : (a b : ℕ) → eqb a b ≡ false → a ≡ b → ⊥
apart a b differ same = elim (eqb_tells a b) [ inl z ↦ true≢false (sym z.0 ∙ differ) | inr off ↦ off.1 same ]

word-of : (bytes : List ℕ) → list_all (λ b. not (b == 32)) bytes ≡ true → 1 ≤ length bytes → IsWord bytes
word-of [] free some = absurd (omega (arith, some))
word-of (b ∷ []) free some = apart b 32 (not-true (eqb b 32) (and_parts (not (eqb b 32)) true free).0)
word-of (b ∷ c ∷ bs) free some =
    let both = and_parts (not (eqb b 32)) (list_all (λ b. not (b == 32)) (c ∷ bs)) free in
    (apart b 32 (not-true (eqb b 32) both.0), word-of (c ∷ bs) both.1 (omega arith))

name-free : (o : Object) → list_all (λ b. not (b == 32)) (name_of o) ≡ true
name-free o = search rules

name-some : (o : Object) → 1 ≤ length (name_of o)
name-some o = search rules

name-word : (o : Object) → IsWord (name_of o)
name-word o = word-of (name_of o) (name-free o) (name-some o)

named-newest : (o : Object) → has_object NEWEST o ≡ true
named-newest o = search rules

name-found : (o : Object) → object_named NEWEST (name_of o) ≡ Some o
name-found o = (named_exact NEWEST (name_of o) o).1 (record { has = named-newest o; name = refl })

-- ## Numbers

up-to-read : (most n : ℕ) → IsUpTo most n → from_one_to most (Some n) ≡ Some n
up-to-read most n h =
    let low : leb 1 n ≡ true = le-leb 1 n h.0 in
    let high : leb n most ≡ true = le-leb n most h.1 in
    rw (low, high) refl

station-read : (n : ℕ) → IsUpTo 4 n → station_of (decimal n) ≡ Some n
station-read n h = ap (from_one_to 4) (number-read n (omega (arith, h.1))) ∙ up-to-read 4 n h

head-first : (ds : List ℕ) → 48 < get_or ds 0 0 → head_number ds ≡ number_of ds
head-first [] lt = absurd (omega (arith, lt))
head-first (d ∷ ds) lt = let other : eqb d 48 ≡ false = ne_eqb d 48 (λ e. omega (arith, e, lt)) in rw other refl

head-read : (most n : ℕ) → IsUpTo most n → most ≤ 16 → from_one_to most (head_number (decimal n)) ≡ Some n
head-read most n h le =
    ap (from_one_to most) (head-first (decimal n) (first_decimal n (omega (arith, h.0)) (omega (arith, h.1, le))) ∙ number-read n (omega (arith, h.1, le))) ∙ up-to-read most n h

-- ## Lines

-- a line of these words, which are a command
line-read : (line : List ℕ) (ws : List (List ℕ)) (c : Command) → length line ≤ 200 → is_skipped line ≡ false → words_of line ≡ ws → lines_in ws ≡ None → command_in ws ≡ Some c → reading line ≡ Do c
line-read line ws c short heeded words none is =
    rw (le-ltb 200 (length line) short, heeded) (ap (λ (v : List (List ℕ)). reading_in (lines_in v) (command_in v)) words ∙ (λ j. reading_in (none j) (is j)))

plain-feedless : (bytes : List ℕ) → are_plain bytes ≡ true → HasNoFeed bytes
plain-feedless [] p = tt
plain-feedless (b ∷ bs) p =
    let both = and_parts (is_plain b) (are_plain bs) p in
    let is : Plain b = plain-is b both.0 in
    ((λ e. omega (arith, e, is.low)), plain-feedless bs both.1)

plain-no-return : (bytes : List ℕ) → are_plain bytes ≡ true → without_return bytes ≡ bytes
plain-no-return [] p = refl
plain-no-return (b ∷ []) p =
    let is : Plain b = plain-is b (and_parts (is_plain b) true p).0 in
    let other : eqb b 13 ≡ false = ne_eqb b 13 (λ e. omega (arith, e, is.low)) in
    rw other refl
plain-no-return (b ∷ c ∷ bs) p = ap (λ (v : List ℕ). b ∷ v) (plain-no-return (c ∷ bs) (and_parts (is_plain b) (are_plain (c ∷ bs)) p).1)

-- one line, and what follows it
one-line : (line rest : List ℕ) (c : Command) → are_plain line ≡ true → reading line ≡ Do c → map reading (lines_of (with_feed line ++ rest)) ≡ Do c ∷ map reading (lines_of rest)
one-line line rest c p is =
    ap (λ (v : List ℕ). map reading (lines_of v)) (append_assoc line (10 ∷ []) rest)
    ∙ ap (map reading) (lines-joined line rest (plain-feedless line p) ∙ ap (λ (v : List ℕ). v ∷ lines_of rest) (plain-no-return line p))
    ∙ ap (λ (r : Reading). r ∷ map reading (lines_of rest)) is

-- ## Commands of two words

number-line : (word : List ℕ) (n : ℕ) (c : Command) → length word ≤ 7 → n < 2 ^ 32 → IsWord word → is_skipped (word ++ 32 ∷ decimal n) ≡ false → lines_of_two word (decimal n) ≡ None → command_of_two word (decimal n) ≡ Some c
    → reading (word ++ 32 ∷ decimal n) ≡ Do c
number-line word n c short lt is heeded none found =
    let digits : length (decimal n) ≤ 10 = number-short n lt in
    let all : length (word ++ 32 ∷ decimal n) ≡ length word + suc (length (decimal n)) = length-append word (32 ∷ decimal n) in
    line-read (word ++ 32 ∷ decimal n) (word ∷ decimal n ∷ []) c (omega (arith, digits, all, short)) heeded
    (at-space word (decimal n) is ∙ ap (λ (ws : List (List ℕ)). word ∷ ws) (at-end (decimal n) (number-word n (omega (arith, lt))))) none found

step-read : (n : ℕ) → n < 2 ^ 32 → reading (codes "step " ++ decimal n) ≡ Do (commands.Step n)
unfolding command_of_two lines_of_two
step-read n lt =
    number-line (codes "step") n (commands.Step n) (omega arith) lt (word-of (codes "step") refl (omega arith)) refl refl (ap (option_map commands.Step) (number-read n lt))

pattern-read : (n : ℕ) → n < 2 ^ 32 → reading (codes "pattern " ++ decimal n) ≡ Do (commands.Pattern n)
unfolding command_of_two lines_of_two
pattern-read n lt =
    number-line (codes "pattern") n (commands.Pattern n) (omega arith) lt (word-of (codes "pattern") refl (omega arith)) refl refl (ap (option_map commands.Pattern) (number-read n lt))

omit-read : (n : ℕ) → n < 2 ^ 32 → reading (codes "omit " ++ decimal n) ≡ Do (commands.Omit n)
unfolding command_of_two lines_of_two
omit-read n lt =
    number-line (codes "omit") n (commands.Omit n) (omega arith) lt (word-of (codes "omit") refl (omega arith)) refl refl (ap (option_map commands.Omit) (number-read n lt))

begin-read : (n : ℕ) → IsUpTo 4 n → reading (codes "begin " ++ decimal n) ≡ Do (commands.Begin n)
unfolding command_of_two lines_of_two
begin-read n h =
    number-line (codes "begin") n (commands.Begin n) (omega arith) (omega (arith, h.1)) (word-of (codes "begin") refl (omega arith)) refl refl (ap (option_map commands.Begin) (station-read n h))

verify-read : (n : ℕ) → IsUpTo 4 n → reading (codes "verify " ++ decimal n) ≡ Do (commands.Verify n)
unfolding command_of_two lines_of_two
verify-read n h =
    number-line (codes "verify") n (commands.Verify n) (omega arith) (omega (arith, h.1)) (word-of (codes "verify") refl (omega arith)) refl refl (ap (option_map commands.Verify) (station-read n h))

commit-read : (n : ℕ) → IsUpTo 4 n → reading (codes "commit " ++ decimal n) ≡ Do (commands.Commit n)
unfolding command_of_two lines_of_two
commit-read n h =
    number-line (codes "commit") n (commands.Commit n) (omega arith) (omega (arith, h.1)) (word-of (codes "commit") refl (omega arith)) refl refl (ap (option_map commands.Commit) (station-read n h))

abort-read : (n : ℕ) → IsUpTo 4 n → reading (codes "abort " ++ decimal n) ≡ Do (commands.Abort n)
unfolding command_of_two lines_of_two
abort-read n h =
    number-line (codes "abort") n (commands.Abort n) (omega arith) (omega (arith, h.1)) (word-of (codes "abort") refl (omega arith)) refl refl (ap (option_map commands.Abort) (station-read n h))

-- ## Of three

-- a word, a word that ends in a number, and a word
three-line : (first second third : List ℕ) (c : Command) → length first ≤ 7 → length second ≤ 11 → length third ≤ 10 → IsWord first → IsWord second → IsWord third
    → is_skipped (first ++ 32 ∷ (second ++ 32 ∷ third)) ≡ false → command_of_three first second third ≡ Some c → reading (first ++ 32 ∷ (second ++ 32 ∷ third)) ≡ Do c
three-line first second third c few more end is and_is last_is heeded found =
    let tail : length (second ++ 32 ∷ third) ≡ length second + suc (length third) = length-append second (32 ∷ third) in
    let all : length (first ++ 32 ∷ (second ++ 32 ∷ third)) ≡ length first + suc (length (second ++ 32 ∷ third)) = length-append first (32 ∷ (second ++ 32 ∷ third)) in
    line-read (first ++ 32 ∷ (second ++ 32 ∷ third)) (first ∷ second ∷ third ∷ []) c (omega (arith, tail, all, few, more, end)) heeded
    (at-space first (second ++ 32 ∷ third) is
    ∙ ap (λ (ws : List (List ℕ)). first ∷ ws) (at-space second third and_is ∙ ap (λ (ws : List (List ℕ)). second ∷ ws) (at-end third last_is))) refl found

switch-read : (n : ℕ) (on : Bool) → n < 2 ^ 32 → reading (codes "preempt " ++ (decimal n ++ switch_word on)) ≡ Do (commands.Preempt n on)
unfolding command_of_three
switch-read n true lt =
    three-line (codes "preempt") (decimal n) (codes "on") (commands.Preempt n true) (omega arith) (omega (arith, number-short n lt)) (omega arith)
    (word-of (codes "preempt") refl (omega arith)) (number-word n (omega (arith, lt))) (word-of (codes "on") refl (omega arith)) refl
    (ap (λ (o : Option ℕ). preempt_of o (Some true)) (number-read n lt))
switch-read n false lt =
    three-line (codes "preempt") (decimal n) (codes "off") (commands.Preempt n false) (omega arith) (omega (arith, number-short n lt)) (omega arith)
    (word-of (codes "preempt") refl (omega arith)) (number-word n (omega (arith, lt))) (word-of (codes "off") refl (omega arith)) refl
    (ap (λ (o : Option ℕ). preempt_of o (Some false)) (number-read n lt))

-- the head of this letter and number, with this aspect
head-line : (letter n aspect : ℕ) (lamp : Lamp) → n < 2 ^ 32 → (letter ≡ 32 → ⊥) → (aspect ≡ 32 → ⊥) → lamp_of (letter ∷ decimal n) (aspect ∷ []) ≡ Some lamp
    → reading (codes "fault" ++ 32 ∷ ((letter ∷ decimal n) ++ 32 ∷ aspect ∷ [])) ≡ Do (commands.Fault (Some lamp))
unfolding command_of_three
head-line letter n aspect lamp lt is last_is found =
    three-line (codes "fault") (letter ∷ decimal n) (aspect ∷ []) (commands.Fault (Some lamp)) (omega arith) (omega (arith, number-short n lt)) (omega arith)
    (word-of (codes "fault") refl (omega arith)) (word-onto letter (decimal n) is (number-word n (omega (arith, lt)))) last_is refl
    (ap (option_map (λ l. commands.Fault (Some l))) found)

phase-lamp : (p : ℕ) (color : SignalColor) → IsUpTo 16 p → reading (codes "fault P" ++ (decimal p ++ signal_word color)) ≡ Do (commands.Fault (Some (lamps.Phase p color)))
phase-lamp p signals.Green h = head-line 80 p 71 (lamps.Phase p signals.Green) (omega (arith, h.1)) (λ e. omega (arith, e)) (λ e. omega (arith, e))
    (ap (λ (o : Option ℕ). with_both lamps.Phase o (Some signals.Green)) (head-read 16 p h (omega arith)))
phase-lamp p signals.Yellow h = head-line 80 p 89 (lamps.Phase p signals.Yellow) (omega (arith, h.1)) (λ e. omega (arith, e)) (λ e. omega (arith, e))
    (ap (λ (o : Option ℕ). with_both lamps.Phase o (Some signals.Yellow)) (head-read 16 p h (omega arith)))
phase-lamp p signals.Red h = head-line 80 p 82 (lamps.Phase p signals.Red) (omega (arith, h.1)) (λ e. omega (arith, e)) (λ e. omega (arith, e))
    (ap (λ (o : Option ℕ). with_both lamps.Phase o (Some signals.Red)) (head-read 16 p h (omega arith)))

overlap-lamp : (p : ℕ) (color : SignalColor) → IsUpTo OVERLAPS p → reading (codes "fault O" ++ (decimal p ++ signal_word color)) ≡ Do (commands.Fault (Some (lamps.Overlap p color)))
overlap-lamp p signals.Green h = head-line 79 p 71 (lamps.Overlap p signals.Green) (omega (arith, h.1)) (λ e. omega (arith, e)) (λ e. omega (arith, e))
    (ap (λ (o : Option ℕ). with_both lamps.Overlap o (Some signals.Green)) (head-read OVERLAPS p h (omega arith)))
overlap-lamp p signals.Yellow h = head-line 79 p 89 (lamps.Overlap p signals.Yellow) (omega (arith, h.1)) (λ e. omega (arith, e)) (λ e. omega (arith, e))
    (ap (λ (o : Option ℕ). with_both lamps.Overlap o (Some signals.Yellow)) (head-read OVERLAPS p h (omega arith)))
overlap-lamp p signals.Red h = head-line 79 p 82 (lamps.Overlap p signals.Red) (omega (arith, h.1)) (λ e. omega (arith, e)) (λ e. omega (arith, e))
    (ap (λ (o : Option ℕ). with_both lamps.Overlap o (Some signals.Red)) (head-read OVERLAPS p h (omega arith)))

arrow-lamp : (p : ℕ) → IsUpTo OVERLAPS p → reading (codes "fault O" ++ (decimal p ++ codes " P")) ≡ Do (commands.Fault (Some (lamps.Arrow p)))
arrow-lamp p h = head-line 79 p 80 (lamps.Arrow p) (omega (arith, h.1)) (λ e. omega (arith, e)) (λ e. omega (arith, e)) (ap (option_map lamps.Arrow) (head-read OVERLAPS p h (omega arith)))

pedestrian-lamp : (p : ℕ) (color : PedestrianColor) → IsUpTo 16 p → reading (codes "fault W" ++ (decimal p ++ pedestrian_word color)) ≡ Do (commands.Fault (Some (lamps.Pedestrian p color)))
pedestrian-lamp p pedestrians.Walk h = head-line 87 p 87 (lamps.Pedestrian p pedestrians.Walk) (omega (arith, h.1)) (λ e. omega (arith, e)) (λ e. omega (arith, e))
    (ap (λ (o : Option ℕ). with_both lamps.Pedestrian o (Some pedestrians.Walk)) (head-read 16 p h (omega arith)))
pedestrian-lamp p pedestrians.Clearance h = head-line 87 p 67 (lamps.Pedestrian p pedestrians.Clearance) (omega (arith, h.1)) (λ e. omega (arith, e)) (λ e. omega (arith, e))
    (ap (λ (o : Option ℕ). with_both lamps.Pedestrian o (Some pedestrians.Clearance)) (head-read 16 p h (omega arith)))
pedestrian-lamp p pedestrians.DontWalk h = head-line 87 p 68 (lamps.Pedestrian p pedestrians.DontWalk) (omega (arith, h.1)) (λ e. omega (arith, e)) (λ e. omega (arith, e))
    (ap (λ (o : Option ℕ). with_both lamps.Pedestrian o (Some pedestrians.DontWalk)) (head-read 16 p h (omega arith)))

lamp-read : (lamp : Lamp) → IsLamp lamp → reading (lamp_line lamp) ≡ Do (commands.Fault (Some lamp))
lamp-read (lamps.Phase p color) h = phase-lamp p color h
lamp-read (lamps.Overlap p color) h = overlap-lamp p color h
lamp-read (lamps.Arrow p) h = arrow-lamp p h
lamp-read (lamps.Pedestrian p color) h = pedestrian-lamp p color h

-- a date and a time of day are words
not-space : (t unit : ℕ) → digit t unit ≡ 32 → ⊥
not-space t unit e = omega (arith, e)

date-word : (d : ClockDate) → IsWord (date_text d)
date-word d =
    (not-space d.year 1000, (not-space d.year 100, (not-space d.year 10, (not-space d.year 1, ((λ e. omega (arith, e)), (not-space d.month 10, (not-space d.month 1, ((λ e. omega (arith, e)), (not-space d.day 10, not-space d.day 1)))))))))

time-word : (t : ℕ) → IsWord (time_text t)
time-word t =
    (not-space (t / 36000) 10, (not-space (t / 36000) 1, ((λ e. omega (arith, e)), (not-space (t / 600 % 60) 10, (not-space (t / 600 % 60) 1, ((λ e. omega (arith, e)), (not-space (t / 10 % 60) 10, (not-space (t / 10 % 60) 1, ((λ e. omega (arith, e)), not-space (t % 10) 1)))))))))

clock-line : (time : ℕ) → FIRST_MOMENT ≤ time → time < END_OF_DAYS → reading (input_line (Clock time)) ≡ Do (commands.Clock time)
unfolding command_of_three
clock-line time from before =
    three-line (codes "clock") (date_text (date_of time)) (time_text (time % DAY)) (commands.Clock time) (omega arith) (omega arith) (omega arith)
    (word-of (codes "clock") refl (omega arith)) (date-word (date_of time)) (time-word (time % DAY)) refl
    (ap (option_map commands.Clock) (clock-read time from before))

-- ## Of five

set-words : (s n i v : List ℕ) → IsWord s → IsWord n → IsWord i → IsWord v → words_of (codes "set" ++ 32 ∷ (s ++ 32 ∷ (n ++ 32 ∷ (i ++ 32 ∷ v)))) ≡ codes "set" ∷ s ∷ n ∷ i ∷ v ∷ []
set-words s n i v ps pn pi pv =
    at-space (codes "set") (s ++ 32 ∷ (n ++ 32 ∷ (i ++ 32 ∷ v))) (word-of (codes "set") refl (omega arith))
    ∙ ap (λ (ws : List (List ℕ)). codes "set" ∷ ws) (at-space s (n ++ 32 ∷ (i ++ 32 ∷ v)) ps
    ∙ ap (λ (ws : List (List ℕ)). s ∷ ws) (at-space n (i ++ 32 ∷ v) pn
    ∙ ap (λ (ws : List (List ℕ)). n ∷ ws) (at-space i v pi ∙ ap (λ (ws : List (List ℕ)). i ∷ ws) (at-end v pv))))

set-short : (s n i v : List ℕ) → length s ≤ 10 → length n ≤ 28 → length i ≤ 10 → length v ≤ 10 → length (codes "set" ++ 32 ∷ (s ++ 32 ∷ (n ++ 32 ∷ (i ++ 32 ∷ v)))) ≤ 200
set-short s n i v hs hn hi hv =
    omega (arith, hs, hn, hi, hv, length-append s (32 ∷ (n ++ 32 ∷ (i ++ 32 ∷ v))), length-append n (32 ∷ (i ++ 32 ∷ v)), length-append i (32 ∷ v))

set-read : (s : ℕ) (id : ObjectId) (v : ℕ) → IsUpTo 4 s → id.index < 2 ^ 32 → v < 2 ^ 32
    → reading (codes "set " ++ (decimal s ++ (32 ∷ (name_of id.object ++ (number_word id.index ++ number_word v))))) ≡ Do (commands.Set s id v)
unfolding command_of_five
set-read s id v h index value =
    line-read (codes "set" ++ 32 ∷ (decimal s ++ 32 ∷ (name_of id.object ++ 32 ∷ (decimal id.index ++ 32 ∷ decimal v))))
    (codes "set" ∷ decimal s ∷ name_of id.object ∷ decimal id.index ∷ decimal v ∷ []) (commands.Set s id v)
    (set-short (decimal s) (name_of id.object) (decimal id.index) (decimal v) (number-short s (omega (arith, h.1))) (short-name id.object) (number-short id.index index) (number-short v value))
    refl
    (set-words (decimal s) (name_of id.object) (decimal id.index) (decimal v) (number-word s (omega (arith, h.1))) (name-word id.object) (number-word id.index (omega (arith, index))) (number-word v (omega (arith, value))))
    refl
    (λ j. set_of (station-read s h j) (name-found id.object j) (number-read id.index index j) (number-read v value j))

-- ## Which are plain

signal-plain : (color : SignalColor) → are_plain (signal_word color) ≡ true
signal-plain signals.Green = refl
signal-plain signals.Yellow = refl
signal-plain signals.Red = refl

aspect-plain : (color : PedestrianColor) → are_plain (pedestrian_word color) ≡ true
aspect-plain pedestrians.Walk = refl
aspect-plain pedestrians.Clearance = refl
aspect-plain pedestrians.DontWalk = refl

switch-plain : (on : Bool) → are_plain (switch_word on) ≡ true
switch-plain true = refl
switch-plain false = refl

-- a number between other bytes
between : (before : List ℕ) (n : ℕ) (behind : List ℕ) → are_plain before ≡ true → n < 2 ^ 32 → are_plain behind ≡ true → are_plain (before ++ (decimal n ++ behind)) ≡ true
between before n behind p lt q = plain-join before (decimal n ++ behind) p (plain-join (decimal n) behind (number-plain n (omega (arith, lt))) q)

behind : (before : List ℕ) (n : ℕ) → are_plain before ≡ true → n < 2 ^ 32 → are_plain (before ++ decimal n) ≡ true
behind before n p lt = plain-join before (decimal n) p (number-plain n (omega (arith, lt)))

lamp-plain : (lamp : Lamp) → IsLamp lamp → are_plain (lamp_line lamp) ≡ true
lamp-plain (lamps.Phase p color) h = between (codes "fault P") p (signal_word color) refl (omega (arith, h.1)) (signal-plain color)
lamp-plain (lamps.Overlap p color) h = between (codes "fault O") p (signal_word color) refl (omega (arith, h.1)) (signal-plain color)
lamp-plain (lamps.Arrow p) h = between (codes "fault O") p (codes " P") refl (omega (arith, h.1)) refl
lamp-plain (lamps.Pedestrian p color) h = between (codes "fault W") p (pedestrian_word color) refl (omega (arith, h.1)) (aspect-plain color)

set-plain : (s : ℕ) (id : ObjectId) (v : ℕ) → s < 2 ^ 32 → id.index < 2 ^ 32 → v < 2 ^ 32 → are_plain (input_line (Set s id v)) ≡ true
set-plain s id v hs hi hv =
    between (codes "set ") s (32 ∷ (name_of id.object ++ (number_word id.index ++ number_word v))) refl hs
    (plain-join (name_of id.object) (number_word id.index ++ number_word v) (name-plain id.object)
    (plain-join (number_word id.index) (number_word v) (number-plain id.index (omega (arith, hi))) (number-plain v (omega (arith, hv)))))

pub input-plain : (i : Input) → IsSpelled i → are_plain (input_line i) ≡ true
input-plain (Tick row) h = refl
input-plain (Pattern n) h = behind (codes "pattern ") n refl h
input-plain (Switch n on) h = between (codes "preempt ") n (switch_word on) refl h (switch-plain on)
input-plain (Fault None) h = refl
input-plain (Fault (Some lamp)) h = lamp-plain lamp h
input-plain Reset h = refl
input-plain (Begin s) h = behind (codes "begin ") s refl (omega (arith, h.1))
input-plain (Set s id v) h = set-plain s id v (omega (arith, h.0.1)) h.1 h.2
input-plain (Verify s) h = behind (codes "verify ") s refl (omega (arith, h.1))
input-plain (Commit s) h = behind (codes "commit ") s refl (omega (arith, h.1))
input-plain (Abort s) h = behind (codes "abort ") s refl (omega (arith, h.1))
input-plain (Omit list) h = behind (codes "omit ") list refl h
input-plain (Clock time) h =
    plain-join (codes "clock ") (date_text (date_of time) ++ (32 ∷ time_text (time % DAY))) refl
    (plain-join (date_text (date_of time)) (32 ∷ time_text (time % DAY)) (date-plain (date_of time)) (time-plain (time % DAY)))

pub step-plain : (n : ℕ) → n < 2 ^ 32 → are_plain (codes "step " ++ decimal n) ≡ true
step-plain n lt = behind (codes "step ") n refl lt

-- ## All of them

input-read : (i : Input) (rest : List ℕ) → IsSpelled i → map reading (lines_of (input_text i ++ rest)) ≡ map Do (command_of i) ++ map reading (lines_of rest)
unfolding command_of_one command_of_two lines_of_two
input-read (Tick row) rest h = refl
input-read (Pattern n) rest h = one-line (input_line (Pattern n)) rest (commands.Pattern n) (input-plain (Pattern n) h) (pattern-read n h)
input-read (Switch n on) rest h = one-line (input_line (Switch n on)) rest (commands.Preempt n on) (input-plain (Switch n on) h) (switch-read n on h)
input-read (Fault None) rest h = one-line (codes "fault none") rest (commands.Fault None) refl refl
input-read (Fault (Some lamp)) rest h = one-line (lamp_line lamp) rest (commands.Fault (Some lamp)) (lamp-plain lamp h) (lamp-read lamp h)
input-read Reset rest h = one-line (codes "reset") rest commands.Reset refl refl
input-read (Begin s) rest h = one-line (input_line (Begin s)) rest (commands.Begin s) (input-plain (Begin s) h) (begin-read s h)
input-read (Set s id v) rest h = one-line (input_line (Set s id v)) rest (commands.Set s id v) (input-plain (Set s id v) h) (set-read s id v h.0 h.1 h.2)
input-read (Verify s) rest h = one-line (input_line (Verify s)) rest (commands.Verify s) (input-plain (Verify s) h) (verify-read s h)
input-read (Commit s) rest h = one-line (input_line (Commit s)) rest (commands.Commit s) (input-plain (Commit s) h) (commit-read s h)
input-read (Abort s) rest h = one-line (input_line (Abort s)) rest (commands.Abort s) (input-plain (Abort s) h) (abort-read s h)
input-read (Omit list) rest h = one-line (input_line (Omit list)) rest (commands.Omit list) (input-plain (Omit list) h) (omit-read list h)
input-read (Clock time) rest h = one-line (input_line (Clock time)) rest (commands.Clock time) (input-plain (Clock time) h) (clock-line time h.0 h.1)

steps-read : (n : ℕ) (rest : List ℕ) → n < 2 ^ 32 → map reading (lines_of (step_text n ++ rest)) ≡ map Do (steps n) ++ map reading (lines_of rest)
steps-read n rest lt = go (n == 0)
  where
    go : (b : Bool) → map reading (lines_of ((if b then [] else with_feed (codes "step " ++ decimal n)) ++ rest)) ≡ map Do (if b then [] else commands.Step n ∷ []) ++ map reading (lines_of rest)
    go true = refl
    go false = one-line (codes "step " ++ decimal n) rest (commands.Step n) (step-plain n lt) (step-read n lt)

all-read : (now : ℕ) (os : List Other) (t : ℕ) (rest : List ℕ) → now < 2 ^ 32 → AreSpelled os
    → map reading (lines_of (commands_from now os t ++ rest)) ≡ map Do (commands_at now os t) ++ map reading (lines_of rest)
all-read now [] t rest lt h = steps-read (now - t) rest (omega (arith, lt))
all-read now (o ∷ os) t rest lt h =
    ap (λ (v : List ℕ). map reading (lines_of v)) (append_assoc (step_text (o.tick - t)) (input_text o.input ++ commands_from now os o.tick) rest)
    ∙ steps-read (o.tick - t) ((input_text o.input ++ commands_from now os o.tick) ++ rest) (omega (arith, h.0))
    ∙ ap (λ (v : List Reading). map Do (steps (o.tick - t)) ++ v) (
    ap (λ (v : List ℕ). map reading (lines_of v)) (append_assoc (input_text o.input) (commands_from now os o.tick) rest)
    ∙ input-read o.input (commands_from now os o.tick ++ rest) h.1
    ∙ ap (λ (v : List Reading). map Do (command_of o.input) ++ v) (all-read now os o.tick rest lt h.2)
    ∙ sym (append_assoc (map Do (command_of o.input)) (map Do (commands_at now os o.tick)) (map reading (lines_of rest)))
    ∙ ap (λ (v : List Reading). v ++ map reading (lines_of rest)) (sym (map-append Do (command_of o.input) (commands_at now os o.tick)))
    )
    ∙ sym (append_assoc (map Do (steps (o.tick - t))) (map Do (command_of o.input ++ commands_at now os o.tick)) (map reading (lines_of rest)))
    ∙ ap (λ (v : List Reading). v ++ map reading (lines_of rest)) (sym (map-append Do (steps (o.tick - t)) (command_of o.input ++ commands_at now os o.tick)))

pub commands-read : CommandsAreRead
commands-read kept now lt h =
    ap (λ (v : List ℕ). map reading (lines_of v)) (sym (append-nil (commands_from now kept.others 0))) ∙ all-read now kept.others 0 [] lt h
