-- What was read can be saved.
use Rattle.std.proofs.Common.{zero, suc, ◌≡◌, ℕ, ◌+◌, ◌*◌, ◌^◌, ◌<◌, ◌≤◌, ◌==◌, ◌&&◌, Bool, true, false, nat_le, nat_lt, List, [], ◌∷◌, ◌++◌, length, take, drop, if◌then◌else◌, codes, bytes_eq, Option, Some, None, option_map, refl, sym, subst, arith}
use Rattle.std.proofs.lemmas.Bool.{and_parts, leb-true}
use Rattle.std.proofs.lemmas.List.Elements.{All-head, All-tail}
use Rattle.tsb_lines.specs.Lines.{is_skipped}
use Rattle.tsb_lines.specs.Words.{at_most, number_from, number_of, words_of}
use Rattle.tsb_text.specs.tsb_types.declared.lamp.Lamp.TheVariants as lamps
use Rattle.tsb_text.specs.tsb_types.declared.limits.TheConstants.{OVERLAPS, PEDESTRIAN_DETECTORS, PREEMPTS, VEHICLE_DETECTORS}
use Rattle.tsb_text.specs.tsb_types.declared.row.Row.{Row}
use Rattle.tsb_text.specs.tsb_types.Lists.{among}
use Rattle.tsb_types.proofs.SetLemmas.{list_of-below}
use Rattle.tsb_text.specs.tsb_step.tsb_plan.Names.{object_named}
use Rattle.tsb_text.specs.tsb_step.tsb_plan.declared.object.Object.{Object}
use Rattle.tsb_text.specs.tsb_step.tsb_plan.declared.version.TheConstants.Version.{NEWEST}
use Rattle.tsb_step.specs.declared.inputs.Input.{Input}
use Rattle.tsb_step.specs.declared.inputs.Input.TheVariants.{Tick}
use Rattle.tsb_step.specs.Runs.{replay}
use Rattle.tsb_step.proofs.ClearLemmas.{one_later}
use Rattle.tsb_command_text.specs.Commands.{command_in, command_of_one, command_of_two, command_of_three, command_of_five, on_or_off, preempt_of, set_of, watch_of_one, watch_of_two}
use Rattle.tsb_command_text.specs.Lamps.{from_one_to, head_number, lamp_of, overlap_lamp, pedestrian_signal_of, signal_of, station_of, with_both}
use Rattle.tsb_command_text.specs.Readings.{lines_in, reading, reading_in}
use Rattle.tsb_command_text.specs.declared.command.Command.{Command}
use Rattle.tsb_command_text.specs.declared.command.Command.TheVariants as commands
use Rattle.tsb_command_text.specs.declared.command.Reading.{Reading}
use Rattle.tsb_command_text.specs.declared.command.Reading.TheVariants.{Bad, Skip, Do}
use Rattle.tsb_log_text.specs.Forms.{row_or_other}
use Rattle.tsb_log_text.specs.RowLists.{after_pedestrians, after_vehicles, is_of, list_before, list_of_numbers, lists_of, numbers_from, own_list, parts, row_of_three}
use Rattle.tsb_log_text.specs.Rows.{field, has_space, inputs_of, inputs_with, list_in_digits, onto_digits}
use Rattle.tsb_text.specs.declared.kept.Other.{Other}
use Rattle.tsb_text.specs.kept.Kept.{kept_of}
use Rattle.tsb_text.proofs.BackLemmas.{no-less}
use Rattle.tsb_types.specs.declared.clock_time.TheConstants.{FIRST_MOMENT, END_OF_DAYS}
use Rattle.tsb_command_text.specs.clock.ClockText.{clock_of}
use Rattle.tsb_command_text.proofs.clock.ReadLemmas.{clock-ranged}
use Rattle.tsb_live_text.specs.saved.Laws.{AreSpelled, FitsLog, IsFault, IsLamp, IsSpelled, IsUpTo, KeptAreSpelled, ReadsAreSpelled, RowsReadAreFit, command_of}

-- what holds of it, if there is any
abbrev OfAny : {A : Type 0} → (A → Type 0) → Option A → Type 0
OfAny P None = Unit {0}
OfAny P (Some a) = P a

of-if : {A : Type 0} (P : A → Type 0) (b : Bool) (x y : Option A) → OfAny P x → OfAny P y → OfAny P (if b then x else y)
of-if P true x y h k = h
of-if P false x y h k = k

of-map : {A B : Type 0} (P : A → Type 0) (Q : B → Type 0) (f : A → B) (o : Option A) → OfAny P o → ((a : A) → P a → Q (f a)) → OfAny Q (option_map f o)
of-map P Q f None h to = tt
of-map P Q f (Some a) h to = to a h

-- ## Numbers

number-fits : (w : List ℕ) → OfAny (λ n. n < 2 ^ 32) (number_of w)
number-fits w = go (nat_lt 0 (length w) && nat_le (length w) 10) (number_from 0 w)
  where
    most : (n : ℕ) (t : Bool) → nat_le n 4294967295 ≡ t → OfAny (λ n. n < 2 ^ 32) (if t then Some n else None)
    most n true e = let le : n ≤ 4294967295 = leb-true n 4294967295 e in omega (arith, le)
    most n false e = tt

    go : (b : Bool) (o : Option ℕ) → OfAny (λ n. n < 2 ^ 32) (if b then at_most 4294967295 o else None)
    go true None = tt
    go true (Some n) = most n (nat_le n 4294967295) refl
    go false o = tt

up-to-fits : (most : ℕ) (o : Option ℕ) → OfAny (IsUpTo most) (from_one_to most o)
up-to-fits most None = tt
up-to-fits most (Some n) = go (nat_le 1 n && nat_le n most) refl
  where
    go : (t : Bool) → (nat_le 1 n && nat_le n most) ≡ t → OfAny (IsUpTo most) (if t then Some n else None)
    go true e = let both = and_parts (nat_le 1 n) (nat_le n most) e in (leb-true 1 n both.0, leb-true n most both.1)
    go false e = tt

-- ## Commands

-- a command whose numbers are such as commands have
abbrev IsSound : Command → Type 0
IsSound (commands.Step n) = n < 2 ^ 32
IsSound (commands.Pattern n) = n < 2 ^ 32
IsSound (commands.Omit list) = list < 2 ^ 32
IsSound (commands.Preempt n on) = n < 2 ^ 32
IsSound (commands.Fault lamp) = IsFault lamp
IsSound (commands.Begin s) = IsUpTo 4 s
IsSound (commands.Set s id v) = IsUpTo 4 s × (id.index < 2 ^ 32) × (v < 2 ^ 32)
IsSound (commands.Verify s) = IsUpTo 4 s
IsSound (commands.Commit s) = IsUpTo 4 s
IsSound (commands.Abort s) = IsUpTo 4 s
IsSound (commands.Clock t) = (FIRST_MOMENT ≤ t) × (t < END_OF_DAYS)
IsSound c = Unit {0}

one-sound : (w : List ℕ) → OfAny IsSound (command_of_one w)
unfolding command_of_one
one-sound w =
    of-if IsSound (bytes_eq w (codes "undo")) _ _ tt
    (of-if IsSound (bytes_eq w (codes "show")) _ _ tt
    (of-if IsSound (bytes_eq w (codes "reset")) _ _ tt
    (of-if IsSound (bytes_eq w (codes "quit")) _ _ tt tt)))

any : {A : Type 0} (o : Option A) → OfAny (λ a. Unit {0}) o
any None = tt
any (Some a) = tt

two-sound : (w x : List ℕ) → OfAny IsSound (command_of_two w x)
unfolding command_of_two
two-sound w x =
    of-if IsSound (bytes_eq w (codes "step")) _ _ (of-map _ IsSound commands.Step (number_of x) (number-fits x) (λ n h. h))
    (of-if IsSound (bytes_eq w (codes "back")) _ _ (of-map _ IsSound commands.Back (number_of x) (number-fits x) (λ n h. tt))
    (of-if IsSound (bytes_eq w (codes "seek")) _ _ (of-map _ IsSound commands.Seek (number_of x) (number-fits x) (λ n h. tt))
    (of-if IsSound (bytes_eq w (codes "pattern")) _ _ (of-map _ IsSound commands.Pattern (number_of x) (number-fits x) (λ n h. h))
    (of-if IsSound (bytes_eq w (codes "omit")) _ _ (of-map _ IsSound commands.Omit (number_of x) (number-fits x) (λ n h. h))
    (of-if IsSound (bytes_eq w (codes "when")) _ _ (of-map _ IsSound commands.When (watch_of_one x) (any (watch_of_one x)) (λ n h. tt))
    (of-if IsSound (bytes_eq w (codes "begin")) _ _ (of-map _ IsSound commands.Begin (station_of x) (up-to-fits 4 (number_of x)) (λ n h. h))
    (of-if IsSound (bytes_eq w (codes "verify")) _ _ (of-map _ IsSound commands.Verify (station_of x) (up-to-fits 4 (number_of x)) (λ n h. h))
    (of-if IsSound (bytes_eq w (codes "commit")) _ _ (of-map _ IsSound commands.Commit (station_of x) (up-to-fits 4 (number_of x)) (λ n h. h))
    (of-if IsSound (bytes_eq w (codes "abort")) _ _ (of-map _ IsSound commands.Abort (station_of x) (up-to-fits 4 (number_of x)) (λ n h. h))
    (of-if IsSound (bytes_eq w (codes "fault")) _ _ (of-if IsSound (bytes_eq x (codes "none")) _ _ tt tt) tt))))))))))

both-fit : {A B C : Type 0} (P : A → Type 0) (Q : C → Type 0) (f : A → B → C) (a : Option A) (b : Option B) → OfAny P a → ((x : A) (y : B) → P x → Q (f x y)) → OfAny Q (with_both f a b)
both-fit P Q f None b h to = tt
both-fit P Q f (Some x) None h to = tt
both-fit P Q f (Some x) (Some y) h to = to x y h

overlap-fits : (o : Option ℕ) (aspect : List ℕ) → OfAny (IsUpTo OVERLAPS) o → OfAny IsLamp (overlap_lamp o aspect)
overlap-fits o aspect fits =
    of-if IsLamp (bytes_eq aspect (codes "P")) _ _ (of-map (IsUpTo OVERLAPS) IsLamp lamps.Arrow o fits (λ p h. h))
    (both-fit (IsUpTo OVERLAPS) IsLamp lamps.Overlap o (signal_of aspect) fits (λ x y h. h))

lamp-fits : (head aspect : List ℕ) → OfAny IsLamp (lamp_of head aspect)
lamp-fits [] aspect = tt
lamp-fits (letter ∷ digits) aspect =
    of-if IsLamp (letter == 80) _ _ (both-fit (IsUpTo 16) IsLamp lamps.Phase (from_one_to 16 (head_number digits)) (signal_of aspect) (up-to-fits 16 (head_number digits)) (λ x y h. h))
    (of-if IsLamp (letter == 79) _ _ (overlap-fits (from_one_to OVERLAPS (head_number digits)) aspect (up-to-fits OVERLAPS (head_number digits)))
    (of-if IsLamp (letter == 87) _ _ (both-fit (IsUpTo 16) IsLamp lamps.Pedestrian (from_one_to 16 (head_number digits)) (pedestrian_signal_of aspect) (up-to-fits 16 (head_number digits)) (λ x y h. h)) tt))

preempt-fits : (n : Option ℕ) (on : Option Bool) → OfAny (λ n. n < 2 ^ 32) n → OfAny IsSound (preempt_of n on)
preempt-fits (Some n) (Some on) h = h
preempt-fits (Some n) None h = tt
preempt-fits None on h = tt

clock-fits : (x y : List ℕ) → OfAny IsSound (option_map commands.Clock (clock_of x y))
clock-fits x y = go (clock_of x y) refl
  where
    go : (o : Option ℕ) → clock_of x y ≡ o → OfAny IsSound (option_map commands.Clock o)
    go None e = tt
    go (Some t) e = clock-ranged x y t e

three-sound : (w x y : List ℕ) → OfAny IsSound (command_of_three w x y)
unfolding command_of_three
three-sound w x y =
    of-if IsSound (bytes_eq w (codes "when")) _ _ (of-map _ IsSound commands.When (watch_of_two x y) (any (watch_of_two x y)) (λ n h. tt))
    (of-if IsSound (bytes_eq w (codes "preempt")) _ _ (preempt-fits (number_of x) (on_or_off y) (number-fits x))
    (of-if IsSound (bytes_eq w (codes "fault")) _ _ (of-map IsLamp IsSound (λ l. commands.Fault (Some l)) (lamp_of x y) (lamp-fits x y) (λ l h. h))
    (of-if IsSound (bytes_eq w (codes "clock")) _ _ (clock-fits x y) tt)))

set-fits : (s : Option ℕ) (o : Option Object) (i v : Option ℕ) → OfAny (IsUpTo 4) s → OfAny (λ n. n < 2 ^ 32) i → OfAny (λ n. n < 2 ^ 32) v → OfAny IsSound (set_of s o i v)
set-fits None o i v hs hi hv = tt
set-fits (Some s) None i v hs hi hv = tt
set-fits (Some s) (Some o) None v hs hi hv = tt
set-fits (Some s) (Some o) (Some i) None hs hi hv = tt
set-fits (Some s) (Some o) (Some i) (Some v) hs hi hv = (hs, hi, hv)

five-sound : (w s o i v : List ℕ) → OfAny IsSound (command_of_five w s o i v)
unfolding command_of_five
five-sound w s o i v =
    of-if IsSound (bytes_eq w (codes "set")) _ _ (set-fits (station_of s) (object_named NEWEST o) (number_of i) (number_of v) (up-to-fits 4 (number_of s)) (number-fits i) (number-fits v)) tt

words-sound : (ws : List (List ℕ)) → OfAny IsSound (command_in ws)
words-sound [] = tt
words-sound (w ∷ []) = one-sound w
words-sound (w ∷ x ∷ []) = two-sound w x
words-sound (w ∷ x ∷ y ∷ []) = three-sound w x y
words-sound (w ∷ x ∷ y ∷ z ∷ []) = tt
words-sound (w ∷ s ∷ o ∷ i ∷ v ∷ []) = five-sound w s o i v
words-sound (w ∷ s ∷ o ∷ i ∷ v ∷ x ∷ ws) = tt

abbrev IsSoundReading : Reading → Type 0
IsSoundReading (Do c) = IsSound c
IsSoundReading r = Unit {0}

reading-sound : (line : List ℕ) → IsSoundReading (reading line)
reading-sound line = go (nat_lt 200 (length line)) (is_skipped line) (lines_in (words_of line)) (command_in (words_of line)) (words-sound (words_of line))
  where
    go : (long skipped : Bool) (is_wide : Option Bool) (o : Option Command) → OfAny IsSound o → IsSoundReading (if long then Bad else if skipped then Skip else reading_in is_wide o)
    go true skipped is_wide o h = tt
    go false true is_wide o h = tt
    go false false (Some is_wide) o h = tt
    go false false None None h = tt
    go false false None (Some c) h = h

abbrev IsFirstSound : List Command → Type 0
IsFirstSound [] = Unit {0}
IsFirstSound (c ∷ cs) = IsSound c

spelled-of : (i : Input) → IsFirstSound (command_of i) → IsSpelled i
spelled-of (Tick row) h = tt
spelled-of i h = h

pub reads-spelled : ReadsAreSpelled
reads-spelled line c i read is = spelled-of i (subst IsFirstSound (sym is) (subst IsSoundReading read (reading-sound line)))

-- ## Rows

-- twice as many for each digit
abbrev bound : ℕ → ℕ
bound zero = 1
bound (suc n) = 2 * bound n

positive : (n : ℕ) → 1 ≤ bound n
positive zero = omega arith
positive (suc n) = let rest : 1 ≤ bound n = positive n in omega (arith, rest)

digit-fits : (d n : ℕ) (o : Option ℕ) → OfAny (λ k. k < bound n) o → OfAny (λ k. k < 2 * bound n) (onto_digits d o)
digit-fits d n None h = tt
digit-fits d n (Some m) h =
    of-if (λ k. k < 2 * bound n) (d == 48) _ _ (omega (arith, h))
    (of-if (λ k. k < 2 * bound n) (d == 49) _ _ (omega (arith, h)) tt)

list-fits : (n : ℕ) (ds : List ℕ) → length ds ≤ n → OfAny (λ k. k < bound n) (list_in_digits ds)
list-fits n [] le = let some : 1 ≤ bound n = positive n in omega (arith, some)
list-fits zero (d ∷ ds) le = absurd (omega (arith, le))
list-fits (suc n) (d ∷ ds) le = digit-fits d n (list_in_digits ds) (list-fits n ds (omega (arith, le)))

take-short : (n : ℕ) (xs : List ℕ) → length (take n xs) ≤ n
take-short zero xs = omega arith
take-short (suc n) [] = omega arith
take-short (suc n) (x ∷ xs) = let rest : length (take n xs) ≤ n = take-short n xs in omega (arith, rest)

inputs-fit : (v p e : Option ℕ) → OfAny (λ k. k < 65536) v → OfAny (λ k. k < 256) p → OfAny (λ k. k < 16) e → OfAny FitsLog (inputs_with v p e)
inputs-fit (Some v) (Some p) (Some e) hv hp he = record { vehicles = omega (arith, hv); pedestrians = omega (arith, hp); preempts = omega (arith, he) }
inputs-fit (Some v) (Some p) None hv hp he = tt
inputs-fit (Some v) None e hv hp he = tt
inputs-fit None p e hv hp he = tt

digits-fit : (digits : List ℕ) → OfAny FitsLog (inputs_of digits)
unfolding inputs_of
digits-fit digits =
    of-if FitsLog (length digits == 30 && has_space 16 digits && has_space 25 digits) _ _
    (inputs-fit (list_in_digits (field 0 16 digits)) (list_in_digits (field 17 8 digits)) (list_in_digits (field 26 4 digits))
    (list-fits 16 (field 0 16 digits) (take-short 16 (drop 0 digits))) (list-fits 8 (field 17 8 digits) (take-short 8 (drop 17 digits))) (list-fits 4 (field 26 4 digits) (take-short 4 (drop 26 digits)))) tt

-- by lists

-- a list with what is left of the words
abbrev IsBelow : ℕ → ℕ × List (List ℕ) → Type 0
IsBelow most taken = taken.0 < 2 ^ most

spelled-below : (most : ℕ) (ns : Option (List ℕ)) (words : List (List ℕ)) → OfAny (IsBelow most) (list_before (list_of_numbers most ns) words)
spelled-below most None words = tt
spelled-below most (Some ns) words = list_of-below most (λ n. among n ns)

own-below : (letter most : ℕ) (words : List (List ℕ)) → 0 < 2 ^ most → OfAny (IsBelow most) (own_list letter most words)
own-below letter most [] some = some
own-below letter most (w ∷ ws) some =
    of-if (IsBelow most) (is_of letter w) _ _ (spelled-below most (numbers_from most 0 (parts 44 (drop 1 w))) ws) some

preempts-fit : (v p : ℕ) (taken : Option (ℕ × List (List ℕ))) → v < 2 ^ VEHICLE_DETECTORS → p < 2 ^ PEDESTRIAN_DETECTORS → OfAny (IsBelow PREEMPTS) taken → OfAny FitsLog (row_of_three v p taken)
preempts-fit v p None hv hp he = tt
preempts-fit v p (Some (e, [])) hv hp he = record { vehicles = hv; pedestrians = hp; preempts = he }
preempts-fit v p (Some (e, w ∷ ws)) hv hp he = tt

pedestrians-fit : (v : ℕ) (taken : Option (ℕ × List (List ℕ))) → v < 2 ^ VEHICLE_DETECTORS → OfAny (IsBelow PEDESTRIAN_DETECTORS) taken → OfAny FitsLog (after_pedestrians v taken)
pedestrians-fit v None hv hp = tt
pedestrians-fit v (Some (p, words)) hv hp = preempts-fit v p (own_list 69 PREEMPTS words) hv hp (own-below 69 PREEMPTS words (omega arith))

vehicles-fit : (taken : Option (ℕ × List (List ℕ))) → OfAny (IsBelow VEHICLE_DETECTORS) taken → OfAny FitsLog (after_vehicles taken)
vehicles-fit None hv = tt
vehicles-fit (Some (v, words)) hv = pedestrians-fit v (own_list 80 PEDESTRIAN_DETECTORS words) hv (own-below 80 PEDESTRIAN_DETECTORS words (omega arith))

lists-fit : (text : List ℕ) → OfAny FitsLog (lists_of text)
unfolding lists_of
lists-fit text = vehicles-fit (own_list 86 VEHICLE_DETECTORS (parts 32 text)) (own-below 86 VEHICLE_DETECTORS (parts 32 text) (omega arith))

either-fits : (row other : Option Row) → OfAny FitsLog row → OfAny FitsLog other → OfAny FitsLog (row_or_other row other)
either-fits None other h k = k
either-fits (Some row) other h k = h

pub rows-fit : RowsReadAreFit
rows-fit line row is = subst (OfAny FitsLog) is (either-fits (inputs_of line) (lists_of line) (digits-fit line) (lists-fit line))

-- ## What is kept

spelled-more : (os : List Other) (o : Other) → AreSpelled os → o.tick < 2 ^ 32 → IsSpelled o.input → AreSpelled (os ++ o ∷ [])
spelled-more [] o h at is = (at, is, tt)
spelled-more (x ∷ os) o h at is = (h.0, h.1, spelled-more os o h.2 at is)

pub kept-spelled : KeptAreSpelled
kept-spelled plan [] all le = tt
kept-spelled plan (Tick row ∷ is) all le =
    let next : (replay plan (Tick row ∷ is)).now ≡ (replay plan is).now + 1 = one_later (replay plan is) row in
    kept-spelled plan is (All-tail IsSpelled (Tick row) is all) (omega (arith, le, next))
kept-spelled plan (i ∷ is) all le =
    let less : (replay plan is).now ≤ (replay plan (i ∷ is)).now = no-less plan i is in
    spelled-more (kept_of plan is).others (record { tick = (replay plan is).now; input = i }) (kept-spelled plan is (All-tail IsSpelled i is all) (omega (arith, le, less))) (omega (arith, le, less))
    (All-head IsSpelled i is all)
