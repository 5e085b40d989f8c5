-- What `check` and `run` make of the words after them.
use Rattle.std.proofs.Common.{◌≡◌, ◌∙◌, ℕ, Bool, true, false, List, [], ◌∷◌, Option, Some, None, option_map, if◌then◌else◌, refl, sym, ap, subst, inl, inr, codes, bytes_eq}
use Rattle.std.proofs.lemmas.Slice.Eq.{bytes_eq-Decides}
use Rattle.clap.specs.Walk.{Row, Text, Walk, has_long, has_short, used, value}
use Rattle.clap.specs.Simple.{Shape, built_leaf, filled, inherited, marked_built, with_index, with_leaf_noted}
use Rattle.clap.specs.Kinds.{Kinds}
use Rattle.clap.specs.declared.error.kind.ErrorKind.TheVariants.{MissingRequiredArgument, UnknownArgument}
use Rattle.clap.proofs.OnLiterals.{clap_on_literals}
use Rattle.tsb_words.specs.Commands.{file_rule}
use Rattle.tsb_words.specs.BenchProgram.{asked_by, check_command, program, run_command}
use Rattle.tsb_words.specs.BenchWords.{Wish, check_of, files, is_flag, run_of}
use Rattle.tsb_words.proofs.FlagLemmas.{Fails, HasHelpAlone, Sorted, help, held_with, one-found, sorted}
use Rattle.tsb_words.proofs.LevelLemmas.{Level, Turned, standing, level-dash, level-flag, level-value}

-- words that ask for something pass and are read so, and all others fail
abbrev pub Agrees : Option Wish → Kinds → Option (Text × List Row) → Type 0
Agrees None kinds met = Fails kinds
Agrees (Some wish) kinds met = (kinds ≡ []) × (asked_by met ≡ Some wish)

-- ## Words that name files

files-flag : (word : Text) (rest : List Text) → bytes_eq word (codes "--") ≡ false → is_flag word ≡ true → files (word ∷ rest) ≡ None
files-flag word rest dash flag =
    ap (λ (b : Bool). if b then Some rest else (if is_flag word then None else option_map (λ (names : List (List ℕ)). word ∷ names) (files rest))) dash
    ∙ ap (λ (b : Bool). if b then None else option_map (λ (names : List (List ℕ)). word ∷ names) (files rest)) flag

files-value : (word : Text) (rest : List Text) → bytes_eq word (codes "--") ≡ false → is_flag word ≡ false
    → files (word ∷ rest) ≡ option_map (λ (names : List (List ℕ)). word ∷ names) (files rest)
files-value word rest dash flag =
    ap (λ (b : Bool). if b then Some rest else (if is_flag word then None else option_map (λ (names : List (List ℕ)). word ∷ names) (files rest))) dash
    ∙ ap (λ (b : Bool). if b then None else option_map (λ (names : List (List ℕ)). word ∷ names) (files rest)) flag

abbrev put : Text → Option (List Text) → Option (List Text)
put word = option_map (λ (names : List (List ℕ)). word ∷ names)

check-two : (plan word : Text) (o : Option (List Text)) → check_of (put plan (put word o)) ≡ None
check-two plan word None = refl
check-two plan word (Some names) = refl

run-three : (plan log word : Text) (o : Option (List Text)) → run_of (put plan (put log (put word o))) ≡ None
run-three plan log word None = refl
run-three plan log word (Some names) = refl

-- ## The two commands as they are built

abbrev pub above : Shape
above = with_leaf_noted (marked_built program.top)

abbrev pub check_shape : Shape
check_shape = built_leaf (inherited above check_command.top)

abbrev pub run_shape : Shape
run_shape = built_leaf (inherited above run_command.top)

check-alone : HasHelpAlone check_shape.rules
check-alone = record {
  long = λ name. one-found (has_long help name) help;
  short = λ x. one-found (has_short help x) help;
}

run-alone : HasHelpAlone run_shape.rules
run-alone = record {
  long = λ name. one-found (has_long help name) help;
  short = λ x. one-found (has_short help x) help;
}

abbrev CheckAgrees : Option Wish → Kinds × List Row → Type 0
CheckAgrees wish level = Agrees wish level.0 (Some (codes "check", level.1))

abbrev RunAgrees : Option Wish → Kinds × List Row → Type 0
RunAgrees wish level = Agrees wish level.0 (Some (codes "run", level.1))

abbrev plan_id : Text
plan_id = codes "PLAN"

abbrev log_id : Text
log_id = codes "LOG"

-- ## `check`

-- before the plan's name, and after it
abbrev check_none : Bool → Walk
check_none is_trailing = standing [] None 1 is_trailing

abbrev check_one : Text → Bool → Walk
check_one plan is_trailing = standing [] (Some (plan_id, plan ∷ [])) 2 is_trailing

check-one-trailing : (plan : Text) (words : List Text) → CheckAgrees (check_of (Some (plan ∷ words))) (Level check_shape (check_one plan true) words)
unfolding clap_on_literals
check-one-trailing plan [] = (refl, refl)
check-one-trailing plan (word ∷ rest) = (UnknownArgument, [], refl)

check-one-stray : (plan word : Text) (rest : List Text) → Fails (Turned check_shape (check_one plan false) word rest [] (held_with [] (Some (plan_id, plan ∷ [])), value)).0
unfolding clap_on_literals
check-one-stray plan word rest = (UnknownArgument, [], refl)

check-one-sorted : (plan word : Text) (rest : List Text) → bytes_eq word (codes "--") ≡ false → Sorted word
    → CheckAgrees (check_of (put plan (files (word ∷ rest)))) (Level check_shape (check_one plan false) (word ∷ rest))
check-one-sorted plan word rest dash (inl flag) =
    subst (λ (o : Option (List Text)). CheckAgrees (check_of (put plan o)) (Level check_shape (check_one plan false) (word ∷ rest))) (sym (files-flag word rest dash flag.0))
    (level-flag check_shape check-alone [] (Some (plan_id, plan ∷ [])) 2 word rest dash flag.1)
check-one-sorted plan word rest dash (inr free) =
    subst (λ (o : Option Wish). CheckAgrees o (Level check_shape (check_one plan false) (word ∷ rest)))
    (sym (ap (λ (o : Option (List Text)). check_of (put plan o)) (files-value word rest dash free.0) ∙ check-two plan word (files rest)))
    (subst (λ (l : Kinds × List Row). Fails l.0) (sym (level-value check_shape [] (Some (plan_id, plan ∷ [])) 2 word rest dash free.1)) (check-one-stray plan word rest))

check-one-dash : (plan word : Text) (rest : List Text) (b : Bool) → bytes_eq word (codes "--") ≡ b
    → CheckAgrees (check_of (put plan (files (word ∷ rest)))) (Level check_shape (check_one plan false) (word ∷ rest))
check-one-dash plan word rest true dash =
    subst (λ (v : Text). CheckAgrees (check_of (put plan (files (v ∷ rest)))) (Level check_shape (check_one plan false) (v ∷ rest)))
    (sym ((bytes_eq-Decides word (codes "--")).0 dash))
    (subst (λ (l : Kinds × List Row). CheckAgrees (check_of (Some (plan ∷ rest))) l) (sym (level-dash check_shape [] (Some (plan_id, plan ∷ [])) 2 rest)) (check-one-trailing plan rest))
check-one-dash plan word rest false dash = check-one-sorted plan word rest dash (sorted word dash)

check-one : (plan : Text) (words : List Text) → CheckAgrees (check_of (put plan (files words))) (Level check_shape (check_one plan false) words)
unfolding clap_on_literals
check-one plan [] = (refl, refl)
check-one plan (word ∷ rest) = check-one-dash plan word rest (bytes_eq word (codes "--")) refl

check-none-trailing : (words : List Text) → CheckAgrees (check_of (Some words)) (Level check_shape (check_none true) words)
unfolding clap_on_literals
check-none-trailing [] = (MissingRequiredArgument, [], refl)
check-none-trailing (word ∷ rest) = check-one-trailing word rest

check-none-value : (word : Text) (rest : List Text)
    → Turned check_shape (check_none false) word rest [] (held_with [] None, value) ≡ Level check_shape (check_one word false) rest
unfolding clap_on_literals
check-none-value word rest = refl

check-none-sorted : (word : Text) (rest : List Text) → bytes_eq word (codes "--") ≡ false → Sorted word
    → CheckAgrees (check_of (files (word ∷ rest))) (Level check_shape (check_none false) (word ∷ rest))
check-none-sorted word rest dash (inl flag) =
    subst (λ (o : Option (List Text)). CheckAgrees (check_of o) (Level check_shape (check_none false) (word ∷ rest))) (sym (files-flag word rest dash flag.0))
    (level-flag check_shape check-alone [] None 1 word rest dash flag.1)
check-none-sorted word rest dash (inr free) =
    subst (λ (o : Option (List Text)). CheckAgrees (check_of o) (Level check_shape (check_none false) (word ∷ rest))) (sym (files-value word rest dash free.0))
    (subst (λ (l : Kinds × List Row). CheckAgrees (check_of (put word (files rest))) l)
    (sym (level-value check_shape [] None 1 word rest dash free.1 ∙ check-none-value word rest)) (check-one word rest))

check-none-dash : (word : Text) (rest : List Text) (b : Bool) → bytes_eq word (codes "--") ≡ b
    → CheckAgrees (check_of (files (word ∷ rest))) (Level check_shape (check_none false) (word ∷ rest))
check-none-dash word rest true dash =
    subst (λ (v : Text). CheckAgrees (check_of (files (v ∷ rest))) (Level check_shape (check_none false) (v ∷ rest)))
    (sym ((bytes_eq-Decides word (codes "--")).0 dash))
    (subst (λ (l : Kinds × List Row). CheckAgrees (check_of (Some rest)) l) (sym (level-dash check_shape [] None 1 rest)) (check-none-trailing rest))
check-none-dash word rest false dash = check-none-sorted word rest dash (sorted word dash)

pub check-words : (words : List Text) → CheckAgrees (check_of (files words)) (Level check_shape (standing [] None 1 false) words)
unfolding clap_on_literals
check-words [] = (MissingRequiredArgument, [], refl)
check-words (word ∷ rest) = check-none-dash word rest (bytes_eq word (codes "--")) refl

-- ## `run`

abbrev plan_rows : Text → List Row
plan_rows plan = used (with_index 1 (filled (file_rule plan_id))) (plan ∷ []) []

-- before the plan's name, after it, and after the log's
abbrev run_none : Bool → Walk
run_none is_trailing = standing [] None 1 is_trailing

abbrev run_one : Text → Bool → Walk
run_one plan is_trailing = standing [] (Some (plan_id, plan ∷ [])) 2 is_trailing

abbrev run_two : Text → Text → Bool → Walk
run_two plan log is_trailing = standing (plan_rows plan) (Some (log_id, log ∷ [])) 3 is_trailing

run-two-trailing : (plan log : Text) (words : List Text) → RunAgrees (run_of (Some (plan ∷ log ∷ words))) (Level run_shape (run_two plan log true) words)
unfolding clap_on_literals
run-two-trailing plan log [] = (refl, refl)
run-two-trailing plan log (word ∷ rest) = (UnknownArgument, [], refl)

run-two-stray : (plan log word : Text) (rest : List Text)
    → Fails (Turned run_shape (run_two plan log false) word rest [] (held_with (plan_rows plan) (Some (log_id, log ∷ [])), value)).0
unfolding clap_on_literals
run-two-stray plan log word rest = (UnknownArgument, [], refl)

run-two-sorted : (plan log word : Text) (rest : List Text) → bytes_eq word (codes "--") ≡ false → Sorted word
    → RunAgrees (run_of (put plan (put log (files (word ∷ rest))))) (Level run_shape (run_two plan log false) (word ∷ rest))
run-two-sorted plan log word rest dash (inl flag) =
    subst (λ (o : Option (List Text)). RunAgrees (run_of (put plan (put log o))) (Level run_shape (run_two plan log false) (word ∷ rest))) (sym (files-flag word rest dash flag.0))
    (level-flag run_shape run-alone (plan_rows plan) (Some (log_id, log ∷ [])) 3 word rest dash flag.1)
run-two-sorted plan log word rest dash (inr free) =
    subst (λ (o : Option Wish). RunAgrees o (Level run_shape (run_two plan log false) (word ∷ rest)))
    (sym (ap (λ (o : Option (List Text)). run_of (put plan (put log o))) (files-value word rest dash free.0) ∙ run-three plan log word (files rest)))
    (subst (λ (l : Kinds × List Row). Fails l.0) (sym (level-value run_shape (plan_rows plan) (Some (log_id, log ∷ [])) 3 word rest dash free.1)) (run-two-stray plan log word rest))

run-two-dash : (plan log word : Text) (rest : List Text) (b : Bool) → bytes_eq word (codes "--") ≡ b
    → RunAgrees (run_of (put plan (put log (files (word ∷ rest))))) (Level run_shape (run_two plan log false) (word ∷ rest))
run-two-dash plan log word rest true dash =
    subst (λ (v : Text). RunAgrees (run_of (put plan (put log (files (v ∷ rest))))) (Level run_shape (run_two plan log false) (v ∷ rest)))
    (sym ((bytes_eq-Decides word (codes "--")).0 dash))
    (subst (λ (l : Kinds × List Row). RunAgrees (run_of (Some (plan ∷ log ∷ rest))) l) (sym (level-dash run_shape (plan_rows plan) (Some (log_id, log ∷ [])) 3 rest)) (run-two-trailing plan log rest))
run-two-dash plan log word rest false dash = run-two-sorted plan log word rest dash (sorted word dash)

run-two : (plan log : Text) (words : List Text) → RunAgrees (run_of (put plan (put log (files words)))) (Level run_shape (run_two plan log false) words)
unfolding clap_on_literals
run-two plan log [] = (refl, refl)
run-two plan log (word ∷ rest) = run-two-dash plan log word rest (bytes_eq word (codes "--")) refl

run-one-trailing : (plan : Text) (words : List Text) → RunAgrees (run_of (Some (plan ∷ words))) (Level run_shape (run_one plan true) words)
unfolding clap_on_literals
run-one-trailing plan [] = (MissingRequiredArgument, [], refl)
run-one-trailing plan (word ∷ rest) = run-two-trailing plan word rest

run-one-value : (plan word : Text) (rest : List Text)
    → Turned run_shape (run_one plan false) word rest [] (held_with [] (Some (plan_id, plan ∷ [])), value) ≡ Level run_shape (run_two plan word false) rest
unfolding clap_on_literals
run-one-value plan word rest = refl

run-one-sorted : (plan word : Text) (rest : List Text) → bytes_eq word (codes "--") ≡ false → Sorted word
    → RunAgrees (run_of (put plan (files (word ∷ rest)))) (Level run_shape (run_one plan false) (word ∷ rest))
run-one-sorted plan word rest dash (inl flag) =
    subst (λ (o : Option (List Text)). RunAgrees (run_of (put plan o)) (Level run_shape (run_one plan false) (word ∷ rest))) (sym (files-flag word rest dash flag.0))
    (level-flag run_shape run-alone [] (Some (plan_id, plan ∷ [])) 2 word rest dash flag.1)
run-one-sorted plan word rest dash (inr free) =
    subst (λ (o : Option (List Text)). RunAgrees (run_of (put plan o)) (Level run_shape (run_one plan false) (word ∷ rest))) (sym (files-value word rest dash free.0))
    (subst (λ (l : Kinds × List Row). RunAgrees (run_of (put plan (put word (files rest)))) l)
    (sym (level-value run_shape [] (Some (plan_id, plan ∷ [])) 2 word rest dash free.1 ∙ run-one-value plan word rest)) (run-two plan word rest))

run-one-dash : (plan word : Text) (rest : List Text) (b : Bool) → bytes_eq word (codes "--") ≡ b
    → RunAgrees (run_of (put plan (files (word ∷ rest)))) (Level run_shape (run_one plan false) (word ∷ rest))
run-one-dash plan word rest true dash =
    subst (λ (v : Text). RunAgrees (run_of (put plan (files (v ∷ rest)))) (Level run_shape (run_one plan false) (v ∷ rest)))
    (sym ((bytes_eq-Decides word (codes "--")).0 dash))
    (subst (λ (l : Kinds × List Row). RunAgrees (run_of (Some (plan ∷ rest))) l) (sym (level-dash run_shape [] (Some (plan_id, plan ∷ [])) 2 rest)) (run-one-trailing plan rest))
run-one-dash plan word rest false dash = run-one-sorted plan word rest dash (sorted word dash)

run-one : (plan : Text) (words : List Text) → RunAgrees (run_of (put plan (files words))) (Level run_shape (run_one plan false) words)
unfolding clap_on_literals
run-one plan [] = (MissingRequiredArgument, [], refl)
run-one plan (word ∷ rest) = run-one-dash plan word rest (bytes_eq word (codes "--")) refl

run-none-trailing : (words : List Text) → RunAgrees (run_of (Some words)) (Level run_shape (run_none true) words)
unfolding clap_on_literals
run-none-trailing [] = (MissingRequiredArgument, [], refl)
run-none-trailing (word ∷ rest) = run-one-trailing word rest

run-none-value : (word : Text) (rest : List Text)
    → Turned run_shape (run_none false) word rest [] (held_with [] None, value) ≡ Level run_shape (run_one word false) rest
unfolding clap_on_literals
run-none-value word rest = refl

run-none-sorted : (word : Text) (rest : List Text) → bytes_eq word (codes "--") ≡ false → Sorted word
    → RunAgrees (run_of (files (word ∷ rest))) (Level run_shape (run_none false) (word ∷ rest))
run-none-sorted word rest dash (inl flag) =
    subst (λ (o : Option (List Text)). RunAgrees (run_of o) (Level run_shape (run_none false) (word ∷ rest))) (sym (files-flag word rest dash flag.0))
    (level-flag run_shape run-alone [] None 1 word rest dash flag.1)
run-none-sorted word rest dash (inr free) =
    subst (λ (o : Option (List Text)). RunAgrees (run_of o) (Level run_shape (run_none false) (word ∷ rest))) (sym (files-value word rest dash free.0))
    (subst (λ (l : Kinds × List Row). RunAgrees (run_of (put word (files rest))) l)
    (sym (level-value run_shape [] None 1 word rest dash free.1 ∙ run-none-value word rest)) (run-one word rest))

run-none-dash : (word : Text) (rest : List Text) (b : Bool) → bytes_eq word (codes "--") ≡ b
    → RunAgrees (run_of (files (word ∷ rest))) (Level run_shape (run_none false) (word ∷ rest))
run-none-dash word rest true dash =
    subst (λ (v : Text). RunAgrees (run_of (files (v ∷ rest))) (Level run_shape (run_none false) (v ∷ rest)))
    (sym ((bytes_eq-Decides word (codes "--")).0 dash))
    (subst (λ (l : Kinds × List Row). RunAgrees (run_of (Some rest)) l) (sym (level-dash run_shape [] None 1 rest)) (run-none-trailing rest))
run-none-dash word rest false dash = run-none-sorted word rest dash (sorted word dash)

pub run-words : (words : List Text) → RunAgrees (run_of (files words)) (Level run_shape (standing [] None 1 false) words)
unfolding clap_on_literals
run-words [] = (MissingRequiredArgument, [], refl)
run-words (word ∷ rest) = run-none-dash word rest (bytes_eq word (codes "--")) refl
