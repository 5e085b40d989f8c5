-- What `tsb` makes of all its words.
use Rattle.std.proofs.Common.{◌≡◌, ◌∙◌, Bool, true, false, cond, ◌||◌, List, [], ◌∷◌, ◌++◌, Option, Some, None, option_map, is_some, if◌then◌else◌, refl, sym, ap, ap₂, subst, subst₂, inl, inr, codes, bytes_eq, fold, append_assoc, drop, option_and_then}
use Rattle.std.proofs.lemmas.List.{append-nil}
use Rattle.std.proofs.lemmas.Slice.Eq.{bytes_eq-Decides}
use Rattle.clap.specs.Walk.{Held, Names, Row, Rule, Step, Text, Walk, finished, has_long, has_short, idle, nothing_held, settled, stop_after, subcommand_met, subcommand_or_other, walk, walk_from, walked}
use Rattle.clap.specs.Simple.{App, Shape, built, entered, names_of, subcommand_of}
use Rattle.clap.specs.Faults.{built_fault, check_fault, defaults_fault, entered_fault, fault_of, other_fault, settle_fault, step_fault, walk_fault}
use Rattle.clap.specs.Kinds.{Kinds, or_else}
use Rattle.clap.specs.declared.error.kind.ErrorKind.TheVariants.{DisplayHelp, InvalidSubcommand, UnknownArgument}
use Rattle.clap.proofs.OnLiterals.{clap_on_literals}
use Rattle.tsb_words.specs.Words.{met_by, met_where}
use Rattle.tsb_words.specs.BenchProgram.{asked_by, program}
use Rattle.tsb_words.specs.BenchWords.{Wish, built_in_of, check_of, files, run_of, wish_of}
use Rattle.tsb_words.proofs.FlagLemmas.{Fails, HasHelpAlone, Sorted, fails-first, fails-last, flag-fails, help, held_with, one-found, or-nothing, sorted, value-met}
use Rattle.tsb_words.proofs.LevelLemmas.{Level, fault_of_word, met_of_word, standing}
use Rattle.tsb_words.proofs.FileLemmas.{Agrees, check-words, check_shape, run-words, run_shape}

abbrev P : App
P = built program

abbrev top : Shape
top = P.top

abbrev names : Names
names = names_of P

top-alone : HasHelpAlone top.rules
top-alone = record {
  long = λ name. one-found (has_long help name) help;
  short = λ x. one-found (has_short help x) help;
}

-- ## After a subcommand's name

-- the walk has met a subcommand, and these words after it
abbrev stopped_at : Text → List Text → Walk
stopped_at name words = record (standing [] None 1 false) { stopped = Some (name, words) }

stopped-walk : (c : List Rule) (ns : Names) (name : Text) (words rest : List Text)
    → fold (walked c ns) (stopped_at name words) rest ≡ stopped_at name (words ++ rest)
unfolding walked
stopped-walk c ns name words [] = ap (stopped_at name) (sym (append-nil words))
stopped-walk c ns name words (word ∷ rest) =
    stopped-walk c ns name (words ++ word ∷ []) rest ∙ ap (stopped_at name) (append_assoc words (word ∷ []) rest)

stopped-fault : (s : Shape) (ns : Names) (name : Text) (words rest : List Text) → walk_fault s ns (stopped_at name words) rest ≡ []
unfolding walked walk_fault
stopped-fault s ns name words [] = refl
stopped-fault s ns name words (word ∷ rest) = stopped-fault s ns name (words ++ word ∷ []) rest

-- what the program fails by, by what its own walk fails by and where it ends
abbrev By : Kinds → Walk → Kinds
By fault w = or_else fault (or_else (entered_fault P w.stopped)
    (or_else (settle_fault top.rules top.args_override_self w.held)
    (or_else (defaults_fault (settled top.rules w.held).rows top.rules)
    (check_fault top (finished top.rules w.held) (is_some (entered P w.stopped))))))

by-fails : (fault : Kinds) (w : Walk) → Fails fault → Fails (By fault w)
by-fails fault w f = fails-first fault (or_else (entered_fault P w.stopped)
    (or_else (settle_fault top.rules top.args_override_self w.held)
    (or_else (defaults_fault (settled top.rules w.held).rows top.rules)
    (check_fault top (finished top.rules w.held) (is_some (entered P w.stopped)))))) f

-- what these words after the program's name fail by, and the subcommand that they name
abbrev faults : List Text → Kinds
faults words = built_fault P nothing_held words

abbrev named_by : List Text → Option (Text × List Row)
named_by words = entered P (stop_after top.rules names words)

faults-check : (rest : List Text) → faults (codes "check" ∷ rest) ≡ or_else (Level check_shape (standing [] None 1 false) rest).0 []
unfolding clap_on_literals
faults-check rest = ap₂ By (stopped-fault top names (codes "check") [] rest) (stopped-walk top.rules names (codes "check") [] rest)

met-check : (rest : List Text) → named_by (codes "check" ∷ rest) ≡ Some (codes "check", (Level check_shape (standing [] None 1 false) rest).1)
unfolding clap_on_literals
met-check rest = ap (λ (w : Walk). entered P w.stopped) (stopped-walk top.rules names (codes "check") [] rest)

faults-run : (rest : List Text) → faults (codes "run" ∷ rest) ≡ or_else (Level run_shape (standing [] None 1 false) rest).0 []
unfolding clap_on_literals
faults-run rest = ap₂ By (stopped-fault top names (codes "run") [] rest) (stopped-walk top.rules names (codes "run") [] rest)

met-run : (rest : List Text) → named_by (codes "run" ∷ rest) ≡ Some (codes "run", (Level run_shape (standing [] None 1 false) rest).1)
unfolding clap_on_literals
met-run rest = ap (λ (w : Walk). entered P w.stopped) (stopped-walk top.rules names (codes "run") [] rest)

abbrev AllAgree : List Text → Type 0
AllAgree words = Agrees (wish_of words) (faults words) (named_by words)

agree-check : (rest : List Text) → AllAgree (codes "check" ∷ rest)
agree-check rest =
    subst₂ (λ (k : Kinds) (m : Option (Text × List Row)). Agrees (check_of (files rest)) k m)
    (sym (faults-check rest ∙ or-nothing (Level check_shape (standing [] None 1 false) rest).0)) (sym (met-check rest)) (check-words rest)

agree-run : (rest : List Text) → AllAgree (codes "run" ∷ rest)
agree-run rest =
    subst₂ (λ (k : Kinds) (m : Option (Text × List Row)). Agrees (run_of (files rest)) k m)
    (sym (faults-run rest ∙ or-nothing (Level run_shape (standing [] None 1 false) rest).0)) (sym (met-run rest)) (run-words rest)

-- ## All other words

agree-dash : (rest : List Text) → AllAgree (codes "--" ∷ rest)
unfolding clap_on_literals
agree-dash [] = (refl, refl)
agree-dash (word ∷ rest) = (UnknownArgument, InvalidSubcommand ∷ [], refl)

fails-help : (rest : List Text) → Fails (faults (codes "help" ∷ rest))
unfolding clap_on_literals
fails-help rest = (DisplayHelp, InvalidSubcommand ∷ [], refl)

-- what the first word fails by, where it names this subcommand or none
abbrev first_fault : Text → Option Text → Kinds
first_fault word name = or_else (other_fault top name word nothing_held)
    (step_fault top 1 (subcommand_or_other top.rules name idle 1 word nothing_held).0 (subcommand_or_other top.rules name idle 1 word nothing_held).1)

fails-by-first : (word : Text) (rest : List Text) → Fails (first_fault word (subcommand_met names idle word)) → Fails (faults (word ∷ rest))
unfolding clap_on_literals
fails-by-first word rest f =
    by-fails (walk_fault top names (walk_from nothing_held) (word ∷ rest)) (walk top.rules names nothing_held (word ∷ rest))
    (fails-first (first_fault word (subcommand_met names idle word)) (walk_fault top names (walked top.rules names (walk_from nothing_held) word) rest) f)

fails-sorted : (word : Text) → bytes_eq word (codes "--") ≡ false → Sorted word → Fails (first_fault word None)
fails-sorted word dash (inl flag) =
    fails-first (fault_of_word top (held_with [] None) word (bytes_eq word (codes "--")))
    (step_fault top 1 (met_of_word top (held_with [] None) 1 word (bytes_eq word (codes "--"))).0 (met_of_word top (held_with [] None) 1 word (bytes_eq word (codes "--"))).1)
    (subst (λ (b : Bool). Fails (fault_of_word top (held_with [] None) word b)) (sym dash) (flag-fails top.rules top-alone top.args_override_self word [] None flag.1))
fails-sorted word dash (inr free) =
    fails-last (fault_of_word top (held_with [] None) word (bytes_eq word (codes "--")))
    (step_fault top 1 (met_of_word top (held_with [] None) 1 word (bytes_eq word (codes "--"))).0 (met_of_word top (held_with [] None) 1 word (bytes_eq word (codes "--"))).1)
    (subst (λ (m : Held × Step). Fails (step_fault top 1 m.0 m.1))
    (sym (ap (met_of_word top (held_with [] None) 1 word) dash ∙ value-met top.rules word [] None free.1)) (UnknownArgument, InvalidSubcommand ∷ [], refl))

-- the first word that answers, by whether it is each of the three names
abbrev name_by : Bool → Bool → Bool → Option Text
name_by is_check is_run is_help = option_map (λ (s : Text × List Text). s.0)
    (cond (is_check || false) (Some (codes "check", [])) (cond (is_run || false) (Some (codes "run", [])) (cond (is_help || false) (Some (codes "help", [])) None)))

no-name : (word : Text) → bytes_eq (codes "check") word ≡ false → bytes_eq (codes "run") word ≡ false → bytes_eq (codes "help") word ≡ false
    → subcommand_met names idle word ≡ None
no-name word check run is_help =
    ap (λ (b : Bool). name_by b (bytes_eq (codes "run") word) (bytes_eq (codes "help") word)) check
    ∙ (ap (λ (b : Bool). name_by false b (bytes_eq (codes "help") word)) run ∙ ap (name_by false false) is_help)

abbrev wish_by : List Text → Bool → Bool → Bool → Option Wish
wish_by rest is_check is_run is_dash =
    if is_check then check_of (files rest) else (if is_run then run_of (files rest) else (if is_dash then built_in_of rest else None))

no-wish : (word : Text) (rest : List Text) → bytes_eq (codes "check") word ≡ false → bytes_eq (codes "run") word ≡ false → bytes_eq word (codes "--") ≡ false
    → wish_of (word ∷ rest) ≡ None
no-wish word rest check run dash =
    ap (λ (b : Bool). wish_by rest b (bytes_eq (codes "run") word) (bytes_eq word (codes "--"))) check
    ∙ (ap (λ (b : Bool). wish_by rest false b (bytes_eq word (codes "--"))) run ∙ ap (wish_by rest false false) dash)

agree-help : (word : Text) (rest : List Text) (b : Bool) → bytes_eq (codes "help") word ≡ b
    → bytes_eq (codes "check") word ≡ false → bytes_eq (codes "run") word ≡ false → bytes_eq word (codes "--") ≡ false → AllAgree (word ∷ rest)
agree-help word rest true is check run dash =
    subst (λ (o : Option Wish). Agrees o (faults (word ∷ rest)) (named_by (word ∷ rest))) (sym (no-wish word rest check run dash))
    (subst (λ (w : Text). Fails (faults (w ∷ rest))) ((bytes_eq-Decides (codes "help") word).0 is) (fails-help rest))
agree-help word rest false is check run dash =
    subst (λ (o : Option Wish). Agrees o (faults (word ∷ rest)) (named_by (word ∷ rest))) (sym (no-wish word rest check run dash))
    (fails-by-first word rest
    (subst (λ (o : Option Text). Fails (first_fault word o)) (sym (no-name word check run is)) (fails-sorted word dash (sorted word dash))))

agree-dashed : (word : Text) (rest : List Text) (b : Bool) → bytes_eq word (codes "--") ≡ b
    → bytes_eq (codes "check") word ≡ false → bytes_eq (codes "run") word ≡ false → AllAgree (word ∷ rest)
agree-dashed word rest true is check run =
    subst (λ (w : Text). AllAgree (w ∷ rest)) (sym ((bytes_eq-Decides word (codes "--")).0 is)) (agree-dash rest)
agree-dashed word rest false is check run = agree-help word rest (bytes_eq (codes "help") word) refl check run is

agree-runs : (word : Text) (rest : List Text) (b : Bool) → bytes_eq (codes "run") word ≡ b → bytes_eq (codes "check") word ≡ false → AllAgree (word ∷ rest)
agree-runs word rest true is check = subst (λ (w : Text). AllAgree (w ∷ rest)) ((bytes_eq-Decides (codes "run") word).0 is) (agree-run rest)
agree-runs word rest false is check = agree-dashed word rest (bytes_eq word (codes "--")) refl check is

agree-checks : (word : Text) (rest : List Text) (b : Bool) → bytes_eq (codes "check") word ≡ b → AllAgree (word ∷ rest)
agree-checks word rest true is = subst (λ (w : Text). AllAgree (w ∷ rest)) ((bytes_eq-Decides (codes "check") word).0 is) (agree-check rest)
agree-checks word rest false is = agree-runs word rest (bytes_eq (codes "run") word) refl is

agree : (words : List Text) → AllAgree words
unfolding clap_on_literals
agree [] = (refl, refl)
agree (word ∷ rest) = agree-checks word rest (bytes_eq (codes "check") word) refl

-- ## All words, the program's name before them

agreed : (wish : Option Wish) (kinds : Kinds) (met : Option (Text × List Row)) → Agrees wish kinds met → option_and_then asked_by (met_where kinds met) ≡ wish
agreed None [] met agrees = let no : [] ≡ agrees.0 ∷ agrees.1 = agrees.2 in absurd (let bad : ⊥ = cc in bad)
agreed None (k ∷ ks) met agrees = refl
agreed (Some wish) [] met agrees = agrees.1
agreed (Some wish) (k ∷ ks) met agrees = let no : (k ∷ ks) ≡ [] = agrees.0 in absurd (let bad : ⊥ = cc in bad)

pub agree-all : (words : List Text) → option_and_then asked_by (met_by program words) ≡ wish_of (drop 1 words)
agree-all words = agreed (wish_of (drop 1 words)) (fault_of program words) (subcommand_of program words) (agree (drop 1 words))
