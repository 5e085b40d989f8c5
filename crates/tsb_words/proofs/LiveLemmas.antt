-- What `tsb_live` makes of all its words.
use Rattle.std.proofs.Common.{◌≡◌, ◌∙◌, ◌||◌, ◌==◌, ℕ, Bool, true, false, cond, List, [], ◌∷◌, Option, Some, None, if◌then◌else◌, is_some, refl, sym, ap, ap₂, subst, inl, inr, codes, bytes_eq, drop, unwrap_or}
use Rattle.std.proofs.lemmas.List.Folds.{list_any_at}
use Rattle.std.proofs.lemmas.Slice.Eq.{bytes_eq-Decides}
use Rattle.std.specs.List.{after_first}
use Rattle.clap.specs.Faults.{entered_fault, fault_of, flag_word_fault, level_fault, long_fault}
use Rattle.clap.specs.Kinds.{Kinds}
use Rattle.clap.specs.Lexer.{has_byte, long_of, name_and_value}
use Rattle.clap.specs.Matches.{first_value, one_text}
use Rattle.clap.specs.Simple.{App, Shape, built, entered, filled, matches_of, with_index}
use Rattle.clap.specs.Walk.{Row, Rule, Text, Walk, first_of, has_short, nothing_held, one_of, rows_of, stop_after, used, value}
use Rattle.clap.specs.declared.error.kind.ErrorKind.TheVariants.{ArgumentConflict, MissingRequiredArgument, TooManyValues, UnknownArgument}
use Rattle.clap.specs.declared.parser.matches.Found.{Found}
use Rattle.clap.proofs.CutLemmas.{Lacks}
use Rattle.clap.proofs.LexerLemmas.{name_and_value-without}
use Rattle.clap.proofs.OnLiterals.{clap_on_literals}
use Rattle.clap.proofs.WalkLemmas.{one_text-rows}
use Rattle.tsb_words.specs.declared.error.WordsError.{WordsError}
use Rattle.tsb_words.specs.declared.error.WordsError.TheVariants.{Memory, Bad}
use Rattle.tsb_words.specs.BenchWords.{is_flag}
use Rattle.tsb_words.specs.LiveProgram.{flag_rule, flag_text, plan_rule, program, wish_with}
use Rattle.tsb_words.specs.LiveWords.{Wish, named_last, wish_after, wish_of}
use Rattle.tsb_words.specs.Words.{IsRefused, met_where}
use Rattle.tsb_words.proofs.FlagLemmas.{Fails, IsFlag, Sorted, help, held_with, long-fails, one-found, short-flag-fails, sorted}
use Rattle.tsb_words.proofs.LevelLemmas.{Level, Turned, standing, level-dash, level-fails, level-value}
use Rattle.tsb_words.proofs.OptionLemmas.{first_is}

-- words that ask for something pass and give it, and all others fail
abbrev pub Gives : Option Wish → Kinds × List Row → Type 0
Gives None level = Fails level.0
Gives (Some wish) level =
    (level.0 ≡ []) × (first_of (codes "PLAN") level.1 ≡ Some wish.plan) × (one_of (codes "strict") level.1 ≡ Some (flag_text wish.is_strict))

-- ## The command as it is built

abbrev P : App
P = built program

abbrev top : Shape
top = P.top

abbrev plan_id : Text
plan_id = codes "PLAN"

abbrev plan_built : Rule
plan_built = with_index 1 (filled plan_rule)

abbrev flag_built : Rule
flag_built = filled flag_rule

-- ## Flags

-- without `=` a text is a name
lacks : (text : Text) → has_byte 61 text ≡ false → Lacks 61 text
lacks text none i inside is =
    let there : has_byte 61 text ≡ true = list_any_at (λ (x : ℕ). x == 61) text i 0 inside (ap (λ (x : ℕ). x == 61) is) in
    absurd (let bad : ⊥ = cc in bad)

-- which flag a name after two hyphens is
abbrev found_by : Bool → Bool → Option Rule
found_by is_strict is_help = cond (is_strict || false) (Some flag_built) (cond (is_help || false) (Some help) None)

-- the flag takes no value, and without one the word is `--strict`
strict-fails : (text : Text) (again b : Bool) (rows : List Row) (p : Option (Text × List Text)) → has_byte 61 text ≡ b
    → bytes_eq (codes "strict") (name_and_value text).0 ≡ true → bytes_eq (45 ∷ 45 ∷ text) (codes "--strict") ≡ false
    → Fails (long_fault top.rules again (Some flag_built) (name_and_value text).1 (held_with rows p))
strict-fails text again true rows p has name other =
    subst (λ (v : Option Text). Fails (long_fault top.rules again (Some flag_built) v (held_with rows p)))
    (sym (ap (λ (b : Bool). if b then Some (after_first (λ (x : ℕ). x == 61) text) else None) has)) (TooManyValues, [], refl)
strict-fails text again false rows p has name other =
    let whole : (name_and_value text).0 ≡ text = ap (λ (parts : Text × Option Text). parts.0) (name_and_value-without text (lacks text has)) in
    let same : codes "strict" ≡ text = (bytes_eq-Decides (codes "strict") (name_and_value text).0).0 name ∙ whole in
    let no : true ≡ false = subst (λ (t : Text). bytes_eq (45 ∷ 45 ∷ t) (codes "--strict") ≡ false) (sym same) other in
    absurd (let bad : ⊥ = cc in bad)

long-flag-fails : (text : Text) (again is_strict : Bool) (rows : List Row) (p : Option (Text × List Text)) → bytes_eq (codes "strict") (name_and_value text).0 ≡ is_strict
    → bytes_eq (45 ∷ 45 ∷ text) (codes "--strict") ≡ false
    → Fails (long_fault top.rules again (found_by (bytes_eq (codes "strict") (name_and_value text).0) (bytes_eq (codes "help") (name_and_value text).0)) (name_and_value text).1 (held_with rows p))
long-flag-fails text again true rows p name other =
    subst (λ (b : Bool). Fails (long_fault top.rules again (found_by b (bytes_eq (codes "help") (name_and_value text).0)) (name_and_value text).1 (held_with rows p))) (sym name)
    (strict-fails text again (has_byte 61 text) rows p refl name other)
long-flag-fails text again false rows p name other =
    subst (λ (b : Bool). Fails (long_fault top.rules again (found_by b (bytes_eq (codes "help") (name_and_value text).0)) (name_and_value text).1 (held_with rows p))) (sym name)
    (long-fails top.rules (one-found (bytes_eq (codes "help") (name_and_value text).0 || false) help) again (name_and_value text).1 (held_with rows p))

-- each flag but `--strict` fails
other-flag-fails : (again : Bool) (word : Text) (rows : List Row) (p : Option (Text × List Text)) → bytes_eq word (codes "--strict") ≡ false → IsFlag word
    → Fails (flag_word_fault top.rules again (long_of word) word (held_with rows p))
other-flag-fails again word rows p other (inl long) =
    subst (λ (l : Option (Text × Option Text)). Fails (flag_word_fault top.rules again l word (held_with rows p))) (sym long.2)
    (long-flag-fails long.0 again (bytes_eq (codes "strict") (name_and_value long.0).0) rows p refl
    (subst (λ (w : Text). bytes_eq w (codes "--strict") ≡ false) long.1 other))
other-flag-fails again word rows p other (inr short) =
    short-flag-fails top.rules (λ x. one-found (has_short help x) help) again word rows p short

-- ## A word

abbrev wish_by : Bool → Option Text → Text → List Text → Bool → Bool → Bool → Option Wish
wish_by is_strict plan word rest is_dash is_strict_word is_other =
    if is_dash then named_last is_strict plan rest
    else (if is_strict_word then (if is_strict then None else wish_after true plan rest)
    else (if is_other then None
    else (if is_some plan then None else wish_after is_strict (Some word) rest)))

abbrev wish_at : Bool → Option Text → Text → List Text → Option Wish
wish_at is_strict plan word rest = wish_by is_strict plan word rest (bytes_eq word (codes "--")) (bytes_eq word (codes "--strict")) (is_flag word)

wish-other : (is_strict : Bool) (plan : Option Text) (word : Text) (rest : List Text) (b : Bool) → bytes_eq word (codes "--") ≡ false → bytes_eq word (codes "--strict") ≡ false → is_flag word ≡ b
    → wish_at is_strict plan word rest ≡ wish_by is_strict plan word rest false false b
wish-other is_strict plan word rest b dash strict flag =
    ap (λ (x : Bool). wish_by is_strict plan word rest x (bytes_eq word (codes "--strict")) (is_flag word)) dash
    ∙ ap (λ (x : Bool). wish_by is_strict plan word rest false x (is_flag word)) strict
    ∙ ap (wish_by is_strict plan word rest false false) flag

-- where the walk stands, with the flag or not, and with this plan or none
module _ (is_strict : Bool) (plan : Option Text) (rows : List Row) (p : Option (Text × List Text)) (position : ℕ) where
  abbrev Stands : Bool → Walk
  Stands = standing rows p position

  by-sorted : (word : Text) (rest : List Text) → bytes_eq word (codes "--") ≡ false → bytes_eq word (codes "--strict") ≡ false → Sorted word
      → Gives (if is_some plan then None else wish_after is_strict (Some word) rest) (Turned top (Stands false) word rest [] (held_with rows p, value))
      → Gives (wish_at is_strict plan word rest) (Level top (Stands false) (word ∷ rest))
  by-sorted word rest dash strict (inl flag) named =
      subst (λ (o : Option Wish). Gives o (Level top (Stands false) (word ∷ rest))) (sym (wish-other is_strict plan word rest true dash strict flag.0))
      (level-fails top rows p position word rest dash (other-flag-fails top.args_override_self word rows p strict flag.1))
  by-sorted word rest dash strict (inr free) named =
      subst (λ (o : Option Wish). Gives o (Level top (Stands false) (word ∷ rest))) (sym (wish-other is_strict plan word rest false dash strict free.0))
      (subst (Gives (if is_some plan then None else wish_after is_strict (Some word) rest)) (sym (level-value top rows p position word rest dash free.1)) named)

  by-strict : (word : Text) (rest : List Text) (b : Bool) → bytes_eq word (codes "--strict") ≡ b → bytes_eq word (codes "--") ≡ false
      → Gives (if is_strict then None else wish_after true plan rest) (Level top (Stands false) (codes "--strict" ∷ rest))
      → Gives (if is_some plan then None else wish_after is_strict (Some word) rest) (Turned top (Stands false) word rest [] (held_with rows p, value))
      → Gives (wish_at is_strict plan word rest) (Level top (Stands false) (word ∷ rest))
  by-strict word rest true strict dash flagged named =
      subst (λ (w : Text). Gives (wish_at is_strict plan w rest) (Level top (Stands false) (w ∷ rest))) (sym ((bytes_eq-Decides word (codes "--strict")).0 strict)) flagged
  by-strict word rest false strict dash flagged named = by-sorted word rest dash strict (sorted word dash) named

  by-word : (word : Text) (rest : List Text) (b : Bool) → bytes_eq word (codes "--") ≡ b
      → Gives (named_last is_strict plan rest) (Level top (Stands true) rest)
      → Gives (if is_strict then None else wish_after true plan rest) (Level top (Stands false) (codes "--strict" ∷ rest))
      → Gives (if is_some plan then None else wish_after is_strict (Some word) rest) (Turned top (Stands false) word rest [] (held_with rows p, value))
      → Gives (wish_at is_strict plan word rest) (Level top (Stands false) (word ∷ rest))
  by-word word rest true dash last flagged named =
      subst (λ (w : Text). Gives (wish_at is_strict plan w rest) (Level top (Stands false) (w ∷ rest))) (sym ((bytes_eq-Decides word (codes "--")).0 dash))
      (subst (Gives (named_last is_strict plan rest)) (sym (level-dash top rows p position rest)) last)
  by-word word rest false dash last flagged named = by-strict word rest (bytes_eq word (codes "--strict")) refl dash flagged named

-- ## Where the walk can stand

abbrev flag_rows : List Row → List Row
flag_rows rows = used flag_built [] rows

abbrev plan_rows : Text → List Row
plan_rows plan = used plan_built (plan ∷ []) []

abbrev pending : Text → Option (Text × List Text)
pending plan = Some (plan_id, plan ∷ [])

-- a plan and the flag behind it
both-last : (plan : Text) (words : List Text) → Gives (named_last true (Some plan) words) (Level top (standing (flag_rows (plan_rows plan)) None 2 true) words)
unfolding clap_on_literals
both-last plan [] = (refl, refl, refl)
both-last plan (word ∷ rest) = (UnknownArgument, [], refl)

both-flagged : (plan : Text) (rest : List Text) → Fails (Level top (standing (flag_rows (plan_rows plan)) None 2 false) (codes "--strict" ∷ rest)).0
unfolding clap_on_literals
both-flagged plan rest = (ArgumentConflict, [], refl)

both-named : (plan word : Text) (rest : List Text) → Fails (Turned top (standing (flag_rows (plan_rows plan)) None 2 false) word rest [] (held_with (flag_rows (plan_rows plan)) None, value)).0
unfolding clap_on_literals
both-named plan word rest = (UnknownArgument, [], refl)

both : (plan : Text) (words : List Text) → Gives (wish_after true (Some plan) words) (Level top (standing (flag_rows (plan_rows plan)) None 2 false) words)
unfolding clap_on_literals
both plan [] = (refl, refl, refl)
both plan (word ∷ rest) =
    by-word true (Some plan) (flag_rows (plan_rows plan)) None 2 word rest (bytes_eq word (codes "--")) refl
    (both-last plan rest) (both-flagged plan rest) (both-named plan word rest)

-- the flag and a plan behind it
flag-plan-last : (plan : Text) (words : List Text) → Gives (named_last true (Some plan) words) (Level top (standing (flag_rows []) (pending plan) 2 true) words)
unfolding clap_on_literals
flag-plan-last plan [] = (refl, refl, refl)
flag-plan-last plan (word ∷ rest) = (UnknownArgument, [], refl)

flag-plan-flagged : (plan : Text) (rest : List Text) → Fails (Level top (standing (flag_rows []) (pending plan) 2 false) (codes "--strict" ∷ rest)).0
unfolding clap_on_literals
flag-plan-flagged plan rest = (ArgumentConflict, [], refl)

flag-plan-named : (plan word : Text) (rest : List Text) → Fails (Turned top (standing (flag_rows []) (pending plan) 2 false) word rest [] (held_with (flag_rows []) (pending plan), value)).0
unfolding clap_on_literals
flag-plan-named plan word rest = (UnknownArgument, [], refl)

flag-plan : (plan : Text) (words : List Text) → Gives (wish_after true (Some plan) words) (Level top (standing (flag_rows []) (pending plan) 2 false) words)
unfolding clap_on_literals
flag-plan plan [] = (refl, refl, refl)
flag-plan plan (word ∷ rest) =
    by-word true (Some plan) (flag_rows []) (pending plan) 2 word rest (bytes_eq word (codes "--")) refl
    (flag-plan-last plan rest) (flag-plan-flagged plan rest) (flag-plan-named plan word rest)

-- the flag alone
flag-last : (words : List Text) → Gives (named_last true None words) (Level top (standing (flag_rows []) None 1 true) words)
unfolding clap_on_literals
flag-last [] = (MissingRequiredArgument, [], refl)
flag-last (plan ∷ []) = (refl, refl, refl)
flag-last (plan ∷ word ∷ rest) = (UnknownArgument, [], refl)

flag-flagged : (rest : List Text) → Fails (Level top (standing (flag_rows []) None 1 false) (codes "--strict" ∷ rest)).0
unfolding clap_on_literals
flag-flagged rest = (ArgumentConflict, [], refl)

flag-named : (word : Text) (rest : List Text)
    → Turned top (standing (flag_rows []) None 1 false) word rest [] (held_with (flag_rows []) None, value) ≡ Level top (standing (flag_rows []) (pending word) 2 false) rest
unfolding clap_on_literals
flag-named word rest = refl

flag : (words : List Text) → Gives (wish_after true None words) (Level top (standing (flag_rows []) None 1 false) words)
unfolding clap_on_literals
flag [] = (MissingRequiredArgument, [], refl)
flag (word ∷ rest) =
    by-word true None (flag_rows []) None 1 word rest (bytes_eq word (codes "--")) refl
    (flag-last rest) (flag-flagged rest)
    (subst (Gives (wish_after true (Some word) rest)) (sym (flag-named word rest)) (flag-plan word rest))

-- a plan alone
plan-last : (plan : Text) (words : List Text) → Gives (named_last false (Some plan) words) (Level top (standing [] (pending plan) 2 true) words)
unfolding clap_on_literals
plan-last plan [] = (refl, refl, refl)
plan-last plan (word ∷ rest) = (UnknownArgument, [], refl)

plan-flagged : (plan : Text) (rest : List Text)
    → Level top (standing [] (pending plan) 2 false) (codes "--strict" ∷ rest) ≡ Level top (standing (flag_rows (plan_rows plan)) None 2 false) rest
unfolding clap_on_literals
plan-flagged plan rest = refl

plan-named : (plan word : Text) (rest : List Text) → Fails (Turned top (standing [] (pending plan) 2 false) word rest [] (held_with [] (pending plan), value)).0
unfolding clap_on_literals
plan-named plan word rest = (UnknownArgument, [], refl)

plan-alone : (plan : Text) (words : List Text) → Gives (wish_after false (Some plan) words) (Level top (standing [] (pending plan) 2 false) words)
unfolding clap_on_literals
plan-alone plan [] = (refl, refl, refl)
plan-alone plan (word ∷ rest) =
    by-word false (Some plan) [] (pending plan) 2 word rest (bytes_eq word (codes "--")) refl
    (plan-last plan rest) (subst (Gives (wish_after true (Some plan) rest)) (sym (plan-flagged plan rest)) (both plan rest)) (plan-named plan word rest)

-- nothing yet
none-last : (words : List Text) → Gives (named_last false None words) (Level top (standing [] None 1 true) words)
unfolding clap_on_literals
none-last [] = (MissingRequiredArgument, [], refl)
none-last (plan ∷ []) = (refl, refl, refl)
none-last (plan ∷ word ∷ rest) = (UnknownArgument, [], refl)

none-flagged : (rest : List Text) → Level top (standing [] None 1 false) (codes "--strict" ∷ rest) ≡ Level top (standing (flag_rows []) None 1 false) rest
unfolding clap_on_literals
none-flagged rest = refl

none-named : (word : Text) (rest : List Text)
    → Turned top (standing [] None 1 false) word rest [] (held_with [] None, value) ≡ Level top (standing [] (pending word) 2 false) rest
unfolding clap_on_literals
none-named word rest = refl

none : (words : List Text) → Gives (wish_after false None words) (Level top (standing [] None 1 false) words)
unfolding clap_on_literals
none [] = (MissingRequiredArgument, [], refl)
none (word ∷ rest) =
    by-word false None [] None 1 word rest (bytes_eq word (codes "--")) refl
    (none-last rest) (subst (Gives (wish_after true None rest)) (sym (none-flagged rest)) (flag rest))
    (subst (Gives (wish_after false (Some word) rest)) (sym (none-named word rest)) (plan-alone word rest))

-- ## All words, the program's name before them

-- there is no subcommand to be met
none-entered : (stop : Option (Text × List Text)) → entered P stop ≡ None
none-entered None = refl
none-entered (Some met) = refl

none-fails : (stop : Option (Text × List Text)) → entered_fault P stop ≡ []
none-fails None = refl
none-fails (Some met) = refl

faults : (words : List Text) → fault_of program words ≡ (Level top (standing [] None 1 false) (drop 1 words)).0
faults words =
    let stop = stop_after top.rules [] (drop 1 words) in
    ap₂ (λ (o : Option (Text × List Row)) (k : Kinds). level_fault top [] nothing_held (drop 1 words) (is_some o) k) (none-entered stop) (none-fails stop)

pub gives-all : (words : List Text) → Gives (wish_of (drop 1 words)) (fault_of program words, matches_of program words)
gives-all words =
    subst (λ (k : Kinds). Gives (wish_of (drop 1 words)) (k, matches_of program words)) (sym (faults words)) (none (drop 1 words))

-- ## What is made of that

-- the flag was set, by what its getter answers
flag-is : (f : Found) (set is_strict : Bool) → (one_text f (codes "strict") ≡ Some (codes "true") → set ≡ true) → (one_text f (codes "strict") ≡ Some (codes "false") → set ≡ false)
    → one_of (codes "strict") (rows_of f) ≡ Some (flag_text is_strict) → is_strict ≡ set
flag-is f set true on off is = sym (on (one_text-rows f (codes "strict") ∙ is))
flag-is f set false on off is = sym (off (one_text-rows f (codes "strict") ∙ is))

pub asks-live : (f : Found) (plan : Text) (set is_strict : Bool) → Some plan ≡ first_value f (codes "PLAN")
    → (one_text f (codes "strict") ≡ Some (codes "true") → set ≡ true) → (one_text f (codes "strict") ≡ Some (codes "false") → set ≡ false)
    → one_of (codes "strict") (rows_of f) ≡ Some (flag_text is_strict)
    → wish_with (first_of (codes "PLAN") (rows_of f)) is_strict ≡ Some (record { plan = plan; is_strict = set })
asks-live f plan set is_strict named on off is = ap₂ wish_with (first_is f (codes "PLAN") (Some plan) named) (flag-is f set is_strict on off is)

met-fails : (kinds : Kinds) (rows given : List Row) → Fails kinds → met_where kinds rows ≡ Some given → ⊥
met-fails [] rows given fails met = let no : [] ≡ fails.0 ∷ fails.1 = fails.2 in let bad : ⊥ = cc in bad
met-fails (k ∷ ks) rows given fails met = let no : None ≡ Some given = met in let bad : ⊥ = cc in bad

met-is : (kinds : Kinds) (rows given : List Row) → kinds ≡ [] → met_where kinds rows ≡ Some given → rows ≡ given
met-is [] rows given none met = ap (λ (o : Option (List Row)). unwrap_or o rows) met
met-is (k ∷ ks) rows given none met = absurd (let bad : ⊥ = cc in bad)

met-not : (kinds : Kinds) (rows : List Row) → kinds ≡ [] → met_where kinds rows ≡ None → ⊥
met-not [] rows none met = let no : Some rows ≡ None = met in let bad : ⊥ = cc in bad
met-not (k ∷ ks) rows none met = let bad : ⊥ = cc in bad

-- words that are refused ask for nothing
pub live-refused : (wish : Option Wish) (kinds : Kinds) (rows : List Row) (fault : WordsError) → Gives wish (kinds, rows)
    → IsRefused (met_where kinds rows) fault → IsRefused wish fault
live-refused wish kinds rows Memory gives refuses = tt
live-refused None kinds rows Bad gives refuses = refl
live-refused (Some wish) kinds rows Bad gives refuses = absurd (met-not kinds rows gives.0 refuses)

-- words that are taken ask for what was made of them
pub live-asked : (wish : Option Wish) (kinds : Kinds) (rows given : List Row) (asked : Option Wish) → Gives wish (kinds, rows) → met_where kinds rows ≡ Some given
    → ((is_strict : Bool) → one_of (codes "strict") given ≡ Some (flag_text is_strict) → asked ≡ wish_with (first_of (codes "PLAN") given) is_strict)
    → wish ≡ asked
live-asked None kinds rows given asked gives met answered = absurd (met-fails kinds rows given gives met)
live-asked (Some wish) kinds rows given asked gives met answered =
    let same : rows ≡ given = met-is kinds rows given gives.0 met in
    let named : first_of (codes "PLAN") given ≡ Some wish.plan = subst (λ (r : List Row). first_of (codes "PLAN") r ≡ Some wish.plan) same gives.1 in
    let set : one_of (codes "strict") given ≡ Some (flag_text wish.is_strict) = subst (λ (r : List Row). one_of (codes "strict") r ≡ Some (flag_text wish.is_strict)) same gives.2 in
    sym (answered wish.is_strict set ∙ ap (λ (o : Option Text). wish_with o wish.is_strict) named)
