-- One level of a parse, a word at a time.
use Rattle.std.proofs.Common.{◌≡◌, ◌∙◌, ℕ, Bool, true, false, List, [], ◌∷◌, Option, None, if◌then◌else◌, refl, sym, ap, ap₂, subst, codes, bytes_eq, fold}
use Rattle.clap.specs.Lexer.{long_of}
use Rattle.clap.specs.Walk.{Held, Row, Step, Text, Walk, after_step, finished, idle, long_or_other, settled, trailing, value, walked}
use Rattle.clap.specs.Simple.{Shape}
use Rattle.clap.specs.Faults.{check_fault, defaults_fault, flag_word_fault, settle_fault, step_fault, walk_fault}
use Rattle.clap.specs.Kinds.{Kinds, or_else}
use Rattle.clap.proofs.OnLiterals.{clap_on_literals}
use Rattle.tsb_words.proofs.FlagLemmas.{Fails, fails-first, HasHelpAlone, IsFlag, IsNoFlag, held_with, flag-fails, value-passes, value-met}

-- between two words, where no option waits for a value
abbrev pub standing : List Row → Option (Text × List Text) → ℕ → Bool → Walk
standing rows pending position is_trailing = record {
  held = held_with rows pending;
  waiting = idle;
  position = position;
  is_trailing = is_trailing;
  stopped = None;
}

-- what the end of a level fails by
abbrev pub ending : Shape → Held → Kinds
ending s h = or_else (settle_fault s.rules s.args_override_self h)
    (or_else (defaults_fault (settled s.rules h).rows s.rules) (check_fault s (finished s.rules h) false))

-- what a level without subcommands fails by from here on, and its matches
abbrev pub Level : Shape → Walk → List Text → Kinds × List Row
Level s w words = (
  or_else (walk_fault s [] w words) (or_else [] (ending s (fold (walked s.rules []) w words).held)),
  finished s.rules (fold (walked s.rules []) w words).held,
)

-- the same where the next word fails so and is met so
abbrev pub Turned : Shape → Walk → Text → List Text → Kinds → Held × Step → Kinds × List Row
Turned s w word rest fault met = (
  or_else
      (or_else (or_else fault (step_fault s w.position met.0 met.1)) (walk_fault s [] (after_step s.rules word w met.0 met.1) rest))
      (or_else [] (ending s (fold (walked s.rules []) (after_step s.rules word w met.0 met.1) rest).held)),
  finished s.rules (fold (walked s.rules []) (after_step s.rules word w met.0 met.1) rest).held,
)

turned-fails : (s : Shape) (w : Walk) (word : Text) (rest : List Text) (fault : Kinds) (met : Held × Step)
    → Fails fault → Fails (Turned s w word rest fault met).0
turned-fails s w word rest fault met f =
    let turn = or_else fault (step_fault s w.position met.0 met.1) in
    let after = walk_fault s [] (after_step s.rules word w met.0 met.1) rest in
    fails-first (or_else turn after) (or_else [] (ending s (fold (walked s.rules []) (after_step s.rules word w met.0 met.1) rest).held))
    (fails-first turn after (fails-first fault (step_fault s w.position met.0 met.1) f))

-- how a word is met and what it fails by, where it is `--` or not
abbrev pub fault_of_word : Shape → Held → Text → Bool → Kinds
fault_of_word s h word is_dash = if is_dash then [] else flag_word_fault s.rules s.args_override_self (long_of word) word h

abbrev pub met_of_word : Shape → Held → ℕ → Text → Bool → Held × Step
met_of_word s h position word is_dash = if is_dash then (h, trailing position) else long_or_other s.rules idle word (long_of word) h

-- `--`: what stands after it is no flag
pub level-dash : (s : Shape) (rows : List Row) (p : Option (Text × List Text)) (position : ℕ) (rest : List Text)
    → Level s (standing rows p position false) (codes "--" ∷ rest) ≡ Level s (standing rows p position true) rest
unfolding clap_on_literals
level-dash s rows p position rest = refl

-- a word fails that is met as a flag and fails so
pub level-fails : (s : Shape) (rows : List Row) (p : Option (Text × List Text)) (position : ℕ) (word : Text) (rest : List Text)
    → bytes_eq word (codes "--") ≡ false → Fails (flag_word_fault s.rules s.args_override_self (long_of word) word (held_with rows p))
    → Fails (Level s (standing rows p position false) (word ∷ rest)).0
unfolding clap_on_literals
level-fails s rows p position word rest dash fails =
    turned-fails s (standing rows p position false) word rest (fault_of_word s (held_with rows p) word (bytes_eq word (codes "--"))) (met_of_word s (held_with rows p) position word (bytes_eq word (codes "--")))
    (subst (λ (b : Bool). Fails (fault_of_word s (held_with rows p) word b)) (sym dash) fails)

-- a flag fails
pub level-flag : (s : Shape) → HasHelpAlone s.rules → (rows : List Row) (p : Option (Text × List Text)) (position : ℕ) (word : Text) (rest : List Text)
    → bytes_eq word (codes "--") ≡ false → IsFlag word → Fails (Level s (standing rows p position false) (word ∷ rest)).0
level-flag s alone rows p position word rest dash flag =
    level-fails s rows p position word rest dash (flag-fails s.rules alone s.args_override_self word rows p flag)

-- each other word is a value
pub level-value : (s : Shape) (rows : List Row) (p : Option (Text × List Text)) (position : ℕ) (word : Text) (rest : List Text)
    → bytes_eq word (codes "--") ≡ false → IsNoFlag word
    → Level s (standing rows p position false) (word ∷ rest) ≡ Turned s (standing rows p position false) word rest [] (held_with rows p, value)
unfolding clap_on_literals
level-value s rows p position word rest dash free =
    ap₂ (Turned s (standing rows p position false) word rest)
    (ap (fault_of_word s (held_with rows p) word) dash ∙ value-passes s.rules s.args_override_self word rows p free)
    (ap (met_of_word s (held_with rows p) position word) dash ∙ value-met s.rules word rows p free)
