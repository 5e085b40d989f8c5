-- What `clap` makes of words, and what they ask for by that.
use Rattle.std.proofs.Common.{◌≡◌, ◌∙◌, List, [], ◌∷◌, Option, Some, None, Result, option_and_then, true, refl, sym, ap, subst, inl, inr}
use Rattle.clap.specs.Faults.{is_simple_and_free}
use Rattle.clap.proofs.OnLiterals.{clap_on_literals}
use Rattle.clap.specs.Kinds.{HasKind, IsAmong, Kinds}
use Rattle.clap.specs.Simple.{App}
use Rattle.clap.specs.Values.{kind_of}
use Rattle.clap.specs.Walk.{Row, Text}
use Rattle.clap.specs.declared.error.Error.{Error}
use Rattle.clap.specs.declared.error.kind.ErrorKind.{ErrorKind}
use Rattle.clap.specs.declared.error.kind.ErrorKind.TheVariants.{OutOfMemory}
use Rattle.clap.specs.declared.parser.matches.ArgMatches.{ArgMatches}
use Rattle.tsb_words.specs.BenchProgram as bench
use Rattle.tsb_words.specs.FieldProgram as field
use Rattle.tsb_words.specs.LiveProgram as live
use Rattle.tsb_words.specs.Words.{IsRefused, SpelledBy, met_where, words_fault}
use Rattle.tsb_words.specs.declared.error.WordsError.{WordsError}
use Rattle.tsb_words.specs.declared.error.WordsError.TheVariants.{Memory, Bad}

pub meets : {M : Type 0} (kinds : Kinds) (met : M) → kinds ≡ [] → met_where kinds met ≡ Some met
meets [] met none = refl
meets (k ∷ ks) met none = absurd (cc)

meets-none : {M : Type 0} (kinds : Kinds) (met : M) (k : ErrorKind) → IsAmong k kinds → met_where kinds met ≡ None
meets-none [] met k is = absurd is
meets-none (k ∷ ks) met kind is = refl

refused-by : {W : Type 0} (wish : Option W) (k : ErrorKind) → wish ≡ None → IsRefused wish (words_fault k)
refused-by wish OutOfMemory none = tt
refused-by wish k none = none

-- an error is bad words, or out of memory
pub refused : {M : Type 0} (kinds : Kinds) (met : M) (e : Error) → HasKind kinds e → IsRefused (met_where kinds met) (words_fault (kind_of e))
refused kinds met e (inl memory) = subst (λ (k : ErrorKind). IsRefused (met_where kinds met) (words_fault k)) (sym memory) tt
refused kinds met e (inr is) = refused-by (met_where kinds met) (kind_of e) (meets-none kinds met (kind_of e) is)

-- words that are refused ask for nothing
pub asks-nothing : {W : Type 0} (asked_by : Option (Text × List Row) → Option W) (met : Option (Option (Text × List Row))) (fault : WordsError)
    → IsRefused met fault → IsRefused (option_and_then asked_by met) fault
asks-nothing asked_by met Memory h = tt
asks-nothing asked_by met Bad h = ap (option_and_then asked_by) h

-- words that are taken ask for what the subcommand does that they meet
pub asks : {W A : Type 0} (seen : A → W) (asked_by : Option (Text × List Row) → Option W) (met : Option (Option (Text × List Row))) (found : Option (Text × List Row)) (answer : Result A WordsError)
    → met ≡ Some found → SpelledBy seen (asked_by found) answer → SpelledBy seen (option_and_then asked_by met) answer
asks seen asked_by met found answer is answered =
    subst (λ (o : Option (Option (Text × List Row))). SpelledBy seen (option_and_then asked_by o) answer) (sym is) answered

-- the same of what is made of it, which is nothing where it asks for nothing
pub asks-what : {W : Type 0} (asked_by : Option (Text × List Row) → Option W) (met : Option (Option (Text × List Row))) (found : Option (Text × List Row)) (asked : Option W)
    → met ≡ Some found → asked ≡ asked_by found → option_and_then asked_by met ≡ asked
asks-what asked_by met found asked is made = ap (option_and_then asked_by) is ∙ sym made

-- what is said of the words of a command is said of those of this program, where the command is that of the program
pub of-program : {M : Type 0} (seen : ArgMatches → M) (met : App → List Text → Option M) (app program : App) (words : List Text) (answer : Result ArgMatches WordsError)
    → app ≡ program → is_simple_and_free program ≡ true
    → (is_simple_and_free app ≡ true → SpelledBy seen (met app words) answer) → SpelledBy seen (met program words) answer
of-program seen met app program words answer same free said =
    subst (λ (a : App). SpelledBy seen (met a words) answer) same (said (ap is_simple_and_free same ∙ free))

-- ## `clap` reads the command of each program as `fault_of` has it

pub bench-is-simple-and-free : is_simple_and_free bench.program ≡ true
unfolding clap_on_literals
bench-is-simple-and-free = refl

pub live-is-simple-and-free : is_simple_and_free live.program ≡ true
unfolding clap_on_literals
live-is-simple-and-free = refl

pub field-is-simple-and-free : is_simple_and_free field.program ≡ true
unfolding clap_on_literals
field-is-simple-and-free = refl
