-- What holds of the texts of sessions, as statements. What a session writes is one of the texts that the definition
-- gives (`IsText` of tsb_text). It leaves open where memory runs out, and nothing else.
--
-- All are proved, each as the contract of a function that does nothing (src/one_text.rt).
use Rattle.std.specs.Prelude.{◌≡◌, ◌⊎◌, ℕ, Bool, false, List, ◌++◌, Option, Some, Ok, bytes_eq}
use Rattle.std.specs.List.{list_any}
use Rattle.tsb_step.specs.tsb_types.declared.refusal.Refusal.TheVariants.{Memory}
use Rattle.tsb_step.specs.declared.inputs.Input.{Input}
use Rattle.tsb_text.specs.tsb_lines.Lines.{split}
use Rattle.tsb_text.specs.Answers.{Setup, refused_line}
use Rattle.tsb_text.specs.Ended.{EndsLine, Ended}
use Rattle.tsb_text.specs.Text.{IsText}
use Rattle.tsb_text.specs.Written.{with_feed}

-- ## Out of memory, in a text

-- what answers a command that the bench refuses as out of memory
abbrev pub memory_line : List ℕ
memory_line = refused_line Memory

-- a line of the text says that memory ran out
abbrev pub tells_memory : List ℕ → Bool
tells_memory text = list_any (bytes_eq memory_line) (split text)

-- after lines that both texts begin with, the first says that memory ran out
pub record PartsAtMemory (text other : List ℕ) : Type 0 where
  pub front : List ℕ
  pub behind : List ℕ
  pub others : List ℕ
  pub ended : EndsLine front
  pub told : text ≡ front ++ (with_feed memory_line ++ behind)
  pub shared : other ≡ front ++ others

-- they are equal, or they are up to a line where one of them says that memory ran out
abbrev pub AreEqualButForMemory : List ℕ → List ℕ → Type 0
AreEqualButForMemory text other = (text ≡ other) ⊎ (PartsAtMemory text other ⊎ PartsAtMemory other text)

-- ## Texts

-- what is said of any two texts that a session may write to the same bytes, where these inputs remain
abbrev pub OfTwoTexts : (List ℕ → List ℕ → Type 0) → Type 0
OfTwoTexts fact = (given : Setup) (inputs : List Input) (bytes text other : List ℕ) → IsText given inputs bytes text →
    IsText given inputs bytes other → fact text other

-- Two texts to the same bytes part nowhere but where one of them says that memory ran out.
abbrev pub TextsPartAtMemory : Type 0
TextsPartAtMemory = OfTwoTexts AreEqualButForMemory

-- Where neither does, they are equal.
abbrev pub OneText : Type 0
OneText = OfTwoTexts (λ text other. tells_memory text ≡ false → tells_memory other ≡ false → text ≡ other)

-- a text to these bytes that does not say that memory ran out
pub record Untold (given : Setup) (inputs : List Input) (bytes : List ℕ) : Type 0 where
  pub text : List ℕ
  pub so : IsText given inputs bytes text
  pub none : tells_memory text ≡ false

-- There is one to all bytes, and so, by the law before, no other.
abbrev pub SomeTextIsUntold : Type 0
SomeTextIsUntold = (given : Setup) (inputs : List Input) (bytes : List ℕ) → Untold given inputs bytes

-- ## Sessions

-- what `session` promises where it answers Ok, of a reader that has these bytes
pub record Session (given : Setup) (bytes : List ℕ) : Type 0 where
  pub left : Option (List ℕ)
  pub old : Option (List ℕ)
  pub new : Option (List ℕ)
  pub ended : Ended (Ok tt) given (Some bytes) left old new

-- So two sessions over the same plan, log and bytes have written the same, where neither said that memory ran out.
abbrev pub SessionsWriteOneText : Type 0
SessionsWriteOneText = (given : Setup) (bytes : List ℕ) (session other : Session given bytes) → tells_memory session.ended.written ≡ false →
    tells_memory other.ended.written ≡ false → session.ended.written ≡ other.ended.written
