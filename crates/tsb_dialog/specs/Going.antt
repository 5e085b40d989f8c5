-- How far a dialog has come with the bytes that it has read: what its own calls tell one another.
use Rattle.std.specs.Prelude.{◌≡◌, ◌+◌, ℕ, List, [], ◌++◌, length, Option, Result, Ok, Err}
use Rattle.std.specs.Io.KnownBytes.{Consumes}
use Rattle.tsb_lines.specs.declared.writes.WriteError.{WriteError}
use Rattle.tsb_dialog.specs.declared.answers.Flow.{Flow}
use Rattle.tsb_dialog.specs.declared.answers.Flow.TheVariants.{On, Over}
use Rattle.tsb_dialog.specs.declared.error.DialogError.{DialogError}
use Rattle.tsb_dialog.specs.declared.error.DialogError.TheVariants.{Write}
use Rattle.tsb_dialog.specs.Heard.{Heard, IsAnswered, IsOver, IsSaid}
use Rattle.tsb_dialog.specs.Said.{Wrote}
use Rattle.tsb_dialog.specs.Says.{Saying}

-- bytes were taken, and more was said after this text: the dialog goes on, or a line ended it, or a fault came
abbrev pub Fed : {A S : Type 0} → ℕ → (A → S → Type 0) → Saying S → S → List ℕ → List ℕ → Result Flow WriteError → A → ℕ → List ℕ
    → Option (List ℕ) → Option (List ℕ) → List ℕ → List ℕ → Type 0
Fed {S = S} most stands says from bytes text (Ok On) new number held before after waited waits =
    (now : S) × stands new now × Wrote before after waited waits (λ more. Heard most says from bytes (text ++ more) number now held)
Fed {S = S} most stands says from bytes text (Ok Over) new number held before after waited waits =
    (end : S) × stands new end × Wrote before after waited waits (λ more. IsOver most says from bytes (text ++ more) end)
Fed {S = S} most stands says from bytes text (Err e) new number held before after waited waits =
    Wrote before after waited waits (λ more. (rest : List ℕ) × IsSaid most says from bytes ((text ++ more) ++ rest))

-- at the end of the input the last line was answered, and all was written; or a fault came
abbrev pub Finished : {A S : Type 0} → ℕ → (A → S → Type 0) → Saying S → S → List ℕ → List ℕ → Result (Unit {0}) WriteError → A
    → Option (List ℕ) → Option (List ℕ) → List ℕ → List ℕ → Type 0
Finished {S = S} most stands says from bytes text (Ok u) new before after waited waits =
    (end : S) × stands new end × (waits ≡ []) × Wrote before after waited waits (λ more. IsAnswered most says from bytes (text ++ more) end)
Finished {S = S} most stands says from bytes text (Err e) new before after waited waits =
    Wrote before after waited waits (λ more. (rest : List ℕ) × (end : S) × IsAnswered most says from bytes ((text ++ more) ++ rest) end)

-- what a dialog ends with after a write
abbrev pub as_dialog : Result (Unit {0}) WriteError → Result (Unit {0}) DialogError
as_dialog (Ok u) = Ok u
as_dialog (Err e) = Err Write

-- the bytes that were read so far, of which this many more may come, and what was said for them
pub record Going {A S : Type 0} (most limit : ℕ) (stands : A → S → Type 0) (says : Saying S) (from : S) (new : A) (number : ℕ) (held : List ℕ) (budget : ℕ) (input left before after : Option (List ℕ)) (waits : List ℕ) : Type 0 where
  pub now : S
  pub here : stands new now
  pub read : List ℕ
  pub taken : Consumes input left read
  pub wrote : Wrote before after [] waits (λ text. Heard most says from read text number now held)
  pub fits : length read + budget ≡ limit
