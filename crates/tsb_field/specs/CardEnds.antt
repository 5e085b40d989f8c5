-- How `card` ends: with the card of a plan, or with what the card in a file has otherwise.
use Rattle.std.specs.Prelude.{◌≡◌, ◌⊎◌, ℕ, Bool, if◌then◌else◌, List, ◌++◌, Option, Some, None, Result, Ok, Err, codes, decimal}
use Rattle.tsb_card.specs.Lines.{card_text, is_otherwise, others_text, some_pair}
use Rattle.tsb_card.specs.Pairs.{is_permissive}
use Rattle.tsb_card.specs.Reading.{has_pair, pairs_of}
use Rattle.tsb_card.specs.declared.read.CardFault.{CardFault}
use Rattle.tsb_card.specs.declared.read.CardFault.TheVariants.{Malformed, TooLarge}
use Rattle.tsb_program.specs.Read.{HasPlan, IsFront, RefusesPlanAt}
use Rattle.tsb_program.specs.Told.{FailsToReadFile, RefusesAt}
use Rattle.tsb_program.specs.declared.clue.PlanClue.{PlanClue}
use Rattle.tsb_program.specs.tsb_lines.Seen.{Seen, Tells}
use Rattle.tsb_text.specs.tsb_plan.Plan.{Plan}
use Rattle.tsb_text.specs.tsb_plan_text.declared.error.PlanError.{PlanError}
use Rattle.tsb_field.specs.ReviewEnds.{Answered}

-- the line of the fault of a text that is no card
abbrev pub fault_line : CardFault → List ℕ
fault_line TooLarge = codes "card: too large\n"
fault_line (Malformed n) = codes "card line " ++ (decimal n ++ codes ": malformed\n")

-- the status where a card was compared: 5 where it has a pair otherwise than it should, and else 0
abbrev pub status_of : (wanted found : ℕ → ℕ → Bool) → ℕ
status_of wanted found = if some_pair (is_otherwise wanted found) then 5 else 0

-- what a text gives was compared with the card that is wanted: what its pairs have otherwise is written; or it is no card,
-- with its fault among the errors and 1, and nothing is written
abbrev pub ReadCompared : (wanted : ℕ → ℕ → Bool) → Result (List (ℕ × ℕ)) CardFault → ℕ → (old new told tells : Seen) → Type 0
ReadCompared wanted (Ok pairs) status old new told tells =
    Answered status (status_of wanted (has_pair pairs)) (others_text wanted (has_pair pairs)) old new told tells
ReadCompared wanted (Err fault) status old new told tells = (status ≡ 1) × (new ≡ old) × Tells told tells (fault_line fault)

-- the card in a file was compared with the one that is wanted; or the file or memory failed, with its line among the
-- errors, and nothing is written
abbrev pub Compared : (wanted : ℕ → ℕ → Bool) → List ℕ → Option (List ℕ) → ℕ → (old new told tells : Seen) → Type 0
Compared wanted path file status old new told tells =
    ((text : List ℕ) × IsFront file 65537 text × ReadCompared wanted (pairs_of text) status old new told tells)
    ⊎ ((new ≡ old) × FailsToReadFile path status told tells)

-- the card that is wanted is written; or, where words name a file, that in the file was compared with it
abbrev pub CardGiven : (wanted : ℕ → ℕ → Bool) → Option (List ℕ) → (List ℕ → Option (List ℕ)) → ℕ → (old new told tells : Seen) → Type 0
CardGiven wanted None files status old new told tells = Answered status 0 (card_text wanted) old new told tells
CardGiven wanted (Some path) files status old new told tells = Compared wanted path (files path) status old new told tells

-- the card is that of the plan in this file; or the fault of the file or of the plan goes to the errors
abbrev pub Carded : ℕ → List ℕ → Option (List ℕ) → (List ℕ → Option (List ℕ)) → (old new told tells : Seen) → Type 0
Carded status path against files old new told tells =
    ((plan : Plan) × HasPlan (files path) plan × CardGiven (is_permissive plan) against files status old new told tells)
    ⊎ (((fault : PlanError) × (clue : Option PlanClue) × RefusesPlanAt (files path) fault clue × (new ≡ old) × RefusesAt fault clue status told tells)
    ⊎ ((new ≡ old) × FailsToReadFile path status told tells))
