-- Ticks of which only the changes are told: what `changes N` answers.
use Rattle.std.specs.Prelude.{◌≡◌, ◌⊎◌, ℕ, zero, suc, List, [], ◌∷◌, ◌++◌, Bool, true, false, bytes_eq, drop, take, not, Option, Some, None}
use Rattle.tsb_bench.specs.tsb_machine.declared.commands.MachineCommand.TheVariants.{Apply}
use Rattle.tsb_bench.specs.tsb_machine.declared.commands.Answer.TheVariants.{Took, Refused}
use Rattle.tsb_text.specs.kept.Kept.{last_row}
use Rattle.tsb_step.specs.declared.inputs.Input.{Input}
use Rattle.tsb_step.specs.declared.inputs.Input.TheVariants.{Tick}
use Rattle.tsb_step.specs.tsb_plan.Plan.{Plan}
use Rattle.tsb_step.specs.Events.{events_of, usual_after}
use Rattle.tsb_step.specs.Play.{IsRight}
use Rattle.tsb_step.specs.Runs.{replay}
use Rattle.tsb_types.specs.declared.refusal.Refusal.{Refusal}
use Rattle.tsb_types.specs.declared.row.Row.{Row}
use Rattle.tsb_dialog.specs.Said.{with_feed}
use Rattle.tsb_text.specs.Answers.{GoesUnless, Leads, Setup, followers, line_in, refused_after, refused_line}
use Rattle.tsb_text.specs.Obeys.{Besides, if_told, trail}

-- the heads and the preempt of a display line, or of a wide one: it without its tick number and without its local counter
abbrev pub shown : List ℕ → List ℕ
shown line = take 40 (drop 8 line) ++ drop 53 line

-- two display lines show the same heads and the same preempt
abbrev pub shows_same : List ℕ → List ℕ → Bool
shows_same line other = bytes_eq (shown line) (shown other)

-- a line, if it is owed
abbrev pub owed : Bool → List ℕ → List ℕ
owed true line = with_feed line
owed false line = []

-- the display line after these inputs, or the wide one
abbrev pub line_after : Bool → Plan → List Input → List ℕ
line_after is_wide plan is = line_in is_wide (replay plan is)

-- what is said of a tick that is taken, where this is said of what follows it: its events, where they are told, that, and the
-- display line, if it shows another head or preempt than the line before
abbrev pub tick_text : Bool → Plan → Besides → Row → List Input → List ℕ → List ℕ → List ℕ
tick_text is_wide plan besides row is before after = (if_told besides.tells (events_of (usual_after (last_row is)) (replay plan is) (Tick row)) ++ after)
    ++ owed (not (shows_same (line_after is_wide plan (Tick row ∷ is)) before)) (line_after is_wide plan (Tick row ∷ is))

-- the tick is refused: the line before it is told, if it is owed, and the refusal
pub record Stopped (plan : Plan) (besides : Besides) (row : Row) (is : List Input) (before : List ℕ) (is_owed : Bool) (text : List ℕ) (refusal : Option Refusal) (new : List Input) : Type 0 where
  pub why : Refusal
  pub right : IsRight plan is (Apply (Tick row)) (Refused why)
  pub line : text ≡ owed is_owed before ++ (besides.echo ++ with_feed (refused_line why))
  pub refused : refusal ≡ Some why
  pub left : new ≡ is

-- what follows a tick was refused: the line of the tick is said, if it is owed, and the refusal, and no more ticks are taken
abbrev pub Ends : Besides → List ℕ → Bool → Option Refusal → List Input → List ℕ → Option Refusal → List Input → Type 0
Ends besides before is_owed stop left text refusal new =
    (text ≡ owed is_owed before ++ refused_after besides.echo stop) × (refusal ≡ stop) × (new ≡ left)

-- a tick was taken, and what follows it, which leaves these inputs; or that was refused. This is said of both
pub record Follows (given : Setup) (besides : Besides) (row : Row) (is : List Input) (before said : List ℕ) (stop : Option Refusal) (left : List Input) : Type 0 where
  pub leads : Leads given (Tick row ∷ is) (followers given is (Tick row)) stop left
  pub told : said ≡ tick_text given.is_wide given.plan besides row is before (trail besides.tells given (Tick row ∷ is) (followers given is (Tick row)) left)

-- so many ticks with these inputs, up to one that is refused, after this display line, which is owed where it was not told.
-- Each display line is told that shows another head or preempt than the line before, and the last.
abbrev pub Changes : Setup → Besides → Row → List Input → List ℕ → Bool → ℕ → List ℕ → Option Refusal → List Input → Type 0
Changes given besides row is before is_owed zero text refusal new = (text ≡ owed is_owed before) × (refusal ≡ None) × (new ≡ is)
Changes given besides row is before is_owed (suc n) text refusal new =
    (IsRight given.plan is (Apply (Tick row)) Took × (told rest : List ℕ) × (stop : Option Refusal) × (left : List Input)
    × Follows given besides row is before told stop left × (text ≡ told ++ rest)
    × GoesUnless stop (Changes given besides row left (line_after given.is_wide given.plan (Tick row ∷ is)) (shows_same (line_after given.is_wide given.plan (Tick row ∷ is)) before) n rest refusal new)
    (Ends besides (line_after given.is_wide given.plan (Tick row ∷ is)) (shows_same (line_after given.is_wide given.plan (Tick row ∷ is)) before) stop left rest refusal new))
    ⊎ Stopped given.plan besides row is before is_owed text refusal new

-- what follows a tick is taken, and this is said around it: the events of the tick, its own, and the line of the tick
pub record TellsTick (given : Setup) (tells : Bool) (is next : List Input) (news line : List ℕ) (text : List ℕ) (refusal : Option Refusal) (new : List Input) : Type 0 where
  pub leads : Leads given is next refusal new
  pub told : text ≡ (news ++ trail tells given is next new) ++ line
