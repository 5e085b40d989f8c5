-- What a command comes to where more may be said than a session says: the events of inputs, and the command itself.
use Rattle.std.specs.Prelude.{◌≡◌, ◌⊎◌, ℕ, zero, suc, length, nat_lt, List, [], ◌∷◌, ◌++◌, Bool, false, Option, Some, None, codes, if◌then◌else◌}
use Rattle.std.specs.Fmt.{decimal}
use Rattle.tsb_bench.specs.tsb_machine.declared.commands.MachineCommand.TheVariants as asks
use Rattle.tsb_bench.specs.tsb_machine.declared.commands.Answer.{Answer}
use Rattle.tsb_bench.specs.tsb_machine.declared.commands.Answer.TheVariants.{Took, Refused, Moved}
use Rattle.tsb_bench.specs.tsb_step.declared.inputs.Input.{Input}
use Rattle.tsb_bench.specs.tsb_step.Events.{events_of, usual_after}
use Rattle.tsb_bench.specs.tsb_step.Play.{Cmd, IsRight, remaining_after}
use Rattle.tsb_bench.specs.tsb_step.Runs.{replay}
use Rattle.tsb_display_text.specs.Line.{tick_field}
use Rattle.tsb_dialog.specs.Said.{with_feed}
use Rattle.tsb_text.specs.kept.Kept.{last_row}
use Rattle.tsb_objects.specs.tsb_types.declared.event.Event.{Event}
use Rattle.tsb_objects.specs.tsb_types.declared.refusal.Refusal.{Refusal}
use Rattle.tsb_text.specs.declared.task.Task.{Task}
use Rattle.tsb_text.specs.declared.task.Task.TheVariants.{Ticks, Show, Quit, Ask}
use Rattle.tsb_text.specs.Answers.{GoesUnless, Leads, Setup, followers, followers_of, line_in, next_tick, refused_after, refused_line, told}

-- whether inputs tell their events, and what stands before an answer that is no display line
pub record Besides : Type 0 where
  pub tells : Bool
  pub echo : List ℕ

-- a session says nothing besides
abbrev pub nothing_besides : Besides
nothing_besides = record { tells = false; echo = [] }

-- ## Events

-- the line of an event: its tick, its code and its parameter
abbrev pub event_line : Event → List ℕ
event_line e = codes "event " ++ (tick_field e.tick ++ (32 ∷ (decimal e.code ++ (32 ∷ decimal e.parameter))))

-- the lines of events
abbrev pub events_text : List Event → List ℕ
events_text [] = []
events_text (e ∷ es) = with_feed (event_line e) ++ events_text es

-- what these events tell, where they are told
abbrev pub if_told : Bool → List Event → List ℕ
if_told tells es = if tells then events_text es else []

-- what an input tells that is taken
abbrev pub news : Bool → Setup → List Input → Input → List ℕ
news tells given is i = if_told tells (events_of (usual_after (last_row is)) (replay given.plan is) i)

-- the lines of the events of what follows, up to what these inputs have that are left
abbrev pub trail : Bool → Setup → List Input → List Input → List Input → List ℕ
trail tells given is [] left = []
trail tells given is (i ∷ next) left =
    if nat_lt (length is) (length left) then news tells given is i ++ trail tells given (i ∷ is) next left else []

-- ## Commands
-- Inputs are piled up, the newest first, and the state is that of their replay.

-- why an input was refused that was answered so, if it was
abbrev pub refusal_in : Answer → Option Refusal
refusal_in (Refused e) = Some e
refusal_in a = None

-- what stands before the line of an answer, of which an input that was taken told this
abbrev pub before_line : List ℕ → Answer → List ℕ → List ℕ
before_line echo Took told = echo ++ told
before_line echo Moved told = []
before_line echo a told = echo

-- what an input tells, if the bench is asked to take one
abbrev pub news_of : Bool → Setup → List Input → Cmd → List ℕ
news_of tells given is (asks.Apply i) = news tells given is i
news_of tells given is cmd = []

-- the first refusal, or where there is none the second
abbrev pub or_refusal : Option Refusal → Option Refusal → Option Refusal
or_refusal (Some e) stop = Some e
or_refusal None stop = stop

-- so of what follows what was asked and answered so
abbrev pub trail_of : Bool → Setup → List Input → Cmd → Answer → List Input → List ℕ
trail_of tells given is cmd answer left = trail tells given (remaining_after given.plan is cmd answer) (followers_of given is cmd answer) left

-- a command that asks the bench once: it is answered by what tells a right answer, and what follows is taken
pub record AsksOnce (given : Setup) (besides : Besides) (is : List Input) (cmd : Cmd) (text : List ℕ) (refusal : Option Refusal) (new : List Input) : Type 0 where
  pub answer : Answer
  pub right : IsRight given.plan is cmd answer
  pub stop : Option Refusal
  pub left : Leads given (remaining_after given.plan is cmd answer) (followers_of given is cmd answer) stop new
  pub line : text ≡ (before_line besides.echo answer (news_of besides.tells given is cmd) ++ trail_of besides.tells given is cmd answer new)
      ++ (with_feed (told given.is_wide cmd answer (replay given.plan (remaining_after given.plan is cmd answer))) ++ refused_after besides.echo stop)
  pub refused : refusal ≡ or_refusal (refusal_in answer) stop

-- the tick is taken, and what follows it, which leaves these inputs; the events of both, the display line after the
-- tick, a refusal of what follows, and then this
pub record Ticked (given : Setup) (besides : Besides) (is : List Input) (text rest : List ℕ) (stop : Option Refusal) (left : List Input) : Type 0 where
  pub right : IsRight given.plan is (asks.Apply (next_tick given is)) Took
  pub leads : Leads given (next_tick given is ∷ is) (followers given is (next_tick given is)) stop left
  pub line : text ≡ (news besides.tells given is (next_tick given is) ++ trail besides.tells given (next_tick given is ∷ is) (followers given is (next_tick given is)) left)
      ++ (with_feed (line_in given.is_wide (replay given.plan (next_tick given is ∷ is))) ++ (refused_after besides.echo stop ++ rest))

-- the tick is refused, and leaves all as it was. Out of memory the bench may refuse any tick.
pub record Stopped (given : Setup) (besides : Besides) (is : List Input) (text : List ℕ) (refusal : Option Refusal) (new : List Input) : Type 0 where
  pub why : Refusal
  pub right : IsRight given.plan is (asks.Apply (next_tick given is)) (Refused why)
  pub line : text ≡ besides.echo ++ with_feed (refused_line why)
  pub refused : refusal ≡ Some why
  pub left : new ≡ is

-- so many ticks, up to one that is refused
abbrev pub TakesTicks : Setup → Besides → List Input → ℕ → List ℕ → Option Refusal → List Input → Type 0
TakesTicks given besides is zero text refusal new = (text ≡ []) × (refusal ≡ None) × (new ≡ is)
TakesTicks given besides is (suc n) text refusal new =
    ((rest : List ℕ) × (stop : Option Refusal) × (left : List Input) × Ticked given besides is text rest stop left
    × GoesUnless stop (TakesTicks given besides left n rest refusal new) ((rest ≡ []) × (refusal ≡ stop) × (new ≡ left)))
    ⊎ Stopped given besides is text refusal new

-- what is said to what is asked where these inputs remain, why it was refused, if it was, and the inputs that remain then
abbrev pub Obeys : Setup → Besides → List Input → Task → List ℕ → Option Refusal → List Input → Type 0
Obeys given besides is (Ticks n) text refusal new = TakesTicks given besides is n text refusal new
Obeys given besides is Show text refusal new = (text ≡ with_feed (line_in given.is_wide (replay given.plan is))) × (refusal ≡ None) × (new ≡ is)
Obeys given besides is Quit text refusal new = (text ≡ []) × (refusal ≡ None) × (new ≡ is)
Obeys given besides is (Ask cmd) text refusal new = AsksOnce given besides is cmd text refusal new
