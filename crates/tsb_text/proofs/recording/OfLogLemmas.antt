-- Ticks that have the rows of a log.
use Rattle.std.proofs.Common.{◌≡◌, ◌∙◌, ℕ, ◌+◌, ◌-◌, ◌==◌, Bool, true, false, List, [], ◌∷◌, if◌then◌else◌, refl, sym, ap, rules, eqb}
use Rattle.tsb_bench.specs.tsb_machine.declared.commands.Answer.{Answer}
use Rattle.tsb_bench.specs.tsb_machine.declared.commands.Answer.TheVariants.{Moved, Undone}
use Rattle.tsb_bench.specs.tsb_machine.declared.commands.MachineCommand.TheVariants.{Apply, Undo, Back, Seek}
use Rattle.tsb_step.specs.declared.inputs.Input.{Input}
use Rattle.tsb_step.specs.declared.inputs.Input.TheVariants.{Tick}
use Rattle.tsb_step.specs.Play.{Cmd, back_to, remaining_after}
use Rattle.tsb_step.specs.Runs.{replay}
use Rattle.tsb_step.proofs.ClearLemmas.{one_later}
use Rattle.tsb_log_text.specs.declared.log.LogRow.{LogRow}
use Rattle.tsb_log_text.specs.Logs.{row_at}
use Rattle.tsb_text.specs.Answers.{Setup, next_tick}
use Rattle.tsb_text.specs.declared.course.Mode.{Mode}
use Rattle.tsb_text.specs.declared.course.Mode.TheVariants.{Recording}
use Rattle.tsb_text.specs.kept.Kept.{IsNoTick, last_row}
use Rattle.tsb_text.specs.Obeyed.{AreOfLog, AsksNext, HasRow, IsNext}
use Rattle.tsb_text.specs.Rows.{row_in_force}
use Rattle.tsb_text.specs.Tasks.{AppliesNoTick}
use Rattle.tsb_text.proofs.BackLemmas.{same-now}

later-row : (log : List LogRow) (n : ℕ) → row_in_force log (n + 1) ≡ row_at log (n + 1)
later-row log n = let no : eqb (n + 1) 0 ≡ false = search rules in rw no refl

-- the row of the last tick is the one in force
pub row-there : (given : Setup) (is : List Input) → AreOfLog given is → last_row is ≡ row_in_force given.log (replay given.plan is).now
row-there given [] h = refl
row-there given (Tick row ∷ is) h =
    let next : (replay given.plan (Tick row ∷ is)).now ≡ (replay given.plan is).now + 1 = one_later (replay given.plan is) row in
    h.0 ∙ sym (ap (row_in_force given.log) next ∙ later-row given.log (replay given.plan is).now)
row-there given (i ∷ is) h = row-there given is h.1 ∙ ap (row_in_force given.log) (sym (same-now (replay given.plan is) i tt))

of-log-back : (given : Setup) (t : ℕ) (is : List Input) → AreOfLog given is → AreOfLog given (back_to given.plan t is)
of-log-back given t [] h = h
of-log-back given t (i ∷ is) h = go ((replay given.plan (i ∷ is)).now == t) (of-log-back given t is h.1)
  where
    go : (b : Bool) → AreOfLog given (back_to given.plan t is) → AreOfLog given (if b then i ∷ is else back_to given.plan t is)
    go true rest = h
    go false rest = rest

-- so have those that remain
pub of-log-after : (given : Setup) (is : List Input) (cmd : Cmd) (a : Answer) → ((i : Input) → cmd ≡ Apply i → ⊥) → AreOfLog given is → AreOfLog given (remaining_after given.plan is cmd a)
of-log-after given is (Apply i) a none h = absurd (none i refl)
of-log-after given [] Undo (Undone k) none h = h
of-log-after given (i ∷ is) Undo (Undone k) none h = h.1
of-log-after given is (Back n) Moved none h = of-log-back given ((replay given.plan is).now - n) is h
of-log-after given is (Seek t) Moved none h = of-log-back given t is h
of-log-after given is cmd a none h = h

-- ## What is to come

-- the next tick has its row
pub tick-of-log : (m : Mode) (given : Setup) (is : List Input) → IsNext m given is (next_tick given is)
tick-of-log (Recording form) given is = refl
tick-of-log m given is = tt

no-tick : (given : Setup) (is : List Input) (i : Input) → IsNoTick i → HasRow given is i
no-tick given is (Tick row) none = absurd none
no-tick given is i none = tt

pub input-next : (m : Mode) (given : Setup) (is : List Input) (i : Input) → IsNoTick i → IsNext m given is i
input-next (Recording form) given is i none = no-tick given is i none
input-next m given is i none = tt

-- and what is no tick needs none
pub asks-next : (m : Mode) (given : Setup) (is : List Input) (cmd : Cmd) → AppliesNoTick cmd → AsksNext m given is cmd
asks-next m given is (Apply i) none = input-next m given is i none
asks-next m given is cmd none = tt
