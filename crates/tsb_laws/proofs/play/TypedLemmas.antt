-- The inputs that remain after commands are inputs of these commands.
use Rattle.std.proofs.Common.{ℕ, ◌+◌, ◌-◌, ◌<◌, ◌≤◌, ◌==◌, Bool, true, false, if◌then◌else◌, List, [], ◌∷◌, ◌++◌, length, take, get_or, take_all, sym, subst}
use Rattle.std.proofs.lemmas.List.{take_more}
use Rattle.tsb_step.specs.tsb_machine.declared.commands.MachineCommand.TheVariants as asks
use Rattle.tsb_step.specs.tsb_machine.declared.commands.Answer.{Answer}
use Rattle.tsb_step.specs.tsb_machine.declared.commands.Answer.TheVariants as answers
use Rattle.tsb_step.specs.tsb_history.declared.kinds.Kind.{Kind}
use Rattle.tsb_step.specs.tsb_plan.Plan.{Plan}
use Rattle.tsb_step.specs.declared.inputs.Input.{Input}
use Rattle.tsb_step.specs.Play.{Cmd, back_to, remaining_after, remaining_from, remaining}
use Rattle.tsb_step.specs.Runs.{replay}
use Rattle.tsb_laws.specs.PlayRecords.{IsTypedCommand}
use Rattle.tsb_laws.specs.Runs.{AreTyped}

-- ## Commands whose inputs are typed

abbrev pub AreTypedCommands : List Cmd → Type 0
AreTypedCommands [] = Unit {0}
AreTypedCommands (c ∷ cs) = IsTypedCommand c × AreTypedCommands cs

typed_last : (cs : List Cmd) (c : Cmd) → AreTypedCommands cs → IsTypedCommand c → AreTypedCommands (cs ++ c ∷ [])
typed_last [] c h k = (k, tt)
typed_last (d ∷ cs) c h k = (h.0, typed_last cs c h.1 k)

pub typed_more : (cs : List Cmd) (i : ℕ) (d : Cmd) → i < length cs → AreTypedCommands (take i cs) → IsTypedCommand (get_or cs i d) →
    AreTypedCommands (take (i + 1) cs)
typed_more cs i d here h k = subst AreTypedCommands (sym (take_more cs i d here)) (typed_last (take i cs) (get_or cs i d) h k)

pub typed_all : (cs : List Cmd) (i : ℕ) → length cs ≤ i → AreTypedCommands (take i cs) → AreTypedCommands cs
typed_all cs i past h = subst AreTypedCommands (take_all i cs past) h

-- ## What remains

typed_back : (plan : Plan) (t : ℕ) (is : List Input) → AreTyped is → AreTyped (back_to plan t is)
typed_back plan t [] h = h
typed_back plan t (i ∷ is) h = go ((replay plan (i ∷ is)).now == t) (typed_back plan t is h.1)
  where
    go : (b : Bool) → AreTyped (back_to plan t is) → AreTyped (if b then i ∷ is else back_to plan t is)
    go true k = h
    go false k = k

typed_without : (is : List Input) → AreTyped is → (plan : Plan) (k : Kind) → AreTyped (remaining_after plan is asks.Undo (answers.Undone k))
typed_without [] h plan k = h
typed_without (i ∷ is) h plan k = h.1

typed_after : (plan : Plan) (is : List Input) (c : Cmd) (a : Answer) → AreTyped is → IsTypedCommand c → AreTyped (remaining_after plan is c a)
typed_after plan is (asks.Apply i) answers.Took h k = (k, h)
typed_after plan is asks.Undo (answers.Undone kind) h k = typed_without is h plan kind
typed_after plan is (asks.Back n) answers.Moved h k = typed_back plan ((replay plan is).now - n) is h
typed_after plan is (asks.Seek t) answers.Moved h k = typed_back plan t is h
typed_after plan is c a h k = h

typed_from : (plan : Plan) (is : List Input) (cs : List Cmd) (ans : List Answer) → AreTyped is → AreTypedCommands cs →
    AreTyped (remaining_from plan is cs ans)
typed_from plan is [] ans h k = h
typed_from plan is (c ∷ cs) [] h k = h
typed_from plan is (c ∷ cs) (a ∷ ans) h k = typed_from plan (remaining_after plan is c a) cs ans (typed_after plan is c a h k.0) k.1

pub remaining_typed : (plan : Plan) (cs : List Cmd) (ans : List Answer) → AreTypedCommands cs → AreTyped (remaining plan cs ans)
remaining_typed plan cs ans h = typed_from plan [] cs ans tt h
