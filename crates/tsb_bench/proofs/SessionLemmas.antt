-- What the bench does at each command, and after any commands.
use Rattle.std.proofs.Common.{◌≡◌, ℕ, ◌+◌, ◌<◌, List, [], ◌∷◌, ◌++◌, length, take, get_or, Some, None, sym, ap, subst, ◌∙◌, refl}
use Rattle.std.proofs.lemmas.List.{take_more}
use Rattle.tsb_history.specs.History.{Change, newest_kind}
use Rattle.tsb_history.specs.declared.kinds.Kind.{Kind}
use Rattle.tsb_machine.specs.declared.commands.MachineCommand.TheVariants as asks
use Rattle.tsb_machine.specs.declared.commands.Answer.{Answer}
use Rattle.tsb_machine.specs.declared.commands.Answer.TheVariants as answers
use Rattle.tsb_machine.specs.Laws.{TellsKinds}
use Rattle.tsb_machine.specs.Play.{Answers, Does, DoAll, IsNewest}
use Rattle.tsb_machine.proofs.PlayLemmas.{benches_answer}
use Rattle.tsb_plan.specs.Plan.{Plan}
use Rattle.tsb_step.specs.declared.inputs.Input.{Input}
use Rattle.tsb_step.specs.Past.{Whole, controller, record_of, earlier}
use Rattle.tsb_step.specs.Play.{Cmd}
use Rattle.tsb_step.specs.State.{State, start}
use Rattle.tsb_step.specs.Step.{step, verdict}
use Rattle.tsb_step.specs.Watches.{watched}

pub tells-kinds : TellsKinds controller
tells-kinds i s t = refl

pub does-took : (w new : Whole) (i : Input) → verdict w.state i ≡ None → new.state ≡ step w.state i → new.records ≡ record_of i w.state new.state ∷ w.records → earlier new 1 ≡ w →
    Does controller watched w (asks.Apply i) answers.Took new
does-took w new i allowed steps told back =
    let records_are : new.records ≡ record_of i w.state (step w.state i) ∷ w.records = told ∙ ap (λ (s : State). record_of i w.state s ∷ w.records) steps in
    (allowed, (λ k. record { state = steps k; records = records_are k }), back)

pub newest-is-kind : (rs : List Change) (k : Kind) → newest_kind rs ≡ Some k → IsNewest controller rs k
newest-is-kind [] k h = absurd cc
newest-is-kind (r ∷ rs) k h = cc

-- a bench that does what it says answers right
abbrev IsDoneRight : Whole → Cmd → Answer → Whole → Type 0
IsDoneRight old c a new = record { does : Does controller watched old c a new; right : (plan : Plan) → Answers controller (start plan) watched old c a new }

pub does-right : (old new : Whole) (c : Cmd) (a : Answer) → Does controller watched old c a new → IsDoneRight old c a new
does-right old new c a does = record { does = does; right = λ plan. benches_answer controller (start plan) watched tells-kinds old new c a does }

-- one command more
doing-more : (w mid new : Whole) (cs : List Cmd) (ans : List Answer) (c : Cmd) (a : Answer) → DoAll controller watched w cs ans mid → Does controller watched mid c a new →
    DoAll controller watched w (cs ++ c ∷ []) (ans ++ a ∷ []) new
doing-more w mid new [] [] c a h did = (new, subst (λ (v : Whole). Does controller watched v c a new) h did, refl)
doing-more w mid new [] (b ∷ ans) c a h did = absurd h
doing-more w mid new (e ∷ cs) [] c a h did = absurd h
doing-more w mid new (e ∷ cs) (b ∷ ans) c a h did = (h.0, h.1, doing-more h.0 mid new cs ans c a h.2 did)

pub done-more : (w mid new : Whole) (cs : List Cmd) (ans grown : List Answer) (i : ℕ) (d : Cmd) (a : Answer) → i < length cs → DoAll controller watched w (take i cs) ans mid →
    Does controller watched mid (get_or cs i d) a new → grown ≡ ans ++ a ∷ [] → DoAll controller watched w (take (i + 1) cs) grown new
done-more w mid new cs ans grown i d a here all did grows =
    subst (λ (xs : List Cmd). DoAll controller watched w xs grown new) (sym (take_more cs i d here))
    (subst (λ (xs : List Answer). DoAll controller watched w (take i cs ++ get_or cs i d ∷ []) xs new) (sym grows) (doing-more w mid new (take i cs) ans (get_or cs i d) a all did))
