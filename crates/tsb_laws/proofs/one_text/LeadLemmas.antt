-- What follows an input leads to one thing, or it is refused since memory ran out.
use Rattle.std.proofs.Common.{◌≡◌, ◌⊎◌, List, [], ◌∷◌, Option, Some, None, refl, sym, ap, ◌∙◌, inl, inr}
use Rattle.tsb_step.specs.tsb_types.declared.refusal.Refusal.{Refusal}
use Rattle.tsb_step.specs.tsb_types.declared.refusal.Refusal.TheVariants.{Memory}
use Rattle.tsb_step.specs.tsb_machine.declared.commands.Answer.TheVariants as answers
use Rattle.tsb_step.specs.tsb_machine.declared.commands.MachineCommand.TheVariants.{Apply}
use Rattle.tsb_step.specs.tsb_plan.Plan.{Plan}
use Rattle.tsb_step.specs.declared.inputs.Input.{Input}
use Rattle.tsb_step.specs.Play.{Cmd, IsRight}
use Rattle.tsb_text.specs.Answers.{GoesUnless, Leads, Setup, refused_after, refused_line}
use Rattle.tsb_text.specs.Ended.{EndsLine}
use Rattle.tsb_laws.proofs.one_text.AnswerLemmas.{answers-alike, refused-same, took-refused}
use Rattle.tsb_laws.proofs.one_text.PartLemmas.{ends-feed}

-- ## Two answers to an input

-- it is taken, and it is refused: only since memory ran out
pub took-apart : (plan : Plan) (is : List Input) (cmd : Cmd) (why : Refusal) → IsRight plan is cmd answers.Took → IsRight plan is cmd (answers.Refused why) → why ≡ Memory
took-apart plan is cmd why x y = elim (answers-alike plan is cmd answers.Took (answers.Refused why) x y) [
  | inl e ↦ absurd (took-refused why e)
  | inr memory ↦ elim memory [
    | inl m ↦ absurd (took-refused Memory m)
    | inr m ↦ refused-same why Memory m
  ]
]

-- it is refused twice
pub refused-apart : (plan : Plan) (is : List Input) (cmd : Cmd) (why whys : Refusal) → IsRight plan is cmd (answers.Refused why) → IsRight plan is cmd (answers.Refused whys) → (why ≡ whys) ⊎ ((why ≡ Memory) ⊎ (whys ≡ Memory))
refused-apart plan is cmd why whys x y = elim (answers-alike plan is cmd (answers.Refused why) (answers.Refused whys) x y) [
  | inl e ↦ inl (refused-same why whys e)
  | inr memory ↦ elim memory [
    | inl m ↦ inr (inl (refused-same why Memory m))
    | inr m ↦ inr (inr (refused-same whys Memory m))
  ]
]

-- ## Two ways on

-- the same was refused, if anything was, and the same inputs remain; or one was refused since memory ran out
abbrev pub LedAlike : Option Refusal → Option Refusal → List Input → List Input → Type 0
LedAlike stop other new left = ((stop ≡ other) × (new ≡ left)) ⊎ ((stop ≡ Some Memory) ⊎ (other ≡ Some Memory))

pub leads-alike : (given : Setup) (is next : List Input) (stop other : Option Refusal) (new left : List Input)
    → Leads given is next stop new → Leads given is next other left → LedAlike stop other new left
leads-alike given is [] stop other new left x y = inl (x.0 ∙ sym y.0, x.1 ∙ sym y.1)
leads-alike given is (i ∷ next) stop other new left (inl x) (inl y) = leads-alike given (i ∷ is) next stop other new left x.1 y.1
leads-alike given is (i ∷ next) stop other new left (inl x) (inr y) = inr (inr (y.refused ∙ ap Some (took-apart given.plan is (Apply i) y.why x.0 y.right)))
leads-alike given is (i ∷ next) stop other new left (inr x) (inl y) = inr (inl (x.refused ∙ ap Some (took-apart given.plan is (Apply i) x.why y.0 x.right)))
leads-alike given is (i ∷ next) stop other new left (inr x) (inr y) = elim (refused-apart given.plan is (Apply i) x.why y.why x.right y.right) [
  | inl e ↦ inl (x.refused ∙ ap Some e ∙ sym y.refused, x.left ∙ sym y.left)
  | inr memory ↦ elim memory [
    | inl m ↦ inr (inl (x.refused ∙ ap Some m))
    | inr m ↦ inr (inr (y.refused ∙ ap Some m))
  ]
]

none-some : (e : Refusal) → None ≡ Some e → ⊥
none-some e h = cc

-- what was refused since memory ran out ends
pub ends-by : (stop why : Option Refusal) (Rest Ending : Type 0) → (Ending → why ≡ stop) → stop ≡ Some Memory → GoesUnless stop Rest Ending → why ≡ Some Memory
ends-by None why Rest Ending so m goes = absurd (none-some Memory m)
ends-by (Some e) why Rest Ending so m goes = so goes ∙ m

-- its refusal is a line, or nothing
pub ends-refused : (stop : Option Refusal) → EndsLine (refused_after [] stop)
ends-refused None = inl refl
ends-refused (Some e) = ends-feed (refused_line e)
