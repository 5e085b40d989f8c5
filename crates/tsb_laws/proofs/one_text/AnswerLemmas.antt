-- Two right answers to one command are the same, or one of them is that memory ran out.
use Rattle.std.proofs.Common.{◌≡◌, ◌⊎◌, ℕ, Bool, true, false, nat_lt, List, [], ◌∷◌, Option, Some, None, refl, sym, ap, ◌∙◌, inl, inr}
use Rattle.std.proofs.lemmas.Bool.{lt-ltb, le-ltb}
use Rattle.tsb_step.specs.tsb_types.declared.refusal.Refusal.{Refusal}
use Rattle.tsb_step.specs.tsb_types.declared.refusal.Refusal.TheVariants.{Memory, NoSuchObject, OutOfRange, Busy, NotOwner, NotOpen, NotVerified, TooManyEdits, NoSuchPattern, NoSuchPreempt, TickLimit, InService}
use Rattle.tsb_step.specs.tsb_types.declared.watch.Watch.{Watch}
use Rattle.tsb_step.specs.tsb_machine.declared.commands.MachineCommand.TheVariants.{Apply, Undo, Back, Seek, When}
use Rattle.tsb_step.specs.tsb_machine.declared.commands.Answer.{Answer}
use Rattle.tsb_step.specs.tsb_machine.declared.commands.Answer.TheVariants.{Took, Refused, Undone, Moved, Nothing, Changed}
use Rattle.tsb_step.specs.tsb_machine.Play.{IsRefusal}
use Rattle.tsb_step.specs.tsb_plan.Plan.{Plan}
use Rattle.tsb_step.specs.declared.inputs.Input.{Input}
use Rattle.tsb_step.specs.State.{State}
use Rattle.tsb_step.specs.Step.{verdict, kind_of}
use Rattle.tsb_step.specs.Play.{Cmd, IsRight, run}
use Rattle.tsb_step.specs.Runs.{replay}
use Rattle.tsb_step.specs.Watches.{TellsLastChange}

-- the same, or one of them is that memory ran out
abbrev pub AreAlike : Answer → Answer → Type 0
AreAlike a b = (a ≡ b) ⊎ ((a ≡ Refused Memory) ⊎ (b ≡ Refused Memory))

-- ## Inputs

-- a refusal that is right is the verdict, if it is not that memory ran out
refusal-is : (found : Option Refusal) (e : Refusal) → IsRefusal found e → (e ≡ Memory) ⊎ (found ≡ Some e)
refusal-is found Memory r = inl refl
refusal-is found NoSuchObject r = inr r
refusal-is found OutOfRange r = inr r
refusal-is found (Busy station) r = inr r
refusal-is found NotOwner r = inr r
refusal-is found NotOpen r = inr r
refusal-is found NotVerified r = inr r
refusal-is found TooManyEdits r = inr r
refusal-is found NoSuchPattern r = inr r
refusal-is found NoSuchPreempt r = inr r
refusal-is found TickLimit r = inr r
refusal-is found InService r = inr r

-- the answer to an input that the verdict on it gives
abbrev IsByVerdict : Option Refusal → Answer → Type 0
IsByVerdict found a = ((found ≡ None) × (a ≡ Took)) ⊎ ((e : Refusal) × (found ≡ Some e) × (a ≡ Refused e))

input-answer : (plan : Plan) (is : List Input) (i : Input) (a : Answer) → IsRight plan is (Apply i) a → (a ≡ Refused Memory) ⊎ IsByVerdict (verdict (replay plan is) i) a
input-answer plan is i Took r = inr (inl (r, refl))
input-answer plan is i (Refused e) r = elim (refusal-is (verdict (replay plan is) i) e r) [
  | inl memory ↦ inl (ap Refused memory)
  | inr found ↦ inr (inr (e, found, refl))
]
input-answer plan is i (Undone k) r = absurd r
input-answer plan is i Moved r = absurd r
input-answer plan is i Nothing r = absurd r
input-answer plan is i (Changed t) r = absurd r

no-refusal : (found : Option Refusal) (e : Refusal) → found ≡ None → found ≡ Some e → ⊥
no-refusal found e none some = cc

one-refusal : (found : Option Refusal) (e f : Refusal) → found ≡ Some e → found ≡ Some f → e ≡ f
one-refusal found e f one other = cc

by-verdict : (found : Option Refusal) (a b : Answer) → IsByVerdict found a → IsByVerdict found b → a ≡ b
by-verdict found a b (inl x) (inl y) = x.1 ∙ sym y.1
by-verdict found a b (inl x) (inr y) = absurd (no-refusal found y.0 x.0 y.1)
by-verdict found a b (inr x) (inl y) = absurd (no-refusal found x.0 y.0 x.1)
by-verdict found a b (inr x) (inr y) = x.2 ∙ ap Refused (one-refusal found x.0 y.0 x.1 y.1) ∙ sym y.2

input-alike : (plan : Plan) (is : List Input) (i : Input) (a b : Answer) → IsRight plan is (Apply i) a → IsRight plan is (Apply i) b → AreAlike a b
input-alike plan is i a b p q = elim (input-answer plan is i a p) [
  | inl memory ↦ inr (inl memory)
  | inr x ↦ elim (input-answer plan is i b q) [
    | inl memory ↦ inr (inr memory)
    | inr y ↦ inl (by-verdict (verdict (replay plan is) i) a b x y)
  ]
]

-- ## The way back

-- what an undo answers where these inputs remain
abbrev undoing : List Input → Answer
undoing [] = Nothing
undoing (i ∷ is) = Undone (kind_of i)

some-input : (i : Input) (is : List Input) → i ∷ is ≡ [] → ⊥
some-input i is e = cc

undo-answer : (plan : Plan) (is : List Input) (a : Answer) → IsRight plan is Undo a → a ≡ undoing is
undo-answer plan is Took r = absurd r
undo-answer plan is (Refused e) r = absurd r
undo-answer plan is Moved r = absurd r
undo-answer plan is (Changed t) r = absurd r
undo-answer plan [] (Undone k) r = absurd r
undo-answer plan (i ∷ is) (Undone k) r = ap Undone r
undo-answer plan [] Nothing r = refl
undo-answer plan (i ∷ is) Nothing r = absurd (some-input i is r)

-- what is answered where a tick number is ahead, and where it is not
abbrev going : Bool → Answer
going true = Nothing
going false = Moved

back-answer : (plan : Plan) (is : List Input) (n : ℕ) (a : Answer) → IsRight plan is (Back n) a → a ≡ going (nat_lt (replay plan is).now n)
back-answer plan is n Moved r = sym (ap going (le-ltb (replay plan is).now n r))
back-answer plan is n Nothing r = sym (ap going (lt-ltb (replay plan is).now n r))
back-answer plan is n Took r = absurd r
back-answer plan is n (Refused e) r = absurd r
back-answer plan is n (Undone k) r = absurd r
back-answer plan is n (Changed t) r = absurd r

seek-answer : (plan : Plan) (is : List Input) (t : ℕ) (a : Answer) → IsRight plan is (Seek t) a → a ≡ going (nat_lt (replay plan is).now t)
seek-answer plan is t Moved r = sym (ap going (le-ltb (replay plan is).now t r))
seek-answer plan is t Nothing r = sym (ap going (lt-ltb (replay plan is).now t r))
seek-answer plan is t Took r = absurd r
seek-answer plan is t (Refused e) r = absurd r
seek-answer plan is t (Undone k) r = absurd r
seek-answer plan is t (Changed c) r = absurd r

-- ## Watches

-- a run has one answer to when a value changed last
one-change : (w : Watch) (ss : List State) (t u : Option ℕ) → TellsLastChange w ss t → TellsLastChange w ss u → t ≡ u
one-change w [] t u p q = p ∙ sym q
one-change w (s ∷ []) t u p q = p ∙ sym q
one-change w (s ∷ (before ∷ rest)) t u p q = elim p [
  | inl x ↦ elim q [
    | inl y ↦ x.1 ∙ sym y.1
    | inr y ↦ absurd (x.0 y.0)
  ]
  | inr x ↦ elim q [
    | inl y ↦ absurd (y.0 x.0)
    | inr y ↦ one-change w (before ∷ rest) t u x.1 y.1
  ]
]

record IsChange (plan : Plan) (is : List Input) (w : Watch) (a : Answer) : Type 0 where
  at : Option ℕ
  answer : a ≡ Changed at
  told : TellsLastChange w (run plan is) at

when-answer : (plan : Plan) (is : List Input) (w : Watch) (a : Answer) → IsRight plan is (When w) a → IsChange plan is w a
when-answer plan is w (Changed t) r = record { at = t; answer = refl; told = r }
when-answer plan is w Took r = absurd r
when-answer plan is w (Refused e) r = absurd r
when-answer plan is w (Undone k) r = absurd r
when-answer plan is w Moved r = absurd r
when-answer plan is w Nothing r = absurd r

when-same : (plan : Plan) (is : List Input) (w : Watch) (a b : Answer) → IsChange plan is w a → IsChange plan is w b → a ≡ b
when-same plan is w a b x y = x.answer ∙ ap Changed (one-change w (run plan is) x.at y.at x.told y.told) ∙ sym y.answer

-- ## Every command

pub answers-alike : (plan : Plan) (is : List Input) (cmd : Cmd) (a b : Answer) → IsRight plan is cmd a → IsRight plan is cmd b → AreAlike a b
answers-alike plan is (Apply i) a b p q = input-alike plan is i a b p q
answers-alike plan is Undo a b p q = inl (undo-answer plan is a p ∙ sym (undo-answer plan is b q))
answers-alike plan is (Back n) a b p q = inl (back-answer plan is n a p ∙ sym (back-answer plan is n b q))
answers-alike plan is (Seek t) a b p q = inl (seek-answer plan is t a p ∙ sym (seek-answer plan is t b q))
answers-alike plan is (When w) a b p q = inl (when-same plan is w a b (when-answer plan is w a p) (when-answer plan is w b q))

-- ## Answers that differ

pub took-refused : (e : Refusal) → Took ≡ Refused e → ⊥
took-refused e h = cc

pub refused-same : (e f : Refusal) → Refused e ≡ Refused f → e ≡ f
refused-same e f h = cc
