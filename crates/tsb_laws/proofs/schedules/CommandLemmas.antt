-- What a command leaves where the schedule acts, its parts, and `pattern` and `omit` commands, leave where it does not.
use Rattle.std.proofs.Common.{◌≡◌, ℕ, zero, suc, List, [], ◌∷◌, ◌++◌, Option, Some, None, refl, ap, subst, inl, inr}
use Rattle.tsb_step.specs.tsb_types.declared.refusal.Refusal.{Refusal}
use Rattle.tsb_step.specs.tsb_machine.declared.commands.Answer.{Answer}
use Rattle.tsb_step.specs.tsb_machine.declared.commands.Answer.TheVariants.{Took}
use Rattle.tsb_step.specs.tsb_machine.declared.commands.MachineCommand.TheVariants.{Apply}
use Rattle.tsb_step.specs.declared.inputs.Input.{Input}
use Rattle.tsb_step.specs.Play.{Cmd, IsRight, remaining_after}
use Rattle.tsb_step.specs.Runs.{replay}
use Rattle.tsb_dialog.specs.Said.{with_feed}
use Rattle.tsb_text.specs.Answers.{GoesUnless, Leads, Setup, line_in, followers, followers_of, next_tick, refused_after, told}
use Rattle.tsb_text.specs.Obeys.{AsksOnce, TakesTicks, Ticked, before_line, news, news_of, nothing_besides, or_refusal, refusal_in, trail, trail_of}
use Rattle.tsb_text.specs.declared.task.Task.{Task}
use Rattle.tsb_text.specs.declared.task.Task.TheVariants.{Ask, Quit, Show, Ticks}
use Rattle.tsb_text.specs.recording.Leaves.{LeavesOf}
use Rattle.tsb_laws.specs.Schedules.{ArePartsOf, IsPart, LeaveAll, quiet}
use Rattle.tsb_laws.proofs.schedules.FollowLemmas.{AreSelections, IsSelection, follows-selections}

-- ## Where the schedule does not act

quiet-alone : (given : Setup) (is new : List Input) (cmd : Cmd) (a : Answer) → Leads (quiet given) new (followers_of (quiet given) is cmd a) None new
quiet-alone given is new (Apply i) Took = (refl, refl)
quiet-alone given is new (Apply i) a = (refl, refl)
quiet-alone given is new cmd a = (refl, refl)

or-none : (refusal : Option Refusal) → refusal ≡ or_refusal refusal None
or-none None = refl
or-none (Some e) = refl

-- the text of the answer
asked-text : Setup → List Input → Cmd → Answer → List ℕ
asked-text given is cmd a =
    (before_line [] a (news_of nothing_besides.tells (quiet given) is cmd) ++ trail_of nothing_besides.tells (quiet given) is cmd a (remaining_after given.plan is cmd a))
    ++ (with_feed (told given.is_wide cmd a (replay given.plan (remaining_after given.plan is cmd a))) ++ refused_after [] None)

quiet-asks : (given : Setup) (is : List Input) (cmd : Cmd) (a : Answer) → IsRight given.plan is cmd a → LeavesOf (quiet given) is (Ask cmd) (refusal_in a) (remaining_after given.plan is cmd a)
unfolding asked-text
quiet-asks given is cmd a right = (
  asked-text given is cmd a,
  record { answer = a; right = right; stop = None; left = quiet-alone given is (remaining_after given.plan is cmd a) cmd a; line = refl; refused = or-none (refusal_in a) },
)

tick-text : Setup → List Input → List ℕ
tick-text given is =
    (news nothing_besides.tells (quiet given) is (next_tick given is) ++ trail nothing_besides.tells (quiet given) (next_tick given is ∷ is) [] (next_tick given is ∷ is))
    ++ (with_feed (line_in given.is_wide (replay given.plan (next_tick given is ∷ is))) ++ (refused_after [] None ++ []))

quiet-ticks : (given : Setup) (is : List Input) → IsRight given.plan is (Apply (next_tick given is)) Took → LeavesOf (quiet given) is (Ticks 1) None (next_tick given is ∷ is)
unfolding tick-text
quiet-ticks given is right =
    (tick-text given is, inl ([], None, next_tick given is ∷ is, record { right = right; leads = (refl, refl); line = refl }, (refl, refl, refl)))

-- ## Parts

-- parts of a task leave these inputs
abbrev pub PartsLeave : Setup → Task → List Input → List Input → Type 0
PartsLeave given t is new = (ts : List Task) × ArePartsOf t ts × LeaveAll (quiet given) is ts new

one-before : (given : Setup) (t u : Task) (is mid new : List Input) (refusal : Option Refusal) → IsPart t u → LeavesOf (quiet given) is u refusal mid → PartsLeave given t mid new → PartsLeave given t is new
one-before given t u is mid new refusal part leaves rest = (u ∷ rest.0, (part, rest.1), (refusal, mid, leaves, rest.2))

all-before : (given : Setup) (t : Task) (ts : List Task) (is mid new : List Input) → ArePartsOf t ts → LeaveAll (quiet given) is ts mid → PartsLeave given t mid new → PartsLeave given t is new
all-before given t [] is mid new parts same rest = subst (λ (l : List Input). PartsLeave given t l new) same rest
all-before given t (u ∷ us) is mid new parts leave rest =
    one-before given t u is leave.1 new leave.0 parts.0 leave.2 (all-before given t us leave.1 mid new parts.1 leave.3 rest)

-- a `pattern` or `omit` command is a part
selection-part : (t : Task) (i : Input) → IsSelection i → IsPart t (Ask (Apply i))
selection-part t i (inl pattern) = inr (inr (inl (pattern.0, ap (λ (j : Input). Ask (Apply j)) pattern.1)))
selection-part t i (inr arrows) = inr (inr (inr (arrows.0, ap (λ (j : Input). Ask (Apply j)) arrows.1)))

-- what follows an input leaves what such commands leave, one after another
led-parts : (given : Setup) (t : Task) (is new next : List Input) (stop : Option Refusal) → AreSelections next → Leads given is next stop new → PartsLeave given t is new
led-parts given t is new [] stop selections leads = ([], tt, leads.1)
led-parts given t is new (i ∷ next) stop selections (inl x) =
    one-before given t (Ask (Apply i)) is (i ∷ is) new None (selection-part t i selections.0) (quiet-asks given is (Apply i) Took x.0) (led-parts given t (i ∷ is) new next stop selections.1 x.1)
led-parts given t is new (i ∷ next) stop selections (inr x) = ([], tt, x.left)

-- ## What asks the bench once

of-selections : (given : Setup) (is : List Input) (cmd : Cmd) (a : Answer) → AreSelections (followers_of given is cmd a)
of-selections given is (Apply i) Took = follows-selections given is i
of-selections given is (Apply i) a = tt
of-selections given is cmd a = tt

ask-parts : (given : Setup) (is new : List Input) (cmd : Cmd) (text : List ℕ) (refusal : Option Refusal) → AsksOnce given nothing_besides is cmd text refusal new → PartsLeave given (Ask cmd) is new
ask-parts given is new cmd text refusal x =
    one-before given (Ask cmd) (Ask cmd) is (remaining_after given.plan is cmd x.answer) new (refusal_in x.answer) (inl refl) (quiet-asks given is cmd x.answer x.right)
    (led-parts given (Ask cmd) (remaining_after given.plan is cmd x.answer) new (followers_of given is cmd x.answer) x.stop (of-selections given is cmd x.answer) x.left)

-- ## Ticks

-- a part of some ticks is one of more
more-part : (n : ℕ) (u : Task) → IsPart (Ticks n) u → IsPart (Ticks (suc n)) u
more-part n u (inl e) = inr (inl (suc n, n, refl, e))
more-part n u (inr (inl x)) = inr (inl (suc n, x.1, refl, x.3))
more-part n u (inr (inr x)) = inr (inr x)

more-parts : (n : ℕ) (ts : List Task) → ArePartsOf (Ticks n) ts → ArePartsOf (Ticks (suc n)) ts
more-parts n [] parts = tt
more-parts n (u ∷ us) parts = (more-part n u parts.0, more-parts n us parts.1)

more-leave : (given : Setup) (n : ℕ) (is new : List Input) → PartsLeave given (Ticks n) is new → PartsLeave given (Ticks (suc n)) is new
more-leave given n is new x = (x.0, more-parts n x.0 x.1, x.2)

-- after a tick and what follows it
rest-parts : (given : Setup) (n : ℕ) (mid new : List Input) (rest : List ℕ) (stop refusal : Option Refusal)
    → ((is : List Input) (text : List ℕ) → TakesTicks given nothing_besides is n text refusal new → PartsLeave given (Ticks n) is new)
    → GoesUnless stop (TakesTicks given nothing_besides mid n rest refusal new) ((rest ≡ []) × (refusal ≡ stop) × (new ≡ mid)) → PartsLeave given (Ticks (suc n)) mid new
rest-parts given n mid new rest None refusal on goes = more-leave given n mid new (on mid rest goes)
rest-parts given n mid new rest (Some e) refusal on goes = ([], tt, goes.2)

tick-parts : (given : Setup) (n : ℕ) (is mid new : List Input) (text rest : List ℕ) (stop : Option Refusal) → Ticked given nothing_besides is text rest stop mid → PartsLeave given (Ticks (suc n)) mid new → PartsLeave given (Ticks (suc n)) is new
tick-parts given n is mid new text rest stop x later =
    let tick : Input = next_tick given is in
    let led : PartsLeave given (Ticks (suc n)) (tick ∷ is) mid = led-parts given (Ticks (suc n)) (tick ∷ is) mid (followers given is tick) stop (follows-selections given is tick) x.leads in
    one-before given (Ticks (suc n)) (Ticks 1) is (tick ∷ is) new None (inr (inl (suc n, 1, refl, refl))) (quiet-ticks given is x.right)
    (all-before given (Ticks (suc n)) led.0 (tick ∷ is) mid new led.1 led.2 later)

ticks-parts : (given : Setup) (n : ℕ) (is new : List Input) (text : List ℕ) (refusal : Option Refusal) → TakesTicks given nothing_besides is n text refusal new → PartsLeave given (Ticks n) is new
ticks-parts given zero is new text refusal x = ([], tt, x.2)
ticks-parts given (suc n) is new text refusal (inl x) =
    tick-parts given n is x.2 new text x.0 x.1 x.3 (rest-parts given n x.2 new x.0 x.1 refusal (λ left said. ticks-parts given n left new said refusal) x.4)
ticks-parts given (suc n) is new text refusal (inr x) = ([], tt, x.left)

-- ## Every task

pub schedules-commands : (given : Setup) (is new : List Input) (t : Task) (refusal : Option Refusal) → LeavesOf given is t refusal new → PartsLeave given t is new
schedules-commands given is new (Ticks n) refusal x = ticks-parts given n is new x.0 refusal x.1
schedules-commands given is new (Ask cmd) refusal x = ask-parts given is new cmd x.0 refusal x.1
schedules-commands given is new Show refusal x = ([], tt, x.1.2)
schedules-commands given is new Quit refusal x = ([], tt, x.1.2)
