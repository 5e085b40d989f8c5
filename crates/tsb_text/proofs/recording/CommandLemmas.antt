-- What lines leave is what remains of some commands with right answers.
use Rattle.std.proofs.Common.{zero, suc, ◌≡◌, ℕ, List, [], ◌∷◌, Some, None, refl, ap, subst, inl, inr}
use Rattle.std.specs.declared.option.Option.{Option}
use Rattle.tsb_types.specs.declared.refusal.Refusal.{Refusal}
use Rattle.tsb_bench.specs.tsb_machine.declared.commands.Answer.{Answer}
use Rattle.tsb_bench.specs.tsb_machine.declared.commands.Answer.TheVariants.{Took, Refused}
use Rattle.tsb_bench.specs.tsb_machine.declared.commands.MachineCommand.TheVariants as asks
use Rattle.tsb_step.specs.tsb_plan.Plan.{Plan}
use Rattle.tsb_step.specs.declared.inputs.Input.{Input}
use Rattle.tsb_step.specs.declared.inputs.Input.TheVariants.{Clock}
use Rattle.tsb_step.specs.Play.{AreRight, AreRightFrom, Cmd, IsRight, remaining, remaining_after, remaining_from}
use Rattle.tsb_step.specs.Step.{verdict}
use Rattle.tsb_command_text.specs.declared.command.Reading.{Reading}
use Rattle.tsb_command_text.specs.declared.command.Reading.TheVariants.{Skip, Bad, Lines, Do}
use Rattle.tsb_command_text.specs.Readings.{reading}
use Rattle.tsb_dialog.specs.declared.answers.Flow.{Flow}
use Rattle.tsb_dialog.specs.declared.answers.Flow.TheVariants.{On, Over}
use Rattle.tsb_text.specs.Answers as answers
use Rattle.tsb_text.specs.Answers.{GoesUnless, Setup, followers, followers_of, next_tick}
use Rattle.tsb_text.specs.Obeys.{Obeys, TakesTicks, nothing_besides}
use Rattle.tsb_text.specs.Tasks.{task_of}
use Rattle.tsb_text.specs.declared.task.Task.{Task}
use Rattle.tsb_text.specs.declared.task.Task.TheVariants as tasks
use Rattle.tsb_text.specs.declared.task.Task.TheVariants.{Ask, Ticks}
use Rattle.tsb_text.specs.Stops.{Stopped}
use Rattle.tsb_text.specs.declared.faults.LineFault.{LineFault}
use Rattle.tsb_text.specs.declared.faults.OnFault.{OnFault}
use Rattle.tsb_text.specs.recording.Leaves.{BeginsWith, Come, Does, End, Ends, Follows, quits}
use Rattle.tsb_text.specs.Stops.{flow_after, stopped_at}

-- commands with right answers lead from some inputs to others
pub record Leads (plan : Plan) (is new : List Input) : Type 0 where
  pub cs : List Cmd
  pub ans : List Answer
  pub right : AreRightFrom plan is cs ans
  pub left : new ≡ remaining_from plan is cs ans

pub stay : (plan : Plan) (is new : List Input) → new ≡ is → Leads plan is new
stay plan is new same = record { cs = []; ans = []; right = tt; left = same }

pub one : (plan : Plan) (is new : List Input) (c : Cmd) (a : Answer) → IsRight plan is c a → new ≡ remaining_after plan is c a → Leads plan is new
one plan is new c a right left = record { cs = c ∷ []; ans = a ∷ []; right = (right, tt); left = left }

-- one command, and then others
pub onto : (plan : Plan) (is last : List Input) (c : Cmd) (a : Answer) → IsRight plan is c a → Leads plan (remaining_after plan is c a) last → Leads plan is last
onto plan is last c a right rest = record { cs = c ∷ rest.cs; ans = a ∷ rest.ans; right = (right, rest.right); left = rest.left }

both : (plan : Plan) (is new last : List Input) (cs : List Cmd) (ans : List Answer) → AreRightFrom plan is cs ans → new ≡ remaining_from plan is cs ans → Leads plan new last → Leads plan is last
both plan is new last [] [] right left rest = subst (λ (x : List Input). Leads plan x last) left rest
both plan is new last [] (a ∷ ans) right left rest = absurd right
both plan is new last (c ∷ cs) [] right left rest = absurd right
both plan is new last (c ∷ cs) (a ∷ ans) right left rest =
    onto plan is last c a right.0 (both plan (remaining_after plan is c a) new last cs ans right.1 left rest)

pub then : (plan : Plan) (is new last : List Input) → Leads plan is new → Leads plan new last → Leads plan is last
then plan is new last first rest = both plan is new last first.cs first.ans first.right first.left rest

-- each input that follows is one command more
pub by-leads : (given : Setup) (is next : List Input) (stop : Option Refusal) (new : List Input) → answers.Leads given is next stop new → Leads given.plan is new
by-leads given is [] stop new l = stay given.plan is new l.1
by-leads given is (i ∷ next) stop new (inl l) = onto given.plan is new (asks.Apply i) Took l.0 (by-leads given (i ∷ is) next stop new l.1)
by-leads given is (i ∷ next) stop new (inr l) = one given.plan is new (asks.Apply i) (Refused l.why) l.right l.left

by-goes : (plan : Plan) (stop refusal : Option Refusal) (rest : List ℕ) (left new : List Input) (Rest : Type 0) → (Rest → Leads plan left new) → GoesUnless stop Rest ((rest ≡ []) × (refusal ≡ stop) × (new ≡ left)) → Leads plan left new
by-goes plan None refusal rest left new Rest go g = go g
by-goes plan (Some e) refusal rest left new Rest go g = stay plan left new g.2

by-ticks : (given : Setup) (n : ℕ) (is : List Input) (text : List ℕ) (refusal : Option Refusal) (new : List Input) → TakesTicks given nothing_besides is n text refusal new → Leads given.plan is new
by-ticks given zero is text refusal new t = stay given.plan is new t.2
by-ticks given (suc n) is text refusal new (inl t) =
    onto given.plan is new (asks.Apply (next_tick given is)) Took t.3.right
    (then given.plan (next_tick given is ∷ is) t.2 new (by-leads given (next_tick given is ∷ is) (followers given is (next_tick given is)) t.1 t.2 t.3.leads)
    (by-goes given.plan t.1 refusal t.0 t.2 new (TakesTicks given nothing_besides t.2 n t.0 refusal new) (λ rest. by-ticks given n t.2 t.0 refusal new rest) t.4))
by-ticks given (suc n) is text refusal new (inr t) = one given.plan is new (asks.Apply (next_tick given is)) (Refused t.why) t.right t.left

by-task : (given : Setup) (is : List Input) (task : Task) (text : List ℕ) (refusal : Option Refusal) (new : List Input) → Obeys given nothing_besides is task text refusal new → Leads given.plan is new
by-task given is (Ticks n) text refusal new o = by-ticks given n is text refusal new o
by-task given is tasks.Show text refusal new o = stay given.plan is new o.2
by-task given is tasks.Quit text refusal new o = stay given.plan is new o.2
by-task given is (Ask cmd) text refusal new o =
    onto given.plan is new cmd o.answer o.right (by-leads given (remaining_after given.plan is cmd o.answer) (followers_of given is cmd o.answer) o.stop new o.left)

by-does : (given : Setup) (is : List Input) (r : Reading) (fault : Option LineFault) (new : List Input) → Does given is r fault new → Leads given.plan is new
by-does given is Skip fault new d = stay given.plan is new d.1
by-does given is Bad fault new d = stay given.plan is new d.1
by-does given is (Lines is_wide) fault new d = stay given.plan is new d.1
by-does given is (Do c) fault new d = by-task given is (task_of c) d.1.0 d.0 new d.1.1

by-rest : (given : Setup) (f : Flow) (new : List Input) (end : End) (stop : Option Stopped) (Rest : Type 0) (told : List ℕ) → (Rest → Leads given.plan new end.inputs) → Follows f Rest (Ends end new stop told)
    → Leads given.plan new end.inputs
by-rest given On new end stop Rest told rest g = rest g
by-rest given Over new end stop Rest told rest g = stay given.plan new end.inputs (ap (λ (e : End). e.inputs) g.1)

by-lines : (on_fault : OnFault) (given : Setup) (end : End) (lines : List (List ℕ)) (n : ℕ) (is : List Input) (told : List ℕ) → Come on_fault given end n is lines told → Leads given.plan is end.inputs
by-lines on_fault given end [] n is told h = stay given.plan is end.inputs (ap (λ (e : End). e.inputs) h.1)
by-lines on_fault given end (line ∷ lines) n is told h =
    then given.plan is h.1 end.inputs (by-does given is (reading line) h.0 h.1 h.3)
    (by-rest given (flow_after (quits (reading line)) (stopped_at on_fault n line h.0)) h.1 end (stopped_at on_fault n line h.0) (Come on_fault given end (suc n) h.1 lines h.2) h.2
    (λ rest. by-lines on_fault given end lines (suc n) h.1 h.2 rest) h.5)

-- a command leaves a clock that is set first too, with what follows it
by-clock : (given : Setup) (clock : Option ℕ) (first : List Input) → BeginsWith given clock first → Leads given.plan [] first
unfolding verdict
by-clock given None first begins = stay given.plan [] first begins
by-clock given (Some m) first begins =
    onto given.plan [] first (asks.Apply (Clock m)) Took refl (by-leads given (Clock m ∷ []) (followers given [] (Clock m)) None first begins)

pub lines_leave_what_remains : (on_fault : OnFault) (given : Setup) (clock : Option ℕ) (first : List Input) (end : End) (lines : List (List ℕ)) (told : List ℕ)
    → BeginsWith given clock first → Come on_fault given end 1 first lines told
    → (cs : List Cmd) × (ans : List Answer) × AreRight given.plan cs ans × (end.inputs ≡ remaining given.plan cs ans)
lines_leave_what_remains on_fault given clock first end lines told begins h =
    let all : Leads given.plan [] end.inputs = then given.plan [] first end.inputs (by-clock given clock first begins) (by-lines on_fault given end lines 1 first told h) in
    (all.cs, all.ans, all.right, all.left)
