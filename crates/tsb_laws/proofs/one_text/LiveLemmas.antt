-- Two answers of a live run to one line are the same, or one of them is that memory ran out.
use Rattle.std.proofs.Common.{◌≡◌, ◌⊎◌, ℕ, zero, suc, Bool, false, List, [], ◌∷◌, ◌++◌, Option, Some, None, Ok, Err, refl, sym, ap, subst, subst₂, ◌∙◌, inl, inr}
use Rattle.std.specs.declared.result.Result.{Result}
use Rattle.tsb_dialog.specs.Heard.{Runs}
use Rattle.tsb_dialog.specs.Said.{with_feed}
use Rattle.tsb_dialog.specs.declared.answers.Flow.{Flow}
use Rattle.tsb_command_text.specs.LiveReadings.{live_reading}
use Rattle.tsb_command_text.specs.declared.live_command.LiveCommand.{LiveCommand}
use Rattle.tsb_command_text.specs.declared.live_command.LiveCommand.TheVariants as live
use Rattle.tsb_command_text.specs.declared.live_command.LiveReading.{LiveReading}
use Rattle.tsb_command_text.specs.declared.live_command.LiveReading.TheVariants.{Skip, Bad, Tick, Ask}
use Rattle.tsb_live_text.specs.Changes.{Changes, Ends, Follows, line_after, owed, shows_same, tick_text}
use Rattle.tsb_text.specs.Stops.{flow_after, stopped_at}
use Rattle.tsb_live_text.specs.GoTo.{command_to, tick_of}
use Rattle.tsb_live_text.specs.Live.{AsksLive, GoesTo, Leaves, Live, Reads, Says, TellsTick, besides, fault_by, present, quits, setup, with_inputs, with_row, with_stop}
use Rattle.tsb_step.specs.Play.{Cmd, remaining_after}
use Rattle.tsb_step.specs.Runs.{replay}
use Rattle.tsb_step.specs.declared.inputs.Input.{Input}
use Rattle.tsb_step.specs.declared.inputs.Input.TheVariants as inputs
use Rattle.tsb_step.specs.tsb_machine.declared.commands.Answer.{Answer}
use Rattle.tsb_step.specs.tsb_machine.declared.commands.Answer.TheVariants as answers
use Rattle.tsb_step.specs.tsb_machine.declared.commands.MachineCommand.TheVariants.{Apply}
use Rattle.tsb_step.specs.tsb_types.declared.refusal.Refusal.{Refusal}
use Rattle.tsb_step.specs.tsb_types.declared.refusal.Refusal.TheVariants.{Memory}
use Rattle.tsb_text.specs.Answers.{GoesUnless, Leads, Setup, line_in, followers, followers_of, next_tick, refused_after, refused_line, told}
use Rattle.tsb_text.specs.Obeys as session
use Rattle.tsb_text.specs.Obeys.{AsksOnce, Besides, TakesTicks, before_line, news, news_of, or_refusal, refusal_in, trail, trail_of}
use Rattle.tsb_text.specs.Tasks.{task_of}
use Rattle.tsb_text.specs.declared.faults.LineFault.{LineFault}
use Rattle.tsb_text.specs.declared.task.Task.{Task}
use Rattle.tsb_text.specs.declared.task.Task.TheVariants as tasks
use Rattle.tsb_types.specs.declared.row.Row.{Row}
use Rattle.tsb_laws.specs.OneAnswer.{RanOut, RunsOut}
use Rattle.tsb_laws.proofs.one_text.AnswerLemmas.{answers-alike}
use Rattle.tsb_laws.proofs.one_text.LeadLemmas.{LedAlike, ends-by, leads-alike, refused-apart, took-apart}

-- ## What a session asks

-- both are the same, or one is refused since memory ran out
abbrev Same : (text other : List ℕ) (why whys : Option Refusal) (new left : List Input) → Type 0
Same text other why whys new left = ((text ≡ other) × (why ≡ whys) × (new ≡ left)) ⊎ ((why ≡ Some Memory) ⊎ (whys ≡ Some Memory))

once-text : Setup → Besides → List Input → Cmd → Answer → Option Refusal → List Input → List ℕ
once-text given b is cmd a stop new =
    (before_line b.echo a (news_of b.tells given is cmd) ++ trail_of b.tells given is cmd a new)
    ++ (with_feed (told given.is_wide cmd a (replay given.plan (remaining_after given.plan is cmd a))) ++ refused_after b.echo stop)

-- what follows the same answer
once-led : (given : Setup) (b : Besides) (is : List Input) (cmd : Cmd) (text other : List ℕ) (why whys : Option Refusal) (new left : List Input)
    → (x : AsksOnce given b is cmd text why new) → (y : AsksOnce given b is cmd other whys left) → x.answer ≡ y.answer → LedAlike x.stop y.stop new left
once-led given b is cmd text other why whys new left x y e =
    leads-alike given (remaining_after given.plan is cmd y.answer) (followers_of given is cmd y.answer) x.stop y.stop new left
    (subst (λ (a : Answer). Leads given (remaining_after given.plan is cmd a) (followers_of given is cmd a) x.stop new) e x.left) y.left

-- what is refused has nothing that follows
refused-alone : (given : Setup) (is : List Input) (cmd : Cmd) (e : Refusal) (stop : Option Refusal) (new : List Input)
    → Leads given (remaining_after given.plan is cmd (answers.Refused e)) (followers_of given is cmd (answers.Refused e)) stop new → stop ≡ None
refused-alone given is (Apply i) e stop new l = l.0
refused-alone given is cmd e stop new l = l.0

some-none : (e : Refusal) → Some e ≡ None → ⊥
some-none e h = cc

-- memory ran out for what follows
once-memory : (given : Setup) (is : List Input) (cmd : Cmd) (a : Answer) (stop : Option Refusal) (new : List Input)
    → Leads given (remaining_after given.plan is cmd a) (followers_of given is cmd a) stop new → stop ≡ Some Memory → or_refusal (refusal_in a) stop ≡ Some Memory
once-memory given is cmd (answers.Refused e) stop new l m = absurd (some-none Memory (sym m ∙ refused-alone given is cmd e stop new l))
once-memory given is cmd answers.Took stop new l m = m
once-memory given is cmd (answers.Undone k) stop new l m = m
once-memory given is cmd answers.Moved stop new l m = m
once-memory given is cmd answers.Nothing stop new l m = m
once-memory given is cmd (answers.Changed t) stop new l m = m

-- memory ran out for what was asked
asked-memory : (a : Answer) (stop : Option Refusal) → a ≡ answers.Refused Memory → or_refusal (refusal_in a) stop ≡ Some Memory
asked-memory a stop m = ap (λ (b : Answer). or_refusal (refusal_in b) stop) m

once-same : (given : Setup) (b : Besides) (is : List Input) (cmd : Cmd) (text other : List ℕ) (why whys : Option Refusal) (new left : List Input)
    → AsksOnce given b is cmd text why new → AsksOnce given b is cmd other whys left → Same text other why whys new left
unfolding once-text
once-same given b is cmd text other why whys new left x y = elim (answers-alike given.plan is cmd x.answer y.answer x.right y.right) [
  | inl e ↦ elim (once-led given b is cmd text other why whys new left x y e) [
    | inl d ↦ inl (
      x.line ∙ ap (λ (a : Answer). once-text given b is cmd a x.stop new) e ∙ (λ j. once-text given b is cmd y.answer (d.0 j) (d.1 j)) ∙ sym y.line,
      x.refused ∙ ap (λ (a : Answer). or_refusal (refusal_in a) x.stop) e ∙ ap (λ (stop : Option Refusal). or_refusal (refusal_in y.answer) stop) d.0 ∙ sym y.refused,
      d.1,
    )
    | inr memory ↦ elim memory [
      | inl m ↦ inr (inl (x.refused ∙ once-memory given is cmd x.answer x.stop new x.left m))
      | inr m ↦ inr (inr (y.refused ∙ once-memory given is cmd y.answer y.stop left y.left m))
    ]
  ]
  | inr memory ↦ elim memory [
    | inl m ↦ inr (inl (x.refused ∙ asked-memory x.answer x.stop m))
    | inr m ↦ inr (inr (y.refused ∙ asked-memory y.answer y.stop m))
  ]
]

-- two refusals, each printed as its line after the same bytes
refusals-same : (before : List ℕ) (is : List Input) (text other : List ℕ) (r q : Option Refusal) (new left : List Input) (why whys : Refusal) → (why ≡ whys) ⊎ ((why ≡ Memory) ⊎ (whys ≡ Memory))
    → text ≡ before ++ with_feed (refused_line why) → other ≡ before ++ with_feed (refused_line whys) → r ≡ Some why → q ≡ Some whys → new ≡ is → left ≡ is → Same text other r q new left
refusals-same before is text other r q new left why whys (inl e) a b c d f g = inl (a ∙ ap (λ (w : Refusal). before ++ with_feed (refused_line w)) e ∙ sym b, c ∙ ap Some e ∙ sym d, f ∙ sym g)
refusals-same before is text other r q new left why whys (inr (inl m)) a b c d f g = inr (inl (c ∙ ap Some m))
refusals-same before is text other r q new left why whys (inr (inr m)) a b c d f g = inr (inr (d ∙ ap Some m))

-- the same line before both
more-same : (before rest more text other : List ℕ) (why whys : Option Refusal) (new left : List Input) → text ≡ before ++ rest → other ≡ before ++ more → Same rest more why whys new left → Same text other why whys new left
more-same before rest more text other why whys new left a b (inl e) = inl (a ∙ ap (λ (l : List ℕ). before ++ l) e.0 ∙ sym b, e.1, e.2)
more-same before rest more text other why whys new left a b (inr m) = inr m

-- the text of a tick that is taken
tick-said : Setup → Besides → List Input → Option Refusal → List Input → List ℕ → List ℕ
tick-said given b is stop mid rest =
    (news b.tells given is (next_tick given is) ++ trail b.tells given (next_tick given is ∷ is) (followers given is (next_tick given is)) mid)
    ++ (with_feed (line_in given.is_wide (replay given.plan (next_tick given is ∷ is))) ++ (refused_after b.echo stop ++ rest))

-- two answers to so many ticks are the same, where these inputs remain
abbrev TicksSame : Setup → Besides → ℕ → List Input → Type 0
TicksSame given b n is = (text other : List ℕ) (why whys : Option Refusal) (new left : List Input)
    → TakesTicks given b is n text why new → TakesTicks given b is n other whys left → Same text other why whys new left

-- the text after a tick, where what follows it was refused so, if it was
abbrev MoreTicks : Setup → Besides → ℕ → Option Refusal → List Input → List ℕ → Option Refusal → List Input → Type 0
MoreTicks given b n stop mid rest why new = GoesUnless stop (TakesTicks given b mid n rest why new) ((rest ≡ []) × (why ≡ stop) × (new ≡ mid))

ticks-on : (given : Setup) (b : Besides) (n : ℕ) (stop : Option Refusal) (mid : List Input) → TicksSame given b n mid → (rest more : List ℕ) (why whys : Option Refusal) (new left : List Input)
    → MoreTicks given b n stop mid rest why new → MoreTicks given b n stop mid more whys left → Same rest more why whys new left
ticks-on given b n None mid on rest more why whys new left x y = on rest more why whys new left x y
ticks-on given b n (Some e) mid on rest more why whys new left x y = inl (x.0 ∙ sym y.0, x.1 ∙ sym y.1, x.2 ∙ sym y.2)

ticked-same : (given : Setup) (b : Besides) (n : ℕ) (is : List Input) (text other rest more : List ℕ) (stop stops : Option Refusal) (mid mids : List Input) (why whys : Option Refusal) (new left : List Input)
    → ((now : List Input) → TicksSame given b n now) → session.Ticked given b is text rest stop mid → session.Ticked given b is other more stops mids
    → MoreTicks given b n stop mid rest why new → MoreTicks given b n stops mids more whys left → Same text other why whys new left
unfolding tick-said
ticked-same given b n is text other rest more stop stops mid mids why whys new left on x y goes go =
    elim (leads-alike given (next_tick given is ∷ is) (followers given is (next_tick given is)) stop stops mid mids x.leads y.leads) [
      | inl d ↦ elim (ticks-on given b n stops mids (on mids) rest more why whys new left (subst₂ (λ (e : Option Refusal) (m : List Input). MoreTicks given b n e m rest why new) d.0 d.1 goes) go) [
        | inl e ↦ inl (
          x.line ∙ (λ j. tick-said given b is (d.0 j) (d.1 j) rest) ∙ ap (λ (l : List ℕ). tick-said given b is stops mids l) e.0 ∙ sym y.line,
          e.1,
          e.2,
        )
        | inr m ↦ inr m
      ]
      | inr memory ↦ elim memory [
        | inl m ↦ inr (inl (ends-by stop why (TakesTicks given b mid n rest why new) ((rest ≡ []) × (why ≡ stop) × (new ≡ mid)) (λ ending. ending.1) m goes))
        | inr m ↦ inr (inr (ends-by stops whys (TakesTicks given b mids n more whys left) ((more ≡ []) × (whys ≡ stops) × (left ≡ mids)) (λ ending. ending.1) m go))
      ]
    ]

ticks-same : (given : Setup) (b : Besides) (n : ℕ) (is : List Input) → TicksSame given b n is
ticks-same given b zero is text other why whys new left x y = inl (x.0 ∙ sym y.0, x.1 ∙ sym y.1, x.2 ∙ sym y.2)
ticks-same given b (suc n) is text other why whys new left (inl x) (inl y) =
    ticked-same given b n is text other x.0 y.0 x.1 y.1 x.2 y.2 why whys new left (λ now. ticks-same given b n now) x.3 y.3 x.4 y.4
ticks-same given b (suc n) is text other why whys new left (inl x) (inr y) = inr (inr (y.refused ∙ ap Some (took-apart given.plan is (Apply (next_tick given is)) y.why x.3.right y.right)))
ticks-same given b (suc n) is text other why whys new left (inr x) (inl y) = inr (inl (x.refused ∙ ap Some (took-apart given.plan is (Apply (next_tick given is)) x.why y.3.right x.right)))
ticks-same given b (suc n) is text other why whys new left (inr x) (inr y) =
    refusals-same b.echo is text other why whys new left x.why y.why (refused-apart given.plan is (Apply (next_tick given is)) x.why y.why x.right y.right) x.line y.line x.refused y.refused x.left y.left

task-same : (given : Setup) (b : Besides) (is : List Input) (task : Task) (text other : List ℕ) (why whys : Option Refusal) (new left : List Input)
    → session.Obeys given b is task text why new → session.Obeys given b is task other whys left → Same text other why whys new left
task-same given b is (tasks.Ticks n) text other why whys new left x y = ticks-same given b n is text other why whys new left x y
task-same given b is tasks.Show text other why whys new left x y = inl (x.0 ∙ sym y.0, x.1 ∙ sym y.1, x.2 ∙ sym y.2)
task-same given b is tasks.Quit text other why whys new left x y = inl (x.0 ∙ sym y.0, x.1 ∙ sym y.1, x.2 ∙ sym y.2)
task-same given b is (tasks.Ask cmd) text other why whys new left x y = once-same given b is cmd text other why whys new left x y

-- ## Ticks whose changes alone are printed

-- the text of a tick whose changes alone are printed
change-said : Setup → Besides → Row → List Input → List ℕ → List Input → List ℕ
change-said given b row is before mid = tick_text given.is_wide given.plan b row is before (trail b.tells given (inputs.Tick row ∷ is) (followers given is (inputs.Tick row)) mid)

abbrev ChangesSame : Setup → Besides → Row → ℕ → List Input → List ℕ → Bool → Type 0
ChangesSame given b row n is before is_owed = (text other : List ℕ) (why whys : Option Refusal) (new left : List Input)
    → Changes given b row is before is_owed n text why new → Changes given b row is before is_owed n other whys left → Same text other why whys new left

-- the text after a tick whose line is owed, or not
abbrev MoreChanges : Setup → Besides → Row → ℕ → List ℕ → Bool → Option Refusal → List Input → List ℕ → Option Refusal → List Input → Type 0
MoreChanges given b row n line is_owed stop mid rest why new =
    GoesUnless stop (Changes given b row mid line is_owed n rest why new) (Ends b line is_owed stop mid rest why new)

changes-on : (given : Setup) (b : Besides) (row : Row) (n : ℕ) (line : List ℕ) (is_owed : Bool) (stop : Option Refusal) (mid : List Input) → ChangesSame given b row n mid line is_owed
    → (rest more : List ℕ) (why whys : Option Refusal) (new left : List Input)
    → MoreChanges given b row n line is_owed stop mid rest why new → MoreChanges given b row n line is_owed stop mid more whys left → Same rest more why whys new left
changes-on given b row n line is_owed None mid on rest more why whys new left x y = on rest more why whys new left x y
changes-on given b row n line is_owed (Some e) mid on rest more why whys new left x y = inl (x.0 ∙ sym y.0, x.1 ∙ sym y.1, x.2 ∙ sym y.2)

changed-same : (given : Setup) (b : Besides) (row : Row) (n : ℕ) (is : List Input) (before line : List ℕ) (is_owed : Bool) (text other told tolds rest more : List ℕ) (stop stops : Option Refusal) (mid mids : List Input) (why whys : Option Refusal) (new left : List Input)
    → ((now : List Input) → ChangesSame given b row n now line is_owed) → Follows given b row is before told stop mid → Follows given b row is before tolds stops mids
    → text ≡ told ++ rest → other ≡ tolds ++ more
    → MoreChanges given b row n line is_owed stop mid rest why new → MoreChanges given b row n line is_owed stops mids more whys left → Same text other why whys new left
unfolding change-said
changed-same given b row n is before line is_owed text other told tolds rest more stop stops mid mids why whys new left on x y told-so told-too goes go =
    elim (leads-alike given (inputs.Tick row ∷ is) (followers given is (inputs.Tick row)) stop stops mid mids x.leads y.leads) [
      | inl d ↦
          more-same told rest more text other why whys new left told-so
          (told-too ∙ ap (λ (l : List ℕ). l ++ more) (y.told ∙ ap (λ (m : List Input). change-said given b row is before m) (sym d.1) ∙ sym x.told))
          (changes-on given b row n line is_owed stops mids (on mids) rest more why whys new left (subst₂ (λ (e : Option Refusal) (m : List Input). MoreChanges given b row n line is_owed e m rest why new) d.0 d.1 goes) go)
      | inr memory ↦ elim memory [
        | inl m ↦ inr (inl (ends-by stop why (Changes given b row mid line is_owed n rest why new) (Ends b line is_owed stop mid rest why new) (λ ending. ending.1) m goes))
        | inr m ↦ inr (inr (ends-by stops whys (Changes given b row mids line is_owed n more whys left) (Ends b line is_owed stops mids more whys left) (λ ending. ending.1) m go))
      ]
    ]

changes-same : (given : Setup) (b : Besides) (row : Row) (n : ℕ) (is : List Input) (before : List ℕ) (is_owed : Bool) → ChangesSame given b row n is before is_owed
changes-same given b row zero is before is_owed text other why whys new left x y = inl (x.0 ∙ sym y.0, x.1 ∙ sym y.1, x.2 ∙ sym y.2)
changes-same given b row (suc n) is before is_owed text other why whys new left (inl x) (inl y) =
    changed-same given b row n is before (line_after given.is_wide given.plan (inputs.Tick row ∷ is)) (shows_same (line_after given.is_wide given.plan (inputs.Tick row ∷ is)) before) text other x.1 y.1 x.2 y.2 x.3 y.3 x.4 y.4 why whys new left
    (λ now. changes-same given b row n now (line_after given.is_wide given.plan (inputs.Tick row ∷ is)) (shows_same (line_after given.is_wide given.plan (inputs.Tick row ∷ is)) before)) x.5 y.5 x.6 y.6 x.7 y.7
changes-same given b row (suc n) is before is_owed text other why whys new left (inl x) (inr y) = inr (inr (y.refused ∙ ap Some (took-apart given.plan is (Apply (inputs.Tick row)) y.why x.0 y.right)))
changes-same given b row (suc n) is before is_owed text other why whys new left (inr x) (inl y) = inr (inl (x.refused ∙ ap Some (took-apart given.plan is (Apply (inputs.Tick row)) x.why y.0 x.right)))
changes-same given b row (suc n) is before is_owed text other why whys new left (inr x) (inr y) =
    more-same (owed is_owed before) (b.echo ++ with_feed (refused_line x.why)) (b.echo ++ with_feed (refused_line y.why)) text other why whys new left x.line y.line
    (refusals-same b.echo is (b.echo ++ with_feed (refused_line x.why)) (b.echo ++ with_feed (refused_line y.why)) why whys new left x.why y.why (refused-apart given.plan is (Apply (inputs.Tick row)) x.why y.why x.right y.right) refl refl x.refused y.refused x.left y.left)

-- ## Lines

-- both answers are the same, or one is that memory ran out
abbrev One : (text other : List ℕ) (fault faults : Option LineFault) (t u : Live) → Type 0
One text other fault faults t u = ((text ≡ other) × (fault ≡ faults) × (t ≡ u)) ⊎ (RanOut fault ⊎ RanOut faults)

leaves-one : (s t u : Live) (P : List ℕ → Option Refusal → List Input → Type 0) (text other : List ℕ) (fault faults : Option LineFault)
    → ((why whys : Option Refusal) (new left : List Input) → P text why new → P other whys left → Same text other why whys new left)
    → Leaves s P text fault t → Leaves s P other faults u → One text other fault faults t u
leaves-one s t u P text other fault faults same a b = elim (same a.0 b.0 a.1 b.1 a.2 b.2) [
  | inl e ↦ inl (e.0, a.3 ∙ ap fault_by e.1 ∙ sym b.3, a.4 ∙ ap (λ (l : List Input). with_inputs l s) e.2 ∙ sym b.4)
  | inr memory ↦ elim memory [
    | inl m ↦ inr (inl (a.3 ∙ ap fault_by m))
    | inr m ↦ inr (inr (b.3 ∙ ap fault_by m))
  ]
]

obeys-one : (s t u : Live) (line : List ℕ) (task : Task) (text other : List ℕ) (fault faults : Option LineFault)
    → Leaves s (session.Obeys (setup s) (besides s line) s.inputs task) text fault t → Leaves s (session.Obeys (setup s) (besides s line) s.inputs task) other faults u → One text other fault faults t u
obeys-one s t u line task text other fault faults a b =
    leaves-one s t u (session.Obeys (setup s) (besides s line) s.inputs task) text other fault faults
    (λ why whys new left x y. task-same (setup s) (besides s line) s.inputs task text other why whys new left x y) a b

goes-one : (s t u : Live) (line : List ℕ) (tick : Result ℕ LineFault) (text other : List ℕ) (fault faults : Option LineFault) → GoesTo s line tick text fault t → GoesTo s line tick other faults u → One text other fault faults t u
goes-one s t u line (Ok tick) text other fault faults a b = obeys-one s t u line (task_of (command_to (present s).now tick)) text other fault faults a b
goes-one s t u line (Err why) text other fault faults a b = inl (a.0 ∙ sym b.0, a.1 ∙ sym b.1, a.2 ∙ sym b.2)

tick-one : (s t u : Live) (line : List ℕ) (tick : Result ℕ LineFault) (text other : List ℕ) (fault faults : Option LineFault) → TellsTick s line tick text fault t → TellsTick s line tick other faults u → One text other fault faults t u
tick-one s t u line (Ok tick) text other fault faults a b = inl (a.0 ∙ sym b.0, a.1 ∙ sym b.1, a.2 ∙ sym b.2)
tick-one s t u line (Err why) text other fault faults a b = inl (a.0 ∙ sym b.0, a.1 ∙ sym b.1, a.2 ∙ sym b.2)

asks-one : (s t u : Live) (line : List ℕ) (c : LiveCommand) (text other : List ℕ) (fault faults : Option LineFault) → AsksLive s line c text fault t → AsksLive s line c other faults u → One text other fault faults t u
asks-one s t u line (live.Session c) text other fault faults a b = obeys-one s t u line (task_of c) text other fault faults a b
asks-one s t u line (live.Changes n) text other fault faults a b =
    leaves-one s t u (Changes (setup s) (besides s line) s.row s.inputs (line_in s.is_wide (present s)) false n) text other fault faults
    (λ why whys new left x y. changes-same (setup s) (besides s line) s.row n s.inputs (line_in s.is_wide (present s)) false text other why whys new left x y) a b
asks-one s t u line live.Plan text other fault faults (inl a) (inl b) = inl (a.0 ∙ sym b.0, a.1 ∙ sym b.1, a.2 ∙ sym b.2)
asks-one s t u line live.Plan text other fault faults (inl a) (inr b) = inr (inr b.1)
asks-one s t u line live.Plan text other fault faults (inr a) b = inr (inl a.1)
asks-one s t u line (live.GoTo aim) text other fault faults a b = goes-one s t u line (tick_of (present s).start_moment (present s).now aim) text other fault faults a b
asks-one s t u line (live.TickAt aim) text other fault faults a b = tick-one s t u line (tick_of (present s).start_moment (present s).now aim) text other fault faults a b
asks-one s t u line live.Status text other fault faults a b = inl (a.0 ∙ sym b.0, a.1 ∙ sym b.1, a.2 ∙ sym b.2)
asks-one s t u line live.Edits text other fault faults a b = inl (a.0 ∙ sym b.0, a.1 ∙ sym b.1, a.2 ∙ sym b.2)
asks-one s t u line (live.Events on) text other fault faults a b = inl (a.0 ∙ sym b.0, a.1 ∙ sym b.1, a.2 ∙ sym b.2)
asks-one s t u line (live.Lines is_wide) text other fault faults a b = inl (a.0 ∙ sym b.0, a.1 ∙ sym b.1, a.2 ∙ sym b.2)
asks-one s t u line (live.Echo on) text other fault faults a b = inl (a.0 ∙ sym b.0, a.1 ∙ sym b.1, a.2 ∙ sym b.2)
asks-one s t u line (live.When which) text other fault faults a b = inl (a.0 ∙ sym b.0, a.1 ∙ sym b.1, a.2 ∙ sym b.2)
asks-one s t u line live.Save text other fault faults a b = inl (a.0 ∙ sym b.0, a.1 ∙ sym b.1, a.2 ∙ sym b.2)
asks-one s t u line live.Help text other fault faults a b = inl (a.0 ∙ sym b.0, a.1 ∙ sym b.1, a.2 ∙ sym b.2)

reads-one : (s t u : Live) (line : List ℕ) (r : LiveReading) (text other : List ℕ) (fault faults : Option LineFault) → Reads s line r text fault t → Reads s line r other faults u → One text other fault faults t u
reads-one s t u line Skip text other fault faults a b = inl (a.0 ∙ sym b.0, a.1 ∙ sym b.1, a.2 ∙ sym b.2)
reads-one s t u line Bad text other fault faults a b = inl (a.0 ∙ sym b.0, a.1 ∙ sym b.1, a.2 ∙ sym b.2)
reads-one s t u line (Tick row) text other fault faults a b = obeys-one (with_row row s) t u line (tasks.Ticks 1) text other fault faults a b
reads-one s t u line (Ask c) text other fault faults a b = asks-one s t u line c text other fault faults a b

pub lines-one : (s t u : Live) (number : ℕ) (line text other : List ℕ) (flow after : Flow) (a : Says s number line text flow t) (b : Says s number line other after u) →
    ((text ≡ other) × (flow ≡ after) × (t ≡ u)) ⊎ (RanOut a.fault ⊎ RanOut b.fault)
lines-one s t u number line text other flow after a b = elim (reads-one s a.left b.left line (live_reading line) text other a.fault b.fault a.reads b.reads) [
  | inl e ↦ inl (
    e.0,
    a.goes ∙ ap (λ (f : Option LineFault). flow_after (quits (live_reading line)) (stopped_at s.on_fault number line f)) e.1 ∙ sym b.goes,
    a.stops ∙ ap (λ (f : Option LineFault). with_stop (stopped_at s.on_fault number line f) a.left) e.1 ∙ ap (λ (l : Live). with_stop (stopped_at s.on_fault number line b.fault) l) e.2 ∙ sym b.stops,
  )
  | inr m ↦ inr m
]

-- ## Runs

-- the same line is answered where both have come to the same
line-after : (s v t u : Live) (number : ℕ) (line text other : List ℕ) (flow after : Flow) → s ≡ v → (a : Says s number line text flow t) (b : Says v number line other after u) →
    ((text ≡ other) × (flow ≡ after) × (t ≡ u)) ⊎ (RanOut a.fault ⊎ RanOut b.fault)
line-after s v t u number line text other flow after e a =
    subst (λ (w : Live). (b : Says w number line other after u) → ((text ≡ other) × (flow ≡ after) × (t ≡ u)) ⊎ (RanOut a.fault ⊎ RanOut b.fault)) e (lines-one s t u number line text other flow after a)

pub runs-one : (most : ℕ) (from now then : Live) (lines : List (List ℕ)) (text other : List ℕ) (r : Runs most Says from lines text now) (q : Runs most Says from lines other then) →
    ((text ≡ other) × (now ≡ then)) ⊎ (RunsOut most from lines text now r ⊎ RunsOut most from lines other then q)
runs-one most from now then [] text other r q = inl (r.0 ∙ sym q.0, r.1 ∙ sym q.1)
runs-one most from now then (line ∷ lines) text other r q = elim (runs-one most from r.2 q.2 lines r.0 q.0 r.3 q.3) [
  | inl e ↦ elim (line-after r.2 q.2 now then _ _ r.1 q.1 _ _ e.1 r.4 q.4) [
    | inl d ↦ inl (r.5 ∙ ap (λ (l : List ℕ). l ++ r.1) e.0 ∙ ap (λ (l : List ℕ). q.0 ++ l) d.0 ∙ sym q.5, d.2)
    | inr m ↦ elim m [
      | inl x ↦ inr (inl (inr x))
      | inr y ↦ inr (inr (inr y))
    ]
  ]
  | inr m ↦ elim m [
    | inl x ↦ inr (inl (inl x))
    | inr y ↦ inr (inr (inl y))
  ]
]
