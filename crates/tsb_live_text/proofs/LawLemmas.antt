-- Live runs leave what remains of right answers, and are answered as sessions are.
use Rattle.std.proofs.Common.{zero, suc, ◌≡◌, ◌∙◌, ℕ, ◌+◌, Bool, false, if◌then◌else◌, List, [], ◌∷◌, ◌++◌, length, ap, refl, sym, subst, inl, inr}
use Rattle.std.specs.declared.option.Option.{Option}
use Rattle.std.specs.declared.result.Result.{Result}
use Rattle.std.proofs.Common.{Ok, Err}
use Rattle.tsb_types.specs.declared.refusal.Refusal.{Refusal}
use Rattle.tsb_types.specs.declared.row.Row.{Row}
use Rattle.tsb_bench.specs.tsb_machine.declared.commands.Answer.{Answer}
use Rattle.tsb_bench.specs.tsb_machine.declared.commands.Answer.TheVariants.{Took, Refused}
use Rattle.tsb_bench.specs.tsb_machine.declared.commands.MachineCommand.TheVariants as asks
use Rattle.tsb_step.specs.tsb_plan.Plan.{Plan}
use Rattle.tsb_step.specs.declared.inputs.Input.{Input}
use Rattle.tsb_step.specs.declared.inputs.Input.TheVariants.{Tick as TakesTick}
use Rattle.tsb_step.specs.Following.{followers as all_followers}
use Rattle.tsb_step.specs.Play.{Cmd, IsRight, remaining_after}
use Rattle.tsb_step.specs.Runs.{AreTaken, replay}
use Rattle.tsb_step.proofs.RemainLemmas.{remaining_taken}
use Rattle.tsb_command_text.specs.declared.command.Command.{Command}
use Rattle.tsb_command_text.specs.declared.command.Command.TheVariants.{Step}
use Rattle.tsb_dialog.specs.Heard.{Runs}
use Rattle.tsb_dialog.specs.declared.answers.Flow.{Flow}
use Rattle.tsb_dialog.specs.declared.answers.Flow.TheVariants.{On}
use Rattle.tsb_command_text.specs.declared.live_command.LiveCommand.{LiveCommand}
use Rattle.tsb_command_text.specs.declared.live_command.LiveCommand.TheVariants as live
use Rattle.tsb_command_text.specs.declared.live_command.LiveReading.{LiveReading}
use Rattle.tsb_command_text.specs.declared.live_command.LiveReading.TheVariants.{Skip, Bad, Tick, Ask}
use Rattle.tsb_command_text.specs.LiveReadings.{live_reading}
use Rattle.tsb_log_text.specs.Logs.{row_at}
use Rattle.tsb_text.specs.Answers as answers
use Rattle.tsb_text.specs.Answers.{Answers, GoesUnless, Setup, Steps, Ticked, followers, followers_of, line_in, next_tick, refused_after}
use Rattle.tsb_text.specs.declared.faults.LineFault.{LineFault}
use Rattle.tsb_text.specs.declared.faults.OnFault.{OnFault}
use Rattle.tsb_text.specs.declared.task.Task.{Task}
use Rattle.tsb_text.specs.declared.task.Task.TheVariants as tasks
use Rattle.tsb_text.specs.Obeys as session
use Rattle.tsb_text.specs.Obeys.{Besides, TakesTicks, nothing_besides}
use Rattle.tsb_live_text.proofs.ChangeLemmas.{held-row}
use Rattle.tsb_dialog.specs.Said.{with_feed}
use Rattle.tsb_text.specs.Tasks.{task_of}
use Rattle.tsb_text.proofs.ObeyLemmas.{plain-answers}
use Rattle.tsb_live_text.specs.Changes.{Changes, Ends, line_after, shows_same}
use Rattle.tsb_live_text.specs.Laws.{AreOf, AsksAsThere, RunsAsThere, TakesNoTick, stand}
use Rattle.tsb_text.specs.Replies.{Replies, Stand, flow_after, laid, says}
use Rattle.tsb_command_text.specs.Readings.{reading}
use Rattle.tsb_command_text.specs.declared.command.Reading.{Reading}
use Rattle.tsb_command_text.specs.declared.command.Command.TheVariants.{Quit, Show}
use Rattle.tsb_text.specs.Answers.{Asked, told}
use Rattle.tsb_live_text.specs.GoTo.{command_to, tick_of}
use Rattle.tsb_live_text.specs.Live.{quits}
use Rattle.tsb_text.specs.Stops.{Stopped, flow_after as flow_of, stopped_at}
use Rattle.tsb_dialog.specs.Heard.{asked}
use Rattle.tsb_text.specs.declared.faults.OnFault.TheVariants.{GoOn}
use Rattle.std.specs.Prelude.{codes}
use Rattle.std.proofs.Common.{Some, None, length}
use Rattle.tsb_live_text.specs.Live.{AsksLive, GoesTo, Leaves, Live, Obeys, Reads, Says, TellsTick, begun, besides, echo_of, present, setup, with_inputs, with_lines, with_row, with_stop}
use Rattle.tsb_text.proofs.recording.CommandLemmas.{Leads, by-leads, one, onto, stay, then}

-- ## What remains

unless : (plan : Plan) (stop : Option Refusal) (left new : List Input) (Rest Ending : Type 0) → (Rest → Leads plan left new) → (Ending → Leads plan left new) → GoesUnless stop Rest Ending → Leads plan left new
unless plan None left new Rest Ending rest ending g = rest g
unless plan (Some e) left new Rest Ending rest ending g = ending g

by-ticks : (given : Setup) (b : Besides) (n : ℕ) (is : List Input) (text : List ℕ) (refusal : Option Refusal) (new : List Input) → TakesTicks given b is n text refusal new → Leads given.plan is new
by-ticks given b zero is text refusal new t = stay given.plan is new t.2
by-ticks given b (suc n) is text refusal new (inl t) =
    onto given.plan is new (asks.Apply (next_tick given is)) Took t.3.right
    ((then) given.plan (next_tick given is ∷ is) t.2 new (by-leads given (next_tick given is ∷ is) (followers given is (next_tick given is)) t.1 t.2 t.3.leads)
    (unless given.plan t.1 t.2 new (TakesTicks given b t.2 n t.0 refusal new) ((t.0 ≡ []) × (refusal ≡ t.1) × (new ≡ t.2)) (by-ticks given b n t.2 t.0 refusal new) (λ ends. stay given.plan t.2 new ends.2) t.4))
by-ticks given b (suc n) is text refusal new (inr t) = one given.plan is new (asks.Apply (next_tick given is)) (Refused t.why) t.right t.left

by-task : (given : Setup) (b : Besides) (is : List Input) (task : Task) (text : List ℕ) (refusal : Option Refusal) (new : List Input) → session.Obeys given b is task text refusal new → Leads given.plan is new
by-task given b is (tasks.Ticks n) text refusal new o = by-ticks given b n is text refusal new o
by-task given b is tasks.Show text refusal new o = stay given.plan is new o.2
by-task given b is tasks.Quit text refusal new o = stay given.plan is new o.2
by-task given b is (tasks.Ask cmd) text refusal new o =
    onto given.plan is new cmd o.answer o.right (by-leads given (remaining_after given.plan is cmd o.answer) (followers_of given is cmd o.answer) o.stop new o.left)

by-changes : (given : Setup) (b : Besides) (row : Row) (n : ℕ) (is : List Input) (before : List ℕ) (is_owed : Bool) (text : List ℕ) (refusal : Option Refusal) (new : List Input)
    → Changes given b row is before is_owed n text refusal new → Leads given.plan is new
by-changes given b row zero is before is_owed text refusal new c = stay given.plan is new c.2
by-changes given b row (suc n) is before is_owed text refusal new (inl c) =
    let line : List ℕ = line_after given.is_wide given.plan (TakesTick row ∷ is) in
    let same : Bool = shows_same line before in
    onto given.plan is new (asks.Apply (TakesTick row)) Took c.0
    ((then) given.plan (TakesTick row ∷ is) c.4 new (by-leads given (TakesTick row ∷ is) (followers given is (TakesTick row)) c.3 c.4 c.5.leads)
    (unless given.plan c.3 c.4 new (Changes given b row c.4 line same n c.2 refusal new) (Ends b line same c.3 c.4 c.2 refusal new)
    (by-changes given b row n c.4 line same c.2 refusal new) (λ ends. stay given.plan c.4 new ends.2) c.7))
by-changes given b row (suc n) is before is_owed text refusal new (inr c) = one given.plan is new (asks.Apply (TakesTick row)) (Refused c.why) c.right c.left

-- a run goes on to inputs that so remain, on the same plan
record Goes (s t : Live) : Type 0 where
  leads : Leads s.plan s.inputs t.inputs
  same : t.plan ≡ s.plan

goes-to : (s t u : Live) → t ≡ u → Goes s u → Goes s t
goes-to s t u same goes = subst (λ (x : Live). Goes s x) (sym same) goes

quiet : (s t : Live) → t.inputs ≡ s.inputs → t.plan ≡ s.plan → Goes s t
quiet s t inputs plan = record { leads = stay s.plan s.inputs t.inputs inputs; same = plan }

by-leaves : (s t : Live) (P : List ℕ → Option Refusal → List Input → Type 0) (text : List ℕ) (fault : Option LineFault)
    → ((text : List ℕ) (refusal : Option Refusal) (left : List Input) → P text refusal left → Leads s.plan s.inputs left) → Leaves s P text fault t → Goes s t
by-leaves s t P text fault leads l = goes-to s t (with_inputs l.1 s) l.4 (record { leads = leads text l.0 l.1 l.2; same = refl })

by-goes : (s t : Live) (line : List ℕ) (tick : Result ℕ LineFault) (text : List ℕ) (fault : Option LineFault) → GoesTo s line tick text fault t → Goes s t
by-goes s t line (Ok tick) text fault a =
    by-leaves s t _ text fault (λ text refusal left o. by-task (setup s) (besides s line) s.inputs (task_of (command_to (present s).now tick)) text refusal left o) a
by-goes s t line (Err why) text fault a = goes-to s t s a.2 (quiet s s refl refl)

by-tick : (s t : Live) (line : List ℕ) (tick : Result ℕ LineFault) (text : List ℕ) (fault : Option LineFault) → TellsTick s line tick text fault t → Goes s t
by-tick s t line (Ok tick) text fault a = goes-to s t s a.2 (quiet s s refl refl)
by-tick s t line (Err why) text fault a = goes-to s t s a.2 (quiet s s refl refl)

by-asks : (s t : Live) (line : List ℕ) (c : LiveCommand) (text : List ℕ) (fault : Option LineFault) → AsksLive s line c text fault t → Goes s t
by-asks s t line (live.Session c) text fault a = by-leaves s t _ text fault (λ text refusal left o. by-task (setup s) (besides s line) s.inputs (task_of c) text refusal left o) a
by-asks s t line (live.Changes n) text fault a = by-leaves s t (Changes (setup s) (besides s line) s.row s.inputs (line_in s.is_wide (present s)) false n) text fault
    (λ text refusal left o. by-changes (setup s) (besides s line) s.row n s.inputs (line_in s.is_wide (present s)) false text refusal left o) a
by-asks s t line (live.GoTo aim) text fault a = by-goes s t line (tick_of (present s).start_moment (present s).now aim) text fault a
by-asks s t line (live.TickAt aim) text fault a = by-tick s t line (tick_of (present s).start_moment (present s).now aim) text fault a
by-asks s t line live.Status text fault a = goes-to s t s a.2 (quiet s s refl refl)
by-asks s t line live.Plan text fault (inl a) = goes-to s t s a.2 (quiet s s refl refl)
by-asks s t line live.Plan text fault (inr a) = goes-to s t s a.2 (quiet s s refl refl)
by-asks s t line live.Edits text fault a = goes-to s t s a.2 (quiet s s refl refl)
by-asks s t line (live.Events on) text fault a = goes-to s t _ a.2 (quiet s _ refl refl)
by-asks s t line (live.Echo on) text fault a = goes-to s t _ a.2 (quiet s _ refl refl)
by-asks s t line (live.Lines is_wide) text fault a = goes-to s t _ a.2 (quiet s _ refl refl)
by-asks s t line (live.When which) text fault a = goes-to s t s a.2 (quiet s s refl refl)
by-asks s t line live.Save text fault a = goes-to s t s a.2 (quiet s s refl refl)
by-asks s t line live.Help text fault a = goes-to s t s a.2 (quiet s s refl refl)

by-reads : (s t : Live) (line : List ℕ) (r : LiveReading) (text : List ℕ) (fault : Option LineFault) → Reads s line r text fault t → Goes s t
by-reads s t line Skip text fault a = goes-to s t s a.2 (quiet s s refl refl)
by-reads s t line Bad text fault a = goes-to s t s a.2 (quiet s s refl refl)
by-reads s t line (Tick row) text fault a =
    goes-to s t (with_inputs a.1 (with_row row s)) a.4 (record { leads = by-task (setup (with_row row s)) (besides (with_row row s) line) s.inputs (tasks.Ticks 1) text a.0 a.1 a.2; same = refl })
by-reads s t line (Ask c) text fault a = by-asks s t line c text fault a

by-says : (s t : Live) (n : ℕ) (line text : List ℕ) (flow : Flow) → Says s n line text flow t → Goes s t
by-says s t n line text flow a = goes-to s t (with_stop (stopped_at s.on_fault n line a.fault) a.left) a.stops (stopped (by-reads s a.left line (live_reading line) text a.fault a.reads))
  where
    stopped : Goes s a.left → Goes s (with_stop (stopped_at s.on_fault n line a.fault) a.left)
    stopped goes = record { leads = goes.leads; same = goes.same }

further : (s t u : Live) → Goes s t → Goes t u → Goes s u
further s t u first last = record {
  leads = (then) s.plan s.inputs t.inputs u.inputs first.leads (subst (λ (p : Plan). Leads p t.inputs u.inputs) first.same last.leads);
  same = last.same ∙ first.same;
}

by-runs : (most : ℕ) (from now : Live) (lines : List (List ℕ)) (text : List ℕ) → Runs most Says from lines text now → Goes from now
by-runs most from now [] text r = goes-to from now from r.1 (quiet from from refl refl)
by-runs most from now (line ∷ lines) text r = further from r.2 now (by-runs most from r.2 lines r.0 r.3) (by-says r.2 now (suc (length lines)) _ r.1 On r.4)

-- commands with right answers leave inputs that were taken
are-of : (on_fault : OnFault) (acts : Bool) (plan : Plan) (now : Live) → Goes (begun on_fault acts plan) now → AreOf plan now
are-of on_fault acts plan now goes = record {
  taken = subst (λ (is : List Input). AreTaken plan is) (sym goes.leads.left) (remaining_taken plan goes.leads.cs goes.leads.ans goes.leads.right);
  same = goes.same;
}

pub lines-leave : (most : ℕ) (on_fault : OnFault) (acts : Bool) (plan : Plan) (lines : List (List ℕ)) (text : List ℕ) (now : Live) → Runs most Says (begun on_fault acts plan) lines text now → AreOf plan now
lines-leave most on_fault acts plan lines text now r = are-of on_fault acts plan now (by-runs most (begun on_fault acts plan) now lines text r)

pub last-leaves : (most number : ℕ) (on_fault : OnFault) (acts : Bool) (plan : Plan) (lines : List (List ℕ)) (last before answer : List ℕ) (flow : Flow) (now end : Live)
    → Runs most Says (begun on_fault acts plan) lines before now → Says now number last answer flow end → AreOf plan end
last-leaves most number on_fault acts plan lines last before answer flow now end r a =
    are-of on_fault acts plan end
    (further (begun on_fault acts plan) now end (by-runs most (begun on_fault acts plan) now lines before r) (by-says now end number last answer flow a))

-- ## Answers

quiet-besides : (s : Live) (line : List ℕ) → s.tells ≡ false → s.echoes ≡ false → besides s line ≡ nothing_besides
quiet-besides s line tells echoes = (λ j. let b : Besides = record { tells = tells j; echo = echo_of (echoes j) line } in b)

pub answered-as : (s t : Live) (line text : List ℕ) (c : Command) (fault : Option LineFault) → s.tells ≡ false → s.echoes ≡ false → Obeys s line c text fault t → Answers (setup s) s.inputs c text t.inputs
answered-as s t line text c fault tells echoes o =
    subst (λ (x : Live). Answers (setup s) s.inputs c text x.inputs) (sym o.4)
    (plain-answers (setup s) s.inputs c text o.0 o.1 (subst (λ (b : Besides). session.Obeys (setup s) b s.inputs (task_of c) text o.0 o.1) (quiet-besides s line tells echoes) o.2))

-- ## Another log

followers-as : (given other : Setup) (is : List Input) (i : Input) → other.plan ≡ given.plan → other.acts ≡ given.acts → followers other is i ≡ followers given is i
followers-as given other is i plan acts = (λ j. if acts j then all_followers (replay (plan j) is) (replay (plan j) (i ∷ is)) else [])

followers-of-as : (given other : Setup) (is : List Input) (cmd : Cmd) (a : Answer) → other.plan ≡ given.plan → other.acts ≡ given.acts → followers_of other is cmd a ≡ followers_of given is cmd a
followers-of-as given other is (asks.Apply i) Took plan acts = followers-as given other is i plan acts
followers-of-as given other is (asks.Apply i) a plan acts = refl
followers-of-as given other is cmd a plan acts = refl

leads-as : (given other : Setup) (is next : List Input) (stop : Option Refusal) (left : List Input) → other.plan ≡ given.plan → answers.Leads given is next stop left → answers.Leads other is next stop left
leads-as given other is [] stop left plan l = l
leads-as given other is (i ∷ next) stop left plan (inl l) =
    inl (subst (λ (q : Plan). IsRight q is (asks.Apply i) Took) (sym plan) l.0, leads-as given other (i ∷ is) next stop left plan l.1)
leads-as given other is (i ∷ next) stop left plan (inr l) =
    inr (record { why = l.why; right = subst (λ (q : Plan). IsRight q is (asks.Apply i) (Refused l.why)) (sym plan) l.right; refused = l.refused; left = l.left })

ticked-as : (given other : Setup) (is : List Input) (text rest : List ℕ) (stop : Option Refusal) (left : List Input) → other.plan ≡ given.plan → other.acts ≡ given.acts → other.is_wide ≡ given.is_wide → next_tick other is ≡ next_tick given is → Ticked given is text rest stop left
    → Ticked other is text rest stop left
ticked-as given other is text rest stop left p acts wide e t = record {
  right = subst (λ (x : Input). IsRight other.plan is (asks.Apply x) Took) (sym e) (subst (λ (q : Plan). IsRight q is (asks.Apply (next_tick given is)) Took) (sym p) t.right);
  leads = subst (λ (x : Input). answers.Leads other (x ∷ is) (followers other is x) stop left) (sym e)
      (subst (λ (next : List Input). answers.Leads other (next_tick given is ∷ is) next stop left) (sym (followers-as given other is (next_tick given is) p acts))
      (leads-as given other (next_tick given is ∷ is) (followers given is (next_tick given is)) stop left p t.leads));
  line = t.line ∙ (λ j. with_feed (line_in (sym wide j) (replay (sym p j) (sym e j ∷ is))) ++ (refused_after [] stop ++ rest));
}

one-step : (given other : Setup) (is : List Input) (text : List ℕ) (new : List Input) → other.plan ≡ given.plan → other.acts ≡ given.acts → other.is_wide ≡ given.is_wide → next_tick other is ≡ next_tick given is → Steps given is 1 text new → Steps other is 1 text new
one-step given other is text new p acts wide e (inl s) = inl (s.0, s.1, s.2, ticked-as given other is text s.0 s.1 s.2 p acts wide e s.3, s.4)
one-step given other is text new p acts wide e (inr s) = inr (record {
  refusal = s.refusal;
  right = subst (λ (x : Input). IsRight other.plan is (asks.Apply x) (Refused s.refusal)) (sym e) (subst (λ (q : Plan). IsRight q is (asks.Apply (next_tick given is)) (Refused s.refusal)) (sym p) s.right);
  line = s.line;
  left = s.left;
})

pub rows-as : (given : Setup) (s t : Live) (line text : List ℕ) (row : Row) (fault : Option LineFault) → s.tells ≡ false → s.echoes ≡ false → given.plan ≡ s.plan → given.acts ≡ s.acts → given.is_wide ≡ s.is_wide
    → row ≡ row_at given.log ((present s).now + 1) → Reads s line (Tick row) text fault t → Answers given s.inputs (Step 1) text t.inputs
rows-as given s t line text row fault tells echoes plan acts wide e o =
    one-step (setup (with_row row s)) given s.inputs text t.inputs plan acts wide
    (ap (λ (p : Plan). TakesTick (row_at given.log ((replay p s.inputs).now + 1))) plan ∙ ap TakesTick (sym e ∙ sym (held-row row (present s).now)))
    (answered-as (with_row row s) t line text (Step 1) fault tells echoes o)

-- ## Whole runs

asked-as : (given other : Setup) (is : List Input) (cmd : Cmd) (text : List ℕ) (new : List Input) → other.plan ≡ given.plan → other.acts ≡ given.acts → other.is_wide ≡ given.is_wide → Asked given is cmd text new → Asked other is cmd text new
asked-as given other is cmd text new p acts wide a = record {
  answer = a.answer;
  right = subst (λ (q : Plan). IsRight q is cmd a.answer) (sym p) a.right;
  stop = a.stop;
  left = subst (λ (q : Plan). answers.Leads other (remaining_after q is cmd a.answer) (followers_of other is cmd a.answer) a.stop new) (sym p)
      (subst (λ (next : List Input). answers.Leads other (remaining_after given.plan is cmd a.answer) next a.stop new) (sym (followers-of-as given other is cmd a.answer p acts))
      (leads-as given other (remaining_after given.plan is cmd a.answer) (followers_of given is cmd a.answer) a.stop new p a.left));
  line = a.line ∙ (λ j. with_feed (told (sym wide j) cmd a.answer (replay (sym p j) (remaining_after (sym p j) is cmd a.answer))) ++ refused_after [] a.stop);
}

-- what takes no tick is answered alike on each log
other-log : (given other : Setup) (is : List Input) (c : Command) (text : List ℕ) (new : List Input) → other.plan ≡ given.plan → other.acts ≡ given.acts → other.is_wide ≡ given.is_wide → TakesNoTick c → Answers given is c text new → Answers other is c text new
other-log given other is (Step n) text new p acts wide none a = absurd none
other-log given other is Show text new p acts wide none a = (a.0 ∙ (λ j. with_feed (line_in (sym wide j) (replay (sym p j) is))), a.1)
other-log given other is Quit text new p acts wide none a = a
other-log given other is c text new p acts wide none a = asked-as given other is _ text new p acts wide a

-- where a live run goes on after a command, a session does
goes-on : (c : Command) (x : Option Stopped) → On ≡ flow_of (quits (Ask (live.Session c))) x → On ≡ flow_after c
goes-on Quit (Some x) e = e
goes-on Quit None e = e
goes-on c x e = refl

-- events and echo are off, and the plan is that of a session, in which the schedule acts if it does here
record Alike (given : Setup) (s : Live) : Type 0 where
  plan : given.plan ≡ s.plan
  acts : given.acts ≡ s.acts
  tells : s.tells ≡ false
  echoes : s.echoes ≡ false

-- the session where a live run is
abbrev standing : Setup → Live → Stand
standing given s = stand given s.is_wide s.inputs

replied : (given : Setup) (s t : Live) (line text : List ℕ) (asks : LiveReading) (there : Reading) (fault : Option LineFault) (x : Option Stopped) → Alike given s → AsksAsThere given s asks there
    → Reads s line asks text fault t → On ≡ flow_of (quits asks) x → Replies (standing given s) there text On (standing given t)
replied given s t line text Skip there fault x same asks a on = subst (λ (r : Reading). Replies (standing given s) r text On (standing given t)) (sym asks) (a.0, refl, ap (standing given) a.2)
replied given s t line text Bad there fault x same asks a on =
    subst (λ (r : Reading). Replies (standing given s) r text On (standing given t)) (sym asks)
    (a.0 ∙ ap (λ (b : Bool). echo_of b line ++ with_feed (codes "bad command")) same.echoes, refl, ap (standing given) a.2)
replied given s t line text (Tick row) there fault x same asks a on =
    subst (λ (r : Reading). Replies (standing given s) r text On (standing given t)) (sym asks.1)
    (rows-as (laid s.is_wide given) s t line text row fault same.tells same.echoes same.plan same.acts refl asks.0 a, refl, ap (λ (u : Live). laid u.is_wide given) a.4)
replied given s t line text (Ask (live.Session c)) there fault x same asks a on =
    subst (λ (r : Reading). Replies (standing given s) r text On (standing given t)) (sym asks.1) (
      other-log (setup s) (laid s.is_wide given) s.inputs c text t.inputs same.plan same.acts refl asks.0 (answered-as s t line text c fault same.tells same.echoes a),
      goes-on c x on,
      ap (λ (u : Live). laid u.is_wide given) a.4,
    )
replied given s t line text (Ask (live.Lines is_wide)) there fault x same asks a on =
    subst (λ (r : Reading). Replies (standing given s) r text On (standing given t)) (sym asks)
    (a.0 ∙ ap (λ (b : Bool). echo_of b line ++ with_feed (codes "ok")) same.echoes, refl, ap (standing given) a.2)
replied given s t line text (Ask c) there fault x same asks a on = absurd asks

-- they stay off, and the schedule acts on
record SameOff (s t : Live) : Type 0 where
  tells : t.tells ≡ s.tells
  echoes : t.echoes ≡ s.echoes
  acts : t.acts ≡ s.acts

same-after : (s t u : Live) → t ≡ u → SameOff s u → SameOff s t
same-after s t u same off = subst (λ (x : Live). SameOff s x) (sym same) off

same-off : (given : Setup) (s t : Live) (line text : List ℕ) (asks : LiveReading) (there : Reading) (fault : Option LineFault) → AsksAsThere given s asks there → Reads s line asks text fault t → SameOff s t
same-off given s t line text Skip there fault asks a = same-after s t s a.2 (record { tells = refl; echoes = refl; acts = refl })
same-off given s t line text Bad there fault asks a = same-after s t s a.2 (record { tells = refl; echoes = refl; acts = refl })
same-off given s t line text (Tick row) there fault asks a = same-after s t (with_inputs a.1 (with_row row s)) a.4 (record { tells = refl; echoes = refl; acts = refl })
same-off given s t line text (Ask (live.Session c)) there fault asks a = same-after s t (with_inputs a.1 s) a.4 (record { tells = refl; echoes = refl; acts = refl })
same-off given s t line text (Ask (live.Lines is_wide)) there fault asks a = same-after s t (with_lines is_wide s) a.2 (record { tells = refl; echoes = refl; acts = refl })
same-off given s t line text (Ask c) there fault asks a = absurd asks

still-alike : (given : Setup) (s now : Live) (n : ℕ) (line text : List ℕ) (there : Reading) → Alike given s → AsksAsThere given s (live_reading line) there → Says s n line text On now → Alike given now
still-alike given s now n line text there same asks a =
    let off : SameOff s a.left = same-off given s a.left line text (live_reading line) there a.fault asks a.reads in
    record {
      plan = same.plan ∙ sym (by-says s now n line text On a).same;
      acts = same.acts ∙ sym (ap (λ (u : Live). u.acts) a.stops ∙ off.acts);
      tells = ap (λ (u : Live). u.tells) a.stops ∙ (off.tells ∙ same.tells);
      echoes = ap (λ (u : Live). u.echoes) a.stops ∙ (off.echoes ∙ same.echoes);
    }

-- a session to which the other lines are given has come as far
record AsFar (given : Setup) (others : List (List ℕ)) (text : List ℕ) (now : Live) : Type 0 where
  runs : Runs 202 says (stand given false []) others text (standing given now)
  same : Alike given now

as-far : (given : Setup) (lines others : List (List ℕ)) (text : List ℕ) (now : Live) → RunsAsThere given (begun GoOn given.acts given.plan) lines others text now → AsFar given others text now
as-far given [] [] text now r = record {
  runs = (r.0, ap (standing given) r.1);
  same = subst (λ (u : Live). Alike given u) (sym r.1) (record { plan = refl; acts = refl; tells = refl; echoes = refl });
}
as-far given [] (other ∷ others) text now r = absurd r
as-far given (line ∷ lines) [] text now r = absurd r
as-far given (line ∷ lines) (other ∷ others) text now r =
    let before : AsFar given others r.0 r.2 = as-far given lines others r.0 r.2 r.3 in
    record {
      runs = (
        r.0,
        r.1,
        standing given r.2,
        before.runs,
        subst (λ (u : Live). Replies (standing given r.2) (reading (asked 202 other)) r.1 On (standing given u)) (sym r.4.stops)
            (replied given r.2 r.4.left (asked 202 line) r.1 (live_reading (asked 202 line)) (reading (asked 202 other)) r.4.fault (stopped_at r.2.on_fault (suc (length lines)) (asked 202 line) r.4.fault) before.same r.5 r.4.reads r.4.goes),
        r.6,
      );
      same = still-alike given r.2 now (suc (length lines)) (asked 202 line) r.1 (reading (asked 202 other)) before.same r.5 r.4;
    }

pub runs-as : (given : Setup) (lines others : List (List ℕ)) (text : List ℕ) (now : Live) → RunsAsThere given (begun GoOn given.acts given.plan) lines others text now →
    Runs 202 says (stand given false []) others text (stand given now.is_wide now.inputs)
runs-as given lines others text now r = (as-far given lines others text now r).runs
