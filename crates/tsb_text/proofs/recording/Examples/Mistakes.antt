-- Mistakes that the law of events refuses, and what is kept of a worked run, computed.
use Rattle.std.proofs.Common.{suc, ◌≡◌, ℕ, ◌+◌, Bool, true, false, if◌then◌else◌, List, [], ◌∷◌, ◌++◌, length, length-append, take, get_or, codes, refl, sym, ap, subst, arith, Some, None, inl}
use Rattle.std.specs.Fmt.{digits}
use Rattle.tsb_types.specs.Events.{event}
use Rattle.tsb_step.specs.tsb_history.declared.kinds.Kind.TheVariants as kinds
use Rattle.tsb_step.specs.tsb_plan.Plan.{Plan}
use Rattle.tsb_step.specs.Following.{action, action_from, followers as all_followers, following, selects, with_omits}
use Rattle.tsb_step.specs.Play.{IsRight}
use Rattle.tsb_step.specs.Runs.{replay}
use Rattle.tsb_step.specs.State.{State}
use Rattle.tsb_step.specs.Step.{verdict}
use Rattle.tsb_step.proofs.ClockLemmas.{no_clock_no_change}
use Rattle.tsb_log_text.specs.declared.log.LogRow.{LogRow}
use Rattle.tsb_bench.specs.tsb_machine.declared.commands.Answer.TheVariants.{Took, Undone}
use Rattle.tsb_bench.specs.tsb_machine.declared.commands.MachineCommand.TheVariants.{Apply}
use Rattle.tsb_command_text.specs.declared.command.Command.TheVariants.{Clock, Step, Undo}
use Rattle.tsb_command_text.specs.declared.command.Reading.{Reading}
use Rattle.tsb_command_text.specs.declared.command.Reading.TheVariants.{Bad, Do}
use Rattle.std.specs.declared.option.Option.{Option}
use Rattle.tsb_step.specs.declared.inputs.Input.{Input}
use Rattle.tsb_step.specs.declared.inputs.Input.TheVariants as inputs
use Rattle.tsb_command_text.specs.Readings.{reading}
use Rattle.tsb_text.specs.Answers.{Leads, Setup, followers, next_tick}
use Rattle.tsb_text.specs.declared.faults.LineFault.{LineFault}
use Rattle.tsb_text.specs.declared.faults.LineFault.TheVariants.{BadCommand}
use Rattle.tsb_text.specs.declared.faults.OnFault.{OnFault}
use Rattle.tsb_text.specs.declared.faults.OnFault.TheVariants.{GoOn, Stop}
use Rattle.tsb_text.specs.recording.Ended.{BeginsLast}
use Rattle.tsb_text.specs.Faults.{shown}
use Rattle.tsb_text.specs.recording.Faults.{fault_line, fault_text}
use Rattle.tsb_text.specs.recording.Laws.{StoppedSo}
use Rattle.tsb_text.specs.recording.Leaves.{BeginsWith, Come, Does, End, Ends, Follows, quits}
use Rattle.tsb_text.specs.Stops.{flow_after, stopped_at}
use Rattle.tsb_text.proofs.recording.ClockLemmas.{clocks_are_first_lines}
use Rattle.tsb_text.proofs.recording.StopLemmas.{no_line_stops_others}
use Rattle.tsb_text.specs.declared.recording.told.Mark.{Mark}
use Rattle.tsb_text.specs.recording.Told.{Telling, gone_back, nothing_told, with_events, with_mark}

-- the first two ticks and a pattern between them: what they told
abbrev mark : ℕ → ℕ → Mark
mark tick events = record { tick = tick; events = events }

abbrev none : Telling
none = nothing_told

abbrev told : Telling
told = with_events (event 2 8 2 ∷ []) (with_mark 1 (event 1 131 3 ∷ []) (with_events (event 1 0 2 ∷ event 1 1 2 ∷ []) none))

kept : told ≡ record { events = event 1 0 2 ∷ event 1 1 2 ∷ event 1 131 3 ∷ event 2 8 2 ∷ []; marks = mark 1 2 ∷ [] }
kept = refl

-- back at tick 1 the pattern stays, as it came at that tick
back : gone_back 1 told ≡ record { events = event 1 0 2 ∷ event 1 1 2 ∷ event 1 131 3 ∷ []; marks = mark 1 2 ∷ [] }
back = refl

-- at tick 0 nothing does
all_back : gone_back 0 told ≡ none
all_back = refl

-- ## Mistakes

-- with the number of the tick before it, the events of the second tick would stay when the bench goes back to the first
abbrev tick_before : Telling
tick_before = with_events (event 1 8 2 ∷ []) (with_events (event 0 0 2 ∷ []) none)

stays : (gone_back 1 tick_before).events ≡ event 0 0 2 ∷ event 1 8 2 ∷ []
stays = refl

-- back at the tick itself, and not at the one before it, what it told would stay where it is undone
goes_back_too_little : (gone_back 1 (with_events (event 1 0 2 ∷ []) none)).events ≡ event 1 0 2 ∷ []
goes_back_too_little = refl

goes_back : (gone_back 0 (with_events (event 1 0 2 ∷ []) none)).events ≡ []
goes_back = refl

-- ## What lines leave

-- what a line comes to that reads so, with those after it
abbrev ComesAs : OnFault → Setup → End → ℕ → List Input → List ℕ → List (List ℕ) → List ℕ → Reading → Type 0
ComesAs on_fault given end n is line lines told r =
    (fault : Option LineFault) × (new : List Input) × (rest : List ℕ) × Does given is r fault new × (told ≡ fault_text n line fault ++ rest)
    × Follows (flow_after (quits r) (stopped_at on_fault n line fault)) (Come on_fault given end (suc n) new lines rest) (Ends end new (stopped_at on_fault n line fault) rest)

comes : (on_fault : OnFault) (given : Setup) (end : End) (n : ℕ) (is : List Input) (line : List ℕ) (lines : List (List ℕ)) (told : List ℕ) (r : Reading) → reading line ≡ r → ComesAs on_fault given end n is line lines told r
    → Come on_fault given end n is (line ∷ lines) told
comes on_fault given end n is line lines told r reads h = subst (ComesAs on_fault given end n is line lines told) (sym reads) h

-- no line ends the record
abbrev left : List Input → End
left is = record { inputs = is; stop = None }

-- without a clock no pattern follows
no_action : (before after : State) → after.start_moment ≡ None → following before after ≡ None
no_action before after none = ap (λ (m : Option ℕ). selects after.plan (action before) (action_from after.plan m after.now)) none

none_follows : (given : Setup) → followers given [] (next_tick given []) ≡ []
none_follows given = go given.acts
  where
    go : (acts : Bool) → (if acts then all_followers (replay given.plan []) (replay given.plan (next_tick given [] ∷ [])) else []) ≡ []
    go true =
        ap (with_omits (replay given.plan (next_tick given [] ∷ [])))
        (no_action (replay given.plan []) (replay given.plan (next_tick given [] ∷ [])) (no_clock_no_change given.plan (next_tick given [] ∷ []) (refl, tt)).start)
    go false = refl

tick_leads : (given : Setup) → Leads given (next_tick given [] ∷ []) (followers given [] (next_tick given [])) None (next_tick given [] ∷ [])
tick_leads given = subst (λ (n : List Input). Leads given (next_tick given [] ∷ []) n None (next_tick given [] ∷ [])) (sym (none_follows given)) (refl, refl)

-- a tick from power-up leaves that tick, of any plan and log
ticks_once : (given : Setup) → Does given [] (Do (Step 1)) None (next_tick given [] ∷ [])
unfolding verdict
ticks_once given = (None, (_, inl ([], None, next_tick given [] ∷ [], record { right = refl; leads = tick_leads given; line = refl }, (refl, refl, refl))), refl)

-- so of a line that asks for it
one_tick : (given : Setup) (tick : List ℕ) → reading tick ≡ Do (Step 1) → Come Stop given (left (next_tick given [] ∷ [])) 1 [] (tick ∷ []) []
one_tick given tick ticks =
    comes Stop given (left (next_tick given [] ∷ [])) 1 [] tick [] [] (Do (Step 1)) ticks (None, next_tick given [] ∷ [], [], ticks_once given, refl, (refl, refl))

-- and undone
taken_back : (given : Setup) (tick undo : List ℕ) → reading tick ≡ Do (Step 1) → reading undo ≡ Do Undo → Come Stop given (left []) 1 [] (tick ∷ undo ∷ []) []
taken_back given tick undo ticks undoes =
    comes Stop given (left []) 1 [] tick (undo ∷ []) [] (Do (Step 1)) ticks (
      None,
      next_tick given [] ∷ [],
      [],
      ticks_once given,
      refl,
      comes Stop given (left []) 2 (next_tick given [] ∷ []) undo [] [] (Do Undo) undoes
          (None, [], [], (None, (_, record { answer = Undone kinds.Tick; right = refl; stop = None; left = (refl, refl); line = refl; refused = refl }), refl), refl, (refl, refl)),
    )

-- ## What is told of a line

-- its own text, and what is wrong with it
says_why : fault_line 4 (codes "patern 1") BadCommand ≡ codes "command 4: patern 1: bad command\n"
unfolding digits
says_why = refl

-- what a terminal would take for a colour is not shown as it is
not_raw : shown (27 ∷ codes "[31m") ≡ codes "?[31m"
not_raw = refl

-- ## Strict records

-- this line ends a record
abbrev stopped_by : ℕ → List ℕ → End
stopped_by n line = record { inputs = []; stop = Some (record { number = n; line = take 200 line; fault = BadCommand }) }

-- a line that is no command ends a strict record, and its text alone is told
stopped : (given : Setup) (bad tick : List ℕ) → reading bad ≡ Bad → Come Stop given (stopped_by 1 bad) 1 [] (bad ∷ tick ∷ []) (fault_line 1 bad BadCommand ++ [])
stopped given bad tick reads = comes Stop given (stopped_by 1 bad) 1 [] bad (tick ∷ []) (fault_line 1 bad BadCommand ++ []) Bad reads (Some BadCommand, [], [], (refl, refl), refl, (refl, refl))

-- one that goes on takes the tick after it
gone_on : (given : Setup) (bad tick : List ℕ) → reading bad ≡ Bad → reading tick ≡ Do (Step 1) → Come GoOn given (left (next_tick given [] ∷ [])) 1 [] (bad ∷ tick ∷ []) (fault_line 1 bad BadCommand ++ [])
gone_on given bad tick reads ticks =
    comes GoOn given (left (next_tick given [] ∷ [])) 1 [] bad (tick ∷ []) (fault_line 1 bad BadCommand ++ []) Bad reads (
      Some BadCommand,
      [],
      [],
      (refl, refl),
      refl,
      comes GoOn given (left (next_tick given [] ∷ [])) 2 [] tick [] [] (Do (Step 1)) ticks (None, next_tick given [] ∷ [], [], ticks_once given, refl, (refl, refl)),
    )

-- were a strict record to end with the second such line, it would tell of two
would_tell_two : (given : Setup) (bad : List ℕ) → StoppedSo given 1 [] (bad ∷ bad ∷ []) (fault_line 1 bad BadCommand ++ fault_line 2 bad BadCommand) [] (stopped_by 2 bad).stop → ⊥
unfolding digits
would_tell_two given bad s = let no : 49 ≡ 50 = ap (λ (v : List ℕ). get_or v 8 0) s.alone in absurd (omega (arith, no))

-- were one that goes on to end with it, the tick after it would be left out
would_leave_out : (given : Setup) (bad tick told : List ℕ) → Come GoOn given (stopped_by 1 bad) 1 [] (bad ∷ tick ∷ []) told → ⊥
would_leave_out given bad tick told h = let none : (stopped_by 1 bad).stop ≡ None = no_line_stops_others given [] (stopped_by 1 bad) (bad ∷ tick ∷ []) told h in absurd (let no : ⊥ = cc in no)

-- ## Clocks

-- a line that sets a clock, and no other, where no schedule acts
clock_first : (plan : Plan) (log : List LogRow) (m : ℕ) (clock : List ℕ) → reading clock ≡ Do (Clock m)
    → Come Stop (record { plan = plan; log = log; acts = false; is_wide = false }) (left (inputs.Clock m ∷ [])) 1 [] (clock ∷ []) []
clock_first plan log m clock sets =
    clocks_are_first_lines Stop (record { plan = plan; log = log; acts = false; is_wide = false }) m (inputs.Clock m ∷ []) (left (inputs.Clock m ∷ [])) 1 clock [] [] sets (refl, refl) (refl, refl)

-- where one does, the pattern is left that follows it
pattern_next : (given : Setup) (m n : ℕ) (clock : List ℕ) → reading clock ≡ Do (Clock m) → followers given [] (inputs.Clock m) ≡ inputs.Pattern n ∷ []
    → IsRight given.plan (inputs.Clock m ∷ []) (Apply (inputs.Pattern n)) Took → Come Stop given (left (inputs.Pattern n ∷ inputs.Clock m ∷ [])) 1 [] (clock ∷ []) []
pattern_next given m n clock sets follows right =
    let begins : BeginsWith given (Some m) (inputs.Pattern n ∷ inputs.Clock m ∷ []) =
    subst (λ (o : List Input). Leads given (inputs.Clock m ∷ []) o None (inputs.Pattern n ∷ inputs.Clock m ∷ [])) (sym follows) (inl (right, (refl, refl))) in
    clocks_are_first_lines Stop given m (inputs.Pattern n ∷ inputs.Clock m ∷ []) (left (inputs.Pattern n ∷ inputs.Clock m ∷ [])) 1 clock [] [] sets begins (refl, refl)

-- and the arrows that are omitted behind it, where it has others omitted
omit_next : (given : Setup) (m n list : ℕ) (clock : List ℕ) → reading clock ≡ Do (Clock m) → followers given [] (inputs.Clock m) ≡ inputs.Pattern n ∷ inputs.Omit list ∷ []
    → IsRight given.plan (inputs.Clock m ∷ []) (Apply (inputs.Pattern n)) Took → IsRight given.plan (inputs.Pattern n ∷ inputs.Clock m ∷ []) (Apply (inputs.Omit list)) Took
    → Come Stop given (left (inputs.Omit list ∷ inputs.Pattern n ∷ inputs.Clock m ∷ [])) 1 [] (clock ∷ []) []
omit_next given m n list clock sets follows first second =
    let all : List Input = inputs.Omit list ∷ inputs.Pattern n ∷ inputs.Clock m ∷ [] in
    let begins : BeginsWith given (Some m) all =
    subst (λ (o : List Input). Leads given (inputs.Clock m ∷ []) o None all) (sym follows) (inl (first, inl (second, (refl, refl)))) in
    clocks_are_first_lines Stop given m all (left all) 1 clock [] [] sets begins (refl, refl)

-- were the clock of a record forgotten, it would leave no input where that line leaves one
abbrev forgets : Option ℕ → List Input
forgets clock = []

would_leave_none : (given : Setup) (m : ℕ) → Come Stop given (left (inputs.Clock m ∷ [])) 2 (forgets (Some m)) [] [] → ⊥
would_leave_none given m h = let no : 1 ≡ 0 = ap (λ (e : End). length e.inputs) h.1 in absurd (omega (arith, no))

-- ## What was told before a fault

-- of a line that is no command as much as this was told
begun : (given : Setup) → reading (codes "b") ≡ Bad → BeginsLast Stop given 1 [] (codes "b") (codes "command 1: b: ")
unfolding digits
begun given bad = (
  stopped_by 1 (codes "b"),
  codes "bad command" ++ 10 ∷ [],
  comes Stop given (stopped_by 1 (codes "b")) 1 [] (codes "b") [] (codes "command 1: b: bad command" ++ 10 ∷ []) Bad bad (Some BadCommand, [], [], (refl, refl), refl, (refl, refl)),
)

-- a line that is told twice begins nothing that is to be told
abbrev twice : List ℕ
twice = fault_line 1 (codes "b") BadCommand ++ codes "c"

told_twice : (given : Setup) → reading (codes "b") ≡ Bad → BeginsLast GoOn given 1 [] (codes "b") twice → ⊥
unfolding digits
told_twice given bad b =
    let h : ComesAs GoOn given b.0 1 [] (codes "b") [] (twice ++ b.1) Bad = subst (ComesAs GoOn given b.0 1 [] (codes "b") [] (twice ++ b.1)) bad b.2 in
    let same : length (twice ++ b.1) ≡ length (fault_text 1 (codes "b") h.0 ++ h.2) = ap length h.4 in
    let longer : length (twice ++ b.1) ≡ 27 + length b.1 = length-append twice b.1 in
    let whole : length (fault_text 1 (codes "b") h.0 ++ h.2) ≡ 26 = λ j. length (fault_text 1 (codes "b") (h.3.0 j) ++ h.5.0 j) in
    absurd (omega (arith, same, longer, whole))
