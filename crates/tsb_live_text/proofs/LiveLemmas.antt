-- What is said of a line of a live run.
use Rattle.std.proofs.Common.{◌≡◌, ℕ, List, [], ◌∷◌, ◌++◌, Bool, true, false, None, Some, refl, sym, ap, ◌∙◌, IfOk, Ok, Err, subst, inl, inr}
use Rattle.std.specs.declared.option.Option.{Option}
use Rattle.std.specs.declared.result.Result.{Result}
use Rattle.tsb_bench.specs.Held.{Held, state_of, whole}
use Rattle.tsb_command_text.specs.declared.command.Command.{Command}
use Rattle.tsb_text.specs.kept.Kept.{Keeping, Stock, kept_of, nothing_kept}
use Rattle.tsb_lines.specs.declared.writes.WriteError.{WriteError}
use Rattle.tsb_status_text.specs.PlanLine.{plan_text}
use Rattle.tsb_step.specs.declared.inputs.Input.{Input}
use Rattle.tsb_step.specs.Play.{Follows}
use Rattle.tsb_step.specs.State.{State}
use Rattle.tsb_step.specs.tsb_plan.Plan.{Plan}
use Rattle.tsb_types.specs.Sets.{all_off}
use Rattle.tsb_types.specs.declared.refusal.Refusal.{Refusal}
use Rattle.tsb_types.specs.declared.refusal.Refusal.TheVariants.{Memory}
use Rattle.tsb_types.specs.declared.row.Row.{Row}
use Rattle.tsb_dialog.specs.declared.answers.Flow.{Flow}
use Rattle.tsb_dialog.specs.Said.{IsCutShort, Said, SaidUntilFault, with_feed}
use Rattle.tsb_dialog.specs.Says.{Answered}
use Rattle.tsb_dialog.proofs.SaidLemmas.{said-nothing, until-more}
use Rattle.tsb_text.specs.Answers.{line_in, refused_line, when_line}
use Rattle.tsb_text.specs.Faults.{fault_words}
use Rattle.tsb_text.specs.declared.course.Mode.{Mode}
use Rattle.tsb_text.specs.declared.course.Mode.TheVariants.{Plain, Keeping as KeepsInputs, Telling, Recording}
use Rattle.tsb_text.specs.declared.faults.LineFault.{LineFault}
use Rattle.tsb_text.specs.declared.faults.LineFault.TheVariants as faults
use Rattle.tsb_text.specs.declared.faults.OnFault.{OnFault}
use Rattle.tsb_text.specs.Obeyed.{Done, IsKept, Keeps, OnCourse, Stands, besides_of, holding, laid, mode_with, tells_in}
use Rattle.tsb_text.specs.Obeys as session
use Rattle.tsb_text.specs.Obeys.{Besides}
use Rattle.tsb_text.specs.Tasks.{task_of}
use Rattle.tsb_text.proofs.CourseLemmas.{course-begins, follows-state, is-kept, not-recorded}
use Rattle.tsb_text.specs.recording.Told.{nothing_told}
use Rattle.tsb_text.specs.declared.rows.Rows.TheVariants.{Held as HeldRow}
use Rattle.tsb_text.specs.Rows.{rows_in}
use Rattle.tsb_command_text.specs.declared.live_command.Aim.{Aim}
use Rattle.tsb_command_text.specs.declared.live_command.LiveCommand.{LiveCommand}
use Rattle.tsb_command_text.specs.declared.live_command.LiveCommand.TheVariants as asks
use Rattle.tsb_command_text.specs.declared.live_command.LiveReading.{LiveReading}
use Rattle.tsb_command_text.specs.declared.live_command.LiveReading.TheVariants.{Skip}
use Rattle.tsb_command_text.specs.LiveReadings.{live_reading}
use Rattle.tsb_text.specs.Stops.{Stopped, flow_after, stop_in, stopped_at}
use Rattle.tsb_live_text.specs.Changes.{Changes}
use Rattle.tsb_live_text.specs.GoTo.{command_to, tick_of}
use Rattle.tsb_live_text.specs.Live.{AsksLive, GoesTo, Leaves, Live, Obeys, Reads, Says, Tells, TellsTick, besides, echo_of, fault_by, present, begun, quits, setup, with_echo, with_events, with_inputs, with_lines, with_row, with_stop}
use Rattle.tsb_live_text.specs.Standing.{Does, StandsLive, TellsMade, TellsOnce, TellsPlan, TellsTickOnce}
use Rattle.tsb_live_text.specs.declared.run.LiveRun.{LiveRun}

-- ## Where a run stands

pub present-state : (run : LiveRun) (s : Live) → StandsLive run s → state_of run.course.bench ≡ present s
present-state run s stands = follows-state s.plan (whole run.course.bench) s.inputs stands.stands.follows

pub present-kept : (run : LiveRun) (s : Live) → StandsLive run s → run.course.kept.kept ≡ kept_of s.plan s.inputs
present-kept run s stands = is-kept run.course.mode run.course.kept.kept s.plan s.inputs stands.keeps stands.stands.keeps

-- what is said besides
pub same-besides : (run : LiveRun) (s : Live) (line echo : List ℕ) → StandsLive run s → echo ≡ echo_of run.echoes line → besides_of run.course echo ≡ besides s line
same-besides run s line echo stands is = (λ j. let b : Besides = record { tells = stands.tells j; echo = same j } in b)
  where
    same : echo ≡ echo_of s.echoes line
    same = is ∙ ap (λ (b : Bool). echo_of b line) stands.echoes

pub same-echo : (run : LiveRun) (s : Live) (line echo : List ℕ) → StandsLive run s → echo ≡ echo_of run.echoes line → echo ≡ echo_of s.echoes line
same-echo run s line echo stands is = is ∙ ap (λ (b : Bool). echo_of b line) stands.echoes

-- the mode stays one in which inputs are kept
keeps-on : (old new : Mode) → new ≡ old → Keeps old → Keeps new
keeps-on old new same k = subst Keeps (sym same) k

-- the run after a command that left these inputs
pub stands-on : (run new : LiveRun) (s : Live) (left : List Input) → StandsLive run s → Stands (setup s) (rows_in (HeldRow s.row)) new.course left → new.course.mode ≡ run.course.mode
    → new.echoes ≡ run.echoes → new.on_fault ≡ run.on_fault → new.stop ≡ run.stop → StandsLive new (with_inputs left s)
stands-on run new s left stands course mode echoes on_fault stop = record {
  stands = course;
  keeps = keeps-on run.course.mode new.course.mode mode stands.keeps;
  tells = ap tells_in mode ∙ stands.tells;
  echoes = echoes ∙ stands.echoes;
  on_fault = on_fault ∙ stands.on_fault;
  stop = ap stop_in stop ∙ stands.stop;
}

-- a row was given
pub row-stands : (run new : LiveRun) (s : Live) (row : Row) → StandsLive run s → new.course ≡ holding row run.course → new.echoes ≡ run.echoes → new.on_fault ≡ run.on_fault → new.stop ≡ run.stop → StandsLive new (with_row row s)
row-stands run new s row stands course echoes on_fault stop = record {
  stands = subst (λ (x : OnCourse). Stands (setup (with_row row s)) (rows_in (HeldRow row)) x s.inputs) (sym course) (record { same = refl; rows = refl; follows = stands.stands.follows; keeps = stands.stands.keeps; tells = not-recorded run.course.mode run.course.told.told (setup (with_row row s)) s.inputs stands.keeps; acts = stands.stands.acts; wide = stands.stands.wide });
  keeps = subst (λ (x : OnCourse). Keeps x.mode) (sym course) stands.keeps;
  tells = ap (λ (x : OnCourse). tells_in x.mode) course ∙ stands.tells;
  echoes = echoes ∙ stands.echoes;
  on_fault = on_fault ∙ stands.on_fault;
  stop = ap stop_in stop ∙ stands.stop;
}

-- inputs tell their events from now on, or not
mode-keeps : (on : Bool) (m : Mode) → Keeps m → Keeps (mode_with on m)
mode-keeps on Plain k = absurd k
mode-keeps on (Recording form) k = absurd k
mode-keeps true KeepsInputs k = tt
mode-keeps false KeepsInputs k = tt
mode-keeps true Telling k = tt
mode-keeps false Telling k = tt

mode-tells : (on : Bool) (m : Mode) → Keeps m → tells_in (mode_with on m) ≡ on
mode-tells on Plain k = absurd k
mode-tells on (Recording form) k = absurd k
mode-tells true KeepsInputs k = refl
mode-tells false KeepsInputs k = refl
mode-tells true Telling k = refl
mode-tells false Telling k = refl

mode-kept : (on : Bool) (m : Mode) (kept : Keeping) (plan : Plan) (is : List Input) → Keeps m → IsKept m kept plan is → IsKept (mode_with on m) kept plan is
mode-kept on Plain kept plan is k same = absurd k
mode-kept on (Recording form) kept plan is k same = absurd k
mode-kept true KeepsInputs kept plan is k same = same
mode-kept false KeepsInputs kept plan is k same = same
mode-kept true Telling kept plan is k same = same
mode-kept false Telling kept plan is k same = same

pub events-stands : (run new : LiveRun) (s : Live) (on : Bool) → StandsLive run s → new.course.mode ≡ mode_with on run.course.mode → new.course.bench ≡ run.course.bench → new.course.rows ≡ run.course.rows → new.course.kept ≡ run.course.kept → new.course.acts ≡ run.course.acts → new.course.is_wide ≡ run.course.is_wide
    → new.echoes ≡ run.echoes → new.on_fault ≡ run.on_fault → new.stop ≡ run.stop → StandsLive new (with_events on s)
events-stands run new s on stands mode bench rows kept acts wide echoes on_fault stop = record {
  stands = record {
    same = stands.stands.same;
    rows = rows ∙ stands.stands.rows;
    follows = subst (λ (b : Held). Follows s.plan (whole b) s.inputs) (sym bench) stands.stands.follows;
    keeps = subst (λ (m : Mode). IsKept m new.course.kept.kept s.plan s.inputs) (sym mode)
        (subst (λ (k : Keeping). IsKept (mode_with on run.course.mode) k s.plan s.inputs) (sym (ap (λ (k : Stock). k.kept) kept)) (mode-kept on run.course.mode run.course.kept.kept s.plan s.inputs stands.keeps stands.stands.keeps));
    tells = not-recorded new.course.mode new.course.told.told (setup s) s.inputs (subst Keeps (sym mode) (mode-keeps on run.course.mode stands.keeps));
    acts = acts ∙ stands.stands.acts;
    wide = wide ∙ stands.stands.wide;
  };
  keeps = subst Keeps (sym mode) (mode-keeps on run.course.mode stands.keeps);
  tells = ap tells_in mode ∙ mode-tells on run.course.mode stands.keeps;
  echoes = echoes ∙ stands.echoes;
  on_fault = on_fault ∙ stands.on_fault;
  stop = ap stop_in stop ∙ stands.stop;
}

-- answers stand after their command from now on, or not
pub echo-stands : (run new : LiveRun) (s : Live) (on : Bool) → StandsLive run s → new.course ≡ run.course → new.echoes ≡ on → new.on_fault ≡ run.on_fault → new.stop ≡ run.stop → StandsLive new (with_echo on s)
echo-stands run new s on stands course echoes on_fault stop = record {
  stands = subst (λ (x : OnCourse). Stands (setup s) (rows_in (HeldRow s.row)) x s.inputs) (sym course) stands.stands;
  keeps = subst (λ (x : OnCourse). Keeps x.mode) (sym course) stands.keeps;
  tells = ap (λ (x : OnCourse). tells_in x.mode) course ∙ stands.tells;
  echoes = echoes;
  on_fault = on_fault ∙ stands.on_fault;
  stop = ap stop_in stop ∙ stands.stop;
}

-- display lines are wide from now on, or not
pub lines-stands : (run new : LiveRun) (s : Live) (is_wide : Bool) → StandsLive run s → new.course ≡ laid is_wide run.course → new.echoes ≡ run.echoes → new.on_fault ≡ run.on_fault → new.stop ≡ run.stop → StandsLive new (with_lines is_wide s)
lines-stands run new s is_wide stands course echoes on_fault stop = record {
  stands = subst (λ (x : OnCourse). Stands (setup (with_lines is_wide s)) (rows_in (HeldRow s.row)) x s.inputs) (sym course) (record { same = refl; rows = stands.stands.rows; follows = stands.stands.follows; keeps = stands.stands.keeps; tells = not-recorded run.course.mode run.course.told.told (setup (with_lines is_wide s)) s.inputs stands.keeps; acts = stands.stands.acts; wide = refl });
  keeps = subst (λ (x : OnCourse). Keeps x.mode) (sym course) stands.keeps;
  tells = ap (λ (x : OnCourse). tells_in x.mode) course ∙ stands.tells;
  echoes = echoes ∙ stands.echoes;
  on_fault = on_fault ∙ stands.on_fault;
  stop = ap stop_in stop ∙ stands.stop;
}

-- at power-up
pub run-begins : (on_fault : OnFault) (acts : Bool) (plan : Plan) (run : LiveRun) → run.course.mode ≡ KeepsInputs → run.on_fault ≡ on_fault → Follows plan (whole run.course.bench) [] → run.course.rows ≡ rows_in (HeldRow all_off) → run.course.kept.kept ≡ nothing_kept → run.course.told.told ≡ nothing_told
    → run.course.acts ≡ acts → run.course.is_wide ≡ false → run.echoes ≡ false → run.stop ≡ None → StandsLive run (begun on_fault acts plan)
run-begins on_fault acts plan run mode strict follows rows kept told active narrow echoes stop = record {
  stands = course-begins (setup (begun on_fault acts plan)) (rows_in (HeldRow all_off)) run.course refl rows follows kept told active narrow;
  keeps = subst Keeps (sym mode) tt;
  tells = ap tells_in mode;
  echoes = echoes;
  on_fault = strict;
  stop = ap stop_in stop;
}

-- ## Answers that may be that something was refused

-- what is said of an answer of the bench is an answer of the run
abbrev Carries : (List ℕ → Option Refusal → List Input → Type 0) → (List ℕ → Option Refusal → List Input → Type 0) → Type 0
Carries P Q = (text : List ℕ) (refusal : Option Refusal) (left : List Input) → P text refusal left → Q text refusal left

pub does-leave : (P Q : List ℕ → Option Refusal → List Input → Type 0) (refusal : Option Refusal) (fault : Option LineFault) (run new : LiveRun) (s : Live) (a b : Option (List ℕ)) (p q : List ℕ)
    → StandsLive run s → new.course.mode ≡ run.course.mode → new.echoes ≡ run.echoes → new.on_fault ≡ run.on_fault → new.stop ≡ run.stop
    → Carries P Q → fault ≡ fault_by refusal → Done (Ok refusal) (setup s) (rows_in (HeldRow s.row)) new.course P a b p q → Does (Ok fault) new (Leaves s Q) a b p q
does-leave P Q refusal fault run new s a b p q stands mode echoes on_fault stop carries faults d = (
  with_inputs d.0 s,
  stands-on run new s d.0 stands d.1 mode echoes on_fault stop,
  record { text = d.2.text; said = d.2.said; so = (refusal, d.0, carries d.2.text refusal d.0 d.2.so, faults, refl) },
)

pub does-break : (P Q : List ℕ → Option Refusal → List Input → Type 0) (e : WriteError) (new : LiveRun) (s : Live) (a b : Option (List ℕ)) (p q : List ℕ)
    → Carries P Q → Done (Err e) (setup s) (rows_in (HeldRow s.row)) new.course P a b p q → Does (Err e) new (Leaves s Q) a b p q
does-break P Q e new s a b p q carries d = record {
  text = d.text;
  said = d.said;
  so = (d.so.0, fault_by d.so.1, with_inputs d.so.2 s, (d.so.1, d.so.2, carries (d.text ++ d.so.0) d.so.1 d.so.2 d.so.3, refl, refl));
}

-- of a command of a session
pub obeys-so : (run : LiveRun) (s : Live) (line echo : List ℕ) (c : Command) → StandsLive run s → echo ≡ echo_of run.echoes line
    → Carries (session.Obeys (setup s) (besides_of run.course echo) s.inputs (task_of c)) (session.Obeys (setup s) (besides s line) s.inputs (task_of c))
obeys-so run s line echo c stands is = λ text refusal left o. subst (λ (x : Besides). session.Obeys (setup s) x s.inputs (task_of c) text refusal left) (same-besides run s line echo stands is) o

-- of ticks of which the changes are told
pub changes-so : (run : LiveRun) (s : Live) (line echo : List ℕ) (n : ℕ) → StandsLive run s → echo ≡ echo_of run.echoes line
    → Carries (Changes (setup s) (besides_of run.course echo) s.row s.inputs (line_in run.course.is_wide (state_of run.course.bench)) false n)
    (Changes (setup s) (besides s line) s.row s.inputs (line_in s.is_wide (present s)) false n)
changes-so run s line echo n stands is = λ text refusal left o.
    subst (λ (x : Besides). Changes (setup s) x s.row s.inputs (line_in s.is_wide (present s)) false n text refusal left) (same-besides run s line echo stands is)
    (subst (λ (l : List ℕ). Changes (setup s) (besides_of run.course echo) s.row s.inputs l false n text refusal left)
    (λ j. line_in (stands.stands.wide j) (present-state run s stands j)) o)

-- ## Answers of one line

-- echo, line and line feed, one after another
pub told-end : (r : Result (Unit {0}) WriteError) (a b c d : Option (List ℕ)) (p q u v echo line feed : List ℕ) → feed ≡ 10 ∷ [] → Said a b p q echo → Said b c q u line → SaidUntilFault r c d u v feed
    → SaidUntilFault r a d p v (echo ++ with_feed line)
told-end r a b c d p q u v echo line feed is one two three =
    subst (λ (x : List ℕ). SaidUntilFault r a d p v (echo ++ (line ++ x))) is (until-more r a b d p q v echo (line ++ feed) one (until-more r b c d q u v line feed two three))

-- a first part of a text, after one that was said
pub cut-more : (a b c : Option (List ℕ)) (p q u text x : List ℕ) → Said a b p q text → IsCutShort b c q u x → IsCutShort a c p u (text ++ x)
cut-more a b c p q u text x said cut = until-more {T = Unit {0}} {E = Unit {0}} (Err tt) a b c p q u text x said cut

-- the same line, told in another way
pub cut-same : (a b : Option (List ℕ)) (p q echo line other : List ℕ) → line ≡ other → IsCutShort a b p q (echo ++ with_feed line) → IsCutShort a b p q (echo ++ with_feed other)
cut-same a b p q echo line other same cut = subst (λ (l : List ℕ). IsCutShort a b p q (echo ++ with_feed l)) same cut

pub said-same : (a b : Option (List ℕ)) (p q echo line other : List ℕ) → line ≡ other → Said a b p q (echo ++ with_feed line) → Said a b p q (echo ++ with_feed other)
said-same a b p q echo line other same said = subst (λ (l : List ℕ). Said a b p q (echo ++ with_feed l)) same said

-- a text was said, and this is what it says
pub does-tell : (r : Result (Option LineFault) WriteError) (why : Option LineFault) (new : LiveRun) (s left : Live) (line echo answer wanted : List ℕ) (a b : Option (List ℕ)) (p q : List ℕ)
    → StandsLive new left → echo ≡ echo_of s.echoes line → answer ≡ wanted → TellsOnce r why (echo ++ with_feed answer) a b p q
    → Does r new (λ text fault t. Tells s line wanted why text fault left t) a b p q
does-tell (Ok fault) why new s left line echo answer wanted a b p q stands is same t =
    (left, stands, record { text = echo ++ with_feed answer; said = t.1; so = ((λ j. is j ++ with_feed (same j)), t.0, refl) })
does-tell (Err e) why new s left line echo answer wanted a b p q stands is same t = record {
  text = t.text;
  said = t.said;
  so = (t.so.0, why, left, (sym t.so.1 ∙ (λ j. is j ++ with_feed (same j)), refl, refl));
}

-- the line of the plan, or that there is no memory for it
pub does-plan : (r : Result (Option LineFault) WriteError) (new : LiveRun) (s : Live) (line echo : List ℕ) (a b : Option (List ℕ)) (p q : List ℕ)
    → StandsLive new s → echo ≡ echo_of s.echoes line → TellsPlan r (state_of new.course.bench).plan echo a b p q → Does r new (AsksLive s line asks.Plan) a b p q
does-plan r new s line echo a b p q stands is (inl t) =
    first r (does-tell r None new s s line echo (plan_text (state_of new.course.bench).plan) (plan_text (present s).plan) a b p q stands is
    (ap (λ (v : State). plan_text v.plan) (present-state new s stands)) t)
  where
    first : (r : Result (Option LineFault) WriteError) → Does r new (λ text fault t. Tells s line (plan_text (present s).plan) None text fault s t) a b p q → Does r new (AsksLive s line asks.Plan) a b p q
    first (Ok fault) d = (d.0, d.1, record { text = d.2.text; said = d.2.said; so = inl d.2.so })
    first (Err e) d = record { text = d.text; said = d.said; so = (d.so.0, d.so.1, d.so.2, inl d.so.3) }
does-plan r new s line echo a b p q stands is (inr t) =
    second r (does-tell r (Some (faults.Refused Memory)) new s s line echo (refused_line Memory) (refused_line Memory) a b p q stands is refl t)
  where
    second : (r : Result (Option LineFault) WriteError) → Does r new (λ text fault t. Tells s line (refused_line Memory) (Some (faults.Refused Memory)) text fault s t) a b p q
        → Does r new (AsksLive s line asks.Plan) a b p q
    second (Ok fault) d = (d.0, d.1, record { text = d.2.text; said = d.2.said; so = inr d.2.so })
    second (Err e) d = record { text = d.text; said = d.said; so = (d.so.0, d.so.1, d.so.2, inr d.so.3) }

-- of the line that was made of it
pub made-plan : {A E : Type 0} (text_of : A → List ℕ) (made : Result A E) (r : Result (Option LineFault) WriteError) (plan : Plan) (echo : List ℕ) (a b : Option (List ℕ)) (p q : List ℕ)
    → IfOk made (λ line. text_of line ≡ plan_text plan) → TellsMade text_of made r echo a b p q → TellsPlan r plan echo a b p q
made-plan text_of (Ok line) r plan echo a b p q is t = inl (subst (λ (x : List ℕ). TellsOnce r None (echo ++ with_feed x) a b p q) is t)
made-plan text_of (Err e) r plan echo a b p q is t = inr t

-- ## Times of the clock

-- the first tick at or after a moment
pub present-tick : (run : LiveRun) (s : Live) (aim : Aim) → StandsLive run s
    → tick_of (state_of run.course.bench).start_moment run.course.bench.tick aim ≡ tick_of (present s).start_moment (present s).now aim
present-tick run s aim stands = ap (λ (v : State). tick_of v.start_moment v.now aim) (present-state run s stands)

-- it was said, or what is wrong with the line that asks for it
does-tick : (tick : Result ℕ LineFault) (r : Result (Option LineFault) WriteError) (new : LiveRun) (s : Live) (line echo : List ℕ) (a b : Option (List ℕ)) (p q : List ℕ)
    → StandsLive new s → echo ≡ echo_of s.echoes line → TellsTickOnce tick r echo a b p q → Does r new (TellsTick s line tick) a b p q
does-tick (Ok tick) r new s line echo a b p q stands is t = does-tell r None new s s line echo (when_line (Some tick)) (when_line (Some tick)) a b p q stands is refl t
does-tick (Err why) r new s line echo a b p q stands is t = does-tell r (Some why) new s s line echo (fault_words why) (fault_words why) a b p q stands is refl t

pub does-tick-at : (tick wanted : Result ℕ LineFault) (r : Result (Option LineFault) WriteError) (new : LiveRun) (s : Live) (line echo : List ℕ) (a b : Option (List ℕ)) (p q : List ℕ)
    → tick ≡ wanted → StandsLive new s → echo ≡ echo_of s.echoes line → TellsTickOnce tick r echo a b p q → Does r new (TellsTick s line wanted) a b p q
does-tick-at tick wanted r new s line echo a b p q same stands is t = subst (λ (x : Result ℕ LineFault). Does r new (TellsTick s line x) a b p q) same (does-tick tick r new s line echo a b p q stands is t)

-- a command was carried out that leads to a tick
pub does-go : (tick : ℕ) (wanted : Result ℕ LineFault) (c : Command) (r : Result (Option LineFault) WriteError) (new : LiveRun) (s : Live) (line : List ℕ) (a b : Option (List ℕ)) (p q : List ℕ)
    → Ok tick ≡ wanted → c ≡ command_to (present s).now tick → Does r new (Obeys s line c) a b p q → Does r new (GoesTo s line wanted) a b p q
does-go tick wanted c r new s line a b p q same is d = subst (λ (x : Result ℕ LineFault). Does r new (GoesTo s line x) a b p q) same (subst (λ (x : Command). Does r new (Obeys s line x) a b p q) is d)

-- or it was said what is wrong
pub does-not-go : (why : LineFault) (wanted : Result ℕ LineFault) (r : Result (Option LineFault) WriteError) (new : LiveRun) (s : Live) (line echo : List ℕ) (a b : Option (List ℕ)) (p q : List ℕ)
    → Err why ≡ wanted → StandsLive new s → echo ≡ echo_of s.echoes line → TellsOnce r (Some why) (echo ++ with_feed (fault_words why)) a b p q → Does r new (GoesTo s line wanted) a b p q
does-not-go why wanted r new s line echo a b p q same stands is t =
    subst (λ (x : Result ℕ LineFault). Does r new (GoesTo s line x) a b p q) same (does-tell r (Some why) new s s line echo (fault_words why) (fault_words why) a b p q stands is refl t)

-- what was read is this
pub does-read : (r : Result (Option LineFault) WriteError) (s : Live) (new : LiveRun) (line : List ℕ) (asked c : LiveReading) (a b : Option (List ℕ)) (p q : List ℕ) → asked ≡ c
    → Does r new (Reads s line c) a b p q → Does r new (Reads s line asked) a b p q
does-read r s new line asked c a b p q is d = subst (λ (x : LiveReading). Does r new (Reads s line x) a b p q) (sym is) d

-- what was asked is this command
pub does-as : (r : Result (Option LineFault) WriteError) (s : Live) (new : LiveRun) (line : List ℕ) (asked c : LiveCommand) (a b : Option (List ℕ)) (p q : List ℕ) → asked ≡ c
    → Does r new (AsksLive s line c) a b p q → Does r new (AsksLive s line asked) a b p q
does-as r s new line asked c a b p q is d = subst (λ (x : LiveCommand). Does r new (AsksLive s line x) a b p q) (sym is) d

-- ## A line that was read

-- it is noted that a line ended the run
with-stop-stands : (run new : LiveRun) (s : Live) (stopped : Option Stopped) → StandsLive run s → new.course ≡ run.course → new.echoes ≡ run.echoes → new.on_fault ≡ run.on_fault
    → stop_in new.stop ≡ stopped → StandsLive new (with_stop stopped s)
with-stop-stands run new s stopped stands course echoes on_fault stop = record {
  stands = subst (λ (x : OnCourse). Stands (setup s) (rows_in (HeldRow s.row)) x s.inputs) (sym course) stands.stands;
  keeps = subst (λ (x : OnCourse). Keeps x.mode) (sym course) stands.keeps;
  tells = ap (λ (x : OnCourse). tells_in x.mode) course ∙ stands.tells;
  echoes = echoes ∙ stands.echoes;
  on_fault = on_fault ∙ stands.on_fault;
  stop = stop;
}

pub answered-ok : (flow : Flow) (asked : LiveReading) (is_quit : Bool) (fault : Option LineFault) (s : Live) (n : ℕ) (line : List ℕ) (old run new : LiveRun) (a b : Option (List ℕ)) (p q : List ℕ) → StandsLive old s → asked ≡ live_reading line
    → run.on_fault ≡ old.on_fault → Does (Ok fault) run (Reads s line asked) a b p q → new.course ≡ run.course → new.echoes ≡ run.echoes → new.on_fault ≡ run.on_fault
    → stop_in new.stop ≡ stopped_at run.on_fault n line fault → is_quit ≡ quits asked → flow ≡ flow_after is_quit (stop_in new.stop) → Answered StandsLive (Says s n line) (Ok flow) new a b p q
answered-ok flow asked is_quit fault s n line old run new a b p q stands reads kept d course echoes on_fault stop quit flows =
    let stopped : stop_in new.stop ≡ stopped_at s.on_fault n line fault = stop ∙ ap (λ (o : OnFault). stopped_at o n line fault) (kept ∙ stands.on_fault) in (
      with_stop (stopped_at s.on_fault n line fault) d.0,
      with-stop-stands run new d.0 (stopped_at s.on_fault n line fault) d.1 course echoes on_fault stopped,
      record {
        text = d.2.text;
        said = d.2.said;
        so = record {
          fault = fault;
          left = d.0;
          reads = subst (λ (x : LiveReading). Reads s line x d.2.text fault d.0) reads d.2.so;
          stops = refl;
          goes = flows ∙ (λ j. flow_after ((quit ∙ ap quits reads) j) (stopped j));
        };
      },
    )

pub answered-fault : (e : WriteError) (asked : LiveReading) (s : Live) (n : ℕ) (line : List ℕ) (run : LiveRun) (a b : Option (List ℕ)) (p q : List ℕ) → asked ≡ live_reading line
    → Does (Err e) run (Reads s line asked) a b p q → Answered StandsLive (Says s n line) (Err e) run a b p q
answered-fault e asked s n line run a b p q reads d = record {
  text = d.text;
  said = d.said;
  so = (
    d.so.0,
    flow_after (quits (live_reading line)) (stopped_at s.on_fault n line d.so.1),
    with_stop (stopped_at s.on_fault n line d.so.1) d.so.2,
    record { fault = d.so.1; left = d.so.2; reads = subst (λ (x : LiveReading). Reads s line x (d.text ++ d.so.0) d.so.1 d.so.2) reads d.so.3; stops = refl; goes = refl },
  );
}

-- nothing was asked, and nothing was said
pub does-skip : (s : Live) (run : LiveRun) (line : List ℕ) (a : Option (List ℕ)) (p : List ℕ) → StandsLive run s → Does (Ok None) run (Reads s line Skip) a a p p
does-skip s run line a p stands = (s, stands, record { text = []; said = said-nothing a p; so = (refl, refl, refl) })
