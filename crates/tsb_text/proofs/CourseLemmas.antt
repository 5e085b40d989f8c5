-- A bench, what is kept of its inputs and their events go on and back together.
use Rattle.std.proofs.Common.{◌≡◌, ℕ, ◌+◌, ◌-◌, ◌≤◌, List, [], ◌∷◌, ◌<◌, Bool, true, false, None, Some, Ok, Err, refl, sym, ap, subst, arith, ◌∙◌, OnOk, OnErr, IfErr, inr}
use Rattle.std.specs.declared.option.Option.{Option}
use Rattle.std.specs.declared.result.Result.{Result}
use Rattle.tsb_lines.specs.declared.writes.WriteError.{WriteError}
use Rattle.tsb_bench.specs.Cabinet.{most_cells}
use Rattle.tsb_objects.specs.tsb_plan.Plan.{Plan}
use Rattle.tsb_objects.specs.tsb_types.declared.event.Event.{Event}
use Rattle.tsb_objects.specs.tsb_types.declared.refusal.Refusal.{Refusal}
use Rattle.tsb_objects.specs.tsb_types.declared.refusal.Refusal.TheVariants.{Memory}
use Rattle.tsb_objects.specs.tsb_types.declared.row.Row.{Row}
use Rattle.tsb_bench.specs.tsb_history.History.{Change, record_size}
use Rattle.tsb_bench.specs.tsb_history.declared.kinds.Kind.{Kind}
use Rattle.tsb_bench.specs.tsb_machine.declared.commands.MachineCommand.TheVariants.{Apply, Undo, Back, Seek, When}
use Rattle.tsb_bench.specs.tsb_machine.declared.commands.Answer.{Answer}
use Rattle.tsb_bench.specs.tsb_machine.declared.commands.Answer.TheVariants as answers
use Rattle.tsb_bench.specs.tsb_machine.declared.commands.Answer.TheVariants.{Refused, Undone, Moved, Nothing, Changed}
use Rattle.tsb_bench.specs.tsb_machine.Play as play
use Rattle.tsb_bench.specs.tsb_machine.Play.{IsRefusal}
use Rattle.tsb_bench.proofs.tsb_machine.PlayLemmas as past
use Rattle.tsb_bench.specs.tsb_step.declared.inputs.Input.{Input}
use Rattle.tsb_bench.specs.tsb_step.declared.inputs.Input.TheVariants as inputs
use Rattle.tsb_bench.specs.tsb_step.Events.{events_of, usual_after}
use Rattle.tsb_bench.specs.tsb_step.State.{State, start}
use Rattle.tsb_bench.specs.tsb_step.Past.{Whole, controller, record_of, earlier}
use Rattle.tsb_bench.specs.tsb_step.Play.{Cmd, IsRight, back_to, remaining_after, Follows}
use Rattle.tsb_bench.specs.tsb_step.Runs.{replay}
use Rattle.tsb_bench.specs.tsb_step.Step.{kind_of, step, verdict}
use Rattle.tsb_bench.specs.tsb_step.Watches.{watched}
use Rattle.tsb_bench.specs.Held.{Held, state_of, whole}
use Rattle.tsb_bench.specs.tsb_step.declared.log_form.LogForm.{LogForm}
use Rattle.tsb_bench.specs.tsb_step.declared.log_form.Noted.{Noted}
use Rattle.tsb_text.specs.kept.Kept.{DropsOther, IsNoTick, Keeping, LacksRoom, Stock, gone_back as kept_back, kept_of, last_row, nothing_kept, row_kept, with_input}
use Rattle.tsb_text.specs.recording.Along.{Wants, noted_after, telling, with_input as with_told}
use Rattle.tsb_text.specs.recording.Recording.{noted_at}
use Rattle.tsb_text.specs.Wanting.{IsWanting, LacksBeside, tick_of}
use Rattle.tsb_text.specs.recording.Told.{DropsMark, Telling, gone_back as told_back, nothing_told}
use Rattle.tsb_text.specs.Rows.{row_in_force}
use Rattle.tsb_text.proofs.recording.AlongLemmas as told
use Rattle.tsb_text.proofs.recording.OfLogLemmas.{of-log-after, row-there}
use Rattle.tsb_text.proofs.kept.KeptLemmas.{gone-back, kept-row, other-dropped, tick-undone}
use Rattle.tsb_text.proofs.BackLemmas.{reached}
use Rattle.tsb_log_text.specs.declared.log.LogRow.{LogRow}
use Rattle.tsb_text.specs.declared.course.Mode.{Mode}
use Rattle.tsb_text.specs.declared.course.Mode.TheVariants.{Plain, Keeping as KeepsInputs, Telling as TellsEvents, Recording}
use Rattle.tsb_log_text.specs.Logs.{row_at}
use Rattle.tsb_text.specs.Answers.{Setup, next_tick}
use Rattle.tsb_text.specs.Obeyed.{Answered, AreOfLog, Forgets, ForgetsNewest, HasRow, IsKept, IsNext, IsTold, Keeps, OnCourse, Stands, Took, tells_in}
use Rattle.tsb_text.specs.Obeys.{events_text, if_told, refusal_in}

pub follows-state : (plan : Plan) (w : Whole) (is : List Input) → Follows plan w is → w.state ≡ replay plan is
follows-state plan w is f = past.follows-state controller (start plan) w is f

-- ## Inputs

-- the bench took an input, or refused it
abbrev pub BenchTook : Result (Unit {0}) Refusal → Plan → Held → List Input → Input → Type 0
BenchTook (Ok u) plan new is i = IsRight plan is (Apply i) answers.Took × Follows plan (whole new) (i ∷ is)
BenchTook (Err e) plan new is i = IsRight plan is (Apply i) (Refused e) × Follows plan (whole new) is

pub bench-took : (r : Result (Unit {0}) Refusal) (plan : Plan) (is : List Input) (old new : Held) (i : Input) → Follows plan (whole old) is
    → OnOk r (verdict (state_of old) i ≡ None) → OnOk r (state_of new ≡ step (state_of old) i) → OnOk r (new.records ≡ record_of i (state_of old) (state_of new) ∷ old.records)
    → OnOk r (earlier (whole new) 1 ≡ whole old) → IfErr r (IsRefusal (verdict (state_of old) i)) → OnErr r (new ≡ old) → BenchTook r plan new is i
bench-took (Ok u) plan is old new i f allowed steps told back refused same = past.answers-took controller (start plan) watched (whole old) (whole new) i allowed steps told back is f
bench-took (Err e) plan is old new i f allowed steps told back refused same = past.answers-refused controller (start plan) watched (whole old) (whole new) i e refused (ap whole same) is f

-- nothing is kept of it, and nothing told
no-news : (m : Mode) → m ≡ Plain → tells_in m ≡ true → ⊥
no-news m plain tells = let never : false ≡ true = sym (ap tells_in plain) ∙ tells in cc

still-quiet : (m : Mode) → m ≡ KeepsInputs → tells_in m ≡ true → ⊥
still-quiet m keeps tells = let never : false ≡ true = sym (ap tells_in keeps) ∙ tells in cc

nothing-kept : (m : Mode) (kept : Keeping) (plan : Plan) (is : List Input) → m ≡ Plain → IsKept m kept plan is
nothing-kept m kept plan is plain = subst (λ (x : Mode). IsKept x kept plan is) (sym plain) tt

nothing-told : (m : Mode) (told : Telling) (given : Setup) (is : List Input) → m ≡ Plain → IsTold m told given is
nothing-told m told given is plain = subst (λ (x : Mode). IsTold x told given is) (sym plain) tt

pub plain-took : (r : Result (Unit {0}) Refusal) (given : Setup) (log : List LogRow) (is : List Input) (old new : OnCourse) (i : Input) → Stands given log old is → new.mode ≡ Plain → new.rows ≡ old.rows → new.acts ≡ old.acts → new.is_wide ≡ old.is_wide
    → BenchTook r given.plan new.bench is i → Took r given log new is i
plain-took (Ok u) given log is old new i s plain rows acts wide took =
    (took.0, record { same = s.same; rows = rows ∙ s.rows; acts = acts ∙ s.acts; wide = wide ∙ s.wide; follows = took.1; keeps = nothing-kept new.mode new.kept.kept given.plan (i ∷ is) plain; tells = nothing-told new.mode new.told.told given (i ∷ is) plain }, λ tells. absurd (no-news new.mode plain tells))
plain-took (Err e) given log is old new i s plain rows acts wide took = (took.0, record { same = s.same; rows = rows ∙ s.rows; acts = acts ∙ s.acts; wide = wide ∙ s.wide; follows = took.1; keeps = nothing-kept new.mode new.kept.kept given.plan is plain; tells = nothing-told new.mode new.told.told given is plain })

pub keeps-inputs : (m : Mode) → m ≡ KeepsInputs → Keeps m
keeps-inputs m is = subst Keeps (sym is) tt

pub keeps-telling : (m : Mode) → m ≡ TellsEvents → Keeps m
keeps-telling m is = subst Keeps (sym is) tt

pub is-kept : (m : Mode) (kept : Keeping) (plan : Plan) (is : List Input) → Keeps m → IsKept m kept plan is → kept ≡ kept_of plan is
is-kept Plain kept plan is none k = absurd none
is-kept KeepsInputs kept plan is none k = k
is-kept TellsEvents kept plan is none k = k
is-kept (Recording form) kept plan is none k = absurd none

as-kept : (m : Mode) (kept : Keeping) (plan : Plan) (is : List Input) → kept ≡ kept_of plan is → IsKept m kept plan is
as-kept Plain kept plan is k = tt
as-kept KeepsInputs kept plan is k = k
as-kept TellsEvents kept plan is k = k
as-kept (Recording form) kept plan is k = tt

-- where inputs are kept no events are recorded
pub not-recorded : (m : Mode) (told : Telling) (given : Setup) (is : List Input) → Keeps m → IsTold m told given is
not-recorded Plain told given is k = absurd k
not-recorded KeepsInputs told given is k = tt
not-recorded TellsEvents told given is k = tt
not-recorded (Recording form) told given is k = absurd k

-- what a tick number is, in a state
tick-there : (plan : Plan) (is : List Input) (bench : Held) → Follows plan (whole bench) is → bench.tick ≡ (replay plan is).now
tick-there plan is bench f = ap (λ (s : State). s.now) (follows-state plan (whole bench) is f)

-- an input was taken and kept; it has told its events, where they are told
pub kept-took : (given : Setup) (log : List LogRow) (is : List Input) (old new : OnCourse) (tick : ℕ) (i : Input) → Stands given log old is → Keeps old.mode → new.mode ≡ old.mode → new.rows ≡ old.rows → new.acts ≡ old.acts → new.is_wide ≡ old.is_wide → tick ≡ old.bench.tick
    → BenchTook (Ok tt) given.plan new.bench is i → new.kept.kept ≡ with_input i tick old.kept.kept
    → (tells_in new.mode ≡ true → new.news ≡ events_of (usual_after (last_row is)) (replay given.plan is) i) → Took (Ok tt) given log new is i
kept-took given log is old new tick i s keeps mode rows acts wide at took kept told =
    let was : old.kept.kept ≡ kept_of given.plan is = is-kept old.mode old.kept.kept given.plan is keeps s.keeps in
    let there : tick ≡ (replay given.plan is).now = at ∙ tick-there given.plan is old.bench s.follows in
    (took.0, record { same = s.same; rows = rows ∙ s.rows; follows = took.1; keeps = as-kept new.mode new.kept.kept given.plan (i ∷ is) (kept ∙ (λ j. with_input i (there j) (was j))); acts = acts ∙ s.acts; wide = wide ∙ s.wide; tells = not-recorded new.mode new.told.told given (i ∷ is) (subst Keeps (sym mode) keeps) }, told)

-- it was refused, and nothing has changed
pub kept-refused : (e : Refusal) (given : Setup) (log : List LogRow) (is : List Input) (old new : OnCourse) (i : Input) → Stands given log old is → new.mode ≡ old.mode → new.rows ≡ old.rows → new.acts ≡ old.acts → new.is_wide ≡ old.is_wide → new.kept.kept ≡ old.kept.kept → new.told.told ≡ old.told.told
    → BenchTook (Err e) given.plan new.bench is i → Took (Err e) given log new is i
kept-refused e given log is old new i s mode rows acts wide kept told took = (
  took.0,
  record {
    same = s.same;
    rows = rows ∙ s.rows;
    acts = acts ∙ s.acts;
    wide = wide ∙ s.wide;
    follows = took.1;
    keeps = subst (λ (m : Mode). IsKept m new.kept.kept given.plan is) (sym mode) (subst (λ (k : Keeping). IsKept old.mode k given.plan is) (sym kept) s.keeps);
    tells = subst (λ (m : Mode). IsTold m new.told.told given is) (sym mode) (subst (λ (x : Telling). IsTold old.mode x given is) (sym told) s.tells);
  },
)

-- the events that an input told, told from the row that is kept
pub kept-news : (given : Setup) (log : List LogRow) (is : List Input) (old : OnCourse) (i : Input) (last : Row) (news : List Event) → Stands given log old is → Keeps old.mode → last ≡ row_kept old.kept.kept
    → news ≡ events_of (usual_after last) (state_of old.bench) i → news ≡ events_of (usual_after (last_row is)) (replay given.plan is) i
kept-news given log is old i last news s keeps row tells =
    let was : old.kept.kept ≡ kept_of given.plan is = is-kept old.mode old.kept.kept given.plan is keeps s.keeps in
    let there : last ≡ last_row is = row ∙ ap row_kept was ∙ kept-row given.plan is in
    let state : state_of old.bench ≡ replay given.plan is = follows-state given.plan (whole old.bench) is s.follows in
    tells ∙ (λ j. events_of (usual_after (there j)) (state j) i)

-- an input that was undone, since there was no memory for it, was refused
undone-took : (plan : Plan) (is : List Input) (old mid new : Held) (i : Input) → Follows plan (whole old) is → verdict (state_of old) i ≡ None → mid.records ≡ record_of i (state_of old) (state_of mid) ∷ old.records
    → earlier (whole mid) 1 ≡ whole old → ((newest : Change) (others : List Change) → mid.records ≡ newest ∷ others → whole new ≡ earlier (whole mid) 1) → BenchTook (Err Memory) plan new is i
undone-took plan is old mid new i f allowed records back undone =
    let state : state_of old ≡ replay plan is = follows-state plan (whole old) is f in
    let same : whole new ≡ whole old = undone (record_of i (state_of old) (state_of mid)) old.records records ∙ back in
    (sym (ap (λ (x : State). verdict x i) state) ∙ allowed, subst (λ (w : Whole). Follows plan w is) (sym same) f)

-- what became of an input that the bench took, once it was to be kept
pub kept-so : (r : Result (Unit {0}) Refusal) (given : Setup) (log : List LogRow) (is : List Input) (old new : OnCourse) (mid : Held) (tick : ℕ) (i : Input) → Stands given log old is → Keeps old.mode → new.mode ≡ old.mode → new.rows ≡ old.rows → new.acts ≡ old.acts → new.is_wide ≡ old.is_wide → new.told.told ≡ old.told.told
    → tick ≡ old.bench.tick → verdict (state_of old.bench) i ≡ None → state_of mid ≡ step (state_of old.bench) i → mid.records ≡ record_of i (state_of old.bench) (state_of mid) ∷ old.bench.records
    → earlier (whole mid) 1 ≡ whole old.bench → (tells_in new.mode ≡ true → new.news ≡ events_of (usual_after (last_row is)) (replay given.plan is) i)
    → OnOk r (new.bench ≡ mid) → OnOk r (new.kept.kept ≡ with_input i tick old.kept.kept)
    → OnErr r ((newest : Change) (others : List Change) → mid.records ≡ newest ∷ others → whole new.bench ≡ earlier (whole mid) 1) → OnErr r (new.kept ≡ old.kept) → IfErr r (λ e. e ≡ Memory)
    → Took r given log new is i
kept-so (Ok u) given log is old new mid tick i s keeps mode rows acts wide same at allowed steps records back told bench kept undone still memory =
    kept-took given log is old new tick i s keeps mode rows acts wide at
    (subst (λ (b : Held). BenchTook (Ok tt) given.plan b is i) (sym bench) (bench-took (Ok tt) given.plan is old.bench mid i s.follows allowed steps records back tt tt)) kept told
kept-so (Err e) given log is old new mid tick i s keeps mode rows acts wide same at allowed steps records back told bench kept undone still memory =
    subst (λ (x : Refusal). Took (Err x) given log new is i) (sym memory)
    (kept-refused Memory given log is old new i s mode rows acts wide (ap (λ (k : Stock). k.kept) still) same (undone-took given.plan is old.bench mid new.bench i s.follows allowed records back undone))

-- ## Events that are recorded

pub is-told : (m : Mode) (form : LogForm) (x : Telling) (given : Setup) (is : List Input) → m ≡ Recording form → IsTold m x given is → (x ≡ telling form given.plan is) × AreOfLog given is
is-told m form x given is same t = subst (λ (y : Mode). IsTold y x given is) same t

none-kept : (m : Mode) (form : LogForm) (kept : Keeping) (plan : Plan) (is : List Input) → m ≡ Recording form → IsKept m kept plan is
none-kept m form kept plan is same = subst (λ (y : Mode). IsKept y kept plan is) (sym same) tt

none-said : (m : Mode) (form : LogForm) → m ≡ Recording form → tells_in m ≡ true → ⊥
none-said m form same tells = let never : false ≡ true = sym (ap tells_in same) ∙ tells in cc

-- an input was taken, and its events recorded
pub recorded-took : (form : LogForm) (given : Setup) (log : List LogRow) (is : List Input) (old new : OnCourse) (row : Row) (tick : ℕ) (news : List Event) (i : Input) → Stands given log old is → IsNext old.mode given is i
    → old.mode ≡ Recording form → new.mode ≡ old.mode → new.rows ≡ old.rows → new.acts ≡ old.acts → new.is_wide ≡ old.is_wide → tick ≡ old.bench.tick → row ≡ row_in_force old.rows tick → BenchTook (Ok tt) given.plan new.bench is i
    → news ≡ events_of (record { form = form; row = row }) (state_of old.bench) i → new.told.told ≡ with_told i tick news old.told.told → Took (Ok tt) given log new is i
recorded-took form given log is old new row tick news i s next recording mode rows acts wide at there took tells records =
    let was : (old.told.told ≡ telling form given.plan is) × AreOfLog given is = is-told old.mode form old.told.told given is recording s.tells in
    let state : state_of old.bench ≡ replay given.plan is = follows-state given.plan (whole old.bench) is s.follows in
    let now : tick ≡ (replay given.plan is).now = at ∙ tick-there given.plan is old.bench s.follows in
    let log_rows : old.rows ≡ given.log = s.rows ∙ sym s.same in
    let last : row ≡ last_row is = there ∙ (λ j. row_in_force (log_rows j) (now j)) ∙ sym (row-there given is was.1) in
    let noted : (let n : Noted = record { form = form; row = row } in n) ≡ noted_after form is = λ j. record { form = form; row = last j } in
    let told_is : news ≡ events_of (noted_after form is) (replay given.plan is) i = tells ∙ (λ j. events_of (noted j) (state j) i) in
    let all : new.told.told ≡ telling form given.plan (i ∷ is) = records ∙ (λ j. with_told i (now j) (told_is j) (was.0 j)) in
    let there_next : HasRow given is i = subst (λ (m : Mode). IsNext m given is i) recording next in (
      took.0,
      record {
        same = s.same;
        rows = rows ∙ s.rows;
        acts = acts ∙ s.acts;
        wide = wide ∙ s.wide;
        follows = took.1;
        keeps = none-kept new.mode form new.kept.kept given.plan (i ∷ is) (mode ∙ recording);
        tells = subst (λ (m : Mode). IsTold m new.told.told given (i ∷ is)) (sym (mode ∙ recording)) (all, (there_next, was.1));
      },
      λ says. absurd (none-said new.mode form (mode ∙ recording) says),
    )

-- what became of an input that the bench took, once its events were to be recorded
pub recorded-so : (r : Result (Unit {0}) Refusal) (form : LogForm) (given : Setup) (log : List LogRow) (is : List Input) (old new : OnCourse) (mid : Held) (row : Row) (tick : ℕ) (news : List Event) (i : Input) → Stands given log old is → IsNext old.mode given is i
    → old.mode ≡ Recording form → new.mode ≡ old.mode → new.rows ≡ old.rows → new.acts ≡ old.acts → new.is_wide ≡ old.is_wide → new.kept ≡ old.kept → tick ≡ old.bench.tick → row ≡ row_in_force old.rows tick → verdict (state_of old.bench) i ≡ None → state_of mid ≡ step (state_of old.bench) i
    → mid.records ≡ record_of i (state_of old.bench) (state_of mid) ∷ old.bench.records → earlier (whole mid) 1 ≡ whole old.bench → news ≡ events_of (record { form = form; row = row }) (state_of old.bench) i
    → OnOk r (new.bench ≡ mid) → OnOk r (new.told.told ≡ with_told i tick news old.told.told)
    → OnErr r ((newest : Change) (others : List Change) → mid.records ≡ newest ∷ others → whole new.bench ≡ earlier (whole mid) 1) → OnErr r (new.told.told ≡ old.told.told) → IfErr r (λ e. e ≡ Memory)
    → Took r given log new is i
recorded-so (Ok u) form given log is old new mid row tick news i s next recording mode rows acts wide kept at there allowed steps records back tells bench told undone still memory =
    recorded-took form given log is old new row tick news i s next recording mode rows acts wide at there
    (subst (λ (b : Held). BenchTook (Ok tt) given.plan b is i) (sym bench) (bench-took (Ok tt) given.plan is old.bench mid i s.follows allowed steps records back tt tt)) tells told
recorded-so (Err e) form given log is old new mid row tick news i s next recording mode rows acts wide kept at there allowed steps records back tells bench told undone still memory =
    subst (λ (x : Refusal). Took (Err x) given log new is i) (sym memory)
    (kept-refused Memory given log is old new i s mode rows acts wide (ap (λ (k : Stock). k.kept) kept) still (undone-took given.plan is old.bench mid new.bench i s.follows allowed records back undone))

-- ## Memory

-- an input that is undone leaves the bench as it was
pub still-there : (r : Result (Unit {0}) Refusal) (old mid new : Held) (change : Change) → mid.records ≡ change ∷ old.records → earlier (whole mid) 1 ≡ whole old
    → OnErr r ((newest : Change) (others : List Change) → mid.records ≡ newest ∷ others → whole new ≡ earlier (whole mid) 1) → OnErr r (whole new ≡ whole old)
still-there (Ok u) old mid new change records back undone = tt
still-there (Err e) old mid new change records back undone = undone change old.records records ∙ back

pub same-whole : (r : Result (Unit {0}) Refusal) (old new : Held) → OnErr r (new ≡ old) → OnErr r (whole new ≡ whole old)
same-whole (Ok u) old new same = tt
same-whole (Err e) old new same = ap whole same

-- the bench had no room, and has none
pub bench-wants : (r : Result (Unit {0}) Refusal) (old new : Held) (i : Input) → OnErr r (new ≡ old) → (r ≡ Err Memory → old.room < record_size (most_cells (kind_of i)))
    → r ≡ Err Memory → new.room < record_size (most_cells (kind_of i))
bench-wants (Ok u) old new i same wants is = absurd (cc)
bench-wants (Err e) old new i same wants is = subst (λ (b : Held). b.room < record_size (most_cells (kind_of i))) (sym same) (wants is)

-- there is no room to keep an input
pub keep-wants : (r : Result (Unit {0}) Refusal) (course : OnCourse) (i : Input) → Keeps course.mode → OnErr r (LacksRoom i course.kept) → r ≡ Err Memory → IsWanting course i
keep-wants (Ok u) course i keeps lacks is = absurd (cc)
keep-wants (Err e) course i keeps lacks is = inr (beside course.mode keeps lacks)
  where
    beside : (m : Mode) → Keeps m → LacksRoom i course.kept → LacksBeside m course i
    beside Plain k l = absurd k
    beside KeepsInputs k l = l
    beside TellsEvents k l = l
    beside (Recording form) k l = absurd k

-- or for its events
pub wants-so : (r : Result (Unit {0}) Refusal) (form : LogForm) (old new : OnCourse) (row : Row) (tick : ℕ) (news : List Event) (i : Input) → new.mode ≡ Recording form → new.rows ≡ old.rows → OnErr r (whole new.bench ≡ whole old.bench)
    → tick ≡ old.bench.tick → row ≡ row_in_force old.rows tick → news ≡ events_of (record { form = form; row = row }) (state_of old.bench) i → OnErr r (Wants i news new.told) → r ≡ Err Memory → IsWanting new i
wants-so (Ok u) form old new row tick news i mode rows same at there tells wants is = absurd (cc)
wants-so (Err e) form old new row tick news i mode rows same at there tells wants is =
    inr (subst (λ (m : Mode). LacksBeside m new i) (sym mode) (subst (λ (es : List Event). Wants i es new.told) (tells ∙ (λ j. events_of (noted j) (state j) i)) wants))
  where
    state : state_of old.bench ≡ state_of new.bench
    state = sym (ap (λ (w : Whole). w.state) same)

    now : tick ≡ new.bench.tick
    now = at ∙ ap (λ (s : State). s.now) state

    last : row ≡ row_in_force new.rows new.bench.tick
    last = there ∙ (λ j. row_in_force (sym rows j) (now j))

    noted : (let n : Noted = record { form = form; row = row } in n) ≡ noted_at form new.rows new.bench.tick
    noted = λ j. record { form = form; row = last j }

-- the tick that was refused is still the next one
pub tick-wants : (r : Result (Unit {0}) Refusal) (old new : OnCourse) (row : Row) → new.rows ≡ old.rows → OnErr r (whole new.bench ≡ whole old.bench) → row ≡ row_at old.rows (old.bench.tick + 1)
    → (r ≡ Err Memory → IsWanting new (inputs.Tick row)) → r ≡ Err Memory → IsWanting new (tick_of new)
tick-wants (Ok u) old new row rows same is wants memory = absurd (cc)
tick-wants (Err e) old new row rows same is wants memory =
    let now : old.bench.tick ≡ new.bench.tick = sym (ap (λ (w : Whole). w.state.now) same) in
    subst (λ (i : Input). IsWanting new i) (ap inputs.Tick (is ∙ (λ j. row_at (sym rows j) (now j + 1)))) (wants memory)

-- what is no input is not refused
pub not-refused : (old new : Whole) (cmd : Cmd) (a : Answer) → ((i : Input) → cmd ≡ Apply i → ⊥) → play.Does controller watched old cmd a new → a ≡ Refused Memory → ⊥
not-refused old new (Apply i) a none does is = none i refl
not-refused old new cmd (Refused e) none does is = does
not-refused old new cmd a none does is = cc

-- why an input was refused that was answered so
pub refusal-memory : (a : Answer) → refusal_in a ≡ Some Memory → a ≡ Refused Memory
refusal-memory (Refused e) is = ap Refused (grind (arith, is))
refusal-memory a is = absurd (cc)

-- a write fault is no refusal
pub no-refusal : (r : Result (Option Refusal) WriteError) (e : WriteError) → r ≡ Err e → r ≡ Ok (Some Memory) → ⊥
no-refusal r e broke is = let clash : Err e ≡ Ok (Some Memory) = sym broke ∙ is in absurd (cc)

-- what a refusal that was said is
pub told-memory : (r : Result (Option Refusal) WriteError) (e : Refusal) → OnOk r (r ≡ Ok (Some e)) → r ≡ Ok (Some Memory) → e ≡ Memory
told-memory (Ok o) e told is = grind (arith, told, is)
told-memory (Err w) e told is = absurd (cc)

-- ## Ticks

-- the tick that the bench takes is the next one, with the row of the log
pub tick-next : (given : Setup) (log : List LogRow) (now : List Input) (course : OnCourse) (row : Row) → Stands given log course now → row ≡ row_at course.rows (course.bench.tick + 1) → inputs.Tick row ≡ next_tick given now
tick-next given log now course row stands is =
    let there : course.bench.tick ≡ (replay given.plan now).now = tick-there given.plan now course.bench stands.follows in
    let rows : course.rows ≡ given.log = stands.rows ∙ sym stands.same in
    ap inputs.Tick (is ∙ (λ j. row_at (rows j) (there j + 1)))

-- ## Answers

-- what an input tells, where it is told
pub told-alike : (tells : Bool) (es fs : List Event) → (tells ≡ true → es ≡ fs) → if_told tells es ≡ if_told tells fs
told-alike true es fs same = ap events_text (same refl)
told-alike false es fs same = refl

-- the answer to an input
pub answered-took : (given : Setup) (log : List LogRow) (course : OnCourse) (is : List Input) (i : Input) → Took (Ok tt) given log course is i → Answered given log course is (Apply i) answers.Took
answered-took given log course is i t = record {
  right = t.0;
  stands = t.1;
  tells = λ taken. told-alike (tells_in course.mode) course.news (events_of (usual_after (last_row is)) (replay given.plan is) i) t.2;
}

pub answered-refused : (given : Setup) (log : List LogRow) (course : OnCourse) (is : List Input) (i : Input) (e : Refusal) → Took (Err e) given log course is i → Answered given log course is (Apply i) (Refused e)
answered-refused given log course is i e t = record { right = t.0; stands = t.1; tells = λ taken. absurd (cc) }

-- what is kept of inputs, which goes back with them
module _ {X : Type 0} (plan : Plan) (of : List Input → X) (back : ℕ → X → X) (Drops : X → X → Type 0)
    (tick-back : (row : Row) (is : List Input) → back (replay plan is).now (of (inputs.Tick row ∷ is)) ≡ of is)
    (other-back : (i : Input) (is : List Input) (new : X) → IsNoTick i → Drops (of (i ∷ is)) new → new ≡ of is)
    (back-there : (t : ℕ) (is : List Input) → t ≤ (replay plan is).now → of (back_to plan t is) ≡ back t (of is)) where
  -- the newest input is kept none more
  forgot-newest : (i : Input) (is : List Input) (old new : X) → old ≡ of (i ∷ is) → ForgetsNewest back Drops (kind_of i) (replay plan is).now old new → new ≡ of is
  forgot-newest (inputs.Tick row) is old new was forgets = forgets ∙ ap (back (replay plan is).now) was ∙ tick-back row is
  forgot-newest i is old new was forgets = other-back i is new tt (subst (λ (x : X). Drops x new) was forgets)

  back-now : (is : List Input) (t tick : ℕ) (old new : X) → t ≤ (replay plan is).now → tick ≡ (replay plan (back_to plan t is)).now → old ≡ of is → new ≡ back tick old → new ≡ of (back_to plan t is)
  back-now is t tick old new le at was gone =
      let there : tick ≡ t = at ∙ reached plan t is le in
      gone ∙ (λ j. back (there j) (was j)) ∙ sym (back-there t is le)

  -- what is kept is kept of the inputs that remain
  forgot : (is : List Input) (cmd : Cmd) (a : Answer) (tick : ℕ) (old new : X) → ((i : Input) → cmd ≡ Apply i → ⊥) → IsRight plan is cmd a → tick ≡ (replay plan (remaining_after plan is cmd a)).now
      → old ≡ of is → Forgets back Drops a tick old new → new ≡ of (remaining_after plan is cmd a)
  forgot is (Apply i) a tick old new none right at was forgets = absurd (none i refl)
  forgot [] Undo (Undone k) tick old new none right at was forgets = absurd right
  forgot (i ∷ is) Undo (Undone k) tick old new none right at was forgets =
      forgot-newest i is old new was (subst (λ (x : Kind). ForgetsNewest back Drops x (replay plan is).now old new) right (subst (λ (n : ℕ). ForgetsNewest back Drops k n old new) at forgets))
  forgot is Undo Nothing tick old new none right at was forgets = forgets ∙ was
  forgot is (Back n) Moved tick old new none right at was forgets = back-now is ((replay plan is).now - n) tick old new (omega arith) at was forgets
  forgot is (Back n) Nothing tick old new none right at was forgets = forgets ∙ was
  forgot is (Seek t) Moved tick old new none right at was forgets = back-now is t tick old new right at was forgets
  forgot is (Seek t) Nothing tick old new none right at was forgets = forgets ∙ was
  forgot is (When w) (Changed t) tick old new none right at was forgets = forgets ∙ was
  forgot is cmd a tick old new none right at was forgets = absurd right

module _ (given : Setup) (is : List Input) (cmd : Cmd) (a : Answer) (tick : ℕ) (none : (i : Input) → cmd ≡ Apply i → ⊥) (right : IsRight given.plan is cmd a)
    (at : tick ≡ (replay given.plan (remaining_after given.plan is cmd a)).now) where
  still-kept : (m : Mode) (old new : Keeping) → IsKept m old given.plan is → Forgets kept_back DropsOther a tick old new → IsKept m new given.plan (remaining_after given.plan is cmd a)
  still-kept Plain old new was forgets = tt
  still-kept (Recording form) old new was forgets = tt
  still-kept KeepsInputs old new was forgets =
      forgot given.plan (kept_of given.plan) kept_back DropsOther (tick-undone given.plan) (other-dropped given.plan) (gone-back given.plan) is cmd a tick old new none right at was forgets
  still-kept TellsEvents old new was forgets =
      forgot given.plan (kept_of given.plan) kept_back DropsOther (tick-undone given.plan) (other-dropped given.plan) (gone-back given.plan) is cmd a tick old new none right at was forgets

  still-told : (m : Mode) (old new : Telling) → IsTold m old given is → Forgets told_back DropsMark a tick old new → IsTold m new given (remaining_after given.plan is cmd a)
  still-told Plain old new was forgets = tt
  still-told KeepsInputs old new was forgets = tt
  still-told TellsEvents old new was forgets = tt
  still-told (Recording form) old new was forgets = (
    forgot given.plan (telling form given.plan) told_back DropsMark (told.tick-undone form given.plan) (told.mark-dropped form given.plan) (told.gone-back form given.plan) is cmd a tick old new none right at was.0 forgets,
    of-log-after given is cmd a none was.1,
  )

not-taken : (plan : Plan) (is : List Input) (cmd : Cmd) (a : Answer) → ((i : Input) → cmd ≡ Apply i → ⊥) → IsRight plan is cmd a → a ≡ answers.Took → ⊥
not-taken plan is (Apply i) a none right taken = none i refl
not-taken plan is cmd answers.Took none right taken = right
not-taken plan is cmd a none right taken = cc

-- the answer to a command that is none input
pub answered-other : (given : Setup) (log : List LogRow) (is : List Input) (old new : OnCourse) (cmd : Cmd) (a : Answer) → Stands given log old is → ((i : Input) → cmd ≡ Apply i → ⊥) → new.mode ≡ old.mode → new.rows ≡ old.rows → new.acts ≡ old.acts → new.is_wide ≡ old.is_wide
    → ((plan : Plan) → play.Answers controller (start plan) watched (whole old.bench) cmd a (whole new.bench)) → Forgets kept_back DropsOther a new.bench.tick old.kept.kept new.kept.kept → Forgets told_back DropsMark a new.bench.tick old.told.told new.told.told → Answered given log new is cmd a
answered-other given log is old new cmd a s none mode rows acts wide answers forgets untold =
    let both : IsRight given.plan is cmd a × Follows given.plan (whole new.bench) (remaining_after given.plan is cmd a) = answers given.plan is s.follows in
    let at : new.bench.tick ≡ (replay given.plan (remaining_after given.plan is cmd a)).now = tick-there given.plan (remaining_after given.plan is cmd a) new.bench both.1 in
    record {
      right = both.0;
      stands = record {
        same = s.same;
        rows = rows ∙ s.rows;
        acts = acts ∙ s.acts;
        wide = wide ∙ s.wide;
        follows = both.1;
        keeps = subst (λ (m : Mode). IsKept m new.kept.kept given.plan (remaining_after given.plan is cmd a)) (sym mode)
            (still-kept given is cmd a new.bench.tick none both.0 at old.mode old.kept.kept new.kept.kept s.keeps forgets);
        tells = subst (λ (m : Mode). IsTold m new.told.told given (remaining_after given.plan is cmd a)) (sym mode)
            (still-told given is cmd a new.bench.tick none both.0 at old.mode old.told.told new.told.told s.tells untold);
      };
      tells = λ taken. absurd (not-taken given.plan is cmd a none both.0 taken);
    }

-- so where the bench was asked first, and then less was kept
pub answered-there : (given : Setup) (log : List LogRow) (is : List Input) (old new : OnCourse) (mid : Held) (cmd : Cmd) (a : Answer) → Stands given log old is → ((i : Input) → cmd ≡ Apply i → ⊥) → new.mode ≡ old.mode → new.rows ≡ old.rows → new.acts ≡ old.acts → new.is_wide ≡ old.is_wide → new.bench ≡ mid
    → ((plan : Plan) → play.Answers controller (start plan) watched (whole old.bench) cmd a (whole mid)) → Forgets kept_back DropsOther a mid.tick old.kept.kept new.kept.kept → Forgets told_back DropsMark a mid.tick old.told.told new.told.told → Answered given log new is cmd a
answered-there given log is old new mid cmd a s none mode rows acts wide bench answers forgets untold =
    answered-other given log is old new cmd a s none mode rows acts wide
    (λ plan. subst (λ (b : Held). play.Answers controller (start plan) watched (whole old.bench) cmd a (whole b)) (sym bench) (answers plan))
    (subst (λ (b : Held). Forgets kept_back DropsOther a b.tick old.kept.kept new.kept.kept) (sym bench) forgets)
    (subst (λ (b : Held). Forgets told_back DropsMark a b.tick old.told.told new.told.told) (sym bench) untold)

-- ## At power-up

pub course-begins : (given : Setup) (log : List LogRow) (course : OnCourse) → given.log ≡ log → course.rows ≡ log → Follows given.plan (whole course.bench) [] → course.kept.kept ≡ nothing_kept → course.told.told ≡ nothing_told → course.acts ≡ given.acts → course.is_wide ≡ given.is_wide
    → Stands given log course []
course-begins given log course same rows follows kept told acts wide =
    record { same = same; rows = rows; follows = follows; keeps = as-kept course.mode course.kept.kept given.plan [] kept; tells = told-none course.mode course.told.told given told; acts = acts; wide = wide }
  where
    told-none : (m : Mode) (x : Telling) (given : Setup) → x ≡ nothing_told → IsTold m x given []
    told-none Plain x given none = tt
    told-none KeepsInputs x given none = tt
    told-none TellsEvents x given none = tt
    told-none (Recording form) x given none = (none, tt)

pub quiet-news : {A : Type 0} (m : Mode) → m ≡ KeepsInputs → tells_in m ≡ true → A
quiet-news m keeps tells = absurd (still-quiet m keeps tells)
