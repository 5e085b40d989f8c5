-- What follows an input: nothing, where the same action stays in force.
use Rattle.std.proofs.Common.{◌≡◌, ℕ, ◌+◌, ◌/◌, ◌^◌, ◌<◌, Bool, length, true, false, if◌then◌else◌, List, [], ◌∷◌, Ok, Err, OnOk, OnErr, Some, None, is_some, option_map, refl, sym, ap, subst, arith, inl, inr, ◌∙◌}
use Rattle.std.specs.declared.option.Option.{Option}
use Rattle.std.specs.declared.result.Result.{Result}
use Rattle.std.proofs.lemmas.Bool.{eq-eqb, ne_eqb}
use Rattle.tsb_objects.specs.tsb_types.declared.row.Row.{Row}
use Rattle.tsb_objects.specs.tsb_types.declared.lamp.Lamp.{Lamp}
use Rattle.tsb_objects.specs.tsb_types.declared.refusal.Refusal.{Refusal}
use Rattle.tsb_objects.specs.tsb_plan.Plan.{Plan}
use Rattle.tsb_objects.specs.tsb_plan.Schedule.{has_schedule, omitted_by}
use Rattle.tsb_bench.specs.Held.{Held, state_of, whole}
use Rattle.tsb_bench.specs.Schedule.{StaysFrom, StaysInMinute}
use Rattle.tsb_bench.specs.tsb_machine.declared.commands.Answer.{Answer}
use Rattle.tsb_bench.specs.tsb_machine.declared.commands.MachineCommand.TheVariants.{Apply}
use Rattle.tsb_bench.specs.tsb_step.Following.{action, action_from, followers as all_followers, following, omits, one_or_none, selects, with_omits}
use Rattle.tsb_bench.specs.tsb_step.Play.{Cmd}
use Rattle.tsb_bench.specs.tsb_step.Runs.{replay}
use Rattle.tsb_bench.specs.tsb_step.Signs.{watched}
use Rattle.tsb_bench.specs.tsb_step.State.{State, restarted}
use Rattle.tsb_bench.specs.tsb_step.Step.{step}
use Rattle.tsb_bench.specs.tsb_step.declared.inputs.Input.{Input}
use Rattle.tsb_bench.specs.tsb_step.declared.inputs.Input.TheVariants as inputs
use Rattle.tsb_step.proofs.ClearLemmas.{one_later, plan_stays}
use Rattle.tsb_step.proofs.ClockLemmas.{start_stays}
use Rattle.tsb_objects.proofs.tsb_plan.ActingLemmas.{minute-in-force}
use Rattle.tsb_objects.specs.tsb_types.Sets.{list_of, names}
use Rattle.tsb_objects.specs.tsb_types.declared.limits.TheConstants.{OVERLAPS}
use Rattle.tsb_objects.proofs.tsb_types.SetLemmas.{list_of-names, same-list_of}
use Rattle.tsb_log_text.specs.declared.log.LogRow.{LogRow}
use Rattle.tsb_text.specs.declared.course.Mode.{Mode}
use Rattle.tsb_text.specs.declared.course.Mode.TheVariants.{Plain, Keeping as KeepsInputs, Telling as TellsEvents, Recording}
use Rattle.tsb_text.specs.Answers.{Leads, Setup, followers, followers_of}
use Rattle.tsb_text.specs.Obeyed.{Followed, FollowedAll, FollowsNone, HasRow, IsFollower, IsNext, NextAfter, OnCourse, Stands, Took, next_in}
use Rattle.tsb_text.specs.Wanting.{IsWanting, LacksBeside, WantsAfter}
use Rattle.tsb_text.proofs.CourseLemmas.{follows-state}

-- nothing is selected where the action is the same
none-selected : (plan : Plan) (before after : Option ℕ) → after ≡ before → selects plan before after ≡ None
none-selected plan before None same = refl
none-selected plan before (Some a) same =
    subst (λ (b : Option ℕ). selects plan b (Some a) ≡ None) same (rw (eq-eqb a a refl) refl)

-- so where plan, clock and tick number stay
pub none-alike : (s t : State) → t.plan ≡ s.plan → t.start_moment ≡ s.start_moment → t.now ≡ s.now → following s t ≡ None
none-alike s t plan start now = none-selected t.plan (action s) (action t) (λ j. action_from (plan j) (start j) (now j))

-- ## Ticks

within-minute : (plan : Plan) (start : Option ℕ) (now : ℕ) → StaysFrom start now → action_from plan start (now + 1) ≡ action_from plan start now
within-minute plan None now stays = refl
within-minute plan (Some start) now stays =
    let next : (start + (now + 1)) / 600 ≡ (start + now) / 600 = ap (λ (m : ℕ). m / 600) (let e : start + (now + 1) ≡ start + now + 1 = omega arith in e) ∙ sym stays in
    ap (λ (a : ℕ). if has_schedule plan then Some a else None) (minute-in-force plan (start + (now + 1)) (start + now) next)

-- no tick within a minute brings another action into force
none-within-minute : (s : State) (row : Row) → StaysInMinute s → following s (step s (inputs.Tick row)) ≡ None
none-within-minute s row stays =
    let later : action (step s (inputs.Tick row)) ≡ action_from s.plan s.start_moment (s.now + 1) = λ j. action_from (plan_stays s row j) (start_stays s row j) (one_later s row j) in
    none-selected (step s (inputs.Tick row)).plan (action s) (action (step s (inputs.Tick row))) (later ∙ within-minute s.plan s.start_moment s.now stays)

pub none-by-tick : (s : State) (i : Input) (row : Row) → i ≡ inputs.Tick row → StaysInMinute s → following s (step s i) ≡ None
none-by-tick s i row is stays = subst (λ (x : Input). following s (step s x) ≡ None) (sym is) (none-within-minute s row stays)

-- ## Other inputs

none-by-lamp : (s : State) (lamp : Option Lamp) → following s (step s (inputs.Fault lamp)) ≡ None
unfolding step watched
none-by-lamp s lamp = go (is_some s.trip)
  where
    go : (b : Bool) → following s (if b then record s { lamp = lamp } else watched s (record s { lamp = lamp })) ≡ None
    go true = none-alike s (record s { lamp = lamp }) refl refl refl
    go false = none-alike s (watched s (record s { lamp = lamp })) refl refl refl

none-by-reset : (s : State) → following s (step s inputs.Reset) ≡ None
unfolding step
none-by-reset s = go (is_some s.trip)
  where
    go : (b : Bool) → following s (if b then restarted s else s) ≡ None
    go true = none-alike s (restarted s) refl refl refl
    go false = none-alike s s refl refl refl

-- nor does an input that is no tick, sets no clock and commits nothing
pub none-by-other : (s : State) (i : Input) → ((row : Row) → i ≡ inputs.Tick row → ⊥) → ((m : ℕ) → i ≡ inputs.Clock m → ⊥) → ((station : ℕ) → i ≡ inputs.Commit station → ⊥) → following s (step s i) ≡ None
unfolding step
none-by-other s (inputs.Tick row) no_tick no_clock no_commit = absurd (no_tick row refl)
none-by-other s (inputs.Clock m) no_tick no_clock no_commit = absurd (no_clock m refl)
none-by-other s (inputs.Commit station) no_tick no_clock no_commit = absurd (no_commit station refl)
none-by-other s (inputs.Fault lamp) no_tick no_clock no_commit = none-by-lamp s lamp
none-by-other s inputs.Reset no_tick no_clock no_commit = none-by-reset s
none-by-other s i no_tick no_clock no_commit = none-alike s (step s i) refl refl refl

-- ## What follows

-- a pattern, and what follows it
pub next-some : (n : ℕ) (list : Option ℕ) → next_in (Some n) list ≡ inputs.Pattern n ∷ one_or_none (option_map inputs.Omit list)
next-some n None = refl
next-some n (Some list) = refl

-- a pattern follows alone where the action in force omits the arrows that are omitted
pub omits-none : (plan : Plan) (a : Option ℕ) (omitted : ℕ → Bool) → ((n : ℕ) → omitted_by plan n ≡ list_of OVERLAPS omitted) → omits plan a omitted ≡ None
omits-none plan None omitted same = refl
omits-none plan (Some n) omitted same = rw (eq-eqb (omitted_by plan n) (list_of OVERLAPS omitted) (same n)) refl

pub followers-alone : (after : State) (next : Option Input) → ((n : ℕ) → omitted_by after.plan n ≡ list_of OVERLAPS after.omitted) → with_omits after next ≡ one_or_none next
followers-alone after None same = refl
followers-alone after (Some i) same = ap (λ (o : Option Input). i ∷ one_or_none o) (omits-none after.plan (action after) after.omitted same)

-- the list of those that are omitted
pub omitted-list : (list : ℕ) (omitted : ℕ → Bool) → list < 2 ^ 16 → ((o : ℕ) → names list o ≡ omitted o) → list ≡ list_of OVERLAPS omitted
omitted-list list omitted fits same = sym (list_of-names list fits) ∙ same-list_of 16 (names list) omitted (λ o from within. same o)

-- nothing follows where it is the list of the action in force, and else that list does
pub omits-same : (plan : Plan) (a list found : ℕ) (omitted : ℕ → Bool) → list ≡ omitted_by plan a → found < 2 ^ 16 → ((o : ℕ) → names found o ≡ omitted o) → list ≡ found
    → omits plan (Some a) omitted ≡ None
omits-same plan a list found omitted is fits same e =
    rw (eq-eqb (omitted_by plan a) (list_of OVERLAPS omitted) (sym is ∙ e ∙ omitted-list found omitted fits same)) refl

pub omits-other : (plan : Plan) (a list found : ℕ) (omitted : ℕ → Bool) → list ≡ omitted_by plan a → found < 2 ^ 16 → ((o : ℕ) → names found o ≡ omitted o) → (list ≡ found → ⊥)
    → omits plan (Some a) omitted ≡ Some (inputs.Omit list)
omits-other plan a list found omitted is fits same other =
    rw (ne_eqb (omitted_by plan a) (list_of OVERLAPS omitted) (λ e. other (is ∙ e ∙ sym (omitted-list found omitted fits same)))) (ap (λ (l : ℕ). Some (inputs.Omit l)) (sym is))

-- ## A course

-- a bench is where it was, whatever follows its newest input
pub stands-before : (given : Setup) (log : List LogRow) (course : OnCourse) (next is : List Input) → Stands given log course is → Stands given log (record course { next = next }) is
stands-before given log course next is s = record { same = s.same; rows = s.rows; follows = s.follows; keeps = s.keeps; tells = s.tells; acts = s.acts; wide = s.wide }

pub took-before : (given : Setup) (log : List LogRow) (course : OnCourse) (next is : List Input) (i : Input) → Took (Ok tt) given log course is i → Took (Ok tt) given log (record course { next = next }) is i
took-before given log course next is i t = (t.0, stands-before given log course next (i ∷ is) t.1, t.2)

-- nothing follows an input that may bring no other action into force, and none does where the schedule does not act
pub none-follows : (given : Setup) (log : List LogRow) (is : List Input) (course : OnCourse) (i : Input) → Stands given log course is → (course.acts ≡ true → FollowsNone course.bench i) → [] ≡ followers given is i
none-follows given log is course i s none = go given.acts s.acts
  where
    go : (b : Bool) → course.acts ≡ b → [] ≡ (if b then all_followers (replay given.plan is) (replay given.plan (i ∷ is)) else [])
    go true on =
        sym (ap (with_omits (replay given.plan (i ∷ is))) (subst (λ (x : State). following x (step x i) ≡ None) (follows-state given.plan (whole course.bench) is s.follows) (none on)))
    go false off = refl

-- what is found once an input was taken follows it
pub some-follows : (given : Setup) (log : List LogRow) (is : List Input) (course : OnCourse) (i : Input) (after : State) (before : Option ℕ) → Stands given log course is → course.acts ≡ true
    → after ≡ step (state_of course.bench) i → before ≡ action (state_of course.bench) → with_omits after (selects after.plan before (action after)) ≡ followers given is i
some-follows given log is course i after before s on steps was =
    let state : state_of course.bench ≡ replay given.plan is = follows-state given.plan (whole course.bench) is s.follows in
    let reached : after ≡ replay given.plan (i ∷ is) = steps ∙ ap (λ (x : State). step x i) state in
    let first : before ≡ action (replay given.plan is) = was ∙ ap action state in
    let acting : given.acts ≡ true = sym s.acts ∙ on in
    let same : with_omits after (selects after.plan before (action after)) ≡ all_followers (replay given.plan is) (replay given.plan (i ∷ is)) =
    λ j. with_omits (reached j) (selects (reached j).plan (first j) (action (reached j))) in
    same ∙ sym (ap (λ (b : Bool). if b then all_followers (replay given.plan is) (replay given.plan (i ∷ is)) else []) acting)

-- what holds in any case holds of an answer that took the input, and of one that refused it
pub where-err : {P : Type 0} (r : Result (Unit {0}) Refusal) → P → OnErr r P
where-err (Ok u) p = tt
where-err (Err e) p = p

-- the state after an input that stayed
pub stepped : (r : Result (Unit {0}) Refusal) (old mid new : Held) (i : Input) → state_of mid ≡ step (state_of old) i → OnOk r (new ≡ mid) → OnOk r (state_of new ≡ step (state_of old) i)
stepped (Ok u) old mid new i steps same = ap state_of same ∙ steps
stepped (Err e) old mid new i steps same = tt

-- ## What follows is taken

-- what follows is no tick
row-next : (given : Setup) (is : List Input) (i : Input) → IsFollower i → HasRow given is i
row-next given is (inputs.Pattern n) follows = tt
row-next given is (inputs.Omit list) follows = tt
row-next given is i follows = absurd follows

pub follower-next : (m : Mode) (given : Setup) (is : List Input) (i : Input) → IsFollower i → IsNext m given is i
follower-next (Recording form) given is i follows = row-next given is i follows
follower-next m given is i follows = tt

pub followed-none : (given : Setup) (log : List LogRow) (course : OnCourse) (is : List Input) → Stands given log course is → Followed (Ok false) given log [] course is
followed-none given log course is s = s

pub followed-taken : (given : Setup) (log : List LogRow) (course : OnCourse) (is : List Input) (i : Input) (next : List Input) → Took (Ok tt) given log course is i → Followed (Ok true) given log (i ∷ next) course is
followed-taken given log course is i next t = t

-- where it was refused, nothing is to be taken any more
pub followed-refused : (given : Setup) (log : List LogRow) (course : OnCourse) (is : List Input) (i : Input) (next none : List Input) (e : Refusal) → Took (Err e) given log course is i
    → Followed (Err e) given log (i ∷ next) (record course { next = none }) is
followed-refused given log course is i next none e t = (t.0, stands-before given log course none is t.1)

pub next-none : (new : List Input) → new ≡ [] → NextAfter (Ok false) [] new
next-none new none = (refl, none)

pub next-taken : (i : Input) (next new : List Input) → new ≡ next → NextAfter (Ok true) (i ∷ next) new
next-taken i next new same = (refl, same)

-- whatever follows, there is memory for the same
beside-before : (m : Mode) (course : OnCourse) (next : List Input) (i : Input) → LacksBeside m course i → LacksBeside m (record course { next = next }) i
beside-before Plain course next i lacks = lacks
beside-before KeepsInputs course next i lacks = lacks
beside-before TellsEvents course next i lacks = lacks
beside-before (Recording form) course next i lacks = lacks

wants-before : (course : OnCourse) (next : List Input) (i : Input) → IsWanting course i → IsWanting (record course { next = next }) i
wants-before course next i wants = elim wants [ inl room ↦ inl room | inr lacks ↦ inr (beside-before course.mode course next i lacks) ]

-- there is no memory for the first of what follows
pub wants-first : (course : OnCourse) (none : List Input) (i : Input) (next : List Input) → IsFollower i → IsWanting course i → WantsAfter (record course { next = none }) (i ∷ next)
wants-first course none (inputs.Pattern n) next follows wants = inl (wants-before course none (inputs.Pattern n) wants)
wants-first course none (inputs.Omit list) next follows wants = inl (wants-before course none (inputs.Omit list) wants)
wants-first course none i next follows wants = absurd follows

-- ## All that follows

-- so far: what is yet to be taken leads where all does
pub record Following (given : Setup) (log : List LogRow) (is first : List Input) (course : OnCourse) : Type 0 where
  pub now : List Input
  pub stands : Stands given log course now
  pub on : (stop : Option Refusal) (left : List Input) → Leads given now course.next stop left → Leads given is first stop left

pub following-start : (given : Setup) (log : List LogRow) (is : List Input) (course : OnCourse) → Stands given log course is → Following given log is course.next course
following-start given log is course s = record { now = is; stands = s; on = λ stop left leads. leads }

module _ (given : Setup) (log : List LogRow) (is first now : List Input) (new : OnCourse) where
  -- one more is taken
  pub following-more : (next : List Input) → Followed (Ok true) given log next new now → NextAfter (Ok true) next new.next
      → ((stop : Option Refusal) (left : List Input) → Leads given now next stop left → Leads given is first stop left) → Following given log is first new
  following-more [] followed after on = let never : true ≡ false = after.0 in absurd (cc)
  following-more (i ∷ next) followed after on = record {
    now = i ∷ now;
    stands = followed.1;
    on = λ stop left leads. on stop left (inl (followed.0, subst (λ (n : List Input). Leads given (i ∷ now) n stop left) after.1 leads));
  }

  -- nothing is left
  pub following-none : (next : List Input) → Followed (Ok false) given log next new now → NextAfter (Ok false) next new.next
      → ((stop : Option Refusal) (left : List Input) → Leads given now next stop left → Leads given is first stop left) → FollowedAll None given log first new is
  following-none [] followed after on = (now, on None now (refl, refl), followed)
  following-none (i ∷ next) followed after on = let never : false ≡ true = after.0 in absurd (cc)

  -- one is refused
  pub following-refused : (e : Refusal) (next : List Input) → Followed (Err e) given log next new now
      → ((stop : Option Refusal) (left : List Input) → Leads given now next stop left → Leads given is first stop left) → FollowedAll (Some e) given log first new is
  following-refused e [] followed on = absurd followed
  following-refused e (i ∷ next) followed on = (now, on (Some e) now (inr (record { why = e; right = followed.0; refused = refl; left = refl })), followed.1)

-- fewer are yet to be taken
pub shorter : (next new : List Input) → NextAfter (Ok true) next new → length new < length next
shorter [] new after = let never : true ≡ false = after.0 in absurd (cc)
shorter (i ∷ next) new after = let same : length new ≡ length next = ap length after.1 in omega (arith, same)

-- there is no memory for one of them
pub wants-later : (course : OnCourse) (next new : List Input) → NextAfter (Ok true) next new → WantsAfter course new → WantsAfter course next
wants-later course [] new after wants = let never : true ≡ false = after.0 in absurd (cc)
wants-later course (i ∷ next) new after wants = inr (subst (WantsAfter course) after.1 wants)

-- ## Answers

-- nothing follows what is no input
pub none-after-command : (given : Setup) (is : List Input) (cmd : Cmd) (a : Answer) → ((i : Input) → cmd ≡ Apply i → ⊥) → followers_of given is cmd a ≡ []
none-after-command given is (Apply i) a none = absurd (none i refl)
none-after-command given is cmd a none = refl
