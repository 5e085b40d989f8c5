-- What a phase waits for, of what was found of it and of the rings: the definition of tsb_step, with each thing that it
-- finds in a state in place of that. `waits_are_found` of src/laws.rt says that it is the same.
use Rattle.std.specs.Prelude.{ℕ, ◌==◌, Bool, not, ◌&&◌, if◌then◌else◌, Option, Some, None, is_some, is_none}
use Rattle.tsb_step.specs.tsb_types.Lists.{is, or_else}
use Rattle.tsb_step.specs.tsb_types.Sets.{has}
use Rattle.tsb_step.specs.tsb_plan.Plan.{Plan, is_concurrent, side_of}
use Rattle.tsb_step.specs.declared.waits.Wait.{Wait}
use Rattle.tsb_step.specs.declared.waits.Wait.TheVariants as waits
use Rattle.tsb_step.specs.Waits.{not_concurrent, green_with}
use Rattle.tsb_status.specs.declared.found.Circumstances.{Circumstances}
use Rattle.tsb_status.specs.declared.found.Next.{Next}
use Rattle.tsb_status.specs.declared.found.RingFound.{RingFound}
use Rattle.tsb_status.specs.declared.found.Served.{Served}
use Rattle.tsb_status.specs.declared.found.Service.{Service}
use Rattle.tsb_status.specs.declared.found.Waiting.{Waiting}

-- the number of a phase in service, if there is one
abbrev pub number_by : Option Served → Option ℕ
number_by None = None
number_by (Some x) = Some x.phase

-- and of a phase that a ring starts next
abbrev pub next_by : Option Next → Option ℕ
next_by None = None
next_by (Some x) = Some x.phase

-- one that is not over in the next tick
abbrev pub not_over_by : Option Served → Option Served
not_over_by None = None
not_over_by (Some x) = if x.is_over then None else Some x

-- one that is not Green
abbrev pub not_green_by : Option Served → Option Served
not_green_by None = None
not_green_by (Some x) = if x.is_green then None else Some x

-- one that was Green and lacked something
abbrev pub lacking_by : Option Served → Option ℕ
lacking_by None = None
lacking_by (Some x) = if x.is_green && is_some x.lack then Some x.phase else None

-- one that is not over and, outside a crossing, is not concurrent with p
abbrev pub in_the_way_of : Plan → ℕ → Bool → Option Served → Option Served
in_the_way_of plan p crosses None = None
in_the_way_of plan p crosses (Some x) = if not crosses && is_concurrent plan p x.phase then None else Some x

-- of the other ring's phase in service
abbrev pub in_the_way_by : Plan → ℕ → Bool → Option Served → Option Served
in_the_way_by plan p crosses o = in_the_way_of plan p crosses (not_over_by o)

-- one that starts in a crossing, and whose red revert has not passed
abbrev pub beside_by : Bool → Option Next → Option Next
beside_by crosses None = None
beside_by crosses (Some x) = if crosses && not x.is_reverted then Some x else None

-- ## The list

-- the overlap that holds a phase, or else its own clearance
abbrev pub trailing_or : ℕ → Option (ℕ × ℕ) → Wait → Wait
trailing_or q None w = w
trailing_or q (Some x) w = waits.Trails q x.0 x.1

-- a phase that clears
abbrev pub clearing_by : Served → Wait
clearing_by x = trailing_or x.phase x.trail (waits.Clears x.phase x.left)

-- a phase that clears, or else what follows
abbrev pub clears_or : Option Served → Wait → Wait
clears_or None w = w
clears_or (Some x) w = clearing_by x

-- its red revert
abbrev pub reverts_or : Waiting → Wait → Wait
reverts_or p w = if p.is_reverted then w else waits.RedRevert p.red_revert

-- a phase of the other ring that does not make way
abbrev pub across_by : Served → Wait
across_by x = trailing_or x.phase x.trail (waits.Across x.phase x.left)

-- a phase of the other ring
abbrev pub across_or : Option Served → Wait → Wait
across_or None w = w
across_or (Some x) w = across_by x

-- the phase that starts with it
abbrev pub beside_or : Option Next → Wait → Wait
beside_or None w = w
beside_or (Some x) w = waits.Beside x.phase x.red_revert

-- of a phase that its ring is committed to
abbrev pub committed_by : Plan → Waiting → RingFound → RingFound → Bool → Wait
committed_by plan p own other crosses =
    clears_or (not_over_by own.served)
    (reverts_or p
    (across_or (in_the_way_by plan p.phase crosses other.served)
    (beside_or (beside_by crosses other.next)
    waits.Due)))

-- the preempt in service, if its stage does not have p
abbrev pub unwanted_of : ℕ → Option Service → Option ℕ
unwanted_of p None = None
unwanted_of p (Some x) = if has x.phases p then None else Some x.preempt

-- by what holds of all phases
abbrev pub unwanted_by : ℕ → Circumstances → Option ℕ
unwanted_by p around = unwanted_of p around.service

-- the phase that keeps the barrier from being crossed
abbrev pub keeper_by : RingFound → RingFound → Option ℕ
keeper_by own other = or_else (next_by other.next) (or_else (lacking_by own.served) (lacking_by other.served))

-- a green with what it lacked
abbrev pub green_by : Option Served → Option Wait
green_by None = None
green_by (Some x) = if x.is_green then green_with x.phase x.lack else None

-- the phase of the other ring that is not concurrent with p
abbrev pub conflict_by : Plan → ℕ → RingFound → Option ℕ
conflict_by plan p other = or_else (not_concurrent plan p (number_by other.served)) (not_concurrent plan p (next_by other.next))

-- a wait, or else what follows
abbrev pub wait_or : Option Wait → Wait → Wait
wait_or None w = w
wait_or (Some v) w = v

-- a conflict, or else its turn
abbrev pub conflict_or : Option ℕ → Wait
conflict_or None = waits.Turn
conflict_or (Some q) = waits.Conflict q

-- by its side, the green of its ring and the other ring
abbrev pub side_by : Plan → ℕ → RingFound → RingFound → Circumstances → Wait
side_by plan p own other around =
    if side_of plan p == around.side then wait_or (green_by own.served) (conflict_or (conflict_by plan p other))
    else waits.Barrier (keeper_by own other)

-- a preempt, or else what follows
abbrev pub preempted_or : Option ℕ → Wait → Wait
preempted_or None w = w
preempted_or (Some n) w = waits.Preempted n

-- another phase first, or else what follows
abbrev pub next_or : Option ℕ → Wait → Wait
next_or None w = w
next_or (Some c) w = waits.Next c

-- of any other phase
abbrev pub free_by : Plan → Waiting → RingFound → RingFound → Circumstances → Wait
free_by plan p own other around =
    if p.is_omitted && is_none around.service then waits.Omitted else
    (preempted_or (unwanted_by p.phase around)
    (next_or (next_by own.next)
    (if around.crosses
    then waits.Crossing (or_else (number_by (not_over_by own.served)) (number_by (not_over_by other.served))) else
    (clears_or (not_green_by own.served)
    (reverts_or p
    (side_by plan p.phase own other around))))))

-- of whichever
abbrev pub wait_by : Plan → Waiting → RingFound → RingFound → Circumstances → Wait
wait_by plan p own other around =
    if around.tripped then waits.Flash else
    (if is p.phase (next_by own.next) then committed_by plan p own other around.crosses
    else free_by plan p own other around)
