-- The rings after a tick: they have acted on their moves, and then given up what strays from the target of a preempt that
-- chooses anew, or nothing.
use Rattle.std.proofs.Common.{◌≡◌, ℕ, Bool, true, false, not, ◌&&◌, if◌then◌else◌, Some, None, refl, ap}
use Rattle.std.proofs.lemmas.Bool.{and_parts, false≢true}
use Rattle.tsb_types.specs.declared.row.Row.{Row}
use Rattle.tsb_objects.specs.tsb_plan.Parts.{is_anew}
use Rattle.tsb_ring.specs.Rings as rings
use Rattle.tsb_ring.specs.Rings.{Ring}
use Rattle.tsb_ring.specs.Next as rings_next
use Rattle.tsb_ring.specs.GivenUp.{given_up}
use Rattle.tsb_ring.proofs.GivenUpLemmas.{crossing_left, no_crossing_given, outside_left, was_before}
use Rattle.tsb_step.specs.State.{State}
use Rattle.tsb_step.specs.Signs.{is_lasting}
use Rattle.tsb_step.specs.Tick.{service, target, rings_given, after_moves, gives_up, new_rings, after_rings, next}

-- ## Where nothing is given up

pub keeps_rings : (s : State) (row : Row) → gives_up s row ≡ false → (next s row).rings ≡ rings_next.next s.plan s.rings (rings_given s row)
unfolding new_rings
keeps_rings s row h = rw h refl

-- the whole state is then what the moves make of it, before overlaps follow
pub keeps_all : (s : State) (row : Row) → gives_up s row ≡ false → after_rings s row ≡ after_moves s row
keeps_all s row h = ap (λ (x : rings.State). record (after_moves s row) { rings = x }) (keeps_rings s row h)

pub gives_none : (s : State) (row : Row) → is_anew s.plan (service s row) ≡ false → gives_up s row ≡ false
unfolding gives_up
gives_none s row h = rw h refl

pub gives_none_alone : (s : State) (row : Row) → service s row ≡ None → gives_up s row ≡ false
gives_none_alone s row e = gives_none s row (ap (is_anew s.plan) e)

-- where an overlap lasts
pub gives_none_lasting : (s : State) (row : Row) → is_lasting (after_moves s row) ≡ true → gives_up s row ≡ false
unfolding gives_up
gives_none_lasting s row h = rw h (go (is_anew s.plan (service s row)))
  where
    go : (b : Bool) → (b && false) ≡ false
    go true = refl
    go false = refl

-- where something is, the preempt chooses anew, and no overlap lasts
pub gives_by : (s : State) (row : Row) → gives_up s row ≡ true → (is_anew s.plan (service s row) ≡ true) × (is_lasting (after_moves s row) ≡ false)
unfolding gives_up
gives_by s row h =
    let both = and_parts (is_anew s.plan (service s row)) (not (is_lasting (after_moves s row))) h in
    (both.0, off (is_lasting (after_moves s row)) both.1)
  where
    off : (b : Bool) → not b ≡ true → b ≡ false
    off true k = absurd (false≢true k)
    off false k = refl

-- ## In any tick

-- a fact of the rings that have acted, and of those that have given up what strays, holds of the rings after the tick
pub by_rings : (P : rings.State → Type 0) (s : State) (row : Row) → P (after_moves s row).rings →
    P (given_up s.plan (target s row) (after_moves s row).rings) → P (next s row).rings
unfolding new_rings
by_rings P s row h k = go (gives_up s row)
  where
    go : (b : Bool) → P (if b then given_up s.plan (target s row) (after_moves s row).rings else (after_moves s row).rings)
    go true = k
    go false = h

-- a commitment was made by the moves, or stood
pub committed_by_moves : (s : State) (row : Row) (r : Ring) (c : ℕ) → (next s row).rings.commitment r ≡ Some c →
    (after_moves s row).rings.commitment r ≡ Some c
committed_by_moves s row r c =
    by_rings (λ (x : rings.State). x.commitment r ≡ Some c → (after_moves s row).rings.commitment r ≡ Some c) s row (λ h. h)
    (λ h. was_before s.plan (target s row) (after_moves s row).rings r c h)

-- a crossing that is under way was so by the moves, and the rings are as they left them
pub crossing_by_moves : (s : State) (row : Row) (d : ℕ) → (next s row).rings.crossing ≡ Some d → (next s row).rings ≡ (after_moves s row).rings
crossing_by_moves s row d =
    by_rings (λ (x : rings.State). x.crossing ≡ Some d → x ≡ (after_moves s row).rings) s row (λ h. refl)
    (λ h. crossing_left s.plan (target s row) (after_moves s row).rings d h)

-- no crossing comes of what is given up; and where a commitment is left, none was under way before
pub outside_then : (s : State) (row : Row) → (after_moves s row).rings.crossing ≡ None → (next s row).rings.crossing ≡ None
outside_then s row none =
    by_rings (λ (x : rings.State). x.crossing ≡ None) s row none (no_crossing_given s.plan (target s row) (after_moves s row).rings none)

pub outside_by_moves : (s : State) (row : Row) (r : Ring) (c : ℕ) → (next s row).rings.crossing ≡ None → (next s row).rings.commitment r ≡ Some c →
    (after_moves s row).rings.crossing ≡ None
outside_by_moves s row r c =
    by_rings (λ (x : rings.State). x.crossing ≡ None → x.commitment r ≡ Some c → (after_moves s row).rings.crossing ≡ None) s row (λ h k. h)
    (λ h k. outside_left s.plan (target s row) (after_moves s row).rings r c h k)
