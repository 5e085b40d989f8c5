-- When the orders of coordination may next be others: the clauses of `Coord::due`, over the cell `row` and a tick
-- `now`.
use Rattle.std.specs.Prelude.{◌≡◌, ℕ, ◌+◌, ◌-◌, ◌%◌, ◌<◌, ◌⊎◌, true, false, List, Option, Some, None}
use Rattle.tsb_objects.specs.tsb_plan.Plan.{Plan}
use Rattle.tsb_objects.specs.tsb_plan.Running.{running}
use Rattle.tsb_coord.specs.declared.coordination.Coordination.{Coordination}
use Rattle.tsb_coord.specs.Cells.{pattern_in, correction_in}
use Rattle.tsb_coord.specs.Coordinated.{agree, ends_permissive_time, ends_recycle}
use Rattle.tsb_coord.specs.Correction.{Correction, clocked, forces, is_in_step}
use Rattle.tsb_coord.specs.Promises.{AreOrders}

-- clause `quiet`: the orders of `now` are those of each tick in between
abbrev pub KeepsOrders : ℕ → Plan → List ℕ → ℕ → Type 0
KeepsOrders now plan row result = (t : ℕ) → now < t → t < result →
    (orders : Coordination) → AreOrders now plan row orders → AreOrders t plan row orders

-- a phase is forced off in tick t
abbrev pub ForcesOff : Plan → Option ℕ → Correction → ℕ → Type 0
ForcesOff plan selected c t = (p : ℕ) × (forces plan selected c t p ≡ true)

-- the permissive time of a coordinated phase has just ended in tick t, where it has one
abbrev pub EndsPermission : Plan → Option ℕ → Correction → ℕ → Type 0
EndsPermission plan selected c t = (p : ℕ) × (ends_permissive_time plan (clocked plan selected c t) selected p ≡ true)

-- in tick t a coordinated phase with pedestrian recycle has just ceased to have time for a walk up to its instant
abbrev pub EndsRecycle : Plan → Option ℕ → Correction → ℕ → Type 0
EndsRecycle plan selected c t = (p : ℕ) × (ends_recycle plan (clocked plan selected c t) selected p ≡ true)

-- clause `exact`: while a pattern runs, a phase is forced off in that tick, or a permissive time or the time for a walk
-- has just ended there, or it is the next tick and a phase is forced off now or the local counter was not in step
-- before; in free operation it is after the last tick that there is
pub record IsExact (now : ℕ) (plan : Plan) (row : List ℕ) (result : ℕ) : Type 0 where
  pub runs : (n : ℕ) → running plan (pattern_in row) ≡ Some n →
      ForcesOff plan (pattern_in row) (correction_in row) result
      ⊎ (EndsPermission plan (pattern_in row) (correction_in row) result
      ⊎ (EndsRecycle plan (pattern_in row) (correction_in row) result
      ⊎ ((result ≡ now + 1) × (ForcesOff plan (pattern_in row) (correction_in row) now
      ⊎ (is_in_step plan (pattern_in row) (correction_in row) (now - 1) ≡ false)))))
  pub free : running plan (pattern_in row) ≡ None → result ≡ 6000001

-- the local counter is at the instant so many ticks later, or it is there now and it is one tick
abbrev pub IsMet : ℕ → ℕ → Option ℕ → ℕ → Type 0
IsMet cycle local instant ticks =
    (agree (Some ((local + ticks) % cycle)) instant ≡ true) ⊎ ((ticks ≡ 1) × (agree (Some local) instant ≡ true))

-- so many ticks later the local counter is at the end of a permissive time, or of the time for a walk
abbrev pub IsEnded : ℕ → ℕ → Option ℕ → ℕ → Type 0
IsEnded cycle local end ticks = agree (Some ((local + ticks) % cycle)) end ≡ true
