-- What overlaps see, read from the values in memory.
use Rattle.std.specs.Prelude.{ℕ, ◌-◌, Bool, false, slice_index}
use Rattle.tsb_cells.specs.Timer.{timer_at}
use Rattle.tsb_objects.specs.tsb_types.declared.flow.OverlapLights.{OverlapLights}
use Rattle.tsb_objects.specs.tsb_types.Sets.{has}
use Rattle.tsb_heads.specs.Reading.{shown_by}
use Rattle.tsb_overlap.specs.declared.surroundings.Surroundings.{Surroundings}
use Rattle.tsb_overlap.specs.Overlap.{Given}

-- the cell of the interval timer of phase p, one of 1 to 16
abbrev pub since_in : Surroundings → ℕ → ℕ
since_in seen p = slice_index seen.since.now (p - 1)

-- what tick `now` gives them; of lights and of a trip they see nothing
abbrev pub given_by : ℕ → Surroundings → (ℕ → Bool) → OverlapLights → Given
given_by now seen omitted lights = record {
  was_green = has seen.was_green;
  shown = shown_by seen.intervals seen.pedestrians seen.ring_1 seen.ring_2 lights false;
  timer = λ p. timer_at now (since_in seen p);
  preempted = seen.is_preempted;
  omitted = omitted;
}
