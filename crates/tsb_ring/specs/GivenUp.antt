-- What the rings give up under a preempt that chooses anew: commitments to phases that it does not want. NEMA TS 2 and
-- NTCIP 1202 have no commitments, and so this is the profile's own. Yellow and red clearance go on as they were: a ring
-- without a commitment clears to none, and is asked what it wants once it is idle.
use Rattle.std.specs.Prelude.{ℕ, Bool, false, not, ◌||◌, if◌then◌else◌, Option, Some, None, is_some}
use Rattle.tsb_objects.specs.tsb_plan.Plan.{Plan}
use Rattle.tsb_ring.specs.Rings.{Ring, Ring1, Ring2, State}
use Rattle.tsb_ring.specs.Wants.{is_targeted}

-- a commitment to a phase that does not pass the test
abbrev pub strays : (ℕ → Bool) → Option ℕ → Bool
strays test None = false
strays test (Some c) = not (test c)

-- a ring is committed to such a phase
abbrev pub some_strays : (ℕ → Bool) → State → Bool
some_strays test s = strays test (s.commitment Ring1) || strays test (s.commitment Ring2)

-- what is left of a commitment where a ring's strays: one that does not, unless a crossing of both rings is under way
abbrev pub kept_commitment : (ℕ → Bool) → Bool → Option ℕ → Option ℕ
kept_commitment test crosses c = if crosses || strays test c then None else c

-- the rings without the commitments that stray; a crossing ends with all that it committed the rings to, and its side
-- is not served
abbrev pub without_strays : (ℕ → Bool) → State → State
without_strays test s = record {
  last = s.last;
  commitment = λ r. kept_commitment test (is_some s.crossing) (s.commitment r);
  side = s.side;
  crossing = None;
}

-- they stay as they are where no commitment strays
abbrev pub given_up_in : (ℕ → Bool) → State → State
given_up_in test s = if some_strays test s then without_strays test s else s

-- the rings once they have given up what is outside the target; they keep all where no preempt is in service
unfoldable pub given_up : Plan → Option (ℕ → Bool) → State → State
given_up plan None s = s
given_up plan (Some target) s = given_up_in (is_targeted plan target) s
