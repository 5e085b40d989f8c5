-- Findings one by one, as the code looks for them.
use Rattle.std.specs.Prelude.{Bool, true, false, ◌&&◌, if◌then◌else◌, Option, Some, None}
use Rattle.tsb_plan.specs.declared.object.ObjectId.{ObjectId}
use Rattle.tsb_plan.specs.Plan.{Plan}
use Rattle.tsb_review.specs.declared.advice.Advice.{Advice}
use Rattle.tsb_review.specs.declared.advice.Advice.TheVariants.{A36, A56, A59}
use Rattle.tsb_review.specs.declared.finding.Finding.{Finding}
use Rattle.tsb_review.specs.declared.place.Place.{Place}
use Rattle.tsb_review.specs.declared.place.Place.TheVariants as at
use Rattle.tsb_review.specs.Advices.{holds}
use Rattle.tsb_review.specs.Overlaps.{is_turn_beside}
use Rattle.tsb_review.specs.Preempts.{has_track}
use Rattle.tsb_review.specs.Unused.{first_value}

-- the advice for a place, where it holds
abbrev pub finding_at : Plan → Advice → Place → Option Finding
finding_at plan a place = if holds plan a place then Some (record { advice = a; place = place }) else None

-- an advice is that of a walk that a preempt ends at once
abbrev pub is_of_walk : Advice → Bool
is_of_walk A36 = true
is_of_walk a = false

-- a place is a phase in a preempt with track phases
abbrev pub has_track_at : Plan → Place → Bool
has_track_at plan (at.PreemptPhase m p) = has_track plan m
has_track_at plan place = false

-- a preempt with track phases ends the walk that a finding is about, as MUTCD lets it
abbrev pub ends_walk_for_track : Plan → Finding → Bool
ends_walk_for_track plan f = is_of_walk f.advice && has_track_at plan f.place

-- an advice is that of a right turn
abbrev pub is_of_turn : Advice → Bool
is_of_turn A56 = true
is_of_turn a = false

-- a place is an overlap that is a right turn, and the through phase beside it
abbrev pub has_turn_beside : Plan → Place → Bool
has_turn_beside plan (at.OverlapPhase o p) = is_turn_beside plan o p
has_turn_beside plan place = false

-- the right turn that a finding is about goes over the crossing of the phase that it names
abbrev pub crosses_walk : Plan → Finding → Bool
crosses_walk plan f = is_of_turn f.advice && has_turn_beside plan f.place

-- the first value that is given for the phase of a place, where it is one
abbrev pub first_value_at : Plan → Place → Option ObjectId
first_value_at plan (at.Phase p) = first_value plan p
first_value_at plan place = None

-- that of an advice for a place, where the advice is on phases that are not enabled
abbrev pub value_at : Plan → Advice → Place → Option ObjectId
value_at plan A59 place = first_value_at plan place
value_at plan a place = None

-- the first value of the phase that a finding is about, which is not enabled
abbrev pub unused_value : Plan → Finding → Option ObjectId
unused_value plan f = value_at plan f.advice f.place
