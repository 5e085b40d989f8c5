-- Advices on overlaps: A39 to A41, and A56.
use Rattle.std.specs.Prelude.{ℕ, ◌==◌, Bool, not, ◌&&◌, ◌||◌, Option, Some, None, is_none, is_some}
use Rattle.std.specs.List.{list_any}
use Rattle.tsb_types.specs.Lists.{first}
use Rattle.tsb_plan.specs.declared.object.Object.TheVariants.{OverlapIncludedPhases, OverlapModifierPhases}
use Rattle.tsb_plan.specs.Parts.{is_arrow, is_included, is_modifier, overlaps_across_rings, trails}
use Rattle.tsb_plan.specs.Plan.{Plan, phases, ring_of, is_concurrent}
use Rattle.tsb_rules.specs.Rules.{has_walk}
use Rattle.tsb_review.specs.Actuation.{phase_and}
use Rattle.tsb_review.specs.Legs.{goes_out_by, right_of, goes_through, turns_left, is_of_other_street}

-- overlap o includes q, which is of another ring than p and not concurrent with it
abbrev pub is_split_from : Plan → ℕ → ℕ → ℕ → Bool
is_split_from plan o p q = is_included plan o q && (not (ring_of plan p == ring_of plan q) && not (is_concurrent plan p q))

-- overlap o includes p, and a phase of the other ring that follows or precedes it
abbrev pub is_split_at : Plan → ℕ → ℕ → Bool
is_split_at plan o p = is_included plan o p && list_any (is_split_from plan o p) (phases plan)

-- the first such phase
abbrev pub split_at : Plan → ℕ → Option ℕ
split_at plan o = first (is_split_at plan o) (phases plan)

-- the first phase that it is split from
abbrev pub split_from : Plan → ℕ → Option ℕ → Option ℕ
split_from plan o None = None
split_from plan o (Some p) = first (is_split_from plan o p) (phases plan)

-- A39: overlap o includes phases of both rings that are not concurrent, does not go on across rings, and is no arrow: as
-- one follows the other, it turns yellow
abbrev pub is_split : Plan → ℕ → Bool
is_split plan o = not (overlaps_across_rings plan o) && (not (is_arrow plan o) && is_some (split_at plan o))

-- A40: p is both an included and a modifier phase of overlap o
abbrev pub modifies_itself : Plan → ℕ → ℕ → Bool
modifies_itself plan o p = is_included plan o p && is_modifier plan o p

-- overlap o includes q, which is another phase of the ring of p
abbrev pub is_beside : Plan → ℕ → ℕ → ℕ → Bool
is_beside plan o p q = is_included plan o q && (not (q == p) && ring_of plan p == ring_of plan q)

-- overlap o includes p and another phase of its ring
abbrev pub is_carried_at : Plan → ℕ → ℕ → Bool
is_carried_at plan o p = is_included plan o p && list_any (is_beside plan o p) (phases plan)

-- A41: overlap o includes phases, no two of one ring, and those of two rings are concurrent; it has no modifier phase and
-- does not trail. No phase of it follows another, so it shows what its phases show
abbrev pub adds_nothing : Plan → ℕ → Bool
adds_nothing plan o =
    not (plan.value OverlapIncludedPhases o == 0) && (plan.value OverlapModifierPhases o == 0 &&
    (not (trails plan o) && (is_none (split_at plan o) && not (list_any (is_carried_at plan o) (phases plan)))))

-- overlap o includes q, which is neither p nor l
abbrev pub is_third : Plan → ℕ → ℕ → ℕ → ℕ → Bool
is_third plan o p l q = is_included plan o q && (not (q == p) && not (q == l))

-- overlap o includes l, a left turn of the other street than that of through phase t, and no phase besides these two
abbrev pub is_paired : Plan → ℕ → ℕ → ℕ → Bool
is_paired plan o t l =
    is_included plan o l && (turns_left l && (is_of_other_street t l && not (list_any (is_third plan o t l) (phases plan))))

-- overlap o is a right turn beside t, where phases stand as usual: its phases are through phase t and a left turn of the
-- other street
abbrev pub is_turn_beside : Plan → ℕ → ℕ → Bool
is_turn_beside plan o t = is_included plan o t && (goes_through t && list_any (is_paired plan o t) (phases plan))

-- the through phase beside which overlap o is a right turn
abbrev pub turn_of : Plan → ℕ → Option ℕ
turn_of plan o = first (is_turn_beside plan o) (phases plan)

-- overlap o includes p, which is concurrent with q
abbrev pub is_included_beside : Plan → ℕ → ℕ → ℕ → Bool
is_included_beside plan o q p = is_included plan o p && is_concurrent plan q p

-- q goes out by the leg that the right turn beside t goes out by, and may be green with a phase of overlap o
abbrev pub goes_into_turn : Plan → ℕ → ℕ → ℕ → Bool
goes_into_turn plan o q t = goes_out_by q == right_of t && list_any (is_included_beside plan o q) (phases plan)

-- q is the through phase of a right turn, which goes over its crossing, and has a walk
abbrev pub walks_over_turn : Plan → ℕ → ℕ → Bool
walks_over_turn plan q t = q == t && has_walk plan q

-- the right turn of overlap o beside t meets q, or the walk of q
abbrev pub meets_turn : Plan → ℕ → ℕ → ℕ → Bool
meets_turn plan o q t = goes_into_turn plan o q t || walks_over_turn plan q t

-- A56: where phases stand as usual, overlap o is a right turn, and meets q or its walk while both are green. A modifier
-- phase keeps it from being green. The crossing in front of its stop line is that of a phase that goes out by its leg
abbrev pub is_met : Plan → ℕ → ℕ → Bool
is_met plan o q = not (is_modifier plan o q) && phase_and (meets_turn plan o q) (turn_of plan o)
