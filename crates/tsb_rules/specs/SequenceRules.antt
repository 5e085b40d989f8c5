-- What the sequences of a plan must be (profile): rules K6 and K7.
use Rattle.std.specs.Prelude.{ℕ, ◌==◌, nat_le, Bool, true, not, ◌&&◌, ◌||◌, List, [], ◌∷◌}
use Rattle.std.specs.List.{list_all}
use Rattle.tsb_types.specs.Lists.{among}
use Rattle.tsb_plan.specs.Plan.{Plan, phases, is_enabled, ring_of, side_of, sequence}

-- a test that each enabled phase passes
abbrev pub each_phase : Plan → (ℕ → Bool) → Bool
each_phase plan test = list_all (λ p. not (is_enabled plan p) || test p) (phases plan)

-- each phase that is listed is an enabled phase of the ring
abbrev pub lists_only : Plan → ℕ → List ℕ → Bool
lists_only plan r ps = list_all (λ p. p == 0 || (is_enabled plan p && ring_of plan p == r)) ps

-- each phase of the ring is listed
abbrev pub lists_each : Plan → ℕ → List ℕ → Bool
lists_each plan r ps = each_phase plan (λ p. not (ring_of plan p == r) || among p ps)

-- none is listed twice
abbrev pub lists_once : List ℕ → Bool
lists_once [] = true
lists_once (p ∷ ps) = (p == 0 || not (among p ps)) && lists_once ps

-- no phase comes before one of a lower side
abbrev pub rises : Plan → List ℕ → Bool
rises plan [] = true
rises plan (p ∷ ps) = list_all (λ q. q == 0 || nat_le (side_of plan p) (side_of plan q)) ps && rises plan ps

-- no place has a phase
abbrev pub is_zeros : List ℕ → Bool
is_zeros ps = list_all (λ p. p == 0) ps

-- after a zero there are only zeros
abbrev pub zeros_last : List ℕ → Bool
zeros_last [] = true
zeros_last (p ∷ ps) = (not (p == 0) || is_zeros ps) && zeros_last ps

-- what a sequence has for a ring lists each phase of the ring once and no other, sides in rising order, with zeros only
-- after the last
abbrev pub is_ordered : Plan → ℕ → List ℕ → Bool
is_ordered plan r ps = lists_only plan r ps && (lists_each plan r ps && (lists_once ps && (rises plan ps && zeros_last ps)))

-- what sequence s has for ring 1 and for ring 2 is ordered
abbrev pub sequence_is_ordered : Plan → ℕ → Bool
sequence_is_ordered plan s = is_ordered plan 1 (sequence plan s 1) && is_ordered plan 2 (sequence plan s 2)

-- the sequence is all zeros
abbrev pub is_blank : Plan → ℕ → Bool
is_blank plan s = is_zeros (sequence plan s 1) && is_zeros (sequence plan s 2)

-- K6: sequence 1 is ordered
abbrev pub first_sequence_is_ordered : Plan → Bool
first_sequence_is_ordered plan = sequence_is_ordered plan 1

-- K7: each of sequences 2 to 4 is all zeros or ordered
abbrev pub other_sequences_are_ordered : Plan → Bool
other_sequences_are_ordered plan = list_all (λ s. is_blank plan s || sequence_is_ordered plan s) (2 ∷ 3 ∷ 4 ∷ [])
