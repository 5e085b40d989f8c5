-- One-line mistakes, each with an example that tells it from the definition.
use Rattle.std.specs.Prelude.{◌≡◌, ℕ, Bool, true, false, not, ◌&&◌, ◌||◌, if◌then◌else◌, List, [], ◌∷◌, Option, Some, None, is_some, is_none, refl}
use Rattle.tsb_types.specs.Lists.{first, some_passes, later, not_later, or_else}
use Rattle.tsb_objects.specs.tsb_plan.Plan.{Plan, phases}
use Rattle.tsb_objects.specs.tsb_plan.Quad.{quad}
use Rattle.tsb_ring.specs.declared.want.Want.{Want}
use Rattle.tsb_ring.specs.declared.want.Want.TheVariants.{Go, Cross, Rest, Stop}
use Rattle.tsb_ring.specs.Rings.{Ring, Ring1, Ring2, other, State, power_up, Given, serving}
use Rattle.tsb_ring.specs.Wants.{go_or, concurrent_with, fits, is_on_side, is_called_elsewhere, want, want_of, want_within, pick}
use Rattle.tsb_ring.specs.Crossings.{wants_cross, begins, called_in_ring_1, called_in_ring_2, is_called_in, entry, committed}
use Rattle.tsb_ring.specs.Next.{is_none_or_over, may_start, completes, idle_pick, starting, clears, new_last}
use Rattle.tsb_ring.proofs.Examples.Scenes.{opened, those, both, showing, calm, resting, called_3, under_way, clearing, parted, parted_3_7}
use Rattle.tsb_ring.proofs.Examples.TargetExamples.{clearing_to_none, over_to_none, to_1, to_3_alone, both_over}

-- ## Ring 2 decides without ring 1's pick

abbrev pub want_without_pick : Plan → State → Given → Ring → Option Want
want_without_pick plan s given r = want plan s given r None

abbrev pub called_1_5 : Given
called_1_5 = record calm { callable = those (1 ∷ 5 ∷ []) }

sees_pick : want_of parted power_up called_1_5 Ring2 ≡ Some Rest
unfolding opened parted
sees_pick = refl

sees_no_pick : want_without_pick parted power_up called_1_5 Ring2 ≡ Some (Go 5)
unfolding opened parted
sees_no_pick = refl

-- ## Ring 2 has to fit also a phase that ring 1 wants and does not pick

abbrev pub wanted : Option Want → Option ℕ
wanted None = None
wanted (Some (Go p)) = Some p
wanted (Some Cross) = None
wanted (Some Rest) = None
wanted (Some Stop) = None

abbrev pub want_beside_want : Plan → State → Given → Ring → Option Want
want_beside_want plan s given r = want plan s given r (wanted (want plan s given Ring1 None))

-- ring 1 wants 1, which waits for its red revert
abbrev pub reverting_1 : Given
reverting_1 = record called_1_5 { reverted = those (5 ∷ []) }

goes_beside_want : want_of parted power_up reverting_1 Ring2 ≡ Some (Go 5)
unfolding opened parted
goes_beside_want = refl

rests_for_want : want_beside_want parted power_up reverting_1 Ring2 ≡ Some Rest
unfolding opened parted
rests_for_want = refl

-- ## A phase fits without a look at the other ring's commitment

abbrev pub fits_without_commitment : Plan → Given → Ring → Option ℕ → ℕ → Bool
fits_without_commitment plan given r picked p =
    concurrent_with plan p (serving plan given (other r)) && concurrent_with plan p picked

-- ring 1 is committed to 1, and 2 clears
abbrev pub called_5 : Given
called_5 = record calm { interval = showing [] [] (2 ∷ []); callable = those (5 ∷ []) }

fits_not : fits parted to_1 called_5 Ring2 None 5 ≡ false
unfolding opened parted
fits_not = refl

fits_wrongly : fits_without_commitment parted called_5 Ring2 None 5 ≡ true
unfolding opened parted
fits_wrongly = refl

-- ## A phase that is not later in the sequence comes before a crossing

abbrev pub want_any_first : List ℕ → Option ℕ → (ℕ → Bool) → Bool → Want
want_any_first places last candidate elsewhere =
    go_or (first candidate (later last places))
    (go_or (first candidate (not_later last places))
    (if elsewhere then Cross else Rest))

barrier_first : want_within (1 ∷ 2 ∷ []) (Some 2) (those (1 ∷ [])) true ≡ Cross
barrier_first = refl

barrier_last : want_any_first (1 ∷ 2 ∷ []) (Some 2) (those (1 ∷ [])) true ≡ Go 1
barrier_last = refl

-- ## A ring wants to cross only for a phase that fits

abbrev pub is_fitting_elsewhere : Plan → State → Given → Ring → Bool
is_fitting_elsewhere plan s given r =
    some_passes (λ p. given.callable p && not (is_on_side plan s.side p) && fits plan s given r None p) (phases plan)

elsewhere : is_called_elsewhere quad resting called_3 ≡ true
unfolding opened
elsewhere = refl

-- none does while the other ring has a phase of this side in service
elsewhere_never : is_fitting_elsewhere quad resting called_3 Ring1 ≡ false
unfolding opened
elsewhere_never = refl

-- ## An idle ring that waits for red revert does not hold a crossing back

abbrev pub begins_unless_picked : Plan → State → Given → Bool
begins_unless_picked plan s given =
    is_none (pick plan s given Ring1) && is_none (pick plan s given Ring2) &&
    (wants_cross (want_of plan s given Ring1) || wants_cross (want_of plan s given Ring2))

-- 2 is ready and its ring wants to cross for 3, ring 2 is idle and wants 6
abbrev pub waiting_6 : Given
waiting_6 = record called_3 {
  interval = showing (2 ∷ []) [] [];
  callable = those (3 ∷ 6 ∷ []);
  reverted = those (3 ∷ []);
}

abbrev pub after_5 : State
after_5 = record resting { last = both (Some 2) (Some 5) }

held_back : begins quad after_5 waiting_6 ≡ false
unfolding opened
held_back = refl

not_held_back : begins_unless_picked quad after_5 waiting_6 ≡ true
unfolding opened
not_held_back = refl

-- ## Dual entry is left out

abbrev pub entry_without_dual : Plan → Given → ℕ → Ring → Option ℕ
entry_without_dual plan given d Ring1 = called_in_ring_1 plan given d
entry_without_dual plan given d Ring2 = called_in_ring_2 plan given d

enters : entry quad resting called_3 Ring2 ≡ Some 8
unfolding opened
enters = refl

enters_not : entry_without_dual quad called_3 2 Ring2 ≡ None
unfolding opened
enters_not = refl

-- ## A phase enters that is omitted

abbrev pub entry_though_omitted : Plan → State → Given → Ring → Option ℕ
entry_though_omitted plan s given r = entry plan s (record given { omitted = λ p. false }) r

abbrev pub omitted_8 : Given
omitted_8 = record called_3 { omitted = those (8 ∷ []) }

omitted_not : entry quad resting omitted_8 Ring2 ≡ None
unfolding opened
omitted_not = refl

omitted_all_the_same : entry_though_omitted quad resting omitted_8 Ring2 ≡ Some 8
unfolding opened
omitted_all_the_same = refl

-- ## A crossing takes ring 2's first called phase, concurrent with ring 1's or not

abbrev pub first_called_in_ring_2 : Plan → Given → ℕ → Option ℕ
first_called_in_ring_2 plan given d = first (is_called_in plan given d Ring2) (given.sequence Ring2)

abbrev pub called_3_7_8 : Given
called_3_7_8 = record called_3 { callable = those (3 ∷ 7 ∷ 8 ∷ []) }

concurrent_called : called_in_ring_2 parted_3_7 called_3_7_8 2 ≡ Some 8
unfolding opened parted_3_7
concurrent_called = refl

first_called : first_called_in_ring_2 parted_3_7 called_3_7_8 2 ≡ Some 7
unfolding opened parted_3_7
first_called = refl

-- ## A preempt cancels a committed phase

abbrev pub committed_unless_preempted : Plan → State → Given → Ring → Option ℕ
committed_unless_preempted plan s given r = if is_some given.target then None else committed plan s given r

stays_committed : committed quad to_1 clearing_to_none Ring1 ≡ Some 1
unfolding opened
stays_committed = refl

cancelled : committed_unless_preempted quad to_1 clearing_to_none Ring1 ≡ None
unfolding opened
cancelled = refl

-- ## One ring crosses as soon as it has cleared

abbrev pub starting_once_cleared : State → Given → Option ℕ → Ring → Option ℕ
starting_once_cleared s given was r = if is_none_or_over given was then s.commitment r else None

-- 2 is over, and 6 is not
abbrev pub over_2 : Given
over_2 = record clearing { over = those (2 ∷ []) }

waits : starting quad under_way over_2 Ring1 ≡ None
unfolding opened
waits = refl

crosses_alone : starting_once_cleared under_way over_2 (serving quad over_2 Ring1) Ring1 ≡ Some 3
unfolding opened
crosses_alone = refl

-- ## In a crossing each ring starts once its own commitment may

abbrev pub starting_apart : Plan → State → Given → Ring → Option ℕ
starting_apart plan s given r = if may_start plan given r (s.commitment r) then s.commitment r else None

-- both are over, and 8 waits for its red revert
abbrev pub reverting_8 : Given
reverting_8 = record clearing { over = those (2 ∷ 6 ∷ []); reverted = those (3 ∷ []) }

starts_together : starting quad under_way reverting_8 Ring1 ≡ None
unfolding opened
starts_together = refl

starts_apart : starting_apart quad under_way reverting_8 Ring1 ≡ Some 3
unfolding opened
starts_apart = refl

-- ## A phase starts without a look at its red revert

abbrev pub starting_as_wanted : Plan → State → Given → Ring → Option ℕ
starting_as_wanted plan s given r = idle_pick (serving plan given r) (wanted (want_of plan s given r))

abbrev pub reverting_2 : Given
reverting_2 = record calm { callable = those (2 ∷ []); reverted = λ p. false }

reverts : starting quad power_up reverting_2 Ring1 ≡ None
unfolding opened
reverts = refl

reverts_not : starting_as_wanted quad power_up reverting_2 Ring1 ≡ Some 2
unfolding opened
reverts_not = refl

-- ## A phase that is over clears by the commitment that was

abbrev pub clears_by_what_was : Plan → State → Given → Ring → ℕ → Bool
clears_by_what_was plan s given r p = given.over p && (is_none (s.commitment r) || is_some (starting plan s given r))

-- 2 is over in the tick in which a crossing begins
stays : clears quad resting over_to_none 2 ≡ false
unfolding opened
stays = refl

clears_at_once : clears_by_what_was quad resting over_to_none Ring1 2 ≡ true
unfolding opened
clears_at_once = refl

-- ## In a crossing a ring without a commitment clears only when it is completed

abbrev pub clears_when_completed : Plan → State → Given → ℕ → Bool
clears_when_completed plan s given p =
    if is_some s.crossing then given.over p && completes plan s given else clears plan s given p

-- ring 2 has no commitment in the crossing, and its 6 is over
abbrev pub over_6 : Given
over_6 = record clearing { over = those (6 ∷ []) }

clears_as_over : clears quad to_3_alone over_6 6 ≡ true
unfolding opened
clears_as_over = refl

clears_late : clears_when_completed quad to_3_alone over_6 6 ≡ false
unfolding opened
clears_late = refl

-- ## A ring keeps its last phase in a crossing for which it has no commitment

abbrev pub last_kept : Plan → State → Given → Ring → Option ℕ
last_kept plan s given r = or_else (starting plan s given r) (s.last r)

last_is_none : new_last quad to_3_alone both_over Ring2 ≡ None
unfolding opened
last_is_none = refl

last_is_kept : last_kept quad to_3_alone both_over Ring2 ≡ Some 6
unfolding opened
last_is_kept = refl
