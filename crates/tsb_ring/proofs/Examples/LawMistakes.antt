-- What mistakes in the rings' definitions do to their laws: for each mistake a law that it makes false, by computing.
use Rattle.std.specs.Prelude.{◌≡◌, ℕ, true, false, Option, Some, None, refl}
use Rattle.tsb_types.specs.Intervals.{in_service}
use Rattle.tsb_objects.specs.tsb_plan.Plan.{Plan, is_concurrent}
use Rattle.tsb_objects.specs.tsb_plan.Quad.{quad}
use Rattle.tsb_ring.specs.declared.ring_order.RingOrder.{RingOrder}
use Rattle.tsb_ring.specs.declared.ring_order.RingOrder.TheVariants.{Ring1First, Ring2First}
use Rattle.tsb_ring.specs.Rings.{Ring, Ring1, Ring2, State, power_up, Given, serving}
use Rattle.tsb_ring.specs.Wants.{want, taken, pick}
use Rattle.tsb_ring.specs.Next.{starting}
use Rattle.tsb_ring.proofs.Examples.Scenes.{opened, parted}
use Rattle.tsb_ring.proofs.Examples.TargetExamples.{clearing_to_none, to_1}
use Rattle.tsb_ring.proofs.Examples.Mistakes.{want_without_pick, called_1_5, over_2}

-- ## Ring 2 decides without ring 1's pick: rings would not stay sound

-- from idle rings, which are sound, ring 1 starts 1 and ring 2 would start 5
picked_1 : pick parted power_up called_1_5 Ring1 ≡ Some 1
unfolding opened parted
picked_1 = refl

would_pick_5 : taken called_1_5 (serving parted called_1_5 Ring2) (want_without_pick parted power_up called_1_5 Ring2) ≡ Some 5
unfolding opened parted
would_pick_5 = refl

-- and both would serve, which are not concurrent
apart_1_5 : is_concurrent parted 1 5 ≡ false
unfolding opened parted
apart_1_5 = refl

-- ## One ring crosses as soon as it has cleared: a start would not wait

-- ring 1 would start 3, as `crosses_alone` of the mistakes says, while 6 is in service, not concurrent with it and not
-- over
still_serves_6 : in_service (over_2.interval 6) ≡ true
unfolding opened
still_serves_6 = refl

apart_3_6 : is_concurrent quad 3 6 ≡ false
unfolding opened
apart_3_6 = refl

not_over_6 : over_2.over 6 ≡ false
unfolding opened
not_over_6 = refl

-- ## A preempt cancels a committed phase: a commitment would not stand

-- 1 is committed to and does not start, and the commitment would be gone, as `cancelled` of the mistakes says
committed_to_1 : to_1.commitment Ring1 ≡ Some 1
unfolding opened
committed_to_1 = refl

starts_not : starting quad to_1 clearing_to_none Ring1 ≡ None
unfolding opened
starts_not = refl

-- ## Each ring decides as it acts: their order would make a difference

-- the ring that acts first is asked first, and the other has to fit what that one picks
abbrev pick_of : Plan → State → Given → Ring → Option ℕ → Option ℕ
pick_of plan s given r picked = taken given (serving plan given r) (want plan s given r picked)

abbrev pick_in_turn : RingOrder → Plan → State → Given → Ring → Option ℕ
pick_in_turn Ring1First plan s given Ring1 = pick_of plan s given Ring1 None
pick_in_turn Ring1First plan s given Ring2 = pick_of plan s given Ring2 (pick_of plan s given Ring1 None)
pick_in_turn Ring2First plan s given Ring1 = pick_of plan s given Ring1 (pick_of plan s given Ring2 None)
pick_in_turn Ring2First plan s given Ring2 = pick_of plan s given Ring2 None

first_takes_1 : pick_in_turn Ring1First parted power_up called_1_5 Ring1 ≡ Some 1
unfolding opened parted
first_takes_1 = refl

second_takes_none : pick_in_turn Ring2First parted power_up called_1_5 Ring1 ≡ None
unfolding opened parted
second_takes_none = refl
