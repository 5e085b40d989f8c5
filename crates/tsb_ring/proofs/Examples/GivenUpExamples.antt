-- What rings give up for a target, and what they keep, by computing; and a mistake that the law refuses. Ring 1 is committed
-- to 3 and ring 2 to 8, over the barrier, while 2 and 6 clear.
use Rattle.std.specs.Prelude.{◌≡◌, ℕ, Bool, if◌then◌else◌, [], ◌∷◌, Option, Some, None, refl}
use Rattle.tsb_objects.specs.tsb_plan.Quad.{quad}
use Rattle.tsb_ring.specs.Rings.{Ring1, Ring2, State, power_up}
use Rattle.tsb_ring.specs.GivenUp.{strays, given_up}
use Rattle.tsb_ring.specs.Moves.{moves}
use Rattle.tsb_ring.proofs.Examples.Scenes.{opened, those, both, still, moving, under_way, clearing}

-- ## A crossing to phases that the target has not: 4 and 7 are wanted

abbrev pub wants_4_and_7 : State
wants_4_and_7 = given_up quad (Some (those (4 ∷ 7 ∷ []))) under_way

gives_3_up : wants_4_and_7.commitment Ring1 ≡ None
unfolding opened given_up
gives_3_up = refl

gives_8_up : wants_4_and_7.commitment Ring2 ≡ None
unfolding opened given_up
gives_8_up = refl

ends_the_crossing : wants_4_and_7.crossing ≡ None
unfolding opened given_up
ends_the_crossing = refl

stays_on_side_1 : wants_4_and_7.side ≡ 1
unfolding opened given_up
stays_on_side_1 = refl

last_is_2 : wants_4_and_7.last Ring1 ≡ Some 2
unfolding opened given_up
last_is_2 = refl

-- as soon as they are over, both phases are Red
clears_both : moves quad wants_4_and_7 (record clearing { over = those (2 ∷ 6 ∷ []); target = Some (those (4 ∷ 7 ∷ [])) })
    ≡ moving (record still { clears = Some 2 }) (record still { clears = Some 6 })
unfolding opened given_up
clears_both = refl

-- ## What stays

-- where both are wanted, and where no preempt is in service
stays : given_up quad (Some (those (3 ∷ 8 ∷ []))) under_way ≡ under_way
unfolding opened given_up
stays = refl

stays_without : given_up quad None under_way ≡ under_way
unfolding given_up
stays_without = refl

-- on one side each ring has its own: 1 is wanted, and 5 is not
abbrev pub to_1_and_5 : State
to_1_and_5 = record power_up { last = both (Some 2) (Some 6); commitment = both (Some 1) (Some 5) }

keeps_1 : (given_up quad (Some (those (1 ∷ 6 ∷ []))) to_1_and_5).commitment Ring1 ≡ Some 1
unfolding opened given_up
keeps_1 = refl

gives_5_up : (given_up quad (Some (those (1 ∷ 6 ∷ []))) to_1_and_5).commitment Ring2 ≡ None
unfolding opened given_up
gives_5_up = refl

-- ## A ring of a crossing that keeps a commitment to a phase of the target: 3 and 7 are wanted

gives_3_up_too : (given_up quad (Some (those (3 ∷ 7 ∷ []))) under_way).commitment Ring1 ≡ None
unfolding opened given_up
gives_3_up_too = refl

abbrev pub keeps_its_own : (ℕ → Bool) → Option ℕ → Option ℕ
keeps_its_own test c = if strays test c then None else c

would_keep_3 : keeps_its_own (those (3 ∷ 7 ∷ [])) (under_way.commitment Ring1) ≡ Some 3
would_keep_3 = refl
