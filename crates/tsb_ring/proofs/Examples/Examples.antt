-- What the definitions give on one side, by computing: starts, commitments, and which phase comes next.
use Rattle.std.specs.Prelude.{◌≡◌, false, [], ◌∷◌, Some, None, refl}
use Rattle.tsb_objects.specs.tsb_plan.Quad.{quad}
use Rattle.tsb_ring.specs.Rings.{power_up}
use Rattle.tsb_ring.specs.Moves.{moves}
use Rattle.tsb_ring.proofs.Examples.Scenes.{opened, those, both, showing, calm, still, moving, resting, greens, parted}

-- ## Starts

-- calls on 2 and 6 at power-up: both start at the first tick, ring 2's because 6 is concurrent with ring 1's pick
first_tick : moves quad power_up (record calm { callable = those (2 ∷ 6 ∷ []) })
    ≡ moving (record still { starts = Some 2 }) (record still { starts = Some 6 })
unfolding opened
first_tick = refl

-- the first callable phase by the sequence, as no phase was last
in_sequence : moves quad power_up (record calm { callable = those (1 ∷ 2 ∷ []) })
    ≡ moving (record still { starts = Some 1 }) still
unfolding opened
in_sequence = refl

-- an idle ring waits for the red revert of the phase that it wants
waits_for_red_revert : moves quad power_up (record calm { callable = those (2 ∷ 6 ∷ []); reverted = those (6 ∷ []) })
    ≡ moving still (record still { starts = Some 6 })
unfolding opened
waits_for_red_revert = refl

-- without the pair 1 and 5, two idle rings with calls on both start 1 alone
one_alone : moves parted power_up (record calm { callable = those (1 ∷ 5 ∷ []) })
    ≡ moving (record still { starts = Some 1 }) still
unfolding opened parted
one_alone = refl

-- but not while the red revert of 1 runs: ring 1 picks nothing then, so 5 starts, and 1 no longer fits
no_pick_untaken : moves parted power_up (record calm { callable = those (1 ∷ 5 ∷ []); reverted = those (5 ∷ []) })
    ≡ moving still (record still { starts = Some 5 })
unfolding opened parted
no_pick_untaken = refl

-- ## On one side

-- 2 is ready and 1 is called: 2 goes Yellow, and the ring commits to 1
commits : moves quad resting (record greens { callable = those (1 ∷ []); ready = those (2 ∷ []) })
    ≡ moving (record still { ends = Some 2; commits = Some 1 }) still
unfolding opened
commits = refl

-- in Yellow and RedClear nothing moves, whatever is called
stands : moves quad (record resting { commitment = both (Some 1) None })
    (record calm { interval = showing (6 ∷ []) [] (2 ∷ []); callable = those (3 ∷ []) })
    ≡ moving still still
unfolding opened
stands = refl

-- 2 is over: it clears, and 1 starts in the same tick
follows : moves quad (record resting { commitment = both (Some 1) None })
    (record calm { interval = showing (6 ∷ []) [] (2 ∷ []); over = those (2 ∷ []) })
    ≡ moving (record still { clears = Some 2; starts = Some 1 }) still
unfolding opened
follows = refl

-- but not before the red revert of 1, and 2 stays in RedClear until then
follows_later : moves quad (record resting { commitment = both (Some 1) None })
    (record calm { interval = showing (6 ∷ []) [] (2 ∷ []); over = those (2 ∷ []); reverted = λ p. false })
    ≡ moving still still
unfolding opened
follows_later = refl

-- after 1, the phase 2 that is later in the sequence comes before a crossing
later_first : moves quad (record power_up { last = both (Some 1) (Some 6) })
    (record calm { interval = showing (1 ∷ 6 ∷ []) [] []; callable = those (2 ∷ 3 ∷ []); ready = those (1 ∷ 6 ∷ []) })
    ≡ moving (record still { ends = Some 1; commits = Some 2 }) still
unfolding opened
later_first = refl
