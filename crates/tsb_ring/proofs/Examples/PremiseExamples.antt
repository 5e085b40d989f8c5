-- Why the safety of the rings has its premises: what happens without each, by computing.
use Rattle.std.specs.Prelude.{◌≡◌, ℕ, true, false, [], ◌∷◌, Some, None, refl}
use Rattle.tsb_types.specs.declared.flow.Moves.{Moves}
use Rattle.tsb_objects.specs.tsb_plan.declared.object.Object.TheVariants.{PhaseConcurrency}
use Rattle.tsb_objects.specs.tsb_plan.Plan.{Plan, with_values}
use Rattle.tsb_objects.specs.tsb_plan.Quad.{quad}
use Rattle.tsb_ring.specs.Rings.{State, power_up}
use Rattle.tsb_ring.specs.Moves.{moves}
use Rattle.tsb_ring.proofs.Examples.Scenes.{opened, those, both, calm, still, moving, parted, parted_3_7}

-- from all red, rings that are crossing to side 2 for these phases, and the tick that completes it
abbrev pub crossing_to : ℕ → ℕ → State
crossing_to p q = record power_up { commitment = both (Some p) (Some q); crossing = Some 2 }

abbrev pub both_taken : ℕ → ℕ → Moves
both_taken p q = record {
  first = record still { commits = Some p };
  second = record still { commits = Some q };
  crossing = Some 2;
  completes = false;
}

abbrev pub both_started : ℕ → ℕ → Moves
both_started p q = record {
  first = record still { starts = Some p };
  second = record still { starts = Some q };
  crossing = None;
  completes = true;
}

-- ## A target that is not pairwise concurrent

-- 3 and 7 are not concurrent, and a preempt wants both: on another side the crossing takes both
takes_both : moves parted_3_7 power_up (record calm { target = Some (those (3 ∷ 7 ∷ [])) }) ≡ both_taken 3 7
unfolding opened parted_3_7
takes_both = refl

starts_both : moves parted_3_7 (crossing_to 3 7) calm ≡ both_started 3 7
unfolding opened parted_3_7
starts_both = refl

-- on this side 5 does not fit ring 1's pick
kept_5 : moves parted power_up (record calm { target = Some (those (1 ∷ 5 ∷ [])) })
    ≡ moving (record still { starts = Some 1 }) still
unfolding opened parted
kept_5 = refl

-- ## Concurrency that is not symmetric

-- 5 names 1, and 1 does not name 5: ring 2 finds that 5 fits
unfoldable pub one_way : Plan
one_way = with_values quad ((PhaseConcurrency, 1, 32) ∷ [])

both_start : moves one_way power_up (record calm { callable = those (1 ∷ 5 ∷ []) })
    ≡ moving (record still { starts = Some 1 }) (record still { starts = Some 5 })
unfolding opened one_way
both_start = refl

-- ## A structural commit while a crossing stands, with all phases Red

-- 3 and 8 are taken under the plan
taken_3_8 : moves quad power_up (record calm { callable = those (3 ∷ 8 ∷ []) }) ≡ both_taken 3 8
unfolding opened
taken_3_8 = refl

-- and start under another that parts them
unfoldable pub parted_3_8 : Plan
parted_3_8 = with_values quad ((PhaseConcurrency, 3, 64) ∷ (PhaseConcurrency, 8, 8) ∷ [])

start_parted : moves parted_3_8 (crossing_to 3 8) calm ≡ both_started 3 8
unfolding opened parted_3_8
start_parted = refl
