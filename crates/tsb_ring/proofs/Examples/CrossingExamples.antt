-- What the definitions give in crossings of the barrier, by computing.
use Rattle.std.specs.Prelude.{◌≡◌, true, false, [], ◌∷◌, Some, None, refl}
use Rattle.tsb_types.specs.declared.interval.Interval.TheVariants.{Red, Green, Yellow, RedClear}
use Rattle.tsb_objects.specs.tsb_plan.Quad.{quad}
use Rattle.tsb_ring.specs.Rings.{Ring2, power_up, Given}
use Rattle.tsb_ring.specs.Next.{next}
use Rattle.tsb_ring.specs.Moves.{moves, interval_after}
use Rattle.tsb_ring.proofs.Examples.Scenes.{opened, those, both, showing, calm, still, moving, resting, called_3, under_way, clearing, parted_3_7}

-- ## From one side to the other

-- a call on 3 with both rings ready: the crossing takes 3, and 8 by dual entry
crossing_begins : moves quad resting called_3 ≡ record {
  first = record still { ends = Some 2; commits = Some 3 };
  second = record still { ends = Some 6; commits = Some 8 };
  crossing = Some 2;
  completes = false;
}
unfolding opened
crossing_begins = refl

-- dual entry is of ring 1 as well: a call on 7 takes 4 beside it
ring_1_enters : moves quad resting (record called_3 { callable = those (7 ∷ []) }) ≡ record {
  first = record still { ends = Some 2; commits = Some 4 };
  second = record still { ends = Some 6; commits = Some 7 };
  crossing = Some 2;
  completes = false;
}
unfolding opened
ring_1_enters = refl

-- a phase that is omitted does not enter
omitted_enters_not : moves quad resting (record called_3 { omitted = those (8 ∷ []) }) ≡ record {
  first = record still { ends = Some 2; commits = Some 3 };
  second = record still { ends = Some 6 };
  crossing = Some 2;
  completes = false;
}
unfolding opened
omitted_enters_not = refl

-- without the pair 3 and 7, calls on 3, 7 and 8 take 3 and 8: ring 2's is the first that is concurrent with ring 1's
first_concurrent : moves parted_3_7 resting (record called_3 { callable = those (3 ∷ 7 ∷ 8 ∷ []) }) ≡ record {
  first = record still { ends = Some 2; commits = Some 3 };
  second = record still { ends = Some 6; commits = Some 8 };
  crossing = Some 2;
  completes = false;
}
unfolding opened parted_3_7
first_concurrent = refl

-- a call on 1 beside the one on 3 changes nothing: 1 is not later than 2 in the sequence, so the crossing comes first
not_later : moves quad resting (record called_3 { callable = those (1 ∷ 3 ∷ []) }) ≡ moves quad resting called_3
unfolding opened
not_later = refl

-- while ring 2 is not ready, ring 1 waits in Green
waits_in_green : moves quad resting (record called_3 { ready = those (2 ∷ []) }) ≡ moving still still
unfolding opened
waits_in_green = refl

-- while a crossing is under way ring 1 has cleared, and waits for ring 2
waits_at_barrier : moves quad under_way (record clearing { over = those (2 ∷ []) }) ≡ moving still still
unfolding opened
waits_at_barrier = refl

-- both are over: 3 and 8 start in one tick, and the side changes
abbrev pub cleared : Given
cleared = record clearing { over = those (2 ∷ 6 ∷ []) }

arrives : moves quad under_way cleared ≡ record {
  first = record still { clears = Some 2; starts = Some 3 };
  second = record still { clears = Some 6; starts = Some 8 };
  crossing = None;
  completes = true;
}
unfolding opened
arrives = refl

arrived_side : (next quad under_way cleared).side ≡ 2
unfolding opened
arrived_side = refl

arrived_crossing : (next quad under_way cleared).crossing ≡ None
unfolding opened
arrived_crossing = refl

arrived_last : (next quad under_way cleared).last Ring2 ≡ Some 8
unfolding opened
arrived_last = refl

arrived_commitment : (next quad under_way cleared).commitment Ring2 ≡ None
unfolding opened
arrived_commitment = refl

-- from all red a crossing begins in one tick and is completed in a later one
from_all_red : moves quad power_up (record calm { callable = those (3 ∷ []) }) ≡ record {
  first = record still { commits = Some 3 };
  second = record still { commits = Some 8 };
  crossing = Some 2;
  completes = false;
}
unfolding opened
from_all_red = refl

-- an idle ring that wants a phase holds a crossing back, also while that phase waits for its red revert
holds_back : moves quad (record resting { last = both (Some 2) (Some 5) }) (record called_3 {
  interval = showing (2 ∷ []) [] [];
  callable = those (3 ∷ 6 ∷ []);
  reverted = those (3 ∷ []);
})
    ≡ moving still still
unfolding opened
holds_back = refl

-- ## The intervals after moves

-- as the crossing begins, 2 and 6 go Yellow
goes_yellow : interval_after (moves quad resting called_3) (λ p. false) called_3.interval 2 ≡ Yellow
unfolding opened
goes_yellow = refl

-- yellow that is done goes RedClear, and stays there at the barrier
abbrev pub in_yellow : Given
in_yellow = record calm { interval = showing [] (2 ∷ 6 ∷ []) [] }

goes_red_clear : interval_after (moves quad under_way in_yellow) (those (2 ∷ [])) in_yellow.interval 2 ≡ RedClear
unfolding opened
goes_red_clear = refl

-- as the crossing is completed, 2 goes Red and 3 Green
goes_red : interval_after (moves quad under_way cleared) (λ p. false) cleared.interval 2 ≡ Red
unfolding opened
goes_red = refl

goes_green : interval_after (moves quad under_way cleared) (λ p. false) cleared.interval 3 ≡ Green
unfolding opened
goes_green = refl
