-- What the definitions give under a preempt, in a crossing that only one ring has a phase for, and with four sides, by
-- computing. A preempt's target is the list of phases that it wants served.
use Rattle.std.specs.Prelude.{◌≡◌, ℕ, false, List, [], ◌∷◌, Some, None, refl}
use Rattle.tsb_objects.specs.tsb_plan.declared.object.Object.TheVariants.{PhaseEnabled, PhaseRing, PhaseSide, SequenceData}
use Rattle.tsb_objects.specs.tsb_plan.Plan.{Plan, empty, with_values, sequence}
use Rattle.tsb_objects.specs.tsb_plan.Quad.{quad}
use Rattle.tsb_ring.specs.declared.want.Want.TheVariants.{Go, Cross, Rest, Stop}
use Rattle.tsb_ring.specs.Rings.{Ring1, Ring2, number, State, power_up, Given}
use Rattle.tsb_ring.specs.Wants.{want_of}
use Rattle.tsb_ring.specs.Crossings.{target_side}
use Rattle.tsb_ring.specs.Next.{next}
use Rattle.tsb_ring.specs.Moves.{moves}
use Rattle.tsb_ring.proofs.Examples.Scenes.{opened, those, both, showing, calm, still, moving, resting, greens, clearing, parted}

-- a preempt that wants these phases, with 2 and 6 Green and ready
abbrev pub wanting : List ℕ → Given
wanting ps = record greens { ready = those (2 ∷ 6 ∷ []); target = Some (those ps) }

-- ## Wants

-- the ring serves a phase of the target: it rests, whatever is called
rests : want_of quad resting (record (wanting (2 ∷ 6 ∷ [])) { callable = those (1 ∷ 3 ∷ []) }) Ring1 ≡ Some Rest
unfolding opened
rests = refl

-- the ring's phase of the target is on this side, though nothing calls it
goes : want_of quad resting (wanting (1 ∷ 6 ∷ [])) Ring1 ≡ Some (Go 1)
unfolding opened
goes = refl

-- the target is on the other side
crosses : want_of quad resting (wanting (3 ∷ 8 ∷ [])) Ring1 ≡ Some Cross
unfolding opened
crosses = refl

-- the ring has no phase that it could serve, as the target has none of the ring: its green ends, with nothing to follow
stops : want_of quad resting (wanting (6 ∷ [])) Ring1 ≡ Some Stop
unfolding opened
stops = refl

ends_with_nothing_to_follow : moves quad resting (wanting (6 ∷ [])) ≡ moving (record still { ends = Some 2 }) still
unfolding opened
ends_with_nothing_to_follow = refl

-- or as none fits: without the pair 1 and 5, with 2 and 5 Green, the target's 1 does not fit while ring 2 serves 5
stops_where_none_fits : want_of parted (record power_up { last = both (Some 2) (Some 5) }) (record calm {
  interval = showing (2 ∷ 5 ∷ []) [] [];
  ready = those (2 ∷ 5 ∷ []);
  target = Some (those (1 ∷ 6 ∷ []));
}) Ring1
    ≡ Some Stop
unfolding opened parted
stops_where_none_fits = refl

-- a phase that is not enabled counts as not there, and with no other each ring stops
unfoldable pub without_5 : Plan
without_5 = with_values quad ((PhaseEnabled, 5, 0) ∷ [])

not_enabled : moves without_5 resting (wanting (5 ∷ []))
    ≡ moving (record still { ends = Some 2 }) (record still { ends = Some 6 })
unfolding opened without_5
not_enabled = refl

-- ## Crossings

-- to a target on the other side both rings cross at once
to_target : moves quad resting (wanting (4 ∷ 7 ∷ [])) ≡ record {
  first = record still { ends = Some 2; commits = Some 4 };
  second = record still { ends = Some 6; commits = Some 7 };
  crossing = Some 2;
  completes = false;
}
unfolding opened
to_target = refl

-- there is no dual entry under a preempt: a ring without a phase of the target commits to none
without_dual_entry : moves quad resting (wanting (3 ∷ [])) ≡ record {
  first = record still { ends = Some 2; commits = Some 3 };
  second = record still { ends = Some 6 };
  crossing = Some 2;
  completes = false;
}
unfolding opened
without_dual_entry = refl

abbrev pub to_3_alone : State
to_3_alone = record { last = both (Some 2) (Some 6); commitment = both (Some 3) None; side = 1; crossing = Some 2 }

-- meanwhile that ring does not wait at the barrier: it goes Red as soon as it is over
clears_to_none : moves quad to_3_alone (record clearing { over = those (6 ∷ []) })
    ≡ moving still (record still { clears = Some 6 })
unfolding opened
clears_to_none = refl

-- and when that crossing is completed, the ring has no last phase
abbrev pub both_over : Given
both_over = record calm { interval = showing [] [] (2 ∷ 6 ∷ []); over = those (2 ∷ 6 ∷ []) }

last_of_ring_1 : (next quad to_3_alone both_over).last Ring1 ≡ Some 3
unfolding opened
last_of_ring_1 = refl

no_last_of_ring_2 : (next quad to_3_alone both_over).last Ring2 ≡ None
unfolding opened
no_last_of_ring_2 = refl

-- a crossing may begin while a ring is clearing to none
abbrev pub clearing_to_none : Given
clearing_to_none = record calm {
  interval = showing (6 ∷ []) (2 ∷ []) [];
  ready = those (6 ∷ []);
  target = Some (those (3 ∷ 8 ∷ []));
}

begins_meanwhile : moves quad resting clearing_to_none ≡ record {
  first = record still { commits = Some 3 };
  second = record still { ends = Some 6; commits = Some 8 };
  crossing = Some 2;
  completes = false;
}
unfolding opened
begins_meanwhile = refl

-- the commitment counts in the very tick: the phase that is over then does not clear, and stays in RedClear
abbrev pub over_to_none : Given
over_to_none = record clearing_to_none { interval = showing (6 ∷ []) [] (2 ∷ []); over = those (2 ∷ []) }

over_meanwhile : (moves quad resting over_to_none).first ≡ record still { commits = Some 3 }
unfolding opened
over_meanwhile = refl

-- without a crossing it clears, and its ring is idle
over_alone : moves quad resting (record over_to_none { target = Some (those (6 ∷ [])) })
    ≡ moving (record still { clears = Some 2 }) still
unfolding opened
over_alone = refl

-- ## Commitments

-- ring 1 is committed to 1 when a preempt wants 3 and 8: no crossing begins, and 1 starts once 2 is over
abbrev pub to_1 : State
to_1 = record resting { commitment = both (Some 1) None }

not_withdrawn : moves quad to_1 clearing_to_none ≡ moving still still
unfolding opened
not_withdrawn = refl

starts_all_the_same : moves quad to_1 over_to_none
    ≡ moving (record still { clears = Some 2; starts = Some 1 }) still
unfolding opened
starts_all_the_same = refl

-- ## Four sides

-- one ring, with phases 2, 4, 10 and 12 on sides 1 to 4
unfoldable pub four : Plan
four = with_values empty (
    (PhaseEnabled, 2, 1) ∷ (PhaseEnabled, 4, 1) ∷ (PhaseEnabled, 10, 1) ∷ (PhaseEnabled, 12, 1) ∷
    (PhaseRing, 2, 1) ∷ (PhaseRing, 4, 1) ∷ (PhaseRing, 10, 1) ∷ (PhaseRing, 12, 1) ∷
    (PhaseSide, 2, 1) ∷ (PhaseSide, 4, 2) ∷ (PhaseSide, 10, 3) ∷ (PhaseSide, 12, 4) ∷
    (SequenceData, 1, 2) ∷ (SequenceData, 2, 4) ∷ (SequenceData, 3, 10) ∷ (SequenceData, 4, 12) ∷ [])

abbrev pub calm_four : Given
calm_four = record calm { sequence = λ r. sequence four 1 (number r) }

-- the next side is the first one after the present that is called, 1 coming after 4
abbrev pub from_side : ℕ → List ℕ → ℕ
from_side d called = target_side four (record power_up { side = d }) (record calm_four { callable = those called })

skips_side_3 : from_side 2 (2 ∷ 12 ∷ []) ≡ 4
unfolding opened four
skips_side_3 = refl

goes_round : from_side 3 (2 ∷ 4 ∷ []) ≡ 1
unfolding opened four
goes_round = refl

goes_round_from_4 : from_side 4 (4 ∷ 10 ∷ []) ≡ 2
unfolding opened four
goes_round_from_4 = refl

-- a crossing with one ring alone, from a green on side 4
crosses_alone : moves four (record power_up { last = both (Some 12) None; side = 4 }) (record calm_four {
  interval = showing (12 ∷ []) [] [];
  callable = those (2 ∷ 10 ∷ []);
  ready = those (12 ∷ []);
})
    ≡ record {
      first = record still { ends = Some 12; commits = Some 2 };
      second = still;
      crossing = Some 1;
      completes = false;
    }
unfolding opened four
crosses_alone = refl
