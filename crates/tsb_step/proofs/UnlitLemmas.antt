-- The monitor need not judge a tick while no lamp is lit: it finds nothing, whatever is at the desk.
use Rattle.std.proofs.Common.{◌≡◌, ◌∙◌, ◌+◌, Bool, true, false, if◌then◌else◌, Option, None, is_some, option_map, sym, ap}
use Rattle.std.proofs.lemmas.Bool.{true≢false}
use Rattle.tsb_types.specs.declared.row.Row.{Row}
use Rattle.tsb_transact.specs.Desk.{Desk}
use Rattle.tsb_heads.specs.declared.monitor.Trip.{Trip}
use Rattle.tsb_heads.specs.Monitoring.{judge}
use Rattle.tsb_step.specs.Backed.{IsGoodInAll}
use Rattle.tsb_step.specs.Signs.{field, watched}
use Rattle.tsb_step.specs.State.{State, Tripped}
use Rattle.tsb_step.specs.Step.{ticked}
use Rattle.tsb_step.specs.Tick.{next, new_service, new_detectors, phases_given, held, rings_given, moves, gives_up, new_rings}
use Rattle.tsb_step.proofs.TripLemmas.{judged_none}

-- no head knows what is at the desk
judged_beside : (s : State) (row : Row) (d : Desk) → IsGoodInAll (record s { desk = d }) → s.lamp ≡ None → s.trip ≡ None → judge s.plan (field s) (field (next s row)) ≡ None
unfolding field new_service new_detectors phases_given held rings_given moves gives_up new_rings
judged_beside s row d all dark calm = judged_none (record s { desk = d }) row all.good all.backed dark calm

found-none : (s : State) (row : Row) (d : Desk) → IsGoodInAll (record s { desk = d }) → s.lamp ≡ None → s.trip ≡ None → watched s (next s row) ≡ next s row
unfolding watched
found-none s row d all dark calm =
    ap (λ (found : Option Tripped). record (next s row) { trip = found })
    (ap (option_map (λ (cause : Trip). record { cause = cause; tick = (next s row).now })) (judged_beside s row d all dark calm) ∙ sym calm)

-- so such a tick is the next state as it is
pub unlit_tick : (s : State) (row : Row) (d : Desk) → IsGoodInAll (record s { desk = d }) → s.lamp ≡ None → s.trip ≡ None → ticked row s ≡ next s row
unlit_tick s row d all dark calm = go (is_some s.trip) (ap (λ (t : Option Tripped). is_some t) calm)
  where
    go : (b : Bool) → b ≡ false → (if b then record s { now = s.now + 1 } else (if b then next s row else watched s (next s row))) ≡ next s row
    go true h = absurd (true≢false h)
    go false h = found-none s row d all dark calm
