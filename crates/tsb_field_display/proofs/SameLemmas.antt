-- What shows the same is the same.
use Rattle.std.proofs.Common.{◌≡◌, ℕ, nat_eq, true, Option, Some, None, refl, ap}
use Rattle.std.proofs.lemmas.Bool.{and_parts, eqb-true}
use Rattle.std.specs.Option.{option_eq}
use Rattle.tsb_types.proofs.SetLemmas.{same-set}
use Rattle.tsb_field_display.specs.declared.shown.VehicleHeads.{VehicleHeads}
use Rattle.tsb_field_display.specs.declared.shown.PedestrianHeads.{PedestrianHeads}
use Rattle.tsb_field_display.specs.declared.shown.Signals.{Signals}
use Rattle.tsb_field_display.specs.Shows.{are_same_vehicles, are_same_pedestrians, is_same}

same-vehicles : (s t : VehicleHeads) → are_same_vehicles s t ≡ true → s ≡ t
same-vehicles s t e =
    let a = and_parts _ _ e in
    let b = and_parts _ _ a.1 in
    let d = and_parts _ _ b.1 in
    let greens = same-set s.greens t.greens a.0 in
    let yellows = same-set s.yellows t.yellows b.0 in
    let reds = same-set s.reds t.reds d.0 in
    let f = and_parts _ _ d.1 in
    let flashing = same-set s.flashing t.flashing f.0 in
    let arrows = same-set s.arrows t.arrows f.1 in
    λ i. record { greens = greens i; yellows = yellows i; reds = reds i; flashing = flashing i; arrows = arrows i }

same-pedestrians : (s t : PedestrianHeads) → are_same_pedestrians s t ≡ true → s ≡ t
same-pedestrians s t e =
    let a = and_parts _ _ e in
    let b = and_parts _ _ a.1 in
    let walks = same-set s.walks t.walks a.0 in
    let clearances = same-set s.clearances t.clearances b.0 in
    let dont_walks = same-set s.dont_walks t.dont_walks b.1 in
    λ i. record { walks = walks i; clearances = clearances i; dont_walks = dont_walks i }

same-preempt : (s t : Option ℕ) → option_eq nat_eq s t ≡ true → s ≡ t
same-preempt None None e = refl
same-preempt None (Some n) e = cc
same-preempt (Some m) None e = cc
same-preempt (Some m) (Some n) e = ap Some (eqb-true m n e)

pub same-signals : (s t : Signals) → is_same s t ≡ true → s ≡ t
unfolding is_same
same-signals s t e =
    let a = and_parts _ _ e in
    let b = and_parts _ _ a.1 in
    let d = and_parts _ _ b.1 in
    let vehicles = same-vehicles s.vehicles t.vehicles a.0 in
    let pedestrians = same-pedestrians s.pedestrians t.pedestrians b.0 in
    let overlaps = same-vehicles s.overlaps t.overlaps d.0 in
    let preempt = same-preempt s.preempt t.preempt d.1 in
    λ i. record { vehicles = vehicles i; pedestrians = pedestrians i; overlaps = overlaps i; preempt = preempt i }
