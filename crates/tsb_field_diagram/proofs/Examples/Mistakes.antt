-- The bars of a band in a line, computed, and one-line mistakes, each with the part of the laws that refuses it.
use Rattle.std.proofs.Common.{◌≡◌, ℕ, ◌-◌, List, [], ◌∷◌, map, filter, nat_le, refl, arith}
use Rattle.tsb_field_diagram.specs.declared.band.BandMark.{BandMark}
use Rattle.tsb_field_diagram.specs.declared.band.BandMark.TheVariants.{Green, Red, Yellow}
use Rattle.tsb_field_diagram.specs.Bars.{Bar, bar, bars_of, bars_on, before_tick, from_tick, in_line}
use Rattle.tsb_field_diagram.specs.Laws.{Differ, Fill, Rises}

-- what a head shows from a tick on
pub record Change : Type 0 where
  pub tick : ℕ
  pub mark : BandMark

abbrev tick_of : Change → ℕ
tick_of change = change.tick

abbrev mark_of : Change → BandMark
mark_of change = change.mark

abbrev change : ℕ → BandMark → Change
change tick mark = record { tick = tick; mark = mark }

-- another head changes at tick 31, and this one stays green
abbrev changes : List Change
changes = change 1 Red ∷ change 11 Green ∷ change 31 Green ∷ change 41 Yellow ∷ []

-- a run as the laws ask for: ticks rise, and the line from tick 5 to before 51 is reached by the first change
rises : Rises tick_of changes
rises = (omega arith, (omega arith, (omega arith, (tt, tt))))

as_defined : bars_of tick_of mark_of 5 51 (in_line tick_of 5 51 changes) ≡ bar 5 11 Red ∷ bar 11 41 Green ∷ bar 41 51 Yellow ∷ []
unfolding bars_of bars_on before_tick from_tick
as_defined = refl

-- ## A bar for each change

abbrev bars_of_each : ℕ → List Change → List Bar
bars_of_each end [] = []
bars_of_each end (x ∷ []) = bar x.tick end x.mark ∷ []
bars_of_each end (x ∷ (y ∷ xs)) = bar x.tick y.tick x.mark ∷ bars_of_each end (y ∷ xs)

-- two bars that are green follow one another
no_stretches : Differ (bars_of_each 51 changes) → ⊥
no_stretches differ = differ.1.0 refl

-- ## What is in force when a line begins is left out

abbrev begun_in_line : List Change
begun_in_line = filter (λ x. nat_le 5 x.tick) changes

begins_late : bars_of tick_of mark_of 5 51 (before_tick tick_of 51 begun_in_line) ≡ bar 11 41 Green ∷ bar 41 51 Yellow ∷ []
unfolding bars_of bars_on before_tick
begins_late = refl

-- the bars do not begin with the line
late : Fill 5 (bar 11 41 Green ∷ bar 41 51 Yellow ∷ []) 51 → ⊥
late fill = absurd (omega (arith, fill.0))

-- ## A bar ends at the last tick that shows it, and not before the next

abbrev ended_early : List Bar → List Bar
ended_early bars = map (λ b. bar b.begin (b.end - 1) b.mark) bars

-- there is a gap after the first bar
gap : Fill 5 (ended_early (bar 5 11 Red ∷ bar 11 41 Green ∷ bar 41 51 Yellow ∷ [])) 51 → ⊥
gap fill = absurd (omega (arith, fill.1.1.0))
