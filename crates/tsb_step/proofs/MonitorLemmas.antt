-- The cells of the monitor and of the injected lamp, and what they say.
use Rattle.std.proofs.Common.{zero, suc, ◌≡◌, ℕ, ◌≤◌, List, [], ◌∷◌, ◌++◌, Option, Some, None, refl, ap₂, arith}
use Rattle.tsb_types.specs.declared.lamp.Lamp.{Lamp}
use Rattle.tsb_types.specs.declared.lamp.Lamp.TheVariants as lamps
use Rattle.tsb_types.specs.declared.lamp.SignalColor.{SignalColor}
use Rattle.tsb_types.specs.declared.lamp.SignalColor.TheVariants as signals
use Rattle.tsb_types.specs.declared.lamp.PedestrianColor.{PedestrianColor}
use Rattle.tsb_types.specs.declared.lamp.PedestrianColor.TheVariants as pedestrians
use Rattle.tsb_types.specs.declared.limits.TheConstants.{OVERLAPS}
use Rattle.tsb_heads.specs.declared.monitor.Trip.{Trip}
use Rattle.tsb_heads.specs.declared.monitor.Trip.TheVariants.{Conflict, GreenToRed}
use Rattle.tsb_step.specs.State.{Tripped}
use Rattle.tsb_step.specs.MonitorCells.{monitor_cells, trip_cells, lamp_cells, lamp_in, trip_in, signal_cell, signal_of, pedestrian_cell, pedestrian_of}
use Rattle.tsb_step.specs.MonitorLaws.{IsUpTo, IsMonitorBy, IsCause, IsTrip, IsLamp}

-- ## From rows to states and back

signal-told : (n : ℕ) → n ≤ 2 → signal_cell (signal_of n) ≡ n
signal-told zero few = refl
signal-told (suc zero) few = refl
signal-told (suc (suc zero)) few = refl
signal-told (suc (suc (suc n))) few = absurd (omega arith)

pedestrian-told : (n : ℕ) → n ≤ 2 → pedestrian_cell (pedestrian_of n) ≡ n
pedestrian-told zero few = refl
pedestrian-told (suc zero) few = refl
pedestrian-told (suc (suc zero)) few = refl
pedestrian-told (suc (suc (suc n))) few = absurd (omega arith)

trip-told : (a b c d e f g : ℕ) → a ≤ 2 → (a ≡ 0 → (b ≡ 0) × (c ≡ 0) × (d ≡ 0)) → (a ≡ 2 → c ≡ 0) →
    trip_cells (trip_in (a ∷ b ∷ c ∷ d ∷ e ∷ f ∷ g ∷ [])) ≡ (a ∷ b ∷ c ∷ d ∷ [])
trip-told zero b c d e f g few blank alone = rw ((blank refl).0, (blank refl).1, (blank refl).2) refl
trip-told (suc zero) b c d e f g few blank alone = refl
trip-told (suc (suc zero)) b c d e f g few blank alone = rw (alone refl) refl
trip-told (suc (suc (suc n))) b c d e f g few blank alone = absurd (omega arith)

lamp-told : (a b c d e f g : ℕ) → e ≤ 4 → (e ≡ 0 → (f ≡ 0) × (g ≡ 0)) → (e ≡ 4 → g ≡ 0) → g ≤ 2 →
    lamp_cells (lamp_in (a ∷ b ∷ c ∷ d ∷ e ∷ f ∷ g ∷ [])) ≡ (e ∷ f ∷ g ∷ [])
lamp-told a b c d zero f g few dark still color = rw ((dark refl).0, (dark refl).1) refl
lamp-told a b c d (suc zero) f g few dark still color = rw (signal-told g color) refl
lamp-told a b c d (suc (suc zero)) f g few dark still color = rw (pedestrian-told g color) refl
lamp-told a b c d (suc (suc (suc zero))) f g few dark still color = rw (signal-told g color) refl
lamp-told a b c d (suc (suc (suc (suc zero)))) f g few dark still color = rw (still refl) refl
lamp-told a b c d (suc (suc (suc (suc (suc n))))) f g few dark still color = absurd (omega arith)

pub rows-told : (now : ℕ) (row : List ℕ) → IsMonitorBy now row → monitor_cells (lamp_in row) (trip_in row) ≡ row
rows-told now (a ∷ (b ∷ (c ∷ (d ∷ (e ∷ (f ∷ (g ∷ []))))))) by =
    ap₂ (λ (xs ys : List ℕ). xs ++ ys) (trip-told a b c d e f g by.cause by.untripped by.alone) (lamp-told a b c d e f g by.kind by.unlit by.arrow by.color)
rows-told now [] by = absurd (omega (arith, by.full))
rows-told now (a ∷ []) by = absurd (omega (arith, by.full))
rows-told now (a ∷ (b ∷ [])) by = absurd (omega (arith, by.full))
rows-told now (a ∷ (b ∷ (c ∷ []))) by = absurd (omega (arith, by.full))
rows-told now (a ∷ (b ∷ (c ∷ (d ∷ [])))) by = absurd (omega (arith, by.full))
rows-told now (a ∷ (b ∷ (c ∷ (d ∷ (e ∷ []))))) by = absurd (omega (arith, by.full))
rows-told now (a ∷ (b ∷ (c ∷ (d ∷ (e ∷ (f ∷ [])))))) by = absurd (omega (arith, by.full))
rows-told now (a ∷ (b ∷ (c ∷ (d ∷ (e ∷ (f ∷ (g ∷ (h ∷ rest)))))))) by = absurd (omega (arith, by.full))

signal-read : (color : SignalColor) → signal_of (signal_cell color) ≡ color
signal-read signals.Red = refl
signal-read signals.Yellow = refl
signal-read signals.Green = refl

signal-few : (color : SignalColor) → signal_cell color ≤ 2
signal-few signals.Red = omega arith
signal-few signals.Yellow = omega arith
signal-few signals.Green = omega arith

pedestrian-read : (color : PedestrianColor) → pedestrian_of (pedestrian_cell color) ≡ color
pedestrian-read pedestrians.DontWalk = refl
pedestrian-read pedestrians.Clearance = refl
pedestrian-read pedestrians.Walk = refl

pedestrian-few : (color : PedestrianColor) → pedestrian_cell color ≤ 2
pedestrian-few pedestrians.DontWalk = omega arith
pedestrian-few pedestrians.Clearance = omega arith
pedestrian-few pedestrians.Walk = omega arith

lamp-read : (a b c d : ℕ) (lamp : Option Lamp) → lamp_in (a ∷ b ∷ c ∷ d ∷ lamp_cells lamp) ≡ lamp
lamp-read a b c d None = refl
lamp-read a b c d (Some (lamps.Phase p color)) = rw (signal-read color) refl
lamp-read a b c d (Some (lamps.Pedestrian p color)) = rw (pedestrian-read color) refl
lamp-read a b c d (Some (lamps.Overlap o color)) = rw (signal-read color) refl
lamp-read a b c d (Some (lamps.Arrow o)) = refl

-- ## Which rows

-- what the first four cells have to be at tick `now`
record IsTripBy (now a b c d : ℕ) : Type 0 where
  cause : a ≤ 2
  untripped : a ≡ 0 → (b ≡ 0) × (c ≡ 0) × (d ≡ 0)
  first : 1 ≤ a → IsUpTo 16 b
  second : a ≡ 1 → IsUpTo 16 c
  alone : a ≡ 2 → c ≡ 0
  tick : d ≤ now

-- and the last three
record IsLampBy (e f g : ℕ) : Type 0 where
  kind : e ≤ 4
  unlit : e ≡ 0 → (f ≡ 0) × (g ≡ 0)
  phase : 1 ≤ e → e ≤ 2 → IsUpTo 16 f
  overlap : 3 ≤ e → IsUpTo OVERLAPS f
  arrow : e ≡ 4 → g ≡ 0
  color : g ≤ 2

joined : (now a b c d e f g : ℕ) → IsTripBy now a b c d → IsLampBy e f g → IsMonitorBy now (a ∷ b ∷ c ∷ d ∷ e ∷ f ∷ g ∷ [])
joined now a b c d e f g trip lamp = record {
  full = refl;
  cause = trip.cause;
  untripped = trip.untripped;
  first = trip.first;
  second = trip.second;
  alone = trip.alone;
  tick = trip.tick;
  kind = lamp.kind;
  unlit = lamp.unlit;
  phase = lamp.phase;
  overlap = lamp.overlap;
  arrow = lamp.arrow;
  color = lamp.color;
}

lit : (e f g : ℕ) → 1 ≤ e → e ≤ 2 → IsUpTo 16 f → g ≤ 2 → IsLampBy e f g
lit e f g some few phase color = record {
  kind = omega (arith, few);
  unlit = λ none. absurd (omega (arith, some, none));
  phase = λ from to. phase;
  overlap = λ three. absurd (omega (arith, few, three));
  arrow = λ four. absurd (omega (arith, few, four));
  color = color;
}

with-lamp : (now a b c d : ℕ) (lamp : Option Lamp) → IsTripBy now a b c d → IsLamp lamp → IsMonitorBy now (a ∷ b ∷ c ∷ d ∷ lamp_cells lamp)
with-lamp now a b c d None trip is =
    joined now a b c d 0 0 0 trip (record {
      kind = omega arith;
      unlit = λ none. (refl, refl);
      phase = λ some. absurd (omega (arith, some));
      overlap = λ three. absurd (omega (arith, three));
      arrow = λ four. absurd (omega (arith, four));
      color = omega arith;
    })
with-lamp now a b c d (Some (lamps.Phase p color)) trip is = joined now a b c d 1 p (signal_cell color) trip (lit 1 p (signal_cell color) (omega arith) (omega arith) is (signal-few color))
with-lamp now a b c d (Some (lamps.Pedestrian p color)) trip is =
    joined now a b c d 2 p (pedestrian_cell color) trip (lit 2 p (pedestrian_cell color) (omega arith) (omega arith) is (pedestrian-few color))
with-lamp now a b c d (Some (lamps.Overlap o color)) trip is =
    joined now a b c d 3 o (signal_cell color) trip (record {
      kind = omega arith;
      unlit = λ none. absurd (omega (arith, none));
      phase = λ some few. absurd (omega (arith, few));
      overlap = λ three. is;
      arrow = λ four. absurd (omega (arith, four));
      color = signal-few color;
    })
with-lamp now a b c d (Some (lamps.Arrow o)) trip is =
    joined now a b c d 4 o 0 trip (record {
      kind = omega arith;
      unlit = λ none. absurd (omega (arith, none));
      phase = λ some few. absurd (omega (arith, few));
      overlap = λ three. is;
      arrow = λ four. refl;
      color = omega arith;
    })

pub state-read : (now : ℕ) (lamp : Option Lamp) (trip : Option Tripped) → IsLamp lamp → IsTrip now trip →
    (lamp_in (monitor_cells lamp trip) ≡ lamp) × (trip_in (monitor_cells lamp trip) ≡ trip) × IsMonitorBy now (monitor_cells lamp trip)
state-read now lamp None is tripped = (
  lamp-read 0 0 0 0 lamp,
  refl,
  with-lamp now 0 0 0 0 lamp (record {
    cause = omega arith;
    untripped = λ none. (refl, refl, refl);
    first = λ some. absurd (omega (arith, some));
    second = λ one. absurd (omega (arith, one));
    alone = λ two. refl;
    tick = omega arith;
  }) is,
)
state-read now lamp (Some trip) is tripped = go trip.cause trip.tick tripped.0 tripped.1
  where
    go : (cause : Trip) (tick : ℕ) → IsCause cause → tick ≤ now →
        (lamp_in (monitor_cells lamp (Some (record { cause = cause; tick = tick }))) ≡ lamp)
        × (trip_in (monitor_cells lamp (Some (record { cause = cause; tick = tick }))) ≡ Some (record { cause = cause; tick = tick }))
        × IsMonitorBy now (monitor_cells lamp (Some (record { cause = cause; tick = tick })))
    go (Conflict p q) tick both early = (
      lamp-read 1 p q tick lamp,
      refl,
      with-lamp now 1 p q tick lamp (record {
        cause = omega arith;
        untripped = λ none. absurd (omega (arith, none));
        first = λ some. both.0;
        second = λ one. both.1;
        alone = λ two. absurd (omega (arith, two));
        tick = early;
      }) is,
    )
    go (GreenToRed p) tick one early = (
      lamp-read 2 p 0 tick lamp,
      refl,
      with-lamp now 2 p 0 tick lamp (record {
        cause = omega arith;
        untripped = λ none. absurd (omega (arith, none));
        first = λ some. one;
        second = λ first. absurd (omega (arith, first));
        alone = λ two. refl;
        tick = early;
      }) is,
    )

pub rows-stay : (m n : ℕ) (row : List ℕ) → m ≤ n → IsMonitorBy m row → IsMonitorBy n row
rows-stay m n row later by = record {
  full = by.full;
  cause = by.cause;
  untripped = by.untripped;
  first = by.first;
  second = by.second;
  alone = by.alone;
  tick = omega (arith, later, by.tick);
  kind = by.kind;
  unlit = by.unlit;
  phase = by.phase;
  overlap = by.overlap;
  arrow = by.arrow;
  color = by.color;
}
