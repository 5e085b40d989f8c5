-- The monitor's cells: what a row says that was written from a lamp and a trip.
use Rattle.std.proofs.Common.{◌≡◌, ℕ, ◌+◌, ◌-◌, ◌≤◌, List, ◌++◌, length, take, drop, slice_index, Option, Some, None, sym, ap, subst, ◌∙◌, refl, arith, false, ◌==◌, inl, inr}
use Rattle.std.specs.Prelude.{replicate}
use Rattle.std.proofs.lemmas.Bool.{cases_Bool, eqb-true}
use Rattle.std.proofs.lemmas.Bool.Decides.{nat_tests}
use Rattle.std.proofs.lemmas.List.{append-nil, drop_all, length-append, length-drop, take-append-le, take_all}
use Rattle.tsb_cells.specs.Row.{row_at, with_row}
use Rattle.tsb_heads.specs.declared.monitor.Trip.{Trip}
use Rattle.tsb_heads.specs.declared.monitor.Trip.TheVariants.{Conflict, GreenToRed}
use Rattle.tsb_types.specs.declared.lamp.Lamp.{Lamp}
use Rattle.tsb_step.specs.declared.TheConstants.{MONITOR_CELLS}
use Rattle.tsb_step.specs.MonitorCells.{monitor_cells, trip_cells, lamp_cells, lamp_in, trip_in, cause_of}
use Rattle.tsb_step.specs.MonitorLaws.{IsMonitorBy, IsCause, IsTrip, IsLamp}
use Rattle.tsb_step.specs.State.{Tripped}
use Rattle.tsb_step.proofs.MonitorLemmas.{rows-told, state-read}

-- the first four cells have the trip
four : (lamp : Option Lamp) (trip : Option Tripped) → row_at 4 (monitor_cells lamp trip) 0 ≡ trip_cells trip
four lamp None = refl
four lamp (Some trip) = at trip.cause trip.tick
  where
    at : (cause : Trip) (n : ℕ) → row_at 4 (monitor_cells lamp (Some (record { cause = cause; tick = n }))) 0 ≡ trip_cells (Some (record { cause = cause; tick = n }))
    at (Conflict p q) n = refl
    at (GreenToRed p) n = refl

pub trip-told : (now : ℕ) (row : List ℕ) → IsMonitorBy now row → row_at 4 row 0 ≡ trip_cells (trip_in row)
trip-told now row by = ap (λ (xs : List ℕ). row_at 4 xs 0) (sym (rows-told now row by)) ∙ four (lamp_in row) (trip_in row)

-- a trip in a row is one of phases, and of no later tick
is-trip : (now : ℕ) (row : List ℕ) → IsMonitorBy now row → IsTrip now (trip_in row)
is-trip now row by =
    elim (cases_Bool (slice_index row 0 == 0)) [
      | inl none ↦ rw none tt
      | inr some ↦ rw some (cause some, by.tick)
    ]
  where
    cause : (slice_index row 0 == 0) ≡ false → IsCause (cause_of (slice_index row 0) (slice_index row 1) (slice_index row 2))
    cause some =
        let least : 1 ≤ slice_index row 0 = grind (arith, nat_tests) in
        elim (cases_Bool (slice_index row 0 == 1)) [
          | inl one ↦ rw one (by.first least, by.second (eqb-true (slice_index row 0) 1 one))
          | inr two ↦ rw two (by.first least)
        ]

-- what a row says that was made of a lamp and a trip
pub record Says (now : ℕ) (lamp : Option Lamp) (trip : Option Tripped) (row : List ℕ) : Type 0 where
  pub lamp_is : lamp_in row ≡ lamp
  pub trip_is : trip_in row ≡ trip
  pub by : IsMonitorBy now row

says : (now : ℕ) (lamp : Option Lamp) (trip : Option Tripped) (row : List ℕ) → IsLamp lamp → IsTrip now trip → row ≡ monitor_cells lamp trip → Says now lamp trip row
says now lamp trip row lit tripped is =
    let read = state-read now lamp trip lit tripped in
    subst (Says now lamp trip) (sym is) (record { lamp_is = read.0; trip_is = read.1; by = read.2 })

pub set-none : (now : ℕ) (lamp : Option Lamp) (old new trip : List ℕ) → IsMonitorBy now old → IsLamp lamp → trip ≡ row_at 4 old 0 → new ≡ trip ++ lamp_cells lamp →
    Says now lamp (trip_in old) new
set-none now lamp old new trip by lit read is =
    says now lamp (trip_in old) new lit (is-trip now old by) (is ∙ ap (λ (xs : List ℕ). xs ++ lamp_cells lamp) (read ∙ trip-told now old by))

pub set-some : (now : ℕ) (lamp : Option Lamp) (cause : Trip) (new trip : List ℕ) → IsLamp lamp → IsCause cause → trip ≡ trip_cells (Some (record { cause = cause; tick = now })) → new ≡ trip ++ lamp_cells lamp →
    Says now lamp (Some (record { cause = cause; tick = now })) new
set-some now lamp cause new trip lit caused read is =
    says now lamp (Some (record { cause = cause; tick = now })) new lit (caused, omega arith) (is ∙ ap (λ (xs : List ℕ). xs ++ lamp_cells lamp) read)

-- a row that was cleared
pub cleared : (now : ℕ) (row : List ℕ) → row ≡ replicate MONITOR_CELLS 0 → Says now None None row
cleared now row is = says now None None row tt tt is

-- all cells where both rows are put, the trip's and the lamp's
pub both-rows : (cells trip lamp : List ℕ) → length cells ≡ 7 → length trip ≡ 4 → length lamp ≡ 3 → with_row (with_row cells 0 trip) 4 lamp ≡ trip ++ lamp
both-rows cells trip lamp full long short =
    ap (λ (xs : List ℕ). xs ++ lamp ++ drop (4 + length lamp) (trip ++ rest)) begin
    ∙ ap (λ (xs : List ℕ). trip ++ lamp ++ xs) (drop_all (4 + length lamp) (trip ++ rest) end)
    ∙ append-nil (trip ++ lamp)
  where
    rest : List ℕ
    rest = drop (0 + length trip) cells

    begin : take 4 (trip ++ rest) ≡ trip
    begin = ap (λ (n : ℕ). take n (trip ++ rest)) (sym long) ∙ take-append-le (length trip) trip rest (omega arith) ∙ take_all (length trip) trip (omega arith)

    end : length (trip ++ rest) ≤ 4 + length lamp
    end = let both : length (trip ++ rest) ≡ length trip + length rest = length-append trip rest in
        let left : length rest ≡ length cells - (0 + length trip) = length-drop (0 + length trip) cells in
        omega (arith, both, left, full, long, short)
