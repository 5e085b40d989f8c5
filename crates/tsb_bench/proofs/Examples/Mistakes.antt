-- What the law of the room refuses, by computing: records that are counted without what each has beside its entries.
-- Beside it is what the definitions make of the same.
use Rattle.std.proofs.Common.{◌≡◌, ℕ, ◌-◌, ◌*◌, ◌≤◌, nat_lt, true, [], ◌∷◌, refl, arith}
use Rattle.std.specs.Prelude.{Ok}
use Rattle.tsb_cells.proofs.DiffLemmas.{diff-same}
use Rattle.tsb_history.specs.History.{record_size}
use Rattle.tsb_history.specs.declared.kinds.Kind.TheVariants as kinds
use Rattle.tsb_step.specs.declared.inputs.Input.TheVariants.{Reset}
use Rattle.tsb_step.specs.Past.{record_of}
use Rattle.tsb_step.specs.Cells.{cells_of}
use Rattle.tsb_bench.specs.Cabinet.{most_cells}
use Rattle.tsb_bench.specs.Held.{Held, state_of}
use Rattle.tsb_bench.specs.Room.{KeepsRoom, KeepRoom}

-- ## Room lasts: records are counted without their kind and the number of their entries

abbrev pub entries_size : ℕ → ℕ
entries_size n = 6 * n

asks_4890 : 2 * record_size (most_cells kinds.Tick) ≡ 4890
asks_4890 = refl

would_ask_4884 : 2 * entries_size (most_cells kinds.Tick) ≡ 4884
would_ask_4884 = refl

-- of these 2439 bytes are left by the first of two ticks that change each cell, fewer than the second may need
leaves_2439 : 4884 - record_size (most_cells kinds.Tick) ≡ 2439
leaves_2439 = refl

would_lack_room : nat_lt 2439 (record_size (most_cells kinds.Tick)) ≡ true
would_lack_room = refl

-- a reset of a controller that has not tripped changes nothing, and its record takes 3 bytes
abbrev pub after_reset : Held → Held
after_reset h = record h { records = record { kind = kinds.Reset; entries = [] } ∷ h.records; room = h.room - 3 }

nothing_differs : (h : Held) → (record_of Reset (state_of h) (state_of (after_reset h))).entries ≡ []
nothing_differs h = diff-same (cells_of (state_of h))

keeps_room : (h : Held) → 3 ≤ h.room → KeepsRoom h (Reset, Ok tt) (after_reset h)
keeps_room h enough = record {
  few = rw (nothing_differs h) (omega arith);
  wanting = λ e. absurd cc;
  room = rw (nothing_differs h) (omega (arith, enough));
  err = tt;
}

keep_room : (h : Held) → 3 ≤ h.room → KeepRoom h ((Reset, Ok tt) ∷ []) (after_reset h)
keep_room h enough = (after_reset h, keeps_room h enough, refl)
