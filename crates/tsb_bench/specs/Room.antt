-- How long the room of a history lasts, as a statement over inputs that come one after the other. It follows from what
-- `Bench::apply` promises of each, and is proved as the contract of a function that does nothing (src/room_laws.rt).
use Rattle.std.specs.Prelude.{◌≡◌, ◌≢◌, ℕ, ◌+◌, ◌*◌, ◌<◌, ◌≤◌, List, [], ◌∷◌, length, Result, Err, OnOk, OnErr}
use Rattle.std.specs.List.{AllByRecursion}
use Rattle.tsb_history.specs.History.{record_size}
use Rattle.tsb_types.specs.declared.refusal.Refusal.{Refusal}
use Rattle.tsb_types.specs.declared.refusal.Refusal.TheVariants.{Memory}
use Rattle.tsb_step.specs.declared.inputs.Input.{Input}
use Rattle.tsb_step.specs.Past.{record_of}
use Rattle.tsb_step.specs.Step.{kind_of}
use Rattle.tsb_bench.specs.Cabinet.{most_cells}
use Rattle.tsb_bench.specs.Held.{Held, state_of}

-- an input with its answer
abbrev pub Answered : Type 0
Answered = Input × Result (Unit {0}) Refusal

-- what `Bench::apply` promises of room at an input that it answers so, each in the clause of that name
pub record KeepsRoom (old : Held) (x : Answered) (new : Held) : Type 0 where
  pub few : OnOk x.1 (length (record_of x.0 (state_of old) (state_of new)).entries ≤ most_cells (kind_of x.0))
  pub wanting : x.1 ≡ Err Memory → old.room < record_size (most_cells (kind_of x.0))
  pub room : OnOk x.1 (old.room ≤ new.room + record_size (length (record_of x.0 (state_of old) (state_of new)).entries))
  pub err : OnErr x.1 (new ≡ old)

-- so at each of these inputs in turn, from one bench to another
abbrev pub KeepRoom : Held → List Answered → Held → Type 0
KeepRoom old [] new = new ≡ old
KeepRoom old (x ∷ xs) new = (mid : Held) × KeepsRoom old x mid × KeepRoom mid xs new

-- Where there is room for n records of k entries each, none of n inputs that can change k cells each at most is refused
-- as out of memory.
abbrev pub RoomLasts : Type 0
RoomLasts = (k : ℕ) (old new : Held) (xs : List Answered) → KeepRoom old xs new →
    AllByRecursion (λ x. most_cells (kind_of x.0) ≤ k) xs → length xs * record_size k ≤ old.room →
    AllByRecursion (λ x. x.1 ≢ Err Memory) xs
