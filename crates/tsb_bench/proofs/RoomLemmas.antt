-- The room of a history: after one input, after one that is taken back, and over inputs that come one after the other.
use Rattle.std.proofs.Common.{◌≡◌, ℕ, zero, suc, ◌+◌, ◌*◌, ◌<◌, ◌≤◌, List, [], ◌∷◌, drop, length, ap, subst, arith}
use Rattle.std.proofs.Math.Nat.{suc-mul}
use Rattle.std.specs.Prelude.{Result, Ok, Err, OnOk, OnErr}
use Rattle.tsb_history.specs.History.{Change, record_size, size_of, older}
use Rattle.tsb_types.specs.declared.refusal.Refusal.{Refusal}
use Rattle.tsb_step.specs.Past.{record_of}
use Rattle.tsb_step.specs.Step.{kind_of}
use Rattle.tsb_bench.specs.Cabinet.{most_cells}
use Rattle.tsb_bench.specs.Held.{Held, state_of}
use Rattle.tsb_bench.specs.Room.{RoomLasts}

-- ## One input

-- how many entries the newest record has
pub entries-of : List Change → ℕ
entries-of [] = 0
entries-of (r ∷ rs) = length r.entries

pub newest-told : (all older : List Change) (r : Change) → all ≡ r ∷ older → entries-of all ≡ length r.entries
unfolding entries-of
newest-told all older r is = ap entries-of is

-- a record of no entry takes 3 bytes
pub none-left : (old mid new n : ℕ) → n ≡ 0 → old ≤ mid → mid ≤ new + 3 → old ≤ new + record_size n
none-left old mid new n none reserved pushed = omega arith

pub all-left : (old mid new m n : ℕ) → m ≡ n → old ≤ mid → mid ≤ new + record_size m → old ≤ new + record_size n
all-left old mid new m n same reserved pushed = omega arith

-- the records without the newest take no more bytes
older-fewer : (rs : List Change) → size_of (older rs) ≤ size_of rs
older-fewer [] = omega arith
older-fewer (r ∷ rs) = omega arith

-- the records left take no more bytes
size-dropped : (k : ℕ) (rs : List Change) → size_of (drop k rs) ≤ size_of rs
size-dropped zero rs = omega arith
size-dropped (suc k) [] = omega arith
size-dropped (suc k) (r ∷ rs) = let rest : size_of (drop k rs) ≤ size_of rs = size-dropped k rs in omega (arith, rest)

-- where k records were taken away there is more room
pub more-behind : (k : ℕ) (old new : List Change) (was room : ℕ) → new ≡ drop k old → size_of new + room ≡ size_of old + was → was ≤ room
more-behind k old new was room left same =
    let fewer : size_of (drop k old) ≤ size_of old = size-dropped k old in
    let is : size_of new ≡ size_of (drop k old) = ap size_of left in
    omega (arith, fewer, is, same)

-- so there is no less room without it
pub more-left : (rs left : List Change) (old new : ℕ) → left ≡ older rs → size_of left + new ≡ size_of rs + old → old ≤ new
more-left rs left old new is same =
    let fewer : size_of (older rs) ≤ size_of rs = older-fewer rs in
    let sizes : size_of left ≡ size_of (older rs) = ap size_of is in
    omega arith

-- ## Inputs in turn

-- what an answer leaves of the room, where the input can change k cells at most
left : (k n most entries : ℕ) (old new : Held) (answer : Result (Unit {0}) Refusal) → OnOk answer (entries ≤ most) → OnOk answer (old.room ≤ new.room + record_size entries) → OnErr answer (new ≡ old) →
    most ≤ k → n + record_size k ≤ old.room → n ≤ new.room
left k n most entries old new (Ok u) few room err small enough =
    let few_are : entries ≤ most = few in
    let taken : old.room ≤ new.room + record_size entries = room in
    omega arith
left k n most entries old new (Err e) few room err small enough =
    let same : new.room ≡ old.room = ap (λ (h : Held). h.room) err in
    omega arith

-- there was room for a record of as many entries
enough-room : (n most k room : ℕ) → room < record_size most → most ≤ k → n + record_size k ≤ room → ⊥
enough-room n most k room none small enough = omega arith

pub room-lasts : RoomLasts
room-lasts k old new [] keep small enough = tt
room-lasts k old new (x ∷ xs) keep small enough =
    let more : length xs * record_size k + record_size k ≤ old.room = subst (λ (m : ℕ). m ≤ old.room) (suc-mul (length xs) (record_size k)) enough in (
      (λ memory. enough-room (length xs * record_size k) (most_cells (kind_of x.0)) k old.room (keep.1.wanting memory) small.0 more),
      room-lasts k keep.0 new xs keep.2 small.1
          (left k (length xs * record_size k) (most_cells (kind_of x.0)) (length (record_of x.0 (state_of old) (state_of keep.0)).entries) old keep.0 x.1 keep.1.few keep.1.room keep.1.err small.0 more),
    )
