-- Mistakes in the way back, each with an example in which it differs from the definition, on a machine whose inputs are
-- ticks that set a value.
use Rattle.std.proofs.Common.{◌≡◌, ◌≢◌, ◌<◌, ℕ, zero, suc, ◌+◌, ◌-◌, ◌==◌, List, [], ◌∷◌, Option, Some, None, if◌then◌else◌, ◌⊎◌, inl, refl, arith}
use Rattle.tsb_history.specs.declared.kinds.Kind.TheVariants.{Tick}
use Rattle.tsb_machine.specs.declared.commands.MachineCommand.{MachineCommand}
use Rattle.tsb_machine.specs.declared.commands.MachineCommand.TheVariants.{Apply, Undo}
use Rattle.tsb_machine.specs.declared.commands.Answer.{Answer}
use Rattle.tsb_machine.specs.declared.commands.Answer.TheVariants.{Took, Undone}
use Rattle.tsb_machine.specs.Laws.{CountsTicks, GiveBack, TellsKinds}
use Rattle.tsb_machine.specs.Machine.{Machine, replay, run}
use Rattle.tsb_machine.specs.Past.{Whole, applied, after, earlier, sought}
use Rattle.tsb_machine.specs.Play.{DoAll, remaining}
use Rattle.tsb_machine.specs.Watches.{TellsLastChange}

-- ## A machine, and runs that meet the premises

-- a state is a tick number and a value; an input sets the value in a tick, and its record keeps the value before
abbrev pub Valued : Type 0
Valued = ℕ × ℕ

abbrev pub clock : Machine Valued ℕ ℕ
clock = record {
  step = λ s v. (s.0 + 1, v);
  now = λ s. s.0;
  verdict = λ s v. None;
  record_of = λ v before now. before.1;
  undone = λ r s. (s.0 - 1, r);
  kind_of = λ v. Tick;
  kind = λ r. Tick;
}

abbrev pub start : Valued
start = (0, 0)

-- the value is set to 7 at ticks 1 and 2, and to 5 at tick 3
abbrev pub inputs : List ℕ
inputs = 5 ∷ 7 ∷ 7 ∷ []

abbrev pub whole : Whole Valued ℕ
whole = after clock start inputs

gives_back : GiveBack clock start inputs
gives_back = (((tt, refl), refl), refl)

counts : CountsTicks clock start
counts = record { begins = refl; on = λ s v. omega arith; by_one = λ s v. omega arith }

tells_kinds : TellsKinds clock
tells_kinds v s t = refl

-- ## A record that is taken back stays in the history

abbrev pub taken_back_kept : Valued → List ℕ → Whole Valued ℕ
taken_back_kept s [] = record { state = s; records = [] }
taken_back_kept s (r ∷ rs) = record { state = clock.undone r s; records = r ∷ rs }

abbrev pub earlier_kept : Whole Valued ℕ → ℕ → Whole Valued ℕ
earlier_kept w zero = w
earlier_kept w (suc k) = earlier_kept (taken_back_kept w.state w.records) k

is_as_before : earlier clock (applied clock 5 (after clock start (7 ∷ 7 ∷ []))) 1 ≡ after clock start (7 ∷ 7 ∷ [])
is_as_before = refl

would_keep_record : (earlier_kept (applied clock 5 (after clock start (7 ∷ 7 ∷ []))) 1).records ≡ 7 ∷ 7 ∷ 0 ∷ []
would_keep_record = refl

is_at_start : earlier clock whole 3 ≡ after clock start []
is_at_start = refl

would_have_7 : (earlier_kept whole 3).state ≡ (0, 7)
would_have_7 = refl

-- ## A seek takes a record back before it looks

abbrev pub sought_behind : ℕ → Valued → List ℕ → Whole Valued ℕ
sought_behind t s [] = record { state = s; records = [] }
sought_behind t s (r ∷ rs) =
    if clock.now (clock.undone r s) == t then record { state = clock.undone r s; records = rs } else sought_behind t (clock.undone r s) rs

seeks_1 : sought clock 1 whole.state whole.records ≡ after clock start (7 ∷ [])
seeks_1 = refl

stays_at_3 : sought clock 3 whole.state whole.records ≡ whole
stays_at_3 = refl

would_be_at_start : sought_behind 3 whole.state whole.records ≡ after clock start []
would_be_at_start = refl

-- ## The tick number of a change is that of the state before it

abbrev pub TellsTickBefore : List Valued → Option ℕ → Type 0
TellsTickBefore [] t = t ≡ None
TellsTickBefore (s ∷ []) t = t ≡ None
TellsTickBefore (s ∷ (before ∷ rest)) t =
    ((s.1 ≢ before.1) × (t ≡ Some before.0)) ⊎ ((s.1 ≡ before.1) × TellsTickBefore (before ∷ rest) t)

differ : (n m : ℕ) → n < m → n ≢ m
differ n m less same = omega (arith, less, same)

-- the value is the same at ticks 1 and 2, and another at tick 3
tells_3 : TellsLastChange clock (λ s. s.1) (run clock start inputs) (Some 3)
tells_3 = inl (differ 5 7 (omega arith), refl)

would_tell_2 : TellsTickBefore (run clock start inputs) (Some 2)
would_tell_2 = inl (differ 5 7 (omega arith), refl)

-- ## An input that was undone remains

-- 7 is taken, then 5, and 5 is undone
abbrev pub commands : List (MachineCommand ℕ (Unit {0}))
commands = Apply 7 ∷ Apply 5 ∷ Undo ∷ []

abbrev pub answers : List Answer
answers = Took ∷ Took ∷ Undone Tick ∷ []

abbrev pub watched : Unit {0} → Valued → ℕ
watched w s = s.1

done : DoAll clock watched (after clock start []) commands answers (after clock start (7 ∷ []))
done = (
  after clock start (7 ∷ []),
  (refl, refl, refl),
  (
    after clock start (5 ∷ 7 ∷ []),
    (refl, refl, refl),
    (after clock start (7 ∷ []), (refl, refl), refl),
  ),
)

remains_7 : remaining clock start commands answers ≡ 7 ∷ []
remains_7 = refl

abbrev pub taken_in_all : List ℕ → List (MachineCommand ℕ (Unit {0})) → List Answer → List ℕ
taken_in_all is (Apply i ∷ cs) (Took ∷ ans) = taken_in_all (i ∷ is) cs ans
taken_in_all is (c ∷ cs) (a ∷ ans) = taken_in_all is cs ans
taken_in_all is cs ans = is

would_remain : taken_in_all [] commands answers ≡ 5 ∷ 7 ∷ []
would_remain = refl

would_have_5 : replay clock start (5 ∷ 7 ∷ []) ≡ (2, 5)
would_have_5 = refl
