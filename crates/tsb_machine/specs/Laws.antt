-- What holds of the way back of every machine, as statements. The premise is that to undo the record of a step gives
-- the state back; some need besides that the tick number counts, or that a record is of its input's kind.
--
-- All are proved, each as the contract of a function that does nothing (src/laws.rt).
use Rattle.std.specs.Prelude.{◌≡◌, ℕ, suc, ◌≤◌, List, [], ◌∷◌, length, drop, Option}
use Rattle.tsb_machine.specs.declared.commands.MachineCommand.{MachineCommand}
use Rattle.tsb_machine.specs.declared.commands.Answer.{Answer}
use Rattle.tsb_machine.specs.Machine.{Machine, replay, AreTaken, run, records_of, back_to}
use Rattle.tsb_machine.specs.Past.{Whole, applied, after, earlier, pasts, sought, IsLeastBack}
use Rattle.tsb_machine.specs.Watches.{TellsLastChange, IsTold}
use Rattle.tsb_machine.specs.Play.{Answers, Does, DoAll, remaining, AreRight}

module _ {State Input Change : Type 0} (m : Machine State Input Change) where
  -- ## The premise

  -- the record of the input takes it back from the state that it makes of s
  abbrev pub GivesBack : State → Input → Type 0
  GivesBack s i = m.undone (m.record_of i s (m.step s i)) (m.step s i) ≡ s

  -- the record of an input is of its kind
  abbrev pub TellsKinds : Type 0
  TellsKinds = (i : Input) (s t : State) → m.kind (m.record_of i s t) ≡ m.kind_of i

  -- ## Undo

  -- To take back what was just applied gives the whole that was.
  abbrev pub UndoGivesBack : Type 0
  UndoGivesBack = (w : Whole State Change) (i : Input) → GivesBack w.state i → earlier m (applied m i w) 1 ≡ w

module _ {State Input Change : Type 0} (m : Machine State Input Change) (start : State) where
  -- ## The premise, of runs

  -- the record of each input of a list takes it back, from power-up on
  abbrev pub GiveBack : List Input → Type 0
  GiveBack [] = Unit {0}
  GiveBack (i ∷ is) = GiveBack is × GivesBack m (replay m start is) i

  -- this holds in every run of a machine that has this of its good states: power-up is good, an input that can come
  -- leaves a good state, and its record takes it back
  pub record GoesBack (IsGood : State → Type 0) (CanCome : State → Input → Type 0) : Type 0 where
    pub begins : IsGood start
    pub stays : (s : State) (i : Input) → IsGood s → CanCome s i → IsGood (m.step s i)
    pub back : (s : State) (i : Input) → IsGood s → CanCome s i → GivesBack m s i

  -- each input of a list could come where it came
  abbrev pub HaveCome : (State → Input → Type 0) → List Input → Type 0
  HaveCome can [] = Unit {0}
  HaveCome can (i ∷ is) = HaveCome can is × can (replay m start is) i

  -- the tick number begins at 0, and an input moves it on by one at most
  pub record CountsTicks : Type 0 where
    pub begins : m.now start ≡ 0
    pub on : (s : State) (i : Input) → m.now s ≤ m.now (m.step s i)
    pub by_one : (s : State) (i : Input) → m.now (m.step s i) ≤ suc (m.now s)

  -- ## The way back

  -- The earlier states of a run are its states.
  abbrev pub PastsAreTheRun : Type 0
  PastsAreTheRun = (is : List Input) → GiveBack is → pasts m (replay m start is) (records_of m start is) ≡ run m start is

  -- With the newest k records taken back, the whole is that of a replay without the newest k inputs.
  abbrev pub EarlierAreReplays : Type 0
  EarlierAreReplays = (is : List Input) → GiveBack is → (k : ℕ) → k ≤ length is → earlier m (after m start is) k ≡ after m start (drop k is)

  -- What is sought is the whole of a replay without the fewest of the newest inputs that make the tick number t,
  abbrev pub SeeksAreReplays : Type 0
  SeeksAreReplays = (is : List Input) → GiveBack is → (t : ℕ) →
      sought m t (replay m start is) (records_of m start is) ≡ after m start (back_to m start t is)

  -- and it is undo repeated: as few times as make that tick number, where it is not ahead.
  abbrev pub SeeksAreLeast : Type 0
  SeeksAreLeast = CountsTicks → (is : List Input) → GiveBack is → (t : ℕ) → t ≤ m.now (replay m start is) →
      IsLeastBack m t (after m start is) (sought m t (replay m start is) (records_of m start is))

  -- The tick number at which a value changed last, as a run has it, is the greatest of those not taken back at which it
  -- changed.
  abbrev pub LastIsGreatest : {Value : Type 0} → (State → Value) → Type 0
  LastIsGreatest value = CountsTicks → (is : List Input) → GiveBack is → (t : Option ℕ) →
      TellsLastChange m value (run m start is) t → IsTold m value (after m start is) t

-- ## Sessions

module _ {State Input Change Watch Value : Type 0} (m : Machine State Input Change) (start : State) (watched : Watch → State → Value) where
  -- what holds of a session: each answer is right, the whole is that of a replay of the inputs that remain, and each of
  -- these was taken
  pub record IsReplayed (cs : List (MachineCommand Input Watch)) (ans : List Answer) (w : Whole State Change) : Type 0 where
    pub right : AreRight m start watched cs ans
    pub replayed : w ≡ after m start (remaining m start cs ans)
    pub back : GiveBack m start (remaining m start cs ans)
    pub taken : AreTaken m start (remaining m start cs ans)

  -- A bench that does what it says answers right where it has come by some inputs, and goes on to those that remain.
  abbrev pub BenchesAnswer : Type 0
  BenchesAnswer = TellsKinds m → (old new : Whole State Change) (c : MachineCommand Input Watch) (a : Answer) →
      Does m watched old c a new → Answers m start watched old c a new

  -- So it is after any commands from power-up, where each did what it says.
  abbrev pub SessionsAreReplays : Type 0
  SessionsAreReplays = TellsKinds m → (cs : List (MachineCommand Input Watch)) (ans : List Answer) (w : Whole State Change) →
      DoAll m watched (after m start []) cs ans w → IsReplayed cs ans w
