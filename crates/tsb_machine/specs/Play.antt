-- What a list of commands comes to: the inputs that remain, and which answer is right at its place. The state is that
-- of a replay of the inputs that remain.
use Rattle.std.specs.Prelude.{◌≡◌, ◌-◌, ◌<◌, ◌≤◌, List, [], ◌∷◌, Option, Some, None}
use Rattle.tsb_history.specs.declared.kinds.Kind.{Kind}
use Rattle.tsb_types.specs.declared.refusal.Refusal.{Refusal}
use Rattle.tsb_types.specs.declared.refusal.Refusal.TheVariants as refusals
use Rattle.tsb_machine.specs.declared.commands.MachineCommand.{MachineCommand}
use Rattle.tsb_machine.specs.declared.commands.MachineCommand.TheVariants.{Apply, Undo, Back, Seek, When}
use Rattle.tsb_machine.specs.declared.commands.Answer.{Answer}
use Rattle.tsb_machine.specs.declared.commands.Answer.TheVariants.{Took, Refused, Undone, Moved, Nothing, Changed}
use Rattle.tsb_machine.specs.Machine.{Machine, replay, run, records_of, back_to, without_newest}
use Rattle.tsb_machine.specs.Past.{Whole, applied, taken_back, earlier, pasts, sought}
use Rattle.tsb_machine.specs.Watches.{TellsLastChange}

-- ## The inputs that remain

module _ {State Input Change Watch : Type 0} (m : Machine State Input Change) (start : State) where
  -- after a command with this answer: an input that was taken is piled up, undo takes away the newest, back (by n
  -- ticks) and seek (to tick t) go to a tick number; all else leaves them
  abbrev pub remaining_after : List Input → MachineCommand Input Watch → Answer → List Input
  remaining_after is (Apply i) Took = i ∷ is
  remaining_after is Undo (Undone k) = without_newest is
  remaining_after is (Back n) Moved = back_to m start (m.now (replay m start is) - n) is
  remaining_after is (Seek t) Moved = back_to m start t is
  remaining_after is c a = is

  -- after these commands with these answers in turn, where `is` remained before
  abbrev pub remaining_from : List Input → List (MachineCommand Input Watch) → List Answer → List Input
  remaining_from is [] ans = is
  remaining_from is (c ∷ cs) [] = is
  remaining_from is (c ∷ cs) (a ∷ ans) = remaining_from (remaining_after is c a) cs ans

  -- the inputs that were not undone, of a session from power-up
  abbrev pub remaining : List (MachineCommand Input Watch) → List Answer → List Input
  remaining cs ans = remaining_from [] cs ans

-- ## Right answers

-- a refusal is the verdict; out of memory comes only where there is no verdict
abbrev pub IsRefusal : Option Refusal → Refusal → Type 0
IsRefusal found refusals.Memory = found ≡ None
IsRefusal found e = found ≡ Some e

-- what an undo answers: the kind of the input that it takes away; with none left it has no such answer
abbrev pub IsNewestKind : {State Input Change : Type 0} → Machine State Input Change → List Input → Kind → Type 0
IsNewestKind m [] k = ⊥
IsNewestKind m (i ∷ is) k = k ≡ m.kind_of i

-- a bench has come from power-up by these inputs
pub record Follows {State Input Change : Type 0} (m : Machine State Input Change) (start : State) (w : Whole State Change) (is : List Input) : Type 0 where
  pub pasts : pasts m w.state w.records ≡ run m start is
  pub records : w.records ≡ records_of m start is

module _ {State Input Change Watch Value : Type 0} (m : Machine State Input Change) (start : State) (watched : Watch → State → Value) where
  -- the answer is right where these inputs remain
  abbrev pub IsRight : List Input → MachineCommand Input Watch → Answer → Type 0
  IsRight is (Apply i) Took = m.verdict (replay m start is) i ≡ None
  IsRight is (Apply i) (Refused e) = IsRefusal (m.verdict (replay m start is) i) e
  IsRight is Undo (Undone k) = IsNewestKind m is k
  IsRight is Undo Nothing = is ≡ []
  IsRight is (Back n) Moved = n ≤ m.now (replay m start is)
  IsRight is (Back n) Nothing = m.now (replay m start is) < n
  IsRight is (Seek t) Moved = t ≤ m.now (replay m start is)
  IsRight is (Seek t) Nothing = m.now (replay m start is) < t
  IsRight is (When w) (Changed t) = TellsLastChange m (watched w) (run m start is) t
  IsRight is c a = ⊥

  -- as many answers as commands, each right at its place
  abbrev pub AreRightFrom : List Input → List (MachineCommand Input Watch) → List Answer → Type 0
  AreRightFrom is [] [] = Unit {0}
  AreRightFrom is [] (a ∷ ans) = ⊥
  AreRightFrom is (c ∷ cs) [] = ⊥
  AreRightFrom is (c ∷ cs) (a ∷ ans) = IsRight is c a × AreRightFrom (remaining_after m start is c a) cs ans

  -- so from power-up, where no input remains before the first command
  abbrev pub AreRight : List (MachineCommand Input Watch) → List Answer → Type 0
  AreRight cs ans = AreRightFrom [] cs ans

  -- where a bench has come by some inputs, the answer is right, and it goes on to those that remain
  abbrev pub Answers : Whole State Change → MachineCommand Input Watch → Answer → Whole State Change → Type 0
  Answers old c a new = (is : List Input) → Follows m start old is → IsRight is c a × Follows m start new (remaining_after m start is c a)

-- ## What a bench does

-- the kind of the newest record, which an undo takes back; with none left, no kind is
abbrev pub IsNewest : {State Input Change : Type 0} → Machine State Input Change → List Change → Kind → Type 0
IsNewest m [] k = ⊥
IsNewest m (r ∷ rs) k = k ≡ m.kind r

module _ {State Input Change Watch Value : Type 0} (m : Machine State Input Change) (watched : Watch → State → Value) where
  -- at a command that it answers so: when, and what the whole is then; an input that is taken can be taken back
  abbrev pub Does : Whole State Change → MachineCommand Input Watch → Answer → Whole State Change → Type 0
  Does w (Apply i) Took new = (m.verdict w.state i ≡ None) × (new ≡ applied m i w) × (earlier m new 1 ≡ w)
  Does w (Apply i) (Refused e) new = IsRefusal (m.verdict w.state i) e × (new ≡ w)
  Does w Undo (Undone k) new = IsNewest m w.records k × (new ≡ taken_back m w.state w.records)
  Does w Undo Nothing new = (w.records ≡ []) × (new ≡ w)
  Does w (Back n) Moved new = (n ≤ m.now w.state) × (new ≡ sought m (m.now w.state - n) w.state w.records)
  Does w (Back n) Nothing new = (m.now w.state < n) × (new ≡ w)
  Does w (Seek t) Moved new = (t ≤ m.now w.state) × (new ≡ sought m t w.state w.records)
  Does w (Seek t) Nothing new = (m.now w.state < t) × (new ≡ w)
  Does w (When x) (Changed t) new = TellsLastChange m (watched x) (pasts m w.state w.records) t × (new ≡ w)
  Does w c a new = ⊥

  -- these commands with these answers lead from one whole to another, each doing what it says
  abbrev pub DoAll : Whole State Change → List (MachineCommand Input Watch) → List Answer → Whole State Change → Type 0
  DoAll w [] [] new = new ≡ w
  DoAll w [] (a ∷ ans) new = ⊥
  DoAll w (c ∷ cs) [] new = ⊥
  DoAll w (c ∷ cs) (a ∷ ans) new = (mid : Whole State Change) × Does w c a mid × DoAll mid cs ans new
