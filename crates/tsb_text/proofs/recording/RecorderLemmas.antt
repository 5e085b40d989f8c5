-- What the commands of a record leave.
use Rattle.std.proofs.Common.{suc, ◌≡◌, ℕ, List, [], ◌∷◌, Some, None, Ok, Err, refl, sym, ap, subst, inl, inr, option_map}
use Rattle.std.specs.declared.option.Option.{Option}
use Rattle.tsb_types.specs.declared.refusal.Refusal.{Refusal}
use Rattle.tsb_bench.specs.tsb_machine.declared.commands.Answer.{Answer}
use Rattle.tsb_bench.specs.tsb_machine.declared.commands.Answer.TheVariants as answers
use Rattle.tsb_bench.specs.tsb_machine.declared.commands.MachineCommand.TheVariants.{Apply}
use Rattle.tsb_step.specs.declared.inputs.Input.{Input}
use Rattle.tsb_step.specs.Play.{Cmd, IsRight, remaining_after}
use Rattle.tsb_log_text.specs.declared.log.LogRow.{LogRow}
use Rattle.tsb_text.specs.Answers.{Leads, Setup, followers, followers_of, next_tick}
use Rattle.tsb_text.specs.Obeyed.{Answered, FollowedAll, OnCourse, Stands, Took}
use Rattle.tsb_text.specs.Obeys.{or_refusal, refusal_in}
use Rattle.tsb_text.specs.declared.task.Task.TheVariants as tasks
use Rattle.tsb_text.specs.declared.task.Task.TheVariants.{Ask, Ticks}
use Rattle.tsb_text.specs.declared.faults.LineFault.{LineFault}
use Rattle.tsb_text.specs.declared.faults.LineFault.TheVariants.{Refused}
use Rattle.tsb_command_text.specs.declared.command.Command.{Command}
use Rattle.tsb_command_text.specs.declared.command.Reading.{Reading}
use Rattle.tsb_command_text.specs.declared.command.Reading.TheVariants.{Do}
use Rattle.tsb_text.specs.recording.Leaves.{Does, Leaves, LeavesOf}
use Rattle.tsb_text.specs.recording.Recording.{Left}

-- ## What is asked once

-- nothing follows what was refused
none-follows : (given : Setup) (is : List Input) (cmd : Cmd) (a : Answer) (e : Refusal) → refusal_in a ≡ Some e → followers_of given is cmd a ≡ []
none-follows given is (Apply i) answers.Took e why = absurd (cc)
none-follows given is (Apply i) a e why = refl
none-follows given is cmd a e why = refl

-- what the bench was asked, and refused
pub refused-left : (given : Setup) (log : List LogRow) (is : List Input) (course : OnCourse) (cmd : Cmd) (a : Answer) (e : Refusal) → refusal_in a ≡ Some e → Answered given log course is cmd a
    → Left (Some e) given log course (LeavesOf given is (Ask cmd))
refused-left given log is course cmd a e why answered = (
  remaining_after given.plan is cmd a,
  answered.stands,
  (
    _,
    record {
      answer = a;
      right = answered.right;
      stop = None;
      left = subst (λ (n : List Input). Leads given (remaining_after given.plan is cmd a) n None (remaining_after given.plan is cmd a)) (sym (none-follows given is cmd a e why)) (refl, refl);
      line = refl;
      refused = sym (ap (λ (r : Option Refusal). or_refusal r None) why);
    },
  ),
)

-- and what it did not refuse, with what follows
pub asked-left : (stop : Option Refusal) (given : Setup) (log : List LogRow) (is : List Input) (old new : OnCourse) (cmd : Cmd) (a : Answer) → refusal_in a ≡ None → Answered given log old is cmd a
    → old.next ≡ followers_of given is cmd a → FollowedAll stop given log old.next new (remaining_after given.plan is cmd a) → Left stop given log new (LeavesOf given is (Ask cmd))
asked-left stop given log is old new cmd a none answered next followed = (
  followed.0,
  followed.2,
  (
    _,
    record {
      answer = a;
      right = answered.right;
      stop = stop;
      left = subst (λ (n : List Input). Leads given (remaining_after given.plan is cmd a) n stop followed.0) next followed.1;
      line = refl;
      refused = sym (ap (λ (r : Option Refusal). or_refusal r stop) none);
    },
  ),
)

-- the display and the end leave all as it was
pub shown-left : (given : Setup) (log : List LogRow) (is : List Input) (course : OnCourse) → Stands given log course is → Left None given log course (LeavesOf given is tasks.Show)
shown-left given log is course s = (is, s, (_, (refl, refl, refl)))

pub quit-left : (given : Setup) (log : List LogRow) (is : List Input) (course : OnCourse) → Stands given log course is → Left None given log course (LeavesOf given is tasks.Quit)
quit-left given log is course s = (is, s, ([], (refl, refl, refl)))

-- a line that reads as a command
pub line-left : (given : Setup) (log : List LogRow) (is : List Input) (course : OnCourse) (c : Command) (r : Reading) (fault : Option LineFault) (refusal : Option Refusal) → r ≡ Do c → fault ≡ option_map Refused refusal
    → Left refusal given log course (Leaves given is c) → Left fault given log course (Does given is r)
line-left given log is course c r fault refusal reads why d = subst (λ (x : Reading). Left fault given log course (Does given is x)) (sym reads) (d.0, d.1, (refusal, d.2, why))

-- ## Ticks

-- so far: what the ticks that are to come leave is what all leave
pub record Stepping (given : Setup) (log : List LogRow) (is : List Input) (n : ℕ) (course : OnCourse) (k : ℕ) : Type 0 where
  pub now : List Input
  pub stands : Stands given log course now
  pub on : (refusal : Option Refusal) (left : List Input) → LeavesOf given now (Ticks k) refusal left → LeavesOf given is (Ticks n) refusal left

pub steps-start : (given : Setup) (log : List LogRow) (is : List Input) (n k : ℕ) (course : OnCourse) → k ≡ n → Stands given log course is → Stepping given log is n course k
steps-start given log is n k course all stands =
    record { now = is; stands = stands; on = λ refusal left s. subst (λ (m : ℕ). LeavesOf given is (Ticks m) refusal left) all s }

one-more : (given : Setup) (is left : List Input) (k : ℕ) (refusal : Option Refusal) (last : List Input) → IsRight given.plan is (Apply (next_tick given is)) answers.Took
    → Leads given (next_tick given is ∷ is) (followers given is (next_tick given is)) None left → LeavesOf given left (Ticks k) refusal last → LeavesOf given is (Ticks (suc k)) refusal last
one-more given is left k refusal last right leads rest = (_, inl (rest.0, None, left, record { right = right; leads = leads; line = refl }, rest.1))

one-less : (given : Setup) (is : List Input) (k : ℕ) (e : Refusal) → IsRight given.plan is (Apply (next_tick given is)) (answers.Refused e) → LeavesOf given is (Ticks (suc k)) (Some e) is
one-less given is k e right = (_, inr (record { why = e; right = right; line = refl; refused = refl; left = refl }))

-- what follows the tick is refused
one-alone : (given : Setup) (is left : List Input) (k : ℕ) (e : Refusal) → IsRight given.plan is (Apply (next_tick given is)) answers.Took
    → Leads given (next_tick given is ∷ is) (followers given is (next_tick given is)) (Some e) left → LeavesOf given is (Ticks (suc k)) (Some e) left
one-alone given is left k e right leads = (_, inl ([], Some e, left, record { right = right; leads = leads; line = refl }, (refl, refl, refl)))

-- what follows this tick
leads-on : (stop : Option Refusal) (given : Setup) (log : List LogRow) (is : List Input) (mid new : OnCourse) → mid.next ≡ followers given is (next_tick given is)
    → (f : FollowedAll stop given log mid.next new (next_tick given is ∷ is)) → Leads given (next_tick given is ∷ is) (followers given is (next_tick given is)) stop f.0
leads-on stop given log is mid new next f = subst (λ (n : List Input). Leads given (next_tick given is ∷ is) n stop f.0) next f.1

pub steps-more : (given : Setup) (log : List LogRow) (is : List Input) (n : ℕ) (old mid new : OnCourse) (left k : ℕ) → left ≡ suc k → (s : Stepping given log is n old left)
    → Took (Ok tt) given log mid s.now (next_tick given s.now) → mid.next ≡ followers given s.now (next_tick given s.now)
    → FollowedAll None given log mid.next new (next_tick given s.now ∷ s.now) → Stepping given log is n new k
steps-more given log is n old mid new left k one s took next followed = record {
  now = followed.0;
  stands = followed.2;
  on = λ refusal last rest. s.on refusal last (subst (λ (m : ℕ). LeavesOf given s.now (Ticks m) refusal last) (sym one)
      (one-more given s.now followed.0 k refusal last took.0 (leads-on None given log s.now mid new next followed) rest));
}

-- what follows a tick is refused
pub steps-alone : (given : Setup) (log : List LogRow) (is : List Input) (n : ℕ) (old mid new : OnCourse) (left k : ℕ) (e : Refusal) → left ≡ suc k → (s : Stepping given log is n old left)
    → Took (Ok tt) given log mid s.now (next_tick given s.now) → mid.next ≡ followers given s.now (next_tick given s.now)
    → FollowedAll (Some e) given log mid.next new (next_tick given s.now ∷ s.now) → Left (Some e) given log new (LeavesOf given is (Ticks n))
steps-alone given log is n old mid new left k e one s took next followed = (
  followed.0,
  followed.2,
  s.on (Some e) followed.0 (subst (λ (m : ℕ). LeavesOf given s.now (Ticks m) (Some e) followed.0) (sym one)
      (one-alone given s.now followed.0 k e took.0 (leads-on (Some e) given log s.now mid new next followed))),
)

pub steps-refused : (given : Setup) (log : List LogRow) (is : List Input) (n : ℕ) (old new : OnCourse) (left k : ℕ) (e : Refusal) → left ≡ suc k → (s : Stepping given log is n old left) → Took (Err e) given log new s.now (next_tick given s.now)
    → Left (Some e) given log new (LeavesOf given is (Ticks n))
steps-refused given log is n old new left k e one s took =
    (s.now, took.1, s.on (Some e) s.now (subst (λ (m : ℕ). LeavesOf given s.now (Ticks m) (Some e) s.now) (sym one) (one-less given s.now k e took.0)))

pub steps-end : (given : Setup) (log : List LogRow) (is : List Input) (n : ℕ) (course : OnCourse) (k : ℕ) → k ≡ 0 → Stepping given log is n course k → Left None given log course (LeavesOf given is (Ticks n))
steps-end given log is n course k none s = (s.now, s.stands, s.on None s.now (subst (λ (m : ℕ). LeavesOf given s.now (Ticks m) None s.now) (sym none) ([], (refl, refl, refl))))
