-- What a command comes to: there is some answer to each, and where nothing is said besides it is a session's.
use Rattle.std.proofs.Common.{◌≡◌, ℕ, zero, suc, Bool, true, false, if◌then◌else◌, length, nat_lt, List, [], ◌∷◌, ◌++◌, Option, None, Some, refl, ap, ◌∙◌, inl, inr}
use Rattle.tsb_objects.specs.tsb_types.declared.refusal.Refusal.{Refusal}
use Rattle.tsb_bench.specs.tsb_machine.declared.commands.MachineCommand.TheVariants as asks
use Rattle.tsb_bench.specs.tsb_machine.declared.commands.Answer.{Answer}
use Rattle.tsb_bench.specs.tsb_machine.declared.commands.Answer.TheVariants.{Changed, Moved, Took}
use Rattle.tsb_bench.specs.tsb_step.declared.inputs.Input.{Input}
use Rattle.tsb_bench.specs.tsb_step.Play.{Cmd, IsRight, remaining_after, run}
use Rattle.tsb_bench.specs.tsb_step.Watches.{TellsLastChange}
use Rattle.tsb_objects.specs.tsb_types.declared.watch.Watch.{Watch}
use Rattle.tsb_command_text.specs.declared.command.Command.{Command}
use Rattle.tsb_command_text.specs.declared.command.Command.TheVariants.{Step, Show, Quit}
use Rattle.tsb_bench.specs.tsb_step.Runs.{replay}
use Rattle.tsb_dialog.specs.Said.{with_feed}
use Rattle.tsb_text.specs.Answers.{Answers, Asked, GoesUnless, Leads, Setup, Steps, followers, followers_of, line_in, next_tick, refused_after, told}
use Rattle.tsb_text.specs.Obeys.{AsksOnce, Besides, Obeys, TakesTicks, before_line, news, news_of, nothing_besides, or_refusal, refusal_in, trail}
use Rattle.tsb_text.specs.Tasks.{task_of}
use Rattle.tsb_text.specs.declared.task.Task.{Task}
use Rattle.tsb_text.specs.declared.task.Task.TheVariants as tasks
use Rattle.tsb_text.specs.declared.task.Task.TheVariants.{Ask, Ticks}
use Rattle.tsb_text.proofs.TextLemmas.{right-input, some-leads, some-right}
use Rattle.tsb_text.proofs.WatchLemmas.{some-change}

-- ## There is some answer

-- more ticks come only where nothing was refused
pub more-ticks : (given : Setup) (besides : Besides) (n : ℕ) (stop : Option Refusal) (left : List Input)
    → (text : List ℕ) × (refusal : Option Refusal) × (new : List Input) × TakesTicks given besides left n text refusal new
    → (text : List ℕ) × (refusal : Option Refusal) × (new : List Input) × GoesUnless stop (TakesTicks given besides left n text refusal new) ((text ≡ []) × (refusal ≡ stop) × (new ≡ left))
more-ticks given besides n None left more = more
more-ticks given besides n (Some e) left more = ([], Some e, left, (refl, refl, refl))

pub some-ticks : (given : Setup) (besides : Besides) (n : ℕ) (is : List Input) → (text : List ℕ) × (refusal : Option Refusal) × (left : List Input) × TakesTicks given besides is n text refusal left
some-ticks given besides zero is = ([], None, is, (refl, refl, refl))
some-ticks given besides (suc n) is = elim (right-input given is (next_tick given is)) [
  | inl took ↦
      let after : List Input = next_tick given is ∷ is in
      let next : List Input = followers given is (next_tick given is) in
      let f : (stop : Option Refusal) × (left : List Input) × Leads given after next stop left = some-leads given after next in
      let rest : (text : List ℕ) × (refusal : Option Refusal) × (new : List Input) × GoesUnless f.0 (TakesTicks given besides f.1 n text refusal new) ((text ≡ []) × (refusal ≡ f.0) × (new ≡ f.1)) =
      more-ticks given besides n f.0 f.1 (some-ticks given besides n f.1) in
      (_, rest.1, rest.2, inl (rest.0, f.0, f.1, record { right = took; leads = f.2; line = refl }, rest.3))
  | inr refused ↦ (_, _, is, inr (record { why = refused.0; right = refused.1; line = refl; refused = refl; left = refl }))
]

-- a right answer says what is left once what follows was taken or refused, and why it was refused
pub asks-once : (given : Setup) (is : List Input) (cmd : Cmd) (a : Answer) (stop : Option Refusal) (left : List Input) → IsRight given.plan is cmd a
    → Leads given (remaining_after given.plan is cmd a) (followers_of given is cmd a) stop left → (text : List ℕ) × AsksOnce given nothing_besides is cmd text (or_refusal (refusal_in a) stop) left
asks-once given is cmd a stop left right leads = (_, record { answer = a; right = right; stop = stop; left = leads; line = refl; refused = refl })

some-asked : (given : Setup) (is : List Input) (cmd : Cmd) → (refusal : Option Refusal) × (left : List Input) × (text : List ℕ) × AsksOnce given nothing_besides is cmd text refusal left
some-asked given is cmd =
    let a : (a : Answer) × IsRight given.plan is cmd a = some-right given is cmd in
    let after : List Input = remaining_after given.plan is cmd a.0 in
    let next : List Input = followers_of given is cmd a.0 in
    let f : (stop : Option Refusal) × (left : List Input) × Leads given after next stop left = some-leads given after next in
    let asked : (text : List ℕ) × AsksOnce given nothing_besides is cmd text (or_refusal (refusal_in a.0) f.0) f.1 = asks-once given is cmd a.0 f.0 f.1 a.1 f.2 in
    (_, _, asked.0, asked.1)

-- a question leaves all as it was
pub when-left : (given : Setup) (is : List Input) (watch : Watch) → (text : List ℕ) × Obeys given nothing_besides is (Ask (asks.When watch)) text None is
when-left given is watch =
    let change : (t : Option ℕ) × TellsLastChange watch (run given.plan is) t = some-change watch (run given.plan is) in
    asks-once given is (asks.When watch) (Changed change.0) None is change.1 (refl, refl)

-- whatever is asked of a session leaves something
pub some-obeyed : (given : Setup) (is : List Input) (task : Task) → (refusal : Option Refusal) × (left : List Input) × (text : List ℕ) × Obeys given nothing_besides is task text refusal left
some-obeyed given is (Ticks n) =
    let s : (text : List ℕ) × (refusal : Option Refusal) × (left : List Input) × TakesTicks given nothing_besides is n text refusal left = some-ticks given nothing_besides n is in
    (s.1, s.2, s.0, s.3)
some-obeyed given is tasks.Show = (None, is, _, (refl, refl, refl))
some-obeyed given is tasks.Quit = (None, is, _, (refl, refl, refl))
some-obeyed given is (Ask cmd) = some-asked given is cmd

-- ## A session says nothing besides

nothing-before : (given : Setup) (is : List Input) (cmd : Cmd) (a : Answer) → IsRight given.plan is cmd a → before_line [] a (news_of nothing_besides.tells given is cmd) ≡ []
nothing-before given is (asks.Apply i) Took right = refl
nothing-before given is (asks.Apply i) Moved right = refl
nothing-before given is (asks.Apply i) a right = refl
nothing-before given is cmd Took right = absurd right
nothing-before given is cmd Moved right = refl
nothing-before given is cmd a right = refl

nothing-behind : (given : Setup) (is next left : List Input) → trail nothing_besides.tells given is next left ≡ []
nothing-behind given is [] left = refl
nothing-behind given is (i ∷ next) left = go (nat_lt (length is) (length left)) (nothing-behind given (i ∷ is) next left)
  where
    go : (b : Bool) → trail nothing_besides.tells given (i ∷ is) next left ≡ []
        → (if b then news nothing_besides.tells given is i ++ trail nothing_besides.tells given (i ∷ is) next left else []) ≡ []
    go true later = later
    go false later = refl

plain-once : (given : Setup) (is : List Input) (cmd : Cmd) (text : List ℕ) (refusal : Option Refusal) (new : List Input) → AsksOnce given nothing_besides is cmd text refusal new → Asked given is cmd text new
plain-once given is cmd text refusal new o =
    let after : List Input = remaining_after given.plan is cmd o.answer in
    let next : List Input = followers_of given is cmd o.answer in
    record {
      answer = o.answer;
      right = o.right;
      stop = o.stop;
      left = o.left;
      line = o.line
          ∙ (λ j. (nothing-before given is cmd o.answer o.right j ++ nothing-behind given after next new j) ++ (with_feed (told given.is_wide cmd o.answer (replay given.plan after)) ++ refused_after [] o.stop));
    }

plain-more : (stop refusal : Option Refusal) (rest : List ℕ) (left new : List Input) (More Less : Type 0) → (More → Less) → GoesUnless stop More ((rest ≡ []) × (refusal ≡ stop) × (new ≡ left))
    → GoesUnless stop Less ((rest ≡ []) × (new ≡ left))
plain-more None refusal rest left new More Less plain g = plain g
plain-more (Some e) refusal rest left new More Less plain g = (g.0, g.2)

plain-ticks : (given : Setup) (n : ℕ) (is : List Input) (text : List ℕ) (refusal : Option Refusal) (new : List Input) → TakesTicks given nothing_besides is n text refusal new → Steps given is n text new
plain-ticks given zero is text refusal new t = (t.0, t.2)
plain-ticks given (suc n) is text refusal new (inl t) =
    let after : List Input = next_tick given is ∷ is in
    inl (
      t.0,
      t.1,
      t.2,
      record {
        right = t.3.right;
        leads = t.3.leads;
        line = t.3.line
            ∙ ap (λ (v : List ℕ). v ++ (with_feed (line_in given.is_wide (replay given.plan after)) ++ (refused_after [] t.1 ++ t.0))) (nothing-behind given after (followers given is (next_tick given is)) t.2);
      },
      plain-more t.1 refusal t.0 t.2 new (TakesTicks given nothing_besides t.2 n t.0 refusal new) (Steps given t.2 n t.0 new) (λ more. plain-ticks given n t.2 t.0 refusal new more) t.4,
    )
plain-ticks given (suc n) is text refusal new (inr t) = inr (record { refusal = t.why; right = t.right; line = t.line; left = t.left })

pub plain-answers : (given : Setup) (is : List Input) (c : Command) (text : List ℕ) (refusal : Option Refusal) (new : List Input) → Obeys given nothing_besides is (task_of c) text refusal new → Answers given is c text new
plain-answers given is (Step n) text refusal new o = plain-ticks given n is text refusal new o
plain-answers given is Show text refusal new o = (o.0, o.2)
plain-answers given is Quit text refusal new o = (o.0, o.2)
plain-answers given is c text refusal new o = plain-once given is _ text refusal new o
