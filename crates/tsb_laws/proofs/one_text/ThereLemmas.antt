-- There is a text to all bytes that does not say that memory ran out.
use Rattle.std.proofs.Common.{◌≡◌, ◌≢◌, ◌⊎◌, ℕ, zero, suc, nat_lt, Bool, true, false, List, [], ◌∷◌, ◌++◌, codes, Option, Some, None, refl, ap, ◌∙◌, rules, append_assoc, inl, inr}
use Rattle.tsb_step.specs.tsb_types.declared.refusal.Refusal.{Refusal}
use Rattle.tsb_step.specs.tsb_types.declared.refusal.Refusal.TheVariants.{Memory}
use Rattle.tsb_step.specs.tsb_types.declared.watch.Watch.{Watch}
use Rattle.tsb_step.specs.tsb_machine.declared.commands.MachineCommand.TheVariants as asks
use Rattle.tsb_step.specs.tsb_machine.declared.commands.Answer.{Answer}
use Rattle.tsb_step.specs.tsb_machine.declared.commands.Answer.TheVariants.{Took, Refused, Undone, Moved, Nothing, Changed}
use Rattle.tsb_step.specs.declared.inputs.Input.{Input}
use Rattle.tsb_step.specs.Play.{Cmd, IsRight, run, remaining_after}
use Rattle.tsb_step.specs.Runs.{replay}
use Rattle.tsb_step.specs.Step.{kind_of, verdict}
use Rattle.tsb_step.specs.Watches.{TellsLastChange}
use Rattle.tsb_text.specs.tsb_command_text.declared.command.Command.{Command}
use Rattle.tsb_text.specs.tsb_command_text.declared.command.Command.TheVariants.{Step, Back, Seek, Undo, Show, When, Quit}
use Rattle.tsb_text.specs.tsb_command_text.declared.command.Reading.{Reading}
use Rattle.tsb_text.specs.tsb_command_text.declared.command.Reading.TheVariants.{Skip, Bad, Lines, Do}
use Rattle.tsb_text.specs.tsb_command_text.Readings.{reading}
use Rattle.tsb_text.specs.tsb_lines.Lines.{lines_of}
use Rattle.tsb_text.specs.Answers.{Setup, Leads, GoesUnless, Asked, Steps, Answers, followers, followers_of, told, next_tick, refused_after, refused_line, line_in}
use Rattle.tsb_text.specs.Replies.{laid}
use Rattle.tsb_text.specs.Text.{GoesOn, Says, IsAnswered}
use Rattle.tsb_text.specs.Written.{with_feed}
use Rattle.tsb_step.proofs.RefusalLemmas.{never-memory, refuses}
use Rattle.tsb_text.proofs.WatchLemmas.{some-change}
use Rattle.tsb_laws.specs.OneText.{tells_memory, Untold}
use Rattle.tsb_laws.proofs.one_text.PlainLemmas.{IsPlain, plain-before, display-plain, taken-plain, refused-plain, undone-plain, when-plain, nothing-plain, bad-plain, ok-plain}

-- an answer that adds nothing to what a text says of memory
record Plain (IsAnswer : List ℕ → List Input → Type 0) : Type 0 where
  text : List ℕ
  left : List Input
  answers : IsAnswer text left
  tells : (rest : List ℕ) → tells_memory (text ++ rest) ≡ tells_memory rest

-- so of the answer to what asks the bench once, to ticks, and to any command
abbrev PlainAsked : Setup → List Input → Cmd → Type 0
PlainAsked given is cmd = Plain (λ text left. Asked given is cmd text left)

abbrev PlainSteps : Setup → List Input → ℕ → Type 0
PlainSteps given is n = Plain (λ text left. Steps given is n text left)

abbrev PlainAnswers : Setup → List Input → Command → Type 0
PlainAnswers given is c = Plain (λ text left. Answers given is c text left)

-- ## What follows

-- the verdict's answer to an input: that memory ran out is none
record IsRefused (given : Setup) (is : List Input) (i : Input) : Type 0 where
  refusal : Refusal
  right : IsRight given.plan is (asks.Apply i) (Refused refusal)
  other : refusal ≢ Memory

right-input : (given : Setup) (is : List Input) (i : Input) → IsRight given.plan is (asks.Apply i) Took ⊎ IsRefused given is i
right-input given is i = at (verdict (replay given.plan is) i) refl
  where
    at : (found : Option Refusal) → verdict (replay given.plan is) i ≡ found → IsRight given.plan is (asks.Apply i) Took ⊎ IsRefused given is i
    at None e = inl e
    at (Some x) e = inr (record {
      refusal = x;
      right = refuses (replay given.plan is) i x e;
      other = λ h. never-memory (replay given.plan is) i (e ∙ ap Some h);
    })

-- what follows is taken, or refused for another reason than that memory ran out
record IsLed (given : Setup) (is next : List Input) : Type 0 where
  stop : Option Refusal
  left : List Input
  leads : Leads given is next stop left
  tells : (rest : List ℕ) → tells_memory (refused_after [] stop ++ rest) ≡ tells_memory rest

led : (given : Setup) (is next : List Input) → IsLed given is next
led given is [] = record { stop = None; left = is; leads = (refl, refl); tells = λ rest. refl }
led given is (i ∷ next) = elim (right-input given is i) [
  | inl took ↦
      (let later : IsLed given (i ∷ is) next = led given (i ∷ is) next in
      record { stop = later.stop; left = later.left; leads = inl (took, later.leads); tells = later.tells })
  | inr refused ↦ record {
    stop = Some refused.refusal;
    left = is;
    leads = inr (record { why = refused.refusal; right = refused.right; refused = refl; left = refl });
    tells = λ rest. plain-before (refused_line refused.refusal) rest (refused-plain refused.refusal refused.other);
  }
]

-- ## What asks the bench once

asked : (given : Setup) (is : List Input) (cmd : Cmd) (a : Answer) → IsRight given.plan is cmd a →
    IsPlain (told given.is_wide cmd a (replay given.plan (remaining_after given.plan is cmd a))) → PlainAsked given is cmd
asked given is cmd a right plain =
    let next : IsLed given (remaining_after given.plan is cmd a) (followers_of given is cmd a) = led given (remaining_after given.plan is cmd a) (followers_of given is cmd a) in
    let line : List ℕ = told given.is_wide cmd a (replay given.plan (remaining_after given.plan is cmd a)) in
    record {
      text = with_feed line ++ refused_after [] next.stop;
      left = next.left;
      answers = record { answer = a; right = right; stop = next.stop; left = next.leads; line = refl };
      tells = λ rest.
          ap tells_memory (append_assoc (with_feed line) (refused_after [] next.stop) rest)
          ∙ plain-before line (refused_after [] next.stop ++ rest) plain
          ∙ next.tells rest;
    }

input-told : (given : Setup) (is : List Input) (i : Input) → PlainAsked given is (asks.Apply i)
input-told given is i = elim (right-input given is i) [
  | inl took ↦ asked given is (asks.Apply i) Took took (taken-plain i (replay given.plan (i ∷ is)))
  | inr refused ↦ asked given is (asks.Apply i) (Refused refused.refusal) refused.right (refused-plain refused.refusal refused.other)
]

undo-told : (given : Setup) (is : List Input) → PlainAsked given is asks.Undo
undo-told given [] = asked given [] asks.Undo Nothing refl nothing-plain
undo-told given (i ∷ is) = asked given (i ∷ is) asks.Undo (Undone (kind_of i)) refl (undone-plain (kind_of i))

back-told : (given : Setup) (is : List Input) (n : ℕ) → PlainAsked given is (asks.Back n)
back-told given is n = at (nat_lt (replay given.plan is).now n) refl
  where
    at : (b : Bool) → nat_lt (replay given.plan is).now n ≡ b → PlainAsked given is (asks.Back n)
    at true e = asked given is (asks.Back n) Nothing (search (rules, e)) nothing-plain
    at false e = asked given is (asks.Back n) Moved (search (rules, e)) (display-plain given.is_wide (replay given.plan (remaining_after given.plan is (asks.Back n) Moved)))

seek-told : (given : Setup) (is : List Input) (t : ℕ) → PlainAsked given is (asks.Seek t)
seek-told given is t = at (nat_lt (replay given.plan is).now t) refl
  where
    at : (b : Bool) → nat_lt (replay given.plan is).now t ≡ b → PlainAsked given is (asks.Seek t)
    at true e = asked given is (asks.Seek t) Nothing (search (rules, e)) nothing-plain
    at false e = asked given is (asks.Seek t) Moved (search (rules, e)) (display-plain given.is_wide (replay given.plan (remaining_after given.plan is (asks.Seek t) Moved)))

when-told : (given : Setup) (is : List Input) (watch : Watch) → PlainAsked given is (asks.When watch)
when-told given is watch =
    let change : (t : Option ℕ) × TellsLastChange watch (run given.plan is) t = some-change watch (run given.plan is) in
    asked given is (asks.When watch) (Changed change.0) change.1 (when-plain change.0)

-- ## Ticks

stop-told : (given : Setup) (is : List Input) (n : ℕ) → IsRefused given is (next_tick given is) → PlainSteps given is (suc n)
stop-told given is n refused = record {
  text = with_feed (refused_line refused.refusal);
  left = is;
  answers = inr (record { refusal = refused.refusal; right = refused.right; line = refl; left = refl });
  tells = λ rest. plain-before (refused_line refused.refusal) rest (refused-plain refused.refusal refused.other);
}

-- after a tick
goes-told : (given : Setup) (n : ℕ) (stop : Option Refusal) (left : List Input) → PlainSteps given left n →
    Plain (λ text new. GoesUnless stop (Steps given left n text new) ((text ≡ []) × (new ≡ left)))
goes-told given n None left later = record { text = later.text; left = later.left; answers = later.answers; tells = later.tells }
goes-told given n (Some e) left later = record { text = []; left = left; answers = (refl, refl); tells = λ rest. refl }

tick-told : (given : Setup) (is : List Input) (n : ℕ) → IsRight given.plan is (asks.Apply (next_tick given is)) Took → ((new : List Input) → PlainSteps given new n) → PlainSteps given is (suc n)
tick-told given is n took on =
    let next : IsLed given (next_tick given is ∷ is) (followers given is (next_tick given is)) = led given (next_tick given is ∷ is) (followers given is (next_tick given is)) in
    let later : Plain (λ text new. GoesUnless next.stop (Steps given next.left n text new) ((text ≡ []) × (new ≡ next.left))) = goes-told given n next.stop next.left (on next.left) in
    let line : List ℕ = line_in given.is_wide (replay given.plan (next_tick given is ∷ is)) in
    record {
      text = with_feed line ++ (refused_after [] next.stop ++ later.text);
      left = later.left;
      answers = inl (later.text, next.stop, next.left, record { right = took; leads = next.leads; line = refl }, later.answers);
      tells = λ rest.
          ap tells_memory (append_assoc (with_feed line) (refused_after [] next.stop ++ later.text) rest)
          ∙ plain-before line ((refused_after [] next.stop ++ later.text) ++ rest) (display-plain given.is_wide (replay given.plan (next_tick given is ∷ is)))
          ∙ ap tells_memory (append_assoc (refused_after [] next.stop) later.text rest)
          ∙ next.tells (later.text ++ rest)
          ∙ later.tells rest;
    }

steps-told : (given : Setup) (n : ℕ) (is : List Input) → PlainSteps given is n
steps-told given zero is = record { text = []; left = is; answers = (refl, refl); tells = λ rest. refl }
steps-told given (suc n) is = elim (right-input given is (next_tick given is)) [
  | inl took ↦ tick-told given is n took (λ new. steps-told given n new)
  | inr refused ↦ stop-told given is n refused
]

-- ## Every command

command-told : (given : Setup) (is : List Input) (c : Command) → PlainAnswers given is c
command-told given is (Step n) = steps-told given n is
command-told given is (Back n) = back-told given is n
command-told given is (Seek t) = seek-told given is t
command-told given is Undo = undo-told given is
command-told given is Show = record {
  text = with_feed (line_in given.is_wide (replay given.plan is));
  left = is;
  answers = (refl, refl);
  tells = λ rest. plain-before (line_in given.is_wide (replay given.plan is)) rest (display-plain given.is_wide (replay given.plan is));
}
command-told given is Quit = record { text = []; left = is; answers = (refl, refl); tells = λ rest. refl }
command-told given is (When w) = when-told given is w
command-told given is c = input-told given is _

-- ## Lines

record Told (P : List ℕ → Type 0) : Type 0 where
  text : List ℕ
  so : P text
  tells : tells_memory text ≡ false

more-told : (c : Command) (Rest : List ℕ → Type 0) → Told Rest → Told (GoesOn c Rest)
more-told Quit Rest later = record { text = []; so = refl; tells = refl }
more-told c Rest later = later

says-told : (given : Setup) (r : Reading) (is : List Input) (Rest : Setup → List Input → List ℕ → Type 0) → ((now : Setup) (new : List Input) → Told (Rest now new)) → Told (λ text. Says given r is text Rest)
says-told given Skip is Rest later = let next : Told (Rest given is) = later given is in record { text = next.text; so = next.so; tells = next.tells }
says-told given (Lines is_wide) is Rest later =
    let next : Told (Rest (laid is_wide given) is) = later (laid is_wide given) is in
    record {
      text = with_feed (codes "ok") ++ next.text;
      so = (next.text, refl, next.so);
      tells = plain-before (codes "ok") next.text ok-plain ∙ next.tells;
    }
says-told given Bad is Rest later =
    let next : Told (Rest given is) = later given is in
    record {
      text = with_feed (codes "bad command") ++ next.text;
      so = (next.text, refl, next.so);
      tells = plain-before (codes "bad command") next.text bad-plain ∙ next.tells;
    }
says-told given (Do c) is Rest later =
    let a : PlainAnswers given is c = command-told given is c in
    let next : Told (GoesOn c (Rest given a.left)) = more-told c (Rest given a.left) (later given a.left) in
    record { text = a.text ++ next.text; so = (a.text, next.text, a.left, a.answers, refl, next.so); tells = a.tells next.text ∙ next.tells }

lines-told : (given : Setup) (ls : List (List ℕ)) (is : List Input) → Told (IsAnswered given is ls)
lines-told given [] is = record { text = []; so = refl; tells = refl }
lines-told given (l ∷ ls) is =
    let all : Told (λ text. Says given (reading l) is text (λ now new rest. IsAnswered now new ls rest)) =
    says-told given (reading l) is (λ now new rest. IsAnswered now new ls rest) (λ now new. lines-told now ls new) in
    record { text = all.text; so = all.so; tells = all.tells }

pub there-is : (given : Setup) (is : List Input) (bytes : List ℕ) → Untold given is bytes
there-is given is bytes =
    let all : Told (IsAnswered given is (lines_of bytes)) = lines-told given (lines_of bytes) is in
    record { text = all.text; so = all.so; none = all.tells }
