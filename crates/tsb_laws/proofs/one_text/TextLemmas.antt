-- Two texts that a session may write to the same bytes are equal up to want of memory.
use Rattle.std.proofs.Common.{◌≡◌, ◌⊎◌, ℕ, zero, suc, false, List, [], ◌∷◌, ◌++◌, Option, Some, None, Ok, codes, sym, ap, ◌∙◌, subst, subst₂, true≢false, append-nil, inl, inr}
use Rattle.std.specs.Io.KnownBytes.{Consumes}
use Rattle.tsb_step.specs.tsb_types.declared.refusal.Refusal.{Refusal}
use Rattle.tsb_step.specs.tsb_types.declared.refusal.Refusal.TheVariants.{Memory}
use Rattle.tsb_step.specs.tsb_machine.declared.commands.MachineCommand.TheVariants as asks
use Rattle.tsb_step.specs.tsb_machine.declared.commands.Answer.{Answer}
use Rattle.tsb_step.specs.tsb_machine.declared.commands.Answer.TheVariants.{Refused}
use Rattle.tsb_step.specs.declared.inputs.Input.{Input}
use Rattle.tsb_step.specs.Play.{Cmd, remaining_after}
use Rattle.tsb_step.specs.Runs.{replay}
use Rattle.tsb_text.specs.tsb_command_text.declared.command.Command.{Command}
use Rattle.tsb_text.specs.tsb_command_text.declared.command.Command.TheVariants.{Step, Show, Quit}
use Rattle.tsb_text.specs.tsb_command_text.declared.command.Reading.{Reading}
use Rattle.tsb_text.specs.tsb_command_text.declared.command.Reading.TheVariants.{Skip, Bad, Lines, Do}
use Rattle.tsb_text.specs.tsb_command_text.Readings.{reading}
use Rattle.tsb_text.specs.tsb_lines.Lines.{lines_of}
use Rattle.tsb_text.specs.Answers.{Setup, Leads, GoesUnless, Asked, Ticked, Stopped, Steps, Answers, followers, followers_of, told, next_tick, refused_after, refused_line, line_in}
use Rattle.tsb_text.specs.Ended.{EndsLine, EndedSo}
use Rattle.tsb_text.specs.Replies.{laid}
use Rattle.tsb_text.specs.Text.{GoesOn, Says, IsAnswered, IsText}
use Rattle.tsb_text.specs.Written.{with_feed}
use Rattle.tsb_laws.specs.OneText.{memory_line, tells_memory, PartsAtMemory, AreEqualButForMemory, Session}
use Rattle.tsb_laws.proofs.one_text.AnswerLemmas.{answers-alike}
use Rattle.tsb_laws.proofs.one_text.LeadLemmas.{LedAlike, ends-refused, leads-alike, refused-apart, took-apart}
use Rattle.tsb_laws.proofs.one_text.PartLemmas.{ends-feed, ends-more, parts-here, parts-next, parts-before, parts-behind, equal-behind, parts-tell}

-- ## Answers to one command

-- the same lines, and the same inputs remain
record AreSame (text other : List ℕ) (left others : List Input) : Type 0 where
  texts : text ≡ other
  inputs : left ≡ others
  ended : EndsLine text

-- the same, or one of them says that memory ran out
AreAnswersAlike : List ℕ → List ℕ → List Input → List Input → Type 0
AreAnswersAlike text other left others = AreSame text other left others ⊎ (PartsAtMemory text other ⊎ PartsAtMemory other text)

-- a command that asks the bench once
asked-text : Setup → List Input → Cmd → Answer → Option Refusal → List ℕ
asked-text given is cmd a stop = with_feed (told given.is_wide cmd a (replay given.plan (remaining_after given.plan is cmd a))) ++ refused_after [] stop

asked-memory : (given : Setup) (is : List Input) (cmd : Cmd) (text other : List ℕ) (left : List Input) (x : Asked given is cmd text left) →
    x.answer ≡ Refused Memory → PartsAtMemory text other
unfolding asked-text
asked-memory given is cmd text other left x memory =
    parts-here text other (refused_after [] x.stop) (x.line ∙ ap (λ (a : Answer). asked-text given is cmd a x.stop) memory)

-- what follows the same answer
asked-led : (given : Setup) (is : List Input) (cmd : Cmd) (text other : List ℕ) (left others : List Input) (x : Asked given is cmd text left) (y : Asked given is cmd other others) →
    x.answer ≡ y.answer → LedAlike x.stop y.stop left others
asked-led given is cmd text other left others x y same =
    leads-alike given (remaining_after given.plan is cmd y.answer) (followers_of given is cmd y.answer) x.stop y.stop left others
    (subst (λ (a : Answer). Leads given (remaining_after given.plan is cmd a) (followers_of given is cmd a) x.stop left) same x.left) y.left

asked-same : (given : Setup) (is : List Input) (cmd : Cmd) (text other : List ℕ) (left others : List Input) (x : Asked given is cmd text left) (y : Asked given is cmd other others) →
    x.answer ≡ y.answer → AreAnswersAlike text other left others
unfolding AreAnswersAlike asked-text
asked-same given is cmd text other left others x y same =
    let line : List ℕ = with_feed (told given.is_wide cmd y.answer (replay given.plan (remaining_after given.plan is cmd y.answer))) in
    let one : text ≡ line ++ refused_after [] x.stop = x.line ∙ ap (λ (a : Answer). asked-text given is cmd a x.stop) same in
    let ended : EndsLine line = ends-feed (told given.is_wide cmd y.answer (replay given.plan (remaining_after given.plan is cmd y.answer))) in
    elim (asked-led given is cmd text other left others x y same) [
      | inl led ↦ inl (record {
        texts = one ∙ ap (λ (stop : Option Refusal). line ++ refused_after [] stop) led.0 ∙ sym y.line;
        inputs = led.1;
        ended = subst EndsLine (sym one) (ends-more line (refused_after [] x.stop) ended (ends-refused x.stop));
      })
      | inr memory ↦ elim memory [
        | inl m ↦ inr (inl (parts-next line text other [] (refused_after [] y.stop) ended
            (one ∙ ap (λ (stop : Option Refusal). line ++ refused_after [] stop) m ∙ ap (λ (l : List ℕ). line ++ l) (sym (append-nil (with_feed memory_line)))) y.line))
        | inr m ↦ inr (inr (parts-next line other text [] (refused_after [] x.stop) ended
            (y.line ∙ ap (λ (stop : Option Refusal). line ++ refused_after [] stop) m ∙ ap (λ (l : List ℕ). line ++ l) (sym (append-nil (with_feed memory_line)))) one))
      ]
    ]

asked-alike : (given : Setup) (is : List Input) (cmd : Cmd) (text other : List ℕ) (left others : List Input) → Asked given is cmd text left →
    Asked given is cmd other others → AreAnswersAlike text other left others
unfolding AreAnswersAlike
asked-alike given is cmd text other left others x y = elim (answers-alike given.plan is cmd x.answer y.answer x.right y.right) [
  | inl same ↦ asked-same given is cmd text other left others x y same
  | inr memory ↦ elim memory [
    | inl one ↦ inr (inl (asked-memory given is cmd text other left x one))
    | inr one ↦ inr (inr (asked-memory given is cmd other text others y one))
  ]
]

-- ## Ticks

stopped-memory : (given : Setup) (is : List Input) (text other : List ℕ) (left : List Input) (x : Stopped given is text left) →
    x.refusal ≡ Memory → PartsAtMemory text other
stopped-memory given is text other left x memory =
    parts-here text other [] (x.line ∙ ap (λ (e : Refusal). with_feed (refused_line e)) memory ∙ sym (append-nil (with_feed memory_line)))

-- a tick was taken in one, and refused in the other
ticked-stopped : (given : Setup) (is : List Input) (text rest other : List ℕ) (stop : Option Refusal) (mid left : List Input) → Ticked given is text rest stop mid → Stopped given is other left → PartsAtMemory other text
ticked-stopped given is text rest other stop mid left x y =
    stopped-memory given is other text left y (took-apart given.plan is (asks.Apply (next_tick given is)) y.refusal x.right y.right)

stopped-stopped : (given : Setup) (is : List Input) (text other : List ℕ) (left others : List Input) → Stopped given is text left → Stopped given is other others → AreAnswersAlike text other left others
unfolding AreAnswersAlike
stopped-stopped given is text other left others x y = elim (refused-apart given.plan is (asks.Apply (next_tick given is)) x.refusal y.refusal x.right y.right) [
  | inl same ↦ inl (record {
    texts = x.line ∙ ap (λ (e : Refusal). with_feed (refused_line e)) same ∙ sym y.line;
    inputs = x.left ∙ sym y.left;
    ended = subst EndsLine (sym x.line) (ends-feed (refused_line x.refusal));
  })
  | inr memory ↦ elim memory [
    | inl one ↦ inr (inl (stopped-memory given is text other left x one))
    | inr one ↦ inr (inr (stopped-memory given is other text others y one))
  ]
]

-- the same tick before both
alike-behind : (lines text other : List ℕ) (left others : List Input) → EndsLine lines → AreAnswersAlike text other left others → AreAnswersAlike (lines ++ text) (lines ++ other) left others
unfolding AreAnswersAlike
alike-behind lines text other left others ended (inl same) = inl (record {
  texts = ap (λ (l : List ℕ). lines ++ l) same.texts;
  inputs = same.inputs;
  ended = ends-more lines text ended same.ended;
})
alike-behind lines text other left others ended (inr (inl p)) = inr (inl (parts-behind lines text other ended p))
alike-behind lines text other left others ended (inr (inr p)) = inr (inr (parts-behind lines other text ended p))

alike-texts : (text other first second : List ℕ) (left others : List Input) → first ≡ text → second ≡ other → AreAnswersAlike text other left others → AreAnswersAlike first second left others
alike-texts text other first second left others one two alike = subst₂ (λ (t u : List ℕ). AreAnswersAlike t u left others) (sym one) (sym two) alike

-- two answers to so many ticks are alike, where these inputs remain
abbrev StepsAlike : Setup → ℕ → List Input → Type 0
StepsAlike given n is = (text other : List ℕ) (left others : List Input) → Steps given is n text left → Steps given is n other others → AreAnswersAlike text other left others

-- what is answered after a tick, where what follows it was refused so, if it was
abbrev GoesOnFrom : Setup → ℕ → Option Refusal → List Input → List ℕ → List Input → Type 0
GoesOnFrom given n stop mid rest left = GoesUnless stop (Steps given mid n rest left) ((rest ≡ []) × (left ≡ mid))

goes-on : (given : Setup) (n : ℕ) (stop : Option Refusal) (mid : List Input) → StepsAlike given n mid → (rest more : List ℕ) (left others : List Input)
    → GoesOnFrom given n stop mid rest left → GoesOnFrom given n stop mid more others → AreAnswersAlike (refused_after [] stop ++ rest) (refused_after [] stop ++ more) left others
unfolding AreAnswersAlike
goes-on given n None mid on rest more left others x y = on rest more left others x y
goes-on given n (Some e) mid on rest more left others x y = inl (record {
  texts = ap (λ (l : List ℕ). with_feed (refused_line e) ++ l) (x.0 ∙ sym y.0);
  inputs = x.1 ∙ sym y.1;
  ended = ends-more (with_feed (refused_line e)) rest (ends-feed (refused_line e)) (inl x.0);
})

ticked-same : (given : Setup) (n : ℕ) (is : List Input) (text other rest more : List ℕ) (stop : Option Refusal) (mid left others : List Input)
    → StepsAlike given n mid → Ticked given is text rest stop mid → Ticked given is other more stop mid
    → GoesOnFrom given n stop mid rest left → GoesOnFrom given n stop mid more others → AreAnswersAlike text other left others
ticked-same given n is text other rest more stop mid left others on x y goes go =
    let line : List ℕ = with_feed (line_in given.is_wide (replay given.plan (next_tick given is ∷ is))) in
    alike-texts (line ++ (refused_after [] stop ++ rest)) (line ++ (refused_after [] stop ++ more)) text other left others x.line y.line
    (alike-behind line (refused_after [] stop ++ rest) (refused_after [] stop ++ more) left others (ends-feed (line_in given.is_wide (replay given.plan (next_tick given is ∷ is))))
    (goes-on given n stop mid on rest more left others goes go))

-- one of them ran out of memory for what follows
ticked-memory : (given : Setup) (is : List Input) (text other rest more : List ℕ) (stop stops : Option Refusal) (mid mids : List Input)
    → Ticked given is text rest stop mid → Ticked given is other more stops mids → stop ≡ Some Memory → PartsAtMemory text other
ticked-memory given is text other rest more stop stops mid mids x y memory =
    let line : List ℕ = with_feed (line_in given.is_wide (replay given.plan (next_tick given is ∷ is))) in
    parts-next line text other rest (refused_after [] stops ++ more) (ends-feed (line_in given.is_wide (replay given.plan (next_tick given is ∷ is))))
    (x.line ∙ ap (λ (e : Option Refusal). line ++ (refused_after [] e ++ rest)) memory) y.line

ticked-ticked : (given : Setup) (n : ℕ) (is : List Input) (text other rest more : List ℕ) (stop stops : Option Refusal) (mid mids left others : List Input)
    → ((new : List Input) → StepsAlike given n new) → Ticked given is text rest stop mid → Ticked given is other more stops mids
    → GoesOnFrom given n stop mid rest left → GoesOnFrom given n stops mids more others → AreAnswersAlike text other left others
unfolding AreAnswersAlike
ticked-ticked given n is text other rest more stop stops mid mids left others on x y goes go =
    elim (leads-alike given (next_tick given is ∷ is) (followers given is (next_tick given is)) stop stops mid mids x.leads y.leads) [
      | inl led ↦ ticked-same given n is text other rest more stops mids left others (on mids)
          (subst₂ (λ (e : Option Refusal) (m : List Input). Ticked given is text rest e m) led.0 led.1 x) y
          (subst₂ (λ (e : Option Refusal) (m : List Input). GoesOnFrom given n e m rest left) led.0 led.1 goes) go
      | inr memory ↦ elim memory [
        | inl m ↦ inr (inl (ticked-memory given is text other rest more stop stops mid mids x y m))
        | inr m ↦ inr (inr (ticked-memory given is other text more rest stops stop mids mid y x m))
      ]
    ]

steps-alike : (given : Setup) (n : ℕ) (is : List Input) → StepsAlike given n is
unfolding AreAnswersAlike
steps-alike given zero is text other left others x y = inl (record { texts = x.0 ∙ sym y.0; inputs = x.1 ∙ sym y.1; ended = inl x.0 })
steps-alike given (suc n) is text other left others x y = elim x [
  | inl a ↦ elim y [
    | inl b ↦ ticked-ticked given n is text other a.0 b.0 a.1 b.1 a.2 b.2 left others (λ new. steps-alike given n new) a.3 b.3 a.4 b.4
    | inr b ↦ inr (inr (ticked-stopped given is text a.0 other a.1 a.2 others a.3 b))
  ]
  | inr a ↦ elim y [
    | inl b ↦ inr (inl (ticked-stopped given is other b.0 text b.1 b.2 left b.3 a))
    | inr b ↦ stopped-stopped given is text other left others a b
  ]
]

-- ## Every command

shown-alike : (given : Setup) (is : List Input) (text other : List ℕ) (left others : List Input) → Answers given is Show text left → Answers given is Show other others → AreAnswersAlike text other left others
unfolding AreAnswersAlike
shown-alike given is text other left others x y = inl (record {
  texts = x.0 ∙ sym y.0;
  inputs = x.1 ∙ sym y.1;
  ended = subst EndsLine (sym x.0) (ends-feed (line_in given.is_wide (replay given.plan is)));
})

quit-alike : (given : Setup) (is : List Input) (text other : List ℕ) (left others : List Input) → Answers given is Quit text left → Answers given is Quit other others → AreAnswersAlike text other left others
unfolding AreAnswersAlike
quit-alike given is text other left others x y = inl (record { texts = x.0 ∙ sym y.0; inputs = x.1 ∙ sym y.1; ended = inl x.0 })

answered-alike : (given : Setup) (is : List Input) (c : Command) (text other : List ℕ) (left others : List Input) → Answers given is c text left → Answers given is c other others → AreAnswersAlike text other left others
answered-alike given is (Step n) text other left others x y = steps-alike given n is text other left others x y
answered-alike given is Show text other left others x y = shown-alike given is text other left others x y
answered-alike given is Quit text other left others x y = quit-alike given is text other left others x y
answered-alike given is c text other left others x y = asked-alike given is _ text other left others x y

-- ## Lines

-- after two answers to a command
texts-behind : (Rest : List Input → List ℕ → Type 0) (text other rest more : List ℕ) (left others : List Input) →
    ((new : List Input) (v w : List ℕ) → Rest new v → Rest new w → AreEqualButForMemory v w) → Rest left rest → Rest others more →
    AreAnswersAlike text other left others → AreEqualButForMemory (text ++ rest) (other ++ more)
unfolding AreAnswersAlike
texts-behind Rest text other rest more left others on x y (inl same) =
    subst (λ (t : List ℕ). AreEqualButForMemory (text ++ rest) (t ++ more)) same.texts
    (equal-behind text rest more same.ended (on left rest more x (subst (λ (new : List Input). Rest new more) (sym same.inputs) y)))
texts-behind Rest text other rest more left others on x y (inr (inl p)) = inr (inl (parts-before text other rest more p))
texts-behind Rest text other rest more left others on x y (inr (inr p)) = inr (inr (parts-before other text more rest p))

more-equal : (c : Command) (Rest : List ℕ → Type 0) (text other : List ℕ) → ((v w : List ℕ) → Rest v → Rest w → AreEqualButForMemory v w) →
    GoesOn c Rest text → GoesOn c Rest other → AreEqualButForMemory text other
more-equal Quit Rest text other on x y = inl (x ∙ sym y)
more-equal c Rest text other on x y = on text other x y

says-equal : (given : Setup) (r : Reading) (is : List Input) (Rest : Setup → List Input → List ℕ → Type 0) (text other : List ℕ) →
    ((now : Setup) (new : List Input) (v w : List ℕ) → Rest now new v → Rest now new w → AreEqualButForMemory v w) → Says given r is text Rest → Says given r is other Rest → AreEqualButForMemory text other
says-equal given Skip is Rest text other on x y = on given is text other x y
says-equal given Bad is Rest text other on x y =
    subst₂ AreEqualButForMemory (sym x.1) (sym y.1)
    (equal-behind (with_feed (codes "bad command")) x.0 y.0 (ends-feed (codes "bad command")) (on given is x.0 y.0 x.2 y.2))
says-equal given (Lines is_wide) is Rest text other on x y =
    subst₂ AreEqualButForMemory (sym x.1) (sym y.1)
    (equal-behind (with_feed (codes "ok")) x.0 y.0 (ends-feed (codes "ok")) (on (laid is_wide given) is x.0 y.0 x.2 y.2))
says-equal given (Do c) is Rest text other on x y =
    subst₂ AreEqualButForMemory (sym x.4) (sym y.4)
    (texts-behind (λ new text. GoesOn c (Rest given new) text) x.0 y.0 x.1 y.1 x.2 y.2 (λ new v w. more-equal c (Rest given new) v w (on given new)) x.5 y.5 (answered-alike given is c x.0 y.0 x.2 y.2 x.3 y.3))

lines-equal : (given : Setup) (ls : List (List ℕ)) (is : List Input) (text other : List ℕ) → IsAnswered given is ls text → IsAnswered given is ls other → AreEqualButForMemory text other
lines-equal given [] is text other x y = inl (x ∙ sym y)
lines-equal given (l ∷ ls) is text other x y =
    says-equal given (reading l) is (λ now new rest. IsAnswered now new ls rest) text other (λ now new v w. lines-equal now ls new v w) x y

-- ## Texts

pub texts-part : (given : Setup) (is : List Input) (bytes text other : List ℕ) → IsText given is bytes text → IsText given is bytes other → AreEqualButForMemory text other
texts-part given is bytes text other x y = lines-equal given (lines_of bytes) is text other x y

none-tells : (text other : List ℕ) → PartsAtMemory text other → tells_memory text ≡ false → ⊥
none-tells text other p none = true≢false (sym (parts-tell text other p) ∙ none)

equal-untold : (text other : List ℕ) → AreEqualButForMemory text other → tells_memory text ≡ false → tells_memory other ≡ false → text ≡ other
equal-untold text other (inl same) one two = same
equal-untold text other (inr (inl p)) one two = absurd (none-tells text other p one)
equal-untold text other (inr (inr p)) one two = absurd (none-tells other text p two)

pub one-text : (given : Setup) (is : List Input) (bytes text other : List ℕ) → IsText given is bytes text → IsText given is bytes other →
    tells_memory text ≡ false → tells_memory other ≡ false → text ≡ other
one-text given is bytes text other x y = equal-untold text other (texts-part given is bytes text other x y)

-- ## Sessions

text-of : (given : Setup) (bytes : List ℕ) (left : Option (List ℕ)) (read written : List ℕ) → Consumes (Some bytes) left read → EndedSo (Ok tt) given left read written → IsText given [] bytes written
text-of given bytes None read written taken so = absurd taken
text-of given bytes (Some rest) read written taken (inl x) =
    subst (λ (b : List ℕ). IsText given [] b written) (sym (taken ∙ ap (λ (more : List ℕ). read ++ more) x.0 ∙ append-nil read)) x.1
text-of given bytes (Some rest) read written taken (inr x) = subst (λ (b : List ℕ). IsText given [] b written) (sym taken) (x.1.all rest)

session-text : (given : Setup) (bytes : List ℕ) (s : Session given bytes) → IsText given [] bytes s.ended.written
session-text given bytes s = text-of given bytes s.left s.ended.read s.ended.written s.ended.taken s.ended.so

pub sessions-one : (given : Setup) (bytes : List ℕ) (session other : Session given bytes) → tells_memory session.ended.written ≡ false →
    tells_memory other.ended.written ≡ false → session.ended.written ≡ other.ended.written
sessions-one given bytes session other = one-text given [] bytes session.ended.written other.ended.written (session-text given bytes session) (session-text given bytes other)
