-- Texts of sessions: there is one for all bytes, and of a long line the first bytes tell as much as all.
use Rattle.std.proofs.Common.{◌≡◌, ℕ, ◌+◌, ◌<◌, ◌≤◌, List, [], ◌∷◌, ◌++◌, length, refl, sym, arith, rules, subst, zero, suc, true, false, cond, eqb, Bool, length-append, ◌⊎◌, inl, inr, nat_lt, Some, None}
use Rattle.std.proofs.lemmas.Bool.Decides.{eqb_tells}
use Rattle.std.specs.declared.option.Option.{Option}
use Rattle.tsb_objects.specs.tsb_types.declared.refusal.Refusal.{Refusal}
use Rattle.tsb_objects.specs.tsb_plan.Plan.{Plan}
use Rattle.tsb_bench.specs.tsb_machine.declared.commands.MachineCommand.TheVariants as asks
use Rattle.tsb_bench.specs.tsb_machine.declared.commands.Answer.{Answer}
use Rattle.tsb_bench.specs.tsb_machine.declared.commands.Answer.TheVariants.{Took, Refused, Undone, Moved, Nothing, Changed}
use Rattle.tsb_bench.specs.tsb_step.declared.inputs.Input.{Input}
use Rattle.tsb_bench.specs.tsb_step.Play.{Cmd, IsRight, remaining_after, run}
use Rattle.tsb_bench.specs.tsb_step.Runs.{replay}
use Rattle.tsb_bench.specs.tsb_step.Step.{kind_of, verdict}
use Rattle.tsb_bench.specs.tsb_step.Watches.{TellsLastChange}
use Rattle.tsb_command_text.specs.declared.command.Command.{Command}
use Rattle.tsb_command_text.specs.declared.command.Command.TheVariants.{Step, Show, Quit}
use Rattle.tsb_command_text.specs.declared.command.Reading.{Reading}
use Rattle.tsb_command_text.specs.declared.command.Reading.TheVariants.{Skip, Bad, Lines, Do}
use Rattle.tsb_command_text.specs.Readings.{reading}
use Rattle.tsb_lines.specs.Lines.{lines_of, split, ended, kept, onto_first, without_return, HasNoFeed}
use Rattle.tsb_lines.proofs.KeptLemmas.{feedless-kept, kept-tells}
use Rattle.tsb_lines.proofs.LineLemmas.{length-return}
use Rattle.tsb_text.specs.Answers.{Answers, Asked, GoesUnless, Leads, Setup, Steps, followers, followers_of, next_tick}
use Rattle.tsb_text.specs.Replies.{laid}
use Rattle.tsb_text.specs.Text.{GoesOn, Says, IsAnswered, IsText}
use Rattle.tsb_bench.proofs.tsb_step.RefusalLemmas.{refuses}
use Rattle.tsb_text.proofs.WatchLemmas.{some-change}

-- ## There is an answer to each command: one that does not run out of memory

pub right-input : (given : Setup) (is : List Input) (i : Input) → IsRight given.plan is (asks.Apply i) Took ⊎ ((e : Refusal) × IsRight given.plan is (asks.Apply i) (Refused e))
right-input given is i = at (verdict (replay given.plan is) i) refl
  where
    at : (found : Option Refusal) → verdict (replay given.plan is) i ≡ found → IsRight given.plan is (asks.Apply i) Took ⊎ ((e : Refusal) × IsRight given.plan is (asks.Apply i) (Refused e))
    at None e = inl e
    at (Some x) e = inr (x, refuses (replay given.plan is) i x e)

-- what follows an input is taken or refused, if something does
pub some-leads : (given : Setup) (is next : List Input) → (stop : Option Refusal) × (left : List Input) × Leads given is next stop left
some-leads given is [] = (None, is, (refl, refl))
some-leads given is (i ∷ next) = elim (right-input given is i) [
  | inl took ↦
      (let rest : (stop : Option Refusal) × (left : List Input) × Leads given (i ∷ is) next stop left = some-leads given (i ∷ is) next in
      (rest.0, rest.1, inl (took, rest.2)))
  | inr refused ↦ (Some refused.0, is, inr (record { why = refused.0; right = refused.1; refused = refl; left = refl }))
]

-- more steps come only where nothing was refused
more-steps : (given : Setup) (n : ℕ) (stop : Option Refusal) (left : List Input) → (text : List ℕ) × (new : List Input) × Steps given left n text new
    → (text : List ℕ) × (new : List Input) × GoesUnless stop (Steps given left n text new) ((text ≡ []) × (new ≡ left))
more-steps given n None left more = more
more-steps given n (Some e) left more = ([], left, (refl, refl))

pub some-steps : (given : Setup) (n : ℕ) (is : List Input) → (text : List ℕ) × (left : List Input) × Steps given is n text left
some-steps given zero is = ([], is, (refl, refl))
some-steps given (suc n) is = elim (right-input given is (next_tick given is)) [
  | inl took ↦
      let after : List Input = next_tick given is ∷ is in
      let next : List Input = followers given is (next_tick given is) in
      let f : (stop : Option Refusal) × (left : List Input) × Leads given after next stop left = some-leads given after next in
      let rest : (text : List ℕ) × (new : List Input) × GoesUnless f.0 (Steps given f.1 n text new) ((text ≡ []) × (new ≡ f.1)) = more-steps given n f.0 f.1 (some-steps given n f.1) in
      (_, rest.1, inl (rest.0, f.0, f.1, record { right = took; leads = f.2; line = refl }, rest.2))
  | inr refused ↦ (_, is, inr (record { refusal = refused.0; right = refused.1; line = refl; left = refl }))
]

right-back : (plan : Plan) (is : List Input) (n : ℕ) → (a : Answer) × IsRight plan is (asks.Back n) a
right-back plan is n = at (nat_lt (replay plan is).now n) refl
  where
    at : (b : Bool) → nat_lt (replay plan is).now n ≡ b → (a : Answer) × IsRight plan is (asks.Back n) a
    at true e = (Nothing, search (rules, e))
    at false e = (Moved, search (rules, e))

right-seek : (plan : Plan) (is : List Input) (t : ℕ) → (a : Answer) × IsRight plan is (asks.Seek t) a
right-seek plan is t = at (nat_lt (replay plan is).now t) refl
  where
    at : (b : Bool) → nat_lt (replay plan is).now t ≡ b → (a : Answer) × IsRight plan is (asks.Seek t) a
    at true e = (Nothing, search (rules, e))
    at false e = (Moved, search (rules, e))

-- some answer is right, whatever the bench is asked
pub some-right : (given : Setup) (is : List Input) (cmd : Cmd) → (a : Answer) × IsRight given.plan is cmd a
some-right given is (asks.Apply i) = elim (right-input given is i) [
  | inl took ↦ (Took, took)
  | inr refused ↦ (Refused refused.0, refused.1)
]
some-right given [] asks.Undo = (Nothing, refl)
some-right given (i ∷ is) asks.Undo = (Undone (kind_of i), refl)
some-right given is (asks.Back n) = right-back given.plan is n
some-right given is (asks.Seek t) = right-seek given.plan is t
some-right given is (asks.When watch) =
    let change : (t : Option ℕ) × TellsLastChange watch (run given.plan is) t = some-change watch (run given.plan is) in
    (Changed change.0, change.1)

asked : (given : Setup) (is : List Input) (cmd : Cmd) → (text : List ℕ) × (left : List Input) × Asked given is cmd text left
asked given is cmd =
    let a : (a : Answer) × IsRight given.plan is cmd a = some-right given is cmd in
    let after : List Input = remaining_after given.plan is cmd a.0 in
    let next : List Input = followers_of given is cmd a.0 in
    let f : (stop : Option Refusal) × (left : List Input) × Leads given after next stop left = some-leads given after next in
    (_, f.1, record { answer = a.0; right = a.1; stop = f.0; left = f.2; line = refl })

pub some-answer : (given : Setup) (is : List Input) (c : Command) → (text : List ℕ) × (left : List Input) × Answers given is c text left
some-answer given is (Step n) = some-steps given n is
some-answer given is Show = (_, _, (refl, refl))
some-answer given is Quit = (_, _, (refl, refl))
some-answer given is c = asked given is _

pub some-more : (c : Command) (Rest : List ℕ → Type 0) → (t : List ℕ) × Rest t → (t : List ℕ) × GoesOn c Rest t
some-more Quit Rest k = ([], refl)
some-more c Rest k = k

pub some-says : (given : Setup) (r : Reading) (is : List Input) (Rest : Setup → List Input → List ℕ → Type 0) → ((now : Setup) (new : List Input) → (t : List ℕ) × Rest now new t)
    → (t : List ℕ) × Says given r is t Rest
some-says given Skip is Rest k = k given is
some-says given Bad is Rest k = (_, ((k given is).0, refl, (k given is).1))
some-says given (Lines is_wide) is Rest k = (_, ((k (laid is_wide given) is).0, refl, (k (laid is_wide given) is).1))
some-says given (Do c) is Rest k = let a : (text : List ℕ) × (left : List Input) × Answers given is c text left = some-answer given is c in
    let more : (t : List ℕ) × GoesOn c (Rest given a.1) t = some-more c (Rest given a.1) (k given a.1) in
    (a.0 ++ more.0, (a.0, more.0, a.1, a.2, refl, more.1))

pub some-answered : (given : Setup) (ls : List (List ℕ)) (is : List Input) → (t : List ℕ) × IsAnswered given is ls t
some-answered given [] is = ([], refl)
some-answered given (l ∷ ls) is = some-says given (reading l) is (λ now new rest. IsAnswered now new ls rest) (λ now new. some-answered now ls new)

pub some-text : (given : Setup) (is : List Input) (bytes : List ℕ) → (t : List ℕ) × IsText given is bytes t
some-text given is bytes = some-answered given (lines_of bytes) is

-- ## Of a long line the first 202 bytes tell as much as all

-- h before the first line
onto_line : List ℕ → List (List ℕ) → List (List ℕ)
onto_line h [] = (h ++ []) ∷ []
onto_line h (l ∷ ls) = (h ++ l) ∷ ls

onto-nothing : (b : ℕ) (ls : List (List ℕ)) → onto_first b ls ≡ onto_line [] (onto_first b ls)
unfolding onto_line
onto-nothing b [] = refl
onto-nothing b (l ∷ ls) = refl

onto-cons : (b : ℕ) (h : List ℕ) (ls : List (List ℕ)) → onto_first b (onto_line h ls) ≡ onto_line (b ∷ h) ls
unfolding onto_line
onto-cons b h [] = refl
onto-cons b h (l ∷ ls) = refl

-- bytes without a feed stand before the first line
split-front : (h x : List ℕ) → HasNoFeed h → split (h ++ x) ≡ onto_line h (split x)
unfolding onto_line
split-front [] [] f = refl
split-front [] (c ∷ x) f = elim (eqb c 10) as (λ t. cond t ([] ∷ split x) (onto_first c (split x)) ≡ onto_line [] (cond t ([] ∷ split x) (onto_first c (split x)))) [ true ↦ refl | false ↦ onto-nothing c (split x) ]
split-front (b ∷ h) x f =
    let rest : split (h ++ x) ≡ onto_line h (split x) = split-front h x f.1 in
    elim (eqb_tells b 10) [ inl z ↦ absurd (f.0 z.1) | inr on ↦ rw (on.0, rest) (onto-cons b h (split x)) ]

pub reading-long : (line : List ℕ) → 200 < length line → reading line ≡ Bad
reading-long line long = let lt : nat_lt 200 (length line) ≡ true = search (rules, long) in rw lt refl

pub reading-returned : (raw : List ℕ) → 202 ≤ length raw → reading (without_return raw) ≡ Bad
reading-returned raw long = let more : length raw ≤ length (without_return raw) + 1 = length-return raw in reading-long (without_return raw) (omega (arith, more, long))

-- what is kept of the first line is answered as the line is
kept-first : (given : Setup) (is : List Input) (line l : List ℕ) (ls : List (List ℕ)) (t : List ℕ) → IsAnswered given is (ended ((kept 202 line ++ l) ∷ ls)) t → IsAnswered given is (ended ((line ++ l) ∷ ls)) t
kept-first given is line l [] t a =
    let same : reading (kept 202 line ++ l) ≡ reading (line ++ l) =
    kept-tells (λ (v : List ℕ). reading (v ++ l)) 202 Bad (λ v long. let all : length (v ++ l) ≡ length v + length l = length-append v l in reading-long (v ++ l) (omega (arith, all, long))) line in
    subst (λ (r : Reading). Says given r is t (λ now new rest. rest ≡ [])) same a
kept-first given is line l (k ∷ ks) t a =
    let same : reading (without_return (kept 202 line ++ l)) ≡ reading (without_return (line ++ l)) =
    kept-tells (λ (v : List ℕ). reading (without_return (v ++ l))) 202 Bad (λ v long. let all : length (v ++ l) ≡ length v + length l = length-append v l in reading-returned (v ++ l) (omega (arith, all, long))) line in
    subst (λ (r : Reading). Says given r is t (λ now new rest. IsAnswered now new (ended (k ∷ ks)) rest)) same a

-- where bytes begin with a line, what is kept of it serves
pub text-kept : (given : Setup) (is : List Input) (line more t : List ℕ) → HasNoFeed line → IsText given is (kept 202 line ++ more) t → IsText given is (line ++ more) t
unfolding onto_line
text-kept given is line more t f x =
    subst (λ (ls : List (List ℕ)). IsAnswered given is (ended ls) t) (sym (split-front line more f))
    (at (split more) (subst (λ (ls : List (List ℕ)). IsAnswered given is (ended ls) t) (split-front (kept 202 line) more (feedless-kept 202 line f)) x))
  where
    at : (ls : List (List ℕ)) → IsAnswered given is (ended (onto_line (kept 202 line) ls)) t → IsAnswered given is (ended (onto_line line ls)) t
    at [] a = kept-first given is line [] [] t a
    at (l ∷ ls) a = kept-first given is line l ls t a
