-- No other answer reads like that of want of memory, and each is one line. So there is a text without that line.
use Rattle.std.proofs.Common.{◌≡◌, ◌≢◌, ℕ, ◌<◌, ◌≤◌, ◌+◌, ◌==◌, Bool, true, false, List, [], ◌∷◌, ◌++◌, map, codes, bytes_eq, Option, Some, None, refl, ap, ◌∙◌, arith, append_assoc}
use Rattle.std.specs.List.{list_any}
use Rattle.std.proofs.lemmas.Bool.Decides.{nat_tests}
use Rattle.tsb_step.specs.tsb_history.declared.kinds.Kind.{Kind}
use Rattle.tsb_step.specs.tsb_history.declared.kinds.Kind.TheVariants as kinds
use Rattle.tsb_step.specs.tsb_types.declared.lamp.Aspect.{Aspect}
use Rattle.tsb_step.specs.tsb_types.declared.lamp.Aspect.TheVariants as aspects
use Rattle.tsb_step.specs.tsb_types.declared.lamp.PedestrianAspect.{PedestrianAspect}
use Rattle.tsb_step.specs.tsb_types.declared.lamp.PedestrianAspect.TheVariants as pedestrian_aspects
use Rattle.tsb_step.specs.tsb_types.declared.refusal.Refusal.{Refusal}
use Rattle.tsb_step.specs.tsb_types.declared.refusal.Refusal.TheVariants.{Memory, NoSuchObject, OutOfRange, Busy, NotOwner, NotOpen, NotVerified, TooManyEdits, NoSuchPattern, NoSuchPreempt, TickLimit, InService}
use Rattle.tsb_step.specs.tsb_types.Lists.{run_from}
use Rattle.tsb_step.specs.tsb_rules.declared.rules.Rule.{Rule}
use Rattle.tsb_step.specs.tsb_rules.declared.rules.Rule.TheVariants.{K1, K2, K3, K4, K5, K6, K7, K8, K9, K10, K11, K12, K13, K14, K15, K16, K17, K18, K19, K20, K21, K22, K23, K24, K25, K26, K27, K28, K29}
use Rattle.tsb_plan_text.specs.RuleLines.{rule_line}
use Rattle.tsb_step.specs.tsb_heads.Heads.{Heads}
use Rattle.tsb_step.specs.declared.inputs.Input.{Input}
use Rattle.tsb_step.specs.declared.inputs.Input.TheVariants as inputs
use Rattle.tsb_step.specs.Signs.{display, local}
use Rattle.tsb_step.specs.State.{State}
use Rattle.tsb_step.specs.tsb_machine.declared.commands.MachineCommand.TheVariants.{Apply}
use Rattle.tsb_text.specs.tsb_lines.Digits.{digit}
use Rattle.tsb_text.specs.tsb_display_text.Line.{letter, pedestrian_letter, tick_field, local_field, preempt_digit, line_of, wide_line_of}
use Rattle.tsb_text.specs.tsb_lines.Lines.{split}
use Rattle.tsb_step.proofs.EditLemmas.{or_false}
use Rattle.tsb_text.specs.Answers.{preempt_in_service, line_in, refused_line, busy_line, undone_line, verified_line, taken_line, when_line}
use Rattle.tsb_text.specs.Written.{with_feed}
use Rattle.tsb_laws.specs.OneText.{memory_line, tells_memory}

-- ## Plain lines

abbrev has_feed : List ℕ → Bool
has_feed line = list_any (λ b. b == 10) line

-- a line, and another one than says that memory ran out
pub record IsPlain (line : List ℕ) : Type 0 where
  pub one : has_feed line ≡ false
  pub other : bytes_eq memory_line line ≡ false

split-line : (line text : List ℕ) → has_feed line ≡ false → split (line ++ 10 ∷ text) ≡ line ∷ split text
split-line [] text none = refl
split-line (b ∷ line) text none =
    let parts : ((b == 10) ≡ false) × (has_feed line ≡ false) = or_false (b == 10) (has_feed line) none in
    rw (parts.0, split-line line text parts.1) refl

-- such a line adds nothing to what a text says of memory
pub plain-before : (line text : List ℕ) → IsPlain line → tells_memory (with_feed line ++ text) ≡ tells_memory text
plain-before line text plain =
    ap tells_memory (append_assoc line (10 ∷ []) text) ∙ ap (list_any (bytes_eq memory_line)) (split-line line text plain.one) ∙ rw plain.other refl

-- ## Bytes that are no line feed

no-feed : (b : ℕ) → 10 < b → (b == 10) ≡ false
no-feed b over = grind (arith, nat_tests, over)

digit-over : (n unit : ℕ) → 10 < digit n unit
digit-over n unit = omega arith

letter-plain : (a : Aspect) → (letter a == 10) ≡ false
letter-plain aspects.Dark = refl
letter-plain aspects.Red = refl
letter-plain aspects.Yellow = refl
letter-plain aspects.Green = refl
letter-plain aspects.FlashingRed = refl
letter-plain aspects.FlashingYellow = refl

pedestrian-plain : (a : PedestrianAspect) → (pedestrian_letter a == 10) ≡ false
pedestrian-plain pedestrian_aspects.Dark = refl
pedestrian-plain pedestrian_aspects.DontWalk = refl
pedestrian-plain pedestrian_aspects.Clearance = refl
pedestrian-plain pedestrian_aspects.Walk = refl

-- a list of bytes that has none; a record, so that the list is known by it
record IsFeedless (line : List ℕ) : Type 0 where
  none : has_feed line ≡ false

no_more : IsFeedless []
no_more = record { none = refl }

more : (b : ℕ) (line : List ℕ) → (b == 10) ≡ false → IsFeedless line → IsFeedless (b ∷ line)
more b line first rest = record { none = rw first rest.none }

both : (line rest : List ℕ) → has_feed line ≡ false → IsFeedless rest → IsFeedless (line ++ rest)
both [] rest first next = next
both (b ∷ line) rest first next =
    let parts : ((b == 10) ≡ false) × (has_feed line ≡ false) = or_false (b == 10) (has_feed line) first in
    more b (line ++ rest) parts.0 (both line rest parts.1 next)

each : (f : ℕ → ℕ) (ps : List ℕ) → ((p : ℕ) → (f p == 10) ≡ false) → has_feed (map f ps) ≡ false
each f [] none = refl
each f (p ∷ ps) none = rw (none p) (each f ps none)

digits : (n unit : ℕ) (line : List ℕ) → IsFeedless line → IsFeedless (digit n unit ∷ line)
digits n unit line rest = more (digit n unit) line (no-feed (digit n unit) (digit-over n unit)) rest

tick-plain : (now : ℕ) → IsFeedless (tick_field now)
tick-plain now = digits now 1000000 _ (digits now 100000 _ (digits now 10000 _ (digits now 1000 _ (digits now 100 _ (digits now 10 _ (digits now 1 [] no_more))))))

local-plain : (l : Option ℕ) → IsFeedless (local_field l)
local-plain None = record { none = refl }
local-plain (Some n) = digits n 1000 _ (digits n 100 _ (digits n 10 _ (digits n 1 [] no_more)))

preempt-plain : (preempt : Option ℕ) → (preempt_digit preempt == 10) ≡ false
preempt-plain None = refl
preempt-plain (Some n) = no-feed (48 + n) (omega arith)

-- ## The display line

line-plain : (now : ℕ) (heads : Heads) (preempt l : Option ℕ) → IsFeedless (line_of now heads preempt l)
unfolding line_of
line-plain now heads preempt l =
    both (tick_field now) _ (tick-plain now).none (more 32 _ refl
    (both (map (λ p. letter (heads.vehicle p)) (run_from 1 16)) _ (each (λ p. letter (heads.vehicle p)) (run_from 1 16) (λ p. letter-plain (heads.vehicle p))) (more 32 _ refl
    (both (map (λ p. pedestrian_letter (heads.pedestrian p)) (run_from 1 16)) _ (each (λ p. pedestrian_letter (heads.pedestrian p)) (run_from 1 16) (λ p. pedestrian-plain (heads.pedestrian p))) (more 32 _ refl
    (both (map (λ o. letter (heads.overlap o)) (run_from 1 4)) _ (each (λ o. letter (heads.overlap o)) (run_from 1 4) (λ o. letter-plain (heads.overlap o))) (more 32 _ refl
    (more (preempt_digit preempt) _ (preempt-plain preempt) (more 32 _ refl (local-plain l))))))))))

-- it begins with a digit, and not with an r
digit-first : (n unit : ℕ) → (114 == digit n unit) ≡ false
digit-first n unit =
    let few : digit n unit ≤ 57 = omega arith in
    apart (digit n unit) few
  where
    apart : (b : ℕ) → b ≤ 57 → (114 == b) ≡ false
    apart b few = grind (arith, nat_tests, few)

line-other : (now : ℕ) (heads : Heads) (preempt l : Option ℕ) → bytes_eq memory_line (line_of now heads preempt l) ≡ false
unfolding line_of
line-other now heads preempt l = rw (digit-first now 1000000) refl

wide-plain : (now : ℕ) (heads : Heads) (preempt l : Option ℕ) → IsFeedless (wide_line_of now heads preempt l)
unfolding wide_line_of
wide-plain now heads preempt l =
    both (line_of now heads preempt l) _ (line-plain now heads preempt l).none
    (more 32 _ refl (record { none = each (λ o. letter (heads.overlap o)) (run_from 1 16) (λ o. letter-plain (heads.overlap o)) }))

wide-other : (now : ℕ) (heads : Heads) (preempt l : Option ℕ) → bytes_eq memory_line (wide_line_of now heads preempt l) ≡ false
unfolding line_of wide_line_of
wide-other now heads preempt l = rw (digit-first now 1000000) refl

pub display-plain : (is_wide : Bool) (s : State) → IsPlain (line_in is_wide s)
display-plain true s = record {
  one = (wide-plain s.now (display s) (preempt_in_service s) (local s)).none;
  other = wide-other s.now (display s) (preempt_in_service s) (local s);
}
display-plain false s = record {
  one = (line-plain s.now (display s) (preempt_in_service s) (local s)).none;
  other = line-other s.now (display s) (preempt_in_service s) (local s);
}

-- ## Other answers

written : (line : List ℕ) → has_feed line ≡ false → bytes_eq memory_line line ≡ false → IsPlain line
written line one other = record { one = one; other = other }

rule-plain : (r : Rule) → IsPlain (rule_line r)
rule-plain K1 = written (rule_line K1) refl refl
rule-plain K2 = written (rule_line K2) refl refl
rule-plain K3 = written (rule_line K3) refl refl
rule-plain K4 = written (rule_line K4) refl refl
rule-plain K5 = written (rule_line K5) refl refl
rule-plain K6 = written (rule_line K6) refl refl
rule-plain K7 = written (rule_line K7) refl refl
rule-plain K8 = written (rule_line K8) refl refl
rule-plain K9 = written (rule_line K9) refl refl
rule-plain K10 = written (rule_line K10) refl refl
rule-plain K11 = written (rule_line K11) refl refl
rule-plain K12 = written (rule_line K12) refl refl
rule-plain K13 = written (rule_line K13) refl refl
rule-plain K14 = written (rule_line K14) refl refl
rule-plain K15 = written (rule_line K15) refl refl
rule-plain K16 = written (rule_line K16) refl refl
rule-plain K17 = written (rule_line K17) refl refl
rule-plain K18 = written (rule_line K18) refl refl
rule-plain K19 = written (rule_line K19) refl refl
rule-plain K20 = written (rule_line K20) refl refl
rule-plain K21 = written (rule_line K21) refl refl
rule-plain K22 = written (rule_line K22) refl refl
rule-plain K23 = written (rule_line K23) refl refl
rule-plain K24 = written (rule_line K24) refl refl
rule-plain K25 = written (rule_line K25) refl refl
rule-plain K26 = written (rule_line K26) refl refl
rule-plain K27 = written (rule_line K27) refl refl
rule-plain K28 = written (rule_line K28) refl refl
rule-plain K29 = written (rule_line K29) refl refl

verified-plain : (found : Option Rule) → IsPlain (verified_line found)
verified-plain None = written (codes "ok") refl refl
verified-plain (Some r) = rule-plain r

pub ok-plain : IsPlain (codes "ok")
ok-plain = written (codes "ok") refl refl

pub taken-plain : (i : Input) (s : State) → IsPlain (taken_line (Apply i) s)
taken-plain (inputs.Verify station) s = verified-plain s.desk.rule
taken-plain i s = ok-plain

pub refused-plain : (e : Refusal) → e ≢ Memory → IsPlain (refused_line e)
refused-plain Memory other = absurd (other refl)
refused-plain NoSuchObject other = written (refused_line NoSuchObject) refl refl
refused-plain OutOfRange other = written (refused_line OutOfRange) refl refl
refused-plain (Busy station) other = written (busy_line station) (both (codes "refused E4 Busy ") ((48 + station) ∷ []) refl (more (48 + station) [] (no-feed (48 + station) (omega arith)) no_more)).none refl
refused-plain NotOwner other = written (refused_line NotOwner) refl refl
refused-plain NotOpen other = written (refused_line NotOpen) refl refl
refused-plain NotVerified other = written (refused_line NotVerified) refl refl
refused-plain TooManyEdits other = written (refused_line TooManyEdits) refl refl
refused-plain NoSuchPattern other = written (refused_line NoSuchPattern) refl refl
refused-plain NoSuchPreempt other = written (refused_line NoSuchPreempt) refl refl
refused-plain TickLimit other = written (refused_line TickLimit) refl refl
refused-plain InService other = written (refused_line InService) refl refl

pub undone-plain : (k : Kind) → IsPlain (undone_line k)
undone-plain kinds.Tick = written (undone_line kinds.Tick) refl refl
undone-plain k = written (undone_line k) refl refl

pub when-plain : (t : Option ℕ) → IsPlain (when_line t)
when-plain None = written (codes "never") refl refl
when-plain (Some t) = written (when_line (Some t)) (both (codes "tick ") (tick_field t) refl (tick-plain t)).none refl

pub nothing-plain : IsPlain (codes "nothing")
nothing-plain = written (codes "nothing") refl refl

pub bad-plain : IsPlain (codes "bad command")
bad-plain = written (codes "bad command") refl refl
