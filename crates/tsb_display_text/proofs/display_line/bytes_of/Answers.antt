use Rattle.std.proofs.Common.{◌∙◌, ℕ, List, ap, replicate, set, subst, sym}
use Rattle.std.specs.Str.{IsUtf8}
use Rattle.tsb_display_text.proofs.LineLemmas.{placed, written, line-written, wide-utf8}
use Rattle.tsb_display_text.proofs.display_line.bytes_of.Goals as goal

pub returns-clause-line : goal.returns-clause-line
returns-clause-line c heads of =
    c.put-6.ensures ∙ ap (placed 54 16 c.args.letters.now.overlaps)
    (c.put-5.ensures ∙ ap (λ (bytes : List ℕ). placed 49 4 c.local_digits.result (set bytes 47 c.preempt_digit.result))
    (c.put-4.ensures ∙ ap (placed 42 4 c.first_four.result)
    (c.put-3.ensures ∙ ap (placed 25 16 c.args.letters.now.pedestrians)
    (c.put-2.ensures ∙ ap (placed 8 16 c.args.letters.now.vehicles) c.put.ensures))))
    ∙ ap (λ (four : List ℕ). placed 54 16 c.args.letters.now.overlaps (placed 49 4 c.local_digits.result (set (placed 42 4 four (placed 25 16 c.args.letters.now.pedestrians (placed 8 16 c.args.letters.now.vehicles (placed 0 7 c.seven_digits.result (replicate 70 32))))) 47 c.preempt_digit.result))) c.first_four.ensures
    ∙ (λ i. written (c.seven_digits.ensures i) (of.vehicles i) (of.pedestrians i) (of.overlaps i) (c.preempt_digit.ensures.digit i) (c.local_digits.ensures i))
    ∙ line-written c.args.now heads c.args.preempt c.args.local

pub returns-clause-text : goal.returns-clause-text
returns-clause-text c heads of =
    subst (λ (bytes : List ℕ). IsUtf8 bytes) (sym (returns-clause-line c heads of))
    (wide-utf8 c.args.now heads c.args.preempt c.args.local c.preempt_digit.ensures.known)
