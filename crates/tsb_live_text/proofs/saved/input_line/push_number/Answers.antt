use Rattle.std.proofs.Common.{arith, ◌≡◌, ◌++◌, true, List, ℕ, subst, sym}
use Rattle.std.proofs.lemmas.Grind.{common_steps}
use Rattle.tsb_live_text.specs.saved.Saved.{number_word}
use Rattle.tsb_live_text.specs.saved.Says.{are_plain}
use Rattle.tsb_live_text.proofs.saved.PlainLemmas.{plain-join, word-plain}
use Rattle.tsb_live_text.proofs.saved.input_line.push_number.Goals as goal

pub returns-clause-plain : goal.returns-clause-plain
returns-clause-plain c p =
    let same : c.try_extend_from_slice-2.new.self.items ≡ c.args.line.now.items ++ number_word c.args.number = grind (arith, common_steps) in
    subst (λ (v : List ℕ). are_plain v ≡ true) (sym same) (plain-join c.args.line.now.items (number_word c.args.number) p (word-plain c.args.number (omega (arith, c.ranges.number.fits))))
