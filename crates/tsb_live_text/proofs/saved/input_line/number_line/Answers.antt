use Rattle.std.proofs.Common.{rules, arith, ◌≡◌, ◌++◌, decimal, true, List, ℕ, subst, sym}
use Rattle.tsb_live_text.specs.saved.Says.{are_plain}
use Rattle.tsb_live_text.proofs.saved.PlainLemmas.{number-plain, plain-join}
use Rattle.tsb_live_text.proofs.saved.input_line.number_line.Goals as goal

pub returns-clause-plain : goal.returns-clause-plain
returns-clause-plain c p =
    let same : c.try_extend_from_slice.new.self.items ≡ c.args.word.now ++ decimal c.args.number = search rules in
    subst (λ (v : List ℕ). are_plain v ≡ true) (sym same) (plain-join c.args.word.now (decimal c.args.number) p (number-plain c.args.number (omega (arith, c.ranges.number.fits))))
