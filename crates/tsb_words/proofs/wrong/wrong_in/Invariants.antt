use Rattle.std.proofs.Common.{◌≡◌, length, map}
use Rattle.tsb_words.specs.Wrong.{wrong_in}
use Rattle.tsb_words.proofs.wrong.wrong_in.Given as goal

-- no word so far is `--`, or one with which something is wrong
abbrev pub invariant-loop-rest : goal.invariant-loop-rest
invariant-loop-rest g l = wrong_in l.command (map g.S.AsStr.text l.rest) ≡ wrong_in l.command (map g.S.AsStr.text l.words)

abbrev pub decreases-loop-rest : goal.decreases-loop-rest
decreases-loop-rest g l = length l.rest
