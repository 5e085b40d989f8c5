use Rattle.std.proofs.Common.{◌≡◌, drop, map}
use Rattle.tsb_words.specs.Wrong.{has_option}
use Rattle.tsb_words.proofs.wrong.has_option.Given as goal

-- no word so far is `--` or the option
abbrev pub invariant-loop-word : goal.invariant-loop-word
invariant-loop-word g l = has_option l.name (map g.S.AsStr.text (drop l.word-index l.words)) ≡ has_option l.name (map g.S.AsStr.text l.words)
