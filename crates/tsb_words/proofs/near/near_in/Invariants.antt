use Rattle.std.proofs.Common.{◌≡◌, drop, map}
use Rattle.tsb_words.specs.Near.{near_in, texts}
use Rattle.tsb_words.proofs.near.near_in.Given as goal

-- no word so far is `--` or near a right one
abbrev pub invariant-loop-word : goal.invariant-loop-word
invariant-loop-word g l = near_in (texts l.right) (map g.S.AsStr.text (drop l.word-index l.words)) ≡ near_in (texts l.right) (map g.S.AsStr.text l.words)
