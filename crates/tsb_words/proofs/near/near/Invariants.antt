use Rattle.std.proofs.Common.{◌≡◌, drop}
use Rattle.tsb_words.specs.Near.{near, texts}
use Rattle.tsb_words.proofs.near.near.Given as goal

-- no right word so far is near
abbrev pub invariant-loop-text : goal.invariant-loop-text
invariant-loop-text l = near (texts (drop l.text-index l.right)) l.word ≡ near (texts l.right) l.word
