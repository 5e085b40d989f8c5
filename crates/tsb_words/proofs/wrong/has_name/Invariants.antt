use Rattle.std.proofs.Common.{◌≡◌, drop}
use Rattle.tsb_words.specs.Near.{texts}
use Rattle.tsb_words.specs.Wrong.{has_name}
use Rattle.tsb_words.proofs.wrong.has_name.Given as goal

-- no text so far is the name
abbrev pub invariant-loop-right : goal.invariant-loop-right
invariant-loop-right l = has_name (texts (drop l.right-index l.rights)) l.name ≡ has_name (texts l.rights) l.name
