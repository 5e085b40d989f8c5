use Rattle.std.proofs.Common.{◌≡◌, drop}
use Rattle.tsb_words.specs.Wrong.{near_form}
use Rattle.tsb_words.proofs.wrong.near_form.Given as goal

-- no form so far is near
abbrev pub invariant-loop-form : goal.invariant-loop-form
invariant-loop-form l = near_form (drop l.form-index l.forms) l.word ≡ near_form l.forms l.word
