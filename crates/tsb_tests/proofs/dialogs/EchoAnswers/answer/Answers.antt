use Rattle.std.proofs.Common.{ℕ, List, [], ◌++◌}
use Rattle.std.proofs.lemmas.Result.{err_from_is_err_and}
use Rattle.std.specs.declared.option.Option.{Option}
use Rattle.tsb_dialog.specs.Said.{Said, Wrote}
use Rattle.tsb_dialog.specs.declared.answers.Flow.{Flow}
use Rattle.tsb_dialog.specs.declared.answers.Flow.TheVariants.{On}
use Rattle.tsb_dialog.proofs.SaidLemmas.{said-more}
use Rattle.tsb_tests.proofs.dialogs.EchoAnswers.answer.Goals as goal

-- a text was said, whatever it is
abbrev Spoke : Option (List ℕ) → Option (List ℕ) → List ℕ → List ℕ → Type 0
Spoke a b w v = Wrote a b w v (λ text. Unit {0})

spoke : (a b : Option (List ℕ)) (w v t : List ℕ) → Said a b w v t → Spoke a b w v
spoke a b w v t s = record { text = t; said = s; so = tt }

spoke-front : (a b : Option (List ℕ)) (w v : List ℕ) (P : List ℕ → Type 0) → Wrote a b w v P → Spoke a b w v
spoke-front a b w v P x = record { text = x.text; said = x.said; so = tt }

spoke-more : (a b c : Option (List ℕ)) (w v u : List ℕ) → Spoke a b w v → Spoke b c v u → Spoke a c w u
spoke-more a b c w v u x y = record { text = x.text ++ y.text; said = said-more a b c w v u x.text y.text x.said y.said; so = tt }

broken : (a b : Option (List ℕ)) (w v : List ℕ) → Spoke a b w v → Wrote a b w v (λ text. (rest : List ℕ) × (flow : Flow) × (left : Unit {0}) × Unit {0})
broken a b w v x = record { text = x.text; said = x.said; so = ([], On, tt, tt) }

pub returns-in_err-say-clause-answered : goal.returns-in_err-say-clause-answered
returns-in_err-say-clause-answered g c s here = let p = err_from_is_err_and c.from_residual.result c.from_residual.ensures.1 in
    rw p.1 (broken _ _ _ _ (spoke _ _ _ _ _ c.in_err-say.ensures.fault))

pub returns-in_err-add-clause-answered : goal.returns-in_err-add-clause-answered
returns-in_err-add-clause-answered g c s here = let p = err_from_is_err_and c.from_residual-in_err-add.result c.from_residual-in_err-add.ensures.1 in
    rw p.1 (broken _ _ _ _ (spoke-more _ _ _ _ _ _ (spoke _ _ _ _ _ c.in_ok-say.ensures.ok) (spoke-front _ _ _ _ _ c.in_err-add.ensures.front)))

pub returns-in_err-add-2-clause-answered : goal.returns-in_err-add-2-clause-answered
returns-in_err-add-2-clause-answered g c s here = let p = err_from_is_err_and c.from_residual-in_err-add-2.result c.from_residual-in_err-add-2.ensures.1 in
    rw p.1 (broken _ _ _ _ (spoke-more _ _ _ _ _ _ (spoke-more _ _ _ _ _ _ (spoke _ _ _ _ _ c.in_ok-say.ensures.ok) (spoke _ _ _ _ _ c.in_ok-add.ensures.ok)) (spoke-front _ _ _ _ _ c.in_err-add-2.ensures.front)))

pub returns-then-eq-clause-answered : goal.returns-then-eq-clause-answered
returns-then-eq-clause-answered g c s here =
    (tt, tt, spoke-more _ _ _ _ _ _ (spoke-more _ _ _ _ _ _ (spoke _ _ _ _ _ c.in_ok-say.ensures.ok) (spoke _ _ _ _ _ c.in_ok-add.ensures.ok)) (spoke _ _ _ _ _ c.in_ok-add-2.ensures.ok))

pub returns-clause-answered : goal.returns-clause-answered
returns-clause-answered g c s here =
    (tt, tt, spoke-more _ _ _ _ _ _ (spoke-more _ _ _ _ _ _ (spoke _ _ _ _ _ c.in_ok-say.ensures.ok) (spoke _ _ _ _ _ c.in_ok-add.ensures.ok)) (spoke _ _ _ _ _ c.in_ok-add-2.ensures.ok))
