-- What holds of each edit of a desk.
use Rattle.std.proofs.Common.{Bool, true, false, if◌then◌else◌, List, [], ◌∷◌}
use Rattle.tsb_step.specs.tsb_transact.declared.edit.Edit.{Edit}
use Rattle.tsb_step.specs.tsb_transact.Desk.{is_of, with_edit}

-- it holds of each
abbrev pub AreEach : (Edit → Type 0) → List Edit → Type 0
AreEach Holds [] = Unit {0}
AreEach Holds (e ∷ es) = Holds e × AreEach Holds es

pub each_with : (Holds : Edit → Type 0) (e : Edit) (es : List Edit) → Holds e → AreEach Holds es → AreEach Holds (with_edit e es)
each_with Holds e [] one all = (one, tt)
each_with Holds e (x ∷ es) one all = go (is_of e.id x) (each_with Holds e es one all.1)
  where
    go : (b : Bool) → AreEach Holds (with_edit e es) → AreEach Holds (if b then e ∷ es else x ∷ with_edit e es)
    go true rest = (one, all.1)
    go false rest = (all.0, rest)
