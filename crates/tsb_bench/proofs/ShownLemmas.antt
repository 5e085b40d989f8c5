-- What was found of the heads, once an input was taken.
use Rattle.std.proofs.Common.{◌≡◌, ℕ, List, [], ◌∷◌, Option, sym, ap, subst, ◌∙◌}
use Rattle.tsb_heads.specs.declared.display.Display.{Display}
use Rattle.tsb_controller.specs.Whole.{All, AreAllBy, all_changes, all_put_back}
use Rattle.tsb_controller.proofs.ChangeLemmas.{rows-back}
use Rattle.tsb_bench.specs.Shown.{IsShown, still_shown}

-- rows without a changed cell are those before
pub rows-same : (m n : ℕ) (old new : All) → AreAllBy m old → AreAllBy n new → all_changes old new ≡ [] → old ≡ new
rows-same m n old new by by_new none = sym (rows-back m n old new by by_new) ∙ ap (all_put_back new) none

pub shown-after : (m n : ℕ) (old new : All) (entries : List (ℕ × ℕ)) (shown : Option Display) → AreAllBy m old → AreAllBy n new →
    entries ≡ all_changes old new → IsShown old shown → IsShown new (still_shown entries shown)
shown-after m n old new [] shown by by_new told is = subst (λ (a : All). IsShown a shown) (rows-same m n old new by by_new (sym told)) is
shown-after m n old new (e ∷ es) shown by by_new told is = tt
