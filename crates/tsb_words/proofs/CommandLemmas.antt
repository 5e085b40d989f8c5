-- Commands, as their parts are added one by one.
use Rattle.std.proofs.Common.{◌≡◌, ◌∙◌, ◌+◌, ◌<◌, ◌∷◌, [], ℕ, List, ap, fold, get_or, length, map, sym, take}
use Rattle.std.proofs.lemmas.Grind.{fold-append}
use Rattle.std.proofs.lemmas.List.{map-append, take_more}

-- the next part is added to all that come before it
pub one-more : {A X Y : Type 0} (add : A → Y → A) (f : X → Y) (start : A) (xs : List X) (i : ℕ) (d : X) → i < length xs
    → add (fold add start (map f (take i xs))) (f (get_or xs i d)) ≡ fold add start (map f (take (i + 1) xs))
one-more add f start xs i d within =
    sym (ap (λ (ys : List _). fold add start (map f ys)) (take_more xs i d within)
    ∙ (ap (fold add start) (map-append f (take i xs) (get_or xs i d ∷ [])) ∙ fold-append add start (map f (take i xs)) (f (get_or xs i d) ∷ [])))
