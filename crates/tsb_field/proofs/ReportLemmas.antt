-- Texts of several pieces.
use Rattle.std.proofs.Common.{◌≡◌, ℕ, List, [], ◌++◌, ap, ◌∙◌, append_assoc, refl}

pub four-pieces : (t u v w x a b c d : List ℕ) → t ≡ [] → u ≡ t ++ a → v ≡ u ++ b → w ≡ v ++ c → x ≡ w ++ d → x ≡ a ++ (b ++ (c ++ d))
four-pieces t u v w x a b c d empty first second third fourth =
    fourth
    ∙ (ap (λ (s : List ℕ). s ++ d) third
    ∙ (append_assoc v c d
    ∙ (ap (λ (s : List ℕ). s ++ (c ++ d)) second
    ∙ (append_assoc u b (c ++ d) ∙ ap (λ (s : List ℕ). s ++ (b ++ (c ++ d))) (first ∙ ap (λ (s : List ℕ). s ++ a) empty)))))

pub five-pieces : (t u v w x y a b c d e : List ℕ) → t ≡ [] → u ≡ t ++ a → v ≡ u ++ b → w ≡ v ++ c → x ≡ w ++ d → y ≡ x ++ e → y ≡ a ++ (b ++ (c ++ (d ++ e)))
five-pieces t u v w x y a b c d e empty first second third fourth fifth =
    fifth ∙ (ap (λ (s : List ℕ). s ++ e) fourth ∙ (append_assoc w d e ∙ four-pieces t u v w (w ++ (d ++ e)) a b c (d ++ e) empty first second third refl))

pub six-pieces : (t u v w x y z a b c d e f : List ℕ) → t ≡ [] → u ≡ t ++ a → v ≡ u ++ b → w ≡ v ++ c → x ≡ w ++ d → y ≡ x ++ e → z ≡ y ++ f
    → z ≡ a ++ (b ++ (c ++ (d ++ (e ++ f))))
six-pieces t u v w x y z a b c d e f empty first second third fourth fifth sixth =
    sixth ∙ (ap (λ (s : List ℕ). s ++ f) fifth ∙ (append_assoc x e f ∙ five-pieces t u v w x (x ++ (e ++ f)) a b c d (e ++ f) empty first second third fourth refl))

pub seven-pieces : (t u v w x y z last a b c d e f g : List ℕ) → t ≡ [] → u ≡ t ++ a → v ≡ u ++ b → w ≡ v ++ c → x ≡ w ++ d → y ≡ x ++ e → z ≡ y ++ f → last ≡ z ++ g
    → last ≡ a ++ (b ++ (c ++ (d ++ (e ++ (f ++ g)))))
seven-pieces t u v w x y z last a b c d e f g empty first second third fourth fifth sixth seventh =
    seventh
    ∙ (ap (λ (s : List ℕ). s ++ g) sixth ∙ (append_assoc y f g ∙ six-pieces t u v w x y (y ++ (f ++ g)) a b c d e (f ++ g) empty first second third fourth fifth refl))
