-- Texts of several pieces.
use Rattle.std.proofs.Common.{◌≡◌, ℕ, ◌+◌, List, ◌++◌, ap, ◌∙◌, length, length-append}

-- how long six pieces are
pub six-long : (a b c d e f : List ℕ) → length (a ++ (b ++ (c ++ (d ++ (e ++ f))))) ≡ length a + (length b + (length c + (length d + (length e + length f))))
six-long a b c d e f =
    length-append a (b ++ (c ++ (d ++ (e ++ f))))
    ∙ ap (λ (n : ℕ). length a + n) (length-append b (c ++ (d ++ (e ++ f)))
    ∙ ap (λ (n : ℕ). length b + n) (length-append c (d ++ (e ++ f))
    ∙ ap (λ (n : ℕ). length c + n) (length-append d (e ++ f)
    ∙ ap (λ (n : ℕ). length d + n) (length-append e f))))
