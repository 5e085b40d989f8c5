-- The letters of ends of greens, part by part.
use Rattle.std.proofs.Common.{◌≡◌, ℕ, ◌+◌, List, [], ◌∷◌, ◌++◌, refl}
use Rattle.tsb_field_diagram.specs.declared.band.Band.{Band}
use Rattle.tsb_field_diagram.specs.declared.ends.GreenEnd.{GreenEnd}
use Rattle.tsb_field_diagram.specs.Letters.{end_text, letter_among, letter_in, letters_text}

pub among-more : (count seconds : ℕ) (given : GreenEnd) (k : ℕ) (band : Band) (bands : List Band) →
    letter_among count seconds given k (band ∷ bands) ≡ letter_in count seconds given k band ++ letter_among count seconds given (k + 1) bands
unfolding letter_among
among-more count seconds given k band bands = refl

pub among-none : (count seconds : ℕ) (given : GreenEnd) (k : ℕ) → letter_among count seconds given k [] ≡ []
unfolding letter_among
among-none count seconds given k = refl

pub letters-more : (bands : List Band) (seconds last k : ℕ) (given : GreenEnd) (ends : List GreenEnd) →
    letters_text bands seconds last (given ∷ ends) ≡ end_text bands seconds last given ++ letters_text bands seconds last ends
unfolding letters_text
letters-more bands seconds last k given ends = refl

pub letters-none : (bands : List Band) (seconds last k : ℕ) → letters_text bands seconds last [] ≡ []
unfolding letters_text
letters-none bands seconds last k = refl
