-- What a set of the code and a function of the definitions have in common: phases 1 to 16. Two functions agree where
-- they are the same there, and a function is clipped to these, so that two that agree are one when clipped.
use Rattle.std.specs.Prelude.{◌≡◌, ℕ, ◌≤◌, Bool, ◌&&◌, if◌then◌else◌}
use Rattle.tsb_types.specs.Sets.{is_phase}

-- the same of phases 1 to 16
abbrev pub Agree : {A : Type 0} → (ℕ → A) → (ℕ → A) → Type 0
Agree f g = (p : ℕ) → 1 ≤ p → p ≤ 16 → f p ≡ g p

-- of phases 1 to 16, and of no other
abbrev pub clipped : (ℕ → Bool) → ℕ → Bool
clipped f p = is_phase p && f p

-- of phases 1 to 16, and elsewhere a value that is no one's
abbrev pub within : {A : Type 0} → A → (ℕ → A) → ℕ → A
within other f p = if is_phase p then f p else other
