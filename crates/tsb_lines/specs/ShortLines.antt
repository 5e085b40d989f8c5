-- A line of a greatest length, which takes of what is added as much as there is room for.
use Rattle.std.specs.Prelude.{◌≡◌, ℕ, ◌≤◌, List, ◌++◌, length, take}

-- the first bytes of a text, as many as a line of this greatest length has room for
unfoldable pub fitting : ℕ → List ℕ → List ℕ
fitting most text = take most text

-- a text was added to a line of this greatest length, as far as there was room for it
pub record Adds (most : ℕ) (old text new : List ℕ) : Type 0 where
  pub line : new ≡ fitting most (old ++ text)

-- a text of at most so many bytes was added to a line of this greatest length, as far as there was room for it
pub record AddsShort (longest most : ℕ) (old text new : List ℕ) : Type 0 where
  pub line : Adds longest old text new
  pub short : length text ≤ most
