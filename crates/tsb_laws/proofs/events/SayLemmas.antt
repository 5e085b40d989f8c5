-- Events whose codes a test leaves out say nothing, where what is said comes of other codes.
use Rattle.std.proofs.Common.{◌≡◌, ◌∙◌, ℕ, ◌==◌, Bool, true, false, List, [], ◌∷◌, filter, Option, None, if◌then◌else◌, refl, sym, ap, inl, inr}
use Rattle.std.proofs.lemmas.Bool.{cases_Bool, ne_eqb, true≢false}
use Rattle.tsb_step.specs.tsb_types.declared.event.Event.{Event}
use Rattle.tsb_field_display.specs.ReadBack.{lit_after, said_or, says_at}

pub silent : (by : ℕ → Bool) (says : Event → Option Bool) (lit : Bool) (es : List Event) → ((e : Event) → by e.code ≡ false → says e ≡ None) →
    lit_after says lit (filter (λ e. by e.code) es) ≡ lit_after says lit es
silent by says lit [] none = refl
silent by says lit (e ∷ es) none = elim (cases_Bool (by e.code)) [
  | inl h ↦ rw h (silent by says (said_or (says e) lit) es none)
  | inr h ↦ rw (h, none e h) (silent by says lit es none)
]

-- a code that a test leaves out is none that passes it
pub differs : (by : ℕ → Bool) (c n : ℕ) → by c ≡ false → by n ≡ true → (c == n) ≡ false
differs by c n fails passes = ne_eqb c n (λ same. true≢false (sym passes ∙ sym (ap by same) ∙ fails))

pub at-head : (by : ℕ → Bool) (by_code : ℕ → Option Bool) (n : ℕ) → ((c : ℕ) → by c ≡ false → by_code c ≡ None) → (e : Event) →
    by e.code ≡ false → says_at by_code n e ≡ None
at-head by by_code n none e h = go (e.parameter == n)
  where
    go : (b : Bool) → (if b then by_code e.code else None) ≡ None
    go true = none e.code h
    go false = refl
