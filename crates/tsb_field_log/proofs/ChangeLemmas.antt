-- Rows where inputs differ from the row before.
use Rattle.std.proofs.Common.{◌≡◌, ℕ, ◌+◌, ◌<◌, ◌≤◌, Bool, true, false, zero, suc, List, ◌∷◌, ◌++◌, refl, sym, ap, ◌∙◌, arith, inl, inr}
use Rattle.std.proofs.lemmas.Bool.{le-leb}
use Rattle.std.proofs.lemmas.Bool.Decides.{leb_tells, eqb_tells}
use Rattle.tsb_types.specs.Sets.{is_same_row}
use Rattle.tsb_types.specs.declared.row.Row.{Row}
use Rattle.tsb_log_text.specs.Logs.{Rises, row_from}
use Rattle.tsb_log_text.specs.ListText.{AreListed, IsListed}
use Rattle.tsb_log_text.specs.LogText.{AreRows, IsFit}
use Rattle.tsb_log_text.specs.declared.log.LogRow.{LogRow}
use Rattle.tsb_types.proofs.SetLemmas.{same-row}
use Rattle.tsb_field_log.specs.Changes.{change, changes}

-- what holds of the rows after a change, where it is one and where it is none
by-change : (P : List LogRow → Type 0) (tick : ℕ) (before now : Row) (rest : List LogRow) → (now ≡ before → P rest) → P (record { tick = tick; row = now } ∷ rest) → P (change tick before now ++ rest)
by-change P tick before now rest same other = at (is_same_row now before) refl
  where
    at : (b : Bool) → is_same_row now before ≡ b → P (change tick before now ++ rest)
    at true e = rw e (same (same-row now before e))
    at false e = rw e other

-- ## The row in force

-- after the tick of a change
change-force : (tick : ℕ) (before now : Row) (rest : List LogRow) (u : ℕ) → tick ≤ u → row_from before (change tick before now ++ rest) u ≡ row_from now rest u
change-force tick before now rest u le =
    by-change (λ rows. row_from before rows u ≡ row_from now rest u) tick before now rest (λ same. ap (λ (r : Row). row_from r rest u) (sym same)) (rw (le-leb tick u le) refl)

-- before its first tick
before-first : (inputs : ℕ → Row) (held before : Row) (tick count u : ℕ) → u < tick → row_from held (changes inputs before tick count) u ≡ held
unfolding changes
before-first inputs held before tick zero u lt = refl
before-first inputs held before tick (suc count) u lt =
    by-change (λ rows. row_from held rows u ≡ held) tick before (inputs tick) (changes inputs (inputs tick) (suc tick) count)
    (λ same. before-first inputs held (inputs tick) (suc tick) count u (omega (arith, lt)))
    (elim (leb_tells tick u) [ inl le ↦ absurd (let no : tick ≤ u = le.1 in omega (arith, no, lt)) | inr gt ↦ rw gt.0 refl ])

-- within its ticks
pub in-force : (inputs : ℕ → Row) (before : Row) (tick count u : ℕ) → tick ≤ u → u < tick + count → row_from before (changes inputs before tick count) u ≡ inputs u
unfolding changes
in-force inputs before tick zero u le lt = absurd (omega (arith, le, lt))
in-force inputs before tick (suc count) u le lt =
    change-force tick before (inputs tick) (changes inputs (inputs tick) (suc tick) count) u le ∙ elim (eqb_tells tick u) [
      | inl same ↦
          let here : tick ≡ u = same.1 in
          before-first inputs (inputs tick) (inputs tick) (suc tick) count u (omega (arith, here)) ∙ ap inputs here
      | inr other ↦
          let apart : tick ≡ u → ⊥ = other.1 in
          in-force inputs (inputs tick) (suc tick) count u (omega (arith, le, apart)) (omega (arith, lt))
    ]

-- ticks rise
pub rising : (inputs : ℕ → Row) (before : Row) (tick count last : ℕ) → last < tick → Rises last (changes inputs before tick count)
unfolding changes
rising inputs before tick zero last lt = tt
rising inputs before tick (suc count) last lt =
    by-change (λ rows. Rises last rows) tick before (inputs tick) (changes inputs (inputs tick) (suc tick) count)
    (λ same. rising inputs (inputs tick) (suc tick) count last (omega (arith, lt))) (lt, rising inputs (inputs tick) (suc tick) count tick (omega arith))

-- ## Rows that a line can spell

pub are-listed : (inputs : ℕ → Row) (before : Row) (tick count : ℕ) → ((t : ℕ) → 1 ≤ t → t ≤ 6000000 → IsListed (record { tick = t; row = inputs t })) → 1 ≤ tick
    → tick + count ≤ 6000001 → AreListed (changes inputs before tick count)
unfolding changes
are-listed inputs before tick zero listed one most = tt
are-listed inputs before tick (suc count) listed one most =
    by-change (λ rows. AreListed rows) tick before (inputs tick) (changes inputs (inputs tick) (suc tick) count)
    (λ same. are-listed inputs (inputs tick) (suc tick) count listed (omega (arith, one)) (omega (arith, most)))
    (listed tick one (omega (arith, most)), are-listed inputs (inputs tick) (suc tick) count listed (omega (arith, one)) (omega (arith, most)))

pub are-rows : (inputs : ℕ → Row) (before : Row) (tick count : ℕ) → ((t : ℕ) → IsFit (inputs t)) → 1 ≤ tick → tick + count ≤ 6000001 → AreRows (changes inputs before tick count)
unfolding changes
are-rows inputs before tick zero fit one most = tt
are-rows inputs before tick (suc count) fit one most =
    by-change (λ rows. AreRows rows) tick before (inputs tick) (changes inputs (inputs tick) (suc tick) count)
    (λ same. are-rows inputs (inputs tick) (suc tick) count fit (omega (arith, one)) (omega (arith, most))) (
      record { from_one = one; within = omega (arith, most); fit = fit tick },
      are-rows inputs (inputs tick) (suc tick) count fit (omega (arith, one)) (omega (arith, most)),
    )
