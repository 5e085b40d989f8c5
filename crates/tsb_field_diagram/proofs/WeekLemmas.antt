-- The picture of a week, part by part.
use Rattle.std.proofs.Common.{◌≡◌, ◌∙◌, ℕ, ◌+◌, ◌<◌, ◌≤◌, suc, List, [], ◌∷◌, ◌++◌, length, get_or, drop, map, flat_map, refl, sym, ap, append_assoc, append-nil}
use Rattle.std.proofs.lemmas.List.{drop_all}
use Rattle.std.specs.Borrow.{Bor}
use Rattle.tsb_types.specs.Lists.{run_from}
use Rattle.tsb_field_diagram.specs.declared.week.WeekBand.{WeekBand}
use Rattle.tsb_field_diagram.specs.Week.{day_text, days_text, end_before, hour_text, of_each}
use Rattle.tsb_field_diagram.proofs.BarLemmas.{drop-step}

-- ## Days and hours

-- the texts of labels
abbrev pub texts : List (Bor (List ℕ)) → List (List ℕ)
texts days = map (λ (day : Bor (List ℕ)). day.now) days

abbrev pub day_at : ℕ → Bor (List ℕ) → List ℕ
day_at k day = day_text k day.now

abbrev pub days_at : ℕ → List (Bor (List ℕ)) → List ℕ
days_at k days = days_text k (texts days)

pub days-more : (k : ℕ) (day : Bor (List ℕ)) (days : List (Bor (List ℕ))) → days_at k (day ∷ days) ≡ day_at k day ++ days_at (k + 1) days
unfolding days_text
days-more k day days = refl

pub days-none : (k : ℕ) → days_at k [] ≡ []
unfolding days_text
days-none k = refl

-- so many hours from one on
abbrev pub hours_from : ℕ → ℕ → List ℕ
hours_from k n = flat_map hour_text (run_from k n)

pub hours-more : (k n : ℕ) → hours_from k (suc n) ≡ hour_text k ++ hours_from (k + 1) n
unfolding run_from
hours-more k n = refl

pub hours-none : (k : ℕ) → hours_from k 0 ≡ []
unfolding run_from
hours-none k = refl

-- ## Bands

-- the band at a place, and those after it
each-more : (one : WeekBand → ℕ → List ℕ) (xs : List WeekBand) (k : ℕ) (d : WeekBand) → k < length xs →
    of_each one (drop k xs) ≡ one (get_or xs k d) (end_before (drop (k + 1) xs)) ++ of_each one (drop (k + 1) xs)
unfolding of_each
each-more one xs k d lt = ap (λ (bs : List WeekBand). of_each one bs) (drop-step xs k d lt)

each-none : (one : WeekBand → ℕ → List ℕ) (xs : List WeekBand) (k : ℕ) → length xs ≤ k → of_each one (drop k xs) ≡ []
unfolding of_each
each-none one xs k le = ap (λ (bs : List WeekBand). of_each one bs) (drop_all k xs le)

-- the text of a band is added, and those after it are left
pub turn-band : (one : WeekBand → ℕ → List ℕ) (xs : List WeekBand) (k : ℕ) (d : WeekBand) (end : ℕ) → k < length xs → end ≡ end_before (drop (k + 1) xs) →
    (text new whole : List ℕ) → new ≡ text ++ one (get_or xs k d) end → text ++ of_each one (drop k xs) ≡ whole → new ++ of_each one (drop (k + 1) xs) ≡ whole
turn-band one xs k d end lt ends text new whole new-is held =
    ap (λ (ts : List ℕ). ts ++ of_each one (drop (k + 1) xs)) (new-is ∙ ap (λ (e : ℕ). text ++ one (get_or xs k d) e) ends)
    ∙ append_assoc text (one (get_or xs k d) (end_before (drop (k + 1) xs))) (of_each one (drop (k + 1) xs))
    ∙ ap (λ (ts : List ℕ). text ++ ts) (sym (each-more one xs k d lt)) ∙ held

-- where none is left
pub turn-end : (one : WeekBand → ℕ → List ℕ) (xs : List WeekBand) (k : ℕ) → length xs ≤ k →
    (text whole : List ℕ) → text ++ of_each one (drop k xs) ≡ whole → text ≡ whole
turn-end one xs k le text whole held =
    sym (append-nil text) ∙ ap (λ (ts : List ℕ). text ++ ts) (sym (each-none one xs k le)) ∙ held
