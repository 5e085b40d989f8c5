use Rattle.std.proofs.Common.{◌≡◌, ◌∙◌, ℕ, List, [], ◌∷◌, IfOk, map, subst}
use Rattle.std.specs.Borrow.{Bor}
use Rattle.tsb_types.specs.Lists.{run_from}
use Rattle.tsb_field_diagram.specs.Week.{week_drawing}
use Rattle.tsb_review_text.specs.WeekPicture.{label_of}
use Rattle.tsb_review_text.proofs.picture.draw_bands.Goals as goal

pub returns : goal.returns
unfolding run_from
returns c =
    let first = c.args.first in let bands = c.args.bands.now in
    let named = c.as_bytes-8.ensures.bytes ∙ c.title_of-title.ensures in
    let labelled : map (λ (day : Bor (List ℕ)). day.now) (c.as_bytes.result ∷ c.as_bytes-2.result ∷ c.as_bytes-3.result ∷ c.as_bytes-4.result ∷ c.as_bytes-5.result ∷ c.as_bytes-6.result ∷ c.as_bytes-7.result ∷ [])
    ≡ map (label_of first) (run_from 0 7) =
    λ j. (c.as_bytes.ensures.bytes ∙ c.label_of.ensures) j ∷ (c.as_bytes-2.ensures.bytes ∙ c.label_of-2.ensures) j ∷ (c.as_bytes-3.ensures.bytes ∙ c.label_of-3.ensures) j
    ∷ (c.as_bytes-4.ensures.bytes ∙ c.label_of-4.ensures) j ∷ (c.as_bytes-5.ensures.bytes ∙ c.label_of-5.ensures) j ∷ (c.as_bytes-6.ensures.bytes ∙ c.label_of-6.ensures) j
    ∷ (c.as_bytes-7.ensures.bytes ∙ c.label_of-7.ensures) j ∷ [] in
    subst (λ (title : List ℕ). IfOk c.draw_week.result (λ text. text.items ≡ week_drawing title (map (label_of first) (run_from 0 7)) bands)) named
    (subst (λ (days : List (List ℕ)). IfOk c.draw_week.result (λ text. text.items ≡ week_drawing c.as_bytes-8.result.now days bands)) labelled c.draw_week.ensures)
