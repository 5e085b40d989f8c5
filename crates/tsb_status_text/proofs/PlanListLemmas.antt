-- Edits, one after another.
use Rattle.std.proofs.Common.{◌≡◌, ◌∙◌, ℕ, suc, ◌+◌, ◌<◌, Bool, false, List, ◌∷◌, ◌++◌, append_assoc, drop, drop-cons, get_or, length, sym, ap, arith}
use Rattle.tsb_transact.specs.declared.edit.Edit.{Edit}
use Rattle.tsb_lines.specs.ShortLines.{Adds, fitting}
use Rattle.tsb_status_text.specs.declared.edit_lines.TheConstants.{LONGEST_EDITS}
use Rattle.tsb_status_text.specs.Bytes.{comma, edit_bytes, list_bytes}
use Rattle.tsb_lines.proofs.ShortLemmas.{onto-fitting, then}

-- an edit is added, of those that are left
pub edit-on : (es : List Edit) (k : ℕ) (d : Edit) (first : Bool) (line commaed added all : List ℕ) → k < length es →
    Adds LONGEST_EDITS line (comma first) commaed → Adds LONGEST_EDITS commaed (edit_bytes (get_or es k d)) added →
    fitting LONGEST_EDITS (line ++ list_bytes first (drop k es)) ≡ all → fitting LONGEST_EDITS (added ++ list_bytes false (drop (k + 1) es)) ≡ all
edit-on es k d first line commaed added all below comma_in edit_in so =
    let rest : List ℕ = list_bytes false (drop (k + 1) es) in
    let e : Edit = get_or es k d in
    let next : suc k ≡ k + 1 = omega arith in
    ap (λ (ts : List ℕ). fitting LONGEST_EDITS (ts ++ rest)) (then comma_in edit_in).line
    ∙ onto-fitting LONGEST_EDITS (line ++ (comma first ++ edit_bytes e)) rest
    ∙ ap (fitting LONGEST_EDITS) (append_assoc line (comma first ++ edit_bytes e) rest)
    ∙ ap (λ (ts : List ℕ). fitting LONGEST_EDITS (line ++ ts)) (append_assoc (comma first) (edit_bytes e) rest)
    ∙ ap (λ (n : ℕ). fitting LONGEST_EDITS (line ++ list_bytes first (e ∷ drop n es))) (sym next)
    ∙ ap (λ (fs : List Edit). fitting LONGEST_EDITS (line ++ list_bytes first fs)) (sym (drop-cons es k d below))
    ∙ so
