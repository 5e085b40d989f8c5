-- Lines of a greatest length.
use Rattle.std.proofs.Common.{◌≡◌, ◌∙◌, ℕ, ◌+◌, ◌≤◌, List, [], ◌++◌, append_assoc, length, length-append, take, take_all, min, ap, subst, arith, Ok, Err}
use Rattle.std.proofs.lemmas.Bool.{false≢true}
use Rattle.std.specs.declared.result.Result.{Result}
use Rattle.std.specs.Result.{IsOk, OnOk}
use Rattle.tsb_lines.specs.ShortLines.{Adds, fitting}
use Rattle.tsb_lines.proofs.KeptLemmas.{kept-more, kept-onto}

-- what holds where a result is Ok, of one that is
pub on-ok : {T E : Type 0} {P : Type 0} (r : Result T E) → IsOk r → OnOk r P → P
on-ok (Ok x) is holds = holds
on-ok (Err e) is holds = absurd (false≢true is)

-- bytes that are added behind others, as many as there is room for
pub put : (most room : ℕ) (old bytes : List ℕ) → room + length old ≡ most → old ++ take (min room (length bytes)) bytes ≡ fitting most (old ++ bytes)
unfolding fitting
put most room old bytes all = kept-onto most room old bytes all

-- what fits of a part behind what fits of another
pub onto-fitting : (most : ℕ) (a b : List ℕ) → fitting most (fitting most a ++ b) ≡ fitting most (a ++ b)
unfolding fitting
onto-fitting most a b = kept-more most a b

-- all of a text that there is room for
pub all-fits : (most : ℕ) (text : List ℕ) → length text ≤ most → fitting most text ≡ text
unfolding fitting
all-fits most text short = take_all most text short

-- one part after another
pub then : {most : ℕ} {old mid new one rest : List ℕ} → Adds most old one mid → Adds most mid rest new → Adds most old (one ++ rest) new
then {most} {old} {mid} {new} {one} {rest} first second = record {
  line =
      second.line ∙ ap (λ (ts : List ℕ). fitting most (ts ++ rest)) first.line ∙ onto-fitting most (old ++ one) rest
      ∙ ap (fitting most) (append_assoc old one rest);
}

-- a part, said in another way
pub said : {most : ℕ} {old new text other : List ℕ} → text ≡ other → Adds most old text new → Adds most old other new
said {most} {old} {new} {text} {other} same adds = subst (λ (ts : List ℕ). Adds most old ts new) same adds

-- a line to which a text was added that there was room for
pub whole : {most : ℕ} {old text new : List ℕ} → Adds most old text new → length old + length text ≤ most → new ≡ old ++ text
whole {most} {old} {text} {new} adds room =
    let both : length (old ++ text) ≡ length old + length text = length-append old text in
    adds.line ∙ all-fits most (old ++ text) (omega (arith, both, room))

-- a line that began without a byte
pub all-of : {most : ℕ} {old text new : List ℕ} → old ≡ [] → length text ≤ most → Adds most old text new → new ≡ text
all-of {most} {old} {text} {new} none short adds =
    adds.line ∙ ap (λ (l : List ℕ). fitting most (l ++ text)) none ∙ all-fits most text short
