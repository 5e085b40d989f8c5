-- Bytes that were read, taken line after line.
use Rattle.std.proofs.Common.{◌≡◌, ℕ, List, [], ◌∷◌, ◌++◌, append_assoc, ap, sym, ◌∙◌, subst, Ok, Err}
use Rattle.std.specs.declared.option.Option.{Option}
use Rattle.std.specs.declared.result.Result.{Result}
use Rattle.tsb_lines.specs.declared.writes.WriteError.{WriteError}
use Rattle.tsb_dialog.specs.declared.answers.Flow.{Flow}
use Rattle.tsb_dialog.specs.declared.answers.Flow.TheVariants.{On, Over}
use Rattle.tsb_dialog.specs.Going.{Fed}
use Rattle.tsb_dialog.specs.Heard.{Heard}
use Rattle.tsb_dialog.specs.Says.{Saying}
use Rattle.tsb_dialog.proofs.HeardLemmas.{fed-rest-fault, fed-rest-over, fed-then}

-- what a piece more does, in any state
abbrev Takes : {A S : Type 0} → Result Flow WriteError → ℕ → (A → S → Type 0) → Saying S → List ℕ → A → A → ℕ → ℕ → List ℕ → List ℕ → Option (List ℕ) → Option (List ℕ) → List ℕ → List ℕ → Type 0
Takes {S = S} r most stands says piece mid new n m held keeps b c q w = (from now : S) (bytes text : List ℕ) → stands mid now → Heard most says from bytes text n now held
    → Fed most stands says from (bytes ++ piece) text r new m keeps b c q w

-- after what was taken, a piece more
pub fed-more : {A S : Type 0} (r : Result Flow WriteError) (most : ℕ) (stands : A → S → Type 0) (says : Saying S) (from : S) (before taken piece text : List ℕ) (mid new : A) (n m : ℕ) (held keeps : List ℕ) (a b c : Option (List ℕ)) (p q w : List ℕ)
    → Fed most stands says from (before ++ taken) text (Ok On) mid n held a b p q → Takes r most stands says piece mid new n m held keeps b c q w
    → Fed most stands says from (before ++ (taken ++ piece)) text r new m keeps a c p w
fed-more r most stands says from before taken piece text mid new n m held keeps a b c p q w fed step =
    subst (λ (v : List ℕ). Fed most stands says from v text r new m keeps a c p w) (append_assoc before taken piece) (fed-then r most stands says from (before ++ taken) piece text mid new n m held keeps a b c p q w fed step)

-- what was taken, a line and what follows it make up the whole
whole : (before taken rest next left bytes : List ℕ) → bytes ≡ taken ++ left → left ≡ rest ++ 10 ∷ next → (before ++ (taken ++ (rest ++ 10 ∷ []))) ++ next ≡ before ++ bytes
whole before taken rest next left bytes all cut =
    append_assoc before (taken ++ (rest ++ 10 ∷ [])) next
    ∙ ap (λ (v : List ℕ). before ++ v) (append_assoc taken (rest ++ 10 ∷ []) next ∙ ap (λ (v : List ℕ). taken ++ v) (append_assoc rest (10 ∷ []) next ∙ sym cut) ∙ sym all)

-- a line that ends the dialog: nothing of what follows is taken
pub fed-over : {A S : Type 0} (f : Flow) (most : ℕ) (stands : A → S → Type 0) (says : Saying S) (from : S) (before taken rest next left bytes text : List ℕ) (mid new : A) (n m : ℕ) (held keeps : List ℕ) (a b c : Option (List ℕ)) (p q w : List ℕ)
    → bytes ≡ taken ++ left → left ≡ rest ++ 10 ∷ next → f ≡ Over → Fed most stands says from (before ++ taken) text (Ok On) mid n held a b p q → Takes (Ok f) most stands says (rest ++ 10 ∷ []) mid new n m held keeps b c q w
    → Fed most stands says from (before ++ bytes) text (Ok Over) new m keeps a c p w
fed-over f most stands says from before taken rest next left bytes text mid new n m held keeps a b c p q w all cut over fed step =
    subst (λ (v : List ℕ). Fed most stands says from v text (Ok Over) new m keeps a c p w) (whole before taken rest next left bytes all cut)
    (fed-rest-over most stands says from (before ++ (taken ++ (rest ++ 10 ∷ []))) next text new m keeps a c p w
    (subst (λ (y : Flow). Fed most stands says from (before ++ (taken ++ (rest ++ 10 ∷ []))) text (Ok y) new m keeps a c p w) over
    (fed-more (Ok f) most stands says from before taken (rest ++ 10 ∷ []) text mid new n m held keeps a b c p q w fed step)))

pub fed-broken : {A S : Type 0} (e : WriteError) (most : ℕ) (stands : A → S → Type 0) (says : Saying S) (from : S) (before taken rest next left bytes text : List ℕ) (mid new : A) (n m : ℕ) (held keeps : List ℕ) (a b c : Option (List ℕ)) (p q w : List ℕ)
    → bytes ≡ taken ++ left → left ≡ rest ++ 10 ∷ next → Fed most stands says from (before ++ taken) text (Ok On) mid n held a b p q → Takes (Err e) most stands says (rest ++ 10 ∷ []) mid new n m held keeps b c q w
    → Fed most stands says from (before ++ bytes) text (Err e) new m keeps a c p w
fed-broken e most stands says from before taken rest next left bytes text mid new n m held keeps a b c p q w all cut fed step =
    subst (λ (v : List ℕ). Fed most stands says from v text (Err e) new m keeps a c p w) (whole before taken rest next left bytes all cut)
    (fed-rest-fault most stands says from (before ++ (taken ++ (rest ++ 10 ∷ []))) next text new m keeps e a c p w
    (fed-more (Err e) most stands says from before taken (rest ++ 10 ∷ []) text mid new n m held keeps a b c p q w fed step))
