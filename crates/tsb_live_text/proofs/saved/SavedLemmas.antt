-- The line of what is saved, a part after another.
use Rattle.std.proofs.Common.{zero, suc, ◌≡◌, ◌∙◌, ℕ, ◌+◌, ◌-◌, ◌<◌, ◌≤◌, List, [], ◌∷◌, ◌++◌, codes, length, length-append, drop, get_or, take, refl, sym, ap, subst, arith, append_assoc, true, Err, OnOk}
use Rattle.std.specs.declared.option.Option.{Option}
use Rattle.std.specs.declared.result.Result.{Result}
use Rattle.tsb_lines.specs.declared.writes.WriteError.{WriteError}
use Rattle.std.proofs.lemmas.List.{drop_more}
use Rattle.std.proofs.lemmas.List.Concat.{flat_map-append}
use Rattle.json.specs.Print.{escape, escape_byte, print_from}
use Rattle.tsb_dialog.specs.Said.{Said, Wrote, with_feed}
use Rattle.tsb_log_text.specs.Forms.{form_for}
use Rattle.tsb_log_text.specs.ListText.{line_in, lists_text, text_in}
use Rattle.tsb_log_text.specs.LogText.{log_text}
use Rattle.tsb_log_text.specs.declared.form.RowForm.{RowForm}
use Rattle.tsb_log_text.specs.declared.form.RowForm.TheVariants.{Digits, Lists}
use Rattle.tsb_log_text.specs.declared.log.LogRow.{LogRow}
use Rattle.tsb_log_text.proofs.WrittenLemmas.{none-in}
use Rattle.tsb_text.specs.declared.kept.Other.{Other}
use Rattle.tsb_text.specs.kept.Kept.{Keeping}
use Rattle.tsb_live_text.specs.saved.Saved.{commands_from, commands_text, input_text, saved_text, step_text}
use Rattle.tsb_live_text.specs.saved.Says.{SaysText, are_plain}
use Rattle.tsb_live_text.proofs.saved.PlainLemmas.{plain-escape, row-plain}
use Rattle.tsb_live_text.proofs.saved.SaysLemmas.{Saying, begun, cut, last, left, more, says}

-- ## The whole line

shape : (x y : List ℕ) → codes "{\"log\":" ++ ((34 ∷ (x ++ 34 ∷ [])) ++ (codes ",\"commands\":" ++ ((34 ∷ (y ++ 34 ∷ [])) ++ 125 ∷ [])))
    ≡ codes "{\"log\":\"" ++ (x ++ (codes "\",\"commands\":\"" ++ (y ++ codes "\"}")))
shape x y = simp append_assoc

pub saved-bytes : (kept : Keeping) (now : ℕ) → saved_text kept now
    ≡ codes "{\"log\":\"" ++ (escape (text_in (form_for kept.rows) kept.rows) ++ (codes "\",\"commands\":\"" ++ (escape (commands_text kept now) ++ codes "\"}")))
unfolding saved_text print_from escape_byte
saved-bytes kept now = shape (escape (text_in (form_for kept.rows) kept.rows)) (escape (commands_text kept now))

shape-feed : (x y : List ℕ) → (codes "{\"log\":\"" ++ (x ++ (codes "\",\"commands\":\"" ++ (y ++ codes "\"}")))) ++ 10 ∷ []
    ≡ codes "{\"log\":\"" ++ (x ++ (codes "\",\"commands\":\"" ++ (y ++ codes "\"}\n")))
shape-feed x y = simp append_assoc

pub saved-line : (kept : Keeping) (now : ℕ) → with_feed (saved_text kept now)
    ≡ codes "{\"log\":\"" ++ (escape (text_in (form_for kept.rows) kept.rows) ++ (codes "\",\"commands\":\"" ++ (escape (commands_text kept now) ++ codes "\"}\n")))
saved-line kept now = ap with_feed (saved-bytes kept now) ∙ shape-feed (escape (text_in (form_for kept.rows) kept.rows)) (escape (commands_text kept now))

-- ## A line within

pub escape-join : (xs ys : List ℕ) → escape (xs ++ ys) ≡ escape xs ++ escape ys
escape-join xs ys = flat_map-append escape_byte xs ys

feed-escape : escape (10 ∷ []) ≡ 92 ∷ 110 ∷ []
unfolding escape_byte
feed-escape = refl

pub line-escape : (line : List ℕ) → are_plain line ≡ true → line ++ 92 ∷ 110 ∷ [] ≡ escape (with_feed line)
line-escape line p = sym (escape-join line (10 ∷ []) ∙ ap (λ (v : List ℕ). v ++ escape (10 ∷ [])) (plain-escape line p) ∙ ap (λ (v : List ℕ). line ++ v) feed-escape)

-- ## Rows

text-first : (form : RowForm) (r : LogRow) (rs : List LogRow) → text_in form (r ∷ rs) ≡ line_in form r ++ 10 ∷ text_in form rs
unfolding log_text lists_text
text-first Digits r rs = refl
text-first Lists r rs = refl

rows-first : (form : RowForm) (r : LogRow) (rs : List LogRow) → escape (text_in form (r ∷ rs)) ≡ escape (with_feed (line_in form r)) ++ escape (text_in form rs)
rows-first form r rs =
    ap escape (text-first form r rs ∙ sym (append_assoc (line_in form r) (10 ∷ []) (text_in form rs))) ∙ escape-join (with_feed (line_in form r)) (text_in form rs)

pub rows-turn : (rows : List LogRow) (form : RowForm) (i : ℕ) (d : LogRow) → form ≡ form_for rows → i < length rows
    → escape (text_in (form_for rows) (drop i rows)) ≡ escape (with_feed (line_in form (get_or rows i d))) ++ escape (text_in (form_for rows) (drop (i + 1) rows))
rows-turn rows form i d is lt =
    ap (λ (v : List LogRow). escape (text_in (form_for rows) v)) (drop_more rows i d lt)
    ∙ rows-first (form_for rows) (get_or rows i d) (drop (i + 1) rows)
    ∙ ap (λ (f : RowForm). escape (with_feed (line_in f (get_or rows i d))) ++ escape (text_in (form_for rows) (drop (i + 1) rows))) (sym is)

drop-past : {X : Type 0} (i : ℕ) (xs : List X) → length xs ≤ i → drop i xs ≡ []
drop-past zero [] le = refl
drop-past zero (x ∷ xs) le = absurd (omega (arith, le))
drop-past (suc i) [] le = refl
drop-past (suc i) (x ∷ xs) le = drop-past i xs (omega (arith, le))

pub rows-end : (rows : List LogRow) (i : ℕ) → length rows ≤ i → escape (text_in (form_for rows) (drop i rows)) ≡ []
rows-end rows i le = ap (λ (v : List LogRow). escape (text_in (form_for rows) v)) (drop-past i rows le) ∙ ap escape (none-in (form_for rows))

-- the line without its end
pub row-said : (r : Result (Unit {0}) WriteError) (form : RowForm) (row : LogRow) (line cut_line : List ℕ) (n : ℕ) (a b : Option (List ℕ)) (p q : List ℕ)
    → line ≡ line_in form row ++ 10 ∷ [] → n ≡ length line - 1 → cut_line ≡ take n line
    → (are_plain cut_line ≡ true → SaysText r (escape (with_feed cut_line)) a b p q) → SaysText r (escape (with_feed (line_in form row))) a b p q
row-said r form row line cut_line n a b p q is count cuts said =
    let all : length line ≡ length (line_in form row) + 1 = ap length is ∙ length-append (line_in form row) (10 ∷ []) in
    let whole : n ≡ length (line_in form row) = omega (arith, count, all) in
    let cut_is : cut_line ≡ line_in form row = cuts ∙ (λ j. take (whole j) (is j)) ∙ take-front (line_in form row) (10 ∷ []) in
    subst (λ (v : List ℕ). SaysText r (escape (with_feed v)) a b p q) cut_is (said (ap are_plain cut_is ∙ row-plain form row))
  where
    take-front : (xs ys : List ℕ) → take (length xs) (xs ++ ys) ≡ xs
    take-front [] ys = refl
    take-front (x ∷ xs) ys = ap (λ (v : List ℕ). x ∷ v) (take-front xs ys)

-- ## Commands

commands-first : (now : ℕ) (o : Other) (os : List Other) (t : ℕ)
    → escape (commands_from now (o ∷ os) t) ≡ escape (step_text (o.tick - t)) ++ (escape (input_text o.input) ++ escape (commands_from now os o.tick))
commands-first now o os t =
    escape-join (step_text (o.tick - t)) (input_text o.input ++ commands_from now os o.tick)
    ∙ ap (λ (v : List ℕ). escape (step_text (o.tick - t)) ++ v) (escape-join (input_text o.input) (commands_from now os o.tick))

pub commands-turn : (now : ℕ) (others : List Other) (i t n : ℕ) (o : Other) → i < length others → o ≡ get_or others i o → n ≡ o.tick - t
    → escape (commands_from now (drop i others) t) ≡ escape (step_text n) ++ (escape (input_text o.input) ++ escape (commands_from now (drop (i + 1) others) o.tick))
commands-turn now others i t n o lt is count =
    ap (λ (v : List Other). escape (commands_from now v t)) (drop_more others i o lt ∙ ap (λ (x : Other). x ∷ drop (i + 1) others) (sym is))
    ∙ commands-first now o (drop (i + 1) others) t
    ∙ ap (λ (k : ℕ). escape (step_text k) ++ (escape (input_text o.input) ++ escape (commands_from now (drop (i + 1) others) o.tick))) (sym count)

pub commands-end : (now : ℕ) (others : List Other) (i t n : ℕ) → length others ≤ i → n ≡ now - t → escape (commands_from now (drop i others) t) ≡ escape (step_text n)
commands-end now others i t n le count = ap (λ (v : List Other). escape (commands_from now v t)) (drop-past i others le) ∙ ap (λ (k : ℕ). escape (step_text k)) (sym count)

-- ## What is said of a line

-- a first part of it
pub line-cut : (e : WriteError) (line : List ℕ) (a b : Option (List ℕ)) (p q : List ℕ) → are_plain line ≡ true → Wrote a b p q (λ said. (rest : List ℕ) × (line ≡ said ++ rest)) → SaysText (Err e) (escape (with_feed line)) a b p q
line-cut e line a b p q plain front =
    cut e (escape (with_feed line)) line (92 ∷ 110 ∷ []) a a b p p q
    (left (escape (with_feed line)) (escape (with_feed line)) (line ++ 92 ∷ 110 ∷ []) a a p p (sym (line-escape line plain)) (begun (escape (with_feed line)) a p)) front

-- it, and then its end
pub line-said : (r : Result (Unit {0}) WriteError) (line feed : List ℕ) (a b c : Option (List ℕ)) (p q w : List ℕ) → are_plain line ≡ true → feed ≡ 92 ∷ 110 ∷ [] → Said a b p q line
    → OnOk r (Said b c q w feed) → Wrote b c q w (λ said. (rest : List ℕ) × (feed ≡ said ++ rest)) → SaysText r (escape (with_feed line)) a c p w
line-said r line feed a b c p q w plain is said ok front =
    last r (escape (with_feed line)) feed a b c p q w
    (more (escape (with_feed line)) line feed a a b p p q
    (left (escape (with_feed line)) (escape (with_feed line)) (line ++ feed) a a p p (sym (line-escape line plain) ∙ ap (λ (v : List ℕ). line ++ v) (sym is)) (begun (escape (with_feed line)) a p)) said)
    (says r feed b c q w ok front)

-- ## The parts of the whole line

-- all of it, before its first byte
pub saved-begun : (kept : Keeping) (now : ℕ) (rows : List LogRow) (others : List Other) (a : Option (List ℕ)) (p : List ℕ) → rows ≡ kept.rows → others ≡ kept.others
    → Saying (with_feed (saved_text kept now)) (codes "{\"log\":\"" ++ (escape (text_in (form_for rows) rows) ++ (codes "\",\"commands\":\"" ++ (escape (commands_from now others 0) ++ codes "\"}\n")))) a a p p
saved-begun kept now rows others a p is and_is =
    left (with_feed (saved_text kept now)) (with_feed (saved_text kept now)) _ a a p p
    (saved-line kept now ∙ (λ j. codes "{\"log\":\"" ++ (escape (text_in (form_for (sym is j)) (sym is j)) ++ (codes "\",\"commands\":\"" ++ (escape (commands_from now (sym and_is j) 0) ++ codes "\"}\n")))))
    (begun (with_feed (saved_text kept now)) a p)
