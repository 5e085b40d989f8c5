-- Saved texts have plain bytes and line feeds alone, and their line has no line feed.
use Rattle.std.proofs.Common.{◌≡◌, ◌∙◌, ℕ, ◌-◌, ◌==◌, ◌^◌, ◌<◌, Bool, true, false, not, List, [], ◌∷◌, ◌++◌, if◌then◌else◌, codes, decimal, refl, sym, subst, arith, inl, inr}
use Rattle.std.specs.List.{list_all}
use Rattle.std.proofs.lemmas.Bool.{and_from, and_parts, eqb-true, not-true, or_cases, or_right}
use Rattle.std.proofs.lemmas.List.Folds.{list_all-append}
use Rattle.json.specs.Print.{escape, escape_byte}
use Rattle.tsb_lines.specs.Lines.{HasNoFeed}
use Rattle.tsb_dialog.specs.Said.{with_feed}
use Rattle.tsb_step.specs.declared.inputs.Input.{Input}
use Rattle.tsb_step.specs.declared.inputs.Input.TheVariants.{Tick}
use Rattle.tsb_log_text.specs.Forms.{form_for}
use Rattle.tsb_log_text.specs.ListText.{lists_line, lists_text, text_in}
use Rattle.tsb_log_text.specs.LogText.{log_text, row_line}
use Rattle.tsb_log_text.specs.declared.form.RowForm.{RowForm}
use Rattle.tsb_log_text.specs.declared.form.RowForm.TheVariants.{Digits, Lists}
use Rattle.tsb_log_text.specs.declared.log.LogRow.{LogRow}
use Rattle.tsb_text.specs.declared.kept.Other.{Other}
use Rattle.tsb_live_text.specs.saved.Laws.{AreEasy, AreSpelled, IsSpelled, is_easy}
use Rattle.tsb_live_text.specs.saved.Saved.{commands_from, commands_text, input_line, input_text, step_text}
use Rattle.tsb_live_text.specs.saved.Says.{are_plain, is_plain}
use Rattle.tsb_live_text.proofs.saved.CommandLemmas.{apart, input-plain, step-plain}
use Rattle.tsb_live_text.proofs.saved.PlainLemmas.{Plain, byte-escape, plain-is, row-plain}
use Rattle.tsb_live_text.proofs.saved.SavedLemmas.{saved-bytes}
use Rattle.tsb_lines.proofs.LineLemmas.{feedless-both}

easy-join : (xs ys : List ℕ) → list_all is_easy xs ≡ true → list_all is_easy ys ≡ true → list_all is_easy (xs ++ ys) ≡ true
easy-join xs ys p q = list_all-append is_easy xs ys ∙ and_from (list_all is_easy xs) (list_all is_easy ys) p q

plain-easy : (xs : List ℕ) → are_plain xs ≡ true → list_all is_easy xs ≡ true
plain-easy [] p = refl
plain-easy (x ∷ xs) p =
    let both = and_parts (is_plain x) (are_plain xs) p in
    and_from (is_easy x) (list_all is_easy xs) (or_right (x == 10) (is_plain x) both.0) (plain-easy xs both.1)

line-easy : (line : List ℕ) → are_plain line ≡ true → list_all is_easy (with_feed line) ≡ true
line-easy line p = easy-join line (10 ∷ []) (plain-easy line p) refl

log-easy : (form : RowForm) (rows : List LogRow) → list_all is_easy (text_in form rows) ≡ true
unfolding log_text lists_text
log-easy Digits [] = refl
log-easy Lists [] = refl
log-easy Digits (r ∷ rs) = easy-join (row_line r) (10 ∷ log_text rs) (plain-easy (row_line r) (row-plain Digits r)) (log-easy Digits rs)
log-easy Lists (r ∷ rs) = easy-join (lists_line r) (10 ∷ lists_text rs) (plain-easy (lists_line r) (row-plain Lists r)) (log-easy Lists rs)

input-easy : (i : Input) → IsSpelled i → list_all is_easy (input_text i) ≡ true
input-easy (Tick row) h = refl
input-easy i h = line-easy (input_line i) (input-plain i h)

step-easy : (n : ℕ) → n < 2 ^ 32 → list_all is_easy (step_text n) ≡ true
step-easy n lt = go (n == 0)
  where
    go : (b : Bool) → list_all is_easy (if b then [] else with_feed (codes "step " ++ decimal n)) ≡ true
    go true = refl
    go false = line-easy (codes "step " ++ decimal n) (step-plain n lt)

commands-easy : (now : ℕ) (os : List Other) (t : ℕ) → now < 2 ^ 32 → AreSpelled os → list_all is_easy (commands_from now os t) ≡ true
commands-easy now [] t lt h = step-easy (now - t) (omega (arith, lt))
commands-easy now (o ∷ os) t lt h =
    easy-join (step_text (o.tick - t)) (input_text o.input ++ commands_from now os o.tick) (step-easy (o.tick - t) (omega (arith, h.0)))
    (easy-join (input_text o.input) (commands_from now os o.tick) (input-easy o.input h.1) (commands-easy now os o.tick lt h.2))

-- ## One line

-- the escape of a line feed, or a plain byte
feed-feedless : HasNoFeed (escape_byte 10)
unfolding escape_byte
feed-feedless = ((λ e. omega (arith, e)), ((λ e. omega (arith, e)), tt))

byte-feedless : (b : ℕ) → is_easy b ≡ true → HasNoFeed (escape_byte b)
byte-feedless b p = elim (or_cases (b == 10) (is_plain b) p) [
  | inl is ↦ subst (λ (x : ℕ). HasNoFeed (escape_byte x)) (sym (eqb-true b 10 is)) feed-feedless
  | inr plain ↦
      let is : Plain b = plain-is b plain in
      subst HasNoFeed (sym (byte-escape b is)) ((λ e. omega (arith, e, is.low)), tt)
]

escape-feedless : (bytes : List ℕ) → list_all is_easy bytes ≡ true → HasNoFeed (escape bytes)
escape-feedless [] p = tt
escape-feedless (b ∷ bs) p =
    let both = and_parts (is_easy b) (list_all is_easy bs) p in
    feedless-both (escape_byte b) (escape bs) (byte-feedless b both.0) (escape-feedless bs both.1)

-- bytes without a line feed, computed
feedless : (bytes : List ℕ) → list_all (λ b. not (b == 10)) bytes ≡ true → HasNoFeed bytes
feedless [] p = tt
feedless (b ∷ bs) p =
    let both = and_parts (not (b == 10)) (list_all (λ b. not (b == 10)) bs) p in
    (apart b 10 (not-true (b == 10) both.0), feedless bs both.1)

pub easy : AreEasy
easy kept now lt h =
    let text : List ℕ = text_in (form_for kept.rows) kept.rows in
    let log : list_all is_easy text ≡ true = log-easy (form_for kept.rows) kept.rows in
    let commands : list_all is_easy (commands_text kept now) ≡ true = commands-easy now kept.others 0 lt h in (
      log,
      commands,
      subst HasNoFeed (sym (saved-bytes kept now)) (
          feedless-both (codes "{\"log\":\"") (escape text ++ (codes "\",\"commands\":\"" ++ (escape (commands_text kept now) ++ codes "\"}"))) (feedless (codes "{\"log\":\"") refl)
          (feedless-both (escape text) (codes "\",\"commands\":\"" ++ (escape (commands_text kept now) ++ codes "\"}")) (escape-feedless text log)
          (feedless-both (codes "\",\"commands\":\"") (escape (commands_text kept now) ++ codes "\"}") (feedless (codes "\",\"commands\":\"") refl)
          (feedless-both (escape (commands_text kept now)) (codes "\"}") (escape-feedless (commands_text kept now) commands) (feedless (codes "\"}") refl))))
          ),
    )
