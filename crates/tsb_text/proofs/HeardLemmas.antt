-- What was said to the lines that were read is the text of a session.
use Rattle.std.proofs.Common.{◌≡◌, ℕ, List, [], ◌∷◌, ◌++◌, refl, sym, ap, ◌∙◌, append_assoc, subst, inl, inr, length, suc}
use Rattle.std.proofs.lemmas.List.{append-nil}
use Rattle.tsb_bench.specs.tsb_step.declared.inputs.Input.{Input}
use Rattle.tsb_command_text.specs.declared.command.Reading.{Reading}
use Rattle.tsb_command_text.specs.declared.command.Reading.TheVariants.{Bad}
use Rattle.tsb_command_text.specs.Readings.{reading}
use Rattle.tsb_dialog.specs.declared.answers.Flow.TheVariants.{On}
use Rattle.tsb_dialog.specs.Heard.{Heard, HaveNoFeed, IsAnswered as IsAnsweredWhole, IsOver, IsSaid, Runs, asked, fed}
use Rattle.tsb_lines.specs.Lines.{HasNoFeed, lines_of, without_return}
use Rattle.tsb_lines.proofs.KeptLemmas.{feedless-kept, kept-tells}
use Rattle.tsb_lines.proofs.LineLemmas.{lines-alone, lines-joined}
use Rattle.tsb_text.specs.Answers.{Setup}
use Rattle.tsb_text.specs.Ended.{AnswersWhole, Carries, EndsLine, IsBegun, IsWhole, Quits}
use Rattle.tsb_text.specs.Replies.{Replies, Stand, laid, says}
use Rattle.tsb_text.specs.Text.{IsAnswered, IsText}
use Rattle.tsb_text.proofs.ReplyLemmas.{reply-given, reply-last, reply-on, reply-over, reply-quit}
use Rattle.tsb_text.proofs.TextLemmas.{reading-returned, some-text, text-kept}

-- ## Lines

-- what is kept of a line is read as the line is
read-kept : (line : List ℕ) → reading (asked 202 line) ≡ reading (without_return line)
read-kept line = kept-tells (λ (v : List ℕ). reading (without_return v)) 202 Bad reading-returned line

-- a line with its line feed, and what stands after
whole-line : (line more : List ℕ) → HasNoFeed line → lines_of ((line ++ 10 ∷ []) ++ more) ≡ without_return line ∷ lines_of more
whole-line line more f = ap lines_of (append_assoc line (10 ∷ []) more) ∙ lines-joined line more f

line-said : (now left : Stand) (n : ℕ) (line answer more rest : List ℕ) → HasNoFeed line → says now n (asked 202 line) answer On left → IsText left.given left.inputs more rest
    → IsText now.given now.inputs ((line ++ 10 ∷ []) ++ more) (answer ++ rest)
line-said now left n line answer more rest f told t =
    subst (λ (ls : List (List ℕ)). IsAnswered now.given now.inputs ls (answer ++ rest)) (sym (whole-line line more f))
    (reply-on now left (reading (without_return line)) answer rest (λ given new text. IsAnswered given new (lines_of more) text)
    (subst (λ (r : Reading). Replies now r answer On left) (read-kept line) told) t)

runs-given : (from now : Stand) (lines : List (List ℕ)) (text : List ℕ) → Runs 202 says from lines text now → now.given ≡ laid now.given.is_wide from.given
runs-given from now [] text r = subst (λ (s : Stand). s.given ≡ laid s.given.is_wide from.given) (sym r.1) refl
runs-given from now (line ∷ lines) text r =
    reply-given r.2 now (reading (asked 202 line)) r.1 On r.4 ∙ ap (laid now.given.is_wide) (runs-given from r.2 lines r.0 r.3)

-- what was said to these lines, and then a text of the bytes after them
runs-said : (from now : Stand) (lines : List (List ℕ)) (text more rest : List ℕ) → HaveNoFeed lines → Runs 202 says from lines text now → IsText now.given now.inputs more rest
    → IsText from.given from.inputs (fed lines ++ more) (text ++ rest)
runs-said from now [] text more rest f r t =
    subst (λ (v : List ℕ). IsText from.given from.inputs more (v ++ rest)) (sym r.0) (subst (λ (s : Stand). IsText s.given s.inputs more rest) r.1 t)
runs-said from now (line ∷ lines) text more rest f r t =
    let one : IsText r.2.given r.2.inputs ((line ++ 10 ∷ []) ++ more) (r.1 ++ rest) = line-said r.2 now (suc (length lines)) line r.1 more rest f.0 r.4 t in
    let all : IsText from.given from.inputs (fed lines ++ ((line ++ 10 ∷ []) ++ more)) (r.0 ++ (r.1 ++ rest)) = runs-said from r.2 lines r.0 ((line ++ 10 ∷ []) ++ more) (r.1 ++ rest) f.1 r.3 one in
    subst (λ (v : List ℕ). IsText from.given from.inputs v (text ++ rest)) (sym (append_assoc (fed lines) (line ++ 10 ∷ []) more))
    (subst (λ (v : List ℕ). IsText from.given from.inputs (fed lines ++ ((line ++ 10 ∷ []) ++ more)) v) (sym (append_assoc r.0 r.1 rest) ∙ ap (λ (v : List ℕ). v ++ rest) (sym r.5)) all)

-- ## Bytes

pub heard-given : (from : Stand) (bytes text : List ℕ) (n : ℕ) (now : Stand) (held : List ℕ) → Heard 202 says from bytes text n now held → now.given ≡ laid now.given.is_wide from.given
heard-given from bytes text n now held h = runs-given from now h.lines text h.runs

-- what is held has no line feed
heard-clean : (from : Stand) (bytes text : List ℕ) (n : ℕ) (now : Stand) (held : List ℕ) → Heard 202 says from bytes text n now held → HasNoFeed held
heard-clean from bytes text n now held h = subst (λ (v : List ℕ). HasNoFeed v) (sym h.kept) (feedless-kept 202 h.rest h.unfinished)

pub heard-carries : (from : Stand) (bytes text : List ℕ) (n : ℕ) (now : Stand) (held : List ℕ) → Heard 202 says from bytes text n now held → Carries from.given from.inputs bytes now.given now.inputs held text
heard-carries from bytes text n now held h = record {
  on = λ more rest t.
      subst (λ (v : List ℕ). IsText from.given from.inputs v (text ++ rest)) (sym (ap (λ (v : List ℕ). v ++ more) h.whole ∙ append_assoc (fed h.lines) h.rest more))
      (runs-said from now h.lines text (h.rest ++ more) rest h.ended h.runs
      (text-kept now.given now.inputs h.rest more rest h.unfinished (subst (λ (v : List ℕ). IsText now.given now.inputs (v ++ more) rest) h.kept t)));
}

-- all whole lines of the bytes were answered
pub heard-whole : (given : Setup) (bytes text : List ℕ) (n : ℕ) (now : Stand) (held : List ℕ) → Heard 202 says (record { given = given; inputs = [] }) bytes text n now held → AnswersWhole given bytes text
heard-whole given bytes text n now held h = record {
  is_wide = now.given.is_wide;
  left = now.inputs;
  held = held;
  unfinished = heard-clean (record { given = given; inputs = [] }) bytes text n now held h;
  carries = subst (λ (g : Setup). Carries given [] bytes g now.inputs held text) (heard-given (record { given = given; inputs = [] }) bytes text n now held h)
      (heard-carries (record { given = given; inputs = [] }) bytes text n now held h);
}

-- what goes on begins a text
pub heard-begun : (from : Stand) (bytes text : List ℕ) (n : ℕ) (now : Stand) (held : List ℕ) → Heard 202 says from bytes text n now held → IsBegun from.given from.inputs bytes text
heard-begun from bytes text n now held h = record {
  rest = λ more. let some : (t : List ℕ) × IsText now.given now.inputs (held ++ more) t = some-text now.given now.inputs (held ++ more) in
      (some.0, (heard-carries from bytes text n now held h).on more some.0 some.1);
}

-- the last line was answered
pub answered-text : (from : Stand) (bytes text : List ℕ) (end : Stand) → IsAnsweredWhole 202 says from bytes text end → IsText from.given from.inputs bytes text
answered-text from bytes text end a =
    subst (λ (v : List ℕ). IsText from.given from.inputs v text) (append-nil bytes)
    (subst (λ (v : List ℕ). IsText from.given from.inputs (bytes ++ []) v) (sym a.all)
    ((heard-carries from bytes a.before a.number a.now a.held a.heard).on [] a.answer
    (subst (λ (v : List ℕ). IsText a.now.given a.now.inputs v a.answer) (sym (append-nil a.held)) last)))
  where
    said : IsAnswered a.now.given a.now.inputs (a.held ∷ []) a.answer
    said = reply-last a.flow a.now end (reading a.held) a.answer a.told

    last : IsText a.now.given a.now.inputs a.held a.answer
    last =
        subst (λ (ls : List (List ℕ)). IsAnswered a.now.given a.now.inputs ls a.answer) (sym (lines-alone a.held (heard-clean from bytes a.before a.number a.now a.held a.heard))) said

-- ## A line that ends the session

pub over-whole : (from : Stand) (bytes text : List ℕ) (end : Stand) → IsOver 202 says from bytes text end → IsWhole from.given from.inputs bytes text
over-whole from bytes text end o = record {
  all = λ more.
      subst (λ (v : List ℕ). IsText from.given from.inputs v text) (sym (ap (λ (v : List ℕ). v ++ more) o.whole ∙ append_assoc o.front (10 ∷ o.more) more))
      (subst (λ (v : List ℕ). IsText from.given from.inputs (o.front ++ 10 ∷ (o.more ++ more)) v) (sym o.all)
      ((heard-carries from o.front o.before o.number o.now o.held o.heard).on (10 ∷ (o.more ++ more)) o.answer (last more)));
}
  where
    said : (more : List ℕ) → IsAnswered o.now.given o.now.inputs (without_return o.held ∷ lines_of (o.more ++ more)) o.answer
    said more = reply-over o.now end (reading (without_return o.held)) o.answer (λ given new rest. IsAnswered given new (lines_of (o.more ++ more)) rest) o.told

    last : (more : List ℕ) → IsText o.now.given o.now.inputs (o.held ++ 10 ∷ (o.more ++ more)) o.answer
    last more =
        subst (λ (ls : List (List ℕ)). IsAnswered o.now.given o.now.inputs ls o.answer) (sym (lines-joined o.held (o.more ++ more) (heard-clean from o.front o.before o.number o.now o.held o.heard)))
        (said more)

ends-line : (lines : List (List ℕ)) → EndsLine (fed lines)
ends-line [] = inl refl
ends-line (line ∷ lines) = inr (fed lines ++ line, sym (append_assoc (fed lines) line (10 ∷ [])))

-- a line that is `quit` was kept whole
pub over-quits : (from : Stand) (bytes text : List ℕ) (end : Stand) → IsOver 202 says from bytes text end → Quits bytes
over-quits from bytes text end o = record {
  front = fed o.heard.lines;
  line = o.heard.rest;
  more = o.more;
  whole = o.whole ∙ ap (λ (v : List ℕ). v ++ 10 ∷ o.more) o.heard.whole ∙ append_assoc (fed o.heard.lines) o.heard.rest (10 ∷ o.more);
  ended = ends-line o.heard.lines;
  one = o.heard.unfinished;
  reads =
      sym (read-kept o.heard.rest) ∙ ap (λ (v : List ℕ). reading (without_return v)) (sym o.heard.kept)
      ∙ reply-quit o.now end (reading (without_return o.held)) o.answer o.told;
}

pub over-begun : (from : Stand) (bytes text : List ℕ) (end : Stand) → IsOver 202 says from bytes text end → IsBegun from.given from.inputs bytes text
over-begun from bytes text end o =
    record { rest = λ more. ([], subst (λ (v : List ℕ). IsText from.given from.inputs (bytes ++ more) v) (sym (append-nil text)) ((over-whole from bytes text end o).all more)) }

-- ## What begins a text

-- more bytes after those that it is begun for
pub begun-more : (given : Setup) (is : List Input) (bytes more text : List ℕ) → IsBegun given is bytes text → IsBegun given is (bytes ++ more) text
begun-more given is bytes more text b = record {
  rest = λ last. ((b.rest (more ++ last)).0, subst (λ (v : List ℕ). IsText given is v (text ++ (b.rest (more ++ last)).0)) (sym (append_assoc bytes more last)) (b.rest (more ++ last)).1);
}

-- a first part of it
pub begun-front : (given : Setup) (is : List Input) (bytes text rest : List ℕ) → IsBegun given is bytes (text ++ rest) → IsBegun given is bytes text
begun-front given is bytes text rest b = record {
  rest = λ more. (rest ++ (b.rest more).0, subst (λ (v : List ℕ). IsText given is (bytes ++ more) v) (append_assoc text rest (b.rest more).0) (b.rest more).1);
}

pub said-begun : (from : Stand) (bytes text : List ℕ) → IsSaid 202 says from bytes text → IsBegun from.given from.inputs bytes text
said-begun from bytes text s = subst (λ (v : List ℕ). IsBegun from.given from.inputs v text) (sym s.whole) (begun-more from.given from.inputs s.front s.more text begun)
  where
    begun : IsBegun from.given from.inputs s.front text
    begun = elim s.so [
      | inl heard ↦ heard-begun from s.front text heard.0 heard.1 heard.2 heard.3
      | inr over ↦ over-begun from s.front text over.0 over.1
    ]
