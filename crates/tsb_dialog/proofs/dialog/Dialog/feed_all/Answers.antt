use Rattle.std.proofs.Common.{◌≡◌, ◌∷◌, ◌++◌, ◌+◌, ◌≤◌, [], ℕ, List, length, length-append, refl, sym, ap, subst, ◌∙◌, append_assoc, arith, Ok}
use Rattle.std.proofs.lemmas.Result.{err_from_is_err_and}
use Rattle.tsb_dialog.specs.declared.answers.Flow.{Flow}
use Rattle.tsb_dialog.specs.declared.answers.Flow.TheVariants.{On}
use Rattle.tsb_dialog.specs.declared.dialog.TheConstants.{KEPT}
use Rattle.tsb_dialog.specs.Going.{Fed}
use Rattle.tsb_dialog.proofs.HeardLemmas.{fed-nothing, fed-piece}
use Rattle.tsb_dialog.proofs.PieceLemmas.{fed-broken, fed-more, fed-over}
use Rattle.tsb_dialog.proofs.dialog.Dialog.feed_all.Goals as goal

-- a line more is a line feed more at least
longer : (taken rest : List ℕ) → length taken + 1 ≤ length (taken ++ (rest ++ 10 ∷ []))
longer taken rest =
    let all : length (taken ++ (rest ++ 10 ∷ [])) ≡ length taken + length (rest ++ 10 ∷ []) = length-append taken (rest ++ 10 ∷ []) in
    let line : length (rest ++ 10 ∷ []) ≡ length rest + 1 = length-append rest (10 ∷ []) in
    omega (arith, all, line)

-- what was taken, and the line after it
behind : (taken rest next left bytes : List ℕ) → bytes ≡ taken ++ left → left ≡ rest ++ 10 ∷ next → bytes ≡ (taken ++ (rest ++ 10 ∷ [])) ++ next
behind taken rest next left bytes all cut =
    all ∙ ap (λ (v : List ℕ). taken ++ v) (cut ∙ sym (append_assoc rest (10 ∷ []) next)) ∙ sym (append_assoc taken (rest ++ 10 ∷ []) next)

pub loop-rest-init : goal.loop-rest-init
loop-rest-init g c = record {
  fed = (
    [],
    refl,
    omega arith,
    λ from now before text here h. fed-nothing KEPT g.A.Answers.stands g.A.Answers.says from now before text c.args.answers.now c.args.self.now.number c.args.self.now.line _ _ here h,
  );
  well = λ w. w;
}

pub loop-rest-preserved : goal.loop-rest-preserved
loop-rest-preserved g c =
    let was = c.loop-rest.invariant.fed in
    let more = longer was.0 c.in-Some.rest.now in
    record {
      fed = (
        was.0 ++ (c.in-Some.rest.now ++ 10 ∷ []),
        behind was.0 c.in-Some.rest.now c.in-Some.next.now c.loop-rest.left.now c.args.bytes.now was.1 c.in-Some.ensures.1,
        omega (arith, more, was.2, c.in_ok-feed_line.ensures.number),
        λ from now before text here h. subst (λ (f : Flow). Fed KEPT g.A.Answers.stands g.A.Answers.says from (before ++ (was.0 ++ (c.in-Some.rest.now ++ 10 ∷ []))) text (Ok f) c.feed_line.new.answers c.feed_line.new.self.number c.feed_line.new.self.line
            (g.W.Write.contents c.args.writer.now.device) (g.W.Write.contents c.feed_line.new.writer.device) c.args.self.now.pending c.feed_line.new.self.pending) c.in-On.is
            (fed-more (Ok c.in_ok-feed_line.field-0) KEPT g.A.Answers.stands g.A.Answers.says from before was.0 (c.in-Some.rest.now ++ 10 ∷ []) text c.loop-rest.answers c.feed_line.new.answers
            c.loop-rest.self.number c.feed_line.new.self.number c.loop-rest.self.line c.feed_line.new.self.line _ _ _ _ _ _ (was.3 from now before text here h) c.in_ok-feed_line.ensures.fed),
      );
      well = λ w. c.in_ok-feed_line.ensures.blame (c.loop-rest.invariant.well w);
    }

pub returns-in_err-feed_line-clause-fed : goal.returns-in_err-feed_line-clause-fed
returns-in_err-feed_line-clause-fed g c from now before text here h =
    let was = c.loop-rest.invariant.fed in
    let p = err_from_is_err_and c.from_residual.result c.from_residual.ensures.1 in
    rw p.1 (fed-broken p.0 KEPT g.A.Answers.stands g.A.Answers.says from before was.0 c.in-Some.rest.now c.in-Some.next.now c.loop-rest.left.now c.args.bytes.now text c.loop-rest.answers c.feed_line.new.answers
    c.loop-rest.self.number c.feed_line.new.self.number c.loop-rest.self.line c.feed_line.new.self.line _ _ _ _ _ _ was.1 c.in-Some.ensures.1 (was.3 from now before text here h) c.in_err-feed_line.ensures.fed)

pub returns-in-Over-clause-fed : goal.returns-in-Over-clause-fed
returns-in-Over-clause-fed g c from now before text here h =
    let was = c.loop-rest.invariant.fed in
    fed-over c.in_ok-feed_line.field-0 KEPT g.A.Answers.stands g.A.Answers.says from before was.0 c.in-Some.rest.now c.in-Some.next.now c.loop-rest.left.now c.args.bytes.now text c.loop-rest.answers c.feed_line.new.answers
    c.loop-rest.self.number c.feed_line.new.self.number c.loop-rest.self.line c.feed_line.new.self.line _ _ _ _ _ _ was.1 c.in-Some.ensures.1 c.in-Over.is (was.3 from now before text here h) c.in_ok-feed_line.ensures.fed

pub returns-clause-fed : goal.returns-clause-fed
returns-clause-fed g c from now before text here h =
    let was = c.loop-rest.invariant.fed in
    subst (λ (v : List ℕ). Fed KEPT g.A.Answers.stands g.A.Answers.says from (before ++ v) text (Ok On) c.loop-rest.answers c.loop-rest.self.number c.extend.new.self
    (g.W.Write.contents c.args.writer.now.device) (g.W.Write.contents c.loop-rest.writer.device) c.args.self.now.pending c.loop-rest.self.pending) (sym was.1)
    (fed-more (Ok On) KEPT g.A.Answers.stands g.A.Answers.says from before was.0 c.loop-rest.left.now text c.loop-rest.answers c.loop-rest.answers
    c.loop-rest.self.number c.loop-rest.self.number c.loop-rest.self.line c.extend.new.self _ _ _ _ _ _ (was.3 from now before text here h)
    (λ from now bytes text here h. fed-piece KEPT g.A.Answers.stands g.A.Answers.says from now bytes text c.loop-rest.self.number c.loop-rest.self.line c.extend.new.self c.loop-rest.left.now c.loop-rest.answers _ _ c.in_default.ensures c.extend.ensures.kept here h))
