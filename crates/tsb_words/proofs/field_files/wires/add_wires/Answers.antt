use Rattle.std.proofs.Common.{◌≡◌, ◌∙◌, ◌++◌, ◌∷◌, [], ap, not}
use Rattle.std.proofs.lemmas.Bool.{cond-true}
use Rattle.tsb_words.proofs.WireLemmas.{no-wire, no-word, wire-added}
use Rattle.tsb_words.proofs.field_files.wires.add_wires.Goals as goal

pub loop-word-preserved : goal.loop-word-preserved
loop-word-preserved c =
    let at = c.loop-word in
    let grown : c.push.new.self.items ≡ at.wires.items ++ c.in-Some.wire ∷ [] = c.push.ensures.items ∙ cond-true _ _ _ (c.is_err.ensures.negation ∙ ap not c.if-is_err.false) in
    wire-added c.args.kind at.wires.items _ c.args.words.now at.word-index _ c.as_bytes.result.now c.in-Some.wire c.loop-word-test.true c.as_bytes.ensures.value c.in-Some.ensures grown
    ∙ at.invariant

pub returns-in_default : goal.returns-in_default
returns-in_default c =
    no-wire c.args.kind c.args.wires.now.items c.loop-word.wires.items c.args.words.now c.loop-word.word-index _ c.as_bytes.result.now c.loop-word-test.true
    c.as_bytes.ensures.value c.in_default.ensures c.loop-word.invariant

pub returns : goal.returns
returns c =
    no-word c.args.kind c.args.wires.now.items c.loop-word.wires.items c.args.words.now c.loop-word.word-index c.loop-word-test.false c.loop-word.invariant
