use Rattle.std.proofs.Common.{ℕ, ◌+◌, ◌-◌, ◌++◌, ◌∙◌, List, Vec, Global, ap, sym}
use Rattle.tsb_field_log.specs.Mapping.{own_wires}
use Rattle.tsb_field_log.specs.declared.inputs.Wire.{Wire}
use Rattle.tsb_field_log.proofs.MappingLemmas.{own-all, own-pushed, own-passed}
use Rattle.tsb_field_log.proofs.mapping.push_own_wires.Goals as goal
use Rattle.tsb_field_log.proofs.mapping.push_own_wires.Goals.{then-not-is_wired+in_ok-push, else-not-is_wired}

pub loop-before-preserved : goal.loop-before-preserved
loop-before-preserved c =
    elim c.if-not-is_wired.branch [
      | then-not-is_wired+in_ok-push w ↦
          ap (λ (ws : List Wire). ws ++ own_wires c.args.mapped.now c.args.kind (c.loop-before.before + 1 + 1) (c.digits-most.result - (c.loop-before.before + 1)))
          (ap (λ (v : Vec Wire Global). v.items) w.all-is ∙ w.in_ok-push.ensures.items)
          ∙ own-pushed c.args.mapped.now c.args.kind c.loop-before.before c.digits-most.result c.loop-before.all.items _ c.loop-before-test.true (sym c.is_wired.ensures ∙ w.if-not-is_wired.true) c.loop-before.invariant
      | else-not-is_wired w ↦
          ap (λ (v : Vec Wire Global). v.items ++ own_wires c.args.mapped.now c.args.kind (c.loop-before.before + 1 + 1) (c.digits-most.result - (c.loop-before.before + 1))) w.all-is
          ∙ own-passed c.args.mapped.now c.args.kind c.loop-before.before c.digits-most.result c.loop-before.all.items _ c.loop-before-test.true (sym c.is_wired.ensures ∙ w.if-not-is_wired.false) c.loop-before.invariant
    ]

pub returns : goal.returns
returns c =
    own-all c.args.mapped.now c.args.kind c.loop-before.before c.digits-most.result c.loop-before.all.items _ c.loop-before-test.false c.loop-before.invariant
    ∙ ap (λ (n : ℕ). c.args.all.now.items ++ own_wires c.args.mapped.now c.args.kind 1 n) c.digits-most.ensures
