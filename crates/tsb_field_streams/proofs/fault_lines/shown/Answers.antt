use Rattle.std.proofs.Common.{◌≡◌, ◌∙◌, ◌≤◌, ℕ, ap, arith, length, map, min, take, take_all}
use Rattle.tsb_field_streams.specs.FaultLines.{safe}
use Rattle.tsb_field_streams.proofs.fault_lines.shown.Goals as goal

pub returns-clause-text : goal.returns-clause-text
returns-clause-text c =
    let field = c.args.field in
    let least : c.min.result ≡ min field.count 40 = c.min.ensures in
    let done : length (take c.min.result field.bytes) ≤ c.loop-byte.byte-index = omega (arith, c.loop-byte-test.false) in
    c.loop-byte.invariant.text
    ∙ ap (map safe) (take_all c.loop-byte.byte-index (take c.min.result field.bytes) done ∙ ap (λ (n : ℕ). take n field.bytes) least)
