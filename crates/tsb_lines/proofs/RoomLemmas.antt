-- How long what is added to a line is.
use Rattle.std.proofs.Common.{◌≡◌, ℕ, ◌+◌, ◌≤◌, List, ◌++◌, length, length-append, arith}
use Rattle.tsb_lines.specs.ShortLines.{AddsShort}
use Rattle.tsb_lines.proofs.ShortLemmas as lines

-- one part after another
pub then : {longest a b : ℕ} {old mid new one rest : List ℕ} → AddsShort longest a old one mid → AddsShort longest b mid rest new →
    AddsShort longest (a + b) old (one ++ rest) new
then {longest} {a} {b} {old} {mid} {new} {one} {rest} first others =
    let both : length (one ++ rest) ≡ length one + length rest = length-append one rest in
    let one_short : length one ≤ a = first.short in
    let rest_short : length rest ≤ b = others.short in
    record { line = lines.then first.line others.line; short = omega (arith, both, one_short, rest_short) }

-- with room for more
pub at-most : {longest a b : ℕ} {old text new : List ℕ} → a ≤ b → AddsShort longest a old text new → AddsShort longest b old text new
at-most {longest} {a} {b} {old} {text} {new} le adds =
    let short : length text ≤ a = adds.short in
    record { line = adds.line; short = omega (arith, le, short) }
