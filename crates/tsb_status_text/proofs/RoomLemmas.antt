-- What there is room for.
use Rattle.std.proofs.Common.{◌≡◌, ℕ, ◌<◌, ◌≤◌, List, [], ◌++◌, length, subst, decimal, arith}
use Rattle.std.proofs.lemmas.Fmt.{length-decimal-le}
use Rattle.tsb_lines.specs.ShortLines.{Adds, AddsShort}
use Rattle.tsb_lines.proofs.ShortLemmas.{all-of}
use Rattle.tsb_status_text.specs.declared.line.TheConstants.{LONGEST}
use Rattle.tsb_status_text.specs.Json.{string}

-- a part that was added, which is as long as it is
pub part : {old text new : List ℕ} → Adds LONGEST old text new → AddsShort LONGEST (length text) old text new
part {old} {text} {new} adds = record { line = adds; short = omega arith }

-- a string, said in another way
pub named-as : {most : ℕ} {old new bytes said : List ℕ} (name : List ℕ) → bytes ≡ said → AddsShort LONGEST most old (name ++ string bytes) new → AddsShort LONGEST most old (name ++ string said) new
named-as {most} {old} {new} {bytes} {said} name same adds = subst (λ (b : List ℕ). AddsShort LONGEST most old (name ++ string b) new) same adds

-- a number, said in another way
pub number-as : {most : ℕ} {old new : List ℕ} (n m : ℕ) → n ≡ m → AddsShort LONGEST most old (decimal n) new → AddsShort LONGEST most old (decimal m) new
number-as {most} {old} {new} n m same adds = subst (λ (k : ℕ). AddsShort LONGEST most old (decimal k) new) same adds

-- all that a line has, which there is room for
pub whole : {most : ℕ} {old text new : List ℕ} → old ≡ [] → most ≤ LONGEST → AddsShort LONGEST most old text new → new ≡ text
whole {most} {old} {text} {new} none le adds =
    let short : length text ≤ most = adds.short in
    all-of none (omega (arith, le, short)) adds.line

-- digits of numbers below 10 and below 100
pub one-digit : (n : ℕ) → n < 10 → length (decimal n) ≤ 1
one-digit n lt = length-decimal-le 1 n (omega arith) lt (omega (arith, lt))

pub two-digits : (n : ℕ) → n < 100 → length (decimal n) ≤ 2
two-digits n lt = length-decimal-le 2 n (omega arith) lt (omega (arith, lt))

-- a text, said in another way
pub text-as : {most : ℕ} {old new text said : List ℕ} → text ≡ said → AddsShort LONGEST most old text new → AddsShort LONGEST most old said new
text-as {most} {old} {new} {text} {said} same adds = subst (λ (ts : List ℕ). AddsShort LONGEST most old ts new) same adds
