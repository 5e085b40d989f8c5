-- The wires from the channels that are not mapped.
use Rattle.std.proofs.Common.{◌≡◌, ℕ, ◌+◌, ◌-◌, ◌<◌, ◌≤◌, true, false, suc, List, [], ◌∷◌, ◌++◌, refl, sym, ap, ◌∙◌, arith, append_assoc, append-nil}
use Rattle.tsb_field_log.specs.declared.inputs.InputKind.{InputKind}
use Rattle.tsb_field_log.specs.declared.inputs.Wire.{Wire}
use Rattle.tsb_field_log.specs.Mapping.{is_wired, own_wire, own_wires}

-- the wire of the next channel, and those after it
own-more : (mapped : List Wire) (kind : InputKind) (k most : ℕ) → k < most → own_wires mapped kind (k + 1) (most - k) ≡ own_wire mapped kind (k + 1) ++ own_wires mapped kind (k + 1 + 1) (most - (k + 1))
unfolding own_wires
own-more mapped kind k most lt =
    let more : most - k ≡ suc (most - (k + 1)) = omega (arith, lt) in
    let next : suc (k + 1) ≡ k + 1 + 1 = omega arith in
    ap (λ (n : ℕ). own_wires mapped kind (k + 1) n) more ∙ ap (λ (n : ℕ). own_wire mapped kind (k + 1) ++ own_wires mapped kind n (most - (k + 1))) next

-- where all channels were looked at
pub own-all : (mapped : List Wire) (kind : InputKind) (k most : ℕ) (all whole : List Wire) → most ≤ k → all ++ own_wires mapped kind (k + 1) (most - k) ≡ whole → all ≡ whole
unfolding own_wires
own-all mapped kind k most all whole le is =
    let none : most - k ≡ 0 = omega (arith, le) in
    sym (append-nil all) ∙ ap (λ (n : ℕ). all ++ own_wires mapped kind (k + 1) n) (sym none) ∙ is

-- after the wire of a channel that is not mapped
pub own-pushed : (mapped : List Wire) (kind : InputKind) (k most : ℕ) (all whole : List Wire) → k < most → is_wired mapped kind (k + 1) ≡ false → all ++ own_wires mapped kind (k + 1) (most - k) ≡ whole
    → (all ++ record { kind = kind; channel = k + 1; input = k + 1 } ∷ []) ++ own_wires mapped kind (k + 1 + 1) (most - (k + 1)) ≡ whole
own-pushed mapped kind k most all whole lt free is =
    let one : own_wire mapped kind (k + 1) ≡ record { kind = kind; channel = k + 1; input = k + 1 } ∷ [] = rw free refl in
    append_assoc all (record { kind = kind; channel = k + 1; input = k + 1 } ∷ []) (own_wires mapped kind (k + 1 + 1) (most - (k + 1)))
    ∙ ap (λ (ws : List Wire). all ++ (ws ++ own_wires mapped kind (k + 1 + 1) (most - (k + 1)))) (sym one)
    ∙ ap (λ (ws : List Wire). all ++ ws) (sym (own-more mapped kind k most lt)) ∙ is

-- after a channel that is mapped
pub own-passed : (mapped : List Wire) (kind : InputKind) (k most : ℕ) (all whole : List Wire) → k < most → is_wired mapped kind (k + 1) ≡ true → all ++ own_wires mapped kind (k + 1) (most - k) ≡ whole
    → all ++ own_wires mapped kind (k + 1 + 1) (most - (k + 1)) ≡ whole
own-passed mapped kind k most all whole lt taken is =
    let none : own_wire mapped kind (k + 1) ≡ [] = rw taken refl in
    ap (λ (ws : List Wire). all ++ (ws ++ own_wires mapped kind (k + 1 + 1) (most - (k + 1)))) (sym none)
    ∙ ap (λ (ws : List Wire). all ++ ws) (sym (own-more mapped kind k most lt)) ∙ is
