-- The names of channels, one after the other.
use Rattle.std.proofs.Common.{◌≡◌, ℕ, ◌+◌, ◌-◌, ◌<◌, ◌≤◌, suc, List, ◌++◌, sym, ap, ◌∙◌, arith, append_assoc, append-nil}
use Rattle.tsb_field_streams.specs.Channels.{channel_text, channels_from}
use Rattle.tsb_field_streams.specs.declared.filter.channels.Channels.{Channels}

-- the name of the next channel, and those after it
names-more : (channels : Channels) (k most : ℕ) → k < most
    → channels_from channels k (most - k) ≡ channel_text channels k ++ channels_from channels (k + 1) (most - (k + 1))
unfolding channels_from
names-more channels k most lt =
    let more : most - k ≡ suc (most - (k + 1)) = omega (arith, lt) in
    let next : suc k ≡ k + 1 = omega arith in
    ap (λ (n : ℕ). channels_from channels k n) more ∙ ap (λ (n : ℕ). channel_text channels k ++ channels_from channels n (most - (k + 1))) next

-- where all channels were named
pub names-all : (channels : Channels) (k most : ℕ) (all whole : List ℕ) → most ≤ k → all ++ channels_from channels k (most - k) ≡ whole → all ≡ whole
unfolding channels_from
names-all channels k most all whole le is =
    let none : most - k ≡ 0 = omega (arith, le) in
    sym (append-nil all) ∙ ap (λ (n : ℕ). all ++ channels_from channels k n) (sym none) ∙ is

-- after the next channel
pub names-next : (channels : Channels) (k most : ℕ) (all more whole : List ℕ) → k < most → more ≡ all ++ channel_text channels k → all ++ channels_from channels k (most - k) ≡ whole
    → more ++ channels_from channels (k + 1) (most - (k + 1)) ≡ whole
names-next channels k most all more whole lt added is =
    ap (λ (ts : List ℕ). ts ++ channels_from channels (k + 1) (most - (k + 1))) added
    ∙ (append_assoc all (channel_text channels k) (channels_from channels (k + 1) (most - (k + 1)))
    ∙ (ap (λ (ts : List ℕ). all ++ ts) (sym (names-more channels k most lt)) ∙ is))
