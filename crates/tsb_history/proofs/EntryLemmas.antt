-- Entries from a place to another: how many they are, and which is the first.
use Rattle.std.proofs.Common.{◌≡◌, ℕ, suc, ◌+◌, ◌*◌, ◌<◌, arith}
use Rattle.tsb_history.specs.Bytes.{entries_within}

-- as many are from a place to another as fill the bytes between
pub filled-within : (n at end : ℕ) → at + 6 * n ≡ end → entries_within at end ≡ n
filled-within n at end whole = omega (arith, whole)

-- one and those behind it
pub one-within : (at end : ℕ) → at + 6 * entries_within at end ≡ end → at < end → entries_within at end ≡ suc (entries_within (at + 6) end)
one-within at end whole more = omega (arith, whole, more)
