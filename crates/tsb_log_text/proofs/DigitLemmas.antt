use Rattle.std.proofs.Common.{ℕ, ◌+◌, ◌*◌, None, Some, Option}

-- the list that is read so far, and the weight of the next digit, with what the further digits spell
abbrev pub onto_list : ℕ → ℕ → Option ℕ → Option ℕ
onto_list list weight None = None
onto_list list weight (Some rest) = Some (list + weight * rest)
