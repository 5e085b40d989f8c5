-- Words of `tsb_live` and what they ask for, computed.
use Rattle.std.proofs.Common.{◌≡◌, true, false, [], ◌∷◌, Some, None, refl, codes}
use Rattle.clap.proofs.OnLiterals.{clap_on_literals}
use Rattle.tsb_words.specs.LiveWords.{wish_of}

-- a plan alone
plan-alone : wish_of (codes "a.json" ∷ []) ≡ Some (record { plan = codes "a.json"; is_strict = false })
unfolding clap_on_literals
plan-alone = refl

-- the flag before it
strict-before : wish_of (codes "--strict" ∷ codes "a.json" ∷ []) ≡ Some (record { plan = codes "a.json"; is_strict = true })
unfolding clap_on_literals
strict-before = refl

-- the flag after it
strict-after : wish_of (codes "a.json" ∷ codes "--strict" ∷ []) ≡ Some (record { plan = codes "a.json"; is_strict = true })
unfolding clap_on_literals
strict-after = refl

-- after `--` it is a file
strict-file : wish_of (codes "--" ∷ codes "--strict" ∷ []) ≡ Some (record { plan = codes "--strict"; is_strict = false })
unfolding clap_on_literals
strict-file = refl

-- twice
strict-twice : wish_of (codes "--strict" ∷ codes "a.json" ∷ codes "--strict" ∷ []) ≡ None
unfolding clap_on_literals
strict-twice = refl

-- with a value
strict-value : wish_of (codes "--strict=1" ∷ codes "a.json" ∷ []) ≡ None
unfolding clap_on_literals
strict-value = refl

-- the flag without a plan, two plans, no word, and help
no-plan : wish_of (codes "--strict" ∷ []) ≡ None
no-plan = refl

two-plans : wish_of (codes "a.json" ∷ codes "b.json" ∷ []) ≡ None
unfolding clap_on_literals
two-plans = refl

no-word : wish_of [] ≡ None
no-word = refl

no-help : wish_of (codes "--help" ∷ []) ≡ None
unfolding clap_on_literals
no-help = refl
