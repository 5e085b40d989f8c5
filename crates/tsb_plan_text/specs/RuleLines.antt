-- How a rule is told, as the fault of a plan text and as the answer to a check at the desk.
use Rattle.std.specs.Prelude.{ℕ, List, ◌++◌, codes}
use Rattle.tsb_objects.specs.tsb_rules.declared.rules.Rule.{Rule}
use Rattle.tsb_objects.specs.tsb_rules.declared.rules.Rule.TheVariants.{K1, K2, K3, K4, K5, K6, K7, K8, K9, K10, K11, K12, K13, K14, K15, K16, K17, K18, K19, K20, K21, K22, K23, K24, K25, K26, K27, K28, K29}

-- the letter K and the rule's number
abbrev pub rule_name : Rule → List ℕ
rule_name K1 = codes "K1"
rule_name K2 = codes "K2"
rule_name K3 = codes "K3"
rule_name K4 = codes "K4"
rule_name K5 = codes "K5"
rule_name K6 = codes "K6"
rule_name K7 = codes "K7"
rule_name K8 = codes "K8"
rule_name K9 = codes "K9"
rule_name K10 = codes "K10"
rule_name K11 = codes "K11"
rule_name K12 = codes "K12"
rule_name K13 = codes "K13"
rule_name K14 = codes "K14"
rule_name K15 = codes "K15"
rule_name K16 = codes "K16"
rule_name K17 = codes "K17"
rule_name K18 = codes "K18"
rule_name K19 = codes "K19"
rule_name K20 = codes "K20"
rule_name K21 = codes "K21"
rule_name K22 = codes "K22"
rule_name K23 = codes "K23"
rule_name K24 = codes "K24"
rule_name K25 = codes "K25"
rule_name K26 = codes "K26"
rule_name K27 = codes "K27"
rule_name K28 = codes "K28"
rule_name K29 = codes "K29"

-- its line, without its end
abbrev pub rule_line : Rule → List ℕ
rule_line r = codes "rule " ++ rule_name r
