-- The command of `tsb_live` as `clap` reads it, and what is made of what `clap` answers.
use Rattle.std.specs.Prelude.{Bool, true, false, Option, Some, option_map, codes}
use Rattle.clap.specs.Simple.{App, new_app, new_rule, with_rule}
use Rattle.clap.specs.Walk.{Rule, Text}
use Rattle.clap.specs.declared.builder.action.ArgAction.TheVariants.{SetTrue}
use Rattle.tsb_words.specs.LiveWords.{Wish}

-- the file of a plan, which has to be named
abbrev pub plan_rule : Rule
plan_rule = record (new_rule (codes "PLAN")) { required = true }

-- the flag `--strict`
abbrev pub flag_rule : Rule
flag_rule = record (new_rule (codes "strict")) { long = Some (codes "strict"); action = Some SetTrue }

-- the program
abbrev pub program : App
program = with_rule (with_rule (new_app (codes "tsb_live")) plan_rule) flag_rule

-- how `clap` writes whether a flag was set
abbrev pub flag_text : Bool → Text
flag_text true = codes "true"
flag_text false = codes "false"

-- what is asked for, where this plan was named, if any, and the flag was set or not
abbrev pub wish_with : Option Text → Bool → Option Wish
wish_with plan is_strict = option_map (λ (name : Text). record { plan = name; is_strict = is_strict }) plan
