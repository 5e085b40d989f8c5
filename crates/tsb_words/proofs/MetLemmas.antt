-- What the subcommand that was met asks for.
use Rattle.std.proofs.Common.{◌≡◌, ◌∙◌, Bool, true, false, List, Option, Some, None, option_map, unwrap_or, Box, refl, sym, ap, ap₂, codes, bytes_eq}
use Rattle.clap.specs.Matches.{first_value, subcommand_name_of}
use Rattle.clap.specs.Simple.{subcommand_rows, subcommand_rows_of}
use Rattle.clap.specs.Walk.{Row, Text, rows_of}
use Rattle.clap.specs.declared.parser.matches.ArgMatches.{ArgMatches}
use Rattle.clap.specs.declared.parser.matches.ArgMatches.TheViews.{out-ArgMatches, out-SubCommand}
use Rattle.clap.specs.declared.parser.matches.Found.{Found}
use Rattle.clap.specs.declared.parser.matches.SubCommand.{SubCommand}
use Rattle.clap.proofs.WalkLemmas.{first_value-rows}
use Rattle.std.specs.Box.{box_value}
use Rattle.tsb_words.specs.BenchProgram.{asked_by, asked_for}
use Rattle.tsb_words.specs.BenchWords.{Wish, check, run}

names-met : {Z : Type 0} (o : Option (Box SubCommand Z))
    → option_map (λ (b : Box SubCommand Z). (out-SubCommand (box_value b)).name.now) o ≡ option_map (λ (p : Text × List Row). p.0) (subcommand_rows o)
names-met None = refl
names-met (Some b) = refl

-- the subcommand is the one that was met, with its matches
pub met-is : (m : ArgMatches) (name : Text) (rows : List Row) → Some name ≡ subcommand_name_of m
    → Some rows ≡ option_map (λ (p : Text × List Row). p.1) (subcommand_rows (out-ArgMatches m).subcommand) → subcommand_rows_of m ≡ Some (name, rows)
met-is m name rows named given = go (subcommand_rows_of m) (named ∙ names-met (out-ArgMatches m).subcommand) given
  where
    go : (o : Option (Text × List Row)) → Some name ≡ option_map (λ (p : Text × List Row). p.0) o → Some rows ≡ option_map (λ (p : Text × List Row). p.1) o → o ≡ Some (name, rows)
    go None n r = cc
    go (Some p) n r =
        let same : p.0 ≡ name = sym (ap (λ (o : Option Text). unwrap_or o name) n) in
        let those : p.1 ≡ rows = sym (ap (λ (o : Option (List Row)). unwrap_or o rows) r) in
        ap₂ (λ (a : Text) (b : List Row). Some (a, b)) same those

no-plan : (b : Bool) (log : Option Text) → asked_for b None log ≡ None
no-plan true log = refl
no-plan false log = refl

with-plan : (b : Bool) (plan : Text) (log : Option Text) → b ≡ true → asked_for b (Some plan) log ≡ Some (check plan)
with-plan true plan log e = refl
with-plan false plan log e = cc

no-log : (b : Bool) (plan : Text) → b ≡ false → asked_for b (Some plan) None ≡ None
no-log true plan e = cc
no-log false plan e = refl

with-log : (b : Bool) (plan log : Text) → b ≡ false → asked_for b (Some plan) (Some log) ≡ Some (run plan log)
with-log true plan log e = cc
with-log false plan log e = refl

-- what is asked for, by what the getters answer of the files
abbrev by_files : Text → Option Text → Option Text → Option Wish
by_files name = asked_for (bytes_eq name (codes "check"))

asked-is : (m : ArgMatches) (name : Text) (f : Found) → subcommand_rows_of m ≡ Some (name, rows_of f)
    → asked_by (subcommand_rows_of m) ≡ by_files name (first_value f (codes "PLAN")) (first_value f (codes "LOG"))
asked-is m name f met =
    ap asked_by met ∙ ap₂ (by_files name) (sym (first_value-rows f (codes "PLAN"))) (sym (first_value-rows f (codes "LOG")))

pub asks-no-plan : (m : ArgMatches) (name : Text) (f : Found) → subcommand_rows_of m ≡ Some (name, rows_of f)
    → None ≡ first_value f (codes "PLAN") → asked_by (subcommand_rows_of m) ≡ None
asks-no-plan m name f met plan =
    asked-is m name f met ∙ ap (λ (o : Option Text). by_files name o (first_value f (codes "LOG"))) (sym plan) ∙ no-plan (bytes_eq name (codes "check")) (first_value f (codes "LOG"))

pub asks-check : (m : ArgMatches) (name plan : Text) (f : Found) → subcommand_rows_of m ≡ Some (name, rows_of f)
    → Some plan ≡ first_value f (codes "PLAN") → bytes_eq name (codes "check") ≡ true → asked_by (subcommand_rows_of m) ≡ Some (check plan)
asks-check m name plan f met given is =
    asked-is m name f met ∙ ap (λ (o : Option Text). by_files name o (first_value f (codes "LOG"))) (sym given)
    ∙ with-plan (bytes_eq name (codes "check")) plan (first_value f (codes "LOG")) is

pub asks-no-log : (m : ArgMatches) (name plan : Text) (f : Found) → subcommand_rows_of m ≡ Some (name, rows_of f)
    → Some plan ≡ first_value f (codes "PLAN") → bytes_eq name (codes "check") ≡ false → None ≡ first_value f (codes "LOG") → asked_by (subcommand_rows_of m) ≡ None
asks-no-log m name plan f met given is log =
    asked-is m name f met ∙ ap₂ (by_files name) (sym given) (sym log) ∙ no-log (bytes_eq name (codes "check")) plan is

pub asks-run : (m : ArgMatches) (name plan log : Text) (f : Found) → subcommand_rows_of m ≡ Some (name, rows_of f)
    → Some plan ≡ first_value f (codes "PLAN") → bytes_eq name (codes "check") ≡ false → Some log ≡ first_value f (codes "LOG")
    → asked_by (subcommand_rows_of m) ≡ Some (run plan log)
asks-run m name plan log f met given is named =
    asked-is m name f met ∙ ap₂ (by_files name) (sym given) (sym named) ∙ with-log (bytes_eq name (codes "check")) plan log is
