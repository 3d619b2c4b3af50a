-- The command of `clap` that accepts a command line.
use Rattle.std.specs.Prelude.{ℕ, List, [], ◌∷◌, ◌++◌, map, Option, Some, None, true, if◌then◌else◌}
use Rattle.clap.specs.Words.{App, Rule, new_app, new_rule, with_rule}
use Rattle.clap.specs.declared.builder.action.ArgAction.TheVariants.{Append}
use Rattle.clap.specs.declared.builder.value_parser.ValueParser.{ValueParser}
use Rattle.clap.specs.declared.builder.value_parser.ValueParser.TheVariants as vp
use Rattle.s7_args.specs.CommandLine.{Text, Field, CommandLine}

abbrev pub parser_of : Option (ℕ × ℕ) → Option ValueParser
parser_of None = None
parser_of (Some r) = Some (vp.Unsigned r.0 r.1)

-- the arguments as the program builds them
abbrev pub operand_rule : Field → Rule
operand_rule f = record (new_rule f.name) {
  required = f.is_required;
  action = if f.is_many then Some Append else None;
  parser = parser_of f.range;
}

abbrev pub option_rule : Field → Rule
option_rule f = record (new_rule f.name) { long = Some f.name; required = f.is_required; parser = parser_of f.range }

abbrev pub with_rules : App → List Rule → App
with_rules a [] = a
with_rules a (r ∷ rs) = with_rules (with_rule a r) rs

abbrev pub without_help : Text → App
without_help name = record (new_app name) { top = record (new_app name).top { disable_help_flag = true } }

abbrev pub app_by : Text → CommandLine → App
app_by name line = with_rules (without_help name) (map operand_rule line.operands ++ map option_rule line.options)
