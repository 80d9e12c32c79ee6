-- The names that most proofs of this crate cite, passed on from one place. Declares nothing.
pub use Rattle.std.proofs.Common.{Bool, Bor, Box, Err, IfOk, List, None, Ok, Option, Result, Some, [], ap, arith, bytes_eq, codes, cond, false, find, if◌then◌else◌, map, option_and_then, option_map, refl, rules, string_bytes, subst, sym, take, true, unwrap_or, ℕ, ◌<◌, ◌^◌, ◌||◌, ◌∙◌, ◌∷◌, ◌≡◌}
pub use Rattle.std.proofs.lemmas.Result.{IfOk-weaker, err_from_is_err_and}
pub use Rattle.clap.proofs.WalkLemmas.{first_value-rows, raw_values-rows}
pub use Rattle.clap.specs.Words.{App, HasKind, HasMatchesOf, Row, Shape, app_of, built, fault_of, found_of, is_simple, new_app, subcommand_of, subcommand_rows, subcommand_rows_of, with_rule}
pub use Rattle.gc_order.specs.Order.{HasRule, HasShape, command_in, flag_in, number_in, number_word, program, required_word, word_of}
