-- The names that most proofs of this crate cite, passed on from one place. Declares nothing.
pub use Rattle.std.proofs.Common.{Bool, List, None, Option, Some, [], ap, append_assoc, ap₂, arith, bytes_eq, chars, codes, drop, encode_utf8, false, find, if◌then◌else◌, inl, inr, length, lit<, map, nat_lt, not, refl, rules, slice_get, string_bytes, subst, suc, sym, take, true, true≢false, zero, ℕ, ⊎_elim, ◌&&◌, ◌++◌, ◌==◌, ◌∙◌, ◌∷◌, ◌≡◌, ◌≢◌, ◌⊎◌}
pub use Rattle.std.proofs.lemmas.List.{append-nil, nil_from_length}
pub use Rattle.std.proofs.lemmas.Result.{err_from_is_err_and, on_ok_weaker}
pub use Rattle.gc_cli.specs.Arguments.{AreLines, ArePlain, AskForHelp, BeginWithFile, FirstStandsFor, FrontStandsFor, IsEnd, IsOneLine, IsOption, IsPlain, IsRefusedFile, IsRefusedLine, IsRefusedNext, LineStandsFor, StandForThemselves, WordsStandFor, file_lines, help_last, last_line, next_line, next_word, no_line, no_more, no_word, one_more, plain_word}
pub use Rattle.gc_order.specs.Order.{order_text, program}
pub use mathlib.Core.Path.{fun_ext}
