-- The names that this crate takes from others, in one place.
pub use Rattle.std.proofs.Common.{[], ◌&&◌, ◌++◌, ◌+◌, ◌-◌, ◌<◌, ◌==◌, ◌||◌, ◌↔◌, ◌∙◌, ◌∷◌, ◌≡◌, ◌≢◌, ◌⊎◌, Bool, Err, List, None, Ok, Option, Result, Some}
pub use Rattle.std.proofs.Common.{ap, arith, codes, cond, drop, false, get_or, inl, inr, length, nat_eq, nat_le, nat_lt, not, refl, replicate, slice_get}
pub use Rattle.std.proofs.Common.{slice_index, subst, suc, sym, take, true, zero, ℕ}
pub use Rattle.std.proofs.lemmas.Bool.{cases_Bool, cases_eq, eq-eqb, ne_eqb}
pub use Rattle.std.specs.Char.{is_ascii}
pub use Rattle.std.specs.List.{find, flat_map, list_all, list_any, onto_first, position}
pub use Rattle.std.specs.Option.{is_none, is_some}
pub use Rattle.device_faults.specs.declared.plan.CallKind.{CallKind}
pub use Rattle.device_faults.specs.declared.which.Which.{Which}
pub use Rattle.petal_base.specs.Name.{is_name}
pub use Rattle.petal_base.specs.Tuple.{is_tuple, tuple_of}
pub use Rattle.petal_script.proofs.Pieces.{concat-pieces}
unfoldable pub use Rattle.petal_script.specs.Client.{client_request, disk_of, filled_of, halves_of, move_of, read_of, snap_of, spread_of, write_of}
pub use Rattle.petal_script.specs.Fields.{a_call, a_name, a_server, numbers_of, version_by}
unfoldable pub use Rattle.petal_script.specs.Fields.{a_tuple, in_limits, version_of}
pub use Rattle.petal_script.specs.Number.{is_number, value}
unfoldable pub use Rattle.petal_script.specs.Operator.{boot_of, fault_of, operator_request, stop_at, stop_of}
pub use Rattle.petal_script.specs.Script.{Refusal, TextLine, client_of, counted, ended, goes_on, is_client, is_skipped, line_by, longest_line, longest_script}
pub use Rattle.petal_script.specs.Script.{no_majority, text_lines, too_many}
unfoldable pub use Rattle.petal_script.specs.Script.{adds, first_line, later_line, line_verdict, lines_after, net_line, script_from, script_of, servers_line}
pub use Rattle.petal_script.specs.Text.{pieces, without_end, words_of}
pub use Rattle.petal_script.specs.Words.{◌>>=◌, Word, front_word, is_word, no_word, or_else}
unfoldable pub use Rattle.petal_script.specs.Words.{four_words, one_word, three_words, two_words}
pub use Rattle.petal_script.specs.declared.cause.Cause.{Cause}
pub use Rattle.petal_script.specs.declared.cause.Cause.TheVariants.{BadLine, BadName, BadNumber, BadTuple, NoMajority, NoServersLine, NotAscii, TooLong}
pub use Rattle.petal_script.specs.declared.cause.Cause.TheVariants.{TooMany}
pub use Rattle.script_lines.specs.Contents.{AreLongest, onto_run, run_bytes}
unfoldable pub use Rattle.script_lines.specs.Contents.{runs}
pub use Rattle.script_lines.specs.declared.request.Line.{Line}
pub use Rattle.script_lines.specs.declared.request.Pattern.{Pattern}
pub use Rattle.script_lines.specs.declared.request.Pattern.TheVariants.{Fill, Ramp}
pub use Rattle.script_lines.specs.declared.request.Request.{Request}
pub use Rattle.script_lines.specs.declared.run.Run.{Run}
pub use Rattle.script_lines.specs.declared.script.Script.{Script}
