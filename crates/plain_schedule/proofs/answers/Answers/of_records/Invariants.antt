use Rattle.std.proofs.Common.{◌≡◌, drop}
use Rattle.std.specs.List.{fold}
use Rattle.spec_history.specs.Text.{answers_of, with_given}
use Rattle.plain_schedule.proofs.answers.Answers.of_records.Given as goal

-- the answers so far, with those of the records that are left, are those of all records
abbrev pub invariant-loop-record : goal.invariant-loop-record
invariant-loop-record l = fold (λ table own. with_given table own.answer) l.answers (drop l.record-index l.records) ≡ answers_of l.records
