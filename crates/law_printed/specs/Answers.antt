-- The answers of a list of records.
use Rattle.std.specs.Prelude.{◌≡◌, ◌++◌, ℕ, List, [], ◌∷◌, None}
use Rattle.petal_msg.specs.declared.letter.Actor.TheVariants as actor
use Rattle.script_lines.specs.declared.answer.Answer.{Answer}
use Rattle.script_lines.specs.declared.script.Script.{Script}
use Rattle.spec_rules.specs.Lists.{In}
use Rattle.spec_rules.specs.World.{setting_of, start, with_answer}
use Rattle.spec_history.specs.declared.record.Record.{Record}
use Rattle.law_merge.specs.Alone.{IsAloneClient, of_client}

-- in the order of the records
abbrev pub answers_in : List Record → List (ℕ × Answer)
answers_in [] = []
answers_in (own ∷ later) = with_answer own.answer (answers_in later)

-- none of the records answers a line
abbrev pub AnswerNothing : List Record → Type 0
AnswerNothing records = (own : Record) → In own records → own.answer ≡ None

-- each client's records are steps of its own from the start, and a server's answer nothing
pub record AnswerAlone (script : Script) (records : List Record) : Type 0 where
  pub servers : (own : Record) (n : ℕ) → In own records → own.actor ≡ actor.Server n → own.answer ≡ None
  pub clients : (c : ℕ) → IsAloneClient (setting_of script) c ((start (setting_of script)).clients c) 0 (of_client c records)

-- each client's records are those before and then those since; the servers' answer nothing
pub record HaveParts (before since after : List Record) : Type 0 where
  pub clients : (c : ℕ) → of_client c after ≡ of_client c before ++ of_client c since
  pub servers : (own : Record) (n : ℕ) → In own (before ++ since) → own.actor ≡ actor.Server n → own.answer ≡ None
