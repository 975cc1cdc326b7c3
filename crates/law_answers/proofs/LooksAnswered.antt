-- A look is told only for a line that is answered later.
use Rattle.law_answers.proofs.Imports.{◌++◌, ◌∙◌, ◌∷◌, AreRising, Event, In, IsMoment, Letter, Run, Setting, World, append_assoc, false, setting_of, start}
use Rattle.law_answers.proofs.Imports.{stepped, subst, world_after, ℕ}
use Rattle.law_answers.proofs.ListPositions.{further}
use Rattle.law_answers.specs.Looks.{IsAnsweredAfter, looks_at}
use Rattle.law_answers.proofs.OneRecordAnswers.{accepted_by}
use Rattle.law_answers.proofs.LettersTellLooks.{By_data, By_turning, TellsIt, told_by}
use Rattle.law_answers.proofs.SearchesFindLooks.{found}

module _ (run : Run) (rise : AreRising run.script.lines) (m : IsMoment run.records) where
  open run use {script, records}

  abbrev setting : Setting
  setting = setting_of script

  abbrev w : World
  w = world_after setting (start setting) m.prefix

  abbrev next : World
  next = (stepped setting w m.own).world

  by_letter : (letter : Letter) → In letter m.own.sent → (number : ℕ) → TellsIt setting w next m.own.actor m.following letter number
      → IsAnsweredAfter records m number
  by_letter letter there number (By_data seq bytes says off acc) =
      let a = accepted_by run rise m letter there number acc in
      record { answer = a.other; bytes = a.bytes; given = a.answered; between = a.between; after = a.is }
  by_letter letter there number (By_turning seq given says is number_is) =
      let f = found setting next m.following false (record { letter = letter; seq = seq }) given is in
      let way = further m (record { prefix = f.prefix; own = f.own; following = f.following; is = f.is }) in
      let a = accepted_by run rise way f.letter f.sent given.0 f.has.accepts in
      subst (IsAnsweredAfter records m) number_is (record {
        answer = a.other;
        bytes = a.bytes;
        given = a.answered;
        between = f.prefix ++ f.own ∷ a.between;
        after = a.is ∙ append_assoc m.prefix (m.own ∷ f.prefix) (f.own ∷ a.between);
      })

  pub look_answered : (look : ℕ × Event) → In look (looks_at setting records m) → IsAnsweredAfter records m look.0
  look_answered look i =
      let t = told_by setting w next m.own m.following look i in
      by_letter t.letter t.there look.0 t.tells
