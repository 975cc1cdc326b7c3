-- Who tells a lead that its second server has no slot: that server, which was asked for one and had none. Each such letter was sent in such a step.
use Rattle.law_answers.proofs.Imports.{◌∙◌, ◌≡◌, Actor, At, Cell, Handled, In, Letter, OneMore, Run, Setting, Step, World, after, at_moment, is_the_one, refl}
use Rattle.law_answers.proofs.Imports.{setting_in, subst, sym, was_sent, ℕ}
use Rattle.law_answers.specs.FullCauses.{SecondHadNone, WasToldBySecond}
use Rattle.law_answers.proofs.Reasons.{reason_found}
use Rattle.law_answers.proofs.SlotLetters.{one_server}
use Rattle.petal_msg.specs.declared.body.Body.TheVariants as body
use Rattle.petal_msg.specs.declared.letter.Actor.TheVariants as actor

-- the second server told this lead
record TellsNow (setting : Setting) (w : World) (who : Actor) (what : Step) (letter : Letter) (number : ℕ) (cell : Cell) : Type 0 where
  lead : ℕ
  to : letter.to ≡ actor.Server lead
  reason : SecondHadNone setting w who what lead number cell

tells_now : (it : OneMore) (letter : Letter) (number : ℕ) (cell : Cell) → In letter it.own.sent → letter.body ≡ body.PairFull number cell
    → TellsNow (setting_in it.prior) (after it.prior) it.own.actor it.own.step letter number cell
tells_now it letter number cell i says =
    let f = reason_found it letter (body.PairFull number cell) i says refl in
    let t = f.reason in
    record {
      lead = t.lead;
      to = t.goes;
      reason = record {
        server = f.server;
        is = f.is;
        works = f.works;
        leads = t.leads;
        follows = is_the_one _ f.server t.follows;
        asked = t.asked;
        none = t.none;
      };
    }

-- so did it tell the one that handled the letter
pub told_lead : (run : Run) (n number : ℕ) (cell : Cell) (heard : Handled (after run) n (body.PairFull number cell))
    → WasToldBySecond (setting_in run) run.records heard.letter n number cell
told_lead run n number cell heard =
    let was = was_sent run heard.letter heard.sent in
    let t = tells_now (at_moment run was.moment) heard.letter number cell was.sent heard.is in
    record {
      moment = was.moment;
      sent = was.sent;
      to = heard.own;
      reason = subst (λ k. SecondHadNone (setting_in run) (At run.script was.prefix) was.own.actor was.own.step k number cell)
          (one_server (sym t.to ∙ heard.own)) t.reason;
    }
