-- A server refuses a request in the step that found the reason: another operation pending on the block, or a copy under way; or a fence,
-- or a ballot of its own for the link's Caught, that holds the request back; or that the new map has nothing of what a read asked for.
use Rattle.law_answers.proofs.Imports.{◌≡◌, Handled, In, Key, Letter, OneMore, Run, Setting, World, after, at_moment, cell_of, own_place, refl, setting_in}
use Rattle.law_answers.proofs.Imports.{was_sent, ℕ}
use Rattle.law_answers.specs.FullCauses.{HadNoFill, At_the_lead, At_the_second, WasDeclined}
use Rattle.law_answers.specs.Refusals.{FoundBusy, FoundHeld, FoundNothing}
use Rattle.law_answers.proofs.Reasons.{HasFound, SaysNone, Has_none, Was_declined, reason_found}
use Rattle.law_answers.proofs.SecondsLackSlots.{told_lead}
use Rattle.petal_msg.specs.declared.body.Body.TheVariants as body

module _ (it : OneMore) (letter : Letter) where
  open it use {own}

  abbrev setting : Setting
  setting = setting_in it.prior

  abbrev w : World
  w = after it.prior

  pub nothing_reason : (seq : ℕ) → In letter own.sent → letter.body ≡ body.NotHere seq → FoundNothing setting w own.actor letter.to seq
  nothing_reason seq h says =
      let f = reason_found it letter (body.NotHere seq) h says refl in record { server = f.server; is = f.is; nothing = f.reason }

  pub busy_reason : (seq : ℕ) → In letter own.sent → letter.body ≡ body.BlockBusy seq → FoundBusy setting w own.actor seq
  busy_reason seq h says =
      let f = reason_found it letter (body.BlockBusy seq) h says refl in record { server = f.server; is = f.is; busy = f.reason }

  pub held_reason : (seq : ℕ) → In letter own.sent → letter.body ≡ body.Held seq → FoundHeld setting w own.actor seq
  held_reason seq h says = let f = reason_found it letter (body.Held seq) h says refl in record { server = f.server; is = f.is; held = f.reason }

  pub fill_reason : (key : Key) → In letter own.sent → letter.body ≡ body.FillFull key → HadNoFill setting it.prior.records own.actor own.step key
  fill_reason key h says = let f = reason_found it letter (body.FillFull key) h says refl in by f f.reason
    where
      by : (f : HasFound setting w own.actor letter.to own.step (body.FillFull key))
          → SaysNone (Handled w f.server) (own_place setting w f.server) (w.servers f.server).own key
          → HadNoFill setting it.prior.records own.actor own.step key
      by f (Has_none moving is new full) = At_the_lead f.server moving f.is f.works is new full
      by f (Was_declined op is fill of h) = At_the_second f.server op f.is f.works is fill of h (told_lead it.prior f.server op.op (cell_of key) h)

-- so it is of each such letter that was sent
pub was_declined : (run : Run) (letter : Letter) (key : Key) → In letter (after run).sent → letter.body ≡ body.FillFull key
    → WasDeclined (setting_in run) run.records letter key
was_declined run letter key i says =
    let was = was_sent run letter i in
    record { moment = was.moment; sent = was.sent; reason = fill_reason (at_moment run was.moment) letter key was.sent says }
