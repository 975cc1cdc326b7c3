-- A ballot that is started is the one of the rules.
use Rattle.std.proofs.Common.{◌≡◌, ℕ, ◌+◌, max, List, length, Some, refl}
use Rattle.petal_command.specs.declared.command.Command.{Command}
use Rattle.petal_command.specs.declared.pax.Pax.{Pax}
use Rattle.petal_command.specs.declared.pax.Pax.TheVariants.{Prepare}
use Rattle.petal_msg.specs.declared.letter.Letter.{Letter}
use Rattle.spec_paxos.specs.Kept.{row_of, committed}
use Rattle.spec_paxos.specs.Proposer.{collecting}
use Rattle.spec_paxos.specs.declared.record.StateRecord.{StateRecord}
use Rattle.spec_paxos.specs.declared.record.StateRecord.TheVariants as kind
use Rattle.spec_rules.specs.Ballots.{round_of, starts_for, to_all}
use Rattle.spec_rules.specs.Server.{Sender, letters_of}
use Rattle.server_log.specs.Part.{Part, log_of}

-- the place and the round of the ballot
pub record IsNext (part : Part) (records : List StateRecord) (place round : ℕ) : Type 0 where
  pub place_is : place ≡ length part.applied + 1
  pub round_is : round ≡ max (round_of (row_of records place).promised) part.refused + 1

module _ (part : Part) (records : List StateRecord) (place round : ℕ) (want : Command) where
  pub log_is : (new : Part) (records' : List StateRecord) → IsNext part records place round
      → records' ≡ committed records (kind.Promise place (record { round = round; server = part.voter.me }))
      → new ≡ record part { phase = collecting place (record { round = round; server = part.voter.me }) want }
      → log_of new records' ≡ (starts_for part.voter (log_of part records) (Some want)).log
  log_is new records' next made is = rw (is, made, next.round_is, next.place_is) refl

  pub letters_are : (who : Sender) (prepare : Pax) (letters : List Letter) → IsNext part records place round
      → prepare ≡ Prepare place (record { round = round; server = part.voter.me })
      → letters ≡ letters_of who 0 (to_all part.voter prepare)
      → letters ≡ letters_of who 0 (starts_for part.voter (log_of part records) (Some want)).posts
  letters_are who prepare letters next asked are = rw (are, asked, next.round_is, next.place_is) refl

  -- the records with its promise
  pub records_are : IsNext part records place round
      → committed records (kind.Promise place (record { round = round; server = part.voter.me }))
      ≡ (starts_for part.voter (log_of part records) (Some want)).log.records
  records_are next = rw (next.round_is, next.place_is) refl
