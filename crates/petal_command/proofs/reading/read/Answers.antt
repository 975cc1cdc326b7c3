-- A spelling of one kind is no spelling of another.
use Rattle.std.proofs.Common.{◌≡◌, Some, ap, arith}
use Rattle.petal_command.specs.Spelling.{spelling, HasSpelling}
use Rattle.petal_command.specs.declared.command.Command.{Command}
use Rattle.petal_command.specs.declared.command.Command.TheVariants.{Leave, Caught, MakeDisk, Snap, StartMove, Drained, Witness}
use Rattle.petal_command.proofs.Spelled.{kind_of-spelling}
use Rattle.petal_command.proofs.reading.read.Goals as goal

pub returns-in-2 : goal.returns-in-2
returns-in-2 c command = elim command as (λ d. HasSpelling d → c.args.bytes.now ≡ spelling d → Some c.read_leave.result ≡ Some d) [
  | Leave server inc ↦ λ fits is. ap (λ (d : Command). Some d) (c.read_leave.ensures server inc fits is)
  | d ↦ λ fits is. let kind = kind_of-spelling c.args.bytes.now d is in absurd (omega arith)
]

pub returns-in-3 : goal.returns-in-3
returns-in-3 c command = elim command as (λ d. HasSpelling d → c.args.bytes.now ≡ spelling d → Some c.read_caught.result ≡ Some d) [
  | Caught map link holder holder_inc other other_inc ↦
      λ fits is. ap (λ (d : Command). Some d) (c.read_caught.ensures map link holder holder_inc other other_inc fits is)
  | d ↦ λ fits is. let kind = kind_of-spelling c.args.bytes.now d is in absurd (omega arith)
]

pub returns-in-4 : goal.returns-in-4
returns-in-4 c command = elim command as (λ d. HasSpelling d → c.args.bytes.now ≡ spelling d → c.read_make_disk.result ≡ Some d) [
  | MakeDisk client seq name tuple ↦ λ fits is. c.read_make_disk.ensures client seq name tuple fits is
  | d ↦ λ fits is. let kind = kind_of-spelling c.args.bytes.now d is in absurd (omega arith)
]

pub returns-in-5 : goal.returns-in-5
returns-in-5 c command = elim command as (λ d. HasSpelling d → c.args.bytes.now ≡ spelling d → c.read_snap.result ≡ Some d) [
  | Snap client seq disk name ↦ λ fits is. c.read_snap.ensures client seq disk name fits is
  | d ↦ λ fits is. let kind = kind_of-spelling c.args.bytes.now d is in absurd (omega arith)
]

pub returns-in-6 : goal.returns-in-6
returns-in-6 c command = elim command as (λ d. HasSpelling d → c.args.bytes.now ≡ spelling d → c.read_start_move.result ≡ Some d) [
  | StartMove client seq disk tuple ↦ λ fits is. c.read_start_move.ensures client seq disk tuple fits is
  | d ↦ λ fits is. let kind = kind_of-spelling c.args.bytes.now d is in absurd (omega arith)
]

pub returns-in-7 : goal.returns-in-7
returns-in-7 c command = elim command as (λ d. HasSpelling d → c.args.bytes.now ≡ spelling d → Some c.read_drained.result ≡ Some d) [
  | Drained server inc fence ↦ λ fits is. ap (λ (d : Command). Some d) (c.read_drained.ensures server inc fence fits is)
  | d ↦ λ fits is. let kind = kind_of-spelling c.args.bytes.now d is in absurd (omega arith)
]

pub returns-in-9 : goal.returns-in-9
returns-in-9 c command = elim command as (λ d. HasSpelling d → c.args.bytes.now ≡ spelling d → Some c.read_witness.result ≡ Some d) [
  | Witness client seq turn ↦ λ fits is. ap (λ (d : Command). Some d) (c.read_witness.ensures client seq turn fits is)
  | d ↦ λ fits is. let kind = kind_of-spelling c.args.bytes.now d is in absurd (omega arith)
]
