-- A spelling of one kind is no spelling of another.
use Rattle.std.proofs.Common.{◌≡◌, Some, ap, arith}
use Rattle.data_device.specs.Spelling.{spelling, HasSpelling}
use Rattle.data_device.specs.declared.record.StoreRecord.{StoreRecord}
use Rattle.data_device.specs.declared.record.StoreRecord.TheVariants.{Put, Drop, Mark, Unmark, Forget, Done}
use Rattle.data_device.proofs.Spelled.{kind_of-spelling}
use Rattle.data_device.proofs.record.reading.read.Goals as goal

pub returns-in-1 : goal.returns-in-1
returns-in-1 c entry = elim entry as (λ d. HasSpelling d → c.args.bytes.now ≡ spelling d → Some c.read_put.result ≡ Some d) [
  | Put key version slot origin ↦ λ fits is. ap (λ (d : StoreRecord). Some d) (c.read_put.ensures key version slot origin fits is)
  | d ↦ λ fits is. let kind = kind_of-spelling c.args.bytes.now d is in absurd (omega arith)
]

pub returns-in-2 : goal.returns-in-2
returns-in-2 c entry = elim entry as (λ d. HasSpelling d → c.args.bytes.now ≡ spelling d → Some c.read_drop.result ≡ Some d) [
  | Drop key ↦ λ fits is. ap (λ (d : StoreRecord). Some d) (c.read_drop.ensures key fits is)
  | d ↦ λ fits is. let kind = kind_of-spelling c.args.bytes.now d is in absurd (omega arith)
]

pub returns-in-3 : goal.returns-in-3
returns-in-3 c entry = elim entry as (λ d. HasSpelling d → c.args.bytes.now ≡ spelling d → Some c.read_mark.result ≡ Some d) [
  | Mark kind cell ↦ λ fits is. ap (λ (d : StoreRecord). Some d) (c.read_mark.ensures kind cell fits is)
  | d ↦ λ fits is. let kind = kind_of-spelling c.args.bytes.now d is in absurd (omega arith)
]

pub returns-in-4 : goal.returns-in-4
returns-in-4 c entry = elim entry as (λ d. HasSpelling d → c.args.bytes.now ≡ spelling d → Some c.read_unmark.result ≡ Some d) [
  | Unmark kind cell ↦ λ fits is. ap (λ (d : StoreRecord). Some d) (c.read_unmark.ensures kind cell fits is)
  | d ↦ λ fits is. let kind = kind_of-spelling c.args.bytes.now d is in absurd (omega arith)
]

pub returns-in-7 : goal.returns-in-7
returns-in-7 c entry = elim entry as (λ d. HasSpelling d → c.args.bytes.now ≡ spelling d → Some c.read_forget.result ≡ Some d) [
  | Forget map link ↦ λ fits is. ap (λ (d : StoreRecord). Some d) (c.read_forget.ensures map link fits is)
  | d ↦ λ fits is. let kind = kind_of-spelling c.args.bytes.now d is in absurd (omega arith)
]

pub returns-in-8 : goal.returns-in-8
returns-in-8 c entry = elim entry as (λ d. HasSpelling d → c.args.bytes.now ≡ spelling d → c.read_done.result ≡ Some d) [
  | Done map o ↦ λ fits is. c.read_done.ensures map o fits is
  | d ↦ λ fits is. let kind = kind_of-spelling c.args.bytes.now d is in absurd (omega arith)
]
