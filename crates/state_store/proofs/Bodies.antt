-- What the bytes of a body tell: their number, the kind, and what they spell.
use Rattle.std.proofs.Common.{◌≡◌, ℕ, List, length, get_or, replicate, Some, refl, ap, arith, length-append}
use Rattle.std.proofs.lemmas.List.{length-replicate}
use Rattle.petal_command.specs.Spelling.{spelling}
use Rattle.petal_command.proofs.Spelled.{length-spelling}
use Rattle.petal_command.specs.declared.ballot.Ballot.{Ballot}
use Rattle.petal_command.specs.declared.command.Command.{Command}
use Rattle.spec_paxos.specs.declared.record.StateRecord.{StateRecord}
use Rattle.spec_paxos.specs.declared.record.StateRecord.TheVariants.{Inc, Promise, Accepted, Chosen}
use Rattle.state_store.specs.Body.{body_of, HasBody}

pub some_accepted : (p q r s : ℕ) (b : Ballot) (c d : Command) → p ≡ q → r ≡ b.round → s ≡ b.server → Some c ≡ Some d
    → Some (Accepted p (record { round = r; server = s }) c) ≡ Some (Accepted q b d)
some_accepted p q r s b c d ep er es ec = let same : c ≡ d = cc in λ i. Some (Accepted (ep i) (record { round = er i; server = es i }) (same i))

pub some_chosen : (p q : ℕ) (c d : Command) → p ≡ q → Some c ≡ Some d → Some (Chosen p c) ≡ Some (Chosen q d)
some_chosen p q c d ep ec = cc

-- the first byte of a body
abbrev pub kind_of : StateRecord → ℕ
kind_of (Inc inc) = 1
kind_of (Promise p b) = 2
kind_of (Accepted p b c) = 3
kind_of (Chosen p c) = 4

pub kind_of-body : (body : List ℕ) (r : StateRecord) → body ≡ body_of r → get_or body 0 0 ≡ kind_of r
kind_of-body body (Inc inc) e = ap (λ (l : List ℕ). get_or l 0 0) e
kind_of-body body (Promise p b) e = ap (λ (l : List ℕ). get_or l 0 0) e
kind_of-body body (Accepted p b c) e = ap (λ (l : List ℕ). get_or l 0 0) e
kind_of-body body (Chosen p c) e = ap (λ (l : List ℕ). get_or l 0 0) e

-- a body has 127 bytes
pub length-body : (r : StateRecord) → HasBody r → length (body_of r) ≡ 127
length-body (Inc inc) fits = refl
length-body (Promise p b) fits = refl
length-body (Accepted p b c) fits = omega (arith, length-append (spelling c) (replicate 53 0), length-spelling c fits.2, length-replicate {A = ℕ} 53 0)
length-body (Chosen p c) fits = omega (arith, length-append (spelling c) (replicate 53 0), length-spelling c fits.1, length-replicate {A = ℕ} 53 0)
