use Rattle.std.proofs.Common.{◌+◌, ◌∙◌, ℕ, List, subst}
use Rattle.block_journal.specs.Heads.{GateIs, GenerationIs}
use Rattle.block_journal.proofs.Found.{found_later}
use Rattle.block_journal.proofs.head.find_later.Goals as goal

pub returns-clause-found : goal.returns-clause-found
returns-clause-found g c observed =
    let d = g.D.Disk in
    let file = d.seen c.args.disk.now in
    let one = c.in_ok-first.first in
    let other = c.in_ok-second.second in
    let seen = c.sync.ensures.seen in
    let seen' = c.read_head.ensures.device.same_seen ∙ c.sync.ensures.seen in
    rw c.later_of.ensures (found_later one.generation other.generation one.is_open other.is_open c.args.base file
    (subst (λ (f : List ℕ). GateIs one.is_open c.args.base f) seen (c.in_ok-first.ensures.gate observed))
    (subst (λ (f : List ℕ). GenerationIs one.generation c.args.base f) seen (c.in_ok-first.ensures.generation observed))
    (subst (λ (f : List ℕ). GateIs other.is_open (c.args.base + 2097152) f) seen' (c.in_ok-second.ensures.gate observed))
    (subst (λ (f : List ℕ). GenerationIs other.generation (c.args.base + 2097152) f) seen' (c.in_ok-second.ensures.generation observed)))
