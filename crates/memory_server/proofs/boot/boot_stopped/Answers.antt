-- Where no blank device has taken the place of the data device, it is the boot on its own.
use Rattle.std.proofs.Common.{refl, sym, ◌∙◌}
use Rattle.std.proofs.lemmas.Result.{IfOk-weaker}
use Rattle.memory_server.proofs.Booting.{booted_own, ended_own}
use Rattle.memory_server.proofs.boot.boot_stopped.Goals as goal

pub returns-in-None-clause-ended : goal.returns-in-None-clause-ended
returns-in-None-clause-ended g c =
    let none = sym c.take.ensures.value ∙ c.in-None.is in
    rw (none, c.take.ensures.after)
    (IfOk-weaker c.boot_again.result _ _ (λ attempt ended. ended_own g.D.Disk ended) c.boot_again.ensures.ended)

pub returns-in-None-clause-booted : goal.returns-in-None-clause-booted
returns-in-None-clause-booted g c =
    let none = sym c.take.ensures.value ∙ c.in-None.is in
    rw (none, c.take.ensures.after)
    (IfOk-weaker c.boot_again.result _ _ (λ attempt booted observed holds kept. booted_own g.D.Disk (booted observed (holds refl) kept))
    c.boot_again.ensures.booted)
