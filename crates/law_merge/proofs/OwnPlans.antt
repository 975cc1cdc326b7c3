-- What a server's own records make of its devices' plans, all records make of them.
use Rattle.law_merge.proofs.Imports.{[], ◌∷◌, ◌≡◌, Actor, Armed, ComeTo, List, Record, Step, UsesAt, UsesWhere, by_bool, false, refl, subst, sym, ℕ}
use Rattle.law_merge.specs.Alone.{is_by_server, of_server}
use Rattle.law_merge.proofs.WhoseRecords.{server_other, server_taken}
use Rattle.petal_msg.specs.declared.letter.Actor.TheVariants as actor

unused : (n : ℕ) (who : Actor) (what : Step) (armed : Armed) → is_by_server n who ≡ false → UsesAt n who what armed armed
unused n (actor.Server m) what armed other = subst (λ b. UsesWhere b what armed armed) (sym other) refl
unused n (actor.Client c) what armed other = refl

pub come_apart : (n : ℕ) (armed left : Armed) (records : List Record) → ComeTo n armed (of_server n records) left → ComeTo n armed records left
come_apart n armed left [] come = come
come_apart n armed left (own ∷ later) come = by_bool (is_by_server n own.actor)
    (λ is.
    let first : ComeTo n armed (own ∷ of_server n later) left = subst (λ (rs : List Record). ComeTo n armed rs left) (server_taken n own later is) come in
    (first.0, first.1, come_apart n first.0 left later first.2))
    (λ other.
    let rest : ComeTo n armed (of_server n later) left = subst (λ (rs : List Record). ComeTo n armed rs left) (server_other n own later other) come in
    (armed, unused n own.actor own.step armed other, come_apart n armed left later rest))
