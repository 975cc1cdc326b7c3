-- The order of records, and which of them tie.
use Rattle.std.proofs.Common.{◌≡◌, ℕ, ◌≤◌, Bool, true, false, None, [], refl, sym, ap, ◌∙◌, arith}
use Rattle.std.proofs.lemmas.Bool.Decides.{nat_tests}
use Rattle.std.proofs.lemmas.Cmp.{nat_cmp_total, on_total, then_total}
use Rattle.std.proofs.lemmas.List.Sorted.{ranks_by}
use Rattle.std.specs.Cmp.{IsStrictWeakOrder, IsTotalOrder}
use Rattle.std.specs.List.Sorted.{ties}
use Rattle.std.specs.Ordering.{is_eq, is_lt, nat_cmp, ordering_reverse, ordering_then}
use Rattle.std.specs.Prelude.{◌==◌, ◌&&◌, not}
use Rattle.std.specs.declared.cmp.Ordering.{Ordering}
use Rattle.std.specs.declared.cmp.Ordering.TheVariants.{Less, Equal, Greater}
use Rattle.petal_msg.specs.declared.letter.Actor.{Actor}
use Rattle.petal_msg.specs.declared.letter.Actor.TheVariants as actor
use Rattle.petal_msg.specs.declared.letter.Letter.{Letter}
use Rattle.server_host.specs.Sent.{number_of, side_of}
use Rattle.spec_rules.specs.declared.step.Step.TheVariants.{Tick}
use Rattle.spec_history.specs.declared.record.Record.{Record}
use Rattle.law_merge.specs.Alone.{is_by_client, is_by_server}
use Rattle.history_merge.specs.Order.{actor_cmp, record_cmp}
use Rattle.history_merge.specs.Recorded.{is_sender}

pub ordered : IsTotalOrder record_cmp
ordered = then_total (on_total (λ (own : Record). own.stamp) nat_cmp_total)
    (then_total (on_total (λ (own : Record). side_of own.actor) nat_cmp_total) (on_total (λ (own : Record). number_of own.actor) nat_cmp_total))

abbrev pub before : Record → Record → Bool
before one other = is_lt (record_cmp one other)

pub weak : IsStrictWeakOrder before
weak = ranks_by ordered (λ (own : Record). own)

pub not_before : (m n : ℕ) (o : Ordering) → is_lt (ordering_then (nat_cmp m n) o) ≡ false → n ≤ m
not_before m n o e = grind (arith, nat_tests)

pub less_apart : (o : Ordering) → is_lt o ≡ true → is_eq o ≡ false
less_apart Less e = refl
less_apart Equal e = absurd (let k : ⊥ = cc in k)
less_apart Greater e = refl

pub greater_else : (o : Ordering) → is_lt o ≡ false → is_eq o ≡ false → o ≡ Greater
greater_else Less e f = absurd (let k : ⊥ = cc in k)
greater_else Equal e f = absurd (let k : ⊥ = cc in k)
greater_else Greater e f = refl

pub equal_so : (o : Ordering) → is_eq o ≡ true → o ≡ Equal
equal_so Less e = absurd (let k : ⊥ = cc in k)
equal_so Equal e = refl
equal_so Greater e = absurd (let k : ⊥ = cc in k)

-- a record that stands at this place in the order
abbrev pub mark : Actor → ℕ → Record
mark who stamp = record { actor = who; stamp = stamp; phase = 0; step = Tick; sent = []; answer = None }

neither : (o : Ordering) → (not (is_lt (ordering_reverse o)) && not (is_lt o)) ≡ is_eq o
neither Less = refl
neither Equal = refl
neither Greater = refl

pub tie_sender : (letter : Letter) (own : Record) → ties before (mark letter.from letter.stamp) own ≡ is_sender letter own
tie_sender letter own =
    ap (λ o. not (is_lt o) && not (is_lt (record_cmp own (mark letter.from letter.stamp)))) (ordered.antisymm (mark letter.from letter.stamp) own)
    ∙ neither (record_cmp own (mark letter.from letter.stamp))

tie2 : (a b c d : ℕ) → (not (is_lt (ordering_then (nat_cmp a b) (nat_cmp c d))) && not (is_lt (ordering_then (nat_cmp b a) (nat_cmp d c))))
    ≡ ((d == c) && (b == a))
tie2 a b c d = grind (arith, nat_tests)

below_other : (a b : ℕ) → (not (is_lt (ordering_then (nat_cmp a b) Less)) && not (is_lt (ordering_then (nat_cmp b a) Greater))) ≡ false
below_other a b = grind (arith, nat_tests)

above_other : (a b : ℕ) → (not (is_lt (ordering_then (nat_cmp a b) Greater)) && not (is_lt (ordering_then (nat_cmp b a) Less))) ≡ false
above_other a b = grind (arith, nat_tests)

abbrev tie : (a b : ℕ) (one other : Actor) → Bool
tie a b one other = not (is_lt (ordering_then (nat_cmp a b) (actor_cmp one other))) && not (is_lt (ordering_then (nat_cmp b a) (actor_cmp other one)))

by_server : (n a b : ℕ) (who : Actor) → (is_by_server n who && (b == a)) ≡ tie a b (actor.Server n) who
by_server n a b (actor.Server m) = sym (tie2 a b n m)
by_server n a b (actor.Client c) = sym (below_other a b)

by_client : (c a b : ℕ) (who : Actor) → (is_by_client c who && (b == a)) ≡ tie a b (actor.Client c) who
by_client c a b (actor.Server m) = sym (above_other a b)
by_client c a b (actor.Client d) = sym (tie2 a b c d)

pub server_ties : (n stamp : ℕ) (own : Record) → (is_by_server n own.actor && (own.stamp == stamp)) ≡ ties before (mark (actor.Server n) stamp) own
server_ties n stamp own = by_server n stamp own.stamp own.actor

pub client_ties : (c stamp : ℕ) (own : Record) → (is_by_client c own.actor && (own.stamp == stamp)) ≡ ties before (mark (actor.Client c) stamp) own
client_ties c stamp own = by_client c stamp own.stamp own.actor
