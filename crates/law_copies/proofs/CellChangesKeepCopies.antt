-- What happens to one cell keeps its two copies together.
use Rattle.law_copies.proofs.Imports.{◌+◌, ◌<◌, ◌∙◌, ◌≡◌, ◌≤◌, ◌⊎◌, Body, Cell, Key, List, None, PairState, Pending, Replicated, Reserved, Some, Stage, arith}
use Rattle.law_copies.proofs.Imports.{at, by_bool, cell_cmp, chain_in, false, first, inl, inr, nat_cmp, progress, put, putting, second, subst, sym, true}
use Rattle.law_copies.proofs.Imports.{version_of, ℕ}
use Rattle.law_copies.specs.Pair.{Grows, IsPutting, Keeps, Known, Pair, PairOk, ceiling, far, pair_of}
use Rattle.petal_msg.specs.declared.body.Body.TheVariants as body

-- one change after another
pub keeps_then : {old now new : Pair} → Keeps old now → Keeps now new → Keeps old new
keeps_then one two = record {
  ok = two.ok;
  grows = record {
    onward = let a = one.grows.onward in let b = two.grows.onward in omega arith;
    higher = let a = one.grows.higher in let b = two.grows.higher in omega arith;
    putting = λ number key bytes is. elim (one.grows.putting number key bytes is) [
      | inl still ↦ two.grows.putting number key bytes still
      | inr past ↦ inr (let b = two.grows.onward in omega arith)
    ];
  };
}

-- nothing happens to the cell, but new numbers may be given to others
pub stays : (pair : Pair) (next : ℕ) → PairOk pair → pair.next ≤ next → Keeps pair (record pair { next = next })
stays pair next ok le = grind arith

-- so it is where the first server keeps its copy and its operation, and the number of the next one only grows
pub first_stays : (own new second : PairState) (cell : Cell) → chain_in new.store.chains cell ≡ chain_in own.store.chains cell
    → at cell_cmp new.pairs.pending cell ≡ at cell_cmp own.pairs.pending cell → own.pairs.next ≤ new.pairs.next → PairOk (pair_of own second cell)
    → Keeps (pair_of own second cell) (pair_of new second cell)
first_stays own new second cell chain pending next ok =
    subst (Keeps (pair_of own second cell)) (λ i. record (pair_of new second cell) { first = sym chain i; pending = sym pending i })
    (stays (pair_of own second cell) new.pairs.next ok next)

-- and where the second one keeps its copy and its last operation
pub second_stays : (first own new : PairState) (cell : Cell) → chain_in new.store.chains cell ≡ chain_in own.store.chains cell
    → at cell_cmp new.pairs.last cell ≡ at cell_cmp own.pairs.last cell → PairOk (pair_of first own cell)
    → Keeps (pair_of first own cell) (pair_of first new cell)
second_stays first own new cell chain last ok =
    subst (Keeps (pair_of first own cell)) (λ i. record (pair_of first new cell) { second = sym chain i; last = sym last i })
    (stays (pair_of first own cell) first.pairs.next ok (omega arith))

-- a new operation opens
pub opens : (pair : Pair) (op : Pending) → PairOk pair → pair.pending ≡ None → op.op ≡ pair.next → op.stage.reserved ≡ false → op.stage.put ≡ false
    → Keeps pair (record pair { pending = Some op; next = pair.next + 1 })
opens pair op ok none number reserved put = grind arith

-- an operation goes on at another stage: it says no more of the second server than was so, or that server told
pub restages : (pair : Pair) (op : Pending) (stage : Stage) → PairOk pair → pair.pending ≡ Some op → stage.put ≡ op.stage.put
    → (stage.reserved ≡ true → (op.stage.reserved ≡ true) ⊎ (op.op + op.op ≤ far pair))
    → Keeps pair (record pair { pending = Some (record op { stage = stage }) })
restages pair op stage ok some put reserved =
    by_bool op.stage.put (λ done. let later : stage.put ≡ true = put ∙ done in grind arith)
    (λ fresh. let later : stage.put ≡ false = put ∙ fresh in grind arith)

-- the first server puts its copy, once the block is marked
pub puts : (pair : Pair) (op new : Pending) → PairOk pair → pair.pending ≡ Some op → op.stage.reserved ≡ true → op.stage.put ≡ false → new.op ≡ op.op
    → new.key ≡ op.key → new.bytes ≡ op.bytes → new.stage.put ≡ true
    → Keeps pair (record pair {
      first = put nat_cmp pair.first op.key.epoch (record { version = version_of pair.first + 1; bytes = op.bytes });
      pending = Some new;
    })
puts pair op new ok some reserved at number key bytes put = grind arith

-- the second server has no room
pub refuses : (pair : Pair) (op : Pending) → PairOk pair → pair.pending ≡ Some op → op.stage.put ≡ false → Keeps pair (record pair { pending = None })
refuses pair op ok some at = grind arith

-- the operation is done with: the second server said that it has followed
pub closes : (pair : Pair) (op : Pending) → PairOk pair → pair.pending ≡ Some op → op.stage.put ≡ true → op.op + op.op + 1 ≤ far pair
    → Keeps pair (record pair { pending = None })
closes pair op ok some at past = grind arith

-- the second server sets a slot apart
pub reserves : (pair : Pair) (number : ℕ) → PairOk pair → progress pair.last ≤ number + number → number < ceiling pair
    → Keeps pair (record pair { last = Some (record { op = number; progress = Reserved }) })
reserves pair number ok newer asked = grind arith

-- the second server follows
pub follows : (pair : Pair) (number : ℕ) (key : Key) (bytes : List ℕ) → PairOk pair → pair.last ≡ Some (record { op = number; progress = Reserved })
    → IsPutting pair.pending number key bytes
    → Keeps pair (record pair {
      second = put nat_cmp pair.second key.epoch (record { version = version_of pair.second + 1; bytes = bytes });
      last = Some (record { op = number; progress = Replicated });
    })
follows pair number key bytes ok at h = grind arith

-- what was known of a letter is known later
pub known_later : (old new : Pair) → Grows old new → (said : Body) → Known old said → Known new said
known_later old new grows (body.Reserve number cell) h = let more = grows.higher in omega arith
known_later old new grows (body.Reserved number cell) h = let more = grows.onward in omega arith
known_later old new grows (body.PairFull number cell) h = let more = grows.higher in omega arith
known_later old new grows (body.Replicate number key version origin bytes) h = elim h [
  | inl putting ↦ grows.putting number key bytes putting
  | inr past ↦ let more = grows.onward in inr (omega arith)
]
known_later old new grows (body.Replicated number cell) h = let more = grows.onward in omega arith
known_later old new grows _ h = tt
