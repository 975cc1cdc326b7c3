use Rattle.std.proofs.Common.{◌≡◌, ◌++◌, [], ◌∷◌, ℕ, List, Vec, map, refl, ◌∙◌, ap}
use Rattle.std.proofs.lemmas.List.{map-append}
use Rattle.std.proofs.Common.{arith, append_assoc, length-append, rules}
use Rattle.std.specs.declared.alloc.Global.{Global}
use Rattle.block_journal.proofs.Counting.{counts_next}
use Rattle.block_journal.proofs.reading.take_bodies.Goals as goal

abbrev items_of : Vec ℕ Global → List ℕ
items_of v = v.items

pub loop-i-preserved : goal.loop-i-preserved
loop-i-preserved c =
    let inv = c.loop-i.invariant in
    let body = c.in-Some.body in
    let grown : c.push.new.self.items ≡ c.loop-i.all.items ++ body ∷ [] = search rules in
    let found = rw c.in-Some.is at c.in_ok-body.ensures.body in
    record {
      taken = inv.taken ++ body.items ∷ [];
      new_is =
          ap (λ (vs : List (Vec ℕ Global)). map items_of vs) grown
          ∙ map-append items_of c.loop-i.all.items (body ∷ [])
          ∙ ap (λ (bs : List (List ℕ)). bs ++ body.items ∷ []) inv.new_is
          ∙ append_assoc (map items_of c.args.all.now.items) inv.taken (body.items ∷ []);
      counts = counts_next c.args.r c.loop-i.i c.args.piece.now body.items inv.taken (inv.all refl) found.0 found.1 inv.counts;
      all = λ _. omega (arith, inv.all refl, length-append inv.taken (body.items ∷ []));
      not_all = λ e. absurd (cc);
    }
