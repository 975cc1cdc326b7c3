use Rattle.std.proofs.Common.{◌≡◌, ◌++◌, ◌∷◌, [], ◌<◌, List, ℕ, length, take, get_or, arith, ap, sym, ◌∙◌}
use Rattle.std.proofs.lemmas.List.{length-map}
use Rattle.block_journal.specs.Records.{contents}
use Rattle.state_store.specs.Body.{body_of}
use Rattle.spec_paxos.specs.Kept.{row_after, inc_after, empty_row}
use Rattle.state_store.proofs.Devices.{bodies_one_more, spelled_more}
use Rattle.state_store.proofs.Records.{read_same, take_next, at_map, fold_more}
use Rattle.state_store.proofs.register.read_records.Goals as goal

pub loop-index-preserved : goal.loop-index-preserved
loop-index-preserved c =
    let i = c.loop-index.index in
    let all = contents c.args.bodies.now in
    let past = c.loop-index.history.items in
    let kept = c.loop-index.invariant in
    let lt : i < length c.args.bodies.now = omega arith in
    let inside : i < length all = omega (arith, length-map c.args.bodies.now (λ body. body.items)) in
    let here : get_or all i [] ≡ c.deref.result.now = at_map (λ body. body.items) c.args.bodies.now i c.index-bodies-index.result [] lt c.index-bodies-index.is
    ∙ sym c.deref.ensures.value in
    let read = c.in-Some.ensures.found in
    record {
      found = rw c.with-history.ensures (bodies_one_more past c.in-Some.entry ∙ ap (λ l. l ++ body_of c.in-Some.entry ∷ []) kept.found
          ∙ ap (λ (b : List ℕ). take i all ++ b ∷ []) (sym (here ∙ read.1)) ∙ sym (take_next all i [] inside));
      spelled = rw c.with-history.ensures (spelled_more past c.in-Some.entry kept.spelled read.0);
      same = λ records sp is. rw c.with-history.ensures (read_same all records i c.record_of.result c.in-Some.entry past sp is inside
          (λ r fits at. c.record_of.ensures.only r fits (sym here ∙ at)) c.in-Some.is (kept.same records sp is));
      rows = λ place. rw c.with-history.ensures (c.in_ok-places.ensures place ∙ ap (λ r. row_after place r c.in-Some.entry) (kept.rows place)
          ∙ sym (fold_more (row_after place) empty_row past c.in-Some.entry));
      inc = rw c.with-history.ensures (c.inc_noted-inc.ensures ∙ ap (λ n. inc_after n c.in-Some.entry) kept.inc
          ∙ sym (fold_more inc_after 0 past c.in-Some.entry));
    }
