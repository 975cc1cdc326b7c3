use Rattle.std.proofs.Common.{◌≡◌, ◌∷◌, ◌∙◌, sym, Some, arith, inl, inr}
use Rattle.petal_script.specs.Number.{number_of}
use Rattle.petal_script.proofs.Tuples.{goes_right, goes_wrong, SoFar, Unfit}
use Rattle.petal_script.proofs.tuple.tuple.Goals.{else-id-from-via-then-id-from+else-not-is_full, else-id-from-via-else-id-from}
use Rattle.petal_script.proofs.tuple.tuple.Goals as goal

pub loop-word-preserved-then-not-is_full : goal.loop-word-preserved-then-not-is_full
loop-word-preserved-then-not-is_full c =
    let is : number_of c.in-Some.word.now ≡ Some c.in_ok-id.id = sym c.number.ensures ∙ c.in_ok-id.ensures.ok_part in
    let so : SoFar c.args.servers c.args.words.now (c.in-Some.word.now ∷ c.next.new.self) c.loop-word.ids c.loop-word.fits =
    rw c.in-Some.ensures at c.loop-word.invariant in
    rw c.push.ensures (goes_right _ _ _ _ _ c.in-Some.word.now c.in_ok-id.id so is)

pub loop-word-preserved : goal.loop-word-preserved
loop-word-preserved c =
    let is : number_of c.in-Some.word.now ≡ Some c.in_ok-id.id = sym c.number.ensures ∙ c.in_ok-id.ensures.ok_part in
    let so : SoFar c.args.servers c.args.words.now (c.in-Some.word.now ∷ c.next.new.self) c.loop-word.ids c.loop-word.fits =
    rw c.in-Some.ensures at c.loop-word.invariant in
    let why : Unfit c.in_ok-id.id c.loop-word.ids = elim c.else-id-from.branch [
      | else-id-from-via-then-id-from+else-not-is_full w ↦ inr (w.is_full.ensures.full w.if-not-is_full.false)
      | else-id-from-via-else-id-from w ↦ inl (omega (arith, c.from.ensures))
    ] in
    goes_wrong _ _ _ _ _ c.in-Some.word.now c.in_ok-id.id so is why
