-- One record more, and prefixes.
use Rattle.law_merge.proofs.Imports.{[], ◌++◌, ◌∷◌, Errand, List, Record, Setting, World, errand_after, errand_along, stepped, world_after}
use Rattle.law_merge.specs.Joined.{AreJoined, IsJoined}

module _ (setting : Setting) where
  pub joined_more : (w : World) (errand : Errand) (prefix : List Record) (own : Record) → AreJoined setting w errand prefix
      → IsJoined setting (world_after setting w prefix) (errand_along setting w errand prefix) own → AreJoined setting w errand (prefix ++ own ∷ [])
  joined_more w errand [] own joined next = (next, tt)
  joined_more w errand (first ∷ later) own joined next =
      (joined.0, joined_more (stepped setting w first).world (errand_after first.actor first.step setting w errand) later own joined.1 next)
