-- A link's progress that was set and put back as it was.
use Rattle.std.proofs.Common.{◌≡◌, cond, Option, Some, None, sym, ap, ◌∙◌}
use Rattle.std.specs.Ordering.{is_eq}
use Rattle.std.specs.Cmp.{tied_itself}
use Rattle.std.specs.Map.{keys_of}
use Rattle.std.specs.List.Sorted.{IsStrictlySortedBy}
use Rattle.petal_msg.specs.declared.copying.LinkId.{LinkId}
use Rattle.petal_msg.specs.declared.copying.Progress.{Progress}
use Rattle.petal_table.specs.Table.{Table, at}
use Rattle.petal_table.proofs.Rows.{at-put}
use Rattle.spec_rules.specs.Server.{Copies}
use Rattle.spec_rules.specs.State.{link_cmp}
use Rattle.kept_chains.proofs.Puts.{put_over, put_same, without_new}
use Rattle.pair_memory.specs.Copies.{restored, with_progress}
use Rattle.pair_memory.proofs.ByLink.{link_cmp_total}

pub restored_is : (copies : Copies) (id : LinkId) (progress : Progress) (before : Option Progress) → IsStrictlySortedBy link_cmp (keys_of copies.progress)
    → before ≡ at link_cmp copies.progress id → restored (with_progress copies id progress) id before ≡ copies
restored_is copies id progress None sorted is =
    ap (λ (t : Table LinkId Progress). record copies { progress = t }) (without_new link_cmp link_cmp_total copies.progress id progress (sym is))
restored_is copies id progress (Some before) sorted is =
    ap (λ (t : Table LinkId Progress). record copies { progress = t })
    (put_over link_cmp link_cmp_total copies.progress id progress before ∙ put_same link_cmp link_cmp_total copies.progress id before sorted (sym is))

-- and it stands there in between
pub progress_there : (copies : Copies) (id : LinkId) (progress : Progress) → at link_cmp (with_progress copies id progress).progress id ≡ Some progress
progress_there copies id progress =
    at-put link_cmp_total copies.progress id progress id
    ∙ ap (λ r. cond (is_eq r) (Some progress) (at link_cmp copies.progress id)) (tied_itself link_cmp_total id)
