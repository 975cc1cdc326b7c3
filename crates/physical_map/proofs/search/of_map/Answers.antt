use Rattle.std.proofs.Common.{◌≡◌, ◌-◌, ◌∙◌, ℕ, List, take, drop, length, sym, ap, subst}
use Rattle.std.proofs.lemmas.List.{take_rest}
use Rattle.physical_map.specs.declared.entry.Entry.{Entry}
use Rattle.physical_map.specs.Entries.{key_of}
use Rattle.physical_map.specs.Keys.{IsInOrder}
use Rattle.physical_map.proofs.Parts.{front, order-drop, part}
use Rattle.physical_map.proofs.search.of_map.Goals as goal

pub rank_of_map-requires : goal.rank_of_map-requires
rank_of_map-requires c =
    let es = c.args.entries.now in
    let at = c.rank_of_block.result in
    subst (λ (l : List Entry). IsInOrder key_of l) (sym (take_rest es at)) (order-drop at es c.requires)

pub returns : goal.returns
returns c =
    let es = c.args.entries.now in
    let at = c.rank_of_block.result in
    let rest = take (length es - at) (drop at es) in
    let whole : rest ≡ drop at es = take_rest es at in
    ap (λ (n : ℕ). take n rest) c.rank_of_map.ensures.rank
    ∙ ap (λ (l : List Entry). take (front c.args.map c.args.after l) l) (whole ∙ ap (λ (n : ℕ). drop n es) c.rank_of_block.ensures.rank)
    ∙ sym (part c.args.map c.args.after es c.requires)
