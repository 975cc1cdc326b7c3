use Rattle.std.proofs.Common.{◌≡◌, ◌-◌, ◌∙◌, ℕ, take, drop, length, sym, ap}
use Rattle.std.proofs.lemmas.List.{take_rest}
use Rattle.std.specs.List.{take_while}
use Rattle.physical_map.specs.declared.entry.Entry.{Entry}
use Rattle.physical_map.specs.Entries.{in_cell}
use Rattle.physical_map.proofs.Searches.{chain-part}
use Rattle.physical_map.proofs.search.chain.Goals as goal

pub returns : goal.returns
returns c =
    let es = c.args.entries.now in
    let p = λ (e : Entry). in_cell c.args.cell.now e.key in
    let at = c.rank_of.result in
    let rest = take (length es - at) (drop at es) in
    let whole : rest ≡ drop at es = take_rest es at in
    ap (λ (n : ℕ). take n rest) c.cell_prefix.ensures ∙ ap (take_while p) whole ∙ ap (λ (n : ℕ). take_while p (drop n es)) c.rank_of.ensures.rank
    ∙ sym (chain-part c.args.cell.now es c.requires)
