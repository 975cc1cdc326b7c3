use Rattle.std.proofs.Common.{◌<◌, ℕ, Option, IfSome, subst, sym}
use Rattle.spec_state.specs.CellState.{is_fenced, move_region}
use Rattle.global_state.proofs.Regions.{found_within}
use Rattle.global_state.proofs.moving.region_on_way.Goals as goal

pub numbered-requires : goal.numbered-requires
numbered-requires c =
    let within = found_within (λ region. is_fenced (move_region region c.args.moving.now)) 0 16 in
    subst (λ (found : Option ℕ). IfSome found (λ number. number < 16)) (sym c.first_fenced.ensures) within
