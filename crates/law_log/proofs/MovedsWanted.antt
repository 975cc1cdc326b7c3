-- The Moved that a server wants: of a link whose blocks of a region it is to move, and of which nothing is left.
use Rattle.law_log.proofs.Imports.{[], ◌∷◌, ◌≡◌, Among, Command, JobContext, Key, LinkRow, List, Moved, None, Option, PairState, Some, by_test, fill_of}
use Rattle.law_log.proofs.Imports.{flat_map, in-append, inl, inr, is_in, moved_of, moved_where, moving, refl, region_to_move, true, ℕ}
use Rattle.law_log.proofs.ListPlaces.{none_among, only_among}

-- the command is the Moved of this link, of which the server is to move the region and has nothing left
pub record IsMove (here : JobContext) (own : PairState) (command : Command) : Type 0 where
  pub seated : is_in here.state here.me here.inc ≡ true
  pub row : LinkRow
  pub there : Among row here.state.links
  pub region : ℕ
  pub is : command ≡ Moved row.map region row.link
  pub moves : region_to_move here.state here.me row ≡ Some region
  pub left : fill_of here.state here.me row own ≡ None

module _ (here : JobContext) (own : PairState) (seat : is_in here.state here.me here.inc ≡ true) where
  move_where : (row : LinkRow) → Among row here.state.links → (o : Option ℕ) → region_to_move here.state here.me row ≡ o → (key : Option Key)
      → fill_of here.state here.me row own ≡ key → (c : Command) → Among c (moved_where row o key) → IsMove here own c
  move_where row there None is key left c h = none_among c h
  move_where row there (Some region) is None left c h =
      record { seated = seat; row = row; there = there; region = region; is = only_among c _ h; moves = is; left = left }
  move_where row there (Some region) is (Some key) left c h = none_among c h

  move_rows : (rows : List LinkRow) → ((row : LinkRow) → Among row rows → Among row here.state.links) → (c : Command)
      → Among c (flat_map (moved_of here own) rows) → IsMove here own c
  unfolding Among
  move_rows [] all c h = none_among c h
  move_rows (row ∷ rows) all c h = elim (in-append c (moved_of here own row) (flat_map (moved_of here own) rows) h) [
    | inl now ↦ move_where row (all row (inl refl)) (region_to_move here.state here.me row) refl (fill_of here.state here.me row own) refl c now
    | inr later ↦ move_rows rows (λ other i. all other (inr i)) c later
  ]

pub move_among : (here : JobContext) (own : PairState) (c : Command) → Among c (moving here own) → IsMove here own c
move_among here own c h =
    by_test (λ (xs : List Command). Among c xs → IsMove here own c) (is_in here.state here.me here.inc)
    (flat_map (moved_of here own) here.state.links) []
    (λ seat i. move_rows here own seat here.state.links (λ row j. j) c i)
    (λ out i. none_among c i) h
