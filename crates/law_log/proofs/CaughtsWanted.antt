-- The Caught that a server wants: of a link that it holds alone, whose other server is In; and that it has it in mind once it has
-- started the ballot.
use Rattle.law_log.proofs.Imports.{[], ◌&&◌, ◌∙◌, ◌∷◌, ◌≡◌, Among, Caught, Command, JobContext, LinkRow, List, None, Option, PairState, Some, State, ap}
use Rattle.law_log.proofs.Imports.{both_true, by_test, caught_as, caught_links, caught_of, flat_map, holds_link, id_of, in-append, inl, inr, is_alone}
use Rattle.law_log.proofs.Imports.{is_flagged, is_nothing, is_up, link_at, link_named, may_catch, next_copy, none_some, number_itself, other_in, other_of}
use Rattle.law_log.proofs.Imports.{progress_on, proposed, refl, same_some, sym, true, ℕ}
use Rattle.spec_state.specs.State.{inc_of}
use Rattle.law_log.proofs.PairJobsLeaveLog.{IsKept, kept_itself}
use Rattle.law_log.proofs.BallotFlags.{flag_put, flags_put}
use Rattle.law_log.proofs.ListPlaces.{only_among, none_among}

-- the command is the Caught of this link, which the server holds alone, whose other server is In, and of which nothing is left to copy
pub record IsOfLink (here : JobContext) (own : PairState) (command : Command) : Type 0 where
  pub row : LinkRow
  pub there : Among row here.state.links
  pub inc : ℕ
  pub is : command ≡ Caught row.map row.link here.me here.inc (other_of here.me row) inc
  pub alone : is_alone here.me row.state ≡ true
  pub other_is : other_in here.state here.me row ≡ Some (other_of here.me row)
  pub nothing : is_nothing (next_copy here.state row own) ≡ true
  pub joins : inc_of here.state (other_of here.me row) ≡ Some inc

-- the holder's other server, where it is In
other_is : (state : State) (me other : ℕ) (row : LinkRow) → other_in state me row ≡ Some other → (is_alone me row.state ≡ true) × (other_of me row ≡ other)
other_is state me other row = by_test (λ (o : Option ℕ). o ≡ Some other → (is_alone me row.state ≡ true) × (other_of me row ≡ other))
    (is_alone me row.state && is_up state (other_of me row)) (Some (other_of me row)) None
    (λ e is. ((both_true (is_alone me row.state) (is_up state (other_of me row)) e).0, same_some is)) (λ e is. none_some refl is)

module _ (here : JobContext) (own : PairState) where
  caught_from : (row : LinkRow) → Among row here.state.links → (other : ℕ) → other_in here.state here.me row ≡ Some other → (o : Option ℕ)
      → inc_of here.state other ≡ o → is_nothing (next_copy here.state row own) ≡ true → (c : Command)
      → Among c (caught_as here row other o) → IsOfLink here own c
  caught_from row there other is None joins nothing c h = none_among c h
  caught_from row there other is (Some inc) joins nothing c h =
      let found = other_is here.state here.me other row is in record {
        row = row;
        there = there;
        inc = inc;
        is = only_among c _ h ∙ (λ i. Caught row.map row.link here.me here.inc (sym found.1 i) inc);
        alone = found.0;
        other_is = is ∙ ap Some (sym found.1);
        nothing = nothing;
        joins = ap (inc_of here.state) found.1 ∙ joins;
      }

  caught_row : (row : LinkRow) → Among row here.state.links → (o : Option ℕ) → other_in here.state here.me row ≡ o → (c : Command)
      → Among c (caught_of here own row o) → IsOfLink here own c
  caught_row row there None is c h = none_among c h
  caught_row row there (Some other) is c h =
      by_test (λ (xs : List Command). Among c xs → IsOfLink here own c) (is_nothing (next_copy here.state row own))
      (caught_as here row other (inc_of here.state other)) []
      (λ e. caught_from row there other is (inc_of here.state other) refl e c) (λ e. none_among c) h

  caught_rows : (rows : List LinkRow) → ((row : LinkRow) → Among row rows → Among row here.state.links) → (c : Command)
      → Among c (flat_map (λ row. caught_of here own row (other_in here.state here.me row)) rows) → IsOfLink here own c
  unfolding Among
  caught_rows [] all c h = none_among c h
  caught_rows (row ∷ rows) all c h =
      elim (in-append c (caught_of here own row (other_in here.state here.me row))
      (flat_map (λ row. caught_of here own row (other_in here.state here.me row)) rows) h) [
        | inl now ↦ caught_row row (all row (inl refl)) (other_in here.state here.me row) refl c now
        | inr later ↦ caught_rows rows (λ other i. all other (inr i)) c later
      ]

  pub caught_among : (c : Command) → Among c (caught_links here own) → IsOfLink here own c
  caught_among c h = caught_rows here.state.links (λ row i. i) c h

  -- the Caught acts where each row is found
  pub caught_may : (c : Command) (of_link : IsOfLink here own c) → link_at here.state.links of_link.row.map of_link.row.link ≡ Some of_link.row
      → may_catch here.me (other_of here.me of_link.row) (link_at here.state.links of_link.row.map of_link.row.link) ≡ true
  caught_may c of_link found =
      ap (may_catch here.me (other_of here.me of_link.row)) found
      ∙ (λ i. of_link.alone i && number_itself (other_of here.me of_link.row) i)

  -- and the server has it in mind
  pub caught_minded : (c : Command) (of_link : IsOfLink here own c) → link_at here.state.links of_link.row.map of_link.row.link ≡ Some of_link.row
      → is_flagged (proposed here.state own (Some c)) (id_of of_link.row) ≡ true
  caught_minded c of_link found =
      ap (λ d. is_flagged (proposed here.state own (Some d)) (id_of of_link.row)) of_link.is
      ∙ ap (λ o. is_flagged (holds_link own o) (id_of of_link.row)) found
      ∙ flag_put own of_link.row (record (progress_on own of_link.row) { caught = true }) refl

-- a ballot for any command forgets nothing
kept_link : (own : PairState) (o : Option LinkRow) → IsKept own (holds_link own o)
kept_link own None = kept_itself own
kept_link own (Some row) = record { flags = flags_put own row (record (progress_on own row) { caught = true }) (λ h. refl) }

pub kept_proposed : (state : State) (own : PairState) (o : Option Command) → IsKept own (proposed state own o)
kept_proposed state own (Some (Caught of link holder holder_inc other other_inc)) = kept_link own (link_named state (record { map = of; link = link }))
kept_proposed state own (Some _) = kept_itself own
kept_proposed state own None = kept_itself own
