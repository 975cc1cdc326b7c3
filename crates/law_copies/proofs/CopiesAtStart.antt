-- What is kept of two copies holds at the start.
use Rattle.law_copies.proofs.Imports.{[], ◌∙◌, ◌≡◌, Cell, In, IsRising, None, Progress, Setting, Store, ap, arith, at-empty, cell_cmp, cell_link, chain_in}
use Rattle.law_copies.proofs.Imports.{chosen_log, counted, empty_store, false, first_state, id_of, inl, is_flagged, link_cmp, nat_cmp, no_progress}
use Rattle.law_copies.proofs.Imports.{none_before_none, none_some, option_map_or, past_link, refl, start, start_plain, state_after, subst, sym, true_false}
use Rattle.law_copies.proofs.Imports.{unwrap_or, world_after, ℕ}
use Rattle.law_copies.specs.CopyProgress.{Is_equal}
use Rattle.law_copies.specs.GoodCopies.{Good}
use Rattle.law_copies.specs.Visits.{Visits, place_by}
use Rattle.law_copies.proofs.NewPlaces.{new_alone, new_twins}

start_unlinked : (servers : ℕ) (cell : Cell) → cell_link (state_after servers []) cell ≡ None
start_unlinked servers cell = past_link servers (first_state servers) (start_plain servers) cell (omega arith)

no_chain : (slots : ℕ) (cell : Cell) → chain_in (empty_store slots).chains cell ≡ []
no_chain slots cell = ap (λ o. unwrap_or o []) (at-empty cell_cmp cell)

pub start_good : (setting : Setting) → Good setting [] (chosen_log setting (start setting)) (counted setting (start setting))
unfolding In
start_good setting =
    let w = counted setting (start setting) in
    let top = chosen_log setting (start setting) in
    let visits : Visits = λ n place cell. None in
    let reached : Cell → ℕ = λ cell. 0 in
    let stores : ℕ → ℕ → Store = λ n joins. empty_store setting.slots in
    let same : (n m : ℕ) (cell : Cell) → chain_in (empty_store setting.slots).chains cell ≡ chain_in (empty_store setting.slots).chains cell =
    λ n m cell. refl in
    record {
      visits = visits;
      reached = reached;
      reaching = record { below = λ prefix cell row n own is_prefix is serving visit. none_some refl visit; by = λ cell. inl refl };
      stores = stores;
      now = λ n. refl;
      here = λ n cell row is seat alive. none_some (start_unlinked setting.servers cell) is;
      been = λ n place cell own visit. none_some refl visit;
      came = λ n place cell own visit. none_some refl visit;
      born = λ cell none n. no_chain setting.slots cell;
      unheard = λ n cell none. record {
        bare = record { chain = no_chain setting.slots cell; marks = λ kind. refl };
        last = at-empty cell_cmp cell;
        pages = λ unlinked row of. ap (λ o. unwrap_or o no_progress) (at-empty link_cmp (id_of row));
      };
      rising = λ n cell. subst (IsRising nat_cmp) (sym (no_chain setting.slots cell)) tt;
      ever = λ n joins cell. subst (IsRising nat_cmp) (sym (no_chain setting.slots cell)) tt;
      counts = λ n. omega arith;
      filled = λ n cell there. none_some (at-empty cell_cmp cell) there;
      copied = λ n cell last there. none_some (at-empty cell_cmp cell) there;
      marks = λ n when cell op on there. none_some (at-empty cell_cmp cell) there;
      both = λ prefix cell row is_prefix is both. record {
        twins = λ alive last. new_twins (λ n. empty_store setting.slots) visits (place_by setting prefix row) cell row.primary row.secondary (λ n. refl) refl;
      };
      alone = λ prefix cell row holder whole is_prefix is alone.
          new_alone setting top stores visits reached prefix cell row holder (λ n. refl) (λ alive. Is_equal refl)
          (λ alive all_of. inl (no_chain setting.slots cell));
      revs = λ letter i. absurd i;
      letters = λ letter i. absurd i;
      lives = λ letter i. absurd i;
      pages = λ letter i. absurd i;
      started = λ holder inc whole prefix cell row is_prefix is alive alone seat was. true_false was.minded
          (ap (λ u. is_flagged ((world_after setting (start setting) u).servers holder).own (id_of row)) (none_before_none was.before was.later was.is)
          ∙ ap (λ o. option_map_or (λ (p : Progress). p.caught) o false) (at-empty link_cmp (id_of row)));
    }

-- no server has been anywhere then
pub start_visits : (setting : Setting) (n place : ℕ) (cell : Cell) → (start_good setting).visits n place cell ≡ None
unfolding start_good
start_visits setting n place cell = refl
