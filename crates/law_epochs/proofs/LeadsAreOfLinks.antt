-- A server that has led a cell's link is one of the link's two.
use Rattle.law_epochs.proofs.Imports.{◌∙◌, ◌≡◌, Cell, Command, HasProperTuples, IsPrefix, LinkRow, List, Some, State, cell_link, has_server, holder_is_one}
use Rattle.law_epochs.proofs.Imports.{inl, inr, is_the_one, leads_link, link_led_by, log_below, log_steady, none_some, option_and_then, prefix_plain}
use Rattle.law_epochs.proofs.Imports.{primary_is_one, row_lead, same_some, state_after, subst, sym, true, ℕ}

pub led_has : (servers : ℕ) (prefix whole : List Command) (n : ℕ) (cell : Cell) (row : LinkRow) → HasProperTuples servers whole → IsPrefix prefix whole
    → leads_link (state_after servers prefix) n cell ≡ true → cell_link (state_after servers whole) cell ≡ Some row → has_server n row ≡ true
led_has servers prefix whole n cell row plain is_prefix leads linked =
    elim (link_led_by was (log_steady servers prefix (prefix_plain servers prefix whole plain is_prefix)) cell n
    (is_the_one (option_and_then (row_lead was) (cell_link was cell)) n leads)) [
      | inl b ↦ still b.0.row b.0.is (primary_is_one b.0.row n b.1)
      | inr held ↦ still held.row held.is (holder_is_one was cell n held)
    ]
  where
    was : State
    was = state_after servers prefix

    still : (before : LinkRow) → cell_link was cell ≡ Some before → has_server n before ≡ true → has_server n row ≡ true
    still before is has = elim ((log_below servers prefix whole plain is_prefix).rows cell before is) [
      | inl later ↦
          let same : later.now ≡ row = same_some (sym later.is ∙ linked) in
          subst (λ (r : LinkRow). has_server n r ≡ true) same
          ((λ i. has_server n (record later.now { primary = later.so.primary i; secondary = later.so.secondary i })) ∙ has)
      | inr died ↦ none_some died.0 linked
    ]
