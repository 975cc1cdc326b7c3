-- An entry that counts as a Join with an empty store: of which server it is, and what becomes of the server's links.
use Rattle.law_copies.proofs.Imports.{[], if◌then◌else◌, ◌&&◌, ◌++◌, ◌<◌, ◌==◌, ◌||◌, ◌∙◌, ◌∷◌, ◌≡◌, ◌≢◌, Bool, Both, Cell, Chain, Command, Join, LinkRow}
use Rattle.law_copies.proofs.Imports.{LinkState, List, Lost, None, Only, Setting, State, Store, ap, append-nil, at-empty, blank_joins_in, blanked_state}
use Rattle.law_copies.proofs.Imports.{both_true, by_bool, cell_cmp, chain_in, counts_joins, false, has_server, inl, inr, joined_counts, joins_blank, may_join}
use Rattle.law_copies.proofs.Imports.{needs_full_copy, number_itself, prefix_itself, refl, row_blanked, row_joined, same_numbers, slice_get, state_after}
use Rattle.law_copies.proofs.Imports.{subst, sym, true, true_false, unwrap_or, ℕ}
use Rattle.law_copies.specs.CopyProgress.{IsCovered, Is_equal, Is_to_be_copied}
use Rattle.law_copies.proofs.ServedAtLaterPrefixes.{same_only}

-- the entry is the server's Join with an empty store, which acts
pub record IsBlankJoin (here : State) (entry : Command) (n : ℕ) : Type 0 where
  pub inc : ℕ
  pub is : entry ≡ Join n inc true
  pub may : may_join (slice_get here.view.members n) inc ≡ true

pub blank_join : (here : State) (entry : Command) (n : ℕ) → joins_blank here entry n ≡ true → IsBlankJoin here entry n
blank_join here (Join server inc true) n e =
    let two = both_true (server == n) (may_join (slice_get here.view.members server) inc) e in
    let same = same_numbers server n two.0 in
    record {
      inc = inc;
      is = ap (λ k. Join k inc true) same;
      may = subst (λ k. may_join (slice_get here.view.members k) inc ≡ true) same two.1;
    }
blank_join here _ n e = true_false e refl

pub joins_so : (here : State) (n inc : ℕ) → may_join (slice_get here.view.members n) inc ≡ true → joins_blank here (Join n inc true) n ≡ true
joins_so here n inc may = ap (λ b. b && may_join (slice_get here.view.members n) inc) (number_itself n) ∙ may

-- an entry that is no such Join counts at no server
pub no_blank_join : (here : State) (entry : Command) → ((server inc : ℕ) → entry ≡ Join server inc true → ⊥) → (n : ℕ) → joins_blank here entry n ≡ false
no_blank_join here entry never n = by_bool (joins_blank here entry n) (λ e. let j = blank_join here entry n e in absurd (never n j.inc j.is)) (λ e. e)

-- ### How many such Joins there are

module _ (setting : Setting) (top : List Command) (entry : Command) (n : ℕ) where
  pub counts_same : joins_blank (state_after setting.servers top) entry n ≡ false → blank_joins_in setting (top ++ entry ∷ []) n ≡ blank_joins_in setting top n
  counts_same off = elim (counts_joins setting.servers top entry n) [
    | inl same ↦ same
    | inr j ↦ true_false
        (ap (λ (c : Command). joins_blank (state_after setting.servers top) c n) j.is ∙ joins_so (state_after setting.servers top) n j.inc j.may) off
  ]

  pub counts_more : joins_blank (state_after setting.servers top) entry n ≡ true → blank_joins_in setting top n < blank_joins_in setting (top ++ entry ∷ []) n
  counts_more on =
      let j = blank_join (state_after setting.servers top) entry n on in
      joined_counts setting.servers top (top ++ entry ∷ []) n j.inc (record {
        until = top;
        following = prefix_itself top;
        stands = record { later = []; is = ap (λ c. top ++ c ∷ []) j.is ∙ sym (append-nil (top ++ Join n j.inc true ∷ [])) };
        may = j.may;
      })

-- ### Links that one of their servers joins

blanked_both : (server : ℕ) (has : Bool) (state : LinkState) → blanked_state server has state ≡ Both → state ≡ Both
blanked_both server has Both e = refl
blanked_both server has (Only holder whole) e = by_bool (holder == server)
    (λ t. let f : Lost ≡ Both = sym (ap (λ b. if b then Lost else Only holder (has || whole)) t) ∙ e in absurd cc)
    (λ off. let f : Only holder (has || whole) ≡ Both = sym (ap (λ b. if b then Lost else Only holder (has || whole)) off) ∙ e in absurd cc)
blanked_both server has Lost e = e

pub joined_not_both : {B : Type 0} (row : LinkRow) (server : ℕ) (blank : Bool) → row.state ≢ Both → (row_joined server blank row).state ≡ Both → B
joined_not_both row server false apart e = absurd (apart e)
joined_not_both row server true apart e = absurd (apart (blanked_both server (has_server server row) row.state e))

same_whole : {h k : ℕ} {one other : Bool} → Only h one ≡ Only k other → one ≡ other
same_whole e = cc

-- where the other one holds the link then, it is to copy all
pub blanked_alone : (row : LinkRow) (server holder : ℕ) (whole : Bool) → has_server server row ≡ true → row.state ≢ Both
    → (row_blanked server row).state ≡ Only holder whole → ((holder == server) ≡ false) × (whole ≡ true)
blanked_alone row server holder whole has apart e = by row.state refl e
  where
    by : (state : LinkState) → row.state ≡ state → blanked_state server (has_server server row) state ≡ Only holder whole
        → ((holder == server) ≡ false) × (whole ≡ true)
    by Both is f = absurd (apart is)
    by (Only h kept) is f = by_bool (h == server)
        (λ t. let g : Lost ≡ Only holder whole = sym (ap (λ b. if b then Lost else Only h (has_server server row || kept)) t) ∙ f in absurd cc)
        (λ off.
        let g : Only h (has_server server row || kept) ≡ Only holder whole = sym (ap (λ b. if b then Lost else Only h (has_server server row || kept)) off)
        ∙ f in
        (ap (λ n. n == server) (sym (same_only g)) ∙ off, sym (same_whole g) ∙ ap (λ b. b || kept) has))
    by Lost is f = absurd cc

-- a store is covered by an empty one, where all is to be copied
pub filled_cover : (now : LinkRow) (cell : Cell) (a b : Store) → needs_full_copy now.state ≡ true → chain_in b.chains cell ≡ [] → IsCovered now cell a b None
filled_cover now cell a b whole empty = by (chain_in a.chains cell) refl
  where
    by : (chain : Chain) → chain_in a.chains cell ≡ chain → IsCovered now cell a b None
    by [] e = Is_equal (e ∙ sym empty)
    by (row ∷ rows) e = Is_to_be_copied (record { whole = whole; stored = λ none. let f : row ∷ rows ≡ [] = sym e ∙ none in absurd cc }) tt

-- a store without chains has none of a cell
pub no_chains : (store : Store) (cell : Cell) → store.chains ≡ [] → chain_in store.chains cell ≡ []
no_chains store cell none = ap (λ t. chain_in t cell) none ∙ ap (λ o. unwrap_or o []) (at-empty cell_cmp cell)
