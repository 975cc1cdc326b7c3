-- A server that came back with nothing serves none of its links until the other server has filled it.
use Rattle.law_run.proofs.Imports.{[], if◌then◌else◌, ◌&&◌, ◌++◌, ◌==◌, ◌||◌, ◌∙◌, ◌∷◌, ◌≡◌, ◌⊎◌, Bool, ByBoth, ByNone, ByOne, By_caught, By_join, By_leave}
use Rattle.law_run.proofs.Imports.{Caught, Cell, Command, HasJoinedSince, HasLater, HasProperTuples, IsCaughtStill, IsPrefix, Join, Leave, LinkRow, List}
use Rattle.law_run.proofs.Imports.{Lost, Only, Some, State, ap, blank_joins_from, blanked_state, by_bool, cell_link, false, fold-append, has_server, inl, inr}
use Rattle.law_run.proofs.Imports.{joined_where, log_alone, log_below, log_lost, log_steady, log_touched, none_some, one_before, other_of, prefix_more}
use Rattle.law_run.proofs.Imports.{prefix_on, prefix_plain, row_blanked, row_joined, same_or_apart, serves, state_after, sym, touches, true, ℕ}
use Rattle.spec_state.specs.Command.{after}
use Rattle.spec_state.specs.State.{start}

-- ### Where it joined

module _ (servers : ℕ) (n : ℕ) where
  abbrev joins : List Command → ℕ
  joins log = blank_joins_from (start servers) log n

  abbrev JoinsSince : (prefix whole : List Command) → Type 0
  JoinsSince prefix whole = (inc : ℕ) × HasJoinedSince servers prefix whole n inc true

  -- a longer log has as many of its Joins with an empty store, or it joined with one since
  pub more_joins : (prefix whole : List Command) → IsPrefix prefix whole → (joins whole ≡ joins prefix) ⊎ JoinsSince prefix whole
  more_joins prefix whole is_prefix =
      elim (same_or_apart (joins whole) (joins prefix)) [
        | inl same ↦ inl same
        | inr apart ↦ inr (joined_where servers n prefix whole is_prefix (λ e. apart (sym e)))
      ]

-- ### What becomes of its links

same_join : {n m inc other : ℕ} {one two : Bool} → Join n inc one ≡ Join m other two → (n ≡ m) × (one ≡ two)
same_join e = (cc, cc)

module _ (servers : ℕ) (whole : List Command) (all : HasProperTuples servers whole) (cell : Cell) where
  abbrev IsLinkedBy : List Command → LinkRow → Type 0
  IsLinkedBy prefix row = cell_link (state_after servers prefix) cell ≡ Some row

  module _ (prefix : List Command) (n inc : ℕ) (j : HasJoinedSince servers prefix whole n inc true) where
    abbrev entry : Command
    entry = Join n inc true

    abbrev following : List Command
    following = j.until ++ entry ∷ []

    until_whole : IsPrefix j.until whole
    until_whole = prefix_on j.until following whole (prefix_more j.until entry) j.stands

    -- no Caught of the link stands after the Join
    abbrev pub IsUncaught : Type 0
    IsUncaught = (row mid : LinkRow) → IsLinkedBy j.until row → touches (state_after servers j.until) entry row ≡ true → IsLinkedBy following mid
        → (holder : ℕ) (copied : Bool) → IsCaughtStill servers following whole cell mid holder copied → ⊥

    -- right after it the link is Lost, or the other server holds it alone
    pub data IsLeftSo (row : LinkRow) : Type 0 where
      Nobody : (row_blanked n row).state ≡ Lost → IsLeftSo row
      Another : (holder : ℕ) (later : Bool) → (row_blanked n row).state ≡ Only holder later → (holder == n) ≡ false → IsLeftSo row

    touched_by : (row : LinkRow) → has_server n row ≡ true → touches (state_after servers j.until) entry row ≡ true
    touched_by row has = (λ i. j.may i && has i)

    -- what the Join makes of the row
    joined_row : (row : LinkRow) → IsLinkedBy j.until row → has_server n row ≡ true → IsLinkedBy following (row_blanked n row) × IsLeftSo row
    joined_row row is has =
        let plain = prefix_plain servers j.until whole all until_whole in
        elim (log_touched servers j.until entry cell row plain tt is (touched_by row has)) [
          | By_leave left at seats ↦ (let f : entry ≡ Leave left.server left.inc = left.is in absurd cc)
          | By_caught acts stays ↦
              (let f : entry ≡ Caught row.map row.link acts.holder acts.inc (other_of acts.holder row) acts.other_inc = acts.is in absurd cc)
          | By_join joined at apart seats ↦ (
              let same = same_join joined.is in
              let row_is : row_joined joined.server joined.blank row ≡ row_blanked n row =
              (λ i. row_joined (sym same.0 i) (sym same.1 i) row) in
              let next : state_after servers following ≡ after (state_after servers j.until) entry =
              fold-append after (start servers) j.until (entry ∷ []) in (
                ap (λ (s : State). cell_link s cell) next ∙ at ∙ ap Some row_is,
                elim ((log_steady servers j.until plain).linked cell row is).served [
                  | ByBoth so one two ↦ absurd (apart so)
                  | ByNone one other so pair out ↦ Nobody (ap (blanked_state n (has_server n row)) so)
                  | ByOne holder other copied so pair out ↦
                      let now = ap (blanked_state n (has_server n row)) so in
                      by_bool (holder == n)
                      (λ t. Nobody (now ∙ ap (λ b. if b then Lost else Only holder (has_server n row || copied)) t))
                      (λ f. Another holder (has_server n row || copied)
                      (now ∙ ap (λ b. if b then Lost else Only holder (has_server n row || copied)) f) f)
                ],
              ))
        ]

    -- by all of the log it serves the link no more
    pub serves_none : IsUncaught → (row now : LinkRow) → IsLinkedBy prefix row → IsLinkedBy whole now → has_server n row ≡ true
        → serves n now now.state ≡ false
    serves_none never row now is end has =
        let until : HasLater (state_after servers prefix) (state_after servers j.until) cell row =
        elim ((log_below servers prefix j.until (prefix_plain servers j.until whole all until_whole) j.following).rows cell row is) [
          | inl later ↦ later
          | inr died ↦ none_some ((log_below servers j.until whole all until_whole).died cell died).0 end
        ] in
        let has_until : has_server n until.now ≡ true = one_before row until.now n until.so ∙ has in
        let left = joined_row until.now until.is has_until in
        elim left.1 [
          | Nobody lost ↦ ap (serves n now) (log_lost servers following whole all j.stands cell (row_blanked n until.now) now left.0 lost end)
          | Another holder later alone other ↦
              elim (log_alone servers following whole all j.stands cell (row_blanked n until.now) now holder later left.0 alone end) [
                | inl still ↦ ap (serves n now) still.1 ∙ other
                | inr (inl lost) ↦ ap (serves n now) lost.0
                | inr (inr caught) ↦
                    absurd (never until.now (row_blanked n until.now) until.is (touched_by until.now has_until) left.0 holder later caught)
              ]
        ]
