-- Who may have served a cell's link at later prefixes of the log: what a server that is at a place may rely on, whatever has been chosen
-- since.
use Rattle.law_copies.proofs.Imports.{[], ◌++◌, ◌<◌, ◌==◌, ◌∙◌, ◌∷◌, ◌≡◌, ◌≤◌, ◌⊎◌, Body, Bool, Both, ByBoth, ByNone, ByOne, Caught, Cell, Command, Firm}
use Rattle.law_copies.proofs.Imports.{Handled, HasProperTuples, IsCaughtStill, IsHeldStill, IsPrefix, IsSteady, LinkRow, List, Lost, None, Only, PairState}
use Rattle.law_copies.proofs.Imports.{Record, Setting, Some, State, StaysSo, Store, WasStarted, World, about, alone_not_both, alone_row, ap, arith, by_bool}
use Rattle.law_copies.proofs.Imports.{cell_link, chosen_log, chosen_state, either_true, false, has_server, held_as_flag, id_of, inl, inr, is_alone_on}
use Rattle.law_copies.proofs.Imports.{is_flagged, is_in, is_some, log_alone, log_both_place, log_steady, lost_not_both, number_itself, option_map_or}
use Rattle.law_copies.proofs.Imports.{other_between, other_of, prefix_itself, prefix_more, prefix_on, prefix_plain, primary_is_one, refl, running_prefixes}
use Rattle.law_copies.proofs.Imports.{same_numbers, same_some, secondary_is_one, server_state, serves, some_or_none, state_after, stays_alone, stays_both}
use Rattle.law_copies.proofs.Imports.{subst, sym, true, true_false, up_some, ℕ}
use Rattle.law_copies.specs.CopyProgress.{IsCaught}
use Rattle.law_copies.specs.GoodCopies.{Good, pair_at}
use Rattle.law_copies.specs.Pair.{Known}
use Rattle.law_copies.specs.Visits.{AliveIn, IsLinked, place_by, store_by, with_stores}
use Rattle.law_copies.proofs.PlacesByPrefixes.{alive_on, at_most_or_above, prefixes_meet, one_row, other_later, places_up, rows_later}

-- each Caught that is chosen was started by its holder after the entries before it
abbrev pub AllStarted : Setting → List Record → World → Type 0
AllStarted setting records w = (prefix : List Command) (of link holder inc other other_inc : ℕ)
    → IsPrefix (prefix ++ Caught of link holder inc other other_inc ∷ []) (chosen_log setting w)
    → WasStarted setting records holder inc prefix (record { map = of; link = link })

pub same_only : {h k : ℕ} {one other : Bool} → Only h one ≡ Only k other → h ≡ k
same_only e = cc

pub alone_not_lost : {B : Type 0} {whole : Bool} (row : LinkRow) (holder : ℕ) → row.state ≡ Only holder whole → row.state ≡ Lost → B
alone_not_lost {whole = whole} row holder e f = let g : Only holder whole ≡ Lost = sym e ∙ f in absurd cc

-- who is told by a state's row to hold a link alone
only_holder : (state : State) (k : ℕ) (cell : Cell) (now : LinkRow) → cell_link state cell ≡ Some now → is_alone_on state k cell ≡ true
    → (whole : Bool) × (now.state ≡ Only k whole)
only_holder state k cell now there alone =
    let a = alone_row state k cell alone in
    (a.whole, ap (λ (r : LinkRow). r.state) (same_some (sym there ∙ a.is)) ∙ a.alone)

-- the holder is one of the link's two servers
pub holder_is_one : {whole : Bool} (state : State) → IsSteady state → (holder : ℕ) (cell : Cell) (row : LinkRow) → cell_link state cell ≡ Some row
    → row.state ≡ Only holder whole → has_server holder row ≡ true
holder_is_one state steady holder cell row is alone = elim (steady.linked cell row is).served [
  | ByBoth so one other ↦ alone_not_both row holder alone so
  | ByOne h other kept so pair out ↦ elim pair [
    | inl at ↦ primary_is_one row holder (at.0 ∙ same_only (sym so ∙ alone))
    | inr at ↦ secondary_is_one row holder (at.1 ∙ same_only (sym so ∙ alone))
  ]
  | ByNone one other so pair out ↦ alone_not_lost row holder alone so
]

-- who serves a link that one server holds alone is the holder
pub serves_alone : {whole : Bool} (holder n : ℕ) (row : LinkRow) → row.state ≡ Only holder whole → serves n row row.state ≡ true → n ≡ holder
serves_alone holder n row alone serving = sym (same_numbers holder n (sym (ap (serves n row) alone) ∙ serving))

pub serves_its : {whole : Bool} (holder : ℕ) (row : LinkRow) → row.state ≡ Only holder whole → serves holder row row.state ≡ true
serves_its holder row alone = ap (serves holder row) alone ∙ number_itself holder

-- the one of the link's two servers that is not the holder
pub other_than : (holder n : ℕ) (row : LinkRow) → has_server holder row ≡ true → has_server n row ≡ true → (holder == n) ≡ false → other_of holder row ≡ n
other_than holder n row holds has apart = elim (other_between row holder holds) [
  | inl pair ↦ by_bool (row.primary == n) (λ t. sym pair.0 ∙ same_numbers row.primary n t) (λ f. not_holder (sym pair.1 ∙ as_second f))
  | inr pair ↦ by_bool (row.primary == n) (λ t. not_holder (sym pair.0 ∙ same_numbers row.primary n t)) (λ f. sym pair.1 ∙ as_second f)
]
  where
    as_second : (row.primary == n) ≡ false → row.secondary ≡ n
    as_second f = same_numbers row.secondary n (either_true (row.primary == n) (row.secondary == n) has f)

    not_holder : {B : Type 0} → holder ≡ n → B
    not_holder e = true_false (ap (λ k. k == n) e ∙ number_itself n) apart

-- the worlds are those of a legal history, with the stores that count
module _ (setting : Setting) (records : List Record) (w : World) (stores : ℕ → Store) (firm : Firm setting w)
    (good : Good setting records (chosen_log setting w) (with_stores w stores)) where
  abbrev chosen : List Command
  chosen = chosen_log setting w

  -- the entries that the server has applied
  abbrev own_prefix : ℕ → List Command
  own_prefix n = (w.servers n).log.applied

  plain_at : (prefix : List Command) → IsPrefix prefix chosen → HasProperTuples setting.servers prefix
  plain_at prefix is_prefix = prefix_plain setting.servers prefix chosen firm.plain is_prefix

  steady_at : (prefix : List Command) → IsPrefix prefix chosen → IsSteady (state_after setting.servers prefix)
  steady_at prefix is_prefix = log_steady setting.servers prefix (plain_at prefix is_prefix)

  -- ### Where servers have been

  -- a server has been at no place after its own
  pub been_below : (n place : ℕ) (cell : Cell) (own : PairState) (row : LinkRow) → good.visits n place cell ≡ Some own
      → IsLinked setting (own_prefix n) cell row
      → place ≤ place_by setting (own_prefix n) row
  been_below n place cell own row e is =
      let b = good.been n place cell own e in
      let up = places_up setting chosen firm.plain b.prefix (own_prefix n) cell b.row row b.within (firm.servers n) b.linked is in
      let at = b.at in
      omega arith

  pub unseen_beyond : (n : ℕ) (cell : Cell) (row : LinkRow) → IsLinked setting (own_prefix n) cell row
      → (place : ℕ) → place_by setting (own_prefix n) row < place → good.visits n place cell ≡ None
  unseen_beyond n cell row is place lt = elim (some_or_none (good.visits n place cell)) [
    | inl h ↦ let le = been_below n place cell h.0 row h.1 is in absurd (omega arith)
    | inr none ↦ none
  ]

  -- a server that is In as itself and serves its own place counts
  pub reached_here : (k : ℕ) (cell : Cell) (row : LinkRow) → is_in (server_state setting w k) k (w.servers k).life.inc ≡ true
      → IsLinked setting (own_prefix k) cell row → AliveIn (server_state setting w k) cell → serves k row row.state ≡ true
      → place_by setting (own_prefix k) row ≤ good.reached cell
  reached_here k cell row seat is alive serving =
      let here = good.here k cell row is seat alive in
      good.reaching.below (own_prefix k) cell row k here.own (firm.servers k) is serving here.is

  -- at a place after the last one that counts nobody who serves it has been
  pub not_reached : (prefix : List Command) (cell : Cell) (row : LinkRow) (n : ℕ) → IsPrefix prefix chosen → IsLinked setting prefix cell row
      → serves n row row.state ≡ true → good.reached cell < place_by setting prefix row → good.visits n (place_by setting prefix row) cell ≡ None
  not_reached prefix cell row n is_prefix is serving lt = elim (some_or_none (good.visits n (place_by setting prefix row) cell)) [
    | inl h ↦ let le = good.reaching.below prefix cell row n h.0 is_prefix is serving h.1 in absurd (omega arith)
    | inr none ↦ none
  ]

  pub not_serving : (k : ℕ) (cell : Cell) (row : LinkRow) → is_in (server_state setting w k) k (w.servers k).life.inc ≡ true
      → IsLinked setting (own_prefix k) cell row → AliveIn (server_state setting w k) cell → good.reached cell < place_by setting (own_prefix k) row
      → serves k row row.state ≡ false
  not_serving k cell row seat is alive lt = by_bool (serves k row row.state)
      (λ on. let le = reached_here k cell row seat is alive on in absurd (omega arith))
      (λ off. off)

  -- ### A link that one server holds alone

  -- after these entries the holder's Caught was started, for which it has the link in mind; and the other server was there
  pub record IsCaughtUp (prefix more : List Command) (cell : Cell) (holder : ℕ) (whole : Bool) : Type 0 where
    pub until : List Command
    pub following : IsPrefix prefix until
    pub before : IsPrefix until more
    pub row : LinkRow
    pub linked : IsLinked setting until cell row
    pub later : Bool
    pub alone : row.state ≡ Only holder later
    pub kept : whole ≡ true → later ≡ true
    pub own : PairState
    pub visited : good.visits holder (place_by setting until row) cell ≡ Some own
    pub flagged : is_flagged own (id_of row) ≡ true
    pub caught : IsCaught own row cell
    pub met : is_some (good.visits (other_of holder row) (place_by setting until row) cell) ≡ true

  module _ (started : AllStarted setting records w) where
    caught_up : (prefix more : List Command) (cell : Cell) (row : LinkRow) (holder : ℕ) (whole : Bool) → IsPrefix more chosen
        → AliveIn (state_after setting.servers more) cell → IsCaughtStill setting.servers prefix more cell row holder whole
        → IsCaughtUp prefix more cell holder whole
    caught_up prefix more cell row holder whole two alive still =
        let c = still.found in
        let was : LinkRow = record row { state = Only holder still.later } in
        let acts = c.acts in
        let holder_is : acts.holder ≡ holder = same_only (sym acts.alone) in
        let stands = prefix_on (c.until ++ c.entry ∷ []) more chosen c.stands two in
        let until_chosen = prefix_on c.until (c.until ++ c.entry ∷ []) chosen (prefix_more c.until c.entry) stands in
        let until_more = prefix_on c.until (c.until ++ c.entry ∷ []) more (prefix_more c.until c.entry) c.stands in
        let lives = alive_on setting chosen firm.plain c.until more cell until_more two alive in
        let told = started c.until was.map was.link acts.holder acts.inc (other_of acts.holder was) acts.other_inc
        (subst (λ (x : Command). IsPrefix (c.until ++ x ∷ []) chosen) acts.is stands) in
        let mind = good.started acts.holder acts.inc acts.whole c.until cell was until_chosen c.was lives acts.alone acts.holds told in
        let copying = (good.alone c.until cell was acts.holder acts.whole until_chosen c.was acts.alone).copying in
        let caught = copying.caught mind.0 mind.1 mind.2 in
        record {
          until = c.until;
          following = c.following;
          before = until_more;
          row = was;
          linked = c.was;
          later = still.later;
          alone = refl;
          kept = still.kept;
          own = mind.0;
          visited = subst (λ n. good.visits n (place_by setting c.until was) cell ≡ Some mind.0) holder_is mind.1;
          flagged = mind.2;
          caught = caught;
          met = subst (λ n. is_some (good.visits (other_of n was) (place_by setting c.until was) cell) ≡ true) holder_is
              (copying.met mind.0 mind.1 (inl caught.paged));
        }

    -- at each later prefix its holder has it alone still, or it is Lost, or the holder was done with it before it was in Both again
    pub alone_since : (prefix more : List Command) (cell : Cell) (row now : LinkRow) (holder : ℕ) (whole : Bool) → IsPrefix prefix more → IsPrefix more chosen
        → IsLinked setting prefix cell row → row.state ≡ Only holder whole → IsLinked setting more cell now → AliveIn (state_after setting.servers more) cell
        → IsHeldStill holder whole now.state ⊎ (now.state ≡ Lost) ⊎ IsCaughtUp prefix more cell holder whole
    alone_since prefix more cell row now holder whole one two is alone end alive =
        elim (log_alone setting.servers prefix more (plain_at more two) one cell row now holder whole is alone end) [
          | inl same ↦ inl same
          | inr (inl lost) ↦ inr (inl lost.0)
          | inr (inr c) ↦ inr (inr (caught_up prefix more cell row holder whole two alive c))
        ]

    -- the holder started its ballot at a place at which the other server was
    not_later : (prefix more : List Command) (cell : Cell) (row : LinkRow) (holder : ℕ) (whole : Bool) → IsPrefix prefix chosen → IsPrefix more chosen
        → IsLinked setting prefix cell row → (u : IsCaughtUp prefix more cell holder whole)
        → ((place : ℕ) → place_by setting prefix row < place → good.visits (other_of holder row) place cell ≡ None)
        → place_by setting u.until u.row ≡ place_by setting prefix row
    not_later prefix more cell row holder whole one two is u unseen =
        let until_chosen = prefix_on u.until more chosen u.before two in
        let up = places_up setting chosen firm.plain prefix u.until cell row u.row u.following until_chosen is u.linked in
        elim (at_most_or_above (place_by setting u.until u.row) (place_by setting prefix row)) [
          | inl le ↦ omega arith
          | inr lt ↦ (
              let so = rows_later setting chosen firm.plain prefix u.until cell row u.row u.following until_chosen is u.linked in
              true_false u.met (ap is_some (ap (λ n. good.visits n (place_by setting u.until u.row) cell) (other_later row u.row holder so)
              ∙ unseen (place_by setting u.until u.row) lt)))
        ]

    -- where the other server was at no later place, the holder was done with it at this one
    pub alone_or_flagged : (prefix more : List Command) (cell : Cell) (row now : LinkRow) (holder : ℕ) (whole : Bool)
        → IsPrefix prefix more → IsPrefix more chosen
        → IsLinked setting prefix cell row → row.state ≡ Only holder whole → IsLinked setting more cell now → AliveIn (state_after setting.servers more) cell
        → ((place : ℕ) → place_by setting prefix row < place → good.visits (other_of holder row) place cell ≡ None)
        → IsHeldStill holder whole now.state ⊎ (now.state ≡ Lost)
        ⊎ ((own : PairState) × (good.visits holder (place_by setting prefix row) cell ≡ Some own) × (is_flagged own (id_of row) ≡ true))
    alone_or_flagged prefix more cell row now holder whole one two is alone end alive unseen =
        elim (alone_since prefix more cell row now holder whole one two is alone end alive) [
          | inl same ↦ inl same
          | inr (inl lost) ↦ inr (inl lost)
          | inr (inr u) ↦ (
              let one_chosen = prefix_on prefix more chosen one two in
              let until_chosen = prefix_on u.until more chosen u.before two in
              let same = not_later prefix more cell row holder whole one_chosen two is u unseen in
              let same_row = one_row setting chosen firm.plain prefix u.until cell row u.row one_chosen until_chosen is u.linked (sym same) in
              inr (inr (
                u.own,
                subst (λ place. good.visits holder place cell ≡ Some u.own) same u.visited,
                ap (λ (r : LinkRow). is_flagged u.own (id_of r)) (sym same_row) ∙ u.flagged,
              )))
        ]

  -- ### What a server that is at its own place may rely on

  module _ (k : ℕ) (runs : (w.servers k).life.running ≡ true) (seat : is_in (server_state setting w k) k (w.servers k).life.inc ≡ true)
      (cell : Cell) (row : LinkRow) (is : IsLinked setting (own_prefix k) cell row) where
    -- a link in Both where nobody is In than before is at its place
    still_both : (more : List Command) (now : LinkRow) → row.state ≡ Both → IsPrefix (own_prefix k) more → IsPrefix more chosen
        → StaysSo cell row (server_state setting w k) (state_after setting.servers more) → IsLinked setting more cell now
        → place_by setting more now ≡ place_by setting (own_prefix k) row
    still_both more now both one two stays end =
        elim ((steady_at (own_prefix k) (firm.servers k)).linked cell row is).served [
          | ByBoth so first second ↦ (
              let inc = up_some (server_state setting w k) row.primary first in
              let other = up_some (server_state setting w k) row.secondary second in
              ap (place_by setting more) (same_some (sym end ∙ stays.same))
              ∙ log_both_place setting.servers (own_prefix k) more (plain_at more two) one cell row inc.0 other.0 is both inc.1 other.1
              (ap (λ o. option_map_or (λ present. present == inc.0) o false) stays.primary ∙ inc.1)
              (ap (λ o. option_map_or (λ present. present == other.0) o false) stays.secondary ∙ other.1))
          | ByOne holder other whole so pair out ↦ alone_not_both row holder so both
          | ByNone one other so pair out ↦ lost_not_both row so both
        ]

    -- a link in Both is at the same place at each later prefix, or the server holds it alone
    pub both_since : row.state ≡ Both → has_server k row ≡ true → (more : List Command) (now : LinkRow) → IsPrefix (own_prefix k) more → IsPrefix more chosen
        → IsLinked setting more cell now → AliveIn (state_after setting.servers more) cell
        → (place_by setting more now ≡ place_by setting (own_prefix k) row) ⊎ ((whole : Bool) × (now.state ≡ Only k whole))
    both_since both has more now one two end alive =
        elim (stays_both (running_prefixes firm k runs (prefix_itself (own_prefix k)) one two seat) cell row is has
        (ap (serves k row) both ∙ has) alive both) [
          | inl stays ↦ inl (still_both more now both one two stays end)
          | inr alone ↦ inr (only_holder (state_after setting.servers more) k cell now end alone)
        ]

    -- at each later prefix the link is at this place, or the server holds it alone, or this is so
    abbrev pub IsSince : Type 0 → Type 0
    IsSince B = (more : List Command) (now : LinkRow) → IsPrefix (own_prefix k) more → IsPrefix more chosen → IsLinked setting more cell now
        → AliveIn (state_after setting.servers more) cell
        → (place_by setting more now ≡ place_by setting (own_prefix k) row) ⊎ ((whole : Bool) × (now.state ≡ Only k whole)) ⊎ B

    pub both_still : row.state ≡ Both → has_server k row ≡ true → IsSince ⊥
    both_still both has more now one two end alive =
        elim (both_since both has more now one two end alive) [ inl same ↦ inl same | inr alone ↦ inr (inl alone) ]

    -- no server that serves the link has been at a later place then
    last_by : {B : Type 0} → IsSince B → (good.reached cell ≤ place_by setting (own_prefix k) row) ⊎ B
    last_by since = elim (good.reaching.by cell) [
      | inl none ↦ inl (omega (arith, none))
      | inr r ↦ elim (prefixes_meet r.prefix (own_prefix k) chosen r.is_prefix (firm.servers k)) [
        | inl p ↦ (
            let up = places_up setting chosen firm.plain r.prefix (own_prefix k) cell r.row row p (firm.servers k) r.linked is in
            let at = r.at in
            inl (omega arith))
        | inr p ↦ elim (since r.prefix r.row p r.is_prefix r.linked r.alive) [
          | inl same ↦ let at = r.at in inl (omega arith)
          | inr (inl alone) ↦ inl (been_below k (good.reached cell) cell r.own row
              (subst (λ n. good.visits n (good.reached cell) cell ≡ Some r.own) (serves_alone k r.server r.row alone.1 r.serving) r.visited) is)
          | inr (inr other) ↦ inr other
        ]
      ]
    ]

    pub both_last : row.state ≡ Both → has_server k row ≡ true → good.reached cell ≤ place_by setting (own_prefix k) row
    both_last both has = elim (last_by (both_still both has)) [ inl le ↦ le | inr never ↦ absurd never ]

    -- a letter that the server handles at a link in Both tells what is so at the link's place
    pub heard_there : row.state ≡ Both → has_server k row ≡ true → AliveIn (chosen_state setting w) cell → (said : Body) → Handled w k said
        → (about said).cell ≡ Some cell
        → Known (pair_at (store_by setting good.stores (own_prefix k)) good.visits (place_by setting (own_prefix k) row) cell row.primary row.secondary) said
    heard_there both has alive said h =
        let of = (good.letters h.letter h.sent (own_prefix k) cell row (firm.servers k) (sym h.at) is
        (alive_on setting chosen firm.plain (own_prefix k) chosen cell (firm.servers k) (prefix_itself chosen) alive)).both alive both (both_last both has) in
        subst (λ (b : Body). (about b).cell ≡ Some cell
        → Known (pair_at (store_by setting good.stores (own_prefix k)) good.visits (place_by setting (own_prefix k) row) cell row.primary row.secondary) b)
        h.is of

    module _ (started : AllStarted setting records w) where
      -- one that the server holds alone it holds so still, or it was done with it
      pub holds_since : (whole : Bool) → row.state ≡ Only k whole → (more : List Command) (now : LinkRow) → IsPrefix (own_prefix k) more → IsPrefix more chosen
          → IsLinked setting more cell now → AliveIn (state_after setting.servers more) cell
          → IsHeldStill k whole now.state ⊎ (is_flagged (w.servers k).own (id_of row) ≡ true)
      holds_since whole alone more now one two end alive =
          let has = holder_is_one (server_state setting w k) (steady_at (own_prefix k) (firm.servers k)) k cell row is alone in
          elim (stays_alone (running_prefixes firm k runs (prefix_itself (own_prefix k)) one two seat) cell row is has
          (serves_its k row alone) alive whole alone) [
            | inl on ↦ elim (alone_since started (own_prefix k) more cell row now k whole one two is alone end alive) [
              | inl same ↦ inl same
              | inr (inl lost) ↦ alone_not_lost now k (only_holder (state_after setting.servers more) k cell now end on).1 lost
              | inr (inr u) ↦ (
                  let until_chosen = prefix_on u.until more chosen u.before two in
                  let up = places_up setting chosen firm.plain (own_prefix k) u.until cell row u.row u.following until_chosen is u.linked in
                  let most = been_below k (place_by setting u.until u.row) cell u.own row u.visited is in
                  let same : place_by setting u.until u.row ≡ place_by setting (own_prefix k) row = omega arith in
                  let one_is : u.row ≡ row =
                  one_row setting chosen firm.plain (own_prefix k) u.until cell row u.row (firm.servers k) until_chosen is u.linked (sym same) in
                  let here = good.here k cell row is seat (alive_on setting chosen firm.plain (own_prefix k) more cell one two alive) in
                  let mine : u.own ≡ here.own = same_some (sym u.visited ∙ ap (λ p. good.visits k p cell) same ∙ here.is) in
                  inr (ap (λ (o : PairState). is_flagged o (id_of row)) (sym here.same ∙ sym mine)
                  ∙ ap (λ (r : LinkRow). is_flagged u.own (id_of r)) (sym one_is) ∙ u.flagged))
            ]
            | inr own ↦ inr (sym (held_as_flag (server_state setting w k) (w.servers k).own cell row is) ∙ own.proposed)
          ]

      pub held_still : (whole : Bool) → row.state ≡ Only k whole → IsSince (is_flagged (w.servers k).own (id_of row) ≡ true)
      held_still whole alone more now one two end alive = elim (holds_since whole alone more now one two end alive) [
        | inl still ↦ inr (inl (still.0, still.1))
        | inr flagged ↦ inr (inr flagged)
      ]

      pub alone_last : (whole : Bool) → row.state ≡ Only k whole
          → (good.reached cell ≤ place_by setting (own_prefix k) row) ⊎ (is_flagged (w.servers k).own (id_of row) ≡ true)
      alone_last whole alone = last_by (held_still whole alone)
