-- Who serves a cell's link after a step has not come back with nothing in it: its store counts as it did, if what is chosen tells of no
-- other blank of it.
use Rattle.law_run.proofs.Imports.{[], ◌++◌, ◌∷◌, ◌≡◌, ◌≤◌, AliveIn, Bool, Cell, Command, HasJoinedSince, HasProperTuples, IsCaughtStill, IsLinked, IsPrefix}
use Rattle.law_run.proofs.Imports.{Join, LinkRow, List, Only, PairState, Some, Visits, alive_on, arith, chosen_state, has_server, id_of, inl, inr, is_flagged}
use Rattle.law_run.proofs.Imports.{other_of, place_by, place_of_later, place_touched, places_up, prefix_itself, prefix_more, prefix_on, serves, subst, true}
use Rattle.law_run.proofs.Imports.{true_false, ℕ}
use Rattle.law_run.proofs.BlankedServeNothing.{IsUncaught, more_joins, serves_none}
use Rattle.law_run.proofs.EventsOfServerSteps.{ServerStep, ends_of, joined_now, joined_then, logs_within}

module _ (this : ServerStep) where
  open ends_of this use {v, top, end}

  plain_end : HasProperTuples this.setting.servers end
  plain_end = this.next.firm.plain

  abbrev pub visits : Visits
  visits = this.onward.good.visits

  -- nobody has been at a place beyond those that were chosen before the step
  pub been_within : (n place : ℕ) (cell : Cell) (own : PairState) (row : LinkRow) → visits n place cell ≡ Some own
      → IsLinked this.setting top cell row
      → place ≤ place_by this.setting top row
  been_within n place cell own row e is =
      let b = this.onward.good.been n place cell own e in
      let within = prefix_on b.prefix (v.servers n).log.applied top b.within (logs_within this n) in
      let up = places_up this.setting top this.along.firm.plain b.prefix top cell b.row row within (prefix_itself top) b.linked is in
      let at = b.at in
      omega arith

  -- ### A Caught on the way

  -- a holder was where its Caught acts
  pub caught_visit : (prefix : List Command) (cell : Cell) (row : LinkRow) (holder : ℕ) (copied : Bool)
      → (c : IsCaughtStill this.setting.servers prefix end cell row holder copied) → AliveIn (chosen_state this.setting v) cell
      → (own : PairState) × (visits c.found.acts.holder
      (place_by this.setting c.found.until (record row { state = Only holder c.later })) cell ≡ Some own)
      × (is_flagged own (id_of (record row { state = Only holder c.later })) ≡ true)
  caught_visit prefix cell row holder copied c alive =
      let f = c.found in
      let acts = f.acts in
      let then : LinkRow = record row { state = Only holder c.later } in
      let told = this.onward.started f.until row.map row.link acts.holder acts.inc (other_of acts.holder then) acts.other_inc
      (subst (λ (x : Command). IsPrefix (f.until ++ x ∷ []) end) acts.is f.stands) in
      let until_end = prefix_on f.until (f.until ++ f.entry ∷ []) end (prefix_more f.until f.entry) f.stands in
      this.onward.good.started acts.holder acts.inc acts.whole f.until cell then until_end f.was
      (alive_on this.setting end plain_end f.until end cell until_end (prefix_itself end) alive) acts.alone acts.holds told

  -- none stands after a Join of the link's server
  uncaught : (cell : Cell) (link : LinkRow) → IsLinked this.setting top cell link → AliveIn (chosen_state this.setting v) cell → (n inc : ℕ)
      → (j : HasJoinedSince this.setting.servers top end n inc true) → IsUncaught this.setting.servers end plain_end cell top n inc j
  uncaught cell link is alive n inc j row mid there touched now holder copied c =
      let entry = Join n inc true in
      let following = j.until ++ entry ∷ [] in
      let f = c.found in
      let then : LinkRow = record mid { state = Only holder c.later } in
      let visit = caught_visit following cell mid holder copied c alive in
      let until_end = prefix_on j.until following end (prefix_more j.until entry) j.stands in
      let caught_end = prefix_on f.until (f.until ++ f.entry ∷ []) end (prefix_more f.until f.entry) f.stands in
      let le = been_within f.acts.holder (place_by this.setting f.until then) cell visit.0 link visit.1 is in
      let one = places_up this.setting end plain_end top j.until cell link row j.following until_end is there in
      let two = place_touched this.setting j.until entry row touched in
      let three = place_of_later this.setting end plain_end j.until following following cell row mid (prefix_more j.until entry) j.stands there now in
      let four = places_up this.setting end plain_end following f.until cell mid then f.following caught_end now f.was in
      absurd (omega arith)

  -- ### Who serves the link

  pub serving_same : (cell : Cell) (link now : LinkRow) (n : ℕ) → IsLinked this.setting top cell link → IsLinked this.setting end cell now
      → AliveIn (chosen_state this.setting v) cell → has_server n link ≡ true → serves n now now.state ≡ true
      → joined_now this n ≡ joined_then this n
  serving_same cell link now n is then alive has serving = elim (more_joins this.setting.servers n top end this.grows) [
    | inl same ↦ same
    | inr j ↦ true_false serving
        (serves_none this.setting.servers end plain_end cell top n j.0 j.1 (uncaught cell link is alive n j.0 j.1) link now is then has)
  ]
