-- A client's write that a second server can still put is in time. Where its link was touched after its own entries, that was by a Leave, after
-- which the era rises only once the second server has reported; and it has applied no more than its own entries.
use Rattle.law_epochs.proofs.Imports.{[], ◌++◌, ◌∙◌, ◌∷◌, ◌≡◌, ◌≤◌, At, Both, By_caught, By_join, By_leave, Cell, Command, Firm, IsLinked, IsPrefix}
use Rattle.law_epochs.proofs.Imports.{IsTouchedBy, Leave, LinkRow, List, Pending, Record, Setting, World, after, alone_not_both, ap, append_assoc, arith}
use Rattle.law_epochs.proofs.Imports.{at_most_or_above, chosen_log, era_at, fold-append, inl, inr, is_in, is_up_as, length, length-append, log_epochs}
use Rattle.law_epochs.proofs.Imports.{log_left, log_touched, place_by, place_of_later, place_touched, places_from, places_grow, places_of_both, places_on}
use Rattle.law_epochs.proofs.Imports.{prefix_itself, prefix_long, prefix_more, prefix_on, prefix_within, refl, report_was_made, runs_at, runs_now}
use Rattle.law_epochs.proofs.Imports.{same_or_apart, same_place, server_state, stands_in, subst, sym, touches, true, ℕ}
use Rattle.spec_state.specs.State.{start}
use Rattle.law_epochs.specs.InTime.{IsTimely}
use Rattle.law_epochs.proofs.FirstNewPlace.{IsFirst, first_touch}
use Rattle.law_epochs.proofs.PendingIsInTime.{chosen_plain, firm}
use Rattle.law_epochs.proofs.ReportedHaveNoPending.{grows}
use Rattle.law_epochs.proofs.PendingAtPlacesInTime.{HadWrite, timely_known}
use Rattle.law_epochs.proofs.InTimeStays.{on_time}
use Rattle.law_epochs.proofs.EpochScenes.{Run, end_of}

-- the server, and a prefix at the place that is no shorter than the operation's revision
pub record IsToPut (setting : Setting) (records : List Record) (w : World) (m : ℕ) : Type 0 where
  pub had : HadWrite setting records
  pub row : LinkRow
  pub runs : (w.servers m).life.running ≡ true
  pub seat : is_in (server_state setting w m) m (w.servers m).life.inc ≡ true
  pub linked : IsLinked setting (w.servers m).log.applied had.cell row
  pub both : row.state ≡ Both
  pub at_own : place_by setting (w.servers m).log.applied row ≡ had.place
  pub prefix : List Command
  pub now : LinkRow
  pub lies : IsPrefix prefix (chosen_log setting w)
  pub linked_now : IsLinked setting prefix had.cell now
  pub at_place : place_by setting prefix now ≡ place_by setting (w.servers m).log.applied row
  pub le : had.op.rev ≤ length prefix

module _ (it : Run) (m : ℕ) where
  open it use {script, sound, records, legal}
  open end_of it use {setting, w, chosen, By}

  abbrev own : List Command
  own = (w.servers m).log.applied

  abbrev inc : ℕ
  inc = (w.servers m).life.inc

  known : Firm setting w
  known = firm script sound records legal

  own_chosen : IsPrefix own chosen
  own_chosen = known.servers m

  -- after a Leave that the server, which runs, doesn't know of yet the era doesn't rise
  module _ (runs : (w.servers m).life.running ≡ true) (seat : is_in (server_state setting w m) m inc ≡ true) (mid : List Command) (onward : IsPrefix own mid)
      (other other_inc : ℕ) (stands : IsPrefix (mid ++ Leave other other_inc ∷ []) chosen) (up : is_up_as (By mid) other other_inc ≡ true) where
    abbrev left : List Command
    left = mid ++ Leave other other_inc ∷ []

    pub still_timely : (cell : Cell) (op : Pending) → IsTimely script.servers mid cell op → IsTimely script.servers chosen cell op
    still_timely cell op timely =
        let mid_chosen = prefix_on mid left chosen (prefix_more mid (Leave other other_inc)) stands in
        let le = log_epochs script.servers mid chosen cell known.plain mid_chosen in
        elim (same_or_apart (era_at (By chosen) cell) (era_at (By mid) cell)) [
          | inl same ↦ on_time script.servers mid chosen cell known.plain mid_chosen op timely same
          | inr ne ↦ (
              let own_left = prefix_on own mid left onward (prefix_more mid (Leave other other_inc)) in
              let reported = log_left script.servers mid chosen m inc other other_inc cell known.plain stands up
              (runs_at setting w known own left own_left stands m runs seat) (runs_now setting w known m runs seat) timely.born timely.stays (omega arith) in
              let made = report_was_made script records sound legal reported.until m inc reported.fence reported.stands in
              let known_of : IsPrefix reported.until own =
              subst (λ log. IsPrefix log own) {x = ((At script made.before).servers m).log.applied} made.at
              (grows script sound records legal made.before (made.own ∷ made.later) made.is m) in
              let one = prefix_long left reported.until reported.following in
              let two = prefix_long reported.until own known_of in
              let three = prefix_long own mid onward in
              absurd (omega (arith, length-append mid (Leave other other_inc ∷ []))))
        ]

  module _ (s : IsToPut setting records w m) where
    open s use {row, had, runs, seat, linked, both, at_own, prefix, now, lies, linked_now, at_place, le, had.{cell, op}}

    -- at a prefix at the place that is no shorter
    timely_by : (log : List Command) → IsPrefix log chosen → place_by setting log row ≡ place_by setting own row → length prefix ≤ length log
        → IsTimely script.servers log cell op
    timely_by log log_chosen same long =
        timely_known it had own log row own_chosen linked log_chosen (same ∙ at_own)
        (let most = le in omega arith)

    module _ (more : 1 ≤ places_from (By own) own_chosen.later row) where
      first : IsFirst (By own) own_chosen.later row
      first = first_touch (By own) own_chosen.later row more

      abbrev mid : List Command
      mid = own ++ first.before

      onward : IsPrefix own mid
      onward = record { later = first.before; is = refl }

      stands : IsPrefix (mid ++ first.entry ∷ []) chosen
      stands = record {
        later = first.later;
        is = own_chosen.is ∙ ap (λ es. own ++ es) first.lies ∙ sym (append_assoc own first.before (first.entry ∷ first.later))
            ∙ sym (append_assoc mid (first.entry ∷ []) first.later);
      }

      mid_chosen : IsPrefix mid chosen
      mid_chosen = prefix_on mid (mid ++ first.entry ∷ []) chosen (prefix_more mid first.entry) stands

      same_mid : place_by setting mid row ≡ place_by setting own row
      same_mid = let e = places_on row (start script.servers) own first.before in let none = first.quiet in omega arith

      on_mid : touches (By mid) first.entry row ≡ true
      on_mid = ap (λ s. touches s first.entry row) (fold-append after (start script.servers) own first.before) ∙ first.on

      -- the prefix that is given is at the place, and so it is no longer
      not_longer : length prefix ≤ length mid
      not_longer = elim (at_most_or_above (length prefix) (length mid)) [
        | inl at_most ↦ at_most
        | inr above ↦ (
            let after_it = mid ++ first.entry ∷ [] in
            let on = prefix_within after_it prefix chosen stands lies (omega (arith, length-append mid (first.entry ∷ []))) in
            let up = places_grow script.servers after_it prefix row on in
            let next = place_touched setting mid first.entry row on_mid in
            let one_row = place_of_later setting chosen known.plain own prefix prefix cell row now
            (prefix_on own after_it prefix (prefix_on own mid after_it onward (prefix_more mid first.entry)) on) lies linked linked_now in
            let same = same_mid in
            let at_it = at_place in
            absurd (omega arith))
      ]

      timely_mid : IsTimely script.servers mid cell op
      timely_mid = timely_by mid mid_chosen same_mid not_longer

      linked_mid : IsLinked setting mid cell row
      linked_mid = elim (same_place script.servers own mid cell row (chosen_plain script sound records legal mid mid_chosen) onward linked same_mid) [
        | inl stays ↦ stays.same
        | inr died ↦ let two = timely_mid.stays in let four = died.1 in absurd (omega arith)
      ]

      touched : IsTouchedBy cell row (By mid) first.entry
      touched = log_touched script.servers mid first.entry cell row (chosen_plain script sound records legal mid mid_chosen)
          (known.plain first.entry (stands_in mid chosen first.entry stands)) linked_mid on_mid

      timely_since : IsTimely script.servers chosen cell op
      timely_since = by touched
        where
          by : IsTouchedBy cell row (By mid) first.entry → IsTimely script.servers chosen cell op
          by (By_leave gone there seats) =
              still_timely runs seat mid onward gone.server gone.inc (subst (λ c. IsPrefix (mid ++ c ∷ []) chosen) gone.is stands) gone.up cell op timely_mid
          by (By_join joined there apart seats) = absurd (apart both)
          by (By_caught acts stays) = alone_not_both row acts.holder acts.alone both

    pub timely_now : IsTimely script.servers chosen cell op
    timely_now =
        let e = places_of_both script.servers own chosen row own_chosen in
        elim (same_or_apart (place_by setting chosen row) (place_by setting own row)) [
          | inl same ↦ timely_by chosen (prefix_itself chosen) same (prefix_long prefix chosen lies)
          | inr ne ↦ timely_since (omega arith)
        ]
