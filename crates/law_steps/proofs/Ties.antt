-- What ties a server that runs to what is chosen: a Caught of its own stands at most after its last entry.
use Rattle.law_steps.proofs.Imports.{[], ◌++◌, ◌<◌, ◌∙◌, ◌∷◌, ◌≡◌, Bool, Both, ByBoth, ByNone, ByOne, Cell, Command, Firm, HasLater, HasStarted, IsCaughtIn}
use Rattle.law_steps.proofs.Imports.{IsPrefix, LinkRow, List, Only, Setting, Some, State, StaysSo, World, ap, arith, cell_link, chosen_log, has_proposed}
use Rattle.law_steps.proofs.Imports.{has_server, id_of, in_once, inl, inr, is_alone_on, is_in, length, log_below, log_both, log_steady, none_some, one_prefix}
use Rattle.law_steps.proofs.Imports.{other_of, places_from, prefix_long, prefix_more, prefix_on, prefix_plain, same_numbers, same_place, same_some}
use Rattle.law_steps.proofs.Imports.{server_state, serves, so_alone, stage_at, state_after, subst, sym, true, true_false, ℕ}
use Rattle.spec_state.specs.State.{start}
use Rattle.law_state.proofs.GrownStates.{alone_not_both}
use Rattle.law_steps.specs.Ties.{StaysAloneOrCaught, StaysInBoth}
use Rattle.law_steps.proofs.KindsInHistories.{runs_at}
use Rattle.law_steps.proofs.HeldBackForCaughts.{held_as_flag}

-- a server that runs, and two prefixes of what is chosen that go on from its own entries; by the first one it is In as itself
pub record RunningPrefixes : Type 0 where
  pub setting : Setting
  pub w : World
  pub firm : Firm setting w
  pub n : ℕ
  pub runs : (w.servers n).life.running ≡ true
  pub prefix : List Command
  pub more : List Command
  pub own : IsPrefix (w.servers n).log.applied prefix
  pub is_prefix : IsPrefix prefix more
  pub chosen : IsPrefix more (chosen_log setting w)
  pub seat : is_in (state_after setting.servers prefix) n (w.servers n).life.inc ≡ true

abbrev pub running_prefixes : {setting : Setting} {w : World} → Firm setting w → (n : ℕ) → (w.servers n).life.running ≡ true → {prefix more : List Command}
    → IsPrefix (w.servers n).log.applied prefix → IsPrefix prefix more → IsPrefix more (chosen_log setting w)
    → is_in (state_after setting.servers prefix) n (w.servers n).life.inc ≡ true → RunningPrefixes
running_prefixes {setting} {w} firm n runs {prefix} {more} own is_prefix chosen seat = record {
  setting = setting;
  w = w;
  firm = firm;
  n = n;
  runs = runs;
  prefix = prefix;
  more = more;
  own = own;
  is_prefix = is_prefix;
  chosen = chosen;
  seat = seat;
}

module _ (it : RunningPrefixes) (cell : Cell) (row : LinkRow) (is : cell_link (state_after it.setting.servers it.prefix) cell ≡ Some row)
    (has : has_server it.n row ≡ true) (serving : serves it.n row row.state ≡ true)
    (under : stage_at (state_after it.setting.servers it.more) cell < 4) where
  open it use {setting, w, firm, n, runs, prefix, more, own, is_prefix, chosen, seat}

  abbrev earlier : State
  earlier = state_after setting.servers prefix

  abbrev later : State
  later = state_after setting.servers more

  -- a Caught after these entries, of a link that the server serves, is its own, and stands after its last entry
  record IsOwn (found : LinkRow) (c : IsCaughtIn setting.servers prefix more cell found) : Type 0 where
    whole : Bool
    mine : found.state ≡ Only n whole
    at : c.until ≡ prefix
    own_at : prefix ≡ (w.servers n).log.applied
    started : has_proposed (server_state setting w n) (w.servers n).own cell ≡ true

  own_caught : (found : LinkRow) (c : IsCaughtIn setting.servers prefix more cell found) → IsOwn found c
  own_caught found c =
      let acts = c.acts in
      let stands = prefix_on (c.until ++ c.entry ∷ []) more (chosen_log setting w) c.stands chosen in
      let until_chosen = prefix_on c.until _ _ (prefix_more c.until c.entry) stands in
      let prefix_chosen = prefix_on prefix more _ is_prefix chosen in
      let seated_then = runs_at setting w firm prefix c.until c.following until_chosen n runs seat in
      let h : HasLater earlier (state_after setting.servers c.until) cell row =
      elim ((log_below setting.servers prefix c.until (prefix_plain setting.servers c.until _ firm.plain until_chosen) c.following).rows cell row is) [
        | inl on ↦ on
        | inr died ↦ none_some died.0 c.was
      ] in
      let same_row : h.now ≡ found = same_some (sym h.is ∙ c.was) in
      let holds = h.on n (w.servers n).life.inc has serving seat seated_then in
      let holder : acts.holder ≡ n =
      same_numbers acts.holder n (sym (ap (serves n found) acts.alone) ∙ sym (ap (λ (r : LinkRow). serves n r r.state) same_row) ∙ holds) in
      let inc_is : acts.inc ≡ (w.servers n).life.inc =
      in_once (state_after setting.servers c.until) n acts.inc (w.servers n).life.inc
      (subst (λ k. is_in (state_after setting.servers c.until) k acts.inc ≡ true) holder acts.holds) seated_then in
      let told = firm.started c.until found.map found.link acts.holder acts.inc (other_of acts.holder found) acts.other_inc
      (subst (λ (x : Command). IsPrefix (c.until ++ x ∷ []) (chosen_log setting w)) acts.is stands) in
      elim (subst (λ k. HasStarted w.servers k acts.inc (length c.until) (id_of found)) holder told) [
        | inl past ↦ absurd (omega (arith, inc_is))
        | inr flag ↦ (
            let reached = flag.1.reached in
            let one = prefix_long (w.servers n).log.applied prefix own in
            let two = prefix_long prefix c.until c.following in
            let at : c.until ≡ prefix = one_prefix c.until prefix (chosen_log setting w) until_chosen prefix_chosen (omega arith) in
            let own_at : prefix ≡ (w.servers n).log.applied =
            one_prefix prefix (w.servers n).log.applied (chosen_log setting w) prefix_chosen (firm.servers n) (omega arith) in
            let there : cell_link (server_state setting w n) cell ≡ Some found =
            ap (λ log. cell_link (state_after setting.servers log) cell) (sym own_at)
            ∙ ap (λ log. cell_link (state_after setting.servers log) cell) (sym at) ∙ c.was in
            record {
              whole = acts.whole;
              mine = acts.alone ∙ ap (λ k. Only k acts.whole) holder;
              at = at;
              own_at = own_at;
              started = held_as_flag (server_state setting w n) (w.servers n).own cell found there ∙ flag.1.flagged (omega arith);
            })
      ]

  -- the later row: in Both, or the server holds it alone
  by_later : {B : Type 0} → ((now : LinkRow) → cell_link later cell ≡ Some now → now.state ≡ Both → B) → (is_alone_on later n cell ≡ true → B) → B
  by_later both alone =
      let plain = prefix_plain setting.servers more _ firm.plain chosen in
      let h : HasLater earlier later cell row = elim ((log_below setting.servers prefix more plain is_prefix).rows cell row is) [
        | inl on ↦ on
        | inr died ↦ (let retired = died.1 in absurd (omega (arith, under)))
      ] in
      let on = h.on n (w.servers n).life.inc has serving seat (runs_at setting w firm prefix more is_prefix chosen n runs seat) in
      elim ((log_steady setting.servers more plain).linked cell h.now h.is).served [
        | ByBoth so one other ↦ both h.now h.is so
        | ByOne holder other whole so pair out ↦
            alone (so_alone later n cell h.now whole h.is (so ∙ ap (λ k. Only k whole) (same_numbers holder n (sym (ap (serves n h.now) so) ∙ on))))
        | ByNone one other so pair out ↦ true_false on (ap (serves n h.now) so)
      ]

  -- the same place of a link that is still there
  at_place : places_from (start setting.servers) more row ≡ places_from (start setting.servers) prefix row → (now : LinkRow) → cell_link later cell ≡ Some now
      → StaysSo cell row earlier later
  at_place same now there = elim (same_place setting.servers prefix more cell row (prefix_plain setting.servers more _ firm.plain chosen) is_prefix is same) [
    | inl so ↦ so
    | inr died ↦ none_some died.0 there
  ]

  pub stays_both : row.state ≡ Both → StaysInBoth setting n prefix more cell row
  stays_both both = by_later
      (λ now there so.
      elim (log_both setting.servers prefix more (prefix_plain setting.servers more _ firm.plain chosen) is_prefix cell row now is there so) [
        | inl same ↦ inl (at_place same now there)
        | inr c ↦ (
            let own_one = own_caught c.row c.found in
            let again : row ≡ c.row = same_some (sym is ∙ ap (λ log. cell_link (state_after setting.servers log) cell) (sym own_one.at) ∙ c.found.was) in
            alone_not_both c.row n own_one.mine (ap (λ (r : LinkRow). r.state) (sym again) ∙ both))
      ])
      (λ alone. inr alone)

  pub stays_alone : (whole : Bool) → row.state ≡ Only n whole → StaysAloneOrCaught setting w n prefix more cell
  stays_alone whole only = by_later
      (λ now there so.
      elim (log_both setting.servers prefix more (prefix_plain setting.servers more _ firm.plain chosen) is_prefix cell row now is there so) [
        | inl same ↦ (
            let stays = at_place same now there in
            alone_not_both row n only (ap (λ (r : LinkRow). r.state) (same_some (sym stays.same ∙ there)) ∙ so))
        | inr c ↦ (
            let own_one = own_caught c.row c.found in
            inr (record {
              at = own_one.own_at;
              proposed = own_one.started;
              now = now;
              both = so;
              since = subst (λ log. StaysSo cell now (state_after setting.servers log) later) own_one.at c.since;
            }))
      ])
      (λ alone. inl alone)
