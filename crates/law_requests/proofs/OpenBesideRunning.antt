-- Where the request of an operation is open still beside a server that runs: that one has the cell's link in Both by its own state, at
-- the place up to which the operation's incarnation is known to have led the cell, and the cell has not been left by what is chosen. That
-- incarnation may have stopped, and be forgotten.
use Rattle.law_requests.proofs.Imports.{◌<◌, ◌∙◌, ◌≡◌, ◌≤◌, ◌⊎◌, Both, Command, Firm, IsPrefix, IsSteady, LinkRow, List, Setting, Some, State, StaysSo}
use Rattle.law_requests.proofs.Imports.{Wanted, World, ap, arith, both_not_alone, cell_link, chosen_log, chosen_state, has_server, in_up, inl, inr}
use Rattle.law_requests.proofs.Imports.{is_alone_on, is_in, is_the_one, log_below, log_steady, none_some, places_from, places_grow, prefix_itself, prefix_on}
use Rattle.law_requests.proofs.Imports.{prefix_plain, running_prefixes, runs_at, same_place, server_state, serves, so_both, stage_at, start, state_after}
use Rattle.law_requests.proofs.Imports.{stays_both, subst, sym, true, true_false, ℕ}
use Rattle.law_requests.specs.AskedRequests.{IsOpen}
use Rattle.law_requests.specs.KnownRequests.{Lives, seen, LedBy, IsLate, Is_past, Had_no_lead, Had_another, PendingFor}
use Rattle.law_requests.proofs.RequestsKnownLater.{either_prefix, one_log}
use Rattle.law_requests.proofs.LeadsAtTwoPlaces.{Takes, alone_leads, leader_alone, led_at_place, led_while, one_lead, takes_later}
use Rattle.law_requests.proofs.OpenWhileRunning.{open_or, upto_chosen}

-- the request, and the server beside it
pub record IsBeside (setting : Setting) (w : World) (lives : Lives) : Type 0 where
  pub n : ℕ
  pub inc : ℕ
  pub want : Wanted
  pub rev : ℕ
  pub p : PendingFor setting (seen lives w) n inc want rev
  pub m : ℕ
  pub runs : (w.servers m).life.running ≡ true
  pub seat : is_in (server_state setting w m) m (w.servers m).life.inc ≡ true
  pub row : LinkRow
  pub there : cell_link (server_state setting w m) want.cell ≡ Some row
  pub has : has_server m row ≡ true
  pub both : row.state ≡ Both
  pub known : cell_link (state_after setting.servers p.upto) want.cell ≡ Some row
  pub place : places_from (start setting.servers) (w.servers m).log.applied row ≡ places_from (start setting.servers) p.upto row
  pub most : stage_at (chosen_state setting w) want.cell ≤ 2

module _ (setting : Setting) (w : World) (firm : Firm setting w) (lives : Lives) (it : IsBeside setting w lives) where
  open it use {n, inc, want, rev, p, m, runs, seat, row, there, has, both, known, place}

  abbrev own : List Command
  own = (w.servers m).log.applied

  abbrev chosen : List Command
  chosen = chosen_log setting w

  abbrev prefix : List Command
  prefix = p.known.sent.at.prefix

  abbrev At : List Command → State
  At log = state_after setting.servers log

  abbrev Led : List Command → Type 0
  Led log = LedBy (At log) n inc want.cell

  steady_at : (log : List Command) → IsPrefix log chosen → IsSteady (At log)
  steady_at log all = log_steady setting.servers log (prefix_plain setting.servers log _ firm.plain all)

  upto_all : IsPrefix p.upto chosen
  upto_all = upto_chosen setting w firm lives n inc want rev p

  upto_led : Led p.upto
  upto_led = p.along p.upto p.opened (prefix_itself p.upto)

  -- the cell takes writes by each prefix from the opening on
  unleft : (log : List Command) → IsPrefix log chosen → stage_at (At log) want.cell ≤ 2
  unleft log all = let up = (log_below setting.servers log chosen firm.plain all).stages want.cell in omega arith

  takes_on : (log : List Command) → IsPrefix prefix log → IsPrefix log chosen → Takes (At log) want.cell
  takes_on log more all = takes_later setting.servers prefix log (prefix_plain setting.servers log _ firm.plain all) more n want.cell
      (p.along prefix (prefix_itself prefix) p.opened).leads (unleft log all)

  -- from the place of both on the incarnation leads, while the link stays so
  led_on : (log : List Command) → IsPrefix p.upto log → IsPrefix log chosen → StaysSo want.cell row (At own) (At log) → Led log
  led_on log late all stays = elim (either_prefix own p.upto chosen (firm.servers m) upto_all) [
    | inl before ↦
        elim (same_place setting.servers own p.upto want.cell row (prefix_plain setting.servers p.upto _ firm.plain upto_all) before there (sym place)) [
          | inl same ↦ led_while (At p.upto) (At log) (steady_at p.upto upto_all) (steady_at log all) want.cell row known
              (record {
                same = stays.same;
                primary = stays.primary ∙ sym same.primary;
                secondary = stays.secondary ∙ sym same.secondary;
              }) takes n inc upto_led
          | inr died ↦ let e = died.1 in let le = unleft p.upto upto_all in absurd (omega arith)
        ]
    | inr on ↦
        led_while (At own) (At log) (steady_at own (firm.servers m)) (steady_at log all) want.cell row there stays takes n inc
        (led_at_place setting.servers p.upto own (prefix_plain setting.servers own _ firm.plain (firm.servers m)) on n inc want.cell row known place
        (unleft own (firm.servers m)) upto_led)
  ]
    where
      takes : Takes (At log) want.cell
      takes = takes_on log (prefix_on prefix p.upto log p.opened late) all

  -- the other server holds the link alone by these entries, after its own
  record IsLeftTo (log : List Command) : Type 0 where
    following : IsPrefix own log
    alone : is_alone_on (At log) m want.cell ≡ true

  -- from the opening on the incarnation leads the cell, until that
  leads_or_left : (log : List Command) → IsPrefix prefix log → IsPrefix log chosen → Led log ⊎ IsLeftTo log
  leads_or_left log more all = elim (either_prefix log p.upto chosen all upto_all) [
    | inl early ↦ inl (p.along log more early)
    | inr late ↦ elim (either_prefix log own chosen all (firm.servers m)) [
      | inl before ↦ (
          let one = places_grow setting.servers p.upto log row late in
          let two = places_grow setting.servers log own row before in
          inl (led_at_place setting.servers p.upto log (prefix_plain setting.servers log _ firm.plain all) late n inc want.cell row known
          (omega arith) (unleft log all) upto_led))
      | inr following ↦ elim (stays_both (running_prefixes firm m runs (prefix_itself own) following all seat) want.cell row there has
          (ap (serves m row) both ∙ has) (below_four log all) both) [
            | inl stays ↦ inl (led_on log late all stays)
            | inr alone ↦ inr (record { following = following; alone = alone })
          ]
    ]
  ]
    where
      below_four : (log : List Command) → IsPrefix log chosen → stage_at (At log) want.cell < 4
      below_four log all = let le = unleft log all in omega arith

  not_late : IsLate setting.servers (seen lives w) prefix want.client want.seq want.cell n inc → ⊥
  not_late (Is_past lt) = let u = p.unfinished in omega arith
  not_late (Had_no_lead log more lies none) =
      let all = prefix_on log _ chosen lies (firm.clients want.client) in
      elim (leads_or_left log more all) [
        | inl led ↦ none_some none (is_the_one _ n led.leads)
        | inr left ↦ none_some none (alone_leads (At log) m want.cell (takes_on log more all) left.alone
            (in_up (At log) m (w.servers m).life.inc (runs_at setting w firm own log left.following all m runs seat)))
      ]
  not_late (Had_another log other more lies leads apart) =
      let all = prefix_on log _ chosen lies (firm.servers other) in
      elim (leads_or_left log more all) [
        | inl led ↦ true_false led.seated (apart (one_lead (At log) other n want.cell leads led.leads))
        | inr left ↦ (
            let other_is : other ≡ m = leader_alone (At log) (steady_at log all) other m want.cell leads left.alone in
            let same : log ≡ own = one_log log own (subst (λ k. IsPrefix log (w.servers k).log.applied) other_is lies) left.following in
            true_false (subst (λ l. is_alone_on (At l) m want.cell ≡ true) same left.alone)
            (both_not_alone (At own) m want.cell (so_both (At own) want.cell row there both)))
      ]

  pub open_beside : IsOpen (w.clients want.client) want.seq
  open_beside = open_or setting w firm lives n inc want rev p not_late
