-- Where the request of a pending operation is open still, also after its server has stopped: until the server runs again, nobody puts the
-- cell's link in Both again without it.
use Rattle.law_requests.proofs.Imports.{◌∙◌, ◌≡◌, ◌≤◌, Bool, Both, ByBoth, ByNone, ByOne, Cell, Command, Firm, HasLater, IsPrefix, IsRetired, IsServed}
use Rattle.law_requests.proofs.Imports.{IsSteady, LinkRow, List, Lost, None, Only, Setting, Some, State, Wanted, World, age_in, alone_left, alone_not_both}
use Rattle.law_requests.proofs.Imports.{alone_row, ap, arith, both_row, both_up, by_bool, cell_link, chosen_log, chosen_state, chosen_steady, false}
use Rattle.law_requests.proofs.Imports.{has_server, in_age, in_both, in_up, inl, inr, is_alone_on, is_in, is_lead, is_the_one, is_the_so, is_up, lead, led_by}
use Rattle.law_requests.proofs.Imports.{log_below, log_steady, lost_not_both, none_some, option_map, own_below, own_steady, prefix_itself, prefix_on}
use Rattle.law_requests.proofs.Imports.{prefix_plain, primary, same_or_apart, same_some, secondary, server_state, stage_at, state_after, subst, sym, true}
use Rattle.law_requests.proofs.Imports.{true_false, up_some, ℕ}
use Rattle.law_requests.specs.AskedRequests.{IsOpen}
use Rattle.law_requests.specs.KnownRequests.{Lives, seen, LedBy, IsLate, Is_past, Had_no_lead, Had_another}
use Rattle.law_requests.specs.OpenRequests.{NoOtherHolds, IsStill}
use Rattle.law_requests.proofs.RequestsKnownLater.{either_prefix}
use Rattle.law_requests.proofs.LeadsAtTwoPlaces.{HasOwnLink, held_out, held_while, leader_alone, led_stage, no_lead_on, one_lead, own_link, own_link_on}
use Rattle.law_requests.proofs.LeadsAtTwoPlaces.{takes_later}
use Rattle.law_requests.proofs.OpenWhileRunning.{PendingHere, RemembersCaughts, here_along, here_led, in_between, open_or, open_still}

-- whoever is In by a prefix of what is chosen is so with an incarnation that ran
abbrev pub HaveRun : Setting → World → Lives → Type 0
HaveRun setting w lives = (prefix : List Command) (n inc : ℕ) → IsPrefix prefix (chosen_log setting w)
    → is_in (state_after setting.servers prefix) n inc ≡ true
    → inc ≤ lives.ran n

-- a cell that has a link is not retired
linked_alive : (state : State) (cell : Cell) (row : LinkRow) → cell_link state cell ≡ Some row → IsRetired state cell → ⊥
linked_alive state cell row is died = none_some died.0 is

-- of two servers beside one of a cell's two, the other one alone may hold it
no_other_holds : (setting : Setting) (w : World) → Firm setting w → (n m : ℕ) (cell : Cell) → primary (chosen_state setting w) cell ≡ Some n
    → secondary (chosen_state setting w) cell ≡ Some m → is_alone_on (server_state setting w m) m cell ≡ false
    → NoOtherHolds setting w n cell
no_other_holds setting w firm n m cell one two apart other ne = by_bool (is_alone_on (server_state setting w other) other cell)
    (λ alone.
    let a = alone_row (server_state setting w other) other cell alone in
    let h : HasLater (server_state setting w other) (chosen_state setting w) cell a.row =
    elim ((own_below setting w firm other).rows cell a.row a.is) [
      | inl later ↦ later
      | inr died ↦ none_some (ap (option_map (λ (r : LinkRow). r.primary)) died.0) one
    ] in
    let first : primary (server_state setting w other) cell ≡ Some n =
    ap (option_map (λ (r : LinkRow). r.primary)) a.is ∙ ap Some (sym h.so.primary)
    ∙ sym (ap (option_map (λ (r : LinkRow). r.primary)) h.is) ∙ one in
    let second : secondary (server_state setting w other) cell ≡ Some m =
    ap (option_map (λ (r : LinkRow). r.secondary)) a.is ∙ ap Some (sym h.so.secondary)
    ∙ sym (ap (option_map (λ (r : LinkRow). r.secondary)) h.is) ∙ two in
    elim (alone_left (server_state setting w other) (own_steady setting w firm other) other cell n m alone first second).one_of [
      | inl same ↦ absurd (ne same)
      | inr same ↦ subst (λ (k : ℕ). is_alone_on (server_state setting w k) k cell ≡ false) (sym same) apart
    ])
    (λ no. no)

-- a request that a server had pending, which remembers the ballots for Caught of the incarnation that ran last
pub record HadPending (setting : Setting) (w : World) (lives : Lives) (n : ℕ) : Type 0 where
  pub want : Wanted
  pub rev : ℕ
  pub p : PendingHere setting w lives n want rev
  pub remembers : RemembersCaughts setting w n (lives.ran n)

module _ (setting : Setting) (w : World) (firm : Firm setting w) (lives : Lives) (run : HaveRun setting w lives) (n : ℕ)
    (had : HadPending setting w lives n) where
  open had use {want, rev, p, remembers}

  abbrev inc : ℕ
  inc = lives.ran n

  abbrev prefix : List Command
  prefix = p.known.known.sent.at.prefix

  abbrev own : List Command
  own = (w.servers n).log.applied

  abbrev At : List Command → State
  At log = state_after setting.servers log

  abbrev chosen : List Command
  chosen = chosen_log setting w

  first_led : LedBy (At prefix) n inc want.cell
  first_led = p.known.along prefix (prefix_itself prefix) p.known.opened

  steady_at : (log : List Command) → IsPrefix log chosen → IsSteady (At log)
  steady_at log all = log_steady setting.servers log (prefix_plain setting.servers log _ firm.plain all)

  -- while it is In it leads the cell
  led_at : (log : List Command) → IsPrefix prefix log → IsPrefix log chosen → is_in (At log) n inc ≡ true → LedBy (At log) n inc want.cell
  led_at log more all still = elim (either_prefix log own chosen all (firm.servers n)) [
    | inl before ↦ p.known.along log more (subst (IsPrefix log) (sym p.here) before)
    | inr following ↦ here_along setting w firm lives n want rev p remembers log following all still
  ]

  -- ### Once it is Out

  module _ (log : List Command) (more : IsPrefix prefix log) (all : IsPrefix log chosen) (gone : is_in (At log) n inc ≡ false) where
    -- it stays so
    out_from : (later : List Command) → IsPrefix log later → IsPrefix later chosen → is_up (At later) n ≡ false
    out_from later on lies = by_bool (is_up (At later) n)
        (λ up.
        let s = up_some (At later) n up in
        let low = run later n s.0 lies s.1 in
        let first = in_age (At prefix) n inc first_led.seated in
        let last = in_age (At later) n s.0 s.1 in
        let one = (log_below setting.servers prefix log (prefix_plain setting.servers log _ firm.plain all) more).ages n in
        let two = (log_below setting.servers log later (prefix_plain setting.servers later _ firm.plain lies) on).ages n in
        true_false (age_in (At log) n inc (omega arith)) gone)
        (λ no. no)

    module _ (leader : ℕ) (led : lead (chosen_state setting w) want.cell ≡ Some leader) where
      -- the cell takes writes by what is chosen, and has not been left before
      unleft : (later : List Command) → IsPrefix later chosen → stage_at (At later) want.cell ≤ 2
      unleft later lies =
          let now = led_stage setting.servers chosen firm.plain want.cell leader (is_the_so (lead (chosen_state setting w) want.cell) leader led) in
          let up = (log_below setting.servers later chosen firm.plain lies).stages want.cell in
          let most = now.1 in
          omega arith

      alive : (later : List Command) → IsPrefix later chosen → IsRetired (At later) want.cell → ⊥
      alive later lies died = let e = died.1 in let le = unleft later lies in omega arith

      link : HasOwnLink (At log) n want.cell
      link = own_link_on setting.servers prefix log (prefix_plain setting.servers log _ firm.plain all) more n want.cell (alive log all)
          (own_link (At prefix) (steady_at prefix (prefix_on prefix log chosen more all)) n want.cell first_led.leads)

      -- a link that is Lost has no lead from there on
      not_lost : {A : Type 0} (later : List Command) → IsPrefix later chosen → (row : LinkRow) → cell_link (At later) want.cell ≡ Some row
          → row.state ≡ Lost → A
      not_lost later lies row is lost = none_some (no_lead_on setting.servers later chosen firm.plain lies want.cell row is lost) led

      -- who holds the cell's link alone then does so by all from there on
      held_by : (later : List Command) → IsPrefix log later → IsPrefix later chosen → (row : LinkRow) (holder : ℕ) (copied : Bool)
          → cell_link (At log) want.cell ≡ Some row
          → has_server n row ≡ true → row.state ≡ Only holder copied → is_alone_on (At later) holder want.cell ≡ true
      held_by later on lies row holder copied is has only =
          elim (held_while setting.servers log later (prefix_plain setting.servers later _ firm.plain lies) on n
          (λ between from upto. out_from between from (prefix_on between later chosen upto lies)) want.cell row holder copied is has only (alive later lies)) [
            | inl alone ↦ alone
            | inr gone ↦ not_lost later lies gone.row gone.is gone.lost
          ]

      module _ (no_other : NoOtherHolds setting w n want.cell) where
        -- no other server has led the cell by its own entries
        no_another : (other : ℕ) → IsPrefix log (w.servers other).log.applied → is_lead (At log) other want.cell ≡ true → ⊥
        no_another other lies leads = elim (same_or_apart other n) [
          | inl e ↦ true_false
              (in_between setting w firm prefix log own more (subst (λ k. IsPrefix log (w.servers k).log.applied) e lies)
              (firm.servers n) n inc first_led.seated
              (here_led setting w firm lives n want rev p).seated) gone
          | inr ne ↦ elim (led_by (At log) (steady_at log all) want.cell other (is_the_one (lead (At log) want.cell) other leads)) [
            | inl b ↦ (
                let same : link.row ≡ b.0.row = same_some (sym link.is ∙ b.0.is) in
                n_in b.0.row b.0.so b.0.linked.served (ap (has_server n) (sym same) ∙ link.has))
            | inr held ↦ (
                let same : link.row ≡ held.row = same_some (sym link.is ∙ held.is) in
                true_false
                (held_by (w.servers other).log.applied lies (firm.servers other) held.row other held.whole held.is
                (ap (has_server n) (sym same) ∙ link.has) held.so)
                (no_other other ne))
          ]
        ]
          where
            n_in : (row : LinkRow) → row.state ≡ Both → IsServed (At log) row → has_server n row ≡ true → ⊥
            n_in row both (ByBoth so one two) has = true_false (both_up (is_up (At log)) row n one two has)
                (out_from log (prefix_itself log) all)
            n_in row both (ByOne holder beside whole only pair out) has = alone_not_both row holder only both
            n_in row both (ByNone one beside lost pair out) has = lost_not_both row lost both

        -- nor has the cell been without a lead
        no_unled : IsStill setting w leader → lead (At log) want.cell ≡ None → ⊥
        no_unled still none = elim (held_out (At log) (steady_at log all) want.cell link.row link.is
            (takes_later setting.servers prefix log (prefix_plain setting.servers log _ firm.plain all) more n want.cell first_led.leads (unleft log all))
            none) [
              | inr lost ↦ not_lost log all link.row link.is lost
              | inl held ↦ (
                  let h = held.holder in
                  let now = held_by chosen all (prefix_itself chosen) link.row h held.whole link.is link.has held.alone in
                  let same : leader ≡ h = leader_alone (chosen_state setting w) (chosen_steady setting w firm) leader h want.cell
                  (is_the_so (lead (chosen_state setting w) want.cell) leader led) now in
                  let stays = subst (IsStill setting w) same still in
                  elim (either_prefix (w.servers h).log.applied log chosen (firm.servers h) all) [
                    | inl before ↦ true_false
                        (in_up (At log) h stays.inc
                        (in_between setting w firm _ log chosen before all (prefix_itself chosen) h stays.inc stays.own stays.now)) held.out
                    | inr knows ↦ elim (same_or_apart h n) [
                      | inl e ↦ true_false (in_up (chosen_state setting w) n stays.inc
                          (subst (λ k. is_in (chosen_state setting w) k stays.inc ≡ true) e stays.now))
                          (out_from chosen all (prefix_itself chosen))
                      | inr ne ↦ true_false (held_by (w.servers h).log.applied knows (firm.servers h) link.row h held.whole link.is link.has held.alone)
                          (no_other h ne)
                    ]
                  ])
            ]

  -- ### The request is open

  module _ (leader : ℕ) (led : lead (chosen_state setting w) want.cell ≡ Some leader) (still : IsStill setting w leader)
      (no_other : NoOtherHolds setting w n want.cell) where
    not_late : IsLate setting.servers (seen lives w) prefix want.client want.seq want.cell n inc → ⊥
    not_late (Is_past lt) = let u = p.known.unfinished in omega arith
    not_late (Had_no_lead log more lies none) =
        let all = prefix_on log _ chosen lies (firm.clients want.client) in
        by_bool (is_in (At log) n inc)
        (λ here. none_some none (is_the_one _ n (led_at log more all here).leads))
        (λ gone. no_unled log more all gone leader led no_other still none)
    not_late (Had_another log other more lies leads apart) =
        let all = prefix_on log _ chosen lies (firm.servers other) in
        by_bool (is_in (At log) n inc)
        (λ here. true_false here (apart (one_lead (At log) other n want.cell leads (led_at log more all here).leads)))
        (λ gone. no_another log more all gone leader led no_other other lies leads)

    pub open_led : IsOpen (w.clients want.client) want.seq
    open_led = open_or setting w firm lives n inc want rev p.known not_late

  pub open_secondary : (m leader : ℕ) → primary (chosen_state setting w) want.cell ≡ Some n
      → secondary (chosen_state setting w) want.cell ≡ Some m
      → lead (chosen_state setting w) want.cell ≡ Some leader → IsStill setting w leader
      → is_alone_on (server_state setting w m) m want.cell ≡ false
      → IsOpen (w.clients want.client) want.seq
  open_secondary m leader one two led still apart = open_led leader led still (no_other_holds setting w firm n m want.cell one two apart)

  pub open_in_both : in_both (chosen_state setting w) want.cell ≡ true → IsOpen (w.clients want.client) want.seq
  open_in_both both =
      let led = here_led setting w firm lives n want rev p in
      let b = both_row (chosen_state setting w) want.cell both in
      let now = own_link_on setting.servers own chosen firm.plain (firm.servers n) n want.cell
      (linked_alive (chosen_state setting w) want.cell b.row b.is)
      (own_link (server_state setting w n) (own_steady setting w firm n) n want.cell led.leads) in
      let same : b.row ≡ now.row = same_some (sym b.is ∙ now.is) in
      by now.row (ap (λ (r : LinkRow). r.state) (sym same) ∙ b.both)
      (((chosen_steady setting w firm).linked want.cell now.row now.is).served) now.has
    where
      by : (row : LinkRow) → row.state ≡ Both → IsServed (chosen_state setting w) row → has_server n row ≡ true
          → IsOpen (w.clients want.client) want.seq
      by row both (ByOne holder beside whole only pair out) has = alone_not_both row holder only both
      by row both (ByNone one beside lost pair out) has = lost_not_both row lost both
      by row both (ByBoth so one two) has =
          let led = here_led setting w firm lives n want rev p in
          let s = up_some (chosen_state setting w) n (both_up (is_up (chosen_state setting w)) row n one two has) in
          let low = run chosen n s.0 (prefix_itself chosen) s.1 in
          let first = in_age (server_state setting w n) n inc led.seated in
          let last = in_age (chosen_state setting w) n s.0 s.1 in
          let on = (log_below setting.servers own chosen firm.plain (firm.servers n)).ages n in
          let same : s.0 ≡ inc = omega arith in
          open_still setting w firm lives n want rev p remembers (subst (λ i. is_in (chosen_state setting w) n i ≡ true) same s.1)
