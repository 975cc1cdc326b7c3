-- What a server is to a cell stays so while the server is In as the same incarnation, but for a holder that comes second again.
use Rattle.law_state.proofs.Imports.{◌<◌, ◌==◌, ◌||◌, ◌∙◌, ◌≡◌, ◌≢◌, ◌≤◌, ◌⊎◌, Bool, Cell, Command, IsPrefix, LinkRow, List, None, Only, Some, State, ap}
use Rattle.law_state.proofs.Imports.{arith, by_bool, cell_link, false, has_server, inl, inr, is_the_one, is_the_so, is_up, leads_link, nat_tests, none_some}
use Rattle.law_state.proofs.Imports.{number_itself, option_and_then, row_lead, same_numbers, same_or_apart, serves, state_after, sym, true, true_false, ℕ}
use Rattle.spec_rules.specs.State.{is_in}
use Rattle.law_state.specs.Ages.{age_of}
use Rattle.law_state.specs.Plain.{HasProperTuples}
use Rattle.law_state.specs.LinkRows.{IsLater, ByBoth, ByNone, ByOne}
use Rattle.law_state.specs.Steady.{IsSteady}
use Rattle.law_state.specs.LaterStates.{IsBelow, HasComeSecond, KeepsRoles}
use Rattle.law_state.specs.Homes.{IsRetired}
use Rattle.law_state.proofs.CellsByLinkRows.{IsInBoth, IsHeldBy, alone_leads, alone_leads_none, both_leads, link_led_by, lost_leads}
use Rattle.law_state.proofs.GrownStates.{alone_not_both, lost_not_alone, one_before}
use Rattle.law_state.proofs.Ages.{in_up, out_same}
use Rattle.law_state.proofs.Leaves.{either_true}
use Rattle.law_state.proofs.NewMapLinks.{or_true}
use Rattle.law_state.proofs.Steady.{prefix_plain, log_below, log_steady}
use Rattle.law_state.proofs.TestFacts.{same_only}

pub primary_is_one : (row : LinkRow) (n : ℕ) → row.primary ≡ n → has_server n row ≡ true
primary_is_one row n e = ap (λ b. b || row.secondary == n) (ap (λ k. k == n) e ∙ number_itself n)

pub secondary_is_one : (row : LinkRow) (n : ℕ) → row.secondary ≡ n → has_server n row ≡ true
secondary_is_one row n e = or_true (row.primary == n) (row.secondary == n) (ap (λ k. k == n) e ∙ number_itself n)

less : (a b : ℕ) → a ≤ b → b ≢ a → a < b
less a b le ne = by_bool (b == a) (λ is. absurd (ne (same_numbers b a is))) (λ e. past e)
  where
    past : (b == a) ≡ false → a < b
    past e = grind (arith, nat_tests)

-- who holds a link alone is one of its two servers
pub holder_is_one : (state : State) (cell : Cell) (n : ℕ) (b : IsHeldBy state cell n) → has_server n b.row ≡ true
holder_is_one state cell n b = elim b.linked.served [
  | ByBoth so one other ↦ alone_not_both b.row n b.so so
  | ByNone one other so pair out ↦ lost_not_alone b.row n so b.so
  | ByOne holder other whole so pair out ↦ elim pair [
    | inl at ↦ primary_is_one b.row n (at.0 ∙ same_only (sym so ∙ b.so))
    | inr at ↦ secondary_is_one b.row n (at.1 ∙ same_only (sym so ∙ b.so))
  ]
]

module _ (earlier later : State) (was : IsSteady earlier) (now : IsSteady later) (below : IsBelow earlier later) where
  -- the later row of a link that a server serves, which is still In: in Both, or the server holds it alone; or its map is retired
  served_later : (cell : Cell) (row : LinkRow) (n inc : ℕ) → cell_link earlier cell ≡ Some row → has_server n row ≡ true → serves n row row.state ≡ true
      → is_in earlier n inc ≡ true → is_in later n inc ≡ true
      → ((c : IsInBoth later cell) × IsLater row c.row) ⊎ ((h : IsHeldBy later cell n) × IsLater row h.row) ⊎ IsRetired later cell
  served_later cell row n inc is has serving before still = elim (below.rows cell row is) [
    | inr gone ↦ inr (inr gone)
    | inl h ↦
        let linked = now.linked cell h.now h.is in
        let on = h.on n inc has serving before still in
        elim linked.served [
          | ByBoth so one other ↦ inl (record { row = h.now; is = h.is; linked = linked; so = so }, h.so)
          | ByOne holder other whole so pair out ↦ (
              let same = same_numbers holder n (sym (ap (serves n h.now) so) ∙ on) in
              inr (inl (
                record { row = h.now; is = h.is; linked = linked; whole = whole; so = so ∙ ap (λ k. Only k whole) same; up = in_up later n inc still },
                h.so,
              )))
          | ByNone one other so pair out ↦ true_false on (ap (serves n h.now) so)
        ]
  ]

  both_serves : (cell : Cell) (b : IsInBoth earlier cell) (n : ℕ) → has_server n b.row ≡ true → serves n b.row b.row.state ≡ true
  both_serves cell b n has = ap (serves n b.row) b.so ∙ has

  held_serves : (cell : Cell) (n : ℕ) (b : IsHeldBy earlier cell n) → serves n b.row b.row.state ≡ true
  held_serves cell n b = ap (serves n b.row) b.so ∙ number_itself n

  leads_so : (n : ℕ) (cell : Cell) → option_and_then (row_lead later) (cell_link later cell) ≡ Some n → leads_link later n cell ≡ true
  leads_so n cell e = is_the_so (option_and_then (row_lead later) (cell_link later cell)) n e

  held_leads : (cell : Cell) (n : ℕ) → IsHeldBy later cell n → leads_link later n cell ≡ true
  held_leads cell n h = leads_so n cell (alone_leads later cell h.row h.is n h.whole h.so h.up)

  -- who held a link alone leads it later, or is its secondary
  held_later : (cell : Cell) (n inc : ℕ) → IsHeldBy earlier cell n → is_in earlier n inc ≡ true → is_in later n inc ≡ true
      → (leads_link later n cell ≡ true) ⊎ HasComeSecond earlier later n cell ⊎ IsRetired later cell
  held_later cell n inc b before still =
      let has = holder_is_one earlier cell n b in
      elim (served_later cell b.row n inc b.is has (held_serves cell n b) before still) [
        | inr (inl held) ↦ inl (held_leads cell n held.0)
        | inr (inr gone) ↦ inr (inr gone)
        | inl c ↦ by_bool (c.0.row.primary == n)
            (λ t. inl (leads_so n cell (both_leads later cell c.0.row c.0.is c.0.so ∙ ap Some (same_numbers c.0.row.primary n t))))
            (λ no.
            let second = same_numbers c.0.row.secondary n
            (either_true (c.0.row.primary == n) (c.0.row.secondary == n) (one_before b.row c.0.row n c.1 ∙ has) no) in
            inr (inl (record {
              alone = record { row = b.row; is = b.is; whole = b.whole; alone = b.so };
              second = record { row = c.0.row; is = c.0.is; both = c.0.so; second = second };
            })))
      ]

  pub roles_kept : KeepsRoles earlier later
  roles_kept = record {
    leads = λ n inc cell before still e.
        elim (link_led_by earlier was cell n (is_the_one (option_and_then (row_lead earlier) (cell_link earlier cell)) n e)) [
          | inl b ↦ (let has = primary_is_one b.0.row n b.1 in
              elim (served_later cell b.0.row n inc b.0.is has (both_serves cell b.0 n has) before still) [
                | inl c ↦ inl (leads_so n cell (both_leads later cell c.0.row c.0.is c.0.so ∙ ap Some (c.1.primary ∙ b.1)))
                | inr (inl held) ↦ inl (held_leads cell n held.0)
                | inr (inr gone) ↦ inr (inr gone)
              ])
          | inr held ↦ held_later cell n inc held before still
        ];
    seconds = λ n inc cell before still b.
        let has = secondary_is_one b.row n b.second in
        elim (served_later cell b.row n inc b.is has (ap (serves n b.row) b.both ∙ has) before still) [
          | inl c ↦ inl (record { row = c.0.row; is = c.0.is; both = c.0.so; second = c.1.secondary ∙ b.second })
          | inr (inl held) ↦ inr (inl (record { row = held.0.row; is = held.0.is; whole = held.0.whole; alone = held.0.so }))
          | inr (inr gone) ↦ inr (inr gone)
        ];
    reads = λ n inc cell before still b. elim (served_later cell b.row n inc b.is b.one_of b.so before still) [
      | inl c ↦ (let has = one_before b.row c.0.row n c.1 ∙ b.one_of in
          inl (record { row = c.0.row; is = c.0.is; one_of = has; so = ap (serves n c.0.row) c.0.so ∙ has }))
      | inr (inl held) ↦ inl (record {
        row = held.0.row;
        is = held.0.is;
        one_of = one_before b.row held.0.row n held.1 ∙ b.one_of;
        so = ap (serves n held.0.row) held.0.so ∙ number_itself n;
      })
      | inr (inr gone) ↦ inr gone
    ];
    led = λ cell row n is e. elim (was.linked cell row is).served [
      | ByBoth so one other ↦ inl (
        row.primary,
        is_the_so (option_and_then (row_lead earlier) (cell_link earlier cell)) row.primary
            (both_leads earlier cell row is so),
      )
      | ByOne holder other whole so pair out ↦ by_bool (is_up earlier holder)
          (λ up. inl (
            holder,
            is_the_so (option_and_then (row_lead earlier) (cell_link earlier cell)) holder
                (alone_leads earlier cell row is holder whole so up),
          ))
          (λ gone. inr (record {
            holder = holder;
            alone = record { row = row; is = is; whole = whole; alone = so };
            out = gone;
            joined = rises cell row n holder whole is so gone (is_the_one (option_and_then (row_lead later) (cell_link later cell)) n e);
          }))
      | ByNone one other so pair out ↦ elim (below.rows cell row is) [
        | inl h ↦ none_some (lost_leads later cell h.now h.is (h.lost so)) (is_the_one (option_and_then (row_lead later) (cell_link later cell)) n e)
        | inr gone ↦ unled cell n gone.0 (is_the_one (option_and_then (row_lead later) (cell_link later cell)) n e)
      ]
    ];
  }
    where
      -- a link that is gone is led by nobody
      unled : {A : Type 0} (cell : Cell) (n : ℕ) → cell_link later cell ≡ None → option_and_then (row_lead later) (cell_link later cell) ≡ Some n → A
      unled cell n none e = none_some (ap (option_and_then (row_lead later)) none) e

      -- and so is one whose holder stays Out
      rises : (cell : Cell) (row : LinkRow) (n holder : ℕ) (whole : Bool) → cell_link earlier cell ≡ Some row → row.state ≡ Only holder whole
          → is_up earlier holder ≡ false → option_and_then (row_lead later) (cell_link later cell) ≡ Some n → age_of earlier holder < age_of later holder
      rises cell row n holder whole is so gone e = elim (below.rows cell row is) [
        | inr died ↦ unled cell n died.0 e
        | inl h ↦ elim (same_or_apart (age_of later holder) (age_of earlier holder)) [
          | inl same ↦ (
              let still = h.held holder whole so gone same in
              none_some (alone_leads_none later cell h.now h.is holder still.0 still.1 (out_same earlier later holder gone same)) e)
          | inr ne ↦ less (age_of earlier holder) (age_of later holder) (below.ages holder) ne
        ]
      ]

pub log_roles : (servers : ℕ) (prefix whole : List Command) → HasProperTuples servers whole → IsPrefix prefix whole
    → KeepsRoles (state_after servers prefix) (state_after servers whole)
log_roles servers prefix whole all is_prefix =
    roles_kept (state_after servers prefix) (state_after servers whole) (log_steady servers prefix (prefix_plain servers prefix whole all is_prefix))
    (log_steady servers whole all) (log_below servers prefix whole all is_prefix)
