-- A block between two maps: its entry is the new map's or, where that has none, the frozen one. A fill that is put in its turn, and that all has
-- come over, change no entry.
use Rattle.law_run.proofs.Imports.{[], ◌<◌, ◌∙◌, ◌∷◌, ◌≡◌, ◌≢◌, ◌≤◌, Chain, Equal, Has, HasNewer, In, IsRising, Less, List, None, Some, Stored, ap, arith, at}
use Rattle.law_run.proofs.Imports.{at_apart, at_row, at_same, by_bool, bytes_of, cases_lt, cond, entry_at, first_entry, inl, inr, is_eq, is_some, nat_cmp}
use Rattle.law_run.proofs.Imports.{nat_cmp_total, nat_le, nat_tests, none_some, or_else, put, put_rises, ranked, refl, same_or_apart, same_some, some_or_none}
use Rattle.law_run.proofs.Imports.{sym, tied, true, true_false, ℕ}
use Rattle.law_run.proofs.EntryAtEpoch.{entry_below, first_so, within}
use Rattle.law_run.proofs.ListMembers.{row_at}

-- ### The entry of an epoch, as the last one not above it

-- the entry is that of this epoch, and none is between
pub record IsTop (chain : Chain) (epoch : ℕ) (entry : Stored) : Type 0 where
  pub at_epoch : ℕ
  pub is : at nat_cmp chain at_epoch ≡ Some entry
  pub low : at_epoch ≤ epoch
  pub most : (other : ℕ) → Has chain other → other ≤ epoch → other ≤ at_epoch

-- where a chain has an entry at its epoch or above, it has one at its first row's
has_first : (row : ℕ × Stored) (later : Chain) (epoch : ℕ) → IsRising nat_cmp (row ∷ later) → Has (row ∷ later) epoch → row.0 ≤ epoch
unfolding In
has_first row later epoch rises has = elim (some_or_none (at nat_cmp (row ∷ later) epoch)) [
  | inr none ↦ true_false has (ap is_some none)
  | inl some ↦
      let found = row_at nat_cmp (row ∷ later) epoch some.0 some.1 in
      let same : epoch ≡ found.0.0 = ranked epoch found.0.0 Equal (sym found.2) in
      elim found.1 [
        | inl e ↦ (let own : found.0.0 ≡ row.0 = ap (λ (r : ℕ × Stored). r.0) e in omega arith)
        | inr there ↦ (let lt : row.0 < found.0.0 = ranked row.0 found.0.0 Less (sym (rises.0 found.0 there)) in omega arith)
      ]
]

-- so it has an entry not above each later epoch
pub entry_there : (chain : Chain) (epoch later : ℕ) → IsRising nat_cmp chain → Has chain epoch → epoch ≤ later → is_some (entry_at chain later) ≡ true
unfolding at
entry_there [] epoch later rises has le = true_false has refl
entry_there (row ∷ rows) epoch later rises has le =
    let first = has_first row rows epoch rises has in
    ap (λ b. is_some (first_so b rows later row.1)) (within row.0 later (omega arith))

-- an entry that is found is the last one
pub entry_top : (chain : Chain) (epoch : ℕ) (entry : Stored) → IsRising nat_cmp chain → entry_at chain epoch ≡ Some entry → IsTop chain epoch entry
unfolding In at
entry_top [] epoch entry rises is = none_some refl is
entry_top (row ∷ rows) epoch entry rises is = by_bool (nat_le row.0 epoch)
    (λ t.
    let le : row.0 ≤ epoch = grind (arith, nat_tests, t) in
    let found : Some (or_else (entry_at rows epoch) row.1) ≡ Some entry = sym (ap (λ b. first_so b rows epoch row.1) t) ∙ is in
    elim (some_or_none (entry_at rows epoch)) [
      | inl more ↦
          let k = entry_top rows epoch more.0 rises.1 more.1 in
          let same : more.0 ≡ entry = same_some (sym (ap (λ o. Some (or_else o row.1)) more.1) ∙ found) in
          let low = following_first k.at_epoch more.0 k.is in
          record {
            at_epoch = k.at_epoch;
            is = following k.at_epoch (λ e. omega (arith, low, e)) ∙ k.is ∙ ap Some same;
            low = k.low;
            most = λ other has below. elim (same_or_apart other row.0) [
              | inl e ↦ omega arith
              | inr ne ↦ k.most other (ap is_some (sym (following other ne)) ∙ has) below
            ];
          }
      | inr none ↦
          let same : row.1 ≡ entry = same_some (sym (ap (λ o. Some (or_else o row.1)) none) ∙ found) in
          record {
            at_epoch = row.0;
            is = at_row nat_cmp_total (row ∷ rows) row rises (inl refl) ∙ ap Some same;
            low = le;
            most = λ other has below. elim (same_or_apart other row.0) [
              | inl e ↦ omega arith
              | inr ne ↦ true_false (entry_there rows other epoch rises.1 (ap is_some (sym (following other ne)) ∙ has) below) (ap is_some none)
            ];
          }
    ])
    (λ f. none_some (ap (λ b. first_so b rows epoch row.1) f) is)
  where
    -- what is not of the first row is of those after it
    following : (other : ℕ) → other ≢ row.0 → at nat_cmp (row ∷ rows) other ≡ at nat_cmp rows other
    following other ne = by_bool (is_eq (nat_cmp other row.0))
        (λ t. absurd (ne (ranked other row.0 Equal (sym (tied (nat_cmp other row.0) t)))))
        (λ f. ap (λ b. cond b (Some row.1) (at nat_cmp rows other)) f)

    following_first : (other : ℕ) (x : Stored) → at nat_cmp rows other ≡ Some x → row.0 < other
    following_first other x there =
        let found = row_at nat_cmp rows other x there in
        let same : other ≡ found.0.0 = ranked other found.0.0 Equal (sym found.2) in
        let lt : row.0 < found.0.0 = ranked row.0 found.0.0 Less (sym (rises.0 found.0 found.1)) in
        omega arith

-- and the last one is found
pub top_entry : (chain : Chain) (epoch : ℕ) (entry : Stored) → IsRising nat_cmp chain → IsTop chain epoch entry → entry_at chain epoch ≡ Some entry
top_entry chain epoch entry rises k =
    let has : Has chain k.at_epoch = ap is_some k.is in
    elim (some_or_none (entry_at chain epoch)) [
      | inr none ↦ true_false (entry_there chain k.at_epoch epoch rises has k.low) (ap is_some none)
      | inl some ↦
          let t = entry_top chain epoch some.0 rises some.1 in
          let one = t.most k.at_epoch has k.low in
          let other = k.most t.at_epoch (ap is_some t.is) t.low in
          let same : t.at_epoch ≡ k.at_epoch = omega arith in
          some.1 ∙ sym t.is ∙ ap (at nat_cmp chain) same ∙ k.is
    ]

-- an entry that is found is of an epoch that the chain has
pub has_below : (chain : Chain) (epoch : ℕ) → IsRising nat_cmp chain → is_some (entry_at chain epoch) ≡ true → (e : ℕ) × (e ≤ epoch) × Has chain e
has_below chain epoch rises some = elim (some_or_none (entry_at chain epoch)) [
  | inr none ↦ true_false some (ap is_some none)
  | inl s ↦ (let t = entry_top chain epoch s.0 rises s.1 in (t.at_epoch, t.low, ap is_some t.is))
]

-- ### A fill is put

-- a fill of a frozen entry in its turn: the chain lacks it, and has what is newer; and what the chain has, it has with all that is newer
pub record IsFill (chain before : Chain) (epoch : ℕ) (bytes : List ℕ) : Type 0 where
  pub rising : IsRising nat_cmp chain
  pub frozen_rising : IsRising nat_cmp before
  pub frozen : Stored
  pub is : at nat_cmp before epoch ≡ Some frozen
  pub bytes_is : frozen.bytes ≡ bytes
  pub lacks : at nat_cmp chain epoch ≡ None
  pub newer : HasNewer before epoch chain
  pub stored : (other : ℕ) → Has chain other → HasNewer before other chain

module _ (chain before : Chain) (epoch : ℕ) (entry : Stored) (bytes : List ℕ) (of : entry.bytes ≡ bytes) (h : IsFill chain before epoch bytes) where
  abbrev now : Chain
  now = put nat_cmp chain epoch entry

  now_rising : IsRising nat_cmp now
  now_rising = put_rises nat_cmp_total chain epoch entry h.rising

  -- what the chain has now it had, or it is the fill
  now_has : (other : ℕ) → Has now other → other ≢ epoch → Has chain other
  now_has other has ne = ap is_some (sym (at_apart chain epoch entry other ne)) ∙ has

  -- at an epoch from the fill's own on, where the chain had an entry
  stays_so : (e : ℕ) → epoch ≤ e → (was : Stored) → entry_at chain e ≡ Some was → entry_at now e ≡ Some was
  stays_so e le was is =
      let t = entry_top chain e was h.rising is in
      let above : epoch < t.at_epoch = elim (cases_lt epoch t.at_epoch) [
        | inl lt ↦ lt
        | inr past ↦ elim (same_or_apart t.at_epoch epoch) [
          | inl same ↦ none_some (ap (at nat_cmp chain) same ∙ h.lacks) t.is
          | inr ne ↦ true_false (h.stored t.at_epoch (ap is_some t.is) epoch (omega (arith, past, ne)) (ap is_some h.is)) (ap is_some h.lacks)
        ]
      ] in
      top_entry now e was now_rising (record {
        at_epoch = t.at_epoch;
        is = at_apart chain epoch entry t.at_epoch (λ e. omega (arith, above, e)) ∙ t.is;
        low = t.low;
        most = λ other has below. elim (same_or_apart other epoch) [
          | inl same ↦ omega arith
          | inr ne ↦ t.most other (now_has other has ne) below
        ];
      })

  -- and where it had none: then the frozen one is the fill's
  comes_so : (e : ℕ) → epoch ≤ e → entry_at chain e ≡ None → (entry_at now e ≡ Some entry) × (entry_at before e ≡ Some h.frozen)
  comes_so e le none =
      let nothing = λ (B : Type 0) (other : ℕ) (has : Has chain other) (below : other ≤ e).
      true_false {B = B} (entry_there chain other e h.rising has below) (ap is_some none) in (
        top_entry now e entry now_rising (record {
          at_epoch = epoch;
          is = at_same chain epoch entry;
          low = le;
          most = λ other has below. elim (same_or_apart other epoch) [
            | inl same ↦ omega arith
            | inr ne ↦ nothing (other ≤ epoch) other (now_has other has ne) below
          ];
        }),
        top_entry before e h.frozen h.frozen_rising (record {
          at_epoch = epoch;
          is = h.is;
          low = le;
          most = λ other has below. elim (cases_lt epoch other) [
            | inl lt ↦ nothing (other ≤ epoch) other (h.newer other lt has) below
            | inr past ↦ omega arith
          ];
        }),
      )

  pub fill_same : (e : ℕ) → bytes_of (first_entry (entry_at chain e) (entry_at before e)) ≡ bytes_of (first_entry (entry_at now e) (entry_at before e))
  fill_same e = elim (cases_lt e epoch) [
    | inl lt ↦ ap (λ o. bytes_of (first_entry o (entry_at before e))) (sym (entry_below chain epoch entry e lt))
    | inr le ↦ elim (some_or_none (entry_at chain e)) [
      | inl some ↦ ap (λ o. bytes_of (first_entry o (entry_at before e))) (some.1 ∙ sym (stays_so e (omega (arith, le)) some.0 some.1))
      | inr none ↦
          let k = comes_so e (omega (arith, le)) none in
          (λ i. bytes_of (first_entry (none i) (k.1 i))) ∙ h.bytes_is ∙ sym of ∙ sym (ap (λ o. bytes_of (first_entry o (entry_at before e))) k.0)
    ]
  ]

-- ### All has come over

-- where a chain has each epoch of the frozen one, it has an entry wherever that has
pub come_over : (chain before : Chain) → IsRising nat_cmp chain → IsRising nat_cmp before → ((epoch : ℕ) → Has before epoch → Has chain epoch)
    → (e : ℕ) → first_entry (entry_at chain e) (entry_at before e) ≡ entry_at chain e
come_over chain before rises before_rises all e = elim (some_or_none (entry_at chain e)) [
  | inl some ↦ ap (λ o. first_entry o (entry_at before e)) some.1 ∙ sym some.1
  | inr none ↦ elim (some_or_none (entry_at before e)) [
    | inr gone ↦ (λ i. first_entry (none i) (gone i)) ∙ sym none
    | inl old ↦
        let b = has_below before e before_rises (ap is_some old.1) in
        true_false (entry_there chain b.0 e rises (all b.0 b.2) b.1) (ap is_some none)
  ]
]
