-- The first entry that makes a new place of a link.
use Rattle.law_epochs.proofs.Imports.{[], if◌then◌else◌, ◌++◌, ◌+◌, ◌∙◌, ◌∷◌, ◌≡◌, ◌≤◌, Command, LinkRow, List, State, after, ap, arith, by_bool, fold}
use Rattle.law_epochs.proofs.Imports.{places_from, refl, touches, true}

-- the first of these entries that touches the link
pub record IsFirst (state : State) (entries : List Command) (row : LinkRow) : Type 0 where
  pub before : List Command
  pub entry : Command
  pub later : List Command
  pub lies : entries ≡ before ++ entry ∷ later
  pub quiet : places_from state before row ≡ 0
  pub on : touches (fold after state before) entry row ≡ true

pub first_touch : (state : State) (entries : List Command) (row : LinkRow) → 1 ≤ places_from state entries row → IsFirst state entries row
first_touch state [] row le = absurd (omega arith)
first_touch state (entry ∷ entries) row le = by_bool (touches state entry row)
    (λ on. record { before = []; entry = entry; later = entries; lies = refl; quiet = refl; on = on })
    (λ off.
    let places = ap (λ b. if b then places_from (after state entry) entries row + 1 else places_from (after state entry) entries row) off in
    let more = first_touch (after state entry) entries row (omega arith) in
    record {
      before = entry ∷ more.before;
      entry = more.entry;
      later = more.later;
      lies = ap (λ es. entry ∷ es) more.lies;
      quiet = ap (λ b. if b then places_from (after state entry) more.before row + 1 else places_from (after state entry) more.before row) off ∙ more.quiet;
      on = more.on;
    })
