-- Where all of a cell is as before in a server's own part, what is so of its copy stays so; and what goes on from a pair to the next one.
use Rattle.law_copies.proofs.Imports.{◌∙◌, ◌≡◌, Body, Cell, LinkRow, Option, PairState, Progress, Some, Store, above, ap, arith, at, false, id_of, is_flagged}
use Rattle.law_copies.proofs.Imports.{link_cmp, no_progress, option_map_or, progress_on, refl, same_some, subst, sym, unwrap_or, ℕ}
use Rattle.law_copies.specs.BothSteps.{IsLacking}
use Rattle.law_copies.specs.CopyProgress.{AreAlike, AreCopying, IsCovered, Is_equal, Is_marked_here, Is_marked_there, Is_to_be_copied}
use Rattle.law_copies.specs.Pair.{Known, Pair, PairOk}
use Rattle.law_copies.specs.LoneSteps.{StaysTold}
use Rattle.law_copies.proofs.LeftByEntry.{KeepsAll, keeps_onward}
use Rattle.law_copies.proofs.OtherServerChanges.{kept_copying, kept_told}
use Rattle.law_copies.proofs.HolderSteps as steps

-- ### Where all of the cell is as before

-- what is so of a holder's part is so of one that is alike for the cell
pub holder_stays : (links : ℕ) (own to : PairState) (row : LinkRow) (cell : Cell) (other : Option PairState) → KeepsAll own to row cell
    → AreCopying links row cell (Some own) other
    → AreCopying links row cell (Some to) other × StaysTold row cell (Some own) other (Some to) other
holder_stays links own to row cell other all old =
    let on = keeps_onward links own to row cell all in
    let kept = steps.kept_step (λ b. Unit {0}) old to all.keeps (let e = all.next in omega arith) on.0 on.1 in
    (kept.copying, kept.told)

-- and of the other server's
pub other_stays : (links : ℕ) (own to : PairState) (row : LinkRow) (cell : Cell) (holder : Option PairState) → KeepsAll own to row cell
    → AreCopying links row cell holder (Some own)
    → AreCopying links row cell holder (Some to) × StaysTold row cell holder (Some own) holder (Some to)
other_stays links own to row cell holder all old =
    (kept_copying old to all.keeps.rest, kept_told old to all.keeps.rest)

pub stays_alike : (own to : PairState) (row : LinkRow) (cell : Cell) (a b : Store)
    → at link_cmp to.copies.progress (id_of row) ≡ at link_cmp own.copies.progress (id_of row)
    → AreAlike row cell a b (Some own) → AreAlike row cell a b (Some to)
stays_alike own to row cell a b pages alike = record {
  covered = by alike.covered;
  caught = λ o is flagged. alike.caught own refl
      (ap (λ p. option_map_or (λ (x : Progress). x.caught) p false) (sym pages) ∙ ap (λ (x : PairState). is_flagged x (id_of row)) (same_some is) ∙ flagged);
}
  where
    progress : progress_on to row ≡ progress_on own row
    progress = ap (λ p. unwrap_or p no_progress) pages

    by : IsCovered row cell a b (Some own) → IsCovered row cell a b (Some to)
    by (Is_equal same) = Is_equal same
    by (Is_marked_here marked) = Is_marked_here marked
    by (Is_marked_there marked ahead) = Is_marked_there marked
        (ap (λ (p : Progress). p.paged) progress ∙ ahead.0, ap (λ (p : Progress). above p.after cell.block) progress ∙ ahead.1)
    by (Is_to_be_copied all ahead) = Is_to_be_copied all (ap (λ (p : Progress). above p.copied cell.block) progress ∙ ahead)

-- ### Pairs that move on

-- what is so of a pair, and what letters tell of it, is so of the other one
pub record PairGoes (old new : Pair) : Type 0 where
  pub ok : PairOk old → PairOk new
  pub known : (said : Body) → Known old said → Known new said
  pub lacks : IsLacking old → IsLacking new

pub goes_same : (old new : Pair) → old ≡ new → PairGoes old new
goes_same old new same = record { ok = subst PairOk same; known = λ said. subst (λ p. Known p said) same; lacks = subst IsLacking same }

pub goes_on : {a b c : Pair} → PairGoes a b → PairGoes b c → PairGoes a c
goes_on one two = record { ok = λ h. two.ok (one.ok h); known = λ said h. two.known said (one.known said h); lacks = λ h. two.lacks (one.lacks h) }
