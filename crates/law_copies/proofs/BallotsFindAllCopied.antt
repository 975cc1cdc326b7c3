-- What a ballot that a server starts keeps of a cell: of one whose link it holds alone, nothing is left to copy once it starts.
use Rattle.law_copies.proofs.Imports.{◌∙◌, ◌≡◌, Body, Caught, Cell, Command, IsBallotFor, JobContext, LinkId, LinkRow, None, Option, PairState, Progress}
use Rattle.law_copies.proofs.Imports.{Some, Starts, State, Store, Table, above, ap, arith, by_bool, cell_link, chain_in, eq_by_cmp, flag_put, holds_link}
use Rattle.law_copies.proofs.Imports.{id_of, inl, inr, is_some, link_cmp, link_named, live, none_some, progress_beside, progress_on, proposed, refl, same_id}
use Rattle.law_copies.proofs.Imports.{subst, sym, true, true_false, with_progress, ℕ}
use Rattle.law_copies.specs.CopyProgress.{AreCopying, HasPage, IsCovered, IsLeft, IsTrimming, Is_equal, Is_marked_here, Is_marked_there, Is_to_be_copied}
use Rattle.law_copies.specs.CopyProgress.{NotCopied}
use Rattle.law_copies.specs.LoneSteps.{HolderStep, BallotKeeps, KeepsCell}
use Rattle.law_copies.proofs.OwnPartFrames.{keeps_alike}
use Rattle.law_copies.proofs.HolderChanges.{alike_by, alike_still, below, holder_copying, holder_told, trimmed_or}
use Rattle.law_copies.proofs.LeftToCopy.{HasAny, IsDone, nothing_left}
use Rattle.law_copies.proofs.CopiesGoOn.{onward_by}
use Rattle.law_copies.proofs.HolderPace.{IsPaced, paced_beside, progress_itself}
use Rattle.law_copies.proofs.RolesOfWorkers.{named_id, one_named}
use Rattle.law_copies.proofs.HolderSteps as steps

-- the link has a ballot in mind, and nothing else is changed
abbrev pub flagged_on : PairState → LinkRow → PairState
flagged_on own row = with_progress own row (record (progress_on own row) { caught = true })

-- how far links are changes, and nothing else
abbrev pub with_pages : PairState → Table LinkId Progress → PairState
with_pages own progress = record own { copies = record own.copies { progress = progress } }

pub pages_keep : (cell : Cell) (own : PairState) (progress : Table LinkId Progress) → KeepsCell cell own (with_pages own progress)
pages_keep cell own progress =
    keeps_alike cell own (with_pages own progress) (record { pending = refl; followed = refl; copying = refl; last = refl; chains = refl; marks = refl })

-- ### Of the ballot's own link

module _ {links : ℕ} {row : LinkRow} {cell : Cell} {vo : Option PairState} {own : PairState} (old : AreCopying links row cell (Some own) vo) where
  module _ (state : State) (done : IsDone state row own cell) where
    abbrev to : PairState
    to = flagged_on own row

    stands : progress_on to row ≡ record (progress_on own row) { caught = true }
    stands = progress_itself own row (record (progress_on own row) { caught = true })

    flagged_page : HasPage to row → HasPage own row
    flagged_page (inl paged) = inl (sym (ap (λ (p : Progress). p.paged) stands) ∙ paged)
    flagged_page (inr (inl after)) = inr (inl (sym (ap (λ (p : Progress). is_some p.after) stands) ∙ after))
    flagged_page (inr (inr copied)) = inr (inr (sym (ap (λ (p : Progress). is_some p.copied) stands) ∙ copied))

    flagged_ahead : NotCopied (Some to) row cell.block → NotCopied (Some own) row cell.block
    flagged_ahead ahead = sym (ap (λ (p : Progress). above p.copied cell.block) stands) ∙ ahead

    none_left : IsLeft own row cell → ⊥
    none_left (inl marked) = done.unmarked marked
    none_left (inr all) = done.copied all.0 all.1

    no_trimming : {A : Type 0} (number : ℕ) → IsTrimming own cell number → A
    no_trimming number t = none_some done.idle t.is

    covered_equal : (now : Store) → IsCovered row cell own.store now (Some own) → chain_in own.store.chains cell ≡ chain_in now.chains cell
    covered_equal now (Is_equal e) = e
    covered_equal now (Is_marked_here m) = absurd (done.unmarked m)
    covered_equal now (Is_marked_there m np) = true_false done.paged np.0
    covered_equal now (Is_to_be_copied all ahead) = absurd (done.copied all ahead)

    flagged_keeps : BallotKeeps links row cell own vo to
    flagged_keeps = record {
      copying = holder_copying links row cell vo to (old.risen own refl) (λ copy is. none_some done.idle is)
          (λ o last met is. record {
            by = to;
            met = refl;
            below = below (λ (b : Body). Unit {0}) old o last met is;
            trimmed = elim (trimmed_or (λ (b : Body). Unit {0}) old o last met is) [
              | inl none ↦ inl none
              | inr t ↦ no_trimming last.op t
            ];
          })
          (λ flag. record {
            paged = ap (λ (p : Progress). p.paged) stands ∙ done.paged;
            free = done.free;
            idle = done.idle;
            unmarked = done.unmarked;
            copied = λ all ahead. done.copied all (flagged_ahead ahead);
          })
          (λ page. old.met own refl (flagged_page page))
          (λ paged later copy lt on is all ahead. absurd (done.copied all (flagged_ahead ahead)));
      told = holder_told links row cell vo to own (λ number t. no_trimming number t) (λ o last index epoch met is there e l. absurd (none_left l))
          (λ number index r h copy is op. none_some done.idle is);
      store = refl;
      alike = λ now a. (let e = covered_equal now a.covered in alike_by row cell own to now (Is_equal e) (λ flag. e));
      flagged = λ flag. flag_put own row (record (progress_on own row) { caught = true }) refl;
    }

  -- ### Of another link

  apart_keeps : (progress : Table LinkId Progress) → IsPaced row own (with_pages own progress)
      → (progress_on (with_pages own progress) row).copied ≡ (progress_on own row).copied → BallotKeeps links row cell own vo (with_pages own progress)
  apart_keeps progress paced copied =
      let to = with_pages own progress in
      let step : HolderStep (λ b. Unit {0}) links row cell vo own to = steps.kept_step (λ b. Unit {0}) old to
      (pages_keep cell own progress) (omega arith) paced (onward_by links row cell own to paced copied (λ later copy lt on is. inl (copy, is))) in
      record {
        copying = step.copying;
        told = step.told;
        store = refl;
        alike = alike_still row cell own to refl paced.paged paced.after copied paced.flag;
        flagged = λ flag. paced.flag ∙ flag;
      }

module _ (here : JobContext) (links : ℕ) (row : LinkRow) (cell : Cell) (vo : Option PairState) (own : PairState) (old : AreCopying links row cell (Some own) vo)
    (is : cell_link here.state cell ≡ Some row) (lives : HasAny own cell → live here.state cell ≡ true) where
  same_keeps : BallotKeeps links row cell own vo own
  same_keeps = apart_keeps old own.copies.progress (record { paged = refl; after = refl; flag = refl }) refl

  held_keeps : (id : LinkId) → IsBallotFor here own id → BallotKeeps links row cell own vo (holds_link own (link_named here.state id))
  held_keeps id b = subst (λ o. BallotKeeps links row cell own vo (holds_link own o)) (sym b.held.is)
      (by_bool (eq_by_cmp link_cmp (id_of row) (id_of b.row))
      (λ t.
      let same : row ≡ b.row = one_named here.state cell row id b.row is b.held.is
      (same_id (id_of row) (id_of b.row) t ∙ named_id here.state id b.row b.held.is) in
      subst (λ (r : LinkRow). BallotKeeps links row cell own vo (flagged_on own r)) same
      (flagged_keeps old here.state
      (subst (λ (r : LinkRow). IsDone here.state r own cell) (sym same)
      (nothing_left here.state id b.row own b.held.is cell (is ∙ ap Some same) lives b.nothing))))
      (λ no. apart_keeps old (flagged_on own b.row).copies.progress
      (paced_beside own b.row (record (progress_on own b.row) { caught = true }) row no)
      (ap (λ (p : Progress). p.copied) (progress_beside own b.row (record (progress_on own b.row) { caught = true }) row no))))

  -- what the ballot keeps
  pub ballot_keeps : (started : Option Command) → Starts here own started → BallotKeeps links row cell own vo (proposed here.state own started)
  ballot_keeps None starts = same_keeps
  ballot_keeps (Some (Caught of link holder inc other other_inc)) starts = held_keeps (record { map = of; link = link }) starts
  ballot_keeps (Some _) starts = same_keeps

held_alike : (own : PairState) (o : Option LinkRow) → with_pages own (holds_link own o).copies.progress ≡ holds_link own o
held_alike own None = refl
held_alike own (Some row) = refl

-- only how far links are is changed
pub ballot_alike : (state : State) (own : PairState) (started : Option Command)
    → with_pages own (proposed state own started).copies.progress ≡ proposed state own started
ballot_alike state own None = refl
ballot_alike state own (Some (Caught of link holder inc other other_inc)) = held_alike own (link_named state (record { map = of; link = link }))
ballot_alike state own (Some _) = refl
