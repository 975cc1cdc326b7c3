-- What a job, and a ballot that is started, keeps by itself.
use Rattle.law_copies.proofs.Imports.{[], ◌∙◌, ◌≡◌, Both, Caught, Cell, Command, Did, Handled, In, IsSettledState, JobContext, JobResult, LinkId, LinkRow}
use Rattle.law_copies.proofs.Imports.{List, None, Option, PairState, Post, Some, Starts, ap, arith, both, cell_link, chosen_log, did_count, eq_by_cmp}
use Rattle.law_copies.proofs.Imports.{false, holder_of, holds_link, id_of, inl, is_between, is_logged, link_cmp, link_named, log_plain, logged_apart}
use Rattle.law_copies.proofs.Imports.{own_place, prefix_plain, progress_beside, progress_on, proposed, refl, server_state, so_both, stage_live, subject_of}
use Rattle.law_copies.proofs.Imports.{subst, sym, true, true_false, ℕ}
use Rattle.law_copies.specs.Visits.{AliveIn}
use Rattle.law_copies.specs.CopyProgress.{links_of}
use Rattle.law_copies.specs.Pair.{pair_of}
use Rattle.law_copies.specs.LoneSteps.{HolderKeeps, IsFollowing, IsHolding, OtherKeeps, BallotKeeps, KeepsCell}
use Rattle.law_copies.proofs.CellInBoth.{CellInBoth}
use Rattle.law_copies.proofs.AtSeat.{AtSeat}
use Rattle.law_copies.proofs.ForeignCellsStay.{lost_keeps, not_of_idle, unborn_bare, unborn_keeps, unlinked_keeps}
use Rattle.law_copies.proofs.BallotsFindAllCopied.{ballot_alike, ballot_keeps, pages_keep, with_pages}
use Rattle.law_copies.proofs.EmptyCellsHaveNoChain.{did_filled}
use Rattle.law_copies.proofs.OtherServerChanges.{kept_copying, kept_told}
use Rattle.law_copies.proofs.LeadsFindMarks.{job_marked}
use Rattle.law_copies.proofs.MuteLettersTellNothing.{known_mute, no_page, told_mute}
use Rattle.law_copies.proofs.EpochsRise.{did_rising}
use Rattle.law_copies.proofs.CopyLetters.{page_link, page_map, page_sent, pages_sent}
use Rattle.law_copies.proofs.LettersOfServedCells.{did_copied, did_lives, idle_silent}
use Rattle.law_copies.proofs.RolesOfWorkers.{kept_lives, named_id, one_named}
use Rattle.law_copies.proofs.TwinsAgree.{lead_step, second_step}
use Rattle.law_copies.proofs.CellsWithoutLink.{did_pages, unlinked_apart}
use Rattle.law_copies.proofs.AtJob.{IsKeeping}
use Rattle.law_copies.proofs.HolderJobs as holders
use Rattle.law_copies.proofs.CellChangesKeepCopies as moves
use Rattle.law_copies.proofs.OtherJobs as others
use Rattle.law_copies.proofs.PlacesBeforeJobs as seated

module _ (it : AtSeat) where
  open it use {setting, w, k, firm, rests}

  abbrev here : JobContext
  here = own_place setting w k

  abbrev own : PairState
  own = (w.servers k).own

  plain_here : IsSettledState setting.servers (server_state setting w k)
  plain_here = log_plain setting.servers (w.servers k).log.applied
      (prefix_plain setting.servers (w.servers k).log.applied (chosen_log setting w) firm.plain (firm.servers k))

  -- how many links the cell's map has, by its own entries
  abbrev links_at : Cell → ℕ
  links_at cell = links_of (server_state setting w k) cell.map

  -- a cell whose link is in Both
  abbrev in_both : (cell : Cell) (row : LinkRow) → cell_link here.state cell ≡ Some row → AliveIn here.state cell → row.state ≡ Both → CellInBoth
  in_both cell row is alive both = record {
    heard = Handled w k;
    here = here;
    own = own;
    fit = seated.fit it;
    cell = cell;
    row = row;
    is_row = is;
    alive = alive;
    both_row = both;
  }

  -- ### A job

  pub job_keeping : (done : JobResult) → Did (Handled w k) here own done → IsKeeping setting w k done
  job_keeping done did =
      let steady = seated.steady it in
      let fit = seated.fit it in
      let rising = seated.rising it in
      let filled = seated.filled it in
      let idle = seated.idle_copies it in
      record {
        lead = λ cell row second is alive both leads ok known.
            lead_step (in_both cell row is alive both) leads second idle ok known done did;
        second = λ cell row first is alive both follows ok known.
            second_step (in_both cell row is alive both) follows first ok known done did;
        holder = λ cell row other f. holders.holds (Handled w k) here (links_at cell) row other own cell f done did;
        other = λ cell row holder f. others.follows f done did;
        unlinked = λ cell none alive. unlinked_keeps (Handled w k) here own fit cell alive done did none;
        lost = λ cell row is alive lost. lost_keeps (Handled w k) here own fit cell alive done did row is lost;
        silent = λ cell not_of. idle_silent (Handled w k) here own fit cell (not_of_idle here steady cell not_of) done did;
        lives = λ post i between cell of. did_lives (Handled w k) here own fit cell done did post i between of;
        copied = λ cell last is. did_copied (Handled w k) here own fit cell done did last is;
        paged = λ cell row is post i after block e.
            let a = page_sent (Handled w k) here own done did post i row.map row.link after block e in
            let same = sym a.is ∙ e in
            let name : id_of a.row ≡ id_of row = (λ j. record { map = ap page_map same j; link = ap page_link same j }) in
            let one : row ≡ a.row = one_named here.state cell row a.id a.row is a.named (sym name ∙ named_id here.state a.id a.row a.named) in
            (a.holder, ap (holder_of k) one ∙ a.held);
        pages = pages_sent (Handled w k) here own done did;
        rising = did_rising (Handled w k) here own rising done did;
        filled = did_filled (Handled w k) here own filled done did;
        counts = did_count (Handled w k) here own done did;
        marks = (job_marked (Handled w k) here own fit idle done did).marks;
        unheard = λ cell unborn unheard. record {
          bare = unborn_bare (Handled w k) here own fit cell (omega arith) done did unborn;
          last = (unborn_keeps (Handled w k) here own fit cell (omega arith) done did unborn).rest.followed ∙ unheard.last;
          pages = λ none row map_is.
              did_pages (Handled w k) here own row (unlinked_apart setting.servers (server_state setting w k) plain_here cell none row map_is) done did
              ∙ unheard.pages none row map_is;
        };
      }

  -- ### A ballot

  module _ (started : Option Command) (posts : List Post) (starts : Starts here own started)
      (logged : (post : Post) → In post posts → is_logged (subject_of post.body) ≡ true) where
    abbrev proposes : PairState
    proposes = proposed (server_state setting w k) own started

    -- what the server has then, by which only how far links are is new
    abbrev to : PairState
    to = with_pages own proposes.copies.progress

    same : to ≡ proposes
    same = ballot_alike (server_state setting w k) own started

    abbrev begun : JobResult
    begun = record { own = to; posts = posts; jobs = [] }

    keeps : (cell : Cell) → KeepsCell cell own to
    keeps cell = pages_keep cell own proposes.copies.progress

    mute : (post : Post) → In post posts → is_between (subject_of post.body) ≡ false
    mute post i = logged_apart (subject_of post.body) (logged post i)

    -- of a link that the server's state has not it has nothing in mind
    held_pages : (row : LinkRow)
        → ((id : LinkId) (of : LinkRow) → link_named (server_state setting w k) id ≡ Some of → eq_by_cmp link_cmp (id_of row) (id_of of) ≡ false)
        → (id : LinkId) (o : Option LinkRow) → link_named (server_state setting w k) id ≡ o → progress_on (holds_link own o) row ≡ progress_on own row
    held_pages row apart id None is = refl
    held_pages row apart id (Some of) is = progress_beside own of (record (progress_on own of) { caught = true }) row (apart id of is)

    ballot_pages : (row : LinkRow)
        → ((id : LinkId) (of : LinkRow) → link_named (server_state setting w k) id ≡ Some of → eq_by_cmp link_cmp (id_of row) (id_of of) ≡ false)
        → (o : Option Command) → progress_on (proposed (server_state setting w k) own o) row ≡ progress_on own row
    ballot_pages row apart None = refl
    ballot_pages row apart (Some (Caught of link holder inc other other_inc)) =
        held_pages row apart (record { map = of; link = link }) (link_named (server_state setting w k) (record { map = of; link = link })) refl
    ballot_pages row apart (Some _) = refl

    holder_keeps : (cell : Cell) (row : LinkRow) (other : Option PairState) → IsHolding (Handled w k) here (links_at cell) row cell own other
        → HolderKeeps (Handled w k) (links_at cell) row cell own other begun
    holder_keeps cell row other f =
        let b = subst (BallotKeeps (links_at cell) row cell own other) (sym same)
        (ballot_keeps here (links_at cell) row cell other own f.old f.is (kept_lives (Handled w k) here own f.fit cell f.alive) started starts) in
        record {
          step = record {
            copying = b.copying;
            told = b.told;
            marks = λ m. inl m;
            stored = λ some. some;
            alike = λ now still pages rising a. b.alike now a;
            caught = λ flagged. (refl, (f.old.caught own refl flagged).unmarked, b.flagged flagged);
          };
          says = λ post i of. told_mute row (Some to) other post.body (mute post i);
        }

    other_keeps : (cell : Cell) (row : LinkRow) (holder : Option PairState) → IsFollowing (Handled w k) here (links_at cell) row cell holder own
        → OtherKeeps (links_at cell) row cell holder own begun
    other_keeps cell row holder f = record {
      here = record {
        copying = kept_copying f.old to (keeps cell).rest;
        told = kept_told f.old to (keeps cell).rest;
        marks = λ kind. refl;
        changes = inl refl;
      };
      says = λ post i of. told_mute row holder (Some to) post.body (mute post i);
      pages = λ post i after block e. no_page post.body (mute post i) row.map row.link after block e;
      rising = seated.rising it cell;
    }

    pub ballot_keeping : IsKeeping setting w k (record { own = proposes; posts = posts; jobs = [] })
    ballot_keeping = subst (λ (o : PairState). IsKeeping setting w k (record { own = o; posts = posts; jobs = [] })) same (record {
      lead = λ cell row second is alive both leads ok known. record {
        keeps = moves.first_stays own to second cell refl refl (omega arith) ok;
        recalled = λ op was.
            let staged = (rests.pending k).staged cell op was in
            let on = stage_live (server_state setting w k) cell staged.born alive in
            record { rests = staged.stage on (so_both (server_state setting w k) cell row is both); marks = seated.marks it cell op on was };
        lacks = λ old. old;
        says = λ post i of. known_mute (pair_of to second cell) post.body (mute post i);
        rising = λ rises. rises;
      };
      second = λ cell row first is alive both follows ok known. record {
        keeps = moves.second_stays first own to cell refl refl ok;
        lacks = λ old. old;
        says = λ post i of. known_mute (pair_of first to cell) post.body (mute post i);
        rising = λ rises. rises;
      };
      holder = holder_keeps;
      other = other_keeps;
      unlinked = λ cell none alive. keeps cell;
      lost = λ cell row is alive lost. keeps cell;
      silent = λ cell not_of post i of. mute post i;
      lives = λ post i between cell of. true_false between (mute post i);
      copied = (seated.fit it).copied;
      paged = λ cell row is post i after block e. no_page post.body (mute post i) row.map row.link after block e;
      pages = λ post i map link block after e. no_page post.body (mute post i) map link after (Some block) e;
      rising = seated.rising it;
      filled = seated.filled it;
      counts = omega arith;
      marks = seated.marks it;
      unheard = λ cell unborn unheard. record {
        bare = record { chain = unheard.bare.chain; marks = unheard.bare.marks };
        last = unheard.last;
        pages = λ none row map_is. ballot_pages row (unlinked_apart setting.servers (server_state setting w k) plain_here cell none row map_is) started
            ∙ unheard.pages none row map_is;
      };
    })
