-- Each step keeps it that entries move to cells whose region is on its way.
use Rattle.law_jobs.proofs.Imports.{Acted, AreFirm, AreStepsFrom, Aside, Blanks, By_ballot, By_entry, By_job, Command, Ends, Fails, Filling, Firm, Goes}
use Rattle.law_jobs.proofs.Imports.{Handled, Happens, IsNextFill, IsOfJob, IsPrefix, Letter, Log, Of_job, Pairs, Record, Rests, Script, Server, Serves}
use Rattle.law_jobs.proofs.Imports.{Serving, Setting, State, Stays, Step, Subject, Turns, Wakes, Was_sent, Worked, World, all_put, at-empty, below_itself}
use Rattle.law_jobs.proofs.Imports.{blanked, chosen_log, chosen_state, coming, crossed, firm_now, happens, happens_sent, is_aside, is_clients, length}
use Rattle.law_jobs.proofs.Imports.{log_rev, next_comes, none_some, own_place, own_plain, prefix_on, proposed_pairs, rests_next, settling, state_after}
use Rattle.law_jobs.proofs.Imports.{stepped, subject_of, world_after}
use Rattle.law_steps.proofs.Imports.{[], ◌∙◌, ◌∷◌, ◌≡◌, Body, Cell, In, JobResult, Key, List, PairState, Pending, Post, Some, ap, at, cell_cmp, cell_of}
use Rattle.law_steps.proofs.Imports.{false, refl, setting_of, start, subst, sym, true, true_false, ℕ}
use Rattle.law_jobs.specs.ComingCells.{AreComing, WasComing}
use Rattle.law_jobs.proofs.FillsByJobs.{Stood, Writes, Fills, Is_other, Is_next, did_come, did_fills, is_fill, is_filling, other_subject}
use Rattle.petal_msg.specs.declared.body.Body.TheVariants as body
use Rattle.petal_msg.specs.declared.operation.OpKind.TheVariants as kind

aside_other : (subject : Subject) → is_aside subject ≡ true → is_filling subject ≡ false
aside_other Filling e = true_false e refl
aside_other _ e = refl

-- ### One step

abbrev key_in : Key → Body → Key
key_in key (body.Fill there bytes) = there
key_in key _ = key

was_on : (setting : Setting) (w v : World) → IsPrefix (chosen_log setting w) (chosen_log setting v) → (rev : ℕ) (cell : Cell) → WasComing setting w rev cell
    → WasComing setting v rev cell
was_on setting w v grows rev cell was =
    record { prefix = was.prefix; lies = prefix_on was.prefix _ _ was.lies grows; long = was.long; coming = was.coming }

module _ (setting : Setting) (w : World) (firm : Firm setting w) (c : AreComing setting w) (n : ℕ) where
  abbrev log : List Command
  log = (w.servers n).log.applied

  -- the next entry of a link, at the server's own state
  next_was : (own : PairState) (post : Post) (f : IsNextFill (own_place setting w n) own post) (key : Key) (bytes : List ℕ) → post.body ≡ body.Fill key bytes
      → WasComing setting w (length log) (cell_of key)
  next_was own post f key bytes e =
      let said_is : body.Fill key bytes ≡ _ = sym e ∙ ap (λ (p : Post). p.body) f.is in
      let cell_is : cell_of key ≡ f.cell = ap cell_of (ap (key_in key) said_is) in
      record {
        prefix = log;
        lies = firm.servers n;
        long = refl;
        coming = ap (coming (state_after setting.servers log)) cell_is
            ∙ next_comes setting.servers log (own_plain setting w firm n) (own_place setting w n) refl own post f;
      }

  -- what a server's job says
  said_was : (stamp : ℕ) (what : Step) (acted : Acted) (letter : Letter) (key : Key) (bytes : List ℕ) → IsOfJob setting w n stamp what acted letter
      → letter.body ≡ body.Fill key bytes → WasComing setting w letter.rev (cell_of key)
  said_was stamp what acted letter key bytes job e =
      elim (did_fills (Handled w n) (own_place setting w n) (w.servers n).own job.done job.did job.post job.there) [
        | Is_other apart ↦ true_false (ap is_fill (sym job.body ∙ e)) apart
        | Is_next own kept told f ↦
            subst (λ r. WasComing setting w r (cell_of key)) (sym (job.rev ∙ log_rev setting.servers log))
            (next_was own job.post f key bytes (sym job.body ∙ e))
      ]

  -- what a server has pending after a job
  worked_was : (after : Log) (done : JobResult) → Worked setting w n after done → (cell : Cell) (op : Pending)
      → at cell_cmp done.own.pairs.pending cell ≡ Some op → op.kind ≡ kind.Fill → WasComing setting w op.rev cell
  worked_was _ _ (By_job after done same did seat) cell op is e =
      elim (did_come (Handled w n) (own_place setting w n) (w.servers n).own done did cell op is) [
        | Stood was ↦ subst (λ r. WasComing setting w r cell) was.same.rev (c.opened n cell was.was was.is (was.same.kind ∙ e))
        | Writes write ↦ (let f : true ≡ false = ap is_clients (sym write ∙ e) in absurd cc)
        | Fills o ↦ (
            let h = o.asked in
            let sent = c.sent h.letter o.moving.key o.moving.bytes h.sent h.is in
            subst (λ (q : Cell). WasComing setting w op.rev q) o.cell_is
            (subst (λ r. WasComing setting w r (cell_of o.moving.key)) (h.at ∙ sym (log_rev setting.servers log) ∙ sym o.rev) sent))
      ]
  worked_was _ _ (By_ballot after started posts same starts says) cell op is e =
      c.opened n cell op
      (sym (ap (λ (p : Pairs). at cell_cmp p.pending cell) (proposed_pairs (own_place setting w n).state (w.servers n).own started)) ∙ is) e
  worked_was _ _ (By_entry after entry more prefix) cell op is e =
      let same = (settling (own_place setting w n) entry (crossed (own_place setting w n).state entry (w.servers n).own)).pairs in
      c.opened n cell op (sym (ap (λ (p : Pairs). at cell_cmp p.pending cell) same) ∙ is) e

  opened_was : (what : Step) (acted : Acted) → Serving setting w n what acted → (cell : Cell) (op : Pending)
      → at cell_cmp acted.server.own.pairs.pending cell ≡ Some op → op.kind ≡ kind.Fill → WasComing setting w op.rev cell
  opened_was what _ (Goes after done queue runs worked queued works) cell op is e = worked_was after done worked cell op is e
  opened_was what _ (Ends after done runs worked) cell op is e = worked_was after done worked cell op is e
  opened_was what _ (Stays who posts from shown) cell op is e = c.opened n cell op is e
  opened_was what _ (Wakes booted asleep) cell op is e = none_some (at-empty cell_cmp cell) is
  opened_was what _ (Fails booted asleep) cell op is e = c.opened n cell op is e

module _ (setting : Setting) (w v : World) (firm : Firm setting w) (c : AreComing setting w) (grows : IsPrefix (chosen_log setting w) (chosen_log setting v))
    (state : State) where
  abbrev AreOpened : (n : ℕ) → Server → Type 0
  AreOpened n server = (cell : Cell) (op : Pending) → at cell_cmp server.own.pairs.pending cell ≡ Some op → op.kind ≡ kind.Fill
      → WasComing setting w op.rev cell

  opened_then : (u : World) → Happens setting state w u → (n : ℕ) → AreOpened n (u.servers n)
  opened_then _ (Serves n stamp what acted lt small same serving) =
      all_put w.servers n acted.server AreOpened c.opened (opened_was setting w firm c n what acted serving)
  opened_then _ (Blanks n stamp lt small asleep) = all_put w.servers n (blanked (w.servers n)) AreOpened c.opened (c.opened n)
  opened_then _ (Turns k stamp in_call reacted lt small turned onward) = c.opened

  comes_next : Happens setting state w v → AreComing setting v
  comes_next happened = record {
    sent = λ letter key bytes i e. elim (happens_sent setting state w v happened letter i) [
      | Was_sent old ↦ was_on setting w v grows letter.rev (cell_of key) (c.sent letter key bytes old e)
      | Of_job n stamp what acted job now others ↦
          was_on setting w v grows letter.rev (cell_of key) (said_was setting w firm c n stamp what acted letter key bytes job e)
      | Aside apart ↦ true_false (ap is_fill e) (other_subject letter.body (aside_other (subject_of letter.body) apart))
    ];
    opened = λ n cell op is e. was_on setting w v grows op.rev cell (opened_then v happened n cell op is e);
  }

-- ### Histories

pub comes_after : (setting : Setting) (w : World) (records : List Record) → AreFirm setting w records → Rests setting w → AreComing setting w
    → AreStepsFrom setting w records → AreComing setting (world_after setting w records)
comes_after setting w [] firm rests c legal = c
comes_after setting w (own ∷ later) firm rests c legal =
    let v = (stepped setting w own).world in
    let next = firm_now setting v later firm.2 in
    comes_after setting v later firm.2 (rests_next setting w own rests firm.0 legal.0 next)
    (comes_next setting w v firm.0 c firm.1 (chosen_state setting v)
    (happens setting w own rests firm.0 legal.0 next (chosen_state setting v) (below_itself (chosen_state setting v)))) legal.1

pub start_comes : (script : Script) → AreComing (setting_of script) (start (setting_of script))
unfolding In
start_comes script = record {
  sent = λ letter key bytes i e. absurd i;
  opened = λ n cell op is e. none_some (at-empty cell_cmp cell) is;
}
