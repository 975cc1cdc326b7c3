-- Each kind of job refuses for a reason.
use Rattle.law_answers.proofs.Imports.{◌<◌, ◌∙◌, ◌≡◌, ◌≤◌, ◌⊎◌, A_slot, An_entry_to_move, Asks, Asks_slot, Body, By_operation, Cell, Did, Ending, Ends_fill}
use Rattle.law_answers.proofs.Imports.{Finished, For_a_fill, For_a_write, FoundNoSlot, Had_no_slot, Handled, HasCome, Has_no_slot, In, IsFinishedFor}
use Rattle.law_answers.proofs.Imports.{IsSeatedOrMute, IsSteady, Is_declined, Is_new, JobContext, JobResult, List, Moves, Moves_on, None, PairState, Pending}
use Rattle.law_answers.proofs.Imports.{Post, Refused, Repeats, Some, Stood, Table, Was, Work, World, ap, arith, at, both_first, both_leads, both_row, by_bool}
use Rattle.law_answers.proofs.Imports.{cell_cmp, chosen_log, did_come, did_count, did_finish, ended, false, finished_of, first, in_both, in_once, inl, inr}
use Rattle.law_answers.proofs.Imports.{is_clients, is_in, is_logged, is_second, is_the_one, lead_first, leads_link, letters_of_job, live, moved_as, none_some}
use Rattle.law_answers.proofs.Imports.{one_client, one_prefix, own_place, own_steady, pending_on, put, refl, retired_second, same_some, second, second_both}
use Rattle.law_answers.proofs.Imports.{state_after, subject_of, subst, sym, to_client, to_server, true, was_same, ℕ}
use Rattle.law_answers.proofs.SlotLetters.{Duty, no_duty, is_of_slots, not_full, logged_not_full, TellsNone, JobRefuses, Scene, still, moved_not_full}
use Rattle.law_answers.proofs.SlotLetters.{one_server}
use Rattle.law_answers.specs.Refusals.{HadNoSlot, At_the_lead, At_the_second, Refusals}
use Rattle.law_steps.specs.DidLead.{Of_the_log}
use Rattle.law_jobs.specs.Sayings.{Says}
use Rattle.petal_msg.specs.declared.body.Body.TheVariants as body
use Rattle.petal_msg.specs.declared.letter.Actor.TheVariants as actor
use Rattle.petal_msg.specs.declared.operation.Ending.TheVariants as ending
use Rattle.spec_rules.specs.declared.step.WorkEnd.TheVariants as work_end
use Rattle.law_jobs.specs.Sayings as says

module _ (R S : ℕ → ℕ → Type 0) (scene : Scene R S) where
  abbrev w : World
  w = scene.w

  abbrev n : ℕ
  n = scene.n

  abbrev runs : (w.servers n).life.running ≡ true
  runs = scene.runs

  abbrev more : (c seq : ℕ) → R c seq → S c seq
  more = scene.more

  abbrev refusals : Refusals R scene.setting w
  refusals = scene.refusals

  abbrev here : JobContext
  here = own_place scene.setting w n

  abbrev own : PairState
  own = (w.servers n).own

  steady : IsSteady here.state
  steady = own_steady scene.setting w scene.firm n

  pending_seat : (cell : Cell) (op : Pending) → at cell_cmp own.pairs.pending cell ≡ Some op → is_in here.state n here.inc ≡ true
  pending_seat cell op is = scene.rests.seated n cell op runs is

  abbrev J : PairState → List Post → Type 0
  J new posts = JobRefuses S scene.setting w n new posts

  abbrev hears : Body → Type 0
  hears = Handled w n

  -- an operation that the second server has no slot for: its letter has the server's revision, so it is of this incarnation
  declined_op : (op : Pending) → hears (body.PairFull op.op op.cell) → at cell_cmp own.pairs.pending op.cell ≡ Some op → is_clients op.kind ≡ true
      → S op.client op.seq
  declined_op op h is clients =
      let d = refusals.declined h.letter op.op op.cell h.sent h.is in
      let k = d.by in
      let mine : k.server ≡ n = one_server (sym d.to ∙ h.own) in
      let same : k.prefix ≡ (w.servers n).log.applied =
      one_prefix k.prefix (w.servers n).log.applied (chosen_log scene.setting w) k.stands (scene.firm.servers n) (k.long ∙ h.at) in
      let seated : is_in here.state n k.inc ≡ true =
      subst (λ i. is_in here.state i k.inc ≡ true) mine
      (subst (λ log. is_in (state_after scene.setting.servers log) k.server k.inc ≡ true) same k.seated) in
      let inc_is : here.inc ≡ k.inc = in_once here.state n here.inc k.inc (pending_seat op.cell op is) seated in
      more op.client op.seq (d.refused op (subst (λ i. (w.servers i).life.inc ≡ k.inc) (sym mine) inc_is)
      (subst (λ i. at cell_cmp (w.servers i).own.pairs.pending op.cell ≡ Some op) (sym mine) is) refl clients)

  -- a cell with a second server is live
  in_live : (cell : Cell) (to : ℕ) → second here.state cell ≡ Some to → live here.state cell ≡ true
  in_live cell to e = by_bool (live here.state cell) (λ on. on) (λ off. none_some (retired_second here.state cell off) e)

  -- and its first server leads its link
  first_of : (cell : Cell) → leads_link here.state n cell ≡ true → live here.state cell ≡ true → in_both here.state cell ≡ true
      → first here.state cell ≡ Some n
  first_of cell leads lives both =
      let row = both_row here.state cell both in
      let lead = sym (both_leads here.state cell row.row row.is row.both) ∙ is_the_one _ n leads in
      both_first here.state cell row.row row.is lives row.both ∙ lead

  abbrev Due : PairState → Post → Body → Type 0
  Due = Duty S scene.setting w n

  undue : (new : PairState) (post : Post) (said : Body) → is_of_slots said ≡ false → Due new post said
  undue = no_duty S scene.setting w n

  -- what is asked of other servers: slots for operations that are pending
  asks_duty : (post : Post) → Asks here own post → Due own post post.body
  asks_duty _ (A_slot op to is stage e) =
      let staged = (scene.rests.pending n).staged op.cell op is in
      let both : in_both here.state op.cell ≡ true = second_both here.state steady op.cell to e in
      record {
        seated = pending_seat op.cell op is;
        leads = first_of op.cell (staged.leads (in_live op.cell to e)) (in_live op.cell to e) both;
        given = refusals.numbered n op.cell op is;
      }
  asks_duty post (An_entry_to_move _ next) = subst (λ (p : Post). Due own p p.body) (sym next.is) tt
  asks_duty _ (Of_the_log post e) = undue own post post.body (logged_not_full post.body e)
  asks_duty _ _ = tt

  pub asks_refuses : (posts : List Post) → ((post : Post) → In post posts → Asks here own post) → J own posts
  asks_refuses posts asks = record {
    finished = λ c last is how. inl is;
    next = omega arith;
    pending = λ cell op is. inl (was_same own cell op is);
    says = λ post i. asks_duty post (asks post i);
  }

  -- an operation that is new is one of a server that is In as itself
  new_seat : (done : JobResult) → IsSeatedOrMute here own done → (cell : Cell) (op : Pending) → pending_on own cell ≡ None
      → at cell_cmp done.own.pairs.pending cell ≡ Some op → is_in here.state n here.inc ≡ true
  new_seat done (inl seat) cell op none there = seat
  new_seat done (inr apart) cell op none there = none_some none (sym (ap (λ (o : PairState). at cell_cmp o.pairs.pending cell) apart.same) ∙ there)

  -- a ballot, and an entry that is applied, leave them too
  pub kept_refuses : (new : PairState) (posts : List Post) → new.pairs.finished ≡ own.pairs.finished → new.pairs.next ≡ own.pairs.next
      → new.pairs.pending ≡ own.pairs.pending → ((post : Post) → In post posts → is_logged (subject_of post.body) ≡ true) → J new posts
  kept_refuses new posts finished next pending says =
      still S scene.setting w n posts new finished (omega arith) pending (λ post i. logged_not_full post.body (says post i))

  -- ### A job that may refuse

  abbrev Opens : PairState → Type 0
  Opens new = (op : Pending) → pending_on own op.cell ≡ None → pending_on new op.cell ≡ Some op → is_in here.state n here.inc ≡ true

  module _ (now : (c seq : ℕ) → HadNoSlot scene.setting w (actor.Server n) (Work work_end.Done) c seq → S c seq) where
    -- a request is finished for want of a slot: the lead has none, or the second server told it that it has none
    finish_refuses : (pending : Table Cell Pending) (client : ℕ) (last : Finished) → IsFinishedFor hears here own pending client last
        → last.ending ≡ ending.Full → S client last.seq
    finish_refuses pending _ _ (Had_no_slot want new full gone) how =
        now want.client want.seq (At_the_lead n want.cell want.epoch want.bytes refl refl new.lead new.wanted new.newer new.none full)
    finish_refuses pending _ _ (By_operation _ _ (Is_declined op h is reserved put) write gone) how = declined_op op h is (ap is_clients write)
    finish_refuses pending _ _ (By_operation op ending.Written ended write gone) how = absurd (let e : ending.Written ≡ ending.Full = how in cc)

    ended_duty : (new : PairState) (client number : ℕ) (how : Ending) → (how ≡ ending.Full → S client number)
        → Due new (to_client client (ended number how)) (ended number how)
    ended_duty new client number ending.Written refused = tt
    ended_duty new client number ending.Full refused = λ c to. subst (λ x. S x number) (one_client to) (refused refl)

    -- the second server tells the first one of its own state, which sent the letter that asked
    declines : (number : ℕ) (cell : Cell) (to : ℕ) → hears (body.Reserve number cell) → is_second here.state n cell ≡ true
        → FoundNoSlot own cell number → first here.state cell ≡ Some to
        → TellsNone S scene.setting w n (to_server to (body.PairFull number cell)) number cell
    declines number cell to h s no_room first_is =
        let asked = refusals.reserves h.letter number cell h.sent h.is in
        let same : asked.prefix ≡ (w.servers n).log.applied =
        one_prefix asked.prefix (w.servers n).log.applied (chosen_log scene.setting w) asked.stands (scene.firm.servers n)
        (asked.long ∙ h.at) in
        let leads : first here.state cell ≡ Some asked.server =
        subst (λ log. first (state_after scene.setting.servers log) cell ≡ Some asked.server) same asked.leads in
        record {
          letter = h.letter;
          revision = h.at;
          asked = asked;
          to = ap actor.Server (same_some (sym first_is ∙ leads));
          refused = λ op is numbered clients.
              now op.client op.seq (At_the_second asked.server n cell op refl refl leads (is_the_one _ n s) is clients refl refl
              (subst (λ j. hears (body.Reserve j cell)) (sym numbered) h) (subst (FoundNoSlot own cell) (sym numbered) no_room));
        }

    says_duty : (new : PairState) → Opens new → (post : Post) → Says hears here own new post → Due new post post.body
    says_duty new opens _ (says.Refuses to said is busy held) = undue new _ said (not_full said Refused is.refused refl)
    says_duty new opens _ (Repeats want last same h lead is e) =
        ended_duty new want.client want.seq last.ending
        (λ how. subst (S want.client) (sym e) (more want.client last.seq (refusals.finished n want.client last runs is how)))
    says_duty new opens _ (says.Ends client last why is) =
        ended_duty new client last.seq last.ending (finish_refuses new.pairs.pending client last why)
    says_duty new opens _ (says.Opens op to lead both none is number next so) =
        record { seated = opens op none is; leads = lead_first here.state steady n op.cell lead both; given = omega arith }
    says_duty new opens _ (Asks_slot op to same is stage so) =
        let a = asks_duty _ (A_slot op to is stage so) in
        record { seated = a.seated; leads = a.leads; given = subst (λ (o : PairState). op.op < o.pairs.next) (sym same) a.given }
    says_duty new opens _ (Has_no_slot number cell to same h follows found so) = declines number cell to h follows found so
    says_duty new opens _ (Ends_fill op how to ended is none so) = undue new _ (moved_as op.key how) (moved_not_full op.key how)
    says_duty new opens post (Moves _ same next) = subst (λ (p : Post). Due new p p.body) (sym next.is) tt
    says_duty new opens post (Moves_on key row _ same h is next) = subst (λ (p : Post). Due new p p.body) (sym next.is) tt
    says_duty new opens post (says.Of_the_log _ logged) = undue new post post.body (logged_not_full post.body logged)
    says_duty new opens _ _ = tt

    pending_refuses : (new : PairState) (cell : Cell) (op : Pending) → HasCome hears here own new.pairs.next cell op
        → Was own cell op ⊎ ((own.pairs.next ≤ op.op) × (op.op < new.pairs.next))
    pending_refuses new cell op (Stood was) = inl was
    pending_refuses new cell op (Is_new _ (For_a_write want fresh) e same le) = let number = same.number in inr (omega arith, omega arith)
    pending_refuses new cell op (Is_new _ (For_a_fill moving fresh) e same le) = let number = same.number in inr (omega arith, omega arith)

    pub job_refuses : (done : JobResult) → Did hears here own done → IsSeatedOrMute here own done → J done.own done.posts
    job_refuses done d seat = record {
      finished = λ c last is how.
          elim (finished_of hears here own done.own.pairs.finished done.own.pairs.pending (did_finish hears here own done d) c last is) [
            | inl was ↦ inl was
            | inr why ↦ inr (finish_refuses done.own.pairs.pending c last why how)
          ];
      next = did_count hears here own done d;
      pending = λ cell op is. pending_refuses done.own cell op (did_come hears here own done d cell op is);
      says = λ post i. says_duty done.own (λ op none there. new_seat done seat op.cell op none there) post (letters_of_job hears here own done d post i);
    }
