-- Why a server refuses, or tells that no slot is free: what was so in the job in which it said so.
use Rattle.law_answers.proofs.Imports.{◌∙◌, ◌≡◌, Actor, An_entry_to_move, Asks, Body, Bool, Cell, Ending, FoundNoSlot, Handled, HasEnded, In, IsBusy}
use Rattle.law_answers.proofs.Imports.{IsHeldBack, IsNewFill, IsRefusal, Is_declined, JobContext, Key, Letter, Moving, OneMore, PairState, Pending, Post}
use Rattle.law_answers.proofs.Imports.{Setting, Some, Step, Work, World, after, ap, at, by_bool, cell_cmp, cell_of, ended, false, first, free_of, inl, inr}
use Rattle.law_answers.proofs.Imports.{is_aside, is_logged, is_refused, is_second, letters_of_job, logged_notice, notice_aside, own_place, refl, rests_in}
use Rattle.law_answers.proofs.Imports.{setting_in, subject_of, subst, sym, true, true_false, ℕ}
use Rattle.law_steps.specs.DidLead.{Of_the_log}
use Rattle.law_jobs.specs.Sayings.{Says}
use Rattle.law_answers.specs.FullCauses.{LacksRoom}
use Rattle.law_answers.specs.Refusals.{HasNothingOf}
use Rattle.law_answers.proofs.WhatStepsSend.{sent_by}
use Rattle.petal_msg.specs.declared.body.Body.TheVariants as body
use Rattle.petal_msg.specs.declared.letter.Actor.TheVariants as actor
use Rattle.petal_msg.specs.declared.operation.Ending.TheVariants as ending
use Rattle.petal_msg.specs.declared.operation.OpKind.TheVariants as kind
use Rattle.spec_rules.specs.declared.step.WorkEnd.TheVariants as work_end
use Rattle.law_jobs.specs.Sayings as says

-- it refuses, or tells another server that no slot is free
abbrev pub has_reason : Body → Bool
has_reason (body.BlockBusy seq) = true
has_reason (body.Held seq) = true
has_reason (body.NotHere seq) = true
has_reason (body.PairFull number cell) = true
has_reason (body.SyncFull number cell) = true
has_reason (body.FillFull key) = true
has_reason _ = false

reason_not_aside : (said : Body) → has_reason said ≡ true → is_aside (subject_of said) ≡ false
reason_not_aside (body.BlockBusy seq) e = refl
reason_not_aside (body.Held seq) e = refl
reason_not_aside (body.NotHere seq) e = refl
reason_not_aside (body.PairFull number cell) e = refl
reason_not_aside (body.SyncFull number cell) e = refl
reason_not_aside (body.FillFull key) e = refl
reason_not_aside _ e = true_false e refl

logged_none : (said : Body) → is_logged (subject_of said) ≡ true → has_reason said ≡ false
logged_none said e =
    by_bool (has_reason said) (λ on. true_false (notice_aside (subject_of said) (logged_notice (subject_of said) e)) (reason_not_aside said on)) (λ off. off)

ended_none : (seq : ℕ) (how : Ending) → has_reason (ended seq how) ≡ false
ended_none seq ending.Written = refl
ended_none seq ending.Full = refl

asks_none : (here : JobContext) (own : PairState) (post : Post) → Asks here own post → has_reason post.body ≡ false
asks_none here own post (An_entry_to_move _ next) = ap (λ (p : Post). has_reason p.body) next.is
asks_none here own post (Of_the_log _ logged) = logged_none post.body logged
asks_none here own _ _ = refl

module _ (heard : Body → Type 0) (here : JobContext) (own : PairState) where
  -- the second server of the cell was asked, and had no slot; it tells the lead
  pub record TellsLead (to : Actor) (number : ℕ) (cell : Cell) : Type 0 where
    pub lead : ℕ
    pub goes : to ≡ actor.Server lead
    pub leads : first here.state cell ≡ Some lead
    pub follows : is_second here.state here.me cell ≡ true
    pub asked : heard (body.Reserve number cell)
    pub none : FoundNoSlot own cell number

  -- the server was to put the next entry of the last copy of the cell to it, which it has not, and had no free slot; it tells the holder
  pub record Declines (to : Actor) (number : ℕ) (cell : Cell) : Type 0 where
    pub holder : ℕ
    pub goes : to ≡ actor.Server holder
    pub lacks : LacksRoom heard here own holder number cell

  -- there is no slot for the entry that moves: at the lead of its cell, or at the second server
  pub data SaysNone (key : Key) : Type 0 where
    Has_none : (moving : Moving) → moving.key ≡ key → IsNewFill heard here own moving → free_of own.store ≡ 0 → SaysNone key
    Was_declined : (op : Pending) → at cell_cmp own.pairs.pending (cell_of key) ≡ Some op → op.kind ≡ kind.Fill → op.key ≡ key
        → heard (body.PairFull op.op (cell_of key)) → SaysNone key

  abbrev pub Reason : Actor → Body → Type 0
  Reason to (body.BlockBusy seq) = IsBusy heard here own seq
  Reason to (body.Held seq) = IsHeldBack heard here own seq
  Reason to (body.NotHere seq) = HasNothingOf heard here own to seq
  Reason to (body.PairFull number cell) = TellsLead to number cell
  Reason to (body.SyncFull number cell) = Declines to number cell
  Reason to (body.FillFull key) = SaysNone key
  Reason to _ = Unit {0}

  unreasoned : (to : Actor) (said : Body) → has_reason said ≡ false → Reason to said
  unreasoned to (body.BlockBusy seq) e = true_false refl e
  unreasoned to (body.Held seq) e = true_false refl e
  unreasoned to (body.NotHere seq) e = true_false refl e
  unreasoned to (body.PairFull number cell) e = true_false refl e
  unreasoned to (body.SyncFull number cell) e = true_false refl e
  unreasoned to (body.FillFull key) e = true_false refl e
  unreasoned to _ e = tt

  refusal_reason : (to : Actor) (said : Body) → IsRefusal said → ((seq : ℕ) → said ≡ body.BlockBusy seq → IsBusy heard here own seq)
      → ((seq : ℕ) → said ≡ body.Held seq → IsHeldBack heard here own seq) → Reason to said
  refusal_reason to (body.BlockBusy seq) is busy held = busy seq refl
  refusal_reason to (body.Held seq) is busy held = held seq refl
  refusal_reason to (body.NotHere seq) is busy held = true_false refl is.other
  refusal_reason to (body.PairFull number cell) is busy held = true_false refl (ap is_refused (sym is.refused))
  refusal_reason to (body.SyncFull number cell) is busy held = true_false refl (ap is_refused (sym is.refused))
  refusal_reason to (body.FillFull key) is busy held = true_false refl (ap is_refused (sym is.refused))
  refusal_reason to _ is busy held = tt

  module _ (keyed : (cell : Cell) (op : Pending) → at cell_cmp own.pairs.pending cell ≡ Some op → cell_of op.key ≡ cell) where
    full_reason : (op : Pending) → HasEnded heard here own op ending.Full → op.kind ≡ kind.Fill → SaysNone op.key
    full_reason op (Is_declined _ h is reserved put) fill =
        let same : op.cell ≡ cell_of op.key = sym (keyed op.cell op is) in
        Was_declined op (subst (λ (c : Cell). at cell_cmp own.pairs.pending c ≡ Some op) same is) fill refl
        (subst (λ (c : Cell). heard (body.PairFull op.op c)) same h)

    reason_of : (new : PairState) (post : Post) → Says heard here own new post → Reason post.to post.body
    reason_of new _ (says.Refuses to said is busy held) = refusal_reason to said is busy held
    reason_of new _ (says.Shows_nothing client seq cell epoch may comes none of_read) =
        record { client = client; to_client = refl; cell = cell; epoch = epoch; may = may; comes = comes; none = none }
    reason_of new _ (says.Repeats want last same h lead is e) = unreasoned _ _ (ended_none want.seq last.ending)
    reason_of new _ (says.Ends client last why is) = unreasoned _ _ (ended_none last.seq last.ending)
    reason_of new _ (says.Has_no_slot number cell to same h follows found leads) =
        record { lead = to; goes = refl; leads = leads; follows = follows; asked = h; none = found }
    reason_of new _ (says.Is_sync_full entry holder last same of_copy spot full fresh) =
        record {
          holder = holder;
          goes = refl;
          lacks = record { entry = entry; last = last; asked = of_copy; number_is = refl; cell_is = refl; next = spot; none_free = full; not_there = fresh };
        }
    reason_of new _ (says.Has_no_room moving to same fresh full so) = Has_none moving refl fresh full
    reason_of new _ (says.Ends_fill op ending.Written to ended is none so) = tt
    reason_of new _ (says.Ends_fill op ending.Full to ended is none so) = full_reason op ended is
    reason_of new post (says.Moves _ same next) = subst (λ (p : Post). Reason p.to p.body) (sym next.is) tt
    reason_of new post (says.Moves_on key row _ same h is next) = subst (λ (p : Post). Reason p.to p.body) (sym next.is) tt
    reason_of new post (says.Of_the_log _ logged) = unreasoned post.to post.body (logged_none post.body logged)
    reason_of new _ _ = tt

-- a server found the reason, in a job that it did in this step
pub record HasFound (setting : Setting) (w : World) (who to : Actor) (what : Step) (said : Body) : Type 0 where
  pub server : ℕ
  pub is : who ≡ actor.Server server
  pub works : what ≡ Work work_end.Done
  pub reason : Reason (Handled w server) (own_place setting w server) (w.servers server).own to said

pub reason_found : (it : OneMore) (letter : Letter) (said : Body) → In letter it.own.sent → letter.body ≡ said → has_reason said ≡ true
    → HasFound (setting_in it.prior) (after it.prior) it.own.actor letter.to it.own.step said
reason_found it letter said i says e =
    let here = own_place (setting_in it.prior) (after it.prior) in
    let servers = (after it.prior).servers in
    let on : has_reason letter.body ≡ true = ap has_reason says ∙ e in
    elim (sent_by it letter i) [
      | inr aside ↦ true_false aside (reason_not_aside letter.body on)
      | inl s ↦ elim s.works [
        | inr idle ↦ true_false (sym (ap has_reason s.body) ∙ on) (asks_none (here s.server) (servers s.server).own s.post (idle.asks s.post s.there))
        | inl works ↦ (
            let hears = Handled (after it.prior) s.server in
            let own = (servers s.server).own in
            let keyed = λ (cell : Cell) (op : Pending) (is : at cell_cmp own.pairs.pending cell ≡ Some op).
            (((rests_in it.prior).pending s.server).staged cell op is).keyed in
            let reason = reason_of hears (here s.server) own keyed s.done.own s.post
            (letters_of_job hears (here s.server) own s.done s.did s.post s.there) in
            record {
              server = s.server;
              is = s.is;
              works = works;
              reason = subst (Reason hears (here s.server) own letter.to) says
                  (subst (λ (b : Body). Reason hears (here s.server) own letter.to b) (sym s.body)
                  (subst (λ (a : Actor). Reason hears (here s.server) own a s.post.body) (sym s.to) reason));
            })
      ]
    ]
