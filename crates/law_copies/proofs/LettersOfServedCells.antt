-- A server speaks of pairs and copies only of live cells whose link it is of.
use Rattle.law_copies.proofs.Imports.{◌∙◌, ◌≡◌, ◌⊎◌, A_copy, As_copy, Asks_copy, Asks_slot, Begins, Body, Cell, Copying, Did, Effect, Ends_fill, Entry}
use Rattle.law_copies.proofs.Imports.{Has_copy, Has_slot, In, IsCopying, IsOfCopy, IsPutFor, Is_copied, Is_sync_full, Is_synced, JobContext, JobResult, Key}
use Rattle.law_copies.proofs.Imports.{LastCopy, May, Moves, Moves_on, PairState, Pending, Post, Puts, Says, Some, Stored, Syncs, Tells_page, Trims, about}
use Rattle.law_copies.proofs.Imports.{after, ap, applied, at, both, by_bool, cell_holder, cell_of, ended, false, first_last, follows, inl, inr, is_between}
use Rattle.law_copies.proofs.Imports.{is_lead, is_second, job_keeps, last_copy, lead_links, leads_link, letters_of_job, live, logged_apart, none_some}
use Rattle.law_copies.proofs.Imports.{pending_on, put_with, refl, retired_second, said, same_some, second, subject_of, subst, sym, true, true_false, ℕ}
use Rattle.law_jobs.specs.Sayings.{Goes_on, Ends}
use Rattle.law_copies.specs.LoneSteps.{IsFit}
use Rattle.law_copies.proofs.ForeignCellsStay.{IsIdleAt}
use Rattle.law_copies.proofs.MuteLettersTellNothing.{ended_mute, moved_mute}
use Rattle.law_copies.proofs.RolesOfWorkers.{IsHeldBy, IsHeldHere, begun_held, entry_held, second_live, taken_held}
use Rattle.petal_msg.specs.declared.body.Body.TheVariants as body
use Rattle.law_jobs.specs.Sayings as says

module _ (heard : Body → Type 0) (here : JobContext) (own : PairState) where
  -- the cell is live, and the server has to do with it
  pub record IsSpoken (cell : Cell) : Type 0 where
    pub lives : live here.state cell ≡ true
    pub role : (leads_link here.state here.me cell ≡ true) ⊎ (is_second here.state here.me cell ≡ true) ⊎ IsHeldHere here cell ⊎ IsHeldBy here cell

  led_spoken : (cell : Cell) → is_lead here.state here.me cell ≡ true → IsSpoken cell
  led_spoken cell lead = let led = lead_links here.state here.me cell lead in record { lives = led.0; role = inl led.1 }

  second_spoken : (cell : Cell) → is_second here.state here.me cell ≡ true → IsSpoken cell
  second_spoken cell so = record { lives = second_live here cell so; role = inr (inl so) }

  holder_spoken : (cell : Cell) → IsHeldHere here cell → IsSpoken cell
  holder_spoken cell held = record { lives = held.lives; role = inr (inr (inl held)) }

  other_spoken : (cell : Cell) → IsHeldBy here cell → IsSpoken cell
  other_spoken cell held = record { lives = held.lives; role = inr (inr (inr held)) }

  module _ (fit : IsFit heard here own) (q : Cell) where
    -- ### What is remembered of copies

    abbrev IsLive : PairState → Type 0
    IsLive now = (last : LastCopy) → last_copy now q ≡ Some last → live here.state q ≡ true

    put_live : (key : Key) (stored : Stored) (last : LastCopy) → IsPutFor heard here own key stored (As_copy last) → live here.state (cell_of key) ≡ true
    put_live _ _ _ (A_copy entry holder last of at) = fit.copied (cell_of entry.key) last of.last_is

    each_live : (now : PairState) (e : Effect) → May heard here own now e → IsLive now → IsLive (applied now e)
    each_live now (Is_copied cell number epochs) may so last is = put_with (λ last. live here.state q ≡ true) now.copies.last cell q (first_last number epochs)
        (λ e. ap (live here.state) e ∙ fit.lives (body.Trim number cell epochs) may.0.said refl cell refl) so last is
    each_live now (Puts key stored (As_copy next)) may so last is = put_with (λ last. live here.state q ≡ true) now.copies.last (cell_of key) q next
        (λ e. ap (live here.state) e ∙ put_live key stored next may.0) so last is
    each_live now _ may so last is = so last is

    pub did_copied : (done : JobResult) → Did heard here own done → IsLive done.own
    did_copied = job_keeps heard here own IsLive each_live (fit.copied q)

    -- ### What is said

    abbrev MaySpeak : Body → Type 0
    MaySpeak said = (is_between (subject_of said) ≡ false) ⊎ IsSpoken q

    spoken : (cell : Cell) → IsSpoken cell → Some cell ≡ Some q → IsSpoken q
    spoken cell so e = subst IsSpoken (same_some e) so

    op_spoken : (op : Pending) (to : ℕ) → pending_on own op.cell ≡ Some op → second here.state op.cell ≡ Some to → IsSpoken op.cell
    op_spoken op to is so =
        let on = by_second op.cell to so in
        record { lives = on; role = inl ((fit.ready.staged op.cell op is).leads on) }
      where
        by_second : (cell : Cell) (to : ℕ) → second here.state cell ≡ Some to → live here.state cell ≡ true
        by_second cell to so = by_bool (live here.state cell) (λ on. on) (λ off. none_some (retired_second here.state cell off) so)

    copying_spoken : (cell : Cell) (now : PairState) (copy : Copying) → IsCopying heard here own cell now copy → IsSpoken cell
    copying_spoken cell _ _ (Begins id row other held next) = holder_spoken cell (begun_held heard here own fit id row other cell held next)
    copying_spoken cell _ _ (Goes_on now copy taken) = holder_spoken cell (taken_held heard here own fit cell now copy taken)

    entry_spoken : (entry : Entry) (holder : ℕ) (last : LastCopy) → IsOfCopy heard here own entry holder last → IsSpoken (cell_of entry.key)
    entry_spoken entry holder last of = other_spoken (cell_of entry.key) (entry_held heard here own fit entry holder last of)

    may_speak : (new : PairState) → IsLive new → (post : Post) → Says heard here own new post → (about post.body).cell ≡ Some q → MaySpeak post.body
    may_speak new lives _ (says.Refuses to said is busy held) e = inl (ap is_between is.refused)
    may_speak new lives _ (says.Repeats want last same h lead is so) e = inl (ended_mute want.seq last.ending)
    may_speak new lives _ (Ends client last why is) e = inl (ended_mute last.seq last.ending)
    may_speak new lives _ (says.Opens op to lead both none is number next so) e = inr (spoken op.cell (led_spoken op.cell lead) e)
    may_speak new lives _ (Asks_slot op to same is stage so) e = inr (spoken op.cell (op_spoken op to is so) e)
    may_speak new lives _ (Asks_copy op to same is stage so) e =
        inr (spoken op.cell (op_spoken op to is so) (ap Some (sym (fit.ready.staged op.cell op is).keyed) ∙ e))
    may_speak new lives _ (Has_slot number cell to follows is so) e = inr (spoken cell (second_spoken cell follows) e)
    may_speak new lives _ (says.Has_no_slot number cell to same h follows found so) e = inr (spoken cell (second_spoken cell follows) e)
    may_speak new lives _ (Has_copy number cell to follows is so) e = inr (spoken cell (second_spoken cell follows) e)
    may_speak new lives _ (says.Asks_page row to same so fresh) e = none_some refl e
    may_speak new lives _ (Tells_page id row after to same h named held) e = none_some refl e
    may_speak new lives _ (Trims cell copy to copies fresh so) e = inr (spoken cell (copying_spoken cell new copy copies) e)
    may_speak new lives _ (says.Is_trimmed cell last holder held is none) e =
        let same : cell ≡ q = same_some e in
        let on = lives last (subst (λ (c : Cell). last_copy new c ≡ Some last) same is) in
        inr (other_spoken q (record { lives = on; holder = holder; held = subst (λ (c : Cell). cell_holder here c ≡ Some holder) same held }))
    may_speak new lives _ (Syncs cell copy row to copies trimmed spot so) e = inr (spoken cell (copying_spoken cell new copy copies) e)
    may_speak new lives _ (Is_synced entry holder last later of is number lt) e = inr (spoken (cell_of entry.key) (entry_spoken entry holder last of) e)
    may_speak new lives _ (Is_sync_full entry holder last same of spot full fresh) e = inr (spoken (cell_of entry.key) (entry_spoken entry holder last of) e)
    may_speak new lives _ (Ends_fill op how to ended is none so) e = inl (moved_mute op.key how)
    may_speak new lives post (Moves _ same next) e = inl (ap (λ (p : Post). is_between (subject_of p.body)) next.is)
    may_speak new lives post (Moves_on key row _ same h is next) e = inl (ap (λ (p : Post). is_between (subject_of p.body)) next.is)
    may_speak new lives post (says.Of_the_log _ logged) e = inl (logged_apart (subject_of post.body) logged)
    may_speak new lives _ _ e = inl refl

    did_say : (done : JobResult) → Did heard here own done → (post : Post) → In post done.posts → (about post.body).cell ≡ Some q → MaySpeak post.body
    did_say done d post i e = may_speak done.own (did_copied done d) post (letters_of_job heard here own done d post i) e

    -- two servers speak of live cells alone
    pub did_lives : (done : JobResult) → Did heard here own done → (post : Post) → In post done.posts → is_between (subject_of post.body) ≡ true
        → (about post.body).cell ≡ Some q → live here.state q ≡ true
    did_lives done d post i between e = elim (did_say done d post i e) [ inl mute ↦ true_false between mute | inr so ↦ so.lives ]

    -- and of none with which they have nothing to do
    pub idle_silent : IsIdleAt here q → (done : JobResult) → Did heard here own done → (post : Post) → In post done.posts → (about post.body).cell ≡ Some q
        → is_between (subject_of post.body) ≡ false
    idle_silent idle done d post i e = elim (did_say done d post i e) [
      | inl mute ↦ mute
      | inr so ↦ elim so.role [
        | inl leads ↦ absurd (idle.no_lead leads)
        | inr (inl second) ↦ absurd (idle.no_second second)
        | inr (inr (inl held)) ↦ absurd (idle.no_holder held)
        | inr (inr (inr other)) ↦ absurd (idle.no_other other.holder other.held)
      ]
    ]
