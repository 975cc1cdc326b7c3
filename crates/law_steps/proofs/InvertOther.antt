-- What a server does so that a link is brought up to date is one of the kinds that the relation names: the other server's part.
use Rattle.law_steps.proofs.Imports.{[], ◌<◌, ◌==◌, ◌∙◌, ◌∷◌, ◌≡◌, Body, Bool, Cell, Entry, JobContext, JobResult, LastCopy, LinkId, LinkRow, List, None}
use Rattle.law_steps.proofs.Imports.{Option, PairState, Some, answers_page, arith, by_test, cell_holder, cell_of, cell_same, either_false, epochs_beyond}
use Rattle.law_steps.proofs.Imports.{false, free_of, has_room, has_stored, hears_entry, hears_sync, hears_trim, hears_trim_of, last_copy, less_by, link_named}
use Rattle.law_steps.proofs.Imports.{nat_lt, nat_tests, none_some, on_hello_ask, on_sync, on_trim, puts_entry, refl, same_numbers, same_some, subst, sym}
use Rattle.law_steps.proofs.Imports.{trims_again, trims_first, trims_for, trims_newly, trims_on, true, with_last_copy, ℕ}
use Rattle.law_steps.specs.Did.{Did, Ignores, By_other}
use Rattle.law_steps.specs.DidOther.{Replies, TrimStep, Is_trimmed, Drops_entry, IsOfCopy, first_last, Answers_page, Is_copied_to, Goes_on_trimming}
use Rattle.law_steps.specs.DidOther.{Puts_entry, Has_entry, Has_no_slot}
use Rattle.law_steps.proofs.InvertLead.{no_free}
use Rattle.petal_msg.specs.declared.body.Body.TheVariants as body

newer_copy : (last number : ℕ) → nat_lt number last ≡ false → (number == last) ≡ false → last < number
newer_copy last number e f = grind (arith, nat_tests)

-- what the last copy does next
trim_step : (own : PairState) (cell : Cell) (last : LastCopy) (holder : ℕ) (epochs : List ℕ) → epochs_beyond own cell last.epochs ≡ epochs
    → TrimStep own cell last holder (trims_first own cell last.op holder epochs)
trim_step own cell last holder [] e = Is_trimmed e
trim_step own cell last holder (epoch ∷ epochs) e = Drops_entry epoch epochs e

-- a copy that is remembered trims
newly_step : (here : JobContext) (own : PairState) (number : ℕ) (cell : Cell) (epochs : List ℕ) (holder : ℕ) → cell_holder here cell ≡ Some holder
    → TrimStep (with_last_copy own cell (first_last number epochs)) cell (first_last number epochs) holder (trims_newly here own number cell epochs)
unfolding trims_on
newly_step here own number cell epochs holder held =
    let last = first_last number epochs in
    let now = with_last_copy own cell last in
    subst (λ (x : Option ℕ × Option LastCopy). TrimStep now cell last holder (trims_for now cell x.0 x.1))
    (λ i. (sym held i, sym (cell_same own.copies.last cell last) i))
    (trim_step now cell last holder (epochs_beyond now cell last.epochs) refl)

module _ (heard : Body → Type 0) (here : JobContext) (own : PairState) where
  abbrev D : JobResult → Type 0
  D done = Did heard here own done

  -- ### Pages

  did_answers : (id : LinkId) (after : Option ℕ) → heard (body.HelloAsk id.map id.link after) → (o : Option LinkRow) → link_named here.state id ≡ o
      → D (answers_page here own after o)
  did_answers id after h None e = Ignores
  did_answers id after h (Some row) e = By_other _ (Replies _ _ (Answers_page id row after h e))

  pub did_hello_ask : (id : LinkId) (after : Option ℕ) → heard (body.HelloAsk id.map id.link after) → D (on_hello_ask here own id after)
  unfolding on_hello_ask
  did_hello_ask id after h = did_answers id after h (link_named here.state id) refl

  -- ### Trim

  did_trims_for : (cell : Cell) (held : Option ℕ) → cell_holder here cell ≡ held → (o : Option LastCopy) → last_copy own cell ≡ o
      → D (trims_for own cell held o)
  did_trims_for cell None e last f = Ignores
  did_trims_for cell (Some holder) e None f = Ignores
  did_trims_for cell (Some holder) e (Some last) f =
      By_other _ (Goes_on_trimming cell holder last _ e f (trim_step own cell last holder (epochs_beyond own cell last.epochs) refl))

  pub did_trims : (cell : Cell) → D (trims_on here own cell)
  unfolding trims_on
  did_trims cell = did_trims_for cell (cell_holder here cell) refl (last_copy own cell) refl

  did_again : (cell : Cell) (holder : ℕ) (last : LastCopy) → cell_holder here cell ≡ Some holder → last_copy own cell ≡ Some last → (epochs : List ℕ)
      → epochs_beyond own cell last.epochs ≡ epochs → D (trims_again own cell last.op holder epochs)
  did_again cell holder last held is [] e = By_other _ (Goes_on_trimming cell holder last _ held is (Is_trimmed e))
  did_again cell holder last held is (epoch ∷ epochs) e = Ignores

  did_hears_trim : (number : ℕ) (cell : Cell) (epochs : List ℕ) → heard (body.Trim number cell epochs) → (holder : ℕ) → cell_holder here cell ≡ Some holder
      → (o : Option LastCopy) → last_copy own cell ≡ o → D (hears_trim here own number cell epochs holder o)
  did_hears_trim number cell epochs h holder held None e =
      By_other _ (Is_copied_to number cell epochs holder _ h held (λ last is. none_some e is) (newly_step here own number cell epochs holder held))
  did_hears_trim number cell epochs h holder held (Some last) e = by_test D (nat_lt number last.op) _ _ (λ t. Ignores)
      (λ older. by_test D (number == last.op) _ _
      (λ same. subst (λ k. D (trims_again own cell k holder (epochs_beyond own cell last.epochs))) (sym (same_numbers number last.op same))
      (did_again cell holder last held e (epochs_beyond own cell last.epochs) refl))
      (λ apart. By_other _ (Is_copied_to number cell epochs holder _ h held
      (λ other is. subst (λ (l : LastCopy). l.op < number) (same_some (sym e ∙ is)) (newer_copy last.op number older apart))
      (newly_step here own number cell epochs holder held))))

  did_trim_of : (number : ℕ) (cell : Cell) (epochs : List ℕ) → heard (body.Trim number cell epochs) → (held : Option ℕ) → cell_holder here cell ≡ held
      → D (hears_trim_of here own number cell epochs held)
  did_trim_of number cell epochs h None e = Ignores
  did_trim_of number cell epochs h (Some holder) e = did_hears_trim number cell epochs h holder e (last_copy own cell) refl

  pub did_trim : (number : ℕ) (cell : Cell) (epochs : List ℕ) → heard (body.Trim number cell epochs) → D (on_trim here own number cell epochs)
  unfolding on_trim
  did_trim number cell epochs h = did_trim_of number cell epochs h (cell_holder here cell) refl

  -- ### Sync

  did_puts : (entry : Entry) (holder : ℕ) (last : LastCopy) → IsOfCopy heard here own entry holder last → entry.index ≡ last.index → (room : Bool)
      → has_room own.store entry ≡ room → D (puts_entry own entry last holder room)
  did_puts entry holder last of_copy at true e = By_other _ (Puts_entry entry holder last of_copy at e)
  did_puts entry holder last of_copy at false e =
      let none = either_false (nat_lt 0 (free_of own.store)) (has_stored own.store entry.key entry.stored) e in
      By_other _ (Replies _ _ (Has_no_slot entry holder last of_copy at (no_free (free_of own.store) none.0) none.1))

  did_entry : (entry : Entry) (holder : ℕ) (last : LastCopy) → IsOfCopy heard here own entry holder last → D (hears_entry own entry holder last)
  did_entry entry holder last of_copy =
      by_test D (nat_lt entry.index last.index) _ _ (λ t. By_other _ (Replies _ _ (Has_entry entry holder last of_copy (less_by entry.index last.index t))))
      (λ past. by_test D (entry.index == last.index) _ _
      (λ same. did_puts entry holder last of_copy (same_numbers entry.index last.index same) (has_room own.store entry) refl) (λ t. Ignores))

  did_hears_sync : (entry : Entry) → heard (body.Sync entry.op entry.key entry.stored.version entry.index entry.stored.bytes) → (held : Option ℕ)
      → cell_holder here (cell_of entry.key) ≡ held → (o : Option LastCopy) → last_copy own (cell_of entry.key) ≡ o → D (hears_sync own entry held o)
  did_hears_sync entry h None e last f = Ignores
  did_hears_sync entry h (Some holder) e None f = Ignores
  did_hears_sync entry h (Some holder) e (Some last) f = by_test D (entry.op == last.op) _ _
      (λ same. did_entry entry holder last (record { said = h; held = e; last_is = f; op_is = same_numbers entry.op last.op same })) (λ t. Ignores)

  pub did_sync : (entry : Entry) → heard (body.Sync entry.op entry.key entry.stored.version entry.index entry.stored.bytes) → D (on_sync here own entry)
  unfolding on_sync
  did_sync entry h = did_hears_sync entry h (cell_holder here (cell_of entry.key)) refl (last_copy own (cell_of entry.key)) refl
