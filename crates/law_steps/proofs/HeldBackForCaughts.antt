-- What a server holds back, since it has started a ballot for the Caught of the cell's link: a ballot starts for a link without pending
-- operations alone, and an entry starts none.
use Rattle.law_steps.proofs.Imports.{[], ◌&&◌, ◌==◌, ◌∙◌, ◌∷◌, ◌≡◌, Ask, Block, Bool, Caught, Cell, Command, Equal, Greater, HasLater, JobContext, Less}
use Rattle.law_steps.proofs.Imports.{LinkId, LinkRow, NextCopy, None, Nothing, Option, Ordering, PairState, Pending, Progress, Some, State, Table, Wait, ap}
use Rattle.law_steps.proofs.Imports.{at, at-where, blocks_left, by_bool, by_test, cell_at, cell_cmp, cell_cmp_same, cell_link, cond, crossed, either_false}
use Rattle.law_steps.proofs.Imports.{ends_link, eq_by_cmp, false, has_proposed, holds_link, id_of, is_at, is_eq, is_flagged, is_link, is_link_under_way}
use Rattle.law_steps.proofs.Imports.{is_on, is_under_way, least, link_cmp, list_any, lookup, next_block, next_copy, none_some, not, number_itself}
use Rattle.law_steps.proofs.Imports.{option_map_or, or_first, or_true, progress_beside, progress_on, proposed, refl, same_caught, same_id, same_some, subst}
use Rattle.law_steps.proofs.Imports.{sym, true, true_false, with_progress, ℕ}
use Rattle.law_steps.specs.DidStep.{IsBallotFor, Starts}

pub held_as_flag : (state : State) (own : PairState) (cell : Cell) (row : LinkRow) → cell_link state cell ≡ Some row
    → has_proposed state own cell ≡ is_flagged own (id_of row)
held_as_flag state own cell row is =
    ap (λ o. option_map_or (λ (r : LinkRow). (progress_on own r).caught) o false) is ∙ sym (same_caught own row)

-- ### An entry

-- what is in mind after an entry was so before
flag_before : (state : State) (entry : Command) (own : PairState) (id : LinkId) → is_flagged (crossed state entry own) id ≡ true → is_flagged own id ≡ true
flag_before state entry own id e =
    by (not (ends_link state entry id))
    (sym (ap (λ o. option_map_or (λ (p : Progress). p.caught) o false)
    (at-where link_cmp own.copies.progress (λ k. not (ends_link state entry k)) id
    (λ k tie. ap (λ q. not (ends_link state entry q)) (sym (same_id id k (ap is_eq tie)))))) ∙ e)
  where
    by : (stays : Bool) → option_map_or (λ (p : Progress). p.caught) (cond stays (at link_cmp own.copies.progress id) None) false ≡ true
        → is_flagged own id ≡ true
    by true f = f
    by false f = true_false f refl

pub crossed_unheld : (state later : State) (entry : Command) (own : PairState) (cell : Cell) (row : LinkRow) → cell_link state cell ≡ Some row
    → HasLater state later cell row → has_proposed state own cell ≡ false → has_proposed later (crossed state entry own) cell ≡ false
crossed_unheld state later entry own cell row is h unheld = by_bool (has_proposed later (crossed state entry own) cell)
    (λ t.
    let same : id_of h.now ≡ id_of row = (λ i. record { map = h.so.map i; link = h.so.link i }) in
    let was = flag_before state entry own (id_of h.now) (sym (held_as_flag later (crossed state entry own) cell h.now h.is) ∙ t) in
    true_false (held_as_flag state own cell row is ∙ ap (is_flagged own) (sym same) ∙ was) unheld)
    (λ no. no)

-- ### A ballot

same_order : (r : Ordering) → is_eq r ≡ true → r ≡ Equal
same_order Less e = true_false e refl
same_order Equal e = refl
same_order Greater e = true_false e refl

-- a test that holds of what stands at the key holds of some row
pub any_at : {K X : Type 0} (R : K → K → Ordering) (p : K × X → Bool) (t : Table K X) (k : K) (x : X) → at R t k ≡ Some x
    → ((key : K) → R k key ≡ Equal → p (key, x) ≡ true) → list_any p t ≡ true
unfolding at
any_at R p [] k x is so = none_some refl is
any_at {K} {X} R p (e ∷ es) k x is so = by_bool (is_eq (R k e.0))
    (λ here.
    let same : e.1 ≡ x = same_some (sym (ap (λ b. cond b (Some e.1) (lookup (is_at (R k)) es)) here) ∙ is) in
    or_first (p e) _ (subst (λ (y : X). p (e.0, y) ≡ true) (sym same) (so e.0 (same_order (R k e.0) here))))
    (λ later. or_true (p e) _ (any_at R p es k x (sym (ap (λ b. cond b (Some e.1) (lookup (is_at (R k)) es)) later) ∙ is) so))

idle_block : (state : State) (row : LinkRow) (own : PairState) (o : Option ℕ) → next_block state row own o ≡ Nothing → is_link_under_way state row own ≡ false
idle_block state row own None e =
    by_test (λ (n : NextCopy). n ≡ Nothing → is_link_under_way state row own ≡ false) (is_link_under_way state row own) Wait Nothing
    (λ t f. let g : Wait ≡ Nothing = f in absurd cc) (λ no f. no) e
idle_block state row own (Some block) e =
    by_test (λ (n : NextCopy). n ≡ Nothing → is_link_under_way state row own ≡ false) (is_under_way own (cell_at row block)) Wait (Block (cell_at row block))
    (λ t f. let g : Wait ≡ Nothing = f in absurd cc) (λ no f. let g : Block (cell_at row block) ≡ Nothing = f in absurd cc) e

idle : (state : State) (row : LinkRow) (own : PairState) → next_copy state row own ≡ Nothing → is_link_under_way state row own ≡ false
unfolding next_copy
idle state row own =
    by_test (λ (n : NextCopy). n ≡ Nothing → is_link_under_way state row own ≡ false) (progress_on own row).paged
    (next_block state row own (least (blocks_left state row own))) Ask
    (λ t e. idle_block state row own (least (blocks_left state row own)) e) (λ f e. let g : Ask ≡ Nothing = e in absurd cc)

-- of the link for which it starts no operation is pending
beside : (here : JobContext) (own : PairState) (id : LinkId) (s : IsBallotFor here own id) (cell : Cell) (op : Pending)
    → at cell_cmp own.pairs.pending cell ≡ Some op
    → (row : LinkRow) → cell_link here.state cell ≡ Some row → eq_by_cmp link_cmp (id_of row) (id_of s.row) ≡ false
beside here own id s cell op there row is = by_bool (eq_by_cmp link_cmp (id_of row) (id_of s.row))
    (λ t.
    let same = same_id (id_of row) (id_of s.row) t in
    let on : is_on here.state s.row cell ≡ true =
    ap (λ o. option_map_or (is_link s.row.map s.row.link) o false) is
    ∙ (λ i. ((same i).map == s.row.map) && ((same i).link == s.row.link)) ∙ (λ i. number_itself s.row.map i && number_itself s.row.link i) in
    true_false
    (any_at cell_cmp (λ (held : Cell × Pending). is_on here.state s.row held.0) own.pairs.pending cell op there
    (λ key tie. ap (is_on here.state s.row) (sym (cell_cmp_same cell key tie)) ∙ on))
    (either_false _ _ (idle here.state s.row own s.nothing)).0)
    (λ no. no)

pub ballot_unheld : (here : JobContext) (own : PairState) (o : Option Command) → Starts here own o → (cell : Cell) (op : Pending)
    → at cell_cmp own.pairs.pending cell ≡ Some op → has_proposed here.state own cell ≡ false → has_proposed here.state (proposed here.state own o) cell ≡ false
ballot_unheld here own (Some (Caught of link holder inc other other_inc)) s cell op there unheld =
    ap (λ o. has_proposed here.state (holds_link own o) cell) s.held.is ∙ by (cell_link here.state cell) refl
  where
    by : (o : Option LinkRow) → cell_link here.state cell ≡ o
        → option_map_or (λ (r : LinkRow). (progress_on (with_progress own s.row (record (progress_on own s.row) { caught = true })) r).caught) o false ≡ false
    by None is = refl
    by (Some row) is =
        ap (λ (p : Progress). p.caught)
        (progress_beside own s.row (record (progress_on own s.row) { caught = true }) row
        (beside here own (record { map = of; link = link }) s cell op there row is))
        ∙ sym (ap (λ o. option_map_or (λ (r : LinkRow). (progress_on own r).caught) o false) is) ∙ unheld
ballot_unheld here own (Some _) s cell op there unheld = unheld
ballot_unheld here own None s cell op there unheld = unheld
