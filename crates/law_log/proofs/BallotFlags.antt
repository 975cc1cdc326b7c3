-- For which links a server has started a ballot for the Caught, when how far it is with one of them changes.
use Rattle.law_log.proofs.Imports.{◌∙◌, ◌≡◌, Equal, Equal-is, IsTotalOrder, LinkId, LinkRow, None, Option, PairState, Progress, Some, ap, at, at-put}
use Rattle.law_log.proofs.Imports.{both_true, by_bool, cond, eq_by_cmp, false, id_of, is_eq, is_flagged, link_cmp, nat_cmp, nat_cmp_total, no_progress}
use Rattle.law_log.proofs.Imports.{on_total, option_map_or, progress_on, ranked, refl, sym, then_total, tied_itself, tied_then, true, unwrap_or, with_progress}

-- names stand in a line
pub link_cmp_total : IsTotalOrder link_cmp
link_cmp_total = then_total (on_total (λ (l : LinkId). l.map) nat_cmp_total) (on_total (λ (l : LinkId). l.link) nat_cmp_total)

-- names that tie are one
link_cmp_same : (a b : LinkId) → link_cmp a b ≡ Equal → a ≡ b
link_cmp_same a b e =
    let first = nat_cmp a.map b.map in
    let second = nat_cmp a.link b.link in
    let both = both_true (is_eq first) (is_eq second) (tied_then first second ∙ ap is_eq e) in
    let map = ranked a.map b.map Equal (sym ((Equal-is first).0 both.0)) in
    let link = ranked a.link b.link Equal (sym ((Equal-is second).0 both.1)) in
    λ i. record { map = map i; link = link i }

-- the same flag, where nothing stands as none has been started
pub same_caught : (own : PairState) (row : LinkRow) → is_flagged own (id_of row) ≡ (progress_on own row).caught
same_caught own row = by (at link_cmp own.copies.progress (id_of row))
  where
    by : (o : Option Progress) → option_map_or (λ (p : Progress). p.caught) o false ≡ (unwrap_or o no_progress).caught
    by None = refl
    by (Some p) = refl

-- what is put keeps each flag, where the link's own is kept
pub flags_put : (own : PairState) (row : LinkRow) (new : Progress) → ((progress_on own row).caught ≡ true → new.caught ≡ true) → (id : LinkId)
    → is_flagged own id ≡ true → is_flagged (with_progress own row new) id ≡ true
flags_put own row new keeps id is = by_bool (eq_by_cmp link_cmp id (id_of row))
    (λ e.
    let same : id ≡ id_of row = link_cmp_same id (id_of row) ((Equal-is (link_cmp id (id_of row))).0 e) in
    ap (λ o. option_map_or (λ (p : Progress). p.caught) o false)
    (at-put link_cmp_total own.copies.progress (id_of row) new id ∙ ap (λ b. cond b (Some new) (at link_cmp own.copies.progress id)) e)
    ∙ keeps (sym (same_caught own row) ∙ ap (is_flagged own) (sym same) ∙ is))
    (λ no. ap (λ o. option_map_or (λ (p : Progress). p.caught) o false)
    (at-put link_cmp_total own.copies.progress (id_of row) new id ∙ ap (λ b. cond b (Some new) (at link_cmp own.copies.progress id)) no) ∙ is)

-- links of one name
pub same_id : (a b : LinkId) → eq_by_cmp link_cmp a b ≡ true → a ≡ b
same_id a b e = link_cmp_same a b ((Equal-is (link_cmp a b)).0 e)

-- of another link nothing changes
pub progress_beside : (own : PairState) (row : LinkRow) (new : Progress) (other : LinkRow) → eq_by_cmp link_cmp (id_of other) (id_of row) ≡ false
    → progress_on (with_progress own row new) other ≡ progress_on own other
progress_beside own row new other apart = ap (λ o. unwrap_or o no_progress)
    (at-put link_cmp_total own.copies.progress (id_of row) new (id_of other)
    ∙ ap (λ b. cond b (Some new) (at link_cmp own.copies.progress (id_of other))) apart)

-- of this one it is what was put
pub progress_here : (own : PairState) (row : LinkRow) (new : Progress) (other : LinkRow) → eq_by_cmp link_cmp (id_of other) (id_of row) ≡ true
    → progress_on (with_progress own row new) other ≡ new
progress_here own row new other same = ap (λ o. unwrap_or o no_progress)
    (at-put link_cmp_total own.copies.progress (id_of row) new (id_of other) ∙ ap (λ b. cond b (Some new) (at link_cmp own.copies.progress (id_of other))) same)

-- and whether a ballot was started stays so, where the new row says the same
pub caught_put : (own : PairState) (row : LinkRow) (new : Progress) (other : LinkRow) → new.caught ≡ (progress_on own row).caught
    → (progress_on (with_progress own row new) other).caught ≡ (progress_on own other).caught
caught_put own row new other keeps = by_bool (eq_by_cmp link_cmp (id_of other) (id_of row))
    (λ e. ap (λ o. (unwrap_or o no_progress).caught)
    (at-put link_cmp_total own.copies.progress (id_of row) new (id_of other) ∙ ap (λ b. cond b (Some new) (at link_cmp own.copies.progress (id_of other))) e)
    ∙ keeps ∙ ap (λ id. (unwrap_or (at link_cmp own.copies.progress id) no_progress).caught) (sym (same_id (id_of other) (id_of row) e)))
    (λ no. ap (λ (p : Progress). p.caught) (progress_beside own row new other no))

-- and is there itself
pub flag_put : (own : PairState) (row : LinkRow) (new : Progress) → new.caught ≡ true → is_flagged (with_progress own row new) (id_of row) ≡ true
flag_put own row new is =
    ap (λ o. option_map_or (λ (p : Progress). p.caught) o false)
    (at-put link_cmp_total own.copies.progress (id_of row) new (id_of row)
    ∙ ap (λ b. cond b (Some new) (at link_cmp own.copies.progress (id_of row))) (ap is_eq (tied_itself link_cmp_total (id_of row)))) ∙ is
