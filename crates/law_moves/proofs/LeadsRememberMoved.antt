-- Each step keeps what old leads remember of the entries that they have moved, and that each remembers so only since its region is on its way.
use Rattle.law_moves.proofs.Imports.{◌∙◌, ◌≡◌, As_before, Cell, Command, Handled, IsPrefix, Key, LinkId, LinkRow, List, OneMore, PairState, Server, Some}
use Rattle.law_moves.proofs.Imports.{Table, Told_of, ap, at, at-empty, by_bool, chosen_log, did_remember, ends_of, eq_by_cmp, filled_beside, filled_here}
use Rattle.law_moves.proofs.Imports.{id_of, link_cmp, none_some, own_place, prefix_on, put, same_id, same_some, subst, sym, true, true_false, ℕ}
use Rattle.law_moves.proofs.StepsTellEntries.{Goes_on, Is_bare, Keeps, Awakes, IsJob, Works, gone}
use Rattle.law_moves.specs.Fills.{AllFilled, IsOnWay, IsToldOf}
use Rattle.law_moves.proofs.AllKeptOfMoves.{HasBegun, HaveBegun, WasKnown}
use Rattle.law_moves.proofs.LeadsWereTold.{HasTold, begun_here, told_before, told_now}

-- ### What is remembered

module _ (it : OneMore) (known : WasKnown it) where
  open it use {prior.{script, records as prefix}}
  open ends_of it use {setting, w, v}

  abbrev Was : ℕ → Server
  Was n = w.servers n

  -- after a job
  pub done_told : (y : ℕ) (to : Server) (job : IsJob it y to) → HasTold it known y job.done.own.filled
  done_told y to job = elim (did_remember (Handled w y) (own_place setting w y) (Was y).own job.done job.did) [
    | As_before same ↦ subst (HasTold it known y) (sym same) (told_before it known y job.runs)
    | Told_of key row heard next is ↦ subst (HasTold it known y) (sym is) (told_now it known y job.runs key row heard next)
  ]

  pub told_next : (y : ℕ) (f : List Command) (old new : Cell) (row : LinkRow) (last : Key) → (v.servers y).life.running ≡ true
      → IsPrefix f (chosen_log setting v) → IsOnWay script.servers f old new row → at link_cmp (v.servers y).own.filled (id_of row) ≡ Some last
      → AllFilled v old new (IsToldOf last old)
  told_next y f old new row last runs lies way is = elim (gone it y) [
    | Goes_on (Keeps kept) same ↦ told_before it known y (kept.runs runs).0 f old new row last lies way (kept.filled (id_of row) last is)
    | Goes_on (Works job) same ↦
        subst (HasTold it known y) (ap (λ (o : PairState). o.filled) (sym job.own_is)) (done_told y (v.servers y) job) f old new row last lies way is
    | Goes_on (Awakes asleep so) same ↦
        none_some (at-empty link_cmp (id_of row)) (ap (λ (s : Server). at link_cmp s.own.filled (id_of row)) (sym so) ∙ is)
    | Is_bare asleep bare same ↦ true_false (ap (λ (s : Server). s.life.running) (sym bare) ∙ runs) asleep
  ]

  -- ### And since when

  abbrev HaveSince : List Command → Table LinkId Key → Type 0
  HaveSince log filled = (id : LinkId) (last : Key) → at link_cmp filled id ≡ Some last → HasBegun setting log id last

  since_more : (log more : List Command) (filled : Table LinkId Key) → IsPrefix log more → HaveSince log filled → HaveSince more filled
  since_more log more filled on all id last is =
      let b = all id last is in record { map = b.map; prefix = b.prefix; lies = prefix_on b.prefix log more b.lies on; leaves = b.leaves }

  done_since : (y : ℕ) (to : Server) (job : IsJob it y to) → HaveSince (Was y).log.applied job.done.own.filled
  done_since y to job = elim (did_remember (Handled w y) (own_place setting w y) (Was y).own job.done job.did) [
    | As_before same ↦ subst (HaveSince (Was y).log.applied) (sym same) (known.begun y)
    | Told_of key row heard next is ↦ subst (HaveSince (Was y).log.applied) (sym is) (λ id last there. by_bool (eq_by_cmp link_cmp id (id_of row))
        (λ t.
        let told : Key = record { map = row.map; block = key.block; epoch = key.epoch } in
        let one = same_id id (id_of row) t in
        let same : told ≡ last =
        same_some (sym (ap (at link_cmp (put link_cmp (Was y).own.filled (id_of row) told)) one ∙ filled_here (Was y).own row told) ∙ there) in
        subst (HasBegun setting (Was y).log.applied id) same
        (subst (λ (i : LinkId). HasBegun setting (Was y).log.applied i told) (sym one)
        (begun_here it known y job.runs key row heard next)))
        (λ apart. known.begun y id last
        (sym (filled_beside (Was y).own row (record { map = row.map; block = key.block; epoch = key.epoch }) id apart) ∙ there)))
  ]

  pub begun_next : HaveBegun setting v
  begun_next y = elim (gone it y) [
    | Goes_on (Keeps kept) same ↦ (λ id last is.
        since_more (Was y).log.applied (v.servers y).log.applied (Was y).own.filled kept.onward (known.begun y) id last (kept.filled id last is))
    | Goes_on (Works job) same ↦
        subst (λ log. HaveSince log (v.servers y).own.filled) (sym job.log_is)
        (subst (HaveSince (Was y).log.applied) (ap (λ (o : PairState). o.filled) (sym job.own_is)) (done_since y (v.servers y) job))
    | Goes_on (Awakes asleep is) same ↦
        subst (λ (s : Server). HaveSince s.log.applied s.own.filled) (sym is) (λ id last is. none_some (at-empty link_cmp id) is)
    | Is_bare asleep bare same ↦ subst (λ (s : Server). HaveSince s.log.applied s.own.filled) (sym bare) (known.begun y)
  ]
