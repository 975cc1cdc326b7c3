-- What a server that wakes keeps of two copies, by the stores that count: it has nothing in memory.
use Rattle.law_copies.proofs.Imports.{◌∙◌, ◌≡◌, ◌≤◌, Copies, IsRising, Pairs, Server, World, ap, arith, at, at-empty, cell_cmp, chain_in, has_mark, id_of}
use Rattle.law_copies.proofs.Imports.{link_cmp, log_below, mark_on, nat_cmp, no_copies, no_pairs, no_progress, none_some, prefix_plain, subst, sym, unwrap_or}
use Rattle.law_copies.proofs.Imports.{ℕ}
use Rattle.law_copies.specs.LoneSteps.{AreFilled}
use Rattle.law_copies.proofs.CopiesKnownOfWorlds.{OneMore, before_of}
use Rattle.law_copies.proofs.AtStep.{IsStep}
use Rattle.law_copies.proofs.StepsKeepCopies.{IsSoundOwn}

module _ (it : OneMore) where
  open it use {setting, w, known, good}
  open before_of it use {top, before}

  -- what a server's own part is that has nothing in memory
  pub woken_sound : (v : World) (k : ℕ) (server : Server) → IsStep setting top before v k server → server.own.pairs ≡ no_pairs → server.own.copies ≡ no_copies
      → server.own.store.chains ≡ (before.servers k).own.store.chains → server.own.store.marks ≡ (before.servers k).own.store.marks
      → IsSoundOwn setting v k server
  woken_sound v k server step pairs copies chains marks = record {
    unheard = λ cell none.
        let le = (log_below setting.servers (w.servers k).log.applied server.log.applied
        (prefix_plain setting.servers server.log.applied top known.firm.plain step.within) step.onward).stages cell in
        let bare = (good.unheard k cell (omega arith)).bare in
        record {
          bare = record {
            chain = ap (λ t. chain_in t cell) chains ∙ bare.chain;
            marks = λ kind. ap (has_mark (mark_on kind cell)) marks ∙ bare.marks kind;
          };
          last = ap (λ (p : Pairs). at cell_cmp p.last cell) pairs ∙ at-empty cell_cmp cell;
          pages = λ unlinked row same. ap (λ (c : Copies). unwrap_or (at link_cmp c.progress (id_of row)) no_progress) copies
              ∙ ap (λ o. unwrap_or o no_progress) (at-empty link_cmp (id_of row));
        };
    copied = λ cell last there. none_some (ap (λ (c : Copies). at cell_cmp c.last cell) copies ∙ at-empty cell_cmp cell) there;
    rising = λ cell. subst (λ t. IsRising nat_cmp (chain_in t cell)) (sym chains) (good.rising k cell);
    counts = subst (λ (p : Pairs). 1 ≤ p.next) (sym pairs) (omega arith);
    filled = subst AreFilled (sym chains) (good.filled k);
    marks = λ when cell op on there. none_some (at-empty cell_cmp cell) (ap (λ (p : Pairs). at cell_cmp p.pending cell) (sym pairs) ∙ there);
  }
