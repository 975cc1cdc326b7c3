-- All that is kept of moves is so after each legal history: by each step, where it was so after each prefix of the records.
use Rattle.law_moves.proofs.Imports.{[], ◌++◌, ◌∙◌, ◌∷◌, ◌≡◌, ◌≤◌, AreSteps, Cell, Command, In, IsPrefix, IsSound, Key, List, OneMore, Pending, Record, Script}
use Rattle.law_moves.proofs.Imports.{Setting, Some, ap, append-nil, arith, at, at-empty, by_run, cell_cmp, cell_of, chosen_from, chosen_log, chosen_state}
use Rattle.law_moves.proofs.Imports.{devices, ends_of, false, first_state, flat_map, fold, id_of, inl, inr, is_clients, link_cmp, map, max, none_before_none}
use Rattle.law_moves.proofs.Imports.{none_some, range_with_len, refl, run_of, setting_of, split_last, stage_at, start, state_after, subst, sym, vote_place, ℕ}
use Rattle.law_moves.specs.Fills.{AreFilled, IsFrozen, IsThere, WasFilled}
use Rattle.law_moves.specs.FrozenCopies.{AreStill}
use Rattle.law_moves.proofs.NoPutsToLeavingCells.{followed_next}
use Rattle.law_moves.proofs.LeavingCellsGainNothing.{before}
use Rattle.law_moves.proofs.AllKeptOfMoves.{AllKnown, Known, Knows, WereKnown}
use Rattle.law_moves.proofs.StepsKeepNewest.{newest_next}
use Rattle.law_moves.proofs.NewestOfMovingCells.{stored_newest}
use Rattle.law_moves.proofs.NewestByLetters.{AllNewest, start_newest}
use Rattle.law_moves.proofs.PendingFills.{lacks_next, numbered_next, opened_next, puts_next, unsaid_next}
use Rattle.law_moves.proofs.EqualCopies.{moved_now}
use Rattle.law_moves.proofs.LeavingCopiesAreFrozen.{still_next}
use Rattle.law_moves.proofs.LeadsRememberMoved.{begun_next, told_next}
use Rattle.law_moves.proofs.EntryLettersKept.{asked_next, sent_next}
use Rattle.law_moves.proofs.FrozenEpochs.{frozen_early}
use Rattle.law_moves.proofs.ToldEntriesAreThere.{born_next, filled_next}
use Rattle.law_moves.proofs.PendingFillsUnsaid.{unsaid_at}
use Rattle.law_moves.proofs.MoveScenes.{FillsSo}

module _ (it : OneMore) (all : WereKnown it) where
  open it use {prior.{script, sound, records as prefix}, legal}
  open ends_of it use {setting, v, records, present}

  known : Known script prefix
  known = before it all

  there : (key : Key) → WasFilled v key → IsThere setting v (cell_of key) key.epoch
  there = filled_next it all

  asked : (m : ℕ) (cell : Cell) (op : Pending) → at cell_cmp (v.servers m).own.pairs.pending cell ≡ Some op → is_clients op.kind ≡ false
      → IsFrozen setting v op.rev op.key op.bytes
  asked = asked_next it known

  numbered : (m : ℕ) (cell : Cell) (op : Pending) → at cell_cmp (v.servers m).own.pairs.pending cell ≡ Some op → 1 ≤ op.op
  numbered = numbered_next it all known.numbered

  so : FillsSo setting v
  so = record { there = there; asked = asked; numbered = numbered }

  newest : AllNewest setting v
  newest = newest_next it known known.newest

  filled : AreFilled setting v
  filled = record {
    sent = sent_next it known;
    filled = there;
    opened = opened_next it all asked;
    asked = asked;
    unsaid = unsaid_next it all;
    lacks = lacks_next it all asked;
    stored = stored_newest present newest there;
    told = told_next it known;
    moved = moved_now it all;
  }

  pub known_next : Known script records
  known_next = record {
    still = still_next it all so;
    filled = filled;
    early = frozen_early script records sound legal;
    begun = begun_next it known;
    followed = followed_next it all so;
    visits = unsaid_at it all;
    born = born_next it all;
    puts = puts_next it all;
    newest = newest;
    numbered = numbered;
  }

-- ### The beginning

-- nobody has voted, and nothing is chosen
none_voted : (setting : Setting) (xs : List ℕ) → fold max 0 (map vote_place (flat_map (devices (start setting)) xs)) ≡ 0
none_voted setting [] = refl
none_voted setting (x ∷ xs) = none_voted setting xs

pub none_chosen : (setting : Setting) → chosen_log setting (start setting) ≡ []
none_chosen setting = ap (chosen_from setting.servers (devices (start setting)) 1) (none_voted setting (range_with_len 0 setting.servers))

first_stage : (servers : ℕ) (cell : Cell) → stage_at (first_state servers) cell ≡ 0
first_stage servers cell = refl

-- by each prefix of what is chosen no cell is there
none_there : (setting : Setting) (f : List Command) → IsPrefix f (chosen_log setting (start setting)) → (cell : Cell)
    → stage_at (state_after setting.servers f) cell ≡ 0
none_there setting f lies cell =
    ap (λ log. stage_at (state_after setting.servers log) cell) (none_before_none f lies.later (sym (none_chosen setting) ∙ lies.is))
    ∙ first_stage setting.servers cell

none_now : (setting : Setting) (cell : Cell) → stage_at (chosen_state setting (start setting)) cell ≡ 0
none_now setting cell = ap (λ log. stage_at (state_after setting.servers log) cell) (none_chosen setting) ∙ first_stage setting.servers cell

pub none_in : (f : List Command) (entry : Command) → [] ≡ (f ++ entry ∷ []) → ⊥
none_in [] entry e = cc
none_in (x ∷ f) entry e = cc

start_still : (setting : Setting) → AreStill setting (start setting)
start_still setting = record {
  now = λ n cell three serving. let none = none_now setting cell in absurd (omega arith);
  own = λ n f cell runs on lies seat three serving. let none = none_there setting f lies cell in absurd (omega arith);
  early = λ cell low. refl;
}

start_filled : (setting : Setting) → AreFilled setting (start setting)
unfolding In
start_filled setting = record {
  sent = λ letter key bytes i e. absurd i;
  filled = λ key told. absurd told.sent;
  opened = λ m cell op runs is fills. none_some (at-empty cell_cmp cell) is;
  asked = λ m cell op is fills. none_some (at-empty cell_cmp cell) is;
  unsaid = λ m cell op runs is fills told. absurd told.sent;
  lacks = λ m cell op runs is fills fresh. none_some (at-empty cell_cmp cell) is;
  stored = λ cell n epoch frozen one from serving has. let none = none_now setting cell in absurd (omega arith);
  told = λ y f old new row last runs lies way is. none_some (at-empty link_cmp (id_of row)) is;
  moved = λ f region old new row lies way of.
      absurd (none_in f _ (sym (none_before_none _ lies.later (sym (none_chosen setting) ∙ lies.is))));
}

start_known : (setting : Setting) → Knows setting [] (start setting)
unfolding In
start_known setting = record {
  still = start_still setting;
  filled = start_filled setting;
  early = λ cell frozen epoch is has. none_some refl is;
  begun = λ y id last is. none_some (at-empty link_cmp id) is;
  followed = λ s a three i. absurd i;
  visits = λ a was told. absurd told.sent;
  born = λ key told. absurd told.sent;
  puts = λ m cell op runs is fills put. none_some (at-empty cell_cmp cell) is;
  newest = start_newest setting;
  numbered = λ m cell op is. none_some (at-empty cell_cmp cell) is;
}

-- ### Legal histories

start_all : (script : Script) → AllKnown script []
start_all script past later e = subst (Known script) (sym (none_before_none past later e)) (start_known (setting_of script))

all_next : (it : OneMore) → AllKnown it.prior.script it.prior.records → AllKnown it.prior.script (it.prior.records ++ it.own ∷ [])
all_next it all past later e = elim (split_last it.prior.records it.own past later e) [
  | inl whole ↦ subst (Known it.prior.script) (sym whole) (known_next it all)
  | inr part ↦ all past part.0 part.1
]

pub all_known : (script : Script) → IsSound script → (records : List Record) → AreSteps script records → AllKnown script records
all_known script sound records legal =
    by_run (λ run. AllKnown run.script run.records) (λ script sound legal. start_all script) all_next (run_of script sound records legal)

pub known_after : (script : Script) → IsSound script → (records : List Record) → AreSteps script records → Known script records
known_after script sound records legal = all_known script sound records legal records [] (sym (append-nil records))
