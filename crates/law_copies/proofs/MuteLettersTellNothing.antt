-- Letters that speak neither of pairs nor of copies tell nothing of two copies.
use Rattle.law_copies.proofs.Imports.{◌||◌, ◌≡◌, Body, Cell, Command, Ending, Key, LinkRow, List, Logged, Option, PairState, Paired, Read_asked, Setting}
use Rattle.law_copies.proofs.Imports.{Store, Subject, Write_asked, ap, ended, false, is_asked, is_between, is_logged, is_paired, logged_apart, moved_as}
use Rattle.law_copies.proofs.Imports.{other_of, refl, subject_of, true, true_false, ℕ}
use Rattle.law_copies.specs.CopyProgress.{IsTold}
use Rattle.law_copies.specs.GoodCopies.{SaidOk, pair_at}
use Rattle.law_copies.specs.Pair.{Known, Pair}
use Rattle.law_copies.specs.Visits.{Visits, place_by, store_by}
use Rattle.petal_msg.specs.declared.body.Body.TheVariants as body
use Rattle.petal_msg.specs.declared.operation.Ending.TheVariants as ending

-- a letter that is of no pair tells nothing of it
pub unpaired_known : (pair : Pair) (said : Body) → is_paired (subject_of said) ≡ false → Known pair said
unpaired_known pair (body.Reserve number cell) e = cc
unpaired_known pair (body.Reserved number cell) e = cc
unpaired_known pair (body.PairFull number cell) e = cc
unpaired_known pair (body.Replicate number key version origin bytes) e = cc
unpaired_known pair (body.Replicated number cell) e = cc
unpaired_known pair _ e = tt

mute_unpaired : (subject : Subject) → is_between subject ≡ false → is_paired subject ≡ false
mute_unpaired Paired e = cc
mute_unpaired _ e = refl

pub known_mute : (pair : Pair) (said : Body) → is_between (subject_of said) ≡ false → Known pair said
known_mute pair said e = unpaired_known pair said (mute_unpaired (subject_of said) e)

pub told_mute : (row : LinkRow) (holder other : Option PairState) (said : Body) → is_between (subject_of said) ≡ false → IsTold row holder other said
told_mute row holder other (body.Trim number cell epochs) e = cc
told_mute row holder other (body.Trimmed number cell) e = cc
told_mute row holder other (body.Sync number key version index bytes) e = cc
told_mute row holder other (body.Synced number cell index) e = cc
told_mute row holder other _ e = tt

-- a page is no such letter
pub no_page : {B : Type 0} (said : Body) → is_between (subject_of said) ≡ false → (map link : ℕ) (after block : Option ℕ)
    → said ≡ body.Hello map link after block → B
no_page said e map link after block is = true_false (ap (λ (b : Body). is_between (subject_of b)) is) e

pub said_mute : (setting : Setting) (top : List Command) (stores : ℕ → ℕ → Store) (visits : Visits) (reached : Cell → ℕ) (prefix : List Command)
    (said : Body) (cell : Cell)
    (row : LinkRow) → is_between (subject_of said) ≡ false → SaidOk setting top stores visits reached prefix said cell row
said_mute setting top stores visits reached prefix said cell row e = record {
  both = λ alive both last of. known_mute (pair_at (store_by setting stores prefix) visits (place_by setting prefix row) cell row.primary row.secondary) said e;
  alone = λ holder whole alone of.
      told_mute row (visits holder (place_by setting prefix row) cell) (visits (other_of holder row) (place_by setting prefix row) cell) said e;
  page = λ alive holder whole after block alone is last. no_page said e row.map row.link after block is;
  met = λ holder whole after block alone is. no_page said e row.map row.link after block is;
}

-- what clients send, and what speaks of the agreed log
pub asked_mute : (subject : Subject) → (is_asked subject || is_logged subject) ≡ true → is_between subject ≡ false
asked_mute Logged e = refl
asked_mute Read_asked e = refl
asked_mute Write_asked e = refl
asked_mute _ e = cc

-- so is what speaks of the log
pub logged_known : (pair : Pair) (said : Body) → is_logged (subject_of said) ≡ true → Known pair said
logged_known pair said e = known_mute pair said (logged_apart (subject_of said) e)

-- what answers a request, or tells that an entry has moved
pub ended_mute : (seq : ℕ) (how : Ending) → is_between (subject_of (ended seq how)) ≡ false
ended_mute seq ending.Written = refl
ended_mute seq ending.Full = refl

pub moved_mute : (key : Key) (how : Ending) → is_between (subject_of (moved_as key how)) ≡ false
moved_mute key ending.Written = refl
moved_mute key ending.Full = refl
