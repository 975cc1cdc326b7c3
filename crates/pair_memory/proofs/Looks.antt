-- Entries that are read one after the other, and the letters of a step.
use Rattle.std.proofs.Common.{◌≡◌, ◌≤◌, ◌<◌, ◌+◌, ◌++◌, ◌∷◌, [], ℕ, suc, List, Result, length}
use Rattle.std.proofs.Common.{append_assoc, get_or, take, refl, sym, ap, ◌∙◌, arith}
use Rattle.std.proofs.Math.Seq.{take-suc}
use Rattle.std.proofs.lemmas.Grind.{flat_map-append}
use Rattle.std.proofs.lemmas.List.{append-nil}
use Rattle.std.proofs.lemmas.List.Concat.{flat_map-cons}
use Rattle.std.specs.List.{flat_map}
use Rattle.petal_msg.specs.declared.letter.Letter.{Letter}
use Rattle.spec_rules.specs.Server.{Post, Sender, letters_of}
use Rattle.spec_rules.proofs.Letters.{letters_append}
use Rattle.pair_memory.proofs.Letters.{count_letters}
use Rattle.petal_disk.specs.Keeping.{KeepsDevice}
use Rattle.petal_disk.specs.declared.disk.Disk.{Ghosts}
use Rattle.petal_disk.proofs.Keeping.{keeps_all, keeps_on}
use Rattle.kept_chains.specs.Holdings.{Holdings}
use Rattle.device_faults.specs.declared.failure.DeviceError.{DeviceError}
use Rattle.pair_memory.specs.JobResult.{HoldsAt}
use Rattle.pair_memory.specs.Letters.{IsLook}

-- nothing of the store changed so far, and the device keeps it
pub record IsSeen {D : Type 0} (device : Ghosts D) (before after : Holdings D) : Type 0 where
  pub same : after ≡ record before { disk = after.disk }
  pub kept : KeepsDevice device.size device.seen device.may_leave device.moment device.left_since before.disk after.disk
  pub holds : device.observable → HoldsAt device before → HoldsAt device after
  pub later : device.faults before.disk ≤ device.faults after.disk
  pub run : device.came_to before.disk after.disk

module _ {D : Type 0} (device : Ghosts D) (stays : (d : D) → device.came_to d d)
    (onward : (a b c : D) → device.came_to a b → device.came_to b c → device.came_to a c) where
  pub seen_first : (store : Holdings D) → IsSeen device store store
  seen_first store = record {
    same = refl;
    kept = keeps_all device.size device.seen device.may_leave device.moment device.left_since store.disk;
    holds = λ _ holds. holds;
    later = omega arith;
    run = stays store.disk;
  }

  module _ {T : Type 0} (before mid after : Holdings D) (result : Result T DeviceError) (seen : IsSeen device before mid)
      (look : IsLook device mid after result) where
    pub seen_then : IsSeen device before after
    seen_then = record {
      same = look.same ∙ ap (λ (s : Holdings D). record s { disk = after.disk }) seen.same;
      kept = keeps_on device.size device.seen device.may_leave device.moment device.left_since before.disk mid.disk after.disk seen.kept look.kept;
      holds = λ observed holds. look.holds observed (seen.holds observed holds);
      later = let first = seen.later in let second = look.cause.later in omega (arith, first, second);
      run = onward before.disk mid.disk after.disk seen.run look.run;
    }

-- letters after letters of the same step
pub letters_two : (who : Sender) (before letters all : List Letter) (ps qs : List Post) → letters ≡ before ++ letters_of who (length before) ps
    → all ≡ letters ++ letters_of who (length letters) qs → all ≡ before ++ letters_of who (length before) (ps ++ qs)
letters_two who before letters all ps qs first second =
    second
    ∙ (λ i. first i ++ letters_of who (count_letters who before letters ps first i) qs)
    ∙ append_assoc before (letters_of who (length before) ps) (letters_of who (length before + length ps) qs)
    ∙ ap (λ (ls : List Letter). before ++ ls) (sym (letters_append who (length before) ps qs))

module _ {X : Type 0} (who : Sender) (f : X → List Post) (before : List Letter) (xs : List X) (at later : ℕ) (x : X) (is : later ≡ suc at)
    (within : at < length xs) where
  one_more : flat_map f (take later xs) ≡ flat_map f (take at xs) ++ f (get_or xs at x)
  one_more =
      ap (λ (k : ℕ). flat_map f (take k xs)) is ∙ ap (flat_map f) (take-suc xs at x within) ∙ flat_map-append f (take at xs) (get_or xs at x ∷ [])
      ∙ ap (λ (ps : List Post). flat_map f (take at xs) ++ ps) (flat_map-cons f (get_or xs at x) [] ∙ append-nil (f (get_or xs at x)))

  -- the letters of one more item
  pub letters_more : (letters more : List Letter) → letters ≡ before ++ letters_of who (length before) (flat_map f (take at xs))
      → more ≡ letters ++ letters_of who (length letters) (f (get_or xs at x)) → more ≡ before ++ letters_of who (length before) (flat_map f (take later xs))
  letters_more letters more so_far next =
      letters_two who before letters more (flat_map f (take at xs)) (f (get_or xs at x)) so_far next
      ∙ ap (λ (ps : List Post). before ++ letters_of who (length before) ps) (sym one_more)
