-- Lists of records, one behind the other.
use Rattle.std.proofs.Common.{ℕ, List, [], ◌∷◌, ◌++◌, fold, map}
use Rattle.std.proofs.lemmas.List.Elements.{All-head, All-tail}
use Rattle.std.specs.List.{All}
use Rattle.data_device.specs.Spelling.{HasSpelling}
use Rattle.data_device.specs.Device.{AreSpelled}
use Rattle.data_device.specs.Kept.{Kept, AllFit, kept_after}
use Rattle.data_device.specs.declared.record.StoreRecord.{StoreRecord}

pub spelled_append : (xs ys : List StoreRecord) → AreSpelled xs → AreSpelled ys → AreSpelled (xs ++ ys)
spelled_append [] ys one other = other
spelled_append (x ∷ xs) ys one other = (one.0, spelled_append xs ys one.1 other)

pub fit_append : (slots : ℕ) (kept : Kept) (xs ys : List StoreRecord) → AllFit slots kept xs → AllFit slots (fold kept_after kept xs) ys
    → AllFit slots kept (xs ++ ys)
fit_append slots kept [] ys one other = other
fit_append slots kept (x ∷ xs) ys one other = (one.0, fit_append slots (kept_after kept x) xs ys one.1 other)

pub spelled_map : {A : Type 0} (f : A → StoreRecord) (xs : List A) → All (λ x. HasSpelling (f x)) xs → AreSpelled (map f xs)
spelled_map f [] all = tt
spelled_map f (x ∷ xs) all = (All-head (λ y. HasSpelling (f y)) x xs all, spelled_map f xs (All-tail (λ y. HasSpelling (f y)) x xs all))
