-- What a source that was read up to a limit has given.
use Rattle.std.proofs.Common.{◌≡◌, ◌≤◌, ◌<◌, ℕ, List, [], ◌++◌, length, take, drop, min, arith, ◌∙◌, subst}
use Rattle.std.proofs.Math.Seq.{take-append_seam}
use Rattle.std.proofs.lemmas.List.{take_min, drop_all, length-take, length-take-le}
use Rattle.byte_streams.specs.Streams.{Takes}

drop_min : (n : ℕ) (xs : List ℕ) → drop (min n (length xs)) xs ≡ drop n xs
drop_min n xs = grind (arith, drop_all n xs, drop_all (length xs) xs)

take_prefix : (n : ℕ) (xs ys : List ℕ) → n ≤ length xs → take n (take n xs ++ ys) ≡ take n xs
take_prefix n xs ys le =
    let e = length-take-le n xs le in
    let same : take (length (take n xs)) (take n xs ++ ys) ≡ take n xs = take-append_seam (take n xs) ys in
    subst (λ (m : ℕ). take m (take n xs ++ ys) ≡ take n xs) e same

-- the front of the buffer is the prefix of what was left, up to the limit
pub read-front : (limit n : ℕ) (left rest old new : List ℕ) → n ≡ min limit (length left) → Takes left rest old new n → take n new ≡ take limit left
read-front limit n left rest old new is takes =
    rw takes.buffer (take_prefix n left (drop n old) takes.enough ∙ (rw is (take_min limit left)))

-- and the rest is still to come
pub read-rest : (limit n : ℕ) (left rest old new : List ℕ) → n ≡ min limit (length left) → Takes left rest old new n → rest ≡ drop limit left
read-rest limit n left rest old new is takes = rw (takes.rest_is, is) (drop_min limit left)

-- the prefix of a vector into which a slice of its length was written back
pub vec-front : (m n : ℕ) (xs ys : List ℕ) → n ≤ length xs → length xs ≡ m → take n (take m (xs ++ drop (length xs) ys)) ≡ take n xs
vec-front m n xs ys le is =
    let whole : take m (xs ++ drop (length xs) ys) ≡ xs =
    subst (λ (k : ℕ). take k (xs ++ drop (length xs) ys) ≡ xs) is (take-append_seam xs (drop (length xs) ys)) in
    rw whole

-- where fewer bytes came than were asked for, none is left
pub short-drop : (n : ℕ) (xs : List ℕ) → length (take n xs) < n → drop n xs ≡ []
short-drop n xs short = drop_all n xs (omega (arith, length-take n xs))
