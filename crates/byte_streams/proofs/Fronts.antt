-- The front of a buffer as it fills, and the front of a piece as it is written.
use Rattle.std.proofs.Common.{◌≡◌, ℕ, ◌+◌, ◌-◌, ◌≤◌, List, [], ◌++◌, length, take, drop, sym, ◌∙◌, ap, arith, append_assoc}
use Rattle.std.proofs.Common.{append-nil, length-drop, take-append-drop}
use Rattle.std.proofs.lemmas.List.{take_at, drop_at, take-take, drop-take, drop-drop, length-take-le, take_all, drop_all}
use borrow.Rule.Slice.PartMut.{put_mid, post_of}
use Rattle.byte_streams.specs.Streams.{Takes}

-- the first bytes came, and stand at the front of the buffer
pub record TakenSoFar (left rest old new : List ℕ) (done : ℕ) : Type 0 where
  pub enough : done ≤ length left
  pub buffer : new ≡ take done left ++ drop done old
  pub rest_is : rest ≡ drop done left

-- one piece after another
pub joined : (done count : ℕ) (bytes : List ℕ) → take done bytes ++ take count (drop done bytes) ≡ take (done + count) bytes
joined done count bytes =
    ap (λ (l : List ℕ). l ++ take count (drop done bytes)) (sym (take-take done (done + count) bytes (omega arith)))
    ∙ ap (λ (l : List ℕ). take done (take (done + count) bytes) ++ l) (sym (drop-take done count bytes))
    ∙ take-append-drop done (take (done + count) bytes)

append_nil_then : {xs : List ℕ} (new : List ℕ) → new ≡ xs → new ++ [] ≡ xs
append_nil_then new e = append-nil new ∙ e

pub more_taken : (left rest rest' old into new : List ℕ) (done count k : ℕ) → done ≤ length into → k ≡ length into - done
    → TakenSoFar left rest old into done → Takes rest rest' (take k (drop done into)) new count
    → TakenSoFar left rest' old (put_mid done k into new) (done + count)
more_taken left rest rest' old into new done count k within wide so_far takes =
    let long : length (take done left) ≡ done = length-take-le done left so_far.enough in
    let front : take done into ≡ take done left = ap (λ (l : List ℕ). take done l) so_far.buffer ∙ take_at (take done left) (drop done old) done long in
    let following : drop done into ≡ drop done old = ap (λ (l : List ℕ). drop done l) so_far.buffer ∙ drop_at (take done left) (drop done old) done long in
    let part : take k (drop done into) ≡ drop done old = take_all k (drop done into) (omega (arith, length-drop done into)) ∙ following in
    let none : post_of done k into ≡ [] = drop_all k (drop done into) (omega (arith, length-drop done into)) in
    let came : new ≡ take count (drop done left) ++ drop (done + count) old =
    takes.buffer
    ∙ ap (λ (l : List ℕ). take count l ++ drop count (take k (drop done into))) so_far.rest_is
    ∙ ap (λ (l : List ℕ). take count (drop done left) ++ drop count l) part
    ∙ ap (λ (l : List ℕ). take count (drop done left) ++ l) (drop-drop count done old) in
    record {
      enough = omega (arith, takes.enough, ap length so_far.rest_is, length-drop done left, so_far.enough);
      buffer =
          ap (λ (l : List ℕ). l ++ (new ++ post_of done k into)) front
          ∙ ap (λ (l : List ℕ). take done left ++ (new ++ l)) none
          ∙ ap (λ (l : List ℕ). take done left ++ l) (append_nil_then new came)
          ∙ sym (append_assoc (take done left) (take count (drop done left)) (drop (done + count) old))
          ∙ ap (λ (l : List ℕ). l ++ drop (done + count) old) (joined done count left);
      rest_is = takes.rest_is ∙ ap (λ (l : List ℕ). drop count l) so_far.rest_is ∙ drop-drop count done left;
    }

-- a piece after what was written
pub more_written : (old mid new bytes : List ℕ) (done count k : ℕ) → k ≡ length bytes - done → mid ≡ old ++ take done bytes
    → new ≡ mid ++ take count (take k (drop done bytes)) → new ≡ old ++ take (done + count) bytes
more_written old mid new bytes done count k wide so_far is =
    is
    ∙ ap (λ (l : List ℕ). mid ++ take count l) (take_all k (drop done bytes) (omega (arith, length-drop done bytes)))
    ∙ ap (λ (l : List ℕ). l ++ take count (drop done bytes)) so_far
    ∙ append_assoc old (take done bytes) (take count (drop done bytes))
    ∙ ap (λ (l : List ℕ). old ++ l) (joined done count bytes)
