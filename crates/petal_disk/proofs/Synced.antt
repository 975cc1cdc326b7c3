-- What was there at the last sync, and what a crash may leave.
use Rattle.std.proofs.Common.{◌≡◌, ℕ, ◌+◌, ◌-◌, ◌≤◌, List, [], ◌++◌, length, take, drop, sym, ◌∙◌, ap, subst, arith, append_assoc, append-nil}
use Rattle.std.proofs.Common.{length-append, length-drop, take-append-drop}
use Rattle.std.proofs.Math.Seq.{take-add}
use Rattle.std.proofs.lemmas.List.{drop-drop, length-take-le, take_at, drop_at}
use Rattle.petal_disk.specs.Disk.{part, Torn}
use Rattle.petal_disk.specs.Mixes.{Mixes, synced, LeftOf}
use Rattle.petal_disk.proofs.Mixed.{mixes_now, mixes_kept, mixes_same, length-written}
use Rattle.petal_disk.specs.Padded.{padded}
use Rattle.petal_disk.proofs.Padding.{part_padded, within_padded}
use Rattle.petal_disk.proofs.Tearing.{torn_front, torn_rest}

-- all of it, where nothing was written since
pub synced_all : (file : List ℕ) (low : ℕ) (before : List ℕ) → before ≡ [] → synced file low before ≡ file
synced_all file low before none =
    ap (λ (l : List ℕ). synced file low l) none
    ∙ ap (λ (l : List ℕ). l ++ drop (low + 0) file) (append-nil (take low file))
    ∙ ap (λ (k : ℕ). take low file ++ drop k file) (let e : low + 0 ≡ low = omega arith in e)
    ∙ take-append-drop low file

-- a crash may leave what is there
pub left_now : (file : List ℕ) (low : ℕ) (before : List ℕ) → low + length before ≤ length file → LeftOf file low before file
left_now file low before l = mixes_now file (synced file low before) (length-written low before file l)

-- and what was there
pub left_synced : (file : List ℕ) (low : ℕ) (before : List ℕ) → low + length before ≤ length file → LeftOf file low before (synced file low before)
left_synced file low before l = mixes_kept file (synced file low before) (length-written low before file l)

-- nothing else, where nothing was written since
pub only_now : (file : List ℕ) (low : ℕ) (before c : List ℕ) → before ≡ [] → LeftOf file low before c → c ≡ file
only_now file low before c none left = mixes_same file c (subst (λ (l : List ℕ). Mixes file l c) (synced_all file low before none) left)

-- a change within the range is none of what was there
pub synced_torn : (at n low : ℕ) (before file file' : List ℕ) → low ≤ at → at + n ≤ low + length before → Torn at n file file'
    → synced file' low before ≡ synced file low before
synced_torn at n low before file file' above below torn =
    ap (λ (l : List ℕ). (l ++ before) ++ drop (low + length before) file') (torn_front low at n file file' above torn)
    ∙ ap (λ (l : List ℕ). (take low file ++ before) ++ l) (torn_rest (low + length before) at n file file' below torn)

-- nor is a longer range
pub synced_up : (file : List ℕ) (low n : ℕ) (before : List ℕ) → low + length before + n ≤ length file
    → synced file low (before ++ part file (low + length before) n) ≡ synced file low before
synced_up file low n before l =
    let high : ℕ = low + length before in
    let more : List ℕ = part file high n in
    let many : length more ≡ n = length-take-le n (drop high file) (omega (arith, length-drop high file)) in
    let end : low + length (before ++ more) ≡ high + n = omega (arith, many, length-append before more) in
    ap (λ (k : ℕ). (take low file ++ (before ++ more)) ++ drop k file) end
    ∙ ap (λ (l : List ℕ). (take low file ++ (before ++ more)) ++ l) (sym (drop-drop n high file))
    ∙ ap (λ (l : List ℕ). l ++ drop n (drop high file)) (sym (append_assoc (take low file) before more))
    ∙ append_assoc (take low file ++ before) more (drop n (drop high file))
    ∙ ap (λ (l : List ℕ). (take low file ++ before) ++ l) (take-append-drop n (drop high file))

-- nor one that begins earlier
pub synced_down : (file : List ℕ) (at n : ℕ) (before : List ℕ) → at + n ≤ length file
    → synced file at (part file at n ++ before) ≡ synced file (at + n) before
synced_down file at n before l =
    let more : List ℕ = part file at n in
    let many : length more ≡ n = length-take-le n (drop at file) (omega (arith, length-drop at file)) in
    let end : at + length (more ++ before) ≡ at + n + length before = omega (arith, many, length-append more before) in
    ap (λ (k : ℕ). (take at file ++ (more ++ before)) ++ drop k file) end
    ∙ ap (λ (l : List ℕ). l ++ drop (at + n + length before) file) (sym (append_assoc (take at file) more before))
    ∙ ap (λ (l : List ℕ). (l ++ before) ++ drop (at + n + length before) file) (sym (take-add at n file))

-- so it is of bytes with zeros after them
pub padded_up : (file there : List ℕ) (low high count n : ℕ) (before more : List ℕ) → length file ≤ n → high + count ≤ n → high ≡ low + length before
    → there ≡ file → more ≡ before ++ padded (part there high count) count → synced (padded file n) low more ≡ synced (padded file n) low before
padded_up file there low high count n before more l fits up same is =
    let all : more ≡ before ++ part (padded file n) (low + length before) count =
    is ∙ ap (λ (l : List ℕ). before ++ padded (part l high count) count) same
    ∙ ap (λ (l : List ℕ). before ++ l) (part_padded file high count n fits l)
    ∙ ap (λ (k : ℕ). before ++ part (padded file n) k count) up in
    ap (λ (l : List ℕ). synced (padded file n) low l) all
    ∙ synced_up (padded file n) low count before (within_padded file n (low + length before + count) l (omega (arith, up, fits)))

-- what was added at the end is turned to the front
pub padded_down : (file there : List ℕ) (at low n : ℕ) (before more turned : List ℕ) → length file ≤ n → at ≤ low → low ≤ n
    → there ≡ file → more ≡ before ++ padded (part there at (low - at)) (low - at)
    → turned ≡ drop (length more - (low - at)) more ++ take (length more - (low - at)) more
    → synced (padded file n) at turned ≡ synced (padded file n) low before
padded_down file there at low n before more turned l le fits same is turns =
    let count : ℕ = low - at in
    let added : List ℕ = part (padded file n) at count in
    let inside : at + count ≤ length (padded file n) = within_padded file n (at + count) l (omega arith) in
    let both : more ≡ before ++ added = is ∙ ap (λ (l : List ℕ). before ++ padded (part l at count) count) same
    ∙ ap (λ (l : List ℕ). before ++ l) (part_padded file at count n (omega arith) l) in
    let many : length added ≡ count = length-take-le count (drop at (padded file n)) (omega (arith, inside, length-drop at (padded file n))) in
    let front : length before ≡ length more - count = omega (arith, ap length both, length-append before added, many) in
    let here : turned ≡ added ++ before = turns ∙ ap (λ (l : List ℕ). drop (length more - count) l ++ take (length more - count) l) both
    ∙ ap (λ (l : List ℕ). l ++ take (length more - count) (before ++ added)) (drop_at before added (length more - count) front)
    ∙ ap (λ (l : List ℕ). added ++ l) (take_at before added (length more - count) front) in
    ap (λ (l : List ℕ). synced (padded file n) at l) here
    ∙ synced_down (padded file n) at count before inside
    ∙ ap (λ (m : ℕ). synced (padded file n) m before) (let e : at + count ≡ low = omega arith in e)
