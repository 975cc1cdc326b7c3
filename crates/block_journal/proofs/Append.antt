-- What a crash may leave after each call of an append.
use Rattle.std.proofs.Common.{◌≡◌, ◌≢◌, inl, inr, ℕ, ◌+◌, ◌-◌, ◌*◌, ◌<◌, ◌≤◌, List, [], ◌∷◌, ◌++◌, length, take, drop}
use Rattle.std.proofs.Common.{get_or, sym, ◌∙◌, ap, subst, arith, length-append}
use Rattle.std.proofs.Math.Seq.{get_or-append_seam}
use Rattle.std.proofs.lemmas.List.{get_or_append_left, get_or-drop, get_or-take}
use Rattle.std.proofs.lemmas.Bool.{cases_eq}
use Rattle.petal_disk.specs.Disk.{Torn, Follows, Only, LeavesOnly, LeftByWrite, written, part}
use Rattle.petal_disk.proofs.Moments.{joined, weaker}
use Rattle.petal_disk.proofs.Tearing.{torn_wider, torn_twice, torn_written, part_written}
use Rattle.block_journal.specs.Records.{IsOpen, body_at, Stands, LeftByAppend, WithOrWithout}
use Rattle.block_journal.specs.Region.{Region}
use Rattle.block_journal.proofs.Slots.{apart, up_to, Outside, same_byte, same_part}
use Rattle.block_journal.proofs.Frame.{stands_along}

-- there is room for one body more
pub record Room (r : ℕ) (region : Region) (bodies : List (List ℕ)) (body : List ℕ) : Type 0 where
  pub wide : 0 < r
  pub count : region.count ≡ length bodies
  pub room : region.count < region.limit
  pub len : length body ≡ r - 1

-- both writes stay in the region
pub body_within : (r base limit count n : ℕ) (x y : List ℕ) → 0 < r → count < limit → n ≡ r - 1 → Torn (base + r * count + 1) n x y → Torn base (r * limit) x y
body_within r base limit count n x y wide room len torn =
    torn_wider (base + r * count + 1) n base (r * limit) x y (omega arith) (omega (arith, apart r count limit room)) torn

pub gate_within : (r base limit count : ℕ) (x y : List ℕ) → 0 < r → count < limit → Torn (base + r * count) 1 x y → Torn base (r * limit) x y
gate_within r base limit count x y wide room torn =
    torn_wider (base + r * count) 1 base (r * limit) x y (omega arith) (omega (arith, apart r count limit room)) torn

module _ (r : ℕ) (region : Region) (bodies : List (List ℕ)) (body : List ℕ) (room : Room r region bodies body) where
  abbrev pub place : ℕ
  place = region.base + r * region.count

  abbrev Has : List (List ℕ) → List ℕ → Type 0
  Has all file = Stands r region.base region.limit file all

  record_fits : r * region.count + r ≤ r * region.limit
  record_fits = apart r region.count region.limit room.room

  -- a record before this one
  earlier : (i : ℕ) → i < length bodies → r * i + r ≤ r * region.count
  earlier i lt = apart r i region.count (omega (arith, room.count))

  -- the gate of another record
  other_gate : (i : ℕ) → i ≢ region.count → Outside place 1 (region.base + r * i) 1
  other_gate i other = elim (cases_eq (i - region.count) 0) [
    | inl before ↦ inl (let lt : i < region.count = omega (arith, other) in omega (arith, apart r i region.count lt, room.wide))
    | inr following ↦ inr (let lt : region.count < i = omega arith in omega (arith, apart r region.count i lt, room.wide))
  ]

  -- no gate lies in the body
  any_gate : (i : ℕ) → Outside (place + 1) (length body) (region.base + r * i) 1
  any_gate i = elim (cases_eq (i - region.count) 0) [
    | inl before ↦ inl (let le : i ≤ region.count = omega arith in omega (arith, up_to r i region.count le))
    | inr following ↦ inr (let lt : region.count < i = omega arith in omega (arith, apart r region.count i lt, room.wide, room.len))
  ]

  -- any bytes in the body of the first record that is closed change nothing
  pub body_changes : (x y : List ℕ) → Torn (place + 1) (length body) x y → Has bodies x → Has bodies y
  body_changes x y torn has =
      stands_along r region.base region.limit x y bodies
      (λ i lt. same_byte (place + 1) (length body) (region.base + r * i) x y torn (any_gate i))
      (λ i lt. same_part (place + 1) (length body) (region.base + r * i + 1) (r - 1) x y torn (inl (omega (arith, earlier i lt, room.wide))))
      has

  -- the bodies stay where only the gate of that record changes
  same_record : (x y : List ℕ) → Torn place 1 x y → Has bodies x → (i : ℕ) → i < length bodies
      → IsOpen r region.base y i × (body_at r region.base y i ≡ get_or bodies i [])
  same_record x y torn has i lt = (
    same_byte place 1 (region.base + r * i) x y torn (inl (omega (arith, earlier i lt, room.wide))) ∙ (has.counted i lt).0,
    same_part place 1 (region.base + r * i + 1) (r - 1) x y torn (inl (omega (arith, earlier i lt, room.wide))) ∙ (has.counted i lt).1,
  )

  still_closed : (x y : List ℕ) → Torn place 1 x y → Has bodies x → (i : ℕ) → i ≢ region.count → length bodies ≤ i → i < region.limit
      → ¬ IsOpen r region.base y i
  still_closed x y torn has i other le lt opened = has.closed i le lt (sym (same_byte place 1 (region.base + r * i) x y torn (other_gate i other)) ∙ opened)

  pub gate_opened : (x y : List ℕ) → Torn place 1 x y → part x (place + 1) (r - 1) ≡ body → get_or y place 0 ≡ 165 → Has bodies x → Has (bodies ++ body ∷ []) y
  gate_opened x y torn there opened has =
      let longer : length (bodies ++ body ∷ []) ≡ length bodies + 1 = omega (arith, length-append bodies (body ∷ [])) in
      record {
        few = omega (arith, longer, room.count, room.room);
        counted = λ i lt. elim (cases_eq i (length bodies)) [
          | inl last ↦
              let at : region.base + r * i ≡ place = ap (λ (k : ℕ). region.base + r * k) (last ∙ sym room.count) in (
                ap (λ (k : ℕ). get_or y k 0) at ∙ opened,
                ap (λ (k : ℕ). part y (k + 1) (r - 1)) at
                    ∙ same_part place 1 (place + 1) (r - 1) x y torn (inr (omega arith))
                    ∙ there
                    ∙ sym (ap (λ (k : ℕ). get_or (bodies ++ body ∷ []) k []) last ∙ get_or-append_seam bodies body [] []),
              )
          | inr other ↦
              let within : i < length bodies = omega (arith, longer, lt, other) in
              let same = same_record x y torn has i within in
              (same.0, same.1 ∙ sym (get_or_append_left bodies (body ∷ []) [] i within))
        ];
        closed = λ i le lt. still_closed x y torn has i (let ne : i ≢ region.count = λ e. omega (arith, e, le, longer, room.count) in ne)
            (omega (arith, le, longer)) lt;
      }

  gate_shut : (x y : List ℕ) → Torn place 1 x y → get_or y place 0 ≢ 165 → Has bodies x → Has bodies y
  gate_shut x y torn shut has = record {
    few = has.few;
    counted = same_record x y torn has;
    closed = λ i le lt. elim (cases_eq i region.count) [
      | inl here ↦ λ opened. shut (sym (ap (λ (k : ℕ). get_or y (region.base + r * k) 0) here) ∙ opened)
      | inr other ↦ still_closed x y torn has i other le lt
    ];
  }

  -- whatever the gate is then, the list is the one before or has the body
  pub gate_changes : (x y : List ℕ) → Torn place 1 x y → part x (place + 1) (r - 1) ≡ body → Has bodies x → WithOrWithout r region bodies body y
  gate_changes x y torn there has = elim (cases_eq (get_or y place 0) 165) [
    | inl opened ↦ inr (gate_opened x y torn there opened has)
    | inr shut ↦ inl (gate_shut x y torn shut has)
  ]

  -- the body stands there after the first write
  pub body_there : (file file1 : List ℕ) → region.base + r * region.limit ≤ length file → file1 ≡ written file (place + 1) body
      → part file1 (place + 1) (r - 1) ≡ body
  body_there file file1 fits is =
      ap (λ (f : List ℕ). part f (place + 1) (r - 1)) is
      ∙ ap (λ (n : ℕ). part (written file (place + 1) body) (place + 1) n) (sym room.len)
      ∙ part_written file (place + 1) body (omega (arith, record_fits, room.len, room.wide, fits))

  -- and the gate is open after the second
  pub counts_then : (file1 file2 : List ℕ) → region.base + r * region.limit ≤ length file1 → part file1 (place + 1) (r - 1) ≡ body
      → file2 ≡ written file1 place (165 ∷ []) → Has bodies file1 → Has (bodies ++ body ∷ []) file2
  counts_then file1 file2 fits there is has =
      let file3 = written file1 place (165 ∷ []) in
      let inside : place + 1 ≤ length file1 = omega (arith, record_fits, room.wide, fits) in
      let torn : Torn place 1 file1 file3 = torn_written file1 place (165 ∷ []) inside in
      let gate : take 1 (drop place file3) ≡ 165 ∷ [] = part_written file1 place (165 ∷ []) inside in
      let here : get_or file3 place 0 ≡ get_or (drop place file3) 0 0 =
      sym (get_or-drop place file3 0 0 ∙ ap (λ (j : ℕ). get_or file3 j 0) (let e : place + 0 ≡ place = omega arith in e)) in
      let opened : get_or file3 place 0 ≡ 165 = here ∙ sym (get_or-take 1 (drop place file3) 0 0 (omega arith)) ∙ ap (λ (l : List ℕ). get_or l 0 0) gate in
      subst (λ (f : List ℕ). Has (bodies ++ body ∷ []) f) (sym is) (gate_opened file1 file3 torn there opened has)

  first_left : (leave0 : List ℕ → Type 0) → ((c : List ℕ) → leave0 c → Has bodies c) → (c : List ℕ) → LeftByWrite (place + 1) (length body) leave0 c
      → LeftByAppend r region leave0 bodies body c
  first_left leave0 has c left = record {
    stands = inl (body_changes left.0 c left.2 (has left.0 left.1));
    from = left.0;
    from_left = left.1;
    outside = body_within r region.base region.limit region.count (length body) left.0 c room.wide room.room room.len left.2;
  }

  second_left : (leave0 leave1 : List ℕ → Type 0) (file1 : List ℕ) → ((c : List ℕ) → leave0 c → Has bodies c)
      → Follows (Torn (place + 1) (length body)) leave0 leave1 → Only file1 leave1 → part file1 (place + 1) (r - 1) ≡ body
      → (c : List ℕ) → LeftByWrite place 1 leave1 c → LeftByAppend r region leave0 bodies body c
  second_left leave0 leave1 file1 has follows only there c left =
      let was = follows left.0 left.1 in
      let there' : part left.0 (place + 1) (r - 1) ≡ body = ap (λ (f : List ℕ). part f (place + 1) (r - 1)) (only left.0 left.1) ∙ there in
      record {
        stands = gate_changes left.0 c left.2 there' (body_changes was.0 left.0 was.2 (has was.0 was.1));
        from = was.0;
        from_left = was.1;
        outside = torn_twice region.base (r * region.limit) was.0 left.0 c (body_within r region.base region.limit region.count (length body) was.0 left.0
            room.wide room.room room.len was.2) (gate_within r region.base region.limit region.count left.0 c room.wide room.room left.2);
      }

  module _ {D : Type 0} (moment : D → ℕ) (left_since : D → ℕ → List ℕ → Type 0) where
    -- at each moment up to the first sync
    pub moments_of_body : (d0 d1 : D) (leave0 : List ℕ → Type 0) → ((c : List ℕ) → leave0 c → Has bodies c)
        → LeavesOnly moment left_since d0 d1 (LeftByWrite (place + 1) (length body) leave0)
        → LeavesOnly moment left_since d0 d1 (LeftByAppend r region leave0 bodies body)
    moments_of_body d0 d1 leave0 has run =
        weaker moment left_since d0 d1 (LeftByWrite (place + 1) (length body) leave0) (LeftByAppend r region leave0 bodies body) run (first_left leave0 has)

    -- and up to the second
    pub moments_of_gate : (d0 d1 d2 : D) (leave0 leave1 : List ℕ → Type 0) (file1 : List ℕ) → ((c : List ℕ) → leave0 c → Has bodies c)
        → Follows (Torn (place + 1) (length body)) leave0 leave1 → Only file1 leave1 → part file1 (place + 1) (r - 1) ≡ body
        → LeavesOnly moment left_since d0 d1 (LeftByWrite (place + 1) (length body) leave0)
        → LeavesOnly moment left_since d1 d2 (LeftByWrite place 1 leave1) → LeavesOnly moment left_since d0 d2 (LeftByAppend r region leave0 bodies body)
    moments_of_gate d0 d1 d2 leave0 leave1 file1 has follows only there first second =
        joined moment left_since d0 d1 d2 (LeftByAppend r region leave0 bodies body) (LeftByWrite place 1 leave1)
        (moments_of_body d0 d1 leave0 has first) second (second_left leave0 leave1 file1 has follows only there)
