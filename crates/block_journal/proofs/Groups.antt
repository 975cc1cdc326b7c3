-- What a group leaves where it is written.
use Rattle.std.proofs.Common.{◌≡◌, ◌⊎◌, inl, inr, ℕ, ◌+◌, ◌-◌, ◌*◌, ◌<◌, ◌≤◌, List, [], ◌∷◌, ◌++◌, length, take, drop}
use Rattle.std.proofs.Common.{get_or, sym, ◌∙◌, ap, subst, arith, length-append}
use Rattle.std.proofs.lemmas.List.{get_or_append_left, get_or-append_right, get_or-take, length-take, take_at, drop_at}
use Rattle.std.proofs.lemmas.List.{take-append-le, length-take-le, drop-take}
use Rattle.std.proofs.lemmas.Bool.{cases_eq}
use Rattle.petal_disk.specs.Disk.{Torn, written, part}
use Rattle.petal_disk.proofs.Tearing.{torn_wider, torn_written, part_written}
use Rattle.block_journal.specs.Groups.{Laid, Filled}
use Rattle.block_journal.specs.Records.{IsOpen, body_at, Counts}
use Rattle.block_journal.proofs.Counting.{counts_joined}
use Rattle.block_journal.proofs.Slots.{Outside, same_byte, same_part, byte_of_part, part_of_part}

-- one body more in a piece
module _ (bodies : List (List ℕ)) (first n : ℕ) (x y body : List ℕ) (gate : ℕ) (room : 64 * n + 64 ≤ length x) (long : length body ≡ 63)
    (all_put : take (64 * n + 63 + 1) y ≡ take (64 * n) x ++ body ++ gate ∷ []) where
  front : length (take (64 * n) x) ≡ 64 * n
  front = length-take-le (64 * n) x (omega arith)

  both : length (take (64 * n) x ++ body) ≡ 64 * n + 63
  both = omega (arith, front, long, length-append (take (64 * n) x) body)

  -- a part that lies before
  part_before : (k m : ℕ) → k + m ≤ 64 * n → part y k m ≡ part x k m
  part_before k m le =
      sym (part_of_part y 0 (64 * n + 63 + 1) k m (omega arith) ∙ ap (λ (j : ℕ). part y j m) (let e : 0 + k ≡ k = omega arith in e))
      ∙ ap (λ (l : List ℕ). part l k m) all_put
      ∙ sym (part_of_part (take (64 * n) x ++ body ++ gate ∷ []) 0 (64 * n) k m le
      ∙ ap (λ (j : ℕ). part (take (64 * n) x ++ body ++ gate ∷ []) j m) (let e : 0 + k ≡ k = omega arith in e))
      ∙ ap (λ (l : List ℕ). part l k m) (take-append-le (64 * n) (take (64 * n) x ++ body) (gate ∷ []) (omega (arith, both))
      ∙ take_at (take (64 * n) x) body (64 * n) front)
      ∙ part_of_part x 0 (64 * n) k m le
      ∙ ap (λ (j : ℕ). part x j m) (let e : 0 + k ≡ k = omega arith in e)

  byte_before : (k : ℕ) → k < 64 * n → get_or y k 0 ≡ get_or x k 0
  byte_before k lt =
      sym (get_or-take (64 * n + 63 + 1) y k 0 (omega arith))
      ∙ ap (λ (l : List ℕ). get_or l k 0) all_put
      ∙ get_or_append_left (take (64 * n) x ++ body) (gate ∷ []) 0 k (omega (arith, both))
      ∙ get_or_append_left (take (64 * n) x) body 0 k (omega (arith, front))
      ∙ get_or-take (64 * n) x k 0 lt

  body_put : part y (64 * n) 63 ≡ body
  body_put =
      sym (part_of_part y 0 (64 * n + 63 + 1) (64 * n) 63 (omega arith) ∙ ap (λ (j : ℕ). part y j 63) (let e : 0 + 64 * n ≡ 64 * n = omega arith in e))
      ∙ ap (λ (l : List ℕ). part l (64 * n) 63) all_put
      ∙ sym (drop-take (64 * n) 63 (take (64 * n) x ++ body ++ gate ∷ []))
      ∙ ap (λ (l : List ℕ). drop (64 * n) l) (take_at (take (64 * n) x ++ body) (gate ∷ []) (64 * n + 63) both)
      ∙ drop_at (take (64 * n) x) body (64 * n) front

  gate_put : get_or y (64 * n + 63) 0 ≡ gate
  gate_put =
      sym (get_or-take (64 * n + 63 + 1) y (64 * n + 63) 0 (omega arith))
      ∙ ap (λ (l : List ℕ). get_or l (64 * n + 63) 0) all_put
      ∙ get_or-append_right (take (64 * n) x ++ body) (gate ∷ []) (64 * n + 63) (64 * n + 63) 0 both (omega arith)
      ∙ ap (λ (j : ℕ). get_or (gate ∷ []) j 0) (let e : 64 * n + 63 - (64 * n + 63) ≡ 0 = omega arith in e)

  pub filled_more : body ≡ get_or bodies (first + n) [] → (first + n + 1 < length bodies → gate ≡ 165) → (first + n + 1 ≡ length bodies → gate ≡ 0)
      → Filled bodies first n x → Filled bodies first (n + 1) y
  filled_more is opened shut filled = record {
    bodies_there = λ i lt. elim (cases_eq i n) [
      | inl here ↦ ap (λ (k : ℕ). part y (64 * k) 63) here ∙ body_put ∙ is ∙ ap (λ (k : ℕ). get_or bodies (first + k) []) (sym here)
      | inr other ↦ let before : i < n = omega (arith, lt, other) in part_before (64 * i) 63 (omega arith) ∙ filled.bodies_there i before
    ];
    opened = λ i lt more. elim (cases_eq i n) [
      | inl here ↦ ap (λ (k : ℕ). get_or y (64 * k + 63) 0) here ∙ gate_put ∙ opened (omega (arith, here, more))
      | inr other ↦ let before : i < n = omega (arith, lt, other) in byte_before (64 * i + 63) (omega arith) ∙ filled.opened i before more
    ];
    shut = λ i lt last. elim (cases_eq i n) [
      | inl here ↦ ap (λ (k : ℕ). get_or y (64 * k + 63) 0) here ∙ gate_put ∙ shut (omega (arith, here, last))
      | inr other ↦ let before : i < n = omega (arith, lt, other) in byte_before (64 * i + 63) (omega arith) ∙ filled.shut i before last
    ];
  }

pub filled_none : (bodies : List (List ℕ)) (first : ℕ) (piece : List ℕ) → Filled bodies first 0 piece
filled_none bodies first piece = record {
  bodies_there = λ i lt. absurd (omega (arith, lt));
  opened = λ i lt. absurd (omega (arith, lt));
  shut = λ i lt. absurd (omega (arith, lt));
}

pub laid_none : (at limit : ℕ) (file : List ℕ) (bodies : List (List ℕ)) → 0 < length bodies → Laid at limit 0 file bodies
laid_none at limit file bodies some = record {
  few = omega arith;
  bodies_there = λ i lt. absurd (omega (arith, lt));
  opened = λ i lt. absurd (omega (arith, lt));
  shut = λ is. absurd (omega (arith, is));
}

-- a piece is written: it ends with the gate behind its last body, or before it where no record follows
pub record Piece (at limit first n len : ℕ) (bodies : List (List ℕ)) (x y piece : List ℕ) : Type 0 where
  pub some : 0 < n
  pub few : first + n ≤ length bodies
  pub room : length bodies ≤ limit
  pub fits : at + 64 * limit ≤ length x
  pub has : len ≤ length piece
  pub inside : first + n < limit → len ≡ 64 * n
  pub ends : first + n ≡ limit → len + 1 ≡ 64 * n
  pub is : y ≡ written x (at + 64 * first + 1) (take len piece)

module _ (at limit first n len : ℕ) (bodies : List (List ℕ)) (x y piece : List ℕ) (it : Piece at limit first n len bodies x y piece) where
  open it use {some, few, room, fits, has, inside, ends, is}

  abbrev start : ℕ
  start = at + 64 * first + 1

  bytes_long : length (take len piece) ≡ len
  bytes_long = length-take-le len piece has

  len_is : (len ≡ 64 * n) ⊎ ((len + 1 ≡ 64 * n) × (first + n ≡ limit))
  len_is = elim (cases_eq (first + n) limit) [
    | inl last ↦ inr (ends last, last)
    | inr other ↦ inl (inside (omega (arith, other, few, room)))
  ]

  all_fit : start + length (take len piece) ≤ length x
  all_fit = elim len_is [
    | inl all ↦ elim (cases_eq (first + n) limit) [
      | inl last ↦ absurd (omega (arith, ends last, all, some))
      | inr other ↦ omega (arith, bytes_long, all, few, room, fits, other)
    ]
    | inr w ↦ omega (arith, bytes_long, w.0, w.1, fits, some)
  ]

  torn_piece : Torn start len x y
  torn_piece =
      subst (λ (k : ℕ). Torn start k x y) bytes_long (subst (λ (f : List ℕ). Torn start (length (take len piece)) x f) (sym is)
      (torn_written x start (take len piece) all_fit))

  -- so the written bytes are those of the piece
  there : part y start len ≡ take len piece
  there =
      ap (λ (k : ℕ). part y start k) (sym bytes_long)
      ∙ ap (λ (f : List ℕ). part f start (length (take len piece))) is
      ∙ part_written x start (take len piece) all_fit

  part_there : (k m : ℕ) → k + m ≤ len → part y (start + k) m ≡ part piece k m
  part_there k m le =
      sym (part_of_part y start len k m le)
      ∙ ap (λ (l : List ℕ). part l k m) there
      ∙ part_of_part piece 0 len k m le
      ∙ ap (λ (j : ℕ). part piece j m) (let e : 0 + k ≡ k = omega arith in e)

  byte_there : (k : ℕ) → k < len → get_or y (start + k) 0 ≡ get_or piece k 0
  byte_there k lt = sym (byte_of_part y start len k lt) ∙ ap (λ (l : List ℕ). get_or l k 0) there ∙ get_or-take len piece k 0 lt

  pub torn_all : Torn (at + 1) (64 * limit - 1) x y
  torn_all = torn_wider start len (at + 1) (64 * limit - 1) x y (omega arith) (elim len_is [
    | inl all ↦ elim (cases_eq (first + n) limit) [
      | inl last ↦ absurd (omega (arith, ends last, all, some))
      | inr other ↦ omega (arith, all, few, room, other)
    ]
    | inr w ↦ omega (arith, w.0, w.1, some)
  ]) torn_piece

  gate_there : (j : ℕ) → j < n → first + j + 1 < limit → get_or y (at + 64 * (first + j + 1)) 0 ≡ get_or piece (64 * j + 63) 0
  gate_there j lt more =
      ap (λ (k : ℕ). get_or y k 0) (let e : at + 64 * (first + j + 1) ≡ start + (64 * j + 63) = omega arith in e)
      ∙ byte_there (64 * j + 63) (elim len_is [
        | inl all ↦ omega (arith, lt, all)
        | inr w ↦ omega (arith, lt, w.0, w.1, more)
      ])

  pub laid_more : Filled bodies first n piece → Laid at limit first x bodies → Laid at limit (first + n) y bodies
  laid_more filled laid = record {
    few = few;
    bodies_there = λ i lt. elim (cases_eq (first - i) 0) [
      | inl following ↦
          let le : first ≤ i = omega arith in
          let j = i - first in
          let within : j < n = omega (arith, lt, le) in
          let spot : at + 64 * i + 1 ≡ start + 64 * j = omega (arith, le) in
          let number : first + j ≡ i = omega (arith, le) in
          let inside' : 64 * j + 63 ≤ len = elim len_is [ inl all ↦ omega (arith, within, all) | inr w ↦ omega (arith, within, w.0) ] in
          ap (λ (k : ℕ). part y k 63) spot
          ∙ part_there (64 * j) 63 inside'
          ∙ filled.bodies_there j within
          ∙ ap (λ (k : ℕ). get_or bodies k []) number
      | inr before ↦
          let lt' : i < first = omega arith in
          same_part start len (at + 64 * i + 1) 63 x y torn_piece (inl (omega arith)) ∙ laid.bodies_there i lt'
    ];
    opened = λ i lt more. elim (cases_eq (first - i) 0) [
      | inl following ↦
          let le : first ≤ i = omega arith in
          let j = i - first in
          let within : j < n = omega (arith, lt, le) in
          let number : i + 1 ≡ first + j + 1 = omega (arith, le) in
          ap (λ (k : ℕ). get_or y (at + 64 * k) 0) number
          ∙ gate_there j within (omega (arith, number, more, room))
          ∙ filled.opened j within (omega (arith, number, more))
      | inr before ↦
          let lt' : i < first = omega arith in
          same_byte start len (at + 64 * (i + 1)) x y torn_piece (inl (omega arith)) ∙ laid.opened i lt' more
    ];
    shut = λ all lt opened.
        let j = n - 1 in
        let within : j < n = omega (arith, some) in
        let number : first + n ≡ first + j + 1 = omega (arith, some) in
        let zero_there : get_or y (at + 64 * (first + n)) 0 ≡ 0 =
        ap (λ (k : ℕ). get_or y (at + 64 * k) 0) number
        ∙ gate_there j within (omega (arith, number, lt))
        ∙ filled.shut j within (omega (arith, number, all)) in
        absurd (let e : 0 ≡ 165 = sym zero_there ∙ opened in cc);
  }

-- a group in one piece
pub laid_whole : (at limit len : ℕ) (bodies : List (List ℕ)) (x y piece : List ℕ) → 0 < length bodies → length bodies ≤ limit → at + 64 * limit ≤ length x
    → len ≤ length piece → (length bodies < limit → len ≡ 64 * length bodies) → (length bodies ≡ limit → len + 1 ≡ 64 * length bodies)
    → y ≡ written x (at + 1) (take len piece) → Filled bodies 0 (length bodies) piece → Laid at limit (length bodies) y bodies
laid_whole at limit len bodies x y piece some room fits has inside ends is filled =
    let all : 0 + length bodies ≡ length bodies = omega arith in
    let spot : at + 1 ≡ at + 64 * 0 + 1 = omega arith in
    let it : Piece at limit 0 (length bodies) len bodies x y piece = record {
      some = some;
      few = omega arith;
      room = room;
      fits = fits;
      has = has;
      inside = λ lt. inside (omega (arith, lt));
      ends = λ last. ends (omega (arith, last));
      is = is ∙ ap (λ (k : ℕ). written x k (take len piece)) spot;
    } in
    subst (λ (k : ℕ). Laid at limit k y bodies) all (laid_more at limit 0 (length bodies) len bodies x y piece it filled (laid_none at limit x bodies some))

-- its bytes have room
pub piece_within : (limit n len : ℕ) (piece : List ℕ) → 0 < n → n ≤ limit → (n < limit → len ≡ 64 * n) → (n ≡ limit → len + 1 ≡ 64 * n)
    → length (take len piece) ≤ 64 * limit - 1
piece_within limit n len piece some few inside ends = elim (cases_eq n limit) [
  | inl last ↦ omega (arith, length-take len piece, ends last, last, some)
  | inr other ↦ let lt : n < limit = omega (arith, few, other) in omega (arith, length-take len piece, inside lt, lt)
]

-- with the first gate open the bodies count
pub laid_counts : (at limit : ℕ) (file : List ℕ) (bodies : List (List ℕ)) → length bodies ≤ limit → get_or file at 0 ≡ 165
    → Laid at limit (length bodies) file bodies → Counts 64 at limit file bodies
laid_counts at limit file bodies few gate laid = record {
  few = few;
  counted = λ i lt. elim (cases_eq i 0) [
    | inl none ↦ (
      ap (λ (k : ℕ). get_or file k 0) (let e : at + 64 * i ≡ at = omega (arith, none) in e) ∙ gate,
      laid.bodies_there i lt,
    )
    | inr some ↦
        let number : i - 1 + 1 ≡ i = omega (arith, some) in (
          ap (λ (k : ℕ). get_or file (at + 64 * k) 0) (sym number) ∙ laid.opened (i - 1) (omega (arith, lt)) (omega (arith, number, lt)),
          laid.bodies_there i lt,
        )
  ];
  ends = laid.shut (λ i. length bodies);
}

-- the first gate is none of what was laid
pub laid_still : (at limit k : ℕ) (x y : List ℕ) (bodies : List (List ℕ)) → 0 < length bodies → Torn at 1 x y → Laid at limit k x bodies
    → Laid at limit k y bodies
laid_still at limit k x y bodies some torn laid = record {
  few = laid.few;
  bodies_there = λ i lt. same_part at 1 (at + 64 * i + 1) 63 x y torn (inr (omega arith)) ∙ laid.bodies_there i lt;
  opened = λ i lt more. same_byte at 1 (at + 64 * (i + 1)) x y torn (inr (omega arith)) ∙ laid.opened i lt more;
  shut = λ all lt opened. laid.shut all lt (sym (same_byte at 1 (at + 64 * k) x y torn (inr (omega (arith, all, some)))) ∙ opened);
}

-- any bytes behind the gate that ends a list change nothing
pub counts_still : (at limit p n : ℕ) (x y : List ℕ) (bodies : List (List ℕ)) → Torn p n x y → at + 64 * length bodies < p → Counts 64 at limit x bodies
    → Counts 64 at limit y bodies
counts_still at limit p n x y bodies torn behind counts = record {
  few = counts.few;
  counted = λ i lt. (
    same_byte p n (at + 64 * i) x y torn (inl (omega (arith, lt, behind))) ∙ (counts.counted i lt).0,
    same_part p n (at + 64 * i + 1) 63 x y torn (inl (omega (arith, lt, behind))) ∙ (counts.counted i lt).1,
  );
  ends = λ lt opened. counts.ends lt (sym (same_byte p n (at + 64 * length bodies) x y torn (inl (omega (arith, behind)))) ∙ opened);
}

-- nor do bytes outside all of the list's records
pub counts_outside : (at limit p n : ℕ) (x y : List ℕ) (bodies : List (List ℕ)) → Torn p n x y → Outside p n at (64 * limit) → Counts 64 at limit x bodies
    → Counts 64 at limit y bodies
counts_outside at limit p n x y bodies torn away counts = record {
  few = counts.few;
  counted = λ i lt. (
    same_byte p n (at + 64 * i) x y torn (elim away [
      | inl before ↦ inl (omega (arith, lt, before, counts.few))
      | inr following ↦ inr (omega (arith, lt, following, counts.few))
    ]) ∙ (counts.counted i lt).0,
    same_part p n (at + 64 * i + 1) 63 x y torn (elim away [
      | inl before ↦ inl (omega (arith, lt, before, counts.few))
      | inr following ↦ inr (omega (arith, lt, following, counts.few))
    ]) ∙ (counts.counted i lt).1,
  );
  ends = λ lt opened. counts.ends lt (sym (same_byte p n (at + 64 * length bodies) x y torn (elim away [
    | inl before ↦ inl (omega (arith, lt, before))
    | inr following ↦ inr (omega (arith, lt, following))
  ])) ∙ opened);
}

-- a group behind a list of n bodies: its first gate changes, and the list is the one before or has the group
module _ (at limit n : ℕ) (x y : List ℕ) (olds bodies : List (List ℕ)) (all : length olds ≡ n) (counts : Counts 64 at limit x olds) (some : 0 < length bodies)
    (fits : n + length bodies ≤ limit) (torn : Torn (at + 64 * n) 1 x y) (laid : Laid (at + 64 * n) (limit - n) (length bodies) x bodies) where
  abbrev gate : ℕ
  gate = at + 64 * n

  same_front : (i : ℕ) → i < length olds → IsOpen 64 at y i × (body_at 64 at y i ≡ get_or olds i [])
  same_front i lt = (
    same_byte gate 1 (at + 64 * i) x y torn (inl (omega (arith, lt, all))) ∙ (counts.counted i lt).0,
    same_part gate 1 (at + 64 * i + 1) 63 x y torn (inl (omega (arith, lt, all))) ∙ (counts.counted i lt).1,
  )

  pub group_opened : get_or y gate 0 ≡ 165 → Counts 64 at limit y (olds ++ bodies)
  group_opened opened =
      let free = limit - n in
      let front : Counts 64 at n y olds =
      record { few = omega (arith, all); counted = same_front; ends = λ lt. absurd (omega (arith, lt, all)) } in
      let rest : Counts 64 gate free y bodies =
      laid_counts gate free y bodies (omega (arith, fits)) opened (laid_still gate free (length bodies) x y bodies some torn laid) in
      let number : n + free ≡ limit = omega (arith, fits) in
      subst (λ (k : ℕ). Counts 64 at k y (olds ++ bodies)) number (counts_joined 64 at n free y olds bodies all front rest)

  group_shut : ¬ (get_or y gate 0 ≡ 165) → Counts 64 at limit y olds
  group_shut shut = record {
    few = counts.few;
    counted = same_front;
    ends = λ lt opened. shut (ap (λ (k : ℕ). get_or y (at + 64 * k) 0) (sym all) ∙ opened);
  }

  pub group_changes : Counts 64 at limit y olds ⊎ Counts 64 at limit y (olds ++ bodies)
  group_changes = elim (cases_eq (get_or y gate 0) 165) [
    | inl opened ↦ inr (group_opened opened)
    | inr shut ↦ inl (group_shut shut)
  ]
