-- What a crash may leave after each call of an append of a group.
use Rattle.std.proofs.Common.{◌≡◌, inl, inr, ℕ, ◌+◌, ◌-◌, ◌*◌, ◌<◌, ◌≤◌, List, [], ◌∷◌, ◌++◌, length, drop}
use Rattle.std.proofs.Common.{get_or, sym, ◌∙◌, ap, subst, arith, length-append}
use Rattle.std.proofs.lemmas.List.{get_or-drop, get_or-take}
use Rattle.petal_disk.specs.Disk.{Torn, Follows, Only, LeavesOnly, LeftByWrite, written}
use Rattle.petal_disk.specs.Tears.{torn_nothing}
use Rattle.petal_disk.proofs.Moments.{started, joined, weaker}
use Rattle.petal_disk.proofs.Tearing.{torn_wider, torn_twice, torn_written, part_written}
use Rattle.block_journal.specs.Groups.{Laid}
use Rattle.block_journal.specs.Records.{Counts}
use Rattle.block_journal.specs.Halves.{HalvesState, Shows, Stored, OldOrNew, LeftByChange, half_start}
use Rattle.block_journal.specs.declared.half.Half.{Half}
use Rattle.block_journal.proofs.Groups.{counts_still, group_changes, group_opened}
use Rattle.block_journal.proofs.Halving.{half_from, half_to, list_within, shows_within}

-- a gate that was written alone is there
pub gate_written : (file : List ℕ) (at gate : ℕ) → at + 1 ≤ length file → get_or (written file at (gate ∷ [])) at 0 ≡ gate
gate_written file at gate inside =
    let file' = written file at (gate ∷ []) in
    ap (λ (j : ℕ). get_or file' j 0) (let e : at ≡ at + 0 = omega arith in e)
    ∙ sym (get_or-drop at file' 0 0)
    ∙ sym (get_or-take 1 (drop at file') 0 0 (omega arith))
    ∙ ap (λ (l : List ℕ). get_or l 0 0) (part_written file at (gate ∷ []) inside)

-- where nothing is called
pub moments_of_none : {D : Type 0} (moment : D → ℕ) (left_since : D → ℕ → List ℕ → Type 0) (state : HalvesState) (olds news : List (List ℕ)) (d0 : D)
    (leave0 : List ℕ → Type 0) → ((c : List ℕ) → leave0 c → Shows state c olds) → ((c : List ℕ) → left_since d0 (moment d0) c → leave0 c)
    → LeavesOnly moment left_since d0 d0 (LeftByChange state.base leave0 olds news)
moments_of_none moment left_since state olds news d0 leave0 shows only_now =
    started moment left_since d0 (LeftByChange state.base leave0 olds news) (λ c left. record {
      list = inl (state.active, (state.generation, (shows c (only_now c left)).list));
      from = c;
      from_left = only_now c left;
      outside = torn_nothing state.base 4194304 c;
    })

-- both writes stay in the halves
pub group_torn : (base : ℕ) (active : Half) (count more : ℕ) → 0 < more → count + more ≤ 32767 → (x y : List ℕ)
    → Torn (half_start base active + 64 + 64 * count + 1) (64 * (32767 - count) - 1) x y → Torn base 4194304 x y
group_torn base active count more some fits x y =
    torn_wider (half_start base active + 64 + 64 * count + 1) (64 * (32767 - count) - 1) base 4194304 x y (omega (arith, half_from base active))
    (omega (arith, half_to base active, fits, some))

pub gate_torn : (base : ℕ) (active : Half) (count more : ℕ) → 0 < more → count + more ≤ 32767 → (x y : List ℕ)
    → Torn (half_start base active + 64 + 64 * count) 1 x y → Torn base 4194304 x y
gate_torn base active count more some fits x y =
    torn_wider (half_start base active + 64 + 64 * count) 1 base 4194304 x y (omega (arith, half_from base active))
    (omega (arith, half_to base active, fits, some))

-- there is room for a group behind the list
pub record GroupRoom (state : HalvesState) (olds bodies : List (List ℕ)) : Type 0 where
  pub count : state.count ≡ length olds
  pub some : 0 < length bodies
  pub fits : state.count + length bodies ≤ 32767

module _ (state : HalvesState) (olds bodies : List (List ℕ)) (room : GroupRoom state olds bodies) where
  abbrev list : ℕ
  list = half_start state.base state.active + 64

  abbrev gate : ℕ
  gate = list + 64 * state.count

  abbrev free : ℕ
  free = 32767 - state.count

  abbrev after_group : HalvesState
  after_group = record state { count = state.count + length bodies }

  abbrev IsLaid : List ℕ → Type 0
  IsLaid file = Laid gate free (length bodies) file bodies

  abbrev Either : List ℕ → Type 0
  Either = OldOrNew state.base olds (olds ++ bodies)

  bytes_within : (x y : List ℕ) → Torn (gate + 1) (64 * free - 1) x y → Torn state.base 4194304 x y
  bytes_within = group_torn state.base state.active state.count (length bodies) room.some room.fits

  gate_within : (x y : List ℕ) → Torn gate 1 x y → Torn state.base 4194304 x y
  gate_within = gate_torn state.base state.active state.count (length bodies) room.some room.fits

  pub gate_fits : (x : List ℕ) → state.base + 4194304 ≤ length x → gate + 1 ≤ length x
  gate_fits x fits = omega (arith, half_to state.base state.active, room.fits, room.some, fits)

  -- any bytes behind the gate that ends the list change nothing
  pub bytes_change : (x y : List ℕ) → Torn (gate + 1) (64 * free - 1) x y → Shows state x olds → Shows state y olds
  bytes_change x y torn shows =
      shows_within state state.count (gate + 1) (64 * free - 1) x y olds olds (omega arith) (omega (arith, room.fits, room.some)) torn shows
      (counts_still list 32767 (gate + 1) (64 * free - 1) x y olds torn (omega (arith, room.count)) shows.list.counts)

  pub list_of : (x : List ℕ) → Shows state x olds → Either x
  list_of x shows = inl (state.active, (state.generation, shows.list))

  -- whatever the gate is then, the list is the one before or has the group
  pub gate_changes : (x y : List ℕ) → Torn gate 1 x y → IsLaid x → Shows state x olds → Either y
  gate_changes x y torn laid shows =
      let within = λ (news : List (List ℕ)) (counts : Counts 64 list 32767 y news).
      list_within state.base state.active state.generation gate 1 x y olds news (omega arith) (omega (arith, room.fits, room.some)) torn shows.list counts in
      elim (group_changes list 32767 state.count x y olds bodies (sym room.count) shows.list.counts room.some room.fits torn laid) [
        | inl old ↦ inl (state.active, (state.generation, within olds old))
        | inr new ↦ inr (state.active, (state.generation, within (olds ++ bodies) new))
      ]

  pub gate_opens : (x y : List ℕ) → gate + 1 ≤ length x → y ≡ written x gate (165 ∷ []) → IsLaid x → Shows state x olds → Shows after_group y (olds ++ bodies)
  gate_opens x y inside is laid shows =
      let file = written x gate (165 ∷ []) in
      let torn : Torn gate 1 x file = torn_written x gate (165 ∷ []) inside in
      subst (λ (f : List ℕ). Shows after_group f (olds ++ bodies)) (sym is)
      (shows_within state (state.count + length bodies) gate 1 x file olds (olds ++ bodies) (omega arith) (omega (arith, room.fits, room.some)) torn shows
      (group_opened list 32767 state.count x file olds bodies (sym room.count) shows.list.counts room.some room.fits torn laid
      (gate_written x gate 165 inside)))

  pub group_stored : (seen : List ℕ) (leave : List ℕ → Type 0) → Only seen leave → Shows after_group seen (olds ++ bodies)
      → Stored after_group seen leave (olds ++ bodies)
  group_stored seen leave only shows = record {
    count = omega (arith, room.count, length-append olds bodies);
    now = shows;
    left = λ c here. subst (λ (f : List ℕ). Shows after_group f (olds ++ bodies)) (sym (only c here)) shows;
  }

  first_left : (leave0 : List ℕ → Type 0) → ((c : List ℕ) → leave0 c → Shows state c olds) → (c : List ℕ) → LeftByWrite (gate + 1) (64 * free - 1) leave0 c
      → LeftByChange state.base leave0 olds (olds ++ bodies) c
  first_left leave0 shows c left = record {
    list = list_of c (bytes_change left.0 c left.2 (shows left.0 left.1));
    from = left.0;
    from_left = left.1;
    outside = bytes_within left.0 c left.2;
  }

  second_left : (leave0 leave1 : List ℕ → Type 0) (file1 : List ℕ) → ((c : List ℕ) → leave0 c → Shows state c olds)
      → Follows (Torn (gate + 1) (64 * free - 1)) leave0 leave1 → Only file1 leave1 → IsLaid file1
      → (c : List ℕ) → LeftByWrite gate 1 leave1 c → LeftByChange state.base leave0 olds (olds ++ bodies) c
  second_left leave0 leave1 file1 shows follows only laid c left =
      let was = follows left.0 left.1 in
      record {
        list = gate_changes left.0 c left.2 (subst IsLaid (sym (only left.0 left.1)) laid) (bytes_change was.0 left.0 was.2 (shows was.0 was.1));
        from = was.0;
        from_left = was.1;
        outside = torn_twice state.base 4194304 was.0 left.0 c (bytes_within was.0 left.0 was.2) (gate_within left.0 c left.2);
      }

  module _ {D : Type 0} (moment : D → ℕ) (left_since : D → ℕ → List ℕ → Type 0) where
    -- at each moment up to the first sync
    pub moments_of_bytes : (d0 d1 : D) (leave0 : List ℕ → Type 0) → ((c : List ℕ) → leave0 c → Shows state c olds)
        → LeavesOnly moment left_since d0 d1 (LeftByWrite (gate + 1) (64 * free - 1) leave0)
        → LeavesOnly moment left_since d0 d1 (LeftByChange state.base leave0 olds (olds ++ bodies))
    moments_of_bytes d0 d1 leave0 shows run =
        weaker moment left_since d0 d1 (LeftByWrite (gate + 1) (64 * free - 1) leave0) (LeftByChange state.base leave0 olds (olds ++ bodies)) run
        (first_left leave0 shows)

    -- and up to the second
    pub moments_of_gate : (d0 d1 d2 : D) (leave0 leave1 : List ℕ → Type 0) (file1 : List ℕ) → ((c : List ℕ) → leave0 c → Shows state c olds)
        → Follows (Torn (gate + 1) (64 * free - 1)) leave0 leave1 → Only file1 leave1 → IsLaid file1
        → LeavesOnly moment left_since d0 d1 (LeftByWrite (gate + 1) (64 * free - 1) leave0)
        → LeavesOnly moment left_since d1 d2 (LeftByWrite gate 1 leave1)
        → LeavesOnly moment left_since d0 d2 (LeftByChange state.base leave0 olds (olds ++ bodies))
    moments_of_gate d0 d1 d2 leave0 leave1 file1 shows follows only laid first second =
        joined moment left_since d0 d1 d2 (LeftByChange state.base leave0 olds (olds ++ bodies)) (LeftByWrite gate 1 leave1)
        (moments_of_bytes d0 d1 leave0 shows first) second (second_left leave0 leave1 file1 shows follows only laid)
