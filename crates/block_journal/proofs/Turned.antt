-- What a crash may leave after each call of a turn.
use Rattle.std.proofs.Common.{◌≡◌, inl, inr, true, false, Bool, ℕ, suc, ◌+◌, ◌*◌, ◌<◌, ◌≤◌, List, [], ◌∷◌, length, refl}
use Rattle.std.proofs.Common.{get_or, sym, ◌∙◌, ap, subst, arith}
use Rattle.std.proofs.lemmas.Bool.{cases_eq, cases_Bool}
use Rattle.petal_disk.specs.Disk.{Torn, Follows, Only, LeavesOnly, LeftByWrite, written, part}
use Rattle.petal_disk.proofs.Moments.{joined, weaker}
use Rattle.petal_disk.proofs.Tearing.{torn_wider, torn_twice, torn_written}
use Rattle.block_journal.specs.Groups.{Laid}
use Rattle.block_journal.specs.Records.{Counts}
use Rattle.block_journal.specs.Halves.{HeadCounts, CountIn, IsLater, HalvesState, Shows, Stored, OldOrNew, LeftByChange}
use Rattle.block_journal.specs.Halves.{head_body, next_generation, half_start, other_half}
use Rattle.block_journal.specs.Heads.{IsShutAt, gate_bytes}
use Rattle.block_journal.specs.declared.half.Half.{Half}
use Rattle.block_journal.specs.declared.half.Half.TheVariants.{First, Second}
use Rattle.block_journal.proofs.Generations.{head_once, next_fits, next_is_later}
use Rattle.block_journal.proofs.Grouped.{gate_written}
use Rattle.block_journal.proofs.Groups.{counts_outside, laid_counts, laid_still}
use Rattle.block_journal.proofs.Halving.{half_from, half_to, halves_apart, head_torn}
use Rattle.block_journal.proofs.Slots.{Outside, same_byte, same_part}

-- the records behind the first one count as a list of their own
pub counts_tail : (at limit : ℕ) (file head : List ℕ) (bodies : List (List ℕ)) → Counts 64 at (limit + 1) file (head ∷ bodies)
    → Counts 64 (at + 64) limit file bodies
counts_tail at limit file head bodies counts =
    let spot : (i : ℕ) → at + 64 + 64 * i ≡ at + 64 * suc i = λ i. omega arith in
    record {
      few = let few : suc (length bodies) ≤ limit + 1 = counts.few in omega (arith, few);
      counted = λ i lt. let here = counts.counted (suc i) (let lt' : suc i < suc (length bodies) = omega (arith, lt) in lt') in (
        ap (λ (k : ℕ). get_or file k 0) (spot i) ∙ here.0,
        ap (λ (k : ℕ). part file (k + 1) 63) (spot i) ∙ here.1,
      );
      ends = λ lt opened. counts.ends (let lt' : suc (length bodies) < limit + 1 = omega (arith, lt) in lt')
          (ap (λ (k : ℕ). get_or file k 0) (sym (spot (length bodies))) ∙ opened);
    }

other_twice : (half : Half) → other_half (other_half half) ≡ half
other_twice First = refl
other_twice Second = refl

few_bytes : (opened : Bool) → gate_bytes opened ≤ 1
few_bytes true = omega arith
few_bytes false = omega arith

module _ (state : HalvesState) (olds news : List (List ℕ)) (few : length news ≤ 32767) where
  abbrev idle : ℕ
  idle = half_start state.base (other_half state.active)

  abbrev next : ℕ
  next = next_generation state.generation

  abbrev turned : HalvesState
  turned = record { base = state.base; active = other_half state.active; generation = next; count = length news; idle_open = true }

  abbrev all : List (List ℕ)
  all = head_body next ∷ news

  abbrev OldIn : List ℕ → Type 0
  OldIn file = CountIn state.base state.active state.generation file olds

  abbrev NewIn : List ℕ → Type 0
  NewIn file = CountIn state.base (other_half state.active) next file news

  abbrev IsLaid : List ℕ → Type 0
  IsLaid file = Laid idle 32768 (length news + 1) file all

  abbrev Either : List ℕ → Type 0
  Either = OldOrNew state.base olds news

  abbrev gates : ℕ
  gates = gate_bytes state.idle_open

  pub old_list : (file : List ℕ) → OldIn file → Either file
  old_list file old = inl (state.active, (state.generation, old))

  -- a range of the idle half leaves the active one
  away : (p n k m : ℕ) → idle ≤ p → p + n ≤ idle + 2097152 → k + m ≤ 2097152 → Outside p n (half_start state.base state.active + k) m
  away p n k m from to le = elim (halves_apart state.base state.active) [
    | inl before ↦ inl (omega (arith, before, from, le))
    | inr following ↦ inr (omega (arith, following, to, le))
  ]

  old_head : (p n : ℕ) (x y : List ℕ) → Torn p n x y → idle ≤ p → p + n ≤ idle + 2097152 → OldIn x
      → HeadCounts (half_start state.base state.active) state.generation y
  old_head p n x y torn from to old =
      head_torn p n (half_start state.base state.active) state.generation x y torn (elim (halves_apart state.base state.active) [
        | inl before ↦ inl (omega (arith, before, from))
        | inr following ↦ inr (omega (arith, following, to))
      ]) old.head

  old_still : (p n : ℕ) (x y : List ℕ) → Torn p n x y → idle ≤ p → p + n ≤ idle + 2097152
      → ((other : ℕ) → HeadCounts idle other y → IsLater state.active state.generation other) → OldIn x → OldIn y
  old_still p n x y torn from to later old = record {
    head = old_head p n x y torn from to old;
    later = later;
    counts = counts_outside (half_start state.base state.active + 64) 32767 p n x y olds torn (away p n 64 (64 * 32767) from to (omega arith)) old.counts;
  }

  -- the gate of the idle half is closed, where it was open
  pub gate_shut : (x y : List ℕ) → Torn idle gates x y → Shows state x olds → OldIn y
  gate_shut x y torn shows =
      let short = few_bytes state.idle_open in
      old_still idle gates x y torn (omega arith) (omega (arith, short)) (λ other head. shows.list.later other (record {
        opened = elim (cases_Bool state.idle_open) [
          | inl is ↦ shows.opened is
          | inr is ↦
              let none : gates ≡ 0 = ap gate_bytes is in
              sym (same_byte idle gates idle x y torn (inr (omega (arith, none)))) ∙ head.opened
        ];
        spelled = sym (same_part idle gates (idle + 1) 63 x y torn (inr (omega (arith, short)))) ∙ head.spelled;
        fits = head.fits;
      })) shows.list

  -- behind a closed gate any bytes change nothing
  pub still_shut : (x y : List ℕ) → Torn (idle + 1) 2097151 x y → IsShutAt idle x → IsShutAt idle y
  still_shut x y torn shut opened = shut (sym (same_byte (idle + 1) 2097151 idle x y torn (inl (omega arith))) ∙ opened)

  pub list_behind : (x y : List ℕ) → Torn (idle + 1) 2097151 x y → IsShutAt idle x → OldIn x → OldIn y
  list_behind x y torn shut old =
      old_still (idle + 1) 2097151 x y torn (omega arith) (omega arith) (λ other head. absurd (still_shut x y torn shut head.opened)) old

  -- and with the gate open the new list counts
  turns : (x y : List ℕ) → Torn idle 1 x y → IsLaid x → OldIn x → get_or y idle 0 ≡ 165 → NewIn y
  turns x y torn laid old opened =
      let long : length news + 1 ≡ length all = omega arith in
      let here : idle + 1 ≡ idle + 64 * 0 + 1 = omega arith in
      let whole : Laid idle 32768 (length all) y all =
      laid_still idle 32768 (length all) x y all (omega arith) torn (subst (λ (k : ℕ). Laid idle 32768 k x all) long laid) in
      record {
        head = record {
          opened = opened;
          spelled = ap (λ (k : ℕ). part y k 63) here ∙ whole.bodies_there 0 (omega arith);
          fits = next_fits state.generation old.head.fits;
        };
        later = λ other head.
            let head' : HeadCounts (half_start state.base state.active) other y =
            subst (λ (h : Half). HeadCounts (half_start state.base h) other y) (other_twice state.active) head in
            let same : state.generation ≡ other =
            head_once (half_start state.base state.active) state.generation other y (old_head idle 1 x y torn (omega arith) (omega arith) old) head' in
            subst (λ (k : ℕ). IsLater (other_half state.active) next k) same (next_is_later (other_half state.active) state.generation);
        counts = counts_tail idle 32767 y (head_body next) news (laid_counts idle 32768 y all (omega (arith, few)) opened whole);
      }

  pub gate_changes : (x y : List ℕ) → Torn idle 1 x y → IsLaid x → OldIn x → Either y
  gate_changes x y torn laid old = elim (cases_eq (get_or y idle 0) 165) [
    | inl opened ↦ inr (other_half state.active, (next, turns x y torn laid old opened))
    | inr shut ↦ old_list y (old_still idle 1 x y torn (omega arith) (omega arith) (λ other head. absurd (shut head.opened)) old)
  ]

  pub gate_fits : (x : List ℕ) → state.base + 4194304 ≤ length x → idle + 1 ≤ length x
  gate_fits x fits = omega (arith, half_to state.base (other_half state.active), fits)

  pub gate_opens : (x y : List ℕ) → idle + 1 ≤ length x → y ≡ written x idle (165 ∷ []) → IsLaid x → OldIn x → Shows turned y news
  gate_opens x y inside is laid old =
      let torn : Torn idle 1 x y = subst (λ (f : List ℕ). Torn idle 1 x f) (sym is) (torn_written x idle (165 ∷ []) inside) in
      let opened : get_or y idle 0 ≡ 165 = ap (λ (f : List ℕ). get_or f idle 0) is ∙ gate_written x idle 165 inside in
      record {
        list = turns x y torn laid old opened;
        opened = λ is. ap (λ (h : Half). get_or y (half_start state.base h) 0) (other_twice state.active)
            ∙ (old_head idle 1 x y torn (omega arith) (omega arith) old).opened;
        shut = λ is. absurd (cc);
      }

  pub turned_stored : (seen : List ℕ) (leave : List ℕ → Type 0) → Only seen leave → Shows turned seen news → Stored turned seen leave news
  turned_stored seen leave only shows =
      record { count = refl; now = shows; left = λ c here. subst (λ (f : List ℕ). Shows turned f news) (sym (only c here)) shows }

  -- all writes stay in the halves
  pub within : (p n : ℕ) (x y : List ℕ) → idle ≤ p → p + n ≤ idle + 2097152 → Torn p n x y → Torn state.base 4194304 x y
  within p n x y from to torn = torn_wider p n state.base 4194304 x y (omega (arith, half_from state.base (other_half state.active), from))
      (omega (arith, half_to state.base (other_half state.active), to)) torn

  pub gates_within : (x y : List ℕ) → Torn idle gates x y → Torn state.base 4194304 x y
  gates_within x y torn = within idle gates x y (omega arith) (let short = few_bytes state.idle_open in omega (arith, short)) torn

  module _ (leave0 : List ℕ → Type 0) (shows : (c : List ℕ) → leave0 c → Shows state c olds) where
    abbrev Left : List ℕ → Type 0
    Left = LeftByChange state.base leave0 olds news

    shut_left : (c : List ℕ) → LeftByWrite idle gates leave0 c → Left c
    shut_left c left = record {
      list = old_list c (gate_shut left.0 c left.2 (shows left.0 left.1));
      from = left.0;
      from_left = left.1;
      outside = gates_within left.0 c left.2;
    }

    module _ (leave1 : List ℕ → Type 0) (follows : Follows (Torn idle gates) leave0 leave1) (shut : (c : List ℕ) → leave1 c → IsShutAt idle c) where
      list_left : (c : List ℕ) → LeftByWrite (idle + 1) 2097151 leave1 c → Left c
      list_left c left =
          let was = follows left.0 left.1 in
          record {
            list = old_list c (list_behind left.0 c left.2 (shut left.0 left.1) (gate_shut was.0 left.0 was.2 (shows was.0 was.1)));
            from = was.0;
            from_left = was.1;
            outside = torn_twice state.base 4194304 was.0 left.0 c (gates_within was.0 left.0 was.2)
                (within (idle + 1) 2097151 left.0 c (omega arith) (omega arith) left.2);
          }

      gate_left : (leave2 : List ℕ → Type 0) (file2 : List ℕ) → Follows (Torn (idle + 1) 2097151) leave1 leave2 → Only file2 leave2 → IsLaid file2
          → (c : List ℕ) → LeftByWrite idle 1 leave2 c → Left c
      gate_left leave2 file2 follows' only laid c left =
          let mid = follows' left.0 left.1 in
          let was = follows mid.0 mid.1 in
          let old : OldIn left.0 =
          list_behind mid.0 left.0 mid.2 (shut mid.0 mid.1) (gate_shut was.0 mid.0 was.2 (shows was.0 was.1)) in
          record {
            list = gate_changes left.0 c left.2 (subst IsLaid (sym (only left.0 left.1)) laid) old;
            from = was.0;
            from_left = was.1;
            outside = torn_twice state.base 4194304 was.0 left.0 c
                (torn_twice state.base 4194304 was.0 mid.0 left.0 (gates_within was.0 mid.0 was.2)
                (within (idle + 1) 2097151 mid.0 left.0 (omega arith) (omega arith) mid.2))
                (within idle 1 left.0 c (omega arith) (omega arith) left.2);
          }

      module _ {D : Type 0} (moment : D → ℕ) (left_since : D → ℕ → List ℕ → Type 0) (d0 d1 : D)
          (first : LeavesOnly moment left_since d0 d1 (LeftByWrite idle gates leave0)) where
        moments_of_shut : LeavesOnly moment left_since d0 d1 Left
        moments_of_shut = weaker moment left_since d0 d1 (LeftByWrite idle gates leave0) Left first shut_left

        pub moments_of_list : (d2 : D) → LeavesOnly moment left_since d1 d2 (LeftByWrite (idle + 1) 2097151 leave1) → LeavesOnly moment left_since d0 d2 Left
        moments_of_list d2 second =
            joined moment left_since d0 d1 d2 Left (LeftByWrite (idle + 1) 2097151 leave1) moments_of_shut second list_left

        pub moments_of_gate : (d2 d3 : D) (leave2 : List ℕ → Type 0) (file2 : List ℕ) → Follows (Torn (idle + 1) 2097151) leave1 leave2 → Only file2 leave2
            → IsLaid file2 → LeavesOnly moment left_since d1 d2 (LeftByWrite (idle + 1) 2097151 leave1)
            → LeavesOnly moment left_since d2 d3 (LeftByWrite idle 1 leave2) → LeavesOnly moment left_since d0 d3 Left
        moments_of_gate d2 d3 leave2 file2 follows' only laid second third =
            joined moment left_since d0 d2 d3 Left (LeftByWrite idle 1 leave2) (moments_of_list d2 second) third (gate_left leave2 file2 follows' only laid)

    pub moments_of_close : {D : Type 0} (moment : D → ℕ) (left_since : D → ℕ → List ℕ → Type 0) (d0 d1 : D)
        → LeavesOnly moment left_since d0 d1 (LeftByWrite idle gates leave0) → LeavesOnly moment left_since d0 d1 Left
    moments_of_close moment left_since d0 d1 first = weaker moment left_since d0 d1 (LeftByWrite idle gates leave0) Left first shut_left
