-- What the machine is told of contents that change.
use Rattle.law_run.proofs.Imports.{[], ◌&&◌, ◌<◌, ◌==◌, ◌||◌, ◌∙◌, ◌∷◌, ◌≡◌, ◌⊎◌, Asked, Bool, Cell, Chain, Change, DiskRow, Event, In, List, None, Option}
use Rattle.law_run.proofs.Imports.{Request, Some, Take, World, Write, after_step, all_left, all_there, ap, arith, at, before_step, blocks_in, blocks_of}
use Rattle.law_run.proofs.Imports.{both_true, by_bool, cell_cmp, cell_cmp_same, changed_blocks, false, filter_map, flat_map, had_content, has_content_next}
use Rattle.law_run.proofs.Imports.{in_flat, in_flat_map, in_kept, in_filter, in_map, in_mapped, inl, inr, is_changed, map, nat_list_eq_equiv, nat_lists_same}
use Rattle.law_run.proofs.Imports.{none_some, not, number_itself, open_write, range_with_len, refl, same_bytes, same_numbers, same_some, subst, sym, taken}
use Rattle.law_run.proofs.Imports.{taker, takes, takes_on, true, true_false, was_true, with_first, write_asked, write_by, writes_so, ℕ}
use Rattle.law_run.proofs.ListMembers.{all_empty, into_range, into_filter_map, of_filter_map, found_one, row_at, key_at, put_key}
use Rattle.script_lines.specs.declared.request.Request.TheVariants as request

unlike : (xs ys : List ℕ) → xs ≡ ys → not (same_bytes xs ys) ≡ false
unlike xs ys e = ap (λ zs. not (same_bytes xs zs)) (sym e) ∙ ap not (nat_list_eq_equiv.refl xs)

-- a block that has a content had this one
same_there : (had : Bool) (xs ys : List ℕ) → had ≡ true → xs ≡ ys → (not had || not (same_bytes xs ys)) ≡ false
same_there true xs ys e same = unlike xs ys same
same_there false xs ys e same = true_false e refl

and_when : (a b : Bool) → (a ≡ true → b ≡ false) → (a && b) ≡ false
and_when true b f = f refl
and_when false b f = refl

-- else it had none, or another one
had_same : (had : Bool) (xs ys : List ℕ) → (not had || not (same_bytes xs ys)) ≡ false → (had ≡ true) × (xs ≡ ys)
had_same true xs ys e = (refl, nat_lists_same xs ys (was_true (same_bytes xs ys) e))
had_same false xs ys e = true_false refl e

-- a client's open write is its own
written_by : (client seq : ℕ) (asked : Request) (write : Write) → write_by client seq asked ≡ Some write → write.client ≡ client
written_by client seq (request.Write name block pattern) write e = ap (λ (w : Write). w.client) (sym (same_some e))
written_by client seq _ write e = none_some refl e

asked_by : (client : ℕ) (o : Option Asked) (write : Write) → write_asked client o ≡ Some write → write.client ≡ client
asked_by client None write e = none_some refl e
asked_by client (Some asked) write e = written_by client asked.seq asked.request write e

pub open_own : (w : World) (c : ℕ) (write : Write) → open_write w c ≡ Some write → write.client ≡ c
open_own w c write e = asked_by c (w.clients c).asked write e

-- where each of a list is an event
pub record AreThere (xs : List (Option Event)) : Type 0 where
  pub es : List Event
  pub is : all_there xs ≡ Some es
  pub back : (e : Event) → In e es → In (Some e) xs
  pub on : (e : Event) → In (Some e) xs → In e es

are_there : (xs : List (Option Event)) → ((x : Option Event) → In x xs → (e : Event) × (x ≡ Some e)) → AreThere xs
unfolding In
are_there [] h = record { es = []; is = refl; back = λ e i. i; on = λ e i. i }
are_there (x ∷ xs) h =
    let now = h x (inl refl) in
    let rest = are_there xs (λ y i. h y (inr i)) in
    record {
      es = now.0 ∷ rest.es;
      is = (λ i. with_first (now.1 i) (rest.is i));
      back = λ e i. elim i [ inl same ↦ inl (ap Some same ∙ sym now.1) | inr j ↦ inr (rest.back e j) ];
      on = λ e i. elim i [ inl same ↦ inl (same_some (same ∙ now.1)) | inr j ↦ inr (rest.on e j) ];
    }

-- a client's write has these bytes for the block of the disk
pub record IsWriteOf (row : DiskRow) (block : ℕ) (bytes : List ℕ) : Type 0 where
  pub write : Write
  pub within : write.client < 9
  pub disk_is : write.disk ≡ row.name
  pub block_is : write.block ≡ block
  pub bytes_is : write.bytes ≡ bytes

module _ (change : Change) where
  abbrev rows : List DiskRow
  rows = change.chosen.disks.rows

  -- the block had this content before the step
  abbrev pub IsAsBefore : DiskRow → ℕ → Type 0
  IsAsBefore row b = (had_content change row b ≡ true) × (before_step change row b ≡ after_step change row b)

  -- no content changes
  pub no_takes : ((row : DiskRow) → In row rows → (b : ℕ) → has_content_next change row b ≡ true → IsAsBefore row b) → takes change ≡ Some []
  no_takes same = ap all_there (all_empty (takes_on change) rows (λ row h.
      ap (map (λ b. taken (taker change.w row.name b (after_step change row b))))
      (all_left (is_changed change row) (blocks_in change.setting change.next)
      (λ b i. and_when _ _ (λ has. let k = same row h b has in same_there _ _ _ k.0 k.1)))))

  -- a block of which a server has an entry is among those that are looked at
  pub block_there : (n map block : ℕ) (chain : Chain) → n < change.setting.servers
      → at cell_cmp (change.next.servers n).own.store.chains (record { map = map; block = block }) ≡ Some chain
      → In block (blocks_in change.setting change.next)
  block_there n map block chain lt is =
      let cell : Cell = record { map = map; block = block } in
      let found = row_at cell_cmp (change.next.servers n).own.store.chains cell chain is in
      let same : cell ≡ found.0.0 = cell_cmp_same cell found.0.0 found.2 in
      let there : In block (blocks_of (change.next.servers n)) =
      subst (λ i. In i (blocks_of (change.next.servers n))) (ap (λ (c : Cell). c.block) (sym same))
      (in_mapped (λ row. row.0.block) (change.next.servers n).own.store.chains found.0 found.1) in
      key_at _ block block (put_key _ [] block
      (in_flat (λ k. blocks_of (change.next.servers k)) (range_with_len 0 change.setting.servers) n block
      (into_range 0 change.setting.servers n (omega arith) (omega arith)) there))

  -- a write under way gives a block its new content, and a server has an entry of the block
  pub record Gives (row : DiskRow) (block : ℕ) : Type 0 where
    pub write_is : IsWriteOf row block (after_step change row block)
    pub open write_is use *
    pub under_way : open_write change.w write.client ≡ Some write
    pub looked : In block (blocks_in change.setting change.next)

  -- the event takes a write under way that gives the block its new content
  pub record TakesIt (row : DiskRow) (block : ℕ) (e : Event) : Type 0 where
    pub write : Write
    pub is : e ≡ Take write
    pub under_way : open_write change.w write.client ≡ Some write
    pub disk_is : write.disk ≡ row.name
    pub block_is : write.block ≡ block
    pub bytes_is : write.bytes ≡ after_step change row block

  pub record TakesOne (e : Event) : Type 0 where
    pub row : DiskRow
    pub there : In row rows
    pub block : ℕ
    pub it : TakesIt row block e

  -- contents that change are told of by takes, and each take tells of one
  pub record AreTold : Type 0 where
    pub es : List Event
    pub told : takes change ≡ Some es
    pub each : (e : Event) → In e es → TakesOne e
    pub all : (row : DiskRow) → In row rows → (b : ℕ) → has_content_next change row b ≡ true
        → IsAsBefore row b ⊎ ((e : Event) × In e es × TakesIt row b e)

  -- where a content that changes is that of a write under way
  module _ (given : (row : DiskRow) → In row rows → (b : ℕ) → has_content_next change row b ≡ true → IsAsBefore row b ⊎ Gives row b) where
    abbrev changes : DiskRow → ℕ → Bool
    changes row b = not (had_content change row b) || not (same_bytes (before_step change row b) (after_step change row b))

    abbrev events_of_moves : DiskRow → ℕ → Option Event
    events_of_moves row b = taken (taker change.w row.name b (after_step change row b))

    -- what is told of a block
    told_one : (row : DiskRow) (b : ℕ) → Gives row b → (e : Event) × (events_of_moves row b ≡ Some e) × TakesIt row b e
    told_one row b g =
        let bytes = after_step change row b in
        let test = writes_so row.name b bytes in
        let fits : test g.write ≡ true = (λ i. same_bytes (g.disk_is i) row.name && (g.block_is i == b) && same_bytes (g.bytes_is i) bytes)
        ∙ (λ i. nat_list_eq_equiv.refl row.name i && number_itself b i && nat_list_eq_equiv.refl bytes i) in
        let found = found_one test (filter_map (open_write change.w) (range_with_len 0 9)) g.write
        (into_filter_map (open_write change.w) (range_with_len 0 9) g.write.client g.write
        (let lt = g.within in into_range 0 9 g.write.client (omega arith) (omega arith)) g.under_way) fits in
        let from = of_filter_map (open_write change.w) (range_with_len 0 9) found.0 found.2 in
        let outer = both_true (same_bytes found.0.disk row.name && (found.0.block == b)) (same_bytes found.0.bytes bytes) found.3 in
        let inner = both_true (same_bytes found.0.disk row.name) (found.0.block == b) outer.0 in (
          Take found.0,
          ap taken found.1,
          record {
            write = found.0;
            is = refl;
            under_way = ap (open_write change.w) (open_own change.w from.0 found.0 from.1) ∙ from.1;
            disk_is = nat_lists_same found.0.disk row.name inner.0;
            block_is = same_numbers found.0.block b inner.1;
            bytes_is = nat_lists_same found.0.bytes bytes outer.1;
          },
        )

    -- of a block whose content changes
    told_changed : (row : DiskRow) → In row rows → (b : ℕ) → is_changed change row b ≡ true → Gives row b
    told_changed row h b changed =
        let tests = both_true (has_content_next change row b) (changes row b) changed in
        elim (given row h b tests.0) [ inl same ↦ true_false tests.1 (same_there _ _ _ same.0 same.1) | inr g ↦ g ]

    -- each that is told of is so
    told_so : (x : Option Event) → In x (flat_map (takes_on change) rows) → (e : Event) × (x ≡ Some e) × TakesOne e
    told_so x h =
        let of_row = in_flat_map (takes_on change) rows x h in
        let row = of_row.0 in
        let of_block = in_map (events_of_moves row) (changed_blocks change row) x of_row.2 in
        let b = of_block.0 in
        let changed = (in_filter (is_changed change row) (blocks_in change.setting change.next) b of_block.1).1 in
        let one = told_one row b (told_changed row of_row.1 b changed) in
        (one.0, of_block.2 ∙ one.1, record { row = row; there = of_row.1; block = b; it = one.2 })

    pub takes_told : AreTold
    takes_told =
        let there = are_there (flat_map (takes_on change) rows) (λ x h. let t = told_so x h in (t.0, t.1)) in
        record {
          es = there.es;
          told = there.is;
          each = λ e h. let t = told_so (Some e) (there.back e h) in subst TakesOne (sym (same_some t.1)) t.2;
          all = λ row h b has. by_bool (changes row b)
              (λ differs.
              let changed : is_changed change row b ≡ true = (λ i. has i && differs i) in
              let g = told_changed row h b changed in
              let one = told_one row b g in
              let place = in_flat (takes_on change) rows row (events_of_moves row b) h
              (in_mapped (events_of_moves row) (changed_blocks change row) b
              (in_kept (is_changed change row) (blocks_in change.setting change.next) b g.looked changed)) in
              inr (one.0, there.on one.0 (subst (λ (x : Option Event). In x (flat_map (takes_on change) rows)) one.1 place), one.2))
              (λ same. inl (had_same _ _ _ same));
        }
