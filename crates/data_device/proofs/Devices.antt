-- What a change of the journal leaves of a data device.
use Rattle.std.proofs.Common.{◌≡◌, ◌⊎◌, inl, inr, ℕ, ◌+◌, ◌≤◌, Bool, List, [], ◌++◌, length, take, refl, sym, ◌∙◌, ap, subst, arith}
use Rattle.std.proofs.lemmas.List.{map-append, take-take}
use Rattle.petal_disk.specs.Disk.{Torn, Follows, Only, LeavesOnly, written}
use Rattle.petal_disk.proofs.Moments.{joined, weaker}
use Rattle.petal_disk.proofs.Tearing.{torn_front, torn_written}
use Rattle.block_journal.specs.Gate.{IsShut}
use Rattle.block_journal.specs.Halves.{CountIn, HalvesState, OldOrNew, Shows, Stored}
use Rattle.block_journal.specs.Halves as journal
use Rattle.block_journal.proofs.Apart.{list_apart, stored_apart}
use Rattle.data_device.specs.declared.record.StoreRecord.{StoreRecord}
use Rattle.data_device.specs.Spelling.{spelling}
use Rattle.data_device.specs.Device.{header, bodies_of, AreSpelled, StandsFor, Log, Logs, EitherList, LeftByChange, IsJournalOf, journal_base, journal_bytes}
use Rattle.data_device.specs.Kept.{AllFit, formatted, kept_of}
use Rattle.data_device.specs.Reading.{IsBlank, LeftByFormat}
use Rattle.data_device.specs.Turned.{Turned, list_of, turned, turned_of}
use Rattle.data_device.proofs.RecordLists.{fit_append, spelled_append}
use Rattle.data_device.proofs.Spellings.{turned_spelled}
use Rattle.data_device.proofs.Turning.{turned_fits}
use Rattle.petal_base.specs.Limits.{max_slots}

-- what halves of the device's journal show
list_in : (state : HalvesState) (file : List ℕ) (bodies : List (List ℕ)) → state.base ≡ journal_base → Shows state file bodies → IsJournalOf file bodies
list_in state file bodies at shows =
    (state.active, (state.generation, subst (λ (b : ℕ). CountIn b state.active state.generation file bodies) at shows.list))

pub list_of_stored : (state : HalvesState) (seen : List ℕ) (leave : List ℕ → Type 0) (bodies : List (List ℕ)) → state.base ≡ journal_base
    → Stored state seen leave bodies → IsJournalOf seen bodies
list_of_stored state seen leave bodies at stored = list_in state seen bodies at stored.now

-- what changes in the journal alone leaves the header
headed_still : (slots : ℕ) (fresh : Bool) (old new : List ℕ) → Torn journal_base journal_bytes old new → take 64 old ≡ header slots fresh
    → take 64 new ≡ header slots fresh
headed_still slots fresh old new torn h = torn_front 64 journal_base journal_bytes old new (omega arith) torn ∙ h

-- a range of the halves is one of the device's journal
pub in_journal : (base : ℕ) (x y : List ℕ) → base ≡ journal_base → Torn base journal_bytes x y → Torn journal_base journal_bytes x y
in_journal base x y at torn = subst (λ (b : ℕ). Torn b journal_bytes x y) at torn

-- ### A list in place of the log's

-- the records and their bodies
pub record News (slots : ℕ) (log : Log) (news : List StoreRecord) (bodies : List (List ℕ)) : Type 0 where
  pub bodies_are : bodies_of news ≡ bodies
  pub spelled : AreSpelled news
  pub fit : AllFit slots (formatted log.fresh) news

-- records more, where the bodies are theirs
pub news_more : (slots : ℕ) (log : Log) (seen : List ℕ) (leave : List ℕ → Type 0) (entries : List StoreRecord) (bodies : List (List ℕ))
    → bodies ≡ bodies_of entries → AreSpelled entries → AllFit slots (kept_of log.fresh log.records) entries → Logs slots log seen leave
    → News slots log (log.records ++ entries) (bodies_of log.records ++ bodies)
news_more slots log seen leave entries bodies are spelled fit h = record {
  bodies_are = map-append spelling log.records entries ∙ ap (λ (l : List (List ℕ)). bodies_of log.records ++ l) (sym are);
  spelled = spelled_append log.records entries h.now.spelled spelled;
  fit = fit_append slots (formatted log.fresh) log.records entries h.now.fit fit;
}

-- what a turn writes
news_turned : (slots : ℕ) (log : Log) (seen : List ℕ) (leave : List ℕ → Type 0) → Logs slots log seen leave
    → News slots log (turned_of log.fresh log.records) (bodies_of (turned_of log.fresh log.records))
news_turned slots log seen leave h = record {
  bodies_are = refl;
  spelled = turned_spelled log.fresh log.records h.now.spelled;
  fit = turned_fits slots log.fresh log.records h.now.fit;
}

pub news_of_list : (slots : ℕ) (log : Log) (seen : List ℕ) (leave : List ℕ → Type 0) (list : Turned) → list ≡ list_of log.fresh (kept_of log.fresh log.records)
    → Logs slots log seen leave → News slots log (turned list) (bodies_of (turned list))
news_of_list slots log seen leave list is h =
    subst (λ (l : Turned). News slots log (turned l) (bodies_of (turned l))) (sym is) (news_turned slots log seen leave h)

module _ (slots : ℕ) (log : Log) (leave : List ℕ → Type 0) (seen : List ℕ) (news : List StoreRecord) (bodies : List (List ℕ))
    (new : News slots log news bodies) (at : log.halves.base ≡ journal_base) (h : Logs slots log seen leave) where
  old_stands : (file : List ℕ) → take 64 file ≡ header slots log.fresh → IsJournalOf file (bodies_of log.records) → StandsFor file slots log.fresh log.records
  old_stands file head list = record { headed = head; few = h.now.few; spelled = h.now.spelled; fit = h.now.fit; stands = list }

  new_stands : (file : List ℕ) → take 64 file ≡ header slots log.fresh → IsJournalOf file bodies → StandsFor file slots log.fresh news
  new_stands file head list = record {
    headed = head;
    few = h.now.few;
    spelled = new.spelled;
    fit = new.fit;
    stands = subst (IsJournalOf file) (sym new.bodies_are) list;
  }

  either_list : (file : List ℕ) → take 64 file ≡ header slots log.fresh → OldOrNew log.halves.base (bodies_of log.records) bodies file
      → EitherList file slots log news
  either_list file head (inl old) =
      inl (old_stands file head (subst (λ (b : ℕ). journal.IsListOf b file (bodies_of log.records)) at old))
  either_list file head (inr list) = inr (new_stands file head (subst (λ (b : ℕ). journal.IsListOf b file bodies) at list))

  -- what a crash in a change leaves
  pub left_by_change : (c : List ℕ) → journal.LeftByChange log.halves.base leave (bodies_of log.records) bodies c → LeftByChange slots log leave news c
  left_by_change c l =
      let outside = in_journal log.halves.base l.from c at l.outside in
      record {
        list = either_list c (headed_still slots log.fresh l.from c outside (h.left l.from l.from_left).headed) l.list;
        from = l.from;
        from_left = l.from_left;
        outside = outside;
      }

  -- what a fault leaves
  pub left_by_fault : (file : List ℕ) → Torn log.halves.base journal_bytes seen file → OldOrNew log.halves.base (bodies_of log.records) bodies file
      → EitherList file slots log news
  left_by_fault file torn list =
      either_list file (headed_still slots log.fresh seen file (in_journal log.halves.base seen file at torn) h.now.headed) list

  -- what a change that succeeded leaves
  pub changed : (log' : Log) (leave' : List ℕ → Type 0) (seen' : List ℕ) → log'.halves.base ≡ log.halves.base → log'.records ≡ news → log'.fresh ≡ log.fresh
      → Torn log.halves.base journal_bytes seen seen' → Stored log'.halves seen' leave' bodies
      → ((c : List ℕ) → leave' c → journal.LeftByChange log.halves.base leave (bodies_of log.records) bodies c) → Logs slots log' seen' leave'
  changed log' leave' seen' place are same torn stored each =
      let here = place ∙ at in
      record {
        place = here;
        stored = subst (λ (l : List (List ℕ)). Stored log'.halves seen' leave' l) (sym (ap bodies_of are ∙ new.bodies_are)) stored;
        now = rw (are, same) (new_stands seen' (headed_still slots log.fresh seen seen' (in_journal log.halves.base seen seen' at torn) h.now.headed)
            (list_in log'.halves seen' bodies here stored.now));
        left = λ c i.
            let l = each c i in
            let outside = in_journal log.halves.base l.from c at l.outside in
            rw (are, same) (new_stands c (headed_still slots log.fresh l.from c outside (h.left l.from l.from_left).headed)
            (list_in log'.halves c bodies here (stored.left c i)));
      }

-- ### Formatting

-- a device whose gate is closed is blank
pub shut_blank : (file : List ℕ) (size : ℕ) → IsShut file → IsBlank file size
shut_blank file size shut = inl (λ slots fresh few head. absurd (shut (sym (take-take 1 64 file (omega arith)) ∙ ap (take 1) head)))

-- the whole header
pub headed : (slots : ℕ) (fresh : Bool) (file : List ℕ) → take 64 (written file 0 (header slots fresh)) ≡ header slots fresh
headed slots fresh file = refl

torn_header : (slots : ℕ) (fresh : Bool) (file c : List ℕ) → 64 ≤ length file → c ≡ written file 0 (header slots fresh) → Torn 0 64 file c
torn_header slots fresh file c fits is = subst (λ (f : List ℕ). Torn 0 64 file f) (sym is) (torn_written file 0 (header slots fresh) fits)

-- a header over an empty journal
pub headed_device : (slots : ℕ) (fresh : Bool) (file c : List ℕ) → slots ≤ max_slots → 64 ≤ length file → IsJournalOf file []
    → c ≡ written file 0 (header slots fresh) → StandsFor c slots fresh []
headed_device slots fresh file c few fits empty is = record {
  headed = ap (take 64) is ∙ headed slots fresh file;
  few = few;
  spelled = tt;
  fit = tt;
  stands = list_apart journal_base 0 64 file c (inr (omega arith)) (torn_header slots fresh file c fits is) [] empty;
}

-- a closed gate, or what was there before, may be left by formatting
pub left_by_clearing : (before : List ℕ → Type 0) (size slots : ℕ) (fresh : Bool) (c : List ℕ) → before c ⊎ IsShut c → LeftByFormat before size slots fresh c
left_by_clearing before size slots fresh c (inl was) = inl was
left_by_clearing before size slots fresh c (inr shut) = inr (inl (shut_blank c size shut))

-- so may a header over an empty journal
pub left_by_header : (before : List ℕ → Type 0) (size slots : ℕ) (fresh : Bool) (file c : List ℕ) → slots ≤ max_slots → 64 ≤ length file
    → IsJournalOf file [] → IsShut c ⊎ (c ≡ written file 0 (header slots fresh)) → LeftByFormat before size slots fresh c
left_by_header before size slots fresh file c few fits empty (inl shut) = inr (inl (shut_blank c size shut))
left_by_header before size slots fresh file c few fits empty (inr is) = inr (inr (headed_device slots fresh file c few fits empty is))

-- at each moment of both
pub formatting : {D : Type 0} (moment : D → ℕ) (left_since : D → ℕ → List ℕ → Type 0) (d0 d1 d2 : D) (before : List ℕ → Type 0) (size slots : ℕ)
    (fresh : Bool) (file : List ℕ) → slots ≤ max_slots → 64 ≤ length file → IsJournalOf file []
    → LeavesOnly moment left_since d0 d1 (λ c. before c ⊎ IsShut c)
    → LeavesOnly moment left_since d1 d2 (λ c. IsShut c ⊎ (c ≡ written file 0 (header slots fresh)))
    → LeavesOnly moment left_since d0 d2 (LeftByFormat before size slots fresh)
formatting moment left_since d0 d1 d2 before size slots fresh file few fits empty first second =
    joined moment left_since d0 d1 d2 (LeftByFormat before size slots fresh) (λ c. IsShut c ⊎ (c ≡ written file 0 (header slots fresh)))
    (weaker moment left_since d0 d1 (λ c. before c ⊎ IsShut c) (LeftByFormat before size slots fresh) first (left_by_clearing before size slots fresh)) second
    (λ c left. left_by_header before size slots fresh file c few fits empty left)

-- what a formatted device stands for
pub formatted_device : (slots : ℕ) (log : Log) (file seen : List ℕ) (leave leave' : List ℕ → Type 0) → slots ≤ max_slots → log.halves.base ≡ journal_base
    → log.records ≡ [] → 64 ≤ length file → Stored log.halves file leave [] → seen ≡ written file 0 (header slots log.fresh) → Only seen leave'
    → Logs slots log seen leave'
formatted_device slots log file seen leave leave' few at none fits stored is only =
    let torn = torn_header slots log.fresh file seen fits is in
    let still : Stored log.halves file (λ c. c ≡ file) [] = record {
      count = stored.count;
      now = stored.now;
      left = λ c same. subst (λ (f : List ℕ). Shows log.halves f []) (sym same) stored.now;
    } in
    let follows : Follows (Torn 0 64) (λ c. c ≡ file) leave' = λ c i. (file, refl, subst (λ (f : List ℕ). Torn 0 64 file f) (sym (only c i)) torn) in
    let away : (log.halves.base + 4194304 ≤ 0) ⊎ (64 ≤ log.halves.base) = inr (omega (arith, at)) in
    let there = stored_apart log.halves 0 64 file seen (λ c. c ≡ file) leave' [] away torn follows still in
    let now : StandsFor seen slots log.fresh log.records =
    rw none (headed_device slots log.fresh file seen few fits (list_in log.halves file [] at stored.now) is) in
    record {
      place = at;
      stored = rw none there;
      now = now;
      left = λ c i. subst (λ (f : List ℕ). StandsFor f slots log.fresh log.records) (sym (only c i)) now;
    }

-- ### Opening

-- what a device stands for that was synced and read
pub opened_device : (slots : ℕ) (fresh : Bool) (records : List StoreRecord) (log : Log) (bodies : List (List ℕ)) (seen seen' : List ℕ)
    (leave' : List ℕ → Type 0) → log.halves.base ≡ journal_base → log.fresh ≡ fresh → log.records ≡ records → bodies ≡ bodies_of records
    → seen' ≡ seen → Only seen' leave'
    → Stored log.halves seen' leave' bodies → StandsFor seen slots fresh records → Logs slots log seen' leave'
opened_device slots fresh records log bodies seen seen' leave' at same_fresh same_records same_bodies same_seen only stored stands =
    let now : StandsFor seen' slots log.fresh log.records = rw (same_fresh, same_records, same_seen) stands in
    record {
      place = at;
      stored = subst (λ (l : List (List ℕ)). Stored log.halves seen' leave' l) (same_bodies ∙ ap bodies_of (sym same_records)) stored;
      now = now;
      left = λ c i. subst (λ (f : List ℕ). StandsFor f slots log.fresh log.records) (sym (only c i)) now;
    }

-- what a device stands for, said of equal bytes and an equal header
pub stands_here : (old new : List ℕ) (slots slots' : ℕ) (fresh fresh' : Bool) (records : List StoreRecord) → new ≡ old → slots' ≡ slots → fresh' ≡ fresh
    → StandsFor old slots fresh records → StandsFor new slots' fresh' records
stands_here old new slots slots' fresh fresh' records bytes many kind stands =
    subst (λ (file : List ℕ). StandsFor file slots' fresh' records) (sym bytes)
    (subst (λ (b : Bool). StandsFor old slots' b records) (sym kind) (subst (λ (n : ℕ). StandsFor old n fresh records) (sym many) stands))
