-- What an append to the journal leaves of a state device.
use Rattle.std.proofs.Common.{◌≡◌, ◌⊎◌, inl, inr, ℕ, ◌*◌, ◌≤◌, List, [], ◌∷◌, ◌++◌, length, take, refl, sym, ◌∙◌, ap, subst, arith}
use Rattle.std.proofs.lemmas.List.{map-append, length-map, take-take}
use Rattle.record_fields.specs.Fields.{IsWord}
use Rattle.petal_disk.specs.Disk.{Torn, Only, LeavesOnly, written}
use Rattle.petal_disk.proofs.Moments.{joined, weaker}
use Rattle.petal_disk.proofs.Tearing.{torn_front, torn_written}
use Rattle.block_journal.specs.Gate.{IsShut}
use Rattle.block_journal.specs.Records.{Stands, Stored, LeftByAppend}
use Rattle.block_journal.specs.Records as journal
use Rattle.block_journal.specs.Region.{Region}
use Rattle.block_journal.proofs.Frame.{stands_outside}
use Rattle.block_journal.proofs.Gates.{shut_still}
use Rattle.spec_paxos.specs.declared.record.StateRecord.{StateRecord}
use Rattle.spec_paxos.specs.declared.record.StateRecord.TheVariants.{Inc}
use Rattle.state_store.specs.Body.{body_of, HasBody}
use Rattle.state_store.specs.Device.{header, bodies_of, AreSpelled, StandsFor, WithOrWithout, Holds, IsBlank, LeftByFormat}
use Rattle.state_store.specs.Device.{record_bytes, journal_base, JournalStands}
use Rattle.petal_base.specs.Limits.{journal_records}

-- the journal of a state device
pub record IsPlaced (region : Region) : Type 0 where
  pub base : region.base ≡ journal_base
  pub limit : region.limit ≡ journal_records

-- its bodies are stored
pub stored : (region : Region) (seen : List ℕ) (leave : List ℕ → Type 0) (records : List StateRecord) → IsPlaced region → Holds region seen leave records
    → Stored 128 region seen leave (bodies_of records)
stored region seen leave records at h = record {
  count = h.count ∙ sym (length-map records body_of);
  now = subst (λ b. Stands 128 b region.limit seen (bodies_of records)) (sym at.base)
      (subst (λ n. Stands 128 journal_base n seen (bodies_of records)) (sym at.limit) h.now.stands);
  left = λ c i. subst (λ b. Stands 128 b region.limit c (bodies_of records)) (sym at.base)
      (subst (λ n. Stands 128 journal_base n c (bodies_of records)) (sym at.limit) (h.left c i).stands);
}

-- back from a journal's region to the device's
pub placed : (region : Region) (file : List ℕ) (bodies : List (List ℕ)) → IsPlaced region → Stands 128 region.base region.limit file bodies
    → JournalStands file bodies
placed region file bodies at s = subst (λ b. Stands 128 b journal_records file bodies) at.base (subst (λ n. Stands 128 region.base n file bodies) at.limit s)

pub bodies_one_more : (records : List StateRecord) (entry : StateRecord) → bodies_of (records ++ entry ∷ []) ≡ bodies_of records ++ body_of entry ∷ []
bodies_one_more records entry = map-append body_of records (entry ∷ [])

-- what changes in the journal alone leaves the header
headed_still : (region : Region) (old new : List ℕ) → IsPlaced region → Torn region.base (128 * region.limit) old new
    → take 64 old ≡ header → take 64 new ≡ header
headed_still region old new at torn h = torn_front 64 region.base (128 * region.limit) old new (let b = at.base in omega arith) torn ∙ h

pub spelled_more : (records : List StateRecord) (entry : StateRecord) → AreSpelled records → HasBody entry → AreSpelled (records ++ entry ∷ [])
spelled_more [] entry h fits = (fits, tt)
spelled_more (r ∷ rs) entry h fits = (h.0, spelled_more rs entry h.1 fits)

with_or_without : (region : Region) (file : List ℕ) (records : List StateRecord) (entry : StateRecord) → HasBody entry → AreSpelled records → IsPlaced region
    → take 64 file ≡ header → journal.WithOrWithout 128 region (bodies_of records) (body_of entry) file → WithOrWithout file records entry
with_or_without region file records entry fits sp at h (inl s) = inl (record { headed = h; spelled = sp; stands = placed region file (bodies_of records) at s })
with_or_without region file records entry fits sp at h (inr s) = inr (record {
  headed = h;
  spelled = spelled_more records entry sp fits;
  stands = subst (JournalStands file) (sym (bodies_one_more records entry)) (placed region file _ at s);
})

-- a crash in an append leaves the records with the new one or without it
pub left_by_append : (region : Region) (leave : List ℕ → Type 0) (seen : List ℕ) (records : List StateRecord) (entry : StateRecord) (body : List ℕ)
    → body ≡ body_of entry → HasBody entry → IsPlaced region → Holds region seen leave records → (c : List ℕ)
    → LeftByAppend 128 region leave (bodies_of records) body c → WithOrWithout c records entry
left_by_append region leave seen records entry body e fits at h c l =
    with_or_without region c records entry fits h.now.spelled at (headed_still region l.from c at l.outside (h.left l.from l.from_left).headed)
    (subst (λ b. journal.WithOrWithout 128 region (bodies_of records) b c) e l.stands)

-- so does a fault
pub left_by_fault : (region : Region) (leave : List ℕ → Type 0) (seen new : List ℕ) (records : List StateRecord) (entry : StateRecord) (body : List ℕ)
    → body ≡ body_of entry → HasBody entry → IsPlaced region → Holds region seen leave records → Torn region.base (128 * region.limit) seen new
    → journal.WithOrWithout 128 region (bodies_of records) body new → WithOrWithout new records entry
left_by_fault region leave seen new records entry body e fits at h torn s =
    with_or_without region new records entry fits h.now.spelled
    at (headed_still region seen new at torn h.now.headed) (subst (λ b. journal.WithOrWithout 128 region (bodies_of records) b new) e s)

-- what an append that succeeded leaves
pub appended : (region region' : Region) (leave leave' : List ℕ → Type 0) (seen seen' : List ℕ) (records : List StateRecord)
    (entry : StateRecord) (body : List ℕ) → body ≡ body_of entry → HasBody entry → IsPlaced region → IsPlaced region' → Holds region seen leave records
    → Torn region.base (128 * region.limit) seen seen' → Stored 128 region' seen' leave' (bodies_of records ++ body ∷ [])
    → ((c : List ℕ) → leave' c → LeftByAppend 128 region leave (bodies_of records) body c) → Holds region' seen' leave' (records ++ entry ∷ [])
appended region region' leave leave' seen seen' records entry body e fits at at' h torn s each =
    let more : bodies_of (records ++ entry ∷ []) ≡ bodies_of records ++ body ∷ [] = bodies_one_more records entry
    ∙ ap (λ b. bodies_of records ++ b ∷ []) (sym e) in
    record {
      count = s.count ∙ ap length (sym more) ∙ length-map (records ++ entry ∷ []) body_of;
      now = record {
        headed = headed_still region seen seen' at torn h.now.headed;
        spelled = spelled_more records entry h.now.spelled fits;
        stands = subst (JournalStands seen') (sym more) (placed region' seen' _ at' s.now);
      };
      left = λ c i. let l = each c i in record {
        headed = headed_still region l.from c at l.outside (h.left l.from l.from_left).headed;
        spelled = spelled_more records entry h.now.spelled fits;
        stands = subst (JournalStands c) (sym more) (placed region' c _ at' (s.left c i));
      };
    }

-- a device whose gate is closed is blank
pub shut_blank : (file : List ℕ) → IsShut file → IsBlank file
shut_blank file shut head = shut (sym (take-take 1 64 file (omega arith)) ∙ ap (take 1) head)

-- the whole header
pub headed : (file : List ℕ) → take 64 (written file 0 header) ≡ header
headed file = refl

-- a header over a journal
pub headed_device : (file c : List ℕ) (inc : ℕ) → IsWord inc → 64 ≤ length file → JournalStands file (bodies_of (Inc inc ∷ []))
    → c ≡ written file 0 header → StandsFor c (Inc inc ∷ [])
headed_device file c inc word fits stands is =
    let torn : Torn 0 64 file c = subst (λ f. Torn 0 64 file f) (sym is) (torn_written file 0 header fits) in
    record {
      headed = ap (take 64) is ∙ headed file;
      spelled = (word, tt);
      stands = stands_outside record_bytes journal_base journal_records 0 64 file c (bodies_of (Inc inc ∷ [])) (omega arith) (inr (omega arith)) torn stands;
    }

-- a closed gate, or what was there before, may be left by formatting
pub left_by_clearing : (before : List ℕ → Type 0) (inc : ℕ) (c : List ℕ) → before c ⊎ IsShut c → LeftByFormat before inc c
left_by_clearing before inc c (inl was) = inl was
left_by_clearing before inc c (inr shut) = inr (inl (shut_blank c shut))

-- so may a header over the one record
pub left_by_header : (before : List ℕ → Type 0) (inc : ℕ) (file c : List ℕ) → IsWord inc → 64 ≤ length file
    → JournalStands file (bodies_of (Inc inc ∷ [])) → IsShut c ⊎ (c ≡ written file 0 header) → LeftByFormat before inc c
left_by_header before inc file c word fits stands (inl shut) = inr (inl (shut_blank c shut))
left_by_header before inc file c word fits stands (inr is) = inr (inr (headed_device file c inc word fits stands is))

-- at each moment of both
pub formatting : {D : Type 0} (moment : D → ℕ) (left_since : D → ℕ → List ℕ → Type 0) (d0 d1 d2 : D) (before : List ℕ → Type 0) (inc : ℕ) (file : List ℕ)
    → IsWord inc → 64 ≤ length file → JournalStands file (bodies_of (Inc inc ∷ []))
    → LeavesOnly moment left_since d0 d1 (λ c. before c ⊎ IsShut c) → LeavesOnly moment left_since d1 d2 (λ c. IsShut c ⊎ (c ≡ written file 0 header))
    → LeavesOnly moment left_since d0 d2 (LeftByFormat before inc)
formatting moment left_since d0 d1 d2 before inc file word fits stands first second =
    joined moment left_since d0 d1 d2 (LeftByFormat before inc) (λ c. IsShut c ⊎ (c ≡ written file 0 header))
    (weaker moment left_since d0 d1 (λ c. before c ⊎ IsShut c) (LeftByFormat before inc) first (left_by_clearing before inc)) second
    (λ c left. left_by_header before inc file c word fits stands left)

-- a first record after a closed gate
pub first_record : {D : Type 0} (moment : D → ℕ) (left_since : D → ℕ → List ℕ → Type 0) (d0 d1 d2 : D) (before leave1 : List ℕ → Type 0)
    (file body : List ℕ) (region : Region) → IsPlaced region → Only file leave1 → IsShut file
    → LeavesOnly moment left_since d0 d1 (λ c. before c ⊎ IsShut c) → LeavesOnly moment left_since d1 d2 (LeftByAppend 128 region leave1 [] body)
    → LeavesOnly moment left_since d0 d2 (λ c. before c ⊎ IsShut c)
first_record moment left_since d0 d1 d2 before leave1 file body region at only shut first second =
    joined moment left_since d0 d1 d2 (λ c. before c ⊎ IsShut c) (LeftByAppend 128 region leave1 [] body) first second
    (λ c left. inr (shut_still region.base (128 * region.limit) left.from c (let b = at.base in omega arith) left.outside
    (subst IsShut (sym (only left.from left.from_left)) shut)))

-- what a formatted device stands for
pub formatted : (region : Region) (seen : List ℕ) (leave : List ℕ → Type 0) (records : List StateRecord) → region.count ≡ length records
    → StandsFor seen records → Only seen leave → Holds region seen leave records
formatted region seen leave records count stands only =
    record { count = count; now = stands; left = λ c i. subst (λ f. StandsFor f records) (sym (only c i)) stands }

-- what an opened device stands for
pub opened : (region : Region) (seen : List ℕ) (leave : List ℕ → Type 0) (records : List StateRecord) → region.count ≡ length records
    → take 64 seen ≡ header → AreSpelled records → JournalStands seen (bodies_of records) → Only seen leave → Holds region seen leave records
opened region seen leave records count head sp stands only =
    let now : StandsFor seen records = record { headed = head; spelled = sp; stands = stands } in
    record { count = count; now = now; left = λ c i. subst (λ f. StandsFor f records) (sym (only c i)) now }
