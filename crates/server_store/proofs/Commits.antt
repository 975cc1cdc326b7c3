-- What a turn, a commit and a write of a slot make of what a device shows.
use Rattle.std.proofs.Common.{◌≡◌, ◌≢◌, inl, inr, ℕ, Bool, List, [], ◌∷◌, ◌++◌, fold, map, Result, Ok, Err, refl, sym, ◌∙◌, ap, arith}
use Rattle.std.proofs.lemmas.List.Elements.{All-head, All-tail}
use Rattle.std.proofs.lemmas.List.Sums.{fold-append}
use Rattle.std.specs.List.{All}
use Rattle.std.specs.Result.{OnOk}
use Rattle.petal_disk.specs.Disk.{Torn, Follows}
use Rattle.petal_disk.proofs.Tearing.{torn_front}
use Rattle.block_journal.proofs.Apart.{list_apart, stored_apart}
use Rattle.client_rows.specs.declared.row.Row.{Row}
use Rattle.client_rows.specs.Rows.{rows_after}
use Rattle.petal_base.specs.Block.{block_bytes}
use Rattle.petal_base.specs.Origins.{Named}
use Rattle.std.specs.Prelude.{Option}
use Rattle.physical_map.specs.declared.entry.Entry.{Entry}
use Rattle.data_device.specs.declared.record.StoreRecord.{StoreRecord}
use Rattle.data_device.specs.declared.record.StoreRecord.TheVariants as kind
use Rattle.data_device.specs.Device.{StandsFor, Log, Logs, EitherList, bodies_of, journal_base, header_bytes, journal_bytes}
use Rattle.data_device.specs.Kept.{Kept, formatted, kept_of, kept_after}
use Rattle.data_device.specs.Slots.{slot_start, slot_bytes}
use Rattle.server_store.specs.Holdings.{Held, held_in}
use Rattle.server_store.specs.Shown.{Picture, IsShown, Keeps, PutsNothing, ShowsEither, picture_in, picture_after, picture_after_all}
use Rattle.server_store.proofs.Contents.{part-following, held-apart, map-placed, map-without}

-- Slots lie after the journal.

pub slot-following : (slot : ℕ) (x y : List ℕ) → Torn journal_base journal_bytes x y → slot_bytes y slot ≡ slot_bytes x slot
slot-following slot x y torn = part-following journal_base journal_bytes (slot_start slot) block_bytes x y torn (omega arith)

pub held-following : (es : List Entry) (x y : List ℕ) → Torn journal_base journal_bytes x y → map (held_in y) es ≡ map (held_in x) es
held-following [] x y torn = refl
held-following (e ∷ es) x y torn = rw (slot-following e.slot x y torn, held-following es x y torn) refl

pub same_in : (kept : Kept) (x y : List ℕ) → Torn journal_base journal_bytes x y → picture_in y kept ≡ picture_in x kept
same_in kept x y torn =
    ap (λ (hs : List Held). record { entries = hs; marks = kept.marks; rows = kept.rows; fresh = kept.fresh }) (held-following kept.entries x y torn)

-- records show their change in this content
abbrev pub ShowsChange : List ℕ → Kept → List StoreRecord → List ℕ → Type 0
ShowsChange file kept entries content = picture_in file (fold kept_after kept entries) ≡ picture_after_all (picture_in file kept) entries content

pub shows-put : (file : List ℕ) (kept : Kept) (e : Entry) (origin : Option Named) (content : List ℕ) → slot_bytes file e.slot ≡ content
    → ShowsChange file kept (kind.Put e.key e.version e.slot origin ∷ []) content
shows-put file kept e origin content is =
    ap (λ (hs : List Held). record { entries = hs; marks = kept.marks; rows = rows_after kept.rows e.key.map origin; fresh = kept.fresh })
    (map-placed file kept.entries e ∙ ap (λ (c : List ℕ). placed_held (map (held_in file) kept.entries) c) is) where
      placed_held : List Held → List ℕ → List Held
      placed_held hs c =
          (picture_after (record { entries = hs; marks = kept.marks; rows = kept.rows; fresh = kept.fresh }) (kind.Put e.key e.version e.slot origin) c).entries

shows_other : (file : List ℕ) (kept : Kept) (r : StoreRecord) → PutsNothing r → picture_in file (kept_after kept r) ≡ picture_after (picture_in file kept) r []
shows_other file kept (kind.Put key version slot origin) other = absurd other
shows_other file kept (kind.Drop key) other =
    ap (λ (hs : List Held). record { entries = hs; marks = kept.marks; rows = kept.rows; fresh = kept.fresh }) (map-without file kept.entries key)
shows_other file kept (kind.Mark k cell) other = refl
shows_other file kept (kind.Unmark k cell) other = refl
shows_other file kept kind.Settled other = refl
shows_other file kept (kind.Forget map link) other = refl
shows_other file kept (kind.Done map origin) other = refl

pub shows_others : (file : List ℕ) (kept : Kept) (entries : List StoreRecord) → All PutsNothing entries → ShowsChange file kept entries []
shows_others file kept [] others = refl
shows_others file kept (r ∷ rs) others =
    shows_others file (kept_after kept r) rs (All-tail PutsNothing r rs others)
    ∙ ap (λ (p : Picture). picture_after_all p rs []) (shows_other file kept r (All-head PutsNothing r rs others))

-- ### What a change of the journal leaves of the device

pub shown_now : (slots : ℕ) (log : Log) (picture : Picture) (seen : List ℕ) (leave : List ℕ → Type 0) → Keeps slots log picture seen leave
    → IsShown seen slots log.fresh (kept_of log.fresh log.records) picture
shown_now slots log picture seen leave h = record { records = log.records; shows = record { stands = h.logs.now; shown = h.shown }; keeps = refl }

pub shown_left : (slots : ℕ) (log : Log) (picture : Picture) (seen : List ℕ) (leave : List ℕ → Type 0) → Keeps slots log picture seen leave
    → (c : List ℕ) → leave c → IsShown c slots log.fresh (kept_of log.fresh log.records) picture
shown_left slots log picture seen leave h c i =
    record { records = log.records; shows = record { stands = h.logs.left c i; shown = h.left c i }; keeps = refl }

-- records that give the same show the same
pub shown_turned : (slots : ℕ) (log : Log) (news : List StoreRecord) (picture : Picture) (d c : List ℕ) → picture_in d (kept_of log.fresh log.records) ≡ picture
    → Torn journal_base journal_bytes d c → kept_of log.fresh news ≡ kept_of log.fresh log.records → EitherList c slots log news
    → IsShown c slots log.fresh (kept_of log.fresh log.records) picture
shown_turned slots log news picture d c shown torn same (inl old) =
    record { records = log.records; shows = record { stands = old; shown = same_in (kept_of log.fresh log.records) d c torn ∙ shown }; keeps = refl }
shown_turned slots log news picture d c shown torn same (inr new) = record {
  records = news;
  shows = record { stands = new; shown = ap (picture_in c) same ∙ same_in (kept_of log.fresh log.records) d c torn ∙ shown };
  keeps = same;
}

pub keeps_turned : (slots : ℕ) (log log' : Log) (picture : Picture) (seen seen' : List ℕ) (leave leave' : List ℕ → Type 0) → Keeps slots log picture seen leave
    → kept_of log'.fresh log'.records ≡ kept_of log.fresh log.records → Torn journal_base journal_bytes seen seen'
    → Follows (Torn journal_base journal_bytes) leave leave' → Logs slots log' seen' leave' → Keeps slots log' picture seen' leave'
keeps_turned slots log log' picture seen seen' leave leave' h same torn follows logs =
    let kept = kept_of log.fresh log.records in
    record {
      logs = logs;
      shown = ap (picture_in seen') same ∙ same_in kept seen seen' torn ∙ h.shown;
      left = λ c i. let l = follows c i in ap (picture_in c) same ∙ same_in kept l.0 c l.2 ∙ h.left l.0 l.1;
    }

module _ (slots : ℕ) (log : Log) (picture : Picture) (entries : List StoreRecord) (content : List ℕ) where
  abbrev kept : Kept
  kept = kept_of log.fresh log.records

  more : kept_of log.fresh (log.records ++ entries) ≡ fold kept_after kept entries
  more = fold-append kept_after (formatted log.fresh) log.records entries

  shown_more : (d c : List ℕ) → picture_in d kept ≡ picture → Torn journal_base journal_bytes d c → ShowsChange d kept entries content
      → picture_in c (kept_of log.fresh (log.records ++ entries)) ≡ picture_after_all picture entries content
  shown_more d c shown torn change =
      ap (picture_in c) more ∙ same_in (fold kept_after kept entries) d c torn ∙ change ∙ ap (λ (p : Picture). picture_after_all p entries content) shown

  -- what a commit leaves
  pub committed : (d c : List ℕ) → picture_in d kept ≡ picture → Torn journal_base journal_bytes d c → ShowsChange d kept entries content
      → EitherList c slots log (log.records ++ entries) → ShowsEither c slots log picture entries content
  committed d c shown torn change (inl old) =
      inl (record { records = log.records; shows = record { stands = old; shown = same_in kept d c torn ∙ shown }; keeps = refl })
  committed d c shown torn change (inr new) =
      inr (record { records = log.records ++ entries; shows = record { stands = new; shown = shown_more d c shown torn change }; keeps = more })

  -- what is kept after a commit that succeeded
  pub keeps_after : (log' : Log) (seen seen' : List ℕ) (leave leave' : List ℕ → Type 0) → Keeps slots log picture seen leave
      → ShowsChange seen kept entries content → ((d : List ℕ) → leave d → ShowsChange d kept entries content)
      → Torn journal_base journal_bytes seen seen' → Follows (Torn journal_base journal_bytes) leave leave'
      → log'.fresh ≡ log.fresh → log'.records ≡ log.records ++ entries → Logs slots log' seen' leave'
      → Keeps slots log' (picture_after_all picture entries content) seen' leave'
  keeps_after log' seen seen' leave leave' h change changes torn follows fresh records logs = record {
    logs = logs;
    shown = rw (fresh, records) (shown_more seen seen' h.shown torn change);
    left = λ c i. let l = follows c i in rw (fresh, records) (shown_more l.0 c (h.left l.0 l.1) l.2 (changes l.0 l.1));
  }

-- ### Before the commit a put writes a slot that no entry has

abbrev pub Free : Kept → ℕ → Type 0
Free kept slot = All (λ e. e.slot ≢ slot) kept.entries

stands-still : (slots : ℕ) (fresh : Bool) (records : List StoreRecord) (slot : ℕ) (d c : List ℕ) → Torn (slot_start slot) block_bytes d c
    → StandsFor d slots fresh records → StandsFor c slots fresh records
stands-still slots fresh records slot d c torn s = record {
  headed = torn_front header_bytes (slot_start slot) block_bytes d c (omega arith) torn ∙ s.headed;
  few = s.few;
  spelled = s.spelled;
  fit = s.fit;
  stands = list_apart journal_base (slot_start slot) block_bytes d c (inl (omega arith)) torn (bodies_of records) s.stands;
}

shown_still : (kept : Kept) (picture : Picture) (slot : ℕ) (d c : List ℕ) → Free kept slot → Torn (slot_start slot) block_bytes d c
    → picture_in d kept ≡ picture → picture_in c kept ≡ picture
shown_still kept picture slot d c free torn shown =
    ap (λ (hs : List Held). record { entries = hs; marks = kept.marks; rows = kept.rows; fresh = kept.fresh }) (held-apart kept.entries slot d c free torn)
    ∙ shown

pub shows-still : (slots : ℕ) (log : Log) (picture : Picture) (slot : ℕ) (d c : List ℕ) → Free (kept_of log.fresh log.records) slot
    → Torn (slot_start slot) block_bytes d c → StandsFor d slots log.fresh log.records → picture_in d (kept_of log.fresh log.records) ≡ picture
    → IsShown c slots log.fresh (kept_of log.fresh log.records) picture
shows-still slots log picture slot d c free torn stands shown = record {
  records = log.records;
  shows = record {
    stands = stands-still slots log.fresh log.records slot d c torn stands;
    shown = shown_still (kept_of log.fresh log.records) picture slot d c free torn shown;
  };
  keeps = refl;
}

pub keeps-still : (slots : ℕ) (log : Log) (picture : Picture) (slot : ℕ) (x y : List ℕ) (leave leave' : List ℕ → Type 0)
    → Free (kept_of log.fresh log.records) slot → Torn (slot_start slot) block_bytes x y → Follows (Torn (slot_start slot) block_bytes) leave leave'
    → Keeps slots log picture x leave
    → Keeps slots log picture y leave'
keeps-still slots log picture slot x y leave leave' free torn follows h =
    let kept = kept_of log.fresh log.records in
    let place = h.logs.place in
    record {
      logs = record {
        place = place;
        stored = stored_apart log.halves (slot_start slot) block_bytes x y leave leave' (bodies_of log.records) (inl (omega (arith, place))) torn follows
            h.logs.stored;
        now = stands-still slots log.fresh log.records slot x y torn h.logs.now;
        left = λ c i. let l = follows c i in stands-still slots log.fresh log.records slot l.0 c l.2 (h.logs.left l.0 l.1);
      };
      shown = shown_still kept picture slot x y free torn h.shown;
      left = λ c i. let l = follows c i in shown_still kept picture slot l.0 c free l.2 (h.left l.0 l.1);
    }

-- two facts of a result that is Ok
pub on_ok : {T E : Type 0} (result : Result T E) (A B C : Type 0) → (A → B → C) → OnOk result A → OnOk result B → OnOk result C
on_ok (Ok value) A B C f a b = f a b
on_ok (Err error) A B C f a b = tt
