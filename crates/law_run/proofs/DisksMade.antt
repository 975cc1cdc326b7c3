-- Disks that are made: the machine makes those that a step chose, each with zeros and without snapshots.
use Rattle.law_run.proofs.Imports.{[], ◌++◌, ◌∙◌, ◌∷◌, ◌≡◌, ◌≢◌, AreFresh, AreSnapshots, DiskRow, Event, Holds, In, List, Make, None, Obeys, Plain, Setting}
use Rattle.law_run.proofs.Imports.{Some, World, after, ap, append-nil, append_assoc, at-empty, by_bool, cond, content, content_at, drop, find_after}
use Rattle.law_run.proofs.Imports.{find_prefix, get_in, has_content_at, in-append, inl, inr, length, make_of, map, named, nat_cmp, none_find, none_some, refl}
use Rattle.law_run.proofs.Imports.{replay, same_name, some_or_none, subst, sym, text_itself, true_false, unwrap_or, zero_block, ℕ}
use Rattle.law_run.specs.WritesGoOn.{Onward}
use Rattle.law_run.specs.MachineTies.{Stores}
use Rattle.law_run.proofs.Machine.{after_mindful, make_same, make_others, make_onward, new_disk, onward_itself, onward_joined}

pub drop_all : {A : Type 0} (xs : List A) → drop (length xs) xs ≡ []
drop_all [] = refl
drop_all (x ∷ xs) = drop_all xs

empty_content : (b : ℕ) → content [] b ≡ zero_block
unfolding content
empty_content b = ap (λ o. unwrap_or o zero_block) (at-empty nat_cmp b)

pub unlike_named : (rows : List DiskRow) (name : List ℕ) (row : DiskRow) → named rows name ≡ None → In row rows → row.name ≢ name
unlike_named rows name row none h e =
    let at = get_in rows row h in
    true_false (ap (λ n. same_name n name) e ∙ text_itself name) (none_find (λ row. same_name row.name name) rows at.0 row none at.1)

-- a disk as it was made
abbrev pub new_row : DiskRow → DiskRow
new_row row = record row { epoch = 0; snaps = [] }

-- what has another name than these disks has another one than they had
none_new : (rows news : List DiskRow) (row : DiskRow) → ((name : List ℕ) → named rows name ≡ None → named news name ≡ None) → (name : List ℕ)
    → named (rows ++ row ∷ []) name ≡ None → named (news ++ new_row row ∷ []) name ≡ None
none_new rows news row same name none = elim (some_or_none (named rows name)) [
  | inl h ↦ none_some none (find_prefix (λ other. same_name other.name name) rows (row ∷ []) h.0 h.1)
  | inr gone ↦
      find_after (λ other. same_name other.name name) news (new_row row ∷ []) (same name gone)
      ∙ by_bool (same_name row.name name)
      (λ on. none_some none (find_after (λ other. same_name other.name name) rows (row ∷ []) gone ∙ ap (λ b. cond b (Some row) None) on))
      (λ off. ap (λ b. cond b (Some (new_row row)) None) off)
]

-- names are the same as they were
fresh_new : (rows news more : List DiskRow) → ((name : List ℕ) → named rows name ≡ None → named news name ≡ None) → AreFresh rows more
    → AreFresh news (map new_row more)
fresh_new rows news [] same fresh = tt
fresh_new rows news (row ∷ more) same fresh =
    (same row.name fresh.0, fresh_new (rows ++ row ∷ []) (news ++ new_row row ∷ []) more (none_new rows news row same) fresh.1)

pub fresh_made : (rows more : List DiskRow) → AreFresh rows more → AreFresh rows (map new_row more)
fresh_made rows more fresh = fresh_new rows rows more (λ name none. none) fresh

-- and so are the events
pub made_same : (more : List DiskRow) → map make_of (map new_row more) ≡ map make_of more
made_same [] = refl
made_same (row ∷ more) = ap (λ es. make_of row ∷ es) (made_same more)

-- the machine after the disks were made
pub record Made (setting : Setting) (rows : List DiskRow) (v : World) (m : Plain) (es : List Event) : Type 0 where
  pub may : Obeys m es
  pub stores : Stores setting rows v (replay m es)
  pub onward : Onward m (replay m es)

module _ (setting : Setting) (v : World) where
  made_stores : (rows : List DiskRow) (row : DiskRow) (m : Plain) → named rows row.name ≡ None → Stores setting rows v m
      → row.snaps ≡ [] → ((b : ℕ) → content_at setting v row.id row.epoch b ≡ zero_block) → Stores setting (rows ++ row ∷ []) v (after m (Make row.name))
  unfolding In
  made_stores rows row m fresh stores none zeros = record {
    known = λ other h. elim (in-append other rows (row ∷ []) h) [
      | inl old ↦
          let k = stores.known other old in
          record {
            disk = k.disk;
            is = make_others m row.name other.name (unlike_named rows row.name other fresh old) ∙ k.is;
            same = k.same;
            snapshots = k.snapshots;
          }
      | inr new ↦ elim new [
        | inl e ↦ subst (λ (r : DiskRow). Holds (after m (Make row.name)).disks r (has_content_at setting v r.id) (content_at setting v r.id)) (sym e) (record {
          disk = new_disk row.name;
          is = make_same m row.name (stores.unknown row.name fresh);
          same = λ b has. empty_content b ∙ sym (zeros b);
          snapshots = subst (λ snaps. AreSnapshots [] snaps (has_content_at setting v row.id) (content_at setting v row.id)) (sym none) tt;
        })
        | inr none ↦ absurd none
      ]
    ];
    unknown = λ name none. elim (some_or_none (named rows name)) [
      | inl h ↦ none_some none (find_prefix (λ row. same_name row.name name) rows (row ∷ []) h.0 h.1)
      | inr gone ↦
          make_others m row.name name (λ e. none_some none (find_after (λ row. same_name row.name name) rows (row ∷ []) gone
          ∙ ap (λ b. cond b (Some row) None) (ap (same_name row.name) e ∙ text_itself row.name))) ∙ stores.unknown name gone
    ];
    mindful = after_mindful m (Make row.name);
  }

  pub made_all : (rows more : List DiskRow) (m : Plain) → AreFresh rows more → Stores setting rows v m
      → ((row : DiskRow) → In row more → row.snaps ≡ [])
      → ((row : DiskRow) → In row more → (b : ℕ) → content_at setting v row.id row.epoch b ≡ zero_block) → Made setting (rows ++ more) v m (map make_of more)
  unfolding In
  made_all rows [] m fresh stores none zeros =
      record { may = tt; stores = subst (λ rs. Stores setting rs v m) (sym (append-nil rows)) stores; onward = onward_itself m }
  made_all rows (row ∷ more) m fresh stores none zeros =
      let k = after m (Make row.name) in
      let now = made_stores rows row m fresh.0 stores (none row (inl refl)) (zeros row (inl refl)) in
      let rest = made_all (rows ++ row ∷ []) more k fresh.1 now (λ other h. none other (inr h)) (λ other h. zeros other (inr h)) in
      record {
        may = (stores.unknown row.name fresh.0, rest.may);
        stores = subst (λ rs. Stores setting rs v (replay k (map make_of more))) (append_assoc rows (row ∷ []) more) rest.stores;
        onward = onward_joined m k (replay k (map make_of more)) (make_onward m row.name) rest.onward;
      }
