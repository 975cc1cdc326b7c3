-- States that have grown from one another, and rows of links that are later than others.
use Rattle.law_state.proofs.Imports.{[], ◌++◌, ◌∙◌, ◌≡◌, ◌≤◌, Bool, Both, Cell, DiskRow, LinkRow, Lost, Only, Some, State, ap, append-nil, append_assoc}
use Rattle.law_state.proofs.Imports.{arith, has_server, inl, inr, length, link_at, refl, slice_get, sym, ℕ}
use Rattle.law_state.specs.Ages.{age, age_of}
use Rattle.law_state.specs.LinkRows.{GoesOn, IsBetween, IsHeldOn, IsLater, IsServedOn}
use Rattle.law_state.specs.Homes.{stage_at, stage_of}
use Rattle.law_state.specs.Tables.{HasLaterDisk, HasLaterRow, IsGone, IsGrown, IsLaterDisk, IsSettledState}
use Rattle.law_state.proofs.Ages.{between, no_less, out_same}
use Rattle.law_state.proofs.Stages.{stage_most}

pub later_itself : (row : LinkRow) → IsLater row row
later_itself row = record { map = refl; link = refl; primary = refl; secondary = refl }

-- who is one of two servers later was so before
pub one_before : (row later : LinkRow) (n : ℕ) → IsLater row later → has_server n later ≡ has_server n row
one_before row later n so = λ i. has_server n (record row { primary = so.primary i; secondary = so.secondary i })

-- it is between the same servers
pub between_later : (row later : LinkRow) (one other : ℕ) → IsLater row later → IsBetween row one other → IsBetween later one other
between_later row later one other so (inl pair) = inl (so.primary ∙ pair.0, so.secondary ∙ pair.1)
between_later row later one other so (inr pair) = inr (so.primary ∙ pair.0, so.secondary ∙ pair.1)

-- a link is in one of its states
pub alone_not_both : {B : Type 0} {whole : Bool} (row : LinkRow) (holder : ℕ) → row.state ≡ Only holder whole → row.state ≡ Both → B
alone_not_both {whole = whole} row holder e f = let g : Only holder whole ≡ Both = sym e ∙ f in absurd cc

pub lost_not_both : {B : Type 0} (row : LinkRow) → row.state ≡ Lost → row.state ≡ Both → B
lost_not_both row e f = let g : Lost ≡ Both = sym e ∙ f in absurd cc

pub lost_not_alone : {B : Type 0} {whole : Bool} (row : LinkRow) (holder : ℕ) → row.state ≡ Lost → row.state ≡ Only holder whole → B
lost_not_alone {whole = whole} row holder e f = let g : Lost ≡ Only holder whole = sym e ∙ f in absurd cc

pub later_on : (one two three : LinkRow) → IsLater one two → IsLater two three → IsLater one three
later_on one two three a b = record {
  map = b.map ∙ a.map;
  link = b.link ∙ a.link;
  primary = b.primary ∙ a.primary;
  secondary = b.secondary ∙ a.secondary;
}

module _ (s t u : State) (old : (n : ℕ) → age_of s n ≤ age_of t n) (new : (n : ℕ) → age_of t n ≤ age_of u n) where
  pub served_on_on : (one two three : LinkRow) → IsLater one two → IsServedOn s t one two → IsServedOn t u two three → IsServedOn s u one three
  served_on_on one two three so on after_on n inc has serving e f =
      let g = between s t u n inc (old n) (new n) e f in after_on n inc (one_before one two n so ∙ has) (on n inc has serving e g) g f

  pub held_on_on : (one two three : LinkRow) → IsHeldOn s t one two → IsHeldOn t u two three → IsHeldOn s u one three
  held_on_on one two three on after_on n whole alone out same =
      let a = old n in
      let b = new n in
      let here : age_of t n ≡ age_of s n = omega arith in
      let there : age_of u n ≡ age_of t n = omega arith in
      let middle = on n whole alone out here in
      after_on n middle.0 middle.1 (out_same s t n out here) there

  abbrev pub goes_on_on : (one two three : LinkRow) → GoesOn s t one two → GoesOn t u two three → GoesOn s u one three
  goes_on_on one two three a b = record {
    so = later_on one two three a.so b.so;
    on = served_on_on one two three a.so a.on b.on;
    held = held_on_on one two three a.held b.held;
    lost = λ gone. b.lost (a.lost gone);
  }

at_most : (a b c : ℕ) → a ≤ b → b ≤ c → a ≤ c
at_most a b c one two = omega arith

pub later_disk_itself : (row : DiskRow) → IsLaterDisk row row
later_disk_itself row = record {
  id = refl;
  name = refl;
  map = no_less row.map;
  stages = λ cell low. no_less (stage_of cell row);
  back = λ of lt left. (refl, left);
  onward = no_less row.epoch;
  more = [];
  snaps = sym (append-nil row.snaps);
}

later_disk_on : (one two three : DiskRow) → IsLaterDisk one two → IsLaterDisk two three → IsLaterDisk one three
later_disk_on one two three a b = record {
  id = b.id ∙ a.id;
  name = b.name ∙ a.name;
  map = at_most one.map two.map three.map a.map b.map;
  stages = λ cell low. at_most (stage_of cell one) (stage_of cell two) (stage_of cell three) (a.stages cell low)
      (b.stages cell (at_most cell.map one.map two.map low a.map));
  back = λ of lt left.
      let later = b.back of (let on = a.map in omega arith) left in
      let first = a.back of lt later.1 in
      (later.0 ∙ first.0, first.1);
  onward = at_most one.epoch two.epoch three.epoch a.onward b.onward;
  more = a.more ++ b.more;
  snaps = b.snaps ∙ ap (λ snaps. snaps ++ b.more) a.snaps ∙ append_assoc one.snaps a.more b.more;
}

-- a row goes on as it was
abbrev pub goes_on_itself : (s t : State) (row : LinkRow) → GoesOn s t row row
goes_on_itself s t row = record {
  so = later_itself row;
  on = λ n inc has serving a b. serving;
  held = λ n whole alone out same. (whole, alone);
  lost = λ gone. gone;
}

pub same_row : (s t : State) (of link : ℕ) (row : LinkRow) → link_at t.links of link ≡ Some row → HasLaterRow s t of link row
same_row s t of link row e = record { now = row; is = e; goes_on = goes_on_itself s t row }

-- the tables of links and maps are as they were, and so is who is In
pub grown_still : (s t : State) → length s.disks.rows ≤ length t.disks.rows
    → ((i : ℕ) (row : DiskRow) → slice_get s.disks.rows i ≡ Some row → HasLaterDisk t i row)
    → t.maps ≡ s.maps → t.links ≡ s.links → t.view.members ≡ s.view.members → ((cell : Cell) → stage_at s cell ≤ stage_at t cell) → IsGrown s t
grown_still s t many rows maps links members stages = record {
  many = many;
  rows = rows;
  maps = λ of map e. ap (λ m. slice_get m of) maps ∙ e;
  links = λ of link row e. inl (same_row s t of link row (ap (λ l. link_at l of link) links ∙ e));
  stages = stages;
  ages = λ n. let e = ap (λ m. age (slice_get m n)) members in omega arith;
}

pub grown_itself : (s : State) → IsGrown s s
grown_itself s =
    grown_still s s (no_less (length s.disks.rows)) (λ i row e. record { now = row; is = e; so = later_disk_itself row }) refl refl refl
    (λ cell. no_less (stage_at s cell))

-- a map that is retired stays so
pub gone_on : (s t : State) (of : ℕ) → ((cell : Cell) → stage_at s cell ≤ stage_at t cell) → IsGone s of → IsGone t of
gone_on s t of stages gone block =
    let cell : Cell = record { map = of; block = block } in
    let before = gone block in
    let on = stages cell in
    let most = stage_most t cell in
    omega arith

pub grown_on : (s t u : State) → IsGrown s t → IsGrown t u → IsGrown s u
grown_on s t u one two = record {
  many = at_most (length s.disks.rows) (length t.disks.rows) (length u.disks.rows) one.many two.many;
  rows = λ i row e.
      let middle = one.rows i row e in
      let last = two.rows i middle.now middle.is in
      record { now = last.now; is = last.is; so = later_disk_on row middle.now last.now middle.so last.so };
  maps = λ of map e. two.maps of map (one.maps of map e);
  links = λ of link row e. elim (one.links of link row e) [
    | inr gone ↦ inr (gone_on t u of two.stages gone)
    | inl middle ↦ elim (two.links of link middle.now middle.is) [
      | inr gone ↦ inr gone
      | inl last ↦ inl (record {
        now = last.now;
        is = last.is;
        goes_on = goes_on_on s t u one.ages two.ages row middle.now last.now middle.goes_on last.goes_on;
      })
    ]
  ];
  stages = λ cell. at_most (stage_at s cell) (stage_at t cell) (stage_at u cell) (one.stages cell) (two.stages cell);
  ages = λ n. let a = one.ages n in let b = two.ages n in at_most _ _ _ a b;
}

-- the state is plain, and has grown from this one
pub record Step (servers : ℕ) (s t : State) : Type 0 where
  pub plain : IsSettledState servers t
  pub grown : IsGrown s t

pub stays : (servers : ℕ) (s : State) → IsSettledState servers s → Step servers s s
stays servers s p = record { plain = p; grown = grown_itself s }
