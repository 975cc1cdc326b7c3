-- What the lead of a link of an old map remembers: up to the last key of which it was told, the new map was told to have all.
use Rattle.law_moves.proofs.Imports.{[], if◌then◌else◌, ◌&&◌, ◌++◌, ◌==◌, ◌||◌, ◌∙◌, ◌∷◌, ◌≡◌, Cell, Chain, Command, DiskRow, Firm, Handled, HasProperTuples}
use Rattle.law_moves.proofs.Imports.{IsMoved, IsNextKey, IsPrefix, Key, LinkId, LinkRow, List, None, OneMore, Option, PairState, Some, State, Table, ap}
use Rattle.law_moves.proofs.Imports.{arith, at, by_bool, cell_link, cell_of, cells_same, chain_in, chosen_log, comes_before, ends_of, eq_by_cmp, false}
use Rattle.law_moves.proofs.Imports.{filled_beside, filled_here, history_grows, history_is_firm, id_of, inl, inr, is_link, is_some, key_at, leaves_with}
use Rattle.law_moves.proofs.Imports.{link_cmp, link_named, log_below, log_comes, log_goes, log_plain, log_steady, map_of, move_region, nat_lt, new_stage}
use Rattle.law_moves.proofs.Imports.{next_on, none_some, number_itself, old_stage, option_and_then, option_map_or, own_place, owner, prefix_itself, prefix_on}
use Rattle.law_moves.proofs.Imports.{prefix_plain, put, refl, region_left, region_of, row_named, same_id, same_some, server_state, some_or_none, source}
use Rattle.law_moves.proofs.Imports.{stage_at, stage_by, stage_facts, subst, sym, target, true, tuple_of, ℕ}
use Rattle.law_moves.specs.Fills.{AllFilled, Has, IsOnWay, IsToldOf, WasFilled}
use Rattle.law_moves.specs.LeftToMove.{IsKept, IsOurs}
use Rattle.law_moves.proofs.FrozenIsWhatCounted.{frozen_same}
use Rattle.law_moves.proofs.AllKeptOfMoves.{HasBegun, WasKnown}
use Rattle.law_moves.proofs.MovedsHadNothingLeft.{filled_stays}
use Rattle.law_moves.proofs.Movers.{had, known_told, three}
use Rattle.law_moves.proofs.NextFill.{here_or_before, next_is}
use Rattle.law_moves.proofs.MovedRegionsHaveAll.{link_slot, one_goal}
use Rattle.law_moves.proofs.MoveScenes.{IsMover}
use Rattle.law_moves.proofs.MoveWorlds.{plain_at}
use Rattle.petal_msg.specs.declared.body.Body.TheVariants as body

-- a cell is as far as another one of its map and region
stage_region : (s : State) (one other : Cell) → one.map ≡ other.map → region_of one.block ≡ region_of other.block → stage_at s one ≡ stage_at s other
stage_region s one other map region = by (owner s one.map) ∙ ap (λ k. stage_by s other (owner s k)) map
  where
    by : (o : Option DiskRow) → stage_by s one o ≡ stage_by s other o
    by None = ap (λ k. if is_some (tuple_of s.maps k) then 4 else 0) map
    by (Some row) = λ i. if row.map == map i then new_stage (move_region (region i) row.moving) else old_stage (move_region (region i) row.moving)

ids_same : (one other : LinkId) → one.map ≡ other.map → one.link ≡ other.link → one ≡ other
ids_same one other a b = λ i. record { map = a i; link = b i }

keys_same : (one other : Key) → one.map ≡ other.map → one.block ≡ other.block → one.epoch ≡ other.epoch → one ≡ other
keys_same one other a b c = λ i. record { map = a i; block = b i; epoch = c i }

module _ (it : OneMore) (known : WasKnown it) (y : ℕ) where
  open it use {prior, prior.{script, sound, records as prefix}, legal}
  open ends_of it use {setting, w, v, By, records, present}

  abbrev log : List Command
  log = (w.servers y).log.applied

  abbrev own : PairState
  own = (w.servers y).own

  was : Firm setting w
  was = history_is_firm script prefix sound prior.legal

  on : IsPrefix (chosen_log setting w) (chosen_log setting v)
  on = history_grows script records sound legal prefix (it.own ∷ []) refl

  plain_was : (f : List Command) → IsPrefix f (chosen_log setting w) → HasProperTuples script.servers f
  plain_was f lies = prefix_plain script.servers f (chosen_log setting w) was.plain lies

  pub lift : (key : Key) → WasFilled w key → WasFilled v key
  lift key told = filled_stays script prefix (it.own ∷ []) sound legal key told

  -- what was frozen is so still, once a cell leaves
  pub same_frozen : (f : List Command) → IsPrefix f (chosen_log setting w) → (old : Cell) → stage_at (By f) old ≡ 3 → v.frozen old ≡ w.frozen old
  same_frozen f lies old three =
      let up = (log_below script.servers f (chosen_log setting w) was.plain lies).stages old in
      frozen_same it old (inl (omega arith))

  -- at each prefix at which a cell is leaving, its link has one name
  one_link : (a b : List Command) → IsPrefix a (chosen_log setting v) → IsPrefix b (chosen_log setting v) → (old : Cell) (one other : LinkRow)
      → cell_link (By a) old ≡ Some one → cell_link (By b) old ≡ Some other → id_of one ≡ id_of other
  one_link a b la lb old one other is two =
      let map_of_a = map_of script.servers (By a) (log_plain script.servers a (plain_at present a la)) old one is in
      let map_of_b = map_of script.servers (By b) (log_plain script.servers b (plain_at present b lb)) old other two in
      ids_same (id_of one) (id_of other) (map_of_a ∙ sym map_of_b)
      (link_slot present a la old one is ∙ sym (link_slot present b lb old other two))

  -- and where it goes is one cell
  same_goal : (a b : List Command) → IsPrefix a (chosen_log setting v) → IsPrefix b (chosen_log setting v) → (old one other : Cell)
      → target (By a) old ≡ Some one → target (By b) old ≡ Some other → other ≡ one
  same_goal a b la lb old one other is two =
      one_goal present a b la lb old one other (log_goes script.servers a (plain_at present a la) old one is)
      (log_goes script.servers b (plain_at present b lb) old other two)

  -- what a table of keys tells, of each cell that leaves by some of what is chosen
  abbrev pub HasTold : Table LinkId Key → Type 0
  HasTold filled = (f : List Command) (old new : Cell) (row : LinkRow) (last : Key) → IsPrefix f (chosen_log setting v)
      → IsOnWay script.servers f old new row → at link_cmp filled (id_of row) ≡ Some last → AllFilled v old new (IsToldOf last old)

  module _ (runs : (w.servers y).life.running ≡ true) where
    pub told_before : HasTold own.filled
    told_before f old new row last lies way is before epoch frozen has told =
        let b = known.begun y (id_of row) last is in
        let lies_then = prefix_on b.prefix log (chosen_log setting w) b.lies (was.servers y) in
        let lies_now = prefix_on b.prefix (chosen_log setting w) (chosen_log setting v) lies_then on in
        let all = prefix ++ it.own ∷ [] in
        let map_is : old.map ≡ last.map =
        sym (map_of script.servers (By f) (log_plain script.servers f (plain_at present f lies)) old row way.linked) ∙ sym b.map in
        let three : stage_at (By b.prefix) old ≡ 3 = stage_region (By b.prefix) old (cell_of last) map_is told.region ∙ b.leaves in
        let facts = stage_facts script.servers b.prefix (plain_was b.prefix lies_then) old in
        let h = (log_steady script.servers b.prefix (plain_was b.prefix lies_then)).lives old (facts.alive (omega arith) (omega arith)) in
        let goes = facts.targets three in
        let goal : goes.0 ≡ new = same_goal f b.prefix lies lies_now old new goes.0 way.to goes.1 in
        let id = one_link f b.prefix lies lies_now old row h.row way.linked h.is in
        lift (key_at new epoch)
        (known.filled.told y b.prefix old new h.row last runs lies_then (record { stage = three; to = goes.1 ∙ ap Some goal; linked = h.is })
        (ap (at link_cmp own.filled) (sym id) ∙ is) before epoch (sym (same_frozen b.prefix lies_then old three) ∙ frozen) has told)

    module _ (key : Key) (row : LinkRow) (heard : Handled w y (body.Filled key)) (next : IsNextKey (own_place setting w y) own key row) where
      abbrev here : State
      here = server_state setting w y

      abbrev told_key : Key
      told_key = record { map = row.map; block = key.block; epoch = key.epoch }

      lies : IsPrefix log (chosen_log setting w)
      lies = was.servers y

      lies_v : IsPrefix log (chosen_log setting v)
      lies_v = prefix_on log (chosen_log setting w) (chosen_log setting v) lies on

      -- the cell of the old map from which the key comes
      record HasOld : Type 0 where
        old : Cell
        from : source here (cell_of key) ≡ Some old
        linked : cell_link here old ≡ Some row

      old_of : HasOld
      old_of = elim (some_or_none (source here (cell_of key))) [
        | inl h ↦ record { old = h.0; from = h.1; linked = sym (ap (option_and_then (cell_link here)) h.1) ∙ next.is }
        | inr none ↦ none_some (ap (option_and_then (cell_link here)) none) next.is
      ]

      named : link_named here (id_of row) ≡ Some row
      named = row_named here old_of.old row old_of.linked

      in_region : region_of key.block ≡ next.region
      in_region = ap region_of (sym next.block) ∙ (next_on here row next.region own next.next next.next_is).1

      leaves : stage_at here (cell_of told_key) ≡ 3
      leaves =
          (stage_facts script.servers log (plain_was log lies) (cell_of told_key)).leaves
          (leaves_with here told_key row.map next.region refl in_region (region_left here y row next.region next.moves))

      pub begun_here : HasBegun setting log (id_of row) told_key
      begun_here = record { map = refl; prefix = log; lies = prefix_itself log; leaves = leaves }

      -- of a cell of the link and the region: the key itself, or one that comes before it
      module _ (f : List Command) (old new : Cell) (at_row : LinkRow) (lies_f : IsPrefix f (chosen_log setting v))
          (way : IsOnWay script.servers f old new at_row)
          (id : id_of at_row ≡ id_of row) (region : region_of old.block ≡ region_of key.block) where
        map_is : old.map ≡ row.map
        map_is =
            sym (map_of script.servers (By f) (log_plain script.servers f (plain_at present f lies_f)) old at_row way.linked)
            ∙ ap (λ (i : LinkId). i.map) id

        leaves_old : stage_at here old ≡ 3
        leaves_old = stage_region here old (cell_of told_key) map_is region ∙ leaves

        linked_old : cell_link here old ≡ Some row
        linked_old =
            let facts = stage_facts script.servers log (plain_was log lies) old in
            let three_here = leaves_old in
            let h = (log_steady script.servers log (plain_was log lies)).lives old (facts.alive (omega arith) (omega arith)) in
            let same = one_link f log lies_f lies_v old at_row h.row way.linked h.is in
            let one : h.row ≡ row =
            same_some (sym (row_named here old h.row h.is) ∙ ap (link_named here) (sym same ∙ id) ∙ named) in
            h.is ∙ ap Some one

        ours : IsOurs here row next.region old
        ours = record {
          on = ap (λ o. option_map_or (is_link row.map row.link) o false) linked_old ∙ (λ i. number_itself row.map i && number_itself row.link i);
          of = region ∙ in_region;
        }

        goes_here : target here old ≡ Some new
        goes_here =
            let facts = stage_facts script.servers log (plain_was log lies) old in
            let goes = facts.targets leaves_old in
            goes.1 ∙ ap Some (same_goal f log lies_f lies_v old new goes.0 way.to goes.1)

        -- the key itself
        same_key : old.block ≡ key.block → (epoch : ℕ) → epoch ≡ key.epoch → WasFilled v (key_at new epoch)
        same_key block epoch is =
            let comes = log_comes script.servers log (plain_was log lies) old_of.old (cell_of key) old_of.from in
            let one : old_of.old ≡ old =
            cells_same old_of.old old
            (sym (map_of script.servers here (log_plain script.servers log (plain_was log lies)) old_of.old row old_of.linked) ∙ sym map_is)
            (sym comes.block ∙ sym block) in
            let goal = one_goal present log log lies_v lies_v old new (cell_of key)
            (log_goes script.servers log (plain_was log lies) old new goes_here) (subst (λ (c : Cell). IsMoved here c (cell_of key)) one comes) in
            let key_is : key ≡ key_at new epoch =
            keys_same key (key_at new epoch) (ap (λ (c : Cell). c.map) goal) (ap (λ (c : Cell). c.block) goal) (sym is) in
            lift (key_at new epoch) (record { letter = heard.letter; sent = heard.sent; is = heard.is ∙ ap body.Filled key_is })

        abbrev mover : IsMover setting w y
        mover = record { runs = runs; seat = next.seated; row = row; there = named; region = next.region; moves = next.moves }

        told_here : AllFilled v old new (IsToldOf told_key old)
        told_here before epoch frozen has told = elim (here_or_before (key_at old epoch) told_key map_is told.so) [
          | inl same ↦ same_key (ap (λ (k : Key). k.block) same) epoch (ap (λ (k : Key). k.epoch) same)
          | inr first ↦ (
              let n = next_is here row next.region own next.next next.next_is in
              let chain = had prior known y mover old ours in
              let same : chain_in own.store.chains old ≡ before = same_some (sym (same_frozen log lies old leaves_old ∙ chain) ∙ frozen) in
              let kept : IsKept own old epoch = subst (λ (c : Chain). Has c epoch) (sym same) has in
              let earlier : comes_before (key_at old epoch) next.next ≡ true =
              (λ i. nat_lt old.block (next.block i) || (old.block == next.block i && nat_lt (next.epoch i) epoch)) ∙ first in
              lift (key_at new epoch)
              (known_told prior known y mover old ours new goes_here epoch
              (n.before old epoch ours kept earlier) kept))
        ]

      pub told_now : HasTold (put link_cmp own.filled (id_of row) told_key)
      told_now f old new at_row last lies_f way is = by_bool (eq_by_cmp link_cmp (id_of at_row) (id_of row))
          (λ t.
          let id = same_id (id_of at_row) (id_of row) t in
          let last_is : told_key ≡ last =
          same_some (sym (ap (at link_cmp (put link_cmp own.filled (id_of row) told_key)) id ∙ filled_here own row told_key) ∙ is) in
          subst (λ (k : Key). AllFilled v old new (IsToldOf k old)) last_is (λ before epoch frozen has told.
          told_here f old new at_row lies_f way id told.region before epoch frozen has told))
          (λ apart. told_before f old new at_row last lies_f way (sym (filled_beside own row told_key (id_of at_row) apart) ∙ is))
