-- A job changes at most one chain: that of an operation that is pending here, of one whose lead asked to follow, or of a cell whose
-- link the other server holds alone, and copies to this one.
use Rattle.law_moves.proofs.Imports.{[], ◌+◌, ◌<◌, ◌∙◌, ◌∷◌, ◌≡◌, ◌≢◌, ◌≤◌, A_lead, A_new_copy, A_sweep, An_operation, As_it_is, Body, Cell, Chain, Did}
use Rattle.law_moves.proofs.Imports.{Effect, Entry, IsDroppedFor, IsPutFor, IsSeatedOrMute, JobContext, JobResult, Key, LastCopy, List, May, Named, Noted}
use Rattle.law_moves.proofs.Imports.{Option, PairState, Pending, Puts, Some, Store, Stored, Table, Taken, The_last_copy, ap, applied, arith, at, at_same}
use Rattle.law_moves.proofs.Imports.{by_bool, cell_holder, cell_of, chain_apart, chain_in, chain_put, chains_ahead, chains_with, cond, drop_apart, drop_none}
use Rattle.law_moves.proofs.Imports.{entry_ahead, epochs_beyond, false, inl, inr, is_eq, is_in, is_second, job_keeps, key_at, last_copy, last_on, live}
use Rattle.law_moves.proofs.Imports.{lookup, max, nat_cmp, none_some, pending_on, put, refl, same_some, subst, sym, true, version_of, without_entry, ℕ}
use Rattle.std.specs.BTreeMap.{is_at}
use Rattle.petal_msg.specs.declared.body.Body.TheVariants as body
use Rattle.petal_msg.specs.declared.operation.FollowProgress.TheVariants as follow_progress
use Rattle.law_jobs.specs.Effects as effect

-- an operation that is pending here was put
pub record PutsOwn (own : PairState) (new : Table Cell Chain) : Type 0 where
  pub op : Pending
  pub is : pending_on own op.cell ≡ Some op
  pub fresh : op.stage.put ≡ false
  pub entry : Stored
  pub bytes : entry.bytes ≡ op.bytes
  pub chains : new ≡ chains_with own.store.chains op.key entry

-- the second server has put what it was asked to
pub record PutsAsked (heard : Body → Type 0) (here : JobContext) (own : PairState) (new : Table Cell Chain) : Type 0 where
  pub number : ℕ
  pub key : Key
  pub version : ℕ
  pub origin : Option Named
  pub bytes : List ℕ
  pub asked : heard (body.Replicate number key version origin bytes)
  pub seat : is_in here.state here.me here.inc ≡ true
  pub seconds : is_second here.state here.me (cell_of key) ≡ true
  pub last : last_on own (cell_of key) ≡ Some (record { op = number; progress = follow_progress.Reserved })
  pub entry : Stored
  pub put : entry.bytes ≡ bytes
  pub chains : new ≡ chains_with own.store.chains key entry

-- what a copy does to the chain of a cell: an entry is put that the holder sent, in its turn; or one goes that the holder has not, by a
-- copy that is new here, or by the last one
pub data CopiesSo (heard : Body → Type 0) (own : PairState) (cell : Cell) (chains : Table Cell Chain) : Type 0 where
  Is_put : (entry : Entry) (last : LastCopy) → cell_of entry.key ≡ cell
      → heard (body.Sync entry.op entry.key entry.stored.version entry.index entry.stored.bytes) → last_copy own cell ≡ Some last
      → entry.op ≡ last.op
      → entry.index ≡ last.index → chains ≡ chains_with own.store.chains entry.key entry.stored → CopiesSo heard own cell chains
  Is_dropped_first : (number : ℕ) (epochs : List ℕ) (epoch : ℕ) → heard (body.Trim number cell epochs)
      → ((last : LastCopy) → last_copy own cell ≡ Some last → last.op < number)
      → chains ≡ (without_entry own.store (key_at cell epoch)).chains
      → CopiesSo heard own cell chains
  Is_dropped : (last : LastCopy) (epoch : ℕ) (epochs : List ℕ) → last_copy own cell ≡ Some last
      → epochs_beyond own cell last.epochs ≡ epoch ∷ epochs
      → chains ≡ (without_entry own.store (key_at cell epoch)).chains → CopiesSo heard own cell chains

pub record PutsCopy (heard : Body → Type 0) (here : JobContext) (own : PairState) (new : Table Cell Chain) : Type 0 where
  pub cell : Cell
  pub holder : ℕ
  pub held : cell_holder here cell ≡ Some holder
  pub seat : is_in here.state here.me here.inc ≡ true
  pub how : CopiesSo heard own cell new

-- another cell's chain stays
pub copied_apart : (heard : Body → Type 0) (own : PairState) (cell : Cell) (chains : Table Cell Chain) → CopiesSo heard own cell chains
    → (q : Cell) → q ≢ cell
    → chain_in chains q ≡ chain_in own.store.chains q
copied_apart heard own cell chains (Is_put entry last e h is number index same) q ne =
    ap (λ c. chain_in c q) same ∙ chain_apart own.store.chains (cell_of entry.key) _ q (λ f. ne (f ∙ e))
copied_apart heard own cell chains (Is_dropped_first number epochs epoch h newer same) q ne =
    ap (λ c. chain_in c q) same ∙ drop_apart own.store (key_at cell epoch) q ne
copied_apart heard own cell chains (Is_dropped last epoch epochs is beyond same) q ne =
    ap (λ c. chain_in c q) same ∙ drop_apart own.store (key_at cell epoch) q ne

-- something goes of a cell that is not live
pub record Drops (here : JobContext) (own : PairState) (new : Table Cell Chain) : Type 0 where
  pub cell : Cell
  pub seat : is_in here.state here.me here.inc ≡ true
  pub off : live here.state cell ≡ false
  pub others : (q : Cell) → q ≢ cell → chain_in new q ≡ chain_in own.store.chains q
  pub none : (q : Cell) → chain_in own.store.chains q ≡ [] → chain_in new q ≡ []

pub data StoresSo (heard : Body → Type 0) (here : JobContext) (own : PairState) (chains : Table Cell Chain) : Type 0 where
  Nothing_new : chains ≡ own.store.chains → StoresSo heard here own chains
  An_own : PutsOwn own chains → StoresSo heard here own chains
  An_asked : PutsAsked heard here own chains → StoresSo heard here own chains
  A_copy : PutsCopy heard here own chains → StoresSo heard here own chains
  Of_the_retired : Drops here own chains → StoresSo heard here own chains

-- no operation of a cell that is not live goes on
abbrev pub NeverRetired : JobContext → PairState → Type 0
NeverRetired here own = (now : PairState) (op : Pending) → Taken own now op → live here.state op.cell ≡ false → ⊥

-- the chain with an entry put
pub put_on : (chains : Table Cell Chain) (key : Key) (entry : Stored) (cell : Cell) → cell_of key ≡ cell
    → chain_in (chains_with chains key entry) cell ≡ put nat_cmp (chain_in chains cell) key.epoch entry
put_on chains key entry cell e =
    subst (λ (q : Cell). chain_in (chains_with chains key entry) q ≡ put nat_cmp (chain_in chains q) key.epoch entry) e (chain_put chains (cell_of key) _)

-- what stands in a chain has no greater version than the chain
version_up : (chain : Chain) (epoch : ℕ) (entry : Stored) → at nat_cmp chain epoch ≡ Some entry → entry.version ≤ version_of chain
unfolding at
version_up [] epoch entry is = none_some refl is
version_up (row ∷ later) epoch entry is =
    elim (is_eq (nat_cmp epoch row.0)) as (λ b. (lookup (is_at (nat_cmp epoch)) later ≡ Some entry → entry.version ≤ version_of later)
    → cond b (Some row.1) (lookup (is_at (nat_cmp epoch)) later) ≡ Some entry → entry.version ≤ max row.1.version (version_of later)) [
      | true ↦ λ on e. (let same : row.1.version ≡ entry.version = ap (λ (s : Stored). s.version) (same_some e) in omega arith)
      | false ↦ λ on e. (let le = on e in omega arith)
    ] (version_up later epoch entry) is

-- a put makes another chain, since its version is a new one
pub not_ahead : (own : PairState) (cell : Cell) (op : Pending) → cell_of op.key ≡ cell
    → chain_in (chains_ahead own cell op) cell ≡ chain_in own.store.chains cell → ⊥
not_ahead own cell op keyed equal =
    let chain = chain_in own.store.chains cell in
    let entry : Stored = record { version = version_of chain + 1; bytes = op.bytes } in
    let made = sym (put_on own.store.chains op.key entry cell keyed) ∙ equal in
    let le : version_of chain + 1 ≤ version_of chain = version_up chain op.key.epoch entry
    (ap (λ c. at nat_cmp c op.key.epoch) (sym made) ∙ at_same chain op.key.epoch entry) in
    omega arith

module _ (heard : Body → Type 0) (here : JobContext) (own : PairState) (never : NeverRetired here own) where
  abbrev S : Table Cell Chain → Type 0
  S chains = StoresSo heard here own chains

  module _ (seat : is_in here.state here.me here.inc ≡ true) where
    copied : {new : Table Cell Chain} (cell : Cell) (holder : ℕ) → cell_holder here cell ≡ Some holder → CopiesSo heard own cell new → S new
    copied cell holder held how = A_copy (record { cell = cell; holder = holder; held = held; seat = seat; how = how })

    puts_so : (chains : Table Cell Chain) (key : Key) (stored : Stored) (noted : Noted) → IsPutFor heard here own key stored noted
        → chains ≡ own.store.chains → S (chains_with chains key stored)
    puts_so chains _ _ _ (An_operation op reserved paired is fresh why) same =
        let stored = entry_ahead own op.cell op in
        An_own (record {
          op = op;
          is = is;
          fresh = by_bool (live here.state op.cell) (λ on. (fresh on).0) (λ off. absurd (never own op (As_it_is op is) off));
          entry = stored;
          bytes = refl;
          chains = ap (λ c. chains_with c op.key stored) same;
        })
    puts_so chains _ _ _ (A_lead number key told version origin bytes h follows last next) same =
        let stored : Stored = record { version = version; bytes = bytes } in
        An_asked (record {
          number = number;
          key = key;
          version = told;
          origin = origin;
          bytes = bytes;
          asked = h;
          seat = seat;
          seconds = follows;
          last = last;
          entry = stored;
          put = refl;
          chains = ap (λ c. chains_with c key stored) same;
        })
    puts_so chains _ _ _ (effect.A_copy entry holder last of_copy next) same =
        copied (cell_of entry.key) holder of_copy.held
        (Is_put entry last refl of_copy.said of_copy.last_is of_copy.op_is next (ap (λ c. chains_with c entry.key entry.stored) same))

    drops_so : (now : PairState) (store : Store) (key : Key) → IsDroppedFor heard here own now key → store.chains ≡ own.store.chains
        → S (without_entry store key).chains
    drops_so now store _ (A_new_copy number cell epochs epoch new left) same =
        copied cell new.holder new.held
        (Is_dropped_first number epochs epoch new.said new.newer (λ i. (without_entry (record store { chains = same i }) (key_at cell epoch)).chains))
    drops_so now store _ (The_last_copy cell holder last epoch held is kept left) same =
        copied cell holder held
        (Is_dropped last epoch left.later is (ap (λ (o : PairState). epochs_beyond o cell last.epochs) (sym kept) ∙ left.beyond)
        (λ i. (without_entry (record store { chains = same i }) (key_at cell epoch)).chains))
    drops_so now store _ (A_sweep key off) same =
        Of_the_retired (record {
          cell = cell_of key;
          seat = seat;
          off = off;
          others = λ q ne. drop_apart store key q ne ∙ ap (λ c. chain_in c q) same;
          none = λ q empty. drop_none store key q (ap (λ c. chain_in c q) same ∙ empty);
        })

    each : (now : PairState) (e : Effect) → May heard here own now e → S now.store.chains → S (applied now e).store.chains
    each now (Puts key stored noted) may so = puts_so now.store.chains key stored noted may.0 may.1
    each now (effect.Drops key) may so = drops_so now now.store key may.2 may.0
    each now _ may so = so

  -- a server that is not In as itself stores nothing
  pub did_stores : (done : JobResult) → IsSeatedOrMute here own done → Did heard here own done → S done.own.store.chains
  did_stores done (inl seat) = job_keeps heard here own (λ (o : PairState). S o.store.chains) (each seat) (Nothing_new refl) done
  did_stores done (inr apart) = λ did. Nothing_new (ap (λ (o : PairState). o.store.chains) apart.same)
