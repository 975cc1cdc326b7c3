-- What a job shows of the requests that it ends: no operation that is left is of one of them.
use Rattle.law_requests.proofs.Imports.{◌+◌, ◌∙◌, ◌≡◌, ◌≤◌, ◌⊎◌, Cell, IsPrefix, PairState, Pending, Setting, Some, State, Wanted, Was, World, ap, arith, at}
use Rattle.law_requests.proofs.Imports.{cell_cmp, inl, inr, is_clients, length, none_some, own_plain, server_state, subst, sym, true, ℕ}
use Rattle.law_requests.specs.AskedRequests.{IsWrite}
use Rattle.law_requests.specs.KnownRequests.{done_by, asked_for, AskingBy}
use Rattle.law_requests.proofs.WritesAtLaterPrefixes.{write_stays}
use Rattle.law_requests.proofs.ServerStepsKeepRequests.{JobTells, Scene, WasOrNew, same_want}
use Rattle.law_requests.proofs.RequestsKnownLater.{one_cell, one_open}
use Rattle.law_requests.proofs.LeadsAtTwoPlaces.{led_stage}
use Rattle.law_requests.proofs.OpenWhileRunning.{PendingHere, here_led, open_running, pending_here}

-- an operation as its server finds it is a write of its cell by the server's own state, too
pub write_now : (scene : Scene) (n : ℕ) (cell : Cell) (op : Pending) → PendingHere scene.setting scene.w scene.lives n (asked_for cell op) op.rev
    → IsWrite (server_state scene.setting scene.w n) scene.setting.lines op.client op.seq cell op.bytes
write_now scene n cell op p =
    let setting = scene.setting in
    let w = scene.w in
    let k = p.known in
    let prefix = k.known.sent.at.prefix in
    let own = (w.servers n).log.applied in
    let plain = own_plain setting w scene.firm n in
    let led = here_led setting w scene.firm scene.lives n (asked_for cell op) op.rev p in
    let at = led_stage setting.servers own plain cell n led.leads in
    write_stays setting.servers prefix own plain (subst (IsPrefix prefix) p.here k.opened) setting.lines op.client op.seq cell
    op.bytes k.known.sent.served at.0 at.1

module _ (scene : Scene) (n : ℕ) (new : PairState) (tells : JobTells scene.setting scene.w scene.lives n new) where
  abbrev setting : Setting
  setting = scene.setting

  abbrev state : State
  state = server_state scene.setting scene.w n

  abbrev w : World
  w = scene.w

  abbrev asking : AskingBy setting w scene.lives
  asking = scene.asking

  abbrev old : PairState
  old = (w.servers n).own

  abbrev P : Cell → Pending → Type 0
  P cell op = PendingHere setting w scene.lives n (asked_for cell op) op.rev

  -- numbers rise, and stay below the client's next
  pub rises : (c : ℕ) → done_by old c ≤ done_by new c
  rises c = elim (tells.finished c) [ inl e ↦ omega arith | inr ends ↦ let b = ends.before in let a = ends.after in omega arith ]

  pub bound_now : (c : ℕ) → done_by new c ≤ (w.clients c).seq + 1
  bound_now c = elim (tells.finished c) [
    | inl same ↦ let b = asking.finished n c in omega arith
    | inr ends ↦ let b = ends.old in let a = ends.after in omega arith
  ]

  -- the operation was pending, or is new
  was_pending : (cell : Cell) (op : Pending) → is_clients op.kind ≡ true → Was old cell op ⊎ P cell op × (op.rev ≡ length (w.servers n).log.applied)
      → P cell op × WasOrNew w n cell op
  was_pending cell op clients (inr p) = (p.0, inr p.1)
  was_pending cell op clients (inl s) =
      let kind = ap is_clients s.same.kind ∙ clients in (
        subst (λ (k : ℕ). PendingHere setting w scene.lives n (asked_for cell op) k) s.same.rev
            (subst (λ (want : Wanted). PendingHere setting w scene.lives n want s.was.rev) (same_want cell s.was op s.same)
            (pending_here setting w scene.firm scene.lives scene.rests asking scene.reports n cell s.was s.is kind)),
        inl s,
      )

  -- and no other that was just finished
  not_past : (cell : Cell) (op : Pending) → at cell_cmp new.pairs.pending cell ≡ Some op → P cell op → done_by new op.client ≤ op.seq
  not_past cell op is p = elim (tells.finished op.client) [
    | inl same ↦ let u = p.known.unfinished in let t = asking.lived.tied n op.client in omega arith
    | inr ends ↦
        let still = open_running setting w scene.firm scene.lives n (asked_for cell op) op.rev p
        (asking.lived.ran n ends.runs) ends.runs in
        let seq : op.seq ≡ ends.seq = one_open (w.clients op.client) op.seq ends.seq still ends.still in
        let write : IsWrite state setting.lines op.client op.seq ends.cell ends.bytes =
        subst (λ i. IsWrite state setting.lines op.client i ends.cell ends.bytes) (sym seq) ends.write in
        let same : cell ≡ ends.cell =
        one_cell state setting.lines op.client op.seq cell ends.cell op.bytes ends.bytes (write_now scene n cell op p) write in
        none_some ends.gone (subst (λ (q : Cell). at cell_cmp new.pairs.pending q ≡ Some op) same is)
  ]

  pub pending_new : (cell : Cell) (op : Pending) → at cell_cmp new.pairs.pending cell ≡ Some op → is_clients op.kind ≡ true
      → P cell op × WasOrNew w n cell op × (done_by new op.client ≤ op.seq)
  pending_new cell op is clients = let p = was_pending cell op clients (tells.pending cell op is clients) in (p.0, p.1, not_past cell op is p.0)
