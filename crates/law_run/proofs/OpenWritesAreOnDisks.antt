-- A pending operation whose request is open is its client's write of a block of a disk that is chosen.
use Rattle.law_run.proofs.Imports.{◌<◌, ◌∙◌, ◌≡◌, Cell, DiskRow, In, IsOpen, IsWrite, Line, Pending, Some, Write, ap, blocks_in, cell_asked, chosen_state}
use Rattle.law_run.proofs.Imports.{counted, false, line_by, named_cell, open_write, pattern_block, refl, same_some, subst, sym, write_asked, write_by, ℕ}
use Rattle.law_run.proofs.ChosenDisks.{rows_in, disks_now, found_row, plain_now}
use Rattle.law_run.proofs.ContentsByCells.{asked_named}
use Rattle.law_run.proofs.EventsOfServerSteps.{ServerStep, later_world}
use Rattle.law_run.proofs.MachineTakesWrites.{IsGiven, StaysAt, now_kept}
use Rattle.script_lines.specs.declared.request.Request.TheVariants as request

module _ (this : ServerStep) where
  -- the operation's write is its client's open one, of this block
  pub record Placed (op : Pending) (cell : Cell) : Type 0 where
    pub row : DiskRow
    pub there : In row (rows_in this.setting this.w)
    pub block : ℕ
    pub at_block : cell ≡ named_cell row block
    pub write : Write
    pub under_way : open_write this.w op.client ≡ Some write
    pub within : op.client < 9
    pub own : write.client ≡ op.client
    pub disk_is : write.disk ≡ row.name
    pub block_is : write.block ≡ block
    pub bytes_is : write.bytes ≡ op.bytes

  pub placed : (cell : Cell) (op : Pending) → IsWrite (chosen_state this.setting this.w) this.setting.lines op.client op.seq cell op.bytes
      → IsOpen (this.w.clients op.client) op.seq → Placed op cell
  placed cell op wr still =
      let chosen = chosen_state this.setting this.w in
      let a = this.ground.asking.asked op.client still.asked still.is in
      let found = found_row this.setting.servers chosen (plain_now this.setting this.w this.along.firm) wr.name wr.disk wr.found in
      let at = (disks_now this.setting this.w this.along.firm).at found.row found.there in
      let line : a.line ≡ wr.line = same_some (sym a.is ∙ ap (λ i. line_by this.setting.lines op.client i) still.same ∙ wr.is) in
      let asks : still.asked.request ≡ request.Write wr.name wr.block wr.pattern = a.asks ∙ ap (λ (l : Line). l.request) line ∙ wr.asks in
      record {
        row = found.row;
        there = found.there;
        block = wr.block;
        at_block = wr.cell_is ∙ ap (λ d. cell_asked chosen d wr.block false) (sym found.view) ∙ asked_named chosen found.row at wr.block;
        write = record { client = op.client; seq = still.asked.seq; disk = wr.name; block = wr.block; bytes = pattern_block wr.pattern };
        under_way = ap (write_asked op.client) still.is ∙ ap (write_by op.client still.asked.seq) asks;
        within = a.within;
        own = refl;
        disk_is = sym found.name_is;
        block_is = refl;
        bytes_is = sym wr.bytes_is;
      }

  -- where the block has the write's bytes after the step, and its contents at epochs below stay, the write has given them
  pub placed_given : (op : Pending) (cell : Cell) (p : Placed op cell) → now_kept this p.row p.row.epoch p.block ≡ op.bytes
      → ((epoch : ℕ) → epoch < p.row.epoch → StaysAt this p.row epoch p.block) → In p.block (blocks_in this.setting (counted this.setting (later_world this)))
      → IsGiven this p.row p.block
  placed_given op cell p bytes below looked = record {
    write_is = record {
      write = p.write;
      within = subst (λ c. c < 9) (sym p.own) p.within;
      disk_is = p.disk_is;
      block_is = p.block_is;
      bytes_is = p.bytes_is ∙ sym bytes;
    };
    under_way = ap (open_write this.w) p.own ∙ p.under_way;
    below = below;
    looked = looked;
  }
