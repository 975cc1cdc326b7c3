-- What a job sends of copies.
use Rattle.law_copies.proofs.Imports.{[], ◌<◌, ◌∙◌, ◌≡◌, Body, Bool, Cell, Copying, Did, Ends_fill, In, IsCopying, Is_synced, JobContext, JobResult, LastCopy}
use Rattle.law_copies.proofs.Imports.{LinkId, LinkRow, Moves, Moves_on, None, Option, PairState, Post, Says, Some, Stored, Syncs, Tells_page, Trims, about}
use Rattle.law_copies.proofs.Imports.{above, among_least, ap, cell_holder, cell_link, chain_in, ended, epochs_beyond, epochs_of, false, filter, holder_of}
use Rattle.law_copies.proofs.Imports.{in_filter, is_between, last_copy, least, letters_of_job, link_named, live, logged_apart, marked_blocks, refl, same_some}
use Rattle.law_copies.proofs.Imports.{slice_get, subject_of, subst, sym, true, true_false, ℕ}
use Rattle.law_jobs.specs.Sayings.{Ends}
use Rattle.law_copies.specs.CopyProgress.{IsOfLink, IsTold, HasTrimmed, HasSent, HasPut}
use Rattle.law_copies.proofs.LeftToCopy.{marked_on}
use Rattle.law_copies.proofs.MuteLettersTellNothing.{told_mute, ended_mute, moved_mute}
use Rattle.petal_msg.specs.declared.body.Body.TheVariants as body
use Rattle.law_jobs.specs.Sayings as says

abbrev pub is_page : Body → Bool
is_page (body.Hello map link after block) = true
is_page _ = false

-- what a page tells
abbrev pub page_map : Body → ℕ
page_map (body.Hello map link after block) = map
page_map _ = 0

abbrev pub page_link : Body → ℕ
page_link (body.Hello map link after block) = link
page_link _ = 0

abbrev pub page_after : Body → Option ℕ
page_after (body.Hello map link after block) = after
page_after _ = None

abbrev pub page_block : Body → Option ℕ
page_block (body.Hello map link after block) = block
page_block _ = None

pageless : {A : Type 0} (said : Body) → is_between (subject_of said) ≡ false → is_page said ≡ true → A
pageless (body.Hello map link after block) mute page = true_false refl mute
pageless _ mute page = true_false page refl

module _ (heard : Body → Type 0) (here : JobContext) (own : PairState) where
  -- ### Copies

  -- what is told of copies of the cell, where each of these letters is
  module _ (row : LinkRow) (vh vo : Option PairState) (cell : Cell) (new : PairState)
      (trims : (copy : Copying) → IsCopying heard here own cell new copy → copy.trimmed ≡ false
      → IsTold row vh vo (body.Trim copy.op cell (epochs_of (chain_in new.store.chains cell))))
      (trimmed : (last : LastCopy) (holder : ℕ) → cell_holder here cell ≡ Some holder → last_copy new cell ≡ Some last
      → epochs_beyond new cell last.epochs ≡ [] → HasTrimmed vo cell last.op)
      (syncs : (copy : Copying) (entry : ℕ × Stored) → IsCopying heard here own cell new copy → copy.trimmed ≡ true
      → slice_get (chain_in new.store.chains cell) copy.index ≡ Some entry → HasSent row vh vo cell copy.op copy.index entry)
      (synced : (number index holder : ℕ) (last : LastCopy) → cell_holder here cell ≡ Some holder → last_copy new cell ≡ Some last → number ≡ last.op
      → index < last.index → HasPut vo cell number index) where
    abbrev T : Body → Type 0
    T = IsTold row vh vo

    pub telling : (post : Post) → Says heard here own new post → (about post.body).cell ≡ Some cell → T post.body
    telling _ (Trims c copy to copies fresh so) e =
        subst (λ (q : Cell). IsCopying heard here own q new copy → T (body.Trim copy.op q (epochs_of (chain_in new.store.chains q)))) (sym (same_some e))
        (λ s. trims copy s fresh) copies
    telling _ (says.Is_trimmed c last holder held is none) e =
        subst (λ (q : Cell). cell_holder here q ≡ Some holder → last_copy new q ≡ Some last → epochs_beyond new q last.epochs ≡ [] → HasTrimmed vo q last.op)
        (sym (same_some e)) (trimmed last holder) held is none
    telling _ (Syncs c copy entry to copies on spot so) e =
        subst (λ (q : Cell). IsCopying heard here own q new copy → slice_get (chain_in new.store.chains q) copy.index ≡ Some entry
        → HasSent row vh vo q copy.op copy.index entry) (sym (same_some e)) (λ s. syncs copy entry s on) copies spot
    telling _ (Is_synced entry holder last later of is number lt) e =
        subst (λ (q : Cell). cell_holder here q ≡ Some holder → last_copy new q ≡ Some later → HasPut vo q entry.op entry.index) (sym (same_some e))
        (λ held now. synced entry.op entry.index holder later held now (of.op_is ∙ sym number) lt) of.held is
    telling _ (says.Refuses to said is busy held) e = told_mute row vh vo said (ap is_between is.refused)
    telling _ (says.Repeats want last same h lead is so) e = told_mute row vh vo _ (ended_mute want.seq last.ending)
    telling _ (Ends client last why is) e = told_mute row vh vo _ (ended_mute last.seq last.ending)
    telling _ (Ends_fill op how to ended is none so) e = told_mute row vh vo _ (moved_mute op.key how)
    telling post (Moves _ same next) e = told_mute row vh vo post.body (ap (λ (p : Post). is_between (subject_of p.body)) next.is)
    telling post (Moves_on key of _ same h is next) e = told_mute row vh vo post.body (ap (λ (p : Post). is_between (subject_of p.body)) next.is)
    telling post (says.Of_the_log _ logged) e = told_mute row vh vo post.body (logged_apart (subject_of post.body) logged)
    telling _ _ e = tt

  -- ### Pages

  -- a page is sent to the holder of a link that is found by its name, and leaves the server's own part
  pub record IsAnswered (done : JobResult) (said : Body) : Type 0 where
    pub id : LinkId
    pub row : LinkRow
    pub after : Option ℕ
    pub named : link_named here.state id ≡ Some row
    pub holder : ℕ
    pub held : holder_of here.me row ≡ Some holder
    pub is : said ≡ body.Hello row.map row.link after (least (filter (above after) (marked_blocks here.state row own)))
    pub same : done.own ≡ own

  page_answered : (done : JobResult) (post : Post) → Says heard here own done.own post → is_page post.body ≡ true → IsAnswered done post.body
  page_answered done _ (Tells_page id row after to same h named held) f =
      record { id = id; row = row; after = after; named = named; holder = to; held = held; is = refl; same = same }
  page_answered done _ (says.Refuses to said is busy held) f = pageless said (ap is_between is.refused) f
  page_answered done _ (says.Repeats want last same h lead is e) f = pageless _ (ended_mute want.seq last.ending) f
  page_answered done _ (Ends client last why is) f = pageless _ (ended_mute last.seq last.ending) f
  page_answered done _ (Ends_fill op how to ended is none lead) f = pageless _ (moved_mute op.key how) f
  page_answered done post (Moves _ same next) f = pageless post.body (ap (λ (p : Post). is_between (subject_of p.body)) next.is) f
  page_answered done post (Moves_on key row _ same h is next) f = pageless post.body (ap (λ (p : Post). is_between (subject_of p.body)) next.is) f
  page_answered done post (says.Of_the_log _ logged) f = pageless post.body (logged_apart (subject_of post.body) logged) f
  page_answered done _ _ f = true_false f refl

  pub page_sent : (done : JobResult) → Did heard here own done → (post : Post) → In post done.posts → (map link : ℕ) (after block : Option ℕ)
      → post.body ≡ body.Hello map link after block → IsAnswered done post.body
  page_sent done d post i map link after block e =
      page_answered done post (letters_of_job heard here own done d post i) (ap is_page e)

  -- a page that is sent tells of a block of its own link
  pub pages_sent : (done : JobResult) → Did heard here own done → (post : Post) → In post done.posts → (map link block : ℕ) (after : Option ℕ)
      → post.body ≡ body.Hello map link after (Some block) → IsOfLink here.state (record { map = map; block = block }) link
  pages_sent done d post i map link block after e =
      let p = page_sent done d post i map link after (Some block) e in
      let same = sym p.is ∙ e in
      let map_is : p.row.map ≡ map = ap page_map same in
      let link_is : p.row.link ≡ link = ap page_link same in
      let block_is : least (filter (above p.after) (marked_blocks here.state p.row own)) ≡ Some block = ap page_block same in
      let among = among_least (filter (above p.after) (marked_blocks here.state p.row own)) block block_is in
      let on = marked_on here.state p.id p.row own block p.named
      (in_filter (above p.after) (marked_blocks here.state p.row own) block among).0 in
      record {
        lives = (λ j. live here.state (record { map = sym map_is j; block = block })) ∙ on.lives;
        row = p.row;
        is = (λ j. cell_link here.state (record { map = sym map_is j; block = block })) ∙ on.is;
        link_is = link_is;
      }
