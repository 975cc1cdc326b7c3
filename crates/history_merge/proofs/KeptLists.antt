-- By stamps each actor's records stand in the order of its own list, and a letter's sender is the one of the lists.
use Rattle.std.proofs.Common.{◌≡◌, ℕ, List, [], ◌∷◌, sym, ap, ◌∙◌, subst, arith}
use Rattle.std.proofs.lemmas.List.Elements.{filter_agree}
use Rattle.std.proofs.lemmas.List.Sorted.{sorted_far}
use Rattle.std.specs.List.Sorted.{IsSorted, IsStable, ties}
use Rattle.std.specs.Prelude.{◌==◌, ◌&&◌, filter, slice_get, slice_index_or}
use Rattle.petal_msg.specs.declared.letter.Actor.TheVariants as actor
use Rattle.petal_msg.specs.declared.letter.Letter.{Letter}
use Rattle.script_lines.specs.declared.script.Script.{Script}
use Rattle.spec_rules.specs.Clients.{Client}
use Rattle.spec_rules.specs.Plans.{Armed, unarmed}
use Rattle.spec_rules.specs.Server.{Server}
use Rattle.spec_rules.specs.World.{Setting, setting_of, start}
use Rattle.spec_history.specs.Failures.{ComeTo}
use Rattle.spec_history.specs.declared.record.Record.{Record}
use Rattle.law_merge.specs.Alone.{IsAlone, IsAloneClient, acted_by, is_by_client, is_by_server, of_client, of_server, reacted_by}
use Rattle.history_merge.specs.Order.{record_cmp}
use Rattle.history_merge.specs.Recorded.{first_by, is_sender, recorded_as}
use Rattle.history_merge.specs.Runs.{AreOwn}
use Rattle.history_merge.proofs.Firsts.{first_filtered}
use Rattle.history_merge.proofs.Orders.{before, client_ties, mark, not_before, server_ties, tie_sender, weak}
use Rattle.history_merge.proofs.RisingLists.{Rise, at, fuse, rise_filter, rise_from, unique}

abbrev stamp_of : Record → ℕ
stamp_of own = own.stamp

-- ### An actor's own list

alone_rises : (setting : Setting) (n : ℕ) (server : Server) (clock : ℕ) (records : List Record) → IsAlone setting n server clock records
    → Rise stamp_of clock records
alone_rises setting n server clock [] h = tt
alone_rises setting n server clock (own ∷ later) h =
    let stamp = h.0.stamp in
    (omega arith, alone_rises setting n (acted_by setting n server own.step).server own.stamp later h.1)

client_rises : (setting : Setting) (c : ℕ) (client : Client) (clock : ℕ) (records : List Record) → IsAloneClient setting c client clock records
    → Rise stamp_of clock records
client_rises setting c client clock [] h = tt
client_rises setting c client clock (own ∷ later) h =
    let stamp = h.0.stamp in
    (omega arith, client_rises setting c (reacted_by setting c client own.step).client own.stamp later h.1)

-- ### By stamps

module _ (xs ys : List Record) (sorted : IsSorted record_cmp ys) (stable : IsStable record_cmp xs ys) where
  stamps_rise : Rise stamp_of 0 ys
  stamps_rise = rise_from stamp_of 0 ys
      (λ i j d le less. not_before (slice_index_or ys j d).stamp (slice_index_or ys i d).stamp _ (sorted_far before weak ys sorted i j d le less))
      (λ d some. omega arith)

  at_server : (n stamp : ℕ) (zs : List Record) → at stamp_of stamp (of_server n zs) ≡ filter (ties before (mark (actor.Server n) stamp)) zs
  at_server n stamp zs =
      fuse (λ own. own.stamp == stamp) (λ own. is_by_server n own.actor) zs
      ∙ filter_agree (λ own. is_by_server n own.actor && (own.stamp == stamp)) (ties before (mark (actor.Server n) stamp)) (server_ties n stamp) zs

  at_client : (c stamp : ℕ) (zs : List Record) → at stamp_of stamp (of_client c zs) ≡ filter (ties before (mark (actor.Client c) stamp)) zs
  at_client c stamp zs =
      fuse (λ own. own.stamp == stamp) (λ own. is_by_client c own.actor) zs
      ∙ filter_agree (λ own. is_by_client c own.actor && (own.stamp == stamp)) (ties before (mark (actor.Client c) stamp)) (client_ties c stamp) zs

  same_server : (n low : ℕ) → Rise stamp_of low (of_server n xs) → of_server n xs ≡ of_server n ys
  same_server n low up =
      unique stamp_of low 0 (of_server n xs) (of_server n ys) up (rise_filter stamp_of (λ own. is_by_server n own.actor) 0 ys stamps_rise)
      (λ stamp. at_server n stamp xs ∙ sym (stable (mark (actor.Server n) stamp)) ∙ sym (at_server n stamp ys))

  same_client : (c low : ℕ) → Rise stamp_of low (of_client c xs) → of_client c xs ≡ of_client c ys
  same_client c low up =
      unique stamp_of low 0 (of_client c xs) (of_client c ys) up (rise_filter stamp_of (λ own. is_by_client c own.actor) 0 ys stamps_rise)
      (λ stamp. at_client c stamp xs ∙ sym (stable (mark (actor.Client c) stamp)) ∙ sym (at_client c stamp ys))

  pub own_kept : (script : Script) → AreOwn script xs → AreOwn script ys
  own_kept script own =
      let setting = setting_of script in
      let server : (n : ℕ) → of_server n xs ≡ of_server n ys =
      λ n. same_server n 0 (alone_rises setting n ((start setting).servers n) 0 (of_server n xs) (own.servers n)) in
      record {
        servers = λ n. subst (IsAlone setting n ((start setting).servers n) 0) (server n) (own.servers n);
        clients = λ c. subst (IsAloneClient setting c ((start setting).clients c) 0)
            (same_client c 0 (client_rises setting c ((start setting).clients c) 0 (of_client c xs) (own.clients c))) (own.clients c);
        planned = λ n. subst (λ (zs : List Record). (left : Armed) × ComeTo n unarmed zs left) (server n) (own.planned n);
      }

  senders : (letter : Letter) (zs : List Record) → filter (is_sender letter) zs ≡ filter (ties before (mark letter.from letter.stamp)) zs
  senders letter zs = filter_agree (is_sender letter) (ties before (mark letter.from letter.stamp)) (λ own. sym (tie_sender letter own)) zs

  pub recorded_kept : (letter : Letter) → recorded_as ys letter ≡ recorded_as xs letter
  recorded_kept letter =
      let f = λ (own : Record). slice_get own.sent letter.nth in
      sym (first_filtered (is_sender letter) f ys)
      ∙ ap (first_by (is_sender letter) f) (senders letter ys ∙ stable (mark letter.from letter.stamp) ∙ sym (senders letter xs))
      ∙ first_filtered (is_sender letter) f xs
