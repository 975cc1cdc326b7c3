use Rattle.std.proofs.Common.{◌≡◌, ◌∙◌, ◌+◌, ◌<◌, ◌++◌, ◌∷◌, [], length, take, sym, ap, subst, arith}
use Rattle.std.proofs.lemmas.List.{length-set, take_more, take_more_set}
use Rattle.data_device.specs.declared.record.StoreRecord.{StoreRecord}
use Rattle.data_device.specs.Device.{AreSpelled, bodies_of}
use Rattle.data_device.proofs.Readings.{bodies_one_more, spelled_more}
use Rattle.data_device.proofs.record_log.spell_all.Goals as goal

pub loop-i-preserved : goal.loop-i-preserved
loop-i-preserved c =
    let i = c.loop-i.i in
    let es = c.args.entries.now in
    let e = c.index-entries-i.result in
    let inside : i < length c.loop-i.into = omega (arith, c.loop-i-test.true, c.requires, c.loop-i.invariant.room) in
    let next : take (i + 1) es ≡ take i es ++ e ∷ [] =
    take_more es i e c.loop-i-test.true ∙ ap (λ (r : StoreRecord). take i es ++ r ∷ []) (sym c.index-entries-i.is) in
    record {
      spelled = take_more_set c.loop-i.into i c.encode.result inside
          ∙ ap (λ l. l ++ c.encode.result ∷ []) c.loop-i.invariant.spelled
          ∙ ap (λ b. bodies_of (take i es) ++ b ∷ []) c.encode.ensures.spelled
          ∙ sym (bodies_one_more (take i es) e)
          ∙ ap bodies_of (sym next);
      fits = subst AreSpelled (sym next) (spelled_more (take i es) e c.loop-i.invariant.fits c.encode.ensures.has_spelling);
      room = length-set c.loop-i.into i c.encode.result ∙ c.loop-i.invariant.room;
    }
