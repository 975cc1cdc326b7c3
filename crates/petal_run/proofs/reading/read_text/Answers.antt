use Rattle.std.proofs.Common.{◌≡◌, ◌+◌, length, min, arith}
use Rattle.petal_run.proofs.Prefixes.{read-front, read-rest, vec-front}
use Rattle.petal_run.proofs.reading.read_text.Goals as goal
use Rattle.petal_script.specs.Script.{longest_script}

pub returns-clause-bytes : goal.returns-clause-bytes
returns-clause-bytes g c = λ told.
    let n = c.in_ok-count.count in
    let into = c.read_full.new.into in
    let length_is : length c.deref_mut.result.now ≡ longest_script + 1 = grind (arith, c.deref_mut.ensures.len, c.in_ok-text.ensures) in
    let count_is : n ≡ min (longest_script + 1) (length (g.R.Source.left c.args.source.now)) = rw (← length_is) (c.in_ok-count.ensures.count told) in
    let same : length into ≡ length c.deref_mut.result.now = c.read_full.auto.into in
    rw (
      c.truncate.ensures.items,
      vec-front c.in_ok-text.text.len n into c.in_ok-text.text.items (rw same c.in_ok-count.ensures.fits)
          (grind (arith, same, c.deref_mut.ensures.len)),
    )
    (read-front (longest_script + 1) n (g.R.Source.left c.args.source.now) (g.R.Source.left c.read_full.new.source) c.deref_mut.result.now into count_is
    (c.in_ok-count.ensures.takes told))

pub returns-clause-rest : goal.returns-clause-rest
returns-clause-rest g c = λ told.
    let length_is : length c.deref_mut.result.now ≡ longest_script + 1 = grind (arith, c.deref_mut.ensures.len, c.in_ok-text.ensures) in
    let count_is : c.in_ok-count.count ≡ min (longest_script + 1) (length (g.R.Source.left c.args.source.now)) =
    rw (← length_is) (c.in_ok-count.ensures.count told) in
    read-rest (longest_script + 1) c.in_ok-count.count (g.R.Source.left c.args.source.now)
    (g.R.Source.left c.read_full.new.source) c.deref_mut.result.now c.read_full.new.into count_is (c.in_ok-count.ensures.takes told)
