use Rattle.std.proofs.Common.{◌∷◌, ◌++◌, [], List, sym, refl}
use Rattle.script_lines.specs.declared.script.Script.{Script}
use Rattle.petal_script.specs.Tally.{Tallies, tally_with}
use Rattle.script_lines.specs.declared.request.Line.{Line}
use Rattle.petal_script.proofs.Tallying.{tallies_more, added, line_at}
use Rattle.petal_script.proofs.draft.Draft.add.Goals as goal

pub invariant_of-self-2 : goal.invariant_of-self-2
invariant_of-self-2 c =
    let line : Line = line_at c.self.inside.script c.args.number c.args.client c.args.request in
    let told : Tallies (c.self.inside.script.lines ++ line ∷ []) (tally_with c.self.inside.tally c.args.request) =
    tallies_more c.self.inside.script.lines line c.self.inside.tally c.with-tally.ensures.eight c.self.invariant.tallies in
    record {
      tallies = rw (c.in_ok-push.ensures.ok, c.with-tally.ensures.value) told;
      small = c.if-is_past_limits.ensures.small refl;
      least = c.self.invariant.least;
      most = c.self.invariant.most;
      begun = c.self.invariant.begun;
    }

pub returns-clause-rule : goal.returns-clause-rule
returns-clause-rule c =
    let script : Script = c.self.inside.script in
    let line : Line = line_at c.self.inside.script c.args.number c.args.client c.args.request in
    let all : List Line = c.self.inside.script.lines ++ line ∷ [] in
    let told : Tallies (c.self.inside.script.lines ++ line ∷ []) (tally_with c.self.inside.tally c.args.request) =
    tallies_more c.self.inside.script.lines line c.self.inside.tally c.with-tally.ensures.eight c.self.invariant.tallies in
    let counted : Tallies (c.self.inside.script.lines ++ line ∷ []) c.with-tally.result = rw c.with-tally.ensures.value told in
    rw (← c.self.view_is, c.in_ok-push.ensures.ok) (added c.self.inside.script c.args.number c.args.client c.args.request
    (sym (c.if-is_past_limits.ensures.value all counted)) (sym (c.if-lacks_majority.ensures all counted)))
