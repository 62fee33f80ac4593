use Rattle.std.proofs.Common.{ℕ, List, [], ◌∷◌, ◌++◌, ap, ◌∙◌}
use Rattle.json.specs.Token.{key}
use Rattle.dhat_json.specs.Groups.{run_members, unit_members}
use Rattle.dhat_json.proofs.Added.{adds_then}
use Rattle.dhat_json.proofs.BegunTexts.{begun_none}
use Rattle.dhat_json.proofs.writer.put_begin.Goals as goal

pub returns : goal.returns
returns c =
    let dhat = c.args.dhat.now in
    begun_none dhat c.args.out.now c.begin_object.new.self c.put_run.new.out c.key.new.self c.begin_array.new.self
    c.requires.empty.0 c.requires.empty.1
    c.in_ok-begin_object.ensures.room.0 c.in_ok-begin_object.ensures.ok
    (adds_then _ _ _ (unit_members dhat) (run_members dhat) c.in_ok-put_units.ensures c.in_ok-put_run.ensures)
    c.in_ok-key.ensures.room.0
    (c.in_ok-key.ensures.ok ∙ ap (λ (name : List ℕ). c.put_run.new.out.tokens ++ key name ∷ []) c.name.ensures.name)
    c.in_ok-begin_array.ensures.room.0 c.in_ok-begin_array.ensures.ok
