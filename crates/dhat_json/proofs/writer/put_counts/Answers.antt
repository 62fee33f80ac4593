use Rattle.std.proofs.Common.{◌≡◌, ℕ, Option, subst, rules}
use Rattle.std.specs.Prelude.{codes}
use Rattle.std.specs.Option.{option_map}
use Rattle.std.proofs.lemmas.Result.{on_ok_weaker}
use Rattle.dhat_json.specs.declared.profile.Access.{Access}
use Rattle.dhat_json.specs.Adds.{Adds}
use Rattle.dhat_json.specs.DhatValue.{optional_whole}
use Rattle.dhat_json.proofs.Added.{adds_then}
use Rattle.dhat_json.proofs.writer.put_counts.Goals as goal

pub returns : goal.returns
returns c =
    let read : c.map.result ≡ option_map (λ (access : Access). access.rb) c.args.point.now.access = search rules in
    let first =
    subst (λ (n : Option ℕ). Adds c.args.out.now c.put_optional_whole.new.out (optional_whole (codes "rb") n)) read
    c.in_ok-put_optional_whole.ensures in
    on_ok_weaker c.put_whole-2.result
    (λ last. adds_then _ _ _ _ _ first (adds_then _ _ _ _ _ c.in_ok-put_whole.ensures last)) c.put_whole-2.ensures
