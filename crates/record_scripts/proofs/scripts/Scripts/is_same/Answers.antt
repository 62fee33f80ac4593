use Rattle.std.proofs.Common.{rules, ◌≡◌, ap, sym, subst, ◌∙◌}
use Rattle.stack_table.specs.AreNodes.{AreNodes}
use Rattle.record_scripts.specs.Job.{Job}
use Rattle.record_scripts.specs.ScriptTurns.{scripts_kept, scripts_numbered}
use Rattle.record_scripts.proofs.SameTurns.{same-kept, same-numbered}
use Rattle.record_scripts.proofs.scripts.Scripts.is_same.Goals as goal

pub returns : goal.returns
returns c =
    let nodes = c.self.inside.stacks in
    let others = c.other.inside.stacks in
    let scripts = c.self.inside.scripts.items in
    let more = c.other.inside.scripts.items in
    let own : scripts_kept nodes scripts ≡ c.args.self.now.scripts = ap (λ (job : Job). job.scripts) c.self.view_is in
    let its : scripts_kept others more ≡ c.args.other.now.scripts = ap (λ (job : Job). job.scripts) c.other.view_is in
    let modules : c.args.self.now.modules ≡ c.args.other.now.modules = search rules in (
      λ is. record {
        same_scripts = sym own
            ∙ same-numbered nodes others scripts more
            (sym c.nodes.ensures ∙ c.are_same_nodes.ensures.same.0 c.if-not-are_same_nodes.false ∙ c.nodes-2.ensures)
            c.self.invariant.held c.other.invariant.held
            (ap scripts_numbered (sym c.deref.ensures.value) ∙ c.are_kept_as.ensures.0 is
            ∙ ap scripts_numbered c.deref-2.ensures.value)
            ∙ its;
        same_modules = modules;
      },
      λ same. c.are_kept_as.ensures.1
          (ap scripts_numbered c.deref.ensures.value
          ∙ (same-kept nodes others scripts more (subst AreNodes c.nodes.ensures c.are_same_nodes.ensures.nodes)
          c.self.invariant.nodes_are c.other.invariant.nodes_are c.self.invariant.held c.other.invariant.held
          (own ∙ same.same_scripts ∙ sym its)).1
          ∙ ap scripts_numbered (sym c.deref-2.ensures.value)),
    )
