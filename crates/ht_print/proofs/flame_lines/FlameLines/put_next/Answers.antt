use Rattle.std.proofs.Common.{◌≡◌, ℕ, ◌<◌, ◌++◌, List, length, get_or, sym, ap, subst, ◌∙◌, arith}
use Rattle.ht_print.specs.FlameLines.{FlameState, HasLine, line_at}
use Rattle.ht_print.specs.FlameText.{flame_rest}
use Rattle.ht_print.specs.FlameWalk.{front_at}
use Rattle.ht_print.proofs.FlameLineLemmas.{line-is, next-line}
use Rattle.ht_print.proofs.flame_lines.FlameLines.put_next.Goals as goal

pub returns-clause-given : goal.returns-clause-given
returns-clause-given c =
    let tree = c.self.inside.tree in
    let nodes : List ℕ = c.self.inside.nodes.items in
    let given = c.self.inside.given in
    let more = c.if-self-len.false in
    let count = c.len.ensures in
    let whole = c.self.inside.nodes.ok in
    let within : given < length nodes = omega (arith, more, count, whole) in
    let n : ℕ = c.index-n.result.now in
    let same : get_or nodes given n ≡ n = sym c.index-n.ensures in
    let has = subst (λ (k : ℕ). HasLine tree k) same (c.self.invariant.lines given n within) in
    let text = c.go_to.ensures.text.text ∙ ap (λ (k : ℕ). flame_rest (front_at tree k)) c.go_to.ensures.node in
    record {
      given = line_at tree n;
      appended =
          c.in_ok-put_line.ensures.appended
          ∙ ap (λ (bytes : List ℕ). c.args.out.now.items ++ bytes)
          (line-is tree n c.node.result c.path.result.now has c.node.ensures.node
          (c.path.ensures.path (front_at tree n) text));
      left = ap (λ (state : FlameState). state.rest) (sym c.self.view_is) ∙ next-line tree nodes given n within same;
    }
