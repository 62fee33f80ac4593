use Rattle.std.proofs.Common.{rules, ◌≡◌, ℕ, List, [], ◌∷◌, ◌++◌, length, ap, ◌∙◌, arith, append_assoc, length-append}
use Rattle.record_book.specs.NodeNumbers.{with_suffixes}
use Rattle.hp_num.proofs.Laws.{extends_trans}
use Rattle.record_book.proofs.NodeLemmas.{continues-trans, put-more}
use Rattle.record_book.proofs.node_lines.put_nodes.Goals as goal

-- a list that is parted before its last element, and then more
parted : (whole inner left outer : List ℕ) (ip : ℕ) → whole ≡ left ++ outer → left ≡ inner ++ ip ∷ []
    → whole ≡ inner ++ ip ∷ outer
parted whole inner left outer ip is last =
    is ∙ ap (λ (xs : List ℕ). xs ++ outer) last ∙ append_assoc inner (ip ∷ []) outer

pub returns-in_err-parent-clause-grown : goal.returns-in_err-parent-clause-grown
returns-in_err-parent-clause-grown c =
    let before = c.loop-ip.invariant in
    let ip = c.in-Some.ip.now in
    let rest = c.next.new.self.iter.rest.now in
    let whole =
    ap length
    (parted c.args.ips.now rest c.loop-ip.ip-iterator.iter.rest.now before.0 ip before.1 c.in-Some.ensures.steps)
    ∙ length-append rest (ip ∷ before.0) in
    record {
      continues =
          continues-trans c.args.nodes.now c.loop-ip.nodes c.put_node.new.nodes before.5
          c.in_err-parent.ensures.grown.continues;
      few_more = omega (arith, before.4, c.in_err-parent.ensures.grown.few_more, whole, c.requires.few_ips);
      held = search rules;
    }

pub loop-ip-preserved : goal.loop-ip-preserved
loop-ip-preserved c =
    let before = c.loop-ip.invariant in
    let ip = c.in-Some.ip.now in (
      ip ∷ before.0,
      parted c.args.ips.now c.next.new.self.iter.rest.now c.loop-ip.ip-iterator.iter.rest.now before.0 ip before.1
          c.in-Some.ensures.steps,
      λ known are.
          put-more known before.0 c.loop-ip.nodes c.put_node.new.nodes c.loop-ip.parent c.in_ok-parent.parent ip
          c.args.text.now.items c.loop-ip.text.items c.put_node.new.text.items
          (before.2 known are)
          (c.in_ok-parent.ensures.next (with_suffixes known before.0) (before.2 known are).numbered),
      c.in_ok-parent.ensures.grown.held,
      omega (arith, before.4, c.in_ok-parent.ensures.grown.few_more),
      continues-trans c.args.nodes.now c.loop-ip.nodes c.put_node.new.nodes before.5
          c.in_ok-parent.ensures.grown.continues,
      extends_trans c.args.text.now.items c.loop-ip.text.items c.put_node.new.text.items before.6
          c.in_ok-parent.ensures.kept,
    )

pub returns-in_err-parent-clause-kept : goal.returns-in_err-parent-clause-kept
returns-in_err-parent-clause-kept c =
    extends_trans c.args.text.now.items c.loop-ip.text.items c.put_node.new.text.items c.loop-ip.invariant.6
    c.in_err-parent.ensures.kept

pub returns-clause-kept : goal.returns-clause-kept
returns-clause-kept c = c.loop-ip.invariant.6
