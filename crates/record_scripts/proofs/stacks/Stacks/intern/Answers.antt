use Rattle.std.proofs.Common.{◌≡◌, ℕ, Option, arith, subst}
use Rattle.ht_lines.specs.Fields.{numbers}
use Rattle.ht_lines.specs.Written.{AreWords}
use Rattle.record_scripts.specs.KnownText.{IsSaid}
use Rattle.record_scripts.proofs.KnownLemmas.{known-new, slots-grown}
use Rattle.record_scripts.proofs.TableLemmas.{are-words}
use Rattle.record_scripts.proofs.stacks.Stacks.intern.Goals as goal

pub invariant_of-self-in-None : goal.invariant_of-self-in-None
invariant_of-self-in-None c =
    let said : c.args.ips.now ≡ numbers c.args.text.now =
    subst (λ (known : Option ℕ). IsSaid c.args.self.now c.args.text.now known c.args.ips.now) c.in-None.is
    c.requires.read.said in
    c.learn.ensures c.intern.new.nodes
    (slots-grown c.self.inside.nodes c.intern.new.nodes c.intern.ensures.continues
    c.self.inside.known.slots.items c.self.invariant)
    (known-new c.self.inside.nodes c.intern.new.nodes c.args.text.now c.args.ips.now c.in_ok-node-in-None.node
    c.in_ok-node-in-None.ensures said c.requires.read.good
    (are-words c.args.ips.now (λ i. let fits = c.type_inv.ips i in omega arith)))

pub returns-in_ok-node-in-None-clause-words : goal.returns-in_ok-node-in-None-clause-words
returns-in_ok-node-in-None-clause-words c =
    subst AreWords
    (subst (λ (known : Option ℕ). IsSaid c.args.self.now c.args.text.now known c.args.ips.now) c.in-None.is
    c.requires.read.said)
    (are-words c.args.ips.now (λ i. let fits = c.type_inv.ips i in omega arith))
