use Rattle.std.proofs.Common.{arith}
use Rattle.massif_sample.proofs.GrossSizes.{gross-by_bits, gross-least, gross-most, some-alignment}
use Rattle.massif_sample.proofs.options.MassifOptions.gross.Goals as goal

pub returns-clause-exact : goal.returns-clause-exact
returns-clause-exact c = gross-by_bits c.args.self.now c.args.size c.requires.options

pub returns-clause-least : goal.returns-clause-least
returns-clause-least c =
    let exact = gross-by_bits c.args.self.now c.args.size c.requires.options in
    let least = gross-least c.args.self.now c.args.size (some-alignment c.args.self.now c.requires.options) in
    omega arith

pub returns-clause-most : goal.returns-clause-most
returns-clause-most c =
    let exact = gross-by_bits c.args.self.now c.args.size c.requires.options in
    let most = gross-most c.args.self.now c.args.size c.requires.options in
    omega arith
