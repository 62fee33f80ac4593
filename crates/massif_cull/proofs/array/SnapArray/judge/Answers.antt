use Rattle.std.proofs.Common.{◌≡◌, ◌∙◌, refl, rules}
use Rattle.massif_cull.specs.declared.snapshot.Taken.TheVariants.{No, Normal, Detailed}
use Rattle.massif_cull.specs.ArrayState.{IsSound}
use Rattle.massif_cull.specs.TakenAs.{taken_as}
use Rattle.massif_cull.proofs.Standing.{stands-push, stands-taken}
use Rattle.massif_cull.proofs.Taking.{none-kept}
use Rattle.massif_cull.proofs.array.SnapArray.judge.Goals as goal

pub returns-then-is_last_in_turn-clause-of_offers : goal.returns-then-is_last_in_turn-clause-of_offers
returns-then-is_last_in_turn-clause-of_offers g c =
    let taken : Detailed ≡ taken_as c.args.self.now.settings c.args.self.now.kept c.args.offer.now = search rules in
    λ offers stands. taken ∙ stands-taken c.args.self.now offers c.args.offer.now stands

pub returns-clause-of_offers : goal.returns-clause-of_offers
returns-clause-of_offers g c =
    let taken : Normal ≡ taken_as c.args.self.now.settings c.args.self.now.kept c.args.offer.now = search rules in
    λ offers stands. taken ∙ stands-taken c.args.self.now offers c.args.offer.now stands

pub returns-then-offer-clause-passed : goal.returns-then-offer-clause-passed
returns-then-offer-clause-passed g c =
    let taken : No ≡ taken_as c.args.self.now.settings c.args.self.now.kept c.args.offer.now = search rules in
    let sound : IsSound c.args.self.now = search rules in
    λ none offers stands. stands-push c.args.self.now c.args.self.now offers c.args.offer.now refl
    (none-kept c.args.self.now c.args.offer.now sound taken) stands

pub returns-then-offer-self-2-clause-passed : goal.returns-then-offer-self-2-clause-passed
returns-then-offer-self-2-clause-passed g c =
    let taken : No ≡ taken_as c.args.self.now.settings c.args.self.now.kept c.args.offer.now = search rules in
    let sound : IsSound c.args.self.now = search rules in
    λ none offers stands. stands-push c.args.self.now c.args.self.now offers c.args.offer.now refl
    (none-kept c.args.self.now c.args.offer.now sound taken) stands
