use Rattle.std.proofs.Common.{◌≡◌, Result, sym, ap, ◌∙◌, subst}
use Rattle.std.proofs.lemmas.Option.{same_Some}
use Rattle.dhat_json.specs.declared.fault.DhatFault.{DhatFault}
use Rattle.dhat_json.specs.declared.key.Key.TheVariants.{Pps}
use Rattle.dhat_json.specs.declared.profile.Dhat.{Dhat}
use Rattle.dhat_json.specs.declared.shape.Shape.{Shape}
use Rattle.dhat_json.specs.Document.{dhat_in_some}
use Rattle.dhat_json.specs.Front.{shape_in}
use Rattle.dhat_json.specs.Gathered.{HasGathered}
use Rattle.dhat_json.specs.ProfileIn.{list_at}
use Rattle.dhat_json.specs.Reads.{Answers}
use Rattle.dhat_json.proofs.ProfileFindings.{shape_is}
use Rattle.dhat_json.proofs.reader.read_text_whole.Goals as goal

pub returns-then-fits-clause-exact : goal.returns-then-fits-clause-exact
returns-then-fits-clause-exact c =
    let read = c.in_ok-front.ensures.read in
    let gathered = c.in_ok-front.gathered in
    let shape = c.shape-shape in
    let is =
    shape_is shape.result c.in_ok-front.front read.value shape.ensures.bklt shape.ensures.bkacc shape.ensures.frames
    read.says.says in
    let points =
    subst (λ (s : Shape). HasGathered (record gathered { shape = s }) (list_at Pps read.value)) is
    (c.fits.ensures c.if-fits.true (list_at Pps read.value) read.points) in
    subst (λ (answer : Result Dhat DhatFault). Answers c.with_points.result answer) (sym (ap dhat_in_some read.is))
    (c.with_points.ensures.exact read.value read.says points)

pub returns-clause-exact : goal.returns-clause-exact
returns-clause-exact c =
    let first = c.in_ok-front.ensures.read in
    let read = c.in_ok-front-2.ensures.read in
    let gathered = c.in_ok-front-2.gathered in
    let shape = c.shape-shape in
    let same : first.value ≡ read.value = same_Some first.value read.value (sym first.is ∙ read.is) in
    let is : shape.result ≡ shape_in read.value =
    shape_is shape.result c.in_ok-front.front first.value shape.ensures.bklt shape.ensures.bkacc shape.ensures.frames
    first.says.says
    ∙ ap shape_in same in
    let points =
    subst (λ (s : Shape). HasGathered (record gathered { shape = s }) (list_at Pps read.value)) (read.shape ∙ is)
    read.points in
    subst (λ (answer : Result Dhat DhatFault). Answers c.with_points-2.result answer) (sym (ap dhat_in_some read.is))
    (c.with_points-2.ensures.exact read.value read.says points)
