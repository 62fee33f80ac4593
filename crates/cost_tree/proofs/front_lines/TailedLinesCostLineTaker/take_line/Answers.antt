use Rattle.std.proofs.Common.{◌≡◌, ℕ, List, [], ◌∷◌, ◌++◌, Option, None, Some, map, sym, ap, ◌∙◌, subst}
use Rattle.std.proofs.lemmas.List.{flat_map_more, map_push}
use Rattle.std.proofs.lemmas.List.Elements.{All-pop}
use Rattle.std.proofs.lemmas.Result.{on_ok_weaker}
use Rattle.std.specs.List.{flat_map}
use Rattle.std.specs.Prelude.{All}
use Rattle.cost_tree.specs.declared.line.CostLine.{CostLine}
use Rattle.cost_tree.specs.declared.shown_line.ShownLine.{ShownLine}
use Rattle.cost_tree.specs.declared.tails.CutLists.{CutLists}
use Rattle.cost_tree.specs.CostLines.{FrontLine}
use Rattle.cost_tree.specs.IsShownAs.{IsLevelled, IsShownAs}
use Rattle.cost_tree.specs.Tails.{going_on, with_tail}
use Rattle.cost_tree.specs.Texts.{lists_of}
use Rattle.cost_tree.specs.TreeLines.{line_at}
use Rattle.cost_tree.specs.TreeState.{TreeState}
use Rattle.cost_tree.specs.TreeTails.{first_at, tailed_at}
use Rattle.cost_tree.proofs.Tailing.{going-same}
use Rattle.cost_tree.proofs.front_lines.TailedLinesCostLineTaker.take_line.Goals as goal

-- what a line stands for, where these lists are cut
abbrev stood : CutLists → TreeState → CostLine → List FrontLine
stood lists tree line = tailed_at lists.depth (lists_of lists.names.now lists.whole.now) lists.counts.now tree line

stood-is : (lists : CutLists) (tree : TreeState) (line : CostLine) (found : Option ℕ)
    → found ≡ going_on lists.depth lists.whole.now lists.counts.now (first_at tree line.place) line.level
    → stood lists tree line ≡ with_tail lists.depth (lists_of lists.names.now lists.whole.now) found (line_at tree line)
stood-is lists tree line found is =
    ap (λ (n : Option ℕ). with_tail lists.depth (lists_of lists.names.now lists.whole.now) n (line_at tree line))
    (going-same lists.depth lists.names.now lists.whole.now lists.counts.now (first_at tree line.place) line.level
    ∙ sym is)

-- the lines before it, and those that it stands for
with-line : (lists first : CutLists) (tree : TreeState) (lines : List CostLine) (line : CostLine)
    (given : List FrontLine)
    → lists ≡ first → stood lists tree line ≡ given
    → flat_map (stood first tree) lines ++ given ≡ flat_map (stood first tree) (lines ++ line ∷ [])
with-line lists first tree lines line given same is =
    ap (λ (ls : List FrontLine). flat_map (stood first tree) lines ++ ls)
    (sym is ∙ ap (λ (ls : CutLists). stood ls tree line) same)
    ∙ flat_map_more (stood first tree) [] lines line

levels : (tree : TreeState) (lines : List CostLine) (line : CostLine)
    → All IsLevelled (map (line_at tree) (lines ++ line ∷ []))
    → All IsLevelled (map (line_at tree) lines) × IsLevelled (line_at tree line)
levels tree lines line all =
    All-pop IsLevelled (map (line_at tree) (lines ++ line ∷ [])) (map (line_at tree) lines) (Some (line_at tree line))
    (map_push (line_at tree) lines line) all

-- what is shown by the tree's texts is shown by these
shown-named : {names : List (List ℕ)} (tree : TreeState) → tree.names ≡ names → (shown : ShownLine) (line : FrontLine)
    → IsShownAs tree.names shown line → IsShownAs names shown line
shown-named tree named shown line is = subst (λ (texts : List (List ℕ)). IsShownAs texts shown line) named is

pub returns-in_default : goal.returns-in_default
returns-in_default g c =
    let tree = c.args.tree.now in
    let line = c.args.line in
    let lists = c.args.self.now.lists in
    let is = stood-is lists tree line None c.in_default.ensures.list in
    record {
      taken = on_ok_weaker c.take_line.result
          (λ taken first lines before. (
            before.0,
            (λ begun named none levelled.
                let parts = levels tree lines line levelled in
                let names = first.lists.names.now in
                subst (λ (ls : List FrontLine). g.T.FrontLineTaker.takes names begun ls c.take_line.new.self)
                (with-line lists first.lists tree lines line (line_at tree line ∷ []) before.0 is)
                (taken names (line_at tree line) begun (flat_map (stood first.lists tree) lines)
                (shown-named tree named c.shown_line-shown.result (line_at tree line)
                (c.shown_line-shown.ensures parts.1))
                (before.1 begun named none parts.0))),
          ))
          c.take_line.ensures.taken;
    }

pub returns : goal.returns
returns g c =
    let tree = c.args.tree.now in
    let line = c.args.line in
    let lists = c.args.self.now.lists in
    let is = stood-is lists tree line (Some c.in-Some.list) c.in-Some.ensures.list in
    record {
      taken = on_ok_weaker c.take_with_tail.result
          (λ taken first lines before. (
            before.0,
            (λ begun named none levelled.
                let parts = levels tree lines line levelled in
                let same : first.lists.names.now ≡ lists.names.now =
                ap (λ (ls : CutLists). ls.names.now) (sym before.0) in
                let T : List (List ℕ) → List FrontLine → Type 0 =
                λ names ls. g.T.FrontLineTaker.takes names begun ls c.take_with_tail.new.taker in
                subst (λ (ls : List FrontLine). T first.lists.names.now ls)
                (with-line lists first.lists tree lines line _ before.0 is)
                (subst
                (λ (names : List (List ℕ)). T names
                (flat_map (stood first.lists tree) lines
                ++ with_tail lists.depth (lists_of lists.names.now lists.whole.now) (Some c.in-Some.list)
                (line_at tree line)))
                (sym same)
                (taken (line_at tree line) begun (flat_map (stood first.lists tree) lines)
                (shown-named tree (named ∙ same) c.shown_line-shown.result (line_at tree line)
                (c.shown_line-shown.ensures parts.1))
                (subst
                (λ (names : List (List ℕ)). g.T.FrontLineTaker.takes names begun
                (flat_map (stood first.lists tree) lines) c.args.self.now.taker)
                same (before.1 begun named none parts.0))))),
          ))
          c.take_with_tail.ensures.taken;
    }
