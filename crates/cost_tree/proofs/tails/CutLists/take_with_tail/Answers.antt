use Rattle.std.proofs.Common.{◌≡◌, ℕ, List, [], ◌∷◌, ◌++◌, take, get_or, refl, sym, ap, ◌∙◌, subst, append_assoc}
use Rattle.std.proofs.lemmas.List.{take-map}
use Rattle.std.proofs.lemmas.Result.{on_ok_weaker}
use Rattle.cost_tree.specs.CostLines.{FrontLine}
use Rattle.cost_tree.specs.Tails.{shown_list, tail_lines}
use Rattle.cost_tree.specs.Texts.{lists_of, text_of, texts_of}
use Rattle.cost_tree.proofs.Tailing.{texts-get}
use Rattle.cost_tree.proofs.tails.CutLists.take_with_tail.Goals as goal

pub returns : goal.returns
returns g c =
    let lists = c.args.self.now in
    let names = lists.names.now in
    let whole = lists.whole.now in
    let depth = lists.depth in
    let numbers : List ℕ = get_or whole c.args.list [] in
    let tail : List (List ℕ) = shown_list depth (lists_of names whole) c.args.list in
    let texts : texts_of names c.deref.result.now ≡ tail =
    ap (λ (ns : List ℕ). texts_of names ns) (c.deref.ensures.value ∙ c.in_ok-list_into.ensures.numbers)
    ∙ sym (take-map (text_of names) depth numbers)
    ∙ ap (λ (xs : List (List ℕ)). take depth xs) (sym (texts-get names whole c.args.list)) in
    record {
      taken = on_ok_weaker c.take_tail.result
          (λ taken front_line first lines shown before.
          let line : FrontLine =
          record { level = front_line.level; children = 1; cost = front_line.cost; shown = front_line.shown } in
          let made : List FrontLine =
          tail_lines (texts_of names c.deref.result.now) c.args.line.cost c.args.line.level in
          let made_is : made ≡ tail_lines tail front_line.cost front_line.level =
          ap (λ (xs : List (List ℕ)). tail_lines xs c.args.line.cost c.args.line.level) texts
          ∙ ap (λ (cost : ℕ). tail_lines tail cost c.args.line.level) shown.cost
          ∙ ap (λ (level : ℕ). tail_lines tail front_line.cost level) shown.level in
          subst (λ (ls : List FrontLine). g.T.FrontLineTaker.takes names first ls c.take_tail.new.taker)
          (append_assoc lines (line ∷ []) made ∙ ap (λ (ls : List FrontLine). lines ++ line ∷ ls) made_is)
          (taken first (lines ++ line ∷ [])
          (c.in_ok-take_line.ensures.taken names line first lines
          (record {
            levelled = shown.levelled;
            level = shown.level;
            children = refl;
            cost = shown.cost;
            place = shown.place;
          })
          before)))
          c.take_tail.ensures.taken;
    }
