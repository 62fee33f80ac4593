use Rattle.std.proofs.Common.{◌++◌, ℕ, List, map, sym, ap, ◌∙◌, arith}
use Rattle.ht_print.specs.FlameText.{flame_rest}
use Rattle.ht_print.specs.FlameWalk.{last_text}
use Rattle.ht_print.proofs.FrontTexts.{rest-append, rest-fits, room-kept}
use Rattle.ht_print.proofs.front_text.FrontText.go_to.Goals as goal

pub put_rest-requires-clause-room : goal.put_rest-requires-clause-room
put_rest-requires-clause-room c =
    let fits =
    rest-fits c.args.tree.now c.args.n c.cut_back.new.self c.requires.tree_is c.requires.held c.cut_back.ensures.left
    c.cut_back.ensures.room in
    let path =
    ap (λ (ns : List ℕ). Rattle.std.proofs.Common.length (flame_rest (map (last_text c.args.tree.now) ns)))
    c.deref.ensures.value in
    omega (arith, fits, path)

pub returns-clause-text : goal.returns-clause-text
returns-clause-text c =
    let tree = c.args.tree.now in
    let text : List ℕ = c.cut_back.new.self.text.items in
    let path : List ℕ = c.cut_back.new.self.path.items in
    let left = c.cut_back.ensures.left in
    record {
      within = c.requires.held;
      text = c.put_rest.ensures.appended
          ∙ ap (λ (ns : List ℕ). text ++ flame_rest (map (last_text tree) ns)) c.deref.ensures.value
          ∙ ap (λ (bytes : List ℕ). bytes ++ flame_rest (map (last_text tree) path)) left.text_of
          ∙ sym (rest-append left.front (map (last_text tree) path))
          ∙ ap (λ (texts : List (List ℕ)). flame_rest texts) left.path_to;
    }

pub returns-clause-room : goal.returns-clause-room
returns-clause-room c =
    room-kept c.args.tree.now c.cut_back.new.self _
    (record { text = c.put_rest.ensures.capacity; path = Rattle.std.proofs.Common.refl }) c.cut_back.ensures.room
