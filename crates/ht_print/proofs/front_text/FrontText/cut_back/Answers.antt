use Rattle.std.proofs.Common.{rules, ◌≡◌, ◌++◌, ℕ, List, map, reverse, ap, ◌∙◌, refl, append-nil, arith}
use Rattle.ht_print.specs.FlameWalk.{front_at, last_text}
use Rattle.ht_print.proofs.FrontTexts.{path-room, room-kept}
use Rattle.ht_print.proofs.front_text.FrontText.cut_back.Goals as goal

pub climb-between-requires : goal.climb-between-requires
climb-between-requires c = record {
  tree_is = c.requires.tree_is;
  apart = search rules;
  held = c.upwards.invariant.between.at_held;
  held_above = c.upwards.invariant.between.above_held;
  room = λ lower.
      let whole = c.upwards.self.path.ok in
      let room =
      path-room c.args.tree.now c.args.n c.upwards.self c.upwards.between c.requires.tree_is c.requires.held
      c.upwards.invariant.between c.upwards.invariant.room lower in
      omega (arith, whole, room);
}

pub upwards-init : goal.upwards-init
upwards-init c =
    let tree = c.args.tree.now in
    record {
      between = record {
        at_held = c.requires.text.within;
        above_held = c.requires.held;
        text_of = c.requires.text.text;
        path_to =
            ap (λ (ns : List ℕ). front_at tree c.args.n ++ map (last_text tree) (reverse ns)) c.clear.ensures.items
            ∙ append-nil (front_at tree c.args.n);
        path_held = search rules;
      };
      room = room-kept tree c.args.self.now _ (record { text = refl; path = c.clear.ensures.capacity }) c.requires.room;
    }

pub upwards-preserved : goal.upwards-preserved
upwards-preserved c = record {
  between = c.climb-between.ensures.between c.args.n c.upwards.invariant.between;
  room =
      room-kept c.args.tree.now c.upwards.self c.climb-between.new.self c.climb-between.ensures.room
      c.upwards.invariant.room;
}

pub returns : goal.returns
returns c =
    let tree = c.args.tree.now in
    let now = c.upwards.invariant.between in
    let met : c.upwards.between.at ≡ c.upwards.between.above = omega arith in
    record {
      left = record {
        front = front_at tree c.upwards.between.at;
        text_of = now.text_of;
        path_to = ap (λ (k : ℕ). front_at tree k ++ map (last_text tree) c.reverse.new.self.items) met
            ∙ ap (λ (ns : List ℕ). front_at tree c.upwards.between.above ++ map (last_text tree) ns)
            c.reverse.ensures.items
            ∙ now.path_to;
        path_held = search rules;
      };
      room =
          room-kept tree c.upwards.self _ (record { text = refl; path = c.reverse.ensures.capacity })
          c.upwards.invariant.room;
    }
