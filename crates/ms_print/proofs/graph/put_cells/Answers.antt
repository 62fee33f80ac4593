use Rattle.std.proofs.Common.{◌≡◌, ℕ, ◌+◌, ◌++◌, [], ◌∷◌, List, Option, None, map, get_or, sym, ap, ◌∙◌, arith}
use Rattle.std.proofs.Common.{append_assoc}
use Rattle.std.specs.Option.{option_or}
use Rattle.std.specs.List.{range_with_len}
use Rattle.std.proofs.lemmas.List.FromFn.{map-range_with_len_more}
use Rattle.ms_print.specs.declared.bars.Bar.{Bar}
use Rattle.ms_print.specs.Bars.{bar_in, nearest_bar}
use Rattle.ms_print.specs.Cells.{cell_at, cell_of}
use Rattle.ms_print.specs.GraphText.{row_cells}
use Rattle.ms_print.proofs.BarLemmas.{nearest-more}
use Rattle.ms_print.proofs.graph.put_cells.Goals as goal

pub each_column-preserved : goal.each_column-preserved
each_column-preserved c =
    let column = c.each_column.bar-index in
    let plot = c.args.plot in
    let snaps = c.args.snaps.now in
    let bar : get_or c.args.bars.now column None ≡ bar_in plot snaps (column + 1) =
    c.requires.bars.each column (omega (arith, c.requires.bars.count)) in
    let nearest : c.or-nearest.result ≡ nearest_bar plot snaps (column + 1) =
    c.or-nearest.ensures
    ∙ ap (λ (o : Option Bar). option_or o c.each_column.nearest) bar
    ∙ ap (λ (o : Option Bar). option_or (bar_in plot snaps (column + 1)) o) c.each_column.invariant.nearest
    ∙ sym (nearest-more plot snaps column) in
    let cell : c.cell_of.result ≡ cell_at plot snaps (column + 1) c.args.y =
    c.cell_of.ensures
    ∙ ap (λ (o : Option Bar). cell_of o c.or-nearest.result c.args.y) bar
    ∙ ap (λ (o : Option Bar). cell_of (bar_in plot snaps (column + 1)) o c.args.y) nearest in
    record {
      nearest = nearest;
      written =
          c.in_ok-push.ensures.items
          ∙ ap (λ (out : List ℕ). out ++ c.cell_of.result ∷ []) c.each_column.invariant.written
          ∙ append_assoc c.args.out.now.items (map (λ k. cell_at plot snaps (k + 1) c.args.y) (range_with_len 0 column))
          (c.cell_of.result ∷ [])
          ∙ ap
          (λ (b : ℕ). c.args.out.now.items
          ++ (map (λ k. cell_at plot snaps (k + 1) c.args.y) (range_with_len 0 column) ++ b ∷ []))
          cell
          ∙ ap (λ (cells : List ℕ). c.args.out.now.items ++ cells)
          (sym (map-range_with_len_more (λ k. cell_at plot snaps (k + 1) c.args.y) 0 column column (omega arith)));
    }

pub returns-clause-appended : goal.returns-clause-appended
unfolding row_cells
returns-clause-appended c =
    let all : c.each_column.bar-index ≡ c.args.plot.width = omega (arith, c.requires.bars.count) in
    c.each_column.invariant.written
    ∙ ap (λ (n : ℕ). c.args.out.now.items
    ++ map (λ k. cell_at c.args.plot c.args.snaps.now (k + 1) c.args.y) (range_with_len 0 n)) all
