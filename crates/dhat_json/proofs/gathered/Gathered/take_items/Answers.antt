use Rattle.std.proofs.Common.{◌≡◌, ◌-◌, ◌<◌, [], ◌∷◌, ◌++◌, length, None, refl, sym, ap, ◌∙◌, subst, arith}
use Rattle.std.proofs.lemmas.Result.{err_from_is_err_and}
use Rattle.json.specs.Json.{after_end_array, items, parse_map, value}
use Rattle.serde_json.specs.Data.{no_items}
use Rattle.serde_json.specs.Read.{of_items, converted}
use Rattle.dhat_json.specs.Ahead.{TellsNone, items_ahead, value_ahead}
use Rattle.dhat_json.specs.Gathered.{HasGathered, Takes}
use Rattle.dhat_json.proofs.AheadTurns.{item_read, item_refused, items_over}
use Rattle.dhat_json.proofs.Findings.{fault_follows}
use Rattle.dhat_json.proofs.GatheredLemmas.{all_before, items_before, none_before, one_more}
use Rattle.dhat_json.proofs.gathered.Gathered.take_items.Goals as goal

pub items-init : goal.items-init
items-init c = (
  length c.args.reader.now,
  omega arith,
  [],
  none_before (items_ahead 125 c.args.reader.now),
  (λ h. h),
  refl,
  omega arith,
)

pub items-preserved : goal.items-preserved
items-preserved c =
    let p = value 125 in
    let l = c.items in
    let n = l.invariant.0 in
    let done = l.invariant.2 in
    let going : (after_end_array l.reader ≡ None) × (c.take_end_array.new.self ≡ l.reader) = grind arith in
    let r = c.take_next.new.reader in
    let less : length r < length l.reader = rw (← going.1) c.in_ok-take_next.ensures.shorter in
    let next : Takes l.self c.take_next.new.self l.reader r =
    subst (λ ts. Takes l.self c.take_next.new.self ts r) going.1 c.in_ok-take_next.ensures.taken in
    let turn = item_read p n l.reader r next.item (omega (arith, l.invariant.1)) going.0 next.is in (
      n - 1,
      omega (arith, l.invariant.1),
      done ++ next.item ∷ [],
      l.invariant.3 ∙ ap (parse_map (items_before done)) turn
          ∙ one_more done next.item (converted of_items (items p (n - 1) r)),
      (λ none. next.taken done (l.invariant.4 none)),
      c.take_next.ensures.shape ∙ l.invariant.5,
      omega (arith, l.invariant.6),
    )

pub returns-in_err-take_next-clause-fault : goal.returns-in_err-take_next-clause-fault
returns-in_err-take_next-clause-fault c =
    let l = c.items in
    let going : (after_end_array l.reader ≡ None) × (c.take_end_array.new.self ≡ l.reader) = grind arith in
    let q = err_from_is_err_and c.from_residual.result c.from_residual.ensures.1 in
    let fault = c.in_err-take_next.field-0.0 in
    let none = subst (λ ts. TellsNone fault (value_ahead 125 ts)) going.1 c.in_err-take_next.ensures.fault in
    rw (q.1, q.2)
    (fault_follows _ _ fault none
    (λ e. (
      e.0,
      l.invariant.3
          ∙ ap (parse_map (items_before l.invariant.2))
          (item_refused (value 125) l.invariant.0 l.reader going.0 e.1),
    )))

pub returns-clause-taken : goal.returns-clause-taken
returns-clause-taken c =
    let l = c.items in
    let done = l.invariant.2 in
    let r = c.take_end_array.new.self in (
      items_before done no_items,
      l.invariant.3
          ∙ ap (parse_map (items_before done))
          (items_over (value 125) l.invariant.0 l.reader r l.invariant.1 (grind arith)),
      (λ none. subst (HasGathered l.self) (sym (all_before done)) (l.invariant.4 none)),
    )
