use Rattle.std.proofs.Common.{◌≡◌, ◌-◌, ◌<◌, [], ◌∷◌, length, Some, None, refl, sym, ap, ap₂, ◌∙◌, arith}
use Rattle.json.specs.Json.{after_end_array, read_key, value}
use Rattle.json.specs.Reads.{token_of}
use Rattle.json.proofs.Grammar.{left_none, left_some, left-parse_map, read_key-shorter, value_is}
use Rattle.serde_json.specs.Data.{no_members, item, put}
use Rattle.serde_json.specs.Read.{of_json, converted}
use Rattle.dhat_json.proofs.AheadTurns.{item_read, item_refused, items_over, member_read, member_refused, key_refused}
use Rattle.dhat_json.proofs.AheadTurns.{members_over}
use Rattle.dhat_json.specs.Ahead.{behind, value_ahead}
use Rattle.dhat_json.proofs.AheadLemmas.{behind_array, behind_object, boolean_ahead, nothing_ahead, null_ahead}
use Rattle.dhat_json.proofs.AheadLemmas.{number_in, number_out, string_ahead}
use Rattle.dhat_json.proofs.pass.+pass.Goals as goal

pub pass_items-items-init : goal.pass_items-items-init
pass_items-items-init t c = (length c.args.reader.now, omega arith, refl, omega arith)

pub pass_items-items-preserved : goal.pass_items-items-preserved
pass_items-items-preserved t c =
    let p = value c.args.depth in
    let l = c.items in
    let n = l.invariant.0 in
    let going : (after_end_array l.reader ≡ None) × (c.take_end_array.new.self ≡ l.reader) = grind arith in
    let less : length c.pass_value.new.reader < length l.reader = rw (← going.1) c.in_ok-pass_value.ensures.shorter in
    let passed : behind (value_ahead c.args.depth l.reader) ≡ Some c.pass_value.new.reader =
    rw (← going.1) c.in_ok-pass_value.ensures.passed in
    let d = left_some (value_ahead c.args.depth l.reader) c.pass_value.new.reader passed in (
      n - 1,
      omega (arith, l.invariant.1),
      l.invariant.2 ∙ ap behind (item_read p n l.reader _ d.0 (omega (arith, l.invariant.1)) going.0 d.1)
          ∙ left-parse_map (item d.0) _,
      omega (arith, l.invariant.3),
    )

pub pass_items-returns-in_err-pass_value-clause-passed : goal.pass_items-returns-in_err-pass_value-clause-passed
pass_items-returns-in_err-pass_value-clause-passed t c =
    let l = c.items in
    let going : (after_end_array l.reader ≡ None) × (c.take_end_array.new.self ≡ l.reader) = grind arith in
    grind (
      arith,
      l.invariant.2
          ∙ ap behind
          (item_refused (value c.args.depth) l.invariant.0 l.reader going.0
          (left_none _ (rw (← going.1) c.in_err-pass_value.ensures.passed))),
    )

pub pass_items-returns-clause-passed : goal.pass_items-returns-clause-passed
pass_items-returns-clause-passed t c =
    let l = c.items in
    l.invariant.2
    ∙ ap behind
    (items_over (value c.args.depth) l.invariant.0 l.reader c.take_end_array.new.self l.invariant.1 (grind arith))

pub pass_members-members-init : goal.pass_members-members-init
pass_members-members-init t c = (length c.args.reader.now, omega arith, no_members, refl, omega arith)

pub pass_members-returns-in_err-next_key-clause-passed : goal.pass_members-returns-in_err-next_key-clause-passed
pass_members-returns-in_err-next_key-clause-passed t c =
    let l = c.members in
    let none =
    l.invariant.3
    ∙ ap behind
    (key_refused (value c.args.depth) l.invariant.2 l.invariant.0 l.reader c.in_err-next_key.ensures.value) in
    grind (arith, none)

pub pass_members-members-preserved : goal.pass_members-members-preserved
pass_members-members-preserved t c =
    let p = value c.args.depth in
    let l = c.members in
    let n = l.invariant.0 in
    let k = c.in-Some.field-0.now in
    let s = c.next_key.new.self in
    let named : read_key l.reader ≡ Some (Some k, s) = grind arith in
    let less = read_key-shorter l.reader (Some k) s named in
    let lesser = c.in_ok-pass_value.ensures.shorter in
    let d = left_some (value_ahead c.args.depth s) _ c.in_ok-pass_value.ensures.passed in (
      n - 1,
      omega (arith, l.invariant.1),
      put k d.0 l.invariant.2,
      l.invariant.3
          ∙ ap behind (member_read p l.invariant.2 n k l.reader s _ d.0 (omega (arith, l.invariant.1)) named d.1),
      omega (arith, l.invariant.4),
    )

pub pass_members-returns-in_err-pass_value-clause-passed : goal.pass_members-returns-in_err-pass_value-clause-passed
pass_members-returns-in_err-pass_value-clause-passed t c =
    let l = c.members in
    let k = c.in-Some.field-0.now in
    let named : read_key l.reader ≡ Some (Some k, c.next_key.new.self) = grind arith in
    let none =
    l.invariant.3
    ∙ ap behind
    (member_refused (value c.args.depth) l.invariant.2 l.invariant.0 k l.reader c.next_key.new.self named
    (left_none _ c.in_err-pass_value.ensures.passed)) in
    grind (arith, none)

pub pass_members-returns-clause-passed : goal.pass_members-returns-clause-passed
pass_members-returns-clause-passed t c =
    let l = c.members in
    l.invariant.3
    ∙ ap behind
    (members_over (value c.args.depth) l.invariant.2 l.invariant.0 l.reader c.next_key.new.self l.invariant.1
    (grind arith))

pub pass_value-returns-in_err-token-clause-passed : goal.pass_value-returns-in_err-token-clause-passed
pass_value-returns-in_err-token-clause-passed t c =
    let empty : c.args.reader.now ≡ [] = grind arith in
    let none = ap behind (ap (value_ahead c.args.depth) empty ∙ nothing_ahead c.args.depth) in
    grind (arith, none)

pub pass_value-returns-in-String-clause-passed : goal.pass_value-returns-in-String-clause-passed
pass_value-returns-in-String-clause-passed t c =
    let first : c.args.reader.now ≡ token_of c.in_ok-token.token ∷ c.next.new.self = grind arith in
    ap behind (ap (value_ahead c.args.depth) (first ∙ ap (λ k. token_of k ∷ c.next.new.self) c.in-String.is)
    ∙ string_ahead c.args.depth _ _)

pub pass_value-returns-in-Bool-clause-passed : goal.pass_value-returns-in-Bool-clause-passed
pass_value-returns-in-Bool-clause-passed t c =
    let first : c.args.reader.now ≡ token_of c.in_ok-token.token ∷ c.next.new.self = grind arith in
    ap behind (ap (value_ahead c.args.depth) (first ∙ ap (λ k. token_of k ∷ c.next.new.self) c.in-Bool.is)
    ∙ boolean_ahead c.args.depth _ _)

pub pass_value-returns-in-Null-clause-passed : goal.pass_value-returns-in-Null-clause-passed
pass_value-returns-in-Null-clause-passed t c =
    let first : c.args.reader.now ≡ token_of c.in_ok-token.token ∷ c.next.new.self = grind arith in
    ap behind (ap (value_ahead c.args.depth) (first ∙ ap (λ k. token_of k ∷ c.next.new.self) c.in-Null.is)
    ∙ null_ahead c.args.depth _)

pub pass_value-returns-in-EndObject-clause-passed : goal.pass_value-returns-in-EndObject-clause-passed
pass_value-returns-in-EndObject-clause-passed t c =
    let first : c.args.reader.now ≡ token_of c.in_ok-token.token ∷ c.next.new.self = grind arith in
    let none : value c.args.depth c.args.reader.now ≡ None =
    rw (value_is c.args.depth c.args.reader.now, first) (grind arith) in
    ap behind (ap (converted of_json) none)

pub pass_value-returns-then-depth-eq0-clause-passed : goal.pass_value-returns-then-depth-eq0-clause-passed
unfolding value
pass_value-returns-then-depth-eq0-clause-passed t c =
    let first : c.args.reader.now ≡ token_of c.in_ok-token.token ∷ c.next.new.self = grind arith in
    let none : c.args.depth ≡ 0 = omega arith in
    ap behind (ap₂ value_ahead none (first ∙ ap (λ k. token_of k ∷ c.next.new.self) c.in-BeginArray.is))

pub pass_value-returns-else-depth-eq0-clause-passed : goal.pass_value-returns-else-depth-eq0-clause-passed
pass_value-returns-else-depth-eq0-clause-passed t c =
    let first : c.args.reader.now ≡ token_of c.in_ok-token.token ∷ c.next.new.self = grind arith in
    let opened = first ∙ ap (λ k. token_of k ∷ c.next.new.self) c.in-BeginArray.is in
    rw (behind_array c.args.depth _ c.next.new.self opened (omega arith)) c.pass_items.ensures.passed

pub pass_value-returns-then-depth-eq0-2-clause-passed : goal.pass_value-returns-then-depth-eq0-2-clause-passed
unfolding value
pass_value-returns-then-depth-eq0-2-clause-passed t c =
    let first : c.args.reader.now ≡ token_of c.in_ok-token.token ∷ c.next.new.self = grind arith in
    let none : c.args.depth ≡ 0 = omega arith in
    ap behind (ap₂ value_ahead none (first ∙ ap (λ k. token_of k ∷ c.next.new.self) c.in-BeginObject.is))

pub pass_value-returns-else-depth-eq0-2-clause-passed : goal.pass_value-returns-else-depth-eq0-2-clause-passed
pass_value-returns-else-depth-eq0-2-clause-passed t c =
    let first : c.args.reader.now ≡ token_of c.in_ok-token.token ∷ c.next.new.self = grind arith in
    let opened = first ∙ ap (λ k. token_of k ∷ c.next.new.self) c.in-BeginObject.is in
    rw (behind_object c.args.depth _ c.next.new.self opened (omega arith)) c.pass_members.ensures.passed

pub pass_value-returns-then-is_in_range-clause-passed : goal.pass_value-returns-then-is_in_range-clause-passed
pass_value-returns-then-is_in_range-clause-passed t c =
    let first : c.args.reader.now ≡ token_of c.in_ok-token.token ∷ c.next.new.self = grind arith in
    ap behind (ap (value_ahead c.args.depth) (first ∙ ap (λ k. token_of k ∷ c.next.new.self) c.in-Number.is)
    ∙ number_in c.args.depth _ _ (sym c.is_in_range.ensures ∙ c.if-is_in_range.true))

pub pass_value-returns-else-is_in_range-clause-passed : goal.pass_value-returns-else-is_in_range-clause-passed
pass_value-returns-else-is_in_range-clause-passed t c =
    let first : c.args.reader.now ≡ token_of c.in_ok-token.token ∷ c.next.new.self = grind arith in
    ap behind (ap (value_ahead c.args.depth) (first ∙ ap (λ k. token_of k ∷ c.next.new.self) c.in-Number.is)
    ∙ number_out c.args.depth _ _ (sym c.is_in_range.ensures ∙ c.if-is_in_range.false))
