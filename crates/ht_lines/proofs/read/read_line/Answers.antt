-- The line by its first byte and the rest, test by test.
use Rattle.std.proofs.Common.{◌≡◌, ◌≢◌, ◌<◌, ◌≤◌, ◌-◌, ◌∙◌, ℕ, true, false, cond, List, [], ◌∷◌, length, get_or, take}
use Rattle.std.proofs.Common.{drop, take_all, Ok, Err, arith, refl, sym, ap, subst}
use Rattle.std.specs.Prelude.{IfOk}
use borrow.Author.Tests.{ne_eqb}
use Rattle.ht_lines.specs.declared.item.Form.{Form}
use Rattle.ht_lines.specs.declared.item.Malformed.TheVariants.{BadField, NotRaw}
use Rattle.ht_lines.specs.Content.{comment_line, other_line}
use Rattle.ht_lines.specs.Fields.{field_ends}
use Rattle.ht_lines.specs.ItemContent.{HasTail}
use Rattle.ht_lines.specs.Kinds.{is_foreign, is_kind}
use Rattle.ht_lines.specs.Reading.{reading, reading_kind}
use Rattle.ht_lines.proofs.read.read_line.Goals as goal

empty : (form : Form) (version : ℕ) (line : List ℕ) → length line < 1 → reading form version line ≡ Ok (other_line line)
unfolding reading
empty form version [] few = refl
empty form version (b ∷ rest) few = absurd (omega arith)

rest_is : (line : List ℕ) → 1 ≤ length line → take (length line - 1) (drop 1 line) ≡ drop 1 line
rest_is [] some = absurd (omega arith)
rest_is (b ∷ rest) some = take_all (length (b ∷ rest) - 1) rest (omega arith)

parts : (line : List ℕ) → 1 ≤ length line → line ≡ get_or line 0 0 ∷ take (length line - 1) (drop 1 line)
parts [] some = absurd (omega arith)
parts (b ∷ rest) some = ap (λ (r : List ℕ). b ∷ r) (sym (rest_is (b ∷ rest) some))

comment : (form : Form) (version kind : ℕ) (rest : List ℕ) → kind ≡ 35
    → reading form version (kind ∷ rest) ≡ Ok (comment_line rest)
unfolding reading
comment form version kind rest is = rw is refl

foreign : (form : Form) (version kind : ℕ) (rest : List ℕ) → kind ≢ 35 → is_foreign form kind ≡ true
    → reading form version (kind ∷ rest) ≡ Err NotRaw
unfolding reading
foreign form version kind rest other is = rw (ne_eqb kind 35 other, is) refl

unknown : (form : Form) (version kind : ℕ) (rest : List ℕ) → kind ≢ 35 → is_foreign form kind ≡ false
    → is_kind kind ≡ false
    → reading form version (kind ∷ rest) ≡ Ok (other_line (kind ∷ rest))
unfolding reading
unknown form version kind rest other here is = rw (ne_eqb kind 35 other, here, is) refl

known : (form : Form) (version kind : ℕ) (rest : List ℕ) → kind ≢ 35 → is_foreign form kind ≡ false
    → is_kind kind ≡ true
    → reading form version (kind ∷ rest) ≡ (cond (field_ends rest) (reading_kind form version kind rest) (Err BadField))
unfolding reading
known form version kind rest other here is = rw (ne_eqb kind 35 other, here, is) refl

pub returns-in_default-clause-exact : goal.returns-in_default-clause-exact
returns-in_default-clause-exact c = empty c.args.form c.args.version c.args.line.now c.in_default.len_below

pub returns-then-kind-eq35-clause-exact : goal.returns-then-kind-eq35-clause-exact
returns-then-kind-eq35-clause-exact c =
    ap (reading c.args.form c.args.version) (parts c.args.line.now c.in-len1-up.len_at_least)
    ∙ comment c.args.form c.args.version _ _ c.if-kind-eq35.true

pub returns-then-is_foreign-clause-exact : goal.returns-then-is_foreign-clause-exact
returns-then-is_foreign-clause-exact c =
    ap (reading c.args.form c.args.version) (parts c.args.line.now c.in-len1-up.len_at_least)
    ∙ foreign c.args.form c.args.version _ _ c.if-kind-eq35.false (sym c.is_foreign.ensures ∙ c.if-is_foreign.true)

pub returns-then-not-is_kind-clause-exact : goal.returns-then-not-is_kind-clause-exact
returns-then-not-is_kind-clause-exact c =
    let whole = parts c.args.line.now c.in-len1-up.len_at_least in
    ap (reading c.args.form c.args.version) whole
    ∙ unknown c.args.form c.args.version _ _ c.if-kind-eq35.false (sym c.is_foreign.ensures ∙ c.if-is_foreign.false)
    (sym c.is_kind.ensures ∙ c.if-not-is_kind.true)
    ∙ ap (λ (line : List ℕ). Ok (other_line line)) (sym whole)

pub returns-then-not-field_ends-clause-exact : goal.returns-then-not-field_ends-clause-exact
returns-then-not-field_ends-clause-exact c =
    let no_end = sym c.field_ends.ensures ∙ c.if-not-field_ends.true in
    ap (reading c.args.form c.args.version) (parts c.args.line.now c.in-len1-up.len_at_least)
    ∙ known c.args.form c.args.version _ _ c.if-kind-eq35.false (sym c.is_foreign.ensures ∙ c.if-is_foreign.false)
    (sym c.is_kind.ensures ∙ c.if-not-is_kind.false)
    ∙ rw no_end refl

pub returns-clause-exact : goal.returns-clause-exact
returns-clause-exact c =
    let ends = sym c.field_ends.ensures ∙ c.if-not-field_ends.false in
    let is =
    ap (reading c.args.form c.args.version) (parts c.args.line.now c.in-len1-up.len_at_least)
    ∙ known c.args.form c.args.version _ _ c.if-kind-eq35.false (sym c.is_foreign.ensures ∙ c.if-is_foreign.false)
    (sym c.is_kind.ensures ∙ c.if-not-is_kind.false) in
    rw (is, ends) c.read_kind.ensures.exact

pub returns-clause-tail : goal.returns-clause-tail
returns-clause-tail c =
    subst (λ (rest : List ℕ). IfOk c.read_kind.result (λ item. HasTail c.args.version rest item))
    (rest_is c.args.line.now c.in-len1-up.len_at_least) c.read_kind.ensures.tail
