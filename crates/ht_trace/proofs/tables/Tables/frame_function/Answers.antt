use Rattle.std.proofs.Common.{Bor, ◌≡◌, ℕ, zero, suc, ◌-◌, ◌≤◌, Bool, false, cond, eqb, List, [], length, get_or}
use Rattle.std.proofs.Common.{Option, Some, None, refl, sym, ap, ◌∙◌, arith, subst, true≢false}
use Rattle.std.specs.Prelude.{is_some, option_and_then, slice_get}
use Rattle.std.specs.Option.{option_copied}
use Rattle.std.proofs.lemmas.Bool.Decides.{nat_tests}
use Rattle.std.proofs.lemmas.Option.{slice_get-get_or}
use Rattle.ht_trace.specs.declared.frame.FrameFound.{FrameFound}
use Rattle.ht_trace.specs.FrameText.{HasNoFunctionAt, frame_at, function_at, string_at}
use Rattle.ht_trace.specs.TableState.{TableState}
use Rattle.ht_trace.proofs.GrowthLemmas.{named-found}
use Rattle.ht_trace.proofs.tables.Tables.frame_function.Goals as goal

-- the name of a frame that is found, or not
abbrev name_of : List (List ℕ) → Option FrameFound → Option (List ℕ)
name_of strings found = option_and_then (λ found. string_at strings found.frame.function) found

pub returns-in_err-found-clause-name : goal.returns-in_err-found-clause-name
unfolding function_at
returns-in_err-found-clause-name c =
    let none = ap (λ (found : Option FrameFound). name_of c.self.inside.strings found) c.in_err-found.ensures in
    rw c.from_residual.ensures (subst (λ (t : TableState). None ≡ function_at t c.args.at.now) c.self.view_is none)

pub returns-clause-name : goal.returns-clause-name
unfolding function_at
returns-clause-name c =
    let name =
    c.text.ensures ∙ ap (λ (found : Option FrameFound). name_of c.self.inside.strings found) c.in_ok-found.ensures in
    subst (λ (t : TableState). option_copied c.text.result ≡ function_at t c.args.at.now) c.self.view_is name

is_some-copied : (o : Option (Bor (List ℕ))) → is_some o ≡ is_some (option_copied o)
is_some-copied None = refl
is_some-copied (Some x) = refl

-- a string that is held has a text
held_text : (strings : List (List ℕ)) (n : ℕ) → n ≤ length strings → is_some (string_at strings n) ≡ false → n ≡ 0
held_text strings zero within none = refl
held_text strings (suc n) within none =
    let here = slice_get-get_or strings (suc n - 1) [] (omega arith) in
    let above : eqb (suc n) 0 ≡ false = grind (arith, nat_tests) in
    let some : string_at strings (suc n) ≡ Some (get_or strings (suc n - 1) []) =
    ap (λ (b : Bool). cond b None (slice_get strings (suc n - 1))) above ∙ here in
    absurd (true≢false (sym (ap (λ (o : Option (List ℕ)). is_some o) some) ∙ none))

no_text : (strings : List (List ℕ)) (n : ℕ) → n ≡ 0 → is_some (string_at strings n) ≡ false
no_text strings n is = rw is refl

pub returns-clause-none : goal.returns-clause-none
returns-clause-none c =
    let table = c.self.inside in
    let found = c.in_ok-found.found in
    let named =
    named-found (length table.strings) table.instructions c.args.at.now.instruction c.args.at.now.index found
    c.self.invariant.named (sym c.in_ok-found.ensures) in
    let P : TableState → Type 0 = λ t. HasNoFunctionAt (frame_at t.instructions c.args.at.now) in
    let Q : Option FrameFound → Type 0 = λ o. HasNoFunctionAt o in
    let same : is_some c.text.result ≡ is_some (string_at table.strings found.frame.function) =
    is_some-copied c.text.result ∙ ap (λ (o : Option (List ℕ)). is_some o) c.text.ensures in (
      (λ none. subst P c.self.view_is
          (subst Q c.in_ok-found.ensures
          (held_text table.strings found.frame.function named.function_held (sym same ∙ none)))),
      (λ none. same
          ∙ no_text table.strings found.frame.function
          (subst Q (sym c.in_ok-found.ensures) (subst P (sym c.self.view_is) none))),
    )
