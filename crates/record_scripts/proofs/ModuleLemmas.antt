-- One line about modules more.
use Rattle.std.proofs.Common.{◌≡◌, ◌≢◌, ◌||◌, eqb, ℕ, Bool, true, false, List, [], ◌∷◌, ◌++◌, refl, ap, sym, ◌∙◌}
use Rattle.std.proofs.Common.{append_assoc, append-nil}
use Rattle.std.specs.List.{list_any}
use Rattle.std.proofs.lemmas.Bool.{eqb-false}
use Rattle.std.proofs.lemmas.List.Elements.{All-cons, All-nil}
use Rattle.ht_lines.specs.Content.{Content}
use Rattle.ht_lines.specs.OneLine.{IsOneLine}
use Rattle.ht_lines.specs.Written.{written}
use Rattle.record_scripts.specs.ModuleLine.{has_line_feed}
use Rattle.record_scripts.specs.ModuleLines.{AreModuleLines, IsModuleSaid, module_lines}
use Rattle.record_scripts.proofs.KeptLemmas.{all-push}

text-push : (all : List Content) (said : Content)
    → module_lines all ++ (written 2 said ++ 10 ∷ []) ≡ module_lines (all ++ said ∷ [])
text-push [] said = sym (append-nil (written 2 said ++ 10 ∷ []))
text-push (first ∷ all) said =
    append_assoc (written 2 first ++ 10 ∷ []) (module_lines all) (written 2 said ++ 10 ∷ [])
    ∙ ap (λ (rest : List ℕ). (written 2 first ++ 10 ∷ []) ++ rest) (text-push all said)

pub none-said : AreModuleLines []
none-said = ([], tt, refl)

pub lines-more : (modules : List ℕ) (said : Content) → AreModuleLines modules → IsModuleSaid said
    → AreModuleLines (modules ++ (written 2 said ++ 10 ∷ []))
lines-more modules said are is = (
  are.0 ++ said ∷ [],
  all-push IsModuleSaid are.0 said are.1 is,
  ap (λ (front : List ℕ). front ++ (written 2 said ++ 10 ∷ [])) are.2 ∙ text-push are.0 said,
)

or-false : (a b : Bool) → (a || b) ≡ false → (a ≡ false) × (b ≡ false)
or-false true b h = absurd (cc)
or-false false b h = (refl, h)

-- a text without a line feed is one line
pub one-line : (text : List ℕ) → has_line_feed text ≡ false → IsOneLine text
one-line [] none = All-nil (λ b. b ≢ 10)
one-line (b ∷ bs) none =
    let both = or-false (eqb b 10) (list_any (λ c. eqb c 10) bs) none in
    All-cons (λ b. b ≢ 10) b bs (eqb-false b 10 both.0) (one-line bs both.1)
