-- Lemmas on the texts of flame stacks.
use Rattle.std.proofs.Common.{◌≡◌, ℕ, ◌+◌, ◌<◌, eqb, false, List, [], ◌∷◌, ◌++◌, length, map, take, get_or, refl, sym}
use Rattle.std.proofs.Common.{ap, ◌∙◌, arith, append_assoc, append-nil}
use Rattle.std.specs.Prelude.{codes, decimal}
use Rattle.std.proofs.lemmas.Bool.{cond-false, cond-true, eq-eqb}
use Rattle.std.specs.List.{flat_map}
use Rattle.std.proofs.lemmas.List.{map_push, take_more}
use Rattle.std.proofs.lemmas.Grind.{flat_map-append}
use Rattle.ht_print.specs.FlameText.{flame_byte, flame_line, flame_name, flame_path, flame_rest}

-- no bytes
pub flame_name-none : flame_name [] ≡ []
unfolding flame_name
flame_name-none = refl

-- one byte more
pub flame_name-more : (text : List ℕ) (k : ℕ) (d : ℕ) → k < length text
    → flame_name (take (k + 1) text) ≡ flame_name (take k text) ++ flame_byte (get_or text k d) ∷ []
unfolding flame_name
flame_name-more text k d within =
    ap (λ (bytes : List ℕ). map flame_byte bytes) (take_more text k d within)
    ∙ map_push flame_byte (take k text) (get_or text k d)

-- appended texts, one after the other
pub appended-more : (old now new some more all : List ℕ) → now ≡ old ++ some → new ≡ now ++ more → all ≡ some ++ more
    → new ≡ old ++ all
appended-more old now new some more all are added both =
    added ∙ ap (λ (bytes : List ℕ). bytes ++ more) are ∙ append_assoc old some more
    ∙ ap (λ (bytes : List ℕ). old ++ bytes) (sym both)

pub appended-none : (old : List ℕ) (none : List ℕ) → none ≡ [] → old ≡ old ++ none
appended-none old none is = sym (append-nil old) ∙ ap (λ (bytes : List ℕ). old ++ bytes) (sym is)

-- the path of no text, and of a first one and more
pub flame_path-none : flame_path [] ≡ []
unfolding flame_path
flame_path-none = refl

pub flame_path-first : (text : List ℕ) (more : List (List ℕ))
    → flame_path (text ∷ more) ≡ flame_name text ++ flame_rest more
unfolding flame_path
flame_path-first text more = refl

pub flame_rest-none : flame_rest [] ≡ []
unfolding flame_rest
flame_rest-none = refl

-- one text more
pub flame_rest-more : {X : Type 0} (f : X → List ℕ) (xs : List X) (k : ℕ) (d : X) → k < length xs
    → flame_rest (map f (take (k + 1) xs))
    ≡ flame_rest (map f (take k xs)) ++ (codes ";" ++ flame_name (f (get_or xs k d)))
unfolding flame_rest
flame_rest-more {X} f xs k d within =
    let later : List ℕ → List ℕ = λ t. codes ";" ++ flame_name t in
    ap (λ ys. flat_map later (map f ys)) (take_more xs k d within)
    ∙ ap (λ ys. flat_map later ys) (map_push f (take k xs) (get_or xs k d))
    ∙ flat_map-append later (map f (take k xs)) (f (get_or xs k d) ∷ [])
    ∙ ap (λ bytes. flat_map later (map f (take k xs)) ++ bytes) (append-nil (later (f (get_or xs k d))))

-- a list of length 0
pub nothing-held : (ns : List ℕ) → length ns ≡ 0 → ns ≡ []
nothing-held [] none = refl
nothing-held (n ∷ ns) none = absurd (omega arith)

-- the line of a front, by its sum
pub flame_line-none : (front : List (List ℕ)) (sum : ℕ) → sum ≡ 0 → flame_line front sum ≡ []
unfolding flame_line
flame_line-none front sum none = cond-true (eqb sum 0) [] _ (eq-eqb sum 0 none)

pub flame_line-some : (front : List (List ℕ)) (sum : ℕ) → eqb sum 0 ≡ false
    → flame_line front sum ≡ flame_path front ++ (codes " " ++ (decimal sum ++ codes "\n"))
unfolding flame_line
flame_line-some front sum some = cond-false (eqb sum 0) [] _ some

four : (o p q r s : List ℕ) → (((o ++ p) ++ q) ++ r) ++ s ≡ o ++ (p ++ (q ++ (r ++ s)))
four o p q r s = simp append_assoc

-- four appends in a row
pub four-appended : (o a b c d p q r s : List ℕ) → a ≡ o ++ p → b ≡ a ++ q → c ≡ b ++ r → d ≡ c ++ s
    → d ≡ o ++ (p ++ (q ++ (r ++ s)))
four-appended o a b c d p q r s p_is q_is r_is s_is =
    s_is
    ∙ ap (λ (xs : List ℕ). xs ++ s) (r_is ∙ ap (λ (xs : List ℕ). xs ++ r) (q_is ∙ ap (λ (xs : List ℕ). xs ++ q) p_is))
    ∙ four o p q r s
