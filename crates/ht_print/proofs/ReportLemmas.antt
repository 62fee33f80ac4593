-- Lemmas on the lines of a report's stacks and groups.
use Rattle.std.proofs.Common.{◌≡◌, ℕ, ◌+◌, ◌-◌, ◌<◌, ◌≤◌, eqb, false, List, [], ◌∷◌, ◌++◌, length, map, take, get_or}
use Rattle.std.proofs.Common.{Some, refl, sym, ap, ◌∙◌, append_assoc, append-nil, arith}
use Rattle.std.specs.Prelude.{codes, decimal, slice_get}
use Rattle.std.specs.List.{flat_map}
use Rattle.std.proofs.lemmas.Bool.{cond-false}
use Rattle.std.proofs.lemmas.List.{map_push, take_all, take_more}
use Rattle.std.proofs.lemmas.Grind.{flat_map-append}
use Rattle.std.proofs.lemmas.Option.{same_Some, slice_get_within}
use Rattle.stack_trees.specs.StackTexts.{stack_texts}
use Rattle.ht_trace.specs.FrameText.{frame_text}
use Rattle.ht_trace.specs.StackFrames.{stack_frames}
use Rattle.ht_trace.specs.TableState.{TableState}
use Rattle.ht_trace.specs.declared.frame.FrameAt.{FrameAt}
use Rattle.ht_trace.specs.declared.frame.Style.TheVariants.{Plain}
use Rattle.hp_num.specs.Extends.{Extends}
use Rattle.hp_num.proofs.Laws.{extends_trans}
use Rattle.ht_print.specs.ReportGroups.{innermost, others, place_of}
use Rattle.ht_print.specs.ReportLines.{frame_lines, left_line}
use Rattle.ht_print.specs.ReportText.{suppressed_line}

-- the lines of so many entries were written
pub record AreWritten {X : Type 0} (old new : List ℕ) (lines : X → List ℕ) (entries : List X) (place : ℕ) : Type 0
  where
    pub written : new ≡ old ++ flat_map lines (take place entries)
    pub kept : Extends old new

-- lines of no text, and of one more
pub frame_lines-none : (blanks : List ℕ) → frame_lines blanks [] ≡ []
unfolding frame_lines
frame_lines-none blanks = refl

pub frame_lines-more : {X : Type 0} (blanks : List ℕ) (f : X → List ℕ) (xs : List X) (k : ℕ) (d : X) → k < length xs
    → frame_lines blanks (map f (take (k + 1) xs))
    ≡ frame_lines blanks (map f (take k xs)) ++ (blanks ++ (f (get_or xs k d) ++ codes "\n"))
unfolding frame_lines
frame_lines-more {X} blanks f xs k d within =
    let line : List ℕ → List ℕ = λ text. blanks ++ (text ++ codes "\n") in
    ap (λ ys. flat_map line (map f ys)) (take_more xs k d within)
    ∙ ap (λ ys. flat_map line ys) (map_push f (take k xs) (get_or xs k d))
    ∙ flat_map-append line (map f (take k xs)) (f (get_or xs k d) ∷ [])
    ∙ ap (λ bytes. flat_map line (map f (take k xs)) ++ bytes) (append-nil (line (f (get_or xs k d))))

three : (o p q r : List ℕ) → ((o ++ p) ++ q) ++ r ≡ o ++ (p ++ (q ++ r))
three o p q r = simp append_assoc

-- three appends in a row
pub three-appended : (o a b c p q r : List ℕ) → a ≡ o ++ p → b ≡ a ++ q → c ≡ b ++ r → c ≡ o ++ (p ++ (q ++ r))
three-appended o a b c p q r p_is q_is r_is =
    r_is ∙ ap (λ (xs : List ℕ). xs ++ r) (q_is ∙ ap (λ (xs : List ℕ). xs ++ q) p_is) ∙ three o p q r

-- so many calls, each of which may append, keep what was there
pub three-kept : (o a b c : List ℕ) → Extends o a → Extends a b → Extends b c → Extends o c
three-kept o a b c p q r = extends_trans o a c p (extends_trans a b c q r)

pub four-kept : (o a b c d : List ℕ) → Extends o a → Extends a b → Extends b c → Extends c d → Extends o d
four-kept o a b c d p q r s = extends_trans o a d p (three-kept a b c d q r s)

-- the texts of a stack by its frames
pub texts-by : (tables : TableState) (stack : ℕ) (frames : List FrameAt) (first : FrameAt) (rest : List FrameAt)
    → frames ≡ stack_frames tables.instructions tables.nodes stack → frames ≡ first ∷ rest
    → stack_texts Plain tables stack ≡ frame_text Plain tables first ∷ map (frame_text Plain tables) rest
texts-by tables stack frames first rest are is =
    ap (λ (fs : List FrameAt). map (frame_text Plain tables) fs) (sym are ∙ is)

pub place-first : (tables : TableState) (stack : ℕ) (at : FrameAt)
    → slice_get (stack_frames tables.instructions tables.nodes stack) 0 ≡ Some at
    → place_of tables stack ≡ frame_text Plain tables at
unfolding place_of
place-first tables stack at is = by (stack_frames tables.instructions tables.nodes stack) is
  where
    by : (frames : List FrameAt) → slice_get frames 0 ≡ Some at
        → innermost (map (frame_text Plain tables) frames) ≡ frame_text Plain tables at
    by [] none = absurd (let within = slice_get_within {A = FrameAt} [] 0 at none in omega arith)
    by (first ∷ rest) some = ap (frame_text Plain tables) (same_Some first at some)

pub others-by : (tables : TableState) (stack : ℕ) (frames : List FrameAt) (first : FrameAt) (rest : List FrameAt)
    → frames ≡ stack_frames tables.instructions tables.nodes stack → frames ≡ first ∷ rest
    → others (stack_texts Plain tables stack) ≡ map (frame_text Plain tables) rest
others-by tables stack frames first rest are is = ap others (texts-by tables stack frames first rest are is)

-- the line of suppressed bytes
pub suppressed_line-some : (bytes : ℕ) → eqb bytes 0 ≡ false
    → suppressed_line bytes ≡ codes "suppressed: " ++ (decimal bytes ++ codes " bytes\n")
unfolding suppressed_line
suppressed_line-some bytes some = cond-false (eqb bytes 0) [] _ some

-- the lines of one more that is shown
pub shown-more : {X : Type 0} (f : X → List ℕ) (old now new : List ℕ) (xs : List X) (k : ℕ) (d : X) → k < length xs
    → now ≡ old ++ flat_map f (take k xs) → new ≡ now ++ f (get_or xs k d) → new ≡ old ++ flat_map f (take (k + 1) xs)
shown-more {X} f old now new xs k d within written added =
    added ∙ ap (λ (bytes : List ℕ). bytes ++ f (get_or xs k d)) written
    ∙ append_assoc old (flat_map f (take k xs)) (f (get_or xs k d))
    ∙ ap (λ (bytes : List ℕ). old ++ bytes)
    (ap (λ (bytes : List ℕ). flat_map f (take k xs) ++ bytes) (sym (append-nil (f (get_or xs k d))))
    ∙ sym (flat_map-append f (take k xs) (get_or xs k d ∷ []))
    ∙ ap (λ (ys : List X). flat_map f ys) (sym (take_more xs k d within)))

-- the lines of all that is shown, and how many are left
pub shown-all : {X : Type 0} (f : X → List ℕ) (old now new label : List ℕ) (xs shown : List X) (k limit left : ℕ)
    → now ≡ old ++ flat_map f (take k shown) → length shown ≤ k → shown ≡ take limit xs → left ≡ length xs - limit
    → new ≡ now ++ left_line label left
    → new ≡ old ++ (flat_map f (take limit xs) ++ left_line label (length xs - limit))
shown-all {X} f old now new label xs shown k limit left written all are left_is added =
    added
    ∙ ap (λ (bytes : List ℕ). bytes ++ left_line label left)
    (written ∙ ap (λ (ys : List X). old ++ flat_map f ys) (take_all k shown all ∙ are))
    ∙ append_assoc old (flat_map f (take limit xs)) (left_line label left)
    ∙ ap (λ (n : ℕ). old ++ (flat_map f (take limit xs) ++ left_line label n)) left_is
