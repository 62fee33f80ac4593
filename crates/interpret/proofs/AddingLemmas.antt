-- Names that are added one after another.
use Rattle.std.proofs.Common.{Bor, ◌≡◌, ℕ, ◌≤◌, Bool, true, false, cond, List, [], ◌∷◌, ◌++◌, length, map, Option, Some}
use Rattle.std.proofs.Common.{None, refl, sym, ap, ◌∙◌, arith, append_assoc, append-nil, length-append, subst}
use Rattle.std.specs.Prelude.{nat_lt}
use Rattle.std.specs.List.{flat_map, list_any}
use Rattle.std.specs.Option.{option_copied}
use Rattle.std.specs.Str.{bytes_eq}
use Rattle.std.proofs.lemmas.Bool.Decides.{nat_tests}
use Rattle.std.proofs.lemmas.Grind.{flat_map-append}
use Rattle.std.proofs.lemmas.List.{map-append}
use Rattle.std.proofs.lemmas.List.Sums.{fold-append}
use Rattle.ht_lines.specs.Content.{Content, string_line}
use Rattle.ht_lines.specs.Written.{spelled, written}
use Rattle.hp_num.specs.Hexadecimal.{hexadecimal}
use Rattle.ht_trace.specs.declared.error.LineError.{LineError}
use Rattle.ht_trace.specs.declared.error.LineError.TheVariants.{TooMany}
use Rattle.ht_trace.specs.LineFault.{Tells, most_entries}
use Rattle.interpret.specs.AddsNames.{AreAdded}
use Rattle.interpret.specs.FirstAppearances.{all_fault, over_fault, with_all, with_new}
use Rattle.interpret.specs.Interpreted.{text_of}
use Rattle.interpret.specs.Resolved.{SourceFrame, frame_names, frames_of}
use Rattle.interpret.specs.SymbolEntries.{following}
use Rattle.interpret.specs.SymbolLine.{fields}
use Rattle.interpret.proofs.FirstLemmas.{with-absent, with-held}

-- the texts of lines, one after another
pub text-append : (xs ys : List (List ℕ)) → text_of (xs ++ ys) ≡ text_of xs ++ text_of ys
text-append xs ys = flat_map-append (λ line. line ++ 10 ∷ []) xs ys

pub text-one : (line : List ℕ) → text_of (line ∷ []) ≡ line ++ 10 ∷ []
text-one line = append-nil (line ++ 10 ∷ [])

-- the texts of what is said
pub said-append : (version : ℕ) (xs ys : List Content)
    → text_of (map (written version) (xs ++ ys))
    ≡ text_of (map (written version) xs) ++ text_of (map (written version) ys)
said-append version xs ys =
    ap text_of (map-append (written version) xs ys) ∙ text-append (map (written version) xs) (map (written version) ys)

-- numbers are written one after another
pub spelled-append : (xs ys : List ℕ) → spelled (xs ++ ys) ≡ spelled xs ++ spelled ys
spelled-append [] ys = refl
spelled-append (x ∷ xs) ys =
    ap (λ (rest : List ℕ). 32 ∷ (hexadecimal x ++ rest)) (spelled-append xs ys)
    ∙ ap (λ (l : List ℕ). 32 ∷ l) (sym (append_assoc (hexadecimal x) (spelled xs) (spelled ys)))

pub adds-none : (version : ℕ) (names : List (List ℕ)) (out : List ℕ) → AreAdded version [] names names out out
adds-none version names out =
    record { more = []; grown = sym (append-nil names); added = refl; lines = sym (append-nil out) }

pub adds-held : (version : ℕ) (name : List ℕ) (old new : List (List ℕ)) (out : List ℕ)
    → new ≡ with_new bytes_eq old name → list_any (bytes_eq name) old ≡ true
    → AreAdded version (name ∷ []) old new out out
adds-held version name old new out is there =
    record {
      more = [];
      grown = is ∙ with-held bytes_eq old name there ∙ sym (append-nil old);
      added = is;
      lines = sym (append-nil out);
    }

pub adds-new : (version : ℕ) (name : List ℕ) (old new : List (List ℕ)) (before after : List ℕ)
    → new ≡ with_new bytes_eq old name → list_any (bytes_eq name) old ≡ false
    → after ≡ before ++ (written version (string_line name) ++ 10 ∷ [])
    → AreAdded version (name ∷ []) old new before after
adds-new version name old new before after is none wrote =
    record {
      more = name ∷ [];
      grown = is ∙ with-absent bytes_eq old name none;
      added = is;
      lines = wrote ∙ ap (λ (l : List ℕ). before ++ l) (sym (text-one (written version (string_line name))));
    }

pub adds-then : (version : ℕ) (xs ys : List (List ℕ)) (old mid new : List (List ℕ)) (before between after : List ℕ)
    → AreAdded version xs old mid before between → AreAdded version ys mid new between after
    → AreAdded version (xs ++ ys) old new before after
adds-then version xs ys old mid new before between after a b =
    let lines = said-append version (map string_line a.more) (map string_line b.more) in
    record {
      more = a.more ++ b.more;
      grown = b.grown ∙ ap (λ (l : List (List ℕ)). l ++ b.more) a.grown ∙ append_assoc old a.more b.more;
      added =
          b.added ∙ ap (λ (l : List (List ℕ)). with_all bytes_eq l ys) a.added
          ∙ sym (fold-append (with_new bytes_eq) old xs ys);
      lines =
          b.lines ∙ ap (λ (l : List ℕ). l ++ text_of (map (written version) (map string_line b.more))) a.lines
          ∙ append_assoc before (text_of (map (written version) (map string_line a.more)))
          (text_of (map (written version) (map string_line b.more)))
          ∙ ap (λ (l : List ℕ). before ++ l)
          (sym lines
          ∙ ap (λ (l : List Content). text_of (map (written version) l))
          (sym (map-append string_line a.more b.more)));
    }

-- names are never fewer
new-no_fewer : {X : Type 0} (same : X → X → Bool) (xs : List X) (x : X) → length xs ≤ length (with_new same xs x)
new-no_fewer same xs x = by (list_any (same x) xs)
  where
    by : (b : Bool) → length xs ≤ length (cond b xs (xs ++ x ∷ []))
    by true = omega arith
    by false = let count = length-append xs (x ∷ []) in omega arith

pub all-no_fewer : {X : Type 0} (same : X → X → Bool) (xs ys : List X) → length xs ≤ length (with_all same xs ys)
all-no_fewer same xs [] = omega arith
all-no_fewer same xs (y ∷ ys) =
    let a = new-no_fewer same xs y in let b = all-no_fewer same (with_new same xs y) ys in omega arith

over-more : (most m n : ℕ) → m ≤ n → (error : LineError) → Tells error (over_fault most m)
    → Tells error (over_fault most n)
over-more most m n few error told = λ other. by (nat_lt most m) (nat_lt most n) refl refl (told other)
  where
    by : (a b : Bool) → nat_lt most m ≡ a → nat_lt most n ≡ b
        → cond {A = Option LineError} a (Some TooMany) None ≡ Some error
        → cond {A = Option LineError} b (Some TooMany) None ≡ Some error
    by true true p q is = is
    by true false p q is = absurd (grind (arith, nat_tests, p, q))
    by false b p q is = absurd (cc)

-- a fault of the first names is one of all
pub fault-first : (xs ys old : List (List ℕ)) (error : LineError) → Tells error (all_fault bytes_eq old xs)
    → Tells error (all_fault bytes_eq old (xs ++ ys))
fault-first xs ys old error told =
    over-more most_entries (length (with_all bytes_eq old xs)) (length (with_all bytes_eq old (xs ++ ys)))
    (subst (λ (l : List (List ℕ)). length (with_all bytes_eq old xs) ≤ length l)
    (sym (fold-append (with_new bytes_eq) old xs ys)) (all-no_fewer bytes_eq (with_all bytes_eq old xs) ys))
    error told

-- and one of those behind them, too
pub fault-behind : (version : ℕ) (xs ys old mid : List (List ℕ)) (before between : List ℕ) (error : LineError)
    → AreAdded version xs old mid before between → Tells error (all_fault bytes_eq mid ys)
    → Tells error (all_fault bytes_eq old (xs ++ ys))
fault-behind version xs ys old mid before between error a told =
    subst (λ (l : List (List ℕ)). Tells error (over_fault most_entries (length l)))
    (ap (λ (l : List (List ℕ)). with_all bytes_eq l ys) a.added ∙ sym (fold-append (with_new bytes_eq) old xs ys))
    told

-- what of all is called for is added, and the rest is to come
pub record IsAdding (version : ℕ) (all rest : List (List ℕ)) (old new : List (List ℕ)) (before after : List ℕ) : Type 0
  where
    pub done : List (List ℕ)
    pub whole : done ++ rest ≡ all
    pub adds : AreAdded version done old new before after

pub adding-more : (version : ℕ) (all front rest : List (List ℕ)) (old mid new : List (List ℕ))
    (before between after : List ℕ)
    → IsAdding version all (front ++ rest) old mid before between → AreAdded version front mid new between after
    → IsAdding version all rest old new before after
adding-more version all front rest old mid new before between after a b =
    record {
      done = a.done ++ front;
      whole = append_assoc a.done front rest ∙ a.whole;
      adds = adds-then version a.done front old mid new before between after a.adds b;
    }

pub adding-fault : (version : ℕ) (all front rest : List (List ℕ)) (old mid : List (List ℕ)) (before between : List ℕ)
    (error : LineError)
    → IsAdding version all (front ++ rest) old mid before between → Tells error (all_fault bytes_eq mid front)
    → Tells error (all_fault bytes_eq old all)
adding-fault version all front rest old mid before between error a told =
    let here = fault-behind version a.done front old mid before between error a.adds told in
    subst (λ (l : List (List ℕ)). Tells error (all_fault bytes_eq old l)) (append_assoc a.done front rest ∙ a.whole)
    (fault-first (a.done ++ front) rest old error here)

pub adding-done : (version : ℕ) (all : List (List ℕ)) (old new : List (List ℕ)) (before after : List ℕ)
    → IsAdding version all [] old new before after → AreAdded version all old new before after
adding-done version all old new before after a =
    subst (λ (l : List (List ℕ)). AreAdded version l old new before after) (sym (append-nil a.done) ∙ a.whole) a.adds

-- what is left are the names of the next frame, and those behind it
pub adding-next :
    (version : ℕ) (all : List (List ℕ)) (rest : Option (Bor (List ℕ))) (texts : Bor (List ℕ)) (frame : SourceFrame)
    (behind : Option (Bor (List ℕ))) (old new : List (List ℕ)) (before after : List ℕ)
    → rest ≡ Some texts → frames_of (fields texts.now) ≡ frame ∷ frames_of (following (option_copied behind))
    → IsAdding version all (flat_map frame_names (frames_of (following (option_copied rest)))) old new before after
    → IsAdding version all (frame_names frame ++ flat_map frame_names (frames_of (following (option_copied behind))))
    old new before after
adding-next version all rest texts frame behind old new before after is next adding =
    subst (λ (left : List (List ℕ)). IsAdding version all left old new before after)
    (ap (λ (o : Option (Bor (List ℕ))). flat_map frame_names (frames_of (following (option_copied o)))) is
    ∙ ap (λ (frames : List SourceFrame). flat_map frame_names frames) next)
    adding

-- the parts of an instruction's line
pub put-line : (out a b c d e : List ℕ) (ip m : ℕ) (frames : List ℕ) → a ≡ out ++ 105 ∷ [] → b ≡ a ++ spelled (ip ∷ [])
    → c ≡ b ++ spelled (m ∷ []) → d ≡ c ++ spelled frames → e ≡ d ++ 10 ∷ []
    → e ≡ out ++ text_of ((105 ∷ spelled (ip ∷ m ∷ frames)) ∷ [])
put-line out a b c d e ip m frames p q r s t =
    let line : e ≡ out ++ ((105 ∷ spelled (ip ∷ m ∷ frames)) ++ 10 ∷ []) =
    rw (t, s, r, q, p) (simp (append_assoc, append-nil)) in
    line ∙ ap (λ (l : List ℕ). out ++ l) (sym (text-one (105 ∷ spelled (ip ∷ m ∷ frames))))
