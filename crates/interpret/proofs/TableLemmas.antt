-- The symbols as contracts see them, beside what the table keeps.
use Rattle.std.proofs.Common.{◌≡◌, ◌≢◌, ◌⊎◌, ℕ, ◌<◌, ◌≤◌, true, false, List, [], ◌∷◌, ◌++◌, length, Option, Some, None}
use Rattle.std.proofs.Common.{refl, sym, ap, ◌∙◌, subst}
use Rattle.std.specs.Prelude.{find}
use Rattle.std.specs.Option.{option_map, option_to_list}
use Rattle.std.specs.List.{cons_option, list_any}
use Rattle.std.proofs.lemmas.List.{map-append}
use Rattle.std.proofs.lemmas.List.Elements.{filter_map-append}
use Rattle.intern_tables.specs.Numbers.{name_at, number_of}
use Rattle.interpret.specs.declared.start_index.StartIndex.{StartIndex}
use Rattle.interpret.specs.declared.symbols.SymbolEntry.{SymbolEntry}
use Rattle.interpret.specs.SymbolLine.{Symbol, fields, symbol_of}
use Rattle.interpret.specs.SymbolList.{is_skipped, meets, symbol_at, symbol_in, symbols_of}
use Rattle.interpret.specs.SymbolEntries.{AreIndexed, AreNamed, holds_offset, meets_range, place_at, symbol_kept}
use Rattle.interpret.specs.SymbolEntries.{symbols_kept}
use Rattle.interpret.proofs.EntryLemmas.{holds-kept, holds-unnamed, indexed-push, kept-grown, meets-kept, named-grown}
use Rattle.interpret.proofs.EntryLemmas.{named-push}

-- names that are the old ones and maybe more
pub record NamesGo (names more : List (List ℕ)) : Type 0 where
  pub stay : (n : ℕ) → n ≤ length names → name_at more n ≡ name_at names n
  pub numbers : (name : List ℕ) (n : ℕ) → number_of names name ≡ Some n → number_of more name ≡ Some n
  pub none_lost : length names ≤ length more

pub indexed-same : (entries : List SymbolEntry) (index new : StartIndex)
    → ((number start : ℕ) → place_at new number start ≡ place_at index number start) → AreIndexed entries index
    → AreIndexed entries new
indexed-same entries index new same indexed = record {
  some = indexed.some;
  apart = indexed.apart;
  placed = λ k x at. same x.module_number x.start ∙ indexed.placed k x at;
  only = λ number start k at. indexed.only number start k (sym (same number start) ∙ at);
}

-- the table with more names
pub table-grown : (names more : List (List ℕ)) (entries now : List SymbolEntry) (index new : StartIndex)
    → AreNamed names entries × AreIndexed entries index → NamesGo names more → now ≡ entries
    → ((number start : ℕ) → place_at new number start ≡ place_at index number start)
    → AreNamed more now × AreIndexed now new
table-grown names more entries now index new table go is same =
    subst (λ (es : List SymbolEntry). AreNamed more es × AreIndexed es new) (sym is) (
      named-grown names more entries table.0 go.stay go.numbers go.none_lost,
      indexed-same entries index new same table.1,
    )

pub view-grown : (names more : List (List ℕ)) (entries now : List SymbolEntry) (view : List Symbol)
    → symbols_kept names entries ≡ view → AreNamed names entries → NamesGo names more → now ≡ entries
    → symbols_kept more now ≡ view
view-grown names more entries now view is named go same =
    ap (λ (es : List SymbolEntry). symbols_kept more es) same ∙ kept-grown names more entries named go.stay ∙ is

pub meets-view : (names more : List (List ℕ)) (entries now : List SymbolEntry) (view : List Symbol) (s : Symbol)
    (number : ℕ)
    → symbols_kept names entries ≡ view → AreNamed names entries → NamesGo names more → now ≡ entries
    → name_at more number ≡ Some s.module_name → number_of more s.module_name ≡ Some number
    → list_any (meets s) view ≡ list_any (meets_range number s.start s.end) now
meets-view names more entries now view s number is named go same name_is number_is =
    ap (λ (all : List Symbol). list_any (meets s) all)
    (sym (view-grown names more entries entries view is named go refl))
    ∙ meets-kept more entries s number (named-grown names more entries named go.stay go.numbers go.none_lost) name_is
    number_is
    ∙ ap (λ (es : List SymbolEntry). list_any (meets_range number s.start s.end) es) (sym same)

-- the table with one more entry
pub table-push : (names more : List (List ℕ)) (entries now : List SymbolEntry) (index new : StartIndex)
    (y : SymbolEntry) (bytes : List ℕ)
    → AreNamed names entries × AreIndexed entries index → NamesGo names more → now ≡ entries ++ y ∷ []
    → name_at more y.module_number ≡ Some bytes → number_of more bytes ≡ Some y.module_number
    → y.module_number ≤ length more → y.start < y.end
    → list_any (meets_range y.module_number y.start y.end) entries ≡ false
    → place_at new y.module_number y.start ≡ Some (length entries)
    → ((number start : ℕ) → (number ≢ y.module_number) ⊎ (start ≢ y.start)
    → place_at new number start ≡ place_at index number start)
    → AreNamed more now × AreIndexed now new
table-push names more entries now index new y bytes table go is name_is number_is within some none here others =
    subst (λ (es : List SymbolEntry). AreNamed more es × AreIndexed es new) (sym is) (
      named-push more entries y bytes (named-grown names more entries table.0 go.stay go.numbers go.none_lost) name_is
          number_is within,
      indexed-push entries index new y table.1 some none here others,
    )

pub view-push : (names more : List (List ℕ)) (entries now : List SymbolEntry) (view : List Symbol) (y : SymbolEntry)
    (s : Symbol)
    → symbols_kept names entries ≡ view → AreNamed names entries → NamesGo names more → now ≡ entries ++ y ∷ []
    → symbol_kept more y ≡ s
    → symbols_kept more now ≡ view ++ s ∷ []
view-push names more entries now view y s is named go pushed kept =
    ap (λ (es : List SymbolEntry). symbols_kept more es) pushed ∙ map-append (symbol_kept more) entries (y ∷ [])
    ∙ ap (λ (front : List Symbol). front ++ symbol_kept more y ∷ [])
    (view-grown names more entries entries view is named go refl)
    ∙ ap (λ (last : Symbol). view ++ last ∷ []) kept

-- the texts of the symbol that holds an offset
pub texts-kept : (names : List (List ℕ)) (entries now : List SymbolEntry) (view : List Symbol) (name : List ℕ)
    (number offset : ℕ) (found : Option SymbolEntry)
    → AreNamed names entries → symbols_kept names entries ≡ view → now ≡ entries
    → name_at names number ≡ Some name → number_of names name ≡ Some number
    → found ≡ find (holds_offset number offset) now
    → option_map (λ (x : SymbolEntry). fields x.texts) found
    ≡ option_map (λ (s : Symbol). s.texts) (symbol_at view name offset)
texts-kept names entries now view name number offset found named is same name_is number_is found_is =
    sym (ap (λ (all : List Symbol). option_map (λ (s : Symbol). s.texts) (symbol_at all name offset)) (sym is)
    ∙ ap (option_map (λ (s : Symbol). s.texts)) (holds-kept names entries name number offset named name_is number_is)
    ∙ ap (λ (es : List SymbolEntry). option_map (λ (s : Symbol). s.texts)
    (option_map (symbol_kept names) (find (holds_offset number offset) es))) (sym
    same)
    ∙ ap (λ (o : Option SymbolEntry). option_map (λ (s : Symbol). s.texts) (option_map (symbol_kept names) o))
    (sym found_is)
    ∙ by found)
  where
    by : (o : Option SymbolEntry)
        → option_map (λ (s : Symbol). s.texts) (option_map (symbol_kept names) o)
        ≡ option_map (λ (x : SymbolEntry). fields x.texts) o
    by None = refl
    by (Some x) = refl

pub texts-unnamed : (names : List (List ℕ)) (entries : List SymbolEntry) (view : List Symbol) (name : List ℕ)
    (offset : ℕ)
    → AreNamed names entries → symbols_kept names entries ≡ view → number_of names name ≡ None
    → None ≡ option_map (λ (s : Symbol). s.texts) (symbol_at view name offset)
texts-unnamed names entries view name offset named is none =
    sym (ap (λ (all : List Symbol). option_map (λ (s : Symbol). s.texts) (symbol_at all name offset)) (sym is)
    ∙ ap (option_map (λ (s : Symbol). s.texts)) (holds-unnamed names entries name offset named none))

-- the symbols of lines with one more

cons_option-nil : {Y : Type 0} (o : Option Y) → cons_option o [] ≡ option_to_list o
cons_option-nil None = refl
cons_option-nil (Some y) = refl

pub symbols-push : (old new : List Symbol) (line : List ℕ) → new ≡ old ++ option_to_list (symbol_in line)
    → (lines : List (List ℕ)) → old ≡ symbols_of lines → new ≡ symbols_of (lines ++ line ∷ [])
symbols-push old new line added lines is =
    added ∙ ap (λ (all : List Symbol). all ++ option_to_list (symbol_in line)) is
    ∙ sym (filter_map-append symbol_in lines (line ∷ [])
    ∙ ap (λ (more : List Symbol). symbols_of lines ++ more) (cons_option-nil (symbol_in line)))

pub said-in : (line : List ℕ) (s : Symbol) → is_skipped line ≡ false → symbol_of (fields line) ≡ Some s
    → symbol_in line ≡ Some s
said-in line s kept said = rw kept said

pub skipped-in : (line : List ℕ) → is_skipped line ≡ true → symbol_in line ≡ None
skipped-in line skipped = rw skipped refl
