-- What it does to a folder and to a place in it that one more file is held.
use Rattle.std.proofs.Common.{◌≡◌, ◌+◌, ◌<◌, ℕ, Bool, true, false, cond, nat_eq, ◌≢◌, List, [], ◌∷◌, ◌++◌, Option, None}
use Rattle.std.proofs.Common.{Some, length, drop, ◌≤◌, zero, suc, refl, ap, ◌∙◌, sym, arith, get_or, add-one}
use Rattle.std.proofs.Common.{drop_of_length-le, ◌-◌, min, take, length-append, unwrap_or, option_map, subst}
use Rattle.std.specs.Option.{ForSome}
use Rattle.std.specs.Ordering.{nat_cmp, eq_by_cmp}
use Rattle.std.specs.Cmp.Lexicographic.{slice_cmp, pointwise, same_text, texts_ties, nat_list_cmp_total}
use Rattle.std.specs.Cmp.Lexicographic.{nat_list_eq_equiv}
use Rattle.std.specs.FinMap.{from_entries, from_entries_push, get-from_entries, slice_cmp-IsAntisymmetric}
use Rattle.std.specs.FinMap.{nat_cmp-IsAntisymmetric, empty, insert, get-insert, get-empty}
use Rattle.hp_outside.specs.Folder.{Folder, file_of}
use Rattle.hp_outside.specs.HeldFiles.{entries_of, folder_of, bytes_at, left_at, IsWithin}
use Rattle.hp_outside.specs.declared.sure_store.HeldFile.{HeldFile}
use Rattle.hp_outside.specs.declared.sure_store.Place.{Place}
use Rattle.hp_outside.specs.SureStoreState.{SureStoreState, read_count, after_read}
use Rattle.hp_outside.proofs.Known.{rest_of}
use Rattle.std.proofs.lemmas.List.{drop-drop}

-- the entries of one more file
entries_of-push : (files : List HeldFile) (file : HeldFile)
    → entries_of (files ++ file ∷ []) ≡ entries_of files ++ (file.name.items, file.bytes.items) ∷ []
entries_of-push [] file = refl
entries_of-push (f ∷ files) file = ap (λ es. (f.name.items, f.bytes.items) ∷ es) (entries_of-push files file)

-- a file under a new name is put into the folder
pub folder_of-push : (files : List HeldFile) (file : HeldFile) → file_of (folder_of files) file.name.items ≡ None
    → folder_of (files ++ file ∷ []) ≡ insert (folder_of files) file.name.items file.bytes.items
folder_of-push files file none =
    ap from_entries (entries_of-push files file)
    ∙ from_entries_push nat_list_cmp_total (slice_cmp-IsAntisymmetric nat_cmp-IsAntisymmetric) (entries_of files)
    file.name.items file.bytes.items
    (sym (get-from_entries nat_list_cmp_total (entries_of files) file.name.items) ∙ none)

-- the files that were held keep their bytes
pub bytes_at-push : (files : List HeldFile) (file : HeldFile) (number : ℕ) → number < length files
    → bytes_at (files ++ file ∷ []) number ≡ bytes_at files number
bytes_at-push [] file number h = absurd (omega arith)
bytes_at-push (f ∷ files) file zero h = refl
bytes_at-push (f ∷ files) file (suc number) h = bytes_at-push files file number (omega arith)

-- what is left of the current file stays
pub left_at-push : (files : List HeldFile) (file : HeldFile) (place : Option Place) → ForSome place (IsWithin files)
    → left_at (files ++ file ∷ []) place ≡ left_at files place
left_at-push files file None within = refl
left_at-push files file (Some here) within =
    ap Some (ap (drop here.at) (bytes_at-push files file here.file (within here refl).0))

-- and the place within it
pub within-pushed : (files new : List HeldFile) (file : HeldFile) (place : Option Place) → new ≡ files ++ file ∷ []
    → ForSome place (IsWithin files) → ForSome place (IsWithin new)
within-pushed files new file place is within here at =
    let held = within here at in
    let bytes : bytes_at new here.file ≡ bytes_at files here.file =
    ap (λ fs. bytes_at fs here.file) is ∙ bytes_at-push files file here.file held.0 in
    (omega (arith, ap length is, length-append files (file ∷ []), held.0), omega (arith, ap length bytes, held.1))

-- the folder with one more file, by its name and bytes
pub folder_of-pushed : (files new : List HeldFile) (file : HeldFile) (name bytes : List ℕ) → new ≡ files ++ file ∷ []
    → file.name.items ≡ name → file.bytes.items ≡ bytes
    → file_of (folder_of files) name ≡ None → folder_of new ≡ insert (folder_of files) name bytes
folder_of-pushed files new file name bytes is named held none =
    ap folder_of is ∙ folder_of-push files file (ap (file_of (folder_of files)) named ∙ none)
    ∙ (λ i. insert (folder_of files) (named i) (held i))

-- the store with one more file
pub state-push : (files new : List HeldFile) (file : HeldFile) (place : Option Place) (piece opens : ℕ)
    (folder : Folder)
    → new ≡ files ++ file ∷ [] → folder_of new ≡ folder → ForSome place (IsWithin files)
    → ◌≡◌ {A = SureStoreState}
    (record { folder = folder_of new; piece = piece; opens = opens; left = left_at new place })
    (record { folder = folder; piece = piece; opens = opens; left = left_at files place })
state-push files new file place piece opens folder is folder_is within =
    let left : left_at new place ≡ left_at files place =
    ap (λ fs. left_at fs place) is ∙ left_at-push files file place within in
    λ i. record { folder = folder_is i; piece = piece; opens = opens; left = left i }

-- a file by its name is the first of the rest, if that has the name, and else one of those after it
file_of-drop_suc : (files : List HeldFile) (number : ℕ) (file : HeldFile) (name : List ℕ) (same : Bool)
    → number < length files → file ≡ get_or files number file
    → same ≡ pointwise nat_eq file.name.items name
    → file_of (folder_of (drop number files)) name
    ≡ cond same (Some (bytes_at files number)) (file_of (folder_of (drop (suc number) files)) name)
file_of-drop_suc [] number file name same h is e = absurd (omega arith)
file_of-drop_suc (f ∷ files) zero file name same h is e =
    get-insert nat_list_cmp_total (folder_of files) f.name.items f.bytes.items name
    ∙ ap (λ b. cond b (Some f.bytes.items) (file_of (folder_of files) name))
    (sym (texts_ties name f.name.items) ∙ nat_list_eq_equiv.symm name f.name.items
    ∙ ap (λ (g : HeldFile). pointwise nat_eq g.name.items name) (sym is) ∙ sym e)
file_of-drop_suc (f ∷ files) (suc number) file name same h is e =
    file_of-drop_suc files number file name same (omega arith) is e

-- the same, with the number of the next file as the code has it
pub file_of-drop : (files : List HeldFile) (number : ℕ) (file : HeldFile) (name : List ℕ) (same : Bool)
    → number < length files → file ≡ get_or files number file
    → same ≡ pointwise nat_eq file.name.items name
    → file_of (folder_of (drop number files)) name
    ≡ cond same (Some (bytes_at files number)) (file_of (folder_of (drop (number + 1) files)) name)
file_of-drop files number file name same h is e = rw add-one (file_of-drop_suc files number file name same h is e)

-- behind the last file there is none
pub file_of-drop_all : (files : List HeldFile) (number : ℕ) (name : List ℕ) → length files ≤ number
    → file_of (folder_of (drop number files)) name ≡ None
file_of-drop_all files number name past =
    ap (λ fs. file_of (folder_of fs) name) (drop_of_length-le files past) ∙ get-empty (slice_cmp nat_cmp) name

-- the bytes of the file that stands at a number
pub bytes_at-here : (files : List HeldFile) (number : ℕ) (file : HeldFile) → number < length files
    → file ≡ get_or files number file → file.bytes.items ≡ bytes_at files number
bytes_at-here [] number file h is = absurd (omega arith)
bytes_at-here (f ∷ files) zero file h is = ap (λ (g : HeldFile). g.bytes.items) is
bytes_at-here (f ∷ files) (suc number) file h is = bytes_at-here files number file (omega arith) is

-- what is left behind a place that is there
pub left_at-here : (files : List HeldFile) (place : Option Place) (here : Place) → place ≡ Some here
    → left_at files place ≡ Some (drop here.at (bytes_at files here.file))
left_at-here files place here is = ap (left_at files) is

-- no test tells a name from itself
same_name : (name : List ℕ) → eq_by_cmp (slice_cmp nat_cmp) name name ≡ true
same_name name = sym (texts_ties name name) ∙ nat_list_eq_equiv.refl name

-- a test tells names apart
other_name : (other name : List ℕ) → (other ≢ name) → eq_by_cmp (slice_cmp nat_cmp) other name ≡ false
other_name other name apart =
    sym (texts_ties other name)
    ∙ elim (pointwise nat_eq other name) as (λ b. b ≡ pointwise nat_eq other name → b ≡ false) [
      | true ↦ λ e. absurd (apart (same_text other name e))
      | false ↦ λ e. refl
    ] refl

-- the file that was put into a folder
pub file_of-insert : (folder : Folder) (name bytes : List ℕ) → file_of (insert folder name bytes) name ≡ Some bytes
file_of-insert folder name bytes =
    get-insert nat_list_cmp_total folder name bytes name
    ∙ ap (λ b. cond b (Some bytes) (file_of folder name)) (same_name name)

-- the other files of the folder
pub file_of-insert_other : (folder : Folder) (name bytes other : List ℕ) → (other ≢ name)
    → file_of (insert folder name bytes) other ≡ file_of folder other
file_of-insert_other folder name bytes other apart =
    get-insert nat_list_cmp_total folder name bytes other
    ∙ ap (λ b. cond b (Some bytes) (file_of folder other)) (other_name other name apart)

-- the empty folder holds no file
pub file_of-empty : (folder : Folder) (name : List ℕ) → folder ≡ empty → file_of folder name ≡ None
file_of-empty folder name is = ap (λ f. file_of f name) is ∙ get-empty (slice_cmp nat_cmp) name

-- how many bytes a read gives
pub read_count-here : (files : List HeldFile) (place : Option Place) (here : Place) (piece opens room first count : ℕ)
    (bytes : List ℕ)
    → place ≡ Some here → bytes ≡ bytes_at files here.file
    → first ≡ min piece room → count ≡ min first (length (take (length bytes - here.at) (drop here.at bytes)))
    → count
    ≡ read_count (record { folder = folder_of files; piece = piece; opens = opens; left = left_at files place }) room
read_count-here files place here piece opens room first count bytes is held first_is count_is =
    let rest : length (unwrap_or (left_at files place) [])
    ≡ length (take (length bytes - here.at) (drop here.at bytes)) =
    ap (λ l. length (unwrap_or l [])) (left_at-here files place here is) ∙ ap (λ b. length (drop here.at b)) (sym held)
    ∙ ap length (sym (rest_of bytes here.at)) in
    omega (arith, first_is, count_is, rest)

-- and the store behind it
pub after_read-here : (files : List HeldFile) (place : Option Place) (here : Place) (piece opens room count : ℕ)
    → place ≡ Some here
    → count
    ≡ read_count (record { folder = folder_of files; piece = piece; opens = opens; left = left_at files place }) room
    → ◌≡◌ {A = SureStoreState}
    (record {
      folder = folder_of files;
      piece = piece;
      opens = opens;
      left = left_at files (Some (record { file = here.file; at = here.at + count }));
    })
    (after_read (record { folder = folder_of files; piece = piece; opens = opens; left = left_at files place }) room)
after_read-here files place here piece opens room count is count_is =
    let bytes = bytes_at files here.file in
    let left : Some (drop (here.at + count) bytes) ≡ option_map (drop count) (left_at files place) =
    ap Some (sym (drop-drop count here.at bytes))
    ∙ ap (option_map (drop count)) (sym (left_at-here files place here is)) in
    (λ i. record { folder = folder_of files; piece = piece; opens = opens; left = left i })
    ∙ ap (λ n. record {
      folder = folder_of files;
      piece = piece;
      opens = opens;
      left = option_map (drop n) (left_at files place);
    }) count_is

-- a place that a read moved within a file
pub within-moved : (files : List HeldFile) (here : Place) (count : ℕ) → here.file < length files
    → here.at + count ≤ length (bytes_at files here.file)
    → ForSome (Some (record { file = here.file; at = here.at + count })) (IsWithin files)
within-moved files here count held within place is =
    subst (IsWithin files) (ap (λ (o : Option Place). unwrap_or o here) is) (held, within)

-- a read that may give bytes and gives none is at the end
pub nothing_left : (rest value : List ℕ) (left : Option (List ℕ)) (first count : ℕ) → left ≡ Some rest → 0 < first
    → count ≡ min first (length rest) → count ≡ 0 → left ≡ Some value → value ≡ []
nothing_left [] value left first count is more count_is none told = cc
nothing_left (byte ∷ rest) value left first count is more count_is none told = absurd (omega arith)
