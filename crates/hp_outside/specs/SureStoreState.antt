-- What a store or a sink in memory holds, and which of its calls fail.
use Rattle.std.specs.Prelude.{ℕ, ◌+◌, List, [], Option, None, unwrap_or, option_map, length, drop, min, refl}
use Rattle.std.specs.Coded.{Coded, code_by, coded×, coded_ℕ, coded_list, coded_option}
use Rattle.std.specs.FinMap.{code, empty, insert}
use Rattle.hp_outside.specs.Folder.{Folder}

-- a store in memory: its files, and how far the current one was read
pub record SureStoreState : Type 0 where
  pub folder : Folder
  -- the most bytes that one read gives
  pub piece : ℕ
  -- how many calls of `open` there were
  pub opens : ℕ
  -- what of the current file was not yet read; none where no file is current
  pub left : Option (List ℕ)

-- a store without files that was never opened
abbrev pub new_store : ℕ → SureStoreState
new_store piece = record { folder = empty; piece = piece; opens = 0; left = None }

-- the store with one more file
abbrev pub with_file : SureStoreState → List ℕ → List ℕ → SureStoreState
with_file store name bytes = record store { folder = insert store.folder name bytes }

-- one open further, after which this is left
abbrev pub after_open : SureStoreState → Option (List ℕ) → SureStoreState
after_open store left = record store { opens = store.opens + 1; left = left }

-- how many bytes a read into a buffer of this length gives
abbrev pub read_count : SureStoreState → ℕ → ℕ
read_count store room = min store.piece (min room (length (unwrap_or store.left [])))

-- one read further, into a buffer of this length
abbrev pub after_read : SureStoreState → ℕ → SureStoreState
after_read store room = record store { left = option_map (drop (read_count store room)) store.left }

-- the code of a folder
abbrev pub folder_code : Coded Folder
folder_code = code (coded_list coded_ℕ) (coded_list coded_ℕ)

-- the state is stored as the pair of its fields
abbrev pub sure_store_code : Coded SureStoreState
sure_store_code =
    code_by (Folder × (ℕ × (ℕ × Option (List ℕ))))
    (coded× folder_code (coded× coded_ℕ (coded× coded_ℕ (coded_option (coded_list coded_ℕ)))))
    (λ s. (s.folder, (s.piece, (s.opens, s.left))))
    (λ p. record { folder = p.0; piece = p.1.0; opens = p.1.1.0; left = p.1.1.1 }) (λ _. refl)
