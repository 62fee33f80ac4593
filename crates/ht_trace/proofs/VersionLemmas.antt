-- What one line more says, in a trace of either form, and in which file version it is read.
use Rattle.std.proofs.Common.{◌≡◌, ℕ, true, false, eqb, List, [], ◌∷◌, ◌++◌, Option, Some, None, Result, Ok, refl, sym}
use Rattle.std.proofs.Common.{ap, ◌∙◌, ◌⊎◌, inl, inr, arith}
use Rattle.std.specs.Prelude.{◌||◌, is_some, option_and_then, slice_get, unwrap_or}
use Rattle.std.specs.Option.{option_or, option_to_list}
use Rattle.std.specs.Result.{result_ok}
use Rattle.std.specs.List.{filter_map, cons_option, AllByRecursion}
use Rattle.std.proofs.lemmas.Bool.{false≢true}
use Rattle.std.proofs.lemmas.Bool.Decides.{nat_tests}
use Rattle.ht_lines.specs.declared.item.Malformed.{Malformed}
use Rattle.ht_lines.specs.declared.item.Form.{Form}
use Rattle.ht_lines.specs.Content.{Content}
use Rattle.ht_lines.specs.Reading.{reading, reading_kind}
use Rattle.ht_trace.specs.FormContents.{contents, file_version, version_in, version_of, versions}
use Rattle.ht_trace.specs.VersionLines.{may_stand_first}
use Rattle.ht_trace.proofs.Growing.{all-push, filter_map-push, first-push}

-- its first byte is that of a comment or of a version line
pub byte_of : (b : ℕ) → (eqb b 35 || eqb b 118) ≡ true → (b ≡ 35) ⊎ (b ≡ 118)
byte_of b may = grind (arith, nat_tests)

-- a line that may stand before the version line reads alike in each file version
reading-first : (form : Form) (v w : ℕ) (line : List ℕ) → may_stand_first line ≡ true
    → reading form v line ≡ reading form w line
unfolding reading reading_kind
reading-first form v w [] may = absurd (false≢true may)
reading-first form v w (b ∷ rest) may = elim (byte_of b may) [ inl is ↦ rw is refl | inr is ↦ rw is refl ]

-- lines that may stand there
same-readings : (form : Form) (v w : ℕ) (lines : List (List ℕ))
    → AllByRecursion (λ line. may_stand_first line ≡ true) lines
    → filter_map (λ line. result_ok (reading form v line)) lines
    ≡ filter_map (λ line. result_ok (reading form w line)) lines
same-readings form v w [] all = refl
same-readings form v w (line ∷ lines) all =
    ap (λ (read : Result Content Malformed). cons_option (result_ok read)
    (filter_map (λ line. result_ok (reading form v line)) lines)) (reading-first
    form v w line all.0)
    ∙ ap (λ (rest : List Content). cons_option (result_ok (reading form w line)) rest)
    (same-readings form v w lines all.1)

-- how the version and the contents of lines change with one more
pub record Reads (form : Form) (lines : List (List ℕ)) (line : List ℕ) (said : Content) : Type 0 where
  pub version : version_of form (lines ++ line ∷ []) ≡ option_or (version_of form lines) (version_in said)
  pub said_is : contents form (lines ++ line ∷ []) ≡ contents form lines ++ said ∷ []
  pub first : is_some (version_of form (lines ++ line ∷ [])) ≡ false
      → AllByRecursion (λ line. may_stand_first line ≡ true) (lines ++ line ∷ [])

-- the version of lines with one more, where the versions so far are known
version-push : (form : Form) (lines : List (List ℕ)) (line : List ℕ)
    → version_of form (lines ++ line ∷ [])
    ≡ option_or (version_of form lines) (option_and_then version_in (result_ok (reading form 1 line)))
version-push form lines line =
    let version_at = λ (line : List ℕ). option_and_then version_in (result_ok (reading form 1 line)) in
    ap (λ (all : List ℕ). slice_get all 0) (filter_map-push version_at lines line)
    ∙ first-push (versions form lines) (version_at line)

-- what the lines say in a file version, with one more
readings-push : (form : Form) (v : ℕ) (lines : List (List ℕ)) (line : List ℕ) (said : Content)
    → reading form v line ≡ Ok said
    → filter_map (λ line. result_ok (reading form v line)) (lines ++ line ∷ [])
    ≡ filter_map (λ line. result_ok (reading form v line)) lines ++ said ∷ []
readings-push form v lines line said read =
    filter_map-push (λ line. result_ok (reading form v line)) lines line
    ∙ ap (λ (r : Result Content Malformed). filter_map (λ line. result_ok (reading form v line)) lines
    ++ option_to_list (result_ok r)) read

-- after the version line its file version stays
pub reads-later : (form : Form) (version : ℕ) (lines : List (List ℕ)) (line : List ℕ) (said : Content)
    → version_of form lines ≡ Some version → reading form version line ≡ Ok said → Reads form lines line said
reads-later form version lines line said is read =
    let same : version_of form (lines ++ line ∷ []) ≡ Some version =
    version-push form lines line
    ∙ ap (λ (o : Option ℕ). option_or o (option_and_then version_in (result_ok (reading form 1 line)))) is in
    let now : file_version form (lines ++ line ∷ []) ≡ version = ap (λ (o : Option ℕ). unwrap_or o 1) same in
    let before : file_version form lines ≡ version = ap (λ (o : Option ℕ). unwrap_or o 1) is in
    record {
      version = same ∙ sym (ap (λ (o : Option ℕ). option_or o (version_in said)) is);
      said_is =
          ap (λ (v : ℕ). filter_map (λ line. result_ok (reading form v line)) (lines ++ line ∷ [])) now
          ∙ readings-push form version lines line said read
          ∙ ap (λ (v : ℕ). filter_map (λ line. result_ok (reading form v line)) lines ++ said ∷ []) (sym before);
      first = λ none. absurd (false≢true (sym none ∙ ap (λ (o : Option ℕ). is_some o) same));
    }

-- before the version line, and at it, the lines read alike in each file version
pub reads-first : (form : Form) (lines : List (List ℕ)) (line : List ℕ) (said : Content) → version_of form lines ≡ None
    → AllByRecursion (λ line. may_stand_first line ≡ true) lines → may_stand_first line ≡ true
    → reading form 1 line ≡ Ok said → Reads form lines line said
reads-first form lines line said none before may read =
    let all = all-push (λ (line : List ℕ). may_stand_first line ≡ true) lines line before may in
    let one : file_version form lines ≡ 1 = ap (λ (o : Option ℕ). unwrap_or o 1) none in
    let gives =
    ap (λ (r : Result Content Malformed). option_or (version_of form lines)
    (option_and_then version_in (result_ok r))) read in
    record {
      version = version-push form lines line ∙ gives;
      said_is =
          same-readings form (file_version form (lines ++ line ∷ [])) 1 (lines ++ line ∷ []) all
          ∙ readings-push form 1 lines line said read
          ∙ ap (λ (v : ℕ). filter_map (λ line. result_ok (reading form v line)) lines ++ said ∷ []) (sym one);
      first = λ _. all;
    }

-- the line is read in the file version so far, which before the version line may be any
pub reads-by : (form : Form) (version : Option ℕ) (lines : List (List ℕ)) (line : List ℕ) (said : Content)
    → version ≡ version_of form lines
    → (is_some version ≡ false → AllByRecursion (λ line. may_stand_first line ≡ true) lines)
    → (is_some version || may_stand_first line) ≡ true → reading form (unwrap_or version 1) line ≡ Ok said
    → Reads form lines line said
reads-by form None lines line said is first may read = reads-first form lines line said (sym is) (first refl) may read
reads-by form (Some version) lines line said is first may read = reads-later form version lines line said (sym is) read
