-- Tables that grow: what is held stays.
use Rattle.std.proofs.Common.{◌≡◌, ℕ, zero, suc, ◌-◌, ◌<◌, ◌≤◌, Bool, false, cond, eqb, List, [], ◌∷◌, ◌++◌, length}
use Rattle.std.proofs.Common.{Option, Some, None, refl, sym, ap, ◌∙◌, arith, subst, ◌⊎◌, inl, inr, append-nil}
use Rattle.std.proofs.Common.{append_assoc}
use Rattle.std.specs.Prelude.{◌==◌, if◌then◌else◌, codes, decimal, option_and_then, slice_get, unwrap_or}
use Rattle.std.specs.Option.{option_map, option_or, option_to_list}
use Rattle.std.specs.List.{AllByRecursion}
use Rattle.std.specs.Prelude.{Result, Ok, Err, IfErr, IfOk, OnOk, OnErr}
use Rattle.std.proofs.lemmas.Bool.{cases_lt}
use Rattle.std.proofs.lemmas.Bool.Decides.{nat_tests}
use Rattle.std.proofs.lemmas.Option.{same_Some, slice_get_past}
use Rattle.ht_lines.specs.Content.{Content, version_line, command_line, string_line, instruction_line, node_line}
use Rattle.ht_lines.specs.Content.{info_line, suppression_line}
use Rattle.hp_num.proofs.Laws.{slice_get-front}
use Rattle.stack_table.proofs.Laws as nodes
use Rattle.ht_trace.specs.declared.frame.Frame.{Frame}
use Rattle.ht_trace.specs.declared.frame.FrameAt.{FrameAt}
use Rattle.ht_trace.specs.declared.frame.FrameFound.{FrameFound}
use Rattle.ht_trace.specs.declared.frame.Style.{Style}
use Rattle.ht_trace.specs.Continues.{Continues, Extends, IsGrown}
use Rattle.ht_trace.specs.FrameText.{address_text, frame_at, frame_of, frame_text, found_text, function_at, in_module}
use Rattle.ht_trace.specs.FrameText.{no_name, string_at, text_at, text_of}
use Rattle.ht_trace.specs.declared.error.LineError.{LineError}
use Rattle.ht_trace.specs.declared.step.Step.{Step}
use Rattle.ht_trace.specs.FramesSaid.{frames_said}
use Rattle.ht_trace.specs.Instruction.{Instruction, frame_count_of}
use Rattle.ht_trace.specs.Pattern.{pattern_of}
use Rattle.ht_trace.specs.IsFrame.{IsFrame, place_count}
use Rattle.ht_trace.specs.Sound.{IsNamed, IsSound}
use Rattle.ht_trace.specs.StackFrames.{stack_frames}
use Rattle.ht_trace.specs.StateAfter.{Refuses, Takes, state_after}
use Rattle.ht_trace.specs.TableState.{TableState}
use Rattle.ht_trace.proofs.StackLemmas.{frame_count_of-more, stack_frames-more, stack_frames-stay}

-- what holds of each element holds of one that is found
pub all-at : {X : Type 0} (P : X → Type 0) (xs : List X) (k : ℕ) (x : X) → AllByRecursion P xs → slice_get xs k ≡ Some x
    → P x
all-at P [] k x all is = absurd (grind (arith, is))
all-at P (y ∷ ys) zero x all is = subst P (same_Some y x is) all.0
all-at P (y ∷ ys) (suc k) x all is = all-at P ys k x all.1 is

-- a string that is held stays
string_at-more : (strings more : List (List ℕ)) (n : ℕ) → n ≤ length strings
    → string_at (strings ++ more) n ≡ string_at strings n
string_at-more strings more zero within = refl
string_at-more strings more (suc n) within =
    grind (arith, nat_tests, slice_get-front strings more (suc n - 1) (omega arith))

-- a held instruction's frames stay
frame_at-more : (held more : List Instruction) (n index : ℕ) → n ≤ length held
    → frame_at (held ++ more) (record { instruction = n; index = index })
    ≡ frame_at held (record { instruction = n; index = index })
frame_at-more held more zero index within = refl
frame_at-more held more (suc n) index within =
    ap (λ (found : Option Instruction). cond (eqb (suc n) 0) None
    (option_and_then (λ instruction. frame_of instruction index) found)) (slice_get-front
    held more (suc n - 1) (omega arith))

place_count-more : (held more : List Instruction) (n : ℕ) → n ≤ length held
    → place_count (held ++ more) n ≡ place_count held n
place_count-more held more n within =
    ap (λ (count : Option ℕ). cond {A = ℕ} (eqb n 0) 2 (unwrap_or count 0)) (frame_count_of-more held more n within)

-- the instruction of a frame is held
pub frame-held : (held : List Instruction) (n index : ℕ) → index < place_count held n → n ≤ length held
frame-held held zero index within = omega arith
frame-held held (suc n) index within = by (cases_lt (length held) (suc n))
  where
    by : (length held < suc n) ⊎ (suc n ≤ length held) → suc n ≤ length held
    by (inl past) =
        let none = slice_get_past held (suc n - 1) (omega arith) in
        let count : place_count held (suc n) ≡ 0 = grind (arith, nat_tests, none) in
        absurd (omega (arith, within, count))
    by (inr here) = here

-- the strings that a frame names are held
pub record IsNamedFound (string_count : ℕ) (found : FrameFound) : Type 0 where
  pub function_held : found.frame.function ≤ string_count
  pub file_held : found.frame.file ≤ string_count
  pub module_held : found.module_string ≤ string_count

named-frame : (count index : ℕ) (instruction : Instruction) (frame : Option Frame) (found : FrameFound)
    → IsNamed count instruction → slice_get instruction.frames index ≡ frame
    → option_map (λ frame. record { ip = instruction.ip; module_string = instruction.module_string; frame = frame })
    frame
    ≡ Some found
    → IsNamedFound count found
named-frame count index instruction None found named at is = absurd (grind (arith, is))
named-frame count index instruction (Some frame) found named at is =
    let held =
    all-at (λ (frame : Frame). (frame.function ≤ count) × (frame.file ≤ count)) instruction.frames index frame
    named.frames_held at in
    subst (λ (x : FrameFound). IsNamedFound count x) (same_Some _ found is)
    (record { function_held = held.0; file_held = held.1; module_held = named.module_held })

named-instruction : (count index : ℕ) (o : Option Instruction) (found : FrameFound)
    → ((instruction : Instruction) → o ≡ Some instruction → IsNamed count instruction)
    → option_and_then (λ instruction. frame_of instruction index) o ≡ Some found → IsNamedFound count found
named-instruction count index None found named is = absurd (grind (arith, is))
named-instruction count index (Some instruction) found named is =
    named-frame count index instruction (slice_get instruction.frames index) found (named instruction refl) refl is

pub named-found : (count : ℕ) (held : List Instruction) (n index : ℕ) (found : FrameFound)
    → AllByRecursion (IsNamed count) held → frame_at held (record { instruction = n; index = index }) ≡ Some found
    → IsNamedFound count found
named-found count held zero index found named is = absurd (grind (arith, is))
named-found count held (suc n) index found named is =
    let some : eqb (suc n) 0 ≡ false = grind (arith, nat_tests) in
    let own = option_and_then (λ instruction. frame_of instruction index) (slice_get held (suc n - 1)) in
    named-instruction count index (slice_get held (suc n - 1)) found
    (λ instruction at. all-at (IsNamed count) held (suc n - 1) instruction named at)
    (subst (λ (b : Bool). cond b None own ≡ Some found) some is)

-- the text of a frame, from those of its strings
abbrev text_with : Style → FrameFound → List ℕ → List ℕ → List ℕ → List ℕ
text_with style found function file named =
    address_text style found.ip
    ++ ((if found.frame.function == 0 then no_name style found.ip else function)
    ++ (if found.frame.file == 0
    then (if found.module_string == 0 then [] else in_module style named)
    else codes " (" ++ (file ++ (codes ":" ++ (decimal found.frame.line ++ codes ")")))))

found_text-more : (style : Style) (strings more : List (List ℕ)) (found : FrameFound)
    → IsNamedFound (length strings) found → found_text style (strings ++ more) found ≡ found_text style strings found
found_text-more style strings more found named =
    let same =
    λ (n : ℕ) (within : n ≤ length strings). ap (λ (text : Option (List ℕ)). unwrap_or text [])
    (string_at-more strings more n within) in
    let all = strings ++ more in
    ap (λ (text : List ℕ). text_with style found text (text_at all found.frame.file) (text_at all found.module_string))
    (same found.frame.function named.function_held)
    ∙ ap (λ (text : List ℕ). text_with style found (text_at strings found.frame.function) text
    (text_at all found.module_string)) (same
    found.frame.file named.file_held)
    ∙ ap (λ (text : List ℕ). text_with style found (text_at strings found.frame.function)
    (text_at strings found.frame.file) text) (same
    found.module_string named.module_held)

text_of-more : (style : Style) (strings more : List (List ℕ)) (index : ℕ) (o : Option FrameFound)
    → ((found : FrameFound) → o ≡ Some found → IsNamedFound (length strings) found)
    → text_of style (strings ++ more) index o ≡ text_of style strings index o
text_of-more style strings more index None named = refl
text_of-more style strings more index (Some found) named = found_text-more style strings more found (named found refl)

function_of-more : (strings more : List (List ℕ)) (o : Option FrameFound)
    → ((found : FrameFound) → o ≡ Some found → IsNamedFound (length strings) found)
    → option_and_then (λ found. string_at (strings ++ more) found.frame.function) o
    ≡ option_and_then (λ found. string_at strings found.frame.function) o
function_of-more strings more None named = refl
function_of-more strings more (Some found) named =
    let held = named found refl in string_at-more strings more found.frame.function held.function_held

-- tables that have grown have the frames and texts of those before
pub continues-grown : (old new : TableState)
    → IsSound old.version (length old.strings) old.instructions old.nodes old.infos → IsGrown old new
    → Continues old new
unfolding frame_text function_at
continues-grown old new sound grown = record {
  grown = grown;
  held = grown.nodes.held;
  frames = λ n within.
      let stack = sound.stacks n within in
      ap (λ (held : List Instruction). stack_frames held new.nodes n) grown.instructions.1
      ∙ stack_frames-stay (old.instructions ++ grown.instructions.0) old.nodes new.nodes n (grown.nodes.stacks n within)
      ∙ stack_frames-more old.instructions grown.instructions.0 old.nodes n stack.held;
  places = λ at is.
      subst (λ (held : List Instruction). at.index < place_count held at.instruction) (sym grown.instructions.1) (
      subst (λ (count : ℕ). at.index < count)
      (sym (place_count-more old.instructions grown.instructions.0 at.instruction
      (frame-held old.instructions at.instruction at.index is)))
      is
      );
  texts = λ style at is.
      ap (λ (strings : List (List ℕ)). text_of style strings at.index (frame_at new.instructions at)) grown.strings.1
      ∙ ap (λ (found : Option FrameFound). text_of style (old.strings ++ grown.strings.0) at.index found) (same at is)
      ∙ text_of-more style old.strings grown.strings.0 at.index (frame_at old.instructions at)
      (λ found here. named-found (length old.strings) old.instructions at.instruction at.index found sound.named here);
  functions = λ at is.
      ap (λ (strings : List (List ℕ)). option_and_then (λ found. string_at strings found.frame.function)
      (frame_at new.instructions at)) grown.strings.1
      ∙ ap (λ (found : Option FrameFound). option_and_then
      (λ found. string_at (old.strings ++ grown.strings.0) found.frame.function) found) (same
      at is)
      ∙ function_of-more old.strings grown.strings.0 (frame_at old.instructions at)
      (λ found here. named-found (length old.strings) old.instructions at.instruction at.index found sound.named here);
}
  where
    same : (at : FrameAt) → IsFrame old at → frame_at new.instructions at ≡ frame_at old.instructions at
    same at is =
        ap (λ (held : List Instruction). frame_at held at) grown.instructions.1
        ∙ frame_at-more old.instructions grown.instructions.0 at.instruction at.index
        (frame-held old.instructions at.instruction at.index is)

-- a list that stays, and one with more
pub extends-same : {X : Type 0} (xs : List X) → Extends xs xs
extends-same xs = ([], sym (append-nil xs))

pub extends-trans : {X : Type 0} (xs ys zs : List X) → Extends xs ys → Extends ys zs → Extends xs zs
extends-trans xs ys zs one two =
    (one.0 ++ two.0, two.1 ∙ ap (λ front. front ++ two.0) one.1 ∙ append_assoc xs one.0 two.0)

-- tables continue themselves
pub grown-same : (tables : TableState) → IsGrown tables tables
grown-same tables = record {
  version = λ version is. is;
  command = λ text is. is;
  strings = extends-same tables.strings;
  instructions = extends-same tables.instructions;
  nodes = nodes.Continues-refl tables.nodes;
  infos = extends-same tables.infos;
  patterns = extends-same tables.patterns;
}

pub continues-same : (tables : TableState) → Continues tables tables
continues-same tables = record {
  grown = grown-same tables;
  held = omega arith;
  frames = λ n within. refl;
  places = λ at is. is;
  texts = λ style at is. refl;
  functions = λ at is. refl;
}

-- and what continues tables that continue others continues those
pub continues-trans : (first second third : TableState) → Continues first second → Continues second third
    → Continues first third
continues-trans first second third one two = record {
  grown = record {
    version = λ version is. two.grown.version version (one.grown.version version is);
    command = λ text is. two.grown.command text (one.grown.command text is);
    strings = extends-trans first.strings second.strings third.strings one.grown.strings two.grown.strings;
    instructions =
        extends-trans first.instructions second.instructions third.instructions one.grown.instructions
        two.grown.instructions;
    nodes = nodes.Continues-trans first.nodes second.nodes third.nodes one.grown.nodes two.grown.nodes;
    infos = extends-trans first.infos second.infos third.infos one.grown.infos two.grown.infos;
    patterns = extends-trans first.patterns second.patterns third.patterns one.grown.patterns two.grown.patterns;
  };
  held = omega (arith, one.held, two.held);
  frames = λ n within. two.frames n (omega (arith, one.held)) ∙ one.frames n within;
  places = λ at is. two.places at (one.places at is);
  texts = λ style at is. two.texts style at (one.places at is) ∙ one.texts style at is;
  functions = λ at is. two.functions at (one.places at is) ∙ one.functions at is;
}

first-stays : {X : Type 0} (o : Option X) (x y : X) → o ≡ Some x → option_or o (Some y) ≡ Some x
first-stays o x y is = ap (λ found. option_or found (Some y)) is

-- what a line says is added at the end of one list
pub grown-after : (old : TableState) (said : Content) → IsGrown old (state_after old said)
grown-after old (version_line heaptrack file) =
    let same = grown-same old in
    record {
      version = λ version is. first-stays old.version version file is;
      command = same.command;
      strings = same.strings;
      instructions = same.instructions;
      nodes = same.nodes;
      infos = same.infos;
      patterns = same.patterns;
    }
grown-after old (command_line bytes) =
    let same = grown-same old in
    record {
      version = same.version;
      command = λ text is. first-stays old.command text bytes is;
      strings = same.strings;
      instructions = same.instructions;
      nodes = same.nodes;
      infos = same.infos;
      patterns = same.patterns;
    }
grown-after old (string_line bytes) =
    let same = grown-same old in
    record {
      version = same.version;
      command = same.command;
      strings = (bytes ∷ [], refl);
      instructions = same.instructions;
      nodes = same.nodes;
      infos = same.infos;
      patterns = same.patterns;
    }
grown-after old (instruction_line ip module_string numbers) =
    let same = grown-same old in
    record {
      version = same.version;
      command = same.command;
      strings = same.strings;
      instructions = (record { ip = ip; module_string = module_string; frames = frames_said numbers } ∷ [], refl);
      nodes = same.nodes;
      infos = same.infos;
      patterns = same.patterns;
    }
grown-after old (node_line instruction parent) =
    let same = grown-same old in
    record {
      version = same.version;
      command = same.command;
      strings = same.strings;
      instructions = same.instructions;
      nodes =
          nodes.Continues-push old.nodes
          (record {
            ip = instruction;
            parent = parent;
            frames = unwrap_or (frame_count_of old.instructions instruction) 0;
          });
      infos = same.infos;
      patterns = same.patterns;
    }
grown-after old (info_line size trace) =
    let same = grown-same old in
    record {
      version = same.version;
      command = same.command;
      strings = same.strings;
      instructions = same.instructions;
      nodes = same.nodes;
      infos = (record { stack = trace; size = size } ∷ [], refl);
      patterns = same.patterns;
    }
grown-after old (suppression_line bytes) =
    let same = grown-same old in
    record {
      version = same.version;
      command = same.command;
      strings = same.strings;
      instructions = same.instructions;
      nodes = same.nodes;
      infos = same.infos;
      patterns = (option_to_list (pattern_of bytes), refl);
    }
grown-after old _ = grown-same old

-- an answer to a line, whichever it is, leaves tables that continue those before
pub continues-answer : (old new : TableState) (said : Content) (answer : Result Step LineError)
    → IsSound old.version (length old.strings) old.instructions old.nodes old.infos
    → IfOk answer (λ step. Takes old said step new) → IfErr answer (λ error. Refuses old said error new)
    → Continues old new
continues-answer old new said (Ok step) sound takes refuses =
    subst (λ (tables : TableState). Continues old tables) (sym takes.added)
    (continues-grown old (state_after old said) sound (grown-after old said))
continues-answer old new said (Err error) sound takes refuses =
    subst (λ (tables : TableState). Continues old tables) (sym refuses.unchanged) (continues-same old)

-- so does one to a suppression
pub continues-pattern : (old : TableState) (patterns more : List (List ℕ)) (answer : Result (Unit {0}) LineError)
    → IsSound old.version (length old.strings) old.instructions old.nodes old.infos
    → OnOk answer (patterns ≡ old.patterns ++ more) → OnErr answer (patterns ≡ old.patterns)
    → Continues old (record old { patterns = patterns })
continues-pattern old patterns more answer sound added unchanged =
    continues-grown old (record old { patterns = patterns }) sound grown
  where
    extends : (answer : Result (Unit {0}) LineError) → OnOk answer (patterns ≡ old.patterns ++ more)
        → OnErr answer (patterns ≡ old.patterns) → Extends old.patterns patterns
    extends (Ok done) added unchanged = (more, added)
    extends (Err error) added unchanged = ([], unchanged ∙ sym (append-nil old.patterns))

    grown : IsGrown old (record old { patterns = patterns })
    grown =
        let same = grown-same old in
        record {
          version = same.version;
          command = same.command;
          strings = same.strings;
          instructions = same.instructions;
          nodes = same.nodes;
          infos = same.infos;
          patterns = extends answer added unchanged;
        }
