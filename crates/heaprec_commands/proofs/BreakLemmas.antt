-- Where the lines of a trace break off: from its first fault to the recordings that begin so.
use Rattle.std.proofs.Common.{◌≡◌, ℕ, suc, ◌+◌, ◌<◌, ◌&&◌, Bool, true, false, cond, true≢false, add-one, List, [], ◌∷◌}
use Rattle.std.proofs.Common.{◌++◌, length, take, drop, Option, None, Some, refl, ap, sym, ◌∙◌, arith, append_assoc}
use Rattle.std.proofs.Common.{append-nil}
use Rattle.std.specs.Prelude.{nat_le, nat_lt}
use Rattle.std.specs.Option.{option_map, option_or}
use Rattle.std.proofs.lemmas.List.{take-append-drop, take_all}
use Rattle.hp_outside.specs.Lines.{lines_of}
use Rattle.command_frame.specs.FirstFault.{Bounds, Refusal, bytes_of_lines, end_refusal, file_fault, first_fault}
use Rattle.command_frame.specs.FirstFault.{input_too_long, is_ended, length_fault, line_faults, line_too_long}
use Rattle.command_frame.specs.Told.{Told, code_of}
use Rattle.command_frame.proofs.Laws.{text_ended}
use Rattle.order_check.specs.Following.{is_front, whole_events}
use Rattle.order_check.specs.FrontLaws.{FrontLaws}
use Rattle.order_check.specs.Fronts.{BreaksOff, IsFront, IsRecording}
use Rattle.record_book.specs.Spelled.{spelled}
use Rattle.record_scripts.specs.Job.{Job}
use Rattle.heaprec_commands.specs.CheckReport.{check_report, end_told, not_a_recording}

-- a fault of a length is past a limit
length_status : (bounds : Bounds) (total before line : ℕ) (told : Told)
    → length_fault bounds total before line ≡ Some told → code_of told.status ≡ 6
length_status bounds total before line told is =
    by (nat_lt bounds.line line && nat_le (before + bounds.line + 1) bounds.input)
    (nat_lt bounds.input total && nat_le bounds.input (before + line)) is
  where
    by : (long past : Bool) → cond long (Some line_too_long) (cond past (Some input_too_long) None) ≡ Some told
        → code_of told.status ≡ 6
    by true past is = let same : line_too_long ≡ told = cc in ap (λ (t : Told). code_of t.status) (sym same)
    by false true is = let same : input_too_long ≡ told = cc in ap (λ (t : Told). code_of t.status) (sym same)
    by false false is = absurd (cc)

-- of lines behind others: so many are followed, and the refused one is the first that isn't
record IsFirst (job : Job) (earlier lines : List (List ℕ)) (number : ℕ) (refusal : Refusal) : Type 0 where
  count : ℕ
  number_is : refusal.number ≡ number + count
  told_is : refusal.told ≡ not_a_recording
  within : count < length lines
  front : is_front job (earlier ++ take count lines) ≡ true
  no_front : is_front job (earlier ++ take (suc count) lines) ≡ false

-- a first fault that isn't one of a length
first_refused : (bounds : Bounds) (job : Job) (total number : ℕ) (earlier lines : List (List ℕ)) (refusal : Refusal)
    → is_front job earlier ≡ true
    → first_fault number (line_faults bounds (check_report job) total earlier lines) ≡ Some refusal
    → code_of refusal.told.status ≡ 1 → IsFirst job earlier lines number refusal
first_refused bounds job total number earlier [] refusal front is one = absurd (cc)
first_refused bounds job total number earlier (line ∷ lines) refusal front is one =
    by (length_fault bounds total (bytes_of_lines earlier) (length line)) refl (is_front job (earlier ++ line ∷ []))
    refl is
    (λ next is. first_refused bounds job total (number + 1) (earlier ++ line ∷ []) lines refusal next is one)
  where
    by : (long : Option Told) → length_fault bounds total (bytes_of_lines earlier) (length line) ≡ long → (test : Bool)
        → is_front job (earlier ++ line ∷ []) ≡ test
        → first_fault number
        (option_or long (cond test None (Some not_a_recording))
        ∷ line_faults bounds (check_report job) total (earlier ++ line ∷ []) lines)
        ≡ Some refusal
        → (is_front job (earlier ++ line ∷ []) ≡ true
        → first_fault (number + 1) (line_faults bounds (check_report job) total (earlier ++ line ∷ []) lines)
        ≡ Some refusal
        → IsFirst job (earlier ++ line ∷ []) lines (number + 1) refusal)
        → IsFirst job earlier (line ∷ lines) number refusal
    by (Some told) l test t is next =
        let same : record { number = number; told = told } ≡ refusal = cc in
        let six = length_status bounds total (bytes_of_lines earlier) (length line) told l in
        let code : code_of told.status ≡ code_of refusal.told.status =
        ap (λ (r : Refusal). code_of r.told.status) same in
        absurd (omega (arith, one, six, code))
    by None l true t is next =
        let rest = next t is in
        let at = rest.number_is in
        let below = rest.within in
        record {
          count = suc rest.count;
          number_is = omega (arith, at);
          told_is = rest.told_is;
          within = omega (arith, below);
          front = ap (is_front job) (sym (append_assoc earlier (line ∷ []) (take rest.count lines))) ∙ rest.front;
          no_front =
              ap (is_front job) (sym (append_assoc earlier (line ∷ []) (take (suc rest.count) lines))) ∙ rest.no_front;
        }
    by None l false t is next =
        let same : record { number = number; told = not_a_recording } ≡ refusal = cc in
        let at : number ≡ refusal.number = ap (λ (r : Refusal). r.number) same in
        record {
          count = 0;
          number_is = omega (arith, at);
          told_is = ap (λ (r : Refusal). r.told) (sym same);
          within = omega arith;
          front = ap (is_front job) (append-nil earlier) ∙ front;
          no_front = t;
        }

-- lines without a fault
all_front : (bounds : Bounds) (job : Job) (total number : ℕ) (earlier lines : List (List ℕ))
    → is_front job earlier ≡ true
    → first_fault number (line_faults bounds (check_report job) total earlier lines) ≡ None
    → is_front job (earlier ++ lines) ≡ true
all_front bounds job total number earlier [] front none = ap (is_front job) (append-nil earlier) ∙ front
all_front bounds job total number earlier (line ∷ lines) front none =
    by (length_fault bounds total (bytes_of_lines earlier) (length line)) (is_front job (earlier ++ line ∷ [])) refl
    none
    (λ next none. all_front bounds job total (number + 1) (earlier ++ line ∷ []) lines next none)
  where
    by : (long : Option Told) (test : Bool) → is_front job (earlier ++ line ∷ []) ≡ test
        → first_fault number
        (option_or long (cond test None (Some not_a_recording))
        ∷ line_faults bounds (check_report job) total (earlier ++ line ∷ []) lines)
        ≡ None
        → (is_front job (earlier ++ line ∷ []) ≡ true
        → first_fault (number + 1) (line_faults bounds (check_report job) total (earlier ++ line ∷ []) lines) ≡ None
        → is_front job ((earlier ++ line ∷ []) ++ lines) ≡ true)
        → is_front job (earlier ++ line ∷ lines) ≡ true
    by (Some told) test t none next = absurd (cc)
    by None false t none next = absurd (cc)
    by None true t none next = ap (is_front job) (sym (append_assoc earlier (line ∷ []) lines)) ∙ next t none

-- a recording begins with each front of its lines
recording_front : (job : Job) (bytes : List ℕ) (count : ℕ) → IsRecording job bytes
    → IsFront job (take count (lines_of bytes))
recording_front job bytes count recording = (
  spelled bytes,
  recording.all.under,
  (drop count (lines_of bytes), ap lines_of (sym recording.trace) ∙ sym (take-append-drop count (lines_of bytes))),
)

-- a file's lines break off where it is refused, unless that is for a length
pub record IsBroken (job : Job) (bytes : List ℕ) (refusal : Refusal) : Type 0 where
  pub count : ℕ
  pub number_is : refusal.number ≡ count + 1
  pub told_is : refusal.told ≡ not_a_recording
  pub breaks : BreaksOff job bytes count

pub broken : (bounds : Bounds) (job : Job) (bytes : List ℕ) (refusal : Refusal) → FrontLaws job
    → file_fault bounds (check_report job) bytes ≡ Some refusal → code_of refusal.told.status ≡ 1
    → IsBroken job bytes refusal
broken bounds job bytes refusal laws is one =
    by (first_fault 1 (line_faults bounds (check_report job) (length bytes) [] (lines_of bytes))) refl is
  where
    ended : Bool
    ended = is_ended (length bytes) (lines_of bytes)

    at_line : IsFirst job [] (lines_of bytes) 1 refusal → IsBroken job bytes refusal
    at_line at =
        let number = at.number_is in
        let below = at.within in
        let no_front : ¬ (IsFront job (take (at.count + 1) (lines_of bytes))) =
        λ front. true≢false
        (sym ((laws.first bytes (at.count + 1)).1 front)
        ∙ (ap (λ (n : ℕ). is_front job (take n (lines_of bytes))) (add-one at.count) ∙ at.no_front)) in
        record {
          count = at.count;
          number_is = omega (arith, number);
          told_is = at.told_is;
          breaks = record {
            within = omega (arith, below);
            front = (laws.first bytes at.count).0 at.front;
            no_front = λ less. no_front;
            no_recording = λ recording. no_front (recording_front job bytes (at.count + 1) recording);
          };
        }

    at_end : first_fault 1 (line_faults bounds (check_report job) (length bytes) [] (lines_of bytes)) ≡ None
        → (found : Option ℕ) → whole_events job (lines_of bytes) ended ≡ found
        → option_map {U = Refusal} (λ told. record { number = length (lines_of bytes) + 1; told = told })
        (end_told found)
        ≡ Some refusal
        → IsBroken job bytes refusal
    at_end none (Some events) whole is = absurd (cc)
    at_end none None whole is =
        let same : record { number = length (lines_of bytes) + 1; told = not_a_recording } ≡ refusal = cc in
        record {
          count = length (lines_of bytes);
          number_is = ap (λ (r : Refusal). r.number) (sym same);
          told_is = ap (λ (r : Refusal). r.told) (sym same);
          breaks = record {
            within = omega arith;
            front = (laws.first bytes (length (lines_of bytes))).0
                (ap (is_front job) (take_all (length (lines_of bytes)) (lines_of bytes) (omega arith))
                ∙ all_front bounds job (length bytes) 1 [] (lines_of bytes) refl none);
            no_front = λ less. absurd (omega (arith, less));
            no_recording = λ recording.
                let found =
                laws.only bytes ended (λ cut text. true≢false (sym (text_ended bytes text) ∙ cut)) recording in
                let both : None ≡ Some (length (spelled bytes)) = sym whole ∙ found in
                absurd (cc);
          };
        }

    by : (found : Option Refusal)
        → first_fault 1 (line_faults bounds (check_report job) (length bytes) [] (lines_of bytes)) ≡ found
        → option_or found (end_refusal (check_report job) (length bytes) (lines_of bytes)) ≡ Some refusal
        → IsBroken job bytes refusal
    by (Some first) f is =
        let same : first ≡ refusal =
        cc in at_line
        (first_refused bounds job (length bytes) 1 [] (lines_of bytes) refusal refl (f ∙ ap Some same) one)
    by None f is = at_end f (whole_events job (lines_of bytes) ended) refl is
